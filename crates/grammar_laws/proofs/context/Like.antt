-- The same tokens under other goals and contexts: what a relation asks of tokens holds of both.
use Rattle.std.proofs.Common.{◌≡◌, ◌<◌, ℕ, Bool, true, false, not, ◌||◌, ◌==◌, eqb, leb, if◌then◌else◌, List, [], ◌∷◌, refl, sym, ap, ◌∙◌, subst}
use Rattle.base_token.specs.declared.context.Context.{Context}
use Rattle.base_token.specs.Kinds.{right_brace_kind, regex_kind, div_kind, div_assign_kind, case_kind, default_kind}
use Rattle.base_token.specs.Tokens.{Spot}
use Rattle.tree_spec.specs.Tree.{Tree}
use Rattle.grammar_spec.specs.Tokens.Input.{PlacedToken, Input, Code, kind_of, break_of, content_of, escaped_of, others, hi_of, lo_of, kind, kind2, brk, brk2, content, text, text_in, lo, hi, rest, div_goal, regexp_goal, usual, no_context, Only, Takes, TakesWord, TakesAnyWord, TakesName, TakesIn, Stands, barred, judged, no_name, is_word}
use Rattle.grammar_spec.specs.Tokens.Operators.{goes_expr, pauses, other_end, call_level}
use Rattle.grammar_spec.specs.Tokens.Shape.{field_end}
use Rattle.grammar_spec.specs.Statements.{starts_expression_statement, statement_end, starts_head, starts_of, starts_using, starts_pattern}
use Rattle.grammar_spec.specs.Modules.{starts_default}
use Rattle.grammar_laws.specs.Context.Laws.{SameToken, placing}
use Rattle.grammar_laws.proofs.context.Kin.{Kin}

module _ (p : Bool) where
  -- a place that stands under no goal and in no context of its own, where these aren't judged
  abbrev pub Bare : PlacedToken → Type 0
  Bare y = Only (not p) ((y.goal ≡ div_goal) × (y.context ≡ no_context))

  abbrev pub Worn : List PlacedToken → List PlacedToken → Type 0
  Worn [] [] = Unit {0}
  Worn (x ∷ xs) (y ∷ ys) = SameToken x y × Bare y × Worn xs ys
  Worn _ _ = ⊥

  pub record Like (a b : Input) : Type 0 where
    pub last : a.last ≡ b.last
    pub worn : Worn a.places b.places

  -- what produces one list produces the other, up to any such rest
  abbrev Moves : (Input → Input → Type 0) → (Input → Input → Type 0) → Type 0
  Moves P Q = (ts r q : Input) → P ts r → Like r q → (o : Input) × Like ts o × Q o q

  -- ---- what is seen of tokens

  kinds : (xs ys : List PlacedToken) → Worn xs ys → kind_of xs ≡ kind_of ys
  kinds [] [] w = refl
  kinds [] (y ∷ ys) w = absurd w
  kinds (x ∷ xs) [] w = absurd w
  kinds (x ∷ xs) (y ∷ ys) w = ap (λ (s : Spot). s.token.kind) w.0.0

  breaks : (xs ys : List PlacedToken) → Worn xs ys → break_of xs ≡ break_of ys
  breaks [] [] w = refl
  breaks [] (y ∷ ys) w = absurd w
  breaks (x ∷ xs) [] w = absurd w
  breaks (x ∷ xs) (y ∷ ys) w = ap (λ (s : Spot). s.line_break) w.0.0

  contents : (xs ys : List PlacedToken) → Worn xs ys → content_of xs ≡ content_of ys
  contents [] [] w = refl
  contents [] (y ∷ ys) w = absurd w
  contents (x ∷ xs) [] w = absurd w
  contents (x ∷ xs) (y ∷ ys) w = ap (λ (s : Spot). s.token.content) w.0.0

  los : (n : ℕ) (xs ys : List PlacedToken) → Worn xs ys → lo_of n xs ≡ lo_of n ys
  los n [] [] w = refl
  los n [] (y ∷ ys) w = absurd w
  los n (x ∷ xs) [] w = absurd w
  los n (x ∷ xs) (y ∷ ys) w = ap (λ (s : Spot). s.lo) w.0.0

  his : (n : ℕ) (xs ys : List PlacedToken) → Worn xs ys → hi_of n xs ≡ hi_of n ys
  his n [] [] w = refl
  his n [] (y ∷ ys) w = absurd w
  his n (x ∷ xs) [] w = absurd w
  his n (x ∷ xs) (y ∷ ys) w = ap (λ (s : Spot). s.hi) w.0.0

  rests : (xs ys : List PlacedToken) → Worn xs ys → Worn (others xs) (others ys)
  rests [] [] w = tt
  rests [] (y ∷ ys) w = absurd w
  rests (x ∷ xs) [] w = absurd w
  rests (x ∷ xs) (y ∷ ys) w = w.2

  pub kind_like : (a b : Input) → Like a b → kind a ≡ kind b
  kind_like a b l = kinds a.places b.places l.worn

  pub brk_like : (a b : Input) → Like a b → brk a ≡ brk b
  brk_like a b l = breaks a.places b.places l.worn

  kind2_like : (a b : Input) → Like a b → kind2 a ≡ kind2 b
  kind2_like a b l = kinds (others a.places) (others b.places) (rests a.places b.places l.worn)

  brk2_like : (a b : Input) → Like a b → brk2 a ≡ brk2 b
  brk2_like a b l = breaks (others a.places) (others b.places) (rests a.places b.places l.worn)

  pub content_like : (a b : Input) → Like a b → content a ≡ content b
  content_like a b l = contents a.places b.places l.worn

  pub lo_like : (a b : Input) → Like a b → lo a ≡ lo b
  lo_like a b l = los a.last a.places b.places l.worn ∙ ap (λ (n : ℕ). lo_of n b.places) l.last

  pub hi_like : (a b : Input) → Like a b → hi a ≡ hi b
  hi_like a b l = his a.last a.places b.places l.worn ∙ ap (λ (n : ℕ). hi_of n b.places) l.last

  rest_like : (a b : Input) → Like a b → Like (rest a) (rest b)
  rest_like a b l = record { last = hi_like a b l; worn = rests a.places b.places l.worn }

  -- ---- what is asked of them

  pub goes_like : (c : Code) (e : ℕ) (a b : Input) → Like a b → goes_expr c e a ≡ goes_expr c e b
  goes_like c e a b l = rw (kind_like a b l) (rw (brk_like a b l) (rw (kind2_like a b l) refl))

  pub pauses_like : (c : Code) (e : ℕ) (a b : Input) → Like a b → pauses c e a ≡ pauses c e b
  pauses_like c e a b l = rw (kind_like a b l) (rw (brk_like a b l) (rw (kind2_like a b l) refl))

  pub begins_like : (a b : Input) → Like a b → starts_expression_statement a ≡ starts_expression_statement b
  begins_like a b l = rw (kind_like a b l) (rw (brk2_like a b l) (rw (kind2_like a b l) refl))

  pub ended_like : (c : Code) (t : Tree) (a b : Input) → Like a b → statement_end c a t ≡ statement_end c b t
  ended_like c t a b l = rw (kind_like a b l) refl

  pub head_like : (a b : Input) → Like a b → starts_head a ≡ starts_head b
  head_like a b l = rw (kind_like a b l) (rw (kind2_like a b l) refl)

  pub of_like : (w : Bool) (a b : Input) → Like a b → starts_of w a ≡ starts_of w b
  of_like w a b l = rw (kind_like a b l) (rw (kind2_like a b l) refl)

  pub using_like : (w : Bool) (a b : Input) → Like a b → starts_using w a ≡ starts_using w b
  using_like true a b l = rw (kind2_like (rest a) (rest b) (rest_like a b l)) refl
  using_like false a b l = rw (kind2_like a b l) refl

  pub default_like : (a b : Input) → Like a b → starts_default a ≡ starts_default b
  default_like a b l = rw (kind_like a b l) (rw (brk2_like a b l) (rw (kind2_like a b l) refl))

  -- ---- tokens

  abbrev dress : Bool → ℕ → Context → PlacedToken → PlacedToken
  dress b g d x = record x { goal = if b then g else div_goal; context = if b then d else no_context }

  bared : (b : Bool) (g : ℕ) (d : Context) → Only (not b) (((if b then g else div_goal) ≡ div_goal) × ((if b then d else no_context) ≡ no_context))
  bared true g d = tt
  bared false g d = (refl, refl)

  -- the goal of a token outside the characters of a template
  abbrev own_goal : ℕ → ℕ
  own_goal k = if k == regex_kind then regexp_goal else div_goal

  own_usual : (k : ℕ) → usual k (own_goal k) ≡ true
  own_usual k = ruled (eqb k regex_kind) (eqb k div_kind || eqb k div_assign_kind)
    where
      ruled : (a b : Bool) → (if a then (if a then regexp_goal else div_goal) == regexp_goal else (if b then (if a then regexp_goal else div_goal) == div_goal else leb (if a then regexp_goal else div_goal) regexp_goal)) ≡ true
      ruled true b = refl
      ruled false true = refl
      ruled false false = refl

  only : (b : Bool) (P : Type 0) → P → Only b P
  only true P h = h
  only false P h = tt

  abbrev inp : ℕ → List PlacedToken → Input
  inp n xs = record { last = n; places = xs }

  -- where the rest goes on from
  on : (n : ℕ) (r q : Input) → n ≡ r.last → Like r q → inp n q.places ≡ q
  on n r q e l = ap (λ (m : ℕ). inp m q.places) (e ∙ l.last)

  nothing : (ys : List PlacedToken) → Worn [] ys → [] ≡ ys
  nothing [] w = refl
  nothing (y ∷ ys) w = absurd w

  on_end : (n : ℕ) (r q : Input) → inp n [] ≡ r → Like r q → inp n [] ≡ q
  on_end n r q e l = ap (λ (m : ℕ). inp m []) (ap (λ (z : Input). z.last) e ∙ l.last) ∙ ap (λ (ys : List PlacedToken). inp q.last ys) (nothing q.places (subst (λ (z : List PlacedToken). Worn z q.places) (sym (ap (λ (z : Input). z.places) e)) l.worn))

  -- the first token dressed, before a rest
  abbrev front : Code → ℕ → ℕ → List PlacedToken → Input → Input
  front c g n [] q = inp n []
  front c g n (x ∷ xs) q = inp n (dress p g c.context x ∷ q.places)

  front_like : (c : Code) (g n : ℕ) (xs : List PlacedToken) (r q : Input) → inp (hi_of n xs) (others xs) ≡ r → Like r q → Like (inp n xs) (front c g n xs q)
  front_like c g n [] r q e l = record { last = refl; worn = tt }
  front_like c g n (x ∷ xs) r q e l = record { last = refl; worn = ((refl, refl), bared p g c.context, subst (λ (z : List PlacedToken). Worn z q.places) (sym (ap (λ (z : Input). z.places) e)) l.worn) }

  stood : (b : Bool) (k : ℕ) (d : Context) → Only b ((usual k (if b then own_goal k else div_goal) ≡ true) × (judged (if b then d else no_context) ≡ judged d))
  stood true k d = (own_usual k, refl)
  stood false k d = tt

  standing : (c : Code) (n : ℕ) (xs : List PlacedToken) (r q : Input) → inp (hi_of n xs) (others xs) ≡ r → Like r q
      → Stands (placing p c) (front c (own_goal (kind_of xs)) n xs q) × (rest (front c (own_goal (kind_of xs)) n xs q) ≡ q)
  standing c n [] r q e l = (only p _ (refl, refl), on_end n r q e l)
  standing c n (x ∷ xs) r q e l = (stood p x.spot.token.kind c.context, on x.spot.hi r q (ap (λ (z : Input). z.last) e) l)

  -- the first token under its goal and in its code
  dress_first : (c : Code) (ts r q : Input) → rest ts ≡ r → Like r q → (o : Input) × Like ts o × Stands (placing p c) o × (rest o ≡ q)
  dress_first c ts r q e l = let s = standing c ts.last ts.places r q e l in (front c (own_goal (kind ts)) ts.last ts.places q, front_like c (own_goal (kind ts)) ts.last ts.places r q e l, s.0, s.1)

  texts_like : (a b : Input) → Like a b → text a ≡ text b
  texts_like a b l = ap text_in (content_like a b l)

  escapes : (xs ys : List PlacedToken) → Worn xs ys → escaped_of xs ≡ escaped_of ys
  escapes [] [] w = refl
  escapes [] (y ∷ ys) w = absurd w
  escapes (x ∷ xs) [] w = absurd w
  escapes (x ∷ xs) (y ∷ ys) w = w.0.1

  barred_like : (d : Context) (a b : Input) → Like a b → barred d a ≡ barred d b
  barred_like d a b l = rw (kind_like a b l) (rw (escapes a.places b.places l.worn) refl)

  pub take : (c : Code) (k : ℕ) → Moves (Takes c k) (Takes (placing p c) k)
  take c k ts r q h l = let z = dress_first c ts r q h.2 l in (z.0, z.1, (sym (kind_like ts z.0 z.1) ∙ h.0, z.2, z.3))

  pub take_word : (c : Code) (k : ℕ) → Moves (TakesWord c k) (TakesWord (placing p c) k)
  take_word c k ts r q h l = let z = dress_first c ts r q h.3 l in (z.0, z.1, (sym (kind_like ts z.0 z.1) ∙ h.0, sym (barred_like c.context ts z.0 z.1) ∙ h.1, z.2, z.3))

  pub take_any : (c : Code) (n : List ℕ) → Moves (TakesAnyWord c n) (TakesAnyWord (placing p c) n)
  take_any c n ts r q h l = let z = dress_first c ts r q h.3 l in (z.0, z.1, (ap is_word (sym (kind_like ts z.0 z.1)) ∙ h.0, sym (texts_like ts z.0 z.1) ∙ h.1, z.2, z.3))

  pub take_name : (c : Code) (n : List ℕ) → Moves (TakesName c n) (TakesName (placing p c) n)
  take_name c n ts r q h l = let z = dress_first c ts r q h.5 l in
      (z.0, z.1, (ap is_word (sym (kind_like ts z.0 z.1)) ∙ h.0, ap (λ (k : ℕ). no_name c.context k) (sym (kind_like ts z.0 z.1)) ∙ h.1, sym (barred_like c.context ts z.0 z.1) ∙ h.2, sym (texts_like ts z.0 z.1) ∙ h.3, z.2, z.3))

  -- a token of a template, under its goal
  within : (b : Bool) (g : ℕ) (d : Context) → Only b (((if b then g else div_goal) ≡ g) × (judged (if b then d else no_context) ≡ judged d))
  within true g d = (refl, refl)
  within false g d = tt

  inside : (c : Code) (g k n : ℕ) (xs : List PlacedToken) (r q : Input) → (kind_of [] ≡ k → ⊥) → TakesIn c g k (inp n xs) r → Like r q → TakesIn (placing p c) g k (front c g n xs q) q
  inside c g k n [] r q f h l = absurd (f h.0)
  inside c g k n (x ∷ xs) r q f h l = (h.0, within p g c.context, on x.spot.hi r q (ap (λ (z : Input). z.last) h.2) l)

  pub take_in : (c : Code) (g k : ℕ) → (kind_of [] ≡ k → ⊥) → Moves (TakesIn c g k) (TakesIn (placing p c) g k)
  take_in c g k f ts r q h l = (front c g ts.last ts.places q, front_like c g ts.last ts.places r q h.2 l, inside c g k ts.last ts.places r q f h l)

  -- ---- the relation

  pub nothing_of : (a b : Input) → Like a b → a.places ≡ [] → b.places ≡ []
  nothing_of a b l e = sym (nothing b.places (subst (λ (z : List PlacedToken). Worn z b.places) e l.worn))

  unfoldable pub dressed : Kin p
  dressed = record {
    Like = Like;
    last = λ a b l. l.last;
    breaks = brk_like;
    contents = content_like;
    starts = lo_like;
    stops = λ a b l n. hi_like a b l;
    nothing = nothing_of;
    unlike = λ k n a b l h o. h (kind_like a b l ∙ o);
    no_pattern = λ a b l h. subst (λ (n : ℕ). starts_pattern n ≡ false) (kind_like a b l) h;
    ends_case = λ a b l h. subst (λ (n : ℕ). ((n == case_kind) || ((n == default_kind) || (n == right_brace_kind))) ≡ true) (kind_like a b l) h;
    goes = λ c a b l h. subst (λ (n : ℕ). n < call_level) (goes_like c other_end a b l) h;
    stays = λ c e a b l h. sym (pauses_like c e a b l) ∙ h;
    ended = λ c d t a b m l h. subst (λ (n : ℕ). pauses d n m ≡ true) (ended_like c t a b l) h;
    fields = λ c i a b m l h. subst (λ (n : ℕ). pauses c (field_end i n) m ≡ true) (kind_like a b l) h;
    begins = λ a b l h. sym (begins_like a b l) ∙ h;
    heads = λ a b l h. sym (head_like a b l) ∙ h;
    ofs = λ w a b l h. sym (of_like w a b l) ∙ h;
    usings = λ w a b l h. sym (using_like w a b l) ∙ h;
    defaults = λ a b l h. sym (default_like a b l) ∙ h;
    take = take;
    take_word = take_word;
    take_any = take_any;
    take_name = take_name;
    take_in = take_in;
  }
