-- Another list that goes on with the same token: what is derived up to that token is derived of this list as well.
use Rattle.std.proofs.Common.{◌≡◌, ◌<◌, ℕ, Bool, true, false, not, ◌&&◌, ◌||◌, ◌==◌, cond, eqb, List, [], ◌∷◌, ◌++◌, refl, sym, ap, ◌∙◌, subst, true≢false}
use Rattle.std.proofs.lemmas.Bool.{ne_eqb, and_left}
use Rattle.base_token.specs.Kinds.{question_mark_kind, left_bracket_kind, left_brace_kind, function_kind, class_kind, async_kind, let_kind, of_kind, case_kind, default_kind, right_brace_kind}
use Rattle.grammar_spec.specs.Tokens.Input.{PlacedToken, Input, Code, kind, kind_of, break_of, content_of, lo_of, hi_of, others, rest, text, is_word, no_name, barred}
use Rattle.grammar_spec.specs.Tokens.Operators.{goes_expr, pauses, call_level, other_end}
use Rattle.grammar_spec.specs.Tokens.Shape.{field_end}
use Rattle.grammar_spec.specs.Statements.{starts_expression_statement, statement_end, starts_head, starts_of, starts_using, starts_pattern}
use Rattle.grammar_spec.specs.Modules.{starts_default}
use Rattle.grammar_laws.proofs.context.Kin.{Kin}
use Rattle.parse_source_laws.proofs.Ahead.{pause_one}
use Rattle.parse_front_laws.specs.Complete.Laws.{input_at}

-- a token that no production looks ahead for
abbrev pub mild : ℕ → Bool
mild k = not ((k == of_kind) || ((k == function_kind) || (k == left_bracket_kind)))

abbrev pub Mild : List PlacedToken → Type 0
Mild l = (mild (kind_of l) ≡ true) × (mild (kind_of (others l)) ≡ true)

is_other : (k n : ℕ) → mild k ≡ true → mild n ≡ false → eqb k n ≡ false
is_other k n m h = ne_eqb k n (λ e. true≢false (sym m ∙ (ap mild e ∙ h)))

-- ---- tests of a front before two rests that begin alike

-- of what stands second as well: it isn't found
less_begins : (a b c d e f g x y : Bool) → x ≡ false → y ≡ false → not (a || (b || (c || ((d && e) || (f && g))))) ≡ true → not (a || (b || (c || ((d && x) || (f && y))))) ≡ true
less_begins true b c d e f g x y i j h = absurd (true≢false (sym h))
less_begins false true c d e f g x y i j h = absurd (true≢false (sym h))
less_begins false false true d e f g x y i j h = absurd (true≢false (sym h))
less_begins false false false d e f g true y i j h = absurd (true≢false i)
less_begins false false false d e f g false true i j h = absurd (true≢false j)
less_begins false false false true e true g false false i j h = refl
less_begins false false false true e false g false false i j h = refl
less_begins false false false false e true g false false i j h = refl
less_begins false false false false e false g false false i j h = refl

less_and : (a x : Bool) → x ≡ false → not (a && x) ≡ true
less_and true true i = absurd (true≢false i)
less_and true false i = refl
less_and false x i = refl

less_ofs : (a b c d x : Bool) → x ≡ false → not (a || (b && (c && d))) ≡ true → not (a || (b && (c && x))) ≡ true
less_ofs true b c d x i h = absurd (true≢false (sym h))
less_ofs false b c d true i h = absurd (true≢false i)
less_ofs false true true d false i h = refl
less_ofs false true false d false i h = refl
less_ofs false false c d false i h = refl

less_default : (a b c d x : Bool) → x ≡ false → not (a || (b || (c && d))) ≡ true → not (a || (b || (c && x))) ≡ true
less_default true b c d x i h = absurd (true≢false (sym h))
less_default false true c d x i h = absurd (true≢false (sym h))
less_default false false c d true i h = absurd (true≢false i)
less_default false false true d false i h = refl
less_default false false false d false i h = refl

skips : (a b c d : Bool) (x z y : ℕ) → d ≡ false → cond a 1 (cond b 0 (cond c 2 (cond d x y))) ≡ cond a 1 (cond b 0 (cond c 2 (cond d z y)))
skips true b c d x z y e = refl
skips false true c d x z y e = refl
skips false false true d x z y e = refl
skips false false false true x z y e = absurd (true≢false e)
skips false false false false x z y e = refl

-- what goes on doesn't look behind a token but `?`
pub goes_alike : (c : Code) (e n m : ℕ) (q : PlacedToken) (l v : List PlacedToken) → eqb q.spot.token.kind question_mark_kind ≡ false → goes_expr c e (input_at n (q ∷ l)) ≡ goes_expr c e (input_at m (q ∷ v))
goes_alike c e n m q l v h = skips _ _ _ (eqb q.spot.token.kind question_mark_kind) _ _ _ h

abbrev empty : List PlacedToken → Bool
empty [] = true
empty (x ∷ l) = false

pub never_empty : (f : List PlacedToken) (q : PlacedToken) (l : List PlacedToken) → f ++ q ∷ l ≡ [] → ⊥
never_empty [] q l e = true≢false (sym (ap empty e))
never_empty (x ∷ f) q l e = true≢false (sym (ap empty e))

module _ (q : PlacedToken) (more spec : List PlacedToken) (mi : Mild spec) (plain : eqb q.spot.token.kind question_mark_kind ≡ false) where
  pub one_same : {A : Type 0} (B : List PlacedToken → A) → ((x : PlacedToken) (l v : List PlacedToken) → B (x ∷ l) ≡ B (x ∷ v)) → (f : List PlacedToken) → B (f ++ q ∷ more) ≡ B (f ++ q ∷ spec)
  one_same B h [] = h q more spec
  one_same B h (x ∷ f) = h x (f ++ q ∷ more) (f ++ q ∷ spec)

  two_same : (B : List PlacedToken → Bool) → (B (q ∷ more) ≡ true → B (q ∷ spec) ≡ true) → ((x y : PlacedToken) (l v : List PlacedToken) → B (x ∷ y ∷ l) ≡ B (x ∷ y ∷ v)) → (f : List PlacedToken) → B (f ++ q ∷ more) ≡ true → B (f ++ q ∷ spec) ≡ true
  two_same B a d [] h = a h
  two_same B a d (x ∷ []) h = d x q spec more ∙ h
  two_same B a d (x ∷ (y ∷ f)) h = d x y (f ++ q ∷ spec) (f ++ q ∷ more) ∙ h

  first : (n : ℕ) → mild n ≡ false → eqb (kind_of spec) n ≡ false
  first n h = is_other (kind_of spec) n mi.0 h

  pub begins_on : (f : List PlacedToken) → starts_expression_statement (input_at 0 (f ++ q ∷ more)) ≡ true → starts_expression_statement (input_at 0 (f ++ q ∷ spec)) ≡ true
  begins_on = two_same (λ z. starts_expression_statement (input_at 0 z)) (λ h. less_begins (q.spot.token.kind == left_brace_kind) (q.spot.token.kind == function_kind) (q.spot.token.kind == class_kind) (q.spot.token.kind == async_kind) ((kind_of more == function_kind) && not (break_of more)) (q.spot.token.kind == let_kind) (kind_of more == left_bracket_kind)
      ((kind_of spec == function_kind) && not (break_of spec)) (kind_of spec == left_bracket_kind) (and_left (kind_of spec == function_kind) _ (first function_kind refl)) (first left_bracket_kind refl) h) (λ x y l v. refl)

  pub heads_on : (f : List PlacedToken) → starts_head (input_at 0 (f ++ q ∷ more)) ≡ true → starts_head (input_at 0 (f ++ q ∷ spec)) ≡ true
  heads_on = two_same (λ z. starts_head (input_at 0 z)) (λ h. less_and (q.spot.token.kind == let_kind) (kind_of spec == left_bracket_kind) (first left_bracket_kind refl)) (λ x y l v. refl)

  pub ofs_on : (w : Bool) (f : List PlacedToken) → starts_of w (input_at 0 (f ++ q ∷ more)) ≡ true → starts_of w (input_at 0 (f ++ q ∷ spec)) ≡ true
  ofs_on w = two_same (λ z. starts_of w (input_at 0 z)) (λ h. less_ofs (q.spot.token.kind == let_kind) (not w) (q.spot.token.kind == async_kind) (kind_of more == of_kind) (kind_of spec == of_kind) (first of_kind refl) h) (λ x y l v. refl)

  pub defaults_on : (f : List PlacedToken) → starts_default (input_at 0 (f ++ q ∷ more)) ≡ true → starts_default (input_at 0 (f ++ q ∷ spec)) ≡ true
  defaults_on = two_same (λ z. starts_default (input_at 0 z)) (λ h. less_default (q.spot.token.kind == function_kind) (q.spot.token.kind == class_kind) (q.spot.token.kind == async_kind) ((kind_of more == function_kind) && not (break_of more)) ((kind_of spec == function_kind) && not (break_of spec)) (and_left (kind_of spec == function_kind) _ (first function_kind refl)) h) (λ x y l v. refl)

  pub usings_on : (w : Bool) (f : List PlacedToken) → starts_using w (input_at 0 (f ++ q ∷ more)) ≡ true → starts_using w (input_at 0 (f ++ q ∷ spec)) ≡ true
  usings_on false f h = two_same (λ z. starts_using false (input_at 0 z)) (λ h. ap not (first of_kind refl)) (λ x y l v. refl) f h
  usings_on true [] h = ap not (is_other (kind_of (others spec)) of_kind mi.1 refl)
  usings_on true (x ∷ []) h = ap not (first of_kind refl)
  usings_on true (x ∷ (y ∷ f)) h = sym (one_same (λ z. not (kind_of z == of_kind)) (λ x l v. refl) f) ∙ h

  pub goes_front : (c : Code) (f : List PlacedToken) → goes_expr c other_end (input_at 0 (f ++ q ∷ more)) ≡ goes_expr c other_end (input_at 0 (f ++ q ∷ spec))
  goes_front c [] = goes_alike c other_end 0 0 q more spec plain
  goes_front c (x ∷ []) = refl
  goes_front c (x ∷ (y ∷ f)) = refl

  -- ---- the relation

  pub record Onto (a b : Input) : Type 0 where
    pub last : a.last ≡ b.last
    pub front : List PlacedToken
    pub left : a.places ≡ front ++ q ∷ more
    pub right : b.places ≡ front ++ q ∷ spec

  pub onto_here : (n : ℕ) → Onto (input_at n (q ∷ more)) (input_at n (q ∷ spec))
  onto_here n = record { last = refl; front = []; left = refl; right = refl }

  pub by_places : (P : List PlacedToken → List PlacedToken → Type 0) → ((f : List PlacedToken) → P (f ++ q ∷ more) (f ++ q ∷ spec)) → (a b : Input) → Onto a b → P a.places b.places
  by_places P g a b h = subst (λ z. P z b.places) (sym h.left) (subst (λ z. P (h.front ++ q ∷ more) z) (sym h.right) (g h.front))

  pub kinds : (P : ℕ → ℕ → Type 0) → ((n : ℕ) → P n n) → (a b : Input) → Onto a b → P (kind a) (kind b)
  kinds P r a b h = subst (λ (k : ℕ). P (kind a) k) (by_places (λ v u. kind_of v ≡ kind_of u) (one_same kind_of (λ x l v. refl)) a b h) (r (kind a))

  -- the first token before what stands behind it
  pub taken : (P : Input → Type 0) → ((n : ℕ) (x : PlacedToken) (l v : List PlacedToken) → P (input_at n (x ∷ l)) → P (input_at n (x ∷ v))) → (ts t o : Input) → rest ts ≡ t → Onto t o → P ts → (w : Input) × Onto ts w × P w × (rest w ≡ o)
  taken P g ts t o e l h = by_list ts.last ts.places e h
    where
      by_list : (n : ℕ) (xs : List PlacedToken) → input_at (hi_of n xs) (others xs) ≡ t → P (input_at n xs) → (w : Input) × Onto (input_at n xs) w × P w × (rest w ≡ o)
      by_list n [] e h = absurd (never_empty l.front q more (sym (ap (λ (z : Input). z.places) e ∙ l.left)))
      by_list n (x ∷ xs) e h = (
        input_at n (x ∷ o.places),
        record { last = refl; front = x ∷ l.front; left = ap (λ v. x ∷ v) (ap (λ (z : Input). z.places) e ∙ l.left); right = ap (λ v. x ∷ v) l.right },
        g n x xs o.places h,
        ap (λ (a : ℕ). input_at a o.places) (ap (λ (z : Input). z.last) e ∙ l.last),
      )

  pub usings_of : (w : Bool) (a b : Input) → Onto a b → starts_using w a ≡ true → starts_using w b ≡ true
  usings_of false a b l h = by_places (λ v u. starts_using false (input_at 0 v) ≡ true → starts_using false (input_at 0 u) ≡ true) (usings_on false) a b l h
  usings_of true a b l h = by_places (λ v u. starts_using true (input_at 0 v) ≡ true → starts_using true (input_at 0 u) ≡ true) (usings_on true) a b l h

  abbrev pub onto : Kin false
  onto = record {
    Like = Onto;
    last = λ a b l. l.last;
    breaks = λ a b l. by_places (λ v u. break_of v ≡ break_of u) (one_same break_of (λ x l v. refl)) a b l;
    contents = λ a b l. by_places (λ v u. content_of v ≡ content_of u) (one_same content_of (λ x l v. refl)) a b l;
    starts = λ a b l. by_places (λ v u. lo_of a.last v ≡ lo_of a.last u) (one_same (lo_of a.last) (λ x l v. refl)) a b l ∙ ap (λ (n : ℕ). lo_of n b.places) l.last;
    stops = λ a b l h. by_places (λ v u. hi_of a.last v ≡ hi_of a.last u) (one_same (hi_of a.last) (λ x l v. refl)) a b l ∙ ap (λ (n : ℕ). hi_of n b.places) l.last;
    nothing = λ a b l h. absurd (never_empty l.front q more (sym l.left ∙ h));
    unlike = λ k e a b l h. kinds (λ n i. (n ≡ k → ⊥) → i ≡ k → ⊥) (λ n h. h) a b l h;
    no_pattern = λ a b l h. kinds (λ n i. starts_pattern n ≡ false → starts_pattern i ≡ false) (λ n h. h) a b l h;
    ends_case = λ a b l h. kinds (λ n i. ((n == case_kind) || ((n == default_kind) || (n == right_brace_kind))) ≡ true → ((i == case_kind) || ((i == default_kind) || (i == right_brace_kind))) ≡ true) (λ n h. h) a b l h;
    goes = λ c a b l h. subst (λ (n : ℕ). n < call_level) (by_places (λ v u. goes_expr c other_end (input_at 0 v) ≡ goes_expr c other_end (input_at 0 u)) (goes_front c) a b l) h;
    stays = λ c e a b l h. sym (by_places (λ v u. pauses c e (input_at 0 v) ≡ pauses c e (input_at 0 u)) (one_same (λ v. pauses c e (input_at 0 v)) (λ x l v. pause_one c e x l v)) a b l) ∙ h;
    ended = λ c d t a b m l h. sym (by_places (λ v u. pauses d (statement_end c (input_at 0 v) t) m ≡ pauses d (statement_end c (input_at 0 u) t) m) (one_same (λ v. pauses d (statement_end c (input_at 0 v) t) m) (λ x l v. refl)) a b l) ∙ h;
    fields = λ c i a b m l h. kinds (λ n o. pauses c (field_end i n) m ≡ true → pauses c (field_end i o) m ≡ true) (λ n h. h) a b l h;
    begins = λ a b l h. by_places (λ v u. starts_expression_statement (input_at 0 v) ≡ true → starts_expression_statement (input_at 0 u) ≡ true) begins_on a b l h;
    heads = λ a b l h. by_places (λ v u. starts_head (input_at 0 v) ≡ true → starts_head (input_at 0 u) ≡ true) heads_on a b l h;
    ofs = λ w a b l h. by_places (λ v u. starts_of w (input_at 0 v) ≡ true → starts_of w (input_at 0 u) ≡ true) (ofs_on w) a b l h;
    usings = usings_of;
    defaults = λ a b l h. by_places (λ v u. starts_default (input_at 0 v) ≡ true → starts_default (input_at 0 u) ≡ true) defaults_on a b l h;
    take = λ c k ts t o h l. let z = taken (λ o. kind o ≡ k) (λ n x l v h. h) ts t o h.2 l h.0 in (z.0, z.1, (z.2, tt, z.3));
    take_word = λ c k ts t o h l. let z = taken (λ o. (kind o ≡ k) × (barred c.context o ≡ false)) (λ n x l v h. h) ts t o h.3 l (h.0, h.1) in (z.0, z.1, (z.2.0, z.2.1, tt, z.3));
    take_any = λ c n ts t o h l. let z = taken (λ o. (is_word (kind o) ≡ true) × (text o ≡ n)) (λ n x l v h. h) ts t o h.3 l (h.0, h.1) in (z.0, z.1, (z.2.0, z.2.1, tt, z.3));
    take_name = λ c n ts t o h l. let z = taken (λ o. (is_word (kind o) ≡ true) × (no_name c.context (kind o) ≡ false) × (barred c.context o ≡ false) × (text o ≡ n)) (λ n x l v h. h) ts t o h.5 l (h.0, h.1, h.2, h.3) in (z.0, z.1, (z.2.0, z.2.1, z.2.2, z.2.3, tt, z.3));
    take_in = λ c g k n ts t o h l. let z = taken (λ o. kind o ≡ k) (λ n x l v h. h) ts t o h.2 l h.0 in (z.0, z.1, (z.2, tt, z.3));
  }
