-- A rest may be cut off: before a closing brace in its place each condition on what stands there holds.
use Rattle.std.proofs.Common.{◌≡◌, ◌<◌, ◌+◌, ℕ, Bool, true, false, not, ◌&&◌, ◌||◌, ◌==◌, eqb, nat_le, if◌then◌else◌, List, [], ◌∷◌, ◌++◌, refl, sym, ap, ap₂, ◌∙◌, subst, true≢false, arith, eqb-true}
use Rattle.base_token.specs.Kinds.{end_kind, right_brace_kind, left_brace_kind, left_bracket_kind, dot_kind, template_kind, comma_kind, question_mark_kind, left_paren_kind, assign_kind, mul_kind, function_kind, class_kind, async_kind, case_kind, default_kind, let_kind, of_kind, get_kind, set_kind, static_kind}
use Rattle.tree_spec.specs.Tree.{Tree, ident}
use Rattle.grammar_spec.specs.Tokens.Input.{PlacedToken, Input, Code, kind, kind_of, kind2, break_of, brk, content_of, lo_of, hi_of, others, rest, text, is_word, no_name, barred}
use Rattle.grammar_spec.specs.Tokens.Operators.{goes_expr, pauses, is_assign_op, conditional_level, call_level, other_end, let_end, may_name, starts_key}
use Rattle.grammar_spec.specs.Tokens.Shape.{ends, is_name, field_end}
use Rattle.grammar_spec.specs.Statements.{starts_expression_statement, statement_end, starts_head, starts_of, starts_using, starts_pattern}
use Rattle.grammar_spec.specs.Modules.{starts_default}
use Rattle.grammar_spec.specs.Grammar.{Produces}
use Rattle.grammar_laws.proofs.context.Kin.{Kin}
use Rattle.grammar_laws.proofs.context.Placed.{move}
use Rattle.parse_source_laws.proofs.Ahead.{cases, pause_one}
use Rattle.parse_front_laws.specs.Complete.Laws.{input_at, Closing, CutsOff}

-- ---- a closing brace in place of a rest

-- where the first token of the rest begins; the characters of a template may be none
abbrev pub brace : PlacedToken → PlacedToken
brace p = record p { spot = record p.spot { token = record p.spot.token { kind = right_brace_kind }; hi = if p.spot.token.kind == template_kind then p.spot.lo + 1 else p.spot.hi } }

abbrev pub closing : List PlacedToken → List PlacedToken
closing [] = []
closing (p ∷ ps) = brace p ∷ []

pub is_closing : (l : List PlacedToken) → Closing l (closing l)
is_closing [] = refl
is_closing (p ∷ l) = (brace p, refl)

-- ---- tests of a front before a rest, and before the brace

-- of a kind
kinds_by : (P : ℕ → ℕ → Type 0) → ((n : ℕ) → P n n) → ((n : ℕ) → P n right_brace_kind) → (f l : List PlacedToken) → P (kind_of (f ++ l)) (kind_of (f ++ closing l))
kinds_by P a b [] [] = a end_kind
kinds_by P a b [] (p ∷ l) = b p.spot.token.kind
kinds_by P a b (x ∷ f) l = a x.spot.token.kind

-- of what stands second as well
kept : (B : List PlacedToken → Bool) → ((p : PlacedToken) → B (brace p ∷ []) ≡ true) → ((x p : PlacedToken) (l : List PlacedToken) → B (x ∷ p ∷ l) ≡ true → B (x ∷ brace p ∷ []) ≡ true) → ((x y : PlacedToken) (l v : List PlacedToken) → B (x ∷ y ∷ l) ≡ B (x ∷ y ∷ v))
    → (f l : List PlacedToken) → B (f ++ l) ≡ true → B (f ++ closing l) ≡ true
kept B a b d [] [] h = h
kept B a b d [] (p ∷ l) h = a p
kept B a b d (x ∷ []) [] h = h
kept B a b d (x ∷ []) (p ∷ l) h = b x p l h
kept B a b d (x ∷ (y ∷ f)) l h = d x y (f ++ closing l) (f ++ l) ∙ h

begins_less : (a b c d e f g : Bool) → not (a || (b || (c || ((d && e) || (f && g))))) ≡ true → not (a || (b || (c || ((d && false) || (f && false))))) ≡ true
begins_less true b c d e f g h = absurd (true≢false (sym h))
begins_less false true c d e f g h = absurd (true≢false (sym h))
begins_less false false true d e f g h = absurd (true≢false (sym h))
begins_less false false false true e true g h = refl
begins_less false false false true e false g h = refl
begins_less false false false false e true g h = refl
begins_less false false false false e false g h = refl

begins_kept : (f l : List PlacedToken) → starts_expression_statement (input_at 0 (f ++ l)) ≡ true → starts_expression_statement (input_at 0 (f ++ closing l)) ≡ true
begins_kept f l h = kept (λ z. starts_expression_statement (input_at 0 z)) (λ p. refl) (λ x p l h. begins_less (x.spot.token.kind == left_brace_kind) (x.spot.token.kind == function_kind) (x.spot.token.kind == class_kind) (x.spot.token.kind == async_kind) ((p.spot.token.kind == function_kind) && not p.spot.line_break) (x.spot.token.kind == let_kind) (p.spot.token.kind == left_bracket_kind) h) (λ x y l v. refl) f l h

off_by : (a : Bool) → not (a && false) ≡ true
off_by true = refl
off_by false = refl

heads_kept : (f l : List PlacedToken) → starts_head (input_at 0 (f ++ l)) ≡ true → starts_head (input_at 0 (f ++ closing l)) ≡ true
heads_kept f l h = kept (λ z. starts_head (input_at 0 z)) (λ p. refl) (λ x p l h. off_by _) (λ x y l v. refl) f l h

ofs_less : (a b c d : Bool) → not (a || (b && (c && d))) ≡ true → not (a || (b && (c && false))) ≡ true
ofs_less true b c d h = absurd (true≢false (sym h))
ofs_less false true true d h = refl
ofs_less false true false d h = refl
ofs_less false false c d h = refl

ofs_first : (w : Bool) → not (false || (not w && (false && false))) ≡ true
ofs_first true = refl
ofs_first false = refl

ofs_kept : (w : Bool) (f l : List PlacedToken) → starts_of w (input_at 0 (f ++ l)) ≡ true → starts_of w (input_at 0 (f ++ closing l)) ≡ true
ofs_kept w f l h = kept (λ z. starts_of w (input_at 0 z)) (λ p. ofs_first w) (λ x p l h. ofs_less _ _ _ _ h) (λ x y l v. refl) f l h

usings_kept : (w : Bool) (f l : List PlacedToken) → starts_using w (input_at 0 (f ++ l)) ≡ true → starts_using w (input_at 0 (f ++ closing l)) ≡ true
usings_kept false f l h = kept (λ z. starts_using false (input_at 0 z)) (λ p. refl) (λ x p l h. refl) (λ x y l v. refl) f l h
usings_kept true [] [] h = h
usings_kept true [] (p ∷ l) h = refl
usings_kept true (x ∷ f) l h = kept (λ z. not (kind2 (input_at 0 z) == of_kind)) (λ p. refl) (λ x p l h. refl) (λ x y l v. refl) f l h

default_less : (a b c d e : Bool) → not (a || (b || (c && (d && e)))) ≡ true → not (a || (b || (c && false))) ≡ true
default_less true b c d e h = absurd (true≢false (sym h))
default_less false true c d e h = absurd (true≢false (sym h))
default_less false false true d e h = refl
default_less false false false d e h = refl

defaults_kept : (f l : List PlacedToken) → starts_default (input_at 0 (f ++ l)) ≡ true → starts_default (input_at 0 (f ++ closing l)) ≡ true
defaults_kept f l h = kept (λ z. starts_default (input_at 0 z)) (λ p. refl) (λ x p l h. default_less (x.spot.token.kind == function_kind) (x.spot.token.kind == class_kind) (x.spot.token.kind == async_kind) (p.spot.token.kind == function_kind) (not p.spot.line_break) h) (λ x y l v. refl) f l h

-- ---- what goes on, and what pauses

goes_less : (comma assigns asks d : Bool) (y : ℕ) → cases comma false assigns asks (if d && true then call_level else conditional_level) y < call_level → cases comma false assigns asks (if false && true then call_level else conditional_level) y < call_level
goes_less true assigns asks d y h = h
goes_less false true asks d y h = h
goes_less false false true d y h = omega arith
goes_less false false false d y h = h

goes_kept : (c : Code) (f l : List PlacedToken) → goes_expr c other_end (input_at 0 (f ++ l)) < call_level → goes_expr c other_end (input_at 0 (f ++ closing l)) < call_level
goes_kept c [] [] h = h
goes_kept c [] (p ∷ l) h = omega arith
goes_kept c (x ∷ []) [] h = h
goes_kept c (x ∷ []) (p ∷ l) h = goes_less (x.spot.token.kind == comma_kind) (is_assign_op x.spot.token.kind) (x.spot.token.kind == question_mark_kind) (p.spot.token.kind == dot_kind) _ h
goes_kept c (x ∷ (y ∷ f)) l h = h

stays_kept : (c : Code) (e : ℕ) (f l : List PlacedToken) → pauses c e (input_at 0 (f ++ l)) ≡ true → pauses c e (input_at 0 (f ++ closing l)) ≡ true
stays_kept c e [] [] h = h
stays_kept c e [] (p ∷ l) h = refl
stays_kept c e (x ∷ f) l h = pause_one c e x (f ++ closing l) (f ++ l) ∙ h

-- where the class of what ends is another
abbrev pauses_by : Bool → Bool → Bool → Bool → Bool
pauses_by a b k g = a || (b || (k && not g))

wider : (a b k x g : Bool) → pauses_by a b k (x || g) ≡ true → pauses_by a b k g ≡ true
wider true b k x g h = refl
wider false true k x g h = refl
wider false false true true g h = absurd (true≢false (sym h))
wider false false true false g h = h
wider false false false x g h = h

wider_left : (a b k x g : Bool) → pauses_by a b k (g || x) ≡ true → pauses_by a b k g ≡ true
wider_left true b k x g h = refl
wider_left false true k x g h = refl
wider_left false false true x true h = h
wider_left false false true x false h = refl
wider_left false false false x g h = h

ends_name : (t : Tree) → is_name t ≡ true → ends t ≡ other_end
ends_name (ident s n) h = refl
ends_name _ h = absurd (true≢false (sym h))

ended_kept : (c d : Code) (t : Tree) (m : Input) (n : ℕ) → pauses d (if c.listed && ((n == let_kind) && is_name t) then let_end else ends t) m ≡ true → pauses d (ends t) m ≡ true
ended_kept c d t m n h = by_test c.listed (eqb n let_kind) (is_name t) refl h
  where
    by_test : (a b x : Bool) → is_name t ≡ x → pauses d (if a && (b && x) then let_end else ends t) m ≡ true → pauses d (ends t) m ≡ true
    by_test true true true i h = ap (λ (e : ℕ). pauses d e m) (ends_name t i) ∙ wider (kind m == right_brace_kind) (kind m == end_kind) (brk m) (may_name (kind m) || (kind m == left_brace_kind)) (nat_le 1 (goes_expr d other_end m)) h
    by_test true true false i h = h
    by_test true false x i h = h
    by_test false b x i h = h

fields_kept : (c : Code) (i : Bool) (m : Input) (n : ℕ) → pauses c (field_end i n) m ≡ true → pauses c (field_end i right_brace_kind) m ≡ true
fields_kept c i m n h = by_test ((n == get_kind) || (n == set_kind)) ((n == static_kind) && not i) h
  where
    by_test : (a b : Bool) → pauses c (if a then 6 else (if b then 7 else 5)) m ≡ true → pauses c 5 m ≡ true
    by_test true b h = wider_left (kind m == right_brace_kind) (kind m == end_kind) (brk m) (starts_key (kind m)) ((kind m == assign_kind) || (kind m == left_paren_kind)) h
    by_test false true h = wider_left (kind m == right_brace_kind) (kind m == end_kind) (brk m) (starts_key (kind m) || ((kind m == mul_kind) || (kind m == left_brace_kind))) ((kind m == assign_kind) || (kind m == left_paren_kind)) h
    by_test false false h = h

-- ---- the relation

module _ (r : Input) where
  abbrev end_at : Input
  end_at = input_at r.last (closing r.places)

  -- the same front, before the rest and before the brace
  pub record Like (a b : Input) : Type 0 where
    pub last : a.last ≡ b.last
    pub front : List PlacedToken
    pub left : a.places ≡ front ++ r.places
    pub right : b.places ≡ front ++ closing r.places
    pub bare : front ≡ [] → a.last ≡ r.last

  pub at_rest : Like r end_at
  at_rest = record { last = refl; front = []; left = refl; right = refl; bare = λ e. refl }

  -- a test of the tokens alone
  by_places : (P : List PlacedToken → List PlacedToken → Type 0) → ((f l : List PlacedToken) → P (f ++ l) (f ++ closing l)) → (a b : Input) → Like a b → P a.places b.places
  by_places P g a b h = subst (λ z. P z b.places) (sym h.left) (subst (λ z. P (h.front ++ r.places) z) (sym h.right) (g h.front r.places))

  breaks_kept : (f l : List PlacedToken) → break_of (f ++ l) ≡ break_of (f ++ closing l)
  breaks_kept [] [] = refl
  breaks_kept [] (p ∷ l) = refl
  breaks_kept (x ∷ f) l = refl

  contents_kept : (f l : List PlacedToken) → content_of (f ++ l) ≡ content_of (f ++ closing l)
  contents_kept [] [] = refl
  contents_kept [] (p ∷ l) = refl
  contents_kept (x ∷ f) l = refl

  starts_kept : (n : ℕ) (f l : List PlacedToken) → lo_of n (f ++ l) ≡ lo_of n (f ++ closing l)
  starts_kept n [] [] = refl
  starts_kept n [] (p ∷ l) = refl
  starts_kept n (x ∷ f) l = refl

  stops_kept : (n : ℕ) (f l : List PlacedToken) → (kind_of (f ++ l) ≡ template_kind → ⊥) → hi_of n (f ++ l) ≡ hi_of n (f ++ closing l)
  stops_kept n [] [] h = refl
  stops_kept n [] (p ∷ l) h = by_kind (eqb p.spot.token.kind template_kind) (λ e. eqb-true p.spot.token.kind template_kind e)
    where
      by_kind : (b : Bool) → (b ≡ true → p.spot.token.kind ≡ template_kind) → p.spot.hi ≡ (if b then p.spot.lo + 1 else p.spot.hi)
      by_kind true e = absurd (h (e refl))
      by_kind false e = refl
  stops_kept n (x ∷ f) l h = refl

  nothing_kept : (f l : List PlacedToken) → f ++ l ≡ [] → f ++ closing l ≡ []
  nothing_kept [] [] h = refl
  nothing_kept [] (p ∷ l) h = absurd (true≢false (sym (ap (λ z. nil z) h)))
    where
      nil : List PlacedToken → Bool
      nil [] = true
      nil (x ∷ z) = false
  nothing_kept (x ∷ f) l h = absurd (true≢false (sym (ap (λ z. nil z) h)))
    where
      nil : List PlacedToken → Bool
      nil [] = true
      nil (x ∷ z) = false

  no_brace : (k : ℕ) → eqb right_brace_kind k ≡ false → right_brace_kind ≡ k → ⊥
  no_brace k e o = true≢false (ap (λ (z : ℕ). eqb right_brace_kind z) o ∙ e)

  -- ---- tokens

  abbrev first_of : List PlacedToken → List PlacedToken → List PlacedToken
  first_of [] q = []
  first_of (x ∷ xs) q = x ∷ q

  -- the first token before what stands behind it
  took : (n : ℕ) (xs : List PlacedToken) (t q : Input) → input_at (hi_of n xs) (others xs) ≡ t → Like t q → Like (input_at n xs) (input_at n (first_of xs q.places))
  took n [] t q e l = record { last = refl; front = []; left = empty_left (ap (λ (z : Input). z.places) e ∙ l.left); right = empty_right (ap (λ (z : Input). z.places) e ∙ l.left); bare = λ i. empty_last (ap (λ (z : Input). z.places) e ∙ l.left) }
    where
      empty_by : (f v : List PlacedToken) → [] ≡ f ++ v → (f ≡ []) × (v ≡ [])
      empty_by [] v i = (refl, sym i)
      empty_by (x ∷ f) v i = absurd (true≢false (ap (λ z. nil z) i))
        where
          nil : List PlacedToken → Bool
          nil [] = true
          nil (x ∷ z) = false

      empty_left : [] ≡ l.front ++ r.places → [] ≡ [] ++ r.places
      empty_left i = sym (empty_by l.front r.places i).1

      empty_right : [] ≡ l.front ++ r.places → [] ≡ [] ++ closing r.places
      empty_right i = ap closing (sym (empty_by l.front r.places i).1)

      empty_last : [] ≡ l.front ++ r.places → n ≡ r.last
      empty_last i = ap (λ (z : Input). z.last) e ∙ l.bare (empty_by l.front r.places i).0
  took n (x ∷ xs) t q e l = record { last = refl; front = x ∷ l.front; left = ap (λ v. x ∷ v) (ap (λ (z : Input). z.places) e ∙ l.left); right = ap (λ v. x ∷ v) l.right; bare = λ i. absurd (true≢false (sym (ap (λ z. nil z) i))) }
    where
      nil : List PlacedToken → Bool
      nil [] = true
      nil (y ∷ z) = false

  rest_is : (n : ℕ) (xs : List PlacedToken) (t q : Input) → input_at (hi_of n xs) (others xs) ≡ t → Like t q → rest (input_at n (first_of xs q.places)) ≡ q
  rest_is n [] t q e l = ap₂ (λ (a : ℕ) (v : List PlacedToken). input_at a v) (ap (λ (z : Input). z.last) e ∙ l.last) (sym (ended (ap (λ (z : Input). z.places) e)))
    where
      ended : [] ≡ t.places → q.places ≡ []
      ended i = by_places (λ v u. v ≡ [] → u ≡ []) nothing_kept t q l (sym i)
  rest_is n (x ∷ xs) t q e l = ap (λ (a : ℕ). input_at a q.places) (ap (λ (z : Input). z.last) e ∙ l.last)

  first_kind : (n : ℕ) (xs q : List PlacedToken) → kind_of (first_of xs q) ≡ kind_of xs
  first_kind n [] q = refl
  first_kind n (x ∷ xs) q = refl

  -- the same of whatever is seen of the first token
  first_same : {A : Type 0} (B : List PlacedToken → A) → ((x : PlacedToken) (l v : List PlacedToken) → B (x ∷ l) ≡ B (x ∷ v)) → (xs q : List PlacedToken) → B (first_of xs q) ≡ B xs
  first_same B f [] q = refl
  first_same B f (x ∷ xs) q = f x q xs

  taken : {P : Input → Type 0} (ts t q : Input) → rest ts ≡ t → Like t q → P (input_at ts.last (first_of ts.places q.places)) → (o : Input) × Like ts o × P o × (rest o ≡ q)
  taken ts t q e l h = (input_at ts.last (first_of ts.places q.places), took ts.last ts.places t q e l, h, rest_is ts.last ts.places t q e l)

  usings_of : (w : Bool) (a b : Input) → Like a b → starts_using w a ≡ true → starts_using w b ≡ true
  usings_of false a b l h = by_places (λ v u. starts_using false (input_at 0 v) ≡ true → starts_using false (input_at 0 u) ≡ true) (usings_kept false) a b l h
  usings_of true a b l h = by_places (λ v u. starts_using true (input_at 0 v) ≡ true → starts_using true (input_at 0 u) ≡ true) (usings_kept true) a b l h

  pub cut : Kin false
  cut = record {
    Like = Like;
    last = λ a b l. l.last;
    breaks = λ a b l. by_places (λ v u. break_of v ≡ break_of u) breaks_kept a b l;
    contents = λ a b l. by_places (λ v u. content_of v ≡ content_of u) contents_kept a b l;
    starts = λ a b l. by_places (λ v u. lo_of a.last v ≡ lo_of a.last u) (starts_kept a.last) a b l ∙ ap (λ (n : ℕ). lo_of n b.places) l.last;
    stops = λ a b l h. by_places (λ v u. (kind_of v ≡ template_kind → ⊥) → hi_of a.last v ≡ hi_of a.last u) (stops_kept a.last) a b l h ∙ ap (λ (n : ℕ). hi_of n b.places) l.last;
    nothing = λ a b l h. by_places (λ v u. v ≡ [] → u ≡ []) nothing_kept a b l h;
    unlike = λ k e a b l h. by_places (λ v u. (kind_of v ≡ k → ⊥) → kind_of u ≡ k → ⊥) (λ f v. kinds_by (λ n i. (n ≡ k → ⊥) → i ≡ k → ⊥) (λ n h. h) (λ n h. no_brace k e) f v) a b l h;
    no_pattern = λ a b l h. by_places (λ v u. starts_pattern (kind_of v) ≡ false → starts_pattern (kind_of u) ≡ false) (λ f v. kinds_by (λ n i. starts_pattern n ≡ false → starts_pattern i ≡ false) (λ n h. h) (λ n h. refl) f v) a b l h;
    ends_case = λ a b l h. by_places (λ v u. ((kind_of v == case_kind) || ((kind_of v == default_kind) || (kind_of v == right_brace_kind))) ≡ true → ((kind_of u == case_kind) || ((kind_of u == default_kind) || (kind_of u == right_brace_kind))) ≡ true)
        (λ f v. kinds_by (λ n i. ((n == case_kind) || ((n == default_kind) || (n == right_brace_kind))) ≡ true → ((i == case_kind) || ((i == default_kind) || (i == right_brace_kind))) ≡ true) (λ n h. h) (λ n h. refl) f v) a b l h;
    goes = λ c a b l h. by_places (λ v u. goes_expr c other_end (input_at 0 v) < call_level → goes_expr c other_end (input_at 0 u) < call_level) (goes_kept c) a b l h;
    stays = λ c e a b l h. by_places (λ v u. pauses c e (input_at 0 v) ≡ true → pauses c e (input_at 0 u) ≡ true) (stays_kept c e) a b l h;
    ended = λ c d t a b m l h. by_places (λ v u. pauses d (statement_end c (input_at 0 v) t) m ≡ true → pauses d (statement_end c (input_at 0 u) t) m ≡ true)
        (λ f v. kinds_by (λ n i. pauses d (if c.listed && ((n == let_kind) && is_name t) then let_end else ends t) m ≡ true → pauses d (if c.listed && ((i == let_kind) && is_name t) then let_end else ends t) m ≡ true) (λ n h. h)
        (λ n h. by_listed d m t c.listed (ended_kept c d t m n h)) f v) a b l h;
    fields = λ c i a b m l h. by_places (λ v u. pauses c (field_end i (kind_of v)) m ≡ true → pauses c (field_end i (kind_of u)) m ≡ true)
        (λ f v. kinds_by (λ n o. pauses c (field_end i n) m ≡ true → pauses c (field_end i o) m ≡ true) (λ n h. h) (λ n h. fields_kept c i m n h) f v) a b l h;
    begins = λ a b l h. by_places (λ v u. starts_expression_statement (input_at 0 v) ≡ true → starts_expression_statement (input_at 0 u) ≡ true) begins_kept a b l h;
    heads = λ a b l h. by_places (λ v u. starts_head (input_at 0 v) ≡ true → starts_head (input_at 0 u) ≡ true) heads_kept a b l h;
    ofs = λ w a b l h. by_places (λ v u. starts_of w (input_at 0 v) ≡ true → starts_of w (input_at 0 u) ≡ true) (ofs_kept w) a b l h;
    usings = usings_of;
    defaults = λ a b l h. by_places (λ v u. starts_default (input_at 0 v) ≡ true → starts_default (input_at 0 u) ≡ true) defaults_kept a b l h;
    take = λ c k ts t q h l. let z = taken {P = λ o. kind o ≡ k} ts t q h.2 l (first_kind ts.last ts.places q.places ∙ h.0) in (z.0, z.1, (z.2, tt, z.3));
    take_word = λ c k ts t q h l. let z = taken {P = λ o. (kind o ≡ k) × (barred c.context o ≡ false)} ts t q h.3 l (first_kind ts.last ts.places q.places ∙ h.0, first_same (λ v. barred c.context (input_at 0 v)) (λ x l v. refl) ts.places q.places ∙ h.1) in (z.0, z.1, (z.2.0, z.2.1, tt, z.3));
    take_any = λ c n ts t q h l. let z = taken {P = λ o. (is_word (kind o) ≡ true) × (text o ≡ n)} ts t q h.3 l (ap is_word (first_kind ts.last ts.places q.places) ∙ h.0, first_same (λ v. text (input_at 0 v)) (λ x l v. refl) ts.places q.places ∙ h.1) in (z.0, z.1, (z.2.0, z.2.1, tt, z.3));
    take_name = λ c n ts t q h l. let z = taken {P = λ o. (is_word (kind o) ≡ true) × (no_name c.context (kind o) ≡ false) × (barred c.context o ≡ false) × (text o ≡ n)} ts t q h.5 l (
      ap is_word (first_kind ts.last ts.places q.places) ∙ h.0,
      ap (λ (k : ℕ). no_name c.context k) (first_kind ts.last ts.places q.places) ∙ h.1,
      first_same (λ v. barred c.context (input_at 0 v)) (λ x l v. refl) ts.places q.places ∙ h.2,
      first_same (λ v. text (input_at 0 v)) (λ x l v. refl) ts.places q.places ∙ h.3,
    ) in (z.0, z.1, (z.2.0, z.2.1, z.2.2, z.2.3, tt, z.3));
    take_in = λ c g k n ts t q h l. let z = taken {P = λ o. kind o ≡ k} ts t q h.2 l (first_kind ts.last ts.places q.places ∙ h.0) in (z.0, z.1, (z.2, tt, z.3));
  }
    where
      by_listed : (d : Code) (m : Input) (t : Tree) (b : Bool) → pauses d (ends t) m ≡ true → pauses d (if b && ((right_brace_kind == let_kind) && is_name t) then let_end else ends t) m ≡ true
      by_listed d m t true h = h
      by_listed d m t false h = h

-- what is like a rest, and what goes on with it
pub cut_here : (r : Input) → (cut r).Like r (input_at r.last (closing r.places))
unfolding cut
cut_here r = at_rest r

pub cut_front : (r a b : Input) → (cut r).Like a b → (front : List PlacedToken) × (a.places ≡ front ++ r.places)
unfolding cut
cut_front r a b l = (l.front, l.left)

-- and what it is like
pub cut_like : (r a b : Input) → (cut r).Like a b → (front : List PlacedToken) × (a.places ≡ front ++ r.places) × (b ≡ input_at a.last (front ++ closing r.places))
unfolding cut
cut_like r a b l = (l.front, l.left, ap₂ (λ (n : ℕ) (v : List PlacedToken). input_at n v) (sym l.last) l.right)

-- ---- the law

abbrev pub unplaced_by : Code → Code
unplaced_by c = record c { placed = false }

-- the front, and what it produces before a brace
pub cuts_to : (t : Tree) (c : Code) (ts r : Input) → Produces t c ts r → (front : List PlacedToken) × (ts.places ≡ front ++ r.places) × Produces t (unplaced_by c) (input_at ts.last (front ++ closing r.places)) (input_at r.last (closing r.places))
unfolding cut
cuts_to t c ts r h = let z = move false (cut r) t c ts r (input_at r.last (closing r.places)) h (at_rest r) in
    (z.1.front, z.1.left, subst (λ (v : List PlacedToken). Produces t (unplaced_by c) (input_at ts.last v) (input_at r.last (closing r.places))) z.1.right (subst (λ (n : ℕ). Produces t (unplaced_by c) (input_at n z.0.places) (input_at r.last (closing r.places))) (sym z.1.last) z.2))

pub cuts_off : CutsOff
cuts_off t c ts r h = let z = cuts_to t c ts r h in (z.0, closing r.places, z.1, is_closing r.places, z.2)
