-- A text of the list of punctuators is the one at the front, by tests on that list (ECMA-262, 12.8).
use Rattle.std.proofs.Common.{◌≡◌, ℕ, ◌≤◌, inl, inr, ⊎_elim, Bool, true, false, cond, ◌&&◌, List, [], ◌∷◌, ◌++◌, length, Option, Some, None, refl, sym, ap, subst, ◌∙◌, arith}
use Rattle.std.specs.Prelude.{◌==◌, if◌then◌else◌, bytes_eq}
use Rattle.std.proofs.lemmas.Slice.Eq.{bytes_eq-Decides}
use Rattle.std.proofs.lemmas.Bool.{cases_Bool, false≢true, and_parts, eq-eqb}
use Rattle.base_token.specs.declared.token.TokenKind.{TokenKind}
use Rattle.lex_pieces.specs.Runs.{Ends}
use Rattle.lex_pieces.specs.Punctuators.{Spelling, punctuators, IsAmong, IsNumberDot, IsPunctuator}

-- ---- one of the list

unfoldable pub look : List Spelling → List ℕ → Option TokenKind
look [] s = None
look (x ∷ xs) s = if bytes_eq x.0 s then Some x.1 else look xs s

look_among : (xs : List Spelling) (s : List ℕ) (k : TokenKind) → look xs s ≡ Some k → IsAmong xs s k
unfolding look
look_among [] s k e = cc
look_among (x ∷ xs) s k e = ⊎_elim
    (λ (t : bytes_eq x.0 s ≡ true). let f : Some x.1 ≡ Some k = sym (ap (λ c. cond c (Some x.1) (look xs s)) t) ∙ e in
    inl ((bytes_eq-Decides x.0 s).0 t, (let g : x.1 ≡ k = cc in g)))
    (λ (f : bytes_eq x.0 s ≡ false). inr (look_among xs s k (sym (ap (λ c. cond c (Some x.1) (look xs s)) f) ∙ e)))
    (cases_Bool (bytes_eq x.0 s))

-- ---- no longer one

-- The other text is no longer, or goes on with a character that doesn't follow here.
unfoldable pub stays : (ℕ → Bool) → List ℕ → List ℕ → Bool
stays q s [] = true
stays q [] (m ∷ ms) = q m
stays q (c ∷ s) (m ∷ ms) = if c == m then stays q s ms else true

unfoldable pub all_stay : (ℕ → Bool) → List ℕ → List Spelling → Bool
all_stay q s [] = true
all_stay q s (x ∷ xs) = stays q s x.0 && all_stay q s xs

one_stays : (q : ℕ → Bool) (s : List ℕ) (xs : List Spelling) (other : List ℕ) (k : TokenKind) → all_stay q s xs ≡ true → IsAmong xs other k → stays q s other ≡ true
unfolding all_stay
one_stays q s [] other k e h = absurd h
one_stays q s (x ∷ xs) other k e (inl h) = subst (λ (o : List ℕ). stays q s o ≡ true) h.0 (and_parts (stays q s x.0) (all_stay q s xs) e).0
one_stays q s (x ∷ xs) other k e (inr h) = one_stays q s xs other k (and_parts (stays q s x.0) (all_stay q s xs) e).1 h

no_longer : (q : ℕ → Bool) (s other rest more : List ℕ) → stays q s other ≡ true → Ends q rest → s ++ rest ≡ other ++ more → length other ≤ length s
unfolding stays
no_longer q s [] rest more e n f = omega arith
no_longer q [] (m ∷ ms) [] more e n f = absurd (let k : [] ≡ m ∷ (ms ++ more) = f in cc)
no_longer q [] (m ∷ ms) (c ∷ cs) more e n f = let k : c ≡ m = (let g : c ∷ cs ≡ m ∷ (ms ++ more) = f in cc) in absurd (false≢true (sym n ∙ ap q k ∙ e))
no_longer q (c ∷ s) (m ∷ ms) rest more e n f =
    let k : c ≡ m = (let g : c ∷ (s ++ rest) ≡ m ∷ (ms ++ more) = f in cc) in
    let l : s ++ rest ≡ ms ++ more = (let g : c ∷ (s ++ rest) ≡ m ∷ (ms ++ more) = f in cc) in
    let d : stays q s ms ≡ true = sym (ap (λ b. cond b (stays q s ms) true) (eq-eqb c m k)) ∙ e in
    let r = no_longer q s ms rest more d n l in
    omega (arith, r)

-- A text of the list, before what none of the list goes on with.
pub punctuates : (q : ℕ → Bool) (s rest : List ℕ) (kind : TokenKind) → look punctuators s ≡ Some kind → all_stay q s punctuators ≡ true → Ends q rest → (IsNumberDot (s ++ rest) → ⊥)
    → IsPunctuator (s ++ rest) kind rest
punctuates q s rest kind e a n d = (
  d,
  (s, look_among punctuators s kind e, refl, λ other more k i f. no_longer q s other rest more (one_stays q s punctuators other k a i) n f),
)

-- no character, and any
abbrev pub never : ℕ → Bool
never c = false

abbrev pub always : ℕ → Bool
always c = true
