-- Whether a word stands at a front.
use Rattle.std.proofs.Common.{◌≡◌, ◌≢◌, ℕ, zero, suc, ◌<◌, ◌≤◌, ◌⊎◌, inl, inr, ⊎_elim, Bool, true, false, ◌&&◌, List, [], ◌∷◌, ◌++◌, length, length-append, refl, sym, ap, subst, ◌∙◌, arith}
use Rattle.std.specs.Prelude.{◌==◌, Option, Some, None as Nothing}
use Rattle.std.specs.Char.{IsScalar}
use lib.Utf8.{scalar}
use Rattle.std.proofs.lemmas.Bool.{cases_Bool, false≢true, eqb-true, and_parts}
use Rattle.lex_pieces.specs.Escapes.{Coded, IsDigits, IsEscape, digits}
use Rattle.lex_pieces.specs.Names.{IsName, IsNameChar, Spell, is_continuing, is_name_char}
use Rattle.lex_pieces.specs.Runs.{Ends}
use Rattle.lex_pieces.proofs.EscapeLemmas.{digits_is, reads_digits, one_escape}
use Rattle.lex_pieces.proofs.NameLemmas.{one_char}
use Rattle.lex_pieces.proofs.ListLemmas.{same_head, same_tail, nil_cons}
use Rattle.lex_token.specs.Lexemes.{SpecLexeme, IsMarked, IsWord, word_lexeme}
use Rattle.lex_step_laws.proofs.Deciding.{Found, None, Decided, same_list, ends_or_not}

-- ---- escapes

digits_shorter : (text : List ℕ) (v : ℕ) (rest : List ℕ) → IsDigits text v rest → length rest < length text
digits_shorter text v rest (inl h) = let e = ap length h.4 in omega (arith, e)
digits_shorter text v rest (inr h) = let e = ap length h.1 in omega (arith, e, length-append h.0 (125 ∷ rest))

escape_shorter : (text : List ℕ) (v : ℕ) (rest : List ℕ) → IsEscape text v rest → length rest < length text
escape_shorter text v rest h = let e = ap length h.1 in let k = digits_shorter h.0 v rest h.2 in omega (arith, e, k)

by_digits : (text : List ℕ) (o : Option Coded) → digits text ≡ o → Decided IsDigits text
by_digits text Nothing e = inr (λ v rest h. none_some (v, rest) (sym e ∙ reads_digits text v rest h))
  where
    none_some : (x : Coded) → Nothing ≡ Some x → ⊥
    none_some x k = cc
by_digits text (Some x) e = inl (x.0, x.1, digits_is text x.0 x.1 e)

escape_by : (a b : ℕ) (inner : List ℕ) → (a == 92 && b == 117) ≡ true → Decided IsDigits inner → Decided IsEscape (a ∷ b ∷ inner)
escape_by a b inner t (inl h) =
    let p = and_parts (a == 92) (b == 117) t in
    inl (h.0, h.1, (inner, ap (λ (c : ℕ). c ∷ b ∷ inner) (eqb-true a 92 p.0) ∙ ap (λ (c : ℕ). 92 ∷ c ∷ inner) (eqb-true b 117 p.1), h.2))
escape_by a b inner t (inr h) =
    inr (λ v rest g. h v rest (subst (λ l. IsDigits l v rest) (sym (same_tail b 117 inner g.0 (same_tail a 92 (b ∷ inner) (117 ∷ g.0) g.1))) g.2))

no_escape_by : (a b : ℕ) (inner : List ℕ) → (a == 92 && b == 117) ≡ false → None IsEscape (a ∷ b ∷ inner)
no_escape_by a b inner f v rest g =
    let first : a ≡ 92 = same_head a 92 (b ∷ inner) (117 ∷ g.0) g.1 in
    let second : b ≡ 117 = same_head b 117 inner g.0 (same_tail a 92 (b ∷ inner) (117 ∷ g.0) g.1) in
    let k : (a == 92 && b == 117) ≡ true = rw (first, second) refl in
    false≢true (sym f ∙ k)

escape_or_not : (text : List ℕ) → Decided IsEscape text
escape_or_not [] = inr (λ v rest g. nil_cons 92 (117 ∷ g.0) g.1)
escape_or_not (a ∷ []) = inr (λ v rest g. nil_cons 117 g.0 (same_tail a 92 [] (117 ∷ g.0) g.1))
escape_or_not (a ∷ b ∷ inner) = ⊎_elim
    (λ (t : (a == 92 && b == 117) ≡ true). escape_by a b inner t (by_digits inner (digits inner) refl))
    (λ (f : (a == 92 && b == 117) ≡ false). inr (no_escape_by a b inner f))
    (cases_Bool (a == 92 && b == 117))

-- ---- characters of names

pub char_shorter : (first : Bool) (text : List ℕ) (c : ℕ) (rest : List ℕ) → IsNameChar first text c rest → length rest < length text
char_shorter first text c rest h = ⊎_elim
    (λ (e : text ≡ c ∷ rest). let k = ap length e in omega (arith, k))
    (λ (g : IsScalar c × IsEscape text c rest). escape_shorter text c rest g.1)
    h.1

no_char_nil : (first : Bool) → None (IsNameChar first) []
no_char_nil first c rest h = ⊎_elim
    (λ (e : [] ≡ c ∷ rest). nil_cons c rest e)
    (λ (g : IsScalar c × IsEscape [] c rest). nil_cons 92 (117 ∷ g.1.0) g.1.1)
    h.1

-- a bare character that is none of a name, and no escape of one
no_char_by : (first : Bool) (d : ℕ) (ds : List ℕ) → is_name_char first d ≡ false
    → ((c : ℕ) (rest : List ℕ) → IsEscape (d ∷ ds) c rest → IsScalar c → is_name_char first c ≡ true → ⊥) → None (IsNameChar first) (d ∷ ds)
no_char_by first d ds f n c rest h = ⊎_elim
    (λ (e : d ∷ ds ≡ c ∷ rest). false≢true (sym f ∙ ap (is_name_char first) (same_head d c ds rest e) ∙ h.0))
    (λ (g : IsScalar c × IsEscape (d ∷ ds) c rest). n c rest g.1 g.0 h.0)
    h.1

escaped_by : (first : Bool) (d : ℕ) (ds : List ℕ) → is_name_char first d ≡ false → Decided IsEscape (d ∷ ds) → Decided (IsNameChar first) (d ∷ ds)
escaped_by first d ds f (inr n) = inr (no_char_by first d ds f (λ c rest h s p. n c rest h))
escaped_by first d ds f (inl h) = ⊎_elim
    (λ (s : scalar h.0 ≡ true). ⊎_elim
    (λ (p : is_name_char first h.0 ≡ true). inl (h.0, h.1, (p, inr (s, h.2))))
    (λ (p : is_name_char first h.0 ≡ false). inr (no_char_by first d ds f
    (λ c rest g t q. false≢true (sym p ∙ ap (is_name_char first) (one_escape (d ∷ ds) h.0 c h.1 rest h.2 g).0 ∙ q))))
    (cases_Bool (is_name_char first h.0)))
    (λ (s : scalar h.0 ≡ false). inr (no_char_by first d ds f
    (λ c rest g t q. false≢true (sym s ∙ ap scalar (one_escape (d ∷ ds) h.0 c h.1 rest h.2 g).0 ∙ t))))
    (cases_Bool (scalar h.0))

char_or_not : (first : Bool) (text : List ℕ) → Decided (IsNameChar first) text
char_or_not first [] = inr (no_char_nil first)
char_or_not first (d ∷ ds) = ⊎_elim
    (λ (t : is_name_char first d ≡ true). inl (d, ds, (t, inl refl)))
    (λ (f : is_name_char first d ≡ false). escaped_by first d ds f (escape_or_not (d ∷ ds)))
    (cases_Bool (is_name_char first d))

-- ---- names

-- what a name goes on with, up to its end
abbrev Rest : Bool → List ℕ → List ℕ → List ℕ → Type 0
Rest first text cs rest = Spell first text cs rest × Ends is_continuing rest

rest_by : (first : Bool) (text : List ℕ) (c : ℕ) (next : List ℕ) → IsNameChar first text c next → Decided (Rest false) next
    → ((cs : List ℕ) × (rest : List ℕ) × Rest first text (c ∷ cs) rest) ⊎ ((d : ℕ) (cs : List ℕ) (rest : List ℕ) → Rest first text (d ∷ cs) rest → ⊥)
rest_by first text c next h (inl g) = inl (g.0, g.1, ((next, h, g.2.0), g.2.1))
rest_by first text c next h (inr n) =
    inr (λ d cs rest g. n cs rest (subst (λ t. Spell false t cs rest) (one_char first text d c g.0.0 next g.0.1 h).1 g.0.2, g.1))

-- the same with at least one character
abbrev Some_Rest : Bool → List ℕ → Type 0
Some_Rest first text = ((c : ℕ) × (cs : List ℕ) × (rest : List ℕ) × Rest first text (c ∷ cs) rest)
    ⊎ ((d : ℕ) (cs : List ℕ) (rest : List ℕ) → Rest first text (d ∷ cs) rest → ⊥)

some_by : (first : Bool) (text : List ℕ) → Decided (IsNameChar first) text → ((c : ℕ) (next : List ℕ) → IsNameChar first text c next → Decided (Rest false) next) → Some_Rest first text
some_by first text (inr n) more = inr (λ d cs rest g. n d g.0.0 g.0.1)
some_by first text (inl h) more = ⊎_elim
    (λ (g : (cs : List ℕ) × (rest : List ℕ) × Rest first text (h.0 ∷ cs) rest). inl (h.0, g.0, g.1, g.2))
    (λ (g : (d : ℕ) (cs : List ℕ) (rest : List ℕ) → Rest first text (d ∷ cs) rest → ⊥). inr g)
    (rest_by first text h.0 h.1 h.2 (more h.0 h.1 h.2))

none_rest : (text : List ℕ) → (Ends is_continuing text → ⊥) → ((d : ℕ) (cs : List ℕ) (rest : List ℕ) → Rest false text (d ∷ cs) rest → ⊥) → None (Rest false) text
none_rest text e n [] rest h = e (subst (Ends is_continuing) (sym h.0) h.1)
none_rest text e n (c ∷ cs) rest h = n c cs rest h

goes_by : (text : List ℕ) → Ends is_continuing text ⊎ (Ends is_continuing text → ⊥) → Some_Rest false text → Decided (Rest false) text
goes_by text (inl e) s = inl ([], text, (refl, e))
goes_by text (inr n) (inl g) = inl (g.0 ∷ g.1, g.2, g.3)
goes_by text (inr n) (inr g) = inr (none_rest text n g)

rest_or_not : (n : ℕ) (text : List ℕ) → length text ≤ n → Decided (Rest false) text
rest_or_not n [] h = inl ([], [], (refl, tt))
rest_or_not zero (c ∷ cs) h = absurd (omega (arith, h))
rest_or_not (suc n) (c ∷ cs) h =
    goes_by (c ∷ cs) (ends_or_not is_continuing (c ∷ cs)) (some_by false (c ∷ cs) (char_or_not false (c ∷ cs))
    (λ d next g. rest_or_not n next (let k = char_shorter false (c ∷ cs) d next g in omega (arith, h, k))))

no_name : (text : List ℕ) → ((d : ℕ) (cs : List ℕ) (rest : List ℕ) → Rest true text (d ∷ cs) rest → ⊥) → None IsName text
no_name text n [] rest h = h.0 refl
no_name text n (c ∷ cs) rest h = n c cs rest (h.1, h.2)

no_list : (c : ℕ) (cs : List ℕ) → c ∷ cs ≢ []
no_list c cs e = nil_cons c cs (sym e)

name_or_not : (text : List ℕ) → Decided IsName text
name_or_not text = ⊎_elim
    (λ (g : (c : ℕ) × (cs : List ℕ) × (rest : List ℕ) × Rest true text (c ∷ cs) rest). inl (g.0 ∷ g.1, g.2, (no_list g.0 g.1, g.3.0, g.3.1)))
    (λ (g : (d : ℕ) (cs : List ℕ) (rest : List ℕ) → Rest true text (d ∷ cs) rest → ⊥). inr (no_name text g))
    (some_by true text (char_or_not true text) (λ c next h. rest_or_not (length next) next (omega arith)))

marked : (text name rest : List ℕ) → (text ≡ name ++ rest) ⊎ (text ≡ name ++ rest → ⊥) → (escaped : Bool) × IsMarked text name rest escaped
marked text name rest (inl e) = (false, e)
marked text name rest (inr n) = (true, n)

pub word_or_not : (text : List ℕ) → Decided IsWord text
word_or_not text = ⊎_elim
    (λ (g : Found IsName text). let m = marked text g.0 g.1 (same_list text (g.0 ++ g.1)) in inl (word_lexeme g.0 m.0, g.1, (g.0, m.0, g.2, m.1, refl)))
    (λ (n : None IsName text). inr (λ x rest h. n h.0 rest h.2))
    (name_or_not text)

-- ---- a word takes characters

spell_no_longer : (first : Bool) (text cs rest : List ℕ) → Spell first text cs rest → length rest ≤ length text
spell_no_longer first text [] rest h = let e = ap length h in omega (arith, e)
spell_no_longer first text (c ∷ cs) rest h =
    let k = char_shorter first text c h.0 h.1 in let l = spell_no_longer false h.0 cs rest h.2 in omega (arith, k, l)

name_shorter : (text name rest : List ℕ) → IsName text name rest → length rest < length text
name_shorter text [] rest h = absurd (h.0 refl)
name_shorter text (c ∷ cs) rest h =
    let k = char_shorter true text c h.1.0 h.1.1 in let l = spell_no_longer false h.1.0 cs rest h.1.2 in omega (arith, k, l)

pub word_shorter : (text : List ℕ) (x : SpecLexeme) (rest : List ℕ) → IsWord text x rest → length rest < length text
word_shorter text x rest h = name_shorter text h.0 rest h.2
