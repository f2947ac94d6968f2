-- No token but the characters of a template ends with CR (ECMA-262, clause 12).
use Rattle.std.proofs.Common.{◌≡◌, ℕ, inl, inr, ⊎_elim, Bool, true, false, not, List, [], ◌∷◌, ◌++◌, refl, sym, ap, ◌∙◌, append_assoc}
use Rattle.std.specs.Prelude.{◌==◌}
use Rattle.std.specs.List.{list_all}
use Rattle.std.proofs.lemmas.Bool.{cases_Bool, false≢true, and_parts, not-true, eqb-true}
use Rattle.std.proofs.lemmas.List.{append-nil}
use Rattle.unicode_ident.proofs.Computing.{unicode_ident}
use Rattle.base_token.specs.declared.token.TokenKind.{TokenKind}
use Rattle.lex_pieces.specs.Characters.{is_name_start, is_name_part, is_hex_digit}
use Rattle.lex_pieces.specs.Escapes.{IsDigits}
use Rattle.lex_pieces.specs.Names.{is_name_char, IsNameChar, Spell}
use Rattle.lex_pieces.specs.Punctuators.{Spelling, punctuators, IsAmong}
use Rattle.lex_pieces.specs.Runs.{Each}
use Rattle.lex_literal.specs.declared.template.Ending.{Ending}
use Rattle.lex_literal.specs.declared.template.Ending.TheVariants.{BackQuote, Substitution}
use Rattle.lex_literal.specs.Numbers.{Meaning, Number, BigInt, Spells}
use Rattle.lex_literal.specs.Strings.{Piece, Plain, Escaped, Pieces, is_quote}
use Rattle.lex_literal.specs.Templates as templates
use Rattle.lex_literal.proofs.EscapeLemmas.{escape_front}
use Rattle.lex_literal.proofs.NumeralLemmas.{numeral_starts}
use Rattle.lex_token.specs.declared.goal.LexicalGoal.{LexicalGoal}
use Rattle.lex_token.specs.Lexemes.{SpecLexeme, IsOrdinary, IsOutside, IsEnd}
use Rattle.print_pages_spec.specs.Lines.Laws.{ends_with_cr}
use Rattle.again_laws.proofs.text.NumbersWithoutCr.{number_closed}

-- ---- what stands last

-- Where what follows doesn't end with CR, the text doesn't.
abbrev pub Keeps : List ℕ → List ℕ → Type 0
Keeps text rest = ends_with_cr rest ≡ false → ends_with_cr text ≡ false

one : (c : ℕ) (rest : List ℕ) → (c == 13) ≡ false → Keeps (c ∷ rest) rest
one c [] e h = e
one c (d ∷ ds) e h = h

onto : (x : ℕ) (xs : List ℕ) (c : ℕ) (rest : List ℕ) → ends_with_cr (x ∷ (xs ++ c ∷ rest)) ≡ ends_with_cr (xs ++ c ∷ rest)
onto x [] c rest = refl
onto x (y ∷ ys) c rest = refl

-- behind others, and then one that is no CR
pub behind : (xs : List ℕ) (c : ℕ) (rest : List ℕ) → (c == 13) ≡ false → Keeps (xs ++ c ∷ rest) rest
behind [] c rest e h = one c rest e h
behind (x ∷ xs) c rest e h = onto x xs c rest ∙ behind xs c rest e h

moved : (text other rest : List ℕ) → text ≡ other → Keeps other rest → Keeps text rest
moved text other rest e k h = ap ends_with_cr e ∙ k h

no_cr : (p : ℕ → Bool) → p 13 ≡ false → (c : ℕ) → p c ≡ true → (c == 13) ≡ false
no_cr p n c e = ⊎_elim
    (λ (t : (c == 13) ≡ true). absurd (false≢true (sym n ∙ (ap p (sym (eqb-true c 13 t)) ∙ e))))
    (λ (f : (c == 13) ≡ false). f)
    (cases_Bool (c == 13))

pub each_keeps : (p : ℕ → Bool) → p 13 ≡ false → (cs rest : List ℕ) → Each p cs → Keeps (cs ++ rest) rest
each_keeps p n [] rest e h = h
each_keeps p n (c ∷ cs) rest e h = one c (cs ++ rest) (no_cr p n c e.0) (each_keeps p n cs rest e.1 h)

-- ---- names (12.7)

part_13 : is_name_part 13 ≡ false
unfolding unicode_ident
part_13 = refl

start_13 : is_name_start 13 ≡ false
unfolding unicode_ident
start_13 = refl

char_no_cr : (first : Bool) (c : ℕ) → is_name_char first c ≡ true → (c == 13) ≡ false
char_no_cr true c e = no_cr is_name_start start_13 c e
char_no_cr false c e = no_cr is_name_part part_13 c e

digits_keep : (digits : List ℕ) (v : ℕ) (rest : List ℕ) → IsDigits digits v rest → Keeps (92 ∷ 117 ∷ digits) rest
digits_keep digits v rest (inl (a, b, c, d, e, f, g)) = moved (92 ∷ 117 ∷ digits) _ rest (ap (λ (l : List ℕ). 92 ∷ 117 ∷ l) e) (behind (92 ∷ 117 ∷ a ∷ b ∷ c ∷ []) d rest (no_cr is_hex_digit refl d f.1.1.1.0))
digits_keep digits v rest (inr (ds, e, some, each, w)) = moved (92 ∷ 117 ∷ digits) _ rest (ap (λ (l : List ℕ). 92 ∷ 117 ∷ l) e) (behind (92 ∷ 117 ∷ 123 ∷ ds) 125 rest refl)

char_keeps : (first : Bool) (text : List ℕ) (c : ℕ) (rest : List ℕ) → IsNameChar first text c rest → Keeps text rest
char_keeps first text c rest (e, inl f) = moved text (c ∷ rest) rest f (one c rest (char_no_cr first c e))
char_keeps first text c rest (e, inr (i, (digits, f, d))) = moved text (92 ∷ 117 ∷ digits) rest f (digits_keep digits c rest d)

name_keeps : (first : Bool) (text name rest : List ℕ) → Spell first text name rest → Keeps text rest
name_keeps first text [] rest h k = moved text rest rest h (λ e. e) k
name_keeps first text (c ∷ cs) rest h k = char_keeps first text c h.0 h.1 (name_keeps false h.0 cs rest h.2 k)

-- ---- numbers (12.9.3)

meaning_closed : (m : Meaning) (own : List ℕ) → Spells m own → ends_with_cr own ≡ false
meaning_closed (Number value) own h = number_closed own value h
meaning_closed (BigInt radix digits) own h = ap ends_with_cr h.1 ∙ behind h.0 110 [] refl refl

-- ---- strings (12.9.4)

pieces_end : (quote : ℕ) (ps : List Piece) (text rest : List ℕ) → Pieces quote ps text rest → (front : List ℕ) × (text ≡ front ++ rest)
pieces_end quote [] text rest e = ([], e)
pieces_end quote (Plain c ∷ ps) text rest (m, (e, f), h) =
    let t = pieces_end quote ps m rest h in (c ∷ t.0, e ∙ ap (λ (l : List ℕ). c ∷ l) t.1)
pieces_end quote (Escaped x ∷ ps) text rest (m, (behind, e, f), h) =
    let t = pieces_end quote ps m rest h in
    let a = escape_front x behind m f in
    (92 ∷ (a.0 ++ t.0), e ∙ ap (λ (l : List ℕ). 92 ∷ l) (a.1 ∙ (ap (λ (l : List ℕ). a.0 ++ l) t.1 ∙ sym (append_assoc a.0 t.0 rest))))

quote_no_cr : (c : ℕ) → is_quote c ≡ true → (c == 13) ≡ false
quote_no_cr c e = no_cr is_quote refl c e

-- ---- punctuators (12.8)

among_all : (p : List ℕ → Bool) (xs : List Spelling) (own : List ℕ) (kind : TokenKind) → list_all (λ (x : Spelling). p x.0) xs ≡ true → IsAmong xs own kind → p own ≡ true
among_all p [] own kind e h = absurd h
among_all p (x ∷ xs) own kind e (inl h) = ap p (sym h.0) ∙ (and_parts (p x.0) _ e).0
among_all p (x ∷ xs) own kind e (inr h) = among_all p xs own kind (and_parts (p x.0) _ e).1 h

abbrev is_some_text : List ℕ → Bool
is_some_text [] = false
is_some_text (c ∷ cs) = true

all_closed : list_all (λ (x : Spelling). not (ends_with_cr x.0)) punctuators ≡ true
all_closed = refl

all_some : list_all (λ (x : Spelling). is_some_text x.0) punctuators ≡ true
all_some = refl

-- ---- tokens

ordinary_closed : (text : List ℕ) (x : SpecLexeme) → IsOrdinary text x [] → ends_with_cr text ≡ false
ordinary_closed text x (inl (name, escaped, (some, spell, ends), marked, is)) = name_keeps true text name [] spell refl
ordinary_closed text x (inr (inl (m, own, h, e))) = ap ends_with_cr (h.parts ∙ append-nil own) ∙ meaning_closed m own h.spelled
ordinary_closed text x (inr (inr (units, own, legacy, (ps, (quote, m, q, e, h), us, old), parts, is))) =
    let t = pieces_end quote ps m (quote ∷ []) h in
    ap ends_with_cr (e ∙ ap (λ (l : List ℕ). quote ∷ l) t.1) ∙ behind (quote ∷ t.0) quote [] (quote_no_cr quote q) refl

-- a token that is the whole text, under a goal outside of templates
pub outside_closed : (goal : LexicalGoal) (text : List ℕ) (x : SpecLexeme) → IsOutside goal text x [] → ends_with_cr text ≡ false
outside_closed goal text x (inl h) = ordinary_closed text x h
outside_closed goal text x (inr (inl (o, (body, flags, (b, (after, e, (r, each, ends))), is)))) =
    ap ends_with_cr e ∙ behind (47 ∷ body) 47 after refl (ap ends_with_cr r ∙ each_keeps is_name_part part_13 flags [] each refl)
outside_closed goal text x (inr (inr (o, (kind, (dot, (own, a, e, most)), is)))) = ap ends_with_cr (e ∙ append-nil own) ∙ not-true (ends_with_cr own) (among_all (λ (l : List ℕ). not (ends_with_cr l)) punctuators own kind all_closed a)

ending_closed : (e : Ending) (text : List ℕ) → templates.Ends e text [] → ends_with_cr text ≡ false
ending_closed BackQuote text h = ap ends_with_cr h
ending_closed Substitution text h = ap ends_with_cr h

-- and one that ends the characters of a template
pub end_closed : (text : List ℕ) (x : SpecLexeme) → IsEnd text x [] → ends_with_cr text ≡ false
end_closed text x h = ending_closed h.0 text h.1

-- ---- no token is empty

no_name : (name : List ℕ) → (name ≡ [] → ⊥) → Spell true [] name [] → ⊥
no_name [] n h = n refl
no_name (c ∷ cs) n (rest, (e, inl f), h) = cc
no_name (c ∷ cs) n (rest, (e, inr (i, (digits, f, d))), h) = cc

no_ordinary : (x : SpecLexeme) → IsOrdinary [] x [] → ⊥
no_ordinary x (inl (name, escaped, (some, spell, ends), marked, is)) = no_name name some spell
no_ordinary x (inr (inl (m, own, h, e))) = false≢true (numeral_starts m own [] [] h)
no_ordinary x (inr (inr (units, own, legacy, (ps, (quote, m, q, e, h), us, old), parts, is))) = cc

pub no_outside : (goal : LexicalGoal) (x : SpecLexeme) → IsOutside goal [] x [] → ⊥
no_outside goal x (inl h) = no_ordinary x h
no_outside goal x (inr (inl (o, (body, flags, (b, (after, e, r)), is)))) = cc
no_outside goal x (inr (inr (o, (kind, (dot, (own, a, e, most)), is)))) =
    false≢true (ap is_some_text (e ∙ append-nil own) ∙ among_all is_some_text punctuators own kind all_some a)
