-- The units of a string that is read are units.
use Rattle.std.proofs.Common.{◌≡◌, ℕ, ◌<◌, ◌≤◌, inl, inr, ⊎_elim, true, false, List, [], ◌∷◌, ◌++◌, refl, sym, ap, subst, ◌∙◌, arith}
use Rattle.std.specs.Prelude.{nat_lt, nat_le, ◌^◌}
use Rattle.std.specs.Char.{is_digit}
use Rattle.std.specs.Char.Escape.{encode_utf16}
use Rattle.std.specs.List.{flat_map}
use Rattle.std.specs.Str.Parse.{digits_value, AllDigits}
use Rattle.std.proofs.lemmas.Bool.{cases_Bool, and_parts, ltb-true, ltb-false}
use Rattle.std.proofs.lemmas.Bool.Decides.{nat_tests}
use Rattle.std.proofs.lemmas.Int.Digits.{digits_value-lt}
use lib.Utf8.{scalars, scalar}
use Rattle.lex_pieces.specs.Runs.{Each}
use Rattle.lex_literal.specs.declared.escape.Escape.{Escape}
use Rattle.lex_literal.specs.declared.escape.Escape.TheVariants.{Continuation, Code, Legacy}
use Rattle.lex_literal.specs.Escapes.{IsEscape, single, is_eight_or_nine}
use Rattle.lex_literal.specs.Units.{CodeFits, escape_units}
use Rattle.lex_literal.specs.Strings.{Piece, Plain, Escaped, Pieces, piece_units}
use Rattle.lex_literal.proofs.EscapeLemmas.{low_is_octal}
use Rattle.print_spelling.proofs.FormLemmas.{one_unit, two_units, lead_low, trail_low}
use Rattle.print_spelling.specs.String.CodePoints.{AreUnits}
use Rattle.again_laws.specs.Leaf.Laws.{StringUnits}
use Rattle.again_laws.proofs.tokens.Known.{left}

scalar_small : (c : ℕ) → scalar c ≡ true → c < 0x110000
scalar_small c h = grind (arith, nat_tests)

single_small : (c : ℕ) → c < 0x110000 → single c < 0x110000
single_small c h = grind (arith, nat_tests)

code_small : (x : ℕ) → nat_le x 0x10FFFF ≡ true → x < 0x110000
code_small x h = grind (arith, nat_tests)

nine_small : (n : ℕ) → is_eight_or_nine n ≡ true → n < 0x110000
nine_small n h = grind (arith, nat_tests)

each_digits : (r : ℕ) (cs : List ℕ) → Each (λ c. is_digit c r) cs → AllDigits r cs
each_digits r [] h = tt
each_digits r (c ∷ cs) h = (ltb-true _ _ h.0, each_digits r cs h.1)

as_small : (n x : ℕ) → n ≡ x → x < 0x110000 → n < 0x110000
as_small n x e h = subst (λ m. m < 0x110000) (sym e) h

under : (x b : ℕ) → b ≤ 0x110000 → x < b → x < 0x110000
under x b h g = omega arith

first_small : (c : ℕ) (m r : List ℕ) → m ≡ c ∷ r → scalars m ≡ true → c < 0x110000
first_small c m r e s = scalar_small c (and_parts (scalar c) (scalars r) (sym (ap scalars e) ∙ s)).0

fits : (e : Escape) (m r : List ℕ) → IsEscape e m r → scalars m ≡ true → CodeFits e
fits Continuation m r h s = tt
fits (Code n) m r (inl a) s = as_small n (single a.0) a.3 (single_small a.0 (first_small a.0 m r a.1 s))
fits (Code n) m r (inr (inl a)) s = as_small n 0 a.2 (omega arith)
fits (Code n) m r (inr (inr (inl a))) s = as_small n _ a.4 (under _ (16 ^ 2) (omega arith) (digits_value-lt 16 (a.0 ∷ a.1 ∷ []) (each_digits 16 (a.0 ∷ a.1 ∷ []) a.3)))
fits (Code n) m r (inr (inr (inr (inl a)))) s = as_small n _ a.6 (under _ (16 ^ 4) (omega arith) (digits_value-lt 16 (a.0 ∷ a.1 ∷ a.2 ∷ a.3 ∷ []) (each_digits 16 (a.0 ∷ a.1 ∷ a.2 ∷ a.3 ∷ []) a.5)))
fits (Code n) m r (inr (inr (inr (inr a)))) s = as_small n _ a.4 (code_small (digits_value 16 a.0) (and_parts _ _ a.3).1)
fits (Legacy n) m r (inl a) s = as_small n _ a.3 (under _ (8 ^ 1) (omega arith) (digits_value-lt 8 (a.0 ∷ []) (each_digits 8 (a.0 ∷ []) (a.2, tt))))
fits (Legacy n) m r (inr (inl a)) s = as_small n _ a.4 (under _ (8 ^ 2) (omega arith) (digits_value-lt 8 (a.0 ∷ a.1 ∷ []) (each_digits 8 (a.0 ∷ a.1 ∷ []) a.3)))
fits (Legacy n) m r (inr (inr (inl a))) s = as_small n _ a.6 (under _ (8 ^ 3) (omega arith) (digits_value-lt 8 (a.0 ∷ a.1 ∷ a.2 ∷ []) (each_digits 8 (a.0 ∷ a.1 ∷ a.2 ∷ []) (low_is_octal a.0 a.4, a.5))))
fits (Legacy n) m r (inr (inr (inr a))) s = nine_small n a.1

escape_left : (e : Escape) (m r : List ℕ) → IsEscape e m r → scalars m ≡ true → scalars r ≡ true
escape_left Continuation m r (inl a) s = left (13 ∷ 10 ∷ []) r m a s
escape_left Continuation m r (inr a) s = left (a.0 ∷ []) r m a.1 s
escape_left (Code n) m r (inl a) s = left (a.0 ∷ []) r m a.1 s
escape_left (Code n) m r (inr (inl a)) s = left (48 ∷ []) r m a.0 s
escape_left (Code n) m r (inr (inr (inl a))) s = left (120 ∷ a.0 ∷ a.1 ∷ []) r m a.2 s
escape_left (Code n) m r (inr (inr (inr (inl a)))) s = left (117 ∷ a.0 ∷ a.1 ∷ a.2 ∷ a.3 ∷ []) r m a.4 s
escape_left (Code n) m r (inr (inr (inr (inr a)))) s = left (125 ∷ []) r (125 ∷ r) refl (left (117 ∷ 123 ∷ a.0) (125 ∷ r) m a.1 s)
escape_left (Legacy n) m r (inl a) s = left (a.0 ∷ []) r m a.1 s
escape_left (Legacy n) m r (inr (inl a)) s = left (a.0 ∷ a.1 ∷ []) r m a.2 s
escape_left (Legacy n) m r (inr (inr (inl a))) s = left (a.0 ∷ a.1 ∷ a.2 ∷ []) r m a.3 s
escape_left (Legacy n) m r (inr (inr (inr a))) s = left (n ∷ []) r m a.0 s

units_of : (c : ℕ) → c < 0x110000 → AreUnits (encode_utf16 c)
units_of c h = ⊎_elim
    (λ (t : nat_lt c 65536 ≡ true). let g = ltb-true c 65536 t in subst AreUnits (sym (one_unit c g)) (g, tt))
    (λ (f : nat_lt c 65536 ≡ false). let g : 65536 ≤ c = ltb-false c 65536 f in subst AreUnits (sym (two_units c g)) (lead_low c g h, (trail_low c, tt)))
    (cases_Bool (nat_lt c 65536))

escape_are : (e : Escape) → CodeFits e → AreUnits (escape_units e)
escape_are Continuation h = tt
escape_are (Code n) h = units_of n h
escape_are (Legacy n) h = units_of n h

join : (us vs : List ℕ) → AreUnits us → AreUnits vs → AreUnits (us ++ vs)
join [] vs a b = b
join (u ∷ us) vs a b = (a.0, join us vs a.1 b)

pieces_are : (q : ℕ) (ps : List Piece) (text r : List ℕ) → Pieces q ps text r → scalars text ≡ true → AreUnits (flat_map piece_units ps)
pieces_are q [] text r h s = tt
pieces_are q (Plain c ∷ ps) text r h s = join (encode_utf16 c) (flat_map piece_units ps) (units_of c (first_small c text h.0 h.1.0 s)) (pieces_are q ps h.0 r h.2 (left (c ∷ []) h.0 text h.1.0 s))
pieces_are q (Escaped e ∷ ps) text r h s =
    let m = left (92 ∷ []) h.1.0 text h.1.1 s in
    join (escape_units e) (flat_map piece_units ps) (escape_are e (fits e h.1.0 h.0 h.1.2 m)) (pieces_are q ps h.0 r h.2 (escape_left e h.1.0 h.0 h.1.2 m))

pub string_units : StringUnits
string_units u l text rest s h = let i = h.1 in subst AreUnits (sym h.2) (pieces_are i.0 h.0 i.1 (i.0 ∷ rest) i.4 (left (i.0 ∷ []) i.1 text i.3 s))
