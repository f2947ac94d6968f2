-- Places in a text, by the characters that are left.
use Rattle.std.proofs.Common.{◌≡◌, ℕ, ◌+◌, ◌-◌, List, length, sym, ap, ◌∙◌, arith, chars}
use Rattle.std.specs.Prelude.{drop}
use Rattle.std.specs.Str.{IsUtf8}
use Rattle.std.proofs.lemmas.Str.{encodes-chars}
use Rattle.lex_pieces.specs.Places.{bytes}
use Rattle.ecma_front.specs.Programs.{place_before}

-- The bytes before what is left of a text lead to the place before it.
pub place_of_rest : (n : ℕ) (text rest : List ℕ) → IsUtf8 text → IsUtf8 rest → chars rest ≡ drop (length (chars text) - n) (chars text)
    → 1 + (length text - length rest) ≡ place_before n (chars text)
place_of_rest n text rest u v e =
    let a : bytes (chars text) ≡ length text = ap length (encodes-chars text u) in
    let b : bytes (drop (length (chars text) - n) (chars text)) ≡ length rest = sym (ap bytes e) ∙ ap length (encodes-chars rest v) in
    omega (arith, a, b)
