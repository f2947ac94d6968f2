-- A string in quotes is written in scalar values.
use Rattle.std.proofs.Common.{ℕ, ◌<◌, Bool, true, false, List, [], ◌∷◌, refl, arith}
use Rattle.std.specs.Prelude.{nat_lt, if◌then◌else◌}
use Rattle.print_spelling.specs.declared.style.Style.{Style}
use Rattle.print_spelling.specs.declared.string.quoted.Behind.{Behind}
use Rattle.print_spelling.specs.declared.string.quoted.Behind.TheVariants.{Other}
use Rattle.print_spelling.specs.String.CodePoints.{AreCodes, code_points}
use Rattle.print_spelling.specs.String.Strings.{form_of, behind, chars_text, count, quote_of}
use Rattle.again_laws.proofs.leaf.Scalars.{Scal, low, stop, written_scal}
use Rattle.print_spelling.proofs.string.CodePointLemmas.{codes_are}
use Rattle.print_spelling.proofs.string.QuotedLemmas.{can_write}
use Rattle.again_laws.specs.Leaf.Laws.{QuotedScalars}

chars_scal : (style : Style) (q : ℕ) (b : Behind) (cs m : List ℕ) → q < 128 → AreCodes cs → Scal m → Scal (chars_text style q b cs m)
chars_scal style q b [] m l a e = e
chars_scal style q b (c ∷ cs) m l a e = written_scal (form_of style q b c cs) c (chars_text style q (behind style b c) cs m) (can_write style q c b cs (form_of style q b c cs) a.0 l refl) (chars_scal style q (behind style b c) cs m l a.1 e)

quote_small : (b : Bool) → (if b then 39 else 34) < 128
quote_small true = omega arith
quote_small false = omega arith

pub quoted_scalars : QuotedScalars
quoted_scalars style u a =
    let cs = code_points u in
    let q = quote_of cs in
    let l : q < 128 = quote_small (nat_lt (count 39 cs) (count 34 cs)) in
    (low l (chars_scal style q Other cs (q ∷ []) l (codes_are u a) (low l stop))).so
