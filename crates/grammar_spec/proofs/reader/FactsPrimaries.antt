-- Primaries.
use Rattle.std.proofs.Common.{[], ◌∷◌, codes, refl}
use Rattle.grammar_spec.proofs.reader.Rows.{Hold, opened, no_script, script_row}

rows_1 : Hold (
    script_row (codes "this") (codes "(do this)") ∷
    script_row (codes "null;true;false") (codes "(do null) (do true) (do false)") ∷
    script_row (codes "1.5") (codes "(do 1.5)") ∷
    script_row (codes "10n") (codes "(do 10n)") ∷
    script_row (codes "/a/g") (codes "(do /a/g)") ∷
    script_row (codes "[]") (codes "(do (array))") ∷
    script_row (codes "[1,,]") (codes "(do (array 1 _))") ∷
    script_row (codes "[,]") (codes "(do (array _))") ∷
    script_row (codes "[a,...b,]") (codes "(do (array a (... b)))") ∷
    script_row (codes "[,,a]") (codes "(do (array _ _ a))") ∷
    no_script (codes "[a b]") ∷
    no_script (codes "[a") ∷ [])
unfolding opened
rows_1 = refl

rows_2 : Hold (
    script_row (codes "((a))") (codes "(do (paren (paren a)))") ∷
    no_script (codes "()") ∷
    no_script (codes "(a,)") ∷
    no_script (codes "(...a)") ∷ [])
unfolding opened
rows_2 = refl
