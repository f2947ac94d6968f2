-- using.
use Rattle.std.proofs.Common.{[], ◌∷◌, codes, refl}
use Rattle.grammar_spec.proofs.reader.Rows.{Hold, opened, full_row, no_script, script_row}

rows_1 : Hold (
    full_row (codes "{using a=b}") (codes "(block (using (let a b)))") ∷
    full_row (codes "using a=b,c=d") (codes "(using (let a b) (let c d))") ∷
    full_row (codes "await using a=b") (codes "(using (let a b))") ∷
    full_row (codes "using\na") (codes "(do using) (do a)") ∷
    full_row (codes "for(using a of b);") (codes "(forof (using (let a -)) b (empty))") ∷
    full_row (codes "for(using of b);") (codes "(forof using b (empty))") ∷
    full_row (codes "using[a]") (codes "(do (. using (at a)))") ∷
    no_script (codes "using a=b") ∷
    script_row (codes "using") (codes "(do using)") ∷ [])
unfolding opened
rows_1 = refl
