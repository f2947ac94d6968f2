-- Literals.
use Rattle.std.proofs.Common.{[], ◌++◌, codes, refl}
use Rattle.print_layout_laws.proofs.Rows.{Hold, laid_out, script}

rows_1 : Hold (
    script (codes "100") (codes "100;\n") (codes "100") ++
    script (codes "true") (codes "true;\n") (codes "true") ++
    script (codes "null") (codes "null;\n") (codes "null") ++
    [])
unfolding laid_out
rows_1 = refl
