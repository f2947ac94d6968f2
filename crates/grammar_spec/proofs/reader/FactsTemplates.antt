-- Templates.
use Rattle.std.proofs.Common.{[], ◌∷◌, codes, refl}
use Rattle.grammar_spec.proofs.reader.Rows.{Hold, opened, no_script, script_row}

rows_1 : Hold (
    script_row (codes "`a`") (codes "(do (tpl `a))") ∷
    script_row (codes "`a${b}c`") (codes "(do (tpl b `a `c))") ∷
    script_row (codes "`${a}${b}`") (codes "(do (tpl a b ` ` `))") ∷
    script_row (codes "`${`${a}`}`") (codes "(do (tpl (tpl a ` `) ` `))") ∷
    script_row (codes "`${{a:1}}`") (codes "(do (tpl (object (: a 1)) ` `))") ∷
    script_row (codes "a`b`") (codes "(do (tag a (tpl `b)))") ∷
    script_row (codes "a`b``c`") (codes "(do (tag (tag a (tpl `b)) (tpl `c)))") ∷
    no_script (codes "`a${}`") ∷
    script_row (codes "`${{function:1}}`") (codes "(do (tpl (object (: function 1)) ` `))") ∷ [])
unfolding opened
rows_1 = refl
