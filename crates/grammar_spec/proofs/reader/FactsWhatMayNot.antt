-- What may not start, and directives.
use Rattle.std.proofs.Common.{[], ◌∷◌, codes, refl}
use Rattle.grammar_spec.proofs.reader.Rows.{Hold, opened, no_script, script_row}

rows_1 : Hold (
    no_script (codes "(a)\n{}b c") ∷
    no_script (codes "function a(){}()") ∷
    script_row (codes "function a(){}\n(b)") (codes "(function a (of (block))) (do (paren b))") ∷
    no_script (codes "class A{}.b") ∷
    script_row (codes "{}\n+a") (codes "(block) (do (+ a))") ∷
    no_script (codes "async function a(){}()") ∷
    script_row (codes "({}).a") (codes "(do (. (paren (object)) a))") ∷
    script_row (codes "'use strict'") (codes "(do 'use strict')") ∷
    script_row (codes "#!x\na") (codes "(do a)") ∷
    no_script (codes "a\n#!x") ∷
    no_script (codes "v@var a") ∷
    script_row (codes "({@var:1})") (codes "(do (paren (object (: var 1))))") ∷ [])
unfolding opened
rows_1 = refl

rows_2 : Hold (
    no_script (codes "@var a") ∷
    no_script (codes "a=@this") ∷
    script_row (codes "a.@if") (codes "(do (. a if))") ∷
    script_row (codes "@of") (codes "(do of)") ∷
    script_row (codes "@async a=>b") (codes "(do (async=> a b))") ∷
    no_script (codes "'use strict';@let") ∷ [])
unfolding opened
rows_2 = refl
