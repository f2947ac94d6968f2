-- Words that keep their meaning.
use Rattle.std.proofs.Common.{[], ◌∷◌, codes, refl}
use Rattle.grammar_spec.proofs.reader.Rows.{Hold}
use Rattle.judge_scopes_spec.proofs.Rows.{opened_rows, module_words, script_words}

rows_1 : Hold (
    script_words (codes "function f(x){let y;x;y}") (codes "") ∷
    script_words (codes "function f(x){let y;(eval)(y)}") (codes "y x arguments f") ∷
    script_words (codes "function f(x){eval;x.eval(x);eval?.(x);new eval(x)}") (codes "") ∷
    script_words (codes "{let x;with(y)x}") (codes "x") ∷ [])
unfolding opened_rows
rows_1 = refl

rows_2 : Hold (
    script_words (codes "{function f(){}}") (codes "f") ∷
    script_words (codes "{let f;{function f(){}}}") (codes "f") ∷
    script_words (codes "'use strict';{function f(){}}") (codes "") ∷
    script_words (codes "function f(){{function g(){}}}") (codes "g") ∷ [])
unfolding opened_rows
rows_2 = refl

rows_3 : Hold (
    script_words (codes "{async function f(){}function*g(){}}") (codes "") ∷
    script_words (codes "if(0)function f(){}else function g(){}") (codes "f g") ∷
    script_words (codes "switch(0){case 0:function f(){}}") (codes "f") ∷
    script_words (codes "try{}catch(x){var x}") (codes "x") ∷ [])
unfolding opened_rows
rows_3 = refl

rows_4 : Hold (
    script_words (codes "try{}catch(x){var y;let z}") (codes "") ∷
    script_words (codes "function f(x){var x}") (codes "") ∷
    script_words (codes "try{}catch(x){(function(){var x})}") (codes "") ∷
    script_words (codes "({x,__proto__});({__proto__:y});({__proto__}=y)") (codes "__proto__") ∷ [])
unfolding opened_rows
rows_4 = refl

rows_5 : Hold (
    module_words (codes "{function f(){}}") (codes "") ∷
    module_words (codes "export let x;export function f(){}export class c{}") (codes "x f c") ∷
    module_words (codes "let x;export{x}") (codes "") ∷
    module_words (codes "export default function f(){}") (codes "") ∷ [])
unfolding opened_rows
rows_5 = refl
