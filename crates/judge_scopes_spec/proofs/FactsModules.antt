-- Imports and exports.
use Rattle.std.proofs.Common.{[], ◌∷◌, codes, refl}
use Rattle.grammar_spec.proofs.reader.Rows.{Hold}
use Rattle.judge_scopes_spec.proofs.Rows.{opened_rows, module_names}

rows_1 : Hold (
    module_names (codes "f;{function f(){}}") (codes "f:free f:1.0") ∷
    module_names (codes "import{x as y}from'';y;export{y as x}") (codes "x:none y:0.0 y:0.0 y:0.0 x:none") ∷
    module_names (codes "import{x}from'';export{x}") (codes "x:0.0 x:0.0") ∷
    module_names (codes "export{x}from'';export{x as y}from'';export*as z from''") (codes "x:none x:none y:none z:none") ∷ [])
unfolding opened_rows
rows_1 = refl

rows_2 : Hold (
    module_names (codes "import x,*as y from'';x;y") (codes "x:0.0 y:0.1 x:0.0 y:0.1") ∷
    module_names (codes "export default function f(){f}f") (codes "f:0.0 f:0.0 f:0.0") ∷
    module_names (codes "export default(function f(){f})") (codes "f:1.0 f:1.0") ∷
    module_names (codes "export default class f{x=f}f") (codes "f:0.0 f:1.0 f:0.0") ∷ [])
unfolding opened_rows
rows_2 = refl

rows_3 : Hold (
    module_names (codes "export let x;export function y(){}export class z{}x;y;z") (codes "x:0.0 y:0.1 z:0.2 x:0.0 y:0.1 z:0.2") ∷
    module_names (codes "function f(){}export{x};export var x") (codes "f:0.0 x:0.1 x:0.1") ∷
    module_names (codes "{using x=0;x}await using y=0;y;x") (codes "x:1.0 x:1.0 y:0.0 y:0.0 x:free") ∷
    module_names (codes "for(using x of y);x") (codes "x:1.0 y:free x:free") ∷ [])
unfolding opened_rows
rows_3 = refl
