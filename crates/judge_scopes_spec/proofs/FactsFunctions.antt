-- Scopes of functions, arrows, methods and classes.
use Rattle.std.proofs.Common.{[], ◌∷◌, codes, refl}
use Rattle.grammar_spec.proofs.reader.Rows.{Hold}
use Rattle.judge_scopes_spec.proofs.Rows.{opened_rows, script_names}

rows_1 : Hold (
    script_names (codes "function f(x){return x+y}") (codes "f:0.0 x:1.0 x:1.0 y:free") ∷
    script_names (codes "function f(){x;{var x}}") (codes "f:0.0 x:2.0 x:2.0") ∷
    script_names (codes "function f(){let y;function x(){}x;y}") (codes "f:0.0 y:2.0 x:2.1 x:2.1 y:2.0") ∷
    script_names (codes "function f(x){var x,y}") (codes "f:0.0 x:1.0 x:1.0 y:2.0") ∷ [])
unfolding opened_rows
rows_1 = refl

rows_2 : Hold (
    script_names (codes "function f(y=x){var x}") (codes "f:0.0 y:1.0 x:free x:2.0") ∷
    script_names (codes "(function x(){x;var x})") (codes "x:1.0 x:3.0 x:3.0") ∷
    script_names (codes "(function(x){x;f})") (codes "x:1.0 x:1.0 f:free") ∷
    script_names (codes "x=>x;y=>{let z;y;z}") (codes "x:1.0 x:1.0 y:1.0 z:2.0 y:1.0 z:2.0") ∷ [])
unfolding opened_rows
rows_2 = refl

rows_3 : Hold (
    script_names (codes "arguments;(function(x){arguments})") (codes "arguments:free x:1.0 arguments:1.1") ∷
    script_names (codes "(function(){x=>arguments})") (codes "x:3.0 arguments:1.0") ∷
    script_names (codes "({get x(){arguments},set x(y){y;arguments},z(w){w}})") (codes "arguments:1.0 y:1.0 y:1.0 arguments:1.1 w:1.0 w:1.0") ∷
    script_names (codes "class x{f(){x}}x") (codes "x:0.0 x:1.0 x:0.0") ∷ [])
unfolding opened_rows
rows_3 = refl

rows_4 : Hold (
    script_names (codes "(class x extends x{[x]=x})") (codes "x:1.0 x:1.0 x:1.0 x:1.0") ∷
    script_names (codes "class a{constructor(x){x;a;arguments}}") (codes "a:0.0 x:2.0 x:2.0 a:1.0 arguments:2.1") ∷
    script_names (codes "class a{static{var x;x}}x") (codes "a:0.0 x:2.0 x:2.0 x:free") ∷
    script_names (codes "(class{f(){f}})") (codes "f:free") ∷ [])
unfolding opened_rows
rows_4 = refl
