-- What one list of statements declares twice (14.2.1, 14.12.1, B.3.2.4, B.3.2.5).
use Rattle.std.proofs.Common.{[], ◌∷◌, codes, refl}
use Rattle.grammar_spec.proofs.reader.Rows.{Hold}
use Rattle.judge_names_spec.specs.Faults.{redeclared}
use Rattle.judge_names_spec.proofs.Rows.{opened_rows, good_script, module_has, script_has}

rows_1 : Hold (
    script_has (codes "let x;var x") ((redeclared, 11) ∷ []) ∷
    script_has (codes "var x;let x") ((redeclared, 11) ∷ []) ∷
    script_has (codes "let x;let x;let x") ((redeclared, 11) ∷ (redeclared, 17) ∷ []) ∷
    good_script (codes "var x;var x;let y;{let x,y}") ∷ [])
unfolding opened_rows
rows_1 = refl

rows_2 : Hold (
    script_has (codes "{let x;{var x}}") ((redeclared, 13) ∷ []) ∷
    script_has (codes "{let x;{let x;{var x}}}") ((redeclared, 20) ∷ []) ∷
    script_has (codes "{const x=0;class x{}}") ((redeclared, 18) ∷ []) ∷
    good_script (codes "{let x;{let x}class y{}}") ∷ [])
unfolding opened_rows
rows_2 = refl

rows_3 : Hold (
    good_script (codes "{function f(){}function f(){}}") ∷
    script_has (codes "'use strict';{function f(){}function f(){}}") ((redeclared, 38) ∷ []) ∷
    module_has (codes "{function f(){}function f(){}}") ((redeclared, 25) ∷ []) ∷
    good_script (codes "{function f(){}l:function f(){}}") ∷ [])
unfolding opened_rows
rows_3 = refl

rows_4 : Hold (
    script_has (codes "{function f(){}function*f(){}}") ((redeclared, 25) ∷ []) ∷
    script_has (codes "{async function f(){}async function f(){}}") ((redeclared, 37) ∷ []) ∷
    script_has (codes "{function f(){}var f}") ((redeclared, 20) ∷ []) ∷
    script_has (codes "{var f;{}function f(){}}") ((redeclared, 19) ∷ []) ∷ [])
unfolding opened_rows
rows_4 = refl

rows_5 : Hold (
    script_has (codes "{let f;l:function f(){}}") ((redeclared, 19) ∷ []) ∷
    good_script (codes "{let f;{function f(){}}if(0)function f(){}}") ∷
    script_has (codes "switch(0){case 0:let x;default:let x}") ((redeclared, 36) ∷ []) ∷
    good_script (codes "switch(0){case 0:let x;case 1:{let x}}") ∷ [])
unfolding opened_rows
rows_5 = refl

rows_6 : Hold (
    good_script (codes "switch(0){case 0:function f(){}case 1:function f(){}}") ∷
    script_has (codes "'use strict';switch(0){case 0:function f(){}case 1:function f(){}}") ((redeclared, 61) ∷ []) ∷
    script_has (codes "switch(0){case 0:let x;default:{var x}}") ((redeclared, 37) ∷ []) ∷
    script_has (codes "switch(0){case 0:var x}let x") ((redeclared, 28) ∷ []) ∷ [])
unfolding opened_rows
rows_6 = refl

rows_7 : Hold (
    script_has (codes "function f(){'use strict';{function g(){}function g(){}}}") ((redeclared, 51) ∷ []) ∷
    script_has (codes "(class{static{{function f(){}function f(){}}}})") ((redeclared, 39) ∷ []) ∷
    good_script (codes "{let x;function f(){var x}x=>{var x}}") ∷
    script_has (codes "let x;l:with(0)if(0)var x;else var x") ((redeclared, 25) ∷ (redeclared, 36) ∷ []) ∷ [])
unfolding opened_rows
rows_7 = refl

rows_8 : Hold (
    script_has (codes "let x;while(0)var x;do var x;while(0)") ((redeclared, 19) ∷ (redeclared, 28) ∷ []) ∷
    script_has (codes "let x;try{var x}catch{var x}finally{var x}") ((redeclared, 15) ∷ (redeclared, 27) ∷ (redeclared, 41) ∷ []) ∷ [])
unfolding opened_rows
rows_8 = refl
