-- What a script, a function or a static block declares twice (15.2.1 and its like, 15.7.1, 16.1.1).
use Rattle.std.proofs.Common.{[], ◌∷◌, codes, refl}
use Rattle.grammar_spec.proofs.reader.Rows.{Hold}
use Rattle.judge_names_spec.specs.Faults.{redeclared}
use Rattle.judge_names_spec.proofs.Rows.{opened_rows, good_script, module_has, script_has}

rows_1 : Hold (
    good_script (codes "function f(){}var f;function f(){}") ∷
    script_has (codes "function f(){}let f") ((redeclared, 19) ∷ []) ∷
    module_has (codes "function f(){}var f") ((redeclared, 19) ∷ []) ∷
    module_has (codes "function f(){}function f(){}") ((redeclared, 24) ∷ []) ∷ [])
unfolding opened_rows
rows_1 = refl

rows_2 : Hold (
    script_has (codes "var f;class f{}") ((redeclared, 13) ∷ []) ∷
    script_has (codes "function f(x){let x}") ((redeclared, 19) ∷ []) ∷
    good_script (codes "function f(x){var x;function x(){}{let x}}") ∷
    script_has (codes "function*f([x]){class x{}}") ((redeclared, 23) ∷ []) ∷ [])
unfolding opened_rows
rows_2 = refl

rows_3 : Hold (
    script_has (codes "x=>{let x}") ((redeclared, 9) ∷ []) ∷
    script_has (codes "async({x})=>{const x=0}") ((redeclared, 20) ∷ []) ∷
    good_script (codes "x=>{let y};(y)=>{let x}") ∷
    script_has (codes "({f(x){let x}})") ((redeclared, 12) ∷ []) ∷ [])
unfolding opened_rows
rows_3 = refl

rows_4 : Hold (
    script_has (codes "({set f(x){let x},get f(){let x}})") ((redeclared, 16) ∷ []) ∷
    script_has (codes "class a{constructor(x){let x}f(y){let y}}") ((redeclared, 28) ∷ (redeclared, 39) ∷ []) ∷
    script_has (codes "function f(){let x;if(0)var x}") ((redeclared, 29) ∷ []) ∷
    good_script (codes "function f(){let x;var y;function g(){var x;let y}}") ∷ [])
unfolding opened_rows
rows_4 = refl

rows_5 : Hold (
    good_script (codes "(function f(){let f})") ∷
    script_has (codes "class a{static{let x;var x}}") ((redeclared, 26) ∷ []) ∷
    good_script (codes "class a{static{function x(){}var x}static{let x}}") ∷
    script_has (codes "class a{static{function x(){}let x}}") ((redeclared, 34) ∷ []) ∷ [])
unfolding opened_rows
rows_5 = refl

rows_6 : Hold (
    script_has (codes "class a{static{var a}}let a") ((redeclared, 27) ∷ []) ∷
    good_script (codes "function f(arguments){var arguments}") ∷ [])
unfolding opened_rows
rows_6 = refl
