-- Loops and `catch` (14.7.4.1, 14.7.5.1, 14.15.1, B.3.4), `let` as a declared name (14.3.1.1).
use Rattle.std.proofs.Common.{[], ◌∷◌, codes, refl}
use Rattle.grammar_spec.proofs.reader.Rows.{Hold}
use Rattle.judge_names_spec.specs.Faults.{redeclared, let_declared}
use Rattle.judge_names_spec.proofs.Rows.{opened_rows, good_script, module_has, script_has}

rows_1 : Hold (
    script_has (codes "for(let x;;){var x}") ((redeclared, 18) ∷ []) ∷
    good_script (codes "for(let x;;){let x}for(var y;;){var y}") ∷
    script_has (codes "for(let x,x;;);") ((redeclared, 11) ∷ []) ∷
    script_has (codes "for(const[x,x]of 0);") ((redeclared, 13) ∷ []) ∷ [])
unfolding opened_rows
rows_1 = refl

rows_2 : Hold (
    script_has (codes "for(let x of 0)var x") ((redeclared, 20) ∷ []) ∷
    script_has (codes "for(const x in 0){{var x}}") ((redeclared, 24) ∷ []) ∷
    good_script (codes "for(var x of 0)var x;for(y of 0)var y") ∷
    script_has (codes "let x;for(var x;;);for(var x in 0);for(var x of 0);") ((redeclared, 15) ∷ (redeclared, 28) ∷ (redeclared, 44) ∷ []) ∷ [])
unfolding opened_rows
rows_2 = refl

rows_3 : Hold (
    good_script (codes "for(let x;;)x=>{var x}") ∷
    good_script (codes "try{}catch(x){var x}") ∷
    script_has (codes "try{}catch([x]){var x}") ((redeclared, 21) ∷ []) ∷
    script_has (codes "try{}catch({x,y:x}){}") ((redeclared, 17) ∷ []) ∷ [])
unfolding opened_rows
rows_3 = refl

rows_4 : Hold (
    script_has (codes "try{}catch(x){let x}") ((redeclared, 19) ∷ []) ∷
    script_has (codes "try{}catch(x){function x(){}}") ((redeclared, 24) ∷ []) ∷
    good_script (codes "try{}catch(x){{let x;function x2(){}}{function x(){}}}") ∷
    good_script (codes "try{}catch(x){for(var x of 0);}") ∷ [])
unfolding opened_rows
rows_4 = refl

rows_5 : Hold (
    script_has (codes "try{}catch({x}){{for(var x of 0);}}") ((redeclared, 26) ∷ []) ∷
    script_has (codes "let x;try{}catch(x){var x}") ((redeclared, 25) ∷ []) ∷
    script_has (codes "let let") ((let_declared, 5) ∷ []) ∷
    script_has (codes "const let=1") ((let_declared, 7) ∷ []) ∷ [])
unfolding opened_rows
rows_5 = refl

rows_6 : Hold (
    script_has (codes "let[let]=0") ((let_declared, 5) ∷ []) ∷
    script_has (codes "for(let let of 0);") ((let_declared, 9) ∷ []) ∷
    good_script (codes "var let;function f(let){}try{}catch(let){}") ∷
    module_has (codes "{using let=0}") ((let_declared, 8) ∷ []) ∷ [])
unfolding opened_rows
rows_6 = refl

rows_7 : Hold (
    module_has (codes "for(using x of 0){var x}") ((redeclared, 23) ∷ []) ∷ [])
unfolding opened_rows
rows_7 = refl
