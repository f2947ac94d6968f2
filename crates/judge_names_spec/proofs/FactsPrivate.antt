-- Private names (15.7.1, 16.1.1).
use Rattle.std.proofs.Common.{[], ◌∷◌, codes, refl}
use Rattle.grammar_spec.proofs.reader.Rows.{Hold}
use Rattle.judge_names_spec.specs.Faults.{private_twice, private_constructor, private_undeclared}
use Rattle.judge_names_spec.proofs.Rows.{opened_rows, good_script, module_has, script_has}

rows_1 : Hold (
    script_has (codes "class a{#x;#x}") ((private_twice, 12) ∷ []) ∷
    script_has (codes "class a{#x;static #x(){}}") ((private_twice, 19) ∷ []) ∷
    good_script (codes "class a{get #x(){}set #x(y){}}") ∷
    good_script (codes "class a{static set #x(y){}static get #x(){}}") ∷ [])
unfolding opened_rows
rows_1 = refl

rows_2 : Hold (
    script_has (codes "class a{get #x(){}get #x(){}}") ((private_twice, 23) ∷ []) ∷
    script_has (codes "class a{get #x(){}static set #x(y){}}") ((private_twice, 30) ∷ []) ∷
    script_has (codes "class a{get #x(){}set #x(y){}#x;#x}") ((private_twice, 30) ∷ (private_twice, 33) ∷ []) ∷
    good_script (codes "class a{#x;f(){class b{#x}}}class b{#x}") ∷ [])
unfolding opened_rows
rows_2 = refl

rows_3 : Hold (
    script_has (codes "x.#y") ((private_undeclared, 3) ∷ []) ∷
    script_has (codes "class a{f(){this.#x}}") ((private_undeclared, 18) ∷ []) ∷
    good_script (codes "class a{f(){this.#x;#x in this;this?.#x}#x}") ∷
    good_script (codes "class a{#x;f(){class b{f(){this.#x}}}}") ∷ [])
unfolding opened_rows
rows_3 = refl

rows_4 : Hold (
    good_script (codes "class a{#x;f(){function g(){x.#x}}y=()=>x.#x;static{x.#x}}") ∷
    script_has (codes "class a{f(){#x in this;this?.#x}}") ((private_undeclared, 13) ∷ (private_undeclared, 30) ∷ []) ∷
    script_has (codes "class a extends x.#x{#x}") ((private_undeclared, 19) ∷ []) ∷
    script_has (codes "class a extends class{x=this.#y}{#y}") ((private_undeclared, 30) ∷ []) ∷ [])
unfolding opened_rows
rows_4 = refl

rows_5 : Hold (
    script_has (codes "class a{[x.#x];#x}x.#x") ((private_undeclared, 21) ∷ []) ∷
    script_has (codes "class a{#constructor}") ((private_constructor, 9) ∷ []) ∷
    script_has (codes "class a{get #constructor(){}}") ((private_constructor, 13) ∷ []) ∷
    good_script (codes "class a{#constructors;constructor(){}}") ∷ [])
unfolding opened_rows
rows_5 = refl

rows_6 : Hold (
    module_has (codes "class a{accessor #x;accessor #x}") ((private_twice, 30) ∷ []) ∷
    module_has (codes "class a{accessor #constructor}") ((private_constructor, 18) ∷ []) ∷ [])
unfolding opened_rows
rows_6 = refl
