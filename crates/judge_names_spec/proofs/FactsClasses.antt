-- Members of classes, and `arguments` in them (15.7.1).
use Rattle.std.proofs.Common.{[], ◌∷◌, codes, refl}
use Rattle.grammar_spec.proofs.reader.Rows.{Hold}
use Rattle.judge_names_spec.specs.Faults.{special_constructor, constructor_field, static_prototype, arguments_in_part}
use Rattle.judge_names_spec.proofs.Rows.{opened_rows, good_script, module_has, script_has}

rows_1 : Hold (
    script_has (codes "class a{get constructor(){}}") ((special_constructor, 13) ∷ []) ∷
    script_has (codes "class a{*constructor(){}}") ((special_constructor, 10) ∷ []) ∷
    script_has (codes "class a{async 'constructor'(){}}") ((special_constructor, 15) ∷ []) ∷
    script_has (codes "class a{set constructor(x){}}") ((special_constructor, 13) ∷ []) ∷ [])
unfolding opened_rows
rows_1 = refl

rows_2 : Hold (
    good_script (codes "class a{constructor(){}static constructor(){}static get constructor(){}get['constructor'](){}}") ∷
    script_has (codes "class a{constructor=1}") ((constructor_field, 9) ∷ []) ∷
    script_has (codes "class a{static 'constructor'}") ((constructor_field, 16) ∷ []) ∷
    good_script (codes "class a{['constructor']=1;constructors}") ∷ [])
unfolding opened_rows
rows_2 = refl

rows_3 : Hold (
    module_has (codes "class a{accessor constructor}") ((constructor_field, 18) ∷ []) ∷
    script_has (codes "class a{static prototype(){}}") ((static_prototype, 16) ∷ []) ∷
    script_has (codes "class a{static 'prototype'=1}") ((static_prototype, 16) ∷ []) ∷
    script_has (codes "class a{static get prototype(){}}") ((static_prototype, 20) ∷ []) ∷ [])
unfolding opened_rows
rows_3 = refl

rows_4 : Hold (
    good_script (codes "class a{prototype(){}prototype2;static['prototype'](){}}") ∷
    module_has (codes "class a{static accessor prototype}") ((static_prototype, 25) ∷ []) ∷
    good_script (codes "({get constructor(){},*prototype(){}})") ∷
    script_has (codes "class a{x=arguments}") ((arguments_in_part, 11) ∷ []) ∷ [])
unfolding opened_rows
rows_4 = refl

rows_5 : Hold (
    script_has (codes "class a{static{arguments}}") ((arguments_in_part, 16) ∷ []) ∷
    script_has (codes "class a{#x=()=>arguments}") ((arguments_in_part, 16) ∷ []) ∷
    script_has (codes "class a{x=y=>{[arguments]}}") ((arguments_in_part, 16) ∷ []) ∷
    script_has (codes "class a{x={arguments,arguments:0,y:z.arguments}}") ((arguments_in_part, 12) ∷ []) ∷ [])
unfolding opened_rows
rows_5 = refl

rows_6 : Hold (
    good_script (codes "class a{x=function(){arguments};y={f(z=arguments){arguments},get g(){arguments}}}") ∷
    good_script (codes "class a{static{function f(){arguments}}f(){arguments}}") ∷
    good_script (codes "class a{static{arguments:;}x=function arguments(){};y=class arguments{}}") ∷
    good_script (codes "class a{static{var arguments;[arguments]=0}}") ∷ [])
unfolding opened_rows
rows_6 = refl

rows_7 : Hold (
    script_has (codes "class a{x=y`${arguments}`}") ((arguments_in_part, 15) ∷ []) ∷
    script_has (codes "class a{x={[arguments](){}}}") ((arguments_in_part, 13) ∷ []) ∷
    good_script (codes "class a{[arguments]=1;[arguments](){}}") ∷
    script_has (codes "class a{x=class{[arguments](){arguments}}}") ((arguments_in_part, 18) ∷ []) ∷ [])
unfolding opened_rows
rows_7 = refl

rows_8 : Hold (
    script_has (codes "class a{static{x=>(y=arguments)=>z}}") ((arguments_in_part, 22) ∷ []) ∷
    module_has (codes "class a{accessor x=arguments}") ((arguments_in_part, 20) ∷ []) ∷
    good_script (codes "function f(){class a extends arguments{constructor(){arguments}}}") ∷ [])
unfolding opened_rows
rows_8 = refl
