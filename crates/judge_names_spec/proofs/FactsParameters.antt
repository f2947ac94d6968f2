-- Parameters of one name (15.1.1 and the like), `yield` and `await` among parameters.
use Rattle.std.proofs.Common.{[], ◌∷◌, codes, refl}
use Rattle.grammar_spec.proofs.reader.Rows.{Hold}
use Rattle.judge_names_spec.specs.Faults.{parameter_twice, yield_in_parameters, await_in_parameters}
use Rattle.judge_names_spec.proofs.Rows.{opened_rows, good_module, good_script, module_has, script_has}

rows_1 : Hold (
    good_script (codes "function f(x,x){}") ∷
    script_has (codes "function f(x,[x]){}") ((parameter_twice, 15) ∷ []) ∷
    script_has (codes "function f(x,...x){}") ((parameter_twice, 17) ∷ []) ∷
    script_has (codes "function f(x,y,x=1){}") ((parameter_twice, 16) ∷ []) ∷ [])
unfolding opened_rows
rows_1 = refl

rows_2 : Hold (
    script_has (codes "'use strict';function f(x,x){}") ((parameter_twice, 27) ∷ []) ∷
    script_has (codes "function f(x,x){'use strict'}") ((parameter_twice, 14) ∷ []) ∷
    good_script (codes "function*f(x,x){}async function g(x,x){}") ∷
    module_has (codes "(function(x,x){})") ((parameter_twice, 13) ∷ []) ∷ [])
unfolding opened_rows
rows_2 = refl

rows_3 : Hold (
    script_has (codes "(x,x)=>1") ((parameter_twice, 4) ∷ []) ∷
    script_has (codes "async(x,x)=>1") ((parameter_twice, 9) ∷ []) ∷
    good_script (codes "(x,y)=>(x,y)") ∷
    script_has (codes "({f(x,x){}})") ((parameter_twice, 7) ∷ []) ∷ [])
unfolding opened_rows
rows_3 = refl

rows_4 : Hold (
    script_has (codes "({set f([x,x]){}})") ((parameter_twice, 12) ∷ []) ∷
    good_script (codes "({f(x,y){},f:function(x,x){}})") ∷
    script_has (codes "class a{f(x,x){}constructor(x,x){}}") ((parameter_twice, 13) ∷ (parameter_twice, 31) ∷ []) ∷
    good_script (codes "({f(){function g(x,x){}}})") ∷ [])
unfolding opened_rows
rows_4 = refl

rows_5 : Hold (
    script_has (codes "function*f(x=yield){}") ((yield_in_parameters, 14) ∷ []) ∷
    script_has (codes "async function f(x=await 1){}") ((await_in_parameters, 20) ∷ []) ∷
    script_has (codes "async function*f(x=yield await 1){}") ((yield_in_parameters, 20) ∷ (await_in_parameters, 26) ∷ []) ∷
    script_has (codes "function*f(){(x=yield)=>1}") ((yield_in_parameters, 17) ∷ []) ∷ [])
unfolding opened_rows
rows_5 = refl

rows_6 : Hold (
    script_has (codes "async function f(){(x=await 1)=>1}") ((await_in_parameters, 23) ∷ []) ∷
    script_has (codes "async function f(){async(x=await 1)=>1}") ((await_in_parameters, 28) ∷ []) ∷
    module_has (codes "(x=await 1)=>1") ((await_in_parameters, 4) ∷ []) ∷
    good_module (codes "x=>1;await 1") ∷ [])
unfolding opened_rows
rows_6 = refl

rows_7 : Hold (
    good_script (codes "function*f(){function g(x=yield){}}") ∷
    good_script (codes "function*f(x=function*(){yield}){yield}") ∷
    good_script (codes "async function f(x=async()=>await 1){await 1}") ∷
    script_has (codes "function*f(x=class{[yield](){}}){}") ((yield_in_parameters, 21) ∷ []) ∷ [])
unfolding opened_rows
rows_7 = refl

rows_8 : Hold (
    script_has (codes "function*f(x=class extends(yield){}){}") ((yield_in_parameters, 28) ∷ []) ∷
    good_script (codes "async function f(x=class{static{async()=>await 1}}){}") ∷
    script_has (codes "async function f(x={async g(){await 1},[await 1]:1}){}") ((await_in_parameters, 41) ∷ []) ∷
    script_has (codes "({*f(x=yield){}});class a{async f(x=await 1){}}") ((yield_in_parameters, 8) ∷ (await_in_parameters, 37) ∷ []) ∷ [])
unfolding opened_rows
rows_8 = refl
