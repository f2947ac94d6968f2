-- Exports and imports (16.2.1.1, 16.2.2.1, 16.2.3.1).
use Rattle.std.proofs.Common.{[], ◌∷◌, ◌++◌, codes, refl}
use Rattle.grammar_spec.proofs.reader.Rows.{Hold}
use Rattle.judge_names_spec.specs.Faults.{redeclared, exported_twice, exported_undeclared, exported_reserved, ill_formed_name, attribute_twice}
use Rattle.judge_names_spec.proofs.Rows.{opened_rows, good_module, module_has}

rows_1 : Hold (
    module_has (codes "import x from'';let x") ((redeclared, 21) ∷ []) ∷
    module_has (codes "import x,{x}from''") ((redeclared, 11) ∷ []) ∷
    module_has (codes "import{x,y as x}from''") ((redeclared, 15) ∷ []) ∷
    module_has (codes "import*as x from'';var x") ((redeclared, 24) ∷ []) ∷ [])
unfolding opened_rows
rows_1 = refl

rows_2 : Hold (
    good_module (codes "import x from'';{let x}") ∷
    module_has (codes "export let x;var x") ((redeclared, 18) ∷ []) ∷
    module_has (codes "export default function f(){}let f") ((redeclared, 34) ∷ []) ∷
    good_module (codes "export default function(){}export{f};let f") ∷ [])
unfolding opened_rows
rows_2 = refl

rows_3 : Hold (
    module_has (codes "export var x;export{x}") ((exported_twice, 21) ∷ []) ∷
    module_has (codes "export{x,x};var x") ((exported_twice, 10) ∷ []) ∷
    good_module (codes "export{x,x as y};var x") ∷
    module_has (codes "export default 1;export default 2") ((exported_twice, 18) ∷ []) ∷ [])
unfolding opened_rows
rows_3 = refl

rows_4 : Hold (
    module_has (codes "export default class{}export{x as default};let x") ((exported_twice, 35) ∷ []) ∷
    module_has (codes "export*as x from'';export let x") ((exported_twice, 31) ∷ []) ∷
    module_has (codes "export{x as default}from'';export default 1") ((exported_twice, 28) ∷ []) ∷
    good_module (codes "export{default as x}from'';export default 1") ∷ [])
unfolding opened_rows
rows_4 = refl

rows_5 : Hold (
    good_module (codes "export*from'';export*from''") ∷
    module_has (codes "export{x as'a',x as a,x as 'a'};let x") ((exported_twice, 21) ∷ (exported_twice, 28) ∷ []) ∷
    module_has (codes "export{x}") ((exported_undeclared, 8) ∷ []) ∷
    module_has (codes "export{x};{let x}") ((exported_undeclared, 8) ∷ []) ∷ [])
unfolding opened_rows
rows_5 = refl

rows_6 : Hold (
    good_module (codes "export{x,y,z,u,f,c};{var x}import y from'';let z;for(var u;;);function f(){}class c{}") ∷
    good_module (codes "export{x}from'';export*as y from''") ∷
    module_has (codes "export{if}") ((exported_reserved, 8) ∷ []) ∷
    module_has (codes "export{let as x,await as y}") ((exported_reserved, 8) ∷ (exported_reserved, 17) ∷ []) ∷ [])
unfolding opened_rows
rows_6 = refl

rows_7 : Hold (
    module_has (codes "export{'a'as b}") ((exported_reserved, 8) ∷ []) ∷
    good_module (codes "export{if,let as x,'a'as b}from'';import{if as y}from''") ∷
    module_has (codes "import x from''with{a:'',a:''}") ((attribute_twice, 26) ∷ []) ∷
    module_has (codes "import x from''with{a:'','a':'',b:''}") ((attribute_twice, 26) ∷ []) ∷ [])
unfolding opened_rows
rows_7 = refl

rows_8 : Hold (
    module_has (codes "export*from''with{a:'',a:''}") ((attribute_twice, 24) ∷ []) ∷
    module_has (codes "export{x}from''with{a:'',a:''}") ((attribute_twice, 26) ∷ []) ∷
    good_module (codes "import x from''with{a:'',b:''}") ∷
    module_has (codes "let x;export{x as '" ++ 55296 ∷ codes "'}") ((ill_formed_name, 19) ∷ []) ∷ [])
unfolding opened_rows
rows_8 = refl

rows_9 : Hold (
    module_has (codes "export{'a" ++ 55296 ∷ codes "a'as x}from''") ((ill_formed_name, 8) ∷ []) ∷
    module_has (codes "import{'" ++ 56320 ∷ codes "'as x}from''") ((ill_formed_name, 8) ∷ []) ∷
    module_has (codes "export*as '" ++ 55296 ∷ 55296 ∷ 56320 ∷ codes "'from''") ((ill_formed_name, 11) ∷ []) ∷
    good_module (codes "let x;export{x as'" ++ 55296 ∷ 56320 ∷ codes "'};import{'" ++ 55296 ∷ 56320 ∷ 55297 ∷ 56321 ∷ codes "'as y}from''") ∷ [])
unfolding opened_rows
rows_9 = refl
