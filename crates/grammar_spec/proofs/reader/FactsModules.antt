-- Modules.
use Rattle.std.proofs.Common.{[], ◌∷◌, codes, refl}
use Rattle.grammar_spec.proofs.reader.Rows.{Hold, opened, full_row, module_faults, module_row, no_module, no_script}

rows_1 : Hold (
    module_row (codes "import 'a'") (codes "(import 'a' -)") ∷
    module_row (codes "import{}from'a'") (codes "(import 'a' -)") ∷
    module_row (codes "import a from'a'") (codes "(import (default a) 'a' -)") ∷
    module_row (codes "import*as a from'a'") (codes "(import (star a) 'a' -)") ∷
    module_row (codes "import{a,b as c,}from'a'") (codes "(import (named a -) (named c b) 'a' -)") ∷
    module_row (codes "import{if as a,'x'as b}from'a'") (codes "(import (named a if) (named b 'x') 'a' -)") ∷
    no_module (codes "import{if}from'a'") ∷
    module_row (codes "import a,{b}from'a'") (codes "(import (default a) (named b -) 'a' -)") ∷
    module_row (codes "import a,*as b from'a'") (codes "(import (default a) (star b) 'a' -)") ∷
    module_row (codes "import a,{}from'a'") (codes "(import (default a) 'a' -)") ∷
    no_module (codes "import{a},b from'a'") ∷
    no_module (codes "import a,b from'a'") ∷ [])
unfolding opened
rows_1 = refl

rows_2 : Hold (
    no_module (codes "import a") ∷
    module_row (codes "import from from'a'") (codes "(import (default from) 'a' -)") ∷
    no_module (codes "{import'a'}") ∷
    no_script (codes "import 'a'") ∷
    no_script (codes "import a from 'a'") ∷
    module_row (codes "export{}") (codes "(export - -)") ∷
    module_row (codes "export{a,b as c,d as if}") (codes "(export (named a -) (named b c) (named d if) - -)") ∷
    module_row (codes "export{a}from'b'") (codes "(export (named a -) 'b' -)") ∷
    module_row (codes "export{a}\nfrom'b'") (codes "(export (named a -) 'b' -)") ∷
    module_row (codes "export*from'a'") (codes "(exportall 'a' -)") ∷
    module_row (codes "export*as a from'b'") (codes "(export (star a) 'b' -)") ∷
    module_row (codes "export var a") (codes "(exportdecl (var (let a -)))") ∷ [])
unfolding opened
rows_2 = refl

rows_3 : Hold (
    module_row (codes "export let a=1") (codes "(exportdecl (let (let a 1)))") ∷
    module_row (codes "export function a(){}") (codes "(exportdecl (function a (of (block))))") ∷
    module_row (codes "export class A{}") (codes "(exportdecl (classdecl A (body -)))") ∷
    module_row (codes "export async function a(){}") (codes "(exportdecl (function a (async (block))))") ∷
    module_row (codes "export default a") (codes "(default a)") ∷
    module_row (codes "export default a\nb") (codes "(default a) (do b)") ∷
    no_module (codes "export default a,b") ∷
    no_module (codes "export default a b") ∷
    module_row (codes "export default function(){}") (codes "(default (fn - (of (block))))") ∷
    module_row (codes "export default function a(){}\n(b)") (codes "(default (fn a (of (block)))) (do (paren b))") ∷
    module_row (codes "export default class{}") (codes "(default (class - (body -)))") ∷
    module_row (codes "export default async function(){}") (codes "(default (fn - (async (block))))") ∷ [])
unfolding opened
rows_3 = refl

rows_4 : Hold (
    module_row (codes "export default async()=>a") (codes "(default (async=> a))") ∷
    no_module (codes "export default var a") ∷
    no_module (codes "export a") ∷
    no_script (codes "export{a}") ∷
    no_module (codes "{export{a}}") ∷
    full_row (codes "import a from'a'with{type:'json'}") (codes "(import (default a) 'a' (object (: type 'json')))") ∷
    full_row (codes "import'a'\nwith{'type':'json',}") (codes "(import 'a' (object (: 'type' 'json')))") ∷
    full_row (codes "import'a'assert{a:'b'}") (codes "(import 'a' (object (: a 'b')))") ∷
    no_module (codes "import'a'with{a:'b'}") ∷
    full_row (codes "export*from'a'with{}") (codes "(exportall 'a' (object))") ∷ [])
unfolding opened
rows_4 = refl

rows_5 : Hold (
    module_faults (codes "import{'\\01'as a}from'a'") (3 ∷ 8 ∷ 13 ∷ []) ∷
    module_faults (codes "export{'\\8'as a}from'a'") (3 ∷ 8 ∷ 12 ∷ []) ∷
    module_faults (codes "export{a as'\\01'}") (3 ∷ 12 ∷ 17 ∷ []) ∷
    module_faults (codes "export*as'\\01'from'a'") (3 ∷ 10 ∷ 15 ∷ []) ∷
    module_faults (codes "import{eval as a,'\\0'as b,let as c}from'a'") ([]) ∷
    module_faults (codes "export{eval,a as let,b as'\\0'}") ([]) ∷ [])
unfolding opened
rows_5 = refl
