-- Modules.
use Rattle.std.proofs.Common.{[], ◌++◌, codes, refl}
use Rattle.print_layout_laws.proofs.Rows.{Hold, laid_out, module_}

rows_1 : Hold (
    module_ (codes "") (codes "") (codes "") ++
    module_ (codes "import'a'") (codes "import 'a';\n") (codes "import\"a\"") ++
    module_ (codes "import{}from'a'") (codes "import 'a';\n") (codes "import\"a\"") ++
    module_ (codes "import a from'b'") (codes "import a from 'b';\n") (codes "import a from\"b\"") ++
    module_ (codes "import*as a from'b'") (codes "import * as a from 'b';\n") (codes "import*as a from\"b\"") ++
    module_ (codes "import{a,b as c}from'd'") (codes "import { a, b as c } from 'd';\n") (codes "import{a,b as c}from\"d\"") ++
    module_ (codes "import a,*as b from'c'") (codes "import a, * as b from 'c';\n") (codes "import a,*as b from\"c\"") ++
    module_ (codes "import a,{b}from'c'") (codes "import a, { b } from 'c';\n") (codes "import a,{b}from\"c\"") ++
    module_ (codes "import colors, { color } from 'patterns/colors';") (codes "import colors, { color } from 'patterns/colors';\n") (codes "import colors,{color}from\"patterns/colors\"") ++
    module_ (codes "import{default as a}from'b'") (codes "import { default as a } from 'b';\n") (codes "import{default as a}from\"b\"") ++
    module_ (codes "import{'a-b'as c}from'd'") (codes "import { 'a-b' as c } from 'd';\n") (codes "import{\"a-b\" as c}from\"d\"") ++
    module_ (codes "import a from'b'with{type:'json'}") (codes "import a from 'b' with {\n    type: 'json'\n};\n") (codes "import a from\"b\"with{type:\"json\"}") ++
    module_ (codes "import a from 'a' assert {type:'json'}") (codes "import a from 'a' with {\n    type: 'json'\n};\n") (codes "import a from\"a\"with{type:\"json\"}") ++
    module_ (codes "export{}") (codes "export { };\n") (codes "export{}") ++
    module_ (codes "export{a,b as c}") (codes "export { a, b as c };\n") (codes "export{a,b as c}") ++
    module_ (codes "export{a}from'b'") (codes "export { a } from 'b';\n") (codes "export{a}from\"b\"") ++
    [])
unfolding laid_out
rows_1 = refl

rows_2 : Hold (
    module_ (codes "export{}from'b'") (codes "export { } from 'b';\n") (codes "export{}from\"b\"") ++
    module_ (codes "export{'a'as'b'}from'c'") (codes "export { 'a' as 'b' } from 'c';\n") (codes "export{\"a\" as \"b\"}from\"c\"") ++
    module_ (codes "export*from'a'") (codes "export * from 'a';\n") (codes "export*from\"a\"") ++
    module_ (codes "export*as a from'b'") (codes "export * as a from 'b';\n") (codes "export*as a from\"b\"") ++
    module_ (codes "export*from'a'with{b:'c'}") (codes "export * from 'a' with {\n    b: 'c'\n};\n") (codes "export*from\"a\"with{b:\"c\"}") ++
    module_ (codes "export default a") (codes "export default a;\n") (codes "export default a") ++
    module_ (codes "export default[a]") (codes "export default [\n    a\n];\n") (codes "export default[a]") ++
    module_ (codes "export default function(){}") (codes "export default function() {}\n") (codes "export default function(){}") ++
    module_ (codes "export default function a(){}") (codes "export default function a() {}\n") (codes "export default function a(){}") ++
    module_ (codes "export default class{}") (codes "export default class {\n}\n") (codes "export default class{}") ++
    module_ (codes "export default class A{}") (codes "export default class A {\n}\n") (codes "export default class A{}") ++
    module_ (codes "export var a=1") (codes "export var a = 1;\n") (codes "export var a=1") ++
    module_ (codes "export const{a}=b;c") (codes "export const { a } = b;\nc;\n") (codes "export const{a}=b;c") ++
    module_ (codes "export function a(){}") (codes "export function a() {}\n") (codes "export function a(){}") ++
    module_ (codes "export class A{}b") (codes "export class A {\n}\nb;\n") (codes "export class A{}b") ++
    module_ (codes "import.meta.a") (codes "import.meta.a;\n") (codes "import.meta.a") ++
    [])
unfolding laid_out
rows_2 = refl

rows_3 : Hold (
    module_ (codes "await a") (codes "await a;\n") (codes "await a") ++
    module_ (codes "for await(a of b);") (codes "for await (a of b);\n") (codes "for await(a of b);") ++
    module_ (codes "import'a';b;export{c};") (codes "import 'a';\nb;\nexport { c };\n") (codes "import\"a\";b;export{c}") ++
    [])
unfolding laid_out
rows_3 = refl

rows_4 : Hold (
    module_ (codes "import{a as b}from'c'") (codes "import { a as b } from 'c';\n") (codes "import{a as b}from\"c\"") ++
    module_ (codes "import a,{b as c,d}from'e'") (codes "import a, { b as c, d } from 'e';\n") (codes "import a,{b as c,d}from\"e\"") ++
    module_ (codes "import a,{}from'b'") (codes "import a from 'b';\n") (codes "import a from\"b\"") ++
    module_ (codes "import'a'with{b:'c'}") (codes "import 'a' with {\n    b: 'c'\n};\n") (codes "import\"a\"with{b:\"c\"}") ++
    module_ (codes "import a from'b'with{}") (codes "import a from 'b' with {};\n") (codes "import a from\"b\"with{}") ++
    module_ (codes "export{a as default}") (codes "export { a as default };\n") (codes "export{a as default}") ++
    module_ (codes "export{default}from'a'") (codes "export { default } from 'a';\n") (codes "export{default}from\"a\"") ++
    module_ (codes "export{default as a}from'b'") (codes "export { default as a } from 'b';\n") (codes "export{default as a}from\"b\"") ++
    module_ (codes "export*as default from'a'") (codes "export * as default from 'a';\n") (codes "export*as default from\"a\"") ++
    module_ (codes "export*as'a'from'b'") (codes "export * as 'a' from 'b';\n") (codes "export*as \"a\" from\"b\"") ++
    module_ (codes "export{a}from'b'with{c:'d'}") (codes "export { a } from 'b' with {\n    c: 'd'\n};\n") (codes "export{a}from\"b\"with{c:\"d\"}") ++
    module_ (codes "export let a") (codes "export let a;\n") (codes "export let a") ++
    module_ (codes "export const a=1,b=2") (codes "export const a = 1, b = 2;\n") (codes "export const a=1,b=2") ++
    module_ (codes "export async function a(){}") (codes "export async function a() {}\n") (codes "export async function a(){}") ++
    module_ (codes "export function*a(){}") (codes "export function* a() {}\n") (codes "export function*a(){}") ++
    module_ (codes "export default async function(){}") (codes "export default async function() {}\n") (codes "export default async function(){}") ++
    [])
unfolding laid_out
rows_4 = refl

rows_5 : Hold (
    module_ (codes "export default function*(){}") (codes "export default function*() {}\n") (codes "export default function*(){}") ++
    module_ (codes "export default(a)") (codes "export default (a);\n") (codes "export default(a)") ++
    module_ (codes "export default a=>b") (codes "export default (a)=>b;\n") (codes "export default a=>b") ++
    module_ (codes "export default{}") (codes "export default {};\n") (codes "export default{}") ++
    module_ (codes "export default'a'") (codes "export default 'a';\n") (codes "export default\"a\"") ++
    module_ (codes "export default class extends A{}") (codes "export default class extends A {\n}\n") (codes "export default class extends A{}") ++
    module_ (codes "export class A{a}") (codes "export class A {\n    a;\n}\n") (codes "export class A{a}") ++
    module_ (codes "import a from'b';import c from'd';e") (codes "import a from 'b';\nimport c from 'd';\ne;\n") (codes "import a from\"b\";import c from\"d\";e") ++
    [])
unfolding laid_out
rows_5 = refl
