-- Declarations.
use Rattle.std.proofs.Common.{[], ◌++◌, codes, refl}
use Rattle.print_layout_laws.proofs.Rows.{Hold, laid_out, script}

rows_1 : Hold (
    script (codes "var a,b=1") (codes "var a, b = 1;\n") (codes "var a,b=1") ++
    script (codes "let a") (codes "let a;\n") (codes "let a") ++
    script (codes "let[a]=b") (codes "let [a] = b;\n") (codes "let[a]=b") ++
    script (codes "const{a}=b") (codes "const { a } = b;\n") (codes "const{a}=b") ++
    script (codes "var a,{b}=c") (codes "var a, { b } = c;\n") (codes "var a,{b}=c") ++
    script (codes "function a(b,c){}") (codes "function a(b, c) {}\n") (codes "function a(b,c){}") ++
    script (codes "function*a(){}") (codes "function* a() {}\n") (codes "function*a(){}") ++
    script (codes "async function a(){}") (codes "async function a() {}\n") (codes "async function a(){}") ++
    script (codes "async function*a(){}") (codes "async function* a() {}\n") (codes "async function*a(){}") ++
    script (codes "function a(b=1,...c){}") (codes "function a(b = 1, ...c) {}\n") (codes "function a(b=1,...c){}") ++
    script (codes "function a([b],{c}){d}") (codes "function a([b], { c }) {\n    d;\n}\n") (codes "function a([b],{c}){d}") ++
    script (codes "function a(){}function b(){}") (codes "function a() {}\nfunction b() {}\n") (codes "function a(){}function b(){}") ++
    script (codes "class A{}") (codes "class A {\n}\n") (codes "class A{}") ++
    script (codes "class A extends B{}") (codes "class A extends B {\n}\n") (codes "class A extends B{}") ++
    script (codes "class A extends(B){}") (codes "class A extends (B) {\n}\n") (codes "class A extends(B){}") ++
    script (codes "class Hoge{};class HogeFuga extends Hoge{};") (codes "class Hoge {\n}\n;\nclass HogeFuga extends Hoge {\n}\n;\n") (codes "class Hoge{};class HogeFuga extends Hoge{};") ++
    [])
unfolding laid_out
rows_1 = refl

rows_2 : Hold (
    script (codes "class A{a;b=1;static c;static d=1;#e;static #f=1}") (codes "class A {\n    a;\n    b = 1;\n    static c;\n    static d = 1;\n    #e;\n    static #f = 1;\n}\n") (codes "class A{a;b=1;static c;static d=1;#e;static #f=1}") ++
    script (codes "class A{'a'=1;[b];1}") (codes "class A {\n    'a' = 1;\n    [b];\n    1;\n}\n") (codes "class A{\"a\"=1;[b];1}") ++
    script (codes "class A{a=1;b(){}}") (codes "class A {\n    a = 1;\n    b() {}\n}\n") (codes "class A{a=1;b(){}}") ++
    script (codes "class A{a(){}static b(){}get c(){}set d(e){}static get f(){}}") (codes "class A {\n    a() {}\n    static b() {}\n    get c() {}\n    set d(e) {}\n    static get f() {}\n}\n") (codes "class A{a(){}static b(){}get c(){}set d(e){}static get f(){}}") ++
    script (codes "class A{async g(){}*h(){}static async i(){}static*j(){}async*k(){}static async*l(){}}") (codes "class A {\n    async g() {}\n    *h() {}\n    static async i() {}\n    static *j() {}\n    async *k() {}\n    static async *l() {}\n}\n") (codes "class A{async g(){}*h(){}static async i(){}static*j(){}async *k(){}static async *l(){}}") ++
    script (codes "class A{static 'a'(){}get 'b'(){}set[c](d){}static[e](){}}") (codes "class A {\n    static 'a'() {}\n    get 'b'() {}\n    set [c](d) {}\n    static [e]() {}\n}\n") (codes "class A{static\"a\"(){}get\"b\"(){}set[c](d){}static[e](){}}") ++
    script (codes "class A{constructor(a){b}}") (codes "class A {\n    constructor(a){\n        b;\n    }\n}\n") (codes "class A{constructor(a){b}}") ++
    script (codes "class A extends B{constructor(){super();super.a}}") (codes "class A extends B {\n    constructor(){\n        super();\n        super.a;\n    }\n}\n") (codes "class A extends B{constructor(){super();super.a}}") ++
    script (codes "class A{#a(){}get #b(){}set #b(c){}static #d(){}async #e(){}*#f(){}}") (codes "class A {\n    #a() {}\n    get #b() {}\n    set #b(c) {}\n    static #d() {}\n    async #e() {}\n    *#f() {}\n}\n") (codes "class A{#a(){}get #b(){}set #b(c){}static #d(){}async #e(){}*#f(){}}") ++
    script (codes "class A{static{a}}") (codes "class A {\n    static{\n        a;\n    }\n}\n") (codes "class A{static{a}}") ++
    script (codes "class A{accessor a=1;static accessor b}") (codes "class A {\n    accessor a = 1;\n    static accessor b;\n}\n") (codes "class A{accessor a=1;static accessor b}") ++
    script (codes "class A{;a}") (codes "class A {\n    ;\n    a;\n}\n") (codes "class A{;a}") ++
    script (codes "class A{a=()=>{}}") (codes "class A {\n    a = ()=>{};\n}\n") (codes "class A{a=()=>{}}") ++
    script (codes "class A{#a;b(){#a in b}}") (codes "class A {\n    #a;\n    b() {\n        #a in b;\n    }\n}\n") (codes "class A{#a;b(){#a in b}}") ++
    [])
unfolding laid_out
rows_2 = refl

rows_3 : Hold (
    script (codes "var a=1,[b]=c,{d}=e") (codes "var a = 1, [b] = c, { d } = e;\n") (codes "var a=1,[b]=c,{d}=e") ++
    script (codes "var a=function(){}") (codes "var a = function() {};\n") (codes "var a=function(){}") ++
    script (codes "let a,b") (codes "let a, b;\n") (codes "let a,b") ++
    script (codes "const a=1,b=2") (codes "const a = 1, b = 2;\n") (codes "const a=1,b=2") ++
    script (codes "var a=(b,c)") (codes "var a = (b, c);\n") (codes "var a=(b,c)") ++
    script (codes "const[a]=b") (codes "const [a] = b;\n") (codes "const[a]=b") ++
    script (codes "let{a}=b,c") (codes "let { a } = b, c;\n") (codes "let{a}=b,c") ++
    script (codes "function a([b]=c,{d}=e){}") (codes "function a([b] = c, { d } = e) {}\n") (codes "function a([b]=c,{d}=e){}") ++
    script (codes "function a(...[b]){}") (codes "function a(...[b]) {}\n") (codes "function a(...[b]){}") ++
    script (codes "function a(){b;c}") (codes "function a() {\n    b;\n    c;\n}\n") (codes "function a(){b;c}") ++
    script (codes "function a(){function b(){}}") (codes "function a() {\n    function b() {}\n}\n") (codes "function a(){function b(){}}") ++
    script (codes "class A{static{}}") (codes "class A {\n    static{}\n}\n") (codes "class A{static{}}") ++
    script (codes "class A{'a'(){}1(){}[b](){}}") (codes "class A {\n    'a'() {}\n    1() {}\n    [b]() {}\n}\n") (codes "class A{\"a\"(){}1(){}[b](){}}") ++
    script (codes "class A{a=(b,c)}") (codes "class A {\n    a = (b, c);\n}\n") (codes "class A{a=(b,c)}") ++
    script (codes "class A{constructor(){}a(){}}") (codes "class A {\n    constructor(){}\n    a() {}\n}\n") (codes "class A{constructor(){}a(){}}") ++
    script (codes "class A{async*[a](){}}") (codes "class A {\n    async *[a]() {}\n}\n") (codes "class A{async *[a](){}}") ++
    [])
unfolding laid_out
rows_3 = refl

rows_4 : Hold (
    script (codes "class A{static set a(b){}}") (codes "class A {\n    static set a(b) {}\n}\n") (codes "class A{static set a(b){}}") ++
    script (codes "class A{static get 'a'(){}}") (codes "class A {\n    static get 'a'() {}\n}\n") (codes "class A{static get\"a\"(){}}") ++
    script (codes "class A{static get[a](){}}") (codes "class A {\n    static get [a]() {}\n}\n") (codes "class A{static get[a](){}}") ++
    script (codes "class A{static 'a';static[b]}") (codes "class A {\n    static 'a';\n    static [b];\n}\n") (codes "class A{static \"a\";static [b]}") ++
    script (codes "class A{get=1;set;async}") (codes "class A {\n    get = 1;\n    set;\n    async;\n}\n") (codes "class A{get=1;set;async}") ++
    script (codes "class A{get(){}set(){}async(){}}") (codes "class A {\n    get() {}\n    set() {}\n    async() {}\n}\n") (codes "class A{get(){}set(){}async(){}}") ++
    script (codes "class A extends B.c{}") (codes "class A extends B.c {\n}\n") (codes "class A extends B.c{}") ++
    script (codes "class A extends a(){}") (codes "class A extends a() {\n}\n") (codes "class A extends a(){}") ++
    script (codes "class A extends null{}") (codes "class A extends null {\n}\n") (codes "class A extends null{}") ++
    script (codes "class A extends class{}{}") (codes "class A extends class {\n} {\n}\n") (codes "class A extends class{}{}") ++
    script (codes "class A extends[a]{}") (codes "class A extends [\n    a\n] {\n}\n") (codes "class A extends[a]{}") ++
    script (codes "class A{a(){b}}c") (codes "class A {\n    a() {\n        b;\n    }\n}\nc;\n") (codes "class A{a(){b}}c") ++
    script (codes "class A{a(b=1,[c],{d},...e){}}") (codes "class A {\n    a(b = 1, [c], { d }, ...e) {}\n}\n") (codes "class A{a(b=1,[c],{d},...e){}}") ++
    script (codes "class A{set a({b}){}}") (codes "class A {\n    set a({ b }) {}\n}\n") (codes "class A{set a({b}){}}") ++
    script (codes "class A{static #a;static get #b(){}static async*#c(){}}") (codes "class A {\n    static #a;\n    static get #b() {}\n    static async *#c() {}\n}\n") (codes "class A{static #a;static get #b(){}static async *#c(){}}") ++
    script (codes "class A{static accessor #a;accessor[b]=1}") (codes "class A {\n    static accessor #a;\n    accessor [b] = 1;\n}\n") (codes "class A{static accessor #a;accessor [b]=1}") ++
    [])
unfolding laid_out
rows_4 = refl
