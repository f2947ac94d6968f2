-- Expressions.
use Rattle.std.proofs.Common.{[], ◌++◌, codes, refl}
use Rattle.print_layout_laws.proofs.Rows.{Hold, laid_out, script}

rows_1 : Hold (
    script (codes "this") (codes "this;\n") (codes "this") ++
    script (codes "[]") (codes "[];\n") (codes "[]") ++
    script (codes "[a,b]") (codes "[\n    a,\n    b\n];\n") (codes "[a,b]") ++
    script (codes "[,]") (codes "[\n    , \n];\n") (codes "[,]") ++
    script (codes "[,a]") (codes "[\n    ,\n    a\n];\n") (codes "[,a]") ++
    script (codes "x=[1,,]") (codes "x = [\n    1,\n    , \n];\n") (codes "x=[1,,]") ++
    script (codes "[...a,b]") (codes "[\n    ...a,\n    b\n];\n") (codes "[...a,b]") ++
    script (codes "[[a]]") (codes "[\n    [\n        a\n    ]\n];\n") (codes "[[a]]") ++
    script (codes "({})") (codes "({});\n") (codes "({})") ++
    script (codes "({a,b:c,[d]:e,'f':g,1:h})") (codes "({\n    a,\n    b: c,\n    [d]: e,\n    'f': g,\n    1: h\n});\n") (codes "({a,b:c,[d]:e,\"f\":g,1:h})") ++
    script (codes "({get i(){},set j(k){},l(){},*m(){},async n(){},async*o(){},...p})") (codes "({\n    get i () {},\n    set j (k){},\n    l () {},\n    *m () {},\n    async n () {},\n    async *o () {},\n    ...p\n});\n") (codes "({get i(){},set j(k){},l(){},*m(){},async n(){},async *o(){},...p})") ++
    script (codes "({get 'a'(){},get[b](){},set 'c'(d){}})") (codes "({\n    get 'a' () {},\n    get [b] () {},\n    set 'c' (d){}\n});\n") (codes "({get\"a\"(){},get[b](){},set\"c\"(d){}})") ++
    script (codes "({if:1,async:2,get:3})") (codes "({\n    if: 1,\n    async: 2,\n    get: 3\n});\n") (codes "({if:1,async:2,get:3})") ++
    script (codes "-a") (codes "-a;\n") (codes "-a") ++
    script (codes "- -a") (codes "- -a;\n") (codes "- -a") ++
    script (codes "-+a") (codes "-+a;\n") (codes "-+a") ++
    [])
unfolding laid_out
rows_1 = refl

rows_2 : Hold (
    script (codes "+ +a") (codes "+ +a;\n") (codes "+ +a") ++
    script (codes "- --a") (codes "- --a;\n") (codes "- --a") ++
    script (codes "+ ++a") (codes "+ ++a;\n") (codes "+ ++a") ++
    script (codes "-(-a)") (codes "-(-a);\n") (codes "-(-a)") ++
    script (codes "typeof a") (codes "typeof a;\n") (codes "typeof a") ++
    script (codes "typeof(a)") (codes "typeof (a);\n") (codes "typeof(a)") ++
    script (codes "typeof-a") (codes "typeof -a;\n") (codes "typeof-a") ++
    script (codes "typeof typeof a") (codes "typeof typeof a;\n") (codes "typeof typeof a") ++
    script (codes "void 1") (codes "void 1;\n") (codes "void 1") ++
    script (codes "delete a.b") (codes "delete a.b;\n") (codes "delete a.b") ++
    script (codes "!a") (codes "!a;\n") (codes "!a") ++
    script (codes "!!a") (codes "!!a;\n") (codes "!!a") ++
    script (codes "~a") (codes "~a;\n") (codes "~a") ++
    script (codes "++a") (codes "++a;\n") (codes "++a") ++
    script (codes "a--") (codes "a--;\n") (codes "a--") ++
    script (codes "a=b") (codes "a = b;\n") (codes "a=b") ++
    [])
unfolding laid_out
rows_2 = refl

rows_3 : Hold (
    script (codes "a=b=c") (codes "a = b = c;\n") (codes "a=b=c") ++
    script (codes "a+=b") (codes "a += b;\n") (codes "a+=b") ++
    script (codes "a**=b") (codes "a **= b;\n") (codes "a**=b") ++
    script (codes "a??=b") (codes "a ??= b;\n") (codes "a??=b") ++
    script (codes "a.b=c") (codes "a.b = c;\n") (codes "a.b=c") ++
    script (codes "(a)=b") (codes "(a) = b;\n") (codes "(a)=b") ++
    script (codes "a?b:c") (codes "a ? b : c;\n") (codes "a?b:c") ++
    script (codes "a?b:c?d:e") (codes "a ? b : c ? d : e;\n") (codes "a?b:c?d:e") ++
    script (codes "a()") (codes "a();\n") (codes "a()") ++
    script (codes "a(b,c)") (codes "a(b, c);\n") (codes "a(b,c)") ++
    script (codes "a(...b)") (codes "a(...b);\n") (codes "a(...b)") ++
    script (codes "a()()") (codes "a()();\n") (codes "a()()") ++
    script (codes "new a") (codes "new a();\n") (codes "new a") ++
    script (codes "new a()") (codes "new a();\n") (codes "new a") ++
    script (codes "new a(b)") (codes "new a(b);\n") (codes "new a(b)") ++
    script (codes "new(a())") (codes "new (a())();\n") (codes "new(a())") ++
    [])
unfolding laid_out
rows_3 = refl

rows_4 : Hold (
    script (codes "new a.b") (codes "new a.b();\n") (codes "new a.b") ++
    script (codes "new new a") (codes "new new a()();\n") (codes "new new a()") ++
    script (codes "new new a()(1)") (codes "new new a()(1);\n") (codes "new new a()(1)") ++
    script (codes "new foo().bar()") (codes "new foo().bar();\n") (codes "new foo().bar()") ++
    script (codes "new foo()[a]") (codes "new foo()[a];\n") (codes "new foo()[a]") ++
    script (codes "new a()?.()") (codes "new a()?.();\n") (codes "new a()?.()") ++
    script (codes "new a()?.b") (codes "new a()?.b;\n") (codes "new a()?.b") ++
    script (codes "new a()`b`") (codes "new a()`b`;\n") (codes "new a()`b`") ++
    script (codes "a.b") (codes "a.b;\n") (codes "a.b") ++
    script (codes "a[b]") (codes "a[b];\n") (codes "a[b]") ++
    script (codes "a.b.c[d]") (codes "a.b.c[d];\n") (codes "a.b.c[d]") ++
    script (codes "1 .a") (codes "1..a;\n") (codes "1..a") ++
    script (codes "1[a]") (codes "1[a];\n") (codes "1[a]") ++
    script (codes "1?.a") (codes "1?.a;\n") (codes "1?.a") ++
    script (codes "a?.b") (codes "a?.b;\n") (codes "a?.b") ++
    script (codes "a?.[b]") (codes "a?.[b];\n") (codes "a?.[b]") ++
    [])
unfolding laid_out
rows_4 = refl

rows_5 : Hold (
    script (codes "a?.(b)") (codes "a?.(b);\n") (codes "a?.(b)") ++
    script (codes "a?.b.c(d)[e]") (codes "a?.b.c(d)[e];\n") (codes "a?.b.c(d)[e]") ++
    script (codes "a,b") (codes "a, b;\n") (codes "a,b") ++
    script (codes "(a)") (codes "(a);\n") (codes "(a)") ++
    script (codes "((a,b))") (codes "((a, b));\n") (codes "((a,b))") ++
    script (codes "(function(){})") (codes "(function() {});\n") (codes "(function(){})") ++
    script (codes "(function a(){})") (codes "(function a() {});\n") (codes "(function a(){})") ++
    script (codes "(function*(){})") (codes "(function*() {});\n") (codes "(function*(){})") ++
    script (codes "(function*a(){})") (codes "(function* a() {});\n") (codes "(function* a(){})") ++
    script (codes "(async function(){})") (codes "(async function() {});\n") (codes "(async function(){})") ++
    script (codes "(class{})") (codes "(class {\n});\n") (codes "(class{})") ++
    script (codes "(class A extends B{})") (codes "(class A extends B {\n});\n") (codes "(class A extends B{})") ++
    script (codes "(class extends B{})") (codes "(class extends B {\n});\n") (codes "(class extends B{})") ++
    script (codes "a=>b") (codes "(a)=>b;\n") (codes "a=>b") ++
    script (codes "(a)=>b") (codes "(a)=>b;\n") (codes "a=>b") ++
    script (codes "()=>a") (codes "()=>a;\n") (codes "()=>a") ++
    [])
unfolding laid_out
rows_5 = refl

rows_6 : Hold (
    script (codes "(a,b)=>{c}") (codes "(a, b)=>{\n    c;\n};\n") (codes "(a,b)=>{c}") ++
    script (codes "a=>{}") (codes "(a)=>{};\n") (codes "a=>{}") ++
    script (codes "({a})=>b") (codes "({ a })=>b;\n") (codes "({a})=>b") ++
    script (codes "(...a)=>b") (codes "(...a)=>b;\n") (codes "(...a)=>b") ++
    script (codes "(a=1)=>b") (codes "(a = 1)=>b;\n") (codes "(a=1)=>b") ++
    script (codes "async a=>b") (codes "async (a)=>b;\n") (codes "async a=>b") ++
    script (codes "async()=>a") (codes "async ()=>a;\n") (codes "async()=>a") ++
    script (codes "async(a,b)=>c") (codes "async (a, b)=>c;\n") (codes "async(a,b)=>c") ++
    script (codes "a=>({b:1})") (codes "(a)=>({\n        b: 1\n    });\n") (codes "a=>({b:1})") ++
    script (codes "function*f(){yield;yield a;yield*b;yield(c)}") (codes "function* f() {\n    yield;\n    yield a;\n    yield* b;\n    yield (c);\n}\n") (codes "function*f(){yield;yield a;yield*b;yield(c)}") ++
    script (codes "function*f(){yield({x})=>x}") (codes "function* f() {\n    yield ({ x })=>x;\n}\n") (codes "function*f(){yield({x})=>x}") ++
    script (codes "async function f(){await a;await(b)}") (codes "async function f() {\n    await a;\n    await (b);\n}\n") (codes "async function f(){await a;await (b)}") ++
    script (codes "function f(){new.target}") (codes "function f() {\n    new.target;\n}\n") (codes "function f(){new.target}") ++
    script (codes "`a`") (codes "`a`;\n") (codes "`a`") ++
    script (codes "`a${b}c${d}`") (codes "`a${b}c${d}`;\n") (codes "`a${b}c${d}`") ++
    script (codes "`${{function:1}}`") (codes "`${{\n    function: 1\n}}`;\n") (codes "`${{function:1}}`") ++
    [])
unfolding laid_out
rows_6 = refl

rows_7 : Hold (
    script (codes "`\\x24{a}`") (codes "`\\x24{a}`;\n") (codes "`\\x24{a}`") ++
    script (codes "`a\\n\\x31\\0\\x32`") (codes "`a\\n\\x31\\0\\x32`;\n") (codes "`a\n1\\x002`") ++
    script (codes "a`b\\n`") (codes "a`b\\n`;\n") (codes "a`b\\n`") ++
    script (codes "a`b${c}`") (codes "a`b${c}`;\n") (codes "a`b${c}`") ++
    script (codes "/a/g") (codes "/a/g;\n") (codes "/a/g") ++
    script (codes "{}/a/") (codes "{}/a/;\n") (codes "{}/a/") ++
    script (codes "true;false;null") (codes "true;\nfalse;\nnull;\n") (codes "true;false;null") ++
    script (codes "1n") (codes "1n;\n") (codes "1n") ++
    script (codes "import(a)") (codes "import(a);\n") (codes "import(a)") ++
    [])
unfolding laid_out
rows_7 = refl

rows_8 : Hold (
    script (codes "[a,,b]") (codes "[\n    a,\n    ,\n    b\n];\n") (codes "[a,,b]") ++
    script (codes "[,,]") (codes "[\n    ,\n    , \n];\n") (codes "[,,]") ++
    script (codes "[[],[]]") (codes "[\n    [],\n    []\n];\n") (codes "[[],[]]") ++
    script (codes "[a,]") (codes "[\n    a\n];\n") (codes "[a]") ++
    script (codes "[{}]") (codes "[\n    {}\n];\n") (codes "[{}]") ++
    script (codes "[a=>b]") (codes "[\n    (a)=>b\n];\n") (codes "[a=>b]") ++
    script (codes "[(a,b)]") (codes "[\n    (a, b)\n];\n") (codes "[(a,b)]") ++
    script (codes "({a:b,})") (codes "({\n    a: b\n});\n") (codes "({a:b})") ++
    script (codes "({a:{b:{}}})") (codes "({\n    a: {\n        b: {}\n    }\n});\n") (codes "({a:{b:{}}})") ++
    script (codes "({a:b=>c})") (codes "({\n    a: (b)=>c\n});\n") (codes "({a:b=>c})") ++
    script (codes "({...a,...b})") (codes "({\n    ...a,\n    ...b\n});\n") (codes "({...a,...b})") ++
    script (codes "({[a](){}})") (codes "({\n    [a] () {}\n});\n") (codes "({[a](){}})") ++
    script (codes "({'a'(){},1(){}})") (codes "({\n    'a' () {},\n    1 () {}\n});\n") (codes "({\"a\"(){},1(){}})") ++
    script (codes "({get 1(){},get(){},set(){},async(){}})") (codes "({\n    get 1 () {},\n    get () {},\n    set () {},\n    async () {}\n});\n") (codes "({get 1(){},get(){},set(){},async(){}})") ++
    script (codes "({set a([b]){}})") (codes "({\n    set a ([b]){}\n});\n") (codes "({set a([b]){}})") ++
    script (codes "({async'a'(){},async*[b](){}})") (codes "({\n    async 'a' () {},\n    async *[b] () {}\n});\n") (codes "({async \"a\"(){},async *[b](){}})") ++
    [])
unfolding laid_out
rows_8 = refl

rows_9 : Hold (
    script (codes "({a(){super.b;super[c]}})") (codes "({\n    a () {\n        super.b;\n        super[c];\n    }\n});\n") (codes "({a(){super.b;super[c]}})") ++
    script (codes "({'__proto__':a,'b':c})") (codes "({\n    '__proto__': a,\n    'b': c\n});\n") (codes "({\"__proto__\":a,\"b\":c})") ++
    script (codes "a?.b?.c") (codes "a?.b?.c;\n") (codes "a?.b?.c") ++
    script (codes "a?.[b]?.[c]") (codes "a?.[b]?.[c];\n") (codes "a?.[b]?.[c]") ++
    script (codes "a?.(b)?.(c)") (codes "a?.(b)?.(c);\n") (codes "a?.(b)?.(c)") ++
    script (codes "a?.b()") (codes "a?.b();\n") (codes "a?.b()") ++
    script (codes "a.b?.()") (codes "a.b?.();\n") (codes "a.b?.()") ++
    script (codes "a[b]?.c") (codes "a[b]?.c;\n") (codes "a[b]?.c") ++
    script (codes "(a?.b).c") (codes "(a?.b).c;\n") (codes "(a?.b).c") ++
    script (codes "a?.b(c,...d)") (codes "a?.b(c, ...d);\n") (codes "a?.b(c,...d)") ++
    script (codes "new(a?.b)") (codes "new (a?.b)();\n") (codes "new(a?.b)") ++
    script (codes "new a[b]") (codes "new a[b]();\n") (codes "new a[b]") ++
    script (codes "new a(b)(c)") (codes "new a(b)(c);\n") (codes "new a(b)(c)") ++
    script (codes "new(class{})") (codes "new (class {\n})();\n") (codes "new(class{})") ++
    script (codes "new class{}") (codes "new class {\n}();\n") (codes "new class{}") ++
    script (codes "new function(){}") (codes "new function() {}();\n") (codes "new function(){}") ++
    [])
unfolding laid_out
rows_9 = refl

rows_10 : Hold (
    script (codes "new a;new b") (codes "new a();\nnew b();\n") (codes "new a;new b") ++
    script (codes "new a().b=c") (codes "new a().b = c;\n") (codes "new a().b=c") ++
    script (codes "new a(...b,c)") (codes "new a(...b, c);\n") (codes "new a(...b,c)") ++
    script (codes "new a+b") (codes "new a() + b;\n") (codes "new a+b") ++
    script (codes "new this") (codes "new this();\n") (codes "new this") ++
    script (codes "a()[b]") (codes "a()[b];\n") (codes "a()[b]") ++
    script (codes "(a)()") (codes "(a)();\n") (codes "(a)()") ++
    script (codes "(a).b") (codes "(a).b;\n") (codes "(a).b") ++
    script (codes "a((b,c))") (codes "a((b, c));\n") (codes "a((b,c))") ++
    script (codes "a(function(){})") (codes "a(function() {});\n") (codes "a(function(){})") ++
    script (codes "a(b=>c,d)") (codes "a((b)=>c, d);\n") (codes "a(b=>c,d)") ++
    script (codes "a({b},[c])") (codes "a({\n    b\n}, [\n    c\n]);\n") (codes "a({b},[c])") ++
    script (codes "a=b?c:d") (codes "a = b ? c : d;\n") (codes "a=b?c:d") ++
    script (codes "a?(b,c):d") (codes "a ? (b, c) : d;\n") (codes "a?(b,c):d") ++
    script (codes "a?b=c:d=e") (codes "a ? b = c : d = e;\n") (codes "a?b=c:d=e") ++
    script (codes "a,b,c") (codes "a, b, c;\n") (codes "a,b,c") ++
    [])
unfolding laid_out
rows_10 = refl

rows_11 : Hold (
    script (codes "a=>b=>c") (codes "(a)=>(b)=>c;\n") (codes "a=>b=>c") ++
    script (codes "()=>{a}") (codes "()=>{\n    a;\n};\n") (codes "()=>{a}") ++
    script (codes "()=>[a]") (codes "()=>[\n        a\n    ];\n") (codes "()=>[a]") ++
    script (codes "([a])=>b") (codes "([a])=>b;\n") (codes "([a])=>b") ++
    script (codes "(a,...b)=>c") (codes "(a, ...b)=>c;\n") (codes "(a,...b)=>c") ++
    script (codes "({a=1})=>b") (codes "({ a = 1 })=>b;\n") (codes "({a=1})=>b") ++
    script (codes "async({a})=>b") (codes "async ({ a })=>b;\n") (codes "async({a})=>b") ++
    script (codes "async a=>{}") (codes "async (a)=>{};\n") (codes "async a=>{}") ++
    script (codes "async()=>{await a}") (codes "async ()=>{\n    await a;\n};\n") (codes "async()=>{await a}") ++
    script (codes "a=>(b,c)") (codes "(a)=>(b, c);\n") (codes "a=>(b,c)") ++
    script (codes "a=>b?c:d") (codes "(a)=>b ? c : d;\n") (codes "a=>b?c:d") ++
    script (codes "(a=>b)()") (codes "((a)=>b)();\n") (codes "(a=>b)()") ++
    script (codes "a=b=>c") (codes "a = (b)=>c;\n") (codes "a=b=>c") ++
    script (codes "({},a)=>b") (codes "({}, a)=>b;\n") (codes "({},a)=>b") ++
    script (codes "a=>function(){}") (codes "(a)=>function() {};\n") (codes "a=>function(){}") ++
    script (codes "``") (codes "``;\n") (codes "``") ++
    [])
unfolding laid_out
rows_11 = refl

rows_12 : Hold (
    script (codes "`${a}${b}`") (codes "`${a}${b}`;\n") (codes "`${a}${b}`") ++
    script (codes "`${a,b}`") (codes "`${a, b}`;\n") (codes "`${a,b}`") ++
    script (codes "`${`a`}`") (codes "`${`a`}`;\n") (codes "`${`a`}`") ++
    script (codes "a.b`c`") (codes "a.b`c`;\n") (codes "a.b`c`") ++
    script (codes "a()`b`") (codes "a()`b`;\n") (codes "a()`b`") ++
    script (codes "function*f(){yield[a];yield-b;a=yield}") (codes "function* f() {\n    yield [\n        a\n    ];\n    yield -b;\n    a = yield;\n}\n") (codes "function*f(){yield[a];yield-b;a=yield}") ++
    script (codes "function*f(){yield*[a]}") (codes "function* f() {\n    yield* [\n        a\n    ];\n}\n") (codes "function*f(){yield*[a]}") ++
    script (codes "async function f(){await[a];await await b}") (codes "async function f() {\n    await [\n        a\n    ];\n    await await b;\n}\n") (codes "async function f(){await [a];await await b}") ++
    script (codes "(async function*a(){})") (codes "(async function* a() {});\n") (codes "(async function* a(){})") ++
    script (codes "(function(){a})()") (codes "(function() {\n    a;\n})();\n") (codes "(function(){a})()") ++
    script (codes "x=class A{a}") (codes "x = class A {\n    a;\n};\n") (codes "x=class A{a}") ++
    script (codes "'a\"b'") (codes "'a\"b';\n") (codes "'a\"b'") ++
    script (codes "import(a).b") (codes "import(a).b;\n") (codes "import(a).b") ++
    script (codes "function f(){new new.target}") (codes "function f() {\n    new new.target();\n}\n") (codes "function f(){new new.target}") ++
    [])
unfolding laid_out
rows_12 = refl
