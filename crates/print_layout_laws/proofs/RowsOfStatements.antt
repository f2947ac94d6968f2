-- Statements.
use Rattle.std.proofs.Common.{[], ◌++◌, codes, refl}
use Rattle.print_layout_laws.proofs.Rows.{Hold, laid_out, script}

rows_1 : Hold (
    script (codes "") (codes "") (codes "") ++
    script (codes "a") (codes "a;\n") (codes "a") ++
    script (codes "a;b") (codes "a;\nb;\n") (codes "a;b") ++
    script (codes ";") (codes ";\n") (codes ";") ++
    script (codes "debugger") (codes "debugger;\n") (codes "debugger") ++
    script (codes "debugger;a") (codes "debugger;\na;\n") (codes "debugger;a") ++
    script (codes "with(a)b") (codes "with (a)b;\n") (codes "with(a)b") ++
    script (codes "function f(){return}") (codes "function f() {\n    return;\n}\n") (codes "function f(){return}") ++
    script (codes "function f(){return a}") (codes "function f() {\n    return a;\n}\n") (codes "function f(){return a}") ++
    script (codes "function f(){return(a)}") (codes "function f() {\n    return (a);\n}\n") (codes "function f(){return(a)}") ++
    script (codes "function f(){return 'a'}") (codes "function f() {\n    return 'a';\n}\n") (codes "function f(){return\"a\"}") ++
    script (codes "throw a") (codes "throw a;\n") (codes "throw a") ++
    script (codes "throw[a]") (codes "throw [\n    a\n];\n") (codes "throw[a]") ++
    script (codes "a:b") (codes "a: b;\n") (codes "a:b") ++
    script (codes "a:{}") (codes "a: {}\n") (codes "a:{}") ++
    script (codes "a:for(;;)break a") (codes "a: for(;;)break a;\n") (codes "a:for(;;)break a") ++
    [])
unfolding laid_out
rows_1 = refl

rows_2 : Hold (
    script (codes "for(;;)continue") (codes "for(;;)continue;\n") (codes "for(;;)continue") ++
    script (codes "a:for(;;){continue a}") (codes "a: for(;;){\n    continue a;\n}\n") (codes "a:for(;;){continue a}") ++
    script (codes "if(a)b") (codes "if (a) b;\n") (codes "if(a)b") ++
    script (codes "if(a)b;else c") (codes "if (a) b;\nelse c;\n") (codes "if(a)b;else c") ++
    script (codes "if(a){}else{}") (codes "if (a) {} else {}\n") (codes "if(a){}else{}") ++
    script (codes "if(a){b}else c") (codes "if (a) {\n    b;\n} else c;\n") (codes "if(a){b}else c") ++
    script (codes "if(a);else b") (codes "if (a) ;\nelse b;\n") (codes "if(a);else b") ++
    script (codes "if(a)b;else[c]") (codes "if (a) b;\nelse [\n    c\n];\n") (codes "if(a)b;else[c]") ++
    script (codes "if(a){b}else if(c)d;else{e}") (codes "if (a) {\n    b;\n} else if (c) d;\nelse {\n    e;\n}\n") (codes "if(a){b}else if(c)d;else{e}") ++
    script (codes "if(a)if(b)c;else d") (codes "if (a) if (b) c;\nelse d;\n") (codes "if(a)if(b)c;else d") ++
    script (codes "switch(a){}") (codes "switch(a){\n}\n") (codes "switch(a){}") ++
    script (codes "switch(a){case 1:b;default:}") (codes "switch(a){\n    case 1:\n        b;\n    default:\n}\n") (codes "switch(a){case 1:b;default:}") ++
    script (codes "switch(a){case 1:case 2:b;break;default:c}") (codes "switch(a){\n    case 1:\n    case 2:\n        b;\n        break;\n    default:\n        c;\n}\n") (codes "switch(a){case 1:case 2:b;break;default:c}") ++
    script (codes "switch(a){case(b):}") (codes "switch(a){\n    case (b):\n}\n") (codes "switch(a){case(b):}") ++
    script (codes "switch(a){case 'b':{c}}") (codes "switch(a){\n    case 'b':\n        {\n            c;\n        }\n}\n") (codes "switch(a){case\"b\":{c}}") ++
    script (codes "try{}catch{}finally{}") (codes "try {} catch  {} finally{}\n") (codes "try{}catch{}finally{}") ++
    [])
unfolding laid_out
rows_2 = refl

rows_3 : Hold (
    script (codes "try{a}catch(e){b}") (codes "try {\n    a;\n} catch (e) {\n    b;\n}\n") (codes "try{a}catch(e){b}") ++
    script (codes "try{}catch({a}){}") (codes "try {} catch ({ a }) {}\n") (codes "try{}catch({a}){}") ++
    script (codes "try{}finally{a}") (codes "try {} finally{\n    a;\n}\n") (codes "try{}finally{a}") ++
    script (codes "while(a)b") (codes "while(a)b;\n") (codes "while(a)b") ++
    script (codes "while(a){b}") (codes "while(a){\n    b;\n}\n") (codes "while(a){b}") ++
    script (codes "while(a);") (codes "while(a);\n") (codes "while(a);") ++
    script (codes "do a;while(b)") (codes "do a;\nwhile (b);\n") (codes "do a;while(b)") ++
    script (codes "do{}while(a)") (codes "do {}while (a);\n") (codes "do{}while(a)") ++
    script (codes "do(a);while(b)") (codes "do (a);\nwhile (b);\n") (codes "do(a);while(b)") ++
    script (codes "do{}while(a);;") (codes "do {}while (a);\n;\n") (codes "do{}while(a);;") ++
    script (codes "do{}while(a) b") (codes "do {}while (a);\nb;\n") (codes "do{}while(a);b") ++
    script (codes "for(var a=1;a<2;a++)b") (codes "for(var a = 1; a < 2; a++)b;\n") (codes "for(var a=1;a<2;a++)b") ++
    script (codes "for(a;b;c);") (codes "for(a; b; c);\n") (codes "for(a;b;c);") ++
    script (codes "for(;;);") (codes "for(;;);\n") (codes "for(;;);") ++
    script (codes "for(;;){a}") (codes "for(;;){\n    a;\n}\n") (codes "for(;;){a}") ++
    script (codes "for(a in b)c") (codes "for(a in b)c;\n") (codes "for(a in b)c") ++
    [])
unfolding laid_out
rows_3 = refl

rows_4 : Hold (
    script (codes "for(var a in b)c") (codes "for(var a in b)c;\n") (codes "for(var a in b)c") ++
    script (codes "for(var[a]in b)c") (codes "for(var [a] in b)c;\n") (codes "for(var[a]in b)c") ++
    script (codes "for([a]in b);") (codes "for([a] in b);\n") (codes "for([a]in b);") ++
    script (codes "for(a in[b])c") (codes "for(a in [\n    b\n])c;\n") (codes "for(a in[b])c") ++
    script (codes "for(a of b)c") (codes "for (a of b)c;\n") (codes "for(a of b)c") ++
    script (codes "for(const{a}of b);") (codes "for (const { a } of b);\n") (codes "for(const{a}of b);") ++
    script (codes "for(let a of[b]);") (codes "for (let a of [\n    b\n]);\n") (codes "for(let a of[b]);") ++
    script (codes "for((async)of b);") (codes "for ((async) of b);\n") (codes "for((async)of b);") ++
    script (codes "for(async(of)=>x;;);") (codes "for(async (of)=>x;;);\n") (codes "for(async of=>x;;);") ++
    script (codes "async function f(){for await(a of b)c}") (codes "async function f() {\n    for await (a of b)c;\n}\n") (codes "async function f(){for await(a of b)c}") ++
    script (codes "{a;b}") (codes "{\n    a;\n    b;\n}") (codes "{a;b}") ++
    script (codes "{}") (codes "{}") (codes "{}") ++
    script (codes "{}a") (codes "{}a;\n") (codes "{}a") ++
    script (codes "{{}}") (codes "{\n    {}\n}") (codes "{{}}") ++
    script (codes "x=a\n++b") (codes "x = a;\n++b;\n") (codes "x=a;++b") ++
    script (codes "'use strict'") (codes "'use strict';\n") (codes "\"use strict\"") ++
    [])
unfolding laid_out
rows_4 = refl

rows_5 : Hold (
    script (codes "'use strict';a") (codes "'use strict';\na;\n") (codes "\"use strict\";a") ++
    script (codes "'x';;'use strict'") (codes "'x';\n;\n'use strict';\n") (codes "\"x\";;\"use strict\"") ++
    script (codes "#!x\na") (codes "#!x\na;\n") (codes "#!x\na") ++
    script (codes "function f(){'use strict';a}") (codes "function f() {\n    'use strict';\n    a;\n}\n") (codes "function f(){\"use strict\";a}") ++
    [])
unfolding laid_out
rows_5 = refl

rows_6 : Hold (
    script (codes ";;") (codes ";\n;\n") (codes ";;") ++
    script (codes "if(a);else;") (codes "if (a) ;\nelse ;\n") (codes "if(a);else;") ++
    script (codes "if(a)b;else if(c)d") (codes "if (a) b;\nelse if (c) d;\n") (codes "if(a)b;else if(c)d") ++
    script (codes "if(a){}else if(b){}else if(c){}else d") (codes "if (a) {} else if (b) {} else if (c) {} else d;\n") (codes "if(a){}else if(b){}else if(c){}else d") ++
    script (codes "if(a)b;else if(c)d;else if(e)f;else if(g)h;else i") (codes "if (a) b;\nelse if (c) d;\nelse if (e) f;\nelse if (g) h;\nelse i;\n") (codes "if(a)b;else if(c)d;else if(e)f;else if(g)h;else i") ++
    script (codes "if(a)var b;else c") (codes "if (a) var b;\nelse c;\n") (codes "if(a)var b;else c") ++
    script (codes "if(a)b;else{}") (codes "if (a) b;\nelse {}\n") (codes "if(a)b;else{}") ++
    script (codes "if(a)b;else var c") (codes "if (a) b;\nelse var c;\n") (codes "if(a)b;else var c") ++
    script (codes "if(a)b;else if(c);d") (codes "if (a) b;\nelse if (c) ;\nd;\n") (codes "if(a)b;else if(c);d") ++
    script (codes "if(a)while(b);else c") (codes "if (a) while(b);\nelse c;\n") (codes "if(a)while(b);else c") ++
    script (codes "if(a){}b") (codes "if (a) {}\nb;\n") (codes "if(a){}b") ++
    script (codes "if(a,b);") (codes "if (a, b) ;\n") (codes "if(a,b);") ++
    script (codes "while(a)while(b);") (codes "while(a)while(b);\n") (codes "while(a)while(b);") ++
    script (codes "while(a)var b") (codes "while(a)var b;\n") (codes "while(a)var b") ++
    script (codes "while(a){}b") (codes "while(a){}\nb;\n") (codes "while(a){}b") ++
    script (codes "do var a;while(b)") (codes "do var a;\nwhile (b);\n") (codes "do var a;while(b)") ++
    [])
unfolding laid_out
rows_6 = refl

rows_7 : Hold (
    script (codes "do do a;while(b);while(c)") (codes "do do a;\nwhile (b);\nwhile (c);\n") (codes "do do a;while(b);while(c)") ++
    script (codes "do if(a)b;while(c)") (codes "do if (a) b;\nwhile (c);\n") (codes "do if(a)b;while(c)") ++
    script (codes "do;while(a)") (codes "do ;\nwhile (a);\n") (codes "do;while(a)") ++
    script (codes "do[a];while(b)") (codes "do [\n    a\n];\nwhile (b);\n") (codes "do[a];while(b)") ++
    script (codes "for(;a;);") (codes "for(; a;);\n") (codes "for(;a;);") ++
    script (codes "for(;;a);") (codes "for(;; a);\n") (codes "for(;;a);") ++
    script (codes "for(a;;);") (codes "for(a;;);\n") (codes "for(a;;);") ++
    script (codes "for(let a=1,b=2;;);") (codes "for(let a = 1, b = 2;;);\n") (codes "for(let a=1,b=2;;);") ++
    script (codes "for(let{a}=b;;);") (codes "for(let { a } = b;;);\n") (codes "for(let{a}=b;;);") ++
    script (codes "for(a,b;c,d;e,f);") (codes "for(a, b; c, d; e, f);\n") (codes "for(a,b;c,d;e,f);") ++
    script (codes "for(;;)var a") (codes "for(;;)var a;\n") (codes "for(;;)var a") ++
    script (codes "for(var a of b)c") (codes "for (var a of b)c;\n") (codes "for(var a of b)c") ++
    script (codes "for(var a of(b))c") (codes "for (var a of (b))c;\n") (codes "for(var a of(b))c") ++
    script (codes "for(a.b in c);") (codes "for(a.b in c);\n") (codes "for(a.b in c);") ++
    script (codes "for(a[b]in c);") (codes "for(a[b] in c);\n") (codes "for(a[b]in c);") ++
    script (codes "for(a[b]of c);") (codes "for (a[b] of c);\n") (codes "for(a[b]of c);") ++
    [])
unfolding laid_out
rows_7 = refl

rows_8 : Hold (
    script (codes "for(var a in b,c);") (codes "for(var a in b, c);\n") (codes "for(var a in b,c);") ++
    script (codes "for(var{a}of b);") (codes "for (var { a } of b);\n") (codes "for(var{a}of b);") ++
    script (codes "for(let[a]of b);") (codes "for (let [a] of b);\n") (codes "for(let[a]of b);") ++
    script (codes "for(const a in b){}") (codes "for(const a in b){}\n") (codes "for(const a in b){}") ++
    script (codes "for(const a of b){c}") (codes "for (const a of b){\n    c;\n}\n") (codes "for(const a of b){c}") ++
    script (codes "with(a){b}") (codes "with (a){\n    b;\n}\n") (codes "with(a){b}") ++
    script (codes "with(a);") (codes "with (a);\n") (codes "with(a);") ++
    script (codes "a:b:c") (codes "a: b: c;\n") (codes "a:b:c") ++
    script (codes "a:while(b)continue a") (codes "a: while(b)continue a;\n") (codes "a:while(b)continue a") ++
    script (codes "a:{break a}") (codes "a: {\n    break a;\n}\n") (codes "a:{break a}") ++
    script (codes "switch(a){default:b;c}") (codes "switch(a){\n    default:\n        b;\n        c;\n}\n") (codes "switch(a){default:b;c}") ++
    script (codes "switch(a){case 1:{}case 2:}") (codes "switch(a){\n    case 1:\n        {}\n    case 2:\n}\n") (codes "switch(a){case 1:{}case 2:}") ++
    script (codes "switch(a){case b:var c}") (codes "switch(a){\n    case b:\n        var c;\n}\n") (codes "switch(a){case b:var c}") ++
    script (codes "switch(a,b){}") (codes "switch(a, b){\n}\n") (codes "switch(a,b){}") ++
    script (codes "switch(a){case[b]:case-c:}") (codes "switch(a){\n    case [\n        b\n    ]:\n    case -c:\n}\n") (codes "switch(a){case[b]:case-c:}") ++
    script (codes "switch(a){}b") (codes "switch(a){\n}\nb;\n") (codes "switch(a){}b") ++
    [])
unfolding laid_out
rows_8 = refl

rows_9 : Hold (
    script (codes "try{}catch([a]){}") (codes "try {} catch ([a]) {}\n") (codes "try{}catch([a]){}") ++
    script (codes "try{}catch{a}") (codes "try {} catch  {\n    a;\n}\n") (codes "try{}catch{a}") ++
    script (codes "try{}catch(a){}finally{b}") (codes "try {} catch (a) {} finally{\n    b;\n}\n") (codes "try{}catch(a){}finally{b}") ++
    script (codes "try{a}finally{}b") (codes "try {\n    a;\n} finally{}\nb;\n") (codes "try{a}finally{}b") ++
    script (codes "throw-a") (codes "throw -a;\n") (codes "throw-a") ++
    script (codes "throw new a") (codes "throw new a();\n") (codes "throw new a") ++
    script (codes "throw'a'") (codes "throw 'a';\n") (codes "throw\"a\"") ++
    script (codes "function f(){return-a}") (codes "function f() {\n    return -a;\n}\n") (codes "function f(){return-a}") ++
    script (codes "function f(){return[a]}") (codes "function f() {\n    return [\n        a\n    ];\n}\n") (codes "function f(){return[a]}") ++
    script (codes "function f(){return a,b}") (codes "function f() {\n    return a, b;\n}\n") (codes "function f(){return a,b}") ++
    script (codes "function f(){return;a}") (codes "function f() {\n    return;\n    a;\n}\n") (codes "function f(){return;a}") ++
    script (codes "function f(){return function(){}}") (codes "function f() {\n    return function() {};\n}\n") (codes "function f(){return function(){}}") ++
    script (codes "{;}") (codes "{\n    ;\n}") (codes "{;}") ++
    script (codes "{var a}") (codes "{\n    var a;\n}") (codes "{var a}") ++
    script (codes "{function a(){}}") (codes "{\n    function a() {}\n}") (codes "{function a(){}}") ++
    script (codes "{class A{}}") (codes "{\n    class A {\n    }\n}") (codes "{class A{}}") ++
    [])
unfolding laid_out
rows_9 = refl

rows_10 : Hold (
    script (codes "{{a}b}") (codes "{\n    {\n        a;\n    }\n    b;\n}") (codes "{{a}b}") ++
    script (codes "{a}b") (codes "{\n    a;\n}b;\n") (codes "{a}b") ++
    [])
unfolding laid_out
rows_10 = refl
