-- super, new.target, constructors, protos, updates, initialisers.
use Rattle.std.proofs.Common.{[], ◌∷◌, codes, refl}
use Rattle.grammar_spec.proofs.reader.Rows.{Hold, opened, module_faults, script_faults}

rows_1 : Hold (
    script_faults (codes "super.a") (12 ∷ 1 ∷ 6 ∷ []) ∷
    script_faults (codes "({a(){super.b}})") ([]) ∷
    script_faults (codes "function f(){super.a}") (12 ∷ 14 ∷ 19 ∷ []) ∷
    script_faults (codes "({a(){()=>super.b}})") ([]) ∷
    script_faults (codes "({a(){function f(){super.b}}})") (12 ∷ 20 ∷ 25 ∷ []) ∷
    script_faults (codes "class A{a=super.b;static{super.c}}") ([]) ∷
    script_faults (codes "({a:super.b})") (12 ∷ 5 ∷ 10 ∷ []) ∷
    script_faults (codes "({get a(){super.b},set a(c){super.d}})") ([]) ∷
    script_faults (codes "super()") (13 ∷ 1 ∷ 8 ∷ []) ∷
    script_faults (codes "class A extends B{constructor(){super()}}") ([]) ∷
    script_faults (codes "class A{constructor(){super()}}") (13 ∷ 23 ∷ 30 ∷ []) ∷
    script_faults (codes "class A extends B{constructor(){()=>super()}}") ([]) ∷ [])
unfolding opened
rows_1 = refl

rows_2 : Hold (
    script_faults (codes "class A extends B{a(){super()}}") (13 ∷ 23 ∷ 30 ∷ []) ∷
    script_faults (codes "class A extends B{constructor(){function f(){super()}}}") (13 ∷ 46 ∷ 53 ∷ []) ∷
    script_faults (codes "new.target") (14 ∷ 1 ∷ 11 ∷ []) ∷
    script_faults (codes "function f(){new.target}") ([]) ∷
    script_faults (codes "()=>new.target") (14 ∷ 5 ∷ 15 ∷ []) ∷
    script_faults (codes "function f(){()=>new.target}") ([]) ∷
    script_faults (codes "class A{a=new.target;static{new.target}}") ([]) ∷
    script_faults (codes "class A{constructor(){}constructor(){}}") (15 ∷ 24 ∷ 39 ∷ []) ∷
    script_faults (codes "class A{constructor(){}static constructor(){}}") ([]) ∷
    script_faults (codes "({__proto__:a,__proto__:b})") (16 ∷ 15 ∷ 26 ∷ []) ∷
    script_faults (codes "({__proto__:a,'__proto__':b})") (16 ∷ 15 ∷ 28 ∷ []) ∷
    script_faults (codes "({__proto__:a,__proto__})") ([]) ∷ [])
unfolding opened
rows_2 = refl

rows_3 : Hold (
    script_faults (codes "({__proto__:a,['__proto__']:b})") ([]) ∷
    script_faults (codes "({__proto__:a,__proto__:b}={})") ([]) ∷
    script_faults (codes "function f(a=1){'use strict'}") (17 ∷ 17 ∷ 29 ∷ []) ∷
    script_faults (codes "function f(a){'use strict'}") ([]) ∷
    script_faults (codes "([a])=>{'use strict'}") (17 ∷ 9 ∷ 21 ∷ []) ∷
    script_faults (codes "({set a([b]){'use strict'}})") (17 ∷ 14 ∷ 26 ∷ []) ∷
    script_faults (codes "class A{constructor(...a){'use strict'}}") (17 ∷ 27 ∷ 39 ∷ []) ∷
    script_faults (codes "const a;") (18 ∷ 7 ∷ 8 ∷ []) ∷
    script_faults (codes "let[a]") (18 ∷ 4 ∷ 7 ∷ []) ∷
    script_faults (codes "var{a}") (18 ∷ 4 ∷ 7 ∷ []) ∷
    script_faults (codes "let a") ([]) ∷
    script_faults (codes "for(const a of b);for(const c in d);for(var[e]of f);") ([]) ∷ [])
unfolding opened
rows_3 = refl

rows_4 : Hold (
    script_faults (codes "for(const a;;);") (18 ∷ 11 ∷ 12 ∷ []) ∷
    script_faults (codes "++a.b;(a)++") ([]) ∷
    script_faults (codes "++a()") (6 ∷ 1 ∷ 6 ∷ []) ∷
    script_faults (codes "a()++") (6 ∷ 1 ∷ 6 ∷ []) ∷
    script_faults (codes "++(a+b)") (6 ∷ 1 ∷ 8 ∷ []) ∷
    script_faults (codes "a?.b++") (6 ∷ 1 ∷ 7 ∷ []) ∷
    script_faults (codes "({a(){super.b++}})") ([]) ∷
    module_faults (codes "using a") (22 ∷ 7 ∷ 8 ∷ []) ∷
    module_faults (codes "using a=b,{c}=d") (21 ∷ 11 ∷ 16 ∷ []) ∷
    module_faults (codes "for(using a in b);") (20 ∷ 5 ∷ 12 ∷ []) ∷
    module_faults (codes "for(using a of b);") ([]) ∷
    script_faults (codes "break;const a;010") (9 ∷ 1 ∷ 7 ∷ 18 ∷ 13 ∷ 14 ∷ []) ∷ [])
unfolding opened
rows_4 = refl
