-- Classes.
use Rattle.std.proofs.Common.{[], ◌∷◌, codes, refl}
use Rattle.grammar_spec.proofs.reader.Rows.{Hold, opened, no_script, script_row}

rows_1 : Hold (
    script_row (codes "class A{}") (codes "(classdecl A (body -))") ∷
    no_script (codes "class{}") ∷
    script_row (codes "(class{})") (codes "(do (paren (class - (body -))))") ∷
    script_row (codes "(class A extends B{})") (codes "(do (paren (class A (body B))))") ∷
    script_row (codes "class A extends B.c{}") (codes "(classdecl A (body (. B c)))") ∷
    no_script (codes "class A extends b=>c{}") ∷
    script_row (codes "class A{a(){}}") (codes "(classdecl A (body (method a (of (block))) -))") ∷
    script_row (codes "class A{constructor(a){}}") (codes "(classdecl A (body (constructor constructor a (block)) -))") ∷
    script_row (codes "class A{'constructor'(){}}") (codes "(classdecl A (body (constructor 'constructor' (block)) -))") ∷
    script_row (codes "class A{static constructor(){}}") (codes "(classdecl A (body (smethod constructor (of (block))) -))") ∷
    script_row (codes "class A{get a(){}set a(b){}}") (codes "(classdecl A (body (get a (of (block))) (set a (of b (block))) -))") ∷
    no_script (codes "class A{set a(b,){}}") ∷ [])
unfolding opened
rows_1 = refl

rows_2 : Hold (
    no_script (codes "class A{set a(...b){}}") ∷
    no_script (codes "class A{get a(b){}}") ∷
    script_row (codes "class A{a;b=1;}") (codes "(classdecl A (body (field a -) (field b 1) -))") ∷
    script_row (codes "class A{a\nb}") (codes "(classdecl A (body (field a -) (field b -) -))") ∷
    no_script (codes "class A{a b}") ∷
    script_row (codes "class A{a=1\nb}") (codes "(classdecl A (body (field a 1) (field b -) -))") ∷
    no_script (codes "class A{a\n(){}b c}") ∷
    script_row (codes "class A{#a;#b(){}}") (codes "(classdecl A (body (field #a -) (method #b (of (block))) -))") ∷
    script_row (codes "class A{static a=1}") (codes "(classdecl A (body (sfield a 1) -))") ∷
    script_row (codes "class A{static}") (codes "(classdecl A (body (field static -) -))") ∷
    script_row (codes "class A{static(){}}") (codes "(classdecl A (body (method static (of (block))) -))") ∷
    script_row (codes "class A{static\na}") (codes "(classdecl A (body (sfield a -) -))") ∷ [])
unfolding opened
rows_2 = refl

rows_3 : Hold (
    script_row (codes "class A{static static}") (codes "(classdecl A (body (sfield static -) -))") ∷
    script_row (codes "class A{static{}}") (codes "(classdecl A (body (static (block)) -))") ∷
    script_row (codes "class A{static{a}}") (codes "(classdecl A (body (static (block (do a))) -))") ∷
    no_script (codes "class A{static{await}}") ∷
    no_script (codes "class A{static{await a}}") ∷ [])
unfolding opened
rows_3 = refl

rows_4 : Hold (
    no_script (codes "class A{# a}") ∷
    no_script (codes "# a in b") ∷ [])
unfolding opened
rows_4 = refl
