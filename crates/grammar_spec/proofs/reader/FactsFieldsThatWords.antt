-- Fields that words name.
use Rattle.std.proofs.Common.{[], ◌∷◌, codes, refl}
use Rattle.grammar_spec.proofs.reader.Rows.{Hold, opened, full_row, no_script, script_row}

rows_1 : Hold (
    script_row (codes "class A{get}") (codes "(classdecl A (body (field get -) -))") ∷
    script_row (codes "class A{get;set}") (codes "(classdecl A (body (field get -) (field set -) -))") ∷
    script_row (codes "class A{get\na(){}}") (codes "(classdecl A (body (get a (of (block))) -))") ∷
    script_row (codes "class A{get\n*a(){}}") (codes "(classdecl A (body (field get -) (method a (gen (block))) -))") ∷
    no_script (codes "class A{get *a(){}}") ∷
    no_script (codes "class A{get\na}") ∷
    script_row (codes "class A{get=1}") (codes "(classdecl A (body (field get 1) -))") ∷
    script_row (codes "class A{set(){}}") (codes "(classdecl A (body (method set (of (block))) -))") ∷
    script_row (codes "class A{async}") (codes "(classdecl A (body (field async -) -))") ∷
    script_row (codes "class A{async\na(){}}") (codes "(classdecl A (body (field async -) (method a (of (block))) -))") ∷
    script_row (codes "class A{async a(){}}") (codes "(classdecl A (body (method a (async (block))) -))") ∷
    script_row (codes "class A{async*a(){}}") (codes "(classdecl A (body (method a (async* (block))) -))") ∷ [])
unfolding opened
rows_1 = refl

rows_2 : Hold (
    script_row (codes "class A{*a(){}}") (codes "(classdecl A (body (method a (gen (block))) -))") ∷
    no_script (codes "class A{a\n*b(){}c d}") ∷
    script_row (codes "class A{a\n*b(){}}") (codes "(classdecl A (body (field a -) (method b (gen (block))) -))") ∷
    script_row (codes "class A{static\n*a(){}}") (codes "(classdecl A (body (smethod a (gen (block))) -))") ∷
    script_row (codes "class A{static get\na(){}}") (codes "(classdecl A (body (sget a (of (block))) -))") ∷
    script_row (codes "class A{;;a(){};}") (codes "(classdecl A (body (empty) (empty) (method a (of (block))) (empty) -))") ∷
    script_row (codes "class A{[a]=1;'b'=2;3=4}") (codes "(classdecl A (body (field (at a) 1) (field 'b' 2) (field 3 4) -))") ∷
    full_row (codes "class A{accessor a=1}") (codes "(classdecl A (body (accessor a 1) -))") ∷
    full_row (codes "class A{static accessor #a}") (codes "(classdecl A (body (saccessor #a -) -))") ∷
    full_row (codes "class A{accessor\na}") (codes "(classdecl A (body (field accessor -) (field a -) -))") ∷
    no_script (codes "class A{accessor a}") ∷
    script_row (codes "class A{constructor(){super()}}") (codes "(classdecl A (body (constructor constructor (block (do (call super)))) -))") ∷ [])
unfolding opened
rows_2 = refl

rows_3 : Hold (
    script_row (codes "class A{a(){super.b;super[c]}}") (codes "(classdecl A (body (method a (of (block (do (super. super b)) (do (super. super (at c)))))) -))") ∷
    no_script (codes "super") ∷
    no_script (codes "super.#a") ∷
    no_script (codes "super`a`") ∷
    script_row (codes "class A{#a;b(c){#a in c}}") (codes "(classdecl A (body (field #a -) (method b (of c (block (do (in #a c))))) -))") ∷
    no_script (codes "#a") ∷
    no_script (codes "1+#a in b") ∷
    no_script (codes "#a in #b in c") ∷ [])
unfolding opened
rows_3 = refl

rows_4 : Hold (
    full_row (codes "class A{accessor get\na(){}}") (codes "(classdecl A (body (accessor get -) (method a (of (block))) -))") ∷
    full_row (codes "class A{accessor set\na}") (codes "(classdecl A (body (accessor set -) (field a -) -))") ∷
    full_row (codes "class A{static accessor get\n[a]=1}") (codes "(classdecl A (body (saccessor get -) (field (at a) 1) -))") ∷
    full_row (codes "class A{accessor get\n=1}") (codes "(classdecl A (body (accessor get 1) -))") ∷
    full_row (codes "class A{accessor get\n(){}}") (codes "no") ∷
    full_row (codes "class A{accessor get a(){}}") (codes "no") ∷
    script_row (codes "class A{accessor\nget\na(){}}") (codes "(classdecl A (body (field accessor -) (get a (of (block))) -))") ∷ [])
unfolding opened
rows_4 = refl
