-- Labels and jumps.
use Rattle.std.proofs.Common.{[], ◌∷◌, codes, refl}
use Rattle.grammar_spec.proofs.reader.Rows.{Hold, opened, script_faults}

rows_1 : Hold (
    script_faults (codes "break;") (9 ∷ 1 ∷ 7 ∷ []) ∷
    script_faults (codes "continue;") (10 ∷ 1 ∷ 10 ∷ []) ∷
    script_faults (codes "break;a:a:;") (9 ∷ 1 ∷ 7 ∷ 8 ∷ 9 ∷ 10 ∷ []) ∷
    script_faults (codes "while(a)break") ([]) ∷
    script_faults (codes "switch(a){case b:break}") ([]) ∷
    script_faults (codes "switch(a){case b:continue}") (10 ∷ 18 ∷ 26 ∷ []) ∷
    script_faults (codes "a:break a") ([]) ∷
    script_faults (codes "break a") (7 ∷ 1 ∷ 8 ∷ []) ∷
    script_faults (codes "a:{break a}") ([]) ∷
    script_faults (codes "a:{continue a}") (7 ∷ 4 ∷ 14 ∷ []) ∷
    script_faults (codes "a:while(b)continue a") ([]) ∷
    script_faults (codes "a:b:while(c)continue a") ([]) ∷ [])
unfolding opened
rows_1 = refl

rows_2 : Hold (
    script_faults (codes "while(a)(function(){break})") (9 ∷ 21 ∷ 26 ∷ []) ∷
    script_faults (codes "a:while(b)(function(){break a})") (7 ∷ 23 ∷ 30 ∷ []) ∷
    script_faults (codes "a:a:;") (8 ∷ 3 ∷ 4 ∷ []) ∷
    script_faults (codes "a:;a:;") ([]) ∷
    script_faults (codes "a:{a:;}") (8 ∷ 4 ∷ 5 ∷ []) ∷
    script_faults (codes "a:(function(){a:;})") ([]) ∷
    script_faults (codes "return") (11 ∷ 1 ∷ 7 ∷ []) ∷
    script_faults (codes "function f(){return}") ([]) ∷
    script_faults (codes "()=>{return}") ([]) ∷
    script_faults (codes "class A{static{return}}") (11 ∷ 16 ∷ 22 ∷ []) ∷
    script_faults (codes "class A{static{break}}") (9 ∷ 16 ∷ 21 ∷ []) ∷
    script_faults (codes "while(a){class A{static{break}}}") (9 ∷ 25 ∷ 30 ∷ []) ∷ [])
unfolding opened
rows_2 = refl

rows_3 : Hold (
    script_faults (codes "while(a)()=>{break}") (9 ∷ 14 ∷ 19 ∷ []) ∷ [])
unfolding opened
rows_3 = refl
