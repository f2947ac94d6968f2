-- `await` among the parameters of async arrows.
use Rattle.std.proofs.Common.{[], ◌∷◌, codes, refl}
use Rattle.grammar_spec.proofs.reader.Rows.{Hold, opened, script_faults}

rows_1 : Hold (
    script_faults (codes "async await=>a") (0 ∷ 7 ∷ 12 ∷ []) ∷
    script_faults (codes "async(await)=>a") (0 ∷ 7 ∷ 12 ∷ []) ∷
    script_faults (codes "async(a=await)=>a") (0 ∷ 9 ∷ 14 ∷ []) ∷
    script_faults (codes "async({await})=>a") (0 ∷ 8 ∷ 13 ∷ []) ∷
    script_faults (codes "async(...await)=>a") (0 ∷ 10 ∷ 15 ∷ []) ∷
    script_faults (codes "async(a=(b=await)=>c)=>a") (0 ∷ 12 ∷ 17 ∷ []) ∷
    script_faults (codes "async(a=class await{})=>a") (0 ∷ 15 ∷ 20 ∷ []) ∷
    script_faults (codes "async(a=class{[await](){}})=>a") (0 ∷ 16 ∷ 21 ∷ []) ∷
    script_faults (codes "(a=async await=>b)=>c") (0 ∷ 10 ∷ 15 ∷ []) ∷ [])
unfolding opened
rows_1 = refl

rows_2 : Hold (
    script_faults (codes "async(await)") ([]) ∷
    script_faults (codes "await=>a") ([]) ∷
    script_faults (codes "(a=await)=>a") ([]) ∷
    script_faults (codes "async({await:a},b=c.await)=>a") ([]) ∷
    script_faults (codes "async(a=b=>await)=>a") ([]) ∷
    script_faults (codes "async(a=b=>{await})=>a") ([]) ∷
    script_faults (codes "async(a=function await(await){await})=>a") ([]) ∷
    script_faults (codes "async(a={b(await){},set c(await){}})=>a") ([]) ∷
    script_faults (codes "async(a=class{await=await;static{}})=>a") ([]) ∷ [])
unfolding opened
rows_2 = refl
