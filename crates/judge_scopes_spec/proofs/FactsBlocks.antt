-- Scopes of scripts, blocks, loops, `switch` and `catch`.
use Rattle.std.proofs.Common.{[], ◌∷◌, codes, refl}
use Rattle.grammar_spec.proofs.reader.Rows.{Hold}
use Rattle.judge_scopes_spec.proofs.Rows.{opened_rows, script_names}

rows_1 : Hold (
    script_names (codes "x;var x") (codes "x:0.0 x:0.0") ∷
    script_names (codes "let y;var x;x;y;z") (codes "y:0.0 x:0.1 x:0.1 y:0.0 z:free") ∷
    script_names (codes "{let x;x}x") (codes "x:1.0 x:1.0 x:free") ∷
    script_names (codes "{class x{}x}x") (codes "x:1.0 x:1.0 x:free") ∷ [])
unfolding opened_rows
rows_1 = refl

rows_2 : Hold (
    script_names (codes "var [x,{y,z:w=x,...v}]=u") (codes "x:0.0 y:0.1 w:0.2 x:0.0 v:0.3 u:free") ∷
    script_names (codes "({x,y:z});({x}=y)") (codes "x:free z:free x:free y:free") ∷
    script_names (codes "if(x){var x}else for(var y in x)while(0)do var z;while(0)") (codes "x:0.0 x:0.0 y:0.1 x:0.0 z:0.2") ∷
    script_names (codes "for(var x=0;;);for(var y of x);try{var z}catch{var u}finally{var v}") (codes "x:0.0 y:0.1 x:0.0 z:0.2 u:0.3 v:0.4") ∷ [])
unfolding opened_rows
rows_2 = refl

rows_3 : Hold (
    script_names (codes "l:var x;with(x)var y;switch(0){case 0:var z}") (codes "l:none x:0.0 x:0.0 y:0.1 z:0.2") ∷
    script_names (codes "for(let x of x)y") (codes "x:1.0 x:1.0 y:free") ∷
    script_names (codes "for(let x=0,y;x;y)x;x") (codes "x:1.0 y:1.1 x:1.0 y:1.1 x:1.0 x:free") ∷
    script_names (codes "for(const x in x)x;for(x of x)x") (codes "x:1.0 x:1.0 x:1.0 x:free x:free x:free") ∷ [])
unfolding opened_rows
rows_3 = refl

rows_4 : Hold (
    script_names (codes "switch(x){case x:let x;x}x") (codes "x:free x:1.0 x:1.0 x:1.0 x:free") ∷
    script_names (codes "try{}catch(x){x;var x}") (codes "x:1.0 x:1.0 x:1.0") ∷
    script_names (codes "try{}catch({x,y}){let z;y;z}z") (codes "x:1.0 y:1.1 z:2.0 y:1.1 z:2.0 z:free") ∷
    script_names (codes "x:{break x}y:for(;;)continue y") (codes "x:none x:none y:none y:none") ∷ [])
unfolding opened_rows
rows_4 = refl
