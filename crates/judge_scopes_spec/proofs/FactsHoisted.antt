-- Functions in blocks (B.3.2, B.3.3).
use Rattle.std.proofs.Common.{[], ◌∷◌, codes, refl}
use Rattle.grammar_spec.proofs.reader.Rows.{Hold}
use Rattle.judge_scopes_spec.proofs.Rows.{opened_rows, script_names}

rows_1 : Hold (
    script_names (codes "f;{function f(){}f}") (codes "f:0.0 f:1.0 f:1.0") ∷
    script_names (codes "f;{let f;{function f(){}}}") (codes "f:free f:1.0 f:2.0") ∷
    script_names (codes "let f;{function f(){}function g(){}}g") (codes "f:0.0 f:1.0 g:1.1 g:0.1") ∷
    script_names (codes "'use strict';f;{function f(){}}") (codes "f:free f:1.0") ∷ [])
unfolding opened_rows
rows_1 = refl

rows_2 : Hold (
    script_names (codes "function f(){'use strict';{function g(){}}g}") (codes "f:0.0 g:3.0 g:free") ∷
    script_names (codes "f;{async function f(){}}") (codes "f:free f:1.0") ∷
    script_names (codes "f;{function*f(){}}") (codes "f:free f:1.0") ∷
    script_names (codes "f;l:{function f(){}}") (codes "f:0.0 l:none f:1.0") ∷ [])
unfolding opened_rows
rows_2 = refl

rows_3 : Hold (
    script_names (codes "if(x)function f(){f}f") (codes "x:free f:1.0 f:1.0 f:0.0") ∷
    script_names (codes "if(0);else function f(){}f") (codes "f:1.0 f:0.0") ∷
    script_names (codes "switch(0){case 0:function f(){}}f") (codes "f:1.0 f:0.0") ∷
    script_names (codes "switch(0){case 0:let f;{function f(){}}}f") (codes "f:1.0 f:2.0 f:free") ∷ [])
unfolding opened_rows
rows_3 = refl

rows_4 : Hold (
    script_names (codes "function f(x){{function x(){}}x}") (codes "f:0.0 x:1.0 x:3.0 x:1.0") ∷
    script_names (codes "try{}catch(x){{function x(){}}}x") (codes "x:1.0 x:3.0 x:0.0") ∷
    script_names (codes "try{}catch({x}){{function x(){}}}x") (codes "x:1.0 x:3.0 x:free") ∷
    script_names (codes "for(let f;;){function f(){}}f") (codes "f:1.0 f:2.0 f:free") ∷ [])
unfolding opened_rows
rows_4 = refl

rows_5 : Hold (
    script_names (codes "for(let f in 0){function f(){}}for(let g of 0){function g(){}}f;g") (codes "f:1.0 f:2.0 g:1.0 g:2.0 f:free g:free") ∷
    script_names (codes "while(0){function f(){}}do{function g(){}}while(0);f;g") (codes "f:1.0 g:1.0 f:0.0 g:0.1") ∷
    script_names (codes "with(0){function f(){}}try{}finally{function g(){}}f;g") (codes "f:1.0 g:1.0 f:0.0 g:0.1") ∷ [])
unfolding opened_rows
rows_5 = refl
