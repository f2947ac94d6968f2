-- Branches and loops.
use Rattle.std.proofs.Common.{[], ◌∷◌, codes, refl}
use Rattle.grammar_spec.proofs.reader.Rows.{Hold, opened, no_script, script_row}

rows_1 : Hold (
    script_row (codes "if(a)b") (codes "(if a (do b) -)") ∷
    script_row (codes "if(a)b;else c") (codes "(if a (do b) (do c))") ∷
    script_row (codes "if(a)if(b)c;else d") (codes "(if a (if b (do c) (do d)) -)") ∷
    script_row (codes "if(a){if(b)c}else d") (codes "(if a (block (if b (do c) -)) (do d))") ∷
    no_script (codes "if(a)b else c") ∷
    script_row (codes "if(a)b\nelse c") (codes "(if a (do b) (do c))") ∷
    no_script (codes "if(a)class B{}") ∷
    script_row (codes "if(a)function b(){}") (codes "(if a (function b (of (block))) -)") ∷
    no_script (codes "if(a)function*b(){}") ∷
    no_script (codes "while(a)function b(){}") ∷
    script_row (codes "while(a)b") (codes "(while a (do b))") ∷
    script_row (codes "do a;while(b)") (codes "(dowhile b (do a))") ∷ [])
unfolding opened
rows_1 = refl

rows_2 : Hold (
    script_row (codes "do;while(a)b") (codes "(dowhile a (empty)) (do b)") ∷
    script_row (codes "do{}while(a);;") (codes "(dowhile a (block)) (empty)") ∷
    no_script (codes "do a while(b)") ∷
    script_row (codes "for(;;);") (codes "(for - - - (empty))") ∷
    script_row (codes "for(a;b;c)d") (codes "(for a b c (do d))") ∷
    script_row (codes "for(var a=1;;);") (codes "(for (var (let a 1)) - - (empty))") ∷
    script_row (codes "for(let a;;);") (codes "(for (let (let a -)) - - (empty))") ∷
    script_row (codes "for(let;;);") (codes "(for let - - (empty))") ∷
    script_row (codes "for(let=1;;);") (codes "(for (= let 1) - - (empty))") ∷
    no_script (codes "for(let[a];;)b c") ∷
    script_row (codes "for(a in b);") (codes "(forin a b (empty))") ∷
    script_row (codes "for(a.b in c);") (codes "(forin (. a b) c (empty))") ∷ [])
unfolding opened
rows_2 = refl

rows_3 : Hold (
    script_row (codes "for(var a in b);") (codes "(forin (var (let a -)) b (empty))") ∷
    no_script (codes "for(var a=1 in b);") ∷
    no_script (codes "for(var a,b in c);") ∷
    script_row (codes "for([a]in b);") (codes "(forin ([] a) b (empty))") ∷
    no_script (codes "for(a=1 in b);") ∷
    no_script (codes "for(a+b in c);") ∷
    script_row (codes "for(let in a);") (codes "(forin let a (empty))") ∷
    no_script (codes "for(let[a]in b)c d") ∷
    script_row (codes "for(a of b);") (codes "(forof a b (empty))") ∷
    script_row (codes "for(let a of b);") (codes "(forof (let (let a -)) b (empty))") ∷
    no_script (codes "for(let of a);") ∷
    script_row (codes "for(let of of a);") (codes "(forof (let (let of -)) a (empty))") ∷ [])
unfolding opened
rows_3 = refl

rows_4 : Hold (
    no_script (codes "for(async of a);") ∷
    script_row (codes "for((async)of b);") (codes "(forof (paren async) b (empty))") ∷
    script_row (codes "for(async of=>x;;);") (codes "(for (async=> of x) - - (empty))") ∷
    no_script (codes "for(a of b,c);") ∷
    script_row (codes "for(a in b,c);") (codes "(forin a (, b c) (empty))") ∷
    script_row (codes "for(a?b in c:d;;);") (codes "(for (? a (in b c) d) - - (empty))") ∷
    no_script (codes "for(a in b;;);") ∷
    script_row (codes "for((a in b);;);") (codes "(for (paren (in a b)) - - (empty))") ∷
    script_row (codes "for(a[b in c];;);") (codes "(for (. a (at (in b c))) - - (empty))") ∷
    no_script (codes "for(var a=b in c;;);") ∷
    no_script (codes "for(a=>b in c;;);") ∷
    no_script (codes "for(a;b)c") ∷ [])
unfolding opened
rows_4 = refl

rows_5 : Hold (
    no_script (codes "for await(a of b);") ∷
    script_row (codes "async function f(){for await(a of b);}") (codes "(function f (async (block (forawait a b (empty)))))") ∷
    script_row (codes "async function f(){for await(async of b);}") (codes "(function f (async (block (forawait async b (empty)))))") ∷
    no_script (codes "async function f(){for await(a in b);}") ∷ [])
unfolding opened
rows_5 = refl
