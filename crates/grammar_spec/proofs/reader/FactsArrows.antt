-- Arrows.
use Rattle.std.proofs.Common.{[], ◌∷◌, codes, refl}
use Rattle.grammar_spec.proofs.reader.Rows.{Hold, opened, no_script, script_row, no_module, module_row, front_row, no_front}

rows_1 : Hold (
    script_row (codes "a=>b") (codes "(do (=> a b))") ∷
    script_row (codes "(a)=>b") (codes "(do (=> a b))") ∷
    script_row (codes "()=>b") (codes "(do (=> b))") ∷
    script_row (codes "(a,b)=>c") (codes "(do (=> a b c))") ∷
    script_row (codes "(a,)=>b") (codes "(do (=> a b))") ∷
    script_row (codes "(...a)=>b") (codes "(do (=> (... a) b))") ∷
    no_script (codes "(...a,)=>b") ∷
    no_script (codes "(...a,b)=>c") ∷
    script_row (codes "(a=1)=>b") (codes "(do (=> (= a 1) b))") ∷
    script_row (codes "([[a]])=>b") (codes "(do (=> ([] ([] a)) b))") ∷
    script_row (codes "({a=b})=>c") (codes "(do (=> ({} (key a b)) c))") ∷
    no_script (codes "((a))=>b") ∷ [])
unfolding opened
rows_1 = refl

rows_2 : Hold (
    no_script (codes "(a.b)=>c") ∷
    no_script (codes "([a.b])=>c") ∷
    no_script (codes "a\n=>b") ∷
    no_script (codes "(a)\n=>b") ∷
    script_row (codes "a=>{}") (codes "(do (=> a (block)))") ∷
    script_row (codes "a=>{b}") (codes "(do (=> a (block (do b))))") ∷
    script_row (codes "a=>({})") (codes "(do (=> a (paren (object))))") ∷
    script_row (codes "a=>b=>c") (codes "(do (=> a (=> b c)))") ∷
    script_row (codes "a=>b,c") (codes "(do (, (=> a b) c))") ∷
    script_row (codes "a=b=>c") (codes "(do (= a (=> b c)))") ∷
    no_script (codes "a=>{}+b") ∷
    no_script (codes "a=>{}()") ∷ [])
unfolding opened
rows_2 = refl

rows_3 : Hold (
    no_script (codes "a||b=>c") ∷
    script_row (codes "a?b=>c:d") (codes "(do (? a (=> b c) d))") ∷
    script_row (codes "async a=>b") (codes "(do (async=> a b))") ∷
    script_row (codes "async(a)=>b") (codes "(do (async=> a b))") ∷
    script_row (codes "async()=>b") (codes "(do (async=> b))") ∷
    script_row (codes "async(a)") (codes "(do (call async a))") ∷
    script_row (codes "async") (codes "(do async)") ∷
    script_row (codes "async=>a") (codes "(do (=> async a))") ∷
    no_script (codes "async a") ∷
    no_script (codes "async\n(a)=>b") ∷
    no_script (codes "async(a)\n=>b") ∷
    script_row (codes "async a=>await a") (codes "(do (async=> a (await a)))") ∷ [])
unfolding opened
rows_3 = refl

rows_4 : Hold (
    no_script (codes "([a]=b.c)=>d=e+") ∷
    script_row (codes "([a]=b)=>c") (codes "(do (=> (= ([] a) b) c))") ∷
    no_script (codes "([a.b]=c)=>d") ∷ [])
unfolding opened
rows_4 = refl

-- an arrow stands where an assignment may
rows_5 : Hold (
    script_row (codes "a?b:c=>d") (codes "(do (? a b (=> c d)))") ∷
    script_row (codes "a?b=>c:d=>e") (codes "(do (? a (=> b c) (=> d e)))") ∷
    no_script (codes "a?b:c?d:e+f=>g") ∷
    script_row (codes "a,b=>c") (codes "(do (, a (=> b c)))") ∷
    script_row (codes "a=b=c=>d") (codes "(do (= a (= b (=> c d))))") ∷
    script_row (codes "(a=>b)+c") (codes "(do (+ (paren (=> a b)) c))") ∷
    no_script (codes "a+b=>c") ∷
    no_script (codes "a+(b)=>c") ∷
    no_script (codes "a**b=>c") ∷
    no_script (codes "a&&b=>c") ∷
    no_script (codes "a??(b)=>c") ∷
    no_script (codes "a in b=>c") ∷ [])
unfolding opened
rows_5 = refl

rows_6 : Hold (
    no_script (codes "!a=>b") ∷
    no_script (codes "!(a)=>b") ∷
    no_script (codes "typeof a=>b") ∷
    no_script (codes "-a=>b") ∷
    no_script (codes "++a=>b") ∷
    no_script (codes "a++=>b") ∷
    no_script (codes "new a=>b") ∷
    no_script (codes "new(a)=>b") ∷
    no_script (codes "new a()=>b") ∷
    no_script (codes "a.b=>c") ∷
    no_script (codes "a[b]=>c") ∷
    no_script (codes "a(b)=>c") ∷
    no_script (codes "a?.b=>c") ∷
    no_script (codes "a`b`=>c") ∷ [])
unfolding opened
rows_6 = refl

rows_7 : Hold (
    no_script (codes "!async a=>b") ∷
    no_script (codes "!async(a)=>b") ∷
    no_script (codes "a+async(b)=>c") ∷
    no_script (codes "!async=>a") ∷
    no_script (codes "async(a)(b)=>c") ∷
    no_script (codes "async a+b=>c") ∷
    script_row (codes "!async(a)") (codes "(do (! (call async a)))") ∷
    script_row (codes "a?b:async c=>d") (codes "(do (? a b (async=> c d)))") ∷
    script_row (codes "a,async(b)=>c") (codes "(do (, a (async=> b c)))") ∷
    no_module (codes "export default a+b=>c") ∷
    module_row (codes "export default(a)=>b") (codes "(default (=> a b))") ∷ [])
unfolding opened
rows_7 = refl

-- a group whose elements are no parameters, and what else is no name
rows_8 : Hold (
    no_script (codes "(a+1)=>b") ∷
    no_script (codes "(a,b.c)=>d") ∷
    no_script (codes "((a),b)=>c") ∷
    no_script (codes "(a=>b)=>c") ∷
    no_script (codes "(this)=>a") ∷
    no_script (codes "async(a+1)=>b") ∷
    no_script (codes "async(a.b)=>c") ∷
    no_script (codes "()") ∷
    no_script (codes "(a,)") ∷
    no_script (codes "(...a)") ∷
    no_script (codes "1=>a") ∷
    no_script (codes "this=>a") ∷
    no_script (codes "[a]=>b") ∷
    no_script (codes "a=[b]=>c") ∷
    no_script (codes "a='b'=>c") ∷
    no_script (codes "a={b}=>c") ∷
    no_script (codes "a=`b`=>c") ∷ [])
unfolding opened
rows_8 = refl

-- What is read up to an arrow that may not stand there, and what is left.
rows_9 : Hold (
    front_row 1 (codes "a+1=>b") 2 (codes "(+ a 1)") ∷
    front_row 1 (codes "(a+1)=>b") 2 (codes "(paren (+ a 1))") ∷
    front_row 1 (codes "a+(b)=>c") 2 (codes "(+ a (paren b))") ∷
    front_row 1 (codes "(a,b.c)=>d") 2 (codes "(paren (, a (. b c)))") ∷
    front_row 1 (codes "(a)\n=>b") 2 (codes "(paren a)") ∷
    front_row 1 (codes "!a=>b") 2 (codes "(! a)") ∷
    front_row 1 (codes "new a=>b") 2 (codes "(new a -)") ∷
    front_row 1 (codes "a.b=>c") 2 (codes "(. a b)") ∷
    front_row 1 (codes "1=>a") 2 (codes "1") ∷
    front_row 1 (codes "!async=>a") 2 (codes "(! async)") ∷
    front_row 1 (codes "!async(a)=>b") 2 (codes "(! (call async a))") ∷
    front_row 1 (codes "async(a+1)=>b") 2 (codes "(call async (+ a 1))") ∷ [])
unfolding opened
rows_9 = refl

rows_10 : Hold (
    front_row 1 (codes "a=>b") 0 (codes "(=> a b)") ∷
    front_row 2 (codes "a=>b,c") 2 (codes "(=> a b)") ∷
    front_row 2 (codes "(a,b)=>c") 0 (codes "(=> a b c)") ∷
    front_row 4 (codes "a=>b") 2 (codes "a") ∷
    front_row 4 (codes "(a)=>b") 2 (codes "(paren a)") ∷
    front_row 4 (codes "(a,b)=>c") 2 (codes "(paren (, a b))") ∷
    front_row 16 (codes "async(a)=>b") 2 (codes "(call async a)") ∷
    front_row 16 (codes "async=>a") 2 (codes "async") ∷
    front_row 16 (codes "async a=>b") 3 (codes "async") ∷
    front_row 1 (codes "async a=>b") 0 (codes "(async=> a b)") ∷
    no_front 16 (codes "()=>a") ∷
    no_front 16 (codes "(a,)=>b") ∷
    no_front 16 (codes "(...a)=>b") ∷
    no_front 1 (codes "()+a") ∷ [])
unfolding opened
rows_10 = refl

-- Before `function` with an escape, and before `function` on another line, `async` is a name.
rows_11 : Hold (
    front_row 1 (codes "async function(){}") 0 (codes "(fn - (async (block)))") ∷
    front_row 1 (codes "async @function(){}") 5 (codes "async") ∷
    front_row 1 (codes "async\nfunction(){}") 5 (codes "async") ∷
    front_row 1 (codes "a+async @function") 1 (codes "(+ a async)") ∷
    no_script (codes "async @function(){}") ∷
    no_script (codes "async @function a(){}") ∷ [])
unfolding opened
rows_11 = refl
