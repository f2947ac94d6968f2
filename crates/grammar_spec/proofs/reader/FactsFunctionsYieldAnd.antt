-- Functions, yield and await.
use Rattle.std.proofs.Common.{[], ◌∷◌, codes, refl}
use Rattle.grammar_spec.proofs.reader.Rows.{Hold, opened, module_row, no_module, no_script, script_row}

rows_1 : Hold (
    script_row (codes "(function(){})") (codes "(do (paren (fn - (of (block)))))") ∷
    script_row (codes "(function a(b,c=1,...d){})") (codes "(do (paren (fn a (of b (= c 1) (... d) (block)))))") ∷
    script_row (codes "function a(){}") (codes "(function a (of (block)))") ∷
    no_script (codes "function(){}") ∷
    no_script (codes "function a(...b,){}") ∷
    no_script (codes "function a(...b=1){}") ∷
    script_row (codes "function a(b,){}") (codes "(function a (of b (block)))") ∷
    script_row (codes "function a({b},[c]){}") (codes "(function a (of ({} (key b -)) ([] c) (block)))") ∷
    script_row (codes "function*a(){yield}") (codes "(function a (gen (block (do (yield -)))))") ∷
    script_row (codes "function*a(){yield b}") (codes "(function a (gen (block (do (yield b)))))") ∷
    script_row (codes "function*a(){yield*b}") (codes "(function a (gen (block (do (yield* b)))))") ∷
    script_row (codes "function*a(){yield\nb}") (codes "(function a (gen (block (do (yield -)) (do b))))") ∷ [])
unfolding opened
rows_1 = refl

rows_2 : Hold (
    no_script (codes "function*a(){yield\n*b}") ∷
    script_row (codes "function*f(){yield({x})=>x}") (codes "(function f (gen (block (do (yield (=> ({} (key x -)) x))))))") ∷
    script_row (codes "function*a(){b=yield c,d}") (codes "(function a (gen (block (do (, (= b (yield c)) d)))))") ∷
    no_script (codes "function*a(){b+yield}") ∷
    no_script (codes "function*a(){var yield}") ∷
    script_row (codes "function*a(){yield /b/}") (codes "(function a (gen (block (do (yield /b/)))))") ∷
    script_row (codes "yield") (codes "(do yield)") ∷
    script_row (codes "var yield") (codes "(var (let yield -))") ∷
    script_row (codes "yield:a") (codes "(label yield (do a))") ∷
    script_row (codes "async function a(){await b}") (codes "(function a (async (block (do (await b)))))") ∷
    script_row (codes "async function a(){await await b}") (codes "(function a (async (block (do (await (await b))))))") ∷
    script_row (codes "async function a(){-await b}") (codes "(function a (async (block (do (- (await b))))))") ∷ [])
unfolding opened
rows_2 = refl

rows_3 : Hold (
    no_script (codes "async function a(){await b**c}") ∷
    no_script (codes "async function a(){var await}") ∷
    script_row (codes "await") (codes "(do await)") ∷
    no_script (codes "await x") ∷
    script_row (codes "await(x)") (codes "(do (call await x))") ∷
    module_row (codes "await x") (codes "(do (await x))") ∷
    no_module (codes "var await") ∷
    no_module (codes "function a(){await b}") ∷
    no_module (codes "function a(){await}") ∷
    script_row (codes "async function*a(){yield await b}") (codes "(function a (async* (block (do (yield (await b))))))") ∷
    no_script (codes "async\nfunction a(){}+") ∷
    script_row (codes "async\nfunction a(){}") (codes "(do async) (function a (of (block)))") ∷ [])
unfolding opened
rows_3 = refl

rows_4 : Hold (
    script_row (codes "(async function(){})") (codes "(do (paren (fn - (async (block)))))") ∷
    no_script (codes "(function*yield(){})") ∷
    script_row (codes "function*yield(){}") (codes "(function yield (gen (block)))") ∷ [])
unfolding opened
rows_4 = refl
