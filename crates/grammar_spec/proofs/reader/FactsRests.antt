-- A rest stands last in an array pattern, in an object pattern and among parameters, with no comma after it, and nowhere else.
use Rattle.std.proofs.Common.{[], ◌∷◌, codes, refl}
use Rattle.grammar_spec.proofs.reader.Rows.{Hold, opened, no_script, script_row}

rows_1 : Hold (
    no_script (codes "var{a:...b}=c") ∷
    no_script (codes "({a:...b}=c)") ∷
    no_script (codes "({a:...b})=>c") ∷
    no_script (codes "function f({a:...b}){}") ∷
    no_script (codes "var[...a,b]=c") ∷
    no_script (codes "[...a,b]=c") ∷
    no_script (codes "([...a,b])=>c") ∷
    no_script (codes "var[...a,]=c") ∷
    no_script (codes "[...a,]=c") ∷
    script_row (codes "[...a,]") (codes "(do (array (... a)))") ∷
    no_script (codes "var{...a,b}=c") ∷
    no_script (codes "({...a,b}=c)") ∷ [])
unfolding opened
rows_1 = refl

rows_2 : Hold (
    no_script (codes "var{...a,}=c") ∷
    no_script (codes "({...a,}=c)") ∷
    no_script (codes "function f(...a,b){}") ∷
    no_script (codes "function f(...a,){}") ∷
    no_script (codes "(...a,b)=>c") ∷
    no_script (codes "(...a,)=>c") ∷
    no_script (codes "async(...a,)=>c") ∷
    no_script (codes "({set a(...b){}})") ∷
    no_script (codes "class A{set a(...b){}}") ∷
    no_script (codes "function f(...a=b){}") ∷
    no_script (codes "[...a=b]=c") ∷
    no_script (codes "[......a]=c") ∷ [])
unfolding opened
rows_2 = refl

rows_3 : Hold (
    no_script (codes "({...[a]}=b)") ∷
    no_script (codes "var{...{a}}=b") ∷
    no_script (codes "try{}catch(...a){}") ∷
    no_script (codes "for(...a of b);") ∷
    no_script (codes "var...a=b") ∷
    no_script (codes "...a") ∷
    script_row (codes "[...[a]]=b") (codes "(do (= ([] (... ([] a))) b))") ∷ [])
unfolding opened
rows_3 = refl
