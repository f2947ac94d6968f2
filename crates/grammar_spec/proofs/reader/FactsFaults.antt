-- Where a text goes wrong: what was taken is no fault, and what comes is.
use Rattle.std.proofs.Common.{[], ◌∷◌, codes, refl}
use Rattle.grammar_spec.proofs.reader.Rows.{Hold, opened, no_script_from, no_module_from}

rows_1 : Hold (
    no_script_from (codes "a b") 1 ∷
    no_script_from (codes "f(a,b") 0 ∷
    no_script_from (codes "[a,b+];") 2 ∷
    no_script_from (codes "({a,if})") 2 ∷
    no_script_from (codes "({'a'})") 2 ∷
    no_script_from (codes "let{a:1}=b") 4 ∷
    no_script_from (codes "let{if}=b") 3 ∷
    no_script_from (codes "1=a;b") 4 ∷
    no_script_from (codes "a={b=1};c") 0 ∷ [])
unfolding opened
rows_1 = refl

rows_2 : Hold (
    no_script_from (codes "(a,b,);c") 2 ∷
    no_script_from (codes "(a,...b);c") 2 ∷
    no_script_from (codes "for(a()of b);") 4 ∷
    no_script_from (codes "try{}a") 1 ∷
    no_script_from (codes "a?b c") 1 ∷
    no_script_from (codes "switch(a){default:default:}") 1 ∷
    no_script_from (codes "if(a)class A{}") 4 ∷
    no_module_from (codes "import{if}from'a'") 3 ∷
    no_module_from (codes "export 1") 1 ∷ [])
unfolding opened
rows_2 = refl
