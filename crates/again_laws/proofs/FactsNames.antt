-- Names come in the order of their tokens: facts.
use Rattle.std.proofs.Common.{ℕ, true, false, List, [], ◌∷◌, ◌++◌, Result, Ok, Err, codes, refl}
use Rattle.tree_spec.specs.Tree.{Tree}
use Rattle.tree_program_spec.specs.Names.Names.{Name, names}
use Rattle.grammar_spec.specs.Reader.Source.{Fault}
use Rattle.grammar_spec.proofs.reader.Rows.{opened, full_syntax, read_text}
use Rattle.grammar_text_laws.proofs.Rows.{Row, Hold, wrong}

abbrev words : List Name → List ℕ
words [] = []
words (n ∷ ns) = n.sym ++ (32 ∷ words ns)

-- the names of what is read, each followed by a blank
abbrev told : Result Tree Fault → List ℕ
told (Ok t) = words (names t)
told (Err e) = codes "no"

-- the names of a script, and of a module
unfoldable script_names : List ℕ → List ℕ → Row
script_names text wanted = record { text = text; got = told (read_text false full_syntax text); wanted = wanted }

unfoldable module_names : List ℕ → List ℕ → Row
module_names text wanted = record { text = text; got = told (read_text true full_syntax text); wanted = wanted }

rows_1 : Hold (
    script_names (codes "a+b*a") (codes "a b a ") ∷
    script_names (codes "a.b.c[d]") (codes "a d ") ∷
    script_names (codes "({a,b:c,d(){e},[f]:1})") (codes "a c e f ") ∷
    script_names (codes "var{a,b:c=d,...e}=f") (codes "a c d e f ") ∷
    script_names (codes "a:do{continue a}while(b)") (codes "a a b ") ∷
    script_names (codes "function f(a,[b]=c){return d}") (codes "f a b c d ") ∷
    script_names (codes "class A extends B{#c=d;e(){this.#c}}") (codes "A B d ") ∷
    script_names (codes "(a,b)=>c,d=>e") (codes "a b c d e ") ∷
    script_names (codes "for(const a of b)c;try{d}catch(e){f}") (codes "a b c d e f ") ∷
    script_names (codes "new.target;this;null") (codes "") ∷ [])
unfolding opened script_names wrong
rows_1 = refl

rows_2 : Hold (
    module_names (codes "import a,{b as c,d}from'e';f") (codes "a b c d f ") ∷
    module_names (codes "import*as a from'b'") (codes "a ") ∷
    module_names (codes "import'a'with{b:'c'}") (codes "") ∷
    module_names (codes "export{a as b,c as'd'};export*as e from'f'") (codes "a b c e ") ∷
    module_names (codes "export default class{a=b}") (codes "b ") ∷
    module_names (codes "export let a=b;import.meta.c") (codes "a b ") ∷ [])
unfolding opened module_names wrong
rows_2 = refl
