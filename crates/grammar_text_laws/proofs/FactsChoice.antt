-- What tells that a text is a module.
use Rattle.std.proofs.Common.{[], ◌∷◌, codes, refl}
use Rattle.grammar_spec.proofs.reader.Rows.{opened}
use Rattle.grammar_text_spec.specs.Choice.{tells_module}
use Rattle.grammar_text_laws.proofs.Rows.{Hold, module_tells, wrong}

rows_1 : Hold (
    module_tells (codes "a") (codes "script") ∷
    module_tells (codes "import'a'") (codes "module") ∷
    module_tells (codes "import('a')") (codes "script") ∷
    module_tells (codes "import.meta") (codes "script") ∷
    module_tells (codes "export{}") (codes "module") ∷
    module_tells (codes "await(a)") (codes "module") ∷
    module_tells (codes "async function f(){await a;for await(b of c);}") (codes "script") ∷
    module_tells (codes "for await(a of b);") (codes "module") ∷
    module_tells (codes "for(a of b);") (codes "script") ∷
    module_tells (codes "await using a=b") (codes "module") ∷
    module_tells (codes "{using a=b}") (codes "script") ∷
    module_tells (codes "class A{[await a](){}}") (codes "module") ∷
    module_tells (codes "({get[await a](){return 1}})") (codes "module") ∷
    module_tells (codes "async()=>{await a}") (codes "script") ∷ [])
unfolding opened tells_module module_tells wrong
rows_1 = refl
