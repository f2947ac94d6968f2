-- Members and calls.
use Rattle.std.proofs.Common.{[], ◌∷◌, codes, refl}
use Rattle.grammar_spec.proofs.reader.Rows.{Hold, opened, full_row, no_script, script_row}

rows_1 : Hold (
    script_row (codes "a.b.c") (codes "(do (. (. a b) c))") ∷
    script_row (codes "a[b]") (codes "(do (. a (at b)))") ∷
    script_row (codes "a[b,c]") (codes "(do (. a (at (, b c))))") ∷
    script_row (codes "a.if") (codes "(do (. a if))") ∷
    script_row (codes "a()") (codes "(do (call a))") ∷
    script_row (codes "a(b,...c,)") (codes "(do (call a b (... c)))") ∷
    no_script (codes "a(,)") ∷
    no_script (codes "a(b,,c)") ∷
    script_row (codes "a()()") (codes "(do (call (call a)))") ∷
    script_row (codes "new a") (codes "(do (new a -))") ∷
    script_row (codes "new a()") (codes "(do (new a (args)))") ∷
    script_row (codes "new a.b(c)") (codes "(do (new (. a b) (args c)))") ∷ [])
unfolding opened
rows_1 = refl

rows_2 : Hold (
    script_row (codes "new new a") (codes "(do (new (new a -) -))") ∷
    script_row (codes "new new a()(1)") (codes "(do (new (new a (args)) (args 1)))") ∷
    script_row (codes "new a().b") (codes "(do (. (new a (args)) b))") ∷
    script_row (codes "new(a())") (codes "(do (new (paren (call a)) -))") ∷
    script_row (codes "new a`b`") (codes "(do (new (tag a (tpl `b)) -))") ∷
    no_script (codes "new a?.b") ∷
    script_row (codes "new a()?.b") (codes "(do (?. (. (new a (args)) b)))") ∷
    script_row (codes "new async(a)") (codes "(do (new async (args a)))") ∷
    script_row (codes "new async\n(a).b") (codes "(do (. (new async (args a)) b))") ∷
    script_row (codes "new new async(a)(b)") (codes "(do (new (new async (args a)) (args b)))") ∷
    script_row (codes "new async.b(a)") (codes "(do (new (. async b) (args a)))") ∷
    no_script (codes "new async(a)=>b") ∷
    no_script (codes "new import(a)") ∷
    script_row (codes "new.target") (codes "(do new.target)") ∷
    script_row (codes "import.meta") (codes "(do import.meta)") ∷
    script_row (codes "import(a)") (codes "(do (call import a))") ∷
    no_script (codes "import(a,)") ∷ [])
unfolding opened
rows_2 = refl

rows_3 : Hold (
    no_script (codes "import(a,b)") ∷
    no_script (codes "import(...a)") ∷
    no_script (codes "import()") ∷
    full_row (codes "import(a,b,)") (codes "(do (call import a b))") ∷ [])
unfolding opened
rows_3 = refl
