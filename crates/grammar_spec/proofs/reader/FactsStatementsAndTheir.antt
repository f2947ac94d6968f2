-- Statements and their ends.
use Rattle.std.proofs.Common.{[], ◌∷◌, codes, refl}
use Rattle.grammar_spec.proofs.reader.Rows.{Hold, opened, no_script, script_row}

rows_1 : Hold (
    script_row (codes "") (codes "") ∷
    script_row (codes ";") (codes "(empty)") ∷
    script_row (codes "a;b") (codes "(do a) (do b)") ∷
    script_row (codes "a\nb") (codes "(do a) (do b)") ∷
    no_script (codes "a b") ∷
    script_row (codes "a\n;b") (codes "(do a) (do b)") ∷
    script_row (codes "a\n(b)") (codes "(do (call a b))") ∷
    script_row (codes "a\n[b]") (codes "(do (. a (at b)))") ∷
    script_row (codes "a\n`b`") (codes "(do (tag a (tpl `b)))") ∷
    script_row (codes "a\n.b") (codes "(do (. a b))") ∷
    script_row (codes "a\n+b") (codes "(do (+ a b))") ∷
    script_row (codes "a\n++b") (codes "(do a) (do (++ b))") ∷ [])
unfolding opened
rows_1 = refl

rows_2 : Hold (
    script_row (codes "a\n++\nb") (codes "(do a) (do (++ b))") ∷
    script_row (codes "a++\n(b)") (codes "(do (++p a)) (do (paren b))") ∷
    script_row (codes "a++\n[b]") (codes "(do (++p a)) (do (array b))") ∷
    no_script (codes "a++\n.b") ∷
    script_row (codes "a++\n+b") (codes "(do (+ (++p a) b))") ∷
    no_script (codes "a++\n=b") ∷
    script_row (codes "a=>{}\n(b)") (codes "(do (=> a (block))) (do (paren b))") ∷
    script_row (codes "a=>{}\n[b]") (codes "(do (=> a (block))) (do (array b))") ∷
    script_row (codes "a=>{}\n+b") (codes "(do (=> a (block))) (do (+ b))") ∷
    script_row (codes "a=>{}\n,b") (codes "(do (, (=> a (block)) b))") ∷
    script_row (codes "a=>b\n(c)") (codes "(do (=> a (call b c)))") ∷
    no_script (codes "a\n/b/g") ∷ [])
unfolding opened
rows_2 = refl

rows_3 : Hold (
    script_row (codes "{a}") (codes "(block (do a))") ∷
    script_row (codes "{a\n}b") (codes "(block (do a)) (do b)") ∷
    script_row (codes "{}\n/a/") (codes "(block) (do /a/)") ∷
    script_row (codes "{};") (codes "(block) (empty)") ∷
    script_row (codes "debugger\na") (codes "(debugger) (do a)") ∷
    no_script (codes "debugger a") ∷ [])
unfolding opened
rows_3 = refl
