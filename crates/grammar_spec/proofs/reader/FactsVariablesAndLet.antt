-- Variables and let.
use Rattle.std.proofs.Common.{[], ◌∷◌, codes, refl}
use Rattle.grammar_spec.proofs.reader.Rows.{Hold, opened, no_script, script_row}

rows_1 : Hold (
    script_row (codes "var a") (codes "(var (let a -))") ∷
    script_row (codes "var a=1,b") (codes "(var (let a 1) (let b -))") ∷
    script_row (codes "var a\nb") (codes "(var (let a -)) (do b)") ∷
    no_script (codes "var a\n=1 2") ∷
    script_row (codes "var a\n=1") (codes "(var (let a 1))") ∷
    no_script (codes "var a b") ∷
    script_row (codes "var [a]=b") (codes "(var (let ([] a) b))") ∷
    script_row (codes "var {a,b:c=1,...d}=e") (codes "(var (let ({} (key a -) (: b (= c 1)) (... d)) e))") ∷
    no_script (codes "var {...[a]}=b") ∷
    no_script (codes "var [a.b]=c") ∷
    no_script (codes "var (a)=b") ∷
    script_row (codes "let a") (codes "(let (let a -))") ∷ [])
unfolding opened
rows_1 = refl

rows_2 : Hold (
    script_row (codes "let\na") (codes "(let (let a -))") ∷
    script_row (codes "let [a]=b") (codes "(let (let ([] a) b))") ∷
    script_row (codes "let\n[a]=b") (codes "(let (let ([] a) b))") ∷
    script_row (codes "let {a}=b") (codes "(let (let ({} (key a -)) b))") ∷
    script_row (codes "let") (codes "(do let)") ∷
    script_row (codes "let=1") (codes "(do (= let 1))") ∷
    script_row (codes "let\n=1") (codes "(do (= let 1))") ∷
    script_row (codes "let(a)") (codes "(do (call let a))") ∷
    script_row (codes "let.a") (codes "(do (. let a))") ∷
    script_row (codes "let in a") (codes "(do (in let a))") ∷
    script_row (codes "a=let\nb") (codes "(do (= a let)) (do b)") ∷
    no_script (codes "if(a)let\n[b]") ∷ [])
unfolding opened
rows_2 = refl

rows_3 : Hold (
    script_row (codes "if(a)let\nb") (codes "(if a (do let) -) (do b)") ∷
    script_row (codes "if(a)let\n{}") (codes "(if a (do let) -) (block)") ∷
    no_script (codes "if(a)let b") ∷
    no_script (codes "if(a)const b=1") ∷
    script_row (codes "const a=1") (codes "(const (let a 1))") ∷
    script_row (codes "let yield") (codes "(let (let yield -))") ∷
    script_row (codes "var let") (codes "(var (let let -))") ∷ [])
unfolding opened
rows_3 = refl

rows_4 : Hold (
    script_row (codes "var[,a]=b") (codes "(var (let ([] _ a) b))") ∷ [])
unfolding opened
rows_4 = refl
