-- Assignment.
use Rattle.std.proofs.Common.{[], ◌∷◌, codes, refl}
use Rattle.grammar_spec.proofs.reader.Rows.{Hold, opened, no_script, script_row}

rows_1 : Hold (
    script_row (codes "a=b") (codes "(do (= a b))") ∷
    script_row (codes "a=b=c") (codes "(do (= a (= b c)))") ∷
    script_row (codes "a+=b") (codes "(do (+= a b))") ∷
    script_row (codes "a??=b") (codes "(do (??= a b))") ∷
    script_row (codes "a**=b") (codes "(do (**= a b))") ∷
    script_row (codes "a.b=c") (codes "(do (= (. a b) c))") ∷
    script_row (codes "(a)=1") (codes "(do (= (paren a) 1))") ∷
    script_row (codes "((((a))))=1") (codes "(do (= (paren (paren (paren (paren a)))) 1))") ∷
    no_script (codes "1=a") ∷
    no_script (codes "a+b=c") ∷
    no_script (codes "a()=b") ∷
    no_script (codes "this=a") ∷ [])
unfolding opened
rows_1 = refl

rows_2 : Hold (
    no_script (codes "([a])=b") ∷
    script_row (codes "[a,b]=c") (codes "(do (= ([] a b) c))") ∷
    script_row (codes "[a,,]=b") (codes "(do (= ([] a _) b))") ∷
    script_row (codes "[a=1]=b") (codes "(do (= ([] (= a 1)) b))") ∷
    script_row (codes "[...a]=b") (codes "(do (= ([] (... a)) b))") ∷
    no_script (codes "[...a,]=b") ∷
    no_script (codes "[...a,b]=c") ∷
    no_script (codes "[[...a,]]=b") ∷
    script_row (codes "[...a,]") (codes "(do (array (... a)))") ∷
    script_row (codes "[a.b]=c") (codes "(do (= ([] (. a b)) c))") ∷
    script_row (codes "[(a)]=c") (codes "(do (= ([] (paren a)) c))") ∷
    no_script (codes "[([a])]=c") ∷ [])
unfolding opened
rows_2 = refl

rows_3 : Hold (
    script_row (codes "({a}=b)") (codes "(do (paren (= ({} (key a -)) b)))") ∷
    script_row (codes "({a=b}=c)") (codes "(do (paren (= ({} (key a b)) c)))") ∷
    script_row (codes "({a:b.c}=d)") (codes "(do (paren (= ({} (: a (. b c))) d)))") ∷
    script_row (codes "({a:[b]=c}=d)") (codes "(do (paren (= ({} (: a (= ([] b) c))) d)))") ∷
    script_row (codes "({...a}=b)") (codes "(do (paren (= ({} (... a)) b)))") ∷
    no_script (codes "({...[a]}=b)") ∷
    no_script (codes "({...a,}=b)") ∷
    no_script (codes "({a}+=b)") ∷
    no_script (codes "({a(){}}=b)") ∷
    no_script (codes "({a:b()}=c)") ∷
    script_row (codes "[a]=[b]=c") (codes "(do (= ([] a) (= ([] b) c)))") ∷ [])
unfolding opened
rows_3 = refl
