-- Updates, the conditional, the comma.
use Rattle.std.proofs.Common.{[], ◌∷◌, codes, refl}
use Rattle.grammar_spec.proofs.reader.Rows.{Hold, opened, no_script, script_row}

rows_1 : Hold (
    script_row (codes "++a") (codes "(do (++ a))") ∷
    script_row (codes "a--") (codes "(do (--p a))") ∷
    script_row (codes "++a.b") (codes "(do (++ (. a b)))") ∷
    script_row (codes "x++ + ++y") (codes "(do (+ (++p x) (++ y)))") ∷
    no_script (codes "a++ ++") ∷
    no_script (codes "a++ ++b") ∷
    no_script (codes "a++b") ∷
    no_script (codes "++a++b") ∷
    script_row (codes "-a++") (codes "(do (- (++p a)))") ∷
    script_row (codes "a?b:c") (codes "(do (? a b c))") ∷
    script_row (codes "a?b:c?d:e") (codes "(do (? a b (? c d e)))") ∷
    script_row (codes "a?b=c:d=e") (codes "(do (? a (= b c) (= d e)))") ∷
    no_script (codes "a?b,c:d") ∷ [])
unfolding opened
rows_1 = refl

rows_2 : Hold (
    script_row (codes "a||b?c:d") (codes "(do (? (|| a b) c d))") ∷
    script_row (codes "a,b,c") (codes "(do (, a b c))") ∷
    no_script (codes "a,") ∷
    no_script (codes "a=b?c") ∷ [])
unfolding opened
rows_2 = refl
