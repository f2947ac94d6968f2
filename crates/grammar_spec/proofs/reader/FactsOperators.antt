-- Operators.
use Rattle.std.proofs.Common.{[], ◌∷◌, codes, refl}
use Rattle.grammar_spec.proofs.reader.Rows.{Hold, opened, no_script, script_row}

rows_1 : Hold (
    script_row (codes "a+b*c") (codes "(do (+ a (* b c)))") ∷
    script_row (codes "a*b+c") (codes "(do (+ (* a b) c))") ∷
    script_row (codes "a-b-c") (codes "(do (- (- a b) c))") ∷
    script_row (codes "a**b**c") (codes "(do (** a (** b c)))") ∷
    no_script (codes "-a**b") ∷
    script_row (codes "(-a)**b") (codes "(do (** (paren (- a)) b))") ∷
    script_row (codes "a++**b") (codes "(do (** (++p a) b))") ∷
    script_row (codes "a**-b") (codes "(do (** a (- b)))") ∷
    no_script (codes "a??b||c") ∷
    no_script (codes "a||b??c") ∷
    no_script (codes "a&&b??c") ∷
    script_row (codes "a??b??c") (codes "(do (?? (?? a b) c))") ∷ [])
unfolding opened
rows_1 = refl

rows_2 : Hold (
    script_row (codes "(a||b)??c") (codes "(do (?? (paren (|| a b)) c))") ∷
    script_row (codes "a??b|c") (codes "(do (?? a (| b c)))") ∷
    script_row (codes "a||b&&c") (codes "(do (|| a (&& b c)))") ∷
    script_row (codes "a&&b||c") (codes "(do (|| (&& a b) c))") ∷
    script_row (codes "a|b^c&d") (codes "(do (| a (^ b (& c d))))") ∷
    script_row (codes "a==b<c") (codes "(do (== a (< b c)))") ∷
    script_row (codes "a<b<c") (codes "(do (< (< a b) c))") ∷
    script_row (codes "a<<b+c") (codes "(do (<< a (+ b c)))") ∷
    script_row (codes "a in b") (codes "(do (in a b))") ∷
    script_row (codes "a instanceof b") (codes "(do (instanceof a b))") ∷
    script_row (codes "!a&&b") (codes "(do (&& (! a) b))") ∷
    script_row (codes "typeof void a") (codes "(do (typeof (void a)))") ∷ [])
unfolding opened
rows_2 = refl

rows_3 : Hold (
    script_row (codes "delete a.b") (codes "(do (delete (. a b)))") ∷
    script_row (codes "- -a") (codes "(do (- (- a)))") ∷
    script_row (codes "~a") (codes "(do (~ a))") ∷
    script_row (codes "a / b / c") (codes "(do (/ (/ a b) c))") ∷
    script_row (codes "a === b") (codes "(do (=== a b))") ∷ [])
unfolding opened
rows_3 = refl
