-- Objects.
use Rattle.std.proofs.Common.{[], ◌∷◌, codes, refl}
use Rattle.grammar_spec.proofs.reader.Rows.{Hold, opened, no_script, script_row}

rows_1 : Hold (
    script_row (codes "({})") (codes "(do (paren (object)))") ∷
    script_row (codes "({a})") (codes "(do (paren (object a)))") ∷
    script_row (codes "({a:1,})") (codes "(do (paren (object (: a 1))))") ∷
    script_row (codes "({'a':1,2:b,[c]:d})") (codes "(do (paren (object (: 'a' 1) (: 2 b) (: (at c) d))))") ∷
    script_row (codes "({if:1})") (codes "(do (paren (object (: if 1))))") ∷
    no_script (codes "({if})") ∷
    no_script (codes "({a=1})") ∷
    script_row (codes "({...a})") (codes "(do (paren (object (... a))))") ∷
    script_row (codes "({get a(){}})") (codes "(do (paren (object (get a (block)))))") ∷
    script_row (codes "({set a(b){}})") (codes "(do (paren (object (set a b (block)))))") ∷
    no_script (codes "({set a(){}})") ∷
    no_script (codes "({set a(b,){}})") ∷ [])
unfolding opened
rows_1 = refl

rows_2 : Hold (
    no_script (codes "({get a(b){}})") ∷
    script_row (codes "({get:1,set:2})") (codes "(do (paren (object (: get 1) (: set 2))))") ∷
    script_row (codes "({get,set})") (codes "(do (paren (object get set)))") ∷
    script_row (codes "({get(){}})") (codes "(do (paren (object (method get (of (block))))))") ∷
    script_row (codes "({a(){}})") (codes "(do (paren (object (method a (of (block))))))") ∷
    script_row (codes "({*a(){}})") (codes "(do (paren (object (method a (gen (block))))))") ∷
    script_row (codes "({async a(){}})") (codes "(do (paren (object (method a (async (block))))))") ∷
    script_row (codes "({async*a(){}})") (codes "(do (paren (object (method a (async* (block))))))") ∷
    no_script (codes "({async\na(){}})") ∷
    script_row (codes "({async})") (codes "(do (paren (object async)))") ∷
    script_row (codes "({a(b,){}})") (codes "(do (paren (object (method a (of b (block))))))") ∷
    no_script (codes "({a(...b,){}})") ∷ [])
unfolding opened
rows_2 = refl
