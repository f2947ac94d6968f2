-- Jumps, labels, switch, try.
use Rattle.std.proofs.Common.{[], ◌∷◌, codes, refl}
use Rattle.grammar_spec.proofs.reader.Rows.{Hold, opened, no_script, script_row, statement_front_row, no_statement_front}

rows_1 : Hold (
    script_row (codes "a:b") (codes "(label a (do b))") ∷
    script_row (codes "a:b:c") (codes "(label a (label b (do c)))") ∷
    script_row (codes "a:function b(){}") (codes "(label a (function b (of (block))))") ∷
    no_script (codes "a:let b") ∷
    no_script (codes "if:a") ∷
    script_row (codes "a:while(b)break a") (codes "(label a (while b (break a)))") ∷
    script_row (codes "while(a){break\nb}") (codes "(while a (block (break -) (do b)))") ∷
    script_row (codes "while(a)continue") (codes "(while a (continue -))") ∷
    script_row (codes "function f(){return}") (codes "(function f (of (block (return -))))") ∷
    script_row (codes "function f(){return a,b}") (codes "(function f (of (block (return (, a b)))))") ∷
    script_row (codes "function f(){return\na}") (codes "(function f (of (block (return -) (do a))))") ∷
    script_row (codes "function f(){return /a/}") (codes "(function f (of (block (return /a/))))") ∷ [])
unfolding opened
rows_1 = refl

rows_2 : Hold (
    no_script (codes "function f(){return a b}") ∷
    script_row (codes "throw a") (codes "(throw a)") ∷
    no_script (codes "throw\na") ∷
    no_script (codes "throw") ∷
    script_row (codes "switch(a){}") (codes "(switch a)") ∷
    script_row (codes "switch(a){case b:c;d;default:case e:}") (codes "(switch a (case b (do c) (do d)) (case -) (case e))") ∷
    no_script (codes "switch(a){default:default:}") ∷
    no_script (codes "switch(a){b}") ∷
    script_row (codes "try{}catch{}") (codes "(try (block) (catch - (block)) -)") ∷
    script_row (codes "try{}catch(a){}finally{}") (codes "(try (block) (catch a (block)) (block))") ∷
    script_row (codes "try{}finally{}") (codes "(try (block) - (block))") ∷
    no_script (codes "try{}") ∷ [])
unfolding opened
rows_2 = refl

rows_3 : Hold (
    script_row (codes "try{}catch([a]){}") (codes "(try (block) (catch ([] a) (block)) -)") ∷
    no_script (codes "try{}catch(a=1){}") ∷
    no_script (codes "try{}catch(){}") ∷
    no_script (codes "try a;finally{}") ∷
    script_row (codes "with(a)b") (codes "(with a (do b))") ∷ [])
unfolding opened
rows_3 = refl

-- `finally` with an escape is no word of a `try`: what stands before it is a statement where a `catch` does.
rows_4 : Hold (
    statement_front_row (codes "try{}catch{}finally{}") 0 (codes "(try (block) (catch - (block)) (block))") ∷
    statement_front_row (codes "try{}catch{}@finally{}") 3 (codes "(try (block) (catch - (block)) -)") ∷
    statement_front_row (codes "try{}catch(a){}b") 1 (codes "(try (block) (catch a (block)) -)") ∷
    no_statement_front (codes "try{}@finally{}") ∷
    no_script (codes "try{}catch{}@finally{}") ∷ [])
unfolding opened
rows_4 = refl
