-- Chains.
use Rattle.std.proofs.Common.{[], ◌∷◌, codes, refl}
use Rattle.grammar_spec.proofs.reader.Rows.{Hold, opened, no_script, script_row}

rows_1 : Hold (
    script_row (codes "a?.b") (codes "(do (?. (. a b)))") ∷
    script_row (codes "a?.b.c") (codes "(do (chain (. (?. (. a b)) c)))") ∷
    script_row (codes "a?.[b]") (codes "(do (?. (. a (at b))))") ∷
    script_row (codes "a?.(b)") (codes "(do (?. (call a b)))") ∷
    script_row (codes "a?.b(c)") (codes "(do (chain (call (?. (. a b)) c)))") ∷
    script_row (codes "a?.b[c]") (codes "(do (chain (. (?. (. a b)) (at c))))") ∷
    no_script (codes "a?.b`c`") ∷
    script_row (codes "a?.5:b") (codes "(do (? a .5 b))") ∷
    script_row (codes "a ? .5 : b") (codes "(do (? a .5 b))") ∷
    no_script (codes "a?.b=1") ∷
    script_row (codes "(a?.b).c") (codes "(do (. (paren (?. (. a b))) c))") ∷
    script_row (codes "a?.b?.c") (codes "(do (?. (. (?. (. a b)) c)))") ∷ [])
unfolding opened
rows_1 = refl
