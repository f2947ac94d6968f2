-- The laws, from what the readers of every depth answer.
use Rattle.std.proofs.Common.{◌≡◌, suc, ◌+◌, ◌<◌, Bool, true, false, [], Result, Ok, Err, cond, sym, ◌∙◌, subst, true≢false, arith}
use Rattle.tree_spec.specs.Tree.{Tree, script, es_module}
use Rattle.tree_nesting.specs.Nesting.{nesting}
use Rattle.grammar_spec.specs.Tokens.Input.{Input, script_code, module_code}
use Rattle.grammar_spec.specs.Tokens.Shape.{is_clean}
use Rattle.grammar_spec.specs.Reader.Source.{Fault, Unexpected, TooDeep, ◌>>=◌, State, bound, list_stream}
use Rattle.grammar_spec.specs.Reader.Modules.{program_by}
use Rattle.grammar_spec.specs.Reader.Reading.{readers, finish, read_program, read_list}
use Rattle.grammar_laws.specs.CompleteBase.Laws.{InOrder}
use Rattle.grammar_laws.proofs.complete_base.Yields.{lm, from, Fresh, After, Yields, Reads, Is}
use Rattle.grammar_laws.proofs.complete_base.Trees.{size, sizes, reach}
use Rattle.grammar_laws.proofs.complete_rules.Within.{most}
use Rattle.grammar_laws.proofs.complete.Passed.{script_found, in_module, module_found}
use Rattle.grammar_laws.proofs.complete.Sizes.{each_small, most_reaches, items_small, items_reach}
use Rattle.grammar_laws.proofs.complete.Tied.{complete}
use Rattle.grammar_laws.specs.Complete.Laws.{Answered, Decided, ExpressionsComplete, OneExpression, PatternsComplete, OnePattern, ScriptsComplete, OneScript, NoScript, ModulesComplete, OneModule, NoModule}
use Rattle.grammar_laws.proofs.complete.Nests.{reach_nests}

-- ---- answers

fresh_start : (ts : Input) → InOrder ts.last ts.places → Fresh (from ts [])
fresh_start ts o = record { order = o; below = λ n h. absurd (true≢false (sym h)) }

answered : (s : State Input) (x : Result (Tree × State Input) Fault) (t : Tree) (r : Input) (P Q : Type 0) → (P → Q) → Yields x (λ y. Is t r y × After s y.1) P → Answered x t r Q
answered s (Ok x) t r P Q f h = h.so.0
answered s (Err (Unexpected n)) t r P Q f h = h.so
answered s (Err (TooDeep n)) t r P Q f h = f h.so

found : (ts r : Input) (x : Result (Tree × State Input) Fault) (t : Tree) (P Q : Type 0) → InOrder ts.last ts.places → (P → Q) → Reads (from ts []) x (Is t r) P → Answered x t r Q
found ts r x t P Q o f h = answered (from ts []) x t r P Q f (h.so (fresh_start ts o))

both_of : (x : Result (Tree × State Input) Fault) (t u : Tree) (r o : Input) (P Q : Type 0) → (P → ⊥) → (Q → ⊥) → Answered x t r P → Answered x u o Q → (t ≡ u) × (r ≡ o)
both_of (Ok x) t u r o P Q p q h g = (sym h.0 ∙ g.0, sym h.1 ∙ g.1)
both_of (Err (Unexpected n)) t u r o P Q p q h g = absurd h
both_of (Err (TooDeep n)) t u r o P Q p q h g = absurd (p h)

-- ---- expressions and patterns

pub expressions_complete : ExpressionsComplete
expressions_complete limit placed c l t ts r o v s = found ts r _ t (limit < reach t) (limit < nesting t) o (λ h. omega (arith, h, reach_nests t))
    ((complete (suc (size t)) limit).expr t placed c l ts r [] (omega arith) s.produced v.least v.most v.asked s.tight s.follow)

pub one_expression : OneExpression
one_expression p q c l t u ts r o w v s e = both_of ((readers list_stream (nesting t + nesting u)).expr c l (from ts [])) t u r o (nesting t + nesting u < nesting t) (nesting t + nesting u < nesting u) (λ h. omega (arith, h)) (λ h. omega (arith, h))
    (expressions_complete (nesting t + nesting u) p c l t ts r w v s) (expressions_complete (nesting t + nesting u) q c l u ts o w v e)

pub patterns_complete : PatternsComplete
patterns_complete limit placed c t ts r o b = found ts r _ t (limit < reach t) (limit < nesting t) o (λ h. omega (arith, h, reach_nests t)) ((complete (suc (size t)) limit).pat t placed c ts r [] (omega arith) b.binding b.produced)

pub one_pattern : OnePattern
one_pattern p q c t u ts r o w v e = both_of ((readers list_stream (nesting t + nesting u)).pat c (from ts [])) t u r o (nesting t + nesting u < nesting t) (nesting t + nesting u < nesting u) (λ h. omega (arith, h)) (λ h. omega (arith, h))
    (patterns_complete (nesting t + nesting u) p c t ts r w v) (patterns_complete (nesting t + nesting u) q c u ts o w e)

-- ---- scripts

decided : (x : Result (Tree × State Input) Fault) (t : Tree) (r : Input) (P : Type 0) → is_clean t ≡ true → Answered x t r P → Decided (x >>= finish lm) t P
unfolding finish
decided (Ok x) t r P c h = clean (is_clean x.0) (subst (λ (y : Tree). is_clean y ≡ true) (sym h.0) c)
  where
    clean : (b : Bool) → b ≡ true → Decided (cond {A = Result Tree Fault} b (Ok x.0) (Err (Unexpected (bound lm x.1)))) t P
    clean true e = h.0
    clean false e = absurd (true≢false (sym e))
decided (Err (Unexpected n)) t r P c h = h
decided (Err (TooDeep n)) t r P c h = h

pub scripts_complete : ScriptsComplete
unfolding read_list read_program
scripts_complete limit placed syntax s ss l start places r o d = let ts : Input = record { last = start; places = places } in
    decided (program_by lm (readers lm limit) false (script_code syntax) (from ts [])) (script s ss l) r (limit < nesting (script s ss l)) d.1
    (found ts r _ (script s ss l) (limit < most reach ss) (limit < nesting (script s ss l)) o (λ h. omega (arith, h, most_reaches ss, reach_nests (script s ss l)))
    (script_found (complete (suc (sizes ss)) limit) placed s ss l (script_code syntax) ts r [] (each_small (suc (sizes ss)) ss (omega arith)) d.0))

same_of : (x : Result Tree Fault) (t u : Tree) (P Q : Type 0) → (P → ⊥) → (Q → ⊥) → Decided x t P → Decided x u Q → t ≡ u
same_of (Ok x) t u P Q p q h g = sym h ∙ g
same_of (Err (Unexpected n)) t u P Q p q h g = absurd h
same_of (Err (TooDeep n)) t u P Q p q h g = absurd (p h)

pub one_script : OneScript
one_script p q syntax s w ss us l m start places r o i d e = same_of (read_list (nesting (script s ss l) + nesting (script w us m)) false syntax start places) (script s ss l) (script w us m) ((nesting (script s ss l) + nesting (script w us m)) < nesting (script s ss l)) ((nesting (script s ss l) + nesting (script w us m)) < nesting (script w us m)) (λ h. omega (arith, h)) (λ h. omega (arith, h))
    (scripts_complete (nesting (script s ss l) + nesting (script w us m)) p syntax s ss l start places r i d) (scripts_complete (nesting (script s ss l) + nesting (script w us m)) q syntax w us m start places o i e)

pub no_script : NoScript
no_script limit placed syntax s ss l start places r n o e d = subst (λ (x : Result Tree Fault). Decided x (script s ss l) (limit < nesting (script s ss l))) e (scripts_complete limit placed syntax s ss l start places r o d)

-- ---- modules

pub modules_complete : ModulesComplete
unfolding read_list read_program
modules_complete limit placed syntax s ss l start places r o d = let ts : Input = record { last = start; places = places } in
    decided (program_by lm (readers lm limit) true (module_code syntax) (from ts [])) (es_module s ss l) r (limit < nesting (es_module s ss l)) d.1
    (found ts r _ (es_module s ss l) (limit < most (in_module reach) ss) (limit < nesting (es_module s ss l)) o (λ h. omega (arith, h, items_reach ss, reach_nests (es_module s ss l)))
    (module_found (complete (suc (sizes ss)) limit) placed s ss l (module_code syntax) ts r [] (items_small (suc (sizes ss)) ss (omega arith)) d.0))

pub one_module : OneModule
one_module p q syntax s w ss us l m start places r o i d e = same_of (read_list (nesting (es_module s ss l) + nesting (es_module w us m)) true syntax start places) (es_module s ss l) (es_module w us m) ((nesting (es_module s ss l) + nesting (es_module w us m)) < nesting (es_module s ss l)) ((nesting (es_module s ss l) + nesting (es_module w us m)) < nesting (es_module w us m)) (λ h. omega (arith, h)) (λ h. omega (arith, h))
    (modules_complete (nesting (es_module s ss l) + nesting (es_module w us m)) p syntax s ss l start places r i d) (modules_complete (nesting (es_module s ss l) + nesting (es_module w us m)) q syntax w us m start places o i e)

pub no_module : NoModule
no_module limit placed syntax s ss l start places r n o e d = subst (λ (x : Result Tree Fault). Decided x (es_module s ss l) (limit < nesting (es_module s ss l))) e (modules_complete limit placed syntax s ss l start places r o d)
