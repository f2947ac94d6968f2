-- Where no rest stands: as the value of a key, before another item, as what a setter takes, under an initialiser, in another rest.
use Rattle.std.proofs.Common.{◌≡◌, Bool, true, false, sym, ⊎_elim, true≢false}
use Rattle.tree_spec.specs.Span.{Span}
use Rattle.tree_spec.specs.Tree.{Tree, Trees, more, array_pat, object_pat, assign_pat, rest_pat, key_value_pat_prop, setter_prop, block_stmt}
use Rattle.grammar_spec.specs.Tokens.Input.{Input, Code}
use Rattle.grammar_spec.specs.Tokens.Shape.{is_place}
use Rattle.grammar_spec.specs.Grammar.{Produces}

-- `{a: ...b}`
key_rest : (c : Code) (s t d : Span) (k a : Tree) (ts r : Input) → Produces (key_value_pat_prop s k (rest_pat t d a)) c ts r → ⊥
key_rest c s t d k a ts r h = true≢false h.5

-- `[...a, b]`, `{...a, b}`
array_rest : (c : Code) (s t d : Span) (a x : Tree) (xs : Trees) (ts r : Input) → Produces (array_pat s (more (rest_pat t d a) (more x xs))) c ts r → ⊥
array_rest c s t d a x xs ts r h = ⊎_elim (λ e. true≢false e.0) (λ e. e.0) h.2.2

object_rest : (c : Code) (s t d : Span) (a x : Tree) (xs : Trees) (ts r : Input) → Produces (object_pat s (more (rest_pat t d a) (more x xs))) c ts r → ⊥
object_rest c s t d a x xs ts r h = ⊎_elim (λ e. true≢false e.0) (λ e. e.0) h.2.2

-- `{set a(...b) {}}`
set_rest : (c : Code) (s t d : Span) (k a b : Tree) (ts r : Input) → Produces (setter_prop s k (rest_pat t d a) b) c ts r → ⊥
set_rest c s t d k a (block_stmt q ss) ts r h = true≢false h.9
set_rest c s t d k a _ ts r h = h

-- `[...a = b]`, `[... ...a]`
no_place : (b : Bool) (s d : Span) (a : Tree) → is_place b (rest_pat s d a) ≡ true → ⊥
no_place true s d a h = true≢false (sym h)
no_place false s d a h = true≢false (sym h)

initialised_rest : (c : Code) (s t d : Span) (a e : Tree) (ts r : Input) → Produces (assign_pat s (rest_pat t d a) e) c ts r → ⊥
initialised_rest c s t d a e ts r h = no_place c.binds t d a h.2

rest_of_rest : (c : Code) (s t d e : Span) (a : Tree) (ts r : Input) → Produces (rest_pat s e (rest_pat t d a)) c ts r → ⊥
rest_of_rest c s t d e a ts r h = no_place c.binds t d a h.3
