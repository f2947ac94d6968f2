-- What an entry reads of a source is what it reads of a list that the source hands out: what it asks of what its rule reads is the same of both.
use Rattle.std.proofs.Common.{◌≡◌, ℕ, Bool, true, false, not, ◌&&◌, cond, nat_le, List, [], Option, Some, None, Result, Ok, refl}
use Rattle.tree_spec.specs.Tree.{Tree, list, pack}
use Rattle.tree_nesting.specs.Nesting.{nesting}
use Rattle.grammar_spec.specs.Tokens.Input.{PlacedToken, Input, Code, brk, alone, in_list}
use Rattle.grammar_spec.specs.Tokens.Operators.{closed_end}
use Rattle.grammar_spec.specs.Tokens.Shape.{is_clean, is_statement, last_of}
use Rattle.grammar_spec.specs.Reader.Source.{Fault, unexpected, Stream, State, Read, input, operand, is_name}
use Rattle.grammar_spec.specs.Reader.Reading.{readers}
use Rattle.grammar_spec.specs.Reader.Modules.{item_by as module_item_by}
use Rattle.parse_source_laws.specs.Sources.{one, Orderly}
use Rattle.parse_source_laws.specs.Laws.{from_source, from_list}
use Rattle.parse_source_laws.specs.Consumed.{Assigns, AssignsUnlessClosed, Unasked}
use Rattle.parse_source_laws.proofs.Beside.{lm, on, Ceiling, Beside, Told, agree1, told_ok, never, told_then, told_if}
use Rattle.parse_source_laws.proofs.Pairs.{edge, Pairing, Paired}
use Rattle.parse_source_laws.proofs.HandedOut.{handed, paired}
use Rattle.parse_source_laws.proofs.Backs.{closed, calm, same_keeps, Good, list_at, Backed, back_never, back_ok, back_then, back_test, back_operand, agrees}
use Rattle.parse_source_laws.proofs.SourceLemmas.{readers_heard, start_at, beside_at, part}
use Rattle.parse_source_laws.proofs.Expressions.{key_by_told, prop_by_told}
use Rattle.parse_source_laws.proofs.Modules.{item_from_told}
use Rattle.parse_source_laws.proofs.ConsumedExpressions.{key_by_backed, prop_by_backed}
use Rattle.parse_source_laws.proofs.ConsumedModules.{item_by_backed as module_item_backed}
use Rattle.parse_source_laws.proofs.ConsumedLemmas.{readers_echoed}
use Rattle.parse_source_laws.proofs.ConsumedParts.{good_closed, good_calm, good_edge, same_closed, same_calm, same_edge, read_consumed}
use Rattle.parse_alone.specs.Ends.{async_end, heads_arrow, last_initial}
use Rattle.parse_alone.specs.Within.{settled}
use Rattle.parse_alone.specs.Parts.{expression_part, binding_part, key_part, parameters_part}
use Rattle.parse_alone.specs.Props.{value_of, prop_part, item_part}
use Rattle.parse_alone.specs.Items.{statement_part, list_item_part, module_item_part}
use Rattle.parse_front_laws.specs.Sources.{SameAnswers, PartsSame}
use Rattle.parse_front_laws.proofs.Bare.{bare_by_told, item_by_told, bare_by_backed, item_by_backed}

-- ---- from the list to the source

module _ {S : Type 0} {m : Stream S} {Live : S → Type 0} {modular : Bool} (w : Orderly m Live modular) where
  heads_same : (k : Ceiling) (o : Option Code) (s : State S) (r : State Input) → Beside m Live k s r → heads_arrow lm o r ≡ heads_arrow m o s
  heads_same k None s r h = refl
  heads_same k (Some c) s r h = agree1 w (λ z. not (brk (input lm (on [] 0 z))) && is_name lm c (on [] 0 z)) (λ p q l v. refl) (λ p q l v. refl) (λ p l v. refl) k s r h

  settled_told : (k : Ceiling) (limit : ℕ) (t : Tree) (s : State S) (r : State Input) → Beside m Live k s r → Told m Live k (settled lm limit (t, r)) (settled m limit (t, s))
  unfolding settled
  settled_told k limit t s r h = told_if w k (nat_le (nesting t) limit) (nat_le (nesting t) limit) refl _ _ _ _ (λ _. told_if w k (is_clean t) (is_clean t) refl _ _ _ _ (λ _. told_ok w k t t s r h refl) (λ _. never w k _ _)) (λ _. never w k _ _)

  arrow_told : (k : Ceiling) (o : Option Code) (t : Tree) (s : State S) (r : State Input) → Beside m Live k s r → Told m Live k (cond (heads_arrow lm o r) (unexpected lm r) (Ok (t, r))) (cond (heads_arrow m o s) (unexpected m s) (Ok (t, s)))
  arrow_told k o t s r h = told_if w k (heads_arrow lm o r) (heads_arrow m o s) (heads_same k o s r h) _ _ _ _ (λ _. never w k _ _) (λ _. told_ok w k t t s r h refl)

  module _ (k : Ceiling) (limit : ℕ) (c : Code) (ce : c.context.module_ ≡ modular) (s : State S) (r : State Input) (h : Beside m Live k s r) where
    expression_told : (l : ℕ) → Told m Live k (expression_part lm l limit c r) (expression_part m l limit c s)
    unfolding expression_part
    expression_told l = told_then w k _ _ _ _ (told_then w k _ _ _ _ ((readers_heard w limit).expr k c ce l s r h) (λ t p q g. settled_told k limit t p q g)) (λ t p q g. arrow_told k (async_end c (last_of t)) t p q g)

    binding_told : Told m Live k (binding_part lm limit c r) (binding_part m limit c s)
    unfolding binding_part
    binding_told = told_then w k _ _ _ _ ((readers_heard w limit).pat k c ce s r h) (λ t p q g. settled_told k limit t p q g)

    key_told : Told m Live k (key_part lm limit c r) (key_part m limit c s)
    unfolding key_part
    key_told = told_then w k _ _ _ _ (key_by_told w (readers_heard w limit) k c ce s r h) (λ t p q g. settled_told k limit t p q g)

    parameters_told : Told m Live k (parameters_part lm limit c r) (parameters_part m limit c s)
    unfolding parameters_part
    parameters_told = told_then w k _ _ _ _ (bare_by_told w (readers_heard w limit) k c ce s r h) (λ ts o n f. told_then w k _ _ _ _ (settled_told k limit (list (pack ts)) o n f) (λ t p q g. arrow_told k (async_end c (last_initial ts)) t p q g))

    prop_told : Told m Live k (prop_part lm limit c r) (prop_part m limit c s)
    unfolding prop_part
    prop_told = told_then w k _ _ _ _ (told_then w k _ _ _ _ (prop_by_told w (readers_heard w limit) k c ce s r h) (λ t p q g. settled_told k limit t p q g)) (λ t p q g. arrow_told k (async_end c (value_of t)) t p q g)

    item_told : Told m Live k (item_part lm limit c r) (item_part m limit c s)
    unfolding item_part
    item_told = told_then w k _ _ _ _ (told_then w k _ _ _ _ (item_by_told w (readers_heard w limit) k c ce s r h) (λ t p q g. settled_told k limit t p q g)) (λ t p q g. arrow_told k (async_end c (value_of t)) t p q g)

    statement_told : Told m Live k (statement_part lm limit c r) (statement_part m limit c s)
    unfolding statement_part
    statement_told = told_then w k _ _ _ _ ((readers_heard w limit).stmt k (alone c) ce s r h) (λ t p q g. told_if w k (is_statement t) (is_statement t) refl _ _ _ _ (λ _. settled_told k limit t p q g) (λ _. never w k _ _))

    list_item_told : Told m Live k (list_item_part lm limit c r) (list_item_part m limit c s)
    unfolding list_item_part
    list_item_told = told_then w k _ _ _ _ ((readers_heard w limit).stmt k (in_list c) ce s r h) (λ t p q g. settled_told k limit t p q g)

    module_item_told : Told m Live k (module_item_part lm limit c r) (module_item_part m limit c s)
    unfolding module_item_part
    module_item_told = told_then w k _ _ _ _ (item_from_told w (readers_heard w limit) k true (in_list c) ce s r h) (λ t p q g. settled_told k limit t p q g)

-- ---- from the source to a list

module _ {S : Type 0} {m : Stream S} {Live : Pairing m} {modular : Bool} (w : Paired m Live modular) where
  heads_was : (o : Option Code) (s : State S) → Live.live s.source → (qs : List PlacedToken) → Live.hands 0 qs s.source → heads_arrow lm o (list_at m Live s qs) ≡ heads_arrow m o s
  heads_was None s a qs h = refl
  heads_was (Some c) s a qs h = agrees w (λ z. not (brk (input lm (on [] 0 z))) && is_name lm c (on [] 0 z)) ((λ p q l v. refl), (λ p q l v. refl), (λ p l v. refl)) s a qs h

  settled_backed : (E : Tree → ℕ) (limit : ℕ) (t : Tree) (s : State S) → Live.live s.source → Backed m Live E false (E t) s (settled m limit (t, s)) (λ q. settled lm limit (t, q))
  unfolding settled
  settled_backed E limit t s a = back_test (nat_le (nesting t) limit) (λ q. nat_le (nesting t) limit) _ _ _ _ (λ qs h. refl)
      (λ _. back_test (is_clean t) (λ q. is_clean t) _ _ _ _ (λ qs h. refl) (λ _. back_ok {E = E} {s = s} t (λ q. t) a (λ qs h. refl) (same_keeps (E t))) (λ _. back_never)) (λ _. back_never)

  arrow_backed : (E : Tree → ℕ) (o : Option Code) (t : Tree) (s : State S) → Live.live s.source → Backed m Live E false (E t) s (cond (heads_arrow m o s) (unexpected m s) (Ok (t, s))) (λ q. cond (heads_arrow lm o q) (unexpected lm q) (Ok (t, q)))
  arrow_backed E o t s a = back_test (heads_arrow m o s) (λ q. heads_arrow lm o q) _ _ _ _ (λ qs h. heads_was o s a qs h) (λ _. back_never) (λ _. back_ok {E = E} {s = s} t (λ q. t) a (λ qs h. refl) (same_keeps (E t)))

  module _ (limit : ℕ) (c : Code) (ce : c.context.module_ ≡ modular) (s : State S) (a : Live.live s.source) where
    expression_backed : (l : ℕ) → Backed m Live edge true closed_end s (expression_part m l limit c s) (λ r. expression_part lm l limit c r)
    unfolding expression_part
    expression_backed l = back_then _ _ _ _ (back_then _ _ _ _ ((readers_echoed w limit).expr c ce l s a) (λ t p u. settled_backed edge limit t p u.live)) (λ t p u. arrow_backed edge (async_end c (last_of t)) t p u.live)

    binding_backed : Backed m Live closed true closed_end s (binding_part m limit c s) (λ r. binding_part lm limit c r)
    unfolding binding_part
    binding_backed = back_then _ _ _ _ ((readers_echoed w limit).pat c ce s a) (λ t p u. settled_backed closed limit t p u.live)

    key_backed : Backed m Live closed true closed_end s (key_part m limit c s) (λ r. key_part lm limit c r)
    unfolding key_part
    key_backed = back_then _ _ _ _ (key_by_backed w (readers_echoed w limit) s c ce a) (λ t p u. settled_backed closed limit t p u.live)

    parameters_backed : Backed m Live calm false closed_end s (parameters_part m limit c s) (λ r. parameters_part lm limit c r)
    unfolding parameters_part
    parameters_backed = back_then _ _ _ _ (bare_by_backed w (readers_echoed w limit) s c ce a) (λ ts o v. back_then _ _ _ _ (settled_backed calm limit (list (pack ts)) o v.live) (λ t p u. arrow_backed calm (async_end c (last_initial ts)) t p u.live))

    prop_backed : Backed m Live calm true closed_end s (prop_part m limit c s) (λ r. prop_part lm limit c r)
    unfolding prop_part
    prop_backed = back_then _ _ _ _ (back_then _ _ _ _ (prop_by_backed w (readers_echoed w limit) s c ce a) (λ t p u. settled_backed calm limit t p u.live)) (λ t p u. arrow_backed calm (async_end c (value_of t)) t p u.live)

    item_backed : Backed m Live calm true closed_end s (item_part m limit c s) (λ r. item_part lm limit c r)
    unfolding item_part
    item_backed = back_then _ _ _ _ (back_then _ _ _ _ (item_by_backed w (readers_echoed w limit) s c ce a) (λ t p u. settled_backed calm limit t p u.live)) (λ t p u. arrow_backed calm (async_end c (value_of t)) t p u.live)

    statement_backed : Backed m Live closed true closed_end s (statement_part m limit c s) (λ r. statement_part lm limit c r)
    unfolding statement_part
    statement_backed = back_then _ _ _ _ ((readers_echoed w limit).stmt (alone c) ce s a) (λ t p u. back_test (is_statement t) (λ q. is_statement t) _ _ _ _ (λ qs h. refl) (λ _. settled_backed closed limit t p u.live) (λ _. back_never))

    list_item_backed : Backed m Live closed true closed_end s (list_item_part m limit c s) (λ r. list_item_part lm limit c r)
    unfolding list_item_part
    list_item_backed = back_then _ _ _ _ ((readers_echoed w limit).stmt (in_list c) ce s a) (λ t p u. settled_backed closed limit t p u.live)

    module_item_part_backed : Backed m Live closed true closed_end s (module_item_part m limit c s) (λ r. module_item_part lm limit c r)
    unfolding module_item_part
    module_item_part_backed = back_then _ _ _ _ (back_operand w {s = s} _ (λ r. module_item_by lm (readers lm limit) true (in_list c) r) a (module_item_backed w (readers_echoed w limit) (operand m s) true (in_list c) ce (w.order.live_operand s.source a))) (λ t p u. settled_backed closed limit t p u.live)

-- ---- both

module _ {S : Type 0} (m : Stream S) (Live : S → Type 0) (modules : Bool) (w : Orderly m Live modules) where
  same_answers : (E : Tree → ℕ) (b : Bool) (Asked : Tree → List PlacedToken → S → Type 0) → ((t : Tree) (r : State S) (qs : List PlacedToken) → Asked t qs r.source → Good m (handed m Live) (E t) r qs) → ((t : Tree) (r : S) (qs : List PlacedToken) → one qs ≡ one (m.seen r) → Asked t qs r)
      → (s : S) (o : List ℕ) (x : Result (Tree × State S) Fault) (f : Read Input Tree) → Live s → Backed m (handed m Live) E b closed_end (from_source m Live s o) x (λ q. f q)
      → ((k : Ceiling) (r : State Input) → Beside m Live k (from_source m Live s o) r → Told m Live k (f r) x) → SameAnswers m Live Asked s o x (λ q. f q)
  same_answers E b Asked good same s o x f a h g = record {
    consumed = read_consumed m Live w E b Asked good same s o x f h;
    told = λ ps i. part w (start_at w s ps) _ _ (g (start_at w s ps) (from_list m Live s ps o) (beside_at w s ps o a i));
  }

module _ {S : Type 0} (m : Stream S) (Live : S → Type 0) where
  pub parts_same : PartsSame m Live
  parts_same modules w bw limit c s o e a = let p = paired w bw in let t = from_source m Live s o in record {
    expressions = λ l. same_answers m Live modules w edge true (AssignsUnlessClosed m) (good_edge m Live) (same_edge m Live) s o _ (λ r. expression_part lm l limit c r) a (expression_backed p limit c e t a l) (λ k r h. expression_told w k limit c e t r h l);
    bindings = same_answers m Live modules w closed true (Unasked m) (good_closed m Live) (same_closed m Live) s o _ (λ r. binding_part lm limit c r) a (binding_backed p limit c e t a) (λ k r h. binding_told w k limit c e t r h);
    keys = same_answers m Live modules w closed true (Unasked m) (good_closed m Live) (same_closed m Live) s o _ (λ r. key_part lm limit c r) a (key_backed p limit c e t a) (λ k r h. key_told w k limit c e t r h);
    parameters = same_answers m Live modules w calm false (Assigns m) (good_calm m Live) (same_calm m Live) s o _ (λ r. parameters_part lm limit c r) a (parameters_backed p limit c e t a) (λ k r h. parameters_told w k limit c e t r h);
    properties = same_answers m Live modules w calm true (Assigns m) (good_calm m Live) (same_calm m Live) s o _ (λ r. prop_part lm limit c r) a (prop_backed p limit c e t a) (λ k r h. prop_told w k limit c e t r h);
    patterns = same_answers m Live modules w calm true (Assigns m) (good_calm m Live) (same_calm m Live) s o _ (λ r. item_part lm limit c r) a (item_backed p limit c e t a) (λ k r h. item_told w k limit c e t r h);
    statements = same_answers m Live modules w closed true (Unasked m) (good_closed m Live) (same_closed m Live) s o _ (λ r. statement_part lm limit c r) a (statement_backed p limit c e t a) (λ k r h. statement_told w k limit c e t r h);
    list_items = same_answers m Live modules w closed true (Unasked m) (good_closed m Live) (same_closed m Live) s o _ (λ r. list_item_part lm limit c r) a (list_item_backed p limit c e t a) (λ k r h. list_item_told w k limit c e t r h);
    module_items = same_answers m Live modules w closed true (Unasked m) (good_closed m Live) (same_closed m Live) s o _ (λ r. module_item_part lm limit c r) a (module_item_part_backed p limit c e t a) (λ k r h. module_item_told w k limit c e t r h);
  }
