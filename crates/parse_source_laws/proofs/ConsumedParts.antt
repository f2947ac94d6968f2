-- Parts of a program are read of a list that a source hands out, as they are of the source; and each source hands out a list.
use Rattle.std.proofs.Common.{◌≡◌, ◌<◌, ℕ, zero, suc, Bool, true, false, nat_le, List, [], ◌∷◌, Result, Ok, Err, inl, refl, sym, ap, ◌∙◌, subst, true≢false, arith}
use Rattle.tree_spec.specs.Tree.{Tree}
use Rattle.grammar_spec.specs.Tokens.Input.{PlacedToken, Input, kind_of}
use Rattle.grammar_spec.specs.Tokens.Operators.{closed_end}
use Rattle.grammar_spec.specs.Tokens.Shape.{ends}
use Rattle.grammar_spec.specs.Reader.Source.{Fault, Stream, State, Read, operand}
use Rattle.grammar_spec.specs.Reader.Modules.{item_by}
use Rattle.grammar_spec.specs.Reader.Reading.{readers}
use Rattle.parse_source_laws.specs.Sources.{one, HandsOut, Orderly}
use Rattle.parse_source_laws.specs.Laws.{from_source, from_list}
use Rattle.parse_source_laws.specs.Ahead.{ends_async}
use Rattle.parse_source_laws.specs.Consumed.{Assigns, AssignsUnlessClosed, Unasked, ReadConsumed, PartsConsumed}
use Rattle.parse_source_laws.proofs.Beside.{lm}
use Rattle.parse_source_laws.proofs.Pairs.{edge_by, edge}
use Rattle.parse_source_laws.proofs.HandedOut.{handed, paired}
use Rattle.parse_source_laws.proofs.Backs.{closed, calm, shut_good, Good, Backed, back_operand}
use Rattle.parse_source_laws.proofs.ConsumedExpressions.{key_by_backed, parameter_by_backed, prop_by_backed}
use Rattle.parse_source_laws.proofs.ConsumedStatements.{pattern_prop_backed}
use Rattle.parse_source_laws.proofs.ConsumedModules.{item_by_backed}
use Rattle.parse_source_laws.proofs.ConsumedLemmas.{readers_echoed}

pub edge_open : (a b : Bool) → nat_le closed_end (edge_by a b) ≡ false → a ≡ false
edge_open true b e = absurd (true≢false e)
edge_open false b e = refl

kind_one : (l : List PlacedToken) → kind_of (one l) ≡ kind_of l
kind_one [] = refl
kind_one (p ∷ l) = refl

module _ {S : Type 0} (m : Stream S) (Live : S → Type 0) where
  -- what is asked of the list behind
  pub good_closed : (t : Tree) (r : State S) (qs : List PlacedToken) → Unasked m t qs r.source → Good m (handed m Live) closed_end r qs
  good_closed t r qs q = shut_good (handed m Live) r qs

  pub good_calm : (t : Tree) (r : State S) (qs : List PlacedToken) → Assigns m t qs r.source → Good m (handed m Live) 0 r qs
  good_calm t r qs q = (λ o. q, λ o. tt)

  pub good_edge : (t : Tree) (r : State S) (qs : List PlacedToken) → AssignsUnlessClosed m t qs r.source → Good m (handed m Live) (edge t) r qs
  good_edge t r qs q = (λ o. q (edge_open (nat_le closed_end (ends t)) (ends_async t) o), λ o. tt)

  -- which a list has whose first token is the one that comes
  pub same_closed : (t : Tree) (r : S) (qs : List PlacedToken) → one qs ≡ one (m.seen r) → Unasked m t qs r
  same_closed t r qs e = tt

  pub same_calm : (t : Tree) (r : S) (qs : List PlacedToken) → one qs ≡ one (m.seen r) → Assigns m t qs r
  same_calm t r qs e k = sym (kind_one qs) ∙ (ap kind_of e ∙ (kind_one (m.seen r) ∙ k))

  pub same_edge : (t : Tree) (r : S) (qs : List PlacedToken) → one qs ≡ one (m.seen r) → AssignsUnlessClosed m t qs r
  same_edge t r qs e i = same_calm t r qs e

  -- each token as it comes
  handed_from : {modules : Bool} → Orderly m Live modules → (i : ℕ) (s : S) → Live s → m.bound s < i → (ps : List PlacedToken) × HandsOut m ps s × (one ps ≡ one (m.seen s))
  handed_from w zero s a e = absurd (omega (arith, e))
  handed_from {modules} w (suc i) s a e = by_seen (λ t b f. handed_from w i t b f) (m.seen s) refl
    where
      by_seen : ((t : S) → Live t → m.bound t < i → (ps : List PlacedToken) × HandsOut m ps t × (one ps ≡ one (m.seen t))) → (v : List PlacedToken) → m.seen s ≡ v → (ps : List PlacedToken) × HandsOut m ps s × (one ps ≡ one (m.seen s))
      by_seen n [] h = ([], h, ap one (sym h))
      by_seen n (p ∷ v) h = let z = n (m.after s) (w.live_after s a) (omega (arith, e, w.falls s p v a h)) in (p ∷ z.0, inl (v, h, z.1), ap one (sym h))

  -- so it hands out a list, whose first token is the one that comes
  pub list_from : {modules : Bool} → Orderly m Live modules → (s : S) → Live s → (ps : List PlacedToken) × HandsOut m ps s × (one ps ≡ one (m.seen s))
  list_from w s a = handed_from w (suc (m.bound s)) s a (omega arith)

  -- from a rule's lemma to what is said of the rule
  pub read_consumed : {modules : Bool} → Orderly m Live modules → (E : Tree → ℕ) (b : Bool) (Asked : Tree → List PlacedToken → S → Type 0) → ((t : Tree) (r : State S) (qs : List PlacedToken) → Asked t qs r.source → Good m (handed m Live) (E t) r qs)
      → ((t : Tree) (r : S) (qs : List PlacedToken) → one qs ≡ one (m.seen r) → Asked t qs r) → (s : S) (o : List ℕ) (x : Result (Tree × State S) Fault) (f : Read Input Tree)
      → Backed m (handed m Live) E b closed_end (from_source m Live s o) x (λ r. f r) → ReadConsumed m Live Asked s o x (λ r. f r)
  read_consumed w E b Asked good same s o (Err e) f h = tt
  read_consumed {modules} w E b Asked good same s o (Ok x) f h = let u = h.so.0 in let l = list_from w x.1.source u.live in record {
    front = u.front;
    rest = l.0;
    handed = l.1;
    asked = same x.0 x.1.source l.0 l.2;
    each = λ qs a g. (subst (λ (v : List PlacedToken). HandsOut m v s) (u.grown qs) (u.hands qs a), ap (λ (v : List PlacedToken). f (from_list m Live s v o)) (sym (u.grown qs)) ∙ (h.so.2 qs a (good x.0 x.1 qs g)).1);
  }

  pub parts_consumed : PartsConsumed m Live
  parts_consumed modules w bw depth c s o e a = let p = paired w bw in let n = readers_echoed p depth in let t = from_source m Live s o in record {
    expressions = λ l. read_consumed w edge true (AssignsUnlessClosed m) good_edge same_edge s o _ (λ r. (readers lm depth).expr c l r) (n.expr c e l t a);
    bindings = read_consumed w closed true (Unasked m) good_closed same_closed s o _ (λ r. (readers lm depth).pat c r) (n.pat c e t a);
    statements = read_consumed w closed true (Unasked m) good_closed same_closed s o _ (λ r. (readers lm depth).stmt c r) (n.stmt c e t a);
    items = read_consumed w closed true (Unasked m) good_closed same_closed s o _ (λ r. item_by lm (readers lm depth) modules c r)
        (back_operand p {s = t} _ (λ r. item_by lm (readers lm depth) modules c r) a (item_by_backed p n (operand m t) modules c e (w.live_operand s a)));
    keys = read_consumed w closed true (Unasked m) good_closed same_closed s o _ _ (key_by_backed p n t c e a);
    parameters = read_consumed w calm true (Assigns m) good_calm same_calm s o _ _ (parameter_by_backed p n t c e a);
    properties = read_consumed w calm true (Assigns m) good_calm same_calm s o _ _ (prop_by_backed p n t c e a);
    patterns = read_consumed w calm true (Assigns m) good_calm same_calm s o _ _ (pattern_prop_backed p n t c e a);
  }
