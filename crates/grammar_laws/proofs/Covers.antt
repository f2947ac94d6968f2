-- Expressions refined to patterns: what a refinement answers produces what the expression did.
use Rattle.std.proofs.Common.{◌≡◌, ℕ, ◌≤◌, ◌⊎◌, inl, inr, Bool, true, false, not, ◌&&◌, ◌||◌, cond, eqb, List, [], ◌∷◌, Some, None, Result, Ok, Err, refl, sym, ap, ◌∙◌, subst, ⊎_elim, true≢false, arith}
use Rattle.std.proofs.lemmas.Bool.{eqb-true, and_parts, cases_Bool, and_right}
use Rattle.grammar_laws.proofs.Shapes.{hole_is}
use Rattle.base_token.specs.declared.place.Span.{Span}
use Rattle.base_token.specs.Kinds.{assign_kind, comma_kind, dot_dot_dot_kind, right_bracket_kind, right_brace_kind, colon_kind}
use Rattle.tree_spec.specs.Tree.{Tree, Trees, none, more, pack, assign_expr, ident, ident_name, str_lit, number_lit, big_int_lit, computed_prop_name, member_expr, super_prop_expr, paren_expr, expr_or_spread, spread_element, key_value_prop, assign_prop, binding_ident, array_pat, object_pat, assign_pat, rest_pat, key_value_pat_prop, assign_pat_prop, expr_pat, hole, absent}
use Rattle.grammar_spec.specs.Tokens.Input.{Input, Code, Takes, Spans, first_span, with_in, dots_at}
use Rattle.grammar_spec.specs.Tokens.Operators.{assignment_level}
use Rattle.grammar_spec.specs.Tokens.Shape.{is_simple, is_target, is_structured, is_place, is_item_pat, is_rest, is_hole, is_element, is_prop, is_binding, is_bound_name, is_assigned, is_pattern_prop, takes_rest, is_key, is_absent, level}
use Rattle.grammar_spec.specs.Children.{Child, child, By, IsEmpty, Expr, Listed}
use Rattle.grammar_spec.specs.Patterns.{Item, Property}
use Rattle.grammar_spec.specs.Grammar.{Produces, children}
use Rattle.grammar_spec.specs.Reader.Source.{Fault, ◌>>=◌, unfit}
use Rattle.grammar_spec.specs.Reader.Cover.{binds_names, all_bind, if_binds, initialised, rest_of, is_rest_item, as_prop, last_rests, to_item, to_items}

-- the code of an expression's tokens alone, and of a pattern's
abbrev pub patterned : Bool → Code → Code
patterned b c = record c { binds = b; placed = false }

abbrev pub plain : Code → Code
plain c = patterned false c

-- ---- answers

abbrev pub HoldsBy : {A : Type 0} → Result A Fault → (A → Type 0) → Type 0
HoldsBy (Ok x) P = P x
HoldsBy (Err e) P = Unit {0}

pub record Holds {A : Type 0} (r : Result A Fault) (P : A → Type 0) : Type 0 where
  pub so : HoldsBy r P

pub then_holds : {A B : Type 0} (r : Result A Fault) (f : A → Result B Fault) (P : A → Type 0) (Q : B → Type 0) → Holds r P → ((x : A) → P x → Holds (f x) Q) → Holds (r >>= f) Q
then_holds (Ok x) f P Q p h = h x p.so
then_holds (Err e) f P Q p h = record { so = tt }

pub if_holds : {A : Type 0} (b : Bool) (x y : Result A Fault) (P : A → Type 0) → (b ≡ true → Holds x P) → (b ≡ false → Holds y P) → Holds (cond b x y) P
if_holds true x y P h k = h refl
if_holds false x y P h k = k refl

pub by_yes : (b : Bool) (P Q : Type 0) → b ≡ true → P → By b P Q
by_yes true P Q e p = p
by_yes false P Q e p = absurd (true≢false (sym e))

pub by_no : (b : Bool) (P Q : Type 0) → b ≡ false → Q → By b P Q
by_no true P Q e q = absurd (true≢false e)
by_no false P Q e q = q

pub yes_by : (b : Bool) (P Q : Type 0) → b ≡ true → By b P Q → P
yes_by true P Q e p = p
yes_by false P Q e p = absurd (true≢false (sym e))

pub no_by : (b : Bool) (P Q : Type 0) → b ≡ false → By b P Q → Q
no_by true P Q e q = absurd (true≢false e)
no_by false P Q e q = q

pub by_map : (b : Bool) (P Q P' Q' : Type 0) → (P → P') → (Q → Q') → By b P Q → By b P' Q'
by_map true P Q P' Q' f g h = f h
by_map false P Q P' Q' f g h = g h

-- ---- a pattern that assigns to names alone binds them as well

place_turned : (p : Tree) → binds_names p ≡ true → is_place false p ≡ true → is_place true p ≡ true
place_turned (binding_ident s i) e h = refl
place_turned (array_pat s xs) e h = refl
place_turned (object_pat s ps) e h = refl
place_turned (expr_pat x) e h = absurd (true≢false (sym e))
place_turned _ e h = absurd (true≢false (sym h))

item_turned : (p : Tree) → binds_names p ≡ true → is_item_pat false p ≡ true → is_item_pat true p ≡ true
item_turned (assign_pat s p x) e h = place_turned p e h
item_turned (rest_pat s d p) e h = place_turned p e h
item_turned (binding_ident s i) e h = refl
item_turned (array_pat s xs) e h = refl
item_turned (object_pat s ps) e h = refl
item_turned (expr_pat x) e h = absurd (true≢false (sym e))
item_turned _ e h = absurd (true≢false (sym h))

bound_turned : (c : Code) (k : Tree) (ts r : Input) → is_bound_name k ≡ true → Produces k (patterned false c) ts r → Produces k (patterned true c) ts r
bound_turned c (binding_ident s (ident t n)) ts r e h = h
bound_turned c (binding_ident s _) ts r e h = absurd h
bound_turned c _ ts r e h = absurd (true≢false (sym e))

mutual
  pub turned_pat : (c : Code) (p : Tree) (ts r : Input) → binds_names p ≡ true → Produces p (patterned false c) ts r → Produces p (patterned true c) ts r
  turned_pat c (binding_ident s (ident t n)) ts r e h = h
  turned_pat c (binding_ident s _) ts r e h = absurd h
  turned_pat c (array_pat s xs) ts r e h = (h.0, h.1, turned_items c true right_bracket_kind xs h.0 r e h.2, h.3)
  turned_pat c (object_pat s ps) ts r e h = (h.0, h.1, turned_props c false right_brace_kind ps h.0 r e h.2, h.3)
  turned_pat c (assign_pat s p x) ts r e h = (h.0, h.1, place_turned p e h.2, turned_pat c p ts h.0 e h.3, h.4, h.5, h.6)
  turned_pat c (rest_pat s d p) ts r e h = (h.0, h.1, h.2, place_turned p e h.3, turned_pat c p h.0 r e h.4, h.5)
  turned_pat c (key_value_pat_prop s k p) ts r e h = (h.0, h.1, h.2, h.3, (item_turned p e h.4.0, turned_pat (with_in c) p h.1 r e h.4.1), h.5, h.6)
  turned_pat c (assign_pat_prop s k x) ts r e h = (h.0, (h.1.0, bound_turned c k ts h.0 h.1.0 h.1.1), h.2, h.3)
  turned_pat c hole ts r e h = absurd h
  turned_pat c _ ts r e h = absurd (true≢false (sym e))

  turned_items : (c : Code) (holes : Bool) (close : ℕ) (xs : Trees) (ts r : Input) → all_bind xs ≡ true → Listed holes (Item (patterned false c)) (patterned false c) close (children xs) ts r → Listed holes (Item (patterned true c)) (patterned true c) close (children xs) ts r
  turned_items c holes close none ts r e h = h
  turned_items c holes close (more x xs) ts r e h =
      let b = and_parts (binds_names x) (all_bind xs) e in
      by_map (holes && is_hole x) _ _ _ _ (λ k. (k.0, k.1, turned_items c holes close xs k.0 r b.1 k.2))
      (λ k. (k.0, (item_turned x b.0 k.1.0, turned_pat (with_in c) x ts k.0 b.0 k.1.1), ⊎_elim (λ o. inl (o.0, o.1, o.2, turned_items c holes close xs o.1 r b.1 o.3)) (λ o. inr o) k.2)) h

  turned_props : (c : Code) (holes : Bool) (close : ℕ) (xs : Trees) (ts r : Input) → all_bind xs ≡ true → Listed holes (Property (patterned false c)) (patterned false c) close (children xs) ts r → Listed holes (Property (patterned true c)) (patterned true c) close (children xs) ts r
  turned_props c holes close none ts r e h = h
  turned_props c holes close (more x xs) ts r e h =
      let b = and_parts (binds_names x) (all_bind xs) e in
      by_map (holes && is_hole x) _ _ _ _ (λ k. (k.0, k.1, turned_props c holes close xs k.0 r b.1 k.2))
      (λ k. (k.0, (k.1.0, k.1.1, turned_pat (with_in c) x ts k.0 b.0 k.1.2), ⊎_elim (λ o. inl (o.0, o.1, o.2, turned_props c holes close xs o.1 r b.1 o.3)) (λ o. inr o) k.2)) h

-- ---- one expression

-- an item that is no rest
abbrev pub is_target_item : Bool → Tree → Bool
is_target_item b (assign_pat s p e) = is_place b p
is_target_item b p = is_place b p

-- An initialiser is read where `in` is an operator.
abbrev pub Fine : Tree → Code → Type 0
Fine (assign_expr s op a b) c = with_in (plain c) ≡ plain c
Fine _ c = Unit {0}

pub fine_in : (t : Tree) (c : Code) → Fine t (with_in c)
fine_in (assign_expr s op a b) c = refl
fine_in _ c = tt

abbrev pub IsItem : Bool → Code → Input → Input → Tree → Type 0
IsItem b c ts r p = (is_target_item b p ≡ true) × Produces p (patterned b c) ts r

pub record Refines (k : List ℕ) (c : Code) (t : Tree) (ts r : Input) : Type 0 where
  pub so : (b : Bool) → Fine t c → Holds (to_item b k t) (IsItem b c ts r)

-- with an initialiser
made_item : (b : Bool) (c : Code) (s : Span) (p e : Tree) (ts m n r : Input) → is_place b p ≡ true → Produces p (patterned b c) ts m → Takes (patterned b c) assign_kind m n
    → Expr assignment_level (plain (with_in c)) (child e (λ y. Produces e y)) n r → Spans s ts r → Holds (Ok (assign_pat s p e)) (IsItem b c ts r)
made_item b c s p e ts m n r h0 h1 h2 h3 h4 = record { so = (h0, (m, n, h0, h1, h2, h3, h4)) }

bound_item : (b : Bool) (c : Code) (s : Span) (p e : Tree) (ts m n r : Input) → is_binding p ≡ true → Produces p (plain c) ts m → Takes (plain c) assign_kind m n
    → Expr assignment_level (plain (with_in c)) (child e (λ y. Produces e y)) n r → Spans s ts r → Holds (if_binds b p >>= λ q. Ok (assign_pat s q e)) (IsItem b c ts r)
bound_item false c s p e ts m n r h0 h1 h2 h3 h4 = made_item false c s p e ts m n r (ap (λ z. z || is_assigned p) h0) h1 h2 h3 h4
bound_item true c s p e ts m n r h0 h1 h2 h3 h4 = bound (binds_names p) (λ q. turned_pat c p ts m q h1)
  where
    bound : (x : Bool) → (x ≡ true → Produces p (patterned true c) ts m) → Holds ((cond x (Ok p) unfit) >>= λ q. Ok (assign_pat s q e)) (IsItem true c ts r)
    bound true k = made_item true c s p e ts m n r (ap (λ z. z || false) h0) (k refl) h2 h3 h4
    bound false k = record { so = tt }

or_left_only : (x y : Bool) → (x || (y && false)) ≡ true → x ≡ true
or_left_only true y e = refl
or_left_only false true e = e
or_left_only false false e = e

pub assign_refines : (b : Bool) (k : List ℕ) (c : Code) (s : Span) (op : ℕ) (p e : Tree) (ts r : Input) → Produces (assign_expr s op p e) (plain c) ts r → with_in (plain c) ≡ plain c
    → Holds (to_item b k (assign_expr s op p e)) (IsItem b c ts r)
assign_refines b k c s op p e ts r h w = if_holds (eqb op assign_kind) _ _ _ (λ q. init p (h.0) (h.1) h.3 h.4 (eqb-true op assign_kind q) h.5 (subst (λ (d : Code). Expr assignment_level d (child e (λ y. Produces e y)) h.1 r) (sym w) h.6) h.7) (λ _. record { so = tt })
  where
    init : (p : Tree) (m n : Input) → is_target op p ≡ true → Produces p (plain c) ts m → op ≡ assign_kind → Takes (plain c) op m n → Expr assignment_level (with_in (plain c)) (child e (λ y. Produces e y)) n r → Spans s ts r
        → Holds (initialised b s p e) (IsItem b c ts r)
    init (member_expr t o j) m n g0 g1 q g2 g3 g4 = if_holds b _ _ _ (λ _. record { so = tt }) (λ z. subst (λ (y : Bool). Holds (Ok (assign_pat s (expr_pat (member_expr t o j)) e)) (IsItem y c ts r)) (sym z) (made_item false c s (expr_pat (member_expr t o j)) e ts m n r refl (refl, g1) (g2.0 ∙ q, g2.1, g2.2) g3 g4))
    init (super_prop_expr t o j) m n g0 g1 q g2 g3 g4 = if_holds b _ _ _ (λ _. record { so = tt }) (λ z. subst (λ (y : Bool). Holds (Ok (assign_pat s (expr_pat (super_prop_expr t o j)) e)) (IsItem y c ts r)) (sym z) (made_item false c s (expr_pat (super_prop_expr t o j)) e ts m n r refl (refl, g1) (g2.0 ∙ q, g2.1, g2.2) g3 g4))
    init (paren_expr t x) m n g0 g1 q g2 g3 g4 = if_holds b _ _ _ (λ _. record { so = tt }) (λ z. subst (λ (y : Bool). Holds (Ok (assign_pat s (expr_pat (paren_expr t x)) e)) (IsItem y c ts r)) (sym z) let w = or_left_only (is_simple x) (eqb op assign_kind) g0 in (made_item false c s (expr_pat (paren_expr t x)) e ts m n r w (w, g1) (g2.0 ∙ q, g2.1, g2.2) g3 g4))
    init (binding_ident t i) m n g0 g1 q g2 g3 g4 = bound_item b c s (binding_ident t i) e ts m n r refl g1 (g2.0 ∙ q, g2.1, g2.2) g3 g4
    init (array_pat t xs) m n g0 g1 q g2 g3 g4 = bound_item b c s (array_pat t xs) e ts m n r refl g1 (g2.0 ∙ q, g2.1, g2.2) g3 g4
    init (object_pat t xs) m n g0 g1 q g2 g3 g4 = bound_item b c s (object_pat t xs) e ts m n r refl g1 (g2.0 ∙ q, g2.1, g2.2) g3 g4
    init _ m n g0 g1 q g2 g3 g4 = absurd (true≢false (sym g0 ∙ no (eqb op assign_kind)))
      where
        no : (x : Bool) → (x && false) ≡ false
        no true = refl
        no false = refl

-- ---- elements, arguments and properties

abbrev pub IsNil : List Tree → Type 0
IsNil [] = Unit {0}
IsNil (x ∷ xs) = ⊥

-- Items with commas up to what closes them: `b` whether a comma stands before, `f` whether one stands before what closes.
abbrev pub Elems : (Tree → Input → Input → Type 0) → Bool → Code → ℕ → Bool → Bool → List Tree → Input → Input → Type 0
Elems Q holes c close f b [] ts r = (f ≡ b) × Takes c close ts r
Elems Q holes c close f b (x ∷ xs) ts r =
    By (is_hole x)
    ((holes ≡ true) × (m : Input) × Takes c comma_kind ts m × Elems Q holes c close f false xs m r)
    ((m : Input) × Q x ts m × (((n : Input) × Takes c comma_kind m n × Elems Q holes c close f true xs n r) ⊎ (IsNil xs × (f ≡ false) × Takes c close m r)))

-- a list without holes starts with an item
pub first_item : (Q : Tree → Input → Input → Type 0) (c : Code) (close : ℕ) (f b : Bool) (x : Tree) (xs : List Tree) (ts r : Input) → Elems Q false c close f b (x ∷ xs) ts r
    → (m : Input) × Q x ts m × (((n : Input) × Takes c comma_kind m n × Elems Q false c close f true xs n r) ⊎ (IsNil xs × (f ≡ false) × Takes c close m r))
first_item Q c close f b x xs ts r h = item (is_hole x) h
  where
    item : (z : Bool) → By z ((false ≡ true) × (m : Input) × Takes c comma_kind ts m × Elems Q false c close f false xs m r) ((m : Input) × Q x ts m × (((n : Input) × Takes c comma_kind m n × Elems Q false c close f true xs n r) ⊎ (IsNil xs × (f ≡ false) × Takes c close m r)))
        → (m : Input) × Q x ts m × (((n : Input) × Takes c comma_kind m n × Elems Q false c close f true xs n r) ⊎ (IsNil xs × (f ≡ false) × Takes c close m r))
    item true g = absurd (true≢false (sym g.0))
    item false g = g

nil_empty : (xs : List Tree) → IsNil xs → IsEmpty (children (pack xs))
nil_empty [] h = tt
nil_empty (x ∷ xs) h = h

-- an item as it is, without what it may be refined to
module _ (Q : Tree → Input → Input → Type 0) (P : Child → Input → Input → Type 0) (holes : Bool) (c d : Code) (same_code : (k : ℕ) (ts r : Input) → Takes c k ts r → Takes d k ts r) (close : ℕ) (f : Bool)
    (g : (x : Tree) (ts r : Input) → Q x ts r → P (child x (λ y. Produces x y)) ts r × (is_rest x ≡ false)) where
  abbrev Hole : List Tree → Input → Input → Type 0
  Hole xs ts r = (holes ≡ true) × (m : Input) × Takes c comma_kind ts m × Elems Q holes c close f false xs m r

  abbrev One : Tree → List Tree → Input → Input → Type 0
  One x xs ts r = (m : Input) × Q x ts m × (((n : Input) × Takes c comma_kind m n × Elems Q holes c close f true xs n r) ⊎ (IsNil xs × (f ≡ false) × Takes c close m r))

  abbrev HoleThere : List Tree → Input → Input → Type 0
  HoleThere xs ts r = (m : Input) × Takes d comma_kind ts m × Listed holes P d close (children (pack xs)) m r

  abbrev OneThere : Tree → List Tree → Input → Input → Type 0
  OneThere x xs ts r = (m : Input) × P (child x (λ y. Produces x y)) ts m × (((is_rest x ≡ false) × (n : Input) × Takes d comma_kind m n × Listed holes P d close (children (pack xs)) n r) ⊎ (IsEmpty (children (pack xs)) × Takes d close m r))

  pub listed : (b : Bool) (xs : List Tree) (ts r : Input) → Elems Q holes c close f b xs ts r → Listed holes P d close (children (pack xs)) ts r
  listed b [] ts r h = same_code close ts r h.1
  listed b (x ∷ xs) ts r h = ⊎_elim
      (λ (e : is_hole x ≡ true). let k = yes_by (is_hole x) (Hole xs ts r) (One x xs ts r) e h in
      by_yes (holes && is_hole x) (HoleThere xs ts r) (OneThere x xs ts r) (ap (λ w. w && is_hole x) k.0 ∙ e) (k.1, same_code comma_kind ts k.1 k.2, listed false xs k.1 r k.3))
      (λ (e : is_hole x ≡ false). let k = no_by (is_hole x) (Hole xs ts r) (One x xs ts r) e h in let q = g x ts k.0 k.1 in
      by_no (holes && is_hole x) (HoleThere xs ts r) (OneThere x xs ts r) (and_right holes (is_hole x) e) (k.0, q.0, ⊎_elim (λ o. inl (q.1, o.0, same_code comma_kind k.0 o.0 o.1, listed true xs o.0 r o.2)) (λ o. inr (nil_empty xs o.0, same_code close k.0 r o.2)) k.2))
      (cases_Bool (is_hole x))

-- the pattern that comes of an item
abbrev pub IsRefined : (Child → Input → Input → Type 0) → Tree → Input → Input → Tree → Type 0
IsRefined P x ts r p = P (child p (λ y. Produces p y)) ts r × (is_rest_item x ≡ false → is_rest p ≡ false) × (is_hole p ≡ false)

module _ (Q : Tree → Input → Input → Type 0) (P : Child → Input → Input → Type 0) (holes props : Bool) (array : holes ≡ true → props ≡ false) (c d : Code) (same_code : (k : ℕ) (ts r : Input) → Takes c k ts r → Takes d k ts r) (close : ℕ) (f b : Bool) (k : List ℕ)
    (refined : (x : Tree) (ts r : Input) → Q x ts r → Holds (as_prop props x (to_item b k x)) (IsRefined P x ts r)) where
  abbrev pub Refined : Input → Input → Trees → Type 0
  Refined ts r ps = Listed holes P d close (children ps) ts r

  -- what stands at a hole or an item
  abbrev AtHole : List Tree → Input → Input → Type 0
  AtHole xs ts r = (holes ≡ true) × (m : Input) × Takes c comma_kind ts m × Elems Q holes c close f false xs m r

  abbrev AtOne : Tree → List Tree → Input → Input → Type 0
  AtOne x xs ts r = (m : Input) × Q x ts m × (((n : Input) × Takes c comma_kind m n × Elems Q holes c close f true xs n r) ⊎ (IsNil xs × (f ≡ false) × Takes c close m r))

  abbrev HoleHere : Trees → Input → Input → Type 0
  HoleHere ps ts r = (m : Input) × Takes d comma_kind ts m × Refined m r ps

  abbrev OneHere : Tree → Trees → Input → Input → Type 0
  OneHere p ps ts r = (m : Input) × P (child p (λ y. Produces p y)) ts m × (((is_rest p ≡ false) × (n : Input) × Takes d comma_kind m n × Refined n r ps) ⊎ (IsEmpty (children ps) × Takes d close m r))

  hole_items : (ps : Trees) (ts m r : Input) → holes ≡ true → Takes c comma_kind ts m → Refined m r ps → Refined ts r (more hole ps)
  hole_items ps ts m r e t h = by_yes (holes && true) (HoleHere ps ts r) (OneHere hole ps ts r) (ap (λ w. w && true) e) (m, same_code comma_kind ts m t, h)

  item_items : (p : Tree) (ps : Trees) (x : Tree) (ts m r : Input) → IsRefined P x ts m p → ((is_rest p ≡ false) × (n : Input) × Takes c comma_kind m n × Refined n r ps) ⊎ (IsEmpty (children ps) × Takes c close m r) → Refined ts r (more p ps)
  item_items p ps x ts m r h o = by_no (holes && is_hole p) (HoleHere ps ts r) (OneHere p ps ts r) (and_right holes (is_hole p) h.2) (m, h.0, ⊎_elim (λ q. inl (q.0, q.1, same_code comma_kind m q.1 q.2, q.3)) (λ q. inr (q.0, same_code close m r q.1)) o)

  as_hole : (x : Tree) → is_hole x ≡ true → holes ≡ true → (f : Tree → Result Trees Fault) (R : Trees → Type 0) → Holds (f hole) R → Holds (as_prop props x (to_item b k x) >>= f) R
  as_hole x e h f R q = subst (λ (y : Tree). Holds (as_prop props y (to_item b k y) >>= f) R) (sym (hole_is x e)) (subst (λ (z : Bool). Holds (as_prop z hole (to_item b k hole) >>= f) R) (sym (array h)) q)

  pub items_refine : (a : Bool) (xs : List Tree) (ts r : Input) → Elems Q holes c close f a xs ts r → (f && last_rests xs) ≡ false → Holds (to_items props b k (pack xs)) (Refined ts r)
  items_refine a [] ts r h e = record { so = same_code close ts r h.1 }
  items_refine a (x ∷ []) ts r h e = ⊎_elim
      (λ (z : is_hole x ≡ true). let q = yes_by (is_hole x) (AtHole [] ts r) (AtOne x [] ts r) z h in
      as_hole x z q.0 (λ p. Ok (more p none)) (Refined ts r) (record { so = hole_items none ts q.1 r q.0 q.2 (same_code close q.1 r q.3.1) }))
      (λ (z : is_hole x ≡ false). let q = no_by (is_hole x) (AtHole [] ts r) (AtOne x [] ts r) z h in
      then_holds (as_prop props x (to_item b k x)) _ (IsRefined P x ts q.0) _ (refined x ts q.0 q.1) (λ p i. record { so = item_items p none x ts q.0 r i (⊎_elim (λ o. inl (i.1 (subst (λ y. (y && is_rest_item x) ≡ false) o.2.0 e), o.0, o.1, same_code close o.0 r o.2.1)) (λ o. inr (tt, o.2)) q.2) }))
      (cases_Bool (is_hole x))
  items_refine a (x ∷ (y ∷ ys)) ts r h e = if_holds (is_rest_item x) _ _ (Refined ts r) (λ _. record { so = tt }) (λ w. ⊎_elim
      (λ (z : is_hole x ≡ true). let q = yes_by (is_hole x) (AtHole (y ∷ ys) ts r) (AtOne x (y ∷ ys) ts r) z h in
      as_hole x z q.0 (λ p. to_items props b k (pack (y ∷ ys)) >>= λ ps. Ok (more p ps)) (Refined ts r)
      (then_holds (to_items props b k (pack (y ∷ ys))) _ (Refined q.1 r) _ (items_refine false (y ∷ ys) q.1 r q.3 e) (λ ps i. record { so = hole_items ps ts q.1 r q.0 q.2 i })))
      (λ (z : is_hole x ≡ false). let q = no_by (is_hole x) (AtHole (y ∷ ys) ts r) (AtOne x (y ∷ ys) ts r) z h in
      then_holds (as_prop props x (to_item b k x)) _ (IsRefined P x ts q.0) _ (refined x ts q.0 q.1) (λ p i.
      ⊎_elim (λ o. then_holds (to_items props b k (pack (y ∷ ys))) _ (Refined o.0 r) _ (items_refine true (y ∷ ys) o.0 r o.2 e) (λ ps j. record { so = item_items p ps x ts q.0 r i (inl (i.1 w, o.0, o.1, j)) }))
      (λ o. absurd o.0) q.2))
      (cases_Bool (is_hole x)))

-- ---- an element and a property, with what they may be refined to

never_place : (b : Bool) → (not b && false) ≡ false
never_place true = refl
never_place false = refl

target_item : (b : Bool) (p : Tree) → is_target_item b p ≡ true → (is_item_pat b p ≡ true) × (is_rest p ≡ false) × (is_hole p ≡ false)
target_item b (assign_pat s p e) h = (h, refl, refl)
target_item b (binding_ident s i) h = (h, refl, refl)
target_item b (array_pat s xs) h = (h, refl, refl)
target_item b (object_pat s ps) h = (h, refl, refl)
target_item b (expr_pat e) h = (h, refl, refl)
target_item b _ h = absurd (true≢false (sym h ∙ never_place b))

pub record Element (k : List ℕ) (c : Code) (x : Tree) (ts r : Input) : Type 0 where
  pub sort : is_element x ≡ true
  pub produced : Produces x (plain c) ts r
  pub refines : (b : Bool) → Holds (as_prop false x (to_item b k x)) (IsRefined (Item (patterned b c)) x ts r)

pub record Prop (k : List ℕ) (c : Code) (x : Tree) (ts r : Input) : Type 0 where
  pub sort : is_prop x ≡ true
  pub produced : Produces x (plain c) ts r
  pub refines : (b : Bool) → Holds (as_prop true x (to_item b k x)) (IsRefined (Property (patterned b c)) x ts r)

pub holds_map : {A : Type 0} (r : Result A Fault) (P Q : A → Type 0) → ((x : A) → P x → Q x) → Holds r P → Holds r Q
holds_map (Ok x) P Q f h = record { so = f x h.so }
holds_map (Err e) P Q f h = record { so = tt }

as_item : (b : Bool) (c : Code) (x p : Tree) (ts r : Input) → IsItem b (with_in c) ts r p → IsRefined (Item (patterned b c)) x ts r p
as_item b c x p ts r h = let t = target_item b p h.0 in ((t.0, h.1), λ _. t.1, t.2)

-- what follows the dots of a rest
rest_holds : (b : Bool) (c : Code) (s : Span) (p : Tree) (ts m r : Input) → Takes (patterned b (with_in c)) dot_dot_dot_kind ts m → IsItem b (with_in c) m r p → Spans s ts r
    → Holds (rest_of s p) (λ q. (is_item_pat b q ≡ true) × Produces q (patterned b (with_in c)) ts r × (is_hole q ≡ false) × (is_pattern_prop q ≡ true) × (takes_rest q ≡ not (is_structured p)))
rest_holds b c s (assign_pat t p e) ts m r t0 h e0 = record { so = tt }
rest_holds b c s _ ts m r t0 h e0 = record { so = (h.0, (m, t0, ap (λ (z : Span). dots_at z.lo.0) e0, h.0, h.1, e0), refl, refl, refl) }

pub element_none : (k : List ℕ) (c : Code) (s : Span) (e : Tree) (ts r : Input) → 2 ≤ level e → Produces e (plain (with_in c)) ts r → Refines k (with_in c) e ts r → Spans s ts r → Element k c (expr_or_spread s None e) ts r
element_none k c s e ts r l h f e0 = record {
  sort = refl;
  produced = ((l, h), e0);
  refines = λ b. holds_map (to_item b k e) (IsItem b (with_in c) ts r) _ (λ p q. as_item b c (expr_or_spread s None e) p ts r q) (f.so b (fine_in e c));
}

pub element_some : (k : List ℕ) (c : Code) (s d : Span) (e : Tree) (ts m r : Input) → Takes (plain c) dot_dot_dot_kind ts m → d ≡ first_span ts → 2 ≤ level e → Produces e (plain (with_in c)) m r → Refines k (with_in c) e m r → Spans s ts r → Element k c (expr_or_spread s (Some d) e) ts r
element_some k c s d e ts m r t0 d0 l h f e0 = record {
  sort = refl;
  produced = (m, t0, d0, (l, h), e0);
  refines = λ b. then_holds (to_item b k e) (rest_of s) (IsItem b (with_in c) m r) _ (f.so b (fine_in e c)) (λ p q.
      holds_map (rest_of s p) _ _ (λ z y. ((y.0, y.1), λ w. absurd (true≢false w), y.2)) (rest_holds b c s p ts m r t0 q e0));
}

-- ---- properties

pub key_in : (k : Tree) (c : Code) (ts r : Input) → is_key k ≡ true → Produces k (plain c) ts r → Produces k (plain (with_in c)) ts r
key_in (ident_name s n) c ts r e h = h
key_in (str_lit s u w) c ts r e h = h
key_in (number_lit s v w) c ts r e h = h
key_in (big_int_lit s b d w) c ts r e h = h
key_in (computed_prop_name s x) c ts r e h = h
key_in _ c ts r e h = absurd (true≢false (sym e))

pub not_absent : (e : Tree) → 2 ≤ level e → is_absent e ≡ false
not_absent absent l = absurd (omega (arith, l))
not_absent _ l = refl

pub prop_value : (k : List ℕ) (c : Code) (s : Span) (key v : Tree) (ts m n r : Input) → is_key key ≡ true → Produces key (plain c) ts m → Takes (plain c) colon_kind m n → 2 ≤ level v → Produces v (plain (with_in c)) n r → Refines k (with_in c) v n r → Spans s ts r
    → Prop k c (key_value_prop s key v) ts r
prop_value k c s key v ts m n r ke kh t0 l h f e0 = record {
  sort = refl;
  produced = (m, n, (ke, kh), t0, (l, h), e0);
  refines = λ b. then_holds (to_item b k v) (λ p. Ok (key_value_pat_prop s key p)) (IsItem b (with_in c) n r) _ (f.so b (fine_in v c)) (λ p q.
      record { so = ((refl, refl, (m, n, (ke, key_in key c ts m ke kh), t0, ((target_item b p q.0).0, q.1), (target_item b p q.0).1, e0)), λ _. refl, refl) });
}

pub prop_spread : (k : List ℕ) (c : Code) (s : Span) (e : Tree) (ts m r : Input) → Takes (plain c) dot_dot_dot_kind ts m → 2 ≤ level e → Produces e (plain (with_in c)) m r → Refines k (with_in c) e m r → Spans s ts r → Prop k c (spread_element s e) ts r
prop_spread k c s e ts m r t0 l h f e0 = record {
  sort = refl;
  produced = (m, t0, (l, h), e0);
  refines = λ b. then_holds (to_item b k e) (λ p. cond (is_structured p) unfit (rest_of s p)) (IsItem b (with_in c) m r) _ (f.so b (fine_in e c)) (λ p q.
      if_holds (is_structured p) _ _ _ (λ _. record { so = tt }) (λ w. holds_map (rest_of s p) _ _ (λ z y. ((y.3, y.4 ∙ ap not w, y.1), λ u. absurd (true≢false u), y.2)) (rest_holds b c s p ts m r t0 q e0)));
}

pub prop_cover : (k : List ℕ) (c : Code) (s t : Span) (name : List ℕ) (e : Tree) (ts m n r : Input) → Produces (ident t name) (plain c) ts m → Takes (plain c) assign_kind m n → 2 ≤ level e → Produces e (plain (with_in c)) n r → Spans s ts r → Prop k c (assign_prop s (ident t name) e) ts r
prop_cover k c s t name e ts m n r h0 t0 l h e0 = record {
  sort = refl;
  produced = (m, n, (refl, h0), t0, (l, h), e0);
  refines = λ b. record { so = ((refl, refl, (m, (refl, (refl, h0)), by_no (is_absent e) (m ≡ r) ((n : Input) × Takes (patterned b (with_in c)) assign_kind m n × Expr assignment_level (patterned b (with_in c)) (child e (λ y. Produces e y)) n r) (not_absent e l) (n, t0, (l, h)), e0)), λ _. refl, refl) };
}

pub prop_name : (k : List ℕ) (c : Code) (s : Span) (name : List ℕ) (ts r : Input) → Produces (ident s name) (plain c) ts r → Prop k c (ident s name) ts r
prop_name k c s name ts r h = record {
  sort = refl;
  produced = h;
  refines = λ b. record { so = ((refl, refl, (r, (refl, (refl, h)), refl, h.1)), λ _. refl, refl) };
}
