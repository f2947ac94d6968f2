-- What the reader of parentheses answers where an expression stands in them.
use Rattle.std.proofs.Common.{◌≡◌, ℕ, ◌<◌, ◌≤◌, max, Bool, true, false, List, [], ◌∷◌, ◌++◌, Option, Some, None, Ok, refl, sym, ap, ◌∙◌, subst, append_assoc, arith}
use Rattle.base_token.specs.declared.place.Span.{Span}
use Rattle.base_token.specs.Kinds.{comma_kind, right_paren_kind, left_paren_kind}
use Rattle.tree_spec.specs.Tree.{Tree, Trees, none, more, unpack, expr_or_spread, paren_expr}
use Rattle.tree_spec.specs.Places.{place_of}
use Rattle.grammar_spec.specs.Tokens.Input.{Input, Code, kind, lo, rest, span, with_in}
use Rattle.grammar_spec.specs.Children.{child, CommaThen, Expr}
use Rattle.grammar_spec.specs.Grammar.{Produces, children}
use Rattle.grammar_spec.specs.Reader.Source.{State, Inner}
use Rattle.grammar_spec.specs.Reader.Expressions.{Elements, no_elements, element_step, elements_by, plain_element, plain_elements, last_end, joined, prefix_by, group_by, group_end, heads_params}
use Rattle.grammar_spec.specs.Reader.Reading.{readers}
use Rattle.grammar_laws.proofs.complete_base.Yields.{lm, from, coded, Is, Loops, loop_on, loop_end, looped, Reads, reads_told, ended, if_no, then_past_reads}
use Rattle.grammar_laws.proofs.complete_rules.Lengths.{taken}
use Rattle.grammar_laws.proofs.complete_base.Trees.{Covered, CoveredAll, size, sizes, reach, reaches, takes}
use Rattle.grammar_laws.proofs.complete_rules.Lists.{Finds, step_comma, step_close}

-- elements that are these expressions, no comma after them, up to a place and with these tokens as the rest
pub record Grouped (es : List Tree) (u : ℕ) (r : Input) (x : Elements × State Input) : Type 0 where
  pub comma : x.0.comma ≡ false
  pub items : plain_elements x.0.items ≡ Some es
  pub last : last_end x.0.items ≡ u
  pub source : x.1.source ≡ r

abbrev joins : Option Tree → Option (List Tree) → Option (List Tree)
joins None q = None
joins (Some e) None = None
joins (Some e) (Some es) = Some (e ∷ es)

abbrev snoc : Tree → Option (List Tree) → Option (List Tree)
snoc x None = None
snoc x (Some es) = Some (es ++ x ∷ [])

abbrev IsSome : Option (List Tree) → Type 0
IsSome None = ⊥
IsSome (Some es) = Unit {0}

joins_after : (x : Tree) (o : Option Tree) (q w : Option (List Tree)) (ds : List Tree) → ((es : List Tree) → q ≡ Some es → w ≡ Some (es ++ x ∷ [])) → joins o q ≡ Some ds → joins o w ≡ Some (ds ++ x ∷ [])
joins_after x None q w ds g h = absurd (subst IsSome (sym h) tt)
joins_after x (Some e) None w ds g h = absurd (subst IsSome (sym h) tt)
joins_after x (Some e) (Some es) w ds g h = ap (joins (Some e)) (g es refl) ∙ ap (snoc x) h

plain_is : (a : Tree) (acc : List Tree) → plain_elements (a ∷ acc) ≡ joins (plain_element a) (plain_elements acc)
plain_is a acc = by_parts (plain_element a) (plain_elements acc)
  where
    by_parts : (o : Option Tree) (q : Option (List Tree)) → elim o [ None ↦ None | Some e ↦ elim q [ None ↦ None | Some es ↦ Some (e ∷ es) ] ] ≡ joins o q
    by_parts None q = refl
    by_parts (Some e) None = refl
    by_parts (Some e) (Some es) = refl

plain_after : (acc ds : List Tree) (s : Span) (x : Tree) → plain_elements acc ≡ Some ds → plain_elements (acc ++ expr_or_spread s None x ∷ []) ≡ Some (ds ++ x ∷ [])
plain_after [] ds s x h = ap (snoc x) h
plain_after (a ∷ acc) ds s x h = plain_is a (acc ++ expr_or_spread s None x ∷ []) ∙ joins_after x (plain_element a) (plain_elements acc) (plain_elements (acc ++ expr_or_spread s None x ∷ [])) ds (λ es q. plain_after acc es s x q) (sym (plain_is a acc) ∙ h)

last_after : (acc : List Tree) (x : Tree) → last_end (acc ++ x ∷ []) ≡ (place_of x).hi.0
last_after [] x = refl
last_after (a ∷ []) x = refl
last_after (a ∷ (b ∷ acc)) x = last_after (b ∷ acc) x

module _ (z d : ℕ) (f : Finds z d) (p : Bool) (c : Code) where
  abbrev wrapped : Input → Input → Tree → Tree
  wrapped ts m x = expr_or_spread (span (lo ts) m.last) None x

  group_loop : (x : Tree) (xs : Trees) (acc ds : List Tree) (b : Bool) (ts m u r : Input) (k : List ℕ) (n : ℕ) → plain_elements acc ≡ Some ds → size x < z → sizes xs < z → Covered x → CoveredAll xs → Expr 2 (coded p (with_in c)) (child x (λ y. Produces x y)) ts m
      → CommaThen (Expr 2 (coded p (with_in c))) (coded p (with_in c)) (children xs) m u → kind u ≡ right_paren_kind → rest u ≡ r → max (reach x) (reaches xs) ≤ n
      → Loops (element_step lm (readers lm d) (with_in c) false right_paren_kind) (record { items = acc; comma = b }) ts k (Grouped (ds ++ (x ∷ unpack xs)) u.last r) (d < n)
  group_loop x none acc ds b ts m u r k n pl sz szs g gs h w e t le =
      loop_end _ _ (record { items = acc ++ wrapped ts m x ∷ []; comma = false }) ts r k (d < reach x) _ _
      (step_close z d f p (with_in c) false right_paren_kind refl refl refl (wrapped ts m x) acc b ts m r k sz g refl (h, refl) (ap (λ (v : Input). kind v) w ∙ e) (ap (λ (v : Input). rest v) w ∙ t)) (λ v. omega arith)
      (λ l. record { comma = refl; items = plain_after acc ds (span (lo ts) m.last) x pl; last = last_after acc (wrapped ts m x) ∙ ap (λ (v : Input). v.last) w; source = refl })
  group_loop x (more y ys) acc ds b ts m u r k n pl sz szs g gs h w e t le =
      loop_on _ _ (record { items = acc ++ wrapped ts m x ∷ []; comma = true }) ts w.0 k (d < reach x) _ _
      (step_comma z d f p (with_in c) false right_paren_kind refl refl refl (wrapped ts m x) acc b ts m w.0 k sz g refl (h, refl) w.2.0 w.2.2) (λ v. omega arith)
      (omega (arith, taken x _ ts m (omega (arith, h.0)) h.1, takes comma_kind m w.0 w.2.0 (omega arith) w.2.2))
      (λ l. subst (λ es. Loops (element_step lm (readers lm d) (with_in c) false right_paren_kind) (record { items = acc ++ wrapped ts m x ∷ []; comma = true }) w.0 l (Grouped es u.last r) (d < n)) (append_assoc ds (x ∷ []) (y ∷ unpack ys))
      (group_loop y ys (acc ++ wrapped ts m x ∷ []) (ds ++ x ∷ []) true w.0 w.1 u r l n (plain_after acc ds (span (lo ts) m.last) x pl) (omega arith) (omega arith) gs.0 gs.1 w.3 w.4 e t (omega arith)))

-- the expression that these make
abbrev pub Joins : List Tree → Span → Tree → Type 0
Joins es s e = joined es s ≡ e

pub paren_found : (inner : Inner Input) (c : Code) (lev : ℕ) (ts : Input) (k : List ℕ) (s : Span) (e x : Tree) (es : List Tree) (u : ℕ) (m r : Input) (P Q : Type 0) → kind ts ≡ left_paren_kind → rest ts ≡ m → ((j : List ℕ) → Reads (from m j) (elements_by lm inner (with_in c) false right_paren_kind (from m j)) (Grouped (x ∷ es) u r) P) → (P → Q)
    → ((z : Elements × State Input) → elements_by lm inner (with_in c) false right_paren_kind (from m k) ≡ Ok z → z.1.source ≡ r → heads_params lm inner lev z.0 z.1 ≡ false) → joined (x ∷ es) (span (lo m) u) ≡ e → s ≡ span (lo ts) r.last → Reads (from ts k) (prefix_by lm inner c lev (from ts k)) (Is (paren_expr s e) r) Q
unfolding prefix_by group_by group_end
paren_found inner c lev ts k s e x es u m r P Q o q y i a v p = rw o (then_past_reads ts m k (elements_by lm inner (with_in c) false right_paren_kind) _ (λ z. Grouped (x ∷ es) u r z × (elements_by lm inner (with_in c) false right_paren_kind (from m k) ≡ Ok z)) P _ Q q (reads_told _ (y k)) i
    (λ z h. if_no (heads_params lm inner lev z.0 z.1) _ _ _ _ (a z h.1 h.0.source) (if_no z.0.comma _ _ _ _ h.0.comma
    (rw h.0.items (ended _ _ Q (
      ap (λ (w : ℕ). paren_expr (span (lo ts) z.1.source.last) (joined (x ∷ es) (span (lo (rest ts)) w))) h.0.last ∙ ap (λ (w : Input). paren_expr (span (lo ts) z.1.source.last) (joined (x ∷ es) (span (lo w) u))) q
          ∙ ap (λ w. paren_expr (span (lo ts) z.1.source.last) w) v ∙ ap (λ (w : Input). paren_expr (span (lo ts) w.last) e) h.0.source ∙ ap (λ w. paren_expr w e) (sym p),
      h.0.source,
    ))))))

pub group_found : (z d : ℕ) (f : Finds z d) (p : Bool) (c : Code) (x : Tree) (xs : Trees) (ts m u r : Input) (k : List ℕ) (n : ℕ) → size x < z → sizes xs < z → Covered x → CoveredAll xs → Expr 2 (coded p (with_in c)) (child x (λ y. Produces x y)) ts m
    → CommaThen (Expr 2 (coded p (with_in c))) (coded p (with_in c)) (children xs) m u → kind u ≡ right_paren_kind → rest u ≡ r → max (reach x) (reaches xs) ≤ n
    → Reads (from ts k) (elements_by lm (readers lm d) (with_in c) false right_paren_kind (from ts k)) (Grouped (x ∷ unpack xs) u.last r) (d < n)
unfolding elements_by
group_found z d f p c x xs ts m u r k n sz szs g gs h w e t le = looped _ no_elements ts k _ _ (group_loop z d f p c x xs [] [] false ts m u r k n refl sz szs g gs h w e t le)
