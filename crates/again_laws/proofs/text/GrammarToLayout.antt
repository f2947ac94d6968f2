-- From what the grammar says of a node to what its layout asks of its parts.
use Rattle.std.proofs.Common.{◌≡◌, ℕ, ◌≤◌, ⊎_elim, Bool, true, false, ◌&&◌, ◌||◌, not, List, Option, refl, sym, ap, ◌∙◌, arith}
use Rattle.std.specs.Prelude.{nat_le, if◌then◌else◌}
use Rattle.std.proofs.lemmas.Bool.{false≢true, true≢false}
use Rattle.base_token.specs.declared.place.Span.{Span}
use Rattle.tree_spec.specs.Tree.{Tree, Trees, none, more, tpl_element, script, es_module, catch_clause, var_declarator, absent, hole, ident}
use Rattle.grammar_spec.specs.Tokens.Input.{Input, Code, turned_strict}
use Rattle.grammar_spec.specs.Tokens.Operators.{assignment_level}
use Rattle.grammar_spec.specs.Tokens.Shape.{level, is_absent, is_hole, is_declarator, is_use_strict, is_directive}
use Rattle.print_gaps.specs.Edges.{is_there}
use Rattle.grammar_spec.specs.Grammar.{Produces, children}
use Rattle.print_layout_spec.specs.declared.look.Look.{Look}
use Rattle.grammar_spec.specs.Children.{is_ident, Child, child, By, IsEmpty, Sorted, Listed, CommaThen, Commas, Items}
use Rattle.print_layout_spec.specs.Layout.{starts_bracketed}
use Rattle.again_laws.specs.Tiling.Categories.{Worded, Operated}
use Rattle.again_laws.proofs.text.Admits.{admits, at_most, is_ended, is_nothing}
use Rattle.again_laws.proofs.text.Forms.{AllSound, not_absent, by_second}
use Rattle.again_laws.proofs.text.VariablesAndMethods.{AllDeclared}

pub by_there : (e : Tree) (A B : Type 0) → By (is_absent e) A B → is_there e ≡ true → B
by_there e A B h t = by_second (is_absent e) A B h (not_absent e t)

pub either_by : {X : Type 0} (b : Bool) (A B : Type 0) → By b A B → (A → X) → (B → X) → X
either_by true A B h f g = f h
either_by false A B h f g = g h

pub assigned : (e : Tree) → assignment_level ≤ level e → 1 ≤ level e
assigned e h = omega (arith, h)

pub there_of : (e : Tree) → 1 ≤ level e → is_there e ≡ true
there_of absent h = absurd (omega (arith, h))
there_of _ h = refl

pub ident_operated : (k : Tree) → is_ident k ≡ true → admits Operated k ≡ true
ident_operated (ident s n) e = refl
ident_operated _ e = absurd (false≢true e)

pub declarator_plain : (t : Tree) → is_declarator t ≡ true → (is_ended t || is_nothing t) ≡ false
declarator_plain (var_declarator s n e) i = refl
declarator_plain _ i = absurd (false≢true i)

pub bracketed_worded : (t : Tree) (ts : Trees) → starts_bracketed (more t ts) ≡ true → admits Worded t ≡ true
bracketed_worded (var_declarator s n e) ts h = ap (λ b. not false && not (not b)) h
bracketed_worded _ ts h = absurd (false≢true h)

-- ---- no piece of a template, no handler and no program stands among other nodes

abbrev pub is_odd : Tree → Bool
is_odd (tpl_element s t w u) = true
is_odd (script s b l) = true
is_odd (es_module s b l) = true
is_odd (catch_clause s p b) = true
is_odd _ = false

pub whole_test : (p : Tree → Bool) → ((s : Span) (t : Bool) (w : List ℕ) (u : Option (List ℕ)) → p (tpl_element s t w u) ≡ false) → ((s : Span) (b : Trees) (l : Option (List ℕ)) → p (script s b l) ≡ false) → ((s : Span) (b : Trees) (l : Option (List ℕ)) → p (es_module s b l) ≡ false) → ((s : Span) (x b : Tree) → p (catch_clause s x b) ≡ false) → (t : Tree) → p t ≡ true → is_odd t ≡ false
whole_test p n k o q (tpl_element s t w u) e = absurd (true≢false (sym e ∙ n s t w u))
whole_test p n k o q (script s b l) e = absurd (true≢false (sym e ∙ k s b l))
whole_test p n k o q (es_module s b l) e = absurd (true≢false (sym e ∙ o s b l))
whole_test p n k o q (catch_clause s x b) e = absurd (true≢false (sym e ∙ q s x b))
whole_test p n k o q _ e = refl

pub whole_level : (t : Tree) → 1 ≤ level t → is_odd t ≡ false
whole_level (tpl_element s t w u) h = absurd (omega (arith, h))
whole_level (script s b l) h = absurd (omega (arith, h))
whole_level (es_module s b l) h = absurd (omega (arith, h))
whole_level (catch_clause s p b) h = absurd (omega (arith, h))
whole_level _ h = refl

pub whole_up : (k : ℕ) → nat_le 1 k ≡ true → (t : Tree) → k ≤ level t → is_odd t ≡ false
whole_up k o t h = whole_level t (omega (arith, at_most 1 k o, h))

pub whole_assigned : (t : Tree) → assignment_level ≤ level t → is_odd t ≡ false
whole_assigned t h = whole_level t (assigned t h)

whole_hole : (t : Tree) → is_hole t ≡ true → is_odd t ≡ false
whole_hole hole e = refl
whole_hole _ e = absurd (false≢true e)

pub whole_absent : (t : Tree) → is_absent t ≡ true → is_odd t ≡ false
whole_absent absent e = refl
whole_absent _ e = absurd (false≢true e)

-- of a part that may be left out
pub whole_by : (t : Tree) (A B : Type 0) → By (is_absent t) A B → (B → is_odd t ≡ false) → is_odd t ≡ false
whole_by t A B h f = choose (is_absent t) refl h
  where
    choose : (b : Bool) → is_absent t ≡ b → By b A B → is_odd t ≡ false
    choose true e k = whole_absent t e
    choose false e k = f k

abbrev pub Wholes : Trees → Type 0
Wholes none = Unit {0}
Wholes (more t ts) = (is_odd t ≡ false) × Wholes ts

pub none_whole : (ts : Trees) → IsEmpty (children ts) → Wholes ts
none_whole none h = tt
none_whole (more t ts) h = absurd h

module _ (P : Child → Input → Input → Type 0) (f : (t : Tree) (ts r : Input) → P (child t (λ y. Produces t y)) ts r → is_odd t ≡ false) where
  pub wholes : (holes : Bool) (c : Code) (close : ℕ) (xs : Trees) (ts r : Input) → Listed holes P c close (children xs) ts r → Wholes xs
  wholes holes c close none ts r h = tt
  wholes holes c close (more t xs) ts r h = choose (holes && is_hole t) refl h
      (λ e k. (whole_hole t (both holes (is_hole t) e), wholes holes c close xs k.0 r k.2))
      (λ k. (f t ts k.0 k.1, ⊎_elim (λ z. wholes holes c close xs z.1 r z.3) (λ z. none_whole xs z.0) k.2))
    where
      both : (a b : Bool) → (a && b) ≡ true → b ≡ true
      both true b e = e
      both false b e = absurd (false≢true e)

      choose : {A B X : Type 0} (b : Bool) → (holes && is_hole t) ≡ b → By b A B → ((holes && is_hole t) ≡ true → A → X) → (B → X) → X
      choose true e k g j = g e k
      choose false e k g j = j k

  pub wholes_then : (c : Code) (xs : Trees) (ts r : Input) → CommaThen P c (children xs) ts r → Wholes xs
  wholes_then c none ts r h = tt
  wholes_then c (more t xs) ts r h = (f t h.0 h.1 h.3, wholes_then c xs h.1 r h.4)

  pub wholes_commas : (c : Code) (xs : Trees) (ts r : Input) → Commas P c (children xs) ts r → Wholes xs
  wholes_commas c none ts r h = absurd h
  wholes_commas c (more t xs) ts r h = (f t ts h.0 h.1, wholes_then c xs h.0 r h.2)

pub wholes_sorted : (p : Tree → Bool) → ((s : Span) (t : Bool) (w : List ℕ) (u : Option (List ℕ)) → p (tpl_element s t w u) ≡ false) → ((s : Span) (b : Trees) (l : Option (List ℕ)) → p (script s b l) ≡ false) → ((s : Span) (b : Trees) (l : Option (List ℕ)) → p (es_module s b l) ≡ false) → ((s : Span) (x b : Tree) → p (catch_clause s x b) ≡ false) → (holes : Bool) (c : Code) (close : ℕ) (xs : Trees) (ts r : Input) → Listed holes (Sorted p c) c close (children xs) ts r → Wholes xs
wholes_sorted p n k o q holes c close xs ts r h = wholes (Sorted p c) (λ t m u z. whole_test p n k o q t z.0) holes c close xs ts r h

pub whole_items : (may : Tree → Bool) → ((s : Span) (t : Bool) (w : List ℕ) (u : Option (List ℕ)) → may (tpl_element s t w u) ≡ false) → ((s : Span) (b : Trees) (l : Option (List ℕ)) → may (script s b l) ≡ false) → ((s : Span) (b : Trees) (l : Option (List ℕ)) → may (es_module s b l) ≡ false) → ((s : Span) (x b : Tree) → may (catch_clause s x b) ≡ false) → (close : Code → Input → Input → Type 0) (c : Code) (starts : Bool) (ss : Trees) (ts r : Input) → Items may close c starts (children ss) ts r → Wholes ss
whole_items may n k o q close c starts none ts r h = tt
whole_items may n k o q close c starts (more s ss) ts r h = (whole_test may n k o q s h.1, whole_items may n k o q close (if starts && is_use_strict s then turned_strict c else c) (starts && is_directive s) ss h.0 r h.3)

module _ (look : Look) where
  pub after_declared : (c : Code) (xs : Trees) → AllSound look xs → (ts r : Input) → CommaThen (Sorted is_declarator c) c (children xs) ts r → AllDeclared look xs
  unfolding AllDeclared
  after_declared c none a ts r h = tt
  after_declared c (more t xs) a ts r h = (a.0 _ _ _ h.3.1, (declarator_plain t h.3.0, after_declared c xs a.1 _ _ h.4))

  pub all_declared : (c : Code) (t : Tree) (xs : Trees) → AllSound look (more t xs) → (ts r : Input) → Commas (Sorted is_declarator c) c (children (more t xs)) ts r → AllDeclared look (more t xs)
  unfolding AllDeclared
  all_declared c t xs a ts r h = (a.0 _ _ _ h.1.1, (declarator_plain t h.1.0, after_declared c xs a.1 _ _ h.2))
