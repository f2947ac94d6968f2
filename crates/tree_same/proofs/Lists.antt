-- Lists say the same where their elements do, one by one.
use Rattle.std.proofs.Common.{◌≡◌, ◌∙◌, ◌==◌, ℕ, Bool, true, false, ◌&&◌, List, [], ◌∷◌, Option, bytes_eq, length, refl, sym, ap}
use Rattle.std.proofs.Math.Dec.{eqb-suc-zero}
use Rattle.std.proofs.Math.Bool.{beq, and-false}
use Rattle.base_token.specs.declared.place.Span.{Span}
use Rattle.tree_spec.specs.Tree.{Tree, Trees, none, more, list, absent, tpl_element, trees_by}
use Rattle.tree_program_spec.specs.Program.{line_ends}
use Rattle.tree_nodes.specs.View.{view_tpl_element}
use Rattle.tree_nodes.specs.declared.expressions.TplElement.{TplElement}
use Rattle.tree_program_spec.specs.Same.{same}
use Rattle.tree_same.proofs.Steps.{IsListTest}
use Rattle.tree_same.specs.Compared.{same_arguments, same_spellings}

pub no_items : same (list none) (list none) ≡ true
unfolding same
no_items = refl

pub fewer_items : (t : Tree) (ts : Trees) → same (list none) (list (more t ts)) ≡ false
unfolding same
fewer_items t ts = refl

pub further_items : (t : Tree) (ts : Trees) → same (list (more t ts)) (list none) ≡ false
unfolding same
further_items t ts = refl

pub items : (t u : Tree) (ts us : Trees) → same (list (more t ts)) (list (more u us)) ≡ (same t u && same (list ts) (list us))
unfolding same
items t u ts us = refl

pub items_test : {A : Type 0} (f : A → Tree) → IsListTest (λ x y. same (f x) (f y)) (λ xs ys. same (list (trees_by f xs)) (list (trees_by f ys)))
items_test f = record {
  empty = no_items;
  fewer = λ y ys. fewer_items (f y) (trees_by f ys);
  further = λ x xs. further_items (f x) (trees_by f xs);
  both = λ x y xs ys. items (f x) (f y) (trees_by f xs) (trees_by f ys);
}

pub no_arguments : same_arguments absent absent ≡ true
unfolding same_arguments
no_arguments = refl

pub both_arguments : (ts us : Trees) → same_arguments (list ts) (list us) ≡ same (list ts) (list us)
unfolding same same_arguments
both_arguments ts us = refl

pub first_arguments : {A : Type 0} (f : A → Tree) (xs : List A) → same_arguments (list (trees_by f xs)) absent ≡ (length xs == 0)
unfolding same_arguments
first_arguments f [] = refl
first_arguments f (x ∷ xs) = sym (eqb-suc-zero (length xs))

pub last_arguments : {A : Type 0} (f : A → Tree) (xs : List A) → same_arguments absent (list (trees_by f xs)) ≡ (length xs == 0)
unfolding same_arguments
last_arguments f [] = refl
last_arguments f (x ∷ xs) = sym (eqb-suc-zero (length xs))

pub ruleset arguments_cases = (no_arguments, both_arguments, first_arguments, last_arguments)

pub no_texts : same_spellings none none ≡ true
unfolding same_spellings
no_texts = refl

pub fewer_texts : (s : Span) (tail : Bool) (raw : List ℕ) (cooked : Option (List ℕ)) (ts : Trees) → same_spellings none (more (tpl_element s tail raw cooked) ts) ≡ false
unfolding same_spellings
fewer_texts s tail raw cooked ts = refl

pub further_texts : (s : Span) (tail : Bool) (raw : List ℕ) (cooked : Option (List ℕ)) (ts : Trees) → same_spellings (more (tpl_element s tail raw cooked) ts) none ≡ false
unfolding same_spellings
further_texts s tail raw cooked ts = refl

and_both : (x y z : Bool) → ((x && (y && true)) && z) ≡ ((x && y) && z)
and_both true true z = refl
and_both true false z = refl
and_both false y z = refl

pub texts : (s s2 : Span) (tail tail2 : Bool) (raw raw2 : List ℕ) (cooked cooked2 : Option (List ℕ)) (ts us : Trees) → same_spellings (more (tpl_element s tail raw cooked) ts) (more (tpl_element s2 tail2 raw2 cooked2) us) ≡ ((beq tail tail2 && bytes_eq (line_ends raw) (line_ends raw2)) && same_spellings ts us)
unfolding same_spellings
texts s s2 tail tail2 raw raw2 cooked cooked2 ts us = and_both (beq tail tail2) (bytes_eq (line_ends raw) (line_ends raw2)) (same_spellings ts us)

-- whether two texts of templates are spelled alike
abbrev pub same_spelling : TplElement → TplElement → Bool
same_spelling x y = beq x.tail y.tail && bytes_eq (line_ends x.raw) (line_ends y.raw)

pub texts_test : IsListTest same_spelling (λ xs ys. same_spellings (trees_by view_tpl_element xs) (trees_by view_tpl_element ys))
texts_test = record {
  empty = no_texts;
  fewer = λ y ys. fewer_texts y.span y.tail y.raw y.cooked (trees_by view_tpl_element ys);
  further = λ x xs. further_texts x.span x.tail x.raw x.cooked (trees_by view_tpl_element xs);
  both = λ x y xs ys. texts x.span y.span x.tail y.tail x.raw y.raw x.cooked y.cooked (trees_by view_tpl_element xs) (trees_by view_tpl_element ys);
}

-- two texts whose flags or spellings differ
pub flags_differ : (x y : TplElement) → beq x.tail y.tail ≡ false → same_spelling x y ≡ false
flags_differ x y h = ap (λ b. b && bytes_eq (line_ends x.raw) (line_ends y.raw)) h

pub spellings_differ : (x y : TplElement) → bytes_eq (line_ends x.raw) (line_ends y.raw) ≡ false → same_spelling x y ≡ false
spellings_differ x y h = ap (λ b. beq x.tail y.tail && b) h ∙ and-false (beq x.tail y.tail)

pub texts_agree : (x y : TplElement) → beq x.tail y.tail ≡ true → bytes_eq (line_ends x.raw) (line_ends y.raw) ≡ true → same_spelling x y ≡ true
texts_agree x y h k = ap (λ b. b && bytes_eq (line_ends x.raw) (line_ends y.raw)) h ∙ k
