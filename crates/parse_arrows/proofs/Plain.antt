-- Elements without dots, from left to right.
use Rattle.std.proofs.Common.{◌≡◌, ℕ, ◌<◌, List, [], ◌∷◌, ◌++◌, map, length, Option, None, Some, Ok, refl, arith, ap, sym, ◌∙◌, append_assoc}
use Rattle.std.proofs.lemmas.List.{append-nil}
use Rattle.base_token.specs.declared.place.Span.{Span}
use Rattle.tree_spec.specs.Tree.{Tree, pack, trees_by, more, seq_expr}
use Rattle.tree_spec.specs.Places.{place_of}
use Rattle.grammar_spec.specs.Reader.Source.{unfit, ◌>>=◌}
use Rattle.grammar_spec.specs.Reader.Expressions.{joined, last_end, plain_element, plain_elements}
use Rattle.parse_arrows.specs.Groups.{found, group_tree, grouped, joined_or_none, plain_from, plain_list}

-- those of a list, and one more
abbrev with_last : Option (List Tree) → Option Tree → Option (List Tree)
with_last None y = None
with_last (Some es) None = None
with_last (Some es) (Some e) = Some (es ++ e ∷ [])

abbrev with_first : Option Tree → Option (List Tree) → Option (List Tree)
with_first None es = None
with_first (Some e) None = None
with_first (Some e) (Some es) = Some (e ∷ es)

plain_first : (x : Tree) (xs : List Tree) → plain_elements (x ∷ xs) ≡ with_first (plain_element x) (plain_elements xs)
plain_first x xs = go (plain_element x) (plain_elements xs)
  where
    go : (e : Option Tree) (es : Option (List Tree)) → elim e [ None ↦ None | Some e ↦ elim es [ None ↦ None | Some es ↦ Some (e ∷ es) ] ] ≡ with_first e es
    go None es = refl
    go (Some e) None = refl
    go (Some e) (Some es) = refl

swapped : (e : Option Tree) (es : Option (List Tree)) (y : Option Tree) → with_first e (with_last es y) ≡ with_last (with_first e es) y
swapped None es y = refl
swapped (Some e) None y = refl
swapped (Some e) (Some es) None = refl
swapped (Some e) (Some es) (Some y) = refl

alone : (y : Option Tree) → with_first y (Some []) ≡ with_last (Some []) y
alone None = refl
alone (Some e) = refl

module _ {A : Type 0} (f : A → Tree) where
  last_end_more : (xs : List A) (y : A) → last_end (map f (xs ++ y ∷ [])) ≡ (place_of (f y)).hi.0
  last_end_more [] y = refl
  last_end_more (x ∷ []) y = refl
  last_end_more (x ∷ (z ∷ xs)) y = last_end_more (z ∷ xs) y

  plain_more : (xs : List A) (y : A) → plain_elements (map f (xs ++ y ∷ [])) ≡ with_last (plain_elements (map f xs)) (plain_element (f y))
  plain_more [] y = plain_first (f y) [] ∙ alone (plain_element (f y))
  plain_more (x ∷ xs) y =
      plain_first (f x) (map f (xs ++ y ∷ [])) ∙ ap (with_first (plain_element (f x))) (plain_more xs y)
      ∙ swapped (plain_element (f x)) (plain_elements (map f xs)) (plain_element (f y)) ∙ ap (λ es. with_last es (plain_element (f y))) (sym (plain_first (f x) (map f xs)))

  closed : (lo hi : ℕ) (es : Option (List Tree)) (y : Option Tree) → joined_or_none lo hi (with_last es y) ≡ (found es >>= λ es. found y >>= λ e. Ok (joined (es ++ e ∷ []) (record { lo = record { 0 = lo }; hi = record { 0 = hi } })))
  closed lo hi None y = refl
  closed lo hi (Some es) None = refl
  closed lo hi (Some []) (Some e) = refl
  closed lo hi (Some (x ∷ es)) (Some e) = refl

  pub group_last : (lo : ℕ) (xs : List A) (y : A) → group_tree lo (map f (xs ++ y ∷ [])) ≡ (plain_list (map f xs) >>= λ es. grouped lo es (f y))
  unfolding group_tree plain_list
  group_last lo xs y = rw (last_end_more xs y, plain_more xs y) (closed lo (place_of (f y)).hi.0 (plain_elements (map f xs)) (plain_element (f y)))

  pub joined_long : (xs : List A) (y : A) (s : Span) → 0 < length xs → joined (map f xs ++ f y ∷ []) s ≡ seq_expr s (trees_by f (xs ++ y ∷ []))
  joined_long [] y s lt = absurd (omega arith)
  joined_long (x ∷ []) y s lt = refl
  joined_long (x ∷ (z ∷ xs)) y s lt = ap (λ ts. seq_expr s (more (f x) (more (f z) ts))) (rest xs)
    where
      rest : (xs : List A) → pack (map f xs ++ f y ∷ []) ≡ trees_by f (xs ++ y ∷ [])
      rest [] = refl
      rest (x ∷ xs) = ap (λ ts. more (f x) ts) (rest xs)

abbrev behind : List Tree → Option (List Tree) → Option (List Tree)
behind before None = None
behind before (Some es) = Some (before ++ es)

from_is : (before xs : List Tree) → plain_from before xs ≡ found (behind before (plain_elements xs))
unfolding plain_from
from_is before [] = ap (λ (ts : List Tree). Ok ts) (sym (append-nil before))
from_is before (x ∷ xs) = go (plain_element x) (λ e. from_is (before ++ e ∷ []) xs) ∙ ap (λ es. found (behind before es)) (sym (plain_first x xs))
  where
    again : (e : Tree) (es : Option (List Tree)) → found (behind (before ++ e ∷ []) es) ≡ found (behind before (with_first (Some e) es))
    again e None = refl
    again e (Some es) = ap (λ (ts : List Tree). Ok ts) (simp append_assoc)

    go : (o : Option Tree) → ((e : Tree) → plain_from (before ++ e ∷ []) xs ≡ found (behind (before ++ e ∷ []) (plain_elements xs)))
        → (found o >>= λ e. plain_from (before ++ e ∷ []) xs) ≡ found (behind before (with_first o (plain_elements xs)))
    go None ih = refl
    go (Some e) ih = ih e ∙ again e (plain_elements xs)

-- from left to right
pub plain_starts : (xs : List Tree) → plain_list xs ≡ plain_from [] xs
unfolding plain_list
plain_starts xs = go (plain_elements xs) ∙ sym (from_is [] xs)
  where
    go : (es : Option (List Tree)) → found es ≡ found (behind [] es)
    go None = refl
    go (Some es) = refl

pub group_none : {A : Type 0} (f : A → Tree) (lo : ℕ) (xs : List A) → xs ≡ [] → group_tree lo (map f xs) ≡ unfit
unfolding group_tree
group_none f lo xs e = rw e refl

pub ruleset groups = (group_last, group_none)
