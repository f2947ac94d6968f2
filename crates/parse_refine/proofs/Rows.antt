-- Items from left to right are the items.
use Rattle.std.proofs.Common.{◌≡◌, ℕ, Bool, true, false, if◌then◌else◌, List, [], ◌∷◌, ◌++◌, append_assoc, Result, Ok, Err, length, map, nat_lt, refl, arith, ap, sym, ◌∙◌}
use Rattle.std.proofs.lemmas.List.{append-nil}
use Rattle.std.proofs.lemmas.Bool.{lt-ltb}
use Rattle.base_token.specs.declared.place.Span.{Span}
use Rattle.tree_spec.specs.Tree.{Tree, Trees, none, more, pack, unpack, trees_by, array_lit, array_pat, object_lit, object_pat}
use Rattle.tree_spec.proofs.PackLemmas.{pack_unpack}
use Rattle.parse_operands.proofs.Packs.{packed}
use Rattle.grammar_spec.specs.Reader.Source.{Fault, unfit, ◌>>=◌}
use Rattle.grammar_spec.specs.Reader.Cover.{has, to_item, to_items, as_prop, is_rest_item}
use Rattle.parse_refine.specs.Items.{item_by, items_from, is_more}

module _ (props binds : Bool) (commas : List ℕ) where
  -- what is made of the first, and what is left
  behind : (made : List Tree) (p : Tree) (r : Result Trees Fault) → (r >>= λ ps. Ok (pack ((made ++ p ∷ []) ++ unpack ps))) ≡ ((r >>= λ ps. Ok (more p ps)) >>= λ ps. Ok (pack (made ++ unpack ps)))
  behind made p (Ok ps) = ap (λ (qs : List Tree). Ok (pack qs)) (simp append_assoc)
  behind made p (Err f) = refl

  last : (made : List Tree) (r : Result Tree Fault) → (r >>= λ p. Ok (pack (made ++ p ∷ []))) ≡ ((r >>= λ p. Ok (more p none)) >>= λ ps. Ok (pack (made ++ unpack ps)))
  last made (Ok p) = refl
  last made (Err f) = refl

  first : (made : List Tree) (from : List Tree → Result Trees Fault) (r : Result Tree Fault) (rest : Result Trees Fault)
      → ((p : Tree) → from (made ++ p ∷ []) ≡ (rest >>= λ ps. Ok (pack ((made ++ p ∷ []) ++ unpack ps))))
      → (r >>= λ p. from (made ++ p ∷ [])) ≡ ((r >>= λ p. rest >>= λ ps. Ok (more p ps)) >>= λ ps. Ok (pack (made ++ unpack ps)))
  first made from (Ok p) rest ih = ih p ∙ behind made p rest
  first made from (Err f) rest ih = refl

  chosen : (b : Bool) (made : List Tree) (x y : Result Trees Fault) → x ≡ (y >>= λ ps. Ok (pack (made ++ unpack ps)))
      → (if b then unfit else x) ≡ ((if b then unfit else y) >>= λ ps. Ok (pack (made ++ unpack ps)))
  chosen true made x y e = refl
  chosen false made x y e = e

  from_is : (made : List Tree) (xs : Trees) → items_from props binds commas made xs ≡ (to_items props binds commas xs >>= λ ps. Ok (pack (made ++ unpack ps)))
  unfolding items_from item_by
  from_is made none = ap (λ (qs : List Tree). Ok (pack qs)) (sym (append-nil made))
  from_is made (more x none) = last made (as_prop props x (to_item binds commas x))
  from_is made (more x (more y ys)) =
      chosen (is_rest_item x) made _ _ (first made (λ made. items_from props binds commas made (more y ys)) (as_prop props x (to_item binds commas x)) (to_items props binds commas (more y ys)) (λ p. from_is (made ++ p ∷ []) (more y ys)))

  all_of : (r : Result Trees Fault) → (r >>= λ ps. Ok (pack ([] ++ unpack ps))) ≡ r
  all_of (Ok ps) = ap Ok (pack_unpack ps)
  all_of (Err f) = refl

  pub items_is : (xs : Trees) → to_items props binds commas xs ≡ items_from props binds commas [] xs
  items_is xs = sym (from_is [] xs ∙ all_of (to_items props binds commas xs))

pub more_left : {A : Type 0} (f : A → Tree) (xs : List A) → is_more (trees_by f xs) ≡ nat_lt 0 (length xs)
more_left f [] = refl
more_left f (x ∷ xs) = sym (lt-ltb 0 (length (x ∷ xs)) (omega arith))

pub items_done : (props binds : Bool) (commas : List ℕ) {A B : Type 0} (f : A → Tree) (g : B → Tree) (made : List A) (rest : List B) → length rest ≡ 0 → items_from props binds commas (map f made) (trees_by g rest) ≡ Ok (trees_by f made)
unfolding items_from
items_done props binds commas f g made [] e = ap (λ (ts : Trees). Ok ts) (packed f made)
items_done props binds commas f g made (x ∷ xs) e = absurd (omega arith)

pub array_read : (binds : Bool) (commas : List ℕ) (s : Span) (xs ps : Trees) → has s.lo.0 commas ≡ false → to_items false binds commas xs ≡ Ok ps → to_item binds commas (array_lit s xs) ≡ Ok (array_pat s ps)
array_read binds commas s xs ps h e = rw (h, e) refl

pub object_read : (binds : Bool) (commas : List ℕ) (s : Span) (xs ps : Trees) → has s.lo.0 commas ≡ false → to_items true binds commas xs ≡ Ok ps → to_item binds commas (object_lit s xs) ≡ Ok (object_pat s ps)
object_read binds commas s xs ps h e = rw (h, e) refl

pub unpacked : {A : Type 0} (f : A → Tree) (xs : List A) → unpack (trees_by f xs) ≡ map f xs
unpacked f [] = refl
unpacked f (x ∷ xs) = ap (λ ys. f x ∷ ys) (unpacked f xs)

pub ruleset items = (items_is, more_left, packed)
