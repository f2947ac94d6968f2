-- The pieces of a template.
use Rattle.std.proofs.Common.{◌≡◌, ℕ, ◌+◌, ◌<◌, ◌==◌, true, false, List, [], ◌∷◌, length, drop, slice_index_or, Option, arith, refl, sym, subst, ap, ◌∙◌, codes}
use Rattle.std.proofs.lemmas.Bool.Decides.{nat_tests}
use base.Fml.{GName}
use Rattle.print_writers.specs.States.{State}
use Rattle.print_writers.specs.declared.fault.EmitError.{EmitError}
use Rattle.base_token.specs.declared.place.Span.{Span}
use Rattle.tree_spec.specs.Tree.{Tree, Trees, none, more, trees_by, tpl}
use Rattle.print_layout_spec.specs.declared.look.Look.{Look}
use Rattle.print_layout_spec.specs.declared.look.Stand.{Stand}
use Rattle.print_layout_spec.specs.Looks.{Laid, ◌·◌, start, end, text, refused}
use Rattle.print_layout_spec.specs.Layout.{laid, count, quasi, template}
use Rattle.print_pieces.specs.Prints.{Asked, lay}
use Rattle.print_nodes.specs.Templates.{rest_laid}
use Rattle.print_nodes.proofs.Parts.{Goes, next_part}

pub counted : {A : Type 0} (f : A → Tree) (xs : List A) → count (trees_by f xs) ≡ length xs
counted f [] = refl
counted f (x ∷ xs) = let h = counted f xs in omega (arith, h)

pub template_is : (look : Look) (s : Stand) (q : Tree) (es qs : Trees) (a : Asked) → count qs ≡ count es
    → lay (quasi look s q · rest_laid look s es qs) a ≡ lay (template look s es (more q qs)) a
template_is look s q none none a e = refl
template_is look s q none (more r rs) a e = absurd (omega (arith, e))
template_is look s q (more x xs) none a e = absurd (omega (arith, e))
template_is look s q (more x xs) (more r rs) a e = template_is look s r xs rs _ (omega (arith, e))

module _ {S : Type 0} {tells : S → Type 0} {state : S → State} {failed : S → ℕ} {loans : S → List GName} where
  pub at_both : {A B : Type 0} (look : Look) (s : Stand) (f : A → Tree) (h : B → Tree) (xs : List A) (ys : List B) (i : ℕ) (x : A) (y : B)
      → i < length xs → x ≡ slice_index_or xs i x → i < length ys → y ≡ slice_index_or ys i y
      → {whole : Laid} {w v : S} {e g : Option EmitError} → Goes {S = S} tells state failed loans whole (rest_laid look s (trees_by f (drop i xs)) (trees_by h (drop i ys))) w e v g
      → Goes {S = S} tells state failed loans whole (rest_laid look s (more (f x) (trees_by f (drop (i + 1) xs))) (more (h y) (trees_by h (drop (i + 1) ys)))) w e v g
  at_both look s f h xs ys i x y lt q lt2 q2 {whole} {w} {v} {e} {g} z =
      subst (λ (ts : Trees). Goes {S = S} tells state failed loans whole (rest_laid look s (more (f x) (trees_by f (drop (i + 1) xs))) ts) w e v g) (next_part h ys i y lt2 q2)
      (subst (λ (ts : Trees). Goes {S = S} tells state failed loans whole (rest_laid look s ts (trees_by h (drop i ys))) w e v g) (next_part f xs i x lt q) z)

-- a template whose pieces are one more than its expressions
pub tpl_is : (look : Look) (s : Stand) (span : Span) (q : Tree) (es qs : Trees) → count qs ≡ count es → (a : Asked)
    → lay (start span · text (codes "`") · quasi look s q · rest_laid look s es qs · text (codes "`") · end span) a ≡ lay (laid look s (tpl span es (more q qs))) a
tpl_is look s span q es qs e a =
    let t : (count qs + 1 == count es + 1) ≡ true = grind (arith, nat_tests, e) in
    rw t (ap (lay (text (codes "`") · end span)) (template_is look s q es qs _ e))

-- any other number of pieces
pub no_piece : (look : Look) (s : Stand) (span : Span) (es : Trees) → refused ≡ laid look s (tpl span es none)
no_piece look s span es =
    let t : (0 == count es + 1) ≡ false = grind (arith, nat_tests) in
    rw t refl

pub other_pieces : (look : Look) (s : Stand) (span : Span) (q : Tree) (es qs : Trees) (m n : ℕ) → count qs ≡ m → count es ≡ n → (m == n) ≡ false → refused ≡ laid look s (tpl span es (more q qs))
other_pieces look s span q es qs m n d e h =
    let t : (count qs + 1 == count es + 1) ≡ false = grind (arith, nat_tests, d, e, h) in
    rw t refl

-- the same of the lists that the code goes through
pub tpl_whole : {A B : Type 0} (xs ys : List A) (qs ws rest : List B) (q : B) (look : Look) (s : Stand) (span : Span) (f : A → Tree) (h : B → Tree)
    → ys ≡ xs → ws ≡ qs → ws ≡ q ∷ rest → length rest ≡ length ys → (a : Asked)
    → lay (start span · text (codes "`") · quasi look s (h q) · rest_laid look s (trees_by f ys) (trees_by h rest) · text (codes "`") · end span) a
    ≡ lay (laid look s (tpl span (trees_by f xs) (trees_by h qs))) a
tpl_whole xs ys qs ws rest q look s span f h d e k n a =
    rw (sym d) (rw (sym e) (rw k (tpl_is look s span (h q) (trees_by f ys) (trees_by h rest) (counted h rest ∙ (n ∙ sym (counted f ys))) a)))

pub tpl_other : {A B : Type 0} (xs ys : List A) (qs ws rest : List B) (q : B) (look : Look) (s : Stand) (span : Span) (f : A → Tree) (h : B → Tree)
    → ys ≡ xs → ws ≡ qs → ws ≡ q ∷ rest → (length rest == length ys) ≡ false → refused ≡ laid look s (tpl span (trees_by f xs) (trees_by h qs))
tpl_other xs ys qs ws rest q look s span f h d e k n =
    rw (sym d) (rw (sym e) (rw k (other_pieces look s span (h q) (trees_by f ys) (trees_by h rest) (length rest) (length ys) (counted h rest) (counted f ys) n)))
