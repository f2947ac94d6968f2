-- Layouts that are emitted one after the other.
use Rattle.std.proofs.Common.{◌≡◌, ℕ, false, List, [], ◌∷◌, None, refl, sym, ap, ◌∙◌}
use Rattle.std.proofs.lemmas.Bool.{or_parts}
use Rattle.tree_spec.specs.Tree.{none, more}
use Rattle.print_writers.specs.States.{State}
use Rattle.print_pages_spec.specs.Pieces.{Piece, Text, call, calls}
use Rattle.print_layout_spec.specs.declared.look.Stand.TheVariants.{Alone}
use Rattle.print_layout_spec.specs.Looks.{Laid, ◌·◌, nothing, one, meant, named, both, refused, texts_of, texts_before, listed, is_refused}
use Rattle.print_layout_spec.specs.Layout.{laid, closing, statements}
use Rattle.ecma_codegen.specs.Emits.{emitted}
use Rattle.ecma_codegen.specs.Items.{item_laid, ItemsAreProgram}

texts_then : (texts : List (List ℕ)) (rest : List Piece) (s : State) → calls (texts_before texts rest) s ≡ calls rest (calls (texts_before texts []) s)
texts_then [] rest s = refl
texts_then (own ∷ others) rest s = texts_then others rest (call (Text None own) s)

-- what stands behind a layout is emitted behind it
then_rest : (l : Laid) (rest : List Piece) (s : State) → is_refused l ≡ false → calls (listed l rest) s ≡ calls rest (emitted l s)
then_rest nothing rest s e = refl
then_rest (one x) rest s e = refl
then_rest (meant m) rest s e = texts_then (texts_of m) rest s
then_rest (named pos own) rest s e = refl
then_rest (both f g) rest s e =
    let parts = or_parts (is_refused f) (is_refused g) e in
    then_rest f (listed g rest) s parts.0 ∙ then_rest g rest (emitted f s) parts.1 ∙ ap (calls rest) (sym (then_rest f (listed g []) s parts.0))
then_rest refused rest s e = absurd (cc)

pub items_are_program : ItemsAreProgram
items_are_program look none s e = refl
items_are_program look (more t ts) s e =
    let f = laid look Alone t in
    let x = or_parts (is_refused f) (is_refused (closing look t · statements look ts)) e in
    let y = or_parts (is_refused (closing look t)) (is_refused (statements look ts)) x.1 in
    then_rest f (listed (closing look t · statements look ts) []) s x.0
    ∙ then_rest (closing look t) (listed (statements look ts) []) (emitted f s) y.0
    ∙ ap (emitted (statements look ts)) (sym (then_rest f (listed (closing look t) []) s x.0))
    ∙ items_are_program look ts (emitted (item_laid look t) s) y.1
