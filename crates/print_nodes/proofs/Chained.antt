-- Members and their objects.
use Rattle.std.proofs.Common.{◌≡◌, Bool, true, false, refl}
use Rattle.base_token.specs.declared.place.Span.{Span}
use Rattle.tree_spec.specs.Tree.{Tree, number_lit, member_expr, opt_chain_expr}
use Rattle.print_layout_spec.specs.declared.look.Look.{Look}
use Rattle.print_layout_spec.specs.declared.look.Stand.{Stand}
use Rattle.print_layout_spec.specs.declared.look.Stand.TheVariants.{Alone, Head}
use Rattle.print_layout_spec.specs.Looks.{◌·◌, start, end}
use Rattle.print_layout_spec.specs.Layout.{laid, is_computed, point_before}
use Rattle.print_pieces.specs.Prints.{Asked, lay}
use Rattle.print_nodes.specs.Asks.{is_number}
use Rattle.print_nodes.specs.Chains.{object_laid, chain_laid}

-- what is no number is laid out as at the head of a member
pub no_number : (look : Look) (keeps : Bool) (t : Tree) → is_number t ≡ false → laid look Head t ≡ object_laid look keeps t
no_number look keeps (number_lit at value raw) e = absurd (cc)
no_number look keeps t e = refl

pub member_is : (look : Look) (s : Stand) (span : Span) (obj prop : Tree)
    → (start span · object_laid look (is_computed prop) obj · point_before prop · laid look Alone prop · end span) ≡ laid look s (member_expr span obj prop)
member_is look s span (number_lit at value raw) prop = refl
member_is look s span obj prop = refl

pub chain_is : (look : Look) (s : Stand) (span at : Span) (optional : Bool) (obj prop : Tree) (a : Asked)
    → lay (chain_laid look optional obj prop) a ≡ lay (laid look s (opt_chain_expr span optional (member_expr at obj prop))) a
chain_is look s span at true (number_lit place value raw) prop a = refl
chain_is look s span at false (number_lit place value raw) prop a = refl
chain_is look s span at optional obj prop a = refl
