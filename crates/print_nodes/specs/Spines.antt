-- Chains of expressions (ECMA-262, 13.3 and 13.5 to 13.13) and of `else if` (14.6), link by link: what is written before and behind what
-- stands below the links.
use Rattle.std.specs.Prelude.{ℕ, zero, suc, Bool, ◌||◌, codes}
use Rattle.base_token.specs.Operators.{operator_text}
use Rattle.tree_spec.specs.Tree.{Tree, bin_expr, member_expr, call_expr, tagged_tpl, opt_chain_expr, opt_call, if_stmt}
use Rattle.print_gaps.specs.Edges.{gap_before, gap_after, starts_with_word}
use Rattle.print_layout_spec.specs.declared.look.Look.{Look}
use Rattle.print_layout_spec.specs.declared.look.Stand.{Stand}
use Rattle.print_layout_spec.specs.declared.look.Stand.TheVariants.{Alone, Head, Operand, Tagged}
use Rattle.print_layout_spec.specs.Looks.{Laid, nothing, ◌·◌, when, commit, start, end, text, gap, gap_or, line}
use Rattle.print_layout_spec.specs.Layout.{laid, closing, comma, in_parens, is_block, is_computed, marked_as_operand, optional_dot, point_before, separated, word}
use Rattle.tree_nodes.specs.Spines.{further_on}
use Rattle.tree_visit.specs.Spine.Chains.{below}
use Rattle.print_nodes.specs.Chains.{link_laid, object_laid}

-- ---- expressions

-- how the left part of a link stands
abbrev pub stand_below : Tree → Stand
stand_below (bin_expr span op left right) = Operand
stand_below t = Head

-- what a link that stands so writes before its left part
abbrev pub before_laid : Stand → Tree → Laid
before_laid s (bin_expr span op left right) = when (marked_as_operand s) (start span)
before_laid s (member_expr span obj prop) = start span
before_laid s (call_expr span callee args) = commit · start span
before_laid s (tagged_tpl span tag tpl_) = start span
before_laid s t = nothing

-- its left part, where a number before a name is written in a way of its own
abbrev pub base_left_laid : Look → Bool → Tree → Laid
base_left_laid look optional (member_expr span obj prop) = object_laid look (optional || is_computed prop) obj
base_left_laid look optional (opt_call span callee args) = laid look Head callee
base_left_laid look optional t = nothing

abbrev pub left_laid : Look → Tree → Laid
left_laid look (bin_expr span op left right) = laid look Operand left
left_laid look (member_expr span obj prop) = object_laid look (is_computed prop) obj
left_laid look (call_expr span callee args) = laid look Head callee
left_laid look (tagged_tpl span tag tpl_) = laid look Head tag
left_laid look (opt_chain_expr span optional base) = base_left_laid look optional base
left_laid look t = nothing

-- and what it writes behind that: an operator and the right operand, a name, arguments or a template
abbrev pub base_right_laid : Look → Bool → Tree → Laid
base_right_laid look optional (member_expr span obj prop) = link_laid optional (is_computed prop) · laid look Alone prop
base_right_laid look optional (opt_call span callee args) = when optional optional_dot · in_parens (separated look (comma look) args)
base_right_laid look optional t = nothing

abbrev pub right_laid : Look → Tree → Laid
right_laid look (bin_expr span op left right) =
    gap_or look (gap_before op left) · text (operator_text op) · gap_or look (gap_after op right) · laid look Alone right
right_laid look (member_expr span obj prop) = point_before prop · laid look Alone prop · end span
right_laid look (call_expr span callee args) = in_parens (separated look (comma look) args)
right_laid look (tagged_tpl span tag tpl_) = laid look Tagged tpl_ · end span
right_laid look (opt_chain_expr span optional base) = base_right_laid look optional base
right_laid look t = nothing

-- how the tree so many links down stands
unfoldable pub stand_at : Stand → ℕ → Tree → Stand
stand_at s zero t = s
stand_at s (suc n) t = stand_below (below n t)

-- what so many links write before what stands below them, the outermost first
unfoldable pub befores_laid : Stand → ℕ → Tree → Laid
befores_laid s zero t = nothing
befores_laid s (suc n) t = befores_laid s n t · before_laid (stand_at s n t) (below n t)

-- and behind it, the innermost first
unfoldable pub rights_laid : Look → ℕ → Tree → Laid
rights_laid look zero t = nothing
rights_laid look (suc n) t = right_laid look (below n t) · rights_laid look n t

-- ---- alternatives

-- an `if` up to what stands behind its consequence
abbrev pub consequence_laid : Look → Tree → Laid
consequence_laid look (if_stmt span test cons alt) =
    commit · start span · word (codes "if") · gap look · in_parens (laid look Alone test) · gap look · laid look Alone cons · closing look cons
consequence_laid look t = nothing

-- `else`, behind a block or not, before a word or not
abbrev pub else_laid : Look → Bool → Bool → Laid
else_laid look behind_block before_word = when behind_block (gap look) · word (codes "else") · gap_or look before_word

-- what a link writes before its alternative
abbrev pub branch_laid : Look → Tree → Laid
branch_laid look (if_stmt span test cons alt) = consequence_laid look (if_stmt span test cons alt) · else_laid look (is_block cons) (starts_with_word alt)
branch_laid look t = nothing

-- so many links, the outermost first
unfoldable pub branches_laid : Look → ℕ → Tree → Laid
branches_laid look zero t = nothing
branches_laid look (suc n) t = branches_laid look n t · branch_laid look (further_on n t)

-- what stands behind the alternatives of so many links, the innermost first
unfoldable pub ends_laid : Look → ℕ → Tree → Laid
ends_laid look zero t = nothing
ends_laid look (suc n) t = closing look (further_on (suc n) t) · ends_laid look n t

-- so many ends of lines
unfoldable pub lines_laid : Look → ℕ → Laid
lines_laid look zero = nothing
lines_laid look (suc n) = lines_laid look n · line look
