-- What is not asked of a sort.
use Rattle.std.proofs.Common.{◌≡◌, ℕ, Bool, true, false, ◌&&◌, ◌||◌, refl, ap, ◌∙◌}
use Rattle.std.proofs.lemmas.Bool.{and_right, or_from}
use Rattle.tree_spec.specs.Tree.{Tree, none, more, block_stmt, var_decl, using_decl, seq_expr, number_lit, unary_expr, update_expr, bin_expr, assign_expr, cond_expr, call_expr, member_expr, opt_chain_expr, opt_call, tagged_tpl, regex_lit, array_pat, rest_pat, object_pat, binding_ident, hole}
use Rattle.print_gaps.specs.Edges.{is_word_operator, starts_with_word, ends_with_word, gap_before, gap_after, gap_of_unary, first_operand, is_plus, is_minus, is_not_of_decrement, is_postfix_decrement, starts_with_regexp}
use Rattle.print_layout_spec.specs.Layout.{is_block, is_variables, is_sequence, is_bracketed_name, is_one_name}
use Rattle.print_nodes.specs.Asks.{is_number, is_hole}
use Rattle.tree_nodes.specs.Sorts.{Sort, expression, statement, pattern, part, sort_of, is_expression, is_statement, is_pattern, is_sorted}

pub no_block : (t : Tree) → is_statement (sort_of t) ≡ false → is_block t ≡ false
no_block (block_stmt span stmts) e = absurd (cc)
no_block t e = refl

pub no_variables : (t : Tree) → is_statement (sort_of t) ≡ false → is_variables t ≡ false
no_variables (var_decl span kind decls) e = absurd (cc)
no_variables (using_decl span waits decls) e = absurd (cc)
no_variables t e = refl

pub no_sequence : (t : Tree) → is_expression (sort_of t) ≡ false → is_sequence t ≡ false
no_sequence (seq_expr span exprs) e = absurd (cc)
no_sequence t e = refl

pub no_number : (t : Tree) → is_expression (sort_of t) ≡ false → is_number t ≡ false
no_number (number_lit span value raw) e = absurd (cc)
no_number t e = refl

pub no_bracketed_name : (t : Tree) → is_pattern (sort_of t) ≡ false → is_bracketed_name t ≡ false
no_bracketed_name (array_pat span elems) e = absurd (cc)
no_bracketed_name (rest_pat span dots arg) e = absurd (cc)
no_bracketed_name (object_pat span props) e = absurd (cc)
no_bracketed_name t e = refl

pub no_name : (t : Tree) → is_pattern (sort_of t) ≡ false → is_one_name (more t none) ≡ false
no_name (binding_ident span id) e = absurd (cc)
no_name t e = refl

-- ---- the blanks around operators, where what stands there is no expression

no_postfix : (t : Tree) → is_expression (sort_of t) ≡ false → is_postfix_decrement t ≡ false
no_postfix (update_expr span op prefix arg) e = absurd (cc)
no_postfix t e = refl

no_plus : (t : Tree) → is_expression (sort_of t) ≡ false → is_plus t ≡ false
no_plus (unary_expr span op arg) e = absurd (cc)
no_plus (update_expr span op prefix arg) e = absurd (cc)
no_plus t e = refl

no_minus : (t : Tree) → is_expression (sort_of t) ≡ false → is_minus t ≡ false
no_minus (unary_expr span op arg) e = absurd (cc)
no_minus (update_expr span op prefix arg) e = absurd (cc)
no_minus t e = refl

no_not : (t : Tree) → is_expression (sort_of t) ≡ false → is_not_of_decrement t ≡ false
no_not (unary_expr span op arg) e = absurd (cc)
no_not t e = refl

first_stays : (t : Tree) → is_expression (sort_of t) ≡ false → first_operand t ≡ t
first_stays (bin_expr span op left right) e = absurd (cc)
first_stays t e = refl

no_regexp : (t : Tree) → is_expression (sort_of t) ≡ false → starts_with_regexp t ≡ false
no_regexp (regex_lit span body flags) e = absurd (cc)
no_regexp (bin_expr span op left right) e = absurd (cc)
no_regexp (assign_expr span op left right) e = absurd (cc)
no_regexp (cond_expr span test cons alt) e = absurd (cc)
no_regexp (seq_expr span exprs) e = absurd (cc)
no_regexp (call_expr span callee args) e = absurd (cc)
no_regexp (member_expr span obj prop) e = absurd (cc)
no_regexp (opt_chain_expr span optional base) e = absurd (cc)
no_regexp (opt_call span callee args) e = absurd (cc)
no_regexp (tagged_tpl span tag tpl_) e = absurd (cc)
no_regexp (update_expr span op prefix arg) e = absurd (cc)
no_regexp t e = refl

or_false : (a b : Bool) → b ≡ false → (a || b) ≡ a
or_false true b e = refl
or_false false b e = e

pub gap_before_none : (op : ℕ) (t : Tree) → is_expression (sort_of t) ≡ false → gap_before op t ≡ (is_word_operator op && ends_with_word t)
gap_before_none op t e = or_false _ _ (and_right _ _ (no_postfix t e))

pub gap_of_unary_none : (op : ℕ) (t : Tree) → is_expression (sort_of t) ≡ false → gap_of_unary op t ≡ (is_word_operator op && starts_with_word t)
gap_of_unary_none op t e = or_false _ _ (or_from _ _ (and_right _ _ (no_plus t e)) (and_right _ _ (no_minus t e)))

pub gap_after_none : (op : ℕ) (t : Tree) → is_expression (sort_of t) ≡ false → gap_after op t ≡ (is_word_operator op && starts_with_word t)
gap_after_none op t e =
    or_false _ _ (or_from _ _ (and_right _ _ (ap is_plus (first_stays t e) ∙ no_plus t e))
    (or_from _ _ (and_right _ _ (ap is_minus (first_stays t e) ∙ no_minus t e))
    (or_from _ _ (and_right _ _ (ap is_not_of_decrement (first_stays t e) ∙ no_not t e)) (and_right _ _ (no_regexp t e)))))

-- what is of one of the sorts is no hole
pub no_hole : (t : Tree) (s : Sort) → is_sorted s ≡ true → sort_of t ≡ s → is_hole t ≡ false
no_hole hole expression e h = absurd (cc)
no_hole hole statement e h = absurd (cc)
no_hole hole pattern e h = absurd (cc)
no_hole hole part e h = absurd (cc)
no_hole t s e h = refl
