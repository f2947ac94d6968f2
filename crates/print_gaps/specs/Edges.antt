-- How the text of a node begins and ends, as far as a printer asks: whether with a word, so that a blank keeps it from
-- another word, and with which operator, so that two don't run together (ECMA-262, 12.7 to 12.9; the crate's module `util`).
use Rattle.std.specs.Prelude.{ℕ, Bool, true, false, ◌&&◌, ◌||◌, ◌==◌, if◌then◌else◌, None}
use Rattle.base_token.specs.Kinds.{plus_plus_kind, minus_minus_kind, bang_kind, add_kind, sub_kind, div_kind, lt_kind, gt_kind, gt_eq_kind, left_shift_kind, right_shift_kind, zero_fill_right_shift_kind, in_kind, instanceof_kind, typeof_kind, void_kind, delete_kind}
use Rattle.tree_nodes.specs.Tree.{Tree, Trees, none, more, debugger_stmt, with_stmt, return_stmt, labeled_stmt, break_stmt, continue_stmt, if_stmt, switch_stmt, throw_stmt, try_stmt, while_stmt, do_while_stmt, for_stmt, for_in_stmt, for_of_stmt, expr_stmt, class_decl, fn_decl, var_decl, using_decl, var_declarator, ident_name, computed_prop_name, this_expr, array_lit, object_lit, fn_expr, unary_expr, update_expr, bin_expr, assign_expr, member_expr, super_prop_expr, cond_expr, call_expr, new_expr, seq_expr, ident, tagged_tpl, arrow_expr, class_expr, yield_expr, meta_prop_expr, await_expr, paren_expr, opt_chain_expr, opt_call, super, import, invalid, expr_or_spread, str_lit, bool_lit, null_lit, number_lit, big_int_lit, regex_lit, binding_ident, array_pat, rest_pat, object_pat, assign_pat, expr_pat, invalid_pat, absent}

-- whether a part that may be left out is there
abbrev pub is_there : Tree → Bool
is_there absent = false
is_there t = true

-- the operators that are words
abbrev pub is_word_operator : ℕ → Bool
is_word_operator op = op == in_kind || (op == instanceof_kind || (op == typeof_kind || (op == void_kind || op == delete_kind)))

-- Whether a node starts with a word: names, numbers and what starts with a keyword; an expression that starts with
-- another, and its statement, as that one does. What starts with a bracket, a quote or an operator doesn't, and nor does
-- an arrow, but where it is `async` or where its one parameter does.
abbrev mutual
  pub starts_with_word : Tree → Bool
  starts_with_word (ident span sym) = true
  starts_with_word (ident_name span sym) = true
  starts_with_word (binding_ident span id) = true
  starts_with_word (bool_lit span value) = true
  starts_with_word (null_lit span) = true
  starts_with_word (number_lit span value raw) = true
  starts_with_word (big_int_lit span radix digits raw) = true
  starts_with_word (this_expr span) = true
  starts_with_word (super span) = true
  starts_with_word (import span) = true
  starts_with_word (super_prop_expr span obj prop) = true
  starts_with_word (meta_prop_expr span kind) = true
  starts_with_word (new_expr span callee args) = true
  starts_with_word (await_expr span arg) = true
  starts_with_word (yield_expr span arg delegate) = true
  starts_with_word (fn_expr span id fn_) = true
  starts_with_word (class_expr span id class_) = true
  starts_with_word (invalid span) = true
  starts_with_word (invalid_pat span) = true
  starts_with_word (unary_expr span op arg) = is_word_operator op
  starts_with_word (update_expr span op true arg) = false
  starts_with_word (update_expr span op false arg) = starts_with_word arg
  starts_with_word (arrow_expr span params body true) = true
  starts_with_word (arrow_expr span params body false) = alone_starts_with_word params
  starts_with_word (bin_expr span op left right) = starts_with_word left
  starts_with_word (assign_expr span op left right) = starts_with_word left
  starts_with_word (cond_expr span test cons alt) = starts_with_word test
  starts_with_word (seq_expr span exprs) = first_starts_with_word exprs
  starts_with_word (call_expr span callee args) = starts_with_word callee
  starts_with_word (member_expr span obj prop) = starts_with_word obj
  starts_with_word (opt_chain_expr span optional base) = starts_with_word base
  starts_with_word (opt_call span callee args) = starts_with_word callee
  starts_with_word (tagged_tpl span tag tpl_) = starts_with_word tag
  starts_with_word (expr_or_spread span None e) = starts_with_word e
  starts_with_word (assign_pat span left right) = starts_with_word left
  starts_with_word (expr_pat e) = starts_with_word e
  starts_with_word (expr_stmt span e) = starts_with_word e
  starts_with_word (debugger_stmt span) = true
  starts_with_word (with_stmt span obj body) = true
  starts_with_word (return_stmt span arg) = true
  starts_with_word (labeled_stmt span label body) = true
  starts_with_word (break_stmt span label) = true
  starts_with_word (continue_stmt span label) = true
  starts_with_word (if_stmt span test cons alt) = true
  starts_with_word (switch_stmt span discriminant cases) = true
  starts_with_word (throw_stmt span arg) = true
  starts_with_word (try_stmt span block handler finalizer) = true
  starts_with_word (while_stmt span test body) = true
  starts_with_word (do_while_stmt span test body) = true
  starts_with_word (for_stmt span init test update body) = true
  starts_with_word (for_in_stmt span left right body) = true
  starts_with_word (for_of_stmt span is_await left right body) = true
  starts_with_word (class_decl span id class_) = true
  starts_with_word (fn_decl span id fn_) = true
  starts_with_word (var_decl span kind decls) = true
  starts_with_word (using_decl span is_await decls) = true
  starts_with_word t = false

  -- the first of some expressions; where there is none, nothing is written
  pub first_starts_with_word : Trees → Bool
  first_starts_with_word none = false
  first_starts_with_word (more t ts) = starts_with_word t

  -- a single parameter; any other number of them stands in parentheses
  pub alone_starts_with_word : Trees → Bool
  alone_starts_with_word (more t none) = starts_with_word t
  alone_starts_with_word ts = false

-- Whether a node ends with a word, or with what is kept from a word as one is: expressions but what ends with a bracket, a
-- quote or a parenthesis of its own. Patterns and declarations ask their last part.
abbrev mutual
  pub ends_with_word : Tree → Bool
  ends_with_word (array_lit span elems) = false
  ends_with_word (object_lit span props) = false
  ends_with_word (str_lit span units raw) = false
  ends_with_word (paren_expr span e) = false
  ends_with_word (member_expr span obj (computed_prop_name at e)) = false
  ends_with_word (array_pat span elems) = false
  ends_with_word (object_pat span props) = false
  ends_with_word (rest_pat span dots arg) = ends_with_word arg
  ends_with_word (assign_pat span left right) = ends_with_word right
  ends_with_word (expr_pat e) = ends_with_word e
  ends_with_word (var_decl span kind decls) = last_ends_with_word decls
  ends_with_word (using_decl span is_await decls) = last_ends_with_word decls
  ends_with_word (var_declarator span name init) = if is_there init then ends_with_word init else ends_with_word name
  ends_with_word t = true

  -- the last declarator; without one the declaration ends with its keyword
  pub last_ends_with_word : Trees → Bool
  last_ends_with_word none = true
  last_ends_with_word (more t none) = ends_with_word t
  last_ends_with_word (more t ts) = last_ends_with_word ts

-- ---- operators that could run together (12.8)

-- what stands first in a right operand, whose own left operands come before
abbrev pub first_operand : Tree → Tree
first_operand (bin_expr span op left right) = first_operand left
first_operand t = t

-- `+` or `++`
abbrev pub is_plus : Tree → Bool
is_plus (unary_expr span op arg) = op == add_kind
is_plus (update_expr span op true arg) = op == plus_plus_kind
is_plus t = false

-- `-` or `--`
abbrev pub is_minus : Tree → Bool
is_minus (unary_expr span op arg) = op == sub_kind
is_minus (update_expr span op true arg) = op == minus_minus_kind
is_minus t = false

-- `--` with its operand, and with that before it
abbrev pub is_decrement : Tree → Bool
is_decrement (update_expr span op prefix arg) = op == minus_minus_kind
is_decrement t = false

abbrev pub is_postfix_decrement : Tree → Bool
is_postfix_decrement (update_expr span op false arg) = op == minus_minus_kind
is_postfix_decrement t = false

-- `!` of a `--`: `!--` behind `<` opens a comment (B.1.1)
abbrev pub is_not_of_decrement : Tree → Bool
is_not_of_decrement (unary_expr span op arg) = op == bang_kind && is_decrement arg
is_not_of_decrement t = false

-- a regular expression
abbrev pub is_regexp : Tree → Bool
is_regexp (regex_lit span body flags) = true
is_regexp t = false

-- whether the first token is a regular expression, which behind `/` opens a comment
abbrev mutual
  pub starts_with_regexp : Tree → Bool
  starts_with_regexp (regex_lit span body flags) = true
  starts_with_regexp (bin_expr span op left right) = starts_with_regexp left
  starts_with_regexp (assign_expr span op left right) = starts_with_regexp left
  starts_with_regexp (cond_expr span test cons alt) = starts_with_regexp test
  starts_with_regexp (seq_expr span exprs) = first_starts_with_regexp exprs
  starts_with_regexp (call_expr span callee args) = starts_with_regexp callee
  starts_with_regexp (member_expr span obj prop) = starts_with_regexp obj
  starts_with_regexp (opt_chain_expr span optional base) = starts_with_regexp base
  starts_with_regexp (opt_call span callee args) = starts_with_regexp callee
  starts_with_regexp (tagged_tpl span tag tpl_) = starts_with_regexp tag
  starts_with_regexp (update_expr span op false arg) = starts_with_regexp arg
  starts_with_regexp t = false

  -- that of the first of some expressions
  pub first_starts_with_regexp : Trees → Bool
  first_starts_with_regexp none = false
  first_starts_with_regexp (more t ts) = starts_with_regexp t

-- Whether a blank stands before an operator and after it where as few stand as the program needs.
abbrev pub gap_before : ℕ → Tree → Bool
gap_before op left =
    (is_word_operator op && ends_with_word left)
    || ((op == gt_kind || (op == right_shift_kind || (op == zero_fill_right_shift_kind || op == gt_eq_kind))) && is_postfix_decrement left)

abbrev pub gap_after : ℕ → Tree → Bool
gap_after op right =
    (is_word_operator op && starts_with_word right)
    || ((op == add_kind && is_plus (first_operand right))
    || ((op == sub_kind && is_minus (first_operand right))
    || (((op == lt_kind || op == left_shift_kind) && is_not_of_decrement (first_operand right))
    || (op == div_kind && starts_with_regexp right))))

-- whether a blank stands between an operator before its operand and that operand, in any style
abbrev pub gap_of_unary : ℕ → Tree → Bool
gap_of_unary op arg =
    (is_word_operator op && starts_with_word arg)
    || ((op == add_kind && is_plus arg)
    || (op == sub_kind && is_minus arg))
