-- What a layout asks of a tree it asks alike of the tree given anew.
use Rattle.std.proofs.Common.{◌≡◌, ℕ, ◌+◌, true, false, not, ◌&&◌, ◌||◌, ◌==◌, Option, Some, None, is_some, refl, ap, ap₂, ◌∙◌}
use Rattle.base_proofs.proofs.Bools.{if_same}
use Rattle.base_token.specs.declared.place.Span.{Span}
use Rattle.base_token.specs.Kinds.{bang_kind}
use Rattle.tree_spec.specs.Tree.{Tree, Trees, none, more, absent, hole, list, seq_expr, block_stmt, var_decl, using_decl, str_lit, computed_prop_name, array_pat, object_pat, rest_pat, var_declarator, binding_ident, import_default_specifier, import_named_specifier, export_namespace_specifier, expr_pat, bin_expr, unary_expr, update_expr, arrow_expr, member_expr, opt_chain_expr, opt_call, call_expr, cond_expr, assign_expr, tagged_tpl, expr_or_spread, assign_pat, expr_stmt, regex_lit}
use Rattle.print_gaps.specs.Edges.{is_there, starts_with_word, first_starts_with_word, alone_starts_with_word, ends_with_word, last_ends_with_word, first_operand, is_plus, is_minus, is_decrement, is_postfix_decrement, is_not_of_decrement, starts_with_regexp, first_starts_with_regexp, gap_before, gap_after, gap_of_unary}
use Rattle.print_layout_spec.specs.Layout.{is_empty, count, ends_with_hole, is_block, is_sequence, is_bracketed_key, is_computed, is_bracketed_name, starts_bracketed, is_one_name, has_arguments, is_default, starts_with_default, is_named, has_named, has_default, is_namespace, is_no_namespace, has_namespace, has_other}
use Rattle.again_laws.specs.Derived.Redo.{Mode, Plain, placed, Leaves, redo, redos}

module _ (lv : Leaves) where
  pub same_is_there : (m : Mode) (t : Tree) → is_there (redo lv m t) ≡ is_there t
  same_is_there md absent = refl
  same_is_there md _ = refl

  pub same_is_block : (m : Mode) (t : Tree) → is_block (redo lv m t) ≡ is_block t
  same_is_block md (block_stmt span stmts) = refl
  same_is_block md _ = refl

  pub same_is_sequence : (m : Mode) (t : Tree) → is_sequence (redo lv m t) ≡ is_sequence t
  same_is_sequence md (seq_expr span exprs) = refl
  same_is_sequence md _ = refl

  pub same_is_bracketed_key : (m : Mode) (t : Tree) → is_bracketed_key (redo lv m t) ≡ is_bracketed_key t
  same_is_bracketed_key md (str_lit span units raw) = refl
  same_is_bracketed_key md (computed_prop_name span e) = refl
  same_is_bracketed_key md _ = refl

  pub same_is_computed : (m : Mode) (t : Tree) → is_computed (redo lv m t) ≡ is_computed t
  same_is_computed md (computed_prop_name span e) = refl
  same_is_computed md _ = refl

  pub same_is_bracketed_name : (m : Mode) (t : Tree) → is_bracketed_name (redo lv m t) ≡ is_bracketed_name t
  same_is_bracketed_name md (array_pat span elems) = refl
  same_is_bracketed_name md (object_pat span props) = refl
  same_is_bracketed_name md (rest_pat span dots arg) = refl
  same_is_bracketed_name md _ = refl

  pub same_is_default : (m : Mode) (t : Tree) → is_default (redo lv m t) ≡ is_default t
  same_is_default md (import_default_specifier span local) = refl
  same_is_default md _ = refl

  pub same_is_named : (m : Mode) (t : Tree) → is_named (redo lv m t) ≡ is_named t
  same_is_named md (import_named_specifier span local imported) = refl
  same_is_named md _ = refl

  pub same_is_namespace : (m : Mode) (t : Tree) → is_namespace (redo lv m t) ≡ is_namespace t
  same_is_namespace md (export_namespace_specifier span name) = refl
  same_is_namespace md _ = refl

  pub same_is_no_namespace : (m : Mode) (t : Tree) → is_no_namespace (redo lv m t) ≡ is_no_namespace t
  same_is_no_namespace md t = ap (λ b. not b) (same_is_namespace _ t)

  pub same_is_empty : (ts : Trees) → is_empty (redos lv Plain ts) ≡ is_empty ts
  same_is_empty none = refl
  same_is_empty (more t ts) = refl

  pub same_count : (m : Mode) (ts : Trees) → count (redos lv m ts) ≡ count ts
  same_count m none = refl
  same_count m (more t ts) = ap (λ n. n + 1) (same_count m ts)

  pub same_ends_with_hole : (ts : Trees) → ends_with_hole (redos lv Plain ts) ≡ ends_with_hole ts
  same_ends_with_hole none = refl
  same_ends_with_hole (more hole none) = refl
  same_ends_with_hole (more _ none) = refl
  same_ends_with_hole (more hole (more u ts)) = same_ends_with_hole (more u ts)
  same_ends_with_hole (more t (more u ts)) = same_ends_with_hole (more u ts)

  pub same_starts_bracketed : (ts : Trees) → starts_bracketed (redos lv Plain ts) ≡ starts_bracketed ts
  same_starts_bracketed (more (var_declarator span name init) ds) = same_is_bracketed_name _ name
  same_starts_bracketed _ = refl

  pub same_is_one_name : (ts : Trees) → is_one_name (redos lv Plain ts) ≡ is_one_name ts
  same_is_one_name none = refl
  same_is_one_name (more (binding_ident span id) none) = refl
  same_is_one_name (more _ none) = refl
  same_is_one_name (more (binding_ident span id) (more u ts)) = refl
  same_is_one_name (more _ (more u ts)) = refl

  pub same_has_arguments : (m : Mode) (t : Tree) → has_arguments (redo lv m t) ≡ has_arguments t
  same_has_arguments md (list none) = refl
  same_has_arguments md (list (more t ts)) = refl
  same_has_arguments md _ = refl

  pub same_starts_with_default : (ts : Trees) → starts_with_default (redos lv Plain ts) ≡ starts_with_default ts
  same_starts_with_default none = refl
  same_starts_with_default (more t ts) = same_is_default _ t

  pub same_has_named : (ts : Trees) → has_named (redos lv Plain ts) ≡ has_named ts
  same_has_named none = refl
  same_has_named (more t ts) = ap₂ (λ x y. x || y) (same_is_named _ t) (same_has_named ts)

  pub same_has_default : (ts : Trees) → has_default (redos lv Plain ts) ≡ has_default ts
  same_has_default none = refl
  same_has_default (more t ts) = ap₂ (λ x y. x || y) (same_is_default _ t) (same_has_default ts)

  pub same_has_namespace : (ts : Trees) → has_namespace (redos lv Plain ts) ≡ has_namespace ts
  same_has_namespace none = refl
  same_has_namespace (more t ts) = ap₂ (λ x y. x || y) (same_is_namespace _ t) (same_has_namespace ts)

  pub same_has_other : (ts : Trees) → has_other (redos lv Plain ts) ≡ has_other ts
  same_has_other none = refl
  same_has_other (more t ts) = ap₂ (λ x y. x || y) (same_is_no_namespace _ t) (same_has_other ts)

  pub same_spread : (spread : Option Span) → is_some (placed spread) ≡ is_some spread
  same_spread None = refl
  same_spread (Some span) = refl

  -- ---- words

  mutual
    pub same_starts_with_word : (m : Mode) (t : Tree) → starts_with_word (redo lv m t) ≡ starts_with_word t
    same_starts_with_word md (update_expr span op true arg) = refl
    same_starts_with_word md (update_expr span op false arg) = same_starts_with_word _ arg
    same_starts_with_word md (arrow_expr span params body true) = refl
    same_starts_with_word md (arrow_expr span params body false) = same_alone_starts_with_word params
    same_starts_with_word md (bin_expr span op left right) = same_starts_with_word _ left
    same_starts_with_word md (assign_expr span op left right) = same_starts_with_word _ left
    same_starts_with_word md (cond_expr span test cons alt) = same_starts_with_word _ test
    same_starts_with_word md (seq_expr span exprs) = same_first_starts_with_word exprs
    same_starts_with_word md (call_expr span callee args) = same_starts_with_word _ callee
    same_starts_with_word md (member_expr span obj prop) = same_starts_with_word _ obj
    same_starts_with_word md (opt_chain_expr span optional base) = same_starts_with_word _ base
    same_starts_with_word md (opt_call span callee args) = same_starts_with_word _ callee
    same_starts_with_word md (tagged_tpl span tag tpl_) = same_starts_with_word _ tag
    same_starts_with_word md (expr_or_spread span None e) = same_starts_with_word _ e
    same_starts_with_word md (assign_pat span left right) = same_starts_with_word _ left
    same_starts_with_word md (expr_pat e) = same_starts_with_word _ e
    same_starts_with_word md (expr_stmt span e) = same_starts_with_word _ e
    same_starts_with_word md _ = refl

    same_first_starts_with_word : (ts : Trees) → first_starts_with_word (redos lv Plain ts) ≡ first_starts_with_word ts
    same_first_starts_with_word none = refl
    same_first_starts_with_word (more t ts) = same_starts_with_word _ t

    same_alone_starts_with_word : (ts : Trees) → alone_starts_with_word (redos lv Plain ts) ≡ alone_starts_with_word ts
    same_alone_starts_with_word none = refl
    same_alone_starts_with_word (more t none) = same_starts_with_word _ t
    same_alone_starts_with_word (more t (more u ts)) = refl

  mutual
    pub same_ends_with_word : (m : Mode) (t : Tree) → ends_with_word (redo lv m t) ≡ ends_with_word t
    same_ends_with_word md (member_expr span obj (computed_prop_name at e)) = refl
    same_ends_with_word md (member_expr span obj _) = refl
    same_ends_with_word md (rest_pat span dots arg) = same_ends_with_word _ arg
    same_ends_with_word md (assign_pat span left right) = same_ends_with_word _ right
    same_ends_with_word md (expr_pat e) = same_ends_with_word _ e
    same_ends_with_word md (var_decl span kind decls) = same_last_ends_with_word decls
    same_ends_with_word md (using_decl span is_await decls) = same_last_ends_with_word decls
    same_ends_with_word md (var_declarator span name init) = if_same (same_is_there _ init) (same_ends_with_word _ init) (same_ends_with_word _ name)
    same_ends_with_word md _ = refl

    same_last_ends_with_word : (ts : Trees) → last_ends_with_word (redos lv Plain ts) ≡ last_ends_with_word ts
    same_last_ends_with_word none = refl
    same_last_ends_with_word (more t none) = same_ends_with_word _ t
    same_last_ends_with_word (more t (more u ts)) = same_last_ends_with_word (more u ts)

  -- ---- operators

  pub same_is_plus : (m : Mode) (t : Tree) → is_plus (redo lv m t) ≡ is_plus t
  same_is_plus md (update_expr span op true arg) = refl
  same_is_plus md (update_expr span op false arg) = refl
  same_is_plus md _ = refl

  pub same_is_minus : (m : Mode) (t : Tree) → is_minus (redo lv m t) ≡ is_minus t
  same_is_minus md (update_expr span op true arg) = refl
  same_is_minus md (update_expr span op false arg) = refl
  same_is_minus md _ = refl

  pub same_is_decrement : (m : Mode) (t : Tree) → is_decrement (redo lv m t) ≡ is_decrement t
  same_is_decrement md (update_expr span op prefix arg) = refl
  same_is_decrement md _ = refl

  pub same_is_postfix_decrement : (m : Mode) (t : Tree) → is_postfix_decrement (redo lv m t) ≡ is_postfix_decrement t
  same_is_postfix_decrement md (update_expr span op true arg) = refl
  same_is_postfix_decrement md (update_expr span op false arg) = refl
  same_is_postfix_decrement md _ = refl

  pub same_is_not_of_decrement : (m : Mode) (t : Tree) → is_not_of_decrement (redo lv m t) ≡ is_not_of_decrement t
  same_is_not_of_decrement md (unary_expr span op arg) = ap (λ b. op == bang_kind && b) (same_is_decrement _ arg)
  same_is_not_of_decrement md _ = refl

  mutual
    pub same_starts_with_regexp : (m : Mode) (t : Tree) → starts_with_regexp (redo lv m t) ≡ starts_with_regexp t
    same_starts_with_regexp md (regex_lit span body flags) = refl
    same_starts_with_regexp md (bin_expr span op left right) = same_starts_with_regexp _ left
    same_starts_with_regexp md (assign_expr span op left right) = same_starts_with_regexp _ left
    same_starts_with_regexp md (seq_expr span exprs) = same_first_starts_with_regexp exprs
    same_starts_with_regexp md (cond_expr span test cons alt) = same_starts_with_regexp _ test
    same_starts_with_regexp md (call_expr span callee args) = same_starts_with_regexp _ callee
    same_starts_with_regexp md (member_expr span obj prop) = same_starts_with_regexp _ obj
    same_starts_with_regexp md (opt_chain_expr span optional base) = same_starts_with_regexp _ base
    same_starts_with_regexp md (opt_call span callee args) = same_starts_with_regexp _ callee
    same_starts_with_regexp md (tagged_tpl span tag tpl_) = same_starts_with_regexp _ tag
    same_starts_with_regexp md (update_expr span op false arg) = same_starts_with_regexp _ arg
    same_starts_with_regexp md (update_expr span op true arg) = refl
    same_starts_with_regexp md _ = refl

    same_first_starts_with_regexp : (ts : Trees) → first_starts_with_regexp (redos lv Plain ts) ≡ first_starts_with_regexp ts
    same_first_starts_with_regexp none = refl
    same_first_starts_with_regexp (more t ts) = same_starts_with_regexp _ t

  first_mode : (m : Mode) (t : Tree) → (n : Mode) × (first_operand (redo lv m t) ≡ redo lv n (first_operand t))
  first_mode md (bin_expr span op left right) = first_mode Plain left
  first_mode md _ = (md, refl)

  pub same_gap_before : (m : Mode) (op : ℕ) (t : Tree) → gap_before op (redo lv m t) ≡ gap_before op t
  same_gap_before md op t = rw (same_ends_with_word md t, same_is_postfix_decrement md t) refl

  pub same_gap_after : (m : Mode) (op : ℕ) (t : Tree) → gap_after op (redo lv m t) ≡ gap_after op t
  same_gap_after md op t = let z = first_mode md t in
      rw (ap is_plus z.1 ∙ same_is_plus z.0 (first_operand t), same_starts_with_word md t, ap is_minus z.1 ∙ same_is_minus z.0 (first_operand t), ap is_not_of_decrement z.1 ∙ same_is_not_of_decrement z.0 (first_operand t), same_starts_with_regexp md t) refl

  pub same_gap_of_unary : (m : Mode) (op : ℕ) (t : Tree) → gap_of_unary op (redo lv m t) ≡ gap_of_unary op t
  same_gap_of_unary md op t = rw (same_starts_with_word _ t, same_is_plus _ t, same_is_minus _ t) refl
