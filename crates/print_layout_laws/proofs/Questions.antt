-- What a layout asks of trees is the same of a tree with or without places and raw texts.
use Rattle.std.proofs.Common.{◌≡◌, ℕ, ◌+◌, Bool, true, false, not, ◌&&◌, ◌||◌, ◌==◌, Option, Some, None, is_some, refl, ap, ap₂}
use Rattle.base_proofs.proofs.Bools.{if_same}
use Rattle.base_token.specs.declared.place.Span.{Span}
use Rattle.base_token.specs.Kinds.{bang_kind}
use Rattle.tree_spec.specs.Places.{no_place, place_of}
use Rattle.tree_spec.specs.Tree.{Tree, Trees, none, more, absent, hole, list, seq_expr, block_stmt, var_decl, using_decl, str_lit, computed_prop_name, array_pat, object_pat, rest_pat, var_declarator, binding_ident, import_default_specifier, import_named_specifier, export_namespace_specifier, expr_pat, bin_expr, unary_expr, update_expr, arrow_expr, member_expr, opt_chain_expr, opt_call, call_expr, cond_expr, assign_expr, tagged_tpl, expr_or_spread, assign_pat, expr_stmt, regex_lit}
use Rattle.print_gaps.specs.Edges.{is_there, starts_with_word, first_starts_with_word, alone_starts_with_word, ends_with_word, last_ends_with_word, first_operand, is_plus, is_minus, is_decrement, is_postfix_decrement, is_not_of_decrement, starts_with_regexp, first_starts_with_regexp, gap_before, gap_after, gap_of_unary}
use Rattle.print_layout_spec.specs.Layout.{is_empty, count, ends_with_hole, is_block, is_sequence, is_variables, is_bracketed_key, is_computed, is_bracketed_name, starts_bracketed, is_one_name, has_arguments, is_default, starts_with_default, is_named, has_named, has_default, is_namespace, is_no_namespace, has_namespace, has_other}
use Rattle.print_layout_laws.specs.Bare.{kept_place, kept_spread, bare, bares}

module _ (places raws : Bool) where
  pub same_is_there : (t : Tree) → is_there (bare places raws t) ≡ is_there t
  same_is_there absent = refl
  same_is_there _ = refl

  pub same_is_block : (t : Tree) → is_block (bare places raws t) ≡ is_block t
  same_is_block (block_stmt span stmts) = refl
  same_is_block _ = refl

  pub same_is_sequence : (t : Tree) → is_sequence (bare places raws t) ≡ is_sequence t
  same_is_sequence (seq_expr span exprs) = refl
  same_is_sequence _ = refl

  pub same_is_variables : (t : Tree) → is_variables (bare places raws t) ≡ is_variables t
  same_is_variables (var_decl span kind decls) = refl
  same_is_variables (using_decl span is_await decls) = refl
  same_is_variables _ = refl

  pub same_is_bracketed_key : (t : Tree) → is_bracketed_key (bare places raws t) ≡ is_bracketed_key t
  same_is_bracketed_key (str_lit span units raw) = refl
  same_is_bracketed_key (computed_prop_name span e) = refl
  same_is_bracketed_key _ = refl

  pub same_is_computed : (t : Tree) → is_computed (bare places raws t) ≡ is_computed t
  same_is_computed (computed_prop_name span e) = refl
  same_is_computed _ = refl

  pub same_is_bracketed_name : (t : Tree) → is_bracketed_name (bare places raws t) ≡ is_bracketed_name t
  same_is_bracketed_name (array_pat span elems) = refl
  same_is_bracketed_name (object_pat span props) = refl
  same_is_bracketed_name (rest_pat span dots arg) = refl
  same_is_bracketed_name _ = refl

  pub same_is_default : (t : Tree) → is_default (bare places raws t) ≡ is_default t
  same_is_default (import_default_specifier span local) = refl
  same_is_default _ = refl

  pub same_is_named : (t : Tree) → is_named (bare places raws t) ≡ is_named t
  same_is_named (import_named_specifier span local imported) = refl
  same_is_named _ = refl

  pub same_is_namespace : (t : Tree) → is_namespace (bare places raws t) ≡ is_namespace t
  same_is_namespace (export_namespace_specifier span name) = refl
  same_is_namespace _ = refl

  pub same_is_no_namespace : (t : Tree) → is_no_namespace (bare places raws t) ≡ is_no_namespace t
  same_is_no_namespace t = ap (λ b. not b) (same_is_namespace t)

  pub same_is_empty : (ts : Trees) → is_empty (bares places raws ts) ≡ is_empty ts
  same_is_empty none = refl
  same_is_empty (more t ts) = refl

  pub same_count : (ts : Trees) → count (bares places raws ts) ≡ count ts
  same_count none = refl
  same_count (more t ts) = ap (λ n. n + 1) (same_count ts)

  pub same_ends_with_hole : (ts : Trees) → ends_with_hole (bares places raws ts) ≡ ends_with_hole ts
  same_ends_with_hole none = refl
  same_ends_with_hole (more hole none) = refl
  same_ends_with_hole (more _ none) = refl
  same_ends_with_hole (more hole (more u ts)) = same_ends_with_hole (more u ts)
  same_ends_with_hole (more t (more u ts)) = same_ends_with_hole (more u ts)

  pub same_starts_bracketed : (ts : Trees) → starts_bracketed (bares places raws ts) ≡ starts_bracketed ts
  same_starts_bracketed (more (var_declarator span name init) ds) = same_is_bracketed_name name
  same_starts_bracketed _ = refl

  pub same_is_one_name : (ts : Trees) → is_one_name (bares places raws ts) ≡ is_one_name ts
  same_is_one_name none = refl
  same_is_one_name (more (binding_ident span id) none) = refl
  same_is_one_name (more _ none) = refl
  same_is_one_name (more (binding_ident span id) (more u ts)) = refl
  same_is_one_name (more _ (more u ts)) = refl

  pub same_has_arguments : (t : Tree) → has_arguments (bare places raws t) ≡ has_arguments t
  same_has_arguments (list none) = refl
  same_has_arguments (list (more t ts)) = refl
  same_has_arguments _ = refl

  pub same_starts_with_default : (ts : Trees) → starts_with_default (bares places raws ts) ≡ starts_with_default ts
  same_starts_with_default none = refl
  same_starts_with_default (more t ts) = same_is_default t

  pub same_has_named : (ts : Trees) → has_named (bares places raws ts) ≡ has_named ts
  same_has_named none = refl
  same_has_named (more t ts) = ap₂ (λ x y. x || y) (same_is_named t) (same_has_named ts)

  pub same_has_default : (ts : Trees) → has_default (bares places raws ts) ≡ has_default ts
  same_has_default none = refl
  same_has_default (more t ts) = ap₂ (λ x y. x || y) (same_is_default t) (same_has_default ts)

  pub same_has_namespace : (ts : Trees) → has_namespace (bares places raws ts) ≡ has_namespace ts
  same_has_namespace none = refl
  same_has_namespace (more t ts) = ap₂ (λ x y. x || y) (same_is_namespace t) (same_has_namespace ts)

  pub same_has_other : (ts : Trees) → has_other (bares places raws ts) ≡ has_other ts
  same_has_other none = refl
  same_has_other (more t ts) = ap₂ (λ x y. x || y) (same_is_no_namespace t) (same_has_other ts)

  pub same_spread : (spread : Option Span) → is_some (kept_spread places spread) ≡ is_some spread
  same_spread None = refl
  same_spread (Some span) = refl

  -- ---- words

  mutual
    pub same_starts_with_word : (t : Tree) → starts_with_word (bare places raws t) ≡ starts_with_word t
    same_starts_with_word (update_expr span op true arg) = refl
    same_starts_with_word (update_expr span op false arg) = same_starts_with_word arg
    same_starts_with_word (arrow_expr span params body true) = refl
    same_starts_with_word (arrow_expr span params body false) = same_alone_starts_with_word params
    same_starts_with_word (bin_expr span op left right) = same_starts_with_word left
    same_starts_with_word (assign_expr span op left right) = same_starts_with_word left
    same_starts_with_word (cond_expr span test cons alt) = same_starts_with_word test
    same_starts_with_word (seq_expr span exprs) = same_first_starts_with_word exprs
    same_starts_with_word (call_expr span callee args) = same_starts_with_word callee
    same_starts_with_word (member_expr span obj prop) = same_starts_with_word obj
    same_starts_with_word (opt_chain_expr span optional base) = same_starts_with_word base
    same_starts_with_word (opt_call span callee args) = same_starts_with_word callee
    same_starts_with_word (tagged_tpl span tag tpl_) = same_starts_with_word tag
    same_starts_with_word (expr_or_spread span None e) = same_starts_with_word e
    same_starts_with_word (assign_pat span left right) = same_starts_with_word left
    same_starts_with_word (expr_pat e) = same_starts_with_word e
    same_starts_with_word (expr_stmt span e) = same_starts_with_word e
    same_starts_with_word _ = refl

    same_first_starts_with_word : (ts : Trees) → first_starts_with_word (bares places raws ts) ≡ first_starts_with_word ts
    same_first_starts_with_word none = refl
    same_first_starts_with_word (more t ts) = same_starts_with_word t

    same_alone_starts_with_word : (ts : Trees) → alone_starts_with_word (bares places raws ts) ≡ alone_starts_with_word ts
    same_alone_starts_with_word none = refl
    same_alone_starts_with_word (more t none) = same_starts_with_word t
    same_alone_starts_with_word (more t (more u ts)) = refl

  mutual
    pub same_ends_with_word : (t : Tree) → ends_with_word (bare places raws t) ≡ ends_with_word t
    same_ends_with_word (member_expr span obj (computed_prop_name at e)) = refl
    same_ends_with_word (member_expr span obj _) = refl
    same_ends_with_word (rest_pat span dots arg) = same_ends_with_word arg
    same_ends_with_word (assign_pat span left right) = same_ends_with_word right
    same_ends_with_word (expr_pat e) = same_ends_with_word e
    same_ends_with_word (var_decl span kind decls) = same_last_ends_with_word decls
    same_ends_with_word (using_decl span is_await decls) = same_last_ends_with_word decls
    same_ends_with_word (var_declarator span name init) = if_same (same_is_there init) (same_ends_with_word init) (same_ends_with_word name)
    same_ends_with_word _ = refl

    same_last_ends_with_word : (ts : Trees) → last_ends_with_word (bares places raws ts) ≡ last_ends_with_word ts
    same_last_ends_with_word none = refl
    same_last_ends_with_word (more t none) = same_ends_with_word t
    same_last_ends_with_word (more t (more u ts)) = same_last_ends_with_word (more u ts)

  -- ---- operators

  pub same_is_plus : (t : Tree) → is_plus (bare places raws t) ≡ is_plus t
  same_is_plus (update_expr span op true arg) = refl
  same_is_plus (update_expr span op false arg) = refl
  same_is_plus _ = refl

  pub same_is_minus : (t : Tree) → is_minus (bare places raws t) ≡ is_minus t
  same_is_minus (update_expr span op true arg) = refl
  same_is_minus (update_expr span op false arg) = refl
  same_is_minus _ = refl

  pub same_is_decrement : (t : Tree) → is_decrement (bare places raws t) ≡ is_decrement t
  same_is_decrement (update_expr span op prefix arg) = refl
  same_is_decrement _ = refl

  pub same_is_postfix_decrement : (t : Tree) → is_postfix_decrement (bare places raws t) ≡ is_postfix_decrement t
  same_is_postfix_decrement (update_expr span op true arg) = refl
  same_is_postfix_decrement (update_expr span op false arg) = refl
  same_is_postfix_decrement _ = refl

  pub same_is_not_of_decrement : (t : Tree) → is_not_of_decrement (bare places raws t) ≡ is_not_of_decrement t
  same_is_not_of_decrement (unary_expr span op arg) = ap (λ b. op == bang_kind && b) (same_is_decrement arg)
  same_is_not_of_decrement _ = refl

  mutual
    pub same_starts_with_regexp : (t : Tree) → starts_with_regexp (bare places raws t) ≡ starts_with_regexp t
    same_starts_with_regexp (regex_lit span body flags) = refl
    same_starts_with_regexp (bin_expr span op left right) = same_starts_with_regexp left
    same_starts_with_regexp (assign_expr span op left right) = same_starts_with_regexp left
    same_starts_with_regexp (cond_expr span test cons alt) = same_starts_with_regexp test
    same_starts_with_regexp (seq_expr span exprs) = same_first_starts_with_regexp exprs
    same_starts_with_regexp (call_expr span callee args) = same_starts_with_regexp callee
    same_starts_with_regexp (member_expr span obj prop) = same_starts_with_regexp obj
    same_starts_with_regexp (opt_chain_expr span optional base) = same_starts_with_regexp base
    same_starts_with_regexp (opt_call span callee args) = same_starts_with_regexp callee
    same_starts_with_regexp (tagged_tpl span tag tpl_) = same_starts_with_regexp tag
    same_starts_with_regexp (update_expr span op false arg) = same_starts_with_regexp arg
    same_starts_with_regexp (update_expr span op true arg) = refl
    same_starts_with_regexp _ = refl

    same_first_starts_with_regexp : (ts : Trees) → first_starts_with_regexp (bares places raws ts) ≡ first_starts_with_regexp ts
    same_first_starts_with_regexp none = refl
    same_first_starts_with_regexp (more t ts) = same_starts_with_regexp t

  bare_first_operand : (t : Tree) → first_operand (bare places raws t) ≡ bare places raws (first_operand t)
  bare_first_operand (bin_expr span op left right) = bare_first_operand left
  bare_first_operand _ = refl

  pub same_gap_before : (op : ℕ) (t : Tree) → gap_before op (bare places raws t) ≡ gap_before op t
  same_gap_before op t = rw (same_ends_with_word t, same_is_postfix_decrement t) refl

  pub same_gap_after : (op : ℕ) (t : Tree) → gap_after op (bare places raws t) ≡ gap_after op t
  same_gap_after op t = rw (bare_first_operand t, same_starts_with_word t, same_is_plus (first_operand t), same_is_minus (first_operand t), same_is_not_of_decrement (first_operand t), same_starts_with_regexp t) refl

  pub same_gap_of_unary : (op : ℕ) (t : Tree) → gap_of_unary op (bare places raws t) ≡ gap_of_unary op t
  same_gap_of_unary op t = rw (same_starts_with_word t, same_is_plus t, same_is_minus t) refl

  -- ---- places

  no_place_kept : no_place ≡ kept_place places no_place
  no_place_kept = by_case places
    where
      by_case : (b : Bool) → no_place ≡ kept_place b no_place
      by_case true = refl
      by_case false = refl

  pub bare_place : (t : Tree) → place_of (bare places raws t) ≡ kept_place places (place_of t)
  bare_place (expr_pat e) = bare_place e
  bare_place (list items) = no_place_kept
  bare_place absent = no_place_kept
  bare_place hole = no_place_kept
  bare_place _ = refl
