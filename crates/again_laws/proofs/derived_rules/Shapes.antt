-- What is asked of the shape of a tree has the same answer of a tree that is given anew.
use Rattle.std.proofs.Common.{Bool, ap, ap₂, not, refl, sym, ℕ, ◌&&◌, ◌==◌, ◌||◌, ◌∙◌, ◌≡◌}
use Rattle.base_token.specs.Kinds.{assign_kind}
use Rattle.tree_spec.specs.Tree.{Tree, absent, array_pat, assign_pat, assign_pat_prop, big_int_lit, binding_ident, block_stmt, break_stmt, class_decl, computed_prop_name, continue_stmt, debugger_stmt, do_while_stmt, empty_stmt, expr_or_spread, expr_pat, expr_stmt, fn_decl, for_in_stmt, for_of_stmt, for_stmt, function, hole, ident, ident_name, if_stmt, key_value_pat_prop, labeled_stmt, member_expr, number_lit, object_pat, opt_chain_expr, param, paren_expr, private_name, rest_pat, return_stmt, str_lit, super_prop_expr, switch_stmt, throw_stmt, try_stmt, using_decl, var_decl, var_declarator, while_stmt, with_stmt}
use Rattle.grammar_spec.specs.Tokens.Shape.{is_absent, is_assigned, is_binding, is_block, is_bound_name, is_chain, is_declaration, is_declarator, is_directive, is_element, is_hole, is_item, is_item_pat, is_key, is_name, is_pattern_prop, is_place, is_plain_function, is_private, is_rest, is_simple, is_statement, is_structured, is_target, is_target_expr, is_word_name}
use Rattle.grammar_spec.specs.Children.{is_ident}
use Rattle.print_layout_spec.specs.Layout.{is_variables}
use Rattle.again_laws.specs.Derived.Redo.{Leaves, Mode, Plain, Redone, kept_at, redo}

-- A question that has the same answer however the tree is given anew has it of the two trees.
pub alike : {A : Type 0} (p : Tree → A) → ((l : Leaves) (m : Mode) (t : Tree) → p (redo l m t) ≡ p t) → (l : Leaves) (m : Mode) (t u : Tree) → Redone l m t u → p u ≡ p t
alike p f l m t u s = sym (f (kept_at l.written) Plain u) ∙ (ap p (s.so Plain) ∙ f l m t)

pub re_is_absent : (l : Leaves) (m : Mode) (t : Tree) → is_absent (redo l m t) ≡ is_absent t
re_is_absent lv md absent = refl
re_is_absent lv md _ = refl

pub re_is_hole : (l : Leaves) (m : Mode) (t : Tree) → is_hole (redo l m t) ≡ is_hole t
re_is_hole lv md hole = refl
re_is_hole lv md _ = refl

pub re_is_block : (l : Leaves) (m : Mode) (t : Tree) → is_block (redo l m t) ≡ is_block t
re_is_block lv md (block_stmt s ss) = refl
re_is_block lv md _ = refl

pub re_is_private : (l : Leaves) (m : Mode) (t : Tree) → is_private (redo l m t) ≡ is_private t
re_is_private lv md (private_name s n) = refl
re_is_private lv md _ = refl

pub re_is_chain : (l : Leaves) (m : Mode) (t : Tree) → is_chain (redo l m t) ≡ is_chain t
re_is_chain lv md (opt_chain_expr s o b) = refl
re_is_chain lv md _ = refl

pub re_is_name : (l : Leaves) (m : Mode) (t : Tree) → is_name (redo l m t) ≡ is_name t
re_is_name lv md (ident s n) = refl
re_is_name lv md _ = refl

pub re_is_binding : (l : Leaves) (m : Mode) (t : Tree) → is_binding (redo l m t) ≡ is_binding t
re_is_binding lv md (binding_ident s i) = refl
re_is_binding lv md (array_pat s xs) = refl
re_is_binding lv md (object_pat s ps) = refl
re_is_binding lv md _ = refl

pub re_is_target_expr : (l : Leaves) (m : Mode) (t : Tree) → is_target_expr (redo l m t) ≡ is_target_expr t
re_is_target_expr lv md (member_expr s o p) = refl
re_is_target_expr lv md (super_prop_expr s o p) = refl
re_is_target_expr lv md (paren_expr s e) = refl
re_is_target_expr lv md _ = refl

pub re_is_bound_name : (l : Leaves) (m : Mode) (t : Tree) → is_bound_name (redo l m t) ≡ is_bound_name t
re_is_bound_name lv md (binding_ident s i) = refl
re_is_bound_name lv md _ = refl

pub re_is_structured : (l : Leaves) (m : Mode) (t : Tree) → is_structured (redo l m t) ≡ is_structured t
re_is_structured lv md (array_pat s xs) = refl
re_is_structured lv md (object_pat s ps) = refl
re_is_structured lv md _ = refl

pub re_is_pattern_prop : (l : Leaves) (m : Mode) (t : Tree) → is_pattern_prop (redo l m t) ≡ is_pattern_prop t
re_is_pattern_prop lv md (key_value_pat_prop s k v) = refl
re_is_pattern_prop lv md (assign_pat_prop s k v) = refl
re_is_pattern_prop lv md (rest_pat s d a) = refl
re_is_pattern_prop lv md _ = refl

pub re_is_statement : (l : Leaves) (m : Mode) (t : Tree) → is_statement (redo l m t) ≡ is_statement t
re_is_statement lv md (block_stmt s ss) = refl
re_is_statement lv md (empty_stmt s) = refl
re_is_statement lv md (debugger_stmt s) = refl
re_is_statement lv md (with_stmt s o b) = refl
re_is_statement lv md (return_stmt s a) = refl
re_is_statement lv md (labeled_stmt s l b) = refl
re_is_statement lv md (break_stmt s l) = refl
re_is_statement lv md (continue_stmt s l) = refl
re_is_statement lv md (if_stmt s t a b) = refl
re_is_statement lv md (switch_stmt s d cs) = refl
re_is_statement lv md (throw_stmt s a) = refl
re_is_statement lv md (try_stmt s b h f) = refl
re_is_statement lv md (while_stmt s t b) = refl
re_is_statement lv md (do_while_stmt s t b) = refl
re_is_statement lv md (for_stmt s i t u b) = refl
re_is_statement lv md (for_in_stmt s l r b) = refl
re_is_statement lv md (for_of_stmt s w l r b) = refl
re_is_statement lv md (expr_stmt s e) = refl
re_is_statement lv md (var_decl s k ds) = refl
re_is_statement lv md _ = refl

pub re_is_declaration : (l : Leaves) (m : Mode) (t : Tree) → is_declaration (redo l m t) ≡ is_declaration t
re_is_declaration lv md (class_decl s n k) = refl
re_is_declaration lv md (fn_decl s n f) = refl
re_is_declaration lv md (var_decl s k ds) = refl
re_is_declaration lv md (using_decl s w ds) = refl
re_is_declaration lv md _ = refl

pub re_is_element : (l : Leaves) (m : Mode) (t : Tree) → is_element (redo l m t) ≡ is_element t
re_is_element lv md (expr_or_spread s d e) = refl
re_is_element lv md _ = refl

pub re_is_key : (l : Leaves) (m : Mode) (t : Tree) → is_key (redo l m t) ≡ is_key t
re_is_key lv md (ident_name s n) = refl
re_is_key lv md (str_lit s u w) = refl
re_is_key lv md (number_lit s v w) = refl
re_is_key lv md (big_int_lit s r d w) = refl
re_is_key lv md (computed_prop_name s e) = refl
re_is_key lv md _ = refl

pub re_is_word_name : (l : Leaves) (m : Mode) (t : Tree) → is_word_name (redo l m t) ≡ is_word_name t
re_is_word_name lv md (ident_name s n) = refl
re_is_word_name lv md _ = refl

pub re_is_declarator : (l : Leaves) (m : Mode) (t : Tree) → is_declarator (redo l m t) ≡ is_declarator t
re_is_declarator lv md (var_declarator s n v) = refl
re_is_declarator lv md _ = refl

pub re_is_ident : (l : Leaves) (m : Mode) (t : Tree) → is_ident (redo l m t) ≡ is_ident t
re_is_ident lv md (ident s n) = refl
re_is_ident lv md _ = refl

pub re_is_variables : (l : Leaves) (m : Mode) (t : Tree) → is_variables (redo l m t) ≡ is_variables t
re_is_variables lv md (var_decl s k ds) = refl
re_is_variables lv md (using_decl s w ds) = refl
re_is_variables lv md _ = refl

pub re_is_simple : (l : Leaves) (m : Mode) (t : Tree) → is_simple (redo l m t) ≡ is_simple t
re_is_simple lv md (ident s n) = refl
re_is_simple lv md (member_expr s o p) = refl
re_is_simple lv md (super_prop_expr s o p) = refl
re_is_simple lv md (paren_expr s e) = re_is_simple lv Plain e
re_is_simple lv md _ = refl

pub re_is_target : (op : ℕ) (l : Leaves) (m : Mode) (t : Tree) → is_target op (redo l m t) ≡ is_target op t
re_is_target op lv md t = ap₂ (λ (x y : Bool). x || y) (re_is_bound_name lv md t) (ap₂ (λ (x y : Bool). x || y) (ap₂ (λ (x y : Bool). x && y) (re_is_target_expr lv md t) (re_is_simple lv md t)) (ap (λ (x : Bool). (op == assign_kind) && x) (re_is_structured lv md t)))

pub re_is_assigned : (l : Leaves) (m : Mode) (t : Tree) → is_assigned (redo l m t) ≡ is_assigned t
re_is_assigned lv md (expr_pat e) = ap₂ (λ (x y : Bool). x && y) (re_is_target_expr lv Plain e) (re_is_simple lv Plain e)
re_is_assigned lv md _ = refl

pub re_is_place : (b : Bool) (l : Leaves) (m : Mode) (t : Tree) → is_place b (redo l m t) ≡ is_place b t
re_is_place b lv md t = ap₂ (λ (x y : Bool). x || y) (re_is_binding lv md t) (ap (λ (x : Bool). not b && x) (re_is_assigned lv md t))

pub re_is_item_pat : (b : Bool) (l : Leaves) (m : Mode) (t : Tree) → is_item_pat b (redo l m t) ≡ is_item_pat b t
re_is_item_pat b lv md (assign_pat s p e) = re_is_place b lv Plain p
re_is_item_pat b lv md (rest_pat s d p) = re_is_place b lv Plain p
re_is_item_pat b lv md (expr_pat e) = re_is_place b lv md (expr_pat e)
re_is_item_pat b lv md _ = refl

pub re_is_rest : (l : Leaves) (m : Mode) (t : Tree) → is_rest (redo l m t) ≡ is_rest t
re_is_rest lv md (rest_pat s d a) = refl
re_is_rest lv md (param s ds (rest_pat t d a)) = refl
re_is_rest lv md (param s ds _) = refl
re_is_rest lv md _ = refl

pub re_is_item : (l : Leaves) (m : Mode) (t : Tree) → is_item (redo l m t) ≡ is_item t
re_is_item lv md t = ap₂ (λ (x y : Bool). x || y) (re_is_statement lv md t) (re_is_declaration lv md t)

pub re_is_plain_function : (l : Leaves) (m : Mode) (t : Tree) → is_plain_function (redo l m t) ≡ is_plain_function t
re_is_plain_function lv md (fn_decl s n (function t ps ds b g a)) = refl
re_is_plain_function lv md (fn_decl s n _) = refl
re_is_plain_function lv md _ = refl

pub re_is_directive : (l : Leaves) (m : Mode) (t : Tree) → is_directive (redo l m t) ≡ is_directive t
re_is_directive lv md (expr_stmt s (str_lit t u w)) = refl
re_is_directive lv md (expr_stmt s _) = refl
re_is_directive lv md _ = refl
