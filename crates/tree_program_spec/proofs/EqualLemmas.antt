-- Written by tools/tree/equal.py from tools/tree/tree.table. Don't edit this file.
-- That the test of equality is one.
use Rattle.std.proofs.Common.{◌≡◌, ◌∙◌, ℕ, Bool, true, false, ◌&&◌, nat_eq, List, Option, Some, None, bytes_eq, refl, ap}
use Rattle.std.specs.Ordering.{int_eq}
use Rattle.std.specs.Bool.{Decides}
use Rattle.std.proofs.Math.Bool.{beq}
use Rattle.std.proofs.lemmas.Bool.{and_parts}
use Rattle.std.proofs.lemmas.Bool.Decides.{Decides-eqb, Decides-int_eq}
use Rattle.std.proofs.lemmas.Slice.Eq.{bytes_eq-Decides}
use Rattle.base_token.specs.declared.place.Span.{Span}
use Rattle.base_number.specs.Numbers.{SpecNumber, Scaled, InRadix}
use Rattle.tree_program_spec.specs.Equal.{equal_span, equal_place, equal_text, equal_number, equal, equal_all}
use Rattle.tree_spec.specs.Tree.{Tree, Trees, none, more, script, es_module, import_decl, export_decl, named_export, export_default_decl, export_default_expr, export_all, import_named_specifier, import_default_specifier, import_star_as_specifier, export_namespace_specifier, export_default_specifier, export_named_specifier, block_stmt, empty_stmt, debugger_stmt, with_stmt, return_stmt, labeled_stmt, break_stmt, continue_stmt, if_stmt, switch_stmt, switch_case, throw_stmt, try_stmt, catch_clause, while_stmt, do_while_stmt, for_stmt, for_in_stmt, for_of_stmt, expr_stmt, class_decl, fn_decl, var_decl, using_decl, var_declarator, function, param, decorator, class, constructor, class_method, private_method, class_prop, private_prop, static_block, auto_accessor, ident_name, computed_prop_name, private_name, this_expr, array_lit, object_lit, fn_expr, unary_expr, update_expr, bin_expr, assign_expr, member_expr, super_prop_expr, cond_expr, call_expr, new_expr, seq_expr, ident, tpl, tpl_element, tagged_tpl, arrow_expr, class_expr, yield_expr, meta_prop_expr, await_expr, paren_expr, opt_chain_expr, opt_call, super, import, invalid, expr_or_spread, spread_element, key_value_prop, assign_prop, getter_prop, setter_prop, method_prop, str_lit, bool_lit, null_lit, number_lit, big_int_lit, regex_lit, binding_ident, array_pat, rest_pat, object_pat, assign_pat, key_value_pat_prop, assign_pat_prop, expr_pat, invalid_pat, invalid_target, list, absent, hole}

no : {A : Type 0} → false ≡ true → A
no h = absurd cc

both : {x y : Bool} → x ≡ true → y ≡ true → (x && y) ≡ true
both h k = rw h k

same_nat_eq : (n : ℕ) → nat_eq n n ≡ true
same_nat_eq n = (Decides-eqb n n).1 refl

from_nat_eq : (n m : ℕ) → nat_eq n m ≡ true → n ≡ m
from_nat_eq n m = (Decides-eqb n m).0

same_beq : (a : Bool) → beq a a ≡ true
same_beq true = refl
same_beq false = refl

from_beq : (a b : Bool) → beq a b ≡ true → a ≡ b
from_beq true true h = refl
from_beq false false h = refl
from_beq true false h = no h
from_beq false true h = no h

same_bytes_eq : (s : List ℕ) → bytes_eq s s ≡ true
same_bytes_eq s = (bytes_eq-Decides s s).1 refl

from_bytes_eq : (s s2 : List ℕ) → bytes_eq s s2 ≡ true → s ≡ s2
from_bytes_eq s s2 = (bytes_eq-Decides s s2).0

same_equal_span : (a : Span) → equal_span a a ≡ true
same_equal_span a = both (same_nat_eq a.lo.0) (same_nat_eq a.hi.0)

abbrev span_at : ℕ → ℕ → Span
span_at lo hi = record { lo = record { 0 = lo }; hi = record { 0 = hi } }

from_equal_span : (a b : Span) → equal_span a b ≡ true → a ≡ b
from_equal_span a b h =
    let k = and_parts (nat_eq a.lo.0 b.lo.0) (nat_eq a.hi.0 b.hi.0) h in
    ap (λ n. span_at n a.hi.0) (from_nat_eq a.lo.0 b.lo.0 k.0) ∙ ap (λ n. span_at b.lo.0 n) (from_nat_eq a.hi.0 b.hi.0 k.1)

same_equal_place : (a : Option Span) → equal_place a a ≡ true
same_equal_place None = refl
same_equal_place (Some a) = same_equal_span a

from_equal_place : (a b : Option Span) → equal_place a b ≡ true → a ≡ b
from_equal_place None None h = refl
from_equal_place (Some a) (Some b) h = ap (λ s. Some s) (from_equal_span a b h)
from_equal_place None (Some b) h = no h
from_equal_place (Some a) None h = no h

same_equal_text : (a : Option (List ℕ)) → equal_text a a ≡ true
same_equal_text None = refl
same_equal_text (Some a) = same_bytes_eq a

from_equal_text : (a b : Option (List ℕ)) → equal_text a b ≡ true → a ≡ b
from_equal_text None None h = refl
from_equal_text (Some a) (Some b) h = ap (λ s. Some s) (from_bytes_eq a b h)
from_equal_text None (Some b) h = no h
from_equal_text (Some a) None h = no h

same_equal_number : (a : SpecNumber) → equal_number a a ≡ true
same_equal_number (Scaled digits exponent) = both (same_bytes_eq digits) ((Decides-int_eq exponent exponent).1 refl)
same_equal_number (InRadix radix digits) = both (same_nat_eq radix) (same_bytes_eq digits)

from_equal_number : (a b : SpecNumber) → equal_number a b ≡ true → a ≡ b
from_equal_number (Scaled d e) (Scaled d2 e2) h =
    let k = and_parts (bytes_eq d d2) (int_eq e e2) h in
    ap (λ x. Scaled x e) (from_bytes_eq d d2 k.0) ∙ ap (λ x. Scaled d2 x) ((Decides-int_eq e e2).0 k.1)
from_equal_number (InRadix r d) (InRadix r2 d2) h =
    let k = and_parts (nat_eq r r2) (bytes_eq d d2) h in
    ap (λ x. InRadix x d) (from_nat_eq r r2 k.0) ∙ ap (λ x. InRadix r2 x) (from_bytes_eq d d2 k.1)
from_equal_number (Scaled d e) (InRadix r d2) h = no h
from_equal_number (InRadix r d) (Scaled d2 e) h = no h

each_of_three : (a b c : Bool) → (a && (b && c)) ≡ true → (a ≡ true) × (b ≡ true) × (c ≡ true)
each_of_three a b c h = let k = and_parts a (b && c) h in let l = and_parts b c k.1 in (k.0, l.0, l.1)

each_of_four : (a b c d : Bool) → (a && (b && (c && d))) ≡ true → (a ≡ true) × (b ≡ true) × (c ≡ true) × (d ≡ true)
each_of_four a b c d h = let k = and_parts a (b && (c && d)) h in let l = each_of_three b c d k.1 in (k.0, l.0, l.1, l.2)

each_of_five : (a b c d e : Bool) → (a && (b && (c && (d && e)))) ≡ true → (a ≡ true) × (b ≡ true) × (c ≡ true) × (d ≡ true) × (e ≡ true)
each_of_five a b c d e h = let k = and_parts a (b && (c && (d && e))) h in let l = each_of_four b c d e k.1 in (k.0, l.0, l.1, l.2, l.3)

each_of_six : (a b c d e f : Bool) → (a && (b && (c && (d && (e && f))))) ≡ true → (a ≡ true) × (b ≡ true) × (c ≡ true) × (d ≡ true) × (e ≡ true) × (f ≡ true)
each_of_six a b c d e f h = let k = and_parts a (b && (c && (d && (e && f)))) h in let l = each_of_five b c d e f k.1 in (k.0, l.0, l.1, l.2, l.3, l.4)

congr_two : {A B X : Type 0} (make : A → B → X) {a a2 : A} {b b2 : B}
    → a ≡ a2 → b ≡ b2 → make a b ≡ make a2 b2
congr_two make {a = a} {a2 = a2} {b = b} {b2 = b2} pa pb =
    ap (λ x. make x b) pa ∙ ap (λ x. make a2 x) pb

congr_three : {A B C X : Type 0} (make : A → B → C → X) {a a2 : A} {b b2 : B} {c c2 : C}
    → a ≡ a2 → b ≡ b2 → c ≡ c2 → make a b c ≡ make a2 b2 c2
congr_three make {a = a} {a2 = a2} {b = b} {b2 = b2} {c = c} {c2 = c2} pa pb pc =
    ap (λ x. make x b c) pa ∙ ap (λ x. make a2 x c) pb ∙ ap (λ x. make a2 b2 x) pc

congr_four : {A B C D X : Type 0} (make : A → B → C → D → X) {a a2 : A} {b b2 : B} {c c2 : C} {d d2 : D}
    → a ≡ a2 → b ≡ b2 → c ≡ c2 → d ≡ d2 → make a b c d ≡ make a2 b2 c2 d2
congr_four make {a = a} {a2 = a2} {b = b} {b2 = b2} {c = c} {c2 = c2} {d = d} {d2 = d2} pa pb pc pd =
    ap (λ x. make x b c d) pa ∙ ap (λ x. make a2 x c d) pb ∙ ap (λ x. make a2 b2 x d) pc ∙ ap (λ x. make a2 b2 c2 x) pd

congr_five : {A B C D E X : Type 0} (make : A → B → C → D → E → X) {a a2 : A} {b b2 : B} {c c2 : C} {d d2 : D} {e e2 : E}
    → a ≡ a2 → b ≡ b2 → c ≡ c2 → d ≡ d2 → e ≡ e2 → make a b c d e ≡ make a2 b2 c2 d2 e2
congr_five make {a = a} {a2 = a2} {b = b} {b2 = b2} {c = c} {c2 = c2} {d = d} {d2 = d2} {e = e} {e2 = e2} pa pb pc pd pe =
    ap (λ x. make x b c d e) pa ∙ ap (λ x. make a2 x c d e) pb ∙ ap (λ x. make a2 b2 x d e) pc ∙ ap (λ x. make a2 b2 c2 x e) pd ∙ ap (λ x. make a2 b2 c2 d2 x) pe

congr_six : {A B C D E F X : Type 0} (make : A → B → C → D → E → F → X) {a a2 : A} {b b2 : B} {c c2 : C} {d d2 : D} {e e2 : E} {f f2 : F}
    → a ≡ a2 → b ≡ b2 → c ≡ c2 → d ≡ d2 → e ≡ e2 → f ≡ f2 → make a b c d e f ≡ make a2 b2 c2 d2 e2 f2
congr_six make {a = a} {a2 = a2} {b = b} {b2 = b2} {c = c} {c2 = c2} {d = d} {d2 = d2} {e = e} {e2 = e2} {f = f} {f2 = f2} pa pb pc pd pe pf =
    ap (λ x. make x b c d e f) pa ∙ ap (λ x. make a2 x c d e f) pb ∙ ap (λ x. make a2 b2 x d e f) pc ∙ ap (λ x. make a2 b2 c2 x e f) pd ∙ ap (λ x. make a2 b2 c2 d2 x f) pe ∙ ap (λ x. make a2 b2 c2 d2 e2 x) pf

mutual
  same_equal : (t : Tree) → equal t t ≡ true
  same_equal (script span body shebang) = both (same_equal_span span) (both (same_equal_all body) (same_equal_text shebang))
  same_equal (es_module span body shebang) = both (same_equal_span span) (both (same_equal_all body) (same_equal_text shebang))
  same_equal (import_decl span specifiers src with_) = both (same_equal_span span) (both (same_equal_all specifiers) (both (same_equal src) (same_equal with_)))
  same_equal (export_decl span decl) = both (same_equal_span span) (same_equal decl)
  same_equal (named_export span specifiers src with_) = both (same_equal_span span) (both (same_equal_all specifiers) (both (same_equal src) (same_equal with_)))
  same_equal (export_default_decl span decl) = both (same_equal_span span) (same_equal decl)
  same_equal (export_default_expr span expr) = both (same_equal_span span) (same_equal expr)
  same_equal (export_all span src with_) = both (same_equal_span span) (both (same_equal src) (same_equal with_))
  same_equal (import_named_specifier span local imported) = both (same_equal_span span) (both (same_equal local) (same_equal imported))
  same_equal (import_default_specifier span local) = both (same_equal_span span) (same_equal local)
  same_equal (import_star_as_specifier span local) = both (same_equal_span span) (same_equal local)
  same_equal (export_namespace_specifier span name) = both (same_equal_span span) (same_equal name)
  same_equal (export_default_specifier span exported) = both (same_equal_span span) (same_equal exported)
  same_equal (export_named_specifier span orig exported) = both (same_equal_span span) (both (same_equal orig) (same_equal exported))
  same_equal (block_stmt span stmts) = both (same_equal_span span) (same_equal_all stmts)
  same_equal (empty_stmt span) = same_equal_span span
  same_equal (debugger_stmt span) = same_equal_span span
  same_equal (with_stmt span obj body) = both (same_equal_span span) (both (same_equal obj) (same_equal body))
  same_equal (return_stmt span arg) = both (same_equal_span span) (same_equal arg)
  same_equal (labeled_stmt span label body) = both (same_equal_span span) (both (same_equal label) (same_equal body))
  same_equal (break_stmt span label) = both (same_equal_span span) (same_equal label)
  same_equal (continue_stmt span label) = both (same_equal_span span) (same_equal label)
  same_equal (if_stmt span test cons alt) = both (same_equal_span span) (both (same_equal test) (both (same_equal cons) (same_equal alt)))
  same_equal (switch_stmt span discriminant cases) = both (same_equal_span span) (both (same_equal discriminant) (same_equal_all cases))
  same_equal (switch_case span test cons) = both (same_equal_span span) (both (same_equal test) (same_equal_all cons))
  same_equal (throw_stmt span arg) = both (same_equal_span span) (same_equal arg)
  same_equal (try_stmt span block handler finalizer) = both (same_equal_span span) (both (same_equal block) (both (same_equal handler) (same_equal finalizer)))
  same_equal (catch_clause span param_ body) = both (same_equal_span span) (both (same_equal param_) (same_equal body))
  same_equal (while_stmt span test body) = both (same_equal_span span) (both (same_equal test) (same_equal body))
  same_equal (do_while_stmt span test body) = both (same_equal_span span) (both (same_equal test) (same_equal body))
  same_equal (for_stmt span init test update body) = both (same_equal_span span) (both (same_equal init) (both (same_equal test) (both (same_equal update) (same_equal body))))
  same_equal (for_in_stmt span left right body) = both (same_equal_span span) (both (same_equal left) (both (same_equal right) (same_equal body)))
  same_equal (for_of_stmt span is_await left right body) = both (same_equal_span span) (both (same_beq is_await) (both (same_equal left) (both (same_equal right) (same_equal body))))
  same_equal (expr_stmt span expr) = both (same_equal_span span) (same_equal expr)
  same_equal (class_decl span ident_ class_) = both (same_equal_span span) (both (same_equal ident_) (same_equal class_))
  same_equal (fn_decl span ident_ function_) = both (same_equal_span span) (both (same_equal ident_) (same_equal function_))
  same_equal (var_decl span kind decls) = both (same_equal_span span) (both (same_nat_eq kind) (same_equal_all decls))
  same_equal (using_decl span is_await decls) = both (same_equal_span span) (both (same_beq is_await) (same_equal_all decls))
  same_equal (var_declarator span name init) = both (same_equal_span span) (both (same_equal name) (same_equal init))
  same_equal (function span params decorators body is_generator is_async) = both (same_equal_span span) (both (same_equal_all params) (both (same_equal_all decorators) (both (same_equal body) (both (same_beq is_generator) (same_beq is_async)))))
  same_equal (param span decorators pat) = both (same_equal_span span) (both (same_equal_all decorators) (same_equal pat))
  same_equal (decorator span expr) = both (same_equal_span span) (same_equal expr)
  same_equal (class span decorators body super_class) = both (same_equal_span span) (both (same_equal_all decorators) (both (same_equal_all body) (same_equal super_class)))
  same_equal (constructor span key params body) = both (same_equal_span span) (both (same_equal key) (both (same_equal_all params) (same_equal body)))
  same_equal (class_method span key function_ kind is_static) = both (same_equal_span span) (both (same_equal key) (both (same_equal function_) (both (same_nat_eq kind) (same_beq is_static))))
  same_equal (private_method span key function_ kind is_static) = both (same_equal_span span) (both (same_equal key) (both (same_equal function_) (both (same_nat_eq kind) (same_beq is_static))))
  same_equal (class_prop span key value is_static decorators) = both (same_equal_span span) (both (same_equal key) (both (same_equal value) (both (same_beq is_static) (same_equal_all decorators))))
  same_equal (private_prop span key value is_static decorators) = both (same_equal_span span) (both (same_equal key) (both (same_equal value) (both (same_beq is_static) (same_equal_all decorators))))
  same_equal (static_block span body) = both (same_equal_span span) (same_equal body)
  same_equal (auto_accessor span key value is_static decorators) = both (same_equal_span span) (both (same_equal key) (both (same_equal value) (both (same_beq is_static) (same_equal_all decorators))))
  same_equal (ident_name span sym) = both (same_equal_span span) (same_bytes_eq sym)
  same_equal (computed_prop_name span expr) = both (same_equal_span span) (same_equal expr)
  same_equal (private_name span name) = both (same_equal_span span) (same_bytes_eq name)
  same_equal (this_expr span) = same_equal_span span
  same_equal (array_lit span elems) = both (same_equal_span span) (same_equal_all elems)
  same_equal (object_lit span props) = both (same_equal_span span) (same_equal_all props)
  same_equal (fn_expr span ident_ function_) = both (same_equal_span span) (both (same_equal ident_) (same_equal function_))
  same_equal (unary_expr span op arg) = both (same_equal_span span) (both (same_nat_eq op) (same_equal arg))
  same_equal (update_expr span op prefix arg) = both (same_equal_span span) (both (same_nat_eq op) (both (same_beq prefix) (same_equal arg)))
  same_equal (bin_expr span op left right) = both (same_equal_span span) (both (same_nat_eq op) (both (same_equal left) (same_equal right)))
  same_equal (assign_expr span op left right) = both (same_equal_span span) (both (same_nat_eq op) (both (same_equal left) (same_equal right)))
  same_equal (member_expr span obj prop) = both (same_equal_span span) (both (same_equal obj) (same_equal prop))
  same_equal (super_prop_expr span obj prop) = both (same_equal_span span) (both (same_equal obj) (same_equal prop))
  same_equal (cond_expr span test cons alt) = both (same_equal_span span) (both (same_equal test) (both (same_equal cons) (same_equal alt)))
  same_equal (call_expr span callee args) = both (same_equal_span span) (both (same_equal callee) (same_equal_all args))
  same_equal (new_expr span callee args) = both (same_equal_span span) (both (same_equal callee) (same_equal args))
  same_equal (seq_expr span exprs) = both (same_equal_span span) (same_equal_all exprs)
  same_equal (ident span sym) = both (same_equal_span span) (same_bytes_eq sym)
  same_equal (tpl span exprs quasis) = both (same_equal_span span) (both (same_equal_all exprs) (same_equal_all quasis))
  same_equal (tpl_element span tail raw cooked) = both (same_equal_span span) (both (same_beq tail) (both (same_bytes_eq raw) (same_equal_text cooked)))
  same_equal (tagged_tpl span tag tpl_) = both (same_equal_span span) (both (same_equal tag) (same_equal tpl_))
  same_equal (arrow_expr span params body is_async) = both (same_equal_span span) (both (same_equal_all params) (both (same_equal body) (same_beq is_async)))
  same_equal (class_expr span ident_ class_) = both (same_equal_span span) (both (same_equal ident_) (same_equal class_))
  same_equal (yield_expr span arg delegate) = both (same_equal_span span) (both (same_equal arg) (same_beq delegate))
  same_equal (meta_prop_expr span kind) = both (same_equal_span span) (same_nat_eq kind)
  same_equal (await_expr span arg) = both (same_equal_span span) (same_equal arg)
  same_equal (paren_expr span expr) = both (same_equal_span span) (same_equal expr)
  same_equal (opt_chain_expr span optional base) = both (same_equal_span span) (both (same_beq optional) (same_equal base))
  same_equal (opt_call span callee args) = both (same_equal_span span) (both (same_equal callee) (same_equal_all args))
  same_equal (super span) = same_equal_span span
  same_equal (import span) = same_equal_span span
  same_equal (invalid span) = same_equal_span span
  same_equal (expr_or_spread span spread expr) = both (same_equal_span span) (both (same_equal_place spread) (same_equal expr))
  same_equal (spread_element span expr) = both (same_equal_span span) (same_equal expr)
  same_equal (key_value_prop span key value) = both (same_equal_span span) (both (same_equal key) (same_equal value))
  same_equal (assign_prop span key value) = both (same_equal_span span) (both (same_equal key) (same_equal value))
  same_equal (getter_prop span key body) = both (same_equal_span span) (both (same_equal key) (same_equal body))
  same_equal (setter_prop span key param_ body) = both (same_equal_span span) (both (same_equal key) (both (same_equal param_) (same_equal body)))
  same_equal (method_prop span key function_) = both (same_equal_span span) (both (same_equal key) (same_equal function_))
  same_equal (str_lit span units raw) = both (same_equal_span span) (both (same_bytes_eq units) (same_equal_text raw))
  same_equal (bool_lit span value) = both (same_equal_span span) (same_beq value)
  same_equal (null_lit span) = same_equal_span span
  same_equal (number_lit span value raw) = both (same_equal_span span) (both (same_equal_number value) (same_equal_text raw))
  same_equal (big_int_lit span radix digits raw) = both (same_equal_span span) (both (same_nat_eq radix) (both (same_bytes_eq digits) (same_equal_text raw)))
  same_equal (regex_lit span exp flags) = both (same_equal_span span) (both (same_bytes_eq exp) (same_bytes_eq flags))
  same_equal (binding_ident span id) = both (same_equal_span span) (same_equal id)
  same_equal (array_pat span elems) = both (same_equal_span span) (same_equal_all elems)
  same_equal (rest_pat span dot3_token arg) = both (same_equal_span span) (both (same_equal_span dot3_token) (same_equal arg))
  same_equal (object_pat span props) = both (same_equal_span span) (same_equal_all props)
  same_equal (assign_pat span left right) = both (same_equal_span span) (both (same_equal left) (same_equal right))
  same_equal (key_value_pat_prop span key value) = both (same_equal_span span) (both (same_equal key) (same_equal value))
  same_equal (assign_pat_prop span key value) = both (same_equal_span span) (both (same_equal key) (same_equal value))
  same_equal (expr_pat expr) = same_equal expr
  same_equal (invalid_pat span) = same_equal_span span
  same_equal (invalid_target span) = same_equal_span span
  same_equal (list items) = same_equal_all items
  same_equal absent = refl
  same_equal hole = refl

  same_equal_all : (ts : Trees) → equal_all ts ts ≡ true
  same_equal_all none = refl
  same_equal_all (more t ts) = both (same_equal t) (same_equal_all ts)

mutual
  from_equal : (t u : Tree) → equal t u ≡ true → t ≡ u
  from_equal (script span body shebang) (script span2 body2 shebang2) h = let k = each_of_three (equal_span span span2) (equal_all body body2) (equal_text shebang shebang2) h in congr_three (λ a b c. script a b c) (from_equal_span span span2 k.0) (from_equal_all body body2 k.1) (from_equal_text shebang shebang2 k.2)
  from_equal (es_module span body shebang) (es_module span2 body2 shebang2) h = let k = each_of_three (equal_span span span2) (equal_all body body2) (equal_text shebang shebang2) h in congr_three (λ a b c. es_module a b c) (from_equal_span span span2 k.0) (from_equal_all body body2 k.1) (from_equal_text shebang shebang2 k.2)
  from_equal (import_decl span specifiers src with_) (import_decl span2 specifiers2 src2 with_2) h = let k = each_of_four (equal_span span span2) (equal_all specifiers specifiers2) (equal src src2) (equal with_ with_2) h in congr_four (λ a b c d. import_decl a b c d) (from_equal_span span span2 k.0) (from_equal_all specifiers specifiers2 k.1) (from_equal src src2 k.2) (from_equal with_ with_2 k.3)
  from_equal (export_decl span decl) (export_decl span2 decl2) h = let k = and_parts (equal_span span span2) (equal decl decl2) h in congr_two (λ a b. export_decl a b) (from_equal_span span span2 k.0) (from_equal decl decl2 k.1)
  from_equal (named_export span specifiers src with_) (named_export span2 specifiers2 src2 with_2) h = let k = each_of_four (equal_span span span2) (equal_all specifiers specifiers2) (equal src src2) (equal with_ with_2) h in congr_four (λ a b c d. named_export a b c d) (from_equal_span span span2 k.0) (from_equal_all specifiers specifiers2 k.1) (from_equal src src2 k.2) (from_equal with_ with_2 k.3)
  from_equal (export_default_decl span decl) (export_default_decl span2 decl2) h = let k = and_parts (equal_span span span2) (equal decl decl2) h in congr_two (λ a b. export_default_decl a b) (from_equal_span span span2 k.0) (from_equal decl decl2 k.1)
  from_equal (export_default_expr span expr) (export_default_expr span2 expr2) h = let k = and_parts (equal_span span span2) (equal expr expr2) h in congr_two (λ a b. export_default_expr a b) (from_equal_span span span2 k.0) (from_equal expr expr2 k.1)
  from_equal (export_all span src with_) (export_all span2 src2 with_2) h = let k = each_of_three (equal_span span span2) (equal src src2) (equal with_ with_2) h in congr_three (λ a b c. export_all a b c) (from_equal_span span span2 k.0) (from_equal src src2 k.1) (from_equal with_ with_2 k.2)
  from_equal (import_named_specifier span local imported) (import_named_specifier span2 local2 imported2) h = let k = each_of_three (equal_span span span2) (equal local local2) (equal imported imported2) h in congr_three (λ a b c. import_named_specifier a b c) (from_equal_span span span2 k.0) (from_equal local local2 k.1) (from_equal imported imported2 k.2)
  from_equal (import_default_specifier span local) (import_default_specifier span2 local2) h = let k = and_parts (equal_span span span2) (equal local local2) h in congr_two (λ a b. import_default_specifier a b) (from_equal_span span span2 k.0) (from_equal local local2 k.1)
  from_equal (import_star_as_specifier span local) (import_star_as_specifier span2 local2) h = let k = and_parts (equal_span span span2) (equal local local2) h in congr_two (λ a b. import_star_as_specifier a b) (from_equal_span span span2 k.0) (from_equal local local2 k.1)
  from_equal (export_namespace_specifier span name) (export_namespace_specifier span2 name2) h = let k = and_parts (equal_span span span2) (equal name name2) h in congr_two (λ a b. export_namespace_specifier a b) (from_equal_span span span2 k.0) (from_equal name name2 k.1)
  from_equal (export_default_specifier span exported) (export_default_specifier span2 exported2) h = let k = and_parts (equal_span span span2) (equal exported exported2) h in congr_two (λ a b. export_default_specifier a b) (from_equal_span span span2 k.0) (from_equal exported exported2 k.1)
  from_equal (export_named_specifier span orig exported) (export_named_specifier span2 orig2 exported2) h = let k = each_of_three (equal_span span span2) (equal orig orig2) (equal exported exported2) h in congr_three (λ a b c. export_named_specifier a b c) (from_equal_span span span2 k.0) (from_equal orig orig2 k.1) (from_equal exported exported2 k.2)
  from_equal (block_stmt span stmts) (block_stmt span2 stmts2) h = let k = and_parts (equal_span span span2) (equal_all stmts stmts2) h in congr_two (λ a b. block_stmt a b) (from_equal_span span span2 k.0) (from_equal_all stmts stmts2 k.1)
  from_equal (empty_stmt span) (empty_stmt span2) h = ap (λ x. empty_stmt x) (from_equal_span span span2 h)
  from_equal (debugger_stmt span) (debugger_stmt span2) h = ap (λ x. debugger_stmt x) (from_equal_span span span2 h)
  from_equal (with_stmt span obj body) (with_stmt span2 obj2 body2) h = let k = each_of_three (equal_span span span2) (equal obj obj2) (equal body body2) h in congr_three (λ a b c. with_stmt a b c) (from_equal_span span span2 k.0) (from_equal obj obj2 k.1) (from_equal body body2 k.2)
  from_equal (return_stmt span arg) (return_stmt span2 arg2) h = let k = and_parts (equal_span span span2) (equal arg arg2) h in congr_two (λ a b. return_stmt a b) (from_equal_span span span2 k.0) (from_equal arg arg2 k.1)
  from_equal (labeled_stmt span label body) (labeled_stmt span2 label2 body2) h = let k = each_of_three (equal_span span span2) (equal label label2) (equal body body2) h in congr_three (λ a b c. labeled_stmt a b c) (from_equal_span span span2 k.0) (from_equal label label2 k.1) (from_equal body body2 k.2)
  from_equal (break_stmt span label) (break_stmt span2 label2) h = let k = and_parts (equal_span span span2) (equal label label2) h in congr_two (λ a b. break_stmt a b) (from_equal_span span span2 k.0) (from_equal label label2 k.1)
  from_equal (continue_stmt span label) (continue_stmt span2 label2) h = let k = and_parts (equal_span span span2) (equal label label2) h in congr_two (λ a b. continue_stmt a b) (from_equal_span span span2 k.0) (from_equal label label2 k.1)
  from_equal (if_stmt span test cons alt) (if_stmt span2 test2 cons2 alt2) h = let k = each_of_four (equal_span span span2) (equal test test2) (equal cons cons2) (equal alt alt2) h in congr_four (λ a b c d. if_stmt a b c d) (from_equal_span span span2 k.0) (from_equal test test2 k.1) (from_equal cons cons2 k.2) (from_equal alt alt2 k.3)
  from_equal (switch_stmt span discriminant cases) (switch_stmt span2 discriminant2 cases2) h = let k = each_of_three (equal_span span span2) (equal discriminant discriminant2) (equal_all cases cases2) h in congr_three (λ a b c. switch_stmt a b c) (from_equal_span span span2 k.0) (from_equal discriminant discriminant2 k.1) (from_equal_all cases cases2 k.2)
  from_equal (switch_case span test cons) (switch_case span2 test2 cons2) h = let k = each_of_three (equal_span span span2) (equal test test2) (equal_all cons cons2) h in congr_three (λ a b c. switch_case a b c) (from_equal_span span span2 k.0) (from_equal test test2 k.1) (from_equal_all cons cons2 k.2)
  from_equal (throw_stmt span arg) (throw_stmt span2 arg2) h = let k = and_parts (equal_span span span2) (equal arg arg2) h in congr_two (λ a b. throw_stmt a b) (from_equal_span span span2 k.0) (from_equal arg arg2 k.1)
  from_equal (try_stmt span block handler finalizer) (try_stmt span2 block2 handler2 finalizer2) h = let k = each_of_four (equal_span span span2) (equal block block2) (equal handler handler2) (equal finalizer finalizer2) h in congr_four (λ a b c d. try_stmt a b c d) (from_equal_span span span2 k.0) (from_equal block block2 k.1) (from_equal handler handler2 k.2) (from_equal finalizer finalizer2 k.3)
  from_equal (catch_clause span param_ body) (catch_clause span2 param_2 body2) h = let k = each_of_three (equal_span span span2) (equal param_ param_2) (equal body body2) h in congr_three (λ a b c. catch_clause a b c) (from_equal_span span span2 k.0) (from_equal param_ param_2 k.1) (from_equal body body2 k.2)
  from_equal (while_stmt span test body) (while_stmt span2 test2 body2) h = let k = each_of_three (equal_span span span2) (equal test test2) (equal body body2) h in congr_three (λ a b c. while_stmt a b c) (from_equal_span span span2 k.0) (from_equal test test2 k.1) (from_equal body body2 k.2)
  from_equal (do_while_stmt span test body) (do_while_stmt span2 test2 body2) h = let k = each_of_three (equal_span span span2) (equal test test2) (equal body body2) h in congr_three (λ a b c. do_while_stmt a b c) (from_equal_span span span2 k.0) (from_equal test test2 k.1) (from_equal body body2 k.2)
  from_equal (for_stmt span init test update body) (for_stmt span2 init2 test2 update2 body2) h = let k = each_of_five (equal_span span span2) (equal init init2) (equal test test2) (equal update update2) (equal body body2) h in congr_five (λ a b c d e. for_stmt a b c d e) (from_equal_span span span2 k.0) (from_equal init init2 k.1) (from_equal test test2 k.2) (from_equal update update2 k.3) (from_equal body body2 k.4)
  from_equal (for_in_stmt span left right body) (for_in_stmt span2 left2 right2 body2) h = let k = each_of_four (equal_span span span2) (equal left left2) (equal right right2) (equal body body2) h in congr_four (λ a b c d. for_in_stmt a b c d) (from_equal_span span span2 k.0) (from_equal left left2 k.1) (from_equal right right2 k.2) (from_equal body body2 k.3)
  from_equal (for_of_stmt span is_await left right body) (for_of_stmt span2 is_await2 left2 right2 body2) h = let k = each_of_five (equal_span span span2) (beq is_await is_await2) (equal left left2) (equal right right2) (equal body body2) h in congr_five (λ a b c d e. for_of_stmt a b c d e) (from_equal_span span span2 k.0) (from_beq is_await is_await2 k.1) (from_equal left left2 k.2) (from_equal right right2 k.3) (from_equal body body2 k.4)
  from_equal (expr_stmt span expr) (expr_stmt span2 expr2) h = let k = and_parts (equal_span span span2) (equal expr expr2) h in congr_two (λ a b. expr_stmt a b) (from_equal_span span span2 k.0) (from_equal expr expr2 k.1)
  from_equal (class_decl span ident_ class_) (class_decl span2 ident_2 class_2) h = let k = each_of_three (equal_span span span2) (equal ident_ ident_2) (equal class_ class_2) h in congr_three (λ a b c. class_decl a b c) (from_equal_span span span2 k.0) (from_equal ident_ ident_2 k.1) (from_equal class_ class_2 k.2)
  from_equal (fn_decl span ident_ function_) (fn_decl span2 ident_2 function_2) h = let k = each_of_three (equal_span span span2) (equal ident_ ident_2) (equal function_ function_2) h in congr_three (λ a b c. fn_decl a b c) (from_equal_span span span2 k.0) (from_equal ident_ ident_2 k.1) (from_equal function_ function_2 k.2)
  from_equal (var_decl span kind decls) (var_decl span2 kind2 decls2) h = let k = each_of_three (equal_span span span2) (nat_eq kind kind2) (equal_all decls decls2) h in congr_three (λ a b c. var_decl a b c) (from_equal_span span span2 k.0) (from_nat_eq kind kind2 k.1) (from_equal_all decls decls2 k.2)
  from_equal (using_decl span is_await decls) (using_decl span2 is_await2 decls2) h = let k = each_of_three (equal_span span span2) (beq is_await is_await2) (equal_all decls decls2) h in congr_three (λ a b c. using_decl a b c) (from_equal_span span span2 k.0) (from_beq is_await is_await2 k.1) (from_equal_all decls decls2 k.2)
  from_equal (var_declarator span name init) (var_declarator span2 name2 init2) h = let k = each_of_three (equal_span span span2) (equal name name2) (equal init init2) h in congr_three (λ a b c. var_declarator a b c) (from_equal_span span span2 k.0) (from_equal name name2 k.1) (from_equal init init2 k.2)
  from_equal (function span params decorators body is_generator is_async) (function span2 params2 decorators2 body2 is_generator2 is_async2) h = let k = each_of_six (equal_span span span2) (equal_all params params2) (equal_all decorators decorators2) (equal body body2) (beq is_generator is_generator2) (beq is_async is_async2) h in congr_six (λ a b c d e f. function a b c d e f) (from_equal_span span span2 k.0) (from_equal_all params params2 k.1) (from_equal_all decorators decorators2 k.2) (from_equal body body2 k.3) (from_beq is_generator is_generator2 k.4) (from_beq is_async is_async2 k.5)
  from_equal (param span decorators pat) (param span2 decorators2 pat2) h = let k = each_of_three (equal_span span span2) (equal_all decorators decorators2) (equal pat pat2) h in congr_three (λ a b c. param a b c) (from_equal_span span span2 k.0) (from_equal_all decorators decorators2 k.1) (from_equal pat pat2 k.2)
  from_equal (decorator span expr) (decorator span2 expr2) h = let k = and_parts (equal_span span span2) (equal expr expr2) h in congr_two (λ a b. decorator a b) (from_equal_span span span2 k.0) (from_equal expr expr2 k.1)
  from_equal (class span decorators body super_class) (class span2 decorators2 body2 super_class2) h = let k = each_of_four (equal_span span span2) (equal_all decorators decorators2) (equal_all body body2) (equal super_class super_class2) h in congr_four (λ a b c d. class a b c d) (from_equal_span span span2 k.0) (from_equal_all decorators decorators2 k.1) (from_equal_all body body2 k.2) (from_equal super_class super_class2 k.3)
  from_equal (constructor span key params body) (constructor span2 key2 params2 body2) h = let k = each_of_four (equal_span span span2) (equal key key2) (equal_all params params2) (equal body body2) h in congr_four (λ a b c d. constructor a b c d) (from_equal_span span span2 k.0) (from_equal key key2 k.1) (from_equal_all params params2 k.2) (from_equal body body2 k.3)
  from_equal (class_method span key function_ kind is_static) (class_method span2 key2 function_2 kind2 is_static2) h = let k = each_of_five (equal_span span span2) (equal key key2) (equal function_ function_2) (nat_eq kind kind2) (beq is_static is_static2) h in congr_five (λ a b c d e. class_method a b c d e) (from_equal_span span span2 k.0) (from_equal key key2 k.1) (from_equal function_ function_2 k.2) (from_nat_eq kind kind2 k.3) (from_beq is_static is_static2 k.4)
  from_equal (private_method span key function_ kind is_static) (private_method span2 key2 function_2 kind2 is_static2) h = let k = each_of_five (equal_span span span2) (equal key key2) (equal function_ function_2) (nat_eq kind kind2) (beq is_static is_static2) h in congr_five (λ a b c d e. private_method a b c d e) (from_equal_span span span2 k.0) (from_equal key key2 k.1) (from_equal function_ function_2 k.2) (from_nat_eq kind kind2 k.3) (from_beq is_static is_static2 k.4)
  from_equal (class_prop span key value is_static decorators) (class_prop span2 key2 value2 is_static2 decorators2) h = let k = each_of_five (equal_span span span2) (equal key key2) (equal value value2) (beq is_static is_static2) (equal_all decorators decorators2) h in congr_five (λ a b c d e. class_prop a b c d e) (from_equal_span span span2 k.0) (from_equal key key2 k.1) (from_equal value value2 k.2) (from_beq is_static is_static2 k.3) (from_equal_all decorators decorators2 k.4)
  from_equal (private_prop span key value is_static decorators) (private_prop span2 key2 value2 is_static2 decorators2) h = let k = each_of_five (equal_span span span2) (equal key key2) (equal value value2) (beq is_static is_static2) (equal_all decorators decorators2) h in congr_five (λ a b c d e. private_prop a b c d e) (from_equal_span span span2 k.0) (from_equal key key2 k.1) (from_equal value value2 k.2) (from_beq is_static is_static2 k.3) (from_equal_all decorators decorators2 k.4)
  from_equal (static_block span body) (static_block span2 body2) h = let k = and_parts (equal_span span span2) (equal body body2) h in congr_two (λ a b. static_block a b) (from_equal_span span span2 k.0) (from_equal body body2 k.1)
  from_equal (auto_accessor span key value is_static decorators) (auto_accessor span2 key2 value2 is_static2 decorators2) h = let k = each_of_five (equal_span span span2) (equal key key2) (equal value value2) (beq is_static is_static2) (equal_all decorators decorators2) h in congr_five (λ a b c d e. auto_accessor a b c d e) (from_equal_span span span2 k.0) (from_equal key key2 k.1) (from_equal value value2 k.2) (from_beq is_static is_static2 k.3) (from_equal_all decorators decorators2 k.4)
  from_equal (ident_name span sym) (ident_name span2 sym2) h = let k = and_parts (equal_span span span2) (bytes_eq sym sym2) h in congr_two (λ a b. ident_name a b) (from_equal_span span span2 k.0) (from_bytes_eq sym sym2 k.1)
  from_equal (computed_prop_name span expr) (computed_prop_name span2 expr2) h = let k = and_parts (equal_span span span2) (equal expr expr2) h in congr_two (λ a b. computed_prop_name a b) (from_equal_span span span2 k.0) (from_equal expr expr2 k.1)
  from_equal (private_name span name) (private_name span2 name2) h = let k = and_parts (equal_span span span2) (bytes_eq name name2) h in congr_two (λ a b. private_name a b) (from_equal_span span span2 k.0) (from_bytes_eq name name2 k.1)
  from_equal (this_expr span) (this_expr span2) h = ap (λ x. this_expr x) (from_equal_span span span2 h)
  from_equal (array_lit span elems) (array_lit span2 elems2) h = let k = and_parts (equal_span span span2) (equal_all elems elems2) h in congr_two (λ a b. array_lit a b) (from_equal_span span span2 k.0) (from_equal_all elems elems2 k.1)
  from_equal (object_lit span props) (object_lit span2 props2) h = let k = and_parts (equal_span span span2) (equal_all props props2) h in congr_two (λ a b. object_lit a b) (from_equal_span span span2 k.0) (from_equal_all props props2 k.1)
  from_equal (fn_expr span ident_ function_) (fn_expr span2 ident_2 function_2) h = let k = each_of_three (equal_span span span2) (equal ident_ ident_2) (equal function_ function_2) h in congr_three (λ a b c. fn_expr a b c) (from_equal_span span span2 k.0) (from_equal ident_ ident_2 k.1) (from_equal function_ function_2 k.2)
  from_equal (unary_expr span op arg) (unary_expr span2 op2 arg2) h = let k = each_of_three (equal_span span span2) (nat_eq op op2) (equal arg arg2) h in congr_three (λ a b c. unary_expr a b c) (from_equal_span span span2 k.0) (from_nat_eq op op2 k.1) (from_equal arg arg2 k.2)
  from_equal (update_expr span op prefix arg) (update_expr span2 op2 prefix2 arg2) h = let k = each_of_four (equal_span span span2) (nat_eq op op2) (beq prefix prefix2) (equal arg arg2) h in congr_four (λ a b c d. update_expr a b c d) (from_equal_span span span2 k.0) (from_nat_eq op op2 k.1) (from_beq prefix prefix2 k.2) (from_equal arg arg2 k.3)
  from_equal (bin_expr span op left right) (bin_expr span2 op2 left2 right2) h = let k = each_of_four (equal_span span span2) (nat_eq op op2) (equal left left2) (equal right right2) h in congr_four (λ a b c d. bin_expr a b c d) (from_equal_span span span2 k.0) (from_nat_eq op op2 k.1) (from_equal left left2 k.2) (from_equal right right2 k.3)
  from_equal (assign_expr span op left right) (assign_expr span2 op2 left2 right2) h = let k = each_of_four (equal_span span span2) (nat_eq op op2) (equal left left2) (equal right right2) h in congr_four (λ a b c d. assign_expr a b c d) (from_equal_span span span2 k.0) (from_nat_eq op op2 k.1) (from_equal left left2 k.2) (from_equal right right2 k.3)
  from_equal (member_expr span obj prop) (member_expr span2 obj2 prop2) h = let k = each_of_three (equal_span span span2) (equal obj obj2) (equal prop prop2) h in congr_three (λ a b c. member_expr a b c) (from_equal_span span span2 k.0) (from_equal obj obj2 k.1) (from_equal prop prop2 k.2)
  from_equal (super_prop_expr span obj prop) (super_prop_expr span2 obj2 prop2) h = let k = each_of_three (equal_span span span2) (equal obj obj2) (equal prop prop2) h in congr_three (λ a b c. super_prop_expr a b c) (from_equal_span span span2 k.0) (from_equal obj obj2 k.1) (from_equal prop prop2 k.2)
  from_equal (cond_expr span test cons alt) (cond_expr span2 test2 cons2 alt2) h = let k = each_of_four (equal_span span span2) (equal test test2) (equal cons cons2) (equal alt alt2) h in congr_four (λ a b c d. cond_expr a b c d) (from_equal_span span span2 k.0) (from_equal test test2 k.1) (from_equal cons cons2 k.2) (from_equal alt alt2 k.3)
  from_equal (call_expr span callee args) (call_expr span2 callee2 args2) h = let k = each_of_three (equal_span span span2) (equal callee callee2) (equal_all args args2) h in congr_three (λ a b c. call_expr a b c) (from_equal_span span span2 k.0) (from_equal callee callee2 k.1) (from_equal_all args args2 k.2)
  from_equal (new_expr span callee args) (new_expr span2 callee2 args2) h = let k = each_of_three (equal_span span span2) (equal callee callee2) (equal args args2) h in congr_three (λ a b c. new_expr a b c) (from_equal_span span span2 k.0) (from_equal callee callee2 k.1) (from_equal args args2 k.2)
  from_equal (seq_expr span exprs) (seq_expr span2 exprs2) h = let k = and_parts (equal_span span span2) (equal_all exprs exprs2) h in congr_two (λ a b. seq_expr a b) (from_equal_span span span2 k.0) (from_equal_all exprs exprs2 k.1)
  from_equal (ident span sym) (ident span2 sym2) h = let k = and_parts (equal_span span span2) (bytes_eq sym sym2) h in congr_two (λ a b. ident a b) (from_equal_span span span2 k.0) (from_bytes_eq sym sym2 k.1)
  from_equal (tpl span exprs quasis) (tpl span2 exprs2 quasis2) h = let k = each_of_three (equal_span span span2) (equal_all exprs exprs2) (equal_all quasis quasis2) h in congr_three (λ a b c. tpl a b c) (from_equal_span span span2 k.0) (from_equal_all exprs exprs2 k.1) (from_equal_all quasis quasis2 k.2)
  from_equal (tpl_element span tail raw cooked) (tpl_element span2 tail2 raw2 cooked2) h = let k = each_of_four (equal_span span span2) (beq tail tail2) (bytes_eq raw raw2) (equal_text cooked cooked2) h in congr_four (λ a b c d. tpl_element a b c d) (from_equal_span span span2 k.0) (from_beq tail tail2 k.1) (from_bytes_eq raw raw2 k.2) (from_equal_text cooked cooked2 k.3)
  from_equal (tagged_tpl span tag tpl_) (tagged_tpl span2 tag2 tpl_2) h = let k = each_of_three (equal_span span span2) (equal tag tag2) (equal tpl_ tpl_2) h in congr_three (λ a b c. tagged_tpl a b c) (from_equal_span span span2 k.0) (from_equal tag tag2 k.1) (from_equal tpl_ tpl_2 k.2)
  from_equal (arrow_expr span params body is_async) (arrow_expr span2 params2 body2 is_async2) h = let k = each_of_four (equal_span span span2) (equal_all params params2) (equal body body2) (beq is_async is_async2) h in congr_four (λ a b c d. arrow_expr a b c d) (from_equal_span span span2 k.0) (from_equal_all params params2 k.1) (from_equal body body2 k.2) (from_beq is_async is_async2 k.3)
  from_equal (class_expr span ident_ class_) (class_expr span2 ident_2 class_2) h = let k = each_of_three (equal_span span span2) (equal ident_ ident_2) (equal class_ class_2) h in congr_three (λ a b c. class_expr a b c) (from_equal_span span span2 k.0) (from_equal ident_ ident_2 k.1) (from_equal class_ class_2 k.2)
  from_equal (yield_expr span arg delegate) (yield_expr span2 arg2 delegate2) h = let k = each_of_three (equal_span span span2) (equal arg arg2) (beq delegate delegate2) h in congr_three (λ a b c. yield_expr a b c) (from_equal_span span span2 k.0) (from_equal arg arg2 k.1) (from_beq delegate delegate2 k.2)
  from_equal (meta_prop_expr span kind) (meta_prop_expr span2 kind2) h = let k = and_parts (equal_span span span2) (nat_eq kind kind2) h in congr_two (λ a b. meta_prop_expr a b) (from_equal_span span span2 k.0) (from_nat_eq kind kind2 k.1)
  from_equal (await_expr span arg) (await_expr span2 arg2) h = let k = and_parts (equal_span span span2) (equal arg arg2) h in congr_two (λ a b. await_expr a b) (from_equal_span span span2 k.0) (from_equal arg arg2 k.1)
  from_equal (paren_expr span expr) (paren_expr span2 expr2) h = let k = and_parts (equal_span span span2) (equal expr expr2) h in congr_two (λ a b. paren_expr a b) (from_equal_span span span2 k.0) (from_equal expr expr2 k.1)
  from_equal (opt_chain_expr span optional base) (opt_chain_expr span2 optional2 base2) h = let k = each_of_three (equal_span span span2) (beq optional optional2) (equal base base2) h in congr_three (λ a b c. opt_chain_expr a b c) (from_equal_span span span2 k.0) (from_beq optional optional2 k.1) (from_equal base base2 k.2)
  from_equal (opt_call span callee args) (opt_call span2 callee2 args2) h = let k = each_of_three (equal_span span span2) (equal callee callee2) (equal_all args args2) h in congr_three (λ a b c. opt_call a b c) (from_equal_span span span2 k.0) (from_equal callee callee2 k.1) (from_equal_all args args2 k.2)
  from_equal (super span) (super span2) h = ap (λ x. super x) (from_equal_span span span2 h)
  from_equal (import span) (import span2) h = ap (λ x. import x) (from_equal_span span span2 h)
  from_equal (invalid span) (invalid span2) h = ap (λ x. invalid x) (from_equal_span span span2 h)
  from_equal (expr_or_spread span spread expr) (expr_or_spread span2 spread2 expr2) h = let k = each_of_three (equal_span span span2) (equal_place spread spread2) (equal expr expr2) h in congr_three (λ a b c. expr_or_spread a b c) (from_equal_span span span2 k.0) (from_equal_place spread spread2 k.1) (from_equal expr expr2 k.2)
  from_equal (spread_element span expr) (spread_element span2 expr2) h = let k = and_parts (equal_span span span2) (equal expr expr2) h in congr_two (λ a b. spread_element a b) (from_equal_span span span2 k.0) (from_equal expr expr2 k.1)
  from_equal (key_value_prop span key value) (key_value_prop span2 key2 value2) h = let k = each_of_three (equal_span span span2) (equal key key2) (equal value value2) h in congr_three (λ a b c. key_value_prop a b c) (from_equal_span span span2 k.0) (from_equal key key2 k.1) (from_equal value value2 k.2)
  from_equal (assign_prop span key value) (assign_prop span2 key2 value2) h = let k = each_of_three (equal_span span span2) (equal key key2) (equal value value2) h in congr_three (λ a b c. assign_prop a b c) (from_equal_span span span2 k.0) (from_equal key key2 k.1) (from_equal value value2 k.2)
  from_equal (getter_prop span key body) (getter_prop span2 key2 body2) h = let k = each_of_three (equal_span span span2) (equal key key2) (equal body body2) h in congr_three (λ a b c. getter_prop a b c) (from_equal_span span span2 k.0) (from_equal key key2 k.1) (from_equal body body2 k.2)
  from_equal (setter_prop span key param_ body) (setter_prop span2 key2 param_2 body2) h = let k = each_of_four (equal_span span span2) (equal key key2) (equal param_ param_2) (equal body body2) h in congr_four (λ a b c d. setter_prop a b c d) (from_equal_span span span2 k.0) (from_equal key key2 k.1) (from_equal param_ param_2 k.2) (from_equal body body2 k.3)
  from_equal (method_prop span key function_) (method_prop span2 key2 function_2) h = let k = each_of_three (equal_span span span2) (equal key key2) (equal function_ function_2) h in congr_three (λ a b c. method_prop a b c) (from_equal_span span span2 k.0) (from_equal key key2 k.1) (from_equal function_ function_2 k.2)
  from_equal (str_lit span units raw) (str_lit span2 units2 raw2) h = let k = each_of_three (equal_span span span2) (bytes_eq units units2) (equal_text raw raw2) h in congr_three (λ a b c. str_lit a b c) (from_equal_span span span2 k.0) (from_bytes_eq units units2 k.1) (from_equal_text raw raw2 k.2)
  from_equal (bool_lit span value) (bool_lit span2 value2) h = let k = and_parts (equal_span span span2) (beq value value2) h in congr_two (λ a b. bool_lit a b) (from_equal_span span span2 k.0) (from_beq value value2 k.1)
  from_equal (null_lit span) (null_lit span2) h = ap (λ x. null_lit x) (from_equal_span span span2 h)
  from_equal (number_lit span value raw) (number_lit span2 value2 raw2) h = let k = each_of_three (equal_span span span2) (equal_number value value2) (equal_text raw raw2) h in congr_three (λ a b c. number_lit a b c) (from_equal_span span span2 k.0) (from_equal_number value value2 k.1) (from_equal_text raw raw2 k.2)
  from_equal (big_int_lit span radix digits raw) (big_int_lit span2 radix2 digits2 raw2) h = let k = each_of_four (equal_span span span2) (nat_eq radix radix2) (bytes_eq digits digits2) (equal_text raw raw2) h in congr_four (λ a b c d. big_int_lit a b c d) (from_equal_span span span2 k.0) (from_nat_eq radix radix2 k.1) (from_bytes_eq digits digits2 k.2) (from_equal_text raw raw2 k.3)
  from_equal (regex_lit span exp flags) (regex_lit span2 exp2 flags2) h = let k = each_of_three (equal_span span span2) (bytes_eq exp exp2) (bytes_eq flags flags2) h in congr_three (λ a b c. regex_lit a b c) (from_equal_span span span2 k.0) (from_bytes_eq exp exp2 k.1) (from_bytes_eq flags flags2 k.2)
  from_equal (binding_ident span id) (binding_ident span2 id2) h = let k = and_parts (equal_span span span2) (equal id id2) h in congr_two (λ a b. binding_ident a b) (from_equal_span span span2 k.0) (from_equal id id2 k.1)
  from_equal (array_pat span elems) (array_pat span2 elems2) h = let k = and_parts (equal_span span span2) (equal_all elems elems2) h in congr_two (λ a b. array_pat a b) (from_equal_span span span2 k.0) (from_equal_all elems elems2 k.1)
  from_equal (rest_pat span dot3_token arg) (rest_pat span2 dot3_token2 arg2) h = let k = each_of_three (equal_span span span2) (equal_span dot3_token dot3_token2) (equal arg arg2) h in congr_three (λ a b c. rest_pat a b c) (from_equal_span span span2 k.0) (from_equal_span dot3_token dot3_token2 k.1) (from_equal arg arg2 k.2)
  from_equal (object_pat span props) (object_pat span2 props2) h = let k = and_parts (equal_span span span2) (equal_all props props2) h in congr_two (λ a b. object_pat a b) (from_equal_span span span2 k.0) (from_equal_all props props2 k.1)
  from_equal (assign_pat span left right) (assign_pat span2 left2 right2) h = let k = each_of_three (equal_span span span2) (equal left left2) (equal right right2) h in congr_three (λ a b c. assign_pat a b c) (from_equal_span span span2 k.0) (from_equal left left2 k.1) (from_equal right right2 k.2)
  from_equal (key_value_pat_prop span key value) (key_value_pat_prop span2 key2 value2) h = let k = each_of_three (equal_span span span2) (equal key key2) (equal value value2) h in congr_three (λ a b c. key_value_pat_prop a b c) (from_equal_span span span2 k.0) (from_equal key key2 k.1) (from_equal value value2 k.2)
  from_equal (assign_pat_prop span key value) (assign_pat_prop span2 key2 value2) h = let k = each_of_three (equal_span span span2) (equal key key2) (equal value value2) h in congr_three (λ a b c. assign_pat_prop a b c) (from_equal_span span span2 k.0) (from_equal key key2 k.1) (from_equal value value2 k.2)
  from_equal (expr_pat expr) (expr_pat expr2) h = ap (λ x. expr_pat x) (from_equal expr expr2 h)
  from_equal (invalid_pat span) (invalid_pat span2) h = ap (λ x. invalid_pat x) (from_equal_span span span2 h)
  from_equal (invalid_target span) (invalid_target span2) h = ap (λ x. invalid_target x) (from_equal_span span span2 h)
  from_equal (list items) (list items2) h = ap (λ x. list x) (from_equal_all items items2 h)
  from_equal absent absent h = refl
  from_equal hole hole h = refl
  from_equal t u h = no h

  from_equal_all : (ts us : Trees) → equal_all ts us ≡ true → ts ≡ us
  from_equal_all none none h = refl
  from_equal_all (more t ts) (more u us) h =
      let k = and_parts (equal t u) (equal_all ts us) h in
      ap (λ x. more x ts) (from_equal t u k.0) ∙ ap (λ x. more u x) (from_equal_all ts us k.1)
  from_equal_all ts us h = no h

-- the test says of two trees whether they are equal
pub equal_decides : (t u : Tree) → Decides (equal t u) (t ≡ u)
equal_decides t u = (from_equal t u, λ h. rw h (same_equal u))
