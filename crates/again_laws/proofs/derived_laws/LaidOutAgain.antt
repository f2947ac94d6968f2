-- A tree that was read and is written again is laid out as it was: formatted and formatted, formatted and minified, minified and minified, from
-- ES2015 on, with characters past ASCII.
use Rattle.std.proofs.Common.{◌≡◌, ℕ, Bool, true, false, if◌then◌else◌, List, ◌∷◌, Option, Some, None, refl, sym, ap, subst, ◌∙◌, bytes_eq}
use Rattle.std.specs.Prelude.{nat_lt}
use Rattle.std.proofs.lemmas.Slice.Eq.{bytes_eq-Decides}
use Rattle.base_proofs.proofs.Lists.{cons_parts}
use Rattle.base_number.specs.Numbers.{SpecNumber}
use Rattle.base_token.specs.Tokens.{Piece}
use Rattle.base_token.specs.Editions.{edition_rank}
use Rattle.base_token.specs.declared.version.EsVersion.{EsVersion}
use Rattle.tree_spec.specs.Places.{no_place}
use Rattle.tree_spec.specs.Tree.{Tree, Trees, none, more, script, es_module, import_decl, export_decl, named_export, export_default_decl, export_default_expr, export_all, import_named_specifier, import_default_specifier, import_star_as_specifier, export_namespace_specifier, export_default_specifier, export_named_specifier, block_stmt, empty_stmt, debugger_stmt, with_stmt, return_stmt, labeled_stmt, break_stmt, continue_stmt, if_stmt, switch_stmt, switch_case, throw_stmt, try_stmt, catch_clause, while_stmt, do_while_stmt, for_stmt, for_in_stmt, for_of_stmt, expr_stmt, class_decl, fn_decl, var_decl, using_decl, var_declarator, function, param, decorator, class, constructor, class_method, private_method, class_prop, private_prop, static_block, auto_accessor, ident_name, computed_prop_name, private_name, this_expr, array_lit, object_lit, fn_expr, unary_expr, update_expr, bin_expr, assign_expr, member_expr, super_prop_expr, cond_expr, call_expr, new_expr, seq_expr, ident, tpl, tpl_element, tagged_tpl, arrow_expr, class_expr, yield_expr, meta_prop_expr, await_expr, paren_expr, opt_chain_expr, opt_call, super, import, invalid, expr_or_spread, spread_element, key_value_prop, assign_prop, getter_prop, setter_prop, method_prop, str_lit, bool_lit, null_lit, number_lit, big_int_lit, regex_lit, binding_ident, array_pat, rest_pat, object_pat, assign_pat, key_value_pat_prop, assign_pat_prop, expr_pat, invalid_pat, invalid_target, list, absent, hole}
use Rattle.grammar_spec.specs.Tokens.Shape.{is_cooked}
use Rattle.print_spelling.specs.Number.Numbers.{before_member}
use Rattle.print_layout_spec.specs.declared.look.Look.{Look}
use Rattle.print_layout_spec.specs.declared.look.Stand.TheVariants.{Alone}
use Rattle.print_layout_spec.specs.Layout.{laid}
use Rattle.print_layout_spec.specs.Literals.{string_bytes, number_bytes, big_bytes, quasi_bytes, is_escaped_directive}
use Rattle.print_layout_laws.proofs.Alike.{Alike}
use Rattle.again_laws.specs.Tokens.Means.{Known}
use Rattle.again_laws.specs.Derived.Redo.{Mode, Plain, Headed, Raw, is_head, is_pointed, is_tagged, quasi_mode, object_mode, chain_mode, placed, Leaves, nowhere, redo, redos, Redone}
use Rattle.again_laws.specs.Derived.Every.{every, every_all}
use Rattle.again_laws.specs.Derived.Read.{Read, ReadString, ReadNumber, ReadBig, Told}
use Rattle.again_laws.specs.Derived.Written.{leaves_of, new_arguments, written_key, written_constructor_key}
use Rattle.again_laws.proofs.derived_laws.Leaves.{string_read, piece_read}
use Rattle.again_laws.proofs.derived_laws.TextsAgain.{at, strings_again, directives_again, numbers_again, pointed_again, bigs_again}
use Rattle.again_laws.proofs.derived_laws.TemplatesAgain.{quasis_again}
use Rattle.again_laws.proofs.derived_laws.Literals.{Spelt}
use Rattle.again_laws.proofs.derived_laws.Layouts.{keyless, alike_with, kept_spelt, given_there, given_laid}

-- ---- leaves that are given anew only where that changes nothing of what is written

abbrev choose : {X : Type 0} → (X → List ℕ) → X → X → X
choose f a z = if bytes_eq (f a) (f z) then a else z

chosen_is : {X : Type 0} (f : X → List ℕ) (a z : X) → f (choose f a z) ≡ f z
chosen_is {X} f a z = by (bytes_eq (f a) (f z)) refl
  where
    by : (b : Bool) → bytes_eq (f a) (f z) ≡ b → f (if b then a else z) ≡ f z
    by true e = (bytes_eq-Decides (f a) (f z)).0 e
    by false e = refl

chosen : {X : Type 0} (f : X → List ℕ) (a z : X) → f a ≡ f z → choose f a z ≡ a
chosen f a z e = ap (λ b. if b then a else z) (ap (λ x. bytes_eq x (f z)) e ∙ (bytes_eq-Decides (f z) (f z)).1 refl)

bit : Bool → ℕ
bit true = 1
bit false = 0

bit_one : (b c : Bool) → bit b ≡ bit c → b ≡ c
unfolding bit
bit_one true true e = refl
bit_one false false e = refl
bit_one true false e = absurd (cc)
bit_one false true e = absurd (cc)

module _ (one two : Look) where
  string_seen : List ℕ → Option (List ℕ) → List ℕ
  string_seen u w = bit (is_escaped_directive u w) ∷ string_bytes two.style u w

  abbrev number_seen : Bool → SpecNumber → Option (List ℕ) → List ℕ
  number_seen true v w = before_member (number_bytes two.style v w)
  number_seen false v w = number_bytes two.style v w

  abbrev number_given : Bool → SpecNumber → Option (List ℕ) → Option (List ℕ)
  number_given before v w = Some (if before then before_member (number_bytes one.style v w) else number_bytes one.style v w)

  sure : Leaves
  sure = record {
    string = λ u w. choose (string_seen u) (Some (string_bytes one.style u w)) w;
    number = λ before v w. choose (number_seen before v) (number_given before v w) w;
    big = λ r d w. choose (big_bytes two.style r d) (Some (big_bytes one.style r d w)) w;
    quasi = λ tagged w. choose (quasi_bytes two.style tagged) (quasi_bytes one.style tagged w) w;
    arguments = λ head args. new_arguments one head args;
    key = λ t. t;
    constructor_key = λ t. written_constructor_key t;
    read = nowhere;
    written = nowhere;
  }

  sure_spelt : Spelt two (keyless sure)
  unfolding sure string_seen
  sure_spelt = record {
    strings = λ u w. (cons_parts _ _ _ _ (chosen_is (string_seen u) (Some (string_bytes one.style u w)) w)).1;
    directives = λ u w. bit_one _ _ (cons_parts _ _ _ _ (chosen_is (string_seen u) (Some (string_bytes one.style u w)) w)).0;
    numbers = λ v w. chosen_is (number_seen false v) (number_given false v w) w;
    pointed = λ v w. chosen_is (number_seen true v) (number_given true v w) w;
    bigs = λ r d w. chosen_is (big_bytes two.style r d) (Some (big_bytes one.style r d w)) w;
    quasis = λ b w. chosen_is (quasi_bytes two.style b) (quasi_bytes one.style b w) w;
    given_there = λ b a. given_there one b a;
    given_laid = λ b a. given_laid one two b a;
  }

-- ---- of a tree that was read these are those of the text written of it

module _ (t : EsVersion) (i : Bool) (modern : nat_lt (edition_rank t) 2 ≡ false) (m n : Bool) (o : m ≡ true → n ≡ true) (a b c d : Bool) where
  -- the two looks: of the other settings nothing is asked
  abbrev pub first : Look
  first = record { style = at t i m; omits_last = a; asserts = b }

  abbrev pub second : Look
  second = record { style = at t i n; omits_last = c; asserts = d }

  abbrev surely : Leaves
  surely = keyless (sure first second)

  string_picked : (u : List ℕ) (w : Option (List ℕ)) → ReadString Known u w → surely.string u w ≡ Some (string_bytes (at t i m) u w)
  unfolding sure string_seen
  string_picked u w h = let r = string_read u h.own h.told in chosen (string_seen first second u) (Some (string_bytes (at t i m) u w)) w
      (subst (λ (w : Option (List ℕ)). string_seen first second u (Some (string_bytes (at t i m) u w)) ≡ string_seen first second u w) (sym h.is)
      (λ k. bit (directives_again t i m u h.own r.utf8 k) ∷ strings_again t i m n o u h.own r.utf8 r.are_units k))

  number_picked : (before : Bool) (v : SpecNumber) (w : Option (List ℕ)) → ReadNumber Known v w → surely.number before v w ≡ number_given first second before v w
  unfolding sure
  number_picked before v w h = chosen (number_seen first second before v) (number_given first second before v w) w
      (subst (λ (w : Option (List ℕ)). number_seen first second before v (number_given first second before v w) ≡ number_seen first second before v w) (sym h.is) (by before))
    where
      by : (p : Bool) → number_seen first second p v (number_given first second p v (Some h.own)) ≡ number_seen first second p v (Some h.own)
      by true = pointed_again t i modern m n o v h.own
      by false = numbers_again t i modern m n o v h.own

  big_picked : (r : ℕ) (e : List ℕ) (w : Option (List ℕ)) → ReadBig Known r e w → surely.big r e w ≡ Some (big_bytes (at t i m) r e w)
  unfolding sure
  big_picked r e w h = chosen (big_bytes (at t i n) r e) (Some (big_bytes (at t i m) r e w)) w
      (subst (λ (w : Option (List ℕ)). big_bytes (at t i n) r e (Some (big_bytes (at t i m) r e w)) ≡ big_bytes (at t i n) r e w) (sym h.is) (bigs_again t i m n o r e h.own))

  quasi_picked : (tagged : Bool) (w : List ℕ) (u : Option (List ℕ)) → Told Known (Piece w u) → (tagged ≡ false → is_cooked (tpl_element no_place true w u) ≡ true) → surely.quasi tagged w ≡ quasi_bytes (at t i m) tagged w
  unfolding sure
  quasi_picked tagged w u h e = let r = piece_read w u h in chosen (quasi_bytes (at t i n) tagged) (quasi_bytes (at t i m) tagged w) w (quasis_again t i m n o tagged w r.utf8 (λ f. r.cooked (e f)))

  cooked_so : (s : _) (b : Bool) (w : List ℕ) (u : Option (List ℕ)) → is_cooked (tpl_element s b w u) ≡ true → is_cooked (tpl_element no_place true w u) ≡ true
  cooked_so s b w None e = e
  cooked_so s b w (Some us) e = refl

  -- keys stay as they are
  plain_key : (k : Tree) → written_key (at t i m) (redo (leaves_of first) Plain k) ≡ redo (leaves_of first) Plain k
  plain_key (ident_name span sym) = refl
  plain_key _ = refl

  mutual
    unfolding sure

    agrees : (mode : Mode) (u : Tree) → every (Read Known) mode u → redo surely mode u ≡ redo (leaves_of first) mode u
    agrees mode (script span body shebang) h = λ k. script no_place (all_agree Plain body h.1 k) shebang
    agrees mode (es_module span body shebang) h = λ k. es_module no_place (all_agree Plain body h.1 k) shebang
    agrees mode (import_decl span specifiers src with_) h = λ k. import_decl no_place (all_agree Plain specifiers h.1 k) (agrees Plain src h.2 k) (agrees Plain with_ h.3 k)
    agrees mode (export_decl span decl) h = λ k. export_decl no_place (agrees Plain decl h.1 k)
    agrees mode (named_export span specifiers src with_) h = λ k. named_export no_place (all_agree Plain specifiers h.1 k) (agrees Plain src h.2 k) (agrees Plain with_ h.3 k)
    agrees mode (export_default_decl span decl) h = λ k. export_default_decl no_place (agrees Plain decl h.1 k)
    agrees mode (export_default_expr span expr) h = λ k. export_default_expr no_place (agrees Plain expr h.1 k)
    agrees mode (export_all span src with_) h = λ k. export_all no_place (agrees Plain src h.1 k) (agrees Plain with_ h.2 k)
    agrees mode (import_named_specifier span local imported) h = λ k. import_named_specifier no_place (agrees Plain local h.1 k) (agrees Plain imported h.2 k)
    agrees mode (import_default_specifier span local) h = λ k. import_default_specifier no_place (agrees Plain local h.1 k)
    agrees mode (import_star_as_specifier span local) h = λ k. import_star_as_specifier no_place (agrees Plain local h.1 k)
    agrees mode (export_namespace_specifier span name) h = λ k. export_namespace_specifier no_place (agrees Plain name h.1 k)
    agrees mode (export_default_specifier span exported) h = λ k. export_default_specifier no_place (agrees Plain exported h.1 k)
    agrees mode (export_named_specifier span orig exported) h = λ k. export_named_specifier no_place (agrees Plain orig h.1 k) (agrees Plain exported h.2 k)
    agrees mode (block_stmt span stmts) h = λ k. block_stmt no_place (all_agree Plain stmts h.1 k)
    agrees mode (empty_stmt span) h = refl
    agrees mode (debugger_stmt span) h = refl
    agrees mode (with_stmt span obj body) h = λ k. with_stmt no_place (agrees Plain obj h.1 k) (agrees Plain body h.2 k)
    agrees mode (return_stmt span arg) h = λ k. return_stmt no_place (agrees Plain arg h.1 k)
    agrees mode (labeled_stmt span label body) h = λ k. labeled_stmt no_place (agrees Plain label h.1 k) (agrees Plain body h.2 k)
    agrees mode (break_stmt span label) h = λ k. break_stmt no_place (agrees Plain label h.1 k)
    agrees mode (continue_stmt span label) h = λ k. continue_stmt no_place (agrees Plain label h.1 k)
    agrees mode (if_stmt span test cons alt) h = λ k. if_stmt no_place (agrees Plain test h.1 k) (agrees Plain cons h.2 k) (agrees Plain alt h.3 k)
    agrees mode (switch_stmt span discriminant cases) h = λ k. switch_stmt no_place (agrees Plain discriminant h.1 k) (all_agree Plain cases h.2 k)
    agrees mode (switch_case span test cons) h = λ k. switch_case no_place (agrees Plain test h.1 k) (all_agree Plain cons h.2 k)
    agrees mode (throw_stmt span arg) h = λ k. throw_stmt no_place (agrees Plain arg h.1 k)
    agrees mode (try_stmt span block handler finalizer) h = λ k. try_stmt no_place (agrees Plain block h.1 k) (agrees Plain handler h.2 k) (agrees Plain finalizer h.3 k)
    agrees mode (catch_clause span param_ body) h = λ k. catch_clause no_place (agrees Plain param_ h.1 k) (agrees Plain body h.2 k)
    agrees mode (while_stmt span test body) h = λ k. while_stmt no_place (agrees Plain test h.1 k) (agrees Plain body h.2 k)
    agrees mode (do_while_stmt span test body) h = λ k. do_while_stmt no_place (agrees Plain test h.1 k) (agrees Plain body h.2 k)
    agrees mode (for_stmt span init test update body) h = λ k. for_stmt no_place (agrees Plain init h.1 k) (agrees Plain test h.2 k) (agrees Plain update h.3 k) (agrees Plain body h.4 k)
    agrees mode (for_in_stmt span left right body) h = λ k. for_in_stmt no_place (agrees Plain left h.1 k) (agrees Plain right h.2 k) (agrees Plain body h.3 k)
    agrees mode (for_of_stmt span is_await left right body) h = λ k. for_of_stmt no_place is_await (agrees Plain left h.1 k) (agrees Plain right h.2 k) (agrees Plain body h.3 k)
    agrees mode (expr_stmt span expr) h = λ k. expr_stmt no_place (agrees Plain expr h.1 k)
    agrees mode (class_decl span ident_ class_) h = λ k. class_decl no_place (agrees Plain ident_ h.1 k) (agrees Plain class_ h.2 k)
    agrees mode (fn_decl span ident_ function_) h = λ k. fn_decl no_place (agrees Plain ident_ h.1 k) (agrees Plain function_ h.2 k)
    agrees mode (var_decl span kind decls) h = λ k. var_decl no_place kind (all_agree Plain decls h.1 k)
    agrees mode (using_decl span is_await decls) h = λ k. using_decl no_place is_await (all_agree Plain decls h.1 k)
    agrees mode (var_declarator span name init) h = λ k. var_declarator no_place (agrees Plain name h.1 k) (agrees Plain init h.2 k)
    agrees mode (function span params decorators body is_generator is_async) h = λ k. function no_place (all_agree Plain params h.1 k) (all_agree Plain decorators h.2 k) (agrees Plain body h.3 k) is_generator is_async
    agrees mode (param span decorators pat) h = λ k. param no_place (all_agree Plain decorators h.1 k) (agrees Plain pat h.2 k)
    agrees mode (decorator span expr) h = λ k. decorator no_place (agrees Plain expr h.1 k)
    agrees mode (class span decorators body super_class) h = λ k. class no_place (all_agree Plain decorators h.1 k) (all_agree Plain body h.2 k) (agrees Plain super_class h.3 k)
    agrees mode (constructor span key params body) h = λ k. constructor no_place (written_constructor_key (agrees Plain key h.1 k)) (all_agree Plain params h.2 k) (agrees Plain body h.3 k)
    agrees mode (class_method span key function_ kind is_static) h = λ k. class_method no_place ((agrees Plain key h.1 ∙ sym (plain_key key)) k) (agrees Plain function_ h.2 k) kind is_static
    agrees mode (private_method span key function_ kind is_static) h = λ k. private_method no_place (agrees Plain key h.1 k) (agrees Plain function_ h.2 k) kind is_static
    agrees mode (class_prop span key value is_static decorators) h = λ k. class_prop no_place ((agrees Plain key h.1 ∙ sym (plain_key key)) k) (agrees Plain value h.2 k) is_static (all_agree Plain decorators h.3 k)
    agrees mode (private_prop span key value is_static decorators) h = λ k. private_prop no_place (agrees Plain key h.1 k) (agrees Plain value h.2 k) is_static (all_agree Plain decorators h.3 k)
    agrees mode (static_block span body) h = λ k. static_block no_place (agrees Plain body h.1 k)
    agrees mode (auto_accessor span key value is_static decorators) h = λ k. auto_accessor no_place ((agrees Plain key h.1 ∙ sym (plain_key key)) k) (agrees Plain value h.2 k) is_static (all_agree Plain decorators h.3 k)
    agrees mode (ident_name span sym) h = refl
    agrees mode (computed_prop_name span expr) h = λ k. computed_prop_name no_place (agrees Plain expr h.1 k)
    agrees mode (private_name span name) h = refl
    agrees mode (this_expr span) h = refl
    agrees mode (array_lit span elems) h = λ k. array_lit no_place (all_agree Plain elems h.1 k)
    agrees mode (object_lit span props) h = λ k. object_lit no_place (all_agree Plain props h.1 k)
    agrees mode (fn_expr span ident_ function_) h = λ k. fn_expr no_place (agrees Plain ident_ h.1 k) (agrees Plain function_ h.2 k)
    agrees mode (unary_expr span op arg) h = λ k. unary_expr no_place op (agrees Plain arg h.1 k)
    agrees mode (update_expr span op prefix arg) h = λ k. update_expr no_place op prefix (agrees Plain arg h.1 k)
    agrees mode (bin_expr span op left right) h = λ k. bin_expr no_place op (agrees Plain left h.1 k) (agrees Plain right h.2 k)
    agrees mode (assign_expr span op left right) h = λ k. assign_expr no_place op (agrees Plain left h.1 k) (agrees Plain right h.2 k)
    agrees mode (member_expr span obj prop) h = λ k. member_expr no_place (agrees (object_mode mode prop) obj h.1 k) (agrees Plain prop h.2 k)
    agrees mode (super_prop_expr span obj prop) h = λ k. super_prop_expr no_place (agrees Plain obj h.1 k) (agrees Plain prop h.2 k)
    agrees mode (cond_expr span test cons alt) h = λ k. cond_expr no_place (agrees Plain test h.1 k) (agrees Plain cons h.2 k) (agrees Plain alt h.3 k)
    agrees mode (call_expr span callee args) h = λ k. call_expr no_place (agrees Headed callee h.1 k) (all_agree Plain args h.2 k)
    agrees mode (new_expr span callee args) h = λ k. new_expr no_place (agrees Headed callee h.1 k) (new_arguments first (is_head mode) (agrees Plain args h.2 k))
    agrees mode (seq_expr span exprs) h = λ k. seq_expr no_place (all_agree Plain exprs h.1 k)
    agrees mode (ident span sym) h = refl
    agrees mode (tpl span exprs quasis) h = λ k. tpl no_place (all_agree Plain exprs h.1 k) (all_agree (quasi_mode mode) quasis h.2 k)
    agrees mode (tpl_element span tail raw cooked) h = λ k. tpl_element no_place tail (quasi_picked (is_tagged mode) raw cooked h.0 (λ e. cooked_so span tail raw cooked (h.1 e)) k) cooked
    agrees mode (tagged_tpl span tag tpl_) h = λ k. tagged_tpl no_place (agrees Headed tag h.1 k) (agrees Raw tpl_ h.2 k)
    agrees mode (arrow_expr span params body is_async) h = λ k. arrow_expr no_place (all_agree Plain params h.1 k) (agrees Plain body h.2 k) is_async
    agrees mode (class_expr span ident_ class_) h = λ k. class_expr no_place (agrees Plain ident_ h.1 k) (agrees Plain class_ h.2 k)
    agrees mode (yield_expr span arg delegate) h = λ k. yield_expr no_place (agrees Plain arg h.1 k) delegate
    agrees mode (meta_prop_expr span kind) h = refl
    agrees mode (await_expr span arg) h = λ k. await_expr no_place (agrees Plain arg h.1 k)
    agrees mode (paren_expr span expr) h = λ k. paren_expr no_place (agrees Plain expr h.1 k)
    agrees mode (opt_chain_expr span optional base) h = λ k. opt_chain_expr no_place optional (agrees (chain_mode optional) base h.1 k)
    agrees mode (opt_call span callee args) h = λ k. opt_call no_place (agrees Headed callee h.1 k) (all_agree Plain args h.2 k)
    agrees mode (super span) h = refl
    agrees mode (import span) h = refl
    agrees mode (invalid span) h = refl
    agrees mode (expr_or_spread span spread expr) h = λ k. expr_or_spread no_place (placed spread) (agrees Plain expr h.1 k)
    agrees mode (spread_element span expr) h = λ k. spread_element no_place (agrees Plain expr h.1 k)
    agrees mode (key_value_prop span key value) h = λ k. key_value_prop no_place ((agrees Plain key h.1 ∙ sym (plain_key key)) k) (agrees Plain value h.2 k)
    agrees mode (assign_prop span key value) h = λ k. assign_prop no_place (agrees Plain key h.1 k) (agrees Plain value h.2 k)
    agrees mode (getter_prop span key body) h = λ k. getter_prop no_place ((agrees Plain key h.1 ∙ sym (plain_key key)) k) (agrees Plain body h.2 k)
    agrees mode (setter_prop span key param_ body) h = λ k. setter_prop no_place ((agrees Plain key h.1 ∙ sym (plain_key key)) k) (agrees Plain param_ h.2 k) (agrees Plain body h.3 k)
    agrees mode (method_prop span key function_) h = λ k. method_prop no_place ((agrees Plain key h.1 ∙ sym (plain_key key)) k) (agrees Plain function_ h.2 k)
    agrees mode (str_lit span units raw) h = λ k. str_lit no_place units (string_picked units raw h k)
    agrees mode (bool_lit span value) h = refl
    agrees mode (null_lit span) h = refl
    agrees mode (number_lit span value raw) h = λ k. number_lit no_place value (number_picked (is_pointed mode) value raw h k)
    agrees mode (big_int_lit span radix digits raw) h = λ k. big_int_lit no_place radix digits (big_picked radix digits raw h k)
    agrees mode (regex_lit span exp flags) h = refl
    agrees mode (binding_ident span id) h = λ k. binding_ident no_place (agrees Plain id h.1 k)
    agrees mode (array_pat span elems) h = λ k. array_pat no_place (all_agree Plain elems h.1 k)
    agrees mode (rest_pat span dot3_token arg) h = λ k. rest_pat no_place no_place (agrees Plain arg h.1 k)
    agrees mode (object_pat span props) h = λ k. object_pat no_place (all_agree Plain props h.1 k)
    agrees mode (assign_pat span left right) h = λ k. assign_pat no_place (agrees Plain left h.1 k) (agrees Plain right h.2 k)
    agrees mode (key_value_pat_prop span key value) h = λ k. key_value_pat_prop no_place ((agrees Plain key h.1 ∙ sym (plain_key key)) k) (agrees Plain value h.2 k)
    agrees mode (assign_pat_prop span key value) h = λ k. assign_pat_prop no_place (agrees Plain key h.1 k) (agrees Plain value h.2 k)
    agrees mode (expr_pat expr) h = λ k. expr_pat (agrees Plain expr h.1 k)
    agrees mode (invalid_pat span) h = refl
    agrees mode (invalid_target span) h = refl
    agrees mode (list items) h = λ k. list (all_agree Plain items h.1 k)
    agrees mode absent h = refl
    agrees mode hole h = refl

    all_agree : (mode : Mode) (us : Trees) → every_all (Read Known) mode us → redos surely mode us ≡ redos (leaves_of first) mode us
    all_agree mode none h = refl
    all_agree mode (more u us) h = λ k. more (agrees mode u h.0 k) (all_agree mode us h.1 k)

  -- The layout is alike.
  pub laid_again : (s u : Tree) → every (Read Known) Plain s → Redone (leaves_of first) Plain s u → Alike false (laid second Alone u) (laid second Alone s)
  unfolding sure
  laid_again s u h e = alike_with (sure first second) second (kept_spelt second nowhere) (sure_spelt first second) s u (record { so = λ k. e.so k ∙ sym (agrees Plain s h) })
