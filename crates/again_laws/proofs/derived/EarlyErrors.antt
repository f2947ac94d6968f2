-- Early errors: a tree given anew has none where the tree has none.
use Rattle.std.proofs.Common.{◌≡◌, ℕ, Bool, true, false, not, ◌&&◌, ◌||◌, ◌==◌, if◌then◌else◌, List, [], ◌∷◌, ◌++◌, Option, Some, None, refl, sym, ap, ap₂, ◌∙◌, subst, true≢false, codes, bytes_eq, chars}
use Rattle.std.specs.List.{list_any}
use Rattle.std.proofs.lemmas.Bool.{and_parts, false_from_ne_true}
use Rattle.std.proofs.lemmas.Slice.Eq.{bytes_eq-Decides}
use Rattle.base_proofs.proofs.Lists.{append_empty_first, append_empty_second}
use Rattle.base_number.specs.Numbers.{SpecNumber}
use Rattle.base_token.specs.declared.error.Error.{Error}
use Rattle.base_token.specs.declared.error.SyntaxError.{SyntaxError}
use Rattle.base_token.specs.declared.error.SyntaxError.TheVariants.{LegacyOctal, InitRequiredForUsingDecl, UsingDeclNotAllowed, UsingDeclNotAllowedForForInLoop}
use Rattle.base_token.specs.declared.place.Span.{Span}
use Rattle.base_token.specs.Kinds.{const_kind}
use Rattle.base_token.specs.Utf16.{utf16}
use Rattle.tree_spec.specs.Tree.{Tree, Trees, none, more, script, es_module, import_named_specifier, import_default_specifier, import_star_as_specifier, export_namespace_specifier, export_named_specifier, block_stmt, with_stmt, return_stmt, labeled_stmt, break_stmt, continue_stmt, switch_stmt, while_stmt, do_while_stmt, for_stmt, for_in_stmt, for_of_stmt, expr_stmt, class_decl, fn_decl, var_decl, using_decl, var_declarator, function, param, class, constructor, class_method, private_method, class_prop, private_prop, static_block, auto_accessor, ident_name, object_lit, fn_expr, update_expr, assign_expr, member_expr, super_prop_expr, call_expr, ident, arrow_expr, class_expr, meta_prop_expr, paren_expr, super, key_value_prop, getter_prop, setter_prop, method_prop, str_lit, number_lit, binding_ident, expr_pat, list, absent}
use Rattle.tree_spec.specs.Folds.{fold}
use Rattle.tree_spec.specs.Places.{no_place}
use Rattle.grammar_spec.specs.Tokens.Shape.{is_absent, is_use_strict, is_directive}
use Rattle.grammar_spec.specs.Judge.Early.{Scope, Walk, fault, every as every_walk, within, first, later, statements, block, as_block, as_body, name_in, evil, legacy_string, legacy_number, where_strict, is_loop, labelled, doubled, breaks_out, continues, is_bare, are_bare, own_use_strict, mode_fault, mode, second_constructors, members, class_body, is_proto, span_of_prop, proto_fault, second_protos, is_updatable, unset, unset_using, bad_using, top_using, unless, step, put, in_order, comes_after, faults_in, early_errors, outermost, looping, switching, heading, past_head, strictly, in_arrow, in_arrow_params, export_name, in_function, in_constructor, in_part, as_method, as_function}
use Rattle.print_spelling.specs.declared.style.Style.{Style}
use Rattle.print_spelling.specs.String.Names.{is_latin, is_quoted_key}
use Rattle.print_layout_spec.specs.declared.look.Look.{Look}
use Rattle.print_layout_spec.specs.Looks.{formats}
use Rattle.again_laws.specs.Derived.Redo.{Mode, Plain, is_pointed, Leaves, kept_at, redo, redos}
use Rattle.again_laws.specs.Derived.Every.{every, every_all}
use Rattle.again_laws.specs.Derived.Faithful.{is_strict_text, Faithful}
use Rattle.again_laws.specs.Derived.Written.{leaves_by, new_arguments, given_none, written_key, written_constructor_key}
use Rattle.again_laws.specs.Derived.Laws.{LegalAlike}
use Rattle.again_laws.proofs.derived.Folded.{All, Kids, Keeps, everywhere, folded}
use Rattle.again_laws.proofs.derived.Ascii.{ascii_chars}
use Rattle.again_laws.proofs.derived.Keys.{KeyIs, key_is, as_it_was, as_string, key_folded, constructor_key_folded}
use Rattle.again_laws.proofs.derived_rules.Shapes.{re_is_absent, re_is_bound_name, re_is_directive}
use Rattle.again_laws.proofs.Latin.{latin_units}

-- Where the one list is empty the other is: that of the tree (true), or that of the tree written again.
abbrev pub Emp : Bool → List Error → List Error → Type 0
Emp true xs ys = ys ≡ [] → xs ≡ []
Emp false xs ys = xs ≡ [] → ys ≡ []

none_both : (d : Bool) → Emp d [] []
none_both true = λ e. e
none_both false = λ e. e

both_empty : (xs ys : List Error) → xs ≡ [] → ys ≡ [] → xs ++ ys ≡ []
both_empty xs ys e f = ap₂ (λ (a b : List Error). a ++ b) e f

joined : (d : Bool) (xs ys us vs : List Error) → Emp d xs ys → Emp d us vs → Emp d (xs ++ us) (ys ++ vs)
joined true xs ys us vs f g = λ e. both_empty xs us (f (append_empty_first ys vs e)) (g (append_empty_second ys vs e))
joined false xs ys us vs f g = λ e. both_empty ys vs (f (append_empty_first xs us e)) (g (append_empty_second xs us e))

fault_empty : (b : Bool) (k : SyntaxError) (s q : Span) → fault b k s ≡ [] → fault b k q ≡ []
fault_empty true k s q e = cc
fault_empty false k s q e = refl

faulty : (d : Bool) (b c : Bool) (k : SyntaxError) (s q : Span) → b ≡ c → Emp d (fault b k s) (fault c k q)
faulty true b c k s q e = λ f. fault_empty b k q s (ap (λ (z : Bool). fault z k q) e ∙ f)
faulty false b c k s q e = λ f. ap (λ (z : Bool). fault z k q) (sym e) ∙ fault_empty b k s q f

strict_text : (s t : Span) (u : List ℕ) (w : Option (List ℕ)) → is_use_strict (expr_stmt s (str_lit t u w)) ≡ is_strict_text w
strict_text s t u None = refl
strict_text s t u (Some raw) = refl

module _ (d : Bool) where
  abbrev pub R : Walk → Walk → Type 0
  R w v = (x : Scope) → Emp d (w x) (v x)

  every_kept : (us vs : List Walk) → All R us vs → R (every_walk us) (every_walk vs)
  every_kept [] [] h x = none_both d
  every_kept [] (v ∷ vs) h x = absurd h
  every_kept (u ∷ us) [] h x = absurd h
  every_kept (u ∷ us) (v ∷ vs) h x = joined d (u x) (v x) (every_walk us x) (every_walk vs x) (h.0 x) (every_kept us vs h.1 x)

  within_kept : (us vs : List (List Walk)) → Kids R us vs → R (within us) (within vs)
  within_kept [] [] h x = none_both d
  within_kept [] (v ∷ vs) h x = absurd h
  within_kept (u ∷ us) [] h x = absurd h
  within_kept (u ∷ us) (v ∷ vs) h x = joined d (every_walk u x) (every_walk v x) (within us x) (within vs x) (every_kept u v h.0 x) (within_kept us vs h.1 x)

  first_field : (us vs : List (List Walk)) → Kids R us vs → R (first us) (first vs)
  first_field [] [] h x = none_both d
  first_field [] (v ∷ vs) h x = absurd h
  first_field (u ∷ us) [] h x = absurd h
  first_field (u ∷ us) (v ∷ vs) h x = every_kept u v h.0 x

  later_fields : (us vs : List (List Walk)) → Kids R us vs → Kids R (later us) (later vs)
  later_fields [] [] h = tt
  later_fields [] (v ∷ vs) h = absurd h
  later_fields (u ∷ us) [] h = absurd h
  later_fields (u ∷ us) (v ∷ vs) h = h.1

  -- walks in code that is the same
  at_same : (w v : Walk) → R w v → (x y : Scope) → x ≡ y → Emp d (w x) (v y)
  at_same w v h x y e = subst (λ (z : Scope). Emp d (w z) (v y)) (sym e) (h y)

  module _ (P : Mode → Tree → Type 0) (l : Leaves) where
    -- what is asked of a tree's literals, directives and keys
    record Legal : Type 0 where
      string : (m : Mode) (s : Span) (u : List ℕ) (w : Option (List ℕ)) → P m (str_lit s u w) → (q r : Span) → Emp d (legacy_string (l.string u w) q) (legacy_string w r)
      strict : (m : Mode) (s : Span) (u : List ℕ) (w : Option (List ℕ)) → P m (str_lit s u w) → is_strict_text (l.string u w) ≡ is_strict_text w
      number : (m : Mode) (s : Span) (v : SpecNumber) (w : Option (List ℕ)) → P m (number_lit s v w) → (q r : Span) → Emp d (legacy_number (l.number (is_pointed m) v w) q) (legacy_number w r)
      proto : (q s : Span) (k u v : Tree) → is_proto (key_value_prop q (l.key (redo l Plain k)) u) ≡ is_proto (key_value_prop s k v)

    module _ (legal : Legal) where
      is_use_strict_kept : (t : Tree) → every P Plain t → is_use_strict (redo l Plain t) ≡ is_use_strict t
      is_use_strict_kept (expr_stmt s (str_lit t u w)) e = strict_text no_place no_place u (l.string u w) ∙ (legal.strict Plain t u w e.1 ∙ sym (strict_text s t u w))
      is_use_strict_kept (expr_stmt s _) e = refl
      is_use_strict_kept _ e = refl

      statements_kept : (ts : Trees) → every_all P Plain ts → (us vs : List Walk) → All R us vs → R (statements (redos l Plain ts) us) (statements ts vs)
      statements_kept none s us vs h x = every_kept us vs h (as_block x)
      statements_kept (more t ts) s [] [] h x = none_both d
      statements_kept (more t ts) s [] (v ∷ vs) h x = absurd h
      statements_kept (more t ts) s (u ∷ us) [] h x = absurd h
      statements_kept (more t ts) s (u ∷ us) (v ∷ vs) h x = joined d (u (as_block x)) (v (as_block x)) _ _ (h.0 (as_block x))
          (at_same (statements (redos l Plain ts) us) (statements ts vs) (statements_kept ts s.1 us vs h.1) _ _ (ap₂ (λ (a b : Bool). record x { strict = x.strict || (x.starts && a); starts = x.starts && b; heads = false }) (is_use_strict_kept t s.0) (re_is_directive l Plain t)))

      block_kept : (ts : Trees) → every_all P Plain ts → (us vs : List (List Walk)) → Kids R us vs → R (block (redos l Plain ts) us) (block ts vs)
      block_kept ts s [] [] h x = none_both d
      block_kept ts s [] (v ∷ vs) h x = absurd h
      block_kept ts s (u ∷ us) [] h x = absurd h
      block_kept ts s (u ∷ us) (v ∷ vs) h x = statements_kept ts s u v h.0 x

      -- ---- names

      evil_kept : (m : Mode) (t : Tree) → R (evil (name_in (redo l m t))) (evil (name_in t))
      evil_kept m (ident s n) x = faulty d _ _ _ (l.read s.lo.0) s refl
      evil_kept m (paren_expr s e) x = evil_kept Plain e x
      evil_kept m _ x = none_both d

      is_loop_same : (m : Mode) (t : Tree) → is_loop (redo l m t) ≡ is_loop t
      is_loop_same m (while_stmt s t b) = refl
      is_loop_same m (do_while_stmt s t b) = refl
      is_loop_same m (for_stmt s i t u b) = refl
      is_loop_same m (for_in_stmt s a r b) = refl
      is_loop_same m (for_of_stmt s w a r b) = refl
      is_loop_same m (labeled_stmt s a b) = is_loop_same Plain b
      is_loop_same m _ = refl

      labelled_same : (a b : Tree) (x : Scope) → labelled (redo l Plain a) (redo l Plain b) x ≡ labelled a b x
      labelled_same (ident s n) b x = ap (λ (v : Bool). record x { labels = (n, v) ∷ x.labels }) (is_loop_same Plain b)
      labelled_same _ b x = refl

      doubled_kept : (a : Tree) → R (doubled (redo l Plain a)) (doubled a)
      doubled_kept (ident s n) x = faulty d _ _ _ (l.read s.lo.0) s refl
      doubled_kept _ x = none_both d

      breaks_kept : (a : Tree) (q s : Span) → R (breaks_out (redo l Plain a) q) (breaks_out a s)
      breaks_kept (ident t n) q s x = faulty d _ _ _ q s refl
      breaks_kept _ q s x = faulty d _ _ _ q s refl

      continues_kept : (a : Tree) (q s : Span) → R (continues (redo l Plain a) q) (continues a s)
      continues_kept (ident t n) q s x = faulty d _ _ _ q s refl
      continues_kept _ q s x = faulty d _ _ _ q s refl

      is_updatable_same : (m : Mode) (t : Tree) → is_updatable (redo l m t) ≡ is_updatable t
      is_updatable_same m (ident s n) = refl
      is_updatable_same m (member_expr s o p) = refl
      is_updatable_same m (super_prop_expr s o p) = refl
      is_updatable_same m (paren_expr s e) = is_updatable_same Plain e
      is_updatable_same m _ = refl

      -- ---- functions and classes

      is_bare_same : (t : Tree) → is_bare (redo l Plain t) ≡ is_bare t
      is_bare_same (param s ds p) = re_is_bound_name l Plain p
      is_bare_same (binding_ident s i) = refl
      is_bare_same _ = refl

      are_bare_same : (ts : Trees) → are_bare (redos l Plain ts) ≡ are_bare ts
      are_bare_same none = refl
      are_bare_same (more t ts) = ap₂ (λ (a b : Bool). a && b) (is_bare_same t) (are_bare_same ts)

      abbrev Both : Option Span → Option Span → Type 0
      Both None None = Unit {0}
      Both (Some s) (Some q) = Unit {0}
      Both _ _ = ⊥

      if_both : (a b : Bool) (s q : Span) (o p : Option Span) → Both o p → Both (if a then Some s else (if b then o else None)) (if a then Some q else (if b then p else None))
      if_both true b s q o p h = tt
      if_both false true s q o p h = h
      if_both false false s q o p h = tt

      own_both : (ts : Trees) → every_all P Plain ts → Both (own_use_strict (redos l Plain ts)) (own_use_strict ts)
      own_both none h = tt
      own_both (more (expr_stmt s e) ts) h = subst (λ (v : Bool). Both (if v then Some no_place else (if is_directive (redo l Plain (expr_stmt s e)) then own_use_strict (redos l Plain ts) else None)) (own_use_strict (more (expr_stmt s e) ts))) (sym (is_use_strict_kept (expr_stmt s e) h.0))
          (subst (λ (v : Bool). Both (if is_use_strict (expr_stmt s e) then Some no_place else (if v then own_use_strict (redos l Plain ts) else None)) (own_use_strict (more (expr_stmt s e) ts))) (sym (re_is_directive l Plain (expr_stmt s e)))
          (if_both (is_use_strict (expr_stmt s e)) (is_directive (expr_stmt s e)) no_place s (own_use_strict (redos l Plain ts)) (own_use_strict ts) (own_both ts h.1)))
      own_both (more _ ts) h = tt

      mode_fault_kept : (a b : Bool) (o p : Option Span) → a ≡ b → Both o p → Emp d (mode_fault a o) (mode_fault b p)
      mode_fault_kept a b None None e h = none_both d
      mode_fault_kept a b None (Some q) e h = absurd h
      mode_fault_kept a b (Some s) None e h = absurd h
      mode_fault_kept a b (Some s) (Some q) e h = faulty d (not a) (not b) _ s q (ap (λ (v : Bool). not v) e)

      mode_kept : (ps : Trees) (b : Tree) → every P Plain b → Emp d (mode (redos l Plain ps) (redo l Plain b)) (mode ps b)
      mode_kept ps (block_stmt s ss) h = mode_fault_kept (are_bare (redos l Plain ps)) (are_bare ps) _ _ (are_bare_same ps) (own_both ss h.1)
      mode_kept ps _ h = none_both d

      constructors_kept : (b : Bool) (ts : Trees) → Emp d (second_constructors b (redos l Plain ts)) (second_constructors b ts)
      constructors_kept b none = none_both d
      constructors_kept b (more (constructor s k ps e) ts) = joined d _ _ _ _ (faulty d b b _ no_place s refl) (constructors_kept true ts)
      constructors_kept b (more _ ts) = constructors_kept b ts

      members_kept : (b : Bool) (ts : Trees) (us vs : List Walk) → All R us vs → R (members b (redos l Plain ts) us) (members b ts vs)
      members_kept b none us vs h x = none_both d
      members_kept b (more t ts) [] [] h x = none_both d
      members_kept b (more t ts) [] (v ∷ vs) h x = absurd h
      members_kept b (more t ts) (u ∷ us) [] h x = absurd h
      members_kept b (more (constructor s k ps e) ts) (u ∷ us) (v ∷ vs) h x = joined d _ _ _ _ (h.0 (record x { calls = b })) (members_kept b ts us vs h.1 x)
      members_kept b (more _ ts) (u ∷ us) (v ∷ vs) h x = joined d _ _ _ _ (h.0 x) (members_kept b ts us vs h.1 x)

      class_body_kept : (a b : Bool) (ts : Trees) (us vs : List (List Walk)) → a ≡ b → Kids R us vs → R (class_body a (redos l Plain ts) us) (class_body b ts vs)
      class_body_kept a b ts [] [] e h x = none_both d
      class_body_kept a b ts [] (v ∷ vs) e h x = absurd h
      class_body_kept a b ts (u ∷ us) [] e h x = absurd h
      class_body_kept a b ts (u ∷ us) (v ∷ vs) e h x = subst (λ (c : Bool). Emp d (members a (redos l Plain ts) u x) (members c ts v x)) e (members_kept a ts u v h.0 x)

      -- ---- objects and declarations

      is_proto_same : (t : Tree) → is_proto (redo l Plain t) ≡ is_proto t
      is_proto_same (key_value_prop s k v) = legal.proto no_place s k (redo l Plain v) v
      is_proto_same _ = refl

      span_both : (t : Tree) → Both (span_of_prop (redo l Plain t)) (span_of_prop t)
      span_both (key_value_prop s k v) = tt
      span_both _ = tt

      proto_kept : (a b : Bool) (o p : Option Span) → a ≡ b → Both o p → Emp d (proto_fault a o) (proto_fault b p)
      proto_kept a b None None e h = none_both d
      proto_kept a b None (Some q) e h = absurd h
      proto_kept a b (Some s) None e h = absurd h
      proto_kept a b (Some s) (Some q) e h = faulty d a b _ s q e

      protos_kept : (a b : Bool) (ts : Trees) → a ≡ b → Emp d (second_protos a (redos l Plain ts)) (second_protos b ts)
      protos_kept a b none e = none_both d
      protos_kept a b (more t ts) e = joined d _ _ _ _ (proto_kept _ _ _ _ (ap₂ (λ (u v : Bool). u && v) e (is_proto_same t)) (span_both t)) (protos_kept (a || is_proto (redo l Plain t)) (b || is_proto t) ts (ap₂ (λ (u v : Bool). u || v) e (is_proto_same t)))

      unset_kept : (b : Bool) (ts : Trees) → Emp d (unset b (redos l Plain ts)) (unset b ts)
      unset_kept b none = none_both d
      unset_kept b (more (var_declarator s n absent) ts) = joined d _ _ _ _ (faulty d _ _ _ no_place s (ap (λ (v : Bool). b || not v) (re_is_bound_name l Plain n))) (unset_kept b ts)
      unset_kept b (more (var_declarator s n _) ts) = unset_kept b ts
      unset_kept b (more _ ts) = unset_kept b ts

      unset_using_kept : (ts : Trees) → Emp d (unset_using (redos l Plain ts)) (unset_using ts)
      unset_using_kept none = none_both d
      unset_using_kept (more (var_declarator s n absent) ts) = joined d _ _ _ _ (faulty d true true InitRequiredForUsingDecl no_place s refl) (unset_using_kept ts)
      unset_using_kept (more (var_declarator s n _) ts) = unset_using_kept ts
      unset_using_kept (more _ ts) = unset_using_kept ts

      bad_using_kept : (ts : Trees) → Emp d (bad_using (redos l Plain ts)) (bad_using ts)
      bad_using_kept none = none_both d
      bad_using_kept (more (var_declarator s n e) ts) = joined d _ _ _ _ (faulty d _ _ _ no_place s (ap (λ (v : Bool). not v) (re_is_bound_name l Plain n))) (bad_using_kept ts)
      bad_using_kept (more _ ts) = bad_using_kept ts

      top_using_kept : (ts : Trees) → Emp d (top_using (redos l Plain ts)) (top_using ts)
      top_using_kept none = none_both d
      top_using_kept (more (using_decl s w ds) ts) = joined d _ _ _ _ (faulty d true true UsingDeclNotAllowed no_place s refl) (top_using_kept ts)
      top_using_kept (more _ ts) = top_using_kept ts

      unless_kept : (b : Bool) (xs ys : List Error) → Emp d xs ys → Emp d (unless b xs) (unless b ys)
      unless_kept true xs ys h = none_both d
      unless_kept false xs ys h = h

      strict_kept : (x : Scope) (xs ys : List Error) → Emp d xs ys → Emp d (where_strict x xs) (where_strict x ys)
      strict_kept x xs ys h = by x.strict
        where
          by : (b : Bool) → Emp d (if b then xs else []) (if b then ys else [])
          by true = h
          by false = none_both d

      export_name_kept : (t : Tree) → every P Plain t → R (export_name (redo l Plain t)) (export_name t)
      export_name_kept (str_lit s u w) k x = strict_kept x _ _ (legal.string Plain s u w k no_place s)
      export_name_kept _ k x = none_both d

      -- ---- the walk

      re_absent : (t : Tree) → not (is_absent (redo l Plain t)) ≡ not (is_absent t)
      re_absent t = ap (λ (v : Bool). not v) (re_is_absent l Plain t)

      node : (m : Mode) (t : Tree) → every P m t → (us vs : List (List Walk)) → Kids R us vs → R (step (redo l m t) us) (step t vs)
      node m (ident s n) k us vs h x = joined d _ _ _ _ (faulty d _ _ _ (l.read s.lo.0) s refl) (faulty d _ _ _ (l.read s.lo.0) s refl)
      node m (binding_ident s i) k us vs h x = joined d _ _ _ _ (within_kept us vs h x) (evil_kept Plain i x)
      node m (str_lit s u w) k us vs h x = strict_kept x _ _ (legal.string m s u w k no_place s)
      node m (number_lit s v w) k us vs h x = strict_kept x _ _ (legal.number m s v w k no_place s)
      node m (with_stmt s o b) k us vs h x = joined d _ _ _ _ (faulty d _ _ _ no_place s refl) (within_kept us vs h x)
      node m (update_expr s op b a) k us vs h x = joined d _ _ _ _ (faulty d _ _ _ no_place s (ap (λ (v : Bool). not v) (is_updatable_same Plain a))) (joined d _ _ _ _ (evil_kept Plain a x) (within_kept us vs h x))
      node m (expr_pat e) k us vs h x = joined d _ _ _ _ (evil_kept Plain e x) (within_kept us vs h x)
      node m (assign_expr s op (paren_expr t e) v) k us vs h x = joined d _ _ _ _ (evil_kept Plain e x) (within_kept us vs h x)
      node m (assign_expr s op _ v) k us vs h x = within_kept us vs h x
      node m (labeled_stmt s a b) k us vs h x = joined d _ _ _ _ (doubled_kept a x) (joined d _ _ _ _ (first_field us vs h x) (at_same (within (later us)) (within (later vs)) (within_kept (later us) (later vs) (later_fields us vs h)) _ _ (labelled_same a b x)))
      node m (break_stmt s a) k us vs h x = joined d _ _ _ _ (breaks_kept a no_place s x) (within_kept us vs h x)
      node m (continue_stmt s a) k us vs h x = joined d _ _ _ _ (continues_kept a no_place s x) (within_kept us vs h x)
      node m (return_stmt s e) k us vs h x = joined d _ _ _ _ (faulty d _ _ _ no_place s refl) (within_kept us vs h x)
      node m (super_prop_expr s (super t) p) k us vs h x = joined d _ _ _ _ (faulty d _ _ _ no_place t refl) (within_kept us vs h x)
      node m (super_prop_expr s _ p) k us vs h x = within_kept us vs h x
      node m (call_expr s (super t) xs) k us vs h x = joined d _ _ _ _ (faulty d _ _ _ no_place s refl) (within_kept us vs h x)
      node m (call_expr s _ xs) k us vs h x = within_kept us vs h x
      node m (meta_prop_expr s j) k us vs h x = faulty d _ _ _ no_place s refl
      node m (object_lit s ps) k us vs h x = joined d _ _ _ _ (protos_kept false false ps refl) (within_kept us vs h x)
      node m (while_stmt s t b) k us vs h x = joined d _ _ _ _ (first_field us vs h x) (within_kept (later us) (later vs) (later_fields us vs h) (looping x))
      node m (do_while_stmt s t b) k us vs h x = joined d _ _ _ _ (first_field us vs h x) (within_kept (later us) (later vs) (later_fields us vs h) (looping x))
      node m (for_stmt s i t u b) k us vs h x = within_kept us vs h (looping x)
      node m (for_in_stmt s (using_decl v w ds) r b) k us vs h x = joined d _ _ _ _ (faulty d true true UsingDeclNotAllowedForForInLoop no_place v refl) (joined d _ _ _ _ (first_field us vs h (heading x)) (within_kept (later us) (later vs) (later_fields us vs h) (looping x)))
      node m (for_in_stmt s _ r b) k us vs h x = joined d _ _ _ _ (first_field us vs h (heading x)) (within_kept (later us) (later vs) (later_fields us vs h) (looping x))
      node m (for_of_stmt s w a r b) k us vs h x = joined d _ _ _ _ (first_field us vs h (heading x)) (within_kept (later us) (later vs) (later_fields us vs h) (looping x))
      node m (switch_stmt s e cs) k us vs h x = joined d _ _ _ _ (first_field us vs h x) (within_kept (later us) (later vs) (later_fields us vs h) (switching x))
      node m (block_stmt s ss) k us vs h x = block_kept ss k.1 us vs h x
      node m (script s ss a) k us vs h x = joined d _ _ _ _ (top_using_kept ss) (block_kept ss k.1 us vs h (as_body x))
      node m (es_module s ss a) k us vs h x = block_kept ss k.1 us vs h (as_body (strictly x))
      node m (var_decl s j ds) k us vs h x = joined d _ _ _ _ (unless_kept x.heads _ _ (unset_kept (j == const_kind) ds)) (within_kept us vs h (past_head x))
      node m (using_decl s w ds) k us vs h x = joined d _ _ _ _ (bad_using_kept ds) (joined d _ _ _ _ (unless_kept x.heads _ _ (unset_using_kept ds)) (within_kept us vs h (past_head x)))
      node m (fn_decl s n f) k us vs h x = joined d _ _ _ _ (evil_kept Plain n x) (within_kept us vs h (as_function x))
      node m (fn_expr s n f) k us vs h x = joined d _ _ _ _ (evil_kept Plain n x) (within_kept us vs h (as_function x))
      node m (function s ps ds b g a) k us vs h x = joined d _ _ _ _ (mode_kept ps b k.3) (joined d _ _ _ _ (first_field us vs h (in_function x)) (within_kept (later us) (later vs) (later_fields us vs h) (as_body (in_function x))))
      node m (arrow_expr s ps b a) k us vs h x = joined d _ _ _ _ (mode_kept ps b k.2) (joined d _ _ _ _ (first_field us vs h (in_arrow_params a x)) (within_kept (later us) (later vs) (later_fields us vs h) (as_body (in_arrow x))))
      node m (method_prop s a f) k us vs h x = joined d _ _ _ _ (first_field us vs h x) (within_kept (later us) (later vs) (later_fields us vs h) (as_method x))
      node m (getter_prop s a b) k us vs h x = joined d _ _ _ _ (first_field us vs h x) (within_kept (later us) (later vs) (later_fields us vs h) (as_body (in_function (as_method x))))
      node m (setter_prop s a p b) k us vs h x = joined d _ _ _ _ (mode_kept (more p none) b k.3) (joined d _ _ _ _ (first_field us vs h x) (joined d _ _ _ _ (first_field (later us) (later vs) (later_fields us vs h) (in_function (as_method x)))
          (within_kept (later (later us)) (later (later vs)) (later_fields (later us) (later vs) (later_fields us vs h)) (as_body (in_function (as_method x))))))
      node m (class_decl s n c) k us vs h x = joined d _ _ _ _ (evil_kept Plain n (strictly x)) (within_kept us vs h (strictly x))
      node m (class_expr s n c) k us vs h x = joined d _ _ _ _ (evil_kept Plain n (strictly x)) (within_kept us vs h (strictly x))
      node m (class s ds ms c) k us vs h x = joined d _ _ _ _ (constructors_kept false ms) (joined d _ _ _ _ (first_field us vs h (strictly x)) (joined d _ _ _ _ (class_body_kept _ _ ms (later us) (later vs) (re_absent c) (later_fields us vs h) (strictly x))
          (within_kept (later (later us)) (later (later vs)) (later_fields (later us) (later vs) (later_fields us vs h)) (strictly x))))
      node m (constructor s a ps b) k us vs h x = joined d _ _ _ _ (mode_kept ps b k.3) (joined d _ _ _ _ (first_field us vs h x) (joined d _ _ _ _ (first_field (later us) (later vs) (later_fields us vs h) (in_constructor x.calls x))
          (within_kept (later (later us)) (later (later vs)) (later_fields (later us) (later vs) (later_fields us vs h)) (as_body (in_constructor x.calls x)))))
      node m (class_method s a f j i) k us vs h x = joined d _ _ _ _ (first_field us vs h x) (within_kept (later us) (later vs) (later_fields us vs h) (as_method x))
      node m (private_method s a f j i) k us vs h x = joined d _ _ _ _ (first_field us vs h x) (within_kept (later us) (later vs) (later_fields us vs h) (as_method x))
      node m (class_prop s a v i ds) k us vs h x = joined d _ _ _ _ (first_field us vs h x) (within_kept (later us) (later vs) (later_fields us vs h) (in_part x))
      node m (private_prop s a v i ds) k us vs h x = within_kept us vs h (in_part x)
      node m (auto_accessor s a v i ds) k us vs h x = joined d _ _ _ _ (first_field us vs h x) (within_kept (later us) (later vs) (later_fields us vs h) (in_part x))
      node m (static_block s b) k us vs h x = within_kept us vs h (in_part x)
      node m (import_named_specifier s a i) k us vs h x = joined d _ _ _ _ (evil_kept Plain a x) (joined d _ _ _ _ (first_field us vs h x) (export_name_kept i k.2 x))
      node m (import_default_specifier s a) k us vs h x = joined d _ _ _ _ (evil_kept Plain a x) (within_kept us vs h x)
      node m (import_star_as_specifier s a) k us vs h x = joined d _ _ _ _ (evil_kept Plain a x) (within_kept us vs h x)
      node m (export_named_specifier s o e) k us vs h x = joined d _ _ _ _ (export_name_kept o k.1 x) (export_name_kept e k.2 x)
      node m (export_namespace_specifier s n) k us vs h x = export_name_kept n k.1 x
      node m _ k us vs h x = within_kept us vs h x

-- ---- the whole

put_some : (e : Error) (es : List Error) → put e es ≡ [] → ⊥
put_some e [] h = cc
put_some e (f ∷ fs) h = by (comes_after e f) h
  where
    by : (b : Bool) → (if b then f ∷ put e fs else e ∷ f ∷ fs) ≡ [] → ⊥
    by true h = cc
    by false h = cc

order_empty : (es : List Error) → in_order es ≡ [] → es ≡ []
order_empty [] h = refl
order_empty (e ∷ es) h = absurd (put_some e (in_order es) h)

order_none : (es : List Error) → es ≡ [] → in_order es ≡ []
order_none es e = ap in_order e

-- ---- a tree as it was

text_kept : (w : Option (List ℕ)) (q r : Span) → legacy_string w q ≡ [] → legacy_string w r ≡ []
text_kept None q r e = refl
text_kept (Some raw) q r e = fault_empty _ _ q r e

number_kept : (w : Option (List ℕ)) (q r : Span) → legacy_number w q ≡ [] → legacy_number w r ≡ []
number_kept None q r e = refl
number_kept (Some raw) q r e = both_empty _ _ (fault_empty _ _ q r (append_empty_first _ _ e)) (fault_empty _ _ q r (append_empty_second _ _ e))

abbrev Anything : Mode → Tree → Type 0
Anything m t = Unit {0}

proto_as_it_was : (places : ℕ → Span) (q s : Span) (k u v : Tree) → is_proto (key_value_prop q (redo (kept_at places) Plain k) u) ≡ is_proto (key_value_prop s k v)
proto_as_it_was places q s (ident_name t n) u v = refl
proto_as_it_was places q s (str_lit t n w) u v = refl
proto_as_it_was places q s _ u v = refl

legal_kept : (places : ℕ → Span) → Legal false Anything (kept_at places)
legal_kept places = record { string = λ m s u w h q r. text_kept w q r; strict = λ m s u w h. refl; number = λ m s v w h q r. number_kept w q r; proto = proto_as_it_was places }

keeps_kept : (places : ℕ → Span) → Keeps (R false) Anything step (kept_at places)
keeps_kept places = record { node = node false Anything (kept_at places) (legal_kept places); arguments = λ b a h. h; key = λ k e h. h; constructor_key = λ k e h. h }

-- ---- a tree as it is written

given_empty : (v : Bool) (x : Scope) → fold step (given_none v) x ≡ []
given_empty true x = refl
given_empty false x = refl

arguments_written : (look : Look) (read written : ℕ → Span) (b : Bool) (a : Tree) → R true (fold step (redo (leaves_by look read written) Plain a)) (fold step a) → R true (fold step (new_arguments look b (redo (leaves_by look read written) Plain a))) (fold step a)
arguments_written look read written b absent h x = λ e. given_empty (formats look || b) x
arguments_written look read written b (list none) h x = λ e. given_empty (formats look || b) x
arguments_written look read written b (list (more t ts)) h x = h x
arguments_written look read written b _ h x = h x

none_where_strict : (x : Scope) (es : List Error) → es ≡ [] → where_strict x es ≡ []
none_where_strict x es e = by x.strict
  where
    by : (b : Bool) → (if b then es else []) ≡ []
    by true = e
    by false = refl

key_written : (look : Look) (read written : ℕ → Span) (k : Tree) → every (Faithful look) Plain k → R true (fold step (redo (leaves_by look read written) Plain k)) (fold step k)
    → R true (fold step (written_key look.style (redo (leaves_by look read written) Plain k))) (fold step k)
key_written look read written k e h = key_folded (R true) step (leaves_by look read written) look.style k
    (λ s n i q x f. none_where_strict x _ (ap (λ (v : Bool). fault v LegacyOctal no_place) ((subst (λ (t : Tree). every (Faithful look) Plain t) i e) q))) h

constructor_key_written : (look : Look) (read written : ℕ → Span) (k : Tree) → R true (fold step (redo (leaves_by look read written) Plain k)) (fold step k)
    → R true (fold step (written_constructor_key (redo (leaves_by look read written) Plain k))) (fold step k)
constructor_key_written look read written k h = constructor_key_folded (R true) step (leaves_by look read written) k (λ s u w i x e. refl) h

latin_key : (style : Style) (cs : List ℕ) → is_quoted_key style cs ≡ true → list_any is_latin cs ≡ true
latin_key style cs h = (and_parts style.ascii_only (list_any is_latin cs) h).1

apart : (xs : List ℕ) → list_any is_latin xs ≡ true → bytes_eq xs (codes "__proto__") ≡ false
apart xs h = false_from_ne_true (bytes_eq xs (codes "__proto__")) (λ e. true≢false (sym h ∙ ap (λ (l : List ℕ). list_any is_latin l) ((bytes_eq-Decides xs (codes "__proto__")).0 e)))

word_apart : (n : List ℕ) → list_any is_latin (chars n) ≡ true → bytes_eq n (codes "__proto__") ≡ false
word_apart n h = false_from_ne_true (bytes_eq n (codes "__proto__")) (λ e. true≢false (sym h ∙ (ap (λ (l : List ℕ). list_any is_latin (chars l)) ((bytes_eq-Decides n (codes "__proto__")).0 e) ∙ ap (λ (l : List ℕ). list_any is_latin l) (ascii_chars (codes "__proto__") refl))))

proto_plain : (look : Look) (read written : ℕ → Span) (q s : Span) (k u v : Tree) → is_proto (key_value_prop q (redo (leaves_by look read written) Plain k) u) ≡ is_proto (key_value_prop s k v)
proto_plain look read written q s (ident_name t n) u v = refl
proto_plain look read written q s (str_lit t n w) u v = refl
proto_plain look read written q s _ u v = refl

proto_written : (look : Look) (read written : ℕ → Span) (q s : Span) (k u v : Tree) → is_proto (key_value_prop q (written_key look.style (redo (leaves_by look read written) Plain k)) u) ≡ is_proto (key_value_prop s k v)
proto_written look read written q s k u v = by (key_is look.style (leaves_by look read written) k)
  where
    by : KeyIs look.style (leaves_by look read written) k → is_proto (key_value_prop q (written_key look.style (redo (leaves_by look read written) Plain k)) u) ≡ is_proto (key_value_prop s k v)
    by (as_it_was e) = ap (λ (t : Tree). is_proto (key_value_prop q t u)) e ∙ proto_plain look read written q s k u v
    by (as_string t n i h e) =
        let z = latin_key look.style (chars n) h in
        ap (λ (t : Tree). is_proto (key_value_prop q t u)) e ∙ (apart (utf16 (chars n)) (latin_units (chars n) z) ∙ sym (ap (λ (t : Tree). is_proto (key_value_prop s t v)) i ∙ word_apart n z))

legal_written : (look : Look) (read written : ℕ → Span) → Legal true (Faithful look) (leaves_by look read written)
legal_written look read written = record {
  string = λ m s u w h q r. h.modern q r;
  strict = λ m s u w h. h.strict;
  number = λ m s v w h q r. h q r;
  proto = proto_written look read written;
}

keeps_written : (look : Look) (read written : ℕ → Span) → Keeps (R true) (Faithful look) step (leaves_by look read written)
keeps_written look read written = record {
  node = node true (Faithful look) (leaves_by look read written) (legal_written look read written);
  arguments = arguments_written look read written;
  key = key_written look read written;
  constructor_key = λ k e h. constructor_key_written look read written k h;
}

pub legal_alike : LegalAlike
unfolding early_errors faults_in
legal_alike look read written m t u f s syntax e =
    let z = outermost syntax false in
    let a = folded (R true) (Faithful look) step (leaves_by look read written) (keeps_written look read written) m t f z (order_empty (fold step t z) e) in
    let b = folded (R false) Anything step (kept_at written) (keeps_kept written) Plain u (everywhere Anything (λ m t. tt) Plain u) z (ap (λ (w : Tree). fold step w z) (s.so Plain) ∙ a) in
    order_none (fold step u z) b
