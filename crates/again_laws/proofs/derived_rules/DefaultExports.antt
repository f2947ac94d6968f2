-- `export` before a declaration, and `export default`, derived again (16.2.3).
use Rattle.std.proofs.Common.{Bool, ap, arith, codes, false, inl, inr, nat_le, not, refl, subst, sym, true, true≢false, ℕ, ◌&&◌, ◌==◌, ◌||◌, ◌∙◌, ◌≡◌, ◌⊎◌}
use Rattle.std.proofs.lemmas.Bool.{eqb-true, ne_eqb, or_right, eqb-false}
use Rattle.std.proofs.lemmas.Option.{none-some}
use Rattle.base_token.specs.Kinds.{async_kind, class_kind, default_kind, else_kind, export_kind, function_kind, left_brace_kind, left_bracket_kind, let_kind}
use Rattle.base_token.specs.declared.place.Span.{Span}
use Rattle.tree_spec.specs.Places.{no_place}
use Rattle.tree_spec.specs.Tree.{Tree, class, class_decl, class_expr, export_decl, export_default_decl, export_default_expr, fn_decl, fn_expr, more, none, var_decl}
use Rattle.grammar_spec.specs.Tokens.Input.{Code, Input, assigning, brk2, in_list, kind, kind2, lo, rest, span}
use Rattle.grammar_spec.specs.Tokens.Operators.{assignment_level}
use Rattle.grammar_spec.specs.Tokens.Shape.{ends, is_default_decl, is_exportable, is_item, level}
use Rattle.grammar_spec.specs.Grammar.{Produces}
use Rattle.grammar_spec.specs.Modules.{DefaultDeclaration, ExportDeclaration, starts_default}
use Rattle.grammar_spec.specs.Children.{is_module_item, child}
use Rattle.print_gaps.specs.Edges.{starts_with_word}
use Rattle.print_layout_spec.specs.Layout.{is_variables, laid, word}
use Rattle.print_layout_spec.specs.Looks.{blank, end, formats, semi, when, ◌·◌}
use Rattle.print_layout_spec.specs.declared.look.Look.{Look}
use Rattle.print_layout_spec.specs.declared.look.Stand.{Stand}
use Rattle.print_layout_spec.specs.declared.look.Stand.TheVariants.{Alone}
use Rattle.again_laws.specs.Tokens.Spacings.{Spacing, Spaced, Touching}
use Rattle.again_laws.specs.Tokens.Lexicon.{Lexicon}
use Rattle.again_laws.specs.Tokens.Means.{Known}
use Rattle.again_laws.specs.Tokens.Told.{says}
use Rattle.again_laws.specs.Derived.Redo.{Leaves, Mode, Plain, redo}
use Rattle.again_laws.proofs.derived_rules.Naming.{leaves_at}
use Rattle.again_laws.proofs.derived_rules.Begins.{Begins, fine, is_inner, is_part, same_start}
use Rattle.again_laws.proofs.derived_rules.Bodies.{follow_closed, item_closed}
use Rattle.again_laws.proofs.derived_rules.Ends.{above, ended_known, quiet_at}
use Rattle.again_laws.proofs.derived_rules.Follow.{is_closed, no_item}
use Rattle.again_laws.proofs.derived_rules.Shapes.{alike}
use Rattle.again_laws.proofs.derived_rules.Sound.{Out, Sound, expr, expr_begins, expr_low, outer, plain_part}
use Rattle.again_laws.proofs.derived_rules.Tokens.{ended, keyed, says_map, semi_of, skip, worded}

exported_sort : (t : Tree) → is_exportable t ≡ true → (is_item t ≡ true) × (is_inner t ≡ false)
exported_sort (class_decl s n k) h = (refl, refl)
exported_sort (fn_decl s n f) h = (refl, refl)
exported_sort (var_decl s k ds) h = (var_item (nat_le let_kind k), refl)
  where
    var_item : (v : Bool) → (not v || v) ≡ true
    var_item true = refl
    var_item false = refl
exported_sort _ h = absurd (true≢false (sym h))

re_is_exportable : (l : Leaves) (m : Mode) (t : Tree) → is_exportable (redo l m t) ≡ is_exportable t
re_is_exportable l m (class_decl s n k) = refl
re_is_exportable l m (fn_decl s n f) = refl
re_is_exportable l m (var_decl s k ds) = refl
re_is_exportable l m _ = refl

default_sort : (t : Tree) → is_default_decl t ≡ true → (is_part t ≡ true) × (is_closed t ≡ true) × (is_module_item t ≡ false)
default_sort (class_expr s n k) h = (refl, refl, refl)
default_sort (fn_expr s n f) h = (refl, refl, refl)
default_sort _ h = absurd (true≢false (sym h))

re_is_default_decl : (l : Leaves) (m : Mode) (t : Tree) → is_default_decl (redo l m t) ≡ is_default_decl t
re_is_default_decl l m (class_expr s n k) = refl
re_is_default_decl l m (fn_expr s n f) = refl
re_is_default_decl l m _ = refl

-- ---- how an expression that is exported begins

last_of : (j j0 b b0 : Bool) → (j ≡ false) ⊎ ((j ≡ j0) × (j ≡ true → b0 ≡ false)) → not (j0 && not b0) ≡ true → not (j && not b) ≡ true
last_of false j0 b b0 h g = refl
last_of true j0 b b0 (inl e) g = absurd (true≢false e)
last_of true true b b0 (inr e) g = absurd (true≢false (sym (subst (λ (v : Bool). not (true && not v) ≡ true) (e.1 refl) g)))
last_of true false b b0 (inr e) g = absurd (true≢false e.0)

bits : (f k a j j0 b b0 : Bool) → (a ≡ true → (j ≡ false) ⊎ ((j ≡ j0) × (j ≡ true → b0 ≡ false))) → not (f || (k || (a && (j0 && not b0)))) ≡ true → not (f || (k || (a && (j && not b)))) ≡ true
bits true k a j j0 b b0 g h = h
bits false true a j j0 b b0 g h = h
bits false false false j j0 b b0 g h = refl
bits false false true j j0 b b0 g h = last_of j j0 b b0 (g refl) h

fewer : (u f k a l : Bool) → not (u || (f || (k || (a || l)))) ≡ true → not (f || (k || a)) ≡ true
fewer true f k a l h = absurd (true≢false (sym h))
fewer false true k a l h = absurd (true≢false (sym h))
fewer false false true a l h = absurd (true≢false (sym h))
fewer false false false true l h = absurd (true≢false (sym h))
fewer false false false false l h = refl

default_again : {v : Bool} (ts0 m0 ts m : Input) → Begins v ts0 m0 ts m → (kind m ≡ function_kind → ⊥) → starts_default ts0 ≡ true → starts_default ts ≡ true
default_again ts0 m0 ts m (fine i e f) n h = fewer (kind ts == left_brace_kind) (kind ts == function_kind) (kind ts == class_kind) ((kind ts == async_kind) && ((kind2 ts == function_kind) && not (brk2 ts))) ((kind ts == let_kind) && (kind2 ts == left_bracket_kind)) e
default_again ts0 m0 ts m (same_start e f) n h = bits (kind ts == function_kind) (kind ts == class_kind) (kind ts == async_kind) (kind2 ts == function_kind) (kind2 ts0 == function_kind) (brk2 ts) (brk2 ts0) (λ q. second (f (or_right (kind ts == let_kind) (kind ts == async_kind) q)))
    (subst (λ (k : ℕ). not ((k == function_kind) || ((k == class_kind) || ((k == async_kind) && ((kind2 ts0 == function_kind) && not (brk2 ts0))))) ≡ true) (sym e) h)
  where
    second : ((rest ts0 ≡ m0) × (rest ts ≡ m)) ⊎ ((kind2 ts ≡ kind2 ts0) × (kind2 ts ≡ function_kind → brk2 ts0 ≡ false)) → ((kind2 ts == function_kind) ≡ false) ⊎ (((kind2 ts == function_kind) ≡ (kind2 ts0 == function_kind)) × ((kind2 ts == function_kind) ≡ true → brk2 ts0 ≡ false))
    second (inl p) = inl (ne_eqb (kind2 ts) function_kind (λ q. n (sym (ap kind p.1) ∙ q)))
    second (inr p) = inr (ap (λ (k : ℕ). k == function_kind) p.0, λ q. p.1 (eqb-true (kind2 ts) function_kind q))

module _ (look : Look) (x : Lexicon look.style) where
  -- ---- `export` before a declaration

  export_with : (s : Span) (t : Tree) → Sound look x.naming Alone t → (st : Stand) (c : Code) (ts0 r0 : Input) → ExportDeclaration c s (child t (λ y. Produces t y)) ts0 r0 → Known ts0.places → (b : Spacing) (ts : Input) (K : Spacing → Input → Type 0) → says x.naming (word (codes "export") · blank · laid look Alone t · when (is_variables t) (semi · end s)) b ts K
      → Out look x.naming st (export_decl s t) c ts0 r0 b ts K
  export_with s t f st c ts0 r0 h k b ts K q =
      let p = exported_sort t h.2 in
      let z = outer look x.naming Alone t f p.1 (in_list c) h.0 r0 h.3 (x.later ts0 h.0 h.1.3 k) Spaced q.0 K (says_map x.naming (laid look Alone t) Spaced q.0 _ _ (λ d m i. ended_only (is_variables t) d m i) q.2) in record {
        d = z.d;
        m = z.m;
        more = z.more;
        known = z.known;
        broke = q.1.broke;
        tight = λ e. absurd (true≢false (sym e));
        begins = λ e. absurd (eqb-false export_kind else_kind refl (sym (keyed look x export_kind q.1) ∙ e));
        again = λ l. let w = z.again (follow_closed t r0 z.m (item_closed t p.0) (l.other refl)) in record {
          tree = export_decl (span (lo ts) z.m.last) w.tree;
          produced = (q.0, worded look x c export_kind q.1, alike is_exportable re_is_exportable (leaves_at look x.naming) Plain t w.tree w.same ∙ h.2, w.produced, refl);
          directive = refl;
          quoted = λ p q. refl;
          same = record { so = λ n. ap (λ (t : Tree). export_decl no_place t) (w.same.so Plain) };
        };
      }
    where
      ended_only : (v : Bool) (d : Spacing) (m : Input) → says x.naming (when v (semi · end s)) d m K → says x.naming (when v semi) d m K
      ended_only true d m i = i
      ended_only false d m i = i

  pub export_on : (s : Span) (t : Tree) → Sound look x.naming Alone t → (st : Stand) → Sound look x.naming st (export_decl s t)
  export_on s (class_decl cs i (class t none ms p)) f st c ts0 r0 h k b ts K q = export_with s (class_decl cs i (class t none ms p)) f st c ts0 r0 h k b ts K q
  export_on s (class_decl cs i (class t (more e ds) ms p)) f st c ts0 r0 h k b ts K q = absurd h.3.4.2
  export_on s (class_decl cs i _) f st c ts0 r0 h k b ts K q = absurd (none-some cs h.3.5)
  export_on s (fn_decl t i p) f st c ts0 r0 h k b ts K q = export_with s (fn_decl t i p) f st c ts0 r0 h k b ts K q
  export_on s (var_decl t p ds) f st c ts0 r0 h k b ts K q = export_with s (var_decl t p ds) f st c ts0 r0 h k b ts K q
  export_on s _ f st c ts0 r0 h k b ts K q = absurd (true≢false (sym h.2))

  -- ---- `export default`

  default_with : (s : Span) (t : Tree) → Sound look x.naming Alone t → (st : Stand) (c : Code) (ts0 r0 : Input) → DefaultDeclaration c s (child t (λ y. Produces t y)) ts0 r0 → Known ts0.places → (b : Spacing) (ts : Input) (K : Spacing → Input → Type 0) → says x.naming (word (codes "export") · blank · word (codes "default") · blank · laid look Alone t) b ts K
      → Out look x.naming st (export_default_decl s t) c ts0 r0 b ts K
  default_with s t f st c ts0 r0 h k b ts K q =
      let p = default_sort t h.2 in
      let i = q.2 in
      let z = plain_part look x.naming Alone t f p.0 c h.0 r0 h.3 (x.later h.1.0 h.0 h.1.2.3 (x.later ts0 h.1.0 h.1.1.3 k)) Spaced i.0 K i.2 in record {
        d = z.d;
        m = z.m;
        more = z.more;
        known = z.known;
        broke = q.1.broke;
        tight = λ e. absurd (true≢false (sym e));
        begins = λ e. absurd (eqb-false export_kind else_kind refl (sym (keyed look x export_kind q.1) ∙ e));
        again = λ l. let w = z.again (follow_closed t r0 z.m p.1 (l.other refl)) in record {
          tree = export_default_decl (span (lo ts) z.m.last) w.tree;
          produced = (i.0, (q.0, worded look x c export_kind q.1, worded look x c default_kind i.1), alike is_default_decl re_is_default_decl (leaves_at look x.naming) Plain t w.tree w.same ∙ h.2, w.produced, refl);
          directive = refl;
          quoted = λ p q. refl;
          same = record { so = λ n. ap (λ (t : Tree). export_default_decl no_place t) (w.same.so Plain) };
        };
      }

  pub default_on : (s : Span) (t : Tree) → Sound look x.naming Alone t → (st : Stand) → Sound look x.naming st (export_default_decl s t)
  default_on s (class_expr cs i (class t none ms p)) f st c ts0 r0 h k b ts K q = default_with s (class_expr cs i (class t none ms p)) f st c ts0 r0 h k b ts K q
  default_on s (class_expr cs i (class t (more e ds) ms p)) f st c ts0 r0 h k b ts K q = absurd h.3.4.2
  default_on s (class_expr cs i _) f st c ts0 r0 h k b ts K q = absurd (none-some cs h.3.5)
  default_on s (fn_expr t i p) f st c ts0 r0 h k b ts K q = default_with s (fn_expr t i p) f st c ts0 r0 h k b ts K q
  default_on s _ f st c ts0 r0 h k b ts K q = absurd (true≢false (sym h.2))

  pub default_expression_on : (s : Span) (e : Tree) → Sound look x.naming Alone e → (st : Stand) → Sound look x.naming st (export_default_expr s e)
  default_expression_on s e f st c ts0 r0 h k b ts K q =
      let n = above assignment_level (level e) (omega arith) h.4.0 in
      let i = q.2 in
      let y = expr look x.naming assignment_level Alone e f (omega arith) c h.0 h.1 h.4 (x.later h.2.0 h.0 h.2.2.3 (x.later ts0 h.2.0 h.2.1.3 k)) _ i.0 _ (skip x.naming (starts_with_word e || formats look) Touching i.0 _ i.2) in
      let o = semi_of y.d y.m K y.more in let j = quiet_at look x o.2 in record {
        d = o.0;
        m = o.1;
        more = o.3;
        known = ended_known look x c (ends e) h.1 r0 h.5 y.known;
        broke = q.1.broke;
        tight = λ e. absurd (true≢false (sym e));
        begins = λ e. absurd (eqb-false export_kind else_kind refl (sym (keyed look x export_kind q.1) ∙ e));
        again = λ l. let w = y.again (record { quiet = λ z. j.calm; other = λ z. absurd (no_item e n z) }) in record {
          tree = export_default_expr (span (lo ts) o.1.last) w.tree;
          produced = (i.0, y.m, (q.0, worded look x c export_kind q.1, worded look x c default_kind i.1), default_again h.0 h.1 i.0 y.m (expr_begins look x.naming Alone e (assigning c) h.0 h.1 _ i.0 _ n y) j.function h.3, expr_low look x.naming assignment_level Alone e c i.0 y.m h.4.0 (omega arith) w, ended look x c (ends w.tree) o.2, refl);
          directive = refl;
          quoted = λ p q. refl;
          same = record { so = λ n. ap (λ (t : Tree). export_default_expr no_place t) (w.same.so Plain) };
        };
      }
