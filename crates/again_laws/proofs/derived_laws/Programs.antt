-- Scripts and modules derived again (16.1, 16.2).
use Rattle.std.proofs.Common.{Bool, List, None, Option, Some, [], ap, ap₂, arith, false, not, refl, subst, sym, true, true≢false, ℕ, ⊎_elim, ◌||◌, ◌∙◌, ◌≡◌}
use Rattle.std.proofs.lemmas.Bool.{or_cases}
use Rattle.base_token.specs.Kinds.{else_kind, end_kind}
use Rattle.base_token.specs.Tokens.{after}
use Rattle.base_token.specs.declared.place.Span.{Span}
use Rattle.tree_spec.specs.Places.{no_place}
use Rattle.tree_spec.specs.Tree.{Tree, Trees, es_module, export_all, export_decl, export_default_decl, export_default_expr, import_decl, more, named_export, script}
use Rattle.grammar_spec.specs.Tokens.Input.{Code, Input, kind, kind_of, lo, span, unplaced}
use Rattle.grammar_spec.specs.Tokens.Shape.{is_item, is_module_decl}
use Rattle.grammar_spec.specs.Grammar.{Produces, children}
use Rattle.grammar_spec.specs.Modules.{Hashbang, Program}
use Rattle.grammar_spec.specs.Children.{AtEnd, is_module_item}
use Rattle.print_layout_spec.specs.Layout.{hashbang, is_empty, laid, statements}
use Rattle.print_layout_spec.specs.Looks.{commit, last, start, when, ◌·◌}
use Rattle.print_layout_spec.specs.declared.look.Look.{Look}
use Rattle.print_layout_spec.specs.declared.look.Stand.TheVariants.{Alone}
use Rattle.again_laws.specs.Tokens.Spacings.{Spacing}
use Rattle.again_laws.specs.Tokens.Lexicon.{Lexicon}
use Rattle.again_laws.specs.Tokens.Means.{Known}
use Rattle.again_laws.specs.Tokens.Told.{says}
use Rattle.again_laws.specs.Derived.Redo.{AllRedone, Leaves, Mode, Plain, redo}
use Rattle.again_laws.proofs.derived_rules.Naming.{leaves_at}
use Rattle.again_laws.proofs.derived_rules.Begins.{is_inner}
use Rattle.again_laws.proofs.derived_rules.Bodies.{item_flat, statements_on}
use Rattle.again_laws.proofs.derived_rules.Follow.{is_closed}
use Rattle.again_laws.proofs.derived_rules.Shapes.{re_is_item}
use Rattle.again_laws.proofs.derived_rules.Sound.{AllSound}
use Rattle.again_laws.proofs.derived_rules.Tokens.{skip_mark}
use Rattle.again_laws.proofs.derived_laws.DerivedAgain.{agains}
use Rattle.again_laws.specs.DerivedLaws.DerivedLaws.{DerivedAgain, DerivesAgain, is_program}

re_is_module_decl : (l : Leaves) (m : Mode) (t : Tree) → is_module_decl (redo l m t) ≡ is_module_decl t
re_is_module_decl l m (import_decl s xs f w) = refl
re_is_module_decl l m (export_decl s d) = refl
re_is_module_decl l m (named_export s xs f w) = refl
re_is_module_decl l m (export_default_decl s d) = refl
re_is_module_decl l m (export_default_expr s a) = refl
re_is_module_decl l m (export_all s f w) = refl
re_is_module_decl l m _ = refl

re_is_module_item : (l : Leaves) (m : Mode) (t : Tree) → is_module_item (redo l m t) ≡ is_module_item t
re_is_module_item l m t = ap₂ (λ (a b : Bool). a || b) (re_is_item l m t) (re_is_module_decl l m t)

module_outer : (t : Tree) → is_module_decl t ≡ true → (is_closed t ≡ true) × (is_inner t ≡ false)
module_outer (import_decl s xs f w) h = (refl, refl)
module_outer (export_decl s d) h = (refl, refl)
module_outer (named_export s xs f w) h = (refl, refl)
module_outer (export_default_decl s d) h = (refl, refl)
module_outer (export_default_expr s a) h = (refl, refl)
module_outer (export_all s f w) h = (refl, refl)
module_outer _ h = absurd (true≢false (sym h))

module_item_flat : (t : Tree) → is_module_item t ≡ true → (is_closed t ≡ true) × (is_inner t ≡ false)
module_item_flat t h = ⊎_elim (λ (e : is_item t ≡ true). item_flat t e) (λ (e : is_module_decl t ≡ true). module_outer t e) (or_cases (is_item t) (is_module_decl t) h)

end_no_else : (ts : Input) → ts.places ≡ [] → kind ts ≡ else_kind → ⊥
end_no_else ts e f = by (sym (ap kind_of e) ∙ f)
  where
    by : end_kind ≡ else_kind → ⊥
    by e = omega arith

module _ (look : Look) (x : Lexicon look.style) where
  closed_end : (c : Code) (m r : Input) → AtEnd c m r → Known m.places → Known r.places
  closed_end c m r h k = subst (λ (i : Input). Known i.places) h.1 k

  -- ---- a hashbang, or none (12.5)

  record Hashbang_on (l : Option (List ℕ)) (c : Code) (r0 : Input) (ts : Input) (K : Spacing → Input → Type 0) : Type 0 where
    d : Spacing
    m : Input
    more : K d m
    known : Known r0.places
    again : Hashbang (unplaced c) l ts m

  hashbang_on : (l : Option (List ℕ)) (c : Code) (ts0 r0 : Input) → Hashbang c l ts0 r0 → Known ts0.places → (b : Spacing) (ts : Input) (K : Spacing → Input → Type 0) → says x.naming (hashbang l) b ts K → Hashbang_on l c r0 ts K
  hashbang_on None c ts0 r0 h k b ts K q = record { d = b; m = ts; more = q; known = subst (λ (i : Input). Known i.places) h k; again = refl }
  hashbang_on (Some own) c ts0 r0 h k b ts K q = record { d = q.2.0; m = q.0; more = q.2.2; known = x.later ts0 r0 h.1.2 k; again = (q.1.content_is, (q.1.kind_is, tt, q.1.after)) }

  -- ---- the whole

  uncommitted : (v : Bool) (d : Spacing) (m : Input) → says x.naming (when v commit) d m (λ d m. m.places ≡ []) → m.places ≡ []
  uncommitted true d m o = o
  uncommitted false d m o = o

  record Program_on (may : Tree → Bool) (l : Option (List ℕ)) (ss : Trees) (c : Code) (ts : Input) : Type 0 where
    us : Trees
    m : Input
    produced : Program may (unplaced c) (span (lo ts) m.last) l (children us) ts m
    same : AllRedone (leaves_at look x.naming) Plain ss us

  program_on : (may : Tree → Bool) → ((l : Leaves) (m : Mode) (t : Tree) → may (redo l m t) ≡ may t) → ((t : Tree) → may t ≡ true → (is_closed t ≡ true) × (is_inner t ≡ false)) → (s : Span) (ss : Trees) (l : Option (List ℕ)) → AllSound look x.naming ss → (c : Code) (ts0 r0 : Input)
      → Program may c s l (children ss) ts0 r0 → Known ts0.places → (b : Spacing) (ts : Input) → says x.naming (when (is_empty ss) (start s) · hashbang l · statements look ss · when (not look.omits_last) commit) b ts (λ d m. m.places ≡ []) → Program_on may l ss c ts
  program_on may re flat s ss l a c ts0 r0 h k b ts q =
      let i = skip_mark x.naming (is_empty ss) s.lo b ts _ q in
      let y = hashbang_on l c ts0 h.0 h.1 k b ts (λ d m. says x.naming (statements look ss · when (not look.omits_last) commit) d m (λ d m. m.places ≡ [])) i in
      let v = statements_on look x may re flat AtEnd closed_end c true ss a h.0 r0 h.2 y.known y.d y.m (λ d m. says x.naming (when (not look.omits_last) commit) d m (λ d m. m.places ≡ [])) (λ d m o e. end_no_else m (uncommitted (not look.omits_last) d m o) e) y.more in
      let w = v.again v.m (λ o. (uncommitted (not look.omits_last) v.d v.m v.more, refl)) in
      record { us = w.0; m = v.m; produced = (y.m, y.again, w.1, refl); same = w.2 }

  program_again : (t : Tree) → is_program t ≡ true → (c : Code) (ts0 r0 : Input) → Produces t c ts0 r0 → Known ts0.places → (b : Spacing) (ts : Input) → says x.naming (laid look Alone t) b ts (λ d m. m.places ≡ []) → DerivesAgain x.naming look t c ts
  program_again (script s ss l) i c ts0 r0 h k b ts q =
      let z = program_on is_item re_is_item item_flat s ss l (agains look x ss) c ts0 r0 h k b ts q in
      (script (span (lo ts) z.m.last) z.us l, z.m, z.produced, record { so = λ n. ap (λ (us : Trees). script no_place us l) (z.same.so Plain) })
  program_again (es_module s ss l) i c ts0 r0 h k b ts q =
      let z = program_on is_module_item re_is_module_item module_item_flat s ss l (agains look x ss) c ts0 r0 h k b ts q in
      (es_module (span (lo ts) z.m.last) z.us l, z.m, z.produced, record { so = λ n. ap (λ (us : Trees). es_module no_place us l) (z.same.so Plain) })
  program_again _ i c ts0 r0 h k b ts q = absurd (true≢false (sym i))

pub derived_again : DerivedAgain
derived_again n look x t i c ts0 r0 h k b ts q = program_again look (record x { naming = n }) t i c ts0 r0 h k b ts q
