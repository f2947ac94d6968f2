-- Exports derived again (16.2.3).
use Rattle.std.proofs.Common.{Bool, [], ap, ap₂, codes, false, if◌then◌else◌, not, refl, subst, sym, true, true≢false, ◌&&◌, ◌||◌, ◌∙◌, ◌≡◌}
use Rattle.std.proofs.lemmas.Bool.{not-true, eqb-false}
use Rattle.base_token.specs.Kinds.{else_kind, export_kind, from_kind, left_brace_kind, mul_kind, right_brace_kind}
use Rattle.base_token.specs.declared.place.Span.{Span}
use Rattle.tree_spec.specs.Places.{no_place}
use Rattle.tree_spec.specs.Tree.{Tree, Trees, absent, export_all, export_named_specifier, export_namespace_specifier, more, named_export, none, str_lit}
use Rattle.grammar_spec.specs.Tokens.Input.{Code, Input, TakesWord, lo, span, unplaced}
use Rattle.grammar_spec.specs.Tokens.Operators.{exports_end}
use Rattle.grammar_spec.specs.Tokens.Shape.{is_absent, is_named_export, is_star_export, is_string}
use Rattle.grammar_spec.specs.Grammar.{Produces, children}
use Rattle.grammar_spec.specs.Modules.{ExportList, ExportStarAs, Source, Specified}
use Rattle.grammar_spec.specs.Children.{By, Ends, IsEmpty, Sorted, is_module_item, child}
use Rattle.grammar_laws.proofs.Covers.{by_no, by_yes}
use Rattle.print_gaps.specs.Edges.{is_there}
use Rattle.print_layout_spec.specs.Layout.{attributes, comma, exports, first_namespace, has_namespace, has_other, in_braces, is_namespace, is_no_namespace, laid, from as laid_from, named_items}
use Rattle.print_layout_spec.specs.Looks.{Laid, blank, brace, formats, gap, nothing, semi, text, when, ◌·◌}
use Rattle.print_layout_spec.specs.declared.look.Look.{Look}
use Rattle.print_layout_spec.specs.declared.look.Stand.{Stand}
use Rattle.print_layout_spec.specs.declared.look.Stand.TheVariants.{Alone, Key}
use Rattle.again_laws.specs.Tokens.Spacings.{Spacing, Touching, blanked}
use Rattle.again_laws.specs.Tokens.Lexicon.{Lexicon}
use Rattle.again_laws.specs.Tokens.Means.{Known}
use Rattle.again_laws.specs.Tokens.Told.{says}
use Rattle.again_laws.specs.Derived.Redo.{AllRedone, Leaves, Mode, Plain, Redone, redo}
use Rattle.again_laws.proofs.derived_rules.Naming.{leaves_at}
use Rattle.again_laws.proofs.derived_rules.Begins.{is_part}
use Rattle.again_laws.proofs.derived_rules.Ends.{absent_same, ended_known, quiet_at, there}
use Rattle.again_laws.proofs.derived_rules.Follow.{calm, closed_calm}
use Rattle.again_laws.proofs.derived_rules.KeyParts.{KeyPart}
use Rattle.again_laws.proofs.derived_rules.Lists.{comma_on, listed, more_same, none_same, sorted}
use Rattle.again_laws.proofs.derived_rules.Shapes.{alike, re_is_absent}
use Rattle.again_laws.proofs.derived_rules.Sound.{AllSound, Sound, plain_part}
use Rattle.again_laws.proofs.derived_rules.Tokens.{ended, gapped, keyed, marked, semi_of, skip, took, worded}
use Rattle.again_laws.proofs.derived_rules.Imports.{first_same}
use Rattle.again_laws.proofs.derived_rules.Sources.{Sourced, source_on}
use Rattle.again_laws.proofs.derived_rules.Specifiers.{EachIs, each_map, from_listed, items_separated, named_export_part, re_is_named_export}

no_namespace_is : (t : Tree) → is_named_export t ≡ true → is_no_namespace t ≡ true
no_namespace_is (export_named_specifier s a b) h = refl
no_namespace_is _ h = absurd (true≢false (sym h))

namespace_sort : (t : Tree) → is_star_export t ≡ true → (is_part t ≡ true) × (is_namespace t ≡ true) × (is_module_item t ≡ false)
namespace_sort (export_namespace_specifier s n) h = (refl, refl, refl)
namespace_sort _ h = absurd (true≢false (sym h))

re_is_star_export : (l : Leaves) (m : Mode) (t : Tree) → is_star_export (redo l m t) ≡ is_star_export t
re_is_star_export l m (export_namespace_specifier s a) = refl
re_is_star_export l m _ = refl

no_namespace_in : (xs : Trees) → EachIs is_no_namespace xs → has_namespace xs ≡ false
no_namespace_in none h = refl
no_namespace_in (more t us) h = ap₂ (λ (a b : Bool). a || b) (not-true (is_namespace t) h.0) (no_namespace_in us h.1)

module _ (look : Look) (x : Lexicon look.style) where
  -- names are no namespace, and say nothing where that stands
  no_first : (xs : Trees) → EachIs is_no_namespace xs → (b : Spacing) (ts : Input) (K : Spacing → Input → Type 0) → says x.naming (first_namespace look xs) b ts K → K b ts
  no_first none e b ts K q = q
  no_first (more t us) e b ts K q = no_first us e.1 b ts K (by (is_namespace t) (not-true (is_namespace t) e.0) q)
    where
      by : (v : Bool) → v ≡ false → says x.naming (if v then laid look Alone t else first_namespace look us) b ts K → says x.naming (first_namespace look us) b ts K
      by true i q = absurd (true≢false i)
      by false i q = q

  -- ---- the end: a module and its attributes, or nothing

  abbrev end_laid : Bool → Tree → Tree → Laid
  end_laid v src with_ = when (is_there src) ((if v then blank else gap look) · laid_from look (laid look Key src) · attributes look with_ (laid look Alone with_)) · semi

  record Ended_by (src with_ : Tree) (c : Code) (r0 : Input) (ts : Input) (K : Spacing → Input → Type 0) : Type 0 where
    d : Spacing
    m : Input
    more : K d m
    known : Known r0.places
    u : Tree
    v : Tree
    calms : calm ts ≡ true
    produced : By (is_absent u) ((is_absent v ≡ true) × Ends (unplaced c) exports_end ts m) ((n : Input) × TakesWord (unplaced c) from_kind ts n × Source (unplaced c) (child u (λ y. Produces u y)) (child v (λ y. Produces v y)) n m)
    same_u : Redone (leaves_at look x.naming) Plain src u
    same_v : Redone (leaves_at look x.naming) Plain with_ v

  either_gap : (v : Bool) (b : Spacing) (ts : Input) (J : Spacing → Input → Type 0) → says x.naming (if v then blank else gap look) b ts J → (d : Spacing) × J d ts
  either_gap true b ts J q = (blanked b, q)
  either_gap false b ts J q = (gapped (formats look) b, skip x.naming (formats look) b ts J q)

  from_source : (w : Bool) (src with_ : Tree) → KeyPart look x.naming src → Sound look x.naming Alone with_ → is_absent src ≡ false → (c : Code) (m0 n0 r0 : Input) → TakesWord c from_kind m0 n0 → Source c (child src (λ y. Produces src y)) (child with_ (λ y. Produces with_ y)) n0 r0 → Known m0.places → (b : Spacing) (ts : Input) (K : Spacing → Input → Type 0)
      → says x.naming (end_laid w src with_) b ts K → (n : Input) × TakesWord (unplaced c) from_kind ts n × Sourced look x src with_ c n0 r0 n K
  from_source w src with_ f g a c m0 n0 r0 t h k b ts K q =
      let p = subst (λ (v : Bool). says x.naming (when v ((if w then blank else gap look) · laid_from look (laid look Key src) · attributes look with_ (laid look Alone with_)) · semi) b ts K) (there src ∙ ap not a) q in
      let i = (either_gap w b ts (λ d m. says x.naming (laid_from look (laid look Key src) · attributes look with_ (laid look Alone with_) · semi) d m K) p).1 in
      (i.0, worded look x c from_kind i.1, source_on look x src with_ f g c n0 r0 h (x.later m0 n0 t.3 k) _ i.0 K (skip x.naming (formats look) Touching i.0 _ i.2))

  ended_on : (w : Bool) (src with_ : Tree) → KeyPart look x.naming src → Sound look x.naming Alone with_ → (c : Code) (v : Bool) → is_absent src ≡ v → (m0 r0 : Input) → By v ((is_absent with_ ≡ true) × Ends c exports_end m0 r0) ((n : Input) × TakesWord c from_kind m0 n × Source c (child src (λ y. Produces src y)) (child with_ (λ y. Produces with_ y)) n r0) → Known m0.places
      → (b : Spacing) (ts : Input) (K : Spacing → Input → Type 0) → says x.naming (end_laid w src with_) b ts K → Ended_by src with_ c r0 ts K
  ended_on w src with_ f g c true a m0 r0 h k b ts K q =
      let o = semi_of b ts K (subst (λ (v : Bool). says x.naming (when v ((if w then blank else gap look) · laid_from look (laid look Key src) · attributes look with_ (laid look Alone with_)) · semi) b ts K) (there src ∙ ap not a) q) in record {
        d = o.0;
        m = o.1;
        more = o.3;
        known = ended_known look x c exports_end m0 r0 h.1 k;
        u = absent;
        v = absent;
        calms = (quiet_at look x o.2).calm;
        produced = (refl, ended look x c exports_end o.2);
        same_u = absent_same (leaves_at look x.naming) Plain src a;
        same_v = absent_same (leaves_at look x.naming) Plain with_ h.0;
      }
  ended_on w src with_ f g c false a m0 r0 h k b ts K q =
      let y = from_source w src with_ f g a c m0 h.0 r0 h.1 h.2 k b ts K q in let z = y.2 in record {
        d = z.d;
        m = z.m;
        more = z.more;
        known = z.known;
        u = z.u;
        v = z.v;
        calms = closed_calm ts from_kind y.1.0 refl;
        produced = by_no (is_absent z.u) _ _ (alike is_absent re_is_absent (leaves_at look x.naming) Plain src z.u z.same_u ∙ a) (y.0, y.1, z.produced);
        same_u = z.same_u;
        same_v = z.same_v;
      }

  -- ---- names in braces

  record Specified_on (xs : Trees) (src with_ : Tree) (c : Code) (r0 : Input) (ts : Input) (K : Spacing → Input → Type 0) : Type 0 where
    d : Spacing
    m : Input
    more : K d m
    known : Known r0.places
    us : Trees
    u : Tree
    v : Tree
    produced : Specified (unplaced c) (children us) (child u (λ y. Produces u y)) (child v (λ y. Produces v y)) ts m
    same_us : AllRedone (leaves_at look x.naming) Plain xs us
    same_u : Redone (leaves_at look x.naming) Plain src u
    same_v : Redone (leaves_at look x.naming) Plain with_ v

  abbrev specified_laid : Trees → Tree → Tree → Laid
  specified_laid xs src with_ = first_namespace look xs · exports look xs (named_items look is_no_namespace false xs) · end_laid (has_namespace xs && not (has_other xs)) src with_

  none_specified : (src with_ : Tree) → KeyPart look x.naming src → Sound look x.naming Alone with_ → (c : Code) (ts0 r0 : Input) → ExportList c [] (child src (λ y. Produces src y)) (child with_ (λ y. Produces with_ y)) ts0 r0 → Known ts0.places → (b : Spacing) (ts : Input) (K : Spacing → Input → Type 0) → says x.naming (specified_laid none src with_) b ts K → Specified_on none src with_ c r0 ts K
  none_specified src with_ f g c ts0 r0 h k b ts K q =
      let o = skip x.naming (formats look) Touching q.0 _ q.2 in
      let z = ended_on false src with_ f g c (is_absent src) refl h.0 r0 h.2 (x.later h.1.0 h.0 h.1.2.2 (x.later ts0 h.1.0 h.1.1.2 k)) Touching o.0 K o.2 in record {
        d = z.d;
        m = z.m;
        more = z.more;
        known = z.known;
        us = none;
        u = z.u;
        v = z.v;
        produced = (o.0, (q.0, took look x c left_brace_kind q.1, took look x c right_brace_kind o.1), z.produced);
        same_us = none_same (leaves_at look x.naming);
        same_u = z.same_u;
        same_v = z.same_v;
      }

  names_specified : (t : Tree) (us : Trees) (src with_ : Tree) → AllSound look x.naming (more t us) → KeyPart look x.naming src → Sound look x.naming Alone with_ → (c : Code) (ts0 r0 : Input) → is_star_export t ≡ false → ExportList c (children (more t us)) (child src (λ y. Produces src y)) (child with_ (λ y. Produces with_ y)) ts0 r0 → Known ts0.places
      → (b : Spacing) (ts : Input) (K : Spacing → Input → Type 0) → says x.naming (specified_laid (more t us) src with_) b ts K → Specified_on (more t us) src with_ c r0 ts K
  names_specified t us src with_ a f g c ts0 r0 i h k b ts K q =
      let e = each_map is_named_export is_no_namespace no_namespace_is (more t us) (from_listed is_named_export c right_brace_kind (more t us) h.1.0 h.0 h.1.2) in
      let p = no_first (more t us) e b ts (λ d m. says x.naming (exports look (more t us) (named_items look is_no_namespace false (more t us)) · end_laid (has_namespace (more t us) && not (has_other (more t us))) src with_) d m K) q in
      let l = shown (has_other (more t us)) (ap (λ (v : Bool). v || has_other us) e.0) (has_namespace (more t us)) (no_namespace_in (more t us) e) p in
      let j = skip x.naming (formats look) Touching l.0 _ l.2 in
      let n = items_separated look x is_no_namespace false t us e (gapped (formats look) Touching) l.0 _ j in
      let z = listed look x (Sorted is_named_export c) (Sorted is_named_export (unplaced c)) (sorted look x is_named_export re_is_named_export named_export_part c) c right_brace_kind refl (comma look) (comma_on look x) (more t us) a h.1.0 h.0 h.1.2 (x.later ts0 h.1.0 h.1.1.2 k) (gapped (formats look) Touching) l.0 (λ d m. says x.naming (gap look · brace) d m (λ d m. says x.naming (end_laid false src with_) d m K))
      (λ d m o. let l = skip x.naming (formats look) d m _ o in marked look x right_brace_kind l.1) n in
      let o = skip x.naming (formats look) z.d z.m _ z.more in let w = z.again o.0 (took look x c right_brace_kind o.1) in
      let v = ended_on false src with_ f g c (is_absent src) refl h.0 r0 h.2 z.known Touching o.0 K o.2 in record {
        d = v.d;
        m = v.m;
        more = v.more;
        known = v.known;
        us = w.0;
        u = v.u;
        v = v.v;
        produced = as_list w.0 v.u v.v v.m (o.0, (l.0, took look x c left_brace_kind l.1, w.1), v.produced) w.2;
        same_us = w.2;
        same_u = v.same_u;
        same_v = v.same_v;
      }
    where
      shown : (a : Bool) → a ≡ true → (d : Bool) → d ≡ false → says x.naming (when (a || not d) (when d (comma look) · (if a then in_braces look (named_items look is_no_namespace false (more t us)) else (text (codes "{") · gap look · brace))) · end_laid (d && not a) src with_) b ts K
          → says x.naming (in_braces look (named_items look is_no_namespace false (more t us)) · end_laid false src with_) b ts K
      shown true e false n q = q
      shown false e d n q = absurd (true≢false (sym e))
      shown true e true n q = absurd (true≢false n)

      none_more : (ts : Trees) (t : Tree) → none ≡ more t ts → ⊥
      none_more ts t e = cc

      as_list : (vs : Trees) (u v : Tree) (m : Input) → ExportList (unplaced c) (children vs) (child u (λ y. Produces u y)) (child v (λ y. Produces v y)) ts m → AllRedone (leaves_at look x.naming) Plain (more t us) vs → Specified (unplaced c) (children vs) (child u (λ y. Produces u y)) (child v (λ y. Produces v y)) ts m
      as_list none u v m h s = h
      as_list (more w ws) u v m h s = by_no (is_star_export w) _ _ (first_same look x.naming t us w ws s is_star_export re_is_star_export i) h

  star_specified : (t : Tree) (src with_ : Tree) → Sound look x.naming Alone t → KeyPart look x.naming src → Sound look x.naming Alone with_ → (c : Code) (ts0 r0 : Input) → is_star_export t ≡ true → ExportStarAs c (child t (λ y. Produces t y)) (child src (λ y. Produces src y)) (child with_ (λ y. Produces with_ y)) ts0 r0 → Known ts0.places
      → (b : Spacing) (ts : Input) (K : Spacing → Input → Type 0) → says x.naming (specified_laid (more t none) src with_) b ts K → Specified_on (more t none) src with_ c r0 ts K
  star_specified t src with_ a f g c ts0 r0 i h k b ts K q =
      let p = namespace_sort t i in
      let l = shown (is_namespace t) p.1 q in
      let z = plain_part look x.naming Alone t a p.0 c ts0 h.0 h.2 k b ts (λ d m. says x.naming (end_laid true src with_) d m K) l in
      let y = from_source true src with_ f g (string_there src h.4.1.0) c h.0 h.1 r0 h.3 h.4 z.known z.d z.m K z.more in let v = y.2 in
      let w = z.again (record { quiet = λ e. closed_calm z.m from_kind y.1.0 refl; other = λ e. absurd (true≢false (sym e ∙ p.2)) }) in record {
        d = v.d;
        m = v.m;
        more = v.more;
        known = v.known;
        us = more w.tree none;
        u = v.u;
        v = v.v;
        produced = by_yes (is_star_export w.tree) _ _ (alike is_star_export re_is_star_export (leaves_at look x.naming) Plain t w.tree w.same ∙ i) (tt, (z.m, y.0, w.produced, y.1, v.produced));
        same_us = more_same (leaves_at look x.naming) Plain t w.tree none none w.same (none_same (leaves_at look x.naming));
        same_u = v.same_u;
        same_v = v.same_v;
      }
    where
      shown : (v : Bool) → v ≡ true → says x.naming ((if v then laid look Alone t else nothing)
          · when ((not v || false) || not (v || false)) (when (v || false) (comma look) · (if (not v || false) then in_braces look (named_items look is_no_namespace false (more t none)) else (text (codes "{") · gap look · brace)))
          · end_laid ((v || false) && not (not v || false)) src with_) b ts K → says x.naming (laid look Alone t · end_laid true src with_) b ts K
      shown true e q = q
      shown false e q = absurd (true≢false (sym e))

      string_there : (t : Tree) → is_string t ≡ true → is_absent t ≡ false
      string_there (str_lit s u w) h = refl
      string_there _ h = absurd (true≢false (sym h))

  specified_on : (xs : Trees) (src with_ : Tree) → AllSound look x.naming xs → KeyPart look x.naming src → Sound look x.naming Alone with_ → (c : Code) (ts0 r0 : Input) → Specified c (children xs) (child src (λ y. Produces src y)) (child with_ (λ y. Produces with_ y)) ts0 r0 → Known ts0.places → (b : Spacing) (ts : Input) (K : Spacing → Input → Type 0)
      → says x.naming (specified_laid xs src with_) b ts K → Specified_on xs src with_ c r0 ts K
  specified_on none src with_ a f g c ts0 r0 h k b ts K q = none_specified src with_ f g c ts0 r0 h k b ts K q
  specified_on (more t us) src with_ a f g c ts0 r0 h k b ts K q = by (is_star_export t) refl h
    where
      lone : (us : Trees) → IsEmpty (children us) → is_star_export t ≡ true → ExportStarAs c (child t (λ y. Produces t y)) (child src (λ y. Produces src y)) (child with_ (λ y. Produces with_ y)) ts0 r0 → says x.naming (specified_laid (more t us) src with_) b ts K → Specified_on (more t us) src with_ c r0 ts K
      lone none i e h q = star_specified t src with_ a.0 f g c ts0 r0 e h k b ts K q
      lone (more u vs) i e h q = absurd i

      by : (v : Bool) → is_star_export t ≡ v → By v (IsEmpty (children us) × ExportStarAs c (child t (λ y. Produces t y)) (child src (λ y. Produces src y)) (child with_ (λ y. Produces with_ y)) ts0 r0) (ExportList c (children (more t us)) (child src (λ y. Produces src y)) (child with_ (λ y. Produces with_ y)) ts0 r0)
          → Specified_on (more t us) src with_ c r0 ts K
      by true e i = lone us i.0 e i.1 q
      by false e i = names_specified t us src with_ a f g c ts0 r0 e i k b ts K q

  pub named_export_on : (s : Span) (xs : Trees) (src with_ : Tree) → AllSound look x.naming xs → KeyPart look x.naming src → Sound look x.naming Alone with_ → (st : Stand) → Sound look x.naming st (named_export s xs src with_)
  named_export_on s xs src with_ a f g st c ts0 r0 h k b ts K q =
      let z = specified_on xs src with_ a f g c h.0 r0 h.2 (x.later ts0 h.0 h.1.3 k) _ q.0 K (skip x.naming (formats look) Touching q.0 _ q.2) in record {
        d = z.d;
        m = z.m;
        more = z.more;
        known = z.known;
        broke = q.1.broke;
        tight = λ e. absurd (true≢false (sym e));
        begins = λ e. absurd (eqb-false export_kind else_kind refl (sym (keyed look x export_kind q.1) ∙ e));
        again = λ l. record {
          tree = named_export (span (lo ts) z.m.last) z.us z.u z.v;
          produced = (q.0, worded look x c export_kind q.1, z.produced, refl);
          directive = refl;
          quoted = λ p q. refl;
          same = record { so = λ n. export_same (z.same_us.so Plain) (z.same_u.so Plain) (z.same_v.so Plain) };
        };
      }
    where
      export_same : {xs us : Trees} {a b d e : Tree} → xs ≡ us → a ≡ b → d ≡ e → named_export no_place xs a d ≡ named_export no_place us b e
      export_same p q r = ap₂ (λ (us : Trees) (t : Tree × Tree). named_export no_place us t.0 t.1) p (ap₂ (λ (a b : Tree). (a, b)) q r)

  pub export_all_on : (s : Span) (src with_ : Tree) → KeyPart look x.naming src → Sound look x.naming Alone with_ → (st : Stand) → Sound look x.naming st (export_all s src with_)
  export_all_on s src with_ f g st c ts0 r0 h k b ts K q =
      let i = skip x.naming (formats look) Touching q.0 _ q.2 in
      let j = skip x.naming (formats look) Touching i.0 _ i.2 in
      let z = source_on look x src with_ f g c h.2 r0 h.6 (x.later h.1 h.2 h.5.3 (x.later h.0 h.1 h.4.2 (x.later ts0 h.0 h.3.3 k))) _ j.0 K (skip x.naming (formats look) Touching j.0 _ j.2) in record {
        d = z.d;
        m = z.m;
        more = z.more;
        known = z.known;
        broke = q.1.broke;
        tight = λ e. absurd (true≢false (sym e));
        begins = λ e. absurd (eqb-false export_kind else_kind refl (sym (keyed look x export_kind q.1) ∙ e));
        again = λ l. record {
          tree = export_all (span (lo ts) z.m.last) z.u z.v;
          produced = (q.0, i.0, j.0, worded look x c export_kind q.1, took look x c mul_kind i.1, worded look x c from_kind j.1, z.produced, refl);
          directive = refl;
          quoted = λ p q. refl;
          same = record { so = λ n. ap₂ (λ (a b : Tree). export_all no_place a b) (z.same_u.so Plain) (z.same_v.so Plain) };
        };
      }
