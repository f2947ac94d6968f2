-- Specifiers of imports and exports derived again, and lists of them in braces (16.2.2, 16.2.3).
use Rattle.std.proofs.Common.{Bool, ap, ap₂, codes, false, if◌then◌else◌, inl, inr, refl, subst, sym, true, true≢false, ℕ, ◌∙◌, ◌≡◌, ◌⊎◌}
use Rattle.std.proofs.lemmas.Bool.{eqb-false}
use Rattle.base_token.specs.Kinds.{as_kind, comma_kind, else_kind, mul_kind}
use Rattle.base_token.specs.declared.place.Span.{Span}
use Rattle.tree_spec.specs.Places.{no_place}
use Rattle.tree_spec.specs.Tree.{Tree, Trees, absent, export_named_specifier, export_namespace_specifier, import_default_specifier, import_named_specifier, import_star_as_specifier, more, none}
use Rattle.grammar_spec.specs.Tokens.Input.{Code, Input, Takes, TakesWord, lo, span}
use Rattle.grammar_spec.specs.Tokens.Shape.{export_name, is_absent, is_named_export, is_named_import, is_rest}
use Rattle.grammar_spec.specs.Grammar.{Produces, children}
use Rattle.grammar_spec.specs.Modules.{ExportName}
use Rattle.grammar_spec.specs.Children.{By, Listed, Sorted, is_ident, is_module_item, child}
use Rattle.grammar_laws.proofs.Covers.{by_no}
use Rattle.print_layout_spec.specs.Layout.{comma, laid, named_items, separated, word}
use Rattle.print_layout_spec.specs.Looks.{Laid, blank, formats, when, ◌·◌}
use Rattle.print_layout_spec.specs.declared.look.Look.{Look}
use Rattle.print_layout_spec.specs.declared.look.Stand.{Stand}
use Rattle.print_layout_spec.specs.declared.look.Stand.TheVariants.{Alone, Key}
use Rattle.again_laws.specs.Tokens.Spacings.{Spacing, Spaced, Touching}
use Rattle.again_laws.specs.Tokens.Lexicon.{Lexicon}
use Rattle.again_laws.specs.Tokens.Means.{Known}
use Rattle.again_laws.specs.Tokens.Told.{says}
use Rattle.again_laws.specs.Derived.Redo.{Leaves, Mode, Plain, redo}
use Rattle.again_laws.proofs.derived_rules.Naming.{leaves_at}
use Rattle.again_laws.proofs.derived_rules.Begins.{is_part}
use Rattle.again_laws.proofs.derived_rules.KeyParts.{KeyPart}
use Rattle.again_laws.proofs.derived_rules.Names.{id_on}
use Rattle.again_laws.proofs.derived_rules.Shapes.{alike, re_is_absent}
use Rattle.again_laws.proofs.derived_rules.Sound.{Sound}
use Rattle.again_laws.proofs.derived_rules.Tokens.{marked, says_map, skip, took, worded}
use Rattle.again_laws.proofs.derived_rules.Sources.{export_name_on}
use Rattle.again_laws.proofs.Layouts.{laid_import, laid_export}

pub re_is_named_import : (l : Leaves) (m : Mode) (t : Tree) → is_named_import (redo l m t) ≡ is_named_import t
re_is_named_import l m (import_named_specifier s a b) = refl
re_is_named_import l m _ = refl

pub re_is_named_export : (l : Leaves) (m : Mode) (t : Tree) → is_named_export (redo l m t) ≡ is_named_export t
re_is_named_export l m (export_named_specifier s a b) = refl
re_is_named_export l m _ = refl

pub named_import_part : (t : Tree) → is_named_import t ≡ true → (is_part t ≡ true) × (is_module_item t ≡ false)
named_import_part (import_named_specifier s a b) h = (refl, refl)
named_import_part _ h = absurd (true≢false (sym h))

pub named_export_part : (t : Tree) → is_named_export t ≡ true → (is_part t ≡ true) × (is_module_item t ≡ false)
named_export_part (export_named_specifier s a b) h = (refl, refl)
named_export_part _ h = absurd (true≢false (sym h))

-- each tree of a list is of a sort
abbrev pub EachIs : (Tree → Bool) → Trees → Type 0
EachIs p none = Unit {0}
EachIs p (more t ts) = (p t ≡ true) × EachIs p ts

pub from_listed : (p : Tree → Bool) (c : Code) (close : ℕ) (xs : Trees) (ts r : Input) → Listed false (Sorted p c) c close (children xs) ts r → EachIs p xs
from_listed p c close none ts r h = tt
from_listed p c close (more t none) ts r h = (h.1.0, tt)
from_listed p c close (more t (more u us)) ts r h = let i = going h.2 in (h.1.0, from_listed p c close (more u us) i.0 r i.1)
  where
    going : ((is_rest t ≡ false) × (n : Input) × Takes c comma_kind h.0 n × Listed false (Sorted p c) c close (children (more u us)) n r) ⊎ (⊥ × Takes c close h.0 r) → (n : Input) × Listed false (Sorted p c) c close (children (more u us)) n r
    going (inl i) = (i.1, i.3)
    going (inr i) = absurd i.0

pub each_map : (p q : Tree → Bool) → ((t : Tree) → p t ≡ true → q t ≡ true) → (xs : Trees) → EachIs p xs → EachIs q xs
each_map p q f none h = tt
each_map p q f (more t us) h = (f t h.0, each_map p q f us h.1)

module _ (look : Look) (x : Lexicon look.style) where
  pub import_bare : (s : Span) (l : Tree) (st : Stand) → Sound look x.naming st (import_named_specifier s l absent)
  import_bare s l st c ts0 r0 h k b ts K q =
      let z = id_on look x l c ts0 r0 h.0 k b ts K q in record {
        d = Touching;
        m = z.m;
        more = z.more;
        known = z.known;
        broke = z.broke;
        tight = λ e. absurd (true≢false (sym e));
        begins = z.first;
        again = λ g. record {
          tree = import_named_specifier (span (lo ts) z.m.last) z.again.0 absent;
          produced = (z.again.1, refl);
          directive = refl;
          quoted = λ p q. refl;
          same = record { so = λ n. ap (λ (t : Tree). import_named_specifier no_place t absent) (z.again.2.so Plain) };
        };
      }

  pub import_as : (s : Span) (l i : Tree) → is_absent i ≡ false → KeyPart look x.naming i → (st : Stand) → Sound look x.naming st (import_named_specifier s l i)
  import_as s l i e f st c ts0 r0 h k b ts K q =
      let g = subst (λ (v : Bool). By v (Sorted is_ident c (child l (λ y. Produces l y)) ts0 r0) ((m : Input) × (n : Input) × ExportName c (export_name i) (child i (λ y. Produces i y)) ts0 m × TakesWord c as_kind m n × Sorted is_ident c (child l (λ y. Produces l y)) n r0)) e h.0 in
      let y = export_name_on look x i f c ts0 g.0 g.2 k b ts (λ d m. says x.naming (blank · word (codes "as") · blank · laid look Alone l) d m K) (subst (λ (z : Laid). says x.naming z b ts K) (laid_import look st s l i e) q) in
      let o = y.more in
      let z = id_on look x l c g.1 r0 g.4 (x.later g.0 g.1 g.3.3 y.known) Spaced o.0 K o.2 in record {
        d = Touching;
        m = z.m;
        more = z.more;
        known = z.known;
        broke = y.broke;
        tight = λ e. absurd (true≢false (sym e));
        begins = y.first;
        again = λ g. record {
          tree = import_named_specifier (span (lo ts) z.m.last) z.again.0 y.again.0;
          produced = (by_no (is_absent y.again.0) _ _ (alike is_absent re_is_absent (leaves_at look x.naming) Plain i y.again.0 y.again.2 ∙ e) (y.m, o.0, y.again.1, worded look x c as_kind o.1, z.again.1), refl);
          directive = refl;
          quoted = λ p q. refl;
          same = record { so = λ n. ap₂ (λ (t u : Tree). import_named_specifier no_place t u) (z.again.2.so Plain) (y.again.2.so Plain) };
        };
      }

  pub default_import : (s : Span) (l : Tree) (st : Stand) → Sound look x.naming st (import_default_specifier s l)
  default_import s l st c ts0 r0 h k b ts K q =
      let z = id_on look x l c ts0 r0 h.0 k b ts K q in record {
        d = Touching;
        m = z.m;
        more = z.more;
        known = z.known;
        broke = z.broke;
        tight = λ e. absurd (true≢false (sym e));
        begins = z.first;
        again = λ g. record {
          tree = import_default_specifier (span (lo ts) z.m.last) z.again.0;
          produced = (z.again.1, refl);
          directive = refl;
          quoted = λ p q. refl;
          same = record { so = λ n. ap (λ (t : Tree). import_default_specifier no_place t) (z.again.2.so Plain) };
        };
      }

  pub star_import : (s : Span) (l : Tree) (st : Stand) → Sound look x.naming st (import_star_as_specifier s l)
  star_import s l st c ts0 r0 h k b ts K q =
      let i = skip x.naming (formats look) Touching q.0 _ q.2 in
      let z = id_on look x l c h.1 r0 h.4 (x.later h.0 h.1 h.3.3 (x.later ts0 h.0 h.2.2 k)) Spaced i.0 K i.2 in record {
        d = Touching;
        m = z.m;
        more = z.more;
        known = z.known;
        broke = q.1.broke;
        tight = λ e. absurd (true≢false (sym e));
        begins = λ e. absurd (eqb-false mul_kind else_kind refl (sym (marked look x mul_kind q.1) ∙ e));
        again = λ g. record {
          tree = import_star_as_specifier (span (lo ts) z.m.last) z.again.0;
          produced = (q.0, i.0, took look x c mul_kind q.1, worded look x c as_kind i.1, z.again.1, refl);
          directive = refl;
          quoted = λ p q. refl;
          same = record { so = λ n. ap (λ (t : Tree). import_star_as_specifier no_place t) (z.again.2.so Plain) };
        };
      }

  pub export_bare : (s : Span) (o : Tree) → KeyPart look x.naming o → (st : Stand) → Sound look x.naming st (export_named_specifier s o absent)
  export_bare s o f st c ts0 r0 h k b ts K q =
      let y = export_name_on look x o f c ts0 h.0 h.1 k b ts K q in record {
        d = y.d;
        m = y.m;
        more = y.more;
        known = subst (λ (i : Input). Known i.places) h.2 y.known;
        broke = y.broke;
        tight = λ e. absurd (true≢false (sym e));
        begins = y.first;
        again = λ g. record {
          tree = export_named_specifier (span (lo ts) y.m.last) y.again.0 absent;
          produced = (y.m, y.again.1, refl, refl);
          directive = refl;
          quoted = λ p q. refl;
          same = record { so = λ n. ap (λ (t : Tree). export_named_specifier no_place t absent) (y.again.2.so Plain) };
        };
      }

  pub export_as : (s : Span) (o e : Tree) → is_absent e ≡ false → KeyPart look x.naming o → KeyPart look x.naming e → (st : Stand) → Sound look x.naming st (export_named_specifier s o e)
  export_as s o e a f g st c ts0 r0 h k b ts K q =
      let i = subst (λ (v : Bool). By v (h.0 ≡ r0) ((n : Input) × TakesWord c as_kind h.0 n × ExportName c (export_name e) (child e (λ y. Produces e y)) n r0)) a h.2 in
      let y = export_name_on look x o f c ts0 h.0 h.1 k b ts (λ d m. says x.naming (blank · word (codes "as") · blank · laid look Key e) d m K) (subst (λ (z : Laid). says x.naming z b ts K) (laid_export look st s o e a) q) in
      let j = y.more in
      let z = export_name_on look x e g c i.0 r0 i.2 (x.later h.0 i.0 i.1.3 y.known) Spaced j.0 K j.2 in record {
        d = z.d;
        m = z.m;
        more = z.more;
        known = z.known;
        broke = y.broke;
        tight = λ e. absurd (true≢false (sym e));
        begins = y.first;
        again = λ l. record {
          tree = export_named_specifier (span (lo ts) z.m.last) y.again.0 z.again.0;
          produced = (y.m, y.again.1, by_no (is_absent z.again.0) _ _ (alike is_absent re_is_absent (leaves_at look x.naming) Plain e z.again.0 z.again.2 ∙ a) (j.0, worded look x c as_kind j.1, z.again.1), refl);
          directive = refl;
          quoted = λ p q. refl;
          same = record { so = λ n. ap₂ (λ (t u : Tree). export_named_specifier no_place t u) (y.again.2.so Plain) (z.again.2.so Plain) };
        };
      }

  pub star_export : (s : Span) (n : Tree) → KeyPart look x.naming n → (st : Stand) → Sound look x.naming st (export_namespace_specifier s n)
  star_export s n f st c ts0 r0 h k b ts K q =
      let i = skip x.naming (formats look) Touching q.0 _ q.2 in
      let z = export_name_on look x n f c h.1 r0 h.4 (x.later h.0 h.1 h.3.3 (x.later ts0 h.0 h.2.2 k)) Spaced i.0 K i.2 in record {
        d = z.d;
        m = z.m;
        more = z.more;
        known = z.known;
        broke = q.1.broke;
        tight = λ e. absurd (true≢false (sym e));
        begins = λ e. absurd (eqb-false mul_kind else_kind refl (sym (marked look x mul_kind q.1) ∙ e));
        again = λ g. record {
          tree = export_namespace_specifier (span (lo ts) z.m.last) z.again.0;
          produced = (q.0, i.0, took look x c mul_kind q.1, worded look x c as_kind i.1, z.again.1, refl);
          directive = refl;
          quoted = λ p q. refl;
          same = record { so = λ n. ap (λ (t : Tree). export_namespace_specifier no_place t) (z.again.2.so Plain) };
        };
      }

  -- the names of a list, each of which stands in braces
  pub items_separated : (p : Tree → Bool) (v : Bool) (t : Tree) (us : Trees) → EachIs p (more t us) → (b : Spacing) (ts : Input) (K : Spacing → Input → Type 0) → says x.naming (named_items look p v (more t us)) b ts K → says x.naming (when v (comma look) · separated look (comma look) (more t us)) b ts K
  items_separated p v t none e b ts K q = subst (λ (w : Bool). says x.naming (if w then (when v (comma look) · laid look Alone t · named_items look p true none) else named_items look p v none) b ts K) e.0 q
  items_separated p v t (more u us) e b ts K q =
      says_map x.naming (when v (comma look)) b ts _ _ (λ d m i. says_map x.naming (laid look Alone t) d m _ _ (λ d m j. items_separated p true u us e.1 d m K j) i)
      (subst (λ (w : Bool). says x.naming (if w then (when v (comma look) · laid look Alone t · named_items look p true (more u us)) else named_items look p v (more u us)) b ts K) e.0 q)
