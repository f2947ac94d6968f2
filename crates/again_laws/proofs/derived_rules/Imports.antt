-- Imports derived again (16.2.2).
use Rattle.std.proofs.Common.{Bool, [], ap, ap₂, arith, codes, false, if◌then◌else◌, inl, inr, refl, subst, sym, true, true≢false, ◌||◌, ◌∙◌, ◌≡◌, ◌⊎◌}
use Rattle.base_token.specs.Kinds.{comma_kind, else_kind, from_kind, import_kind, left_brace_kind, right_brace_kind}
use Rattle.base_token.specs.declared.place.Span.{Span}
use Rattle.tree_spec.specs.Places.{no_place}
use Rattle.tree_spec.specs.Tree.{Tree, Trees, absent, import_decl, import_default_specifier, import_named_specifier, import_star_as_specifier, more, none}
use Rattle.grammar_spec.specs.Tokens.Input.{Code, Input, Takes, TakesWord, kind, lo, span, unplaced}
use Rattle.grammar_spec.specs.Tokens.Shape.{is_default_import, is_named_import, is_star_import}
use Rattle.grammar_spec.specs.Grammar.{Produces, children}
use Rattle.grammar_spec.specs.Modules.{AfterDefault, ImportClause, NamedImports}
use Rattle.grammar_spec.specs.Children.{By, IsEmpty, Sorted, is_module_item}
use Rattle.grammar_laws.proofs.Covers.{by_yes, by_no}
use Rattle.print_layout_spec.specs.Layout.{attributes, comma, has_default, has_named, import_heads, imports, in_braces, is_default, is_named, laid, named_items, starts_with_default, word}
use Rattle.print_layout_spec.specs.Looks.{Laid, blank, brace, formats, gap, nothing, semi, when, ◌·◌}
use Rattle.print_layout_spec.specs.declared.look.Look.{Look}
use Rattle.print_layout_spec.specs.declared.look.Stand.{Stand}
use Rattle.print_layout_spec.specs.declared.look.Stand.TheVariants.{Alone, Key}
use Rattle.again_laws.specs.Tokens.Spacings.{Spacing, Spaced, Touching, blanked}
use Rattle.again_laws.specs.Tokens.Lexicon.{Lexicon}
use Rattle.again_laws.specs.Tokens.Means.{Known}
use Rattle.again_laws.specs.Tokens.Naming.{Naming}
use Rattle.again_laws.specs.Tokens.Told.{says}
use Rattle.again_laws.specs.Derived.Redo.{AllRedone, Leaves, Mode, Plain, Redone, redo, kept_at}
use Rattle.again_laws.proofs.derived_rules.Naming.{leaves_at}
use Rattle.again_laws.proofs.derived_rules.Begins.{is_part}
use Rattle.again_laws.proofs.derived_rules.Follow.{calm, closed_calm}
use Rattle.again_laws.proofs.derived_rules.KeyParts.{KeyPart}
use Rattle.again_laws.proofs.derived_rules.Lists.{comma_on, listed, more_same, none_same, sorted}
use Rattle.again_laws.proofs.derived_rules.Shapes.{alike}
use Rattle.again_laws.proofs.derived_rules.Sound.{AllSound, Sound, plain_part}
use Rattle.again_laws.proofs.derived_rules.Tokens.{gapped, keyed, marked, skip, took, worded}
use Rattle.again_laws.proofs.derived_rules.Sources.{source_on}
use Rattle.again_laws.proofs.derived_rules.Specifiers.{EachIs, each_map, from_listed, items_separated, named_import_part, re_is_named_import}

import_else : import_kind ≡ else_kind → ⊥
import_else e = omega arith

named_is : (t : Tree) → is_named_import t ≡ true → is_named t ≡ true
named_is (import_named_specifier s a b) h = refl
named_is _ h = absurd (true≢false (sym h))

named_no_default : (t : Tree) → is_named t ≡ true → is_default t ≡ false
named_no_default (import_named_specifier s a b) h = refl
named_no_default _ h = absurd (true≢false (sym h))

no_default_in : (xs : Trees) → EachIs is_named xs → has_default xs ≡ false
no_default_in none h = refl
no_default_in (more t us) h = ap₂ (λ (a b : Bool). a || b) (named_no_default t h.0) (no_default_in us h.1)

default_sort : (t : Tree) → is_default_import t ≡ true → (is_part t ≡ true) × (is_default t ≡ true) × (is_named t ≡ false) × (is_module_item t ≡ false)
default_sort (import_default_specifier s l) h = (refl, refl, refl, refl)
default_sort _ h = absurd (true≢false (sym h))

star_sort : (t : Tree) → is_star_import t ≡ true → (is_part t ≡ true) × (is_default t ≡ false) × (is_named t ≡ false) × (is_module_item t ≡ false)
star_sort (import_star_as_specifier s l) h = (refl, refl, refl, refl)
star_sort _ h = absurd (true≢false (sym h))

re_is_default_import : (l : Leaves) (m : Mode) (t : Tree) → is_default_import (redo l m t) ≡ is_default_import t
re_is_default_import l m (import_default_specifier s a) = refl
re_is_default_import l m _ = refl

re_is_star_import : (l : Leaves) (m : Mode) (t : Tree) → is_star_import (redo l m t) ≡ is_star_import t
re_is_star_import l m (import_star_as_specifier s a) = refl
re_is_star_import l m _ = refl

pick : (v : Bool) (A B : Type 0) → v ≡ true → By v A B → A
pick true A B e h = h
pick false A B e h = absurd (true≢false (sym e))

other : (v : Bool) (A B : Type 0) → v ≡ false → By v A B → B
other true A B e h = absurd (true≢false e)
other false A B e h = h

-- what is no such tree first is none again
pub first_same : (look : Look) (naming : Naming) (t : Tree) (us : Trees) (u : Tree) (vs : Trees) → AllRedone (leaves_at look naming) Plain (more t us) (more u vs) → (p : Tree → Bool) → ((l : Leaves) (m : Mode) (t : Tree) → p (redo l m t) ≡ p t) → p t ≡ false → p u ≡ false
first_same look naming t us u vs s p g e = sym (g (kept_at naming.written) Plain u) ∙ (ap (λ (ts : Trees). p (first_of ts)) (s.so Plain) ∙ (g (leaves_at look naming) Plain t ∙ e))
  where
    first_of : Trees → Tree
    first_of none = absent
    first_of (more t ts) = t

module _ (look : Look) (x : Lexicon look.style) where
  -- names say nothing among what comes before them
  no_heads : (seen : Bool) (xs : Trees) → EachIs is_named xs → (b : Spacing) (ts : Input) (K : Spacing → Input → Type 0) → says x.naming (import_heads look seen xs) b ts K → K b ts
  no_heads seen none e b ts K q = q
  no_heads seen (more t us) e b ts K q = no_heads seen us e.1 b ts K (second (is_named t) e.0 (first (is_default t) (named_no_default t e.0) q))
    where
      first : (v : Bool) → v ≡ false → says x.naming (if v then (laid look Alone t · import_heads look true us) else (if is_named t then import_heads look seen us else (when seen (comma look) · laid look Alone t · import_heads look seen us))) b ts K
          → says x.naming (if is_named t then import_heads look seen us else (when seen (comma look) · laid look Alone t · import_heads look seen us)) b ts K
      first true i q = absurd (true≢false i)
      first false i q = q

      second : (v : Bool) → v ≡ true → says x.naming (if v then import_heads look seen us else (when seen (comma look) · laid look Alone t · import_heads look seen us)) b ts K → says x.naming (import_heads look seen us) b ts K
      second true i q = q
      second false i q = absurd (true≢false (sym i))

  -- ---- names in braces, and `from`

  record Braced_imports (xs : Trees) (c : Code) (r0 : Input) (ts : Input) (K : Spacing → Input → Type 0) : Type 0 where
    m : Input
    more : K Touching m
    known : Known r0.places
    again : (us : Trees) × NamedImports (unplaced c) (children us) ts m × AllRedone (leaves_at look x.naming) Plain xs us

  braced_imports : (t : Tree) (us : Trees) → AllSound look x.naming (more t us) → (c : Code) (ts0 r0 : Input) → NamedImports c (children (more t us)) ts0 r0 → Known ts0.places → (b : Spacing) (ts : Input) (K : Spacing → Input → Type 0)
      → says x.naming (in_braces look (named_items look is_named false (more t us))) b ts K → Braced_imports (more t us) c r0 ts K
  braced_imports t us a c ts0 r0 h k b ts K q =
      let e = each_map is_named_import is_named named_is (more t us) (from_listed is_named_import c right_brace_kind (more t us) h.0 r0 h.2) in
      let i = skip x.naming (formats look) Touching q.0 _ q.2 in
      let j = items_separated look x is_named false t us e (gapped (formats look) Touching) q.0 _ i in
      let z = listed look x (Sorted is_named_import c) (Sorted is_named_import (unplaced c)) (sorted look x is_named_import re_is_named_import named_import_part c) c right_brace_kind refl (comma look) (comma_on look x) (more t us) a h.0 r0 h.2 (x.later ts0 h.0 h.1.2 k) (gapped (formats look) Touching) q.0 (λ d m. says x.naming (gap look · brace) d m K)
      (λ d m o. let l = skip x.naming (formats look) d m _ o in marked look x right_brace_kind l.1) j in
      let o = skip x.naming (formats look) z.d z.m _ z.more in let w = z.again o.0 (took look x c right_brace_kind o.1) in record {
        m = o.0;
        more = o.2;
        known = z.known;
        again = (w.0, (q.0, took look x c left_brace_kind q.1, w.1), w.2);
      }

  -- ---- what is imported, with `from`

  record Clause_on (xs : Trees) (c : Code) (r0 : Input) (ts : Input) (K : Spacing → Input → Type 0) : Type 0 where
    d : Spacing
    m : Input
    more : K d m
    known : Known r0.places
    again : (us : Trees) × ImportClause (unplaced c) (children us) ts m × AllRedone (leaves_at look x.naming) Plain xs us

  -- the clause behind the gap of `import`
  abbrev clause_laid : Trees → Laid
  clause_laid xs = imports look xs (import_heads look false xs) (named_items look is_named false xs)

  from_on : (c : Code) (b : Spacing) (ts : Input) (K : Spacing → Input → Type 0) → says x.naming (word (codes "from") · gap look) b ts K → (m : Input) × TakesWord (unplaced c) from_kind ts m × K (gapped (formats look) Touching) m
  from_on c b ts K q = (q.0, worded look x c from_kind q.1, skip x.naming (formats look) Touching q.0 K q.2)

  -- a default name or a namespace
  record Head_on (t : Tree) (c : Code) (r0 : Input) (ts : Input) (K : Spacing → Input → Type 0) : Type 0 where
    d : Spacing
    m : Input
    more : K d m
    known : Known r0.places
    again : calm m ≡ true → (u : Tree) × Produces u (unplaced c) ts m × Redone (leaves_at look x.naming) Plain t u

  head_on : (t : Tree) → Sound look x.naming Alone t → is_part t ≡ true → is_module_item t ≡ false → (c : Code) (ts0 r0 : Input) → Produces t c ts0 r0 → Known ts0.places → (b : Spacing) (ts : Input) (K : Spacing → Input → Type 0) → says x.naming (laid look Alone t) b ts K → Head_on t c r0 ts K
  head_on t f p i c ts0 r0 h k b ts K q =
      let z = plain_part look x.naming Alone t f p c ts0 r0 h k b ts K q in record {
        d = z.d;
        m = z.m;
        more = z.more;
        known = z.known;
        again = λ g. let w = z.again (record { quiet = λ e. g; other = λ e. absurd (true≢false (sym e ∙ i)) }) in (w.tree, w.produced, w.same);
      }

  from_calm : (ts : Input) → kind ts ≡ from_kind → calm ts ≡ true
  from_calm ts e = closed_calm ts from_kind e refl

  -- names alone
  names_on : (t : Tree) (us : Trees) → AllSound look x.naming (more t us) → (c : Code) (ts0 m0 r0 : Input) → is_default_import t ≡ false → is_star_import t ≡ false → NamedImports c (children (more t us)) ts0 m0 → TakesWord c from_kind m0 r0 → Known ts0.places → (b : Spacing) (ts : Input) (K : Spacing → Input → Type 0)
      → says x.naming (clause_laid (more t us)) b ts K → Clause_on (more t us) c r0 ts K
  names_on t us a c ts0 m0 r0 i j h f k b ts K q =
      let e = each_map is_named_import is_named named_is (more t us) (from_listed is_named_import c right_brace_kind (more t us) h.0 m0 h.2) in
      let p = no_heads false (more t us) e b ts (λ d m. says x.naming ((if has_named (more t us) then (when (has_default (more t us)) (comma look) · in_braces look (named_items look is_named false (more t us)) · gap look) else blank) · word (codes "from") · gap look) d m K) q in
      let l = subst (λ (v : Bool). says x.naming ((if v then (when (has_default (more t us)) (comma look) · in_braces look (named_items look is_named false (more t us)) · gap look) else blank) · word (codes "from") · gap look) b ts K) (ap (λ (v : Bool). v || has_named us) e.0) p in
      let n = subst (λ (v : Bool). says x.naming (when v (comma look) · in_braces look (named_items look is_named false (more t us)) · gap look · word (codes "from") · gap look) b ts K) (no_default_in (more t us) e) l in
      let z = braced_imports t us a c ts0 m0 h k b ts (λ d m. says x.naming (gap look · word (codes "from") · gap look) d m K) n in
      let o = from_on c _ z.m K (skip x.naming (formats look) Touching z.m _ z.more) in record {
        d = gapped (formats look) Touching;
        m = o.0;
        more = o.2;
        known = x.later m0 r0 f.3 z.known;
        again = (z.again.0, as_names z.again.0 z.m z.again.1 z.again.2 o.0 o.1, z.again.2);
      }
    where
      none_more : (ts : Trees) (t : Tree) → none ≡ more t ts → ⊥
      none_more ts t e = cc

      as_names : (vs : Trees) (m : Input) → NamedImports (unplaced c) (children vs) ts m → AllRedone (leaves_at look x.naming) Plain (more t us) vs → (n : Input) → TakesWord (unplaced c) from_kind m n → ImportClause (unplaced c) (children vs) ts n
      as_names none m g s n w = absurd (none_more _ _ (s.so Plain))
      as_names (more u vs) m g s n w = (m, by_no (is_default_import u) _ _ (first_same look x.naming t us u vs s is_default_import re_is_default_import i) (by_no (is_star_import u) _ _ (first_same look x.naming t us u vs s is_star_import re_is_star_import j) g), w)

  -- a namespace alone
  star_on : (t : Tree) → Sound look x.naming Alone t → (c : Code) (ts0 m0 r0 : Input) → is_default_import t ≡ false → is_star_import t ≡ true → Produces t c ts0 m0 → TakesWord c from_kind m0 r0 → Known ts0.places → (b : Spacing) (ts : Input) (K : Spacing → Input → Type 0) → says x.naming (clause_laid (more t none)) b ts K → Clause_on (more t none) c r0 ts K
  star_on t a c ts0 m0 r0 i j h f k b ts K q =
      let p = star_sort t j in
      let l = undefault (is_default t) p.1 (is_named t) p.2 q in
      let z = head_on t a p.0 p.3 c ts0 m0 h k b ts _ l in
      let o = from_on c _ z.m K z.more in
      let w = z.again (from_calm z.m o.1.0) in record {
        d = gapped (formats look) Touching;
        m = o.0;
        more = o.2;
        known = x.later m0 r0 f.3 z.known;
        again = (more w.0 none, (z.m, by_no (is_default_import w.0) _ _ (alike is_default_import re_is_default_import (leaves_at look x.naming) Plain t w.0 w.2 ∙ i) (by_yes (is_star_import w.0) _ _ (alike is_star_import re_is_star_import (leaves_at look x.naming) Plain t w.0 w.2 ∙ j) (tt, w.1)), o.1), more_same (leaves_at look x.naming) Plain t w.0 none none w.2 (none_same (leaves_at look x.naming)));
      }
    where
      undefault : (v : Bool) → v ≡ false → (w : Bool) → w ≡ false
          → says x.naming ((if v then (laid look Alone t · nothing) else (if w then nothing else (nothing · laid look Alone t · nothing))) · (if (w || false) then (when (v || false) (comma look) · in_braces look (named_items look is_named false (more t none)) · gap look) else blank) · word (codes "from") · gap look) b ts K
          → says x.naming (laid look Alone t) b ts (λ d m. says x.naming (word (codes "from") · gap look) (blanked d) m K)
      undefault false e false f q = q
      undefault true e w f q = absurd (true≢false e)
      undefault false e true f q = absurd (true≢false f)

  -- a default name, alone or before what is named
  record After_on (xs : Trees) (c : Code) (r0 : Input) (ts : Input) (K : Spacing → Input → Type 0) : Type 0 where
    m : Input
    more : K (gapped (formats look) Touching) m
    known : Known r0.places
    calms : calm ts ≡ true
    again : (us : Trees) × (n : Input) × AfterDefault (unplaced c) (children us) ts n × TakesWord (unplaced c) from_kind n m × AllRedone (leaves_at look x.naming) Plain xs us

  alone_on : (c : Code) (m0 r0 : Input) → (m0 ≡ r0) ⊎ ((m : Input) × Takes c comma_kind m0 m × NamedImports c [] m r0) → Known m0.places → (e0 : Input) → TakesWord c from_kind r0 e0 → (b : Spacing) (ts : Input) (K : Spacing → Input → Type 0) → says x.naming (blank · word (codes "from") · gap look) b ts K → After_on none c e0 ts K
  alone_on c m0 r0 h k e0 f b ts K q = let o = from_on c _ ts K q in record {
    m = o.0;
    more = o.2;
    known = x.later r0 e0 f.3 (by h);
    calms = from_calm ts o.1.0;
    again = (none, ts, inl refl, o.1, none_same (leaves_at look x.naming));
  }
    where
      by : (m0 ≡ r0) ⊎ ((m : Input) × Takes c comma_kind m0 m × NamedImports c [] m r0) → Known r0.places
      by (inl i) = subst (λ (i : Input). Known i.places) i k
      by (inr i) = x.later i.2.0 r0 i.2.2.2 (x.later i.0 i.2.0 i.2.1.2 (x.later m0 i.0 i.1.2 k))

  -- behind a default name the layout has a comma and a namespace, or a comma and names
  abbrev rest_laid : Trees → Laid
  rest_laid xs = import_heads look true xs · (if has_named xs then (comma look · in_braces look (named_items look is_named false xs) · gap look) else blank) · word (codes "from") · gap look

  later_star : (t : Tree) → Sound look x.naming Alone t → (c : Code) (m0 n0 r0 e0 : Input) → Takes c comma_kind m0 n0 → is_star_import t ≡ true → Produces t c n0 r0 → TakesWord c from_kind r0 e0 → Known m0.places → (b : Spacing) (ts : Input) (K : Spacing → Input → Type 0) → says x.naming (rest_laid (more t none)) b ts K → After_on (more t none) c e0 ts K
  later_star t a c m0 n0 r0 e0 h j g f k b ts K q =
      let p = star_sort t j in
      let l = undefault (is_default t) p.1 (is_named t) p.2 q in
      let i = skip x.naming (formats look) Touching l.0 _ l.2 in
      let z = head_on t a p.0 p.3 c n0 r0 g (x.later m0 n0 h.2 k) _ l.0 _ i in
      let o = from_on c _ z.m K z.more in
      let w = z.again (from_calm z.m o.1.0) in record {
        m = o.0;
        more = o.2;
        known = x.later r0 e0 f.3 z.known;
        calms = closed_calm ts comma_kind (marked look x comma_kind l.1) refl;
        again = (more w.0 none, z.m, (l.0, took look x c comma_kind l.1, by_yes (is_star_import w.0) _ _ (alike is_star_import re_is_star_import (leaves_at look x.naming) Plain t w.0 w.2 ∙ j) (tt, w.1)), o.1, more_same (leaves_at look x.naming) Plain t w.0 none none w.2 (none_same (leaves_at look x.naming)));
      }
    where
      undefault : (v : Bool) → v ≡ false → (w : Bool) → w ≡ false
          → says x.naming ((if v then (laid look Alone t · nothing) else (if w then nothing else (comma look · laid look Alone t · nothing))) · (if (w || false) then (comma look · in_braces look (named_items look is_named false (more t none)) · gap look) else blank) · word (codes "from") · gap look) b ts K
          → says x.naming (comma look · laid look Alone t) b ts (λ d m. says x.naming (word (codes "from") · gap look) (blanked d) m K)
      undefault false e false f q = q
      undefault true e w f q = absurd (true≢false e)
      undefault false e true f q = absurd (true≢false f)

  later_names : (t : Tree) (us : Trees) → AllSound look x.naming (more t us) → (c : Code) (m0 n0 r0 e0 : Input) → Takes c comma_kind m0 n0 → is_star_import t ≡ false → NamedImports c (children (more t us)) n0 r0 → TakesWord c from_kind r0 e0 → Known m0.places → (b : Spacing) (ts : Input) (K : Spacing → Input → Type 0)
      → says x.naming (rest_laid (more t us)) b ts K → After_on (more t us) c e0 ts K
  later_names t us a c m0 n0 r0 e0 h j g f k b ts K q =
      let e = each_map is_named_import is_named named_is (more t us) (from_listed is_named_import c right_brace_kind (more t us) g.0 r0 g.2) in
      let p = no_heads true (more t us) e b ts (λ d m. says x.naming ((if has_named (more t us) then (comma look · in_braces look (named_items look is_named false (more t us)) · gap look) else blank) · word (codes "from") · gap look) d m K) q in
      let l = subst (λ (v : Bool). says x.naming ((if v then (comma look · in_braces look (named_items look is_named false (more t us)) · gap look) else blank) · word (codes "from") · gap look) b ts K) (ap (λ (v : Bool). v || has_named us) e.0) p in
      let i = skip x.naming (formats look) Touching l.0 _ l.2 in
      let z = braced_imports t us a c n0 r0 g (x.later m0 n0 h.2 k) _ l.0 (λ d m. says x.naming (gap look · word (codes "from") · gap look) d m K) i in
      let o = from_on c _ z.m K (skip x.naming (formats look) Touching z.m _ z.more) in record {
        m = o.0;
        more = o.2;
        known = x.later r0 e0 f.3 z.known;
        calms = closed_calm ts comma_kind (marked look x comma_kind l.1) refl;
        again = (z.again.0, z.m, as_after z.again.0 l.0 z.m (took look x c comma_kind l.1) z.again.1 z.again.2, o.1, z.again.2);
      }
    where
      none_more : (ts : Trees) (t : Tree) → none ≡ more t ts → ⊥
      none_more ts t e = cc

      as_after : (vs : Trees) (n m : Input) → Takes (unplaced c) comma_kind ts n → NamedImports (unplaced c) (children vs) n m → AllRedone (leaves_at look x.naming) Plain (more t us) vs → AfterDefault (unplaced c) (children vs) ts m
      as_after none n m i g s = absurd (none_more _ _ (s.so Plain))
      as_after (more u vs) n m i g s = (n, i, by_no (is_star_import u) _ _ (first_same look x.naming t us u vs s is_star_import re_is_star_import j) g)

  star_alone : (u : Tree) (us : Trees) → Sound look x.naming Alone u → (c : Code) (n0 l0 m0 r0 : Input) → Takes c comma_kind n0 l0 → is_star_import u ≡ true → IsEmpty (children us) → Produces u c l0 m0 → TakesWord c from_kind m0 r0 → Known n0.places → (b : Spacing) (ts : Input) (K : Spacing → Input → Type 0) → says x.naming (rest_laid (more u us)) b ts K → After_on (more u us) c r0 ts K
  star_alone u none g c n0 l0 m0 r0 t e i h f k b ts K q = later_star u g c n0 l0 m0 r0 t e h f k b ts K q
  star_alone u (more v vs) g c n0 l0 m0 r0 t e i h f k b ts K q = absurd i

  after_on : (xs : Trees) → AllSound look x.naming xs → (c : Code) (n0 m0 r0 : Input) → AfterDefault c (children xs) n0 m0 → TakesWord c from_kind m0 r0 → Known n0.places → (b : Spacing) (ts : Input) (K : Spacing → Input → Type 0) → says x.naming (rest_laid xs) b ts K → After_on xs c r0 ts K
  after_on none g c n0 m0 r0 l f k b ts K q = alone_on c n0 m0 l k r0 f b ts K q
  after_on (more u us) g c n0 m0 r0 l f k b ts K q = by (is_star_import u) refl l.2
    where
      by : (v : Bool) → is_star_import u ≡ v → By v (IsEmpty (children us) × Produces u c l.0 m0) (NamedImports c (children (more u us)) l.0 m0) → After_on (more u us) c r0 ts K
      by true e i = star_alone u us g.0 c n0 l.0 m0 r0 l.1 e i.0 i.1 f k b ts K q
      by false e i = later_names u us g c n0 l.0 m0 r0 l.1 e i f k b ts K q

  -- a default name first
  default_on : (t : Tree) (xs : Trees) → Sound look x.naming Alone t → AllSound look x.naming xs → (c : Code) (ts0 n0 m0 r0 : Input) → is_default_import t ≡ true → Produces t c ts0 n0 → AfterDefault c (children xs) n0 m0 → TakesWord c from_kind m0 r0 → Known ts0.places → (b : Spacing) (ts : Input) (K : Spacing → Input → Type 0)
      → says x.naming (clause_laid (more t xs)) b ts K → Clause_on (more t xs) c r0 ts K
  default_on t xs a g c ts0 n0 m0 r0 i h l f k b ts K q =
      let p = default_sort t i in
      let j = by (is_default t) p.1 (is_named t) p.2 q in
      let z = head_on t a p.0 p.3 c ts0 n0 h k b ts (λ d m. says x.naming (rest_laid xs) d m K) j in
      let v = after_on xs g c n0 m0 r0 l f z.known z.d z.m K z.more in
      let w = z.again v.calms in let o = v.again in record {
        d = gapped (formats look) Touching;
        m = v.m;
        more = v.more;
        known = v.known;
        again = (more w.0 o.0, (o.1, by_yes (is_default_import w.0) _ _ (alike is_default_import re_is_default_import (leaves_at look x.naming) Plain t w.0 w.2 ∙ i) (z.m, w.1, o.2), o.3), more_same (leaves_at look x.naming) Plain t w.0 xs o.0 w.2 o.4);
      }
    where
      by : (v : Bool) → v ≡ true → (w : Bool) → w ≡ false
          → says x.naming ((if v then (laid look Alone t · import_heads look true xs) else (if w then import_heads look false xs else (nothing · laid look Alone t · import_heads look false xs)))
          · (if (w || has_named xs) then (when (v || has_default xs) (comma look) · in_braces look (if w then (nothing · laid look Alone t · named_items look is_named true xs) else named_items look is_named false xs) · gap look) else blank) · word (codes "from") · gap look) b ts K
          → says x.naming (laid look Alone t) b ts (λ d m. says x.naming (rest_laid xs) d m K)
      by true e false f q = q
      by false e w f q = absurd (true≢false (sym e))
      by true e true f q = absurd (true≢false f)

  -- ---- the whole

  clause_on : (xs : Trees) → AllSound look x.naming xs → (c : Code) (ts0 r0 : Input) → ImportClause c (children xs) ts0 r0 → Known ts0.places → (b : Spacing) (ts : Input) (K : Spacing → Input → Type 0) → says x.naming (clause_laid xs) b ts K → Clause_on xs c r0 ts K
  clause_on none a c ts0 r0 h k b ts K q = record { d = b; m = ts; more = q; known = by h; again = (none, inl refl, none_same (leaves_at look x.naming)) }
    where
      by : (ts0 ≡ r0) ⊎ ((m : Input) × NamedImports c [] ts0 m × TakesWord c from_kind m r0) → Known r0.places
      by (inl i) = subst (λ (i : Input). Known i.places) i k
      by (inr i) = x.later i.0 r0 i.2.3 (x.later i.1.0 i.0 i.1.2.2 (x.later ts0 i.1.0 i.1.1.2 k))
  clause_on (more t us) a c ts0 r0 h k b ts K q = by (is_default_import t) refl (is_star_import t) refl h.1
    where
      lone : (us : Trees) → IsEmpty (children us) → is_default_import t ≡ false → is_star_import t ≡ true → Produces t c ts0 h.0 → says x.naming (clause_laid (more t us)) b ts K → Clause_on (more t us) c r0 ts K
      lone none i d e g q = star_on t a.0 c ts0 h.0 r0 d e g h.2 k b ts K q
      lone (more u vs) i d e g q = absurd i

      by : (v : Bool) → is_default_import t ≡ v → (w : Bool) → is_star_import t ≡ w → By v ((n : Input) × Produces t c ts0 n × AfterDefault c (children us) n h.0) (By w (IsEmpty (children us) × Produces t c ts0 h.0) (NamedImports c (children (more t us)) ts0 h.0)) → Clause_on (more t us) c r0 ts K
      by true e w f g = default_on t us a.0 a.1 c ts0 g.0 h.0 r0 e g.1 g.2 h.2 k b ts K q
      by false e true f g = lone us g.0 e f g.1 q
      by false e false f g = names_on t us a c ts0 h.0 r0 e f g h.2 k b ts K q

  pub import_on : (s : Span) (xs : Trees) (src with_ : Tree) → AllSound look x.naming xs → KeyPart look x.naming src → Sound look x.naming Alone with_ → (st : Stand) → Sound look x.naming st (import_decl s xs src with_)
  import_on s xs src with_ a f g st c ts0 r0 h k b ts K q =
      let i = spaced (starts_with_default xs) q.0 (λ d m. says x.naming (clause_laid xs · laid look Key src · attributes look with_ (laid look Alone with_) · semi) d m K) q.2 in
      let y = clause_on xs a c h.0 h.1 h.3 (x.later ts0 h.0 h.2.3 k) i.0 q.0 (λ d m. says x.naming (laid look Key src · attributes look with_ (laid look Alone with_) · semi) d m K) i.1 in
      let z = source_on look x src with_ f g c h.1 r0 h.4 y.known y.d y.m K y.more in record {
        d = z.d;
        m = z.m;
        more = z.more;
        known = z.known;
        broke = q.1.broke;
        tight = λ e. absurd (true≢false (sym e));
        begins = λ e. absurd (import_else (sym (keyed look x import_kind q.1) ∙ e));
        again = λ l. let w = y.again in record {
          tree = import_decl (span (lo ts) z.m.last) w.0 z.u z.v;
          produced = (q.0, y.m, worded look x c import_kind q.1, w.1, z.produced, refl);
          directive = refl;
          quoted = λ p q. refl;
          same = record { so = λ n. import_same (w.2.so Plain) (z.same_u.so Plain) (z.same_v.so Plain) };
        };
      }
    where
      spaced : (v : Bool) (m : Input) (J : Spacing → Input → Type 0) → says x.naming (if v then blank else gap look) Touching m J → (d : Spacing) × J d m
      spaced true m J q = (Spaced, q)
      spaced false m J q = (gapped (formats look) Touching, skip x.naming (formats look) Touching m J q)

      import_same : {xs us : Trees} {a b d e : Tree} → xs ≡ us → a ≡ b → d ≡ e → import_decl no_place xs a d ≡ import_decl no_place us b e
      import_same p q r = ap₂ (λ (us : Trees) (t : Tree × Tree). import_decl no_place us t.0 t.1) p (ap₂ (λ (a b : Tree). (a, b)) q r)
