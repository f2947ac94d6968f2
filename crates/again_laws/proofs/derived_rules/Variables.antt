-- Variables derived again, with what ends them and without (14.3).
use Rattle.std.proofs.Common.{Bool, ap, ap₂, arith, codes, eqb, false, not, refl, subst, sym, true, true≢false, ℕ, ⊎_elim, ◌==◌, ◌∙◌, ◌≡◌}
use Rattle.std.proofs.lemmas.Bool.{eqb-true, or_cases}
use Rattle.base_token.specs.Kinds.{await_kind, const_kind, else_kind, let_kind, of_kind, using_kind, var_kind}
use Rattle.base_token.specs.declared.place.Span.{Span}
use Rattle.tree_spec.specs.Places.{no_place}
use Rattle.tree_spec.specs.Tree.{Tree, Trees, array_pat, binding_ident, more, none, object_pat, using_decl, var_decl, var_declarator}
use Rattle.grammar_spec.specs.Tokens.Input.{Code, Input, binding, escaped, is_word, kind, kind2, lo, span, unplaced}
use Rattle.grammar_spec.specs.Tokens.Shape.{declarators_end, is_absent, is_binding, is_declarator}
use Rattle.grammar_spec.specs.Grammar.{children}
use Rattle.grammar_spec.specs.Children.{Commas, Sorted, is_module_item}
use Rattle.grammar_spec.specs.Statements.{Bindings, UsingBindings, is_var_word, starts_pattern, starts_using}
use Rattle.print_layout_spec.specs.Layout.{comma, laid, separated, starts_bracketed}
use Rattle.print_layout_spec.specs.Looks.{gap, text, when, ◌·◌}
use Rattle.print_layout_spec.specs.declared.look.Look.{Look}
use Rattle.print_layout_spec.specs.declared.look.Stand.{Stand}
use Rattle.print_layout_spec.specs.declared.look.Stand.TheVariants.{Alone}
use Rattle.again_laws.specs.Tokens.Spacings.{Spacing, Spaced, Touching}
use Rattle.again_laws.specs.Tokens.Lexicon.{Lexicon}
use Rattle.again_laws.specs.Tokens.Means.{Known}
use Rattle.again_laws.specs.Tokens.Told.{Breaks, says}
use Rattle.again_laws.specs.Derived.Redo.{AllRedone, Plain}
use Rattle.again_laws.proofs.derived_rules.Naming.{leaves_at}
use Rattle.again_laws.proofs.derived_rules.Begins.{Begins, Starts, fine, is_loose, is_part, is_weak, same_start}
use Rattle.again_laws.proofs.derived_rules.Ends.{ended_known, initial_on, quiet_at, there}
use Rattle.again_laws.proofs.derived_rules.Follow.{calm}
use Rattle.again_laws.proofs.derived_rules.Lists.{more_same, run, sorted}
use Rattle.again_laws.proofs.derived_rules.Shapes.{alike, re_is_binding, re_is_declarator}
use Rattle.again_laws.proofs.derived_rules.Sound.{AllSound, Sound, plain_part}
use Rattle.again_laws.proofs.derived_rules.Tokens.{behind_word, ended, keyed, semi_of, unbarred, worded, skip_either}

by_var : (k : ℕ) (P : ℕ → Type 0) → is_var_word k ≡ true → P var_kind → P let_kind → P const_kind → P k
by_var k P h a b c = ⊎_elim (λ (e : eqb k var_kind ≡ true). subst P (sym (eqb-true k var_kind e)) a) (λ h. ⊎_elim (λ (e : eqb k let_kind ≡ true). subst P (sym (eqb-true k let_kind e)) b) (λ (e : eqb k const_kind ≡ true). subst P (sym (eqb-true k const_kind e)) c) (or_cases (eqb k let_kind) (eqb k const_kind) h)) (or_cases (eqb k var_kind) _ h)

pub var_word : (k : ℕ) → is_var_word k ≡ true → is_word k ≡ true
var_word k h = by_var k (λ n. is_word n ≡ true) h refl refl refl

pub var_no_else : (k : ℕ) → is_var_word k ≡ true → k ≡ else_kind → ⊥
var_no_else k h = by_var k (λ n. n ≡ else_kind → ⊥) h (λ e. omega arith) (λ e. omega arith) (λ e. omega arith)

binding_begins : (t : Tree) (ts0 r0 ts m : Input) → is_binding t ≡ true → Starts (is_weak t) (is_loose t) ts0 r0 ts m → Begins false ts0 r0 ts m
binding_begins (binding_ident s i) ts0 r0 ts m e h = h
binding_begins (array_pat s xs) ts0 r0 ts m e h = h
binding_begins (object_pat s ps) ts0 r0 ts m e h = h
binding_begins _ ts0 r0 ts m e h = absurd (true≢false (sym e))

pub binding_plain : (t : Tree) → is_binding t ≡ true → (is_part t ≡ true) × (is_module_item t ≡ false)
binding_plain (binding_ident s i) h = (refl, refl)
binding_plain (array_pat s xs) h = (refl, refl)
binding_plain (object_pat s ps) h = (refl, refl)
binding_plain _ h = absurd (true≢false (sym h))

using_else : using_kind ≡ else_kind → ⊥
using_else e = omega arith

await_else : await_kind ≡ else_kind → ⊥
await_else e = omega arith

module _ (look : Look) (x : Lexicon look.style) where
  pub declarator_plain : (t : Tree) → is_declarator t ≡ true → (is_part t ≡ true) × (is_module_item t ≡ false)
  declarator_plain (var_declarator s n e) h = (refl, refl)
  declarator_plain _ h = absurd (true≢false (sym h))

  pub declarator_on : (s : Span) (n e : Tree) → Sound look x.naming Alone n → Sound look x.naming Alone e → (st : Stand) → Sound look x.naming st (var_declarator s n e)
  declarator_on s n e f g st c ts0 r0 h k b ts K q =
      let p = binding_plain n h.1 in
      let y = plain_part look x.naming Alone n f p.0 (binding c) ts0 h.0 h.2 k b ts _ q in
      let v = initial_on look x e g c c (is_absent e) refl h.0 r0 h.3 y.known y.d y.m K (subst (λ (w : Bool). says x.naming (when w (gap look · text (codes "=") · gap look · laid look Alone e)) y.d y.m K) (there e) y.more) in record {
        d = v.d;
        m = v.m;
        more = v.more;
        known = v.known;
        broke = y.broke;
        tight = λ e. absurd (true≢false (sym e));
        begins = v.begins ts0 ts (binding_begins n ts0 h.0 ts y.m h.1 y.begins);
        again = λ l. let w = y.again (record { quiet = λ z. v.calms (l.quiet refl); other = λ z. absurd (true≢false (sym z ∙ p.1)) }) in let o = v.again (l.quiet refl) in record {
          tree = var_declarator (span (lo ts) v.m.last) w.tree o.0;
          produced = (y.m, alike is_binding re_is_binding (leaves_at look x.naming) Plain n w.tree w.same ∙ h.1, w.produced, o.1, refl);
          directive = refl;
          quoted = λ p q. refl;
          same = record { so = λ n. ap₂ (λ (t u : Tree). var_declarator no_place t u) (w.same.so Plain) (o.2.so Plain) };
        };
      }

  -- declarations without what ends them
  pub record Bound (c : Code) (k : ℕ) (ds : Trees) (r0 : Input) (b : Spacing) (ts : Input) (K : Spacing → Input → Type 0) : Type 0 where
    pub d : Spacing
    pub m : Input
    pub more : K d m
    pub known : Known r0.places
    pub broke : Breaks x.naming b ts
    pub first : kind ts ≡ k
    pub again : calm m ≡ true → (us : Trees) × Bindings (unplaced c) k (children us) ts m × AllRedone (leaves_at look x.naming) Plain ds us

  pub bindings_on : (s : Span) (k : ℕ) (ds : Trees) → AllSound look x.naming ds → (c : Code) (ts0 r0 : Input) → Bindings c k (children ds) ts0 r0 → Known ts0.places → (b : Spacing) (ts : Input) (K : Spacing → Input → Type 0) → says x.naming (laid look Alone (var_decl s k ds)) b ts K → Bound c k ds r0 b ts K
  bindings_on s k none a c ts0 r0 h l b ts K q = absurd h.3
  bindings_on s k (more t us) a c ts0 r0 h l b ts K q =
      let i = (skip_either look x.naming (starts_bracketed (more t us)) Touching q.0 _ q.2).1 in
      let p = x.words k _ _ _ q.1.means in
      let z = run look x (Sorted is_declarator c) (Sorted is_declarator (unplaced c)) (sorted look x is_declarator re_is_declarator declarator_plain c) c t us a.0 a.1 h.0 h.3.0 r0 h.3.1 h.3.2 (x.later ts0 h.0 h.2.3 l) _ q.0 K i in record {
        d = z.d;
        m = z.m;
        more = z.more;
        known = z.known;
        broke = q.1.broke;
        first = p.0;
        again = λ g. let w = z.again g in (more w.0 w.1, (q.0, h.1, (p.0, unbarred c.context (escaped ts) (kind ts) p.1, tt, q.1.after), (w.2, w.3, w.4)), more_same (leaves_at look x.naming) Plain t w.0 us w.1 w.5 w.6);
      }

  pub variables_on : (s : Span) (k : ℕ) (ds : Trees) → AllSound look x.naming ds → (st : Stand) → Sound look x.naming st (var_decl s k ds)
  variables_on s k ds a st c ts0 r0 h l b ts K q =
      let z = bindings_on s k ds a c ts0 h.0 h.1 l b ts _ q in
      let o = semi_of z.d z.m K z.more in record {
        d = o.0;
        m = o.1;
        more = o.3;
        known = ended_known look x c (declarators_end ds) h.0 r0 h.2 z.known;
        broke = z.broke;
        tight = λ e. absurd (true≢false (sym e));
        begins = λ e. absurd (var_no_else k h.1.1 (sym z.first ∙ e));
        again = λ g. let w = z.again (quiet_at look x o.2).calm in record {
          tree = var_decl (span (lo ts) o.1.last) k w.0;
          produced = (z.m, w.1, ended look x c (declarators_end w.0) o.2, refl);
          directive = refl;
          quoted = λ p q. refl;
          same = record { so = λ n. ap (λ (us : Trees). var_decl no_place k us) (w.2.so Plain) };
        };
      }

  -- ---- `using` (own)

  -- how the words and the first name begin
  pub record Used (awaits : Bool) (c : Code) (ds : Trees) (ts0 r0 : Input) (b : Spacing) (ts : Input) (K : Spacing → Input → Type 0) : Type 0 where
    pub d : Spacing
    pub m : Input
    pub more : K d m
    pub known : Known r0.places
    pub broke : Breaks x.naming b ts
    pub first : kind ts ≡ else_kind → ⊥
    pub starts : starts_using awaits ts0 ≡ true → starts_using awaits ts ≡ true
    pub again : calm m ≡ true → (us : Trees) × UsingBindings (unplaced c) awaits (children us) ts m × AllRedone (leaves_at look x.naming) Plain ds us

  -- the bindings, whose first token is the one that it was
  record Bindings_on (c : Code) (ds : Trees) (ts0 r0 : Input) (b : Spacing) (ts : Input) (K : Spacing → Input → Type 0) : Type 0 where
    d : Spacing
    m : Input
    more : K d m
    known : Known r0.places
    broke : Breaks x.naming b ts
    same_kind : kind ts ≡ kind ts0
    again : calm m ≡ true → (us : Trees) × Commas (Sorted is_declarator (unplaced c)) (unplaced c) (children us) ts m × AllRedone (leaves_at look x.naming) Plain ds us

  declarator_begins : (t : Tree) (ts0 r0 ts m : Input) → is_declarator t ≡ true → Starts (is_weak t) (is_loose t) ts0 r0 ts m → kind ts ≡ kind ts0
  declarator_begins (var_declarator s n e) ts0 r0 ts m i (same_start p f) = p
  declarator_begins (var_declarator s n e) ts0 r0 ts m i (fine p f g) = absurd (true≢false (sym p))
  declarator_begins _ ts0 r0 ts m i h = absurd (true≢false (sym i))

  commas_on : (ds : Trees) → AllSound look x.naming ds → (c : Code) (ts0 r0 : Input) → Commas (Sorted is_declarator c) c (children ds) ts0 r0 → Known ts0.places → (b : Spacing) (ts : Input) (K : Spacing → Input → Type 0) → says x.naming (separated look (comma look) ds) b ts K → Bindings_on c ds ts0 r0 b ts K
  commas_on none a c ts0 r0 h l b ts K q = absurd h
  commas_on (more t us) a c ts0 r0 h l b ts K q =
      let z = run look x (Sorted is_declarator c) (Sorted is_declarator (unplaced c)) (sorted look x is_declarator re_is_declarator declarator_plain c) c t us a.0 a.1 ts0 h.0 r0 h.1 h.2 l b ts K q in record {
        d = z.d;
        m = z.m;
        more = z.more;
        known = z.known;
        broke = z.broke;
        same_kind = declarator_begins t ts0 r0 ts z.m h.1.0 z.begins;
        again = λ g. let w = z.again g in (more w.0 w.1, (w.2, w.3, w.4), more_same (leaves_at look x.naming) Plain t w.0 us w.1 w.5 w.6);
      }

  pub used_on : (s : Span) (awaits : Bool) (ds : Trees) → AllSound look x.naming ds → (c : Code) (ts0 r0 : Input) → UsingBindings c awaits (children ds) ts0 r0 → Known ts0.places → (b : Spacing) (ts : Input) (K : Spacing → Input → Type 0) → says x.naming (laid look Alone (using_decl s awaits ds)) b ts K → Used awaits c ds ts0 r0 b ts K
  used_on s false ds a c ts0 r0 h l b ts K q =
      let z = commas_on ds a c h.0 r0 h.5 (x.later ts0 h.0 h.2.3 l) Spaced q.0 K q.2 in record {
        d = z.d;
        m = z.m;
        more = z.more;
        known = z.known;
        broke = q.1.broke;
        first = λ e. using_else (sym (keyed look x using_kind q.1) ∙ e);
        starts = λ g. subst (λ (k : ℕ). not (k == of_kind) ≡ true) (sym (ap kind q.1.after ∙ (z.same_kind ∙ sym (ap kind h.2.3)))) g;
        again = λ g. let w = z.again g in (w.0, (q.0, h.1, worded look x c using_kind q.1, behind_word look x using_kind refl q.1 z.broke, ap starts_pattern z.same_kind ∙ h.4, w.1), w.2);
      }
  used_on s true ds a c ts0 r0 h l b ts K q =
      let i = q.2 in
      let z = commas_on ds a c h.1 r0 h.9 (x.later h.0 h.1 h.6.3 (x.later ts0 h.0 h.4.3 l)) Spaced i.0 K i.2 in record {
        d = z.d;
        m = z.m;
        more = z.more;
        known = z.known;
        broke = q.1.broke;
        first = λ e. await_else (sym (keyed look x await_kind q.1) ∙ e);
        starts = λ g. subst (λ (k : ℕ). not (k == of_kind) ≡ true) (sym (ap kind2 q.1.after ∙ (ap kind i.1.after ∙ (z.same_kind ∙ (sym (ap kind h.6.3) ∙ sym (ap kind2 h.4.3)))))) g;
        again = λ g. let w = z.again g in (w.0, (q.0, i.0, h.2, h.3, worded look x c await_kind q.1, behind_word look x await_kind refl q.1 i.1.broke, worded look x c using_kind i.1, behind_word look x using_kind refl i.1 z.broke, ap starts_pattern z.same_kind ∙ h.8, w.1), w.2);
      }

  pub using_on : (s : Span) (awaits : Bool) (ds : Trees) → AllSound look x.naming ds → (st : Stand) → Sound look x.naming st (using_decl s awaits ds)
  using_on s awaits ds a st c ts0 r0 h l b ts K q =
      let z = used_on s awaits ds a c ts0 h.0 h.1 l b ts _ q in
      let o = semi_of z.d z.m K z.more in record {
        d = o.0;
        m = o.1;
        more = o.3;
        known = ended_known look x c (declarators_end ds) h.0 r0 h.2 z.known;
        broke = z.broke;
        tight = λ e. absurd (true≢false (sym e));
        begins = λ e. absurd (z.first e);
        again = λ g. let w = z.again (quiet_at look x o.2).calm in record {
          tree = using_decl (span (lo ts) o.1.last) awaits w.0;
          produced = (z.m, w.1, ended look x c (declarators_end w.0) o.2, refl);
          directive = refl;
          quoted = λ p q. refl;
          same = record { so = λ n. ap (λ (us : Trees). using_decl no_place awaits us) (w.2.so Plain) };
        };
      }
