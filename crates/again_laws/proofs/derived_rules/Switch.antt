-- `switch` derived again: each case ends before the next one or the brace (14.12).
use Rattle.std.proofs.Common.{Bool, ap, ap₂, arith, codes, false, if◌then◌else◌, not, refl, subst, sym, true, true≢false, ℕ, ◌&&◌, ◌==◌, ◌||◌, ◌∙◌, ◌≡◌}
use Rattle.base_token.specs.Kinds.{case_kind, colon_kind, default_kind, else_kind, left_brace_kind, right_brace_kind, switch_kind}
use Rattle.base_token.specs.declared.place.Span.{Span}
use Rattle.tree_spec.specs.Places.{no_place}
use Rattle.tree_spec.specs.Tree.{Tree, Trees, absent, more, none, switch_case, switch_stmt}
use Rattle.grammar_spec.specs.Tokens.Input.{Code, Input, Takes, TakesWord, kind, lo, span, unplaced}
use Rattle.grammar_spec.specs.Tokens.Operators.{expression_level}
use Rattle.grammar_spec.specs.Tokens.Shape.{is_absent, is_case, is_default_case, is_item}
use Rattle.grammar_spec.specs.Grammar.{Produces, children}
use Rattle.grammar_spec.specs.Children.{By, Expr, Items, Sorted, child}
use Rattle.grammar_spec.specs.Statements.{Cases, ClosesCase}
use Rattle.grammar_laws.proofs.Covers.{by_no}
use Rattle.print_gaps.specs.Edges.{is_there, starts_with_word}
use Rattle.print_layout_spec.specs.Layout.{indented_or_line, is_empty as is_empty_list, laid, rows, word}
use Rattle.print_layout_spec.specs.Looks.{back, brace, deeper, formats, gap_or, last, line, text, when, ◌·◌}
use Rattle.print_layout_spec.specs.declared.look.Look.{Look}
use Rattle.print_layout_spec.specs.declared.look.Stand.{Stand}
use Rattle.print_layout_spec.specs.declared.look.Stand.TheVariants.{Alone}
use Rattle.again_laws.specs.Tokens.Spacings.{Spacing, Touching}
use Rattle.again_laws.specs.Tokens.Lexicon.{Lexicon}
use Rattle.again_laws.specs.Tokens.Means.{Known}
use Rattle.again_laws.specs.Tokens.Naming.{Naming}
use Rattle.again_laws.specs.Tokens.Told.{says}
use Rattle.again_laws.specs.Derived.Redo.{AllRedone, Leaves, Mode, Plain, Redone, redo}
use Rattle.again_laws.proofs.derived_rules.Naming.{leaves_at}
use Rattle.again_laws.proofs.derived_rules.Bodies.{item_flat, rows_on}
use Rattle.again_laws.proofs.derived_rules.Ends.{absent_same, there}
use Rattle.again_laws.proofs.derived_rules.Follow.{follow_by}
use Rattle.again_laws.proofs.derived_rules.Lists.{more_same, none_same}
use Rattle.again_laws.proofs.derived_rules.Shapes.{alike, re_is_absent, re_is_item}
use Rattle.again_laws.proofs.derived_rules.Sound.{AllSound, Sound, expr, expr_low}
use Rattle.again_laws.proofs.derived_rules.Tokens.{keyed, marked, skip, skip_back, skip_deeper, skip_line, took, worded}
use Rattle.again_laws.proofs.derived_rules.Simple.{parens_in}

switch_else : switch_kind ≡ else_kind → ⊥
switch_else e = omega arith

re_is_case : (l : Leaves) (m : Mode) (t : Tree) → is_case (redo l m t) ≡ is_case t
re_is_case l m (switch_case s t b) = refl
re_is_case l m _ = refl

re_is_default : (l : Leaves) (m : Mode) (t : Tree) → is_default_case (redo l m t) ≡ is_default_case t
re_is_default l m (switch_case s t b) = by t
  where
    by : (t : Tree) → is_default_case (redo l m (switch_case s t b)) ≡ is_default_case (switch_case s t b)
    by absent = refl
    by _ = refl
re_is_default l m _ = refl

-- what ends a case: the next one, or the brace
abbrev ends_case : ℕ → Bool
ends_case k = (k == case_kind) || ((k == default_kind) || (k == right_brace_kind))

ends_no_else : (k : ℕ) → ends_case k ≡ true → k ≡ else_kind → ⊥
ends_no_else k h e = true≢false (sym (subst (λ (j : ℕ). ends_case j ≡ true) e h))

ends_at : (k j : ℕ) → k ≡ j → ends_case j ≡ true → ends_case k ≡ true
ends_at k j e h = subst (λ (i : ℕ). ends_case i ≡ true) (sym e) h

-- what is asked of the parts of a case
abbrev pub CaseSound : Look → Naming → Tree → Type 1
CaseSound look naming (switch_case s t ss) = Sound look naming Alone t × AllSound look naming ss
CaseSound look naming _ = Unit {1}

abbrev pub CasesSound : Look → Naming → Trees → Type 1
CasesSound look naming none = Unit {1}
CasesSound look naming (more t ts) = CaseSound look naming t × CasesSound look naming ts

module _ (look : Look) (x : Lexicon look.style) where
  -- its head: `case` and a test, or `default`
  record Case_head (t : Tree) (c : Code) (r0 : Input) (b : Spacing) (ts : Input) (K : Spacing → Input → Type 0) : Type 0 where
    m : Input
    n : Input
    more : K Touching n
    known : Known r0.places
    colon : Takes (unplaced c) colon_kind m n
    again : (u : Tree) × By (is_absent u) (TakesWord (unplaced c) default_kind ts m) ((o : Input) × TakesWord (unplaced c) case_kind ts o × Expr expression_level (unplaced c) (child u (λ y. Produces u y)) o m) × Redone (leaves_at look x.naming) Plain t u

  case_head_on : (t : Tree) → Sound look x.naming Alone t → (c : Code) (v : Bool) → is_absent t ≡ v → (ts0 m0 r0 : Input) → By v (TakesWord c default_kind ts0 m0) ((o : Input) × TakesWord c case_kind ts0 o × Expr expression_level c (child t (λ y. Produces t y)) o m0) → Takes c colon_kind m0 r0 → Known ts0.places
      → (b : Spacing) (ts : Input) (K : Spacing → Input → Type 0) → says x.naming ((if not v then (word (codes "case") · gap_or look (starts_with_word t) · laid look Alone t) else word (codes "default")) · text (codes ":")) b ts K → Case_head t c r0 b ts K
  case_head_on t f c true a ts0 m0 r0 h e k b ts K q = let o = q.2 in record {
    m = q.0;
    n = o.0;
    more = o.2;
    known = x.later m0 r0 e.2 (x.later ts0 m0 h.3 k);
    colon = took look x c colon_kind o.1;
    again = (absent, worded look x c default_kind q.1, absent_same (leaves_at look x.naming) Plain t a);
  }
  case_head_on t f c false a ts0 m0 r0 h e k b ts K q =
      let y = expr look x.naming expression_level Alone t f (omega arith) c h.0 m0 h.2 (x.later ts0 h.0 h.1.3 k) _ q.0 _ (skip x.naming (starts_with_word t || formats look) Touching q.0 _ q.2) in
      let o = y.more in let w = y.again (follow_by Alone t m0 y.m colon_kind (marked look x colon_kind o.1) refl) in record {
        m = y.m;
        n = o.0;
        more = o.2;
        known = x.later m0 r0 e.2 y.known;
        colon = took look x c colon_kind o.1;
        again = (w.tree, by_no (is_absent w.tree) _ _ (alike is_absent re_is_absent (leaves_at look x.naming) Plain t w.tree w.same ∙ a) (q.0, worded look x c case_kind q.1, expr_low look x.naming expression_level Alone t c q.0 y.m h.2.0 (omega arith) w), w.same);
      }

  record Case_on (t : Tree) (c : Code) (r0 : Input) (ts : Input) (K : Spacing → Input → Type 0) : Type 0 where
    d : Spacing
    m : Input
    more : K d m
    known : Known r0.places
    again : ends_case (kind m) ≡ true → (u : Tree) × Sorted is_case (unplaced c) (child u (λ y. Produces u y)) ts m × Redone (leaves_at look x.naming) Plain t u

  closed_case : (c : Code) (m r : Input) → ClosesCase c m r → Known m.places → Known r.places
  closed_case c m r h k = subst (λ (i : Input). Known i.places) h.1 k

  -- the statements of a case
  record Case_body (ss : Trees) (c : Code) (r0 : Input) (ts : Input) (K : Spacing → Input → Type 0) : Type 0 where
    d : Spacing
    m : Input
    more : K d m
    known : Known r0.places
    again : ends_case (kind m) ≡ true → (us : Trees) × Items is_item ClosesCase (unplaced c) false (children us) ts m × AllRedone (leaves_at look x.naming) Plain ss us

  case_body_on : (ss : Trees) → AllSound look x.naming ss → (c : Code) (ts0 r0 : Input) → Items is_item ClosesCase c false (children ss) ts0 r0 → Known ts0.places → (b : Spacing) (ts : Input) (K : Spacing → Input → Type 0) → ((d : Spacing) (m : Input) → K d m → ends_case (kind m) ≡ true)
      → says x.naming (when (not (is_empty_list ss)) (line look · deeper look · rows look true ss · back look)) b ts K → Case_body ss c r0 ts K
  case_body_on none a c ts0 r0 h k b ts K peek q = record { d = b; m = ts; more = q; known = closed_case c ts0 r0 h k; again = λ e. (none, (e, refl), none_same (leaves_at look x.naming)) }
  case_body_on (more s ss) a c ts0 r0 h k b ts K peek q =
      let i = skip_line x.naming (formats look) b ts _ q in
      let j = skip_deeper x.naming (formats look) i.0 ts _ i.1 in
      let z = rows_on look x is_item re_is_item item_flat ClosesCase closed_case c false (more s ss) a ts0 r0 h k i.0 ts _ (λ d m u e. ends_no_else (kind m) (peek d m (skip_back x.naming (formats look) d m K u)) e) j in record {
        d = z.d;
        m = z.m;
        more = skip_back x.naming (formats look) z.d z.m K z.more;
        known = z.known;
        again = λ e. z.again z.m (λ o. (e, refl));
      }

  case_on : (t : Tree) → CaseSound look x.naming t → (c : Code) (ts0 r0 : Input) → Sorted is_case c (child t (λ y. Produces t y)) ts0 r0 → Known ts0.places → (b : Spacing) (ts : Input) (K : Spacing → Input → Type 0) → ((d : Spacing) (m : Input) → K d m → ends_case (kind m) ≡ true) → says x.naming (laid look Alone t) b ts K → Case_on t c r0 ts K
  case_on (switch_case s t ss) f c ts0 r0 h k b ts K peek q =
      let g = h.1 in
      let y = case_head_on t f.0 c (is_absent t) refl ts0 g.0 g.1 g.2 g.3 k b ts (λ d m. says x.naming (when (not (is_empty_list ss)) (line look · deeper look · rows look true ss · back look)) d m K)
      (subst (λ (v : Bool). says x.naming ((if v then (word (codes "case") · gap_or look (starts_with_word t) · laid look Alone t) else word (codes "default")) · text (codes ":")) b ts (λ d m. says x.naming (when (not (is_empty_list ss)) (line look · deeper look · rows look true ss · back look)) d m K)) (there t) q) in
      let z = case_body_on ss f.1 c g.1 r0 g.4 y.known Touching y.n K peek y.more in record {
        d = z.d;
        m = z.m;
        more = z.more;
        known = z.known;
        again = λ e. let w = z.again e in (switch_case (span (lo ts) z.m.last) y.again.0 w.0, (refl, (y.m, y.n, y.again.1, y.colon, w.1, refl)), record { so = λ n. ap₂ (λ (t : Tree) (us : Trees). switch_case no_place t us) (y.again.2.so Plain) (w.2.so Plain) });
      }
  case_on _ f c ts0 r0 h k b ts K peek q = absurd (true≢false (sym h.0))

  -- a case opens with its word
  case_opens : (t : Tree) → is_case t ≡ true → (b : Spacing) (ts : Input) (K : Spacing → Input → Type 0) → says x.naming (laid look Alone t) b ts K → ends_case (kind ts) ≡ true
  case_opens (switch_case s t ss) h b ts K q = by (is_there t) q
    where
      by : (v : Bool) → says x.naming ((if v then (word (codes "case") · gap_or look (starts_with_word t) · laid look Alone t) else word (codes "default")) · text (codes ":") · when (not (is_empty_list ss)) (line look · deeper look · rows look true ss · back look)) b ts K → ends_case (kind ts) ≡ true
      by true q = ends_at (kind ts) case_kind (keyed look x case_kind q.1) refl
      by false q = ends_at (kind ts) default_kind (keyed look x default_kind q.1) refl
  case_opens _ h b ts K q = absurd (true≢false (sym h))

  rows_open : (t : Tree) (us : Trees) → is_case t ≡ true → (b : Spacing) (ts : Input) (K : Spacing → Input → Type 0) → says x.naming (rows look false (more t us)) b ts K → ends_case (kind ts) ≡ true
  rows_open t none h b ts K q = case_opens t h b ts K q
  rows_open t (more u us) h b ts K q = case_opens t h b ts (λ d m. says x.naming (line look · rows look false (more u us)) d m K) q

  record Cases_on (c : Code) (had : Bool) (xs : Trees) (ts0 r0 : Input) (ts : Input) (K : Spacing → Input → Type 0) : Type 0 where
    d : Spacing
    m : Input
    more : K d m
    known : Known r0.places
    again : (r : Input) → Takes (unplaced c) right_brace_kind m r → (us : Trees) × Cases (unplaced c) had (children us) ts r × AllRedone (leaves_at look x.naming) Plain xs us

  more_cases : (c : Code) (had : Bool) (t : Tree) (us : Trees) → (had && is_default_case t) ≡ false → (ts0 m0 r0 : Input) (ts : Input) (J K : Spacing → Input → Type 0) → (z : Case_on t c m0 ts J) → ends_case (kind z.m) ≡ true → (n : Spacing) → Cases_on c (had || is_default_case t) us m0 r0 z.m K → Cases_on c had (more t us) ts0 r0 ts K
  more_cases c had t us i ts0 m0 r0 ts J K z e n v = record {
    d = v.d;
    m = v.m;
    more = v.more;
    known = v.known;
    again = λ r tk. let w = z.again e in let o = v.again r tk in let s = alike is_default_case re_is_default (leaves_at look x.naming) Plain t w.0 w.2 in
        (more w.0 o.0, (z.m, ap (λ (v : Bool). had && v) s ∙ i, w.1, subst (λ (v : Bool). Cases (unplaced c) (had || v) (children o.0) z.m r) (sym s) o.1), more_same (leaves_at look x.naming) Plain t w.0 us o.0 w.2 o.2);
  }

  cases_on : (c : Code) (had : Bool) (xs : Trees) → CasesSound look x.naming xs → (ts0 r0 : Input) → Cases c had (children xs) ts0 r0 → Known ts0.places → (b : Spacing) (ts : Input) (K : Spacing → Input → Type 0) → ((d : Spacing) (m : Input) → K d m → kind m ≡ right_brace_kind) → says x.naming (rows look false xs) b ts K → Cases_on c had xs ts0 r0 ts K
  cases_on c had none a ts0 r0 h k b ts K peek q = record { d = b; m = ts; more = q; known = x.later ts0 r0 h.2 k; again = λ r t. (none, t, none_same (leaves_at look x.naming)) }
  cases_on c had (more t none) a ts0 r0 h k b ts K peek q =
      let z = case_on t a.0 c ts0 h.0 h.2 k b ts K (λ d m u. ends_at (kind m) right_brace_kind (peek d m u) refl) q in
      more_cases c had t none h.1 ts0 h.0 r0 ts K K z (ends_at (kind z.m) right_brace_kind (peek z.d z.m z.more) refl) z.d (cases_on c (had || is_default_case t) none tt h.0 r0 h.3 z.known z.d z.m K peek z.more)
  cases_on c had (more t (more u us)) a ts0 r0 h k b ts K peek q =
      let z = case_on t a.0 c ts0 h.0 h.2 k b ts (λ d m. says x.naming (line look · rows look false (more u us)) d m K) (λ d m p. let i = skip_line x.naming (formats look) d m _ p in rows_open u us h.3.2.0 i.0 m K i.1) q in
      let i = skip_line x.naming (formats look) z.d z.m _ z.more in
      more_cases c had t (more u us) h.1 ts0 h.0 r0 ts _ K z (rows_open u us h.3.2.0 i.0 z.m K i.1) i.0 (cases_on c (had || is_default_case t) (more u us) a.1 h.0 r0 h.3 z.known i.0 z.m K peek i.1)

  pub switch_on : (s : Span) (e : Tree) (xs : Trees) → Sound look x.naming Alone e → CasesSound look x.naming xs → (st : Stand) → Sound look x.naming st (switch_stmt s e xs)
  switch_on s e none f a st c ts0 r0 h k b ts K q =
      let y = parens_in look x e f c h.0 h.1 h.4 (x.later ts0 h.0 h.3.3 k) Touching q.0 (λ d m. says x.naming (text (codes "{") · indented_or_line look none (rows look false none) · last s · brace) d m K) q.2 in
      let i = y.more in
      let o = (skip_line x.naming (formats look) Touching i.0 _ i.2).1 in record {
        d = Touching;
        m = o.0;
        more = o.2;
        known = x.later h.2 r0 h.6.2 (x.later h.1 h.2 h.5.2 y.known);
        broke = q.1.broke;
        tight = λ e. absurd (true≢false (sym e));
        begins = λ e. absurd (switch_else (sym (keyed look x switch_kind q.1) ∙ e));
        again = λ g. record {
          tree = switch_stmt (span (lo ts) o.0.last) y.again.0 none;
          produced = (q.0, y.m, i.0, worded look x c switch_kind q.1, y.again.1, took look x c left_brace_kind i.1, took look x c right_brace_kind o.1, refl);
          directive = refl;
          quoted = λ p q. refl;
          same = record { so = λ n. ap (λ (t : Tree). switch_stmt no_place t none) (y.again.2.so Plain) };
        };
      }
  switch_on s e (more t xs) f a st c ts0 r0 h k b ts K q =
      let y = parens_in look x e f c h.0 h.1 h.4 (x.later ts0 h.0 h.3.3 k) Touching q.0 (λ d m. says x.naming (text (codes "{") · indented_or_line look (more t xs) (rows look false (more t xs)) · last s · brace) d m K) q.2 in
      let i = y.more in
      let j = skip_line x.naming (formats look) Touching i.0 _ i.2 in
      let l = skip_deeper x.naming (formats look) j.0 i.0 _ j.1 in
      let z = cases_on c false (more t xs) a h.2 r0 h.6 (x.later h.1 h.2 h.5.2 y.known) j.0 i.0 _ (λ d m u. let v = skip_line x.naming (formats look) d m _ (skip_back x.naming (formats look) d m _ u) in marked look x right_brace_kind v.1.1) l in
      let o = (skip_line x.naming (formats look) z.d z.m _ (skip_back x.naming (formats look) z.d z.m _ z.more)).1 in record {
        d = Touching;
        m = o.0;
        more = o.2;
        known = z.known;
        broke = q.1.broke;
        tight = λ e. absurd (true≢false (sym e));
        begins = λ e. absurd (switch_else (sym (keyed look x switch_kind q.1) ∙ e));
        again = λ g. let w = z.again o.0 (took look x c right_brace_kind o.1) in record {
          tree = switch_stmt (span (lo ts) o.0.last) y.again.0 w.0;
          produced = (q.0, y.m, i.0, worded look x c switch_kind q.1, y.again.1, took look x c left_brace_kind i.1, w.1, refl);
          directive = refl;
          quoted = λ p q. refl;
          same = record { so = λ n. ap₂ (λ (t : Tree) (us : Trees). switch_stmt no_place t us) (y.again.2.so Plain) (w.2.so Plain) };
        };
      }
