-- Lists of statements derived again: in braces, in a case, and of whole programs; their directives stay what they were (11.2.1).
use Rattle.std.proofs.Common.{Bool, codes, false, if◌then◌else◌, not, refl, subst, sym, true, true≢false, ◌&&◌, ◌∙◌, ◌≡◌}
use Rattle.std.proofs.lemmas.Bool.{or_left, eqb-false}
use Rattle.base_token.specs.Kinds.{else_kind, left_brace_kind, right_brace_kind}
use Rattle.base_token.specs.declared.place.Span.{Span}
use Rattle.tree_spec.specs.Tree.{Tree, Trees, more, none}
use Rattle.grammar_spec.specs.Tokens.Input.{Code, Input, Takes, in_list, kind, turned_strict, unplaced}
use Rattle.grammar_spec.specs.Tokens.Shape.{is_directive, is_item, is_use_strict}
use Rattle.grammar_spec.specs.Grammar.{Produces, children}
use Rattle.grammar_spec.specs.Children.{Items}
use Rattle.grammar_spec.specs.Statements.{ClosesBlock}
use Rattle.print_layout_spec.specs.Layout.{closing, indented, is_block as is_block_tree, is_variables, laid, rows, statements}
use Rattle.print_layout_spec.specs.Looks.{brace, formats, line, semi, start, text, when, ◌·◌}
use Rattle.print_layout_spec.specs.declared.look.Look.{Look}
use Rattle.print_layout_spec.specs.declared.look.Stand.TheVariants.{Alone}
use Rattle.again_laws.specs.Tokens.Spacings.{Spacing, Touching}
use Rattle.again_laws.specs.Tokens.Lexicon.{Lexicon}
use Rattle.again_laws.specs.Tokens.Means.{Known}
use Rattle.again_laws.specs.Tokens.Told.{Breaks, says}
use Rattle.again_laws.specs.Derived.Redo.{AllRedone, Leaves, Mode, Plain, redo}
use Rattle.again_laws.proofs.derived_rules.Naming.{leaves_at}
use Rattle.again_laws.proofs.derived_rules.Begins.{first_token, is_inner, is_loose, is_weak, item_outer}
use Rattle.again_laws.proofs.derived_rules.Follow.{Follow, is_closed}
use Rattle.again_laws.proofs.derived_rules.Lists.{more_same, none_same}
use Rattle.again_laws.proofs.derived_rules.Shapes.{alike, re_is_directive, re_is_item}
use Rattle.again_laws.proofs.derived_rules.Sound.{AllSound, Out, Sound, outer}
use Rattle.again_laws.proofs.derived_rules.Tokens.{marked, says_map, skip_back, skip_deeper, skip_line, took}
use Rattle.again_laws.proofs.Layouts.{block_no_variables}

pub follow_closed : (t : Tree) (r m : Input) → is_closed t ≡ true → (kind m ≡ else_kind → kind r ≡ else_kind) → Follow Alone t r m
follow_closed t r m i f = record { quiet = λ z. absurd (by (is_closed t) _ i z); other = λ z. f }
  where
    by : (a b : Bool) → a ≡ true → not a && not b ≡ true → ⊥
    by true b i e = true≢false (sym e)
    by false b i e = true≢false (sym i)

-- what ends a StatementListItem is its own
pub item_closed : (t : Tree) → is_item t ≡ true → is_closed t ≡ true
item_closed t h = or_left (is_item t) _ h

pub item_flat : (t : Tree) → is_item t ≡ true → (is_closed t ≡ true) × (is_inner t ≡ false)
item_flat t h = (item_closed t h, item_outer t h)

turned : (b : Bool) (c : Code) → (if b then turned_strict (unplaced c) else unplaced c) ≡ unplaced (if b then turned_strict c else c)
turned true c = refl
turned false c = refl

module _ (look : Look) (x : Lexicon look.style) where
  -- ---- a statement and what stands behind it

  closing_on : (t : Tree) (b : Spacing) (ts : Input) (K : Spacing → Input → Type 0) → says x.naming (closing look t) b ts K → says x.naming (when (is_variables t) semi) b ts (λ d m. (e : Spacing) × K e m)
  unfolding closing
  closing_on t b ts K q = by (is_block_tree t) (block_no_variables t) q
    where
      by : (v : Bool) → (v ≡ true → is_variables t ≡ false) → says x.naming (when (not v) (when (is_variables t) semi · line look)) b ts K → says x.naming (when (is_variables t) semi) b ts (λ d m. (e : Spacing) × K e m)
      by true p q = subst (λ (w : Bool). says x.naming (when w semi) b ts (λ d m. (e : Spacing) × K e m)) (sym (p refl)) (b, q)
      by false p q = says_map x.naming (when (is_variables t) semi) b ts _ _ (λ d m j. skip_line x.naming (formats look) d m K j) q

  pub statement_on : (t : Tree) → Sound look x.naming Alone t → is_inner t ≡ false → (c : Code) (ts0 r0 : Input) → Produces t c ts0 r0 → Known ts0.places → (b : Spacing) (ts : Input) (K : Spacing → Input → Type 0) → says x.naming (laid look Alone t · closing look t) b ts K
      → Out look x.naming Alone t c ts0 r0 b ts (λ d m. (e : Spacing) × K e m)
  statement_on t f i c ts0 r0 h k b ts K q = outer look x.naming Alone t f i c ts0 r0 h k b ts _ (says_map x.naming (laid look Alone t) b ts _ _ (λ d m j. closing_on t d m K j) q)

  -- ---- lists, by what they may hold and what closes them

  module _ (may : Tree → Bool) (re_may : (l : Leaves) (m : Mode) (t : Tree) → may (redo l m t) ≡ may t) (flat : (t : Tree) → may t ≡ true → (is_closed t ≡ true) × (is_inner t ≡ false))
      (close : Code → Input → Input → Type 0) (closed : (c : Code) (m r : Input) → close c m r → Known m.places → Known r.places) where
    cons : (c : Code) (starts : Bool) (u : Tree) (us : Trees) (a b : Bool) → is_use_strict u ≡ a → is_directive u ≡ b → may u ≡ true → (ts m r : Input) → Produces u (in_list (unplaced c)) ts m
        → Items may close (unplaced (if starts && a then turned_strict c else c)) (starts && b) (children us) m r → Items may close (unplaced c) starts (children (more u us)) ts r
    cons c starts u us a b e f i ts m r h l = (
      m,
      i,
      h,
      subst (λ (v : Bool). Items may close (if starts && v then turned_strict (unplaced c) else unplaced c) (starts && is_directive u) (children us) m r) (sym e)
          (subst (λ (v : Bool). Items may close (if starts && a then turned_strict (unplaced c) else unplaced c) (starts && v) (children us) m r) (sym f) (subst (λ (d : Code). Items may close d (starts && b) (children us) m r) (sym (turned (starts && a) c)) l)),
    )

    pub record Listed_again (c : Code) (starts : Bool) (ss : Trees) (ts0 r0 : Input) (ts : Input) (K : Spacing → Input → Type 0) : Type 0 where
      pub d : Spacing
      pub m : Input
      pub more : K d m
      pub known : Known r0.places
      pub first : kind ts ≡ else_kind → kind ts0 ≡ else_kind
      -- before what closes the list in whatever code
      pub again : (r : Input) → ((o : Code) → close (unplaced o) m r) → (us : Trees) × Items may close (unplaced c) starts (children us) ts r × AllRedone (leaves_at look x.naming) Plain ss us

    none_on : (c : Code) (starts : Bool) (ts0 r0 : Input) → close c ts0 r0 → Known ts0.places → (b : Spacing) (ts : Input) (K : Spacing → Input → Type 0) → (kind ts ≡ else_kind → ⊥) → K b ts → Listed_again c starts none ts0 r0 ts K
    none_on c starts ts0 r0 h k b ts K peek q = record {
      d = b;
      m = ts;
      more = q;
      known = closed c ts0 r0 h k;
      first = λ e. absurd (peek e);
      again = λ r t. (none, t c, none_same (leaves_at look x.naming));
    }

    -- a statement before the others
    more_on : (c : Code) (starts : Bool) (t : Tree) (us : Trees) → may t ≡ true → (ts0 m0 r0 : Input) (b : Spacing) (ts : Input) (J K : Spacing → Input → Type 0) → (z : Out look x.naming Alone t (in_list c) ts0 m0 b ts J)
        → Listed_again (if starts && is_use_strict t then turned_strict c else c) (starts && is_directive t) us m0 r0 z.m K → Listed_again c starts (more t us) ts0 r0 ts K
    more_on c starts t us i ts0 m0 r0 b ts J K z v = record {
      d = v.d;
      m = v.m;
      more = v.more;
      known = v.known;
      first = first_token (is_weak t) (is_loose t) ts0 m0 ts z.m z.begins;
      again = λ r tk. let w = z.again (follow_closed t m0 z.m (flat t i).0 v.first) in let o = v.again r tk in (
        more w.tree o.0,
        cons c starts w.tree o.0 (is_use_strict t) (is_directive t) w.directive (alike is_directive re_is_directive (leaves_at look x.naming) Plain t w.tree w.same) (alike may re_may (leaves_at look x.naming) Plain t w.tree w.same ∙ i) ts z.m r w.produced o.1,
        more_same (leaves_at look x.naming) Plain t w.tree us o.0 w.same o.2,
      );
    }

    -- with a line between two of them, as in braces
    pub rows_on : (c : Code) (starts : Bool) (ss : Trees) → AllSound look x.naming ss → (ts0 r0 : Input) → Items may close c starts (children ss) ts0 r0 → Known ts0.places → (b : Spacing) (ts : Input) (K : Spacing → Input → Type 0)
        → ((d : Spacing) (m : Input) → K d m → kind m ≡ else_kind → ⊥) → says x.naming (rows look true ss) b ts K → Listed_again c starts ss ts0 r0 ts K
    rows_on c starts none a ts0 r0 h k b ts K peek q = none_on c starts ts0 r0 h k b ts K (peek b ts q) q
    rows_on c starts (more t none) a ts0 r0 h k b ts K peek q =
        let z = statement_on t a.0 (flat t h.1).1 (in_list c) ts0 h.0 h.2 k b ts K q in
        more_on c starts t none h.1 ts0 h.0 r0 b ts _ K z (none_on _ _ h.0 r0 h.3 z.known z.more.0 z.m K (peek z.more.0 z.m z.more.1) z.more.1)
    rows_on c starts (more t (more u us)) a ts0 r0 h k b ts K peek q =
        let z = statement_on t a.0 (flat t h.1).1 (in_list c) ts0 h.0 h.2 k b ts _ q in
        let i = skip_line x.naming (formats look) z.more.0 z.m _ z.more.1 in
        more_on c starts t (more u us) h.1 ts0 h.0 r0 b ts _ K z (rows_on (if starts && is_use_strict t then turned_strict c else c) (starts && is_directive t) (more u us) a.1 h.0 r0 h.3 z.known i.0 z.m K peek i.1)

    -- each closed, as of a program
    pub statements_on : (c : Code) (starts : Bool) (ss : Trees) → AllSound look x.naming ss → (ts0 r0 : Input) → Items may close c starts (children ss) ts0 r0 → Known ts0.places → (b : Spacing) (ts : Input) (K : Spacing → Input → Type 0)
        → ((d : Spacing) (m : Input) → K d m → kind m ≡ else_kind → ⊥) → says x.naming (statements look ss) b ts K → Listed_again c starts ss ts0 r0 ts K
    statements_on c starts none a ts0 r0 h k b ts K peek q = none_on c starts ts0 r0 h k b ts K (peek b ts q) q
    statements_on c starts (more t us) a ts0 r0 h k b ts K peek q =
        let z = statement_on t a.0 (flat t h.1).1 (in_list c) ts0 h.0 h.2 k b ts _ q in
        more_on c starts t us h.1 ts0 h.0 r0 b ts _ K z (statements_on (if starts && is_use_strict t then turned_strict c else c) (starts && is_directive t) us a.1 h.0 r0 h.3 z.known z.more.0 z.m K peek z.more.1)

  -- ---- statements in braces (14.2, 15.2)

  closes_known : (c : Code) (m r : Input) → ClosesBlock c m r → Known m.places → Known r.places
  closes_known c m r h k = x.later m r h.2 k

  pub record Braced (c : Code) (starts : Bool) (ss : Trees) (ts0 r0 : Input) (b : Spacing) (ts : Input) (K : Spacing → Input → Type 0) : Type 0 where
    pub m : Input
    pub more : K Touching m
    pub known : Known r0.places
    pub broke : Breaks x.naming b ts
    pub lead : kind ts ≡ left_brace_kind
    pub again : (us : Trees) × (n : Input) × Takes (unplaced c) left_brace_kind ts n × Items is_item ClosesBlock (unplaced c) starts (children us) n m × AllRedone (leaves_at look x.naming) Plain ss us

  pub braced : (c : Code) (starts : Bool) (ss : Trees) → AllSound look x.naming ss → (ts0 m0 r0 : Input) → Takes c left_brace_kind ts0 m0 → Items is_item ClosesBlock c starts (children ss) m0 r0 → Known ts0.places → (b : Spacing) (ts : Input) (K : Spacing → Input → Type 0)
      → (pos : Span) → says x.naming (text (codes "{") · indented look ss (rows look true ss) · start pos · brace) b ts K → Braced c starts ss ts0 r0 b ts K
  braced c starts none a ts0 m0 r0 t h k b ts K pos q = let o = q.2 in record {
    m = o.0;
    more = o.2;
    known = x.later m0 r0 h.2 (x.later ts0 m0 t.2 k);
    broke = q.1.broke;
    lead = marked look x left_brace_kind q.1;
    again = (none, q.0, took look x c left_brace_kind q.1, took look x c right_brace_kind o.1, none_same (leaves_at look x.naming));
  }
  braced c starts (more s ss) a ts0 m0 r0 t h k b ts K pos q =
      let i = skip_line x.naming (formats look) Touching q.0 _ q.2 in
      let j = skip_deeper x.naming (formats look) i.0 q.0 _ i.1 in
      let z = rows_on is_item re_is_item item_flat ClosesBlock closes_known c starts (more s ss) a m0 r0 h (x.later ts0 m0 t.2 k) i.0 q.0 _
      (λ d m u. let v = skip_line x.naming (formats look) d m _ (skip_back x.naming (formats look) d m _ u) in λ e. eqb-false right_brace_kind else_kind refl (sym (marked look x right_brace_kind v.1.1) ∙ e)) j in
      let v = skip_line x.naming (formats look) z.d z.m _ (skip_back x.naming (formats look) z.d z.m _ z.more) in
      let o = v.1 in let w = z.again o.0 (λ n. took look x n right_brace_kind o.1) in record {
        m = o.0;
        more = o.2;
        known = z.known;
        broke = q.1.broke;
        lead = marked look x left_brace_kind q.1;
        again = (w.0, q.0, took look x c left_brace_kind q.1, w.1, w.2);
      }
