-- Classes derived again (15.7): what a class extends, and its members.
use Rattle.std.proofs.Common.{Bool, [], ap₂, arith, codes, false, not, refl, subst, sym, true, true≢false, ◌||◌, ◌∙◌, ◌≡◌}
use Rattle.std.proofs.lemmas.Bool.{eqb-false}
use Rattle.base_token.specs.Kinds.{class_kind, else_kind, extends_kind, left_brace_kind, right_brace_kind}
use Rattle.base_token.specs.declared.place.Span.{Span}
use Rattle.tree_spec.specs.Places.{no_place}
use Rattle.tree_spec.specs.Tree.{Tree, Trees, absent, auto_accessor, class, class_decl, class_expr, class_method, class_prop, constructor, empty_stmt, ident, more, none, private_method, private_prop, static_block}
use Rattle.grammar_spec.specs.Tokens.Input.{Code, Input, Takes, kind, lo, span, turned_strict, unplaced, with_in}
use Rattle.grammar_spec.specs.Tokens.Operators.{new_level}
use Rattle.grammar_spec.specs.Tokens.Shape.{is_absent, is_member}
use Rattle.grammar_spec.specs.Functions.{ClassTail, Heritage, Members}
use Rattle.grammar_spec.specs.Grammar.{Produces, children}
use Rattle.grammar_spec.specs.Children.{By, Maybe, is_ident, child}
use Rattle.grammar_laws.proofs.Covers.{by_no}
use Rattle.print_gaps.specs.Edges.{is_there, starts_with_word}
use Rattle.print_layout_spec.specs.Layout.{class_tail, indented_or_line, laid, rows, word}
use Rattle.print_layout_spec.specs.Looks.{blank, brace, formats, gap_or, last, line, when, ◌·◌}
use Rattle.print_layout_spec.specs.declared.look.Look.{Look}
use Rattle.print_layout_spec.specs.declared.look.Stand.{Stand}
use Rattle.print_layout_spec.specs.declared.look.Stand.TheVariants.{Alone}
use Rattle.again_laws.specs.Tokens.Spacings.{Spacing, Spaced, Touching}
use Rattle.again_laws.specs.Tokens.Lexicon.{Lexicon}
use Rattle.again_laws.specs.Tokens.Means.{Known}
use Rattle.again_laws.specs.Tokens.Told.{says}
use Rattle.again_laws.specs.Derived.Redo.{AllRedone, Leaves, Mode, Plain, Redone, redo}
use Rattle.again_laws.proofs.derived_rules.Naming.{leaves_at}
use Rattle.again_laws.proofs.derived_rules.Begins.{first_token, is_loose, is_part, is_weak, led}
use Rattle.again_laws.proofs.derived_rules.Bodies.{follow_closed}
use Rattle.again_laws.proofs.derived_rules.Ends.{absent_same, there}
use Rattle.again_laws.proofs.derived_rules.Follow.{follow_by, is_closed}
use Rattle.again_laws.proofs.derived_rules.Lists.{more_same, none_same}
use Rattle.again_laws.proofs.derived_rules.Names.{id_on, maybe_on}
use Rattle.again_laws.proofs.derived_rules.Shapes.{alike, re_is_absent}
use Rattle.again_laws.proofs.derived_rules.Sound.{AllSound, Out, Sound, expr, expr_low, plain_part}
use Rattle.again_laws.proofs.derived_rules.Tokens.{keyed, marked, skip, skip_back, skip_deeper, skip_line, took, worded}

extends_else : extends_kind ≡ else_kind → ⊥
extends_else e = omega arith

class_else : class_kind ≡ else_kind → ⊥
class_else e = omega arith

re_is_member : (l : Leaves) (m : Mode) (t : Tree) → is_member (redo l m t) ≡ is_member t
re_is_member l m (constructor s k ps b) = refl
re_is_member l m (class_method s k f n i) = refl
re_is_member l m (private_method s k f n i) = refl
re_is_member l m (class_prop s k v i ds) = refl
re_is_member l m (private_prop s k v i ds) = refl
re_is_member l m (static_block s b) = refl
re_is_member l m (auto_accessor s k v i ds) = refl
re_is_member l m (empty_stmt s) = refl
re_is_member l m _ = refl

member_plain : (t : Tree) → is_member t ≡ true → (is_part t ≡ true) × (is_closed t ≡ true)
member_plain (constructor s k ps b) h = (refl, refl)
member_plain (class_method s k f n i) h = (refl, refl)
member_plain (private_method s k f n i) h = (refl, refl)
member_plain (class_prop s k v i ds) h = (refl, refl)
member_plain (private_prop s k v i ds) h = (refl, refl)
member_plain (static_block s b) h = (refl, refl)
member_plain (auto_accessor s k v i ds) h = (refl, refl)
member_plain (empty_stmt s) h = (refl, refl)
member_plain _ h = absurd (true≢false (sym h))

ident_there : (t : Tree) → is_ident t ≡ true → is_there t ≡ true
ident_there (ident s n) h = refl
ident_there _ h = absurd (true≢false (sym h))

module _ (look : Look) (x : Lexicon look.style) where
  -- ---- members one after another

  record Members_on (c : Code) (ms : Trees) (ts0 r0 : Input) (ts : Input) (K : Spacing → Input → Type 0) : Type 0 where
    d : Spacing
    m : Input
    more : K d m
    known : Known r0.places
    first : kind ts ≡ else_kind → kind ts0 ≡ else_kind
    again : (r : Input) → Takes (unplaced c) right_brace_kind m r → (us : Trees) × Members (unplaced c) (children us) ts r × AllRedone (leaves_at look x.naming) Plain ms us

  no_members : (c : Code) (ts0 r0 : Input) → Takes c right_brace_kind ts0 r0 → Known ts0.places → (b : Spacing) (ts : Input) (K : Spacing → Input → Type 0) → kind ts ≡ right_brace_kind → K b ts → Members_on c none ts0 r0 ts K
  no_members c ts0 r0 h k b ts K e q = record { d = b; m = ts; more = q; known = x.later ts0 r0 h.2 k; first = λ i. absurd (eqb-false right_brace_kind else_kind refl (sym e ∙ i)); again = λ r t. (none, t, none_same (leaves_at look x.naming)) }

  more_members : (c : Code) (t : Tree) (us : Trees) → is_member t ≡ true → (ts0 m0 r0 : Input) (b : Spacing) (ts : Input) (J K : Spacing → Input → Type 0) → (z : Out look x.naming Alone t c ts0 m0 b ts J) → Members_on c us m0 r0 z.m K → Members_on c (more t us) ts0 r0 ts K
  more_members c t us i ts0 m0 r0 b ts J K z v = record {
    d = v.d;
    m = v.m;
    more = v.more;
    known = v.known;
    first = first_token (is_weak t) (is_loose t) ts0 m0 ts z.m z.begins;
    again = λ r tk. let w = z.again (follow_closed t m0 z.m (member_plain t i).1 v.first) in let o = v.again r tk in
        (more w.tree o.0, (z.m, (alike is_member re_is_member (leaves_at look x.naming) Plain t w.tree w.same ∙ i, w.produced), o.1), more_same (leaves_at look x.naming) Plain t w.tree us o.0 w.same o.2);
  }

  members_on : (c : Code) (ms : Trees) → AllSound look x.naming ms → (ts0 r0 : Input) → Members c (children ms) ts0 r0 → Known ts0.places → (b : Spacing) (ts : Input) (K : Spacing → Input → Type 0) → ((d : Spacing) (m : Input) → K d m → kind m ≡ right_brace_kind)
      → says x.naming (rows look false ms) b ts K → Members_on c ms ts0 r0 ts K
  members_on c none a ts0 r0 h k b ts K peek q = no_members c ts0 r0 h k b ts K (peek b ts q) q
  members_on c (more t none) a ts0 r0 h k b ts K peek q =
      let z = plain_part look x.naming Alone t a.0 (member_plain t h.1.0).0 c ts0 h.0 h.1.1 k b ts K q in
      more_members c t none h.1.0 ts0 h.0 r0 b ts K K z (no_members c h.0 r0 h.2 z.known z.d z.m K (peek z.d z.m z.more) z.more)
  members_on c (more t (more u us)) a ts0 r0 h k b ts K peek q =
      let z = plain_part look x.naming Alone t a.0 (member_plain t h.1.0).0 c ts0 h.0 h.1.1 k b ts (λ d m. says x.naming (line look · rows look false (more u us)) d m K) q in
      let i = skip_line x.naming (formats look) z.d z.m _ z.more in
      more_members c t (more u us) h.1.0 ts0 h.0 r0 b ts _ K z (members_on c (more u us) a.1 h.0 r0 h.2 z.known i.0 z.m K peek i.1)

  -- ---- what a class extends, and its body

  record Heritage_on (k : Tree) (c : Code) (r0 : Input) (ts : Input) (K : Spacing → Input → Type 0) : Type 0 where
    d : Spacing
    m : Input
    more : K d m
    known : Known r0.places
    again : kind m ≡ left_brace_kind → (u : Tree) × Maybe Heritage (unplaced c) (child u (λ y. Produces u y)) ts m × Redone (leaves_at look x.naming) Plain k u

  heritage_on : (k : Tree) → Sound look x.naming Alone k → (c : Code) (v : Bool) → is_absent k ≡ v → (ts0 r0 : Input) → By v (ts0 ≡ r0) (Heritage c (child k (λ y. Produces k y)) ts0 r0) → Known ts0.places → (b : Spacing) (ts : Input) (K : Spacing → Input → Type 0)
      → says x.naming (when (not v) (blank · word (codes "extends") · gap_or look (starts_with_word k) · laid look Alone k)) b ts K → Heritage_on k c r0 ts K
  heritage_on k f c true e ts0 r0 h l b ts K q = record { d = b; m = ts; more = q; known = subst (λ (i : Input). Known i.places) h l; again = λ i. (absent, refl, absent_same (leaves_at look x.naming) Plain k e) }
  heritage_on k f c false e ts0 r0 h l b ts K q =
      let y = expr look x.naming new_level Alone k f (omega arith) c h.0 r0 h.2 (x.later ts0 h.0 h.1.3 l) _ q.0 K (skip x.naming (starts_with_word k || formats look) Touching q.0 _ q.2) in record {
        d = y.d;
        m = y.m;
        more = y.more;
        known = y.known;
        again = λ i. let w = y.again (follow_by Alone k r0 y.m left_brace_kind i refl) in
            (w.tree, by_no (is_absent w.tree) _ _ (alike is_absent re_is_absent (leaves_at look x.naming) Plain k w.tree w.same ∙ e) (q.0, worded look x c extends_kind q.1, expr_low look x.naming new_level Alone k c q.0 y.m h.2.0 (omega arith) w), w.same);
      }

  record Class_tail (ms : Trees) (k : Tree) (c : Code) (r0 : Input) (ts : Input) (K : Spacing → Input → Type 0) : Type 0 where
    m : Input
    more : K Touching m
    known : Known r0.places
    us : Trees
    u : Tree
    produced : ClassTail (unplaced c) [] (children us) (child u (λ y. Produces u y)) ts m
    same_us : AllRedone (leaves_at look x.naming) Plain ms us
    same_u : Redone (leaves_at look x.naming) Plain k u

  class_tail_on : (t : Span) (ms : Trees) (k : Tree) → AllSound look x.naming ms → Sound look x.naming Alone k → (c : Code) (ts0 r0 : Input) → ClassTail c [] (children ms) (child k (λ y. Produces k y)) ts0 r0 → Known ts0.places → (b : Spacing) (ts : Input) (K : Spacing → Input → Type 0)
      → says x.naming (when (is_there k) (blank · word (codes "extends") · gap_or look (starts_with_word k) · laid look Alone k) · class_tail look t ms (rows look false ms)) b ts K → Class_tail ms k c r0 ts K
  class_tail_on t ms k a f c ts0 r0 h l b ts K q =
      let y = heritage_on k f c (is_absent k) refl ts0 h.0 h.3 l b ts (λ d m. says x.naming (class_tail look t ms (rows look false ms)) d m K)
      (subst (λ (v : Bool). says x.naming (when v (blank · word (codes "extends") · gap_or look (starts_with_word k) · laid look Alone k)) b ts (λ d m. says x.naming (class_tail look t ms (rows look false ms)) d m K)) (there k) q) in
      let o = skip x.naming (formats look) y.d y.m _ y.more in
      let i = y.again (marked look x left_brace_kind o.1) in
      by ms a h.5 (x.later h.0 h.1 h.4.2 y.known) y.m i o.0 (took look x c left_brace_kind o.1) o.2
    where
      by : (ms : Trees) → AllSound look x.naming ms → Members c (children ms) h.1 r0 → Known h.1.places → (m : Input) → (u : Tree) × Maybe Heritage (unplaced c) (child u (λ y. Produces u y)) ts m × Redone (leaves_at look x.naming) Plain k u → (n : Input) → Takes (unplaced c) left_brace_kind m n
          → says x.naming (indented_or_line look ms (rows look false ms) · last t · brace) Touching n K → Class_tail ms k c r0 ts K
      by none a g l m i n e p = let o = (skip_line x.naming (formats look) Touching n _ p).1 in record {
        m = o.0;
        more = o.2;
        known = x.later h.1 r0 g.2 l;
        us = none;
        u = i.0;
        produced = (m, n, tt, i.1, e, took look x c right_brace_kind o.1);
        same_us = none_same (leaves_at look x.naming);
        same_u = i.2;
      }
      by (more t ts') a g l m i n e p =
          let v = skip_line x.naming (formats look) Touching n _ p in
          let j = skip_deeper x.naming (formats look) v.0 n _ v.1 in
          let z = members_on c (more t ts') a h.1 r0 g l v.0 n _ (λ d m u. let v = skip_line x.naming (formats look) d m _ (skip_back x.naming (formats look) d m _ u) in marked look x right_brace_kind v.1.1) j in
          let o = (skip_line x.naming (formats look) z.d z.m _ (skip_back x.naming (formats look) z.d z.m _ z.more)).1 in let w = z.again o.0 (took look x c right_brace_kind o.1) in record {
            m = o.0;
            more = o.2;
            known = z.known;
            us = w.0;
            u = i.0;
            produced = (m, n, tt, i.1, e, w.1);
            same_us = w.2;
            same_u = i.2;
          }

  same_class : (of : Tree → Tree → Tree) {i j k u : Tree} {ms us : Trees} → i ≡ j → ms ≡ us → k ≡ u → of i (class no_place none ms k) ≡ of j (class no_place none us u)
  same_class of p q r = ap₂ (λ (t : Tree) (z : Trees × Tree). of t (class no_place none z.0 z.1)) p (ap₂ (λ (us : Trees) (u : Tree). (us, u)) q r)

  pub class_declaration : (s : Span) (i : Tree) (t : Span) (ds ms : Trees) (k : Tree) → AllSound look x.naming ms → Sound look x.naming Alone k → (st : Stand) → Sound look x.naming st (class_decl s i (class t ds ms k))
  class_declaration s i t (more d ds) ms k a f st c ts0 r0 h l b ts K q = absurd h.4.2
  class_declaration s i t none ms k a f st c ts0 r0 h l b ts K q =
      let p = subst (λ (v : Bool). says x.naming (when v (blank · laid look Alone i)) Touching q.0 (λ d m. says x.naming (when (is_there k) (blank · word (codes "extends") · gap_or look (starts_with_word k) · laid look Alone k) · class_tail look t ms (rows look false ms)) d m K)) (ident_there i h.3.0) q.2 in
      let z = id_on look x i (turned_strict c) h.0 h.1 h.3 (x.later ts0 h.0 h.2.3 l) Spaced q.0 (λ d m. says x.naming (when (is_there k) (blank · word (codes "extends") · gap_or look (starts_with_word k) · laid look Alone k) · class_tail look t ms (rows look false ms)) d m K) p in
      let v = class_tail_on t ms k a f (turned_strict (with_in c)) h.1 r0 h.4 z.known Touching z.m K z.more in record {
        d = Touching;
        m = v.m;
        more = v.more;
        known = v.known;
        broke = q.1.broke;
        tight = λ e. absurd (true≢false (sym e));
        begins = λ e. absurd (class_else (sym (keyed look x class_kind q.1) ∙ e));
        again = λ g. record {
          tree = class_decl (span (lo ts) v.m.last) z.again.0 (class (span (lo ts) v.m.last) none v.us v.u);
          produced = (q.0, z.m, worded look x c class_kind q.1, z.again.1, v.produced, refl, refl);
          directive = refl;
          quoted = λ p q. refl;
          same = record { so = λ n. same_class (λ (i c : Tree). class_decl no_place i c) (z.again.2.so Plain) (v.same_us.so Plain) (v.same_u.so Plain) };
        };
      }

  pub class_on : (s : Span) (i : Tree) (t : Span) (ds ms : Trees) (k : Tree) → AllSound look x.naming ms → Sound look x.naming Alone k → (st : Stand) → Sound look x.naming st (class_expr s i (class t ds ms k))
  class_on s i t (more d ds) ms k a f st c ts0 r0 h l b ts K q = absurd h.4.2
  class_on s i t none ms k a f st c ts0 r0 h l b ts K q =
      let z = maybe_on look x i (turned_strict c) (is_absent i) refl h.0 h.1 h.3 (x.later ts0 h.0 h.2.3 l) Touching q.0 (λ d m. says x.naming (when (is_there k) (blank · word (codes "extends") · gap_or look (starts_with_word k) · laid look Alone k) · class_tail look t ms (rows look false ms)) d m K)
      (subst (λ (v : Bool). says x.naming (when v (blank · laid look Alone i)) Touching q.0 (λ d m. says x.naming (when (is_there k) (blank · word (codes "extends") · gap_or look (starts_with_word k) · laid look Alone k) · class_tail look t ms (rows look false ms)) d m K)) (there i) q.2) in
      let v = class_tail_on t ms k a f (turned_strict (with_in c)) h.1 r0 h.4 z.known z.d z.m K z.more in record {
        d = Touching;
        m = v.m;
        more = v.more;
        known = v.known;
        broke = q.1.broke;
        tight = λ e. refl;
        begins = led ts0 r0 ts v.m class_kind h.2.0 (keyed look x class_kind q.1) refl;
        again = λ g. record {
          tree = class_expr (span (lo ts) v.m.last) z.again.0 (class (span (lo ts) v.m.last) none v.us v.u);
          produced = (q.0, z.m, worded look x c class_kind q.1, z.again.1, v.produced, refl, refl);
          directive = refl;
          quoted = λ p q. refl;
          same = record { so = λ n. same_class (λ (i c : Tree). class_expr no_place i c) (z.again.2.so Plain) (v.same_us.so Plain) (v.same_u.so Plain) };
        };
      }
