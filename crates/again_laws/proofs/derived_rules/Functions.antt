-- Parameters and functions derived again (15.1, 15.2, 15.5, 15.6, 15.8).
use Rattle.std.proofs.Common.{Bool, [], ap, ap₂, codes, false, if◌then◌else◌, inr, refl, subst, sym, true, true≢false, ℕ, ◌+◌, ◌-◌, ◌∙◌, ◌≡◌}
use Rattle.base_token.specs.Kinds.{async_kind, function_kind, left_paren_kind, mul_kind, right_paren_kind}
use Rattle.base_token.specs.declared.place.Span.{Span}
use Rattle.tree_spec.specs.Places.{no_place}
use Rattle.tree_spec.specs.Tree.{Tree, Trees, block_stmt, fn_decl, fn_expr, function, more, none, param}
use Rattle.grammar_spec.specs.Tokens.Input.{Code, Input, binding, brk, in_body, by as in_code, kind, lo, setting, span, unplaced, with_in}
use Rattle.grammar_spec.specs.Tokens.Shape.{count_of, is_absent, is_item_pat, is_param, is_rest}
use Rattle.grammar_spec.specs.Functions.{Function, FunctionHead, Parameters, SetParameter, Star}
use Rattle.grammar_spec.specs.Grammar.{children}
use Rattle.grammar_spec.specs.Children.{By, Sorted, is_module_item}
use Rattle.print_gaps.specs.Edges.{is_there}
use Rattle.print_layout_spec.specs.Layout.{comma, function_tail, in_parens, laid, marked_as_body, separated, word}
use Rattle.print_layout_spec.specs.Looks.{Laid, blank, formats, gap, text, when, ◌·◌}
use Rattle.print_layout_spec.specs.declared.look.Look.{Look}
use Rattle.print_layout_spec.specs.declared.look.Stand.{Stand}
use Rattle.print_layout_spec.specs.declared.look.Stand.TheVariants.{Alone, Body as BodyState}
use Rattle.again_laws.specs.Tokens.Spacings.{Spacing, Touching, blanked}
use Rattle.again_laws.specs.Tokens.Lexicon.{Lexicon}
use Rattle.again_laws.specs.Tokens.Means.{Known}
use Rattle.again_laws.specs.Tokens.Told.{Breaks, says}
use Rattle.again_laws.specs.Derived.Redo.{AllRedone, Leaves, Mode, Plain, redo, redos, kept_at}
use Rattle.again_laws.proofs.derived_rules.Naming.{leaves_at}
use Rattle.again_laws.proofs.derived_rules.Begins.{Begins, first_token, is_loose, is_part, is_weak, led, no_else, same_start}
use Rattle.again_laws.proofs.derived_rules.Bodies.{braced}
use Rattle.again_laws.proofs.derived_rules.Ends.{there}
use Rattle.again_laws.proofs.derived_rules.Follow.{closed_calm}
use Rattle.again_laws.proofs.derived_rules.Lists.{comma_on, listed, more_same, none_same, sorted}
use Rattle.again_laws.proofs.derived_rules.Names.{id_on, maybe_on}
use Rattle.again_laws.proofs.derived_rules.Shapes.{alike, re_is_item_pat, re_is_rest}
use Rattle.again_laws.proofs.derived_rules.Sound.{AllSound, Sound, plain_part}
use Rattle.again_laws.proofs.derived_rules.Tokens.{behind_word, keyed, marked, skip, skip_mark, took, worded}
use Rattle.again_laws.proofs.derived_rules.Patterns.{item_plain}

param_plain : (t : Tree) → is_param t ≡ true → (is_part t ≡ true) × (is_module_item t ≡ false)
param_plain (param s ds p) h = (refl, refl)
param_plain _ h = absurd (true≢false (sym h))

re_is_param : (l : Leaves) (m : Mode) (t : Tree) → is_param (redo l m t) ≡ is_param t
re_is_param l m (param s ds p) = refl
re_is_param l m _ = refl

re_count : (l : Leaves) (m : Mode) (ts : Trees) → count_of (redos l m ts) ≡ count_of ts
re_count l m none = refl
re_count l m (more t ts) = ap (λ (n : ℕ). n + 1) (re_count l m ts)

pub count_same : (l : Leaves) (m : Mode) (ts us : Trees) → AllRedone l m ts us → count_of us ≡ count_of ts
count_same l m ts us s = sym (re_count (kept_at l.written) Plain us) ∙ (ap count_of (s.so Plain) ∙ re_count l m ts)

-- two trees of a function, by their parts
pub same_functions : (of : Tree → Tree → Tree) {i j : Tree} {ps us ss vs : Trees} (g a : Bool) → i ≡ j → ps ≡ us → ss ≡ vs → of i (function no_place ps none (block_stmt no_place ss) g a) ≡ of j (function no_place us none (block_stmt no_place vs) g a)
same_functions of g a p q r = ap₂ (λ (t : Tree) (us : Trees × Trees). of t (function no_place us.0 none (block_stmt no_place us.1) g a)) p (ap₂ (λ (us vs : Trees). (us, vs)) q r)

module _ (look : Look) (x : Lexicon look.style) where
  pub param_on : (s : Span) (ds : Trees) (p : Tree) → Sound look x.naming Alone p → (st : Stand) → Sound look x.naming st (param s ds p)
  param_on s (more d ds) p f st c ts0 r0 h k b ts K q = absurd h.0
  param_on s none p f st c ts0 r0 h k b ts K q =
      let i = item_plain true p h.1 in
      let z = plain_part look x.naming Alone p f i.0 (binding (with_in c)) ts0 r0 h.2 k b ts K q in record {
        d = z.d;
        m = z.m;
        more = z.more;
        known = z.known;
        broke = z.broke;
        tight = λ e. absurd (true≢false (sym e));
        begins = first_token (is_weak p) (is_loose p) ts0 r0 ts z.m z.begins;
        again = λ g. let w = z.again (record { quiet = λ e. g.quiet refl; other = λ j. absurd (true≢false (sym j ∙ i.1)) }) in record {
          tree = param (span (lo ts) z.m.last) none w.tree;
          produced = (tt, alike (is_item_pat true) (re_is_item_pat true) (leaves_at look x.naming) Plain p w.tree w.same ∙ h.1, w.produced, refl);
          directive = refl;
          quoted = λ p q. refl;
          same = record { so = λ n. ap (λ (t : Tree). param no_place none t) (w.same.so Plain) };
        };
      }

  -- ---- parameters (15.1), and those of a setter (15.4)

  pub record Listed_parameters (ps : Trees) (d : Code) (r0 : Input) (ts : Input) (K : Spacing → Input → Type 0) : Type 0 where
    pub m : Input
    pub more : K Touching m
    pub known : Known r0.places
    pub us : Trees
    pub produced : Parameters (unplaced d) (children us) ts m
    pub same : AllRedone (leaves_at look x.naming) Plain ps us

  pub parameters_on : (ps : Trees) → AllSound look x.naming ps → (d : Code) (ts0 r0 : Input) → Parameters d (children ps) ts0 r0 → Known ts0.places → (b : Spacing) (ts : Input) (K : Spacing → Input → Type 0) → says x.naming (in_parens (separated look (comma look) ps)) b ts K → Listed_parameters ps d r0 ts K
  parameters_on ps f d ts0 r0 h k b ts K q =
      let z = listed look x (Sorted is_param d) (Sorted is_param (unplaced d)) (sorted look x is_param re_is_param param_plain d) d right_paren_kind refl (comma look) (comma_on look x) ps f h.0 r0 h.2 (x.later ts0 h.0 h.1.2 k) Touching q.0 _ (λ d m o. marked look x right_paren_kind o.1) q.2 in
      let o = z.more in let w = z.again o.0 (took look x d right_paren_kind o.1) in record {
        m = o.0;
        more = o.2;
        known = z.known;
        us = w.0;
        produced = (q.0, took look x d left_paren_kind q.1, w.1);
        same = w.2;
      }

  pub record Set_parameter (ps : Trees) (d : Code) (r0 : Input) (ts : Input) (K : Spacing → Input → Type 0) : Type 0 where
    pub m : Input
    pub more : K Touching m
    pub known : Known r0.places
    pub us : Trees
    pub produced : SetParameter (unplaced d) (children us) ts m
    pub same : AllRedone (leaves_at look x.naming) Plain ps us

  pub set_parameter_on : (ps : Trees) → AllSound look x.naming ps → (d : Code) (ts0 r0 : Input) → SetParameter d (children ps) ts0 r0 → Known ts0.places → (b : Spacing) (ts : Input) (K : Spacing → Input → Type 0) → says x.naming (in_parens (separated look (comma look) ps)) b ts K → Set_parameter ps d r0 ts K
  set_parameter_on none f d ts0 r0 h k b ts K q = absurd h
  set_parameter_on (more p (more r rs)) f d ts0 r0 h k b ts K q = absurd h.2
  set_parameter_on (more p none) f d ts0 r0 h k b ts K q =
      let z = sorted look x is_param re_is_param param_plain d p f.0 h.0 h.1 h.5 (x.later ts0 h.0 h.4.2 k) Touching q.0 _ q.2 in
      let o = z.more in let w = z.again (closed_calm z.m right_paren_kind (marked look x right_paren_kind o.1) refl) in record {
        m = o.0;
        more = o.2;
        known = x.later h.1 r0 h.6.2 z.known;
        us = more w.0 none;
        produced = (q.0, z.m, tt, alike is_rest re_is_rest (leaves_at look x.naming) Plain p w.0 w.2 ∙ h.3, took look x d left_paren_kind q.1, w.1, took look x d right_paren_kind o.1);
        same = more_same (leaves_at look x.naming) Plain p w.0 none none w.2 (none_same (leaves_at look x.naming));
      }

  -- ---- parameters and a body

  pub record Tail (ps : Trees) (ss : Trees) (g a : Bool) (c : Code) (r0 : Input) (ts : Input) (K : Spacing → Input → Type 0) : Type 0 where
    pub m : Input
    pub more : K Touching m
    pub known : Known r0.places
    pub us : Trees
    pub v : Span
    pub vs : Trees
    pub produced : Function (unplaced c) (children us) [] v (children vs) g a ts m
    pub same_us : AllRedone (leaves_at look x.naming) Plain ps us
    pub same_vs : AllRedone (leaves_at look x.naming) Plain ss vs

  pub tail_on : (body : Stand) (ps : Trees) (p : Span) (ss : Trees) (g a : Bool) → AllSound look x.naming ps → AllSound look x.naming ss → (c : Code) (ts0 r0 : Input) → Function c (children ps) [] p (children ss) g a ts0 r0
      → Known ts0.places → (b : Spacing) (ts : Input) (K : Spacing → Input → Type 0) → says x.naming (function_tail look (separated look (comma look) ps) (laid look body (block_stmt p ss))) b ts K → Tail ps ss g a c r0 ts K
  tail_on body ps p ss g a f j c ts0 r0 h k b ts K q = by c.sets refl h.2
    where
      by : (v : Bool) → c.sets ≡ v → By v (SetParameter (in_body g a c) (children ps) ts0 h.0) (Parameters (in_body g a c) (children ps) ts0 h.0) → Tail ps ss g a c r0 ts K
      by true e i =
          let z = set_parameter_on ps f (in_body g a c) ts0 h.0 i k b ts (λ d m. says x.naming (gap look · laid look body (block_stmt p ss)) d m K) q in
          let y = braced look x (in_body g a c) true ss j h.0 h.3.0 r0 h.3.1 h.3.2 z.known _ z.m K (record { lo = record { 0 = p.hi.0 - 1 }; hi = p.hi }) (skip_mark x.naming (marked_as_body body) p.lo _ _ _ (skip x.naming (formats look) Touching z.m _ z.more)) in record {
            m = y.m;
            more = y.more;
            known = y.known;
            us = z.us;
            v = span (lo z.m) y.m.last;
            vs = y.again.0;
            produced = (z.m, tt, subst (λ (w : Bool). By w (SetParameter (unplaced (in_body g a c)) (children z.us) ts z.m) (Parameters (unplaced (in_body g a c)) (children z.us) ts z.m)) (sym e) z.produced, (y.again.1, y.again.2, y.again.3, refl));
            same_us = z.same;
            same_vs = y.again.4;
          }
      by false e i =
          let z = parameters_on ps f (in_body g a c) ts0 h.0 i k b ts (λ d m. says x.naming (gap look · laid look body (block_stmt p ss)) d m K) q in
          let y = braced look x (in_body g a c) true ss j h.0 h.3.0 r0 h.3.1 h.3.2 z.known _ z.m K (record { lo = record { 0 = p.hi.0 - 1 }; hi = p.hi }) (skip_mark x.naming (marked_as_body body) p.lo _ _ _ (skip x.naming (formats look) Touching z.m _ z.more)) in record {
            m = y.m;
            more = y.more;
            known = y.known;
            us = z.us;
            v = span (lo z.m) y.m.last;
            vs = y.again.0;
            produced = (z.m, tt, subst (λ (w : Bool). By w (SetParameter (unplaced (in_body g a c)) (children z.us) ts z.m) (Parameters (unplaced (in_body g a c)) (children z.us) ts z.m)) (sym e) z.produced, (y.again.1, y.again.2, y.again.3, refl));
            same_us = z.same;
            same_vs = y.again.4;
          }

  -- ---- heads

  record Function_head (g a : Bool) (c : Code) (ts0 r0 : Input) (b : Spacing) (ts : Input) (K : Spacing → Input → Type 0) : Type 0 where
    d : Spacing
    m : Input
    more : K d m
    known : Known r0.places
    broke : Breaks x.naming b ts
    begins : (r r' : Input) → Begins false ts0 r ts r'
    again : FunctionHead g a (unplaced c) ts m

  -- what says the star of a generator, or nothing
  abbrev IsStar : Bool → Laid → Type 1
  IsStar g f = (c : Code) (b : Spacing) (ts : Input) (K : Spacing → Input → Type 0) → says x.naming f b ts K → (m : Input) × Star g (unplaced c) ts m × ((d : Spacing) × K d m)

  plain_star : (g : Bool) → IsStar g (when g (text (codes "*")))
  plain_star true c b ts K q = (q.0, took look x c mul_kind q.1, (Touching, q.2))
  plain_star false c b ts K q = (ts, refl, (b, q))

  spaced_star : (g : Bool) → IsStar g (if g then text (codes "*") · gap look else blank)
  spaced_star true c b ts K q = (q.0, took look x c mul_kind q.1, (_, skip x.naming (formats look) Touching q.0 K q.2))
  spaced_star false c b ts K q = (ts, refl, (blanked b, q))

  star_known : (g : Bool) (c : Code) (m r : Input) → Star g c m r → Known m.places → Known r.places
  star_known true c m r h l = x.later m r h.2 l
  star_known false c m r h l = subst (λ (i : Input). Known i.places) h l

  head_on : (g a : Bool) (f : Laid) → IsStar g f → (c : Code) (ts0 r0 : Input) → FunctionHead g a c ts0 r0 → Known ts0.places → (b : Spacing) (ts : Input) (K : Spacing → Input → Type 0) → says x.naming (when a (word (codes "async") · blank) · word (codes "function") · f) b ts K → Function_head g a c ts0 r0 b ts K
  head_on g false f j c ts0 r0 h k b ts K q =
      let z = j c _ q.0 K q.2 in let n = keyed look x function_kind q.1 in record {
        d = z.2.0;
        m = z.0;
        more = z.2.1;
        known = star_known g c h.1 r0 h.4 (x.later h.0 h.1 h.3.3 (subst (λ (i : Input). Known i.places) h.2 k));
        broke = q.1.broke;
        begins = λ r r'. led ts0 r ts r' function_kind (ap kind h.2 ∙ h.3.0) n refl;
        again = (ts, q.0, refl, worded look x c function_kind q.1, z.1);
      }
  head_on g true f j c ts0 r0 h k b ts K q =
      let i = q.2 in
      let z = j c _ i.0 K i.2 in let n = keyed look x function_kind i.1 in record {
        d = z.2.0;
        m = z.0;
        more = z.2.1;
        known = star_known g c h.1 r0 h.4 (x.later h.0 h.1 h.3.3 (x.later ts0 h.0 h.2.0.3 k));
        broke = q.1.broke;
        begins = λ r r'. same_start (keyed look x async_kind q.1 ∙ sym h.2.0.0) (λ e. inr (ap kind q.1.after ∙ (n ∙ sym (ap kind h.2.0.3 ∙ h.3.0)), λ e. ap brk h.2.0.3 ∙ h.2.1));
        again = (q.0, i.0, (worded look x c async_kind q.1, behind_word look x async_kind refl q.1 i.1.broke), worded look x c function_kind i.1, z.1);
      }

  pub declaration_on : (s : Span) (i : Tree) (t : Span) (ps ds : Trees) (p : Span) (ss : Trees) (g a : Bool) → AllSound look x.naming ps → AllSound look x.naming ss → (st : Stand) → Sound look x.naming st (fn_decl s i (function t ps ds (block_stmt p ss) g a))
  declaration_on s i t ps (more d ds) p ss g a f j st c ts0 r0 h k b ts K q = absurd h.4.1
  declaration_on s i t ps none p ss g a f j st c ts0 r0 h k b ts K q =
      let y = head_on g a (if g then text (codes "*") · gap look else blank) (spaced_star g) c ts0 h.0 h.2 k b ts (λ d m. says x.naming (laid look Alone i · function_tail look (separated look (comma look) ps) (laid look BodyState (block_stmt p ss))) d m K) q in
      let z = id_on look x i c h.0 h.1 h.3 y.known y.d y.m (λ d m. says x.naming (function_tail look (separated look (comma look) ps) (laid look BodyState (block_stmt p ss))) d m K) y.more in
      let w = z.again in
      let v = tail_on BodyState ps p ss g a f j (setting false c) h.1 r0 h.4 z.known Touching z.m K z.more in record {
        d = Touching;
        m = v.m;
        more = v.more;
        known = v.known;
        broke = y.broke;
        tight = λ e. absurd (true≢false (sym e));
        begins = no_else ts0 r0 ts v.m (y.begins r0 v.m);
        again = λ l. record {
          tree = fn_decl (span (lo ts) v.m.last) w.0 (function (span (lo ts) v.m.last) v.us none (block_stmt v.v v.vs) g a);
          produced = (y.m, z.m, y.again, w.1, v.produced, refl, refl);
          directive = refl;
          quoted = λ p q. refl;
          same = record { so = λ n. same_functions (λ (i f : Tree). fn_decl no_place i f) g a (w.2.so Plain) (v.same_us.so Plain) (v.same_vs.so Plain) };
        };
      }

  -- a name that may be left out
  pub function_on : (s : Span) (i : Tree) (t : Span) (ps ds : Trees) (p : Span) (ss : Trees) (g a : Bool) → AllSound look x.naming ps → AllSound look x.naming ss → (st : Stand) → Sound look x.naming st (fn_expr s i (function t ps ds (block_stmt p ss) g a))
  function_on s i t ps (more d ds) p ss g a f j st c ts0 r0 h k b ts K q = absurd h.4.1
  function_on s i t ps none p ss g a f j st c ts0 r0 h k b ts K q =
      let y = head_on g a (when g (text (codes "*"))) (plain_star g) c ts0 h.0 h.2 k b ts (λ d m. says x.naming (when (is_there i) (blank · laid look Alone i) · function_tail look (separated look (comma look) ps) (laid look BodyState (block_stmt p ss))) d m K) q in
      let z = maybe_on look x i (in_code g a c) (is_absent i) refl h.0 h.1 h.3 y.known y.d y.m (λ d m. says x.naming (function_tail look (separated look (comma look) ps) (laid look BodyState (block_stmt p ss))) d m K)
      (subst (λ (v : Bool). says x.naming (when v (blank · laid look Alone i)) y.d y.m (λ d m. says x.naming (function_tail look (separated look (comma look) ps) (laid look BodyState (block_stmt p ss))) d m K)) (there i) y.more) in
      let w = z.again in
      let v = tail_on BodyState ps p ss g a f j (setting false c) h.1 r0 h.4 z.known z.d z.m K z.more in record {
        d = Touching;
        m = v.m;
        more = v.more;
        known = v.known;
        broke = y.broke;
        tight = λ e. refl;
        begins = y.begins r0 v.m;
        again = λ l. record {
          tree = fn_expr (span (lo ts) v.m.last) w.0 (function (span (lo ts) v.m.last) v.us none (block_stmt v.v v.vs) g a);
          produced = (y.m, z.m, y.again, w.1, v.produced, refl, refl);
          directive = refl;
          quoted = λ p q. refl;
          same = record { so = λ n. same_functions (λ (i f : Tree). fn_expr no_place i f) g a (w.2.so Plain) (v.same_us.so Plain) (v.same_vs.so Plain) };
        };
      }
