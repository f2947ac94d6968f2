-- What ends statements and fields (12.10), and parts that may be left out.
use Rattle.std.proofs.Common.{Bool, arith, codes, false, inl, inr, not, refl, subst, sym, true, true≢false, ℕ, ◌∙◌, ◌≡◌, ◌≤◌, ◌⊎◌}
use Rattle.base_token.specs.Kinds.{assign_kind, end_kind, function_kind, left_bracket_kind, right_brace_kind, semicolon_kind}
use Rattle.tree_spec.specs.Tree.{Tree, absent}
use Rattle.grammar_spec.specs.Tokens.Input.{Code, Input, Takes, kind, unplaced}
use Rattle.grammar_spec.specs.Tokens.Operators.{assignment_level}
use Rattle.grammar_spec.specs.Tokens.Shape.{is_absent, level}
use Rattle.grammar_spec.specs.Grammar.{Produces}
use Rattle.grammar_spec.specs.Children.{By, Ends, Expr, child}
use Rattle.grammar_laws.proofs.Covers.{by_no}
use Rattle.print_gaps.specs.Edges.{is_there}
use Rattle.print_layout_spec.specs.Layout.{laid}
use Rattle.print_layout_spec.specs.Looks.{formats, gap, text, when, ◌·◌}
use Rattle.print_layout_spec.specs.declared.look.Look.{Look}
use Rattle.print_layout_spec.specs.declared.look.Stand.TheVariants.{Alone}
use Rattle.again_laws.specs.Tokens.Spacings.{Spacing, Touching}
use Rattle.again_laws.specs.Tokens.Lexicon.{Lexicon}
use Rattle.again_laws.specs.Tokens.Means.{Known}
use Rattle.again_laws.specs.Tokens.Says.{SemicolonMayGo}
use Rattle.again_laws.specs.Tokens.Told.{says}
use Rattle.again_laws.specs.Derived.Redo.{Leaves, Mode, Plain, Redone}
use Rattle.again_laws.proofs.derived_rules.Naming.{leaves_at}
use Rattle.again_laws.proofs.derived_rules.Begins.{Begins, before}
use Rattle.again_laws.proofs.derived_rules.Follow.{calm, closed_calm, closes, no_item}
use Rattle.again_laws.proofs.derived_rules.Shapes.{alike, re_is_absent}
use Rattle.again_laws.proofs.derived_rules.Sound.{Sound, expr, expr_low}
use Rattle.again_laws.proofs.derived_rules.Tokens.{Semi, ended_kind, marked, skip, took}

pub above : (n l : ℕ) → 1 ≤ n → n ≤ l → 1 ≤ l
above n l h g = omega arith

-- ---- parts that may be left out

pub there : (t : Tree) → is_there t ≡ not (is_absent t)
there absent = refl
there _ = refl

pub absent_same : (l : Leaves) (m : Mode) (t : Tree) → is_absent t ≡ true → Redone l m t absent
absent_same l m absent e = record { so = λ n. refl }
absent_same l m _ e = absurd (true≢false (sym e))

assign_function : assign_kind ≡ function_kind → ⊥
assign_function e = omega arith

-- ---- where a semicolon stands or may go

-- Nothing goes on behind what ends there, and it begins no function and no brackets.
pub record Quiet (m : Input) : Type 0 where
  pub function : kind m ≡ function_kind → ⊥
  pub bracket : kind m ≡ left_bracket_kind → ⊥
  pub calm : calm m ≡ true

module _ (look : Look) (x : Lexicon look.style) where
  pub quiet_at : {b : Spacing} {ts : Input} {d : Spacing} {m : Input} → Semi x.naming b ts d m → Quiet ts
  quiet_at {ts = ts} s = by (ended_kind look x s)
    where
      at : (k : ℕ) → kind ts ≡ k → closes k ≡ true → (k ≡ function_kind → ⊥) → (k ≡ left_bracket_kind → ⊥) → Quiet ts
      at k e h f g = record { function = λ i. f (sym e ∙ i); bracket = λ i. g (sym e ∙ i); calm = closed_calm ts k e h }

      by : (kind ts ≡ semicolon_kind) ⊎ SemicolonMayGo ts → Quiet ts
      by (inl e) = at semicolon_kind e refl (λ i. omega arith) (λ i. omega arith)
      by (inr (inl e)) = at right_brace_kind e refl (λ i. omega arith) (λ i. omega arith)
      by (inr (inr e)) = at end_kind e refl (λ i. omega arith) (λ i. omega arith)

  pub ended_known : (c : Code) (e : ℕ) (m r : Input) → Ends c e m r → Known m.places → Known r.places
  ended_known c e m r (inl h) k = x.later m r h.2 k
  ended_known c e m r (inr h) k = subst (λ (i : Input). Known i.places) h.2 k

  -- ---- an initialiser, or none

  pub record Initialised (e : Tree) (c o : Code) (m0 r0 : Input) (b : Spacing) (ts : Input) (K : Spacing → Input → Type 0) : Type 0 where
    pub d : Spacing
    pub m : Input
    pub more : K d m
    pub known : Known r0.places
    pub calms : calm m ≡ true → calm ts ≡ true
    -- where what stands before begins as it did, so does the whole
    pub begins : (n0 n : Input) → Begins false n0 m0 n ts → Begins false n0 r0 n m
    pub again : calm m ≡ true → (u : Tree) × By (is_absent u) (ts ≡ m) ((n : Input) × Takes (unplaced c) assign_kind ts n × Expr assignment_level (unplaced o) (child u (λ y. Produces u y)) n m) × Redone (leaves_at look x.naming) Plain e u

  pub initial_on : (e : Tree) → Sound look x.naming Alone e → (c o : Code) (v : Bool) → is_absent e ≡ v → (m0 r0 : Input) → By v (m0 ≡ r0) ((n : Input) × Takes c assign_kind m0 n × Expr assignment_level o (child e (λ y. Produces e y)) n r0) → Known m0.places → (b : Spacing) (ts : Input) (K : Spacing → Input → Type 0)
      → says x.naming (when (not v) (gap look · text (codes "=") · gap look · laid look Alone e)) b ts K → Initialised e c o m0 r0 b ts K
  initial_on e f c o true a m0 r0 h k b ts K q = record {
    d = b;
    m = ts;
    more = q;
    known = subst (λ (i : Input). Known i.places) h k;
    calms = λ g. g;
    begins = λ n0 n g. subst (λ (i : Input). Begins false n0 i n ts) h g;
    again = λ g. (absent, refl, absent_same (leaves_at look x.naming) Plain e a);
  }
  initial_on e f c o false a m0 r0 h k b ts K q =
      let i = skip x.naming (formats look) b ts _ q in
      let j = skip x.naming (formats look) Touching i.0 _ i.2 in
      let y = expr look x.naming assignment_level Alone e f (omega arith) o h.0 r0 h.2 (x.later m0 h.0 h.1.2 k) _ i.0 K j in record {
        d = y.d;
        m = y.m;
        more = y.more;
        known = y.known;
        calms = λ g. closed_calm ts assign_kind (marked look x assign_kind i.1) refl;
        begins = λ n0 n g. before n0 m0 n ts r0 y.m (λ e. e) g (marked look x assign_kind i.1 ∙ sym h.1.0) (λ e. assign_function (sym (marked look x assign_kind i.1) ∙ e));
        again = λ g. let w = y.again (record { quiet = λ z. g; other = λ z. absurd (no_item e (above assignment_level (level e) (omega arith) h.2.0) z) }) in
            (w.tree, by_no (is_absent w.tree) _ _ (alike is_absent re_is_absent (leaves_at look x.naming) Plain e w.tree w.same ∙ a) (i.0, took look x c assign_kind i.1, expr_low look x.naming assignment_level Alone e o i.0 y.m h.2.0 (omega arith) w), w.same);
      }
