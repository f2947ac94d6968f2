-- Operators with two operands derived again (13.6 to 13.13).
use Rattle.std.proofs.Common.{Bool, ap₂, arith, cond, false, inl, inr, leb, not, refl, subst, sym, true, true≢false, ℕ, ⊎_elim, ◌&&◌, ◌==◌, ◌||◌, ◌∙◌, ◌≡◌, ◌≤◌, ◌⊎◌}
use Rattle.std.proofs.lemmas.Bool.{cases_Bool, eq-eqb, eqb-true, le-leb, leb-true, lt-leb, or_cases, or_left, or_right}
use Rattle.base_token.specs.Kinds.{back_quote_kind, dot_kind, else_kind, exp_kind, function_kind, in_kind, left_bracket_kind, left_paren_kind, nullish_coalescing_kind, question_mark_kind}
use Rattle.base_token.specs.declared.place.Span.{Span}
use Rattle.tree_spec.specs.Places.{no_place}
use Rattle.tree_spec.specs.Tree.{Tree, bin_expr, private_name}
use Rattle.grammar_spec.specs.Tokens.Input.{assigning, escaped, kind, lo, span}
use Rattle.grammar_spec.specs.Tokens.Operators.{binary_level, right_level}
use Rattle.grammar_spec.specs.Tokens.Shape.{fits_left, is_private, level}
use Rattle.grammar_laws.proofs.complete_base.Levels.{binary_low, fits, not_binary, operated, right_five, right_most}
use Rattle.print_gaps.specs.Edges.{gap_after, gap_before}
use Rattle.print_layout_spec.specs.Layout.{is_head as is_head_stand, marked_as_operand}
use Rattle.print_layout_spec.specs.Looks.{formats}
use Rattle.print_layout_spec.specs.declared.look.Look.{Look}
use Rattle.print_layout_spec.specs.declared.look.Stand.{Stand}
use Rattle.print_layout_spec.specs.declared.look.Stand.TheVariants.{Alone, Operand}
use Rattle.again_laws.specs.Tokens.Lexicon.{Lexicon}
use Rattle.again_laws.specs.Derived.Redo.{Plain}
use Rattle.again_laws.proofs.derived_rules.Naming.{leaves_at}
use Rattle.again_laws.proofs.derived_rules.Begins.{before, begun, is_loose, is_part, is_weak, level_part, strong}
use Rattle.again_laws.proofs.derived_rules.Ends.{above}
use Rattle.again_laws.proofs.derived_rules.Follow.{closes, follow_by, follow_on}
use Rattle.again_laws.proofs.derived_rules.Levels.{level_below, level_low}
use Rattle.again_laws.proofs.derived_rules.Shapes.{alike, re_is_private}
use Rattle.again_laws.proofs.derived_rules.Sound.{Sound, expr, expr_low, plain_part, tight_of}
use Rattle.again_laws.proofs.derived_rules.Tokens.{skip, skip_mark, unbarred}

-- the kinds of operators with two operands go on with no callee
binary_closes : (k : ℕ) → 1 ≤ binary_level k → closes k ≡ true
binary_closes k h = rw (not_binary k left_paren_kind h refl, not_binary k left_bracket_kind h refl, not_binary k dot_kind h refl, not_binary k back_quote_kind h refl, not_binary k question_mark_kind h refl, not_binary k else_kind h refl)

right_some : (op : ℕ) → 1 ≤ binary_level op → 1 ≤ right_level op
right_some op h = omega (arith, right_five op h)

right_fits : (op : ℕ) → right_level op ≤ 18
right_fits op = omega (arith, right_most op)

no_function : (op : ℕ) → 1 ≤ binary_level op → op ≡ function_kind → ⊥
no_function op h e = let z : 1 ≤ binary_level function_kind = subst (λ (k : ℕ). 1 ≤ binary_level k) e h in omega arith

low_calm : (st : Stand) (op : ℕ) → (not false && not (leb 18 (binary_level op) && is_head_stand st)) ≡ true
low_calm st op = subst (λ (v : Bool). not (v && is_head_stand st) ≡ true) (sym (lt-leb 18 (binary_level op) (omega (arith, binary_low op)))) refl

left_plain : (op : ℕ) (a : Tree) → 1 ≤ binary_level op → fits_left op a ≡ true → is_part a ≡ true
left_plain op a o h = ⊎_elim (λ (p : is_private a ≡ true). private_plain a p) (λ (p : is_private a ≡ false). level_part a (omega (arith, o, (fits op a p o h).0))) (cases_Bool (is_private a))
  where
    private_plain : (a : Tree) → is_private a ≡ true → is_part a ≡ true
    private_plain (private_name s n) p = refl
    private_plain _ p = absurd (true≢false (sym p))

left_strong : (op : ℕ) (a : Tree) → 1 ≤ binary_level op → fits_left op a ≡ true → is_weak a ≡ false
left_strong op a o h = ⊎_elim (λ (p : is_private a ≡ true). private_strong a p) (λ (p : is_private a ≡ false). strong a (omega (arith, o, (fits op a p o h).0))) (cases_Bool (is_private a))
  where
    private_strong : (a : Tree) → is_private a ≡ true → is_weak a ≡ false
    private_strong (private_name s n) p = refl
    private_strong _ p = absurd (true≢false (sym p))

fits_by : (op : ℕ) (p : Bool) (l n : ℕ) → ((k : ℕ) → k ≤ l → k ≤ 18 → k ≤ n) → (l ≤ 17 → n ≡ l)
    → cond p (op == in_kind) (cond (op == exp_kind) (leb 17 l) (cond (op == nullish_coalescing_kind) ((l == 4) || leb 7 l) (leb (binary_level op) l))) ≡ true
    → cond p (op == in_kind) (cond (op == exp_kind) (leb 17 n) (cond (op == nullish_coalescing_kind) ((n == 4) || leb 7 n) (leb (binary_level op) n))) ≡ true
fits_by op true l n f g h = h
fits_by op false l n f g h = by (op == exp_kind) (op == nullish_coalescing_kind) h
  where
    over : (k : ℕ) → k ≤ 18 → leb k l ≡ true → leb k n ≡ true
    over k e q = le-leb k n (f k (leb-true k l q) e)

    joined : (l == 4 ≡ true) ⊎ (leb 7 l ≡ true) → ((n == 4) || leb 7 n) ≡ true
    joined (inl q) = let z : l ≡ 4 = eqb-true l 4 q in or_left (n == 4) (leb 7 n) (eq-eqb n 4 (g (omega arith) ∙ z))
    joined (inr q) = or_right (n == 4) (leb 7 n) (over 7 (omega arith) q)

    by : (u v : Bool) → cond u (leb 17 l) (cond v ((l == 4) || leb 7 l) (leb (binary_level op) l)) ≡ true → cond u (leb 17 n) (cond v ((n == 4) || leb 7 n) (leb (binary_level op) n)) ≡ true
    by true v q = over 17 (omega arith) q
    by false true q = joined (or_cases (l == 4) (leb 7 l) q)
    by false false q = over (binary_level op) (omega (arith, binary_low op)) q

fits_again : (op : ℕ) (a u : Tree) → is_private u ≡ is_private a → ((k : ℕ) → k ≤ level a → k ≤ 18 → k ≤ level u) → (level a ≤ 17 → level u ≡ level a) → fits_left op a ≡ true → fits_left op u ≡ true
fits_again op a u e f g h = subst (λ (p : Bool). cond p (op == in_kind) (cond (op == exp_kind) (leb 17 (level u)) (cond (op == nullish_coalescing_kind) ((level u == 4) || leb 7 (level u)) (leb (binary_level op) (level u)))) ≡ true) (sym e)
    (fits_by op (is_private a) (level a) (level u) f g h)

module _ (look : Look) (x : Lexicon look.style) where
  pub binary_on : (s : Span) (op : ℕ) (a b : Tree) → Sound look x.naming Operand a → Sound look x.naming Alone b → (st : Stand) → Sound look x.naming st (bin_expr s op a b)
  binary_on s op a b f g st c ts0 r0 h k br ts K q =
      let o = operated c op h.2 in
      let i = skip_mark x.naming (marked_as_operand st) s.lo _ _ _ q in
      let y = plain_part look x.naming Operand a f (left_plain op a o h.3) (assigning c) ts0 h.0 h.4 k br ts _ i in
      let j = skip x.naming (gap_before op a || formats look) _ _ _ y.more in
      let p = x.operators op _ _ _ j.1.means in
      let z = expr look x.naming (right_level op) Alone b g (right_some op o) c h.1 r0 h.6 (x.later h.0 h.1 h.5.3 y.known) _ j.0 K (skip x.naming (gap_after op b || formats look) _ _ _ j.2) in record {
        d = z.d;
        m = z.m;
        more = z.more;
        known = z.known;
        broke = y.broke;
        tight = λ e. z.tight (tight_of b (above (right_level op) (level b) (right_some op o) h.6.0));
        begins = before ts0 h.0 ts y.m r0 z.m (λ e. refl) (begun (is_weak a) (is_loose a) ts0 h.0 ts y.m (left_strong op a o h.3) y.begins) (p.0 ∙ sym h.5.0) (λ e. no_function op o (sym p.0 ∙ e));
        again = λ l. let u = y.again (follow_by Operand a h.0 y.m op p.0 (binary_closes op o)) in let w = z.again (follow_on st (bin_expr s op a b) Alone b r0 r0 z.m (low_calm st op) (above (right_level op) (level b) (right_some op o) h.6.0) l) in record {
          tree = bin_expr (span (lo ts) z.m.last) op u.tree w.tree;
          produced = (
            y.m,
            j.0,
            h.2,
            fits_again op a u.tree (alike is_private re_is_private (leaves_at look x.naming) Plain a u.tree u.same) (level_low (leaves_at look x.naming) Plain a u.tree u.same) (level_below (leaves_at look x.naming) Plain a u.tree u.same) h.3,
            u.produced,
            (p.0, unbarred c.context (escaped y.m) (kind y.m) p.1, tt, j.1.after),
            expr_low look x.naming (right_level op) Alone b c j.0 z.m h.6.0 (right_fits op) w,
            refl,
          );
          directive = refl;
          quoted = λ p q. refl;
          same = record { so = λ n. ap₂ (λ (t v : Tree). bin_expr no_place op t v) (u.same.so Plain) (w.same.so Plain) };
        };
      }
