-- `while` and `do` derived again, and `for` with two semicolons (14.7.2 to 14.7.4).
use Rattle.std.proofs.Common.{Bool, ap, ap₂, arith, codes, false, inl, inr, nat_le, not, refl, subst, sym, true, true≢false, ℕ, ◌&&◌, ◌==◌, ◌||◌, ◌∙◌, ◌≡◌, ◌⊎◌}
use Rattle.std.proofs.lemmas.Bool.{ne_eqb, or_left, eqb-false}
use Rattle.base_token.specs.Kinds.{async_kind, class_kind, do_kind, else_kind, for_kind, function_kind, left_brace_kind, left_bracket_kind, left_paren_kind, let_kind, right_paren_kind, semicolon_kind, while_kind}
use Rattle.base_token.specs.declared.place.Span.{Span}
use Rattle.lex_token.specs.declared.goal.LexicalGoal.TheVariants.{Div}
use Rattle.tree_spec.specs.Places.{no_place}
use Rattle.tree_spec.specs.Tree.{Tree, Trees, absent, do_while_stmt, for_stmt, using_decl, var_decl, while_stmt}
use Rattle.grammar_spec.specs.Tokens.Input.{Code, Input, Takes, alone, assigning, brk2, kind, kind2, lo, rest, span, unplaced, without_in}
use Rattle.grammar_spec.specs.Tokens.Operators.{expression_level, plain_end}
use Rattle.grammar_spec.specs.Tokens.Shape.{is_absent, is_statement, level}
use Rattle.grammar_spec.specs.Grammar.{Produces}
use Rattle.grammar_spec.specs.Children.{By, Ends, Expr, child}
use Rattle.grammar_spec.specs.Statements.{Clause, ForExpression, ForRest, Sub, starts_head}
use Rattle.grammar_laws.proofs.Covers.{by_no}
use Rattle.print_gaps.specs.Edges.{is_there, starts_with_word}
use Rattle.print_layout_spec.specs.Layout.{closing, in_parens, is_variables, laid, word}
use Rattle.print_layout_spec.specs.Looks.{Laid, formats, gap, nothing, semi, semi_kept, text, when, ◌·◌}
use Rattle.print_layout_spec.specs.declared.look.Look.{Look}
use Rattle.print_layout_spec.specs.declared.look.Stand.{Stand}
use Rattle.print_layout_spec.specs.declared.look.Stand.TheVariants.{Alone}
use Rattle.again_laws.specs.Tokens.Spacings.{Spacing, Touching}
use Rattle.again_laws.specs.Tokens.Lexicon.{Lexicon}
use Rattle.again_laws.specs.Tokens.Means.{Known}
use Rattle.again_laws.specs.Tokens.Texts.{mark_text}
use Rattle.again_laws.specs.Tokens.Told.{Told, says}
use Rattle.again_laws.specs.Derived.Redo.{Leaves, Plain, Redone}
use Rattle.again_laws.proofs.derived_rules.Naming.{leaves_at}
use Rattle.again_laws.proofs.derived_rules.Begins.{Begins, fine, item_outer, same_start}
use Rattle.again_laws.proofs.derived_rules.Bodies.{follow_closed, item_closed, statement_on}
use Rattle.again_laws.proofs.derived_rules.Ends.{above, absent_same, there}
use Rattle.again_laws.proofs.derived_rules.Follow.{closed_calm, closes, follow_by}
use Rattle.again_laws.proofs.derived_rules.Shapes.{alike, re_is_absent, re_is_statement, re_is_variables}
use Rattle.again_laws.proofs.derived_rules.Sound.{AllSound, Out, Sound, expr, expr_begins, expr_low, full}
use Rattle.again_laws.proofs.derived_rules.Tokens.{ended, keyed, marked, semi_of, skip, took, worded}
use Rattle.again_laws.proofs.derived_rules.Simple.{parens_in}
use Rattle.again_laws.proofs.derived_rules.Variables.{bindings_on, used_on}

pub for_no_else : for_kind ≡ else_kind → ⊥
for_no_else e = omega arith

laid_absent : (look : Look) (t : Tree) → is_absent t ≡ true → laid look Alone t ≡ nothing
laid_absent look absent h = refl
laid_absent look _ h = absurd (true≢false (sym h))

do_no_else : do_kind ≡ else_kind → ⊥
do_no_else e = omega arith

head_bits : (l j j0 : Bool) → (l ≡ true → (j ≡ false) ⊎ (j ≡ j0)) → not (l && j0) ≡ true → not (l && j) ≡ true
head_bits false j j0 f h = refl
head_bits true j j0 f h = by (f refl)
  where
    by : (j ≡ false) ⊎ (j ≡ j0) → not j ≡ true
    by (inl e) = ap not e
    by (inr e) = ap not e ∙ h

last_not : (a b c d l j : Bool) → not (a || (b || (c || (d || (l && j))))) ≡ true → not (l && j) ≡ true
last_not true b c d l j h = absurd (true≢false (sym h))
last_not false true c d l j h = absurd (true≢false (sym h))
last_not false false true d l j h = absurd (true≢false (sym h))
last_not false false false true l j h = absurd (true≢false (sym h))
last_not false false false false l j h = h

told_let : (k : ℕ) → (k == let_kind) ≡ true → ((k == let_kind) || (k == async_kind)) ≡ true
told_let k h = or_left (k == let_kind) (k == async_kind) h

pub head_again : {v : Bool} (ts0 m0 ts m : Input) → Begins v ts0 m0 ts m → (kind m ≡ left_bracket_kind → ⊥) → starts_head ts0 ≡ true → starts_head ts ≡ true
head_again ts0 m0 ts m (fine i e f) n h = last_not (kind ts == left_brace_kind) (kind ts == function_kind) (kind ts == class_kind) ((kind ts == async_kind) && ((kind2 ts == function_kind) && not (brk2 ts))) (kind ts == let_kind) (kind2 ts == left_bracket_kind) e
head_again ts0 m0 ts m (same_start e f) n h = head_bits (kind ts == let_kind) (kind2 ts == left_bracket_kind) (kind2 ts0 == left_bracket_kind) (λ q. second (f (told_let (kind ts) q)))
    (subst (λ (k : ℕ). not ((k == let_kind) && (kind2 ts0 == left_bracket_kind)) ≡ true) (sym e) h)
  where
    second : ((rest ts0 ≡ m0) × (rest ts ≡ m)) ⊎ ((kind2 ts ≡ kind2 ts0) × (kind2 ts ≡ function_kind → brk2 ts0 ≡ false)) → ((kind2 ts == left_bracket_kind) ≡ false) ⊎ ((kind2 ts == left_bracket_kind) ≡ (kind2 ts0 == left_bracket_kind))
    second (inl p) = inl (ne_eqb (kind2 ts) left_bracket_kind (λ q. n (sym (ap kind p.1) ∙ q)))
    second (inr p) = inr (ap (λ (k : ℕ). k == left_bracket_kind) p.0)

as_for : (s : Span) (i t u b : Tree) (c : Code) (ts r : Input) → is_variables i ≡ false → ForExpression c s (child i (λ y. Produces i y)) (child t (λ y. Produces t y)) (child u (λ y. Produces u y)) (child b (λ y. Produces b y)) ts r → Produces (for_stmt s i t u b) c ts r
as_for s (var_decl v k ds) t u b c ts r e h = absurd (true≢false e)
as_for s (using_decl v w ds) t u b c ts r e h = absurd (true≢false e)
as_for s _ t u b c ts r e h = h

module _ (look : Look) (x : Lexicon look.style) where
  pub record Bodied (t : Tree) (c : Code) (r0 : Input) (ts : Input) (K : Spacing → Input → Type 0) : Type 0 where
    pub d : Spacing
    pub m : Input
    pub more : K d m
    pub known : Known r0.places
    pub again : (kind m ≡ else_kind → kind r0 ≡ else_kind) → (u : Tree) × Sub (unplaced c) (child u (λ y. Produces u y)) ts m × Redone (leaves_at look x.naming) Plain t u

  pub body_on : (t : Tree) → Sound look x.naming Alone t → (c : Code) (ts0 r0 : Input) → Sub c (child t (λ y. Produces t y)) ts0 r0 → Known ts0.places → (b : Spacing) (ts : Input) (K : Spacing → Input → Type 0) → says x.naming (laid look Alone t · closing look t) b ts K → Bodied t c r0 ts K
  body_on t f c ts0 r0 h k b ts K q =
      let z = statement_on look x t f (item_outer t (or_left (is_statement t) _ h.0)) (alone c) ts0 r0 h.1 k b ts K q in record {
        d = z.more.0;
        m = z.m;
        more = z.more.1;
        known = z.known;
        again = λ l. let w = z.again (follow_closed t r0 z.m (item_closed t (or_left (is_statement t) _ h.0)) l) in (w.tree, (alike is_statement re_is_statement (leaves_at look x.naming) Plain t w.tree w.same ∙ h.0, w.produced), w.same);
      }

  pub while_on : (s : Span) (t b : Tree) → Sound look x.naming Alone t → Sound look x.naming Alone b → (st : Stand) → Sound look x.naming st (while_stmt s t b)
  while_on s t b f g st c ts0 r0 h k br ts K q =
      let y = parens_in look x t f c h.0 h.1 h.3 (x.later ts0 h.0 h.2.3 k) _ q.0 (λ d m. says x.naming (laid look Alone b · closing look b) d m K) q.2 in
      let z = body_on b g c h.1 r0 h.4 y.known _ y.m K y.more in record {
        d = z.d;
        m = z.m;
        more = z.more;
        known = z.known;
        broke = q.1.broke;
        tight = λ e. absurd (true≢false (sym e));
        begins = λ e. absurd (eqb-false while_kind else_kind refl (sym (keyed look x while_kind q.1) ∙ e));
        again = λ l. let w = z.again (l.other refl) in record {
          tree = while_stmt (span (lo ts) z.m.last) y.again.0 w.0;
          produced = (q.0, y.m, worded look x c while_kind q.1, y.again.1, w.1, refl);
          directive = refl;
          quoted = λ p q. refl;
          same = record { so = λ n. ap₂ (λ (t u : Tree). while_stmt no_place t u) (y.again.2.so Plain) (w.2.so Plain) };
        };
      }

  pub do_while_on : (s : Span) (t b : Tree) → Sound look x.naming Alone t → Sound look x.naming Alone b → (st : Stand) → Sound look x.naming st (do_while_stmt s t b)
  do_while_on s t b f g st c ts0 r0 h k br ts K q =
      let z = body_on b g c h.0 h.1 h.5 (x.later ts0 h.0 h.4.3 k) _ q.0 (λ d m. says x.naming (word (codes "while") · gap look · in_parens (laid look Alone t) · semi) d m K) (skip x.naming (starts_with_word b || formats look) Touching q.0 _ q.2) in
      let i = z.more in
      let y = parens_in look x t f c h.2 h.3 h.7 (x.later h.1 h.2 h.6.3 z.known) _ i.0 (λ d m. says x.naming semi d m K) (skip x.naming (formats look) Touching i.0 _ i.2) in
      let o = semi_of Touching y.m K y.more in record {
        d = o.0;
        m = o.1;
        more = o.3;
        known = done_known h.3 r0 h.8 y.known;
        broke = q.1.broke;
        tight = λ e. absurd (true≢false (sym e));
        begins = λ e. absurd (do_no_else (sym (keyed look x do_kind q.1) ∙ e));
        again = λ l. let w = z.again (λ e. absurd (eqb-false while_kind else_kind refl (sym (keyed look x while_kind i.1) ∙ e))) in record {
          tree = do_while_stmt (span (lo ts) o.1.last) y.again.0 w.0;
          produced = (q.0, z.m, i.0, y.m, worded look x c do_kind q.1, w.1, worded look x c while_kind i.1, y.again.1, inserted (ended look x c plain_end o.2), refl);
          directive = refl;
          quoted = λ p q. refl;
          same = record { so = λ n. ap₂ (λ (t u : Tree). do_while_stmt no_place t u) (y.again.2.so Plain) (w.2.so Plain) };
        };
      }
    where
      done_known : (m r : Input) → Takes c semicolon_kind m r ⊎ ((kind m ≡ semicolon_kind → ⊥) × (m ≡ r)) → Known m.places → Known r.places
      done_known m r (inl h) k = x.later m r h.2 k
      done_known m r (inr h) k = subst (λ (i : Input). Known i.places) h.1 k

      -- whatever pauses there, a semicolon is inserted
      inserted : {m r : Input} → Ends (unplaced c) plain_end m r → Takes (unplaced c) semicolon_kind m r ⊎ ((kind m ≡ semicolon_kind → ⊥) × (m ≡ r))
      inserted (inl h) = inl h
      inserted (inr h) = inr (h.0, h.2)

  record Claused (e : Tree) (c : Code) (close : ℕ) (r0 : Input) (ts : Input) (J : Spacing → Input → Type 0) : Type 0 where
    n : Input
    more : J Touching n
    known : Known r0.places
    again : (u : Tree) × Clause (unplaced c) close (child u (λ y. Produces u y)) ts n × Redone (leaves_at look x.naming) Plain e u

  clause_on : (e : Tree) → Sound look x.naming Alone e → (c : Code) (close : ℕ) → nat_le close 60 ≡ true → closes close ≡ true → (v : Bool) → is_absent e ≡ v → (ts0 r0 : Input) → ((m : Input) × By v (ts0 ≡ m) (Expr expression_level c (child e (λ y. Produces e y)) ts0 m) × Takes c close m r0) → Known ts0.places
      → (b : Spacing) (ts : Input) (J : Spacing → Input → Type 0) → says x.naming (when (not v) (gap look · laid look Alone e)) b ts (λ d m. (n : Input) × Told x.naming Div (mark_text close) d m n × J Touching n) → Claused e c close r0 ts J
  clause_on e f c close p g true a ts0 r0 h k b ts J q = record {
    n = q.0;
    more = q.2;
    known = x.later h.0 r0 h.2.2 (subst (λ (i : Input). Known i.places) h.1 k);
    again = (absent, (ts, refl, took look x c close q.1), absent_same (leaves_at look x.naming) Plain e a);
  }
  clause_on e f c close p g false a ts0 r0 h k b ts J q =
      let i = skip x.naming (formats look) b ts (λ d m. says x.naming (laid look Alone e) d m (λ d m. (n : Input) × Told x.naming Div (mark_text close) d m n × J Touching n)) q in
      let y = expr look x.naming expression_level Alone e f (omega arith) c ts0 h.0 h.1 k _ ts (λ d m. (n : Input) × Told x.naming Div (mark_text close) d m n × J Touching n) i in
      let o = y.more in let w = y.again (follow_by Alone e h.0 y.m close (marked look x close o.1) g) in record {
        n = o.0;
        more = o.2;
        known = x.later h.0 r0 h.2.2 y.known;
        again = (w.tree, (y.m, by_no (is_absent w.tree) _ _ (alike is_absent re_is_absent (leaves_at look x.naming) Plain e w.tree w.same ∙ a) (expr_low look x.naming expression_level Alone e c ts y.m h.1.0 (omega arith) w), took look x c close o.1), w.same);
      }

  record Rested (t u b : Tree) (c : Code) (r0 : Input) (ts : Input) (K : Spacing → Input → Type 0) : Type 0 where
    d : Spacing
    m : Input
    more : K d m
    known : Known r0.places
    again : (kind m ≡ else_kind → kind r0 ≡ else_kind) → (v : Tree) × (w : Tree) × (y : Tree) × ForRest (unplaced c) (child v (λ y. Produces v y)) (child w (λ y. Produces w y)) (child y (λ z. Produces y z)) ts m × Redone (leaves_at look x.naming) Plain t v × Redone (leaves_at look x.naming) Plain u w × Redone (leaves_at look x.naming) Plain b y

  abbrev rest_laid : Tree → Tree → Tree → Laid
  rest_laid t u b = when (is_there t) (gap look · laid look Alone t) · semi_kept · when (is_there u) (gap look · laid look Alone u) · text (codes ")") · laid look Alone b · closing look b

  rest_of : (t u b : Tree) → Sound look x.naming Alone t → Sound look x.naming Alone u → Sound look x.naming Alone b → (c : Code) (ts0 r0 : Input) → ForRest c (child t (λ y. Produces t y)) (child u (λ y. Produces u y)) (child b (λ y. Produces b y)) ts0 r0 → Known ts0.places
      → (br : Spacing) (ts : Input) (K : Spacing → Input → Type 0) → says x.naming (rest_laid t u b) br ts K → Rested t u b c r0 ts K
  rest_of t u b f g j c ts0 r0 h k br ts K q =
      let y = clause_on t f c semicolon_kind refl refl (is_absent t) refl ts0 h.0 h.2 k br ts (λ d m. says x.naming (when (is_there u) (gap look · laid look Alone u) · text (codes ")") · laid look Alone b · closing look b) d m K)
      (subst (λ (v : Bool). says x.naming (when v (gap look · laid look Alone t)) br ts (λ d m. says x.naming (semi_kept · when (is_there u) (gap look · laid look Alone u) · text (codes ")") · laid look Alone b · closing look b) d m K)) (there t) q) in
      let z = clause_on u g c right_paren_kind refl refl (is_absent u) refl h.0 h.1 h.3 y.known _ y.n (λ d m. says x.naming (laid look Alone b · closing look b) d m K)
      (subst (λ (v : Bool). says x.naming (when v (gap look · laid look Alone u)) Touching y.n (λ d m. says x.naming (text (codes ")") · laid look Alone b · closing look b) d m K)) (there u) y.more) in
      let v = body_on b j c h.1 r0 h.4 z.known _ z.n K z.more in record {
        d = v.d;
        m = v.m;
        more = v.more;
        known = v.known;
        again = λ l. let w = v.again l in (y.again.0, z.again.0, w.0, (y.n, z.n, y.again.1, z.again.1, w.1), y.again.2, z.again.2, w.2);
      }

  same_four : {t u v w a b d e : Tree} → t ≡ a → u ≡ b → v ≡ d → w ≡ e → for_stmt no_place t u v w ≡ for_stmt no_place a b d e
  same_four p q r s = ap₂ (λ (t u : Tree × Tree). for_stmt no_place t.0 t.1 u.0 u.1) (ap₂ (λ (t u : Tree). (t, u)) p q) (ap₂ (λ (t u : Tree). (t, u)) r s)

  pub for_variables : (s v : Span) (k : ℕ) (ds : Trees) (t u b : Tree) → AllSound look x.naming ds → Sound look x.naming Alone t → Sound look x.naming Alone u → Sound look x.naming Alone b → (st : Stand) → Sound look x.naming st (for_stmt s (var_decl v k ds) t u b)
  for_variables s v k ds t u b a f g j st c ts0 r0 h l br ts K q =
      let o = q.2 in
      let y = bindings_on look x v k ds a (without_in c) h.0 h.1 h.4 (x.later h.3.0 h.0 h.3.2.2 (x.later ts0 h.3.0 h.3.1.3 l)) _ o.0 (λ d m. says x.naming (semi_kept · rest_laid t u b) d m K) o.2 in
      let e = y.more in
      let z = rest_of t u b f g j c h.2 r0 h.7 (x.later h.1 h.2 h.6.2 y.known) _ e.0 K e.2 in
      let n = keyed look x for_kind q.1 in record {
        d = z.d;
        m = z.m;
        more = z.more;
        known = z.known;
        broke = q.1.broke;
        tight = λ e. absurd (true≢false (sym e));
        begins = λ e. absurd (for_no_else (sym n ∙ e));
        again = λ i. let w = z.again (i.other refl) in let p = y.again (closed_calm y.m semicolon_kind (marked look x semicolon_kind e.1) refl) in record {
          tree = for_stmt (span (lo ts) z.m.last) (var_decl (span (lo o.0) y.m.last) k p.0) w.0 w.1 w.2;
          produced = (o.0, y.m, e.0, (q.0, worded look x c for_kind q.1, took look x c left_paren_kind o.1), p.1, refl, took look x c semicolon_kind e.1, w.3, refl);
          directive = refl;
          quoted = λ p q. refl;
          same = record { so = λ n. same_four (ap (λ (us : Trees). var_decl no_place k us) (p.2.so Plain)) (w.4.so Plain) (w.5.so Plain) (w.6.so Plain) };
        };
      }

  -- what a head begins with, or nothing
  record Started (e : Tree) (c : Code) (ts : Input) (J : Spacing → Input → Type 0) : Type 0 where
    m : Input
    n : Input
    more : J Touching n
    told : Takes (unplaced c) semicolon_kind m n
    again : (u : Tree) × By (is_absent u) (ts ≡ m) ((starts_head ts ≡ true) × Expr expression_level (without_in (unplaced c)) (child u (λ y. Produces u y)) ts m) × Redone (leaves_at look x.naming) Plain e u

  semicolon_bracket : (m : Input) → kind m ≡ semicolon_kind → kind m ≡ left_bracket_kind → ⊥
  semicolon_bracket m e f = absurd (omega arith)

  start_on : (e : Tree) → Sound look x.naming Alone e → (c : Code) (v : Bool) → is_absent e ≡ v → (ts0 m0 : Input) → By v (ts0 ≡ m0) ((starts_head ts0 ≡ true) × Expr expression_level (without_in c) (child e (λ y. Produces e y)) ts0 m0) → Known ts0.places
      → (b : Spacing) (ts : Input) (J : Spacing → Input → Type 0) → says x.naming (laid look Alone e) b ts (λ d m. (n : Input) × Told x.naming Div (mark_text semicolon_kind) d m n × J Touching n) → (Started e c ts J) × Known m0.places
  start_on e f c true a ts0 m0 h k b ts J q =
      let i = subst (λ (l : Laid). says x.naming l b ts (λ d m. (n : Input) × Told x.naming Div (mark_text semicolon_kind) d m n × J Touching n)) (laid_absent look e a) q in
      (record { m = ts; n = i.0; more = i.2; told = took look x c semicolon_kind i.1; again = (absent, refl, absent_same (leaves_at look x.naming) Plain e a) }, subst (λ (i : Input). Known i.places) h k)
  start_on e f c false a ts0 m0 h k b ts J q =
      let y = expr look x.naming expression_level Alone e f (omega arith) (without_in c) ts0 m0 h.1 k b ts (λ d m. (n : Input) × Told x.naming Div (mark_text semicolon_kind) d m n × J Touching n) q in
      let i = y.more in let j = marked look x semicolon_kind i.1 in let w = y.again (follow_by Alone e m0 y.m semicolon_kind j refl) in (
        record {
          m = y.m;
          n = i.0;
          more = i.2;
          told = took look x c semicolon_kind i.1;
          again = (
            w.tree,
            by_no (is_absent w.tree) _ _ (alike is_absent re_is_absent (leaves_at look x.naming) Plain e w.tree w.same ∙ a) (
              head_again ts0 m0 ts y.m (expr_begins look x.naming Alone e (assigning (without_in c)) ts0 m0 b ts _ (above expression_level (level e) (omega arith) h.1.0) y) (semicolon_bracket y.m j) h.0,
              expr_low look x.naming expression_level Alone e (without_in c) ts y.m h.1.0 (omega arith) w,
            ),
            w.same,
          );
        },
        y.known,
      )

  pub re_variables : (l : Leaves) (t u : Tree) → Redone l Plain t u → is_variables t ≡ false → is_variables u ≡ false
  re_variables l t u s e = alike is_variables re_is_variables l Plain t u s ∙ e

  pub for_expression : (s : Span) (i t u b : Tree) → is_variables i ≡ false → Sound look x.naming Alone i → Sound look x.naming Alone t → Sound look x.naming Alone u → Sound look x.naming Alone b → (st : Stand) (c : Code) (ts0 r0 : Input)
      → ForExpression c s (child i (λ y. Produces i y)) (child t (λ y. Produces t y)) (child u (λ y. Produces u y)) (child b (λ y. Produces b y)) ts0 r0 → Known ts0.places → (br : Spacing) (ts : Input) (K : Spacing → Input → Type 0) → says x.naming (full look st (for_stmt s i t u b)) br ts K → Out look x.naming st (for_stmt s i t u b) c ts0 r0 br ts K
  for_expression s i t u b e d f g j st c ts0 r0 h l br ts K q =
      let o = q.2 in
      let y = start_on i d c (is_absent i) refl h.0 h.1 h.4 (x.later h.3.0 h.0 h.3.2.2 (x.later ts0 h.3.0 h.3.1.3 l)) _ o.0 (λ d m. says x.naming (rest_laid t u b) d m K) o.2 in
      let p = y.0 in
      let z = rest_of t u b f g j c h.2 r0 h.6 (x.later h.1 h.2 h.5.2 y.1) _ p.n K p.more in
      let n = keyed look x for_kind q.1 in record {
        d = z.d;
        m = z.m;
        more = z.more;
        known = z.known;
        broke = q.1.broke;
        tight = λ e. absurd (true≢false (sym e));
        begins = λ e. absurd (for_no_else (sym n ∙ e));
        again = λ k. let w = z.again (k.other refl) in record {
          tree = for_stmt (span (lo ts) z.m.last) p.again.0 w.0 w.1 w.2;
          produced = as_for (span (lo ts) z.m.last) p.again.0 w.0 w.1 w.2 (unplaced c) ts z.m (re_variables (leaves_at look x.naming) i p.again.0 p.again.2 e)
              (o.0, p.m, p.n, (q.0, worded look x c for_kind q.1, took look x c left_paren_kind o.1), p.again.1, p.told, w.3, refl);
          directive = refl;
          quoted = λ p q. refl;
          same = record { so = λ n. same_four (p.again.2.so Plain) (w.4.so Plain) (w.5.so Plain) (w.6.so Plain) };
        };
      }

  pub for_using : (s v : Span) (w : Bool) (ds : Trees) (t u b : Tree) → AllSound look x.naming ds → Sound look x.naming Alone t → Sound look x.naming Alone u → Sound look x.naming Alone b → (st : Stand) → Sound look x.naming st (for_stmt s (using_decl v w ds) t u b)
  for_using s v w ds t u b a f g j st c ts0 r0 h l br ts K q =
      let o = q.2 in
      let y = used_on look x v w ds a (without_in c) h.0 h.1 h.5 (x.later h.3.0 h.0 h.3.2.2 (x.later ts0 h.3.0 h.3.1.3 l)) _ o.0 (λ d m. says x.naming (semi_kept · rest_laid t u b) d m K) o.2 in
      let e = y.more in
      let z = rest_of t u b f g j c h.2 r0 h.8 (x.later h.1 h.2 h.7.2 y.known) _ e.0 K e.2 in
      let n = keyed look x for_kind q.1 in record {
        d = z.d;
        m = z.m;
        more = z.more;
        known = z.known;
        broke = q.1.broke;
        tight = λ e. absurd (true≢false (sym e));
        begins = λ e. absurd (for_no_else (sym n ∙ e));
        again = λ i. let k = z.again (i.other refl) in let p = y.again (closed_calm y.m semicolon_kind (marked look x semicolon_kind e.1) refl) in record {
          tree = for_stmt (span (lo ts) z.m.last) (using_decl (span (lo o.0) y.m.last) w p.0) k.0 k.1 k.2;
          produced = (o.0, y.m, e.0, (q.0, worded look x c for_kind q.1, took look x c left_paren_kind o.1), y.starts h.4, p.1, refl, took look x c semicolon_kind e.1, k.3, refl);
          directive = refl;
          quoted = λ p q. refl;
          same = record { so = λ n. same_four (ap (λ (us : Trees). using_decl no_place w us) (p.2.so Plain)) (k.4.so Plain) (k.5.so Plain) (k.6.so Plain) };
        };
      }
