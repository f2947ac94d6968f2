-- Optional chains and private names derived again (12.7, 13.3.9).
use Rattle.std.proofs.Common.{Bool, List, ap, ap₂, arith, false, refl, subst, sym, true, true≢false, ℕ, ◌&&◌, ◌||◌, ◌∙◌, ◌≡◌, ◌≤◌}
use Rattle.std.proofs.lemmas.Bool.{eqb-false}
use Rattle.base_token.specs.Kinds.{dot_kind, else_kind, function_kind, hash_kind, left_bracket_kind, left_paren_kind, question_mark_kind, right_bracket_kind}
use Rattle.base_token.specs.declared.place.Span.{Span}
use Rattle.lex_token.specs.declared.goal.LexicalGoal.TheVariants.{Div}
use Rattle.tree_spec.specs.Codes.{at}
use Rattle.tree_spec.specs.Places.{no_place}
use Rattle.tree_spec.specs.Tree.{Tree, Trees, absent, computed_prop_name, ident_name, member_expr, number_lit, opt_call, opt_chain_expr, private_name}
use Rattle.grammar_spec.specs.Tokens.Input.{Code, Input, Spans, assigning, content, escaped, is_word, kind, lo, span, unplaced, with_in}
use Rattle.grammar_spec.specs.Tokens.Operators.{call_level, expression_level}
use Rattle.grammar_spec.specs.Tokens.Shape.{is_chain, is_private, is_word_name, level}
use Rattle.grammar_spec.specs.Expressions.{AccessedName, Bracketed, ChainMember, Dotted, Optional}
use Rattle.grammar_spec.specs.Grammar.{Produces}
use Rattle.grammar_spec.specs.Children.{Expr, child}
use Rattle.print_layout_spec.specs.Layout.{laid, optional_dot, point_before}
use Rattle.print_layout_spec.specs.Literals.{name_bytes}
use Rattle.print_layout_spec.specs.Looks.{end, ◌·◌}
use Rattle.print_layout_spec.specs.declared.look.Look.{Look}
use Rattle.print_layout_spec.specs.declared.look.Stand.{Stand}
use Rattle.print_layout_spec.specs.declared.look.Stand.TheVariants.{Alone, Head}
use Rattle.again_laws.specs.Tokens.Spacings.{Spacing, Touching}
use Rattle.again_laws.specs.Tokens.Lexicon.{Lexicon}
use Rattle.again_laws.specs.Tokens.Means.{Known, Means}
use Rattle.again_laws.specs.Tokens.Told.{Breaks, says}
use Rattle.again_laws.specs.Derived.Redo.{Headed, Plain, Redone, object_mode}
use Rattle.again_laws.proofs.derived_rules.Naming.{leaves_at}
use Rattle.again_laws.proofs.derived_rules.Begins.{Begins, before, firm, led}
use Rattle.again_laws.proofs.derived_rules.Ends.{above}
use Rattle.again_laws.proofs.derived_rules.Follow.{follow_by}
use Rattle.again_laws.proofs.derived_rules.Levels.{level_head}
use Rattle.again_laws.proofs.derived_rules.Shapes.{alike, re_is_chain}
use Rattle.again_laws.proofs.derived_rules.Sound.{AllSound, Out, Sound, expr, expr_begins, expr_head, expr_low, full, plain_part}
use Rattle.again_laws.proofs.derived_rules.Tokens.{marked, took}
use Rattle.again_laws.proofs.derived_rules.Calls.{passed_on}
use Rattle.again_laws.proofs.derived_rules.CallHeads.{follow_chain, no_seven, over_call}
use Rattle.again_laws.proofs.derived_rules.Members.{Accessed, BracketsAgain, DotsAgain, bracketed_on, dotted_on, is_number, named_no_item, named_plain, named_still, named_tight, object, object_on, pointed_same, re_named}

question_else : question_mark_kind ≡ else_kind → ⊥
question_else e = omega arith

as_named : (s t : Span) (o k : Tree) (q : Bool) (c : Code) (ts r : Input) → (is_word_name k || (true && is_private k)) ≡ true → ChainMember c s q t (child o (λ y. Produces o y)) (λ m n. Dotted true c (child k (λ y. Produces k y)) m n) (λ m n. AccessedName true c (child k (λ y. Produces k y)) m n) ts r
    → Produces (opt_chain_expr s q (member_expr t o k)) c ts r
as_named s t o (ident_name u n) q c ts r e h = h
as_named s t o (private_name u n) q c ts r e h = h
as_named s t o _ q c ts r e h = absurd (true≢false (sym e))

module _ (look : Look) (x : Lexicon look.style) where
  pub private_on : (s : Span) (n : List ℕ) (st : Stand) → Sound look x.naming st (private_name s n)
  private_on s n st c ts0 r0 h k b ts K q =
      let i = q.2 in
      let z = x.names h.0 _ _ _ (x.later ts0 h.0 h.1.2 k) h.3.0 (subst (λ (w : List ℕ). Means Div (name_bytes look.style w) (kind q.0) (content q.0) (escaped q.0)) (sym h.3.1) i.1.means) in record {
        d = Touching;
        m = i.0;
        more = i.2;
        known = x.later h.0 r0 h.3.3 (x.later ts0 h.0 h.1.2 k);
        broke = q.1.broke;
        tight = λ e. refl;
        begins = led ts0 r0 ts i.0 hash_kind h.1.0 (marked look x hash_kind q.1) refl;
        again = λ g. record {
          tree = private_name (span (lo ts) i.0.last) n;
          produced = (q.0, took look x c hash_kind q.1, i.1.touches (q.1.behind ∙ marked look x hash_kind q.1) refl, (ap is_word z.0 ∙ h.3.0, z.1 ∙ h.3.1, tt, i.1.after), refl);
          directive = refl;
          quoted = λ p q. refl;
          same = record { so = λ m. refl };
        };
      }

  -- the object of a chain that asks
  asked_laid : (o k : Tree) (s t : Span) (st : Stand) (b : Spacing) (ts : Input) (K : Spacing → Input → Type 0) → says x.naming (full look st (opt_chain_expr s true (member_expr t o k))) b ts K
      → says x.naming (object look o (computed_prop_name no_place absent)) b ts (λ d m. says x.naming (optional_dot · laid look Alone k) d m K)
  asked_laid (number_lit at v w) k s t st b ts K q = q
  asked_laid _ k s t st b ts K q = q

  -- what is taken
  record Taken (k : Tree) (B : Tree → Input → Input → Type 0) (r0 : Input) (ts : Input) (K : Spacing → Input → Type 0) : Type 0 where
    d : Spacing
    m : Input
    more : K d m
    known : Known r0.places
    tight : d ≡ Touching
    again : (u : Tree) × B u ts m × Redone (leaves_at look x.naming) Plain k u

  asked_on : (s t : Span) (o k : Tree) → Sound look x.naming Head o → (c : Code) (A : Input → Input → Type 0) (B : Tree → Input → Input → Type 0)
      → ((m0 r0 : Input) → A m0 r0 → Known m0.places → (d : Spacing) (m : Input) (K : Spacing → Input → Type 0) → says x.naming (laid look Alone k) d m K → Taken k B r0 m K)
      → ((p : Span) (u v : Tree) (ts m n r : Input) → Expr call_level (unplaced c) (child u (λ y. Produces u y)) ts m → Optional (unplaced c) m n → B v n r → Spans p ts r → Produces (opt_chain_expr p true (member_expr p u v)) (unplaced c) ts r)
      → (st : Stand) (ts0 m0 n0 r0 : Input) → Expr call_level c (child o (λ y. Produces o y)) ts0 m0 → Optional c m0 n0 → A n0 r0 → Known ts0.places → (b : Spacing) (ts : Input) (K : Spacing → Input → Type 0)
      → says x.naming (full look st (opt_chain_expr s true (member_expr t o k))) b ts K → Out look x.naming st (opt_chain_expr s true (member_expr t o k)) c ts0 r0 b ts K
  asked_on s t o k f c A B g j st ts0 m0 n0 r0 e p a l b ts K q =
      let y = object_on look x o f (computed_prop_name no_place absent) c ts0 m0 e l b ts (λ d m. says x.naming (optional_dot · laid look Alone k) d m K) (asked_laid o k s t st b ts K q) in
      let i = y.more in
      let l = i.2 in
      let z = g n0 r0 a (x.later p.0 n0 p.2.2 (x.later m0 p.0 p.1.2 y.known)) Touching l.0 K l.2 in
      let n = marked look x question_mark_kind i.1 in record {
        d = z.d;
        m = z.m;
        more = z.more;
        known = z.known;
        broke = y.broke;
        tight = λ e. z.tight;
        begins = before ts0 m0 ts y.m r0 z.m (λ e. e) y.begins (n ∙ sym p.1.0) (λ e. eqb-false question_mark_kind function_kind refl (sym n ∙ e));
        again = λ h. let w = y.again (follow_chain o m0 y.m (over_call (level o) e.0) (λ e. question_else (sym n ∙ e))) in let v = z.again in record {
          tree = opt_chain_expr (span (lo ts) z.m.last) true (member_expr (span (lo ts) z.m.last) w.tree v.0);
          produced = j (span (lo ts) z.m.last) w.tree v.0 ts y.m l.0 z.m (level_head look x.naming Headed o w.tree refl w.same call_level e.0, w.produced) (i.0, took look x c question_mark_kind i.1, took look x c dot_kind l.1) v.1 refl;
          directive = refl;
          quoted = λ p q. refl;
          same = record { so = λ n. ap₂ (λ (t p : Tree). opt_chain_expr no_place true (member_expr no_place t p)) (w.same.so Headed) (v.2.so Plain) };
        };
      }

  abbrev NamedAgain : Code → Tree → Input → Input → Type 0
  NamedAgain c u m n = AccessedName true (unplaced c) (child u (λ y. Produces u y)) m n

  named_on : (k : Tree) → Sound look x.naming Alone k → (c : Code) (ts0 r0 : Input) → AccessedName true c (child k (λ y. Produces k y)) ts0 r0 → Known ts0.places → (b : Spacing) (ts : Input) (K : Spacing → Input → Type 0) → says x.naming (laid look Alone k) b ts K → Taken k (NamedAgain c) r0 ts K
  named_on k f c ts0 r0 h l b ts K q =
      let y = plain_part look x.naming Alone k f (named_plain k h.0) c ts0 r0 h.1 l b ts K q in record {
        d = y.d;
        m = y.m;
        more = y.more;
        known = y.known;
        tight = y.tight (named_tight k h.0);
        again = let w = y.again (record { quiet = λ z. absurd (named_still k h.0 z); other = λ i. absurd (named_no_item k h.0 i) }) in
            (w.tree, (alike (λ (t : Tree). is_word_name t || (true && is_private t)) re_named (leaves_at look x.naming) Plain k w.tree w.same ∙ h.0, w.produced), w.same);
      }

  pub asked_named : (s t : Span) (o k : Tree) → Sound look x.naming Head o → Sound look x.naming Alone k → (st : Stand) (c : Code) (ts0 r0 : Input) → ChainMember c s true t (child o (λ y. Produces o y)) (λ m n. Dotted true c (child k (λ y. Produces k y)) m n) (λ m n. AccessedName true c (child k (λ y. Produces k y)) m n) ts0 r0
      → Known ts0.places → (b : Spacing) (ts : Input) (K : Spacing → Input → Type 0) → says x.naming (full look st (opt_chain_expr s true (member_expr t o k))) b ts K → Out look x.naming st (opt_chain_expr s true (member_expr t o k)) c ts0 r0 b ts K
  asked_named s t o k f g st c ts0 r0 h l b ts K q =
      asked_on s t o k f c (λ m n. AccessedName true c (child k (λ y. Produces k y)) m n) (NamedAgain c) (λ m0 r a l d m K q. named_on k g c m0 r a l d m K q)
      (λ p u v ts m n r e o a i. as_named p p u v true (unplaced c) ts r a.0 (m, n, e, o, a, i, i)) st ts0 h.0 h.1 r0 h.2 h.3 h.4 l b ts K q

  abbrev SquareAgain : Code → Tree → Input → Input → Type 0
  SquareAgain c (computed_prop_name t e) m n = Bracketed expression_level (unplaced c) t (child e (λ y. Produces e y)) m n
  SquareAgain c _ m n = ⊥

  square_on : (t : Span) (e : Tree) → Sound look x.naming Alone e → (c : Code) (ts0 r0 : Input) → Bracketed expression_level c t (child e (λ y. Produces e y)) ts0 r0 → Known ts0.places → (b : Spacing) (ts : Input) (K : Spacing → Input → Type 0)
      → says x.naming (laid look Alone (computed_prop_name t e)) b ts K → Taken (computed_prop_name t e) (SquareAgain c) r0 ts K
  square_on t e f c ts0 r0 h l b ts K q =
      let y = expr look x.naming expression_level Alone e f (omega arith) (with_in c) h.0 h.1 h.3 (x.later ts0 h.0 h.2.2 l) _ q.0 _ q.2 in
      let z = y.more in record {
        d = Touching;
        m = z.0;
        more = z.2;
        known = x.later h.1 r0 h.4.2 y.known;
        tight = refl;
        again = let w = y.again (follow_by Alone e h.1 y.m right_bracket_kind (marked look x right_bracket_kind z.1) refl) in (
          computed_prop_name (span (lo ts) z.0.last) w.tree,
          (q.0, y.m, took look x c left_bracket_kind q.1, expr_low look x.naming expression_level Alone e (with_in c) q.0 y.m h.3.0 (omega arith) w, took look x c right_bracket_kind z.1, refl),
          record { so = λ n. ap (λ (t : Tree). computed_prop_name no_place t) (w.same.so Plain) },
        );
      }

  pub asked_square : (s t : Span) (o : Tree) (p : Span) (e : Tree) → Sound look x.naming Head o → Sound look x.naming Alone e → (st : Stand) → Sound look x.naming st (opt_chain_expr s true (member_expr t o (computed_prop_name p e)))
  asked_square s t o p e f g st c ts0 r0 h l b ts K q =
      asked_on s t o (computed_prop_name p e) f c (λ m n. Bracketed expression_level c p (child e (λ y. Produces e y)) m n) (SquareAgain c) (λ m0 r a l d m K q. square_on p e g c m0 r a l d m K q)
      (λ p u v ts m n r e o a i. as_square p u v c ts m n r e o a i) st ts0 h.0 h.1 r0 h.2 h.3 h.4 l b ts K q
    where
      as_square : (p : Span) (u v : Tree) (c : Code) (ts m n r : Input) → Expr call_level (unplaced c) (child u (λ y. Produces u y)) ts m → Optional (unplaced c) m n → SquareAgain c v n r → Spans p ts r → Produces (opt_chain_expr p true (member_expr p u v)) (unplaced c) ts r
      as_square p u (computed_prop_name t e) c ts m n r i o a h = (m, n, i, o, a, h, h)
      as_square p u _ c ts m n r i o a h = absurd a

  -- ---- calls with `?.`

  pub asked_call : (s t : Span) (e : Tree) (xs : Trees) → Sound look x.naming Head e → AllSound look x.naming xs → (st : Stand) → Sound look x.naming st (opt_chain_expr s true (opt_call t e xs))
  asked_call s t e xs f a st c ts0 r0 h l b ts K q =
      let y = expr look x.naming call_level Head e f (omega arith) c ts0 h.0 h.2 l b ts _ q in
      let i = y.more in let j = i.2 in
      let z = passed_on look x xs a c h.1 r0 h.4 (x.later h.3.0 h.1 h.3.2.2 (x.later h.0 h.3.0 h.3.1.2 y.known)) Touching j.0 K j.2 in
      let n = marked look x question_mark_kind i.1 in record {
        d = Touching;
        m = z.m;
        more = z.more;
        known = z.known;
        broke = y.broke;
        tight = λ e. refl;
        begins = before ts0 h.0 ts y.m r0 z.m (λ l. absurd (firm e (over_call (level e) h.2.0) l)) (expr_begins look x.naming Head e (assigning c) ts0 h.0 b ts _ (above call_level (level e) (omega arith) h.2.0) y) (n ∙ sym h.3.1.0) (λ e. eqb-false question_mark_kind function_kind refl (sym n ∙ e));
        again = λ g. let w = y.again (follow_chain e h.0 y.m (over_call (level e) h.2.0) (λ e. question_else (sym n ∙ e))) in record {
          tree = opt_chain_expr (span (lo ts) z.m.last) true (opt_call (span (lo ts) z.m.last) w.tree z.again.0);
          produced = (y.m, j.0, expr_head look x.naming call_level e c ts y.m h.2.0 w, (i.0, took look x c question_mark_kind i.1, took look x c dot_kind j.1), z.again.1, refl, refl);
          directive = refl;
          quoted = λ p q. refl;
          same = record { so = λ n. ap₂ (λ (t : Tree) (us : Trees). opt_chain_expr no_place true (opt_call no_place t us)) (w.same.so Headed) (z.again.2.so Plain) };
        };
      }

  -- ---- what goes on with a chain

  -- the chain, and what its layout says
  record Headed_chain (o : Tree) (c : Code) (ts0 r0 : Input) (b : Spacing) (ts : Input) (K : Spacing → Input → Type 0) : Type 0 where
    d : Spacing
    m : Input
    more : K d m
    known : Known r0.places
    broke : Breaks x.naming b ts
    begins : Begins false ts0 r0 ts m
    again : (kind m ≡ else_kind → ⊥) → (u : Tree) × (is_chain u ≡ true) × Produces u (unplaced (assigning c)) ts m × Redone (leaves_at look x.naming) Headed o u

  chain_on : (o : Tree) → Sound look x.naming Head o → is_chain o ≡ true → (c : Code) (ts0 r0 : Input) → Produces o (assigning c) ts0 r0 → Known ts0.places → (b : Spacing) (ts : Input) (K : Spacing → Input → Type 0) → says x.naming (laid look Head o) b ts K → Headed_chain o c ts0 r0 b ts K
  chain_on (opt_chain_expr s q e) f i c ts0 r0 h l b ts K p =
      let y = plain_part look x.naming Head (opt_chain_expr s q e) f refl (assigning c) ts0 r0 h l b ts K p in record {
        d = y.d;
        m = y.m;
        more = y.more;
        known = y.known;
        broke = y.broke;
        begins = y.begins;
        again = λ g. let w = y.again (follow_chain (opt_chain_expr s q e) r0 y.m (omega arith) g) in (w.tree, alike is_chain re_is_chain (leaves_at look x.naming) Headed (opt_chain_expr s q e) w.tree w.same, w.produced, w.same);
      }
  chain_on _ f i c ts0 r0 h l b ts K p = absurd (true≢false (sym i))

  chain_no_number : (o : Tree) → is_chain o ≡ true → is_number o ≡ false
  chain_no_number (number_lit at v w) i = absurd (true≢false (sym i))
  chain_no_number _ i = refl

  chain_laid : (o k : Tree) (s t : Span) (st : Stand) → is_chain o ≡ true → (b : Spacing) (ts : Input) (K : Spacing → Input → Type 0) → says x.naming (full look st (opt_chain_expr s false (member_expr t o k))) b ts K
      → says x.naming (laid look Head o) b ts (λ d m. says x.naming (point_before k · laid look Alone k · end s) d m K)
  chain_laid (opt_chain_expr p q e) k s t st i b ts K h = h
  chain_laid _ k s t st i b ts K h = absurd (true≢false (sym i))

  chain_level : (o : Tree) → is_chain o ≡ true → 18 ≤ level o
  chain_level (opt_chain_expr p q e) i = omega arith
  chain_level _ i = absurd (true≢false (sym i))

  on_chain : (s t : Span) (o k : Tree) → Sound look x.naming Head o → (c : Code) (A : Input → Input → Type 0) (B : Tree → Input → Input → Type 0)
      → ((m0 r0 : Input) → A m0 r0 → Known m0.places → (b : Spacing) (m : Input) (K : Spacing → Input → Type 0) → says x.naming (point_before k · laid look Alone k · end s) b m K → Accessed look x k B m0 r0 b m K)
      → ((p : Span) (u v : Tree) (ts m r : Input) → is_chain u ≡ true → Produces u (unplaced (assigning c)) ts m → B v m r → Spans p ts r → Produces (opt_chain_expr p false (member_expr p u v)) (unplaced c) ts r)
      → (st : Stand) (ts0 m0 r0 : Input) → is_chain o ≡ true → Produces o (assigning c) ts0 m0 → A m0 r0 → Known ts0.places → (b : Spacing) (ts : Input) (K : Spacing → Input → Type 0)
      → says x.naming (full look st (opt_chain_expr s false (member_expr t o k))) b ts K → Out look x.naming st (opt_chain_expr s false (member_expr t o k)) c ts0 r0 b ts K
  on_chain s t o k f c A B g j st ts0 m0 r0 i e a l b ts K q =
      let y = chain_on o f i c ts0 m0 e l b ts (λ d m. says x.naming (point_before k · laid look Alone k · end s) d m K) (chain_laid o k s t st i b ts K q) in
      let z = g m0 r0 a y.known y.d y.m K y.more in record {
        d = z.d;
        m = z.m;
        more = z.more;
        known = z.known;
        broke = y.broke;
        tight = λ e. z.tight;
        begins = before ts0 m0 ts y.m r0 z.m (λ e. e) y.begins z.lead z.bars.0;
        again = λ h. let w = y.again z.bars.1 in let v = z.again in record {
          tree = opt_chain_expr (span (lo ts) z.m.last) false (member_expr (span (lo ts) z.m.last) w.0 v.0);
          produced = j (span (lo ts) z.m.last) w.0 v.0 ts y.m z.m w.1 w.2 v.1 refl;
          directive = refl;
          quoted = λ p q. refl;
          same = record { so = λ n. ap₂ (λ (t p : Tree). opt_chain_expr no_place false (member_expr no_place t p)) (w.3.so (object_mode Plain v.0) ∙ pointed_same look x.naming o (chain_no_number o i) Plain k) (v.2.so Plain) };
        };
      }

  pub chain_named : (s t : Span) (o k : Tree) → Sound look x.naming Head o → Sound look x.naming Alone k → (st : Stand) (c : Code) (ts0 r0 : Input) → ChainMember c s false t (child o (λ y. Produces o y)) (λ m n. Dotted true c (child k (λ y. Produces k y)) m n) (λ m n. AccessedName true c (child k (λ y. Produces k y)) m n) ts0 r0
      → Known ts0.places → (b : Spacing) (ts : Input) (K : Spacing → Input → Type 0) → says x.naming (full look st (opt_chain_expr s false (member_expr t o k))) b ts K → Out look x.naming st (opt_chain_expr s false (member_expr t o k)) c ts0 r0 b ts K
  chain_named s t o k f g st c ts0 r0 h l b ts K q =
      on_chain s t o k f c (λ m n. Dotted true c (child k (λ y. Produces k y)) m n) (DotsAgain look x c) (λ m0 r a l b m K q. dotted_on look x k g s c m0 r a l b m K q)
      (λ p u v ts m r e d a i. as_named p p u v false (unplaced c) ts r a.0 (m, e, d, a.1, i, i)) st ts0 h.0 r0 h.1 h.2 h.3 l b ts K q

  pub chain_square : (s t : Span) (o : Tree) (p : Span) (e : Tree) → Sound look x.naming Head o → Sound look x.naming Alone e → (st : Stand) → Sound look x.naming st (opt_chain_expr s false (member_expr t o (computed_prop_name p e)))
  chain_square s t o p e f g st c ts0 r0 h l b ts K q =
      on_chain s t o (computed_prop_name p e) f c (λ m n. Bracketed expression_level c p (child e (λ y. Produces e y)) m n) (BracketsAgain look x c) (λ m0 r a l b m K q. bracketed_on look x p e g s c m0 r a l b m K q)
      (λ p u v ts m r i d a n. as_square p u v ts m r i d a n) st ts0 h.0 r0 h.1 h.2 h.3 l b ts K q
    where
      as_square : (p : Span) (u v : Tree) (ts m r : Input) → is_chain u ≡ true → Produces u (unplaced (assigning c)) ts m → BracketsAgain look x c v m r → Spans p ts r → Produces (opt_chain_expr p false (member_expr p u v)) (unplaced c) ts r
      as_square p u (computed_prop_name t e) ts m r i d a n = (m, i, d, a, n, n)
      as_square p u _ ts m r i d a n = absurd a

  pub chain_call : (s t : Span) (e : Tree) (xs : Trees) → Sound look x.naming Head e → AllSound look x.naming xs → (st : Stand) → Sound look x.naming st (opt_chain_expr s false (opt_call t e xs))
  chain_call s t e xs f a st c ts0 r0 h l b ts K q =
      let y = chain_on e f h.1 c ts0 h.0 h.2 l b ts _ q in
      let z = passed_on look x xs a c h.0 r0 h.3 y.known y.d y.m K y.more in record {
        d = Touching;
        m = z.m;
        more = z.more;
        known = z.known;
        broke = y.broke;
        tight = λ e. refl;
        begins = before ts0 h.0 ts y.m r0 z.m (λ e. e) y.begins (z.lead ∙ sym h.3.1.0) (λ i. no_seven (sym z.lead ∙ i));
        again = λ g. let w = y.again (λ i. paren_else (sym z.lead ∙ i)) in record {
          tree = opt_chain_expr (span (lo ts) z.m.last) false (opt_call (span (lo ts) z.m.last) w.0 z.again.0);
          produced = (y.m, w.1, w.2, z.again.1, refl, refl);
          directive = refl;
          quoted = λ p q. refl;
          same = record { so = λ n. ap₂ (λ (t : Tree) (us : Trees). opt_chain_expr no_place false (opt_call no_place t us)) (w.3.so Headed) (z.again.2.so Plain) };
        };
      }
    where
      paren_else : left_paren_kind ≡ else_kind → ⊥
      paren_else e = omega arith
