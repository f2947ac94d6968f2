-- `return`, `throw`, `break`, `continue`, `with` and labels derived again (14.8 to 14.11, 14.13, 14.14).
use Rattle.std.proofs.Common.{Bool, ap, ap₂, arith, false, not, refl, subst, sym, true, true≢false, ℕ, ◌||◌, ◌∙◌, ◌≡◌}
use Rattle.base_token.specs.Kinds.{break_kind, colon_kind, continue_kind, else_kind, return_kind, throw_kind, with_kind}
use Rattle.base_token.specs.declared.place.Span.{Span}
use Rattle.tree_spec.specs.Places.{no_place}
use Rattle.tree_spec.specs.Tree.{Tree, absent, break_stmt, continue_stmt, labeled_stmt, return_stmt, throw_stmt, with_stmt}
use Rattle.grammar_spec.specs.Tokens.Input.{Code, Input, alone, brk, kind, lo, span, unplaced}
use Rattle.grammar_spec.specs.Tokens.Operators.{expression_level, plain_end}
use Rattle.grammar_spec.specs.Tokens.Shape.{ends, is_absent, level}
use Rattle.grammar_spec.specs.Grammar.{Produces}
use Rattle.grammar_spec.specs.Children.{By, Ends, Expr, Sorted, is_ident, child}
use Rattle.grammar_spec.specs.Statements.{Jump}
use Rattle.grammar_laws.proofs.Covers.{by_no}
use Rattle.print_gaps.specs.Edges.{is_there, starts_with_word}
use Rattle.print_layout_spec.specs.Layout.{closing, laid}
use Rattle.print_layout_spec.specs.Looks.{blank, formats, gap_or, semi, text, when, ◌·◌}
use Rattle.print_layout_spec.specs.declared.look.Look.{Look}
use Rattle.print_layout_spec.specs.declared.look.Stand.{Stand}
use Rattle.print_layout_spec.specs.declared.look.Stand.TheVariants.{Alone}
use Rattle.again_laws.specs.Tokens.Ties.{is_tying}
use Rattle.again_laws.specs.Tokens.Spacings.{Spacing, Spaced, Touching}
use Rattle.again_laws.specs.Tokens.Lexicon.{Lexicon}
use Rattle.again_laws.specs.Tokens.Means.{Known}
use Rattle.again_laws.specs.Tokens.Texts.{word_text}
use Rattle.again_laws.specs.Tokens.Told.{Breaks, says}
use Rattle.again_laws.specs.Derived.Redo.{Plain, Redone}
use Rattle.again_laws.proofs.derived_rules.Naming.{leaves_at}
use Rattle.again_laws.proofs.derived_rules.Begins.{item_outer}
use Rattle.again_laws.proofs.derived_rules.Bodies.{follow_closed, item_closed, statement_on}
use Rattle.again_laws.proofs.derived_rules.Ends.{above, absent_same, ended_known, quiet_at, there}
use Rattle.again_laws.proofs.derived_rules.Follow.{no_item}
use Rattle.again_laws.proofs.derived_rules.Names.{id_on}
use Rattle.again_laws.proofs.derived_rules.Shapes.{alike, re_is_absent}
use Rattle.again_laws.proofs.derived_rules.Sound.{Out, Sound, expr, expr_low}
use Rattle.again_laws.proofs.derived_rules.Tokens.{behind_word, blank_broke, ended, keyed, semi_of, skip, took, worded}
use Rattle.again_laws.proofs.derived_rules.If.{body_item, body_same}
use Rattle.again_laws.proofs.derived_rules.Loops.{body_on}
use Rattle.again_laws.proofs.derived_rules.Simple.{parens_in}

break_else : break_kind ≡ else_kind → ⊥
break_else e = omega arith

continue_else : continue_kind ≡ else_kind → ⊥
continue_else e = omega arith

throw_else : throw_kind ≡ else_kind → ⊥
throw_else e = omega arith

with_else : with_kind ≡ else_kind → ⊥
with_else e = omega arith

module _ (look : Look) (x : Lexicon look.style) where
  pub return_on : (s : Span) (e : Tree) → Sound look x.naming Alone e → (st : Stand) → Sound look x.naming st (return_stmt s e)
  return_on s e f st c ts0 r0 h k b ts K q = by (is_absent e) refl h.2 (subst (λ (v : Bool). says x.naming (when v (gap_or look (starts_with_word e) · laid look Alone e) · semi) Touching q.0 K) (there e) q.2)
    where
      opens : return_kind ≡ else_kind → ⊥
      opens e = omega arith

      at_kind : kind ts ≡ return_kind
      at_kind = keyed look x return_kind q.1

      by : (v : Bool) → is_absent e ≡ v → By v (Ends c plain_end h.0 r0) ((n : Input) × (brk h.0 ≡ false) × Expr expression_level c (child e (λ y. Produces e y)) h.0 n × Ends c (ends e) n r0)
          → says x.naming (when (not v) (gap_or look (starts_with_word e) · laid look Alone e) · semi) Touching q.0 K → Out look x.naming st (return_stmt s e) c ts0 r0 b ts K
      by true a g i = let o = semi_of Touching q.0 K i in record {
        d = o.0;
        m = o.1;
        more = o.3;
        known = ended_known look x c plain_end h.0 r0 g (x.later ts0 h.0 h.1.3 k);
        broke = q.1.broke;
        tight = λ e. absurd (true≢false (sym e));
        begins = λ e. absurd (opens (sym at_kind ∙ e));
        again = λ l. record {
          tree = return_stmt (span (lo ts) o.1.last) absent;
          produced = (q.0, worded look x c return_kind q.1, ended look x c plain_end o.2, refl);
          directive = refl;
          quoted = λ p q. refl;
          same = record { so = λ n. ap (λ (t : Tree). return_stmt no_place t) ((absent_same (leaves_at look x.naming) Plain e a).so Plain) };
        };
      }
      by false a g i =
          let u = skip x.naming (starts_with_word e || formats look) _ _ _ i in
          let y = expr look x.naming expression_level Alone e f (omega arith) c h.0 g.0 g.2 (x.later ts0 h.0 h.1.3 k) _ q.0 _ u in
          let o = semi_of y.d y.m K y.more in let j = quiet_at look x o.2 in record {
            d = o.0;
            m = o.1;
            more = o.3;
            known = ended_known look x c (ends e) g.0 r0 g.3 y.known;
            broke = q.1.broke;
            tight = λ e. absurd (true≢false (sym e));
            begins = λ e. absurd (opens (sym at_kind ∙ e));
            again = λ l. let w = y.again (record { quiet = λ z. j.calm; other = λ z. absurd (no_item e (above expression_level (level e) (omega arith) g.2.0) z) }) in record {
              tree = return_stmt (span (lo ts) o.1.last) w.tree;
              produced = (q.0, worded look x c return_kind q.1, by_no (is_absent w.tree) _ _ (alike is_absent re_is_absent (leaves_at look x.naming) Plain e w.tree w.same ∙ a) (y.m, behind_word look x return_kind refl q.1 y.broke ∙ blank_broke (starts_with_word e || formats look) Touching, expr_low look x.naming expression_level Alone e c q.0 y.m g.2.0 (omega arith) w, ended look x c (ends w.tree) o.2), refl);
              directive = refl;
              quoted = λ p q. refl;
              same = record { so = λ n. ap (λ (t : Tree). return_stmt no_place t) (w.same.so Plain) };
            };
          }

  pub throw_on : (s : Span) (e : Tree) → Sound look x.naming Alone e → (st : Stand) → Sound look x.naming st (throw_stmt s e)
  throw_on s e f st c ts0 r0 h k b ts K q =
      let n = above expression_level (level e) (omega arith) h.4.0 in
      let y = expr look x.naming expression_level Alone e f (omega arith) c h.0 h.1 h.4 (x.later ts0 h.0 h.2.3 k) _ q.0 _ (skip x.naming (starts_with_word e || formats look) Touching q.0 _ q.2) in
      let o = semi_of y.d y.m K y.more in record {
        d = o.0;
        m = o.1;
        more = o.3;
        known = ended_known look x c (ends e) h.1 r0 h.5 y.known;
        broke = q.1.broke;
        tight = λ e. absurd (true≢false (sym e));
        begins = λ e. absurd (throw_else (sym (keyed look x throw_kind q.1) ∙ e));
        again = λ l. let w = y.again (record { quiet = λ z. (quiet_at look x o.2).calm; other = λ z. absurd (no_item e n z) }) in record {
          tree = throw_stmt (span (lo ts) o.1.last) w.tree;
          produced = (q.0, y.m, worded look x c throw_kind q.1, behind_word look x throw_kind refl q.1 y.broke ∙ blank_broke (starts_with_word e || formats look) Touching, expr_low look x.naming expression_level Alone e c q.0 y.m h.4.0 (omega arith) w, ended look x c (ends w.tree) o.2, refl);
          directive = refl;
          quoted = λ p q. refl;
          same = record { so = λ n. ap (λ (t : Tree). throw_stmt no_place t) (w.same.so Plain) };
        };
      }

  -- ---- 14.8, 14.9

  record Jumped (word : ℕ) (label : Tree) (c : Code) (r0 : Input) (b : Spacing) (ts : Input) (K : Spacing → Input → Type 0) : Type 0 where
    d : Spacing
    m : Input
    more : K d m
    known : Known r0.places
    broke : Breaks x.naming b ts
    lead : kind ts ≡ word
    again : (u : Tree) × Jump word (unplaced c) (span (lo ts) m.last) (child u (λ y. Produces u y)) ts m × Redone (leaves_at look x.naming) Plain label u

  jump_on : (word : ℕ) → is_tying word ≡ true → (label : Tree) (c : Code) (s : Span) (ts0 r0 : Input) → Jump word c s (child label (λ y. Produces label y)) ts0 r0 → Known ts0.places → (b : Spacing) (ts : Input) (K : Spacing → Input → Type 0) → says x.naming (text (word_text word) · when (is_there label) (blank · laid look Alone label) · semi) b ts K → Jumped word label c r0 b ts K
  jump_on word j label c s ts0 r0 h k b ts K q = by (is_absent label) refl h.3 (subst (λ (v : Bool). says x.naming (when v (blank · laid look Alone label) · semi) Touching q.0 K) (there label) q.2)
    where
      by : (v : Bool) → is_absent label ≡ v → By v (h.0 ≡ h.1) ((brk h.0 ≡ false) × Sorted is_ident c (child label (λ y. Produces label y)) h.0 h.1) → says x.naming (when (not v) (blank · laid look Alone label) · semi) Touching q.0 K → Jumped word label c r0 b ts K
      by true a g p = let o = semi_of Touching q.0 K p in record {
        d = o.0;
        m = o.1;
        more = o.3;
        known = ended_known look x c plain_end h.1 r0 h.4 (subst (λ (i : Input). Known i.places) g (x.later ts0 h.0 h.2.3 k));
        broke = q.1.broke;
        lead = keyed look x word q.1;
        again = (absent, (q.0, q.0, worded look x c word q.1, refl, ended look x c plain_end o.2, refl), absent_same (leaves_at look x.naming) Plain label a);
      }
      by false a g p =
          let z = id_on look x label c h.0 h.1 g.1 (x.later ts0 h.0 h.2.3 k) Spaced q.0 (λ d m. says x.naming semi d m K) p in
          let o = semi_of Touching z.m K z.more in record {
            d = o.0;
            m = o.1;
            more = o.3;
            known = ended_known look x c plain_end h.1 r0 h.4 z.known;
            broke = q.1.broke;
            lead = keyed look x word q.1;
            again = (z.again.0, (q.0, z.m, worded look x c word q.1, by_no (is_absent z.again.0) _ _ (alike is_absent re_is_absent (leaves_at look x.naming) Plain label z.again.0 z.again.2 ∙ a) (behind_word look x word j q.1 z.broke, z.again.1), ended look x c plain_end o.2, refl), z.again.2);
          }

  pub break_on : (s : Span) (l : Tree) (st : Stand) → Sound look x.naming st (break_stmt s l)
  break_on s l st c ts0 r0 h k b ts K q = let z = jump_on break_kind refl l c s ts0 r0 h k b ts K q in record {
    d = z.d;
    m = z.m;
    more = z.more;
    known = z.known;
    broke = z.broke;
    tight = λ e. absurd (true≢false (sym e));
    begins = λ e. absurd (break_else (sym z.lead ∙ e));
    again = λ g. record { tree = break_stmt (span (lo ts) z.m.last) z.again.0; produced = z.again.1; directive = refl; quoted = λ p q. refl; same = record { so = λ n. ap (λ (t : Tree). break_stmt no_place t) (z.again.2.so Plain) } };
  }

  pub continue_on : (s : Span) (l : Tree) (st : Stand) → Sound look x.naming st (continue_stmt s l)
  continue_on s l st c ts0 r0 h k b ts K q = let z = jump_on continue_kind refl l c s ts0 r0 h k b ts K q in record {
    d = z.d;
    m = z.m;
    more = z.more;
    known = z.known;
    broke = z.broke;
    tight = λ e. absurd (true≢false (sym e));
    begins = λ e. absurd (continue_else (sym z.lead ∙ e));
    again = λ g. record { tree = continue_stmt (span (lo ts) z.m.last) z.again.0; produced = z.again.1; directive = refl; quoted = λ p q. refl; same = record { so = λ n. ap (λ (t : Tree). continue_stmt no_place t) (z.again.2.so Plain) } };
  }

  -- ---- 14.11, 14.13

  pub with_on : (s : Span) (e b : Tree) → Sound look x.naming Alone e → Sound look x.naming Alone b → (st : Stand) → Sound look x.naming st (with_stmt s e b)
  with_on s e b f g st c ts0 r0 h k br ts K q =
      let y = parens_in look x e f c h.0 h.1 h.3 (x.later ts0 h.0 h.2.3 k) _ q.0 (λ d m. says x.naming (laid look Alone b · closing look b) d m K) (skip x.naming (formats look) Touching q.0 _ q.2) in
      let z = body_on look x b g c h.1 r0 h.4 y.known Touching y.m K y.more in record {
        d = z.d;
        m = z.m;
        more = z.more;
        known = z.known;
        broke = q.1.broke;
        tight = λ e. absurd (true≢false (sym e));
        begins = λ e. absurd (with_else (sym (keyed look x with_kind q.1) ∙ e));
        again = λ l. let w = z.again (l.other refl) in record {
          tree = with_stmt (span (lo ts) z.m.last) y.again.0 w.0;
          produced = (q.0, y.m, worded look x c with_kind q.1, y.again.1, w.1, refl);
          directive = refl;
          quoted = λ p q. refl;
          same = record { so = λ n. ap₂ (λ (t u : Tree). with_stmt no_place t u) (y.again.2.so Plain) (w.2.so Plain) };
        };
      }

  pub labelled_on : (s : Span) (l b : Tree) → Sound look x.naming Alone b → (st : Stand) → Sound look x.naming st (labeled_stmt s l b)
  labelled_on s l b f st c ts0 r0 h k br ts K q =
      let z = id_on look x l c ts0 h.0 h.2 k br ts _ q in
      let o = z.more in
      let n = body_item look x c b h.4.0 in
      let v = statement_on look x b f (item_outer b n) (alone c) h.1 r0 h.4.1 (x.later h.0 h.1 h.3.2 z.known) _ o.0 K (skip x.naming (formats look) Touching o.0 _ o.2) in record {
        d = v.more.0;
        m = v.m;
        more = v.more.1;
        known = v.known;
        broke = z.broke;
        tight = λ e. absurd (true≢false (sym e));
        begins = z.first;
        again = λ i. let w = v.again (follow_closed b r0 v.m (item_closed b n) (i.other refl)) in record {
          tree = labeled_stmt (span (lo ts) v.m.last) z.again.0 w.tree;
          produced = (z.m, o.0, z.again.1, took look x c colon_kind o.1, (body_same look x c b w.tree w.same h.4.0, w.produced), refl);
          directive = refl;
          quoted = λ p q. refl;
          same = record { so = λ n. ap₂ (λ (t u : Tree). labeled_stmt no_place t u) (z.again.2.so Plain) (w.same.so Plain) };
        };
      }
