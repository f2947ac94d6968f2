-- Expression statements, blocks, and expressions in parentheses derived again (14.2, 14.5).
use Rattle.std.proofs.Common.{Bool, ap, arith, false, inl, inr, not, refl, subst, sym, true, true≢false, ℕ, ◌&&◌, ◌-◌, ◌==◌, ◌||◌, ◌∙◌, ◌≡◌, ◌⊎◌}
use Rattle.std.proofs.lemmas.Bool.{eqb-true, ne_eqb}
use Rattle.base_token.specs.Kinds.{async_kind, class_kind, debugger_kind, else_kind, function_kind, left_brace_kind, left_bracket_kind, left_paren_kind, let_kind, right_paren_kind, semicolon_kind}
use Rattle.base_token.specs.declared.place.Span.{Span}
use Rattle.tree_spec.specs.Places.{no_place}
use Rattle.tree_spec.specs.Tree.{Tree, Trees, block_stmt, debugger_stmt, empty_stmt, expr_stmt}
use Rattle.grammar_spec.specs.Tokens.Input.{Code, Input, assigning, brk2, kind, kind2, lo, rest, span, unplaced}
use Rattle.grammar_spec.specs.Tokens.Operators.{expression_level, plain_end}
use Rattle.grammar_spec.specs.Tokens.Shape.{level}
use Rattle.grammar_spec.specs.Grammar.{Produces}
use Rattle.grammar_spec.specs.Children.{child}
use Rattle.grammar_spec.specs.Statements.{InParens, starts_expression_statement, statement_end}
use Rattle.print_layout_spec.specs.Layout.{in_parens, laid, marked_as_body}
use Rattle.print_layout_spec.specs.declared.look.Look.{Look}
use Rattle.print_layout_spec.specs.declared.look.Stand.{Stand}
use Rattle.print_layout_spec.specs.declared.look.Stand.TheVariants.{Alone}
use Rattle.again_laws.specs.Tokens.Spacings.{Spacing, Touching}
use Rattle.again_laws.specs.Tokens.Lexicon.{Lexicon}
use Rattle.again_laws.specs.Tokens.Means.{Known}
use Rattle.again_laws.specs.Tokens.Told.{says}
use Rattle.again_laws.specs.Derived.Redo.{Plain, Redone}
use Rattle.again_laws.proofs.derived_rules.Naming.{leaves_at}
use Rattle.again_laws.proofs.derived_rules.Begins.{Begins, fine, no_else, same_start}
use Rattle.again_laws.proofs.derived_rules.Bodies.{braced}
use Rattle.again_laws.proofs.derived_rules.Ends.{Quiet, above, ended_known, quiet_at}
use Rattle.again_laws.proofs.derived_rules.Follow.{follow_by, no_item}
use Rattle.again_laws.proofs.derived_rules.Sound.{AllSound, Sound, expr, expr_begins, expr_low}
use Rattle.again_laws.proofs.derived_rules.Tokens.{ended, keyed, marked, semi_of, skip_mark, took, worded}

third : (a f jf jb b b0 : Bool) → (jf ≡ true → b0 ≡ false) → not ((a && (jf && not b0)) || (f && jb)) ≡ true → not ((a && (jf && not b)) || (f && jb)) ≡ true
third true f true jb b true q h = absurd (true≢false (q refl))
third true f true jb b false q h = absurd (true≢false (sym h))
third true f false jb b b0 q h = h
third false f jf jb b b0 q h = h

flat : (a f b : Bool) → not ((a && (false && not b)) || (f && false)) ≡ true
flat true true b = refl
flat true false b = refl
flat false true b = refl
flat false false b = refl

abbrev Second : Bool → Bool → Bool → Bool → Bool → Type 0
Second jf jb jf0 jb0 b0 = ((jf ≡ false) × (jb ≡ false)) ⊎ ((jf ≡ jf0) × (jb ≡ jb0) × (jf ≡ true → b0 ≡ false))

two : (a f jf jb jf0 jb0 b b0 : Bool) → Second jf jb jf0 jb0 b0 → not ((a && (jf0 && not b0)) || (f && jb0)) ≡ true → not ((a && (jf && not b)) || (f && jb)) ≡ true
two a f jf jb jf0 jb0 b b0 (inl p) h = subst (λ (z : Bool). not ((a && (z && not b)) || (f && jb)) ≡ true) (sym p.0) (subst (λ (z : Bool). not ((a && (false && not b)) || (f && z)) ≡ true) (sym p.1) (flat a f b))
two a f jf jb jf0 jb0 b b0 (inr p) h = third a f jf jb b b0 p.2 (subst (λ (z : Bool). not ((a && (z && not b0)) || (f && jb)) ≡ true) (sym p.0) (subst (λ (z : Bool). not ((a && (jf0 && not b0)) || (f && z)) ≡ true) (sym p.1) h))

bars : (u v w a f jf jb jf0 jb0 b b0 : Bool) → not (u || (v || (w || ((a && (jf0 && not b0)) || (f && jb0))))) ≡ true → ((f || a) ≡ true → Second jf jb jf0 jb0 b0) → not (u || (v || (w || ((a && (jf && not b)) || (f && jb))))) ≡ true
bars true v w a f jf jb jf0 jb0 b b0 h g = h
bars false true w a f jf jb jf0 jb0 b b0 h g = h
bars false false true a f jf jb jf0 jb0 b b0 h g = h
bars false false false false false jf jb jf0 jb0 b b0 h g = refl
bars false false false false true jf jb jf0 jb0 b b0 h g = two false true jf jb jf0 jb0 b b0 (g refl) h
bars false false false true false jf jb jf0 jb0 b b0 h g = two true false jf jb jf0 jb0 b b0 (g refl) h
bars false false false true true jf jb jf0 jb0 b b0 h g = two true true jf jb jf0 jb0 b b0 (g refl) h

starts_again : {v : Bool} (ts0 m0 ts m : Input) → Begins v ts0 m0 ts m → Quiet m → starts_expression_statement ts0 ≡ true → starts_expression_statement ts ≡ true
starts_again ts0 m0 ts m (fine i e f) g h = e
starts_again ts0 m0 ts m (same_start e f) g h = bars (kind ts == left_brace_kind) (kind ts == function_kind) (kind ts == class_kind) (kind ts == async_kind) (kind ts == let_kind) (kind2 ts == function_kind) (kind2 ts == left_bracket_kind)
    (kind2 ts0 == function_kind) (kind2 ts0 == left_bracket_kind) (brk2 ts) (brk2 ts0)
    (subst (λ (k : ℕ). not ((k == left_brace_kind) || ((k == function_kind) || ((k == class_kind) || (((k == async_kind) && ((kind2 ts0 == function_kind) && not (brk2 ts0))) || ((k == let_kind) && (kind2 ts0 == left_bracket_kind)))))) ≡ true) (sym e) h)
    (λ q. second (f q))
  where
    second : ((rest ts0 ≡ m0) × (rest ts ≡ m)) ⊎ ((kind2 ts ≡ kind2 ts0) × (kind2 ts ≡ function_kind → brk2 ts0 ≡ false)) → Second (kind2 ts == function_kind) (kind2 ts == left_bracket_kind) (kind2 ts0 == function_kind) (kind2 ts0 == left_bracket_kind) (brk2 ts0)
    second (inl p) = inl (ne_eqb (kind2 ts) function_kind (λ q. g.function (sym (ap kind p.1) ∙ q)), ne_eqb (kind2 ts) left_bracket_kind (λ q. g.bracket (sym (ap kind p.1) ∙ q)))
    second (inr p) = inr (ap (λ (k : ℕ). k == function_kind) p.0, ap (λ (k : ℕ). k == left_bracket_kind) p.0, λ q. p.1 (eqb-true (kind2 ts) function_kind q))

empty_else : semicolon_kind ≡ else_kind → ⊥
empty_else e = omega arith

debugger_else : debugger_kind ≡ else_kind → ⊥
debugger_else e = omega arith

module _ (look : Look) (x : Lexicon look.style) where
  pub expression_on : (s : Span) (e : Tree) → Sound look x.naming Alone e → (st : Stand) → Sound look x.naming st (expr_stmt s e)
  expression_on s e f st c ts0 r0 h k b ts K q =
      let y = expr look x.naming expression_level Alone e f (omega arith) c ts0 h.0 h.2 k b ts _ q in
      let u = expr_begins look x.naming Alone e (assigning c) ts0 h.0 b ts _ (above expression_level (level e) (omega arith) h.2.0) y in
      let o = semi_of y.d y.m K y.more in let i = quiet_at look x o.2 in record {
        d = o.0;
        m = o.1;
        more = o.3;
        known = ended_known look x c (statement_end c ts0 e) h.0 r0 h.3 y.known;
        broke = y.broke;
        tight = λ e. absurd (true≢false (sym e));
        begins = no_else ts0 h.0 ts y.m u;
        again = λ g. let w = y.again (record { quiet = λ z. i.calm; other = λ z. absurd (no_item e (above expression_level (level e) (omega arith) h.2.0) z) }) in record {
          tree = expr_stmt (span (lo ts) o.1.last) w.tree;
          produced = (y.m, starts_again ts0 h.0 ts y.m u i h.1, expr_low look x.naming expression_level Alone e c ts y.m h.2.0 (omega arith) w, ended look x c (statement_end (unplaced c) ts w.tree) o.2, refl);
          directive = w.quoted (span (lo ts) o.1.last) s;
          quoted = λ p q. refl;
          same = record { so = λ n. ap (λ (t : Tree). expr_stmt no_place t) (w.same.so Plain) };
        };
      }

  pub block_on : (s : Span) (ss : Trees) → AllSound look x.naming ss → (st : Stand) → Sound look x.naming st (block_stmt s ss)
  block_on s ss a st c ts0 r0 h k b ts K q =
      let z = braced look x c false ss a ts0 h.0 r0 h.1 h.2 k b ts K (record { lo = record { 0 = s.hi.0 - 1 }; hi = s.hi }) (skip_mark x.naming (marked_as_body st) s.lo _ _ _ q) in record {
        d = Touching;
        m = z.m;
        more = z.more;
        known = z.known;
        broke = z.broke;
        tight = λ e. absurd (true≢false (sym e));
        begins = λ e. absurd (brace_opens (sym z.lead ∙ e));
        again = λ g. record {
          tree = block_stmt (span (lo ts) z.m.last) z.again.0;
          produced = (z.again.1, z.again.2, z.again.3, refl);
          directive = refl;
          quoted = λ p q. refl;
          same = record { so = λ n. ap (λ (us : Trees). block_stmt no_place us) (z.again.4.so Plain) };
        };
      }
    where
      brace_opens : left_brace_kind ≡ else_kind → ⊥
      brace_opens e = omega arith

  -- an expression in parentheses
  pub record Parens (e : Tree) (c : Code) (r0 : Input) (b : Spacing) (ts : Input) (K : Spacing → Input → Type 0) : Type 0 where
    pub m : Input
    pub more : K Touching m
    pub known : Known r0.places
    pub again : (u : Tree) × InParens (unplaced c) (child u (λ y. Produces u y)) ts m × Redone (leaves_at look x.naming) Plain e u

  pub parens_in : (e : Tree) → Sound look x.naming Alone e → (c : Code) (ts0 r0 : Input) → InParens c (child e (λ y. Produces e y)) ts0 r0 → Known ts0.places → (b : Spacing) (ts : Input) (K : Spacing → Input → Type 0) → says x.naming (in_parens (laid look Alone e)) b ts K → Parens e c r0 b ts K
  parens_in e f c ts0 r0 h k b ts K q =
      let y = expr look x.naming expression_level Alone e f (omega arith) c h.0 h.1 h.3 (x.later ts0 h.0 h.2.2 k) _ q.0 _ q.2 in
      let o = y.more in let w = y.again (follow_by Alone e h.1 y.m right_paren_kind (marked look x right_paren_kind o.1) refl) in record {
        m = o.0;
        more = o.2;
        known = x.later h.1 r0 h.4.2 y.known;
        again = (w.tree, (q.0, y.m, took look x c left_paren_kind q.1, expr_low look x.naming expression_level Alone e c q.0 y.m h.3.0 (omega arith) w, took look x c right_paren_kind o.1), w.same);
      }

  -- ---- 14.4, 14.16

  pub empty_on : (s : Span) (st : Stand) → Sound look x.naming st (empty_stmt s)
  empty_on s st c ts0 r0 h k b ts K q = record {
    d = Touching;
    m = q.0;
    more = q.2;
    known = x.later ts0 r0 h.0.2 k;
    broke = q.1.broke;
    tight = λ e. absurd (true≢false (sym e));
    begins = λ e. absurd (empty_else (sym (marked look x semicolon_kind q.1) ∙ e));
    again = λ g. record { tree = empty_stmt (span (lo ts) q.0.last); produced = (took look x c semicolon_kind q.1, refl); directive = refl; quoted = λ p q. refl; same = record { so = λ n. refl } };
  }

  pub debugger_on : (s : Span) (st : Stand) → Sound look x.naming st (debugger_stmt s)
  debugger_on s st c ts0 r0 h k b ts K q = let o = semi_of Touching q.0 K q.2 in record {
    d = o.0;
    m = o.1;
    more = o.3;
    known = ended_known look x c plain_end h.0 r0 h.2 (x.later ts0 h.0 h.1.3 k);
    broke = q.1.broke;
    tight = λ e. absurd (true≢false (sym e));
    begins = λ e. absurd (debugger_else (sym (keyed look x debugger_kind q.1) ∙ e));
    again = λ g. record { tree = debugger_stmt (span (lo ts) o.1.last); produced = (q.0, worded look x c debugger_kind q.1, ended look x c plain_end o.2, refl); directive = refl; quoted = λ p q. refl; same = record { so = λ n. refl } };
  }
