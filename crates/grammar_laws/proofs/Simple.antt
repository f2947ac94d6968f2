-- Statements other than loops with a head: they produce what they are read of.
use Rattle.std.proofs.Common.{◌≡◌, ℕ, inl, inr, Bool, true, false, not, ◌&&◌, ◌||◌, eqb, List, [], ◌∷◌, ◌++◌, Ok, refl, sym, ap, ◌∙◌, subst, true≢false, append_assoc, append-nil, arith}
use Rattle.std.proofs.lemmas.Bool.{or_parts, or_left}
use Rattle.base_token.specs.declared.place.Span.{Span}
use Rattle.base_token.specs.Kinds.{left_paren_kind, right_paren_kind, left_brace_kind, right_brace_kind, semicolon_kind, colon_kind, end_kind, case_kind, catch_kind, debugger_kind, default_kind, do_kind, else_kind, finally_kind, if_kind, return_kind, switch_kind, throw_kind, try_kind, while_kind, with_kind}
use Rattle.tree_spec.specs.Tree.{Tree, pack, ident, absent, with_stmt, while_stmt, do_while_stmt, if_stmt, return_stmt, throw_stmt, debugger_stmt, switch_stmt, switch_case, try_stmt, catch_clause}
use Rattle.grammar_spec.specs.Tokens.Input.{Input, Code, kind, brk, barred, text, Takes, TakesWord, lo, hi, span, first_span, in_list, alone, is_strict}
use Rattle.grammar_spec.specs.Tokens.Operators.{expression_level, plain_end}
use Rattle.grammar_spec.specs.Tokens.Shape.{ends, is_absent, is_item, is_statement, is_plain_function, is_block, is_case, is_catch, is_default_case, is_binding}
use Rattle.grammar_spec.specs.Children.{child, By, Expr, Sorted, Maybe, Items, Ends, is_ident}
use Rattle.grammar_spec.specs.Statements.{Sub, SubOrFunction, InParens, Jump, Cases, ClosesCase}
use Rattle.grammar_spec.specs.Grammar.{Produces, children}
use Rattle.grammar_spec.specs.Reader.Source.{State, Inner, go_on, finished, iterate}
use Rattle.grammar_spec.specs.Reader.Statements.{block_by, in_parens, sub_by, with_by, while_by, do_by, Chain, chained, branched, else_by, if_step, if_by, ends_here, return_by, throw_by, label_by, jump_by, debugger_by, case_step, case_rest, case_by, has_default, cases_step, switch_by, catch_by, finally_by, try_by}
use Rattle.grammar_laws.proofs.Sure.{lm, seen, next, Grows, same, Sure, done, gives, then_sure, if_sure, test_sure, only_sure, eat_sure, word_sure, name_sure, StepSure, loop_sure}
use Rattle.grammar_laws.proofs.Covers.{patterned, plain, by_no}
use Rattle.grammar_laws.proofs.Nested.{Sound, GotStmt, named, end_sure}
use Rattle.grammar_laws.proofs.Functions.{Before, All_read, at_start, one_more, at_end}
use Rattle.grammar_laws.proofs.Lists.{block_sure}
use Rattle.grammar_laws.proofs.Shapes.{present, chained_snoc}

-- an answer that stands where the source stood
pub ended : {A : Type 0} (s r : State Input) (x : A) (P : A × State Input → Type 0) → r.commas ≡ s.commas → P (x, r) → Sure s.commas (Ok (x, r)) P
ended s r x P e p = gives s.commas (x, r) P (subst (λ k. Grows s.commas k) (sym e) (same s.commas)) p

stated : (b : Tree) (x : Bool) → (is_statement b || (x && is_plain_function b)) ≡ true → is_absent b ≡ false
stated absent x e = absurd (true≢false (sym e ∙ no x))
  where
    no : (x : Bool) → (x && false) ≡ false
    no true = refl
    no false = refl
stated _ x e = refl

blocked : (b : Tree) → is_block b ≡ true → is_absent b ≡ false
blocked absent e = absurd (true≢false (sym e))
blocked _ e = refl

caught : (b : Tree) → is_catch b ≡ true → is_absent b ≡ false
caught absent e = absurd (true≢false (sym e))
caught _ e = refl

or_false : (x : Bool) → (x || false) ≡ true → x ≡ true
or_false true e = refl
or_false false e = e

pub no_break : (c : Code) (inner : Inner Input) (s : State Input) → ends_here lm inner c s ≡ false → brk (seen s) ≡ false
no_break c inner s e = (or_parts (eqb (kind (seen s)) end_kind) (brk (seen s)) (or_parts (eqb (kind (seen s)) right_brace_kind) _ (or_parts (eqb (kind (seen s)) semicolon_kind) _ e).1).1).1

module _ (inner : Inner Input) (good : Sound inner) where
  pub parens_sure : (c : Code) (s : State Input) → Sure s.commas (in_parens lm inner c s) (λ x. InParens (plain c) (child x.0 (λ y. Produces x.0 y)) (seen s) (seen x.1))
  unfolding in_parens
  parens_sure c s = eat_sure left_paren_kind s _ _ (λ e. then_sure s.commas (inner.expr c expression_level (next s)) _ _ _ (good.expr c expression_level (next s) (omega arith)) (λ x h. eat_sure right_paren_kind x.1 _ _ (λ z. done (x.0, next x.1) _ (seen (next s), seen x.1, (e, tt, refl), (h.0, h.1.produced), (z, tt, refl)))))

  pub sub_sure : (c : Code) (s : State Input) → Sure s.commas (sub_by lm inner c false s) (λ x. Sub (plain c) (child x.0 (λ y. Produces x.0 y)) (seen s) (seen x.1))
  unfolding sub_by
  sub_sure c s = then_sure s.commas (inner.stmt (alone c) s) _ _ _ (good.stmt (alone c) s) (λ t h. only_sure _ t.1.commas (is_statement t.0 || (false && (not (is_strict c) && is_plain_function t.0))) _ _ (λ e. done t _ (or_false (is_statement t.0) e, h.1)))

  pub either_sure : (c : Code) (s : State Input) → Sure s.commas (sub_by lm inner c true s) (λ x. SubOrFunction (plain c) (child x.0 (λ y. Produces x.0 y)) (seen s) (seen x.1))
  unfolding sub_by
  either_sure c s = then_sure s.commas (inner.stmt (alone c) s) _ _ _ (good.stmt (alone c) s) (λ t h. only_sure _ t.1.commas (is_statement t.0 || (true && (not (is_strict c) && is_plain_function t.0))) _ _ (λ e. done t _ (e, h.1)))

  pub with_sure : (c : Code) (s : State Input) → Sure s.commas (with_by lm inner c s) (GotStmt c s)
  unfolding with_by
  with_sure c s = word_sure c with_kind s _ _ (λ e b. then_sure s.commas (in_parens lm inner c (next s)) _ _ _ (parens_sure c (next s)) (λ x h. then_sure x.1.commas (sub_by lm inner c false x.1) _ _ _ (sub_sure c x.1) (λ y k.
      done (with_stmt (span (lo (seen s)) y.1.source.last) x.0 y.0, y.1) (GotStmt c s) (refl, (seen (next s), seen x.1, (e, b, tt, refl), h, k, refl)))))

  pub while_sure : (c : Code) (s : State Input) → Sure s.commas (while_by lm inner c s) (GotStmt c s)
  unfolding while_by
  while_sure c s = word_sure c while_kind s _ _ (λ e b. then_sure s.commas (in_parens lm inner c (next s)) _ _ _ (parens_sure c (next s)) (λ x h. then_sure x.1.commas (sub_by lm inner c false x.1) _ _ _ (sub_sure c x.1) (λ y k.
      done (while_stmt (span (lo (seen s)) y.1.source.last) x.0 y.0, y.1) (GotStmt c s) (refl, (seen (next s), seen x.1, (e, b, tt, refl), h, k, refl)))))

  pub do_sure : (c : Code) (s : State Input) → Sure s.commas (do_by lm inner c s) (GotStmt c s)
  unfolding do_by
  do_sure c s = word_sure c do_kind s _ _ (λ e b. then_sure s.commas (sub_by lm inner c false (next s)) _ _ _ (sub_sure c (next s)) (λ y k. word_sure c while_kind y.1 _ _ (λ z w. then_sure y.1.commas (in_parens lm inner c (next y.1)) _ _ _ (parens_sure c (next y.1)) (λ x h.
      test_sure x.1.commas (kind (seen x.1)) semicolon_kind _ _ _
      (λ q. done (do_while_stmt (span (lo (seen s)) (hi (seen x.1))) x.0 y.0, next x.1) (GotStmt c s) (refl, (seen (next s), seen y.1, seen (next y.1), seen x.1, (e, b, tt, refl), k, (z, w, tt, refl), h, inl (q, tt, refl), refl)))
      (λ q. done (do_while_stmt (span (lo (seen s)) x.1.source.last) x.0 y.0, x.1) (GotStmt c s) (refl, (seen (next s), seen y.1, seen (next y.1), seen x.1, (e, b, tt, refl), k, (z, w, tt, refl), h, inr (q, refl), refl)))))))

  -- what was read of a chain of `else if`: with an `if` after it, it is a statement; at its end it is one
  record Opened (c : Code) (ts : Input) (x : Chain) (s : State Input) : Type 0 where
    so : (t : Tree) (r : Input) → is_statement t ≡ true → Produces t (plain x.code) (seen s) r → (is_item (chained r.last x.branches t) ≡ true) × Produces (chained r.last x.branches t) (plain c) ts r

  record Ended (c : Code) (ts : Input) (x : Chain) (s : State Input) : Type 0 where
    so : (is_item (chained (seen s).last x.branches x.last) ≡ true) × Produces (chained (seen s).last x.branches x.last) (plain c) ts (seen s)

  -- one branch more, before this alternative
  branch_sure : (c : Code) (ts : Input) (x : Chain) (s : State Input) → Opened c ts x s → (e a t : Tree) (m n r : Input) → TakesWord (plain x.code) if_kind (seen s) (seen (next s)) → InParens (plain x.code) (child e (λ y. Produces e y)) (seen (next s)) m → SubOrFunction (plain x.code) (child a (λ y. Produces a y)) m n
      → By (is_absent t) ((kind n ≡ else_kind → ⊥) × (n ≡ r)) ((o : Input) × TakesWord (plain x.code) else_kind n o × SubOrFunction (plain x.code) (child t (λ y. Produces t y)) o r)
      → (is_item (chained r.last (branched lm inner (lo (seen s)) x e a).branches t) ≡ true) × Produces (chained r.last (branched lm inner (lo (seen s)) x e a).branches t) (plain c) ts r
  branch_sure c ts x s i e a t m n r w h k b = subst (λ (y : Tree). (is_item y ≡ true) × Produces y (plain c) ts r) (sym (chained_snoc r.last x.branches (record { start = lo (seen s); test = e; consequent = a }) t))
      (i.so (if_stmt (span (lo (seen s)) r.last) e a t) r refl (seen (next s), m, n, w, h, k, b, refl))

  if_step_sure : (c : Code) (ts : Input) (x : Chain) (s : State Input) → Opened c ts x s → Sure s.commas (if_step lm inner x s) (StepSure (Opened c ts) (Ended c ts))
  unfolding if_step else_by
  if_step_sure c ts x s i = word_sure x.code if_kind s _ _ (λ e b. then_sure s.commas (in_parens lm inner x.code (next s)) _ _ _ (parens_sure x.code (next s)) (λ u h. then_sure u.1.commas (sub_by lm inner x.code true u.1) _ _ _ (either_sure x.code u.1) (λ y k.
      test_sure y.1.commas (kind (seen y.1)) else_kind _ _ _
      (λ z. word_sure x.code else_kind y.1 _ _ (λ q w. test_sure y.1.commas (kind (seen (next y.1))) if_kind _ _ _
      (λ v. done (go_on (record { branches = (branched lm inner (lo (seen s)) x u.0 y.0).branches; code = alone x.code; last = absent }), next y.1) (StepSure (Opened c ts) (Ended c ts))
      (record { so = λ t r g f. branch_sure c ts x s i u.0 y.0 t (seen u.1) (seen y.1) r (e, b, tt, refl) h k (alternative x.code t (seen y.1) (seen (next y.1)) r (q, w, tt, refl) (or_left (is_statement t) _ g, f)) }))
      (λ v. then_sure y.1.commas (sub_by lm inner x.code true (next y.1)) _ _ _ (either_sure x.code (next y.1)) (λ o j.
      done (finished (record { branches = (branched lm inner (lo (seen s)) x u.0 y.0).branches; code = x.code; last = o.0 }), o.1) (StepSure (Opened c ts) (Ended c ts))
      (record { so = branch_sure c ts x s i u.0 y.0 o.0 (seen u.1) (seen y.1) (seen o.1) (e, b, tt, refl) h k (alternative x.code o.0 (seen y.1) (seen (next y.1)) (seen o.1) (q, w, tt, refl) j) })))))
      (λ n. done (finished (branched lm inner (lo (seen s)) x u.0 y.0), y.1) (StepSure (Opened c ts) (Ended c ts)) (record { so = branch_sure c ts x s i u.0 y.0 absent (seen u.1) (seen y.1) (seen y.1) (e, b, tt, refl) h k (n, refl) })))))
    where
      alternative : (y : Code) (t : Tree) (n o r : Input) → TakesWord (plain y) else_kind n o → SubOrFunction (plain y) (child t (λ a. Produces t a)) o r → By (is_absent t) ((kind n ≡ else_kind → ⊥) × (n ≡ r)) ((o : Input) × TakesWord (plain y) else_kind n o × SubOrFunction (plain y) (child t (λ y. Produces t y)) o r)
      alternative y t n o r w j = by_no (is_absent t) ((kind n ≡ else_kind → ⊥) × (n ≡ r)) ((p : Input) × TakesWord (plain y) else_kind n p × SubOrFunction (plain y) (child t (λ a. Produces t a)) p r) (stated t (not (is_strict y)) j.0) (o, w, j)

  pub if_stmt_sure : (c : Code) (s : State Input) → Sure s.commas (if_by lm inner c s) (GotStmt c s)
  unfolding if_by
  if_stmt_sure c s = then_sure s.commas (iterate _ (if_step lm inner) (record { branches = []; code = c; last = absent }) s) _ _ _
      (loop_sure (if_step lm inner) (Opened c (seen s)) (Ended c (seen s)) (λ x r i. if_step_sure c (seen s) x r i) (record { branches = []; code = c; last = absent }) s (record { so = λ t r g f. (or_left (is_statement t) _ g, f) }))
      (λ x h. done (chained x.1.source.last x.0.branches x.0.last, x.1) (GotStmt c s) h.so)

  pub return_sure : (c : Code) (s : State Input) → Sure s.commas (return_by lm inner c s) (GotStmt c s)
  unfolding return_by
  return_sure c s = word_sure c return_kind s _ _ (λ e b. if_sure s.commas (ends_here lm inner c (next s)) _ _ _
      (λ _. end_sure c plain_end (next s) _ _ (λ r q z. ended s r (return_stmt (span (lo (seen s)) r.source.last) absent) (GotStmt c s) q (refl, (seen (next s), (e, b, tt, refl), z, refl))))
      (λ n. then_sure s.commas (inner.expr c expression_level (next s)) _ _ _ (good.expr c expression_level (next s) (omega arith)) (λ x h. end_sure c (ends x.0) x.1 _ _ (λ r q z.
      ended x.1 r (return_stmt (span (lo (seen s)) r.source.last) x.0) (GotStmt c s) q (
        refl,
        (
          seen (next s),
          (e, b, tt, refl),
          by_no (is_absent x.0) (Ends (plain c) plain_end (seen (next s)) (seen r)) ((n : Input) × (brk (seen (next s)) ≡ false) × Expr expression_level (plain c) (child x.0 (λ y. Produces x.0 y)) (seen (next s)) n × Ends (plain c) (ends x.0) n (seen r)) (present x.0 h.0)
              (seen x.1, no_break c inner (next s) n, (h.0, h.1.produced), z),
          refl,
        ),
      )))))

  pub throw_sure : (c : Code) (s : State Input) → Sure s.commas (throw_by lm inner c s) (GotStmt c s)
  unfolding throw_by
  throw_sure c s = word_sure c throw_kind s _ _ (λ e b. if_sure s.commas (brk (seen (next s))) _ _ _ (λ _. record { so = tt })
      (λ n. then_sure s.commas (inner.expr c expression_level (next s)) _ _ _ (good.expr c expression_level (next s) (omega arith)) (λ x h. end_sure c (ends x.0) x.1 _ _ (λ r q z.
      ended x.1 r (throw_stmt (span (lo (seen s)) r.source.last) x.0) (GotStmt c s) q (refl, (seen (next s), seen x.1, (e, b, tt, refl), n, (h.0, h.1.produced), z, refl))))))

  pub debugger_sure : (c : Code) (s : State Input) → Sure s.commas (debugger_by lm inner c s) (GotStmt c s)
  unfolding debugger_by
  debugger_sure c s = word_sure c debugger_kind s _ _ (λ e b. end_sure c plain_end (next s) _ _ (λ r q z. ended s r (debugger_stmt (span (lo (seen s)) r.source.last)) (GotStmt c s) q (refl, (seen (next s), (e, b, tt, refl), z, refl))))

  pub jump_sure : (word : ℕ) (make : Span → Tree → Tree) (c : Code) (s : State Input) → ((p : Span) (l : Tree) (r : Input) → Jump word (plain c) p (child l (λ y. Produces l y)) (seen s) r → (is_item (make p l) ≡ true) × Produces (make p l) (plain c) (seen s) r) → Sure s.commas (jump_by lm inner word make c s) (GotStmt c s)
  unfolding jump_by label_by
  jump_sure word make c s f = word_sure c word s _ _ (λ e b. then_sure s.commas _ _ (λ l. By (is_absent l.0) (seen (next s) ≡ seen l.1) ((brk (seen (next s)) ≡ false) × Sorted is_ident (plain c) (child l.0 (λ y. Produces l.0 y)) (seen (next s)) (seen l.1))) _
      (if_sure s.commas (ends_here lm inner c (next s)) _ _ _ (λ _. done (absent, next s) _ refl) (λ n. name_sure c (next s) _ _ (λ i. done (ident (first_span (seen (next s))) (text (seen (next s))), next (next s)) _ (no_break c inner (next s) n, (refl, named c (next s) i)))))
      (λ l h. end_sure c plain_end l.1 _ _ (λ r q z. ended l.1 r (make (span (lo (seen s)) r.source.last) l.0) (GotStmt c s) q (f (span (lo (seen s)) r.source.last) l.0 (seen r) (seen (next s), seen l.1, (e, b, tt, refl), h, z, refl)))))

  -- ---- `switch`

  abbrev CaseList : Code → List Tree → Input → Input → Type 0
  CaseList c ys ts r = Items is_item ClosesCase (plain c) false (children (pack ys)) ts r

  case_step_sure : (c : Code) (ts : Input) (ss : List Tree) (s : State Input) → Before (CaseList c) ts ss s → Sure s.commas (case_step lm inner c ss s) (StepSure (Before (CaseList c) ts) (All_read (CaseList c) ts))
  unfolding case_step
  case_step_sure c ts ss s b = if_sure s.commas (eqb (kind (seen s)) case_kind || (eqb (kind (seen s)) default_kind || eqb (kind (seen s)) right_brace_kind)) _ _ _
      (λ e. done (finished ss, s) (StepSure (Before (CaseList c) ts) (All_read (CaseList c) ts)) (at_end (CaseList c) ts ss s s b (e, refl)))
      (λ _. then_sure s.commas (inner.stmt (in_list c) s) _ _ _ (good.stmt (in_list c) s) (λ t h. done (go_on (ss ++ t.0 ∷ []), t.1) (StepSure (Before (CaseList c) ts) (All_read (CaseList c) ts)) (one_more (CaseList c) ts ss s t.0 t.1 b (λ ys r k. (seen t.1, h.0, h.1, k)))))

  abbrev GotCase : Code → State Input → Tree × State Input → Type 0
  GotCase c s x = (is_case x.0 ≡ true) × Produces x.0 (plain c) (seen s) (seen x.1)

  case_rest_sure : (c : Code) (start : State Input) (e : Tree) (s : State Input) → By (is_absent e) (TakesWord (plain c) default_kind (seen start) (seen s)) ((o : Input) × TakesWord (plain c) case_kind (seen start) o × Expr expression_level (plain c) (child e (λ y. Produces e y)) o (seen s))
      → Sure s.commas (case_rest lm inner c (lo (seen start)) e s) (GotCase c start)
  unfolding case_rest
  case_rest_sure c start e s h = eat_sure colon_kind s _ _ (λ z. then_sure s.commas (iterate _ (case_step lm inner c) [] (next s)) _ _ _ (loop_sure (case_step lm inner c) (Before (CaseList c) (seen (next s))) (All_read (CaseList c) (seen (next s))) (λ x r b. case_step_sure c (seen (next s)) x r b) [] (next s) (at_start (CaseList c) (seen (next s)) (next s) refl))
      (λ ss k. done (switch_case (span (lo (seen start)) ss.1.source.last) e (pack ss.0), ss.1) (GotCase c start) (refl, (seen s, seen (next s), h, (z, tt, refl), k.so, refl))))

  case_sure : (c : Code) (s : State Input) → Sure s.commas (case_by lm inner c s) (GotCase c s)
  unfolding case_by
  case_sure c s = test_sure s.commas (kind (seen s)) default_kind _ _ _ (λ _. word_sure c default_kind s _ _ (λ e b. case_rest_sure c s absent (next s) (e, b, tt, refl)))
      (λ _. word_sure c case_kind s _ _ (λ e b. then_sure s.commas (inner.expr c expression_level (next s)) _ _ _ (good.expr c expression_level (next s) (omega arith)) (λ x h.
      case_rest_sure c s x.0 x.1 (by_no (is_absent x.0) (TakesWord (plain c) default_kind (seen s) (seen x.1)) ((o : Input) × TakesWord (plain c) case_kind (seen s) o × Expr expression_level (plain c) (child x.0 (λ y. Produces x.0 y)) o (seen x.1)) (present x.0 h.0) (seen (next s), (e, b, tt, refl), (h.0, h.1.produced))))))

  record CasesFront (c : Code) (ts : Input) (xs : List Tree) (s : State Input) : Type 0 where
    so : (ys : List Tree) (r : Input) → Cases (plain c) (has_default lm inner xs) (children (pack ys)) (seen s) r → Cases (plain c) false (children (pack (xs ++ ys))) ts r

  record CasesWhole (c : Code) (ts : Input) (xs : List Tree) (s : State Input) : Type 0 where
    so : Cases (plain c) false (children (pack xs)) ts (seen s)

  had_more : (xs : List Tree) (x : Tree) → has_default lm inner (xs ++ x ∷ []) ≡ (has_default lm inner xs || is_default_case x)
  had_more [] x = or_nothing (is_default_case x)
    where
      or_nothing : (b : Bool) → (b || false) ≡ b
      or_nothing true = refl
      or_nothing false = refl
  had_more (y ∷ ys) x = ap (λ z. is_default_case y || z) (had_more ys x) ∙ again (is_default_case y) (has_default lm inner ys) (is_default_case x)
    where
      again : (a b d : Bool) → (a || (b || d)) ≡ ((a || b) || d)
      again true b d = refl
      again false b d = refl

  cases_step_sure : (c : Code) (ts : Input) (xs : List Tree) (s : State Input) → CasesFront c ts xs s → Sure s.commas (cases_step lm inner c xs s) (StepSure (CasesFront c ts) (CasesWhole c ts))
  unfolding cases_step
  cases_step_sure c ts xs s i = test_sure s.commas (kind (seen s)) right_brace_kind _ _ _
      (λ e. done (finished xs, next s) (StepSure (CasesFront c ts) (CasesWhole c ts)) (record { so = subst (λ z. Cases (plain c) false (children (pack z)) ts (seen (next s))) (append-nil xs) (i.so [] (seen (next s)) (e, tt, refl)) }))
      (λ _. then_sure s.commas (case_by lm inner c s) _ _ _ (case_sure c s) (λ x h. if_sure x.1.commas (has_default lm inner xs && is_default_case x.0) _ _ _ (λ _. record { so = tt })
      (λ n. done (go_on (xs ++ x.0 ∷ []), x.1) (StepSure (CasesFront c ts) (CasesWhole c ts)) (record {
        so = λ ys r k. subst (λ z. Cases (plain c) false (children (pack z)) ts r) (sym (append_assoc xs (x.0 ∷ []) ys))
            (i.so (x.0 ∷ ys) r (seen x.1, n, h, subst (λ z. Cases (plain c) z (children (pack ys)) (seen x.1) r) (had_more xs x.0) k));
      }))))

  pub switch_sure : (c : Code) (s : State Input) → Sure s.commas (switch_by lm inner c s) (GotStmt c s)
  unfolding switch_by
  switch_sure c s = word_sure c switch_kind s _ _ (λ e b. then_sure s.commas (in_parens lm inner c (next s)) _ _ _ (parens_sure c (next s)) (λ x h. eat_sure left_brace_kind x.1 _ _ (λ z.
      then_sure x.1.commas (iterate _ (cases_step lm inner c) [] (next x.1)) _ _ _ (loop_sure (cases_step lm inner c) (CasesFront c (seen (next x.1))) (CasesWhole c (seen (next x.1))) (λ y r i. cases_step_sure c (seen (next x.1)) y r i) [] (next x.1) (record { so = λ ys r k. k }))
      (λ xs k. done (switch_stmt (span (lo (seen s)) xs.1.source.last) x.0 (pack xs.0), xs.1) (GotStmt c s) (refl, (seen (next s), seen x.1, seen (next x.1), (e, b, tt, refl), h, (z, tt, refl), k.so, refl))))))

  -- ---- `try`

  catch_sure : (c : Code) (s : State Input) → Sure s.commas (catch_by lm inner c s) (λ x. (is_catch x.0 ≡ true) × Produces x.0 (plain c) (seen s) (seen x.1))
  unfolding catch_by
  catch_sure c s = word_sure c catch_kind s _ _ (λ e b. test_sure s.commas (kind (seen (next s))) left_paren_kind _ _ _
      (λ z. then_sure s.commas (inner.pat c (next (next s))) _ _ _ (good.pat c (next (next s))) (λ p h. eat_sure right_paren_kind p.1 _ _ (λ q. then_sure p.1.commas (block_by lm inner c (next p.1)) _ _ _ (block_sure inner good c (next p.1)) (λ y k.
      done (catch_clause (span (lo (seen s)) y.1.source.last) p.0 y.0, y.1) _ (
        refl,
        (
          seen (next s),
          seen (next p.1),
          (e, b, tt, refl),
          by_no (is_absent p.0) (seen (next s) ≡ seen (next p.1)) ((o : Input) × (u : Input) × Takes (plain c) left_paren_kind (seen (next s)) o × (is_binding p.0 ≡ true) × Produces p.0 (patterned true c) o u × Takes (plain c) right_paren_kind u (seen (next p.1))) (bound_present p.0 h.0)
              (seen (next (next s)), seen p.1, (z, tt, refl), h.0, h.1, (q, tt, refl)),
          (k.0, k.2),
          refl,
        ),
      )))))
      (λ _. then_sure s.commas (block_by lm inner c (next s)) _ _ _ (block_sure inner good c (next s)) (λ y k. done (catch_clause (span (lo (seen s)) y.1.source.last) absent y.0, y.1) _ (refl, (seen (next s), seen (next s), (e, b, tt, refl), refl, (k.0, k.2), refl)))))
    where
      bound_present : (p : Tree) → is_binding p ≡ true → is_absent p ≡ false
      bound_present absent e = absurd (true≢false (sym e))
      bound_present _ e = refl

  finally_sure : (c : Code) (start : State Input) (b h : Tree) (m n : Input) (s : State Input) → TakesWord (plain c) try_kind (seen start) m → Sorted is_block (plain c) (child b (λ y. Produces b y)) m n → Maybe (Sorted is_catch) (plain c) (child h (λ y. Produces h y)) n (seen s)
      → Sure s.commas (finally_by lm inner c (lo (seen start)) b h s) (GotStmt c start)
  unfolding finally_by
  finally_sure c start b h m n s t k g = if_sure s.commas (eqb (kind (seen s)) finally_kind && not (barred c.context (seen s))) _ _ _
      (λ _. word_sure c finally_kind s _ _ (λ e w. then_sure s.commas (block_by lm inner c (next s)) _ _ _ (block_sure inner good c (next s)) (λ f j. let z = blocked f.0 j.0 in
      done (try_stmt (span (lo (seen start)) f.1.source.last) b h f.0, f.1) (GotStmt c start) (
        refl,
        (
          m,
          n,
          seen s,
          both (is_absent h) (is_absent f.0) z,
          t,
          k,
          g,
          by_no (is_absent f.0) (seen s ≡ seen f.1) ((p : Input) × TakesWord (plain c) finally_kind (seen s) p × Sorted is_block (plain c) (child f.0 (λ y. Produces f.0 y)) p (seen f.1)) z (seen (next s), (e, w, tt, refl), (j.0, j.2)),
          refl,
        ),
      ))))
      (λ _. if_sure s.commas (is_absent h) _ _ _ (λ _. record { so = tt }) (λ z. done (try_stmt (span (lo (seen start)) s.source.last) b h absent, s) (GotStmt c start) (refl, (m, n, seen s, ap (λ x. x && true) z, t, k, g, refl, refl))))
    where
      both : (x y : Bool) → y ≡ false → (x && y) ≡ false
      both true y e = e
      both false y e = refl

  pub try_sure : (c : Code) (s : State Input) → Sure s.commas (try_by lm inner c s) (GotStmt c s)
  unfolding try_by
  try_sure c s = word_sure c try_kind s _ _ (λ e b. then_sure s.commas (block_by lm inner c (next s)) _ _ _ (block_sure inner good c (next s)) (λ y k. test_sure y.1.commas (kind (seen y.1)) catch_kind _ _ _
      (λ _. then_sure y.1.commas (catch_by lm inner c y.1) _ _ _ (catch_sure c y.1) (λ h j. finally_sure c s y.0 h.0 (seen (next s)) (seen y.1) h.1 (e, b, tt, refl) (k.0, k.2)
      (by_no (is_absent h.0) (seen y.1 ≡ seen h.1) (Sorted is_catch (plain c) (child h.0 (λ y. Produces h.0 y)) (seen y.1) (seen h.1)) (caught h.0 j.0) j)))
      (λ _. finally_sure c s y.0 absent (seen (next s)) (seen y.1) y.1 (e, b, tt, refl) (k.0, k.2) refl)))
