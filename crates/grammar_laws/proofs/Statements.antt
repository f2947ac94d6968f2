-- Any statement or declaration produces what it is read of.
use Rattle.std.proofs.Common.{◌≡◌, ℕ, Bool, true, false, not, ◌&&◌, ◌||◌, cond, eqb, leb, List, Option, Some, Result, Err, refl, sym, ap, subst, true≢false, arith}
use Rattle.std.proofs.lemmas.Bool.{eqb-true, and_parts, not-true, ne_eqb, or_from}
use Rattle.base_proofs.proofs.Bools.{and_false}
use Rattle.base_token.specs.declared.place.Span.{Span}
use Rattle.base_token.specs.Kinds.{left_bracket_kind, left_brace_kind, semicolon_kind, colon_kind, await_kind, break_kind, continue_kind, debugger_kind, do_kind, for_kind, function_kind, if_kind, return_kind, switch_kind, throw_kind, try_kind, var_kind, let_kind, const_kind, while_kind, with_kind, class_kind, async_kind, using_kind}
use Rattle.tree_spec.specs.Tree.{Tree, pack, ident, empty_stmt, break_stmt, continue_stmt, fn_decl, class_decl, var_decl, using_decl, expr_stmt, labeled_stmt}
use Rattle.grammar_spec.specs.Tokens.Input.{Input, Code, kind, kind2, brk2, text, TakesWord, lo, span, first_span, with_in, turned_strict, barred}
use Rattle.grammar_spec.specs.Tokens.Operators.{expression_level, may_name}
use Rattle.grammar_spec.specs.Tokens.Shape.{is_name, declarators_end, FunctionParts, function_parts, class_span}
use Rattle.grammar_spec.specs.Children.{child, is_ident}
use Rattle.grammar_spec.specs.Functions.{Async, FunctionDeclaration, ClassDeclaration}
use Rattle.grammar_spec.specs.Statements.{is_var_word, starts_expression_statement, UsingBindings}
use Rattle.grammar_spec.specs.Grammar.{Produces, children}
use Rattle.grammar_spec.specs.Reader.Source.{Fault, State, Inner, operand}
use Rattle.grammar_spec.specs.Reader.Expressions.{function_by}
use Rattle.grammar_spec.specs.Reader.Statements.{block_by, starts_variables, variables_by, starts_using, starts_await_using, using_by, declarators_by, function_decl_by, class_decl_by, sub_by, statement_class, labelled_by, expression_by, starts_async, keyword_stmt, stmt_by, stmt_from}
use Rattle.grammar_laws.proofs.Sure.{lm, seen, next, Sure, done, then_sure, sure_map, at_commas, if_sure, test_sure, only_sure, word_sure, name_sure}
use Rattle.grammar_laws.proofs.Covers.{plain}
use Rattle.grammar_laws.proofs.Nested.{Sound, GotStmt, named, end_sure}
use Rattle.grammar_laws.proofs.Functions.{function_sure, star_sure}
use Rattle.grammar_laws.proofs.Primaries.{soft}
use Rattle.grammar_laws.proofs.Lists.{block_sure, Declarators, declarators_sure}
use Rattle.grammar_laws.proofs.Simple.{ended, either_sure, with_sure, while_sure, do_sure, if_stmt_sure, return_sure, throw_sure, debugger_sure, jump_sure, switch_sure, try_sure}
use Rattle.grammar_laws.proofs.Loops.{for_sure, no_pattern, var_word}

either_one : (b : Bool) → (not b || b) ≡ true
either_one true = refl
either_one false = refl

label_ident : (t : Tree) → is_name t ≡ true → is_ident t ≡ true
label_ident (ident s n) e = refl
label_ident _ e = absurd (true≢false (sym e))

function_declared : (c : Code) (s : Span) (name f : Tree) (p : FunctionParts) (ts r : Input) → function_parts f ≡ Some p → FunctionDeclaration (plain c) s (child name (λ y. Produces name y)) (child f (λ y. Produces f y)) (Some p) ts r → Produces (fn_decl s name f) (plain c) ts r
function_declared c s name f p ts r e h = subst (λ (o : Option FunctionParts). FunctionDeclaration (plain c) s (child name (λ y. Produces name y)) (child f (λ y. Produces f y)) o ts r) (sym e) h

class_declared : (c : Code) (s : Span) (name k : Tree) (ts r : Input) → class_span k ≡ Some s → ClassDeclaration (plain c) s (child name (λ y. Produces name y)) (child k (λ y. Produces k y)) (Some s) ts r → Produces (class_decl s name k) (plain c) ts r
class_declared c s name k ts r e h = subst (λ (o : Option Span). ClassDeclaration (plain c) s (child name (λ y. Produces name y)) (child k (λ y. Produces k y)) o ts r) (sym e) h

module _ (inner : Inner Input) (good : Sound inner) where
  variables_sure : (c : Code) (s : State Input) → is_var_word (kind (seen s)) ≡ true → Sure s.commas (variables_by lm inner c s) (GotStmt c s)
  unfolding variables_by
  variables_sure c s v = word_sure c (kind (seen s)) s _ _ (λ e b. then_sure s.commas (declarators_by lm inner c (next s)) _ _ _ (declarators_sure inner good c (next s)) (λ ds h. end_sure c (declarators_end (pack ds.0)) ds.1 _ _ (λ r q z.
      ended ds.1 r (var_decl (span (lo (seen s)) r.source.last) (kind (seen s)) (pack ds.0)) (GotStmt c s) q (either_one (leb let_kind (kind (seen s))), (seen ds.1, (seen (next s), v, (refl, b, tt, refl), h), z, refl)))))

  using_sure : (c : Code) (start : State Input) (awaits : Bool) (s : State Input) → ((ds : List Tree) (r : Input) → TakesWord (plain c) using_kind (seen s) (seen (next s)) → Declarators inner good c ds (seen (next s)) r → UsingBindings (plain c) awaits (children (pack ds)) (seen start) r)
      → Sure s.commas (using_by lm inner c (lo (seen start)) awaits s) (GotStmt c start)
  unfolding using_by
  using_sure c start awaits s f = word_sure c using_kind s _ _ (λ e b. then_sure s.commas (declarators_by lm inner c (next s)) _ _ _ (declarators_sure inner good c (next s)) (λ ds h. end_sure c (declarators_end (pack ds.0)) ds.1 _ _ (λ r q z.
      ended ds.1 r (using_decl (span (lo (seen start)) r.source.last) awaits (pack ds.0)) (GotStmt c start) q (refl, (seen ds.1, f ds.0 (seen ds.1) (e, b, tt, refl) h, z, refl)))))

  function_sure_by : (c : Code) (start : State Input) (a : Bool) (s : State Input) → Async a (plain c) (seen start) (seen s) → Sure s.commas (function_decl_by lm inner c (lo (seen start)) a s) (GotStmt c start)
  unfolding function_decl_by
  function_sure_by c start a s h = word_sure c function_kind s _ _ (λ e b. star_sure inner c (next s) _ _ (λ g r q t. at_commas s.commas r.commas _ (GotStmt c start) q
      (name_sure c r _ _ (λ i. then_sure r.commas (function_by lm inner c (lo (seen start)) g a (next r)) _ _ _ (function_sure inner good c (lo (seen start)) g a (next r)) (λ f w. let p = span (lo (seen start)) f.1.source.last in
      let n = ident (first_span (seen r)) (text (seen r)) in
      done (fn_decl p n f.0, f.1) (GotStmt c start) (refl, function_declared c p n f.0 (record { span = p; generator = g; async = a; count = w.0 }) (seen start) (seen f.1) w.1 (seen r, seen (next r), (seen s, seen (next s), h, (e, b, tt, refl), t), (refl, named c r i), w.2, refl, refl)))))))

  class_sure : (c : Code) (s : State Input) → Sure s.commas (class_decl_by lm inner c s) (GotStmt c s)
  unfolding class_decl_by
  class_sure c s = word_sure c class_kind s _ _ (λ e b. name_sure (turned_strict c) (next s) _ _ (λ i. then_sure s.commas (inner.class_tail (turned_strict (with_in c)) (lo (seen s)) (next (next s))) _ _ _ (good.class_tail (turned_strict (with_in c)) (lo (seen s)) (next (next s))) (λ k h.
      let p = span (lo (seen s)) k.1.source.last in let n = ident (first_span (seen (next s))) (text (seen (next s))) in
      done (class_decl p n k.0, k.1) (GotStmt c s) (refl, class_declared c p n k.0 (seen s) (seen k.1) h.0 (seen (next s), seen (next (next s)), (e, b, tt, refl), (refl, named (turned_strict c) (next s) i), h.1, refl, refl)))))

  -- what starts an expression statement is none of the words that were told apart
  starts_plain : (s : State Input) → (kind (seen s) ≡ left_brace_kind → ⊥) → (kind (seen s) ≡ function_kind → ⊥) → (kind (seen s) ≡ class_kind → ⊥) → starts_async lm inner s ≡ false → (eqb (kind (seen s)) let_kind && eqb (kind2 (seen s)) left_bracket_kind) ≡ false → starts_expression_statement (seen s) ≡ true
  starts_plain s a b d e f = ap not (or_from _ _ (ne_eqb (kind (seen s)) left_brace_kind a) (or_from _ _ (ne_eqb (kind (seen s)) function_kind b) (or_from _ _ (ne_eqb (kind (seen s)) class_kind d) (or_from _ _ e f))))

  labelled_sure : (c : Code) (start : State Input) (l : Tree) (s : State Input) → is_ident l ≡ true → Produces l (plain c) (seen start) (seen s) → kind (seen s) ≡ colon_kind → Sure s.commas (labelled_by lm inner c (lo (seen start)) l s) (GotStmt c start)
  unfolding labelled_by
  labelled_sure c start l s i h e = then_sure s.commas (sub_by lm inner c true (next s)) _ _ _ (either_sure inner good c (next s)) (λ b k. done (labeled_stmt (span (lo (seen start)) b.1.source.last) l b.0, b.1) (GotStmt c start) (refl, (seen s, seen (next s), (i, h), (e, tt, refl), k, refl)))

  expression_sure : (c : Code) (s : State Input) → (kind (seen s) ≡ left_brace_kind → ⊥) → (kind (seen s) ≡ function_kind → ⊥) → (kind (seen s) ≡ class_kind → ⊥) → starts_async lm inner s ≡ false → Sure s.commas (expression_by lm inner c s) (GotStmt c s)
  unfolding expression_by
  expression_sure c s a b d f = if_sure s.commas (eqb (kind (seen s)) let_kind && eqb (kind2 (seen s)) left_bracket_kind) _ _ _ (λ _. record { so = tt }) (λ n.
      then_sure s.commas (inner.expr c expression_level s) _ _ _ (good.expr c expression_level s (omega arith)) (λ e h. if_sure e.1.commas (is_name e.0 && eqb (kind (seen e.1)) colon_kind) _ _ _
      (λ z. let y = and_parts (is_name e.0) (eqb (kind (seen e.1)) colon_kind) z in labelled_sure c s e.0 e.1 (label_ident e.0 y.0) h.1.produced (eqb-true (kind (seen e.1)) colon_kind y.1))
      (λ _. end_sure c (statement_class lm inner c s e.0) e.1 _ _ (λ r q z. ended e.1 r (expr_stmt (span (lo (seen s)) r.source.last) e.0) (GotStmt c s) q (refl, (seen e.1, starts_plain s a b d f n, (h.0, h.1.produced), z, refl))))))

  refused : (e : Fault) (l : Bool) (k : List ℕ) (x : Result (Tree × State Input) Fault) (P : Tree × State Input → Type 0) → Sure k x P → Sure k (cond l x (Err e)) P
  refused e l k x P h = only_sure e k l x P (λ _. h)

  keyword_sure : (c : Code) (s : State Input) → (kind (seen s) ≡ left_brace_kind → ⊥) → Sure s.commas (keyword_stmt lm inner c s) (GotStmt c s)
  unfolding keyword_stmt
  keyword_sure c s nb =
      test_sure s.commas (kind (seen s)) if_kind _ _ _ (λ _. if_stmt_sure inner good c s) (λ _.
      test_sure s.commas (kind (seen s)) return_kind _ _ _ (λ _. return_sure inner good c s) (λ _.
      test_sure s.commas (kind (seen s)) for_kind _ _ _ (λ _. for_sure inner good c s) (λ _.
      test_sure s.commas (kind (seen s)) while_kind _ _ _ (λ _. while_sure inner good c s) (λ _.
      test_sure s.commas (kind (seen s)) do_kind _ _ _ (λ _. do_sure inner good c s) (λ _.
      test_sure s.commas (kind (seen s)) switch_kind _ _ _ (λ _. switch_sure inner good c s) (λ _.
      test_sure s.commas (kind (seen s)) try_kind _ _ _ (λ _. try_sure inner good c s) (λ _.
      test_sure s.commas (kind (seen s)) throw_kind _ _ _ (λ _. throw_sure inner good c s) (λ _.
      test_sure s.commas (kind (seen s)) break_kind _ _ _ (λ _. jump_sure inner good break_kind break_stmt c s (λ p l r h. (refl, h))) (λ _.
      test_sure s.commas (kind (seen s)) continue_kind _ _ _ (λ _. jump_sure inner good continue_kind continue_stmt c s (λ p l r h. (refl, h))) (λ _.
      test_sure s.commas (kind (seen s)) with_kind _ _ _ (λ _. with_sure inner good c s) (λ _.
      test_sure s.commas (kind (seen s)) debugger_kind _ _ _ (λ _. debugger_sure inner good c s) (λ _.
      test_sure s.commas (kind (seen s)) function_kind _ _ _ (λ _. function_sure_by c s false s refl) (λ nf.
      test_sure s.commas (kind (seen s)) class_kind _ _ _ (λ _. refused _ c.listed s.commas _ _ (class_sure c s)) (λ nc.
      if_sure s.commas (starts_async lm inner s) _ _ _ (λ z. let b = and_parts (eqb (kind (seen s)) async_kind) (eqb (kind2 (seen s)) function_kind && not (brk2 (seen s))) z in let d = and_parts (eqb (kind2 (seen s)) function_kind) (not (brk2 (seen s))) b.1 in
      let e = eqb-true (kind (seen s)) async_kind b.0 in refused _ c.listed s.commas _ _ (function_sure_by c s true (next s) ((e, soft c async_kind s e and_false, tt, refl), not-true (brk2 (seen s)) d.1))) (λ na.
      if_sure s.commas (starts_variables lm inner c s) _ _ _ (λ z. variables_sure c s (listed_word (eqb (kind (seen s)) var_kind) c.listed (eqb (kind (seen s)) let_kind) (eqb (kind (seen s)) const_kind) _ z)) (λ _.
      if_sure s.commas (c.listed && starts_using lm inner c s) _ _ _ (λ z. let b = and_parts c.listed (starts_using lm inner c s) z in
      let d = and_parts c.syntax.explicit_resource_management _ b.1 in let i = and_parts (eqb (kind (seen s)) using_kind) (may_name (kind2 (seen s)) && not (brk2 (seen s))) d.1 in let j = and_parts (may_name (kind2 (seen s))) (not (brk2 (seen s))) i.1 in
      using_sure c s false s (λ ds r t k. (seen (next s), d.0, t, not-true (brk2 (seen s)) j.1, no_pattern (kind2 (seen s)) j.0, k))) (λ _.
      if_sure s.commas (c.listed && starts_await_using lm inner c s) _ _ _ (λ z. let b = and_parts c.listed (starts_await_using lm inner c s) z in
      let x = and_parts c.context.in_async _ b.1 in let y = and_parts (eqb (kind (seen s)) await_kind) (not (barred c.context (seen s)) && (not (brk2 (seen s)) && starts_using lm inner c (next s))) x.1 in let u = and_parts (not (barred c.context (seen s))) (not (brk2 (seen s)) && starts_using lm inner c (next s)) y.1 in
      let w = and_parts (not (brk2 (seen s))) (starts_using lm inner c (next s)) u.1 in
      let d = and_parts c.syntax.explicit_resource_management _ w.1 in let i = and_parts (eqb (kind (seen (next s))) using_kind) (may_name (kind2 (seen (next s))) && not (brk2 (seen (next s)))) d.1 in let j = and_parts (may_name (kind2 (seen (next s)))) (not (brk2 (seen (next s)))) i.1 in
      using_sure c s true (next s) (λ ds r t k. (seen (next s), seen (next (next s)), d.0, x.0, (eqb-true (kind (seen s)) await_kind y.0, not-true (barred c.context (seen s)) u.0, tt, refl), not-true (brk2 (seen s)) w.0, t, not-true (brk2 (seen (next s))) j.1, no_pattern (kind2 (seen (next s))) j.0, k))) (λ _.
      expression_sure c s nb nf nc na))))))))))))))))))
    where
      listed_word : (v t l d z : Bool) → (v || (t && (d || (l && z)))) ≡ true → (v || (l || d)) ≡ true
      listed_word true t l d z e = refl
      listed_word false true l d z e = var_word false l d z e
      listed_word false false l d z e = absurd (true≢false (sym e))

  pub stmt_sure : (c : Code) (s : State Input) → Sure s.commas (stmt_from lm inner c s) (GotStmt c s)
  unfolding stmt_from stmt_by
  stmt_sure c s = test_sure s.commas (kind (seen s)) semicolon_kind _ _ _ (λ e. done (empty_stmt (first_span (seen s)), next s) (GotStmt c s) (refl, ((e, tt, refl), refl))) (λ _.
      test_sure s.commas (kind (seen s)) left_brace_kind _ _ _ (λ _. sure_map s.commas (block_by lm inner c s) _ _ (block_sure inner good c s) (λ x h. (h.1, h.2))) (λ n. keyword_sure c (operand lm s) n))
