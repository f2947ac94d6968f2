-- Any statement or declaration: the first token tells which rule reads it.
use Rattle.std.proofs.Common.{◌≡◌, ℕ, ◌<◌, ◌≤◌, inl, inr, Bool, true, false, not, ◌&&◌, ◌||◌, ◌==◌, eqb, leb, List, if◌then◌else◌, refl, sym, ap, ◌∙◌, subst, ⊎_elim, true≢false, arith}
use Rattle.std.proofs.lemmas.Bool.{eqb-true, eq-eqb, or_left, or_from, or_cases, or_parts, and_left, and_right, and_parts, and_from, not-true}
use Rattle.base_token.specs.declared.place.Span.{Span}
use Rattle.base_token.specs.Kinds.{end_kind, colon_kind, semicolon_kind, left_bracket_kind, left_brace_kind, right_brace_kind, await_kind, break_kind, continue_kind, debugger_kind, do_kind, for_kind, function_kind, if_kind, return_kind, switch_kind, throw_kind, try_kind, var_kind, let_kind, const_kind, while_kind, with_kind, class_kind, async_kind, using_kind}
use Rattle.tree_spec.specs.Tree.{Tree, Trees, block_stmt, empty_stmt, debugger_stmt, with_stmt, return_stmt, labeled_stmt, break_stmt, continue_stmt, if_stmt, switch_stmt, throw_stmt, try_stmt, while_stmt, do_while_stmt, for_stmt, for_in_stmt, for_of_stmt, expr_stmt, class_decl, fn_decl, var_decl, using_decl, function, ident, binding_ident, expr_pat}
use Rattle.grammar_spec.specs.Tokens.Input.{Input, Code, kind, kind2, brk, brk2, lo, span, rest, assigning}
use Rattle.grammar_spec.specs.Tokens.Operators.{expression_level, may_name, let_end, goes_on}
use Rattle.grammar_spec.specs.Tokens.Shape.{level, ends, is_name, is_item, is_statement, is_plain_function}
use Rattle.grammar_spec.specs.Children.{is_ident, Ends}
use Rattle.grammar_spec.specs.Statements.{is_var_word, statement_end, ForAwaitOpen}
use Rattle.grammar_spec.specs.Grammar.{Produces}
use Rattle.grammar_spec.specs.Reader.Source.{unexpected, State, Inner}
use Rattle.grammar_spec.specs.Reader.Statements.{keyword_stmt, stmt_by, stmt_from, expression_by, starts_async, starts_variables, starts_let, starts_using, starts_await_using, if_by, return_by, for_by, while_by, do_by, switch_by, try_by, throw_by, jump_by, with_by, debugger_by, function_decl_by, class_decl_by, variables_by, using_by}
use Rattle.grammar_laws.proofs.complete_base.Yields.{lm, from, coded, Reads, Is, then_is, onto, past_here, if_no, if_yes, first_at}
use Rattle.grammar_laws.proofs.complete_base.Trees.{no_kind}
use Rattle.grammar_laws.proofs.complete_rules.Nested.{Nested, allowed, leaves}
use Rattle.grammar_laws.proofs.complete_rules.Within.{Within, within}
use Rattle.grammar_laws.proofs.complete_rules.Follows.{halted, statement_follows, then_end, built, lifted}
use Rattle.grammar_laws.proofs.complete_rules.Starts.{opens, Opening, After, one_name, tame, opening, level_opener, no_open, ident_is, name_may}
use Rattle.grammar_laws.proofs.complete_rules.Functions.{function_declared, class_declared}
use Rattle.grammar_laws.proofs.complete_rules.Branches.{if_found}
use Rattle.grammar_laws.proofs.complete_rules.Simple.{one_found, debugger_found, return_found, throw_found, jump_found, with_found, while_found, do_found, labelled_found}
use Rattle.grammar_laws.proofs.complete_rules.StatementLists.{block_found, switch_found, try_found}
use Rattle.grammar_laws.proofs.complete_rules.Variables.{variables_found, using_found, declarators_start, var_on, using_on, await_on, no_using, no_await_using, no_let}
use Rattle.grammar_laws.proofs.complete_rules.Loops.{plain_found, in_variables, in_using, in_target, of_variables, of_using, of_target, variables_found as for_variables_found, using_found as for_using_found}

-- ---- where a declaration may stand

-- the words that a statement starts with, and no other
abbrev keyword : ℕ → Bool
keyword k = (k == if_kind) || ((k == return_kind) || ((k == for_kind) || ((k == while_kind) || ((k == do_kind) || ((k == switch_kind) || ((k == try_kind) || ((k == throw_kind) || ((k == break_kind) || ((k == continue_kind) || ((k == with_kind) || ((k == debugger_kind)
    || ((k == function_kind) || (k == class_kind)))))))))))))

-- what is neither statement nor declaration is allowed nowhere
none_allowed : (l : Bool) → (if l then false else false) ≡ true → false ≡ true
none_allowed true h = h
none_allowed false h = h

-- the word that starts a `for`-`of`
of_word : (w : Bool) (c : Code) (ts m : Input) → ForAwaitOpen w c ts m → kind ts ≡ for_kind
of_word true c ts m h = h.3.0
of_word false c ts m h = h.1.0

listed_of : (l i s : Bool) → (if l then i else s) ≡ true → s ≡ false → l ≡ true
listed_of true i s h e = refl
listed_of false i s h e = absurd (true≢false (sym h ∙ e))

-- ---- statements by their first word

module _ (inner : Inner Input) (c : Code) (ts : Input) (k : List ℕ) (V : Tree × State Input → Type 0) (Q : Type 0) where
  at_if : kind ts ≡ if_kind → Reads (from ts k) (if_by lm inner c (from ts k)) V Q → Reads (from ts k) (keyword_stmt lm inner c (from ts k)) V Q
  unfolding keyword_stmt
  at_if e y = rw e y

  at_return : kind ts ≡ return_kind → Reads (from ts k) (return_by lm inner c (from ts k)) V Q → Reads (from ts k) (keyword_stmt lm inner c (from ts k)) V Q
  unfolding keyword_stmt
  at_return e y = rw e y

  at_for : kind ts ≡ for_kind → Reads (from ts k) (for_by lm inner c (from ts k)) V Q → Reads (from ts k) (keyword_stmt lm inner c (from ts k)) V Q
  unfolding keyword_stmt
  at_for e y = rw e y

  at_while : kind ts ≡ while_kind → Reads (from ts k) (while_by lm inner c (from ts k)) V Q → Reads (from ts k) (keyword_stmt lm inner c (from ts k)) V Q
  unfolding keyword_stmt
  at_while e y = rw e y

  at_do : kind ts ≡ do_kind → Reads (from ts k) (do_by lm inner c (from ts k)) V Q → Reads (from ts k) (keyword_stmt lm inner c (from ts k)) V Q
  unfolding keyword_stmt
  at_do e y = rw e y

  at_switch : kind ts ≡ switch_kind → Reads (from ts k) (switch_by lm inner c (from ts k)) V Q → Reads (from ts k) (keyword_stmt lm inner c (from ts k)) V Q
  unfolding keyword_stmt
  at_switch e y = rw e y

  at_try : kind ts ≡ try_kind → Reads (from ts k) (try_by lm inner c (from ts k)) V Q → Reads (from ts k) (keyword_stmt lm inner c (from ts k)) V Q
  unfolding keyword_stmt
  at_try e y = rw e y

  at_throw : kind ts ≡ throw_kind → Reads (from ts k) (throw_by lm inner c (from ts k)) V Q → Reads (from ts k) (keyword_stmt lm inner c (from ts k)) V Q
  unfolding keyword_stmt
  at_throw e y = rw e y

  at_break : kind ts ≡ break_kind → Reads (from ts k) (jump_by lm inner break_kind break_stmt c (from ts k)) V Q → Reads (from ts k) (keyword_stmt lm inner c (from ts k)) V Q
  unfolding keyword_stmt
  at_break e y = rw e y

  at_continue : kind ts ≡ continue_kind → Reads (from ts k) (jump_by lm inner continue_kind continue_stmt c (from ts k)) V Q → Reads (from ts k) (keyword_stmt lm inner c (from ts k)) V Q
  unfolding keyword_stmt
  at_continue e y = rw e y

  at_with : kind ts ≡ with_kind → Reads (from ts k) (with_by lm inner c (from ts k)) V Q → Reads (from ts k) (keyword_stmt lm inner c (from ts k)) V Q
  unfolding keyword_stmt
  at_with e y = rw e y

  at_debugger : kind ts ≡ debugger_kind → Reads (from ts k) (debugger_by lm inner c (from ts k)) V Q → Reads (from ts k) (keyword_stmt lm inner c (from ts k)) V Q
  unfolding keyword_stmt
  at_debugger e y = rw e y

  at_function : kind ts ≡ function_kind → Reads (from ts k) (function_decl_by lm inner c (lo ts) false (from ts k)) V Q → Reads (from ts k) (keyword_stmt lm inner c (from ts k)) V Q
  unfolding keyword_stmt
  at_function e y = rw e y

  at_class : kind ts ≡ class_kind → c.listed ≡ true → Reads (from ts k) (class_decl_by lm inner c (from ts k)) V Q → Reads (from ts k) (keyword_stmt lm inner c (from ts k)) V Q
  unfolding keyword_stmt
  at_class e l y = rw e (if_yes c.listed _ _ V Q l y)

  -- what starts with none of these words
  abbrev After_words : Type 0
  After_words = Reads (from ts k)
      (if starts_async lm inner (from ts k) then (if c.listed then function_decl_by lm inner c (lo ts) true (from (rest ts) k) else unexpected lm (from ts k))
      else (if starts_variables lm inner c (from ts k) then variables_by lm inner c (from ts k)
      else (if c.listed && starts_using lm inner c (from ts k) then using_by lm inner c (lo ts) false (from ts k)
      else (if c.listed && starts_await_using lm inner c (from ts k) then using_by lm inner c (lo ts) true (from (rest ts) k)
      else expression_by lm inner c (from ts k)))))
      V Q

  after_words : keyword (kind ts) ≡ false → After_words → Reads (from ts k) (keyword_stmt lm inner c (from ts k)) V Q
  unfolding keyword_stmt
  after_words e y =
      let a = or_parts (kind ts == if_kind) _ e in let b = or_parts (kind ts == return_kind) _ a.1 in let d = or_parts (kind ts == for_kind) _ b.1 in let f = or_parts (kind ts == while_kind) _ d.1 in let g = or_parts (kind ts == do_kind) _ f.1 in
      let h = or_parts (kind ts == switch_kind) _ g.1 in let i = or_parts (kind ts == try_kind) _ h.1 in let j = or_parts (kind ts == throw_kind) _ i.1 in let l = or_parts (kind ts == break_kind) _ j.1 in let m = or_parts (kind ts == continue_kind) _ l.1 in
      let n = or_parts (kind ts == with_kind) _ m.1 in let o = or_parts (kind ts == debugger_kind) _ n.1 in let p = or_parts (kind ts == function_kind) _ o.1 in
      if_no (kind ts == if_kind) _ _ V Q a.0 (if_no (kind ts == return_kind) _ _ V Q b.0 (if_no (kind ts == for_kind) _ _ V Q d.0 (if_no (kind ts == while_kind) _ _ V Q f.0 (if_no (kind ts == do_kind) _ _ V Q g.0
      (if_no (kind ts == switch_kind) _ _ V Q h.0 (if_no (kind ts == try_kind) _ _ V Q i.0 (if_no (kind ts == throw_kind) _ _ V Q j.0 (if_no (kind ts == break_kind) _ _ V Q l.0 (if_no (kind ts == continue_kind) _ _ V Q m.0
      (if_no (kind ts == with_kind) _ _ V Q n.0 (if_no (kind ts == debugger_kind) _ _ V Q o.0 (if_no (kind ts == function_kind) _ _ V Q p.0 (if_no (kind ts == class_kind) _ _ V Q p.1 y)))))))))))))

  at_async : kind ts ≡ async_kind → kind2 ts ≡ function_kind → brk2 ts ≡ false → c.listed ≡ true → Reads (from ts k) (function_decl_by lm inner c (lo ts) true (from (rest ts) k)) V Q → Reads (from ts k) (keyword_stmt lm inner c (from ts k)) V Q
  at_async e f b l y = after_words (subst (λ (n : ℕ). keyword n ≡ false) (sym e) refl) (if_yes (starts_async lm inner (from ts k)) _ _ V Q (and_from (kind ts == async_kind) _ (eq-eqb (kind ts) async_kind e) (and_from (kind2 ts == function_kind) _ (eq-eqb (kind2 ts) function_kind f) (ap not b))) (if_yes c.listed _ _ V Q l y))

  at_variables : is_var_word (kind ts) ≡ true → starts_variables lm inner c (from ts k) ≡ true → Reads (from ts k) (variables_by lm inner c (from ts k)) V Q → Reads (from ts k) (keyword_stmt lm inner c (from ts k)) V Q
  at_variables v s y = by_var (kind ts) refl v
    where
      here_at : (n : ℕ) → kind ts ≡ n → keyword n ≡ false → eqb n async_kind ≡ false → Reads (from ts k) (keyword_stmt lm inner c (from ts k)) V Q
      here_at n e w a = after_words (subst (λ (n : ℕ). keyword n ≡ false) (sym e) w) (if_no (starts_async lm inner (from ts k)) _ _ V Q (and_left (kind ts == async_kind) _ (subst (λ (n : ℕ). eqb n async_kind ≡ false) (sym e) a)) (if_yes (starts_variables lm inner c (from ts k)) _ _ V Q s y))

      by_var : (n : ℕ) → kind ts ≡ n → is_var_word n ≡ true → Reads (from ts k) (keyword_stmt lm inner c (from ts k)) V Q
      by_var n e v = ⊎_elim (λ q. here_at var_kind (e ∙ eqb-true n var_kind q) refl refl) (λ q. ⊎_elim (λ q. here_at let_kind (e ∙ eqb-true n let_kind q) refl refl) (λ q. here_at const_kind (e ∙ eqb-true n const_kind q) refl refl) (or_cases (n == let_kind) _ q)) (or_cases (n == var_kind) _ v)

  at_using : kind ts ≡ using_kind → c.listed ≡ true → starts_using lm inner c (from ts k) ≡ true → Reads (from ts k) (using_by lm inner c (lo ts) false (from ts k)) V Q → Reads (from ts k) (keyword_stmt lm inner c (from ts k)) V Q
  at_using e l s y = after_words (subst (λ (n : ℕ). keyword n ≡ false) (sym e) refl) (if_no (starts_async lm inner (from ts k)) _ _ V Q (and_left (kind ts == async_kind) _ (is_no async_kind refl))
      (if_no (starts_variables lm inner c (from ts k)) _ _ V Q (or_from (kind ts == var_kind) _ (is_no var_kind refl) (and_right c.listed _ (or_from (kind ts == const_kind) _ (is_no const_kind refl) (and_left (kind ts == let_kind) _ (is_no let_kind refl)))))
      (if_yes (c.listed && starts_using lm inner c (from ts k)) _ _ V Q (and_from c.listed _ l s) y)))
    where
      is_no : (n : ℕ) → eqb using_kind n ≡ false → eqb (kind ts) n ≡ false
      is_no n h = subst (λ (x : ℕ). eqb x n ≡ false) (sym e) h

  at_await_using : kind ts ≡ await_kind → c.listed ≡ true → starts_await_using lm inner c (from ts k) ≡ true → Reads (from ts k) (using_by lm inner c (lo ts) true (from (rest ts) k)) V Q → Reads (from ts k) (keyword_stmt lm inner c (from ts k)) V Q
  at_await_using e l s y = after_words (subst (λ (n : ℕ). keyword n ≡ false) (sym e) refl) (if_no (starts_async lm inner (from ts k)) _ _ V Q (and_left (kind ts == async_kind) _ (is_no async_kind refl))
      (if_no (starts_variables lm inner c (from ts k)) _ _ V Q (or_from (kind ts == var_kind) _ (is_no var_kind refl) (and_right c.listed _ (or_from (kind ts == const_kind) _ (is_no const_kind refl) (and_left (kind ts == let_kind) _ (is_no let_kind refl)))))
      (if_no (c.listed && starts_using lm inner c (from ts k)) _ _ V Q (and_right c.listed _ (and_right c.syntax.explicit_resource_management _ (and_left (kind ts == using_kind) _ (is_no using_kind refl))))
      (if_yes (c.listed && starts_await_using lm inner c (from ts k)) _ _ V Q (and_from c.listed _ l s) y))))
    where
      is_no : (n : ℕ) → eqb await_kind n ≡ false → eqb (kind ts) n ≡ false
      is_no n h = subst (λ (x : ℕ). eqb x n ≡ false) (sym e) h

  -- an expression, up to a place
  at_expression : {t : Tree} (m : Input) → Opening c.context t ts m → eqb (kind ts) function_kind ≡ false → eqb (kind ts) class_kind ≡ false → starts_async lm inner (from ts k) ≡ false → ((kind ts == let_kind) && (kind2 ts == left_bracket_kind)) ≡ false
      → (c.listed ≡ true → kind ts ≡ let_kind → one_name t ≡ true → tame (kind m) ≡ true) → ((x : Input) → After x m → (may_name (kind x) && not (brk x) && true) ≡ false)
      → Reads (from ts k) (expression_by lm inner c (from ts k)) V Q → Reads (from ts k) (keyword_stmt lm inner c (from ts k)) V Q
  at_expression m o f d a l w u y = after_words no_keyword (if_no (starts_async lm inner (from ts k)) _ _ V Q a
      (if_no (starts_variables lm inner c (from ts k)) _ _ V Q (or_from (kind ts == var_kind) _ (is_no var_kind refl) (no_variables c.listed refl))
      (if_no (c.listed && starts_using lm inner c (from ts k)) _ _ V Q (and_right c.listed _ (and_one (starts_using lm inner c (from ts k)) (no_using inner c (λ x. true) ts m k o u)))
      (if_no (c.listed && starts_await_using lm inner c (from ts k)) _ _ V Q (and_right c.listed _ (and_one (starts_await_using lm inner c (from ts k)) (no_await_using inner c (λ x. true) ts m k o u))) y))))
    where
      is_no : (n : ℕ) → opens n ≡ false → eqb (kind ts) n ≡ false
      is_no n h = no_open (kind ts) n o.first h

      and_one : (b : Bool) → (b && true) ≡ false → b ≡ false
      and_one true h = h
      and_one false h = refl

      no_keyword : keyword (kind ts) ≡ false
      no_keyword = or_from _ _ (is_no if_kind refl) (or_from _ _ (is_no return_kind refl) (or_from _ _ (is_no for_kind refl) (or_from _ _ (is_no while_kind refl) (or_from _ _ (is_no do_kind refl) (or_from _ _ (is_no switch_kind refl) (or_from _ _ (is_no try_kind refl)
          (or_from _ _ (is_no throw_kind refl) (or_from _ _ (is_no break_kind refl) (or_from _ _ (is_no continue_kind refl) (or_from _ _ (is_no with_kind refl) (or_from _ _ (is_no debugger_kind refl) (or_from _ _ f d))))))))))))

      no_variables : (b : Bool) → c.listed ≡ b → (b && ((kind ts == const_kind) || starts_let lm inner (from ts k))) ≡ false
      no_variables true e = or_from (kind ts == const_kind) _ (is_no const_kind refl) (no_let inner c.context ts m k o l (w e))
      no_variables false e = refl

-- ---- expression statements and labels

-- what follows the expression of a statement starts no declaration with the name before it
calm : (p : Bool) (c : Code) (e : ℕ) (m r : Input) → Ends (coded p c) e m r → (may_name (kind m) && not (brk m)) ≡ false
calm p c e m r (inl h) = and_left (may_name (kind m)) _ (subst (λ (k : ℕ). may_name k ≡ false) (sym h.0) refl)
calm p c e m r (inr h) = ⊎_elim (λ q. and_left (may_name (kind m)) _ (subst (λ (k : ℕ). may_name k ≡ false) (sym (eqb-true (kind m) right_brace_kind q)) refl))
    (λ q. ⊎_elim (λ q. and_left (may_name (kind m)) _ (subst (λ (k : ℕ). may_name k ≡ false) (sym (eqb-true (kind m) end_kind q)) refl)) (λ q. and_right (may_name (kind m)) _ (ap not (and_parts (brk m) _ q).0)) (or_cases (kind m == end_kind) _ q)) (or_cases (kind m == right_brace_kind) _ h.1)

-- after the one word `let` where a declaration may stand
let_calm : (p : Bool) (c : Code) (m r : Input) → Ends (coded p c) let_end m r → tame (kind m) ≡ true
let_calm p c m r (inl h) = subst (λ (k : ℕ). tame k ≡ true) (sym h.0) refl
let_calm p c m r (inr h) = ⊎_elim (λ q. subst (λ (k : ℕ). tame k ≡ true) (sym (eqb-true (kind m) right_brace_kind q)) refl)
    (λ q. ⊎_elim (λ q. subst (λ (k : ℕ). tame k ≡ true) (sym (eqb-true (kind m) end_kind q)) refl) (λ q. ap not (or_parts (may_name (kind m) || (kind m == left_brace_kind)) _ (not-true (goes_on c let_end m) (and_parts (brk m) _ q).1)).0) (or_cases (kind m == end_kind) _ q)) (or_cases (kind m == right_brace_kind) _ h.1)

ident_level : (t : Tree) → is_ident t ≡ true → 1 ≤ level t
ident_level (ident s n) h = omega arith
ident_level _ h = absurd (true≢false (sym h))

ident_name_is : (t : Tree) → is_ident t ≡ true → is_name t ≡ true
ident_name_is (ident s n) h = refl
ident_name_is _ h = absurd (true≢false (sym h))

name_one : (e : Tree) → 1 ≤ level e → one_name e ≡ true → is_name e ≡ true
name_one (ident s n) l h = refl
name_one (binding_ident s n) l h = absurd (omega arith)
name_one (expr_pat e) l h = absurd (omega arith)
name_one _ l h = absurd (true≢false (sym h))

of_three : (v b : Bool) → (v && b) ≡ false → (v && b && true) ≡ false
of_three true true h = h
of_three true false h = refl
of_three false b h = refl

-- a name before a colon is a label, but where a semicolon ends it
no_label : (p : Bool) (c : Code) (s : Span) (e : Tree) (ts m r : Input) → Produces e (assigning (coded p c)) ts m → Ends (coded p c) (statement_end (coded p c) ts e) m r → s ≡ span (lo ts) r.last → leaves c.context (expr_stmt s e) r ≡ true → (is_name e && (kind m == colon_kind)) ≡ false
no_label p c s (ident t n) ts m r h (inl v) w q = subst (λ (k : ℕ). eqb k colon_kind ≡ false) (sym v.0) refl
no_label p c s (ident t n) ts m r h (inr v) w q = subst (λ (y : Input). eqb (kind y) colon_kind ≡ false) (sym v.2) (ends_there (kind r == colon_kind) (s.hi.0 == t.hi.0) (not-true _ q) (eq-eqb (s.hi.0) (t.hi.0) (ap (λ (y : Span). y.hi.0) w ∙ (ap (λ (y : Input). y.last) (sym v.2) ∙ sym (ap (λ (y : Span). y.hi.0) h.1)))))
  where
    ends_there : (a b : Bool) → (a && b) ≡ false → b ≡ true → a ≡ false
    ends_there a true h e = by_test a h
      where
        by_test : (a : Bool) → (a && true) ≡ false → a ≡ false
        by_test true h = h
        by_test false h = refl
    ends_there a false h e = absurd (true≢false (sym e))
no_label p c s _ ts m r h v w q = refl

module _ (z : Nested) (p : Bool) (c : Code) (ts : Input) (k : List ℕ) (r : Input) where
  expression_read : (s : Span) (e : Tree) → z.Covered e → Produces (expr_stmt s e) (coded p c) ts r → leaves c.context (expr_stmt s e) r ≡ true → ((kind ts == let_kind) && (kind2 ts == left_bracket_kind)) ≡ false
      → Reads (from ts k) (expression_by lm z.inner c (from ts k)) (Is (expr_stmt s e) r) (z.depth < z.reach e)
  unfolding expression_by
  expression_read s e g h q l = if_no ((kind ts == let_kind) && (kind2 ts == left_bracket_kind)) _ _ _ _ l (then_is (z.inner.expr c expression_level (from ts k)) _ e h.0 (z.depth < z.reach e) _ _
      (one_found z p c e ts h.0 k g h.2.0 h.2.1 (statement_follows p c ts e h.0 r h.3)) (λ u. u)
      (λ j. if_no (is_name e && (kind h.0 == colon_kind)) _ _ _ _ (no_label p c s e ts h.0 r h.2.1 h.3 h.4 q) (then_end p c (statement_end c ts e) h.0 r j _ _ _ h.3 (built (λ y. expr_stmt y e) s ts r j _ h.4))))

  expression_found : (s : Span) (e : Tree) → z.Covered e → Produces (expr_stmt s e) (coded p c) ts r → leaves c.context (expr_stmt s e) r ≡ true → Reads (from ts k) (keyword_stmt lm z.inner c (from ts k)) (Is (expr_stmt s e) r) (z.depth < z.reach e)
  expression_found s e g h q =
      let a = or_parts (kind ts == left_brace_kind) _ (not-true _ h.1) in let b = or_parts (kind ts == function_kind) _ a.1 in let d = or_parts (kind ts == class_kind) _ b.1 in let f = or_parts ((kind ts == async_kind) && ((kind2 ts == function_kind) && not (brk2 ts))) _ d.1 in
      at_expression z.inner c ts k _ _ h.0 (opening e (coded p c) ts h.0 (level_opener e h.2.0) h.2.1) b.0 d.0 f.0 f.1 (λ l w o. let_calm p c h.0 r (subst (λ (n : ℕ). Ends (coded p c) n h.0 r) (let_class l w (name_one e h.2.0 o)) h.3)) (λ x y. last_calm x y) (expression_read s e g h q f.1)
    where
      let_class : c.listed ≡ true → kind ts ≡ let_kind → is_name e ≡ true → statement_end (coded p c) ts e ≡ let_end
      let_class l w o = rw (and_from c.listed _ l (and_from (kind ts == let_kind) _ (eq-eqb (kind ts) let_kind w) o)) refl

      last_calm : (x : Input) → After x h.0 → (may_name (kind x) && not (brk x) && true) ≡ false
      last_calm x (inl y) = subst (λ (y : Input). (may_name (kind y) && not (brk y) && true) ≡ false) (sym y) (of_three (may_name (kind h.0)) (not (brk h.0)) (calm p c (statement_end c ts e) h.0 r h.3))
      last_calm x (inr y) = of_three (may_name (kind x)) (not (brk x)) (and_left (may_name (kind x)) _ (or_parts (may_name (kind x)) _ (not-true _ y)).0)

  label_read : (s : Span) (l b : Tree) → Within z.Covered (labeled_stmt s l b) → Produces (labeled_stmt s l b) (coded p c) ts r → leaves c.context b r ≡ true → ((kind ts == let_kind) && (kind2 ts == left_bracket_kind)) ≡ false
      → Reads (from ts k) (expression_by lm z.inner c (from ts k)) (Is (labeled_stmt s l b) r) (z.depth < within z.reach (labeled_stmt s l b))
  unfolding expression_by
  label_read s l b g h q w = if_no ((kind ts == let_kind) && (kind2 ts == left_bracket_kind)) _ _ _ _ w (then_is (z.inner.expr c expression_level (from ts k)) _ l h.0 (z.depth < z.reach l) _ _
      (one_found z p c l ts h.0 k g.0 (ident_level l h.2.0) h.2.1 (halted c (ends l) 1 colon_kind h.0 h.3.0 refl refl (λ _. refl) (omega arith))) (λ u. omega arith)
      (λ j. if_yes (is_name l && (kind h.0 == colon_kind)) _ _ _ _ (and_from (is_name l) _ (ident_name_is l h.2.0) (eq-eqb (kind h.0) colon_kind h.3.0)) (lifted (labelled_found z p c ts k r s l b h.0 j g.1 h.1 h.3.0 h.3.2 h.4 h.5 q) (λ u. omega arith))))

  label_found : (s : Span) (l b : Tree) → Within z.Covered (labeled_stmt s l b) → Produces (labeled_stmt s l b) (coded p c) ts r → leaves c.context b r ≡ true → Reads (from ts k) (keyword_stmt lm z.inner c (from ts k)) (Is (labeled_stmt s l b) r) (z.depth < within z.reach (labeled_stmt s l b))
  label_found s l b g h q =
      let i = ident_is l (coded p c) ts h.0 h.2.0 h.2.1 in let v = name_may c ts i.2 in
      let next : (n : ℕ) → eqb colon_kind n ≡ false → eqb (kind2 ts) n ≡ false = λ n e. subst (λ (y : Input). eqb (kind y) n ≡ false) (sym i.4) (subst (λ (k : ℕ). eqb k n ≡ false) (sym h.3.0) e) in
      let w = and_right (kind ts == let_kind) _ (next left_bracket_kind refl) in
      at_expression z.inner c ts k _ _ h.0 (opening l (coded p c) ts h.0 (level_opener l (ident_level l h.2.0)) h.2.1) (no_kind may_name (kind ts) function_kind v refl) (no_kind may_name (kind ts) class_kind v refl)
      (and_right (kind ts == async_kind) _ (and_left (kind2 ts == function_kind) _ (next function_kind refl))) w (λ _ _ _. subst (λ (k : ℕ). tame k ≡ true) (sym h.3.0) refl) (λ x y. last_calm x y) (label_read s l b g h q w)
    where
      last_calm : (x : Input) → After x h.0 → (may_name (kind x) && not (brk x) && true) ≡ false
      last_calm x (inl y) = of_three (may_name (kind x)) (not (brk x)) (and_left (may_name (kind x)) _ (subst (λ (y : Input). may_name (kind y) ≡ false) (sym y) (subst (λ (k : ℕ). may_name k ≡ false) (sym h.3.0) refl)))
      last_calm x (inr y) = of_three (may_name (kind x)) (not (brk x)) (and_left (may_name (kind x)) _ (or_parts (may_name (kind x)) _ (not-true _ y)).0)

  -- ---- declarations

  variables_read : (s : Span) (o : ℕ) (ds : Trees) → Within z.Covered (var_decl s o ds) → allowed c (var_decl s o ds) ≡ true → Produces (var_decl s o ds) (coded p c) ts r → Reads (from ts k) (keyword_stmt lm z.inner c (from ts k)) (Is (var_decl s o ds) r) (z.depth < within z.reach (var_decl s o ds))
  variables_read s o ds g a h = at_variables z.inner c ts k _ _ (subst (λ (n : ℕ). is_var_word n ≡ true) (sym h.1.2.0) h.1.1) (by_list c.listed refl) (variables_found z p c s o ds ts r k g h)
    where
      on : ((kind ts == var_kind) || ((kind ts == const_kind) || starts_let lm z.inner (from ts k))) ≡ true
      on = var_on z.inner o ts h.1.0 k h.1.1 h.1.2.0 h.1.2.3 (declarators_start ds (coded p c) h.1.0 h.0 h.1.3)

      var_alone : (if false then is_item (var_decl s o ds) else (is_statement (var_decl s o ds) || is_plain_function (var_decl s o ds))) ≡ true → (kind ts == var_kind) ≡ true
      var_alone e = ⊎_elim (λ q. subst (λ (n : ℕ). (n == var_kind) ≡ true) (sym h.1.2.0) q) (λ q. absurd (late q (only_statement e))) (or_cases (o == var_kind) _ h.1.1)
        where
          only_statement : (not (leb let_kind o) || false) ≡ true → leb let_kind o ≡ false
          only_statement e = ⊎_elim (λ q. not-true (leb let_kind o) q) (λ q. absurd (true≢false (sym q))) (or_cases (not (leb let_kind o)) false e)

          late : ((o == let_kind) || (o == const_kind)) ≡ true → leb let_kind o ≡ false → ⊥
          late q e = ⊎_elim (λ q. true≢false (sym (ap (λ (n : ℕ). leb let_kind n) (eqb-true o let_kind q)) ∙ e)) (λ q. true≢false (sym (ap (λ (n : ℕ). leb let_kind n) (eqb-true o const_kind q)) ∙ e)) (or_cases (o == let_kind) _ q)

      by_list : (b : Bool) → c.listed ≡ b → ((kind ts == var_kind) || (b && ((kind ts == const_kind) || starts_let lm z.inner (from ts k)))) ≡ true
      by_list true e = on
      by_list false e = or_left (kind ts == var_kind) _ (var_alone (subst (λ (b : Bool). (if b then is_item (var_decl s o ds) else (is_statement (var_decl s o ds) || is_plain_function (var_decl s o ds))) ≡ true) e a))

  using_read : (s : Span) (w : Bool) (ds : Trees) → Within z.Covered (using_decl s w ds) → c.listed ≡ true → Produces (using_decl s w ds) (coded p c) ts r → Reads (from ts k) (keyword_stmt lm z.inner c (from ts k)) (Is (using_decl s w ds) r) (z.depth < within z.reach (using_decl s w ds))
  using_read s false ds g l h = at_using z.inner c ts k _ _ h.1.2.0 l (using_on z.inner c ts h.1.0 k h.1.1 h.1.2.0 h.1.2.3 h.1.3 h.1.4 (declarators_start ds (coded p c) h.1.0 h.0 h.1.5))
      (using_found z p c ts k s false ds ts h.1.0 h.0 r k g h.1.2.0 h.1.2.1 h.1.2.3 h.1.5 h.2 h.3)
  using_read s true ds g l h = at_await_using z.inner c ts k _ _ h.1.4.0 l (await_on z.inner c ts h.1.0 k h.1.3 h.1.4.0 h.1.4.1 h.1.4.3 h.1.5 (using_on z.inner c h.1.0 h.1.1 k h.1.2 h.1.6.0 h.1.6.3 h.1.7 h.1.8 (declarators_start ds (coded p c) h.1.1 h.0 h.1.9)))
      (onto ts h.1.0 k (λ x. using_by lm z.inner c (lo ts) true x) _ _ h.1.4.3 (using_found z p c ts k s true ds h.1.0 h.1.1 h.0 r k g h.1.6.0 h.1.6.1 h.1.6.3 h.1.9 h.2 h.3))

  function_read : (s : Span) (x : Tree) (t : Span) (ps ds : Trees) (b : Tree) (g a : Bool) → Within z.Covered (function t ps ds b g a) → (a ≡ true → c.listed ≡ true) → Produces (fn_decl s x (function t ps ds b g a)) (coded p c) ts r
      → Reads (from ts k) (keyword_stmt lm z.inner c (from ts k)) (Is (fn_decl s x (function t ps ds b g a)) r) (z.depth < within z.reach (function t ps ds b g a))
  function_read s x t ps ds b g false w l h = let y = function_declared z p c s x t ps ds b g false ts r k w h in
      at_function z.inner c ts k _ _ (ap (λ (d : Input). kind d) y.1 ∙ y.2) (subst (λ (d : Input). Reads (from d k) (function_decl_by lm z.inner c (lo ts) false (from d k)) (Is (fn_decl s x (function t ps ds b g false)) r) (z.depth < within z.reach (function t ps ds b g false))) (sym y.1) (y.3 k))
  function_read s x t ps ds b g true w l h = let y = function_declared z p c s x t ps ds b g true ts r k w h in
      at_async z.inner c ts k _ _ y.1.0.0 (ap (λ (d : Input). kind d) y.1.0.3 ∙ y.2) (ap (λ (d : Input). brk d) y.1.0.3 ∙ y.1.1) (l refl) (onto ts y.0 k (λ d. function_decl_by lm z.inner c (lo ts) true d) _ _ y.1.0.3 (y.3 k))

  -- ---- any statement

  word_stmt : (V : Tree × State Input → Type 0) (Q : Type 0) → eqb (kind ts) semicolon_kind ≡ false → eqb (kind ts) left_brace_kind ≡ false → Reads (from ts k) (keyword_stmt lm z.inner c (from ts k)) V Q → Reads (from ts k) (stmt_from lm z.inner c (from ts k)) V Q
  unfolding stmt_from stmt_by
  word_stmt V Q a b y = if_no (kind ts == semicolon_kind) _ _ V Q a (if_no (kind ts == left_brace_kind) _ _ V Q b y)

  worded : (n : ℕ) (V : Tree × State Input → Type 0) (Q : Type 0) → kind ts ≡ n → eqb n semicolon_kind ≡ false → eqb n left_brace_kind ≡ false → Reads (from ts k) (keyword_stmt lm z.inner c (from ts k)) V Q → Reads (from ts k) (stmt_from lm z.inner c (from ts k)) V Q
  worded n V Q e a b y = word_stmt V Q (subst (λ (x : ℕ). eqb x semicolon_kind ≡ false) (sym e) a) (subst (λ (x : ℕ). eqb x left_brace_kind ≡ false) (sym e) b) y

  block_stmt_found : (s : Span) (ss : Trees) → Within z.Covered (block_stmt s ss) → Produces (block_stmt s ss) (coded p c) ts r → Reads (from ts k) (stmt_from lm z.inner c (from ts k)) (Is (block_stmt s ss) r) (z.depth < within z.reach (block_stmt s ss))
  unfolding stmt_from stmt_by
  block_stmt_found s ss g h = if_no (kind ts == semicolon_kind) _ _ _ _ (subst (λ (x : ℕ). eqb x semicolon_kind ≡ false) (sym h.1.0) refl) (if_yes (kind ts == left_brace_kind) _ _ _ _ (eq-eqb (kind ts) left_brace_kind h.1.0) (block_found z p c (block_stmt s ss) ts r k refl g h))

  empty_found : (s : Span) (Q : Type 0) → Produces (empty_stmt s) (coded p c) ts r → Reads (from ts k) (stmt_from lm z.inner c (from ts k)) (Is (empty_stmt s) r) Q
  unfolding stmt_from stmt_by
  empty_found s Q h = if_yes (kind ts == semicolon_kind) _ _ _ _ (eq-eqb (kind ts) semicolon_kind h.0.0) (past_here (ap (λ (y : Span). empty_stmt y) (first_at ts r s h.0.2 h.1)) h.0.2)

  var_word : (o : ℕ) → is_var_word o ≡ true → kind ts ≡ o → (eqb (kind ts) semicolon_kind ≡ false) × (eqb (kind ts) left_brace_kind ≡ false)
  var_word o w e = let v : is_var_word (kind ts) ≡ true = subst (λ (n : ℕ). is_var_word n ≡ true) (sym e) w in (no_kind is_var_word (kind ts) semicolon_kind v refl, no_kind is_var_word (kind ts) left_brace_kind v refl)

  -- What a statement or a declaration produces, its rule reads: the tree and the rest, or too deep where what it hands on reaches deeper.
  pub stmt_found : (t : Tree) → Within z.Covered t → allowed c t ≡ true → Produces t (coded p c) ts r → leaves c.context t r ≡ true → Reads (from ts k) (stmt_from lm z.inner c (from ts k)) (Is t r) (z.depth < within z.reach t)
  stmt_found (block_stmt s ss) g a h q = block_stmt_found s ss g h
  stmt_found (empty_stmt s) g a h q = empty_found s _ h
  stmt_found (debugger_stmt s) g a h q = worded debugger_kind _ _ h.1.0 refl refl (at_debugger z.inner c ts k _ _ h.1.0 (debugger_found z p c ts k r s _ h))
  stmt_found (with_stmt s e b) g a h q = worded with_kind _ _ h.2.0 refl refl (at_with z.inner c ts k _ _ h.2.0 (with_found z p c ts k r s e b g h q))
  stmt_found (return_stmt s e) g a h q = worded return_kind _ _ h.1.0 refl refl (at_return z.inner c ts k _ _ h.1.0 (return_found z p c ts k r s e g h))
  stmt_found (labeled_stmt s l b) g a h q = let v = name_may c ts (ident_is l (coded p c) ts h.0 h.2.0 h.2.1).2 in word_stmt _ _ (no_kind may_name (kind ts) semicolon_kind v refl) (no_kind may_name (kind ts) left_brace_kind v refl) (label_found s l b g h q)
  stmt_found (break_stmt s l) g a h q = worded break_kind _ _ h.2.0 refl refl (at_break z.inner c ts k _ _ h.2.0 (jump_found z p c ts k r break_kind (λ d t. break_stmt d t) s l _ h))
  stmt_found (continue_stmt s l) g a h q = worded continue_kind _ _ h.2.0 refl refl (at_continue z.inner c ts k _ _ h.2.0 (jump_found z p c ts k r continue_kind (λ d t. continue_stmt d t) s l _ h))
  stmt_found (if_stmt s e x y) g a h q = worded if_kind _ _ h.3.0 refl refl (at_if z.inner c ts k _ _ h.3.0 (if_found z p c ts k r s e x y g h q))
  stmt_found (switch_stmt s e xs) g a h q = worded switch_kind _ _ h.3.0 refl refl (at_switch z.inner c ts k _ _ h.3.0 (switch_found z p c s e xs ts r k g h))
  stmt_found (throw_stmt s e) g a h q = worded throw_kind _ _ h.2.0 refl refl (at_throw z.inner c ts k _ _ h.2.0 (throw_found z p c ts k r s e g h))
  stmt_found (try_stmt s b x f) g a h q = worded try_kind _ _ h.4.0 refl refl (at_try z.inner c ts k _ _ h.4.0 (try_found z p c s b x f ts r k g h q))
  stmt_found (while_stmt s e b) g a h q = worded while_kind _ _ h.2.0 refl refl (at_while z.inner c ts k _ _ h.2.0 (while_found z p c ts k r s e b g h q))
  stmt_found (do_while_stmt s e b) g a h q = worded do_kind _ _ h.4.0 refl refl (at_do z.inner c ts k _ _ h.4.0 (do_found z p c ts k r s e b g h))
  stmt_found (for_stmt s (var_decl v o ds) t u b) g a h q = worded for_kind _ _ h.3.1.0 refl refl (at_for z.inner c ts k _ _ h.3.1.0 (for_variables_found z p c ts k r s v o ds t u b g h q))
  stmt_found (for_stmt s (using_decl v w ds) t u b) g a h q = worded for_kind _ _ h.3.1.0 refl refl (at_for z.inner c ts k _ _ h.3.1.0 (for_using_found z p c ts k r s v w ds t u b g h q))
  stmt_found (for_stmt s x t u b) g a h q = worded for_kind _ _ h.3.1.0 refl refl (at_for z.inner c ts k _ _ h.3.1.0 (plain_found z p c ts k r s x t u b g h q))
  stmt_found (for_in_stmt s (var_decl v o ds) e b) g a h q = worded for_kind _ _ h.2.1.0 refl refl (at_for z.inner c ts k _ _ h.2.1.0 (in_variables z p c ts k r s v o ds e b g h q))
  stmt_found (for_in_stmt s (using_decl v w ds) e b) g a h q = worded for_kind _ _ h.2.1.0 refl refl (at_for z.inner c ts k _ _ h.2.1.0 (in_using z p c ts k r s v w ds e b g h q))
  stmt_found (for_in_stmt s x e b) g a h q = worded for_kind _ _ h.2.1.0 refl refl (at_for z.inner c ts k _ _ h.2.1.0 (in_target z p c ts k r s x e b g h q))
  stmt_found (for_of_stmt s w (var_decl v o ds) e b) g a h q = let f = of_word w (coded p c) ts h.0 h.2 in worded for_kind _ _ f refl refl (at_for z.inner c ts k _ _ f (of_variables z p c ts k r s w v o ds e b g h q))
  stmt_found (for_of_stmt s w (using_decl v i ds) e b) g a h q = let f = of_word w (coded p c) ts h.0 h.2 in worded for_kind _ _ f refl refl (at_for z.inner c ts k _ _ f (of_using z p c ts k r s w v i ds e b g h q))
  stmt_found (for_of_stmt s w x e b) g a h q = let f = of_word w (coded p c) ts h.0 h.2 in worded for_kind _ _ f refl refl (at_for z.inner c ts k _ _ f (of_target z p c ts k r s w x e b g h q))
  stmt_found (expr_stmt s e) g a h q = let o = (opening e (coded p c) ts h.0 (level_opener e h.2.0) h.2.1).first in word_stmt _ _ (no_open (kind ts) semicolon_kind o refl) (or_parts (kind ts == left_brace_kind) _ (not-true _ h.1)).0 (expression_found s e g h q)
  stmt_found (class_decl s n x) g a h q = worded class_kind _ _ h.2.0 refl refl (at_class z.inner c ts k _ _ h.2.0 (listed_of c.listed true false a refl) (class_declared z p c s n x ts r k g h))
  stmt_found (fn_decl s n (function t ps ds b y true)) g a h q = worded async_kind _ _ h.2.2.0.0 refl refl (function_read s n t ps ds b y true g (λ _. listed_of c.listed true (not y && not true) a (and_right (not y) false refl)) h)
  stmt_found (fn_decl s n (function t ps ds b y false)) g a h q = worded function_kind _ _ (ap (λ (d : Input). kind d) h.2.2 ∙ h.2.3.0) refl refl (function_read s n t ps ds b y false g (λ e. absurd (true≢false (sym e))) h)
  stmt_found (fn_decl s n _) g a h q = absurd h
  stmt_found (var_decl s o ds) g a h q = let w = var_word o h.1.1 h.1.2.0 in word_stmt _ _ w.0 w.1 (variables_read s o ds g a h)
  stmt_found (using_decl s true ds) g a h q = worded await_kind _ _ h.1.4.0 refl refl (using_read s true ds g (listed_of c.listed true false a refl) h)
  stmt_found (using_decl s false ds) g a h q = worded using_kind _ _ h.1.2.0 refl refl (using_read s false ds g (listed_of c.listed true false a refl) h)
  stmt_found _ g a h q = absurd (true≢false (sym (none_allowed c.listed a)))
