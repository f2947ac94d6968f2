-- An `if` with its chain of `else if` (ECMA-262, 14.6): its rule answers it, by one reading of each branch and none inside another.
use Rattle.std.proofs.Common.{◌≡◌, ℕ, ◌<◌, ◌≤◌, Bool, true, false, not, ◌&&◌, ◌||◌, ◌==◌, cond, eqb, List, [], ◌∷◌, ◌++◌, Ok, refl, sym, ap, ◌∙◌, subst, true≢false, arith}
use Rattle.std.proofs.lemmas.Bool.{ne_eqb, eq-eqb}
use Rattle.base_token.specs.declared.place.Span.{Span}
use Rattle.base_token.specs.Kinds.{left_paren_kind, right_paren_kind, left_brace_kind, semicolon_kind, debugger_kind, return_kind, throw_kind, with_kind, while_kind, do_kind, if_kind, else_kind, for_kind, switch_kind, try_kind, break_kind, continue_kind, async_kind, function_kind}
use Rattle.tree_spec.specs.Tree.{Tree, block_stmt, empty_stmt, debugger_stmt, with_stmt, return_stmt, labeled_stmt, break_stmt, continue_stmt, if_stmt, switch_stmt, throw_stmt, try_stmt, while_stmt, do_while_stmt, for_stmt, for_in_stmt, for_of_stmt, expr_stmt, var_decl, using_decl, fn_decl, function, absent}
use Rattle.grammar_spec.specs.Tokens.Input.{Input, Code, kind, lo, span, assigning, alone, is_strict, TakesWord}
use Rattle.grammar_spec.specs.Tokens.Shape.{is_absent, is_statement, is_plain_function}
use Rattle.grammar_spec.specs.Children.{child}
use Rattle.grammar_spec.specs.Statements.{SubOrFunction, InParens, is_var_word}
use Rattle.grammar_spec.specs.Grammar.{Produces}
use Rattle.grammar_spec.specs.Reader.Source.{◌>>=◌, State, Step, go_on, finished, eat_word}
use Rattle.grammar_spec.specs.Reader.Statements.{Branch, Chain, chained, else_by, if_step, if_by, sub_by, in_parens}
use Rattle.grammar_laws.proofs.complete_base.Yields.{lm, from, coded, Reads, Is, then_is, then_reads, then_word, here, ended, if_no, if_yes, Loops, loop_on, loop_end, looped}
use Rattle.grammar_laws.proofs.complete_base.Trees.{by_cases, takes, no_kind}
use Rattle.grammar_laws.proofs.complete_base.Cuts.{cut}
use Rattle.grammar_laws.proofs.complete_rules.Nested.{Nested, leaves, follows}
use Rattle.grammar_laws.proofs.complete_rules.Within.{is_if, Within, within}
use Rattle.grammar_laws.proofs.complete_rules.Starts.{opening, level_opener, no_open, ident_is, may_opens, name_may}
use Rattle.grammar_laws.proofs.complete_rules.Simple.{follows_at, parens_found, either_found}
use Rattle.grammar_laws.proofs.Shapes.{chained_snoc, absent_is}
use Rattle.grammar_laws.proofs.complete_base.Levels.{from_no, from_yes}

-- ---- what is no `if` doesn't start as one

at_other : (ts : Input) (k : ℕ) → kind ts ≡ k → eqb k if_kind ≡ false → eqb (kind ts) if_kind ≡ false
at_other ts k e h = subst (λ (k : ℕ). eqb k if_kind ≡ false) (sym e) h

no_if : (t : Tree) (b : Bool) (c : Code) (ts r : Input) → (is_statement t || (b && is_plain_function t)) ≡ true → is_if t ≡ false → Produces t c ts r → eqb (kind ts) if_kind ≡ false
no_if (block_stmt s ss) x c ts r i n h = at_other ts left_brace_kind h.1.0 refl
no_if (empty_stmt s) x c ts r i n h = at_other ts semicolon_kind h.0.0 refl
no_if (debugger_stmt s) x c ts r i n h = at_other ts debugger_kind h.1.0 refl
no_if (with_stmt s o b) x c ts r i n h = at_other ts with_kind h.2.0 refl
no_if (return_stmt s a) x c ts r i n h = at_other ts return_kind h.1.0 refl
no_if (labeled_stmt s l b) x c ts r i n h = no_open (kind ts) if_kind (may_opens (kind ts) (name_may c ts (ident_is l c ts h.0 h.2.0 h.2.1).2)) refl
no_if (break_stmt s l) x c ts r i n h = at_other ts break_kind h.2.0 refl
no_if (continue_stmt s l) x c ts r i n h = at_other ts continue_kind h.2.0 refl
no_if (if_stmt s t a b) x c ts r i n h = absurd (true≢false n)
no_if (switch_stmt s e xs) x c ts r i n h = at_other ts switch_kind h.3.0 refl
no_if (throw_stmt s e) x c ts r i n h = at_other ts throw_kind h.2.0 refl
no_if (try_stmt s b y f) x c ts r i n h = at_other ts try_kind h.4.0 refl
no_if (while_stmt s t b) x c ts r i n h = at_other ts while_kind h.2.0 refl
no_if (do_while_stmt s t b) x c ts r i n h = at_other ts do_kind h.4.0 refl
no_if (for_stmt s (var_decl v k ds) t u b) x c ts r i n h = at_other ts for_kind h.3.1.0 refl
no_if (for_stmt s (using_decl v w ds) t u b) x c ts r i n h = at_other ts for_kind h.3.1.0 refl
no_if (for_stmt s y t u b) x c ts r i n h = at_other ts for_kind h.3.1.0 refl
no_if (for_in_stmt s (var_decl v k ds) e b) x c ts r i n h = at_other ts for_kind h.2.1.0 refl
no_if (for_in_stmt s (using_decl v w ds) e b) x c ts r i n h = at_other ts for_kind h.2.1.0 refl
no_if (for_in_stmt s y e b) x c ts r i n h = at_other ts for_kind h.2.1.0 refl
no_if (for_of_stmt s true (var_decl v k ds) e b) x c ts r i n h = at_other ts for_kind h.2.3.0 refl
no_if (for_of_stmt s true (using_decl v w ds) e b) x c ts r i n h = at_other ts for_kind h.2.3.0 refl
no_if (for_of_stmt s true y e b) x c ts r i n h = at_other ts for_kind h.2.3.0 refl
no_if (for_of_stmt s false (var_decl v k ds) e b) x c ts r i n h = at_other ts for_kind h.2.1.0 refl
no_if (for_of_stmt s false (using_decl v w ds) e b) x c ts r i n h = at_other ts for_kind h.2.1.0 refl
no_if (for_of_stmt s false y e b) x c ts r i n h = at_other ts for_kind h.2.1.0 refl
no_if (expr_stmt s e) x c ts r i n h = no_open (kind ts) if_kind (opening e (assigning c) ts h.0 (level_opener e (omega (arith, h.2.0))) h.2.1).first refl
no_if (fn_decl s m (function t ps ds b g true)) x c ts r i n h = at_other ts async_kind h.2.2.0.0 refl
no_if (fn_decl s m (function t ps ds b g false)) x c ts r i n h = at_other ts function_kind (ap (λ (w : Input). kind w) h.2.2 ∙ h.2.3.0) refl
no_if (fn_decl s m _) x c ts r i n h = absurd h
no_if (var_decl s k ds) x c ts r i n h = no_kind is_var_word (kind ts) if_kind (subst (λ (k : ℕ). is_var_word k ≡ true) (sym h.1.2.0) h.1.1) refl
no_if _ true c ts r i n h = absurd (true≢false (sym i))
no_if _ false c ts r i n h = absurd (true≢false (sym i))

-- ---- chains

-- the chain makes this tree, and these tokens are the rest
abbrev Makes : Tree → Input → Chain × State Input → Type 0
Makes t r x = (chained r.last x.0.branches x.0.last ≡ t) × (x.1.source ≡ r)

module _ (z : Nested) (p : Bool) where
  abbrev chain : List Branch → Code → Tree → Chain
  chain bs y t = record { branches = bs; code = y; last = t }

  abbrev branch : Input → Tree → Tree → Branch
  branch o e a = record { start = lo o; test = e; consequent = a }

  -- what follows a branch
  abbrev On : List Branch → Code → Tree → Tree → Input → Input → (Step Chain × State Input → Type 0) → Type 0 → Type 0
  On bs y e a o w V Q = (i : List ℕ) → Reads (from w i) (cond (kind w == else_kind) (eat_word lm y else_kind (from w i) >>= λ u. else_by lm z.inner (chain (bs ++ branch o e a ∷ []) y absent) u) (Ok (finished (chain (bs ++ branch o e a ∷ []) y absent), from w i))) V Q

  branch_read : (bs : List Branch) (y : Code) (e a : Tree) (o m n w : Input) (j : List ℕ) (V : Step Chain × State Input → Type 0) (Q : Type 0) → z.Covered e → z.Covered a → TakesWord (coded p y) if_kind o m → InParens (coded p y) (child e (λ y. Produces e y)) m n → SubOrFunction (coded p y) (child a (λ y. Produces a y)) n w → leaves y.context a w ≡ true
      → (z.depth < z.reach e → Q) → (z.depth < z.reach a → Q) → On bs y e a o w V Q → Reads (from o j) (if_step lm z.inner (chain bs y absent) (from o j)) V Q
  unfolding if_step
  branch_read bs y e a o m n w j V Q ge ga t h v q f g k = then_word y if_kind o m j _ _ _ t.0 t.1 t.3 (then_is (in_parens lm z.inner y (from m j)) _ e n (z.depth < z.reach e) _ _ (parens_found z p y e m n j ge h) f
      (λ i. then_is (sub_by lm z.inner y true (from n i)) _ a w (z.depth < z.reach a) _ _ (either_found z p y a n w i ga v q) g k))

  -- `else` and another `if`
  else_if : (bs : List Branch) (y : Code) (e a : Tree) (o w x : Input) (Q : Type 0) → TakesWord (coded p y) else_kind w x → kind x ≡ if_kind → On bs y e a o w (Is (go_on (chain (bs ++ branch o e a ∷ []) (alone y) absent)) x) Q
  unfolding else_by
  else_if bs y e a o w x Q t f i = if_yes (kind w == else_kind) _ _ _ _ (eq-eqb (kind w) else_kind t.0) (then_word y else_kind w x i _ _ _ t.0 t.1 t.3 (if_yes (kind x == if_kind) _ _ _ _ (eq-eqb (kind x) if_kind f) (here refl)))

  -- `else` and anything else
  else_other : (bs : List Branch) (y : Code) (e a b : Tree) (o w x r : Input) (Q : Type 0) → z.Covered b → TakesWord (coded p y) else_kind w x → SubOrFunction (coded p y) (child b (λ y. Produces b y)) x r → is_if b ≡ false → leaves y.context b r ≡ true → (z.depth < z.reach b → Q)
      → On bs y e a o w (Is (finished (chain (bs ++ branch o e a ∷ []) y b)) r) Q
  unfolding else_by
  else_other bs y e a b o w x r Q g t v n q f i = if_yes (kind w == else_kind) _ _ _ _ (eq-eqb (kind w) else_kind t.0) (then_word y else_kind w x i _ _ _ t.0 t.1 t.3
      (if_no (kind x == if_kind) _ _ _ _ (no_if b (not (is_strict y)) (alone (coded p y)) x r v.0 n v.1) (then_is (sub_by lm z.inner y true (from x i)) _ b r (z.depth < z.reach b) _ _ (either_found z p y b x r i g v q) f (λ l. here refl))))

  no_else : (bs : List Branch) (y : Code) (e a b : Tree) (o w r : Input) (Q : Type 0) → is_absent b ≡ true → (kind w ≡ else_kind → ⊥) → w ≡ r → On bs y e a o w (Is (finished (chain (bs ++ branch o e a ∷ []) y b)) r) Q
  no_else bs y e a b o w r Q n f u i = if_no (kind w == else_kind) _ _ _ _ (ne_eqb (kind w) else_kind f)
      (ended (finished (chain (bs ++ branch o e a ∷ []) y absent), from w i) (Is (finished (chain (bs ++ branch o e a ∷ []) y b)) r) Q (ap (λ (d : Tree). finished (chain (bs ++ branch o e a ∷ []) y d)) (sym (absent_is b n)), u))

  made : (bs : List Branch) (s : Span) (e a b : Tree) (o r : Input) → s ≡ span (lo o) r.last → chained r.last (bs ++ branch o e a ∷ []) b ≡ chained r.last bs (if_stmt s e a b)
  made bs s e a b o r h = chained_snoc r.last bs (branch o e a) b ∙ ap (λ (v : Span). chained r.last bs (if_stmt v e a b)) (sym h)

  if_loop : (s : Span) (e a b : Tree) (bs : List Branch) (y : Code) (o r : Input) (j : List ℕ) (n : ℕ) → Within z.Covered (if_stmt s e a b) → Produces (if_stmt s e a b) (coded p y) o r → leaves y.context (if_stmt s e a b) r ≡ true → within z.reach (if_stmt s e a b) ≤ n
      → Loops (if_step lm z.inner) (chain bs y absent) o j (Makes (chained r.last bs (if_stmt s e a b)) r) (z.depth < n)
  if_loop s e a (if_stmt q f d b) bs y o r j n g h u le =
      loop_on (if_step lm z.inner) (chain bs y absent) (chain (bs ++ branch o e a ∷ []) (alone y) absent) o h.6.0 j (z.depth < n) _ _
      (branch_read bs y e a o h.0 h.1 h.2 j _ _ g.0 g.1 h.3 h.4 h.5 (follows y.context a h.2 (follows_at h.2 else_kind h.6.1.0 refl)) (λ v. omega arith) (λ v. omega arith) (else_if bs y e a o h.2 h.6.0 (z.depth < n) h.6.1 h.6.2.1.3.0)) (λ v. v)
      (omega (arith, takes if_kind o h.0 h.3.0 (omega arith) h.3.3, takes left_paren_kind h.0 h.4.0 h.4.2.0 (omega arith) h.4.2.2, cut e _ h.4.0 h.4.1 h.4.3.1, takes right_paren_kind h.4.1 h.1 h.4.4.0 (omega arith) h.4.4.2, cut a _ h.1 h.2 h.5.1, takes else_kind h.2 h.6.0 h.6.1.0 (omega arith) h.6.1.3))
      (λ l. subst (λ (t : Tree). Loops (if_step lm z.inner) (chain (bs ++ branch o e a ∷ []) (alone y) absent) h.6.0 l (Makes t r) (z.depth < n)) (made bs s e a (if_stmt q f d b) o r h.7)
      (if_loop q f d b (bs ++ branch o e a ∷ []) (alone y) h.6.0 r l n g.2 h.6.2.1 u (omega (arith, le))))
  if_loop s e a b bs y o r j n g h u le =
      loop_end (if_step lm z.inner) (chain bs y absent) (chain (bs ++ branch o e a ∷ []) y b) o r j (z.depth < n) _ _
      (branch_read bs y e a o h.0 h.1 h.2 j _ _ g.0 g.1 h.3 h.4 h.5 (by_cases (is_absent b) ((kind h.2 ≡ else_kind → ⊥) × (h.2 ≡ r)) ((x : Input) × TakesWord (coded p y) else_kind h.2 x × SubOrFunction (coded p y) (child b (λ y. Produces b y)) x r) (leaves y.context a h.2 ≡ true) h.6 (λ c x. subst (λ (d : Input). leaves y.context a d ≡ true) (sym x.1) (from_yes (is_absent b) (leaves y.context a r) (leaves y.context b r) c u)) (λ c x. follows y.context a h.2 (follows_at h.2 else_kind x.1.0 refl))) (λ v. omega (arith, le)) (λ v. omega (arith, le))
      (by_cases (is_absent b) ((kind h.2 ≡ else_kind → ⊥) × (h.2 ≡ r)) ((x : Input) × TakesWord (coded p y) else_kind h.2 x × SubOrFunction (coded p y) (child b (λ y. Produces b y)) x r) (On bs y e a o h.2 (Is (finished (chain (bs ++ branch o e a ∷ []) y b)) r) (z.depth < n)) h.6 (λ c x. no_else bs y e a b o h.2 r (z.depth < n) c x.0 x.1) (λ c x. else_other bs y e a b o h.2 x.0 r (z.depth < n) g.2 x.1 x.2 refl (from_no (is_absent b) (leaves y.context a r) (leaves y.context b r) c u) (λ v. omega (arith, le))))) (λ v. v)
      (λ l. (made bs s e a b o r h.7, refl))

  pub if_found : (c : Code) (ts : Input) (k : List ℕ) (r : Input) (s : Span) (e a b : Tree) → Within z.Covered (if_stmt s e a b) → Produces (if_stmt s e a b) (coded p c) ts r → leaves c.context (if_stmt s e a b) r ≡ true → Reads (from ts k) (if_by lm z.inner c (from ts k)) (Is (if_stmt s e a b) r) (z.depth < within z.reach (if_stmt s e a b))
  unfolding if_by
  if_found c ts k r s e a b g h q = then_reads _ _ (Makes (if_stmt s e a b) r) (z.depth < within z.reach (if_stmt s e a b)) _ _ (looped (if_step lm z.inner) (chain [] c absent) ts k _ _ (if_loop s e a b [] c ts r k (within z.reach (if_stmt s e a b)) g h q (omega arith))) (λ u. u)
      (λ y v. ended (chained y.1.source.last y.0.branches y.0.last, y.1) (Is (if_stmt s e a b) r) _ (ap (λ (w : Input). chained w.last y.0.branches y.0.last) v.1 ∙ v.0, v.1))
