-- Lists of statements: blocks, bodies, `switch` and `try`.
use Rattle.std.proofs.Common.{◌≡◌, ℕ, ◌<◌, ◌≤◌, max, Bool, true, false, not, ◌&&◌, ◌||◌, ◌==◌, eqb, List, [], ◌∷◌, ◌++◌, if◌then◌else◌, refl, sym, ap, ◌∙◌, subst, ⊎_elim, true≢false, append_assoc, append-nil, arith}
use Rattle.std.proofs.lemmas.Bool.{eqb-true, eq-eqb, cases_Bool, or_from, or_cases, not-true, and_from}
use Rattle.base_token.specs.declared.place.Span.{Span}
use Rattle.base_token.specs.Kinds.{left_paren_kind, right_paren_kind, left_brace_kind, right_brace_kind, colon_kind, case_kind, default_kind, catch_kind, finally_kind, try_kind, switch_kind}
use Rattle.tree_spec.specs.Tree.{Tree, Trees, none, more, pack, unpack, block_stmt, switch_stmt, switch_case, try_stmt, catch_clause, absent}
use Rattle.tree_spec.proofs.PackLemmas.{pack_unpack}
use Rattle.grammar_spec.specs.Tokens.Input.{Input, Code, kind, barred, lo, span, rest, in_list, turned_strict, Takes, TakesWord, binding}
use Rattle.grammar_spec.specs.Tokens.Operators.{expression_level}
use Rattle.grammar_spec.specs.Tokens.Shape.{level, ends, is_absent, is_item, is_block, is_catch, is_case, is_default_case, is_use_strict, is_directive, is_binding}
use Rattle.grammar_spec.specs.Children.{By, child, Sorted, Items}
use Rattle.grammar_spec.specs.Functions.{Body, Closes}
use Rattle.grammar_spec.specs.Statements.{ClosesBlock, ClosesCase, Cases}
use Rattle.grammar_spec.specs.Grammar.{Produces, children}
use Rattle.grammar_spec.specs.Reader.Source.{State, go_on, finished}
use Rattle.grammar_spec.specs.Reader.Statements.{Body as Gathered, block_step, block_rest, block_by, body_item, body_step, body_by, case_step, case_rest, case_by, cases_step, has_default, switch_by, catch_by, finally_by, try_by, in_parens}
use Rattle.grammar_laws.proofs.complete_base.Yields.{lm, from, len, coded, Reads, Is, then_is, then_reads, then_eat, then_word, then_past, here, past_here, ended, if_no, if_yes, Loops, loop_on, loop_end, looped}
use Rattle.grammar_laws.proofs.complete_base.Trees.{by_cases}
use Rattle.grammar_laws.proofs.complete_rules.Nested.{Nested, may_follow, leaves, follows}
use Rattle.grammar_laws.proofs.complete_rules.Within.{Each, most, Within, Withins, within, withins}
use Rattle.grammar_laws.proofs.complete_rules.Follows.{halted, built, lifted}
use Rattle.grammar_laws.proofs.complete_rules.Starts.{opens_item, item_opens, no_item}
use Rattle.grammar_laws.proofs.complete_base.Cuts.{item_cut, cut}
use Rattle.grammar_laws.proofs.complete_rules.Simple.{follows_at, one_found, parens_found}
use Rattle.grammar_laws.proofs.Shapes.{strict_directive, absent_is}

-- ---- what follows a statement in a list

pub item_follows : (k : ℕ) → opens_item k ≡ true → may_follow k ≡ true
item_follows k h = ap not (or_from (k == finally_kind) _ (no_item k finally_kind h refl) (no_item k colon_kind h refl))

-- a list of statements up to what closes it
pub list_follows : (may : Tree → Bool) (close : Code → Input → Input → Type 0) (o : (t : Tree) (c : Code) (m n : Input) → may t ≡ true → Produces t c m n → opens_item (kind m) ≡ true) (f : (c : Code) (m n : Input) → close c m n → may_follow (kind m) ≡ true)
    → (ss : Trees) (c : Code) (b : Bool) (ts r : Input) → Items may close c b (children ss) ts r → may_follow (kind ts) ≡ true
list_follows may close o f none c b ts r h = f c ts r h
list_follows may close o f (more s ss) c b ts r h = item_follows (kind ts) (o s (in_list c) ts h.0 h.1 h.2)

brace_follows : (c : Code) (m n : Input) → Takes c right_brace_kind m n → may_follow (kind m) ≡ true
brace_follows c m n h = follows_at m right_brace_kind h.0 refl

case_follows : (c : Code) (m n : Input) → ClosesCase c m n → may_follow (kind m) ≡ true
case_follows c m n h = ⊎_elim (λ q. follows_at m case_kind (eqb-true (kind m) case_kind q) refl) (λ q. ⊎_elim (λ q. follows_at m default_kind (eqb-true (kind m) default_kind q) refl) (λ q. follows_at m right_brace_kind (eqb-true (kind m) right_brace_kind q) refl)
    (or_cases (kind m == default_kind) _ q)) (or_cases (kind m == case_kind) _ h.0)

block_brace : (b : Tree) (c : Code) (ts r : Input) → is_block b ≡ true → Produces b c ts r → kind ts ≡ left_brace_kind
block_brace (block_stmt s ss) c ts r i h = h.1.0
block_brace _ c ts r i h = absurd (true≢false (sym i))

module _ (z : Nested) (p : Bool) (c : Code) where
  -- ---- 14.2 blocks

  block_more : (t : Tree) (acc : List Tree) (ts m : Input) (k : List ℕ) → z.Covered t → is_item t ≡ true → Produces t (coded p (in_list c)) ts m → may_follow (kind m) ≡ true
      → Reads (from ts k) (block_step lm z.inner c acc (from ts k)) (Is (go_on (acc ++ t ∷ [])) m) (z.depth < z.reach t)
  unfolding block_step
  block_more t acc ts m k g i h q = if_no (kind ts == right_brace_kind) _ _ _ _ (no_item (kind ts) right_brace_kind (item_opens t (coded p (in_list c)) ts m i h) refl)
      (then_is (z.inner.stmt (in_list c) (from ts k)) _ t m (z.depth < z.reach t) _ _ (z.stmt t p (in_list c) ts m k g i h (follows c.context t m q)) (λ u. u) (λ j. here refl))

  block_end : (acc : List Tree) (ts r : Input) (k : List ℕ) → kind ts ≡ right_brace_kind → rest ts ≡ r → Reads (from ts k) (block_step lm z.inner c acc (from ts k)) (Is (finished acc) r) ⊥
  unfolding block_step
  block_end acc ts r k e q = if_yes (kind ts == right_brace_kind) _ _ _ _ (eq-eqb (kind ts) right_brace_kind e) (past_here refl q)

  block_loop : (ss : Trees) (acc : List Tree) (ts r : Input) (k : List ℕ) (b : ℕ) → Each z.Covered ss → Items is_item ClosesBlock (coded p c) false (children ss) ts r → most z.reach ss ≤ b → Loops (block_step lm z.inner c) acc ts k (Is (acc ++ unpack ss) r) (z.depth < b)
  block_loop none acc ts r k b g h le = loop_end _ _ acc ts r k ⊥ _ _ (block_end acc ts r k h.0 h.2) (λ u. absurd u) (λ l. (sym (append-nil acc), refl))
  block_loop (more t ss) acc ts r k b g h le = loop_on _ _ (acc ++ t ∷ []) ts h.0 k (z.depth < z.reach t) _ _
      (block_more t acc ts h.0 k g.0 h.1 h.2 (list_follows is_item ClosesBlock (λ t c m n i v. item_opens t c m n i v) brace_follows ss (coded p c) false h.0 r h.3)) (λ u. omega arith) (item_cut t (coded p (in_list c)) ts h.0 h.1 h.2)
      (λ l. subst (λ ys. Loops (block_step lm z.inner c) (acc ++ t ∷ []) h.0 l (Is ys r) (z.depth < b)) (append_assoc acc (t ∷ []) (unpack ss)) (block_loop ss (acc ++ t ∷ []) h.0 r l b g.1 h.3 (omega arith)))

  -- after its brace
  pub rest_found : (start : Input) (i : List ℕ) (s : Span) (ss : Trees) (ts r : Input) (k : List ℕ) → Each z.Covered ss → Items is_item ClosesBlock (coded p c) false (children ss) ts r → s ≡ span (lo start) r.last
      → Reads (from ts k) (block_rest lm z.inner c (lo start) (from ts k)) (Is (block_stmt s ss) r) (z.depth < most z.reach ss)
  unfolding block_rest
  rest_found start i s ss ts r k g h e = then_is _ _ (unpack ss) r (z.depth < most z.reach ss) _ _ (looped (block_step lm z.inner c) [] ts k (Is (unpack ss) r) _ (block_loop ss [] ts r k (most z.reach ss) g h (omega arith))) (λ u. u)
      (λ j. here (ap (λ (y : Span). block_stmt y (pack (unpack ss))) (sym e) ∙ ap (λ (y : Trees). block_stmt s y) (pack_unpack ss)))

  pub block_found : (b : Tree) (ts r : Input) (k : List ℕ) → is_block b ≡ true → Within z.Covered b → Produces b (coded p c) ts r → Reads (from ts k) (block_by lm z.inner c (from ts k)) (Is b r) (z.depth < within z.reach b)
  unfolding block_by
  block_found (block_stmt s ss) ts r k i g h = then_eat left_brace_kind ts h.0 k _ _ _ h.1.0 h.1.2 (rest_found ts k s ss h.0 r k g h.2 h.3)
  block_found _ ts r k i g h = absurd (true≢false (sym i))

  -- ---- 14.12 `switch`

  case_more : (t : Tree) (acc : List Tree) (ts m : Input) (k : List ℕ) → z.Covered t → is_item t ≡ true → Produces t (coded p (in_list c)) ts m → may_follow (kind m) ≡ true
      → Reads (from ts k) (case_step lm z.inner c acc (from ts k)) (Is (go_on (acc ++ t ∷ [])) m) (z.depth < z.reach t)
  unfolding case_step
  case_more t acc ts m k g i h q = let o = item_opens t (coded p (in_list c)) ts m i h in
      if_no ((kind ts == case_kind) || ((kind ts == default_kind) || (kind ts == right_brace_kind))) _ _ _ _ (or_from (kind ts == case_kind) _ (no_item (kind ts) case_kind o refl) (or_from (kind ts == default_kind) _ (no_item (kind ts) default_kind o refl) (no_item (kind ts) right_brace_kind o refl)))
      (then_is (z.inner.stmt (in_list c) (from ts k)) _ t m (z.depth < z.reach t) _ _ (z.stmt t p (in_list c) ts m k g i h (follows c.context t m q)) (λ u. u) (λ j. here refl))

  case_end : (acc : List Tree) (ts r : Input) (k : List ℕ) → ClosesCase (coded p c) ts r → Reads (from ts k) (case_step lm z.inner c acc (from ts k)) (Is (finished acc) r) ⊥
  unfolding case_step
  case_end acc ts r k h = if_yes ((kind ts == case_kind) || ((kind ts == default_kind) || (kind ts == right_brace_kind))) _ _ _ _ h.0 (ended (finished acc, from ts k) (Is (finished acc) r) ⊥ (refl, h.1))

  case_loop : (ss : Trees) (acc : List Tree) (ts r : Input) (k : List ℕ) (b : ℕ) → Each z.Covered ss → Items is_item ClosesCase (coded p c) false (children ss) ts r → most z.reach ss ≤ b → Loops (case_step lm z.inner c) acc ts k (Is (acc ++ unpack ss) r) (z.depth < b)
  case_loop none acc ts r k b g h le = loop_end _ _ acc ts r k ⊥ _ _ (case_end acc ts r k h) (λ u. absurd u) (λ l. (sym (append-nil acc), refl))
  case_loop (more t ss) acc ts r k b g h le = loop_on _ _ (acc ++ t ∷ []) ts h.0 k (z.depth < z.reach t) _ _
      (case_more t acc ts h.0 k g.0 h.1 h.2 (list_follows is_item ClosesCase (λ t c m n i v. item_opens t c m n i v) case_follows ss (coded p c) false h.0 r h.3)) (λ u. omega arith) (item_cut t (coded p (in_list c)) ts h.0 h.1 h.2)
      (λ l. subst (λ ys. Loops (case_step lm z.inner c) (acc ++ t ∷ []) h.0 l (Is ys r) (z.depth < b)) (append_assoc acc (t ∷ []) (unpack ss)) (case_loop ss (acc ++ t ∷ []) h.0 r l b g.1 h.3 (omega arith)))

  case_rested : (start : Input) (i : List ℕ) (s : Span) (e : Tree) (ss : Trees) (m n r : Input) (k : List ℕ) → Each z.Covered ss → kind m ≡ colon_kind → rest m ≡ n → Items is_item ClosesCase (coded p c) false (children ss) n r → s ≡ span (lo start) r.last
      → Reads (from m k) (case_rest lm z.inner c (lo start) e (from m k)) (Is (switch_case s e ss) r) (z.depth < most z.reach ss)
  unfolding case_rest
  case_rested start i s e ss m n r k g o q h w = then_eat colon_kind m n k _ _ _ o q (then_is _ _ (unpack ss) r (z.depth < most z.reach ss) _ _ (looped (case_step lm z.inner c) [] n k (Is (unpack ss) r) _ (case_loop ss [] n r k (most z.reach ss) g h (omega arith))) (λ u. u)
      (λ j. here (ap (λ (y : Span). switch_case y e (pack (unpack ss))) (sym w) ∙ ap (λ (y : Trees). switch_case s e y) (pack_unpack ss))))

  case_default : (s : Span) (ss : Trees) (ts m n r : Input) (k : List ℕ) → Each z.Covered ss → TakesWord (coded p c) default_kind ts m → kind m ≡ colon_kind → rest m ≡ n → Items is_item ClosesCase (coded p c) false (children ss) n r → s ≡ span (lo ts) r.last
      → Reads (from ts k) (case_by lm z.inner c (from ts k)) (Is (switch_case s absent ss) r) (z.depth < most z.reach ss)
  unfolding case_by
  case_default s ss ts m n r k g x o q h w = if_yes (kind ts == default_kind) _ _ _ _ (eq-eqb (kind ts) default_kind x.0) (then_word c default_kind ts m k _ _ _ x.0 x.1 x.3 (case_rested ts k s absent ss m n r k g o q h w))

  case_value : (s : Span) (e : Tree) (ss : Trees) (ts l m n r : Input) (k : List ℕ) → z.Covered e → Each z.Covered ss → TakesWord (coded p c) case_kind ts l → 1 ≤ level e → Produces e (coded p c) l m → kind m ≡ colon_kind → rest m ≡ n → Items is_item ClosesCase (coded p c) false (children ss) n r
      → s ≡ span (lo ts) r.last → Reads (from ts k) (case_by lm z.inner c (from ts k)) (Is (switch_case s e ss) r) (z.depth < max (z.reach e) (most z.reach ss))
  unfolding case_by
  case_value s e ss ts l m n r k d g x le v o q h w = if_no (kind ts == default_kind) _ _ _ _ (subst (λ (k : ℕ). eqb k default_kind ≡ false) (sym x.0) refl) (then_word c case_kind ts l k _ _ _ x.0 x.1 x.3
      (then_is (z.inner.expr c expression_level (from l k)) _ e m (z.depth < z.reach e) _ _ (one_found z p c e l m k d le v (halted c (ends e) 1 colon_kind m o refl refl (λ _. refl) (omega arith))) (λ u. omega arith)
      (λ j. lifted (case_rested ts k s e ss m n r j g o q h w) (λ u. omega arith))))

  case_found : (x : Tree) (ts r : Input) (k : List ℕ) → is_case x ≡ true → Within z.Covered x → Produces x (coded p c) ts r → Reads (from ts k) (case_by lm z.inner c (from ts k)) (Is x r) (z.depth < within z.reach x)
  case_found (switch_case s e ss) ts r k i g h = by_cases (is_absent e) _ _ _ h.2
      (λ q x. subst (λ (e : Tree). Reads (from ts k) (case_by lm z.inner c (from ts k)) (Is (switch_case s e ss) r) (z.depth < max (z.reach e) (most z.reach ss))) (sym (absent_is e q)) (lifted (case_default s ss ts h.0 h.1 r k g.1 x h.3.0 h.3.2 h.4 h.5) (λ u. omega arith)))
      (λ q x. case_value s e ss ts x.0 h.0 h.1 r k g.0 g.1 x.1 x.2.0 x.2.1 h.3.0 h.3.2 h.4 h.5)
  case_found _ ts r k i g h = absurd (true≢false (sym i))

  case_start : (x : Tree) (ts r : Input) → is_case x ≡ true → Produces x (coded p c) ts r → eqb (kind ts) right_brace_kind ≡ false
  case_start (switch_case s e ss) ts r i h = by_cases (is_absent e) _ _ _ h.2 (λ q x. subst (λ (k : ℕ). eqb k right_brace_kind ≡ false) (sym x.0) refl) (λ q x. subst (λ (k : ℕ). eqb k right_brace_kind ≡ false) (sym x.1.0) refl)
  case_start _ ts r i h = absurd (true≢false (sym i))

  case_less : (x : Tree) (ts r : Input) → is_case x ≡ true → Produces x (coded p c) ts r → len r < len ts
  case_less (switch_case s e ss) ts r i h = omega (arith, cut (switch_case s e ss) (coded p c) ts r h)
  case_less _ ts r i h = absurd (true≢false (sym i))

  had_more : (acc : List Tree) (x : Tree) → has_default lm z.inner (acc ++ x ∷ []) ≡ (has_default lm z.inner acc || is_default_case x)
  had_more [] x = or_off (is_default_case x)
    where
      or_off : (b : Bool) → (b || false) ≡ b
      or_off true = refl
      or_off false = refl
  had_more (a ∷ acc) x = ap (λ (b : Bool). is_default_case a || b) (had_more acc x) ∙ sym (or_three (is_default_case a) (has_default lm z.inner acc) (is_default_case x))
    where
      or_three : (a b d : Bool) → ((a || b) || d) ≡ (a || (b || d))
      or_three true b d = refl
      or_three false b d = refl

  cases_more : (x : Tree) (acc : List Tree) (b : Bool) (ts m : Input) (k : List ℕ) → has_default lm z.inner acc ≡ b → (b && is_default_case x) ≡ false → is_case x ≡ true → Within z.Covered x → Produces x (coded p c) ts m
      → Reads (from ts k) (cases_step lm z.inner c acc (from ts k)) (Is (go_on (acc ++ x ∷ [])) m) (z.depth < within z.reach x)
  unfolding cases_step
  cases_more x acc b ts m k e q i g h = if_no (kind ts == right_brace_kind) _ _ _ _ (case_start x ts m i h) (then_is (case_by lm z.inner c (from ts k)) _ x m (z.depth < within z.reach x) _ _ (case_found x ts m k i g h) (λ u. u)
      (λ j. if_no (has_default lm z.inner acc && is_default_case x) _ _ _ _ (subst (λ (b : Bool). (b && is_default_case x) ≡ false) (sym e) q) (here refl)))

  cases_end : (acc : List Tree) (ts r : Input) (k : List ℕ) → kind ts ≡ right_brace_kind → rest ts ≡ r → Reads (from ts k) (cases_step lm z.inner c acc (from ts k)) (Is (finished acc) r) ⊥
  unfolding cases_step
  cases_end acc ts r k e q = if_yes (kind ts == right_brace_kind) _ _ _ _ (eq-eqb (kind ts) right_brace_kind e) (past_here refl q)

  cases_loop : (xs : Trees) (acc : List Tree) (b : Bool) (ts r : Input) (k : List ℕ) (n : ℕ) → has_default lm z.inner acc ≡ b → Withins z.Covered xs → Cases (coded p c) b (children xs) ts r → withins z.reach xs ≤ n → Loops (cases_step lm z.inner c) acc ts k (Is (acc ++ unpack xs) r) (z.depth < n)
  cases_loop none acc b ts r k n e g h le = loop_end _ _ acc ts r k ⊥ _ _ (cases_end acc ts r k h.0 h.2) (λ u. absurd u) (λ l. (sym (append-nil acc), refl))
  cases_loop (more x xs) acc b ts r k n e g h le = loop_on _ _ (acc ++ x ∷ []) ts h.0 k (z.depth < within z.reach x) _ _ (cases_more x acc b ts h.0 k e h.1 h.2.0 g.0 h.2.1) (λ u. omega arith) (case_less x ts h.0 h.2.0 h.2.1)
      (λ l. subst (λ ys. Loops (cases_step lm z.inner c) (acc ++ x ∷ []) h.0 l (Is ys r) (z.depth < n)) (append_assoc acc (x ∷ []) (unpack xs))
      (cases_loop xs (acc ++ x ∷ []) (b || is_default_case x) h.0 r l n (had_more acc x ∙ ap (λ (b : Bool). b || is_default_case x) e) g.1 h.3 (omega arith)))

  pub switch_found : (s : Span) (e : Tree) (xs : Trees) (ts r : Input) (k : List ℕ) → Within z.Covered (switch_stmt s e xs) → Produces (switch_stmt s e xs) (coded p c) ts r
      → Reads (from ts k) (switch_by lm z.inner c (from ts k)) (Is (switch_stmt s e xs) r) (z.depth < within z.reach (switch_stmt s e xs))
  unfolding switch_by
  switch_found s e xs ts r k g h = then_word c switch_kind ts h.0 k _ _ _ h.3.0 h.3.1 h.3.3 (then_is (in_parens lm z.inner c (from h.0 k)) _ e h.1 (z.depth < z.reach e) _ _ (parens_found z p c e h.0 h.1 k g.0 h.4) (λ u. omega arith)
      (λ j. then_eat left_brace_kind h.1 h.2 j _ _ _ h.5.0 h.5.2 (then_is _ _ (unpack xs) r (z.depth < withins z.reach xs) _ _ (looped (cases_step lm z.inner c) [] h.2 j (Is (unpack xs) r) _ (cases_loop xs [] false h.2 r j (withins z.reach xs) refl g.1 h.6 (omega arith))) (λ u. omega arith)
      (λ i. here (ap (λ (y : Span). switch_stmt y e (pack (unpack xs))) (sym h.7) ∙ ap (λ (y : Trees). switch_stmt s e y) (pack_unpack xs))))))

  -- ---- 14.15 `try`

  catch_bare : (s : Span) (b : Tree) (ts m r : Input) (k : List ℕ) → TakesWord (coded p c) catch_kind ts m → is_block b ≡ true → Within z.Covered b → Produces b (coded p c) m r → s ≡ span (lo ts) r.last
      → Reads (from ts k) (catch_by lm z.inner c (from ts k)) (Is (catch_clause s absent b) r) (z.depth < within z.reach b)
  unfolding catch_by
  catch_bare s b ts m r k x i g h w = then_word c catch_kind ts m k _ _ _ x.0 x.1 x.3 (if_no (kind m == left_paren_kind) _ _ _ _ (subst (λ (k : ℕ). eqb k left_paren_kind ≡ false) (sym (block_brace b (coded p c) m r i h)) refl)
      (then_is (block_by lm z.inner c (from m k)) _ b r (z.depth < within z.reach b) _ _ (block_found b m r k i g h) (λ u. u) (λ j. built (λ y. catch_clause y absent b) s ts r j _ w)))

  catch_pattern : (s : Span) (a b : Tree) (ts m o q n r : Input) (k : List ℕ) → TakesWord (coded p c) catch_kind ts m → kind m ≡ left_paren_kind → rest m ≡ o → is_binding a ≡ true → z.Covered a → Produces a (binding (coded p c)) o q → kind q ≡ right_paren_kind → rest q ≡ n
      → is_block b ≡ true → Within z.Covered b → Produces b (coded p c) n r → s ≡ span (lo ts) r.last → Reads (from ts k) (catch_by lm z.inner c (from ts k)) (Is (catch_clause s a b) r) (z.depth < max (z.reach a) (within z.reach b))
  unfolding catch_by
  catch_pattern s a b ts m o q n r k x e t ia ga ha f v i g h w = then_word c catch_kind ts m k _ _ _ x.0 x.1 x.3 (if_yes (kind m == left_paren_kind) _ _ _ _ (eq-eqb (kind m) left_paren_kind e)
      (then_past m o k (z.inner.pat c) _ a q (z.depth < z.reach a) _ _ t (z.pat a p c o q k ga ia ha) (λ u. omega arith) (λ j. then_eat right_paren_kind q n j _ _ _ f v
      (then_is (block_by lm z.inner c (from n j)) _ b r (z.depth < within z.reach b) _ _ (block_found b n r j i g h) (λ u. omega arith) (λ y. built (λ y. catch_clause y a b) s ts r y _ w)))))

  catch_found : (x : Tree) (ts r : Input) (k : List ℕ) → is_catch x ≡ true → Within z.Covered x → Produces x (coded p c) ts r → Reads (from ts k) (catch_by lm z.inner c (from ts k)) (Is x r) (z.depth < within z.reach x)
  catch_found (catch_clause s a b) ts r k i g h = by_cases (is_absent a) _ _ _ h.3
      (λ q x. subst (λ (a : Tree). Reads (from ts k) (catch_by lm z.inner c (from ts k)) (Is (catch_clause s a b) r) (z.depth < max (z.reach a) (within z.reach b))) (sym (absent_is a q))
      (lifted (catch_bare s b ts h.0 r k h.2 h.4.0 g.1 (subst (λ (y : Input). Produces b (coded p c) y r) (sym x) h.4.1) h.5) (λ u. omega arith)))
      (λ q x. catch_pattern s a b ts h.0 x.0 x.1 h.1 r k h.2 x.2.0 x.2.2 x.3 g.0 x.4 x.5.0 x.5.2 h.4.0 g.1 h.4.1 h.5)
  catch_found _ ts r k i g h = absurd (true≢false (sym i))

  catch_word : (x : Tree) (ts r : Input) → is_catch x ≡ true → Produces x (coded p c) ts r → kind ts ≡ catch_kind
  catch_word (catch_clause s a b) ts r i h = h.2.0
  catch_word _ ts r i h = absurd (true≢false (sym i))

  finally_found : (ts : Input) (k : List ℕ) (s : Span) (b x f : Tree) (o r : Input) (j : List ℕ) → Within z.Covered f → (is_absent x && is_absent f) ≡ false
      → By (is_absent f) (o ≡ r) ((q : Input) × TakesWord (coded p c) finally_kind o q × Sorted is_block (coded p c) (child f (λ y. Produces f y)) q r) → s ≡ span (lo ts) r.last → leaves c.context (try_stmt s b x f) r ≡ true
      → Reads (from o j) (finally_by lm z.inner c (lo ts) b x (from o j)) (Is (try_stmt s b x f) r) (z.depth < within z.reach f)
  unfolding finally_by
  finally_found ts k s b x f o r j g n h w q = by_cases (is_absent f) _ _ _ h
      (λ e y. if_no ((kind o == finally_kind) && not (barred c.context o)) _ _ _ _ (subst (λ (m : Input). ((kind m == finally_kind) && not (barred c.context m)) ≡ false) (sym y) (other (is_absent f) ((kind r == finally_kind) && not (barred c.context r)) e (not-true _ q))) (if_no (is_absent x) _ _ _ _ (one_there (is_absent x) (is_absent f) e n)
      (ended (try_stmt (span (lo ts) o.last) b x absent, from o j) (Is (try_stmt s b x f) r) _ (ap (λ (m : Input). try_stmt (span (lo ts) m.last) b x absent) y ∙ ap (λ (m : Span). try_stmt m b x absent) (sym w) ∙ ap (λ (m : Tree). try_stmt s b x m) (sym (absent_is f e)), y))))
      (λ e y. if_yes ((kind o == finally_kind) && not (barred c.context o)) _ _ _ _ (and_from (kind o == finally_kind) _ (eq-eqb (kind o) finally_kind y.1.0) (ap not y.1.1)) (then_word c finally_kind o y.0 j _ _ _ y.1.0 y.1.1 y.1.3 (then_is (block_by lm z.inner c (from y.0 j)) _ f r (z.depth < within z.reach f) _ _ (block_found f y.0 r j y.2.0 g y.2.1) (λ u. u)
      (λ i. built (λ y. try_stmt y b x f) s ts r i _ w))))
    where
      other : (a d : Bool) → a ≡ true → (a && d) ≡ false → d ≡ false
      other true d e h = h
      other false d e h = absurd (true≢false (sym e))

      one_there : (a d : Bool) → d ≡ true → (a && d) ≡ false → a ≡ false
      one_there true true e h = h
      one_there true false e h = absurd (true≢false (sym e))
      one_there false d e h = refl

  pub try_found : (s : Span) (b x f : Tree) (ts r : Input) (k : List ℕ) → Within z.Covered (try_stmt s b x f) → Produces (try_stmt s b x f) (coded p c) ts r → leaves c.context (try_stmt s b x f) r ≡ true
      → Reads (from ts k) (try_by lm z.inner c (from ts k)) (Is (try_stmt s b x f) r) (z.depth < within z.reach (try_stmt s b x f))
  unfolding try_by
  try_found s b x f ts r k g h q = then_word c try_kind ts h.0 k _ _ _ h.4.0 h.4.1 h.4.3 (then_is (block_by lm z.inner c (from h.0 k)) _ b h.1 (z.depth < within z.reach b) _ _ (block_found b h.0 h.1 k h.5.0 g.0 h.5.1) (λ u. omega arith)
      (λ j. by_cases (is_absent x) _ _ _ h.6
      (λ e y. if_no (kind h.1 == catch_kind) _ _ _ _ (no_catch e y)
      (subst (λ (m : Input). Reads (from m j) (finally_by lm z.inner c (lo ts) b absent (from m j)) (Is (try_stmt s b x f) r) (z.depth < within z.reach (try_stmt s b x f))) (sym y)
      (subst (λ (t : Tree). Reads (from h.2 j) (finally_by lm z.inner c (lo ts) b t (from h.2 j)) (Is (try_stmt s b x f) r) (z.depth < within z.reach (try_stmt s b x f))) (absent_is x e) (ends_by j))))
      (λ e y. if_yes (kind h.1 == catch_kind) _ _ _ _ (eq-eqb (kind h.1) catch_kind (catch_word x h.1 h.2 y.0 y.1)) (then_is (catch_by lm z.inner c (from h.1 j)) _ x h.2 (z.depth < within z.reach x) _ _ (catch_found x h.1 h.2 j y.0 g.1 y.1) (λ u. omega arith) (λ i. ends_by i)))))
    where
      ends_by : (j : List ℕ) → Reads (from h.2 j) (finally_by lm z.inner c (lo ts) b x (from h.2 j)) (Is (try_stmt s b x f) r) (z.depth < within z.reach (try_stmt s b x f))
      ends_by j = lifted (finally_found ts k s b x f h.2 r j g.2 h.3 h.7 h.8 q) (λ u. omega arith)

      no_catch : is_absent x ≡ true → h.1 ≡ h.2 → eqb (kind h.1) catch_kind ≡ false
      no_catch e y = by_cases (is_absent f) _ _ _ h.7 (λ d v. absurd (true≢false (sym (and_from (is_absent x) (is_absent f) e d) ∙ h.3))) (λ d v. subst (λ (m : Input). eqb (kind m) catch_kind ≡ false) (sym y) (subst (λ (k : ℕ). eqb k catch_kind ≡ false) (sym v.1.0) refl))

-- ---- bodies

-- statements of a body, and the tokens after it
abbrev pub HasItems : List Tree → Input → Gathered × State Input → Type 0
HasItems xs r y = (y.0.items ≡ xs) × (y.1.source ≡ r)

and_on : (t : Tree) (b : Bool) → (b && is_use_strict t) ≡ true → (b && is_directive t) ≡ true
and_on t true e = strict_directive t e
and_on t false e = e

module _ (z : Nested) (p : Bool) (may : Tree → Bool) (close : Code → Input → Input → Type 0) where
  -- the code in which the statements after one stand
  pub on_strict : (c : Code) (b : Bool) (t : Tree) (ss : Trees) (ts r : Input) → (b && is_use_strict t) ≡ true → Items may close (if b && is_use_strict t then turned_strict (coded p c) else coded p c) (b && is_directive t) (children ss) ts r
      → Items may close (coded p (turned_strict c)) true (children ss) ts r
  on_strict c b t ss ts r e h = subst (λ (y : Bool). Items may close (coded p (turned_strict c)) y (children ss) ts r) (and_on t b e) (subst (λ (y : Bool). Items may close (if y then turned_strict (coded p c) else coded p c) (b && is_directive t) (children ss) ts r) e h)

  pub on_same : (c : Code) (b : Bool) (t : Tree) (ss : Trees) (ts r : Input) → (b && is_use_strict t) ≡ false → Items may close (if b && is_use_strict t then turned_strict (coded p c) else coded p c) (b && is_directive t) (children ss) ts r
      → Items may close (coded p c) (b && is_directive t) (children ss) ts r
  on_same c b t ss ts r e h = subst (λ (y : Bool). Items may close (if y then turned_strict (coded p c) else coded p c) (b && is_directive t) (children ss) ts r) e h

module _ (z : Nested) (p : Bool) where
  body_strict : (c : Code) (b : Bool) (t : Tree) (acc : List Tree) (ts m : Input) (k : List ℕ) → (b && is_use_strict t) ≡ true → z.Covered t → is_item t ≡ true → Produces t (coded p (in_list c)) ts m → may_follow (kind m) ≡ true
      → Reads (from ts k) (body_step lm z.inner (record { items = acc; code = c; starts = b }) (from ts k)) (Is (go_on (record { items = acc ++ t ∷ []; code = turned_strict c; starts = true })) m) (z.depth < z.reach t)
  unfolding body_step body_item
  body_strict c b t acc ts m k e g i h q = if_no (kind ts == right_brace_kind) _ _ _ _ (no_item (kind ts) right_brace_kind (item_opens t (coded p (in_list c)) ts m i h) refl)
      (then_is (z.inner.stmt (in_list c) (from ts k)) _ t m (z.depth < z.reach t) _ _ (z.stmt t p (in_list c) ts m k g i h (follows c.context t m q)) (λ u. u) (λ j. if_yes (b && is_use_strict t) _ _ _ _ e (here refl)))

  body_same : (c : Code) (b : Bool) (t : Tree) (acc : List Tree) (ts m : Input) (k : List ℕ) → (b && is_use_strict t) ≡ false → z.Covered t → is_item t ≡ true → Produces t (coded p (in_list c)) ts m → may_follow (kind m) ≡ true
      → Reads (from ts k) (body_step lm z.inner (record { items = acc; code = c; starts = b }) (from ts k)) (Is (go_on (record { items = acc ++ t ∷ []; code = c; starts = b && is_directive t })) m) (z.depth < z.reach t)
  unfolding body_step body_item
  body_same c b t acc ts m k e g i h q = if_no (kind ts == right_brace_kind) _ _ _ _ (no_item (kind ts) right_brace_kind (item_opens t (coded p (in_list c)) ts m i h) refl)
      (then_is (z.inner.stmt (in_list c) (from ts k)) _ t m (z.depth < z.reach t) _ _ (z.stmt t p (in_list c) ts m k g i h (follows c.context t m q)) (λ u. u) (λ j. if_no (b && is_use_strict t) _ _ _ _ e (here refl)))

  body_end : (b : Gathered) (ts r : Input) (k : List ℕ) → kind ts ≡ right_brace_kind → rest ts ≡ r → Reads (from ts k) (body_step lm z.inner b (from ts k)) (Is (finished b) r) ⊥
  unfolding body_step
  body_end b ts r k e q = if_yes (kind ts == right_brace_kind) _ _ _ _ (eq-eqb (kind ts) right_brace_kind e) (past_here refl q)

  body_loop : (ss : Trees) (c : Code) (b : Bool) (acc : List Tree) (ts r : Input) (k : List ℕ) (n : ℕ) → Each z.Covered ss → Items is_item Closes (coded p c) b (children ss) ts r → most z.reach ss ≤ n
      → Loops (body_step lm z.inner) (record { items = acc; code = c; starts = b }) ts k (HasItems (acc ++ unpack ss) r) (z.depth < n)
  body_loop none c b acc ts r k n g h le = loop_end _ _ (record { items = acc; code = c; starts = b }) ts r k ⊥ _ _ (body_end _ ts r k h.0 h.2) (λ u. absurd u) (λ l. (sym (append-nil acc), refl))
  body_loop (more t ss) c b acc ts r k n g h le = ⊎_elim
      (λ (e : (b && is_use_strict t) ≡ true). let v = on_strict z p is_item Closes c b t ss h.0 r e h.3 in
      loop_on _ _ (record { items = acc ++ t ∷ []; code = turned_strict c; starts = true }) ts h.0 k (z.depth < z.reach t) _ _
      (body_strict c b t acc ts h.0 k e g.0 h.1 h.2 (list_follows is_item Closes (λ t c m n i v. item_opens t c m n i v) brace_follows ss (coded p (turned_strict c)) true h.0 r v)) (λ u. omega arith) (item_cut t (coded p (in_list c)) ts h.0 h.1 h.2)
      (λ l. subst (λ ys. Loops (body_step lm z.inner) (record { items = acc ++ t ∷ []; code = turned_strict c; starts = true }) h.0 l (HasItems ys r) (z.depth < n)) (append_assoc acc (t ∷ []) (unpack ss)) (body_loop ss (turned_strict c) true (acc ++ t ∷ []) h.0 r l n g.1 v (omega arith))))
      (λ (e : (b && is_use_strict t) ≡ false). let v = on_same z p is_item Closes c b t ss h.0 r e h.3 in
      loop_on _ _ (record { items = acc ++ t ∷ []; code = c; starts = b && is_directive t }) ts h.0 k (z.depth < z.reach t) _ _
      (body_same c b t acc ts h.0 k e g.0 h.1 h.2 (list_follows is_item Closes (λ t c m n i v. item_opens t c m n i v) brace_follows ss (coded p c) (b && is_directive t) h.0 r v)) (λ u. omega arith) (item_cut t (coded p (in_list c)) ts h.0 h.1 h.2)
      (λ l. subst (λ ys. Loops (body_step lm z.inner) (record { items = acc ++ t ∷ []; code = c; starts = b && is_directive t }) h.0 l (HasItems ys r) (z.depth < n)) (append_assoc acc (t ∷ []) (unpack ss)) (body_loop ss c (b && is_directive t) (acc ++ t ∷ []) h.0 r l n g.1 v (omega arith))))
      (cases_Bool (b && is_use_strict t))

  pub body_found : (s : Span) (ss : Trees) (c : Code) (ts r : Input) (k : List ℕ) → Each z.Covered ss → Body (coded p c) s (children ss) ts r → Reads (from ts k) (body_by lm z.inner c (from ts k)) (Is (block_stmt s ss) r) (z.depth < most z.reach ss)
  unfolding body_by
  body_found s ss c ts r k g h = then_eat left_brace_kind ts h.0 k _ _ _ h.1.0 h.1.2
      (then_reads _ _ (HasItems (unpack ss) r) (z.depth < most z.reach ss) _ _ (looped (body_step lm z.inner) (record { items = []; code = c; starts = true }) h.0 k (HasItems (unpack ss) r) _ (body_loop ss c true [] h.0 r k (most z.reach ss) g h.2 (omega arith))) (λ u. u)
      (λ y v. ended (block_stmt (span (lo ts) y.1.source.last) (pack y.0.items), y.1) (Is (block_stmt s ss) r) _
      (ap (λ (w : Input). block_stmt (span (lo ts) w.last) (pack y.0.items)) v.1 ∙ ap (λ (w : Span). block_stmt w (pack y.0.items)) (sym h.3) ∙ ap (λ w. block_stmt s (pack w)) v.0 ∙ ap (λ (w : Trees). block_stmt s w) (pack_unpack ss), v.1)))
