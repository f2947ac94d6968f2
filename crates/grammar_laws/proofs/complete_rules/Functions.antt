-- Parameters and functions (15.1 to 15.8): what their rules answer.
use Rattle.std.proofs.Common.{◌≡◌, ℕ, ◌<◌, ◌≤◌, ◌⊎◌, inl, inr, max, Bool, true, false, not, ◌&&◌, ◌||◌, ◌==◌, eqb, List, [], ◌∷◌, ◌++◌, Some, refl, sym, ap, ◌∙◌, subst, ⊎_elim, true≢false, append_assoc, append-nil, arith}
use Rattle.std.proofs.lemmas.Bool.{eq-eqb, or_cases, and_left, and_from}
use Rattle.base_token.specs.declared.place.Span.{Span}
use Rattle.base_token.specs.Kinds.{dot_dot_dot_kind, left_paren_kind, right_paren_kind, left_bracket_kind, comma_kind, hash_kind, mul_kind, assign_kind, function_kind, class_kind}
use Rattle.tree_spec.specs.Tree.{Tree, Trees, none, more, pack, unpack, param, function, block_stmt, fn_decl, fn_expr, class_decl, assign_pat, rest_pat, ident, ident_name, computed_prop_name, private_name, str_lit, number_lit, big_int_lit, absent}
use Rattle.tree_spec.proofs.PackLemmas.{pack_unpack}
use Rattle.grammar_spec.specs.Tokens.Input.{Input, Code, kind, lo, text, span, first_span, rest, dots_at, is_word, barred, with_in, setting, by, in_body, turned_strict, Takes, TakesWord}
use Rattle.grammar_spec.specs.Tokens.Operators.{assignment_level}
use Rattle.grammar_spec.specs.Tokens.Shape.{level, ends, is_absent, is_binding, is_item_pat, is_param, is_rest, is_key, is_private}
use Rattle.grammar_spec.specs.Children.{is_ident, IsEmpty, Sorted, Listed}
use Rattle.grammar_spec.specs.Functions.{Parameters, Star, Async}
use Rattle.grammar_spec.specs.Grammar.{Produces, children}
use Rattle.grammar_spec.specs.Reader.Source.{Inner, go_on, finished}
use Rattle.grammar_spec.specs.Reader.Expressions.{key_by, parameter_by, parameter_step, parameters_by, setter_parameter, is_rest_param, function_by, star, function_expr_name, function_expr_by}
use Rattle.grammar_spec.specs.Reader.Statements.{function_decl_by, class_decl_by, class_key}
use Rattle.grammar_laws.proofs.complete_base.Yields.{lm, from, len, coded, first_at, Reads, Is, then_is, then_eat, then_word, then_name, then_past, here, past_here, ended, if_no, if_yes, Loops, loop_on, loop_end, looped}
use Rattle.grammar_laws.proofs.complete_base.Levels.{Follow, closed_by, comma_after}
use Rattle.grammar_laws.proofs.complete_base.Trees.{by_cases, takes, no_kind}
use Rattle.grammar_laws.proofs.complete_rules.Prefixes.{literal_found}
use Rattle.grammar_laws.proofs.complete_rules.Lists.{two_asked}
use Rattle.grammar_laws.proofs.complete_rules.Steps.{computed_found}
use Rattle.grammar_laws.proofs.complete_rules.Members.{private_found}
use Rattle.grammar_laws.proofs.complete_rules.Objects.{str_read, number_read, big_int_read, begins_key, key_starts}
use Rattle.grammar_laws.proofs.complete_rules.Nested.{Nested, patterned}
use Rattle.grammar_laws.proofs.complete_rules.Within.{ItemIn, item_in, Within, Withins, within, withins}
use Rattle.grammar_laws.proofs.complete_rules.Follows.{built}
use Rattle.grammar_laws.proofs.complete_rules.Starts.{starts_binding, binding_starts, ident_is}
use Rattle.grammar_laws.proofs.complete_base.Cuts.{cut}
use Rattle.grammar_laws.proofs.Shapes.{place_binds, absent_is}

-- ---- what follows a parameter

-- a comma, or the parenthesis that closes
abbrev pub Divides : Input → Type 0
Divides m = (kind m ≡ comma_kind) ⊎ (kind m ≡ right_paren_kind)

divided : (c : Code) (m : Input) → Divides m → (e : ℕ) → Follow (with_in c) e 2 m
divided c m (inl q) e = comma_after (with_in c) e 2 m q (omega arith)
divided c m (inr q) e = closed_by (with_in c) e 2 right_paren_kind m q refl refl (omega arith)

no_value : (m : Input) → Divides m → eqb (kind m) assign_kind ≡ false
no_value m (inl q) = subst (λ (k : ℕ). eqb k assign_kind ≡ false) (sym q) refl
no_value m (inr q) = subst (λ (k : ℕ). eqb k assign_kind ≡ false) (sym q) refl

pub empty_none : (xs : Trees) → IsEmpty (children xs) → xs ≡ none
empty_none none h = refl
empty_none (more x xs) h = absurd h

pub no_dots : (ts : Input) → starts_binding (kind ts) ≡ true → eqb (kind ts) dot_dot_dot_kind ≡ false
no_dots ts h = no_kind starts_binding (kind ts) dot_dot_dot_kind h refl

pub rest_same : (inner : Inner Input) (t : Tree) → is_param t ≡ true → is_rest_param lm inner t ≡ is_rest t
rest_same inner (param s ds (rest_pat t d a)) h = refl
rest_same inner (param s ds _) h = refl
rest_same inner _ h = absurd (true≢false (sym h))

module _ (z : Nested) (p : Bool) (c : Code) where
  two_found : (e : Tree) (m n : Input) (k : List ℕ) → z.Covered e → 2 ≤ level e → Produces e (coded p (with_in c)) m n → Divides n → Reads (from m k) (z.inner.expr (with_in c) assignment_level (from m k)) (Is e n) (z.depth < z.reach e)
  two_found e m n k g le h d = z.expr e p (with_in c) 2 m n k g h (omega arith) (omega arith) two_asked le (divided c n d (ends e))

  -- ---- keys (13.2.5, 15.7)

  pub key_found : (x : Tree) (ts m : Input) (k : List ℕ) → is_key x ≡ true → Within z.Covered x → Produces x (coded p c) ts m → Reads (from ts k) (key_by lm z.inner c (from ts k)) (Is x m) (z.depth < within z.reach x)
  unfolding key_by
  key_found (ident_name s n) ts m k e g h = if_no (eqb (kind ts) left_bracket_kind) _ _ _ _ (no_kind is_word (kind ts) left_bracket_kind h.0.0 refl) (if_yes (is_word (kind ts)) _ _ _ _ h.0.0
      (past_here (ap (λ (y : Span). ident_name y (text ts)) (first_at ts m s h.0.3 h.1) ∙ ap (λ y. ident_name s y) h.0.1) h.0.3))
  key_found (str_lit s u w) ts m k e g h = rw h.3.0 (literal_found z.inner c ts k (λ x. Unit {0}) _ (str_lit s u w) m (str_read (coded p c) s u w ts m h) h.3.2)
  key_found (number_lit s v w) ts m k e g h = rw h.3.0 (literal_found z.inner c ts k (λ x. Unit {0}) _ (number_lit s v w) m (number_read (coded p c) s v w ts m h) h.3.2)
  key_found (big_int_lit s b x w) ts m k e g h = rw h.3.0 (literal_found z.inner c ts k (λ x. Unit {0}) _ (big_int_lit s b x w) m (big_int_read (coded p c) s b x w ts m h) h.3.2)
  key_found (computed_prop_name s x) ts m k e g h = if_yes (eqb (kind ts) left_bracket_kind) _ _ _ _ (eq-eqb (kind ts) left_bracket_kind h.2.0)
      (computed_found z.inner c ts k x ts k (z.depth < z.reach x) assignment_level s x h.0 h.1 m (z.depth < z.reach x) h.2.2 (λ j. z.expr x p (with_in c) 2 h.0 h.1 j g h.3.1 (omega arith) (omega arith) two_asked h.3.0 (closed_by (with_in c) (ends x) 2 10 h.1 h.4.0 refl refl (omega arith))) (λ u. u) h.4.0 h.4.2 h.5)
  key_found _ ts m k e g h = absurd (true≢false (sym e))

  private_key : (x : Tree) (ts m : Input) (k : List ℕ) → is_private x ≡ true → Produces x (coded p c) ts m → Reads (from ts k) (class_key lm z.inner c (from ts k)) (Is x m) (z.depth < within z.reach x)
  unfolding class_key
  private_key (private_name s n) ts m k e h = if_yes (kind ts == hash_kind) _ _ _ _ (eq-eqb (kind ts) hash_kind h.1.0) (private_found z.inner (coded p c) s n ts m k h)
  private_key _ ts m k e h = absurd (true≢false (sym e))

  plain_key : (x : Tree) (ts m : Input) (k : List ℕ) → is_key x ≡ true → Within z.Covered x → Produces x (coded p c) ts m → Reads (from ts k) (class_key lm z.inner c (from ts k)) (Is x m) (z.depth < within z.reach x)
  unfolding class_key
  plain_key x ts m k e g h = if_no (kind ts == hash_kind) _ _ _ _ (no_kind begins_key (kind ts) hash_kind (key_starts x (coded p c) ts m e h).0 refl) (key_found x ts m k e g h)

  -- a key of a class
  pub any_key_found : (x : Tree) (ts m : Input) (k : List ℕ) → (is_key x || is_private x) ≡ true → Within z.Covered x → Produces x (coded p c) ts m → Reads (from ts k) (class_key lm z.inner c (from ts k)) (Is x m) (z.depth < within z.reach x)
  any_key_found x ts m k e g h = ⊎_elim (λ q. plain_key x ts m k q g h) (λ q. private_key x ts m k q h) (or_cases (is_key x) (is_private x) e)

  -- ---- parameters

  plain_parameter : (s : Span) (a : Tree) (ts m : Input) (k : List ℕ) → z.Covered a → is_binding a ≡ true → Produces a (patterned p (with_in c)) ts m → s ≡ span (lo ts) m.last → Divides m → Reads (from ts k) (parameter_by lm z.inner c (from ts k)) (Is (param s none a) m) (z.depth < z.reach a)
  unfolding parameter_by
  plain_parameter s a ts m k g b h w d = if_no (kind ts == dot_dot_dot_kind) _ _ _ _ (no_dots ts (binding_starts a (patterned p (with_in c)) ts m b h)) (then_is (z.inner.pat (with_in c) (from ts k)) _ a m (z.depth < z.reach a) _ _ (z.pat a p (with_in c) ts m k g b h) (λ u. u)
      (λ j. if_no (kind m == assign_kind) _ _ _ _ (no_value m d) (here (ap (λ (y : Span). param y none a) (sym w)))))

  rest_parameter : (s t e : Span) (a : Tree) (ts n m : Input) (k : List ℕ) → z.Covered a → kind ts ≡ dot_dot_dot_kind → rest ts ≡ n → e ≡ dots_at (lo ts) → is_binding a ≡ true → Produces a (patterned p (with_in c)) n m → t ≡ span (lo ts) m.last → s ≡ span (lo ts) m.last
      → Reads (from ts k) (parameter_by lm z.inner c (from ts k)) (Is (param s none (rest_pat t e a)) m) (z.depth < z.reach a)
  unfolding parameter_by
  rest_parameter s t e a ts n m k g q v x b h u w = if_yes (kind ts == dot_dot_dot_kind) _ _ _ _ (eq-eqb (kind ts) dot_dot_dot_kind q) (then_past ts n k (z.inner.pat (with_in c)) _ a m (z.depth < z.reach a) _ _ v (z.pat a p (with_in c) n m k g b h) (λ y. y)
      (λ j. here (ap (λ (y : Span). param y none (rest_pat (span (lo ts) m.last) (dots_at (lo ts)) a)) (sym w) ∙ ap (λ (y : Span). param s none (rest_pat y (dots_at (lo ts)) a)) (sym u) ∙ ap (λ (y : Span). param s none (rest_pat t y a)) (sym x))))

  valued_parameter : (s t : Span) (a e : Tree) (ts n o m : Input) (k : List ℕ) → z.Covered a → z.Covered e → is_binding a ≡ true → Produces a (patterned p (with_in c)) ts n → kind n ≡ assign_kind → rest n ≡ o → 2 ≤ level e → Produces e (coded p (with_in c)) o m → t ≡ span (lo ts) m.last → s ≡ span (lo ts) m.last → Divides m
      → Reads (from ts k) (parameter_by lm z.inner c (from ts k)) (Is (param s none (assign_pat t a e)) m) (z.depth < max (z.reach a) (z.reach e))
  unfolding parameter_by
  valued_parameter s t a e ts n o m k ga ge b h q v le x u w d = if_no (kind ts == dot_dot_dot_kind) _ _ _ _ (no_dots ts (binding_starts a (patterned p (with_in c)) ts n b h)) (then_is (z.inner.pat (with_in c) (from ts k)) _ a n (z.depth < z.reach a) _ _ (z.pat a p (with_in c) ts n k ga b h) (λ y. omega arith)
      (λ j. if_yes (kind n == assign_kind) _ _ _ _ (eq-eqb (kind n) assign_kind q) (then_past n o j (z.inner.expr (with_in c) assignment_level) _ e m (z.depth < z.reach e) _ _ v (two_found e o m j ge le x d) (λ y. omega arith)
      (λ i. here (ap (λ (y : Span). param y none (assign_pat (span (lo ts) m.last) a e)) (sym w) ∙ ap (λ (y : Span). param s none (assign_pat y a e)) (sym u))))))

  parameter_found : (x : Tree) (ts m : Input) (k : List ℕ) → is_param x ≡ true → Within z.Covered x → Produces x (coded p c) ts m → Divides m → Reads (from ts k) (parameter_by lm z.inner c (from ts k)) (Is x m) (z.depth < within z.reach x)
  parameter_found (param s ds a) ts m k i g h d = subst (λ (y : Trees). Reads (from ts k) (parameter_by lm z.inner c (from ts k)) (Is (param s y a) m) (z.depth < item_in z.reach a)) (sym (empty_none ds h.0)) (by_item a g h.1 h.2)
    where
      by_item : (a : Tree) → ItemIn z.Covered a → is_item_pat true a ≡ true → Produces a (patterned p (with_in c)) ts m → Reads (from ts k) (parameter_by lm z.inner c (from ts k)) (Is (param s none a) m) (z.depth < item_in z.reach a)
      by_item (assign_pat t q e) g i v = valued_parameter s t q e ts v.0 v.1 m k g.0 g.1 (place_binds q v.2) v.3 v.4.0 v.4.2 v.5.0 v.5.1 v.6 h.3 d
      by_item (rest_pat t e q) g i v = rest_parameter s t e q ts v.0 m k g v.1.0 v.1.2 v.2 (place_binds q v.3) v.4 v.5 h.3
      by_item a g i v = plain_parameter s a ts m k g (place_binds a i) v h.3 d
  parameter_found _ ts m k i g h d = absurd (true≢false (sym i))

  parameter_start : (x : Tree) (ts m : Input) → is_param x ≡ true → Produces x (coded p c) ts m → eqb (kind ts) right_paren_kind ≡ false
  parameter_start (param s ds a) ts m i h = by_item a h.1 h.2
    where
      by_item : (a : Tree) → is_item_pat true a ≡ true → Produces a (patterned p (with_in c)) ts m → eqb (kind ts) right_paren_kind ≡ false
      by_item (assign_pat t q e) i v = no_kind starts_binding (kind ts) right_paren_kind (binding_starts q (patterned p (with_in c)) ts v.0 (place_binds q v.2) v.3) refl
      by_item (rest_pat t e q) i v = subst (λ (k : ℕ). eqb k right_paren_kind ≡ false) (sym v.1.0) refl
      by_item a i v = no_kind starts_binding (kind ts) right_paren_kind (binding_starts a (patterned p (with_in c)) ts m (place_binds a i) v) refl
  parameter_start _ ts m i h = absurd (true≢false (sym i))

  parameter_less : (x : Tree) (ts m : Input) → is_param x ≡ true → Produces x (coded p c) ts m → len m < len ts
  parameter_less (param s ds a) ts m i h = omega (arith, cut (param s ds a) (coded p c) ts m h)
  parameter_less _ ts m i h = absurd (true≢false (sym i))

  more_parameters : (x : Tree) (acc : List Tree) (ts m r : Input) (k : List ℕ) → is_param x ≡ true → Within z.Covered x → Produces x (coded p c) ts m → is_rest x ≡ false → kind m ≡ comma_kind → rest m ≡ r
      → Reads (from ts k) (parameter_step lm z.inner c acc (from ts k)) (Is (go_on (acc ++ x ∷ [])) r) (z.depth < within z.reach x)
  unfolding parameter_step
  more_parameters x acc ts m r k i g h n e q = if_no (kind ts == right_paren_kind) _ _ _ _ (parameter_start x ts m i h) (then_is (parameter_by lm z.inner c (from ts k)) _ x m (z.depth < within z.reach x) _ _ (parameter_found x ts m k i g h (inl e)) (λ u. u)
      (λ j. if_yes ((kind m == comma_kind) && not (is_rest_param lm z.inner x)) _ _ _ _ (and_from (kind m == comma_kind) _ (eq-eqb (kind m) comma_kind e) (ap not (rest_same z.inner x i ∙ n))) (past_here refl q)))

  last_parameter : (x : Tree) (acc : List Tree) (ts m r : Input) (k : List ℕ) → is_param x ≡ true → Within z.Covered x → Produces x (coded p c) ts m → kind m ≡ right_paren_kind → rest m ≡ r
      → Reads (from ts k) (parameter_step lm z.inner c acc (from ts k)) (Is (finished (acc ++ x ∷ [])) r) (z.depth < within z.reach x)
  unfolding parameter_step
  last_parameter x acc ts m r k i g h e q = if_no (kind ts == right_paren_kind) _ _ _ _ (parameter_start x ts m i h) (then_is (parameter_by lm z.inner c (from ts k)) _ x m (z.depth < within z.reach x) _ _ (parameter_found x ts m k i g h (inr e)) (λ u. u)
      (λ j. if_no ((kind m == comma_kind) && not (is_rest_param lm z.inner x)) _ _ _ _ (and_left (kind m == comma_kind) _ (subst (λ (k : ℕ). eqb k comma_kind ≡ false) (sym e) refl)) (then_eat right_paren_kind m r j _ _ _ e q (here refl))))

  no_parameters : (acc : List Tree) (ts r : Input) (k : List ℕ) → kind ts ≡ right_paren_kind → rest ts ≡ r → Reads (from ts k) (parameter_step lm z.inner c acc (from ts k)) (Is (finished acc) r) ⊥
  unfolding parameter_step
  no_parameters acc ts r k e q = if_yes (kind ts == right_paren_kind) _ _ _ _ (eq-eqb (kind ts) right_paren_kind e) (past_here refl q)

  parameters_loop : (ps : Trees) (acc : List Tree) (ts r : Input) (k : List ℕ) (b : ℕ) → Withins z.Covered ps → Listed false (Sorted is_param (coded p c)) (coded p c) right_paren_kind (children ps) ts r → withins z.reach ps ≤ b → Loops (parameter_step lm z.inner c) acc ts k (Is (acc ++ unpack ps) r) (z.depth < b)
  parameters_loop none acc ts r k b g h le = loop_end _ _ acc ts r k ⊥ _ _ (no_parameters acc ts r k h.0 h.2) (λ u. absurd u) (λ l. (sym (append-nil acc), refl))
  parameters_loop (more x xs) acc ts r k b g h le = ⊎_elim
      (λ v. loop_on _ _ (acc ++ x ∷ []) ts v.1 k (z.depth < within z.reach x) _ _ (more_parameters x acc ts h.0 v.1 k h.1.0 g.0 h.1.1 v.0 v.2.0 v.2.2) (λ u. omega arith) (omega (arith, parameter_less x ts h.0 h.1.0 h.1.1, takes comma_kind h.0 v.1 v.2.0 (omega arith) v.2.2))
      (λ l. subst (λ ys. Loops (parameter_step lm z.inner c) (acc ++ x ∷ []) v.1 l (Is ys r) (z.depth < b)) (append_assoc acc (x ∷ []) (unpack xs)) (parameters_loop xs (acc ++ x ∷ []) v.1 r l b g.1 v.3 (omega arith))))
      (λ v. loop_end _ _ (acc ++ x ∷ []) ts r k (z.depth < within z.reach x) _ _ (last_parameter x acc ts h.0 r k h.1.0 g.0 h.1.1 v.1.0 v.1.2) (λ u. omega arith) (λ l. (ap (λ (y : Trees). acc ++ (x ∷ unpack y)) (sym (empty_none xs v.0)), refl)))
      h.2

  pub parameters_found : (ps : Trees) (ts r : Input) (k : List ℕ) → Withins z.Covered ps → Parameters (coded p c) (children ps) ts r → Reads (from ts k) (parameters_by lm z.inner c (from ts k)) (Is (unpack ps) r) (z.depth < withins z.reach ps)
  unfolding parameters_by
  parameters_found ps ts r k g h = then_eat left_paren_kind ts h.0 k _ _ _ h.1.0 h.1.2 (looped (parameter_step lm z.inner c) [] h.0 k (Is (unpack ps) r) _ (parameters_loop ps [] h.0 r k (withins z.reach ps) g h.2 (omega arith)))

  -- the one parameter of a setter
  pub setter_found : (x : Tree) (ts m n r : Input) (k : List ℕ) → is_param x ≡ true → is_rest x ≡ false → Within z.Covered x → Takes (coded p c) left_paren_kind ts m → Produces x (coded p c) m n → Takes (coded p c) right_paren_kind n r
      → Reads (from ts k) (setter_parameter lm z.inner c (from ts k)) (Is x r) (z.depth < within z.reach x)
  unfolding setter_parameter
  setter_found x ts m n r k i e g o h q = then_eat left_paren_kind ts m k _ _ _ o.0 o.2 (then_is (parameter_by lm z.inner c (from m k)) _ x n (z.depth < within z.reach x) _ _ (parameter_found x m n k i g h (inr q.0)) (λ u. u)
      (λ j. if_no (is_rest_param lm z.inner x) _ _ _ _ (rest_same z.inner x i ∙ e) (then_eat right_paren_kind n r j _ _ _ q.0 q.2 (here refl))))

-- ---- functions

module _ (z : Nested) (p : Bool) (c : Code) where
  pub function_found : (t : Span) (ps ds : Trees) (b : Tree) (g a : Bool) (whole : ℕ) (ts r : Input) (k : List ℕ) → Within z.Covered (function t ps ds b g a) → Produces (function t ps ds b g a) (setting false (coded p c)) ts r → t ≡ span whole r.last
      → Reads (from ts k) (function_by lm z.inner c whole g a (from ts k)) (Is (function t ps ds b g a) r) (z.depth < within z.reach (function t ps ds b g a))
  unfolding function_by
  function_found t ps ds (block_stmt q ss) g a whole ts r k w h e = then_is (parameters_by lm z.inner (in_body g a c) (from ts k)) _ (unpack ps) h.0 (z.depth < withins z.reach ps) _ _ (parameters_found z p (in_body g a c) ps ts h.0 k w.0 h.2) (λ u. omega arith)
      (λ j. then_is (z.inner.body (in_body g a c) (from h.0 j)) _ (block_stmt q ss) r (z.depth < z.reach (block_stmt q ss)) _ _ (z.body q ss p (in_body g a c) h.0 r j w.1 h.3) (λ u. omega arith)
      (λ i. here (ap (λ (y : Span). function y (pack (unpack ps)) none (block_stmt q ss) g a) (sym e) ∙ ap (λ (y : Trees). function t y none (block_stmt q ss) g a) (pack_unpack ps) ∙ ap (λ (y : Trees). function t ps y (block_stmt q ss) g a) (sym (empty_none ds h.1)))))
  function_found t ps ds _ g a whole ts r k w h e = absurd h

  pub star_found : (g : Bool) (ts r : Input) (k : List ℕ) (Q : Type 0) → Star g (coded p c) ts r → eqb (kind r) mul_kind ≡ false → Reads (from ts k) (star lm z.inner (from ts k)) (Is g r) Q
  unfolding star
  star_found true ts r k Q h n = if_yes (kind ts == mul_kind) _ _ _ _ (eq-eqb (kind ts) mul_kind h.0) (past_here refl h.2)
  star_found false ts r k Q h n = if_no (kind ts == mul_kind) _ _ _ _ (subst (λ (y : Input). eqb (kind y) mul_kind ≡ false) (sym h) n) (ended (false, from ts k) (Is false r) Q (refl, h))

  -- a declaration, from the word `function`
  pub declared : (start : Input) (i : List ℕ) (s : Span) (x f : Tree) (g a : Bool) (ts m n o r : Input) (k : List ℕ) → TakesWord (coded p c) function_kind ts m → Star g (coded p c) m n → is_ident x ≡ true → Produces x (coded p c) n o
      → ((j : List ℕ) → Reads (from o j) (function_by lm z.inner c (lo start) g a (from o j)) (Is f r) (z.depth < within z.reach f)) → s ≡ span (lo start) r.last
      → Reads (from ts k) (function_decl_by lm z.inner c (lo start) a (from ts k)) (Is (fn_decl s x f) r) (z.depth < within z.reach f)
  unfolding function_decl_by
  declared start i s x f g a ts m n o r k w t y h v e = then_word c function_kind ts m k _ _ _ w.0 w.1 w.3 (then_is (star lm z.inner (from m k)) _ g n ⊥ _ _ (star_found g m n k ⊥ t (no_kind is_word (kind n) mul_kind (ident_is x (coded p c) n o y h).2.0 refl)) (λ u. absurd u)
      (λ j. let q = ident_is x (coded p c) n o y h in then_name c n o q.0 j _ _ _ q.2 q.3 q.4 (then_is (function_by lm z.inner c (lo start) g a (from o j)) _ f r (z.depth < within z.reach f) _ _ (v j) (λ u. u)
      (λ l. here (ap (λ (d : Span). fn_decl d (ident (first_span n) q.0) f) (sym e) ∙ ap (λ (d : Tree). fn_decl s d f) (sym q.1))))))

  pub function_declared : (s : Span) (x : Tree) (t : Span) (ps ds : Trees) (b : Tree) (g a : Bool) (ts r : Input) (k : List ℕ) → Within z.Covered (function t ps ds b g a) → Produces (fn_decl s x (function t ps ds b g a)) (coded p c) ts r
      → (m : Input) × Async a (coded p c) ts m × (kind m ≡ function_kind) × ((j : List ℕ) → Reads (from m j) (function_decl_by lm z.inner c (lo ts) a (from m j)) (Is (fn_decl s x (function t ps ds b g a)) r) (z.depth < within z.reach (function t ps ds b g a)))
  function_declared s x t ps ds b g a ts r k w h = (h.2.0, h.2.2, h.2.3.0, λ j. declared ts k s x (function t ps ds b g a) g a h.2.0 h.2.1 h.0 h.1 r j h.2.3 h.2.4 h.3.0 h.3.1 (λ j. function_found t ps ds b g a (lo ts) h.1 r j w h.4 (h.5 ∙ h.6)) h.6)

  -- an expression, from the word `function`
  anonymous : (start : Input) (i : List ℕ) (s : Span) (f : Tree) (g a : Bool) (m r : Input) (k : List ℕ) → kind m ≡ left_paren_kind → ((j : List ℕ) → Reads (from m j) (function_by lm z.inner c (lo start) g a (from m j)) (Is f r) (z.depth < within z.reach f)) → s ≡ span (lo start) r.last
      → Reads (from m k) (function_expr_name lm z.inner c (lo start) g a (from m k)) (Is (fn_expr s absent f) r) (z.depth < within z.reach f)
  unfolding function_expr_name
  anonymous start i s f g a m r k q v e = if_yes (kind m == left_paren_kind) _ _ _ _ (eq-eqb (kind m) left_paren_kind q) (then_is (function_by lm z.inner c (lo start) g a (from m k)) _ f r (z.depth < within z.reach f) _ _ (v k) (λ u. u) (λ j. built (λ d. fn_expr d absent f) s start r j _ e))

  named : (start : Input) (i : List ℕ) (s : Span) (x f : Tree) (g a : Bool) (m o r : Input) (k : List ℕ) → is_ident x ≡ true → Produces x (coded p (by g a c)) m o → ((j : List ℕ) → Reads (from o j) (function_by lm z.inner c (lo start) g a (from o j)) (Is f r) (z.depth < within z.reach f)) → s ≡ span (lo start) r.last
      → Reads (from m k) (function_expr_name lm z.inner c (lo start) g a (from m k)) (Is (fn_expr s x f) r) (z.depth < within z.reach f)
  unfolding function_expr_name
  named start i s x f g a m o r k y h v e = let q = ident_is x (coded p (by g a c)) m o y h in if_no (kind m == left_paren_kind) _ _ _ _ (no_kind is_word (kind m) left_paren_kind q.2.0 refl)
      (then_name (by g a c) m o q.0 k _ _ _ q.2 q.3 q.4 (then_is (function_by lm z.inner c (lo start) g a (from o k)) _ f r (z.depth < within z.reach f) _ _ (v k) (λ u. u) (λ j. here (ap (λ (d : Span). fn_expr d (ident (first_span m) q.0) f) (sym e) ∙ ap (λ (d : Tree). fn_expr s d f) (sym q.1)))))

  paren_first : (f : Tree) (ts r : Input) → (t : Span) (ps ds : Trees) (b : Tree) (g a : Bool) → f ≡ function t ps ds b g a → Produces (function t ps ds b g a) (setting false (coded p c)) ts r → kind ts ≡ left_paren_kind
  paren_first f ts r t ps ds (block_stmt q ss) g a e h = h.2.1.0
  paren_first f ts r t ps ds _ g a e h = absurd h

  pub function_expressed : (s : Span) (x : Tree) (t : Span) (ps ds : Trees) (b : Tree) (g a : Bool) (ts r : Input) (k : List ℕ) → Within z.Covered (function t ps ds b g a) → Produces (fn_expr s x (function t ps ds b g a)) (coded p c) ts r
      → (m : Input) × Async a (coded p c) ts m × (kind m ≡ function_kind) × (barred c.context m ≡ false) × ((j : List ℕ) → Reads (from m j) (function_expr_by lm z.inner c (lo ts) a (from m j)) (Is (fn_expr s x (function t ps ds b g a)) r) (z.depth < within z.reach (function t ps ds b g a)))
  unfolding function_expr_by
  function_expressed s x t ps ds b g a ts r k w h = (
    h.2.0,
    h.2.2,
    h.2.3.0,
    h.2.3.1,
    λ j. then_word c function_kind h.2.0 h.2.1 j _ _ _ h.2.3.0 h.2.3.1 h.2.3.3 (by_cases (is_absent x) _ _ _ h.3
        (λ e y. let q : kind h.0 ≡ left_paren_kind = ap (λ (d : Input). kind d) y ∙ paren_first (function t ps ds b g a) h.1 r t ps ds b g a refl h.4 in
        then_is (star lm z.inner (from h.2.1 j)) _ g h.0 ⊥ _ _ (star_found g h.2.1 h.0 j ⊥ h.2.4 (subst (λ (d : ℕ). eqb d mul_kind ≡ false) (sym q) refl)) (λ u. absurd u)
        (λ l. subst (λ (d : Tree). Reads (from h.0 l) (function_expr_name lm z.inner c (lo ts) g a (from h.0 l)) (Is (fn_expr s d (function t ps ds b g a)) r) (z.depth < within z.reach (function t ps ds b g a))) (sym (absent_is x e))
        (anonymous ts k s (function t ps ds b g a) g a h.0 r l q (λ i. function_found t ps ds b g a (lo ts) h.0 r i w (subst (λ (d : Input). Produces (function t ps ds b g a) (setting false (coded p c)) d r) (sym y) h.4) (h.5 ∙ h.6)) h.6)))
        (λ e y. then_is (star lm z.inner (from h.2.1 j)) _ g h.0 ⊥ _ _ (star_found g h.2.1 h.0 j ⊥ h.2.4 (no_kind is_word (kind h.0) mul_kind (ident_is x (coded p (by g a c)) h.0 h.1 y.0 y.1).2.0 refl)) (λ u. absurd u)
        (λ l. named ts k s x (function t ps ds b g a) g a h.0 h.1 r l y.0 y.1 (λ i. function_found t ps ds b g a (lo ts) h.1 r i w h.4 (h.5 ∙ h.6)) h.6))),
  )

  -- ---- classes, from the word `class` on

  pub class_declared : (s : Span) (x t : Tree) (ts r : Input) (k : List ℕ) → Within z.Covered (class_decl s x t) → Produces (class_decl s x t) (coded p c) ts r → Reads (from ts k) (class_decl_by lm z.inner c (from ts k)) (Is (class_decl s x t) r) (z.depth < within z.reach (class_decl s x t))
  unfolding class_decl_by
  class_declared s x t ts r k w h = let q = ident_is x (coded p (turned_strict c)) h.0 h.1 h.3.0 h.3.1 in then_word c class_kind ts h.0 k _ _ _ h.2.0 h.2.1 h.2.3 (then_name (turned_strict c) h.0 h.1 q.0 k _ _ _ q.2 q.3 q.4
      (then_is (z.inner.class_tail (turned_strict (with_in c)) (lo ts) (from h.1 k)) _ t r (z.depth < z.reach t) _ _ (z.class_tail t (lo ts) p (turned_strict (with_in c)) h.1 r k w refl (h.5 ∙ ap Some h.6) h.4) (λ u. u)
      (λ j. here (ap (λ (d : Span). class_decl d (ident (first_span h.0) q.0) t) (sym h.6) ∙ ap (λ (d : Tree). class_decl s d t) (sym q.1)))))
