-- Variables: declarators, `var`, `let`, `const`, and `using`.
use Rattle.std.proofs.Common.{◌≡◌, ℕ, ◌<◌, ◌≤◌, ◌⊎◌, inl, inr, Bool, true, false, not, ◌&&◌, ◌||◌, ◌==◌, cond, eqb, List, [], ◌∷◌, ◌++◌, Ok, refl, sym, ap, ◌∙◌, subst, ⊎_elim, true≢false, append_assoc, arith}
use Rattle.std.proofs.lemmas.Bool.{eqb-true, ne_eqb, eq-eqb, or_left, or_right, or_from, or_cases, or_parts, and_parts, and_from, not-true}
use Rattle.base_token.specs.declared.context.Context.{Context}
use Rattle.base_token.specs.declared.place.Span.{Span}
use Rattle.base_token.specs.Kinds.{end_kind, await_kind, var_kind, let_kind, const_kind, left_bracket_kind, comma_kind, semicolon_kind, right_brace_kind, assign_kind, using_kind}
use Rattle.tree_spec.specs.Tree.{Tree, Trees, none, more, unpack, var_decl, using_decl, var_declarator, absent}
use Rattle.tree_spec.proofs.PackLemmas.{pack_unpack}
use Rattle.grammar_spec.specs.Tokens.Input.{Input, Code, kind, kind2, brk, lo, span, rest, barred, binding}
use Rattle.grammar_spec.specs.Tokens.Operators.{assignment_level, goes_expr, goes_on, binding_end, may_name}
use Rattle.grammar_spec.specs.Tokens.Shape.{level, ends, is_absent, is_declarator, declarator_end, declarators_end}
use Rattle.grammar_spec.specs.Children.{child, Sorted, CommaThen, Commas, Ends}
use Rattle.grammar_spec.specs.Statements.{is_var_word, starts_pattern}
use Rattle.grammar_spec.specs.Grammar.{Produces, children}
use Rattle.grammar_spec.specs.Reader.Source.{◌>>=◌, Inner, go_on, finished, end_of}
use Rattle.grammar_spec.specs.Reader.Statements.{declarator_by, declarator_step, declarators_by, variables_by, using_by, starts_let, starts_using, starts_await_using}
use Rattle.grammar_laws.proofs.complete_base.Yields.{lm, from, len, coded, Reads, Is, then_is, then_word, then_past, here, past_here, ended, if_no, if_yes, Loops, loop_on, loop_end, looped}
use Rattle.grammar_laws.proofs.complete_base.Levels.{Follow, quiet, ends_operand, comma_after, goes_comma}
use Rattle.grammar_laws.proofs.complete_rules.Lists.{two_asked}
use Rattle.grammar_laws.proofs.complete_base.Trees.{by_cases, takes}
use Rattle.grammar_laws.proofs.complete_rules.Nested.{Nested}
use Rattle.grammar_laws.proofs.complete_rules.Within.{Within, Withins, within, withins}
use Rattle.grammar_laws.proofs.complete_rules.Follows.{calm_line, halts, halted, ends_two, low_goes, then_end}
use Rattle.grammar_laws.proofs.complete_base.Cuts.{cut}
use Rattle.grammar_laws.proofs.complete_rules.Starts.{Opening, After, Names, named_after, one_name, tame, starts_binding, binding_starts}
use Rattle.grammar_laws.proofs.Shapes.{absent_is}

-- ---- what follows a declarator

-- nothing that goes on with a declarator that ends in a class
pub record Settles (c : Code) (e : ℕ) (m : Input) : Type 0 where
  pub no_value : e ≡ binding_end → eqb (kind m) assign_kind ≡ false
  pub follow : e ≤ 2 → Follow c e 2 m

-- and no comma
pub record Settled (c : Code) (e : ℕ) (m : Input) : Type 0 where
  pub no_comma : eqb (kind m) comma_kind ≡ false
  pub settles : Settles c e m

is_not : (m : Input) (k n : ℕ) → kind m ≡ k → eqb k n ≡ false → eqb (kind m) n ≡ false
is_not m k n q e = subst (λ (k : ℕ). eqb k n ≡ false) (sym q) e

pub settled_at : (c : Code) (e k : ℕ) (m : Input) → kind m ≡ k → halts c k ≡ true → quiet k ≡ true → ends_operand k ≡ true → eqb k comma_kind ≡ false → eqb k assign_kind ≡ false → Settled c e m
settled_at c e k m q h s d n a = record { no_comma = is_not m k comma_kind q n; settles = record { no_value = λ _. is_not m k assign_kind q a; follow = λ _. halted c e 2 k m q h s (λ _. d) (omega arith) } }

comma_settles : (c : Code) (e : ℕ) (m : Input) → kind m ≡ comma_kind → Settles c e m
comma_settles c e m q = record { no_value = λ _. is_not m comma_kind assign_kind q refl; follow = λ _. comma_after c e 2 m q (omega arith) }

-- a declarator without value, where no comma and no `=` follows
pub bare_settled : (c : Code) (e k : ℕ) (m : Input) → e ≡ binding_end → kind m ≡ k → eqb k comma_kind ≡ false → eqb k assign_kind ≡ false → Settled c e m
bare_settled c e k m b q n a = record { no_comma = is_not m k comma_kind q n; settles = record { no_value = λ _. is_not m k assign_kind q a; follow = λ le. absurd (omega (arith, b, le)) } }

abbrev Class : ℕ → Type 0
Class e = (e ≤ 2) ⊎ (e ≡ binding_end)

declarator_class : (t : Tree) → Class (declarator_end t)
declarator_class (var_declarator s n v) = of_value (is_absent v) (ends v) (ends_two v)
  where
    of_value : (b : Bool) (e : ℕ) → e ≤ 2 → Class (cond b binding_end e)
    of_value true e h = inr refl
    of_value false e h = inl h
declarator_class _ = inr refl

declarators_class : (ts : Trees) → Class (declarators_end ts)
declarators_class none = inr refl
declarators_class (more t none) = declarator_class t
declarators_class (more t (more u ts)) = declarators_class (more u ts)

pub settled_end : (p : Bool) (c : Code) (ds : Trees) (m r : Input) → Ends (coded p c) (declarators_end ds) m r → Settled c (declarators_end ds) m
settled_end p c ds m r h = by_class (declarators_end ds) (declarators_class ds) h
  where
    on_line : (e : ℕ) → Class e → brk m ≡ true → goes_on c e m ≡ false → Settled c e m
    on_line e (inl le) b g = let z : goes_expr c e m ≡ 0 = low_goes c e m le g in
        record { no_comma = ne_eqb (kind m) comma_kind (λ q. omega (arith, z, goes_comma c e m q)); settles = record { no_value = λ q. absurd (omega (arith, q, le)); follow = λ _. record { stop = omega (arith, z); calm = λ _ _. calm_line m b; sober = or_left (brk m) _ b; quits = λ _. or_left (brk m) _ b } } }
    on_line e (inr q) b g = let y = or_parts (kind m == assign_kind) _ (subst (λ (e : ℕ). goes_on c e m ≡ false) q g) in
        record { no_comma = y.1; settles = record { no_value = λ _. y.0; follow = λ le. absurd (omega (arith, q, le)) } }

    by_class : (e : ℕ) → Class e → Ends (coded p c) e m r → Settled c e m
    by_class e k (inl h) = settled_at c e semicolon_kind m h.0 refl refl refl refl refl
    by_class e k (inr h) = ⊎_elim (λ q. settled_at c e right_brace_kind m (eqb-true (kind m) right_brace_kind q) refl refl refl refl refl)
        (λ q. ⊎_elim (λ q. settled_at c e end_kind m (eqb-true (kind m) end_kind q) refl refl refl refl refl) (λ q. let y = and_parts (brk m) _ q in on_line e k y.0 (not-true (goes_on c e m) y.1)) (or_cases (kind m == end_kind) _ q)) (or_cases (kind m == right_brace_kind) _ h.1)

module _ (z : Nested) (p : Bool) (c : Code) where
  pub two_found : (e : Tree) (m n : Input) (k : List ℕ) → z.Covered e → 2 ≤ level e → Produces e (coded p c) m n → Follow c (ends e) 2 n → Reads (from m k) (z.inner.expr c assignment_level (from m k)) (Is e n) (z.depth < z.reach e)
  two_found e m n k g le h f = z.expr e p c 2 m n k g h (omega arith) (omega arith) two_asked le f

  declarator_found : (t : Tree) (ts m : Input) (k : List ℕ) → is_declarator t ≡ true → Within z.Covered t → Produces t (coded p c) ts m → Settles c (declarator_end t) m → Reads (from ts k) (declarator_by lm z.inner c (from ts k)) (Is t m) (z.depth < within z.reach t)
  unfolding declarator_by
  declarator_found (var_declarator s n v) ts m k i g h w = then_is (z.inner.pat c (from ts k)) _ n h.0 (z.depth < z.reach n) _ _ (z.pat n p c ts h.0 k g.0 h.1 h.2) (λ u. omega arith) (λ j. by_cases (is_absent v) _ _ _ h.3
      (λ q x. if_no (kind h.0 == assign_kind) _ _ _ _ (subst (λ (y : Input). eqb (kind y) assign_kind ≡ false) (sym x) (w.no_value (rw q refl)))
      (ended (var_declarator (span (lo ts) h.0.last) n absent, from h.0 j) (Is (var_declarator s n v) m) _
      (ap (λ (y : Input). var_declarator (span (lo ts) y.last) n absent) x ∙ ap (λ (y : Span). var_declarator y n absent) (sym h.4) ∙ ap (λ (y : Tree). var_declarator s n y) (sym (absent_is v q)), x)))
      (λ q x. if_yes (kind h.0 == assign_kind) _ _ _ _ (eq-eqb (kind h.0) assign_kind x.1.0) (then_past h.0 x.0 j (z.inner.expr c assignment_level) _ v m (z.depth < z.reach v) _ _ x.1.2
      (two_found v x.0 m j g.1 x.2.0 x.2.1 (value_follow q)) (λ u. omega arith) (λ i. here (ap (λ (y : Span). var_declarator y n v) (sym h.4))))))
    where
      value_follow : is_absent v ≡ false → Follow c (ends v) 2 m
      value_follow q = let e : cond (is_absent v) binding_end (ends v) ≡ ends v = rw q refl in
          subst (λ (e : ℕ). Follow c e 2 m) e (w.follow (subst (λ (e : ℕ). e ≤ 2) (sym e) (ends_two v)))
  declarator_found _ ts m k i g h w = absurd (true≢false (sym i))

  more_declared : (t : Tree) (acc : List Tree) (ts m r : Input) (k : List ℕ) → is_declarator t ≡ true → Within z.Covered t → Produces t (coded p c) ts m → kind m ≡ comma_kind → rest m ≡ r
      → Reads (from ts k) (declarator_step lm z.inner c acc (from ts k)) (Is (go_on (acc ++ t ∷ [])) r) (z.depth < within z.reach t)
  unfolding declarator_step
  more_declared t acc ts m r k i g h e q = then_is (declarator_by lm z.inner c (from ts k)) _ t m (z.depth < within z.reach t) _ _ (declarator_found t ts m k i g h (comma_settles c (declarator_end t) m e)) (λ u. u)
      (λ j. if_yes (kind m == comma_kind) _ _ _ _ (eq-eqb (kind m) comma_kind e) (past_here refl q))

  last_declared : (t : Tree) (acc : List Tree) (ts m : Input) (k : List ℕ) → is_declarator t ≡ true → Within z.Covered t → Produces t (coded p c) ts m → Settled c (declarator_end t) m
      → Reads (from ts k) (declarator_step lm z.inner c acc (from ts k)) (Is (finished (acc ++ t ∷ [])) m) (z.depth < within z.reach t)
  unfolding declarator_step
  last_declared t acc ts m k i g h w = then_is (declarator_by lm z.inner c (from ts k)) _ t m (z.depth < within z.reach t) _ _ (declarator_found t ts m k i g h w.settles) (λ u. u) (λ j. if_no (kind m == comma_kind) _ _ _ _ w.no_comma (here refl))

  declarator_less : (t : Tree) (ts m : Input) → is_declarator t ≡ true → Produces t (coded p c) ts m → len m < len ts
  declarator_less (var_declarator s n v) ts m i h = omega (arith, cut (var_declarator s n v) (coded p c) ts m h)
  declarator_less _ ts m i h = absurd (true≢false (sym i))

  declarators_loop : (t : Tree) (xs : Trees) (acc : List Tree) (ts m r : Input) (k : List ℕ) (b : ℕ) → Withins z.Covered (more t xs) → Sorted is_declarator (coded p c) (child t (λ y. Produces t y)) ts m → CommaThen (Sorted is_declarator (coded p c)) (coded p c) (children xs) m r
      → Settled c (declarators_end (more t xs)) r → withins z.reach (more t xs) ≤ b → Loops (declarator_step lm z.inner c) acc ts k (Is (acc ++ (t ∷ unpack xs)) r) (z.depth < b)
  declarators_loop t none acc ts m r k b g h w q le = loop_end _ _ (acc ++ t ∷ []) ts r k (z.depth < within z.reach t) _ _
      (subst (λ (y : Input). Reads (from ts k) (declarator_step lm z.inner c acc (from ts k)) (Is (finished (acc ++ t ∷ [])) y) (z.depth < within z.reach t)) w (last_declared t acc ts m k h.0 g.0 h.1 (subst (λ (y : Input). Settled c (declarator_end t) y) (sym w) q))) (λ u. omega arith) (λ l. (refl, refl))
  declarators_loop t (more x xs) acc ts m r k b g h w q le = loop_on _ _ (acc ++ t ∷ []) ts w.0 k (z.depth < within z.reach t) _ _ (more_declared t acc ts m w.0 k h.0 g.0 h.1 w.2.0 w.2.2) (λ u. omega arith)
      (omega (arith, declarator_less t ts m h.0 h.1, takes comma_kind m w.0 w.2.0 (omega arith) w.2.2))
      (λ l. subst (λ ys. Loops (declarator_step lm z.inner c) (acc ++ t ∷ []) w.0 l (Is ys r) (z.depth < b)) (append_assoc acc (t ∷ []) (x ∷ unpack xs)) (declarators_loop x xs (acc ++ t ∷ []) w.0 w.1 r l b g.1 w.3 w.4 q (omega arith)))

  pub declarators_found : (ds : Trees) (ts r : Input) (k : List ℕ) → Withins z.Covered ds → Commas (Sorted is_declarator (coded p c)) (coded p c) (children ds) ts r → Settled c (declarators_end ds) r
      → Reads (from ts k) (declarators_by lm z.inner c (from ts k)) (Is (unpack ds) r) (z.depth < withins z.reach ds)
  unfolding declarators_by
  declarators_found none ts r k g h q = absurd h
  declarators_found (more t xs) ts r k g h q = looped (declarator_step lm z.inner c) [] ts k (Is (t ∷ unpack xs) r) _ (declarators_loop t xs [] ts h.0 r k (withins z.reach (more t xs)) g h.1 h.2 q (omega arith))

  pub variables_found : (s : Span) (o : ℕ) (ds : Trees) (ts r : Input) (k : List ℕ) → Within z.Covered (var_decl s o ds) → Produces (var_decl s o ds) (coded p c) ts r → Reads (from ts k) (variables_by lm z.inner c (from ts k)) (Is (var_decl s o ds) r) (z.depth < within z.reach (var_decl s o ds))
  unfolding variables_by
  variables_found s o ds ts r k g h = then_word c (kind ts) ts h.1.0 k _ _ _ refl h.1.2.1 h.1.2.3
      (then_is (declarators_by lm z.inner c (from h.1.0 k)) _ (unpack ds) h.0 (z.depth < withins z.reach ds) _ _ (declarators_found ds h.1.0 h.0 k g h.1.3 (settled_end p c ds h.0 r h.2)) (λ u. u)
      (λ j. subst (λ (y : Trees). Reads (from h.0 j) (end_of lm c (declarators_end y) (from h.0 j) >>= λ e. Ok (var_decl (span (lo ts) e.source.last) (kind ts) y, e)) (Is (var_decl s o ds) r) (z.depth < withins z.reach ds)) (sym (pack_unpack ds))
      (then_end p c (declarators_end ds) h.0 r j _ _ _ h.2 (here (ap (λ (y : Span). var_decl y (kind ts) ds) (sym h.3) ∙ ap (λ (y : ℕ). var_decl s y ds) h.1.2.0)))))

  -- `using`, from that word
  pub using_found : (start : Input) (i : List ℕ) (s : Span) (w : Bool) (ds : Trees) (m n o r : Input) (k : List ℕ) → Withins z.Covered ds → kind m ≡ using_kind → barred c.context m ≡ false → rest m ≡ n → Commas (Sorted is_declarator (coded p c)) (coded p c) (children ds) n o
      → Ends (coded p c) (declarators_end ds) o r → s ≡ span (lo start) r.last → Reads (from m k) (using_by lm z.inner c (lo start) w (from m k)) (Is (using_decl s w ds) r) (z.depth < withins z.reach ds)
  unfolding using_by
  using_found start i s w ds m n o r k g e b q h x v = then_word c using_kind m n k _ _ _ e b q
      (then_is (declarators_by lm z.inner c (from n k)) _ (unpack ds) o (z.depth < withins z.reach ds) _ _ (declarators_found ds n o k g h (settled_end p c ds o r x)) (λ u. u)
      (λ j. subst (λ (y : Trees). Reads (from o j) (end_of lm c (declarators_end y) (from o j) >>= λ e. Ok (using_decl (span (lo start) e.source.last) w y, e)) (Is (using_decl s w ds) r) (z.depth < withins z.reach ds)) (sym (pack_unpack ds))
      (then_end p c (declarators_end ds) o r j _ _ _ x (here (ap (λ (y : Span). using_decl y w ds) (sym v))))))

-- ---- what starts a declaration

declarator_starts : (t : Tree) (c : Code) (ts r : Input) → is_declarator t ≡ true → Produces t c ts r → starts_binding (kind ts) ≡ true
declarator_starts (var_declarator s n v) c ts r i h = binding_starts n (binding c) ts h.0 h.1 h.2
declarator_starts _ c ts r i h = absurd (true≢false (sym i))

pub declarators_start : (ds : Trees) (c : Code) (ts r : Input) → Commas (Sorted is_declarator c) c (children ds) ts r → starts_binding (kind ts) ≡ true
declarators_start none c ts r h = absurd h
declarators_start (more t xs) c ts r h = declarator_starts t c ts h.0 h.1.0 h.1.1

-- the word of a declaration, and what starts its first binding
pub var_on : (inner : Inner Input) (o : ℕ) (m n : Input) (j : List ℕ) → is_var_word o ≡ true → kind m ≡ o → rest m ≡ n → starts_binding (kind n) ≡ true → ((kind m == var_kind) || ((kind m == const_kind) || starts_let lm inner (from m j))) ≡ true
var_on inner o m n j w e q b = ⊎_elim (λ v. or_left (kind m == var_kind) _ v) (λ v. or_right (kind m == var_kind) _ (⊎_elim
    (λ u. or_right (kind m == const_kind) _ (and_from (kind m == let_kind) _ u (subst (λ (x : Input). starts_binding (kind x) ≡ true) (sym q) b))) (λ u. or_left (kind m == const_kind) _ u) (or_cases (kind m == let_kind) _ v)))
    (or_cases (kind m == var_kind) _ (subst (λ (o : ℕ). is_var_word o ≡ true) (sym e) w))

-- `using` before a name on its line
pub using_on : (inner : Inner Input) (c : Code) (m n : Input) (j : List ℕ) → c.syntax.explicit_resource_management ≡ true → kind m ≡ using_kind → rest m ≡ n → brk n ≡ false → starts_pattern (kind n) ≡ false → starts_binding (kind n) ≡ true → starts_using lm inner c (from m j) ≡ true
using_on inner c m n j f e q b s k = and_from c.syntax.explicit_resource_management _ f (and_from (kind m == using_kind) _ (eq-eqb (kind m) using_kind e)
    (and_from (may_name (kind (rest m))) _ (subst (λ (x : Input). may_name (kind x) ≡ true) (sym q) (⊎_elim (λ y. y) (λ y. absurd (true≢false (sym y ∙ s))) (or_cases (may_name (kind n)) _ k))) (subst (λ (x : Input). not (brk x) ≡ true) (sym q) (ap not b))))

-- `await using` before a name on their line
pub await_on : (inner : Inner Input) (c : Code) (m n : Input) (j : List ℕ) → c.context.in_async ≡ true → kind m ≡ await_kind → barred c.context m ≡ false → rest m ≡ n → brk n ≡ false → starts_using lm inner c (from n j) ≡ true → starts_await_using lm inner c (from m j) ≡ true
await_on inner c m n j a e x q b u = and_from c.context.in_async _ a (and_from (kind m == await_kind) _ (eq-eqb (kind m) await_kind e) (and_from (not (barred c.context m)) _ (ap not x)
    (and_from (not (brk (rest m))) _ (subst (λ (y : Input). not (brk y) ≡ true) (sym q) (ap not b)) (subst (λ (y : Input). starts_using lm inner c (from y j) ≡ true) (sym q) u))))

-- ---- what starts no declaration

using_word : (f a y b o : Bool) → (a ≡ true → (y && b && o) ≡ false) → ((f && (a && (y && b))) && o) ≡ false
using_word true true y b o h = same_and y b o (h refl)
  where
    same_and : (y b o : Bool) → (y && b && o) ≡ false → ((y && b) && o) ≡ false
    same_and true true o h = h
    same_and true false o h = refl
    same_and false b o h = refl
using_word true false y b o h = refl
using_word false a y b o h = refl

await_word : (i a w v f u y b o : Bool) → (i ≡ true → a ≡ true → u ≡ true → (y && b && o) ≡ false) → ((i && (a && (w && (v && (f && (u && (y && b))))))) && o) ≡ false
await_word true true true true f u y b o h = using_word f u y b o (h refl refl)
await_word true true true false f u y b o h = refl
await_word true true false v f u y b o h = refl
await_word true false w v f u y b o h = refl
await_word false a w v f u y b o h = refl

-- A name, and what follows it or the tree that is this name: it starts no declaration.
pub no_using : (inner : Inner Input) (c : Code) (o : Input → Bool) {t : Tree} (m n : Input) (j : List ℕ) → Opening c.context t m n → ((x : Input) → After x n → (may_name (kind x) && not (brk x) && o x) ≡ false) → (starts_using lm inner c (from m j) && o (rest m)) ≡ false
no_using inner c o {t = t} m n j g f = using_word c.syntax.explicit_resource_management (kind m == using_kind) (may_name (kind (rest m))) (not (brk (rest m))) (o (rest m)) (λ e. f (rest m) (named_after t (rest m) n (g.second (or_right (kind m == let_kind) _ e))))

pub no_await_using : (inner : Inner Input) (c : Code) (o : Input → Bool) {t : Tree} (m n : Input) (j : List ℕ) → Opening c.context t m n → ((x : Input) → After x n → (may_name (kind x) && not (brk x) && o x) ≡ false) → (starts_await_using lm inner c (from m j) && o (rest (rest m))) ≡ false
no_await_using inner c o m n j g f = await_word c.context.in_async (kind m == await_kind) (not (barred c.context m)) (not (brk (rest m))) c.syntax.explicit_resource_management (kind (rest m) == using_kind) (may_name (kind (rest (rest m)))) (not (brk (rest (rest m)))) (o (rest (rest m)))
    (λ i a u. f (rest (rest m)) (g.third (eqb-true (kind m) await_kind a) i (eqb-true (kind (rest m)) using_kind u)))

-- the word `let` with no binding after it
pub no_let : (inner : Inner Input) (x : Context) {t : Tree} (m n : Input) (j : List ℕ) → Opening x t m n → ((kind m == let_kind) && (kind2 m == left_bracket_kind)) ≡ false → (kind m ≡ let_kind → one_name t ≡ true → tame (kind n) ≡ true) → starts_let lm inner (from m j) ≡ false
no_let inner x {t = t} m n j g h f = by_word (kind m == let_kind) refl
  where
    off : tame (kind (rest m)) ≡ true → eqb (kind (rest m)) left_bracket_kind ≡ false → starts_binding (kind (rest m)) ≡ false
    off t b = let y = or_parts (may_name (kind (rest m))) _ (not-true _ t) in or_from (may_name (kind (rest m))) _ y.0 (or_from (kind (rest m) == left_bracket_kind) _ b y.1)

    after : kind m ≡ let_kind → Names t (rest m) n → tame (kind (rest m)) ≡ true
    after e (inl q) = subst (λ (y : Input). tame (kind y) ≡ true) (sym q.0) (f e q.1)
    after e (inr q) = q

    by_word : (b : Bool) → (kind m == let_kind) ≡ b → ((kind m == let_kind) && starts_binding (kind (rest m))) ≡ false
    by_word true e = rw e (off (after (eqb-true (kind m) let_kind e) (g.second (or_left (kind m == let_kind) _ e))) (rw e at h))
    by_word false e = rw e refl
