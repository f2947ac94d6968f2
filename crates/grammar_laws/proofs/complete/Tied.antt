-- The readers of every depth answer what a tree produces: by induction on the size of the tree, for all depths at once.
use Rattle.std.proofs.Common.{◌≡◌, ℕ, zero, suc, ◌<◌, ◌≤◌, Bool, true, false, ◌||◌, if◌then◌else◌, List, Option, Some, None, refl, sym, subst, true≢false, arith}
use Rattle.base_token.specs.declared.place.Span.{Span}
use Rattle.tree_spec.specs.Tree.{Tree, Trees, block_stmt, empty_stmt, debugger_stmt, with_stmt, return_stmt, labeled_stmt, break_stmt, continue_stmt, if_stmt, switch_stmt, throw_stmt, try_stmt, while_stmt, do_while_stmt, for_stmt, for_in_stmt, for_of_stmt, expr_stmt, class_decl, fn_decl, var_decl, using_decl, fn_expr, class}
use Rattle.grammar_spec.specs.Tokens.Input.{Input, Code, span, has_in}
use Rattle.grammar_spec.specs.Tokens.Operators.{expression_level}
use Rattle.grammar_spec.specs.Tokens.Shape.{level, ends, is_place, is_binding, is_item, is_statement, is_plain_function, class_span}
use Rattle.grammar_spec.specs.Functions.{Body}
use Rattle.grammar_spec.specs.Grammar.{Produces, children}
use Rattle.grammar_spec.specs.Reader.Reading.{readers}
use Rattle.grammar_laws.proofs.complete_base.Yields.{lm, from, coded, Reads, Is, reads_deep, too_deep}
use Rattle.grammar_laws.proofs.complete_base.Levels.{Follow, Asked}
use Rattle.grammar_laws.proofs.complete_base.Trees.{covered, reach}
use Rattle.grammar_laws.proofs.complete_rules.Lists.{Deep}
use Rattle.grammar_laws.proofs.complete_rules.Finds.{Comes, finds}
use Rattle.grammar_laws.proofs.complete_rules.Comes.{comes_none, comes_next}
use Rattle.grammar_laws.proofs.complete_rules.Heads.{head_found}
use Rattle.grammar_laws.proofs.complete_rules.Patterns.{binds}
use Rattle.grammar_laws.proofs.complete_rules.Nested.{Nested, patterned, allowed, leaves, IsHead}
use Rattle.grammar_laws.proofs.complete_rules.Statements.{stmt_found}
use Rattle.grammar_laws.proofs.complete_rules.StatementLists.{body_found}
use Rattle.grammar_laws.proofs.complete_rules.Classes.{class_tail_found}
use Rattle.grammar_laws.proofs.complete.Sizes.{Small, each_small, inward, within_reach, most_reaches, is_called, called_reach}
use Rattle.grammar_laws.proofs.complete.Expressed.{function_read, class_read, method_read}

-- ---- nodes that readers of their own read

allowed_called : (b : Bool) (t : Tree) → (if b then is_item t else (is_statement t || is_plain_function t)) ≡ true → is_called t ≡ true
allowed_called b (block_stmt s ss) h = refl
allowed_called b (empty_stmt s) h = refl
allowed_called b (debugger_stmt s) h = refl
allowed_called b (with_stmt s e x) h = refl
allowed_called b (return_stmt s e) h = refl
allowed_called b (labeled_stmt s l x) h = refl
allowed_called b (break_stmt s l) h = refl
allowed_called b (continue_stmt s l) h = refl
allowed_called b (if_stmt s t a x) h = refl
allowed_called b (switch_stmt s e xs) h = refl
allowed_called b (throw_stmt s e) h = refl
allowed_called b (try_stmt s x y f) h = refl
allowed_called b (while_stmt s t x) h = refl
allowed_called b (do_while_stmt s t x) h = refl
allowed_called b (for_stmt s i t u x) h = refl
allowed_called b (for_in_stmt s l e x) h = refl
allowed_called b (for_of_stmt s w l e x) h = refl
allowed_called b (expr_stmt s e) h = refl
allowed_called b (class_decl s n k) h = refl
allowed_called b (fn_decl s n f) h = refl
allowed_called b (var_decl s k ds) h = refl
allowed_called b (using_decl s w ds) h = refl
allowed_called true _ h = absurd (true≢false (sym h))
allowed_called false _ h = absurd (true≢false (sym h))

abbrev IsNone : {A : Type 0} → Option A → Type 0
IsNone None = Unit {0}
IsNone (Some y) = ⊥

some_none : {A : Type 0} (x : A) → ◌≡◌ {A = Option A} None (Some x) → ⊥
some_none x e = subst IsNone e tt

class_called : (t : Tree) (s : Span) → class_span t ≡ Some s → is_called t ≡ true
class_called (class q ds ms k) s e = refl
class_called _ s e = absurd (some_none s e)

-- ---- what the readers by calls so deep answer, of trees of a size below a bound

pub record Facts (z d : ℕ) : Type 0 where
  pub expr : (t : Tree) (p : Bool) (c : Code) (l : ℕ) (ts r : Input) (k : List ℕ) → Small z t → Produces t (coded p c) ts r → 1 ≤ l → l < 20 → Asked l → l ≤ level t → Follow c (ends t) l r
      → Reads (from ts k) ((readers lm d).expr c l (from ts k)) (Is t r) (d < reach t)
  pub head : (t : Tree) (p : Bool) (c : Code) (ts r : Input) (k : List ℕ) → Small z t → is_place false t ≡ true → Produces t (coded p c) ts r → ((e : ℕ) → e ≤ 1 → Follow c e 1 r) → Reads (from ts k) ((readers lm d).expr c expression_level (from ts k)) (IsHead t r) (d < reach t)
  pub pat : (t : Tree) (p : Bool) (c : Code) (ts r : Input) (k : List ℕ) → Small z t → is_binding t ≡ true → Produces t (patterned p c) ts r → Reads (from ts k) ((readers lm d).pat c (from ts k)) (Is t r) (d < reach t)
  pub stmt : (t : Tree) (p : Bool) (c : Code) (ts r : Input) (k : List ℕ) → Small z t → allowed c t ≡ true → Produces t (coded p c) ts r → leaves c.context t r ≡ true → Reads (from ts k) ((readers lm d).stmt c (from ts k)) (Is t r) (d < reach t)
  pub body : (s : Span) (ss : Trees) (p : Bool) (c : Code) (ts r : Input) (k : List ℕ) → Small z (block_stmt s ss) → Body (coded p c) s (children ss) ts r → Reads (from ts k) ((readers lm d).body c (from ts k)) (Is (block_stmt s ss) r) (d < reach (block_stmt s ss))
  pub class_tail : (t : Tree) (w : ℕ) (p : Bool) (c : Code) (ts r : Input) (k : List ℕ) → Small z t → has_in c ≡ true → class_span t ≡ Some (span w r.last) → Produces t (coded p c) ts r → Reads (from ts k) ((readers lm d).class_tail c w (from ts k)) (Is t r) (d < reach t)

abbrev pub nested : (z d : ℕ) → Facts z d → Nested
nested z d f = record { inner = readers lm d; depth = d; Covered = Small z; reach = reach; expr = f.expr; head = f.head; pat = f.pat; stmt = f.stmt; body = f.body; class_tail = f.class_tail }

-- what is nested in functions, classes and methods
deep_of : (z d : ℕ) → Facts z d → Deep z d
deep_of z d f = record {
  functions = λ s n g p c l ts r k sz h. reads_deep (λ u. omega (arith, u, called_reach (fn_expr s n g) refl)) (function_read (nested z d f) p c ts k r l s n g (inward z (fn_expr s n g) sz) h);
  classes = λ s n t p c l ts r k sz h. reads_deep (λ u. omega (arith, u)) (class_read (nested z d f) p c ts k r l s n t (omega (arith, sz)) h);
  bodies = λ s ss p c ts r k sz h. f.body s ss p c ts r k sz h;
  methods = λ t p c ts r k i sz h. reads_deep (λ u. omega (arith, u, within_reach t)) (method_read (nested z d f) p c ts k r t i (inward z t (omega (arith, sz))) h);
}

-- ---- one step

stmt_next : (z : ℕ) → ((e : ℕ) → Facts z e) → (d : ℕ) (t : Tree) (p : Bool) (c : Code) (ts r : Input) (k : List ℕ) → Small (suc z) t → allowed c t ≡ true → Produces t (coded p c) ts r → leaves c.context t r ≡ true → Reads (from ts k) ((readers lm d).stmt c (from ts k)) (Is t r) (d < reach t)
unfolding readers
stmt_next z f zero t p c ts r k sz a h q = too_deep _ _ (omega (arith, called_reach t (allowed_called c.listed t a)))
stmt_next z f (suc d) t p c ts r k sz a h q = reads_deep (λ u. omega (arith, u, called_reach t (allowed_called c.listed t a))) (stmt_found (nested z d (f d)) p c ts k r t (inward z t sz) a h q)

body_next : (z : ℕ) → ((e : ℕ) → Facts z e) → (d : ℕ) (s : Span) (ss : Trees) (p : Bool) (c : Code) (ts r : Input) (k : List ℕ) → Small (suc z) (block_stmt s ss) → Body (coded p c) s (children ss) ts r → Reads (from ts k) ((readers lm d).body c (from ts k)) (Is (block_stmt s ss) r) (d < reach (block_stmt s ss))
unfolding readers
body_next z f zero s ss p c ts r k sz h = too_deep _ _ (omega arith)
body_next z f (suc d) s ss p c ts r k sz h = reads_deep (λ u. omega (arith, u, most_reaches ss)) (body_found (nested z d (f d)) p s ss c ts r k (each_small z ss (omega (arith, sz))) h)

tail_next : (z : ℕ) → ((e : ℕ) → Facts z e) → (d : ℕ) (t : Tree) (w : ℕ) (p : Bool) (c : Code) (ts r : Input) (k : List ℕ) → Small (suc z) t → has_in c ≡ true → class_span t ≡ Some (span w r.last) → Produces t (coded p c) ts r → Reads (from ts k) ((readers lm d).class_tail c w (from ts k)) (Is t r) (d < reach t)
unfolding readers
tail_next z f zero t w p c ts r k sz i e h = too_deep _ _ (omega (arith, called_reach t (class_called t (span w r.last) e)))
tail_next z f (suc d) t w p c ts r k sz i e h = reads_deep (λ u. omega (arith, u, called_reach t (class_called t (span w r.last) e))) (class_tail_found (nested z d (f d)) p c i t w ts r k (inward z t sz) e h)

facts_next : (z : ℕ) → ((e : ℕ) → Comes (suc z) e) → ((e : ℕ) → Facts z e) → (d : ℕ) → Facts (suc z) d
facts_next z ih f d = record {
  expr = λ t p c l ts r k sz h one most asked le fo. finds (suc z) d ih t p c l ts r k sz (covered t) h one most asked le fo;
  head = λ t p c ts r k sz i h fo. head_found (suc z) (λ e. finds (suc z) e ih) d t p c ts r k sz (covered t) i h (fo 0 (omega arith));
  pat = λ t p c ts r k sz i h. binds (suc z) d (λ e. finds (suc z) e ih) t p c ts r k sz (covered t) i h;
  stmt = λ t p c ts r k sz a h q. stmt_next z f d t p c ts r k sz a h q;
  body = λ s ss p c ts r k sz h. body_next z f d s ss p c ts r k sz h;
  class_tail = λ t w p c ts r k sz i e h. tail_next z f d t w p c ts r k sz i e h;
}

facts_none : (d : ℕ) → Facts zero d
facts_none d = record {
  expr = λ t p c l ts r k sz h one most asked le fo. absurd (omega (arith, sz));
  head = λ t p c ts r k sz i h fo. absurd (omega (arith, sz));
  pat = λ t p c ts r k sz i h. absurd (omega (arith, sz));
  stmt = λ t p c ts r k sz a h q. absurd (omega (arith, sz));
  body = λ s ss p c ts r k sz h. absurd (omega (arith, sz));
  class_tail = λ t w p c ts r k sz i e h. absurd (omega (arith, sz));
}

-- ---- every size

pub record Known (z : ℕ) : Type 1 where
  pub comes : (e : ℕ) → Comes z e
  pub facts : (e : ℕ) → Facts z e

known_next : (z : ℕ) → Known z → ((e : ℕ) → Comes (suc z) e) → Known (suc z)
known_next z a c = record { comes = c; facts = facts_next z c a.facts }

pub known : (z : ℕ) → Known z
known zero = record { comes = comes_none; facts = facts_none }
known (suc z) = let a = known z in known_next z a (λ e. comes_next z e a.comes (deep_of z e (a.facts e)))

-- The readers of nested parts by calls so deep are complete for every tree of a size below a bound.
abbrev pub complete : (z d : ℕ) → Nested
complete z d = nested z d ((known z).facts d)
