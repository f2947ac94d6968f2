-- The readers of nested parts over which the rules are proved, and what each is to answer.
use Rattle.std.proofs.Common.{◌≡◌, ℕ, ◌<◌, ◌≤◌, Bool, true, false, not, ◌&&◌, ◌||◌, ◌==◌, cond, List, Some, Ok, if◌then◌else◌, refl, ap}
use Rattle.std.proofs.lemmas.Bool.{and_left, and_right, or_parts, not-true}
use Rattle.base_token.specs.declared.context.Context.{Context}
use Rattle.base_token.specs.declared.place.Span.{Span}
use Rattle.base_token.specs.Kinds.{colon_kind, finally_kind}
use Rattle.tree_spec.specs.Tree.{Tree, Trees, ident, block_stmt, try_stmt, expr_stmt, if_stmt, while_stmt, with_stmt, labeled_stmt, for_stmt, for_in_stmt, for_of_stmt, export_decl}
use Rattle.grammar_spec.specs.Tokens.Input.{Input, Code, kind, barred, span, has_in}
use Rattle.grammar_spec.specs.Tokens.Operators.{expression_level}
use Rattle.grammar_spec.specs.Tokens.Shape.{level, ends, is_absent, is_binding, is_place, is_item, is_statement, is_plain_function, class_span}
use Rattle.grammar_spec.specs.Functions.{Body}
use Rattle.grammar_spec.specs.Grammar.{Produces, children}
use Rattle.grammar_spec.specs.Reader.Source.{State, Inner}
use Rattle.grammar_spec.specs.Reader.Cover.{to_head}
pub use Rattle.grammar_laws.specs.CompleteBase.Laws.{patterned}
use Rattle.grammar_laws.proofs.complete_base.Yields.{from, coded, Reads, Is}
use Rattle.grammar_laws.proofs.complete_base.Levels.{Follow, Asked}

-- what a statement may be here: an item of a list, or else a statement or a plain function
abbrev pub allowed : Code → Tree → Bool
allowed c t = if c.listed then is_item t else (is_statement t || is_plain_function t)

-- What follows a statement is no part of it: neither `finally` nor a colon.
abbrev pub may_follow : ℕ → Bool
may_follow k = not ((k == finally_kind) || (k == colon_kind))

-- The same of one statement: what ends with a `try` that has no `finally` doesn't leave one, but where it is spelled with an escape; nor does
-- a name without a semicolon a colon.
abbrev pub leaves : Context → Tree → Input → Bool
leaves c (try_stmt s b x f) r = not (is_absent f && ((kind r == finally_kind) && not (barred c r)))
leaves c (expr_stmt s (ident t n)) r = not ((kind r == colon_kind) && (s.hi.0 == t.hi.0))
leaves c (if_stmt s t a b) r = if is_absent b then leaves c a r else leaves c b r
leaves c (while_stmt s t b) r = leaves c b r
leaves c (with_stmt s e b) r = leaves c b r
leaves c (labeled_stmt s l b) r = leaves c b r
leaves c (for_stmt s i t u b) r = leaves c b r
leaves c (for_in_stmt s l e b) r = leaves c b r
leaves c (for_of_stmt s w l e b) r = leaves c b r
leaves c (export_decl s d) r = leaves c d r
leaves c _ r = true

pub follows : (c : Context) (t : Tree) (r : Input) → may_follow (kind r) ≡ true → leaves c t r ≡ true
follows c (try_stmt s b x f) r h = ap not (and_right (is_absent f) _ (and_left (kind r == finally_kind) _ (or_parts (kind r == finally_kind) _ (not-true _ h)).0))
follows c (expr_stmt s (ident t n)) r h = ap not (and_left (kind r == colon_kind) _ (or_parts (kind r == finally_kind) _ (not-true _ h)).1)
follows c (if_stmt s t a b) r h = both_ways (is_absent b) (leaves c a r) (leaves c b r) (follows c a r h) (follows c b r h)
  where
    both_ways : (c x y : Bool) → x ≡ true → y ≡ true → cond c x y ≡ true
    both_ways true x y e f = e
    both_ways false x y e f = f
follows c (while_stmt s t b) r h = follows c b r h
follows c (with_stmt s e b) r h = follows c b r h
follows c (labeled_stmt s l b) r h = follows c b r h
follows c (for_stmt s i t u b) r h = follows c b r h
follows c (for_in_stmt s l e b) r h = follows c b r h
follows c (for_of_stmt s w l e b) r h = follows c b r h
follows c (export_decl s d) r h = follows c d r h
follows c _ r h = refl

-- an expression that is refined to this target, and these tokens as the rest
abbrev pub IsHead : Tree → Input → Tree × State Input → Type 0
IsHead t r x = (to_head x.1.commas x.0 ≡ Ok t) × (x.1.source ≡ r)

-- The readers of nested parts, by calls so deep: each answers a covered tree with the tokens that it doesn't produce, or too deep where the
-- tree reaches deeper.
pub record Nested : Type 1 where
  pub inner : Inner Input
  pub depth : ℕ
  pub Covered : Tree → Type 0
  pub reach : Tree → ℕ
  pub expr : (t : Tree) (p : Bool) (c : Code) (l : ℕ) (ts r : Input) (k : List ℕ) → Covered t → Produces t (coded p c) ts r → 1 ≤ l → l < 20 → Asked l → l ≤ level t → Follow c (ends t) l r
      → Reads (from ts k) (inner.expr c l (from ts k)) (Is t r) (depth < reach t)
  -- the target of a `for`-`in` or `for`-`of`
  pub head : (t : Tree) (p : Bool) (c : Code) (ts r : Input) (k : List ℕ) → Covered t → is_place false t ≡ true → Produces t (coded p c) ts r → ((e : ℕ) → e ≤ 1 → Follow c e 1 r) → Reads (from ts k) (inner.expr c expression_level (from ts k)) (IsHead t r) (depth < reach t)
  pub pat : (t : Tree) (p : Bool) (c : Code) (ts r : Input) (k : List ℕ) → Covered t → is_binding t ≡ true → Produces t (patterned p c) ts r → Reads (from ts k) (inner.pat c (from ts k)) (Is t r) (depth < reach t)
  pub stmt : (t : Tree) (p : Bool) (c : Code) (ts r : Input) (k : List ℕ) → Covered t → allowed c t ≡ true → Produces t (coded p c) ts r → leaves c.context t r ≡ true → Reads (from ts k) (inner.stmt c (from ts k)) (Is t r) (depth < reach t)
  pub body : (s : Span) (ss : Trees) (p : Bool) (c : Code) (ts r : Input) (k : List ℕ) → Covered (block_stmt s ss) → Body (coded p c) s (children ss) ts r → Reads (from ts k) (inner.body c (from ts k)) (Is (block_stmt s ss) r) (depth < reach (block_stmt s ss))
  -- what follows the name of a class that starts at a place
  pub class_tail : (t : Tree) (w : ℕ) (p : Bool) (c : Code) (ts r : Input) (k : List ℕ) → Covered t → has_in c ≡ true → class_span t ≡ Some (span w r.last) → Produces t (coded p c) ts r → Reads (from ts k) (inner.class_tail c w (from ts k)) (Is t r) (depth < reach t)
