-- The level of a tree that is given anew: that of `new` alone may change, with its parentheses (13.3.5).
use Rattle.std.proofs.Common.{Bool, ap, arith, false, if◌then◌else◌, inl, inr, min, refl, subst, sym, true, true≢false, ℕ, ◌||◌, ◌∙◌, ◌≡◌, ◌≤◌, ◌⊎◌}
use Rattle.base_proofs.proofs.Bools.{or_true}
use Rattle.base_token.specs.declared.place.Span.{Span}
use Rattle.tree_spec.specs.Places.{no_place}
use Rattle.tree_spec.specs.Tree.{Tree, absent, bin_expr, ident, list, member_expr, more, new_expr, none, tagged_tpl}
use Rattle.grammar_spec.specs.Tokens.Operators.{member_level, new_level}
use Rattle.grammar_spec.specs.Tokens.Shape.{level}
use Rattle.grammar_laws.proofs.complete_base.Levels.{binary_low}
use Rattle.print_layout_spec.specs.Layout.{is_computed}
use Rattle.print_layout_spec.specs.Looks.{formats}
use Rattle.print_layout_spec.specs.declared.look.Look.{Look}
use Rattle.again_laws.specs.Tokens.Naming.{Naming}
use Rattle.again_laws.specs.Derived.Redo.{Headed, Leaves, Mode, Plain, Pointed, Redone, is_asked, is_head, kept_at, object_mode, redo}
use Rattle.again_laws.specs.Derived.Written.{given_none, new_arguments}
use Rattle.again_laws.proofs.derived_rules.Naming.{leaves_at}

-- the level, that of `new` always as with arguments
abbrev pub high : Tree → ℕ
high (member_expr s o p) = min member_level (high o)
high (tagged_tpl s t q) = min member_level (high t)
high (new_expr s f a) = member_level
high t = level t

pub re_high : (l : Leaves) (m : Mode) (t : Tree) → high (redo l m t) ≡ high t
re_high l m (member_expr s o p) = ap (λ (n : ℕ). min member_level n) (re_high l (object_mode m p) o)
re_high l m (tagged_tpl s t q) = ap (λ (n : ℕ). min member_level n) (re_high l Headed t)
re_high l m (new_expr s f a) = refl
re_high l m (ident s n) = refl
re_high l m _ = refl

abbrev Near : ℕ → ℕ → Type 0
Near a b = (a ≡ b) ⊎ ((a ≡ new_level) × (b ≡ member_level))

near_min : (a b : ℕ) → Near a b → Near (min member_level a) (min member_level b)
near_min a b (inl e) = inl (ap (λ (n : ℕ). min member_level n) e)
near_min a b (inr e) = inr (ap (λ (n : ℕ). min member_level n) e.0, ap (λ (n : ℕ). min member_level n) e.1)

pub level_high : (t : Tree) → Near (level t) (high t)
level_high (member_expr s o p) = near_min (level o) (high o) (level_high o)
level_high (tagged_tpl s t q) = near_min (level t) (high t) (level_high t)
level_high (new_expr s f absent) = inr (refl, refl)
level_high (new_expr s f _) = inl refl
level_high _ = inl refl

high_same : (l : Leaves) (m : Mode) (t u : Tree) → Redone l m t u → high u ≡ high t
high_same l m t u s = sym (re_high (kept_at l.written) Plain u) ∙ (ap high (s.so Plain) ∙ re_high l m t)

low_by : (l a b x y : ℕ) → Near a b → Near x y → y ≡ b → l ≤ a → l ≤ 18 → l ≤ x
low_by l a b x y (inl e) (inl f) g h k = omega arith
low_by l a b x y (inl e) (inr f) g h k = omega arith
low_by l a b x y (inr e) (inl f) g h k = omega arith
low_by l a b x y (inr e) (inr f) g h k = omega arith

-- what a level up to that of a bare `new` asks
pub level_low : (l : Leaves) (m : Mode) (t u : Tree) → Redone l m t u → (n : ℕ) → n ≤ level t → n ≤ 18 → n ≤ level u
level_low l m t u s n h k = low_by n (level t) (high t) (level u) (high u) (level_high t) (level_high u) (high_same l m t u s) h k

below_by : (a b x y : ℕ) → Near a b → Near x y → y ≡ b → a ≤ 17 → x ≡ a
below_by a b x y (inl e) (inl f) g h = f ∙ (g ∙ sym e)
below_by a b x y (inl e) (inr f) g h = absurd (omega arith)
below_by a b x y (inr e) (inl f) g h = absurd (omega arith)
below_by a b x y (inr e) (inr f) g h = absurd (omega arith)

pub level_below : (l : Leaves) (m : Mode) (t u : Tree) → Redone l m t u → level t ≤ 17 → level u ≡ level t
level_below l m t u s h = below_by (level t) (high t) (level u) (high u) (level_high t) (level_high u) (high_same l m t u s) h

-- ---- at a head

object_head : (m : Mode) (p : Tree) → is_head (object_mode m p) ≡ true
object_head m p = by (is_asked m || is_computed p)
  where
    by : (b : Bool) → is_head (if b then Headed else Pointed) ≡ true
    by true = refl
    by false = refl

pub kept_level : (places : ℕ → Span) (n : Mode) (t : Tree) → level (redo (kept_at places) n t) ≡ level t
kept_level places n (member_expr s o p) = ap (λ (x : ℕ). min member_level x) (kept_level places (object_mode n p) o)
kept_level places n (tagged_tpl s t q) = ap (λ (x : ℕ). min member_level x) (kept_level places Headed t)
kept_level places n (new_expr s f absent) = refl
kept_level places n (new_expr s f _) = refl
kept_level places n _ = refl

given_level : (v : Bool) (f : Tree) → v ≡ true → level (new_expr no_place f (given_none v)) ≡ member_level
given_level true f e = refl
given_level false f e = absurd (true≢false (sym e))

new_head : (look : Look) (f a : Tree) → level (new_expr no_place f (new_arguments look true a)) ≡ member_level
new_head look f absent = given_level (formats look || true) f (or_true (formats look))
new_head look f (list none) = given_level (formats look || true) f (or_true (formats look))
new_head look f (list (more t ts)) = refl
new_head look f _ = refl

pub head_level : (look : Look) (naming : Naming) (m : Mode) (t : Tree) → is_head m ≡ true → level (redo (leaves_at look naming) m t) ≡ high t
head_level look naming m (member_expr s o p) e = ap (λ (x : ℕ). min member_level x) (head_level look naming (object_mode m p) o (object_head m p))
head_level look naming m (tagged_tpl s t q) e = ap (λ (x : ℕ). min member_level x) (head_level look naming Headed t refl)
head_level look naming m (new_expr s f a) e =
    subst (λ (h : Bool). level (new_expr no_place (redo (leaves_at look naming) Headed f) (new_arguments look h (redo (leaves_at look naming) Plain a))) ≡ member_level) (sym e)
    (new_head look (redo (leaves_at look naming) Headed f) (redo (leaves_at look naming) Plain a))
head_level look naming m _ e = refl

-- what any level asks, at a head
pub level_head : (look : Look) (naming : Naming) (m : Mode) (t u : Tree) → is_head m ≡ true → Redone (leaves_at look naming) m t u → (n : ℕ) → n ≤ level t → n ≤ level u
level_head look naming m t u e s n h = over n (level t) (high t) (level u) (level_high t) (sym (kept_level naming.written Plain u) ∙ (ap level (s.so Plain) ∙ head_level look naming m t e)) h
  where
    over : (n a b x : ℕ) → Near a b → x ≡ b → n ≤ a → n ≤ x
    over n a b x (inl f) g h = omega arith
    over n a b x (inr f) g h = omega arith

-- a bare `new` at a head is one with arguments
min_new : (n : ℕ) → min member_level n ≡ new_level → n ≡ new_level
min_new n h = omega arith

pub new_high : (t : Tree) → level t ≡ new_level → high t ≡ member_level
new_high (member_expr s o p) h = ap (λ (n : ℕ). min member_level n) (new_high o (min_new (level o) h))
new_high (tagged_tpl s t q) h = ap (λ (n : ℕ). min member_level n) (new_high t (min_new (level t) h))
new_high (new_expr s f a) h = refl
new_high (bin_expr s op a b) h = absurd (omega (arith, binary_low op, h))
new_high _ h = absurd (omega arith)

pub callee_level : (look : Look) (naming : Naming) (t u : Tree) → Redone (leaves_at look naming) Headed t u → (level t ≡ new_level) ⊎ (member_level ≤ level t) → member_level ≤ level u
callee_level look naming t u s (inl e) = subst (λ (n : ℕ). member_level ≤ n) (sym (sym (kept_level naming.written Plain u) ∙ (ap level (s.so Plain) ∙ (head_level look naming Headed t refl ∙ new_high t e)))) (omega arith)
callee_level look naming t u s (inr h) = level_head look naming Headed t u refl s member_level h
