-- Two readings agree: the second answers what the first does, unless that is too deep.
use Rattle.std.proofs.Common.{◌≡◌, ℕ, zero, suc, Bool, true, false, ◌||◌, cond, ltb, List, [], ◌∷◌, Option, Result, Ok, Err, refl, sym, ap, subst}
use Rattle.base_token.specs.declared.place.Span.{Span}
use Rattle.base_token.specs.Tokens.{Content, Piece, Line}
use Rattle.tree_spec.specs.Tree.{Tree, param, rest_pat, function}
use Rattle.grammar_spec.specs.Tokens.Input.{Code}
use Rattle.grammar_spec.specs.Tokens.Shape.{is_default_case}
use Rattle.grammar_spec.specs.Reader.Source.{Fault, Unexpected, TooDeep, ◌>>=◌, placed, Stream, State, Read, Step, go_on, finished, next_by, iterate_n, iterate, Inner}
use Rattle.grammar_spec.specs.Reader.Expressions.{is_rest_param, pattern_of, quasi}
use Rattle.grammar_spec.specs.Reader.Statements.{constructor_of, has_default, one_bare}
use Rattle.grammar_spec.specs.Reader.Modules.{line_of}
pub use Rattle.grammar_laws.specs.SteadyLaws.{Keeps}

pub record Agrees {A : Type 0} (x y : Result A Fault) : Type 0 where
  pub so : Keeps x y

pub agree_same : {A : Type 0} (x : Result A Fault) → Agrees x x
agree_same (Ok a) = record { so = refl }
agree_same (Err (Unexpected n)) = record { so = refl }
agree_same (Err (TooDeep n)) = record { so = tt }

pub agree_equal : {A : Type 0} (x y : Result A Fault) → y ≡ x → Agrees x y
agree_equal x y e = subst (λ z. Agrees x z) (sym e) (agree_same x)

pub agree_then : {A B : Type 0} (x y : Result A Fault) (f g : A → Result B Fault) → Agrees x y → ((a : A) → Agrees (f a) (g a)) → Agrees (x >>= f) (y >>= g)
agree_then (Ok a) y f g h k = subst (λ z. Agrees (f a) (z >>= g)) (sym h.so) (k a)
agree_then (Err (Unexpected n)) y f g h k = record { so = ap (λ z. z >>= g) h.so }
agree_then (Err (TooDeep n)) y f g h k = record { so = tt }

-- the same where a fault is found at a given place
pub agree_placed : {A : Type 0} (n : ℕ) (x y : Result A Fault) → Agrees x y → Agrees (placed n x) (placed n y)
agree_placed n (Ok a) y h = record { so = ap (λ z. placed n z) h.so }
agree_placed n (Err (Unexpected k)) y h = record { so = ap (λ z. placed n z) h.so }
agree_placed n (Err (TooDeep k)) y h = record { so = tt }

-- the same first
pub agree_after : {A B : Type 0} (x : Result A Fault) (f g : A → Result B Fault) → ((a : A) → Agrees (f a) (g a)) → Agrees (x >>= f) (x >>= g)
agree_after x f g k = agree_then x x f g (agree_same x) k

pub agree_if : {A : Type 0} (b : Bool) (x u y v : Result A Fault) → Agrees x u → Agrees y v → Agrees (cond b x y) (cond b u v)
agree_if true x u y v h k = h
agree_if false x u y v h k = k

pub agree_by : {A : Type 0} (b d : Bool) → d ≡ b → (x u y v : Result A Fault) → Agrees x u → Agrees y v → Agrees (cond b x y) (cond d u v)
agree_by b d e x u y v h k = subst (λ (z : Bool). Agrees (cond b x y) (cond z u v)) (sym e) (agree_if b x u y v h k)

-- ---- loops

module _ {S A : Type 0} (bound : State S → ℕ) (step other : A → Read S (Step A)) (h : (x : A) (s : State S) → Agrees (step x s) (other x s)) where
  agree_next : (f g : A → Read S A) (b : ℕ) (y : Step A × State S) → ((x : A) (s : State S) → Agrees (f x s) (g x s)) → Agrees (next_by bound f b y) (next_by bound g b y)
  agree_next f g b (go_on x, r) k = agree_if (ltb (bound r) b) _ _ _ _ (k x r) (agree_same _)
  agree_next f g b (finished x, r) k = agree_same _

  agree_turns : (t : ℕ) (x : A) (s : State S) → Agrees (iterate_n bound t step x s) (iterate_n bound t other x s)
  unfolding iterate_n
  agree_turns zero x s = agree_same _
  agree_turns (suc t) x s = agree_then _ _ _ _ (h x s) (λ y. agree_next (iterate_n bound t step) (iterate_n bound t other) (bound s) y (λ z r. agree_turns t z r))

  pub agree_iterate : (x : A) (s : State S) → Agrees (iterate bound step x s) (iterate bound other x s)
  unfolding iterate
  agree_iterate x s = agree_turns (suc (bound s)) x s

-- ---- the readers of nested parts

-- each answers what the other does, unless it is too deep
pub record Steady {S : Type 0} (i j : Inner S) : Type 0 where
  pub expr : (c : Code) (l : ℕ) (s : State S) → Agrees (i.expr c l s) (j.expr c l s)
  pub pat : (c : Code) (s : State S) → Agrees (i.pat c s) (j.pat c s)
  pub stmt : (c : Code) (s : State S) → Agrees (i.stmt c s) (j.stmt c s)
  pub body : (c : Code) (s : State S) → Agrees (i.body c s) (j.body c s)
  pub class_tail : (c : Code) (w : ℕ) (s : State S) → Agrees (i.class_tail c w s) (j.class_tail c w s)

-- what the rules say of trees and tokens alone is the same over either
module _ {S : Type 0} (m : Stream S) (i j : Inner S) where
  pub same_rest : (t : Tree) → is_rest_param m j t ≡ is_rest_param m i t
  same_rest (param s ds (rest_pat t d p)) = refl
  same_rest _ = refl

  pub same_pattern : (t : Tree) → pattern_of m j t ≡ pattern_of m i t
  same_pattern (param s ds p) = refl
  same_pattern _ = refl

  pub same_quasi : (c : Content) (s : Span) → ◌≡◌ {A = Bool → Option Tree} (quasi m j c s) (quasi m i c s)
  same_quasi (Piece raw cooked) s = refl
  same_quasi _ s = refl

  pub same_constructor : (s : Span) (k t : Tree) → constructor_of m j s k t ≡ constructor_of m i s k t
  same_constructor s k (function t ps ds b g a) = refl
  same_constructor s k _ = refl

  pub same_default : (ts : List Tree) → has_default m j ts ≡ has_default m i ts
  same_default [] = refl
  same_default (t ∷ ts) = ap (λ b. is_default_case t || b) (same_default ts)

  pub same_bare : (ts : List Tree) → one_bare m j ts ≡ one_bare m i ts
  same_bare [] = refl
  same_bare (t ∷ []) = refl
  same_bare (t ∷ (u ∷ ts)) = refl

  pub same_line : (c : Content) → line_of m j c ≡ line_of m i c
  same_line (Line l) = refl
  same_line _ = refl
