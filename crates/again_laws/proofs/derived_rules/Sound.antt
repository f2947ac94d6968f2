-- The claim: the tokens that the layout of a tree says are derived again, by a tree that is this one but for places and spellings.
use Rattle.std.proofs.Common.{Bool, arith, false, leb, nat_le, refl, subst, sym, true, ℕ, ◌||◌, ◌≡◌, ◌≤◌}
use Rattle.std.proofs.lemmas.Bool.{le-leb, or_left}
use Rattle.base_token.specs.declared.place.Span.{Span}
use Rattle.tree_spec.specs.Tree.{Tree, Trees, expr_stmt, more, none}
use Rattle.grammar_spec.specs.Tokens.Input.{Code, Input, assigning, unplaced}
use Rattle.grammar_spec.specs.Tokens.Shape.{is_bound_name, is_private, is_use_strict, is_word_name, level}
use Rattle.grammar_spec.specs.Grammar.{Produces}
use Rattle.grammar_spec.specs.Children.{Expr, is_ident, child}
use Rattle.print_layout_spec.specs.Layout.{is_variables, laid}
use Rattle.print_layout_spec.specs.Looks.{Laid, both, semi, when, ◌·◌}
use Rattle.print_layout_spec.specs.declared.look.Look.{Look}
use Rattle.print_layout_spec.specs.declared.look.Stand.{Stand}
use Rattle.print_layout_spec.specs.declared.look.Stand.TheVariants.{Alone}
use Rattle.again_laws.specs.Tokens.Spacings.{Spacing, Touching}
use Rattle.again_laws.specs.Tokens.Means.{Known}
use Rattle.again_laws.specs.Tokens.Naming.{Naming}
use Rattle.again_laws.specs.Tokens.Told.{Breaks, says}
use Rattle.again_laws.specs.Derived.Redo.{Headed, Mode, Redone}
use Rattle.again_laws.specs.Derived.Written.{mode_of}
use Rattle.again_laws.proofs.derived_rules.Begins.{Begins, Starts, begun, is_inner, is_loose, is_part, is_weak, level_part, part_outer, part_variables, strong}
use Rattle.again_laws.proofs.derived_rules.Follow.{Follow}
use Rattle.again_laws.proofs.derived_rules.Naming.{leaves_at}
use Rattle.again_laws.proofs.derived_rules.Levels.{level_head, level_low}

-- ---- trees whose last piece is a token
abbrev pub is_tight : Tree → Bool
is_tight t = nat_le 1 (level t) || (is_bound_name t || (is_ident t || (is_word_name t || is_private t)))

pub tight_of : (t : Tree) → 1 ≤ level t → is_tight t ≡ true
tight_of t h = or_left (leb 1 (level t)) _ (le-leb 1 (level t) h)

-- a layout, and the semicolon that ends variables
abbrev pub full : Look → Stand → Tree → Laid
full look s t = laid look s t · when (is_variables t) semi

-- What the tree is derived as again: a tree that produces the tokens and is this one but for places and spellings, with the same directives (11.2.1).
pub record Again (look : Look) (naming : Naming) (mode : Mode) (t : Tree) (c : Code) (ts r : Input) : Type 0 where
  pub tree : Tree
  pub produced : Produces tree (unplaced c) ts r
  pub same : Redone (leaves_at look naming) mode t tree
  pub directive : is_use_strict tree ≡ is_use_strict t
  pub quoted : (p q : Span) → is_use_strict (expr_stmt p tree) ≡ is_use_strict (expr_stmt q t)

-- What holds of the tokens from `ts` on that a layout says of a tree which produced those from `ts0` up to `r0`.
pub record Out (look : Look) (naming : Naming) (s : Stand) (t : Tree) (c : Code) (ts0 r0 : Input) (b : Spacing) (ts : Input) (K : Spacing → Input → Type 0) : Type 0 where
  -- they go up to `m`, behind the spacing `d`, where the rest of the layout goes on
  pub d : Spacing
  pub m : Input
  pub more : K d m
  -- what was left then was read
  pub known : Known r0.places
  -- a line breaks before them where one was written, and nothing is written behind the last
  pub broke : Breaks naming b ts
  pub tight : is_tight t ≡ true → d ≡ Touching
  pub begins : Starts (is_weak t) (is_loose t) ts0 r0 ts m
  -- where what follows lets it, they are derived again
  pub again : Follow s t r0 m → Again look naming (mode_of s) t c ts m

-- Whatever a tree spells in a code, what the layout of it says is derived in this code again.
abbrev pub Claim : Look → Naming → Stand → Tree → Type 1
Claim look naming s t = (c : Code) (ts0 r0 : Input) → Produces t c ts0 r0 → Known ts0.places → (b : Spacing) (ts : Input) (K : Spacing → Input → Type 0) → says naming (full look s t) b ts K → Out look naming s t c ts0 r0 b ts K

-- the same of all but inner parts
abbrev pub Unless : Bool → Type 1 → Type 1
Unless true A = Unit {1}
Unless false A = A

abbrev pub Sound : Look → Naming → Stand → Tree → Type 1
Sound look naming s t = Unless (is_inner t) (Claim look naming s t)

abbrev pub AllSound : Look → Naming → Trees → Type 1
AllSound look naming none = Unit {1}
AllSound look naming (more t ts) = Sound look naming Alone t × AllSound look naming ts

module _ (look : Look) (naming : Naming) where
  pub outer : (s : Stand) (t : Tree) → Sound look naming s t → is_inner t ≡ false → Claim look naming s t
  outer s t f e = subst (λ (v : Bool). Unless v (Claim look naming s t)) e f

  -- ---- parts of a production

  pub plain_part : (s : Stand) (e : Tree) → Sound look naming s e → is_part e ≡ true → (c : Code) (ts0 r0 : Input) → Produces e c ts0 r0 → Known ts0.places
      → (b : Spacing) (ts : Input) (K : Spacing → Input → Type 0) → says naming (laid look s e) b ts K → Out look naming s e c ts0 r0 b ts K
  plain_part s e f n c ts0 r0 h k b ts K q = outer s e f (part_outer e n) c ts0 r0 h k b ts K (subst (λ (v : Bool). says naming (both (laid look s e) (when v semi)) b ts K) (sym (part_variables e n)) q)

  pub expr : (l : ℕ) (s : Stand) (e : Tree) → Sound look naming s e → 1 ≤ l → (c : Code) (ts0 r0 : Input) → Expr l c (child e (λ y. Produces e y)) ts0 r0 → Known ts0.places
      → (b : Spacing) (ts : Input) (K : Spacing → Input → Type 0) → says naming (laid look s e) b ts K → Out look naming s e (assigning c) ts0 r0 b ts K
  expr l s e f n c ts0 r0 h k b ts K q = plain_part s e f (level_part e (omega (arith, n, h.0))) (assigning c) ts0 r0 h.1 k b ts K q

  pub expr_begins : (s : Stand) (e : Tree) (c : Code) (ts0 r0 : Input) (b : Spacing) (ts : Input) (K : Spacing → Input → Type 0) → 1 ≤ level e → (o : Out look naming s e c ts0 r0 b ts K) → Begins (is_loose e) ts0 r0 ts o.m
  expr_begins s e c ts0 r0 b ts K h o = begun (is_weak e) (is_loose e) ts0 r0 ts o.m (strong e h) o.begins

  -- as an expression of a level
  pub expr_low : (n : ℕ) (s : Stand) (e : Tree) (c : Code) (ts r : Input) → n ≤ level e → n ≤ 18 → (w : Again look naming (mode_of s) e (assigning c) ts r) → Expr n (unplaced c) (child w.tree (λ y. Produces w.tree y)) ts r
  expr_low n s e c ts r h k w = (level_low (leaves_at look naming) (mode_of s) e w.tree w.same n h k, w.produced)

  pub expr_head : (n : ℕ) (e : Tree) (c : Code) (ts r : Input) → n ≤ level e → (w : Again look naming Headed e (assigning c) ts r) → Expr n (unplaced c) (child w.tree (λ y. Produces w.tree y)) ts r
  expr_head n e c ts r h w = (level_head look naming Headed e w.tree refl w.same n h, w.produced)
