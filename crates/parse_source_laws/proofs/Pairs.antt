-- Lists and a source side by side, where a list is told from what stands behind a reading: what is asked of both.
use Rattle.std.proofs.Common.{◌≡◌, ◌⊎◌, ℕ, suc, Bool, true, false, not, ◌&&◌, ◌==◌, if◌then◌else◌, eqb, nat_le, nat_lt, List, [], ◌∷◌, codes, bytes_eq}
use Rattle.base_token.specs.declared.context.Context.{Context}
use Rattle.base_token.specs.Kinds.{arrow_kind, async_kind, error_kind}
use Rattle.tree_spec.specs.Tree.{Tree}
use Rattle.grammar_spec.specs.Tokens.Input.{PlacedToken, Code, kind_of, kind2, brk, brk2, text_in}
use Rattle.grammar_spec.specs.Tokens.Operators.{assignment_level, goes_expr, pauses, closed_end, postfix_end, let_end}
use Rattle.grammar_spec.specs.Tokens.Shape.{ends}
use Rattle.grammar_spec.specs.Reader.Source.{Stream, input, is_name}
use Rattle.parse_source_laws.specs.Sources.{is_slash, Rereads, Orderly}
use Rattle.parse_source_laws.specs.Ahead.{ends_async}
use Rattle.parse_source_laws.proofs.Beside.{lm, on, regexp, slash}

-- ---- what ends an expression

-- The class of an expression: closed, whatever stands behind it; 0 where it ends with that word; 1 else.
abbrev pub edge_by : Bool → Bool → ℕ
edge_by shut waits = if shut then closed_end else (if waits then 0 else postfix_end)

abbrev pub edge : Tree → ℕ
edge t = edge_by (nat_le closed_end (ends t)) (ends_async t)

-- What is asked of what stands behind the first is asked of what stands behind the second.
abbrev pub Keeps : ℕ → ℕ → Type 0
Keeps e i = (nat_le closed_end e ≡ false → nat_le closed_end i ≡ false) × (nat_le postfix_end e ≡ false → nat_le postfix_end i ≡ false)

-- ---- tests of lists that don't tell a slash from a regular expression in its place

-- the first token is no fault
abbrev pub Opens : List PlacedToken → Type 0
Opens [] = ⊥
Opens (p ∷ ps) = eqb p.spot.token.kind error_kind ≡ false

-- a test of one token
abbrev pub Blind : {A : Type 0} → (List PlacedToken → A) → Type 0
Blind B = ((p q : PlacedToken) (l w : List PlacedToken) → B (regexp p ∷ l) ≡ B (slash true p q ∷ w))
    × ((p q : PlacedToken) (l w : List PlacedToken) → B (regexp p ∷ l) ≡ B (slash false p q ∷ w))
    × ((p : PlacedToken) (l w : List PlacedToken) → B (p ∷ l) ≡ B (p ∷ w))

-- a test of two
abbrev pub BlindTwo : {A : Type 0} → (List PlacedToken → A) → Type 0
BlindTwo B = ((p q : PlacedToken) (l w : List PlacedToken) → B (regexp p ∷ l) ≡ B (slash true p q ∷ w))
    × ((p q : PlacedToken) (l w : List PlacedToken) → B (regexp p ∷ l) ≡ B (slash false p q ∷ w))
    × ((n p q : PlacedToken) (l w : List PlacedToken) → B (n ∷ regexp p ∷ l) ≡ B (n ∷ slash true p q ∷ w))
    × ((n p q : PlacedToken) (l w : List PlacedToken) → B (n ∷ regexp p ∷ l) ≡ B (n ∷ slash false p q ∷ w))
    × ((n p : PlacedToken) (l w : List PlacedToken) → B (n ∷ p ∷ l) ≡ B (n ∷ p ∷ w))

-- a name that is the one parameter of an arrow behind `async`
abbrev pub is_param : Code → ℕ → List PlacedToken → Bool
is_param c l z = is_name lm c (on [] 0 z) && ((not (brk (input lm (on [] 0 z))) && (kind2 (input lm (on [] 0 z)) == arrow_kind) && not (brk2 (input lm (on [] 0 z)))) && nat_le l assignment_level)

-- what may stand last where a statement pauses
abbrev pub Loose : ℕ → Type 0
Loose e = (nat_le closed_end e ≡ false) ⊎ (e ≡ let_end)

-- ---- lists and a source

-- Which lists go with a source.
pub record Pairing {S : Type 0} (m : Stream S) : Type 1 where
  -- the states that a reading comes to
  pub live : S → Type 0
  -- The list goes on from the state: its first token is the source's, and so many behind it.
  pub hands : ℕ → List PlacedToken → S → Type 0
  -- the same, behind what isn't closed, and behind the word `async`
  pub ajar : S → List PlacedToken → Type 0
  pub waits : S → List PlacedToken → Type 0

-- What is asked of them.
pub record Paired {S : Type 0} (m : Stream S) (k : Pairing m) (modular : Bool) : Type 1 where
  pub order : Orderly m k.live modular
  pub fewer : (n : ℕ) (l : List PlacedToken) (s : S) → k.live s → k.hands (suc n) l s → k.hands n l s
  -- a token more, and one less
  pub token : (n : ℕ) (p : PlacedToken) (l v : List PlacedToken) (s : S) → k.live s → m.seen s ≡ p ∷ v → k.hands n l (m.after s) → k.hands (suc n) (p ∷ l) s
  pub behind : (n : ℕ) (p : PlacedToken) (l v : List PlacedToken) (s : S) → k.live s → m.seen s ≡ p ∷ v → is_slash p.spot.token.kind ≡ false → k.hands (suc n) l s → (w : List PlacedToken) × (l ≡ p ∷ w) × k.hands n w (m.after s)
  -- tests
  pub one : {A : Type 0} (B : List PlacedToken → A) → Blind B → (l : List PlacedToken) (s : S) → k.live s → k.hands 0 l s → B l ≡ B (m.seen s)
  pub two : {A : Type 0} (B : List PlacedToken → A) → BlindTwo B → (l : List PlacedToken) (s : S) → k.live s → k.hands 1 l s → B l ≡ B (m.seen s)
  pub same : {A : Type 0} (B : List PlacedToken → A) → ((p : PlacedToken) (l v : List PlacedToken) → B (p ∷ l) ≡ B (p ∷ v)) → (l : List PlacedToken) (s : S) → k.live s → is_slash (kind_of (m.seen s)) ≡ false → k.hands 0 l s → B l ≡ B (m.seen s)
  -- the code around, and operands
  pub told : (x : Context) (n : ℕ) (l : List PlacedToken) (s : S) → x.module_ ≡ modular → k.live s → k.hands n l (m.retold x s) → k.hands n l s
  pub operands : (n : ℕ) (l : List PlacedToken) (s : S) → k.live s → k.hands n l (m.operand s) → Opens l → k.hands n l s
  pub reread : (s : S) (q p : PlacedToken) (qs rs : List PlacedToken) → k.live s → m.seen s ≡ q ∷ qs → is_slash q.spot.token.kind ≡ true → m.seen (m.operand s) ≡ p ∷ rs
      → (p.spot.token.kind ≡ error_kind) ⊎ (Rereads q p ⊎ (m.operand s ≡ s))
  -- before a token that is taken anything may end
  pub shows : (p : PlacedToken) (l v : List PlacedToken) (s : S) → k.live s → m.seen s ≡ p ∷ v → k.hands 0 l (m.after s) → k.ajar s (p ∷ l) × k.waits s (p ∷ l)
  -- what goes on with an expression; a parameter behind `async`; what pauses
  pub goes : (c : Code) (e j : ℕ) (l : List PlacedToken) (s : S) → k.live s → k.hands 0 l s → (nat_le closed_end e ≡ false → k.ajar s l)
      → nat_lt (goes_expr c e (record { last = 0; places = l })) j ≡ nat_lt (goes_expr c e (record { last = 0; places = m.seen s })) j
  pub param : (c : Code) (j : ℕ) (p : PlacedToken) (l v : List PlacedToken) (s : S) → k.live s → m.seen s ≡ p ∷ v → p.spot.token.kind ≡ async_kind → k.hands 0 l (m.after s)
      → (bytes_eq (text_in p.spot.token.content) (codes "async") ≡ true → k.waits (m.after s) l) → is_param c j l ≡ is_param c j (m.seen (m.after s))
  pub pause : (c : Code) (e : ℕ) (l : List PlacedToken) (s : S) → k.live s → k.hands 0 l s → pauses c e (record { last = 0; places = l }) ≡ pauses c e (record { last = 0; places = m.seen s })
  pub stops : (c : Code) (e : ℕ) (l : List PlacedToken) (s : S) → k.live s → k.hands 0 l s → pauses c e (record { last = 0; places = m.seen s }) ≡ true → (Loose e → k.ajar s l) × k.waits s l
