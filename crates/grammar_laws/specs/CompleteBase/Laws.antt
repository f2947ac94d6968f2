-- The order of tokens, and what may follow an expression: what the laws speak of.
use Rattle.std.specs.Prelude.{◌≡◌, ◌≤◌, ◌<◌, ℕ, Bool, true, false, not, ◌&&◌, ◌||◌, ◌==◌, List, [], ◌∷◌}
use Rattle.base_token.specs.Kinds.{template_kind, arrow_kind, function_kind}
use Rattle.grammar_spec.specs.Tokens.Input.{PlacedToken, Input, Code, kind, kind2, brk, brk2, is_word, always_reserved}
use Rattle.grammar_spec.specs.Tokens.Operators.{goes_expr, assignment_level, other_end}

-- ---- tokens

-- relation's code for a reading's code: an expression's, whether or not goals and contexts are judged
abbrev pub coded : Bool → Code → Code
coded p c = record c { binds = false; placed = p }

-- that of a pattern that binds
abbrev pub patterned : Bool → Code → Code
patterned p c = record c { binds = true; placed = p }

-- A place begins where the one before it ends, or later, and has a character, but for the characters of a template.
abbrev pub InOrder : ℕ → List PlacedToken → Type 0
InOrder last [] = Unit {0}
InOrder last (p ∷ ps) = (last ≤ p.spot.lo) × (p.spot.lo ≤ p.spot.hi) × ((p.spot.token.kind ≡ template_kind → ⊥) → p.spot.lo < p.spot.hi) × InOrder p.spot.hi ps

-- ---- what may follow

-- a level that is asked for: neither that of a conditional nor that of an update
pub record Asked (l : ℕ) : Type 0 where
  pub conditional : l ≡ 3 → ⊥
  pub update : l ≡ 17 → ⊥

-- What stands after an expression doesn't turn the word `async` before it into a function or an arrow, in whatever code.
abbrev pub sober : Code → Input → Bool
sober c m = brk m || not ((kind m == function_kind) || ((is_word (kind m) && not (always_reserved (kind m))) && (not (brk m) && (kind2 m == arrow_kind) && not (brk2 m))))

-- `=>` on its line
abbrev pub arrowed : Input → Bool
arrowed m = (kind m == arrow_kind) && not (brk m)

-- what can't start an operand of `yield` on its line
abbrev pub ends_operand : ℕ → Bool
ends_operand k = (k == 0) || ((k == 8) || ((k == 10) || ((k == 12) || ((k == 14) || ((k == 13) || ((k == 17) || (k == 130)))))))

abbrev pub quits : Input → Bool
quits m = brk m || ends_operand (kind m)

-- What may follow an expression of this end at this level. Where an assignment may stand, no `=>` follows on the line what may end in a name
-- or a group, of which it would make parameters; a bare `yield` also asks that no operand starts there.
pub record Follow (c : Code) (e l : ℕ) (m : Input) : Type 0 where
  pub stop : goes_expr c e m < l
  pub calm : e ≡ other_end → l ≤ assignment_level → arrowed m ≡ false
  pub sober : sober c m ≡ true
  pub quits : 2 ≤ e → quits m ≡ true
