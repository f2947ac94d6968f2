-- Steps of a source one after the other, and where they begin in other code.
use Rattle.std.specs.Prelude.{◌≡◌, ℕ, zero, suc, Bool, true, false, not, ◌||◌, Option, None, Some, if◌then◌else◌}
use Rattle.base_token.specs.declared.context.Context.{Context}
use Rattle.lex_source.specs.Machine.{Machine, Source}

-- the source behind so many steps
unfoldable pub stepped : {S : Type 0} → Machine S → ℕ → Source S → Source S
stepped m zero s = s
stepped m (suc n) s = (m.step (stepped m n s)).1

-- From a copy, where there is one, so many steps lead to the tokens of the source, and to the source itself where it was told nothing since.
abbrev pub LeadsTo : {S : Type 0} → Machine S → Option (Source S) → ℕ → Bool → Source S → Type 0
LeadsTo m None n untold s = Unit {0}
LeadsTo m (Some c) n untold s = ((stepped m n c).tokens ≡ s.tokens) × (untold ≡ true → stepped m n c ≡ s)

-- There is a copy, from which so many steps lead to the source.
abbrev pub StepsTo : {S : Type 0} → Machine S → Option (Source S) → ℕ → Source S → Type 0
StepsTo m None n s = ⊥
StepsTo m (Some c) n s = stepped m n c ≡ s

-- one flag, but not both
abbrev pub differ : Bool → Bool → Bool
differ true b = not b
differ false b = b

-- Tokens are read otherwise in the second code than in the first: one is a module's, or strict, and the other isn't.
abbrev pub turns : Context → Context → Bool
turns old new = differ old.module_ new.module_ || differ old.strict new.strict

-- Where the copy was told other code than this: the source in front of the last of so many steps.
abbrev pub back_by : {S : Type 0} → Machine S → Context → Option (Source S) → ℕ → Option (Source S)
back_by m ctx None n = None
back_by m ctx (Some c) zero = None
back_by m ctx (Some c) (suc n) = if turns c.settings.ctx ctx then Some (stepped m n c) else None
