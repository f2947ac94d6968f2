-- How the front of a text that is a number is read: by states, one character at a time.
use Rattle.std.specs.Prelude.{◌≡◌, ℕ, ◌≤◌, Bool, true, false, ◌||◌, ◌==◌, if◌then◌else◌, List, [], ◌∷◌, ◌++◌, length, Option, Some, None}
use Rattle.std.specs.Char.{is_digit}
use Rattle.lex_literal.specs.declared.number_state.Radix.{Radix}
use Rattle.lex_literal.specs.declared.number_state.Radix.TheVariants.{Binary, Octal, Hexadecimal}
use Rattle.lex_literal.specs.declared.number_state.State.{State}
use Rattle.lex_literal.specs.declared.number_state.State.TheVariants as s
use Rattle.lex_literal.specs.Escapes.{is_decimal, is_octal}

-- the number of a radix
abbrev pub radix_value : Radix → ℕ
radix_value Binary = 2
radix_value Octal = 8
radix_value Hexadecimal = 16

-- the state that follows, where a number may go on so
abbrev pub Next : Type 0
Next = Option State

-- ExponentIndicator
abbrev pub is_e : ℕ → Bool
is_e c = c == 101 || c == 69

-- behind a 0 in front, where no digit and no mark comes
abbrev pub step_prefix : ℕ → Next
step_prefix c =
    if c == 120 || c == 88 then Some (s.Prefixed Hexadecimal false)
    else (if c == 111 || c == 79 then Some (s.Prefixed Octal false)
    else (if c == 98 || c == 66 then Some (s.Prefixed Binary false)
    else None))

-- where an exponent may begin, and behind an integer
abbrev pub step_exponent : ℕ → Next
step_exponent c = if is_e c then Some s.Mark else None

abbrev pub step_point : ℕ → Next
step_point c = if c == 46 then Some s.Point else step_exponent c

-- behind nothing, behind a 0 and octal digits, and behind a 0
abbrev pub step_start : ℕ → Next
step_start c =
    if c == 48 then Some s.Zero else (if is_decimal c then Some (s.Integer true) else (if c == 46 then Some (s.Fraction false) else None))

abbrev pub step_octal : ℕ → Next
step_octal c = if is_octal c then Some s.LegacyOctal else (if is_decimal c then Some s.LegacyDecimal else None)

abbrev pub step_zero : ℕ → Next
step_zero c =
    if is_decimal c then step_octal c else (if c == 46 then Some s.Point else (if is_e c then Some s.Mark else step_prefix c))

-- behind the digits of an integer
abbrev pub step_legacy_decimal : ℕ → Next
step_legacy_decimal c = if is_decimal c then Some s.LegacyDecimal else step_point c

abbrev pub step_integer : Bool → ℕ → Next
step_integer behind_digit c =
    if is_decimal c then Some (s.Integer true)
    else (if behind_digit then (if c == 95 then Some (s.Integer false) else step_point c) else None)

-- behind the point of an integer, and behind the digits of a fraction
abbrev pub step_behind_point : ℕ → Next
step_behind_point c = if is_decimal c then Some (s.Fraction true) else step_exponent c

abbrev pub step_fraction : Bool → ℕ → Next
step_fraction behind_digit c =
    if is_decimal c then Some (s.Fraction true)
    else (if behind_digit then (if c == 95 then Some (s.Fraction false) else step_exponent c) else None)

-- behind the `e`, and behind the sign and the digits of an exponent
abbrev pub step_mark : ℕ → Next
step_mark c = if is_decimal c then Some (s.Exponent true) else (if c == 43 || c == 45 then Some (s.Exponent false) else None)

abbrev pub step_power : Bool → ℕ → Next
step_power behind_digit c =
    if is_decimal c then Some (s.Exponent true) else (if behind_digit then (if c == 95 then Some (s.Exponent false) else None) else None)

-- behind a prefix and digits
abbrev pub step_prefixed : Radix → Bool → ℕ → Next
step_prefixed radix behind_digit c =
    if is_digit c (radix_value radix) then Some (s.Prefixed radix true)
    else (if behind_digit then (if c == 95 then Some (s.Prefixed radix false) else None) else None)

-- the state behind one more character
unfoldable pub step : State → ℕ → Next
step s.Start c = step_start c
step s.Zero c = step_zero c
step s.LegacyOctal c = step_octal c
step s.LegacyDecimal c = step_legacy_decimal c
step (s.Integer behind_digit) c = step_integer behind_digit c
step s.Point c = step_behind_point c
step (s.Fraction behind_digit) c = step_fraction behind_digit c
step s.Mark c = step_mark c
step (s.Exponent behind_digit) c = step_power behind_digit c
step (s.Prefixed radix behind_digit) c = step_prefixed radix behind_digit c

-- whether what was read is a number
abbrev pub is_whole : State → Bool
is_whole s.Start = false
is_whole s.Zero = true
is_whole s.LegacyOctal = true
is_whole s.LegacyDecimal = true
is_whole (s.Integer behind_digit) = behind_digit
is_whole s.Point = true
is_whole (s.Fraction behind_digit) = behind_digit
is_whole s.Mark = false
is_whole (s.Exponent behind_digit) = behind_digit
is_whole (s.Prefixed radix behind_digit) = behind_digit

-- the radix of the big integer that an `n` makes of it
abbrev pub big_radix : State → Option ℕ
big_radix s.Zero = Some 10
big_radix (s.Integer behind_digit) = if behind_digit then Some 10 else None
big_radix (s.Prefixed radix behind_digit) = if behind_digit then Some (radix_value radix) else None
big_radix _ = None

-- the last state in which a number was read, and what follows it
abbrev pub Last : Type 0
Last = State × List ℕ

-- a value for no state that follows, or from that state
abbrev pub by_next : {A : Type 0} → Next → A → (State → A) → A
by_next None none more = none
by_next (Some q) none more = more q

-- the last number, where this state may be one
abbrev pub kept : State → List ℕ → Last → Last
kept q cs last = if is_whole q then (q, cs) else last

-- the last number that is read from a state on
unfoldable pub scan : State → Last → List ℕ → Last
scan q last [] = last
scan q last (c ∷ cs) = by_next (step q c) last (λ p. scan p (kept p cs last) cs)

-- whether an exponent may follow
abbrev pub exponent_follows : State → Bool
exponent_follows q = by_next (step q 101) false (λ p. by_next (step p 48) false is_whole)

-- the state behind a text
abbrev pub reach : State → List ℕ → Next
reach q [] = Some q
reach q (c ∷ cs) = by_next (step q c) None (λ p. reach p cs)

-- The longest front of a text that is a number, where one is, and the state behind it.
pub record IsFront (text : List ℕ) (q : State) (own rest : List ℕ) : Type 0 where
  pub parts : text ≡ own ++ rest
  pub reached : reach s.Start own ≡ Some q
  pub longest : (p : State) (other more : List ℕ) → text ≡ other ++ more → reach s.Start other ≡ Some p → is_whole p ≡ true → length other ≤ length own
