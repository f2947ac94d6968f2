-- Where a token that waits begins and ends.
use Rattle.std.proofs.Common.{◌≡◌, ℕ, true, false, Option, None, Some, refl, sym}
use Rattle.std.specs.Prelude.{is_none}
use Rattle.std.proofs.lemmas.Bool.{false≢true}
use Rattle.base_token.specs.Tokens.{Spot}
use Rattle.lex_source.specs.Ahead.{hi_in, lo_in}

pub lo_none : (last : ℕ) (o : Option Spot) → is_none o ≡ true → last ≡ lo_in last o
lo_none last None e = refl
lo_none last (Some t) e = absurd (false≢true e)

pub hi_none : (last : ℕ) (o : Option Spot) → is_none o ≡ true → last ≡ hi_in last o
hi_none last None e = refl
hi_none last (Some t) e = absurd (false≢true e)

pub lo_some : (lo last : ℕ) (o : Option Spot) → lo ≡ lo_in lo o → is_none o ≡ false → lo ≡ lo_in last o
lo_some lo last None h e = absurd (false≢true (sym e))
lo_some lo last (Some t) h e = h

pub hi_some : (hi last : ℕ) (o : Option Spot) → hi ≡ hi_in hi o → is_none o ≡ false → hi ≡ hi_in last o
hi_some hi last None h e = absurd (false≢true (sym e))
hi_some hi last (Some t) h e = h

pub ruleset ends = (lo_none, hi_none, lo_some, hi_some)
