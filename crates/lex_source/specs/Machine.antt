-- How a source of tokens goes on.
use Rattle.std.specs.Prelude.{◌≡◌, ℕ, Option, None, Result, Ok, Err, option_map}
use Rattle.base_token.specs.declared.error.Error.{Error}
use Rattle.base_token.specs.declared.error.SyntaxError.TheVariants.{Memory}
use Rattle.base_token.specs.declared.token.TokenAndSpan.{TokenAndSpan}
use Rattle.base_token.specs.Tokens.{Bare, Content, Faulty, SpecToken, Spot}
use Rattle.base_token.specs.TokenViews.{token_view}
use Rattle.lex_source.specs.Settings.{Settings}

-- A source of tokens at one moment: its tokens in its own form, and what every source keeps.
pub record Source (S : Type 0) : Type 0 where
  pub tokens : S
  pub settings : Settings

-- the source with other settings
abbrev pub told_of : {S : Type 0} → Settings → Source S → Source S
told_of settings s = record s { settings = settings }

-- No slash is to be read again, and the token contexts are as they were. Whatever else was told may differ.
pub record SameContexts (old new : Settings) : Type 0 where
  pub next_regexp : new.next_regexp ≡ None
  pub contexts : new.contexts ≡ old.contexts

-- Behind the end the end comes again and nothing changes, while no slash is to be read again and the token contexts stay.
abbrev pub EndStays : {S : Type 0} → (Source S → Option Spot × Source S) → Type 0
EndStays {S} step = (s : Source S) (settings : Settings) → s.settings.next_regexp ≡ None → (step s).0 ≡ None → SameContexts (step s).1.settings settings
    → step (told_of settings (step s).1) ≡ (None, told_of settings (step s).1)

-- How a source goes on: the token that comes, or nothing at the end, and the source behind it; a bound on how many tokens come, which no
-- setting changes; and that the end stays the end.
pub record Machine (S : Type 0) : Type 0 where
  pub step : Source S → Option Spot × Source S
  pub bound : S → ℕ
  pub end_stays : EndStays step

-- a token without which fault it is, where it is one
abbrev pub without_fault : Content → Content
without_fault (Faulty e) = Bare
without_fault content = content

-- What contracts see of a token that a source hands out: of a faulty one, that it is one, and not which fault it has.
abbrev pub told : SpecToken → SpecToken
told t = record { kind = t.kind; content = without_fault t.content }

abbrev pub shown_spot : TokenAndSpan → Spot
shown_spot t = record { token = told (token_view t.token); line_break = t.had_line_break; lo = t.span.lo.0; hi = t.span.hi.0 }

-- The answer of a step, and the source behind it. The one fault is want of memory, and then nothing is known of what comes.
abbrev pub StepGives : {S : Type 0} → Result (Option TokenAndSpan) Error → Option Spot × Source S → Source S → Type 0
StepGives (Ok t) step new = (option_map shown_spot t ≡ step.0) × (new ≡ step.1)
StepGives (Err e) step new = e.kind ≡ Memory

-- The token that a step put in a place, or none at the end, and the source behind it.
abbrev pub IsPut : {S : Type 0} → Option Spot → Option Spot × Source S → Source S → Type 0
IsPut put step new = (put ≡ step.0) × (new ≡ step.1)

-- A step leaves what the source was told, and the faults that wait.
pub record SameTold (old new : Settings) : Type 0 where
  pub syntax : new.syntax ≡ old.syntax
  pub target : new.target ≡ old.target
  pub start : new.start ≡ old.start
  pub ctx : new.ctx ≡ old.ctx
  pub expr_allowed : new.expr_allowed ≡ old.expr_allowed
  pub next_regexp : new.next_regexp ≡ old.next_regexp
  pub waiting : new.waiting ≡ old.waiting
