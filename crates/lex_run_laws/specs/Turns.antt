-- What a reader tells a lexer, the tokens that it gets, and which of them it keeps.
use Rattle.std.specs.Prelude.{◌≡◌, ℕ, ◌+◌, Bool, true, false, ◌&&◌, ◌||◌, ◌==◌, if◌then◌else◌, List, [], ◌∷◌, length, Option, None, Some}
use Rattle.base_token.specs.declared.context.Context.{Context}
use Rattle.base_token.specs.Kinds.{div_assign_kind, div_kind}
use Rattle.base_token.specs.Tokens.{Spot}
use Rattle.lex_source.specs.Settings.{with_ctx, with_next_regexp}
use Rattle.lex_source.specs.Canonical.Canonical.{Edge, edge_of, gap, own_bytes}
use Rattle.lex_source.specs.Canonical.Moved.{moved_to}
use Rattle.lex_step_laws.specs.States.{State}
use Rattle.lex_step_laws.specs.Steps.{IsStep}

-- What is told before a token, and the token: the code around it, and whether the place of the last token is asked for, so that a slash
-- is read again as a regular expression.
pub record Turn : Type 0 where
  pub ctx : Context
  pub again : Bool
  pub spot : Spot

-- the place that is asked for, where the last token stands there
abbrev pub asked : Bool → Option ℕ → Option ℕ
asked true last = last
asked false last = None

-- the state behind `set_ctx` and `set_next_regexp`
abbrev pub told : Context → Option ℕ → State → State
told ctx place s = record s { settings = with_next_regexp place (with_ctx ctx s.settings) }

-- These turns come one after the other; the token before the first stands at this place.
abbrev pub Turns : Option ℕ → State → List Turn → State → Type 0
Turns last s [] new = s ≡ new
Turns last s (t ∷ ts) new =
    (behind : State) × IsStep (told t.ctx (asked t.again last) s) (Some t.spot) behind × Turns (Some t.spot.lo) behind ts new

-- and behind them the text ends
abbrev pub ReadToEnd : State → List Turn → Context → Type 0
ReadToEnd s ts ctx = (new last : State) × Turns None s ts new × IsStep (told ctx None new) None last

-- ---- the tokens that are kept

abbrev pub is_slash_kind : ℕ → Bool
is_slash_kind kind = kind == div_kind || kind == div_assign_kind

-- whether a token is a slash that the next turn reads again
abbrev pub is_reread : Turn → List Turn → Bool
is_reread t [] = false
is_reread t (u ∷ us) = is_slash_kind t.spot.token.kind && u.again

-- all but those
abbrev pub kept : List Turn → List Spot
kept [] = []
kept (t ∷ ts) = if is_reread t ts then kept ts else t.spot ∷ kept ts

abbrev pub all_spots : List Turn → List Spot
all_spots [] = []
all_spots (t ∷ ts) = t.spot ∷ all_spots ts

-- ---- the same turns in the canonical text

abbrev pub begin_at : ℕ → Option Edge → Spot → ℕ
begin_at at last spot = at + length (gap last spot)

abbrev pub end_at : List ℕ → ℕ → Option Edge → Spot → ℕ
end_at source at last spot = begin_at at last spot + length (own_bytes source spot.lo spot.hi)

abbrev pub moved_turn : List ℕ → ℕ → Option Edge → Turn → Turn
moved_turn source at last t = record t { spot = moved_to (begin_at at last t.spot) (end_at source at last t.spot) t.spot }

-- behind this place, and the last token that is kept; a slash that is read again stands where its regular expression does
abbrev pub moved_behind : List ℕ → ℕ → Option Edge → List Turn → List Turn
moved_behind source at last [] = []
moved_behind source at last (t ∷ ts) =
    moved_turn source at last t
    ∷ (if is_reread t ts then moved_behind source at last ts else moved_behind source (end_at source at last t.spot) (Some (edge_of t.spot)) ts)

-- The turns with each token in its place of the canonical text, whose first place is 1.
abbrev pub moved_turns : List ℕ → List Turn → List Turn
moved_turns source ts = moved_behind source 1 None ts
