-- Where a parser stands in a source of tokens, and how reading goes on from there: the stream of the reading functions over any source.
use Rattle.std.specs.Prelude.{ℕ, zero, suc, ◌+◌, Bool, true, false, not, ◌&&◌, ◌||◌, ◌==◌, if◌then◌else◌, List, [], ◌∷◌, length, Option, None, Some, option_map}
use Rattle.base_token.specs.declared.context.Context.{Context}
use Rattle.base_token.specs.Kinds.{div_kind, div_assign_kind, regex_kind, error_kind}
use Rattle.base_token.specs.Tokens.{Spot}
use Rattle.lex_source.specs.Ahead.{break_in, lo_in}
use Rattle.lex_source.specs.Machine as tokens
use Rattle.lex_source.specs.Machine.{Source}
use Rattle.lex_source.specs.Settings.{with_ctx, with_next_regexp}
use Rattle.grammar_spec.specs.Tokens.Input.{PlacedToken, no_context, div_goal, is_word, text_in}
use Rattle.grammar_spec.specs.Reader.Source as reading

-- The token that comes, or none at the end; the source behind it; and where the last token that was taken ends. A start, which tells where
-- something began, has no source.
pub record Cursor (S : Type 0) : Type 0 where
  pub first : Option Spot
  pub behind : Option (Source S)
  pub last : ℕ

-- ---- the tokens at hand

-- A word is spelled with an escape where its span is longer than its text.
abbrev pub is_escaped : Spot → Bool
is_escaped t = is_word t.token.kind && not (t.lo + length (text_in t.token.content) == t.hi)

-- A token in its place. Reading asks for no goal, no context and no spelling of literals.
abbrev pub place_of : Spot → PlacedToken
place_of t = record { spot = t; escaped = is_escaped t; goal = div_goal; context = no_context }

-- the token that comes, and up to so many behind it
abbrev pub places : {S : Type 0} → tokens.Machine S → ℕ → Option Spot → Option (Source S) → List PlacedToken
places m n None behind = []
places m n (Some t) None = place_of t ∷ []
places m zero (Some t) (Some s) = place_of t ∷ []
places m (suc n) (Some t) (Some s) = place_of t ∷ places m n (m.step s).0 (Some (m.step s).1)

-- ---- going on

abbrev pub read_on : {S : Type 0} → Option Spot × Source S → ℕ → Cursor S
read_on x last = record { first = x.0; behind = Some x.1; last = last }

-- The token that comes is taken. At the end nothing changes.
abbrev pub after_by : {S : Type 0} → tokens.Machine S → Option Spot → Option (Source S) → Cursor S → Cursor S
after_by m (Some t) (Some s) q = read_on (m.step s) t.hi
after_by m first behind q = q

-- ---- a slash that is read again

abbrev pub is_slash : ℕ → Bool
is_slash k = (k == div_kind) || (k == div_assign_kind)

-- told that the slash at a place is to be read again, or that none is
abbrev pub asked : {S : Type 0} → Option ℕ → Source S → Source S
asked place s = record s { settings = with_next_regexp place s.settings }

abbrev pub withdrawn : {S : Type 0} → Option Spot × Source S → Option Spot × Source S
withdrawn x = (x.0, asked None x.1)

-- both line-break flags, or neither
abbrev pub same_break : Bool → Bool → Bool
same_break true b = b
same_break false b = not b

-- A regular expression, or a fault of one, in a slash's place (ECMA-262, 12.9.5): it begins where the slash does, with the same line-break flag.
abbrev pub in_place : Spot → Option Spot → Bool
in_place t None = false
in_place t (Some u) = ((u.token.kind == regex_kind) || (u.token.kind == error_kind)) && ((u.lo == t.lo) && same_break u.line_break t.line_break)

-- whether a token that is read again from there on comes in the place of the one that waits
abbrev pub comes : Option Spot → Spot → Bool
comes o u = ((u.token.kind == regex_kind) || (u.token.kind == error_kind)) && ((u.lo == lo_in u.lo o) && same_break u.line_break (break_in o))

-- what the source hands out where this slash is asked for again
abbrev pub again_in : {S : Type 0} → tokens.Machine S → Spot → Source S → Option Spot
again_in m t s = (m.step (asked (Some t.lo) s)).0

-- What a slash that comes is read again as, and the source behind it. Where the source hands out no such token, the slash stays, and the source stands as it did.
abbrev pub reread_by : {S : Type 0} → Spot → Option Spot × Source S → Cursor S → Cursor S
reread_by t x q = if in_place t x.0 then read_on (withdrawn x) q.last else q

-- A slash that comes is read as a regular expression.
abbrev pub operand_by : {S : Type 0} → tokens.Machine S → Option Spot → Option (Source S) → Cursor S → Cursor S
operand_by m (Some t) (Some s) q = if is_slash t.token.kind then reread_by t (m.step (asked (Some t.lo) s)) q else q
operand_by m first behind q = q

-- ---- the code around the tokens behind the one that comes

-- What comes was read already. No code turns it into another token.
abbrev pub told_of : {S : Type 0} → Context → Source S → Source S
told_of ctx s = record s { settings = with_ctx ctx s.settings }

-- ---- how many tokens may come

abbrev pub one_in : Option Spot → ℕ
one_in None = 0
one_in (Some t) = 1

abbrev pub bound_in : {S : Type 0} → tokens.Machine S → Option (Source S) → ℕ
bound_in m None = 0
bound_in m (Some s) = m.bound s.tokens

-- ---- the stream

unfoldable pub stream_of : {S : Type 0} → tokens.Machine S → reading.Stream (Cursor S)
stream_of m = record {
  seen = λ q. places m 2 q.first q.behind;
  after = λ q. after_by m q.first q.behind q;
  operand = λ q. operand_by m q.first q.behind q;
  retold = λ x q. record q { behind = option_map (told_of x) q.behind };
  bound = λ q. one_in q.first + bound_in m q.behind;
  last = λ q. q.last;
}
