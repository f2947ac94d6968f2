-- A text that is read token after token, at one moment.
use Rattle.std.specs.Prelude.{ℕ, ◌-◌, Bool, true, false, ◌&&◌, ◌||◌, ◌==◌, not, encode_utf8_all, List, [], ◌∷◌, ◌++◌, Option, None, Some, if◌then◌else◌}
use Rattle.base_token.specs.declared.context.Context.{Context}
use Rattle.base_token.specs.declared.error.Error.{Error}
use Rattle.base_token.specs.declared.error.SyntaxError.{SyntaxError}
use Rattle.base_token.specs.Kinds.{back_quote_kind, div_assign_kind, div_kind, dollar_brace_kind, error_kind, left_brace_kind, right_brace_kind, shebang_kind, template_kind}
use Rattle.base_token.specs.Tokens.{SpecToken, Spot, Line, bare}
use Rattle.lex_pieces.specs.Places.{bytes}
use Rattle.lex_pieces.specs.declared.trivia.Goal.{Goal}
use Rattle.lex_pieces.specs.declared.trivia.Goal.TheVariants.{Script, Module}
use Rattle.lex_token.specs.declared.goal.LexicalGoal.{LexicalGoal}
use Rattle.lex_token.specs.Lexemes.{SpecLexeme, plain}
use Rattle.lex_token.specs.declared.goal.LexicalGoal.TheVariants.{TemplateTail, TemplateEnd}
use Rattle.lex_source.specs.declared.contexts.TokenContext.{TokenContext}
use Rattle.lex_source.specs.declared.contexts.TokenContext.TheVariants.{BraceStmt, BraceExpr, TplQuasi, Tpl}
use Rattle.lex_source.specs.Machine.{Source, told}
use Rattle.base_token.specs.declared.place.Span.{Span}
use Rattle.base_token.specs.declared.syntax.Syntax.{Syntax}
use Rattle.base_token.specs.declared.version.EsVersion.{EsVersion}
use Rattle.lex_source.specs.Settings.{at_start}

-- What came last: nothing, since the text starts here; a slash, with the text from it on; the characters of a template; a fault, behind
-- which nothing comes; or any other token.
pub data Last : Type 0 where
  Start : Last
  Slash : List ℕ → Last
  Characters : Last
  Fault : Last
  Other : Last

-- The characters left, the place of the end of the text, what came last, and whether a line break stood before that.
pub record Text : Type 0 where
  pub left : List ℕ
  pub end : ℕ
  pub last : Last
  pub line_break : Bool

abbrev pub State : Type 0
State = Source Text

-- the place at which these characters begin, which run to the end of the text
abbrev pub place : ℕ → List ℕ → ℕ
place end cs = end - bytes cs

-- whether nothing was handed out yet
abbrev pub is_start : Last → Bool
is_start Start = true
is_start _ = false

-- the goal symbol of the whole text (clause 16)
abbrev pub goal_of : Context → Goal
goal_of ctx = if ctx.module_ then Module else Script

-- ---- the token contexts: they say which `}` closes a `${`, and nothing else

-- Whether a template's own characters or what ends them come next. The braces inside a `${` are kept, so the `}` that closes it is the one
-- at which the template is the innermost again.
abbrev pub template_goal : List TokenContext → Last → Option LexicalGoal
template_goal (Tpl ∷ cs) Characters = Some TemplateEnd
template_goal (Tpl ∷ cs) _ = Some TemplateTail
template_goal _ _ = None

-- behind `{`: kept inside a template alone
abbrev pub opened : List TokenContext → List TokenContext
opened [] = []
opened (c ∷ cs) = BraceStmt ∷ c ∷ cs

-- behind `}`
abbrev pub closed : List TokenContext → List TokenContext
closed (BraceStmt ∷ cs) = cs
closed (BraceExpr ∷ cs) = cs
closed (TplQuasi ∷ cs) = cs
closed cs = cs

-- behind a back quote, which ends the template that is open, or begins one
abbrev pub quoted : List TokenContext → List TokenContext
quoted (Tpl ∷ cs) = cs
quoted cs = Tpl ∷ cs

-- behind a token of this kind
abbrev pub contexts_after : ℕ → List TokenContext → List TokenContext
contexts_after kind cs =
    if kind == left_brace_kind then opened cs
    else (if kind == right_brace_kind then closed cs
    else (if kind == back_quote_kind then quoted cs
    else (if kind == dollar_brace_kind then TplQuasi ∷ cs
    else cs)))

-- ---- what comes behind a token

abbrev pub last_after : ℕ → List ℕ → Last
last_after kind from =
    if kind == template_kind then Characters
    else (if kind == div_kind || kind == div_assign_kind then Slash from
    else Other)

-- the part of the text from where the first characters begin up to where the second begin
abbrev pub span_at : ℕ → List ℕ → List ℕ → Span
span_at end from rest = record { lo = record { 0 = place end from }; hi = record { 0 = place end rest } }

-- what strict code records against the spelling of a token in its place
abbrev pub strict_faults : Context → Span → Option SyntaxError → List Error
strict_faults ctx span None = []
strict_faults ctx span (Some kind) = if ctx.strict && not ctx.ignore_error then record { span = span; kind = kind } ∷ [] else []

-- The state behind a token that stands between the first characters and the second.
abbrev pub behind : State → Bool → List ℕ → SpecLexeme → List ℕ → State
behind s line_break from x rest = record {
  tokens = record { left = rest; end = s.tokens.end; last = last_after x.token.kind from; line_break = line_break };
  settings = record s.settings {
    contexts = contexts_after x.token.kind s.settings.contexts;
    recorded = s.settings.recorded ++ strict_faults s.settings.ctx (span_at s.tokens.end from rest) x.legacy;
  };
}

-- The state behind a fault: it takes the rest of the text, and nothing comes behind it.
abbrev pub stopped : State → Bool → State
stopped s line_break = record s { tokens = record { left = []; end = s.tokens.end; last = Fault; line_break = line_break } }

-- the state at the end of the text
abbrev pub ended : State → State
ended s = record s { tokens = record s.tokens { left = [] } }

-- a token in its place, between the first characters and the second
abbrev pub spot_at : ℕ → Bool → SpecToken → List ℕ → List ℕ → Spot
spot_at end line_break token from rest = record { token = told token; line_break = line_break; lo = place end from; hi = place end rest }

-- a fault in its place: from here up to the end of the text
abbrev pub faulty : ℕ → Bool → List ℕ → Spot
faulty end line_break from = spot_at end line_break (bare error_kind) from []

-- the same, from a place on
abbrev pub faulty_from : ℕ → Bool → ℕ → Spot
faulty_from end line_break lo = record { token = bare error_kind; line_break = line_break; lo = lo; hi = end }

-- a hashbang as a token
abbrev pub shebang : List ℕ → SpecLexeme
shebang own = plain (record { kind = shebang_kind; content = Line (encode_utf8_all own) })

-- The text of the slash that is to be read again: it was the last token, and it begins at the place that was asked for.
abbrev pub again_by : Last → Option ℕ → ℕ → Option (List ℕ)
again_by (Slash from) (Some p) end = if p == place end from then Some from else None
again_by _ _ end = None

abbrev pub again : State → Option (List ℕ)
again s = again_by s.tokens.last s.settings.next_regexp s.tokens.end

-- the start of a text that ends at this place
abbrev pub at_start_of : Syntax → EsVersion → ℕ → List ℕ → ℕ → State
at_start_of syntax target start text end = record {
  tokens = record { left = text; end = end; last = Start; line_break = false };
  settings = at_start syntax target start;
}
