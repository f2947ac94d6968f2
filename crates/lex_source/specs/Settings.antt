-- What every source of tokens keeps besides its tokens.
use Rattle.std.specs.Prelude.{ℕ, Bool, false, List, [], ◌∷◌, ◌++◌, Option, None, option_map, take, if◌then◌else◌}
use Rattle.base_token.specs.declared.context.Context.{Context}
use Rattle.base_token.specs.declared.error.Error.{Error}
use Rattle.base_token.specs.declared.syntax.Syntax.{Syntax}
use Rattle.base_token.specs.declared.version.EsVersion.{EsVersion}
use Rattle.lex_source.specs.declared.contexts.TokenContext.{TokenContext}
use Rattle.lex_source.specs.declared.settings.Settings as code
use Rattle.lex_source.specs.Contexts.{outward}
use Rattle.lex_source.specs.Faults.{recorded_in, waiting_in}

pub record Settings : Type 0 where
  pub syntax : Syntax
  pub target : EsVersion
  -- the place at which the text starts
  pub start : ℕ
  -- the code around the next token
  pub ctx : Context
  -- what encloses it, the innermost first
  pub contexts : List TokenContext
  -- whether an expression may come next
  pub expr_allowed : Bool
  -- the place of the slash that is to be read again as a regular expression
  pub next_regexp : Option ℕ
  -- the faults that were recorded, in order
  pub recorded : List Error
  -- the faults of modules that wait until the context says module
  pub waiting : List Error

-- what contracts see of them
abbrev pub settings_in : code.Settings → Settings
settings_in s = record {
  syntax = s.syntax;
  target = s.target;
  start = s.start.0;
  ctx = s.ctx;
  contexts = outward s.contexts;
  expr_allowed = s.expr_allowed;
  next_regexp = option_map (λ p. p.0) s.next_regexp;
  recorded = recorded_in s.faults;
  waiting = waiting_in s.faults;
}

-- code with no flag set
abbrev pub no_flags : Context
no_flags = record { module_ = false; can_be_module = false; strict = false; include_in_expr = false; in_async = false; in_generator = false; in_static_block = false; in_function = false; is_break_allowed = false; is_continue_allowed = false; allow_super = false; allow_direct_super = false; ignore_error = false }

-- at the start of a text
abbrev pub at_start : Syntax → EsVersion → ℕ → Settings
at_start syntax target start = record { syntax = syntax; target = target; start = start; ctx = no_flags; contexts = []; expr_allowed = false; next_regexp = None; recorded = []; waiting = [] }

-- the code around the next token is this; a module records the faults that waited
abbrev pub with_ctx : Context → Settings → Settings
with_ctx ctx s = record s {
  ctx = ctx;
  recorded = if ctx.module_ then s.recorded ++ s.waiting else s.recorded;
  waiting = if ctx.module_ then [] else s.waiting;
}

abbrev pub with_error : Error → Settings → Settings
with_error e s = record s { recorded = s.recorded ++ e ∷ [] }

-- a fault that modules alone have
abbrev pub with_module_error : Error → Settings → Settings
with_module_error e s = if s.ctx.module_ then with_error e s else record s { waiting = s.waiting ++ e ∷ [] }

abbrev pub without_errors : Settings → Settings
without_errors s = record s { recorded = [] }

abbrev pub with_contexts : List TokenContext → Settings → Settings
with_contexts cs s = record s { contexts = cs }

abbrev pub with_expr_allowed : Bool → Settings → Settings
with_expr_allowed allowed s = record s { expr_allowed = allowed }

abbrev pub with_next_regexp : Option ℕ → Settings → Settings
with_next_regexp place s = record s { next_regexp = place }

-- what the next two tokens depend on: no faults, and the innermost two contexts
abbrev pub scout_of : Settings → Settings
scout_of s = record s { contexts = take 2 s.contexts; recorded = []; waiting = [] }
