-- Laws of canonical texts and lexers.
use Rattle.std.specs.Prelude.{◌≡◌, ℕ, ◌+◌, List, encode_utf8_all}
use Rattle.base_token.specs.declared.context.Context.{Context}
use Rattle.base_token.specs.declared.syntax.Syntax.{Syntax}
use Rattle.base_token.specs.declared.version.EsVersion.{EsVersion}
use Rattle.lex_pieces.specs.Places.{bytes}
use Rattle.lex_source.specs.Canonical.Canonical.{canonical}
use Rattle.lex_source.specs.Canonical.Moved.{moved}
use Rattle.lex_step_laws.specs.States.{State, at_start_of}
use Rattle.lex_run_laws.specs.StepLists.{Clean}
use Rattle.lex_run_laws.specs.Turns.{ReadToEnd, Turn, all_spots, kept, moved_turns}

-- the start of a text whose first place is 1
abbrev pub text_start : Syntax → EsVersion → List ℕ → State
text_start syntax target cs = at_start_of syntax target 1 cs (1 + bytes cs)

-- The canonical text of the tokens that were kept, by its characters: a lexer that is told the same, with each place moved as its token
-- is, hands out the same tokens, and those that are kept are in their places.
pub record ReadsAgain (syntax : Syntax) (target : EsVersion) (source : List ℕ) (ts : List Turn) (ctx : Context) : Type 0 where
  pub cs : List ℕ
  pub text : encode_utf8_all cs ≡ canonical source (kept ts)
  pub reads : ReadToEnd (text_start syntax target cs) (moved_turns source ts) ctx
  pub places : kept (moved_turns source ts) ≡ moved source (kept ts)

-- Of a text that is read to its end without an error token, while nobody sets the token contexts.
abbrev pub CanonicalReads : Type 0
CanonicalReads = (syntax : Syntax) (target : EsVersion) (cs : List ℕ) (ts : List Turn) (ctx : Context)
    → Clean (all_spots ts) → ReadToEnd (text_start syntax target cs) ts ctx → ReadsAgain syntax target (encode_utf8_all cs) ts ctx
