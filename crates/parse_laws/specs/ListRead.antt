-- What a parser reads of a list of tokens, by the trees that are derived from the whole list: the statements of the law.
use Rattle.std.specs.Prelude.{◌≡◌, ℕ, Bool, false, List, map, Result}
use Rattle.base_token.specs.declared.syntax.EsSyntax.{EsSyntax}
use Rattle.base_token.specs.Tokens.{Spot}
use Rattle.lex_source.specs.Machine.{Source}
use Rattle.lex_source.specs.Settings.{Settings}
use Rattle.lex_other_sources.specs.Lists.{list_step, list_machine}
use Rattle.tree_spec.specs.Tree.{Tree}
use Rattle.grammar_spec.specs.Tokens.Input.{PlacedToken}
use Rattle.grammar_laws.specs.CompleteBase.Laws.{InOrder}
use Rattle.grammar_spec.specs.Reader.Source.{Fault}
use Rattle.parse_state.specs.Cursors.{place_of, read_on, stream_of}
use Rattle.parse_source_laws.specs.Sources.{HandsOut}
use Rattle.parse_lexer_laws.specs.Constant.{Constant}
use Rattle.parse_laws.specs.Parsed.{DerivesList}
use Rattle.parse_laws.specs.Exact.{read_within}
use Rattle.parse_laws.specs.Judged.{Judged}

-- Any list is a good source, of a script's tokens or of a module's.
abbrev pub AnyList : Source (List Spot) → Type 0
AnyList s = Unit {0}

-- the same tokens, whatever was told
abbrev pub SameList : Source (List Spot) → Source (List Spot) → Type 0
SameList s t = s.tokens ≡ t.tokens

-- The steps of a list fall, and the code around changes no token.
abbrev pub ListConstant : Type 0
ListConstant = (modules : Bool) → Constant list_machine AnyList SameList modules

-- a list's tokens as a parser sees them
abbrev pub seen : List Spot → List PlacedToken
seen spots = map place_of spots

-- A list whose tokens stand in the order of their places hands out these, from the first one on, and nothing else: no slash is read again.
pub record ListHands : Type 0 where
  pub all : (spots : List Spot) (settings : Settings) (last : ℕ) → HandsOut (stream_of list_machine) (seen spots) (read_on (list_step spots settings) last)
  pub no_other : (spots : List Spot) (settings : Settings) (start last : ℕ) (ps : List PlacedToken) → InOrder start (seen spots) → HandsOut (stream_of list_machine) ps (read_on (list_step spots settings) last) → ps ≡ seen spots

-- A tree is derived from the whole list, as a script or a module. Goals and contexts are of texts, so the tokens alone are judged.
abbrev pub ReadsList : Bool → EsSyntax → ℕ → List Spot → Tree → Type 0
ReadsList modules syntax start spots t = DerivesList false modules syntax start (seen spots) t

-- A reading is settled by the list.
abbrev pub ListSettled : Bool → EsSyntax → ℕ → List Spot → ℕ → Result Tree Fault → Type 0
ListSettled modules syntax start spots limit x = Judged (ReadsList modules syntax start spots) limit x

-- What a parser reads of a list in the order of its places, from its first token on, is settled by the list: a script, or a module.
abbrev pub ListsSettled : Type 0
ListsSettled = (limit : ℕ) (modules : Bool) (syntax : EsSyntax) (start : ℕ) (spots : List Spot) (settings : Settings) → InOrder start (seen spots)
    → ListSettled modules syntax start spots limit (read_within (stream_of list_machine) limit modules syntax (read_on (list_step spots settings) start))
