-- What a lexer at its start hands out to a parser tiles the text: the statements of the law.
use Rattle.std.specs.Prelude.{◌≡◌, ◌≢◌, nat_le, ℕ, Bool, true, List, [], ◌∷◌}
use Rattle.base_token.specs.Kinds.{error_kind}
use Rattle.base_token.specs.declared.syntax.EsSyntax.{EsSyntax}
use Rattle.tree_spec.specs.Tree.{Tree}
use Rattle.grammar_spec.specs.Tokens.Input.{PlacedToken, Input, regexp_goal, usual}
use Rattle.grammar_spec.specs.Grammar.{Derives}
use Rattle.grammar_laws.specs.Slash.TemplateLaws.{Outside, over}
use Rattle.lex_step_laws.specs.States.{State}
use Rattle.ecma_lexer.specs.Machine.{lexer_machine}
use Rattle.parse_state.specs.Cursors.{read_on, stream_of}
use Rattle.parse_source_laws.specs.Sources.{HandsOut}
use Rattle.grammar_text_spec.specs.Text.{code_of, is_of_goal, text_start}
use Rattle.grammar_text_spec.specs.Tiled.{Tile}
use Rattle.parse_lexer_laws.specs.Handed.{handed, AtStart}

-- the same tokens in the same places, under the same goals and in the same contexts, whatever escapes and old forms are told of them
abbrev pub SameSpots : List PlacedToken → List PlacedToken → Type 0
SameSpots [] [] = Unit {0}
SameSpots (x ∷ xs) (y ∷ ys) = (x.spot ≡ y.spot) × (x.goal ≡ y.goal) × (x.context ≡ y.context) × SameSpots xs ys
SameSpots _ _ = ⊥

-- a script or a module derives these tokens
abbrev pub ProgramDerives : Bool → EsSyntax → Tree → List PlacedToken → Input → Type 0
ProgramDerives modules syntax t ps r = (is_of_goal modules t ≡ true) × Derives t (code_of modules syntax) (record { last = text_start; places = ps }) r

-- No token is a fault, and each that stands outside the characters of templates stands under a goal that is usual for it.
abbrev pub AreUsual : List PlacedToken → Type 0
AreUsual [] = Unit {0}
AreUsual (p ∷ ps) = (p.spot.token.kind ≢ error_kind) × (nat_le p.goal regexp_goal ≡ true → usual p.spot.token.kind p.goal ≡ true) × AreUsual ps

-- So are tokens among which each brace and each template has its partner, and which stand under goals of their regions and kinds;
abbrev pub MatchedUsual : Type 0
MatchedUsual = (ps : List PlacedToken) → over (Outside []) ps ≡ Outside [] → AreUsual ps

-- so are those that a script or a module derives.
abbrev pub DerivedUsual : Type 0
DerivedUsual = (modules : Bool) (syntax : EsSyntax) (t : Tree) (ps : List PlacedToken) (r : Input) → ProgramDerives modules syntax t ps r → AreUsual ps

-- Tokens that are handed out to a parser, from the first one on, tile the text under any goals that are theirs: where each brace and each template has its
-- partner, and each token stands under a goal of its region and kind.
abbrev pub HandedTile : Type 0
HandedTile = (start : ℕ) (modules : Bool) (text : List ℕ) (ps : List PlacedToken) (s : State) (last : ℕ) → AtStart start modules text s → over (Outside []) ps ≡ Outside []
    → HandsOut (stream_of lexer_machine) (handed ps) (read_on (lexer_machine.step s) last) → (qs : List PlacedToken) × SameSpots ps qs × Tile start modules text qs

-- So the tokens that a script or a module derives tile the text, where a parser was handed them.
abbrev pub DerivedTile : Type 0
DerivedTile = (start : ℕ) (modules : Bool) (syntax : EsSyntax) (t : Tree) (text : List ℕ) (ps : List PlacedToken) (r : Input) (s : State) (last : ℕ) → AtStart start modules text s → ProgramDerives modules syntax t ps r
    → HandsOut (stream_of lexer_machine) (handed ps) (read_on (lexer_machine.step s) last) → (qs : List PlacedToken) × SameSpots ps qs × Tile start modules text qs
