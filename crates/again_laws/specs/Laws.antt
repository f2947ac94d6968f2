-- Read-back: what is written of a tree that spells a text is spelled by the same program, and by no other tree: the statements.
use Rattle.std.specs.Prelude.{◌≡◌, ℕ, Bool, true, not, List, [], Some, None}
use Rattle.std.specs.Str.{chars}
use lib.Utf8.{scalars}
use Rattle.tree_spec.specs.Tree.{Tree, Trees, script, es_module}
use Rattle.tree_program_spec.specs.Program.{IsSameProgram}
use Rattle.grammar_spec.specs.Tokens.Input.{PlacedToken, Input, Code}
use Rattle.grammar_spec.specs.Grammar.{Produces}
use Rattle.grammar_text_spec.specs.Tiled.{Tile}
use Rattle.grammar_text_spec.specs.Text.{Setting, Reads, TreeSpells, text_start}
use Rattle.print_writers.specs.Pages.{Page}
use Rattle.print_pages_spec.specs.Pieces.{resolved, shortened}
use Rattle.print_layout_spec.specs.declared.look.Look.{Look}
use Rattle.print_layout_spec.specs.declared.look.Stand.TheVariants.{Alone}
use Rattle.print_layout_spec.specs.Looks.{Laid, ◌·◌, when, commit}
use Rattle.print_layout_spec.specs.Layout.{laid, statements, pieces}
use Rattle.print_layout_laws.specs.Marks.{AreWrittenAlike}
use Rattle.again_laws.specs.Tokens.Means.{Known}
use Rattle.again_laws.specs.Tokens.Spacings.{Spacing}
use Rattle.again_laws.specs.Tokens.Told.{says}
use Rattle.again_laws.specs.Tokens.Naming.{Naming, StandsFor, nowhere}
use Rattle.again_laws.specs.Tiling.Goes.{GoesWhole}
use Rattle.again_laws.specs.Tiling.Laws.{IsTiled}
use Rattle.again_laws.specs.Tiling.Tiles.{AllHaveGoals, SaysTiles, IsEmptyPage, IsHashbangText}
use Rattle.again_laws.specs.DerivedLaws.BytesLaws.{WritesAgain}
use Rattle.again_laws.specs.Derived.Laws.{kept_names}
use Rattle.again_laws.specs.DerivedLaws.DerivedLaws.{is_program}

-- Behind a hashbang (12.5) each text of the statements may follow what stands before it.
abbrev pub GoesBehind : Look → Trees → Type 0
GoesBehind look body = GoesWhole (statements look body · when (not look.omits_last) commit)

-- Each text of the layout of a script or a module may follow what stands before it, behind a hashbang where it has one.
abbrev pub ProgramGoes : Look → Tree → Type 0
ProgramGoes look (script span body None) = GoesWhole (laid look Alone (script span body None))
ProgramGoes look (script span body (Some own)) = GoesBehind look body
ProgramGoes look (es_module span body None) = GoesWhole (laid look Alone (es_module span body None))
ProgramGoes look (es_module span body (Some own)) = GoesBehind look body
ProgramGoes look t = ⊥

-- So it is for every program that produces tokens which were read.
abbrev pub ProgramsGo : Look → Type 0
ProgramsGo look = (t : Tree) (c : Code) (ts r : Input) → is_program t ≡ true → Produces t c ts r → Known ts.places → ProgramGoes look t

-- The hashbang of a program, where it has one, stands on a line.
abbrev pub HasLineText : Tree → Type 0
HasLineText (script span body (Some own)) = IsHashbangText own
HasLineText (es_module span body (Some own)) = IsHashbangText own
HasLineText t = Unit {0}

-- What is written of every such program is tiled by tokens that its layout says.
abbrev pub ProgramsAreTiled : Look → Type 0
ProgramsAreTiled look = (modules : Bool) (t : Tree) (c : Code) (ts r : Input) (p : Page) → is_program t ≡ true → Produces t c ts r → Known ts.places → HasLineText t → IsEmptyPage p
    → IsTiled text_start modules (laid look Alone t) p

-- A tree of the same program spells the text that is written of another in a look, no other reads it, and in each look in which that text may be written again it is written as the other.
pub record IsReadBack (look : Look) (x : Setting) (modules : Bool) (t : Tree) (text : List ℕ) : Type 0 where
  pub tree : Tree
  pub spells : TreeSpells x modules tree text
  pub same : IsSameProgram tree t
  pub only : (v : Tree) → Reads modules x.syntax v text → v ≡ tree
  pub again : (two : Look) → WritesAgain look two → AreWrittenAlike two tree t

-- A tree that spells a text is written in a look, formatted and minified, as a text that the same program spells.
abbrev pub ReadBack : Look → Type 0
ReadBack look = (x : Setting) (modules : Bool) (t : Tree) (text : List ℕ) (p : Page) → scalars text ≡ true → TreeSpells x modules t text → IsEmptyPage p
    → IsReadBack look x modules t (chars (resolved (pieces look t) p).out) × IsReadBack look x modules t (chars (shortened (pieces look t) p).out)

-- A text that is tiled by tokens that a layout tells, up to their end.
pub record TellsTiles (n : Naming) (start : ℕ) (modules : Bool) (f : Laid) (text : List ℕ) : Type 0 where
  pub places : List PlacedToken
  pub tiles : Tile start modules text places
  pub goals : AllHaveGoals places
  pub behind : Spacing
  pub told : says n f behind (record { last = start; places = places }) (λ b m. m.places ≡ [])

-- no place is kept
abbrev pub kinds_alone : (ℕ → ℕ) → Naming
kinds_alone f = record { read = nowhere; written = nowhere; behind = f }

-- Such a text is read back, whatever stands between its tokens.
abbrev pub ToldIsReadBack : Type 0
ToldIsReadBack = (look : Look) (x : Setting) (modules : Bool) (t : Tree) (text out : List ℕ) (f : ℕ → ℕ) → scalars text ≡ true → TreeSpells x modules t text
    → TellsTiles (kinds_alone f) text_start modules (laid look Alone t) out → IsReadBack look x modules t out

-- Where what is written of programs is tiled by what their layouts say, it is read back;
abbrev pub TiledIsReadBack : Type 0
TiledIsReadBack = (look : Look) → ProgramsAreTiled look → ReadBack look

-- and so where the layouts of programs go.
abbrev pub GoingIsReadBack : Type 0
GoingIsReadBack = (look : Look) → ProgramsGo look → ReadBack look

-- What is written of every program is read back, in every look.
abbrev pub ProgramsReadBack : Type 0
ProgramsReadBack = (look : Look) → ReadBack look

-- Where tokens that tile a text are said by the layout of a tree that spells one, each name where it stands for the one that was read, a tree that reads that text has as many names,
-- the i-th of both is the same word, and the one stands for the other.
abbrev pub NamesReadBack : Type 0
NamesReadBack = (n : Naming) (look : Look) (x : Setting) (modules : Bool) (t : Tree) (text out : List ℕ) → scalars text ≡ true → TreeSpells x modules t text
    → SaysTiles (StandsFor n) text_start modules (laid look Alone t) out → (v : Tree) → Reads modules x.syntax v out → kept_names n.written v ≡ kept_names n.read t
