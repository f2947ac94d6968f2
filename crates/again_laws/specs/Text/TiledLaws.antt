-- Laws of texts that are written of trees that were read: their statements.
use Rattle.std.specs.Prelude.{◌≡◌, ℕ, Bool, true, not, List, Option, Some, None}
use lib.Utf8.{scalars}
use Rattle.base_token.specs.declared.syntax.EsSyntax.{EsSyntax}
use Rattle.base_token.specs.declared.place.Span.{Span}
use Rattle.tree_spec.specs.Tree.{Tree, Trees, script, es_module}
use Rattle.grammar_spec.specs.Tokens.Input.{Input, Code}
use Rattle.grammar_spec.specs.Grammar.{Produces}
use Rattle.print_writers.specs.Pages.{Page}
use Rattle.print_layout_spec.specs.declared.look.Look.{Look}
use Rattle.print_layout_spec.specs.declared.look.Stand.TheVariants.{Alone}
use Rattle.print_layout_spec.specs.Looks.{◌·◌, when, commit}
use Rattle.print_layout_spec.specs.Layout.{laid, statements}
use Rattle.grammar_text_spec.specs.Text.{Reads}
use Rattle.again_laws.specs.Tokens.Means.{Known}
use Rattle.again_laws.specs.Tiling.Goes.{GoesWhole}
use Rattle.again_laws.specs.Tiling.Tiles.{IsEmptyPage, IsHashbangText}
use Rattle.again_laws.specs.Tiling.Laws.{IsTiled}

-- no hashbang, or one on its line (12.5)
abbrev pub IsLineText : Option (List ℕ) → Type 0
IsLineText None = Unit {0}
IsLineText (Some own) = IsHashbangText own

-- A script that produces known tokens is written, in any look, formatted and minified, as a text that is tiled by tokens that its layout says.
abbrev pub ScriptsAreTiled : Type 0
ScriptsAreTiled = (look : Look) (begin : ℕ) (modules : Bool) (sp : Span) (ss : Trees) (line : Option (List ℕ)) (c : Code) (ts r : Input) (p : Page)
    → Known ts.places → Produces (script sp ss line) c ts r → IsLineText line → IsEmptyPage p → IsTiled begin modules (laid look Alone (script sp ss line)) p

-- So is a module.
abbrev pub ModulesAreTiled : Type 0
ModulesAreTiled = (look : Look) (begin : ℕ) (modules : Bool) (sp : Span) (ss : Trees) (line : Option (List ℕ)) (c : Code) (ts r : Input) (p : Page)
    → Known ts.places → Produces (es_module sp ss line) c ts r → IsLineText line → IsEmptyPage p → IsTiled begin modules (laid look Alone (es_module sp ss line)) p

-- Behind a hashbang (12.5) each text of the statements may follow what stands before it.
abbrev pub GoesBehind : Look → List ℕ → Trees → Type 0
GoesBehind look own body = IsHashbangText own × GoesWhole (statements look body · when (not look.omits_last) commit)

-- Each text of the layout of a script or a module may follow what stands before it, behind a hashbang where it has one.
abbrev pub ProgramGoes : Look → Tree → Type 0
ProgramGoes look (script span body None) = GoesWhole (laid look Alone (script span body None))
ProgramGoes look (script span body (Some own)) = GoesBehind look own body
ProgramGoes look (es_module span body None) = GoesWhole (laid look Alone (es_module span body None))
ProgramGoes look (es_module span body (Some own)) = GoesBehind look own body
ProgramGoes look t = ⊥

-- So it is for every tree that reads a text of scalar values.
abbrev pub ProgramsGo : Type 0
ProgramsGo = (look : Look) (modules : Bool) (syntax : EsSyntax) (t : Tree) (text : List ℕ) → scalars text ≡ true → Reads modules syntax t text → ProgramGoes look t
