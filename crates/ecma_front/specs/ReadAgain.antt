-- What the text that is written is read as: the same program, and no other.
use Rattle.std.specs.Prelude.{◌≡◌, ℕ, ◌≤◌, false, true, List}
use Rattle.base_token.specs.Editions.{edition_rank}
use Rattle.base_token.specs.declared.version.EsVersion.TheVariants.{Es2015}
use Rattle.tree_spec.specs.Tree.{Tree}
use Rattle.tree_program_spec.specs.Program.{IsSameProgram}
use Rattle.run_command.specs.Options.{is_format}
use Rattle.run_command.specs.declared.options.Options.{Options}
use Rattle.run_command.specs.declared.options.Style.TheVariants.{Minify}
use Rattle.run_print.specs.Layouts.{layout}
use Rattle.ecma_front.specs.Programs.{Spells, TreeReads}

-- the same settings, to minify
abbrev pub minifying : Options → Options
minifying o = record o { style = Minify }

-- Characters past ASCII stay as they are, and the edition is ES2015 or a later one: then what is written again is written with the same bytes.
pub record KeepsBytes (o : Options) : Type 0 where
  pub wide : o.ascii_only ≡ false
  pub modern : edition_rank Es2015 ≤ edition_rank o.target

-- The text that is written of a tree by these settings is the same program: a tree of that program spells it, and no other tree so much as reads it.
-- To format what is formatted changes no byte, and to minify what is written is to minify what it was written of.
pub record IsReadAgain (o : Options) (t : Tree) (text : List ℕ) : Type 0 where
  pub tree : Tree
  pub spells : Spells o tree text
  pub same : IsSameProgram tree t
  pub only : (other : Tree) → TreeReads o other text → other ≡ tree
  pub formatted : KeepsBytes o → is_format o.style ≡ true → layout o tree ≡ layout o t
  pub minified : KeepsBytes o → layout (minifying o) tree ≡ layout (minifying o) t
