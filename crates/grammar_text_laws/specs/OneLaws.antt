-- At most one tree, and so at most one program, spells a text: the statements of the law.
use Rattle.std.specs.Prelude.{◌≡◌, ℕ, Bool, List}
use Rattle.base_token.specs.declared.syntax.EsSyntax.{EsSyntax}
use Rattle.tree_spec.specs.Tree.{Tree}
use Rattle.grammar_text_spec.specs.Text.{Setting, Reads, TreeSpells, ProgramSpells}

-- At most one tree reads a text, as a script or as a module.
abbrev pub OneTreeReads : Type 0
OneTreeReads = (modules : Bool) (syntax : EsSyntax) (t u : Tree) (text : List ℕ) → Reads modules syntax t text → Reads modules syntax u text → t ≡ u

-- So at most one tree spells it, whatever the limits of two settings of one syntax,
abbrev pub OneTreeSpells : Type 0
OneTreeSpells = (x y : Setting) (modules : Bool) (t u : Tree) (text : List ℕ) → x.syntax ≡ y.syntax → TreeSpells x modules t text → TreeSpells y modules u text → t ≡ u

-- and at most one program.
abbrev pub OneProgramSpells : Type 0
OneProgramSpells = (x y : Setting) (modules : Bool) (p q : Tree) (text : List ℕ) → x.syntax ≡ y.syntax → ProgramSpells x modules p text → ProgramSpells y modules q text → p ≡ q
