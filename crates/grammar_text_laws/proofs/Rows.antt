-- Rows of facts: a program's text, and what its tree must give.
use Rattle.std.proofs.Common.{◌≡◌, ℕ, true, if◌then◌else◌, List, [], ◌∷◌, Result, Ok, Err, codes, bytes_eq}
use Rattle.tree_spec.specs.Tree.{Tree}
use Rattle.grammar_spec.specs.Reader.Source.{Fault}
use Rattle.grammar_spec.proofs.reader.Rows.{full_syntax, read_text}
use Rattle.grammar_text_spec.specs.Choice.{tells_module}

-- whether what is read tells that it is a module
abbrev pub telling_told : Result Tree Fault → List ℕ
telling_told (Ok t) = if tells_module t then codes "module" else codes "script"
telling_told (Err e) = codes "no"

pub record Row : Type 0 where
  pub text : List ℕ
  pub got : List ℕ
  pub wanted : List ℕ

-- what a text read as a module tells
unfoldable pub module_tells : List ℕ → List ℕ → Row
module_tells text wanted = record { text = text; got = telling_told (read_text true full_syntax text); wanted = wanted }

unfoldable pub wrong : List Row → List Row
wrong [] = []
wrong (r ∷ rs) = let others = wrong rs in if bytes_eq r.got r.wanted then others else r ∷ others

-- no row of a table is wrong
abbrev pub Hold : List Row → Type 0
Hold rows = wrong rows ≡ []
