-- What is written of a tree that was read from what was written of another: the statement of the law.
use Rattle.std.specs.Prelude.{◌≡◌, true, false, nat_lt}
use Rattle.base_token.specs.Editions.{edition_rank}
use Rattle.tree_spec.specs.Tree.{Tree}
use Rattle.print_layout_spec.specs.declared.look.Look.{Look}
use Rattle.print_layout_laws.specs.Marks.{AreWrittenAlike}
use Rattle.again_laws.specs.Tokens.Means.{Known}
use Rattle.again_laws.specs.Derived.Redo.{Plain, Redone}
use Rattle.again_laws.specs.Derived.Every.{every}
use Rattle.again_laws.specs.Derived.Read.{Read}
use Rattle.again_laws.specs.Derived.Written.{leaves_of}

-- A text written in the one look may be written again in the other: from ES2015 on, for the same edition and the same pages, with characters
-- past ASCII, formatted or minified as it was, or minified where it was formatted.
pub record WritesAgain (one two : Look) : Type 0 where
  pub modern : nat_lt (edition_rank one.style.target) 2 ≡ false
  pub edition : two.style.target ≡ one.style.target
  pub page : two.style.inline_script ≡ one.style.inline_script
  pub wide : one.style.ascii_only ≡ false
  pub wide_again : two.style.ascii_only ≡ false
  pub short : one.style.minify ≡ true → two.style.minify ≡ true

-- A tree whose spellings are those of the text written of a tree that was read is written as that one.
abbrev pub WrittenAgain : Type 0
WrittenAgain = (one two : Look) → WritesAgain one two → (t u : Tree) → every (Read Known) Plain t → Redone (leaves_of one) Plain t u → AreWrittenAlike two u t
