-- What is read within the limit of nesting: a finished tree, with nothing of a cover left.
use Rattle.std.specs.Prelude.{ℕ, Bool, nat_le, if◌then◌else◌, Result, Ok}
use Rattle.tree_spec.specs.Tree.{Tree}
use Rattle.tree_nesting.specs.Nesting.{nesting}
use Rattle.grammar_spec.specs.Tokens.Input.{Code}
use Rattle.grammar_spec.specs.Tokens.Shape.{is_clean}
use Rattle.grammar_spec.specs.Reader.Source.{Fault, too_deep, unexpected, ◌>>=◌, Stream, State}
use Rattle.grammar_spec.specs.Reader.Modules.{program_by}
use Rattle.grammar_spec.specs.Reader.Reading.{readers, finish}

-- What is read nests no deeper than the limit.
unfoldable pub within : {S : Type 0} → Stream S → ℕ → Tree × State S → Result (Tree × State S) Fault
within m limit x = if nat_le (nesting x.0) limit then Ok x else too_deep m x.1

-- A part of a program nests no deeper than the limit, and nothing of a cover is left in it.
unfoldable pub settled : {S : Type 0} → Stream S → ℕ → Tree × State S → Result (Tree × State S) Fault
settled m limit x = if nat_le (nesting x.0) limit then (if is_clean x.0 then Ok x else unexpected m x.1) else too_deep m x.1

-- A script or a module: its parts are read up to so many levels deep, it nests no deeper, and nothing of a cover is left.
unfoldable pub program_within : {S : Type 0} → Stream S → ℕ → Bool → Code → State S → Result Tree Fault
program_within m limit modules c s = program_by m (readers m limit) modules c s >>= within m limit >>= finish m
