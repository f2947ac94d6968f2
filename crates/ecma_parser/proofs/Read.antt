-- A part of which nothing is read has no tree.
use Rattle.std.proofs.Common.{ℕ, Result, refl}
use Rattle.tree_spec.specs.Tree.{Tree}
use Rattle.grammar_spec.specs.Reader.Source.{Fault}
use Rattle.parse_state.specs.declared.failure.Failure.{Failure}
use Rattle.parse_state.specs.declared.failure.Failure.TheVariants as failure
use Rattle.parse_state.specs.Answers.{Fails}
use Rattle.ecma_parser.specs.Parts.{tree_read}

pub fails_read : {S : Type 0} (e : Failure) (left : ℕ) (r : Result (Tree × S) Fault) → Fails e left r → Fails e left (tree_read r)
unfolding tree_read
fails_read failure.Memory left r f = tt
fails_read failure.TooDeep left r f = rw f refl
fails_read (failure.Syntax e) left r f = rw f refl
