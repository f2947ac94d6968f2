-- That a refusal depends on the bytes and the settings alone: the statement of the law.
use Rattle.std.specs.Prelude.{◌≡◌, ℕ, true, List}
use Rattle.std.specs.Str.{chars}
use Rattle.tree_spec.specs.Tree.{Tree}
use Rattle.run_command.specs.declared.options.Options.{Options}
use Rattle.ecma_front.specs.declared.fault.Fault.{Fault}
use Rattle.ecma_front.specs.declared.fault.Fault.TheVariants as f
use Rattle.ecma_front.specs.Faults.{is_refusal}
use Rattle.ecma_front.specs.Programs.{TreeReads}
use Rattle.ecma_front.specs.Formats.{IsRefused}
use Rattle.ecma_front.specs.Run.{FitsUnless}

-- The bytes are refused by this fault, as a run and its like promise of a fault that they answer.
pub record Refuses (o : Options) (bytes : List ℕ) (fault : Fault) : Type 0 where
  pub kind : is_refusal fault ≡ true
  pub tells : IsRefused o bytes fault
  pub fits : FitsUnless fault bytes

-- Two faults are one: of the same kind, with the same length of what is UTF-8, and the same error where a tree reads the text.
abbrev pub AreOne : Options → List ℕ → Fault → Fault → Type 0
AreOne o bytes (f.NotUtf8 m) (f.NotUtf8 n) = m ≡ n
AreOne o bytes f.TooLong f.TooLong = Unit {0}
AreOne o bytes (f.Syntax d) (f.Syntax e) = (t : Tree) → TreeReads o t (chars bytes) → d ≡ e
AreOne o bytes f.TooDeep f.TooDeep = Unit {0}
AreOne o bytes _ _ = ⊥

-- The same bytes are refused by one fault.
abbrev pub OneRefusal : Type 0
OneRefusal = (o : Options) (bytes : List ℕ) (d e : Fault) → Refuses o bytes d → Refuses o bytes e → AreOne o bytes d e
