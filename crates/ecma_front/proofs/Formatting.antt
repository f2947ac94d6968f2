-- What the steps from bytes to a program answer together.
use Rattle.std.proofs.Common.{◌≡◌, ℕ, Bool, true, List, Result, Ok, Err, IsUtf8, chars, refl, sym, ap, ◌∙◌, IfErr}
use Rattle.base_token.specs.Counts.{count_after}
use Rattle.base_token.specs.Dialect.{parts_of}
use Rattle.tree_spec.specs.Tree.{Tree}
use Rattle.run_command.specs.Options.{is_module}
use Rattle.run_command.specs.declared.options.Options.{Options}
use Rattle.ecma_front.specs.declared.fault.Fault.{Fault}
use Rattle.ecma_front.specs.declared.fault.Fault.TheVariants as f
use Rattle.ecma_front.specs.Faults.{is_text_fault, is_write_fault}
use Rattle.ecma_front.specs.Programs.{IsProgramOf}
use Rattle.print_writers.specs.States.{is_write}
use Rattle.print_writers.specs.declared.fault.EmitError.{EmitError}
use Rattle.print_writers.specs.declared.fault.EmitError.TheVariants as w
use Rattle.run_print.specs.Looks.{is_refused}
use Rattle.again_laws.proofs.Passed.{read_is_printed}
use Rattle.run_print.specs.Layouts.{laid_of, look_of}
use Rattle.ecma_front.specs.Formats.{IsRefused, LacksProgram, Reads}
use Rattle.ecma_front.specs.Steps.{fault_of, ReadsBytes}

-- a text without a program is refused
pub lacking_refused : (o : Options) (bytes : List ℕ) (fault : Fault) → IsUtf8 bytes → LacksProgram o (chars bytes) fault → IsRefused o bytes fault
lacking_refused o bytes (f.Syntax e) u h = (u, h)
lacking_refused o bytes f.TooDeep u h = (u, h)
lacking_refused o bytes f.Memory u h = tt
lacking_refused o bytes (f.Read k) u h = absurd h
lacking_refused o bytes (f.NotUtf8 n) u h = absurd h
lacking_refused o bytes f.TooLong u h = absurd h
lacking_refused o bytes (f.Write k) u h = absurd h
lacking_refused o bytes f.Position u h = absurd h
lacking_refused o bytes f.Node u h = absurd h
lacking_refused o bytes f.Options u h = absurd h

pub lacking_is_of_text : (o : Options) (text : List ℕ) (fault : Fault) → LacksProgram o text fault → is_text_fault fault ≡ true
lacking_is_of_text o text (f.Syntax e) h = refl
lacking_is_of_text o text f.TooDeep h = refl
lacking_is_of_text o text f.Memory h = refl
lacking_is_of_text o text (f.Read k) h = absurd h
lacking_is_of_text o text (f.NotUtf8 n) h = absurd h
lacking_is_of_text o text f.TooLong h = absurd h
lacking_is_of_text o text (f.Write k) h = absurd h
lacking_is_of_text o text f.Position h = absurd h
lacking_is_of_text o text f.Node h = absurd h
lacking_is_of_text o text f.Options h = absurd h

-- each part of a program has a text
pub can_be_printed : (o : Options) (text : List ℕ) (t : Tree) → IsProgramOf o text t → is_refused (laid_of o t) ≡ true → ⊥
unfolding laid_of
can_be_printed o text t p h = absurd (cc (h, read_is_printed (look_of o) (is_module o.goal) (parts_of o.syntax) t text p.0.reads))

-- what is read of the characters is read of the bytes
pub read_bytes : (o : Options) (bytes : List ℕ) (result : Result Tree Fault) → IsUtf8 bytes → Reads o (chars bytes) result → ReadsBytes o bytes result
read_bytes o bytes (Ok t) u h = (u, h)
read_bytes o bytes (Err fault) u h = lacking_refused o bytes fault u h

pub reading_kind : (o : Options) (text : List ℕ) (result : Result Tree Fault) → Reads o text result → IfErr result (λ fault. is_text_fault fault ≡ true)
reading_kind o text (Ok t) h = tt
reading_kind o text (Err fault) h = lacking_is_of_text o text fault h

-- a fault of the printer that is the writer's is told as the writer's
pub write_fault_of : (e : EmitError) → is_write_fault (fault_of e) ≡ is_write e
write_fault_of (w.Write k) = refl
write_fault_of w.Memory = refl
write_fault_of w.Node = refl
write_fault_of w.Position = refl

-- so it counts as one where it is told
pub told_counts : (count before : ℕ) (e : EmitError) (fault : Fault) → fault ≡ fault_of e → count ≡ count_after (is_write e) before → count ≡ count_after (is_write_fault fault) before
told_counts count before e fault told h = h ∙ ap (λ (b : Bool). count_after b before) (sym (write_fault_of e) ∙ ap is_write_fault (sym told))
