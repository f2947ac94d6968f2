-- What reading a text answers, and why there is nothing to write of it.
use Rattle.std.specs.Prelude.{ℕ, ◌<◌, List, length, Result, Ok, Err}
use Rattle.std.specs.Str.{chars, IsUtf8, IsValidUpTo}
use Rattle.tree_spec.specs.Tree.{Tree}
use Rattle.run_command.specs.declared.options.Options.{Options}
use Rattle.ecma_front.specs.declared.fault.Fault.{Fault}
use Rattle.ecma_front.specs.declared.fault.Fault.TheVariants as f
use Rattle.ecma_front.specs.Programs.{IsProgramOf, IsFaulty, IsTooDeep}

-- the longest text, in bytes
abbrev pub longest_text : ℕ
longest_text = 4_294_967_294

-- why a text has no program within the limit of nesting
abbrev pub LacksProgram : Options → List ℕ → Fault → Type 0
LacksProgram o text (f.Syntax e) = IsFaulty o text e
LacksProgram o text f.TooDeep = IsTooDeep o text
LacksProgram o text f.Memory = Unit {0}
LacksProgram o text _ = ⊥

-- What reading a text answers: its program, the only one; or why it has none within the limit. Of want of memory nothing is said.
abbrev pub Reads : Options → List ℕ → Result Tree Fault → Type 0
Reads o text (Ok t) = IsProgramOf o text t
Reads o text (Err fault) = LacksProgram o text fault

-- The program spells the bytes, which are UTF-8, within the limit of nesting, and no other reads them.
abbrev pub IsProgramIn : Options → List ℕ → Tree → Type 0
IsProgramIn o bytes t = IsUtf8 bytes × IsProgramOf o (chars bytes) t

-- why bytes are not printed again
abbrev pub IsRefused : Options → List ℕ → Fault → Type 0
IsRefused o bytes (f.NotUtf8 valid) = (IsUtf8 bytes → ⊥) × IsValidUpTo bytes valid
IsRefused o bytes f.TooLong = longest_text < length bytes
IsRefused o bytes (f.Syntax e) = IsUtf8 bytes × IsFaulty o (chars bytes) e
IsRefused o bytes f.TooDeep = IsUtf8 bytes × IsTooDeep o (chars bytes)
IsRefused o bytes f.Memory = Unit {0}
IsRefused o bytes (f.Read kind) = Unit {0}
IsRefused o bytes f.Options = Unit {0}
IsRefused o bytes (f.Write kind) = ⊥
IsRefused o bytes f.Position = ⊥
IsRefused o bytes f.Node = ⊥
