use Rattle.std.proofs.Common.{arith, ◌∙◌, ◌-◌, ◌≤◌, length, drop, length-take, length-drop, subst}
use Rattle.std.proofs.Math.Seq.{take-take}
use Rattle.std.specs.Io.KnownBytes.{Appends}
use Rattle.print_blocks.proofs.gather.Parts.{count_stays}
use Rattle.print_writers.proofs.Outputs.{gets_more, gets_part, gets_no_more}
use Rattle.print_writers.proofs.output.write_parts.Goals as goal

pub loop-written-preserved : goal.loop-written-preserved
loop-written-preserved g c =
    let bytes = c.args.bytes.now in
    let written = c.loop-written.written in
    let count = c.in-Ok.count in
    let bound : count ≤ length bytes - written = omega (arith, c.in-Ok.ensures.bound, length-take (length bytes - written) (drop written bytes), length-drop written bytes) in
    record {
      within = omega arith;
      sent = gets_more _ _ _ bytes written count c.loop-written.invariant.sent
          (subst (Appends _ _) (take-take count (length bytes - written) (drop written bytes) bound) c.in-Ok.ensures.bytes);
      counted = c.in-Ok.ensures.failures ∙ count_stays count _ _ c.in-Ok.count-test.1 ∙ c.loop-written.invariant.counted;
    }

pub returns-in-Ok-eq0-clause-beginning : goal.returns-in-Ok-eq0-clause-beginning
returns-in-Ok-eq0-clause-beginning g c = gets_no_more _ _ _ c.args.bytes.now _ c.loop-written.written c.in-Ok-eq0.field-0 c.loop-written.invariant.sent c.in-Ok-eq0.field-0-test c.in-Ok-eq0.ensures.bytes

pub returns-in-Err-clause-beginning : goal.returns-in-Err-clause-beginning
returns-in-Err-clause-beginning g c = gets_part _ _ _ c.args.bytes.now c.loop-written.written c.loop-written.invariant.sent c.in-Err.ensures.bytes
