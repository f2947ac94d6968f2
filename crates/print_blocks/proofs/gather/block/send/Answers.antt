use Rattle.std.proofs.Common.{arith, ◌∙◌, ◌-◌, ◌≤◌, length, drop, length-take, length-drop, subst}
use Rattle.std.proofs.Math.Seq.{take-take}
use Rattle.std.specs.Io.KnownBytes.{Appends}
use Rattle.print_blocks.proofs.gather.Parts.{more_written, count_stays}
use Rattle.print_blocks.proofs.gather.block.send.Goals as goal

pub parts-preserved : goal.parts-preserved
parts-preserved g c =
    let block = c.args.block.now in
    let sent = c.parts.sent in
    let count = c.in-Ok.count in
    let bound : count ≤ length block - sent = omega (arith, c.in-Ok.ensures.bound, length-take (length block - sent) (drop sent block), length-drop sent block) in
    record {
      within = omega arith;
      out = more_written _ _ _ block sent count c.parts.invariant.out
          (subst (Appends _ _) (take-take count (length block - sent) (drop sent block) bound) c.in-Ok.ensures.bytes);
      counted = c.in-Ok.ensures.failures ∙ count_stays count _ _ c.in-Ok.count-test.1 ∙ c.parts.invariant.counted;
    }
