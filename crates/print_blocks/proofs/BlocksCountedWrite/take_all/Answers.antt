use Rattle.std.proofs.Common.{arith}
use Rattle.print_blocks.proofs.Phases.{waits_all}
use Rattle.print_blocks.proofs.BlocksCountedWrite.take_all.Goals as goal

pub returns-then-bytes-self-clause-bytes : goal.returns-then-bytes-self-clause-bytes
returns-then-bytes-self-clause-bytes g c =
    let begun = c.args.self.now.begun in
    waits_all _ c.args.self.now.at c.args.self.now.block.items c.extend.new.block.items c.args.bytes.now (omega arith) c.extend.ensures.items
