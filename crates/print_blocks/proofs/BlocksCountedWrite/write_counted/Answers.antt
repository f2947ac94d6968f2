use Rattle.std.proofs.Common.{arith}
use Rattle.print_blocks.proofs.Phases.{waits_more}
use Rattle.print_blocks.proofs.BlocksCountedWrite.write_counted.Goals as goal

pub returns-then-bytes-room-clause-bytes : goal.returns-then-bytes-room-clause-bytes
returns-then-bytes-room-clause-bytes g c =
    let begun = c.args.self.now.begun in
    waits_more _ c.args.self.now.at c.args.self.now.block.items c.extend.new.block.items c.args.bytes.now (omega arith) c.extend.ensures.items
