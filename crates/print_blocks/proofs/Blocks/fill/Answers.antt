use Rattle.std.proofs.Common.{◌≡◌, ◌≤◌, ◌+◌, length, arith, ap}
use Rattle.print_blocks.proofs.Phases.{filled, handed_enough}
use Rattle.print_blocks.proofs.Blocks.fill.Goals as goal

pub returns-clause-bytes : goal.returns-clause-bytes
returns-clause-bytes g c =
    let wait = c.args.self.now.block.items in
    let block = c.extend.new.block.items in
    let kept = c.len-kept.result in
    let sent = c.send-sent.result.0 in
    let whole : sent ≤ kept → sent ≡ length c.as_slice.result.now = rw c.in_default.is at c.send-sent.ensures.whole in
    let size : length c.as_slice.result.now ≡ length block = ap length c.as_slice.ensures.value in
    let bound : sent ≤ length c.as_slice.result.now = c.send-sent.ensures.bound in
    let same : kept ≡ length wait = c.len-kept.ensures.value in
    let full : length c.as_slice.result.now ≡ kept + length c.args.bytes.now = omega (arith, size, same, c.extend.ensures.len) in
    let out : kept ≤ sent = handed_enough sent kept (length c.args.bytes.now) (length c.as_slice.result.now) whole full in
    let within : sent ≤ length block = omega (arith, bound, size) in
    filled _ _ c.args.self.now.at kept sent wait c.args.bytes.now block c.clear.new.self.items c.requires c.args.self.now.begun same c.extend.ensures.items out within c.clear.ensures
    (rw c.as_slice.ensures.value at c.send-sent.ensures.bytes)
