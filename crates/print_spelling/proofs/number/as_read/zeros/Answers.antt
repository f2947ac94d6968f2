use Rattle.std.proofs.Common.{refl}
use Rattle.print_spelling.proofs.number.AsReadLemmas.{front_zeros}
use Rattle.print_spelling.proofs.number.as_read.zeros.Goals as goal

pub returns : goal.returns
returns c = front_zeros c.args.count c.split_at.result.0.now _ c.requires refl c.split_at.ensures.front
