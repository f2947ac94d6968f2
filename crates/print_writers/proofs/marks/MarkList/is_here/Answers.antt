use Rattle.std.proofs.Common.{sym, arith}
use Rattle.print_writers.proofs.Marked.{is_new}
use Rattle.print_writers.proofs.marks.MarkList.is_here.Goals as goal

pub returns-then-pos-self-clause-value : goal.returns-then-pos-self-clause-value
returns-then-pos-self-clause-value c = λ k. sym (is_new c.args.pos c.args.self.now.highest _ k.1 (omega (arith, c.if-pos-self.true)))
