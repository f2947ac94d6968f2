use Rattle.print_writers.proofs.Omits.{brace_drops}
use Rattle.print_writers.proofs.omit.OmitTrailingSemi.write_brace.Goals as goal

pub returns-clause-value : goal.returns-clause-value
returns-clause-value g c = brace_drops g.W.WriteJs.tells g.W.WriteJs.state c.args.span c.args.s.now c.args.self.now c.write_punct.new.self c.write_punct.result c.requires c.write_punct.ensures.value
