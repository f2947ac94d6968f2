use Rattle.ecma_front.proofs.Formatting.{read_bytes, reading_kind}
use Rattle.ecma_front.proofs.reading.program_in.Goals as goal

pub returns-clause-answer : goal.returns-clause-answer
returns-clause-answer c =
    let text = c.in-Ok.ensures.cases in
    read_bytes c.args.options c.args.bytes.now c.program.result text.1 (rw text.0 at c.program.ensures)

pub returns-clause-kinds : goal.returns-clause-kinds
returns-clause-kinds c = reading_kind c.args.options _ c.program.result c.program.ensures
