use Rattle.ecma_codegen.proofs.Following.{items_are_program}
use Rattle.ecma_codegen.proofs.emitter.items_are_program.Goals as goal

pub returns : goal.returns
returns c = items_are_program
