use Rattle.std.proofs.Common.{String, Global, refl, string_bytes}
use Rattle.run_command.specs.declared.options.Style.TheVariants as styles
use Rattle.ecma_front.specs.Run.{in_style}
use Rattle.ecma_front.proofs.Answering.{formats_exactly}
use Rattle.ecma_front.proofs.texts.format.Goals as goal

pub returns-clause-exact : goal.returns-clause-exact
returns-clause-exact c = formats_exactly (λ (x : String Global). string_bytes x) (in_style styles.Format c.args.options) c.args.text.now c.written.result refl c.written.ensures.settings.0 c.written.ensures.answer
