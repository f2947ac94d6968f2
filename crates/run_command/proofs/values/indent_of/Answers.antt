-- A text that is none of the steps stands for nothing.
use Rattle.run_command.specs.Values.{steps, indent_of}
use Rattle.run_command.proofs.Names.{none_among}
use Rattle.run_command.proofs.values.indent_of.Goals as goal

pub returns-in_default : goal.returns-in_default
unfolding indent_of
returns-in_default c =
    none_among steps c.args.name.now
    (c.in_default.not-text, (c.in_default.not-text-2, (c.in_default.not-text-3, (c.in_default.not-text-4, (c.in_default.not-text-5, (c.in_default.not-text-6, (c.in_default.not-text-7, (c.in_default.not-text-8, (c.in_default.not-text-9, (c.in_default.not-tab, tt))))))))))
