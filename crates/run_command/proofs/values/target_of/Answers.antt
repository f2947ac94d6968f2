-- A text that is none of the names stands for nothing.
use Rattle.run_command.specs.Values.{editions, target_of}
use Rattle.run_command.proofs.Names.{none_among}
use Rattle.run_command.proofs.values.target_of.Goals as goal

pub returns-in_default : goal.returns-in_default
unfolding target_of
returns-in_default c =
    none_among editions c.args.name.now
    (c.in_default.not-es2015, (c.in_default.not-es2016, (c.in_default.not-es2017, (c.in_default.not-es2018, (c.in_default.not-es2019, (c.in_default.not-es2020, (c.in_default.not-es2021, (c.in_default.not-es2022, (c.in_default.not-esnext, tt)))))))))
