use Rattle.print_pieces.proofs.Steps.{◌▸◌, laid_as}
use Rattle.print_pieces.proofs.literals.Written.{as_key, as_name}
use Rattle.print_pieces.proofs.literals.names.print_word_by_parts.Goals as goal

pub returns-then-key : goal.returns-then-key
returns-then-key g c = laid_as (as_key c.args.look c.args.span c.args.key c.args.word.now c.if-key.true) (c.commit.ensures ▸ (c.start.ensures ▸ c.print_key.ensures))

pub returns-else-key : goal.returns-else-key
returns-else-key g c = laid_as (as_name c.args.look c.args.span c.args.key c.args.word.now c.if-key.false) (c.commit.ensures ▸ (c.start.ensures ▸ c.print_name.ensures))
