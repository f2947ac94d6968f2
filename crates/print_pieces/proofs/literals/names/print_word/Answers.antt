use Rattle.print_pieces.proofs.Steps.{laid_as, as_named}
use Rattle.print_pieces.proofs.literals.Written.{word_bare}
use Rattle.print_pieces.proofs.literals.names.print_word.Goals as goal

pub returns-else-look : goal.returns-else-look
returns-else-look g c = laid_as (word_bare c.args.look c.args.span c.args.key c.args.word.now c.utf8.word c.if-look.false) (as_named c.name.ensures)
