-- The cut falls behind the first line.
use Rattle.run_text.proofs.LineLemmas.{line_cut}
use Rattle.run_text.proofs.cutting.first_line.Goals as goal

pub returns-clause-read : goal.returns-clause-read
returns-clause-read c =
    line_cut c.args.text.now c.split_at.result.0.now c.split_at.result.1.now c.first_length.result c.first_length.ensures
    c.split_at.ensures.front_len c.split_at.ensures.by_index.0
