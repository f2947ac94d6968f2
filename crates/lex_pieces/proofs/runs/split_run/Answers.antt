use Rattle.std.proofs.Common.{◌∙◌, ap}
use Rattle.std.specs.Str.{chars}
use Rattle.lex_pieces.specs.Classes.{member}
use Rattle.lex_pieces.proofs.TriviaLemmas.{run_seam}
use Rattle.lex_pieces.proofs.runs.split_run.Goals as goal

pub split_at-requires : goal.split_at-requires
split_at-requires c = (run_seam (member c.args.class) c.args.text.now c.after_run-rest.result.now c.utf8.text c.after_run-rest.ensures.rest.0 c.after_run-rest.ensures.after).boundary

pub returns-clause-run : goal.returns-clause-run
returns-clause-run c =
    ap chars c.split_at.ensures.front
    ∙ (run_seam (member c.args.class) c.args.text.now c.after_run-rest.result.now c.utf8.text c.after_run-rest.ensures.rest.0 c.after_run-rest.ensures.after).before

pub returns-clause-after : goal.returns-clause-after
returns-clause-after c =
    ap chars c.split_at.ensures.back
    ∙ ap chars (run_seam (member c.args.class) c.args.text.now c.after_run-rest.result.now c.utf8.text c.after_run-rest.ensures.rest.0 c.after_run-rest.ensures.after).behind
    ∙ c.after_run-rest.ensures.after
