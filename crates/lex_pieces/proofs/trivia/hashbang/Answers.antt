use Rattle.std.proofs.Common.{ap, ◌∙◌, List, ℕ, ◌∷◌}
use Rattle.std.specs.Str.{chars}
use Rattle.lex_pieces.specs.Classes.{is_line_char}
use Rattle.lex_pieces.proofs.TriviaLemmas.{run_is}
use Rattle.lex_pieces.proofs.trivia.hashbang.Goals as goal

pub returns-clause-hashbang : goal.returns-clause-hashbang
returns-clause-hashbang c =
    let inner = chars c.in_ok-inner.inner.now in
    let text = c.in_ok-strip.ensures.cut ∙ ap (λ (l : List ℕ). 35 ∷ l) c.in_ok-inner.ensures.cut in
    (inner, text, run_is is_line_char inner _ _ c.split_line.ensures.run c.split_line.ensures.after)
