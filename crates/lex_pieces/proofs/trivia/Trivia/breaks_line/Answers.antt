use Rattle.std.proofs.Common.{not, sym, ap, ◌∙◌}
use Rattle.std.specs.Str.{chars}
use Rattle.lex_pieces.specs.Trivia.{breaks}
use Rattle.lex_pieces.specs.ReadingTrivia.{view}
use Rattle.lex_pieces.proofs.Following.{holds_terminator}
use Rattle.lex_pieces.proofs.trivia.Trivia.breaks_line.Goals as goal

pub returns-in-BlockComment : goal.returns-in-BlockComment
returns-in-BlockComment c =
    ap not c.is_empty.ensures ∙ holds_terminator _ (chars c.in-BlockComment.text.now) c.split_line.ensures.texts.1 c.split_line.ensures.after ∙ sym (ap (λ t. breaks (view t)) c.in-BlockComment.is)
