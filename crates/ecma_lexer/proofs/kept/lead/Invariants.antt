use Rattle.std.proofs.Common.{map, take}
use Rattle.lex_comments.specs.Comments.{IsSame, owned_comment}
use Rattle.lex_comments.specs.Store.{leading_at, trailing_at}
use Rattle.ecma_lexer.specs.Kept.{AreAdded}
use Rattle.ecma_lexer.proofs.kept.lead.Given as goal

-- the comments so far lead
abbrev pub invariant-loop-note : goal.invariant-loop-note
invariant-loop-note l = AreAdded (leading_at l.fn.comments) (leading_at l.comments) l.pos.0 (map owned_comment (take l.note-index l.notes))
    × IsSame (trailing_at l.fn.comments) (trailing_at l.comments)
