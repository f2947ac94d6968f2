-- The two kinds of comments at a place.
use Rattle.std.specs.Prelude.{ℕ, List}
use Rattle.lex_comments.specs.declared.owned.Comment.{Comment}
use Rattle.lex_comments.specs.declared.store.Comments.{Comments}
use Rattle.lex_comments.specs.Comments.{comments_at}

-- those that lead what begins at the place
abbrev pub leading_at : Comments → ℕ → List Comment
leading_at c pos = comments_at c.leading pos

-- those that trail what ends at the place
abbrev pub trailing_at : Comments → ℕ → List Comment
trailing_at c pos = comments_at c.trailing pos
