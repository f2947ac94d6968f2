-- What stands before the first token, and before a token that is read anew.
use Rattle.std.proofs.Common.{None, ℕ, ◌≡◌, refl, true≢false, sym, ◌∙◌, List, true}
use Rattle.lex_pieces.specs.Trivia.{NoHashbang}
use Rattle.parse_lexer_laws.proofs.Regions.{past_start}
use Rattle.lex_step_laws.specs.States.{again_by, Slash, Characters, Fault, Start, Other, Last, last_after, is_start}

pub no_again : (end : ℕ) (l : Last) → again_by l None end ≡ None
no_again end Start = refl
no_again end (Slash from) = refl
no_again end Characters = refl
no_again end Fault = refl
no_again end Other = refl

pub no_start : (k : ℕ) (from text : List ℕ) → is_start (last_after k from) ≡ true → NoHashbang text
no_start k from text e = absurd (true≢false (sym e ∙ past_start k from))
