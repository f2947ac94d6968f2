-- The tokens of a text, each with what stands before it, and the same tokens with other trivia between them (ECMA-262, clause 12).
use Rattle.std.specs.Prelude.{◌≡◌, ℕ, Bool, true, false, not, ◌&&◌, ◌||◌, ◌==◌, ◌⊎◌, List, [], ◌∷◌, ◌++◌}
use Rattle.lex_pieces.specs.Characters.{is_among}
use Rattle.lex_pieces.specs.Trivia.{NoTrivia}
use Rattle.lex_pieces.specs.declared.trivia.Goal.{Goal}
use Rattle.lex_pieces.specs.declared.trivia.Goal.TheVariants.{Module}
use Rattle.lex_token.specs.declared.goal.LexicalGoal.{LexicalGoal}
use Rattle.lex_token.specs.declared.goal.LexicalGoal.TheVariants.{Div, RegExp, TemplateTail, TemplateEnd}
use Rattle.lex_token.specs.Lexemes.{SpecLexeme, IsLexeme}
use Rattle.print_weave_laws.specs.Gaps.{Trivium, White, Feed, Return, Block, Line, gap_before, breaks_line, AreTrivia}

-- a token by its own characters under a lexical goal, and what stands before it
pub record Cell : Type 0 where
  pub before : List Trivium
  pub own : List ℕ
  pub goal : LexicalGoal
  pub lexeme : SpecLexeme

-- the text of tokens, with what stands behind the last
abbrev pub text_of : List Cell → List Trivium → List ℕ
text_of [] tail = gap_before tail []
text_of (x ∷ xs) tail = gap_before x.before (x.own ++ text_of xs tail)

-- The goals of a template's characters and of what ends them, before which nothing stands (12.9.6).
abbrev pub is_inner : LexicalGoal → Bool
is_inner Div = false
is_inner RegExp = false
is_inner TemplateTail = true
is_inner TemplateEnd = true

-- ---- tokens that stand in a text

-- The token is read before the rest, and what stands before it is all the trivia that is there (12.2 to 12.4).
pub record IsCell (goal : Goal) (first : Bool) (x : Cell) (rest : List ℕ) : Type 0 where
  pub trivia : AreTrivia goal first false x.before
  pub tight : is_inner x.goal ≡ true → x.before ≡ []
  pub quiet : is_inner x.goal ≡ false → NoTrivia goal (first || breaks_line x.before) (x.own ++ rest)
  pub stands : IsLexeme x.goal (x.own ++ rest) x.lexeme rest

-- Behind the characters of a template stands what ends them (12.9.6).
abbrev pub Closes : Cell → List Cell → Type 0
Closes x [] = x.goal ≡ TemplateTail → ⊥
Closes x (y ∷ ys) = x.goal ≡ TemplateTail → y.goal ≡ TemplateEnd

-- Such tokens, one after another, up to the end of a text. `first`: it begins a line.
abbrev pub Stand : Goal → Bool → List Cell → List Trivium → Type 0
Stand goal first [] tail = AreTrivia goal first true tail
Stand goal first (x ∷ xs) tail = IsCell goal first x (text_of xs tail) × Closes x xs × Stand goal false xs tail

-- ---- other trivia

-- It begins with a blank or the end of a line.
abbrev pub begins_apart : List Trivium → Bool
begins_apart (White c ∷ us) = c == 32
begins_apart (Feed c ∷ us) = (c == 10) || (c == 13)
begins_apart (Return ∷ us) = true
begins_apart us = false

-- It begins with a comment.
abbrev pub begins_noted : List Trivium → Bool
begins_noted (Block own ∷ us) = true
begins_noted (Line mark own ∷ us) = true
begins_noted us = false

-- a text behind which a comment may begin: any but a slash
abbrev pub is_no_slash : List ℕ → Bool
is_no_slash [] = false
is_no_slash (c ∷ []) = not (c == 47)
is_no_slash (c ∷ d ∷ cs) = true

-- It may come directly behind a token of this text.
abbrev pub parts : List ℕ → List Trivium → Bool
parts behind us = begins_apart us || (begins_noted us && is_no_slash behind)

-- one of `( ) , ; [ ] { }`, which touch whatever stands beside them
abbrev pub is_lone : List ℕ → Bool
is_lone (c ∷ []) = is_among (40 ∷ 41 ∷ 44 ∷ 59 ∷ 91 ∷ 93 ∷ 123 ∷ 125 ∷ []) c
is_lone cs = false

-- No `-` begins the text, so `-->` doesn't.
abbrev pub is_no_dash : List ℕ → Bool
is_no_dash [] = true
is_no_dash (c ∷ cs) = not (c == 45)

-- This may be put between a token of this text and the next: nothing, where one of the two is lone; or trivia with no comment of the HTML form, behind a slash apart from it, and with the end of a
-- line where there was none before no `-` (B.1.1).
abbrev pub MayBePut : List ℕ → Cell → List Trivium → Type 0
MayBePut behind x us = ((us ≡ []) × ((is_lone behind || is_lone x.own) ≡ true))
    ⊎ (AreTrivia Module false false us × (parts behind us ≡ true) × ((breaks_line us ≡ breaks_line x.before) ⊎ (is_no_dash x.own ≡ true)))

-- This may stand before a token: what does; or, but within a template and so behind the `}` of one, what may be put there.
abbrev pub MayStand : List ℕ → Cell → List Trivium → Type 0
MayStand behind x us = (us ≡ x.before) ⊎ ((is_inner x.goal ≡ false) × MayBePut behind x us)

-- And behind the last: what does, or nothing, or trivia.
abbrev pub MayEnd : List ℕ → List Trivium → List Trivium → Type 0
MayEnd behind tail us = (us ≡ tail) ⊎ ((us ≡ []) ⊎ (AreTrivia Module false true us × (parts behind us ≡ true)))

-- So may each of the gaps before tokens, and what is over. Where none are given the gaps stay.
abbrev pub AllMayStand : List ℕ → List Cell → List (List Trivium) → List Trivium → List Trivium → Type 0
AllMayStand behind [] gaps tail over = MayEnd behind tail over
AllMayStand behind (x ∷ xs) [] tail over = AllMayStand x.own xs [] tail over
AllMayStand behind (x ∷ xs) (us ∷ gaps) tail over = MayStand behind x us × AllMayStand x.own xs gaps tail over

-- what stands before a text: as a blank nothing that runs into it
abbrev pub at_front : List ℕ
at_front = 32 ∷ []

-- the token with another gap
abbrev pub with_gap : Cell → List Trivium → Cell
with_gap x us = record { before = us; own = x.own; goal = x.goal; lexeme = x.lexeme }

-- the tokens with these gaps
abbrev pub woven : List Cell → List (List Trivium) → List Cell
woven [] gaps = []
woven (x ∷ xs) [] = x ∷ woven xs []
woven (x ∷ xs) (us ∷ gaps) = with_gap x us ∷ woven xs gaps
