-- What may follow a text, and what a text begins with (ECMA-262, clause 12).
use Rattle.std.specs.Prelude.{◌≡◌, ◌≢◌, ℕ, Bool, true, false, ◌||◌, ◌==◌, not, List, [], ◌∷◌, ◌++◌}
use Rattle.lex_pieces.specs.Characters.{is_among, is_white_space, is_line_terminator}
use Rattle.lex_pieces.specs.Names.{is_continuing}
use Rattle.lex_pieces.specs.Runs.{Ends}
use Rattle.lex_literal.specs.declared.template.Ending.{Ending}
use Rattle.lex_literal.specs.Escapes.{begins, is_decimal}
use Rattle.lex_literal.specs.Numbers.{is_barred}
use Rattle.lex_literal.specs.Standing.{is_point}
use Rattle.lex_literal.specs.Templates as templates
use Rattle.lex_token.specs.declared.goal.LexicalGoal.{LexicalGoal}
use Rattle.lex_token.specs.declared.goal.LexicalGoal.TheVariants.{TemplateTail, TemplateEnd}
use Rattle.again_laws.specs.Tiling.Categories.{State, Fresh, Clear, Shut, Worded, Numbered, Pointed, Plused, Minused, Slashed, Lessed, LessBanged, Dotted, Operated, Decred, Hashed, Quasied, Category, Word, Number, Big, Member, Str, Regex, Plus, Incr, Minus, Decr, Bang, Slash, Less, Dot, Dots, Operator, Arrow, Hash, Closed, Quasi, End}

-- what goes on with a word or a number (12.7, 12.9.3)
abbrev pub is_wordy : ℕ → Bool
is_wordy c = is_continuing c || is_barred c

-- what some operator goes on with
abbrev pub is_joining : ℕ → Bool
is_joining c = is_among (61 ∷ 62 ∷ 38 ∷ 124 ∷ 63 ∷ 42 ∷ 60 ∷ []) c

-- what a point goes on with
abbrev pub is_dotty : ℕ → Bool
is_dotty c = is_point c || is_decimal c

-- ---- what may follow

-- These characters may follow where this stands last.
abbrev pub Follows : State → List ℕ → Type 0
Follows Fresh cs = Unit {0}
Follows Clear cs = Unit {0}
Follows Shut cs = Unit {0}
Follows Worded cs = Ends is_wordy cs
Follows Numbered cs = Ends is_wordy cs × Ends is_point cs
Follows Pointed cs = begins is_point cs ≡ true
Follows Plused cs = Ends (is_among (43 ∷ 61 ∷ [])) cs
Follows Minused cs = Ends (is_among (45 ∷ 61 ∷ [])) cs
Follows Slashed cs = Ends (is_among (47 ∷ 42 ∷ 61 ∷ [])) cs
Follows Lessed cs = Ends (is_among (60 ∷ 61 ∷ [])) cs × ((inner : List ℕ) → cs ≢ 33 ∷ 45 ∷ 45 ∷ inner)
Follows LessBanged cs = Ends (is_among (61 ∷ [])) cs × ((inner : List ℕ) → cs ≢ 45 ∷ 45 ∷ inner)
Follows Dotted cs = Ends is_dotty cs
Follows Operated cs = Ends is_joining cs
Follows Decred cs = Ends (is_among (62 ∷ [])) cs
Follows Hashed cs = Ends (is_among (33 ∷ [])) cs
Follows Quasied cs = (e : Ending) × (r : List ℕ) × templates.Ends e cs r

-- These characters may follow a text of this category, for it to be read as the token that it is alone.
abbrev pub Needs : Category → List ℕ → Type 0
Needs Word cs = Ends is_wordy cs
Needs Number cs = Ends is_wordy cs × Ends is_point cs
Needs Big cs = Ends is_wordy cs
Needs Member cs = begins is_point cs ≡ true
Needs Str cs = Unit {0}
Needs Regex cs = Ends is_wordy cs
Needs Plus cs = Ends (is_among (43 ∷ 61 ∷ [])) cs
Needs Incr cs = Unit {0}
Needs Minus cs = Ends (is_among (45 ∷ 61 ∷ [])) cs
Needs Decr cs = Unit {0}
Needs Bang cs = Ends (is_among (61 ∷ [])) cs
Needs Slash cs = Ends (is_among (47 ∷ 42 ∷ 61 ∷ [])) cs
Needs Less cs = Ends (is_among (60 ∷ 61 ∷ [])) cs × ((inner : List ℕ) → cs ≢ 33 ∷ 45 ∷ 45 ∷ inner)
Needs Dot cs = Ends is_dotty cs
Needs Dots cs = Unit {0}
Needs Operator cs = Ends is_joining cs
Needs Arrow cs = Unit {0}
Needs Hash cs = Unit {0}
Needs Closed cs = Unit {0}
Needs Quasi cs = (e : Ending) × (r : List ℕ) × templates.Ends e cs r
Needs End cs = Unit {0}

-- ---- what a category begins with

-- No operator goes on with it; a word, a number and a point may.
abbrev pub is_safe : ℕ → Bool
is_safe c = not (is_among (33 ∷ 35 ∷ 38 ∷ 42 ∷ 43 ∷ 45 ∷ 47 ∷ 60 ∷ 61 ∷ 62 ∷ 63 ∷ 124 ∷ []) c)

-- The first character passes one test and fails two.
pub record Starts (p q r : ℕ → Bool) (cs : List ℕ) : Type 0 where
  pub first : ℕ
  pub others : List ℕ
  pub whole : cs ≡ first ∷ others
  pub one : p first ≡ true
  pub two : q first ≡ false
  pub three : r first ≡ false

-- no character, and any but `#`
abbrev pub never : ℕ → Bool
never c = false

abbrev pub not_hash : ℕ → Bool
not_hash c = not (c == 35)

-- A text of this category begins so.
abbrev pub Front : Category → List ℕ → Type 0
Front Word cs = Starts is_safe is_dotty never cs
Front Number cs = Starts is_safe never never cs
Front Big cs = Starts is_safe never never cs
Front Member cs = Starts is_safe never never cs
Front Str cs = Starts is_safe is_dotty is_wordy cs
Front Regex cs = (ds : List ℕ) × (cs ≡ 47 ∷ ds)
Front Plus cs = cs ≡ 43 ∷ []
Front Incr cs = cs ≡ 43 ∷ 43 ∷ []
Front Minus cs = cs ≡ 45 ∷ []
Front Decr cs = cs ≡ 45 ∷ 45 ∷ []
Front Bang cs = cs ≡ 33 ∷ []
Front Slash cs = cs ≡ 47 ∷ []
Front Less cs = cs ≡ 60 ∷ []
Front Dot cs = cs ≡ 46 ∷ []
Front Dots cs = cs ≡ 46 ∷ 46 ∷ 46 ∷ []
Front Operator cs = Starts not_hash is_dotty is_wordy cs
Front Arrow cs = Starts not_hash is_dotty is_wordy cs
Front Hash cs = cs ≡ 35 ∷ []
Front Closed cs = Starts is_safe is_dotty is_wordy cs
Front Quasi cs = Unit {0}
Front End cs = (e : Ending) × ((rest : List ℕ) → templates.Ends e (cs ++ rest) rest)

-- ---- what begins with no trivia (12.2 to 12.4, B.1.1)

-- No trivia begins the text but for `-->`.
pub record Quiet (text : List ℕ) : Type 0 where
  pub white : Ends is_white_space text
  pub line : Ends is_line_terminator text
  pub slashes : (inner : List ℕ) → text ≢ 47 ∷ 47 ∷ inner
  pub block : (inner : List ℕ) → text ≢ 47 ∷ 42 ∷ inner
  pub html : (inner : List ℕ) → text ≢ 60 ∷ 33 ∷ 45 ∷ 45 ∷ inner

-- Only `--` begins `-->`.
abbrev pub Arrowless : Category → List ℕ → Type 0
Arrowless Decr text = Unit {0}
Arrowless k text = (inner : List ℕ) → text ≢ 45 ∷ 45 ∷ 62 ∷ inner

-- trivia is asked of where it may stand
abbrev pub QuietUnder : LexicalGoal → Category → List ℕ → Type 0
QuietUnder TemplateTail k text = Unit {0}
QuietUnder TemplateEnd k text = Unit {0}
QuietUnder _ k text = Quiet text × Arrowless k text
