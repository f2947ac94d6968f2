-- The tokens of a text that a program spells, each with what stands before it, and what else may stand there.
use Rattle.std.specs.Prelude.{◌≡◌, ℕ, Bool, true, false, ◌&&◌, List, [], ◌∷◌, ◌++◌, Option, Some, None}
use Rattle.base_token.specs.Kinds.{end_kind, dot_kind, hash_kind, question_mark_kind, shebang_kind}
use Rattle.lex_pieces.specs.Classes.{is_line_char}
use Rattle.lex_pieces.specs.Runs.{Each, Ends}
use Rattle.lex_pieces.specs.Trivia.{NoHashbang}
use Rattle.lex_source.specs.Machine.{told}
use Rattle.lex_token.specs.declared.goal.LexicalGoal.{LexicalGoal}
use Rattle.lex_token.specs.declared.goal.LexicalGoal.TheVariants.{Div, RegExp, TemplateTail, TemplateEnd}
use Rattle.lex_step_laws.specs.States.{shebang, spot_at}
use Rattle.grammar_spec.specs.Tokens.Input.{PlacedToken, no_context, div_goal, regexp_goal, template_goal, template_end_goal}
use Rattle.grammar_text_spec.specs.Tiled.{whole}
use Rattle.print_weave_laws.specs.Gaps.{Trivium, breaks_line}
use Rattle.print_weave_laws.specs.Cells.{Cell, text_of, Stand, AllMayStand, at_front, woven}
use Rattle.again_laws.specs.Tokens.Ties.{is_tied}

-- ---- tokens in the places that they have in a text

-- a lexical goal by its number (clause 12)
abbrev pub goal_number : LexicalGoal → ℕ
goal_number Div = div_goal
goal_number RegExp = regexp_goal
goal_number TemplateTail = template_goal
goal_number TemplateEnd = template_end_goal

-- the token before what follows it, in a text that ends at a place
abbrev pub placed : ℕ → Cell → List ℕ → PlacedToken
placed end x rest = record { spot = spot_at end (breaks_line x.before) x.lexeme.token (x.own ++ rest) rest; escaped = x.lexeme.escaped; goal = goal_number x.goal; context = no_context }

abbrev pub all_placed : ℕ → List Cell → List Trivium → List PlacedToken
all_placed end [] tail = []
all_placed end (x ∷ xs) tail = placed end x (text_of xs tail) ∷ all_placed end xs tail

-- a hashbang before what follows it (12.5)
abbrev pub hash_placed : ℕ → List ℕ → List ℕ → PlacedToken
hash_placed end own after = record { spot = spot_at end false (shebang own).token (35 ∷ 33 ∷ (own ++ after)) after; escaped = false; goal = div_goal; context = no_context }

-- ---- a whole text

-- the text behind a hashbang, where there is one
abbrev pub led : Option (List ℕ) → List ℕ → List ℕ
led None cs = cs
led (Some own) cs = 35 ∷ 33 ∷ (own ++ cs)

-- it ends its line, and else none begins the text
abbrev pub IsLed : Option (List ℕ) → List ℕ → Type 0
IsLed None cs = NoHashbang cs
IsLed (Some own) cs = Each is_line_char own × Ends is_line_char cs

abbrev pub is_none : Option (List ℕ) → Bool
is_none None = true
is_none (Some own) = false

-- The text is these tokens, behind a hashbang where there is one, with what stands before each of them and behind the last.
pub record IsCelled (modules : Bool) (hash : Option (List ℕ)) (cells : List Cell) (tail : List Trivium) (text : List ℕ) : Type 0 where
  pub text_is : text ≡ led hash (text_of cells tail)
  pub is_led : IsLed hash (text_of cells tail)
  pub stand : Stand (whole modules) (is_none hash) cells tail

-- ---- where a line ends, and what touches

abbrev pub kind_of : Cell → ℕ
kind_of x = (told x.lexeme.token).kind

-- Between tokens where the grammar has no end of a line (12.10.1) a line ends as it did; what stands behind `#` stays (15.7), and what stands within `? .` (12.8).
pub record IsTied (free : Bool) (behind : ℕ) (x : Cell) (us : List Trivium) : Type 0 where
  pub line : free ≡ false → is_tied behind (kind_of x) ≡ true → breaks_line us ≡ breaks_line x.before
  pub touches : behind ≡ hash_kind → us ≡ x.before
  pub optional : behind ≡ question_mark_kind → kind_of x ≡ dot_kind → us ≡ x.before

-- So it is of each gap. `free`: before the first token a line may end.
abbrev pub TiesStay : Bool → ℕ → List Cell → List (List Trivium) → Type 0
TiesStay free behind [] gaps = Unit {0}
TiesStay free behind (x ∷ xs) [] = Unit {0}
TiesStay free behind (x ∷ xs) (us ∷ gaps) = IsTied free behind x us × TiesStay false (kind_of x) xs gaps

-- whether a line ends before the first token
abbrev pub breaks_first : List Cell → Bool
breaks_first [] = false
breaks_first (x ∷ xs) = breaks_line x.before

abbrev pub kind_before_all : Option (List ℕ) → ℕ
kind_before_all None = end_kind
kind_before_all (Some own) = shebang_kind

-- A line still ends behind a hashbang.
abbrev pub LineStays : Option (List ℕ) → List ℕ → Type 0
LineStays None cs = Unit {0}
LineStays (Some own) cs = Ends is_line_char cs

-- Other trivia may stand before the tokens, and behind the last.
pub record MayBeWoven (hash : Option (List ℕ)) (cells : List Cell) (gaps : List (List Trivium)) (tail over : List Trivium) : Type 0 where
  pub stand : AllMayStand at_front cells gaps tail over
  pub ties : TiesStay (is_none hash && breaks_first (woven cells gaps)) (kind_before_all hash) cells gaps
  pub line : LineStays hash (text_of (woven cells gaps) over)
