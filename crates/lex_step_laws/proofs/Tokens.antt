-- Whether a token stands at a front under a goal.
use Rattle.std.proofs.Common.{◌≡◌, ◌≢◌, ℕ, ◌<◌, ◌≤◌, ◌⊎◌, inl, inr, Bool, true, false, ◌&&◌, List, length, refl, sym, arith}
use Rattle.std.proofs.lemmas.Bool.{false≢true}
use Rattle.lex_literal.specs.Escapes.{begins}
use Rattle.lex_token.specs.declared.goal.LexicalGoal.{LexicalGoal}
use Rattle.lex_token.specs.declared.goal.LexicalGoal.TheVariants.{Div, RegExp, TemplateTail, TemplateEnd}
use Rattle.lex_token.specs.Lexemes.{SpecLexeme, IsLexeme, IsMark, IsNumber, IsOrdinary, IsOutside, IsPattern, IsQuoted, IsWord}
use Rattle.lex_token.specs.Sorts.{is_slash, opens_regexp}
use Rattle.lex_step_laws.proofs.Deciding.{None, Decided}
use Rattle.lex_step_laws.proofs.Words.{word_or_not, word_shorter}
use Rattle.lex_step_laws.proofs.Numbers.{number_or_not, number_shorter}
use Rattle.lex_step_laws.proofs.Strings.{string_or_not, string_shorter}
use Rattle.lex_step_laws.proofs.Templates.{characters_or_not, characters_no_longer, end_or_not, end_shorter}
use Rattle.lex_step_laws.proofs.Marks.{mark_or_not, mark_shorter, pattern_or_not, pattern_shorter}

abbrev Kind : Type 1
Kind = List ℕ → SpecLexeme → List ℕ → Type 0

-- one of two kinds
abbrev Either : Kind → Kind → Kind
Either P Q text x rest = P text x rest ⊎ Q text x rest

either : (P Q : Kind) (text : List ℕ) → Decided P text → Decided Q text → Decided (Either P Q) text
either P Q text (inl h) d = inl (h.0, h.1, inl h.2)
either P Q text (inr n) (inl h) = inl (h.0, h.1, inr h.2)
either P Q text (inr n) (inr m) = inr none
  where
    none : None (Either P Q) text
    none x rest (inl h) = n x rest h
    none x rest (inr h) = m x rest h

-- a kind under a condition
abbrev When : Bool → Bool → Kind → Kind
When a b P text x rest = (a ≡ b) × P text x rest

when_true : (a : Bool) (P : Kind) (text : List ℕ) → Decided P text → Decided (When a true P) text
when_true true P text (inl h) = inl (h.0, h.1, (refl, h.2))
when_true true P text (inr n) = inr (λ x rest h. n x rest h.1)
when_true false P text d = inr (λ x rest h. false≢true h.0)

when_false : (a : Bool) (P : Kind) (text : List ℕ) → Decided P text → Decided (When a false P) text
when_false true P text d = inr (λ x rest h. false≢true (sym h.0))
when_false false P text (inl h) = inl (h.0, h.1, (refl, h.2))
when_false false P text (inr n) = inr (λ x rest h. n x rest h.1)

outside_or_not : (goal : LexicalGoal) (text : List ℕ) → Decided (IsOutside goal) text
outside_or_not goal text =
    let opens = opens_regexp goal in
    let bars = opens_regexp goal && begins is_slash text in
    either IsOrdinary (Either (When opens true IsPattern) (When bars false IsMark)) text
    (either IsWord (Either IsNumber IsQuoted) text (word_or_not text) (either IsNumber IsQuoted text (number_or_not text) (string_or_not text)))
    (either (When opens true IsPattern) (When bars false IsMark) text (when_true opens IsPattern text (pattern_or_not text)) (when_false bars IsMark text (mark_or_not text)))

-- A token stands at a front, or none does.
pub token_or_not : (goal : LexicalGoal) (text : List ℕ) → Decided (IsLexeme goal) text
token_or_not Div text = outside_or_not Div text
token_or_not RegExp text = outside_or_not RegExp text
token_or_not TemplateTail text = characters_or_not text
token_or_not TemplateEnd text = end_or_not text

-- ---- how much a token takes

outside_shorter : (goal : LexicalGoal) (text : List ℕ) (x : SpecLexeme) (rest : List ℕ) → IsOutside goal text x rest → length rest < length text
outside_shorter goal text x rest (inl (inl h)) = word_shorter text x rest h
outside_shorter goal text x rest (inl (inr (inl h))) = number_shorter text x rest h
outside_shorter goal text x rest (inl (inr (inr h))) = string_shorter text x rest h
outside_shorter goal text x rest (inr (inl h)) = pattern_shorter text x rest h.1
outside_shorter goal text x rest (inr (inr h)) = mark_shorter text x rest h.1

-- characters, but for those of a template, of which there may be none
pub token_shorter : (goal : LexicalGoal) (text : List ℕ) (x : SpecLexeme) (rest : List ℕ) → goal ≢ TemplateTail → IsLexeme goal text x rest → length rest < length text
token_shorter Div text x rest n h = outside_shorter Div text x rest h
token_shorter RegExp text x rest n h = outside_shorter RegExp text x rest h
token_shorter TemplateTail text x rest n h = absurd (n refl)
token_shorter TemplateEnd text x rest n h = end_shorter text x rest h

pub token_no_longer : (goal : LexicalGoal) (text : List ℕ) (x : SpecLexeme) (rest : List ℕ) → IsLexeme goal text x rest → length rest ≤ length text
token_no_longer Div text x rest h = let k = outside_shorter Div text x rest h in omega (arith, k)
token_no_longer RegExp text x rest h = let k = outside_shorter RegExp text x rest h in omega (arith, k)
token_no_longer TemplateTail text x rest h = characters_no_longer text x rest h
token_no_longer TemplateEnd text x rest h = let k = end_shorter text x rest h in omega (arith, k)
