-- What stands behind a piece of a text is a later part of it.
use Rattle.std.proofs.Common.{◌≡◌, ℕ, ◌≤◌, ◌⊎◌, inl, inr, Bool, false, true, List, [], ◌∷◌, ◌++◌, length, length-append, append_assoc, refl, sym, ap, ◌∙◌, arith}
use Rattle.std.proofs.Math.Utf8.{encodes}
use Rattle.std.proofs.lemmas.Str.{encodes-append}
use Rattle.lex_pieces.specs.Escapes.{IsDigits, IsEscape}
use Rattle.lex_pieces.specs.Names.{IsNameChar, Spell}
use Rattle.lex_pieces.specs.Places.{bytes}
use Rattle.lex_pieces.specs.Trivia.{Piece, WhiteSpace, LineTerminator, LineComment, BlockComment, Follow, IsHashbang, IsPiece, breaks, spelled}
use Rattle.lex_pieces.specs.declared.trivia.Goal.{Goal}
use Rattle.lex_literal.specs.declared.template.Ending.{Ending}
use Rattle.lex_literal.specs.declared.template.Ending.TheVariants.{BackQuote, Substitution}
use Rattle.lex_literal.specs.Templates.{Ends}
use Rattle.lex_token.specs.declared.goal.LexicalGoal.{LexicalGoal}
use Rattle.lex_token.specs.declared.goal.LexicalGoal.TheVariants.{Div, RegExp, TemplateTail, TemplateEnd}
use Rattle.lex_token.specs.Lexemes.{SpecLexeme, IsCharacters, IsLexeme, IsOutside}
use Rattle.lex_token.proofs.LexemeLemmas.{same_ending}
use Rattle.lex_step_laws.specs.States.{place}
use Rattle.std.specs.Prelude.{◌||◌}

-- The second is what is left of the first behind some characters.
abbrev pub Behind : List ℕ → List ℕ → Type 0
Behind text rest = (own : List ℕ) × (text ≡ own ++ rest)

pub here : (text rest : List ℕ) → text ≡ rest → Behind text rest
here text rest e = ([], e)

pub further : (a b c : List ℕ) → Behind a b → Behind b c → Behind a c
further a b c h g = (h.0 ++ g.0, h.1 ∙ ap (λ (t : List ℕ). h.0 ++ t) g.1 ∙ sym (append_assoc h.0 g.0 c))

pub nothing_behind : (text : List ℕ) → Behind text []
nothing_behind [] = ([], refl)
nothing_behind (c ∷ cs) = let g = nothing_behind cs in (c ∷ g.0, ap (λ (t : List ℕ). c ∷ t) g.1)

-- A later part begins at a later place.
pub place_rises : (end : ℕ) (text rest : List ℕ) → Behind text rest → place end text ≤ place end rest
place_rises end text rest h =
    let e = ap bytes h.1 in
    let a = ap length (encodes-append h.0 rest) in
    let b = length-append (encodes h.0) (encodes rest) in
    let k : bytes rest ≤ bytes text = omega (arith, e, a, b) in
    omega (arith, k)

-- ---- trivia

piece_behind : (goal : Goal) (first : Bool) (text : List ℕ) (p : Piece) (rest : List ℕ) → IsPiece goal first text p rest → Behind text rest
piece_behind goal first text WhiteSpace rest h = (h.0, h.2.0)
piece_behind goal first text LineTerminator rest (inl h) = (0xD ∷ 0xA ∷ [], h)
piece_behind goal first text LineTerminator rest (inr h) = (h.0 ∷ [], h.1)
piece_behind goal first text (LineComment mark own) rest h = further text h.1.0 rest (spelled mark, h.1.1) (own, h.1.2.0)
piece_behind goal first text (BlockComment own) rest h =
    further text h.0 rest (47 ∷ 42 ∷ [], h.1) (further h.0 (42 ∷ 47 ∷ rest) rest (own, h.2.0) (42 ∷ 47 ∷ [], refl))

pub follow_behind : (goal : Goal) (first : Bool) (text : List ℕ) (ps : List Piece) (rest : List ℕ) → Follow goal first text ps rest → Behind text rest
follow_behind goal first text [] rest h = here text rest h
follow_behind goal first text (p ∷ ps) rest h =
    further text h.0 rest (piece_behind goal first text p h.0 h.1) (follow_behind goal (first || breaks p) h.0 ps rest h.2)

pub hashbang_behind : (text own rest : List ℕ) → IsHashbang text own rest → Behind text rest
hashbang_behind text own rest h = further text h.0 rest (35 ∷ 33 ∷ [], h.1) (own, h.2.0)

-- ---- words

digits_behind : (text : List ℕ) (v : ℕ) (rest : List ℕ) → IsDigits text v rest → Behind text rest
digits_behind text v rest (inl h) = (h.0 ∷ h.1 ∷ h.2 ∷ h.3 ∷ [], h.4)
digits_behind text v rest (inr h) =
    further text (h.0 ++ 125 ∷ rest) rest (123 ∷ [], h.1) (further (h.0 ++ 125 ∷ rest) (125 ∷ rest) rest (h.0, refl) (125 ∷ [], refl))

escape_behind : (text : List ℕ) (v : ℕ) (rest : List ℕ) → IsEscape text v rest → Behind text rest
escape_behind text v rest h = further text h.0 rest (92 ∷ 117 ∷ [], h.1) (digits_behind h.0 v rest h.2)

char_by : (text : List ℕ) (c : ℕ) (rest : List ℕ) (Scalar : Type 0) → (text ≡ c ∷ rest) ⊎ (Scalar × IsEscape text c rest) → Behind text rest
char_by text c rest Scalar (inl h) = (c ∷ [], h)
char_by text c rest Scalar (inr h) = escape_behind text c rest h.1

char_behind : (first : Bool) (text : List ℕ) (c : ℕ) (rest : List ℕ) → IsNameChar first text c rest → Behind text rest
char_behind first text c rest h = char_by text c rest _ h.1

spell_behind : (first : Bool) (text cs rest : List ℕ) → Spell first text cs rest → Behind text rest
spell_behind first text [] rest h = here text rest h
spell_behind first text (c ∷ cs) rest h = further text h.0 rest (char_behind first text c h.0 h.1) (spell_behind false h.0 cs rest h.2)

-- ---- tokens

outside_behind : (goal : LexicalGoal) (text : List ℕ) (x : SpecLexeme) (rest : List ℕ) → IsOutside goal text x rest → Behind text rest
outside_behind goal text x rest (inl (inl h)) = spell_behind true text h.0 rest h.2.1
outside_behind goal text x rest (inl (inr (inl h))) = (h.1, h.2.parts)
outside_behind goal text x rest (inl (inr (inr h))) = (h.1, h.4)
outside_behind goal text x rest (inr (inl h)) =
    let g = h.1.2.1 in
    further text (h.1.0 ++ 47 ∷ g.0) rest (47 ∷ [], g.1)
    (further (h.1.0 ++ 47 ∷ g.0) (47 ∷ g.0) rest (h.1.0, refl) (further (47 ∷ g.0) g.0 rest (47 ∷ [], refl) (h.1.1, g.2.0)))
outside_behind goal text x rest (inr (inr h)) = (h.1.1.1.0, h.1.1.1.2)

ending_behind : (ending : Ending) (text rest : List ℕ) → Ends ending text rest → Behind text rest
ending_behind BackQuote text rest h = (96 ∷ [], h)
ending_behind Substitution text rest h = (36 ∷ 123 ∷ [], h)

characters_behind : (text : List ℕ) (x : SpecLexeme) (rest : List ℕ) → IsCharacters text x rest → Behind text rest
characters_behind text x rest h =
    further text h.4.1 rest (h.0, h.4.4) (here h.4.1 rest (same_ending h.2 h.4.1 rest h.3 h.4.3 h.5))

pub lexeme_behind : (goal : LexicalGoal) (text : List ℕ) (x : SpecLexeme) (rest : List ℕ) → IsLexeme goal text x rest → Behind text rest
lexeme_behind Div text x rest h = outside_behind Div text x rest h
lexeme_behind RegExp text x rest h = outside_behind RegExp text x rest h
lexeme_behind TemplateTail text x rest h = characters_behind text x rest h
lexeme_behind TemplateEnd text x rest h = ending_behind h.0 text rest h.1
