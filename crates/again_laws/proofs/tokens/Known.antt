-- The tokens that tile a text of scalar values are known: what is left behind each is such a text again.
use Rattle.std.proofs.Common.{◌≡◌, ℕ, ◌+◌, inl, inr, ⊎_elim, Bool, true, false, List, [], ◌∷◌, ◌++◌, refl, sym, ap, ◌∙◌}
use Rattle.std.proofs.lemmas.Bool.{and_parts, and_from}
use Rattle.std.specs.Prelude.{◌||◌, nat_le}
use Rattle.std.specs.Char.{IsScalar}
use lib.Utf8.{scalars, scalar}
use Rattle.base_token.specs.Tokens.{Spot}
use Rattle.lex_pieces.specs.Escapes.{IsEscape, IsDigits}
use Rattle.lex_pieces.specs.Names.{Spell, IsNameChar}
use Rattle.lex_pieces.specs.Places.{bytes}
use Rattle.lex_pieces.specs.Trivia.{Piece, WhiteSpace, LineTerminator, LineComment, BlockComment, IsPiece, IsLineBreak, Follow, spelled, breaks}
use Rattle.lex_pieces.specs.declared.trivia.Goal.{Goal}
use Rattle.lex_literal.specs.declared.template.Ending.{Ending}
use Rattle.lex_literal.specs.declared.template.Ending.TheVariants.{BackQuote, Substitution}
use Rattle.lex_literal.specs.Templates as templates
use Rattle.lex_token.specs.declared.goal.LexicalGoal.{LexicalGoal}
use Rattle.lex_token.specs.declared.goal.LexicalGoal.TheVariants.{Div, RegExp, TemplateTail, TemplateEnd}
use Rattle.lex_token.specs.Lexemes.{SpecLexeme, IsLexeme, IsOutside}
use Rattle.lex_token.proofs.LexemeLemmas.{same_ending}
use Rattle.grammar_spec.specs.Tokens.Input.{PlacedToken, template_goal}
use Rattle.grammar_text_spec.specs.Tiled.{goal_at, whole, IsBeforeBy, AreTiles, AfterHashbang}
use Rattle.again_laws.specs.Tokens.Means.{Known}
use Rattle.again_laws.specs.Tokens.Laws.{TokensAreKnown}

-- ---- what stands behind a part of a text

pub scalars_behind : (xs ys : List ℕ) → scalars (xs ++ ys) ≡ true → scalars ys ≡ true
scalars_behind [] ys e = e
scalars_behind (x ∷ xs) ys e = scalars_behind xs ys (and_parts (scalar x) (scalars (xs ++ ys)) e).1

pub scalars_front : (xs ys : List ℕ) → scalars (xs ++ ys) ≡ true → scalars xs ≡ true
scalars_front [] ys e = refl
scalars_front (x ∷ xs) ys e = let p = and_parts (scalar x) (scalars (xs ++ ys)) e in and_from (scalar x) (scalars xs) p.0 (scalars_front xs ys p.1)

digits_behind : (d : List ℕ) (v : ℕ) (rest : List ℕ) → IsDigits d v rest → scalars d ≡ true → scalars rest ≡ true
digits_behind d v rest (inl h) s = scalars_behind (h.0 ∷ h.1 ∷ h.2 ∷ h.3 ∷ []) rest (sym (ap scalars h.4) ∙ s)
digits_behind d v rest (inr h) s = (and_parts (scalar 125) (scalars rest) (scalars_behind (123 ∷ h.0) (125 ∷ rest) (sym (ap scalars h.1) ∙ s))).1

pub name_char : (first : Bool) (from : List ℕ) (c : ℕ) (next : List ℕ) → scalars from ≡ true → IsNameChar first from c next → IsScalar c × (scalars next ≡ true)
name_char first from c next s h = ⊎_elim
    (λ (e : from ≡ c ∷ next). let p = and_parts (scalar c) (scalars next) (sym (ap scalars e) ∙ s) in (p.0, p.1))
    (λ (e : IsScalar c × IsEscape from c next). (e.0, digits_behind e.1.0 c next e.1.2 (scalars_behind (92 ∷ 117 ∷ []) e.1.0 (sym (ap scalars e.1.1) ∙ s))))
    h.1

pub left : (xs ys text : List ℕ) → text ≡ xs ++ ys → scalars text ≡ true → scalars ys ≡ true
left xs ys text e s = scalars_behind xs ys (sym (ap scalars e) ∙ s)

-- ---- trivia and tokens

break_left : (text rest : List ℕ) → IsLineBreak text rest → scalars text ≡ true → scalars rest ≡ true
break_left text rest (inl e) s = left (13 ∷ 10 ∷ []) rest text e s
break_left text rest (inr h) s = left (h.0 ∷ []) rest text h.1 s

piece_left : (goal : Goal) (first : Bool) (text : List ℕ) (p : Piece) (rest : List ℕ) → IsPiece goal first text p rest → scalars text ≡ true → scalars rest ≡ true
piece_left goal first text WhiteSpace rest h s = left h.0 rest text h.2.0 s
piece_left goal first text LineTerminator rest h s = break_left text rest h s
piece_left goal first text (LineComment mark own) rest h s = left own rest h.1.0 h.1.2.0 (left (spelled mark) h.1.0 text h.1.1 s)
piece_left goal first text (BlockComment own) rest h s = left (42 ∷ 47 ∷ []) rest (42 ∷ 47 ∷ rest) refl (left own (42 ∷ 47 ∷ rest) h.0 h.2.0 (left (47 ∷ 42 ∷ []) h.0 text h.1 s))

follow_left : (goal : Goal) (first : Bool) (text : List ℕ) (ps : List Piece) (rest : List ℕ) → Follow goal first text ps rest → scalars text ≡ true → scalars rest ≡ true
follow_left goal first text [] rest h s = sym (ap scalars h) ∙ s
follow_left goal first text (p ∷ ps) rest h s = follow_left goal (first || breaks p) h.0 ps rest h.2 (piece_left goal first text p h.0 h.1 s)

before_left : (b : Bool) (goal : Goal) (first : Bool) (text : List ℕ) (lb : Bool) (from : List ℕ) → IsBeforeBy b goal first text lb from → scalars text ≡ true → scalars from ≡ true
before_left true goal first text lb from h s = sym (ap scalars h.0) ∙ s
before_left false goal first text lb from h s = follow_left goal first text h.0 from h.1.0 s

spell_left : (first : Bool) (text name rest : List ℕ) → Spell first text name rest → scalars text ≡ true → scalars rest ≡ true
spell_left first text [] rest h s = sym (ap scalars h) ∙ s
spell_left first text (c ∷ cs) rest h s = spell_left false h.0 cs rest h.2 (name_char first text c h.0 s h.1).1

ends_left : (e : Ending) (text rest : List ℕ) → templates.Ends e text rest → scalars text ≡ true → scalars rest ≡ true
ends_left BackQuote text rest e s = left (96 ∷ []) rest text e s
ends_left Substitution text rest e s = left (36 ∷ 123 ∷ []) rest text e s

outside_left : (goal : LexicalGoal) (text : List ℕ) (x : SpecLexeme) (rest : List ℕ) → IsOutside goal text x rest → scalars text ≡ true → scalars rest ≡ true
outside_left goal text x rest (inl (inl h)) s = spell_left true text h.0 rest h.2.1 s
outside_left goal text x rest (inl (inr (inl h))) s = left h.1 rest text h.2.parts s
outside_left goal text x rest (inl (inr (inr h))) s = left h.1 rest text h.4 s
outside_left goal text x rest (inr (inl h)) s =
    let r = h.1.2.1 in
    left h.1.1 rest r.0 r.2.0 (left (47 ∷ []) r.0 (47 ∷ r.0) refl (left h.1.0 (47 ∷ r.0) (h.1.0 ++ 47 ∷ r.0) refl (left (47 ∷ []) (h.1.0 ++ 47 ∷ r.0) text r.1 s)))
outside_left goal text x rest (inr (inr h)) s = left h.1.1.1.0 rest text h.1.1.1.2 s

lexeme_left : (goal : LexicalGoal) (text : List ℕ) (x : SpecLexeme) (rest : List ℕ) → IsLexeme goal text x rest → scalars text ≡ true → scalars rest ≡ true
lexeme_left Div text x rest h s = outside_left Div text x rest h s
lexeme_left RegExp text x rest h s = outside_left RegExp text x rest h s
lexeme_left TemplateTail text x rest h s = let p = h.4 in left h.0 rest text (p.4 ∙ ap (λ (l : List ℕ). h.0 ++ l) (same_ending h.2 p.1 rest h.3 p.3 h.5)) s
lexeme_left TemplateEnd text x rest h s = ends_left h.0 text rest h.1 s

tiles_known : (end : ℕ) (goal : Goal) (first : Bool) (text : List ℕ) (ps : List PlacedToken) → scalars text ≡ true → AreTiles end goal first text ps → Known ps
tiles_known end goal first text [] s h = tt
tiles_known end goal first text (p ∷ ps) s h =
    let t = h.1 in
    let f = before_left (nat_le template_goal p.goal) goal first text t.0 t.1 t.3 s in
    (inl (goal_at p.goal, t.1, t.2, h.0, f, t.4, ap (λ (x : Spot). x.token) t.5, t.6), tiles_known end goal false h.0 ps (lexeme_left (goal_at p.goal) t.1 t.2 h.0 t.4 f) h.2)

-- behind a hashbang
after_known : (end : ℕ) (goal : Goal) (text : List ℕ) (ps : List PlacedToken) → scalars text ≡ true → AfterHashbang end goal text ps → Known ps
after_known end goal text [] s h = absurd h
after_known end goal text (p ∷ ps) s h =
    let t = h.1 in
    let inner = left (35 ∷ 33 ∷ []) t.1.0 text t.1.1 s in
    let own = scalars_front t.0 h.0 (sym (ap scalars t.1.2.0) ∙ inner) in
    (inr (t.0, own, ap (λ (x : Spot). x.token) t.2), tiles_known end goal false h.0 ps (left t.0 h.0 t.1.0 t.1.2.0 inner) h.2)

pub tokens_are_known : TokensAreKnown
tokens_are_known start modules text ps s (inl h) = tiles_known (start + bytes text) (whole modules) true text ps s h.1
tokens_are_known start modules text ps s (inr h) = after_known (start + bytes text) (whole modules) text ps s h
