-- A hashbang that is read stands on a line (12.5), and no other token has a line as its content.
use Rattle.std.proofs.Common.{◌≡◌, ℕ, Bool, true, List, [], ◌∷◌, Some, inl, inr, refl, sym, ap, subst, ◌∙◌}
use Rattle.std.specs.Prelude.{encode_utf8_all}
use Rattle.std.proofs.lemmas.Str.{chars-encodes}
use lib.Utf8.{scalars}
use Rattle.base_token.specs.Tokens.{SpecToken, Spot, Content, Line}
use Rattle.lex_source.specs.Machine.{told}
use Rattle.tree_spec.specs.Tree.{Tree, script, es_module}
use Rattle.lex_pieces.specs.Classes.{is_line_char}
use Rattle.lex_pieces.specs.Runs.{Each}
use Rattle.lex_literal.specs.Numbers.{Meaning, Number, BigInt}
use Rattle.lex_token.specs.declared.goal.LexicalGoal.{LexicalGoal}
use Rattle.lex_token.specs.declared.goal.LexicalGoal.TheVariants.{Div, RegExp, TemplateTail, TemplateEnd}
use Rattle.lex_token.specs.Lexemes.{SpecLexeme, IsLexeme, IsOutside, numeral_lexeme}
use Rattle.grammar_spec.specs.Tokens.Input.{PlacedToken, Input, Code, content_of}
use Rattle.grammar_spec.specs.Grammar.{Produces}
use Rattle.grammar_text_spec.specs.Tiled.{Tile, goal_at}
use Rattle.again_laws.proofs.tokens.Known.{left, scalars_front}
use Rattle.again_laws.specs.Tiling.Tiles.{IsHashbangText}
use Rattle.again_laws.specs.Laws.{HasLineText}

abbrev NoLine : Content → Type 0
NoLine (Line own) = ⊥
NoLine _ = Unit {0}

abbrev Of : SpecLexeme → Type 0
Of l = NoLine (told l.token).content

numeral : (m : Meaning) (own : List ℕ) → Of (numeral_lexeme m own)
numeral (Number v) own = tt
numeral (BigInt radix digits) own = tt

outside : (goal : LexicalGoal) (from : List ℕ) (l : SpecLexeme) (behind : List ℕ) → IsOutside goal from l behind → Of l
outside goal from l behind (inl (inl h)) = subst (λ (x : SpecLexeme). Of x) (sym h.4) tt
outside goal from l behind (inl (inr (inl h))) = subst (λ (x : SpecLexeme). Of x) (sym h.3) (numeral h.0 h.1)
outside goal from l behind (inl (inr (inr h))) = subst (λ (x : SpecLexeme). Of x) (sym h.5) tt
outside goal from l behind (inr (inl h)) = subst (λ (x : SpecLexeme). Of x) (sym h.1.3) tt
outside goal from l behind (inr (inr h)) = subst (λ (x : SpecLexeme). Of x) (sym h.1.2) tt

lexeme_has_none : (goal : LexicalGoal) (from : List ℕ) (l : SpecLexeme) (behind : List ℕ) → IsLexeme goal from l behind → Of l
lexeme_has_none Div from l behind h = outside Div from l behind h
lexeme_has_none RegExp from l behind h = outside RegExp from l behind h
lexeme_has_none TemplateTail from l behind h = subst (λ (x : SpecLexeme). Of x) (sym h.6) tt
lexeme_has_none TemplateEnd from l behind h = subst (λ (x : SpecLexeme). Of x) (sym h.2) tt

abbrev line_in : Content → List ℕ
line_in (Line own) = own
line_in _ = []

none_is_a_line : (x : Content) (own : List ℕ) → NoLine x → x ≡ Line own → ⊥
none_is_a_line x own n e = subst (λ (y : Content). NoLine y) e n

spelled : (own : List ℕ) → scalars own ≡ true → Each is_line_char own → IsHashbangText (encode_utf8_all own)
spelled own s e = record { utf8 = (own, (s, refl)); line = subst (λ (cs : List ℕ). Each is_line_char cs) (sym (chars-encodes own s)) e }

-- The first token of a text, where it has a line.
pub first_line : (start : ℕ) (modules : Bool) (text : List ℕ) (ps : List PlacedToken) (own : List ℕ) → scalars text ≡ true → Tile start modules text ps → content_of ps ≡ Line own → IsHashbangText own
first_line start modules text [] own s (inl h) e = absurd (none_is_a_line (content_of []) own tt e)
first_line start modules text (p ∷ ps) own s (inl h) e =
    let t = h.1.1 in
    let n = subst (λ (k : SpecToken). NoLine k.content) (sym (ap (λ (z : Spot). z.token) t.5)) (lexeme_has_none (goal_at p.goal) t.1 t.2 h.1.0 t.4) in
    absurd (none_is_a_line p.spot.token.content own n e)
first_line start modules text [] own s (inr h) e = absurd h
first_line start modules text (p ∷ ps) own s (inr h) e =
    let t = h.1 in
    let inner = left (35 ∷ 33 ∷ []) t.1.0 text t.1.1 s in
    let front = scalars_front t.0 h.0 (sym (ap scalars t.1.2.0) ∙ inner) in
    let same : encode_utf8_all t.0 ≡ own = sym (ap (λ (z : Spot). line_in z.token.content) t.2) ∙ ap line_in e in
    subst (λ (bytes : List ℕ). IsHashbangText bytes) same (spelled t.0 front t.1.2.1)

pub line_text : (start : ℕ) (modules : Bool) (text : List ℕ) (ps : List PlacedToken) (t : Tree) (c : Code) (r : Input) → scalars text ≡ true → Tile start modules text ps → Produces t c (record { last = start; places = ps }) r → HasLineText t
line_text start modules text ps (script sp ss (Some own)) c r s k h = first_line start modules text ps own s k h.1.0
line_text start modules text ps (es_module sp ss (Some own)) c r s k h = first_line start modules text ps own s k h.1.0
line_text start modules text ps _ c r s k h = tt
