-- Tokens that tile a text are in order.
use Rattle.std.proofs.Common.{◌≡◌, ℕ, ◌+◌, ◌-◌, ◌≤◌, ◌<◌, inl, inr, Bool, true, false, nat_le, List, [], ◌∷◌, length, length-append, refl, sym, ap, ◌∙◌, subst, arith}
use Rattle.std.proofs.Math.Utf8.{encodes}
use Rattle.std.proofs.lemmas.Str.{encodes-append, length-le-encodes}
use Rattle.base_token.specs.Kinds.{template_kind}
use Rattle.base_token.specs.Tokens.{Spot}
use Rattle.lex_pieces.specs.Places.{bytes}
use Rattle.lex_pieces.specs.declared.trivia.Goal.{Goal}
use Rattle.lex_token.specs.declared.goal.LexicalGoal.{LexicalGoal}
use Rattle.lex_token.specs.declared.goal.LexicalGoal.TheVariants.{Div, RegExp, TemplateTail, TemplateEnd}
use Rattle.lex_token.specs.Lexemes.{SpecLexeme, IsLexeme}
use Rattle.lex_step_laws.specs.States.{place}
use Rattle.lex_step_laws.proofs.Tokens.{token_shorter}
use Rattle.lex_step_laws.proofs.Trivia.{hashbang_shorter}
use Rattle.lex_run_laws.proofs.Behind.{Behind, here, follow_behind, hashbang_behind, lexeme_behind, place_rises}
use Rattle.grammar_spec.specs.Tokens.Input.{PlacedToken, template_goal}
use Rattle.grammar_laws.specs.CompleteBase.Laws.{InOrder}
use Rattle.grammar_text_spec.specs.Tiled.{goal_at, whole, IsBeforeBy, AreTiles, AfterHashbang, Tile}

-- what is left takes fewer bytes, and no more
pub bytes_fall : (text rest : List ℕ) → Behind text rest → bytes rest ≤ bytes text
bytes_fall text rest h =
    let e = ap bytes h.1 in
    let a = ap length (encodes-append h.0 rest) in
    let b = length-append (encodes h.0) (encodes rest) in
    omega (arith, e, a, b)

bytes_fewer : (text rest : List ℕ) → Behind text rest → length rest < length text → bytes rest < bytes text
bytes_fewer text rest h l =
    let e = ap bytes h.1 in
    let a = ap length (encodes-append h.0 rest) in
    let b = length-append (encodes h.0) (encodes rest) in
    let d = ap length h.1 in
    let f = length-append h.0 rest in
    let g = length-le-encodes h.0 in
    omega (arith, e, a, b, d, f, g, l)

pub before_behind : (b : Bool) (goal : Goal) (first : Bool) (text : List ℕ) (line_break : Bool) (from : List ℕ) → IsBeforeBy b goal first text line_break from → Behind text from
before_behind true goal first text line_break from h = here text from h.0
before_behind false goal first text line_break from h = follow_behind goal first text h.0 from h.1.0

-- a token has a character, but for the characters of a template
some_character : (goal : LexicalGoal) (from : List ℕ) (x : SpecLexeme) (rest : List ℕ) → IsLexeme goal from x rest → (x.token.kind ≡ template_kind → ⊥) → length rest < length from
some_character Div from x rest h n = token_shorter Div from x rest (λ k. cc) h
some_character RegExp from x rest h n = token_shorter RegExp from x rest (λ k. cc) h
some_character TemplateEnd from x rest h n = token_shorter TemplateEnd from x rest (λ k. cc) h
some_character TemplateTail from x rest h n = absurd (n (ap (λ (y : SpecLexeme). y.token.kind) h.6))

-- a token between two rests of the text
between : (end : ℕ) (text from rest : List ℕ) (p : PlacedToken) (ps : List PlacedToken) → bytes text ≤ end → Behind text from → Behind from rest → p.spot.lo ≡ place end from → p.spot.hi ≡ place end rest
    → ((p.spot.token.kind ≡ template_kind → ⊥) → length rest < length from) → InOrder (place end rest) ps → InOrder (place end text) (p ∷ ps)
between end text from rest p ps le a b lo hi some more =
    let k = place_rises end text from a in
    let l = place_rises end from rest b in
    let m = bytes_fall text from a in (
      omega (arith, k, lo),
      omega (arith, l, lo, hi),
      λ n. let o = bytes_fewer from rest b (some n) in omega (arith, lo, hi, o, m, le),
      subst (λ (h : ℕ). InOrder h ps) (sym hi) more,
    )

ordered : (ps : List PlacedToken) (end : ℕ) (goal : Goal) (first : Bool) (text : List ℕ) → bytes text ≤ end → AreTiles end goal first text ps → InOrder (place end text) ps
ordered [] end goal first text le h = tt
ordered (p ∷ ps) end goal first text le h =
    let t = h.1 in
    let a = before_behind (nat_le template_goal p.goal) goal first text t.0 t.1 t.3 in
    let b = lexeme_behind (goal_at p.goal) t.1 t.2 h.0 t.4 in
    let l : bytes h.0 ≤ end = omega (arith, bytes_fall text t.1 a, bytes_fall t.1 h.0 b, le) in
    between end text t.1 h.0 p ps le a b (ap (λ (s : Spot). s.lo) t.5) (ap (λ (s : Spot). s.hi) t.5)
    (λ n. some_character (goal_at p.goal) t.1 t.2 h.0 t.4 (λ k. n (ap (λ (s : Spot). s.token.kind) t.5 ∙ k))) (ordered ps end goal false h.0 l h.2)

after_hashbang : (ps : List PlacedToken) (end : ℕ) (goal : Goal) (text : List ℕ) → bytes text ≤ end → AfterHashbang end goal text ps → InOrder (place end text) ps
after_hashbang [] end goal text le h = absurd h
after_hashbang (p ∷ ps) end goal text le h =
    let t = h.1 in
    let b = hashbang_behind text t.0 h.0 t.1 in
    let l : bytes h.0 ≤ end = omega (arith, bytes_fall text h.0 b, le) in
    between end text text h.0 p ps le (here text text refl) b (ap (λ (s : Spot). s.lo) t.2) (ap (λ (s : Spot). s.hi) t.2)
    (λ n. hashbang_shorter text t.0 h.0 t.1) (ordered ps end goal false h.0 l h.2)

from_start : (start n : ℕ) → (start + n) - n ≡ start
from_start start n = omega arith

pub places_in_order : (start : ℕ) (modules : Bool) (text : List ℕ) (ps : List PlacedToken) → Tile start modules text ps → InOrder start ps
places_in_order start modules text ps (inl h) = subst (λ (n : ℕ). InOrder n ps) (from_start start (bytes text)) (ordered ps (start + bytes text) (whole modules) true text (omega arith) h.1)
places_in_order start modules text ps (inr h) = subst (λ (n : ℕ). InOrder n ps) (from_start start (bytes text)) (after_hashbang ps (start + bytes text) (whole modules) text (omega arith) h)
