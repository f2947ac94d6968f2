-- Pieces of trivia one after another.
use Rattle.std.proofs.Common.{◌≡◌, ◌≢◌, ℕ, IsUtf8, Bool, true, false, not, ◌||◌, List, [], ◌∷◌, ◌++◌, length, refl, sym, ap, subst, ◌∙◌, arith, ⊎_elim}
use Rattle.std.specs.Prelude.{◌==◌, Option, None, MatchOption}
use Rattle.std.specs.List.{list_any}
use Rattle.std.specs.Str.{chars}
use Rattle.std.proofs.lemmas.Bool.{cases_Bool}
use Rattle.std.proofs.lemmas.Bool.Decides.{nat_tests}
use Rattle.std.proofs.lemmas.Str.{encodes-chars, length-le-encodes}
use Rattle.std.proofs.Math.Bool.{or-false, or-true, or_assoc}
use lib.Utf8.{encodes}
use Rattle.lex_pieces.specs.declared.trivia.Goal.{Goal}
use Rattle.lex_pieces.specs.Characters.{is_line_terminator}
use Rattle.lex_pieces.specs.Classes.{is_line_char}
use Rattle.lex_pieces.specs.Names.{is_nil}
use Rattle.lex_pieces.specs.Runs.{after}
use Rattle.lex_pieces.specs.Trivia.{Piece, WhiteSpace, LineTerminator, Follow, IsBlank, IsPassed, IsPiece, breaks}

pub any_push : (ps : List Piece) (p : Piece) → list_any breaks (ps ++ p ∷ []) ≡ (list_any breaks ps || breaks p)
any_push [] p = or-false (breaks p)
any_push (q ∷ qs) p = ap (λ b. breaks q || b) (any_push qs p) ∙ sym (or_assoc (breaks q) (list_any breaks qs) (breaks p))

-- what was passed so far
pub record Skipped (goal : Goal) (first : Bool) (text : List ℕ) (broke : Bool) (rest : List ℕ) : Type 0 where
  pub pieces : List Piece
  pub follow : Follow goal first text pieces rest
  pub broken : broke ≡ list_any breaks pieces

pub skipped_none : (goal : Goal) (first : Bool) (text : List ℕ) → Skipped goal first text false text
skipped_none goal first text = record { pieces = []; follow = refl; broken = refl }

follow_push : (goal : Goal) (first : Bool) (text : List ℕ) (ps : List Piece) (mid : List ℕ) (p : Piece) (rest : List ℕ)
    → Follow goal first text ps mid → IsPiece goal (first || list_any breaks ps) mid p rest → Follow goal first text (ps ++ p ∷ []) rest
follow_push goal first text [] mid p rest h k =
    (rest, subst (λ b. IsPiece goal b text p rest) (or-false first) (subst (λ l. IsPiece goal (first || false) l p rest) (sym h) k), refl)
follow_push goal first text (q ∷ qs) mid p rest h k = (
  h.0,
  h.1,
  follow_push goal (first || breaks q) h.0 qs mid p rest h.2
      (subst (λ b. IsPiece goal b mid p rest) (sym (or_assoc first (breaks q) (list_any breaks qs))) k),
)

pub skipped_more : (goal : Goal) (first : Bool) (text mid rest : List ℕ) (broke now : Bool) (p : Piece) (h : Skipped goal first text broke mid)
    → IsPiece goal (first || broke) mid p rest → now ≡ (broke || breaks p) → Skipped goal first text now rest
skipped_more goal first text mid rest broke now p h k e = record {
  pieces = h.pieces ++ p ∷ [];
  follow = follow_push goal first text h.pieces mid p rest h.follow (subst (λ b. IsPiece goal (first || b) mid p rest) h.broken k);
  broken = e ∙ ap (λ b. b || breaks p) h.broken ∙ sym (any_push h.pieces p);
}

-- the piece that a blank is
abbrev blank_piece : Bool → Piece
blank_piece false = WhiteSpace
blank_piece true = LineTerminator

blank_is : (goal : Goal) (first b : Bool) (text rest : List ℕ) → IsBlank text b rest → IsPiece goal first text (blank_piece b) rest
blank_is goal first false text rest h = h
blank_is goal first true text rest h = h

blank_breaks : (b : Bool) → breaks (blank_piece b) ≡ b
blank_breaks false = refl
blank_breaks true = refl

pub skipped_blank : (goal : Goal) (first : Bool) (text mid rest : List ℕ) (broke b : Bool) (h : Skipped goal first text broke mid) → IsBlank mid b rest
    → Skipped goal first text (broke || b) rest
skipped_blank goal first text mid rest broke b h k =
    skipped_more goal first text mid rest broke (broke || b) (blank_piece b) h (blank_is goal (first || broke) b mid rest k) (ap (λ x. broke || x) (sym (blank_breaks b)))

-- a blank is passed as the piece that it is
pub passed_blank : (goal : Goal) (first b : Bool) (text rest : List ℕ) → IsBlank text b rest → IsPassed goal first text b rest
passed_blank goal first b text rest h = (blank_piece b, blank_is goal first b text rest h, sym (blank_breaks b))

-- ---- whether a text holds a line terminator

terminator_in : (cs : List ℕ) → not (is_nil (after is_line_char cs)) ≡ list_any is_line_terminator cs
terminator_in [] = refl
terminator_in (c ∷ cs) = ⊎_elim
    (λ (e : is_line_terminator c ≡ true). rw e refl)
    (λ (e : is_line_terminator c ≡ false). rw e (terminator_in cs))
    (cases_Bool (is_line_terminator c))

empty_encoded : (cs : List ℕ) → (length (encodes cs) == 0) ≡ is_nil cs
empty_encoded [] = refl
empty_encoded (c ∷ cs) =
    let long = length-le-encodes (c ∷ cs) in
    let some : length (encodes (c ∷ cs)) ≢ 0 = omega (arith, long) in
    grind (arith, nat_tests)

pub empty_text : (s : List ℕ) → IsUtf8 s → (length s == 0) ≡ is_nil (chars s)
empty_text s u = ap (λ l. length l == 0) (sym (encodes-chars s u)) ∙ empty_encoded (chars s)

-- what follows the first line of a text is empty where the text has no line terminator
pub holds_terminator : (s : List ℕ) (cs : List ℕ) → IsUtf8 s → chars s ≡ after is_line_char cs → not (length s == 0) ≡ list_any is_line_terminator cs
holds_terminator s cs u e =
    ap (λ l. not (length l == 0)) (sym (encodes-chars s u)) ∙ ap not (empty_encoded (chars s)) ∙ ap (λ l. not (is_nil l)) e ∙ terminator_in cs

-- ---- a turn of a loop over pieces

pub last : {X : Type 0} (P : Type 0) (Q : X → Type 0) (o : Option X) → o ≡ None → MatchOption o P Q → P
last P Q o e h = subst (λ o. MatchOption o P Q) e h

pub broken_now : (broke b : Bool) → b ≡ true → true ≡ (broke || b)
broken_now broke b e = sym (ap (λ x. broke || x) e ∙ or-true broke)

pub broken_as_before : (broke b : Bool) → b ≡ false → broke ≡ (broke || b)
broken_as_before broke b e = sym (ap (λ x. broke || x) e ∙ or-false broke)
