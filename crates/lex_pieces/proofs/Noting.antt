-- Comments of pieces of trivia one after another.
use Rattle.std.proofs.Common.{◌≡◌, ℕ, Bool, false, ◌||◌, List, [], ◌∷◌, ◌++◌, append_assoc, append-nil, refl, sym, ap, subst, ◌∙◌}
use Rattle.std.specs.List.{list_any}
use Rattle.std.proofs.Math.Bool.{or-false, or_assoc}
use Rattle.base_token.specs.declared.place.Span.{Span}
use Rattle.lex_pieces.specs.declared.trivia.Goal.{Goal}
use Rattle.lex_pieces.specs.declared.comments.Comment.{Comment}
use Rattle.lex_pieces.specs.Places.{IsAt}
use Rattle.lex_pieces.specs.Trivia.{Piece, IsPiece, breaks}
use Rattle.lex_pieces.specs.Notes.{FollowNoted, IsNote, IsNoteAt}
use Rattle.lex_pieces.proofs.Following.{any_push}

-- what was passed and kept so far
pub record Collected (end : ℕ) (goal : Goal) (first : Bool) (text : List ℕ) (broke : Bool) (rest : List ℕ) (old new : List Comment) : Type 0 where
  pub pieces : List Piece
  pub notes : List Comment
  pub kept : new ≡ old ++ notes
  pub follow : FollowNoted end goal first text pieces notes rest
  pub broken : broke ≡ list_any breaks pieces

pub collected_none : (end : ℕ) (goal : Goal) (first : Bool) (text : List ℕ) (old : List Comment) → Collected end goal first text false text old old
collected_none end goal first text old = record { pieces = []; notes = []; kept = sym (append-nil old); follow = (refl, refl); broken = refl }

noted_push : (end : ℕ) (goal : Goal) (first : Bool) (text : List ℕ) (ps : List Piece) (cs : List Comment) (mid : List ℕ) (p : Piece) (own : List Comment) (rest : List ℕ)
    → FollowNoted end goal first text ps cs mid → IsPiece goal (first || list_any breaks ps) mid p rest → IsNote end mid rest p own
    → FollowNoted end goal first text (ps ++ p ∷ []) (cs ++ own) rest
noted_push end goal first text [] cs mid p own rest h k n =
    let is = subst (λ b. IsPiece goal b text p rest) (or-false first) (subst (λ l. IsPiece goal (first || false) l p rest) (sym h.0) k) in
    let note = subst (λ l. IsNote end l rest p own) (sym h.0) n in
    (rest, is, (own, [], ap (λ l. l ++ own) h.1 ∙ sym (append-nil own), note, (refl, refl)))
noted_push end goal first text (q ∷ qs) cs mid p own rest h k n =
    let w = h.2 in
    let is = subst (λ b. IsPiece goal b mid p rest) (sym (or_assoc first (breaks q) (list_any breaks qs))) k in
    (h.0, h.1, (w.0, w.1 ++ own, ap (λ l. l ++ own) w.2 ∙ append_assoc w.0 w.1 own, w.3, noted_push end goal (first || breaks q) h.0 qs w.1 mid p own rest w.4 is n))

pub collected_more : (end : ℕ) (goal : Goal) (first : Bool) (text mid rest : List ℕ) (broke now : Bool) (old new newer own : List Comment) (p : Piece) (span : Span)
    → Collected end goal first text broke mid old new → IsPiece goal (first || broke) mid p rest → now ≡ (broke || breaks p)
    → newer ≡ new ++ own → IsAt end mid rest span → IsNoteAt span p own → Collected end goal first text now rest old newer
collected_more end goal first text mid rest broke now old new newer own p span h k e kept at note = record {
  pieces = h.pieces ++ p ∷ [];
  notes = h.notes ++ own;
  kept = kept ∙ ap (λ l. l ++ own) h.kept ∙ append_assoc old h.notes own;
  follow = noted_push end goal first text h.pieces h.notes mid p own rest h.follow (subst (λ b. IsPiece goal (first || b) mid p rest) h.broken k) (span, at, note);
  broken = e ∙ ap (λ b. b || breaks p) h.broken ∙ sym (any_push h.pieces p);
}
