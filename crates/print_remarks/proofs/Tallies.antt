-- What was passed and kept so far.
use Rattle.std.proofs.Common.{◌≡◌, ℕ, Bool, false, ◌||◌, List, [], ◌∷◌, ◌++◌, append_assoc, append-nil, refl, sym, ap, subst, ◌∙◌}
use Rattle.std.specs.List.{list_any}
use Rattle.std.proofs.Math.Bool.{or-false, or_assoc}
use Rattle.lex_pieces.specs.Trivia.{Piece, Follow, IsPiece, breaks}
use Rattle.lex_pieces.specs.declared.trivia.Goal.{Goal}
use Rattle.lex_pieces.proofs.Following.{any_push}
use Rattle.print_notes.specs.Slots.{Remark}
use Rattle.print_remarks.specs.Found.{Tally, ended, noted, nothing}

pub record Tallied (goal : Goal) (first : Bool) (gap : ℕ) (text : List ℕ) (broke : Bool) (rest : List ℕ) (old new : List Remark) (t : Tally) : Type 0 where
  pub pieces : List Piece
  pub follow : Follow goal first text pieces rest
  pub broken : broke ≡ list_any breaks pieces
  pub told : (ps : List Piece) → new ++ noted gap t ps ≡ old ++ noted gap nothing (pieces ++ ps)

pub tallied_none : (goal : Goal) (first : Bool) (gap : ℕ) (text : List ℕ) (old : List Remark) → Tallied goal first gap text false text old old nothing
tallied_none goal first gap text old = record { pieces = []; follow = refl; broken = refl; told = λ ps. refl }

-- one piece more
follows_on : (goal : Goal) (first : Bool) (text : List ℕ) (ps : List Piece) (mid : List ℕ) (p : Piece) (rest : List ℕ)
    → Follow goal first text ps mid → IsPiece goal (first || list_any breaks ps) mid p rest → Follow goal first text (ps ++ p ∷ []) rest
follows_on goal first text [] mid p rest h k = (rest, subst (λ b. IsPiece goal b text p rest) (or-false first) (subst (λ l. IsPiece goal (first || false) l p rest) (sym h) k), refl)
follows_on goal first text (q ∷ qs) mid p rest h k = (
  h.0,
  h.1,
  follows_on goal (first || breaks q) h.0 qs mid p rest h.2 (subst (λ b. IsPiece goal b mid p rest) (sym (or_assoc first (breaks q) (list_any breaks qs))) k),
)

pub tallied_more : (goal : Goal) (first : Bool) (gap : ℕ) (text mid rest : List ℕ) (broke now : Bool) (old new newer : List Remark) (t u : Tally) (p : Piece)
    → Tallied goal first gap text broke mid old new t → IsPiece goal (first || broke) mid p rest → now ≡ (broke || breaks p)
    → ((ps : List Piece) → newer ++ noted gap u ps ≡ new ++ noted gap t (p ∷ ps)) → Tallied goal first gap text now rest old newer u
tallied_more goal first gap text mid rest broke now old new newer t u p h k e step = record {
  pieces = h.pieces ++ p ∷ [];
  follow = follows_on goal first text h.pieces mid p rest h.follow (subst (λ b. IsPiece goal (first || b) mid p rest) h.broken k);
  broken = e ∙ (ap (λ b. b || breaks p) h.broken ∙ sym (any_push h.pieces p));
  told = λ ps. step ps ∙ (h.told (p ∷ ps) ∙ ap (λ (z : List Piece). old ++ noted gap nothing z) (sym (append_assoc h.pieces (p ∷ []) ps)));
}

pub tallied_done : (goal : Goal) (first : Bool) (gap : ℕ) (text : List ℕ) (broke : Bool) (rest : List ℕ) (old new : List Remark) (t : Tally) (h : Tallied goal first gap text broke rest old new t) (newer : List Remark)
    → newer ≡ new ++ ended t → newer ≡ old ++ noted gap nothing h.pieces
tallied_done goal first gap text broke rest old new t h newer e = e ∙ (h.told [] ∙ ap (λ (z : List Piece). old ++ noted gap nothing z) (append-nil h.pieces))
