-- What trivia stands at a front is determined.
use Rattle.std.proofs.Common.{◌≡◌, ℕ, ◌⊎◌, inl, inr, Bool, ◌||◌, List, [], ◌∷◌, ◌++◌, refl, sym, ap, subst, ◌∙◌}
use Rattle.std.specs.List.{list_any}
use Rattle.std.proofs.lemmas.Bool.{false≢true}
use Rattle.std.proofs.Math.Bool.{or-false, or_assoc}
use Rattle.lex_pieces.specs.declared.trivia.Goal.{Goal}
use Rattle.lex_pieces.specs.Runs.{Each, Ends}
use Rattle.lex_pieces.specs.Trivia.{Piece, Follow, IsHashbang, IsLegacy, IsOpenBlock, IsSkipped, NoPiece, NoTrivia, breaks}
use Rattle.lex_pieces.proofs.TriviaLemmas.{one_piece}
use Rattle.lex_pieces.proofs.ListLemmas.{same_head, same_tail}
use Rattle.lex_step_laws.specs.Steps.{IsBadTrivia}

-- Pieces after which no other comes are all that there are.
pub follow_one : (goal : Goal) (first : Bool) (text : List ℕ) (ps qs : List Piece) (r q : List ℕ) → Follow goal first text ps r → NoPiece goal (first || list_any breaks ps) r
    → Follow goal first text qs q → NoPiece goal (first || list_any breaks qs) q → (ps ≡ qs) × (r ≡ q)
follow_one goal first text [] [] r q h n g m = (refl, sym h ∙ g)
follow_one goal first text [] (y ∷ ys) r q h n g m =
    absurd (subst (λ t. NoPiece goal first t) (sym h) (subst (λ b. NoPiece goal b r) (or-false first) n) y g.0 g.1)
follow_one goal first text (x ∷ xs) [] r q h n g m =
    absurd (subst (λ t. NoPiece goal first t) (sym g) (subst (λ b. NoPiece goal b q) (or-false first) m) x h.0 h.1)
follow_one goal first text (x ∷ xs) (y ∷ ys) r q h n g m =
    let k = (one_piece goal first text x y h.0 g.0 h.1).0 g.1 in
    let there : Follow goal (first || breaks x) h.0 ys q = subst (λ t. Follow goal (first || breaks x) t ys q) (sym k.1) (subst (λ p. Follow goal (first || breaks p) g.0 ys q) (sym k.0) g.2) in
    let last : NoPiece goal ((first || breaks x) || list_any breaks ys) q =
    subst (λ p. NoPiece goal ((first || breaks p) || list_any breaks ys) q) (sym k.0) (subst (λ b. NoPiece goal b q) (sym (or_assoc first (breaks y) (list_any breaks ys))) m) in
    let w = follow_one goal (first || breaks x) h.0 xs ys r q h.2 (subst (λ b. NoPiece goal b r) (sym (or_assoc first (breaks x) (list_any breaks xs))) n) there last in
    (ap (λ (p : Piece). p ∷ xs) k.0 ∙ ap (λ (l : List Piece). y ∷ l) w.0, w.1)

pub one_skipped : (goal : Goal) (first : Bool) (text : List ℕ) (b c : Bool) (r q : List ℕ) → IsSkipped goal first text b r → IsSkipped goal first text c q → (b ≡ c) × (r ≡ q)
one_skipped goal first text b c r q h g =
    let k = follow_one goal first text h.0 g.0 r q h.1.0 h.1.1.0 g.1.0 g.1.1.0 in
    (h.2 ∙ ap (list_any breaks) k.0 ∙ sym g.2, k.1)

-- no piece stands where something is wrong
pub bad_none : (goal : Goal) (first : Bool) (rest : List ℕ) → IsOpenBlock rest ⊎ ((inner : List ℕ) × IsLegacy goal first rest inner) → NoPiece goal first rest
bad_none goal first rest (inl h) piece next is = (one_piece goal first rest piece piece next next is).1 h
bad_none goal first rest (inr h) piece next is = (one_piece goal first rest piece piece next next is).2 h.0 h.1

pub one_bad : (goal : Goal) (first : Bool) (text r q : List ℕ) → IsBadTrivia goal first text r → IsBadTrivia goal first text q → r ≡ q
one_bad goal first text r q h g =
    (follow_one goal first text h.0 g.0 r q h.1 (bad_none goal (first || list_any breaks h.0) r h.2) g.1 (bad_none goal (first || list_any breaks g.0) q g.2)).1

no_bad : (goal : Goal) (first : Bool) (rest : List ℕ) → NoTrivia goal first rest → IsOpenBlock rest ⊎ ((inner : List ℕ) × IsLegacy goal first rest inner) → ⊥
no_bad goal first rest n (inl h) = n.1 h
no_bad goal first rest n (inr h) = n.2 h.0 h.1

pub skipped_not_bad : (goal : Goal) (first : Bool) (text : List ℕ) (b : Bool) (r q : List ℕ) → IsSkipped goal first text b r → IsBadTrivia goal first text q → ⊥
skipped_not_bad goal first text b r q h g =
    let k = follow_one goal first text h.0 g.0 r q h.1.0 h.1.1.0 g.1 (bad_none goal (first || list_any breaks g.0) q g.2) in
    no_bad goal (first || list_any breaks g.0) q
    (subst (λ ps. NoTrivia goal (first || list_any breaks ps) q) k.0 (subst (λ t. NoTrivia goal (first || list_any breaks h.0) t) k.1 h.1.1)) g.2

-- ---- the rest of a line

one_run : (p : ℕ → Bool) (a b r s : List ℕ) → a ++ r ≡ b ++ s → Each p a → Ends p r → Each p b → Ends p s → (a ≡ b) × (r ≡ s)
one_run p [] [] r s e h x g y = (refl, e)
one_run p [] (d ∷ ds) r s e h x g y = absurd (false≢true (sym (subst (Ends p) e x) ∙ g.0))
one_run p (c ∷ cs) [] r s e h x g y = absurd (false≢true (sym (subst (Ends p) (sym e) y) ∙ h.0))
one_run p (c ∷ cs) (d ∷ ds) r s e h x g y =
    let w = one_run p cs ds r s (same_tail c d (cs ++ r) (ds ++ s) e) h.1 x g.1 y in
    (ap (λ (k : ℕ). k ∷ cs) (same_head c d (cs ++ r) (ds ++ s) e) ∙ ap (λ (l : List ℕ). d ∷ l) w.0, w.1)

pub one_hashbang : (text a b r s : List ℕ) → IsHashbang text a r → IsHashbang text b s → (a ≡ b) × (r ≡ s)
one_hashbang text a b r s h g =
    let inner = same_tail 33 33 h.0 g.0 (same_tail 35 35 (33 ∷ h.0) (33 ∷ g.0) (sym h.1 ∙ g.1)) in
    one_run _ a b r s (sym h.2.0 ∙ inner ∙ g.2.0) h.2.1 h.2.2 g.2.1 g.2.2
