-- What trivia stands at a front: a whole run of it, or one that goes wrong.
use Rattle.std.proofs.Common.{◌≡◌, ◌≢◌, ℕ, zero, suc, ◌+◌, ◌<◌, ◌≤◌, ◌⊎◌, inl, inr, ⊎_elim, Bool, true, false, ◌||◌, List, [], ◌∷◌, ◌++◌, length, length-append, refl, sym, ap, subst, ◌∙◌, arith}
use Rattle.std.specs.List.{list_any}
use Rattle.std.specs.Prelude.{◌==◌, ◌&&◌}
use Rattle.std.proofs.lemmas.Bool.{cases_Bool, false≢true, eqb-true, and_parts}
use Rattle.std.proofs.Math.Bool.{or-false, or_assoc}
use Rattle.base_token.specs.declared.error.Error.{Error}
use Rattle.base_token.specs.declared.error.SyntaxError.TheVariants.{UnterminatedBlockComment, LegacyCommentInModule}
use Rattle.lex_pieces.specs.Classes.{is_line_char}
use Rattle.lex_pieces.specs.Places.{bytes}
use Rattle.lex_pieces.specs.ReadingTrivia.{Reading, Nothing, Found as Read, Open, Legacy, read}
use Rattle.lex_pieces.specs.Runs.{after, run}
use Rattle.lex_pieces.specs.Trivia.{Piece, WhiteSpace, LineTerminator, LineComment, BlockComment, Follow, IsFault, IsHashbang, IsLegacy, IsOpenBlock, IsPiece, IsSkipped, IsTrivia, NoHashbang, NoTrivia, breaks, spelled}
use Rattle.lex_pieces.specs.declared.trivia.Goal.{Goal}
use Rattle.lex_pieces.specs.declared.trivia.LineMark.{LineMark}
use Rattle.lex_pieces.specs.declared.trivia.LineMark.TheVariants.{Slashes, HtmlOpen, HtmlClose}
use Rattle.lex_pieces.proofs.TriviaLemmas.{is_fault, is_piece, no_trivia, run_is}
use Rattle.lex_pieces.proofs.ListLemmas.{same_head, same_tail, nil_cons}
use Rattle.lex_step_laws.specs.Steps.{IsBadTrivia}

-- ---- a piece takes characters

some_mark : (m : LineMark) → 0 < length (spelled m)
some_mark Slashes = omega arith
some_mark HtmlOpen = omega arith
some_mark HtmlClose = omega arith

pub piece_shorter : (goal : Goal) (first : Bool) (text : List ℕ) (p : Piece) (rest : List ℕ) → IsPiece goal first text p rest → length rest < length text
piece_shorter goal first text WhiteSpace rest h = white h.0 h.1 h.2.0
  where
    white : (own : List ℕ) → own ≢ [] → text ≡ own ++ rest → length rest < length text
    white [] n e = absurd (n refl)
    white (c ∷ cs) n e = let k = ap length e in omega (arith, k, length-append cs rest)
piece_shorter goal first text LineTerminator rest (inl h) = let k = ap length h in omega (arith, k)
piece_shorter goal first text LineTerminator rest (inr h) = let k = ap length h.1 in omega (arith, k)
piece_shorter goal first text (LineComment mark own) rest h =
    let k = ap length h.1.1 in let l = ap length h.1.2.0 in let m = some_mark mark in
    omega (arith, k, l, m, length-append (spelled mark) h.1.0, length-append own rest)
piece_shorter goal first text (BlockComment own) rest h =
    let k = ap length h.1 in let l = ap length h.2.0 in omega (arith, k, l, length-append own (42 ∷ 47 ∷ rest))

-- ---- what goes wrong

abbrev Wrong : Goal → Bool → List ℕ → Type 0
Wrong goal first text = IsOpenBlock text ⊎ ((inner : List ℕ) × IsLegacy goal first text inner)

wrong_by : (end : ℕ) (goal : Goal) (first : Bool) (text : List ℕ) (e : Error) → IsFault end goal first text e → Wrong goal first text
wrong_by end goal first text e (inl h) = inl h.1
wrong_by end goal first text e (inr h) = inr (h.1.0, h.1.1)

open_at : (goal : Goal) (first : Bool) (text : List ℕ) → read goal first text ≡ Open → Wrong goal first text
open_at goal first text e =
    let error : Error = record { span = record { lo = record { 0 = 0 }; hi = record { 0 = bytes text } }; kind = UnterminatedBlockComment } in
    wrong_by (bytes text) goal first text error (is_fault (bytes text) goal first text error Open e (refl, (omega arith, omega arith))).1

legacy_at : (goal : Goal) (first : Bool) (text rest : List ℕ) → read goal first text ≡ Legacy rest → Wrong goal first text
legacy_at goal first text rest e =
    let error : Error = record { span = record { lo = record { 0 = bytes rest }; hi = record { 0 = bytes text } }; kind = LegacyCommentInModule } in
    let end = bytes rest + bytes text in
    wrong_by end goal first text error (is_fault end goal first text error (Legacy rest) e (refl, (refl, omega arith))).1

-- ---- a run

abbrev Run : Goal → Bool → List ℕ → Type 0
Run goal first text = ((ps : List Piece) × (rest : List ℕ) × IsTrivia goal first text ps rest)
    ⊎ ((rest : List ℕ) × IsBadTrivia goal first text rest)

wrong_here : (goal : Goal) (first : Bool) (text : List ℕ) → Wrong goal first text → IsBadTrivia goal first text text
wrong_here goal first text w = ([], refl, subst (λ b. IsOpenBlock text ⊎ ((inner : List ℕ) × IsLegacy goal b text inner)) (sym (or-false first)) w)

longer : (goal : Goal) (first : Bool) (text next : List ℕ) (p : Piece) → IsPiece goal first text p next → Run goal (first || breaks p) next → Run goal first text
longer goal first text next p is (inl h) = inl (p ∷ h.0, h.1, ((next, is, h.2.0), subst (λ b. NoTrivia goal b h.1) (or_assoc first (breaks p) (list_any breaks h.0)) h.2.1))
longer goal first text next p is (inr h) =
    inr (h.0, (p ∷ h.1.0, (next, is, h.1.1), subst (λ b. IsOpenBlock h.0 ⊎ ((inner : List ℕ) × IsLegacy goal b h.0 inner)) (or_assoc first (breaks p) (list_any breaks h.1.0)) h.1.2))

run_by : (goal : Goal) (first : Bool) (text : List ℕ) → ((p : Piece) (next : List ℕ) → IsPiece goal first text p next → Run goal (first || breaks p) next)
    → (r : Reading) → read goal first text ≡ r → Run goal first text
run_by goal first text more Nothing e = inl ([], text, (refl, subst (λ b. NoTrivia goal b text) (sym (or-false first)) (no_trivia goal first text e)))
run_by goal first text more (Read p next) e = let is = is_piece goal first text p next e in longer goal first text next p is (more p next is)
run_by goal first text more Open e = inr (text, wrong_here goal first text (open_at goal first text e))
run_by goal first text more (Legacy rest) e = inr (text, wrong_here goal first text (legacy_at goal first text rest e))

run_of : (n : ℕ) (goal : Goal) (first : Bool) (text : List ℕ) → length text ≤ n → Run goal first text
run_of zero goal first text h =
    run_by goal first text (λ p next is. let k = piece_shorter goal first text p next is in absurd (omega (arith, h, k))) (read goal first text) refl
run_of (suc n) goal first text h =
    run_by goal first text (λ p next is. run_of n goal (first || breaks p) next (let k = piece_shorter goal first text p next is in omega (arith, h, k))) (read goal first text) refl

pub skipped_or_bad : (goal : Goal) (first : Bool) (text : List ℕ)
    → ((line_break : Bool) × (rest : List ℕ) × IsSkipped goal first text line_break rest) ⊎ ((rest : List ℕ) × IsBadTrivia goal first text rest)
skipped_or_bad goal first text = ⊎_elim
    (λ (h : (ps : List Piece) × (rest : List ℕ) × IsTrivia goal first text ps rest). inl (list_any breaks h.0, h.1, (h.0, h.2, refl)))
    (λ (h : (rest : List ℕ) × IsBadTrivia goal first text rest). inr h)
    (run_of (length text) goal first text (omega arith))

-- ---- trivia takes no more than there is

pub follow_no_longer : (goal : Goal) (first : Bool) (text : List ℕ) (ps : List Piece) (rest : List ℕ) → Follow goal first text ps rest → length rest ≤ length text
follow_no_longer goal first text [] rest h = let e = ap length h in omega (arith, e)
follow_no_longer goal first text (p ∷ ps) rest h =
    let k = piece_shorter goal first text p h.0 h.1 in let l = follow_no_longer goal (first || breaks p) h.0 ps rest h.2 in omega (arith, k, l)

-- ---- hashbangs

bang_by : (a b : ℕ) (inner : List ℕ) → (a == 35 && b == 33) ≡ true → (own : List ℕ) × (rest : List ℕ) × IsHashbang (a ∷ b ∷ inner) own rest
bang_by a b inner t =
    let p = and_parts (a == 35) (b == 33) t in
    let e = ap (λ (x : ℕ). x ∷ b ∷ inner) (eqb-true a 35 p.0) ∙ ap (λ (x : ℕ). 35 ∷ x ∷ inner) (eqb-true b 33 p.1) in
    (run is_line_char inner, after is_line_char inner, (inner, e, run_is is_line_char inner (run is_line_char inner) (after is_line_char inner) refl refl))

no_bang : (a b : ℕ) (inner : List ℕ) → (a == 35 && b == 33) ≡ false → NoHashbang (a ∷ b ∷ inner)
no_bang a b inner f more e =
    let first : a ≡ 35 = same_head a 35 (b ∷ inner) (33 ∷ more) e in
    let second : b ≡ 33 = same_head b 33 inner more (same_tail a 35 (b ∷ inner) (33 ∷ more) e) in
    let k : (a == 35 && b == 33) ≡ true = rw (first, second) refl in
    false≢true (sym f ∙ k)

pub hashbang_or_not : (text : List ℕ) → ((own : List ℕ) × (rest : List ℕ) × IsHashbang text own rest) ⊎ NoHashbang text
hashbang_or_not [] = inr (λ inner e. nil_cons 35 (33 ∷ inner) e)
hashbang_or_not (a ∷ []) = inr (λ inner e. nil_cons 33 inner (same_tail a 35 [] (33 ∷ inner) e))
hashbang_or_not (a ∷ b ∷ inner) = ⊎_elim
    (λ (t : (a == 35 && b == 33) ≡ true). inl (bang_by a b inner t))
    (λ (f : (a == 35 && b == 33) ≡ false). inr (no_bang a b inner f))
    (cases_Bool (a == 35 && b == 33))

pub hashbang_shorter : (text own rest : List ℕ) → IsHashbang text own rest → length rest < length text
hashbang_shorter text own rest h = let k = ap length h.1 in let l = ap length h.2.0 in omega (arith, k, l, length-append own rest)

-- ---- what goes wrong takes characters

pub wrong_some : (goal : Goal) (first : Bool) (text : List ℕ) → IsOpenBlock text ⊎ ((inner : List ℕ) × IsLegacy goal first text inner) → 0 < length text
wrong_some goal first text (inl h) = let k = ap length h.1 in omega (arith, k)
wrong_some goal first text (inr h) = let k = ap length h.1.1.3 in let m = some_mark h.1.1.0 in omega (arith, k, m, length-append (spelled h.1.1.0) h.0)
