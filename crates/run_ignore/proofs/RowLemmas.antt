-- A row, cell by cell.
use Rattle.std.proofs.Common.{◌≡◌, ℕ, ◌+◌, ◌-◌, ◌<◌, ◌≤◌, Bool, true, false, ◌&&◌, ◌||◌, List, [], ◌∷◌, length, drop, take, take_all, length-drop, get_or, set, refl, ap, sym, subst, inl, inr, ◌∙◌, arith}
use Rattle.std.proofs.Math.Seq.{drop-length}
use Rattle.std.proofs.lemmas.Bool.{cases_eq}
use Rattle.std.proofs.lemmas.Grind.{get_or-set_at}
use Rattle.std.proofs.lemmas.List.{drop_more, drop-drop, get_or-set_other}
use Rattle.run_ignore.specs.Rows.{can, is_slash, is_end, later, cell_of, IsRow, IsRowFrom}
use Rattle.run_ignore.specs.declared.matching.Cell.{Cell}
use Rattle.run_ignore.specs.declared.pieces.Piece.{Piece}

-- a path that is not at its end
pub first_is : (path : List ℕ) → 0 < length path → path ≡ get_or path 0 0 ∷ drop 1 path
first_is [] h = absurd (omega arith)
first_is (byte ∷ rest) h = refl

-- the pieces from one on
pub drop_is : (pieces : List Piece) (at : ℕ) (piece : Piece) → at < length pieces → piece ≡ get_or pieces at piece
    → drop at pieces ≡ piece ∷ drop (at + 1) pieces
drop_is pieces at piece h e = drop_more pieces at piece h ∙ ap (λ q. q ∷ drop (at + 1) pieces) (sym e)

-- one more cell of a row
pub row-set : (at : ℕ) (cells : List Cell) (pieces : List Piece) (path : List ℕ) (cell : Cell) → length cells ≡ length pieces + 1
    → at ≤ length pieces → IsRowFrom (at + 1) cells pieces path → cell ≡ cell_of (drop at pieces) path
    → IsRowFrom at (set cells at cell) pieces path
row-set at cells pieces path cell count le row e k from to d =
    elim (cases_eq k at) [
      | inl same ↦ get_or-set_at cells at k cell d same (omega arith) ∙ (e ∙ ap (λ j. cell_of (drop j pieces) path) (sym same))
      | inr other ↦ get_or-set_other cells at k cell d other ∙ row k (omega arith) to d
    ]

-- what the loop of the last row keeps
pub record EndLoop (at : ℕ) (cells : List Cell) (pieces : List Piece) (here : Bool) : Type 0 where
  pub bound : at ≤ length pieces
  pub here_is : here ≡ can (drop at pieces) []
  pub row : IsRowFrom at cells pieces []

-- the cell of pieces at the end of a path
abbrev pub end_cell : Bool → Cell
end_cell here = record { here = here; later = false }

pub end-init : (pieces : List Piece) (cells : List Cell) → length cells ≡ length pieces + 1
    → EndLoop (length pieces) (set cells (length pieces) (end_cell true)) pieces true
end-init pieces cells count =
    let e : drop (length pieces) pieces ≡ [] = drop-length pieces in
    let none : IsRowFrom (length pieces + 1) cells pieces [] = λ k from to d. absurd (omega arith) in
    record {
      bound = omega arith;
      here_is = ap (λ q. can q []) (sym e);
      row = row-set (length pieces) cells pieces [] (end_cell true) count (omega arith) none (ap (λ q. cell_of q []) (sym e));
    }

pub end-step : (pieces : List Piece) (cells : List Cell) (at next : ℕ) (piece : Piece) (behind here : Bool) → at + 1 ≡ next
    → at < length pieces → piece ≡ get_or pieces at piece → length cells ≡ length pieces + 1 → EndLoop next cells pieces behind
    → ((more : List Piece) → behind ≡ can more [] → here ≡ can (piece ∷ more) [])
    → EndLoop at (set cells at (end_cell here)) pieces here
end-step pieces cells at next piece behind here n h e count kept said =
    let kept' : EndLoop (at + 1) cells pieces behind = subst (λ j. EndLoop j cells pieces behind) (sym n) kept in
    let is : here ≡ can (drop at pieces) [] =
    said (drop (at + 1) pieces) kept'.here_is ∙ ap (λ q. can q []) (sym (drop_is pieces at piece h e)) in
    record {
      bound = omega arith;
      here_is = is;
      row = row-set at cells pieces [] (end_cell here) count (omega arith) kept'.row (ap end_cell is);
    }

pub end_done : (pieces : List Piece) (cells : List Cell) (at : ℕ) (here : Bool) → at ≤ 0 → length cells ≡ length pieces + 1
    → EndLoop at cells pieces here → IsRow cells pieces []
end_done pieces cells at here h count kept =
    record { count = count; each = λ k from to d. kept.row k (omega arith) to d }

-- what the loop of a step back keeps: `past` and `behind` are the cells at `at` of what follows the first byte and of the path
pub record StepLoop (at : ℕ) (cells : List Cell) (pieces : List Piece) (path : List ℕ) (past behind : Cell) : Type 0 where
  pub bound : at ≤ length pieces
  pub past_is : past ≡ cell_of (drop at pieces) (drop 1 path)
  pub behind_is : behind ≡ cell_of (drop at pieces) path
  pub todo : (k : ℕ) → k < at → (d : Cell) → get_or cells k d ≡ cell_of (drop k pieces) (drop 1 path)
  pub row : IsRowFrom at cells pieces path

-- a cell, of which one part is told from the cell of what follows the byte
abbrev pub cell_before : Bool → ℕ → Cell → Cell
cell_before here byte same = record { here = here; later = (is_slash byte && same.here) || same.later }

cell_before_is : (pieces : List Piece) (path : List ℕ) (here : Bool) (byte : ℕ) (same : Cell) → path ≡ byte ∷ drop 1 path
    → same ≡ cell_of pieces (drop 1 path) → here ≡ can pieces path → cell_before here byte same ≡ cell_of pieces path
cell_before_is pieces path here byte same whole same_is here_is =
    let later_is : ((is_slash byte && same.here) || same.later) ≡ later (can pieces) path =
    ap (λ (s : Cell). (is_slash byte && s.here) || s.later) same_is ∙ sym (ap (later (can pieces)) whole) in
    ap (λ (b : Bool). let c : Cell = record { here = b; later = (is_slash byte && same.here) || same.later } in c) here_is
    ∙ ap (λ (b : Bool). let c : Cell = record { here = can pieces path; later = b } in c) later_is

pub step-init : (pieces : List Piece) (cells : List Cell) (path : List ℕ) (byte : ℕ) (past : Cell) → IsRow cells pieces (drop 1 path)
    → path ≡ byte ∷ drop 1 path → past ≡ get_or cells (length pieces) past
    → StepLoop (length pieces) (set cells (length pieces) (cell_before false byte past)) pieces path past (cell_before false byte past)
step-init pieces cells path byte past row whole e =
    let none : IsRowFrom (length pieces + 1) cells pieces path = λ k from to d. absurd (omega arith) in
    let past_is : past ≡ cell_of (drop (length pieces) pieces) (drop 1 path) = e ∙ row.each (length pieces) (omega arith) (omega arith) past in
    let end : can (drop (length pieces) pieces) path ≡ false =
    ap (λ q. can q path) (drop-length pieces) ∙ ap is_end whole in
    let is = cell_before_is (drop (length pieces) pieces) path false byte past whole past_is (sym end) in
    record {
      bound = omega arith;
      past_is = past_is;
      behind_is = is;
      todo = λ k h d. get_or-set_other cells (length pieces) k (cell_before false byte past) d (λ same. omega arith) ∙ row.each k (omega arith) (omega arith) d;
      row = row-set (length pieces) cells pieces path (cell_before false byte past) row.count (omega arith) none is;
    }

pub step-step : (pieces : List Piece) (cells : List Cell) (path : List ℕ) (at next : ℕ) (piece : Piece) (byte : ℕ) (past behind same : Cell)
    (here : Bool) → at + 1 ≡ next → at < length pieces → piece ≡ get_or pieces at piece → length cells ≡ length pieces + 1
    → path ≡ byte ∷ drop 1 path → same ≡ get_or cells at same → StepLoop next cells pieces path past behind
    → ((more : List Piece) → (rest : List ℕ) → same.here ≡ can (piece ∷ more) rest → past.here ≡ can more rest
    → behind.here ≡ can more (byte ∷ rest) → behind.later ≡ later (can more) (byte ∷ rest)
    → here ≡ can (piece ∷ more) (byte ∷ rest))
    → StepLoop at (set cells at (cell_before here byte same)) pieces path same (cell_before here byte same)
step-step pieces cells path at next piece byte past behind same here n h e count whole got kept said =
    let kept' : StepLoop (at + 1) cells pieces path past behind = subst (λ j. StepLoop j cells pieces path past behind) (sym n) kept in
    let pieces_are : drop at pieces ≡ piece ∷ drop (at + 1) pieces = drop_is pieces at piece h e in
    let same_is : same ≡ cell_of (drop at pieces) (drop 1 path) = got ∙ kept'.todo at (omega arith) same in
    let here_is : here ≡ can (drop at pieces) path =
    said (drop (at + 1) pieces) (drop 1 path)
    (ap (λ (s : Cell). s.here) same_is ∙ ap (λ q. can q (drop 1 path)) pieces_are)
    (ap (λ (s : Cell). s.here) kept'.past_is)
    (ap (λ (s : Cell). s.here) kept'.behind_is ∙ ap (can (drop (at + 1) pieces)) whole)
    (ap (λ (s : Cell). s.later) kept'.behind_is ∙ ap (later (can (drop (at + 1) pieces))) whole)
    ∙ (sym (ap (can (piece ∷ drop (at + 1) pieces)) whole) ∙ sym (ap (λ q. can q path) pieces_are)) in
    let is = cell_before_is (drop at pieces) path here byte same whole same_is here_is in
    record {
      bound = omega arith;
      past_is = same_is;
      behind_is = is;
      todo = λ k below d. get_or-set_other cells at k (cell_before here byte same) d (λ equal. omega arith) ∙ kept'.todo k (omega arith) d;
      row = row-set at cells pieces path (cell_before here byte same) count (omega arith) kept'.row is;
    }

-- a cell by its parts
abbrev pub cell : Bool → Bool → Cell
cell here later = record { here = here; later = later }

pub step-loop : (pieces : List Piece) (cells : List Cell) (path : List ℕ) (at next : ℕ) (piece : Piece) (byte : ℕ) (past behind same : Cell)
    (here later' : Bool) → later' ≡ ((is_slash byte && same.here) || same.later) → at + 1 ≡ next → at < length pieces
    → piece ≡ get_or pieces at piece → length cells ≡ length pieces + 1
    → path ≡ byte ∷ drop 1 path → same ≡ get_or cells at same → StepLoop next cells pieces path past behind
    → ((more : List Piece) → (rest : List ℕ) → same.here ≡ can (piece ∷ more) rest → past.here ≡ can more rest
    → behind.here ≡ can more (byte ∷ rest) → behind.later ≡ later (can more) (byte ∷ rest)
    → here ≡ can (piece ∷ more) (byte ∷ rest))
    → StepLoop at (set cells at (cell here later')) pieces path same (cell here later')
step-loop pieces cells path at next piece byte past behind same here later' e n h is count whole got kept said =
    subst (λ (b : Bool). StepLoop at (set cells at (cell here b)) pieces path same (cell here b)) (sym e)
    (step-step pieces cells path at next piece byte past behind same here n h is count whole got kept said)

-- what follows the front of a path, by its range
pub rest_is : (path : List ℕ) (at next : ℕ) → at + 1 ≡ next → next ≤ length path
    → drop next path ≡ drop 1 (take (length path - at) (drop at path))
rest_is path at next n h =
    let all : take (length path - at) (drop at path) ≡ drop at path = take_all (length path - at) (drop at path) (omega (arith, length-drop at path)) in
    ap (λ j. drop j path) (sym n) ∙ (sym (drop-drop 1 at path) ∙ ap (drop 1) (sym all))

pub step_done : (pieces : List Piece) (cells : List Cell) (path : List ℕ) (at : ℕ) (past behind : Cell) → at ≤ 0
    → length cells ≡ length pieces + 1 → StepLoop at cells pieces path past behind → IsRow cells pieces path
step_done pieces cells path at past behind h count kept =
    record { count = count; each = λ k from to d. kept.row k (omega arith) to d }
