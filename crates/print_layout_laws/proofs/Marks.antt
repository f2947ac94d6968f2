-- Where marks stand tells nothing of what pieces write.
use Rattle.std.proofs.Common.{◌≡◌, Bool, true, false, if◌then◌else◌, ◌==◌, List, [], ◌∷◌, Some, None, codes, refl, ap, ◌∙◌}
use Rattle.base_token.specs.declared.place.BytePos.{BytePos}
use Rattle.base_token.specs.declared.place.Span.{Span}
use Rattle.tree_spec.specs.Places.{no_place}
use Rattle.print_writers.specs.Pages.{Page, put, put_line, put_mark, deeper, shallower, marked}
use Rattle.print_writers.specs.States.{span_or_none}
use Rattle.print_pages_spec.specs.Pieces.{Piece, Text, Brace, Blank, Line, Deeper, Back, Semicolon, Commit, Mark, resolved, shortened, behind, semicolon}
use Rattle.print_pages_spec.proofs.Unmarked.{plain, plain_put, plain_line, plain_deeper, plain_shallower}
use Rattle.print_layout_laws.specs.Marks.{unmarked}

-- ---- each step

one_page : (b c : Bool) (p q r s : Page) → plain p ≡ s → plain q ≡ s → plain r ≡ s → plain (if b then p else (if c then q else r)) ≡ s
one_page true c p q r s x y z = x
one_page false true p q r s x y z = y
one_page false false p q r s x y z = z

-- a mark at no place makes none
plain_mark : (pos : BytePos) (p : Page) → plain (put_mark pos p) ≡ put_mark no_place.lo (plain p)
unfolding put_mark marked
plain_mark pos p = one_page (pos.0 == 0) p.at_start p _ _ (plain p) refl refl refl

-- ---- pieces

pub plain_resolved : (xs : List Piece) (p : Page) → plain (resolved xs p) ≡ resolved (unmarked xs) (plain p)
plain_resolved [] p = refl
plain_resolved (Text span bytes ∷ xs) p = plain_resolved xs _ ∙ ap (λ q. resolved (unmarked xs) q) (plain_put span bytes p)
plain_resolved (Brace span ∷ xs) p = plain_resolved xs _ ∙ ap (λ q. resolved (unmarked xs) q) (plain_put span (codes "}") p)
plain_resolved (Blank ∷ xs) p = plain_resolved xs _ ∙ ap (λ q. resolved (unmarked xs) q) (plain_put None (codes " ") p)
plain_resolved (Line ∷ xs) p = plain_resolved xs _ ∙ ap (λ q. resolved (unmarked xs) q) (plain_line p)
plain_resolved (Deeper ∷ xs) p = plain_resolved xs _ ∙ ap (λ q. resolved (unmarked xs) q) (plain_deeper p)
plain_resolved (Back ∷ xs) p = plain_resolved xs _ ∙ ap (λ q. resolved (unmarked xs) q) (plain_shallower p)
plain_resolved (Semicolon span ∷ xs) p = plain_resolved xs _ ∙ ap (λ q. resolved (unmarked xs) q) (plain_put span (codes ";") p)
plain_resolved (Commit ∷ xs) p = plain_resolved xs p
plain_resolved (Mark pos ∷ xs) p = plain_resolved xs _ ∙ ap (λ q. resolved (unmarked xs) q) (plain_mark pos p)

mutual
  pub plain_shortened : (xs : List Piece) (p : Page) → plain (shortened xs p) ≡ shortened (unmarked xs) (plain p)
  plain_shortened [] p = refl
  plain_shortened (Text span bytes ∷ xs) p = plain_shortened xs _ ∙ ap (λ q. shortened (unmarked xs) q) (plain_put span bytes p)
  plain_shortened (Brace span ∷ xs) p = plain_shortened xs _ ∙ ap (λ q. shortened (unmarked xs) q) (plain_put span (codes "}") p)
  plain_shortened (Blank ∷ xs) p = plain_shortened xs _ ∙ ap (λ q. shortened (unmarked xs) q) (plain_put None (codes " ") p)
  plain_shortened (Line ∷ xs) p = plain_shortened xs _ ∙ ap (λ q. shortened (unmarked xs) q) (plain_line p)
  plain_shortened (Deeper ∷ xs) p = plain_shortened xs _ ∙ ap (λ q. shortened (unmarked xs) q) (plain_deeper p)
  plain_shortened (Back ∷ xs) p = plain_shortened xs _ ∙ ap (λ q. shortened (unmarked xs) q) (plain_shallower p)
  plain_shortened (Semicolon span ∷ xs) p = plain_behind (span_or_none span) xs p
  plain_shortened (Commit ∷ xs) p = plain_shortened xs p
  plain_shortened (Mark pos ∷ xs) p = plain_shortened xs _ ∙ ap (λ q. shortened (unmarked xs) q) (plain_mark pos p)

  plain_behind : (own : Span) (xs : List Piece) (p : Page) → plain (behind own xs p) ≡ behind own (unmarked xs) (plain p)
  plain_behind own [] p = refl
  plain_behind own (Text span bytes ∷ xs) p = plain_shortened xs _ ∙ ap (λ q. shortened (unmarked xs) q) (plain_put span bytes (semicolon own p) ∙ ap (λ q. put span bytes q) (plain_put (Some own) (codes ";") p))
  plain_behind own (Brace span ∷ xs) p = plain_shortened xs _ ∙ ap (λ q. shortened (unmarked xs) q) (plain_put span (codes "}") p)
  plain_behind own (Blank ∷ xs) p = plain_shortened xs _ ∙ ap (λ q. shortened (unmarked xs) q) (plain_put None (codes " ") (semicolon own p) ∙ ap (λ q. put None (codes " ") q) (plain_put (Some own) (codes ";") p))
  plain_behind own (Line ∷ xs) p = plain_shortened xs _ ∙ ap (λ q. shortened (unmarked xs) q) (plain_line (semicolon own p) ∙ ap (λ q. put_line q) (plain_put (Some own) (codes ";") p))
  plain_behind own (Deeper ∷ xs) p = plain_shortened xs _ ∙ ap (λ q. shortened (unmarked xs) q) (plain_deeper (semicolon own p) ∙ ap (λ q. deeper q) (plain_put (Some own) (codes ";") p))
  plain_behind own (Back ∷ xs) p = plain_shortened xs _ ∙ ap (λ q. shortened (unmarked xs) q) (plain_shallower (semicolon own p) ∙ ap (λ q. shallower q) (plain_put (Some own) (codes ";") p))
  plain_behind own (Semicolon span ∷ xs) p = plain_behind (span_or_none span) xs _ ∙ ap (λ q. behind (span_or_none span) (unmarked xs) q) (plain_put (Some own) (codes ";") p)
  plain_behind own (Commit ∷ xs) p = plain_shortened xs _ ∙ ap (λ q. shortened (unmarked xs) q) (plain_put (Some own) (codes ";") p)
  plain_behind own (Mark pos ∷ xs) p = plain_behind own xs _ ∙ ap (λ q. behind own (unmarked xs) q) (plain_mark pos p)
