-- The calls of a writer, by induction on the pieces.
use Rattle.std.proofs.Common.{◌≡◌, List, [], ◌∷◌, None, Some, true, false, refl}
use Rattle.base_token.specs.declared.place.Span.{Span}
use Rattle.print_writers.specs.Pages.{Page, put, put_line, put_mark, deeper, shallower}
use Rattle.print_writers.specs.States.{text, punct, line, increase, decrease, semi, commit, mark, span_or_none}
use Rattle.std.specs.Prelude.{codes}
use Rattle.print_pages_spec.specs.Pieces.{Piece, Text, Brace, Blank, Line, Deeper, Back, Semicolon, Commit, Mark, calls, resolved, shortened, behind, semicolon}

pub calls_resolve : (xs : List Piece) (p : Page) → (calls xs (record { page = p; held = None; holds = false })).page ≡ resolved xs p
unfolding text punct line increase decrease semi commit mark
calls_resolve [] p = refl
calls_resolve (Text span bytes ∷ xs) p = calls_resolve xs (put span bytes p)
calls_resolve (Brace span ∷ xs) p = calls_resolve xs (put span (codes "}") p)
calls_resolve (Blank ∷ xs) p = calls_resolve xs (put None (codes " ") p)
calls_resolve (Line ∷ xs) p = calls_resolve xs (put_line p)
calls_resolve (Deeper ∷ xs) p = calls_resolve xs (deeper p)
calls_resolve (Back ∷ xs) p = calls_resolve xs (shallower p)
calls_resolve (Semicolon span ∷ xs) p = calls_resolve xs (put span (codes ";") p)
calls_resolve (Commit ∷ xs) p = calls_resolve xs p
calls_resolve (Mark pos ∷ xs) p = calls_resolve xs (put_mark pos p)

mutual
  unfolding text punct line increase decrease semi commit mark

  pub calls_shorten : (xs : List Piece) (p : Page) → (calls xs (record { page = p; held = None; holds = true })).page ≡ shortened xs p
  calls_shorten [] p = refl
  calls_shorten (Text span bytes ∷ xs) p = calls_shorten xs (put span bytes p)
  calls_shorten (Brace span ∷ xs) p = calls_shorten xs (put span (codes "}") p)
  calls_shorten (Blank ∷ xs) p = calls_shorten xs (put None (codes " ") p)
  calls_shorten (Line ∷ xs) p = calls_shorten xs (put_line p)
  calls_shorten (Deeper ∷ xs) p = calls_shorten xs (deeper p)
  calls_shorten (Back ∷ xs) p = calls_shorten xs (shallower p)
  calls_shorten (Semicolon span ∷ xs) p = calls_go_on xs (span_or_none span) p
  calls_shorten (Commit ∷ xs) p = calls_shorten xs p
  calls_shorten (Mark pos ∷ xs) p = calls_shorten xs (put_mark pos p)

  pub calls_go_on : (xs : List Piece) (own : Span) (p : Page) → (calls xs (record { page = p; held = Some own; holds = true })).page ≡ behind own xs p
  calls_go_on [] own p = refl
  calls_go_on (Text span bytes ∷ xs) own p = calls_shorten xs (put span bytes (semicolon own p))
  calls_go_on (Brace span ∷ xs) own p = calls_shorten xs (put span (codes "}") p)
  calls_go_on (Blank ∷ xs) own p = calls_shorten xs (put None (codes " ") (semicolon own p))
  calls_go_on (Line ∷ xs) own p = calls_shorten xs (put_line (semicolon own p))
  calls_go_on (Deeper ∷ xs) own p = calls_shorten xs (deeper (semicolon own p))
  calls_go_on (Back ∷ xs) own p = calls_shorten xs (shallower (semicolon own p))
  calls_go_on (Semicolon span ∷ xs) own p = calls_go_on xs (span_or_none span) (semicolon own p)
  calls_go_on (Commit ∷ xs) own p = calls_shorten xs (semicolon own p)
  calls_go_on (Mark pos ∷ xs) own p = calls_go_on xs own (put_mark pos p)
