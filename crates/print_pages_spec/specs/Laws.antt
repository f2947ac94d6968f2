-- Laws of pieces and of the indentation.
use Rattle.std.specs.Prelude.{◌≡◌, ◌<◌, true, false, List, Some, None}
use Rattle.base_token.specs.declared.place.Span.{Span}
use Rattle.print_writers.specs.Pages.{Page, deeper, shallower, last_depth}
use Rattle.print_pages_spec.specs.Pieces.{Piece, calls, resolved, shortened, behind}

-- The calls of a writer in which no semicolon waits write and mark what the pieces are resolved to.
abbrev pub CallsResolve : Type 0
CallsResolve = (xs : List Piece) (p : Page) → (calls xs (record { page = p; held = None; holds = false })).page ≡ resolved xs p

-- So do those of a writer in which they wait: where none waits, and where one does.
abbrev pub CallsShorten : Type 0
CallsShorten = (xs : List Piece) (p : Page) → (calls xs (record { page = p; held = None; holds = true })).page ≡ shortened xs p

abbrev pub CallsGoOn : Type 0
CallsGoOn = (xs : List Piece) (own : Span) (p : Page) → (calls xs (record { page = p; held = Some own; holds = true })).page ≡ behind own xs p

-- A step deeper and one back leave the depth where it was below the deepest.
abbrev pub DepthComesBack : Type 0
DepthComesBack = (p : Page) → p.depth < last_depth → shallower (deeper p) ≡ p

-- At the deepest a step deeper changes nothing, and at 0 a step back.
abbrev pub DepthStays : Type 0
DepthStays = (p : Page) → (p.depth ≡ last_depth → deeper p ≡ p) × (p.depth ≡ 0 → shallower p ≡ p)
