-- What the text of a node is.
use Rattle.std.specs.Prelude.{◌≡◌, ℕ, true, false, List, [], Result, Ok, Err, None, codes, String, string_bytes}
use Rattle.print_writers.specs.Views.{first_page}
use Rattle.print_writers.specs.declared.fault.EmitError.{EmitError}
use Rattle.print_writers.specs.declared.fault.EmitError.TheVariants.{Write, Memory, Node, Position}
use Rattle.print_pages_spec.specs.Pieces.{resolved}
use Rattle.print_layout_spec.specs.Looks.{Laid, listed, is_refused}

-- the bytes of a layout, in lines that end with LF and are indented by four blanks
abbrev pub bytes_of : Laid → List ℕ
bytes_of l = (resolved (listed l []) (first_page [] (codes "\n") None)).out

-- The text is the layout; or a part of it can't be printed; or there is no memory, of which nothing is said.
abbrev pub Codes : {Z : Type 0} → Laid → Result (String Z) EmitError → Type 0
Codes l (Ok text) = (is_refused l ≡ false) × (string_bytes text ≡ bytes_of l)
Codes l (Err Memory) = Unit {0}
Codes l (Err Node) = is_refused l ≡ true
Codes l (Err Position) = ⊥
Codes l (Err (Write kind)) = ⊥

-- The text with comments between the parts of a node, of which only that is said: whether something can't be printed.
abbrev pub Noted : {Z : Type 0} → Laid → Result (String Z) EmitError → Type 0
Noted l (Ok text) = is_refused l ≡ false
Noted l (Err Memory) = Unit {0}
Noted l (Err Node) = is_refused l ≡ true
Noted l (Err Position) = ⊥
Noted l (Err (Write kind)) = Unit {0}
