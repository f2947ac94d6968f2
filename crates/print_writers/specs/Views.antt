-- What the writers show of their states.
use Rattle.std.specs.Prelude.{◌≡◌, ℕ, ◌≤◌, ◌||◌, false, List, [], ◌∷◌, length, drop, Option, Some, None, option_map, IfSome, IsSome, true, codes, Result}
use Rattle.std.specs.BTreeSet as set
use Rattle.std.specs.BTreeSet.{BTreeSet}
use Rattle.std.specs.List.{All}
use Rattle.std.specs.Ordering.{nat_cmp}
use Rattle.std.specs.Borrow.{MutBor}
use Rattle.std.specs.declared.vec.Vec.{Vec}
use Rattle.std.specs.Global.{Global}
use base.Fml.{GName}
use Rattle.base_token.specs.declared.place.BytePos.{BytePos}
use Rattle.base_token.specs.declared.place.LineCol.{LineCol}
use Rattle.print_writers.specs.declared.marks.MarkList.{MarkList}
use Rattle.print_writers.specs.declared.js_writer.JsWriter.{JsWriter}
use Rattle.print_writers.specs.Pages.{Marks, Page, told, is_here}
use Rattle.print_writers.specs.States.{State, Keeps}
use Rattle.print_writers.specs.declared.fault.EmitError.{EmitError}

-- the marks in a list
abbrev pub marks_of : MarkList → Marks
marks_of m = record {
  reached = Some m.place;
  pairs = m.list.now.items;
  here = drop m.here m.list.now.items;
  waits = m.waits;
}

-- no position of these pairs is past this one
abbrev pub AreUpTo : ℕ → List (BytePos × LineCol) → Type 0
AreUpTo most pairs = All (λ pair. pair.0.0 ≤ most) pairs

-- The positions of the marks behind so many are those in order and those of the marks behind so many more.
abbrev pub AreSorted : BTreeSet ℕ → ℕ → ℕ → List (BytePos × LineCol) → Type 0
AreSorted sorted here unsorted pairs = (unsorted ≤ length pairs)
    × ((pos : BytePos) → (set.contains nat_cmp sorted pos.0 || is_here pos (drop unsorted pairs)) ≡ is_here pos (drop here pairs))

-- No more marks were there when the place was reached than are now, the greatest position since then is known, and so
-- are those in order.
abbrev pub IsCounted : MarkList → Type 0
IsCounted m = (m.here ≤ length m.list.now.items) × AreUpTo m.highest (drop m.here m.list.now.items)
    × AreSorted m.sorted m.here m.unsorted m.list.now.items

-- the loan of the list
abbrev pub list_name : MarkList → GName
list_name m = m.list.ghost_name

-- what a writer of texts shows, over what the writer behind it holds
abbrev pub js_page : {W : Type 0} → (W → Option (List ℕ)) → JsWriter W → Page
js_page contents w = record {
  out = told (contents w.wr);
  depth = w.depth;
  at_start = w.line_start;
  marks = option_map marks_of w.marks;
  line_end = w.new_line.now;
  indent = w.indent_str.now;
}

abbrev pub js_state : {W : Type 0} → (W → Option (List ℕ)) → JsWriter W → State
js_state contents w = record { page = js_page contents w; held = None; holds = false }

-- the writer behind tells its bytes, and the marks are in order
abbrev pub js_tells : {W : Type 0} → (W → Option (List ℕ)) → JsWriter W → Type 0
js_tells contents w = IsSome (contents w.wr) × IfSome w.marks IsCounted

-- the loans that the writer holds
abbrev pub marks_loans : Option MarkList → List GName
marks_loans None = []
marks_loans (Some m) = list_name m ∷ []

abbrev pub js_loans : {W : Type 0} → JsWriter W → List GName
js_loans w = marks_loans w.marks

-- the writer behind
abbrev pub js_behind : {W : Type 0} → JsWriter W → W
js_behind w = w.wr

abbrev pub js_failures : {W : Type 0} → (W → ℕ) → JsWriter W → ℕ
js_failures count w = count w.wr

-- The list in which the writer keeps its marks: with the loan that it was given, and the pairs so far.
abbrev pub IsListOf : {W : Type 0} → (W → Option (List ℕ)) → JsWriter W → Option (MutBor (Vec (BytePos × LineCol) Global)) → Type 0
IsListOf contents w None = w.marks ≡ None
IsListOf contents w (Some list) = (js_loans w ≡ list.ghost_name ∷ []) × IfSome (js_page contents w).marks (λ m. m.pairs ≡ list.now.items)

-- What each step of that writer keeps, and which faults it may answer.
abbrev pub JsKeeps : {W A : Type 0} → (W → Option (List ℕ)) → (W → ℕ) → JsWriter W → JsWriter W → Result A EmitError → Type 0
JsKeeps contents count old new result = Keeps (js_state contents) (js_failures count) js_loans old new result

-- the marks of a writer that begins, to the end of these pairs
abbrev pub first_marks : List (BytePos × LineCol) → Marks
first_marks pairs = record { reached = Some (record { line = 0; col = 0 }); pairs = pairs; here = []; waits = None }

-- the page of a writer that begins behind these bytes
abbrev pub first_page : List ℕ → List ℕ → Option Marks → Page
first_page out line_end marks = record {
  out = out;
  depth = 0;
  at_start = true;
  marks = marks;
  line_end = line_end;
  indent = codes "    ";
}
