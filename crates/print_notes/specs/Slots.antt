-- The tokens of a text that is laid out, and the comments that are to be written between them, by their texts.
use Rattle.std.specs.Prelude.{ℕ, Bool, List}
use Rattle.print_notes.specs.declared.slots.Slot.{Slot}
use Rattle.print_notes.specs.declared.slots.Note.{Note}
use Rattle.print_notes.specs.declared.slots.Look.{Look}

-- a token, with what the layout has before it
pub record LaidToken : Type 0 where
  pub before : List ℕ
  pub own : List ℕ
  pub kind : ℕ
  -- nothing else may stand before it
  pub closed : Bool
  -- the layout ends a line before it, and the source has an empty line there
  pub breaks : Bool
  pub parted : Bool
  -- the blanks before it on its line
  pub indent : List ℕ

-- a comment by what stands between its marks
pub record Remark : Type 0 where
  -- it ends with its line
  pub is_line : Bool
  pub text : List ℕ
  -- a line ends within it
  pub breaks : Bool
  -- the line ends before it and behind it
  pub lines : ℕ
  pub behind : ℕ
  -- the gap for which it is meant: the tokens before that
  pub gap : ℕ

-- how the text looks: what ends a line, and one step of the indentation
pub record Looks : Type 0 where
  pub minify : Bool
  pub line_end : List ℕ
  pub step : List ℕ

-- ---- those of the code

abbrev pub token_of : Slot → LaidToken
token_of s = record { before = s.before.now; own = s.own.now; kind = s.kind; closed = s.closed; breaks = s.breaks; parted = s.parted; indent = s.indent.now }

abbrev pub remark_of : Note → Remark
remark_of n = record { is_line = n.is_line; text = n.text.now; breaks = n.breaks; lines = n.lines; behind = n.behind; gap = n.gap }

abbrev pub looks_of : Look → Looks
looks_of l = record { minify = l.minify; line_end = l.line_end.now; step = l.step.now }
