-- Which texts may touch: an automaton over the texts of a layout. Two texts that touch are to be read as the two tokens that they are alone (ECMA-262, clause 12:
-- the longest token is taken), and with no comment between them (12.4, B.1.1).
use Rattle.std.specs.Prelude.{Bool, true, false}

-- what stands last
pub data State : Type 0 where
  -- nothing in this line, or white space alone
  Fresh : State
  -- white space behind a text
  Clear : State
  -- a text that nothing runs into, as `)` or a string
  Shut : State
  -- a word, a big integer, or a regular expression
  Worded : State
  -- a number, which a point would go on with; and one whose point comes next, as `1..a`
  Numbered : State
  Pointed : State
  -- `+`, `-`, `/`, `<`, `<!`, `.`
  Plused : State
  Minused : State
  Slashed : State
  Lessed : State
  LessBanged : State
  Dotted : State
  -- another operator
  Operated : State
  -- `--` that is the first in its line, which `>` would turn into a comment
  Decred : State
  -- `#`
  Hashed : State
  -- characters of a template
  Quasied : State

-- the categories of texts
pub data Category : Type 0 where
  -- words and literals; a number whose point comes next is a `Member`
  Word : Category
  Number : Category
  Big : Category
  Member : Category
  Str : Category
  Regex : Category
  -- `+`, `++`, `-`, `--`, `!`, `/`, `<`, `.`, `...`
  Plus : Category
  Incr : Category
  Minus : Category
  Decr : Category
  Bang : Category
  Slash : Category
  Less : Category
  Dot : Category
  Dots : Category
  -- any other operator behind an operand; `=>`, which nothing goes on with
  Operator : Category
  Arrow : Category
  -- `#`
  Hash : Category
  -- a mark that nothing goes on with, as `(`, `}` or `,`
  Closed : Category
  -- characters of a template, and what ends them
  Quasi : Category
  End : Category

-- White space may follow: anything but a number before its point and the characters of a template.
abbrev pub is_open : State → Bool
is_open Pointed = false
is_open Quasied = false
is_open _ = true

-- Behind an operand, where an operator may touch what stands there.
abbrev pub is_end : State → Bool
is_end Fresh = true
is_end Clear = true
is_end Shut = true
is_end Worded = true
is_end Numbered = true
is_end _ = false

-- Neither a word nor a number stands there, which a word would go on with.
abbrev pub is_wordless : State → Bool
is_wordless Worded = false
is_wordless Numbered = false
is_wordless s = is_open s

-- nor a point, which would begin a number
abbrev pub is_digitless : State → Bool
is_digitless Dotted = false
is_digitless s = is_wordless s

-- ---- what may touch what

-- A text of this category may follow where this stands.
abbrev pub takes : Category → State → Bool
takes Word s = is_wordless s
takes Number s = is_digitless s
takes Big s = is_digitless s
takes Member s = is_digitless s
takes Str s = is_open s
takes Regex Slashed = false
takes Regex s = is_open s
takes Plus Plused = false
takes Plus s = is_open s
takes Incr Plused = false
takes Incr s = is_open s
takes Minus Minused = false
takes Minus s = is_open s
takes Decr Minused = false
takes Decr LessBanged = false
takes Decr s = is_open s
takes Bang Hashed = false
takes Bang s = is_open s
takes Slash s = is_end s
takes Less s = is_end s
takes Operator s = is_end s
takes Arrow s = is_end s
takes Dot Fresh = true
takes Dot Clear = true
takes Dot Shut = true
takes Dot Worded = true
takes Dot Pointed = true
takes Dot Operated = true
takes Dot s = false
takes Dots Fresh = true
takes Dots Clear = true
takes Dots Shut = true
takes Dots Worded = true
takes Dots Operated = true
takes Dots s = false
takes Hash s = is_open s
takes Closed s = is_open s
takes Quasi Shut = true
takes Quasi s = false
takes End Quasied = true
takes End s = false

-- what stands last behind such a text
abbrev pub behind : Category → State → State
behind Word s = Worded
behind Number s = Numbered
behind Big s = Worded
behind Member s = Pointed
behind Str s = Shut
behind Regex s = Worded
behind Plus s = Plused
behind Incr s = Shut
behind Minus s = Minused
behind Decr Fresh = Decred
behind Decr s = Shut
behind Bang Lessed = LessBanged
behind Bang s = Operated
behind Slash s = Slashed
behind Less s = Lessed
behind Operator s = Operated
behind Arrow s = Shut
behind Dot s = Dotted
behind Dots s = Shut
behind Hash s = Hashed
behind Closed s = Shut
behind Quasi s = Quasied
behind End s = Shut

-- behind a blank
abbrev pub blank_behind : State → State
blank_behind Fresh = Fresh
blank_behind s = Clear
