-- What stands between the comments of a gap and beside them.
use Rattle.std.specs.Prelude.{ℕ, zero, suc, Bool, true, false, not, ◌&&◌, ◌||◌, ◌==◌, nat_lt, min, max, if◌then◌else◌, List, [], ◌∷◌, ◌++◌}
use Rattle.base_token.specs.Kinds.{end_kind, left_paren_kind, right_paren_kind, left_bracket_kind, right_bracket_kind, left_brace_kind, right_brace_kind, semicolon_kind, comma_kind, dollar_brace_kind, div_kind, shebang_kind}
use Rattle.print_notes.specs.Slots.{LaidToken, Remark, Looks}
use Rattle.print_notes.specs.Safe.{stays_in_line}

-- ---- a gap, by the tokens beside it

abbrev pub is_opening : ℕ → Bool
is_opening k = (k == left_paren_kind) || ((k == left_bracket_kind) || ((k == left_brace_kind) || (k == dollar_brace_kind)))

abbrev pub is_closing : ℕ → Bool
is_closing k = (k == right_paren_kind) || ((k == right_bracket_kind) || (k == right_brace_kind))

-- `)`, `]`, `,` and `;`, which no blank stands before
abbrev pub is_joined : ℕ → Bool
is_joined k = (k == right_paren_kind) || ((k == right_bracket_kind) || ((k == comma_kind) || (k == semicolon_kind)))

pub record Place : Type 0 where
  -- the layout ends a line there; else: it is at the start of the text, or at its end
  pub breaks : Bool
  pub first : Bool
  pub last : Bool
  -- no line may begin there, where the layout begins none
  pub stays : Bool
  -- the token before it, and the one behind it
  pub behind : ℕ
  pub next : ℕ
  -- the blanks before what stands behind it where a line ends there, else those of the line that it stands in
  pub indent : List ℕ

-- the blanks at the start of the line behind a token
abbrev pub next_line : List ℕ → LaidToken → List ℕ
next_line line t = if t.breaks then t.indent else line

abbrev pub place_before : ℕ → List ℕ → LaidToken → Place
place_before behind line t = record { breaks = t.breaks; first = (behind == end_kind) && not t.breaks; last = false; stays = stays_in_line behind t; behind = behind; next = t.kind; indent = next_line line t }

abbrev pub place_at_end : ℕ → Place
place_at_end behind = record { breaks = behind == shebang_kind; first = behind == end_kind; last = true; stays = false; behind = behind; next = end_kind; indent = [] }

-- `{ }` in a line
abbrev pub is_empty_braces : Place → Bool
is_empty_braces p = not p.breaks && ((p.behind == left_brace_kind) && (p.next == right_brace_kind))

-- ---- whether the comments of the gap stand in lines of their own

-- Some line ends among them in the source, before one or behind the last. `ends`: one ends behind what stands before these.
abbrev pub some_lines_from : Bool → List Remark → Bool
some_lines_from ends [] = ends
some_lines_from ends (r ∷ rs) = nat_lt 0 r.lines || some_lines_from (r.is_line || nat_lt 0 r.behind) rs

abbrev pub some_lines : List Remark → Bool
some_lines rs = some_lines_from false rs

pub record Form : Type 0 where
  -- lines may end in the gap; the first comment begins one
  pub lined : Bool
  pub leads : Bool

abbrev pub form_of : Place → List Remark → Form
form_of p rs = record {
  lined = p.breaks || (not p.stays && (p.first || (p.last || (is_empty_braces p && some_lines rs))));
  leads = (p.behind == shebang_kind) || (is_empty_braces p || (not (is_closing p.next) && not (some_lines rs)));
}

-- ---- what stands beside comments

-- nothing, a blank, or so many line ends and then the indentation, one step deeper or not
pub data Space : Type 0 where
  Tight : Space
  Blank : Space
  Lines : ℕ → Bool → Space

abbrev pub times : ℕ → List ℕ → List ℕ
times zero cs = []
times (suc n) cs = cs ++ times n cs

abbrev pub space_text : Looks → List ℕ → Space → List ℕ
space_text l indent Tight = []
space_text l indent Blank = 32 ∷ []
space_text l indent (Lines n deeper) = times n l.line_end ++ (indent ++ (if deeper then l.step else []))

-- at least one line end, and at most one empty line
abbrev pub kept : ℕ → ℕ
kept n = min 2 (max 1 n)

-- lines of comments stand deeper before a closing bracket; and within a line, but behind `}`
abbrev pub is_deeper : Place → Form → Bool
is_deeper p f = if f.lined then is_closing p.next else not (p.behind == right_brace_kind)

-- before the first comment
abbrev pub first_minified : Place → Space
first_minified p = if p.breaks then Lines 1 false else if p.behind == div_kind then Blank else Tight

abbrev pub first_in_lines : Place → Form → Remark → Space
first_in_lines p f r =
    if p.first then Tight
    else if f.leads || nat_lt 0 r.lines then Lines (if is_opening p.behind then 1 else kept r.lines) (is_deeper p f) else Blank

abbrev pub first_in_line : Place → Remark → Space
first_in_line p r = if p.first || (is_opening p.behind && not (r.is_line || is_empty_braces p)) then Tight else Blank

abbrev pub first_space : Looks → Place → Form → Remark → Space
first_space l p f r = if l.minify then first_minified p else if f.lined then first_in_lines p f r else first_in_line p r

-- behind a comment of a text that is minified
abbrev pub behind_minified : Remark → Space
behind_minified q = if q.is_line then Lines 1 false else Tight

-- between two
abbrev pub next_space : Looks → Place → Form → Remark → Remark → Space
next_space l p f q r =
    if l.minify then behind_minified q
    else if f.lined then (if q.is_line || nat_lt 0 r.lines then Lines (kept r.lines) (is_deeper p f) else Blank)
    else if q.is_line then Lines 1 (is_deeper p f) else Blank

-- behind the last
abbrev pub last_in_lines : Place → Remark → Space
last_in_lines p q =
    if p.last || is_closing p.next then Lines 1 false
    else if q.is_line || nat_lt 0 q.behind then Lines (kept q.behind) false else Blank

abbrev pub last_in_line : Place → Form → Remark → Space
last_in_line p f q = if q.is_line then Lines 1 (is_deeper p f && not (is_closing p.next)) else if is_joined p.next then Tight else Blank

abbrev pub last_space : Looks → Place → Form → Remark → Space
last_space l p f q = if l.minify then behind_minified q else if f.lined then last_in_lines p q else last_in_line p f q
