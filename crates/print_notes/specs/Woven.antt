-- The text with the comments between its tokens.
use Rattle.std.specs.Prelude.{ℕ, Bool, false, not, ◌&&◌, ◌||◌, ◌==◌, ◌+◌, if◌then◌else◌, List, [], ◌∷◌, ◌++◌, take, drop}
use Rattle.base_token.specs.Kinds.{end_kind, shebang_kind}
use Rattle.print_notes.specs.Slots.{LaidToken, Remark, Looks}
use Rattle.print_notes.specs.Safe.{is_fixed, fitting}
use Rattle.print_notes.specs.Spacing.{Place, place_before, place_at_end, next_line, is_opening, is_closing, Form, form_of, Lines, space_text, first_space, next_space, last_space}

-- a comment with its marks
abbrev pub comment_text : Remark → List ℕ
comment_text r = if r.is_line then 47 ∷ 47 ∷ r.text else 47 ∷ 42 ∷ (r.text ++ 42 ∷ 47 ∷ [])

-- what stands behind a comment of a gap
abbrev pub behind_comment : Looks → Place → Form → Remark → List Remark → List ℕ
behind_comment l p f q [] = space_text l p.indent (last_space l p f q)
behind_comment l p f q (r ∷ rs) = space_text l p.indent (next_space l p f q r) ++ (comment_text r ++ behind_comment l p f r rs)

-- a gap with comments, of which this is the first
abbrev pub noted_gap : Looks → Place → Form → Remark → List Remark → List ℕ
noted_gap l p f r rs = space_text l p.indent (first_space l p f r) ++ (comment_text r ++ behind_comment l p f r rs)

-- The layout's own gap; for people with the empty line that the source has there.
abbrev pub is_parted : Looks → Place → LaidToken → Bool
is_parted l p t = not l.minify && ((t.breaks && t.parted) && not (is_fixed p.behind t || (is_opening p.behind || (is_closing p.next || (p.behind == end_kind)))))

abbrev pub plain_gap : Looks → Place → LaidToken → List ℕ
plain_gap l p t = if is_parted l p t then space_text l p.indent (Lines 2 false) else t.before

-- what stands before a token
abbrev pub gap_before : Looks → Place → LaidToken → List Remark → List ℕ
gap_before l p t [] = plain_gap l p t
gap_before l p t (r ∷ rs) = noted_gap l p (form_of p (r ∷ rs)) r rs

-- and behind the last
abbrev pub gap_at_end : Looks → Place → List ℕ → List Remark → List ℕ
gap_at_end l p tail [] = tail
gap_at_end l p tail (r ∷ rs) = noted_gap l p (form_of p (r ∷ rs)) r rs

-- The text from a gap on: `line` are the blanks at the start of its line, `behind` is the kind of the token before it, and the comments are those that are still to be written.
abbrev pub woven_from : Looks → List ℕ → ℕ → ℕ → List LaidToken → List ℕ → List Remark → List ℕ
woven_from l line behind gap [] tail rs = gap_at_end l (place_at_end behind) tail rs
woven_from l line behind gap (t ∷ ts) tail rs =
    gap_before l (place_before behind line t) t (take (fitting gap behind t rs) rs)
    ++ (t.own ++ woven_from l (next_line line t) t.kind (gap + 1) ts tail (drop (fitting gap behind t rs) rs))

-- the kind of what stands before all tokens: a hashbang, or nothing
abbrev pub kind_of_lead : List ℕ → ℕ
kind_of_lead [] = end_kind
kind_of_lead (c ∷ cs) = shebang_kind

-- The whole text: `lead` is a hashbang, or nothing.
abbrev pub woven : Looks → List ℕ → List LaidToken → List ℕ → List Remark → List ℕ
woven l lead ts tail rs = lead ++ woven_from l [] (kind_of_lead lead) 0 ts tail rs
