-- Where a comment may stand.
use Rattle.std.specs.Prelude.{ℕ, Bool, false, not, ◌&&◌, ◌||◌, ◌==◌, nat_le, if◌then◌else◌, List, [], ◌∷◌, ◌+◌}
use Rattle.base_token.specs.Kinds.{end_kind, arrow_kind, hash_kind, dot_kind, question_mark_kind, plus_plus_kind, minus_minus_kind, num_kind, semicolon_kind, await_kind, break_kind, continue_kind, return_kind, throw_kind, yield_kind, accessor_kind, assert_kind, async_kind, using_kind}
use Rattle.print_notes.specs.Slots.{LaidToken, Remark}

-- the words behind which no line may end in some production (ECMA-262, 12.10.1)
abbrev pub is_tying : ℕ → Bool
is_tying k = (k == return_kind) || ((k == break_kind) || ((k == continue_kind) || ((k == throw_kind) || ((k == yield_kind) || ((k == async_kind) || ((k == accessor_kind) || ((k == using_kind) || (k == await_kind))))))))

-- the tokens before which none may
abbrev pub is_held : ℕ → Bool
is_held k = (k == arrow_kind) || ((k == plus_plus_kind) || ((k == minus_minus_kind) || (k == assert_kind)))

abbrev pub is_tied : ℕ → ℕ → Bool
is_tied behind k = is_tying behind || is_held k

-- Between these two nothing else may stand: behind `#` (15.7), within `? .` (12.8), and before the point of a number.
abbrev pub touch : ℕ → ℕ → Bool
touch behind k = (behind == hash_kind) || (((behind == question_mark_kind) || (behind == num_kind)) && (k == dot_kind))

-- With `-` no line begins where none did, since `-->` would be a comment (B.1.1).
abbrev pub begins_dash : List ℕ → Bool
begins_dash [] = false
begins_dash (c ∷ cs) = c == 45

-- No line begins with the token where the layout begins none; before the first token one may, but for `-`. A semicolon stands in the line that it ends.
abbrev pub stays_in_line : ℕ → LaidToken → Bool
stays_in_line behind t = begins_dash t.own || (not (behind == end_kind) && (is_tied behind t.kind || (t.kind == semicolon_kind)))

-- a line ends within the comment or behind it
abbrev pub ends_a_line : Remark → Bool
ends_a_line r = r.is_line || r.breaks

-- nothing else may stand before the token
abbrev pub is_fixed : ℕ → LaidToken → Bool
is_fixed behind t = t.closed || touch behind t.kind

abbrev pub is_safe : ℕ → LaidToken → Remark → Bool
is_safe behind t r = not (is_fixed behind t) && (t.breaks || (not (ends_a_line r) || not (stays_in_line behind t)))

-- it is meant for this gap or one before it, and may stand here
abbrev pub fits : ℕ → ℕ → LaidToken → Remark → Bool
fits gap behind t r = nat_le r.gap gap && is_safe behind t r

-- of the comments that are still to be written, how many at the front fit
abbrev pub fitting : ℕ → ℕ → LaidToken → List Remark → ℕ
fitting gap behind t [] = 0
fitting gap behind t (r ∷ rs) = if fits gap behind t r then fitting gap behind t rs + 1 else 0
