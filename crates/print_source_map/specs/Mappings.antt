-- What the text of mappings says (ECMA-426, "Mappings structure"): lines, which `;` parts, of segments, which `,` parts, of numbers. All places are from 0.
use Rattle.std.specs.Prelude.{ℕ, ◌+◌, List, [], ◌∷◌, Option, Some, None, if◌then◌else◌, ◌==◌, option_map, option_and_then}
use Rattle.print_source_map.specs.declared.mapping.Mapping.{Mapping}
use Rattle.print_source_map.specs.Numbers.{digit, with_digit, moved}

-- the numbers of the segments of each line, with one more character before them
abbrev pub with_character : ℕ → List (List (List ℕ)) → Option (List (List (List ℕ)))
with_character c ((s ∷ ss) ∷ ls) =
    if c == 59 then Some (([] ∷ []) ∷ (s ∷ ss) ∷ ls)
    else if c == 44 then Some (([] ∷ s ∷ ss) ∷ ls)
    else option_and_then (λ d. option_map (λ ns. (ns ∷ ss) ∷ ls) (with_digit d s)) (digit c)
with_character c ls = None

-- the numbers of the segments of each line of a text: no text is one line of one segment, which has no number
abbrev pub lines_of : List ℕ → Option (List (List (List ℕ)))
lines_of [] = Some (([] ∷ []) ∷ [])
lines_of (c ∷ cs) = option_and_then (with_character c) (lines_of cs)

-- the mapping of a segment of four numbers, each counted on from the mapping before: the column, the source, which is the only one, and the line and the
-- column of the source
abbrev pub mapping_after : Mapping → List ℕ → Option Mapping
mapping_after p (column ∷ source ∷ line ∷ source_column ∷ []) =
    if source == 0
    then option_and_then
    (λ c. option_and_then
    (λ l. option_map (λ k. record { written = record { line = p.written.line; col = c }; source = record { line = l; col = k } }) (moved p.source.col source_column))
    (moved p.source.line line))
    (moved p.written.col column)
    else None
mapping_after p ns = None

-- the start of the next line that was written; the source stays where it is
abbrev pub line_after : Mapping → Mapping
line_after p = record { written = record { line = p.written.line + 1; col = 0 }; source = p.source }

-- the mappings of the segments of a line, and then those that its last one leads to; a line may be empty
abbrev pub along_line : Mapping → List (List ℕ) → (Mapping → Option (List Mapping)) → Option (List Mapping)
along_line p [] rest = rest p
along_line p (s ∷ ss) rest = option_and_then (λ m. option_map (λ ms. m ∷ ms) (along_line m ss rest)) (mapping_after p s)

abbrev pub of_line : Mapping → List (List ℕ) → (Mapping → Option (List Mapping)) → Option (List Mapping)
of_line p ([] ∷ []) rest = rest p
of_line p ss rest = along_line p ss rest

-- the mappings of lines, where the first begins at this place
abbrev pub of_lines : Mapping → List (List (List ℕ)) → Option (List Mapping)
of_lines p [] = Some []
of_lines p (l ∷ ls) = of_line p l (λ q. of_lines (line_after q) ls)

-- before all mappings
abbrev pub start : Mapping
start = record { written = record { line = 0; col = 0 }; source = record { line = 0; col = 0 } }

-- The mappings that a text says, in the order in which they stand there; nothing where it is no text of mappings, or one with a segment that has not four numbers.
abbrev pub mappings_of : List ℕ → Option (List Mapping)
mappings_of text = option_and_then (of_lines start) (lines_of text)
