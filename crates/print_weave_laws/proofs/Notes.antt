-- The comments of a gap are found as they are written.
use Rattle.std.proofs.Common.{◌≡◌, ◌<◌, ℕ, zero, suc, ◌+◌, Bool, true, false, not, ◌&&◌, ◌||◌, List, [], ◌∷◌, ◌++◌, append-nil, refl, sym, ap, subst, ◌∙◌, arith}
use Rattle.std.specs.Prelude.{nat_lt, max, min}
use Rattle.std.specs.List.{list_any}
use Rattle.std.proofs.lemmas.Bool.{and_parts, false≢true}
use Rattle.std.proofs.lemmas.Bool.Decides.{nat_tests}
use Rattle.base_proofs.proofs.Bools.{or_false}
use Rattle.lex_pieces.specs.Characters.{is_line_terminator}
use Rattle.lex_pieces.specs.declared.trivia.Goal.{Goal}
use Rattle.lex_pieces.specs.declared.trivia.Goal.TheVariants.{Module}
use Rattle.print_weave_laws.specs.Gaps.{Trivium, White, Feed, Return, Block, Line, is_end_of_line, breaks_line, ends_line, AreTrivia, Note, BlockNote, LineNote}
use Rattle.print_weave_laws.specs.Cells.{begins_apart}
use Rattle.print_weave_laws.specs.Notes.{Placed, spaces, feeds, between, trivium, written_by, before_all, told, is_line, kept_lines, tidied_by, IsNote, AreNotes, lines_end, note_breaks, some_break}
use Rattle.print_weave_laws.specs.Laws.{FoundAreNotes, NotesAreTold, TidyEndsLines, TidyStays, WrittenAreTrivia}
use Rattle.print_weave_laws.proofs.Inserting.{as_module}

spaces_told : (n d : ℕ) (us : List Trivium) → told n (spaces d ++ us) ≡ told n us
spaces_told n zero us = refl
spaces_told n (suc d) us = spaces_told n d us

feeds_told : (n m d : ℕ) (us : List Trivium) → told n ((feeds m ++ spaces d) ++ us) ≡ told (n + m) us
feeds_told n zero d us = spaces_told n d us ∙ ap (λ (k : ℕ). told k us) (let e : n ≡ n + 0 = omega arith in e)
feeds_told n (suc m) d us = feeds_told (n + 1) m d us ∙ ap (λ (k : ℕ). told k us) (let e : (n + 1) + m ≡ n + suc m = omega arith in e)

between_told : (m d : ℕ) (us : List Trivium) → told 0 (between m d ++ us) ≡ told m us
between_told zero d us = refl
between_told (suc m) d us = feeds_told 1 m d us ∙ ap (λ (k : ℕ). told k us) (let e : 1 + m ≡ suc m = omega arith in e)

between_end : (m d : ℕ) → told 0 (between m d) ≡ record { placed = []; behind = m }
between_end zero d = refl
between_end (suc m) d = ends 1 m d ∙ ap (λ (k : ℕ). record { placed = []; behind = k }) (let e : 1 + m ≡ suc m = omega arith in e)
  where
    flat : (n d : ℕ) → told n (spaces d) ≡ record { placed = []; behind = n }
    flat n zero = refl
    flat n (suc d) = flat n d

    ends : (n m d : ℕ) → told n (feeds m ++ spaces d) ≡ record { placed = []; behind = n + m }
    ends n zero d = flat n d ∙ ap (λ (k : ℕ). record { placed = []; behind = k }) (let e : n ≡ n + 0 = omega arith in e)
    ends n (suc m) d = ends (n + 1) m d ∙ ap (λ (k : ℕ). record { placed = []; behind = k }) (let e : (n + 1) + m ≡ n + suc m = omega arith in e)

note_told : (n : ℕ) (x : Note) (us : List Trivium) → told n (trivium x ∷ us) ≡ before_all n x (told 0 us)
note_told n (BlockNote own) us = refl
note_told n (LineNote own) us = refl

told_by : (depth outer : ℕ) (ps : List Placed) (behind : ℕ) → told 0 (written_by depth outer ps behind) ≡ record { placed = ps; behind = behind }
told_by depth outer [] behind = between_end behind outer
told_by depth outer (p ∷ ps) behind =
    between_told p.lines depth (trivium p.note ∷ written_by depth outer ps behind)
    ∙ (note_told p.lines p.note (written_by depth outer ps behind) ∙ ap (before_all p.lines p.note) (told_by depth outer ps behind))

pub notes_are_told : NotesAreTold
notes_are_told depth outer n = told_by depth outer n.placed n.behind

kept_again : (most : ℕ) (line : Bool) (n : ℕ) → kept_lines most line (kept_lines most line n) ≡ kept_lines most line n
kept_again most true n = omega arith
kept_again most false n = omega arith

tidied_again : (most : ℕ) (line : Bool) (ps : List Placed) (behind : ℕ) → tidied_by most line (tidied_by most line ps behind).placed (tidied_by most line ps behind).behind ≡ tidied_by most line ps behind
tidied_again most line [] behind = ap (λ (k : ℕ). record { placed = []; behind = k }) (kept_again most line behind)
tidied_again most line (p ∷ ps) behind =
    ap (λ (k : ℕ). before_all k p.note (tidied_by most (is_line p.note) (tidied_by most (is_line p.note) ps behind).placed (tidied_by most (is_line p.note) ps behind).behind)) (kept_again most line p.lines)
    ∙ ap (before_all (kept_lines most line p.lines) p.note) (tidied_again most (is_line p.note) ps behind)

pub tidy_stays : TidyStays
tidy_stays most n = tidied_again most false n.placed n.behind

-- ---- what is written is trivia

spaces_are : (first : Bool) (d : ℕ) (us : List Trivium) → AreTrivia Module first false us → AreTrivia Module first false (spaces d ++ us)
spaces_are first zero us a = a
spaces_are first (suc d) us a = (refl, spaces_are (first || false) d us (as_module Module first (first || false) false us a))

feeds_are : (first : Bool) (m d : ℕ) (us : List Trivium) → AreTrivia Module first false us → AreTrivia Module first false ((feeds m ++ spaces d) ++ us)
feeds_are first zero d us a = spaces_are first d us a
feeds_are first (suc m) d us a = ((refl, refl), feeds_are (first || true) m d us (as_module Module first (first || true) false us a))

between_are : (first : Bool) (m d : ℕ) (us : List Trivium) → AreTrivia Module first false us → AreTrivia Module first false (between m d ++ us)
between_are first zero d us a = (refl, as_module Module first (first || false) false us a)
between_are first (suc m) d us a = ((refl, refl), feeds_are (first || true) m d us (as_module Module first (first || true) false us a))

between_apart : (m d : ℕ) (us : List Trivium) → begins_apart (between m d ++ us) ≡ true
between_apart zero d us = refl
between_apart (suc m) d us = refl

some_lines : (m : ℕ) → nat_lt 0 (suc m) ≡ true
some_lines m = grind (arith, nat_tests)

between_breaks : (m d : ℕ) (us : List Trivium) → breaks_line (between m d ++ us) ≡ (nat_lt 0 m || breaks_line us)
between_breaks zero d us = refl
between_breaks (suc m) d us = sym (ap (λ (b : Bool). b || breaks_line us) (some_lines m))

between_ends : (m d : ℕ) (us : List Trivium) → nat_lt 0 m ≡ true → ends_line false (between m d ++ us) ≡ true
between_ends zero d us e = absurd (false≢true e)
between_ends (suc m) d us e = refl

all_between : (m d : ℕ) → between m d ++ [] ≡ between m d
all_between m d = append-nil (between m d)

no_lines : (line b : Bool) → (not line || b) ≡ true → line ≡ true → b ≡ true
no_lines true b e l = e
no_lines false b e l = absurd (false≢true l)

line_over : (depth outer : ℕ) (line : Bool) (ps : List Placed) (behind : ℕ) → lines_end line ps behind ≡ true → line ≡ true → ends_line false (written_by depth outer ps behind) ≡ true
line_over depth outer line [] behind e l = subst (λ (us : List Trivium). ends_line false us ≡ true) (all_between behind outer) (between_ends behind outer [] (no_lines line (nat_lt 0 behind) e l))
line_over depth outer line (p ∷ ps) behind e l =
    between_ends p.lines depth (trivium p.note ∷ written_by depth outer ps behind) (no_lines line (nat_lt 0 p.lines) (and_parts (not line || nat_lt 0 p.lines) (lines_end (is_line p.note) ps behind) e).0 l)

note_is : (first : Bool) (x : Note) (us : List Trivium) → IsNote x → (is_line x ≡ true → ends_line false us ≡ true) → AreTrivia Module first false us → AreTrivia Module first false (trivium x ∷ us)
note_is first (BlockNote own) us n e a = (n, as_module Module first (first || list_any is_line_terminator own) false us a)
note_is first (LineNote own) us n e a = ((refl, n, e refl), as_module Module first (first || false) false us a)

written_are : (first : Bool) (depth outer : ℕ) (line : Bool) (ps : List Placed) (behind : ℕ) → AreNotes ps → lines_end line ps behind ≡ true → AreTrivia Module first false (written_by depth outer ps behind)
written_are first depth outer line [] behind n e = subst (λ (us : List Trivium). AreTrivia Module first false us) (all_between behind outer) (between_are first behind outer [] tt)
written_are first depth outer line (p ∷ ps) behind n e =
    let more = (and_parts (not line || nat_lt 0 p.lines) (lines_end (is_line p.note) ps behind) e).1 in
    between_are first p.lines depth (trivium p.note ∷ written_by depth outer ps behind)
    (note_is first p.note (written_by depth outer ps behind) n.0 (λ l. line_over depth outer (is_line p.note) ps behind more l) (written_are first depth outer (is_line p.note) ps behind n.1 more))

written_apart : (depth outer : ℕ) (ps : List Placed) (behind : ℕ) → begins_apart (written_by depth outer ps behind) ≡ true
written_apart depth outer [] behind = subst (λ (us : List Trivium). begins_apart us ≡ true) (all_between behind outer) (between_apart behind outer [])
written_apart depth outer (p ∷ ps) behind = between_apart p.lines depth (trivium p.note ∷ written_by depth outer ps behind)

note_ends : (x : Note) → is_end_of_line (trivium x) ≡ note_breaks x
note_ends (BlockNote own) = refl
note_ends (LineNote own) = refl

written_breaks : (depth outer : ℕ) (ps : List Placed) (behind : ℕ) → breaks_line (written_by depth outer ps behind) ≡ some_break ps behind
written_breaks depth outer [] behind = sym (ap breaks_line (all_between behind outer)) ∙ (between_breaks behind outer [] ∙ or_false (nat_lt 0 behind))
written_breaks depth outer (p ∷ ps) behind =
    between_breaks p.lines depth (trivium p.note ∷ written_by depth outer ps behind)
    ∙ (ap (λ (b : Bool). nat_lt 0 p.lines || (b || breaks_line (written_by depth outer ps behind))) (note_ends p.note)
    ∙ ap (λ (b : Bool). nat_lt 0 p.lines || (note_breaks p.note || b)) (written_breaks depth outer ps behind))

pub written_are_trivia : WrittenAreTrivia
written_are_trivia depth outer n a e = (written_are false depth outer false n.placed n.behind a e, written_apart depth outer n.placed n.behind, written_breaks depth outer n.placed n.behind)

-- ---- what is tidy, and what is found

kept_ends : (most : ℕ) (line : Bool) (n : ℕ) → (not line || nat_lt 0 (kept_lines most line n)) ≡ true
kept_ends most false n = refl
kept_ends most true n = let e : 0 < max 1 (min most n) = omega arith in grind (arith, nat_tests)

tidied_ends : (most : ℕ) (line : Bool) (ps : List Placed) (behind : ℕ) → lines_end line (tidied_by most line ps behind).placed (tidied_by most line ps behind).behind ≡ true
tidied_ends most line [] behind = kept_ends most line behind
tidied_ends most line (p ∷ ps) behind =
    ap (λ (b : Bool). b && lines_end (is_line p.note) (tidied_by most (is_line p.note) ps behind).placed (tidied_by most (is_line p.note) ps behind).behind) (kept_ends most line p.lines) ∙ tidied_ends most (is_line p.note) ps behind

pub tidy_ends_lines : TidyEndsLines
tidy_ends_lines most n = tidied_ends most false n.placed n.behind

found_are : (n : ℕ) (goal : Goal) (first over : Bool) (us : List Trivium) → AreTrivia goal first over us → AreNotes (told n us).placed
found_are n goal first over [] a = tt
found_are n goal first over (White c ∷ us) a = found_are n goal (first || false) over us a.1
found_are n goal first over (Feed c ∷ us) a = found_are (n + 1) goal (first || true) over us a.1
found_are n goal first over (Return ∷ us) a = found_are (n + 1) goal (first || true) over us a.1
found_are n goal first over (Block own ∷ us) a = (a.0, found_are 0 goal (first || list_any is_line_terminator own) over us a.1)
found_are n goal first over (Line mark own ∷ us) a = (a.0.1, found_are 0 goal (first || false) over us a.1)

pub found_are_notes : FoundAreNotes
found_are_notes goal first over us a = found_are 0 goal first over us a
