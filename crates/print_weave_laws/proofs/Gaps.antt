-- What stands between two tokens is trivia (ECMA-262, 12.2 to 12.4), and all trivia is such.
use Rattle.std.proofs.Common.{◌≡◌, ℕ, ◌⊎◌, inl, inr, ⊎_elim, Bool, true, false, ◌||◌, ◌&&◌, not, List, [], ◌∷◌, ◌++◌, refl, sym, ap, subst, ◌∙◌}
use Rattle.std.specs.Prelude.{◌==◌}
use Rattle.std.specs.List.{list_any}
use Rattle.std.proofs.lemmas.Bool.{cases_Bool, false≢true, true≢false, eqb-true, eq-eqb}
use Rattle.base_proofs.proofs.Bools.{or_false, or_first}
use Rattle.lex_pieces.specs.Characters.{is_white_space, is_line_terminator}
use Rattle.lex_pieces.specs.Classes.{is_line_char}
use Rattle.lex_pieces.specs.Runs.{Ends, Each, IsRun}
use Rattle.lex_pieces.specs.Trivia.{Piece, WhiteSpace, LineTerminator, LineComment, BlockComment, Follow, IsLineBreak, NoTrivia, breaks, is_line_feed, spelled}
use Rattle.lex_pieces.specs.declared.trivia.Goal.{Goal}
use Rattle.lex_pieces.specs.declared.trivia.LineMark.{LineMark}
use Rattle.lex_pieces.specs.declared.trivia.LineMark.TheVariants.{Slashes, HtmlOpen, HtmlClose}
use Rattle.lex_pieces.proofs.Apart.{terminator_no_space}
use Rattle.print_weave_laws.specs.Gaps.{Trivium, White, Feed, Return, Block, Line, gap_before, breaks_line, ends_line, begins_feed, AreTrivia, Note, BlockNote, LineNote, notes, found}
use Rattle.print_weave_laws.specs.Laws.{GapsAreSkipped, RunsAreGaps, is_nothing}

-- ---- what begins with no trivia

-- the longest run of a class at the front
pub longest : (p : ℕ → Bool) (ls : List ℕ) → (own : List ℕ) × (more : List ℕ) × IsRun p ls own more
longest p [] = ([], [], (refl, tt, tt))
longest p (l ∷ ls) = ⊎_elim
    (λ (t : p l ≡ true). let z = longest p ls in (l ∷ z.0, z.1, (ap (λ (x : List ℕ). l ∷ x) z.2.0, (t, z.2.1), z.2.2)))
    (λ (f : p l ≡ false). ([], l ∷ ls, (refl, tt, f)))
    (cases_Bool (p l))

pub no_white : (goal : Goal) (first : Bool) (text : List ℕ) → NoTrivia goal first text → Ends is_white_space text
no_white goal first [] n = tt
no_white goal first (c ∷ cs) n = ⊎_elim
    (λ (t : is_white_space c ≡ true).
    let z = longest is_white_space cs in
    absurd (n.0 WhiteSpace z.1 (c ∷ z.0, (λ (q : c ∷ z.0 ≡ []). cc), (ap (λ (x : List ℕ). c ∷ x) z.2.0, (t, z.2.1), z.2.2))))
    (λ (f : is_white_space c ≡ false). f)
    (cases_Bool (is_white_space c))

line_break : (c : ℕ) (cs : List ℕ) → is_line_terminator c ≡ true → (rest : List ℕ) × IsLineBreak (c ∷ cs) rest
line_break c [] t = ([], inr (c, refl, t, λ h. tt))
line_break c (x ∷ xs) t = ⊎_elim
    (λ (l : (x == 10) ≡ true). ⊎_elim
    (λ (m : (c == 13) ≡ true). (xs, inl (ap (λ (a : ℕ). a ∷ x ∷ xs) (eqb-true c 13 m) ∙ ap (λ (a : ℕ). 13 ∷ a ∷ xs) (eqb-true x 10 l))))
    (λ (m : (c == 13) ≡ false). (x ∷ xs, inr (c, refl, t, λ h. absurd (false≢true (sym m ∙ eq-eqb c 13 h)))))
    (cases_Bool (c == 13)))
    (λ (l : (x == 10) ≡ false). (x ∷ xs, inr (c, refl, t, λ h. l)))
    (cases_Bool (x == 10))

pub no_break : (goal : Goal) (first : Bool) (text : List ℕ) → NoTrivia goal first text → Ends is_line_terminator text
no_break goal first [] n = tt
no_break goal first (c ∷ cs) n = ⊎_elim
    (λ (t : is_line_terminator c ≡ true). let z = line_break c cs t in absurd (n.0 LineTerminator z.0 z.1))
    (λ (f : is_line_terminator c ≡ false). f)
    (cases_Bool (is_line_terminator c))

no_feed : (text : List ℕ) → Ends is_line_terminator text → Ends is_line_feed text
no_feed [] n = tt
no_feed (c ∷ cs) n = or_first (c == 10) _ n

-- ---- what a gap begins with

white_no_break : (c : ℕ) → is_white_space c ≡ true → is_line_terminator c ≡ false
white_no_break c w = ⊎_elim
    (λ (t : is_line_terminator c ≡ true). absurd (false≢true (sym (terminator_no_space c t) ∙ w)))
    (λ (f : is_line_terminator c ≡ false). f)
    (cases_Bool (is_line_terminator c))

mark_no : (p : ℕ → Bool) (mark : LineMark) (cs : List ℕ) → p 47 ≡ false → p 60 ≡ false → p 45 ≡ false → Ends p (spelled mark ++ cs)
mark_no p Slashes cs a b c = a
mark_no p HtmlOpen cs a b c = b
mark_no p HtmlClose cs a b c = c

-- CR before what begins with no LF
feed_over : (goal : Goal) (first over : Bool) (us : List Trivium) (rest : List ℕ) → AreTrivia goal first over us → Ends is_line_terminator rest → begins_feed us ≡ false → Ends is_line_feed (gap_before us rest)
feed_over goal first over [] rest a n e = no_feed rest n
feed_over goal first over (White c ∷ us) rest a n e = or_first (c == 10) _ (white_no_break c a.0)
feed_over goal first over (Feed c ∷ us) rest a n e = e
feed_over goal first over (Return ∷ us) rest a n e = refl
feed_over goal first over (Block own ∷ us) rest a n e = refl
feed_over goal first over (Line mark own ∷ us) rest a n e = mark_no is_line_feed mark (own ++ gap_before us rest) refl refl refl

feeds_so : (us : List Trivium) (rest : List ℕ) → Ends is_line_feed (gap_before us rest) → begins_feed us ≡ false
feeds_so [] rest e = refl
feeds_so (White c ∷ us) rest e = refl
feeds_so (Feed c ∷ us) rest e = e
feeds_so (Return ∷ us) rest e = refl
feeds_so (Block own ∷ us) rest e = refl
feeds_so (Line mark own ∷ us) rest e = refl

-- a comment of one line ends where its line does
line_over : (goal : Goal) (first : Bool) (us : List Trivium) (rest : List ℕ) → AreTrivia goal first (is_nothing rest) us → ends_line (is_nothing rest) us ≡ true → Ends is_line_char (gap_before us rest)
line_over goal first [] [] a e = tt
line_over goal first [] (c ∷ cs) a e = absurd (false≢true e)
line_over goal first (White c ∷ us) rest a e = absurd (false≢true e)
line_over goal first (Feed c ∷ us) rest a e = ap not a.0.0
line_over goal first (Return ∷ us) rest a e = refl
line_over goal first (Block own ∷ us) rest a e = absurd (false≢true e)
line_over goal first (Line mark own ∷ us) rest a e = absurd (false≢true e)

no_mark_ends : (mark : LineMark) (cs : List ℕ) (P : Type 0) → Ends is_line_char (spelled mark ++ cs) → P
no_mark_ends Slashes cs P e = absurd (true≢false e)
no_mark_ends HtmlOpen cs P e = absurd (true≢false e)
no_mark_ends HtmlClose cs P e = absurd (true≢false e)

lines_so : (goal : Goal) (first : Bool) (us : List Trivium) (rest : List ℕ) → AreTrivia goal first (is_nothing rest) us → Ends is_line_terminator rest → Ends is_line_char (gap_before us rest) → ends_line (is_nothing rest) us ≡ true
lines_so goal first [] [] a n e = refl
lines_so goal first [] (c ∷ cs) a n e = absurd (true≢false (sym (ap not n) ∙ e))
lines_so goal first (White c ∷ us) rest a n e = absurd (true≢false (sym (ap not (white_no_break c a.0)) ∙ e))
lines_so goal first (Feed c ∷ us) rest a n e = refl
lines_so goal first (Return ∷ us) rest a n e = refl
lines_so goal first (Block own ∷ us) rest a n e = absurd (true≢false e)
lines_so goal first (Line mark own ∷ us) rest a n e = no_mark_ends mark (own ++ gap_before us rest) _ e

-- ---- a gap is trivia

record Skips (goal : Goal) (first : Bool) (us : List Trivium) (rest : List ℕ) : Type 0 where
  ps : List Piece
  follow : Follow goal first (gap_before us rest) ps rest
  broke : breaks_line us ≡ list_any breaks ps
  told : notes us ≡ found ps
  head : ((qs : List Piece) × (ps ≡ WhiteSpace ∷ qs)) ⊎ Ends is_white_space (gap_before us rest)

-- one more white character before white space, and before anything else
longer : (goal : Goal) (first : Bool) (c : ℕ) (text rest : List ℕ) (qs : List Piece) → is_white_space c ≡ true → Follow goal (first || false) text (WhiteSpace ∷ qs) rest → Follow goal first (c ∷ text) (WhiteSpace ∷ qs) rest
longer goal first c text rest qs w h =
    let k = h.1 in
    (h.0, (c ∷ k.0, (λ (e : c ∷ k.0 ≡ []). cc), (ap (λ (t : List ℕ). c ∷ t) k.2.0, (w, k.2.1), k.2.2)), subst (λ (b : Bool). Follow goal b h.0 qs rest) (or_false (first || false)) h.2)

white_skips : (goal : Goal) (first : Bool) (c : ℕ) (us : List Trivium) (rest : List ℕ) → is_white_space c ≡ true → Skips goal (first || false) us rest → Skips goal first (White c ∷ us) rest
white_skips goal first c us rest w s = by s.head
  where
    by : ((qs : List Piece) × (s.ps ≡ WhiteSpace ∷ qs)) ⊎ Ends is_white_space (gap_before us rest) → Skips goal first (White c ∷ us) rest
    by (inl h) = record {
      ps = WhiteSpace ∷ h.0;
      follow = longer goal first c (gap_before us rest) rest h.0 w (subst (λ (ps : List Piece). Follow goal (first || false) (gap_before us rest) ps rest) h.1 s.follow);
      broke = s.broke ∙ ap (list_any breaks) h.1;
      told = s.told ∙ ap found h.1;
      head = inl (h.0, refl);
    }
    by (inr h) = record {
      ps = WhiteSpace ∷ s.ps;
      follow = (gap_before us rest, (c ∷ [], (λ (f : c ∷ [] ≡ []). cc), (refl, (w, tt), h)), s.follow);
      broke = s.broke;
      told = s.told;
      head = inl (s.ps, refl);
    }

skips : (goal : Goal) (first : Bool) (us : List Trivium) (rest : List ℕ) → AreTrivia goal first (is_nothing rest) us → Ends is_white_space rest → Ends is_line_terminator rest → Skips goal first us rest
skips goal first [] rest a w n = record { ps = []; follow = refl; broke = refl; told = refl; head = inr w }
skips goal first (White c ∷ us) rest a w n = white_skips goal first c us rest a.0 (skips goal (first || false) us rest a.1 w n)
skips goal first (Feed c ∷ us) rest a w n =
    let s = skips goal (first || true) us rest a.1 w n in
    let apart : c ≡ 13 → Ends is_line_feed (gap_before us rest) = λ e. feed_over goal (first || true) (is_nothing rest) us rest a.1 n (sym (ap (λ (b : Bool). b && begins_feed us) (eq-eqb c 13 e)) ∙ a.0.1) in record {
      ps = LineTerminator ∷ s.ps;
      follow = (gap_before us rest, inr (c, refl, a.0.0, apart), s.follow);
      broke = refl;
      told = s.told;
      head = inr (terminator_no_space c a.0.0);
    }
skips goal first (Return ∷ us) rest a w n =
    let s = skips goal (first || true) us rest a.1 w n in record { ps = LineTerminator ∷ s.ps; follow = (gap_before us rest, inl refl, s.follow); broke = refl; told = s.told; head = inr refl }
skips goal first (Block own ∷ us) rest a w n =
    let s = skips goal (first || list_any is_line_terminator own) us rest a.1 w n in record {
      ps = BlockComment own ∷ s.ps;
      follow = (gap_before us rest, (own ++ 42 ∷ 47 ∷ gap_before us rest, refl, (refl, a.0)), s.follow);
      broke = ap (λ (b : Bool). list_any is_line_terminator own || b) s.broke;
      told = ap (λ (ns : List Note). BlockNote own ∷ ns) s.told;
      head = inr refl;
    }
skips goal first (Line mark own ∷ us) rest a w n =
    let s = skips goal (first || false) us rest a.1 w n in record {
      ps = LineComment mark own ∷ s.ps;
      follow = (gap_before us rest, (a.0.0, (own ++ gap_before us rest, refl, (refl, a.0.1, line_over goal (first || false) us rest a.1 a.0.2))), s.follow);
      broke = s.broke;
      told = ap (λ (ns : List Note). LineNote own ∷ ns) s.told;
      head = inr (mark_no is_white_space mark (own ++ gap_before us rest) refl refl refl);
    }

pub gaps_are_skipped : GapsAreSkipped
gaps_are_skipped goal first us rest a n =
    let s = skips goal first us rest a (no_white goal (first || breaks_line us) rest n) (no_break goal (first || breaks_line us) rest n) in
    (s.ps, (s.follow, subst (λ (b : Bool). NoTrivia goal (first || b) rest) s.broke n), s.broke, s.told)

-- ---- trivia is a gap

record Gap (goal : Goal) (first : Bool) (text : List ℕ) (ps : List Piece) (rest : List ℕ) : Type 0 where
  us : List Trivium
  whole : text ≡ gap_before us rest
  are : AreTrivia goal first (is_nothing rest) us
  broke : breaks_line us ≡ list_any breaks ps
  told : notes us ≡ found ps

whites : List ℕ → List Trivium → List Trivium
whites [] us = us
whites (c ∷ cs) us = White c ∷ whites cs us

record Whites (goal : Goal) (first over : Bool) (own : List ℕ) (us : List Trivium) : Type 0 where
  whole : (rest : List ℕ) → gap_before (whites own us) rest ≡ own ++ gap_before us rest
  are : AreTrivia goal first over (whites own us)
  broke : breaks_line (whites own us) ≡ breaks_line us
  told : notes (whites own us) ≡ notes us

white_gap : (goal : Goal) (first over : Bool) (own : List ℕ) (us : List Trivium) → Each is_white_space own → AreTrivia goal first over us → Whites goal first over own us
unfolding whites
white_gap goal first over [] us e a = record { whole = λ rest. refl; are = a; broke = refl; told = refl }
white_gap goal first over (c ∷ cs) us e a =
    let w = white_gap goal first over cs us e.1 a in record {
      whole = λ rest. ap (λ (l : List ℕ). c ∷ l) (w.whole rest);
      are = (e.0, subst (λ (b : Bool). AreTrivia goal b over (whites cs us)) (sym (or_false first)) w.are);
      broke = w.broke;
      told = w.told;
    }

gap_of : (goal : Goal) (first : Bool) (text : List ℕ) (ps : List Piece) (rest : List ℕ) → Ends is_line_terminator rest → Follow goal first text ps rest → Gap goal first text ps rest
gap_of goal first text [] rest n h = record { us = []; whole = h; are = tt; broke = refl; told = refl }
gap_of goal first text (WhiteSpace ∷ ps) rest n h =
    let g = gap_of goal (first || false) h.0 ps rest n h.2 in
    let w = white_gap goal first (is_nothing rest) h.1.0 g.us h.1.2.1 (subst (λ (b : Bool). AreTrivia goal b (is_nothing rest) g.us) (or_false first) g.are) in record {
      us = whites h.1.0 g.us;
      whole = h.1.2.0 ∙ (ap (λ (l : List ℕ). h.1.0 ++ l) g.whole ∙ sym (w.whole rest));
      are = w.are;
      broke = w.broke ∙ g.broke;
      told = w.told ∙ g.told;
    }
gap_of goal first text (LineTerminator ∷ ps) rest n (next, inl e, f) =
    let g = gap_of goal (first || true) next ps rest n f in record { us = Return ∷ g.us; whole = e ∙ ap (λ (l : List ℕ). 13 ∷ 10 ∷ l) g.whole; are = (tt, g.are); broke = refl; told = g.told }
gap_of goal first text (LineTerminator ∷ ps) rest n (next, inr e, f) =
    let g = gap_of goal (first || true) next ps rest n f in
    let apart : ((e.0 == 13) && begins_feed g.us) ≡ false = ⊎_elim
    (λ (t : (e.0 == 13) ≡ true). ap (λ (b : Bool). b && begins_feed g.us) t ∙ feeds_so g.us rest (subst (λ (l : List ℕ). Ends is_line_feed l) g.whole (e.3 (eqb-true e.0 13 t))))
    (λ (t : (e.0 == 13) ≡ false). ap (λ (b : Bool). b && begins_feed g.us) t)
    (cases_Bool (e.0 == 13)) in record {
      us = Feed e.0 ∷ g.us;
      whole = e.1 ∙ ap (λ (l : List ℕ). e.0 ∷ l) g.whole;
      are = ((e.2, apart), g.are);
      broke = refl;
      told = g.told;
    }
gap_of goal first text (LineComment mark own ∷ ps) rest n h =
    let g = gap_of goal (first || false) h.0 ps rest n h.2 in
    let k = h.1.1 in record {
      us = Line mark own ∷ g.us;
      whole = k.1 ∙ (ap (λ (l : List ℕ). spelled mark ++ l) k.2.0 ∙ ap (λ (l : List ℕ). spelled mark ++ (own ++ l)) g.whole);
      are = ((h.1.0, k.2.1, lines_so goal (first || false) g.us rest g.are n (subst (λ (l : List ℕ). Ends is_line_char l) g.whole k.2.2)), g.are);
      broke = g.broke;
      told = ap (λ (ns : List Note). LineNote own ∷ ns) g.told;
    }
gap_of goal first text (BlockComment own ∷ ps) rest n h =
    let g = gap_of goal (first || list_any is_line_terminator own) h.0 ps rest n h.2 in
    let k = h.1 in record {
      us = Block own ∷ g.us;
      whole = k.1 ∙ (ap (λ (l : List ℕ). 47 ∷ 42 ∷ l) k.2.0 ∙ ap (λ (l : List ℕ). 47 ∷ 42 ∷ (own ++ 42 ∷ 47 ∷ l)) g.whole);
      are = (k.2.1, g.are);
      broke = ap (λ (b : Bool). list_any is_line_terminator own || b) g.broke;
      told = ap (λ (ns : List Note). BlockNote own ∷ ns) g.told;
    }

pub runs_are_gaps : RunsAreGaps
runs_are_gaps goal first text ps rest h =
    let g = gap_of goal first text ps rest (no_break goal (first || list_any breaks ps) rest h.1) h.0 in
    (g.us, g.whole, g.are, g.broke, g.told)
