-- Trivia that is put between tokens changes no token.
use Rattle.std.proofs.Common.{◌≡◌, ◌≢◌, ℕ, ◌<◌, ◌⊎◌, inl, inr, ⊎_elim, Bool, true, false, not, ◌||◌, ◌&&◌, List, [], ◌∷◌, ◌++◌, length, refl, sym, ap, subst, ◌∙◌, arith}
use Rattle.std.specs.Prelude.{◌==◌}
use Rattle.std.proofs.lemmas.Bool.{cases_Bool, false≢true, true≢false, eqb-true, and_parts, or_cases}
use Rattle.lex_pieces.specs.Characters.{is_among}
use Rattle.lex_pieces.specs.Trivia.{Piece, WhiteSpace, LineTerminator, LineComment, BlockComment, IsPiece, MayOpen, NoTrivia, spelled, opens}
use Rattle.lex_pieces.specs.declared.trivia.Goal.{Goal}
use Rattle.lex_pieces.specs.declared.trivia.Goal.TheVariants.{Script, Module}
use Rattle.lex_pieces.specs.declared.trivia.LineMark.{LineMark}
use Rattle.lex_pieces.specs.declared.trivia.LineMark.TheVariants.{Slashes, HtmlOpen, HtmlClose}
use Rattle.lex_token.specs.declared.goal.LexicalGoal.{LexicalGoal}
use Rattle.lex_token.specs.declared.goal.LexicalGoal.TheVariants.{Div, RegExp, TemplateTail, TemplateEnd}
use Rattle.lex_token.specs.Lexemes.{IsLexeme}
use Rattle.lex_literal.specs.Templates as templates
use Rattle.lex_step_laws.proofs.Tokens.{token_shorter}
use Rattle.print_weave_laws.specs.Gaps.{Trivium, White, Feed, Return, Block, Line, gap_before, is_end_of_line, breaks_line, IsTrivium, AreTrivia}
use Rattle.print_weave_laws.specs.Cells.{Cell, text_of, is_inner, IsCell, Closes, Stand, begins_apart, begins_noted, is_no_slash, parts, is_lone, is_no_dash, MayStand, MayEnd, AllMayStand, at_front, with_gap, woven}
use Rattle.print_weave_laws.specs.Laws.{TokensStay}
use Rattle.print_weave_laws.proofs.Kept.{Keeps, OffMarks, SameFirst, OpensNone, leads, lone_marks, is_stop, fails, keeps_all, keeps_behind, lone_keeps, own_keeps, quiet_kept}
use Rattle.print_weave_laws.proofs.Reading.{EndsHere, ending_on, read_on}

-- ---- texts agree up to where something is put

gap_keeps : (us : List Trivium) (r s : List ℕ) → Keeps r s → Keeps (gap_before us r) (gap_before us s)
gap_keeps [] r s k = k
gap_keeps (White c ∷ us) r s k = inr (gap_before us r, refl, gap_keeps us r s k)
gap_keeps (Feed c ∷ us) r s k = inr (gap_before us r, refl, gap_keeps us r s k)
gap_keeps (Return ∷ us) r s k = keeps_behind (13 ∷ 10 ∷ []) (gap_before us r) (gap_before us s) (gap_keeps us r s k)
gap_keeps (Block own ∷ us) r s k =
    keeps_behind (47 ∷ 42 ∷ []) (own ++ 42 ∷ 47 ∷ gap_before us r) (own ++ 42 ∷ 47 ∷ gap_before us s)
    (keeps_behind own (42 ∷ 47 ∷ gap_before us r) (42 ∷ 47 ∷ gap_before us s) (keeps_behind (42 ∷ 47 ∷ []) (gap_before us r) (gap_before us s) (gap_keeps us r s k)))
gap_keeps (Line mark own ∷ us) r s k = keeps_behind (spelled mark) (own ++ gap_before us r) (own ++ gap_before us s) (keeps_behind own (gap_before us r) (gap_before us s) (gap_keeps us r s k))

-- what begins apart begins with a stop that is no slash
record Apart (text : List ℕ) : Type 0 where
  keeps : (r : List ℕ) → Keeps r text
  off : OffMarks text

apart : (us : List Trivium) (rest : List ℕ) → begins_apart us ≡ true → Apart (gap_before us rest)
apart [] rest e = absurd (false≢true e)
apart (White c ∷ us) rest e = let k = eqb-true c 32 e in record { keeps = λ r. inl (ap is_stop k); off = ap (λ (x : ℕ). (x == 47) || (x == 42)) k }
apart (Feed c ∷ us) rest e = ⊎_elim
    (λ (t : (c == 10) ≡ true). let k = eqb-true c 10 t in record { keeps = λ r. inl (ap is_stop k); off = ap (λ (x : ℕ). (x == 47) || (x == 42)) k })
    (λ (t : (c == 13) ≡ true). let k = eqb-true c 13 t in record { keeps = λ r. inl (ap is_stop k); off = ap (λ (x : ℕ). (x == 47) || (x == 42)) k })
    (or_cases (c == 10) (c == 13) e)
apart (Return ∷ us) rest e = record { keeps = λ r. inl refl; off = refl }
apart (Block own ∷ us) rest e = absurd (false≢true e)
apart (Line mark own ∷ us) rest e = absurd (false≢true e)

noted_keeps : (first over : Bool) (us : List Trivium) (r rest : List ℕ) → AreTrivia Module first over us → begins_noted us ≡ true → Keeps r (gap_before us rest)
noted_keeps first over [] r rest a e = absurd (false≢true e)
noted_keeps first over (White c ∷ us) r rest a e = absurd (false≢true e)
noted_keeps first over (Feed c ∷ us) r rest a e = absurd (false≢true e)
noted_keeps first over (Return ∷ us) r rest a e = absurd (false≢true e)
noted_keeps first over (Block own ∷ us) r rest a e = inl refl
noted_keeps first over (Line Slashes own ∷ us) r rest a e = inl refl
noted_keeps first over (Line HtmlOpen own ∷ us) r rest a e = absurd (true≢false a.0.0)
noted_keeps first over (Line HtmlClose own ∷ us) r rest a e = absurd (true≢false a.0.0)

parted : (behind : List ℕ) (us : List Trivium) → parts behind us ≡ true → (begins_apart us ≡ true) ⊎ ((begins_noted us ≡ true) × (is_no_slash behind ≡ true))
parted behind us e = ⊎_elim
    (λ (t : begins_apart us ≡ true). inl t)
    (λ (t : (begins_noted us && is_no_slash behind) ≡ true). inr (and_parts (begins_noted us) (is_no_slash behind) t))
    (or_cases (begins_apart us) (begins_noted us && is_no_slash behind) e)

parts_keep : (first over : Bool) (behind : List ℕ) (us : List Trivium) (r rest : List ℕ) → AreTrivia Module first over us → parts behind us ≡ true → Keeps r (gap_before us rest)
parts_keep first over behind us r rest a e = by (parted behind us e)
  where
    by : (begins_apart us ≡ true) ⊎ ((begins_noted us ≡ true) × (is_no_slash behind ≡ true)) → Keeps r (gap_before us rest)
    by (inl t) = (apart us rest t).keeps r
    by (inr t) = noted_keeps first over us r rest a t.0

parts_off : (behind : List ℕ) (us : List Trivium) (rest : List ℕ) → is_no_slash behind ≡ false → parts behind us ≡ true → OffMarks (gap_before us rest)
parts_off behind us rest n e = by (parted behind us e)
  where
    by : (begins_apart us ≡ true) ⊎ ((begins_noted us ≡ true) × (is_no_slash behind ≡ true)) → OffMarks (gap_before us rest)
    by (inl t) = (apart us rest t).off
    by (inr t) = absurd (false≢true (sym n ∙ t.1))

lone_either : (a b : Bool) → a ≡ false → (a || b) ≡ true → b ≡ true
lone_either true b n e = absurd (true≢false n)
lone_either false b n e = e

end_keeps : (behind : List ℕ) (tail over : List Trivium) → MayEnd behind tail over → Keeps (gap_before tail []) (gap_before over [])
end_keeps behind tail over (inl e) = subst (λ (us : List Trivium). Keeps (gap_before tail []) (gap_before us [])) (sym e) (keeps_all (gap_before tail []))
end_keeps behind tail over (inr (inl e)) = subst (λ (us : List Trivium). Keeps (gap_before tail []) (gap_before us [])) (sym e) tt
end_keeps behind tail over (inr (inr h)) = parts_keep false true behind over (gap_before tail []) [] h.0 h.1

-- Behind a token that is not lone the text agrees with what it was up to its first stop.
pub text_keeps : (behind : List ℕ) (xs : List Cell) (gaps : List (List Trivium)) (tail over : List Trivium) → is_lone behind ≡ false → AllMayStand behind xs gaps tail over → Keeps (text_of xs tail) (text_of (woven xs gaps) over)
text_keeps behind [] gaps tail over n m = end_keeps behind tail over m
text_keeps behind (x ∷ xs) [] tail over n m =
    gap_keeps x.before (x.own ++ text_of xs tail) (x.own ++ text_of (woven xs []) over) (own_keeps x.own (text_of xs tail) (text_of (woven xs []) over) (λ l. text_keeps x.own xs [] tail over l m))
text_keeps behind (x ∷ xs) (us ∷ gaps) tail over n m = by m.0 (own_keeps x.own (text_of xs tail) (text_of (woven xs gaps) over) (λ l. text_keeps x.own xs gaps tail over l m.1))
  where
    by : MayStand behind x us → Keeps (x.own ++ text_of xs tail) (x.own ++ text_of (woven xs gaps) over) → Keeps (gap_before x.before (x.own ++ text_of xs tail)) (gap_before us (x.own ++ text_of (woven xs gaps) over))
    by (inl same) k =
        subst (λ (vs : List Trivium). Keeps (gap_before x.before (x.own ++ text_of xs tail)) (gap_before vs (x.own ++ text_of (woven xs gaps) over))) (sym same)
        (gap_keeps x.before (x.own ++ text_of xs tail) (x.own ++ text_of (woven xs gaps) over) k)
    by (inr (i, inl p)) k =
        subst (λ (vs : List Trivium). Keeps (gap_before x.before (x.own ++ text_of xs tail)) (gap_before vs (x.own ++ text_of (woven xs gaps) over))) (sym p.0)
        (lone_keeps x.own (gap_before x.before (x.own ++ text_of xs tail)) (text_of (woven xs gaps) over) (lone_either (is_lone behind) (is_lone x.own) n p.1))
    by (inr (i, inr p)) k = parts_keep false false behind us (gap_before x.before (x.own ++ text_of xs tail)) (x.own ++ text_of (woven xs gaps) over) p.0 p.1

-- ---- behind a slash no comment opens

same_or_none : (r s : List ℕ) → s ≡ r → OffMarks s ⊎ SameFirst r s
same_or_none r [] e = inl tt
same_or_none r (c ∷ cs) e = inr (c, cs, cs, sym e, refl)

mark_first : (mark : LineMark) (r s : List ℕ) → SameFirst (spelled mark ++ r) (spelled mark ++ s)
mark_first Slashes r s = (47, 47 ∷ r, 47 ∷ s, refl, refl)
mark_first HtmlOpen r s = (60, 33 ∷ 45 ∷ 45 ∷ r, 33 ∷ 45 ∷ 45 ∷ s, refl, refl)
mark_first HtmlClose r s = (45, 45 ∷ 62 ∷ r, 45 ∷ 62 ∷ s, refl, refl)

gap_first : (u : Trivium) (us : List Trivium) (r s : List ℕ) → SameFirst (gap_before (u ∷ us) r) (gap_before (u ∷ us) s)
gap_first (White c) us r s = (c, gap_before us r, gap_before us s, refl, refl)
gap_first (Feed c) us r s = (c, gap_before us r, gap_before us s, refl, refl)
gap_first Return us r s = (13, 10 ∷ gap_before us r, 10 ∷ gap_before us s, refl, refl)
gap_first (Block own) us r s = (47, 42 ∷ (own ++ 42 ∷ 47 ∷ gap_before us r), 42 ∷ (own ++ 42 ∷ 47 ∷ gap_before us s), refl, refl)
gap_first (Line mark own) us r s = mark_first mark (own ++ gap_before us r) (own ++ gap_before us s)

alike : (us : List Trivium) (own r s : List ℕ) → (own ≡ [] → OffMarks s ⊎ SameFirst r s) → OffMarks (gap_before us (own ++ s)) ⊎ SameFirst (gap_before us (own ++ r)) (gap_before us (own ++ s))
alike (u ∷ us) own r s h = inr (gap_first u us (own ++ r) (own ++ s))
alike [] (c ∷ cs) r s h = inr (c, cs ++ r, cs ++ s, refl, refl)
alike [] [] r s h = h refl

lone_off : (own s : List ℕ) → is_lone own ≡ true → OffMarks (own ++ s)
lone_off [] s e = absurd (false≢true e)
lone_off (c ∷ []) s e = fails (λ x. (x == 47) || (x == 42)) lone_marks c refl e
lone_off (c ∷ d ∷ cs) s e = absurd (false≢true e)

slash_not_lone : (own : List ℕ) → is_no_slash own ≡ false → is_lone own ≡ false
slash_not_lone [] n = refl
slash_not_lone (c ∷ []) n = ⊎_elim
    (λ (t : (c == 47) ≡ true). ap (is_among lone_marks) (eqb-true c 47 t))
    (λ (t : (c == 47) ≡ false). absurd (true≢false (sym (ap not t) ∙ n)))
    (cases_Bool (c == 47))
slash_not_lone (c ∷ d ∷ cs) n = absurd (true≢false n)

opening : (behind : List ℕ) (xs : List Cell) (gaps : List (List Trivium)) (tail over : List Trivium) → is_no_slash behind ≡ false → AllMayStand behind xs gaps tail over
    → OffMarks (text_of (woven xs gaps) over) ⊎ SameFirst (text_of xs tail) (text_of (woven xs gaps) over)
opening behind [] gaps tail over n (inl e) = same_or_none (gap_before tail []) (gap_before over []) (ap (λ (us : List Trivium). gap_before us []) e)
opening behind [] gaps tail over n (inr (inl e)) = inl (subst (λ (us : List Trivium). OffMarks (gap_before us [])) (sym e) tt)
opening behind [] gaps tail over n (inr (inr p)) = inl (parts_off behind over [] n p.1)
opening behind (x ∷ xs) [] tail over n m =
    alike x.before x.own (text_of xs tail) (text_of (woven xs []) over) (λ z. opening x.own xs [] tail over (ap is_no_slash z) m)
opening behind (x ∷ xs) (us ∷ gaps) tail over n m = by m.0 (λ z. opening x.own xs gaps tail over (ap is_no_slash z) m.1)
  where
    by : MayStand behind x us → (x.own ≡ [] → OffMarks (text_of (woven xs gaps) over) ⊎ SameFirst (text_of xs tail) (text_of (woven xs gaps) over))
        → OffMarks (gap_before us (x.own ++ text_of (woven xs gaps) over)) ⊎ SameFirst (gap_before x.before (x.own ++ text_of xs tail)) (gap_before us (x.own ++ text_of (woven xs gaps) over))
    by (inl same) k =
        subst (λ (vs : List Trivium). OffMarks (gap_before vs (x.own ++ text_of (woven xs gaps) over)) ⊎ SameFirst (gap_before x.before (x.own ++ text_of xs tail)) (gap_before vs (x.own ++ text_of (woven xs gaps) over))) (sym same)
        (alike x.before x.own (text_of xs tail) (text_of (woven xs gaps) over) k)
    by (inr (i, inl p)) k =
        inl (subst (λ (vs : List Trivium). OffMarks (gap_before vs (x.own ++ text_of (woven xs gaps) over))) (sym p.0)
        (lone_off x.own (text_of (woven xs gaps) over) (lone_either (is_lone behind) (is_lone x.own) (slash_not_lone behind n) p.1)))
    by (inr (i, inr p)) k = inl (parts_off behind us (x.own ++ text_of (woven xs gaps) over) n p.1)

-- of the own text of a token
opens_none : (own : List ℕ) (c : ℕ) (os : List ℕ) → own ≡ c ∷ os → (xs : List Cell) (gaps : List (List Trivium)) (tail over : List Trivium) → AllMayStand own xs gaps tail over
    → OpensNone c (os ++ text_of xs tail) (os ++ text_of (woven xs gaps) over)
opens_none own c (d ∷ ds) q xs gaps tail over m = inr (inr (d, ds ++ text_of xs tail, ds ++ text_of (woven xs gaps) over, refl, refl))
opens_none own c [] q xs gaps tail over m = ⊎_elim
    (λ (t : (c == 47) ≡ true). inr (opening own xs gaps tail over (ap is_no_slash q ∙ ap not t) m))
    (λ (t : (c == 47) ≡ false). inl t)
    (cases_Bool (c == 47))

-- ---- a line that begins, and one that doesn't any more

line_on : (goal : Goal) (first other : Bool) (text : List ℕ) → ((mark : LineMark) (inner : List ℕ) → text ≡ spelled mark ++ inner → opens other mark ≡ true → opens first mark ≡ true) → NoTrivia goal first text → NoTrivia goal other text
line_on goal first other text a n = (no_piece, n.1, (λ inner h. n.2 inner (h.0, (h.1.0, h.1.1, a h.1.0 inner h.1.3 h.1.2, h.1.3))))
  where
    may_open : (goal : Goal) (mark : LineMark) (inner : List ℕ) → text ≡ spelled mark ++ inner → MayOpen goal other mark → MayOpen goal first mark
    may_open Script mark inner e m = a mark inner e m
    may_open Module mark inner e m = m

    no_piece : (p : Piece) (rest : List ℕ) → IsPiece goal other text p rest → ⊥
    no_piece WhiteSpace rest h = n.0 WhiteSpace rest h
    no_piece LineTerminator rest h = n.0 LineTerminator rest h
    no_piece (LineComment mark own) rest h = n.0 (LineComment mark own) rest (may_open goal mark h.1.0 h.1.1 h.0, h.1)
    no_piece (BlockComment own) rest h = n.0 (BlockComment own) rest h

no_dash_first : (own rest inner : List ℕ) (c : ℕ) (os : List ℕ) → own ≡ c ∷ os → is_no_dash own ≡ true → own ++ rest ≡ 45 ∷ 45 ∷ 62 ∷ inner → ⊥
no_dash_first own rest inner c os e d q =
    let k : c ∷ (os ++ rest) ≡ 45 ∷ 45 ∷ 62 ∷ inner = sym (ap (λ (l : List ℕ). l ++ rest) e) ∙ q in
    let f : c ≡ 45 = cc in
    false≢true (sym (ap is_no_dash e ∙ ap (λ (x : ℕ). not (x == 45)) f) ∙ d)

dash_opens : (first other : Bool) (text : List ℕ) → ((inner : List ℕ) → text ≡ 45 ∷ 45 ∷ 62 ∷ inner → ⊥) → (mark : LineMark) (inner : List ℕ) → text ≡ spelled mark ++ inner → opens other mark ≡ true → opens first mark ≡ true
dash_opens first other text d Slashes inner e o = refl
dash_opens first other text d HtmlOpen inner e o = refl
dash_opens first other text d HtmlClose inner e o = absurd (d inner e)

later_opens : (first b : Bool) (mark : LineMark) → opens (first || false) mark ≡ true → opens (first || b) mark ≡ true
later_opens first b Slashes o = refl
later_opens first b HtmlOpen o = refl
later_opens true b HtmlClose o = refl
later_opens false b HtmlClose o = absurd (false≢true o)

-- ---- one token

-- comments of no HTML form are such in scripts and in modules
as_one : (goal : Goal) (f g over : Bool) (u : Trivium) (us : List Trivium) → IsTrivium Module f over u us → IsTrivium goal g over u us
as_one goal f g over (White c) us a = a
as_one goal f g over (Feed c) us a = a
as_one goal f g over Return us a = a
as_one goal f g over (Block own) us a = a
as_one Module f g over (Line mark own) us a = a
as_one Script f g over (Line Slashes own) us a = (refl, a.1, a.2)
as_one Script f g over (Line HtmlOpen own) us a = absurd (true≢false a.0)
as_one Script f g over (Line HtmlClose own) us a = absurd (true≢false a.0)

pub as_module : (goal : Goal) (f g over : Bool) (us : List Trivium) → AreTrivia Module f over us → AreTrivia goal g over us
as_module goal f g over [] a = tt
as_module goal f g over (u ∷ us) a = (as_one goal f g over u us a.0, as_module goal (f || is_end_of_line u) (g || is_end_of_line u) over us a.1)

pub no_tail : (g : LexicalGoal) → is_inner g ≡ false → g ≢ TemplateTail
no_tail Div i e = cc
no_tail RegExp i e = cc
no_tail TemplateTail i e = absurd (true≢false i)
no_tail TemplateEnd i e = absurd (true≢false i)

some_first : (own rest : List ℕ) → length rest < length (own ++ rest) → (c : ℕ) × (os : List ℕ) × (own ≡ c ∷ os)
some_first [] rest l = absurd (omega (arith, l))
some_first (c ∷ os) rest l = (c, os, refl)

led_not_lone : (own : List ℕ) (c : ℕ) (os : List ℕ) → own ≡ c ∷ os → leads c ≡ true → is_lone own ≡ false
led_not_lone own c [] e l = ap is_lone e ∙ ⊎_elim (λ (t : (c == 60) ≡ true). ap (is_among lone_marks) (eqb-true c 60 t)) (λ (t : (c == 45) ≡ true). ap (is_among lone_marks) (eqb-true c 45 t)) (or_cases (c == 60) (c == 45) l)
led_not_lone own c (d ∷ ds) e l = ap is_lone e

module _ (goal : Goal) (first : Bool) (x : Cell) (xs : List Cell) (gaps : List (List Trivium)) (tail over : List Trivium) (m : AllMayStand x.own xs gaps tail over) (h : IsCell goal first x (text_of xs tail)) where
  kept : is_lone x.own ≡ false → Keeps (text_of xs tail) (text_of (woven xs gaps) over)
  kept l = text_keeps x.own xs gaps tail over l m

  begins_so : x.goal ≢ TemplateTail → (c : ℕ) × (os : List ℕ) × (x.own ≡ c ∷ os)
  begins_so n = some_first x.own (text_of xs tail) (token_shorter x.goal (x.own ++ text_of xs tail) x.lexeme (text_of xs tail) n h.stands)

  -- It begins with no trivia, as before.
  still : is_inner x.goal ≡ false → NoTrivia goal (first || breaks_line x.before) (x.own ++ text_of (woven xs gaps) over)
  still i =
      let b = begins_so (no_tail x.goal i) in
      quiet_kept goal (first || breaks_line x.before) (x.own ++ text_of xs tail) (x.own ++ text_of (woven xs gaps) over) b.0 (b.1 ++ text_of (woven xs gaps) over) (b.1 ++ text_of xs tail)
      (ap (λ (l : List ℕ). l ++ text_of xs tail) b.2) (ap (λ (l : List ℕ). l ++ text_of (woven xs gaps) over) b.2)
      (λ l. keeps_behind b.1 (text_of xs tail) (text_of (woven xs gaps) over) (kept (led_not_lone x.own b.0 b.1 b.2 l)))
      (opens_none x.own b.0 b.1 b.2 xs gaps tail over m) (h.quiet i)

  -- It is the token that it was, also before another gap that may stand there.
  put : (behind : List ℕ) (us : List Trivium) → (x.goal ≡ TemplateTail → EndsHere (text_of (woven xs gaps) over)) → MayStand behind x us → IsCell goal first (with_gap x us) (text_of (woven xs gaps) over)
  put behind us e may = record { trivia = are may; tight = λ i. none may i; quiet = λ i. by may i; stands = read_on x.goal x.own x.lexeme (text_of xs tail) (text_of (woven xs gaps) over) begins_so kept e h.stands }
    where
      are : MayStand behind x us → AreTrivia goal first false us
      are (inl same) = subst (λ (vs : List Trivium). AreTrivia goal first false vs) (sym same) h.trivia
      are (inr (i, inl p)) = subst (λ (vs : List Trivium). AreTrivia goal first false vs) (sym p.0) tt
      are (inr (i, inr p)) = as_module goal false first false us p.0

      none : MayStand behind x us → is_inner x.goal ≡ true → us ≡ []
      none (inl same) i = same ∙ h.tight i
      none (inr p) i = absurd (true≢false (sym i ∙ p.0))

      by : MayStand behind x us → is_inner x.goal ≡ false → NoTrivia goal (first || breaks_line us) (x.own ++ text_of (woven xs gaps) over)
      by (inl same) i = subst (λ (vs : List Trivium). NoTrivia goal (first || breaks_line vs) (x.own ++ text_of (woven xs gaps) over)) (sym same) (still i)
      by (inr (j, inl p)) i =
          subst (λ (vs : List Trivium). NoTrivia goal (first || breaks_line vs) (x.own ++ text_of (woven xs gaps) over)) (sym p.0)
          (line_on goal (first || breaks_line x.before) (first || false) (x.own ++ text_of (woven xs gaps) over) (λ mark inner e o. later_opens first (breaks_line x.before) mark o) (still i))
      by (inr (j, inr p)) i = lined p.2
        where
          lined : (breaks_line us ≡ breaks_line x.before) ⊎ (is_no_dash x.own ≡ true) → NoTrivia goal (first || breaks_line us) (x.own ++ text_of (woven xs gaps) over)
          lined (inl e) = subst (λ (b : Bool). NoTrivia goal (first || b) (x.own ++ text_of (woven xs gaps) over)) (sym e) (still i)
          lined (inr d) =
              let b = begins_so (no_tail x.goal i) in
              line_on goal (first || breaks_line x.before) (first || breaks_line us) (x.own ++ text_of (woven xs gaps) over)
              (dash_opens (first || breaks_line x.before) (first || breaks_line us) (x.own ++ text_of (woven xs gaps) over) (λ inner e. no_dash_first x.own (text_of (woven xs gaps) over) inner b.0 b.1 b.2 d e)) (still i)

-- ---- what ends the characters of a template stays behind them

ends_here : (y : Cell) (us : List Trivium) (r s : List ℕ) → y.goal ≡ TemplateEnd → us ≡ [] → IsLexeme y.goal (y.own ++ r) y.lexeme r → EndsHere (gap_before us (y.own ++ s))
ends_here y us r s e n l =
    let z = subst (λ (g : LexicalGoal). IsLexeme g (y.own ++ r) y.lexeme r) e l in
    (z.0, s, subst (λ (vs : List Trivium). templates.Ends z.0 (gap_before vs (y.own ++ s)) s) (sym n) (ending_on z.0 y.own r z.1 s))

none_put : (behind : List ℕ) (y : Cell) (us : List Trivium) → y.goal ≡ TemplateEnd → y.before ≡ [] → MayStand behind y us → us ≡ []
none_put behind y us e n (inl same) = same ∙ n
none_put behind y us e n (inr p) = absurd (true≢false (sym (ap is_inner e) ∙ p.0))

closed : (goal : Goal) (x : Cell) (xs : List Cell) (gaps : List (List Trivium)) (tail over : List Trivium) → AllMayStand x.own xs gaps tail over → Closes x xs → Stand goal false xs tail → x.goal ≡ TemplateTail
    → EndsHere (text_of (woven xs gaps) over)
closed goal x [] gaps tail over m c h e = absurd (c e)
closed goal x (y ∷ ys) [] tail over m c h e = ends_here y y.before (text_of ys tail) (text_of (woven ys []) over) (c e) (h.0.tight (ap is_inner (c e))) h.0.stands
closed goal x (y ∷ ys) (us ∷ gaps) tail over m c h e =
    ends_here y us (text_of ys tail) (text_of (woven ys gaps) over) (c e) (none_put x.own y us (c e) (h.0.tight (ap is_inner (c e))) m.0) h.0.stands

-- ---- all of them

over_end : (goal : Goal) (first : Bool) (behind : List ℕ) (tail over : List Trivium) → MayEnd behind tail over → AreTrivia goal first true tail → AreTrivia goal first true over
over_end goal first behind tail over (inl e) h = subst (λ (us : List Trivium). AreTrivia goal first true us) (sym e) h
over_end goal first behind tail over (inr (inl e)) h = subst (λ (us : List Trivium). AreTrivia goal first true us) (sym e) tt
over_end goal first behind tail over (inr (inr p)) h = as_module goal false first true over p.0

closes_on : (x : Cell) (us : List Trivium) (xs : List Cell) (gaps : List (List Trivium)) → Closes x xs → Closes (with_gap x us) (woven xs gaps)
closes_on x us [] gaps h = h
closes_on x us (y ∷ ys) [] h = h
closes_on x us (y ∷ ys) (vs ∷ gaps) h = h

stand_on : (goal : Goal) (first : Bool) (behind : List ℕ) (xs : List Cell) (gaps : List (List Trivium)) (tail over : List Trivium) → AllMayStand behind xs gaps tail over → Stand goal first xs tail
    → Stand goal first (woven xs gaps) over
stand_on goal first behind [] gaps tail over m h = over_end goal first behind tail over m h
stand_on goal first behind (x ∷ xs) [] tail over m h = (
  put goal first x xs [] tail over m h.0 behind x.before (closed goal x xs [] tail over m h.1 h.2) (inl refl),
  closes_on x x.before xs [] h.1,
  stand_on goal false x.own xs [] tail over m h.2,
)
stand_on goal first behind (x ∷ xs) (us ∷ gaps) tail over m h = (
  put goal first x xs gaps tail over m.1 h.0 behind us (closed goal x xs gaps tail over m.1 h.1 h.2) m.0,
  closes_on x us xs gaps h.1,
  stand_on goal false x.own xs gaps tail over m.1 h.2,
)

pub tokens_stay : TokensStay
tokens_stay goal first xs gaps tail over m h = stand_on goal first at_front xs gaps tail over m h
