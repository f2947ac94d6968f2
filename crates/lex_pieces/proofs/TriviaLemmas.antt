-- The functions that read a piece of trivia are its definition.
use Rattle.std.proofs.Common.{◌≡◌, ◌≢◌, ℕ, IsUtf8, inl, inr, ⊎_elim, Bool, true, false, cond, List, [], ◌∷◌, ◌++◌, refl, sym, ap, subst, ◌∙◌}
use Rattle.std.specs.Prelude.{◌==◌, Option, None, Some, Result, Ok, Err, MatchOption, MatchResult, option_and_then}
use Rattle.std.specs.Borrow.{Bor}
use Rattle.std.specs.Str.{chars}
use Rattle.base_token.specs.declared.error.Error.{Error}
use Rattle.lex_pieces.specs.declared.trivia.Trivia.{Trivia}
use Rattle.std.proofs.lemmas.Bool.{cases_Bool, false≢true, eqb-true}
use Rattle.lex_pieces.specs.declared.trivia.Goal.{Goal}
use Rattle.lex_pieces.specs.declared.trivia.Goal.TheVariants.{Script, Module}
use Rattle.lex_pieces.specs.declared.trivia.LineMark.{LineMark}
use Rattle.lex_pieces.specs.declared.trivia.LineMark.TheVariants.{Slashes, HtmlOpen, HtmlClose}
use Rattle.lex_pieces.specs.Characters.{is_white_space, is_line_terminator}
use Rattle.lex_pieces.specs.Classes.{is_line_char}
use Rattle.lex_pieces.specs.Comments.{NoEnd, IsBlock, before_end, past_end}
use Rattle.lex_pieces.specs.Runs.{Each, Ends, IsRun, run, after}
use Rattle.lex_pieces.specs.Trivia.{Piece, WhiteSpace, LineTerminator, LineComment, BlockComment, IsFault, IsPiece, IsLineBreak, IsOpenBlock, IsLegacy, MayOpen, NoPiece, NoTrivia, OnePiece, is_html, is_line_feed, opens, spelled}
use Rattle.lex_pieces.specs.ReadingTrivia.{Agrees, IsFaultOf, Reading, view, Nothing, Found, Open, Legacy, block, block_by, html, line, past, past_html_open, past_html_close, after_slash, after_break, read, read_by}
use Rattle.lex_pieces.proofs.Apart.{terminator_no_space}
use Rattle.lex_pieces.proofs.Passing.{Seam, seam}
use Rattle.lex_pieces.proofs.Ending.{block_cut, no_end_past, some_past, none_past}

pub reads_block : (cs own rest : List ℕ) → IsBlock cs own rest → block cs ≡ Found (BlockComment own) rest
reads_block cs own rest h =
    let k = block_cut own rest h.1 in
    let past : past_end cs ≡ Some rest = ap past_end h.0 ∙ k.1 in
    let before : before_end cs ≡ own = ap before_end h.0 ∙ k.0 in
    ap (λ o. block_by o (before_end cs)) past ∙ ap (λ l. Found (BlockComment l) rest) before

pub reads_open : (cs : List ℕ) → NoEnd cs → block cs ≡ Open
reads_open cs h = ap (λ o. block_by o (before_end cs)) (no_end_past cs h)

-- ---- runs

module _ (p : ℕ → Bool) where
  yes : (c : ℕ) (cs : List ℕ) → p c ≡ true → (run p (c ∷ cs) ≡ c ∷ run p cs) × (after p (c ∷ cs) ≡ after p cs)
  yes c cs e = (ap (λ t. cond t (c ∷ run p cs) []) e, ap (λ t. cond t (after p cs) (c ∷ cs)) e)

  no : (c : ℕ) (cs : List ℕ) → p c ≡ false → (run p (c ∷ cs) ≡ []) × (after p (c ∷ cs) ≡ c ∷ cs)
  no c cs e = (ap (λ t. cond t (c ∷ run p cs) []) e, ap (λ t. cond t (after p cs) (c ∷ cs)) e)

  pub is_run : (cs : List ℕ) → IsRun p cs (run p cs) (after p cs)
  is_run [] = (refl, tt, tt)
  is_run (c ∷ cs) = ⊎_elim
      (λ (e : p c ≡ true). let k = yes c cs e in let r = is_run cs in
      rw k.0 (rw k.1 (ap (λ (l : List ℕ). c ∷ l) r.0, (e, r.1), r.2)))
      (λ (e : p c ≡ false). let k = no c cs e in rw k.0 (rw k.1 (refl, tt, e)))
      (cases_Bool (p c))

  stops : (cs : List ℕ) → Ends p cs → (run p cs ≡ []) × (after p cs ≡ cs)
  stops [] h = (refl, refl)
  stops (c ∷ cs) h = no c cs h

  pub whole_run : (own rest : List ℕ) → Each p own → Ends p rest → (run p (own ++ rest) ≡ own) × (after p (own ++ rest) ≡ rest)
  whole_run [] rest h e = stops rest e
  whole_run (c ∷ cs) rest h e =
      let k = whole_run cs rest h.1 e in
      let w = yes c (cs ++ rest) h.0 in
      (w.0 ∙ ap (λ (l : List ℕ). c ∷ l) k.0, w.1 ∙ k.1)

  pub one_run : (cs own rest : List ℕ) → IsRun p cs own rest → (run p cs ≡ own) × (after p cs ≡ rest)
  one_run cs own rest h = let k = whole_run own rest h.1 h.2 in (ap (run p) h.0 ∙ k.0, ap (after p) h.0 ∙ k.1)

-- ---- a piece is what is read

reads_line : (mark : LineMark) (inner own rest : List ℕ) → IsRun is_line_char inner own rest → line mark inner ≡ Found (LineComment mark own) rest
reads_line mark inner own rest h =
    let k = one_run is_line_char inner own rest h in
    ap (λ l. Found (LineComment mark l) (after is_line_char inner)) k.0 ∙ ap (λ l. Found (LineComment mark own) l) k.1

module _ (goal : Goal) (first : Bool) where
  reads_space : (text own rest : List ℕ) → own ≢ [] → IsRun is_white_space text own rest → read goal first text ≡ Found WhiteSpace rest
  unfolding read_by
  reads_space text [] rest some h = absurd (some refl)
  reads_space [] (c ∷ own) rest some h = cc
  reads_space (d ∷ ds) (c ∷ own) rest some h =
      let head : d ≡ c = cc in
      let e : is_white_space d ≡ true = ap is_white_space head ∙ h.1.0 in
      let tail : ds ≡ own ++ rest = cc in
      let k = one_run is_white_space ds own rest (tail, h.1.1, h.2) in
      rw e (ap (λ l. Found WhiteSpace l) k.1)

break_ends : (c : ℕ) (rest : List ℕ) → (c ≡ 0xD → Ends is_line_feed rest) → after_break c rest ≡ rest
break_ends c [] h = refl
break_ends c (d ∷ ds) h = ⊎_elim
    (λ (e : (c == 0xD) ≡ true). let k : (d == 0xA) ≡ false = h (eqb-true c 0xD e) in rw e (rw k refl))
    (λ (e : (c == 0xD) ≡ false). rw e refl)
    (cases_Bool (c == 0xD))

reads_break : (goal : Goal) (first : Bool) (text rest : List ℕ) → IsLineBreak text rest → read goal first text ≡ Found LineTerminator rest
unfolding read_by
reads_break goal first text rest (inl e) = ap (read goal first) e
reads_break goal first text rest (inr h) =
    let c = h.0 in
    let e : is_white_space c ≡ false = terminator_no_space c h.2 in
    ap (read goal first) h.1 ∙ rw e (rw h.2 (ap (λ l. Found LineTerminator l) (break_ends c rest h.3)))

opens_line : (goal : Goal) (first : Bool) (mark : LineMark) (inner : List ℕ) → MayOpen goal first mark → read goal first (spelled mark ++ inner) ≡ line mark inner
unfolding read_by
opens_line goal first Slashes inner h = refl
opens_line Script first HtmlOpen inner h = refl
opens_line Script first HtmlClose inner h = rw h refl
opens_line Module first HtmlOpen inner h = absurd (false≢true (sym h))
opens_line Module first HtmlClose inner h = absurd (false≢true (sym h))

is_legacy : (first : Bool) (mark : LineMark) (inner : List ℕ) → is_html mark ≡ true → opens first mark ≡ true → read Module first (spelled mark ++ inner) ≡ Legacy inner
unfolding read_by
is_legacy first Slashes inner h o = absurd (false≢true h)
is_legacy first HtmlOpen inner h o = refl
is_legacy first HtmlClose inner h o = rw o refl

opens_block : (goal : Goal) (first : Bool) (inner : List ℕ) → read goal first (47 ∷ 42 ∷ inner) ≡ block inner
unfolding read_by
opens_block goal first inner = refl

reads_piece : (goal : Goal) (first : Bool) (text : List ℕ) (p : Piece) (rest : List ℕ) → IsPiece goal first text p rest → read goal first text ≡ Found p rest
reads_piece goal first text WhiteSpace rest h = reads_space goal first text h.0 rest h.1 h.2
reads_piece goal first text LineTerminator rest h = reads_break goal first text rest h
reads_piece goal first text (LineComment mark own) rest h =
    let inner = h.1.0 in
    ap (read goal first) h.1.1 ∙ opens_line goal first mark inner h.0 ∙ reads_line mark inner own rest h.1.2
reads_piece goal first text (BlockComment own) rest h =
    ap (read goal first) h.1 ∙ opens_block goal first h.0 ∙ reads_block h.0 own rest h.2

reads_fault_open : (goal : Goal) (first : Bool) (text : List ℕ) → IsOpenBlock text → read goal first text ≡ Open
reads_fault_open goal first text h = ap (read goal first) h.1 ∙ opens_block goal first h.0 ∙ reads_open h.0 h.2

reads_fault_legacy : (goal : Goal) (first : Bool) (text inner : List ℕ) → IsLegacy goal first text inner → read goal first text ≡ Legacy inner
reads_fault_legacy goal first text inner h =
    let m = h.1 in
    ap (λ g. read g first text) h.0 ∙ ap (read Module first) m.3 ∙ is_legacy first m.0 inner m.1 m.2

-- ---- what is read is so

abbrev Means : Goal → Bool → List ℕ → Reading → Type 0
Means goal first text Nothing = Unit {0}
Means goal first text (Found p rest) = IsPiece goal first text p rest
Means goal first text Open = IsOpenBlock text
Means goal first text (Legacy rest) = IsLegacy goal first text rest

pub past_is : (m : ℕ) (cs rest : List ℕ) → past m cs ≡ Some rest → cs ≡ m ∷ rest
past_is m [] rest e = cc
past_is m (c ∷ cs) rest e = ⊎_elim
    (λ (t : (c == m) ≡ true).
    let s : Some cs ≡ Some rest = sym (ap (λ b. cond b (Some cs) None) t) ∙ e in
    let same : cs ≡ rest = cc in
    rw (eqb-true c m t) (ap (λ (l : List ℕ). m ∷ l) same))
    (λ (t : (c == m) ≡ false). absurd (let s : None ≡ Some rest = sym (ap (λ b. cond b (Some cs) None) t) ∙ e in cc))
    (cases_Bool (c == m))

past_then : (m : ℕ) (o : Option (List ℕ)) (rest : List ℕ) → option_and_then (past m) o ≡ Some rest → o ≡ Some (m ∷ rest)
past_then m None rest e = cc
past_then m (Some cs) rest e = ap (λ (l : List ℕ). Some l) (past_is m cs rest e)

open_is : (cs rest : List ℕ) → past_html_open cs ≡ Some rest → 60 ∷ cs ≡ spelled HtmlOpen ++ rest
open_is cs rest e =
    ap (λ (l : List ℕ). 60 ∷ l) (past_is 33 cs _ (past_then 45 (past 33 cs) _ (past_then 45 (option_and_then (past 45) (past 33 cs)) rest e)))

close_is : (cs rest : List ℕ) → past_html_close cs ≡ Some rest → 45 ∷ cs ≡ spelled HtmlClose ++ rest
close_is cs rest e = ap (λ (l : List ℕ). 45 ∷ l) (past_is 45 cs _ (past_then 62 (past 45 cs) rest e))

may_slashes : (goal : Goal) (first : Bool) → MayOpen goal first Slashes
may_slashes Script first = refl
may_slashes Module first = refl

means_line : (goal : Goal) (first : Bool) (mark : LineMark) (text inner : List ℕ) → MayOpen goal first mark → text ≡ spelled mark ++ inner → Means goal first text (line mark inner)
means_line goal first mark text inner h e = (h, (inner, e, is_run is_line_char inner))

means_html : (goal : Goal) (first : Bool) (mark : LineMark) (text : List ℕ) (o : Option (List ℕ)) → is_html mark ≡ true → opens first mark ≡ true
    → ((rest : List ℕ) → o ≡ Some rest → text ≡ spelled mark ++ rest) → Means goal first text (html goal mark o)
means_html goal first mark text None h k is = tt
means_html Script first mark text (Some cs) h k is = means_line Script first mark text cs k (is cs refl)
means_html Module first mark text (Some cs) h k is = (refl, (mark, h, k, is cs refl))

means_block : (goal : Goal) (first : Bool) (cs : List ℕ) (o : Option (List ℕ)) → past_end cs ≡ o → Means goal first (47 ∷ 42 ∷ cs) (block_by o (before_end cs))
means_block goal first cs None e = (cs, refl, none_past cs e)
means_block goal first cs (Some rest) e = (cs, refl, some_past cs rest e)

means_slash : (goal : Goal) (first : Bool) (cs : List ℕ) → Means goal first (47 ∷ cs) (after_slash cs)
means_slash goal first [] = tt
means_slash goal first (d ∷ ds) = ⊎_elim
    (λ (e : (d == 47) ≡ true). rw e (means_line goal first Slashes (47 ∷ d ∷ ds) ds (may_slashes goal first) (ap (λ (x : ℕ). 47 ∷ x ∷ ds) (eqb-true d 47 e))))
    (λ (e : (d == 47) ≡ false). rw e (⊎_elim
    (λ (t : (d == 42) ≡ true). rw t (subst (λ (x : ℕ). Means goal first (47 ∷ x ∷ ds) (block ds)) (sym (eqb-true d 42 t)) (means_block goal first ds (past_end ds) refl)))
    (λ (t : (d == 42) ≡ false). rw t tt)
    (cases_Bool (d == 42))))
    (cases_Bool (d == 47))

break_is : (c : ℕ) (cs : List ℕ) → is_line_terminator c ≡ true → IsLineBreak (c ∷ cs) (after_break c cs)
break_is c [] t = inr (c, refl, t, λ e. tt)
break_is c (d ∷ ds) t = ⊎_elim
    (λ (e : (c == 0xD) ≡ true). rw e (⊎_elim
    (λ (f : (d == 0xA) ≡ true). rw f (inl (rw (eqb-true c 0xD e) (rw (eqb-true d 0xA f) refl))))
    (λ (f : (d == 0xA) ≡ false). rw f (inr (c, refl, t, λ _. f)))
    (cases_Bool (d == 0xA))))
    (λ (e : (c == 0xD) ≡ false). rw e (inr (c, refl, t, λ k. absurd (false≢true (sym e ∙ (rw k refl))))))
    (cases_Bool (c == 0xD))

means_space : (goal : Goal) (first : Bool) (c : ℕ) (cs : List ℕ) → is_white_space c ≡ true → Means goal first (c ∷ cs) (Found WhiteSpace (after is_white_space cs))
means_space goal first c cs e =
    let k = is_run is_white_space cs in
    (c ∷ run is_white_space cs, λ s. cc, (ap (λ (l : List ℕ). c ∷ l) k.0, (e, k.1), k.2))

means_minus : (goal : Goal) (first : Bool) (cs : List ℕ) → Means goal first (45 ∷ cs) (cond first (html goal HtmlClose (past_html_close cs)) Nothing)
means_minus goal true cs = means_html goal true HtmlClose (45 ∷ cs) (past_html_close cs) refl refl (close_is cs)
means_minus goal false cs = tt

means_mark : (goal : Goal) (first : Bool) (c : ℕ) (cs : List ℕ) → Means goal first (c ∷ cs)
    (cond (c == 47) (after_slash cs)
    (cond (c == 60) (html goal HtmlOpen (past_html_open cs))
    (cond (c == 45) (cond first (html goal HtmlClose (past_html_close cs)) Nothing) Nothing)))
means_mark goal first c cs = ⊎_elim
    (λ (e : (c == 47) ≡ true). rw e (subst (λ (x : ℕ). Means goal first (x ∷ cs) (after_slash cs)) (sym (eqb-true c 47 e)) (means_slash goal first cs)))
    (λ (e : (c == 47) ≡ false). rw e (⊎_elim
    (λ (t : (c == 60) ≡ true). rw t (subst (λ (x : ℕ). Means goal first (x ∷ cs) (html goal HtmlOpen (past_html_open cs))) (sym (eqb-true c 60 t))
    (means_html goal first HtmlOpen (60 ∷ cs) (past_html_open cs) refl refl (open_is cs))))
    (λ (t : (c == 60) ≡ false). rw t (⊎_elim
    (λ (u : (c == 45) ≡ true). rw u (subst (λ (x : ℕ). Means goal first (x ∷ cs) (cond first (html goal HtmlClose (past_html_close cs)) Nothing)) (sym (eqb-true c 45 u))
    (means_minus goal first cs)))
    (λ (u : (c == 45) ≡ false). rw u tt)
    (cases_Bool (c == 45))))
    (cases_Bool (c == 60))))
    (cases_Bool (c == 47))

means_by : (goal : Goal) (first : Bool) (c : ℕ) (cs : List ℕ) → Means goal first (c ∷ cs) (read_by goal first c cs)
unfolding read_by
means_by goal first c cs = ⊎_elim
    (λ (e : is_white_space c ≡ true). rw e (means_space goal first c cs e))
    (λ (e : is_white_space c ≡ false). rw e (⊎_elim
    (λ (t : is_line_terminator c ≡ true). rw t (break_is c cs t))
    (λ (t : is_line_terminator c ≡ false). rw t (means_mark goal first c cs))
    (cases_Bool (is_line_terminator c))))
    (cases_Bool (is_white_space c))

means : (goal : Goal) (first : Bool) (text : List ℕ) → Means goal first text (read goal first text)
means goal first [] = tt
means goal first (c ∷ cs) = means_by goal first c cs

-- ---- what the contracts say

found_same : (p q : Piece) (r s : List ℕ) → Found p r ≡ Found q s → (p ≡ q) × (r ≡ s)
found_same p q r s e = (cc, cc)

nothing_found : {p : Piece} {r : List ℕ} → Nothing ≡ Found p r → ⊥
nothing_found e = cc

nothing_open : Nothing ≡ Open → ⊥
nothing_open e = cc

nothing_legacy : {r : List ℕ} → Nothing ≡ Legacy r → ⊥
nothing_legacy e = cc

open_found : {p : Piece} {r : List ℕ} → Open ≡ Found p r → ⊥
open_found e = cc

legacy_found : {p : Piece} {r s : List ℕ} → Legacy s ≡ Found p r → ⊥
legacy_found e = cc

pub no_trivia : (goal : Goal) (first : Bool) (text : List ℕ) → read goal first text ≡ Nothing → NoTrivia goal first text
no_trivia goal first text e = (
  λ p r h. let k = reads_piece goal first text p r h in absurd (nothing_found (sym e ∙ k)),
  λ h. let k = reads_fault_open goal first text h in absurd (nothing_open (sym e ∙ k)),
  λ inner h. let k = reads_fault_legacy goal first text inner h in absurd (nothing_legacy (sym e ∙ k)),
)

pub is_piece : (goal : Goal) (first : Bool) (text : List ℕ) (p : Piece) (rest : List ℕ) → read goal first text ≡ Found p rest → IsPiece goal first text p rest
is_piece goal first text p rest e = subst (Means goal first text) e (means goal first text)

pub is_fault : (end : ℕ) (goal : Goal) (first : Bool) (text : List ℕ) (er : Error) (r : Reading) → read goal first text ≡ r → IsFaultOf end text r er → NoPiece goal first text × IsFault end goal first text er
is_fault end goal first text er Nothing e h = absurd h
is_fault end goal first text er (Found p rest) e h = absurd h
is_fault end goal first text er Open e h = (
  λ p r k. absurd (open_found (sym e ∙ reads_piece goal first text p r k)),
  inl (h.0, subst (Means goal first text) e (means goal first text), h.1),
)
is_fault end goal first text er (Legacy rest) e h = (
  λ p r k. absurd (legacy_found (sym e ∙ reads_piece goal first text p r k)),
  inr (h.0, (rest, subst (Means goal first text) e (means goal first text), h.1)),
)

pub answers : (end : ℕ) (goal : Goal) (first : Bool) (text : List ℕ) (r : Result (Option (Trivia × Bor (List ℕ))) Error) → Agrees end text (read goal first text) r
    → MatchResult r (λ o. MatchOption o (NoTrivia goal first text) (λ x. IsPiece goal first text (view x.0) (chars x.1.now))) (λ e. NoPiece goal first text × IsFault end goal first text e)
answers end goal first text (Ok None) h = no_trivia goal first text h
answers end goal first text (Ok (Some x)) h = is_piece goal first text (view x.0) (chars x.1.now) h
answers end goal first text (Err e) h = is_fault end goal first text e (read goal first text) refl h

pub one_piece : (goal : Goal) (first : Bool) (text : List ℕ) → OnePiece goal first text
one_piece goal first text p q r s h = (
  λ k. found_same p q r s (sym (reads_piece goal first text p r h) ∙ reads_piece goal first text q s k),
  λ k. open_found (sym (reads_fault_open goal first text k) ∙ reads_piece goal first text p r h),
  λ inner k. legacy_found (sym (reads_fault_legacy goal first text inner k) ∙ reads_piece goal first text p r h),
)

pub run_is : (p : ℕ → Bool) (cs own rest : List ℕ) → own ≡ run p cs → rest ≡ after p cs → IsRun p cs own rest
run_is p cs own rest e f = subst (λ l. IsRun p cs l rest) (sym e) (subst (λ l. IsRun p cs (run p cs) l) (sym f) (is_run p cs))

-- where a run ends in a text
pub run_seam : (p : ℕ → Bool) (text rest : List ℕ) → IsUtf8 text → IsUtf8 rest → chars rest ≡ after p (chars text) → Seam text rest (run p (chars text))
run_seam p text rest u v e = seam text rest (run p (chars text)) u v ((is_run p (chars text)).0 ∙ ap (λ l. run p (chars text) ++ l) (sym e))
