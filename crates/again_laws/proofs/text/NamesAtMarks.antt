-- The names of items stand where the marks say.
use Rattle.std.proofs.Common.{◌≡◌, ℕ, ◌+◌, ◌-◌, ◌<◌, ◌⊎◌, inl, inr, ⊎_elim, Bool, true, false, ◌&&◌, List, [], ◌∷◌, ◌++◌, length, length-append, drop, Option, Some, None, refl, sym, ap, ap₂, subst, ◌∙◌, append_assoc, append-nil, arith}
use Rattle.std.specs.Prelude.{◌==◌, codes, encode_utf8_all}
use Rattle.std.specs.List.{Contains}
use Rattle.std.specs.Str.{chars, IsUtf8}
use Rattle.std.proofs.lemmas.Bool.{cases_Bool, false≢true}
use Rattle.std.proofs.lemmas.Bool.Decides.{nat_tests}
use Rattle.std.proofs.lemmas.Str.{chars-append, chars-nil, encodes-append, IsUtf8-append, IsUtf8-nil, IsUtf8-take, IsUtf8-drop, IsCharBoundary-before_ascii, IsCharBoundary-after_ascii}
use Rattle.std.proofs.Math.Seq.{take-append_seam, drop-append_seam, get_or-append_seam}
use lib.ListN.{get_or}
use Rattle.base_token.specs.declared.place.BytePos.{BytePos}
use Rattle.base_token.specs.declared.place.LineCol.{LineCol}
use Rattle.base_token.specs.declared.place.Span.{Span}
use Rattle.lex_pieces.specs.Places.{bytes}
use Rattle.lex_literal.specs.declared.template.Ending.{Ending}
use Rattle.lex_literal.specs.declared.template.Ending.TheVariants.{BackQuote, Substitution}
use Rattle.lex_literal.specs.Templates as templates
use Rattle.lex_token.specs.declared.goal.LexicalGoal.{LexicalGoal}
use Rattle.lex_token.specs.declared.goal.LexicalGoal.TheVariants.{Div, RegExp, TemplateTail, TemplateEnd}
use Rattle.lex_token.specs.Lexemes.{IsLexeme}
use Rattle.print_writers.specs.Lines.{begins_with_lf}
use Rattle.print_writers.specs.Pages.{Marks}
use Rattle.print_pages_spec.specs.Pieces.{Piece, Text, Brace, Blank, Line, Deeper, Back, Semicolon, Commit, Mark}
use Rattle.print_layout_spec.specs.Looks.{regular_expression, template_characters, template_end, hashbang_comment, touching, joined, texts_of, texts_before}
use Rattle.print_pages_spec.specs.Lines.Lines.{place_of, place_between}
use Rattle.print_pages_spec.specs.Lines.Laws.{ends_with_cr, is_cut}
use Rattle.print_pages_spec.proofs.lines.Places.{fronts_end}
use Rattle.again_laws.proofs.tokens.Ascii.{ascii}
use Rattle.again_laws.specs.Tiling.Categories.{State, Fresh, Clear, Shut, Quasied, Category, Closed, Quasi, takes, behind, is_open, blank_behind}
use Rattle.again_laws.specs.Tiling.Following.{Follows, Front}
use Rattle.again_laws.specs.Tiling.Goes.{Fits, GoesText, GoesTexts}
use Rattle.again_laws.proofs.tiling.Items.{Item, Plain, Meant, Named, spread, GoesAll, shut_for_clear, empty_runs}
use Rattle.again_laws.proofs.tiling.BetweenTexts.{Lines, lead_of, own_running, after_running, after_texts, next_lines, text_lines, follows, lone_32}
use Rattle.again_laws.proofs.tiling.Marks.{right_brace, semicolon_mark}
use Rattle.again_laws.proofs.tiling.Pen.{Pen, lead, own_text, after_text, own as own_of, next, wrote}
use Rattle.again_laws.proofs.tiling.Tiling.{AllPlaced}
use Rattle.again_laws.proofs.tiling.GoingLayouts.{When_mono, when_so}
use Rattle.again_laws.proofs.text.NoCrAtEnd.{outside_closed, end_closed, no_outside}
use Rattle.again_laws.proofs.text.MarksReached.{Kept, Grows, grows_notes, kept_text, kept_line, kept_mark, told_text, some_before}
use Rattle.again_laws.proofs.text.MarksByPen.{noted_text, noted_line, noted_mark, notes}

-- ---- no CR LF is cut behind a text

pub closed_uncut : (xs ys : List ℕ) → ends_with_cr xs ≡ false → is_cut xs ys ≡ false
closed_uncut xs ys e = ap (λ b. b && begins_with_lf ys) e

other_uncut : (xs ys : List ℕ) → begins_with_lf ys ≡ false → is_cut xs ys ≡ false
other_uncut xs ys e = ap (λ b. ends_with_cr xs && b) e ∙ and_false (ends_with_cr xs)
  where
    and_false : (b : Bool) → (b && false) ≡ false
    and_false true = refl
    and_false false = refl

-- a token that is no characters of a template ends with no CR
fits_closed : (goal : LexicalGoal) (own : List ℕ) (k : Category) → Fits goal own k → (k ≡ Quasi) ⊎ (ends_with_cr (chars own) ≡ false)
fits_closed TemplateTail own k f = inl f.kind_of
fits_closed Div own k f = inr (outside_closed Div (chars own) f.lexeme f.is_own)
fits_closed RegExp own k f = inr (outside_closed RegExp (chars own) f.lexeme f.is_own)
fits_closed TemplateEnd own k f = inr (end_closed (chars own) f.lexeme f.is_own)

ending_first : (e : Ending) (cs r : List ℕ) → templates.Ends e cs r → begins_with_lf cs ≡ false
ending_first BackQuote cs r h = ap begins_with_lf h
ending_first Substitution cs r h = ap begins_with_lf h

fits_uncut : (goal : LexicalGoal) (own : List ℕ) (k : Category) (s : State) (ys : List ℕ) → Fits goal own k → Follows (behind k s) ys → is_cut (chars own) ys ≡ false
fits_uncut goal own k s ys f h = ⊎_elim
    (λ (q : k ≡ Quasi). let e : Follows Quasied ys = subst (λ (x : Category). Follows (behind x s) ys) q h in other_uncut (chars own) ys (ending_first e.0 ys e.1 e.2))
    (λ (c : ends_with_cr (chars own) ≡ false). closed_uncut (chars own) ys c)
    (fits_closed goal own k f)

runs : (own : List ℕ) (q : Pen) → (own ≡ [] → q.at_start ≡ false) → (after_text own q).at_start ≡ false
runs [] q e = e refl
runs (c ∷ cs) q e = refl

never : (b : Bool) (A : Type 0) → b ≡ false → b ≡ true → A
never b A e f = absurd (false≢true (sym e ∙ f))

own_utf8 : (own : List ℕ) (q : Pen) → Lines q → IsUtf8 own → IsUtf8 (own_text own q)
own_utf8 [] q l u = IsUtf8-nil
own_utf8 (c ∷ cs) q l u = IsUtf8-append (lead q) (c ∷ cs) (lead_of q l).utf8 u

-- ---- texts that are together one token

ends_both : (xs ys : List ℕ) → ends_with_cr xs ≡ false → ends_with_cr ys ≡ false → ends_with_cr (xs ++ ys) ≡ false
ends_both [] ys e f = f
ends_both (x ∷ []) [] e f = e
ends_both (x ∷ []) (y ∷ ys) e f = f
ends_both (x ∷ z ∷ zs) ys e f = ends_both (z ∷ zs) ys e f

ends_last : (xs ys : List ℕ) → ends_with_cr (xs ++ ys) ≡ false → ends_with_cr ys ≡ false
ends_last [] ys e = e
ends_last (x ∷ []) [] e = refl
ends_last (x ∷ []) (y ∷ ys) e = e
ends_last (x ∷ z ∷ zs) ys e = ends_last (z ∷ zs) ys e

record Together (texts : List (List ℕ)) (P : State → Type 0) : Type 0 where
  utf8 : IsUtf8 (joined texts)
  closed : ends_with_cr (chars (joined texts)) ≡ false
  state : State
  goes : P state

together : (texts : List (List ℕ)) (s : State) (P : State → Type 0) → GoesTexts texts s P → Together texts P
together [] s P g = record { utf8 = IsUtf8-nil; closed = ap ends_with_cr chars-nil; state = s; goes = g }
together (own ∷ others) s P g =
    let t = together others (behind g.0 s) P (when_so (takes g.0 s) (GoesTexts others (behind g.0 s) P) g.2).1 in record {
      utf8 = IsUtf8-append own (joined others) g.1.utf8 t.utf8;
      closed = ap ends_with_cr (chars-append own (joined others) g.1.utf8) ∙ ends_both (chars own) (chars (joined others)) (outside_closed Div (chars own) g.1.lexeme g.1.is_own) t.closed;
      state = t.state;
      goes = t.goes;
    }

some_own : (own : List ℕ) (k : Category) → Fits Div own k → own ≡ [] → ⊥
some_own own k f e = no_outside Div f.lexeme (subst (λ (cs : List ℕ). IsLexeme Div cs f.lexeme []) (ap chars e ∙ chars-nil) f.is_own)

some_joined : (own : List ℕ) (others : List (List ℕ)) → (own ≡ [] → ⊥) → joined (own ∷ others) ≡ [] → ⊥
some_joined [] others n e = n refl
some_joined (c ∷ cs) others n e = cc

-- Texts of UTF-8 at whose ends no CR LF is cut.
abbrev pub AreWhole : List (List ℕ) → List Piece → Pen → Type 0
AreWhole [] ys q = Unit {0}
AreWhole (own ∷ others) ys q = IsUtf8 own × (is_cut (chars own) (chars (wrote (texts_before others ys) (after_text own q))) ≡ false) × AreWhole others ys (after_text own q)

-- ---- the parts of a regular expression

seam_drop : (xs : List ℕ) (c : ℕ) (ys : List ℕ) → drop (length xs + 1) (xs ++ c ∷ ys) ≡ ys
seam_drop xs c ys = ap₂ (λ (n : ℕ) (l : List ℕ). drop n l) (sym (length-append xs (c ∷ []))) (sym (append_assoc xs (c ∷ []) ys)) ∙ drop-append_seam (xs ++ c ∷ []) ys

-- on both sides of a slash
slash_utf8 : (xs ys : List ℕ) → IsUtf8 (xs ++ 47 ∷ ys) → IsUtf8 xs × IsUtf8 ys
slash_utf8 xs ys u =
    let whole : List ℕ = xs ++ 47 ∷ ys in
    let at = get_or-append_seam xs 47 ys 0 in
    let size = length-append xs (47 ∷ ys) in
    let in_it : length xs < length whole = omega (arith, size) in
    let low : get_or whole (length xs) 0 < 128 = omega (arith, at) in (
      subst IsUtf8 (take-append_seam xs (47 ∷ ys)) (IsUtf8-take whole (length xs) u (IsCharBoundary-before_ascii whole (length xs) in_it low)),
      subst IsUtf8 (seam_drop xs 47 ys) (IsUtf8-drop whole (length xs + 1) u (IsCharBoundary-after_ascii whole (length xs) u in_it low)),
    )

-- Body and flags between and behind slashes.
parts_whole : (body flags : List ℕ) (ys : List Piece) (q : Pen) → IsUtf8 (joined (texts_of (regular_expression body flags))) → ends_with_cr (chars (joined (texts_of (regular_expression body flags)))) ≡ false
    → AreWhole (texts_of (regular_expression body flags)) ys q
parts_whole body flags ys q u c =
    let flat : joined (texts_of (regular_expression body flags)) ≡ 47 ∷ (body ++ 47 ∷ flags) = ap (λ (l : List ℕ). 47 ∷ (body ++ 47 ∷ l)) (append-nil flags) in
    let inner = slash_utf8 [] (body ++ 47 ∷ flags) (subst IsUtf8 flat u) in
    let parts = slash_utf8 body flags inner.1 in
    let q1 : Pen = after_text (codes "/") q in
    let q2 : Pen = after_text body q1 in
    let slash = ascii (codes "/") refl in
    let running : q2.at_start ≡ false = after_running body q1 refl in
    let rest : List ℕ = wrote (texts_before (flags ∷ []) ys) (after_text (codes "/") q2) in
    let first : begins_with_lf (chars (own_text (codes "/") q2 ++ rest)) ≡ false =
    ap (λ (l : List ℕ). begins_with_lf (chars (l ++ rest))) (own_running (codes "/") q2 running) ∙ ap begins_with_lf (chars-append (codes "/") rest slash.utf8 ∙ ap (λ (l : List ℕ). l ++ chars rest) slash.same) in
    let split : chars (joined (texts_of (regular_expression body flags))) ≡ (47 ∷ (chars body ++ 47 ∷ [])) ++ chars flags =
    ap chars flat
    ∙ (chars-append (codes "/") (body ++ 47 ∷ flags) slash.utf8
    ∙ (ap (λ (l : List ℕ). l ++ chars (body ++ 47 ∷ flags)) slash.same
    ∙ ap (λ (l : List ℕ). 47 ∷ l) (chars-append body (47 ∷ flags) parts.0 ∙ (ap (λ (l : List ℕ). chars body ++ l) (chars-append (codes "/") flags slash.utf8 ∙ ap (λ (l : List ℕ). l ++ chars flags) slash.same)
    ∙ sym (append_assoc (chars body) (47 ∷ []) (chars flags)))))) in
    let closed : ends_with_cr (chars (codes "/")) ≡ false = ap ends_with_cr slash.same in (
      slash.utf8,
      closed_uncut (chars (codes "/")) (chars (wrote (texts_before (body ∷ codes "/" ∷ flags ∷ []) ys) q1)) closed,
      (
        parts.0,
        other_uncut (chars body) (chars (own_text (codes "/") q2 ++ rest)) first,
        (slash.utf8, closed_uncut (chars (codes "/")) (chars rest) closed, (parts.1, closed_uncut (chars flags) (chars (wrote ys (after_text flags (after_text (codes "/") q2)))) (ends_last (47 ∷ (chars body ++ 47 ∷ [])) (chars flags) (sym (ap ends_with_cr split) ∙ c)), tt)),
      ),
    )

-- ---- all items

module _ (start : ℕ) (text : List ℕ) (last : Marks) where
  -- the pair of where a name was read and of where it stands
  abbrev pub IsPair : ℕ → ℕ → Type 0
  IsPair pos at = (end : LineCol) → last.reached ≡ Some end → (pos ≡ 0 → ⊥) → Contains last.pairs (record { 0 = pos }, place_of text (at - start))

  abbrev pub IsStanding : List Item → Type 0
  IsStanding xs = (q : Pen) (s : State) (m : Marks) (cs : List ℕ) → Lines q → GoesAll xs s → (q.at_start ≡ true → s ≡ Fresh) → text ≡ cs ++ chars (wrote (spread xs) q)
      → Kept m cs (chars (wrote (spread xs) q)) → last ≡ notes (spread xs) q m → AllPlaced IsPair (start + bytes text) xs q

  record Behind (span : Option Span) (own : List ℕ) (rest : List ℕ) (q : Pen) (m : Marks) (cs : List ℕ) : Type 0 where
    whole : text ≡ (cs ++ chars (own_text own q)) ++ chars rest
    kept : Kept (noted_text span own q m) (cs ++ chars (own_text own q)) (chars rest)

  behind_text : (span : Option Span) (own rest : List ℕ) (q : Pen) (m : Marks) (cs : List ℕ) → Lines q → IsUtf8 own → is_cut (chars own) (chars rest) ≡ false
      → text ≡ cs ++ chars (own_text own q ++ rest) → Kept m cs (chars (own_text own q ++ rest)) → Behind span own rest q m cs
  behind_text span own rest q m cs l u n e k =
      let parts : chars (own_text own q ++ rest) ≡ chars (own_text own q) ++ chars rest = chars-append (own_text own q) rest (own_utf8 own q l u) in record {
        whole = e ∙ (ap (λ (ds : List ℕ). cs ++ ds) parts ∙ sym (append_assoc cs (chars (own_text own q)) (chars rest)));
        kept = kept_text span own q m cs (chars rest) l n (subst (λ (ds : List ℕ). Kept m cs ds) parts k);
      }

  -- one text by the automaton, and then the rest
  text_stands : (goal : LexicalGoal) (own : List ℕ) (span : Option Span) (xs : List Item) → IsStanding xs → (q : Pen) (s : State) (m : Marks) (cs : List ℕ) → Lines q
      → GoesText goal own s (λ t. GoesAll xs t) → (q.at_start ≡ true → s ≡ Fresh) → text ≡ cs ++ chars (own_text own q ++ wrote (spread xs) (after_text own q))
      → Kept m cs (chars (own_text own q ++ wrote (spread xs) (after_text own q))) → last ≡ notes (spread xs) (after_text own q) (noted_text span own q m)
      → AllPlaced IsPair (start + bytes text) xs (after_text own q)
  text_stands goal own span xs go q s m cs l g f e k z =
      let t = when_so (takes g.0 s) (GoesAll xs (behind g.0 s)) g.2 in
      let ran : (after_text own q).at_start ≡ false = runs own q (λ n. empty_runs g.0 s q (subst (λ (o : List ℕ). Front g.0 o) (ap chars n ∙ chars-nil) g.1.front) t.0 f) in
      let l2 = text_lines own q l in
      let st : (after_text own q).at_start ≡ true → behind g.0 s ≡ Fresh = λ b. never _ _ ran b in
      let n = fits_uncut goal own g.0 s (chars (wrote (spread xs) (after_text own q))) g.1 (follows xs (after_text own q) (behind g.0 s) l2 t.1 st) in
      let b = behind_text span own (wrote (spread xs) (after_text own q)) q m cs l g.1.utf8 n e k in
      go (after_text own q) (behind g.0 s) (noted_text span own q m) (cs ++ chars (own_text own q)) l2 t.1 st b.whole b.kept z

  -- texts one after another, and then the rest
  pub texts_stand : (texts : List (List ℕ)) (xs : List Item) → IsStanding xs → (q : Pen) (s : State) (m : Marks) (cs : List ℕ) → Lines q → AreWhole texts (spread xs) q → GoesAll xs s
      → ((after_texts texts q).at_start ≡ true → s ≡ Fresh) → text ≡ cs ++ chars (wrote (texts_before texts (spread xs)) q) → Kept m cs (chars (wrote (texts_before texts (spread xs)) q))
      → last ≡ notes (texts_before texts (spread xs)) q m → AllPlaced IsPair (start + bytes text) xs (after_texts texts q)
  texts_stand [] xs go q s m cs l w g f e k z = go q s m cs l g f e k z
  texts_stand (own ∷ others) xs go q s m cs l w g f e k z =
      let b = behind_text None own (wrote (texts_before others (spread xs)) (after_text own q)) q m cs l w.0 w.1 e k in
      texts_stand others xs go (after_text own q) s (noted_text None own q m) (cs ++ chars (own_text own q)) (text_lines own q l) w.2 g f b.whole b.kept z

  -- the end of a line, or nothing where one starts
  line_utf8 : (q : Pen) → Lines q → IsUtf8 (own_of Line q)
  line_utf8 q l = ⊎_elim (λ (e : q.at_start ≡ true). rw e IsUtf8-nil) (λ (e : q.at_start ≡ false). rw e l.line_utf8) (cases_Bool q.at_start)

  -- a name, by what stands before it
  name_pair : (pos : BytePos) (own : List ℕ) (xs : List Item) (q : Pen) (m : Marks) (cs : List ℕ) → Lines q → IsUtf8 own → (own ≡ [] → ⊥)
      → text ≡ cs ++ chars (own_text own q ++ wrote (spread xs) (after_text own q)) → Kept m cs (chars (own_text own q ++ wrote (spread xs) (after_text own q)))
      → last ≡ notes (spread xs) (after_text own q) (noted_text None own q (noted_mark pos q m))
      → IsPair pos.0 ((start + bytes text) - bytes (chars own ++ chars (wrote (spread xs) (after_text own q))))
  name_pair pos [] xs q m cs l u n e k z end r nz = absurd (n refl)
  name_pair pos (c ∷ os) xs q m cs l u n e k z end r nz =
      let own : List ℕ = c ∷ os in
      let d = lead_of q l in
      let w : List ℕ = wrote (spread xs) (after_text own q) in
      let ys : List ℕ = chars own ++ chars w in
      let front : List ℕ = cs ++ chars (lead q) in
      let parts : chars (own_text own q ++ w) ≡ chars (lead q) ++ ys =
      ap chars (append_assoc (lead q) own w) ∙ (chars-append (lead q) (own ++ w) d.utf8 ∙ ap (λ (ds : List ℕ). chars (lead q) ++ ds) (chars-append own w u)) in
      let whole : text ≡ front ++ ys = e ∙ (ap (λ (ds : List ℕ). cs ++ ds) parts ∙ sym (append_assoc cs (chars (lead q)) ys)) in
      let m2 : Marks = noted_text None own q (noted_mark pos q m) in
      let on = subst (λ (x : Marks). Grows m2 x) (sym z) (grows_notes (spread xs) (after_text own q) m2) in
      let before = some_before m2 last end on r in
      let dummy : (pos.0 == 0) ≡ false = grind (arith, nat_tests, nz) in
      let told = told_text pos c os q m before.0 cs ys l dummy before.1 (subst (λ (ds : List ℕ). Kept m cs ds) parts k) in
      let size : bytes text ≡ bytes front + bytes ys = ap bytes whole ∙ (ap length (encodes-append front ys) ∙ length-append (encode_utf8_all front) (encode_utf8_all ys)) in
      let at : ((start + bytes text) - bytes ys) - start ≡ bytes front = omega (arith, size) in
      let place : place_of text (((start + bytes text) - bytes ys) - start) ≡ place_between front ys =
      ap (λ n. place_of text n) at ∙ (ap (λ (t : List ℕ). place_of t (bytes front)) whole ∙ fronts_end front ys) in
      subst (λ (p : LineCol). Contains last.pairs (pos, p)) (sym place) (on.pairs _ told)

  pub standing : (xs : List Item) → IsStanding xs
  standing [] q s m cs l g f e k z = tt
  standing (Plain (Text span own) ∷ xs) q s m cs l g f e k z = text_stands Div own span xs (standing xs) q s m cs l g f e k z
  standing (Plain (Brace span) ∷ xs) q s m cs l g f e k z = text_stands Div (codes "}") span xs (standing xs) q s m cs l (Closed, right_brace, g) f e k z
  standing (Plain Blank ∷ xs) q s m cs l g f e k z =
      let n : is_cut (chars (codes " ")) (chars (wrote (spread xs) (after_text (codes " ") q))) ≡ false = closed_uncut (chars (codes " ")) (chars (wrote (spread xs) (after_text (codes " ") q))) (ap ends_with_cr lone_32.same) in
      let b = behind_text None (codes " ") (wrote (spread xs) (after_text (codes " ") q)) q m cs l lone_32.utf8 n e k in
      standing xs (after_text (codes " ") q) (blank_behind s) (noted_text None (codes " ") q m) (cs ++ chars (own_text (codes " ") q)) (text_lines (codes " ") q l) (when_so _ _ g).1
      (λ t. absurd (false≢true t)) b.whole b.kept z
  standing (Plain Line ∷ xs) q s m cs l g f e k z =
      let w : List ℕ = wrote (spread xs) (next Line q) in
      let parts : chars (own_of Line q ++ w) ≡ chars (own_of Line q) ++ chars w = chars-append (own_of Line q) w (line_utf8 q l) in
      standing xs (next Line q) Fresh (noted_line q m) (cs ++ chars (own_of Line q)) (next_lines Line q l) (when_so _ _ g).1 (λ t. refl)
      (e ∙ (ap (λ (ds : List ℕ). cs ++ ds) parts ∙ sym (append_assoc cs (chars (own_of Line q)) (chars w))))
      (kept_line q m cs (chars w) l (subst (λ (ds : List ℕ). Kept m cs ds) parts k)) z
  standing (Plain Deeper ∷ xs) q s m cs l g f e k z = standing xs (next Deeper q) s m cs (next_lines Deeper q l) g f e k z
  standing (Plain Back ∷ xs) q s m cs l g f e k z = standing xs (next Back q) s m cs (next_lines Back q l) g f e k z
  standing (Plain (Semicolon span) ∷ xs) q s m cs l g f e k z =
      text_stands Div (codes ";") span xs (standing xs) q s m cs l (Closed, semicolon_mark, When_mono (is_open s) (GoesAll xs Clear) (GoesAll xs Shut) g (λ h. shut_for_clear xs h)) f e k z
  standing (Plain Commit ∷ xs) q s m cs l g f e k z = standing xs q s m cs l g f e k z
  standing (Plain (Mark pos) ∷ xs) q s m cs l g f e k z = standing xs q s (noted_mark pos q m) cs l g f e (kept_mark pos q m cs _ k) z
  standing (Meant (template_characters own) ∷ xs) q s m cs l g f e k z = text_stands TemplateTail own None xs (standing xs) q s m cs l g f e k z
  standing (Meant (template_end own) ∷ xs) q s m cs l g f e k z = text_stands TemplateEnd own None xs (standing xs) q s m cs l g f e k z
  standing (Meant (hashbang_comment own) ∷ xs) q s m cs l g f e k z = absurd g
  standing (Meant (touching []) ∷ xs) q s m cs l g f e k z = standing xs q s m cs l g f e k z
  standing (Meant (touching (own ∷ others)) ∷ xs) q s m cs l g f e k z =
      let t = together (own ∷ others) s (λ t. GoesAll xs t) g in
      let ran = runs (joined (own ∷ others)) q (λ h. absurd (some_joined own others (some_own own g.0 g.1) h)) in
      texts_stand (joined (own ∷ others) ∷ []) xs (standing xs) q t.state m cs l (t.utf8, closed_uncut (chars (joined (own ∷ others))) (chars (wrote (spread xs) (after_text (joined (own ∷ others)) q))) t.closed, tt) t.goes (λ b. never _ _ ran b) e k z
  standing (Meant (regular_expression body flags) ∷ xs) q s m cs l g f e k z =
      let t = when_so (takes g.0 s) (GoesAll xs (behind g.0 s)) g.2 in
      let w = parts_whole body flags (spread xs) q g.1.utf8 (outside_closed RegExp (chars (joined (texts_of (regular_expression body flags)))) g.1.lexeme g.1.is_own) in
      texts_stand (texts_of (regular_expression body flags)) xs (standing xs) q (behind g.0 s) m cs l w t.1 (λ b. never _ _ (after_running flags _ refl) b) e k z
  standing (Named pos own ∷ xs) q s m cs l g f e k z = (
    name_pair pos own xs q m cs l g.1.utf8 (some_own own g.0 g.1) e k z,
    text_stands Div own None xs (standing xs) q s (noted_mark pos q m) cs l g f e (kept_mark pos q m cs _ k) z,
  )
