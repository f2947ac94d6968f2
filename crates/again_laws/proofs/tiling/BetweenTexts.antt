-- What a page writes between two texts, and that each text is followed by what it lets follow.
use Rattle.std.proofs.Common.{◌≡◌, ℕ, zero, suc, ⊎_elim, Bool, true, false, ◌||◌, List, [], ◌∷◌, ◌++◌, refl, sym, ap, subst, ◌∙◌, append_assoc}
use Rattle.std.specs.Str.{chars, IsUtf8}
use Rattle.std.proofs.lemmas.Str.{chars-append, IsUtf8-append, IsUtf8-nil, chars-nil}
use Rattle.std.proofs.lemmas.Bool.{cases_Bool, false≢true, true≢false}
use Rattle.base_proofs.proofs.Bools.{or_false, or_assoc}
use Rattle.print_writers.specs.Pages.{times}
use Rattle.print_pages_spec.specs.Pieces.{Piece, Text, Brace, Blank, Line, Deeper, Back, Semicolon, Commit, Mark}
use Rattle.lex_token.specs.declared.goal.LexicalGoal.{LexicalGoal}
use Rattle.lex_token.specs.declared.goal.LexicalGoal.TheVariants.{Div, RegExp, TemplateTail, TemplateEnd}
use Rattle.print_layout_spec.specs.Looks.{regular_expression, template_characters, template_end, hashbang_comment, touching, joined, texts_of, texts_before}
use Rattle.again_laws.proofs.tokens.Ascii.{Ascii, ascii}
use Rattle.again_laws.specs.Tiling.Categories.{State, Fresh, Clear, Shut, Worded, Numbered, Pointed, Plused, Minused, Slashed, Lessed, LessBanged, Dotted, Operated, Decred, Hashed, Quasied, takes, behind, is_open}
use Rattle.again_laws.specs.Tiling.Following.{is_wordy, Follows}
use Rattle.again_laws.specs.Tiling.Goes.{GoesTexts, GoesText}
use Rattle.again_laws.proofs.tiling.Gaps.{Blankness, White, Feed, Return, chars_of, gap_before, is_end_of_line, breaks_line, AreBlank}
use Rattle.again_laws.proofs.tiling.Items.{Item, Plain, Meant, Named, spread, GoesAll}
use Rattle.again_laws.proofs.tiling.Pen.{Pen, lead, own_text, after_text, own, next, wrote}
use Rattle.again_laws.proofs.tiling.TakenFollows.{fronts, lets, lets_follows}
use Rattle.again_laws.proofs.tiling.GoingLayouts.{when_so}
use Rattle.again_laws.proofs.tiling.Wordless.{wordless}

-- A page ends lines by LF or CR LF, and indents by white space.
pub record Lines (q : Pen) : Type 0 where
  pub line_utf8 : IsUtf8 q.line_end
  pub line : Blankness
  pub line_ends : is_end_of_line line ≡ true
  pub line_chars : chars q.line_end ≡ chars_of line []
  pub indent_utf8 : IsUtf8 q.indent
  pub indents : List Blankness
  pub indents_blank : AreBlank indents
  pub indents_flat : breaks_line indents ≡ false
  pub indent_chars : chars q.indent ≡ gap_before indents []

pub gap_append : (us : List Blankness) (cs ds : List ℕ) → gap_before us cs ++ ds ≡ gap_before us (cs ++ ds)
gap_append [] cs ds = refl
gap_append (White c ∷ us) cs ds = ap (λ (t : List ℕ). c ∷ t) (gap_append us cs ds)
gap_append (Feed ∷ us) cs ds = ap (λ (t : List ℕ). 10 ∷ t) (gap_append us cs ds)
gap_append (Return ∷ us) cs ds = ap (λ (t : List ℕ). 13 ∷ 10 ∷ t) (gap_append us cs ds)

pub gap_join : (us vs : List Blankness) (cs : List ℕ) → gap_before (us ++ vs) cs ≡ gap_before us (gap_before vs cs)
gap_join [] vs cs = refl
gap_join (u ∷ us) vs cs = ap (chars_of u) (gap_join us vs cs)

pub blank_join : (us vs : List Blankness) → AreBlank us → AreBlank vs → AreBlank (us ++ vs)
blank_join [] vs a b = b
blank_join (White c ∷ us) vs a b = (a.0, blank_join us vs a.1 b)
blank_join (Feed ∷ us) vs a b = blank_join us vs a b
blank_join (Return ∷ us) vs a b = blank_join us vs a b

pub breaks_join : (us vs : List Blankness) → breaks_line (us ++ vs) ≡ (breaks_line us || breaks_line vs)
breaks_join [] vs = refl
breaks_join (u ∷ us) vs = ap (λ b. is_end_of_line u || b) (breaks_join us vs) ∙ sym (or_assoc (is_end_of_line u) (breaks_line us) (breaks_line vs))

pub breaks_flat : (us vs : List Blankness) → breaks_line vs ≡ false → breaks_line (us ++ vs) ≡ breaks_line us
breaks_flat us vs e = breaks_join us vs ∙ (ap (λ b. breaks_line us || b) e ∙ or_false (breaks_line us))

-- the indentation that comes before the next text
pub record Lead (q : Pen) : Type 0 where
  pub utf8 : IsUtf8 (lead q)
  pub blanks : List Blankness
  pub are : AreBlank blanks
  pub flat : breaks_line blanks ≡ false
  pub same : chars (lead q) ≡ gap_before blanks []
  pub none : q.at_start ≡ false → blanks ≡ []

pub record Times (n : ℕ) (xs : List ℕ) : Type 0 where
  pub utf8 : IsUtf8 (times n xs)
  pub blanks : List Blankness
  pub are : AreBlank blanks
  pub flat : breaks_line blanks ≡ false
  pub same : chars (times n xs) ≡ gap_before blanks []

pub times_blank : (n : ℕ) (xs : List ℕ) (us : List Blankness) → IsUtf8 xs → AreBlank us → breaks_line us ≡ false → chars xs ≡ gap_before us [] → Times n xs
times_blank zero xs us u a f e = record { utf8 = IsUtf8-nil; blanks = []; are = tt; flat = refl; same = chars-nil }
times_blank (suc n) xs us u a f e =
    let t = times_blank n xs us u a f e in record {
      utf8 = IsUtf8-append xs (times n xs) u t.utf8;
      blanks = us ++ t.blanks;
      are = blank_join us t.blanks a t.are;
      flat = breaks_flat us t.blanks t.flat ∙ f;
      same = chars-append xs (times n xs) u ∙ (ap (λ (l : List ℕ). l ++ chars (times n xs)) e
          ∙ (gap_append us [] (chars (times n xs)) ∙ (ap (gap_before us) t.same ∙ sym (gap_join us t.blanks []))));
    }

pub lead_of : (q : Pen) → Lines q → Lead q
lead_of q l = ⊎_elim (λ (e : q.at_start ≡ true). starts e) (λ (e : q.at_start ≡ false). goes e) (cases_Bool q.at_start)
  where
    starts : q.at_start ≡ true → Lead q
    starts e =
        let t = times_blank q.depth q.indent l.indents l.indent_utf8 l.indents_blank l.indents_flat l.indent_chars in record {
          utf8 = rw e t.utf8;
          blanks = t.blanks;
          are = t.are;
          flat = t.flat;
          same = rw e t.same;
          none = λ f. absurd (true≢false (sym e ∙ f));
        }

    goes : q.at_start ≡ false → Lead q
    goes e = record { utf8 = rw e IsUtf8-nil; blanks = []; are = tt; flat = refl; same = rw e chars-nil; none = λ f. refl }

-- ---- texts

pub lead_none : (q : Pen) → q.at_start ≡ false → lead q ≡ []
lead_none q e = rw e refl

pub own_running : (bytes : List ℕ) (q : Pen) → q.at_start ≡ false → own_text bytes q ≡ bytes
own_running [] q e = refl
own_running (c ∷ cs) q e = ap (λ (l : List ℕ). l ++ (c ∷ cs)) (lead_none q e)

pub after_running : (bytes : List ℕ) (q : Pen) → q.at_start ≡ false → (after_text bytes q).at_start ≡ false
after_running [] q e = e
after_running (c ∷ cs) q e = refl

pub wrote_texts : (own : List (List ℕ)) (ys : List Piece) (q : Pen) → wrote (texts_before own ys) q ≡ own_text (joined own) q ++ wrote ys (after_text (joined own) q)
wrote_texts [] ys q = refl
wrote_texts ([] ∷ own) ys q = wrote_texts own ys q
wrote_texts ((c ∷ cs) ∷ own) ys q =
    let after : Pen = after_text (c ∷ cs) q in
    let tail = wrote_texts own ys after in
    let o = own_running (joined own) after refl in
    ap (λ (l : List ℕ). (lead q ++ (c ∷ cs)) ++ l) (tail ∙ ap (λ (l : List ℕ). l ++ wrote ys (after_text (joined own) after)) o)
    ∙ (sym (append_assoc (lead q ++ (c ∷ cs)) (joined own) (wrote ys (after_text (joined own) after)))
    ∙ (ap (λ (l : List ℕ). l ++ wrote ys (after_text (joined own) after)) (append_assoc (lead q) (c ∷ cs) (joined own))
    ∙ ap (λ (p : Pen). (lead q ++ (c ∷ (cs ++ joined own))) ++ wrote ys p) (same_pen (joined own))))
  where
    same_pen : (bytes : List ℕ) → after_text bytes (record q { at_start = false }) ≡ record q { at_start = false }
    same_pen [] = refl
    same_pen (d ∷ ds) = refl

-- the pen behind texts
abbrev pub after_texts : List (List ℕ) → Pen → Pen
after_texts [] q = q
after_texts (own ∷ others) q = after_texts others (after_text own q)

pub after_joined : (own : List (List ℕ)) (q : Pen) → after_texts own q ≡ after_text (joined own) q
after_joined [] q = refl
after_joined ([] ∷ own) q = after_joined own q
after_joined ((c ∷ cs) ∷ own) q = after_joined own (after_text (c ∷ cs) q) ∙ same_pen (joined own)
  where
    same_pen : (bytes : List ℕ) → after_text bytes (after_text (c ∷ cs) q) ≡ after_text (c ∷ cs) q
    same_pen [] = refl
    same_pen (d ∷ ds) = refl

-- ---- what follows

open_lets_32 : (s : State) → is_open s ≡ true → lets s 32 ≡ true
unfolding lets
open_lets_32 Pointed e = e
open_lets_32 Quasied e = e
open_lets_32 _ e = refl

open_lets_10 : (s : State) → is_open s ≡ true → lets s 10 ≡ true
unfolding lets
open_lets_10 Pointed e = e
open_lets_10 Quasied e = e
open_lets_10 _ e = refl

open_lets_13 : (s : State) → is_open s ≡ true → lets s 13 ≡ true
unfolding lets
open_lets_13 Pointed e = e
open_lets_13 Quasied e = e
open_lets_13 _ e = refl

open_lets_59 : (s : State) → is_open s ≡ true → lets s 59 ≡ true
unfolding lets
open_lets_59 Pointed e = e
open_lets_59 Quasied e = e
open_lets_59 _ e = refl

open_lets_125 : (s : State) → is_open s ≡ true → lets s 125 ≡ true
unfolding lets
open_lets_125 Pointed e = e
open_lets_125 Quasied e = e
open_lets_125 _ e = refl

nil_follows : (s : State) → is_open s ≡ true → Follows s []
nil_follows Fresh e = tt
nil_follows Clear e = tt
nil_follows Shut e = tt
nil_follows Worded e = tt
nil_follows Numbered e = (tt, tt)
nil_follows Pointed e = absurd (false≢true e)
nil_follows Plused e = tt
nil_follows Minused e = tt
nil_follows Slashed e = tt
nil_follows Lessed e = (tt, λ inner k. cc)
nil_follows LessBanged e = (tt, λ inner k. cc)
nil_follows Dotted e = tt
nil_follows Operated e = tt
nil_follows Decred e = tt
nil_follows Hashed e = tt
nil_follows Quasied e = absurd (false≢true e)

-- where a line starts nothing is asked
fresh_follows : (s : State) (cs : List ℕ) → s ≡ Fresh → Follows s cs
fresh_follows s cs e = subst (λ (t : State). Follows t cs) (sym e) tt

-- a character of ASCII
abbrev pub Lone : ℕ → Type 0
Lone c = Ascii (c ∷ [])

pub lone_32 : Lone 32
lone_32 = ascii (32 ∷ []) refl

pub lone_59 : Lone 59
lone_59 = ascii (59 ∷ []) refl

pub lone_125 : Lone 125
lone_125 = ascii (125 ∷ []) refl

running : (q : Pen) (s : State) (cs : List ℕ) → (q.at_start ≡ true → s ≡ Fresh) → (q.at_start ≡ false → Follows s cs) → Follows s cs
running q s cs f g = ⊎_elim (λ (e : q.at_start ≡ true). fresh_follows s cs (f e)) (λ (e : q.at_start ≡ false). g e) (cases_Bool q.at_start)

lone_follows : (c : ℕ) (q : Pen) (s : State) (w : List ℕ) → Lone c → is_wordy c ≡ false → lets s c ≡ true → (q.at_start ≡ true → s ≡ Fresh) → Follows s (chars (own_text (c ∷ []) q ++ w))
lone_follows c q s w l n e f = running q s (chars (own_text (c ∷ []) q ++ w)) f
    (λ r. subst (λ (t : List ℕ). Follows s t) (sym (ap (λ (t : List ℕ). chars (t ++ w)) (own_running (c ∷ []) q r) ∙ (chars-append (c ∷ []) w l.utf8 ∙ ap (λ (t : List ℕ). t ++ chars w) l.same)))
    (lets_follows s c (chars w) n e))

pub text_follows : (goal : LexicalGoal) (bytes : List ℕ) (q : Pen) (s : State) (w : List ℕ) (P : State → Type 0) → (h : GoesText goal bytes s P) → (q.at_start ≡ true → s ≡ Fresh)
    → ((after_text bytes q).at_start ≡ false → P (behind h.0 s) → Follows (behind h.0 s) (chars w)) → Follows s (chars (own_text bytes q ++ w))
text_follows goal bytes q s w P h f g = running q s (chars (own_text bytes q ++ w)) f
    (λ r. let t = when_so (takes h.0 s) (P (behind h.0 s)) h.2 in
    subst (λ (t : List ℕ). Follows s t) (sym (ap (λ (t : List ℕ). chars (t ++ w)) (own_running bytes q r) ∙ chars-append bytes w h.1.utf8))
    (fronts h.0 s (chars bytes) (chars w) t.0 h.1.front (g (after_running bytes q r) t.1)))

line_follows : (q : Pen) (s : State) (w : List ℕ) → Lines q → is_open s ≡ true → Follows s (chars (q.line_end ++ w))
line_follows q s w l o = subst (λ (t : List ℕ). Follows s t) (sym (chars-append q.line_end w l.line_utf8 ∙ ap (λ (t : List ℕ). t ++ chars w) l.line_chars)) (by l.line l.line_ends)
  where
    by : (u : Blankness) → is_end_of_line u ≡ true → Follows s (chars_of u [] ++ chars w)
    by (White c) e = absurd (false≢true e)
    by Feed e = lets_follows s 10 (chars w) (wordless 10 refl) (open_lets_10 s o)
    by Return e = lets_follows s 13 (10 ∷ chars w) (wordless 13 refl) (open_lets_13 s o)

pub next_lines : (x : Piece) (q : Pen) → Lines q → Lines (next x q)
next_lines (Text span bytes) q l = by bytes
  where
    by : (bytes : List ℕ) → Lines (after_text bytes q)
    by [] = l
    by (c ∷ cs) = record { line_utf8 = l.line_utf8; line = l.line; line_ends = l.line_ends; line_chars = l.line_chars; indent_utf8 = l.indent_utf8; indents = l.indents; indents_blank = l.indents_blank; indents_flat = l.indents_flat; indent_chars = l.indent_chars }
next_lines (Mark pos) q l = l
next_lines Commit q l = l
next_lines _ q l = record { line_utf8 = l.line_utf8; line = l.line; line_ends = l.line_ends; line_chars = l.line_chars; indent_utf8 = l.indent_utf8; indents = l.indents; indents_blank = l.indents_blank; indents_flat = l.indents_flat; indent_chars = l.indent_chars }

pub text_lines : (bytes : List ℕ) (q : Pen) → Lines q → Lines (after_text bytes q)
text_lines [] q l = l
text_lines (c ∷ cs) q l = record { line_utf8 = l.line_utf8; line = l.line; line_ends = l.line_ends; line_chars = l.line_chars; indent_utf8 = l.indent_utf8; indents = l.indents; indents_blank = l.indents_blank; indents_flat = l.indents_flat; indent_chars = l.indent_chars }

never_starts : (b : Bool) (A : Type 0) → b ≡ false → b ≡ true → A
never_starts b A e f = absurd (false≢true (sym e ∙ f))

-- one text, where what follows is told of the items behind it
one_follows : (xs : List Item) (goal : LexicalGoal) (own : List ℕ) (q : Pen) (s : State) → Lines q → GoesText goal own s (λ t. GoesAll xs t) → (q.at_start ≡ true → s ≡ Fresh)
    → ((p : Pen) (t : State) → Lines p → GoesAll xs t → (p.at_start ≡ true → t ≡ Fresh) → Follows t (chars (wrote (spread xs) p))) → Follows s (chars (own_text own q ++ wrote (spread xs) (after_text own q)))
one_follows xs goal own q s l g f go =
    text_follows goal own q s (wrote (spread xs) (after_text own q)) (λ t. GoesAll xs t) g f (λ r h. go (after_text own q) _ (text_lines own q l) h (λ e. never_starts _ _ r e))

texts_follow : (texts : List (List ℕ)) (xs : List Item) (q : Pen) (s : State) → Lines q → GoesTexts texts s (λ t. GoesAll xs t) → (q.at_start ≡ true → s ≡ Fresh)
    → ((p : Pen) (t : State) → Lines p → GoesAll xs t → (p.at_start ≡ true → t ≡ Fresh) → Follows t (chars (wrote (spread xs) p))) → Follows s (chars (wrote (texts_before texts (spread xs)) q))
texts_follow [] xs q s l g f go = go q s l g f
texts_follow (own ∷ others) xs q s l g f go =
    text_follows Div own q s (wrote (texts_before others (spread xs)) (after_text own q)) (λ t. GoesTexts others t (λ u. GoesAll xs u)) g f
    (λ r h. texts_follow others xs (after_text own q) _ (text_lines own q l) h (λ e. never_starts _ _ r e) go)

pub follows : (xs : List Item) (q : Pen) (s : State) → Lines q → GoesAll xs s → (q.at_start ≡ true → s ≡ Fresh) → Follows s (chars (wrote (spread xs) q))
follows [] q s l g f = subst (λ (t : List ℕ). Follows s t) (sym chars-nil) (nil_follows s g)
follows (Plain (Text span bytes) ∷ xs) q s l g f =
    text_follows _ bytes q s (wrote (spread xs) (after_text bytes q)) (λ t. GoesAll xs t) g f (λ r h. follows xs (after_text bytes q) _ (text_lines bytes q l) h (λ e. never_starts _ _ r e))
follows (Plain (Brace span) ∷ xs) q s l g f = lone_follows 125 q s _ lone_125 (wordless 125 refl) (open_lets_125 s (when_so _ _ g).0) f
follows (Plain Blank ∷ xs) q s l g f = lone_follows 32 q s _ lone_32 (wordless 32 refl) (open_lets_32 s (when_so _ _ g).0) f
follows (Plain Line ∷ xs) q s l g f = running q s _ f (λ r. subst (λ (o : List ℕ). Follows s (chars (o ++ wrote (spread xs) (next Line q)))) (sym (line_own q r)) (line_follows q s _ l (when_so _ _ g).0))
  where
    line_own : (q : Pen) → q.at_start ≡ false → own Line q ≡ q.line_end
    line_own q r = rw r refl
follows (Plain Deeper ∷ xs) q s l g f = follows xs (next Deeper q) s (next_lines Deeper q l) g f
follows (Plain Back ∷ xs) q s l g f = follows xs (next Back q) s (next_lines Back q l) g f
follows (Plain (Semicolon span) ∷ xs) q s l g f = lone_follows 59 q s _ lone_59 (wordless 59 refl) (open_lets_59 s (when_so _ _ g).0) f
follows (Plain Commit ∷ xs) q s l g f = follows xs q s l g f
follows (Plain (Mark pos) ∷ xs) q s l g f = follows xs q s l g f
follows (Meant (regular_expression body flags) ∷ xs) q s l g f =
    let own : List ℕ = joined (texts_of (regular_expression body flags)) in
    subst (λ (t : List ℕ). Follows s (chars t)) (sym (wrote_texts (texts_of (regular_expression body flags)) (spread xs) q)) (one_follows xs RegExp own q s l g f (λ p t k h e. follows xs p t k h e))
follows (Meant (template_characters own) ∷ xs) q s l g f = one_follows xs TemplateTail own q s l g f (λ p t k h e. follows xs p t k h e)
follows (Meant (template_end own) ∷ xs) q s l g f = one_follows xs TemplateEnd own q s l g f (λ p t k h e. follows xs p t k h e)
follows (Meant (hashbang_comment own) ∷ xs) q s l g f = absurd g
follows (Meant (touching texts) ∷ xs) q s l g f =
    subst (λ (t : List ℕ). Follows s (chars t)) (wrote_texts texts (spread xs) q) (texts_follow texts xs q s l g f (λ p t k h e. follows xs p t k h e))
follows (Named pos own ∷ xs) q s l g f =
    text_follows _ own q s (wrote (spread xs) (after_text own q)) (λ t. GoesAll xs t) g f (λ r h. follows xs (after_text own q) _ (text_lines own q l) h (λ e. never_starts _ _ r e))
