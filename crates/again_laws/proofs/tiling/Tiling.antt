-- The bytes of items are tiled by the tokens that they say.
use Rattle.std.proofs.Common.{◌≡◌, ◌≢◌, ℕ, ◌+◌, ◌-◌, ◌⊎◌, inl, inr, ⊎_elim, Bool, true, false, ◌||◌, List, [], ◌∷◌, ◌++◌, None, length, refl, sym, ap, subst, ◌∙◌, append_assoc, arith}
use Rattle.std.specs.Prelude.{codes}
use Rattle.std.specs.Str.{chars, IsUtf8}
use Rattle.std.proofs.lemmas.Str.{chars-append, chars-nil, encodes-chars}
use Rattle.std.proofs.lemmas.Bool.{cases_Bool, false≢true, true≢false}
use Rattle.std.proofs.lemmas.List.{append-nil}
use Rattle.lex_pieces.specs.Places.{bytes}
use Rattle.lex_pieces.specs.Characters.{is_white_space, is_line_terminator, is_among}
use Rattle.lex_pieces.specs.Runs.{Ends, Each}
use Rattle.lex_pieces.specs.Trivia.{Piece as Trivium, WhiteSpace, LineTerminator, LineComment, BlockComment, IsPiece, NoTrivia, IsLegacy}
use Rattle.lex_pieces.specs.declared.trivia.Goal.{Goal}
use Rattle.lex_pieces.specs.declared.trivia.Goal.TheVariants.{Script, Module}
use Rattle.lex_pieces.specs.declared.trivia.LineMark.TheVariants.{Slashes, HtmlOpen, HtmlClose}
use Rattle.lex_token.specs.declared.goal.LexicalGoal.{LexicalGoal}
use Rattle.lex_token.specs.declared.goal.LexicalGoal.TheVariants.{Div, RegExp, TemplateTail, TemplateEnd}
use Rattle.lex_token.specs.Lexemes.{IsLexeme}
use Rattle.lex_step_laws.specs.States.{place, spot_at}
use Rattle.lex_run_laws.proofs.Owns.{bytes_append}
use Rattle.grammar_spec.specs.Tokens.Input.{PlacedToken, Input, no_context, lo}
use Rattle.grammar_text_spec.specs.Tiled.{goal_at, IsBefore, IsTile, AreTiles}
use Rattle.print_pages_spec.specs.Pieces.{Piece, Text, Brace, Blank, Line, Deeper, Back, Semicolon, Commit, Mark}
use Rattle.print_layout_spec.specs.Looks.{regular_expression, template_characters, template_end, hashbang_comment, touching, joined, texts_of}
use Rattle.again_laws.specs.Tokens.Spacings.{Spacing, Touching, Spaced, Broken, is_broken, blanked, Lies}
use Rattle.again_laws.specs.Tokens.Says.{IsSaid}
use Rattle.again_laws.specs.Tiling.Categories.{State, Fresh, Clear, Shut, Decred, Quasied, Category, Decr, Closed, Quasi, End, takes, behind, is_open, blank_behind}
use Rattle.again_laws.specs.Tiling.Following.{Quiet, QuietUnder, Arrowless, Follows, Front}
use Rattle.again_laws.specs.Tiling.Tiles.{AllHaveGoals}
use Rattle.again_laws.specs.Tiling.Goes.{Fits, When, GoesText}
use Rattle.again_laws.proofs.tiling.Gaps.{Blankness, White, Feed, Return, gap_before, is_end_of_line, breaks_line, AreBlank, are_skipped}
use Rattle.again_laws.proofs.tiling.Items.{Item, Plain, Meant, Named, spread, GoesAll, SaysItem, SaysAll, apart, spread_apart, goes_apart, says_apart, shut_for_clear, empty_runs}
use Rattle.again_laws.proofs.tiling.BetweenTexts.{Lines, Lead, lead_of, gap_append, gap_join, blank_join, breaks_join, breaks_flat, wrote_texts, after_texts, after_joined, next_lines, text_lines, follows, lone_32}
use Rattle.again_laws.proofs.tiling.Marks.{right_brace, semicolon_mark}
use Rattle.again_laws.proofs.tiling.Pen.{Pen, lead, own_text, after_text, own, next, wrote}
use Rattle.again_laws.proofs.tiling.TakenFollows.{needs}
use Rattle.again_laws.proofs.tiling.GoingLayouts.{when_so}

-- ---- no trivia begins a token

at_first : (p : ℕ → Bool) (c : ℕ) (cs text : List ℕ) → text ≡ c ∷ cs → Ends p text → p c ≡ true → ⊥
at_first p c cs text e h t = false≢true (sym (subst (λ (l : List ℕ). Ends p l) e h) ∙ t)

module _ (goal : Goal) (first : Bool) (text : List ℕ) (q : Quiet text) (a : first ≡ true → (inner : List ℕ) → text ≢ 45 ∷ 45 ∷ 62 ∷ inner) where
  html_close : (goal : Goal) (inner : List ℕ) → text ≡ 45 ∷ 45 ∷ 62 ∷ inner → (first ≡ true → ⊥)
  html_close goal inner e f = a f inner e

  no_piece : (p : Trivium) (rest : List ℕ) → IsPiece goal first text p rest → ⊥
  no_piece WhiteSpace rest h = by h.0 h.1 h.2.0 h.2.1
    where
      by : (own : List ℕ) → own ≢ [] → text ≡ own ++ rest → Each is_white_space own → ⊥
      by [] n e k = n refl
      by (c ∷ cs) n e k = at_first is_white_space c (cs ++ rest) text e q.white k.0
  no_piece LineTerminator rest (inl h) = at_first is_line_terminator 13 (10 ∷ rest) text h q.line refl
  no_piece LineTerminator rest (inr h) = at_first is_line_terminator h.0 rest text h.1 q.line h.2
  no_piece (LineComment Slashes own) rest h = q.slashes h.1.0 h.1.1
  no_piece (LineComment HtmlOpen own) rest h = q.html h.1.0 h.1.1
  no_piece (LineComment HtmlClose own) rest h = by goal h.0
    where
      by : (goal : Goal) → Rattle.lex_pieces.specs.Trivia.MayOpen goal first HtmlClose → ⊥
      by Script e = a e h.1.0 h.1.1
      by Module e = true≢false e
  no_piece (BlockComment own) rest h = q.block h.0 h.1

  no_legacy : (inner : List ℕ) → IsLegacy goal first text inner → ⊥
  no_legacy inner h = by h.1.0 h.1.1 h.1.2 h.1.3
    where
      by : (mark : Rattle.lex_pieces.specs.declared.trivia.LineMark.LineMark) → Rattle.lex_pieces.specs.Trivia.is_html mark ≡ true → Rattle.lex_pieces.specs.Trivia.opens first mark ≡ true
          → text ≡ Rattle.lex_pieces.specs.Trivia.spelled mark ++ inner → ⊥
      by Slashes e f k = false≢true e
      by HtmlOpen e f k = q.html inner k
      by HtmlClose e f k = a f inner k

  pub no_trivia : NoTrivia goal first text
  no_trivia = (no_piece, (λ h. q.block h.0 h.1), no_legacy)

-- ---- numbers of bytes

bytes_own : (own : List ℕ) → IsUtf8 own → bytes (chars own) ≡ length own
bytes_own own u = ap length (encodes-chars own u)

bytes_gap : (us : List Blankness) (cs : List ℕ) → bytes (gap_before us cs) ≡ bytes (gap_before us []) + bytes cs
bytes_gap us cs = ap bytes (sym (gap_append us [] cs)) ∙ bytes_append (gap_before us []) cs

-- ---- the first token

abbrev goal_number : LexicalGoal → ℕ
goal_number Div = 0
goal_number RegExp = 1
goal_number TemplateTail = 2
goal_number TemplateEnd = 3

same_goal : (g : LexicalGoal) → goal_at (goal_number g) ≡ g
same_goal Div = refl
same_goal RegExp = refl
same_goal TemplateTail = refl
same_goal TemplateEnd = refl

abbrev is_inner : LexicalGoal → Bool
is_inner TemplateTail = true
is_inner TemplateEnd = true
is_inner g = false

-- `-->` is no comment: behind the beginning of a line alone it would be one
arrowless_by : (k : Category) (s : State) (text own rest : List ℕ) (fresh : Bool) → text ≡ own ++ rest → Front k own → (fresh ≡ true → s ≡ Fresh) → Follows (behind k s) rest → Arrowless k text
    → fresh ≡ true → (inner : List ℕ) → text ≢ 45 ∷ 45 ∷ 62 ∷ inner
arrowless_by Decr s text own rest fresh e f g h a t inner k =
    let d : Follows Decred rest = subst (λ (x : State). Follows (behind Decr x) rest) (g t) h in
    let w : 45 ∷ 45 ∷ rest ≡ 45 ∷ 45 ∷ 62 ∷ inner = sym (e ∙ ap (λ (l : List ℕ). l ++ rest) f) ∙ k in
    let r : rest ≡ 62 ∷ inner = cc in
    at_first (is_among (62 ∷ [])) 62 inner rest r d refl
arrowless_by _ s text own rest fresh e f g h a t inner k = a inner k

-- where a text stands
pub record Stands (goal : Goal) (s : State) (us : List Blankness) (first : Bool) (a : Spacing) : Type 0 where
  pub blank : AreBlank us
  pub fresh : (first || breaks_line us) ≡ true → s ≡ Fresh
  pub tight : s ≡ Shut → us ≡ []
  pub tighter : s ≡ Quasied → us ≡ []
  pub broke : is_broken a ≡ breaks_line us
  pub touching : a ≡ Touching → us ≡ []

before_by : (g : LexicalGoal) (k : Category) (goal : Goal) (first : Bool) (us : List Blankness) (from : List ℕ) → AreBlank us → (is_inner g ≡ true → us ≡ [])
    → ((first || breaks_line us) ≡ true → Arrowless k from → (inner : List ℕ) → from ≢ 45 ∷ 45 ∷ 62 ∷ inner) → QuietUnder g k from
    → IsBefore (goal_number g) goal first (gap_before us from) (breaks_line us) from
before_by Div k goal first us from b t n q = are_skipped goal first us from b q.0.white (no_trivia goal (first || breaks_line us) from q.0 (λ f. n f q.1))
before_by RegExp k goal first us from b t n q = are_skipped goal first us from b q.0.white (no_trivia goal (first || breaks_line us) from q.0 (λ f. n f q.1))
before_by TemplateTail k goal first us from b t n q = subst (λ (vs : List Blankness). (gap_before vs from ≡ from) × (breaks_line vs ≡ false)) (sym (t refl)) (refl, refl)
before_by TemplateEnd k goal first us from b t n q = subst (λ (vs : List Blankness). (gap_before vs from ≡ from) × (breaks_line vs ≡ false)) (sym (t refl)) (refl, refl)

lies_by : (a : Spacing) (last lo gap : ℕ) → lo ≡ last + gap → (a ≡ Touching → gap ≡ 0) → Lies a last lo
lies_by Touching last lo gap e t = let z = t refl in omega arith
lies_by Spaced last lo gap e t = omega arith
lies_by Broken last lo gap e t = omega arith

pub record First (goal : Goal) (end : ℕ) (g : LexicalGoal) (own : List ℕ) (us : List Blankness) (first : Bool) (a : Spacing) (last : ℕ) (rest : List ℕ) : Type 0 where
  pub place : PlacedToken
  pub tile : IsTile end goal first (gap_before us (chars own ++ rest)) place rest
  pub said : (ps : List PlacedToken) → IsSaid g own a (record { last = last; places = place ∷ ps }) Touching (record { last = place.spot.hi; places = ps })
  pub begins : place.spot.lo ≡ end - bytes (chars own ++ rest)
  pub on : place.spot.hi + bytes rest ≡ end
  pub goal_is : place.goal ≡ goal_number g

pub first_token : (goal : Goal) (end : ℕ) (g : LexicalGoal) (own : List ℕ) (k : Category) (s : State) (us : List Blankness) (first : Bool) (a : Spacing) (last : ℕ) (rest : List ℕ)
    → Fits g own k → Stands goal s us first a → (is_inner g ≡ true → us ≡ []) → Follows (behind k s) rest
    → last + bytes (gap_before us (chars own ++ rest)) ≡ end → First goal end g own us first a last rest
first_token goal end g own k s us first a last rest f st inner h e =
    let n = needs k s rest h in
    let from : List ℕ = chars own ++ rest in
    let size : bytes from ≡ length own + bytes rest = bytes_append (chars own) rest ∙ ap (λ (m : ℕ). m + bytes rest) (bytes_own own f.utf8) in
    let whole = bytes_gap us from in
    let lo : place end from ≡ last + bytes (gap_before us []) = omega (arith, whole, e) in
    let hi : place end rest ≡ place end from + length own = omega (arith, whole, e, size) in
    let on : place end rest + bytes rest ≡ end = omega (arith, whole, e, size) in record {
      place = record { spot = spot_at end (breaks_line us) f.lexeme.token from rest; escaped = f.lexeme.escaped; goal = goal_number g; context = no_context };
      tile = (
        breaks_line us,
        from,
        f.lexeme,
        before_by g k goal first us from st.blank inner (λ t al inner. arrowless_by k s from (chars own) rest (first || breaks_line us) refl f.front st.fresh h al t inner) (f.quiet rest n),
        subst (λ (l : LexicalGoal). IsLexeme l from f.lexeme rest) (sym (same_goal g)) (f.reads rest n),
        refl,
        refl,
      );
      said = λ ps. record {
        lexeme = f.lexeme;
        is_own = f.is_own;
        first = record {
          place = record { spot = spot_at end (breaks_line us) f.lexeme.token from rest; escaped = f.lexeme.escaped; goal = goal_number g; context = no_context };
          whole = refl;
          token_is = refl;
          escaped_is = refl;
          broke = sym st.broke;
          begins = lies_by a last (place end from) (bytes (gap_before us [])) lo (λ t. ap (λ (vs : List Blankness). bytes (gap_before vs [])) (st.touching t));
          ends = hi;
          last = refl;
        };
        under = same_goal g;
        behind = refl;
      };
      begins = refl;
      on = on;
      goal_is = refl;
    }

goaled : (g : LexicalGoal) → (n : ℕ) → n ≡ goal_number g → (n ≡ 0) ⊎ ((n ≡ 1) ⊎ ((n ≡ 2) ⊎ (n ≡ 3)))
goaled Div n e = inl e
goaled RegExp n e = inr (inl e)
goaled TemplateTail n e = inr (inr (inl e))
goaled TemplateEnd n e = inr (inr (inr e))

-- ---- all of them

line_starts : (q : Pen) → q.at_start ≡ true → own Line q ≡ []
line_starts q e = rw e refl

line_goes : (q : Pen) → q.at_start ≡ false → own Line q ≡ q.line_end
line_goes q e = rw e refl

-- N holds of where each name was read and of where its text begins, in a text that ends at a place.
abbrev pub AllPlaced : (ℕ → ℕ → Type 0) → ℕ → List Item → Pen → Type 0
AllPlaced N end [] q = Unit {0}
AllPlaced N end (Plain x ∷ xs) q = AllPlaced N end xs (next x q)
AllPlaced N end (Meant m ∷ xs) q = AllPlaced N end xs (after_texts (texts_of m) q)
AllPlaced N end (Named pos own ∷ xs) q = N pos.0 (place end (chars own ++ chars (wrote (spread xs) (after_text own q)))) × AllPlaced N end xs (after_text own q)

pub record Tiled (goal : Goal) (end : ℕ) (N : ℕ → ℕ → Type 0) (xs : List Item) (text : List ℕ) (first : Bool) (a : Spacing) (last : ℕ) : Type 0 where
  pub places : List PlacedToken
  pub tiles : AreTiles end goal first text places
  pub gap : Spacing
  pub over : Input
  pub says : SaysAll N xs a (record { last = last; places = places }) gap over
  pub all : over.places ≡ []
  pub goals : AllHaveGoals places

inner_blank : (g : LexicalGoal) (k : Category) (s : State) (own : List ℕ) (us : List Blankness) → takes k s ≡ true → (is_inner g ≡ true → (k ≡ Quasi) ⊎ (k ≡ End)) → (s ≡ Shut → us ≡ []) → (s ≡ Quasied → us ≡ [])
    → is_inner g ≡ true → us ≡ []
inner_blank g k s own us t c f h i = ⊎_elim
    (λ (e : k ≡ Quasi). f (quasi_takes s (subst (λ (x : Category). takes x s ≡ true) e t)))
    (λ (e : k ≡ End). h (end_takes s (subst (λ (x : Category). takes x s ≡ true) e t)))
    (c i)
  where
    quasi_takes : (s : State) → takes Quasi s ≡ true → s ≡ Shut
    quasi_takes Shut e = refl
    quasi_takes _ e = absurd (false≢true e)

    end_takes : (s : State) → takes End s ≡ true → s ≡ Quasied
    end_takes Quasied e = refl
    end_takes _ e = absurd (false≢true e)

-- A text in its place, and what comes behind it.
module _ (goal : Goal) (end : ℕ) (N : ℕ → ℕ → Type 0) where
  behind_stands : (s : State) → Stands goal s [] false Touching
  behind_stands s = record { blank = tt; fresh = λ e. absurd (false≢true e); tight = λ e. refl; tighter = λ e. refl; broke = refl; touching = λ e. refl }

  -- more blanks before the first token
  pub record More (q : Pen) (s : State) (us : List Blankness) (first : Bool) (a : Spacing) : Type 0 where
    pub st : Stands goal s us first a
    pub starts : q.at_start ≡ true → s ≡ Fresh
    pub apart : a ≡ Touching → q.at_start ≡ false

  led : (q : Pen) (s : State) (us : List Blankness) (first : Bool) (a : Spacing) → (l : Lead q) → More q s us first a → Stands goal s (us ++ l.blanks) first a
  led q s us first a l m =
      let none : (s ≡ Fresh → ⊥) → l.blanks ≡ [] = λ n. l.none (not_true q.at_start (λ t. n (m.starts t))) in record {
        blank = blank_join us l.blanks m.st.blank l.are;
        fresh = λ e. m.st.fresh (ap (λ b. first || b) (sym (breaks_flat us l.blanks l.flat)) ∙ e);
        tight = λ e. nothing_more us l.blanks (m.st.tight e) (none (λ f. let k : Fresh ≡ Shut = sym f ∙ e in cc));
        tighter = λ e. nothing_more us l.blanks (m.st.tighter e) (none (λ f. let k : Fresh ≡ Quasied = sym f ∙ e in cc));
        broke = m.st.broke ∙ sym (breaks_flat us l.blanks l.flat);
        touching = λ e. nothing_more us l.blanks (m.st.touching e) (l.none (m.apart e));
      }
    where
      not_true : (b : Bool) → (b ≡ true → ⊥) → b ≡ false
      not_true true n = absurd (n refl)
      not_true false n = refl

      nothing_more : (us vs : List Blankness) → us ≡ [] → vs ≡ [] → us ++ vs ≡ []
      nothing_more us vs e f = ap (λ (l : List Blankness). l ++ vs) e ∙ f

  -- the text that is left, by its indentation
  left_text : (own : List ℕ) (q : Pen) (us : List Blankness) (w : List ℕ) → (l : Lead q) → IsUtf8 own → (own ≡ [] → q.at_start ≡ false)
      → gap_before us (chars (own_text own q ++ w)) ≡ gap_before (us ++ l.blanks) (chars own ++ chars w)
  left_text [] q us w l u e =
      ap (λ (vs : List Blankness). gap_before vs (chars w)) (sym (append-nil us ∙ refl))
      ∙ (ap (λ (vs : List Blankness). gap_before (us ++ vs) (chars w)) (sym (l.none (e refl)))
      ∙ ap (λ (cs : List ℕ). gap_before (us ++ l.blanks) (cs ++ chars w)) (sym chars-nil))
  left_text (c ∷ cs) q us w l u e =
      ap (λ (t : List ℕ). gap_before us (chars t)) (append_assoc (lead q) (c ∷ cs) w)
      ∙ (ap (gap_before us) (chars-append (lead q) ((c ∷ cs) ++ w) l.utf8
      ∙ (ap (λ (t : List ℕ). t ++ chars ((c ∷ cs) ++ w)) l.same
      ∙ (gap_append l.blanks [] (chars ((c ∷ cs) ++ w))
      ∙ ap (gap_before l.blanks) (chars-append (c ∷ cs) w u))))
      ∙ sym (gap_join us l.blanks (chars (c ∷ cs) ++ chars w)))

  -- one text, and then the rest
  text_tiled : (g : LexicalGoal) (own : List ℕ) (k : Category) (x : Item) (xs : List Item) (q : Pen) (s : State) (us : List Blankness) (first : Bool) (a : Spacing) (last : ℕ) (w : List ℕ)
      → ((ts r : Input) → IsSaid g own a ts Touching r → lo ts ≡ place end (chars own ++ chars w) → SaysItem N x a ts Touching r)
      → Lines q → Fits g own k → takes k s ≡ true → (own ≡ [] → q.at_start ≡ false) → (is_inner g ≡ true → (k ≡ Quasi) ⊎ (k ≡ End)) → More q s us first a → Follows (behind k s) (chars w)
      → last + bytes (gap_before us (chars (own_text own q ++ w))) ≡ end
      → ((last2 : ℕ) → last2 + bytes (chars w) ≡ end → Tiled goal end N xs (chars w) false Touching last2)
      → Tiled goal end N (x ∷ xs) (gap_before us (chars (own_text own q ++ w))) first a last
  text_tiled g own k x xs q s us first a last w say l f t empty inner m h e go =
      let d = lead_of q l in
      let same = left_text own q us w d f.utf8 empty in
      let st = led q s us first a d m in
      let one = first_token goal end g own k s (us ++ d.blanks) first a last (chars w) f st
      (inner_blank g k s own (us ++ d.blanks) t inner st.tight st.tighter) h (ap (λ (c : List ℕ). last + bytes c) (sym same) ∙ e) in
      let more = go one.place.spot.hi one.on in record {
        places = one.place ∷ more.places;
        tiles = (chars w, subst (λ (c : List ℕ). IsTile end goal first c one.place (chars w)) (sym same) one.tile, more.tiles);
        gap = more.gap;
        over = more.over;
        says = (Touching, record { last = one.place.spot.hi; places = more.places }, say (record { last = last; places = one.place ∷ more.places }) (record { last = one.place.spot.hi; places = more.places }) (one.said more.places) one.begins, more.says);
        all = more.all;
        goals = (goaled g one.place.goal one.goal_is, more.goals);
      }

  -- the category tells the rest that a text has to say
  inner_class : (g : LexicalGoal) (own : List ℕ) (k : Category) → Fits g own k → is_inner g ≡ true → (k ≡ Quasi) ⊎ (k ≡ End)
  inner_class Div own k f e = absurd (false≢true e)
  inner_class RegExp own k f e = absurd (false≢true e)
  inner_class TemplateTail own k f e = inl f.kind_of
  inner_class TemplateEnd own k f e = inr f.kind_of

  -- one text by the automaton
  goes_tiled : (g : LexicalGoal) (own : List ℕ) (x : Item) (xs : List Item) (q : Pen) (s : State) (us : List Blankness) (first : Bool) (a : Spacing) (last : ℕ)
      → ((ts r : Input) → IsSaid g own a ts Touching r → lo ts ≡ place end (chars own ++ chars (wrote (spread xs) (after_text own q))) → SaysItem N x a ts Touching r)
      → Lines q → (h : GoesText g own s (λ t. GoesAll xs t)) → More q s us first a
      → last + bytes (gap_before us (chars (own_text own q ++ wrote (spread xs) (after_text own q)))) ≡ end
      → ((last2 : ℕ) → GoesAll xs (behind h.0 s) → (after_text own q).at_start ≡ false → Lines (after_text own q) → last2 + bytes (chars (wrote (spread xs) (after_text own q))) ≡ end
      → Tiled goal end N xs (chars (wrote (spread xs) (after_text own q))) false Touching last2)
      → Tiled goal end N (x ∷ xs) (gap_before us (chars (own_text own q ++ wrote (spread xs) (after_text own q)))) first a last
  goes_tiled g own x xs q s us first a last say l h m e go =
      let t = when_so (takes h.0 s) (GoesAll xs (behind h.0 s)) h.2 in
      let empty : own ≡ [] → q.at_start ≡ false = λ n. empty_runs h.0 s q (subst (λ (o : List ℕ). Front h.0 o) (ap chars n ∙ chars-nil) h.1.front) t.0 m.starts in
      let ran : (after_text own q).at_start ≡ false = runs own q empty in
      let l2 = text_lines own q l in
      text_tiled g own h.0 x xs q s us first a last (wrote (spread xs) (after_text own q)) say l h.1 t.0 empty (inner_class g own h.0 h.1) m
      (follows xs (after_text own q) (behind h.0 s) l2 t.1 (λ b. absurd (false≢true (sym ran ∙ b)))) e
      (λ last2 f. go last2 t.1 ran l2 f)
    where
      runs : (own : List ℕ) (q : Pen) → (own ≡ [] → q.at_start ≡ false) → (after_text own q).at_start ≡ false
      runs [] q e = e refl
      runs (c ∷ cs) q e = refl

  -- behind a text
  pub text_more : (q : Pen) (s : State) → q.at_start ≡ false → More q s [] false Touching
  text_more q s e = record { st = behind_stands s; starts = λ b. absurd (false≢true (sym e ∙ b)); apart = λ _. e }

  -- a blank: one more, and the indentation before it
  blank_more : (q : Pen) (s : State) (us : List Blankness) (first : Bool) (a : Spacing) → (l : Lead q) → More q s us first a → More (after_text (codes " ") q) (blank_behind s) ((us ++ l.blanks) ++ White 32 ∷ []) first (blanked a)
  blank_more q s us first a l m =
      let d = led q s us first a l m in
      let same : breaks_line ((us ++ l.blanks) ++ White 32 ∷ []) ≡ breaks_line (us ++ l.blanks) = breaks_flat (us ++ l.blanks) (White 32 ∷ []) refl in record {
        st = record {
          blank = blank_join (us ++ l.blanks) (White 32 ∷ []) d.blank (refl, tt);
          fresh = λ e. ap blank_behind (d.fresh (ap (λ b. first || b) (sym same) ∙ e));
          tight = λ e. absurd (blank_shut s e);
          tighter = λ e. absurd (blank_quasied s e);
          broke = broken_blanked a ∙ (d.broke ∙ sym same);
          touching = λ e. absurd (blanked_touching a e);
        };
        starts = λ e. absurd (false≢true e);
        apart = λ e. refl;
      }
    where
      blank_shut : (s : State) → blank_behind s ≡ Shut → ⊥
      blank_shut Fresh e = cc
      blank_shut _ e = cc

      blank_quasied : (s : State) → blank_behind s ≡ Quasied → ⊥
      blank_quasied Fresh e = cc
      blank_quasied _ e = cc

      broken_blanked : (a : Spacing) → is_broken (blanked a) ≡ is_broken a
      broken_blanked Broken = refl
      broken_blanked Spaced = refl
      broken_blanked Touching = refl

      blanked_touching : (a : Spacing) → blanked a ≡ Touching → ⊥
      blanked_touching Broken e = cc
      blanked_touching Spaced e = cc
      blanked_touching Touching e = cc

  pub line_more : (q : Pen) (s : State) (us : List Blankness) (first : Bool) (a : Spacing) → (l : Lines q) → q.at_start ≡ false → More q s us first a → More (next Line q) Fresh (us ++ l.line ∷ []) first Broken
  line_more q s us first a l e m = record {
    st = record {
      blank = blank_join us (l.line ∷ []) m.st.blank (line_blank l.line l.line_ends);
      fresh = λ f. refl;
      tight = λ f. absurd cc;
      tighter = λ f. absurd cc;
      broke = sym (breaks_join us (l.line ∷ []) ∙ (ap (λ b. breaks_line us || (b || false)) l.line_ends ∙ or_true (breaks_line us)));
      touching = λ f. absurd cc;
    };
    starts = λ f. refl;
    apart = λ f. absurd cc;
  }
    where
      line_blank : (u : Blankness) → is_end_of_line u ≡ true → AreBlank (u ∷ [])
      line_blank (White c) f = absurd (false≢true f)
      line_blank Feed f = tt
      line_blank Return f = tt

      or_true : (b : Bool) → (b || true) ≡ true
      or_true true = refl
      or_true false = refl

  -- a line where one starts
  start_more : (q : Pen) (s : State) (us : List Blankness) (first : Bool) (a : Spacing) → q.at_start ≡ true → More q s us first a → More (next Line q) Fresh us first a
  start_more q s us first a e m = record {
    st = record { blank = m.st.blank; fresh = λ f. refl; tight = λ f. absurd cc; tighter = λ f. absurd cc; broke = m.st.broke; touching = m.st.touching };
    starts = λ f. refl;
    apart = λ f. absurd (true≢false (sym e ∙ m.apart f));
  }

  -- an item that says nothing
  silent : (x : Item) (xs : List Item) (text : List ℕ) (first : Bool) (a k : Spacing) (last : ℕ) → ((ts : Input) → SaysItem N x a ts k ts) → Tiled goal end N xs text first k last → Tiled goal end N (x ∷ xs) text first a last
  silent x xs text first a k last say t =
      record { places = t.places; tiles = t.tiles; gap = t.gap; over = t.over; says = (k, record { last = last; places = t.places }, say _, t.says); all = t.all; goals = t.goals }

  at_text : (xs : List Item) (x y : List ℕ) (first : Bool) (a : Spacing) (last : ℕ) → x ≡ y → Tiled goal end N xs y first a last → Tiled goal end N xs x first a last
  at_text xs x y first a last e t = subst (λ (l : List ℕ). Tiled goal end N xs l first a last) (sym e) t

  shut_when : (s : State) (xs : List Item) → When (is_open s) (GoesAll xs Clear) → When (is_open s) (GoesAll xs Shut)
  shut_when s xs h = by (is_open s) h
    where
      by : (b : Bool) → When b (GoesAll xs Clear) → When b (GoesAll xs Shut)
      by true h = shut_for_clear xs h
      by false h = h

  quiet_nil : Quiet []
  quiet_nil = record { white = tt; line = tt; slashes = λ inner e. cc; block = λ inner e. cc; html = λ inner e. cc }

  -- Items that go are tiled wherever they stand.
  abbrev IsTiled : List Item → Type 0
  IsTiled xs = (q : Pen) (s : State) (us : List Blankness) (first : Bool) (a : Spacing) (last : ℕ) → Lines q → AllPlaced N end xs q → GoesAll xs s → More q s us first a
      → last + bytes (gap_before us (chars (wrote (spread xs) q))) ≡ end → Tiled goal end N xs (gap_before us (chars (wrote (spread xs) q))) first a last

  placed_apart : (texts : List (List ℕ)) (xs : List Item) (q : Pen) → AllPlaced N end xs (after_texts texts q) → AllPlaced N end (apart texts xs) q
  placed_apart [] xs q h = h
  placed_apart (own ∷ others) xs q h = placed_apart others xs (after_text own q) h

  -- texts that touch
  tiled_apart : (texts : List (List ℕ)) (xs : List Item) → IsTiled xs → IsTiled (apart texts xs)
  tiled_apart [] xs ih q s us first a last l n g m e = ih q s us first a last l n g m e
  tiled_apart (own ∷ others) xs ih q s us first a last l n g m e =
      goes_tiled Div own (Plain (Text None own)) (apart others xs) q s us first a last (λ ts r h k. h) l g m e
      (λ last2 h r l2 f. tiled_apart others xs ih (after_text own q) (behind g.0 s) [] false Touching last2 l2 n h (text_more (after_text own q) (behind g.0 s) r) f)

  together : (texts : List (List ℕ)) (xs : List Item) (x y : List ℕ) (first : Bool) (a : Spacing) (last : ℕ) → x ≡ y → Tiled goal end N (apart texts xs) y first a last → Tiled goal end N (Meant (touching texts) ∷ xs) x first a last
  together texts xs x y first a last e t =
      let z = says_apart N texts xs a t.gap (record { last = last; places = t.places }) t.over t.says in
      at_text (Meant (touching texts) ∷ xs) x y first a last e (record { places = t.places; tiles = t.tiles; gap = t.gap; over = t.over; says = (z.0, z.1, z.2, z.3); all = t.all; goals = t.goals })

  pub tiled : (xs : List Item) → IsTiled xs
  tiled [] q s us first a last l n g m e =
      at_text [] (gap_before us (chars [])) (gap_before us []) first a last (ap (gap_before us) chars-nil) (record {
        places = [];
        tiles = (breaks_line us, are_skipped goal first us [] m.st.blank tt (no_trivia goal (first || breaks_line us) [] quiet_nil (λ f inner k. cc)));
        gap = a;
        over = record { last = last; places = [] };
        says = (refl, refl);
        all = refl;
        goals = tt;
      })
  tiled (Plain (Text span own) ∷ xs) q s us first a last l n g m e =
      goes_tiled Div own (Plain (Text span own)) xs q s us first a last (λ ts r h k. h) l g m e
      (λ last2 h r l2 f. tiled xs (after_text own q) (behind g.0 s) [] false Touching last2 l2 n h (text_more (after_text own q) (behind g.0 s) r) f)
  tiled (Plain (Brace span) ∷ xs) q s us first a last l n g m e =
      goes_tiled Div (codes "}") (Plain (Brace span)) xs q s us first a last (λ ts r h k. h) l (Closed, right_brace, g) m e
      (λ last2 h r l2 f. tiled xs (after_text (codes "}") q) Shut [] false Touching last2 l2 n h (text_more (after_text (codes "}") q) Shut r) f)
  tiled (Plain Blank ∷ xs) q s us first a last l n g m e =
      let d = lead_of q l in
      let vs : List Blankness = (us ++ d.blanks) ++ White 32 ∷ [] in
      let p : Pen = after_text (codes " ") q in
      let w : List ℕ = chars (wrote (spread xs) p) in
      let same : gap_before us (chars (own_text (codes " ") q ++ wrote (spread xs) p)) ≡ gap_before vs w =
      left_text (codes " ") q us (wrote (spread xs) p) d lone_32.utf8 (λ n. absurd cc)
      ∙ (ap (λ (l : List ℕ). gap_before (us ++ d.blanks) (l ++ w)) lone_32.same ∙ sym (gap_join (us ++ d.blanks) (White 32 ∷ []) w)) in
      at_text (Plain Blank ∷ xs) _ (gap_before vs w) first a last same
      (silent (Plain Blank) xs (gap_before vs w) first a (blanked a) last (λ ts. (refl, refl))
      (tiled xs p (blank_behind s) vs first (blanked a) last (text_lines (codes " ") q l) n (when_so _ _ g).1 (blank_more q s us first a d m) (ap (λ (c : List ℕ). last + bytes c) (sym same) ∙ e)))
  tiled (Plain Line ∷ xs) q s us first a last l n g m e =
      let p : Pen = next Line q in
      let w : List ℕ = wrote (spread xs) p in ⊎_elim
      (λ (t : q.at_start ≡ true).
      let same : gap_before us (chars (own Line q ++ w)) ≡ gap_before us (chars w) = ap (λ (o : List ℕ). gap_before us (chars (o ++ w))) (line_starts q t) in
      at_text (Plain Line ∷ xs) _ (gap_before us (chars w)) first a last same
      (silent (Plain Line) xs (gap_before us (chars w)) first a a last (λ ts. (inr refl, refl))
      (tiled xs p Fresh us first a last (next_lines Line q l) n (when_so _ _ g).1 (start_more q s us first a t m) (ap (λ (c : List ℕ). last + bytes c) (sym same) ∙ e))))
      (λ (f : q.at_start ≡ false).
      let vs : List Blankness = us ++ l.line ∷ [] in
      let same : gap_before us (chars (own Line q ++ w)) ≡ gap_before vs (chars w) =
      ap (λ (o : List ℕ). gap_before us (chars (o ++ w))) (line_goes q f)
      ∙ (ap (gap_before us) (chars-append q.line_end w l.line_utf8 ∙ (ap (λ (o : List ℕ). o ++ chars w) l.line_chars ∙ gap_append (l.line ∷ []) [] (chars w))) ∙ sym (gap_join us (l.line ∷ []) (chars w))) in
      at_text (Plain Line ∷ xs) _ (gap_before vs (chars w)) first a last same
      (silent (Plain Line) xs (gap_before vs (chars w)) first a Broken last (λ ts. (inl refl, refl))
      (tiled xs p Fresh vs first Broken last (next_lines Line q l) n (when_so _ _ g).1 (line_more q s us first a l f m) (ap (λ (c : List ℕ). last + bytes c) (sym same) ∙ e))))
      (cases_Bool q.at_start)
  tiled (Plain Deeper ∷ xs) q s us first a last l n g m e =
      let t = tiled xs (next Deeper q) s us first a last (next_lines Deeper q l) n g (record { st = m.st; starts = m.starts; apart = m.apart }) e in
      record { places = t.places; tiles = t.tiles; gap = t.gap; over = t.over; says = (a, record { last = last; places = t.places }, (refl, refl), t.says); all = t.all; goals = t.goals }
  tiled (Plain Back ∷ xs) q s us first a last l n g m e =
      let t = tiled xs (next Back q) s us first a last (next_lines Back q l) n g (record { st = m.st; starts = m.starts; apart = m.apart }) e in
      record { places = t.places; tiles = t.tiles; gap = t.gap; over = t.over; says = (a, record { last = last; places = t.places }, (refl, refl), t.says); all = t.all; goals = t.goals }
  tiled (Plain (Semicolon span) ∷ xs) q s us first a last l n g m e =
      goes_tiled Div (codes ";") (Plain (Semicolon span)) xs q s us first a last (λ ts r h k. inl h) l (Closed, semicolon_mark, shut_when s xs g) m e
      (λ last2 h r l2 f. tiled xs (after_text (codes ";") q) Shut [] false Touching last2 l2 n h (text_more (after_text (codes ";") q) Shut r) f)
  tiled (Plain Commit ∷ xs) q s us first a last l n g m e =
      let t = tiled xs q s us first a last l n g m e in
      record { places = t.places; tiles = t.tiles; gap = t.gap; over = t.over; says = (a, record { last = last; places = t.places }, (refl, refl), t.says); all = t.all; goals = t.goals }
  tiled (Plain (Mark pos) ∷ xs) q s us first a last l n g m e =
      let t = tiled xs q s us first a last l n g m e in
      record { places = t.places; tiles = t.tiles; gap = t.gap; over = t.over; says = (a, record { last = last; places = t.places }, (refl, refl), t.says); all = t.all; goals = t.goals }
  tiled (Meant (regular_expression body flags) ∷ xs) q s us first a last l n g m e =
      let texts : List (List ℕ) = texts_of (regular_expression body flags) in
      let o : List ℕ = joined texts in
      let same : gap_before us (chars (wrote (spread (Meant (regular_expression body flags) ∷ xs)) q)) ≡ gap_before us (chars (own_text o q ++ wrote (spread xs) (after_text o q))) =
      ap (λ (t : List ℕ). gap_before us (chars t)) (wrote_texts texts (spread xs) q) in
      at_text (Meant (regular_expression body flags) ∷ xs) _ _ first a last same
      (goes_tiled RegExp o (Meant (regular_expression body flags)) xs q s us first a last (λ ts r h k. h) l g m (ap (λ (c : List ℕ). last + bytes c) (sym same) ∙ e)
      (λ last2 h r l2 f. tiled xs (after_text o q) (behind g.0 s) [] false Touching last2 l2 (subst (λ (p : Pen). AllPlaced N end xs p) (after_joined texts q) n) h (text_more (after_text o q) (behind g.0 s) r) f))
  tiled (Meant (template_characters own) ∷ xs) q s us first a last l n g m e =
      goes_tiled TemplateTail own (Meant (template_characters own)) xs q s us first a last (λ ts r h k. h) l g m e
      (λ last2 h r l2 f. tiled xs (after_text own q) (behind g.0 s) [] false Touching last2 l2 n h (text_more (after_text own q) (behind g.0 s) r) f)
  tiled (Meant (template_end own) ∷ xs) q s us first a last l n g m e =
      goes_tiled TemplateEnd own (Meant (template_end own)) xs q s us first a last (λ ts r h k. h) l g m e
      (λ last2 h r l2 f. tiled xs (after_text own q) (behind g.0 s) [] false Touching last2 l2 n h (text_more (after_text own q) (behind g.0 s) r) f)
  tiled (Meant (hashbang_comment own) ∷ xs) q s us first a last l n g m e = absurd g
  tiled (Meant (touching texts) ∷ xs) q s us first a last l n g m e =
      let same : wrote (spread (Meant (touching texts) ∷ xs)) q ≡ wrote (spread (apart texts xs)) q =
      sym (ap (λ (ys : List Piece). wrote ys q) (spread_apart texts xs) ∙ wrote_texts texts (spread xs) q) in
      let t = tiled_apart texts xs (λ q s us first a last l n g m e. tiled xs q s us first a last l n g m e) q s us first a last l
      (placed_apart texts xs q (subst (λ (p : Pen). AllPlaced N end xs p) (sym (after_joined texts q)) n)) (goes_apart texts xs s g) m
      (ap (λ (o : List ℕ). last + bytes (gap_before us (chars o))) (sym same) ∙ e) in
      together texts xs (gap_before us (chars (wrote (spread (Meant (touching texts) ∷ xs)) q))) (gap_before us (chars (wrote (spread (apart texts xs)) q))) first a last (ap (λ (o : List ℕ). gap_before us (chars o)) same) t
  tiled (Named pos own ∷ xs) q s us first a last l n g m e =
      goes_tiled Div own (Named pos own) xs q s us first a last (λ ts r h k. record { said = h; stands = subst (λ at. N pos.0 at) (sym k) n.0 }) l g m e
      (λ last2 h r l2 f. tiled xs (after_text own q) (behind g.0 s) [] false Touching last2 l2 n.1 h (text_more (after_text own q) (behind g.0 s) r) f)
