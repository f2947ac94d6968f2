-- One turn after the other.
use Rattle.std.proofs.Common.{◌≡◌, ℕ, ◌≤◌, ◌⊎◌, inl, inr, ⊎_elim, Bool, true, false, not, ◌||◌, List, [], ◌∷◌, ◌++◌, Option, Some, None, refl, sym, ap, subst, ◌∙◌, arith, nat_eq}
use Rattle.std.specs.Prelude.{◌==◌, encode_utf8_all}
use Rattle.std.specs.List.{list_any}
use Rattle.std.proofs.lemmas.Bool.{cases_Bool, false≢true, eqb-true}
use Rattle.base_proofs.proofs.Lists.{cons_head}
use Rattle.unicode_ident.proofs.Computing.{unicode_ident}
use Rattle.base_token.specs.declared.context.Context.{Context}
use Rattle.base_token.specs.Kinds.{back_quote_kind, hash_kind, right_brace_kind, template_kind}
use Rattle.base_token.specs.Tokens.{SpecToken, Spot}
use Rattle.lex_source.specs.declared.contexts.TokenContext.{TokenContext}
use Rattle.lex_source.specs.Machine as machine
use Rattle.lex_pieces.specs.Characters.{is_line_terminator}
use Rattle.lex_pieces.specs.Classes.{is_line_char}
use Rattle.lex_pieces.specs.Names.{is_opening}
use Rattle.lex_pieces.specs.Runs.{Ends}
use Rattle.lex_pieces.specs.Trivia.{Piece, LineTerminator, Follow, IsPiece, IsSkipped, NoHashbang, NoTrivia, breaks}
use Rattle.lex_pieces.specs.ReadingTrivia.{Found, after_break, read, read_by}
use Rattle.lex_pieces.specs.declared.trivia.Goal.{Goal}
use Rattle.lex_pieces.proofs.Apart.{terminator_no_space}
use Rattle.lex_pieces.proofs.TriviaLemmas.{is_piece, one_piece}
use Rattle.lex_literal.specs.declared.template.Ending.{Ending}
use Rattle.lex_literal.specs.Escapes.{begins}
use Rattle.lex_literal.specs.Numbers.{is_number_start}
use Rattle.lex_literal.specs.Strings.{is_quote}
use Rattle.lex_literal.specs.Templates as templates
use Rattle.lex_literal.proofs.NumeralLemmas.{numeral_starts}
use Rattle.lex_token.specs.declared.goal.LexicalGoal.{LexicalGoal}
use Rattle.lex_token.specs.declared.goal.LexicalGoal.TheVariants.{Div, TemplateEnd}
use Rattle.lex_token.specs.Lexemes.{SpecLexeme, IsLexeme, IsMark}
use Rattle.lex_token.proofs.LexemeLemmas.{none_at_end}
use Rattle.lex_token.proofs.SortLemmas.{string_begins, word_begins}
use Rattle.lex_step_laws.specs.States.{Last, Start, State, behind, contexts_after, goal_of, is_start, last_after, place, spot_at, template_goal}
use Rattle.lex_step_laws.specs.Steps.{IsGoing, IsStep}
use Rattle.lex_step_laws.proofs.Going.{none_some}
use Rattle.lex_source.specs.Canonical.Canonical.{Edge, edge_of, gap, is_word, text_behind}
use Rattle.lex_run_laws.specs.Turns.{Turn, Turns, kept, moved_behind, told}
use Rattle.lex_run_laws.proofs.Words.{Parted}
use Rattle.lex_run_laws.proofs.Fronts.{Free}
use Rattle.lex_run_laws.proofs.Standing.{MayStandBefore, no_inner, no_template, no_tpl, none_after, stands_before, word_opens}
use Rattle.lex_run_laws.proofs.Marks.{hash_is, is_lone}
use Rattle.lex_run_laws.proofs.Taken.{Plain, Took}
use Rattle.lex_run_laws.proofs.Going.{GapIs, Same, Sits, both_start, gap_behind, gap_none, no_characters, plain_going, same_goal, skips, unbroken}

-- ---- what is known of the canonical text behind a state

-- what it begins with, by the goal that comes
abbrev pub Fits : Option LexicalGoal → Option Edge → List ℕ → Type 0
Fits (Some TemplateEnd) last cs = (f : Ending) × (r : List ℕ) × templates.Ends f cs r
Fits (Some goal) last cs = Unit {0}
Fits None None cs = Unit {0}
Fits None (Some e) cs = Parted cs ⊎ ((e.hash ≡ true) × (begins is_opening cs ≡ true))

-- A line that ends in the text ends in it too, behind a hashbang.
abbrev pub Breaks : State → Option Edge → List ℕ → Type 0
Breaks s None cs = Unit {0}
Breaks s (Some e) cs = e.template ≡ false → e.hash ≡ false → template_goal s.settings.contexts s.tokens.last ≡ None → Ends is_line_char s.tokens.left → Ends is_line_char cs

pub record Going (whole : List ℕ) (ctx : Context) (s : State) (last : Option Edge) (ts : List Turn) : Type 0 where
  pub cs : List ℕ
  pub text : encode_utf8_all cs ≡ text_behind (encode_utf8_all whole) last (kept ts)
  pub fits : Fits (template_goal s.settings.contexts s.tokens.last) last cs
  pub breaks : Breaks s last cs
  pub reads : (t : State) (at : ℕ) (lo : Option ℕ) → Same s t → t.tokens.left ≡ cs → at ≡ place t.tokens.end cs → 1 ≤ at
      → (new end : State) × Turns lo t (moved_behind (encode_utf8_all whole) at last ts) new × IsStep (told ctx None new) None end

-- ---- the token again

-- The token stands before the rest of the canonical text, in its gap.
pub record Canon (s : State) (last : Option Edge) (spot : Spot) (line_break : Bool) (x : SpecLexeme) (own r : List ℕ) : Type 0 where
  pub fits : Fits (template_goal s.settings.contexts s.tokens.last) last (gap last spot ++ (own ++ r))
  pub breaks : Breaks s last (gap last spot ++ (own ++ r))
  pub going : (t : State) → Same s t → t.tokens.left ≡ gap last spot ++ (own ++ r) → t.settings.ctx ≡ s.settings.ctx
      → IsGoing (template_goal t.settings.contexts t.tokens.last) t (Some (spot_at t.tokens.end line_break x.token (own ++ r) r)) (behind t line_break (own ++ r) x r)

some_goal : (s : State) (goal : Option LexicalGoal) (last : Option Edge) (a b : List ℕ) → template_goal s.settings.contexts s.tokens.last ≡ goal → Fits goal last b → a ≡ b → Fits (template_goal s.settings.contexts s.tokens.last) last a
some_goal s goal last a b g h e = subst (λ (l : List ℕ). Fits (template_goal s.settings.contexts s.tokens.last) last l) (sym e) (subst (λ o. Fits o last b) (sym g) h)

no_breaks : (s : State) (last : Option Edge) (cs : List ℕ) (goal : LexicalGoal) → template_goal s.settings.contexts s.tokens.last ≡ Some goal → Breaks s last cs
no_breaks s None cs goal g = tt
no_breaks s (Some e) cs goal g = λ a b n d. none_some (sym n ∙ g)

-- inside of a template
pub inside : (goal : LexicalGoal) (s : State) (last : Option Edge) (spot : Spot) (x : SpecLexeme) (own r : List ℕ) → template_goal s.settings.contexts s.tokens.last ≡ Some goal
    → gap last spot ≡ [] → Fits (Some goal) last (own ++ r) → IsLexeme goal (own ++ r) x r → Canon s last spot false x own r
inside goal s last spot x own r g e fits is =
    let none : gap last spot ++ (own ++ r) ≡ own ++ r = ap (λ (l : List ℕ). l ++ (own ++ r)) e in
    record {
      fits = some_goal s (Some goal) last (gap last spot ++ (own ++ r)) (own ++ r) g fits none;
      breaks = no_breaks s last (gap last spot ++ (own ++ r)) goal g;
      going = λ t same left ctx.
          let here : t.tokens.left ≡ own ++ r = left ∙ none in
          subst (λ (o : Option LexicalGoal). IsGoing o t (Some (spot_at t.tokens.end false x.token (own ++ r) r)) (behind t false (own ++ r) x r)) (sym (same_goal s t same ∙ g))
          (inl (
            x,
            r,
            subst (λ (l : List ℕ). IsLexeme goal l x r) (sym here) is,
            ap (λ (l : List ℕ). Some (spot_at t.tokens.end false x.token l r)) (sym here),
            ap (λ (l : List ℕ). behind t false l x r) (sym here),
          ));
    }

-- behind trivia
pub plain_canon : (s : State) (last : Option Edge) (spot : Spot) (line_break : Bool) (x : SpecLexeme) (own r : List ℕ) → template_goal s.settings.contexts s.tokens.last ≡ None
    → GapIs last spot line_break → IsLexeme Div (own ++ r) x r → Free (own ++ r) → Fits None last (gap last spot ++ (own ++ r)) → Breaks s last (gap last spot ++ (own ++ r))
    → (s.tokens.last ≡ Start → NoHashbang (gap last spot ++ (own ++ r))) → Canon s last spot line_break x own r
plain_canon s last spot line_break x own r g gapped is free fits breaks bang = record {
  fits = some_goal s None last (gap last spot ++ (own ++ r)) (gap last spot ++ (own ++ r)) g fits refl;
  breaks = breaks;
  going = λ t same left ctx.
      plain_going t (behind t line_break (own ++ r) x r) (Some (spot_at t.tokens.end line_break x.token (own ++ r) r)) (same_goal s t same ∙ g)
      (λ e. subst NoHashbang (sym left) (bang (both_start s.tokens.last t.tokens.last same.last e)))
      (inl (
        line_break,
        own ++ r,
        subst (λ (l : List ℕ). IsSkipped (goal_of t.settings.ctx) (is_start t.tokens.last) l line_break (own ++ r)) (sym left)
            (skips last spot line_break (goal_of t.settings.ctx) (is_start t.tokens.last) (own ++ r) gapped free),
        inl (x, r, is, refl, refl),
      ));
}

-- ---- no hashbang is made

opening_35 : is_opening 35 ≡ false
unfolding unicode_ident
opening_35 = refl

opening_33 : is_opening 33 ≡ false
unfolding unicode_ident
opening_33 = refl

-- a token that begins with `#` is that punctuator
hash_by : (text : List ℕ) (x : SpecLexeme) (rest inner : List ℕ) → IsLexeme Div text x rest → text ≡ 35 ∷ inner → IsMark text x rest
hash_by text x rest inner (inl (inl h)) e = absurd (false≢true (sym opening_35 ∙ sym (ap (begins is_opening) e) ∙ word_begins text h.0 rest h.2))
hash_by text x rest inner (inl (inr (inl h))) e = absurd (false≢true (sym (ap is_number_start e) ∙ numeral_starts h.0 h.1 text rest h.2))
hash_by text x rest inner (inl (inr (inr h))) e = absurd (false≢true (sym (ap (begins is_quote) e) ∙ string_begins h.0 h.2 text rest h.3))
hash_by text x rest inner (inr (inl h)) e = absurd (false≢true h.0)
hash_by text x rest inner (inr (inr h)) e = h.1

fits_no_bang : (e : Edge) (cs inner : List ℕ) → Fits None (Some e) cs → cs ≡ 33 ∷ inner → ⊥
fits_no_bang e cs inner (inl p) same = false≢true (subst Parted same p)
fits_no_bang e cs inner (inr h) same = false≢true (sym opening_33 ∙ sym (ap (begins is_opening) same) ∙ h.1)

hash_after : (kind : ℕ) (cs : List TokenContext) (l m : Last) → (kind == hash_kind) ≡ true → template_goal cs l ≡ None → template_goal (contexts_after kind cs) m ≡ None
hash_after kind cs l m e g = rw (eqb-true kind hash_kind e) (no_tpl cs l m g)

-- no token and what follows it begin as a hashbang does
pub no_bang : (text : List ℕ) (x : SpecLexeme) (r : List ℕ) (cs : List TokenContext) (l m : Last) (e : Edge) → IsLexeme Div text x r → template_goal cs l ≡ None
    → Fits (template_goal (contexts_after x.token.kind cs) m) (Some e) r → NoHashbang text
no_bang text x r cs l m e h g fits inner same =
    let k = hash_is text x r (33 ∷ inner) (hash_by text x r (33 ∷ inner) h same) same in
    let none = hash_after x.token.kind cs l m k.0 g in
    fits_no_bang e r inner (subst (λ o. Fits o (Some e) r) none fits) k.1

pub gap_no_bang : (last : Option Edge) (spot : Spot) (line_break : Bool) (r : List ℕ) → GapIs last spot line_break → NoHashbang r → NoHashbang (gap last spot ++ r)
gap_no_bang last spot line_break r (inl h) n inner e = n inner (sym (ap (λ (l : List ℕ). l ++ r) h.0) ∙ e)
gap_no_bang last spot line_break r (inr (inl h)) n inner e = let k : 10 ∷ r ≡ 35 ∷ 33 ∷ inner = sym (ap (λ (l : List ℕ). l ++ r) h.0) ∙ e in let j = cons_head 10 35 r (33 ∷ inner) k in omega (arith, j)
gap_no_bang last spot line_break r (inr (inr h)) n inner e = let k : 32 ∷ r ≡ 35 ∷ 33 ∷ inner = sym (ap (λ (l : List ℕ). l ++ r) h.0) ∙ e in let j = cons_head 32 35 r (33 ∷ inner) k in omega (arith, j)

-- ---- where a line ends

break_piece : (goal : Goal) (first : Bool) (c : ℕ) (cs : List ℕ) → is_line_terminator c ≡ true → (rest : List ℕ) × IsPiece goal first (c ∷ cs) LineTerminator rest
unfolding read_by
break_piece goal first c cs h =
    let e : read goal first (c ∷ cs) ≡ Found LineTerminator (after_break c cs) = rw (terminator_no_space c h) (rw h refl) in
    (after_break c cs, is_piece goal first (c ∷ cs) LineTerminator (after_break c cs) e)

no_line_char : (c : ℕ) → is_line_char c ≡ false → is_line_terminator c ≡ true
no_line_char c e = ⊎_elim
    (λ (t : is_line_terminator c ≡ true). t)
    (λ (f : is_line_terminator c ≡ false). absurd (false≢true (sym e ∙ ap not f)))
    (cases_Bool (is_line_terminator c))

-- trivia that begins with a line terminator breaks the line
pub skip_breaks : (goal : Goal) (first line_break : Bool) (text rest : List ℕ) → IsSkipped goal first text line_break rest → Ends is_line_char text → (text ≡ []) ⊎ (line_break ≡ true)
skip_breaks goal first line_break [] rest h e = inl refl
skip_breaks goal first line_break (c ∷ cs) rest h e = by_pieces h.0 h.1.0 h.1.1 h.2
  where
    by_pieces : (ps : List Piece) → Follow goal first (c ∷ cs) ps rest → NoTrivia goal (first || list_any breaks ps) rest → line_break ≡ list_any breaks ps → (c ∷ cs ≡ []) ⊎ (line_break ≡ true)
    by_pieces [] f n b =
        let p = break_piece goal (first || false) c cs (no_line_char c e) in
        absurd (n.0 LineTerminator p.0 (subst (λ (l : List ℕ). IsPiece goal (first || false) l LineTerminator p.0) f p.1))
    by_pieces (p ∷ ps) f n b =
        let q = break_piece goal first c cs (no_line_char c e) in
        let k = (one_piece goal first (c ∷ cs) p LineTerminator f.0 q.0 f.1).0 q.1 in
        inr (b ∙ ap (λ (x : Piece). breaks x || list_any breaks ps) k.0)

-- ---- a token outside of templates

pub kind_of_spot : (s : State) (spot : Spot) (new : State) → (k : Took s spot new) → spot.token.kind ≡ k.x.token.kind
kind_of_spot s spot new k = ap (λ (p : Spot). p.token.kind) k.spot_is

pub gap_here : (whole : List ℕ) (s : State) (last : Option Edge) (spot : Spot) (new : State) → Sits whole s last → (k : Took s spot new) → (p : Plain s k.line_break k.from k.x k.rest)
    → GapIs last spot k.line_break
gap_here whole s None spot new sits k p =
    let kind : (spot.token.kind == template_kind) ≡ false = ap (λ n. n == template_kind) (kind_of_spot s spot new k) ∙ no_template k.x.token.kind (no_inner Div k.from k.x k.rest p.is) in
    subst (λ b. GapIs None spot b) (ap (λ (q : Spot). q.line_break) k.spot_is) (gap_none spot kind)
gap_here whole s (Some e) spot new sits k p =
    let kind : (spot.token.kind == template_kind) ≡ false = ap (λ n. n == template_kind) (kind_of_spot s spot new k) ∙ no_template k.x.token.kind (no_inner Div k.from k.x k.rest p.is) in
    let b = sits.edge in
    let broke : spot.line_break ≡ k.line_break = ap (λ (q : Spot). q.line_break) k.spot_is in
    let near : nat_eq e.end spot.lo ≡ true → spot.line_break ≡ false =
    λ n. broke ∙ unbroken whole sits.before k.gone.0 k.from s.tokens.end s.tokens.left (goal_of s.settings.ctx) (is_start s.tokens.last) k.line_break sits.there k.gone.1 sits.end p.skipped
    (sym (ap (λ a. nat_eq a spot.lo) b.end ∙ ap (λ a. nat_eq (place s.tokens.end s.tokens.left) a) (ap (λ (q : Spot). q.lo) k.spot_is)) ∙ n) in
    subst (λ l. GapIs (Some e) spot l) broke (gap_behind e spot (no_characters s e b p.goal) kind near)

-- what may follow it in the canonical text
follow_by : (s : State) (spot : Spot) (new : State) (k : Took s spot new) → (p : Plain s k.line_break k.from k.x k.rest) → (r : List ℕ)
    → Fits (template_goal (contexts_after k.x.token.kind s.settings.contexts) (last_after k.x.token.kind k.from)) (Some (edge_of spot)) r → MayStandBefore k.x.token.kind r
follow_by s spot new k p r f = ⊎_elim
    (λ (l : is_lone k.x.token.kind ≡ true). inl l)
    (λ (l : is_lone k.x.token.kind ≡ false).
    let none = none_after k.x.token.kind s.settings.contexts s.tokens.last (last_after k.x.token.kind k.from) p.goal (no_inner Div k.from k.x k.rest p.is) l in
    let hash : (edge_of spot).hash ≡ (k.x.token.kind == hash_kind) = ap (λ n. n == hash_kind) (kind_of_spot s spot new k) in
    by_fits l hash (subst (λ o. Fits o (Some (edge_of spot)) r) none f))
    (cases_Bool (is_lone k.x.token.kind))
  where
    by_fits : is_lone k.x.token.kind ≡ false → (edge_of spot).hash ≡ (k.x.token.kind == hash_kind) → Fits None (Some (edge_of spot)) r → MayStandBefore k.x.token.kind r
    by_fits l hash (inl q) = inr q
    by_fits l hash (inr q) = inl (ap (λ b. b || (k.x.token.kind == back_quote_kind || k.x.token.kind == right_brace_kind)) (sym hash ∙ q.0))

pub fits_plain : (last : Option Edge) (spot : Spot) (line_break : Bool) (x : SpecLexeme) (r rest : List ℕ) → spot.token ≡ machine.told x.token → IsLexeme Div r x rest → GapIs last spot line_break
    → Fits None last (gap last spot ++ r)
fits_plain None spot line_break x r rest e h g = tt
fits_plain (Some f) spot line_break x r rest e h (inl g) =
    inr (g.2.0, ap (λ (l : List ℕ). begins is_opening (l ++ r)) g.0 ∙ word_opens r x rest h (ap (λ (w : SpecToken). is_word w.content) (sym e) ∙ g.2.1))
fits_plain (Some f) spot line_break x r rest e h (inr (inl g)) = inl (subst (λ (l : List ℕ). Parted (l ++ r)) (sym g.0) refl)
fits_plain (Some f) spot line_break x r rest e h (inr (inr g)) = inl (subst (λ (l : List ℕ). Parted (l ++ r)) (sym g.0) refl)

broken_gap : (last : Option Edge) (spot : Spot) (line_break : Bool) (r : List ℕ) → line_break ≡ true → GapIs last spot line_break → Ends is_line_char (gap last spot ++ r)
broken_gap last spot line_break r b (inl g) = absurd (false≢true (sym g.1 ∙ b))
broken_gap last spot line_break r b (inr (inl g)) = subst (λ (l : List ℕ). Ends is_line_char (l ++ r)) (sym g.0) refl
broken_gap last spot line_break r b (inr (inr g)) = absurd (false≢true (sym g.1 ∙ b))

nothing_behind : (gone from : List ℕ) → [] ≡ gone ++ from → from ≡ []
nothing_behind [] from e = sym e
nothing_behind (c ∷ cs) from e = cc

pub breaks_plain : (s : State) (last : Option Edge) (spot : Spot) (new : State) (k : Took s spot new) → (p : Plain s k.line_break k.from k.x k.rest) → (r : List ℕ) → GapIs last spot k.line_break
    → Breaks s last (gap last spot ++ r)
breaks_plain s None spot new k p r g = tt
breaks_plain s (Some e) spot new k p r g = λ a b n ends. ⊎_elim
    (λ (z : s.tokens.left ≡ []).
    absurd (none_at_end Div k.from (nothing_behind k.gone.0 k.from (sym z ∙ k.gone.1)) k.x k.rest p.is))
    (λ (z : k.line_break ≡ true). broken_gap (Some e) spot k.line_break r z g)
    (skip_breaks (goal_of s.settings.ctx) (is_start s.tokens.last) k.line_break s.tokens.left k.from p.skipped ends)

-- a token outside of templates, before the rest of the canonical text
pub plain_again : (whole : List ℕ) (s : State) (last : Option Edge) (spot : Spot) (new : State) → Sits whole s last → (k : Took s spot new) → Plain s k.line_break k.from k.x k.rest → (r : List ℕ)
    → Fits (template_goal (contexts_after k.x.token.kind s.settings.contexts) (last_after k.x.token.kind k.from)) (Some (edge_of spot)) r
    → Canon s last spot k.line_break k.x k.own r
plain_again whole s last spot new sits k p r f =
    let g = gap_here whole s last spot new sits k p in
    let b = stands_before k.from k.own k.x k.rest r k.cut (follow_by s spot new k p r f) p.is in
    let token : spot.token ≡ machine.told k.x.token = ap (λ (q : Spot). q.token) k.spot_is in
    plain_canon s last spot k.line_break k.x k.own r p.goal g b.0 b.1
    (fits_plain last spot k.line_break k.x (k.own ++ r) r token b.0 g)
    (breaks_plain s last spot new k p (k.own ++ r) g)
    (λ e. gap_no_bang last spot k.line_break (k.own ++ r) g
    (no_bang (k.own ++ r) k.x r s.settings.contexts s.tokens.last (last_after k.x.token.kind k.from) (edge_of spot) b.0 p.goal f))
