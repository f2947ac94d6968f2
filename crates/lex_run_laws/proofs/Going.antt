-- Steps go on in the canonical text as they went on in the text.
use Rattle.std.proofs.Common.{◌≡◌, ◌≢◌, ℕ, ◌+◌, ◌⊎◌, inl, inr, ⊎_elim, Bool, true, false, cond, ◌&&◌, ◌||◌, List, [], ◌∷◌, ◌++◌, length, Option, Some, None, refl, sym, ap, subst, ◌∙◌, arith, nat_eq}
use Rattle.std.specs.Prelude.{◌==◌}
use Rattle.std.specs.List.{list_any}
use Rattle.std.proofs.lemmas.Bool.{cases_Bool, false≢true, and_parts, eqb-true}
use Rattle.base_token.specs.Kinds.{hash_kind, template_kind}
use Rattle.base_token.specs.Tokens.{Spot}
use Rattle.lex_source.specs.declared.contexts.TokenContext.{TokenContext}
use Rattle.lex_source.specs.declared.contexts.TokenContext.TheVariants as t
use Rattle.lex_pieces.specs.Characters.{is_white_space, is_line_terminator}
use Rattle.lex_pieces.specs.Places.{bytes}
use Rattle.lex_pieces.specs.Runs.{Ends}
use Rattle.lex_pieces.specs.Trivia.{Piece, WhiteSpace, LineTerminator, Follow, IsSkipped, NoHashbang, breaks}
use Rattle.lex_pieces.specs.declared.trivia.Goal.{Goal}
use Rattle.lex_literal.specs.declared.template.Ending.{Ending}
use Rattle.lex_literal.specs.Escapes.{begins}
use Rattle.lex_literal.specs.Templates as templates
use Rattle.lex_token.specs.declared.goal.LexicalGoal.{LexicalGoal}
use Rattle.lex_token.specs.declared.goal.LexicalGoal.TheVariants.{TemplateTail, TemplateEnd}
use Rattle.lex_step_laws.specs.States.{Last, Start, Slash, Characters, Fault, Other, State, again, again_by, is_start, last_after, place, template_goal}
use Rattle.lex_step_laws.specs.Steps.{IsGoing, IsOutside, IsPlain, IsStep, IsStepBy, IsStepOf}
use Rattle.lex_step_laws.proofs.Trivia.{follow_no_longer, piece_shorter}
use Rattle.lex_step_laws.proofs.Going.{none_some}
use Rattle.lex_source.specs.Canonical.Canonical.{Edge, gap, is_word}
use Rattle.lex_run_laws.specs.Turns.{Turn, asked, is_reread, is_slash_kind}
use Rattle.lex_run_laws.proofs.Fronts.{Free, is_space, no_trivia_by}
use Rattle.lex_run_laws.proofs.Owns.{bytes_append, no_bytes}

-- ---- what came last, in both texts

abbrev pub SameLast : Last → Last → Type 0
SameLast Start Start = Unit {0}
SameLast (Slash a) (Slash b) = Unit {0}
SameLast Characters Characters = Unit {0}
SameLast Other Other = Unit {0}
SameLast a b = ⊥

-- what tells how two texts go on
pub record Same (s t : State) : Type 0 where
  pub contexts : t.settings.contexts ≡ s.settings.contexts
  pub last : SameLast s.tokens.last t.tokens.last

pub same_after : (kind : ℕ) (from there : List ℕ) → SameLast (last_after kind from) (last_after kind there)
same_after kind from there = ⊎_elim
    (λ (a : (kind == template_kind) ≡ true). rw a tt)
    (λ (a : (kind == template_kind) ≡ false). ⊎_elim
    (λ (b : is_slash_kind kind ≡ true). rw a (rw b tt))
    (λ (b : is_slash_kind kind ≡ false). rw a (rw b tt))
    (cases_Bool (is_slash_kind kind)))
    (cases_Bool (kind == template_kind))

pub same_start : (a b : Last) → SameLast a b → is_start b ≡ is_start a
same_start Start Start h = refl
same_start (Slash a) (Slash b) h = refl
same_start Characters Characters h = refl
same_start Other Other h = refl
same_start a b h = elim h [ ]

pub going_on : (a b : Last) → SameLast a b → b ≢ Fault
going_on Start Start h = λ e. cc
going_on (Slash a) (Slash b) h = λ e. cc
going_on Characters Characters h = λ e. cc
going_on Other Other h = λ e. cc
going_on a b h = elim h [ ]

pub start_there : (a b : Last) → SameLast a b → a ≡ Start → b ≡ Start
start_there Start Start h e = refl
start_there (Slash a) (Slash b) h e = cc
start_there Characters Characters h e = cc
start_there Other Other h e = cc
start_there a b h e = elim h [ ]

pub both_start : (a b : Last) → SameLast a b → b ≡ Start → a ≡ Start
both_start Start Start h e = refl
both_start (Slash a) (Slash b) h e = cc
both_start Characters Characters h e = cc
both_start Other Other h e = cc
both_start a b h e = elim h [ ]

slash_goal : (cs : List TokenContext) (a b : List ℕ) → template_goal cs (Slash b) ≡ template_goal cs (Slash a)
slash_goal [] a b = refl
slash_goal (t.BraceStmt ∷ cs) a b = refl
slash_goal (t.BraceExpr ∷ cs) a b = refl
slash_goal (t.TplQuasi ∷ cs) a b = refl
slash_goal (t.ParenStmt is_for_loop ∷ cs) a b = refl
slash_goal (t.ParenExpr ∷ cs) a b = refl
slash_goal (t.Tpl ∷ cs) a b = refl
slash_goal (t.FnExpr ∷ cs) a b = refl
slash_goal (t.ClassExpr ∷ cs) a b = refl

last_goal : (cs : List TokenContext) (a b : Last) → SameLast a b → template_goal cs b ≡ template_goal cs a
last_goal cs Start Start h = refl
last_goal cs (Slash a) (Slash b) h = slash_goal cs a b
last_goal cs Characters Characters h = refl
last_goal cs Other Other h = refl
last_goal cs a b h = elim h [ ]

pub same_goal : (s t : State) → Same s t → template_goal t.settings.contexts t.tokens.last ≡ template_goal s.settings.contexts s.tokens.last
same_goal s t h = ap (λ cs. template_goal cs t.tokens.last) h.contexts ∙ last_goal s.settings.contexts s.tokens.last t.tokens.last h.last

-- ---- no slash is read again

abbrev pub QuietBy : Last → Bool → Type 0
QuietBy (Slash from) again = again ≡ false
QuietBy last again = Unit {0}

abbrev pub Quiet : Last → List Turn → Type 0
Quiet last [] = Unit {0}
Quiet last (t ∷ ts) = QuietBy last t.again

pub never_again : (last : Last) (a : Bool) (p : Option ℕ) (end : ℕ) → QuietBy last a → again_by last (asked a p) end ≡ None
never_again Start a p end q = refl
never_again (Slash from) a p end q = ap (λ b. again_by (Slash from) (asked b p) end) q
never_again Characters a p end q = refl
never_again Fault a p end q = refl
never_again Other a p end q = refl

pub quiet_same : (a b : Last) (g : Bool) → SameLast a b → QuietBy a g → QuietBy b g
quiet_same Start Start g h q = tt
quiet_same (Slash a) (Slash b) g h q = q
quiet_same Characters Characters g h q = tt
quiet_same Other Other g h q = tt
quiet_same a b g h q = elim h [ ]

and_false : (a b : Bool) → (a && b) ≡ false → a ≡ true → b ≡ false
and_false true b e h = e
and_false false b e h = absurd (false≢true h)

quiet_by : (kind : ℕ) (from : List ℕ) (g : Bool) → (is_slash_kind kind && g) ≡ false → QuietBy (last_after kind from) g
quiet_by kind from g e = ⊎_elim
    (λ (a : (kind == template_kind) ≡ true). rw a tt)
    (λ (a : (kind == template_kind) ≡ false). ⊎_elim
    (λ (b : is_slash_kind kind ≡ true). rw a (rw b (and_false (is_slash_kind kind) g e b)))
    (λ (b : is_slash_kind kind ≡ false). rw a (rw b tt))
    (cases_Bool (is_slash_kind kind)))
    (cases_Bool (kind == template_kind))

-- behind a token that is not read again
pub quiet_after : (t : Turn) (ts : List Turn) (from : List ℕ) → is_reread t ts ≡ false → Quiet (last_after t.spot.token.kind from) ts
quiet_after t [] from e = tt
quiet_after t (u ∷ us) from e = quiet_by t.spot.token.kind from u.again e

-- ---- steps

by_none : (o : Option (List ℕ)) (s new : State) (out : Option Spot) → o ≡ None → IsGoing (template_goal s.settings.contexts s.tokens.last) s out new → IsStepBy o s out new
by_none o s new out e h = subst (λ (p : Option (List ℕ)). IsStepBy p s out new) (sym e) h

step_of : (last : Last) (s new : State) (out : Option Spot) → last ≢ Fault → again s ≡ None → IsGoing (template_goal s.settings.contexts s.tokens.last) s out new
    → IsStepOf last s out new
step_of Start s new out n e h = by_none (again s) s new out e h
step_of (Slash from) s new out n e h = by_none (again s) s new out e h
step_of Characters s new out n e h = by_none (again s) s new out e h
step_of Fault s new out n e h = absurd (n refl)
step_of Other s new out n e h = by_none (again s) s new out e h

pub make_step : (s new : State) (out : Option Spot) → s.tokens.last ≢ Fault → again s ≡ None → IsGoing (template_goal s.settings.contexts s.tokens.last) s out new → IsStep s out new
make_step s new out n e h = record { is = step_of s.tokens.last s new out n e h }

plain_outside : (last : Last) (s new : State) (out : Option Spot) → (last ≡ Start → NoHashbang s.tokens.left) → IsPlain s out new → IsOutside last s out new
plain_outside Start s new out f h = inr (f refl, h)
plain_outside (Slash from) s new out f h = h
plain_outside Characters s new out f h = h
plain_outside Fault s new out f h = h
plain_outside Other s new out f h = h

pub plain_going : (s new : State) (out : Option Spot) → template_goal s.settings.contexts s.tokens.last ≡ None → (s.tokens.last ≡ Start → NoHashbang s.tokens.left) → IsPlain s out new
    → IsGoing (template_goal s.settings.contexts s.tokens.last) s out new
plain_going s new out g f h = subst (λ (o : Option LexicalGoal). IsGoing o s out new) (sym g) (plain_outside s.tokens.last s new out f h)

-- ---- where a state stands

-- behind a token, whose edge this is
pub record IsBehind (s : State) (e : Edge) : Type 0 where
  pub kind : ℕ
  pub from : List ℕ
  pub last : s.tokens.last ≡ last_after kind from
  pub template : e.template ≡ (kind == template_kind)
  pub hash : e.hash ≡ (kind == hash_kind)
  pub end : e.end ≡ place s.tokens.end s.tokens.left
  pub tail : (kind == template_kind) ≡ true
      → (template_goal s.settings.contexts Characters ≡ Some TemplateEnd) × ((f : Ending) × (r : List ℕ) × templates.Ends f s.tokens.left r)

abbrev pub EdgeOf : State → Option Edge → Type 0
EdgeOf s None = s.tokens.last ≡ Start
EdgeOf s (Some e) = IsBehind s e

pub record Sits (whole : List ℕ) (s : State) (last : Option Edge) : Type 0 where
  pub before : List ℕ
  pub there : whole ≡ before ++ s.tokens.left
  pub end : s.tokens.end ≡ 1 + bytes whole
  pub edge : EdgeOf s last

template_last : (kind : ℕ) (from : List ℕ) → (kind == template_kind) ≡ true → last_after kind from ≡ Characters
template_last kind from e = rw e refl

-- outside of templates no characters of one came last
pub no_characters : (s : State) (e : Edge) → IsBehind s e → template_goal s.settings.contexts s.tokens.last ≡ None → e.template ≡ false
no_characters s e h g = ⊎_elim
    (λ (a : (h.kind == template_kind) ≡ true).
    none_some (sym g ∙ ap (template_goal s.settings.contexts) (h.last ∙ template_last h.kind h.from a) ∙ (h.tail a).0))
    (λ (a : (h.kind == template_kind) ≡ false). h.template ∙ a)
    (cases_Bool (h.kind == template_kind))

other_goal : (cs : List TokenContext) (l : Last) → l ≢ Characters → template_goal cs l ≡ Some TemplateEnd → ⊥
other_goal [] l n e = none_some e
other_goal (t.BraceStmt ∷ cs) l n e = none_some e
other_goal (t.BraceExpr ∷ cs) l n e = none_some e
other_goal (t.TplQuasi ∷ cs) l n e = none_some e
other_goal (t.ParenStmt is_for_loop ∷ cs) l n e = none_some e
other_goal (t.ParenExpr ∷ cs) l n e = none_some e
other_goal (t.Tpl ∷ cs) l n e = tpl l n e
  where
    tpl : (l : Last) → l ≢ Characters → template_goal (t.Tpl ∷ cs) l ≡ Some TemplateEnd → ⊥
    tpl Start n d = let k : Some TemplateTail ≡ Some TemplateEnd = d in cc
    tpl (Slash from) n d = let k : Some TemplateTail ≡ Some TemplateEnd = d in cc
    tpl Characters n d = n refl
    tpl Fault n d = let k : Some TemplateTail ≡ Some TemplateEnd = d in cc
    tpl Other n d = let k : Some TemplateTail ≡ Some TemplateEnd = d in cc
other_goal (t.FnExpr ∷ cs) l n e = none_some e
other_goal (t.ClassExpr ∷ cs) l n e = none_some e

no_template_last : (kind : ℕ) (from : List ℕ) → (kind == template_kind) ≡ false → last_after kind from ≢ Characters
no_template_last kind from a = ⊎_elim
    (λ (b : is_slash_kind kind ≡ true). rw a (rw b (λ (e : Slash from ≡ Characters). cc)))
    (λ (b : is_slash_kind kind ≡ false). rw a (rw b (λ (e : Other ≡ Characters). cc)))
    (cases_Bool (is_slash_kind kind))

-- what ends the characters of a template comes behind these
pub behind_characters : (s : State) (e : Edge) → IsBehind s e → template_goal s.settings.contexts s.tokens.last ≡ Some TemplateEnd → e.template ≡ true
behind_characters s e h g = ⊎_elim
    (λ (a : (h.kind == template_kind) ≡ true). h.template ∙ a)
    (λ (a : (h.kind == template_kind) ≡ false).
    absurd (other_goal s.settings.contexts (last_after h.kind h.from) (no_template_last h.kind h.from a) (sym (ap (template_goal s.settings.contexts) h.last) ∙ g)))
    (cases_Bool (h.kind == template_kind))

pub start_no_end : (s : State) → s.tokens.last ≡ Start → template_goal s.settings.contexts s.tokens.last ≡ Some TemplateEnd → ⊥
start_no_end s e g = other_goal s.settings.contexts s.tokens.last (λ c. let k : Start ≡ Characters = sym e ∙ c in cc) g

pub behind_no_start : (s : State) (e : Edge) → IsBehind s e → s.tokens.last ≡ Start → ⊥
behind_no_start s e h l = no_start h.kind h.from (sym h.last ∙ l)
  where
    no_start : (kind : ℕ) (from : List ℕ) → last_after kind from ≡ Start → ⊥
    no_start kind from = ⊎_elim
        (λ (a : (kind == template_kind) ≡ true). rw a (λ (e : Characters ≡ Start). cc))
        (λ (a : (kind == template_kind) ≡ false). ⊎_elim
        (λ (b : is_slash_kind kind ≡ true). rw a (rw b (λ (e : Slash from ≡ Start). cc)))
        (λ (b : is_slash_kind kind ≡ false). rw a (rw b (λ (e : Other ≡ Start). cc)))
        (cases_Bool (is_slash_kind kind)))
        (cases_Bool (kind == template_kind))

-- ---- what stands before a token

-- Nothing stands before it, and why; a line feed; or a blank.
abbrev pub Touch : Option Edge → Spot → Type 0
Touch None spot = Unit {0}
Touch (Some e) spot = (e.hash ≡ true) × (is_word spot.token.content ≡ true)

abbrev pub GapIs : Option Edge → Spot → Bool → Type 0
GapIs last spot line_break = ((gap last spot ≡ []) × (line_break ≡ false) × Touch last spot)
    ⊎ (((gap last spot ≡ 10 ∷ []) × (line_break ≡ true))
    ⊎ ((gap last spot ≡ 32 ∷ []) × (line_break ≡ false)))

gap_of : (template touch kind line_break : Bool) → List ℕ
gap_of template touch kind line_break = cond (template || (touch || kind)) [] (cond line_break (10 ∷ []) (32 ∷ []))

gap_some : (template touch kind b : Bool) → template ≡ false → kind ≡ false → (touch ≡ true → b ≡ false)
    → ((gap_of template touch kind b ≡ []) × (b ≡ false) × (touch ≡ true))
    ⊎ (((gap_of template touch kind b ≡ 10 ∷ []) × (b ≡ true)) ⊎ ((gap_of template touch kind b ≡ 32 ∷ []) × (b ≡ false)))
unfolding gap_of
gap_some true touch kind b e f g = absurd (false≢true (sym e))
gap_some false touch true b e f g = absurd (false≢true (sym f))
gap_some false true false b e f g = inl (refl, g refl, refl)
gap_some false false false true e f g = inr (inl (refl, refl))
gap_some false false false false e f g = inr (inr (refl, refl))

first_gap : (kind b : Bool) → List ℕ
first_gap kind b = cond kind [] (cond b (10 ∷ []) [])

gap_first : (kind b : Bool) → kind ≡ false → ((first_gap kind b ≡ []) × (b ≡ false)) ⊎ ((first_gap kind b ≡ 10 ∷ []) × (b ≡ true))
unfolding first_gap
gap_first true b e = absurd (false≢true (sym e))
gap_first false true e = inr (refl, refl)
gap_first false false e = inl (refl, refl)

pub gap_none : (spot : Spot) → (spot.token.kind == template_kind) ≡ false → GapIs None spot spot.line_break
unfolding first_gap
gap_none spot e = ⊎_elim
    (λ (h : (gap None spot ≡ []) × (spot.line_break ≡ false)). inl (h.0, h.1, tt))
    (λ (h : (gap None spot ≡ 10 ∷ []) × (spot.line_break ≡ true)). inr (inl h))
    (gap_first (spot.token.kind == template_kind) spot.line_break e)

-- nothing stands before the first token where no line breaks
pub first_none : (spot : Spot) → (spot.token.kind == template_kind) ≡ false → spot.line_break ≡ false → gap None spot ≡ []
unfolding first_gap
first_none spot a b = ap (λ k. first_gap k spot.line_break) a ∙ ap (λ k. first_gap false k) b

pub gap_behind : (e : Edge) (spot : Spot) → e.template ≡ false → (spot.token.kind == template_kind) ≡ false → (nat_eq e.end spot.lo ≡ true → spot.line_break ≡ false)
    → GapIs (Some e) spot spot.line_break
unfolding gap_of
gap_behind e spot a b f =
    let word = is_word spot.token.content in
    let touch = e.hash && (word && nat_eq e.end spot.lo) in
    ⊎_elim
    (λ (h : (gap (Some e) spot ≡ []) × (spot.line_break ≡ false) × (touch ≡ true)).
    let p = and_parts e.hash (word && nat_eq e.end spot.lo) h.2 in
    inl (h.0, h.1, (p.0, (and_parts word (nat_eq e.end spot.lo) p.1).0)))
    (λ (h : ((gap (Some e) spot ≡ 10 ∷ []) × (spot.line_break ≡ true)) ⊎ ((gap (Some e) spot ≡ 32 ∷ []) × (spot.line_break ≡ false))). inr h)
    (gap_some e.template touch (spot.token.kind == template_kind) spot.line_break a b
    (λ t. f (and_parts word (nat_eq e.end spot.lo) (and_parts e.hash (word && nat_eq e.end spot.lo) t).1).1))

-- nothing stands beside the characters of a template
pub gap_tail : (last : Option Edge) (spot : Spot) → (spot.token.kind == template_kind) ≡ true → gap last spot ≡ []
unfolding first_gap gap_of
gap_tail None spot e = ap (λ b. first_gap b spot.line_break) e
gap_tail (Some f) spot e = by_kind f.template (f.hash && (is_word spot.token.content && nat_eq f.end spot.lo)) (spot.token.kind == template_kind) spot.line_break e
  where
    by_kind : (template touch kind b : Bool) → kind ≡ true → gap_of template touch kind b ≡ []
    by_kind true touch kind b h = refl
    by_kind false true kind b h = refl
    by_kind false false true b h = refl
    by_kind false false false b h = absurd (false≢true h)

pub gap_end : (e : Edge) (spot : Spot) → e.template ≡ true → gap (Some e) spot ≡ []
unfolding gap_of
gap_end e spot h = ap (λ b. gap_of b (e.hash && (is_word spot.token.content && nat_eq e.end spot.lo)) (spot.token.kind == template_kind) spot.line_break) h

-- no trivia lies between places that are one
no_pieces : (goal : Goal) (first : Bool) (ps : List Piece) (text rest : List ℕ) → Follow goal first text ps rest → text ≡ rest → list_any breaks ps ≡ false
no_pieces goal first [] text rest h e = refl
no_pieces goal first (p ∷ ps) text rest h e =
    let a = piece_shorter goal first text p h.0 h.1 in
    let b = follow_no_longer goal (first || breaks p) h.0 ps rest h.2 in
    let c = ap length e in
    absurd (omega (arith, a, b, c))

pub unbroken : (whole before gone from : List ℕ) (end : ℕ) (text : List ℕ) (goal : Goal) (first line_break : Bool) → whole ≡ before ++ text → text ≡ gone ++ from → end ≡ 1 + bytes whole
    → IsSkipped goal first text line_break from → nat_eq (place end text) (place end from) ≡ true → line_break ≡ false
unbroken whole before gone from end text goal first line_break w g e h n =
    let a = ap bytes w ∙ bytes_append before text in
    let b = ap bytes g ∙ bytes_append gone from in
    let same = eqb-true (place end text) (place end from) n in
    let none = no_bytes gone (omega (arith, a, b, e, same)) in
    h.2 ∙ no_pieces goal first h.0 text from h.1.0 (g ∙ ap (λ (l : List ℕ). l ++ from) none)

-- it is skipped as the trivia was
white_front : (r : List ℕ) → begins is_space r ≡ false → Ends (λ c. is_white_space c) r
unfolding is_space
white_front [] e = tt
white_front (c ∷ cs) e = by_first (is_white_space c) (is_line_terminator c) e
  where
    by_first : (a b : Bool) → (a || b) ≡ false → a ≡ false
    by_first true b h = absurd (false≢true (sym h))
    by_first false b h = refl

pub skips : (last : Option Edge) (spot : Spot) (line_break : Bool) (goal : Goal) (first : Bool) (r : List ℕ) → GapIs last spot line_break → Free r
    → IsSkipped goal first (gap last spot ++ r) line_break r
skips last spot line_break goal first r (inl h) f =
    subst (λ (l : List ℕ). IsSkipped goal first (l ++ r) line_break r) (sym h.0) ([], (refl, no_trivia_by goal (first || false) r f), h.1)
skips last spot line_break goal first r (inr (inl h)) f =
    subst (λ (l : List ℕ). IsSkipped goal first (l ++ r) line_break r) (sym h.0)
    (LineTerminator ∷ [], ((r, inr (10, refl, refl, λ e. absurd (let k : 10 ≡ 13 = e in omega (arith, k))), refl), no_trivia_by goal (first || true) r f), h.1)
skips last spot line_break goal first r (inr (inr h)) f =
    subst (λ (l : List ℕ). IsSkipped goal first (l ++ r) line_break r) (sym h.0)
    (WhiteSpace ∷ [], ((r, (32 ∷ [], (λ e. cc), (refl, (refl, tt), white_front r f.space)), refl), no_trivia_by goal (first || false) r f), h.1)
