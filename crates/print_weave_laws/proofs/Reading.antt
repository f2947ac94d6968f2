-- A token of a text is read before other trivia that stands behind it, or further on, as it was before (ECMA-262, clause 12).
use Rattle.std.proofs.Common.{◌≡◌, ℕ, ◌≤◌, inl, inr, ⊎_elim, Bool, true, false, not, ◌&&◌, ◌||◌, List, [], ◌∷◌, ◌++◌, length, length-append, append_assoc, refl, sym, ap, subst, ◌∙◌, arith}
use Rattle.std.specs.Prelude.{◌==◌, Some, if◌then◌else◌}
use Rattle.std.specs.List.{list_all}
use Rattle.std.proofs.lemmas.Bool.{cases_Bool, false≢true, eqb-true, eq-eqb}
use Rattle.std.proofs.lemmas.List.{append_cancel_right}
use Rattle.unicode_ident.proofs.Computing.{unicode_ident}
use Rattle.base_proofs.proofs.Lists.{cons_head}
use Rattle.base_token.specs.Numbers.{SpecNumber, number_of}
use Rattle.base_token.specs.declared.token.TokenKind.{TokenKind}
use Rattle.lex_pieces.specs.Characters.{is_among, is_name_part}
use Rattle.lex_pieces.specs.Escapes.{IsDigits, IsEscape}
use Rattle.lex_pieces.specs.Names.{IsNameChar, Spell, is_continuing, is_opening}
use Rattle.lex_pieces.specs.Punctuators.{punctuators, IsAmong}
use Rattle.lex_literal.specs.declared.template.Ending.{Ending}
use Rattle.lex_literal.specs.declared.template.Ending.TheVariants.{BackQuote, Substitution}
use Rattle.lex_literal.specs.Escapes.{begins, is_decimal}
use Rattle.lex_literal.specs.Numbers.{Meaning, Number, BigInt, Longest, SpellsNumber, is_barred, is_number_start}
use Rattle.lex_literal.specs.Standing.{is_point, takes_point}
use Rattle.lex_literal.specs.Strings.{is_quote}
use Rattle.lex_literal.specs.Templates as templates
use Rattle.lex_literal.proofs.NumeralLemmas.{numeral_starts}
use Rattle.lex_literal.proofs.StandLemmas.{big_stands, number_stands}
use Rattle.lex_token.specs.declared.goal.LexicalGoal.{LexicalGoal}
use Rattle.lex_token.specs.declared.goal.LexicalGoal.TheVariants.{Div, RegExp, TemplateTail, TemplateEnd}
use Rattle.lex_token.specs.Lexemes.{SpecLexeme, IsLexeme, IsOutside, IsOrdinary, IsWord, IsMarked, IsNumber, IsPattern, IsMark}
use Rattle.lex_token.specs.Sorts.{is_slash, opens_regexp}
use Rattle.lex_token.proofs.SortLemmas.{pattern_begins, string_begins, word_begins}
use Rattle.lex_run_laws.proofs.Marks.{holds_all, among_holds}
use Rattle.lex_run_laws.proofs.Slashes.{characters_before}
use Rattle.lex_run_laws.proofs.Strings.{string_before}
use Rattle.print_spelling.proofs.number.PointLemmas.{member_stands}
use Rattle.print_weave_laws.specs.Cells.{is_lone}
use Rattle.print_weave_laws.proofs.Kept.{Keeps, lone_marks, stops, fails, ends_kept, punctuator_kept}

-- ---- words

-- an escape (12.7), a character of a name, and the characters of one, by their own text before any text
escape_moves : (inner : List ℕ) (v : ℕ) (next : List ℕ) → IsDigits inner v next → (own : List ℕ) × (inner ≡ own ++ next) × ((r : List ℕ) → IsEscape (92 ∷ 117 ∷ (own ++ r)) v r)
escape_moves inner v next (inl h) = (h.0 ∷ h.1 ∷ h.2 ∷ h.3 ∷ [], h.4, λ r. (h.0 ∷ h.1 ∷ h.2 ∷ h.3 ∷ r, refl, inl (h.0, h.1, h.2, h.3, refl, h.5, h.6)))
escape_moves inner v next (inr h) = (
  123 ∷ (h.0 ++ 125 ∷ []),
  h.1 ∙ ap (λ (l : List ℕ). 123 ∷ l) (sym (append_assoc h.0 (125 ∷ []) next)),
  λ r. (123 ∷ ((h.0 ++ 125 ∷ []) ++ r), refl, inr (h.0, ap (λ (l : List ℕ). 123 ∷ l) (append_assoc h.0 (125 ∷ []) r), h.2, h.3, h.4)),
)

char_moves : (first : Bool) (text : List ℕ) (c : ℕ) (next : List ℕ) → IsNameChar first text c next → (own : List ℕ) × (text ≡ own ++ next) × ((r : List ℕ) → IsNameChar first (own ++ r) c r)
char_moves first text c next (e, inl h) = (c ∷ [], h, λ r. (e, inl refl))
char_moves first text c next (e, inr h) =
    let k = escape_moves h.1.0 c next h.1.2 in
    (92 ∷ 117 ∷ k.0, h.1.1 ∙ ap (λ (l : List ℕ). 92 ∷ 117 ∷ l) k.1, λ r. (e, inr (h.0, k.2 r)))

name_moves : (first : Bool) (text cs rest : List ℕ) → Spell first text cs rest → (own : List ℕ) × (text ≡ own ++ rest) × ((r : List ℕ) → Spell first (own ++ r) cs r)
name_moves first text [] rest h = ([], h, λ r. refl)
name_moves first text (c ∷ cs) rest h =
    let k = char_moves first text c h.0 h.1 in
    let m = name_moves false h.0 cs rest h.2 in (
      k.0 ++ m.0,
      k.1 ∙ ap (λ (l : List ℕ). k.0 ++ l) m.1 ∙ sym (append_assoc k.0 m.0 rest),
      λ r. (m.0 ++ r, subst (λ (l : List ℕ). IsNameChar first l c (m.0 ++ r)) (sym (append_assoc k.0 m.0 r)) (k.2 (m.0 ++ r)), m.2 r),
    )

continuing_stops : list_all (λ d. not (is_continuing d)) stops ≡ true
unfolding unicode_ident
continuing_stops = refl

marked_on : (escaped : Bool) (own name rest r : List ℕ) → IsMarked (own ++ rest) name rest escaped → IsMarked (own ++ r) name r escaped
marked_on true own name rest r h = λ k. h (ap (λ (l : List ℕ). l ++ rest) (append_cancel_right own name r k))
marked_on false own name rest r h = ap (λ (l : List ℕ). l ++ r) (append_cancel_right own name rest h)

word_on : (own : List ℕ) (x : SpecLexeme) (rest r : List ℕ) → Keeps rest r → IsWord (own ++ rest) x rest → IsWord (own ++ r) x r
word_on own x rest r k h =
    let s = name_moves true (own ++ rest) h.0 rest h.2.1 in
    let same : own ≡ s.0 = append_cancel_right own s.0 rest s.1 in (
      h.0,
      h.1,
      (h.2.0, subst (λ (l : List ℕ). Spell true (l ++ r) h.0 r) (sym same) (s.2 r), ends_kept is_continuing rest r continuing_stops k h.2.2),
      marked_on h.1 own h.0 rest r h.3,
      h.4,
    )

-- ---- numbers

barred_stops : list_all (λ d. not (is_barred d)) stops ≡ true
unfolding unicode_ident
barred_stops = refl

-- where a number would take a point none came
no_point : (v : SpecNumber) (own ds : List ℕ) → number_of own ≡ Some v → Longest own (own ++ 46 ∷ ds) → takes_point own ≡ false
no_point v own ds h l = ⊎_elim
    (λ (t : takes_point own ≡ true).
    let m = member_stands v own [] h in
    let long : number_of (own ++ 46 ∷ []) ≡ Some v = subst (λ (cs : List ℕ). number_of cs ≡ Some v) (ap (λ b. if b then own ++ 46 ∷ [] else own) t) m.spelled in
    let n = l (Number v) (own ++ 46 ∷ []) ds long (sym (append_assoc own (46 ∷ []) ds)) in
    let a = length-append own (46 ∷ []) in
    absurd (omega (arith, n, a)))
    (λ (f : takes_point own ≡ false). f)
    (cases_Bool (takes_point own))

number_by : (m : Meaning) (own rest r : List ℕ) → Keeps rest r → SpellsNumber m own (own ++ rest) rest → SpellsNumber m own (own ++ r) r
number_by (BigInt radix digits) own rest r k h = big_stands radix digits own r h.spelled (ends_kept is_barred rest r barred_stops k h.ended)
number_by (Number v) own rest [] k h = number_stands v own [] h.spelled (tt, λ _. refl)
number_by (Number v) own rest (c ∷ cs) k h = number_stands v own (c ∷ cs) h.spelled (ends_kept is_barred rest (c ∷ cs) barred_stops k h.ended, by k)
  where
    by : Keeps rest (c ∷ cs) → takes_point own ≡ true → is_point c ≡ false
    by (inl g) t = fails is_point stops c refl g
    by (inr d) t = ⊎_elim
        (λ (p : is_point c ≡ true).
        let e : rest ≡ 46 ∷ d.0 = d.1 ∙ ap (λ (a : ℕ). a ∷ d.0) (eqb-true c 46 p) in
        absurd (false≢true (sym (no_point v own d.0 h.spelled (subst (λ (l : List ℕ). Longest own (own ++ l)) e h.longest)) ∙ t)))
        (λ (p : is_point c ≡ false). p)
        (cases_Bool (is_point c))

number_on : (own : List ℕ) (x : SpecLexeme) (rest r : List ℕ) → Keeps rest r → IsNumber (own ++ rest) x rest → IsNumber (own ++ r) x r
number_on own x rest r k h =
    let same = append_cancel_right own h.1 rest h.2.parts in
    (h.0, h.1, subst (λ (l : List ℕ). SpellsNumber h.0 h.1 (l ++ r) r) (sym same) (number_by h.0 h.1 rest r k (subst (λ (l : List ℕ). SpellsNumber h.0 h.1 (l ++ rest) rest) same h.2)), h.3)

-- ---- regular expressions

part_stops : list_all (λ d. not (is_name_part d)) stops ≡ true
unfolding unicode_ident
part_stops = refl

pattern_on : (own : List ℕ) (x : SpecLexeme) (rest r : List ℕ) → Keeps rest r → IsPattern (own ++ rest) x rest → IsPattern (own ++ r) x r
pattern_on own x rest r k h =
    let g = h.2.1 in
    let body : List ℕ = h.0 in
    let flags : List ℕ = h.1 in
    let line : (l : List ℕ) → 47 ∷ (body ++ 47 ∷ (flags ++ l)) ≡ (47 ∷ (body ++ 47 ∷ flags)) ++ l = λ l. ap (λ (t : List ℕ). 47 ∷ t) (sym (append_assoc body (47 ∷ flags) l)) in
    let whole : own ++ rest ≡ (47 ∷ (body ++ 47 ∷ flags)) ++ rest = g.1 ∙ ap (λ (t : List ℕ). 47 ∷ (body ++ 47 ∷ t)) g.2.0 ∙ line rest in
    let same = append_cancel_right own (47 ∷ (body ++ 47 ∷ flags)) rest whole in
    let there : own ++ r ≡ 47 ∷ (body ++ 47 ∷ (flags ++ r)) = ap (λ (t : List ℕ). t ++ r) same ∙ sym (line r) in
    (h.0, h.1, (h.2.0, (flags ++ r, there, (refl, g.2.1, ends_kept is_name_part rest r part_stops k g.2.2))), h.3)

-- ---- lone marks, before whatever comes

abbrev is_alone : List ℕ → Bool
is_alone [] = false
is_alone (c ∷ []) = true
is_alone (c ∷ d ∷ cs) = not (is_among lone_marks c)

all_alone : holds_all (λ s k. is_alone s) punctuators ≡ true
unfolding holds_all
all_alone = refl

alone : (s : List ℕ) (k : TokenKind) → IsAmong punctuators s k → is_alone s ≡ true
alone s k h = among_holds (λ t j. is_alone t) punctuators s k all_alone h

opening_lone : list_all (λ d. not (is_opening d)) lone_marks ≡ true
unfolding unicode_ident
opening_lone = refl

module _ (c : ℕ) (l : is_among lone_marks c ≡ true) (rest r : List ℕ) where
  no_start : is_number_start (c ∷ rest) ≡ false
  no_start =
      ap (λ b. b || ((c == 46) && begins is_decimal rest)) (fails is_decimal lone_marks c refl l)
      ∙ ap (λ b. b && begins is_decimal rest) (fails is_point lone_marks c refl l)

  no_ordinary : (x : SpecLexeme) → IsOrdinary (c ∷ rest) x rest → ⊥
  no_ordinary x (inl h) = false≢true (sym (fails is_opening lone_marks c opening_lone l) ∙ word_begins (c ∷ rest) h.0 rest h.2)
  no_ordinary x (inr (inl h)) = false≢true (sym no_start ∙ numeral_starts h.0 h.1 (c ∷ rest) rest h.2)
  no_ordinary x (inr (inr h)) = false≢true (sym (fails is_quote lone_marks c refl l) ∙ string_begins h.0 h.2 (c ∷ rest) rest h.3)

  one_at_most : (other more : List ℕ) (k : TokenKind) → IsAmong punctuators other k → c ∷ r ≡ other ++ more → length other ≤ 1
  one_at_most [] more k a e = omega arith
  one_at_most (o ∷ []) more k a e = omega arith
  one_at_most (o ∷ p ∷ os) more k a e =
      absurd (false≢true (sym (ap not (ap (is_among lone_marks) (cons_head o c ((p ∷ os) ++ more) r (sym e)) ∙ l)) ∙ alone (o ∷ p ∷ os) k a))

  mark_alone : (x : SpecLexeme) → IsMark (c ∷ rest) x rest → IsMark (c ∷ r) x r
  mark_alone x h =
      let g = h.1.1 in
      let same : c ∷ [] ≡ g.0 = append_cancel_right (c ∷ []) g.0 rest g.2 in
      let size = ap length same in (
        h.0,
        (
          λ d. false≢true (sym (fails is_point lone_marks c refl l) ∙ eq-eqb c 46 (cons_head c 46 r (d.0 ∷ d.1) d.2)),
          (g.0, g.1, ap (λ (t : List ℕ). t ++ r) same, λ other more k a e. let n = one_at_most other more k a e in omega (arith, n, size)),
        ),
        h.2,
      )

  outside_alone : (goal : LexicalGoal) (x : SpecLexeme) → IsOutside goal (c ∷ rest) x rest → IsOutside goal (c ∷ r) x r
  outside_alone goal x (inl h) = absurd (no_ordinary x h)
  outside_alone goal x (inr (inl h)) =
      let z = pattern_begins (c ∷ rest) h.1.0 h.1.1 rest h.1.2 in
      absurd (false≢true (sym (fails is_slash lone_marks c refl l) ∙ eq-eqb c 47 (cons_head c 47 rest z.0 z.1)))
  outside_alone goal x (inr (inr h)) = inr (inr (h.0, mark_alone x h.1))

lone_on : (goal : LexicalGoal) (own : List ℕ) (x : SpecLexeme) (rest r : List ℕ) → is_lone own ≡ true → IsOutside goal (own ++ rest) x rest → IsOutside goal (own ++ r) x r
lone_on goal [] x rest r e h = absurd (false≢true e)
lone_on goal (c ∷ []) x rest r e h = outside_alone c e rest r goal x h
lone_on goal (c ∷ d ∷ cs) x rest r e h = absurd (false≢true e)

-- ---- outside of templates

kept_on : (goal : LexicalGoal) (own : List ℕ) (x : SpecLexeme) (rest r : List ℕ) → (c : ℕ) (os : List ℕ) → own ≡ c ∷ os → Keeps rest r → IsOutside goal (own ++ rest) x rest → IsOutside goal (own ++ r) x r
kept_on goal own x rest r c os e k (inl (inl h)) = inl (inl (word_on own x rest r k h))
kept_on goal own x rest r c os e k (inl (inr (inl h))) = inl (inr (inl (number_on own x rest r k h)))
kept_on goal own x rest r c os e k (inl (inr (inr h))) = inl (inr (inr (string_before (own ++ rest) own x rest r refl h)))
kept_on goal own x rest r c os e k (inr (inl h)) = inr (inl (h.0, pattern_on own x rest r k h.1))
kept_on goal own x rest r c os e k (inr (inr h)) = inr (inr (
  subst (λ (l : List ℕ). (opens_regexp goal && begins is_slash (l ++ r)) ≡ false) (sym e) (subst (λ (l : List ℕ). (opens_regexp goal && begins is_slash (l ++ rest)) ≡ false) e h.0),
  (h.1.0, punctuator_kept own h.1.0 rest r h.1.1 k, h.1.2),
))

pub outside_on : (goal : LexicalGoal) (own : List ℕ) (x : SpecLexeme) (rest r : List ℕ) → (c : ℕ) (os : List ℕ) → own ≡ c ∷ os → (is_lone own ≡ false → Keeps rest r) → IsOutside goal (own ++ rest) x rest
    → IsOutside goal (own ++ r) x r
outside_on goal own x rest r c os e k h =
    ⊎_elim (λ (t : is_lone own ≡ true). lone_on goal own x rest r t h) (λ (f : is_lone own ≡ false). kept_on goal own x rest r c os e (k f) h) (cases_Bool (is_lone own))

-- ---- templates

pub ending_on : (ending : Ending) (own rest : List ℕ) → templates.Ends ending (own ++ rest) rest → (r : List ℕ) → templates.Ends ending (own ++ r) r
ending_on BackQuote own rest h r = ap (λ (l : List ℕ). l ++ r) (append_cancel_right own (96 ∷ []) rest h)
ending_on Substitution own rest h r = ap (λ (l : List ℕ). l ++ r) (append_cancel_right own (36 ∷ 123 ∷ []) rest h)

-- what ends the characters of a template
abbrev pub EndsHere : List ℕ → Type 0
EndsHere r = (ending : Ending) × (more : List ℕ) × templates.Ends ending r more

-- A token is read before what is kept behind it, and a template's characters before what ends them.
pub read_on : (goal : LexicalGoal) (own : List ℕ) (x : SpecLexeme) (rest r : List ℕ) → ((goal ≡ TemplateTail → ⊥) → (c : ℕ) × (os : List ℕ) × (own ≡ c ∷ os)) → (is_lone own ≡ false → Keeps rest r) → (goal ≡ TemplateTail → EndsHere r)
    → IsLexeme goal (own ++ rest) x rest → IsLexeme goal (own ++ r) x r
read_on Div own x rest r f k c h = let z = f (λ e. cc) in outside_on Div own x rest r z.0 z.1 z.2 k h
read_on RegExp own x rest r f k c h = let z = f (λ e. cc) in outside_on RegExp own x rest r z.0 z.1 z.2 k h
read_on TemplateTail own x rest r f k c h = let z = c refl in characters_before (own ++ rest) own x rest r z.1 z.0 refl z.2 h
read_on TemplateEnd own x rest r f k c h = (h.0, ending_on h.0 own rest h.1 r, h.2)
