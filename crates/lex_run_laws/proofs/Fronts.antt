-- Before a token that stands before other text stands no trivia.
use Rattle.std.proofs.Common.{◌≡◌, ◌≢◌, ℕ, inl, inr, ⊎_elim, Bool, true, false, not, ◌&&◌, ◌||◌, List, [], ◌∷◌, ◌++◌, refl, sym, ap, subst, ◌∙◌, arith}
use Rattle.std.specs.Prelude.{◌==◌}
use Rattle.std.specs.List.{list_all}
use Rattle.std.proofs.lemmas.Bool.{cases_Bool, false≢true, and_parts, eqb-true, not-true, or_cases, or_parts}
use Rattle.std.proofs.lemmas.Bool.Decides.{nat_tests}
use Rattle.base_proofs.proofs.Lists.{cons_head, cons_tail}
use Rattle.unicode_ident.proofs.Computing.{unicode_ident}
use Rattle.base_token.specs.declared.token.TokenKind.{TokenKind}
use Rattle.lex_pieces.specs.Characters.{is_line_terminator, is_white_space, line_terminators, white_space}
use Rattle.lex_pieces.specs.Names.{is_opening}
use Rattle.lex_pieces.specs.Punctuators.{IsAmong, punctuators}
use Rattle.lex_pieces.specs.RegExps.{IsOpenSlash, is_comment_mark}
use Rattle.lex_pieces.specs.Runs.{Each, Ends}
use Rattle.lex_pieces.specs.Trivia.{Piece, WhiteSpace, LineTerminator, LineComment, BlockComment, IsPiece, NoTrivia, spelled}
use Rattle.lex_pieces.specs.declared.trivia.Goal.{Goal}
use Rattle.lex_pieces.specs.declared.trivia.LineMark.{LineMark}
use Rattle.lex_pieces.specs.declared.trivia.LineMark.TheVariants.{Slashes, HtmlOpen, HtmlClose}
use Rattle.lex_pieces.proofs.Apart.{among_passes}
use Rattle.lex_literal.specs.Escapes.{begins, is_decimal}
use Rattle.lex_literal.specs.Numbers.{is_number_start}
use Rattle.lex_literal.specs.Strings.{is_quote}
use Rattle.lex_literal.proofs.NumeralLemmas.{numeral_starts}
use Rattle.lex_token.specs.Lexemes.{SpecLexeme, IsMark, IsOrdinary}
use Rattle.lex_token.proofs.SortLemmas.{string_begins, word_begins, slash_no_opening}
use Rattle.lex_run_laws.proofs.Words.{Parted, is_gap}
use Rattle.lex_run_laws.proofs.Marks.{among_holds, holds_all, is_lone, is_lone_char, is_some_text, lone_first, some_text}

-- ---- what trivia begins with

unfoldable pub is_space : ℕ → Bool
is_space c = is_white_space c || is_line_terminator c

-- No trivia begins the text.
pub record Free (text : List ℕ) : Type 0 where
  pub space : begins is_space text ≡ false
  pub mark : (mark : LineMark) (inner : List ℕ) → text ≢ spelled mark ++ inner
  pub block : (inner : List ℕ) → text ≢ 47 ∷ 42 ∷ inner

first_or : (c : ℕ) → is_white_space c ≡ true → is_space c ≡ true
unfolding is_space
first_or c e = ap (λ b. b || is_line_terminator c) e

second_or : (c : ℕ) → is_line_terminator c ≡ true → is_space c ≡ true
unfolding is_space
second_or c e = ⊎_elim
    (λ (t : is_white_space c ≡ true). first_or c t)
    (λ (f : is_white_space c ≡ false). ap (λ b. b || is_line_terminator c) f ∙ e)
    (cases_Bool (is_white_space c))

space_at : (text : List ℕ) (c : ℕ) (cs : List ℕ) → begins is_space text ≡ false → text ≡ c ∷ cs → is_space c ≡ true → ⊥
space_at text c cs f e h = false≢true (sym f ∙ ap (begins is_space) e ∙ h)

no_piece : (goal : Goal) (first : Bool) (text : List ℕ) → Free text → (p : Piece) (rest : List ℕ) → IsPiece goal first text p rest → ⊥
no_piece goal first text f WhiteSpace rest h = by_own h.0 h.1 h.2.0 h.2.1
  where
    by_own : (own : List ℕ) → own ≢ [] → text ≡ own ++ rest → Each is_white_space own → ⊥
    by_own [] n e k = n refl
    by_own (c ∷ cs) n e k = space_at text c (cs ++ rest) f.space e (first_or c k.0)
no_piece goal first text f LineTerminator rest (inl h) = space_at text 13 (10 ∷ rest) f.space h (second_or 13 refl)
no_piece goal first text f LineTerminator rest (inr h) = space_at text h.0 rest f.space h.1 (second_or h.0 h.2)
no_piece goal first text f (LineComment mark own) rest h = f.mark mark h.1.0 h.1.1
no_piece goal first text f (BlockComment own) rest h = f.block h.0 h.1

pub no_trivia_by : (goal : Goal) (first : Bool) (text : List ℕ) → Free text → NoTrivia goal first text
no_trivia_by goal first text f = (no_piece goal first text f, (λ h. f.block h.0 h.1), (λ inner h. f.mark h.1.0 inner h.1.3))

-- ---- by the first character

leads : ℕ → Bool
leads c = is_space c || (c == 47 || (c == 60 || c == 45))

leads_at : (text : List ℕ) (c : ℕ) (cs : List ℕ) → begins leads text ≡ false → leads c ≡ true → text ≡ c ∷ cs → ⊥
leads_at text c cs f h e = false≢true (sym f ∙ ap (begins leads) e ∙ h)

mark_leads : (text : List ℕ) → begins leads text ≡ false → (mark : LineMark) (inner : List ℕ) → text ≢ spelled mark ++ inner
unfolding leads is_space
mark_leads text f Slashes inner e = leads_at text 47 (47 ∷ inner) f refl e
mark_leads text f HtmlOpen inner e = leads_at text 60 (33 ∷ 45 ∷ 45 ∷ inner) f refl e
mark_leads text f HtmlClose inner e = leads_at text 45 (45 ∷ 62 ∷ inner) f refl e

space_leads : (text : List ℕ) → begins leads text ≡ false → begins is_space text ≡ false
unfolding leads
space_leads [] f = refl
space_leads (c ∷ cs) f = (or_parts (is_space c) (c == 47 || (c == 60 || c == 45)) f).0

free_by : (text : List ℕ) → begins leads text ≡ false → Free text
unfolding leads is_space
free_by text f = record {
  space = space_leads text f;
  mark = mark_leads text f;
  block = λ inner e. leads_at text 47 (42 ∷ inner) f refl e;
}

-- ---- words and literals

pub no_opening : ℕ → Bool
no_opening c = not (is_opening c)

pub white_no_opening : list_all no_opening white_space ≡ true
unfolding unicode_ident no_opening
white_no_opening = refl

pub terminators_no_opening : list_all no_opening line_terminators ≡ true
unfolding unicode_ident no_opening
terminators_no_opening = refl

less_no_opening : is_opening 60 ≡ false
unfolding unicode_ident
less_no_opening = refl

minus_no_opening : is_opening 45 ≡ false
unfolding unicode_ident
minus_no_opening = refl

-- what a class of characters has not, where none of these has one of it
apart_by : (q : ℕ → Bool) (c : ℕ) → q c ≡ true → list_all (λ d. not (q d)) white_space ≡ true → list_all (λ d. not (q d)) line_terminators ≡ true
    → q 47 ≡ false → q 60 ≡ false → q 45 ≡ false → leads c ≡ false
unfolding leads is_space
apart_by q c e w t a b d = ⊎_elim
    (λ (h : leads c ≡ true). absurd (false≢true (sym (has h) ∙ e)))
    (λ (h : leads c ≡ false). h)
    (cases_Bool (leads c))
  where
    at : (n : ℕ) → q n ≡ false → (c == n) ≡ true → q c ≡ false
    at n f s = ap q (eqb-true c n s) ∙ f

    has : leads c ≡ true → q c ≡ false
    has h = ⊎_elim
        (λ (s : is_space c ≡ true). ⊎_elim
        (λ (x : is_white_space c ≡ true). not-true (q c) (among_passes (λ d. not (q d)) white_space c w x))
        (λ (x : is_line_terminator c ≡ true). not-true (q c) (among_passes (λ d. not (q d)) line_terminators c t x))
        (or_cases (is_white_space c) (is_line_terminator c) s))
        (λ (m : (c == 47 || (c == 60 || c == 45)) ≡ true). ⊎_elim
        (λ (x : (c == 47) ≡ true). at 47 a x)
        (λ (y : (c == 60 || c == 45) ≡ true). ⊎_elim
        (λ (x : (c == 60) ≡ true). at 60 b x)
        (λ (x : (c == 45) ≡ true). at 45 d x)
        (or_cases (c == 60) (c == 45) y))
        (or_cases (c == 47) (c == 60 || c == 45) m))
        (or_cases (is_space c) (c == 47 || (c == 60 || c == 45)) h)

opening_free : (text : List ℕ) → begins is_opening text ≡ true → begins leads text ≡ false
unfolding no_opening
opening_free [] e = refl
opening_free (c ∷ cs) e = apart_by is_opening c e white_no_opening terminators_no_opening slash_no_opening less_no_opening minus_no_opening

quote_free : (text : List ℕ) → begins is_quote text ≡ true → begins leads text ≡ false
quote_free [] e = refl
quote_free (c ∷ cs) e = apart_by is_quote c e refl refl refl refl refl

is_number_char : ℕ → Bool
is_number_char c = is_decimal c || c == 46

number_char : (c : ℕ) (cs : List ℕ) → is_number_start (c ∷ cs) ≡ true → is_number_char c ≡ true
unfolding is_number_char
number_char c cs e = ⊎_elim
    (λ (d : is_decimal c ≡ true). ap (λ b. b || c == 46) d)
    (λ (f : is_decimal c ≡ false).
    let g : (c == 46 && begins is_decimal cs) ≡ true = sym (ap (λ b. b || (c == 46 && begins is_decimal cs)) f) ∙ e in
    ap (λ b. b || c == 46) f ∙ (and_parts (c == 46) (begins is_decimal cs) g).0)
    (cases_Bool (is_decimal c))

number_free : (text : List ℕ) → is_number_start text ≡ true → begins leads text ≡ false
unfolding is_number_char
number_free [] e = refl
number_free (c ∷ cs) e = apart_by is_number_char c (number_char c cs e) refl refl refl refl refl

pub ordinary_free : (text : List ℕ) (x : SpecLexeme) (rest : List ℕ) → IsOrdinary text x rest → Free text
ordinary_free text x rest (inl h) = free_by text (opening_free text (word_begins text h.0 rest h.2))
ordinary_free text x rest (inr (inl h)) = free_by text (number_free text (numeral_starts h.0 h.1 text rest h.2))
ordinary_free text x rest (inr (inr h)) = free_by text (quote_free text (string_begins h.0 h.2 text rest h.3))

-- ---- punctuators

fronts : List ℕ → List ℕ → Bool
fronts [] s = true
fronts (m ∷ ms) [] = false
fronts (m ∷ ms) (c ∷ cs) = c == m && fronts ms cs

-- none is the front of a comment, or begins with white space
no_comment : List ℕ → ℕ → Bool
no_comment s kind = not (begins is_space s) && (not (fronts (spelled Slashes) s) && (not (fronts (spelled HtmlOpen) s) && (not (fronts (spelled HtmlClose) s) && not (fronts (47 ∷ 42 ∷ []) s))))

all_no_comment : holds_all no_comment punctuators ≡ true
unfolding holds_all no_comment fronts is_space
all_no_comment = refl

same_eq : (c m : ℕ) → c ≡ m → (c == m) ≡ true
same_eq c m e = let k : (m == m) ≡ true = grind (arith, nat_tests) in ap (λ x. x == m) e ∙ k

-- what has no blank stands before one
stands_front : (ms s r inner : List ℕ) → list_all (λ c. not (is_gap c)) ms ≡ true → Parted r → s ++ r ≡ ms ++ inner → fronts ms s ≡ true
unfolding fronts
stands_front [] s r inner n p e = refl
stands_front (m ∷ ms) [] [] inner n p e = absurd (let k : [] ≡ m ∷ (ms ++ inner) = e in cc)
stands_front (m ∷ ms) [] (c ∷ cs) inner n p e =
    let same = cons_head c m cs (ms ++ inner) e in
    let free : is_gap m ≡ false = not-true (is_gap m) (and_parts (not (is_gap m)) (list_all (λ c. not (is_gap c)) ms) n).0 in
    absurd (false≢true (sym free ∙ ap is_gap (sym same) ∙ p))
stands_front (m ∷ ms) (c ∷ cs) r inner n p e =
    let k = stands_front ms cs r inner (and_parts (not (is_gap m)) (list_all (λ c. not (is_gap c)) ms) n).1 p (cons_tail c m (cs ++ r) (ms ++ inner) e) in
    ap (λ b. b && fronts ms cs) (same_eq c m (cons_head c m (cs ++ r) (ms ++ inner) e)) ∙ k

begins_front : (q : ℕ → Bool) (s r : List ℕ) → s ≢ [] → begins q s ≡ false → begins q (s ++ r) ≡ false
begins_front q [] r n e = absurd (n refl)
begins_front q (c ∷ cs) r n e = e

record Clear (s : List ℕ) : Type 0 where
  space : begins is_space s ≡ false
  slashes : fronts (spelled Slashes) s ≡ false
  opening : fronts (spelled HtmlOpen) s ≡ false
  close : fronts (spelled HtmlClose) s ≡ false
  block : fronts (47 ∷ 42 ∷ []) s ≡ false

clear : (s : List ℕ) (k : TokenKind) → IsAmong punctuators s k → Clear s
unfolding no_comment
clear s k h =
    let a = among_holds no_comment punctuators s k all_no_comment h in
    let p = and_parts (not (begins is_space s)) _ a in
    let q = and_parts (not (fronts (spelled Slashes) s)) _ p.1 in
    let r = and_parts (not (fronts (spelled HtmlOpen) s)) _ q.1 in
    let t = and_parts (not (fronts (spelled HtmlClose) s)) _ r.1 in
    record {
      space = not-true (begins is_space s) p.0;
      slashes = not-true (fronts (spelled Slashes) s) q.0;
      opening = not-true (fronts (spelled HtmlOpen) s) r.0;
      close = not-true (fronts (spelled HtmlClose) s) t.0;
      block = not-true (fronts (47 ∷ 42 ∷ []) s) t.1;
    }

mark_apart : (s r : List ℕ) → Clear s → Parted r → (mark : LineMark) (inner : List ℕ) → s ++ r ≢ spelled mark ++ inner
mark_apart s r c p Slashes inner e = false≢true (sym c.slashes ∙ stands_front (spelled Slashes) s r inner refl p e)
mark_apart s r c p HtmlOpen inner e = false≢true (sym c.opening ∙ stands_front (spelled HtmlOpen) s r inner refl p e)
mark_apart s r c p HtmlClose inner e = false≢true (sym c.close ∙ stands_front (spelled HtmlClose) s r inner refl p e)

not_nil : (s : List ℕ) (k : TokenKind) → IsAmong punctuators s k → s ≢ []
not_nil s k h e = false≢true (sym (ap is_some_text e) ∙ some_text s k h)

parted_free : (s r : List ℕ) (k : TokenKind) → IsAmong punctuators s k → Parted r → Free (s ++ r)
parted_free s r k h p =
    let c = clear s k h in
    record {
      space = begins_front is_space s r (not_nil s k h) c.space;
      mark = mark_apart s r c p;
      block = λ inner e. false≢true (sym c.block ∙ stands_front (47 ∷ 42 ∷ []) s r inner refl p e);
    }

-- a punctuator before a blank
pub mark_free : (text : List ℕ) (x : SpecLexeme) (rest : List ℕ) → IsMark text x rest → Parted rest → Free text
mark_free text x rest h p = let g = h.1.1 in subst Free (sym g.2) (parted_free g.0 rest h.0 g.1 p)

-- `#`, a back quote and `}` before whatever comes
lone_leads : (c : ℕ) → is_lone_char c ≡ true → leads c ≡ false
unfolding is_lone_char
lone_leads c e = apart_by is_lone_char c e refl refl refl refl refl

pub lone_free : (text : List ℕ) (x : SpecLexeme) (rest : List ℕ) → IsMark text x rest → is_lone x.token.kind ≡ true → Free text
lone_free text x rest h n = let l = lone_first text x rest h n in free_by text (ap (begins leads) l.1 ∙ lone_leads l.0 l.2)

-- a slash that opens no comment
slash_block : (inner more : List ℕ) → Ends is_comment_mark inner → 47 ∷ inner ≢ 47 ∷ 42 ∷ more
slash_block inner more h e = let k = cons_tail 47 47 inner (42 ∷ more) e in let f : Ends is_comment_mark (42 ∷ more) = subst (Ends is_comment_mark) k h in false≢true (sym f)

slash_mark : (inner : List ℕ) → Ends is_comment_mark inner → (mark : LineMark) (more : List ℕ) → 47 ∷ inner ≢ spelled mark ++ more
slash_mark inner h Slashes more e =
    let k = cons_tail 47 47 inner (47 ∷ more) e in let f : Ends is_comment_mark (47 ∷ more) = subst (Ends is_comment_mark) k h in false≢true (sym f)
slash_mark inner h HtmlOpen more e = let k = cons_head 47 60 inner (33 ∷ 45 ∷ 45 ∷ more) e in omega (arith, k)
slash_mark inner h HtmlClose more e = let k = cons_head 47 45 inner (45 ∷ 62 ∷ more) e in omega (arith, k)

slash_by : (inner : List ℕ) → Ends is_comment_mark inner → Free (47 ∷ inner)
unfolding is_space
slash_by inner h = record { space = refl; mark = slash_mark inner h; block = λ more e. slash_block inner more h e }

pub slash_free : (text : List ℕ) → IsOpenSlash text → Free text
slash_free text h = subst Free (sym h.1) (slash_by h.0 h.2)
