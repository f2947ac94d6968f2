-- How each sort of token begins.
use Rattle.std.proofs.Common.{◌≡◌, ℕ, ◌<◌, ◌≤◌, inl, inr, ⊎_elim, Bool, true, false, not, ◌&&◌, ◌||◌, List, [], ◌∷◌, ◌++◌, refl, sym, ap, subst, ◌∙◌, arith}
use Rattle.std.specs.Char.{is_ascii}
use Rattle.std.specs.Prelude.{◌==◌, nat_lt, Some, None}
use Rattle.std.proofs.Math.Bool.{or-true}
use Rattle.std.proofs.lemmas.Bool.{cases_Bool, false≢true, and_parts, eqb-true, not-true, and_left, and_right}
use Rattle.std.proofs.lemmas.Bool.Decides.{nat_tests}
use Rattle.unicode_ident.proofs.Computing.{unicode_ident}
use Rattle.base_token.specs.declared.token.TokenKind.{TokenKind}
use Rattle.lex_pieces.proofs.Tables.{same_from_table}
use Rattle.lex_pieces.specs.declared.bytes.ByteClass.{ByteClass}
use Rattle.lex_pieces.specs.declared.bytes.ByteClass.TheVariants.{WhiteSpace, LineTerminator, NameStart, Digit, Quote, BackQuote, Backslash, Punctuator, Other, NonAscii}
use Rattle.lex_pieces.specs.Bytes.{class_of}
use Rattle.lex_pieces.specs.Characters.{is_decimal_digit, is_name_start}
use Rattle.lex_pieces.specs.Names.{IsName, is_opening}
use Rattle.lex_pieces.specs.Punctuators.{Spelling, IsAmong, IsNumberDot, IsPunctuator, punctuators}
use Rattle.lex_pieces.specs.RegExps.{IsRegExp}
use Rattle.lex_literal.specs.Escapes.{begins, is_decimal}
use Rattle.lex_literal.specs.Numbers.{is_number_start}
use Rattle.lex_literal.specs.Strings.{SpellsString, is_quote}
use Rattle.lex_token.specs.declared.goal.LexicalGoal.{LexicalGoal}
use Rattle.lex_token.specs.declared.sort.Sort.{Sort}
use Rattle.lex_token.specs.declared.sort.Sort.TheVariants as s
use Rattle.lex_token.specs.Marks.{is_mark}
use Rattle.lex_token.specs.Sorts.{begins_mark, begins_ordinary, opens_regexp, class_sort, is_slash, sort_by, sort}

-- ---- characters of ASCII

never : ℕ → Bool
never c = false

digit_and_word : ℕ → Bool
digit_and_word c = is_decimal c && is_opening c

digits_apart : (c : ℕ) → c < 256 → digit_and_word c ≡ never c
unfolding unicode_ident digit_and_word never
digits_apart c h = same_from_table digit_and_word never false c h refl

-- both definitions of a decimal digit are one
pub one_digit : (c : ℕ) → is_decimal_digit c ≡ is_decimal c
one_digit c = grind (arith, nat_tests)

pub digit_no_opening : (c : ℕ) → is_decimal c ≡ true → is_opening c ≡ false
unfolding digit_and_word never
digit_no_opening c e =
    let d : is_decimal_digit c ≡ true = one_digit c ∙ e in
    let small : c < 256 = grind (arith, nat_tests) in
    let k = digits_apart c small in
    sym (ap (λ b. b && is_opening c) e) ∙ k

dot_no_opening : is_opening 46 ≡ false
unfolding unicode_ident
dot_no_opening = refl

pub slash_no_opening : is_opening 47 ≡ false
unfolding unicode_ident
slash_no_opening = refl

double_quote_apart : is_opening 34 ≡ false
unfolding unicode_ident
double_quote_apart = refl

single_quote_apart : is_opening 39 ≡ false
unfolding unicode_ident
single_quote_apart = refl

-- a quote begins neither a word nor a number
pub quote_no_opening : (c : ℕ) → is_quote c ≡ true → is_opening c ≡ false
quote_no_opening c e = ⊎_elim
    (λ (t : (c == 34) ≡ true). rw (eqb-true c 34 t) double_quote_apart)
    (λ (t : (c == 34) ≡ false). let k : (c == 39) ≡ true = sym (ap (λ b. b || (c == 39)) t) ∙ e in rw (eqb-true c 39 k) single_quote_apart)
    (cases_Bool (c == 34))

quote_no_number : (c : ℕ) (cs : List ℕ) → is_quote c ≡ true → is_number_start (c ∷ cs) ≡ false
quote_no_number c cs e = ⊎_elim
    (λ (t : (c == 34) ≡ true). rw (eqb-true c 34 t) refl)
    (λ (t : (c == 34) ≡ false). let k : (c == 39) ≡ true = sym (ap (λ b. b || (c == 39)) t) ∙ e in rw (eqb-true c 39 k) refl)
    (cases_Bool (c == 34))

-- ---- the sort by how a text begins

pub word_sort : (goal : LexicalGoal) (c : ℕ) (cs : List ℕ) → is_opening c ≡ true → sort_by goal c cs ≡ s.Word
unfolding sort_by
word_sort goal c cs e = rw e refl

number_no_opening : (c : ℕ) (cs : List ℕ) → is_number_start (c ∷ cs) ≡ true → is_opening c ≡ false
number_no_opening c cs e = ⊎_elim
    (λ (t : is_decimal c ≡ true). digit_no_opening c t)
    (λ (t : is_decimal c ≡ false).
    let d : (c == 46 && begins is_decimal cs) ≡ true = sym (ap (λ b. b || (c == 46 && begins is_decimal cs)) t) ∙ e in
    rw (eqb-true c 46 (and_parts (c == 46) (begins is_decimal cs) d).0) dot_no_opening)
    (cases_Bool (is_decimal c))

pub number_sort : (goal : LexicalGoal) (c : ℕ) (cs : List ℕ) → is_number_start (c ∷ cs) ≡ true → sort_by goal c cs ≡ s.Number
unfolding sort_by
number_sort goal c cs e = rw (number_no_opening c cs e) (rw e refl)

pub quoted_sort : (goal : LexicalGoal) (c : ℕ) (cs : List ℕ) → is_quote c ≡ true → sort_by goal c cs ≡ s.Str
unfolding sort_by
quoted_sort goal c cs e = rw (quote_no_opening c e) (rw (quote_no_number c cs e) (rw e refl))

pub slash_sort : (goal : LexicalGoal) (cs : List ℕ) → opens_regexp goal ≡ true → sort_by goal 47 cs ≡ s.RegExp
unfolding sort_by
slash_sort goal cs e = rw slash_no_opening (rw e refl)

record NoOther (c : ℕ) : Type 0 where
  opening : is_opening c ≡ false
  digit : is_decimal c ≡ false
  quote : is_quote c ≡ false

no_other : (c : ℕ) → begins_mark c ≡ true → NoOther c
no_other c e =
    let p = and_parts (not (is_opening c)) (not (is_decimal c) && not (is_quote c)) e in
    let q = and_parts (not (is_decimal c)) (not (is_quote c)) p.1 in
    record { opening = not-true (is_opening c) p.0; digit = not-true (is_decimal c) q.0; quote = not-true (is_quote c) q.1 }

pub mark_sort : (goal : LexicalGoal) (c : ℕ) (cs : List ℕ) → begins_mark c ≡ true → (c == 46 && begins is_decimal cs) ≡ false
    → (opens_regexp goal && is_slash c) ≡ false → sort_by goal c cs ≡ s.Punctuator
unfolding sort_by
mark_sort goal c cs e d g =
    let n = no_other c e in
    rw n.opening (rw n.digit (rw d (rw n.quote (rw g refl))))

pub dot_sort : (goal : LexicalGoal) (c : ℕ) (cs : List ℕ) → (c == 46 && begins is_decimal cs) ≡ true → sort_by goal c cs ≡ s.Number
dot_sort goal c cs e = number_sort goal c cs (rw e (or-true (is_decimal c)))

pub pattern_sort : (goal : LexicalGoal) (c : ℕ) (cs : List ℕ) → (opens_regexp goal && is_slash c) ≡ true → sort_by goal c cs ≡ s.RegExp
pattern_sort goal c cs e =
    let p = and_parts (opens_regexp goal) (is_slash c) e in
    rw (eqb-true c 47 p.1) (slash_sort goal cs p.0)

-- past ASCII nothing but a word begins
pub word_past_ascii : (goal : LexicalGoal) (c : ℕ) (cs : List ℕ) → is_name_start c ≡ true → sort_by goal c cs ≡ s.Word
word_past_ascii goal c cs e = word_sort goal c cs (ap (λ b. b || (c == 92)) e)

pub nothing_past_ascii : (goal : LexicalGoal) (c : ℕ) (cs : List ℕ) → 128 ≤ c → is_name_start c ≡ false → sort_by goal c cs ≡ s.Punctuator
nothing_past_ascii goal c cs h e =
    let n92 : (c == 92) ≡ false = grind (arith, nat_tests) in
    let n34 : (c == 34) ≡ false = grind (arith, nat_tests) in
    let n39 : (c == 39) ≡ false = grind (arith, nat_tests) in
    let n46 : (c == 46) ≡ false = grind (arith, nat_tests) in
    let n47 : (c == 47) ≡ false = grind (arith, nat_tests) in
    let d : is_decimal c ≡ false = sym (one_digit c) ∙ (let k : is_decimal_digit c ≡ false = grind (arith, nat_tests) in k) in
    let o : is_opening c ≡ false = rw e n92 in
    let q : is_quote c ≡ false = rw n34 n39 in
    let m : begins_mark c ≡ true = rw o (rw d (rw q refl)) in
    mark_sort goal c cs m (and_left (c == 46) (begins is_decimal cs) n46) (and_right (opens_regexp goal) (is_slash c) n47)

-- ---- how the sorts begin

pub word_begins : (text name rest : List ℕ) → IsName text name rest → begins is_opening text ≡ true
word_begins text [] rest h = absurd (h.0 refl)
word_begins text (c ∷ cs) rest h = ⊎_elim
    (λ e. rw e (ap (λ b. b || (c == 92)) h.1.1.0))
    (λ e. rw e.1.1 (or-true (is_name_start 92)))
    h.1.1.1

pub string_begins : (units : List ℕ) (legacy : Bool) (text rest : List ℕ) → SpellsString units legacy text rest → begins is_quote text ≡ true
string_begins units legacy text rest h = rw h.1.3 h.1.2

pub pattern_begins : (text body flags rest : List ℕ) → IsRegExp text body flags rest → (more : List ℕ) × (text ≡ 47 ∷ more)
pattern_begins text body flags rest h = (body ++ 47 ∷ h.1.0, h.1.1)

all_begin : (ℕ → Bool) → List Spelling → Bool
all_begin p [] = true
all_begin p (x ∷ xs) = begins p x.0 && all_begin p xs

among_begins : (p : ℕ → Bool) (xs : List Spelling) (s : List ℕ) (k : TokenKind) → all_begin p xs ≡ true → IsAmong xs s k → begins p s ≡ true
unfolding all_begin
among_begins p [] s k e h = absurd h
among_begins p (x ∷ xs) s k e (inl h) = sym (ap (begins p) h.0) ∙ (and_parts (begins p x.0) (all_begin p xs) e).0
among_begins p (x ∷ xs) s k e (inr h) = among_begins p xs s k (and_parts (begins p x.0) (all_begin p xs) e).1 h

marks_begin : all_begin begins_mark punctuators ≡ true
unfolding all_begin unicode_ident
marks_begin = refl

begins_append : (p : ℕ → Bool) (s rest : List ℕ) → begins p s ≡ true → begins p (s ++ rest) ≡ true
begins_append p [] rest e = absurd (false≢true e)
begins_append p (c ∷ cs) rest e = e

pub mark_begins : (text : List ℕ) (kind : TokenKind) (rest : List ℕ) → IsPunctuator text kind rest → begins begins_mark text ≡ true
mark_begins text kind rest h = rw h.1.2 (begins_append begins_mark h.1.0 rest (among_begins begins_mark punctuators h.1.0 kind marks_begin h.1.1))

unfoldable pub all_kinds : (TokenKind → Bool) → List Spelling → Bool
all_kinds p [] = true
all_kinds p (x ∷ xs) = p x.1 && all_kinds p xs

pub among_kinds : (p : TokenKind → Bool) (xs : List Spelling) (s : List ℕ) (k : TokenKind) → all_kinds p xs ≡ true → IsAmong xs s k → p k ≡ true
unfolding all_kinds
among_kinds p [] s k e h = absurd h
among_kinds p (x ∷ xs) s k e (inl h) = sym (ap p h.1) ∙ (and_parts (p x.1) (all_kinds p xs) e).0
among_kinds p (x ∷ xs) s k e (inr h) = among_kinds p xs s k (and_parts (p x.1) (all_kinds p xs) e).1 h

marks_all : all_kinds is_mark punctuators ≡ true
unfolding all_kinds
marks_all = refl

pub mark_is : (text : List ℕ) (kind : TokenKind) (rest : List ℕ) → IsPunctuator text kind rest → is_mark kind ≡ true
mark_is text kind rest h = among_kinds is_mark punctuators h.1.0 kind marks_all h.1.1

-- a dot before a digit is no punctuator
dot_digit : (c : ℕ) (cs : List ℕ) → (IsNumberDot (c ∷ cs) → ⊥) → (c == 46 && begins is_decimal cs) ≡ false
dot_digit c [] h = grind (arith, nat_tests)
dot_digit c (d ∷ ds) h = ⊎_elim
    (λ (t : (c == 46 && is_decimal d) ≡ true).
    let p = and_parts (c == 46) (is_decimal d) t in
    absurd (h (d, ds, ap (λ (x : ℕ). x ∷ d ∷ ds) (eqb-true c 46 p.0), one_digit d ∙ p.1)))
    (λ (t : (c == 46 && is_decimal d) ≡ false). t)
    (cases_Bool (c == 46 && is_decimal d))

-- ---- the sort of each

pub sort_word : (goal : LexicalGoal) (text : List ℕ) → begins is_opening text ≡ true → sort goal text ≡ s.Word
sort_word goal [] e = absurd (false≢true e)
sort_word goal (c ∷ cs) e = word_sort goal c cs e

pub sort_number : (goal : LexicalGoal) (text : List ℕ) → is_number_start text ≡ true → sort goal text ≡ s.Number
sort_number goal [] e = absurd (false≢true e)
sort_number goal (c ∷ cs) e = number_sort goal c cs e

pub sort_string : (goal : LexicalGoal) (text : List ℕ) → begins is_quote text ≡ true → sort goal text ≡ s.Str
sort_string goal [] e = absurd (false≢true e)
sort_string goal (c ∷ cs) e = quoted_sort goal c cs e

pub sort_mark : (goal : LexicalGoal) (text : List ℕ) (kind : TokenKind) (rest : List ℕ) → (opens_regexp goal && begins is_slash text) ≡ false
    → IsPunctuator text kind rest → sort goal text ≡ s.Punctuator
sort_mark goal [] kind rest g h = refl
sort_mark goal (c ∷ cs) kind rest g h = mark_sort goal c cs (mark_begins (c ∷ cs) kind rest h) (dot_digit c cs h.0) g

-- ---- and back

-- which conditions hold of a sort
abbrev pub Holds : LexicalGoal → ℕ → List ℕ → Sort → Type 0
Holds goal c cs s.Word = is_opening c ≡ true
Holds goal c cs s.Number = is_number_start (c ∷ cs) ≡ true
Holds goal c cs s.Str = is_quote c ≡ true
Holds goal c cs s.RegExp = (opens_regexp goal && is_slash c) ≡ true
Holds goal c cs s.Punctuator = (begins_ordinary (c ∷ cs) ≡ false) × ((opens_regexp goal && is_slash c) ≡ false)

all_false : (a b d : Bool) → a ≡ false → b ≡ false → d ≡ false → (a || (b || d)) ≡ false
all_false a b d e f g = rw e (rw f g)

pub holds : (goal : LexicalGoal) (c : ℕ) (cs : List ℕ) → Holds goal c cs (sort_by goal c cs)
unfolding sort_by
holds goal c cs = ⊎_elim
    (λ (a : is_opening c ≡ true). rw a a)
    (λ (a : is_opening c ≡ false). ⊎_elim
    (λ (b : is_number_start (c ∷ cs) ≡ true). rw a (rw b b))
    (λ (b : is_number_start (c ∷ cs) ≡ false). ⊎_elim
    (λ (d : is_quote c ≡ true). rw a (rw b (rw d d)))
    (λ (d : is_quote c ≡ false). ⊎_elim
    (λ (f : (opens_regexp goal && is_slash c) ≡ true). rw a (rw b (rw d (rw f f))))
    (λ (f : (opens_regexp goal && is_slash c) ≡ false). rw a (rw b (rw d (rw f (all_false (is_opening c) (is_number_start (c ∷ cs)) (is_quote c) a b d, f)))))
    (cases_Bool (opens_regexp goal && is_slash c)))
    (cases_Bool (is_quote c)))
    (cases_Bool (is_number_start (c ∷ cs))))
    (cases_Bool (is_opening c))

-- ---- the class of a byte

abbrev pub class_opens : ByteClass → Bool
class_opens NameStart = true
class_opens Backslash = true
class_opens _ = false

abbrev pub class_digit : ByteClass → Bool
class_digit Digit = true
class_digit _ = false

abbrev pub class_quote : ByteClass → Bool
class_quote Quote = true
class_quote _ = false

ascii : (ℕ → Bool) → ℕ → Bool
ascii p c = nat_lt c 128 && p c

opens_table : (c : ℕ) → c < 256 → class_opens (class_of c) ≡ ascii is_opening c
unfolding class_of unicode_ident ascii
opens_table c h = same_from_table (λ b. class_opens (class_of b)) (ascii is_opening) false c h refl

digit_table : (c : ℕ) → c < 256 → class_digit (class_of c) ≡ ascii is_decimal c
unfolding class_of unicode_ident ascii
digit_table c h = same_from_table (λ b. class_digit (class_of b)) (ascii is_decimal) false c h refl

quote_table : (c : ℕ) → c < 256 → class_quote (class_of c) ≡ ascii is_quote c
unfolding class_of unicode_ident ascii
quote_table c h = same_from_table (λ b. class_quote (class_of b)) (ascii is_quote) false c h refl

below : (p : ℕ → Bool) (k : Bool) (c : ℕ) → c < 128 → k ≡ ascii p c → p c ≡ k
unfolding ascii
below p k c h e = let t : nat_lt c 128 ≡ true = grind (arith, nat_tests) in sym (e ∙ ap (λ b. b && p c) t)

pub opens_by : (c : ℕ) → c < 128 → is_opening c ≡ class_opens (class_of c)
opens_by c h = below is_opening (class_opens (class_of c)) c h (opens_table c (omega arith))

pub digit_by : (c : ℕ) → c < 128 → is_decimal c ≡ class_digit (class_of c)
digit_by c h = below is_decimal (class_digit (class_of c)) c h (digit_table c (omega arith))

pub quote_by : (c : ℕ) → c < 128 → is_quote c ≡ class_quote (class_of c)
quote_by c h = below is_quote (class_quote (class_of c)) c h (quote_table c (omega arith))

same_sort : (k o : Sort) → Some k ≡ Some o → k ≡ o
same_sort k o e = cc

no_sort : (o : Sort) → None ≡ Some o → ⊥
no_sort o e = cc

some_sort : (o : Sort) → Some o ≡ None → ⊥
some_sort o e = cc

number_by : (goal : LexicalGoal) (c : ℕ) (cs : List ℕ) → is_decimal c ≡ true → sort_by goal c cs ≡ s.Number
number_by goal c cs e = number_sort goal c cs (ap (λ b. b || (c == 46 && begins is_decimal cs)) e)

class_by : (goal : LexicalGoal) (c : ℕ) (cs : List ℕ) (o : Sort) (k : ByteClass) → c < 128 → class_of c ≡ k → class_sort k ≡ Some o → sort_by goal c cs ≡ o
class_by goal c cs o NameStart h e f = word_sort goal c cs (opens_by c h ∙ ap class_opens e) ∙ same_sort s.Word o f
class_by goal c cs o Backslash h e f = word_sort goal c cs (opens_by c h ∙ ap class_opens e) ∙ same_sort s.Word o f
class_by goal c cs o Digit h e f = number_by goal c cs (digit_by c h ∙ ap class_digit e) ∙ same_sort s.Number o f
class_by goal c cs o Quote h e f = quoted_sort goal c cs (quote_by c h ∙ ap class_quote e) ∙ same_sort s.Str o f
class_by goal c cs o WhiteSpace h e f = absurd (no_sort o f)
class_by goal c cs o LineTerminator h e f = absurd (no_sort o f)
class_by goal c cs o BackQuote h e f = absurd (no_sort o f)
class_by goal c cs o Punctuator h e f = absurd (no_sort o f)
class_by goal c cs o Other h e f = absurd (no_sort o f)
class_by goal c cs o NonAscii h e f = absurd (no_sort o f)

pub sort_by_class : (goal : LexicalGoal) (c : ℕ) (cs : List ℕ) (o : Sort) → c < 128 → class_sort (class_of c) ≡ Some o → sort_by goal c cs ≡ o
sort_by_class goal c cs o h f = class_by goal c cs o (class_of c) h refl f

none_of : (c : ℕ) (k : ByteClass) → c < 128 → class_of c ≡ k → class_opens k ≡ false → class_digit k ≡ false → class_quote k ≡ false → begins_mark c ≡ true
none_of c k h e a b d = rw (opens_by c h ∙ ap class_opens e ∙ a) (rw (digit_by c h ∙ ap class_digit e ∙ b) (rw (quote_by c h ∙ ap class_quote e ∙ d) refl))

mark_class : (c : ℕ) (k : ByteClass) → c < 128 → class_of c ≡ k → class_sort k ≡ None → begins_mark c ≡ true
mark_class c NameStart h e f = absurd (some_sort s.Word f)
mark_class c Backslash h e f = absurd (some_sort s.Word f)
mark_class c Digit h e f = absurd (some_sort s.Number f)
mark_class c Quote h e f = absurd (some_sort s.Str f)
mark_class c WhiteSpace h e f = none_of c WhiteSpace h e refl refl refl
mark_class c LineTerminator h e f = none_of c LineTerminator h e refl refl refl
mark_class c BackQuote h e f = none_of c BackQuote h e refl refl refl
mark_class c Punctuator h e f = none_of c Punctuator h e refl refl refl
mark_class c Other h e f = none_of c Other h e refl refl refl
mark_class c NonAscii h e f = none_of c NonAscii h e refl refl refl

pub mark_by_class : (c : ℕ) → c < 128 → class_sort (class_of c) ≡ None → begins_mark c ≡ true
mark_by_class c h f = mark_class c (class_of c) h refl f

pub ascii_below : (c : ℕ) → is_ascii c ≡ true → c < 128
ascii_below c e = grind (arith, nat_tests)

-- ---- how a text of a sort begins

held : (goal : LexicalGoal) (c : ℕ) (cs : List ℕ) (k : Sort) → sort_by goal c cs ≡ k → Holds goal c cs k
held goal c cs k e = subst (Holds goal c cs) e (holds goal c cs)

pub begins_word : (goal : LexicalGoal) (text : List ℕ) (c : ℕ) (cs : List ℕ) → text ≡ c ∷ cs → sort_by goal c cs ≡ s.Word → begins is_opening text ≡ true
begins_word goal text c cs cut e = ap (begins is_opening) cut ∙ held goal c cs s.Word e

pub begins_number : (goal : LexicalGoal) (text : List ℕ) (c : ℕ) (cs : List ℕ) → text ≡ c ∷ cs → sort_by goal c cs ≡ s.Number → is_number_start text ≡ true
begins_number goal text c cs cut e = ap is_number_start cut ∙ held goal c cs s.Number e

pub begins_string : (goal : LexicalGoal) (text : List ℕ) (c : ℕ) (cs : List ℕ) → text ≡ c ∷ cs → sort_by goal c cs ≡ s.Str → begins is_quote text ≡ true
begins_string goal text c cs cut e = ap (begins is_quote) cut ∙ held goal c cs s.Str e
