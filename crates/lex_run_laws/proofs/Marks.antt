-- A number, a regular expression, a punctuator and what ends a piece of a template are read before other text as well.
use Rattle.std.proofs.Common.{◌≡◌, ℕ, ◌≤◌, inl, inr, ⊎_elim, Bool, true, false, not, ◌&&◌, ◌||◌, List, [], ◌∷◌, ◌++◌, length, append_assoc, refl, sym, ap, subst, ◌∙◌, arith}
use Rattle.std.specs.Prelude.{◌==◌}
use Rattle.std.specs.List.{list_all}
use Rattle.std.proofs.lemmas.Bool.{false≢true, eqb-true, and_parts, not-true, or_cases}
use Rattle.base_proofs.proofs.Lists.{cons_head, cons_tail}
use Rattle.unicode_ident.proofs.Computing.{unicode_ident}
use Rattle.base_token.specs.Kinds.{back_quote_kind, hash_kind, right_brace_kind}
use Rattle.base_token.specs.declared.token.TokenKind.{TokenKind}
use Rattle.base_token.specs.TokenViews.{token_kind_number}
use Rattle.lex_pieces.specs.Characters.{is_decimal_digit, is_name_part}
use Rattle.lex_pieces.specs.Punctuators.{IsAmong, IsNumberDot, Spelling, punctuators}
use Rattle.lex_pieces.specs.RegExps.{IsRegExp}
use Rattle.lex_literal.specs.declared.template.Ending.{Ending}
use Rattle.lex_literal.specs.declared.template.Ending.TheVariants.{BackQuote, Substitution}
use Rattle.lex_literal.specs.Escapes.{begins}
use Rattle.lex_literal.specs.Numbers.{BigInt, Meaning, Number, SpellsNumber, is_barred}
use Rattle.lex_literal.specs.Standing.{is_point}
use Rattle.lex_literal.specs.Templates.{Ends}
use Rattle.lex_literal.proofs.StandLemmas.{big_stands, number_stands}
use Rattle.lex_token.specs.Lexemes.{SpecLexeme, IsEnd, IsMark, IsNumber}
use Rattle.lex_run_laws.proofs.Words.{Parted, is_gap, parted_begins, parted_ends, same_own}

-- ---- numbers

barred_10 : is_barred 10 ≡ false
unfolding unicode_ident
barred_10 = refl

barred_32 : is_barred 32 ≡ false
unfolding unicode_ident
barred_32 = refl

spells_before : (m : Meaning) (own text rest r : List ℕ) → SpellsNumber m own text rest → Parted r → SpellsNumber m own (own ++ r) r
spells_before (Number v) own text rest r h p =
    number_stands v own r h.spelled (parted_ends is_barred r barred_10 barred_32 p, λ e. parted_begins is_point r refl refl p)
spells_before (BigInt radix digits) own text rest r h p = big_stands radix digits own r h.spelled (parted_ends is_barred r barred_10 barred_32 p)

pub number_before : (text own : List ℕ) (x : SpecLexeme) (rest r : List ℕ) → text ≡ own ++ rest → Parted r → IsNumber text x rest → IsNumber (own ++ r) x r
number_before text own x rest r e p h =
    let same = same_own text own h.1 rest e h.2.parts in
    (h.0, h.1, subst (λ (l : List ℕ). SpellsNumber h.0 h.1 (l ++ r) r) (sym same) (spells_before h.0 h.1 text rest r h.2 p), h.3)

-- ---- regular expressions

part_10 : is_name_part 10 ≡ false
unfolding unicode_ident
part_10 = refl

part_32 : is_name_part 32 ≡ false
unfolding unicode_ident
part_32 = refl

pub reg_exp_before : (text own body flags rest r : List ℕ) → text ≡ own ++ rest → Parted r → IsRegExp text body flags rest → IsRegExp (own ++ r) body flags r
reg_exp_before text own body flags rest r e p h =
    let g = h.1 in
    let line : (l : List ℕ) → 47 ∷ (body ++ 47 ∷ (flags ++ l)) ≡ (47 ∷ (body ++ 47 ∷ flags)) ++ l = λ l. ap (λ (t : List ℕ). 47 ∷ t) (sym (append_assoc body (47 ∷ flags) l)) in
    let whole : text ≡ (47 ∷ (body ++ 47 ∷ flags)) ++ rest = g.1 ∙ ap (λ (t : List ℕ). 47 ∷ (body ++ 47 ∷ t)) g.2.0 ∙ line rest in
    let same = same_own text own (47 ∷ (body ++ 47 ∷ flags)) rest e whole in
    let there : own ++ r ≡ 47 ∷ (body ++ 47 ∷ (flags ++ r)) = ap (λ (t : List ℕ). t ++ r) same ∙ sym (line r) in
    (h.0, (flags ++ r, there, (refl, g.2.1, parted_ends is_name_part r part_10 part_32 p)))

-- ---- what holds of each punctuator

unfoldable pub holds_all : (List ℕ → ℕ → Bool) → List Spelling → Bool
holds_all q [] = true
holds_all q (x ∷ xs) = q x.0 (token_kind_number x.1) && holds_all q xs

pub among_holds : (q : List ℕ → ℕ → Bool) (xs : List Spelling) (s : List ℕ) (k : TokenKind) → holds_all q xs ≡ true → IsAmong xs s k → q s (token_kind_number k) ≡ true
unfolding holds_all
among_holds q [] s k e h = absurd h
among_holds q (x ∷ xs) s k e (inl h) =
    let p = (and_parts (q x.0 (token_kind_number x.1)) (holds_all q xs) e).0 in
    subst (λ (j : TokenKind). q s (token_kind_number j) ≡ true) h.1 (subst (λ (t : List ℕ). q t (token_kind_number x.1) ≡ true) h.0 p)
among_holds q (x ∷ xs) s k e (inr h) = among_holds q xs s k (and_parts (q x.0 (token_kind_number x.1)) (holds_all q xs) e).1 h

is_solid : List ℕ → ℕ → Bool
is_solid s k = list_all (λ c. not (is_gap c)) s

all_solid : holds_all is_solid punctuators ≡ true
unfolding holds_all is_solid
all_solid = refl

abbrev pub is_some_text : List ℕ → Bool
is_some_text [] = false
is_some_text (c ∷ cs) = true

all_some : holds_all (λ s k. is_some_text s) punctuators ≡ true
unfolding holds_all
all_some = refl

pub solid : (s : List ℕ) (k : TokenKind) → IsAmong punctuators s k → list_all (λ c. not (is_gap c)) s ≡ true
unfolding is_solid
solid s k h = among_holds is_solid punctuators s k all_solid h

pub some_text : (s : List ℕ) (k : TokenKind) → IsAmong punctuators s k → is_some_text s ≡ true
some_text s k h = among_holds (λ t j. is_some_text t) punctuators s k all_some h

-- ---- a punctuator before a blank

-- what has no blank goes no further than what stands before one
no_further : (s other r more : List ℕ) → s ++ r ≡ other ++ more → Parted r → list_all (λ c. not (is_gap c)) other ≡ true → length other ≤ length s
no_further s [] r more e p n = omega arith
no_further [] (o ∷ os) [] more e p n = absurd (let k : [] ≡ o ∷ (os ++ more) = e in cc)
no_further [] (o ∷ os) (c ∷ cs) more e p n =
    let same : c ≡ o = let k : c ∷ cs ≡ o ∷ (os ++ more) = e in cc in
    let free : is_gap o ≡ false = not-true (is_gap o) (and_parts (not (is_gap o)) (list_all (λ c. not (is_gap c)) os) n).0 in
    absurd (false≢true (sym free ∙ ap is_gap (sym same) ∙ p))
no_further (c ∷ s) (o ∷ os) r more e p n =
    let tail : s ++ r ≡ os ++ more = let k : c ∷ (s ++ r) ≡ o ∷ (os ++ more) = e in cc in
    let k = no_further s os r more tail p (and_parts (not (is_gap o)) (list_all (λ c. not (is_gap c)) os) n).1 in
    omega (arith, k)

digit_gap : (d : ℕ) → is_gap d ≡ true → is_decimal_digit d ≡ true → ⊥
digit_gap d g e = ⊎_elim
    (λ (t : (d == 10) ≡ true). false≢true (sym (ap is_decimal_digit (eqb-true d 10 t)) ∙ e))
    (λ (t : (d == 32) ≡ true). false≢true (sym (ap is_decimal_digit (eqb-true d 32 t)) ∙ e))
    (or_cases (d == 10) (d == 32) g)

no_dot : (s rest r : List ℕ) (k : TokenKind) → IsAmong punctuators s k → (IsNumberDot (s ++ rest) → ⊥) → Parted r → IsNumberDot (s ++ r) → ⊥
no_dot [] rest r k h n p d = false≢true (some_text [] k h)
no_dot (c ∷ []) rest [] k h n p d = let e = cons_tail c 46 [] (d.0 ∷ d.1) d.2 in let f : [] ≡ d.0 ∷ d.1 = e in cc
no_dot (c ∷ []) rest (x ∷ xs) k h n p d =
    let e = cons_tail c 46 (x ∷ xs) (d.0 ∷ d.1) d.2 in
    digit_gap d.0 (ap is_gap (sym (cons_head x d.0 xs d.1 e)) ∙ p) d.3
no_dot (c ∷ c2 ∷ cs) rest r k h n p d =
    let e = cons_tail c 46 (c2 ∷ (cs ++ r)) (d.0 ∷ d.1) d.2 in
    let first = cons_head c 46 (c2 ∷ (cs ++ r)) (d.0 ∷ d.1) d.2 in
    let second = cons_head c2 d.0 (cs ++ r) d.1 e in
    n (d.0, cs ++ rest, ap (λ a. a ∷ c2 ∷ (cs ++ rest)) first ∙ ap (λ b. 46 ∷ b ∷ (cs ++ rest)) second, d.3)

pub mark_before : (text own : List ℕ) (x : SpecLexeme) (rest r : List ℕ) → text ≡ own ++ rest → Parted r → IsMark text x rest → IsMark (own ++ r) x r
mark_before text own x rest r e p h =
    let g = h.1.1 in
    let same = same_own text own g.0 rest e g.2 in
    let at : own ++ r ≡ g.0 ++ r = ap (λ (l : List ℕ). l ++ r) same in (
      h.0,
      (
        λ d. no_dot g.0 rest r h.0 g.1 (subst (λ (t : List ℕ). IsNumberDot t → ⊥) g.2 h.1.0) p (subst IsNumberDot at d),
        (g.0, g.1, at, λ other more k a f. no_further g.0 other r more (sym at ∙ f) p (solid other k a)),
      ),
      h.2,
    )

-- ---- `#`, a back quote and `}` before whatever comes

abbrev pub is_lone : ℕ → Bool
is_lone kind = kind == hash_kind || (kind == back_quote_kind || kind == right_brace_kind)

unfoldable pub is_lone_char : ℕ → Bool
is_lone_char c = c == 35 || (c == 96 || c == 125)

-- such a punctuator has one character, and no other begins so
single : List ℕ → ℕ → Bool
single [] kind = false
single (c ∷ []) kind = is_lone_char c || not (is_lone kind)
single (c ∷ d ∷ cs) kind = not (is_lone_char c) && not (is_lone kind)

all_single : holds_all single punctuators ≡ true
unfolding holds_all single is_lone_char
all_single = refl

record Lone (s : List ℕ) : Type 0 where
  first : ℕ
  whole : s ≡ first ∷ []
  char : is_lone_char first ≡ true

or_not : (a b : Bool) → (a || not b) ≡ true → b ≡ true → a ≡ true
or_not true b e f = refl
or_not false true e f = e
or_not false false e f = f

lone_by : (s : List ℕ) (kind : ℕ) → single s kind ≡ true → is_lone kind ≡ true → Lone s
unfolding single
lone_by [] kind e h = absurd (false≢true e)
lone_by (c ∷ []) kind e h = record { first = c; whole = refl; char = or_not (is_lone_char c) (is_lone kind) e h }
lone_by (c ∷ d ∷ cs) kind e h =
    absurd (false≢true (sym (not-true (is_lone kind) (and_parts (not (is_lone_char c)) (not (is_lone kind)) e).1) ∙ h))

short_by : (s : List ℕ) (kind c : ℕ) (r more : List ℕ) → single s kind ≡ true → is_lone_char c ≡ true → c ∷ r ≡ s ++ more → length s ≤ 1
unfolding single
short_by [] kind c r more e l f = omega arith
short_by (d ∷ []) kind c r more e l f = omega arith
short_by (d ∷ d2 ∷ ds) kind c r more e l f =
    let free = not-true (is_lone_char d) (and_parts (not (is_lone_char d)) (not (is_lone kind)) e).0 in
    absurd (false≢true (sym free ∙ ap is_lone_char (sym (cons_head c d r (d2 ∷ (ds ++ more)) f)) ∙ l))

-- what follows a punctuator that begins so
rest_by : (s : List ℕ) (kind c : ℕ) (r more : List ℕ) → single s kind ≡ true → is_lone_char c ≡ true → c ∷ r ≡ s ++ more → more ≡ r
unfolding single
rest_by [] kind c r more e l f = absurd (false≢true e)
rest_by (d ∷ []) kind c r more e l f = sym (cons_tail c d r more f)
rest_by (d ∷ d2 ∷ ds) kind c r more e l f =
    let free = not-true (is_lone_char d) (and_parts (not (is_lone_char d)) (not (is_lone kind)) e).0 in
    absurd (false≢true (sym free ∙ ap is_lone_char (sym (cons_head c d r (d2 ∷ (ds ++ more)) f)) ∙ l))

is_hash_char : ℕ → Bool
is_hash_char c = c == 35

hash_or_none : List ℕ → ℕ → Bool
hash_or_none s kind = kind == hash_kind || not (begins is_hash_char s)

all_hash : holds_all hash_or_none punctuators ≡ true
unfolding holds_all hash_or_none is_hash_char
all_hash = refl

begins_same : (q : ℕ → Bool) (s more : List ℕ) → is_some_text s ≡ true → begins q (s ++ more) ≡ begins q s
begins_same q [] more e = absurd (false≢true e)
begins_same q (c ∷ cs) more e = refl

-- A punctuator that begins with `#` is `#`.
pub hash_is : (text : List ℕ) (x : SpecLexeme) (rest inner : List ℕ) → IsMark text x rest → text ≡ 35 ∷ inner → ((x.token.kind == hash_kind) ≡ true) × (rest ≡ inner)
unfolding is_hash_char is_lone_char hash_or_none
hash_is text x rest inner h e =
    let g = h.1.1 in
    let all = among_holds single punctuators g.0 h.0 all_single g.1 in
    let one = among_holds hash_or_none punctuators g.0 h.0 all_hash g.1 in
    let first : begins is_hash_char g.0 ≡ true = sym (begins_same is_hash_char g.0 rest (some_text g.0 h.0 g.1)) ∙ ap (begins is_hash_char) (sym g.2 ∙ e) in (
      ap (λ (l : SpecLexeme). l.token.kind == hash_kind) h.2 ∙ or_not (token_kind_number h.0 == hash_kind) (begins is_hash_char g.0) one first,
      rest_by g.0 (token_kind_number h.0) 35 inner rest all refl (sym e ∙ g.2),
    )

lone_dot : (c : ℕ) (r : List ℕ) → is_lone_char c ≡ true → IsNumberDot (c ∷ r) → ⊥
unfolding is_lone_char
lone_dot c r l d = false≢true (ap is_lone_char (sym (cons_head c 46 r (d.0 ∷ d.1) d.2)) ∙ l)

-- such a punctuator begins with such a character
pub lone_first : (text : List ℕ) (x : SpecLexeme) (rest : List ℕ) → IsMark text x rest → is_lone x.token.kind ≡ true
    → (c : ℕ) × (text ≡ c ∷ rest) × (is_lone_char c ≡ true)
lone_first text x rest h n =
    let g = h.1.1 in
    let kind : is_lone (token_kind_number h.0) ≡ true = ap (λ (l : SpecLexeme). is_lone l.token.kind) (sym h.2) ∙ n in
    let l = lone_by g.0 (token_kind_number h.0) (among_holds single punctuators g.0 h.0 all_single g.1) kind in
    (l.first, g.2 ∙ ap (λ (t : List ℕ). t ++ rest) l.whole, l.char)

pub lone_before : (text own : List ℕ) (x : SpecLexeme) (rest r : List ℕ) → text ≡ own ++ rest → is_lone x.token.kind ≡ true → IsMark text x rest → IsMark (own ++ r) x r
lone_before text own x rest r e n h =
    let g = h.1.1 in
    let same = same_own text own g.0 rest e g.2 in
    let kind : is_lone (token_kind_number h.0) ≡ true = ap (λ (l : SpecLexeme). is_lone l.token.kind) (sym h.2) ∙ n in
    let l = lone_by g.0 (token_kind_number h.0) (among_holds single punctuators g.0 h.0 all_single g.1) kind in
    let at : own ++ r ≡ g.0 ++ r = ap (λ (l : List ℕ). l ++ r) same in
    let one : own ++ r ≡ l.first ∷ r = at ∙ ap (λ (t : List ℕ). t ++ r) l.whole in
    let size : 1 ≤ length g.0 = let k = ap length l.whole in omega (arith, k) in (
      h.0,
      (
        λ d. lone_dot l.first r l.char (subst IsNumberDot one d),
        (
          g.0,
          g.1,
          at,
          λ other more k a f.
              let s = short_by other (token_kind_number k) l.first r more (among_holds single punctuators other k all_single a) l.char (sym one ∙ f) in
              omega (arith, s, size),
        ),
      ),
      h.2,
    )

-- ---- what ends the characters of a template

ending_by : (ending : Ending) (text own rest r : List ℕ) → text ≡ own ++ rest → Ends ending text rest → Ends ending (own ++ r) r
ending_by BackQuote text own rest r e h = ap (λ (l : List ℕ). l ++ r) (same_own text own (96 ∷ []) rest e h)
ending_by Substitution text own rest r e h = ap (λ (l : List ℕ). l ++ r) (same_own text own (36 ∷ 123 ∷ []) rest e h)

pub end_before : (text own : List ℕ) (x : SpecLexeme) (rest r : List ℕ) → text ≡ own ++ rest → IsEnd text x rest → IsEnd (own ++ r) x r
end_before text own x rest r e h = (h.0, ending_by h.0 text own rest r e h.1, h.2)
