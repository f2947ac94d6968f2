-- Punctuators and operators are tokens of their categories (ECMA-262, 12.8).
use Rattle.std.proofs.Common.{◌≡◌, ℕ, Bool, true, false, List, [], ◌∷◌, ◌++◌, Some, refl, sym, ap, ◌∙◌}
use Rattle.std.specs.Prelude.{◌==◌, codes}
use Rattle.std.proofs.lemmas.Bool.{false≢true, eq-eqb, or_parts}
use Rattle.base_proofs.proofs.Lists.{cons_tail}
use Rattle.base_token.specs.declared.token.TokenKind.{TokenKind}
use Rattle.base_token.specs.declared.token.TokenKind.TheVariants as t
use Rattle.base_token.specs.declared.operator.BinOpToken.TheVariants as b
use Rattle.base_token.specs.declared.operator.AssignOp.TheVariants as a
use Rattle.lex_pieces.specs.Characters.{is_decimal_digit, is_among}
use Rattle.lex_pieces.specs.Runs.{Ends}
use Rattle.lex_pieces.specs.Punctuators.{punctuators as spellings, IsNumberDot}
use Rattle.lex_literal.specs.Escapes.{is_decimal}
use Rattle.lex_literal.specs.Standing.{is_point}
use Rattle.lex_token.proofs.SortLemmas.{one_digit}
use Rattle.lex_token.specs.declared.goal.LexicalGoal.TheVariants.{Div}
use Rattle.again_laws.proofs.tokens.Ascii.{is_ascii}
use Rattle.again_laws.proofs.tokens.Punctuators.{look, stays, all_stay}
use Rattle.again_laws.specs.Tiling.Categories.{Plus, Incr, Minus, Decr, Bang, Slash, Less, Dot, Dots, Operator, Arrow, Hash, Closed}
use Rattle.again_laws.specs.Tiling.Following.{Quiet, Arrowless, is_wordy, is_dotty, is_joining, never, not_hash}
use Rattle.again_laws.specs.Tiling.Goes.{Fits}
use Rattle.again_laws.proofs.tiling.Marks.{not_first, quiet_plain, is_lead, mark_fits, no_dot, plain_mark, never_ends, closed_mark}
use Rattle.again_laws.proofs.tiling.Wordless.{wordless}

pub left_paren : Fits Div (codes "(") Closed
unfolding look stays all_stay
left_paren = closed_mark 40 t.LParen refl refl refl refl refl refl refl (wordless 40 refl)

pub right_paren : Fits Div (codes ")") Closed
unfolding look stays all_stay
right_paren = closed_mark 41 t.RParen refl refl refl refl refl refl refl (wordless 41 refl)

pub left_brace : Fits Div (codes "{") Closed
unfolding look stays all_stay
left_brace = closed_mark 123 t.LBrace refl refl refl refl refl refl refl (wordless 123 refl)

pub left_bracket : Fits Div (codes "[") Closed
unfolding look stays all_stay
left_bracket = closed_mark 91 t.LBracket refl refl refl refl refl refl refl (wordless 91 refl)

pub right_bracket : Fits Div (codes "]") Closed
unfolding look stays all_stay
right_bracket = closed_mark 93 t.RBracket refl refl refl refl refl refl refl (wordless 93 refl)

pub comma_mark : Fits Div (codes ",") Closed
unfolding look stays all_stay
comma_mark = closed_mark 44 t.Comma refl refl refl refl refl refl refl (wordless 44 refl)

pub tilde_mark : Fits Div (codes "~") Closed
unfolding look stays all_stay
tilde_mark = closed_mark 126 t.Tilde refl refl refl refl refl refl refl (wordless 126 refl)

pub hash_mark : Fits Div (codes "#") Hash
unfolding look stays all_stay
hash_mark = plain_mark never 35 [] t.Hash Hash refl refl refl refl refl (λ rest h. never_ends rest) refl

-- ---- operators

-- an operator that begins with none of the characters of trivia
pub operator_mark : (c : ℕ) (cs : List ℕ) (kind : TokenKind) → is_ascii (c ∷ cs) ≡ true → look spellings (c ∷ cs) ≡ Some kind → all_stay is_joining (c ∷ cs) spellings ≡ true → is_lead c ≡ false → (c == 46) ≡ false
    → is_dotty c ≡ false → not_hash c ≡ true → is_wordy c ≡ false → Fits Div (c ∷ cs) Operator
operator_mark c cs kind asc e a l p d o w = plain_mark is_joining c cs kind Operator asc e a l p (λ rest h. h) (record { first = c; others = cs; whole = refl; one = o; two = d; three = w })

-- one that begins with one of them
pub led_mark : (c : ℕ) (cs : List ℕ) (kind : TokenKind) → is_ascii (c ∷ cs) ≡ true → look spellings (c ∷ cs) ≡ Some kind → all_stay is_joining (c ∷ cs) spellings ≡ true → (c == 46) ≡ false
    → is_dotty c ≡ false → not_hash c ≡ true → is_wordy c ≡ false → ((rest : List ℕ) → Quiet ((c ∷ cs) ++ rest) × Arrowless Operator ((c ∷ cs) ++ rest)) → Fits Div (c ∷ cs) Operator
led_mark c cs kind asc e a p d o w q =
    mark_fits is_joining (c ∷ cs) kind Operator asc e a (λ rest h. h) (no_dot c (cs ++ []) p) (λ rest h. no_dot c (cs ++ rest) p)
    (record { first = c; others = cs; whole = refl; one = o; two = d; three = w }) (λ rest h. q rest)

pub times_mark : Fits Div (codes "*") Operator
unfolding look stays all_stay
times_mark = operator_mark 42 [] (t.BinOp b.Mul) refl refl refl refl refl refl refl (wordless 42 refl)

pub power_mark : Fits Div (codes "**") Operator
unfolding look stays all_stay
power_mark = operator_mark 42 (42 ∷ []) (t.BinOp b.Exp) refl refl refl refl refl refl refl (wordless 42 refl)

pub equal_mark : Fits Div (codes "==") Operator
unfolding look stays all_stay
equal_mark = operator_mark 61 (61 ∷ []) (t.BinOp b.EqEq) refl refl refl refl refl refl refl (wordless 61 refl)

pub greater_mark : Fits Div (codes ">") Operator
unfolding look stays all_stay
greater_mark = operator_mark 62 [] (t.BinOp b.Gt) refl refl refl refl refl refl refl (wordless 62 refl)

pub shift_left_mark : Fits Div (codes "<<") Operator
unfolding look stays all_stay
shift_left_mark = led_mark 60 (60 ∷ []) (t.BinOp b.LShift) refl refl refl refl refl refl (wordless 60 refl) (λ rest. (record { white = refl; line = refl; slashes = λ inner. not_first 60 47 (60 ∷ rest) (47 ∷ inner) refl; block = λ inner. not_first 60 47 (60 ∷ rest) (42 ∷ inner) refl; html = λ inner e. not_first 60 33 rest (45 ∷ 45 ∷ inner) refl (cons_tail 60 60 (60 ∷ rest) (33 ∷ 45 ∷ 45 ∷ inner) e) }, λ inner. not_first 60 45 (60 ∷ rest) (45 ∷ 62 ∷ inner) refl))

pub arrow_mark : Fits Div (codes "=>") Arrow
unfolding look stays all_stay
arrow_mark = plain_mark never 61 (62 ∷ []) t.Arrow Arrow refl refl refl refl refl (λ rest h. never_ends rest) (record { first = 61; others = 62 ∷ []; whole = refl; one = refl; two = refl; three = (wordless 61 refl) })

bang_stay : ℕ → Bool
bang_stay c = is_among (61 ∷ []) c

pub bang_mark : Fits Div (codes "!") Bang
unfolding look stays all_stay bang_stay
bang_mark = plain_mark bang_stay 33 [] t.Bang Bang refl refl refl refl refl (λ rest h. h) refl

pub plus_mark : Fits Div (codes "+") Plus
unfolding look stays all_stay
plus_mark = plain_mark (is_among (43 ∷ 61 ∷ [])) 43 [] (t.BinOp b.Add) Plus refl refl refl refl refl (λ rest h. h) refl

pub increment_mark : Fits Div (codes "++") Incr
unfolding look stays all_stay
increment_mark = plain_mark never 43 (43 ∷ []) t.PlusPlus Incr refl refl refl refl refl (λ rest h. never_ends rest) refl

second_not : (c d : ℕ) (rest inner : List ℕ) → (c == d) ≡ false → Ends (is_among (d ∷ 61 ∷ [])) rest → c ∷ rest ≡ c ∷ d ∷ inner → ⊥
second_not c d [] inner f h e = let k : [] ≡ d ∷ inner = cc in cc
second_not c d (x ∷ xs) inner f h e = let k : x ≡ d = cc in false≢true (sym (or_parts (x == d) _ h).0 ∙ eq-eqb x d k)

pub minus_mark : Fits Div (codes "-") Minus
unfolding look stays all_stay
minus_mark = mark_fits (is_among (45 ∷ 61 ∷ [])) (45 ∷ []) (t.BinOp b.Sub) Minus refl refl refl (λ rest h. h) (no_dot 45 [] refl) (λ rest h. no_dot 45 rest refl) refl
    (λ rest h. (record { white = refl; line = refl; slashes = λ inner. not_first 45 47 rest (47 ∷ inner) refl; block = λ inner. not_first 45 47 rest (42 ∷ inner) refl; html = λ inner. not_first 45 60 rest (33 ∷ 45 ∷ 45 ∷ inner) refl }, λ inner e. one_minus rest (62 ∷ inner) h e))
  where
    one_minus : (rest inner : List ℕ) → Ends (is_among (45 ∷ 61 ∷ [])) rest → 45 ∷ rest ≡ 45 ∷ 45 ∷ inner → ⊥
    one_minus [] inner h e = let k : [] ≡ 45 ∷ inner = cc in cc
    one_minus (x ∷ xs) inner h e = let k : x ≡ 45 = cc in false≢true (sym (or_parts (x == 45) _ h).0 ∙ eq-eqb x 45 k)

pub decrement_mark : Fits Div (codes "--") Decr
unfolding look stays all_stay
decrement_mark = mark_fits never (45 ∷ 45 ∷ []) t.MinusMinus Decr refl refl refl (λ rest h. never_ends rest) (no_dot 45 (45 ∷ []) refl) (λ rest h. no_dot 45 (45 ∷ rest) refl) refl
    (λ rest h. (record { white = refl; line = refl; slashes = λ inner. not_first 45 47 (45 ∷ rest) (47 ∷ inner) refl; block = λ inner. not_first 45 47 (45 ∷ rest) (42 ∷ inner) refl; html = λ inner. not_first 45 60 (45 ∷ rest) (33 ∷ 45 ∷ 45 ∷ inner) refl }, tt))

ends_second : (n : ℕ) (p : ℕ → Bool) (c : ℕ) (rest inner : List ℕ) → Ends p rest → p n ≡ true → c ∷ rest ≡ c ∷ n ∷ inner → ⊥
ends_second n p c [] inner h t e = let k : [] ≡ n ∷ inner = cc in cc
ends_second n p c (x ∷ xs) inner h t e = let k : x ≡ n = cc in false≢true (sym h ∙ (ap p k ∙ t))

pub slash_mark : Fits Div (codes "/") Slash
unfolding look stays all_stay
slash_mark = mark_fits (is_among (47 ∷ 42 ∷ 61 ∷ [])) (47 ∷ []) (t.BinOp b.Div) Slash refl refl refl (λ rest h. h) (no_dot 47 [] refl) (λ rest h. no_dot 47 rest refl) refl
    (λ rest h. (record { white = refl; line = refl; slashes = λ inner e. ends_second 47 _ 47 rest inner h refl e; block = λ inner e. ends_second 42 _ 47 rest inner h refl e; html = λ inner. not_first 47 60 rest (33 ∷ 45 ∷ 45 ∷ inner) refl }, λ inner. not_first 47 45 rest (45 ∷ 62 ∷ inner) refl))

pub less_mark : Fits Div (codes "<") Less
unfolding look stays all_stay
less_mark = mark_fits (is_among (60 ∷ 61 ∷ [])) (60 ∷ []) (t.BinOp b.Lt) Less refl refl refl (λ rest h. h.0) (no_dot 60 [] refl) (λ rest h. no_dot 60 rest refl) refl
    (λ rest h. (record { white = refl; line = refl; slashes = λ inner. not_first 60 47 rest (47 ∷ inner) refl; block = λ inner. not_first 60 47 rest (42 ∷ inner) refl; html = λ inner e. h.1 inner (cons_tail 60 60 rest (33 ∷ 45 ∷ 45 ∷ inner) e) }, λ inner. not_first 60 45 rest (45 ∷ 62 ∷ inner) refl))

pub dot_mark : Fits Div (codes ".") Dot
unfolding look stays all_stay
dot_mark = mark_fits is_dotty (46 ∷ []) t.Dot Dot refl refl refl (λ rest h. h) (λ d. by [] tt d) (λ rest h d. by rest h d) refl
    (λ rest h. let z = quiet_plain 46 rest refl in (z.0, z.1))
  where
    by : (rest : List ℕ) → Ends is_dotty rest → IsNumberDot (46 ∷ rest) → ⊥
    by [] h d = let e : 46 ∷ [] ≡ 46 ∷ d.0 ∷ d.1 = d.2 in let k : [] ≡ d.0 ∷ d.1 = cc in cc
    by (x ∷ xs) h d =
        let e : 46 ∷ x ∷ xs ≡ 46 ∷ d.0 ∷ d.1 = d.2 in
        let k : x ≡ d.0 = cc in
        false≢true (sym (or_parts (is_point x) (is_decimal x) h).1 ∙ (ap is_decimal k ∙ (sym (one_digit d.0) ∙ d.3)))

pub dots_mark : Fits Div (codes "...") Dots
unfolding look stays all_stay
dots_mark = mark_fits never (46 ∷ 46 ∷ 46 ∷ []) t.DotDotDot Dots refl refl refl (λ rest h. never_ends rest) (λ d. by [] d) (λ rest h d. by rest d) refl
    (λ rest h. let z = quiet_plain 46 (46 ∷ 46 ∷ rest) refl in (z.0, z.1))
  where
    by : (rest : List ℕ) → IsNumberDot (46 ∷ 46 ∷ 46 ∷ rest) → ⊥
    by rest d = let e : 46 ∷ 46 ∷ 46 ∷ rest ≡ 46 ∷ d.0 ∷ d.1 = d.2 in let k : d.0 ≡ 46 = cc in false≢true (sym (ap is_decimal_digit k) ∙ d.3)

pub not_equal_mark : Fits Div (codes "!=") Operator
unfolding look stays all_stay
not_equal_mark = operator_mark 33 (61 ∷ []) (t.BinOp b.NotEq) refl refl refl refl refl refl refl (wordless 33 refl)

pub same_mark : Fits Div (codes "===") Operator
unfolding look stays all_stay
same_mark = operator_mark 61 (61 ∷ 61 ∷ []) (t.BinOp b.EqEqEq) refl refl refl refl refl refl refl (wordless 61 refl)

pub not_same_mark : Fits Div (codes "!==") Operator
unfolding look stays all_stay
not_same_mark = operator_mark 33 (61 ∷ 61 ∷ []) (t.BinOp b.NotEqEq) refl refl refl refl refl refl refl (wordless 33 refl)

pub greater_equal_mark : Fits Div (codes ">=") Operator
unfolding look stays all_stay
greater_equal_mark = operator_mark 62 (61 ∷ []) (t.BinOp b.GtEq) refl refl refl refl refl refl refl (wordless 62 refl)

pub shift_right_mark : Fits Div (codes ">>") Operator
unfolding look stays all_stay
shift_right_mark = operator_mark 62 (62 ∷ []) (t.BinOp b.RShift) refl refl refl refl refl refl refl (wordless 62 refl)

pub zero_fill_mark : Fits Div (codes ">>>") Operator
unfolding look stays all_stay
zero_fill_mark = operator_mark 62 (62 ∷ 62 ∷ []) (t.BinOp b.ZeroFillRShift) refl refl refl refl refl refl refl (wordless 62 refl)

pub rest_mark : Fits Div (codes "%") Operator
unfolding look stays all_stay
rest_mark = operator_mark 37 [] (t.BinOp b.Mod) refl refl refl refl refl refl refl (wordless 37 refl)

pub bit_or_mark : Fits Div (codes "|") Operator
unfolding look stays all_stay
bit_or_mark = operator_mark 124 [] (t.BinOp b.BitOr) refl refl refl refl refl refl refl (wordless 124 refl)

pub bit_xor_mark : Fits Div (codes "^") Operator
unfolding look stays all_stay
bit_xor_mark = operator_mark 94 [] (t.BinOp b.BitXor) refl refl refl refl refl refl refl (wordless 94 refl)

pub bit_and_mark : Fits Div (codes "&") Operator
unfolding look stays all_stay
bit_and_mark = operator_mark 38 [] (t.BinOp b.BitAnd) refl refl refl refl refl refl refl (wordless 38 refl)

pub or_mark : Fits Div (codes "||") Operator
unfolding look stays all_stay
or_mark = operator_mark 124 (124 ∷ []) (t.BinOp b.LogicalOr) refl refl refl refl refl refl refl (wordless 124 refl)

pub and_mark : Fits Div (codes "&&") Operator
unfolding look stays all_stay
and_mark = operator_mark 38 (38 ∷ []) (t.BinOp b.LogicalAnd) refl refl refl refl refl refl refl (wordless 38 refl)

pub coalesce_mark : Fits Div (codes "??") Operator
unfolding look stays all_stay
coalesce_mark = operator_mark 63 (63 ∷ []) (t.BinOp b.NullishCoalescing) refl refl refl refl refl refl refl (wordless 63 refl)

pub question_mark : Fits Div (codes "?") Operator
unfolding look stays all_stay
question_mark = operator_mark 63 [] (t.QuestionMark) refl refl refl refl refl refl refl (wordless 63 refl)

pub equals_mark : Fits Div (codes "=") Operator
unfolding look stays all_stay
equals_mark = operator_mark 61 [] (t.AssignOp a.Assign) refl refl refl refl refl refl refl (wordless 61 refl)

pub less_equal_mark : Fits Div (codes "<=") Operator
unfolding look stays all_stay
less_equal_mark = led_mark 60 (61 ∷ []) (t.BinOp b.LtEq) refl refl refl refl refl refl (wordless 60 refl) (λ rest. (record { white = refl; line = refl; slashes = λ inner. not_first 60 47 (61 ∷ rest) (47 ∷ inner) refl; block = λ inner. not_first 60 47 (61 ∷ rest) (42 ∷ inner) refl; html = λ inner e. not_first 61 33 rest (45 ∷ 45 ∷ inner) refl (cons_tail 60 60 (61 ∷ rest) (33 ∷ 45 ∷ 45 ∷ inner) e) }, λ inner. not_first 60 45 (61 ∷ rest) (45 ∷ 62 ∷ inner) refl))

pub colon_mark : Fits Div (codes ":") Closed
unfolding look stays all_stay
colon_mark = closed_mark 58 t.Colon refl refl refl refl refl refl refl (wordless 58 refl)

-- before a decorator
pub at_mark : Fits Div (codes "@") Closed
unfolding look stays all_stay
at_mark = closed_mark 64 t.At refl refl refl refl refl refl refl (wordless 64 refl)
