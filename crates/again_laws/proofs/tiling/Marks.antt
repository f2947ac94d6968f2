-- Punctuators are tokens of their categories.
use Rattle.std.proofs.Common.{◌≡◌, ◌≢◌, ℕ, inr, Bool, true, false, ◌||◌, List, [], ◌∷◌, ◌++◌, Some, refl, sym, subst, ◌∙◌}
use Rattle.std.specs.Prelude.{◌==◌, codes}
use Rattle.std.proofs.lemmas.Bool.{false≢true, eq-eqb, or_parts}
use Rattle.std.proofs.lemmas.List.{append-nil}
use Rattle.base_token.specs.Kinds.{right_brace_kind, back_quote_kind}
use Rattle.base_token.specs.Tokens.{bare}
use Rattle.base_token.specs.TokenViews.{token_kind_number}
use Rattle.base_token.specs.declared.token.TokenKind.{TokenKind}
use Rattle.base_token.specs.declared.token.TokenKind.TheVariants as t
use Rattle.lex_pieces.specs.Characters.{is_white_space, is_line_terminator}
use Rattle.lex_pieces.specs.Runs.{Ends}
use Rattle.lex_pieces.specs.Punctuators.{punctuators as spellings, IsNumberDot}
use Rattle.lex_token.specs.declared.goal.LexicalGoal.TheVariants.{Div}
use Rattle.lex_token.specs.Lexemes.{SpecLexeme, IsLexeme, plain}
use Rattle.again_laws.proofs.tokens.Ascii.{ascii, is_ascii}
use Rattle.again_laws.proofs.tokens.Punctuators.{look, stays, all_stay, punctuates}
use Rattle.again_laws.specs.Tiling.Categories.{Category, Decr, Closed}
use Rattle.again_laws.specs.Tiling.Following.{Needs, Front, Quiet, Arrowless, is_wordy, is_dotty, is_safe, never}
use Rattle.again_laws.specs.Tiling.Goes.{Fits}
use Rattle.again_laws.proofs.tiling.Wordless.{wordless}

-- ---- no trivia

-- what some trivia begins with
abbrev pub is_lead : ℕ → Bool
is_lead c = is_white_space c || (is_line_terminator c || (c == 47 || (c == 60 || c == 45)))

pub not_first : (c n : ℕ) (cs ds : List ℕ) → (c == n) ≡ false → c ∷ cs ≢ n ∷ ds
not_first c n cs ds f e = let k : c ≡ n = cc in false≢true (sym f ∙ eq-eqb c n k)

pub quiet_plain : (c : ℕ) (cs : List ℕ) → is_lead c ≡ false → Quiet (c ∷ cs) × ((inner : List ℕ) → c ∷ cs ≢ 45 ∷ 45 ∷ 62 ∷ inner)
quiet_plain c cs e =
    let x = or_parts (is_white_space c) _ e in
    let y = or_parts (is_line_terminator c) _ x.1 in
    let z = or_parts (c == 47) _ y.1 in
    let w = or_parts (c == 60) _ z.1 in (
      record { white = x.0; line = y.0; slashes = λ inner. not_first c 47 cs (47 ∷ inner) z.0; block = λ inner. not_first c 47 cs (42 ∷ inner) z.0; html = λ inner. not_first c 60 cs (33 ∷ 45 ∷ 45 ∷ inner) w.0 },
      λ inner. not_first c 45 cs (45 ∷ 62 ∷ inner) w.1,
    )

pub arrowless : (k : Category) (text : List ℕ) → ((inner : List ℕ) → text ≢ 45 ∷ 45 ∷ 62 ∷ inner) → Arrowless k text
arrowless Decr text h = tt
arrowless _ text h = h

-- ---- a mark, by tests

-- A mark of the list of punctuators, before what none of the list goes on with, is a token of a category: what the category lets follow is none of that, begins no number and no trivia with it.
pub mark_fits : (q : ℕ → Bool) (s : List ℕ) (kind : TokenKind) (k : Category) → is_ascii s ≡ true → look spellings s ≡ Some kind → all_stay q s spellings ≡ true
    → ((rest : List ℕ) → Needs k rest → Ends q rest) → (IsNumberDot (s ++ []) → ⊥) → ((rest : List ℕ) → Needs k rest → IsNumberDot (s ++ rest) → ⊥)
    → Front k s → ((rest : List ℕ) → Needs k rest → Quiet (s ++ rest) × Arrowless k (s ++ rest)) → Fits Div s k
mark_fits q s kind k asc e a n d0 d f w =
    let c = ascii s asc in
    let x : SpecLexeme = plain (bare (token_kind_number kind)) in
    let alone : IsLexeme Div s x [] = subst (λ (l : List ℕ). IsLexeme Div l x []) (append-nil s) (inr (inr (refl, (kind, punctuates q s [] kind e a tt d0, refl)))) in record {
      kind_of = tt;
      utf8 = c.utf8;
      lexeme = x;
      front = subst (λ (l : List ℕ). Front k l) (sym c.same) f;
      is_own = subst (λ (l : List ℕ). IsLexeme Div l x []) (sym c.same) alone;
      reads = λ rest h. subst (λ (l : List ℕ). IsLexeme Div (l ++ rest) x rest) (sym c.same) (inr (inr (refl, (kind, punctuates q s rest kind e a (n rest h) (d rest h), refl))));
      quiet = λ rest h. subst (λ (l : List ℕ). Quiet (l ++ rest) × Arrowless k (l ++ rest)) (sym c.same) (w rest h);
    }

pub no_dot : (c : ℕ) (cs : List ℕ) → (c == 46) ≡ false → IsNumberDot (c ∷ cs) → ⊥
no_dot c cs e d = not_first c 46 cs (d.0 ∷ d.1) e d.2

-- what begins with none of the characters of trivia and no point
pub plain_mark : (q : ℕ → Bool) (c : ℕ) (cs : List ℕ) (kind : TokenKind) (k : Category) → is_ascii (c ∷ cs) ≡ true → look spellings (c ∷ cs) ≡ Some kind → all_stay q (c ∷ cs) spellings ≡ true
    → is_lead c ≡ false → (c == 46) ≡ false → ((rest : List ℕ) → Needs k rest → Ends q rest) → Front k (c ∷ cs) → Fits Div (c ∷ cs) k
plain_mark q c cs kind k asc e a l p n f =
    mark_fits q (c ∷ cs) kind k asc e a n (no_dot c (cs ++ []) p) (λ rest h. no_dot c (cs ++ rest) p) f
    (λ rest h. let z = quiet_plain c (cs ++ rest) l in (z.0, arrowless k (c ∷ (cs ++ rest)) z.1))

pub never_ends : (cs : List ℕ) → Ends never cs
never_ends [] = tt
never_ends (c ∷ cs) = refl

-- `(`, `)` and the like: nothing goes on with them
pub closed_mark : (c : ℕ) (kind : TokenKind) → is_ascii (c ∷ []) ≡ true → look spellings (c ∷ []) ≡ Some kind → all_stay never (c ∷ []) spellings ≡ true → is_lead c ≡ false → (c == 46) ≡ false
    → is_safe c ≡ true → is_dotty c ≡ false → is_wordy c ≡ false → Fits Div (c ∷ []) Closed
closed_mark c kind asc e a l p s d w = plain_mark never c [] kind Closed asc e a l p (λ rest h. never_ends rest) (record { first = c; others = []; whole = refl; one = s; two = d; three = w })

-- ---- the marks that pieces write

pub right_brace : Fits Div (codes "}") Closed
unfolding look stays all_stay
right_brace = closed_mark 125 t.RBrace refl refl refl refl refl refl refl (wordless 125 refl)

pub semicolon_mark : Fits Div (codes ";") Closed
unfolding look stays all_stay
semicolon_mark = closed_mark 59 t.Semi refl refl refl refl refl refl refl (wordless 59 refl)

-- the token `}`
pub right_brace_is : right_brace.lexeme.token.kind ≡ right_brace_kind
unfolding right_brace closed_mark plain_mark mark_fits
right_brace_is = refl

-- the back quote that begins a template
pub back_quote : Fits Div (codes "`") Closed
unfolding look stays all_stay
back_quote = closed_mark 96 t.BackQuote refl refl refl refl refl refl refl (wordless 96 refl)

pub back_quote_is : back_quote.lexeme ≡ plain (bare back_quote_kind)
unfolding back_quote closed_mark plain_mark mark_fits
back_quote_is = refl
