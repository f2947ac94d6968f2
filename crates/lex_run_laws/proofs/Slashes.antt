-- The characters of a template, a hashbang, and a slash that is read again, before other text.
use Rattle.std.proofs.Common.{◌≡◌, ℕ, inl, inr, ⊎_elim, true, false, cond, List, [], ◌∷◌, ◌++◌, Some, refl, sym, ap, subst, ◌∙◌}
use Rattle.std.specs.Prelude.{◌==◌}
use Rattle.std.proofs.lemmas.Bool.{cases_Bool, false≢true}
use Rattle.base_token.specs.Tokens.{bare}
use Rattle.base_token.specs.TokenViews.{token_kind_number}
use Rattle.base_token.specs.declared.operator.AssignOp.TheVariants as a
use Rattle.base_token.specs.declared.operator.BinOpToken.TheVariants as b
use Rattle.base_token.specs.declared.token.TokenKind.{TokenKind}
use Rattle.base_token.specs.declared.token.TokenKind.TheVariants.{AssignOp, BinOp}
use Rattle.lex_pieces.specs.Classes.{is_line_char}
use Rattle.lex_pieces.specs.Punctuators.{read_punctuator}
use Rattle.lex_pieces.specs.Runs.{Ends as RunEnds}
use Rattle.lex_pieces.specs.Trivia.{IsHashbang}
use Rattle.lex_pieces.proofs.Longest.{is_read, reads}
use Rattle.lex_pieces.proofs.RegExpLemmas.{open_slash}
use Rattle.lex_literal.specs.declared.template.Ending.{Ending}
use Rattle.lex_literal.specs.Templates.{Ends, SpellsPiece}
use Rattle.lex_literal.proofs.NumeralLemmas.{numeral_starts}
use Rattle.lex_literal.proofs.TaggedLemmas.{tagged_is_read}
use Rattle.lex_token.specs.declared.goal.LexicalGoal.TheVariants.{Div, RegExp}
use Rattle.lex_token.specs.Lexemes.{SpecLexeme, IsCharacters, IsLexeme, IsMark, IsOutside, IsPattern, plain}
use Rattle.lex_token.proofs.LexemeLemmas.{one_lexeme, same_ending}
use Rattle.lex_token.proofs.SortLemmas.{string_begins, word_begins, slash_no_opening}
use Rattle.lex_step_laws.proofs.Bounds.{no_slash}
use Rattle.lex_run_laws.specs.Turns.{is_slash_kind}
use Rattle.lex_run_laws.proofs.Words.{Parted, same_own}
use Rattle.lex_run_laws.proofs.Marks.{reg_exp_before}
use Rattle.lex_run_laws.proofs.Fronts.{Free, slash_free}

-- ---- templates and hashbangs

pub characters_before : (text own : List ℕ) (x : SpecLexeme) (rest after more : List ℕ) (f : Ending) → text ≡ own ++ rest → Ends f after more → IsCharacters text x rest
    → IsCharacters (own ++ after) x after
characters_before text own x rest after more f e g h =
    let p = h.4 in
    let same = same_own text own h.0 rest e (p.4 ∙ ap (λ (l : List ℕ). h.0 ++ l) (same_ending h.2 p.1 rest h.3 p.3 h.5)) in (
      h.0,
      h.1,
      f,
      more,
      subst (λ (l : List ℕ). SpellsPiece h.0 h.1 f (l ++ after) more) (sym same) (tagged_is_read h.0 text h.3 h.1 h.2 p f after more g),
      g,
      h.6,
    )

pub hashbang_before : (text whole own rest r : List ℕ) → text ≡ whole ++ rest → RunEnds is_line_char r → IsHashbang text own rest → IsHashbang (whole ++ r) own r
hashbang_before text whole own rest r e g h =
    let same = same_own text whole (35 ∷ 33 ∷ own) rest e (h.1 ∙ ap (λ (l : List ℕ). 35 ∷ 33 ∷ l) h.2.0) in
    (own ++ r, ap (λ (l : List ℕ). l ++ r) same, (refl, h.2.1, g))

-- ---- a slash before a character

some_pair : (x y : TokenKind × List ℕ) → Some x ≡ Some y → (x.0 ≡ y.0) × (x.1 ≡ y.1)
some_pair x y e = let k : x ≡ y = cc in (ap (λ (z : TokenKind × List ℕ). z.0) k, ap (λ (z : TokenKind × List ℕ). z.1) k)

read_slash : (d : ℕ) (ds : List ℕ) → read_punctuator (47 ∷ d ∷ ds) ≡ cond (d == 61) (Some (AssignOp a.DivAssign, ds)) (Some (BinOp b.Div, d ∷ ds))
read_slash d ds = ⊎_elim
    (λ (t : (d == 61) ≡ true). rw t refl)
    (λ (f : (d == 61) ≡ false). rw f refl)
    (cases_Bool (d == 61))

-- what a slash is before these characters it is before others that begin alike
record SlashAt (d : ℕ) (ds es : List ℕ) (x : SpecLexeme) (rest : List ℕ) : Type 0 where
  own : List ℕ
  cut : 47 ∷ d ∷ ds ≡ own ++ rest
  left : List ℕ
  again : 47 ∷ d ∷ es ≡ own ++ left
  is : IsMark (47 ∷ d ∷ es) x left

slash_at : (d : ℕ) (ds es : List ℕ) (x : SpecLexeme) (rest : List ℕ) → IsMark (47 ∷ d ∷ ds) x rest → SlashAt d ds es x rest
slash_at d ds es x rest h = ⊎_elim
    (λ (t : (d == 61) ≡ true).
    let k = some_pair (h.0, rest) (AssignOp a.DivAssign, ds) (sym (reads (47 ∷ d ∷ ds) h.0 rest h.1) ∙ read_slash d ds ∙ rw t refl) in
    record {
      own = 47 ∷ d ∷ [];
      cut = ap (λ (l : List ℕ). 47 ∷ d ∷ l) (sym k.1);
      left = es;
      again = refl;
      is = (AssignOp a.DivAssign, is_read (47 ∷ d ∷ es) (AssignOp a.DivAssign) es (read_slash d es ∙ rw t refl), h.2 ∙ ap (λ n. plain (bare (token_kind_number n))) k.0);
    })
    (λ (f : (d == 61) ≡ false).
    let k = some_pair (h.0, rest) (BinOp b.Div, d ∷ ds) (sym (reads (47 ∷ d ∷ ds) h.0 rest h.1) ∙ read_slash d ds ∙ rw f refl) in
    record {
      own = 47 ∷ [];
      cut = ap (λ (l : List ℕ). 47 ∷ l) (sym k.1);
      left = d ∷ es;
      again = refl;
      is = (BinOp b.Div, is_read (47 ∷ d ∷ es) (BinOp b.Div) (d ∷ es) (read_slash d es ∙ rw f refl), h.2 ∙ ap (λ n. plain (bare (token_kind_number n))) k.0);
    })
    (cases_Bool (d == 61))

-- ---- a slash that is read again

mark_there : (inner : List ℕ) (x : SpecLexeme) (rest : List ℕ) → IsOutside Div (47 ∷ inner) x rest → IsMark (47 ∷ inner) x rest
mark_there inner x rest (inl (inl h)) = absurd (false≢true (sym slash_no_opening ∙ word_begins (47 ∷ inner) h.0 rest h.2))
mark_there inner x rest (inl (inr (inl h))) = absurd (false≢true (numeral_starts h.0 h.1 (47 ∷ inner) rest h.2))
mark_there inner x rest (inl (inr (inr h))) = absurd (false≢true (string_begins h.0 h.2 (47 ∷ inner) rest h.3))
mark_there inner x rest (inr (inl h)) = absurd (false≢true h.0)
mark_there inner x rest (inr (inr h)) = h.1

-- what is read again at a slash is no word, and so on: it is a regular expression
other_there : (text : List ℕ) (x y : SpecLexeme) (r s : List ℕ) → IsOutside Div text x r → is_slash_kind x.token.kind ≡ true → IsLexeme RegExp text y s → IsLexeme Div text y s → IsPattern text y s
other_there text x y r s h k g d =
    let same = (one_lexeme Div text x y r s h d).0 in
    absurd (false≢true (sym (no_slash text y s g) ∙ ap (λ (l : SpecLexeme). is_slash_kind l.token.kind) (sym same) ∙ k))

pub pattern_there : (text : List ℕ) (x y : SpecLexeme) (r s : List ℕ) → IsOutside Div text x r → is_slash_kind x.token.kind ≡ true → IsLexeme RegExp text y s → IsPattern text y s
pattern_there text x y r s h k (inl g) = other_there text x y r s h k (inl g) (inl g)
pattern_there text x y r s h k (inr (inl g)) = g.1
pattern_there text x y r s h k (inr (inr g)) = other_there text x y r s h k (inr (inr g)) (inr (inr (refl, g.1)))

-- the character behind the slash, and what follows it
second : List ℕ → ℕ
second [] = 47
second (c ∷ cs) = c

behind_second : List ℕ → List ℕ → List ℕ
behind_second [] l = l
behind_second (c ∷ cs) l = cs ++ 47 ∷ l

second_is : (body l : List ℕ) → body ++ 47 ∷ l ≡ second body ∷ behind_second body l
unfolding second behind_second
second_is [] l = refl
second_is (c ∷ cs) l = refl

-- A slash that is read again, and the regular expression that it is then, before other text.
pub record Reread (own : List ℕ) (x y : SpecLexeme) (text rest r : List ℕ) : Type 0 where
  pub slash : List ℕ
  pub cut : text ≡ slash ++ rest
  pub left : List ℕ
  pub again : own ++ r ≡ slash ++ left
  pub divides : IsLexeme Div (own ++ r) x left
  pub is : IsLexeme RegExp (own ++ r) y r
  pub free : Free (own ++ r)
  pub first : (inner : List ℕ) × (own ++ r ≡ 47 ∷ inner)

pub reread : (text own : List ℕ) (x y : SpecLexeme) (rest behind r : List ℕ) → text ≡ own ++ behind → Parted r → IsOutside Div text x rest → is_slash_kind x.token.kind ≡ true
    → IsLexeme RegExp text y behind → Reread own x y text rest r
reread text own x y rest behind r e p h k g =
    let pattern = pattern_there text x y rest behind h k g in
    let body = pattern.0 in
    let z = reg_exp_before text own body pattern.1 behind r e p pattern.2 in
    let n = pattern.2.1 in
    let m = z.1 in
    let here : text ≡ 47 ∷ second body ∷ behind_second body n.0 = n.1 ∙ ap (λ (l : List ℕ). 47 ∷ l) (second_is body n.0) in
    let there : own ++ r ≡ 47 ∷ second body ∷ behind_second body m.0 = m.1 ∙ ap (λ (l : List ℕ). 47 ∷ l) (second_is body m.0) in
    let mark = mark_there (second body ∷ behind_second body n.0) x rest (subst (λ (l : List ℕ). IsOutside Div l x rest) here h) in
    let w = slash_at (second body) (behind_second body n.0) (behind_second body m.0) x rest mark in
    record {
      slash = w.own;
      cut = here ∙ w.cut;
      left = w.left;
      again = there ∙ w.again;
      divides = subst (λ (l : List ℕ). IsLexeme Div l x w.left) (sym there) (inr (inr (refl, w.is)));
      is = inr (inl (refl, (body, pattern.1, z, pattern.3)));
      free = slash_free (own ++ r) (open_slash (own ++ r) body pattern.1 r z);
      first = (second body ∷ behind_second body m.0, there);
    }
