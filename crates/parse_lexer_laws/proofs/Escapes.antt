-- A word with an escape takes more bytes than its text.
use Rattle.std.proofs.Common.{◌≡◌, ◌≤◌, ◌<◌, ◌⊎◌, ℕ, ◌+◌, Bool, true, false, not, ◌&&◌, ◌==◌, List, [], ◌∷◌, ◌++◌, length-append, encode_utf8, encode_utf8_all, inl, inr, refl, sym, ap, ◌∙◌, subst, arith}
use Rattle.std.specs.Char.{IsScalar, len_utf8}
use Rattle.std.proofs.lemmas.Bool.{and_parts, eq-eqb, le-leb, not-true, ne_eqb}
use Rattle.std.proofs.lemmas.Str.{length-encode, len_utf8_bounds}
use Rattle.lex_run_laws.proofs.Owns.{bytes_append}
use Rattle.base_token.specs.TokenViews.{token_kind_number}
use Rattle.base_token.specs.Words.{kind_of}
use Rattle.base_token.specs.declared.token.TokenKind.{TokenKind}
use Rattle.lex_pieces.specs.Escapes.{IsDigits, IsEscape}
use Rattle.lex_pieces.specs.Names.{IsNameChar, Spell}
use Rattle.lex_pieces.specs.Places.{bytes}
use Rattle.lex_pieces.specs.Punctuators.{Spelling, IsAmong, IsPunctuator, punctuators}
use Rattle.lex_literal.specs.Numbers.{Meaning, Number, BigInt}
use Rattle.lex_literal.specs.declared.template.Ending.{Ending}
use Rattle.lex_literal.specs.declared.template.Ending.TheVariants.{BackQuote, Substitution}
use Rattle.lex_token.specs.declared.goal.LexicalGoal.{LexicalGoal}
use Rattle.lex_token.specs.declared.goal.LexicalGoal.TheVariants.{Div, RegExp, TemplateTail, TemplateEnd}
use Rattle.lex_token.specs.Lexemes as lexeme
use Rattle.lex_token.specs.Lexemes.{SpecLexeme, IsLexeme, IsMark, IsMarked, IsOrdinary, IsWord, ending_kind, numeral_lexeme, plain}
use Rattle.base_token.specs.Tokens.{bare}
use Rattle.grammar_spec.specs.Tokens.Input.{is_word}
use Rattle.lex_step_laws.specs.States.{place, spot_at}
use Rattle.lex_step_laws.proofs.Bounds.{word_past}
use Rattle.parse_state.specs.Cursors.{is_escaped}
use Rattle.parse_lexer_laws.specs.Escapes.{EscapesTold}

-- ---- bytes

more : (c : ℕ) (cs : List ℕ) → bytes (c ∷ cs) ≡ len_utf8 c + bytes cs
more c cs = length-append (encode_utf8 c) (encode_utf8_all cs) ∙ ap (λ (n : ℕ). n + bytes cs) (length-encode c)

tail_shorter : (c : ℕ) (cs : List ℕ) → 1 + bytes cs ≤ bytes (c ∷ cs)
tail_shorter c cs = let a = more c cs in let b = len_utf8_bounds c in omega (arith, a, b.0)

pub some_bytes : (cs : List ℕ) → (cs ≡ [] → ⊥) → 1 ≤ bytes cs
some_bytes [] n = absurd (n refl)
some_bytes (c ∷ cs) n = let a = tail_shorter c cs in omega (arith, a)

digits_longer : (text : List ℕ) (v : ℕ) (rest : List ℕ) → IsDigits text v rest → 3 + bytes rest ≤ bytes text
digits_longer text v rest (inl h) = let e : bytes text ≡ bytes (h.0 ∷ h.1 ∷ h.2 ∷ h.3 ∷ rest) = ap (λ (z : List ℕ). bytes z) h.4 in
    let a = tail_shorter h.0 (h.1 ∷ h.2 ∷ h.3 ∷ rest) in let b = tail_shorter h.1 (h.2 ∷ h.3 ∷ rest) in let c = tail_shorter h.2 (h.3 ∷ rest) in let d = tail_shorter h.3 rest in
    omega (arith, e, a, b, c, d)
digits_longer text v rest (inr h) = let e : bytes text ≡ bytes (123 ∷ h.0 ++ 125 ∷ rest) = ap (λ (z : List ℕ). bytes z) h.1 in
    let a = tail_shorter 123 (h.0 ++ 125 ∷ rest) in let b = bytes_append h.0 (125 ∷ rest) in let c = some_bytes h.0 h.2 in let d = tail_shorter 125 rest in
    omega (arith, e, a, b, c, d)

escape_longer : (text : List ℕ) (c : ℕ) (rest : List ℕ) → IsEscape text c rest → len_utf8 c + bytes rest < bytes text
escape_longer text c rest h = let e : bytes text ≡ bytes (92 ∷ 117 ∷ h.0) = ap (λ (z : List ℕ). bytes z) h.1 in
    let a = tail_shorter 92 (117 ∷ h.0) in let b = tail_shorter 117 h.0 in let d = digits_longer h.0 c rest h.2 in let g = len_utf8_bounds c in omega (arith, e, a, b, d, g.1)

-- ---- names

-- characters of a name are spelled as they are, or their spelling takes more bytes
abbrev Spelled : List ℕ → List ℕ → List ℕ → Type 0
Spelled text cs rest = (text ≡ cs ++ rest) ⊎ (bytes cs + bytes rest < bytes text)

spelled_more : (first : Bool) (text : List ℕ) (c : ℕ) (cs rest next : List ℕ) → IsNameChar first text c next → Spelled next cs rest → Spelled text (c ∷ cs) rest
spelled_more first text c cs rest next h k = by_parts h.1 k
  where
    by_parts : (text ≡ c ∷ next) ⊎ (IsScalar c × IsEscape text c next) → Spelled next cs rest → Spelled text (c ∷ cs) rest
    by_parts (inl e) (inl k) = inl (e ∙ ap (λ (z : List ℕ). c ∷ z) k)
    by_parts (inl e) (inr k) = inr (let f : bytes text ≡ bytes (c ∷ next) = ap (λ (z : List ℕ). bytes z) e in let a = more c next in let b = more c cs in omega (arith, f, a, b, k))
    by_parts (inr e) (inl k) = inr (let f : bytes next ≡ bytes (cs ++ rest) = ap (λ (z : List ℕ). bytes z) k in let a = bytes_append cs rest in let b = more c cs in let d = escape_longer text c next e.1 in omega (arith, f, a, b, d))
    by_parts (inr e) (inr k) = inr (let b = more c cs in let d = escape_longer text c next e.1 in omega (arith, b, d, k))

spelled : (first : Bool) (text cs rest : List ℕ) → Spell first text cs rest → Spelled text cs rest
spelled first text [] rest h = inl h
spelled first text (c ∷ cs) rest h = spelled_more first text c cs rest h.0 h.1 (spelled false h.0 cs rest h.2)

-- ---- words

by_tests : (w q e : Bool) → w ≡ true → q ≡ not e → (w && not q) ≡ e
by_tests w q true a b = rw (a, b) refl
by_tests w q false a b = rw (a, b) refl

marked : (end : ℕ) (text name rest : List ℕ) (e : Bool) → bytes text ≤ end → Spelled text name rest → IsMarked text name rest e → ((place end text + bytes name) == place end rest) ≡ not e
marked end text name rest true h (inl k) m = absurd (m k)
marked end text name rest true h (inr k) m = ne_eqb (place end text + bytes name) (place end rest) (λ z. omega (arith, z, h, k))
marked end text name rest false h k m = let f : bytes text ≡ bytes (name ++ rest) = ap (λ (z : List ℕ). bytes z) m in let a = bytes_append name rest in eq-eqb (place end text + bytes name) (place end rest) (omega (arith, f, a, h))

-- ---- punctuators

wordless : List Spelling → Bool
wordless [] = true
wordless (x ∷ xs) = not (is_word (token_kind_number x.1)) && wordless xs

among : (xs : List Spelling) → wordless xs ≡ true → (s : List ℕ) (k : TokenKind) → IsAmong xs s k → is_word (token_kind_number k) ≡ false
unfolding wordless
among [] t s k a = absurd a
among (x ∷ xs) t s k (inl a) = subst (λ (z : TokenKind). is_word (token_kind_number z) ≡ false) a.1 (not-true (is_word (token_kind_number x.1)) (and_parts (not (is_word (token_kind_number x.1))) (wordless xs) t).0)
among (x ∷ xs) t s k (inr a) = among xs (and_parts (not (is_word (token_kind_number x.1))) (wordless xs) t).1 s k a

-- no punctuator is a word
pub no_word : (text : List ℕ) (k : TokenKind) (rest : List ℕ) → IsPunctuator text k rest → is_word (token_kind_number k) ≡ false
unfolding wordless
no_word text k rest h = among punctuators refl h.1.0 k h.1.1

module _ (end : ℕ) (lb : Bool) (text rest : List ℕ) (h : bytes text ≤ end) where
  abbrev Told : SpecLexeme → Type 0
  Told x = is_escaped (spot_at end lb x.token text rest) ≡ x.escaped

  word_told : (x : SpecLexeme) → IsWord text x rest → Told x
  word_told x w = subst (λ (z : SpecLexeme). Told z) (sym w.4)
      (by_tests (is_word (kind_of (encode_utf8_all w.0))) ((place end text + bytes w.0) == place end rest) w.1 (le-leb 80 (kind_of (encode_utf8_all w.0)) (let p = word_past (encode_utf8_all w.0) in omega (arith, p)))
      (marked end text w.0 rest w.1 h (spelled true text w.0 rest w.2.1) w.3))

  number_told : (m : Meaning) (own : List ℕ) → Told (numeral_lexeme m own)
  number_told (Number value) own = refl
  number_told (BigInt radix digits) own = refl

  ordinary_told : (x : SpecLexeme) → IsOrdinary text x rest → Told x
  ordinary_told x (inl w) = word_told x w
  ordinary_told x (inr (inl w)) = subst (λ (z : SpecLexeme). Told z) (sym w.3) (number_told w.0 w.1)
  ordinary_told x (inr (inr w)) = subst (λ (z : SpecLexeme). Told z) (sym w.5) refl

  mark_told : (x : SpecLexeme) → IsMark text x rest → Told x
  mark_told x w = subst (λ (z : SpecLexeme). Told z) (sym w.2)
      (ap (λ (z : Bool). z && not ((place end text + 0) == place end rest)) (no_word text w.0 rest w.1))

  outside_told : (goal : LexicalGoal) (x : SpecLexeme) → lexeme.IsOutside goal text x rest → Told x
  outside_told goal x (inl w) = ordinary_told x w
  outside_told goal x (inr (inl w)) = subst (λ (z : SpecLexeme). Told z) (sym w.1.3) refl
  outside_told goal x (inr (inr w)) = mark_told x w.1

  ending_told : (e : Ending) → Told (plain (bare (ending_kind e)))
  ending_told BackQuote = refl
  ending_told Substitution = refl

  told_of : (goal : LexicalGoal) (x : SpecLexeme) → IsLexeme goal text x rest → Told x
  told_of Div x w = outside_told Div x w
  told_of RegExp x w = outside_told RegExp x w
  told_of TemplateTail x w = subst (λ (z : SpecLexeme). Told z) (sym w.6) refl
  told_of TemplateEnd x w = subst (λ (z : SpecLexeme). Told z) (sym w.2) (ending_told w.0)

pub escapes_told : EscapesTold
escapes_told goal end lb text x rest h w = told_of end lb text rest h goal x w
