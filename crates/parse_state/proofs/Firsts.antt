-- What reading asks of the token at hand, by the token that waits.
use Rattle.std.proofs.Common.{◌≡◌, ℕ, zero, suc, ◌+◌, Bool, true, false, ◌&&◌, ◌==◌, not, Option, None, Some, length, refl, sym, ap, ◌∙◌}
use Rattle.std.specs.Prelude.{is_none}
use Rattle.std.proofs.lemmas.Bool.{false≢true}
use Rattle.base_token.specs.Tokens.{BigNumeral, Bare, Content, Faulty, Line, Named, Numeral, Pattern, Piece, Quoted, Spot}
use Rattle.base_token.specs.declared.place.Span.{Span}
use Rattle.base_token.specs.declared.token.Token.{Token}
use Rattle.base_token.specs.TokenViews.{token_view}
use Rattle.lex_source.specs.Ahead.{break_in, content_in, hi_in, IsPlain, kind_in, lo_in, word_in}
use Rattle.lex_source.specs.Machine.{Machine, Source, without_fault}
use Rattle.grammar_spec.specs.Tokens.Input.{break_of, content_of, escaped_of, hi_of, is_word, kind_of, lo_of, text_in}
use Rattle.grammar_spec.specs.Reader.Source.{Inner, is_nil, Stream}
use Rattle.grammar_spec.specs.Reader.Modules.{line_of}
use Rattle.grammar_spec.specs.Reader.Expressions.{literal}
use Rattle.parse_state.specs.Cursors.{one_in, places}

pub kind_at : {S : Type 0} (m : Machine S) (n : ℕ) (o : Option Spot) (s : Source S) → kind_of (places m n o (Some s)) ≡ kind_in o
kind_at m n None s = refl
kind_at m zero (Some t) s = refl
kind_at m (suc n) (Some t) s = refl

pub break_at : {S : Type 0} (m : Machine S) (n : ℕ) (o : Option Spot) (s : Source S) → break_of (places m n o (Some s)) ≡ break_in o
break_at m n None s = refl
break_at m zero (Some t) s = refl
break_at m (suc n) (Some t) s = refl

pub content_at : {S : Type 0} (m : Machine S) (n : ℕ) (o : Option Spot) (s : Source S) → content_of (places m n o (Some s)) ≡ content_in o
content_at m n None s = refl
content_at m zero (Some t) s = refl
content_at m (suc n) (Some t) s = refl

pub lo_at : {S : Type 0} (m : Machine S) (n : ℕ) (o : Option Spot) (s : Source S) (last : ℕ) → lo_of last (places m n o (Some s)) ≡ lo_in last o
lo_at m n None s last = refl
lo_at m zero (Some t) s last = refl
lo_at m (suc n) (Some t) s last = refl

pub hi_at : {S : Type 0} (m : Machine S) (n : ℕ) (o : Option Spot) (s : Source S) (last : ℕ) → hi_of last (places m n o (Some s)) ≡ hi_in last o
hi_at m n None s last = refl
hi_at m zero (Some t) s last = refl
hi_at m (suc n) (Some t) s last = refl

-- whether nothing comes
pub nil_at : {S : Type 0} (m : Machine S) (n : ℕ) (o : Option Spot) (s : Source S) → is_nil (places m n o (Some s)) ≡ is_none o
nil_at m n None s = refl
nil_at m zero (Some t) s = refl
nil_at m (suc n) (Some t) s = refl

-- how many come at once
pub one_none : (o : Option Spot) → is_none o ≡ true → one_in o ≡ 0
one_none None e = refl
one_none (Some t) e = absurd (false≢true e)

pub one_some : (o : Option Spot) → is_none o ≡ false → one_in o ≡ 1
one_some None e = absurd (false≢true (sym e))
one_some (Some t) e = refl

-- ---- an escape

-- only a word is spelled with an escape
pub no_escape : {S : Type 0} (m : Machine S) (n : ℕ) (o : Option Spot) (s : Source S) → is_word (kind_of (places m n o (Some s))) ≡ false → false ≡ escaped_of (places m n o (Some s))
no_escape m n None s e = refl
no_escape m zero (Some t) s e = sym (ap (λ (b : Bool). b && not (t.lo + length (text_in t.token.content) == t.hi)) e)
no_escape m (suc n) (Some t) s e = sym (ap (λ (b : Bool). b && not (t.lo + length (text_in t.token.content) == t.hi)) e)

-- and it is where its span is longer than its text
pub escape_is : {S : Type 0} (m : Machine S) (n : ℕ) (o : Option Spot) (s : Source S) (last : ℕ) → is_word (kind_of (places m n o (Some s))) ≡ true
    → not (lo_of last (places m n o (Some s)) + length (text_in (content_of (places m n o (Some s)))) == hi_of last (places m n o (Some s))) ≡ escaped_of (places m n o (Some s))
escape_is m n None s last e = absurd (false≢true e)
escape_is m zero (Some t) s last e = sym (ap (λ (b : Bool). b && not (t.lo + length (text_in t.token.content) == t.hi)) e)
escape_is m (suc n) (Some t) s last e = sym (ap (λ (b : Bool). b && not (t.lo + length (text_in t.token.content) == t.hi)) e)

-- ---- what it holds

-- the text of a word
pub text_is : (c : Content) → word_in c ≡ text_in c
text_is Bare = refl
text_is (Named text) = refl
text_is (Quoted units raw) = refl
text_is (Piece raw units) = refl
text_is (Pattern body flags) = refl
text_is (Numeral value raw) = refl
text_is (BigNumeral radix digits raw) = refl
text_is (Line text) = refl
text_is (Faulty e) = refl

-- what holds nothing, or is a word, is no literal
pub no_literal : (k : ℕ) (c : Content) (s : Span) → IsPlain c → literal k c s ≡ None
no_literal k Bare s h = refl
no_literal k (Named text) s h = refl
no_literal k (Quoted units raw) s h = absurd h
no_literal k (Piece raw units) s h = absurd h
no_literal k (Pattern body flags) s h = absurd h
no_literal k (Numeral value raw) s h = absurd h
no_literal k (BigNumeral radix digits raw) s h = absurd h
no_literal k (Line text) s h = absurd h
no_literal k (Faulty e) s h = absurd h

-- a literal is told by the token that holds it
pub literal_of : (t : Token) (k : ℕ) (c : Content) (s : Span) → k ≡ (token_view t).kind → c ≡ without_fault (token_view t).content
    → literal k c s ≡ literal (token_view t).kind (without_fault (token_view t).content) s
literal_of t k c s e h = ap (λ (n : ℕ). literal n c s) e ∙ ap (λ (x : Content). literal (token_view t).kind x s) h

-- nor a hashbang
pub no_line : {S : Type 0} (m : Stream S) (r : Inner S) (c : Content) → IsPlain c → line_of m r c ≡ None
no_line m r Bare h = refl
no_line m r (Named text) h = refl
no_line m r (Quoted units raw) h = refl
no_line m r (Piece raw units) h = refl
no_line m r (Pattern body flags) h = refl
no_line m r (Numeral value raw) h = refl
no_line m r (BigNumeral radix digits raw) h = refl
no_line m r (Line text) h = absurd h
no_line m r (Faulty e) h = refl

-- a hashbang is told by the token that holds it
pub line_held : {S : Type 0} (m : Stream S) (r : Inner S) (t : Token) (c : Content) → c ≡ without_fault (token_view t).content
    → line_of m r c ≡ line_of m r (without_fault (token_view t).content)
line_held m r t c h = ap (line_of m r) h

pub ruleset firsts = (kind_at, break_at, content_at, lo_at, hi_at, nil_at, text_is)

pub ruleset ones = (one_none, one_some)

pub ruleset lines = (no_line, line_held)
