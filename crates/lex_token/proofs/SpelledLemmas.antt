-- What was read of each sort, as a token.
use Rattle.std.proofs.Common.{◌≡◌, ◌≢◌, ℕ, Bool, true, false, List, [], ◌∷◌, ◌++◌, length, refl, sym, ap, subst, ◌∙◌, IsUtf8, IsCharBoundary}
use Rattle.std.specs.Prelude.{◌==◌, Option, Some, None, Result, Ok, Err, MatchOption, MatchResult, IfSome, encode_utf8_all, string_bytes}
use Rattle.std.specs.Str.{chars}
use Rattle.std.proofs.Math.Bool.{or-true}
use Rattle.std.proofs.Math.Utf8.{encodes, scalars}
use Rattle.std.proofs.lemmas.Bool.{false≢true, or_parts}
use Rattle.std.proofs.lemmas.Str.{encodes-chars, chars-encodes, encodes-append, IsCharBoundary-at_seam}
use Rattle.base_token.specs.declared.context.Context.{Context}
use Rattle.base_token.specs.Reserved.{is_reserved_in}
use Rattle.std.specs.Borrow.{Bor}
use Rattle.base_token.specs.TokenViews.{cooked_units}
use Rattle.base_token.specs.declared.error.Error.{Error}
use Rattle.base_token.specs.declared.error.SyntaxError.{SyntaxError}
use Rattle.base_token.specs.declared.token.Token.TheVariants.{Template}
use Rattle.lex_pieces.proofs.NameLemmas.{backslash, part_of}
use Rattle.lex_pieces.proofs.TriviaLemmas.{one_run}
use Rattle.lex_pieces.proofs.Wide.{scalars_parts}
use Rattle.lex_pieces.specs.declared.names.Name.{Name}
use Rattle.lex_pieces.specs.declared.names.Name.TheVariants.{Bare, Escaped}
use Rattle.lex_pieces.specs.Characters.{is_name_part}
use Rattle.lex_pieces.specs.Names.{Spell, is_continuing}
use Rattle.lex_pieces.specs.NamesRead.{IsNamed}
use Rattle.lex_pieces.specs.RegExps.{IsRegExp}
use Rattle.lex_pieces.specs.Runs.{Each, Ends}
use Rattle.lex_pieces.specs.Words.{is_escaped_reserved, name_bytes}
use Rattle.lex_literal.specs.declared.template.Ending.{Ending}
use Rattle.lex_literal.specs.Numbers.{Meaning, SpellsNumber, legacy_of}
use Rattle.lex_literal.specs.Strings.{SpellsString}
use Rattle.lex_literal.specs.Templates.{Ends as EndsPiece, IsFirstBad, SpellsPiece}
use Rattle.lex_token.specs.Lexemes.{SpecLexeme, IsCharacters, IsNumber, IsPattern, IsQuoted, IsWord, numeral_spelled, pattern_token, plain, string_spelled, template_token, word_spelled}
use Rattle.lex_token.specs.Readings.{BeginsWith, HasFirstBad, has_escape}

-- the bytes of a text are those of its characters
pub encoded : (bytes : List ℕ) → IsUtf8 bytes → bytes ≡ encode_utf8_all (chars bytes)
encoded bytes u = sym (encodes-chars bytes u)

-- what a match tells of an answer that is known
pub none_of : {A : Type 0} (N : Type 0) (P : A → Type 0) (o : Option A) → o ≡ None → MatchOption o N P → N
none_of N P o e h = subst (λ p. MatchOption p N P) e h

pub if_some : {A : Type 0} (P : A → Type 0) (o : Option A) (x : A) → o ≡ Some x → IfSome o P → P x
if_some P o x e h = subst (λ p. IfSome p P) e h

-- ---- words

each_part : (first : Bool) (text cs rest : List ℕ) → Spell first text cs rest → Each is_name_part cs
each_part first text [] rest h = tt
each_part first text (c ∷ cs) rest h = (part_of first c h.1.0, each_part false h.0 cs rest h.2)

ends_part : (rest : List ℕ) → Ends is_continuing rest → Ends is_name_part rest
ends_part [] h = tt
ends_part (c ∷ cs) h = (or_parts (is_name_part c) (c == 92) h).0

unmarked : (text front more name rest : List ℕ) → text ≡ front ++ 92 ∷ more → Each is_name_part front → Spell true text name rest → Ends is_continuing rest → text ≢ name ++ rest
unmarked text front more name rest e p h ends f =
    let a = one_run is_name_part text front (92 ∷ more) (e, p, backslash false) in
    let b = one_run is_name_part text name rest (f, each_part true text name rest h, ends_part rest ends) in
    let same : rest ≡ 92 ∷ more = sym b.1 ∙ a.1 in
    let k : is_continuing 92 ≡ false = subst (Ends is_continuing) same ends in
    false≢true (sym k ∙ or-true (is_name_part 92))

word_named : (text : List ℕ) (name : Name) (rest : List ℕ) → IsNamed text name rest → IsUtf8 (name_bytes name)
    → IsWord text (word_spelled (name_bytes name) (has_escape name)) rest
word_named text (Bare own) rest h u = (chars own.now, false, h.0, h.1, ap (λ b. word_spelled b false) (encoded own.now u))
word_named text (Escaped own) rest h u =
    let cs = chars (string_bytes own) in
    (cs, true, h.0, unmarked text h.1.0 h.1.1 cs rest h.1.2 h.1.3 h.0.1 h.0.2, ap (λ b. word_spelled b true) (encoded (string_bytes own) u))

pub is_word : (text : List ℕ) (name : Name) (x : SpecLexeme) (rest : List ℕ) → IsNamed text name rest → IsUtf8 (name_bytes name)
    → x ≡ word_spelled (name_bytes name) (has_escape name) → IsWord text x rest
is_word text name x rest h u e = subst (λ y. IsWord text y rest) (sym e) (word_named text name rest h u)

-- ---- literals

pub is_number : (m : Meaning) (raw text rest : List ℕ) (legacy : Option SyntaxError) (x : SpecLexeme) → SpellsNumber m (chars raw) text rest → legacy ≡ legacy_of m (chars raw)
    → IsUtf8 raw → x ≡ numeral_spelled m raw legacy → IsNumber text x rest
is_number m raw text rest legacy x h e u f =
    (m, chars raw, h, f ∙ ap (λ b. numeral_spelled m b legacy) (encoded raw u) ∙ ap (numeral_spelled m (encode_utf8_all (chars raw))) e)

pub is_quoted : (units raw text rest : List ℕ) (legacy : Bool) (x : SpecLexeme) → SpellsString units legacy text rest → text ≡ chars raw ++ rest
    → IsUtf8 raw → x ≡ string_spelled units raw legacy → IsQuoted text x rest
is_quoted units raw text rest legacy x h e u f = (units, chars raw, legacy, h, e, f ∙ ap (λ b. string_spelled units b legacy) (encoded raw u))

pub is_pattern : (body flags text rest : List ℕ) (x : SpecLexeme) → IsRegExp text (chars body) (chars flags) rest → IsUtf8 body → IsUtf8 flags
    → x ≡ plain (pattern_token body flags) → IsPattern text x rest
is_pattern body flags text rest x h u v f =
    (chars body, chars flags, h, f ∙ ap (λ b. plain (pattern_token b flags)) (encoded body u) ∙ ap (λ b. plain (pattern_token (encode_utf8_all (chars body)) b)) (encoded flags v))

-- ---- templates

-- what ends a piece stands right behind its own text
rest_is : (own : List ℕ) (units : Option (List ℕ)) (a : Ending) (text behind rest : List ℕ) → (h : SpellsPiece own units a text behind) → text ≡ own ++ rest → rest ≡ h.1
rest_is own units a text behind rest h e = same_rest own rest h.1 (sym e ∙ h.4)
  where
    same_rest : (own r s : List ℕ) → own ++ r ≡ own ++ s → r ≡ s
    same_rest [] r s e = e
    same_rest (c ∷ cs) r s e = same_rest cs r s cc

pub cooked_piece : (own : List ℕ) (a : Ending) (text behind : List ℕ) (W : Error → Type 0) (r : Result (List ℕ) Error)
    → MatchResult r (λ u. SpellsPiece own (Some u) a text behind) (λ e. SpellsPiece own None a text behind × W e) → SpellsPiece own (cooked_units r) a text behind
cooked_piece own a text behind W (Ok u) h = h
cooked_piece own a text behind W (Err e) h = h.0

pub is_characters : (raw : List ℕ) (units : Option (List ℕ)) (a : Ending) (text behind rest : List ℕ) (x : SpecLexeme) → SpellsPiece (chars raw) units a text behind
    → text ≡ chars raw ++ rest → IsUtf8 raw → x ≡ plain (template_token raw units) → IsCharacters text x rest
is_characters raw units a text behind rest x h e u f =
    (chars raw, units, a, behind, h, subst (λ l. EndsPiece a l behind) (sym (rest_is (chars raw) units a text behind rest h e)) h.3, f ∙ ap (λ b. plain (template_token b units)) (encoded raw u))

-- the fault that a token of these cooked units has
pub first_bad : (end : ℕ) (text : List ℕ) (raw : Bor (List ℕ)) (P : List ℕ → Type 0) (Q : Type 0) (r : Result (List ℕ) Error)
    → MatchResult r P (λ e. Q × IsFirstBad end text e) → HasFirstBad end text (Template raw r)
first_bad end text raw P Q (Ok u) h = tt
first_bad end text raw P Q (Err e) h = h.1

-- ---- the text behind a front of it

pub record Split (text own : List ℕ) : Type 0 where
  pub rest : List ℕ
  pub whole : text ≡ own ++ rest
  pub is_text : IsUtf8 rest
  pub boundary : IsCharBoundary text (length own)
  pub cut : chars text ≡ chars own ++ chars rest

pub split : (text own : List ℕ) → IsUtf8 text → IsUtf8 own → BeginsWith (chars text) (chars own) → Split text own
split text own u v h =
    let cs = h.0 in
    let rest = encodes cs in
    let whole : text ≡ own ++ rest = sym (encodes-chars text u) ∙ ap encodes h.1 ∙ encodes-append (chars own) cs ∙ ap (λ l. l ++ rest) (encodes-chars own v) in
    let all : chars text ≡ u.0 = ap chars (sym u.1.1) ∙ chars-encodes u.0 u.1.0 in
    let fine : scalars cs ≡ true = (scalars_parts (chars own) cs (ap scalars (sym h.1 ∙ all) ∙ u.1.0)).1 in
    let is_text : IsUtf8 rest = (cs, (fine, refl)) in
    record {
      rest = rest;
      whole = whole;
      is_text = is_text;
      boundary = IsCharBoundary-at_seam text own rest whole is_text;
      cut = h.1 ∙ ap (λ l. chars own ++ l) (sym (chars-encodes cs fine));
    }

-- ---- reserved words

none_reserved : (context : Context) → is_reserved_in context [] ≡ false
unfolding is_reserved_in
none_reserved context = refl

-- what is no word is no reserved word
pub no_word : (context : Context) (text : List ℕ) (escaped : Bool) → text ≡ [] → false ≡ is_escaped_reserved context text escaped
no_word context text true e = rw e (sym (none_reserved context))
no_word context text false e = refl
