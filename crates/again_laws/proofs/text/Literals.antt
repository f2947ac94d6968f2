-- Names and literals that are read as tokens, whatever their categories let follow, are tokens of these categories.
use Rattle.std.proofs.Common.{◌≡◌, ◌≢◌, ℕ, inl, inr, ⊎_elim, Bool, true, false, ◌&&◌, not, List, [], ◌∷◌, ◌++◌, Option, refl, sym, ap, subst, ◌∙◌, append_assoc}
use Rattle.std.specs.Prelude.{◌==◌, codes, encode_utf8_all}
use Rattle.std.specs.Str.{chars, IsUtf8}
use Rattle.std.proofs.lemmas.Str.{chars-encodes}
use Rattle.std.proofs.lemmas.Bool.{cases_Bool, false≢true, and_parts, not-true, or_cases, eqb-true, eq-eqb, or_parts, or_from}
use Rattle.std.proofs.lemmas.List.{append-nil}
use lib.Utf8.{scalars}
use Rattle.lex_pieces.specs.Characters.{is_among, is_name_part, is_white_space, is_line_terminator, white_space, line_terminators}
use Rattle.lex_pieces.specs.Classes.{is_line_char}
use Rattle.lex_pieces.proofs.Apart.{among_passes}
use Rattle.std.specs.List.{list_all}
use Rattle.lex_pieces.specs.Names.{is_continuing, is_opening, IsName}
use Rattle.lex_pieces.specs.Runs.{Ends, Each}
use Rattle.lex_pieces.specs.RegExps.{IsBody, Part, One, Class as ClassPart, Bare, Escaped, EachPart, spelled_parts}
use Rattle.lex_literal.specs.declared.template.Ending.{Ending}
use Rattle.lex_literal.specs.declared.template.Ending.TheVariants.{BackQuote, Substitution}
use Rattle.lex_literal.specs.Escapes.{begins, is_decimal}
use Rattle.lex_literal.specs.Numbers.{is_barred, Meaning, SpellsNumber, is_number_start}
use Rattle.lex_literal.specs.Standing.{is_point, MayFollow}
use Rattle.lex_literal.specs.Strings.{SpellsString, is_quote}
use Rattle.lex_literal.specs.Templates as templates
use Rattle.lex_token.specs.declared.goal.LexicalGoal.TheVariants.{Div, RegExp, TemplateTail, TemplateEnd}
use Rattle.lex_token.specs.Lexemes.{SpecLexeme, IsLexeme, word_lexeme, numeral_lexeme, string_lexeme, pattern_lexeme, template_lexeme, plain, ending_kind}
use Rattle.base_token.specs.Tokens.{bare}
use Rattle.lex_token.proofs.SortLemmas.{word_begins, string_begins}
use Rattle.lex_literal.proofs.NumeralLemmas.{numeral_starts}
use Rattle.again_laws.proofs.leaf.Words.{same_mark}
use Rattle.again_laws.proofs.tokens.Ascii.{ascii, is_ascii}
use Rattle.again_laws.specs.Tiling.Categories.{Category, Word, Number, Big, Member, Str, Regex, Quasi, End}
use Rattle.again_laws.specs.Tiling.Following.{Front, Starts, is_wordy, is_dotty, is_safe, never, Needs, QuietUnder, Quiet}
use Rattle.again_laws.specs.Tiling.Goes.{Fits}
use Rattle.again_laws.proofs.tiling.Marks.{quiet_plain, is_lead, not_first}
use Rattle.again_laws.proofs.text.Words.{word_fits}
use Rattle.again_laws.proofs.tiling.Wordless.{wordless}

-- ---- bytes of characters

pub utf8_of : (cs : List ℕ) → scalars cs ≡ true → IsUtf8 (encode_utf8_all cs)
utf8_of cs e = (cs, (e, refl))

begins_first : (p : ℕ → Bool) (cs : List ℕ) → begins p cs ≡ true → (c : ℕ) × (ds : List ℕ) × (cs ≡ c ∷ ds) × (p c ≡ true)
begins_first p [] e = absurd (false≢true e)
begins_first p (c ∷ cs) e = (c, cs, refl, e)

-- ---- names (12.7)

-- a text that is read as a name before whatever goes on no name
pub name_fits : (text name : List ℕ) → scalars text ≡ true → ((rest : List ℕ) → Ends is_continuing rest → IsName (text ++ rest) name rest) → Fits Div (encode_utf8_all text) Word
name_fits text name e r =
    let k = same_mark text name in
    let first = begins_first is_opening (text ++ []) (word_begins (text ++ []) name [] (r [] tt)) in
    word_fits (encode_utf8_all text) text first.0 first.1 (word_lexeme name k.0) (utf8_of text e) (chars-encodes text e) (sym (append-nil text) ∙ first.2) first.3
    (λ rest h. (name, k.0, r rest h, k.1 rest, refl))

-- ---- strings (12.9.4)

quote_safe : (c : ℕ) → is_quote c ≡ true → (is_safe c ≡ true) × (is_dotty c ≡ false) × (is_wordy c ≡ false) × (is_lead c ≡ false)
quote_safe c e = ⊎_elim
    (λ (t : (c == 34) ≡ true). subst (λ (n : ℕ). (is_safe n ≡ true) × (is_dotty n ≡ false) × (is_wordy n ≡ false) × (is_lead n ≡ false)) (sym (eqb-true c 34 t)) (refl, refl, (wordless 34 refl), refl))
    (λ (t : (c == 39) ≡ true). subst (λ (n : ℕ). (is_safe n ≡ true) × (is_dotty n ≡ false) × (is_wordy n ≡ false) × (is_lead n ≡ false)) (sym (eqb-true c 39 t)) (refl, refl, (wordless 39 refl), refl))
    (or_cases (c == 34) (c == 39) e)

pub string_fits : (text units : List ℕ) (legacy : Bool) → scalars text ≡ true → ((rest : List ℕ) → SpellsString units legacy (text ++ rest) rest) → Fits Div (encode_utf8_all text) Str
string_fits text units legacy e r =
    let same = chars-encodes text e in
    let x : SpecLexeme = string_lexeme units text legacy in
    let first = begins_first is_quote (text ++ []) (string_begins units legacy (text ++ []) [] (r [])) in
    let whole : text ≡ first.0 ∷ first.1 = sym (append-nil text) ∙ first.2 in
    let q = quote_safe first.0 first.3 in
    let reads : (rest : List ℕ) → IsLexeme Div (text ++ rest) x rest = λ rest. inl (inr (inr (units, text, legacy, r rest, refl, refl))) in record {
      kind_of = tt;
      utf8 = utf8_of text e;
      lexeme = x;
      front = subst (λ (l : List ℕ). Starts is_safe is_dotty is_wordy l) (sym (same ∙ whole)) (record { first = first.0; others = first.1; whole = refl; one = q.0; two = q.1; three = q.2 });
      is_own = subst (λ (l : List ℕ). IsLexeme Div l x []) (append-nil text ∙ sym same) (reads []);
      reads = λ rest h. subst (λ (l : List ℕ). IsLexeme Div (l ++ rest) x rest) (sym same) (reads rest);
      quiet = λ rest h. subst (λ (l : List ℕ). QuietUnder Div Str (l ++ rest)) (sym (same ∙ whole)) (quiet_plain first.0 (first.1 ++ rest) q.3);
    }

-- ---- numbers (12.9.3)

-- a digit or a point: what a number begins with
no_decimal : ℕ → Bool
no_decimal c = not (is_decimal c)

unsafe_no : list_all no_decimal (33 ∷ 35 ∷ 38 ∷ 42 ∷ 43 ∷ 45 ∷ 47 ∷ 60 ∷ 61 ∷ 62 ∷ 63 ∷ 124 ∷ []) ≡ true
unfolding no_decimal
unsafe_no = refl

white_no : list_all no_decimal white_space ≡ true
unfolding no_decimal
white_no = refl

terminators_no : list_all no_decimal line_terminators ≡ true
unfolding no_decimal
terminators_no = refl

leads_no : list_all no_decimal (47 ∷ 60 ∷ 45 ∷ []) ≡ true
unfolding no_decimal
leads_no = refl

not_among : (ns : List ℕ) (c : ℕ) → list_all no_decimal ns ≡ true → is_decimal c ≡ true → is_among ns c ≡ false
unfolding no_decimal
not_among ns c e h = ⊎_elim
    (λ (t : is_among ns c ≡ true). absurd (false≢true (sym (not-true (is_decimal c) (among_passes no_decimal ns c e t)) ∙ h)))
    (λ (f : is_among ns c ≡ false). f)
    (cases_Bool (is_among ns c))

decimal_safe : (c : ℕ) → is_decimal c ≡ true → (is_safe c ≡ true) × (is_lead c ≡ false)
decimal_safe c h =
    let a = or_parts (c == 47) _ (not_among (47 ∷ 60 ∷ 45 ∷ []) c leads_no h) in
    let b = or_parts (c == 60) _ a.1 in
    let d = or_parts (c == 45) false b.1 in (
      ap not (not_among (33 ∷ 35 ∷ 38 ∷ 42 ∷ 43 ∷ 45 ∷ 47 ∷ 60 ∷ 61 ∷ 62 ∷ 63 ∷ 124 ∷ []) c unsafe_no h),
      or_from (is_white_space c) _ (not_among white_space c white_no h) (or_from (is_line_terminator c) _ (not_among line_terminators c terminators_no h) (or_from (c == 47) _ a.0 (or_from (c == 60) _ b.0 d.0))),
    )

number_safe : (text : List ℕ) → is_number_start text ≡ true → (c : ℕ) × (ds : List ℕ) × (text ≡ c ∷ ds) × (is_safe c ≡ true) × (is_lead c ≡ false)
number_safe [] e = absurd (false≢true e)
number_safe (c ∷ cs) e = ⊎_elim
    (λ (t : is_decimal c ≡ true). (c, cs, refl, (decimal_safe c t).0, (decimal_safe c t).1))
    (λ (t : (c == 46 && begins is_decimal cs) ≡ true).
    let p = eqb-true c 46 (and_parts (c == 46) _ t).0 in (c, cs, refl, subst (λ (n : ℕ). is_safe n ≡ true) (sym p) refl, subst (λ (n : ℕ). is_lead n ≡ false) (sym p) refl))
    (or_cases (is_decimal c) _ e)

barred_wordy : (cs : List ℕ) → Ends is_wordy cs → Ends is_barred cs
barred_wordy [] h = tt
barred_wordy (c ∷ cs) h = (or_parts (is_continuing c) (is_barred c) h).1

ends_begins : (p : ℕ → Bool) (cs : List ℕ) → Ends p cs → begins p cs ≡ false
ends_begins p [] h = refl
ends_begins p (c ∷ cs) h = h

numeral_fits : (k : Category) (text : List ℕ) (m : Meaning) → is_ascii text ≡ true → ((rest : List ℕ) → Needs k rest → SpellsNumber m text (text ++ rest) rest) → SpellsNumber m text (text ++ []) []
    → ((c : List ℕ) → Starts is_safe never never c → Front k c) → ((rest : List ℕ) → Quiet (text ++ rest) × ((inner : List ℕ) → text ++ rest ≢ 45 ∷ 45 ∷ 62 ∷ inner) → QuietUnder Div k (text ++ rest)) → Fits Div text k
numeral_fits k text m e r alone front quiet =
    let a = ascii text e in
    let x : SpecLexeme = numeral_lexeme m text in
    let first = number_safe (text ++ []) (numeral_starts m text (text ++ []) [] alone) in
    let whole : text ≡ first.0 ∷ first.1 = sym (append-nil text) ∙ first.2 in
    let reads : (rest : List ℕ) → SpellsNumber m text (text ++ rest) rest → IsLexeme Div (text ++ rest) x rest = λ rest h. inl (inr (inl (m, text, h, refl))) in record {
      kind_of = tt;
      utf8 = a.utf8;
      lexeme = x;
      front = subst (λ (l : List ℕ). Front k l) (sym a.same) (front text (record { first = first.0; others = first.1; whole = whole; one = first.3; two = refl; three = refl }));
      is_own = subst (λ (l : List ℕ). IsLexeme Div l x []) (append-nil text ∙ sym a.same) (reads [] alone);
      reads = λ rest h. subst (λ (l : List ℕ). IsLexeme Div (l ++ rest) x rest) (sym a.same) (reads rest (r rest h));
      quiet = λ rest h. subst (λ (l : List ℕ). QuietUnder Div k (l ++ rest)) (sym a.same)
          (quiet rest (subst (λ (l : List ℕ). Quiet (l ++ rest) × ((inner : List ℕ) → l ++ rest ≢ 45 ∷ 45 ∷ 62 ∷ inner)) (sym whole) (quiet_plain first.0 (first.1 ++ rest) first.4)));
    }

-- a number, before what is no point either
pub number_fits : (text : List ℕ) (m : Meaning) → is_ascii text ≡ true → ((rest : List ℕ) → MayFollow text rest → SpellsNumber m text (text ++ rest) rest) → Fits Div text Number
number_fits text m e r = numeral_fits Number text m e (λ rest h. r rest (barred_wordy rest h.0, λ _. ends_begins is_point rest h.1)) (r [] (tt, λ _. refl)) (λ c s. s) (λ rest q. q)

-- a big integer
pub big_fits : (text : List ℕ) (m : Meaning) → is_ascii text ≡ true → ((rest : List ℕ) → Ends is_barred rest → SpellsNumber m text (text ++ rest) rest) → Fits Div text Big
big_fits text m e r = numeral_fits Big text m e (λ rest h. r rest (barred_wordy rest h)) (r [] tt) (λ c s. s) (λ rest q. q)

-- a number before the point of a member
pub member_fits : (text : List ℕ) (m : Meaning) → is_ascii text ≡ true → ((more : List ℕ) → SpellsNumber m text (text ++ 46 ∷ more) (46 ∷ more)) → SpellsNumber m text (text ++ []) [] → Fits Div text Member
member_fits text m e r alone = numeral_fits Member text m e (λ rest h. by rest h) alone (λ c s. s) (λ rest q. q)
  where
    by : (rest : List ℕ) → begins is_point rest ≡ true → SpellsNumber m text (text ++ rest) rest
    by [] h = absurd (false≢true h)
    by (c ∷ cs) h = subst (λ (n : ℕ). SpellsNumber m text (text ++ n ∷ cs) (n ∷ cs)) (sym (eqb-true c 46 h)) (r cs)

-- ---- regular expressions (12.9.5)

-- neither `//` nor `/*`
body_front : (body : List ℕ) → IsBody body → (c : ℕ) × (ds : List ℕ) × (body ≡ c ∷ ds) × ((c == 47) ≡ false) × ((c == 42) ≡ false)
body_front body h = by h.0 h.1 h.2 h.3
  where
    by : (ps : List Part) → ps ≢ [] → EachPart true ps → body ≡ spelled_parts ps [] → (c : ℕ) × (ds : List ℕ) × (body ≡ c ∷ ds) × ((c == 47) ≡ false) × ((c == 42) ≡ false)
    by [] n e k = absurd (n refl)
    by (One (Bare c) ∷ ps) n e k =
        let p = and_parts (is_line_char c) _ e.0 in
        let q = and_parts (not (is_among (47 ∷ 91 ∷ 92 ∷ []) c)) _ p.1 in
        (c, spelled_parts ps [], k, (or_parts (c == 47) _ (not-true _ q.0)).0, not-true (c == 42) q.1)
    by (One (Escaped c) ∷ ps) n e k = (92, c ∷ spelled_parts ps [], k, refl, refl)
    by (ClassPart ms ∷ ps) n e k = (91, _, k, refl, refl)

part_wordy : (cs : List ℕ) → Ends is_wordy cs → Ends is_name_part cs
part_wordy [] h = tt
part_wordy (c ∷ cs) h = (or_parts (is_name_part c) (c == 92) (or_parts (is_continuing c) (is_barred c) h).0).0

pub regex_fits : (bytes body flags : List ℕ) → IsUtf8 bytes → chars bytes ≡ 47 ∷ body ++ 47 ∷ flags → IsBody body → Each is_name_part flags
    → Fits RegExp bytes Regex
regex_fits bytes body flags u e b f =
    let x : SpecLexeme = pattern_lexeme body flags in
    let first = body_front body b in
    let spelled : (rest : List ℕ) → (47 ∷ body ++ 47 ∷ flags) ++ rest ≡ 47 ∷ body ++ 47 ∷ (flags ++ rest) = λ rest. ap (λ (l : List ℕ). 47 ∷ l) (append_assoc body (47 ∷ flags) rest) in
    let reads : (rest : List ℕ) → Ends is_name_part rest → IsLexeme RegExp ((47 ∷ body ++ 47 ∷ flags) ++ rest) x rest =
    λ rest h. inr (inl (refl, (body, flags, (b, (flags ++ rest, spelled rest, (refl, f, h))), refl))) in record {
      kind_of = tt;
      utf8 = u;
      lexeme = x;
      front = (body ++ 47 ∷ flags, e);
      is_own = subst (λ (l : List ℕ). IsLexeme RegExp l x []) (append-nil (47 ∷ body ++ 47 ∷ flags) ∙ sym e) (reads [] tt);
      reads = λ rest h. subst (λ (l : List ℕ). IsLexeme RegExp (l ++ rest) x rest) (sym e) (reads rest (part_wordy rest h));
      quiet = λ rest h. subst (λ (l : List ℕ). QuietUnder RegExp Regex (l ++ rest)) (sym e)
          (subst (λ (l : List ℕ). QuietUnder RegExp Regex (47 ∷ l)) (sym (ap (λ (l : List ℕ). (l ++ 47 ∷ flags) ++ rest) first.2)) (opened first.0 ((first.1 ++ 47 ∷ flags) ++ rest) first.3 first.4));
    }
  where
    second : (c d : ℕ) (cs ds : List ℕ) → (c == d) ≡ false → 47 ∷ c ∷ cs ≢ 47 ∷ d ∷ ds
    second c d cs ds f k = let g : c ≡ d = cc in false≢true (sym f ∙ eq-eqb c d g)

    opened : (c : ℕ) (cs : List ℕ) → (c == 47) ≡ false → (c == 42) ≡ false → QuietUnder RegExp Regex (47 ∷ c ∷ cs)
    opened c cs f g = (
      record { white = refl; line = refl; slashes = λ inner. second c 47 cs inner f; block = λ inner. second c 42 cs inner g; html = λ inner. not_first 47 60 (c ∷ cs) (33 ∷ 45 ∷ 45 ∷ inner) refl },
      λ inner. not_first 47 45 (c ∷ cs) (45 ∷ 62 ∷ inner) refl,
    )

-- ---- templates (12.9.6)

-- the characters of a piece, before any end
pub quasi_fits : (text : List ℕ) (units : Option (List ℕ)) → scalars text ≡ true → ((e : Ending) (after rest : List ℕ) → templates.Ends e after rest → templates.SpellsPiece text units e (text ++ after) rest) → Fits TemplateTail (encode_utf8_all text) Quasi
quasi_fits text units s r =
    let same = chars-encodes text s in
    let x : SpecLexeme = template_lexeme text units in
    let reads : (e : Ending) (after rest : List ℕ) → templates.Ends e after rest → IsLexeme TemplateTail (text ++ after) x after = λ e after rest h. (text, units, e, rest, r e after rest h, h, refl) in record {
      kind_of = refl;
      utf8 = utf8_of text s;
      lexeme = x;
      front = tt;
      is_own = subst (λ (l : List ℕ). IsLexeme TemplateTail (l ++ 96 ∷ []) x (96 ∷ [])) (sym same) (reads BackQuote (96 ∷ []) [] refl);
      reads = λ rest h. subst (λ (l : List ℕ). IsLexeme TemplateTail (l ++ rest) x rest) (sym same) (reads h.0 rest h.1 h.2);
      quiet = λ rest h. tt;
    }

ending_fits : (e : Ending) (bytes : List ℕ) → is_ascii bytes ≡ true → ((rest : List ℕ) → templates.Ends e (bytes ++ rest) rest) → Fits TemplateEnd bytes End
ending_fits e bytes s h =
    let a = ascii bytes s in
    let x : SpecLexeme = plain (bare (ending_kind e)) in record {
      kind_of = refl;
      utf8 = a.utf8;
      lexeme = x;
      front = (e, λ rest. subst (λ (l : List ℕ). templates.Ends e (l ++ rest) rest) (sym a.same) (h rest));
      is_own = subst (λ (l : List ℕ). IsLexeme TemplateEnd l x []) (append-nil bytes ∙ sym a.same) (e, h [], refl);
      reads = λ rest n. subst (λ (l : List ℕ). IsLexeme TemplateEnd (l ++ rest) x rest) (sym a.same) (e, h rest, refl);
      quiet = λ rest n. tt;
    }

pub back_quote_ends : Fits TemplateEnd (codes "`") End
back_quote_ends = ending_fits BackQuote (codes "`") refl (λ rest. refl)

pub dollar_brace_ends : Fits TemplateEnd (codes "${") End
dollar_brace_ends = ending_fits Substitution (codes "${") refl (λ rest. refl)
