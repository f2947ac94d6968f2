-- The literals of a source as they are written are of the same values (ECMA-262, 12.9).
use Rattle.std.proofs.Common.{◌≡◌, ℕ, inl, inr, Bool, true, false, ◌||◌, List, [], ◌∷◌, ◌++◌, Option, Some, None, refl, sym, ap, subst, ◌∙◌, append_assoc, arith}
use Rattle.std.specs.Prelude.{codes, if◌then◌else◌, encode_utf8_all, is_some}
use Rattle.std.specs.Str.{chars}
use Rattle.std.proofs.lemmas.Bool.{false≢true, and_parts}
use Rattle.std.proofs.lemmas.Bool.Decides.{nat_tests}
use Rattle.std.proofs.lemmas.List.{append-nil}
use Rattle.std.proofs.lemmas.Str.{chars-encodes, encodes-append}
use Rattle.std.proofs.lemmas.Option.{same_Some}
use lib.Utf8.{scalars, scalar}
use Rattle.base_number.specs.Numbers.{SpecNumber, number_of}
use Rattle.base_token.specs.Kinds.{str_kind, num_kind, big_int_kind, template_kind, regex_kind}
use Rattle.base_token.specs.Tokens.{Content, Quoted, Piece, Pattern, Numeral, BigNumeral}
use Rattle.lex_source.specs.Machine.{told}
use Rattle.lex_pieces.specs.Runs.{Each, Ends}
use Rattle.lex_pieces.specs.RegExps.{IsRegExp}
use Rattle.lex_literal.specs.declared.template.Ending.{Ending}
use Rattle.lex_literal.specs.declared.template.Ending.TheVariants.{BackQuote}
use Rattle.lex_literal.specs.Numbers.{Number, BigInt, Spells, SpellsNumber, is_barred}
use Rattle.lex_literal.proofs.StandLemmas.{number_stands}
use Rattle.lex_literal.specs.Strings.{SpellsString}
use Rattle.lex_literal.specs.Templates as templates
use Rattle.lex_token.specs.declared.goal.LexicalGoal.TheVariants.{Div, RegExp, TemplateTail}
use Rattle.lex_token.specs.Lexemes.{SpecLexeme, IsLexeme, string_lexeme, numeral_lexeme, template_lexeme, pattern_lexeme}
use Rattle.lex_token.proofs.LexemeLemmas.{one_lexeme, same_ending}
use Rattle.lex_token.proofs.SpelledLemmas.{encoded}
use Rattle.print_spelling.specs.declared.style.Style.{Style}
use Rattle.print_spelling.specs.String.CodePoints.{AreUnits}
use Rattle.print_spelling.specs.String.Strings.{quoted, keeps_raw, string_text}
use Rattle.print_spelling.proofs.string.RawLemmas.{string_is_read}
use Rattle.print_spelling.specs.Number.Numbers.{minified, formatted, before_member, big_text, separated}
use Rattle.print_spelling.proofs.number.BigAgainLemmas.{formatted_big_is_read}
use Rattle.print_spelling.proofs.number.BigLemmas.{big_is_read}
use Rattle.print_spelling.proofs.number.MinifiedLemmas.{minified_is_read}
use Rattle.print_spelling.proofs.number.PlainLemmas.{formatted_is_read}
use Rattle.print_spelling.proofs.number.PointLemmas.{member_stands}
use Rattle.print_spelling.specs.Template.Templates.{template_text}
use Rattle.print_spelling.specs.Template.Laws.{is_code_point}
use Rattle.print_spelling.specs.Template.RegExps.{reg_exp_text}
use Rattle.print_spelling.proofs.template.ReadLemmas.{template_is_read}
use Rattle.lex_literal.proofs.TaggedLemmas.{tagged_is_read}
use Rattle.print_spelling.proofs.template.RegExpLemmas.{reg_exp_is_read}
use Rattle.grammar_spec.specs.Tokens.Input.{Input, content}
use Rattle.print_layout_spec.specs.Literals.{string_bytes, number_bytes, big_bytes, quasi_bytes}
use Rattle.print_layout_spec.specs.Looks.{joined}
use Rattle.again_laws.proofs.tokens.Ascii.{ascii, is_ascii}
use Rattle.again_laws.specs.Tokens.Means.{Means, Known}
use Rattle.again_laws.proofs.tokens.Known.{scalars_front}
use Rattle.again_laws.proofs.leaf.Origins.{from_of}
use Rattle.again_laws.proofs.leaf.StringAlone.{string_alone}
use Rattle.again_laws.proofs.leaf.Units.{string_units}
use Rattle.again_laws.proofs.leaf.Quotes.{quoted_scalars}
use Rattle.again_laws.proofs.leaf.CanonicalNumbers.{number_is_canonical}
use Rattle.again_laws.proofs.leaf.NumbersAscii.{number_is_ascii, big_is_ascii}
use Rattle.again_laws.proofs.leaf.Pieces.{template_scalars}

-- ---- small facts

pub decoded : (own w from rest : List ℕ) → scalars from ≡ true → from ≡ own ++ rest → w ≡ encode_utf8_all own → chars w ≡ own
decoded own w from rest s f e = ap chars e ∙ chars-encodes own (scalars_front own rest (sym (ap scalars f) ∙ s))

pub same_ascii : (s : List ℕ) → is_ascii s ≡ true → encode_utf8_all s ≡ s
same_ascii s a = let x = ascii s a in sym (ap encode_utf8_all x.same) ∙ sym (encoded s x.utf8)

-- one lexeme of the text, by which a meaning is told
means_by : (s : List ℕ) (l : SpecLexeme) → IsLexeme Div (chars s) l [] → (j : ℕ) (x : Content) (e : Bool) → Means Div s j x e → (j ≡ l.token.kind) × (x ≡ (told l.token).content) × (e ≡ l.escaped)
means_by s l i j x e h =
    let same = (one_lexeme Div (chars s) h.0 l [] [] h.1 i).0 in
    (h.2 ∙ ap (λ (l : SpecLexeme). l.token.kind) same, h.3 ∙ ap (λ (l : SpecLexeme). (told l.token).content) same, h.4 ∙ ap (λ (l : SpecLexeme). l.escaped) same)

-- ---- strings

string_lexes : (u text : List ℕ) (legacy : Bool) → scalars text ≡ true → SpellsString u legacy (text ++ []) [] → IsLexeme Div (chars (encode_utf8_all text)) (string_lexeme u text legacy) []
string_lexes u text legacy s h = subst (λ (l : List ℕ). IsLexeme Div l (string_lexeme u text legacy) []) (append-nil text ∙ sym (chars-encodes text s)) (inl (inr (inr (u, text, legacy, h, refl, refl))))

text_scalars : (style : Style) (u raw : List ℕ) → scalars raw ≡ true → scalars (quoted style u []) ≡ true → scalars (string_text style u (Some raw)) ≡ true
text_scalars style u raw a b = by (keeps_raw style u raw)
  where
    by : (k : Bool) → scalars (if k then raw else quoted style u []) ≡ true
    by true = a
    by false = b

-- A string that was read, as it is written: of the same units, alone and before any rest.
pub record Text (units text : List ℕ) : Type 0 where
  pub legacy : Bool
  pub are_scalars : scalars text ≡ true
  pub read : SpellsString units legacy text []

pub string_written : (style : Style) (ts : Input) (u w : List ℕ) → Known ts.places → content ts ≡ Quoted u w → Text u (string_text style u (Some (chars w)))
string_written style ts u w k c =
    let f = from_of ts (Quoted u w) k c in
    let own = f.origin.0 in
    let raw : chars w ≡ own = decoded own w f.from f.behind f.are_scalars f.origin.3 f.origin.4 in
    let read : SpellsString u f.origin.1 own [] = string_alone u f.origin.1 own f.behind (subst (λ (l : List ℕ). SpellsString u f.origin.1 l f.behind) f.origin.3 f.origin.2) in
    let us : AreUnits u = string_units u f.origin.1 f.from f.behind f.are_scalars f.origin.2 in
    let again = string_is_read style u (Some (chars w)) [] us (λ t q. (f.origin.1, subst (λ (l : List ℕ). SpellsString u f.origin.1 l []) (sym raw ∙ same_Some (chars w) t q) read)) in
    let s : scalars (chars w) ≡ true = ap scalars raw ∙ scalars_front own f.behind (sym (ap scalars f.origin.3) ∙ f.are_scalars) in record {
      legacy = again.0;
      are_scalars = text_scalars style u (chars w) s (quoted_scalars style u us);
      read = subst (λ (l : List ℕ). SpellsString u again.0 l []) (append-nil (string_text style u (Some (chars w)))) again.1;
    }

pub strings : (style : Style) (ts : Input) (u w : List ℕ) (j : ℕ) (x : Content) (e : Bool) → Known ts.places → content ts ≡ Quoted u w
    → Means Div (string_bytes style u (Some w)) j x e → (j ≡ str_kind) × (x ≡ Quoted u (string_bytes style u (Some w)))
strings style ts u w j x e k c h =
    let f = string_written style ts u w k c in
    let text = string_text style u (Some (chars w)) in
    let m = means_by (string_bytes style u (Some w)) (string_lexeme u text f.legacy) (string_lexes u text f.legacy f.are_scalars (subst (λ (l : List ℕ). SpellsString u f.legacy l []) (sym (append-nil text)) f.read)) j x e h in
    (m.0, m.1)

-- ---- numbers

number_lexes : (text : List ℕ) (v : SpecNumber) → is_ascii text ≡ true → number_of text ≡ Some v → IsLexeme Div (chars text) (numeral_lexeme (Number v) text) []
number_lexes text v a n = subst (λ (l : List ℕ). IsLexeme Div l (numeral_lexeme (Number v) text) []) (append-nil text ∙ sym (ascii text a).same) (inl (inr (inl (Number v, text, number_stands v text [] n (tt, λ _. refl), refl))))

number_means : (text : List ℕ) (v : SpecNumber) → number_of text ≡ Some v → (j : ℕ) (x : Content) (e : Bool) → Means Div text j x e → (j ≡ num_kind) × (x ≡ Numeral v text)
number_means text v n j x e h =
    let a = number_is_ascii text v n in
    let m = means_by text (numeral_lexeme (Number v) text) (number_lexes text v a n) j x e h in
    (m.0, m.1 ∙ ap (λ (l : List ℕ). Numeral v l) (same_ascii text a))

-- the bytes of a known number have its value
pub number_written : (style : Style) (ts : Input) (v : SpecNumber) (w : List ℕ) → Known ts.places → content ts ≡ Numeral v w → number_of (number_bytes style v (Some w)) ≡ Some v
number_written style ts v w k c =
    let f = from_of ts (Numeral v w) k c in
    let n : number_of f.origin.0 ≡ Some v = f.origin.1.spelled in
    let r : number_of w ≡ Some v = ap number_of (f.origin.2 ∙ same_ascii f.origin.0 (number_is_ascii f.origin.0 v n)) ∙ n in
    let p = number_is_canonical w v r in
    by style.minify (minified_is_read v p.0 p.1) (formatted_is_read style v (Some w) p.0 p.1 (λ t q. subst (λ (l : List ℕ). number_of l ≡ Some v) (same_Some w t q) r))
  where
    by : (b : Bool) → number_of (minified v) ≡ Some v → number_of (formatted style v (Some w)) ≡ Some v → number_of (if b then minified v else formatted style v (Some w)) ≡ Some v
    by true m n = m
    by false m n = n

pub numbers : (style : Style) (ts : Input) (v : SpecNumber) (w : List ℕ) (j : ℕ) (x : Content) (e : Bool) → Known ts.places → content ts ≡ Numeral v w
    → Means Div (number_bytes style v (Some w)) j x e → (j ≡ num_kind) × (x ≡ Numeral v (number_bytes style v (Some w)))
numbers style ts v w j x e k c h = number_means (number_bytes style v (Some w)) v (number_written style ts v w k c) j x e h

pub pointed : (style : Style) (ts : Input) (v : SpecNumber) (w : List ℕ) (j : ℕ) (x : Content) (e : Bool) → Known ts.places → content ts ≡ Numeral v w
    → Means Div (before_member (number_bytes style v (Some w))) j x e → (j ≡ num_kind) × (x ≡ Numeral v (before_member (number_bytes style v (Some w))))
pointed style ts v w j x e k c h =
    number_means (before_member (number_bytes style v (Some w))) v (member_stands v (number_bytes style v (Some w)) [] (number_written style ts v w k c)).spelled j x e h

-- ---- big integers

big_lexes : (radix : ℕ) (digits text : List ℕ) → SpellsNumber (BigInt radix digits) text (text ++ []) [] → IsLexeme Div (chars text) (numeral_lexeme (BigInt radix digits) text) []
big_lexes radix digits text h =
    subst (λ (l : List ℕ). IsLexeme Div l (numeral_lexeme (BigInt radix digits) text) []) (append-nil text ∙ sym (ascii text (big_is_ascii radix digits text h.spelled)).same) (inl (inr (inl (BigInt radix digits, text, h, refl))))

pub big_written : (style : Style) (ts : Input) (radix : ℕ) (digits w : List ℕ) → Known ts.places → content ts ≡ BigNumeral radix digits w → (rest : List ℕ) → Ends is_barred rest
    → SpellsNumber (BigInt radix digits) (big_bytes style radix digits (Some w)) (big_bytes style radix digits (Some w) ++ rest) rest
big_written style ts radix digits w k c rest t =
    let f = from_of ts (BigNumeral radix digits w) k c in
    let own = f.origin.0 in
    let read : Spells (BigInt radix digits) own = f.origin.1.spelled in
    let raw : w ≡ own = f.origin.2 ∙ same_ascii own (big_is_ascii radix digits own read) in
    by style.minify (big_is_read radix digits own rest read t) (formatted_big_is_read style radix digits own (Some w) rest read (λ l q. subst (λ (l : List ℕ). Spells (BigInt radix digits) l) (sym raw ∙ same_Some w l q) read) t)
  where
    by : (b : Bool) → SpellsNumber (BigInt radix digits) (big_text radix digits) (big_text radix digits ++ rest) rest → SpellsNumber (BigInt radix digits) (separated style w) (separated style w ++ rest) rest
        → SpellsNumber (BigInt radix digits) (if b then big_text radix digits else separated style w) ((if b then big_text radix digits else separated style w) ++ rest) rest
    by true m n = m
    by false m n = n

pub big_integers : (style : Style) (ts : Input) (radix : ℕ) (digits w : List ℕ) (j : ℕ) (x : Content) (e : Bool) → Known ts.places → content ts ≡ BigNumeral radix digits w
    → Means Div (big_bytes style radix digits (Some w)) j x e → (j ≡ big_int_kind) × (x ≡ BigNumeral radix digits (big_bytes style radix digits (Some w)))
big_integers style ts radix digits w j x e k c h =
    let own = big_bytes style radix digits (Some w) in
    let s = big_written style ts radix digits w k c [] tt in
    let m = means_by own (numeral_lexeme (BigInt radix digits) own) (big_lexes radix digits own s) j x e h in
    (m.0, m.1 ∙ ap (λ (l : List ℕ). BigNumeral radix digits l) (same_ascii own (big_is_ascii radix digits own s.spelled)))

-- ---- templates

pub code_points_of : (cs : List ℕ) → scalars cs ≡ true → Each is_code_point cs
code_points_of [] e = tt
code_points_of (c ∷ cs) e = let p = and_parts (scalar c) (scalars cs) e in (small c p.0, code_points_of cs p.1)
  where
    small : (c : ℕ) → scalar c ≡ true → is_code_point c ≡ true
    small c h = grind (arith, nat_tests)

quasi_lexes : (text : List ℕ) (u : Option (List ℕ)) → scalars text ≡ true → templates.SpellsPiece text u BackQuote (text ++ 96 ∷ []) [] → IsLexeme TemplateTail (chars (encode_utf8_all text) ++ 96 ∷ []) (template_lexeme text u) (96 ∷ [])
quasi_lexes text u s h = subst (λ (l : List ℕ). IsLexeme TemplateTail (l ++ 96 ∷ []) (template_lexeme text u) (96 ∷ [])) (sym (chars-encodes text s)) (text, u, BackQuote, [], h, refl, refl)

quasi_means : (text bytes : List ℕ) (u : Option (List ℕ)) → bytes ≡ encode_utf8_all text → scalars text ≡ true → templates.SpellsPiece text u BackQuote (text ++ 96 ∷ []) [] → (j : ℕ) (x : Content) (e : Bool) → Means TemplateTail bytes j x e → (j ≡ template_kind) × (x ≡ Piece bytes u)
quasi_means text bytes u b s p j x e h =
    let i = subst (λ (l : List ℕ). IsLexeme TemplateTail (chars l ++ 96 ∷ []) (template_lexeme text u) (96 ∷ [])) (sym b) (quasi_lexes text u s p) in
    let same = (one_lexeme TemplateTail (chars bytes ++ 96 ∷ []) h.0 (template_lexeme text u) (96 ∷ []) (96 ∷ []) h.1 i).0 in
    (h.2 ∙ ap (λ (l : SpecLexeme). l.token.kind) same, h.3 ∙ (ap (λ (l : SpecLexeme). (told l.token).content) same ∙ ap (λ (l : List ℕ). Piece l u) (sym b)))

-- Characters of a template that were read, as they are written: of the same units, before whatever ends them.
pub record Characters (bytes : List ℕ) (units : Option (List ℕ)) : Type 0 where
  pub text : List ℕ
  pub same : bytes ≡ encode_utf8_all text
  pub are_scalars : scalars text ≡ true
  pub read : (e : Ending) (after rest : List ℕ) → templates.Ends e after rest → templates.SpellsPiece text units e (text ++ after) rest

tagged_written : (style : Style) (ts : Input) (w : List ℕ) (u : Option (List ℕ)) → Known ts.places → content ts ≡ Piece w u → Characters (quasi_bytes style true w) u
tagged_written style ts w u k c =
    let f = from_of ts (Piece w u) k c in
    let own = f.origin.0 in
    let whole = f.origin.3 in record {
      text = own;
      same = f.origin.5;
      are_scalars = scalars_front own _ (sym (ap scalars whole.4) ∙ f.are_scalars);
      read = λ e after rest h. tagged_is_read own f.from f.origin.2 u f.origin.1 whole e after rest h;
    }

plain_written : (style : Style) (ts : Input) (w units : List ℕ) → Known ts.places → content ts ≡ Piece w (Some units) → Characters (quasi_bytes style false w) (Some units)
plain_written style ts w units k c =
    let f = from_of ts (Piece w (Some units)) k c in
    let own = f.origin.0 in
    let whole = f.origin.3 in
    let s : scalars own ≡ true = scalars_front own _ (sym (ap scalars whole.4) ∙ f.are_scalars) in
    let raw : chars w ≡ own = ap chars f.origin.5 ∙ chars-encodes own s in
    let t = template_text style own [] in record {
      text = t;
      same = ap (λ (l : List ℕ). encode_utf8_all (template_text style l [])) raw;
      are_scalars = template_scalars style own s;
      read = λ e after rest h.
          let p : templates.SpellsPiece t (Some units) e (template_text style own after) rest = template_is_read style own units f.from f.origin.2 f.origin.1 whole (code_points_of own s) e after rest h in
          subst (λ (l : List ℕ). templates.SpellsPiece t (Some units) e l rest) (p.4 ∙ ap (λ (l : List ℕ). t ++ l) (same_ending e p.1 after rest p.3 h)) p;
    }

-- with cooked units, where no tag stands before it
pub piece_written : (style : Style) (ts : Input) (tagged : Bool) (w : List ℕ) (u : Option (List ℕ)) → Known ts.places → content ts ≡ Piece w u → (tagged || is_some u) ≡ true → Characters (quasi_bytes style tagged w) u
piece_written style ts true w u k c t = tagged_written style ts w u k c
piece_written style ts false w (Some u) k c t = plain_written style ts w u k c
piece_written style ts false w None k c t = absurd (false≢true t)

pub characters : (style : Style) (ts : Input) (tagged : Bool) (w : List ℕ) (u : Option (List ℕ)) (j : ℕ) (x : Content) (e : Bool) → Known ts.places → content ts ≡ Piece w u → (tagged || is_some u) ≡ true
    → Means TemplateTail (quasi_bytes style tagged w) j x e → (j ≡ template_kind) × (x ≡ Piece (quasi_bytes style tagged w) u)
characters style ts tagged w u j x e k c t h =
    let p = piece_written style ts tagged w u k c t in
    quasi_means p.text (quasi_bytes style tagged w) u p.same p.are_scalars (p.read BackQuote (96 ∷ []) [] refl) j x e h

-- ---- regular expressions

pattern_bytes : (b f : List ℕ) → joined (codes "/" ∷ encode_utf8_all b ∷ codes "/" ∷ encode_utf8_all f ∷ []) ≡ encode_utf8_all (reg_exp_text b f [])
unfolding lib.Utf8.encode
pattern_bytes b f = ap (λ (l : List ℕ). 47 ∷ l) (ap (λ (l : List ℕ). encode_utf8_all b ++ 47 ∷ l) (sym (encodes-append f [])) ∙ sym (encodes-append b (47 ∷ (f ++ []))))

-- a regular expression that was read, by its characters
pub record Expression (b f : List ℕ) : Type 0 where
  pub body : List ℕ
  pub flags : List ℕ
  pub body_same : b ≡ encode_utf8_all body
  pub flags_same : f ≡ encode_utf8_all flags
  pub are_scalars : scalars (reg_exp_text body flags []) ≡ true
  pub same : joined (codes "/" ∷ b ∷ codes "/" ∷ f ∷ []) ≡ encode_utf8_all (reg_exp_text body flags [])
  pub read : IsRegExp (reg_exp_text body flags []) body flags []

pub pattern_written : (ts : Input) (b f : List ℕ) → Known ts.places → content ts ≡ Pattern b f → Expression b f
pattern_written ts b f k c =
    let o = from_of ts (Pattern b f) k c in
    let body = o.origin.0 in
    let flags = o.origin.1 in
    let r = o.origin.2 in
    let whole : o.from ≡ (47 ∷ body ++ 47 ∷ (flags ++ [])) ++ o.behind =
    r.1.1 ∙ (ap (λ (l : List ℕ). 47 ∷ body ++ 47 ∷ l) r.1.2.0 ∙ (ap (λ (l : List ℕ). 47 ∷ body ++ 47 ∷ (l ++ o.behind)) (sym (append-nil flags)) ∙ ap (λ (l : List ℕ). 47 ∷ l) (sym (append_assoc body (47 ∷ (flags ++ [])) o.behind)))) in record {
      body = body;
      flags = flags;
      body_same = o.origin.3;
      flags_same = o.origin.4;
      are_scalars = scalars_front (reg_exp_text body flags []) o.behind (sym (ap scalars whole) ∙ o.are_scalars);
      same = ap (λ (l : List ℕ). joined (codes "/" ∷ l ∷ codes "/" ∷ f ∷ [])) o.origin.3 ∙ (ap (λ (l : List ℕ). joined (codes "/" ∷ encode_utf8_all body ∷ codes "/" ∷ l ∷ [])) o.origin.4 ∙ pattern_bytes body flags);
      read = reg_exp_is_read o.from body flags o.behind [] r tt;
    }

pub patterns : (ts : Input) (b f : List ℕ) (j : ℕ) (x : Content) (e : Bool) → Known ts.places → content ts ≡ Pattern b f → Means RegExp (joined (codes "/" ∷ b ∷ codes "/" ∷ f ∷ [])) j x e
    → (j ≡ regex_kind) × (x ≡ Pattern b f)
patterns ts b f j x e k c h =
    let p = pattern_written ts b f k c in
    let l = pattern_lexeme p.body p.flags in
    let i : IsLexeme RegExp (chars (joined (codes "/" ∷ b ∷ codes "/" ∷ f ∷ []))) l [] = subst (λ (t : List ℕ). IsLexeme RegExp t l []) (sym (ap chars p.same ∙ chars-encodes (reg_exp_text p.body p.flags []) p.are_scalars))
    (inr (inl (refl, (p.body, p.flags, p.read, refl)))) in
    let same = (one_lexeme RegExp (chars (joined (codes "/" ∷ b ∷ codes "/" ∷ f ∷ []))) h.0 l [] [] h.1 i).0 in
    (h.2 ∙ ap (λ (l : SpecLexeme). l.token.kind) same, h.3 ∙ (ap (λ (l : SpecLexeme). (told l.token).content) same ∙ (ap (λ (t : List ℕ). Pattern t (encode_utf8_all p.flags)) (sym p.body_same) ∙ ap (λ (t : List ℕ). Pattern b t) (sym p.flags_same))))
