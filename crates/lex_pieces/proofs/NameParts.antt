-- The parts of a name, as the code reads them.
use Rattle.std.proofs.Common.{◌≡◌, ◌≢◌, ℕ, ◌<◌, ◌⊎◌, inl, inr, ⊎_elim, Bool, true, false, cond, min, List, [], ◌∷◌, ◌++◌, length, IsUtf8, refl, sym, ap, subst, ◌∙◌, append_assoc, append-nil, arith}
use Rattle.std.specs.Prelude.{◌==◌, Option, None, Some, option_map, encode_utf8_all}
use Rattle.std.specs.Char.{IsScalar}
use Rattle.std.specs.Str.{chars}
use Rattle.std.proofs.lemmas.Bool.{false≢true, cases_Bool, eqb-true}
use Rattle.std.proofs.lemmas.Bool.Decides.{nat_tests}
use Rattle.std.proofs.lemmas.Str.{chars_from_encodes, encodes-append, encodes-chars}
use Rattle.std.proofs.Math.Bool.{or-true}
use Rattle.base_token.specs.declared.error.Error.{Error}
use Rattle.base_token.specs.declared.error.SyntaxError.TheVariants.{InvalidIdentChar, InvalidUnicodeEscape, Memory}
use Rattle.lex_pieces.specs.Characters.{is_name_start, is_name_part}
use Rattle.lex_pieces.specs.Escapes.{Coded, IsDigits, capped, digits}
use Rattle.lex_pieces.specs.Names.{IsBad, IsBareFront, IsFaultWithin, IsName, IsNameChar, IsNameFault, IsUnescaped, NoName, Spell, is_continuing, is_name_char, is_nil}
use Rattle.lex_pieces.specs.Places.{IsAt}
use Rattle.lex_pieces.specs.Runs.{Each, Ends, run, after}
use Rattle.lex_pieces.proofs.EscapeLemmas.{digits_is, no_coded, reads_digits, same_coded}
use Rattle.lex_pieces.proofs.NameLemmas.{backslash, cond_same, no_name, spell_append, spell_run, starts_continue}
use Rattle.lex_pieces.proofs.TriviaLemmas.{is_run}
use Rattle.lex_pieces.proofs.Passing.{Seam, seam}
use Rattle.lex_pieces.proofs.Following.{empty_text}

-- ---- escapes

pub told_none : (o : Option Coded) → None ≡ option_map capped o → o ≡ None
told_none None e = refl
told_none (Some x) e = absurd (no_coded (capped x) e)

pub told_some : (code : ℕ) (left : List ℕ) (o : Option Coded) → Some (code, left) ≡ option_map capped o → (v : ℕ) × (o ≡ Some (v, left)) × (code ≡ min v 0x11_0000)
told_some code left None e = absurd (no_coded (code, left) (sym e))
told_some code left (Some x) e =
    let k = same_coded (code, left) (capped x) e in
    (x.0, ap (λ (l : List ℕ). Some (x.0, l)) (sym k.1), k.0)

scalar_small : (c : ℕ) → IsScalar c → c < 0x11_0000
scalar_small c h = grind (arith, nat_tests)

pub bad_digits : (end : ℕ) (first : Bool) (text inner : List ℕ) (e : Error) → text ≡ 92 ∷ 117 ∷ inner → digits inner ≡ None → e.kind ≡ InvalidUnicodeEscape → IsAt end text inner e.span → IsBad end first text e
bad_digits end first text inner e cut none kind at =
    (inner, at, inr (inl (kind, cut, λ v rest h. no_coded (v, rest) (sym none ∙ reads_digits inner v rest h))))

pub bad_char : (end : ℕ) (first : Bool) (text inner left : List ℕ) (v code : ℕ) (e : Error) → text ≡ 92 ∷ 117 ∷ inner → digits inner ≡ Some (v, left) → code ≡ min v 0x11_0000
    → (IsScalar code → is_name_char first code ≡ true → ⊥) → e.kind ≡ InvalidIdentChar → IsAt end text left e.span → IsBad end first text e
bad_char end first text inner left v code e cut some told never kind at = (
  left,
  at,
  inr (inr (
    kind,
    (
      v,
      (inner, cut, digits_is inner v left some),
      λ s n.
          let small = scalar_small v s in
          let same : v ≡ code = omega arith in
          never (subst IsScalar same s) (subst (λ x. is_name_char first x ≡ true) same n),
    ),
  )),
)

pub good_char : (first : Bool) (text inner left : List ℕ) (v code : ℕ) → text ≡ 92 ∷ 117 ∷ inner → digits inner ≡ Some (v, left) → code ≡ min v 0x11_0000
    → IsScalar code → is_name_char first code ≡ true → IsNameChar first text code left
good_char first text inner left v code cut some told s n =
    let small = scalar_small code s in
    let same : v ≡ code = omega arith in
    (n, inr (s, (inner, cut, subst (λ x. IsDigits inner x left) same (digits_is inner v left some))))

-- ---- the front of a name

pub part_at_backslash : is_name_part 92 ≡ false
part_at_backslash = backslash false

pub bare_nothing : (text own more : List ℕ) → own ≡ [] → text ≡ 92 ∷ more → IsBareFront text own text
bare_nothing text own more e cut = subst (λ l. IsBareFront text l text) (sym e) (
  refl,
  refl,
  subst (Ends is_name_part) (sym cut) part_at_backslash,
  tt,
  λ _. (more, cut),
)

pub bare_front : (text left own rest : List ℕ) (c : ℕ) → text ≡ c ∷ left → is_name_start c ≡ true → own ≡ c ∷ run is_name_part left → rest ≡ after is_name_part left → IsBareFront text own rest
bare_front text left own rest c cut start e f =
    let k = is_run is_name_part left in
    let whole : text ≡ (c ∷ run is_name_part left) ++ after is_name_part left = cut ∙ ap (λ (l : List ℕ). c ∷ l) k.0 in
    let spelled : Spell true text (c ∷ run is_name_part left) (after is_name_part left) =
    (left, (start, inl cut), subst (λ l. Spell false l (run is_name_part left) (after is_name_part left)) (sym k.0) (spell_run (run is_name_part left) (after is_name_part left) k.1)) in
    subst (λ l. IsBareFront text l rest) (sym e) (subst (λ l. IsBareFront text (c ∷ run is_name_part left) l) (sym f)
    (whole, spelled, k.2, (starts_continue c start, k.1), λ none. cc))

pub front_seam : (text rest left : List ℕ) (c : ℕ) → IsUtf8 text → IsUtf8 rest → chars text ≡ c ∷ left → chars rest ≡ after is_name_part left → Seam text rest (c ∷ run is_name_part left)
front_seam text rest left c u v e f =
    let k = is_run is_name_part left in
    let whole : chars text ≡ (c ∷ run is_name_part left) ++ chars rest = e ∙ ap (λ (l : List ℕ). c ∷ l) k.0 ∙ ap (λ l. (c ∷ run is_name_part left) ++ l) (sym f) in
    seam text rest (c ∷ run is_name_part left) u v whole

-- ---- a name put together

pub record Made (own text : List ℕ) (bytes left : List ℕ) (first : Bool) : Type 0 where
  pub cs : List ℕ
  pub told : bytes ≡ encode_utf8_all (own ++ cs)
  pub spell : Spell (is_nil own) text cs left
  pub ends : Ends is_name_part left
  pub mark : first ≡ cond (is_nil cs) (is_nil own) false

pub made_none : (own s text : List ℕ) (bytes : List ℕ) (first : Bool) → IsUtf8 s → chars s ≡ own → bytes ≡ s → Ends is_name_part text → first ≡ (length s == 0) → Made own text bytes text first
made_none own s text bytes first u e same ends f = record {
  cs = [];
  told = same ∙ sym (encodes-chars s u) ∙ ap encode_utf8_all (e ∙ sym (append-nil own));
  spell = refl;
  ends = ends;
  mark = f ∙ empty_text s u ∙ ap is_nil e;
}

no_nil_push : (cs bs : List ℕ) (c : ℕ) (own : Bool) → false ≡ cond (is_nil (cs ++ c ∷ bs)) own false
no_nil_push [] bs c own = refl
no_nil_push (x ∷ xs) bs c own = refl

pub made_more : (own text bytes newer left mid bare next : List ℕ) (first : Bool) (c : ℕ) → Made own text bytes left first → IsNameChar first left c mid
    → bare ≡ run is_name_part mid → next ≡ after is_name_part mid → newer ≡ bytes ++ encode_utf8_all (c ∷ bare) → Made own text newer next false
made_more own text bytes newer left mid bare next first c h char e f new =
    let k = is_run is_name_part mid in
    let parts : mid ≡ bare ++ next = k.0 ∙ ap (λ l. l ++ after is_name_part mid) (sym e) ∙ ap (λ l. bare ++ l) (sym f) in
    let each : Each is_name_part bare = subst (Each is_name_part) (sym e) k.1 in
    let tail : Spell false mid bare next = subst (λ l. Spell false l bare next) (sym parts) (spell_run bare next each) in
    let char_at = subst (λ b. IsNameChar b left c mid) h.mark char in
    record {
      cs = h.cs ++ c ∷ bare;
      told = new ∙ ap (λ l. l ++ encode_utf8_all (c ∷ bare)) h.told ∙ sym (encodes-append (own ++ h.cs) (c ∷ bare)) ∙ ap encode_utf8_all (append_assoc own h.cs (c ∷ bare));
      spell = spell_append (is_nil own) text h.cs left (c ∷ bare) next h.spell (mid, char_at, tail);
      ends = subst (Ends is_name_part) (sym f) k.2;
      mark = no_nil_push h.cs bare c (is_nil own);
    }

ends_all : (left : List ℕ) → Ends is_name_part left → ((more : List ℕ) → left ≢ 92 ∷ more) → Ends is_continuing left
ends_all [] h never = tt
ends_all (c ∷ cs) h never = ⊎_elim
    (λ (t : (c == 92) ≡ true). absurd (never cs (ap (λ (x : ℕ). x ∷ cs) (eqb-true c 92 t))))
    (λ (t : (c == 92) ≡ false). rw h t)
    (cases_Bool (c == 92))

pub made_all : (own text bytes left : List ℕ) (first : Bool) → Made own text bytes left first → ((more : List ℕ) → left ≢ 92 ∷ more) → IsUnescaped own text bytes left
made_all own text bytes left first h never = (h.cs, h.told, h.spell, ends_all left h.ends never)

pub made_fault : (end : ℕ) (own text bytes left : List ℕ) (first : Bool) (e : Error) → Made own text bytes left first → IsBad end first left e → IsFaultWithin end (is_nil own) text e
made_fault end own text bytes left first e h bad = (h.cs, left, h.spell, subst (λ b. IsBad end b left e) h.mark bad)

-- ---- a name from its parts

cond_self : (b : Bool) → cond b true false ≡ b
cond_self true = refl
cond_self false = refl

both_marks : (xs ys : List ℕ) → cond (is_nil ys) (is_nil xs) false ≡ cond (is_nil (xs ++ ys)) true false
both_marks [] ys = refl
both_marks (x ∷ xs) ys = cond_same (is_nil ys) false

joined : (text own rest cs left : List ℕ) → IsBareFront text own rest → Spell (is_nil own) rest cs left → Spell true text (own ++ cs) left
joined text own rest cs left h k = spell_append true text own rest cs left h.1 (subst (λ b. Spell b rest cs left) (sym (cond_self (is_nil own))) k)

pub whole_fault : (end : ℕ) (text own rest : List ℕ) (e : Error) → IsBareFront text own rest → IsFaultWithin end (is_nil own) rest e → IsNameFault end text e
whole_fault end text own rest e h k =
    (own ++ k.0, k.1, joined text own rest k.0 k.1 h k.2, subst (λ b. IsBad end b k.1 e) (both_marks own k.0) k.3)

some_letters : (text own rest cs left : List ℕ) → IsBareFront text own rest → Spell (is_nil own) rest cs left → Ends is_continuing left → own ++ cs ≢ []
some_letters text [] rest [] left h k ends none =
    let b = h.4 refl in
    let t : is_continuing 92 ≡ false = subst (Ends is_continuing) (sym k ∙ b.1) ends in
    false≢true (sym t ∙ or-true (is_name_part 92))
some_letters text [] rest (c ∷ cs) left h k ends none = cc
some_letters text (x ∷ xs) rest cs left h k ends none = cc

pub whole_name : (text own rest bytes left : List ℕ) → IsUtf8 bytes → IsBareFront text own rest → IsUnescaped own rest bytes left → IsName text (chars bytes) left
whole_name text own rest bytes left u h k =
    let letters : own ++ k.0 ≡ chars bytes = chars_from_encodes (own ++ k.0) bytes u (sym k.1) in
    subst (λ l. IsName text l left) letters (some_letters text own rest k.0 left h k.2 k.3, joined text own rest k.0 left h k.2, k.3)

pub whole_refusal : (end : ℕ) (text own rest : List ℕ) (e : Error) → IsBareFront text own rest → (e.kind ≡ Memory) ⊎ IsFaultWithin end (is_nil own) rest e
    → (e.kind ≡ Memory) ⊎ (NoName text × IsNameFault end text e)
whole_refusal end text own rest e h (inl k) = inl k
whole_refusal end text own rest e h (inr k) = let f = whole_fault end text own rest e h k in inr (no_name end text e f, f)
