-- The piece of a template that is read is the one that the definition has.
use Rattle.std.proofs.Common.{◌≡◌, ℕ, ◌⊎◌, inl, inr, ⊎_elim, Bool, true, false, cond, List, [], ◌∷◌, ◌++◌, append-nil, append_assoc, refl, sym, ap, subst, ◌∙◌, arith}
use Rattle.std.specs.Prelude.{Option, Some, None, is_some, unwrap_or, not, ◌&&◌, ◌||◌, ◌==◌, MatchOption, MatchResult, IsOkAnd, IsErrAnd, Result, Ok, Err}
use Rattle.std.specs.Char.Escape.{encode_utf16}
use Rattle.std.specs.List.{flat_map, list_any}
use Rattle.std.proofs.lemmas.Bool.{cases_Bool, false≢true}
use Rattle.std.proofs.lemmas.Bool.Decides.{nat_tests}
use Rattle.std.proofs.lemmas.List.{append_cancel_right}
use Rattle.base_token.specs.declared.error.Error.{Error}
use Rattle.base_token.specs.declared.error.SyntaxError.TheVariants.{LegacyOctal}
use Rattle.base_token.specs.Utf16.{utf16}
use Rattle.lex_literal.specs.declared.escape.Escape.{Escape}
use Rattle.lex_literal.specs.declared.escape.Escape.TheVariants.{Continuation, Code, Legacy}
use Rattle.lex_literal.specs.declared.template.Ending.{Ending}
use Rattle.lex_literal.specs.declared.template.Ending.TheVariants.{BackQuote, Substitution}
use Rattle.lex_literal.specs.Escapes.{begins, is_line_feed, IsEscape}
use Rattle.lex_pieces.specs.Places.{IsAt}
use Rattle.lex_pieces.proofs.ListLemmas.{same_head, same_tail, nil_cons}
use Rattle.lex_literal.specs.Places.{EndsWith}
use Rattle.lex_literal.specs.Reading.{escape_at}
use Rattle.lex_literal.specs.Units.{escape_units, is_legacy, CodeFits}
use Rattle.lex_literal.specs.Templates.{Part, Bare, Break, Escaped, Bad, Stands, Parts, part_units, is_bad, Ends, SpellsPiece, NoPiece, IsBadEscape, IsFirstBad, OnePiece, is_bare, is_brace, bare_run, after_bare}
use Rattle.lex_literal.proofs.EscapeLemmas.{one_escape, escape_read, escape_front}

-- ---- one part

is_return : ℕ → Bool
is_return c = c == 13

is_backslash : ℕ → Bool
is_backslash c = c == 92

clash : (p q : ℕ → Bool) (text : List ℕ) → begins p text ≡ true → begins q text ≡ true → ((c : ℕ) → p c ≡ true → q c ≡ true → ⊥) → ⊥
clash p q [] e f h = false≢true e
clash p q (c ∷ cs) e f h = h c e f

bare_return : (c : ℕ) → is_bare c ≡ true → is_return c ≡ true → ⊥
unfolding is_return
bare_return c e f = let g : is_bare c ≡ false = grind (arith, nat_tests) in false≢true (sym g ∙ e)

bare_backslash : (c : ℕ) → is_bare c ≡ true → is_backslash c ≡ true → ⊥
unfolding is_backslash
bare_backslash c e f = let g : is_bare c ≡ false = grind (arith, nat_tests) in false≢true (sym g ∙ e)

return_backslash : (c : ℕ) → is_return c ≡ true → is_backslash c ≡ true → ⊥
unfolding is_return is_backslash
return_backslash c e f = let g : (c == 13) ≡ false = grind (arith, nat_tests) in false≢true (sym g ∙ e)

bare_first : (c : ℕ) (text r : List ℕ) → Stands (Bare c) text r → begins is_bare text ≡ true
bare_first c text r h = ap (begins is_bare) h.0 ∙ h.1

break_first : (text r : List ℕ) → Stands Break text r → begins is_return text ≡ true
unfolding is_return
break_first text r h = ⊎_elim
    (λ (e : text ≡ 13 ∷ 10 ∷ r). ap (begins is_return) e)
    (λ (x : (text ≡ 13 ∷ r) × (begins is_line_feed r ≡ false)). ap (begins is_return) x.0)
    h

escaped_first : (e : Escape) (text r : List ℕ) → Stands (Escaped e) text r → begins is_backslash text ≡ true
unfolding is_backslash
escaped_first e text r h = ap (begins is_backslash) h.1

bad_first : (c : ℕ) (text r : List ℕ) → Stands (Bad c) text r → begins is_backslash text ≡ true
unfolding is_backslash
bad_first c text r h = ap (begins is_backslash) h.0

record Same (p q : Part) (r s : List ℕ) : Type 0 where
  units : part_units p ≡ part_units q
  bad : is_bad p ≡ is_bad q
  rest : r ≡ s

one_break : (text r s : List ℕ) → Stands Break text r → Stands Break text s → r ≡ s
one_break text r s h i = ⊎_elim
    (λ (e : text ≡ 13 ∷ 10 ∷ r). ⊎_elim
    (λ (f : text ≡ 13 ∷ 10 ∷ s). same_tail 10 10 r s (same_tail 13 13 (10 ∷ r) (10 ∷ s) (sym e ∙ f)))
    (λ (y : (text ≡ 13 ∷ s) × (begins is_line_feed s ≡ false)).
    absurd (false≢true (sym y.1 ∙ ap (begins is_line_feed) (sym (same_tail 13 13 (10 ∷ r) s (sym e ∙ y.0))))))
    i)
    (λ (x : (text ≡ 13 ∷ r) × (begins is_line_feed r ≡ false)). ⊎_elim
    (λ (f : text ≡ 13 ∷ 10 ∷ s).
    absurd (false≢true (sym x.1 ∙ ap (begins is_line_feed) (same_tail 13 13 r (10 ∷ s) (sym x.0 ∙ f)))))
    (λ (y : (text ≡ 13 ∷ s) × (begins is_line_feed s ≡ false)). same_tail 13 13 r s (sym x.0 ∙ y.0))
    i)
    h

not_both : (e : Escape) (c : ℕ) (text r s : List ℕ) → Stands (Escaped e) text r → Stands (Bad c) text s → ⊥
not_both e c text r s h i =
    let m = same_tail 92 92 h.0 (c ∷ s) (sym h.1 ∙ i.0) in
    false≢true (sym h.3 ∙ i.1 e r (subst (λ t. IsEscape e t r) m h.2))

one_part : (p q : Part) (text r s : List ℕ) → Stands p text r → Stands q text s → Same p q r s
one_part (Bare c) (Bare d) text r s h i =
    let e : c ∷ r ≡ d ∷ s = sym h.0 ∙ i.0 in
    record { units = ap encode_utf16 (same_head c d r s e); bad = refl; rest = same_tail c d r s e }
one_part (Bare c) Break text r s h i = absurd (clash is_bare is_return text (bare_first c text r h) (break_first text s i) bare_return)
one_part (Bare c) (Escaped e) text r s h i = absurd (clash is_bare is_backslash text (bare_first c text r h) (escaped_first e text s i) bare_backslash)
one_part (Bare c) (Bad d) text r s h i = absurd (clash is_bare is_backslash text (bare_first c text r h) (bad_first d text s i) bare_backslash)
one_part Break (Bare c) text r s h i = absurd (clash is_bare is_return text (bare_first c text s i) (break_first text r h) bare_return)
one_part Break Break text r s h i = record { units = refl; bad = refl; rest = one_break text r s h i }
one_part Break (Escaped e) text r s h i = absurd (clash is_return is_backslash text (break_first text r h) (escaped_first e text s i) return_backslash)
one_part Break (Bad c) text r s h i = absurd (clash is_return is_backslash text (break_first text r h) (bad_first c text s i) return_backslash)
one_part (Escaped e) (Bare c) text r s h i = absurd (clash is_bare is_backslash text (bare_first c text s i) (escaped_first e text r h) bare_backslash)
one_part (Escaped e) Break text r s h i = absurd (clash is_return is_backslash text (break_first text s i) (escaped_first e text r h) return_backslash)
one_part (Escaped e) (Escaped f) text r s h i =
    let m = same_tail 92 92 h.0 i.0 (sym h.1 ∙ i.1) in
    let o = one_escape i.0 e f r s (subst (λ t. IsEscape e t r) m h.2) i.2 in
    record { units = ap escape_units o.0; bad = refl; rest = o.1 }
one_part (Escaped e) (Bad c) text r s h i = absurd (not_both e c text r s h i)
one_part (Bad c) (Bare d) text r s h i = absurd (clash is_bare is_backslash text (bare_first d text s i) (bad_first c text r h) bare_backslash)
one_part (Bad c) Break text r s h i = absurd (clash is_return is_backslash text (break_first text s i) (bad_first c text r h) return_backslash)
one_part (Bad c) (Escaped e) text r s h i = absurd (not_both e c text s r i h)
one_part (Bad c) (Bad d) text r s h i =
    record { units = refl; bad = refl; rest = same_tail c d r s (same_tail 92 92 (c ∷ r) (d ∷ s) (sym h.0 ∙ i.0)) }

pub one_rest : (p q : Part) (text r s : List ℕ) → Stands p text r → Stands q text s → r ≡ s
one_rest p q text r s h i = (one_part p q text r s h i).rest

-- ---- the end of a piece

is_end : ℕ → Bool
is_end c = c == 96

bare_end : (c : ℕ) → is_bare c ≡ true → is_end c ≡ true → ⊥
unfolding is_end
bare_end c e f = let g : is_bare c ≡ false = grind (arith, nat_tests) in false≢true (sym g ∙ e)

none_at_quote : (p : Part) (text r s : List ℕ) → text ≡ 96 ∷ s → Stands p text r → ⊥
unfolding is_end is_return is_backslash
none_at_quote (Bare c) text r s e h = clash is_bare is_end text (bare_first c text r h) (ap (begins is_end) e) bare_end
none_at_quote Break text r s e h = false≢true (sym (ap (begins is_return) e) ∙ break_first text r h)
none_at_quote (Escaped x) text r s e h = false≢true (sym (ap (begins is_backslash) e) ∙ escaped_first x text r h)
none_at_quote (Bad c) text r s e h = false≢true (sym (ap (begins is_backslash) e) ∙ bad_first c text r h)

none_at_brace : (p : Part) (text r s : List ℕ) → text ≡ 36 ∷ 123 ∷ s → Stands p text r → ⊥
unfolding is_return is_backslash
none_at_brace (Bare c) text r s e h =
    let both : c ∷ r ≡ 36 ∷ 123 ∷ s = sym h.0 ∙ e in
    false≢true (sym (h.2 (same_head c 36 r (123 ∷ s) both)) ∙ ap (begins is_brace) (same_tail c 36 r (123 ∷ s) both))
none_at_brace Break text r s e h = false≢true (sym (ap (begins is_return) e) ∙ break_first text r h)
none_at_brace (Escaped x) text r s e h = false≢true (sym (ap (begins is_backslash) e) ∙ escaped_first x text r h)
none_at_brace (Bad c) text r s e h = false≢true (sym (ap (begins is_backslash) e) ∙ bad_first c text r h)

pub none_at_end : (p : Part) (ending : Ending) (text r s : List ℕ) → Ends ending text s → Stands p text r → ⊥
none_at_end p BackQuote text r s e h = none_at_quote p text r s e h
none_at_end p Substitution text r s e h = none_at_brace p text r s e h

record SameEnd (a b : Ending) (r s : List ℕ) : Type 0 where
  ending : a ≡ b
  rest : r ≡ s

one_end : (a b : Ending) (text r s : List ℕ) → Ends a text r → Ends b text s → SameEnd a b r s
one_end BackQuote BackQuote text r s h i = record { ending = refl; rest = same_tail 96 96 r s (sym h ∙ i) }
one_end BackQuote Substitution text r s h i = absurd (false≢true (ap (begins (λ c. c == 36)) (sym h ∙ i)))
one_end Substitution BackQuote text r s h i = absurd (false≢true (ap (begins (λ c. c == 96)) (sym h ∙ i)))
one_end Substitution Substitution text r s h i = record { ending = refl; rest = same_tail 123 123 r s (same_tail 36 36 (123 ∷ r) (123 ∷ s) (sym h ∙ i)) }

-- ---- at most one piece

record SameParts (ps qs : List Part) (m n : List ℕ) : Type 0 where
  units : flat_map part_units ps ≡ flat_map part_units qs
  bad : list_any is_bad ps ≡ list_any is_bad qs
  rest : m ≡ n

same_parts : (ps qs : List Part) (a b : Ending) (text m n r s : List ℕ) → Parts ps text m → Ends a m r → Parts qs text n → Ends b n s → SameParts ps qs m n
same_parts [] [] a b text m n r s h e i f = record { units = refl; bad = refl; rest = sym h ∙ i }
same_parts [] (q ∷ qs) a b text m n r s h e i f = absurd (none_at_end q a text i.0 r (subst (λ t. Ends a t r) (sym h) e) i.1)
same_parts (p ∷ ps) [] a b text m n r s h e i f = absurd (none_at_end p b text h.0 s (subst (λ t. Ends b t s) (sym i) f) h.1)
same_parts (p ∷ ps) (q ∷ qs) a b text m n r s h e i f =
    let one = one_part p q text h.0 i.0 h.1 i.1 in
    let more = same_parts ps qs a b i.0 m n r s (subst (λ t. Parts ps t m) one.rest h.2) e i.2 f in
    record {
      units = ap (λ x. x ++ flat_map part_units ps) one.units ∙ ap (λ x. part_units q ++ x) more.units;
      bad = ap (λ x. x || list_any is_bad ps) one.bad ∙ ap (λ x. is_bad q || x) more.bad;
      rest = more.rest;
    }

pub one_piece : OnePiece
one_piece own other units others a b text r s h i =
    let same = same_parts h.0 i.0 a b text h.1 i.1 r s h.2 h.3 i.2 i.3 in
    let end = one_end a b i.1 r s (subst (λ t. Ends a t r) same.rest h.3) i.3 in (
      append_cancel_right own other i.1 (ap (λ x. own ++ x) (sym same.rest) ∙ sym h.4 ∙ i.4),
      h.5 ∙ ap (λ x. cond x None (Some (flat_map part_units h.0))) same.bad
          ∙ ap (λ x. cond (list_any is_bad i.0) None (Some x)) same.units ∙ sym i.5,
      end.ending,
      end.rest,
    )

-- ---- what comes next

pub bad_next : (end : ℕ) (text behind more rest : List ℕ) (x : ℕ) (e : Escape) (error : Error) → text ≡ 92 ∷ behind → behind ≡ x ∷ more
    → IsEscape e behind rest → is_legacy e ≡ true → error.kind ≡ LegacyOctal → IsAt end text rest error.span
    → (c : ℕ) × Stands (Bad c) text more × IsBadEscape end (c ∷ more) error
bad_next end text behind more rest x Continuation error h i f l k p = absurd (false≢true l)
bad_next end text behind more rest x (Code n) error h i f l k p = absurd (false≢true l)
bad_next end text behind more rest x (Legacy n) error h i f l k p =
    let whole = h ∙ ap (λ (t : List ℕ). 92 ∷ t) i in
    let mine = subst (λ t. IsEscape (Legacy n) t rest) i f in (
      x,
      (whole, λ e s g. ap is_legacy (one_escape (x ∷ more) e (Legacy n) s rest g mine).0),
      inr (n, rest, mine, k, subst (λ t. IsAt end t rest error.span) whole p),
    )

pub good_next : (text behind rest : List ℕ) (e : Escape) → text ≡ 92 ∷ behind → IsEscape e behind rest → is_legacy e ≡ false → CodeFits e
    → (p : Part) × Stands p text rest × (is_bad p ≡ false) × (part_units p ≡ escape_units e) × CodeFits e
good_next text behind rest e h f l fits = (Escaped e, (behind, h, f, l), refl, refl, fits)

-- ---- what was read so far

abbrev pub State : ℕ → List ℕ → List Part → List ℕ → Option Error → Type 0
State end text ps us None = (list_any is_bad ps ≡ false) × (us ≡ flat_map part_units ps)
State end text ps us (Some e) = (list_any is_bad ps ≡ true) × IsFirstBad end text e

pub record Kept (end : ℕ) (text rest us : List ℕ) (bad : Option Error) : Type 0 where
  pub parts : List Part
  pub stand : Parts parts text rest
  pub state : State end text parts us bad
  pub suffix : EndsWith text rest

pub kept_none : (end : ℕ) (text : List ℕ) → Kept end text text [] None
kept_none end text = record { parts = []; stand = refl; state = (refl, refl); suffix = ([], refl) }

parts_more : (ps : List Part) (p : Part) (text m r : List ℕ) → Parts ps text m → Stands p m r → Parts (ps ++ p ∷ []) text r
parts_more [] p text m r h i = (r, subst (λ t. Stands p t r) (sym h) i, refl)
parts_more (o ∷ os) p text m r h i = (h.0, h.1, parts_more os p h.0 m r h.2 i)

units_more : (ps : List Part) (p : Part) → flat_map part_units (ps ++ p ∷ []) ≡ flat_map part_units ps ++ part_units p
units_more [] p = append-nil (part_units p)
units_more (o ∷ os) p = ap (λ x. part_units o ++ x) (units_more os p) ∙ sym (append_assoc (part_units o) (flat_map part_units os) (part_units p))

bad_more : (ps : List Part) (p : Part) → list_any is_bad (ps ++ p ∷ []) ≡ (list_any is_bad ps || is_bad p)
bad_more [] p = elim (is_bad p) as (λ v. (v || false) ≡ v) [ true ↦ refl | false ↦ refl ]
bad_more (o ∷ os) p =
    ap (λ x. is_bad o || x) (bad_more os p)
    ∙ elim (is_bad o) as (λ v. (v || (list_any is_bad os || is_bad p)) ≡ ((v || list_any is_bad os) || is_bad p)) [ true ↦ refl | false ↦ refl ]

suffix_more : (text rest r : List ℕ) → EndsWith text rest → EndsWith rest r → EndsWith text r
suffix_more text rest r s f = (s.0 ++ f.0, s.1 ∙ ap (λ x. s.0 ++ x) f.1 ∙ sym (append_assoc s.0 f.0 r))

part_front : (p : Part) (text r : List ℕ) → Stands p text r → EndsWith text r
part_front (Bare c) text r h = (c ∷ [], h.0)
part_front Break text r h = ⊎_elim
    (λ (e : text ≡ 13 ∷ 10 ∷ r). (13 ∷ 10 ∷ [], e))
    (λ (x : (text ≡ 13 ∷ r) × (begins is_line_feed r ≡ false)). (13 ∷ [], x.0))
    h
part_front (Escaped e) text r h = let f = escape_front e h.0 r h.2 in (92 ∷ f.0, h.1 ∙ ap (λ (x : List ℕ). 92 ∷ x) f.1)
part_front (Bad c) text r h = (92 ∷ c ∷ [], h.0)

good_state : (end : ℕ) (text : List ℕ) (ps : List Part) (p : Part) (us vs : List ℕ) (bad : Option Error) → State end text ps us bad → is_bad p ≡ false
    → vs ≡ us ++ part_units p → State end text (ps ++ p ∷ []) vs bad
good_state end text ps p us vs None s e f = (
  bad_more ps p ∙ ap (λ x. x || is_bad p) s.0 ∙ e,
  f ∙ ap (λ x. x ++ part_units p) s.1 ∙ sym (units_more ps p),
)
good_state end text ps p us vs (Some x) s e f = (bad_more ps p ∙ ap (λ x. x || is_bad p) s.0, s.1)

pub kept_part : (end : ℕ) (text rest r us vs : List ℕ) (bad : Option Error) (p : Part) → Kept end text rest us bad → Stands p rest r → is_bad p ≡ false
    → vs ≡ us ++ part_units p → Kept end text r vs bad
kept_part end text rest r us vs bad p k h e f = record {
  parts = k.parts ++ p ∷ [];
  stand = parts_more k.parts p text rest r k.stand h;
  state = good_state end text k.parts p us vs bad k.state e f;
  suffix = suffix_more text rest r k.suffix (part_front p rest r h);
}

bad_state : (end : ℕ) (text : List ℕ) (ps : List Part) (c : ℕ) (r us : List ℕ) (bad : Option Error) (error : Error) → State end text ps us bad
    → Parts ps text (92 ∷ c ∷ r) → IsBadEscape end (c ∷ r) error → State end text (ps ++ Bad c ∷ []) us (Some (unwrap_or bad error))
bad_state end text ps c r us None error s h b = (bad_more ps (Bad c) ∙ ap (λ x. x || true) s.0, (ps, c, r, h, s.0, b))
bad_state end text ps c r us (Some x) error s h b = (bad_more ps (Bad c) ∙ ap (λ x. x || true) s.0, s.1)

pub kept_bad : (end : ℕ) (text rest r us : List ℕ) (bad : Option Error) (c : ℕ) (error : Error) → Kept end text rest us bad → Stands (Bad c) rest r
    → IsBadEscape end (c ∷ r) error → Kept end text r us (Some (unwrap_or bad error))
kept_bad end text rest r us bad c error k h b = record {
  parts = k.parts ++ Bad c ∷ [];
  stand = parts_more k.parts (Bad c) text rest r k.stand h;
  state = bad_state end text k.parts c r us bad error k.state (subst (Parts k.parts text) h.0 k.stand) b;
  suffix = suffix_more text rest r k.suffix (part_front (Bad c) rest r h);
}

-- bare characters
bare_stands : (c : ℕ) (cs : List ℕ) → (is_bare c && not (c == 36 && begins is_brace cs)) ≡ true → Stands (Bare c) (c ∷ cs) cs
bare_stands c cs e =
    let f : is_bare c ≡ true = first (is_bare c) (not (c == 36 && begins is_brace cs)) e in
    (refl, f, λ d. dollar c (begins is_brace cs) d (second (is_bare c) (not (c == 36 && begins is_brace cs)) e))
  where
    first : (a b : Bool) → (a && b) ≡ true → a ≡ true
    first true b h = refl
    first false b h = absurd (false≢true h)

    second : (a b : Bool) → (a && b) ≡ true → b ≡ true
    second true b h = h
    second false b h = absurd (false≢true h)

    dollar : (c : ℕ) (b : Bool) → c ≡ 36 → not (c == 36 && b) ≡ true → b ≡ false
    dollar c true d h = absurd (false≢true (sym (ap (λ x. not (x == 36 && true)) d) ∙ h))
    dollar c false d h = refl

pub kept_bare : (end : ℕ) (text rest us : List ℕ) (bad : Option Error) → Kept end text rest us bad
    → Kept end text (after_bare rest) (us ++ utf16 (bare_run rest)) bad
kept_bare end text [] us bad k = subst (λ x. Kept end text [] x bad) (sym (append-nil us)) k
kept_bare end text (c ∷ cs) us bad k = ⊎_elim
    (λ (e : (is_bare c && not (c == 36 && begins is_brace cs)) ≡ true).
    let one = kept_part end text (c ∷ cs) cs us (us ++ encode_utf16 c) bad (Bare c) k (bare_stands c cs e) refl refl in
    let more = kept_bare end text cs (us ++ encode_utf16 c) bad one in
    let joined = subst (λ x. Kept end text (after_bare cs) x bad) (append_assoc us (encode_utf16 c) (utf16 (bare_run cs))) more in
    subst (λ (t : Bool). Kept end text (cond t (after_bare cs) (c ∷ cs)) (us ++ utf16 (cond t (c ∷ bare_run cs) [])) bad) (sym e) joined)
    (λ (e : (is_bare c && not (c == 36 && begins is_brace cs)) ≡ false).
    subst (λ (t : Bool). Kept end text (cond t (after_bare cs) (c ∷ cs)) (us ++ utf16 (cond t (c ∷ bare_run cs) [])) bad) (sym e)
    (subst (λ x. Kept end text (c ∷ cs) x bad) (sym (append-nil us)) k))
    (cases_Bool (is_bare c && not (c == 36 && begins is_brace cs)))

pub kept_at : (end : ℕ) (text rest own more us vs : List ℕ) (bad : Option Error) → Kept end text rest us bad → own ≡ bare_run rest → more ≡ after_bare rest
    → vs ≡ us ++ utf16 own → Kept end text more vs bad
kept_at end text rest own more us vs bad k e f g =
    subst (λ v. Kept end text more v bad) (ap (λ x. us ++ utf16 x) (sym e) ∙ sym g)
    (subst (λ m. Kept end text m (us ++ utf16 (bare_run rest)) bad) (sym f) (kept_bare end text rest us bad k))

-- ---- the end

pub finished : (end : ℕ) (text own m r us : List ℕ) (ending : Ending) (bad : Option Error) → Kept end text m us bad → Ends ending m r → text ≡ own ++ m
    → MatchOption bad (SpellsPiece own (Some us) ending text r) (λ e. SpellsPiece own None ending text r × IsFirstBad end text e)
finished end text own m r us ending None k h e = (
  k.parts,
  m,
  k.stand,
  h,
  e,
  ap Some k.state.1 ∙ sym (ap (λ t. cond t None (Some (flat_map part_units k.parts))) k.state.0),
)
finished end text own m r us ending (Some x) k h e = (
  (k.parts, m, k.stand, h, e, sym (ap (λ t. cond t None (Some (flat_map part_units k.parts))) k.state.0)),
  k.state.1,
)

-- ---- where no piece stands

common : (ps qs : List Part) (text m s : List ℕ) → Parts ps text m → Parts qs text s → ((os : List Part) × Parts os m s) ⊎ ((os : List Part) × Parts os s m)
common [] qs text m s h i = inl (qs, subst (λ t. Parts qs t s) h i)
common (p ∷ ps) [] text m s h i = inr (p ∷ ps, subst (λ t. Parts (p ∷ ps) t m) i h)
common (p ∷ ps) (o ∷ os) text m s h i =
    let one = one_part p o text h.0 i.0 h.1 i.1 in
    common ps os i.0 m s (subst (λ t. Parts ps t m) one.rest h.2) i.2

-- the text ends there, perhaps behind a backslash
abbrev pub Open : List ℕ → Type 0
Open m = (m ≡ []) ⊎ (m ≡ 92 ∷ [])

no_end : (a : Ending) (m r : List ℕ) → Open m → Ends a m r → ⊥
no_end BackQuote m r o h = ⊎_elim
    (λ (e : m ≡ []). nil_cons 96 r (sym e ∙ h))
    (λ (e : m ≡ 92 ∷ []). false≢true (ap (begins (λ c. c == 96)) (sym e ∙ h)))
    o
no_end Substitution m r o h = ⊎_elim
    (λ (e : m ≡ []). nil_cons 36 (123 ∷ r) (sym e ∙ h))
    (λ (e : m ≡ 92 ∷ []). false≢true (ap (begins (λ c. c == 36)) (sym e ∙ h)))
    o

no_escape_at_end : (e : Escape) (r : List ℕ) → IsEscape e [] r → ⊥
no_escape_at_end e r h = let f : escape_at [] ≡ Some (e, r) = escape_read e [] r h in false≢true (ap is_some f)

no_part : (p : Part) (m r : List ℕ) → Open m → Stands p m r → ⊥
unfolding is_return is_backslash
no_part (Bare c) m r o h = ⊎_elim
    (λ (e : m ≡ []). nil_cons c r (sym e ∙ h.0))
    (λ (e : m ≡ 92 ∷ []). bare_backslash c h.1 (ap (λ l. begins is_backslash l) (sym h.0 ∙ e)))
    o
no_part Break m r o h = ⊎_elim
    (λ (e : m ≡ []). false≢true (sym (ap (begins is_return) e) ∙ break_first m r h))
    (λ (e : m ≡ 92 ∷ []). false≢true (sym (ap (begins is_return) e) ∙ break_first m r h))
    o
no_part (Escaped x) m r o h = ⊎_elim
    (λ (e : m ≡ []). nil_cons 92 h.0 (sym e ∙ h.1))
    (λ (e : m ≡ 92 ∷ []). no_escape_at_end x r (subst (λ t. IsEscape x t r) (same_tail 92 92 h.0 [] (sym h.1 ∙ e)) h.2))
    o
no_part (Bad c) m r o h = ⊎_elim
    (λ (e : m ≡ []). nil_cons 92 (c ∷ r) (sym e ∙ h.0))
    (λ (e : m ≡ 92 ∷ []). nil_cons c r (same_tail 92 92 [] (c ∷ r) (sym e ∙ h.0)))
    o

pub no_piece : (end : ℕ) (text m us : List ℕ) (bad : Option Error) → Kept end text m us bad → Open m → NoPiece text
no_piece end text m us bad k o ps ending r h =
    ⊎_elim
    (λ (x : (os : List Part) × Parts os m h.0). mine x.0 m h.0 r ending o x.1 h.2)
    (λ (x : (os : List Part) × Parts os h.0 m). theirs x.0 h.0 m r ending o x.1 h.2)
    (common k.parts ps text m h.0 k.stand h.1)
  where
    mine : (os : List Part) (m s r : List ℕ) (ending : Ending) → Open m → Parts os m s → Ends ending s r → ⊥
    mine [] m s r ending o h e = no_end ending m r o (subst (λ t. Ends ending t r) (sym h) e)
    mine (p ∷ ps) m s r ending o h e = no_part p m h.0 o h.1

    theirs : (os : List Part) (s m r : List ℕ) (ending : Ending) → Open m → Parts os s m → Ends ending s r → ⊥
    theirs [] s m r ending o h e = no_end ending m r o (subst (λ t. Ends ending t r) h e)
    theirs (p ∷ ps) s m r ending o h e = none_at_end p ending s h.0 r e h.1

pub cooked_piece : (end : ℕ) (text own r us : List ℕ) (ending : Ending) (bad : Option Error) (answer : Result (List ℕ) Error)
    → MatchOption bad (IsOkAnd answer (λ v. v ≡ us)) (λ e. IsErrAnd answer (λ f. f ≡ e))
    → MatchOption bad (SpellsPiece own (Some us) ending text r) (λ e. SpellsPiece own None ending text r × IsFirstBad end text e)
    → MatchResult answer (λ v. SpellsPiece own (Some v) ending text r) (λ e. SpellsPiece own None ending text r × IsFirstBad end text e)
cooked_piece end text own r us ending None (Ok v) e h = subst (λ x. SpellsPiece own (Some x) ending text r) (sym e) h
cooked_piece end text own r us ending None (Err f) e h = absurd e
cooked_piece end text own r us ending (Some x) (Ok v) e h = absurd e
cooked_piece end text own r us ending (Some x) (Err f) e h = (h.0, subst (IsFirstBad end text) (sym e) h.1)
