-- Whether the characters of a template stand at a front, up to what ends them.
use Rattle.std.proofs.Common.{◌≡◌, ℕ, zero, suc, ◌<◌, ◌≤◌, ◌⊎◌, inl, inr, ⊎_elim, true, false, ◌&&◌, List, [], ◌∷◌, ◌++◌, length, length-append, append_assoc, refl, sym, ap, subst, ◌∙◌, arith}
use Rattle.std.specs.Prelude.{◌==◌, Option, Some, None as Nothing}
use Rattle.std.proofs.lemmas.Bool.{cases_Bool, false≢true, eqb-true, and_parts, cases_eq}
use Rattle.std.proofs.lemmas.Bool.Decides.{nat_tests}
use Rattle.lex_literal.specs.declared.escape.Escape.{Escape}
use Rattle.lex_literal.specs.declared.template.Ending.{Ending}
use Rattle.lex_literal.specs.declared.template.Ending.TheVariants.{BackQuote, Substitution}
use Rattle.lex_literal.specs.Escapes.{begins, is_line_feed, IsEscape}
use Rattle.lex_literal.specs.Reading.{escape_at}
use Rattle.lex_literal.specs.Units.{is_legacy}
use Rattle.lex_literal.specs.Templates.{Part, Bare, Break, Escaped, Bad, Stands, Parts, Ends, cooked, is_bare, is_brace}
use Rattle.lex_literal.proofs.EscapeLemmas.{escape_front, found_stands, none_stands, one_escape}
use Rattle.lex_literal.proofs.TemplateLemmas.{none_at_end, one_rest}
use Rattle.lex_token.specs.Lexemes.{SpecLexeme, IsCharacters, IsEnd, ending_kind, plain, template_lexeme}
use Rattle.lex_token.proofs.LexemeLemmas.{same_ending}
use Rattle.base_token.specs.Tokens.{bare}
use Rattle.lex_pieces.proofs.ListLemmas.{same_head, same_tail, nil_cons}
use Rattle.lex_step_laws.proofs.Deciding.{Decided}

-- ---- what ends a piece

abbrev Ending_At : List ℕ → Type 0
Ending_At text = ((ending : Ending) × (r : List ℕ) × Ends ending text r) ⊎ ((ending : Ending) (r : List ℕ) → Ends ending text r → ⊥)

no_ending : (text : List ℕ) → ((r : List ℕ) → text ≡ 96 ∷ r → ⊥) → ((r : List ℕ) → text ≡ 36 ∷ 123 ∷ r → ⊥) → (ending : Ending) (r : List ℕ) → Ends ending text r → ⊥
no_ending text n m BackQuote r h = n r h
no_ending text n m Substitution r h = m r h

brace_or_not : (c : ℕ) (cs : List ℕ) → (c ≡ 96 → ⊥) → Ending_At (c ∷ cs)
brace_or_not c [] n = inr (no_ending (c ∷ []) (λ r e. n (same_head c 96 [] r e)) (λ r e. nil_cons 123 r (same_tail c 36 [] (123 ∷ r) e)))
brace_or_not c (d ∷ ds) n = ⊎_elim
    (λ (t : (c == 36 && d == 123) ≡ true).
    let p = and_parts (c == 36) (d == 123) t in
    inl (Substitution, ds, ap (λ (x : ℕ). x ∷ d ∷ ds) (eqb-true c 36 p.0) ∙ ap (λ (x : ℕ). 36 ∷ x ∷ ds) (eqb-true d 123 p.1)))
    (λ (f : (c == 36 && d == 123) ≡ false). inr (no_ending (c ∷ d ∷ ds) (λ r e. n (same_head c 96 (d ∷ ds) r e)) (λ r e.
    let first : c ≡ 36 = same_head c 36 (d ∷ ds) (123 ∷ r) e in
    let second : d ≡ 123 = same_head d 123 ds r (same_tail c 36 (d ∷ ds) (123 ∷ r) e) in
    let k : (c == 36 && d == 123) ≡ true = rw (first, second) refl in
    false≢true (sym f ∙ k))))
    (cases_Bool (c == 36 && d == 123))

pub ending_or_not : (text : List ℕ) → Ending_At text
ending_or_not [] = inr (no_ending [] (λ r e. nil_cons 96 r e) (λ r e. nil_cons 36 (123 ∷ r) e))
ending_or_not (c ∷ cs) = ⊎_elim
    (λ (e : c ≡ 96). inl (BackQuote, cs, ap (λ (x : ℕ). x ∷ cs) e))
    (λ (n : c ≡ 96 → ⊥). brace_or_not c cs n)
    (cases_eq c 96)

pub end_or_not : (text : List ℕ) → Decided IsEnd text
end_or_not text = ⊎_elim
    (λ (h : (ending : Ending) × (r : List ℕ) × Ends ending text r). inl (plain (bare (ending_kind h.0)), h.1, (h.0, h.2, refl)))
    (λ (n : (ending : Ending) (r : List ℕ) → Ends ending text r → ⊥). inr (λ x rest h. n h.0 rest h.1))
    (ending_or_not text)

ending_shorter : (ending : Ending) (text r : List ℕ) → Ends ending text r → length r < length text
ending_shorter BackQuote text r h = let e = ap length h in omega (arith, e)
ending_shorter Substitution text r h = let e = ap length h in omega (arith, e)

pub end_shorter : (text : List ℕ) (x : SpecLexeme) (rest : List ℕ) → IsEnd text x rest → length rest < length text
end_shorter text x rest h = ending_shorter h.0 text rest h.1

-- ---- one part

-- a part, with its own text; or none
record Next (text : List ℕ) : Type 0 where
  part : Part
  own : List ℕ
  rest : List ℕ
  whole : text ≡ own ++ rest
  some : 0 < length own
  stands : Stands part text rest

abbrev Part_At : List ℕ → Type 0
Part_At text = Next text ⊎ ((p : Part) (r : List ℕ) → Stands p text r → ⊥)

break_at : (cs : List ℕ) → Next (13 ∷ cs)
break_at cs = ⊎_elim
    (λ (t : begins is_line_feed cs ≡ true). feed cs t)
    (λ (f : begins is_line_feed cs ≡ false). record { part = Break; own = 13 ∷ []; rest = cs; whole = refl; some = omega arith; stands = inr (refl, f) })
    (cases_Bool (begins is_line_feed cs))
  where
    feed : (ds : List ℕ) → begins is_line_feed ds ≡ true → Next (13 ∷ ds)
    feed [] t = absurd (false≢true t)
    feed (d ∷ ds) t =
        let e : 13 ∷ d ∷ ds ≡ 13 ∷ 10 ∷ ds = ap (λ (x : ℕ). 13 ∷ x ∷ ds) (eqb-true d 10 t) in
        record { part = Break; own = 13 ∷ 10 ∷ []; rest = ds; whole = e; some = omega arith; stands = inl e }

bad_at : (c : ℕ) (cs : List ℕ) → ((e : Escape) (s : List ℕ) → IsEscape e (c ∷ cs) s → is_legacy e ≡ true) → Next (92 ∷ c ∷ cs)
bad_at c cs h = record { part = Bad c; own = 92 ∷ c ∷ []; rest = cs; whole = refl; some = omega arith; stands = (refl, h) }

escape_part : (c : ℕ) (cs : List ℕ) (o : Option (Escape × List ℕ)) → escape_at (c ∷ cs) ≡ o → Next (92 ∷ c ∷ cs)
escape_part c cs Nothing e = bad_at c cs (λ x s h. absurd (none_stands (c ∷ cs) (sym e) x s h))
escape_part c cs (Some (x, r)) e =
    let is = found_stands (c ∷ cs) x r (sym e) in
    let f = escape_front x (c ∷ cs) r is in
    ⊎_elim
    (λ (t : is_legacy x ≡ true). bad_at c cs (λ y s h. ap is_legacy (one_escape (c ∷ cs) y x s r h is).0 ∙ t))
    (λ (n : is_legacy x ≡ false). record {
      part = Escaped x;
      own = 92 ∷ f.0;
      rest = r;
      whole = ap (λ (l : List ℕ). 92 ∷ l) f.1;
      some = omega arith;
      stands = (c ∷ cs, refl, is, n);
    })
    (cases_Bool (is_legacy x))

no_part_nil : (p : Part) (r : List ℕ) → Stands p [] r → ⊥
no_part_nil (Bare c) r h = nil_cons c r h.0
no_part_nil Break r (inl e) = nil_cons 13 (10 ∷ r) e
no_part_nil Break r (inr e) = nil_cons 13 r e.0
no_part_nil (Escaped e) r h = nil_cons 92 h.0 h.1
no_part_nil (Bad c) r h = nil_cons 92 (c ∷ r) h.0

no_break : (c : ℕ) (r : List ℕ) → 92 ∷ [] ≡ 13 ∷ r → ⊥
no_break c r e = let k = same_head 92 13 [] r e in omega (arith, k)

no_part_lone : (p : Part) (r : List ℕ) → Stands p (92 ∷ []) r → ⊥
no_part_lone (Bare c) r h = false≢true (ap is_bare (same_head 92 c [] r h.0) ∙ h.1)
no_part_lone Break r (inl e) = no_break 0 (10 ∷ r) e
no_part_lone Break r (inr e) = no_break 0 r e.0
no_part_lone (Escaped e) r h = none_stands [] refl e r (subst (λ t. IsEscape e t r) (sym (same_tail 92 92 [] h.0 h.1)) h.2)
no_part_lone (Bad c) r h = nil_cons c r (same_tail 92 92 [] (c ∷ r) h.0)

backslash_at : (cs : List ℕ) → Part_At (92 ∷ cs)
backslash_at [] = inr no_part_lone
backslash_at (c ∷ cs) = inl (escape_part c cs (escape_at (c ∷ cs)) refl)

not_brace : (c : ℕ) (cs : List ℕ) → ((r : List ℕ) → c ∷ cs ≡ 36 ∷ 123 ∷ r → ⊥) → c ≡ 36 → begins is_brace cs ≡ false
not_brace c [] n e = refl
not_brace c (d ∷ ds) n e = ⊎_elim
    (λ (t : (d == 123) ≡ true). absurd (n ds (ap (λ (x : ℕ). x ∷ d ∷ ds) e ∙ ap (λ (x : ℕ). 36 ∷ x ∷ ds) (eqb-true d 123 t))))
    (λ (f : (d == 123) ≡ false). f)
    (cases_Bool (d == 123))

is_bare_by : (c : ℕ) → (c ≡ 96 → ⊥) → (c ≡ 92 → ⊥) → (c ≡ 13 → ⊥) → is_bare c ≡ true
is_bare_by c a b d = grind (arith, nat_tests, a, b, d)

part_or_not : (text : List ℕ) → ((ending : Ending) (r : List ℕ) → Ends ending text r → ⊥) → Part_At text
part_or_not [] n = inr no_part_nil
part_or_not (c ∷ cs) n = ⊎_elim
    (λ (e : c ≡ 13). inl (subst (λ (x : ℕ). Next (x ∷ cs)) (sym e) (break_at cs)))
    (λ (no_return : c ≡ 13 → ⊥). ⊎_elim
    (λ (e : c ≡ 92). subst (λ (x : ℕ). Part_At (x ∷ cs)) (sym e) (backslash_at cs))
    (λ (no_backslash : c ≡ 92 → ⊥).
    let quote : c ≡ 96 → ⊥ = λ e. n BackQuote cs (ap (λ (x : ℕ). x ∷ cs) e) in
    inl (record {
      part = Bare c;
      own = c ∷ [];
      rest = cs;
      whole = refl;
      some = omega arith;
      stands = (refl, is_bare_by c quote no_backslash no_return, not_brace c cs (λ r e. n Substitution r e));
    }))
    (cases_eq c 92))
    (cases_eq c 13)

-- ---- a piece

record Piece (text : List ℕ) : Type 0 where
  parts : List Part
  ending : Ending
  own : List ℕ
  mid : List ℕ
  rest : List ℕ
  stand : Parts parts text mid
  ends : Ends ending mid rest
  whole : text ≡ own ++ mid

abbrev No_Piece : List ℕ → Type 0
No_Piece text = (ps : List Part) (ending : Ending) (m r : List ℕ) → Parts ps text m → Ends ending m r → ⊥

longer : (text : List ℕ) (p : Next text) → Piece p.rest → Piece text
longer text p q = record {
  parts = p.part ∷ q.parts;
  ending = q.ending;
  own = p.own ++ q.own;
  mid = q.mid;
  rest = q.rest;
  stand = (p.rest, p.stands, q.stand);
  ends = q.ends;
  whole = p.whole ∙ ap (λ x. p.own ++ x) q.whole ∙ sym (append_assoc p.own q.own q.mid);
}

none_longer : (text : List ℕ) (p : Next text) → No_Piece p.rest → No_Piece text
none_longer text p n [] ending m r h e = none_at_end p.part ending text p.rest r (subst (λ t. Ends ending t r) (sym h) e) p.stands
none_longer text p n (o ∷ os) ending m r h e = n os ending m r (subst (λ t. Parts os t m) (one_rest o p.part text h.0 p.rest h.1 p.stands) h.2) e

none_here : (text : List ℕ) → ((ending : Ending) (r : List ℕ) → Ends ending text r → ⊥) → ((p : Part) (r : List ℕ) → Stands p text r → ⊥) → No_Piece text
none_here text n m [] ending mid r h e = n ending r (subst (λ t. Ends ending t r) (sym h) e)
none_here text n m (o ∷ os) ending mid r h e = m o h.0 h.1

piece_by : (text : List ℕ) → Ending_At text → ((p : Next text) → Piece p.rest ⊎ No_Piece p.rest) → Piece text ⊎ No_Piece text
piece_by text (inl h) more = inl (record { parts = []; ending = h.0; own = []; mid = text; rest = h.1; stand = refl; ends = h.2; whole = refl })
piece_by text (inr n) more = ⊎_elim
    (λ (p : Next text). ⊎_elim
    (λ (q : Piece p.rest). inl (longer text p q))
    (λ (m : No_Piece p.rest). inr (none_longer text p m))
    (more p))
    (λ (m : (p : Part) (r : List ℕ) → Stands p text r → ⊥). inr (none_here text n m))
    (part_or_not text n)

piece_or_not : (n : ℕ) (text : List ℕ) → length text ≤ n → Piece text ⊎ No_Piece text
piece_or_not zero text h = piece_by text (ending_or_not text) (λ p. let e = ap length p.whole in let s = p.some in absurd (omega (arith, h, e, s, length-append p.own p.rest)))
piece_or_not (suc n) text h = piece_by text (ending_or_not text) (λ p. piece_or_not n p.rest (let e = ap length p.whole in let s = p.some in omega (arith, h, e, s, length-append p.own p.rest)))

pub characters_or_not : (text : List ℕ) → Decided IsCharacters text
characters_or_not text = ⊎_elim
    (λ (p : Piece text). inl (template_lexeme p.own (cooked p.parts), p.mid, (p.own, cooked p.parts, p.ending, p.rest, (p.parts, p.mid, p.stand, p.ends, p.whole, refl), p.ends, refl)))
    (λ (n : No_Piece text). inr (λ x rest h. n h.4.0 h.2 h.4.1 h.3 h.4.2 h.4.3))
    (piece_or_not (length text) text (omega arith))

-- ---- characters take no more than there is

pub characters_no_longer : (text : List ℕ) (x : SpecLexeme) (rest : List ℕ) → IsCharacters text x rest → length rest ≤ length text
characters_no_longer text x rest h =
    let e = ap length h.4.4 in
    let s = ap length (same_ending h.2 rest h.4.1 h.3 h.5 h.4.3) in
    omega (arith, e, s, length-append h.0 h.4.1)
