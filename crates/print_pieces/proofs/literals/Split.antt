-- Two texts are written one after the other as they are as one.
use Rattle.std.proofs.Common.{◌≡◌, ℕ, Bool, true, false, not, if◌then◌else◌, ◌<◌, List, [], ◌∷◌, ◌++◌, ◌≢◌, length, Option, None, Some, IsUtf8, refl, sym, ap, subst, ◌∙◌, append_assoc, append-nil, arith}
use Rattle.std.specs.Prelude.{◌==◌, ◌&&◌, ◌||◌, option_map, option_and_then, encode_utf8_all}
use Rattle.std.proofs.lemmas.Str.{chars-append, encodes-chars, encodes-append}
use Rattle.std.specs.Str.{chars}
use Rattle.base_token.specs.declared.place.LineCol.{LineCol}
use Rattle.print_writers.specs.Lines.{begins_with_lf, ends_line, units_of, further, next_line, after_text}
use Rattle.print_writers.specs.Pages.{Page, Marks, moved, indented, with_text, put}
use Rattle.print_writers.specs.States.{State, commit, text}
use Rattle.print_pieces.specs.Literals.Parts.{EndsApart, InTwo}

-- ---- places

-- the same of characters: these end with no CR, or those begin with no LF
abbrev pub Meets : List ℕ → List ℕ → Type 0
Meets cs ds = (front : List ℕ) → cs ≡ front ++ 13 ∷ [] → begins_with_lf ds ≡ false

then_places : (f g : LineCol → Option LineCol) (o : Option LineCol) → option_and_then (λ q. option_and_then g (f q)) o ≡ option_and_then g (option_and_then f o)
then_places f g None = refl
then_places f g (Some q) = refl

alone : (c : ℕ) (ds : List ℕ) (b : Bool) → (b ≡ true → begins_with_lf ds ≡ false) → (c == 10 || (b && not (begins_with_lf ds))) ≡ (c == 10 || (b && true))
alone c ds true h = rw (h refl) refl
alone c ds false h = refl

same : (c d : ℕ) → (c == d) ≡ true → c ≡ d
same c d e = grind (arith, e)

-- a character ends a line as before, where more follows the characters behind it
ends_alike : (c : ℕ) (cs ds : List ℕ) → Meets (c ∷ cs) ds → ends_line c (cs ++ ds) ≡ ends_line c cs
ends_alike c [] ds h = alone c ds (c == 13) (λ e. h [] (ap (λ (x : ℕ). x ∷ []) (same c 13 e)))
ends_alike c (d ∷ cs) ds h = refl

pub after_two : (place : LineCol) (cs ds : List ℕ) → Meets cs ds → after_text place (cs ++ ds) ≡ option_and_then (λ q. after_text q ds) (after_text place cs)
after_two place [] ds h = refl
after_two place (c ∷ cs) ds h =
    let next : Bool → Option LineCol = λ b. if b then next_line place else further (units_of c) place in
    let rest : (q : LineCol) → after_text q (cs ++ ds) ≡ option_and_then (λ r. after_text r ds) (after_text q cs) = λ q. after_two q cs ds (λ front e. h (c ∷ front) (ap (λ l. c ∷ l) e)) in
    ap (λ b. option_and_then (λ q. after_text q (cs ++ ds)) (next b)) (ends_alike c cs ds h)
    ∙ then_each (λ q. after_text q (cs ++ ds)) (λ q. option_and_then (λ r. after_text r ds) (after_text q cs)) rest (next (ends_line c cs))
    ∙ then_places (λ q. after_text q cs) (λ r. after_text r ds) (next (ends_line c cs))
  where
    then_each : (f g : LineCol → Option LineCol) → ((q : LineCol) → f q ≡ g q) → (o : Option LineCol) → option_and_then f o ≡ option_and_then g o
    then_each f g e None = refl
    then_each f g e (Some q) = e q

-- ---- characters of bytes

-- characters that begin with LF are bytes that do, and so at the end with CR
of_chars : (bytes cs : List ℕ) → encode_utf8_all cs ≡ bytes → begins_with_lf cs ≡ true → (rest : List ℕ) × (bytes ≡ 10 ∷ rest)
unfolding lib.Utf8.encode
of_chars bytes [] e begins = absurd (cc)
of_chars bytes (c ∷ cs) e begins = (encode_utf8_all cs, sym e ∙ ap (λ (x : ℕ). encode_utf8_all (x ∷ cs)) (same c 10 begins))

no_lf_by : (bytes : List ℕ) → IsUtf8 bytes → ((rest : List ℕ) → bytes ≢ 10 ∷ rest) → (b : Bool) → begins_with_lf (chars bytes) ≡ b → begins_with_lf (chars bytes) ≡ false
no_lf_by bytes u h true e = let r = of_chars bytes (chars bytes) (encodes-chars bytes u) e in absurd (h r.0 r.1)
no_lf_by bytes u h false e = e

no_lf : (bytes : List ℕ) → IsUtf8 bytes → ((rest : List ℕ) → bytes ≢ 10 ∷ rest) → begins_with_lf (chars bytes) ≡ false
no_lf bytes u h = no_lf_by bytes u h (begins_with_lf (chars bytes)) refl

return_byte : (bytes front : List ℕ) → IsUtf8 bytes → chars bytes ≡ front ++ 13 ∷ [] → bytes ≡ encode_utf8_all front ++ 13 ∷ []
unfolding lib.Utf8.encode
return_byte bytes front u e = sym (encodes-chars bytes u) ∙ ap (λ cs. encode_utf8_all cs) e ∙ encodes-append front (13 ∷ [])

meets : (one other : List ℕ) → IsUtf8 one → IsUtf8 other → EndsApart one other → Meets (chars one) (chars other)
meets one other u v apart front e = no_lf other v (λ rest. apart (encode_utf8_all front) rest (return_byte one front u e))

pub no_return : (one ds : List ℕ) → IsUtf8 one → ((front : List ℕ) → one ≢ front ++ 13 ∷ []) → Meets (chars one) ds
no_return one ds u h front e = absurd (h (encode_utf8_all front) (return_byte one front u e))

first_stays : (bytes cs ds : List ℕ) → encode_utf8_all cs ≡ bytes → 0 < length bytes → begins_with_lf cs ≡ false → begins_with_lf (cs ++ ds) ≡ false
first_stays bytes [] ds e some h = absurd (grind (arith, e, some))
first_stays bytes (c ∷ cs) ds e some h = h

pub no_line_feed : (cs other rest : List ℕ) → IsUtf8 other → 0 < length other → ((more : List ℕ) → other ≢ 10 ∷ more) → Meets cs (chars (other ++ rest))
no_line_feed cs other rest u some h front e =
    ap begins_with_lf (chars-append other rest u) ∙ first_stays other (chars other) (chars rest) (encodes-chars other u) some (no_lf other u h)

-- ---- marks and pages

after_moves : (one other : List ℕ) → IsUtf8 one → Meets (chars one) (chars other) → (o : Option LineCol)
    → option_and_then (λ place. after_text place (chars (one ++ other))) o ≡ option_and_then (λ place. after_text place (chars other)) (option_and_then (λ place. after_text place (chars one)) o)
after_moves one other u m None = refl
after_moves one other u m (Some place) =
    ap (after_text place) (chars-append one other u) ∙ after_two place (chars one) (chars other) m

moved_twice : (one other : List ℕ) → IsUtf8 one → Meets (chars one) (chars other) → (o : Option Marks)
    → option_map (moved (λ place. after_text place (chars (one ++ other)))) o ≡ option_map (moved (λ place. after_text place (chars other))) (option_map (moved (λ place. after_text place (chars one))) o)
unfolding moved
moved_twice one other u h None = refl
moved_twice one other u h (Some m) = ap (λ (r : Option LineCol). Some (record m { reached = r; here = [] })) (after_moves one other u h m.reached)

text_twice : (one other : List ℕ) → IsUtf8 one → Meets (chars one) (chars other) → (p : Page) → with_text (one ++ other) p ≡ with_text other (with_text one p)
unfolding with_text
text_twice one other u m p =
    ap (λ (out : List ℕ). record p { out = out; marks = option_map (moved (λ place. after_text place (chars (one ++ other)))) p.marks }) (sym (append_assoc p.out one other))
    ∙ ap (λ (k : Option Marks). record p { out = (p.out ++ one) ++ other; marks = k }) (moved_twice one other u m p.marks)

-- a line that has a text isn't indented again
already : (p : Page) → p.at_start ≡ false → indented p ≡ p
unfolding indented
already p e = rw e refl

begun_by : (p : Page) (b : Bool) → p.at_start ≡ b → (indented p).at_start ≡ false
unfolding indented
begun_by p true e = rw e refl
begun_by p false e = ap (λ (q : Page). q.at_start) (already p e) ∙ e

indented_once : (bytes : List ℕ) (p : Page) → indented (with_text bytes (indented p)) ≡ with_text bytes (indented p)
unfolding with_text
indented_once bytes p = already (with_text bytes (indented p)) (begun_by p p.at_start refl)

put_some_twice : (one other : List ℕ) → IsUtf8 one → Meets (chars one) (chars other) → (p : Page)
    → with_text (one ++ other) (indented p) ≡ with_text other (indented (with_text one (indented p)))
put_some_twice one other u m p =
    text_twice one other u m (indented p) ∙ ap (with_text other) (sym (indented_once one p))

not_nil_by : (c : ℕ) (cs : List ℕ) (b : Bool) → (length (c ∷ cs) == 0) ≡ b → (length (c ∷ cs) == 0) ≡ false
not_nil_by c cs true e = let h : length (c ∷ cs) ≡ 0 = same (length (c ∷ cs)) 0 e in absurd (grind (arith, h))
not_nil_by c cs false e = e

put_filled : (c : ℕ) (cs : List ℕ) (p : Page) → put None (c ∷ cs) p ≡ with_text (c ∷ cs) (indented p)
unfolding put
put_filled c cs p =
    subst (λ (b : Bool). (if b then p else with_text (c ∷ cs) (indented p)) ≡ with_text (c ∷ cs) (indented p)) (sym (not_nil_by c cs (length (c ∷ cs) == 0) refl)) refl

put_twice : (one other : List ℕ) → IsUtf8 one → Meets (chars one) (chars other) → (p : Page) → put None (one ++ other) p ≡ put None other (put None one p)
unfolding put
put_twice [] other u m p = refl
put_twice (c ∷ cs) [] u m p = ap (λ bytes. put None bytes p) (append-nil (c ∷ cs))
put_twice (c ∷ cs) (d ∷ ds) u m p =
    put_filled c (cs ++ d ∷ ds) p ∙ put_some_twice (c ∷ cs) (d ∷ ds) u m p ∙ sym (put_filled d ds (with_text (c ∷ cs) (indented p)))
    ∙ ap (put None (d ∷ ds)) (sym (put_filled c cs p))

pub in_two_by : (one other : List ℕ) → IsUtf8 one → Meets (chars one) (chars other) → (s : State) → text None (one ++ other) s ≡ text None other (text None one s)
unfolding text commit
in_two_by one other u m s = ap (λ (p : Page). record (commit s) { page = p }) (put_twice one other u m (commit s).page)

pub in_two : InTwo
in_two one other s u v apart = in_two_by one other u (meets one other u v apart) s
