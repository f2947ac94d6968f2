-- The functions that read Unicode escapes are their definition.
use Rattle.std.proofs.Common.{◌≡◌, ◌≢◌, ℕ, ◌+◌, ◌*◌, ◌<◌, inl, inr, ⊎_elim, Bool, true, false, cond, ◌||◌, List, [], ◌∷◌, ◌++◌, refl, sym, ap, subst, ◌∙◌, append_assoc, arith, min}
use Rattle.std.specs.Prelude.{◌==◌, Option, None, Some, IfSome, option_and_then, option_map, unwrap_or}
use Rattle.std.specs.Borrow.{Bor}
use Rattle.std.specs.Str.{chars}
use Rattle.std.proofs.lemmas.Bool.{cases_Bool, false≢true, eqb-true}
use Rattle.lex_pieces.specs.Characters.{is_between, is_hex_digit}
use Rattle.lex_pieces.specs.Runs.{Each, Ends, run, after}
use Rattle.lex_pieces.specs.Escapes.{Coded, IsFour, IsBraced, IsDigits, IsEscape, capped, digit, digits, four, braced, hex, hex_value, value_after}
use Rattle.lex_pieces.specs.ReadingTrivia.{past}
use Rattle.lex_pieces.proofs.TriviaLemmas.{is_run, past_is, whole_run}

-- ---- one digit

hex_cases : (a b c : Bool) (x y z : ℕ) (v : ℕ) → cond a (Some x) (cond b (Some y) (cond c (Some z) None)) ≡ Some v → (a || (b || c)) ≡ true
hex_cases true b c x y z v e = refl
hex_cases false true c x y z v e = refl
hex_cases false false true x y z v e = refl
hex_cases false false false x y z v e = cc

hex_none_cases : (a b c : Bool) (x y z : ℕ) → cond a (Some x) (cond b (Some y) (cond c (Some z) None)) ≡ None → (a || (b || c)) ≡ false
hex_none_cases true b c x y z e = cc
hex_none_cases false true c x y z e = cc
hex_none_cases false false true x y z e = cc
hex_none_cases false false false x y z e = refl

hex_some : (c v : ℕ) → hex_value c ≡ Some v → is_hex_digit c ≡ true
hex_some c v e = hex_cases (is_between 48 57 c) (is_between 65 70 c) (is_between 97 102 c) _ _ _ v e

hex_none : (c : ℕ) → hex_value c ≡ None → is_hex_digit c ≡ false
hex_none c e = hex_none_cases (is_between 48 57 c) (is_between 65 70 c) (is_between 97 102 c) _ _ _ e

by_value : (c : ℕ) (o : Option ℕ) → hex_value c ≡ o → is_hex_digit c ≡ true → hex_value c ≡ Some (digit c)
by_value c None e h = absurd (false≢true (sym (hex_none c e) ∙ h))
by_value c (Some v) e h = e ∙ ap (λ (n : ℕ). Some n) (sym (ap (λ o. unwrap_or o 0) e))

pub value_of : (c : ℕ) → is_hex_digit c ≡ true → hex_value c ≡ Some (digit c)
value_of c h = by_value c (hex_value c) refl h

-- ---- a run of digits

value_push : (v : ℕ) (ds : List ℕ) (d : ℕ) → value_after v (ds ++ d ∷ []) ≡ 16 * value_after v ds + digit d
value_push v [] d = refl
value_push v (x ∷ xs) d = value_push (16 * v + digit x) xs d

-- These digits stand before the rest, and their value is told.
pub record HexRun (text rest : List ℕ) (value : ℕ) : Type 0 where
  pub front : List ℕ
  pub whole : text ≡ front ++ rest
  pub each : Each is_hex_digit front
  pub told : value ≡ min (value_after 0 front) 0x11_0000

pub hex_run_none : (text : List ℕ) → HexRun text text 0
hex_run_none text = record { front = []; whole = refl; each = tt; told = refl }

each_push : (xs : List ℕ) (x : ℕ) → Each is_hex_digit xs → is_hex_digit x ≡ true → Each is_hex_digit (xs ++ x ∷ [])
each_push [] x h e = (e, tt)
each_push (y ∷ ys) x h e = (h.0, each_push ys x h.1 e)

abbrev at : List ℕ → ℕ → Option Coded
at cs v = Some (v, cs)

pub no_coded : (x : Coded) → None ≡ Some x → ⊥
no_coded x e = cc

pub same_coded : (x y : Coded) → Some x ≡ Some y → (x.0 ≡ y.0) × (x.1 ≡ y.1)
same_coded x y e = let k : x ≡ y = cc in (ap (λ (z : Coded). z.0) k, ap (λ (z : Coded). z.1) k)

hex_is_by : (c : ℕ) (cs : List ℕ) (v : ℕ) (rest : List ℕ) (o : Option ℕ) → hex_value c ≡ o → option_and_then (at cs) o ≡ Some (v, rest)
    → (d : ℕ) × (c ∷ cs ≡ d ∷ rest) × (hex_value d ≡ Some v)
hex_is_by c cs v rest None f e = absurd (no_coded (v, rest) e)
hex_is_by c cs v rest (Some w) f e =
    let k = same_coded (w, cs) (v, rest) e in
    (c, ap (λ (l : List ℕ). c ∷ l) k.1, f ∙ ap (λ (n : ℕ). Some n) k.0)

pub hex_is : (cs : List ℕ) (v : ℕ) (rest : List ℕ) → hex cs ≡ Some (v, rest) → (c : ℕ) × (cs ≡ c ∷ rest) × (hex_value c ≡ Some v)
hex_is [] v rest e = cc
hex_is (c ∷ cs) v rest e = hex_is_by c cs v rest (hex_value c) refl e

capped_more : (v w d now : ℕ) → v ≡ min w 0x11_0000 → now ≡ min (16 * v + d) 0x11_0000 → now ≡ min (16 * w + d) 0x11_0000
capped_more v w d now e f = omega arith

pub hex_run_more : (text rest more : List ℕ) (value d now : ℕ) → HexRun text rest value → hex rest ≡ Some (d, more) → now ≡ min (16 * value + d) 0x11_0000 → HexRun text more now
hex_run_more text rest more value d now h e f =
    let c = hex_is rest d more e in
    let own : digit c.0 ≡ d = ap (λ o. unwrap_or o 0) c.2 in
    record {
      front = h.front ++ c.0 ∷ [];
      whole = h.whole ∙ ap (λ l. h.front ++ l) c.1 ∙ sym (append_assoc h.front (c.0 ∷ []) more);
      each = each_push h.front c.0 h.each (hex_some c.0 d c.2);
      told = capped_more value (value_after 0 h.front) d now h.told f ∙ ap (λ n. min n 0x11_0000) (sym (value_push 0 h.front c.0 ∙ ap (λ n. 16 * value_after 0 h.front + n) own));
    }

no_value : (c : ℕ) (cs : List ℕ) (o : Option ℕ) → hex_value c ≡ o → option_and_then (at cs) o ≡ None → hex_value c ≡ None
no_value c cs None f e = f
no_value c cs (Some w) f e = absurd (no_coded (w, cs) (sym e))

ends_hex : (rest : List ℕ) → hex rest ≡ None → Ends is_hex_digit rest
ends_hex [] e = tt
ends_hex (c ∷ cs) e = hex_none c (no_value c cs (hex_value c) refl e)

pub hex_run_all : (text rest : List ℕ) (value : ℕ) → HexRun text rest value → hex rest ≡ None
    → (value ≡ min (value_after 0 (run is_hex_digit text)) 0x11_0000) × (rest ≡ after is_hex_digit text)
hex_run_all text rest value h e =
    let w = whole_run is_hex_digit h.front rest h.each (ends_hex rest e) in
    let r : run is_hex_digit text ≡ h.front = ap (run is_hex_digit) h.whole ∙ w.0 in
    let a : after is_hex_digit text ≡ rest = ap (after is_hex_digit) h.whole ∙ w.1 in
    (h.told ∙ ap (λ l. min (value_after 0 l) 0x11_0000) (sym r), sym a)

pub capped_small : (r : Option (ℕ × Bor (List ℕ))) (o : Option Coded) → option_map (λ x. (x.0, chars x.1.now)) r ≡ o → IfSome r (λ x. x.0 < 65536)
    → option_map (λ x. (x.0, chars x.1.now)) r ≡ option_map capped o
capped_small None o e h = ap (option_map capped) e
capped_small (Some x) o e h =
    let small : min x.0 0x11_0000 ≡ x.0 = omega (arith, h) in
    ap (λ n. Some (n, chars x.1.now)) (sym small) ∙ ap (option_map capped) e

-- ---- what is read is so

digit_of : (c v : ℕ) → hex_value c ≡ Some v → digit c ≡ v
digit_of c v e = ap (λ o. unwrap_or o 0) e

then_some : {X Y : Type 0} (o : Option X) (f : X → Option Y) (y : Y) → option_and_then f o ≡ Some y → (x : X) × (o ≡ Some x) × (f x ≡ Some y)
then_some None f y e = cc
then_some (Some x) f y e = (x, refl, e)

joined : (a b c d e : List ℕ) (x y z w : ℕ) → a ≡ x ∷ b → b ≡ y ∷ c → c ≡ z ∷ d → d ≡ w ∷ e → a ≡ x ∷ y ∷ z ∷ w ∷ e
joined a b c d e x y z w h i j k = cc

four_is : (cs : List ℕ) (v : ℕ) (rest : List ℕ) → four cs ≡ Some (v, rest) → IsFour cs v rest
four_is cs v rest e =
    let a = then_some (hex cs) (λ a. option_and_then (λ b. option_and_then (λ c. option_and_then (λ d. Some (16 * (16 * (16 * a.0 + b.0) + c.0) + d.0, d.1)) (hex c.1)) (hex b.1)) (hex a.1)) (v, rest) e in
    let b = then_some (hex a.0.1) (λ b. option_and_then (λ c. option_and_then (λ d. Some (16 * (16 * (16 * a.0.0 + b.0) + c.0) + d.0, d.1)) (hex c.1)) (hex b.1)) (v, rest) a.2 in
    let c = then_some (hex b.0.1) (λ c. option_and_then (λ d. Some (16 * (16 * (16 * a.0.0 + b.0.0) + c.0) + d.0, d.1)) (hex c.1)) (v, rest) b.2 in
    let d = then_some (hex c.0.1) (λ d. Some (16 * (16 * (16 * a.0.0 + b.0.0) + c.0.0) + d.0, d.1)) (v, rest) c.2 in
    let x = hex_is cs a.0.0 a.0.1 a.1 in
    let y = hex_is a.0.1 b.0.0 b.0.1 b.1 in
    let z = hex_is b.0.1 c.0.0 c.0.1 c.1 in
    let w = hex_is c.0.1 d.0.0 d.0.1 d.1 in
    let last = same_coded (16 * (16 * (16 * a.0.0 + b.0.0) + c.0.0) + d.0.0, d.0.1) (v, rest) d.2 in
    let text = joined cs a.0.1 b.0.1 c.0.1 rest x.0 y.0 z.0 w.0 x.1 y.1 z.1 (w.1 ∙ ap (λ (l : List ℕ). w.0 ∷ l) last.1) in
    let value : v ≡ value_after 0 (x.0 ∷ y.0 ∷ z.0 ∷ w.0 ∷ []) =
    omega (arith, last.0, digit_of x.0 a.0.0 x.2, digit_of y.0 b.0.0 y.2, digit_of z.0 c.0.0 z.2, digit_of w.0 d.0.0 w.2) in
    (x.0, y.0, z.0, w.0, text, (hex_some x.0 _ x.2, (hex_some y.0 _ y.2, (hex_some z.0 _ z.2, (hex_some w.0 _ w.2, tt)))), value)

run_some : (cs : List ℕ) (x : Coded) → hex cs ≡ Some x → run is_hex_digit cs ≢ []
run_some cs x e none =
    let c = hex_is cs x.0 x.1 e in
    let more : run is_hex_digit cs ≡ c.0 ∷ run is_hex_digit x.1 = ap (run is_hex_digit) c.1 ∙ ap (λ t. cond t (c.0 ∷ run is_hex_digit x.1) []) (hex_some c.0 x.0 c.2) in
    let k : c.0 ∷ run is_hex_digit x.1 ≡ [] = sym more ∙ none in
    cc

braced_is : (cs : List ℕ) (v : ℕ) (rest : List ℕ) → braced cs ≡ Some (v, rest) → IsBraced (123 ∷ cs) v rest
braced_is cs v rest e =
    let own = run is_hex_digit cs in
    let left = after is_hex_digit cs in
    let a = then_some (hex cs) (λ d. option_and_then (λ r. Some (value_after 0 own, r)) (past 125 left)) (v, rest) e in
    let r = then_some (past 125 left) (λ r. Some (value_after 0 own, r)) (v, rest) a.2 in
    let same = same_coded (value_after 0 own, r.0) (v, rest) r.2 in
    let k = is_run is_hex_digit cs in
    let close : left ≡ 125 ∷ rest = past_is 125 left r.0 r.1 ∙ ap (λ (l : List ℕ). 125 ∷ l) same.1 in
    (own, ap (λ (l : List ℕ). 123 ∷ l) (k.0 ∙ ap (λ l. own ++ l) close), run_some cs a.0 a.1, k.1, sym same.0)

pub digits_is : (cs : List ℕ) (v : ℕ) (rest : List ℕ) → digits cs ≡ Some (v, rest) → IsDigits cs v rest
digits_is [] v rest e = absurd (no_coded (v, rest) e)
digits_is (c ∷ cs) v rest e = ⊎_elim
    (λ (t : (c == 123) ≡ true). inr (subst (λ (x : ℕ). IsBraced (x ∷ cs) v rest) (sym (eqb-true c 123 t)) (braced_is cs v rest (sym (ap (λ b. cond b (braced cs) (four (c ∷ cs))) t) ∙ e))))
    (λ (t : (c == 123) ≡ false). inl (four_is (c ∷ cs) v rest (sym (ap (λ b. cond b (braced cs) (four (c ∷ cs))) t) ∙ e)))
    (cases_Bool (c == 123))

-- ---- and the other way

hex_reads : (c : ℕ) (cs : List ℕ) → is_hex_digit c ≡ true → hex (c ∷ cs) ≡ Some (digit c, cs)
hex_reads c cs h = ap (λ o. option_and_then (at cs) o) (value_of c h)

no_brace : (c : ℕ) → is_hex_digit c ≡ true → (c == 123) ≡ false
no_brace c h = ⊎_elim
    (λ (t : (c == 123) ≡ true). absurd (false≢true (sym (ap is_hex_digit (eqb-true c 123 t)) ∙ h)))
    (λ (t : (c == 123) ≡ false). t)
    (cases_Bool (c == 123))

four_reads : (a b c d : ℕ) (rest : List ℕ) → is_hex_digit a ≡ true → is_hex_digit b ≡ true → is_hex_digit c ≡ true → is_hex_digit d ≡ true
    → four (a ∷ b ∷ c ∷ d ∷ rest) ≡ Some (16 * (16 * (16 * digit a + digit b) + digit c) + digit d, rest)
four_reads a b c d rest h i j k = rw (value_of a h) (rw (value_of b i) (rw (value_of c j) (rw (value_of d k) refl)))

reads_four : (text : List ℕ) (v : ℕ) (rest : List ℕ) → IsFour text v rest → digits text ≡ Some (v, rest)
reads_four text v rest h =
    let e = h.5 in
    let value : 16 * (16 * (16 * digit h.0 + digit h.1) + digit h.2) + digit h.3 ≡ v = omega (arith, h.6) in
    ap digits h.4 ∙ ap (λ t. cond t (braced (h.1 ∷ h.2 ∷ h.3 ∷ rest)) (four (h.0 ∷ h.1 ∷ h.2 ∷ h.3 ∷ rest))) (no_brace h.0 e.0)
    ∙ four_reads h.0 h.1 h.2 h.3 rest e.0 e.1.0 e.1.1.0 e.1.1.1.0 ∙ ap (λ (n : ℕ). Some (n, rest)) value

braced_reads : (ds rest : List ℕ) → ds ≢ [] → Each is_hex_digit ds → braced (ds ++ 125 ∷ rest) ≡ Some (value_after 0 ds, rest)
braced_reads [] rest some h = absurd (some refl)
braced_reads (d ∷ ds) rest some h =
    let w = whole_run is_hex_digit (d ∷ ds) (125 ∷ rest) h refl in
    ap (λ o. option_and_then (λ x. option_and_then (λ r. Some (value_after 0 (run is_hex_digit (d ∷ (ds ++ 125 ∷ rest))), r)) (past 125 (after is_hex_digit (d ∷ (ds ++ 125 ∷ rest))))) o) (hex_reads d (ds ++ 125 ∷ rest) h.0)
    ∙ ap (λ l. option_and_then (λ r. Some (value_after 0 l, r)) (past 125 (after is_hex_digit (d ∷ (ds ++ 125 ∷ rest))))) w.0
    ∙ ap (λ l. option_and_then (λ r. Some (value_after 0 (d ∷ ds), r)) (past 125 l)) w.1

reads_braced : (text : List ℕ) (v : ℕ) (rest : List ℕ) → IsBraced text v rest → digits text ≡ Some (v, rest)
reads_braced text v rest h = ap digits h.1 ∙ braced_reads h.0 rest h.2 h.3 ∙ ap (λ (n : ℕ). Some (n, rest)) (sym h.4)

pub reads_digits : (text : List ℕ) (v : ℕ) (rest : List ℕ) → IsDigits text v rest → digits text ≡ Some (v, rest)
reads_digits text v rest (inl h) = reads_four text v rest h
reads_digits text v rest (inr h) = reads_braced text v rest h

pub one_escape : (text : List ℕ) (v w : ℕ) (r s : List ℕ) → IsEscape text v r → IsEscape text w s → (v ≡ w) × (r ≡ s)
one_escape text v w r s h g =
    let same : 92 ∷ 117 ∷ h.0 ≡ 92 ∷ 117 ∷ g.0 = sym h.1 ∙ g.1 in
    let k : h.0 ≡ g.0 = cc in
    same_coded (v, r) (w, s) (sym (reads_digits h.0 v r h.2) ∙ ap digits k ∙ reads_digits g.0 w s g.2)
