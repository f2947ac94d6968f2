-- Regular expressions are determined, and are what the functions on lists read.
use Rattle.std.proofs.Common.{◌≡◌, ◌≢◌, ℕ, ⊎_elim, Bool, true, false, cond, not, ◌&&◌, List, [], ◌∷◌, ◌++◌, refl, sym, ap, subst, ◌∙◌, append-nil, append_assoc, arith}
use Rattle.std.specs.Prelude.{◌==◌, None, Some}
use Rattle.std.proofs.lemmas.Bool.{and_parts, cases_Bool, eqb-true, false≢true}
use Rattle.std.proofs.lemmas.Bool.Decides.{nat_tests}
use Rattle.std.proofs.lemmas.List.{append_cancel_right}
use Rattle.std.proofs.lemmas.Option.{same_Some}
use Rattle.lex_pieces.specs.Characters.{is_among, is_line_terminator, is_name_part}
use Rattle.lex_pieces.specs.Classes.{is_line_char, is_reg_exp_char}
use Rattle.lex_pieces.specs.Runs.{Each, Ends, IsRun, Passed, run, after}
use Rattle.lex_pieces.specs.RegExps.{Mark, Bare, Escaped, Part, One, Class, EachInClass, EachPart, Goes, IsBody, IsOpenSlash, IsPart, IsRegExp, NoRegExp, OneRegExp, class_after, is_body_char, is_class_char, is_comment_mark, past_body, past_slash, spelled_all, spelled_part, spelled_parts}
use Rattle.lex_pieces.proofs.NameLemmas.{cond_same}
use Rattle.lex_pieces.proofs.TriviaLemmas.{is_run, one_run}
use Rattle.lex_pieces.proofs.ListLemmas.{same_tail}

-- ---- one character more

pub bare : (k l : Bool) (c : ℕ) (cs : List ℕ) → is_line_char c ≡ true → (c == 92) ≡ false → (c == 47 && not k) ≡ false → class_after k c ≡ l
    → past_body false k (c ∷ cs) ≡ past_body false l cs
bare k l c cs line back slash now =
    ap (λ b. cond b (cond (c == 92) (past_body true k cs) (cond (c == 47 && not k) (Some cs) (past_body false (class_after k c) cs))) None) line
    ∙ ap (λ b. cond b (past_body true k cs) (cond (c == 47 && not k) (Some cs) (past_body false (class_after k c) cs))) back
    ∙ ap (λ b. cond b (Some cs) (past_body false (class_after k c) cs)) slash
    ∙ ap (λ b. past_body false b cs) now

keeps : (k : Bool) (c : ℕ) → (c == 91) ≡ false → (c == 93) ≡ false → class_after k c ≡ k
keeps k c e f = ap (λ b. cond b true (cond (c == 93) false k)) e ∙ ap (λ b. cond b false k) f

no_end : (k : Bool) (c : ℕ) → (c == 47) ≡ false → (c == 47 && not k) ≡ false
no_end k c e = ap (λ b. b && not k) e

pub plain : (k : Bool) (c : ℕ) (cs : List ℕ) → is_reg_exp_char c ≡ true → past_body false k (c ∷ cs) ≡ past_body false k cs
plain k c cs h =
    let line : is_line_char c ≡ true = grind (arith, nat_tests) in
    let back : (c == 92) ≡ false = grind (arith, nat_tests) in
    let slash : (c == 47) ≡ false = grind (arith, nat_tests) in
    let opens : (c == 91) ≡ false = grind (arith, nat_tests) in
    let closes : (c == 93) ≡ false = grind (arith, nat_tests) in
    bare k k c cs line back (no_end k c slash) (keeps k c opens closes)

pub escaped : (k : Bool) (c : ℕ) (cs : List ℕ) → is_line_char c ≡ true → past_body false k (92 ∷ c ∷ cs) ≡ past_body false k cs
escaped k c cs line = ap (λ b. cond b (past_body false k cs) None) line

pub class_char : (c : ℕ) (cs : List ℕ) → is_class_char c ≡ true → past_body false true (c ∷ cs) ≡ past_body false true cs
class_char c cs h =
    let line : is_line_char c ≡ true = grind (arith, nat_tests) in
    let back : (c == 92) ≡ false = grind (arith, nat_tests) in
    let slash : (c == 47 && false) ≡ false = grind (arith, nat_tests) in
    let closes : (c == 93) ≡ false = grind (arith, nat_tests) in
    let now : class_after true c ≡ true = ap (λ b. cond (c == 91) true (cond b false true)) closes ∙ cond_same (c == 91) true in
    bare true true c cs line back slash now

pub body_char : (first : Bool) (c : ℕ) (cs : List ℕ) → is_body_char first c ≡ true → past_body false false (c ∷ cs) ≡ past_body false false cs
body_char first c cs h =
    let marks = not (is_among (47 ∷ 91 ∷ 92 ∷ []) c) in
    let star = not (first && c == 42) in
    let parts = and_parts (is_line_char c) (marks && star) h in
    let plain : not (is_among (47 ∷ 91 ∷ 92 ∷ []) c) ≡ true = (and_parts marks star parts.1).0 in
    let back : (c == 92) ≡ false = grind (arith, nat_tests) in
    let slash : (c == 47) ≡ false = grind (arith, nat_tests) in
    let opens : (c == 91) ≡ false = grind (arith, nat_tests) in
    let now : class_after false c ≡ false = ap (λ b. cond b true (cond (c == 93) false false)) opens ∙ cond_same (c == 93) false in
    bare false false c cs parts.0 back (no_end false c slash) now

-- ---- a body is what is read

marks_go : (ms : List Mark) (next : List ℕ) → EachInClass ms → past_body false true (spelled_all ms next) ≡ past_body false true next
marks_go [] next h = refl
marks_go (Bare c ∷ ms) next h = class_char c (spelled_all ms next) h.0 ∙ marks_go ms next h.1
marks_go (Escaped c ∷ ms) next h = escaped true c (spelled_all ms next) h.0 ∙ marks_go ms next h.1

part_goes : (first : Bool) (p : Part) (next : List ℕ) → IsPart first p → past_body false false (spelled_part p next) ≡ past_body false false next
part_goes first (One (Bare c)) next h = body_char first c next h
part_goes first (One (Escaped c)) next h = escaped false c next h
part_goes first (Class ms) next h = marks_go ms (93 ∷ next) h

parts_go : (first : Bool) (ps : List Part) (next : List ℕ) → EachPart first ps → past_body false false (spelled_parts ps next) ≡ past_body false false next
parts_go first [] next h = refl
parts_go first (p ∷ ps) next h = part_goes first p (spelled_parts ps next) h.0 ∙ parts_go false ps next h.1

marks_append : (ms : List Mark) (xs cs : List ℕ) → spelled_all ms (xs ++ cs) ≡ spelled_all ms xs ++ cs
marks_append [] xs cs = refl
marks_append (Bare c ∷ ms) xs cs = ap (λ (l : List ℕ). c ∷ l) (marks_append ms xs cs)
marks_append (Escaped c ∷ ms) xs cs = ap (λ (l : List ℕ). 92 ∷ c ∷ l) (marks_append ms xs cs)

part_append : (p : Part) (xs cs : List ℕ) → spelled_part p (xs ++ cs) ≡ spelled_part p xs ++ cs
part_append (One (Bare c)) xs cs = refl
part_append (One (Escaped c)) xs cs = refl
part_append (Class ms) xs cs = ap (λ (l : List ℕ). 91 ∷ l) (marks_append ms (93 ∷ xs) cs)

parts_append : (ps : List Part) (xs cs : List ℕ) → spelled_parts ps (xs ++ cs) ≡ spelled_parts ps xs ++ cs
parts_append [] xs cs = refl
parts_append (p ∷ ps) xs cs = ap (spelled_part p) (parts_append ps xs cs) ∙ part_append p (spelled_parts ps xs) cs

reads_body : (inner body after : List ℕ) → IsBody body → inner ≡ body ++ 47 ∷ after → past_body false false inner ≡ Some after
reads_body inner body after h e =
    let ps = h.0 in
    let whole : inner ≡ spelled_parts ps (47 ∷ after) = e ∙ ap (λ l. l ++ 47 ∷ after) h.3 ∙ sym (parts_append ps [] (47 ∷ after)) in
    ap (past_body false false) whole ∙ parts_go true ps (47 ∷ after) h.2

-- ---- what is read is a body

-- what is left of a body, where a class may be open, and what follows its slash
abbrev Parts : List ℕ → List ℕ → Type 0
Parts text after = (ps : List Part) × EachPart false ps × (text ≡ spelled_parts ps (47 ∷ after))

abbrev Left : Bool → List ℕ → List ℕ → Type 0
Left false text after = Parts text after
Left true text after = (ms : List Mark) × (next : List ℕ) × EachInClass ms × (text ≡ spelled_all ms (93 ∷ next)) × Parts next after

abbrev Says : Bool → Bool → List ℕ → List ℕ → Type 0
Says true k text after = (c : ℕ) × (cs : List ℕ) × (text ≡ c ∷ cs) × (is_line_char c ≡ true) × Left k cs after
Says false k text after = Left k text after

left_escaped : (k : Bool) (c : ℕ) (cs after : List ℕ) → is_line_char c ≡ true → Left k cs after → Left k (92 ∷ c ∷ cs) after
left_escaped false c cs after e h = (One (Escaped c) ∷ h.0, (e, h.1), ap (λ (l : List ℕ). 92 ∷ c ∷ l) h.2)
left_escaped true c cs after e h = (Escaped c ∷ h.0, h.1, (e, h.2), ap (λ (l : List ℕ). 92 ∷ c ∷ l) h.3, h.4)

left_open : (cs after : List ℕ) → Left true cs after → Left false (91 ∷ cs) after
left_open cs after h =
    let k = h.4 in
    (Class h.0 ∷ k.0, (h.2, k.1), ap (λ (l : List ℕ). 91 ∷ l) (h.3 ∙ ap (λ (l : List ℕ). spelled_all h.0 (93 ∷ l)) k.2))

left_close : (cs after : List ℕ) → Left false cs after → Left true (93 ∷ cs) after
left_close cs after h = ([], cs, tt, refl, h)

left_class_char : (c : ℕ) (cs after : List ℕ) → is_class_char c ≡ true → Left true cs after → Left true (c ∷ cs) after
left_class_char c cs after e h = (Bare c ∷ h.0, h.1, (e, h.2), ap (λ (l : List ℕ). c ∷ l) h.3, h.4)

left_body_char : (c : ℕ) (cs after : List ℕ) → is_body_char false c ≡ true → Left false cs after → Left false (c ∷ cs) after
left_body_char c cs after e h = (One (Bare c) ∷ h.0, (e, h.1), ap (λ (l : List ℕ). c ∷ l) h.2)

in_body : (c : ℕ) → is_line_char c ≡ true → (c == 92) ≡ false → (c == 47) ≡ false → (c == 91) ≡ false → is_body_char false c ≡ true
in_body c line back slash opens = rw line (rw back (rw slash (rw opens refl)))

in_class : (c : ℕ) → is_line_char c ≡ true → (c == 92) ≡ false → (c == 93) ≡ false → is_class_char c ≡ true
in_class c line back closes = rw line (rw back (rw closes refl))

-- one character that is neither a backslash nor the end
left_bare : (k : Bool) (c : ℕ) (cs after : List ℕ) → is_line_char c ≡ true → (c == 92) ≡ false → (c == 47 && not k) ≡ false
    → Left (class_after k c) cs after → Left k (c ∷ cs) after
left_bare false c cs after line back slash h = ⊎_elim
    (λ (e : (c == 91) ≡ true).
    let k : Left true cs after = subst (λ b. Left b cs after) (ap (λ b. cond b true (cond (c == 93) false false)) e) h in
    subst (λ x. Left false (x ∷ cs) after) (sym (eqb-true c 91 e)) (left_open cs after k))
    (λ (e : (c == 91) ≡ false).
    let now : class_after false c ≡ false = ap (λ b. cond b true (cond (c == 93) false false)) e ∙ cond_same (c == 93) false in
    let k : Left false cs after = subst (λ b. Left b cs after) now h in
    let s : (c == 47) ≡ false = grind (arith, nat_tests) in
    left_body_char c cs after (in_body c line back s e) k)
    (cases_Bool (c == 91))
left_bare true c cs after line back slash h = ⊎_elim
    (λ (e : (c == 93) ≡ true).
    let other : (c == 91) ≡ false = grind (arith, nat_tests) in
    let now : class_after true c ≡ false = ap (λ b. cond b true (cond (c == 93) false true)) other ∙ ap (λ b. cond b false true) e in
    let k : Left false cs after = subst (λ b. Left b cs after) now h in
    subst (λ x. Left true (x ∷ cs) after) (sym (eqb-true c 93 e)) (left_close cs after k))
    (λ (e : (c == 93) ≡ false).
    let now : class_after true c ≡ true = ap (λ b. cond (c == 91) true (cond b false true)) e ∙ cond_same (c == 91) true in
    let k : Left true cs after = subst (λ b. Left b cs after) now h in
    left_class_char c cs after (in_class c line back e) k)
    (cases_Bool (c == 93))

none_some : (after : List ℕ) → None ≡ Some after → ⊥
none_some after e = cc

ends_here : (k : Bool) (c : ℕ) (cs after : List ℕ) → (c == 47 && not k) ≡ true → cs ≡ after → Left k (c ∷ cs) after
ends_here false c cs after e same =
    let slash : c ≡ 47 = eqb-true c 47 (and_parts (c == 47) true e).0 in
    ([], tt, rw slash (ap (λ (l : List ℕ). 47 ∷ l) same))
ends_here true c cs after e same = absurd (false≢true (and_parts (c == 47) false e).1)

sound : (esc k : Bool) (text after : List ℕ) → past_body esc k text ≡ Some after → Says esc k text after
sound true k [] after h = absurd (none_some after h)
sound true k (c ∷ cs) after h = ⊎_elim
    (λ (e : is_line_char c ≡ true). (c, cs, refl, e, sound false k cs after (sym (ap (λ b. cond b (past_body false k cs) None) e) ∙ h)))
    (λ (e : is_line_char c ≡ false). absurd (none_some after (sym (ap (λ b. cond b (past_body false k cs) None) e) ∙ h)))
    (cases_Bool (is_line_char c))
sound false k [] after h = absurd (none_some after h)
sound false k (c ∷ cs) after h =
    let last = cond (c == 47 && not k) (Some cs) (past_body false (class_after k c) cs) in
    let more = cond (c == 92) (past_body true k cs) last in
    ⊎_elim
    (λ (line : is_line_char c ≡ true).
    let h1 : more ≡ Some after = sym (ap (λ b. cond b more None) line) ∙ h in ⊎_elim
    (λ (back : (c == 92) ≡ true).
    let w = sound true k cs after (sym (ap (λ b. cond b (past_body true k cs) last) back) ∙ h1) in
    rw (eqb-true c 92 back) (rw w.2 (left_escaped k w.0 w.1 after w.3 w.4)))
    (λ (back : (c == 92) ≡ false).
    let h2 : last ≡ Some after = sym (ap (λ b. cond b (past_body true k cs) last) back) ∙ h1 in ⊎_elim
    (λ (slash : (c == 47 && not k) ≡ true).
    ends_here k c cs after slash (same_Some cs after (sym (ap (λ b. cond b (Some cs) (past_body false (class_after k c) cs)) slash) ∙ h2)))
    (λ (slash : (c == 47 && not k) ≡ false).
    left_bare k c cs after line back slash
    (sound false (class_after k c) cs after (sym (ap (λ b. cond b (Some cs) (past_body false (class_after k c) cs)) slash) ∙ h2)))
    (cases_Bool (c == 47 && not k)))
    (cases_Bool (c == 92)))
    (λ (line : is_line_char c ≡ false). absurd (none_some after (sym (ap (λ b. cond b more None) line) ∙ h)))
    (cases_Bool (is_line_char c))

-- ---- the first character

some_part : (ps : List Part) (inner after : List ℕ) → inner ≡ spelled_parts ps (47 ∷ after) → Ends is_comment_mark inner → ps ≢ []
some_part [] inner after e h none = let k : is_comment_mark 47 ≡ false = subst (Ends is_comment_mark) e h in false≢true (sym k)
some_part (p ∷ ps) inner after e h none = cc

no_star : (c : ℕ) → is_comment_mark c ≡ false → is_body_char false c ≡ true → is_body_char true c ≡ true
no_star c h k =
    let star : (c == 42) ≡ false = grind (arith, nat_tests) in
    rw star k

first_part : (ps : List Part) (inner after : List ℕ) → inner ≡ spelled_parts ps (47 ∷ after) → Ends is_comment_mark inner → EachPart false ps → EachPart true ps
first_part [] inner after e h k = tt
first_part (One (Bare c) ∷ ps) inner after e h k =
    let m : is_comment_mark c ≡ false = subst (Ends is_comment_mark) e h in
    (no_star c m k.0, k.1)
first_part (One (Escaped c) ∷ ps) inner after e h k = k
first_part (Class ms ∷ ps) inner after e h k = k

pub is_body : (inner body after : List ℕ) → Ends is_comment_mark inner → past_body false false inner ≡ Some after → inner ≡ body ++ 47 ∷ after → IsBody body
is_body inner body after ends e cut =
    let h = sound false false inner after e in
    let ps = h.0 in
    let whole : spelled_parts ps [] ++ 47 ∷ after ≡ body ++ 47 ∷ after = sym (parts_append ps [] (47 ∷ after)) ∙ sym h.2 ∙ cut in
    (ps, some_part ps inner after h.2 ends, first_part ps inner after h.2 ends h.1, sym (append_cancel_right (spelled_parts ps []) body (47 ∷ after) whole))

body_opens : (c : ℕ) → is_body_char true c ≡ true → is_comment_mark c ≡ false
body_opens c h = grind (arith, nat_tests)

opens_by : (ps : List Part) (rest : List ℕ) → ps ≢ [] → EachPart true ps → Ends is_comment_mark (spelled_parts ps rest)
opens_by [] rest some h = absurd (some refl)
opens_by (One (Bare c) ∷ ps) rest some h = body_opens c h.0
opens_by (One (Escaped c) ∷ ps) rest some h = refl
opens_by (Class ms ∷ ps) rest some h = refl

pub open_slash : (text body flags rest : List ℕ) → IsRegExp text body flags rest → IsOpenSlash text
open_slash text body flags rest h =
    let b = h.0 in
    let after = h.1.0 in
    let whole : body ++ 47 ∷ after ≡ spelled_parts b.0 (47 ∷ after) = ap (λ l. l ++ 47 ∷ after) b.3 ∙ sym (parts_append b.0 [] (47 ∷ after)) in
    (body ++ 47 ∷ after, h.1.1, subst (Ends is_comment_mark) (sym whole) (opens_by b.0 (47 ∷ after) b.1 b.2))

-- ---- at most one

pub one_reg_exp : (text : List ℕ) → OneRegExp text
one_reg_exp text b d f g r s h k =
    let x = h.1.0 in
    let y = k.1.0 in
    let inner : b ++ 47 ∷ x ≡ d ++ 47 ∷ y = same_tail 47 47 (b ++ 47 ∷ x) (d ++ 47 ∷ y) (sym h.1.1 ∙ k.1.1) in
    let after : x ≡ y = same_Some x y (sym (reads_body (b ++ 47 ∷ x) b x h.0 refl) ∙ reads_body (b ++ 47 ∷ x) d y k.0 inner) in
    let body : b ≡ d = append_cancel_right b d (47 ∷ y) (ap (λ (l : List ℕ). b ++ 47 ∷ l) (sym after) ∙ inner) in
    let run : IsRun is_name_part y f r = subst (λ l. IsRun is_name_part l f r) after h.1.2 in
    let p = one_run is_name_part y f r run in
    let q = one_run is_name_part y g s k.1.2 in
    (body, sym p.0 ∙ q.0, sym p.1 ∙ q.1)

pub no_reg_exp : (text inner : List ℕ) → text ≡ 47 ∷ inner → past_body false false inner ≡ None → NoRegExp text
no_reg_exp text inner e none body flags rest h =
    let same : inner ≡ body ++ 47 ∷ h.1.0 = same_tail 47 47 inner (body ++ 47 ∷ h.1.0) (sym e ∙ h.1.1) in
    none_some h.1.0 (sym none ∙ reads_body inner body h.1.0 h.0 same)

-- ---- the slash

pub no_slash : (text : List ℕ) → past_slash text ≡ None → IsOpenSlash text → ⊥
no_slash text e h = no_slash_by h.0 (sym (ap past_slash h.1) ∙ e) h.2 where
  no_slash_by : (inner : List ℕ) → past_slash (47 ∷ inner) ≡ None → Ends is_comment_mark inner → ⊥
  no_slash_by [] e h = none_some [] (sym e)
  no_slash_by (d ∷ ds) e h = none_some (d ∷ ds) (sym e ∙ ap (λ b. cond b None (Some (d ∷ ds))) h)

pub is_slash : (text inner : List ℕ) → past_slash text ≡ Some inner → (text ≡ 47 ∷ inner) × Ends is_comment_mark inner
is_slash [] inner e = absurd (none_some inner e)
is_slash (c ∷ []) inner e = ⊎_elim
    (λ (t : (c == 47) ≡ true).
    let k = same_Some [] inner (sym (ap (λ b. cond b (Some []) None) t) ∙ e) in
    subst (λ l. (c ∷ [] ≡ 47 ∷ l) × Ends is_comment_mark l) k (ap (λ (x : ℕ). x ∷ []) (eqb-true c 47 t), tt))
    (λ (t : (c == 47) ≡ false). absurd (none_some inner (sym (ap (λ b. cond b (Some []) None) t) ∙ e)))
    (cases_Bool (c == 47))
is_slash (c ∷ (d ∷ ds)) inner e =
    let more = cond (is_comment_mark d) None (Some (d ∷ ds)) in
    ⊎_elim
    (λ (t : (c == 47) ≡ true). ⊎_elim
    (λ (m : is_comment_mark d ≡ true). absurd (none_some inner (sym (ap (λ b. cond b None (Some (d ∷ ds))) m) ∙ (sym (ap (λ b. cond b more None) t) ∙ e))))
    (λ (m : is_comment_mark d ≡ false).
    let k = same_Some (d ∷ ds) inner (sym (ap (λ b. cond b None (Some (d ∷ ds))) m) ∙ (sym (ap (λ b. cond b more None) t) ∙ e)) in
    subst (λ l. (c ∷ (d ∷ ds) ≡ 47 ∷ l) × Ends is_comment_mark l) k (ap (λ (x : ℕ). x ∷ (d ∷ ds)) (eqb-true c 47 t), m))
    (cases_Bool (is_comment_mark d)))
    (λ (t : (c == 47) ≡ false). absurd (none_some inner (sym (ap (λ b. cond b more None) t) ∙ e)))
    (cases_Bool (c == 47))

-- ---- the scan

pub goes_none : (k : Bool) (cs : List ℕ) → Goes k cs k cs
goes_none k cs = record { front = []; whole = refl; past = refl }

pub goes_then : (k l m : Bool) (cs mid rest : List ℕ) → Goes k cs l mid → Goes l mid m rest → Goes k cs m rest
goes_then k l m cs mid rest h g = record {
  front = h.front ++ g.front;
  whole = h.whole ∙ ap (λ l. h.front ++ l) g.whole ∙ sym (append_assoc h.front g.front rest);
  past = h.past ∙ g.past;
}

plain_goes : (k : Bool) (front rest : List ℕ) → Each is_reg_exp_char front → past_body false k (front ++ rest) ≡ past_body false k rest
plain_goes k [] rest h = refl
plain_goes k (c ∷ cs) rest h = plain k c (cs ++ rest) h.0 ∙ plain_goes k cs rest h.1

pub goes_passed : (k : Bool) (cs rest : List ℕ) → Passed is_reg_exp_char cs rest → Goes k cs k rest
goes_passed k cs rest h = record {
  front = h.front;
  whole = h.whole;
  past = ap (past_body false k) h.whole ∙ plain_goes k h.front rest h.each;
}

-- a whole run passes
pub passed_run : (cs rest : List ℕ) → rest ≡ after is_reg_exp_char cs → Passed is_reg_exp_char cs rest
passed_run cs rest e =
    let r = is_run is_reg_exp_char cs in
    let s = one_run is_reg_exp_char (after is_reg_exp_char cs) [] (after is_reg_exp_char cs) (refl, tt, r.2) in
    subst (Passed is_reg_exp_char cs) (sym e) (record {
      front = run is_reg_exp_char cs;
      whole = r.0;
      each = r.1;
      ran = sym (append-nil (run is_reg_exp_char cs)) ∙ ap (λ l. run is_reg_exp_char cs ++ l) (sym s.0);
      left = sym s.1;
    })

pub goes_more : (k l : Bool) (cs rest now mid more : List ℕ) → Goes false cs k rest → rest ≡ now → Goes k now l mid → Passed is_reg_exp_char mid more → Goes false cs l more
goes_more k l cs rest now mid more h e g p =
    goes_then false k l cs rest more h (subst (λ s. Goes k s l more) (sym e) (goes_then k l l now mid more g (goes_passed l mid more p)))

pub only_slash : (text : List ℕ) → past_slash text ≡ None → NoRegExp text × (IsOpenSlash text → ⊥)
only_slash text e = (λ body flags rest h. no_slash text e (open_slash text body flags rest h), no_slash text e)

-- ---- one turn of the scan

goes_one : (k l : Bool) (c : ℕ) (cs : List ℕ) → past_body false k (c ∷ cs) ≡ past_body false l cs → Goes k (c ∷ cs) l cs
goes_one k l c cs e = record { front = c ∷ []; whole = refl; past = e }

pub goes_escaped : (k : Bool) (b c : ℕ) (more rest : List ℕ) → b ≡ 92 → more ≡ c ∷ rest → is_line_terminator c ≡ false → Goes k (b ∷ more) k rest
goes_escaped k b c more rest e cut line = record {
  front = b ∷ c ∷ [];
  whole = ap (λ (l : List ℕ). b ∷ l) cut;
  past = ap (λ (x : ℕ). past_body false k (x ∷ more)) e ∙ ap (λ (l : List ℕ). past_body false k (92 ∷ l)) cut ∙ escaped k c rest (ap not line);
}

pub goes_open : (k : Bool) (c : ℕ) (cs : List ℕ) → c ≡ 91 → Goes k (c ∷ cs) true cs
goes_open k c cs e = goes_one k true c cs (ap (λ (x : ℕ). past_body false k (x ∷ cs)) e)

pub goes_close : (k : Bool) (c : ℕ) (cs : List ℕ) → c ≡ 93 → Goes k (c ∷ cs) false cs
goes_close k c cs e = goes_one k false c cs (ap (λ (x : ℕ). past_body false k (x ∷ cs)) e)

no_end_here : (k : Bool) (c : ℕ) → (c ≡ 47 → k ≡ true) → (c == 47 && not k) ≡ false
no_end_here k c h = ⊎_elim
    (λ (e : (c == 47) ≡ true). ap (λ b. c == 47 && not b) (h (eqb-true c 47 e)) ∙ ap (λ b. b && false) e)
    (λ (e : (c == 47) ≡ false). no_end k c e)
    (cases_Bool (c == 47))

pub goes_bare : (k : Bool) (c : ℕ) (cs : List ℕ) → (c ≡ 47 → k ≡ true) → c ≢ 92 → c ≢ 91 → c ≢ 93 → is_line_terminator c ≡ false → Goes k (c ∷ cs) k cs
goes_bare k c cs slash back opens closes line =
    let b : (c == 92) ≡ false = grind (arith, nat_tests) in
    let o : (c == 91) ≡ false = grind (arith, nat_tests) in
    let s : (c == 93) ≡ false = grind (arith, nat_tests) in
    goes_one k k c cs (bare k k c cs (ap not line) b (no_end_here k c slash) (keeps k c o s))

pub ends_body : (text rest more : List ℕ) (k : Bool) (h : Goes false text k rest) → k ≡ false → rest ≡ 47 ∷ more → past_body false false text ≡ Some more
ends_body text rest more k h e cut = h.past ∙ ap (λ b. past_body false b rest) e ∙ ap (past_body false false) cut

pub never_ends : (text rest : List ℕ) (k : Bool) → Goes false text k rest → rest ≡ [] → past_body false false text ≡ None
never_ends text rest k h cut = h.past ∙ ap (past_body false k) cut

pub stops_in : (text rest : List ℕ) (k : Bool) (c : ℕ) (more : List ℕ) → Goes false text k rest → rest ≡ c ∷ more → past_body false k (c ∷ more) ≡ None → past_body false false text ≡ None
stops_in text rest k c more h cut e = h.past ∙ ap (past_body false k) cut ∙ e
