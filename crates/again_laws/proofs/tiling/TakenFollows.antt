-- Where the automaton takes a text, it may stand behind what stands there.
use Rattle.std.proofs.Common.{◌≡◌, ◌≢◌, ℕ, ⊎_elim, Bool, true, false, ◌&&◌, not, List, [], ◌∷◌, ◌++◌, refl, sym, ap, subst, ◌∙◌}
use Rattle.std.specs.Prelude.{◌==◌}
use Rattle.std.specs.List.{list_all}
use Rattle.std.proofs.lemmas.Bool.{cases_Bool, false≢true, and_parts, eqb-true, not-true, or_parts, or_from}
use Rattle.base_proofs.proofs.Lists.{cons_tail}
use Rattle.lex_pieces.specs.Characters.{is_among}
use Rattle.lex_pieces.specs.Runs.{Ends}
use Rattle.lex_literal.specs.Escapes.{is_decimal}
use Rattle.lex_literal.specs.Standing.{is_point}
use Rattle.again_laws.specs.Tiling.Categories.{State, Fresh, Clear, Shut, Worded, Numbered, Pointed, Plused, Minused, Slashed, Lessed, LessBanged, Dotted, Operated, Decred, Hashed, Quasied, Category, Word, Number, Big, Member, Str, Regex, Plus, Incr, Minus, Decr, Bang, Slash, Less, Dot, Dots, Operator, Arrow, Hash, Closed, Quasi, End, is_open, is_end, is_wordless, is_digitless, takes, behind}
use Rattle.again_laws.specs.Tiling.Following.{is_wordy, is_joining, is_dotty, Follows, Needs, is_safe, Starts, never, not_hash, Front}
use Rattle.again_laws.proofs.tiling.Wordless.{wordless}
use Rattle.again_laws.proofs.tiling.Marks.{not_first}

-- ---- what a category asks

ends_less : (p q : ℕ → Bool) (cs : List ℕ) → ((c : ℕ) → p c ≡ false → q c ≡ false) → Ends p cs → Ends q cs
ends_less p q [] f h = tt
ends_less p q (c ∷ cs) f h = f c h

operated_bang : (cs : List ℕ) → Follows Operated cs → Needs Bang cs
operated_bang cs h = ends_less is_joining (is_among (61 ∷ [])) cs (λ c e. or_from (c == 61) false (or_parts (c == 61) _ e).0 refl) h

pub needs : (k : Category) (s : State) (rest : List ℕ) → Follows (behind k s) rest → Needs k rest
needs Word s rest h = h
needs Number s rest h = h
needs Big s rest h = h
needs Member s rest h = h
needs Str s rest h = tt
needs Regex s rest h = h
needs Plus s rest h = h
needs Incr s rest h = tt
needs Minus s rest h = h
needs Decr s rest h = tt
needs Bang Lessed rest h = h.0
needs Bang s rest h = operated_bang rest h
needs Slash s rest h = h
needs Less s rest h = h
needs Dot s rest h = h
needs Dots s rest h = tt
needs Operator s rest h = h
needs Arrow s rest h = tt
needs Hash s rest h = tt
needs Closed s rest h = tt
needs Quasi s rest h = h
needs End s rest h = tt

-- ---- by the first character

abbrev pub unsafe : List ℕ
unsafe = 33 ∷ 35 ∷ 38 ∷ 42 ∷ 43 ∷ 45 ∷ 47 ∷ 60 ∷ 61 ∷ 62 ∷ 63 ∷ 124 ∷ []

pub safe_not : (c n : ℕ) → is_safe c ≡ true → is_among unsafe n ≡ true → (c == n) ≡ false
safe_not c n s u = ⊎_elim
    (λ (t : (c == n) ≡ true). absurd (false≢true (sym (ap not (ap (is_among unsafe) (eqb-true c n t) ∙ u)) ∙ s)))
    (λ (f : (c == n) ≡ false). f)
    (cases_Bool (c == n))

safe_among : (c : ℕ) (ns : List ℕ) → is_safe c ≡ true → list_all (is_among unsafe) ns ≡ true → is_among ns c ≡ false
safe_among c [] s u = refl
safe_among c (n ∷ ns) s u =
    let p = and_parts (is_among unsafe n) (list_all (is_among unsafe) ns) u in
    or_from (c == n) (is_among ns c) (safe_not c n s p.0) (safe_among c ns s p.1)

-- a safe character, where words, numbers and dots don't stand before it
safe_follows : (s : State) (c : ℕ) (cs : List ℕ) → is_safe c ≡ true → is_open s ≡ true
    → (s ≡ Worded → is_wordy c ≡ false) → (s ≡ Numbered → (is_wordy c ≡ false) × (is_point c ≡ false)) → (s ≡ Dotted → is_dotty c ≡ false) → Follows s (c ∷ cs)
safe_follows Fresh c cs h o w n d = tt
safe_follows Clear c cs h o w n d = tt
safe_follows Shut c cs h o w n d = tt
safe_follows Worded c cs h o w n d = w refl
safe_follows Numbered c cs h o w n d = n refl
safe_follows Pointed c cs h o w n d = absurd (false≢true o)
safe_follows Plused c cs h o w n d = safe_among c (43 ∷ 61 ∷ []) h refl
safe_follows Minused c cs h o w n d = safe_among c (45 ∷ 61 ∷ []) h refl
safe_follows Slashed c cs h o w n d = safe_among c (47 ∷ 42 ∷ 61 ∷ []) h refl
safe_follows Lessed c cs h o w n d = (safe_among c (60 ∷ 61 ∷ []) h refl, λ inner. not_first c 33 cs (45 ∷ 45 ∷ inner) (safe_not c 33 h refl))
safe_follows LessBanged c cs h o w n d = (safe_among c (61 ∷ []) h refl, λ inner. not_first c 45 cs (45 ∷ inner) (safe_not c 45 h refl))
safe_follows Dotted c cs h o w n d = d refl
safe_follows Operated c cs h o w n d = safe_among c (61 ∷ 62 ∷ 38 ∷ 124 ∷ 63 ∷ 42 ∷ 60 ∷ []) h refl
safe_follows Decred c cs h o w n d = safe_among c (62 ∷ []) h refl
safe_follows Hashed c cs h o w n d = safe_among c (33 ∷ []) h refl
safe_follows Quasied c cs h o w n d = absurd (false≢true o)

-- behind an operand nothing is asked but of words and numbers
end_follows : (s : State) (c : ℕ) (cs : List ℕ) → is_end s ≡ true → is_wordy c ≡ false → is_point c ≡ false → Follows s (c ∷ cs)
end_follows Fresh c cs e w d = tt
end_follows Clear c cs e w d = tt
end_follows Shut c cs e w d = tt
end_follows Worded c cs e w d = w
end_follows Numbered c cs e w d = (w, d)
end_follows _ c cs e w d = absurd (false≢true e)

-- ---- characters that are told

-- whether the character may stand behind, where it is none of a word
unfoldable pub lets : State → ℕ → Bool
lets Fresh c = true
lets Clear c = true
lets Shut c = true
lets Worded c = true
lets Numbered c = not (is_point c)
lets Pointed c = is_point c
lets Plused c = not (is_among (43 ∷ 61 ∷ []) c)
lets Minused c = not (is_among (45 ∷ 61 ∷ []) c)
lets Slashed c = not (is_among (47 ∷ 42 ∷ 61 ∷ []) c)
lets Lessed c = not (is_among (60 ∷ 61 ∷ []) c) && not (c == 33)
lets LessBanged c = not (is_among (61 ∷ []) c) && not (c == 45)
lets Dotted c = not (is_dotty c)
lets Operated c = not (is_joining c)
lets Decred c = not (is_among (62 ∷ []) c)
lets Hashed c = not (is_among (33 ∷ []) c)
lets Quasied c = false

pub lets_follows : (s : State) (c : ℕ) (cs : List ℕ) → is_wordy c ≡ false → lets s c ≡ true → Follows s (c ∷ cs)
unfolding lets
lets_follows Fresh c cs w e = tt
lets_follows Clear c cs w e = tt
lets_follows Shut c cs w e = tt
lets_follows Worded c cs w e = w
lets_follows Numbered c cs w e = (w, not-true _ e)
lets_follows Pointed c cs w e = e
lets_follows Plused c cs w e = not-true _ e
lets_follows Minused c cs w e = not-true _ e
lets_follows Slashed c cs w e = not-true _ e
lets_follows Lessed c cs w e =
    let p = and_parts (not (is_among (60 ∷ 61 ∷ []) c)) (not (c == 33)) e in
    (not-true _ p.0, λ inner. not_first c 33 cs (45 ∷ 45 ∷ inner) (not-true _ p.1))
lets_follows LessBanged c cs w e =
    let p = and_parts (not (is_among (61 ∷ []) c)) (not (c == 45)) e in
    (not-true _ p.0, λ inner. not_first c 45 cs (45 ∷ inner) (not-true _ p.1))
lets_follows Dotted c cs w e = not-true _ e
lets_follows Operated c cs w e = not-true _ e
lets_follows Decred c cs w e = not-true _ e
lets_follows Hashed c cs w e = not-true _ e
lets_follows Quasied c cs w e = absurd (false≢true e)

regex_lets : (s : State) → takes Regex s ≡ true → lets s 47 ≡ true
unfolding lets
regex_lets Slashed e = absurd (false≢true e)
regex_lets Pointed e = absurd (false≢true e)
regex_lets Quasied e = absurd (false≢true e)
regex_lets _ e = refl

plus_lets : (s : State) → takes Plus s ≡ true → lets s 43 ≡ true
unfolding lets
plus_lets Plused e = absurd (false≢true e)
plus_lets Pointed e = absurd (false≢true e)
plus_lets Quasied e = absurd (false≢true e)
plus_lets _ e = refl

decr_lets : (s : State) → takes Decr s ≡ true → lets s 45 ≡ true
unfolding lets
decr_lets Minused e = absurd (false≢true e)
decr_lets LessBanged e = absurd (false≢true e)
decr_lets Pointed e = absurd (false≢true e)
decr_lets Quasied e = absurd (false≢true e)
decr_lets _ e = refl

dot_lets : (s : State) → takes Dot s ≡ true → lets s 46 ≡ true
unfolding lets
dot_lets Fresh e = refl
dot_lets Clear e = refl
dot_lets Shut e = refl
dot_lets Worded e = refl
dot_lets Pointed e = refl
dot_lets Operated e = refl
dot_lets _ e = absurd (false≢true e)

-- whether it is `<`, and whether it is `<!`
is_less : State → Bool
is_less Lessed = true
is_less _ = false

is_less_bang : State → Bool
is_less_bang LessBanged = true
is_less_bang _ = false

bang_lets : (s : State) → takes Bang s ≡ true → is_less s ≡ false → lets s 33 ≡ true
unfolding lets is_less
bang_lets Lessed e f = absurd (false≢true (sym f))
bang_lets Hashed e f = absurd (false≢true e)
bang_lets Pointed e f = absurd (false≢true e)
bang_lets Quasied e f = absurd (false≢true e)
bang_lets _ e f = refl

minus_takes : (s : State) → takes Minus s ≡ true → is_less_bang s ≡ false → takes Decr s ≡ true
unfolding is_less_bang
minus_takes LessBanged e f = absurd (false≢true (sym f))
minus_takes Minused e f = e
minus_takes _ e f = e

less_is : (s : State) → is_less s ≡ true → s ≡ Lessed
unfolding is_less
less_is Lessed e = refl
less_is _ e = absurd (false≢true e)

less_bang_is : (s : State) → is_less_bang s ≡ true → s ≡ LessBanged
unfolding is_less_bang
less_bang_is LessBanged e = refl
less_bang_is _ e = absurd (false≢true e)

hash_lets : (s : State) → takes Hash s ≡ true → lets s 35 ≡ true
unfolding lets
hash_lets Pointed e = absurd (false≢true e)
hash_lets Quasied e = absurd (false≢true e)
hash_lets _ e = refl

regex_at : (s : State) (cs : List ℕ) → takes Regex s ≡ true → Follows s (47 ∷ cs)
regex_at s cs e = lets_follows s 47 cs (wordless 47 refl) (regex_lets s e)

plus_at : (s : State) (cs : List ℕ) → takes Plus s ≡ true → Follows s (43 ∷ cs)
plus_at s cs e = lets_follows s 43 cs (wordless 43 refl) (plus_lets s e)

decr_at : (s : State) (cs : List ℕ) → takes Decr s ≡ true → Follows s (45 ∷ cs)
decr_at s cs e = lets_follows s 45 cs (wordless 45 refl) (decr_lets s e)

dot_at : (s : State) (cs : List ℕ) → takes Dot s ≡ true → Follows s (46 ∷ cs)
dot_at s cs e = lets_follows s 46 cs (wordless 46 refl) (dot_lets s e)

one_minus : (m : ℕ) (cs inner : List ℕ) → is_among (m ∷ 61 ∷ []) m ≡ true → Ends (is_among (m ∷ 61 ∷ [])) cs → m ∷ cs ≢ m ∷ m ∷ inner
one_minus m [] inner f h k = let e : [] ≡ m ∷ inner = cc in cc
one_minus m (c ∷ cs) inner f h k = let e : c ≡ m = cc in absurd (false≢true (sym h ∙ ap (is_among (m ∷ 61 ∷ [])) e ∙ f))

minus_at : (s : State) (cs : List ℕ) → takes Minus s ≡ true → Ends (is_among (45 ∷ 61 ∷ [])) cs → Follows s (45 ∷ cs)
minus_at s cs e h = ⊎_elim
    (λ (t : is_less_bang s ≡ true). subst (λ (x : State). Follows x (45 ∷ cs)) (sym (less_bang_is s t)) (refl, λ inner k. one_minus 45 cs inner refl h k))
    (λ (f : is_less_bang s ≡ false). decr_at s cs (minus_takes s e f))
    (cases_Bool (is_less_bang s))

bang_at : (s : State) (cs : List ℕ) → takes Bang s ≡ true → Follows (behind Bang s) cs → Follows s (33 ∷ cs)
bang_at s cs e h = ⊎_elim
    (λ (t : is_less s ≡ true).
    let l = less_is s t in
    let g : Follows LessBanged cs = subst (λ (x : State). Follows (behind Bang x) cs) l h in
    subst (λ (x : State). Follows x (33 ∷ cs)) (sym l) (refl, λ inner k. g.1 inner (cons_tail 33 33 cs (45 ∷ 45 ∷ inner) k)))
    (λ (f : is_less s ≡ false). lets_follows s 33 cs (wordless 33 refl) (bang_lets s e f))
    (cases_Bool (is_less s))

dots_takes : (s : State) → takes Dots s ≡ true → takes Dot s ≡ true
dots_takes Fresh e = refl
dots_takes Clear e = refl
dots_takes Shut e = refl
dots_takes Worded e = refl
dots_takes Operated e = refl
dots_takes _ e = absurd (false≢true e)

wordless_open : (s : State) → is_wordless s ≡ true → (is_open s ≡ true) × (s ≢ Worded) × (s ≢ Numbered)
wordless_open Worded e = absurd (false≢true e)
wordless_open Numbered e = absurd (false≢true e)
wordless_open Pointed e = absurd (false≢true e)
wordless_open Quasied e = absurd (false≢true e)
wordless_open Fresh e = (refl, (λ k. cc), λ k. cc)
wordless_open Clear e = (refl, (λ k. cc), λ k. cc)
wordless_open Shut e = (refl, (λ k. cc), λ k. cc)
wordless_open Plused e = (refl, (λ k. cc), λ k. cc)
wordless_open Minused e = (refl, (λ k. cc), λ k. cc)
wordless_open Slashed e = (refl, (λ k. cc), λ k. cc)
wordless_open Lessed e = (refl, (λ k. cc), λ k. cc)
wordless_open LessBanged e = (refl, (λ k. cc), λ k. cc)
wordless_open Dotted e = (refl, (λ k. cc), λ k. cc)
wordless_open Operated e = (refl, (λ k. cc), λ k. cc)
wordless_open Decred e = (refl, (λ k. cc), λ k. cc)
wordless_open Hashed e = (refl, (λ k. cc), λ k. cc)

digitless : (s : State) → is_digitless s ≡ true → (is_wordless s ≡ true) × (s ≢ Dotted)
digitless Dotted e = absurd (false≢true e)
digitless Worded e = absurd (false≢true e)
digitless Numbered e = absurd (false≢true e)
digitless Pointed e = absurd (false≢true e)
digitless Quasied e = absurd (false≢true e)
digitless Fresh e = (refl, λ k. cc)
digitless Clear e = (refl, λ k. cc)
digitless Shut e = (refl, λ k. cc)
digitless Plused e = (refl, λ k. cc)
digitless Minused e = (refl, λ k. cc)
digitless Slashed e = (refl, λ k. cc)
digitless Lessed e = (refl, λ k. cc)
digitless LessBanged e = (refl, λ k. cc)
digitless Operated e = (refl, λ k. cc)
digitless Decred e = (refl, λ k. cc)
digitless Hashed e = (refl, λ k. cc)

abbrev With : State → List ℕ → List ℕ → Type 0
With s cs rest = Follows s (cs ++ rest)

word_at : (s : State) (cs rest : List ℕ) → is_wordless s ≡ true → Starts is_safe is_dotty never cs → With s cs rest
word_at s cs rest e h =
    let w = wordless_open s e in
    subst (λ (t : List ℕ). Follows s (t ++ rest)) (sym h.whole)
    (safe_follows s h.first (h.others ++ rest) h.one w.0 (λ k. absurd (w.1 k)) (λ k. absurd (w.2 k)) (λ k. h.two))

number_at : (s : State) (cs rest : List ℕ) → is_digitless s ≡ true → Starts is_safe never never cs → With s cs rest
number_at s cs rest e h =
    let d = digitless s e in
    let w = wordless_open s d.0 in
    subst (λ (t : List ℕ). Follows s (t ++ rest)) (sym h.whole)
    (safe_follows s h.first (h.others ++ rest) h.one w.0 (λ k. absurd (w.1 k)) (λ k. absurd (w.2 k)) (λ k. absurd (d.1 k)))

shut_at : (s : State) (cs rest : List ℕ) → is_open s ≡ true → Starts is_safe is_dotty is_wordy cs → With s cs rest
shut_at s cs rest e h =
    subst (λ (t : List ℕ). Follows s (t ++ rest)) (sym h.whole)
    (safe_follows s h.first (h.others ++ rest) h.one e (λ k. h.three) (λ k. (h.three, (or_parts (is_point h.first) (is_decimal h.first) h.two).0)) (λ k. h.two))

end_at : (s : State) (cs rest : List ℕ) → is_end s ≡ true → Starts not_hash is_dotty is_wordy cs → With s cs rest
end_at s cs rest e h =
    subst (λ (t : List ℕ). Follows s (t ++ rest)) (sym h.whole)
    (end_follows s h.first (h.others ++ rest) e h.three (or_parts (is_point h.first) (is_decimal h.first) h.two).0)

told_at : (s : State) (cs ds rest : List ℕ) → cs ≡ ds → Follows s (ds ++ rest) → With s cs rest
told_at s cs ds rest e h = subst (λ (t : List ℕ). Follows s (t ++ rest)) (sym e) h

quasi_at : (s : State) (cs rest : List ℕ) → takes Quasi s ≡ true → With s cs rest
quasi_at Shut cs rest e = tt
quasi_at _ cs rest e = absurd (false≢true e)

ending_at : (s : State) (cs rest : List ℕ) → takes End s ≡ true → Front End cs → With s cs rest
ending_at Quasied cs rest e h = (h.0, rest, h.1 rest)
ending_at _ cs rest e h = absurd (false≢true e)

-- A text that the automaton takes may stand behind what stands there.
pub fronts : (k : Category) (s : State) (cs rest : List ℕ) → takes k s ≡ true → Front k cs → Follows (behind k s) rest → Follows s (cs ++ rest)
fronts Word s cs rest e f h = word_at s cs rest e f
fronts Number s cs rest e f h = number_at s cs rest e f
fronts Big s cs rest e f h = number_at s cs rest e f
fronts Member s cs rest e f h = number_at s cs rest e f
fronts Str s cs rest e f h = shut_at s cs rest e f
fronts Regex s cs rest e f h = told_at s cs (47 ∷ f.0) rest f.1 (regex_at s (f.0 ++ rest) e)
fronts Plus s cs rest e f h = told_at s cs (43 ∷ []) rest f (plus_at s rest e)
fronts Incr s cs rest e f h = told_at s cs (43 ∷ 43 ∷ []) rest f (plus_at s (43 ∷ rest) e)
fronts Minus s cs rest e f h = told_at s cs (45 ∷ []) rest f (minus_at s rest e h)
fronts Decr s cs rest e f h = told_at s cs (45 ∷ 45 ∷ []) rest f (decr_at s (45 ∷ rest) e)
fronts Bang s cs rest e f h = told_at s cs (33 ∷ []) rest f (bang_at s rest e h)
fronts Slash s cs rest e f h = told_at s cs (47 ∷ []) rest f (end_follows s 47 rest e (wordless 47 refl) refl)
fronts Less s cs rest e f h = told_at s cs (60 ∷ []) rest f (end_follows s 60 rest e (wordless 60 refl) refl)
fronts Dot s cs rest e f h = told_at s cs (46 ∷ []) rest f (dot_at s rest e)
fronts Dots s cs rest e f h = told_at s cs (46 ∷ 46 ∷ 46 ∷ []) rest f (dot_at s (46 ∷ 46 ∷ rest) (dots_takes s e))
fronts Operator s cs rest e f h = end_at s cs rest e f
fronts Arrow s cs rest e f h = end_at s cs rest e f
fronts Hash s cs rest e f h = told_at s cs (35 ∷ []) rest f (lets_follows s 35 rest (wordless 35 refl) (hash_lets s e))
fronts Closed s cs rest e f h = shut_at s cs rest e f
fronts Quasi s cs rest e f h = quasi_at s cs rest e
fronts End s cs rest e f h = ending_at s cs rest e f
