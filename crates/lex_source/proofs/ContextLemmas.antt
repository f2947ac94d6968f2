-- A list whose last element is seen first.
use Rattle.std.proofs.Common.{◌≡◌, ℕ, ◌<◌, ◌-◌, ◌+◌, List, [], ◌∷◌, ◌++◌, drop, length, reverse, take, option_to_list, Option, Some, None, refl, sym, ap, ◌∙◌, arith}
use Rattle.std.proofs.lemmas.List.{length-append, length-drop, length-reverse, reverse-append, take-append-drop, take_at}
use Rattle.std.specs.List.{slice_get}
use Rattle.lex_source.specs.declared.contexts.TokenContext.{TokenContext}
use Rattle.lex_source.specs.Contexts.{innermost, without_innermost}

abbrev C : Type 0
C = TokenContext

pub reverse_push : (xs : List C) (x : C) → reverse (xs ++ x ∷ []) ≡ x ∷ reverse xs
reverse_push xs x = reverse-append xs (x ∷ [])

get_last : (ys : List C) (y : C) → slice_get (ys ++ y ∷ []) (length ys) ≡ Some y
get_last [] y = refl
get_last (x ∷ xs) y = get_last xs y

-- a list is empty, or has a last element
pub data Ends : List C → Type 0 where
  none : Ends []
  last : (ys : List C) (y : C) → Ends (ys ++ y ∷ [])

more : (x : C) (xs : List C) → Ends xs → Ends (x ∷ xs)
more x xs none = last [] x
more x xs (last ys y) = last (x ∷ ys) y

pub ends : (xs : List C) → Ends xs
ends [] = none
ends (x ∷ xs) = more x xs (ends xs)

one_less : (n : ℕ) → n + 1 - 1 ≡ n
one_less n = omega arith

current_by : (xs : List C) → Ends xs → slice_get xs (length xs - 1) ≡ innermost (reverse xs)
current_by xs none = refl
current_by xs (last ys y) =
    ap (λ n. slice_get (ys ++ y ∷ []) (n - 1)) (length-append ys (y ∷ [])) ∙ ap (slice_get (ys ++ y ∷ [])) (one_less (length ys)) ∙ get_last ys y
    ∙ ap innermost (sym (reverse_push ys y))

pub current_is : (xs : List C) → slice_get xs (length xs - 1) ≡ innermost (reverse xs)
current_is xs = current_by xs (ends xs)

append_nothing : (xs ys : List C) → xs ≡ ys ++ [] → length xs ≡ length ys + 0
append_nothing xs ys e = ap length e ∙ length-append ys []

empty_nothing : (xs : List C) → (0 < length xs → ⊥) → xs ≡ []
empty_nothing [] h = refl
empty_nothing (x ∷ xs) h = absurd (h (omega arith))

pub left_is : (old new : List C) (r : Option C) → old ≡ new ++ option_to_list r → r ≡ innermost (reverse old) → reverse new ≡ without_innermost (reverse old)
left_is old new (Some x) e h = sym (ap (λ l. without_innermost (reverse l)) e ∙ ap without_innermost (reverse_push new x))
left_is old new None e h = nothing old new e h (ends old)
  where
    nothing : (old new : List C) → old ≡ new ++ [] → None ≡ innermost (reverse old) → Ends old → reverse new ≡ without_innermost (reverse old)
    nothing old new e h none = ap reverse (none_left new e)
      where
        none_left : (new : List C) → [] ≡ new ++ [] → new ≡ []
        none_left [] e = refl
        none_left (x ∷ xs) e = absurd (let k : 0 ≡ length (x ∷ (xs ++ [])) = ap length e in omega (arith, k))
    nothing old new e h (last ys y) = absurd (some_none (h ∙ ap innermost (reverse_push ys y)))
      where
        some_none : None ≡ Some y → ⊥
        some_none e = cc

pub length_is : (xs : List C) → length xs ≡ length (reverse xs)
length_is xs = sym (length-reverse xs)

front_two : (xs : List C) (n : ℕ) → n + 2 ≡ length xs → reverse (drop n xs) ≡ take 2 (reverse xs)
front_two xs n e =
    let two : length (reverse (drop n xs)) ≡ 2 = let k = length-reverse (drop n xs) ∙ length-drop n xs in omega (arith, e, k) in
    sym (ap (λ l. take 2 (reverse l)) (sym (take-append-drop n xs)) ∙ ap (take 2) (reverse-append (take n xs) (drop n xs)) ∙ take_at (reverse (drop n xs)) (reverse (take n xs)) 2 two)

by_count : (xs : List C) (n : ℕ) → n ≡ length xs - 2 → reverse (drop n xs) ≡ take 2 (reverse xs)
by_count [] n e = let none : n ≡ 0 = omega (arith, e) in rw none refl
by_count (x ∷ []) n e = let none : n ≡ 0 = omega (arith, e) in rw none refl
by_count (x ∷ y ∷ ys) n e = front_two (x ∷ y ∷ ys) n (omega (arith, e))

-- the last two are the innermost two
pub last_two : (xs ys : List C) → ys ≡ drop (length xs - 2) xs → reverse ys ≡ take 2 (reverse xs)
last_two xs ys e = ap reverse e ∙ by_count xs (length xs - 2) refl

pub ruleset lengths = (length_is)

pub ruleset pops = (current_is, left_is)
