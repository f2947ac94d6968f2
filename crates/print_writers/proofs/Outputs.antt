-- Bytes that are written a part at a time, to a writer that tells them.
use Rattle.std.specs.Prelude.{true, false, Result, Ok, Err, OnErr}
use Rattle.std.proofs.Common.{◌≡◌, ℕ, zero, suc, ◌+◌, ◌-◌, ◌<◌, List, [], ◌++◌, Option, None, Some, take, drop, length-take, refl, sym, ap, subst, append_assoc, append-nil, ◌∙◌, arith}
use Rattle.std.proofs.lemmas.List.{take-append-drop, nil_from_length}
use Rattle.std.proofs.Math.Seq.{take-add}
use Rattle.std.specs.Option.{IsSome}
use Rattle.std.specs.Io.KnownBytes.{Appends, Keeps}
use Rattle.print_writers.specs.Pages.{times, told, Gets, GetsFront, IsFront}

pub gets : (a b : Option (List ℕ)) (xs : List ℕ) → Appends a b xs → Gets a b xs
gets None b xs h = λ s. let e : false ≡ true = s in absurd (cc)
gets (Some x) None xs h = absurd h
gets (Some x) (Some y) xs h = λ s. (refl, h)

pub gets_none : (a b : Option (List ℕ)) → Keeps a b → Gets a b []
gets_none None b h = λ s. let e : false ≡ true = s in absurd (cc)
gets_none (Some x) None h = absurd h
gets_none (Some x) (Some y) h = λ s. (refl, h ∙ sym (append-nil x))

pub gets_both : (a b c : Option (List ℕ)) (xs ys : List ℕ) → Gets a b xs → Gets b c ys → Gets a c (xs ++ ys)
gets_both a b c xs ys f g = λ s.
    let p : IsSome b × (told b ≡ told a ++ xs) = f s in
    let q : IsSome c × (told c ≡ told b ++ ys) = g p.0 in
    (q.0, q.1 ∙ ap (λ l. l ++ ys) p.1 ∙ append_assoc (told a) xs ys)

pub gets_more : (a b c : Option (List ℕ)) (bytes : List ℕ) (n m : ℕ) → Gets a b (take n bytes) → Appends b c (take m (drop n bytes)) → Gets a c (take (n + m) bytes)
gets_more a b c bytes n m f h = subst (Gets a c) (sym (take-add n m bytes)) (gets_both a b c _ _ f (gets b c _ h))

pub gets_same : (a b c : Option (List ℕ)) (xs : List ℕ) → Gets a b xs → Keeps b c → Gets a c xs
gets_same a b c xs f h = subst (Gets a c) (append-nil xs) (gets_both a b c xs [] f (gets_none b c h))

-- a part of the bytes is a beginning
pub gets_front : (a b : Option (List ℕ)) (xs ys zs : List ℕ) → Gets a b xs → zs ≡ xs ++ ys → GetsFront a b zs
gets_front a b xs ys zs f e = λ s.
    let p : IsSome b × (told b ≡ told a ++ xs) = f s in
    (p.0, (xs, p.1), (ys, ap (λ l. told a ++ l) e ∙ sym (append_assoc (told a) xs ys) ∙ ap (λ l. l ++ ys) (sym p.1)))

pub gets_part : (a b c : Option (List ℕ)) (bytes : List ℕ) (n : ℕ) → Gets a b (take n bytes) → Keeps b c → GetsFront a c bytes
gets_part a b c bytes n f h = gets_front a c (take n bytes) (drop n bytes) bytes (gets_same a b c _ f h) (sym (take-append-drop n bytes))

take_none : (n : ℕ) (l : List ℕ) → n ≡ 0 → take n l ≡ []
take_none n l e = nil_from_length (take n l) (omega (arith, length-take n l))

pub gets_no_more : (a b c : Option (List ℕ)) (bytes xs : List ℕ) (n m : ℕ) → Gets a b (take n bytes) → m ≡ 0 → Appends b c (take m xs) → GetsFront a c bytes
gets_no_more a b c bytes xs n m f e h =
    let g : Gets b c [] = gets b c [] (subst (Appends b c) (take_none m xs e) h) in
    let all : Gets a c (take n bytes) = subst (Gets a c) (append-nil (take n bytes)) (gets_both a b c (take n bytes) [] f g) in
    gets_front a c (take n bytes) (drop n bytes) bytes all (sym (take-append-drop n bytes))

-- after some bytes, a beginning of others
pub gets_then : (a b c : Option (List ℕ)) (xs ys zs : List ℕ) → Gets a b xs → GetsFront b c ys → zs ≡ xs ++ ys → GetsFront a c zs
gets_then a b c xs ys zs f g e = λ s.
    let p : IsSome b × (told b ≡ told a ++ xs) = f s in
    let q : IsSome c × IsFront (told b) (told c) × IsFront (told c) (told b ++ ys) = g p.0 in (
      q.0,
      (xs ++ q.1.0, q.1.1 ∙ ap (λ l. l ++ q.1.0) p.1 ∙ append_assoc (told a) xs q.1.0),
      (q.2.0, ap (λ l. told a ++ l) e ∙ sym (append_assoc (told a) xs ys) ∙ ap (λ l. l ++ ys) (sym p.1) ∙ q.2.1),
    )

-- the same behind a call that took nothing
pub gets_behind : (a b c : Option (List ℕ)) (xs : List ℕ) → Appends a b [] → Gets b c xs → Gets a c xs
gets_behind a b c xs f g = gets_both a b c [] xs (gets a b [] f) g

pub front_behind : (a b c : Option (List ℕ)) (xs : List ℕ) → Appends a b [] → GetsFront b c xs → GetsFront a c xs
front_behind a b c xs f g = gets_then a b c [] xs xs (gets a b [] f) g refl

-- and more of them behind
pub gets_longer : (a b : Option (List ℕ)) (xs ys zs : List ℕ) → GetsFront a b xs → zs ≡ xs ++ ys → GetsFront a b zs
gets_longer a b xs ys zs f e = λ s.
    let q : IsSome b × IsFront (told a) (told b) × IsFront (told b) (told a ++ xs) = f s in
    (q.0, q.1, (q.2.0 ++ ys, ap (λ l. told a ++ l) e ∙ sym (append_assoc (told a) xs ys) ∙ ap (λ l. l ++ ys) q.2.1 ∙ append_assoc (told b) q.2.0 ys))

times_add : (n m : ℕ) (xs : List ℕ) → times (n + m) xs ≡ times n xs ++ times m xs
times_add zero m xs = ap (λ k. times k xs) (let e : 0 + m ≡ m = omega arith in e)
times_add (suc n) m xs =
    let e : suc n + m ≡ suc (n + m) = omega arith in
    ap (λ k. times k xs) e ∙ ap (λ l. xs ++ l) (times_add n m xs) ∙ sym (append_assoc xs (times n xs) (times m xs))

times_one : (xs : List ℕ) → times 1 xs ≡ xs
times_one xs = append-nil xs

pub times_more : (n : ℕ) (xs : List ℕ) → times (n + 1) xs ≡ times n xs ++ xs
times_more n xs = times_add n 1 xs ∙ ap (λ l. times n xs ++ l) (times_one xs)

pub times_split : (n k : ℕ) (xs : List ℕ) → n < k → (rest : List ℕ) × (times k xs ≡ (times n xs ++ xs) ++ rest)
times_split n k xs h =
    let e : k ≡ n + (1 + (k - n - 1)) = omega arith in (
      times (k - n - 1) xs,
      ap (λ j. times j xs) e ∙ times_add n (1 + (k - n - 1)) xs ∙ ap (λ l. times n xs ++ l) (times_add 1 (k - n - 1) xs ∙ ap (λ l. l ++ times (k - n - 1) xs) (times_one xs))
          ∙ sym (append_assoc (times n xs) xs (times (k - n - 1) xs)),
    )

pub on_err : {A E : Type 0} (r : Result A E) (P : Type 0) → P → OnErr r P
on_err (Ok x) P h = tt
on_err (Err e) P h = h
