-- What is looked at in a list that is kept from its end.
use Rattle.std.proofs.Common.{◌≡◌, ℕ, zero, suc, ◌-◌, List, [], ◌∷◌, ◌++◌, length, map, reverse, take, Option, None, Some, refl, sym, ap, ◌∙◌, arith, Bor}
use Rattle.std.proofs.lemmas.List.{length-append, length-map, reverse-append, reverse-reverse, take_at}
use Rattle.std.proofs.lemmas.Option.{slice_get-map}
use Rattle.std.specs.List.{slice_get}
use Rattle.std.specs.Option.{option_copied, option_map}
use Rattle.base_token.specs.Tokens.{Spot}
use Rattle.base_token.specs.declared.token.TokenAndSpan.{TokenAndSpan}
use Rattle.lex_source.specs.declared.look.Look.{Look}
use Rattle.lex_source.specs.declared.look.Look.TheVariants.{Next, Second, Slash}
use Rattle.lex_source.specs.Looks.{seen}
use Rattle.lex_source.specs.Machine.{shown_spot}
use Rattle.lex_source.specs.Settings.{Settings}
use Rattle.lex_other_sources.specs.Lists.{behind_first, first_of, list_machine, seen_in}

-- ---- a list from its end

reverse_more : (y : Spot) (ys : List Spot) → reverse (y ∷ ys) ≡ reverse ys ++ y ∷ []
reverse_more y ys = reverse-append (y ∷ []) ys

get_last : (ys : List Spot) (y : Spot) → slice_get (ys ++ y ∷ []) (length ys) ≡ Some y
get_last [] y = refl
get_last (x ∷ xs) y = get_last xs y

one_less : (ys : List Spot) (y : Spot) (n : ℕ) → n ≡ length (ys ++ y ∷ []) - 1 → n ≡ length ys
one_less ys y n e = let k = length-append ys (y ∷ []) in omega (arith, e, k)

last_by : (back : List Spot) (n : ℕ) → n ≡ length (reverse back) - 1 → slice_get (reverse back) n ≡ first_of back
last_by [] n e = refl
last_by (y ∷ ys) n e =
    let more = reverse_more y ys in
    let m = one_less (reverse ys) y n (e ∙ ap (λ l. length l - 1) more) in
    ap (λ l. slice_get l n) more ∙ ap (slice_get (reverse ys ++ y ∷ [])) m ∙ get_last (reverse ys) y

front_by : (back : List Spot) (n : ℕ) → n ≡ length (reverse back) - 1 → reverse (take n (reverse back)) ≡ behind_first back
front_by [] n e = let none : n ≡ 0 = omega (arith, e) in rw none refl
front_by (y ∷ ys) n e =
    let more = reverse_more y ys in
    let m = one_less (reverse ys) y n (e ∙ ap (λ l. length l - 1) more) in
    ap (λ l. reverse (take n l)) more ∙ ap reverse (take_at (reverse ys) (y ∷ []) n (sym m)) ∙ reverse-reverse ys

last_first : (spots : List Spot) (n : ℕ) → n ≡ length spots - 1 → slice_get spots n ≡ first_of (reverse spots)
last_first spots n e =
    ap (λ l. slice_get l n) (sym (reverse-reverse spots)) ∙ last_by (reverse spots) n (e ∙ ap (λ l. length l - 1) (sym (reverse-reverse spots)))

front_behind : (spots : List Spot) (n : ℕ) → n ≡ length spots - 1 → reverse (take n spots) ≡ behind_first (reverse spots)
front_behind spots n e =
    ap (λ l. reverse (take n l)) (sym (reverse-reverse spots)) ∙ front_by (reverse spots) n (e ∙ ap (λ l. length l - 1) (sym (reverse-reverse spots)))

map_take : (n : ℕ) (xs : List TokenAndSpan) → map shown_spot (take n xs) ≡ take n (map shown_spot xs)
map_take zero xs = refl
map_take (suc n) [] = refl
map_take (suc n) (x ∷ xs) = ap (λ l. shown_spot x ∷ l) (map_take n xs)

-- ---- tokens from their end

shown : (r : Option (Bor TokenAndSpan)) → option_map (λ t. shown_spot t.now) r ≡ option_map shown_spot (option_copied r)
shown None = refl
shown (Some t) = refl

-- the last token is the one that comes
pub last_shown : (xs : List TokenAndSpan) (r : Option (Bor TokenAndSpan)) → option_copied r ≡ slice_get xs (length xs - 1)
    → option_map (λ t. shown_spot t.now) r ≡ first_of (reverse (map shown_spot xs))
last_shown xs r e =
    shown r ∙ ap (option_map shown_spot) e ∙ sym (slice_get-map shown_spot xs (length xs - 1))
    ∙ last_first (map shown_spot xs) (length xs - 1) (ap (λ n. n - 1) (sym (length-map xs shown_spot)))

-- and the last of the others the one behind it
pub second_shown : (xs front : List TokenAndSpan) (r : Option (Bor TokenAndSpan)) → front ≡ take (length xs - 1) xs → option_copied r ≡ slice_get front (length front - 1)
    → option_map (λ t. shown_spot t.now) r ≡ first_of (behind_first (reverse (map shown_spot xs)))
second_shown xs front r f e =
    last_shown front r e
    ∙ ap first_of (ap (λ l. reverse (map shown_spot l)) f ∙ ap reverse (map_take (length xs - 1) xs)
    ∙ front_behind (map shown_spot xs) (length xs - 1) (ap (λ n. n - 1) (sym (length-map xs shown_spot))))

pub ruleset looks = (last_shown, second_shown)

-- a list shows this
pub looked : (at : Look) (spots : List Spot) (settings : Settings) → seen list_machine.step at (record { tokens = spots; settings = settings }) ≡ seen_in at spots
looked Next [] settings = refl
looked Next (spot ∷ spots) settings = refl
looked (Slash place) [] settings = refl
looked (Slash place) (spot ∷ spots) settings = refl
looked Second [] settings = refl
looked Second (spot ∷ []) settings = refl
looked Second (spot ∷ next ∷ spots) settings = refl
