-- The last token that was kept, where it is read again and where not.
use Rattle.std.proofs.Common.{◌≡◌, ℕ, true, false, Option, None, Some, option_map, List, [], ◌∷◌, ◌++◌, map, ap, cond, sym, ◌∙◌}
use Rattle.std.proofs.lemmas.List.{map-append}
use Rattle.base_token.specs.Tokens.{Spot}
use Rattle.base_token.specs.declared.token.TokenAndSpan.{TokenAndSpan}
use Rattle.lex_source.specs.Machine.{shown_spot}
use Rattle.lex_other_sources.specs.Captures.{captured_as, captured_with, is_slash_at, without_reread}

spots_keep : (lo : ℕ) (xs : List Spot) (x : Spot) → is_slash_at lo x ≡ false → without_reread lo (xs ++ x ∷ []) ≡ xs ++ x ∷ []
spots_keep lo [] x h = ap (λ b. cond b [] (x ∷ [])) h
spots_keep lo (y ∷ []) x h = ap (λ r. y ∷ r) (spots_keep lo [] x h)
spots_keep lo (y ∷ z ∷ zs) x h = ap (λ r. y ∷ r) (spots_keep lo (z ∷ zs) x h)

spots_drop : (lo : ℕ) (xs : List Spot) (x : Spot) → is_slash_at lo x ≡ true → without_reread lo (xs ++ x ∷ []) ≡ xs
spots_drop lo [] x h = ap (λ b. cond b [] (x ∷ [])) h
spots_drop lo (y ∷ []) x h = ap (λ r. y ∷ r) (spots_drop lo [] x h)
spots_drop lo (y ∷ z ∷ zs) x h = ap (λ r. y ∷ r) (spots_drop lo (z ∷ zs) x h)

pub last_kept : (lo : ℕ) (ts : List TokenAndSpan) (t : TokenAndSpan) → is_slash_at lo (shown_spot t) ≡ false → without_reread lo (map shown_spot (ts ++ t ∷ [])) ≡ map shown_spot (ts ++ t ∷ [])
last_kept lo ts t h = ap (without_reread lo) (map-append shown_spot ts (t ∷ [])) ∙ spots_keep lo (map shown_spot ts) (shown_spot t) h ∙ (sym (map-append shown_spot ts (t ∷ [])))

pub last_left : (lo : ℕ) (ts : List TokenAndSpan) (t : TokenAndSpan) → is_slash_at lo (shown_spot t) ≡ true → without_reread lo (map shown_spot (ts ++ t ∷ [])) ≡ map shown_spot ts
last_left lo ts t h = ap (without_reread lo) (map-append shown_spot ts (t ∷ [])) ∙ spots_drop lo (map shown_spot ts) (shown_spot t) h

-- what is kept of a token that is put
pub captured_shown : (o : Option Spot) (t : Option TokenAndSpan) (spots : List Spot) → o ≡ option_map shown_spot t → captured_with t spots ≡ captured_as o spots
captured_shown o None spots e = ap (λ (p : Option Spot). captured_as p spots) (sym e)
captured_shown o (Some t) spots e = ap (λ (p : Option Spot). captured_as p spots) (sym e)
