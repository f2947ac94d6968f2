-- The depth of the indentation.
use Rattle.std.proofs.Common.{◌≡◌, ℕ, ◌+◌, ◌-◌, ◌<◌, true, false, ap, ◌∙◌, arith}
use Rattle.std.specs.Prelude.{if◌then◌else◌, nat_lt}
use Rattle.std.proofs.lemmas.Bool.Decides.{nat_tests}
use Rattle.print_writers.specs.Pages.{Page, deeper, shallower, last_depth}

with_depth : Page → ℕ → Page
with_depth p n = record p { depth = n }

back : (n : ℕ) → n < last_depth → (if nat_lt n last_depth then n + 1 else n) - 1 ≡ n
back n h = let t : nat_lt n last_depth ≡ true = grind (arith, nat_tests) in ap (λ b. (if b then n + 1 else n) - 1) t ∙ omega arith

pub comes_back : (p : Page) → p.depth < last_depth → shallower (deeper p) ≡ p
unfolding deeper shallower with_depth
comes_back p h = ap (with_depth p) (back p.depth h)

pub stays_deepest : (p : Page) → p.depth ≡ last_depth → deeper p ≡ p
unfolding deeper with_depth
stays_deepest p e =
    let t : nat_lt p.depth last_depth ≡ false = grind (arith, nat_tests) in
    ap (λ b. with_depth p (if b then p.depth + 1 else p.depth)) t

pub stays_at_none : (p : Page) → p.depth ≡ 0 → shallower p ≡ p
unfolding shallower with_depth
stays_at_none p e = ap (with_depth p) (let same : p.depth - 1 ≡ p.depth = omega arith in same)
