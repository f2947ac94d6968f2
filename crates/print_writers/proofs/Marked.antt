-- The marks at one place, of which the greatest position is known.
use Rattle.std.proofs.Common.{◌≡◌, ℕ, ◌<◌, ◌≤◌, List, [], ◌∷◌, ◌++◌, length, drop, false, sym, subst, arith}
use Rattle.std.specs.Prelude.{◌==◌}
use Rattle.std.proofs.lemmas.List.{drop-append-le, drop_all}
use Rattle.std.proofs.lemmas.List.Elements.{All-nil, All-push, All-weaker}
use Rattle.std.proofs.lemmas.List.Folds.{list_any_none}
use Rattle.std.proofs.lemmas.Bool.Decides.{nat_tests}
use Rattle.base_token.specs.declared.place.BytePos.{BytePos}
use Rattle.base_token.specs.declared.place.LineCol.{LineCol}
use Rattle.print_writers.specs.Pages.{is_here}
use Rattle.print_writers.specs.Views.{AreUpTo}

-- a position past the greatest is not among them
pub is_new : (pos : BytePos) (most : ℕ) (pairs : List (BytePos × LineCol)) → AreUpTo most pairs → most < pos.0 → is_here pos pairs ≡ false
is_new pos most pairs all past =
    list_any_none (λ pair. pair.0.0 == pos.0) pairs
    (All-weaker (λ pair. pair.0.0 ≤ most) (λ pair. (pair.0.0 == pos.0) ≡ false) (λ pair h. grind (arith, nat_tests)) pairs all)

-- none stand behind the last
pub none_behind : (most : ℕ) (pairs : List (BytePos × LineCol)) → AreUpTo most (drop (length pairs) pairs)
none_behind most pairs =
    subst (AreUpTo most) (sym (drop_all (length pairs) pairs (omega (arith)))) (All-nil (λ pair. pair.0.0 ≤ most))

-- one more
pub one_more : (here most next : ℕ) (pair : BytePos × LineCol) (pairs : List (BytePos × LineCol)) → here ≤ length pairs → AreUpTo most (drop here pairs) → most ≤ next → pair.0.0 ≤ next → AreUpTo next (drop here (pairs ++ pair ∷ []))
one_more here most next pair pairs low all up own =
    subst (AreUpTo next) (sym (drop-append-le here pairs (pair ∷ []) low))
    (All-push (λ p. p.0.0 ≤ next) (drop here pairs) pair
    (All-weaker (λ p. p.0.0 ≤ most) (λ p. p.0.0 ≤ next) (λ p h. omega (arith, h, up)) (drop here pairs) all) own)
