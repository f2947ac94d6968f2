-- Between which tokens no line may end (ECMA-262, 12.10.1), and which touch (15.7), by the kinds of the two.
use Rattle.std.specs.Prelude.{◌≡◌, ℕ, Bool, ◌||◌, ◌==◌, if◌then◌else◌, List, [], ◌∷◌, length}
use Rattle.base_token.specs.Kinds.{end_kind, arrow_kind, plus_plus_kind, minus_minus_kind, await_kind, break_kind, continue_kind, return_kind, throw_kind, yield_kind, accessor_kind, assert_kind, async_kind, using_kind}
use Rattle.grammar_spec.specs.Tokens.Input.{PlacedToken}

-- the words behind which no line may end in some production
abbrev pub is_tying : ℕ → Bool
is_tying k = (k == return_kind) || ((k == break_kind) || ((k == continue_kind) || ((k == throw_kind) || ((k == yield_kind) || ((k == async_kind) || ((k == accessor_kind) || ((k == using_kind) || (k == await_kind))))))))

-- the tokens before which none may
abbrev pub is_held : ℕ → Bool
is_held k = (k == arrow_kind) || ((k == plus_plus_kind) || ((k == minus_minus_kind) || (k == assert_kind)))

abbrev pub is_tied : ℕ → ℕ → Bool
is_tied behind k = is_tying behind || is_held k

-- the kind of the token before the last n of them
abbrev pub kind_before : List PlacedToken → ℕ → ℕ
kind_before [] n = end_kind
kind_before (p ∷ ps) n = if n == length ps then p.spot.token.kind else kind_before ps n

-- Before the tokens that are left stand these kinds.
abbrev pub KindsBefore : (ℕ → ℕ) → List PlacedToken → Type 0
KindsBefore f [] = Unit {0}
KindsBefore f (p ∷ ps) = (f (length ps) ≡ p.spot.token.kind) × KindsBefore f ps
