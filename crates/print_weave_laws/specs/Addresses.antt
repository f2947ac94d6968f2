-- Which gap between the tokens of a source is which gap of the text that is written of it. Of all tokens only `;`, `,`, `(` and `)` come and go, and those of an empty list
-- of imports, so a gap has an address: how many kept tokens stand before it, and how many loose ones since the last of these.
use Rattle.std.specs.Prelude.{ℕ, zero, suc, ◌+◌, ◌-◌, Bool, false, ◌&&◌, ◌||◌, ◌==◌, not, nat_le, nat_lt, if◌then◌else◌, List, [], ◌∷◌, length}
use Rattle.base_token.specs.Kinds.{semicolon_kind, comma_kind, left_paren_kind, right_paren_kind, left_brace_kind, right_brace_kind, from_kind, import_kind}

-- a token by its kind, and whether it may come and go
pub record Sort : Type 0 where
  pub kind : ℕ
  pub loose : Bool

-- ---- which tokens come and go

abbrev pub comes_and_goes : ℕ → Bool
comes_and_goes k = (k == semicolon_kind) || ((k == comma_kind) || ((k == left_paren_kind) || (k == right_paren_kind)))

abbrev pub starts_with : ℕ → List ℕ → Bool
starts_with k [] = false
starts_with k (l ∷ ls) = k == l

abbrev pub behind_first : List ℕ → List ℕ
behind_first [] = []
behind_first (l ∷ ls) = ls

-- Of an empty list of imports, `{ } from`, the braces go, and behind `import` so does `from`: a, b and c stand before the token.
abbrev pub is_loose : ℕ → ℕ → ℕ → ℕ → List ℕ → Bool
is_loose a b c k ks = comes_and_goes k
    || (((k == left_brace_kind) && (starts_with right_brace_kind ks && starts_with from_kind (behind_first ks)))
    || (((k == right_brace_kind) && ((c == left_brace_kind) && starts_with from_kind ks))
    || ((k == from_kind) && ((c == right_brace_kind) && ((b == left_brace_kind) && (a == import_kind))))))

abbrev pub sorts_behind : ℕ → ℕ → ℕ → List ℕ → List Sort
sorts_behind a b c [] = []
sorts_behind a b c (k ∷ ks) = record { kind = k; loose = is_loose a b c k ks } ∷ sorts_behind b c k ks

abbrev pub sorts : List ℕ → List Sort
sorts ks = sorts_behind semicolon_kind semicolon_kind semicolon_kind ks

-- ---- addresses

-- the kept tokens among the first g
abbrev pub kept_before : List Sort → ℕ → ℕ
kept_before ks zero = 0
kept_before [] (suc g) = 0
kept_before (k ∷ ks) (suc g) = if k.loose then kept_before ks g else kept_before ks g + 1

-- the loose tokens at the front
abbrev pub loose_front : List Sort → List Sort
loose_front [] = []
loose_front (k ∷ ks) = if k.loose then k ∷ loose_front ks else []

-- those behind the r-th kept token, and where they begin
abbrev pub run_of : ℕ → List Sort → List Sort
run_of zero ks = loose_front ks
run_of (suc r) [] = []
run_of (suc r) (k ∷ ks) = if k.loose then run_of (suc r) ks else run_of r ks

abbrev pub start_of : ℕ → List Sort → ℕ
start_of zero ks = 0
start_of (suc r) [] = 0
start_of (suc r) (k ∷ ks) = if k.loose then start_of (suc r) ks + 1 else start_of r ks + 1

-- ---- one run and another

-- how far two lists agree
abbrev pub agreeing : List Sort → List Sort → ℕ
agreeing [] ls = 0
agreeing (k ∷ ks) [] = 0
agreeing (k ∷ ks) (l ∷ ls) = if k.kind == l.kind then agreeing ks ls + 1 else 0

abbrev pub without : ℕ → List Sort → List Sort
without zero ks = ks
without (suc n) [] = []
without (suc n) (k ∷ ks) = without n ks

abbrev pub onto : List Sort → List Sort → List Sort
onto [] ls = ls
onto (k ∷ ks) ls = onto ks (k ∷ ls)

abbrev pub turned : List Sort → List Sort
turned ks = onto ks []

-- the opening parentheses at the front
abbrev pub opening : List Sort → ℕ
opening [] = 0
opening (k ∷ ks) = if k.kind == left_paren_kind then opening ks + 1 else 0

-- Where the j-th gap of one run is in another: where they agree at the front, there; else as far from the end as in the one, as far as they agree at the end, and before that behind
-- all that came but opening parentheses.
abbrev pub behind_front : ℕ → ℕ → List Sort → List Sort → ℕ
behind_front front left ks ls =
    let end = agreeing (turned ks) (turned ls) in
    let at = if nat_le left end then length ls - left else length ls - end in
    front + (at - opening (without (length ls - at) (turned ls)))

abbrev pub in_run : ℕ → List Sort → List Sort → ℕ
in_run j ks ls =
    let front = agreeing ks ls in
    if nat_le j front && not ((j == length ks) && nat_lt (length ks) (length ls)) then j
    else behind_front front (length ks - j) (without front ks) (without front ls)

-- ---- the gap of the one list of tokens that is a gap of the other

abbrev pub gap_in : List Sort → List Sort → ℕ → ℕ
gap_in ks ls g = start_of (kept_before ks g) ls + in_run (g - start_of (kept_before ks g) ks) (run_of (kept_before ks g) ks) (run_of (kept_before ks g) ls)
