-- What stands between parentheses, where no arrow follows.
use Rattle.std.specs.Prelude.{ℕ, false, if◌then◌else◌, List, [], ◌∷◌, ◌++◌, Option, None, Some, Result, Ok}
use Rattle.tree_spec.specs.Tree.{Tree, paren_expr}
use Rattle.tree_spec.specs.Places.{place_of}
use Rattle.grammar_spec.specs.Tokens.Input.{Code, span}
use Rattle.grammar_spec.specs.Reader.Source.{Fault, unfit, placed, unexpected, ◌>>=◌, Stream, Read, Inner, bound, spanned}
use Rattle.grammar_spec.specs.Reader.Expressions.{Elements, arrow_by, heads_params, joined, last_end, params_of, plain_element, plain_elements}

-- an expression, or several with commas between them (13.2.9)
abbrev pub joined_or_none : ℕ → ℕ → Option (List Tree) → Result Tree Fault
joined_or_none lo hi None = unfit
joined_or_none lo hi (Some []) = unfit
joined_or_none lo hi (Some (e ∷ es)) = Ok (joined (e ∷ es) (span lo hi))

unfoldable pub group_tree : ℕ → List Tree → Result Tree Fault
group_tree lo xs = joined_or_none lo (last_end xs) (plain_elements xs)

-- the expressions of a list without dots
abbrev pub found : {A : Type 0} → Option A → Result A Fault
found None = unfit
found (Some x) = Ok x

unfoldable pub plain_list : List Tree → Result (List Tree) Fault
plain_list xs = found (plain_elements xs)

-- one more behind them, the last
abbrev pub grouped : ℕ → List Tree → Tree → Result Tree Fault
grouped lo es y = found (plain_element y) >>= λ e. Ok (joined (es ++ e ∷ []) (span lo (place_of y).hi.0))

-- the expressions of what is left behind those that were found
unfoldable pub plain_from : List Tree → List Tree → Result (List Tree) Fault
plain_from before [] = Ok before
plain_from before (x ∷ xs) = found (plain_element x) >>= λ e. plain_from (before ++ e ∷ []) xs

-- after the `)` of a group that began here, behind whose `(` the first token begins at `lo`
unfoldable pub group_rest : {S : Type 0} → Stream S → Inner S → Code → ℕ → ℕ → ℕ → Elements → Read S Tree
group_rest m inner c l start lo xs s =
    if heads_params m inner l xs s then (placed (bound m s) (params_of m inner s.commas xs) >>= λ ps. arrow_by m inner c start false ps s)
    else (if xs.comma then unexpected m s else (placed (bound m s) (group_tree lo xs.items) >>= λ t. Ok (paren_expr (spanned m start s) t, s)))
