-- What stands between parentheses, as its elements are read: an expression, several, or none.
use Rattle.std.proofs.Common.{◌≡◌, ℕ, false, if◌then◌else◌, List, [], ◌∷◌, Option, None, Some, Result, Ok, refl, ap}
use Rattle.tree_spec.specs.Tree.{Tree, paren_expr}
use Rattle.grammar_spec.specs.Tokens.Input.{Code, span}
use Rattle.grammar_spec.specs.Reader.Source.{Fault, placed, unexpected, ◌>>=◌, Stream, State, Inner, bound, spanned}
use Rattle.grammar_spec.specs.Reader.Expressions.{Elements, arrow_by, heads_params, joined, last_end, params_of, plain_elements, group_end}
use Rattle.parse_arrows.specs.Groups.{group_rest, group_tree, joined_or_none}

pub group_is : {S : Type 0} (m : Stream S) (inner : Inner S) (c : Code) (l start paren : ℕ) (xs : Elements) (r : State S) → group_end m inner c l start paren xs r ≡ group_rest m inner c l start paren xs r
unfolding group_end group_rest group_tree
group_is {S} m inner c l start paren xs r =
    ap (λ (t : Result (Tree × State S) Fault). if heads_params m inner l xs r then (placed (bound m r) (params_of m inner r.commas xs) >>= λ ps. arrow_by m inner c start false ps r) else (if xs.comma then unexpected m r else t)) (go (plain_elements xs.items))
  where
    go : (es : Option (List Tree)) → elim es [
      | None ↦ unexpected m r
      | Some [] ↦ unexpected m r
      | Some (e ∷ es) ↦ Ok (paren_expr (spanned m start r) (joined (e ∷ es) (span paren (last_end xs.items))), r)
    ] ≡ ◌>>=◌ {B = Tree × State S} (placed (bound m r) (joined_or_none paren (last_end xs.items) es)) (λ t. Ok (paren_expr (spanned m start r) t, r))
    go None = refl
    go (Some []) = refl
    go (Some (e ∷ es)) = refl
