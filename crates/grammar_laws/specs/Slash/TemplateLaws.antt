-- Templates match (ECMA-262, 13.2.8): which tokens stand among a template's characters is told by the tokens before them.
use Rattle.std.specs.Prelude.{◌≡◌, ℕ, Bool, true, false, not, ◌&&◌, ◌||◌, ◌==◌, if◌then◌else◌, List, [], ◌∷◌}
use Rattle.base_token.specs.Kinds.{left_brace_kind, right_brace_kind, back_quote_kind, template_kind, dollar_brace_kind, error_kind}
use Rattle.tree_spec.specs.Tree.{Tree, script, es_module}
use Rattle.grammar_spec.specs.Tokens.Input.{PlacedToken, Input, Code, usual, template_goal, template_end_goal}
use Rattle.grammar_spec.specs.Grammar.{Produces}

-- Where a token stands, by the braces that are open there, the innermost first (true: one that `${` opened): outside the characters of templates;
-- where a template's characters are to come; behind them; or nowhere, where a brace or a template before it has no partner.
pub data Region : Type 0 where
  Outside : List Bool → Region
  Inside : List Bool → Region
  Behind : List Bool → Region
  Nowhere : Region

abbrev pub closing : List Bool → Region
closing [] = Nowhere
closing (false ∷ s) = Outside s
closing (true ∷ s) = Inside s

-- the region after a token of a kind
abbrev pub after : Region → ℕ → Region
after (Outside s) k =
    if k == left_brace_kind then Outside (false ∷ s)
    else (if k == right_brace_kind then closing s
    else (if k == back_quote_kind then Inside s
    else (if (k == template_kind) || (k == dollar_brace_kind) then Nowhere else Outside s)))
after (Inside s) k = if k == template_kind then Behind s else Nowhere
after (Behind s) k = if k == back_quote_kind then Outside s else (if k == dollar_brace_kind then Outside (true ∷ s) else Nowhere)
after Nowhere k = Nowhere

-- whether a token of a kind stands under a goal of its region: outside the characters of templates one that is usual for it, and no fault stands there
abbrev pub fits : Region → ℕ → ℕ → Bool
fits (Outside s) k goal = usual k goal && not (k == error_kind)
fits (Inside s) k goal = goal == template_goal
fits (Behind s) k goal = goal == template_end_goal
fits Nowhere k goal = false

-- the region after some tokens, which stand under goals of theirs
abbrev pub over : Region → List PlacedToken → Region
over g [] = g
over g (p ∷ ps) = over (if fits g p.spot.token.kind p.goal then after g p.spot.token.kind else Nowhere) ps

-- a script or a module that produces tokens
abbrev pub Programmed : Tree → Code → Input → Input → Type 0
Programmed (script s ss l) c ts r = Produces (script s ss l) c ts r
Programmed (es_module s ss l) c ts r = Produces (es_module s ss l) c ts r
Programmed t c ts r = ⊥

-- In the tokens of a program each brace and each template has its partner, and each token stands under a goal of its region. So the characters of a
-- template, and what ends them, stand where the tokens before them say, and nowhere else.
abbrev pub ProgramsMatch : Type 0
ProgramsMatch = (t : Tree) (c : Code) (ts r : Input) → c.placed ≡ true → Programmed t c ts r → over (Outside []) ts.places ≡ Outside []
