-- The lexer as a source of tokens.
use Rattle.std.proofs.Common.{◌≡◌, Option, None, sym, ap, subst, ◌∙◌}
use Rattle.base_token.specs.Tokens.{Spot}
use Rattle.lex_source.specs.Machine.{EndStays, Machine, told_of}
use Rattle.lex_step_laws.specs.States.{State, Text}
use Rattle.lex_step_laws.specs.Steps.{IsStep}
use Rattle.lex_step_laws.proofs.StepLemmas.{one_step}
use Rattle.lex_step_laws.specs.Bounds.{bound}
use Rattle.lex_step_laws.proofs.Ends.{end_stays}
use Rattle.lex_step_laws.proofs.Going.{no_again}
use Rattle.lex_step_laws.proofs.Steps.{always_steps}

-- The one step that is made from a state: what it hands out, and the state behind it.
unfoldable pub step_of : State → Option Spot × State
step_of s = ((always_steps s).0, (always_steps s).1)

-- Where a step is made from a state that hands out nothing and leaves it, it is the one.
nothing_comes : (s : State) → IsStep s None s → step_of s ≡ (None, s)
unfolding step_of
nothing_comes s h =
    let k = one_step s s (always_steps s).1 None (always_steps s).0 h (always_steps s).2 in
    ap (λ (o : Option Spot). (o, (always_steps s).1)) (sym k.0) ∙ ap (λ (new : State). (None, new)) (sym k.1)

-- The end of a text stays its end.
pub steps_end : EndStays step_of
unfolding step_of
steps_end s settings none end may =
    let over : IsStep s None (always_steps s).1 = subst (λ o. IsStep s o (always_steps s).1) end (always_steps s).2 in
    nothing_comes (told_of settings (always_steps s).1) (end_stays s (always_steps s).1 settings (no_again s none) over may)

abbrev pub lexer_machine : Machine Text
lexer_machine = record { step = step_of; bound = bound; end_stays = steps_end }
