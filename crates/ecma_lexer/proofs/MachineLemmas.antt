-- The step of the machine is the step that is made.
use Rattle.std.proofs.Common.{◌≡◌, Option, Some, None, Result, Ok, Err}
use Rattle.std.specs.Prelude.{option_map, MatchOption, IfOk, OnOk, ◌<◌, ◌≤◌}
use Rattle.base_token.specs.Tokens.{Spot}
use Rattle.base_token.specs.declared.error.Error.{Error}
use Rattle.base_token.specs.declared.token.TokenAndSpan.{TokenAndSpan}
use Rattle.lex_source.specs.Machine.{IsPut, StepGives, shown_spot}
use Rattle.lex_step_laws.specs.States.{State}
use Rattle.lex_step_laws.specs.Steps.{IsStep}
use Rattle.lex_step_laws.proofs.StepLemmas.{one_step}
use Rattle.lex_step_laws.specs.Bounds.{Falls, bound}
use Rattle.lex_step_laws.proofs.Bounds.{bound_falls}
use Rattle.lex_step_laws.proofs.Steps.{always_steps}
use Rattle.ecma_lexer.specs.Machine.{step_of}
use Rattle.ecma_lexer.specs.Stepping.{Steps}

pub step_is : (s new : State) (out : Option Spot) → IsStep s out new → (out ≡ (step_of s).0) × (new ≡ (step_of s).1)
unfolding step_of
step_is s new out h = one_step s new (always_steps s).1 out (always_steps s).0 h (always_steps s).2

pub gives : (s new : State) (r : Result (Option TokenAndSpan) Error) → Steps (IsStep s) r new → StepGives r (step_of s) new
gives s new (Ok t) h = step_is s new (option_map shown_spot t) h
gives s new (Err e) h = h

falls_by : (s new : State) (t : Option TokenAndSpan) → Falls (option_map shown_spot t) (bound s.tokens) (bound new.tokens)
    → MatchOption t (bound new.tokens ≤ bound s.tokens) (λ _. bound new.tokens < bound s.tokens)
falls_by s new None h = h
falls_by s new (Some x) h = h

pub falls : (s new : State) (r : Result (Option TokenAndSpan) Error) → Steps (IsStep s) r new
    → IfOk r (λ t. MatchOption t (bound new.tokens ≤ bound s.tokens) (λ _. bound new.tokens < bound s.tokens))
falls s new (Ok t) h = falls_by s new t (bound_falls s new (option_map shown_spot t) h)
falls s new (Err e) h = tt

-- ---- the same of a token that was put

pub puts : {X E : Type 0} (s new : State) (out : Option Spot) (r : Result X E) → OnOk r (IsStep s out new) → OnOk r (IsPut out (step_of s) new)
puts s new out (Ok x) h = step_is s new out h
puts s new out (Err e) h = h

falls_put : (s new : State) (out : Option Spot) → Falls out (bound s.tokens) (bound new.tokens) → MatchOption out (bound new.tokens ≤ bound s.tokens) (λ _. bound new.tokens < bound s.tokens)
falls_put s new None h = h
falls_put s new (Some x) h = h

pub puts_fall : {X E : Type 0} (s new : State) (out : Option Spot) (r : Result X E) → OnOk r (IsStep s out new)
    → OnOk r (MatchOption out (bound new.tokens ≤ bound s.tokens) (λ _. bound new.tokens < bound s.tokens))
puts_fall s new out (Ok x) h = falls_put s new out (bound_falls s new out h)
puts_fall s new out (Err e) h = h
