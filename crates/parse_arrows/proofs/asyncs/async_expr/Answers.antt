use Rattle.std.proofs.Common.{◌∙◌, sym}
use Rattle.parse_state.specs.Codes.{code_of}
use Rattle.parse_state.specs.Cursors.{stream_of}
use Rattle.parse_state.specs.States.{state_of}
use Rattle.parse_arrows.proofs.AsyncLemmas.{async_is}
use Rattle.parse_arrows.proofs.asyncs.async_expr.Goals as goal

pub returns-clause-value : goal.returns-clause-value
returns-clause-value g c =
    rw (async_is (stream_of g.I.Tokens.machine) (g.N.Nested.reads c.args.nested.now _ g.I.Tokens.machine) (code_of c.args.code) c.args.level (state_of g.I.Tokens.state c.args.p.now) c.place-place.result c.place-place.ensures, sym (c.in_ok-sym.ensures.text ∙ c.text.ensures), sym c.in_ok-bump.ensures.value) c.async_end.ensures.value
