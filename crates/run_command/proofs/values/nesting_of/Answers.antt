use Rattle.std.proofs.Common.{◌≡◌, ◌∙◌, sym, arith}
use Rattle.std.specs.Prelude.{◌==◌, slice_index}
use Rattle.run_command.proofs.Names.{reads_number, signed_is_none}
use Rattle.run_command.proofs.values.nesting_of.Goals as goal

pub returns-then-starts_with : goal.returns-then-starts_with
returns-then-starts_with c =
    let tests : c.starts_with.result ≡ (slice_index c.args.text.now 0 == 43) = c.starts_with.ensures.byte (omega arith) (omega arith) (λ w o h. h) in
    signed_is_none c.args.text.now (sym tests ∙ c.if-starts_with.true)

pub returns-else-starts_with : goal.returns-else-starts_with
returns-else-starts_with c =
    let tests : c.starts_with.result ≡ (slice_index c.args.text.now 0 == 43) = c.starts_with.ensures.byte (omega arith) (omega arith) (λ w o h. h) in
    c.ok.ensures.value ∙ reads_number c.args.text.now c.parse.result (sym tests ∙ c.if-starts_with.false) c.parse.ensures.value.0
