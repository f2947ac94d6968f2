use Rattle.std.proofs.Common.{arith, sym, ◌∙◌}
use Rattle.print_spelling.proofs.string.QuotedLemmas.{one_more}
use Rattle.print_spelling.proofs.string.quoted.take_plain.Goals as goal

pub units-preserved : goal.units-preserved
units-preserved c =
    let m = one_more c.args.style _ c.args.units.now c.units.run.items c.units.rest.now c.push.new.self.items c.in-len1-up.len_at_least
    c.units.invariant.cut c.units.invariant.stand (sym c.is_plain.ensures ∙ c.if-is_plain.true) (λ low. omega (arith, low)) c.push.ensures.items in
    record { cut = m.cut; stand = m.stand; room = omega arith }
