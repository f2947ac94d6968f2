use Rattle.std.proofs.Common.{◌<◌, ◌++◌, arith, refl, sym, subst, ◌∙◌}
use Rattle.print_writers.specs.Pages.{times, Gets}
use Rattle.print_writers.proofs.Outputs.{gets_both, gets_then, gets_longer, times_more, times_split, on_err}
use Rattle.print_writers.proofs.output.write_times.Goals as goal

pub loop-i-preserved : goal.loop-i-preserved
loop-i-preserved g c = record {
  sent = subst (Gets _ _) (sym (times_more c.loop-i.i c.args.bytes.now)) (gets_both _ _ _ _ _ c.loop-i.invariant.sent c.in_ok-write_all.ensures.written);
  counted = c.in_ok-write_all.ensures.failures ∙ c.loop-i.invariant.counted;
}

pub returns-in_err-write_all-clause-beginning : goal.returns-in_err-write_all-clause-beginning
returns-in_err-write_all-clause-beginning g c =
    let bytes = c.args.bytes.now in
    let i = c.loop-i.i in
    let below : i < c.args.count = omega arith in
    let split = times_split i c.args.count bytes below in
    on_err _ _ (gets_longer _ _ (times i bytes ++ bytes) split.0 _
    (gets_then _ _ _ (times i bytes) bytes _ c.loop-i.invariant.sent c.in_err-write_all.ensures.beginning refl) split.1)
