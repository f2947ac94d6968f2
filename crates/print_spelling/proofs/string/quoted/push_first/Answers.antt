use Rattle.std.proofs.Common.{List, ℕ, [], ◌∷◌, ◌++◌, ◌+◌, ◌≤◌, length, arith, ap, subst, sym, ◌∙◌}
use Rattle.std.specs.Str.{IsAscii}
use Rattle.arrayvec.specs.ArrayString.{array_string_len}
use Rattle.print_spelling.proofs.string.QuotedLemmas.{run_ascii, run_bytes, run_some}
use Rattle.print_spelling.proofs.string.quoted.push_first.Goals as goal

pub push_ascii-requires : goal.push_ascii-requires
push_ascii-requires c =
    let e = ap length c.as_slice.ensures.value in
    let room : array_string_len c.args.block.now + length c.as_slice.result.now ≤ 128 = omega arith in
    (omega arith, (subst IsAscii (sym c.as_slice.ensures.value) (run_ascii c.args.style _ c.take_plain-rest.ensures.plain), room))

pub returns-clause-bytes : goal.returns-clause-bytes
returns-clause-bytes c =
    run_bytes c.args.style c.args.quote c.args.before c.args.units.now c.take_plain-rest.new.run.items c.take_plain-rest.result.now (c.args.quote ∷ [])
    c.args.block.now.bytes c.push_ascii.new.text.bytes c.requires.quote c.take_plain-rest.ensures.plain (run_some _ _ c.is_empty.ensures c.if-is_empty.false)
    c.take_plain-rest.ensures.cut (c.push_ascii.ensures.bytes ∙ ap (λ (l : List ℕ). c.args.block.now.bytes ++ l) c.as_slice.ensures.value)
