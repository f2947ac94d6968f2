use Rattle.std.proofs.Common.{arith, Vec, Global}
use Rattle.base_token.specs.declared.place.BytePos.{BytePos}
use Rattle.base_token.specs.declared.place.LineCol.{LineCol}
use Rattle.std.proofs.lemmas.Result.{err_from_is_err_and}
use Rattle.ecma_front.proofs.Answering.{input_fault_early, kept_all, text_fault_answers, text_fault_no_read, text_fault_no_settings, written_answers, written_begun_or, written_else, written_no_read, written_no_settings}
use Rattle.ecma_front.proofs.pipeline.steps.Goals as goal

pub returns-in_err-read_to_end-clause-whole : goal.returns-in_err-read_to_end-clause-whole
returns-in_err-read_to_end-clause-whole g c =
    let p = err_from_is_err_and c.from_residual.result c.from_residual.ensures.1 in
    rw (p.1, p.2) (λ e. absurd (input_fault_early c.in_err-read_to_end.field-0.0 c.in_err-read_to_end.ensures.kinds e))

pub returns-in_err-program-clause-settings : goal.returns-in_err-program-clause-settings
returns-in_err-program-clause-settings g c =
    let p = err_from_is_err_and c.from_residual-in_err-program.result c.from_residual-in_err-program.ensures.1 in
    rw (p.1, p.2) (λ e. absurd (text_fault_no_settings c.in_err-program.field-0.0 c.in_err-program.ensures.kinds (cc)), λ e. absurd (cc (c.if-are_refused.false, c.are_refused.ensures)))

pub returns-in_err-program-clause-reader_failed : goal.returns-in_err-program-clause-reader_failed
returns-in_err-program-clause-reader_failed g c =
    let p = err_from_is_err_and c.from_residual-in_err-program.result c.from_residual-in_err-program.ensures.1 in
    rw (p.1, p.2) (rw (text_fault_no_read c.in_err-program.field-0.0 c.in_err-program.ensures.kinds) c.in_ok-read_to_end.ensures.failures)

pub returns-in_err-program-clause-answer : goal.returns-in_err-program-clause-answer
returns-in_err-program-clause-answer g c =
    let p = err_from_is_err_and c.from_residual-in_err-program.result c.from_residual-in_err-program.ensures.1 in
    let r = c.in_ok-read_to_end.ensures in
    let same = kept_all _ _ _ r.kept r.whole in
    rw (p.1, p.2) (text_fault_answers (Vec (BytePos × LineCol) Global) (λ v. v.items) c.args.options _ _ _ c.read_to_end.new.kept.items _ same c.in_err-program.ensures.kinds
    (rw c.as_slice.ensures.value at c.in_err-program.ensures.answer) (omega (arith, c.read_to_end.new.kept.ok.0, r.fits)))

pub returns-clause-settings : goal.returns-clause-settings
returns-clause-settings g c =
    let r = c.in_ok-read_to_end.ensures in (
      λ e. absurd (written_no_settings (λ (v : Vec (BytePos × LineCol) Global). v.items) c.args.options c.in_ok-program.program c.read_to_end.new.kept.items _ _ (rw c.as_slice.ensures.value at c.in_ok-program.ensures.answer)
          (omega (arith, c.read_to_end.new.kept.ok.0, r.fits)) c.write-written.result c.write-written.ensures.value e),
      λ e. absurd (cc (c.if-are_refused.false, c.are_refused.ensures)),
    )

pub returns-clause-unwritten : goal.returns-clause-unwritten
returns-clause-unwritten g c =
    let r = c.in_ok-read_to_end.ensures in
    written_else (λ (v : Vec (BytePos × LineCol) Global). v.items) c.args.options c.in_ok-program.program c.read_to_end.new.kept.items _ _ (rw c.as_slice.ensures.value at c.in_ok-program.ensures.answer)
    (omega (arith, c.read_to_end.new.kept.ok.0, r.fits)) _ c.write-written.result c.write-written.ensures.value

pub returns-clause-begun : goal.returns-clause-begun
returns-clause-begun g c =
    let r = c.in_ok-read_to_end.ensures in
    written_begun_or (λ (v : Vec (BytePos × LineCol) Global). v.items) c.args.options c.in_ok-program.program c.read_to_end.new.kept.items _ _ (rw c.as_slice.ensures.value at c.in_ok-program.ensures.answer)
    (omega (arith, c.read_to_end.new.kept.ok.0, r.fits)) _ _ c.write-written.result (kept_all _ _ _ r.kept r.whole) c.write-written.ensures.value

pub returns-clause-reader_failed : goal.returns-clause-reader_failed
returns-clause-reader_failed g c =
    let r = c.in_ok-read_to_end.ensures in
    rw (written_no_read (λ (v : Vec (BytePos × LineCol) Global). v.items) c.args.options c.in_ok-program.program c.read_to_end.new.kept.items _ _ (rw c.as_slice.ensures.value at c.in_ok-program.ensures.answer)
    (omega (arith, c.read_to_end.new.kept.ok.0, r.fits)) c.write-written.result c.write-written.ensures.value) r.failures

pub returns-clause-answer : goal.returns-clause-answer
returns-clause-answer g c =
    let r = c.in_ok-read_to_end.ensures in
    written_answers (λ (v : Vec (BytePos × LineCol) Global). v.items) c.args.options c.in_ok-program.program c.read_to_end.new.kept.items _ _ (rw c.as_slice.ensures.value at c.in_ok-program.ensures.answer)
    (omega (arith, c.read_to_end.new.kept.ok.0, r.fits)) _ c.write-written.result (kept_all _ _ _ r.kept r.whole) c.write-written.ensures.value
