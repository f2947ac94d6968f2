use Rattle.std.proofs.Common.{Vec, Global}
use Rattle.base_token.specs.declared.place.BytePos.{BytePos}
use Rattle.base_token.specs.declared.place.LineCol.{LineCol}
use Rattle.ecma_front.proofs.Answering.{answers_exactly}
use Rattle.ecma_front.proofs.pipeline.carry_out.Goals as goal

pub returns-clause-ran : goal.returns-clause-ran
returns-clause-ran g c =
    let e = c.steps.ensures in
    record {
      exact = answers_exactly (Vec (BytePos × LineCol) Global) (λ v. v.items) c.args.options _ _ _ c.steps.result e.settings.0 e.answer;
      settings = e.settings;
      untouched = e.untouched;
      whole = e.whole;
      unwritten = e.unwritten;
      begun = e.begun;
      reader_failed = e.reader_failed;
      writer_failed = e.writer_failed;
      answer = e.answer;
    }
