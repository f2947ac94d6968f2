use Rattle.std.proofs.Common.{rules, ◌≡◌, true, false, is_some, refl, sym, ap, ◌∙◌}
use Rattle.std.specs.Result.{result_err}
use Rattle.print_pages_spec.specs.Pieces.{Commit}
use Rattle.print_pieces.proofs.Steps.{asks, passes, none_of}
use Rattle.print_pieces.proofs.printer.Printer.commit.Goals as goal

pub returns-then-is_some : goal.returns-then-is_some
returns-then-is_some g c =
    let e : is_some c.args.self.now.fault ≡ true = search rules in
    passes {b = false} Commit tt e refl

pub returns-in-Ok : goal.returns-in-Ok
returns-in-Ok g c =
    let n : is_some c.args.self.now.fault ≡ false = search rules in
    asks {b = true} Commit tt refl c.commit_pending_semi.result n refl (sym (none_of c.args.self.now.fault n) ∙ sym (ap result_err c.in-Ok.is)) c.commit_pending_semi.ensures.value c.commit_pending_semi.ensures.keeps

pub returns-in-Err : goal.returns-in-Err
returns-in-Err g c =
    let n : is_some c.args.self.now.fault ≡ false = search rules in
    asks {b = true} Commit tt refl c.commit_pending_semi.result n refl (sym (ap result_err c.in-Err.is)) c.commit_pending_semi.ensures.value c.commit_pending_semi.ensures.keeps
