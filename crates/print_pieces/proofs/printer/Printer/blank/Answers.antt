use Rattle.std.proofs.Common.{rules, ◌≡◌, true, false, is_some, codes, refl}
use Rattle.print_pages_spec.specs.Pieces.{Blank}
use Rattle.print_pieces.proofs.Steps.{passes, put_at_once}
use Rattle.print_pieces.proofs.printer.Printer.blank.Goals as goal

pub returns-then-is_some : goal.returns-then-is_some
returns-then-is_some g c =
    let e : is_some c.args.self.now.fault ≡ true = search rules in
    passes {b = false} Blank tt e refl

pub returns-else-not-put : goal.returns-else-not-put
returns-else-not-put g c =
    let n : is_some c.args.self.now.fault ≡ false = search rules in
    let d : c.put.result ≡ true = search rules in
    put_at_once Blank tt (codes " ") refl n d c.put.ensures.value c.put.ensures.keeps
