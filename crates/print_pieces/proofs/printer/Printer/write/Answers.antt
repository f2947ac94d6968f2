use Rattle.std.proofs.Common.{rules, ◌≡◌, true, false, is_some, refl, None}
use Rattle.print_pages_spec.specs.Pieces.{Text}
use Rattle.print_pieces.proofs.Steps.{passes, put_at_once}
use Rattle.print_pieces.proofs.printer.Printer.write.Goals as goal

pub returns-then-is_some : goal.returns-then-is_some
returns-then-is_some g c =
    let e : is_some c.args.self.now.fault ≡ true = search rules in
    passes {b = false} (Text None c.args.text.now) c.utf8.text e refl

pub returns-else-not-put : goal.returns-else-not-put
returns-else-not-put g c =
    let n : is_some c.args.self.now.fault ≡ false = search rules in
    let d : c.put.result ≡ true = search rules in
    put_at_once (Text None c.args.text.now) c.utf8.text c.args.text.now refl n d c.put.ensures.value c.put.ensures.keeps
