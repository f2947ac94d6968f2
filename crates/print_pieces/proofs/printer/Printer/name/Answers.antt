use Rattle.std.proofs.Common.{rules, ◌≡◌, true, false, is_some, refl, None}
use Rattle.print_pages_spec.specs.Pieces.{Text, Commit, Mark}
use Rattle.print_pieces.proofs.Steps.{◌▸◌, passes, named_as, name_at_once}
use Rattle.print_pieces.proofs.printer.Printer.name.Goals as goal

pub returns-then-is_some : goal.returns-then-is_some
returns-then-is_some g c =
    let e : is_some c.args.self.now.fault ≡ true = search rules in
    named_as (passes {b = false} Commit tt e refl ▸ (passes {b = false} (Mark c.args.pos) tt e refl ▸ passes {b = false} (Text None c.args.name.now) c.utf8.name e refl))

pub returns-else-not-put : goal.returns-else-not-put
returns-else-not-put g c =
    let n : is_some c.args.self.now.fault ≡ false = search rules in
    let d : c.put.result ≡ true = search rules in
    name_at_once c.args.pos c.args.name.now c.utf8.name n c.needs_marks.ensures c.if-needs_marks.false d c.put.ensures.value c.put.ensures.keeps
