use Rattle.std.proofs.Common.{sym, ◌∙◌}
use Rattle.lex_literal.proofs.ScanLemmas.{scan_ends, scan_stops, scan_keeps, scan_goes}
use Rattle.lex_literal.proofs.number_state.scan.Goals as goal

pub returns-in_default-next : goal.returns-in_default-next
returns-in_default-next c =
    scan_stops c.bytes.state (c.bytes.last, c.bytes.behind.now) c.bytes.left.now c.in-Some.more.now c.in-Some.byte.now _
    c.in-Some.ensures.cases.0 (sym c.next.ensures ∙ c.in_default-next.is) c.bytes.invariant

pub bytes-preserved-then-is_whole : goal.bytes-preserved-then-is_whole
bytes-preserved-then-is_whole c =
    scan_keeps c.bytes.state c.in-Some-next.next (c.bytes.last, c.bytes.behind.now) c.bytes.left.now c.in-Some.more.now c.in-Some.byte.now _
    c.in-Some.ensures.cases.0 (sym c.next.ensures ∙ c.in-Some-next.is) (sym c.is_whole.ensures ∙ c.if-is_whole.true) c.bytes.invariant

pub bytes-preserved : goal.bytes-preserved
bytes-preserved c =
    scan_goes c.bytes.state c.in-Some-next.next (c.bytes.last, c.bytes.behind.now) c.bytes.left.now c.in-Some.more.now c.in-Some.byte.now _
    c.in-Some.ensures.cases.0 (sym c.next.ensures ∙ c.in-Some-next.is) (sym c.is_whole.ensures ∙ c.if-is_whole.false) c.bytes.invariant

pub returns : goal.returns
returns c = scan_ends c.bytes.state (c.bytes.last, c.bytes.behind.now) c.bytes.left.now _ c.in_default.ensures.cases c.bytes.invariant
