-- One more member, or the end of the class.
use Rattle.std.proofs.Common.{rules, ◌≡◌, ◌<◌, false, List, length, subst, sym, ◌∙◌, arith}
use Rattle.std.proofs.lemmas.Bool.{false≢true}
use Rattle.run_ignore.specs.Reading.{Begins, IsMember, IsNoMember}
use Rattle.run_ignore.specs.declared.pieces.Range.{Range}
use Rattle.run_ignore.proofs.ReadLemmas.{MembersSoFar, members_more, members_closed, members_named, members_open}
use Rattle.run_ignore.proofs.reading.members.Goals as goal

pub returns-in-Some-clause-read : goal.returns-in-Some-clause-read
returns-in-Some-clause-read c =
    let closing = c.in-Some.ensures.cases in
    members_closed c.args.text.now c.members.ranges.items c.members.is_first c.members.before c.members.rest.now c.in-Some.behind.now
    c.members.invariant closing.0 closing.1

pub returns-then-names_class-clause-read : goal.returns-then-names_class-clause-read
returns-then-names_class-clause-read c =
    members_named c.args.text.now c.members.ranges.items c.members.is_first c.members.before c.members.rest.now c.members.invariant
    (c.names_class.ensures.0 c.if-names_class.true)

pub returns-in_default-member-clause-read : goal.returns-in_default-member-clause-read
returns-in_default-member-clause-read c =
    let none : IsNoMember c.members.before c.members.rest.now =
    first_of (search (rules, c.in_default-member.ensures.cases), grind (arith, c.in_default-member.ensures.cases, c.in_default-member.is)) in
    members_open c.args.text.now c.members.ranges.items c.members.is_first c.members.before c.members.rest.now c.members.invariant none

pub members-preserved : goal.members-preserved
members-preserved c =
    let unclosed : c.members.is_first ≡ false → Begins c.members.rest.now 93 → ⊥ = first_of (search rules, grind arith) in
    let member : IsMember c.in-Some-member.range c.members.before c.members.rest.now c.in-Some-member.next c.in-Some-member.behind.now =
    first_of (search (rules, c.in-Some-member.ensures.cases), grind (arith, c.in-Some-member.ensures.cases)) in
    let shorter : length c.in-Some-member.behind.now < length c.members.rest.now =
    first_of (search (rules, c.in-Some-member.ensures.shorter), grind (arith, c.in-Some-member.ensures.shorter)) in
    subst (λ (l : List Range). MembersSoFar c.args.text.now l false c.in-Some-member.next c.in-Some-member.behind.now)
    (sym c.in_ok-push.ensures.items)
    (members_more c.args.text.now c.members.ranges.items c.members.is_first c.members.before c.members.rest.now c.in-Some-member.range
    c.in-Some-member.next c.in-Some-member.behind.now c.members.invariant unclosed
    (λ named. false≢true (sym c.if-names_class.false ∙ c.names_class.ensures.1 named)) member shorter)
