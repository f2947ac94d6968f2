use Rattle.std.proofs.Common.{ℕ, List, sym, ap, subst, ◌∙◌}
use Rattle.std.specs.Str.{chars}
use Rattle.lex_literal.specs.Numbers.{Number, SpellsNumber, legacy_of_number}
use Rattle.lex_literal.proofs.NumeralLemmas.{is_number, exponent_same, plain_fault, plain_read, plain_found}
use Rattle.lex_literal.proofs.number.read_plain.Goals as goal

pub number_fault-requires-clause-exponent : goal.number_fault-requires-clause-exponent
number_fault-requires-clause-exponent c = exponent_same (chars c.args.text.now) c.args.front.own.now (chars c.args.front.rest.now) c.args.front.state c.requires.front

pub returns-then-bars-clause-number : goal.returns-then-bars-clause-number
returns-then-bars-clause-number c is_fault =
    plain_fault c.args.end (chars c.args.text.now) c.args.front.own.now (chars c.args.front.rest.now) c.args.front.state c.number_fault.result
    c.requires.front c.requires.whole c.requires.no_big (sym c.bars.ensures ∙ c.if-bars.true) c.number_fault.ensures

pub unreachable-requires : goal.unreachable-requires
unreachable-requires c =
    plain_read (chars c.args.text.now) c.args.front.own.now (chars c.args.front.rest.now) c.args.front.state c.in-Ok.value c.requires.front c.requires.whole c.in-Ok.ensures c.in_default-value.is

pub returns-clause-number : goal.returns-clause-number
returns-clause-number c =
    let found = plain_found (chars c.args.text.now) c.args.front.own.now (chars c.args.front.rest.now) c.args.front.state c.in-Some.value c.requires.front c.requires.no_big
    (sym c.bars.ensures ∙ c.if-bars.false) (sym c.in-Ok.ensures ∙ c.in-Some.is) in (
      subst (λ (l : List ℕ). SpellsNumber (Number c.in-Some.value) l (chars c.args.text.now) (chars c.args.front.rest.now)) (sym c.requires.own) found,
      c.legacy.ensures ∙ ap legacy_of_number (sym c.requires.own),
    )

pub legacy-requires : goal.legacy-requires
legacy-requires c = is_number (chars c.args.text.now) c.args.front.own.now (chars c.args.front.rest.now) c.args.front.state c.requires.front c.requires.whole
