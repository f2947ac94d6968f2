use Rattle.std.proofs.Common.{ℕ, List, refl, sym, ap, ◌∙◌}
use Rattle.std.specs.Str.{chars}
use Rattle.std.specs.Cow.{cow_str_bytes}
use Rattle.base_token.specs.Numbers.{plain, prefix_radix}
use Rattle.lex_literal.specs.Numbers.{behind_prefix}
use Rattle.lex_literal.proofs.NumeralLemmas.{big_fault, big_ends_with, big_found, digits_ascii}
use Rattle.lex_literal.proofs.number.read_big.Goals as goal

pub returns-then-bars-clause-number : goal.returns-then-bars-clause-number
returns-then-bars-clause-number c is_fault =
    big_fault c.args.end (chars c.args.text.now) c.args.front.own.now (chars c.args.rest.now) c.args.front.state c.args.radix c.barred_next.result
    c.requires.front c.requires.big (sym c.bars.ensures ∙ c.if-bars.true) c.barred_next.ensures

pub without_separators-requires : goal.without_separators-requires
without_separators-requires c =
    digits_ascii (chars c.args.text.now) c.args.front.own.now _ (chars c.behind_prefix.result.now) (chars c.args.front.own.now) c.args.front.state c.requires.front c.requires.own c.behind_prefix.ensures

pub before-requires : goal.before-requires
before-requires c = big_ends_with (chars c.args.text.now) c.args.front.own.now (chars c.args.rest.now) c.args.front.state c.requires.front

pub returns-clause-number : goal.returns-clause-number
returns-clause-number c = (
  big_found (chars c.args.text.now) c.args.front.own.now (chars c.before-2.result.now) (chars c.args.rest.now) (cow_str_bytes c.in-Ok.digits) c.args.front.state c.args.radix
      c.requires.front c.requires.big (sym c.bars.ensures ∙ c.if-bars.false)
      (c.in-Ok.ensures ∙ ap plain c.behind_prefix.ensures ∙ ap (λ (l : List ℕ). plain (behind_prefix (prefix_radix l) l)) c.requires.own)
      c.before-2.ensures.cut,
  refl,
)
