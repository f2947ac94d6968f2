use Rattle.std.proofs.Common.{◌++◌, sym, ap, subst, ◌∙◌, arith}
use Rattle.std.specs.Prelude.{Some}
use Rattle.std.specs.Str.{chars}
use Rattle.std.proofs.lemmas.Str.{chars-nil}
use Rattle.base_token.specs.declared.error.Error.{Error}
use Rattle.lex_pieces.specs.Places.{IsAt}
use Rattle.lex_literal.specs.Templates.{bare_run}
use Rattle.lex_literal.proofs.BareLemmas.{bare_none}
use Rattle.lex_literal.proofs.TemplateLemmas.{Kept, kept_at, kept_part, kept_bad, finished, cooked_piece, no_piece}
use Rattle.lex_literal.proofs.template.read_parts.Goals as goal

pub next_part-requires-clause-bare : goal.next_part-requires-clause-bare
next_part-requires-clause-bare c = ap bare_run c.split_bare.ensures.after ∙ bare_none (chars c.parts.rest.now)

pub before-requires : goal.before-requires
before-requires c =
    let k = kept_at c.args.end (chars c.args.text.now) (chars c.parts.rest.now) _ (chars c.split_bare.result.1.now) _ c.push_text.new.units.items c.parts.bad c.parts.invariant.2
    c.split_bare.ensures.run c.split_bare.ensures.after c.in-Ok.ensures in
    k.suffix

pub returns-in-End-clause-piece : goal.returns-in-End-clause-piece
returns-in-End-clause-piece c =
    let k = kept_at c.args.end (chars c.args.text.now) (chars c.parts.rest.now) _ (chars c.split_bare.result.1.now) _ c.push_text.new.units.items c.parts.bad c.parts.invariant.2
    c.split_bare.ensures.run c.split_bare.ensures.after c.in-Ok.ensures in
    let f = finished c.args.end (chars c.args.text.now) _ _ (chars c.in-End.behind.now) _ c.in-End.ending c.parts.bad k c.in-End.ensures.next c.before-in-End.ensures.cut in
    cooked_piece c.args.end (chars c.args.text.now) _ (chars c.in-End.behind.now) _ c.in-End.ending c.parts.bad c.cooked.result c.cooked.ensures f

pub parts-preserved-in-Escape : goal.parts-preserved-in-Escape
parts-preserved-in-Escape c =
    let k = kept_at c.args.end (chars c.args.text.now) (chars c.parts.rest.now) _ (chars c.split_bare.result.1.now) _ c.push_text.new.units.items c.parts.bad c.parts.invariant.2
    c.split_bare.ensures.run c.split_bare.ensures.after c.in-Ok.ensures in
    let n = c.in-Escape.ensures.next in
    let less = c.in-Escape.ensures.rest.1 in (
      c.in-Escape.ensures.rest.0,
      omega (arith, less, c.split_bare.ensures.text.1, c.parts.invariant.1),
      kept_part c.args.end (chars c.args.text.now) _ (chars c.in-Escape.behind.now) _ c.push_escape.new.units.items c.parts.bad n.0 k n.1 n.2
          (c.in-Ok-push_escape.ensures ∙ ap (λ x. c.push_text.new.units.items ++ x) (sym n.3)),
    )

pub parts-preserved : goal.parts-preserved
parts-preserved c =
    let k = kept_at c.args.end (chars c.args.text.now) (chars c.parts.rest.now) _ (chars c.split_bare.result.1.now) _ c.push_text.new.units.items c.parts.bad c.parts.invariant.2
    c.split_bare.ensures.run c.split_bare.ensures.after c.in-Ok.ensures in
    let n = c.in-Bad.ensures.next in
    let less = c.in-Bad.ensures.rest.1 in (
      c.in-Bad.ensures.rest.0,
      omega (arith, less, c.split_bare.ensures.text.1, c.parts.invariant.1),
      subst (λ (e : Error). Kept c.args.end (chars c.args.text.now) (chars c.in-Bad.behind.now) c.push_text.new.units.items (Some e)) (sym c.unwrap_or.ensures)
          (kept_bad c.args.end (chars c.args.text.now) _ (chars c.in-Bad.behind.now) _ c.parts.bad n.0 c.in-Bad.error k n.1 n.2),
    )

pub returns-in-Open-clause-piece : goal.returns-in-Open-clause-piece
returns-in-Open-clause-piece c is_fault =
    let k = kept_at c.args.end (chars c.args.text.now) (chars c.parts.rest.now) _ (chars c.split_bare.result.1.now) _ c.push_text.new.units.items c.parts.bad c.parts.invariant.2
    c.split_bare.ensures.run c.split_bare.ensures.after c.in-Ok.ensures in (
      no_piece c.args.end (chars c.args.text.now) _ _ c.parts.bad k c.in-Open.ensures.next,
      c.fault.ensures.kind,
      subst (λ l. IsAt c.args.end (chars c.args.text.now) l c.fault.result.span) chars-nil c.fault.ensures.place,
    )
