use Rattle.std.proofs.Common.{◌∷◌, List, ℕ, inl, inr, ap, subst, sym, ◌∙◌, arith}
use Rattle.std.specs.Str.{chars}
use Rattle.base_token.specs.declared.error.SyntaxError.{SyntaxError}
use Rattle.lex_literal.specs.Units.{is_legacy}
use Rattle.lex_pieces.specs.Places.{IsAt}
use Rattle.lex_literal.specs.Strings.{SpellsString}
use Rattle.lex_literal.proofs.StringLemmas.{SoFar, at_more, at_escape, or_yes, or_no, closes, ends_with, stops, line_stops, end_stops, Stuck, stuck_escape}
use Rattle.lex_literal.proofs.string.read_escaped.Goals as goal

pub returns-in_default-pop-clause-string : goal.returns-in_default-pop-clause-string
returns-in_default-pop-clause-string c is_fault =
    let s = at_more c.args.quote (chars c.args.inner.now) (chars c.pieces.rest.now) _ (chars c.split_plain.result.1.now) _ c.push_text.new.units.items c.pieces.legacy c.pieces.invariant.2
    c.split_plain.ensures.run c.split_plain.ensures.after c.in-Ok.ensures in
    let stuck = end_stops c.args.quote _ c.in_default-pop.ensures.cut in
    stops c.args.end c.args.quote (chars c.args.text.now) (chars c.args.inner.now) _ _ _ c.fault.result c.requires.quote c.requires.cut s
    stuck.0 (inl (stuck.1, c.fault.ensures.kind, c.fault.ensures.place))

pub before-raw-requires : goal.before-raw-requires
before-raw-requires c =
    let s = at_more c.args.quote (chars c.args.inner.now) (chars c.pieces.rest.now) _ (chars c.split_plain.result.1.now) _ c.push_text.new.units.items c.pieces.legacy c.pieces.invariant.2
    c.split_plain.ensures.run c.split_plain.ensures.after c.in-Ok.ensures in
    ends_with c.args.quote _ _ _ _ _ _ c.in-Some.c c.requires.cut s c.in-Some.ensures.cut

pub returns-then-c-quote-clause-string : goal.returns-then-c-quote-clause-string
returns-then-c-quote-clause-string c =
    let s = at_more c.args.quote (chars c.args.inner.now) (chars c.pieces.rest.now) _ (chars c.split_plain.result.1.now) _ c.push_text.new.units.items c.pieces.legacy c.pieces.invariant.2
    c.split_plain.ensures.run c.split_plain.ensures.after c.in-Ok.ensures in
    let at = c.in-Some.ensures.cut ∙ ap (λ x. x ∷ chars c.in-Some.behind.now) c.if-c-quote.true in
    let spelt = closes c.args.quote _ _ _ _ _ c.pieces.legacy c.requires.quote c.requires.cut s at in
    (subst (λ (units : List ℕ). SpellsString units c.pieces.legacy (chars c.args.text.now) (chars c.in-Some.behind.now)) (sym c.from-value.ensures) spelt, c.before-raw.ensures.cut)

pub returns-then-c-ne92-clause-string : goal.returns-then-c-ne92-clause-string
returns-then-c-ne92-clause-string c is_fault =
    let s = at_more c.args.quote (chars c.args.inner.now) (chars c.pieces.rest.now) _ (chars c.split_plain.result.1.now) _ c.push_text.new.units.items c.pieces.legacy c.pieces.invariant.2
    c.split_plain.ensures.run c.split_plain.ensures.after c.in-Ok.ensures in
    let stuck = line_stops c.args.quote (chars c.pieces.rest.now) _ c.in-Some.c _ c.split_plain.ensures.after c.in-Some.ensures.cut c.if-c-quote.false c.if-c-ne92.true in
    stops c.args.end c.args.quote (chars c.args.text.now) (chars c.args.inner.now) _ _ _ c.fault-then-c-ne92.result c.requires.quote c.requires.cut s
    stuck.0 (inl (stuck.1, c.fault-then-c-ne92.ensures.kind, c.fault-then-c-ne92.ensures.place))

pub returns-in-Err-clause-string : goal.returns-in-Err-clause-string
returns-in-Err-clause-string c is_fault =
    let s = at_more c.args.quote (chars c.args.inner.now) (chars c.pieces.rest.now) _ (chars c.split_plain.result.1.now) _ c.push_text.new.units.items c.pieces.legacy c.pieces.invariant.2
    c.split_plain.ensures.run c.split_plain.ensures.after c.in-Ok.ensures in
    let bad = c.in-Err.ensures.escape in
    let at = c.in-Some.ensures.cut ∙ ap (λ x. x ∷ chars c.in-Some.behind.now) c.if-c-ne92.false in
    let kind = c.fault-in-Err.ensures.kind ∙ ap (λ (x : SyntaxError × List ℕ). x.0) bad.1 in
    let place = subst (λ (r : List ℕ). IsAt c.args.end (chars c.split_plain.result.1.now) r c.fault-in-Err.result.span) (ap (λ (x : SyntaxError × List ℕ). x.1) bad.1) c.fault-in-Err.ensures.place in
    let stuck = subst (Stuck c.args.quote) (sym at) (stuck_escape c.args.quote (chars c.in-Some.behind.now) c.requires.quote bad.0) in
    stops c.args.end c.args.quote (chars c.args.text.now) (chars c.args.inner.now) _ _ _ c.fault-in-Err.result c.requires.quote c.requires.cut s
    stuck (inr (chars c.in-Some.behind.now, at, bad.0, kind, place))

pub pieces-preserved-then-legacy : goal.pieces-preserved-then-legacy
pieces-preserved-then-legacy c =
    let s = at_more c.args.quote (chars c.args.inner.now) (chars c.pieces.rest.now) _ (chars c.split_plain.result.1.now) _ c.push_text.new.units.items c.pieces.legacy c.pieces.invariant.2
    c.split_plain.ensures.run c.split_plain.ensures.after c.in-Ok.ensures in
    let found = c.in-Ok-read_escape.ensures in
    let at = c.in-Some.ensures.cut ∙ ap (λ x. x ∷ chars c.in-Some.behind.now) c.if-c-ne92.false in
    let less = found.rest.1 in
    let next = at_escape c.args.quote (chars c.args.inner.now) _ _ _ _ c.push_escape.new.units.items c.pieces.legacy c.in-Ok-read_escape.found.0 s at found.escape c.in-Ok-push_escape.ensures in (
      found.rest.0,
      omega (arith, c.in-Some.ensures.shorter, c.split_plain.ensures.lengths, c.pieces.invariant.1, less),
      subst (SoFar c.args.quote (chars c.args.inner.now) (chars c.in-Ok-read_escape.found.1.now) c.push_escape.new.units.items)
          (or_yes c.pieces.legacy (is_legacy c.in-Ok-read_escape.found.0) c.if-legacy.true) next,
    )

pub pieces-preserved : goal.pieces-preserved
pieces-preserved c =
    let s = at_more c.args.quote (chars c.args.inner.now) (chars c.pieces.rest.now) _ (chars c.split_plain.result.1.now) _ c.push_text.new.units.items c.pieces.legacy c.pieces.invariant.2
    c.split_plain.ensures.run c.split_plain.ensures.after c.in-Ok.ensures in
    let found = c.in-Ok-read_escape.ensures in
    let at = c.in-Some.ensures.cut ∙ ap (λ x. x ∷ chars c.in-Some.behind.now) c.if-c-ne92.false in
    let less = found.rest.1 in
    let next = at_escape c.args.quote (chars c.args.inner.now) _ _ _ _ c.push_escape.new.units.items c.pieces.legacy c.in-Ok-read_escape.found.0 s at found.escape c.in-Ok-push_escape.ensures in (
      found.rest.0,
      omega (arith, c.in-Some.ensures.shorter, c.split_plain.ensures.lengths, c.pieces.invariant.1, less),
      subst (SoFar c.args.quote (chars c.args.inner.now) (chars c.in-Ok-read_escape.found.1.now) c.push_escape.new.units.items)
          (or_no c.pieces.legacy (is_legacy c.in-Ok-read_escape.found.0) c.if-legacy.false ∙ sym c.is_legacy-legacy.ensures) next,
    )
