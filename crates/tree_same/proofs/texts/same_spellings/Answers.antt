use Rattle.std.proofs.Common.{rules}
use Rattle.std.proofs.lemmas.Bool.{not-true, not-false}
use Rattle.tree_same.proofs.Lists.{texts_test, flags_differ, spellings_differ, texts_agree}
use Rattle.tree_same.proofs.Steps.{second_ends, heads_differ, heads_agree, first_ends}
use Rattle.tree_same.proofs.texts.same_spellings.Goals as goal

pub returns-in_default : goal.returns-in_default
returns-in_default c = second_ends texts_test c.args.texts.now c.args.others.now c.texts.rest.now c.texts.x-index c.texts.invariant c.x-item.result c.texts-test.true c.x-item.is c.in_default.ensures.cases

pub returns-then-x-y : goal.returns-then-x-y
returns-then-x-y c = let t = c.if-x-y.true in heads_differ texts_test c.args.texts.now c.args.others.now c.texts.rest.now c.texts.x-index c.texts.invariant c.x-item.result c.in-Some.y.now c.in-Some.after.now c.texts-test.true c.x-item.is c.in-Some.ensures.cases.0 (flags_differ c.x-item.result c.in-Some.y.now (not-true _ t))

pub returns-then-not-same_line_ends : goal.returns-then-not-same_line_ends
returns-then-not-same_line_ends c = heads_differ texts_test c.args.texts.now c.args.others.now c.texts.rest.now c.texts.x-index c.texts.invariant c.x-item.result c.in-Some.y.now c.in-Some.after.now c.texts-test.true c.x-item.is c.in-Some.ensures.cases.0 (spellings_differ c.x-item.result c.in-Some.y.now (let e = c.same_line_ends.ensures in let t = c.if-not-same_line_ends.true in search rules))

pub texts-preserved : goal.texts-preserved
texts-preserved c = let f = c.if-x-y.false in heads_agree texts_test c.args.texts.now c.args.others.now c.texts.rest.now c.texts.x-index c.texts.invariant c.x-item.result c.in-Some.y.now c.in-Some.after.now c.texts-test.true c.x-item.is c.in-Some.ensures.cases.0 (texts_agree c.x-item.result c.in-Some.y.now (not-false _ f) (let e = c.same_line_ends.ensures in let t = c.if-not-same_line_ends.false in search rules))

pub returns : goal.returns
returns c = first_ends texts_test c.args.texts.now c.args.others.now c.texts.rest.now c.texts.x-index c.texts.invariant c.is_empty.result c.texts-test.false c.is_empty.ensures
