-- A folder above the path is left out, or none is.
use Rattle.std.proofs.Common.{◌≡◌, ◌↔◌, Bool, true, List, take, refl, subst, arith}
use Rattle.std.proofs.lemmas.Result.{IfOk-weaker}
use Rattle.run_ignore.specs.Rules.{Says, LeavesOut, rules_of}
use Rattle.run_ignore.specs.declared.rules.Rule.{Rule}
use Rattle.run_ignore.specs.declared.rules.Verdict.TheVariants.{LeftOut}
use Rattle.run_ignore.proofs.RuleLemmas.{left_above, kept_above}
use Rattle.run_ignore.proofs.rules.Rules.leaves_out.Goals as goal

pub returns-then-branch : goal.returns-then-branch
returns-then-branch c =
    let path = c.args.path.now in
    let said = subst (λ (rules : List Rule). Says rules (take c.loop-at.at path) true LeftOut) c.deref.ensures.value
    (c.in_ok-is_left_out.ensures.0 c.if-branch.true) in (
      λ _. left_above (rules_of c.args.self.now) path c.args.is_dir c.loop-at.at (omega arith) c.if-byte-eq47.true
          said,
      λ _. refl,
    )

pub returns : goal.returns
returns c =
    let path = c.args.path.now in
    let rules = rules_of c.args.self.now in
    IfOk-weaker c.is_left_out-2.result (λ (a : Bool). (a ≡ true) ↔ Says c.deref-2.result.now path c.args.is_dir LeftOut)
    (λ (a : Bool). (a ≡ true) ↔ LeavesOut rules path c.args.is_dir)
    (λ (a : Bool) said. kept_above rules path c.args.is_dir a (λ k h. c.loop-at.invariant k (omega arith))
    (subst (λ (rs : List Rule). (a ≡ true) ↔ Says rs path c.args.is_dir LeftOut) c.deref-2.ensures.value said))
    c.is_left_out-2.ensures
