-- The test of the cells says what the definition says.
use Rattle.std.proofs.Common.{◌≡◌, ◌↔◌, Bool, true, subst, sym, ap, ◌∙◌}
use Rattle.std.proofs.lemmas.Result.{IfOk-weaker}
use Rattle.run_ignore.specs.Matching.{Matches}
use Rattle.run_ignore.specs.Rows.{can}
use Rattle.run_ignore.proofs.Deciding.{can_iff}
use Rattle.run_ignore.proofs.patterns.Pattern.matches.Goals as goal

pub returns : goal.returns
returns c =
    let pieces = c.args.self.now.pieces.items in
    let path = c.args.path.now in
    IfOk-weaker c.is_match.result (λ (a : Bool). a ≡ can c.deref.result.now path) (λ (a : Bool). (a ≡ true) ↔ Matches pieces path)
    (λ (a : Bool) e. subst (λ (b : Bool). (b ≡ true) ↔ Matches pieces path) (sym (e ∙ ap (λ q. can q path) c.deref.ensures.value)) (can_iff pieces path))
    c.is_match.ensures
