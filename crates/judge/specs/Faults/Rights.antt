-- The faults of a chain, link by link.
use Rattle.std.specs.Prelude.{ℕ, zero, suc, List, [], ◌++◌}
use Rattle.base_token.specs.declared.error.Error.{Error}
use Rattle.tree_spec.specs.Tree.{Tree, bin_expr, member_expr, call_expr, tagged_tpl, opt_chain_expr, opt_call, list}
use Rattle.tree_spec.specs.Folds.{fold}
use Rattle.tree_visit.specs.Spine.Chains.{below}
use Rattle.grammar_spec.specs.Judge.Early.{Scope, step}

-- the faults of what stands right of the left part: of the member or the call that an optional chain is, and of a link
abbrev pub base_faults : Tree → Scope → List Error
base_faults (member_expr span obj prop) c = fold step prop c
base_faults (opt_call span callee args) c = fold step (list args) c
base_faults t c = []

abbrev pub link_faults : Tree → Scope → List Error
link_faults (bin_expr span op left right) c = fold step right c
link_faults (member_expr span obj prop) c = fold step prop c
link_faults (call_expr span callee args) c = fold step (list args) c
link_faults (tagged_tpl span tag tpl_) c = fold step tpl_ c
link_faults (opt_chain_expr span optional base) c = base_faults base c
link_faults t c = []

-- those of so many links, the innermost first
unfoldable pub right_faults : ℕ → Tree → Scope → List Error
right_faults zero t c = []
right_faults (suc n) t c = link_faults (below n t) c ++ right_faults n t c
