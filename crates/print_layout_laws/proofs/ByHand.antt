-- Rows of trees that no text spells: what stands behind `/` starts with a regular expression.
use Rattle.std.proofs.Common.{ℕ, List, [], ◌∷◌, ◌++◌, Ok, None, codes, false, true, refl}
use Rattle.base_token.specs.Kinds.{assign_kind, div_kind, mul_kind, minus_minus_kind}
use Rattle.tree_spec.specs.Places.{no_place}
use Rattle.tree_spec.specs.Tree.{Tree, none, more, script, expr_stmt, ident, ident_name, regex_lit, bin_expr, assign_expr, cond_expr, seq_expr, member_expr, call_expr, update_expr, opt_chain_expr, opt_call}
use Rattle.print_layout_laws.proofs.Rows.{Row, Hold, written, laid_out}

a : Tree
a = ident no_place (codes "a")

-- `/b/` and `/b/.c`
expression : Tree
expression = regex_lit no_place (codes "b") []

member : Tree
member = member_expr no_place expression (ident_name no_place (codes "c"))

-- `a` and an operator before it, minified
behind : ℕ → Tree → List ℕ → List Row
behind op right wanted = record {
  text = [];
  got = written true (Ok (script no_place (more (expr_stmt no_place (bin_expr no_place op a right)) none) None));
  wanted = wanted;
} ∷ []

slashes : Hold (
    behind div_kind (seq_expr no_place (more expression (more a none))) (codes "a/ /b/,a") ++
    behind div_kind (assign_expr no_place assign_kind member a) (codes "a/ /b/.c=a") ++
    behind div_kind (seq_expr no_place (more (assign_expr no_place assign_kind member a) none)) (codes "a/ /b/.c=a") ++
    behind div_kind (cond_expr no_place expression a a) (codes "a/ /b/?a:a") ++
    behind div_kind (call_expr no_place member none) (codes "a/ /b/.c()") ++
    behind div_kind (update_expr no_place minus_minus_kind false member) (codes "a/ /b/.c--") ++
    behind div_kind (opt_chain_expr no_place true member) (codes "a/ /b/?.c") ++
    behind div_kind (opt_chain_expr no_place true (opt_call no_place expression none)) (codes "a/ /b/?.()") ++
    behind div_kind (seq_expr no_place none) (codes "a/") ++
    behind mul_kind (seq_expr no_place (more expression none)) (codes "a*/b/") ++
    [])
unfolding laid_out a expression member behind
slashes = refl
