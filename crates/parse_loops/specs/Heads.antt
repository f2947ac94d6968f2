-- What heads a `for`, and what follows `in` and `of`.
use Rattle.std.specs.Prelude.{ℕ, false, List, map, Ok}
use Rattle.base_token.specs.Kinds.{right_paren_kind}
use Rattle.tree_spec.specs.Tree.{Tree}
use Rattle.grammar_spec.specs.Tokens.Input.{Code}
use Rattle.tree_nodes.specs.Fits.{fits_using_decl, fits_var_decl}
use Rattle.tree_nodes.specs.Placed.{inner}
use Rattle.tree_nodes.specs.View.{view_using_decl, view_var_decl, view_var_declarator}
use Rattle.grammar_spec.specs.Reader.Source.{Stream, Inner, Read, ◌>>=◌, eat}
use Rattle.grammar_spec.specs.Reader.Statements.{sub_by}
use Rattle.parse_loops.specs.declared.for_heads.Declared.{Declared}
use Rattle.parse_loops.specs.declared.for_heads.Declared.TheVariants as Declared

abbrev pub view_declared : Declared → Tree
view_declared (Declared.Variables x) = view_var_decl inner x.value
view_declared (Declared.Using x) = view_using_decl inner x.value

abbrev pub declared_of : Declared → List Tree
declared_of (Declared.Variables x) = map (view_var_declarator inner) x.value.decls.items
declared_of (Declared.Using x) = map (view_var_declarator inner) x.value.decls.items

abbrev pub FitDeclared : Declared → Type 0
FitDeclared (Declared.Variables x) = fits_var_decl (λ p. p) x.value
FitDeclared (Declared.Using x) = fits_using_decl (λ p. p) x.value

-- what is iterated over, and the body (14.7.5)
abbrev pub over_by : {S : Type 0} → Stream S → Inner S → Code → ℕ → Read S (Tree × Tree)
over_by m inside c l s = inside.expr c l s >>= λ e. eat m right_paren_kind e.1 >>= λ r. sub_by m inside c false r >>= λ b. Ok ((e.0, b.0), b.1)
