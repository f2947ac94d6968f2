-- Branches and cases that are being read.
use Rattle.std.specs.Prelude.{◌≡◌, Bool, List, [], ◌∷◌, All, map, false, ◌||◌}
use Rattle.tree_spec.specs.Tree.{Tree, absent, part_by}
use Rattle.grammar_spec.specs.Tokens.Input.{Code}
use Rattle.grammar_spec.specs.Tokens.Shape.{is_default_case}
use Rattle.base_token.specs.Kinds.{colon_kind}
use Rattle.tree_nodes.specs.Fits.{fits_held, fits_switch_case}
use Rattle.tree_nodes.specs.Placed.{holds_stmt, inner}
use Rattle.tree_nodes.specs.View.{view_switch_case}
use Rattle.grammar_spec.specs.Reader.Source.{Stream, Inner, Read, ◌>>=◌, eat, iterate, bound}
use Rattle.grammar_spec.specs.Reader.Statements as reads
use Rattle.parse_state.specs.Codes.{code_of}
use Rattle.parse_operands.specs.Operands.{tree_of}
use Rattle.parse_statements.specs.declared.ifs.Branch.{Branch}
use Rattle.parse_statements.specs.declared.ifs.Links.{Links}
use Rattle.parse_statements.specs.declared.switches.CaseList.{CaseList}

-- ---- chains

abbrev pub branch_of : Branch → reads.Branch
branch_of b = record { start = b.start.0; test = tree_of b.test; consequent = inner b.consequent.part.value }

abbrev pub chain_of : Links → reads.Chain
chain_of x = record { branches = map branch_of x.branches.items; code = code_of x.code; last = part_by (λ s. inner s.part.value) x.last }

abbrev pub FitBranches : List Branch → Type 0
FitBranches bs = All (λ b. holds_stmt b.consequent.part.value) bs

abbrev pub FitChain : Links → Type 0
FitChain x = FitBranches x.branches.items × fits_held (λ s. holds_stmt s.part.value) x.last

-- the branches of an `if` (14.6)
unfoldable pub chain_items : {S : Type 0} → Stream S → Inner S → Code → Read S reads.Chain
chain_items m inside c s = iterate (bound m) (reads.if_step m inside) (record { branches = []; code = c; last = absent }) s

-- ---- cases

abbrev pub cases_of : CaseList → List Tree
cases_of x = map (view_switch_case inner) x.items.items

abbrev pub FitCases : CaseList → Type 0
FitCases x = All (λ c. fits_switch_case (λ p. p) c) x.items.items

-- whether one of them is `default`
abbrev pub any_default : List Tree → Bool
any_default [] = false
any_default (t ∷ ts) = is_default_case t || any_default ts

abbrev pub TellsDefault : CaseList → Type 0
TellsDefault x = x.has_default ≡ any_default (cases_of x)

-- the statements of a case, from its colon on (14.12)
unfoldable pub case_items : {S : Type 0} → Stream S → Inner S → Code → Read S (List Tree)
case_items m inside c s = eat m colon_kind s >>= λ r. iterate (bound m) (reads.case_step m inside c) [] r

-- the cases of a `switch`, up to its brace (14.12)
unfoldable pub switch_cases : {S : Type 0} → Stream S → Inner S → Code → Read S (List Tree)
switch_cases m inside c s = iterate (bound m) (reads.cases_step m inside c) [] s
