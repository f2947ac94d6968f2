-- The readers tied: each calls the others by one level less, and answers too deep at none.
use Rattle.std.specs.Prelude.{ℕ, zero, suc, Bool, if◌then◌else◌, List, [], Result, Ok}
use Rattle.tree_spec.specs.Error.{Error}
use Rattle.tree_spec.specs.EsSyntax.{EsSyntax}
use Rattle.tree_spec.specs.Tree.{Tree}
use Rattle.grammar_spec.specs.Judge.Early.{early_errors}
use Rattle.grammar_spec.specs.Tokens.Input.{PlacedToken, script_code, module_code}
use Rattle.grammar_spec.specs.Reader.Source.{Fault, too_deep, unexpected, ◌>>=◌, Stream, State, Inner, list_stream}
use Rattle.grammar_spec.specs.Tokens.Shape.{is_clean}
use Rattle.grammar_spec.specs.Reader.Expressions.{expr_by}
use Rattle.grammar_spec.specs.Reader.Statements.{pat_by, stmt_from, body_by, class_tail_by}
use Rattle.grammar_spec.specs.Reader.Modules.{program_by}

unfoldable pub readers : {S : Type 0} → Stream S → ℕ → Inner S
readers m zero = record { expr = λ c l s. too_deep m s; pat = λ c s. too_deep m s; stmt = λ c s. too_deep m s; body = λ c s. too_deep m s; class_tail = λ c w s. too_deep m s }
readers m (suc depth) = record { expr = expr_by m (readers m depth); pat = pat_by m (readers m depth); stmt = stmt_from m (readers m depth); body = body_by m (readers m depth); class_tail = class_tail_by m (readers m depth) }

-- what a finished tree is, where nothing of a cover is left
unfoldable pub finish : {S : Type 0} → Stream S → Tree × State S → Result Tree Fault
finish m x = if is_clean x.0 then Ok x.0 else unexpected m x.1

-- a script or a module
unfoldable pub read_program : {S : Type 0} → Stream S → ℕ → Bool → EsSyntax → S → Result Tree Fault
read_program m depth modules syntax s = program_by m (readers m depth) modules (if modules then module_code syntax else script_code syntax) (record { source = s; commas = [] }) >>= finish m

-- the same of a list of tokens that starts at a place
unfoldable pub read_list : ℕ → Bool → EsSyntax → ℕ → List PlacedToken → Result Tree Fault
read_list depth modules syntax start places = read_program list_stream depth modules syntax (record { last = start; places = places })

-- its early errors, where it is read
unfoldable pub errors_of : EsSyntax → Result Tree Fault → Result (List Error) Fault
errors_of syntax t = t >>= λ x. Ok (early_errors syntax x)
