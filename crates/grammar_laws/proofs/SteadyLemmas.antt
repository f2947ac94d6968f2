-- The readers of more calls answer what those of fewer do, unless that is too deep.
use Rattle.std.proofs.Common.{ℕ, zero, suc, ◌≤◌, Bool, [], Result, Err, if◌then◌else◌, arith}
use Rattle.base_token.specs.declared.syntax.EsSyntax.{EsSyntax}
use Rattle.grammar_spec.specs.Tokens.Input.{script_code, module_code}
use Rattle.grammar_spec.specs.Reader.Source.{Fault, TooDeep, Stream, list_stream}
use Rattle.grammar_spec.specs.Reader.Reading.{readers, finish, read_program, read_list}
use Rattle.grammar_laws.specs.SteadyLaws.{LimitsKeep}
use Rattle.grammar_laws.proofs.Agrees.{Agrees, agree_same, agree_then, Steady}
use Rattle.grammar_laws.proofs.SteadyExpressions.{expr_by_steady}
use Rattle.grammar_laws.proofs.SteadyStatements.{pat_by_steady, stmt_from_steady, body_by_steady, class_tail_by_steady}
use Rattle.grammar_laws.proofs.SteadyModules.{program_by_steady}

deep_first : {A : Type 0} {n : ℕ} (y : Result A Fault) → Agrees (Err (TooDeep n)) y
deep_first y = record { so = tt }

pub readers_steady : {S : Type 0} (m : Stream S) (d e : ℕ) → d ≤ e → Steady (readers m d) (readers m e)
unfolding readers
readers_steady m zero e h = record { expr = λ c l s. deep_first _; pat = λ c s. deep_first _; stmt = λ c s. deep_first _; body = λ c s. deep_first _; class_tail = λ c w s. deep_first _ }
readers_steady m (suc d) zero h = absurd (omega (arith, h))
readers_steady m (suc d) (suc e) h = let n = readers_steady m d e (omega (arith, h)) in record {
  expr = λ c l s. expr_by_steady m (readers m d) (readers m e) n c l s;
  pat = λ c s. pat_by_steady m (readers m d) (readers m e) n c s;
  stmt = λ c s. stmt_from_steady m (readers m d) (readers m e) n c s;
  body = λ c s. body_by_steady m (readers m d) (readers m e) n c s;
  class_tail = λ c w s. class_tail_by_steady m (readers m d) (readers m e) n c w s;
}

-- the same of any source
pub programs_keep : {S : Type 0} (m : Stream S) (d e : ℕ) (modules : Bool) (syntax : EsSyntax) (s : S) → d ≤ e → Agrees (read_program m d modules syntax s) (read_program m e modules syntax s)
unfolding read_program
programs_keep m d e modules syntax s h = agree_then _ _ _ _ (program_by_steady m (readers m d) (readers m e) (readers_steady m d e h) modules (if modules then module_code syntax else script_code syntax) (record { source = s; commas = [] })) (λ x. agree_same (finish m x))

pub limits_keep : LimitsKeep
unfolding read_list
limits_keep d e modules syntax start places h = (programs_keep list_stream d e modules syntax (record { last = start; places = places }) h).so
