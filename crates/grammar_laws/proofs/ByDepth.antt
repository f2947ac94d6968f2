-- The readers that are tied by depth answer nothing that doesn't produce what it was read of.
use Rattle.std.proofs.Common.{ℕ, zero, suc}
use Rattle.grammar_spec.specs.Reader.Reading.{readers}
use Rattle.grammar_laws.proofs.Sure.{lm}
use Rattle.grammar_laws.proofs.Nested.{Sound}
use Rattle.grammar_laws.proofs.Operators.{expr_sure}
use Rattle.grammar_laws.proofs.Patterns.{pat_sure}
use Rattle.grammar_laws.proofs.Lists.{body_sure}
use Rattle.grammar_laws.proofs.Classes.{class_tail_sure}
use Rattle.grammar_laws.proofs.Statements.{stmt_sure}

pub all_sound : (depth : ℕ) → Sound (readers lm depth)
unfolding readers
all_sound zero = record { expr = λ c l s g. record { so = tt }; pat = λ c s. record { so = tt }; stmt = λ c s. record { so = tt }; body = λ c s. record { so = tt }; class_tail = λ c w s. record { so = tt } }
all_sound (suc depth) = let h = all_sound depth in record { expr = λ c l s g. expr_sure (readers lm depth) h c l s g; pat = λ c s. pat_sure (readers lm depth) h c s; stmt = λ c s. stmt_sure (readers lm depth) h c s; body = λ c s. body_sure (readers lm depth) h c s; class_tail = λ c w s. class_tail_sure (readers lm depth) h c w s }
