-- What the crates above take of those below through this one, so that they need not list them.
pub use Rattle.grammar_laws.proofs.complete_rules.Modules.{module_found}
pub use Rattle.grammar_laws.proofs.complete_rules.Programs.{script_found}
pub use Rattle.grammar_laws.proofs.complete_rules.Sources.{in_module}
