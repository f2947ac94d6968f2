-- What the crates above take of those below through this one, so that they need not list them.
pub use Rattle.grammar_laws.proofs.complete.WholeLemmas.{modules_complete, scripts_complete}
pub use Rattle.grammar_laws.specs.Complete.Laws.{Decided}
