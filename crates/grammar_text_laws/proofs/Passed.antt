-- What the crates above take of those below through this one, so that they need not list them.
pub use Rattle.grammar_laws.proofs.context.PlacedLemmas.{bare, bare_same, bared, bared_order, one_module_of_tokens, one_script_of_tokens, strip}
pub use Rattle.grammar_laws.specs.Context.Laws.{SameToken, SameTokens}
pub use Rattle.grammar_laws.proofs.context.Passed.{Decided, modules_complete, scripts_complete}
