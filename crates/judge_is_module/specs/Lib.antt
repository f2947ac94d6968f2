pub use Rattle.grammar_text_spec.specs.Choice
pub use Rattle.grammar_text_spec.specs.Items
