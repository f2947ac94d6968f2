use Rattle.parse_laws.proofs.parts.PartLemmas.{lexer_parts_answer, text_parts_answer, new_text_parts_answer}
use Rattle.parse_laws.proofs.parts.texts_law.Goals as goal

pub returns-clause-lexers : goal.returns-clause-lexers
returns-clause-lexers g c = lexer_parts_answer g.I.Lexed.state g.I.Lexed.view

pub returns-clause-answer : goal.returns-clause-answer
returns-clause-answer g c = text_parts_answer g.I.Lexed.state g.I.Lexed.view

pub returns-clause-made : goal.returns-clause-made
returns-clause-made g c = new_text_parts_answer g.I.Lexed.state g.I.Lexed.view
