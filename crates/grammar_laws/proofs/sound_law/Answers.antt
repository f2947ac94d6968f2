use Rattle.grammar_laws.proofs.SoundLemmas.{expressions_sound, patterns_sound, statements_sound, classes_sound, programs_sound, lists_sound}
use Rattle.grammar_laws.proofs.sound_law.Goals as goal

-- src/lib.rt:10:1
pub returns-clause-expressions : goal.returns-clause-expressions
returns-clause-expressions c = expressions_sound

-- src/lib.rt:10:1
pub returns-clause-patterns : goal.returns-clause-patterns
returns-clause-patterns c = patterns_sound

-- src/lib.rt:10:1
pub returns-clause-statements : goal.returns-clause-statements
returns-clause-statements c = statements_sound

-- src/lib.rt:10:1
pub returns-clause-classes : goal.returns-clause-classes
returns-clause-classes c = classes_sound

-- src/lib.rt:10:1
pub returns-clause-programs : goal.returns-clause-programs
returns-clause-programs c = programs_sound

-- src/lib.rt:10:1
pub returns-clause-lists : goal.returns-clause-lists
returns-clause-lists c = lists_sound
