use Rattle.again_laws.proofs.tokens.Tables.{marks, endings_mean, words, keywords, signs_mean, operators_mean}
use Rattle.again_laws.proofs.tokens.tables_tell.Goals as goal

pub returns-clause-marks : goal.returns-clause-marks
returns-clause-marks c = (marks, endings_mean)

pub returns-clause-words : goal.returns-clause-words
returns-clause-words c = (words, keywords)

pub returns-clause-operators : goal.returns-clause-operators
returns-clause-operators c = (signs_mean, operators_mean)
