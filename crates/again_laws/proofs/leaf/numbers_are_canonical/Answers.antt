use Rattle.again_laws.proofs.leaf.CanonicalNumbers.{number_is_canonical}
use Rattle.again_laws.proofs.leaf.NumbersAscii.{number_is_ascii, big_is_ascii}
use Rattle.again_laws.proofs.leaf.numbers_are_canonical.Goals as goal

pub returns-clause-canonical : goal.returns-clause-canonical
returns-clause-canonical c = number_is_canonical

pub returns-clause-ascii : goal.returns-clause-ascii
returns-clause-ascii c = number_is_ascii

pub returns-clause-big : goal.returns-clause-big
returns-clause-big c = big_is_ascii
