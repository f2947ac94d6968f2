use Rattle.again_laws.proofs.leaf.StringAlone.{string_alone}
use Rattle.again_laws.proofs.leaf.Units.{string_units}
use Rattle.again_laws.proofs.leaf.Quotes.{quoted_scalars}
use Rattle.again_laws.proofs.leaf.Pieces.{template_scalars}
use Rattle.again_laws.proofs.leaf.texts_are_scalars.Goals as goal

pub returns-clause-alone : goal.returns-clause-alone
returns-clause-alone c = string_alone

pub returns-clause-units : goal.returns-clause-units
returns-clause-units c = string_units

pub returns-clause-quoted : goal.returns-clause-quoted
returns-clause-quoted c = quoted_scalars

pub returns-clause-templates : goal.returns-clause-templates
returns-clause-templates c = template_scalars
