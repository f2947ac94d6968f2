use Rattle.print_spelling.proofs.number.PointLemmas.{member_stands}
use Rattle.print_spelling.proofs.number.laws.member_stands.Goals as goal

pub returns : goal.returns
returns c = member_stands
