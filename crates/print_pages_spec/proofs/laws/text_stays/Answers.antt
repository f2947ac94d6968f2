use Rattle.print_pages_spec.proofs.Utf8.{text_stays}
use Rattle.print_pages_spec.proofs.laws.text_stays.Goals as goal

pub returns : goal.returns
returns c = text_stays
