use Rattle.print_layout_laws.proofs.LawsLemmas.{unplaced_is_nowhere, places_are_marks, places_aside}
use Rattle.print_layout_laws.proofs.places_law.Goals as goal

pub returns-clause-nowhere : goal.returns-clause-nowhere
returns-clause-nowhere c = unplaced_is_nowhere

pub returns-clause-marks : goal.returns-clause-marks
returns-clause-marks c = places_are_marks

pub returns-clause-alike : goal.returns-clause-alike
returns-clause-alike c = places_aside
