use Rattle.again_laws.proofs.text.Pages.{names_are_placed, names_behind_hashbangs}
use Rattle.again_laws.proofs.text.names_are_placed.Goals as goal

pub returns-clause-alone : goal.returns-clause-alone
returns-clause-alone c = names_are_placed

pub returns-clause-hashbang : goal.returns-clause-hashbang
returns-clause-hashbang c = names_behind_hashbangs
