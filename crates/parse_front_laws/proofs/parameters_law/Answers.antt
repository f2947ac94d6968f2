use Rattle.parse_front_laws.proofs.Parameters.{parameters_end}
use Rattle.parse_front_laws.proofs.ParametersExact.{parameters_exact, parameters_stand_alone}
use Rattle.parse_front_laws.proofs.parameters_law.Goals as goal

pub returns-clause-parameters : goal.returns-clause-parameters
returns-clause-parameters c = parameters_end

pub returns-clause-exact : goal.returns-clause-exact
returns-clause-exact c = parameters_exact

pub returns-clause-alone : goal.returns-clause-alone
returns-clause-alone c = parameters_stand_alone
