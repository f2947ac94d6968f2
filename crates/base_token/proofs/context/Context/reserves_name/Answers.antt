use Rattle.base_token.proofs.ReservedLemmas.{name_reserved, strict_name, other_name}
use Rattle.base_token.proofs.context.Context.reserves_name.Goals as goal

pub returns-in-Enum : goal.returns-in-Enum
returns-in-Enum c = rw (name_reserved, c.in-Enum.is)

pub returns-in-Implements : goal.returns-in-Implements
returns-in-Implements c = rw name_reserved (strict_name c.args.self c.args.known c.in-Implements.is)

pub returns-in_default : goal.returns-in_default
returns-in_default c = let d = c.in_default in
    rw name_reserved
    (other_name c.args.self c.args.known d.not-Enum d.not-Implements d.not-Interface d.not-Package d.not-Private d.not-Protected d.not-Public d.not-Static)
