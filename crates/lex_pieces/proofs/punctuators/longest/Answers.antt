use Rattle.std.proofs.Common.{rules}
use Rattle.lex_pieces.proofs.punctuators.longest.Goals as goal
use Rattle.lex_pieces.proofs.punctuators.longest.Goals.{in-123, in-125, in-40, in-41, in-91, in-93, in-59, in-44, in-58, in-35, in-64, in-126, in-96, in-46, in-61, in-33, in-63, in-43, in-45, in-42, in-47, in-37, in-94, in-38, in-124, in-60, in-62}

pub returns-clause-rest : goal.returns-clause-rest
returns-clause-rest c = elim c.match-c.branch [ in-123 w ↦ search rules | in-125 w ↦ search rules | in-40 w ↦ search rules | in-41 w ↦ search rules | in-91 w ↦ search rules | in-93 w ↦ search rules | in-59 w ↦ search rules | in-44 w ↦ search rules | in-58 w ↦ search rules | in-35 w ↦ search rules | in-64 w ↦ search rules | in-126 w ↦ search rules | in-96 w ↦ search rules | in-46 w ↦ search rules | in-61 w ↦ search rules | in-33 w ↦ search rules | in-63 w ↦ search rules | in-43 w ↦ search rules | in-45 w ↦ search rules | in-42 w ↦ search rules | in-47 w ↦ search rules | in-37 w ↦ search rules | in-94 w ↦ search rules | in-38 w ↦ search rules | in-124 w ↦ search rules | in-60 w ↦ search rules | in-62 w ↦ search rules ]
