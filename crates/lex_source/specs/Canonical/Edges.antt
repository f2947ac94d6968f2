-- What contracts see of how a token ends.
use Rattle.lex_source.specs.Canonical.Canonical as spec
use Rattle.lex_source.specs.declared.canonical.Edge.{Edge}

abbrev pub edge_in : Edge → spec.Edge
edge_in e = record { template = e.template; hash = e.hash; end = e.end }
