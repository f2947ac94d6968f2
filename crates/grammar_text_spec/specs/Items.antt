-- The early errors of an item that is read alone.
use Rattle.std.specs.Prelude.{Bool, if◌then◌else◌, List, None}
use Rattle.base_token.specs.declared.error.Error.{Error}
use Rattle.base_token.specs.declared.syntax.EsSyntax.{EsSyntax}
use Rattle.tree_spec.specs.Places.{no_place}
use Rattle.tree_spec.specs.Tree.{Tree, none, more, script}
use Rattle.grammar_spec.specs.Judge.Early.{early_errors}

-- of one that stands directly in a script's body, or within something else
abbrev pub item_errors : EsSyntax → Bool → Tree → List Error
item_errors syntax top t = if top then early_errors syntax (script no_place (more t none) None) else early_errors syntax t
