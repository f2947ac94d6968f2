-- Attributes one by one.
use Rattle.std.specs.Prelude.{Bool, false, ◌&&◌}
use Rattle.tree_spec.specs.Tree.{Tree, key_value_prop}
use Rattle.grammar_spec.specs.Tokens.Shape.{is_attribute_key, is_string}

-- a property of a WithClause: its key is a word or a string, its value a string (16.2)
abbrev pub is_attribute : Tree → Bool
is_attribute (key_value_prop s k v) = is_attribute_key k && is_string v
is_attribute _ = false
