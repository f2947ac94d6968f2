-- What holds of the tree's own functions.
use Rattle.std.specs.Prelude.{◌≡◌, List}
use Rattle.tree_spec.specs.Tree.{Tree, Trees, pack, unpack}

-- a list that is packed is unpacked as it was
abbrev pub UnpackUndoes : Type 0
UnpackUndoes = (ts : List Tree) → unpack (pack ts) ≡ ts

-- and the other way round
abbrev pub PackUndoes : Type 0
PackUndoes = (ts : Trees) → pack (unpack ts) ≡ ts
