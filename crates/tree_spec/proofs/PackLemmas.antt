use Rattle.std.specs.Prelude.{◌≡◌, List, [], ◌∷◌, refl}
use Rattle.tree_spec.specs.Tree.{Tree, Trees, none, more, pack, unpack}

pub unpack_pack : (ts : List Tree) → unpack (pack ts) ≡ ts
unpack_pack [] = refl
unpack_pack (t ∷ ts) = λ i. t ∷ unpack_pack ts i

pub pack_unpack : (ts : Trees) → pack (unpack ts) ≡ ts
pack_unpack none = refl
pack_unpack (more t ts) = λ i. more t (pack_unpack ts i)
