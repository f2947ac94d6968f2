-- Tables of bytes, held against their definitions at each of the 256 bytes by computing.
use Rattle.std.proofs.Common.{◌≡◌, ℕ, ◌<◌, false, List, get_or, map, refl, sym, ap, ◌∙◌, arith}
use Rattle.std.specs.List.{range_with_len}
use Rattle.std.proofs.lemmas.List.FromFn.{get_or-map-range_with_len}
use Rattle.unicode_ident.proofs.Computing.{unicode_ident}
use Rattle.lex_pieces.specs.declared.bytes.ByteClass.{ByteClass}
use Rattle.lex_pieces.specs.declared.bytes.ByteClass.TheVariants.{WhiteSpace}
use Rattle.lex_pieces.specs.declared.bytes.TheConstants.{CLASSES}
use Rattle.lex_pieces.specs.Bytes.{class_of, is_name_class, is_space_class}
use Rattle.lex_pieces.specs.Classes.{is_name_byte, is_space_byte}

-- functions with one table agree at each byte
pub same_from_table : {X : Type 0} (f g : ℕ → X) (d : X) (b : ℕ) → b < 256 → map f (range_with_len 0 256) ≡ map g (range_with_len 0 256) → f b ≡ g b
same_from_table f g d b h e =
    sym (get_or-map-range_with_len f 0 256 b b d h (omega arith)) ∙ ap (λ t. get_or t b d) e ∙ get_or-map-range_with_len g 0 256 b b d h (omega arith)

pub computed : CLASSES ≡ map class_of (range_with_len 0 256)
unfolding class_of unicode_ident
computed = refl

pub class_from_table : (table : List ByteClass) (b : ℕ) → b < 256 → table ≡ map class_of (range_with_len 0 256) → get_or table b WhiteSpace ≡ class_of b
class_from_table table b h e = ap (λ t. get_or t b WhiteSpace) e ∙ get_or-map-range_with_len class_of 0 256 b b WhiteSpace h (omega arith)

pub name_class : (b : ℕ) → b < 256 → is_name_class (class_of b) ≡ is_name_byte b
unfolding class_of unicode_ident
name_class b h = same_from_table (λ c. is_name_class (class_of c)) is_name_byte false b h refl

pub space_class : (b : ℕ) → b < 256 → is_space_class (class_of b) ≡ is_space_byte b
unfolding class_of unicode_ident
space_class b h = same_from_table (λ c. is_space_class (class_of c)) is_space_byte false b h refl
