-- What texts that are printed are together.
use Rattle.std.proofs.Common.{◌≡◌, ℕ, Bool, true, false, List, if◌then◌else◌, codes, refl, ap}
use Rattle.print_layout_spec.specs.Looks.{when, text}
use Rattle.print_layout_spec.specs.Layout.{new_target, import_meta, optional_dot}
use Rattle.print_pieces.specs.Prints.{Asked, lay}

pub meta_property : (b : Bool) (bytes : List ℕ) → bytes ≡ (if b then codes "new.target" else codes "import.meta") → (a : Asked)
    → lay (text bytes) a ≡ lay (if b then new_target else import_meta) a
meta_property true bytes e a = ap (λ bs. lay (text bs) a) e
meta_property false bytes e a = ap (λ bs. lay (text bs) a) e

pub point_where : (b : Bool) (a : Asked) → lay (when b (text (codes "?."))) a ≡ lay (when b optional_dot) a
point_where true a = refl
point_where false a = refl
