-- Two layouts are alike: equal, or equal but for where marks stand.
use Rattle.std.proofs.Common.{◌≡◌, ℕ, Bool, true, false, if◌then◌else◌, List, [], ◌∷◌, None, ◌||◌, refl, ap, ap₂, ◌∙◌, subst}
use Rattle.base_token.specs.declared.place.BytePos.{BytePos}
use Rattle.base_token.specs.declared.place.Span.{Span}
use Rattle.tree_spec.specs.Places.{no_place}
use Rattle.print_pages_spec.specs.Pieces.{Piece, Text}
use Rattle.print_layout_spec.specs.Looks.{Laid, nothing, one, meant, named, both, refused, texts_of, texts_before, listed, is_refused, when, start, end, last}
use Rattle.print_layout_laws.specs.Bare.{kept_place}
use Rattle.print_layout_laws.specs.Marks.{unmarked_piece, unmarked}

-- what is seen of a layout: all of it, or all but where marks stand
abbrev pub seen_piece : Bool → Piece → Piece
seen_piece true x = x
seen_piece false x = unmarked_piece x

abbrev pub seen_position : Bool → BytePos → BytePos
seen_position true pos = pos
seen_position false pos = no_place.lo

abbrev pub seen : Bool → Laid → Laid
seen places nothing = nothing
seen places (one x) = one (seen_piece places x)
seen places (meant m) = meant m
seen places (named pos own) = named (seen_position places pos) own
seen places (both f g) = both (seen places f) (seen places g)
seen places refused = refused

pub record Alike (places : Bool) (f g : Laid) : Type 0 where
  pub so : seen places f ≡ seen places g

pub same : {places : Bool} {f : Laid} → Alike places f f
same = record { so = refl }

pub equal : {places : Bool} {f g : Laid} → f ≡ g → Alike places f g
equal {places} e = record { so = ap (λ h. seen places h) e }

infixr 35 ◌▸◌
pub ◌▸◌ : {places : Bool} {f g h k : Laid} → Alike places f g → Alike places h k → Alike places (both f h) (both g k)
◌▸◌ a b = record { so = ap₂ (λ x y. both x y) a.so b.so }

pub if_same : {places : Bool} {f g h k : Laid} (b : Bool) → Alike places f g → Alike places h k → Alike places (if b then f else h) (if b then g else k)
if_same true x y = x
if_same false x y = y

pub if_alike : {places : Bool} {f g h k : Laid} (b c : Bool) → b ≡ c → Alike places f g → Alike places h k → Alike places (if b then f else h) (if c then g else k)
if_alike {places} {f} {g} {h} {k} b c e x y = subst (λ (z : Bool). Alike places (if b then f else h) (if z then g else k)) e (if_same b x y)

pub when_same : {places : Bool} {f g : Laid} (b : Bool) → Alike places f g → Alike places (when b f) (when b g)
when_same true x = x
when_same false x = same

pub when_alike : {places : Bool} {f g : Laid} (b c : Bool) → b ≡ c → Alike places f g → Alike places (when b f) (when c g)
when_alike {places} {f} {g} b c e x = subst (λ (z : Bool). Alike places (when b f) (when z g)) e (when_same b x)

-- ---- marks

pub start_alike : {places : Bool} (span : Span) → Alike places (start (kept_place places span)) (start span)
start_alike {places = true} span = same
start_alike {places = false} span = record { so = refl }

pub end_alike : {places : Bool} (span : Span) → Alike places (end (kept_place places span)) (end span)
end_alike {places = true} span = same
end_alike {places = false} span = record { so = refl }

pub last_alike : {places : Bool} (span : Span) → Alike places (last (kept_place places span)) (last span)
last_alike {places = true} span = same
last_alike {places = false} span = record { so = refl }

pub named_alike : {places : Bool} (span : Span) (own : List ℕ) → Alike places (named (kept_place places span).lo own) (named span.lo own)
named_alike {places = true} span own = same
named_alike {places = false} span own = record { so = refl }

-- ---- what is written

pub all_seen : (f : Laid) → seen true f ≡ f
all_seen nothing = refl
all_seen (one x) = refl
all_seen (meant m) = refl
all_seen (named pos own) = refl
all_seen (both f g) = ap₂ (λ x y. both x y) (all_seen f) (all_seen g)
all_seen refused = refl

texts_seen : (texts : List (List ℕ)) (xs : List Piece) → unmarked (texts_before texts xs) ≡ texts_before texts (unmarked xs)
texts_seen [] xs = refl
texts_seen (own ∷ others) xs = ap (λ ys. Text None own ∷ ys) (texts_seen others xs)

pub listed_seen : (f : Laid) (xs : List Piece) → unmarked (listed f xs) ≡ listed (seen false f) (unmarked xs)
listed_seen nothing xs = refl
listed_seen (one x) xs = refl
listed_seen (meant m) xs = texts_seen (texts_of m) xs
listed_seen (named pos own) xs = refl
listed_seen (both f g) xs = listed_seen f (listed g xs) ∙ ap (λ ys. listed (seen false f) ys) (listed_seen g xs)
listed_seen refused xs = refl

pub refused_seen : (f : Laid) → is_refused (seen false f) ≡ is_refused f
refused_seen nothing = refl
refused_seen (one x) = refl
refused_seen (meant m) = refl
refused_seen (named pos own) = refl
refused_seen (both f g) = ap₂ (λ x y. x || y) (refused_seen f) (refused_seen g)
refused_seen refused = refl
