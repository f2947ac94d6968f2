-- Which mappings are written.
use Rattle.std.specs.Prelude.{◌≡◌, Bool, true, false, ◌&&◌, ◌||◌, List, [], ◌∷◌, Option, Some, None, ◌==◌, nat_le, nat_lt}
use Rattle.std.specs.List.{list_all}
use Rattle.base_token.specs.declared.place.LineCol.{LineCol}
use Rattle.print_source_map.specs.declared.mapping.Mapping.{Mapping}
use Rattle.print_source_map.specs.declared.fault.MapError.{MapError}
use Rattle.print_source_map.specs.declared.fault.MapError.TheVariants.{Memory, Order, TooFar}

-- whether a place is not before another
abbrev pub is_not_before : LineCol → LineCol → Bool
is_not_before p q = nat_lt p.line q.line || (p.line == q.line && nat_le p.col q.col)

-- whether a mapping stands behind the one before it, if there is one
abbrev pub follows : Option Mapping → Mapping → Bool
follows None m = true
follows (Some p) m = is_not_before p.written m.written

-- whether mappings stand in the order in which their places were written
unfoldable pub follow : Option Mapping → List Mapping → Bool
follow last [] = true
follow last (m ∷ ms) = follows last m && follow (Some m) ms

abbrev pub are_ordered : List Mapping → Bool
are_ordered ms = follow None ms

-- whether lines and columns are below 2^31, so that each difference of two is a number of 32 bits with its sign (ECMA-426, "Base64 VLQ")
abbrev pub is_near_place : LineCol → Bool
is_near_place p = nat_lt p.line 0x8000_0000 && nat_lt p.col 0x8000_0000

abbrev pub is_near : Mapping → Bool
is_near m = is_near_place m.written && is_near_place m.source

abbrev pub are_near : List Mapping → Bool
are_near ms = list_all is_near ms

-- Why mappings are not written.
abbrev pub IsRefused : List Mapping → MapError → Type 0
IsRefused ms Memory = Unit {0}
IsRefused ms Order = are_ordered ms ≡ false
IsRefused ms TooFar = are_near ms ≡ false
