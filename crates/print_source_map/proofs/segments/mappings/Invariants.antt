use Rattle.std.proofs.Common.{◌≡◌, ◌++◌, None, drop, string_bytes}
use Rattle.std.specs.List.{list_all}
use Rattle.print_source_map.specs.Orders.{is_near, follow}
use Rattle.print_source_map.specs.Writing.{written}
use Rattle.print_source_map.proofs.segments.mappings.Given as goal

-- what is written, and what is left to write and to look at
abbrev pub invariant-loop-place : goal.invariant-loop-place
invariant-loop-place l = record {
  text : string_bytes l.text ++ written l.last (drop l.place-index l.places) ≡ written None l.places;
  ordered : follow l.last (drop l.place-index l.places) ≡ follow None l.places;
  near : list_all is_near (drop l.place-index l.places) ≡ list_all is_near l.places;
}
