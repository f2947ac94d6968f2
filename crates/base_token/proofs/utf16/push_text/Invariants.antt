use Rattle.std.proofs.Common.{◌≡◌, ◌++◌}
use Rattle.base_token.specs.Utf16.{utf16}
use Rattle.base_token.proofs.utf16.push_text.Given as goal

abbrev pub invariant-loop-c : goal.invariant-loop-c
invariant-loop-c l = l.units.items ≡ l.fn.units.items ++ utf16 l.yielded
