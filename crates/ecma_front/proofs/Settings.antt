-- What settings that aren't refused are within.
use Rattle.std.proofs.Common.{◌≡◌, ℕ, ◌≤◌, min, false, arith}
use Rattle.std.specs.Prelude.{◌||◌, ◌==◌, nat_lt}
use Rattle.std.proofs.lemmas.Bool.{or_parts}
use Rattle.std.proofs.lemmas.Bool.Decides.{nat_tests}
use Rattle.run_command.specs.declared.options.Options.{Options}
use Rattle.run_command.specs.Options.{are_refused, has_jsx, width_of}

pub within : (o : Options) → are_refused o ≡ false → (o.nesting ≤ 4096) × (width_of o.indent ≤ 8)
within o h =
    let steps = or_parts (has_jsx o.syntax || o.nesting == 0 || nat_lt 4096 o.nesting) (nat_lt 8 (width_of o.indent)) h in
    let levels = or_parts (has_jsx o.syntax || o.nesting == 0) (nat_lt 4096 o.nesting) steps.0 in
    let deep : nat_lt 4096 o.nesting ≡ false = levels.1 in
    let wide : nat_lt 8 (width_of o.indent) ≡ false = steps.1 in
    (grind (arith, nat_tests), grind (arith, nat_tests))

-- A limit of nesting that may be asked for is one that a parser takes as it is.
pub limit_taken : (n : ℕ) → n ≤ 4096 → min n 4294967294 ≡ n
limit_taken n h = omega arith
