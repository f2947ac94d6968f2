-- What printing a tree to a writer does.
use Rattle.std.specs.Prelude.{◌≡◌, ℕ, true, false, List, take, Option, is_some, IsSome, Result, Ok, Err, String, string_bytes}
use Rattle.std.specs.Option.{option_map}
use Rattle.std.specs.Io.KnownBytes.{Appends}
use Rattle.base_token.specs.declared.place.BytePos.{BytePos}
use Rattle.base_token.specs.declared.place.LineCol.{LineCol}
use Rattle.tree_spec.specs.Tree.{Tree}
use Rattle.print_layout_spec.specs.Looks.{is_refused}
use Rattle.print_writers.specs.declared.fault.EmitError.{EmitError}
use Rattle.print_writers.specs.declared.fault.EmitError.TheVariants.{Write, Memory, Node, Position}
use Rattle.run_command.specs.declared.options.Options.{Options}
use Rattle.run_print.specs.Layouts.{laid_of, layout, positions_of, IsPastLast}

-- The tree is printed: the writer got its layout, and the positions are those of it, where they are asked for. Of positions more is said where the
-- writer tells its bytes. `before` and `after` are the bytes that the writer holds, where it tells them.
pub record IsDone {P : Type 0} (items : P → List (BytePos × LineCol)) (o : Options) (t : Tree) (before after : Option (List ℕ)) (positions : Option P) : Type 0 where
  pub whole : is_refused (laid_of o t) ≡ false
  pub got : Appends before after (layout o t)
  pub asked : is_some positions ≡ o.positions
  pub placed : IsSome before → option_map items positions ≡ positions_of o t
  pub within : IsSome before → IsPastLast o t → ⊥

-- What a fault says: want of memory and a place past the last come only where positions are asked for, and a node is refused where a part has no text.
abbrev pub Tells : Options → Tree → Option (List ℕ) → EmitError → Type 0
Tells o t before (Write kind) = Unit {0}
Tells o t before Memory = o.positions ≡ true
Tells o t before Position = (o.positions ≡ true) × (IsSome before → IsPastLast o t)
Tells o t before Node = is_refused (laid_of o t) ≡ true

-- It is not: the writer got a beginning of the layout.
pub record IsStopped (o : Options) (t : Tree) (before after : Option (List ℕ)) (e : EmitError) : Type 0 where
  pub count : ℕ
  pub begun : Appends before after (take count (layout o t))
  pub tells : Tells o t before e

abbrev pub Prints : {P : Type 0} → (P → List (BytePos × LineCol)) → Options → Tree → Option (List ℕ) → Option (List ℕ) → Result (Option P) EmitError → Type 0
Prints items o t before after (Ok positions) = IsDone items o t before after positions
Prints items o t before after (Err e) = IsStopped o t before after e

-- The layout as a text; or why there is none. Of want of memory nothing is said.
abbrev pub Texts : {Z : Type 0} → Options → Tree → Result (String Z) EmitError → Type 0
Texts o t (Ok text) = (is_refused (laid_of o t) ≡ false) × (string_bytes text ≡ layout o t)
Texts o t (Err Memory) = Unit {0}
Texts o t (Err Node) = is_refused (laid_of o t) ≡ true
Texts o t (Err Position) = ⊥
Texts o t (Err (Write kind)) = ⊥
