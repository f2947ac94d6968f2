-- What a run answers and writes.
use Rattle.std.specs.Prelude.{◌≡◌, ◌⊎◌, ℕ, ◌≤◌, ◌↔◌, true, false, List, length, take, Option, is_some, Result, Ok, Err, IfErr, IfSome, IsErrOf, IsSome, IsOk}
use Rattle.std.specs.Option.{option_map}
use Rattle.std.specs.Str.{chars, IsUtf8}
use Rattle.std.specs.Io.KnownBytes.{Appends, IsAtEnd}
use Rattle.base_token.specs.Counts.{count_after}
use Rattle.base_token.specs.declared.place.BytePos.{BytePos}
use Rattle.base_token.specs.declared.place.LineCol.{LineCol}
use Rattle.tree_spec.specs.Tree.{Tree}
use Rattle.run_command.specs.declared.options.Options.{Options}
use Rattle.run_command.specs.declared.options.Style.{Style}
use Rattle.run_command.specs.Options.{are_refused}
use Rattle.run_print.specs.Layouts.{layout, positions_of, IsPastLast}
use Rattle.ecma_front.specs.declared.fault.Fault.{Fault}
use Rattle.ecma_front.specs.declared.fault.Fault.TheVariants as f
use Rattle.ecma_front.specs.Faults.{answers_fault, is_answered_past, is_failure, is_of_writing, is_read_fault, is_write_fault}
use Rattle.ecma_front.specs.Programs.{Spells}
use Rattle.ecma_front.specs.ReadAgain.{IsReadAgain}
use Rattle.ecma_front.specs.Names.{NamesAreTold}
use Rattle.ecma_front.specs.Formats.{IsProgramIn, IsRefused, longest_text}

-- What is written of the bytes, which are no more than the longest text: the layout of the one program that spells them, which is UTF-8 and is spelled by that program and no other.
pub record IsPrinted (options : Options) (bytes : List ℕ) (t : Tree) (out : List ℕ) : Type 0 where
  pub fits : length bytes ≤ longest_text
  pub program : IsProgramIn options bytes t
  pub is_layout : out ≡ layout options t
  pub utf8 : IsUtf8 out
  pub read_again : IsReadAgain options t (chars out)

-- The writer got a beginning of what is written of the input.
abbrev pub WritesBeginning : Options → List ℕ → Option (List ℕ) → Option (List ℕ) → Type 0
WritesBeginning options bytes before after = (t : Tree) × (out : List ℕ) × (n : ℕ) × IsPrinted options bytes t out × Appends before after (take n out)

-- Positions are asked for, and a line or a column of what is written of the input is past 4,294,967,295.
abbrev pub IsTooLarge : Options → List ℕ → Type 0
IsTooLarge options bytes = (t : Tree) × IsProgramIn options bytes t × IsPastLast options t

-- What a run that succeeds has done: the writer got what is written of the input, and the positions that are answered are those of it, where they
-- are asked for, and tell where each name stands. Of positions this is said of writers that tell their bytes.
pub record Succeeds {P : Type 0} (items : P → List (BytePos × LineCol)) (options : Options) (bytes : List ℕ) (before after : Option (List ℕ)) (positions : Option P) : Type 0 where
  pub tree : Tree
  pub out : List ℕ
  pub printed : IsPrinted options bytes tree out
  pub written : Appends before after out
  pub placed : IsSome before → option_map items positions ≡ positions_of options tree
  pub within : IsSome before → IsPastLast options tree → ⊥
  pub named : IsSome before → IfSome positions (λ p. NamesAreTold (chars out) (items p) tree printed.read_again.tree)

-- no more than the longest text, unless that is what the fault says
abbrev pub FitsUnless : Fault → List ℕ → Type 0
FitsUnless f.TooLong bytes = Unit {0}
FitsUnless f.Memory bytes = Unit {0}
FitsUnless (f.Read kind) bytes = Unit {0}
FitsUnless f.Options bytes = Unit {0}
FitsUnless _ bytes = length bytes ≤ longest_text

-- What an answer says of a reader that tells the bytes it gives up to its end, and of what the writer held before and after. Positions are answered
-- exactly where they are asked for.
abbrev pub Answers : {P : Type 0} → (P → List (BytePos × LineCol)) → Options → Option (List ℕ) → Option (List ℕ) → Option (List ℕ) → Result (Option P) Fault → Type 0
Answers items options input before after (Ok positions) = (is_some positions ≡ options.positions) × IfSome input (λ bytes. Succeeds items options bytes before after positions)
Answers items options input before after (Err (f.Write kind)) = IfSome input (λ bytes. WritesBeginning options bytes before after)
Answers items options input before after (Err f.Position) =
    (options.positions ≡ true) × IfSome input (λ bytes. WritesBeginning options bytes before after × (IsSome before → IsTooLarge options bytes))
Answers items options input before after (Err fault) = IfSome input (λ bytes. IsRefused options bytes fault × FitsUnless fault bytes)

-- A program within the limit spells the bytes, which are no more than the longest text.
abbrev pub IsReadable : Options → List ℕ → Type 0
IsReadable options bytes = (length bytes ≤ longest_text) × IsUtf8 bytes × ((t : Tree) × Spells options t (chars bytes))

-- No line and no column of what is written of it is past the last, where positions are asked for.
abbrev pub HasPlaces : Options → List ℕ → Type 0
HasPlaces options bytes = (t : Tree) → Spells options t (chars bytes) → IsPastLast options t → ⊥

-- The answer is Ok exactly where the input is readable and has places: with settings that aren't refused, where neither the reader nor the writer
-- failed and memory was found; with positions, where the writer tells its bytes.
abbrev pub SucceedsExactly : {P : Type 0} → Options → Option (List ℕ) → Option (List ℕ) → Result P Fault → Type 0
SucceedsExactly options input before result = are_refused options ≡ false → answers_fault is_failure result ≡ false → (options.positions ≡ true → IsSome before)
    → IfSome input (λ bytes. IsOk result ↔ (IsReadable options bytes × HasPlaces options bytes))

-- What a run promises: what its ends tell of their bytes and count of their failures, the ends before and after, and its answer.
pub record Ran {R W P : Type 0} (remaining : R → Option (List ℕ)) (reads_failed : R → ℕ) (contents : W → Option (List ℕ)) (writes_failed : W → ℕ) (items : P → List (BytePos × LineCol))
    (options : Options) (reader reader_after : R) (writer writer_after : W) (result : Result (Option P) Fault) : Type 0 where
  pub exact : SucceedsExactly options (remaining reader) (contents writer) result
  -- the settings are judged before anything is read
  pub settings : IsErrOf result f.Options ↔ (are_refused options ≡ true)
  pub untouched : are_refused options ≡ true → reader_after ≡ reader
  -- the input is read to its end
  pub whole : is_answered_past result ≡ true → IsAtEnd (remaining reader_after)
  -- with a fault the writer is as it was, or got a beginning
  pub unwritten : IfErr result (λ fault. is_of_writing options fault ≡ false → writer_after ≡ writer)
  pub begun : IfErr result (λ fault. (writer_after ≡ writer) ⊎ IfSome (remaining reader) (λ bytes. WritesBeginning options bytes (contents writer) (contents writer_after)))
  -- a failure of either end is answered, and counted
  pub reader_failed : reads_failed reader_after ≡ count_after (answers_fault is_read_fault result) (reads_failed reader)
  pub writer_failed : writes_failed writer_after ≡ count_after (answers_fault is_write_fault result) (writes_failed writer)
  pub answer : Answers items options (remaining reader) (contents writer) (contents writer_after) result

-- ---- a text in memory

-- the settings for a text alone, in this style: no positions are kept
abbrev pub in_style : Style → Options → Options
in_style style options = record options { style = style; positions = false }

-- What is answered of a text: what is written of it, or why nothing is.
abbrev pub Formats : {X : Type 0} → (X → List ℕ) → Options → List ℕ → Result X Fault → Type 0
Formats view options bytes (Ok x) = (t : Tree) × IsPrinted options bytes t (view x)
Formats view options bytes (Err (f.Read kind)) = ⊥
Formats view options bytes (Err fault) = IsRefused options bytes fault × FitsUnless fault bytes
