-- What the steps of printing do to a writer of texts, and to the block before its writer.
use Rattle.std.specs.Prelude.{◌≡◌, ℕ, ◌≤◌, true, false, ◌⊎◌, ◌&&◌, List, length, Option, Result, Ok, Err, is_ok}
use Rattle.std.specs.Io.KnownBytes.{Keeps, append_known}
use Rattle.base_token.specs.Counts.{count_after}
use Rattle.tree_spec.specs.Tree.{Tree}
use Rattle.print_layout_spec.specs.Looks.{is_refused}
use Rattle.print_writers.specs.Pages.{Page, IsFront}
use Rattle.print_writers.specs.States.{FaultFits, answers_write, is_write}
use Rattle.print_writers.specs.Views.{js_page, js_state, js_tells}
use Rattle.print_writers.specs.declared.js_writer.JsWriter.{JsWriter}
use Rattle.print_writers.specs.declared.fault.EmitError.{EmitError}
use Rattle.print_pages_spec.specs.Utf8.{IsUtf8Page}
use Rattle.ecma_codegen.specs.Emits.{MayRefuse}
use Rattle.run_command.specs.declared.options.Options.{Options}
use Rattle.run_print.specs.Layouts.{indent_of, laid_of, written_on}
use Rattle.print_blocks.specs.declared.Blocks.{Blocks}
use Rattle.print_blocks.specs.Blocks.{at_of, behind, taken}

-- the page of a writer, from where it is indented as is asked for
abbrev pub begun_page : {W : Type 0} → (W → Option (List ℕ)) → Options → JsWriter W → Page
begun_page contents o w = record (js_page contents w) { indent = indent_of o.indent }

-- A tree is written on the page of a writer that tells its bytes: all of it, or with a fault a beginning.
abbrev pub LaysOut : {W : Type 0} → (W → Option (List ℕ)) → Options → Tree → JsWriter W → JsWriter W → Result (Unit {0}) EmitError → Type 0
LaysOut contents o t old new (Ok x) =
    (is_refused (laid_of o t) ≡ false)
    × (js_tells contents old → js_tells contents new × (js_page contents new ≡ written_on o t (begun_page contents o old))
    × (IsUtf8Page (begun_page contents o old) → IsUtf8Page (js_page contents new)))
LaysOut contents o t old new (Err e) =
    MayRefuse e (laid_of o t) (js_state contents old)
    × (js_tells contents old → js_tells contents new × IsFront (js_page contents old).out (js_page contents new).out
    × IsFront (js_page contents new).out (written_on o t (begun_page contents o old)).out × FaultFits e (written_on o t (begun_page contents o old)))

-- What waits is handed out, where the printing has ended: or some of it is not, of which no more waits than was taken of the block.
abbrev pub Ends : {W : Type 0} → (W → Option (List ℕ)) → Blocks W → Result (Unit {0}) EmitError → W → Result (Unit {0}) EmitError → Type 0
Ends contents b ended w (Ok x) = (ended ≡ Ok tt) × Keeps (taken contents b) (contents w)
Ends contents b ended w (Err e) = ((ended ≡ Err e) ⊎ ((ended ≡ Ok tt) × (is_write e ≡ true)))
    × ((rest : List ℕ) × (length rest ≤ at_of b) × Keeps (taken contents b) (append_known (contents w) rest))

-- the failures behind, after the printing and after what waits was handed out
abbrev pub Counts : {W : Type 0} → (W → ℕ) → Blocks W → Result (Unit {0}) EmitError → W → Result (Unit {0}) EmitError → Type 0
Counts count b ended w result = count w ≡ count_after (is_ok ended && answers_write result) (count (behind b))
