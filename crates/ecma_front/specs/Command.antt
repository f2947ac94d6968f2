-- What the program answers and prints.
use Rattle.std.specs.Prelude.{◌≡◌, ℕ, ◌<◌, ◌-◌, ◌^◌, List, take, Option, is_some, IfSome, Result, Ok, Err}
use Rattle.std.specs.Str.{chars, IsUtf8, IsValidUpTo}
use Rattle.std.specs.Io.KnownBytes.{Consumes}
use Rattle.std.specs.declared.vec.Vec.{Vec}
use Rattle.std.specs.declared.alloc.Global.{Global}
use Rattle.base_token.specs.declared.place.BytePos.{BytePos}
use Rattle.base_token.specs.declared.place.LineCol.{LineCol}
use Rattle.run_command.specs.declared.options.Options.{Options}
use Rattle.ecma_front.specs.declared.fault.Fault.{Fault}
use Rattle.ecma_front.specs.declared.fault.Fault.TheVariants as f
use Rattle.ecma_front.specs.Faults.{is_refusal}
use Rattle.ecma_front.specs.Exits.{IsMessage, Prints, line_of, status_of}
use Rattle.ecma_front.specs.Run.{Ran}
use Rattle.print_pages_spec.specs.Lines.Lines.{place_of}

-- Where a fault of a text lies: the part of the text that it is about, the end of the front that is UTF-8, or else the start.
abbrev pub LiesAt : List ℕ → Fault → LineCol → Type 0
LiesAt text (f.Syntax e) place = IsUtf8 text → place ≡ place_of (chars text) (e.span.lo.0 - 1)
LiesAt text (f.NotUtf8 valid) place = IsValidUpTo text valid → valid < 2 ^ 32 → place ≡ place_of (chars (take valid text)) valid
LiesAt text _ place = place ≡ record { line = 0; col = 0 }

-- The line that tells a fault of a run that read this text: where that refuses the text, its place stands before what is wrong.
pub record IsLine (text : List ℕ) (fault : Fault) (line : List ℕ) : Type 0 where
  pub place : Option LineCol
  pub message : List ℕ
  pub refused : is_some place ≡ is_refusal fault
  pub lies : IfSome place (LiesAt text fault)
  pub says : IsMessage fault message
  pub spells : line ≡ line_of place message

-- What is printed of what a run came to: nothing where that is Ok, and else the line of its fault.
abbrev pub IsTold : {E X : Type 0} → (E → Option (List ℕ)) → (E → ℕ) → List ℕ → Result X Fault → E → E → Type 0
IsTold contents failures text (Ok x) before after = after ≡ before
IsTold contents failures text (Err fault) before after = (line : List ℕ) × IsLine text fault line × Prints contents failures before after line

-- What the program has done that ends with this status: its run came to a result, of which all holds that `run` promises; the status says which, and its fault is told.
pub record Ends {R W E : Type 0} (remaining : R → Option (List ℕ)) (reads_failed : R → ℕ) (contents : W → Option (List ℕ)) (writes_failed : W → ℕ) (printed : E → Option (List ℕ)) (prints_failed : E → ℕ)
    (options : Options) (input input_after : R) (output output_after : W) (errors errors_after : E) (status : ℕ) : Type 0 where
  pub result : Result (Option (Vec (BytePos × LineCol) Global)) Fault
  pub ran : Ran {P = Vec (BytePos × LineCol) Global} remaining reads_failed contents writes_failed (λ v. v.items) options input input_after output output_after result
  pub says : status ≡ status_of result
  -- the text that was read, all of it where the answer comes past its end
  pub text : List ℕ
  pub read : Consumes (remaining input) (remaining input_after) text
  pub told : IsTold printed prints_failed text result errors errors_after
