-- What a parsed text tells of its program.
use Rattle.std.proofs.Common.{◌≡◌, ℕ, Bool, List, [], ◌∷◌, Result, Ok, Err, inl, inr, sym, subst}
use Rattle.std.proofs.Math.Nat.{min-le_right}
use Rattle.base_token.specs.Dialect.{parts_of}
use Rattle.base_token.specs.declared.error.Error.{Error}
use Rattle.parse_state.specs.Answers.{Fails}
use Rattle.parse_state.specs.declared.failure.Failure.{Failure}
use Rattle.parse_state.specs.declared.failure.Failure.TheVariants as failures
use Rattle.tree_spec.specs.Tree.{Tree}
use Rattle.run_command.specs.Options.{is_module}
use Rattle.run_command.specs.declared.options.Options.{Options}
use Rattle.parse_laws.specs.Answered.{FailsBy}
use Rattle.parse_laws.specs.TextRead.{TextBy}
use Rattle.parse_laws.specs.Texts.{TextOutcome, TextReading}
use Rattle.parse_laws.proofs.AnsweredLemmas.{read_by}
use Rattle.parse_laws.proofs.TextLemmas.{reading_settled}
use Rattle.ecma_front.specs.declared.fault.Fault.{Fault}
use Rattle.ecma_front.specs.Programs.{IsProgramOf, outcome, setting_of, stops_at}
use Rattle.ecma_front.specs.Formats.{LacksProgram}
use Rattle.ecma_front.specs.Steps.{Judges, fault_in}

module _ (o : Options) (text : List ℕ) {X : Type 0} (view : X → Tree) where
  -- what was parsed is what reading the text comes to
  abbrev pub Comes : Bool → ℕ → ℕ → Result X Failure → List Error → Type 0
  Comes modules limit left result recorded = TextOutcome o.syntax limit modules text view left result recorded

  -- as the goal of these settings, within their limit
  abbrev pub ComesHere : ℕ → Result X Failure → List Error → Type 0
  ComesHere left result recorded = Comes (is_module o.goal) o.nesting left result recorded

  here : (modules : Bool) (limit left : ℕ) (result : Result X Failure) (recorded : List Error) → is_module o.goal ≡ modules → limit ≡ o.nesting
      → Comes modules limit left result recorded → ComesHere left result recorded
  here modules limit left result recorded goal same p =
      subst (λ (m : Bool). Comes m o.nesting left result recorded) (sym goal) (subst (λ (n : ℕ). Comes modules n left result recorded) same p)

  -- that is settled by the trees that read it
  answered : (left : ℕ) (result : Result X Failure) (recorded : List Error) → ComesHere left result recorded → TextReading (setting_of o) (is_module o.goal) text view left result recorded
  answered left result recorded p =
      read_by (TextBy (is_module o.goal) (parts_of o.syntax) text o.nesting) view (parts_of o.syntax) [] recorded left result (outcome o text)
      (reading_settled o.nesting (is_module o.goal) o.syntax text).read p

  taken_of : (left : ℕ) (result : Result X Failure) (recorded : List Error) (y : X) → Judges (stops_at left text) result recorded (Ok y) → ComesHere left result recorded
      → TextReading (setting_of o) (is_module o.goal) text view left result recorded → IsProgramOf o text (view y)
  taken_of left (Ok x) [] y j p a = subst (λ (z : X). IsProgramOf o text (view z)) (sym j) (record { reads = a.0.reads; clean = sym a.1; within = a.0.within }, λ other r. a.0.only other r)
  taken_of left (Ok x) (e ∷ es) y j p a = absurd j
  taken_of left (Err e) recorded y j p a = absurd j

  lacking : (e : Failure) (left : ℕ) → Fails e left (outcome o text) → FailsBy (TextBy (is_module o.goal) (parts_of o.syntax) text o.nesting) e left → LacksProgram o text (fault_in (stops_at left text) e)
  lacking failures.Memory left p h = tt
  lacking failures.TooDeep left p h = record { left = left; stops = p; deeper = λ other r. h other r }
  lacking (failures.Syntax e) left p h = inl (record { left = left; stops = p; unread = λ other r. h other r; begins = min-le_right e.span.lo.0 (stops_at left text) })

  lacks_of : (left : ℕ) (result : Result X Failure) (recorded : List Error) (fault : Fault) → Judges {X = X} (stops_at left text) result recorded (Err fault) → ComesHere left result recorded
      → TextReading (setting_of o) (is_module o.goal) text view left result recorded → LacksProgram o text fault
  lacks_of left (Ok x) [] fault j p a = absurd j
  lacks_of left (Ok x) (e ∷ es) fault j p a = subst (λ (z : Fault). LacksProgram o text z) (sym j)
      (inr (record { tree = view x; comes = p.0; reads = a.0.reads; within = a.0.within; only = λ other r. a.0.only other r; rest = es; errors = sym a.1 }))
  lacks_of left (Err e) recorded fault j p a = subst (λ (z : Fault). LacksProgram o text z) (sym j) (lacking e left p.0 a.0)

  -- what was parsed without a recorded fault is the program of the text
  pub taken : (modules : Bool) (limit left : ℕ) (result : Result X Failure) (recorded : List Error) (y : X) → is_module o.goal ≡ modules → limit ≡ o.nesting
      → Judges (stops_at left text) result recorded (Ok y) → Comes modules limit left result recorded → IsProgramOf o text (view y)
  taken modules limit left result recorded y goal same j p = let q = here modules limit left result recorded goal same p in taken_of left result recorded y j q (answered left result recorded q)

  -- else it has none within the limit
  pub lacks : (modules : Bool) (limit left : ℕ) (result : Result X Failure) (recorded : List Error) (fault : Fault) → is_module o.goal ≡ modules → limit ≡ o.nesting
      → Judges {X = X} (stops_at left text) result recorded (Err fault) → Comes modules limit left result recorded → LacksProgram o text fault
  lacks modules limit left result recorded fault goal same j p = let q = here modules limit left result recorded goal same p in lacks_of left result recorded fault j q (answered left result recorded q)
