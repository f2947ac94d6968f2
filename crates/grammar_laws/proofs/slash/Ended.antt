-- A program that is read ends where the list does.
use Rattle.std.proofs.Common.{◌≡◌, ℕ, zero, suc, Bool, true, false, ◌&&◌, cond, ltb, List, [], ◌∷◌, ◌++◌, Option, Some, None, Result, Ok, Err, if◌then◌else◌, refl}
use Rattle.base_token.specs.Kinds.{shebang_kind}
use Rattle.tree_spec.specs.Tree.{Tree}
use Rattle.grammar_spec.specs.Tokens.Input.{Input, Code, content, in_list, turned_strict, lo}
use Rattle.grammar_spec.specs.Tokens.Shape.{is_use_strict, is_directive}
use Rattle.grammar_spec.specs.Reader.Source.{Fault, ◌>>=◌, unexpected, is_nil, State, Read, input, operand, past, retold, bound, at, ended, Step, go_on, finished, next_by, iterate_n, iterate, Inner}
use Rattle.grammar_spec.specs.Reader.Statements.{Body}
use Rattle.grammar_spec.specs.Reader.Modules.{item_by, program_item, program_step, program_rest, program_by, line_of}
use Rattle.grammar_laws.proofs.slash.Twins.{lm}

abbrev pub AtEnd : {A : Type 0} → Result (A × State Input) Fault → Type 0
AtEnd (Ok x) = is_nil x.1.source.places ≡ true
AtEnd (Err e) = Unit {0}

pub record Ends {A : Type 0} (x : Result (A × State Input) Fault) : Type 0 where
  pub so : AtEnd x

abbrev StepAtEnd : {A : Type 0} → Result (Step A × State Input) Fault → Type 0
StepAtEnd (Ok (go_on x, r)) = Unit {0}
StepAtEnd (Ok (finished x, r)) = is_nil r.source.places ≡ true
StepAtEnd (Err e) = Unit {0}

record StepEnds {A : Type 0} (x : Result (Step A × State Input) Fault) : Type 0 where
  pub so : StepAtEnd x

again_ends : {A : Type 0} (again : A → Read Input A) (b : ℕ) (x : Result (Step A × State Input) Fault) → ((y : A) (r : State Input) → Ends (again y r)) → StepEnds x → Ends (x >>= next_by (bound lm) again b)
again_ends again b (Ok (go_on y, r)) h e = by_test (ltb (bound lm r) b)
  where
    by_test : (z : Bool) → Ends (cond z (again y r) (unexpected lm r))
    by_test true = h y r
    by_test false = record { so = tt }
again_ends again b (Ok (finished y, r)) h e = record { so = e.so }
again_ends again b (Err f) h e = record { so = tt }

module _ {A : Type 0} (f : A → Read Input (Step A)) (h : (x : A) (s : State Input) → StepEnds (f x s)) where
  turns_end : (t : ℕ) (x : A) (s : State Input) → Ends (iterate_n (bound lm) t f x s)
  unfolding iterate_n
  turns_end zero x s = record { so = tt }
  turns_end (suc t) x s = again_ends (iterate_n (bound lm) t f) (bound lm s) (f x s) (λ y r. turns_end t y r) (h x s)

  iterate_ends : (x : A) (s : State Input) → Ends (iterate (bound lm) f x s)
  unfolding iterate
  iterate_ends x s = turns_end _ x s

module _ (inner : Inner Input) (modules : Bool) where
  item_ends : (b : Body) (x : Result (Tree × State Input) Fault) → StepEnds {A = Body} (x >>= λ t.
      if b.starts && is_use_strict t.0 then Ok (go_on (record { items = b.items ++ t.0 ∷ []; code = turned_strict b.code; starts = true }), retold lm (turned_strict b.code).context t.1)
      else Ok (go_on (record { items = b.items ++ t.0 ∷ []; code = b.code; starts = b.starts && is_directive t.0 }), t.1))
  item_ends b (Err e) = record { so = tt }
  item_ends b (Ok t) = by_test (b.starts && is_use_strict t.0)
    where
      by_test : (z : Bool) → StepEnds {A = Body} (cond z (Ok (go_on (record { items = b.items ++ t.0 ∷ []; code = turned_strict b.code; starts = true }), retold lm (turned_strict b.code).context t.1))
          (Ok (go_on (record { items = b.items ++ t.0 ∷ []; code = b.code; starts = b.starts && is_directive t.0 }), t.1)))
      by_test true = record { so = tt }
      by_test false = record { so = tt }

  step_ends : (b : Body) (s : State Input) → StepEnds (program_step lm inner modules b s)
  unfolding program_step program_item
  step_ends b s = by_test (ended lm s) refl
    where
      by_test : (z : Bool) → ended lm s ≡ z → StepEnds {A = Body} (cond z (Ok (finished b, s)) (item_by lm inner modules (in_list b.code) (operand lm s) >>= λ t.
          if b.starts && is_use_strict t.0 then Ok (go_on (record { items = b.items ++ t.0 ∷ []; code = turned_strict b.code; starts = true }), retold lm (turned_strict b.code).context t.1)
          else Ok (go_on (record { items = b.items ++ t.0 ∷ []; code = b.code; starts = b.starts && is_directive t.0 }), t.1)))
      by_test true e = record { so = e }
      by_test false e = item_ends b (item_by lm inner modules (in_list b.code) (operand lm s))

  keeps_end : {A B : Type 0} (f : A × State Input → B) (x : Result (A × State Input) Fault) → Ends x → Ends (x >>= λ y. Ok (f y, y.1))
  keeps_end f (Ok y) e = record { so = e.so }
  keeps_end f (Err d) e = record { so = tt }

  rest_ends : (c : Code) (start : ℕ) (l : Option (List ℕ)) (s : State Input) → Ends (program_rest lm inner modules c start l s)
  unfolding program_rest
  rest_ends c start l s = keeps_end _ _ (iterate_ends (program_step lm inner modules) step_ends (record { items = []; code = c; starts = true }) s)

  pub program_ends : (c : Code) (s : State Input) → Ends (program_by lm inner modules c s)
  unfolding program_by
  program_ends c s = by_test (at lm shebang_kind s)
    where
      by_line : (o : Option (List ℕ)) → Ends {A = Tree} (elim o [ None ↦ unexpected lm s | Some l ↦ program_rest lm inner modules c (lo (input lm s)) (Some l) (past lm s) ])
      by_line None = record { so = tt }
      by_line (Some l) = rest_ends c (lo (input lm s)) (Some l) (past lm s)

      by_test : (z : Bool) → Ends {A = Tree} (cond z (elim (line_of lm inner (content (input lm s))) [ None ↦ unexpected lm s | Some l ↦ program_rest lm inner modules c (lo (input lm s)) (Some l) (past lm s) ]) (program_rest lm inner modules c (lo (input lm s)) None s))
      by_test true = by_line (line_of lm inner (content (input lm s)))
      by_test false = rest_ends c (lo (input lm s)) None s
