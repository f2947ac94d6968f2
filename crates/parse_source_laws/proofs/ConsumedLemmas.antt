-- The readers of every depth read of a list that a source hands out what they read of the source; so programs are.
use Rattle.std.proofs.Common.{◌≡◌, ℕ, zero, suc, Bool, true, false, ◌&&◌, cond, nat_lt, List, [], ◌∷◌, Option, Some, None, Result, Ok, Err, if◌then◌else◌, refl, sym, ap, ◌∙◌, true≢false}
use Rattle.tree_spec.specs.Tree.{Tree}
use Rattle.grammar_spec.specs.Tokens.Input.{PlacedToken, Input, Code, content, in_list, script_code, module_code, lo}
use Rattle.grammar_spec.specs.Tokens.Operators.{closed_end}
use Rattle.grammar_spec.specs.Tokens.Shape.{is_use_strict, is_clean}
use Rattle.base_token.specs.Kinds.{shebang_kind}
use Rattle.grammar_spec.specs.Reader.Source.{Fault, unexpected, is_nil, ◌>>=◌, Stream, State, Read, Inner, Step, go_on, finished, next_by, iterate_n, iterate, bound, input, operand, past, at, ended}
use Rattle.grammar_spec.specs.Reader.Expressions.{is_read}
use Rattle.grammar_spec.specs.Reader.Statements.{Body}
use Rattle.grammar_spec.specs.Reader.Modules.{item_by, program_step, program_item, program_rest, program_by, line_of}
use Rattle.grammar_spec.specs.Reader.Reading.{readers, finish, read_program, read_list}
use Rattle.parse_source_laws.specs.Sources.{HandsOut}
use Rattle.parse_source_laws.proofs.Beside.{lm}
use Rattle.parse_source_laws.specs.Consumed.{ProgramsConsumed}
use Rattle.parse_source_laws.proofs.Pairs.{Pairing, Paired}
use Rattle.parse_source_laws.proofs.HandedOut.{handed, paired}
use Rattle.parse_source_laws.proofs.Backs.{closed, shut_good, list_at, Backed, back_never, Echoed}
use Rattle.parse_source_laws.proofs.Solids.{solids}
use Rattle.parse_source_laws.proofs.ConsumedExpressions.{expr_by_backed}
use Rattle.parse_source_laws.proofs.ConsumedStatements.{pat_by_backed, stmt_from_backed, body_by_backed, class_tail_by_backed}
use Rattle.parse_source_laws.proofs.ConsumedModules.{program_by_backed}
use Rattle.parse_source_laws.proofs.Codes.{code_of}

-- ---- a program is read to the end

module _ {S : Type 0} (m : Stream S) (Q : State S → Type 0) where
  abbrev EndsBy : {A : Type 0} → Result (A × State S) Fault → Type 0
  EndsBy (Ok x) = Q x.1
  EndsBy (Err e) = Unit {0}

  record Ends {A : Type 0} (y : Result (A × State S) Fault) : Type 0 where
    so : EndsBy y

  abbrev StopsBy : {A : Type 0} → Result (Step A × State S) Fault → Type 0
  StopsBy (Ok (go_on x, r)) = Unit {0}
  StopsBy (Ok (finished x, r)) = Q r
  StopsBy (Err e) = Unit {0}

  record Stops {A : Type 0} (y : Result (Step A × State S) Fault) : Type 0 where
    so : StopsBy y

  stops_if : {A : Type 0} (b : Bool) (x y : Result (Step A × State S) Fault) → (b ≡ true → Stops x) → Stops y → Stops (cond b x y)
  stops_if true x y h n = h refl
  stops_if false x y h n = n

  stops_then : {A B : Type 0} (x : Result B Fault) (f : B → Result (Step A × State S) Fault) → ((b : B) → Stops (f b)) → Stops (x >>= f)
  stops_then (Ok b) f h = h b
  stops_then (Err e) f h = record { so = tt }

  ends_then : {A B : Type 0} (x : Result (A × State S) Fault) (f : A × State S → Result (B × State S) Fault) → Ends x → ((a : A) (t : State S) → Q t → Ends (f (a, t))) → Ends (x >>= f)
  ends_then (Ok x) f h n = n x.0 x.1 h.so
  ends_then (Err e) f h n = record { so = tt }

  ends_if : {A : Type 0} (b : Bool) (x y : Result (A × State S) Fault) → Ends x → Ends y → Ends (cond b x y)
  ends_if true x y h n = h
  ends_if false x y h n = n

  module _ {A : Type 0} (g : A → Read S (Step A)) (h : (x : A) (s : State S) → Stops (g x s)) where
    ends_turns : (j : ℕ) (x : A) (s : State S) → Ends (iterate_n (bound m) j g x s)
    unfolding iterate_n
    ends_turns zero x s = record { so = tt }
    ends_turns (suc j) x s = by_step (λ z t. ends_turns j z t) (g x s) (h x s)
      where
        by_step : ((z : A) (t : State S) → Ends (iterate_n (bound m) j g z t)) → (y : Result (Step A × State S) Fault) → Stops y → Ends (y >>= next_by (bound m) (iterate_n (bound m) j g) (bound m s))
        by_step n (Err e) k = record { so = tt }
        by_step n (Ok (finished z, t)) k = record { so = k.so }
        by_step n (Ok (go_on z, t)) k = ends_if (nat_lt (m.bound t.source) (m.bound s.source)) _ _ (n z t) (record { so = tt })

    ends_iterate : (x : A) (s : State S) → Ends (iterate (bound m) g x s)
    unfolding iterate
    ends_iterate x s = ends_turns _ x s

module _ {S : Type 0} (m : Stream S) (im : Inner S) where
  -- nothing comes
  abbrev Done : State S → Type 0
  Done s = m.seen s.source ≡ []

  done_of : (s : State S) → ended m s ≡ true → Done s
  done_of s e = by_seen (m.seen s.source) refl e
    where
      by_seen : (v : List PlacedToken) → m.seen s.source ≡ v → is_nil v ≡ true → m.seen s.source ≡ []
      by_seen [] i o = i
      by_seen (p ∷ v) i o = absurd (true≢false (sym o))

  step_stops : (modules : Bool) (b : Body) (s : State S) → Stops m Done (program_step m im modules b s)
  unfolding program_step program_item
  step_stops modules b s = stops_if m Done (ended m s) _ _ (λ e. record { so = done_of s e }) (stops_then m Done (item_by m im modules (in_list b.code) (operand m s)) _ (λ t. stops_if m Done (b.starts && is_use_strict t.0) _ _ (λ e. record { so = tt }) (record { so = tt })))

  rest_ends : (modules : Bool) (c : Code) (start : State S) (l : Option (List ℕ)) (s : State S) → Ends m Done (program_rest m im modules c (lo (input m start)) l s)
  unfolding program_rest
  rest_ends modules c start l s = ends_then m Done _ _ (ends_iterate m Done (program_step m im modules) (λ x s. step_stops modules x s) _ s) (λ a t e. record { so = e })

  program_ends : (modules : Bool) (c : Code) (s : State S) → Ends m Done (program_by m im modules c s)
  unfolding program_by
  program_ends modules c s = ends_if m Done (at m shebang_kind s) _ _ (by_line (line_of m im (content (input m s)))) (rest_ends modules c s None s)
    where
      by_line : (o : Option (List ℕ)) → Ends m Done {A = Tree} (elim o [ None ↦ unexpected m s | Some l ↦ program_rest m im modules c (lo (input m s)) (Some l) (past m s) ])
      by_line None = record { so = tt }
      by_line (Some l) = rest_ends modules c s (Some l) (past m s)

-- ---- the readers tied

module _ {S : Type 0} {m : Stream S} {Live : Pairing m} {modular : Bool} (w : Paired m Live modular) where
  pub readers_echoed : (d : ℕ) → Echoed m Live modular (readers lm d) (readers m d)
  unfolding readers
  readers_echoed zero = record {
    expr = λ c e l s a. back_never;
    pat = λ c e s a. back_never;
    stmt = λ c e s a. back_never;
    body = λ c e s a. back_never;
    class_tail = λ c e n s a. back_never;
    solid = solids m zero;
  }
  readers_echoed (suc d) = let n = readers_echoed d in record {
    expr = λ c e l s a. expr_by_backed w n s c e l a;
    pat = λ c e s a. pat_by_backed w n s c e a;
    stmt = λ c e s a. stmt_from_backed w n s c e a;
    body = λ c e s a. body_by_backed w n s c e a;
    class_tail = λ c e i s a. class_tail_by_backed w n s c e i a;
    solid = solids m (suc d);
  }

module _ {S : Type 0} (m : Stream S) (Live : S → Type 0) where
  finished_list : (s : State S) (t : Tree) (x : Result (Tree × State S) Fault) (y : State Input → Result (Tree × State Input) Fault) → Backed m (handed m Live) closed false closed_end s x y → Ends m (λ z. m.seen z.source ≡ []) x → (x >>= finish m) ≡ Ok t
      → (ps : List PlacedToken) × HandsOut m ps s.source × ((y (list_at m (handed m Live) s ps) >>= finish lm) ≡ Ok t)
  unfolding finish
  finished_list s t (Err d) y h f e = absurd (true≢false (sym (ap (λ z. is_read z) e)))
  finished_list s t (Ok x) y h f e = (h.so.0.back [], h.so.0.hands [] f.so, ap (λ (z : Result (Tree × State Input) Fault). z >>= finish lm) (h.so.2 [] f.so (shut_good (handed m Live) x.1 [])).1 ∙ clean (is_clean x.0) _ _ e)
    where
      clean : (b : Bool) (d i : Fault) → cond b (Ok x.0) (Err d) ≡ Ok t → cond b (Ok x.0) (Err i) ≡ Ok t
      clean true d i e = e
      clean false d i e = absurd (true≢false (sym (ap (λ z. is_read z) e)))

  abbrev start_at : S → State S
  start_at s = record { source = s; commas = [] }

  pub programs_consumed : ProgramsConsumed m Live
  unfolding read_list read_program
  programs_consumed modules w bw depth syntax s t a e = let c = (if modules then module_code syntax else script_code syntax) in let st = start_at s in
      finished_list st t (program_by m (readers m depth) modules c st) (λ r. program_by lm (readers lm depth) modules c r) (program_by_backed (paired w bw) (readers_echoed (paired w bw) depth) st modules c (code_of modules syntax) a) (program_ends m (readers m depth) modules c st) e
