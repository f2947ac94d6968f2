-- The readers of every depth read of a source what they read of the list that it hands out; so programs and parts are.
use Rattle.std.proofs.Common.{◌≡◌, ℕ, zero, suc, Bool, true, false, List, [], length, Result, Ok, Err, cond, if◌then◌else◌, refl, sym, ap, ◌∙◌, true≢false, arith}
use Rattle.tree_spec.specs.Tree.{Tree}
use Rattle.grammar_spec.specs.Tokens.Input.{PlacedToken, Input, script_code, module_code}
use Rattle.grammar_spec.specs.Tokens.Shape.{is_clean}
use Rattle.grammar_spec.specs.Reader.Source.{Fault, TooDeep, ◌>>=◌, Stream, State}
use Rattle.grammar_spec.specs.Reader.Expressions.{is_read}
use Rattle.grammar_spec.specs.Reader.Reading.{readers, finish, read_program, read_list}
use Rattle.parse_source_laws.specs.Sources.{HandsOut, Orderly}
use Rattle.parse_source_laws.specs.Laws.{ProgramsRead, PartsRead, SameRead, from_source, from_list}
use Rattle.parse_source_laws.proofs.Beside.{lm, Ceiling, Beside, Told, Heard}
use Rattle.parse_source_laws.proofs.Expressions.{expr_by_told, expr_by_refused, key_by_told, parameter_by_told, prop_by_told}
use Rattle.parse_source_laws.proofs.Statements.{pattern_prop_told, pat_by_told, stmt_from_told, stmt_from_refused, body_by_told, class_tail_by_told}
use Rattle.parse_source_laws.proofs.Modules.{item_from_told, program_by_told}
use Rattle.parse_source_laws.proofs.Codes.{code_of}

module _ {S : Type 0} {m : Stream S} {Live : S → Type 0} {modular : Bool} (w : Orderly m Live modular) where
  pub readers_heard : (d : ℕ) → Heard m Live modular (readers lm d) (readers m d)
  unfolding readers
  readers_heard zero = record {
    expr = λ k c e l s r h. record { so = tt };
    pat = λ k c e s r h. record { so = tt };
    stmt = λ k c e s r h. record { so = tt };
    body = λ k c e s r h. record { so = tt };
    class_tail = λ k c e n s r h. record { so = tt };
    no_expr = λ c l r e. (TooDeep _, refl);
    no_stmt = λ c r e. (TooDeep _, refl);
  }
  readers_heard (suc d) = let n = readers_heard d in record {
    expr = λ k c e l s r h. expr_by_told w n k c e l s r h;
    pat = λ k c e s r h. pat_by_told w n k c e s r h;
    stmt = λ k c e s r h. stmt_from_told w n k c e s r h;
    body = λ k c e s r h. body_by_told w n k c e s r h;
    class_tail = λ k c e i s r h. class_tail_by_told w n k c e i s r h;
    no_expr = λ c l r e. expr_by_refused w n c l r e;
    no_stmt = λ c r e. stmt_from_refused w n c r e;
  }

  -- where reading starts
  pub start_at : S → List PlacedToken → Ceiling
  start_at s ps = record { bound = m.bound s; length = length ps }

  pub beside_at : (s : S) (ps : List PlacedToken) (o : List ℕ) → Live s → HandsOut m ps s → Beside m Live (start_at s ps) (from_source m Live s o) (from_list m Live s ps o)
  unfolding start_at
  beside_at s ps o a h = record { commas = refl; last = refl; live = a; hands = h; falls = omega arith }

  finished : (k : Ceiling) (y : Result (Tree × State Input) Fault) (x : Result (Tree × State S) Fault) (t : Tree) → Told m Live k y x → (y >>= finish lm) ≡ Ok t → (x >>= finish m) ≡ Ok t
  unfolding finish
  finished k (Ok y) x t h e = ap (λ (z : Result (Tree × State S) Fault). z >>= finish m) h.so.1 ∙ clean (is_clean y.0) _ _ e
    where
      clean : (b : Bool) (d i : Fault) → cond b (Ok y.0) (Err d) ≡ Ok t → cond b (Ok y.0) (Err i) ≡ Ok t
      clean true d i e = e
      clean false d i e = absurd (true≢false (sym (ap (λ z. is_read z) e)))
  finished k (Err d) x t h e = absurd (true≢false (sym (ap (λ z. is_read z) e)))

  pub part : (k : Ceiling) (y : Result (Tree × State Input) Fault) (x : Result (Tree × State S) Fault) → Told m Live k y x → SameRead m Live y x
  part k (Ok y) x h = (h.so.0.source, h.so.1 ∙ ap (λ (o : List ℕ). Ok (y.0, from_source m Live h.so.0.source o)) h.so.2.commas, h.so.2.last, h.so.2.hands)
  part k (Err d) x h = tt

module _ {S : Type 0} (m : Stream S) (Live : S → Type 0) where
  pub programs_read : ProgramsRead m Live
  unfolding read_list read_program
  programs_read modules w depth syntax s ps t a h e = finished w (start_at w s ps) _ _ t
      (program_by_told w (readers_heard w depth) (start_at w s ps) modules (if modules then module_code syntax else script_code syntax) (code_of modules syntax) (from_source m Live s []) (from_list m Live s ps []) (beside_at w s ps [] a h)) e

  pub parts_read : PartsRead m Live
  parts_read modules w depth c s ps o e a h = let n = readers_heard w depth in let k = start_at w s ps in let t = from_source m Live s o in let r = from_list m Live s ps o in let b = beside_at w s ps o a h in record {
    expressions = λ l. part w k _ _ (n.expr k c e l t r b);
    bindings = part w k _ _ (n.pat k c e t r b);
    statements = part w k _ _ (n.stmt k c e t r b);
    items = part w k _ _ (item_from_told w n k modules c e t r b);
    keys = part w k _ _ (key_by_told w n k c e t r b);
    parameters = part w k _ _ (parameter_by_told w n k c e t r b);
    properties = part w k _ _ (prop_by_told w n k c e t r b);
    patterns = part w k _ _ (pattern_prop_told w n k c e t r b);
  }
