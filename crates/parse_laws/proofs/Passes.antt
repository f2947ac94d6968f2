-- A reading that passes the limit and is finished: its tree is within the limit, and a script or a module as was asked.
use Rattle.std.proofs.Common.{◌≡◌, ℕ, ◌≤◌, Bool, true, false, cond, leb, leb-true, List, [], Option, Some, None, Result, Ok, Err, refl, sym, ap, subst, true≢false}
use Rattle.base_token.specs.declared.place.Span.{Span}
use Rattle.base_token.specs.Kinds.{shebang_kind}
use Rattle.tree_spec.specs.Tree.{Tree, Trees}
use Rattle.tree_nesting.specs.Nesting.{nesting}
use Rattle.grammar_spec.specs.Tokens.Input.{Code, content, lo}
use Rattle.grammar_spec.specs.Tokens.Shape.{is_clean}
use Rattle.grammar_text_spec.specs.Text.{is_of_goal}
use Rattle.grammar_spec.specs.Reader.Source.{Fault, unexpected, too_deep, ◌>>=◌, Stream, State, Inner, input, past, at, bound, iterate}
use Rattle.grammar_spec.specs.Reader.Statements.{Body}
use Rattle.grammar_spec.specs.Reader.Modules.{line_of, program_tree, program_step, program_rest, program_by}
use Rattle.grammar_spec.specs.Reader.Reading.{finish}
use Rattle.ecma_parser.specs.Passed.{within}

pub no_tree : {t : Tree} {e : Fault} → ◌≡◌ {A = Result Tree Fault} (Err e) (Ok t) → ⊥
no_tree {t} {e} h = true≢false (sym (ap is_read h))
  where
    is_read : Result Tree Fault → Bool
    is_read (Ok x) = true
    is_read (Err x) = false

-- ---- a tree that is finished is the one that was read

cleaned : (d : Fault) (b : Bool) (u t : Tree) → cond {A = Result Tree Fault} b (Ok u) (Err d) ≡ Ok t → u ≡ t
cleaned d true u t e = ap (read_or u) e
  where
    read_or : Tree → Result Tree Fault → Tree
    read_or u (Ok x) = x
    read_or u (Err e) = u
cleaned d false u t e = absurd (no_tree e)

finished : {S : Type 0} (m : Stream S) (x : Tree × State S) (t : Tree) → finish m x ≡ Ok t → x.0 ≡ t
unfolding finish
finished m x t e = cleaned _ (is_clean x.0) x.0 t e

-- ---- the limit

module _ {S : Type 0} (m : Stream S) (limit : ℕ) (t : Tree) where
  passed_by : (x : Tree × State S) (b : Bool) → leb (nesting x.0) limit ≡ b → (cond {A = Result (Tree × State S) Fault} b (Ok x) (too_deep m x.1) >>= finish m) ≡ Ok t → (nesting t ≤ limit) × (finish m x ≡ Ok t)
  passed_by x true q e = (subst (λ (u : Tree). nesting u ≤ limit) (finished m x t e) (leb-true (nesting x.0) limit q), e)
  passed_by x false q e = absurd (no_tree e)

  -- what passes the limit is within it, and is read without the limit
  pub passed : (x : Result (Tree × State S) Fault) → (x >>= within m limit >>= finish m) ≡ Ok t → (nesting t ≤ limit) × ((x >>= finish m) ≡ Ok t)
  unfolding within
  passed (Ok x) e = passed_by x (leb (nesting x.0) limit) refl e
  passed (Err d) e = absurd (no_tree e)

-- ---- a script is read as a script, and a module as a module

module _ {S : Type 0} (m : Stream S) (inner : Inner S) (modules : Bool) where
  abbrev OfGoal : Result (Tree × State S) Fault → Type 0
  OfGoal (Ok x) = is_of_goal modules x.0 ≡ true
  OfGoal (Err e) = Unit {0}

  tree_of_goal : (b : Bool) (p : Span) (ss : Trees) (l : Option (List ℕ)) → is_of_goal b (program_tree m inner b p ss l) ≡ true
  tree_of_goal true p ss l = refl
  tree_of_goal false p ss l = refl

  rest_of_goal : (c : Code) (start : ℕ) (l : Option (List ℕ)) (s : State S) → OfGoal (program_rest m inner modules c start l s)
  unfolding program_rest
  rest_of_goal c start l s = by_body (iterate (bound m) (program_step m inner modules) (record { items = []; code = c; starts = true }) s) _ (λ b. tree_of_goal modules _ _ l)
    where
      by_body : (x : Result (Body × State S) Fault) (f : Body × State S → Result (Tree × State S) Fault) → ((b : Body × State S) → OfGoal (f b)) → OfGoal (x >>= f)
      by_body (Ok b) f h = h b
      by_body (Err e) f h = tt

  program_of_goal : (c : Code) (s : State S) → OfGoal (program_by m inner modules c s)
  unfolding program_by
  program_of_goal c s = by_kind (at m shebang_kind s) _ _ (by_line (line_of m inner (content (input m s)))) (rest_of_goal c (lo (input m s)) None s)
    where
      by_kind : (b : Bool) (x y : Result (Tree × State S) Fault) → OfGoal x → OfGoal y → OfGoal (cond b x y)
      by_kind true x y h k = h
      by_kind false x y h k = k

      by_line : (o : Option (List ℕ)) → OfGoal (elim o [ None ↦ unexpected m s | Some l ↦ program_rest m inner modules c (lo (input m s)) (Some l) (past m s) ])
      by_line None = tt
      by_line (Some l) = rest_of_goal c (lo (input m s)) (Some l) (past m s)

  finished_of_goal : (t : Tree) (x : Result (Tree × State S) Fault) → OfGoal x → (x >>= finish m) ≡ Ok t → is_of_goal modules t ≡ true
  finished_of_goal t (Ok x) g e = subst (λ (u : Tree). is_of_goal modules u ≡ true) (finished m x t e) g
  finished_of_goal t (Err d) g e = absurd (no_tree e)

  pub read_of_goal : (c : Code) (s : State S) (t : Tree) → (program_by m inner modules c s >>= finish m) ≡ Ok t → is_of_goal modules t ≡ true
  read_of_goal c s t e = finished_of_goal t (program_by m inner modules c s) (program_of_goal c s) e
