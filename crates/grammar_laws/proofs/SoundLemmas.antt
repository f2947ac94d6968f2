use Rattle.std.proofs.Common.{◌≡◌, ℕ, ◌≤◌, ◌⊎◌, inl, inr, Bool, true, false, cond, eqb, List, [], Result, Ok, Err, refl, sym, ap, subst, ⊎_elim, arith}
use Rattle.std.proofs.lemmas.Bool.{eqb-true}
use Rattle.tree_spec.specs.Tree.{Tree}
use Rattle.grammar_spec.specs.Tokens.Input.{Input, Code, script_code, module_code}
use Rattle.grammar_spec.specs.Tokens.Operators.{new_level, member_level}
use Rattle.grammar_spec.specs.Tokens.Shape.{level, is_clean}
use Rattle.grammar_spec.specs.Children.{By}
use Rattle.grammar_spec.specs.Reader.Source.{Fault, State, ◌>>=◌}
use Rattle.grammar_spec.specs.Reader.Modules.{program_by}
use Rattle.grammar_spec.specs.Reader.Reading.{readers, finish, read_program, read_list}
use Rattle.grammar_laws.specs.Laws.{OfLevel, ExpressionsSound, PatternsSound, StatementsSound, ClassesSound, ProgramsSound, ListsSound}
use Rattle.grammar_laws.proofs.Sure.{lm, seen, Sure}
use Rattle.grammar_spec.specs.Grammar.{Produces, Derives}
use Rattle.grammar_laws.proofs.Covers.{plain}
use Rattle.grammar_laws.proofs.Programs.{program_sure}
use Rattle.grammar_laws.proofs.Nested.{AtLeast, GotExpr, GotPat, GotStmt, GotClass}
use Rattle.grammar_laws.proofs.ByDepth.{all_sound}

of_level : (l : ℕ) (t : Tree) → AtLeast l t → OfLevel l t
of_level l t h = by_level (eqb l member_level) (λ e. eqb-true l member_level e) h
  where
    by_level : (b : Bool) → (b ≡ true → l ≡ member_level) → By b ((member_level ≤ level t) ⊎ (level t ≡ new_level)) (l ≤ level t) → OfLevel l t
    by_level true e h = ⊎_elim (λ z. let q : l ≡ member_level = e refl in inl (omega (arith, z, q))) (λ z. inr (e refl, z)) h
    by_level false e h = inl h

pub expressions_sound : ExpressionsSound
expressions_sound depth c l s t r g e = let h = subst (λ z. Sure s.commas z (GotExpr c l s)) e ((all_sound depth).expr c l s g) in (of_level l t h.so.1.0, h.so.1.1.produced)

pub patterns_sound : PatternsSound
patterns_sound depth c s t r e = let h = subst (λ z. Sure s.commas z (GotPat c s)) e ((all_sound depth).pat c s) in h.so.1

pub statements_sound : StatementsSound
statements_sound depth c s t r e = let h = subst (λ z. Sure s.commas z (GotStmt c s)) e ((all_sound depth).stmt c s) in h.so.1

pub classes_sound : ClassesSound
classes_sound depth c whole s t r e = let h = subst (λ z. Sure s.commas z (GotClass c whole s)) e ((all_sound depth).class_tail c whole s) in h.so.1

pub programs_sound : ProgramsSound
programs_sound depth modules c s t r e = let h = subst (λ z. Sure s.commas z (λ x. Produces x.0 (plain c) (seen s) (seen x.1))) e (program_sure (readers lm depth) (all_sound depth) modules c s) in h.so.1

-- ---- whole lists

abbrev tree_or : Tree → Result Tree Fault → Tree
tree_or u (Ok t) = t
tree_or u (Err e) = u

abbrev IsOk : Result Tree Fault → Type 0
IsOk (Ok t) = Unit {0}
IsOk (Err e) = ⊥

cleaned : (b : Bool) (u t : Tree) (f : Fault) → cond {A = Result Tree Fault} b (Ok u) (Err f) ≡ Ok t → (b ≡ true) × (u ≡ t)
cleaned true u t f e = (refl, ap (tree_or u) e)
cleaned false u t f e = absurd (subst IsOk (sym e) tt)

derived : (x : Result (Tree × State Input) Fault) (k : List ℕ) (c : Code) (ts : Input) (t : Tree) → Sure k x (λ y. Produces y.0 (plain c) ts (seen y.1)) → (x >>= finish lm) ≡ Ok t → (r : Input) × Derives t (plain c) ts r
unfolding finish
derived (Ok y) k c ts t h e = let w = cleaned (is_clean y.0) y.0 t _ e in (seen y.1, (subst (λ z. Produces z (plain c) ts (seen y.1)) w.1 h.so.1, subst (λ z. is_clean z ≡ true) w.1 w.0))
derived (Err f) k c ts t h e = absurd (subst IsOk (sym e) tt)

pub lists_sound : ListsSound
unfolding read_list read_program
lists_sound depth modules syntax start places t e =
    let c : Code = cond modules (module_code syntax) (script_code syntax) in let ts : Input = record { last = start; places = places } in let s : State Input = record { source = ts; commas = [] } in
    derived (program_by lm (readers lm depth) modules c s) [] c ts t (program_sure (readers lm depth) (all_sound depth) modules c s) e
