-- What is read of a source at a limit, beside what is derived from the tokens that it hands out.
use Rattle.std.proofs.Common.{◌≡◌, ℕ, ◌+◌, ◌≤◌, ◌<◌, Bool, true, false, List, [], Result, Ok, Err, cond, leb, leb-true, leb-false, ⊎_elim, refl, sym, ap, ◌∙◌, subst, true≢false, arith}
use Rattle.std.proofs.lemmas.Bool.{cases_Bool}
use Rattle.base_token.specs.declared.syntax.EsSyntax.{EsSyntax}
use Rattle.tree_spec.specs.Tree.{Tree, script, es_module}
use Rattle.tree_nesting.specs.Nesting.{nesting}
use Rattle.grammar_spec.specs.Tokens.Input.{PlacedToken}
use Rattle.grammar_spec.specs.Tokens.Shape.{is_clean}
use Rattle.grammar_text_spec.specs.Text.{code_of}
use Rattle.grammar_spec.specs.Reader.Source.{Fault, Unexpected, TooDeep, too_deep, ◌>>=◌, Stream, State, bound}
use Rattle.grammar_spec.specs.Reader.Modules.{program_by}
use Rattle.grammar_spec.specs.Reader.Reading.{readers, finish, read_program, read_list}
use Rattle.grammar_laws.specs.CompleteBase.Laws.{InOrder}
use Rattle.grammar_laws.specs.SteadyLaws.{Keeps}
use Rattle.grammar_laws.proofs.SteadyLemmas.{programs_keep}
use Rattle.grammar_laws.specs.Complete.Laws.{Decided}
use Rattle.grammar_laws.proofs.complete.WholeLemmas.{scripts_complete, modules_complete}
use Rattle.parse_source_laws.specs.Sources.{HandsOut, Orderly}
use Rattle.parse_source_laws.proofs.SourceLemmas.{programs_read}
use Rattle.ecma_parser.specs.Passed.{within, program_within}
use Rattle.parse_laws.specs.Parsed.{DerivesList, Judges, ProgramsJudged}
use Rattle.parse_laws.proofs.Passes.{no_tree}

-- what derives a list is what is read of it, or nests deeper
list_decided : (modules : Bool) (limit : ℕ) (placed : Bool) (syntax : EsSyntax) (t : Tree) (start : ℕ) (places : List PlacedToken) → InOrder start places → DerivesList placed modules syntax start places t
    → Decided (read_list limit modules syntax start places) t (limit < nesting t)
list_decided false limit placed syntax (script s ss l) start places o d = scripts_complete limit placed syntax s ss l start places d.1 o d.2
list_decided true limit placed syntax (es_module s ss l) start places o d = modules_complete limit placed syntax s ss l start places d.1 o d.2
list_decided false limit placed syntax t start places o d = absurd (true≢false (sym d.0))
list_decided true limit placed syntax t start places o d = absurd (true≢false (sym d.0))

-- within its nesting it is read
decided_at : (x : Result Tree Fault) (t : Tree) (P : Type 0) → (P → ⊥) → Decided x t P → x ≡ Ok t
decided_at (Ok u) t P p h = ap Ok h
decided_at (Err (Unexpected n)) t P p h = absurd h
decided_at (Err (TooDeep n)) t P p h = absurd (p h)

pub tree_of : (u t : Tree) → ◌≡◌ {A = Result Tree Fault} (Ok u) (Ok t) → u ≡ t
tree_of u t h = ap (read_or u) h
  where
    read_or : Tree → Result Tree Fault → Tree
    read_or u (Ok x) = x
    read_or u (Err e) = u

module _ {S : Type 0} (m : Stream S) (Live : S → Type 0) (modules : Bool) (orderly : Orderly m Live modules) (limit : ℕ) (syntax : EsSyntax) (s : S) (live : Live s) where
  module _ (placed : Bool) (ps : List PlacedToken) (u : Tree) (handed : HandsOut m ps s) (order : InOrder (m.last s) ps) (derived : DerivesList placed modules syntax (m.last s) ps u) where
    -- at a limit that it doesn't pass it is read of the source
    read_at : (d : ℕ) → nesting u ≤ d → read_program m d modules syntax s ≡ Ok u
    read_at d h = programs_read m Live modules orderly d syntax s ps u live handed (decided_at _ u (d < nesting u) (λ z. omega (arith, z, h)) (list_decided modules d placed syntax u (m.last s) ps order derived))

    -- and what is read at the limit is read at a larger one
    read_later : Keeps (read_program m limit modules syntax s) (Ok u)
    read_later = subst (λ (x : Result Tree Fault). Keeps (read_program m limit modules syntax s) x) (read_at (limit + nesting u) (omega arith)) (programs_keep m limit (limit + nesting u) modules syntax s (omega arith)).so

    kept_as : (x : Result Tree Fault) → x ≡ read_program m limit modules syntax s → Keeps x (Ok u)
    kept_as x e = subst (λ (x : Result Tree Fault). Keeps x (Ok u)) (sym e) read_later

    -- too deep at the limit: it nests deeper
    deeper : (n : ℕ) → Err (TooDeep n) ≡ read_program m limit modules syntax s → limit < nesting u
    deeper n e = ⊎_elim (λ (q : leb (nesting u) limit ≡ true). absurd (no_tree (e ∙ read_at limit (leb-true (nesting u) limit q)))) (λ (q : leb (nesting u) limit ≡ false). leb-false (nesting u) limit q) (cases_Bool (leb (nesting u) limit))

  -- an answer of the reading, by whether anything of a cover is left, and by whether it nests too deep
  clean_judged : (n : ℕ) (t : Tree) (b : Bool) → nesting t ≤ limit → cond {A = Result Tree Fault} b (Ok t) (Err (Unexpected n)) ≡ read_program m limit modules syntax s → Judges m modules syntax limit s (cond b (Ok t) (Err (Unexpected n)))
  clean_judged n t true h e = (h, λ placed ps u g o d. tree_of u t (kept_as placed ps u g o d (Ok t) e))
  clean_judged n t false h e = λ placed ps u g o d. no_tree (sym (kept_as placed ps u g o d (Err (Unexpected n)) e))

  deep_judged : (n i : ℕ) (t : Tree) (b : Bool) → limit < nesting t → cond {A = Result Tree Fault} b (Ok t) (Err (Unexpected n)) ≡ read_program m limit modules syntax s → Judges m modules syntax limit s (Err (TooDeep i))
  deep_judged n i t true h e = λ placed ps u g o d. subst (λ (x : Tree). limit < nesting x) (sym (tree_of u t (kept_as placed ps u g o d (Ok t) e))) h
  deep_judged n i t false h e = λ placed ps u g o d. absurd (no_tree (sym (kept_as placed ps u g o d (Err (Unexpected n)) e)))

  nested_judged : (x : Tree × State S) (b : Bool) → leb (nesting x.0) limit ≡ b → finish m x ≡ read_program m limit modules syntax s → Judges m modules syntax limit s (cond {A = Result (Tree × State S) Fault} b (Ok x) (too_deep m x.1) >>= finish m)
  unfolding finish
  nested_judged x true q e = clean_judged (bound m x.1) x.0 (is_clean x.0) (leb-true (nesting x.0) limit q) e
  nested_judged x false q e = deep_judged (bound m x.1) (bound m x.1) x.0 (is_clean x.0) (leb-false (nesting x.0) limit q) e

  judged : (x : Result (Tree × State S) Fault) → (x >>= finish m) ≡ read_program m limit modules syntax s → Judges m modules syntax limit s (x >>= within m limit >>= finish m)
  unfolding within
  judged (Ok x) e = nested_judged x (leb (nesting x.0) limit) refl e
  judged (Err (Unexpected n)) e = λ placed ps u g o d. no_tree (sym (kept_as placed ps u g o d (Err (Unexpected n)) e))
  judged (Err (TooDeep n)) e = λ placed ps u g o d. deeper placed ps u g o d n e

pub programs_judged : {S : Type 0} (m : Stream S) (Live : S → Type 0) → ProgramsJudged m Live
unfolding program_within read_program
programs_judged m Live modules orderly limit syntax s live = judged m Live modules orderly limit syntax s live (program_by m (readers m limit) modules (code_of modules syntax) (record { source = s; commas = [] })) refl
