-- What is read of a source at a limit derives tokens that the source hands out, and what derives such tokens is read.
use Rattle.std.proofs.Common.{◌≡◌, ℕ, ◌+◌, ◌≤◌, Bool, false, List, [], Result, Ok, Err, sym, ap, ◌∙◌, arith}
use Rattle.base_token.specs.declared.syntax.EsSyntax.{EsSyntax}
use Rattle.tree_spec.specs.Tree.{Tree}
use Rattle.tree_nesting.specs.Nesting.{nesting}
use Rattle.grammar_spec.specs.Tokens.Input.{PlacedToken}
use Rattle.grammar_text_spec.specs.Text.{code_of}
use Rattle.grammar_spec.specs.Reader.Source.{Fault, Unexpected, TooDeep, Stream}
use Rattle.grammar_spec.specs.Reader.Modules.{program_by}
use Rattle.grammar_spec.specs.Reader.Reading.{readers, read_program}
use Rattle.grammar_laws.proofs.SoundLemmas.{lists_sound}
use Rattle.grammar_laws.specs.CompleteBase.Laws.{InOrder}
use Rattle.parse_source_laws.specs.Sources.{HandsOut, Orderly}
use Rattle.parse_source_laws.specs.Consumed.{Backward}
use Rattle.parse_source_laws.proofs.ConsumedLemmas.{programs_consumed}
use Rattle.ecma_parser.specs.Passed.{program_within}
use Rattle.parse_laws.specs.Parsed.{DerivesList, Judges}
use Rattle.parse_laws.proofs.ParsedLemmas.{programs_judged, tree_of}
use Rattle.parse_laws.specs.Exact.{read_within, ProgramsExact, OneProgram}
use Rattle.parse_laws.proofs.Passes.{passed, read_of_goal}

module _ {S : Type 0} (m : Stream S) (Live : S → Type 0) (modules : Bool) (w : Orderly m Live modules) (limit : ℕ) (syntax : EsSyntax) (s : S) (t : Tree) (live : Live s) where
  -- what is read of the source is read of a list that it hands out, which the tree derives
  from_list : Backward m Live modules → read_program m limit modules syntax s ≡ Ok t → (ps : List PlacedToken) × HandsOut m ps s × DerivesList false modules syntax (m.last s) ps t
  unfolding read_program
  from_list bw e = let c = programs_consumed m Live modules w bw limit syntax s t live e in let d = lists_sound limit modules syntax (m.last s) c.0 t c.2 in
      (c.0, c.1, (read_of_goal m (readers m limit) modules (code_of modules syntax) (record { source = s; commas = [] }) t e, d.0, d.1))

  derived_at : Backward m Live modules → read_within m limit modules syntax s ≡ Ok t → (nesting t ≤ limit) × (ps : List PlacedToken) × HandsOut m ps s × DerivesList false modules syntax (m.last s) ps t
  unfolding program_within read_program
  derived_at bw e = let p = passed m limit t (program_by m (readers m limit) modules (code_of modules syntax) (record { source = s; commas = [] })) e in let d = from_list bw p.1 in (p.0, d.0, d.1, d.2)

  module _ (placed : Bool) (ps : List PlacedToken) (handed : HandsOut m ps s) (order : InOrder (m.last s) ps) (derived : DerivesList placed modules syntax (m.last s) ps t) (shallow : nesting t ≤ limit) where
    read_by : (x : Result Tree Fault) → Judges m modules syntax limit s x → x ≡ Ok t
    read_by (Ok u) j = ap Ok (sym (j.1 placed ps t handed order derived))
    read_by (Err (Unexpected n)) j = absurd (j placed ps t handed order derived)
    read_by (Err (TooDeep n)) j = let h = j placed ps t handed order derived in absurd (omega (arith, h, shallow))

    read_at : read_within m limit modules syntax s ≡ Ok t
    read_at = read_by (read_within m limit modules syntax s) (programs_judged m Live modules w limit syntax s live)

module _ {S : Type 0} (m : Stream S) (Live : S → Type 0) where
  pub programs_exact : ProgramsExact m Live
  programs_exact modules w bw limit syntax s t live = record {
    derived = λ e. derived_at m Live modules w limit syntax s t live bw e;
    read = λ placed ps g o d h. read_at m Live modules w limit syntax s t live placed ps g o d h;
  }

  -- two trees are read at a limit that both are within
  pub one_program : OneProgram m Live
  one_program modules w syntax s live p ps t g o d q qs u h k e = let limit = nesting t + nesting u in
      tree_of t u (sym (read_at m Live modules w limit syntax s t live p ps g o d (omega arith)) ∙ read_at m Live modules w limit syntax s u live q qs h k e (omega arith))
