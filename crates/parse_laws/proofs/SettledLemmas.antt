-- What is read of a source from a state that a reading comes to is settled; so is what is read from the first token on.
use Rattle.std.proofs.Common.{◌≡◌, ℕ, Bool, Result, Ok, Err, refl}
use Rattle.base_token.specs.declared.syntax.EsSyntax.{EsSyntax}
use Rattle.lex_source.specs.Machine as tokens
use Rattle.lex_source.specs.Machine.{Source}
use Rattle.tree_spec.specs.Tree.{Tree}
use Rattle.grammar_spec.specs.Reader.Source.{Fault, Unexpected, TooDeep, Stream}
use Rattle.parse_state.specs.Cursors.{read_on, stream_of}
use Rattle.parse_source_laws.specs.Sources.{Orderly}
use Rattle.parse_source_laws.specs.Consumed.{Backward}
use Rattle.parse_lexer_laws.specs.Constant.{Before}
use Rattle.parse_lexer_laws.proofs.Orderly.{parser_orderly}
use Rattle.parse_lexer_laws.proofs.Backward.{parser_backward}
use Rattle.parse_laws.specs.Parsed.{Judges}
use Rattle.parse_laws.proofs.ParsedLemmas.{programs_judged}
use Rattle.parse_laws.specs.Exact.{read_within}
use Rattle.parse_laws.proofs.ExactLemmas.{programs_exact}
use Rattle.parse_laws.specs.Settled.{SettledBy, Settled, FirstSettled}

module _ {S : Type 0} (m : Stream S) (Live : S → Type 0) (modules : Bool) (w : Orderly m Live modules) (back : Backward m Live modules) (limit : ℕ) (syntax : EsSyntax) (s : S) (live : Live s) where
  settled_by : (x : Result Tree Fault) → read_within m limit modules syntax s ≡ x → Judges m modules syntax limit s x → SettledBy m limit modules syntax s x
  settled_by (Ok t) e j = let d = (programs_exact m Live modules w back limit syntax s t live).derived e in record { places = d.1; handed = d.2; derived = d.3; within = d.0; only = j.1 }
  settled_by (Err (Unexpected n)) e j = j
  settled_by (Err (TooDeep n)) e j = j

  pub settled : Settled m limit modules syntax s
  settled = record {
    read = settled_by (read_within m limit modules syntax s) refl (programs_judged m Live modules w limit syntax s live);
    found = λ placed ps t g o d h. (programs_exact m Live modules w back limit syntax s t live).read placed ps g o d h;
  }

pub first_settled : {S : Type 0} (m : tokens.Machine S) (Good : Source S → Type 0) (Same : Source S → Source S → Type 0) → FirstSettled m Good Same
first_settled m Good Same modules w limit syntax s last g =
    settled (stream_of m) (Before Good) modules (parser_orderly m Good Same modules w) (parser_backward m Good Same modules w) limit syntax (read_on (m.step s) last) ((m.step s).1, refl, w.good_step s g)
