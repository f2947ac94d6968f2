-- What is answered of a source is answered of a list that it hands out, so it is a complete front of that; and such a front is answered.
use Rattle.std.proofs.Common.{ℕ, false, List, [], ◌++◌, Result, Ok, Err, subst}
use Rattle.tree_spec.specs.Tree.{Tree}
use Rattle.grammar_spec.specs.Tokens.Input.{PlacedToken, Input}
use Rattle.grammar_spec.specs.Reader.Source.{Fault, Stream, State, Read}
use Rattle.parse_source_laws.specs.Laws.{SameRead, from_source, from_list}
use Rattle.parse_source_laws.specs.Consumed.{AssignsUnlessClosed, Unasked}
use Rattle.parse_front_laws.specs.Complete.Laws.{Whatever, Expression, Binding, Key, Statement, ListItem, ModuleItem}
use Rattle.parse_front_laws.specs.Complete.Exact.{Stopped}
use Rattle.parse_front_laws.specs.Complete.Asyncs.{Worded}
use Rattle.parse_front_laws.specs.Laws.{ReadsFronts, Anywhere, PartsAreFronts}
use Rattle.parse_front_laws.specs.Exact.{AnswersWhere, AnyList, FrontsAreAnsweredExactly}
use Rattle.parse_front_laws.specs.Sources.{SameAnswers}
use Rattle.parse_front_laws.specs.SourceFronts.{ReadsFront, AnswersFront, SourceFrontsRead, SourceFrontsAnswered}
use Rattle.parse_front_laws.proofs.Sources.{parts_same}

module _ {S : Type 0} (m : Stream S) (Live : S → Type 0) where
  read_by : (Asked : Tree → List PlacedToken → S → Type 0) (P Plain : Tree → Input → Input → Type 0) (limit : ℕ) (s : S) (x : Result (Tree × State S) Fault) (f : Read Input Tree) → SameAnswers m Live Asked s [] x f → ReadsFronts Anywhere f P Plain limit → ReadsFront m Live Asked P Plain limit s x
  read_by Asked P Plain limit s (Err e) f h g = tt
  read_by Asked P Plain limit s (Ok x) f h g = let k = h.consumed in record {
    front = k.front;
    rest = k.rest;
    handed = k.handed;
    asked = k.asked;
    each = λ qs a i. let z = k.each qs a i in (z.0, λ named order. g (m.last s) (k.front ++ qs) x.0 (from_list m Live x.1.source qs x.1.commas) named order z.1 tt);
  }

  answered_by : (Asked : Tree → List PlacedToken → S → Type 0) (IsSuch : List PlacedToken → Type 0) (Meets : Tree → Input → Type 0) (P : Tree → Input → Input → Type 0) (limit : ℕ) (s : S) (x : Result (Tree × State S) Fault) (f : Read Input Tree) → SameAnswers m Live Asked s [] x f → AnswersWhere IsSuch Meets f P limit → AnswersFront m Live IsSuch Meets P limit s x
  answered_by Asked IsSuch Meets P limit s x f h g ps t r a such order d i n k w = let z = g (m.last s) ps t r such order d i n k w in let y = subst (λ v. SameRead m Live v x) z.1 (h.told ps a) in (from_source m Live y.0 z.0, y.1, y.2, y.3)

  pub source_fronts_read : PartsAreFronts → SourceFrontsRead m Live
  source_fronts_read fronts modules w bw limit placed c s e a = let h = parts_same m Live modules w bw limit c s [] e a in let g = fronts limit placed c in record {
    expressions = λ l i j. read_by _ _ _ limit s _ _ (h.expressions l) (g.expressions l i j);
    bindings = read_by _ _ _ limit s _ _ h.bindings g.bindings;
    keys = read_by _ _ _ limit s _ _ h.keys g.keys;
    parameters = read_by _ _ _ limit s _ _ h.parameters g.parameters;
    statements = read_by _ _ _ limit s _ _ h.statements g.statements;
    list_items = read_by _ _ _ limit s _ _ h.list_items g.list_items;
    module_items = λ syntax i. read_by _ _ _ limit s _ _ h.module_items (g.module_items syntax i);
  }

  pub source_fronts_answered : FrontsAreAnsweredExactly → SourceFrontsAnswered m Live
  source_fronts_answered exact modules w bw limit c s e a = let h = parts_same m Live modules w bw limit c s [] e a in let g = exact limit c in record {
    expressions = λ l i j o. answered_by (AssignsUnlessClosed m) Worded (Stopped l c) (Expression false l c) limit s _ _ (h.expressions l) (g.expressions l i j o);
    bindings = answered_by (Unasked m) AnyList Whatever (Binding false c) limit s _ _ h.bindings g.bindings;
    keys = answered_by (Unasked m) AnyList Whatever (Key false c) limit s _ _ h.keys g.keys;
    statements = answered_by (Unasked m) AnyList Whatever (Statement false c) limit s _ _ h.statements g.statements;
    list_items = answered_by (Unasked m) AnyList Whatever (ListItem false c) limit s _ _ h.list_items g.list_items;
    module_items = answered_by (Unasked m) AnyList Whatever (ModuleItem false c) limit s _ _ h.module_items g.module_items;
  }
