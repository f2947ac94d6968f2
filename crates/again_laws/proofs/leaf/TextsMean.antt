-- What texts mean, in each style.
use Rattle.std.proofs.Common.{◌≡◌, List, [], ◌∷◌, subst}
use Rattle.grammar_spec.specs.Tokens.Input.{PlacedToken, Input, rest, others}
use Rattle.again_laws.specs.Tokens.Means.{Known}
use Rattle.again_laws.specs.Tokens.Naming.{unplaced_names}
use Rattle.again_laws.proofs.tokens.Tables as tables
use Rattle.again_laws.specs.Leaf.Laws.{TextsMean}
use Rattle.again_laws.proofs.leaf.Words.{names, quoted_keys}
use Rattle.again_laws.proofs.leaf.Literals as literals
use Rattle.again_laws.proofs.leaf.UseStrict.{strict_kept}

later : (ts m : Input) → rest ts ≡ m → Known ts.places → Known m.places
later ts m e k = subst (λ (i : Input). Known i.places) e (by ts.places k)
  where
    by : (ps : List PlacedToken) → Known ps → Known (others ps)
    by [] k = tt
    by (p ∷ ps) k = k.1

pub texts_mean : TextsMean
texts_mean style = record {
  naming = unplaced_names;
  later = later;
  marks = tables.marks;
  words = tables.words;
  keywords = tables.keywords;
  signs = tables.signs_mean;
  operators = tables.operators_mean;
  endings = tables.endings_mean;
  names = names style;
  quoted_keys = quoted_keys style;
  strings = literals.strings style;
  numbers = literals.numbers style;
  pointed = literals.pointed style;
  big_integers = literals.big_integers style;
  characters = literals.characters style;
  patterns = literals.patterns;
  strict_kept = strict_kept style;
}
