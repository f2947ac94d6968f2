-- What is derived from tokens that were read is read from these.
use Rattle.std.proofs.Common.{List, [], ◌∷◌, subst}
use Rattle.grammar_spec.specs.Tokens.Input.{PlacedToken, Input, others}
use Rattle.again_laws.specs.Tokens.Means.{Known}
use Rattle.again_laws.specs.Derived.Read.{Knowledge}
use Rattle.again_laws.proofs.derived.Found.{found}
use Rattle.again_laws.specs.DerivedLaws.TextsLaws.{DerivedIsRead}

others_known : (ps : List PlacedToken) → Known ps → Known (others ps)
others_known [] k = tt
others_known (p ∷ ps) k = k.1

abbrev knowledge : Knowledge
knowledge = record { Known = λ ps. Known ps; later = λ ts m e k. subst (λ (i : Input). Known i.places) e (others_known ts.places k) }

pub derived_is_read : DerivedIsRead
derived_is_read mode t c ts r n w h k = (found knowledge t mode n w c ts r h k).0
