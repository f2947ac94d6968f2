-- A text that is none of the words is not found.
use Rattle.base_token.specs.Words.{known_words}
use Rattle.base_token.proofs.WordLemmas.{none_among}
use Rattle.base_token.proofs.word.KnownIdentFromStr.from_str.Goals as goal

pub returns-in_default : goal.returns-in_default
returns-in_default c =
    none_among known_words c.args.text.now
    (c.in_default.not-accessor, (c.in_default.not-as, (c.in_default.not-assert, (c.in_default.not-async, (c.in_default.not-enum, (c.in_default.not-from, (c.in_default.not-get, (c.in_default.not-implements, (c.in_default.not-interface, (c.in_default.not-meta, (c.in_default.not-of, (c.in_default.not-package, (c.in_default.not-private, (c.in_default.not-protected, (c.in_default.not-public, (c.in_default.not-set, (c.in_default.not-static, (c.in_default.not-target, (c.in_default.not-undefined, (c.in_default.not-using, tt))))))))))))))))))))
