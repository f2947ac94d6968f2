-- A text that is none of the words is not found.
use Rattle.base_token.specs.Words.{keyword_words}
use Rattle.base_token.proofs.WordLemmas.{none_among}
use Rattle.base_token.proofs.word.KeywordFromStr.from_str.Goals as goal

pub returns-in_default : goal.returns-in_default
returns-in_default c =
    none_among keyword_words c.args.text.now
    (c.in_default.not-await, (c.in_default.not-break, (c.in_default.not-case, (c.in_default.not-catch, (c.in_default.not-continue, (c.in_default.not-debugger, (c.in_default.not-text, (c.in_default.not-do, (c.in_default.not-else, (c.in_default.not-finally, (c.in_default.not-for, (c.in_default.not-function, (c.in_default.not-if, (c.in_default.not-return, (c.in_default.not-switch, (c.in_default.not-throw, (c.in_default.not-try, (c.in_default.not-var, (c.in_default.not-let, (c.in_default.not-const, (c.in_default.not-while, (c.in_default.not-with, (c.in_default.not-new, (c.in_default.not-this, (c.in_default.not-super, (c.in_default.not-class, (c.in_default.not-extends, (c.in_default.not-export, (c.in_default.not-import, (c.in_default.not-yield, (c.in_default.not-in, (c.in_default.not-instanceof, (c.in_default.not-typeof, (c.in_default.not-void, (c.in_default.not-delete, tt)))))))))))))))))))))))))))))))))))
