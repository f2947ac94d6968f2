use Rattle.std.proofs.Common.{rules, sym, ◌∙◌, ◌≡◌, ◌≢◌, false}
use Rattle.std.specs.Str.{chars}
use Rattle.lex_pieces.specs.Characters.{is_line_terminator}
use Rattle.lex_pieces.proofs.RegExpLemmas.{goes_escaped, goes_open, goes_close, goes_bare}
use Rattle.lex_pieces.proofs.regexps.pass.Goals as goal

pub returns-else-is_line_terminator-clause-passed : goal.returns-else-is_line_terminator-clause-passed
returns-else-is_line_terminator-clause-passed c =
    goes_escaped c.args.in_class c.args.c c.in_ok-escaped-in-92.escaped (chars c.args.more.now) (chars c.in_ok-escaped-in-92.after.now)
    c.in-92.is c.in_ok-escaped-in-92.ensures.cut (sym c.is_line_terminator.ensures ∙ c.if-is_line_terminator.false)

pub returns-in-91-clause-passed : goal.returns-in-91-clause-passed
returns-in-91-clause-passed c = goes_open c.args.in_class c.args.c (chars c.args.more.now) c.in-91.is

pub returns-in-93-clause-passed : goal.returns-in-93-clause-passed
returns-in-93-clause-passed c = goes_close c.args.in_class c.args.c (chars c.args.more.now) c.in-93.is

pub returns-in_default-2-clause-passed : goal.returns-in_default-2-clause-passed
returns-in_default-2-clause-passed c =
    let x = c.args.c in
    let back : x ≢ 92 = search rules in
    let opens : x ≢ 91 = search rules in
    let closes : x ≢ 93 = search rules in
    let line : is_line_terminator x ≡ false = search rules in
    goes_bare c.args.in_class x (chars c.args.more.now) c.requires back opens closes line
