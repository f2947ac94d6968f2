use Rattle.std.proofs.Common.{sym, ap, ◌∙◌}
use Rattle.std.specs.Str.{chars}
use Rattle.lex_token.specs.Sorts.{class_sort}
use Rattle.lex_token.proofs.SortLemmas.{ascii_below, mark_by_class, sort_by_class}
use Rattle.lex_token.proofs.sort.sort_of.Goals as goal

pub sort_of_mark-requires : goal.sort_of_mark-requires
sort_of_mark-requires c =
    mark_by_class c.args.c (ascii_below c.args.c (sym c.if-not-is_ascii.ensures)) (ap class_sort (sym c.byte_class.ensures) ∙ sym c.sort_of_class.ensures ∙ c.in-None.is)

pub returns-in-Some : goal.returns-in-Some
returns-in-Some c =
    sym (sort_by_class c.args.goal c.args.c (chars c.args.rest.now) c.in-Some.sort (ascii_below c.args.c (sym c.if-not-is_ascii.ensures))
    (ap class_sort (sym c.byte_class.ensures) ∙ sym c.sort_of_class.ensures ∙ c.in-Some.is))
