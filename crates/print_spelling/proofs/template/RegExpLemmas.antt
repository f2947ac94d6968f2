-- A regular expression is read back.
use Rattle.std.proofs.Common.{◌++◌, refl}
use Rattle.print_spelling.specs.Template.RegExps.{RegExpIsRead}

pub reg_exp_is_read : RegExpIsRead
reg_exp_is_read text body flags before rest h ends = (h.0, (flags ++ rest, refl, (refl, h.1.2.1, ends)))
