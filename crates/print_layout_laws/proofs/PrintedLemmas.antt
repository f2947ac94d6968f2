-- The law, from the induction on trees.
use Rattle.print_layout_spec.specs.declared.look.Stand.TheVariants.{Alone}
use Rattle.print_layout_laws.specs.PrintedLaws.{SpelledIsPrinted, ReadIsPrinted}
use Rattle.print_layout_laws.proofs.Printed.{good}

pub spelled_is_printed : SpelledIsPrinted
spelled_is_printed look s t c ts r h = (good look t c ts r h s).so

pub read_is_printed : ReadIsPrinted
read_is_printed look modules syntax t text h = spelled_is_printed look Alone t _ _ h.1 h.4.0
