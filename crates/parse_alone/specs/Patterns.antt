-- What an element of a pattern is for (13.15.5, 14.3.3).
use Rattle.parse_alone.specs.declared.pat_type.PatType.{PatType}
use Rattle.parse_alone.specs.declared.pat_type.PatType.TheVariants.{BindingPat, BindingElement, AssignPat, AssignElement}

abbrev pub element_of : PatType → PatType
element_of BindingPat = BindingElement
element_of BindingElement = BindingElement
element_of AssignPat = AssignElement
element_of AssignElement = AssignElement
