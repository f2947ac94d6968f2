-- What is asked of a key of a property, a member or an attribute, and of the name of a module (13.2.5, 16.2): a word as a key is told of by itself.
use Rattle.tree_spec.specs.Tree.{Tree, big_int_lit, computed_prop_name, number_lit, private_name, str_lit}
use Rattle.print_layout_spec.specs.declared.look.Look.{Look}
use Rattle.print_layout_spec.specs.declared.look.Stand.TheVariants.{Key}
use Rattle.again_laws.specs.Tokens.Naming.{Naming}
use Rattle.again_laws.proofs.derived_rules.Sound.{Sound}

abbrev pub KeyPart : Look → Naming → Tree → Type 1
KeyPart look naming (str_lit s u w) = Sound look naming Key (str_lit s u w)
KeyPart look naming (number_lit s v w) = Sound look naming Key (number_lit s v w)
KeyPart look naming (big_int_lit s r d w) = Sound look naming Key (big_int_lit s r d w)
KeyPart look naming (computed_prop_name s e) = Sound look naming Key (computed_prop_name s e)
KeyPart look naming (private_name s n) = Sound look naming Key (private_name s n)
KeyPart look naming _ = Unit {1}
