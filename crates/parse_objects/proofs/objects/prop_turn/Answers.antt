use Rattle.std.proofs.Common.{rules}
use Rattle.tree_nodes.specs.Fits.{fits_prop_or_spread}
use Rattle.parse_objects.proofs.Rests.{all_more}
use Rattle.parse_objects.proofs.objects.prop_turn.Goals as goal

pub returns-clause-fits : goal.returns-clause-fits
returns-clause-fits g c = all_more (λ x. fits_prop_or_spread (λ p. p) x) c.args.list.now.items.items c.in_ok-item.item c.push.new.self.items (search rules) c.requires.fits c.in_ok-item.ensures.fits
