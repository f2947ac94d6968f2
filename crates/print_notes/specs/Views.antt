-- The code's gaps, by their texts.
use Rattle.print_notes.specs.Spacing.{Place, Form, Space, Tight, Blank, Lines}
use Rattle.print_notes.specs.declared.places.Place.{Place as CodePlace}
use Rattle.print_notes.specs.declared.places.Form.{Form as CodeForm}
use Rattle.print_notes.specs.declared.spacing.Space.{Space as CodeSpace}
use Rattle.print_notes.specs.declared.spacing.Space.TheVariants as space

abbrev pub place_of : CodePlace → Place
place_of p = record { breaks = p.breaks; first = p.first; last = p.last; stays = p.stays; behind = p.behind; next = p.next; indent = p.indent.now }

abbrev pub form_view : CodeForm → Form
form_view f = record { lined = f.lined; leads = f.leads }

abbrev pub space_of : CodeSpace → Space
space_of space.Tight = Tight
space_of space.Blank = Blank
space_of (space.Lines n deeper) = Lines n deeper
