use Rattle.std.proofs.Common.{◌≡◌, ℕ, Bool, if◌then◌else◌, List, refl}
use Rattle.base_token.specs.declared.place.Span.{Span}
use Rattle.print_layout_spec.specs.declared.look.Look.{Look}
use Rattle.print_layout_spec.specs.Literals.{name, key_word}
use Rattle.print_pieces.proofs.Steps.{laid_as}
use Rattle.print_nodes.proofs.names.IdentNamePrint.print.Goals as goal

word_as : (look : Look) (span : Span) (one other : List ℕ) (b c : Bool) → one ≡ other → b ≡ c
    → (if b then key_word look span one else name look span one) ≡ (if c then key_word look span other else name look span other)
word_as look span one other b c e h = rw e (rw h refl)

pub returns-clause-laid : goal.returns-clause-laid
returns-clause-laid g c = laid_as (word_as c.args.look c.args.self.now.span _ _ _ _ c.as_str.ensures c.is_key.ensures) c.print_word.ensures
