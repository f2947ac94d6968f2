-- The tokens that the layout of a program says are derived again.
use Rattle.std.specs.Prelude.{◌≡◌, Bool, true, false, []}
use Rattle.tree_spec.specs.Tree.{Tree, script, es_module}
use Rattle.grammar_spec.specs.Tokens.Input.{Input, Code, unplaced}
use Rattle.grammar_spec.specs.Grammar.{Produces}
use Rattle.print_layout_spec.specs.declared.look.Look.{Look}
use Rattle.print_layout_spec.specs.declared.look.Stand.TheVariants.{Alone}
use Rattle.print_layout_spec.specs.Layout.{laid}
use Rattle.again_laws.specs.Tokens.Spacings.{Spacing}
use Rattle.again_laws.specs.Tokens.Lexicon.{Lexicon}
use Rattle.again_laws.specs.Tokens.Means.{Known}
use Rattle.again_laws.specs.Tokens.Naming.{Naming}
use Rattle.again_laws.specs.Tokens.Told.{says}
use Rattle.again_laws.specs.Derived.Redo.{Plain, Redone}
use Rattle.again_laws.specs.Derived.Written.{leaves_by}

-- a Script or a Module (16.1, 16.2)
abbrev pub is_program : Tree → Bool
is_program (script s ss l) = true
is_program (es_module s ss l) = true
is_program _ = false

-- A tree that derives the tokens, that is this one but for places and spellings, and whose names stand for those of this one.
abbrev pub DerivesAgain : Naming → Look → Tree → Code → Input → Type 0
DerivesAgain n look t c ts = (u : Tree) × (r : Input) × Produces u (unplaced c) ts r × Redone (leaves_by look n.read n.written) Plain t u

-- Where texts mean what they spell, the tokens of a text that a program derives were read, and its layout says tokens up to their end, each name where it stands, these are derived again.
abbrev pub DerivedAgain : Type 0
DerivedAgain = (n : Naming) (look : Look) → Lexicon look.style → (t : Tree) → is_program t ≡ true → (c : Code) (ts0 r0 : Input) → Produces t c ts0 r0 → Known ts0.places
    → (b : Spacing) (ts : Input) → says n (laid look Alone t) b ts (λ d m. m.places ≡ []) → DerivesAgain n look t c ts
