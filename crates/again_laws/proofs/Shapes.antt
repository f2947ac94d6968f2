-- Scripts and modules, by the goal symbol of a text (clause 16).
use Rattle.std.proofs.Common.{◌≡◌, Bool, true, false, List, [], ◌∷◌, refl, sym, true≢false}
use Rattle.base_token.specs.declared.place.Span.{Span}
use Rattle.base_token.specs.declared.syntax.EsSyntax.{EsSyntax}
use Rattle.tree_spec.specs.Tree.{Tree, script, es_module}
use Rattle.grammar_spec.specs.Tokens.Input.{PlacedToken, Input, Code, unplaced}
use Rattle.grammar_spec.specs.Children.{is_quasi}
use Rattle.grammar_spec.specs.Grammar.{Produces}
use Rattle.grammar_laws.specs.Context.Laws.{placing, SameTokens as SamePlaced}
use Rattle.grammar_laws.specs.Slash.TemplateLaws.{Programmed}
use Rattle.grammar_text_spec.specs.Text.{code_of, is_of_goal}
use Rattle.print_layout_spec.specs.Looks.{start, when}
use Rattle.again_laws.specs.Tiling.Tiles.{IsSilent, SameTokens}
use Rattle.again_laws.specs.Derived.Redo.{Leaves, Mode, redo}
use Rattle.again_laws.specs.DerivedLaws.DerivedLaws.{is_program}

pub redone_goal : (modules : Bool) (l : Leaves) (m : Mode) (t : Tree) → is_of_goal modules (redo l m t) ≡ is_of_goal modules t
redone_goal false l m (script s ss h) = refl
redone_goal false l m _ = refl
redone_goal true l m (es_module s ss h) = refl
redone_goal true l m _ = refl

pub goal_is_program : (modules : Bool) (t : Tree) → is_of_goal modules t ≡ true → is_program t ≡ true
goal_is_program false (script s ss h) e = refl
goal_is_program false _ e = absurd (true≢false (sym e))
goal_is_program true (es_module s ss h) e = refl
goal_is_program true _ e = absurd (true≢false (sym e))

pub program_is_no_quasi : (t : Tree) → is_program t ≡ true → is_quasi t ≡ false
program_is_no_quasi (script s ss h) e = refl
program_is_no_quasi (es_module s ss h) e = refl
program_is_no_quasi _ e = absurd (true≢false (sym e))

pub programmed : (t : Tree) (c : Code) (ts r : Input) → is_program t ≡ true → Produces t c ts r → Programmed t c ts r
programmed (script s ss l) c ts r e h = h
programmed (es_module s ss l) c ts r e h = h
programmed _ c ts r e h = absurd (true≢false (sym e))

pub goal_is_placed : (modules : Bool) (x : EsSyntax) → (code_of modules x).placed ≡ true
goal_is_placed false x = refl
goal_is_placed true x = refl

pub placed_again : (modules : Bool) (x : EsSyntax) → placing true (unplaced (code_of modules x)) ≡ code_of modules x
placed_again false x = refl
placed_again true x = refl

pub same_tokens : (xs ys : List PlacedToken) → SamePlaced xs ys → SameTokens xs ys
same_tokens [] [] h = tt
same_tokens (x ∷ xs) (y ∷ ys) h = (h.0, same_tokens xs ys h.1)
same_tokens [] (y ∷ ys) h = absurd h
same_tokens (x ∷ xs) [] h = absurd h

pub start_is_silent : (b : Bool) (s : Span) → IsSilent (when b (start s))
start_is_silent true s = tt
start_is_silent false s = tt
