-- Laws of spelled texts: the order of their tokens, and how many trees read one.
use Rattle.std.specs.Prelude.{◌≡◌, ◌≤◌, ◌⊎◌, ◌==◌, ℕ, zero, suc, Bool, if◌then◌else◌, List, [], ◌∷◌}
use Rattle.base_token.specs.declared.syntax.EsSyntax.{EsSyntax}
use Rattle.base_token.specs.Kinds.{regex_kind}
use Rattle.tree_spec.specs.Tree.{Tree}
use Rattle.grammar_spec.specs.Tokens.Input.{PlacedToken}
use Rattle.grammar_laws.specs.CompleteBase.Laws.{InOrder}
use Rattle.grammar_laws.specs.Context.Laws.{SameToken, SameTokens}
use Rattle.grammar_text_spec.specs.Text.{Reads}
use Rattle.grammar_text_spec.specs.Tiled.{Tile}

-- Tokens that tile a text, whose characters begin at a place, are in order from there on.
abbrev pub PlacesInOrder : Type 0
PlacesInOrder = (start : ℕ) (modules : Bool) (text : List ℕ) (ps : List PlacedToken) → Tile start modules text ps → InOrder start ps

-- ---- one tree of a text

-- How a place was read, by its lexical goal and its token's kind: outside templates, as a regular expression or as any other token, which is the
-- same under the goals of operators and of operands; else under a goal of a template.
abbrev pub region_of : ℕ → ℕ → ℕ
region_of zero k = 0
region_of (suc zero) k = if k == regex_kind then 1 else 0
region_of (suc (suc n)) k = suc (suc n)

abbrev pub region : PlacedToken → ℕ
region p = region_of p.goal p.spot.token.kind

-- Where two lists of tokens part first, one has a regular expression or a part of a template, and the other hasn't.
abbrev pub Part : List PlacedToken → List PlacedToken → Type 0
Part [] [] = ⊥
Part [] (y ∷ ys) = 2 ≤ region y
Part (x ∷ xs) [] = 2 ≤ region x
Part (x ∷ xs) (y ∷ ys) = (region x ≡ region y → ⊥) ⊎ (SameToken x y × Part xs ys)

-- Two lists of places that tile one text have the same tokens, or part so.
abbrev pub TilesPart : Type 0
TilesPart = (start : ℕ) (modules : Bool) (text : List ℕ) (ps qs : List PlacedToken) → Tile start modules text ps → Tile start modules text qs → SameTokens ps qs ⊎ Part ps qs

-- Two trees that read one text are the same, or their tokens part so.
abbrev pub OneTree : Type 0
OneTree = (modules : Bool) (syntax : EsSyntax) (t u : Tree) (text : List ℕ) (h : Reads modules syntax t text) (g : Reads modules syntax u text) → (t ≡ u) ⊎ Part h.0 g.0

-- no regular expression, and no part of a template
abbrev pub Plain : List PlacedToken → Type 0
Plain [] = Unit {0}
Plain (p ∷ ps) = (region p ≡ 0) × Plain ps

-- So at most one tree reads a text by tokens of which none is a regular expression or a part of a template.
abbrev pub OnePlainTree : Type 0
OnePlainTree = (modules : Bool) (syntax : EsSyntax) (t u : Tree) (text : List ℕ) (h : Reads modules syntax t text) (g : Reads modules syntax u text) → Plain h.0 → Plain g.0 → t ≡ u
