-- Names come in the order of their places: the statements of the law.
use Rattle.std.specs.Prelude.{◌≡◌, ◌≤◌, ◌⊎◌, ℕ, suc, Bool, true, List, [], ◌∷◌}
use Rattle.base_token.specs.declared.syntax.EsSyntax.{EsSyntax}
use Rattle.tree_spec.specs.Tree.{Tree}
use Rattle.tree_program_spec.specs.Names.Names.{Name, names}
use Rattle.grammar_spec.specs.Tokens.Input.{PlacedToken, Input, Code, is_word, text_in}
use Rattle.grammar_spec.specs.Grammar.{Produces}
use Rattle.grammar_laws.specs.CompleteBase.Laws.{InOrder}
use Rattle.grammar_text_spec.specs.Text.{Reads, text_start}

-- The token is this name: a word of its characters, which begins where the name does.
abbrev pub IsName : Name → PlacedToken → Type 0
IsName n p = (is_word p.spot.token.kind ≡ true) × (text_in p.spot.token.content ≡ n.sym) × (p.spot.lo ≡ n.at)

-- Names are among tokens, in the order of these: a token is the first name, and the others are among the tokens behind it.
abbrev pub Among : List Name → List PlacedToken → Type 0
Among [] ps = Unit {0}
Among (n ∷ ns) [] = ⊥
Among (n ∷ ns) (p ∷ ps) = (IsName n p × Among ns ps) ⊎ Among (n ∷ ns) ps

-- Each name begins behind the one before it, and the first not before a place.
abbrev pub Ascend : ℕ → List Name → Type 0
Ascend n [] = Unit {0}
Ascend n (x ∷ xs) = (n ≤ x.at) × Ascend (suc x.at) xs

-- The names of a tree are among the tokens of which it is derived, in the order of these.
abbrev pub NamesAreTokens : Type 0
NamesAreTokens = (t : Tree) (c : Code) (ts r : Input) → Produces t c ts r → Among (names t) ts.places

-- So where the places of the tokens ascend, those of the names do,
abbrev pub NamesAscend : Type 0
NamesAscend = (t : Tree) (c : Code) (n : ℕ) (ts r : Input) → InOrder n ts.places → Produces t c ts r → Ascend n (names t)

-- as those of each tree that reads a text.
abbrev pub NamesOfTextsAscend : Type 0
NamesOfTextsAscend = (modules : Bool) (syntax : EsSyntax) (t : Tree) (text : List ℕ) → Reads modules syntax t text → Ascend text_start (names t)
