-- Lexical goals and contexts of places: what tokens alone derive, they derive under the goals and in the contexts that the grammar gives them.
use Rattle.std.specs.Prelude.{◌≡◌, ℕ, Bool, true, if◌then◌else◌, List, [], ◌∷◌, Option, Ok}
use Rattle.base_token.specs.declared.place.Span.{Span}
use Rattle.base_token.specs.declared.syntax.EsSyntax.{EsSyntax}
use Rattle.tree_spec.specs.Tree.{Tree, Trees, script, es_module}
use Rattle.grammar_spec.specs.Tokens.Input.{PlacedToken, Input, Code, script_code, module_code}
use Rattle.grammar_spec.specs.Grammar.{Produces, Derives}
use Rattle.grammar_spec.specs.Reader.Reading.{read_list}
use Rattle.grammar_laws.specs.CompleteBase.Laws.{coded, InOrder}

-- ---- tokens

-- the same token in the same place, whatever the goal under which it was read and the context in which it stands
abbrev pub SameToken : PlacedToken → PlacedToken → Type 0
SameToken x y = (x.spot ≡ y.spot) × (x.escaped ≡ y.escaped)

abbrev pub SameTokens : List PlacedToken → List PlacedToken → Type 0
SameTokens [] [] = Unit {0}
SameTokens (x ∷ xs) (y ∷ ys) = SameToken x y × SameTokens xs ys
SameTokens _ _ = ⊥

-- the code around a token, where goals and contexts are judged, or the tokens alone
abbrev pub placing : Bool → Code → Code
placing b c = record c { placed = b }

-- ---- goals and contexts

-- The same tokens under some goals and in some contexts are derived by the tree, where each goal and each context is judged: they are
-- those that the productions give these places.
abbrev pub DerivesPlaced : Tree → Code → ℕ → List PlacedToken → Type 0
DerivesPlaced t c start places = (ps : List PlacedToken) × (r : Input) × SameTokens places ps × Derives t (placing true c) (record { last = start; places = ps }) r

-- What produces tokens produces them under the goals and in the contexts that the productions give their places, up to the same rest.
abbrev pub HasPlaces : Type 0
HasPlaces = (c : Code) (t : Tree) (ts r : Input) → Produces t c ts r → (ps : List PlacedToken) × SameTokens ts.places ps × Produces t (placing true c) (record { last = ts.last; places = ps }) r

-- So what is read of a list of tokens has such places: each token is consumed under the goal and in the context of its derivation.
abbrev pub ReadHasPlaces : Type 0
ReadHasPlaces = (depth : ℕ) (modules : Bool) (syntax : EsSyntax) (start : ℕ) (places : List PlacedToken) (t : Tree) → read_list depth modules syntax start places ≡ Ok t
    → DerivesPlaced t (if modules then module_code syntax else script_code syntax) start places

-- ---- one tree of the same tokens

-- At most one script derives a list of tokens, whatever goals and contexts two derivations give to its places.
abbrev pub OneScriptOfTokens : Type 0
OneScriptOfTokens = (p q : Bool) (syntax : EsSyntax) (s w : Span) (ss us : Trees) (l m : Option (List ℕ)) (start : ℕ) (ps qs : List PlacedToken) (r o : Input) → InOrder start ps → SameTokens ps qs
    → Derives (script s ss l) (coded p (script_code syntax)) (record { last = start; places = ps }) r → Derives (script w us m) (coded q (script_code syntax)) (record { last = start; places = qs }) o → script s ss l ≡ script w us m

-- the same of modules
abbrev pub OneModuleOfTokens : Type 0
OneModuleOfTokens = (p q : Bool) (syntax : EsSyntax) (s w : Span) (ss us : Trees) (l m : Option (List ℕ)) (start : ℕ) (ps qs : List PlacedToken) (r o : Input) → InOrder start ps → SameTokens ps qs
    → Derives (es_module s ss l) (coded p (module_code syntax)) (record { last = start; places = ps }) r → Derives (es_module w us m) (coded q (module_code syntax)) (record { last = start; places = qs }) o → es_module s ss l ≡ es_module w us m
