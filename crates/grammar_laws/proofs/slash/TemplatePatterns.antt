-- Patterns: what each production consumes keeps the braces and templates that are open.
use Rattle.std.proofs.Common.{◌≡◌, Bool, true, false, List, ◌∷◌, refl, arith}
use Rattle.base_token.specs.declared.place.Span.{Span}
use Rattle.base_token.specs.Kinds.{dot_dot_dot_kind, left_bracket_kind, right_bracket_kind, right_brace_kind, colon_kind, assign_kind}
use Rattle.grammar_spec.specs.Tokens.Input.{Input, Code, with_in, assigning}
use Rattle.grammar_spec.specs.Tokens.Operators.{assignment_level}
use Rattle.grammar_spec.specs.Tokens.Shape.{is_absent, is_key, is_bound_name, is_pattern_prop}
use Rattle.grammar_spec.specs.Children.{Child}
use Rattle.grammar_spec.specs.Patterns.{Item, ArrayPattern, Property, ObjectPattern, Initialised, Rest, KeyedItem, NamedItem}
use Rattle.grammar_laws.specs.Slash.TemplateLaws.{Outside}
use Rattle.grammar_laws.proofs.slash.Walks.{Goes, go, stay, plain, takes, opens, closes, sorted, placed, an_item, leveled, Walked, AllWalked, either, listed}

pub item_walk : (c : Code) (pl : c.placed ≡ true) (p : Child) (pw : Walked p) (gs : List Bool) (ts r : Input) → Item c p ts r → Goes (Outside gs) (Outside gs) ts r
item_walk c pl p pw gs ts r h = pw (with_in c) pl gs ts r (an_item c.binds p.tree h.0) h.1

pub array_pattern_walk : (c : Code) (pl : c.placed ≡ true) (s : Span) (xs : List Child) (xsw : AllWalked xs) (gs : List Bool) (ts r : Input) → ArrayPattern c s xs ts r → Goes (Outside gs) (Outside gs) ts r
array_pattern_walk c pl s xs xsw gs ts r h = go _ _ _ ts h.0 r (takes c pl left_bracket_kind gs ts h.0 (plain left_bracket_kind refl refl refl refl refl refl refl) h.1) (listed true (Item c) c pl right_bracket_kind gs gs (λ y z j9. takes c pl right_bracket_kind gs y z (plain right_bracket_kind refl refl refl refl refl refl refl) j9) (λ x y z v j9. item_walk c pl x v gs y z j9) xs xsw h.0 r h.2)

pub property_walk : (c : Code) (pl : c.placed ≡ true) (p : Child) (pw : Walked p) (gs : List Bool) (ts r : Input) → Property c p ts r → Goes (Outside gs) (Outside gs) ts r
property_walk c pl p pw gs ts r h = pw (with_in c) pl gs ts r (sorted is_pattern_prop (λ s t w u. refl) (λ e. refl) p.tree h.0) h.2

pub object_pattern_walk : (c : Code) (pl : c.placed ≡ true) (s : Span) (ps : List Child) (psw : AllWalked ps) (gs : List Bool) (ts r : Input) → ObjectPattern c s ps ts r → Goes (Outside gs) (Outside gs) ts r
object_pattern_walk c pl s ps psw gs ts r h = go _ _ _ ts h.0 r (opens c pl gs ts h.0 h.1) (listed false (Property c) c pl right_brace_kind (false ∷ gs) gs (λ y z j9. closes c pl gs y z j9) (λ x y z v j9. property_walk c pl x v (false ∷ gs) y z j9) ps psw h.0 r h.2)

pub initialised_walk : (c : Code) (pl : c.placed ≡ true) (s : Span) (p : Child) (pw : Walked p) (e : Child) (ew : Walked e) (gs : List Bool) (ts r : Input) → Initialised c s p e ts r → Goes (Outside gs) (Outside gs) ts r
initialised_walk c pl s p pw e ew gs ts r h = go _ _ _ ts h.0 r (pw c pl gs ts h.0 (placed c.binds p.tree h.2) h.3) (go _ _ _ h.0 h.1 r (takes c pl assign_kind gs h.0 h.1 (plain assign_kind refl refl refl refl refl refl refl) h.4) (ew (assigning (with_in c)) pl gs h.1 r (leveled assignment_level e.tree (omega arith) h.5.0) h.5.1))

pub rest_walk : (c : Code) (pl : c.placed ≡ true) (s : Span) (dots : Span) (p : Child) (pw : Walked p) (gs : List Bool) (ts r : Input) → Rest c s dots p ts r → Goes (Outside gs) (Outside gs) ts r
rest_walk c pl s dots p pw gs ts r h = go _ _ _ ts h.0 r (takes c pl dot_dot_dot_kind gs ts h.0 (plain dot_dot_dot_kind refl refl refl refl refl refl refl) h.1) (pw c pl gs h.0 r (placed c.binds p.tree h.3) h.4)

pub keyed_item_walk : (c : Code) (pl : c.placed ≡ true) (s : Span) (k : Child) (kw : Walked k) (p : Child) (pw : Walked p) (gs : List Bool) (ts r : Input) → KeyedItem c s k p ts r → Goes (Outside gs) (Outside gs) ts r
keyed_item_walk c pl s k kw p pw gs ts r h = go _ _ _ ts h.0 r (kw (assigning c) pl gs ts h.0 (sorted is_key (λ s t w u. refl) (λ e. refl) k.tree h.2.0) h.2.1) (go _ _ _ h.0 h.1 r (takes c pl colon_kind gs h.0 h.1 (plain colon_kind refl refl refl refl refl refl refl) h.3) (item_walk c pl p pw gs h.1 r h.4))

pub named_item_walk : (c : Code) (pl : c.placed ≡ true) (s : Span) (name : Child) (namew : Walked name) (e : Child) (ew : Walked e) (gs : List Bool) (ts r : Input) → NamedItem c s name e ts r → Goes (Outside gs) (Outside gs) ts r
named_item_walk c pl s name namew e ew gs ts r h = go _ _ _ ts h.0 r (namew c pl gs ts h.0 (sorted is_bound_name (λ s t w u. refl) (λ e. refl) name.tree h.1.0) h.1.1) (either (is_absent e.tree) _ _ h.0 r h.2 (λ e1 j1. stay _ h.0 r j1) (λ j1. go _ _ _ h.0 j1.0 r (takes c pl assign_kind gs h.0 j1.0 (plain assign_kind refl refl refl refl refl refl refl) j1.1) (ew (assigning (with_in c)) pl gs j1.0 r (leveled assignment_level e.tree (omega arith) j1.2.0) j1.2.1)))
