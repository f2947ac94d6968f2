-- Patterns: the names of what a production consumes are among its tokens.
use Rattle.std.proofs.Common.{true, false, List, ◌∷◌, ◌++◌}
use Rattle.base_token.specs.Kinds.{right_brace_kind, right_bracket_kind}
use Rattle.base_token.specs.declared.place.Span.{Span}
use Rattle.tree_program_spec.specs.Names.Names.{Identifier, identifiers}
use Rattle.grammar_spec.specs.Tokens.Input.{Code, Input, assigning, with_in}
use Rattle.grammar_spec.specs.Children.{Child}
use Rattle.grammar_spec.specs.Patterns.{ArrayPattern, Initialised, Item, KeyedItem, NamedItem, ObjectPattern, Property, Rest, Target}
use Rattle.again_laws.proofs.names.Sits.{AllKnown, Known, Parts, each, go, listed, optional, skip, stay}

pub target_names : {ts r z : Input} {iss : List (List Identifier)} (c : Code) → (e : Child) → Known e → Target c e ts r → Parts iss r z → Parts (identifiers e.tree ∷ iss) ts z
target_names {ts} {r} c e ew h g = go (ew c ts r h.1) g

pub array_pattern_names : {ts r z : Input} {iss : List (List Identifier)} (c : Code) (s : Span) → (xs : List Child) → AllKnown xs → ArrayPattern c s xs ts r → Parts iss r z → Parts (each xs ++ iss) ts z
array_pattern_names c s xs xsw h g = skip h.1.2 (listed (Item c) (λ x k y z j. k (with_in c) y z j.1) true c right_bracket_kind xs xsw h.0 h.2 g)

pub object_pattern_names : {ts r z : Input} {iss : List (List Identifier)} (c : Code) (s : Span) → (ps : List Child) → AllKnown ps → ObjectPattern c s ps ts r → Parts iss r z → Parts (each ps ++ iss) ts z
object_pattern_names c s ps psw h g = skip h.1.2 (listed (Property c) (λ x k y z j. k (with_in c) y z j.2) false c right_brace_kind ps psw h.0 h.2 g)

pub initialised_names : {ts r z : Input} {iss : List (List Identifier)} (c : Code) (s : Span) → (p : Child) → Known p → (e : Child) → Known e → Initialised c s p e ts r → Parts iss r z → Parts (identifiers p.tree ∷ (identifiers e.tree ∷ iss)) ts z
initialised_names {ts} {r} c s p pw e ew h g = go (pw c ts h.0 h.3) (skip h.4.2 (go (ew (assigning (with_in c)) h.1 r h.5.1) g))

pub rest_names : {ts r z : Input} {iss : List (List Identifier)} (c : Code) (s : Span) (dots : Span) → (p : Child) → Known p → Rest c s dots p ts r → Parts iss r z → Parts (identifiers p.tree ∷ iss) ts z
rest_names {ts} {r} c s dots p pw h g = skip h.1.2 (go (pw c h.0 r h.4) g)

pub keyed_item_names : {ts r z : Input} {iss : List (List Identifier)} (c : Code) (s : Span) → (k : Child) → Known k → (p : Child) → Known p → KeyedItem c s k p ts r → Parts iss r z → Parts (identifiers k.tree ∷ (identifiers p.tree ∷ iss)) ts z
keyed_item_names {ts} {r} c s k kw p pw h g = go (kw (assigning c) ts h.0 h.2.1) (skip h.3.2 (go (pw (with_in c) h.1 r h.4.1) g))

pub named_item_names : {ts r z : Input} {iss : List (List Identifier)} (c : Code) (s : Span) → (name : Child) → Known name → (e : Child) → Known e → NamedItem c s name e ts r → Parts iss r z → Parts (identifiers name.tree ∷ (identifiers e.tree ∷ iss)) ts z
named_item_names {ts} {r} c s name namew e ew h g = go (namew c ts h.0 h.1.1) (optional e.tree h.2 (λ k1. (stay k1 g)) (λ k2. (skip k2.1.2 (go (ew (assigning (with_in c)) k2.0 r k2.2.1) g))))
