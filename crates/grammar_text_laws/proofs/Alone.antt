-- At most one tree reads a text, unless tokens part at a regular expression or a template.
use Rattle.std.proofs.Common.{◌≡◌, ℕ, zero, suc, ◌+◌, ◌≤◌, ◌⊎◌, inl, inr, Bool, true, false, nat_le, eqb, if◌then◌else◌, List, [], ◌∷◌, refl, sym, ap, ◌∙◌, subst, true≢false, arith}
use Rattle.std.proofs.lemmas.Bool.{eqb-true, eqb-false, cases_Bool}
use Rattle.base_token.specs.declared.syntax.EsSyntax.{EsSyntax}
use Rattle.base_token.specs.Kinds.{regex_kind}
use Rattle.base_token.specs.Tokens.{Spot}
use Rattle.tree_spec.specs.Tree.{Tree, script, es_module}
use Rattle.lex_pieces.specs.Places.{bytes}
use Rattle.lex_pieces.specs.declared.trivia.Goal.{Goal}
use Rattle.lex_token.specs.declared.goal.LexicalGoal.{LexicalGoal}
use Rattle.lex_token.specs.declared.goal.LexicalGoal.TheVariants.{Div, RegExp}
use Rattle.lex_token.specs.Lexemes.{SpecLexeme, IsLexeme}
use Rattle.lex_token.proofs.LexemeLemmas.{none_at_end, one_lexeme}
use Rattle.lex_step_laws.specs.States.{shebang}
use Rattle.lex_step_laws.proofs.TriviaLemmas.{one_hashbang, one_skipped}
use Rattle.grammar_spec.specs.Tokens.Input.{PlacedToken, Input, template_goal}
use Rattle.grammar_spec.specs.Grammar.{Derives}
use Rattle.grammar_laws.specs.CompleteBase.Laws.{InOrder}
use Rattle.grammar_laws.specs.Context.Laws.{SameToken, SameTokens}
use Rattle.grammar_laws.proofs.context.PlacedLemmas.{one_script_of_tokens, one_module_of_tokens}
use Rattle.grammar_text_spec.specs.Text.{is_of_goal, text_start, code_of}
use Rattle.grammar_text_spec.specs.Tiled.{goal_at, whole, IsBeforeBy, IsBefore, IsTile, AreTiles, IsHashbangTile, AfterHashbang}
use Rattle.grammar_text_laws.specs.Laws.{region_of, region, Part, TilesPart, OneTree, Plain, OnePlainTree}
use Rattle.grammar_text_laws.proofs.Ordered.{places_in_order}
use Rattle.grammar_text_laws.proofs.Apart.{one_before, spots_same}

-- ---- one token

-- what stands before a token, the token and the rest are the same
abbrev Alike : Bool → Bool → List ℕ → List ℕ → SpecLexeme → SpecLexeme → List ℕ → List ℕ → Type 0
Alike a b f e x y r s = (a ≡ b) × (f ≡ e) × (x ≡ y) × (r ≡ s)

-- under one goal
under : (l : LexicalGoal) (a b : Bool) (f e : List ℕ) (x y : SpecLexeme) (r s : List ℕ) → (a ≡ b) × (f ≡ e) → IsLexeme l f x r → IsLexeme l e y s → Alike a b f e x y r s
under l a b f e x y r s k h g = let z = one_lexeme l e x y r s (subst (λ (t : List ℕ). IsLexeme l t x r) k.1 h) g in (k.0, k.1, z.0, z.1)

-- What is no regular expression is the same under the goals of operators and of operands.
as_operator : (text : List ℕ) (x : SpecLexeme) (rest : List ℕ) → eqb x.token.kind regex_kind ≡ false → IsLexeme RegExp text x rest → IsLexeme Div text x rest
as_operator text x rest k (inl h) = inl h
as_operator text x rest k (inr (inl h)) = absurd (eqb-false x.token.kind regex_kind k (ap (λ (y : SpecLexeme). y.token.kind) h.1.3))
as_operator text x rest k (inr (inr h)) = inr (inr (refl, h.1))

no_regexp : (b : Bool) → ◌≡◌ {A = ℕ} 0 (if b then 1 else 0) → b ≡ false
no_regexp true h = absurd (omega (arith, h))
no_regexp false h = refl

few : (b : Bool) → (if b then 1 else 0) ≤ 1
few true = omega arith
few false = omega arith

one_at : (g h : ℕ) (goal : Goal) (first : Bool) (text : List ℕ) (a b : Bool) (f e : List ℕ) (x y : SpecLexeme) (r s : List ℕ) → region_of g x.token.kind ≡ region_of h y.token.kind
    → IsBefore g goal first text a f → IsBefore h goal first text b e → IsLexeme (goal_at g) f x r → IsLexeme (goal_at h) e y s → Alike a b f e x y r s
one_at zero zero goal first text a b f e x y r s q i j k l = under Div a b f e x y r s (one_skipped goal first text a b f e i j) k l
one_at zero (suc zero) goal first text a b f e x y r s q i j k l = under Div a b f e x y r s (one_skipped goal first text a b f e i j) k (as_operator e y s (no_regexp (eqb y.token.kind regex_kind) q) l)
one_at (suc zero) zero goal first text a b f e x y r s q i j k l = under Div a b f e x y r s (one_skipped goal first text a b f e i j) (as_operator f x r (no_regexp (eqb x.token.kind regex_kind) (sym q)) k) l
one_at (suc zero) (suc zero) goal first text a b f e x y r s q i j k l = under RegExp a b f e x y r s (one_skipped goal first text a b f e i j) k l
one_at zero (suc (suc m)) goal first text a b f e x y r s q i j k l = absurd (omega (arith, q))
one_at (suc zero) (suc (suc m)) goal first text a b f e x y r s q i j k l = absurd (omega (arith, q, few (eqb x.token.kind regex_kind)))
one_at (suc (suc n)) zero goal first text a b f e x y r s q i j k l = absurd (omega (arith, q))
one_at (suc (suc n)) (suc zero) goal first text a b f e x y r s q i j k l = absurd (omega (arith, q, few (eqb y.token.kind regex_kind)))
one_at (suc (suc n)) (suc (suc m)) goal first text a b f e x y r s q i j k l = let d = suc (suc m) in
    under (goal_at d) a b f e x y r s (one_before (nat_le template_goal d) goal first text a b f e (subst (λ (c : ℕ). IsBefore c goal first text a f) q i) j) (subst (λ (c : ℕ). IsLexeme (goal_at c) f x r) q k) l

-- ---- all tokens

one_tile : (end : ℕ) (goal : Goal) (first : Bool) (text : List ℕ) (p q : PlacedToken) (r s : List ℕ) → region p ≡ region q → IsTile end goal first text p r → IsTile end goal first text q s → SameToken p q × (r ≡ s)
one_tile end goal first text p q r s e h g =
    let i = ap (λ (z : Spot). region_of p.goal z.token.kind) h.5 in
    let j = ap (λ (z : Spot). region_of q.goal z.token.kind) g.5 in
    let k = one_at p.goal q.goal goal first text h.0 g.0 h.1 g.1 h.2 g.2 r s (sym i ∙ e ∙ j) h.3 g.3 h.4 g.4 in
    let o = spots_same end h.0 g.0 h.2.token g.2.token h.1 g.1 r s k.0 k.1 (ap (λ (z : SpecLexeme). z.token) k.2) k.3 in
    ((h.5 ∙ o ∙ sym g.5, h.6 ∙ ap (λ (z : SpecLexeme). z.escaped) k.2 ∙ sym g.6), k.3)

-- where one list ends, the other has a part of a template
ended_at : (n k : ℕ) (goal : Goal) (first : Bool) (text : List ℕ) (a b : Bool) (f : List ℕ) (x : SpecLexeme) (r : List ℕ) → IsBeforeBy false goal first text a []
    → IsBefore n goal first text b f → IsLexeme (goal_at n) f x r → 2 ≤ region_of n k
ended_at zero k goal first text a b f x r h i l = absurd (none_at_end Div f (sym (one_skipped goal first text a b [] f h i).1) x r l)
ended_at (suc zero) k goal first text a b f x r h i l = absurd (none_at_end RegExp f (sym (one_skipped goal first text a b [] f h i).1) x r l)
ended_at (suc (suc n)) k goal first text a b f x r h i l = omega arith

more : (x y : PlacedToken) (xs ys : List PlacedToken) → SameToken x y → SameTokens xs ys ⊎ Part xs ys → SameTokens (x ∷ xs) (y ∷ ys) ⊎ Part (x ∷ xs) (y ∷ ys)
more x y xs ys e (inl h) = inl (e, h)
more x y xs ys e (inr h) = inr (inr (e, h))

tiles : (ps qs : List PlacedToken) (end : ℕ) (goal : Goal) (first : Bool) (text : List ℕ) → AreTiles end goal first text ps → AreTiles end goal first text qs → SameTokens ps qs ⊎ Part ps qs
tiles [] [] end goal first text h g = inl tt
tiles [] (y ∷ ys) end goal first text h g = let t = g.1 in inr (ended_at y.goal y.spot.token.kind goal first text h.0 t.0 t.1 t.2 g.0 h.1 t.3 t.4)
tiles (x ∷ xs) [] end goal first text h g = let t = h.1 in inr (ended_at x.goal x.spot.token.kind goal first text g.0 t.0 t.1 t.2 h.0 g.1 t.3 t.4)
tiles (x ∷ xs) (y ∷ ys) end goal first text h g = parted (cases_Bool (eqb (region x) (region y))) (λ k. tiles xs ys end goal false g.0 k g.2)
  where
    parted : (eqb (region x) (region y) ≡ true) ⊎ (eqb (region x) (region y) ≡ false) → (AreTiles end goal false g.0 xs → SameTokens xs ys ⊎ Part xs ys) → SameTokens (x ∷ xs) (y ∷ ys) ⊎ Part (x ∷ xs) (y ∷ ys)
    parted (inl e) go = let z = one_tile end goal first text x y h.0 g.0 (eqb-true (region x) (region y) e) h.1 g.1 in
        more x y xs ys z.0 (go (subst (λ (t : List ℕ). AreTiles end goal false t xs) z.1 h.2))
    parted (inr e) go = inr (inl (eqb-false (region x) (region y) e))

one_hashbang_tile : (end : ℕ) (text : List ℕ) (p q : PlacedToken) (r s : List ℕ) → IsHashbangTile end text p r → IsHashbangTile end text q s → SameToken p q × (r ≡ s)
one_hashbang_tile end text p q r s h g = let k = one_hashbang text h.0 g.0 r s h.1 g.1 in
    let o = spots_same end false false (shebang h.0).token (shebang g.0).token text text r s refl refl (ap (λ (z : List ℕ). (shebang z).token) k.0) k.1 in
    ((h.2 ∙ o ∙ sym g.2, h.3 ∙ sym g.3), k.1)

after_hashbangs : (ps qs : List PlacedToken) (end : ℕ) (goal : Goal) (text : List ℕ) → AfterHashbang end goal text ps → AfterHashbang end goal text qs → SameTokens ps qs ⊎ Part ps qs
after_hashbangs [] qs end goal text h g = absurd h
after_hashbangs (x ∷ xs) [] end goal text h g = absurd g
after_hashbangs (x ∷ xs) (y ∷ ys) end goal text h g = let z = one_hashbang_tile end text x y h.0 g.0 h.1 g.1 in
    more x y xs ys z.0 (tiles xs ys end goal false g.0 (subst (λ (t : List ℕ). AreTiles end goal false t xs) z.1 h.2) g.2)

has_hashbang : (ps : List PlacedToken) (end : ℕ) (goal : Goal) (text : List ℕ) → AfterHashbang end goal text ps → (own rest : List ℕ) × (inner : List ℕ) × (text ≡ 35 ∷ 33 ∷ inner)
has_hashbang [] end goal text h = absurd h
has_hashbang (x ∷ xs) end goal text h = (h.1.0, h.0, h.1.1.0, h.1.1.1)

pub tiles_part : TilesPart
tiles_part start modules text ps qs (inl h) (inl g) = tiles ps qs (start + bytes text) (whole modules) true text h.1 g.1
tiles_part start modules text ps qs (inl h) (inr g) = let z = has_hashbang qs (start + bytes text) (whole modules) text g in absurd (h.0 z.2 z.3)
tiles_part start modules text ps qs (inr h) (inl g) = let z = has_hashbang ps (start + bytes text) (whole modules) text h in absurd (g.0 z.2 z.3)
tiles_part start modules text ps qs (inr h) (inr g) = after_hashbangs ps qs (start + bytes text) (whole modules) text h g

-- ---- one tree

abbrev Derived : Bool → EsSyntax → Tree → List PlacedToken → Input → Type 0
Derived modules syntax t ps end = Derives t (code_of modules syntax) (record { last = text_start; places = ps }) end

one_script_tree : (syntax : EsSyntax) (t u : Tree) (ps qs : List PlacedToken) (r o : Input) → is_of_goal false t ≡ true → is_of_goal false u ≡ true → InOrder text_start ps → SameTokens ps qs → Derived false syntax t ps r → Derived false syntax u qs o → t ≡ u
one_script_tree syntax (script s ss l) (script w us m) ps qs r o i j k e h g = one_script_of_tokens true true syntax s w ss us l m text_start ps qs r o k e h g
one_script_tree syntax (script s ss l) _ ps qs r o i j k e h g = absurd (true≢false (sym j))
one_script_tree syntax _ u ps qs r o i j k e h g = absurd (true≢false (sym i))

one_module_tree : (syntax : EsSyntax) (t u : Tree) (ps qs : List PlacedToken) (r o : Input) → is_of_goal true t ≡ true → is_of_goal true u ≡ true → InOrder text_start ps → SameTokens ps qs → Derived true syntax t ps r → Derived true syntax u qs o → t ≡ u
one_module_tree syntax (es_module s ss l) (es_module w us m) ps qs r o i j k e h g = one_module_of_tokens true true syntax s w ss us l m text_start ps qs r o k e h g
one_module_tree syntax (es_module s ss l) _ ps qs r o i j k e h g = absurd (true≢false (sym j))
one_module_tree syntax _ u ps qs r o i j k e h g = absurd (true≢false (sym i))

one_by : (modules : Bool) (syntax : EsSyntax) (t u : Tree) (ps qs : List PlacedToken) (r o : Input) → is_of_goal modules t ≡ true → is_of_goal modules u ≡ true → InOrder text_start ps → SameTokens ps qs → Derived modules syntax t ps r → Derived modules syntax u qs o → t ≡ u
one_by true syntax t u ps qs r o i j k e h g = one_module_tree syntax t u ps qs r o i j k e h g
one_by false syntax t u ps qs r o i j k e h g = one_script_tree syntax t u ps qs r o i j k e h g

pub one_tree : OneTree
one_tree modules syntax t u text h g = told (tiles_part text_start modules text h.0 g.0 h.3 g.3)
  where
    told : SameTokens h.0 g.0 ⊎ Part h.0 g.0 → (t ≡ u) ⊎ Part h.0 g.0
    told (inl e) = inl (one_by modules syntax t u h.0 g.0 h.1 g.1 h.2 g.2 (places_in_order text_start modules text h.0 h.3) e h.4 g.4)
    told (inr e) = inr e

never_part : (ps qs : List PlacedToken) → Plain ps → Plain qs → Part ps qs → ⊥
never_part [] [] h g e = e
never_part [] (y ∷ ys) h g e = omega (arith, e, g.0)
never_part (x ∷ xs) [] h g e = omega (arith, e, h.0)
never_part (x ∷ xs) (y ∷ ys) h g (inl e) = e (h.0 ∙ sym g.0)
never_part (x ∷ xs) (y ∷ ys) h g (inr e) = never_part xs ys h.1 g.1 e.1

pub one_plain_tree : OnePlainTree
one_plain_tree modules syntax t u text h g p q = told (one_tree modules syntax t u text h g)
  where
    told : (t ≡ u) ⊎ Part h.0 g.0 → t ≡ u
    told (inl e) = e
    told (inr e) = absurd (never_part h.0 g.0 p q e)
