-- The laws: places for what is read, and at most one tree of the same tokens.
use Rattle.std.proofs.Common.{◌≡◌, ℕ, Bool, true, false, List, [], ◌∷◌, refl, sym, ap, ◌∙◌, subst}
use Rattle.base_token.specs.declared.context.Context.{Context}
use Rattle.base_token.specs.Tokens.{Spot}
use Rattle.tree_spec.specs.Tree.{Tree, script, es_module}
use Rattle.grammar_spec.specs.Tokens.Input.{PlacedToken, Input, Code, div_goal, no_context, script_code, module_code}
use Rattle.grammar_spec.specs.Grammar.{Produces, Derives}
use Rattle.grammar_laws.specs.CompleteBase.Laws.{coded, InOrder}
use Rattle.grammar_laws.specs.Laws.{tokens}
use Rattle.grammar_laws.proofs.SoundLemmas.{lists_sound}
use Rattle.grammar_laws.proofs.complete.WholeLemmas.{one_script, one_module}
use Rattle.grammar_laws.specs.Context.Laws.{SameToken, SameTokens, placing, DerivesPlaced, HasPlaces, ReadHasPlaces, OneScriptOfTokens, OneModuleOfTokens}
use Rattle.grammar_laws.proofs.context.Like.{Bare, Worn, dressed}
use Rattle.grammar_laws.proofs.context.Placed.{move}

-- ---- places for what is derived

own : (xs : List PlacedToken) → Worn true xs xs
own [] = tt
own (x ∷ xs) = ((refl, refl), tt, own xs)

worn_same : (b : Bool) (xs ys : List PlacedToken) → Worn b xs ys → SameTokens xs ys
worn_same b [] [] w = tt
worn_same b [] (y ∷ ys) w = w
worn_same b (x ∷ xs) [] w = w
worn_same b (x ∷ xs) (y ∷ ys) w = (w.0, worn_same b xs ys w.2)

pub has_places : HasPlaces
unfolding dressed
has_places c t ts r h = let z = move true (dressed true) t c ts r r h (record { last = refl; worn = own r.places }) in
    (z.0.places, worn_same true ts.places z.0.places z.1.worn, subst (λ (n : ℕ). Produces t (placing true c) (record { last = n; places = z.0.places }) r) (sym z.1.last) z.2)

placed_by : (c : Code) (t : Tree) (start : ℕ) (places : List PlacedToken) (r : Input) → Derives t c (record { last = start; places = places }) r → DerivesPlaced t c start places
placed_by c t start places r d = let z = has_places c t (record { last = start; places = places }) r d.0 in (z.0, r, z.1, (z.2, d.1))

pub read_has_places : ReadHasPlaces
read_has_places depth true syntax start places t e = let z = lists_sound depth true syntax start places t e in placed_by (tokens (module_code syntax)) t start places z.0 z.1
read_has_places depth false syntax start places t e = let z = lists_sound depth false syntax start places t e in placed_by (tokens (script_code syntax)) t start places z.0 z.1

-- ---- tokens without goals and contexts

abbrev pub bare : PlacedToken → PlacedToken
bare x = record x { goal = div_goal; context = no_context }

abbrev pub bared : List PlacedToken → List PlacedToken
bared [] = []
bared (x ∷ xs) = bare x ∷ bared xs

abbrev placed_so : Spot → Bool → ℕ → Context → PlacedToken
placed_so s e g d = record { spot = s; escaped = e; goal = g; context = d }

bare_is : (x y : PlacedToken) → SameToken x y → Bare false y → bare x ≡ y
bare_is x y h b = ap (λ (s : Spot). placed_so s x.escaped div_goal no_context) h.0 ∙ (ap (λ (e : Bool). placed_so y.spot e div_goal no_context) h.1
    ∙ (ap (λ (g : ℕ). placed_so y.spot y.escaped g no_context) (sym b.0) ∙ ap (λ (d : Context). placed_so y.spot y.escaped y.goal d) (sym b.1)))

bared_is : (xs ys : List PlacedToken) → Worn false xs ys → bared xs ≡ ys
bared_is [] [] w = refl
bared_is [] (y ∷ ys) w = absurd w
bared_is (x ∷ xs) [] w = absurd w
bared_is (x ∷ xs) (y ∷ ys) w = ap (λ (z : PlacedToken). z ∷ bared xs) (bare_is x y w.0 w.1) ∙ ap (λ (zs : List PlacedToken). y ∷ zs) (bared_is xs ys w.2)

bared_worn : (xs : List PlacedToken) → Worn false xs (bared xs)
bared_worn [] = tt
bared_worn (x ∷ xs) = ((refl, refl), (refl, refl), bared_worn xs)

pub bare_same : (x y : PlacedToken) → SameToken x y → bare x ≡ bare y
bare_same x y h = ap (λ (s : Spot). placed_so s x.escaped div_goal no_context) h.0 ∙ ap (λ (e : Bool). placed_so y.spot e div_goal no_context) h.1

bared_same : (xs ys : List PlacedToken) → SameTokens xs ys → bared xs ≡ bared ys
bared_same [] [] w = refl
bared_same [] (y ∷ ys) w = absurd w
bared_same (x ∷ xs) [] w = absurd w
bared_same (x ∷ xs) (y ∷ ys) w = ap (λ (z : PlacedToken). z ∷ bared xs) (bare_same x y w.0) ∙ ap (λ (zs : List PlacedToken). bare y ∷ zs) (bared_same xs ys w.1)

pub bared_order : (n : ℕ) (xs : List PlacedToken) → InOrder n xs → InOrder n (bared xs)
bared_order n [] h = tt
bared_order n (x ∷ xs) h = (h.0, h.1, h.2, bared_order x.spot.hi xs h.3)

-- what is derived is derived of its tokens without goals and contexts
pub strip : (c : Code) (t : Tree) (start : ℕ) (ps : List PlacedToken) (r : Input) → Derives t c (record { last = start; places = ps }) r → (o : Input) × Derives t (placing false c) (record { last = start; places = bared ps }) o
unfolding dressed
strip c t start ps r d = let o : Input = record { last = r.last; places = bared r.places } in
    let z = move false (dressed false) t c (record { last = start; places = ps }) r o d.0 (record { last = refl; worn = bared_worn r.places }) in
    let f = subst (λ (n : ℕ). Produces t (placing false c) (record { last = n; places = z.0.places }) o) (sym z.1.last) z.2 in
    (o, (subst (λ (xs : List PlacedToken). Produces t (placing false c) (record { last = start; places = xs }) o) (sym (bared_is ps z.0.places z.1.worn)) f, d.1))

-- ---- one tree

pub one_script_of_tokens : OneScriptOfTokens
one_script_of_tokens p q syntax s w ss us l m start ps qs r o i h d e =
    let x = strip (coded p (script_code syntax)) (script s ss l) start ps r d in
    let y = strip (coded q (script_code syntax)) (script w us m) start qs o e in
    one_script false false syntax s w ss us l m start (bared ps) x.0 y.0 (bared_order start ps i) x.1
    (subst (λ (xs : List PlacedToken). Derives (script w us m) (coded false (script_code syntax)) (record { last = start; places = xs }) y.0) (sym (bared_same ps qs h)) y.1)

pub one_module_of_tokens : OneModuleOfTokens
one_module_of_tokens p q syntax s w ss us l m start ps qs r o i h d e =
    let x = strip (coded p (module_code syntax)) (es_module s ss l) start ps r d in
    let y = strip (coded q (module_code syntax)) (es_module w us m) start qs o e in
    one_module false false syntax s w ss us l m start (bared ps) x.0 y.0 (bared_order start ps i) x.1
    (subst (λ (xs : List PlacedToken). Derives (es_module w us m) (coded false (module_code syntax)) (record { last = start; places = xs }) y.0) (sym (bared_same ps qs h)) y.1)
