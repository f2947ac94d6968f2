-- Lists by what was added last.
use Rattle.std.proofs.Common.{◌≡◌, ℕ, zero, suc, ◌||◌, List, [], ◌∷◌, ◌++◌, All, map, refl, sym, ap, arith, ◌∙◌}
use Rattle.std.proofs.Math.Bool.{or-false, or_assoc}
use Rattle.tree_spec.specs.Tree.{Tree, if_stmt}
use Rattle.grammar_spec.specs.Tokens.Input.{span}
use Rattle.grammar_spec.specs.Tokens.Shape.{is_default_case}
use Rattle.grammar_spec.specs.Reader.Source.{Stream, Inner}
use Rattle.grammar_spec.specs.Reader.Statements.{Branch, chained, has_default}
use Rattle.parse_statements.specs.Lists.{any_default}

pub any_more : {A : Type 0} (f : A → Tree) (xs : List A) (y : A) → any_default (map f (xs ++ y ∷ [])) ≡ (any_default (map f xs) || is_default_case (f y))
any_more f [] y = or-false (is_default_case (f y))
any_more f (x ∷ xs) y = ap (λ b. is_default_case (f x) || b) (any_more f xs y) ∙ sym (or_assoc (is_default_case (f x)) (any_default (map f xs)) (is_default_case (f y)))

pub has_any : {S : Type 0} (m : Stream S) (inner : Inner S) (ts : List Tree) → has_default m inner ts ≡ any_default ts
has_any m inner [] = refl
has_any m inner (t ∷ ts) = ap (λ b. is_default_case t || b) (has_any m inner ts)

pub ruleset default_more = (any_more, has_any)

-- the last branch is the innermost
pub chained_more : {A : Type 0} (f : A → Branch) (hi : ℕ) (bs : List A) (b : A) (t : Tree)
    → chained hi (map f (bs ++ b ∷ [])) t ≡ chained hi (map f bs) (if_stmt (span (f b).start hi) (f b).test (f b).consequent t)
chained_more f hi [] b t = refl
chained_more f hi (a ∷ bs) b t = ap (λ u. if_stmt (span (f a).start hi) (f a).test (f a).consequent u) (chained_more f hi bs b t)

-- what holds of each element holds of each but the last
front : {A : Type 0} (P : A → Type 0) (xs : List A) (y : A) → All P (xs ++ y ∷ []) → All P xs
front P [] y all k d lt = absurd (omega arith)
front P (x ∷ xs) y all zero d lt = all zero d (omega arith)
front P (x ∷ xs) y all (suc k) d lt = front P xs y (λ i e l. all (suc i) e (omega (arith, l))) k d (omega (arith, lt))

pub front_holds : {A : Type 0} (P : A → Type 0) (xs ys : List A) (y : A) → xs ≡ ys ++ y ∷ [] → All P xs → All P ys
front_holds P xs ys y items all = front P ys y (rw (sym items) all)

-- the last branch is taken away, and stands in what was made
pub chained_pop : {A : Type 0} (f : A → Branch) (hi : ℕ) (bs cs : List A) (b : A) (t u : Tree) → bs ≡ cs ++ b ∷ []
    → u ≡ if_stmt (span (f b).start hi) (f b).test (f b).consequent t → chained hi (map f bs) t ≡ chained hi (map f cs) u
chained_pop f hi bs cs b t u items made = rw (items, made) (chained_more f hi cs b t)
