-- What a production consumes leads from a region to one with the same braces open.
use Rattle.std.proofs.Common.{◌≡◌, ◌≤◌, if◌then◌else◌, not, ◌&&◌, Option, arith, ℕ, ◌==◌, Bool, true, false, cond, eqb, List, [], ◌∷◌, refl, sym, ap, ◌∙◌, subst, true≢false, ◌⊎◌, inl, inr}
use Rattle.std.proofs.lemmas.Bool.{eqb-true, eq-eqb, and_parts}
use Rattle.base_proofs.proofs.Bools.{and_false}
use Rattle.base_token.specs.Kinds.{error_kind, assign_kind, comma_kind, left_brace_kind, right_brace_kind, back_quote_kind, template_kind, dollar_brace_kind, semicolon_kind}
use Rattle.grammar_spec.specs.Tokens.Input.{PlacedToken, Input, Code, Takes, TakesWord, TakesAnyWord, TakesName, TakesIn, Stands, Only, usual, goal_of, kind, kind_of, rest, others, is_word, in_list, turned_strict}
use Rattle.grammar_spec.specs.Tokens.Shape.{is_absent, is_hole, is_rest, is_use_strict, is_directive, level, is_simple, is_target_expr, is_place, is_item_pat, is_target}
use Rattle.base_token.specs.declared.place.Span.{Span}
use Rattle.tree_spec.specs.Tree.{Tree, tpl_element, expr_pat}
use Rattle.grammar_spec.specs.Children.{Child, By, IsEmpty, Maybe, Listed, CommaThen, Commas, Ends, Items}
use Rattle.grammar_laws.specs.Slash.TemplateLaws.{Region, Outside, Inside, Nowhere, after, fits, over}

pub record Goes (a b : Region) (ts r : Input) : Type 0 where
  pub so : over a ts.places ≡ over b r.places

pub go : (a b d : Region) (ts m r : Input) → Goes a b ts m → Goes b d m r → Goes a d ts r
go a b d ts m r g h = record { so = g.so ∙ h.so }

pub stay : (a : Region) (ts r : Input) → ts ≡ r → Goes a a ts r
stay a ts r e = record { so = ap (λ (x : Input). over a x.places) e }

-- ---- tokens

-- a token that is no brace and no part of a template
pub record Plain (k : ℕ) : Type 0 where
  pub some : eqb k 0 ≡ false
  pub sound : eqb k error_kind ≡ false
  pub same : (s : List Bool) → after (Outside s) k ≡ Outside s

-- a kind of which a test holds that fails for those
pub plain_by : (f : ℕ → Bool) → f 0 ≡ false → f 11 ≡ false → f 12 ≡ false → f 15 ≡ false → f 16 ≡ false → f 18 ≡ false → f 28 ≡ false → (k : ℕ) → f k ≡ true → Plain k
plain_by f a b c d e g i k h = record { some = no 0 a; sound = no error_kind i; same = λ s. rw (no left_brace_kind b) (rw (no right_brace_kind c) (rw (no back_quote_kind d) (rw (no template_kind e) (rw (no dollar_brace_kind g) refl)))) }
  where
    no : (j : ℕ) → f j ≡ false → eqb k j ≡ false
    no j q = by_test (eqb k j) refl
      where
        by_test : (b : Bool) → eqb k j ≡ b → b ≡ false
        by_test true e = absurd (true≢false (sym h ∙ (ap f (eqb-true k j e) ∙ q)))
        by_test false e = refl

-- a kind that is none of those
pub plain : (k : ℕ) → eqb 0 k ≡ false → eqb 11 k ≡ false → eqb 12 k ≡ false → eqb 15 k ≡ false → eqb 16 k ≡ false → eqb 18 k ≡ false → eqb 28 k ≡ false → Plain k
plain k a b c d e g h = plain_by (λ x. x == k) a b c d e g h k (eq-eqb k k refl)

step : (a b : Region) (k : ℕ) (ts r : Input) → eqb k 0 ≡ false → after a k ≡ b → fits a k (goal_of ts.places) ≡ true → kind ts ≡ k → rest ts ≡ r → Goes a b ts r
step a b k ts r n e f i j = record { so = stepped ts.places i f ∙ ap (λ (x : Input). over b x.places) j }
  where
    stepped : (l : List PlacedToken) → kind_of l ≡ k → fits a k (goal_of l) ≡ true → over a l ≡ over b (others l)
    stepped [] i f = absurd (true≢false (subst (λ (x : ℕ). eqb x 0 ≡ false) (sym i) n))
    stepped (p ∷ l) i f = ap (λ (z : Bool). over (cond z (after a p.spot.token.kind) Nowhere) l) (subst (λ (x : ℕ). fits a x p.goal ≡ true) (sym i) f) ∙ ap (λ (x : Region). over x l) (ap (λ (x : ℕ). after a x) i ∙ e)

only : {P : Type 0} (b : Bool) → b ≡ true → Only b P → P
only true e h = h
only false e h = absurd (true≢false (sym e))

both : (a b : Bool) → a ≡ true → b ≡ false → (a && not b) ≡ true
both a b p q = rw (p, q) refl

standing : (c : Code) → c.placed ≡ true → (s : List Bool) (ts : Input) (k : ℕ) → kind ts ≡ k → eqb k error_kind ≡ false → Stands c ts → fits (Outside s) k (goal_of ts.places) ≡ true
standing c pl s ts k e n h = both (usual k (goal_of ts.places)) (k == error_kind) (subst (λ (x : ℕ). usual x (goal_of ts.places) ≡ true) e (only c.placed pl h).0) n

pub takes : (c : Code) (pl : c.placed ≡ true) (k : ℕ) (s : List Bool) (ts r : Input) → Plain k → Takes c k ts r → Goes (Outside s) (Outside s) ts r
takes c pl k s ts r p h = step (Outside s) (Outside s) k ts r p.some (p.same s) (standing c pl s ts k h.0 p.sound h.1) h.0 h.2

pub takes_word : (c : Code) (pl : c.placed ≡ true) (k : ℕ) (s : List Bool) (ts r : Input) → Plain k → TakesWord c k ts r → Goes (Outside s) (Outside s) ts r
takes_word c pl k s ts r p h = step (Outside s) (Outside s) k ts r p.some (p.same s) (standing c pl s ts k h.0 p.sound h.2) h.0 h.3

pub a_word : (k : ℕ) → is_word k ≡ true → Plain k
a_word k h = plain_by is_word refl refl refl refl refl refl refl k h

pub takes_any : (c : Code) (pl : c.placed ≡ true) (n : List ℕ) (s : List Bool) (ts r : Input) → TakesAnyWord c n ts r → Goes (Outside s) (Outside s) ts r
takes_any c pl n s ts r h = let p = a_word (kind ts) h.0 in step (Outside s) (Outside s) (kind ts) ts r p.some (p.same s) (standing c pl s ts (kind ts) refl p.sound h.2) refl h.3

pub takes_name : (c : Code) (pl : c.placed ≡ true) (n : List ℕ) (s : List Bool) (ts r : Input) → TakesName c n ts r → Goes (Outside s) (Outside s) ts r
takes_name c pl n s ts r h = let p = a_word (kind ts) h.0 in step (Outside s) (Outside s) (kind ts) ts r p.some (p.same s) (standing c pl s ts (kind ts) refl p.sound h.4) refl h.5

pub opens : (c : Code) (pl : c.placed ≡ true) (s : List Bool) (ts r : Input) → Takes c left_brace_kind ts r → Goes (Outside s) (Outside (false ∷ s)) ts r
opens c pl s ts r h = step (Outside s) (Outside (false ∷ s)) left_brace_kind ts r refl refl (standing c pl s ts left_brace_kind h.0 refl h.1) h.0 h.2

pub closes : (c : Code) (pl : c.placed ≡ true) (s : List Bool) (ts r : Input) → Takes c right_brace_kind ts r → Goes (Outside (false ∷ s)) (Outside s) ts r
closes c pl s ts r h = step (Outside (false ∷ s)) (Outside s) right_brace_kind ts r refl refl (standing c pl (false ∷ s) ts right_brace_kind h.0 refl h.1) h.0 h.2

pub quotes : (c : Code) (pl : c.placed ≡ true) (s : List Bool) (ts r : Input) → Takes c back_quote_kind ts r → Goes (Outside s) (Inside s) ts r
quotes c pl s ts r h = step (Outside s) (Inside s) back_quote_kind ts r refl refl (standing c pl s ts back_quote_kind h.0 refl h.1) h.0 h.2

pub goes_on : (c : Code) (pl : c.placed ≡ true) (s : List Bool) (ts r : Input) → Takes c right_brace_kind ts r → Goes (Outside (true ∷ s)) (Inside s) ts r
goes_on c pl s ts r h = step (Outside (true ∷ s)) (Inside s) right_brace_kind ts r refl refl (standing c pl (true ∷ s) ts right_brace_kind h.0 refl h.1) h.0 h.2

pub takes_in : (c : Code) (pl : c.placed ≡ true) (g k : ℕ) (a b : Region) (ts r : Input) → eqb k 0 ≡ false → after a k ≡ b → fits a k g ≡ true → TakesIn c g k ts r → Goes a b ts r
takes_in c pl g k a b ts r n e f h = step a b k ts r n e (subst (λ (x : ℕ). fits a k x ≡ true) (sym (only c.placed pl h.1).0) f) h.0 h.2

-- ---- forms

-- no characters of a template, nor a target that is them
abbrev pub proper : Tree → Bool
proper (tpl_element s t w u) = false
proper (expr_pat e) = proper e
proper _ = true

pub of_sort : (f : Tree → Bool) → ((s : Span) (t : Bool) (w : List ℕ) (u : Option (List ℕ)) → f (tpl_element s t w u) ≡ false) → ((e : Tree) → f (expr_pat e) ≡ true → proper e ≡ true) → (t : Tree) → f t ≡ true → proper t ≡ true
of_sort f a b (tpl_element s t w u) h = absurd (true≢false (sym h ∙ a s t w u))
of_sort f a b (expr_pat e) h = b e h
of_sort f a b _ h = refl

pub sorted : (f : Tree → Bool) → ((s : Span) (t : Bool) (w : List ℕ) (u : Option (List ℕ)) → f (tpl_element s t w u) ≡ false) → ((e : Tree) → f (expr_pat e) ≡ false) → (t : Tree) → f t ≡ true → proper t ≡ true
sorted f a b t h = of_sort f a (λ e g. absurd (true≢false (sym g ∙ b e))) t h

simple : (e : Tree) → (is_target_expr e && is_simple e) ≡ true → proper e ≡ true
simple e h = sorted is_simple (λ s t w u. refl) (λ e. refl) e (and_parts (is_target_expr e) (is_simple e) h).1

pub placed : (b : Bool) (t : Tree) → is_place b t ≡ true → proper t ≡ true
placed b t h = of_sort (is_place b) (λ s t w u. and_false (not b)) (λ e g. simple e (and_parts (not b) (is_target_expr e && is_simple e) g).1) t h

pub an_item : (b : Bool) (t : Tree) → is_item_pat b t ≡ true → proper t ≡ true
an_item b t h = of_sort (is_item_pat b) (λ s t w u. and_false (not b)) (λ e g. simple e (and_parts (not b) (is_target_expr e && is_simple e) g).1) t h

pub a_target : (op : ℕ) (t : Tree) → is_target op t ≡ true → proper t ≡ true
a_target op t h = sorted (is_target op) (λ s t w u. and_false (op == assign_kind)) (λ e. and_false (op == assign_kind)) t h

pub leveled : (l : ℕ) (t : Tree) → 1 ≤ l → l ≤ level t → proper t ≡ true
leveled l (tpl_element s t w u) h g = absurd (omega (arith, h, g))
leveled l (expr_pat e) h g = absurd (omega (arith, h, g))
leveled l _ h g = refl

-- what a part produces
abbrev pub Walked : Child → Type 0
Walked e = (c : Code) (pl : c.placed ≡ true) (s : List Bool) (ts r : Input) → proper e.tree ≡ true → e.produced c ts r → Goes (Outside s) (Outside s) ts r

abbrev pub AllWalked : List Child → Type 0
AllWalked [] = Unit {0}
AllWalked (x ∷ xs) = Walked x × AllWalked xs

pub either : {P Q : Type 0} (b : Bool) (a d : Region) (ts r : Input) → By b P Q → (b ≡ true → P → Goes a d ts r) → (Q → Goes a d ts r) → Goes a d ts r
either true a d ts r h f g = f refl h
either false a d ts r h f g = g h

by_test : {P Q : Type 0} (b : Bool) (a d : Region) (ts r : Input) → By b P Q → (P → Goes a d ts r) → (Q → Goes a d ts r) → Goes a d ts r
by_test true a d ts r h f g = f h
by_test false a d ts r h f g = g h

pub one_of : {P Q : Type 0} (a d : Region) (ts r : Input) → P ⊎ Q → (P → Goes a d ts r) → (Q → Goes a d ts r) → Goes a d ts r
one_of a d ts r (inl h) f g = f h
one_of a d ts r (inr h) f g = g h

pub maybe : (P : Code → Child → Input → Input → Type 0) (c : Code) (x : Child) (s : List Bool) (ts r : Input) → (P c x ts r → Goes (Outside s) (Outside s) ts r) → Maybe P c x ts r → Goes (Outside s) (Outside s) ts r
maybe P c x s ts r f h = either (is_absent x.tree) (Outside s) (Outside s) ts r h (λ e k. stay (Outside s) ts r k) f

pub paused : (c : Code) (pl : c.placed ≡ true) (e : ℕ) (s : List Bool) (ts r : Input) → Ends c e ts r → Goes (Outside s) (Outside s) ts r
paused c pl e s ts r h = one_of (Outside s) (Outside s) ts r h (λ g. takes c pl semicolon_kind s ts r (plain semicolon_kind refl refl refl refl refl refl refl) g) (λ g. stay (Outside s) ts r g.2)

comma : Plain comma_kind
comma = plain comma_kind refl refl refl refl refl refl refl

-- a list up to what closes it
pub listed : (holes : Bool) (P : Child → Input → Input → Type 0) (c : Code) (pl : c.placed ≡ true) (close : ℕ) (s t : List Bool) → ((ts r : Input) → Takes c close ts r → Goes (Outside s) (Outside t) ts r)
    → ((x : Child) (ts r : Input) → Walked x → P x ts r → Goes (Outside s) (Outside s) ts r) → (xs : List Child) → AllWalked xs → (ts r : Input) → Listed holes P c close xs ts r → Goes (Outside s) (Outside t) ts r
listed holes P c pl close s t shut f [] w ts r h = shut ts r h
listed holes P c pl close s t shut f (x ∷ xs) w ts r h = by_test (holes && is_hole x.tree) (Outside s) (Outside t) ts r h
    (λ (g : (m : Input) × Takes c comma_kind ts m × Listed holes P c close xs m r). go _ _ _ ts g.0 r (takes c pl comma_kind s ts g.0 comma g.1) (listed holes P c pl close s t shut f xs w.1 g.0 r g.2))
    (λ (g : (m : Input) × P x ts m × (((is_rest x.tree ≡ false) × (n : Input) × Takes c comma_kind m n × Listed holes P c close xs n r) ⊎ (IsEmpty xs × Takes c close m r))). go _ _ _ ts g.0 r (f x ts g.0 w.0 g.1) (one_of (Outside s) (Outside t) g.0 r g.2
    (λ k. go _ _ _ g.0 k.1 r (takes c pl comma_kind s g.0 k.1 comma k.2) (listed holes P c pl close s t shut f xs w.1 k.1 r k.3)) (λ k. shut g.0 r k.1)))

pub comma_then : (P : Child → Input → Input → Type 0) (c : Code) (pl : c.placed ≡ true) (s : List Bool) → ((x : Child) (ts r : Input) → Walked x → P x ts r → Goes (Outside s) (Outside s) ts r)
    → (xs : List Child) → AllWalked xs → (ts r : Input) → CommaThen P c xs ts r → Goes (Outside s) (Outside s) ts r
comma_then P c pl s f [] w ts r h = stay (Outside s) ts r h
comma_then P c pl s f (x ∷ xs) w ts r h = go _ _ _ ts h.0 r (takes c pl comma_kind s ts h.0 comma h.2) (go _ _ _ h.0 h.1 r (f x h.0 h.1 w.0 h.3) (comma_then P c pl s f xs w.1 h.1 r h.4))

pub commas : (P : Child → Input → Input → Type 0) (c : Code) (pl : c.placed ≡ true) (s : List Bool) → ((x : Child) (ts r : Input) → Walked x → P x ts r → Goes (Outside s) (Outside s) ts r)
    → (xs : List Child) → AllWalked xs → (ts r : Input) → Commas P c xs ts r → Goes (Outside s) (Outside s) ts r
commas P c pl s f [] w ts r h = absurd h
commas P c pl s f (x ∷ xs) w ts r h = go _ _ _ ts h.0 r (f x ts h.0 w.0 h.1) (comma_then P c pl s f xs w.1 h.0 r h.2)

strict_placed : (b : Bool) (c : Code) → c.placed ≡ true → (if b then turned_strict c else c).placed ≡ true
strict_placed true c pl = pl
strict_placed false c pl = pl

-- statements up to what closes them
pub items : (may : Tree → Bool) (close : Code → Input → Input → Type 0) (s t : List Bool) → ((c : Code) (pl : c.placed ≡ true) (ts r : Input) → close c ts r → Goes (Outside s) (Outside t) ts r)
    → ((t : Tree) → may t ≡ true → proper t ≡ true) → (c : Code) (pl : c.placed ≡ true) (starts : Bool) (xs : List Child) → AllWalked xs → (ts r : Input) → Items may close c starts xs ts r → Goes (Outside s) (Outside t) ts r
items may close s t shut sort c pl starts [] w ts r h = shut c pl ts r h
items may close s t shut sort c pl starts (x ∷ xs) w ts r h = go _ _ _ ts h.0 r (w.0 (in_list c) pl s ts h.0 (sort x.tree h.1) h.2) (items may close s t shut sort (if starts && is_use_strict x.tree then turned_strict c else c) (strict_placed (starts && is_use_strict x.tree) c pl) (starts && is_directive x.tree) xs w.1 h.0 r h.3)
