-- The forms that productions share: where they produce tokens, their parts go well, as far as each part does that produces tokens.
use Rattle.std.proofs.Common.{◌≡◌, ℕ, ◌⊎◌, inl, inr, Bool, true, false, ◌&&◌, ◌||◌, if◌then◌else◌, refl, sym, subst, true≢false}
use Rattle.base_proofs.proofs.Bools.{and_second}
use Rattle.tree_spec.specs.Tree.{Tree, Trees, none, more, absent, hole}
use Rattle.base_token.specs.Kinds.{comma_kind}
use Rattle.grammar_spec.specs.Tokens.Input.{Input, Code, Takes, turned_strict}
use Rattle.grammar_spec.specs.Tokens.Shape.{is_absent, is_hole, is_rest, is_use_strict, is_directive}
use Rattle.grammar_spec.specs.Children.{Child, child, By, IsEmpty, Sorted, Listed, CommaThen, Commas, Items}
use Rattle.grammar_spec.specs.Grammar.{Produces, children}
use Rattle.print_layout_spec.specs.declared.look.Look.{Look}
use Rattle.print_layout_spec.specs.declared.look.Stand.{Stand}
use Rattle.print_layout_spec.specs.Layout.{laid}
use Rattle.print_gaps.specs.Edges.{is_there}
use Rattle.std.proofs.lemmas.Bool.{false≢true}
use Rattle.again_laws.proofs.text.Admits.{admits, leaves}
use Rattle.again_laws.proofs.text.Steps.{Steps}
use Rattle.again_laws.specs.Tiling.Categories.{Clear, Fresh, Shut, State, Worded}

either : {A B C : Type 0} (b : Bool) → By b A B → (b ≡ true → A → C) → (b ≡ false → B → C) → C
either true h f g = f refl h
either false h f g = g refl h

pub not_absent : (b : Tree) → is_there b ≡ true → is_absent b ≡ false
not_absent absent e = absurd (false≢true e)
not_absent _ e = refl

pub by_second : (x : Bool) (A B : Type 0) → By x A B → x ≡ false → B
by_second true A B h e = absurd (true≢false e)
by_second false A B h e = h

-- A tree goes well, wherever it stands behind what admits it.
abbrev pub Good : Look → Tree → Type 0
Good look t = (st : Stand) (s : State) → admits s t ≡ true → Steps (laid look st t) s (λ u. leaves st t u ≡ true)

abbrev pub AllGood : Look → Trees → Type 0
AllGood look none = Unit {0}
AllGood look (more t ts) = Good look t × AllGood look ts

module _ (look : Look) where
  -- what produces tokens can be printed
  abbrev pub Sound : Tree → Type 0
  Sound t = (c : Code) (ts r : Input) → Produces t c ts r → Good look t

  abbrev pub AllSound : Trees → Type 0
  AllSound none = Unit {0}
  AllSound (more t ts) = Sound t × AllSound ts

  -- where nothing is written the state stays
  stays : (t : Tree) (st : Stand) (s : State) → admits s t ≡ true → (is_absent t || is_hole t) ≡ true → ((t ≡ absent) ⊎ (t ≡ hole)) → leaves st t s ≡ true
  stays t st s a e (inl f) = subst (λ (x : Tree). leaves st x s ≡ true) (sym f) (none_stays s (subst (λ (x : Tree). admits s x ≡ true) f a))
    where
      none_stays : (s : State) → admits s absent ≡ true → leaves st absent s ≡ true
      none_stays Fresh a = refl
      none_stays Clear a = refl
      none_stays Shut a = refl
      none_stays Worded a = refl
      none_stays _ a = absurd (true≢false (sym a))
  stays t st s a e (inr f) = subst (λ (x : Tree). leaves st x s ≡ true) (sym f) (none_stays s (subst (λ (x : Tree). admits s x ≡ true) f a))
    where
      none_stays : (s : State) → admits s hole ≡ true → leaves st hole s ≡ true
      none_stays Fresh a = refl
      none_stays Clear a = refl
      none_stays Shut a = refl
      none_stays Worded a = refl
      none_stays _ a = absurd (true≢false (sym a))

  pub absent_good : (t : Tree) → is_absent t ≡ true → Good look t
  absent_good absent e st s a = record { so = stays absent st s a refl (inl refl) }
  absent_good _ e st s a = absurd (true≢false (sym e))

  hole_good : (t : Tree) → is_hole t ≡ true → Good look t
  hole_good hole e st s a = record { so = stays hole st s a refl (inr refl) }
  hole_good _ e st s a = absurd (true≢false (sym e))

  -- a part that may be left out
  pub maybe_good : (A : Type 0) {B : Type 0} (t : Tree) → By (is_absent t) A B → (B → Good look t) → Good look t
  maybe_good A t h f = either (is_absent t) h (λ e k. absent_good t e) (λ e k. f k)

  pub none_good : (ts : Trees) → IsEmpty (children ts) → AllGood look ts
  none_good none h = tt
  none_good (more t ts) h = absurd h

  -- ---- lists with commas

  module _ (P : Child → Input → Input → Type 0) (f : (t : Tree) → Sound t → (ts r : Input) → P (child t (λ y. Produces t y)) ts r → Good look t) where
    after : (holes : Bool) (c : Code) (close : ℕ) (t : Tree) (xs : Trees) → ((n r : Input) → Listed holes P c close (children xs) n r → AllGood look xs) → (m r : Input)
        → ((is_rest t ≡ false) × (n : Input) × Takes c comma_kind m n × Listed holes P c close (children xs) n r) ⊎ (IsEmpty (children xs) × Takes c close m r) → AllGood look xs
    after holes c close t xs k m r (inl h) = k h.1 r h.3
    after holes c close t xs k m r (inr h) = none_good xs h.0

    pub listed : (holes : Bool) (c : Code) (close : ℕ) (xs : Trees) → AllSound xs → (ts r : Input) → Listed holes P c close (children xs) ts r → AllGood look xs
    listed holes c close none a ts r h = tt
    listed holes c close (more t xs) a ts r h = either (holes && is_hole t) h
        (λ e k. (hole_good t (and_second holes (is_hole t) e), listed holes c close xs a.1 k.0 r k.2))
        (λ e k. (f t a.0 ts k.0 k.1, after holes c close t xs (λ n o l. listed holes c close xs a.1 n o l) k.0 r k.2))

    pub comma_then : (c : Code) (xs : Trees) → AllSound xs → (ts r : Input) → CommaThen P c (children xs) ts r → AllGood look xs
    comma_then c none a ts r h = tt
    comma_then c (more t xs) a ts r h = (f t a.0 h.0 h.1 h.3, comma_then c xs a.1 h.1 r h.4)

    pub commas : (c : Code) (xs : Trees) → AllSound xs → (ts r : Input) → Commas P c (children xs) ts r → AllGood look xs
    commas c none a ts r h = absurd h
    commas c (more t xs) a ts r h = (f t a.0 ts h.0 h.1, comma_then c xs a.1 h.0 r h.2)

  -- of parts of a sort
  pub sorted : (is_sort : Tree → Bool) (c : Code) (t : Tree) → Sound t → (ts r : Input) → Sorted is_sort c (child t (λ y. Produces t y)) ts r → Good look t
  sorted is_sort c t f ts r h = f c ts r h.1

  pub all_sorted : (is_sort : Tree → Bool) (holes : Bool) (c : Code) (close : ℕ) (xs : Trees) → AllSound xs → (ts r : Input) → Listed holes (Sorted is_sort c) c close (children xs) ts r → AllGood look xs
  all_sorted is_sort holes c close xs a ts r h = listed (Sorted is_sort c) (λ t f m n k. sorted is_sort c t f m n k) holes c close xs a ts r h

  -- ---- lists of statements

  pub items : (may : Tree → Bool) (close : Code → Input → Input → Type 0) (c : Code) (starts : Bool) (ss : Trees) → AllSound ss → (ts r : Input) → Items may close c starts (children ss) ts r → AllGood look ss
  items may close c starts none a ts r h = tt
  items may close c starts (more s ss) a ts r h = (a.0 _ ts h.0 h.2, items may close (if starts && is_use_strict s then turned_strict c else c) (starts && is_directive s) ss a.1 h.0 r h.3)
