-- The forms that productions share: what produces tokens alone produces them under their goals and in their contexts.
use Rattle.std.proofs.Common.{◌≡◌, ℕ, ◌⊎◌, inl, inr, Bool, true, false, ◌&&◌, if◌then◌else◌, List, [], ◌∷◌, refl, sym, subst}
use Rattle.base_token.specs.Kinds.{comma_kind, semicolon_kind, right_brace_kind}
use Rattle.tree_spec.specs.Tree.{Tree}
use Rattle.grammar_spec.specs.Tokens.Input.{Input, Code, in_list, assigning, turned_strict, Takes}
use Rattle.grammar_spec.specs.Tokens.Shape.{is_absent, is_hole, is_rest, is_use_strict, is_directive}
use Rattle.grammar_spec.specs.Children.{Child, By, IsEmpty, Expr, Sorted, Maybe, Listed, CommaThen, Commas, Ends, Items}
use Rattle.grammar_laws.specs.Context.Laws.{placing}
use Rattle.grammar_laws.proofs.context.Kin.{Kin, Moves}

module _ (p : Bool) (kin : Kin p) where
  abbrev pub Moved : Child → Type 0
  Moved x = (c : Code) → Moves p kin (x.produced c) (x.produced (placing p c))

  abbrev pub AllMoved : List Child → Type 0
  AllMoved [] = Unit {0}
  AllMoved (x ∷ xs) = Moved x × AllMoved xs

  pub same : Moves p kin (λ a b. a ≡ b) (λ a b. a ≡ b)
  same ts r q h l = (q, subst (λ (z : Input). kin.Like z q) (sym h) l, refl)

  pub either : {A B : Type 0} {C D : Input → Type 0} (b : Bool) (ts : Input) → By b A B → (A → (o : Input) × kin.Like ts o × C o) → (B → (o : Input) × kin.Like ts o × D o) → (o : Input) × kin.Like ts o × By b (C o) (D o)
  either true ts h f g = f h
  either false ts h f g = g h

  pub expr : (n : ℕ) (c : Code) (a : Child) → Moved a → Moves p kin (Expr n c a) (Expr n (placing p c) a)
  expr n c a f ts r q h l = let z = f (assigning c) ts r q h.1 l in (z.0, z.1, (h.0, z.2))

  pub sorted : (s : Tree → Bool) (c : Code) (a : Child) → Moved a → Moves p kin (Sorted s c a) (Sorted s (placing p c) a)
  sorted s c a f ts r q h l = let z = f c ts r q h.1 l in (z.0, z.1, (h.0, z.2))

  pub maybe : (P : Code → Child → Input → Input → Type 0) (c : Code) (a : Child) → Moves p kin (P c a) (P (placing p c) a) → Moves p kin (Maybe P c a) (Maybe P (placing p c) a)
  maybe P c a f ts r q h l = either (is_absent a.tree) ts h (λ k. same ts r q k l) (λ k. f ts r q k l)

  -- ---- lists with commas

  module _ (P Q : Child → Input → Input → Type 0) (f : (x : Child) → Moved x → Moves p kin (P x) (Q x)) where
    after : (holes : Bool) (c : Code) (close : ℕ) (x : Child) (xs : List Child) → Moves p kin (Listed holes P c close xs) (Listed holes Q (placing p c) close xs)
        → Moves p kin (λ m r. ((is_rest x.tree ≡ false) × (n : Input) × Takes c comma_kind m n × Listed holes P c close xs n r) ⊎ (IsEmpty xs × Takes c close m r))
        (λ m r. ((is_rest x.tree ≡ false) × (n : Input) × Takes (placing p c) comma_kind m n × Listed holes Q (placing p c) close xs n r) ⊎ (IsEmpty xs × Takes (placing p c) close m r))
    after holes c close x xs g ts r q (inl h) l = let z = g h.1 r q h.3 l in let y = kin.take c comma_kind ts h.1 z.0 h.2 z.1 in (y.0, y.1, inl (h.0, z.0, y.2, z.2))
    after holes c close x xs g ts r q (inr h) l = let z = kin.take c close ts r q h.1 l in (z.0, z.1, inr (h.0, z.2))

    pub listed : (holes : Bool) (c : Code) (close : ℕ) (xs : List Child) → AllMoved xs → Moves p kin (Listed holes P c close xs) (Listed holes Q (placing p c) close xs)
    listed holes c close [] a ts r q h l = kin.take c close ts r q h l
    listed holes c close (x ∷ xs) a ts r q h l = either (holes && is_hole x.tree) ts h
        (λ k. let z = listed holes c close xs a.1 k.0 r q k.2 l in let y = kin.take c comma_kind ts k.0 z.0 k.1 z.1 in (y.0, y.1, (z.0, y.2, z.2)))
        (λ k. let z = after holes c close x xs (λ t r q h l. listed holes c close xs a.1 t r q h l) k.0 r q k.2 l in let y = f x a.0 ts k.0 z.0 k.1 z.1 in (y.0, y.1, (z.0, y.2, z.2)))

    pub comma_then : (c : Code) (xs : List Child) → AllMoved xs → Moves p kin (CommaThen P c xs) (CommaThen Q (placing p c) xs)
    comma_then c [] a ts r q h l = same ts r q h l
    comma_then c (x ∷ xs) a ts r q h l = let z = comma_then c xs a.1 h.1 r q h.4 l in let y = f x a.0 h.0 h.1 z.0 h.3 z.1 in let w = kin.take c comma_kind ts h.0 y.0 h.2 y.1 in (w.0, w.1, (y.0, z.0, w.2, y.2, z.2))

    pub commas : (c : Code) (xs : List Child) → AllMoved xs → Moves p kin (Commas P c xs) (Commas Q (placing p c) xs)
    commas c [] a ts r q h l = absurd h
    commas c (x ∷ xs) a ts r q h l = let z = comma_then c xs a.1 h.0 r q h.2 l in let y = f x a.0 ts h.0 z.0 h.1 z.1 in (y.0, y.1, (z.0, y.2, z.2))

  -- ---- ends, and lists of statements

  pub ends_on : (c : Code) (e : ℕ) → Moves p kin (Ends c e) (Ends (placing p c) e)
  ends_on c e ts r q (inl h) l = let z = kin.take c semicolon_kind ts r q h l in (z.0, z.1, inl z.2)
  ends_on c e ts r q (inr h) l = let k : kin.Like ts q = subst (λ (z : Input). kin.Like z q) (sym h.2) l in
      (q, k, inr (kin.unlike semicolon_kind refl ts q k h.0, kin.stays c e ts q k h.1, refl))

  turned : (b : Bool) (c : Code) → (if b then turned_strict (placing p c) else placing p c) ≡ placing p (if b then turned_strict c else c)
  turned true c = refl
  turned false c = refl

  pub items : (may : Tree → Bool) (close : Code → Input → Input → Type 0) → ((c : Code) → Moves p kin (close c) (close (placing p c))) → (c : Code) (starts : Bool) (ss : List Child) → AllMoved ss
      → Moves p kin (Items may close c starts ss) (Items may close (placing p c) starts ss)
  items may close f c starts [] a ts r q h l = f c ts r q h l
  items may close f c starts (s ∷ ss) a ts r q h l =
      let z = items may close f (if starts && is_use_strict s.tree then turned_strict c else c) (starts && is_directive s.tree) ss a.1 h.0 r q h.3 l in
      let y = a.0 (in_list c) ts h.0 z.0 h.2 z.1 in
      (y.0, y.1, (z.0, h.1, y.2, subst (λ (d : Code). Items may close d (starts && is_directive s.tree) ss z.0 q) (sym (turned (starts && is_use_strict s.tree) c)) z.2))

  pub brace : (c : Code) → Moves p kin (Takes c right_brace_kind) (Takes (placing p c) right_brace_kind)
  brace c ts r q h l = kin.take c right_brace_kind ts r q h l
