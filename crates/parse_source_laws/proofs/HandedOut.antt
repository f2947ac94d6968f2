-- A list that a source hands out goes with it as far as it goes.
use Rattle.std.proofs.Common.{◌≡◌, ◌⊎◌, ℕ, zero, suc, Bool, true, false, ◌&&◌, cond, eqb, nat_le, nat_lt, List, [], ◌∷◌, inl, inr, refl, sym, ap, ◌∙◌, subst, true≢false, arith, le-leb}
use Rattle.base_token.specs.Kinds.{div_assign_kind, error_kind}
use Rattle.grammar_spec.specs.Tokens.Input.{PlacedToken, Input, Code, kind, kind_of}
use Rattle.grammar_spec.specs.Tokens.Operators.{assignment_level, binary_level, goes_expr, pauses, closed_end}
use Rattle.base_token.specs.Kinds.{div_kind}
use Rattle.grammar_spec.specs.Reader.Source.{Stream, State}
use Rattle.parse_source_laws.specs.Sources.{is_slash, Rereads, HandsOut, Orderly}
use Rattle.parse_source_laws.specs.Consumed.{Backward}
use Rattle.parse_source_laws.proofs.Beside.{Ceiling, kinded, reread, Beside, agree1, agree2, joined_to, joined2, pauses_same}
use Rattle.parse_source_laws.proofs.Pairs.{Opens, is_param, Loose, Pairing, Paired}

module _ {S : Type 0} (m : Stream S) (Live : S → Type 0) where
  -- Where what ends so isn't closed, no regular expression stands for a slash before an equals sign.
  abbrev pub handed : Pairing m
  handed = record { live = Live; hands = λ n l s. HandsOut m l s; ajar = λ s l. kind_of (m.seen s) ≡ div_assign_kind → kind_of l ≡ div_assign_kind; waits = λ s l. Unit {0} }

module _ {S : Type 0} {m : Stream S} {Live : S → Type 0} {modular : Bool} (w : Orderly m Live modular) where
  abbrev at_state : S → State S
  at_state s = record { source = s; commas = [] }

  abbrev at_list : S → List PlacedToken → State Input
  at_list s l = record { source = record { last = m.last s; places = l }; commas = [] }

  abbrev here : S → Ceiling
  here s = record { bound = m.bound s; length = 0 }

  beside : (s : S) (l : List PlacedToken) → Live s → HandsOut m l s → Beside m Live (here s) (at_state s) (at_list s l)
  beside s l a h = record { commas = refl; last = refl; live = a; hands = h; falls = omega arith }

  behind : (p : PlacedToken) (l v : List PlacedToken) (s : S) → m.seen s ≡ p ∷ v → is_slash p.spot.token.kind ≡ false → HandsOut m l s → (u : List PlacedToken) × (l ≡ p ∷ u) × HandsOut m u (m.after s)
  behind p [] v s e n h = absurd (true≢false (ap (λ (z : List PlacedToken). nil z) (sym h ∙ e)))
    where
      nil : List PlacedToken → Bool
      nil [] = true
      nil (q ∷ z) = false
  behind p (q ∷ l) v s e n (inl h) = (l, ap (λ (z : List PlacedToken). head q z ∷ l) (sym h.1 ∙ e), h.2)
    where
      head : PlacedToken → List PlacedToken → PlacedToken
      head o [] = o
      head o (q ∷ z) = q
  behind p (q ∷ l) v s e n (inr h) = absurd (true≢false (sym h.4.0 ∙ (ap (λ z. is_slash (kind_of z)) (sym h.3 ∙ e) ∙ n)))

  same : {A : Type 0} (B : List PlacedToken → A) → ((p : PlacedToken) (l v : List PlacedToken) → B (p ∷ l) ≡ B (p ∷ v)) → (l : List PlacedToken) (s : S) → is_slash (kind_of (m.seen s)) ≡ false → HandsOut m l s → B l ≡ B (m.seen s)
  same B f [] s n h = ap B (sym h)
  same B f (p ∷ l) s n (inl h) = f p l h.0 ∙ ap B (sym h.1)
  same B f (p ∷ l) s n (inr h) = absurd (true≢false (sym h.4.0 ∙ (ap (λ z. is_slash (kind_of z)) (sym h.3) ∙ n)))

  -- a slash before an equals sign comes, and what ends so isn't closed: the list has it too
  goes : (c : Code) (e j : ℕ) (l : List PlacedToken) (s : S) → Live s → HandsOut m l s → (nat_le closed_end e ≡ false → kind_of (m.seen s) ≡ div_assign_kind → kind_of l ≡ div_assign_kind)
      → nat_lt (goes_expr c e (record { last = 0; places = l })) j ≡ nat_lt (goes_expr c e (record { last = 0; places = m.seen s })) j
  goes c e j [] s a h k = ap (λ z. nat_lt (goes_expr c e (record { last = 0; places = z })) j) (sym h)
  goes c e j (p ∷ l) s a (inl h) k = joined2 w (λ z. nat_lt (goes_expr c e (record { last = 0; places = z })) j) (λ n p q l v. refl) (λ n p q l v. refl) (λ n p l v. refl) (here s) (at_state s) (at_list s (p ∷ l))
      (joined_to w (here s) (at_state s) [] (m.last s) p l (beside s (p ∷ l) a (inl h)) h.0 h.1 h.2)
  goes c e j (p ∷ l) s a (inr h) k = by_closed (nat_le closed_end e) refl
    where
      shows : List PlacedToken → Bool
      shows z = nat_lt (goes_expr c e (record { last = 0; places = z })) j

      by_closed : (b : Bool) → nat_le closed_end e ≡ b → shows (p ∷ l) ≡ shows (m.seen s)
      by_closed true i = reread (λ p q. shows (p ∷ l) ≡ shows (q ∷ h.1)) (λ p q. ap (λ (z : Bool). nat_lt (cond z 0 (binary_level div_kind)) j) i ∙ sym (ap (λ (z : Bool). nat_lt (cond z 0 assignment_level) j) i)) (λ p q. refl) h.0 p h.4 ∙ ap shows (sym h.3)
      by_closed false i = reread (λ p q. (q.spot.token.kind ≡ div_assign_kind → ⊥) → shows (p ∷ l) ≡ shows (q ∷ h.1)) (λ p q o. absurd (o refl)) (λ p q o. refl) h.0 p h.4
          (λ o. true≢false (ap (λ (z : ℕ). eqb z div_assign_kind) (sym (k i (ap (λ z. kind_of z) h.3 ∙ o))) ∙ ap (λ (z : ℕ). eqb z div_assign_kind) h.4.1)) ∙ ap shows (sym h.3)

  -- no statement pauses before a slash and an equals sign where what it ends with isn't closed
  no_pause : (c : Code) (e n : ℕ) (v : List PlacedToken) → Loose e → kind_of v ≡ div_assign_kind → pauses c e (record { last = n; places = v }) ≡ false
  no_pause c e n v o k = by_seen v k
    where
      by_break : (b : Bool) → (b && false) ≡ false
      by_break true = refl
      by_break false = refl

      by_class : (e : ℕ) → Loose e → (p : PlacedToken) (v : List PlacedToken) → pauses c e (record { last = n; places = kinded div_assign_kind p ∷ v }) ≡ false
      by_class e (inr i) p v = ap (λ (z : ℕ). pauses c z (record { last = n; places = kinded div_assign_kind p ∷ v })) i ∙ by_break p.spot.line_break
      by_class zero (inl i) p v = by_break p.spot.line_break
      by_class (suc zero) (inl i) p v = by_break p.spot.line_break
      by_class (suc (suc j)) (inl i) p v = absurd (true≢false (sym (le-leb 2 (suc (suc j)) (omega arith)) ∙ i))

      by_seen : (v : List PlacedToken) → kind_of v ≡ div_assign_kind → pauses c e (record { last = n; places = v }) ≡ false
      by_seen [] k = absurd (true≢false (sym (ap (λ z. eqb z div_assign_kind) k)))
      by_seen (p ∷ v) k = ap (λ (z : ℕ). pauses c e (record { last = n; places = kinded z p ∷ v })) k ∙ by_class e o p v

  module _ (r : Backward m Live modular) where
    operands : (l : List PlacedToken) (s : S) → Live s → HandsOut m l (m.operand s) → Opens l → HandsOut m l s
    operands l s a h o = by_slash (is_slash (kind_of (m.seen s))) refl
      where
        by_seen : (v : List PlacedToken) → m.seen s ≡ v → is_slash (kind_of v) ≡ true → (l : List PlacedToken) → HandsOut m l (m.operand s) → Opens l → HandsOut m l s
        by_seen [] e i l h o = absurd (true≢false (sym i))
        by_seen (q ∷ v) e i [] h o = absurd o
        by_seen (q ∷ v) e i (p ∷ l) (inl h) o = by_reread (r.reread s q p v h.0 a e i h.1)
          where
            by_reread : (p.spot.token.kind ≡ error_kind) ⊎ (Rereads q p ⊎ (m.operand s ≡ s)) → HandsOut m (p ∷ l) s
            by_reread (inl f) = absurd (true≢false (ap (λ (k : ℕ). eqb k error_kind) (sym f) ∙ o))
            by_reread (inr (inl f)) = inr (q, v, h.0, e, f, h.1, h.2)
            by_reread (inr (inr f)) = subst (λ (z : S). HandsOut m (p ∷ l) z) f (inl h)
        by_seen (q ∷ v) e i (p ∷ l) (inr h) o = by_reread (r.reread s q h.0 v h.1 a e i h.3)
          where
            by_reread : (h.0.spot.token.kind ≡ error_kind) ⊎ (Rereads q h.0 ⊎ (m.operand s ≡ s)) → HandsOut m (p ∷ l) s
            by_reread (inl f) = absurd (true≢false (sym h.4.0 ∙ ap (λ (k : ℕ). is_slash k) f))
            by_reread (inr (inl f)) = absurd (true≢false (sym h.4.0 ∙ ap (λ (k : ℕ). is_slash k) f.1))
            by_reread (inr (inr f)) = subst (λ (z : S). HandsOut m (p ∷ l) z) f (inr h)

        by_slash : (b : Bool) → is_slash (kind_of (m.seen s)) ≡ b → HandsOut m l s
        by_slash true i = by_seen (m.seen s) refl i l h o
        by_slash false i = subst (λ (z : S). HandsOut m l z) (w.plain s a i) h

    pub paired : Paired m (handed m Live) modular
    paired = record {
      order = w;
      fewer = λ n l s a h. h;
      token = λ n p l v s a e h. inl (v, e, h);
      behind = λ n p l v s a e i h. behind p l v s e i h;
      one = λ B f l s a h. agree1 w B f.0 f.1 f.2 (here s) (at_state s) (at_list s l) (beside s l a h);
      two = λ B f l s a h. agree2 w B f.0 f.1 f.2 f.3 f.4 (here s) (at_state s) (at_list s l) (beside s l a h);
      same = λ B f l s a n h. same B f l s n h;
      told = λ x n l s e a h. r.told_back x s l e a h;
      operands = λ n l s a h o. operands l s a h o;
      reread = r.reread;
      shows = λ p l v s a e h. (λ o. ap (λ z. kind_of z) (sym e) ∙ o, tt);
      goes = goes;
      param = λ c j p l v s a e k h o. agree2 w (λ z. is_param c j z) (λ p q l v. refl) (λ p q l v. refl) (λ n p q l v. refl) (λ n p q l v. refl) (λ n p l v. refl) (here (m.after s)) (at_state (m.after s)) (at_list (m.after s) l) (beside (m.after s) l (w.live_after s a) h);
      pause = λ c e l s a h. pauses_same w c e (here s) (at_state s) (at_list s l) (beside s l a h);
      stops = λ c e l s a h p. (λ o k. absurd (true≢false (sym p ∙ no_pause c e 0 (m.seen s) o k)), tt);
    }
