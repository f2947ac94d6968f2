-- The token behind the second one, where the source shows it.
use Rattle.std.proofs.Common.{◌≡◌, ◌≢◌, ℕ, suc, Option, None, Some, refl, sym, ap, ◌∙◌}
use Rattle.base_token.specs.Tokens.{Spot}
use Rattle.lex_source.specs.Ahead.{break_in, kind_in}
use Rattle.lex_source.specs.Looks.{behind_by}
use Rattle.lex_source.specs.Machine.{Machine, Source}
use Rattle.grammar_spec.specs.Tokens.Input.{break_of, kind_of, others}
use Rattle.parse_state.specs.Cursors.{places}
use Rattle.parse_state.proofs.Firsts.{break_at, kind_at}

pub second_kind : {S : Type 0} (m : Machine S) (n : ℕ) (o : Option Spot) (s : Source S) → kind_of (others (places m (suc n) o (Some s))) ≡ kind_in (behind_by m.step o s)
second_kind m n None s = refl
second_kind m n (Some t) s = kind_at m n (m.step s).0 (m.step s).1

pub second_break : {S : Type 0} (m : Machine S) (n : ℕ) (o : Option Spot) (s : Source S) → break_of (others (places m (suc n) o (Some s))) ≡ break_in (behind_by m.step o s)
second_break m n None s = refl
second_break m n (Some t) s = break_at m n (m.step s).0 (m.step s).1

module _ {S : Type 0} (m : Machine S) (s : Source S) (t : Option Spot) (e : t ≡ behind_by m.step (m.step s).0 (m.step s).1) where
  pub third_kind : kind_in t ≡ kind_of (others (places m 2 (m.step s).0 (Some (m.step s).1)))
  third_kind = ap kind_in e ∙ sym (second_kind m 1 (m.step s).0 (m.step s).1)

  pub third_rest : kind_in t ≡ kind_of (others (places m 1 (m.step s).0 (Some (m.step s).1)))
  third_rest = ap kind_in e ∙ sym (second_kind m 0 (m.step s).0 (m.step s).1)

  pub third_break : break_in t ≡ break_of (others (places m 2 (m.step s).0 (Some (m.step s).1)))
  third_break = ap break_in e ∙ sym (second_break m 1 (m.step s).0 (m.step s).1)

pub ruleset thirds = (third_kind, third_rest, third_break)

-- ---- the second one

module _ {S : Type 0} (m : Machine S) (s : Source S) (t : Option Spot) (e : t ≡ (m.step s).0) where
  pub next_kind : (o : Option Spot) → kind_of (places m 2 o (Some s)) ≢ 0 → kind_in t ≡ kind_of (others (places m 2 o (Some s)))
  next_kind None h = absurd (h refl)
  next_kind (Some x) h = ap kind_in e ∙ sym (kind_at m 1 (m.step s).0 (m.step s).1)

  pub next_break : (o : Option Spot) → kind_of (places m 2 o (Some s)) ≢ 0 → break_in t ≡ break_of (others (places m 2 o (Some s)))
  next_break None h = absurd (h refl)
  next_break (Some x) h = ap break_in e ∙ sym (break_at m 1 (m.step s).0 (m.step s).1)

pub ruleset seconds = (next_kind, next_break)
