-- Steps of a source one after the other.
use Rattle.std.proofs.Common.{◌≡◌, ℕ, zero, suc, ◌+◌, ◌-◌, ◌<◌, ◌≤◌, Bool, true, false, Option, None, Some, option_map, refl, sym, ap, subst, ◌∙◌, arith}
use Rattle.std.specs.Prelude.{is_some, MatchOption}
use Rattle.std.proofs.lemmas.Bool.{false≢true}
use Rattle.base_token.specs.Tokens.{Spot}
use Rattle.base_token.specs.declared.context.Context.{Context}
use Rattle.base_token.specs.declared.token.TokenAndSpan.{TokenAndSpan}
use Rattle.lex_source.specs.Machine.{Machine, Source, shown_spot, told_of}
use Rattle.lex_source.specs.Settings.{Settings}
use Rattle.lex_other_sources.specs.Steps.{LeadsTo, StepsTo, back_by, stepped, turns}

pub stepped_none : {S : Type 0} (m : Machine S) (s : Source S) → stepped m 0 s ≡ s
unfolding stepped
stepped_none m s = refl

stepped_suc : {S : Type 0} (m : Machine S) (n : ℕ) (s : Source S) → stepped m (suc n) s ≡ (m.step (stepped m n s)).1
unfolding stepped
stepped_suc m n s = refl

pub stepped_more : {S : Type 0} (m : Machine S) (n : ℕ) (s : Source S) → stepped m (n + 1) s ≡ (m.step (stepped m n s)).1
stepped_more m n s = let e : n + 1 ≡ suc n = omega arith in rw e (stepped_suc m n s)

-- ---- what is told leaves the tokens

pub told_leads : {S : Type 0} (m : Machine S) (c : Option (Source S)) (n : ℕ) (u : Bool) (s : Source S) (settings : Settings) → LeadsTo m c n u s → LeadsTo m c n false (told_of settings s)
told_leads m None n u s settings l = tt
told_leads m (Some c) n u s settings l = (l.0, λ f. absurd (false≢true f))

-- where there is no copy, none leads
pub leads_none : {I S : Type 0} (m : Machine S) (state : I → Source S) (c : Option I) (n : ℕ) (u : Bool) (s : Source S) → is_some c ≡ false → LeadsTo m (option_map state c) n u s
leads_none m state None n u s e = tt
leads_none m state (Some c) n u s e = absurd (false≢true (sym e))

-- ---- a copy from which steps alone lead to the source

pub stands_alone : {I S : Type 0} (m : Machine S) (state : I → Source S) (c : Option I) (n : ℕ) (u : Bool) (s : Source S) → is_some c ≡ true → u ≡ true
    → LeadsTo m (option_map state c) n u s → StepsTo m (option_map state c) n s
stands_alone m state None n u s e t l = absurd (false≢true e)
stands_alone m state (Some c) n u s e t l = l.1 t

pub fresh_steps : {S : Type 0} (m : Machine S) (c s : Source S) → c ≡ s → StepsTo m (Some c) 0 s
fresh_steps m c s e = stepped_none m c ∙ e

pub ruleset fresh = (stands_alone, fresh_steps)

-- ---- one step more

pub one_more : {S : Type 0} (m : Machine S) (c : Option (Source S)) (n : ℕ) (u : Bool) (s : Source S) → StepsTo m c n s → LeadsTo m c (n + 1) u (m.step s).1
one_more m None n u s e = absurd e
one_more m (Some c) n u s e =
    let more : stepped m (n + 1) c ≡ (m.step s).1 = stepped_more m n c ∙ ap (λ x. (m.step x).1) e in
    (ap (λ x. x.tokens) more, λ t. more)

-- ---- a token that is put

pub falls_shown : (a b : ℕ) (o : Option Spot) (t : Option TokenAndSpan) → o ≡ option_map shown_spot t → MatchOption t (a ≤ b) (λ _. a < b) → MatchOption o (a ≤ b) (λ _. a < b)
falls_shown a b o None e h = subst (λ (p : Option Spot). MatchOption p (a ≤ b) (λ _. a < b)) (sym e) h
falls_shown a b o (Some x) e h = subst (λ (p : Option Spot). MatchOption p (a ≤ b) (λ _. a < b)) (sym e) h

-- ---- going back

-- in front of the last of so many steps, where there are some
pub back_from : {S : Type 0} (m : Machine S) (ctx : Context) (c : Source S) (n : ℕ) → turns c.settings.ctx ctx ≡ true → 0 < n → back_by m ctx (Some c) n ≡ Some (stepped m (n - 1) c)
back_from m ctx c zero t some = absurd (omega arith)
back_from m ctx c (suc n) t some = let e : suc n - 1 ≡ n = omega arith in rw (t, e) refl

-- in no other code
pub back_none : {S : Type 0} (m : Machine S) (ctx : Context) (c : Source S) (n : ℕ) → turns c.settings.ctx ctx ≡ false → back_by m ctx (Some c) n ≡ None
back_none m ctx c zero t = refl
back_none m ctx c (suc n) t = rw t refl

pub ruleset goes_back = (back_from, back_none)
