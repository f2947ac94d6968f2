-- Parameters without their parentheses, and properties of patterns with a rest: over a source and over the list that it hands out, both ways.
use Rattle.std.proofs.Common.{◌≡◌, ℕ, Bool, true, false, not, ◌&&◌, cond, if◌then◌else◌, List, [], ◌∷◌, ◌++◌, Result, Ok, refl, sym, ap, ap₂, ◌∙◌, true≢false}
use Rattle.base_proofs.proofs.Bools.{and_first}
use Rattle.base_token.specs.declared.place.Span.{Span}
use Rattle.base_token.specs.Kinds.{comma_kind, dot_dot_dot_kind}
use Rattle.tree_spec.specs.Tree.{Tree, rest_pat}
use Rattle.grammar_spec.specs.Tokens.Input.{PlacedToken, Input, Code, lo, span, dots_at, with_in}
use Rattle.grammar_spec.specs.Tokens.Operators.{closed_end}
use Rattle.grammar_spec.specs.Tokens.Shape.{is_structured}
use Rattle.grammar_spec.specs.Reader.Source.{Fault, unexpected, ◌>>=◌, Stream, State, Inner, Step, go_on, finished, input, past, at, spanned}
use Rattle.grammar_spec.specs.Reader.Expressions.{is_rest_param}
use Rattle.parse_source_laws.specs.Sources.{Orderly}
use Rattle.parse_source_laws.proofs.Beside.{lm, on, Ceiling, Beside, Told, agree1, at_same, lo_same, span_same, joined_at, told_ok, never, told_then, told_if, told_at, told_iterate, same_rest, Heard}
use Rattle.parse_source_laws.proofs.Pairs.{Keeps, Pairing, Paired}
use Rattle.parse_source_laws.proofs.Backs.{calm, shut_keeps, same_keeps, kept, list_at, was, stay, join, token, Backed, Steps, back_never, back_ok, back_weak, back_same, back_then, back_test, back_past, back_at, back_iterate, agrees, live_past, lo_was, at_was, here_at, Echoed}
use Rattle.parse_source_laws.proofs.Expressions.{parameter_by_told}
use Rattle.parse_source_laws.proofs.Statements.{pattern_prop_told}
use Rattle.parse_source_laws.proofs.ConsumedExpressions.{parameter_by_backed}
use Rattle.parse_source_laws.proofs.ConsumedStatements.{pattern_prop_backed}
use Rattle.parse_patterns.specs.Items.{object_rest}
use Rattle.parse_alone.specs.Parts.{starts_param, bare_step, bare_by}
use Rattle.parse_alone.specs.Props.{item_by}

-- ---- from the list to the source

module _ {S : Type 0} {m : Stream S} {Live : S → Type 0} {modular : Bool} (w : Orderly m Live modular) {il : Inner Input} {im : Inner S} (told : Heard m Live modular il im) where
  bare_step_told : (k : Ceiling) (c : Code) (ce : c.context.module_ ≡ modular) (ps : List Tree) (s : State S) (s' : State Input) (sh : Beside m Live k s s') → Told m Live k (bare_step lm il c ps s') (bare_step m im c ps s)
  unfolding bare_step
  bare_step_told k c ce ps s s' sh = told_if w k (starts_param lm c s') (starts_param m c s) (agree1 w (λ z. starts_param lm c (on [] 0 z)) (λ p q l v. refl) (λ p q l v. refl) (λ p l v. refl) k s s' sh) _ _ _ _
      (λ _. told_then w k _ _ _ _ (parameter_by_told w told k c ce s s' sh) (λ p0 p1 p1' p1h. told_if w k _ _ (ap₂ (λ (a b : Bool). a && not b) (at_same w comma_kind (refl, refl, refl, refl) k p1 p1' p1h) (same_rest m im il p0)) _ _ _ _
      (λ y. told_ok w k _ _ (past m p1) (past lm p1') (joined_at w comma_kind (refl, refl, refl, refl) k p1 p1' p1h (and_first (at lm comma_kind p1') (not (is_rest_param lm il p0)) y)).after refl) (λ _. told_ok w k _ _ p1 p1' p1h refl)))
      (λ _. told_ok w k _ _ s s' sh refl)

  pub bare_by_told : (k : Ceiling) (c : Code) (ce : c.context.module_ ≡ modular) (s : State S) (s' : State Input) (sh : Beside m Live k s s') → Told m Live k (bare_by lm il c s') (bare_by m im c s)
  unfolding bare_by
  bare_by_told k c ce s s' sh = told_iterate w _ _ (λ k2 x sx sx' sxh. bare_step_told k2 c ce x sx sx' sxh) k [] s s' sh

  pub item_by_told : (k : Ceiling) (c : Code) (ce : c.context.module_ ≡ modular) (s : State S) (s' : State Input) (sh : Beside m Live k s s') → Told m Live k (item_by lm il c s') (item_by m im c s)
  unfolding item_by object_rest
  item_by_told k c ce s s' sh = told_at w k dot_dot_dot_kind (refl, refl, refl, refl) s s' sh _ _ _ _ (λ j. told_then w k _ _ _ _ (told.pat k (with_in c) ce (past m s) (past lm s') j.after) (λ p0 p1 p1' p1h. told_if w k (is_structured p0) (is_structured p0) refl _ _ _ _ (λ _. never w k _ _)
      (λ _. told_ok w k _ _ p1 p1' p1h (ap (λ (z : Span). rest_pat z (dots_at (lo (input lm s'))) p0) (span_same w k k s p1 s' p1' sh p1h) ∙ ap (λ (z : ℕ). rest_pat (spanned m (lo (input m s)) p1) (dots_at z) p0) (lo_same w k s s' sh)))))
      (pattern_prop_told w told k c ce s s' sh)

-- ---- from the source to a list

-- the class of a turn: a comma was taken, or what may end with an expression
abbrev turn : Step (List Tree) → ℕ
turn (go_on x) = closed_end
turn (finished x) = 0

module _ {S : Type 0} {m : Stream S} {Live : Pairing m} {modular : Bool} (w : Paired m Live modular) {il : Inner Input} {im : Inner S} (echo : Echoed m Live modular il im) where
  -- a step that takes a token, or is done
  step_unless : {A : Type 0} {E : Step A → ℕ} {e : ℕ} {s : State S} (c : Bool) (d : State Input → Bool) (a : A) (u : Result (Step A × State S) Fault) (v : State Input → Result (Step A × State Input) Fault) → Live.live s.source
      → ((qs : List PlacedToken) → Live.hands 0 qs s.source → d (list_at m Live s qs) ≡ c) → (c ≡ true → Backed m Live E true e s u v) → Keeps e (E (finished a))
      → Steps m Live E false e s (cond c u (Ok (finished a, s))) (λ r. cond (d r) (v r) (Ok (finished a, r)))
  step_unless {s = s} true d a u v l i g o = record { moves = true; so = back_same u v (λ r. cond (d r) (v r) (Ok (finished a, r))) (λ qs h. ap (λ z. cond z (v (list_at m Live s qs)) (Ok (finished a, list_at m Live s qs))) (i qs h)) (g refl); on = λ z. refl; all = λ z. refl }
  step_unless {E = E} {e = e} {s = s} false d a u v l i g o = record { moves = false; so = record { so = (stay l, λ z. absurd (true≢false (sym z)), λ qs h k. (kept Live s e (E (finished a)) qs o k, ap (λ z. cond z (v (list_at m Live s qs)) (Ok (finished a, list_at m Live s qs))) (i qs h))) }; on = λ z. z; all = λ z. z }

  bare_step_steps : (s : State S) (c : Code) (ce : c.context.module_ ≡ modular) (ps : List Tree) (sl : Live.live s.source) → Steps m Live turn false closed_end s (bare_step m im c ps s) (λ r'. bare_step lm il c ps r')
  unfolding bare_step
  bare_step_steps s c ce ps sl = step_unless (starts_param m c s) (λ r'. starts_param lm c r') ps _ _ sl (λ qs h. agrees w (λ z. starts_param lm c (on [] 0 z)) ((λ p q l v. refl), (λ p q l v. refl), (λ p l v. refl)) s sl qs h)
      (λ _. back_then _ _ _ _ (parameter_by_backed w echo s c ce sl) (λ pa pt pu. back_test (at m comma_kind pt && not (is_rest_param m im pa)) (λ r'. at lm comma_kind r' && not (is_rest_param lm il pa)) _ _ _ _
      (λ qs h. ap (λ (z : Bool). z && not (is_rest_param lm il pa)) (at_was w comma_kind (refl, refl, refl, refl) (stay {s = pt} pu.live) qs h) ∙ ap (λ (z : Bool). at m comma_kind pt && not z) (same_rest m im il pa))
      (λ y. let j = here_at w comma_kind (refl, refl, refl, refl) refl pt pu.live (and_first _ _ y) in back_weak _ (back_past w {s = pt} j _ (λ r' q'. Ok (go_on (ps ++ pa ∷ []), q')) (back_ok {s = past m pt} _ _ (live_past w j) (λ qs h. refl) (shut_keeps closed_end))))
      (λ _. back_ok {s = pt} _ _ pu.live (λ qs h. refl) (same_keeps 0)))) (shut_keeps 0)

  pub bare_by_backed : (s : State S) (c : Code) (ce : c.context.module_ ≡ modular) (sl : Live.live s.source) → Backed m Live calm false closed_end s (bare_by m im c s) (λ r'. bare_by lm il c r')
  unfolding bare_by
  bare_by_backed s c ce sl = back_iterate w turn {s = s} false (λ r' x' q'. bare_step lm il c x' q') _ (λ x' t' u'. bare_step_steps t' c ce x' u'.live) [] sl

  pub item_by_backed : (s : State S) (c : Code) (ce : c.context.module_ ≡ modular) (sl : Live.live s.source) → Backed m Live calm true closed_end s (item_by m im c s) (λ r'. item_by lm il c r')
  unfolding item_by object_rest
  item_by_backed s c ce sl = back_at w {s = s} dot_dot_dot_kind (refl, refl, refl, refl) refl sl _ _ _ _ (λ j. back_past w {s = s} j _ (λ r' q'. (il.pat (with_in c) q' >>= λ p. if is_structured p.0 then unexpected lm p.1 else Ok (rest_pat (spanned lm (lo (input lm r')) p.1) (dots_at (lo (input lm r'))) p.0, p.1)))
      (back_then _ _ _ _ (echo.pat (with_in c) ce (past m s) (live_past w j)) (λ pa pt pu. back_test (is_structured pa) (λ r'. is_structured pa) _ _ _ _ (λ qs h. refl) (λ _. back_never) (λ _. back_ok {s = pt} _ _ pu.live
      (λ qs h. ap (λ (z : ℕ). rest_pat (span z (m.last pt.source)) (dots_at (lo (input lm (was m Live (join (token w j) pu) (list_at m Live pt qs))))) pa) (lo_was w (join (token w j) pu) qs h) ∙ ap (λ (z : ℕ). rest_pat (spanned m (lo (input m s)) pt) (dots_at z) pa) (lo_was w (join (token w j) pu) qs h)) (shut_keeps 0)))))
      (pattern_prop_backed w echo s c ce sl)
