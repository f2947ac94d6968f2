-- Scripts and modules (ECMA-262, clause 16): what their rules read of a source is read of a list that it hands out.
use Rattle.std.proofs.Common.{◌≡◌, ℕ, Bool, true, false, not, ◌&&◌, ◌||◌, cond, eqb, List, [], ◌∷◌, ◌++◌, Option, Some, None, Result, Ok, Err, inl, refl, sym, ap, ap₂, ◌∙◌, subst, true≢false, arith, eqb-true}
use Rattle.base_proofs.proofs.Bools.{and_second}
use Rattle.base_token.specs.declared.place.Span.{Span}
use Rattle.base_token.specs.Kinds.{div_kind, div_assign_kind, left_brace_kind, right_brace_kind, comma_kind, str_kind, mul_kind, function_kind, class_kind, import_kind, default_kind, with_kind, shebang_kind, export_kind, as_kind, assert_kind, from_kind}
use Rattle.base_token.specs.Tokens.{Content}
use Rattle.tree_spec.specs.Tree.{Tree, none, pack, ident, absent, more, import_decl, export_decl, named_export, export_default_decl, export_default_expr, export_all, import_named_specifier, import_default_specifier, import_star_as_specifier, export_namespace_specifier, export_named_specifier}
use Rattle.grammar_spec.specs.Tokens.Input.{PlacedToken, Input, Code, kind, kind_of, content, text, is_word, span, brk, in_list, turned_strict, lo}
use Rattle.grammar_spec.specs.Tokens.Shape.{ends, is_use_strict, is_attributes, is_exportable}
use Rattle.grammar_spec.specs.Tokens.Operators.{assignment_level, closed_end, plain_end, exports_end, source_end}
use Rattle.grammar_spec.specs.Reader.Source.{Fault, ◌>>=◌, placed, bound, unexpected, Stream, State, input, past, operand, at, spanned, any_word, go_on, finished, Inner, is_nil, ended}
use Rattle.grammar_spec.specs.Reader.Expressions.{first, literal_by, function_expr_by}
use Rattle.grammar_spec.specs.Reader.Statements.{Body, starts_async}
use Rattle.grammar_spec.specs.Reader.Modules.{line_of, string_by, export_name_by, local_by, attributes_by, source_by, named_import, named_export_item, specifier_step, specifiers_by, star_import, import_end, import_rest, import_default, import_decl_by, export_default, export_star, export_list, starts_declaration, export_by, starts_import, item_by, program_item, program_step, program_tree, program_rest, program_by}
use Rattle.parse_source_laws.specs.Sources.{is_slash}
use Rattle.parse_source_laws.proofs.Beside.{lm, on, same_line}
use Rattle.parse_source_laws.proofs.Pairs.{Pairing, Paired}
use Rattle.parse_source_laws.proofs.Backs.{closed, shown_good, back_two, list_at, Here, Path, was, Backed, Steps, Hands, join, stay, took_join, back_never, back_ok, back_weak, back_same, back_then, back_placed, back_test, step_all, step_test, live_past, token, took_token, back_past, agrees, here_by, back_if, back_at, back_eat, back_word, back_own, back_name, back_any, back_again, back_end, back_iterate_in, back_iterate, lo_was, first_was, content_was, text_was, past_is, Since, since_join, sat, lo_since, took_plain, since_two, hands_if, hands_then, back_turned, back_operand, Echoed}
use Rattle.parse_source_laws.proofs.ConsumedStatements.{edge_shut}
use Rattle.parse_source_laws.proofs.ConsumedExpressions.{class_expr_by_backed, function_expr_by_backed, literal_by_backed, object_by_backed, unnamed}

module _ {S : Type 0} {m : Stream S} {Live : Pairing m} {modular : Bool} (w : Paired m Live modular) {il : Inner Input} {im : Inner S} (echo : Echoed m Live modular il im) where
  word_plain : (k : ℕ) → is_word k ≡ true → is_slash k ≡ false
  word_plain k e = by_slash (is_slash k) refl
    where
      by_div : (b : Bool) → eqb k div_kind ≡ b → (b || eqb k div_assign_kind) ≡ true → is_slash k ≡ false
      by_div true i o = absurd (true≢false (sym e ∙ ap (λ (z : ℕ). is_word z) (eqb-true k div_kind i)))
      by_div false i o = absurd (true≢false (sym e ∙ ap (λ (z : ℕ). is_word z) (eqb-true k div_assign_kind o)))

      by_slash : (b : Bool) → is_slash k ≡ b → is_slash k ≡ false
      by_slash false i = i
      by_slash true i = by_div (eqb k div_kind) refl i

  pub string_by_backed : {e' : ℕ} (s : State S) (sl' : Live.live s.source) → Backed m Live closed true e' s (string_by m im s) (λ r'. string_by lm il r')
  unfolding string_by
  string_by_backed s sl' = back_at w {s = s} str_kind (refl, refl, refl, refl) refl sl' _ _ _ _ (λ j1. literal_by_backed w echo s sl') (back_never)

  pub export_name_by_backed : {e' : ℕ} (s : State S) (sl' : Live.live s.source) → Backed m Live closed true e' s (export_name_by m im s) (λ r'. export_name_by lm il r')
  unfolding export_name_by
  export_name_by_backed s sl' = back_at w {s = s} str_kind (refl, refl, refl, refl) refl sl' _ _ _ _ (λ j1. literal_by_backed w echo s sl') (back_any w {s = s} sl' _ _ (λ n3 j2. back_ok {s = (past m s)} _ _ (live_past w j2) (λ qs' h'. ap (λ (z' : Span). ident (z') n3) (first_was w (token w j2) (took_token w j2) qs' h')) ((λ i'. absurd (true≢false i')), (λ i'. absurd (true≢false i')))))

  pub local_by_backed : {e' : ℕ} (s : State S) (c : Code) (ce : c.context.module_ ≡ modular) (sl' : Live.live s.source) → Backed m Live closed true e' s (local_by m im c s) (λ r'. local_by lm il c r')
  unfolding local_by
  local_by_backed s c ce sl' = back_name w {s = s} c sl' _ _ (λ n2 j1. back_ok {s = (past m s)} _ _ (live_past w j1) (λ qs' h'. ap (λ (z' : Span). ident (z') n2) (first_was w (token w j1) (took_token w j1) qs' h')) ((λ i'. absurd (true≢false i')), (λ i'. absurd (true≢false i'))))

  pub attributes_by_backed : {e' : ℕ} (s : State S) (c : Code) (ce : c.context.module_ ≡ modular) (sl' : Live.live s.source) → Backed m Live closed true e' s (attributes_by m im c s) (λ r'. attributes_by lm il c r')
  unfolding attributes_by
  attributes_by_backed s c ce sl' = back_at w {s = s} left_brace_kind (refl, refl, refl, refl) refl sl' _ _ _ _ (λ j1. back_then _ _ _ _ (object_by_backed w echo s c ce j1) (λ o2a o2s o2u. back_test (is_attributes o2a) (λ r'. is_attributes o2a) _ _ _ _ (λ qs' h'. refl) (λ y4. back_ok {s = o2s} _ _ o2u.live (λ qs' h'. refl) ((λ i'. absurd (true≢false i')), (λ i'. absurd (true≢false i')))) (λ _. back_never))) (back_never)

  pub source_by_backed : {e' : ℕ} (s : State S) (c : Code) (ce : c.context.module_ ≡ modular) (sl' : Live.live s.source) → Backed m Live closed true e' s (source_by m im c s) (λ r'. source_by lm il c r')
  unfolding source_by
  source_by_backed s c ce sl' = back_then _ _ _ _ (string_by_backed s sl') (λ f1a f1s f1u. back_if w {s = f1s} (λ z'. c.syntax.import_attributes && (at lm with_kind (on [] 0 z') || (at lm assert_kind (on [] 0 z') && not (brk (input lm (on [] 0 z')))))) ((λ p' q' l' v'. refl), (λ p' q' l' v'. refl), (λ p' l' v'. refl)) f1u.live _ _ _ _ (λ y3. back_weak _ (back_own w {s = f1s} c (here_by w (λ z'. at lm with_kind (on [] 0 z') || (at lm assert_kind (on [] 0 z') && not (brk (input lm (on [] 0 z'))))) (refl, λ p' v'. refl) f1s f1u.live (and_second (c.syntax.import_attributes) ((at m with_kind f1s || (at m assert_kind f1s && not (brk (input m f1s))))) y3)) _ _ (back_then _ _ _ _ (attributes_by_backed (past m f1s) c ce (live_past w (here_by w (λ z'. at lm with_kind (on [] 0 z') || (at lm assert_kind (on [] 0 z') && not (brk (input lm (on [] 0 z'))))) (refl, λ p' v'. refl) f1s f1u.live (and_second (c.syntax.import_attributes) ((at m with_kind f1s || (at m assert_kind f1s && not (brk (input m f1s))))) y3)))) (λ o5a o5s o5u. back_end w {s = o5s} c plain_end o5u.live (λ i'. absurd (true≢false i')) _ _ (λ e7 e7u. back_ok {s = e7} _ _ e7u.live (λ qs' h'. refl) ((λ i'. absurd (true≢false i')), (λ i'. absurd (true≢false i')))))))) (back_end w {s = f1s} c source_end f1u.live (λ i'. absurd (true≢false i')) _ _ (λ e8 e8u. back_ok {s = e8} _ _ e8u.live (λ qs' h'. refl) ((λ i'. absurd (true≢false i')), (λ i'. absurd (true≢false i'))))))

  string_off : (M : List PlacedToken) → is_word (kind_of M) ≡ true → eqb (kind_of M) str_kind ≡ false
  string_off M e = by_test (eqb (kind_of M) str_kind) (λ i. eqb-true (kind_of M) str_kind i)
    where
      by_test : (b : Bool) → (b ≡ true → kind_of M ≡ str_kind) → b ≡ false
      by_test false f = refl
      by_test true f = absurd (true≢false (sym e ∙ ap (λ (k : ℕ). is_word k) (f refl)))

  -- the name of an export that is a word
  export_word : {T : Type 0} (x : Stream T) (i : Inner T) (s : State T) → is_word (kind (input x s)) ≡ true → export_name_by x i s ≡ Ok (ident (first x i s) (text (input x s)), past x s)
  unfolding export_name_by any_word
  export_word {T} x i s e = ap (λ (b : Bool). cond b (literal_by x i s) (◌>>=◌ {A = List ℕ × State T} (cond (is_word (kind (input x s))) (Ok (text (input x s), past x s)) (unexpected x s)) (λ n. Ok (ident (first x i s) n.0, n.1)))) (string_off (x.seen s.source) e)
      ∙ ap (λ (b : Bool). ◌>>=◌ {A = List ℕ × State T} (cond b (Ok (text (input x s), past x s)) (unexpected x s)) (λ n. Ok (ident (first x i s) n.0, n.1))) e

  back_unlocal : {A : Type 0} {E : A → ℕ} {e : ℕ} {b : Bool} {t : State S} {y : State Input → Result (A × State Input) Fault} (n : ℕ) (c : Code) (s : State S) (g : Tree × State S → Result (A × State S) Fault) → is_word (kind (input m s)) ≡ false → Backed m Live E b e t (placed n (local_by m im c s) >>= g) y
  unfolding local_by
  back_unlocal {A} {E} {e} {b} {t} {y} n c s g i = subst (λ (z : Result (List ℕ × State S) Fault). Backed m Live E b e t (placed n (z >>= λ n. Ok (ident (first m im s) n.0, n.1)) >>= g) y) (sym (unnamed w echo m c s i)) back_never

  -- the name of an export, and what follows it; or the name again
  export_then : {A : Type 0} {F : A → ℕ} {e : ℕ} (s : State S) → Live.live s.source → (g : Tree × State S → Result (A × State S) Fault) (f : State Input → Tree × State Input → Result (A × State Input) Fault)
      → ((j : Here m Live s) (a : Tree) → Backed m Live F false closed_end (past m s) (g (a, past m s)) (λ q. f (was m Live (token w j) q) (a, q)))
      → (is_word (kind (input m s)) ≡ false → (a : Tree) (t : State S) (u : Path m Live s t) → Backed m Live F false closed_end t (g (a, t)) (λ q. f (was m Live u q) (a, q)))
      → Backed m Live F true e s (export_name_by m im s >>= g) (λ r. export_name_by lm il r >>= f r)
  export_then {A} {F} {e} s l g f h n = by_word (is_word (kind (input m s))) refl
    where
      named : (j : Here m Live s) → is_word (kind (input m s)) ≡ true → (a : Tree) → ident (first m im s) (text (input m s)) ≡ a → (y : Result (A × State S) Fault) → g (a, past m s) ≡ y → Backed m Live F true e s y (λ r. export_name_by lm il r >>= f r)
      named j y1 a i (Err d) o = back_never
      named j y1 a i (Ok y) o = let k = subst (λ z. Backed m Live F false closed_end (past m s) z (λ q. f (was m Live (token w j) q) (a, q))) o (h j a) in record {
        so = (
          join (token w j) k.so.0,
          λ z. (omega arith, λ qs. j.fine),
          λ qs z z1. let q = list_at m Live (past m s) (k.so.0.back qs) in let r = list_at m Live s (j.place ∷ k.so.0.back qs) in (
            shown_good w j e (k.so.0.back qs) (k.so.0.hands qs z),
            ap (λ v. v >>= f r) (export_word lm il r (ap (λ (v : List PlacedToken). is_word (kind_of v)) (sym j.seen) ∙ y1))
                ∙ (ap₂ (λ (v : Tree) (p : State Input). f r (v, p)) (ap₂ (λ (v : Span) (p : List ℕ). ident v p) (first_was w (token w j) (took_token w j) (k.so.0.back qs) (k.so.0.hands qs z)) (text_was w (token w j) (took_token w j) (k.so.0.back qs) (k.so.0.hands qs z)) ∙ i) (past_is w j (k.so.0.back qs))
                ∙ (k.so.2 qs z z1).1),
          ),
        );
      }

      by_word : (b : Bool) → is_word (kind (input m s)) ≡ b → Backed m Live F true e s (export_name_by m im s >>= g) (λ r. export_name_by lm il r >>= f r)
      by_word false y1 = back_then _ _ _ _ (export_name_by_backed s l) (λ a t u. n y1 a t u)
      by_word true y1 = subst (λ z. Backed m Live F true e s (z >>= g) (λ r. export_name_by lm il r >>= f r)) (sym (export_word m im s y1))
          (named (here_by w (λ z. is_word (kind_of z)) (refl, λ p v. refl) s l y1) y1 _ refl (g (ident (first m im s) (text (input m s)), past m s)) refl)

  pub named_import_backed : {e : ℕ} (s : State S) (c : Code) (ce : c.context.module_ ≡ modular) (sl' : Live.live s.source) → Backed m Live closed true e s (named_import m im c s) (λ r'. named_import lm il c r')
  unfolding named_import local_by
  named_import_backed s c ce sl' = export_then s sl' _ _ (λ j k. back_at w {s = (past m s)} as_kind (refl, refl, refl, refl) refl (live_past w j) _ _ _ _ (λ j1. back_weak _ (back_word w {s = (past m s)} c as_kind (refl, refl, refl, refl) refl (live_past w j) _ _ (λ j2. back_then _ _ _ _ (local_by_backed (past m (past m s)) c ce (live_past w j2)) (λ l3a l3s l3u. back_ok {s = l3s} _ _ l3u.live (λ qs' h'. ap (λ (z' : ℕ). import_named_specifier ((span z' (m.last l3s.source))) l3a k) (lo_was w (join (join (token w j) (token w j2)) l3u) qs' h')) ((λ i'. absurd (true≢false i')), (λ i'. absurd (true≢false i'))))))) (back_placed _ (λ q. bound lm q) (local_by m im c s) (λ q. local_by lm il c (was m Live (token w j) q)) _ _ (back_then {E = closed} _ _ _ _ (back_again w {s = s} c j _ _ (λ n5. back_ok {s = (past m s)} _ _ (live_past w j) (λ qs' h'. ap (λ (z' : Span). ident (z') n5) (first_was w (token w j) (took_token w j) qs' h')) ((λ i'. absurd (true≢false i')), (λ i'. absurd (true≢false i'))))) (λ l6a l6s l6u. back_ok {s = l6s} _ _ l6u.live (λ qs' h'. ap (λ (z' : ℕ). import_named_specifier ((span z' (m.last l6s.source))) l6a absent) (lo_was w (join (token w j) l6u) qs' h')) ((λ i'. absurd (true≢false i')), (λ i'. absurd (true≢false i')))))))
      (λ ne k r ru. back_weak _ (back_at w {s = r} as_kind (refl, refl, refl, refl) refl ru.live _ _ _ _ (λ j8. back_word w {s = r} c as_kind (refl, refl, refl, refl) refl ru.live _ _ (λ j9. back_then _ _ _ _ (local_by_backed (past m r) c ce (live_past w j9)) (λ l10a l10s l10u. back_ok {s = l10s} _ _ l10u.live (λ qs' h'. ap (λ (z' : ℕ). import_named_specifier ((span z' (m.last l10s.source))) l10a k) (lo_was w (join (join ru (token w j9)) l10u) qs' h')) ((λ i'. absurd (true≢false i')), (λ i'. absurd (true≢false i')))))) (back_unlocal _ c s _ ne)))

  pub named_export_item_backed : {e' : ℕ} (s : State S) (c : Code) (ce : c.context.module_ ≡ modular) (sl' : Live.live s.source) → Backed m Live closed true e' s (named_export_item m im c s) (λ r'. named_export_item lm il c r')
  unfolding named_export_item
  named_export_item_backed s c ce sl' = back_then _ _ _ _ (export_name_by_backed s sl') (λ n1a n1s n1u. back_at w {s = n1s} as_kind (refl, refl, refl, refl) refl n1u.live _ _ _ _ (λ j3. back_weak _ (back_word w {s = n1s} c as_kind (refl, refl, refl, refl) refl n1u.live _ _ (λ j4. back_then _ _ _ _ (export_name_by_backed (past m n1s) (live_past w j4)) (λ e5a e5s e5u. back_ok {s = e5s} _ _ e5u.live (λ qs' h'. ap (λ (z' : ℕ). export_named_specifier ((span z' (m.last e5s.source))) n1a e5a) (lo_was w (join (join n1u (token w j4)) e5u) qs' h')) ((λ i'. absurd (true≢false i')), (λ i'. absurd (true≢false i'))))))) (back_ok {s = n1s} _ _ n1u.live (λ qs' h'. ap (λ (z' : ℕ). export_named_specifier ((span z' (m.last n1s.source))) n1a absent) (lo_was w n1u qs' h')) ((λ i'. absurd (true≢false i')), (λ i'. absurd (true≢false i')))))

  pub specifier_step_backed : {e' : ℕ} (s : State S) (imports : Bool) (c : Code) (ce : c.context.module_ ≡ modular) (xs : List Tree) (sl' : Live.live s.source) → Backed m Live closed true e' s (specifier_step m im imports c xs s) (λ r'. specifier_step lm il imports c xs r')
  unfolding specifier_step
  specifier_step_backed s imports c ce xs sl' = back_at w {s = s} right_brace_kind (refl, refl, refl, refl) refl sl' _ _ _ _ (λ j1. back_past w {s = s} j1 _ (λ r' q'. Ok (finished xs, q')) (back_ok {s = (past m s)} _ _ (live_past w j1) (λ qs' h'. refl) ((λ i'. absurd (true≢false i')), (λ i'. absurd (true≢false i'))))) (back_then _ _ _ _ (back_test imports (λ r'. imports) _ _ _ _ (λ qs' h'. refl) (λ y2. named_import_backed s c ce sl') (λ _. named_export_item_backed s c ce sl')) (λ x3a x3s x3u. back_at w {s = x3s} comma_kind (refl, refl, refl, refl) refl x3u.live _ _ _ _ (λ j5. back_past w {s = x3s} j5 _ (λ r' q'. Ok (go_on (xs ++ x3a ∷ []), q')) (back_ok {s = (past m x3s)} _ _ (live_past w j5) (λ qs' h'. refl) ((λ i'. absurd (true≢false i')), (λ i'. absurd (true≢false i'))))) (back_eat w {s = x3s} right_brace_kind (refl, refl, refl, refl) refl x3u.live _ _ (λ j6. back_ok {s = (past m x3s)} _ _ (live_past w j6) (λ qs' h'. refl) ((λ i'. absurd (true≢false i')), (λ i'. absurd (true≢false i')))))))

  pub specifiers_by_backed : (s : State S) (imports : Bool) (c : Code) (ce : c.context.module_ ≡ modular) (sl' : Live.live s.source) → Backed m Live closed true closed_end s (specifiers_by m im imports c s) (λ r'. specifiers_by lm il imports c r')
  unfolding specifiers_by
  specifiers_by_backed s imports c ce sl' = back_iterate w closed {s = s} true (λ r' x' q'. specifier_step lm il imports c x' q') _ (λ x' t' u'. step_all (specifier_step_backed t' imports c ce x' u'.live)) ([]) sl'

  pub star_import_backed : {e' : ℕ} (s : State S) (c : Code) (ce : c.context.module_ ≡ modular) (sl' : Live.live s.source) → Backed m Live closed true e' s (star_import m im c s) (λ r'. star_import lm il c r')
  unfolding star_import
  star_import_backed s c ce sl' = back_eat w {s = s} mul_kind (refl, refl, refl, refl) refl sl' _ _ (λ j1. back_word w {s = (past m s)} c as_kind (refl, refl, refl, refl) refl (live_past w j1) _ _ (λ j2. back_then _ _ _ _ (local_by_backed (past m (past m s)) c ce (live_past w j2)) (λ l3a l3s l3u. back_ok {s = l3s} _ _ l3u.live (λ qs' h'. ap (λ (z' : ℕ). import_star_as_specifier ((span z' (m.last l3s.source))) l3a) (lo_was w (join (join (token w j1) (token w j2)) l3u) qs' h')) ((λ i'. absurd (true≢false i')), (λ i'. absurd (true≢false i'))))))

  pub import_end_backed : {e' : ℕ} (s : State S) (c : Code) (ce : c.context.module_ ≡ modular) (start : State S) (startu : Path m Live start s) (xs : List Tree) (sl' : Live.live s.source) → Backed m Live closed true e' s (import_end m im c (lo (input m start)) xs s) (λ r'. import_end lm il c (lo (input lm (was m Live startu r'))) xs r')
  unfolding import_end
  import_end_backed s c ce start startu xs sl' = back_word w {s = s} c from_kind (refl, refl, refl, refl) refl sl' _ _ (λ j1. back_then _ _ _ _ (source_by_backed (past m s) c ce (live_past w j1)) (λ f2a f2s f2u. back_ok {s = f2s} _ _ f2u.live (λ qs' h'. ap (λ (z' : ℕ). import_decl ((span z' (m.last f2s.source))) (pack xs) f2a.src f2a.with_) (lo_was w (join (join startu (token w j1)) f2u) qs' h')) ((λ i'. absurd (true≢false i')), (λ i'. absurd (true≢false i')))))

  pub import_rest_backed : {e' : ℕ} (s : State S) (c : Code) (ce : c.context.module_ ≡ modular) (start : State S) (startu : Path m Live start s) (xs : List Tree) (sl' : Live.live s.source) → Backed m Live closed true e' s (import_rest m im c (lo (input m start)) xs s) (λ r'. import_rest lm il c (lo (input lm (was m Live startu r'))) xs r')
  unfolding import_rest
  import_rest_backed s c ce start startu xs sl' = back_at w {s = s} mul_kind (refl, refl, refl, refl) refl sl' _ _ _ _ (λ j1. back_then _ _ _ _ (star_import_backed s c ce sl') (λ x2a x2s x2u. import_end_backed x2s c ce start (join startu x2u) (xs ++ x2a ∷ []) x2u.live)) (back_eat w {s = s} left_brace_kind (refl, refl, refl, refl) refl sl' _ _ (λ j4. back_then _ _ _ _ (specifiers_by_backed (past m s) true c ce (live_past w j4)) (λ ys5a ys5s ys5u. import_end_backed ys5s c ce start (join (join startu (token w j4)) ys5u) (xs ++ ys5a) ys5u.live)))

  pub import_default_backed : {e' : ℕ} (s : State S) (c : Code) (ce : c.context.module_ ≡ modular) (start : State S) (startu : Path m Live start s) (j' : Here m Live s) (ns : is_slash (kind (input m s)) ≡ false) → Backed m Live closed true e' s (import_default m im c (lo (input m start)) s) (λ r'. import_default lm il c (lo (input lm (was m Live startu r'))) r')
  unfolding import_default
  import_default_backed s c ce start startu j' ns = back_then _ _ _ _ (local_by_backed s c ce j'.live) (λ l1a l1s l1u. back_at w {s = l1s} comma_kind (refl, refl, refl, refl) refl l1u.live _ _ _ _ (λ j3. back_past w {s = l1s} j3 _ (λ r' q'. import_rest lm il c (lo (input lm (was m Live (join startu l1u) r'))) (import_default_specifier (first lm il (was m Live l1u r')) l1a ∷ []) q') (back_same _ (λ r'. import_rest lm il c (lo (input lm (was m Live (join (join startu l1u) (token w j3)) r'))) (import_default_specifier ((first m im s)) l1a ∷ []) r') (λ r'. import_rest lm il c (lo (input lm (was m Live (join (join startu l1u) (token w j3)) r'))) (import_default_specifier (first lm il (was m Live (join l1u (token w j3)) r')) l1a ∷ []) r') (λ qs' h'. ap (λ (z' : Span). import_rest lm il c (lo (input lm (was m Live (join (join startu l1u) (token w j3)) (list_at m Live (past m l1s) qs')))) (import_default_specifier (z') l1a ∷ []) (list_at m Live (past m l1s) qs')) (first_was w (join l1u (token w j3)) (took_join l1u (token w j3) (took_plain w j' ns l1u)) qs' h')) (import_rest_backed (past m l1s) c ce start (join (join startu l1u) (token w j3)) (import_default_specifier (first m im s) l1a ∷ []) (live_past w j3)))) (back_same _ (λ r'. import_end lm il c (lo (input lm (was m Live (join startu l1u) r'))) (import_default_specifier ((first m im s)) l1a ∷ []) r') (λ r'. import_end lm il c (lo (input lm (was m Live (join startu l1u) r'))) (import_default_specifier (first lm il (was m Live l1u r')) l1a ∷ []) r') (λ qs' h'. ap (λ (z' : Span). import_end lm il c (lo (input lm (was m Live (join startu l1u) (list_at m Live l1s qs')))) (import_default_specifier (z') l1a ∷ []) (list_at m Live l1s qs')) (first_was w l1u (took_plain w j' ns l1u) qs' h')) (import_end_backed l1s c ce start (join startu l1u) (import_default_specifier (first m im s) l1a ∷ []) l1u.live)))

  pub import_decl_by_backed : {e' : ℕ} (s : State S) (c : Code) (ce : c.context.module_ ≡ modular) (sl' : Live.live s.source) → Backed m Live closed true e' s (import_decl_by m im c s) (λ r'. import_decl_by lm il c r')
  unfolding import_decl_by
  import_decl_by_backed s c ce sl' = back_word w {s = s} c import_kind (refl, refl, refl, refl) refl sl' _ _ (λ j1. back_at w {s = (past m s)} str_kind (refl, refl, refl, refl) refl (live_past w j1) _ _ _ _ (λ j2. back_then _ _ _ _ (source_by_backed (past m s) c ce (live_past w j1)) (λ f3a f3s f3u. back_ok {s = f3s} _ _ f3u.live (λ qs' h'. ap (λ (z' : ℕ). import_decl ((span z' (m.last f3s.source))) none f3a.src f3a.with_) (lo_was w (join (token w j1) f3u) qs' h')) ((λ i'. absurd (true≢false i')), (λ i'. absurd (true≢false i'))))) (back_if w {s = (past m s)} (λ z'. is_word (kind (input lm (on [] 0 z')))) ((λ p' q' l' v'. refl), (λ p' q' l' v'. refl), (λ p' l' v'. refl)) (live_past w j1) _ _ _ _ (λ y5. import_default_backed (past m s) c ce s (token w j1) (here_by w (λ z'. is_word (kind (input lm (on [] 0 z')))) (refl, λ p' v'. refl) (past m s) (live_past w j1) y5) (word_plain (kind (input m (past m s))) y5)) (import_rest_backed (past m s) c ce s (token w j1) ([]) (live_past w j1))))

  pub export_default_backed : (s : State S) (c : Code) (ce : c.context.module_ ≡ modular) (start : State S) (startu : Since m Live start) (sl' : Live.live s.source) → Backed m Live closed true closed_end s (export_default m im c (lo (input m start)) s) (λ r'. export_default lm il c (lo (input lm (sat m Live startu r'))) r')
  unfolding export_default
  export_default_backed s c ce start startu sl' = back_at w {s = s} function_kind (refl, refl, refl, refl) refl sl' _ _ _ _ (λ j1. back_then _ _ _ _ (back_same _ (λ r'. function_expr_by lm il c (lo (input lm ((was m Live (stay {s = s} sl') r')))) false r') (λ r'. function_expr_by lm il c (lo (input lm r')) false r') (λ qs' h'. refl) (function_expr_by_backed w echo s c ce s (stay {s = s} sl') false sl')) (λ d2a d2s d2u. back_ok {s = d2s} _ _ d2u.live (λ qs' h'. ap (λ (z' : ℕ). export_default_decl ((span z' (m.last d2s.source))) d2a) (lo_since w (since_join w startu d2u) qs')) ((λ i'. absurd (true≢false i')), (λ i'. absurd (true≢false i'))))) (back_two w {s = s} (λ z'. starts_async lm il (on [] 0 z')) ((λ p' q' l' v'. refl), (λ p' q' l' v'. refl), (λ n' p' q' l' v'. refl), (λ n' p' q' l' v'. refl), (λ n' p' l' v'. refl)) sl' _ _ _ _ (λ y4. back_past w {s = s} (here_by w (λ z'. starts_async lm il (on [] 0 z')) (refl, λ p' v'. refl) s sl' y4) _ (λ r' q'. (function_expr_by lm il c (lo (input lm r')) true q' >>= λ d. Ok (export_default_decl (spanned lm (lo (input lm (sat m Live startu r'))) d.1) d.0, d.1))) (back_then _ _ _ _ (function_expr_by_backed w echo (past m s) c ce s (token w (here_by w (λ z'. starts_async lm il (on [] 0 z')) (refl, λ p' v'. refl) s sl' y4)) true (live_past w (here_by w (λ z'. starts_async lm il (on [] 0 z')) (refl, λ p' v'. refl) s sl' y4))) (λ d5a d5s d5u. back_ok {s = d5s} _ _ d5u.live (λ qs' h'. ap (λ (z' : ℕ). export_default_decl ((span z' (m.last d5s.source))) d5a) (lo_since w (since_join w (since_join w startu (token w (here_by w (λ z'. starts_async lm il (on [] 0 z')) (refl, λ p' v'. refl) s sl' y4))) d5u) qs')) ((λ i'. absurd (true≢false i')), (λ i'. absurd (true≢false i')))))) (back_at w {s = s} class_kind (refl, refl, refl, refl) refl sl' _ _ _ _ (λ j7. back_then _ _ _ _ (class_expr_by_backed w echo s c ce sl') (λ d8a d8s d8u. back_ok {s = d8s} _ _ d8u.live (λ qs' h'. ap (λ (z' : ℕ). export_default_decl ((span z' (m.last d8s.source))) d8a) (lo_since w (since_join w startu d8u) qs')) ((λ i'. absurd (true≢false i')), (λ i'. absurd (true≢false i'))))) (back_then _ _ _ _ (echo.expr c ce assignment_level s sl') (λ e10a e10s e10u. back_end w {s = e10s} c (ends e10a) e10u.live (λ i'. inl (edge_shut w echo e10a i')) _ _ (λ r12 r12u. back_ok {s = r12} _ _ r12u.live (λ qs' h'. ap (λ (z' : ℕ). export_default_expr ((span z' (m.last r12.source))) e10a) (lo_since w (since_join w (since_join w startu e10u) r12u) qs')) ((λ i'. absurd (true≢false i')), (λ i'. absurd (true≢false i'))))))))

  pub export_star_backed : {e' : ℕ} (s : State S) (c : Code) (ce : c.context.module_ ≡ modular) (start : State S) (startu : Path m Live start s) (sl' : Live.live s.source) → Backed m Live closed true e' s (export_star m im c (lo (input m start)) s) (λ r'. export_star lm il c (lo (input lm (was m Live startu r'))) r')
  unfolding export_star
  export_star_backed s c ce start startu sl' = back_eat w {s = s} mul_kind (refl, refl, refl, refl) refl sl' _ _ (λ j1. back_at w {s = (past m s)} as_kind (refl, refl, refl, refl) refl (live_past w j1) _ _ _ _ (λ j2. back_word w {s = (past m s)} c as_kind (refl, refl, refl, refl) refl (live_past w j1) _ _ (λ j3. back_then _ _ _ _ (export_name_by_backed (past m (past m s)) (live_past w j3)) (λ n4a n4s n4u. back_word w {s = n4s} c from_kind (refl, refl, refl, refl) refl n4u.live _ _ (λ j6. back_then _ _ _ _ (source_by_backed (past m n4s) c ce (live_past w j6)) (λ x7a x7s x7u. back_ok {s = x7s} _ _ x7u.live (λ qs' h'. ap (λ (z' : ℕ). named_export ((span z' (m.last x7s.source))) (more (export_namespace_specifier ((spanned lm (lo (input lm (was m Live (join (join (join (join (token w j1) (token w j3)) n4u) (token w j6)) x7u) (list_at m Live x7s qs')))) (was m Live (join (token w j6) x7u) (list_at m Live x7s qs')))) n4a) none) x7a.src x7a.with_) (lo_was w (join (join (join (join (join startu (token w j1)) (token w j3)) n4u) (token w j6)) x7u) qs' h') ∙ (ap (λ (z' : ℕ). named_export ((spanned m (lo (input m start)) x7s)) (more (export_namespace_specifier ((span z' (m.last n4s.source))) n4a) none) x7a.src x7a.with_) (lo_was w (join (join (join (join (token w j1) (token w j3)) n4u) (token w j6)) x7u) qs' h'))) ((λ i'. absurd (true≢false i')), (λ i'. absurd (true≢false i')))))))) (back_word w {s = (past m s)} c from_kind (refl, refl, refl, refl) refl (live_past w j1) _ _ (λ j9. back_then _ _ _ _ (source_by_backed (past m (past m s)) c ce (live_past w j9)) (λ x10a x10s x10u. back_ok {s = x10s} _ _ x10u.live (λ qs' h'. ap (λ (z' : ℕ). export_all ((span z' (m.last x10s.source))) x10a.src x10a.with_) (lo_was w (join (join (join startu (token w j1)) (token w j9)) x10u) qs' h')) ((λ i'. absurd (true≢false i')), (λ i'. absurd (true≢false i')))))))

  pub export_list_backed : {e' : ℕ} (s : State S) (c : Code) (ce : c.context.module_ ≡ modular) (start : State S) (startu : Path m Live start s) (sl' : Live.live s.source) → Backed m Live closed true e' s (export_list m im c (lo (input m start)) s) (λ r'. export_list lm il c (lo (input lm (was m Live startu r'))) r')
  unfolding export_list
  export_list_backed s c ce start startu sl' = back_eat w {s = s} left_brace_kind (refl, refl, refl, refl) refl sl' _ _ (λ j1. back_then _ _ _ _ (specifiers_by_backed (past m s) false c ce (live_past w j1)) (λ xs2a xs2s xs2u. back_at w {s = xs2s} from_kind (refl, refl, refl, refl) refl xs2u.live _ _ _ _ (λ j4. back_weak _ (back_word w {s = xs2s} c from_kind (refl, refl, refl, refl) refl xs2u.live _ _ (λ j5. back_then _ _ _ _ (source_by_backed (past m xs2s) c ce (live_past w j5)) (λ x6a x6s x6u. back_ok {s = x6s} _ _ x6u.live (λ qs' h'. ap (λ (z' : ℕ). named_export ((span z' (m.last x6s.source))) (pack xs2a) x6a.src x6a.with_) (lo_was w (join (join (join (join startu (token w j1)) xs2u) (token w j5)) x6u) qs' h')) ((λ i'. absurd (true≢false i')), (λ i'. absurd (true≢false i'))))))) (back_end w {s = xs2s} c exports_end xs2u.live (λ i'. absurd (true≢false i')) _ _ (λ e8 e8u. back_ok {s = e8} _ _ e8u.live (λ qs' h'. ap (λ (z' : ℕ). named_export ((span z' (m.last e8.source))) (pack xs2a) absent absent) (lo_was w (join (join (join startu (token w j1)) xs2u) e8u) qs' h')) ((λ i'. absurd (true≢false i')), (λ i'. absurd (true≢false i')))))))

  pub export_by_backed : {e' : ℕ} (s : State S) (c : Code) (ce : c.context.module_ ≡ modular) (sl' : Live.live s.source) → Backed m Live closed true e' s (export_by m im c s) (λ r'. export_by lm il c r')
  unfolding export_by
  export_by_backed s c ce sl' = back_word w {s = s} c export_kind (refl, refl, refl, refl) refl sl' _ _ (λ j1. back_at w {s = (past m s)} default_kind (refl, refl, refl, refl) refl (live_past w j1) _ _ _ _ (λ j2. back_word w {s = (past m s)} c default_kind (refl, refl, refl, refl) refl (live_past w j1) _ _ (λ j3. back_operand w {s = (past m (past m s))} _ (λ r'. export_default lm il c (lo (input lm (was m Live (join (token w j1) (token w j3)) r'))) (r')) (live_past w j3) (export_default_backed (operand m (past m (past m s))) c ce s (since_two w j1 j3) (w.order.live_operand (past m (past m s)).source (live_past w j3))))) (back_at w {s = (past m s)} mul_kind (refl, refl, refl, refl) refl (live_past w j1) _ _ _ _ (λ j4. export_star_backed (past m s) c ce s (token w j1) (live_past w j1)) (back_at w {s = (past m s)} left_brace_kind (refl, refl, refl, refl) refl (live_past w j1) _ _ _ _ (λ j5. export_list_backed (past m s) c ce s (token w j1) (live_past w j1)) (back_two w {s = (past m s)} (λ z'. starts_declaration lm il (in_list c) (on [] 0 z')) ((λ p' q' l' v'. refl), (λ p' q' l' v'. refl), (λ n' p' q' l' v'. refl), (λ n' p' q' l' v'. refl), (λ n' p' l' v'. refl)) (live_past w j1) _ _ _ _ (λ y6. back_then _ _ _ _ (echo.stmt (in_list c) ce (past m s) (live_past w j1)) (λ d7a d7s d7u. back_test (is_exportable d7a) (λ r'. is_exportable d7a) _ _ _ _ (λ qs' h'. refl) (λ y9. back_ok {s = d7s} _ _ d7u.live (λ qs' h'. ap (λ (z' : ℕ). export_decl ((span z' (m.last d7s.source))) d7a) (lo_was w (join (token w j1) d7u) qs' h')) ((λ i'. absurd (true≢false i')), (λ i'. absurd (true≢false i')))) (λ _. back_never))) (back_never)))))

  pub item_by_backed : (s : State S) (modules : Bool) (c : Code) (ce : c.context.module_ ≡ modular) (sl' : Live.live s.source) → Backed m Live closed true closed_end s (item_by m im modules c s) (λ r'. item_by lm il modules c r')
  unfolding item_by
  item_by_backed s modules c ce sl' = back_two w {s = s} (λ z'. starts_import lm il (on [] 0 z')) ((λ p' q' l' v'. refl), (λ p' q' l' v'. refl), (λ n' p' q' l' v'. refl), (λ n' p' q' l' v'. refl), (λ n' p' l' v'. refl)) sl' _ _ _ _ (λ y1. back_test modules (λ r'. modules) _ _ _ _ (λ qs' h'. refl) (λ y2. import_decl_by_backed s c ce sl') (λ _. back_never)) (back_at w {s = s} export_kind (refl, refl, refl, refl) refl sl' _ _ _ _ (λ j3. back_test modules (λ r'. modules) _ _ _ _ (λ qs' h'. refl) (λ y4. export_by_backed s c ce sl') (λ _. back_never)) (echo.stmt c ce s sl'))

  pub program_item_backed : (s : State S) (modules : Bool) (b : Body) (be : b.code.context.module_ ≡ modular) (sl' : Live.live s.source) → Backed m Live closed true closed_end s (program_item m im modules b s) (λ r'. program_item lm il modules b r')
  unfolding program_item
  program_item_backed s modules b be sl' = back_then _ _ _ _ (item_by_backed s modules (in_list b.code) be sl') (λ t1a t1s t1u. back_test (b.starts && is_use_strict t1a) (λ r'. b.starts && is_use_strict t1a) _ _ _ _ (λ qs' h'. refl) (λ y3. back_turned w {s = t1s} ((turned_strict b.code).context) be _ _ t1u.live (λ qs' h'. refl)) (λ _. back_ok {s = t1s} _ _ t1u.live (λ qs' h'. refl) ((λ i'. absurd (true≢false i')), (λ i'. absurd (true≢false i')))))

  pub program_step_steps : (s : State S) (modules : Bool) (b : Body) (be : b.code.context.module_ ≡ modular) (sl' : Live.live s.source) → Steps m Live closed false closed_end s (program_step m im modules b s) (λ r'. program_step lm il modules b r')
  unfolding program_step
  program_step_steps s modules b be sl' = step_test (ended m s) (λ r'. ended lm r') b _ _ sl' (λ qs h g. agrees w (λ z. is_nil z) ((λ p' q' l' v'. refl), (λ p' q' l' v'. refl), (λ p' l' v'. refl)) s sl' qs h)
      (λ _. back_operand w {s = s} _ (λ r'. program_item lm il modules b r') sl' (program_item_backed (operand m s) modules b be (w.order.live_operand s.source sl'))) ((λ i. i), (λ i. i))

  program_step_hands : (modules : Bool) (b : Body) (s : State S) → b.code.context.module_ ≡ modular → Hands m Live (λ (z : Body). z.code.context.module_ ≡ modular) (program_step m im modules b s)
  unfolding program_step program_item
  program_step_hands modules b s e = hands_if (ended m s) _ _ (record { so = tt }) (hands_then (item_by m im modules (in_list b.code) (operand m s)) _ (λ t. hands_if (b.starts && is_use_strict t.0) _ _ (record { so = e }) (record { so = e })))

  pub program_rest_backed : (s : State S) (modules : Bool) (c : Code) (ce : c.context.module_ ≡ modular) (start : State S) (startu : Path m Live start s) (l : Option (List ℕ)) (sl' : Live.live s.source) → Backed m Live closed false closed_end s (program_rest m im modules c (lo (input m start)) l s) (λ r'. program_rest lm il modules c (lo (input lm (was m Live startu r'))) l r')
  unfolding program_rest
  program_rest_backed s modules c ce start startu l sl' = back_then _ _ _ _ (back_iterate_in w (λ (z : Body). z.code.context.module_ ≡ modular) closed false s (λ r' x q'. program_step lm il modules x q') (program_step m im modules) (λ x t u p. program_step_steps t modules x p u.live) (λ x t p. program_step_hands modules x t p) (record { items = []; code = c; starts = true }) ce sl')
      (λ b0 b1 u. back_ok {s = b1} _ _ u.live (λ qs h. ap (λ (z : ℕ). program_tree m im modules (span z (m.last b1.source)) (pack b0.items) l) (lo_was w (join startu u) qs h)) ((λ i'. absurd (true≢false i')), (λ i'. absurd (true≢false i'))))

  pub program_by_backed : (s : State S) (modules : Bool) (c : Code) (ce : c.context.module_ ≡ modular) (sl' : Live.live s.source) → Backed m Live closed false closed_end s (program_by m im modules c s) (λ r'. program_by lm il modules c r')
  unfolding program_by
  program_by_backed s modules c ce sl' = back_at w {s = s} shebang_kind (refl, refl, refl, refl) refl sl' _ _ _ _
      (λ j. back_weak _ (back_past w {s = s} j _ (λ r' q'. elim (line_of lm il (content (input lm r'))) [ None ↦ unexpected lm r' | Some l ↦ program_rest lm il modules c (lo (input lm r')) (Some l) q' ]) (by_line j (line_of m im (content (input m s))) refl)))
      (back_same _ (λ r'. program_rest lm il modules c (lo (input lm (was m Live (stay {s = s} sl') r'))) None r') (λ r'. program_rest lm il modules c (lo (input lm r')) None r') (λ qs h. refl) (program_rest_backed s modules c ce s (stay {s = s} sl') None sl'))
    where
      by_line : (j : Here m Live s) (o : Option (List ℕ)) → line_of m im (content (input m s)) ≡ o → Backed m Live {A = Tree} closed false closed_end (past m s) (elim o [ None ↦ unexpected m s | Some l ↦ program_rest m im modules c (lo (input m s)) (Some l) (past m s) ])
          (λ q'. elim (line_of lm il (content (input lm (was m Live (token w j) q')))) [ None ↦ unexpected lm (was m Live (token w j) q') | Some l ↦ program_rest lm il modules c (lo (input lm (was m Live (token w j) q'))) (Some l) q' ])
      by_line j None e = back_never
      by_line j (Some l) e = back_same _ (λ q'. program_rest lm il modules c (lo (input lm (was m Live (token w j) q'))) (Some l) q') (λ q'. elim (line_of lm il (content (input lm (was m Live (token w j) q')))) [ None ↦ unexpected lm (was m Live (token w j) q') | Some l ↦ program_rest lm il modules c (lo (input lm (was m Live (token w j) q'))) (Some l) q' ])
          (λ qs h. let q = list_at m Live (past m s) qs in ap (λ (z : Option (List ℕ)). elim z [ None ↦ unexpected lm (was m Live (token w j) q) | Some l ↦ program_rest lm il modules c (lo (input lm (was m Live (token w j) q))) (Some l) q ])
          (same_line m im il (content (input lm (was m Live (token w j) q))) ∙ (ap (λ (z : Content). line_of m im z) (content_was w (token w j) (took_token w j) qs h) ∙ e)))
          (program_rest_backed (past m s) modules c ce s (token w j) (Some l) (live_past w j))
