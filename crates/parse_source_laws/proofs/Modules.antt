-- Scripts and modules (ECMA-262, clause 16): their rules over a source and over the list that it hands out.
use Rattle.std.proofs.Common.{◌≡◌, ℕ, Bool, true, false, not, ◌&&◌, ◌||◌, ◌==◌, List, [], ◌∷◌, ◌++◌, Option, Some, None, refl, ap, ◌∙◌, subst}
use Rattle.base_proofs.proofs.Bools.{and_second, and_first}
use Rattle.base_token.specs.declared.place.Span.{Span}
use Rattle.base_token.specs.Kinds.{div_kind, div_assign_kind, async_kind, left_brace_kind, right_brace_kind, comma_kind, mul_kind, str_kind, shebang_kind, default_kind, function_kind, with_kind, class_kind, export_kind, import_kind, as_kind, assert_kind, from_kind}
use Rattle.base_token.specs.Tokens.{Content}
use Rattle.tree_spec.specs.Tree.{Tree, none, more, pack, import_decl, export_decl, named_export, export_default_decl, export_default_expr, export_all, import_named_specifier, import_default_specifier, import_star_as_specifier, export_namespace_specifier, export_named_specifier, ident, absent}
use Rattle.grammar_spec.specs.Tokens.Input.{Input, Code, kind, brk, content, is_word, in_list, turned_strict, lo}
use Rattle.grammar_spec.specs.Tokens.Operators.{assignment_level}
use Rattle.grammar_spec.specs.Tokens.Shape.{is_use_strict, is_attributes, is_exportable}
use Rattle.grammar_spec.specs.Reader.Source.{is_nil, unexpected, Stream, State, input, past, operand, retold, spanned, at, ended, Inner}
use Rattle.grammar_spec.specs.Reader.Expressions.{first}
use Rattle.grammar_spec.specs.Reader.Statements.{Body, starts_async}
use Rattle.grammar_spec.specs.Reader.Modules.{string_by, export_name_by, local_by, attributes_by, source_by, named_import, named_export_item, specifier_step, specifiers_by, star_import, import_end, import_rest, import_default, import_decl_by, export_default, export_star, export_list, starts_declaration, export_by, starts_import, item_by, program_item, program_step, line_of, program_tree, program_rest, program_by}
use Rattle.parse_source_laws.specs.Sources.{is_slash, Orderly}
use Rattle.parse_source_laws.proofs.Beside.{lm, on, Ceiling, kinded, Beside, Joined, Told, agree1, agree2, span_same, joined_by, joined_at, first_same, content_as, told_ok, never, told_then, told_if, told_at, told_placed, told_eat, told_word, told_own, told_name, told_any, told_end, told_iterate, told_iterate_in, Keeps, keeps_if, keeps_then, turned_beside, told_operand, Refused, refused_then, at_slash, told_refused, Heard, same_line}
use Rattle.parse_source_laws.proofs.Expressions.{literal_by_told, object_by_told, function_expr_by_told, class_expr_by_told}

module _ {S : Type 0} {m : Stream S} {Live : S → Type 0} {modular : Bool} (w : Orderly m Live modular) {il : Inner Input} {im : Inner S} (told : Heard m Live modular il im) where
  -- what stands before a module's attributes
  attributes_joined : (k : Ceiling) (c : Code) (s : State S) (s' : State Input) → Beside m Live k s s' → (c.syntax.import_attributes && (at lm with_kind s' || (at lm assert_kind s' && not (brk (input lm s'))))) ≡ true → Joined m Live k s s'
  attributes_joined k c s s' h y = joined_by w (λ z. (z == with_kind) || (z == assert_kind)) refl refl k s s' h (less (at lm with_kind s') (at lm assert_kind s') (not (brk (input lm s'))) (and_second c.syntax.import_attributes _ y))
    where
      less : (a b d : Bool) → (a || (b && d)) ≡ true → (a || b) ≡ true
      less true b d y = refl
      less false b d y = and_first b d y

  pub string_by_told : (k : Ceiling) (s : State S) (s' : State Input) (sh : Beside m Live k s s') → Told m Live k (string_by lm il s') (string_by m im s)
  unfolding string_by
  string_by_told k s s' sh = told_at w k str_kind (refl, refl, refl, refl) s s' sh _ _ _ _ (λ j1. literal_by_told w told k s s' j1) (never w k _ _)

  pub export_name_by_told : (k : Ceiling) (s : State S) (s' : State Input) (sh : Beside m Live k s s') → Told m Live k (export_name_by lm il s') (export_name_by m im s)
  unfolding export_name_by
  export_name_by_told k s s' sh = told_at w k str_kind (refl, refl, refl, refl) s s' sh _ _ _ _ (λ j1. literal_by_told w told k s s' j1) (told_any w k s s' sh _ _ (λ n0 j2. told_ok w k _ _ (past m s) (past lm s') j2.after (ap (λ (z : Span). ident z n0) (first_same w k s s' j2))))

  pub local_by_told : (k : Ceiling) (c : Code) (ce : c.context.module_ ≡ modular) (s : State S) (s' : State Input) (sh : Beside m Live k s s') → Told m Live k (local_by lm il c s') (local_by m im c s)
  unfolding local_by
  local_by_told k c ce s s' sh = told_name w k c s s' sh _ _ (λ n0 j1. told_ok w k _ _ (past m s) (past lm s') j1.after (ap (λ (z : Span). ident z n0) (first_same w k s s' j1)))

  pub attributes_by_told : (k : Ceiling) (c : Code) (ce : c.context.module_ ≡ modular) (s : State S) (s' : State Input) (sh : Beside m Live k s s') → Told m Live k (attributes_by lm il c s') (attributes_by m im c s)
  unfolding attributes_by
  attributes_by_told k c ce s s' sh = told_at w k left_brace_kind (refl, refl, refl, refl) s s' sh _ _ _ _ (λ j1. told_then w k _ _ _ _ (object_by_told w told k c ce s s' j1) (λ o0 o1 o1' o1h. told_if w k (is_attributes o0) (is_attributes o0) refl _ _ _ _ (λ _. told_ok w k _ _ o1 o1' o1h refl) (λ _. never w k _ _))) (never w k _ _)

  pub source_by_told : (k : Ceiling) (c : Code) (ce : c.context.module_ ≡ modular) (s : State S) (s' : State Input) (sh : Beside m Live k s s') → Told m Live k (source_by lm il c s') (source_by m im c s)
  unfolding source_by
  source_by_told k c ce s s' sh = told_then w k _ _ _ _ (string_by_told k s s' sh) (λ f0 f1 f1' f1h. told_if w k _ _ (agree1 w (λ z. c.syntax.import_attributes && (at lm with_kind (on [] 0 z) || (at lm assert_kind (on [] 0 z) && not (brk (input lm (on [] 0 z)))))) (λ p q l v. refl) (λ p q l v. refl) (λ p l v. refl) k f1 f1' f1h) _ _ _ _ (λ y1. told_own w k c f1 f1' (attributes_joined k c f1 f1' f1h y1) _ _ (told_then w k _ _ _ _ (attributes_by_told k c ce (past m f1) (past lm f1') (attributes_joined k c f1 f1' f1h y1).after) (λ o0 o1 o1' o1h. told_end w k c _ _ refl o1 o1' o1h _ _ (λ e1 e1' e1h. told_ok w k _ _ e1 e1' e1h refl)))) (λ _. told_end w k c _ _ refl f1 f1' f1h _ _ (λ e1 e1' e1h. told_ok w k _ _ e1 e1' e1h refl)))

  pub named_import_told : (k : Ceiling) (c : Code) (ce : c.context.module_ ≡ modular) (s : State S) (s' : State Input) (sh : Beside m Live k s s') → Told m Live k (named_import lm il c s') (named_import m im c s)
  unfolding named_import
  named_import_told k c ce s s' sh = told_then w k _ _ _ _ (export_name_by_told k s s' sh) (λ n0 n1 n1' n1h. told_at w k as_kind (refl, refl, refl, refl) n1 n1' n1h _ _ _ _ (λ j1. told_word w k c as_kind (refl, refl, refl, refl) n1 n1' n1h _ _ (λ j2. told_then w k _ _ _ _ (local_by_told k c ce (past m n1) (past lm n1') j2.after) (λ l0 l1 l1' l1h. told_ok w k _ _ l1 l1' l1h (ap (λ (z : Span). import_named_specifier z l0 n0) (span_same w k k s l1 s' l1' sh l1h))))) (told_placed w _ _ k (local_by lm il c s') (local_by m im c s) _ _ (told_then w k _ _ _ _ (local_by_told k c ce s s' sh) (λ l0 l1 l1' l1h. told_ok w k _ _ l1 l1' l1h (ap (λ (z : Span). import_named_specifier z l0 absent) (span_same w k k s l1 s' l1' sh l1h))))))

  pub named_export_item_told : (k : Ceiling) (c : Code) (ce : c.context.module_ ≡ modular) (s : State S) (s' : State Input) (sh : Beside m Live k s s') → Told m Live k (named_export_item lm il c s') (named_export_item m im c s)
  unfolding named_export_item
  named_export_item_told k c ce s s' sh = told_then w k _ _ _ _ (export_name_by_told k s s' sh) (λ n0 n1 n1' n1h. told_at w k as_kind (refl, refl, refl, refl) n1 n1' n1h _ _ _ _ (λ j1. told_word w k c as_kind (refl, refl, refl, refl) n1 n1' n1h _ _ (λ j2. told_then w k _ _ _ _ (export_name_by_told k (past m n1) (past lm n1') j2.after) (λ e0 e1 e1' e1h. told_ok w k _ _ e1 e1' e1h (ap (λ (z : Span). export_named_specifier z n0 e0) (span_same w k k s e1 s' e1' sh e1h))))) (told_ok w k _ _ n1 n1' n1h (ap (λ (z : Span). export_named_specifier z n0 absent) (span_same w k k s n1 s' n1' sh n1h))))

  pub specifier_step_told : (k : Ceiling) (imports : Bool) (c : Code) (ce : c.context.module_ ≡ modular) (xs : List Tree) (s : State S) (s' : State Input) (sh : Beside m Live k s s') → Told m Live k (specifier_step lm il imports c xs s') (specifier_step m im imports c xs s)
  unfolding specifier_step
  specifier_step_told k imports c ce xs s s' sh = told_at w k right_brace_kind (refl, refl, refl, refl) s s' sh _ _ _ _ (λ j1. told_ok w k _ _ (past m s) (past lm s') j1.after refl) (told_then w k _ _ _ _ (told_if w k (imports) (imports) refl _ _ _ _ (λ _. named_import_told k c ce s s' sh) (λ _. named_export_item_told k c ce s s' sh)) (λ x0 x1 x1' x1h. told_at w k comma_kind (refl, refl, refl, refl) x1 x1' x1h _ _ _ _ (λ j2. told_ok w k _ _ (past m x1) (past lm x1') j2.after refl) (told_eat w k right_brace_kind (refl, refl, refl, refl) x1 x1' x1h _ _ (λ j3. told_ok w k _ _ (past m x1) (past lm x1') j3.after refl))))

  pub specifiers_by_told : (k : Ceiling) (imports : Bool) (c : Code) (ce : c.context.module_ ≡ modular) (s : State S) (s' : State Input) (sh : Beside m Live k s s') → Told m Live k (specifiers_by lm il imports c s') (specifiers_by m im imports c s)
  unfolding specifiers_by
  specifiers_by_told k imports c ce s s' sh = told_iterate w _ _ (λ k2 x1 sx sx' sxh. specifier_step_told k2 imports c ce x1 sx sx' sxh) k [] s s' sh

  pub star_import_told : (k : Ceiling) (c : Code) (ce : c.context.module_ ≡ modular) (s : State S) (s' : State Input) (sh : Beside m Live k s s') → Told m Live k (star_import lm il c s') (star_import m im c s)
  unfolding star_import
  star_import_told k c ce s s' sh = told_eat w k mul_kind (refl, refl, refl, refl) s s' sh _ _ (λ j1. told_word w k c as_kind (refl, refl, refl, refl) (past m s) (past lm s') j1.after _ _ (λ j2. told_then w k _ _ _ _ (local_by_told k c ce (past m (past m s)) (past lm (past lm s')) j2.after) (λ l0 l1 l1' l1h. told_ok w k _ _ l1 l1' l1h (ap (λ (z : Span). import_star_as_specifier z l0) (span_same w k k s l1 s' l1' sh l1h)))))

  pub import_end_told : (k : Ceiling) (c : Code) (ce : c.context.module_ ≡ modular) (startc : Ceiling) (start : State S) (start' : State Input) (starth : Beside m Live startc start start') (xs : List Tree) (s : State S) (s' : State Input) (sh : Beside m Live k s s') → Told m Live k (import_end lm il c (lo (input lm start')) xs s') (import_end m im c (lo (input m start)) xs s)
  unfolding import_end
  import_end_told k c ce startc start start' starth xs s s' sh = told_word w k c from_kind (refl, refl, refl, refl) s s' sh _ _ (λ j1. told_then w k _ _ _ _ (source_by_told k c ce (past m s) (past lm s') j1.after) (λ f0 f1 f1' f1h. told_ok w k _ _ f1 f1' f1h (ap (λ (z : Span). import_decl z (pack xs) f0.src f0.with_) (span_same w startc k start f1 start' f1' starth f1h))))

  pub import_rest_told : (k : Ceiling) (c : Code) (ce : c.context.module_ ≡ modular) (startc : Ceiling) (start : State S) (start' : State Input) (starth : Beside m Live startc start start') (xs : List Tree) (s : State S) (s' : State Input) (sh : Beside m Live k s s') → Told m Live k (import_rest lm il c (lo (input lm start')) xs s') (import_rest m im c (lo (input m start)) xs s)
  unfolding import_rest
  import_rest_told k c ce startc start start' starth xs s s' sh = told_at w k mul_kind (refl, refl, refl, refl) s s' sh _ _ _ _ (λ j1. told_then w k _ _ _ _ (star_import_told k c ce s s' sh) (λ x0 x1 x1' x1h. import_end_told k c ce startc start start' starth (xs ++ x0 ∷ []) x1 x1' x1h)) (told_eat w k left_brace_kind (refl, refl, refl, refl) s s' sh _ _ (λ j2. told_then w k _ _ _ _ (specifiers_by_told k true c ce (past m s) (past lm s') j2.after) (λ ys0 ys1 ys1' ys1h. import_end_told k c ce startc start start' starth (xs ++ ys0) ys1 ys1' ys1h)))

  pub import_default_told : (k : Ceiling) (c : Code) (ce : c.context.module_ ≡ modular) (startc : Ceiling) (start : State S) (start' : State Input) (starth : Beside m Live startc start start') (s : State S) (s' : State Input) (sj : Joined m Live k s s') → Told m Live k (import_default lm il c (lo (input lm start')) s') (import_default m im c (lo (input m start)) s)
  unfolding import_default
  import_default_told k c ce startc start start' starth s s' sj = told_then w k _ _ _ _ (local_by_told k c ce s s' sj.base) (λ l0 l1 l1' l1h. told_at w k comma_kind (refl, refl, refl, refl) l1 l1' l1h _ _ _ _ (λ j1. subst (λ (z : List Tree). Told m Live k (import_rest lm il c (lo (input lm start')) (import_default_specifier (first lm il s') l0 ∷ []) (past lm l1')) (import_rest m im c (lo (input m start)) z (past m l1))) (ap (λ (z : Span). (import_default_specifier z l0 ∷ [])) (first_same w k s s' sj)) (import_rest_told k c ce startc start start' starth (import_default_specifier (first lm il s') l0 ∷ []) (past m l1) (past lm l1') j1.after)) (subst (λ (z : List Tree). Told m Live k (import_end lm il c (lo (input lm start')) (import_default_specifier (first lm il s') l0 ∷ []) l1') (import_end m im c (lo (input m start)) z l1)) (ap (λ (z : Span). (import_default_specifier z l0 ∷ [])) (first_same w k s s' sj)) (import_end_told k c ce startc start start' starth (import_default_specifier (first lm il s') l0 ∷ []) l1 l1' l1h)))

  pub import_decl_by_told : (k : Ceiling) (c : Code) (ce : c.context.module_ ≡ modular) (s : State S) (s' : State Input) (sh : Beside m Live k s s') → Told m Live k (import_decl_by lm il c s') (import_decl_by m im c s)
  unfolding import_decl_by
  import_decl_by_told k c ce s s' sh = told_word w k c import_kind (refl, refl, refl, refl) s s' sh _ _ (λ j1. told_at w k str_kind (refl, refl, refl, refl) (past m s) (past lm s') j1.after _ _ _ _ (λ j2. told_then w k _ _ _ _ (source_by_told k c ce (past m s) (past lm s') j1.after) (λ f0 f1 f1' f1h. told_ok w k _ _ f1 f1' f1h (ap (λ (z : Span). import_decl z none f0.src f0.with_) (span_same w k k s f1 s' f1' sh f1h)))) (told_if w k _ _ (agree1 w (λ z. is_word (kind (input lm (on [] 0 z)))) (λ p q l v. refl) (λ p q l v. refl) (λ p l v. refl) k (past m s) (past lm s') j1.after) _ _ _ _ (λ y3. import_default_told k c ce k s s' sh (past m s) (past lm s') (joined_by w (is_word) refl refl k (past m s) (past lm s') j1.after y3)) (λ _. import_rest_told k c ce k s s' sh [] (past m s) (past lm s') j1.after)))

  pub export_default_told : (k : Ceiling) (c : Code) (ce : c.context.module_ ≡ modular) (startc : Ceiling) (start : State S) (start' : State Input) (starth : Beside m Live startc start start') (s : State S) (s' : State Input) (sh : Beside m Live k s s') → Told m Live k (export_default lm il c (lo (input lm start')) s') (export_default m im c (lo (input m start)) s)
  unfolding export_default
  export_default_told k c ce startc start start' starth s s' sh = told_at w k function_kind (refl, refl, refl, refl) s s' sh _ _ _ _ (λ j1. told_then w k _ _ _ _ (function_expr_by_told w told k c ce k s s' sh false s s' sh) (λ d0 d1 d1' d1h. told_ok w k _ _ d1 d1' d1h (ap (λ (z : Span). export_default_decl z d0) (span_same w startc k start d1 start' d1' starth d1h)))) (told_if w k _ _ (agree2 w (λ z. starts_async lm il (on [] 0 z)) (λ p q l v. refl) (λ p q l v. refl) (λ n p q l v. refl) (λ n p q l v. refl) (λ n p l v. refl) k s s' sh) _ _ _ _ (λ y2. told_then w k _ _ _ _ (function_expr_by_told w told k c ce k s s' sh true (past m s) (past lm s') (joined_at w async_kind (refl, refl, refl, refl) k s s' sh (and_first _ _ y2)).after) (λ d0 d1 d1' d1h. told_ok w k _ _ d1 d1' d1h (ap (λ (z : Span). export_default_decl z d0) (span_same w startc k start d1 start' d1' starth d1h)))) (λ _. told_at w k class_kind (refl, refl, refl, refl) s s' sh _ _ _ _ (λ j3. told_then w k _ _ _ _ (class_expr_by_told w told k c ce s s' sh) (λ d0 d1 d1' d1h. told_ok w k _ _ d1 d1' d1h (ap (λ (z : Span). export_default_decl z d0) (span_same w startc k start d1 start' d1' starth d1h)))) (told_then w k _ _ _ _ (told.expr k c ce assignment_level s s' sh) (λ e0 e1 e1' e1h. told_end w k c _ _ refl e1 e1' e1h _ _ (λ r1 r1' r1h. told_ok w k _ _ r1 r1' r1h (ap (λ (z : Span). export_default_expr z e0) (span_same w startc k start r1 start' r1' starth r1h)))))))

  pub export_star_told : (k : Ceiling) (c : Code) (ce : c.context.module_ ≡ modular) (startc : Ceiling) (start : State S) (start' : State Input) (starth : Beside m Live startc start start') (s : State S) (s' : State Input) (sh : Beside m Live k s s') → Told m Live k (export_star lm il c (lo (input lm start')) s') (export_star m im c (lo (input m start)) s)
  unfolding export_star
  export_star_told k c ce startc start start' starth s s' sh = told_eat w k mul_kind (refl, refl, refl, refl) s s' sh _ _ (λ j1. told_at w k as_kind (refl, refl, refl, refl) (past m s) (past lm s') j1.after _ _ _ _ (λ j2. told_word w k c as_kind (refl, refl, refl, refl) (past m s) (past lm s') j1.after _ _ (λ j3. told_then w k _ _ _ _ (export_name_by_told k (past m (past m s)) (past lm (past lm s')) j3.after) (λ n0 n1 n1' n1h. told_word w k c from_kind (refl, refl, refl, refl) n1 n1' n1h _ _ (λ j4. told_then w k _ _ _ _ (source_by_told k c ce (past m n1) (past lm n1') j4.after) (λ x0 x1 x1' x1h. told_ok w k _ _ x1 x1' x1h (ap (λ (z : Span). named_export z (more (export_namespace_specifier (spanned lm (lo (input lm s')) n1') n0) none) x0.src x0.with_) (span_same w startc k start x1 start' x1' starth x1h) ∙ (ap (λ (z : Span). named_export (spanned m (lo (input m start)) x1) (more (export_namespace_specifier z n0) none) x0.src x0.with_) (span_same w k k s n1 s' n1' sh n1h)))))))) (told_word w k c from_kind (refl, refl, refl, refl) (past m s) (past lm s') j1.after _ _ (λ j5. told_then w k _ _ _ _ (source_by_told k c ce (past m (past m s)) (past lm (past lm s')) j5.after) (λ x0 x1 x1' x1h. told_ok w k _ _ x1 x1' x1h (ap (λ (z : Span). export_all z x0.src x0.with_) (span_same w startc k start x1 start' x1' starth x1h))))))

  pub export_list_told : (k : Ceiling) (c : Code) (ce : c.context.module_ ≡ modular) (startc : Ceiling) (start : State S) (start' : State Input) (starth : Beside m Live startc start start') (s : State S) (s' : State Input) (sh : Beside m Live k s s') → Told m Live k (export_list lm il c (lo (input lm start')) s') (export_list m im c (lo (input m start)) s)
  unfolding export_list
  export_list_told k c ce startc start start' starth s s' sh = told_eat w k left_brace_kind (refl, refl, refl, refl) s s' sh _ _ (λ j1. told_then w k _ _ _ _ (specifiers_by_told k false c ce (past m s) (past lm s') j1.after) (λ xs0 xs1 xs1' xs1h. told_at w k from_kind (refl, refl, refl, refl) xs1 xs1' xs1h _ _ _ _ (λ j2. told_word w k c from_kind (refl, refl, refl, refl) xs1 xs1' xs1h _ _ (λ j3. told_then w k _ _ _ _ (source_by_told k c ce (past m xs1) (past lm xs1') j3.after) (λ x0 x1 x1' x1h. told_ok w k _ _ x1 x1' x1h (ap (λ (z : Span). named_export z (pack xs0) x0.src x0.with_) (span_same w startc k start x1 start' x1' starth x1h))))) (told_end w k c _ _ refl xs1 xs1' xs1h _ _ (λ e1 e1' e1h. told_ok w k _ _ e1 e1' e1h (ap (λ (z : Span). named_export z (pack xs0) absent absent) (span_same w startc k start e1 start' e1' starth e1h))))))

  default_refused : (c : Code) (start r : State Input) → is_slash (kind (input lm r)) ≡ true → Refused (export_default lm il c (lo (input lm start)) r)
  unfolding export_default
  default_refused c start r e = at_slash (λ z. is_slash (kind (input lm z)) ≡ true → Refused (export_default lm il c (lo (input lm start)) z)) (λ o n p l i. refused_then _ _ (told.no_expr c assignment_level (on o n (kinded div_assign_kind p ∷ l)) i))
      (λ o n p l i. refused_then _ _ (told.no_expr c assignment_level (on o n (kinded div_kind p ∷ l)) i)) r e e

  default_told : (k : Ceiling) (c : Code) (ce : c.context.module_ ≡ modular) (startc : Ceiling) (start : State S) (start' : State Input) → Beside m Live startc start start' → (s : State S) (s' : State Input) → Beside m Live k s s' → Told m Live k (export_default lm il c (lo (input lm start')) s') (export_default m im c (lo (input m start)) (operand m s))
  default_told k c ce startc start start' sth s s' h = told_operand w k s s' h (λ e. told_refused m Live k _ _ (default_refused c start' s' e)) (λ oh fresh. export_default_told k c ce startc start start' sth (operand m s) s' oh)

  pub export_by_told : (k : Ceiling) (c : Code) (ce : c.context.module_ ≡ modular) (s : State S) (s' : State Input) (sh : Beside m Live k s s') → Told m Live k (export_by lm il c s') (export_by m im c s)
  unfolding export_by
  export_by_told k c ce s s' sh = told_word w k c export_kind (refl, refl, refl, refl) s s' sh _ _ (λ j. told_at w k default_kind (refl, refl, refl, refl) (past m s) (past lm s') j.after _ _ _ _
      (λ i. told_word w k c default_kind (refl, refl, refl, refl) (past m s) (past lm s') j.after _ _ (λ d. default_told k c ce k s s' sh (past m (past m s)) (past lm (past lm s')) d.after))
      (told_at w k mul_kind (refl, refl, refl, refl) (past m s) (past lm s') j.after _ _ _ _ (λ i. export_star_told k c ce k s s' sh (past m s) (past lm s') j.after)
      (told_at w k left_brace_kind (refl, refl, refl, refl) (past m s) (past lm s') j.after _ _ _ _ (λ i. export_list_told k c ce k s s' sh (past m s) (past lm s') j.after)
      (told_if w k (starts_declaration lm il (in_list c) (past lm s')) (starts_declaration m im (in_list c) (past m s)) (agree2 w (λ z. starts_declaration lm il (in_list c) (on [] 0 z)) (λ p q l v. refl) (λ p q l v. refl) (λ n p q l v. refl) (λ n p q l v. refl) (λ n p l v. refl) k (past m s) (past lm s') j.after) _ _ _ _
      (λ _. told_then w k _ _ _ _ (told.stmt k (in_list c) ce (past m s) (past lm s') j.after) (λ d0 d1 d1' d1h. told_if w k (is_exportable d0) (is_exportable d0) refl _ _ _ _
      (λ _. told_ok w k _ _ d1 d1' d1h (ap (λ (z : Span). export_decl z d0) (span_same w k k s d1 s' d1' sh d1h))) (λ _. never w k _ _))) (λ _. never w k _ _)))))

  pub item_by_told : (k : Ceiling) (modules : Bool) (c : Code) (ce : c.context.module_ ≡ modular) (s : State S) (s' : State Input) (sh : Beside m Live k s s') → Told m Live k (item_by lm il modules c s') (item_by m im modules c s)
  unfolding item_by
  item_by_told k modules c ce s s' sh = told_if w k _ _ (agree2 w (λ z. starts_import lm il (on [] 0 z)) (λ p q l v. refl) (λ p q l v. refl) (λ n p q l v. refl) (λ n p q l v. refl) (λ n p l v. refl) k s s' sh) _ _ _ _ (λ y1. told_if w k (modules) (modules) refl _ _ _ _ (λ _. import_decl_by_told k c ce s s' sh) (λ _. never w k _ _)) (λ _. told_at w k export_kind (refl, refl, refl, refl) s s' sh _ _ _ _ (λ j2. told_if w k (modules) (modules) refl _ _ _ _ (λ _. export_by_told k c ce s s' sh) (λ _. never w k _ _)) (told.stmt k c ce s s' sh))

  pub program_item_told : (k : Ceiling) (modules : Bool) (b : Body) (be : b.code.context.module_ ≡ modular) (s : State S) (s' : State Input) (sh : Beside m Live k s s') → Told m Live k (program_item lm il modules b s') (program_item m im modules b s)
  unfolding program_item
  program_item_told k modules b be s s' sh = told_then w k _ _ _ _ (item_by_told k modules (in_list b.code) be s s' sh) (λ t0 t1 t1' t1h. told_if w k (b.starts && is_use_strict t0) (b.starts && is_use_strict t0) refl _ _ _ _ (λ _. told_ok w k _ _ (retold m (((turned_strict b.code).context)) t1) (retold lm (((turned_strict b.code).context)) t1') (turned_beside w (((turned_strict b.code).context)) be k t1 t1' t1h) refl) (λ _. told_ok w k _ _ t1 t1' t1h refl))

  item_refused : (modules : Bool) (c : Code) (r : State Input) → is_slash (kind (input lm r)) ≡ true → Refused (item_by lm il modules c r)
  unfolding item_by
  item_refused modules c r e = at_slash (λ z. is_slash (kind (input lm z)) ≡ true → Refused (item_by lm il modules c z)) (λ o n p l i. told.no_stmt c (on o n (kinded div_assign_kind p ∷ l)) i) (λ o n p l i. told.no_stmt c (on o n (kinded div_kind p ∷ l)) i) r e e

  -- an item where an operand may start
  pub item_from_told : (k : Ceiling) (modules : Bool) (c : Code) (ce : c.context.module_ ≡ modular) (s : State S) (s' : State Input) (sh : Beside m Live k s s') → Told m Live k (item_by lm il modules c s') (item_by m im modules c (operand m s))
  item_from_told k modules c ce s s' sh = told_operand w k s s' sh (λ e. told_refused m Live k _ _ (item_refused modules c s' e)) (λ oh fresh. item_by_told k modules c ce (operand m s) s' oh)

  program_refused : (modules : Bool) (b : Body) (r : State Input) → is_slash (kind (input lm r)) ≡ true → Refused (program_item lm il modules b r)
  unfolding program_item
  program_refused modules b r e = refused_then _ _ (item_refused modules (in_list b.code) r e)

  pub program_step_told : (k : Ceiling) (modules : Bool) (b : Body) (be : b.code.context.module_ ≡ modular) (s : State S) (s' : State Input) (sh : Beside m Live k s s') → Told m Live k (program_step lm il modules b s') (program_step m im modules b s)
  unfolding program_step
  program_step_told k modules b be s s' sh = told_if w k (ended lm s') (ended m s) (agree1 w (λ z. is_nil z) (λ p q l v. refl) (λ p q l v. refl) (λ p l v. refl) k s s' sh) _ _ _ _ (λ _. told_ok w k _ _ s s' sh refl)
      (λ _. told_operand w k s s' sh (λ e. told_refused m Live k _ _ (program_refused modules b s' e)) (λ oh fresh. program_item_told k modules b be (operand m s) s' oh))

  program_step_keeps : (modules : Bool) (b : Body) (r : State Input) → b.code.context.module_ ≡ modular → Keeps (λ (z : Body). z.code.context.module_ ≡ modular) (program_step lm il modules b r)
  unfolding program_step program_item
  program_step_keeps modules b r e = keeps_if (ended lm r) _ _ (record { so = tt }) (keeps_then _ _ (λ t. keeps_if (b.starts && is_use_strict t.0) _ _ (record { so = e }) (record { so = e })))

  pub program_rest_told : (k : Ceiling) (modules : Bool) (c : Code) (ce : c.context.module_ ≡ modular) (startc : Ceiling) (start : State S) (start' : State Input) (starth : Beside m Live startc start start') (l : Option (List ℕ)) (s : State S) (s' : State Input) (sh : Beside m Live k s s') → Told m Live k (program_rest lm il modules c (lo (input lm start')) l s') (program_rest m im modules c (lo (input m start)) l s)
  unfolding program_rest
  program_rest_told k modules c ce startc start start' starth l s s' sh = told_then w k _ _ _ _ (told_iterate_in w (λ (z : Body). z.code.context.module_ ≡ modular) _ _ (λ k2 x1 sx sx' inv sxh. program_step_told k2 modules x1 inv sx sx' sxh) (λ x1 r' inv. program_step_keeps modules x1 r' inv) k (record { items = []; code = c; starts = true }) s s' ce sh) (λ b0 b1 b1' b1h. told_ok w k _ _ b1 b1' b1h (ap (λ (z : Span). program_tree m im modules z (pack b0.items) l) (span_same w startc k start b1 start' b1' starth b1h)))

  line_told : (k : Ceiling) (modules : Bool) (c : Code) (ce : c.context.module_ ≡ modular) (s : State S) (s' : State Input) → Beside m Live k s s' → (r : State S) (r' : State Input) → Beside m Live k r r' → (t : Option (List ℕ))
      → Told m Live {A = Tree} k (elim t [ None ↦ unexpected lm s' | Some l ↦ program_rest lm il modules c (lo (input lm s')) (Some l) r' ]) (elim t [ None ↦ unexpected m s | Some l ↦ program_rest m im modules c (lo (input m s)) (Some l) r ])
  line_told k modules c ce s s' sh r r' rh None = never w k _ _
  line_told k modules c ce s s' sh r r' rh (Some l) = program_rest_told k modules c ce k s s' sh (Some l) r r' rh

  pub program_by_told : (k : Ceiling) (modules : Bool) (c : Code) (ce : c.context.module_ ≡ modular) (s : State S) (s' : State Input) (sh : Beside m Live k s s') → Told m Live k (program_by lm il modules c s') (program_by m im modules c s)
  unfolding program_by
  program_by_told k modules c ce s s' sh = told_at w k shebang_kind (refl, refl, refl, refl) s s' sh _ _ _ _
      (λ j. subst (λ (z : Option (List ℕ)). Told m Live {A = Tree} k (elim (line_of lm il (content (input lm s'))) [ None ↦ unexpected lm s' | Some l ↦ program_rest lm il modules c (lo (input lm s')) (Some l) (past lm s') ]) (elim z [ None ↦ unexpected m s | Some l ↦ program_rest m im modules c (lo (input m s)) (Some l) (past m s) ]))
      (ap (λ (z : Content). line_of lm il z) (content_as w k s s' j) ∙ same_line m im il (content (input m s))) (line_told k modules c ce s s' sh (past m s) (past lm s') j.after (line_of lm il (content (input lm s')))))
      (program_rest_told k modules c ce k s s' sh None s s' sh)
