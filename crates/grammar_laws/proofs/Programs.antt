-- Imports, exports and whole programs produce what they are read of.
use Rattle.std.proofs.Common.{◌≡◌, ℕ, ◌⊎◌, inl, inr, Bool, true, false, not, ◌&&◌, ◌||◌, cond, eqb, List, [], ◌∷◌, ◌++◌, Option, Some, None, refl, sym, ap, subst, ⊎_elim, true≢false, append-nil, arith}
use Rattle.std.proofs.lemmas.Bool.{eqb-true, and_parts, not-true, cases_Bool, ne_eqb, or_from, or_left, or_right}
use Rattle.base_proofs.proofs.Bools.{and_false}
use Rattle.base_token.specs.declared.place.Span.{Span}
use Rattle.base_token.specs.Kinds.{left_brace_kind, right_brace_kind, comma_kind, mul_kind, str_kind, shebang_kind, default_kind, function_kind, with_kind, class_kind, export_kind, import_kind, as_kind, assert_kind, async_kind, from_kind}
use Rattle.base_token.specs.Tokens.{Content, Line}
use Rattle.tree_spec.specs.Tree.{Tree, none, more, pack, script, es_module, import_decl, export_decl, named_export, export_default_decl, export_default_expr, export_all, import_named_specifier, import_default_specifier, import_star_as_specifier, export_namespace_specifier, export_named_specifier, ident, absent, str_lit}
use Rattle.grammar_spec.specs.Tokens.Input.{PlacedToken, Input, Code, kind, kind2, brk, brk2, text, content, Takes, TakesWord, lo, hi, span, first_span, is_word, in_list, barred}
use Rattle.grammar_spec.specs.Tokens.Operators.{assignment_level, exports_end, source_end, plain_end}
use Rattle.grammar_spec.specs.Tokens.Shape.{ends, is_absent, is_string, is_item, is_module_decl, is_exportable, is_default_import, is_star_import, is_named_import, is_star_export, is_named_export, export_name, is_attributes, is_rest}
use Rattle.grammar_spec.specs.Children.{child, By, Sorted, Items, Ends, AtEnd, is_ident, is_module_item}
use Rattle.grammar_spec.specs.Modules.{ExportName, NamedImports, AfterDefault, ImportClause, Attributes, Source, NamedExports, ExportDefault, Specified, Hashbang}
use Rattle.grammar_spec.specs.Grammar.{Produces, children}
use Rattle.grammar_spec.specs.Reader.Source.{placed, bound, unexpected, State, Inner, go_on, finished, iterate, is_nil, ended as at_end_of, operand}
use Rattle.grammar_spec.specs.Reader.Statements.{Body as BodyState, starts_async}
use Rattle.grammar_spec.specs.Reader.Expressions.{literal_by, object_by, function_expr_by, class_expr_by}
use Rattle.grammar_spec.specs.Reader.Modules.{From, string_by, export_name_by, local_by, attributes_by, source_by, named_import, named_export_item, specifier_step, specifiers_by, star_import, import_end, import_rest, import_default, import_decl_by, export_default, export_star, export_list, starts_declaration, export_by, starts_import, item_by, program_item, program_step, line_of, program_rest, program_by}
use Rattle.grammar_laws.proofs.Sure.{lm, seen, next, Sure, done, then_sure, then_any, weaken, sure_placed, sure_map, if_sure, test_sure, only_sure, eat_sure, word_sure, any_sure, name_sure, StepSure, loop_sure}
use Rattle.grammar_laws.proofs.Covers.{plain, by_no}
use Rattle.grammar_laws.proofs.Nested.{Sound, named, end_sure, literal_sure}
use Rattle.grammar_laws.proofs.Functions.{Before, All_read, at_start, one_more, at_end, with_last, ListedTrees}
use Rattle.grammar_laws.proofs.Primaries.{soft, object_sure}
use Rattle.grammar_laws.proofs.Prefixes.{function_expr_sure, class_expr_sure}
use Rattle.grammar_laws.proofs.Lists.{BodyFront, BodyWhole, BodySteps, body_goes}
use Rattle.grammar_laws.proofs.Simple.{ended}

-- ---- names and sources

string_name : (t : Tree) → is_string t ≡ true → export_name t ≡ None
string_name (str_lit s u w) e = refl
string_name _ e = absurd (true≢false (sym e))

string_there : (t : Tree) → is_string t ≡ true → is_absent t ≡ false
string_there absent e = absurd (true≢false (sym e))
string_there _ e = refl

attributes_there : (t : Tree) → is_attributes t ≡ true → is_absent t ≡ false
attributes_there absent e = absurd (true≢false (sym e))
attributes_there _ e = refl

abbrev GotName : Code → State Input → Tree × State Input → Type 0
GotName c s x = ExportName (plain c) (export_name x.0) (child x.0 (λ y. Produces x.0 y)) (seen s) (seen x.1) × (is_absent x.0 ≡ false)

abbrev GotString : Code → State Input → Tree × State Input → Type 0
GotString c s x = (is_string x.0 ≡ true) × Produces x.0 (plain c) (seen s) (seen x.1)

abbrev GotFrom : Code → State Input → From × State Input → Type 0
GotFrom c s x = Source (plain c) (child x.0.src (λ y. Produces x.0.src y)) (child x.0.with_ (λ y. Produces x.0.with_ y)) (seen s) (seen x.1) × (is_absent x.0.src ≡ false)

abbrev GotLocal : Code → State Input → Tree × State Input → Type 0
GotLocal c s x = (is_ident x.0 ≡ true) × Produces x.0 (plain c) (seen s) (seen x.1)

module _ (inner : Inner Input) (good : Sound inner) where
  string_sure : (c : Code) (s : State Input) → Sure s.commas (string_by lm inner s) (GotString c s)
  unfolding string_by
  string_sure c s = test_sure s.commas (kind (seen s)) str_kind _ _ _ (λ e. sure_map s.commas (literal_by lm inner s) _ _ (literal_sure inner s) (λ x h. (h.3 e, (h.0 c).produced))) (λ _. record { so = tt })

  export_name_sure : (c : Code) (s : State Input) → Sure s.commas (export_name_by lm inner s) (GotName c s)
  unfolding export_name_by
  export_name_sure c s = test_sure s.commas (kind (seen s)) str_kind _ _ _
      (λ e. sure_map s.commas (literal_by lm inner s) _ _ (literal_sure inner s) (λ x h. (subst (λ o. ExportName (plain c) o (child x.0 (λ y. Produces x.0 y)) (seen s) (seen x.1)) (sym (string_name x.0 (h.3 e))) (h.3 e, (h.0 c).produced), string_there x.0 (h.3 e))))
      (λ _. any_sure s _ _ (λ w. done (ident (first_span (seen s)) (text (seen s)), next s) (GotName c s) (((w, refl, tt, refl), refl), refl)))

  local_sure : (c : Code) (s : State Input) → Sure s.commas (local_by lm inner c s) (GotLocal c s)
  unfolding local_by
  local_sure c s = name_sure c s _ _ (λ i. done (ident (first_span (seen s)) (text (seen s)), next s) (GotLocal c s) (refl, named c s i))

  attributes_sure : (c : Code) (s : State Input) → Sure s.commas (attributes_by lm inner c s) (λ x. (is_attributes x.0 ≡ true) × Produces x.0 (plain c) (seen s) (seen x.1))
  unfolding attributes_by
  attributes_sure c s = test_sure s.commas (kind (seen s)) left_brace_kind _ _ _
      (λ e. then_sure s.commas (object_by lm inner c s) _ _ _ (object_sure inner good c s e) (λ o h. only_sure _ o.1.commas (is_attributes o.0) _ _ (λ z. done o _ (z, h.produced)))) (λ _. record { so = tt })

  source_sure : (c : Code) (s : State Input) → Sure s.commas (source_by lm inner c s) (GotFrom c s)
  unfolding source_by
  source_sure c s = then_sure s.commas (string_by lm inner s) _ _ _ (string_sure c s) (λ f h. let k = kind (seen f.1) in
      if_sure f.1.commas (c.syntax.import_attributes && (eqb k with_kind || (eqb k assert_kind && not (brk (seen f.1))))) _ _ _
      (λ z. let b = and_parts c.syntax.import_attributes (eqb k with_kind || (eqb k assert_kind && not (brk (seen f.1)))) z in
      word_sure c k f.1 _ _ (λ e w. then_sure f.1.commas (attributes_by lm inner c (next f.1)) _ _ _ (attributes_sure c (next f.1)) (λ o g. end_sure c plain_end o.1 _ _ (λ r q y.
      ended o.1 r (record { src = f.0; with_ = o.0 }) (GotFrom c s) q (
        (
          seen f.1,
          h,
          by_no (is_absent o.0) (Ends (plain c) source_end (seen f.1) (seen r)) ((n : Input) × Attributes (plain c) (child o.0 (λ y. Produces o.0 y)) (seen f.1) n × Ends (plain c) plain_end n (seen r)) (attributes_there o.0 g.0)
              (seen o.1, (seen (next f.1), b.0, opens f.1 b.1 w, g.0, g.1), y),
        ),
        string_there f.0 h.0,
      )))))
      (λ _. end_sure c source_end f.1 _ _ (λ r q y. ended f.1 r (record { src = f.0; with_ = absent }) (GotFrom c s) q ((seen f.1, h, y), string_there f.0 h.0))))
    where
      opens : (u : State Input) → (eqb (kind (seen u)) with_kind || (eqb (kind (seen u)) assert_kind && not (brk (seen u)))) ≡ true → barred c.context (seen u) ≡ false → TakesWord (plain c) with_kind (seen u) (seen (next u)) ⊎ ((brk (seen u) ≡ false) × TakesWord (plain c) assert_kind (seen u) (seen (next u)))
      opens u e w = ⊎_elim (λ (z : eqb (kind (seen u)) with_kind ≡ true). inl (eqb-true (kind (seen u)) with_kind z, w, tt, refl))
          (λ (z : eqb (kind (seen u)) with_kind ≡ false). let b = and_parts (eqb (kind (seen u)) assert_kind) (not (brk (seen u))) (subst (λ x. (x || (eqb (kind (seen u)) assert_kind && not (brk (seen u)))) ≡ true) z e) in
          inr (not-true (brk (seen u)) b.1, (eqb-true (kind (seen u)) assert_kind b.0, w, tt, refl))) (cases_Bool (eqb (kind (seen u)) with_kind))

  -- ---- specifiers

  abbrev GotSpecifier : (Tree → Bool) → Code → State Input → Tree × State Input → Type 0
  GotSpecifier sort c s x = (is_rest x.0 ≡ false) × (sort x.0 ≡ true) × Produces x.0 (plain c) (seen s) (seen x.1)

  named_import_sure : (c : Code) (s : State Input) → Sure s.commas (named_import lm inner c s) (GotSpecifier is_named_import c s)
  unfolding named_import
  named_import_sure c s = then_any s.commas (export_name_by lm inner s) _ _ _ (export_name_sure c s) (λ n g h. test_sure s.commas (kind (seen n.1)) as_kind _ _ _
      (λ _. weaken s.commas n.1.commas _ _ g (word_sure c as_kind n.1 _ _ (λ e b. then_sure n.1.commas (local_by lm inner c (next n.1)) _ _ _ (local_sure c (next n.1)) (λ l k.
      done (import_named_specifier (span (lo (seen s)) l.1.source.last) l.0 n.0, l.1) (GotSpecifier is_named_import c s) (
        refl,
        refl,
        (
          by_no (is_absent n.0) (Sorted is_ident (plain c) (child l.0 (λ y. Produces l.0 y)) (seen s) (seen l.1)) ((m : Input) × (o : Input) × ExportName (plain c) (export_name n.0) (child n.0 (λ y. Produces n.0 y)) (seen s) m × TakesWord (plain c) as_kind m o × Sorted is_ident (plain c) (child l.0 (λ y. Produces l.0 y)) o (seen l.1)) h.1
              (seen n.1, seen (next n.1), h.0, (e, b, tt, refl), k),
          refl,
        ),
      )))))
      (λ _. then_sure s.commas (placed (bound lm n.1) (local_by lm inner c s)) _ _ _ (sure_placed (bound lm n.1) s.commas _ _ (local_sure c s)) (λ l k. done (import_named_specifier (span (lo (seen s)) l.1.source.last) l.0 absent, l.1) (GotSpecifier is_named_import c s) (refl, refl, (k, refl)))))

  named_export_sure : (c : Code) (s : State Input) → Sure s.commas (named_export_item lm inner c s) (GotSpecifier is_named_export c s)
  unfolding named_export_item
  named_export_sure c s = then_sure s.commas (export_name_by lm inner s) _ _ _ (export_name_sure c s) (λ n h. test_sure n.1.commas (kind (seen n.1)) as_kind _ _ _
      (λ _. word_sure c as_kind n.1 _ _ (λ e b. then_sure n.1.commas (export_name_by lm inner (next n.1)) _ _ _ (export_name_sure c (next n.1)) (λ l k.
      done (export_named_specifier (span (lo (seen s)) l.1.source.last) n.0 l.0, l.1) (GotSpecifier is_named_export c s) (
        refl,
        refl,
        (
          seen n.1,
          h.0,
          by_no (is_absent l.0) (seen n.1 ≡ seen l.1) ((o : Input) × TakesWord (plain c) as_kind (seen n.1) o × ExportName (plain c) (export_name l.0) (child l.0 (λ y. Produces l.0 y)) o (seen l.1)) k.1 (seen (next n.1), (e, b, tt, refl), k.0),
          refl,
        ),
      ))))
      (λ _. done (export_named_specifier (span (lo (seen s)) n.1.source.last) n.0 absent, n.1) (GotSpecifier is_named_export c s) (refl, refl, (seen n.1, h.0, refl, refl))))

  abbrev Named : (Tree → Bool) → Code → List Tree → Input → Input → Type 0
  Named sort c ys ts r = ListedTrees false (Sorted sort (plain c)) (plain c) right_brace_kind ys ts r

  module _ (sort : Tree → Bool) (imports : Bool) (c : Code) (item : (s : State Input) → Sure s.commas (cond imports (named_import lm inner c s) (named_export_item lm inner c s)) (GotSpecifier sort c s)) where
    step_sure : (ts : Input) (xs : List Tree) (s : State Input) → Before (Named sort c) ts xs s → Sure s.commas (specifier_step lm inner imports c xs s) (StepSure (Before (Named sort c) ts) (All_read (Named sort c) ts))
    unfolding specifier_step
    step_sure ts xs s b = test_sure s.commas (kind (seen s)) right_brace_kind _ _ _ (λ e. done (finished xs, next s) (StepSure (Before (Named sort c) ts) (All_read (Named sort c) ts)) (at_end (Named sort c) ts xs s (next s) b (e, tt, refl))) (λ _.
        then_sure s.commas (cond imports (named_import lm inner c s) (named_export_item lm inner c s)) _ _ _ (item s) (λ x h. test_sure x.1.commas (kind (seen x.1)) comma_kind _ _ _
        (λ e. done (go_on (xs ++ x.0 ∷ []), next x.1) (StepSure (Before (Named sort c) ts) (All_read (Named sort c) ts)) (one_more (Named sort c) ts xs s x.0 (next x.1) b (λ ys r k. (seen x.1, (h.1, h.2), inl (h.0, seen (next x.1), (e, tt, refl), k)))))
        (λ _. eat_sure right_brace_kind x.1 _ _ (λ e. done (finished (xs ++ x.0 ∷ []), next x.1) (StepSure (Before (Named sort c) ts) (All_read (Named sort c) ts)) (with_last (Named sort c) ts xs s x.0 (next x.1) b (seen x.1, (h.1, h.2), inr (tt, (e, tt, refl))))))))

    specifiers_sure : (s : State Input) → Sure s.commas (specifiers_by lm inner imports c s) (λ x. Named sort c x.0 (seen s) (seen x.1))
    unfolding specifiers_by
    specifiers_sure s = sure_map s.commas (iterate _ (specifier_step lm inner imports c) [] s) _ _ (loop_sure (specifier_step lm inner imports c) (Before (Named sort c) (seen s)) (All_read (Named sort c) (seen s)) (λ x r b. step_sure (seen s) x r b) [] s (at_start (Named sort c) (seen s) s refl)) (λ x h. h.so)

  -- ---- imports

  abbrev Clause : Code → List Tree → Input → Input → Type 0
  Clause c xs m n = ImportClause (plain c) (children (pack xs)) m n

  import_end_sure : (c : Code) (start : State Input) (xs : List Tree) (s : State Input) → TakesWord (plain c) import_kind (seen start) (seen (next start)) → (TakesWord (plain c) from_kind (seen s) (seen (next s)) → Clause c xs (seen (next start)) (seen (next s)))
      → Sure s.commas (import_end lm inner c (lo (seen start)) xs s) (λ x. (is_module_decl x.0 ≡ true) × Produces x.0 (plain c) (seen start) (seen x.1))
  unfolding import_end
  import_end_sure c start xs s t f = word_sure c from_kind s _ _ (λ e b. then_sure s.commas (source_by lm inner c (next s)) _ _ _ (source_sure c (next s)) (λ u h.
      done (import_decl (span (lo (seen start)) u.1.source.last) (pack xs) u.0.src u.0.with_, u.1) _ (refl, (seen (next start), seen (next s), t, f (e, b, tt, refl), h.0, refl))))

  abbrev GotItem : Code → State Input → Tree × State Input → Type 0
  GotItem c s x = (is_module_decl x.0 ≡ true) × Produces x.0 (plain c) (seen s) (seen x.1)

  -- after what stands before a star or a list
  import_rest_sure : (c : Code) (start : State Input) (xs : List Tree) (s : State Input) → TakesWord (plain c) import_kind (seen start) (seen (next start))
      → ((l : Tree) (p : Span) (m n : Input) → Produces (import_star_as_specifier p l) (plain c) (seen s) m → TakesWord (plain c) from_kind m n → Clause c (xs ++ import_star_as_specifier p l ∷ []) (seen (next start)) n)
      → ((ys : List Tree) (m n : Input) → NamedImports (plain c) (children (pack ys)) (seen s) m → TakesWord (plain c) from_kind m n → Clause c (xs ++ ys) (seen (next start)) n)
      → Sure s.commas (import_rest lm inner c (lo (seen start)) xs s) (GotItem c start)
  unfolding import_rest star_import
  import_rest_sure c start xs s t f g = test_sure s.commas (kind (seen s)) mul_kind _ _ _
      (λ _. then_sure s.commas _ _ (λ x. (l : Tree) × (p : Span) × (x.0 ≡ import_star_as_specifier p l) × Produces (import_star_as_specifier p l) (plain c) (seen s) (seen x.1)) _
      (eat_sure mul_kind s _ _ (λ e. word_sure c as_kind (next s) _ _ (λ z b. then_sure s.commas (local_by lm inner c (next (next s))) _ _ _ (local_sure c (next (next s))) (λ l h.
      done (import_star_as_specifier (span (lo (seen s)) l.1.source.last) l.0, l.1) _ (l.0, span (lo (seen s)) l.1.source.last, refl, (seen (next s), seen (next (next s)), (e, tt, refl), (z, b, tt, refl), h, refl))))))
      (λ x h. import_end_sure c start (xs ++ x.0 ∷ []) x.1 t (λ w. subst (λ y. Clause c (xs ++ y ∷ []) (seen (next start)) (seen (next x.1))) (sym h.2) (f h.0 h.1 (seen x.1) (seen (next x.1)) h.3 w))))
      (λ _. eat_sure left_brace_kind s _ _ (λ e. then_sure s.commas (specifiers_by lm inner true c (next s)) _ _ _ (specifiers_sure is_named_import true c (λ u. named_import_sure c u) (next s)) (λ ys h.
      import_end_sure c start (xs ++ ys.0) ys.1 t (λ w. g ys.0 (seen ys.1) (seen (next ys.1)) (seen (next s), (e, tt, refl), h) w))))

  named_kind : (y : Tree) → is_named_import y ≡ true → (is_default_import y ≡ false) × (is_star_import y ≡ false)
  named_kind (import_named_specifier s l i) e = (refl, refl)
  named_kind _ e = absurd (true≢false (sym e))

  plain_clause : (c : Code) (ys : List Tree) (ts m n : Input) → NamedImports (plain c) (children (pack ys)) ts m → TakesWord (plain c) from_kind m n → Clause c ys ts n
  plain_clause c [] ts m n h t = inr (m, h, t)
  plain_clause c (y ∷ ys) ts m n h t = let k = named_kind y h.2.1.0 in
      (m, by_no (is_default_import y) _ _ k.0 (by_no (is_star_import y) _ _ k.1 h), t)

  after_default : (c : Code) (ys : List Tree) (ts u m : Input) → Takes (plain c) comma_kind ts u → NamedImports (plain c) (children (pack ys)) u m → AfterDefault (plain c) (children (pack ys)) ts m
  after_default c [] ts u m t h = inr (u, t, h)
  after_default c (y ∷ ys) ts u m t h = (u, t, by_no (is_star_import y) _ _ (named_kind y h.2.1.0).1 h)

  local_here : (c : Code) (s : State Input) → Sure s.commas (local_by lm inner c s) (λ x. GotLocal c s x × (hi (seen s) ≡ (seen x.1).last))
  unfolding local_by
  local_here c s = name_sure c s _ _ (λ i. done (ident (first_span (seen s)) (text (seen s)), next s) _ ((refl, named c s i), refl))

  import_default_sure : (c : Code) (start : State Input) → TakesWord (plain c) import_kind (seen start) (seen (next start)) → Sure start.commas (import_default lm inner c (lo (seen start)) (next start)) (GotItem c start)
  unfolding import_default
  import_default_sure c start t = let s = next start in then_sure s.commas (local_by lm inner c s) _ _ _ (local_here c s) (λ l h.
      let d = import_default_specifier (first_span (seen s)) l.0 in
      let k : Produces d (plain c) (seen s) (seen l.1) = (h.0, ap (λ n. span (lo (seen s)) n) h.1) in
      test_sure l.1.commas (kind (seen l.1)) comma_kind _ _ _
      (λ e. import_rest_sure c start (d ∷ []) (next l.1) t
      (λ y p m n q w. (m, (seen l.1, k, (seen (next l.1), (e, tt, refl), (tt, q))), w))
      (λ ys m n q w. (m, (seen l.1, k, after_default c ys (seen l.1) (seen (next l.1)) m (e, tt, refl) q), w)))
      (λ _. import_end_sure c start (d ∷ []) l.1 t (λ w. (seen l.1, (seen l.1, k, inl refl), w))))

  import_sure : (c : Code) (s : State Input) → Sure s.commas (import_decl_by lm inner c s) (GotItem c s)
  unfolding import_decl_by
  import_sure c s = word_sure c import_kind s _ _ (λ e b. test_sure s.commas (kind (seen (next s))) str_kind _ _ _
      (λ _. then_sure s.commas (source_by lm inner c (next s)) _ _ _ (source_sure c (next s)) (λ u h. done (import_decl (span (lo (seen s)) u.1.source.last) none u.0.src u.0.with_, u.1) (GotItem c s) (refl, (seen (next s), seen (next s), (e, b, tt, refl), inl refl, h.0, refl))))
      (λ _. if_sure s.commas (is_word (kind (seen (next s)))) _ _ _ (λ _. import_default_sure c s (e, b, tt, refl))
      (λ _. import_rest_sure c s [] (next s) (e, b, tt, refl) (λ y p m n q w. (m, (tt, q), w)) (λ ys m n q w. plain_clause c ys (seen (next s)) m n q w))))

  -- ---- exports

  export_default_sure : (c : Code) (start : State Input) (s : State Input) → ExportDefault (plain c) (seen start) (seen s) → Sure s.commas (export_default lm inner c (lo (seen start)) s) (GotItem c start)
  unfolding export_default
  export_default_sure c start s t = test_sure s.commas (kind (seen s)) function_kind _ _ _
      (λ _. then_sure s.commas (function_expr_by lm inner c (lo (seen s)) false s) _ _ _ (function_expr_sure inner good c s false s refl) (λ d h. done (export_default_decl (span (lo (seen start)) d.1.source.last) d.0, d.1) (GotItem c start) (refl, (seen s, t, h.1, h.0.produced, refl)))) (λ nf.
      if_sure s.commas (starts_async lm inner s) _ _ _ (λ z. let b = and_parts (eqb (kind (seen s)) async_kind) (eqb (kind2 (seen s)) function_kind && not (brk2 (seen s))) z in let w = and_parts (eqb (kind2 (seen s)) function_kind) (not (brk2 (seen s))) b.1 in
      let e = eqb-true (kind (seen s)) async_kind b.0 in
      then_sure s.commas (function_expr_by lm inner c (lo (seen s)) true (next s)) _ _ _ (function_expr_sure inner good c s true (next s) ((e, soft c async_kind s e and_false, tt, refl), not-true (brk2 (seen s)) w.1)) (λ d h. done (export_default_decl (span (lo (seen start)) d.1.source.last) d.0, d.1) (GotItem c start) (refl, (seen s, t, h.1, h.0.produced, refl)))) (λ na.
      test_sure s.commas (kind (seen s)) class_kind _ _ _
      (λ _. then_sure s.commas (class_expr_by lm inner c s) _ _ _ (class_expr_sure inner good c s) (λ d h. done (export_default_decl (span (lo (seen start)) d.1.source.last) d.0, d.1) (GotItem c start) (refl, (seen s, t, h.1, h.0.produced, refl)))) (λ nc.
      then_sure s.commas (inner.expr c assignment_level s) _ _ _ (good.expr c assignment_level s (omega arith)) (λ e h. end_sure c (ends e.0) e.1 _ _ (λ r q z. ended e.1 r (export_default_expr (span (lo (seen start)) r.source.last) e.0) (GotItem c start) q
      (refl, (seen s, seen e.1, t, ap not (or_from _ _ (ne_eqb (kind (seen s)) function_kind nf) (or_from _ _ (ne_eqb (kind (seen s)) class_kind nc) na)), (h.0, h.1.produced), z, refl)))))))

  export_star_sure : (c : Code) (start : State Input) (s : State Input) → TakesWord (plain c) export_kind (seen start) (seen s) → Sure s.commas (export_star lm inner c (lo (seen start)) s) (GotItem c start)
  unfolding export_star
  export_star_sure c start s t = eat_sure mul_kind s _ _ (λ e. test_sure s.commas (kind (seen (next s))) as_kind _ _ _
      (λ _. word_sure c as_kind (next s) _ _ (λ z b. then_sure s.commas (export_name_by lm inner (next (next s))) _ _ _ (export_name_sure c (next (next s))) (λ n h. word_sure c from_kind n.1 _ _ (λ q w. then_sure n.1.commas (source_by lm inner c (next n.1)) _ _ _ (source_sure c (next n.1)) (λ x k.
      done (named_export (span (lo (seen start)) x.1.source.last) (more (export_namespace_specifier (span (lo (seen s)) n.1.source.last) n.0) none) x.0.src x.0.with_, x.1) (GotItem c start)
      (refl, (seen s, t, (tt, (seen n.1, seen (next n.1), (seen (next s), seen (next (next s)), (e, tt, refl), (z, b, tt, refl), h.0, refl), (q, w, tt, refl), k.0)), refl)))))))
      (λ _. word_sure c from_kind (next s) _ _ (λ q w. then_sure s.commas (source_by lm inner c (next (next s))) _ _ _ (source_sure c (next (next s))) (λ x k.
      done (export_all (span (lo (seen start)) x.1.source.last) x.0.src x.0.with_, x.1) (GotItem c start) (refl, (seen s, seen (next s), seen (next (next s)), t, (e, tt, refl), (q, w, tt, refl), k.0, refl))))))

  named_exported : (y : Tree) → is_named_export y ≡ true → is_star_export y ≡ false
  named_exported (export_named_specifier s o e) h = refl
  named_exported _ h = absurd (true≢false (sym h))

  specified : (c : Code) (ys : List Tree) (src w : Tree) (ts m r : Input) → NamedExports (plain c) (children (pack ys)) ts m
      → By (is_absent src) ((is_absent w ≡ true) × Ends (plain c) exports_end m r) ((n : Input) × TakesWord (plain c) from_kind m n × Source (plain c) (child src (λ y. Produces src y)) (child w (λ y. Produces w y)) n r)
      → Specified (plain c) (children (pack ys)) (child src (λ y. Produces src y)) (child w (λ y. Produces w y)) ts r
  specified c [] src w ts m r h k = (m, h, k)
  specified c (y ∷ ys) src w ts m r h k = by_no (is_star_export y) _ _ (named_exported y h.2.1.0) (m, h, k)

  export_list_sure : (c : Code) (start : State Input) (s : State Input) → TakesWord (plain c) export_kind (seen start) (seen s) → Sure s.commas (export_list lm inner c (lo (seen start)) s) (GotItem c start)
  unfolding export_list
  export_list_sure c start s t = eat_sure left_brace_kind s _ _ (λ e. then_sure s.commas (specifiers_by lm inner false c (next s)) _ _ _ (specifiers_sure is_named_export false c (λ u. named_export_sure c u) (next s)) (λ xs h. test_sure xs.1.commas (kind (seen xs.1)) from_kind _ _ _
      (λ _. word_sure c from_kind xs.1 _ _ (λ q w. then_sure xs.1.commas (source_by lm inner c (next xs.1)) _ _ _ (source_sure c (next xs.1)) (λ x k. done (named_export (span (lo (seen start)) x.1.source.last) (pack xs.0) x.0.src x.0.with_, x.1) (GotItem c start) (
        refl,
        (
          seen s,
          t,
          specified c xs.0 x.0.src x.0.with_ (seen s) (seen xs.1) (seen x.1) (seen (next s), (e, tt, refl), h)
              (by_no (is_absent x.0.src) ((is_absent x.0.with_ ≡ true) × Ends (plain c) exports_end (seen xs.1) (seen x.1)) ((n : Input) × TakesWord (plain c) from_kind (seen xs.1) n × Source (plain c) (child x.0.src (λ y. Produces x.0.src y)) (child x.0.with_ (λ y. Produces x.0.with_ y)) n (seen x.1)) k.1 (seen (next xs.1), (q, w, tt, refl), k.0)),
          refl,
        ),
      ))))
      (λ _. end_sure c exports_end xs.1 _ _ (λ r q z. ended xs.1 r (named_export (span (lo (seen start)) r.source.last) (pack xs.0) absent absent) (GotItem c start) q (refl, (seen s, t, specified c xs.0 absent absent (seen s) (seen xs.1) (seen r) (seen (next s), (e, tt, refl), h) (refl, z), refl))))))

  export_sure : (c : Code) (s : State Input) → Sure s.commas (export_by lm inner c s) (GotItem c s)
  unfolding export_by
  export_sure c s = word_sure c export_kind s _ _ (λ e b.
      test_sure s.commas (kind (seen (next s))) default_kind _ _ _ (λ _. word_sure c default_kind (next s) _ _ (λ z w. export_default_sure c s (operand lm (next (next s))) (seen (next s), (e, b, tt, refl), (z, w, tt, refl)))) (λ _.
      test_sure s.commas (kind (seen (next s))) mul_kind _ _ _ (λ _. export_star_sure c s (next s) (e, b, tt, refl)) (λ _.
      test_sure s.commas (kind (seen (next s))) left_brace_kind _ _ _ (λ _. export_list_sure c s (next s) (e, b, tt, refl)) (λ _.
      if_sure s.commas (starts_declaration lm inner (in_list c) (next s)) _ _ _ (λ _. then_sure s.commas (inner.stmt (in_list c) (next s)) _ _ _ (good.stmt (in_list c) (next s)) (λ d h. only_sure _ d.1.commas (is_exportable d.0) _ _ (λ z.
      done (export_decl (span (lo (seen s)) d.1.source.last) d.0, d.1) (GotItem c s) (refl, (seen (next s), (e, b, tt, refl), z, h.1, refl))))) (λ _. record { so = tt })))))

  -- ---- programs

  abbrev May : Bool → Tree → Bool
  May modules t = cond modules (is_module_item t) (is_item t)

  pub item_sure : (modules : Bool) (c : Code) (s : State Input) → Sure s.commas (item_by lm inner modules (in_list c) s) (λ x. (May modules x.0 ≡ true) × Produces x.0 (plain (in_list c)) (seen s) (seen x.1))
  unfolding item_by
  item_sure true c s = if_sure s.commas (starts_import lm inner s) _ _ _ (λ _. sure_map s.commas (import_decl_by lm inner (in_list c) s) _ _ (import_sure (in_list c) s) (λ x h. (or_right (is_item x.0) (is_module_decl x.0) h.0, h.1))) (λ _.
      test_sure s.commas (kind (seen s)) export_kind _ _ _ (λ _. sure_map s.commas (export_by lm inner (in_list c) s) _ _ (export_sure (in_list c) s) (λ x h. (or_right (is_item x.0) (is_module_decl x.0) h.0, h.1))) (λ _.
      sure_map s.commas (inner.stmt (in_list c) s) _ _ (good.stmt (in_list c) s) (λ x h. (or_left (is_item x.0) (is_module_decl x.0) h.0, h.1))))
  item_sure false c s = if_sure s.commas (starts_import lm inner s) _ _ _ (λ _. record { so = tt }) (λ _. test_sure s.commas (kind (seen s)) export_kind _ _ _ (λ _. record { so = tt }) (λ _. good.stmt (in_list c) s))

  nothing_left : (xs : List PlacedToken) → is_nil xs ≡ true → xs ≡ []
  nothing_left [] e = refl
  nothing_left (x ∷ xs) e = absurd (true≢false (sym e))

  program_step_sure : (modules : Bool) (c : Code) (ts : Input) (b : BodyState) (s : State Input) → BodyFront inner good (May modules) AtEnd c ts b s → Sure s.commas (program_step lm inner modules b s) (BodySteps inner good (May modules) AtEnd c ts)
  unfolding program_step program_item
  program_step_sure modules c ts b s i = if_sure s.commas (at_end_of lm s) _ _ _
      (λ e. done (finished b, s) (BodySteps inner good (May modules) AtEnd c ts) (record { so = subst (λ z. Items (May modules) AtEnd (plain c) true (children (pack z)) ts (seen s)) (append-nil b.items) (i.so [] (seen s) (nothing_left s.source.places e, refl)) }))
      (λ _. then_sure s.commas (item_by lm inner modules (in_list b.code) (operand lm s)) _ _ _ (item_sure modules b.code (operand lm s)) (λ t h. body_goes inner good (May modules) AtEnd c ts b (operand lm s) t i h.0 h.1))

  abbrev GotProgram : Bool → Code → State Input → Tree × State Input → Type 0
  GotProgram modules c s x = Produces x.0 (plain c) (seen s) (seen x.1)

  program_rest_sure : (modules : Bool) (c : Code) (start : State Input) (l : Option (List ℕ)) (s : State Input) → Hashbang (plain c) l (seen start) (seen s) → Sure s.commas (program_rest lm inner modules c (lo (seen start)) l s) (GotProgram modules c start)
  unfolding program_rest
  program_rest_sure true c start l s h = then_sure s.commas (iterate _ (program_step lm inner true) (record { items = []; code = c; starts = true }) s) _ _ _
      (loop_sure (program_step lm inner true) (BodyFront inner good is_module_item AtEnd c (seen s)) (BodyWhole inner good is_module_item AtEnd c (seen s)) (λ x r i. program_step_sure true c (seen s) x r i) (record { items = []; code = c; starts = true }) s (record { so = λ ys r k. k }))
      (λ b k. done (es_module (span (lo (seen start)) b.1.source.last) (pack b.0.items) l, b.1) (GotProgram true c start) (seen s, h, k.so, refl))
  program_rest_sure false c start l s h = then_sure s.commas (iterate _ (program_step lm inner false) (record { items = []; code = c; starts = true }) s) _ _ _
      (loop_sure (program_step lm inner false) (BodyFront inner good is_item AtEnd c (seen s)) (BodyWhole inner good is_item AtEnd c (seen s)) (λ x r i. program_step_sure false c (seen s) x r i) (record { items = []; code = c; starts = true }) s (record { so = λ ys r k. k }))
      (λ b k. done (script (span (lo (seen start)) b.1.source.last) (pack b.0.items) l, b.1) (GotProgram false c start) (seen s, h, k.so, refl))

  pub program_sure : (modules : Bool) (c : Code) (s : State Input) → Sure s.commas (program_by lm inner modules c s) (GotProgram modules c s)
  unfolding program_by
  program_sure modules c s = test_sure s.commas (kind (seen s)) shebang_kind _ _ _ (λ e. hashed e (content (seen s)) refl) (λ _. program_rest_sure modules c s None s refl)
    where
      hashed : kind (seen s) ≡ shebang_kind → (x : Content) → content (seen s) ≡ x → Sure s.commas (elim (line_of lm inner x) [ None ↦ unexpected lm s | Some l ↦ program_rest lm inner modules c (lo (seen s)) (Some l) (next s) ]) (GotProgram modules c s)
      hashed e (Line l) q = program_rest_sure modules c s (Some l) (next s) (q, (e, tt, refl))
      hashed e _ q = record { so = tt }
