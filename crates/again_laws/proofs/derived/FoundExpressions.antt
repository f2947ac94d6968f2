-- Expressions and patterns that are derived from known tokens are read from these.
use Rattle.std.proofs.Common.{◌≡◌, ◌⊎◌, inl, inr, ℕ, Bool, true, false, ◌&&◌, ◌||◌, ◌==◌, Option, Some, None, refl, sym, true≢false}
use Rattle.std.specs.Prelude.{nat_le}
use Rattle.base_proofs.proofs.Bools.{and_false}
use Rattle.base_token.specs.declared.place.Span.{Span}
use Rattle.base_token.specs.Kinds.{right_paren_kind, right_bracket_kind, right_brace_kind, new_kind, import_kind, target_kind, meta_kind, assign_kind}
use Rattle.tree_spec.specs.Tree.{Tree, Trees, none, more, computed_prop_name, array_lit, object_lit, unary_expr, update_expr, bin_expr, assign_expr, member_expr, super_prop_expr, cond_expr, call_expr, new_expr, seq_expr, tpl, tpl_element, tagged_tpl, yield_expr, meta_prop_expr, await_expr, paren_expr, opt_chain_expr, opt_call, super, import, expr_or_spread, spread_element, key_value_prop, assign_prop, array_pat, rest_pat, object_pat, assign_pat, key_value_pat_prop, assign_pat_prop, list, absent}
use Rattle.grammar_spec.specs.Tokens.Input.{Input, Code, Takes, TakesWord}
use Rattle.grammar_spec.specs.Tokens.Shape.{is_absent, is_chain, is_word_name, is_target, is_pattern_prop, is_bound_name, is_element, is_prop, is_cooked, is_key, is_private}
use Rattle.grammar_spec.specs.Tokens.Operators.{assignment_level, expression_level, coalesce_level, unary_level, new_level, call_level, member_level}
use Rattle.grammar_spec.specs.Children.{child, By, Sorted, is_quasi, is_ident, IsEmpty}
use Rattle.grammar_spec.specs.Expressions.{Arguments, ArgumentList, ImportArguments, Bracketed, Dotted, AccessedName, TemplateSpans, Member, SuperProperty, Call, ChainMember, Yield, is_at_most_one}
use Rattle.grammar_spec.specs.Grammar.{Produces, children}
use Rattle.again_laws.specs.Derived.Redo.{Mode, Plain, Headed, Raw, is_tagged, quasi_mode, object_mode, chain_mode}
use Rattle.again_laws.specs.Derived.Faithful.{AreElements}
use Rattle.again_laws.specs.Derived.Every.{every, every_all}
use Rattle.again_laws.specs.Derived.Read.{Knowledge, Read}
use Rattle.again_laws.proofs.derived.FoundParts.{Fine, AllFine, Found, AllFound, took, word, inside, at, whole_test, whole_level, whole_new, whole_left, whole_right, whole_place, whole_item, expr, sorted, choice, commas, listed, object_untagged, untagged_quasi}

module _ (know : Knowledge) where
  -- ---- primary expressions

  pub paren_found : (s : Span) (e : Tree) → Found know e → Found know (paren_expr s e)
  paren_found s e f mode n whole c ts r h l = let y = f Plain refl (whole_level know expression_level e refl h.3.0) _ h.0 h.1 h.3.1 (took know c _ ts h.0 h.2 l) in ((tt, y.0), took know c _ h.1 r h.4 y.1)

  pub element_found : (s : Span) (d : Option Span) (e : Tree) → Found know e → Found know (expr_or_spread s d e)
  element_found s None e f mode n whole c ts r h l = let y = f Plain refl (whole_level know assignment_level e refl h.0.0) _ ts r h.0.1 l in ((tt, y.0), y.1)
  element_found s (Some d) e f mode n whole c ts r h l = let y = f Plain refl (whole_level know assignment_level e refl h.3.0) _ h.0 r h.3.1 (took know c _ ts h.0 h.1 l) in ((tt, y.0), y.1)

  pub array_found : (s : Span) (xs : Trees) → AllFound know xs → Found know (array_lit s xs)
  array_found s xs a mode n whole c ts r h l = let z = listed know true _ (sorted know is_element (λ s b w u. refl) c) c right_bracket_kind xs a h.0 r h.2 (took know c _ ts h.0 h.1 l) in ((tt, z.0), z.1)

  pub object_found : (s : Span) (ps : Trees) → AllFound know ps → Found know (object_lit s ps)
  object_found s ps a mode n whole c ts r h l = let z = listed know false _ (sorted know is_prop (λ s b w u. refl) c) c right_brace_kind ps a h.0 r h.2 (took know c _ ts h.0 h.1 l) in ((tt, z.0), z.1)

  pub property_found : (s : Span) (k v : Tree) → Found know k → Found know v → Found know (key_value_prop s k v)
  property_found s k v f g mode n whole c ts r h l = let y = f Plain refl (whole_test know is_key k (λ s b w u. refl) h.2.0) _ ts h.0 h.2.1 l in let z = g Plain refl (whole_level know assignment_level v refl h.4.0) _ h.1 r h.4.1 (took know c _ h.0 h.1 h.3 y.1) in ((tt, y.0, z.0), z.1)

  pub cover_found : (s : Span) (k e : Tree) → Found know k → Found know e → Found know (assign_prop s k e)
  cover_found s k e f g mode n whole c ts r h l = let y = f Plain refl (whole_test know is_ident k (λ s b w u. refl) h.2.0) _ ts h.0 h.2.1 l in let z = g Plain refl (whole_level know assignment_level e refl h.4.0) _ h.1 r h.4.1 (took know c _ h.0 h.1 h.3 y.1) in ((tt, y.0, z.0), z.1)

  pub spread_found : (s : Span) (e : Tree) → Found know e → Found know (spread_element s e)
  spread_found s e f mode n whole c ts r h l = let y = f Plain refl (whole_level know assignment_level e refl h.2.0) _ h.0 r h.2.1 (took know c _ ts h.0 h.1 l) in ((tt, y.0), y.1)

  pub bracketed : (k : ℕ) → nat_le 1 k ≡ true → (s : Span) (e : Tree) → Found know e → (c : Code) (ts r : Input) → Bracketed k c s (child e (λ y. Produces e y)) ts r → know.Known ts.places → Fine know Plain (computed_prop_name s e) r
  bracketed k o s e f c ts r h l = let y = f Plain refl (whole_level know k e o h.3.0) _ h.0 h.1 h.3.1 (took know c _ ts h.0 h.2 l) in ((tt, y.0), took know c _ h.1 r h.4 y.1)

  pub computed_found : (s : Span) (e : Tree) → Found know e → Found know (computed_prop_name s e)
  computed_found s e f mode n whole c ts r h l = bracketed assignment_level refl s e f c ts r h l

  -- ---- templates

  pub quasi_found : (mode : Mode) (q : Tree) (c : Code) (ts m : Input) → (is_tagged mode ≡ false → is_cooked q ≡ true) → Sorted is_quasi c (child q (λ y. Produces q y)) ts m → know.Known ts.places
      → every (Read know.Known) (quasi_mode mode) q × ((qs : Trees) → AreElements qs → AreElements (more q qs)) × know.Known m.places
  quasi_found mode (tpl_element s t w u) c ts m k h l = ((record { at = ts; known = l; is = h.1.0 }, λ e. k (untagged_quasi know mode e)), (λ qs p. p), inside know c _ _ ts m h.1.1 l)
  quasi_found mode _ c ts m k h l = absurd (true≢false (sym h.0))

  pub cooked : (tagged : Bool) (mode : Mode) (b : Bool) → (is_tagged mode ≡ false → tagged ≡ false) → (tagged || b) ≡ true → is_tagged mode ≡ false → b ≡ true
  cooked false mode b f h n = h
  cooked true mode b f h n = absurd (true≢false (f n))

  pub spans_found : (tagged : Bool) (mode : Mode) → (is_tagged mode ≡ false → tagged ≡ false) → (c : Code) (es qs : Trees) → AllFound know es → (ts r : Input) → TemplateSpans tagged c (children es) (children qs) ts r → know.Known ts.places
      → every_all (Read know.Known) Plain es × every_all (Read know.Known) (quasi_mode mode) qs × AreElements qs × know.Known r.places
  spans_found tagged mode f c es none a ts r h l = absurd h
  spans_found tagged mode f c none (more q none) a ts r h l = let y = quasi_found mode q c ts h.0 (cooked tagged mode (is_cooked q) f h.3) h.4 l in (tt, (y.0, tt), y.1 none tt, inside know c _ _ h.0 r h.5 y.2)
  spans_found tagged mode f c none (more q (more p ps)) a ts r h l = absurd h.1
  spans_found tagged mode f c (more e es) (more q qs) a ts r h l =
      let y = quasi_found mode q c ts h.0 (cooked tagged mode (is_cooked q) f h.5) h.6 l in
      let z = a.0 Plain refl (whole_level know expression_level e refl h.8.0) _ h.1 h.2 h.8.1 (inside know c _ _ h.0 h.1 h.7 y.2) in
      let v = spans_found tagged mode f c es qs a.1 h.3 r h.10 (took know c _ h.2 h.3 h.9 z.1) in
      ((z.0, v.0), (y.0, v.1), y.1 qs v.2, v.3)

  pub template_found : (s : Span) (es qs : Trees) → AllFound know es → Found know (tpl s es qs)
  template_found s es qs a mode n whole c ts r h l = let y = spans_found false mode (λ e. refl) c es qs a h.0 r h.2 (took know c _ ts h.0 h.1 l) in ((y.2, y.0, y.1), y.3)

  pub tagged_found : (s : Span) (t : Tree) (p : Span) (es qs : Trees) → Found know t → AllFound know es → Found know (tagged_tpl s t (tpl p es qs))
  tagged_found s t p es qs f a mode n whole c ts r h l =
      let z = f Headed refl (whole_level know call_level t refl h.2.0) _ ts h.0 h.2.1 l in let y = spans_found true Raw (λ e. absurd (true≢false e)) c es qs a h.3.0 r h.3.2 (took know c _ h.0 h.3.0 h.3.1 z.1) in ((tt, z.0, (y.2, y.0, y.1)), y.3)

  -- ---- members and calls

  pub accessed : (b : Bool) (k : Tree) → Found know k → (c : Code) (ts r : Input) → AccessedName b c (child k (λ y. Produces k y)) ts r → know.Known ts.places → Fine know Plain k r
  accessed b k f c ts r h l = f Plain refl (whole_test know (λ t. is_word_name t || (b && is_private t)) k (λ s t w u. and_false b) h.0) c ts r h.1 l

  pub dotted : (b : Bool) (k : Tree) → Found know k → (c : Code) (ts r : Input) → Dotted b c (child k (λ y. Produces k y)) ts r → know.Known ts.places → Fine know Plain k r
  dotted b k f c ts r h l = accessed b k f c h.0 r h.2 (took know c _ ts h.0 h.1 l)

  -- what follows an object: a name or brackets
  abbrev pub Gives : Tree → (Code → Input → Input → Type 0) → Type 0
  Gives k Access = (c : Code) (ts r : Input) → Access c ts r → know.Known ts.places → Fine know Plain k r

  pub member_found : (s : Span) (o k : Tree) (Access : Code → Input → Input → Type 0) → Found know o → Gives k Access → (mode : Mode) (c : Code) (ts r : Input)
      → Member c s (child o (λ y. Produces o y)) (λ m n. Access c m n) ts r → know.Known ts.places → Fine know mode (member_expr s o k) r
  member_found s o k Access f g mode c ts r h l = let y = f (object_mode mode k) (object_untagged mode k) (whole_level know call_level o refl h.2.0) _ ts h.0 h.2.1 l in let z = g c h.0 r h.3 y.1 in ((tt, y.0, z.0), z.1)

  pub super_found : (s t : Span) (k : Tree) (Access : Code → Input → Input → Type 0) → Gives k Access → (mode : Mode) (c : Code) (ts r : Input)
      → SuperProperty c s t (λ m n. Access c m n) ts r → know.Known ts.places → Fine know mode (super_prop_expr s (super t) k) r
  super_found s t k Access g mode c ts r h l = let z = g c h.0 r h.3 (word know c _ ts h.0 h.1 l) in ((tt, tt, z.0), z.1)

  pub args : (c : Code) (xs : Trees) → AllFound know xs → (ts r : Input) → Arguments c (children xs) ts r → know.Known ts.places → AllFine know Plain xs r
  args c xs a ts r h l = listed know false _ (sorted know is_element (λ s b w u. refl) c) c right_paren_kind xs a h.0 r h.2 (took know c _ ts h.0 h.1 l)

  pub call_found : (s : Span) (f : Tree) (xs : Trees) → Found know f → AllFound know xs → (mode : Mode) (c : Code) (ts r : Input) → Call c s (child f (λ y. Produces f y)) (children xs) ts r → know.Known ts.places
      → Fine know mode (call_expr s f xs) r
  call_found s f xs g a mode c ts r h l = let y = g Headed refl (whole_level know call_level f refl h.2.0) _ ts h.0 h.2.1 l in let z = args c xs a h.0 r h.3 y.1 in ((tt, y.0, z.0), z.1)

  pub super_call_found : (s t : Span) (xs : Trees) → AllFound know xs → Found know (call_expr s (super t) xs)
  super_call_found s t xs a mode n whole c ts r h l = let z = args c xs a h.0 r h.3 (word know c _ ts h.0 h.1 l) in ((tt, tt, z.0), z.1)

  pub import_args : (c : Code) (xs : Trees) → AllFound know xs → (ts r : Input) → ImportArguments c (children xs) ts r → know.Known ts.places → AllFine know Plain xs r
  import_args c none a ts r h l = absurd h
  import_args c (more t us) a ts r h l = by c.syntax.import_attributes h.1
    where
      alone : (us : Trees) → IsEmpty (children us) → every_all (Read know.Known) Plain us
      alone none e = tt
      alone (more u us) e = absurd e

      by : (b : Bool) → By b ((is_at_most_one (children us) ≡ true) × ArgumentList c (children (more t us)) ts r)
          (IsEmpty (children us) × (m : Input) × Sorted is_element c (child t (λ y. Produces t y)) ts m × Takes c right_paren_kind m r) → AllFine know Plain (more t us) r
      by true i = listed know false _ (sorted know is_element (λ s b w u. refl) c) c right_paren_kind (more t us) a ts r i.1 l
      by false i = let y = a.0 Plain refl (whole_test know is_element t (λ s b w u. refl) i.2.0) _ ts i.1 i.2.1 l in ((y.0, alone us i.0), took know c _ i.1 r i.3 y.1)

  pub import_call_found : (s t : Span) (xs : Trees) → AllFound know xs → Found know (call_expr s (import t) xs)
  import_call_found s t xs a mode n whole c ts r h l = let z = import_args c xs a h.1 r h.5 (took know c _ h.0 h.1 h.4 (word know c _ ts h.0 h.2 l)) in ((tt, tt, z.0), z.1)

  pub new_with_found : (s : Span) (f : Tree) (xs : Trees) → Found know f → AllFound know xs → Found know (new_expr s f (list xs))
  new_with_found s f xs g a mode n whole c ts r h l = let y = g Headed refl (whole_level know member_level f refl h.3.0) _ h.0 h.1 h.3.1 (word know c _ ts h.0 h.2 l) in let z = args c xs a h.1 r h.4 y.1 in ((tt, y.0, (tt, z.0)), z.1)

  pub new_bare_found : (s : Span) (f : Tree) → Found know f → Found know (new_expr s f absent)
  new_bare_found s f g mode n whole c ts r h l = let y = g Headed refl (whole_new know f h.2) _ h.0 r h.3 (word know c _ ts h.0 h.1 l) in ((tt, y.0, tt), y.1)

  pub chain_member_found : (s : Span) (q : Bool) (t : Span) (o k : Tree) (Access AccessOptional : Code → Input → Input → Type 0) → Found know o → Gives k Access → Gives k AccessOptional → (mode : Mode) (c : Code) (ts r : Input)
      → ChainMember c s q t (child o (λ y. Produces o y)) (λ m n. Access c m n) (λ m n. AccessOptional c m n) ts r → know.Known ts.places → Fine know mode (opt_chain_expr s q (member_expr t o k)) r
  chain_member_found s true t o k Access AccessOptional f g j mode c ts r h l =
      let y = f (object_mode (chain_mode true) k) (object_untagged (chain_mode true) k) (whole_level know call_level o refl h.2.0) _ ts h.0 h.2.1 l in let z = j c h.1 r h.4 (took know c _ h.3.0 h.1 h.3.2 (took know c _ h.0 h.3.0 h.3.1 y.1)) in ((tt, (tt, y.0, z.0)), z.1)
  chain_member_found s false t o k Access AccessOptional f g j mode c ts r h l =
      let y = f (object_mode (chain_mode false) k) (object_untagged (chain_mode false) k) (whole_test know is_chain o (λ s b w u. refl) h.1) _ ts h.0 h.2 l in let z = g c h.0 r h.3 y.1 in ((tt, (tt, y.0, z.0)), z.1)

  pub chain_call_found : (s : Span) (q : Bool) (t : Span) (f : Tree) (xs : Trees) → Found know f → AllFound know xs → Found know (opt_chain_expr s q (opt_call t f xs))
  chain_call_found s true t f xs g a mode n whole c ts r h l = let y = g Headed refl (whole_level know call_level f refl h.2.0) _ ts h.0 h.2.1 l in let z = args c xs a h.1 r h.4 (took know c _ h.3.0 h.1 h.3.2 (took know c _ h.0 h.3.0 h.3.1 y.1)) in ((tt, (tt, y.0, z.0)), z.1)
  chain_call_found s false t f xs g a mode n whole c ts r h l = let y = g Headed refl (whole_test know is_chain f (λ s b w u. refl) h.1) _ ts h.0 h.2 l in let z = args c xs a h.0 r h.3 y.1 in ((tt, (tt, y.0, z.0)), z.1)

  pub meta_word : (c : Code) (k : ℕ) (m r : Input) → ((k ≡ new_kind) × TakesWord c target_kind m r) ⊎ ((k ≡ import_kind) × TakesWord c meta_kind m r) → know.Known m.places → know.Known r.places
  meta_word c k m r (inl i) l = word know c _ m r i.1 l
  meta_word c k m r (inr i) l = word know c _ m r i.1 l

  pub meta_found : (s : Span) (k : ℕ) → Found know (meta_prop_expr s k)
  meta_found s k mode n whole c ts r h l = (tt, meta_word c k h.1 r h.4 (took know c _ h.0 h.1 h.3 (word know c _ ts h.0 h.2 l)))

  -- ---- operators

  pub unary_found : (s : Span) (op : ℕ) (a : Tree) → Found know a → Found know (unary_expr s op a)
  unary_found s op a f mode n whole c ts r h l = let y = f Plain refl (whole_level know unary_level a refl h.3.0) _ h.0 r h.3.1 (word know c op ts h.0 h.2 l) in ((tt, y.0), y.1)

  pub update_found : (s : Span) (op : ℕ) (p : Bool) (a : Tree) → Found know a → Found know (update_expr s op p a)
  update_found s op true a f mode n whole c ts r h l = let y = f Plain refl (whole_level know unary_level a refl h.3.0) _ h.0 r h.3.1 (took know c op ts h.0 h.2 l) in ((tt, y.0), y.1)
  update_found s op false a f mode n whole c ts r h l = let y = f Plain refl (whole_level know new_level a refl h.2.0) _ ts h.0 h.2.1 l in ((tt, y.0), took know c op h.0 r h.4 y.1)

  pub await_found : (s : Span) (a : Tree) → Found know a → Found know (await_expr s a)
  await_found s a f mode n whole c ts r h l = let y = f Plain refl (whole_level know unary_level a refl h.3.0) _ h.0 r h.3.1 (word know c _ ts h.0 h.2 l) in ((tt, y.0), y.1)

  pub binary_found : (s : Span) (op : ℕ) (a b : Tree) → Found know a → Found know b → Found know (bin_expr s op a b)
  binary_found s op a b f g mode n whole c ts r h l = let y = f Plain refl (whole_left know c op a h.2 h.3) _ ts h.0 h.4 l in let z = g Plain refl (whole_right know op b h.6.0) _ h.1 r h.6.1 (word know c op h.0 h.1 h.5 y.1) in ((tt, y.0, z.0), z.1)

  pub conditional_found : (s : Span) (a b d : Tree) → Found know a → Found know b → Found know d → Found know (cond_expr s a b d)
  conditional_found s a b d f g j mode n whole c ts r h l =
      let y = f Plain refl (whole_level know coalesce_level a refl h.4.0) _ ts h.0 h.4.1 l in let z = g Plain refl (whole_level know assignment_level b refl h.6.0) _ h.1 h.2 h.6.1 (took know c _ h.0 h.1 h.5 y.1) in let v = j Plain refl (whole_level know assignment_level d refl h.8.0) _ h.3 r h.8.1 (took know c _ h.2 h.3 h.7 z.1) in ((tt, y.0, z.0, v.0), v.1)

  pub assignment_found : (s : Span) (op : ℕ) (a b : Tree) → Found know a → Found know b → Found know (assign_expr s op a b)
  assignment_found s op a b f g mode n whole c ts r h l = let y = f Plain refl (whole_test know (λ t. is_target op t) a (λ s t w u. and_false (op == assign_kind)) h.3) _ ts h.0 h.4 l in let z = g Plain refl (whole_level know assignment_level b refl h.6.0) _ h.1 r h.6.1 (took know c op h.0 h.1 h.5 y.1) in ((tt, y.0, z.0), z.1)

  pub sequence_found : (s : Span) (xs : Trees) → AllFound know xs → Found know (seq_expr s xs)
  sequence_found s none a mode n whole c ts r h l = absurd h
  sequence_found s (more t none) a mode n whole c ts r h l = absurd h
  sequence_found s (more t (more u us)) a mode n whole c ts r h l = let y = expr know assignment_level refl c t a.0 ts h.0 h.1 l in let z = commas know _ (expr know assignment_level refl c) c (more u us) a.1 h.0 r h.2 y.1 in ((tt, (y.0, z.0)), z.1)

  pub yield_found : (s : Span) (a : Tree) (g : Bool) → Found know a → (mode : Mode) (c : Code) (ts r : Input) → Yield c s (child a (λ y. Produces a y)) g ts r → know.Known ts.places → Fine know mode (yield_expr s a g) r
  yield_found s a false f mode c ts r h l = let y = f Plain refl (whole_level know assignment_level a refl h.4.0) _ h.0 r h.4.1 (word know c _ ts h.0 h.2 l) in ((tt, y.0), y.1)
  yield_found s a true f mode c ts r h l = let y = f Plain refl (whole_level know assignment_level a refl h.6.0) _ h.1 r h.6.1 (took know c _ h.0 h.1 h.5 (word know c _ ts h.0 h.3 l)) in ((tt, y.0), y.1)

  -- ---- patterns

  pub array_pattern_found : (s : Span) (xs : Trees) → AllFound know xs → Found know (array_pat s xs)
  array_pattern_found s xs a mode n whole c ts r h l = let z = listed know true _ (λ t f ts r h l. f Plain refl (whole_item know c.binds t h.0) _ ts r h.1 l) c right_bracket_kind xs a h.0 r h.2 (took know c _ ts h.0 h.1 l) in ((tt, z.0), z.1)

  pub object_pattern_found : (s : Span) (ps : Trees) → AllFound know ps → Found know (object_pat s ps)
  object_pattern_found s ps a mode n whole c ts r h l = let z = listed know false _ (λ t f ts r h l. f Plain refl (whole_test know is_pattern_prop t (λ s b w u. refl) h.0) _ ts r h.2 l) c right_brace_kind ps a h.0 r h.2 (took know c _ ts h.0 h.1 l) in ((tt, z.0), z.1)

  pub initialised_found : (s : Span) (p e : Tree) → Found know p → Found know e → Found know (assign_pat s p e)
  initialised_found s p e f g mode n whole c ts r h l = let y = f Plain refl (whole_place know c.binds p h.2) _ ts h.0 h.3 l in let z = g Plain refl (whole_level know assignment_level e refl h.5.0) _ h.1 r h.5.1 (took know c _ h.0 h.1 h.4 y.1) in ((tt, y.0, z.0), z.1)

  pub rest_found : (s d : Span) (p : Tree) → Found know p → Found know (rest_pat s d p)
  rest_found s d p f mode n whole c ts r h l = let y = f Plain refl (whole_place know c.binds p h.3) _ h.0 r h.4 (took know c _ ts h.0 h.1 l) in ((tt, y.0), y.1)

  pub keyed_item_found : (s : Span) (k p : Tree) → Found know k → Found know p → Found know (key_value_pat_prop s k p)
  keyed_item_found s k p f g mode n whole c ts r h l = let y = f Plain refl (whole_test know is_key k (λ s b w u. refl) h.2.0) _ ts h.0 h.2.1 l in let z = g Plain refl (whole_item know c.binds p h.4.0) _ h.1 r h.4.1 (took know c _ h.0 h.1 h.3 y.1) in ((tt, y.0, z.0), z.1)

  pub named_item_found : (s : Span) (k e : Tree) → Found know k → Found know e → Found know (assign_pat_prop s k e)
  named_item_found s k e f g mode n whole c ts r h l =
      let y = f Plain refl (whole_test know is_bound_name k (λ s b w u. refl) h.1.0) _ ts h.0 h.1.1 l in let z = choice know (is_absent e) e refl _ _ r h.2 (λ i. at know h.0 r i y.1) (λ i. g Plain refl (whole_level know assignment_level e refl i.2.0) _ i.0 r i.2.1 (took know c _ h.0 i.0 i.1 y.1)) in ((tt, y.0, z.0), z.1)
