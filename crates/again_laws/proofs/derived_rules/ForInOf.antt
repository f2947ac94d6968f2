-- `for` with `in` and with `of` derived again (14.7.5).
use Rattle.std.proofs.Common.{Bool, ap, ap₂, arith, codes, false, inl, inr, not, refl, subst, sym, true, true≢false, ℕ, ◌&&◌, ◌==◌, ◌||◌, ◌∙◌, ◌≡◌, ◌≤◌, ◌⊎◌}
use Rattle.std.proofs.lemmas.Bool.{and_parts, or_right}
use Rattle.base_token.specs.Kinds.{async_kind, await_kind, else_kind, for_kind, function_kind, in_kind, left_bracket_kind, left_paren_kind, let_kind, of_kind, right_paren_kind}
use Rattle.base_token.specs.declared.place.Span.{Span}
use Rattle.tree_spec.specs.Places.{no_place}
use Rattle.tree_spec.specs.Tree.{Tree, Trees, absent, array_pat, binding_ident, expr_pat, for_in_stmt, for_of_stmt, more, none, object_pat, using_decl, var_decl, var_declarator}
use Rattle.grammar_spec.specs.Tokens.Input.{Code, Input, assigning, brk2, is_word, kind, kind2, lo, rest, span, unplaced, without_in}
use Rattle.grammar_spec.specs.Tokens.Operators.{assignment_level, expression_level}
use Rattle.grammar_spec.specs.Tokens.Shape.{is_bare_declarator, is_place, is_target_expr}
use Rattle.grammar_spec.specs.Grammar.{Produces, children}
use Rattle.grammar_spec.specs.Children.{child}
use Rattle.grammar_spec.specs.Statements.{ForAwaitOpen, ForIn, ForOf, HeadTarget, OfTarget, OneBare, Over, starts_of}
use Rattle.print_gaps.specs.Edges.{ends_with_word, starts_with_word}
use Rattle.print_layout_spec.specs.Layout.{closing, is_variables, laid, word}
use Rattle.print_layout_spec.specs.Looks.{Laid, blank, formats, gap, gap_or, text, when, ◌·◌}
use Rattle.print_layout_spec.specs.declared.look.Look.{Look}
use Rattle.print_layout_spec.specs.declared.look.Stand.{Stand}
use Rattle.print_layout_spec.specs.declared.look.Stand.TheVariants.{Alone}
use Rattle.again_laws.specs.Tokens.Spacings.{Spacing, Touching}
use Rattle.again_laws.specs.Tokens.Lexicon.{Lexicon}
use Rattle.again_laws.specs.Tokens.Means.{Known}
use Rattle.again_laws.specs.Tokens.Texts.{word_text}
use Rattle.again_laws.specs.Tokens.Told.{Breaks, says}
use Rattle.again_laws.specs.Derived.Redo.{AllRedone, Leaves, Mode, Plain, Redone, redo, kept_at}
use Rattle.again_laws.proofs.derived_rules.Naming.{leaves_at}
use Rattle.again_laws.proofs.derived_rules.Begins.{Begins, begun, fine, is_loose, is_part, is_weak, same_start}
use Rattle.again_laws.proofs.derived_rules.Follow.{closed_calm, follow_by}
use Rattle.again_laws.proofs.derived_rules.Shapes.{alike, re_is_place}
use Rattle.again_laws.proofs.derived_rules.Sound.{AllSound, Out, Sound, expr, expr_low, full, plain_part}
use Rattle.again_laws.proofs.derived_rules.Tokens.{keyed, marked, skip, took, worded}
use Rattle.again_laws.proofs.derived_rules.Loops.{body_on, for_no_else, head_again, re_variables}
use Rattle.again_laws.proofs.derived_rules.Variables.{bindings_on, used_on}

re_is_bare : (l : Leaves) (m : Mode) (t : Tree) → is_bare_declarator (redo l m t) ≡ is_bare_declarator t
re_is_bare l m (var_declarator s n e) = bare e
  where
    bare : (e : Tree) → is_bare_declarator (redo l m (var_declarator s n e)) ≡ is_bare_declarator (var_declarator s n e)
    bare absent = refl
    bare _ = refl
re_is_bare l m _ = refl

abbrev first_of : Trees → Tree
first_of none = absent
first_of (more t ts) = t

one_bare : (l : Leaves) (ds us : Trees) → AllRedone l Plain ds us → OneBare (children ds) → OneBare (children us)
one_bare l none us a h = absurd h
one_bare l (more d (more e es)) us a h = absurd h.0
one_bare l (more d none) none a h = absurd (none_more _ _ (a.so Plain))
  where
    none_more : (ts : Trees) (t : Tree) → none ≡ more t ts → ⊥
    none_more ts t e = cc
one_bare l (more d none) (more u none) a h = (tt, sym (re_is_bare (kept_at l.written) Plain u) ∙ (ap (λ (ts : Trees). is_bare_declarator (first_of ts)) (a.so Plain) ∙ (re_is_bare l Plain d ∙ h.1)))
one_bare l (more d none) (more u (more v vs)) a h = absurd (more_none _ _ _ _ (a.so Plain))
  where
    more_none : (ts : Trees) (t u v : Tree) → more t (more u ts) ≡ more v none → ⊥
    more_none ts t u v e = cc

of_bits : (l a w j j0 : Bool) → (a ≡ true → j ≡ j0) → not (l || (w && (a && j0))) ≡ true → not (l || (w && (a && j))) ≡ true
of_bits true a w j j0 f h = h
of_bits false false w j j0 f h = h
of_bits false true w j j0 f h = subst (λ (v : Bool). not (w && v) ≡ true) (sym (f refl)) h

of_again : (w : Bool) (ts0 m0 ts m : Input) → Begins false ts0 m0 ts m → kind m ≡ of_kind → kind m0 ≡ of_kind → starts_of w ts0 ≡ true → starts_of w ts ≡ true
of_again w ts0 m0 ts m (fine i e f) n n0 h = absurd (true≢false (sym i))
of_again w ts0 m0 ts m (same_start e f) n n0 h = of_bits (kind ts == let_kind) (kind ts == async_kind) (not w) (kind2 ts == of_kind) (kind2 ts0 == of_kind) (λ q. ap (λ (k : ℕ). k == of_kind) (second (f (or_right (kind ts == let_kind) (kind ts == async_kind) q))))
    (subst (λ (k : ℕ). not ((k == let_kind) || (not w && ((k == async_kind) && (kind2 ts0 == of_kind)))) ≡ true) (sym e) h)
  where
    second : ((rest ts0 ≡ m0) × (rest ts ≡ m)) ⊎ ((kind2 ts ≡ kind2 ts0) × (kind2 ts ≡ function_kind → brk2 ts0 ≡ false)) → kind2 ts ≡ kind2 ts0
    second (inl p) = ap kind p.1 ∙ (n ∙ (sym n0 ∙ sym (ap kind p.0)))
    second (inr p) = p.0

place_strong : (t : Tree) → is_place false t ≡ true → (is_part t ≡ true) × (is_weak t ≡ false) × (is_loose t ≡ false)
place_strong (binding_ident s i) h = (refl, refl, refl)
place_strong (array_pat s xs) h = (refl, refl, refl)
place_strong (object_pat s ps) h = (refl, refl, refl)
place_strong (expr_pat e) h = (refl, ap not ((and_parts (is_target_expr e) _ h).0), refl)
place_strong _ h = absurd (true≢false (sym h))

as_for_in : (s : Span) (a e b : Tree) (c : Code) (ts r : Input) → is_variables a ≡ false → ForIn c s (λ m n. HeadTarget c (child a (λ y. Produces a y)) m n) (child e (λ y. Produces e y)) (child b (λ y. Produces b y)) ts r → Produces (for_in_stmt s a e b) c ts r
as_for_in s (var_decl v k ds) e b c ts r i h = absurd (true≢false i)
as_for_in s (using_decl v w ds) e b c ts r i h = absurd (true≢false i)
as_for_in s _ e b c ts r i h = h

as_for_of : (s : Span) (w : Bool) (a e b : Tree) (c : Code) (ts r : Input) → is_variables a ≡ false → ForOf c s w (λ m n. OfTarget c w (child a (λ y. Produces a y)) m n) (child e (λ y. Produces e y)) (child b (λ y. Produces b y)) ts r → Produces (for_of_stmt s w a e b) c ts r
as_for_of s w (var_decl v k ds) e b c ts r i h = absurd (true≢false i)
as_for_of s w (using_decl v z ds) e b c ts r i h = absurd (true≢false i)
as_for_of s w _ e b c ts r i h = h

module _ (look : Look) (x : Lexicon look.style) where
  record Overed (w l : ℕ) (e b : Tree) (c : Code) (r0 : Input) (ts : Input) (K : Spacing → Input → Type 0) : Type 0 where
    d : Spacing
    m : Input
    more : K d m
    known : Known r0.places
    lead : kind ts ≡ w
    again : (kind m ≡ else_kind → kind r0 ≡ else_kind) → (u : Tree) × (v : Tree) × Over (unplaced c) w l (child u (λ y. Produces u y)) (child v (λ y. Produces v y)) ts m × Redone (leaves_at look x.naming) Plain e u × Redone (leaves_at look x.naming) Plain b v

  abbrev over_laid : ℕ → Tree → Tree → Laid
  over_laid w e b = text (word_text w) · gap_or look (starts_with_word e) · laid look Alone e · text (codes ")") · laid look Alone b · closing look b

  over_on : (w l : ℕ) → is_word w ≡ true → 1 ≤ l → l ≤ 18 → (e b : Tree) → Sound look x.naming Alone e → Sound look x.naming Alone b → (c : Code) (ts0 r0 : Input) → Over c w l (child e (λ y. Produces e y)) (child b (λ y. Produces b y)) ts0 r0 → Known ts0.places
      → (br : Spacing) (ts : Input) (K : Spacing → Input → Type 0) → says x.naming (over_laid w e b) br ts K → Overed w l e b c r0 ts K
  over_on w l p i j e b f g c ts0 r0 h k br ts K q =
      let o = skip x.naming (starts_with_word e || formats look) _ _ _ q.2 in
      let y = expr look x.naming l Alone e f i c h.0 h.1 h.4 (x.later ts0 h.0 h.3.3 k) _ q.0 (λ d m. says x.naming (text (codes ")") · laid look Alone b · closing look b) d m K) o in
      let n = y.more in
      let z = body_on look x b g c h.2 r0 h.6 (x.later h.1 h.2 h.5.2 y.known) _ n.0 K n.2 in record {
        d = z.d;
        m = z.m;
        more = z.more;
        known = z.known;
        lead = keyed look x w q.1;
        again = λ v. let u = z.again v in let t = y.again (follow_by Alone e h.1 y.m right_paren_kind (marked look x right_paren_kind n.1) refl) in
            (t.tree, u.0, (q.0, y.m, n.0, worded look x c w q.1, expr_low look x.naming l Alone e c q.0 y.m h.4.0 j t, took look x c right_paren_kind n.1, u.1), t.same, u.2);
      }

  pub for_in_target : (s : Span) (a e b : Tree) → is_variables a ≡ false → Sound look x.naming Alone a → Sound look x.naming Alone e → Sound look x.naming Alone b → (st : Stand) (c : Code) (ts0 r0 : Input)
      → ForIn c s (λ m n. HeadTarget c (child a (λ y. Produces a y)) m n) (child e (λ y. Produces e y)) (child b (λ y. Produces b y)) ts0 r0 → Known ts0.places → (br : Spacing) (ts : Input) (K : Spacing → Input → Type 0) → says x.naming (full look st (for_in_stmt s a e b)) br ts K → Out look x.naming st (for_in_stmt s a e b) c ts0 r0 br ts K
  for_in_target s a e b i d f g st c ts0 r0 h l br ts K q =
      let o = q.2 in
      let t = place_strong a h.3.1 in
      let y = plain_part look x.naming Alone a d t.0 (assigning (without_in c)) h.0 h.1 h.3.2 (x.later h.2.0 h.0 h.2.2.2 (x.later ts0 h.2.0 h.2.1.3 l)) _ o.0 (λ d m. says x.naming (gap_or look (ends_with_word a) · over_laid in_kind e b) d m K) o.2 in
      let z = over_on in_kind expression_level refl (omega arith) (omega arith) e b f g c h.1 r0 h.4 y.known _ y.m K (skip x.naming (ends_with_word a || formats look) _ _ _ y.more) in
      let n = keyed look x for_kind q.1 in record {
        d = z.d;
        m = z.m;
        more = z.more;
        known = z.known;
        broke = q.1.broke;
        tight = λ e. absurd (true≢false (sym e));
        begins = λ e. absurd (for_no_else (sym n ∙ e));
        again = λ k. let w = z.again (k.other refl) in let u = y.again (follow_by Alone a h.1 y.m in_kind z.lead refl) in record {
          tree = for_in_stmt (span (lo ts) z.m.last) u.tree w.0 w.1;
          produced = as_for_in (span (lo ts) z.m.last) u.tree w.0 w.1 (unplaced c) ts z.m (re_variables look x (leaves_at look x.naming) a u.tree u.same i) (
            o.0,
            y.m,
            (q.0, worded look x c for_kind q.1, took look x c left_paren_kind o.1),
            (head_again h.0 h.1 o.0 y.m (begun (is_weak a) (is_loose a) h.0 h.1 o.0 y.m t.1 y.begins) (λ v. in_bracket (sym z.lead ∙ v)) h.3.0, alike (is_place false) (re_is_place false) (leaves_at look x.naming) Plain a u.tree u.same ∙ h.3.1, u.produced),
            w.2,
            refl,
          );
          directive = refl;
          quoted = λ p q. refl;
          same = record { so = λ n. three (u.same.so Plain) (w.3.so Plain) (w.4.so Plain) };
        };
      }
    where
      in_bracket : in_kind ≡ left_bracket_kind → ⊥
      in_bracket e = absurd (omega arith)

      three : {a u b v d w : Tree} → a ≡ u → b ≡ v → d ≡ w → for_in_stmt no_place a b d ≡ for_in_stmt no_place u v w
      three p q r = ap₂ (λ (t : Tree × Tree) (e : Tree). for_in_stmt no_place t.0 t.1 e) (ap₂ (λ (t a : Tree). (t, a)) p q) r

  -- `for (` or `for await (`
  record Open (w : Bool) (c : Code) (r0 : Input) (b : Spacing) (ts : Input) (K : Spacing → Input → Type 0) : Type 0 where
    n : Input
    more : K Touching n
    known : Known r0.places
    broke : Breaks x.naming b ts
    lead : kind ts ≡ for_kind
    again : ForAwaitOpen w (unplaced c) ts n

  open_on : (w : Bool) (c : Code) (ts0 r0 : Input) → ForAwaitOpen w c ts0 r0 → Known ts0.places → (b : Spacing) (ts : Input) (K : Spacing → Input → Type 0) → says x.naming (word (codes "for") · when w (blank · word (codes "await")) · gap look · text (codes "(")) b ts K → Open w c r0 b ts K
  open_on false c ts0 r0 h l b ts K q =
      let o = skip x.naming (formats look) _ _ _ q.2 in record {
        n = o.0;
        more = o.2;
        known = x.later h.0 r0 h.2.2 (x.later ts0 h.0 h.1.3 l);
        broke = q.1.broke;
        lead = keyed look x for_kind q.1;
        again = (q.0, worded look x c for_kind q.1, took look x c left_paren_kind o.1);
      }
  open_on true c ts0 r0 h l b ts K q =
      let i = q.2 in
      let o = skip x.naming (formats look) _ _ _ i.2 in record {
        n = o.0;
        more = o.2;
        known = x.later h.1 r0 h.5.2 (x.later h.0 h.1 h.4.3 (x.later ts0 h.0 h.3.3 l));
        broke = q.1.broke;
        lead = keyed look x for_kind q.1;
        again = (q.0, i.0, h.2, worded look x c for_kind q.1, worded look x c await_kind i.1, took look x c left_paren_kind o.1);
      }

  pub for_of_target : (s : Span) (w : Bool) (a e b : Tree) → is_variables a ≡ false → Sound look x.naming Alone a → Sound look x.naming Alone e → Sound look x.naming Alone b → (st : Stand) (c : Code) (ts0 r0 : Input)
      → ForOf c s w (λ m n. OfTarget c w (child a (λ y. Produces a y)) m n) (child e (λ y. Produces e y)) (child b (λ y. Produces b y)) ts0 r0 → Known ts0.places → (br : Spacing) (ts : Input) (K : Spacing → Input → Type 0) → says x.naming (full look st (for_of_stmt s w a e b)) br ts K → Out look x.naming st (for_of_stmt s w a e b) c ts0 r0 br ts K
  for_of_target s w a e b i d f g st c ts0 r0 h l br ts K q =
      let o = open_on w c ts0 h.0 h.2 l br ts (λ d m. says x.naming (laid look Alone a · gap_or look (ends_with_word a) · over_laid of_kind e b) d m K) q in
      let t = place_strong a h.3.1.1 in
      let y = plain_part look x.naming Alone a d t.0 (assigning (without_in c)) h.0 h.1 h.3.1.2 o.known _ o.n (λ d m. says x.naming (gap_or look (ends_with_word a) · over_laid of_kind e b) d m K) o.more in
      let z = over_on of_kind assignment_level refl (omega arith) (omega arith) e b f g c h.1 r0 h.4 y.known _ y.m K (skip x.naming (ends_with_word a || formats look) _ _ _ y.more) in
      let v = begun (is_weak a) (is_loose a) h.0 h.1 o.n y.m t.1 y.begins in record {
        d = z.d;
        m = z.m;
        more = z.more;
        known = z.known;
        broke = o.broke;
        tight = λ e. absurd (true≢false (sym e));
        begins = λ e. absurd (for_no_else (sym o.lead ∙ e));
        again = λ k. let j = z.again (k.other refl) in let u = y.again (follow_by Alone a h.1 y.m of_kind z.lead refl) in record {
          tree = for_of_stmt (span (lo ts) z.m.last) w u.tree j.0 j.1;
          produced = as_for_of (span (lo ts) z.m.last) w u.tree j.0 j.1 (unplaced c) ts z.m (re_variables look x (leaves_at look x.naming) a u.tree u.same i) (
            o.n,
            y.m,
            o.again,
            (
              of_again w h.0 h.1 o.n y.m (subst (λ (z : Bool). Begins z h.0 h.1 o.n y.m) t.2 v) z.lead h.4.3.0 h.3.0,
              (head_again h.0 h.1 o.n y.m v (λ n. of_bracket (sym z.lead ∙ n)) h.3.1.0, alike (is_place false) (re_is_place false) (leaves_at look x.naming) Plain a u.tree u.same ∙ h.3.1.1, u.produced),
            ),
            j.2,
            refl,
          );
          directive = refl;
          quoted = λ p q. refl;
          same = record { so = λ n. three w (u.same.so Plain) (j.3.so Plain) (j.4.so Plain) };
        };
      }
    where
      of_bracket : of_kind ≡ left_bracket_kind → ⊥
      of_bracket e = absurd (omega arith)

      three : (z : Bool) {a u b v d w : Tree} → a ≡ u → b ≡ v → d ≡ w → for_of_stmt no_place z a b d ≡ for_of_stmt no_place z u v w
      three z p q r = ap₂ (λ (t : Tree × Tree) (e : Tree). for_of_stmt no_place z t.0 t.1 e) (ap₂ (λ (t a : Tree). (t, a)) p q) r

  pub for_of_variables : (s : Span) (w : Bool) (p : Span) (k : ℕ) (ds : Trees) (e b : Tree) → AllSound look x.naming ds → Sound look x.naming Alone e → Sound look x.naming Alone b → (st : Stand) → Sound look x.naming st (for_of_stmt s w (var_decl p k ds) e b)
  for_of_variables s w p k ds e b a f g st c ts0 r0 h l br ts K q =
      let o = open_on w c ts0 h.0 h.2 l br ts (λ d m. says x.naming (laid look Alone (var_decl p k ds) · gap_or look (ends_with_word (var_decl p k ds)) · over_laid of_kind e b) d m K) q in
      let y = bindings_on look x p k ds a (without_in c) h.0 h.1 h.3.1 o.known _ o.n (λ d m. says x.naming (gap_or look (ends_with_word (var_decl p k ds)) · over_laid of_kind e b) d m K) o.more in
      let z = over_on of_kind assignment_level refl (omega arith) (omega arith) e b f g c h.1 r0 h.4 y.known _ y.m K (skip x.naming (ends_with_word (var_decl p k ds) || formats look) y.d y.m _ y.more) in record {
        d = z.d;
        m = z.m;
        more = z.more;
        known = z.known;
        broke = o.broke;
        tight = λ e. absurd (true≢false (sym e));
        begins = λ e. absurd (for_no_else (sym o.lead ∙ e));
        again = λ i. let j = z.again (i.other refl) in let u = y.again (closed_calm y.m of_kind z.lead refl) in record {
          tree = for_of_stmt (span (lo ts) z.m.last) w (var_decl (span (lo o.n) y.m.last) k u.0) j.0 j.1;
          produced = (o.n, y.m, o.again, (one_bare (leaves_at look x.naming) ds u.0 u.2 h.3.0, u.1, refl), j.2, refl);
          directive = refl;
          quoted = λ p q. refl;
          same = record { so = λ n. three w (ap (λ (us : Trees). var_decl no_place k us) (u.2.so Plain)) (j.3.so Plain) (j.4.so Plain) };
        };
      }
    where
      three : (z : Bool) {a u b v d w : Tree} → a ≡ u → b ≡ v → d ≡ w → for_of_stmt no_place z a b d ≡ for_of_stmt no_place z u v w
      three z p q r = ap₂ (λ (t : Tree × Tree) (e : Tree). for_of_stmt no_place z t.0 t.1 e) (ap₂ (λ (t a : Tree). (t, a)) p q) r

  pub for_in_variables : (s p : Span) (k : ℕ) (ds : Trees) (e b : Tree) → AllSound look x.naming ds → Sound look x.naming Alone e → Sound look x.naming Alone b → (st : Stand) → Sound look x.naming st (for_in_stmt s (var_decl p k ds) e b)
  for_in_variables s p k ds e b a f g st c ts0 r0 h l br ts K q =
      let o = q.2 in
      let y = bindings_on look x p k ds a (without_in c) h.0 h.1 h.3.1 (x.later h.2.0 h.0 h.2.2.2 (x.later ts0 h.2.0 h.2.1.3 l)) _ o.0 (λ d m. says x.naming (gap_or look (ends_with_word (var_decl p k ds)) · over_laid in_kind e b) d m K) o.2 in
      let z = over_on in_kind expression_level refl (omega arith) (omega arith) e b f g c h.1 r0 h.4 y.known _ y.m K (skip x.naming (ends_with_word (var_decl p k ds) || formats look) y.d y.m _ y.more) in
      let n = keyed look x for_kind q.1 in record {
        d = z.d;
        m = z.m;
        more = z.more;
        known = z.known;
        broke = q.1.broke;
        tight = λ e. absurd (true≢false (sym e));
        begins = λ e. absurd (for_no_else (sym n ∙ e));
        again = λ i. let j = z.again (i.other refl) in let u = y.again (closed_calm y.m in_kind z.lead refl) in record {
          tree = for_in_stmt (span (lo ts) z.m.last) (var_decl (span (lo o.0) y.m.last) k u.0) j.0 j.1;
          produced = (o.0, y.m, (q.0, worded look x c for_kind q.1, took look x c left_paren_kind o.1), (one_bare (leaves_at look x.naming) ds u.0 u.2 h.3.0, u.1, refl), j.2, refl);
          directive = refl;
          quoted = λ p q. refl;
          same = record { so = λ n. three (ap (λ (us : Trees). var_decl no_place k us) (u.2.so Plain)) (j.3.so Plain) (j.4.so Plain) };
        };
      }
    where
      three : {a u b v d w : Tree} → a ≡ u → b ≡ v → d ≡ w → for_in_stmt no_place a b d ≡ for_in_stmt no_place u v w
      three p q r = ap₂ (λ (t : Tree × Tree) (e : Tree). for_in_stmt no_place t.0 t.1 e) (ap₂ (λ (t a : Tree). (t, a)) p q) r

  pub for_of_using : (s : Span) (w : Bool) (p : Span) (v : Bool) (ds : Trees) (e b : Tree) → AllSound look x.naming ds → Sound look x.naming Alone e → Sound look x.naming Alone b → (st : Stand) → Sound look x.naming st (for_of_stmt s w (using_decl p v ds) e b)
  for_of_using s w p v ds e b a f g st c ts0 r0 h l br ts K q =
      let o = open_on w c ts0 h.0 h.2 l br ts (λ d m. says x.naming (laid look Alone (using_decl p v ds) · gap_or look (ends_with_word (using_decl p v ds)) · over_laid of_kind e b) d m K) q in
      let y = used_on look x p v ds a (without_in c) h.0 h.1 h.3.2 o.known _ o.n (λ d m. says x.naming (gap_or look (ends_with_word (using_decl p v ds)) · over_laid of_kind e b) d m K) o.more in
      let z = over_on of_kind assignment_level refl (omega arith) (omega arith) e b f g c h.1 r0 h.4 y.known _ y.m K (skip x.naming (ends_with_word (using_decl p v ds) || formats look) y.d y.m _ y.more) in record {
        d = z.d;
        m = z.m;
        more = z.more;
        known = z.known;
        broke = o.broke;
        tight = λ e. absurd (true≢false (sym e));
        begins = λ e. absurd (for_no_else (sym o.lead ∙ e));
        again = λ i. let j = z.again (i.other refl) in let u = y.again (closed_calm y.m of_kind z.lead refl) in record {
          tree = for_of_stmt (span (lo ts) z.m.last) w (using_decl (span (lo o.n) y.m.last) v u.0) j.0 j.1;
          produced = (o.n, y.m, o.again, (one_bare (leaves_at look x.naming) ds u.0 u.2 h.3.0, y.starts h.3.1, u.1, refl), j.2, refl);
          directive = refl;
          quoted = λ p q. refl;
          same = record { so = λ n. three w (ap (λ (us : Trees). using_decl no_place v us) (u.2.so Plain)) (j.3.so Plain) (j.4.so Plain) };
        };
      }
    where
      three : (z : Bool) {a u b v d w : Tree} → a ≡ u → b ≡ v → d ≡ w → for_of_stmt no_place z a b d ≡ for_of_stmt no_place z u v w
      three z p q r = ap₂ (λ (t : Tree × Tree) (e : Tree). for_of_stmt no_place z t.0 t.1 e) (ap₂ (λ (t a : Tree). (t, a)) p q) r

  pub for_in_using : (s p : Span) (v : Bool) (ds : Trees) (e b : Tree) → AllSound look x.naming ds → Sound look x.naming Alone e → Sound look x.naming Alone b → (st : Stand) → Sound look x.naming st (for_in_stmt s (using_decl p v ds) e b)
  for_in_using s p v ds e b a f g st c ts0 r0 h l br ts K q =
      let o = q.2 in
      let y = used_on look x p v ds a (without_in c) h.0 h.1 h.3.2 (x.later h.2.0 h.0 h.2.2.2 (x.later ts0 h.2.0 h.2.1.3 l)) _ o.0 (λ d m. says x.naming (gap_or look (ends_with_word (using_decl p v ds)) · over_laid in_kind e b) d m K) o.2 in
      let z = over_on in_kind expression_level refl (omega arith) (omega arith) e b f g c h.1 r0 h.4 y.known _ y.m K (skip x.naming (ends_with_word (using_decl p v ds) || formats look) y.d y.m _ y.more) in
      let n = keyed look x for_kind q.1 in record {
        d = z.d;
        m = z.m;
        more = z.more;
        known = z.known;
        broke = q.1.broke;
        tight = λ e. absurd (true≢false (sym e));
        begins = λ e. absurd (for_no_else (sym n ∙ e));
        again = λ i. let j = z.again (i.other refl) in let u = y.again (closed_calm y.m in_kind z.lead refl) in record {
          tree = for_in_stmt (span (lo ts) z.m.last) (using_decl (span (lo o.0) y.m.last) v u.0) j.0 j.1;
          produced = (o.0, y.m, (q.0, worded look x c for_kind q.1, took look x c left_paren_kind o.1), (one_bare (leaves_at look x.naming) ds u.0 u.2 h.3.0, y.starts h.3.1, u.1, refl), j.2, refl);
          directive = refl;
          quoted = λ p q. refl;
          same = record { so = λ n. three (ap (λ (us : Trees). using_decl no_place v us) (u.2.so Plain)) (j.3.so Plain) (j.4.so Plain) };
        };
      }
    where
      three : {a u b v d w : Tree} → a ≡ u → b ≡ v → d ≡ w → for_in_stmt no_place a b d ≡ for_in_stmt no_place u v w
      three p q r = ap₂ (λ (t : Tree × Tree) (e : Tree). for_in_stmt no_place t.0 t.1 e) (ap₂ (λ (t a : Tree). (t, a)) p q) r
