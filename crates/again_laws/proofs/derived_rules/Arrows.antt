-- Arrows derived again, with parentheses round one parameter and without (15.3, 15.9).
use Rattle.std.proofs.Common.{Bool, List, [], ap, ap₂, arith, codes, eqb, false, if◌then◌else◌, inl, inr, not, refl, subst, sym, true, true≢false, ℕ, ◌&&◌, ◌-◌, ◌==◌, ◌||◌, ◌∙◌, ◌∷◌, ◌≡◌, ◌≤◌, ◌⊎◌}
use Rattle.std.proofs.lemmas.Bool.{and_parts, ne_eqb, or_parts, eqb-false}
use Rattle.base_proofs.proofs.Bools.{and_false}
use Rattle.base_token.specs.Kinds.{arrow_kind, async_kind, class_kind, comma_kind, else_kind, function_kind, left_brace_kind, left_bracket_kind, left_paren_kind, let_kind, right_paren_kind}
use Rattle.base_token.specs.declared.context.Context.{Context}
use Rattle.base_token.specs.declared.place.Span.{Span}
use Rattle.tree_spec.specs.Places.{no_place}
use Rattle.tree_spec.specs.Tree.{Tree, Trees, arrow_expr, binding_ident, block_stmt, ident, more, none}
use Rattle.grammar_spec.specs.Tokens.Input.{Code, Input, Only, PlacedToken, Takes, always_reserved, binding, brk2, context_of, in_arrow, in_list, is_word, judged, kind, kind2, lo, no_name, operator_word, rest, span, unplaced, with_in}
use Rattle.grammar_spec.specs.Tokens.Operators.{assignment_level}
use Rattle.grammar_spec.specs.Tokens.Shape.{is_bound_name, is_item_pat, is_rest, level}
use Rattle.grammar_spec.specs.Functions.{ArrowBlock, ArrowExpression, ArrowHead, ArrowParameters, ArrowPattern}
use Rattle.grammar_spec.specs.Grammar.{Produces, children}
use Rattle.grammar_spec.specs.Children.{Listed, child}
use Rattle.grammar_spec.specs.Statements.{starts_expression_statement}
use Rattle.print_layout_spec.specs.Layout.{comma, in_parens, is_block as is_block_tree, is_one_name, laid, separated, word}
use Rattle.print_layout_spec.specs.Looks.{Laid, back, blank, deeper, formats, nothing, text, when, ◌·◌}
use Rattle.print_layout_spec.specs.declared.look.Look.{Look}
use Rattle.print_layout_spec.specs.declared.look.Stand.{Stand}
use Rattle.print_layout_spec.specs.declared.look.Stand.TheVariants.{Alone, Body as BodyState}
use Rattle.print_layout_spec.proofs.Parameters.{several}
use Rattle.again_laws.specs.Tokens.Ties.{is_held}
use Rattle.again_laws.specs.Tokens.Spacings.{Spacing, Touching, is_broken}
use Rattle.again_laws.specs.Tokens.Lexicon.{Lexicon}
use Rattle.again_laws.specs.Tokens.Means.{Known}
use Rattle.again_laws.specs.Tokens.Told.{Breaks, says}
use Rattle.again_laws.specs.Derived.Redo.{AllRedone, Plain}
use Rattle.again_laws.proofs.derived_rules.Naming.{leaves_at}
use Rattle.again_laws.proofs.derived_rules.Begins.{Begins, begun, fine, is_loose, is_weak, same_start, strong}
use Rattle.again_laws.proofs.derived_rules.Bodies.{braced}
use Rattle.again_laws.proofs.derived_rules.Ends.{above}
use Rattle.again_laws.proofs.derived_rules.Follow.{closed_calm, follow_on}
use Rattle.again_laws.proofs.derived_rules.Lists.{Each, Gone, comma_on, listed, more_same, none_same}
use Rattle.again_laws.proofs.derived_rules.Shapes.{alike, re_is_bound_name, re_is_item_pat}
use Rattle.again_laws.proofs.derived_rules.Sound.{AllSound, Out, Sound, expr, expr_low, full, is_tight, plain_part, tight_of}
use Rattle.again_laws.proofs.derived_rules.Tokens.{behind_word, before_held, blank_broke, keyed, marked, skip, skip_back, skip_deeper, took, worded}
use Rattle.again_laws.proofs.derived_rules.Patterns.{item_plain}

stands_to : (b : Bool) (z : Context) (ps : List PlacedToken) (U : Type 0) → Only b (U × (judged (context_of z ps) ≡ judged z)) → Only b (U × (judged (context_of (record z { include_in_expr = true }) ps) ≡ judged (record z { include_in_expr = true })))
stands_to false z ps U h = tt
stands_to true z [] U h = (h.0, refl)
stands_to true z (p ∷ ps) U h = h

stands_from : (b : Bool) (z : Context) (ps : List PlacedToken) (U : Type 0) → Only b (U × (judged (context_of (record z { include_in_expr = true }) ps) ≡ judged (record z { include_in_expr = true }))) → Only b (U × (judged (context_of z ps) ≡ judged z))
stands_from false z ps U h = tt
stands_from true z [] U h = (h.0, refl)
stands_from true z (p ∷ ps) U h = h

to_pattern : (p : Tree) (c : Code) (ts r : Input) → is_bound_name p ≡ true → Produces p c ts r → Produces p (binding (with_in c)) ts r
to_pattern (binding_ident s (ident t n)) c ts r e h = (h.0, ((h.1.0.0, h.1.0.1, h.1.0.2, h.1.0.3, stands_to c.placed c.context ts.places _ h.1.0.4, h.1.0.5), h.1.1))
to_pattern (binding_ident s _) c ts r e h = h
to_pattern _ c ts r e h = absurd (true≢false (sym e))

from_pattern : (p : Tree) (c : Code) (ts r : Input) → is_bound_name p ≡ true → Produces p (binding (with_in c)) ts r → Produces p c ts r
from_pattern (binding_ident s (ident t n)) c ts r e h = (h.0, ((h.1.0.0, h.1.0.1, h.1.0.2, h.1.0.3, stands_from c.placed c.context ts.places _ h.1.0.4, h.1.0.5), h.1.1))
from_pattern (binding_ident s _) c ts r e h = h
from_pattern _ c ts r e h = absurd (true≢false (sym e))

bound_item : (t : Tree) → is_bound_name t ≡ true → is_item_pat true t ≡ true
bound_item (binding_ident s i) h = refl
bound_item _ h = absurd (true≢false (sym h))

one_bound : (p : Tree) → is_one_name (more p none) ≡ true → is_bound_name p ≡ true
one_bound (binding_ident s i) h = refl
one_bound _ h = absurd (true≢false (sym h))

bound_no_rest : (p : Tree) → is_bound_name p ≡ true → is_rest p ≡ false
bound_no_rest (binding_ident s i) h = refl
bound_no_rest _ h = absurd (true≢false (sym h))

bound_tight : (p : Tree) → is_bound_name p ≡ true → is_tight p ≡ true
bound_tight (binding_ident s i) h = refl
bound_tight _ h = absurd (true≢false (sym h))

abbrev starts_by : ℕ → ℕ → Bool → Bool
starts_by k j b = not ((k == left_brace_kind) || ((k == function_kind) || ((k == class_kind) || (((k == async_kind) && ((j == function_kind) && not b)) || ((k == let_kind) && (j == left_bracket_kind))))))

unreserved : (c : Code) (k n : ℕ) → no_name c.context k ≡ false → always_reserved n ≡ true → eqb k n ≡ false
unreserved c k n h e = ne_eqb k n (λ q. true≢false (sym (ap always_reserved q ∙ e) ∙ (or_parts (always_reserved k) (operator_word c.context k) h).0))

word_no : (k n : ℕ) → is_word k ≡ true → is_word n ≡ false → eqb k n ≡ false
word_no k n h e = ne_eqb k n (λ q. true≢false (sym h ∙ (ap is_word q ∙ e)))

named_starts : (c : Code) (k : ℕ) (b : Bool) → is_word k ≡ true → no_name c.context k ≡ false → starts_by k arrow_kind b ≡ true
named_starts c k b w n = rw (word_no k left_brace_kind w refl, unreserved c k function_kind n refl, unreserved c k class_kind n refl, and_false (eqb k async_kind), and_false (eqb k let_kind)) refl

async_starts : (j : ℕ) (b : Bool) → (j ≡ function_kind → ⊥) → starts_by async_kind j b ≡ true
async_starts j b h = rw (ne_eqb j function_kind h) refl

no_block : (e : Tree) → 1 ≤ level e → is_block_tree e ≡ false
no_block (block_stmt s ss) h = absurd (omega arith)
no_block _ h = refl

as_arrow : (s : Span) (ps : Trees) (e : Tree) (i : Bool) (c : Code) (ts r : Input) → 1 ≤ level e → ArrowExpression c s (children ps) (child e (λ y. Produces e y)) i ts r → Produces (arrow_expr s ps e i) c ts r
as_arrow s ps (block_stmt b ss) i c ts r l h = absurd (omega arith)
as_arrow s ps _ i c ts r l h = h

no_brace : {v : Bool} (m0 r0 m r : Input) → Begins v m0 r0 m r → (kind m0 ≡ left_brace_kind → ⊥) → kind m ≡ left_brace_kind → ⊥
no_brace m0 r0 m r (same_start e g) f h = f (sym e ∙ h)
no_brace m0 r0 m r (fine i e g) f h = true≢false (sym (subst (λ (k : ℕ). starts_by k (kind2 m) (brk2 m) ≡ true) h e))

module _ (look : Look) (x : Lexicon look.style) where
  abbrev Opened : Code → Input → Input → Type 0
  Opened c ts m = (kind ts ≡ left_paren_kind) ⊎ ((is_word (kind ts) ≡ true) × (no_name c.context (kind ts) ≡ false) × (rest ts ≡ m))

  record Params (ps : Trees) (c : Code) (r0 : Input) (b : Spacing) (ts : Input) (K : Spacing → Input → Type 0) : Type 0 where
    d : Spacing
    m : Input
    more : K d m
    known : Known r0.places
    broke : Breaks x.naming b ts
    tight : d ≡ Touching
    opened : Opened c ts m
    again : kind m ≡ arrow_kind → (us : Trees) × ArrowParameters (unplaced c) (children us) ts m × AllRedone (leaves_at look x.naming) Plain ps us

  pattern_each : (c : Code) → Each look x (ArrowPattern c) (ArrowPattern (unplaced c))
  pattern_each c t f ts0 r0 h k b ts K q =
      let p = item_plain true t h.0 in
      let z = plain_part look x.naming Alone t f p.0 (binding (with_in c)) ts0 r0 h.1 k b ts K q in record {
        d = z.d;
        m = z.m;
        more = z.more;
        known = z.known;
        broke = z.broke;
        tight = λ i. z.tight (tight_of t i);
        begins = z.begins;
        again = λ g. let w = z.again (record { quiet = λ e. g; other = λ i. absurd (true≢false (sym i ∙ p.1)) }) in (w.tree, (alike (is_item_pat true) (re_is_item_pat true) (leaves_at look x.naming) Plain t w.tree w.same ∙ h.0, w.produced), w.same);
      }

  -- a name as it is told
  bound_kinds : (p : Tree) (c : Code) (ts m : Input) → is_bound_name p ≡ true → Produces p (unplaced c) ts m → Opened c ts m
  bound_kinds (binding_ident s (ident t n)) c ts m e h = inr (h.1.0.0, h.1.0.1, h.1.0.5)
  bound_kinds (binding_ident s _) c ts m e h = absurd h
  bound_kinds _ c ts m e h = absurd (true≢false (sym e))

  -- one name, written bare
  bare_one : (p : Tree) → Sound look x.naming Alone p → is_bound_name p ≡ true → (c : Code) (ts0 m0 r0 : Input) → Produces p (binding (with_in c)) ts0 m0 → (Known m0.places → Known r0.places) → Known ts0.places → (b : Spacing) (ts : Input) (K : Spacing → Input → Type 0)
      → ((d : Spacing) (m : Input) → K d m → kind m ≡ arrow_kind) → says x.naming (laid look Alone p) b ts K → Params (more p none) c r0 b ts K
  bare_one p f e c ts0 m0 r0 h go k b ts K peek q =
      let i = item_plain true p (bound_item p e) in
      let z = plain_part look x.naming Alone p f i.0 (binding (with_in c)) ts0 m0 h k b ts K q in
      let w = z.again (record { quiet = λ j. closed_calm z.m arrow_kind (peek z.d z.m z.more) refl; other = λ j. absurd (true≢false (sym j ∙ i.1)) }) in
      let a = alike is_bound_name re_is_bound_name (leaves_at look x.naming) Plain p w.tree w.same ∙ e in
      let s = from_pattern w.tree (unplaced c) ts z.m a w.produced in record {
        d = z.d;
        m = z.m;
        more = z.more;
        known = go z.known;
        broke = z.broke;
        tight = z.tight (bound_tight p e);
        opened = bound_kinds w.tree c ts z.m a s;
        again = λ j. (more w.tree none, inl (tt, (a, s)), more_same (leaves_at look x.naming) Plain p w.tree none none w.same (none_same (leaves_at look x.naming)));
      }

  -- one name, in parentheses that it had not
  wrapped_one : (p : Tree) → Sound look x.naming Alone p → is_bound_name p ≡ true → (c : Code) (ts0 r0 : Input) → Produces p (binding (with_in c)) ts0 r0 → Known ts0.places → (b : Spacing) (ts : Input) (K : Spacing → Input → Type 0)
      → says x.naming (in_parens (laid look Alone p)) b ts K → Params (more p none) c r0 b ts K
  wrapped_one p f e c ts0 r0 h k b ts K q =
      let i = item_plain true p (bound_item p e) in
      let z = plain_part look x.naming Alone p f i.0 (binding (with_in c)) ts0 r0 h k _ q.0 _ q.2 in
      let o = z.more in
      let w = z.again (record { quiet = λ j. closed_calm z.m right_paren_kind (marked look x right_paren_kind o.1) refl; other = λ j. absurd (true≢false (sym j ∙ i.1)) }) in record {
        d = Touching;
        m = o.0;
        more = o.2;
        known = z.known;
        broke = q.1.broke;
        tight = refl;
        opened = inl (marked look x left_paren_kind q.1);
        again = λ j. (
          more w.tree none,
          inr (q.0, took look x c left_paren_kind q.1, (z.m, (alike (is_item_pat true) (re_is_item_pat true) (leaves_at look x.naming) Plain p w.tree w.same ∙ bound_item p e, w.produced), inr (tt, took look x c right_paren_kind o.1))),
          more_same (leaves_at look x.naming) Plain p w.tree none none w.same (none_same (leaves_at look x.naming)),
        );
      }

  params_listed : (c : Code) (ps : Trees) → AllSound look x.naming ps → (ts0 r0 : Input) → Listed false (ArrowPattern c) c right_paren_kind (children ps) ts0 r0 → Known ts0.places → (b : Spacing) (ts : Input) (K : Spacing → Input → Type 0)
      → ((d : Spacing) (m : Input) → K d m → kind m ≡ right_paren_kind) → says x.naming (separated look (comma look) ps) b ts K → Gone look x (ArrowPattern c) (ArrowPattern (unplaced c)) (pattern_each c) c right_paren_kind refl false ps r0 ts K
  params_listed c ps a ts0 r0 h k b ts K peek q = listed look x _ _ _ c right_paren_kind refl (comma look) (comma_on look x) ps a ts0 r0 h k b ts K peek q

  parens_params : (ps : Trees) → AllSound look x.naming ps → (c : Code) (ts0 r0 : Input) → (m : Input) × Takes c left_paren_kind ts0 m × Listed false (ArrowPattern c) c right_paren_kind (children ps) m r0 → Known ts0.places → (b : Spacing) (ts : Input) (K : Spacing → Input → Type 0)
      → says x.naming (in_parens (separated look (comma look) ps)) b ts K → Params ps c r0 b ts K
  parens_params ps a c ts0 r0 h k b ts K q =
      let z = params_listed c ps a h.0 r0 h.2 (x.later ts0 h.0 h.1.2 k) _ q.0 _ (λ d m o. marked look x right_paren_kind o.1) q.2 in
      let o = z.more in let w = z.again o.0 (took look x c right_paren_kind o.1) in record {
        d = Touching;
        m = o.0;
        more = o.2;
        known = z.known;
        broke = q.1.broke;
        tight = refl;
        opened = inl (marked look x left_paren_kind q.1);
        again = λ j. (w.0, inr (q.0, took look x c left_paren_kind q.1, w.1), w.2);
      }

  -- parameters, however they were written and are
  params_on : (ps : Trees) → AllSound look x.naming ps → (c : Code) (ts0 r0 : Input) → ArrowParameters c (children ps) ts0 r0 → Known ts0.places → (v : Bool) → (v ≡ true → is_one_name ps ≡ true) → (b : Spacing) (ts : Input) (K : Spacing → Input → Type 0)
      → ((d : Spacing) (m : Input) → K d m → kind m ≡ arrow_kind) → says x.naming (if v then separated look (comma look) ps else in_parens (separated look (comma look) ps)) b ts K → Params ps c r0 b ts K
  params_on none a c ts0 r0 (inl h) k v e b ts K peek q = absurd h
  params_on none a c ts0 r0 (inr h) k true e b ts K peek q = absurd (true≢false (sym (e refl)))
  params_on none a c ts0 r0 (inr h) k false e b ts K peek q = parens_params none a c ts0 r0 h k b ts K q
  params_on (more p none) a c ts0 r0 (inl h) k true e b ts K peek q = bare_one p a.0 h.1.0 c ts0 r0 r0 (to_pattern p c ts0 r0 h.1.0 h.1.1) (λ l. l) k b ts K peek q
  params_on (more p none) a c ts0 r0 (inl h) k false e b ts K peek q = wrapped_one p a.0 h.1.0 c ts0 r0 (to_pattern p c ts0 r0 h.1.0 h.1.1) k b ts K q
  params_on (more p none) a c ts0 r0 (inr h) k true e b ts K peek q = bare_one p a.0 (one_bound p (e refl)) c h.0 h.2.0 r0 h.2.1.1 (closed h.2.0 h.2.2) (x.later ts0 h.0 h.1.2 k) b ts K peek q
    where
      closed : (m : Input) → ((is_rest p ≡ false) × (n : Input) × Takes c comma_kind m n × Takes c right_paren_kind n r0) ⊎ (Unit {0} × Takes c right_paren_kind m r0) → Known m.places → Known r0.places
      closed m (inl h) l = x.later h.1 r0 h.3.2 (x.later m h.1 h.2.2 l)
      closed m (inr h) l = x.later m r0 h.1.2 l
  params_on (more p none) a c ts0 r0 (inr h) k false e b ts K peek q = parens_params (more p none) a c ts0 r0 h k b ts K q
  params_on (more p (more r rs)) a c ts0 r0 (inl h) k v e b ts K peek q = absurd h.0
  params_on (more p (more r rs)) a c ts0 r0 (inr h) k true e b ts K peek q = absurd (true≢false (sym (e refl) ∙ several p r rs))
  params_on (more p (more r rs)) a c ts0 r0 (inr h) k false e b ts K peek q = parens_params (more p (more r rs)) a c ts0 r0 h k b ts K q

  record HeadOut (i : Bool) (ps : Trees) (c : Code) (r0 : Input) (b : Spacing) (ts : Input) (K : Spacing → Input → Type 0) : Type 0 where
    m : Input
    more : K Touching m
    known : Known r0.places
    broke : Breaks x.naming b ts
    opened : starts_expression_statement ts ≡ true
    bars : kind ts ≡ else_kind → ⊥
    again : (us : Trees) × ArrowHead i (unplaced c) (children us) ts m × AllRedone (leaves_at look x.naming) Plain ps us

  opened_starts : (c : Code) (ts m : Input) → Opened c ts m → kind m ≡ arrow_kind → starts_expression_statement ts ≡ true
  opened_starts c ts m (inl e) a = subst (λ (k : ℕ). starts_by k (kind2 ts) (brk2 ts) ≡ true) (sym e) refl
  opened_starts c ts m (inr h) a = subst (λ (j : ℕ). starts_by (kind ts) j (brk2 ts) ≡ true) (sym (ap kind h.2 ∙ a)) (named_starts c (kind ts) (brk2 ts) h.0 h.1)

  opened_no : (c : Code) (ts m : Input) → Opened c ts m → (n : ℕ) → always_reserved n ≡ true → (left_paren_kind ≡ n → ⊥) → kind ts ≡ n → ⊥
  opened_no c ts m (inl e) n r f q = f (sym e ∙ q)
  opened_no c ts m (inr h) n r f q = true≢false (sym (ap always_reserved q ∙ r) ∙ (or_parts (always_reserved (kind ts)) (operator_word c.context (kind ts)) h.1).0)

  abbrev params_laid : Trees → Laid
  params_laid ps = if is_one_name ps && not (formats look) then separated look (comma look) ps else in_parens (separated look (comma look) ps)

  head_on : (i : Bool) (ps : Trees) → AllSound look x.naming ps → (c : Code) (ts0 r0 : Input) → ArrowHead i c (children ps) ts0 r0 → Known ts0.places → (b : Spacing) (ts : Input) (K : Spacing → Input → Type 0) (g : Laid)
      → says x.naming (when i (word (codes "async") · when (formats look || is_one_name ps) blank) · params_laid ps · text (codes "=>")) b ts K → HeadOut i ps c r0 b ts K
  head_on false ps a c ts0 r0 h k b ts K g q =
      let y = params_on ps a c h.0 h.1 h.3 (subst (λ (n : Input). Known n.places) h.2 k) (is_one_name ps && not (formats look)) (λ e. (and_parts (is_one_name ps) (not (formats look)) e).0) b ts _ (λ d m o. marked look x arrow_kind o.1) q in
      let o = y.more in let j = marked look x arrow_kind o.1 in let w = y.again j in record {
        m = o.0;
        more = o.2;
        known = x.later h.1 r0 h.5.2 y.known;
        broke = y.broke;
        opened = opened_starts c ts y.m y.opened j;
        bars = opened_no c ts y.m y.opened else_kind refl (λ e. omega arith);
        again = (w.0, (ts, y.m, refl, w.1, before_held look x o.1 (ap is_held j) ∙ ap is_broken y.tight, took look x c arrow_kind o.1), w.2);
      }
  head_on true ps a c ts0 r0 h k b ts K g q =
      let i = skip x.naming (formats look || is_one_name ps) _ _ _ q.2 in
      let y = params_on ps a c h.0 h.1 h.3 (x.later ts0 h.0 h.2.0.3 k) (is_one_name ps && not (formats look)) (λ e. (and_parts (is_one_name ps) (not (formats look)) e).0) _ q.0 _ (λ d m o. marked look x arrow_kind o.1) i in
      let o = y.more in let j = marked look x arrow_kind o.1 in let w = y.again j in let z = keyed look x async_kind q.1 in record {
        m = o.0;
        more = o.2;
        known = x.later h.1 r0 h.5.2 y.known;
        broke = q.1.broke;
        opened = subst (λ (k : ℕ). starts_by k (kind2 ts) (brk2 ts) ≡ true) (sym z) (async_starts (kind2 ts) (brk2 ts) (λ e. opened_no c q.0 y.m y.opened function_kind refl (λ e. omega arith) (sym (ap kind q.1.after) ∙ e)));
        bars = λ e. eqb-false async_kind else_kind refl (sym z ∙ e);
        again = (w.0, (q.0, y.m, (worded look x c async_kind q.1, behind_word look x async_kind refl q.1 y.broke ∙ blank_broke (formats look || is_one_name ps) Touching), w.1, before_held look x o.1 (ap is_held j) ∙ ap is_broken y.tight, took look x c arrow_kind o.1), w.2);
      }

  -- an arrow with an expression
  pub arrow_on : (s : Span) (ps : Trees) (e : Tree) (i : Bool) → AllSound look x.naming ps → Sound look x.naming Alone e → (st : Stand) (c : Code) (ts0 r0 : Input) → ArrowExpression c s (children ps) (child e (λ y. Produces e y)) i ts0 r0 → Known ts0.places
      → (b : Spacing) (ts : Input) (K : Spacing → Input → Type 0) → says x.naming (full look st (arrow_expr s ps e i)) b ts K → Out look x.naming st (arrow_expr s ps e i) c ts0 r0 b ts K
  arrow_on s ps e i a f st c ts0 r0 h k b ts K q =
      let z = head_on i ps a c ts0 h.0 h.1 k b ts (λ d m. says x.naming (if is_block_tree e then laid look BodyState e else (deeper look · laid look Alone e · back look)) d m K) nothing q in
      let n = above assignment_level (level e) (omega arith) h.3.0 in
      let o = subst (λ (v : Bool). says x.naming (if v then laid look BodyState e else (deeper look · laid look Alone e · back look)) Touching z.m K) (no_block e n) z.more in
      let u = skip_deeper x.naming (formats look) _ _ _ o in
      let y = expr look x.naming assignment_level Alone e f (omega arith) (in_arrow i c) h.0 r0 h.3 z.known _ z.m _ u in record {
        d = y.d;
        m = y.m;
        more = skip_back x.naming (formats look) _ _ _ y.more;
        known = y.known;
        broke = z.broke;
        tight = λ j. y.tight (tight_of e n);
        begins = fine refl z.opened z.bars;
        again = λ g. let w = y.again (follow_on st (arrow_expr s ps e i) Alone e r0 r0 y.m refl n g) in record {
          tree = arrow_expr (span (lo ts) y.m.last) z.again.0 w.tree i;
          produced = as_arrow (span (lo ts) y.m.last) z.again.0 w.tree i (unplaced c) ts y.m (above assignment_level (level w.tree) (omega arith) (expr_low look x.naming assignment_level Alone e (in_arrow i c) z.m y.m h.3.0 (omega arith) w).0)
              (z.m, z.again.1, no_brace h.0 r0 z.m y.m (begun (is_weak e) (is_loose e) h.0 r0 z.m y.m (strong e n) y.begins) h.2, expr_low look x.naming assignment_level Alone e (in_arrow i c) z.m y.m h.3.0 (omega arith) w, refl);
          directive = refl;
          quoted = λ p q. refl;
          same = record { so = λ n. ap₂ (λ (us : Trees) (t : Tree). arrow_expr no_place us t i) (z.again.2.so Plain) (w.same.so Plain) };
        };
      }

  -- an arrow with a body in braces
  pub arrow_block_on : (s : Span) (ps : Trees) (p : Span) (ss : Trees) (i : Bool) → AllSound look x.naming ps → AllSound look x.naming ss → (st : Stand) (c : Code) (ts0 r0 : Input) → ArrowBlock c s (children ps) p (children ss) i ts0 r0 → Known ts0.places
      → (b : Spacing) (ts : Input) (K : Spacing → Input → Type 0) → says x.naming (full look st (arrow_expr s ps (block_stmt p ss) i)) b ts K → Out look x.naming st (arrow_expr s ps (block_stmt p ss) i) c ts0 r0 b ts K
  arrow_block_on s ps p ss i a g st c ts0 r0 h k b ts K q =
      let z = head_on i ps a c ts0 h.0 h.1 k b ts (λ d m. says x.naming (laid look BodyState (block_stmt p ss)) d m K) nothing q in
      let y = braced look x (in_list (with_in (in_arrow i c))) true ss g h.0 h.2.0 r0 h.2.1 h.2.2 z.known _ z.m K (record { lo = record { 0 = p.hi.0 - 1 }; hi = p.hi }) z.more in record {
        d = Touching;
        m = y.m;
        more = y.more;
        known = y.known;
        broke = z.broke;
        tight = λ j. refl;
        begins = fine refl z.opened z.bars;
        again = λ l. record {
          tree = arrow_expr (span (lo ts) y.m.last) z.again.0 (block_stmt (span (lo z.m) y.m.last) y.again.0) i;
          produced = (z.m, z.again.1, (y.again.1, y.again.2, y.again.3, refl), refl);
          directive = refl;
          quoted = λ p q. refl;
          same = record { so = λ n. ap₂ (λ (us vs : Trees). arrow_expr no_place us (block_stmt no_place vs) i) (z.again.2.so Plain) (y.again.4.so Plain) };
        };
      }
