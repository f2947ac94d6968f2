-- `new` derived again, with its arguments and without (13.3.5).
use Rattle.std.proofs.Common.{Bool, ap, ap₂, arith, false, inl, inr, leb, not, refl, subst, sym, true, true≢false, ◌&&◌, ◌||◌, ◌∙◌, ◌≡◌, ◌≤◌, ◌⊎◌}
use Rattle.base_token.specs.Kinds.{left_paren_kind, new_kind, right_paren_kind}
use Rattle.base_token.specs.declared.place.Span.{Span}
use Rattle.tree_spec.specs.Codes.{items_of}
use Rattle.tree_spec.specs.Places.{no_place}
use Rattle.tree_spec.specs.Tree.{Tree, Trees, absent, list, more, new_expr, none}
use Rattle.grammar_spec.specs.Tokens.Input.{Code, Input, TakesWord, assigning, kind, lo, span, unplaced}
use Rattle.grammar_spec.specs.Tokens.Operators.{member_level, new_level, other_end}
use Rattle.grammar_spec.specs.Tokens.Shape.{level}
use Rattle.grammar_spec.specs.Expressions.{Arguments}
use Rattle.grammar_spec.specs.Grammar.{Produces, children}
use Rattle.print_gaps.specs.Edges.{starts_with_word}
use Rattle.print_layout_spec.specs.Layout.{comma, has_arguments, in_parens, is_head as is_head_stand, laid, separated}
use Rattle.print_layout_spec.specs.Looks.{formats, nothing, when}
use Rattle.print_layout_spec.specs.declared.look.Look.{Look}
use Rattle.print_layout_spec.specs.declared.look.Stand.{Stand}
use Rattle.print_layout_spec.specs.declared.look.Stand.TheVariants.{Alone, Head}
use Rattle.again_laws.specs.Tokens.Spacings.{Spacing, Touching}
use Rattle.again_laws.specs.Tokens.Lexicon.{Lexicon}
use Rattle.again_laws.specs.Tokens.Means.{Known}
use Rattle.again_laws.specs.Tokens.Told.{says}
use Rattle.again_laws.specs.Derived.Redo.{AllRedone, Headed, Plain, is_head, redo, redos}
use Rattle.again_laws.specs.Derived.Written.{given_none, mode_of, new_arguments}
use Rattle.again_laws.proofs.derived_rules.Naming.{leaves_at}
use Rattle.again_laws.proofs.derived_rules.Begins.{led, level_part}
use Rattle.again_laws.proofs.derived_rules.Follow.{low_goes, needs_calm}
use Rattle.again_laws.proofs.derived_rules.Levels.{callee_level}
use Rattle.again_laws.proofs.derived_rules.Lists.{none_same}
use Rattle.again_laws.proofs.derived_rules.Sound.{AllSound, Out, Sound, full, plain_part, tight_of}
use Rattle.again_laws.proofs.derived_rules.Tokens.{gapped, keyed, marked, skip, took, worded}
use Rattle.again_laws.proofs.derived_rules.Calls.{arguments_on}
use Rattle.again_laws.proofs.derived_rules.CallHeads.{follow_head, follow_none, head_mode}

abbrev is_args : Tree → Bool
is_args absent = true
is_args (list xs) = true
is_args _ = false

given_yes : (v : Bool) → v ≡ true → list none ≡ given_none v
given_yes true e = refl
given_yes false e = absurd (true≢false (sym e))

given_no : (v : Bool) → v ≡ false → absent ≡ given_none v
given_no true e = absurd (true≢false e)
given_no false e = refl

middle_true : (a b : Bool) → (a || (true || b)) ≡ true
middle_true true b = refl
middle_true false b = refl

last_of : (a b c : Bool) → (a || (b || c)) ≡ false → c ≡ false
last_of true b c h = absurd (true≢false h)
last_of false true c h = absurd (true≢false h)
last_of false false c h = h

callee_there : (e : Tree) → (level e ≡ new_level) ⊎ (member_level ≤ level e) → 1 ≤ level e
callee_there e (inl h) = omega arith
callee_there e (inr h) = omega arith

callee_high : (e : Tree) → (level e ≡ new_level) ⊎ (member_level ≤ level e) → 18 ≤ level e
callee_high e (inl h) = omega arith
callee_high e (inr h) = omega arith

module _ (look : Look) (x : Lexicon look.style) where
  -- arguments in parentheses, given or none
  record Given (a : Tree) (c : Code) (r0 : Input) (b : Spacing) (ts : Input) (K : Spacing → Input → Type 0) : Type 0 where
    m : Input
    more : K Touching m
    known : Known r0.places
    lead : kind ts ≡ left_paren_kind
    again : (us : Trees) × Arguments (unplaced c) (children us) ts m × AllRedone (leaves_at look x.naming) Plain (items_of a) us

  given : (xs : Trees) → AllSound look x.naming xs → (c : Code) (ts0 r0 : Input) → Arguments c (children xs) ts0 r0 → Known ts0.places → (b : Spacing) (ts : Input) (K : Spacing → Input → Type 0) → says x.naming (in_parens (separated look (comma look) xs)) b ts K → Given (list xs) c r0 b ts K
  given xs a c ts0 r0 h l b ts K q =
      let z = arguments_on look x c xs a h.0 r0 h.2 (x.later ts0 h.0 h.1.2 l) _ q.0 _ (λ d m o. marked look x right_paren_kind o.1) q.2 in
      let o = z.more in let w = z.again o.0 (took look x c right_paren_kind o.1) in
      record { m = o.0; more = o.2; known = z.known; lead = marked look x left_paren_kind q.1; again = (w.0, (q.0, took look x c left_paren_kind q.1, w.1), w.2) }

  none_given : (c : Code) (r0 : Input) → Known r0.places → (b : Spacing) (ts : Input) (K : Spacing → Input → Type 0) → says x.naming (in_parens nothing) b ts K → Given absent c r0 b ts K
  none_given c r0 l b ts K q = let o = q.2 in
      record { m = o.0; more = o.2; known = l; lead = marked look x left_paren_kind q.1; again = (none, (q.0, took look x c left_paren_kind q.1, took look x c right_paren_kind o.1), none_same (leaves_at look x.naming)) }

  abbrev asks : Stand → Tree → Bool
  asks st a = formats look || (has_arguments a || is_head_stand st)

  args_yes : (st : Stand) (a : Tree) → is_args a ≡ true → asks st a ≡ true → list (redos (leaves_at look x.naming) Plain (items_of a)) ≡ new_arguments look (is_head (mode_of st)) (redo (leaves_at look x.naming) Plain a)
  args_yes st absent p e = given_yes (formats look || is_head (mode_of st)) (ap (λ (v : Bool). formats look || v) (head_mode st) ∙ e)
  args_yes st (list none) p e = given_yes (formats look || is_head (mode_of st)) (ap (λ (v : Bool). formats look || v) (head_mode st) ∙ e)
  args_yes st (list (more t ts)) p e = refl
  args_yes st _ p e = absurd (true≢false (sym p))

  args_no : (st : Stand) (a : Tree) → is_args a ≡ true → asks st a ≡ false → absent ≡ new_arguments look (is_head (mode_of st)) (redo (leaves_at look x.naming) Plain a)
  args_no st absent p e = given_no (formats look || is_head (mode_of st)) (ap (λ (v : Bool). formats look || v) (head_mode st) ∙ e)
  args_no st (list none) p e = given_no (formats look || is_head (mode_of st)) (ap (λ (v : Bool). formats look || v) (head_mode st) ∙ e)
  args_no st (list (more t ts)) p e = absurd (true≢false (sym (middle_true (formats look) (is_head_stand st)) ∙ e))
  args_no st _ p e = absurd (true≢false (sym p))

  calm_asked : (st : Stand) (s : Span) (e a : Tree) → asks st a ≡ false → needs_calm st (new_expr s e a) ≡ true
  calm_asked st s e a h = by (leb 18 (level (new_expr s e a))) (is_head_stand st) (last_of (formats look) (has_arguments a) (is_head_stand st) h)
    where
      by : (u v : Bool) → v ≡ false → (not false && not (u && v)) ≡ true
      by true v e = subst (λ (w : Bool). not w ≡ true) (sym e) refl
      by false v e = refl

  -- `new` and its callee, and then arguments or none
  new_on : (s : Span) (e a : Tree) → Sound look x.naming Head e → (st : Stand) (c : Code) (ts0 m0 n0 r0 : Input) → TakesWord c new_kind ts0 m0 → Produces e (assigning c) m0 n0 → ((level e ≡ new_level) ⊎ (member_level ≤ level e)) → Known ts0.places
      → ((b : Spacing) (ts : Input) (K : Spacing → Input → Type 0) → Known n0.places → says x.naming (in_parens (laid look Alone a)) b ts K → Given a c r0 b ts K) → (asks st a ≡ false → Known n0.places → Known r0.places)
      → is_args a ≡ true
      → (b : Spacing) (ts : Input) (K : Spacing → Input → Type 0) → says x.naming (full look st (new_expr s e a)) b ts K → Out look x.naming st (new_expr s e a) c ts0 r0 b ts K
  new_on s e a f st c ts0 m0 n0 r0 t h v l g without p b ts K q =
      let y = plain_part look x.naming Head e f (level_part e (callee_there e v)) (assigning c) m0 n0 h (x.later ts0 m0 t.3 l) _ q.0 _ (skip x.naming (starts_with_word e || formats look) _ _ _ q.2) in
      by y (asks st a) refl y.more
    where
      by : (y : Out look x.naming Head e (assigning c) m0 n0 (gapped (starts_with_word e || formats look) Touching) q.0 (λ d m. says x.naming (when (asks st a) (in_parens (laid look Alone a))) d m K)) (j : Bool) → asks st a ≡ j → says x.naming (when j (in_parens (laid look Alone a))) y.d y.m K → Out look x.naming st (new_expr s e a) c ts0 r0 b ts K
      by y true i u = let z = g y.d y.m K y.known u in record {
        d = Touching;
        m = z.m;
        more = z.more;
        known = z.known;
        broke = q.1.broke;
        tight = λ k. refl;
        begins = led ts0 r0 ts z.m new_kind t.0 (keyed look x new_kind q.1) refl;
        again = λ k. let w = y.again (follow_head e n0 y.m (callee_high e v) z.lead) in record {
          tree = new_expr (span (lo ts) z.m.last) w.tree (list z.again.0);
          produced = (q.0, y.m, worded look x c new_kind q.1, (callee_level look x.naming e w.tree w.same v, w.produced), z.again.1, refl);
          directive = refl;
          quoted = λ p q. refl;
          same = record { so = λ n. ap₂ (λ (r w : Tree). new_expr no_place r w) (w.same.so Headed) (ap (λ (us : Trees). list us) (z.again.2.so Plain) ∙ args_yes st a p i) };
        };
      }
      by y false i u = record {
        d = y.d;
        m = y.m;
        more = u;
        known = without i y.known;
        broke = q.1.broke;
        tight = λ k. y.tight (tight_of e (callee_there e v));
        begins = led ts0 r0 ts y.m new_kind t.0 (keyed look x new_kind q.1) refl;
        again = λ k. let w = y.again (follow_none e n0 y.m (callee_high e v)) in record {
          tree = new_expr (span (lo ts) y.m.last) w.tree absent;
          produced = (q.0, worded look x c new_kind q.1, inr (callee_level look x.naming e w.tree w.same v), w.produced, low_goes (unplaced c) other_end y.m (k.quiet (calm_asked st s e a i)), refl);
          directive = refl;
          quoted = λ p q. refl;
          same = record { so = λ n. ap₂ (λ (r w : Tree). new_expr no_place r w) (w.same.so Headed) (args_no st a p i) };
        };
      }

  arguments_known : (c : Code) (xs : Trees) (st : Stand) (n0 r0 : Input) → asks st (list xs) ≡ false → Arguments c (children xs) n0 r0 → Known n0.places → Known r0.places
  arguments_known c none st n0 r0 e h l = x.later h.0 r0 h.2.2 (x.later n0 h.0 h.1.2 l)
  arguments_known c (more t ts) st n0 r0 e h l = absurd (true≢false (sym (middle (formats look)) ∙ e))
    where
      middle : (a : Bool) → (a || (true || is_head_stand st)) ≡ true
      middle true = refl
      middle false = refl

  pub new_with : (s : Span) (e : Tree) (xs : Trees) → Sound look x.naming Head e → AllSound look x.naming xs → (st : Stand) → Sound look x.naming st (new_expr s e (list xs))
  new_with s e xs f a st c ts0 r0 h l b ts K q =
      new_on s e (list xs) f st c ts0 h.0 h.1 r0 h.2 h.3.1 (inr h.3.0) l (λ b ts K l q. given xs a c h.1 r0 h.4 l b ts K q) (λ e l. arguments_known c xs st h.1 r0 e h.4 l) refl b ts K q

  pub new_bare : (s : Span) (e : Tree) → Sound look x.naming Head e → (st : Stand) → Sound look x.naming st (new_expr s e absent)
  new_bare s e f st c ts0 r0 h l b ts K q =
      new_on s e absent f st c ts0 h.0 r0 r0 h.1 h.3 h.2 l (λ b ts K l q. none_given c r0 l b ts K q) (λ e l. l) refl b ts K q
