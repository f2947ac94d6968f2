-- Members derived again (13.3.2, 13.3.7).
use Rattle.std.proofs.Common.{Bool, List, Option, Some, ap, ap₂, arith, codes, false, if◌then◌else◌, inl, inr, not, refl, subst, sym, true, true≢false, ℕ, ◌&&◌, ◌||◌, ◌∙◌, ◌≡◌}
use Rattle.base_number.specs.Numbers.{SpecNumber}
use Rattle.base_token.specs.Kinds.{dot_kind, else_kind, function_kind, left_bracket_kind, num_kind, right_bracket_kind, super_kind}
use Rattle.base_token.specs.Tokens.{Numeral}
use Rattle.base_token.specs.declared.place.Span.{Span}
use Rattle.lex_token.specs.declared.goal.LexicalGoal.TheVariants.{Div}
use Rattle.tree_spec.specs.Places.{no_place}
use Rattle.tree_spec.specs.Tree.{Tree, computed_prop_name, ident_name, member_expr, number_lit, private_name, super, super_prop_expr}
use Rattle.grammar_spec.specs.Tokens.Input.{Code, Input, Spans, TakesWord, assigning, content, escaped, is_word, kind, lo, span, unplaced, with_in}
use Rattle.grammar_spec.specs.Tokens.Operators.{call_level, expression_level}
use Rattle.grammar_spec.specs.Tokens.Shape.{is_chain, is_private, is_word_name, level}
use Rattle.grammar_spec.specs.Expressions.{Bracketed, Dotted, Member, SuperProperty}
use Rattle.grammar_spec.specs.Grammar.{Produces}
use Rattle.grammar_spec.specs.Children.{Expr, is_module_item, child}
use Rattle.print_spelling.specs.Number.Numbers.{before_member}
use Rattle.print_layout_spec.specs.Layout.{is_computed, laid, number_before, point_before}
use Rattle.print_layout_spec.specs.Literals.{name_bytes, number, number_before_point, number_bytes}
use Rattle.print_layout_spec.specs.Looks.{Laid, end, start, text, when, ◌·◌}
use Rattle.print_layout_spec.specs.declared.look.Look.{Look}
use Rattle.print_layout_spec.specs.declared.look.Stand.{Stand}
use Rattle.print_layout_spec.specs.declared.look.Stand.TheVariants.{Alone, Head}
use Rattle.again_laws.specs.Tokens.Spacings.{Spacing, Touching}
use Rattle.again_laws.specs.Tokens.Lexicon.{Lexicon}
use Rattle.again_laws.specs.Tokens.Means.{Known, Means}
use Rattle.again_laws.specs.Tokens.Naming.{Naming}
use Rattle.again_laws.specs.Tokens.Told.{Breaks, says}
use Rattle.again_laws.specs.Derived.Redo.{Headed, Leaves, Mode, Plain, Pointed, Redone, is_head, object_mode, redo}
use Rattle.again_laws.specs.Derived.Written.{mode_of}
use Rattle.again_laws.proofs.derived_rules.Naming.{leaves_at}
use Rattle.again_laws.proofs.derived_rules.Begins.{Begins, before, firm, is_loose, is_part, led, tighten}
use Rattle.again_laws.proofs.derived_rules.Ends.{above}
use Rattle.again_laws.proofs.derived_rules.Follow.{Follow, follow_by, needs_calm}
use Rattle.again_laws.proofs.derived_rules.Levels.{level_head}
use Rattle.again_laws.proofs.derived_rules.Shapes.{alike, re_is_chain, re_is_private, re_is_word_name}
use Rattle.again_laws.proofs.derived_rules.Sound.{Again, Out, Sound, expr, expr_begins, expr_low, full, is_tight, plain_part}
use Rattle.again_laws.proofs.derived_rules.Tokens.{keyed, marked, took, worded}
use Rattle.again_laws.proofs.derived_rules.CallHeads.{follow_chain, leads_on, never_asked, over_call}

abbrev pub is_number : Tree → Bool
is_number (number_lit at v w) = true
is_number _ = false

abbrev pub object : Look → Tree → Tree → Laid
object look (number_lit at v w) k = number_before look at v w k
object look o k = laid look Head o

pub laid_member : (look : Look) (st : Stand) (s : Span) (o k : Tree) → laid look st (member_expr s o k) ≡ (start s · object look o k · point_before k · laid look Alone k · end s)
laid_member look st s (number_lit at v w) k = refl
laid_member look st s _ k = refl

pub pointed_same : (look : Look) (naming : Naming) (o : Tree) → is_number o ≡ false → (m : Mode) (k : Tree) → redo (leaves_at look naming) Headed o ≡ redo (leaves_at look naming) (object_mode Plain k) o
pointed_same look naming o n m k = by (is_computed k)
  where
    plain : (o : Tree) → is_number o ≡ false → redo (leaves_at look naming) Headed o ≡ redo (leaves_at look naming) Pointed o
    plain (number_lit at v w) e = absurd (true≢false e)
    plain _ e = refl

    by : (v : Bool) → redo (leaves_at look naming) Headed o ≡ redo (leaves_at look naming) (if v then Headed else Pointed) o
    by true = refl
    by false = plain o n

object_plain : (st : Stand) (k : Tree) → object_mode Plain k ≡ object_mode (mode_of st) k
object_plain st k = ap (λ (v : Bool). if v || is_computed k then Headed else Pointed) (sym (never_asked st))

as_dotted : (s : Span) (o k : Tree) (c : Code) (ts r : Input) → (is_word_name k || (true && is_private k)) ≡ true → Member c s (child o (λ y. Produces o y)) (λ m n. Dotted true c (child k (λ y. Produces k y)) m n) ts r → Produces (member_expr s o k) c ts r
as_dotted s o (ident_name t n) c ts r e h = h
as_dotted s o (private_name t n) c ts r e h = h
as_dotted s o _ c ts r e h = absurd (true≢false (sym e))

pub named_no_computed : (k : Tree) → (is_word_name k || (true && is_private k)) ≡ true → is_computed k ≡ false
named_no_computed (computed_prop_name s e) h = absurd (true≢false (sym h))
named_no_computed _ h = refl

pub named_plain : (k : Tree) → (is_word_name k || (true && is_private k)) ≡ true → is_part k ≡ true
named_plain (ident_name t n) h = refl
named_plain (private_name t n) h = refl
named_plain _ h = absurd (true≢false (sym h))

pub named_tight : (k : Tree) → (is_word_name k || (true && is_private k)) ≡ true → is_tight k ≡ true
named_tight (ident_name t n) h = refl
named_tight (private_name t n) h = refl
named_tight _ h = absurd (true≢false (sym h))

pub named_still : (k : Tree) → (is_word_name k || (true && is_private k)) ≡ true → needs_calm Alone k ≡ true → ⊥
named_still (ident_name t n) h z = true≢false (sym z)
named_still (private_name t n) h z = true≢false (sym z)
named_still _ h z = true≢false (sym h)

pub named_no_item : (k : Tree) → (is_word_name k || (true && is_private k)) ≡ true → is_module_item k ≡ true → ⊥
named_no_item (ident_name t n) h z = true≢false (sym z)
named_no_item (private_name t n) h z = true≢false (sym z)
named_no_item _ h z = true≢false (sym h)

pub re_named : (l : Leaves) (m : Mode) (k : Tree) → (is_word_name (redo l m k) || (true && is_private (redo l m k))) ≡ (is_word_name k || (true && is_private k))
re_named l m k = ap₂ (λ (a b : Bool). a || b) (re_is_word_name l m k) (re_is_private l m k)

pub object_head_mode : (k : Tree) → is_head (object_mode Plain k) ≡ true
object_head_mode k = by (is_computed k)
  where
    by : (b : Bool) → is_head (if b then Headed else Pointed) ≡ true
    by true = refl
    by false = refl

module _ (look : Look) (x : Lexicon look.style) where
  -- the object of a member
  pub record Objected (o k : Tree) (c : Code) (ts0 r0 : Input) (b : Spacing) (ts : Input) (K : Spacing → Input → Type 0) : Type 0 where
    pub d : Spacing
    pub m : Input
    pub more : K d m
    pub known : Known r0.places
    pub broke : Breaks x.naming b ts
    pub begins : Begins false ts0 r0 ts m
    pub again : Follow Head o r0 m → Again look x.naming (object_mode Plain k) o (assigning c) ts m

  object_head : (o : Tree) → is_number o ≡ false → Sound look x.naming Head o → (k : Tree) (c : Code) (ts0 r0 : Input) → Expr call_level c (child o (λ y. Produces o y)) ts0 r0 → Known ts0.places → (b : Spacing) (ts : Input) (K : Spacing → Input → Type 0)
      → says x.naming (laid look Head o) b ts K → Objected o k c ts0 r0 b ts K
  object_head o n f k c ts0 r0 h l b ts K q =
      let y = expr look x.naming call_level Head o f (omega arith) c ts0 r0 h l b ts K q in record {
        d = y.d;
        m = y.m;
        more = y.more;
        known = y.known;
        broke = y.broke;
        begins = tighten (is_loose o) (firm o (over_call (level o) h.0)) ts0 r0 ts y.m (expr_begins look x.naming Head o (assigning c) ts0 r0 b ts K (above call_level (level o) (omega arith) h.0) y);
        again = λ g. let w = y.again g in record { tree = w.tree; produced = w.produced; directive = w.directive; quoted = w.quoted; same = record { so = λ j. w.same.so j ∙ pointed_same look x.naming o n Plain k } };
      }

  number_object : (at : Span) (v : SpecNumber) (w : Option (List ℕ)) (j : Bool) (k : Tree) → is_computed k ≡ j → (c : Code) (ts0 r0 : Input) → Expr call_level c (child (number_lit at v w) (λ y. Produces (number_lit at v w) y)) ts0 r0 → Known ts0.places → (b : Spacing) (ts : Input) (K : Spacing → Input → Type 0)
      → says x.naming (start at · (if j then number look at v w else number_before_point look at v w)) b ts K → Objected (number_lit at v w) k c ts0 r0 b ts K
  number_object at v w true k e c ts0 r0 h l b ts K q =
      let z = x.numbers ts0 v h.1.0 _ _ _ l h.1.2 (subst (λ (o : Option (List ℕ)). Means Div (number_bytes look.style v o) (kind ts) (content ts) (escaped ts)) h.1.1 q.1.means) in record {
        d = Touching;
        m = q.0;
        more = q.2;
        known = x.later ts0 r0 h.1.3.2 l;
        broke = q.1.broke;
        begins = led ts0 r0 ts q.0 num_kind h.1.3.0 z.0 refl;
        again = λ f. record {
          tree = number_lit (span (lo ts) q.0.last) v (Some (number_bytes look.style v w));
          produced = (number_bytes look.style v w, refl, subst (λ (o : Option (List ℕ)). content ts ≡ Numeral v (number_bytes look.style v o)) (sym h.1.1) z.1, (z.0, tt, q.1.after), refl);
          directive = refl;
          quoted = λ p q. refl;
          same = record { so = λ n. ap (λ (u : Bool). redo (leaves_at look x.naming) (if u then Headed else Pointed) (number_lit at v w)) (sym e) };
        };
      }
  number_object at v w false k e c ts0 r0 h l b ts K q =
      let z = x.pointed ts0 v h.1.0 _ _ _ l h.1.2 (subst (λ (o : Option (List ℕ)). Means Div (before_member (number_bytes look.style v o)) (kind ts) (content ts) (escaped ts)) h.1.1 q.1.means) in record {
        d = Touching;
        m = q.0;
        more = q.2;
        known = x.later ts0 r0 h.1.3.2 l;
        broke = q.1.broke;
        begins = led ts0 r0 ts q.0 num_kind h.1.3.0 z.0 refl;
        again = λ f. record {
          tree = number_lit (span (lo ts) q.0.last) v (Some (before_member (number_bytes look.style v w)));
          produced = (before_member (number_bytes look.style v w), refl, subst (λ (o : Option (List ℕ)). content ts ≡ Numeral v (before_member (number_bytes look.style v o))) (sym h.1.1) z.1, (z.0, tt, q.1.after), refl);
          directive = refl;
          quoted = λ p q. refl;
          same = record { so = λ n. ap (λ (u : Bool). redo (leaves_at look x.naming) (if u then Headed else Pointed) (number_lit at v w)) (sym e) };
        };
      }

  pub object_on : (o : Tree) → Sound look x.naming Head o → (k : Tree) (c : Code) (ts0 r0 : Input) → Expr call_level c (child o (λ y. Produces o y)) ts0 r0 → Known ts0.places → (b : Spacing) (ts : Input) (K : Spacing → Input → Type 0)
      → says x.naming (object look o k) b ts K → Objected o k c ts0 r0 b ts K
  object_on (number_lit at v w) f k c ts0 r0 h l b ts K q = number_object at v w (is_computed k) k refl c ts0 r0 h l b ts K q
  object_on _ f k c ts0 r0 h l b ts K q = object_head _ refl f k c ts0 r0 h l b ts K q

  -- what stands behind it: a point and a name, or brackets
  pub record Accessed (k : Tree) (A : Tree → Input → Input → Type 0) (ts0 r0 : Input) (b : Spacing) (ts : Input) (K : Spacing → Input → Type 0) : Type 0 where
    pub d : Spacing
    pub m : Input
    pub more : K d m
    pub known : Known r0.places
    pub tight : d ≡ Touching
    pub lead : kind ts ≡ kind ts0
    pub bars : (kind ts ≡ function_kind → ⊥) × (kind ts ≡ else_kind → ⊥)
    pub again : (u : Tree) × A u ts m × Redone (leaves_at look x.naming) Plain k u

  pub word_name_on : (s : Span) (n : List ℕ) → Sound look x.naming Alone (ident_name s n)
  word_name_on s n c ts0 r0 h k b ts K q =
      let z = x.names ts0 _ _ _ k h.0.0 (subst (λ (w : List ℕ). Means Div (name_bytes look.style w) (kind ts) (content ts) (escaped ts)) (sym h.0.1) q.1.means) in record {
        d = Touching;
        m = q.0;
        more = q.2;
        known = x.later ts0 r0 h.0.3 k;
        broke = q.1.broke;
        tight = λ e. refl;
        begins = λ e. sym z.0 ∙ e;
        again = λ f. record { tree = ident_name (span (lo ts) q.0.last) n; produced = ((ap is_word z.0 ∙ h.0.0, z.1 ∙ h.0.1, tt, q.1.after), refl); directive = refl; quoted = λ p q. refl; same = record { so = λ m. refl } };
      }

  abbrev pub DotsAgain : Code → Tree → Input → Input → Type 0
  DotsAgain c u m n = ((is_word_name u || (true && is_private u)) ≡ true) × Dotted true (unplaced c) (child u (λ y. Produces u y)) m n

  pub dotted_on : (k : Tree) → Sound look x.naming Alone k → (s : Span) (c : Code) (ts0 r0 : Input) → Dotted true c (child k (λ y. Produces k y)) ts0 r0 → Known ts0.places → (b : Spacing) (ts : Input) (K : Spacing → Input → Type 0)
      → says x.naming (point_before k · laid look Alone k · end s) b ts K → Accessed k (DotsAgain c) ts0 r0 b ts K
  dotted_on k f s c ts0 r0 h l b ts K q = go (subst (λ (v : Bool). says x.naming (when (not v) (text (codes ".")) · laid look Alone k · end s) b ts K) (named_no_computed k h.2.0) q)
    where
      go : says x.naming (text (codes ".") · laid look Alone k · end s) b ts K → Accessed k (DotsAgain c) ts0 r0 b ts K
      go p = let y = plain_part look x.naming Alone k f (named_plain k h.2.0) c h.0 r0 h.2.1 (x.later ts0 h.0 h.1.2 l) _ p.0 _ p.2 in record {
        d = y.d;
        m = y.m;
        more = y.more;
        known = y.known;
        tight = y.tight (named_tight k h.2.0);
        lead = marked look x dot_kind p.1 ∙ sym h.1.0;
        bars = leads_on ts (inl (marked look x dot_kind p.1));
        again = let w = y.again (record { quiet = λ z. absurd (named_still k h.2.0 z); other = λ i. absurd (named_no_item k h.2.0 i) }) in
            let i = alike (λ (t : Tree). is_word_name t || (true && is_private t)) re_named (leaves_at look x.naming) Plain k w.tree w.same ∙ h.2.0 in
            (w.tree, (i, (p.0, took look x c dot_kind p.1, (i, w.produced))), w.same);
      }

  abbrev pub BracketsAgain : Code → Tree → Input → Input → Type 0
  BracketsAgain c (computed_prop_name t e) m n = Bracketed expression_level (unplaced c) t (child e (λ y. Produces e y)) m n
  BracketsAgain c _ m n = ⊥

  pub bracketed_on : (t : Span) (e : Tree) → Sound look x.naming Alone e → (s : Span) (c : Code) (ts0 r0 : Input) → Bracketed expression_level c t (child e (λ y. Produces e y)) ts0 r0 → Known ts0.places → (b : Spacing) (ts : Input) (K : Spacing → Input → Type 0)
      → says x.naming (point_before (computed_prop_name t e) · laid look Alone (computed_prop_name t e) · end s) b ts K → Accessed (computed_prop_name t e) (BracketsAgain c) ts0 r0 b ts K
  bracketed_on t e f s c ts0 r0 h l b ts K q =
      let y = expr look x.naming expression_level Alone e f (omega arith) (with_in c) h.0 h.1 h.3 (x.later ts0 h.0 h.2.2 l) _ q.0 _ q.2 in
      let z = y.more in record {
        d = Touching;
        m = z.0;
        more = z.2;
        known = x.later h.1 r0 h.4.2 y.known;
        tight = refl;
        lead = marked look x left_bracket_kind q.1 ∙ sym h.2.0;
        bars = leads_on ts (inr (marked look x left_bracket_kind q.1));
        again = let w = y.again (follow_by Alone e h.1 y.m right_bracket_kind (marked look x right_bracket_kind z.1) refl) in (
          computed_prop_name (span (lo ts) z.0.last) w.tree,
          (q.0, y.m, took look x c left_bracket_kind q.1, expr_low look x.naming expression_level Alone e (with_in c) q.0 y.m h.3.0 (omega arith) w, took look x c right_bracket_kind z.1, refl),
          record { so = λ n. ap (λ (u : Tree). computed_prop_name no_place u) (w.same.so Plain) },
        );
      }

  -- a member, by how it is taken
  member_on : (s : Span) (o k : Tree) → Sound look x.naming Head o → (c : Code) (A : Input → Input → Type 0) (B : Tree → Input → Input → Type 0)
      → ((m0 r0 : Input) → A m0 r0 → Known m0.places → (b : Spacing) (m : Input) (K : Spacing → Input → Type 0) → says x.naming (point_before k · laid look Alone k · end s) b m K → Accessed k B m0 r0 b m K)
      → ((p : Span) (u v : Tree) (ts m r : Input) → is_chain u ≡ false → Expr call_level (unplaced c) (child u (λ y. Produces u y)) ts m → B v m r → Spans p ts r → Produces (member_expr p u v) (unplaced c) ts r)
      → (st : Stand) (ts0 r0 : Input) → Member c s (child o (λ y. Produces o y)) A ts0 r0 → Known ts0.places → (b : Spacing) (ts : Input) (K : Spacing → Input → Type 0) → says x.naming (full look st (member_expr s o k)) b ts K → Out look x.naming st (member_expr s o k) c ts0 r0 b ts K
  member_on s o k f c A B g j st ts0 r0 h l b ts K q =
      let y = object_on o f k c ts0 h.0 h.2 l b ts _ (subst (λ (z : Laid). says x.naming z b ts K) (laid_member look st s o k) q) in
      let z = g h.0 r0 h.3 y.known y.d y.m K y.more in record {
        d = z.d;
        m = z.m;
        more = z.more;
        known = z.known;
        broke = y.broke;
        tight = λ e. z.tight;
        begins = before ts0 h.0 ts y.m r0 z.m (λ e. e) y.begins z.lead z.bars.0;
        again = λ i. let w = y.again (follow_chain o h.0 y.m (over_call (level o) h.2.0) z.bars.1) in let v = z.again in record {
          tree = member_expr (span (lo ts) z.m.last) w.tree v.0;
          produced = j (span (lo ts) z.m.last) w.tree v.0 ts y.m z.m (alike is_chain re_is_chain (leaves_at look x.naming) (object_mode Plain k) o w.tree w.same ∙ h.1) (level_head look x.naming (object_mode Plain k) o w.tree (object_head_mode k) w.same call_level h.2.0, w.produced) v.1 refl;
          directive = refl;
          quoted = λ p q. refl;
          same = record { so = λ n. ap₂ (λ (t p : Tree). member_expr no_place t p) (w.same.so (object_mode n v.0) ∙ ap (λ (m : Mode). redo (leaves_at look x.naming) m o) (object_plain st k)) (v.2.so Plain) };
        };
      }

  pub member_named : (s : Span) (o k : Tree) → Sound look x.naming Head o → Sound look x.naming Alone k → (st : Stand) (c : Code) (ts0 r0 : Input) → Member c s (child o (λ y. Produces o y)) (λ m n. Dotted true c (child k (λ y. Produces k y)) m n) ts0 r0 → Known ts0.places
      → (b : Spacing) (ts : Input) (K : Spacing → Input → Type 0) → says x.naming (full look st (member_expr s o k)) b ts K → Out look x.naming st (member_expr s o k) c ts0 r0 b ts K
  member_named s o k f g st c ts0 r0 h l b ts K q =
      member_on s o k f c (λ m n. Dotted true c (child k (λ y. Produces k y)) m n) (DotsAgain c) (λ m0 r a l b m K q. dotted_on k g s c m0 r a l b m K q)
      (λ p u v ts m r e i a n. as_dotted p u v (unplaced c) ts r a.0 (m, e, i, a.1, n)) st ts0 r0 h l b ts K q

  pub member_computed : (s : Span) (o : Tree) (t : Span) (e : Tree) → Sound look x.naming Head o → Sound look x.naming Alone e → (st : Stand) (c : Code) (ts0 r0 : Input) → Member c s (child o (λ y. Produces o y)) (λ m n. Bracketed expression_level c t (child e (λ y. Produces e y)) m n) ts0 r0 → Known ts0.places
      → (b : Spacing) (ts : Input) (K : Spacing → Input → Type 0) → says x.naming (full look st (member_expr s o (computed_prop_name t e))) b ts K → Out look x.naming st (member_expr s o (computed_prop_name t e)) c ts0 r0 b ts K
  member_computed s o t e f g st c ts0 r0 h l b ts K q =
      member_on s o (computed_prop_name t e) f c (λ m n. Bracketed expression_level c t (child e (λ y. Produces e y)) m n) (BracketsAgain c) (λ m0 r a l b m K q. bracketed_on t e g s c m0 r a l b m K q)
      (λ p u v ts m r e i a n. as_bracketed p u v c ts m r e i a n) st ts0 r0 h l b ts K q
    where
      as_bracketed : (p : Span) (u v : Tree) (c : Code) (ts m r : Input) → is_chain u ≡ false → Expr call_level (unplaced c) (child u (λ y. Produces u y)) ts m → BracketsAgain c v m r → Spans p ts r → Produces (member_expr p u v) (unplaced c) ts r
      as_bracketed p u (computed_prop_name t e) c ts m r a i n j = (m, a, i, n, j)
      as_bracketed p u _ c ts m r a i n j = absurd n

  -- ---- members of `super`

  super_on : (s t : Span) (k : Tree) (c : Code) (A : Input → Input → Type 0) (B : Tree → Input → Input → Type 0)
      → ((m0 r0 : Input) → A m0 r0 → Known m0.places → (b : Spacing) (m : Input) (K : Spacing → Input → Type 0) → says x.naming (point_before k · laid look Alone k · end s) b m K → Accessed k B m0 r0 b m K)
      → ((p o : Span) (v : Tree) (ts m r : Input) → is_word_name v ≡ is_word_name k → TakesWord (unplaced c) super_kind ts m → Spans o ts m → B v m r → Spans p ts r → Produces (super_prop_expr p (super o) v) (unplaced c) ts r)
      → (st : Stand) (ts0 r0 : Input) → SuperProperty c s t A ts0 r0 → Known ts0.places → (b : Spacing) (ts : Input) (K : Spacing → Input → Type 0) → says x.naming (full look st (super_prop_expr s (super t) k)) b ts K → Out look x.naming st (super_prop_expr s (super t) k) c ts0 r0 b ts K
  super_on s t k c A B g j st ts0 r0 h l b ts K q =
      let z = g h.0 r0 h.3 (x.later ts0 h.0 h.1.3 l) Touching q.0 K q.2 in record {
        d = z.d;
        m = z.m;
        more = z.more;
        known = z.known;
        broke = q.1.broke;
        tight = λ e. z.tight;
        begins = led ts0 r0 ts z.m super_kind h.1.0 (keyed look x super_kind q.1) refl;
        again = λ i. let v = z.again in record {
          tree = super_prop_expr (span (lo ts) z.m.last) (super (span (lo ts) q.0.last)) v.0;
          produced = j (span (lo ts) z.m.last) (span (lo ts) q.0.last) v.0 ts q.0 z.m (alike is_word_name re_is_word_name (leaves_at look x.naming) Plain k v.0 v.2) (worded look x c super_kind q.1) refl v.1 refl;
          directive = refl;
          quoted = λ p q. refl;
          same = record { so = λ n. ap (λ (p : Tree). super_prop_expr no_place (super no_place) p) (v.2.so Plain) };
        };
      }

  pub super_named : (s t u : Span) (n : List ℕ) (st : Stand) → Sound look x.naming st (super_prop_expr s (super t) (ident_name u n))
  super_named s t u n st c ts0 r0 h l b ts K q =
      super_on s t (ident_name u n) c (λ m r. Dotted true c (child (ident_name u n) (λ y. Produces (ident_name u n) y)) m r) (DotsAgain c) (λ m0 r a l b m K q. dotted_on (ident_name u n) (word_name_on u n) s c m0 r a l b m K q)
      (λ p o v ts m r e w i a d. as_super p o v ts m r e w i a d) st ts0 r0 h l b ts K q
    where
      as_super : (p o : Span) (v : Tree) (ts m r : Input) → is_word_name v ≡ true → TakesWord (unplaced c) super_kind ts m → Spans o ts m → DotsAgain c v m r → Spans p ts r → Produces (super_prop_expr p (super o) v) (unplaced c) ts r
      as_super p o (ident_name t n) ts m r e w i a d = (m, w, i, a.1, d)
      as_super p o _ ts m r e w i a d = absurd (true≢false (sym e))

  pub super_computed : (s t u : Span) (e : Tree) → Sound look x.naming Alone e → (st : Stand) → Sound look x.naming st (super_prop_expr s (super t) (computed_prop_name u e))
  super_computed s t u e f st c ts0 r0 h l b ts K q =
      super_on s t (computed_prop_name u e) c (λ m r. Bracketed expression_level c u (child e (λ y. Produces e y)) m r) (BracketsAgain c) (λ m0 r a l b m K q. bracketed_on u e f s c m0 r a l b m K q)
      (λ p o v ts m r e w i a d. as_super p o v ts m r w i a d) st ts0 r0 h l b ts K q
    where
      as_super : (p o : Span) (v : Tree) (ts m r : Input) → TakesWord (unplaced c) super_kind ts m → Spans o ts m → BracketsAgain c v m r → Spans p ts r → Produces (super_prop_expr p (super o) v) (unplaced c) ts r
      as_super p o (computed_prop_name t e) ts m r w i a d = (m, w, i, a, d)
      as_super p o _ ts m r w i a d = absurd a
