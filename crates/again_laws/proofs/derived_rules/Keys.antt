-- Keys derived again (13.2.5): a word in ASCII alone may become a string.
use Rattle.std.proofs.Common.{Bool, List, Some, ap, arith, chars, false, if◌then◌else◌, refl, subst, sym, true, true≢false, ℕ, ◌||◌, ◌∙◌, ◌≡◌}
use Rattle.std.proofs.lemmas.Bool.{or_left, or_right, eqb-false}
use Rattle.base_token.specs.Kinds.{else_kind, left_bracket_kind, right_bracket_kind, str_kind}
use Rattle.base_token.specs.Tokens.{Quoted}
use Rattle.base_token.specs.Utf16.{utf16}
use Rattle.base_token.specs.declared.place.Span.{Span}
use Rattle.lex_token.specs.declared.goal.LexicalGoal.TheVariants.{Div}
use Rattle.tree_spec.specs.Places.{no_place}
use Rattle.tree_spec.specs.Tree.{Tree, big_int_lit, computed_prop_name, ident_name, number_lit, private_name, str_lit}
use Rattle.grammar_spec.specs.Tokens.Input.{Code, Input, content, escaped, is_word, kind, lo, span, unplaced, with_in}
use Rattle.grammar_spec.specs.Tokens.Operators.{assignment_level}
use Rattle.grammar_spec.specs.Tokens.Shape.{constructs, is_any_key, is_key, is_private}
use Rattle.grammar_spec.specs.Expressions.{IdentifierName}
use Rattle.grammar_spec.specs.Grammar.{Produces}
use Rattle.grammar_spec.specs.Children.{Sorted, is_module_item, child}
use Rattle.print_spelling.specs.String.Names.{is_quoted_key}
use Rattle.print_layout_spec.specs.Layout.{laid}
use Rattle.print_layout_spec.specs.Literals.{key_bytes, name_bytes}
use Rattle.print_layout_spec.specs.declared.look.Look.{Look}
use Rattle.print_layout_spec.specs.declared.look.Stand.{Stand}
use Rattle.print_layout_spec.specs.declared.look.Stand.TheVariants.{Alone, Key}
use Rattle.again_laws.specs.Tokens.Spacings.{Spacing, Touching}
use Rattle.again_laws.specs.Tokens.Lexicon.{Lexicon}
use Rattle.again_laws.specs.Tokens.Means.{Known, Means}
use Rattle.again_laws.specs.Tokens.Told.{Breaks, Told, says}
use Rattle.again_laws.specs.Derived.Redo.{Leaves, Mode, Plain, Redone, kept_at, redo}
use Rattle.again_laws.specs.Derived.Written.{written_key}
use Rattle.again_laws.proofs.derived_rules.Naming.{leaves_at}
use Rattle.again_laws.proofs.derived_rules.Begins.{first_token, is_loose, is_part, is_weak, no_else}
use Rattle.again_laws.proofs.derived_rules.Follow.{Follow, follow_by}
use Rattle.again_laws.proofs.derived_rules.KeyParts.{KeyPart}
use Rattle.again_laws.proofs.derived_rules.Shapes.{alike, re_is_key, re_is_private}
use Rattle.again_laws.proofs.derived_rules.Sound.{Sound, expr, expr_low, plain_part}
use Rattle.again_laws.proofs.derived_rules.Tokens.{marked, took}
use Rattle.again_laws.proofs.derived_rules.WordKeys.{key_as_name, quoted_constructs}

key_plain : (k : Tree) → is_key k ≡ true → (is_part k ≡ true) × (is_module_item k ≡ false)
key_plain (ident_name s n) h = (refl, refl)
key_plain (str_lit s u w) h = (refl, refl)
key_plain (number_lit s v w) h = (refl, refl)
key_plain (big_int_lit s b d w) h = (refl, refl)
key_plain (computed_prop_name s e) h = (refl, refl)
key_plain _ h = absurd (true≢false (sym h))

key_follow : (k : Tree) → is_key k ≡ true → (r m : Input) → Follow Key k r m
key_follow (ident_name s n) h r m = record { quiet = λ e. absurd (true≢false (sym e)); other = λ e. absurd (true≢false (sym e)) }
key_follow (str_lit s u w) h r m = record { quiet = λ e. absurd (true≢false (sym e)); other = λ e. absurd (true≢false (sym e)) }
key_follow (number_lit s v w) h r m = record { quiet = λ e. absurd (true≢false (sym e)); other = λ e. absurd (true≢false (sym e)) }
key_follow (big_int_lit s b d w) h r m = record { quiet = λ e. absurd (true≢false (sym e)); other = λ e. absurd (true≢false (sym e)) }
key_follow (computed_prop_name s e) h r m = record { quiet = λ e. absurd (true≢false (sym e)); other = λ e. absurd (true≢false (sym e)) }
key_follow _ h r m = absurd (true≢false (sym h))

bracket_else : left_bracket_kind ≡ else_kind → ⊥
bracket_else e = omega arith

re_constructs : (l : Leaves) (m : Mode) (t : Tree) → constructs (redo l m t) ≡ constructs t
re_constructs l m (ident_name s n) = refl
re_constructs l m (str_lit s u w) = refl
re_constructs l m _ = refl

constructs_same : (l : Leaves) (m : Mode) (t u : Tree) → Redone l m t u → constructs u ≡ constructs t
constructs_same l m t u s = alike constructs re_constructs l m t u s

module _ (look : Look) (x : Lexicon look.style) where
  pub computed_on : (s : Span) (e : Tree) → Sound look x.naming Alone e → (st : Stand) → Sound look x.naming st (computed_prop_name s e)
  computed_on s e f st c ts0 r0 h k b ts K q =
      let y = expr look x.naming assignment_level Alone e f (omega arith) (with_in c) h.0 h.1 h.3 (x.later ts0 h.0 h.2.2 k) _ q.0 _ q.2 in
      let z = y.more in record {
        d = Touching;
        m = z.0;
        more = z.2;
        known = x.later h.1 r0 h.4.2 y.known;
        broke = q.1.broke;
        tight = λ e. refl;
        begins = λ e. absurd (bracket_else (sym (marked look x left_bracket_kind q.1) ∙ e));
        again = λ g. let w = y.again (follow_by Alone e h.1 y.m right_bracket_kind (marked look x right_bracket_kind z.1) refl) in record {
          tree = computed_prop_name (span (lo ts) z.0.last) w.tree;
          produced = (q.0, y.m, took look x c left_bracket_kind q.1, expr_low look x.naming assignment_level Alone e (with_in c) q.0 y.m h.3.0 (omega arith) w, took look x c right_bracket_kind z.1, refl);
          directive = refl;
          quoted = λ p q. refl;
          same = record { so = λ n. ap (λ (t : Tree). computed_prop_name no_place t) (w.same.so Plain) };
        };
      }

  -- A key as it is derived again, where a sort of keys may stand and the tree has them given anew so.
  pub record KeyAgain (may : Tree → Bool) (write : Tree → Tree) (k : Tree) (c : Code) (ts0 r0 : Input) (b : Spacing) (ts : Input) (K : Spacing → Input → Type 0) : Type 0 where
    pub d : Spacing
    pub m : Input
    pub more : K d m
    pub known : Known r0.places
    pub broke : Breaks x.naming b ts
    pub first : kind ts ≡ else_kind → kind ts0 ≡ else_kind
    pub again : (u : Tree) × (may u ≡ true) × Produces u (unplaced c) ts m × ((n : Mode) → redo (kept_at x.naming.written) n u ≡ write (redo (leaves_at look x.naming) Plain k))
    pub constructor_as : constructs again.0 ≡ true → constructs k ≡ true

  -- a word: as a word, or as a string of its units
  word_on : (v : Bool) (s : Span) (n : List ℕ) → is_quoted_key look.style (chars n) ≡ v → (c : Code) (ts0 r0 : Input) → IdentifierName c s n ts0 r0 → Known ts0.places → (b : Spacing) (ts m : Input) → (K : Spacing → Input → Type 0) → Told x.naming Div (key_bytes look.style n) b ts m → K Touching m
      → KeyAgain is_key (λ t. written_key look.style t) (ident_name s n) c ts0 r0 b ts K
  word_on false s n e c ts0 r0 h l b ts m K t q =
      let means = subst (λ (w : List ℕ). Means Div w (kind ts) (content ts) (escaped ts)) (key_as_name look.style n e) t.means in
      let z = x.names ts0 _ _ _ l h.0.0 (subst (λ (w : List ℕ). Means Div (name_bytes look.style w) (kind ts) (content ts) (escaped ts)) (sym h.0.1) means) in record {
        d = Touching;
        m = m;
        more = q;
        known = x.later ts0 r0 h.0.3 l;
        broke = t.broke;
        first = λ e. sym z.0 ∙ e;
        again = (ident_name (span (lo ts) m.last) n, refl, ((ap is_word z.0 ∙ h.0.0, z.1 ∙ h.0.1, tt, t.after), refl), λ i. sym (ap (λ (v : Bool). if v then str_lit no_place (utf16 (chars n)) (Some (key_bytes look.style n)) else ident_name no_place n) e));
        constructor_as = λ e. e;
      }
  word_on true s n e c ts0 r0 h l b ts m K t q =
      let z = x.quoted_keys ts0 _ _ _ l h.0.0 (subst (λ (w : List ℕ). is_quoted_key look.style (chars w) ≡ true) (sym h.0.1) e) (subst (λ (w : List ℕ). Means Div (key_bytes look.style w) (kind ts) (content ts) (escaped ts)) (sym h.0.1) t.means) in
      let i = subst (λ (w : List ℕ). content ts ≡ Quoted (utf16 (chars w)) (key_bytes look.style w)) h.0.1 z.1 in record {
        d = Touching;
        m = m;
        more = q;
        known = x.later ts0 r0 h.0.3 l;
        broke = t.broke;
        first = λ e. absurd (eqb-false str_kind else_kind refl (sym z.0 ∙ e));
        again = (str_lit (span (lo ts) m.last) (utf16 (chars n)) (Some (key_bytes look.style n)), refl, (key_bytes look.style n, refl, i, (z.0, tt, t.after), refl), λ i. sym (ap (λ (v : Bool). if v then str_lit no_place (utf16 (chars n)) (Some (key_bytes look.style n)) else ident_name no_place n) e));
        constructor_as = λ i. absurd (true≢false (sym i ∙ quoted_constructs look.style n e));
      }

  -- any other key
  other_on : (k : Tree) → Sound look x.naming Key k → is_key k ≡ true → written_key look.style (redo (leaves_at look x.naming) Plain k) ≡ redo (leaves_at look x.naming) Plain k → ((u : Tree) → Redone (leaves_at look x.naming) Plain k u → constructs u ≡ true → constructs k ≡ true) → (c : Code) (ts0 r0 : Input) → Produces k c ts0 r0 → Known ts0.places
      → (b : Spacing) (ts : Input) (K : Spacing → Input → Type 0) → says x.naming (laid look Key k) b ts K → KeyAgain is_key (λ t. written_key look.style t) k c ts0 r0 b ts K
  other_on k f i w j c ts0 r0 h l b ts K q =
      let p = key_plain k i in
      let z = plain_part look x.naming Key k f p.0 c ts0 r0 h l b ts K q in
      let u = z.again (key_follow k i r0 z.m) in record {
        d = z.d;
        m = z.m;
        more = z.more;
        known = z.known;
        broke = z.broke;
        first = first_token (is_weak k) (is_loose k) ts0 r0 ts z.m z.begins;
        again = (u.tree, alike is_key re_is_key (leaves_at look x.naming) Plain k u.tree u.same ∙ i, u.produced, λ n. u.same.so n ∙ sym w);
        constructor_as = j u.tree u.same;
      }

  pub key_on : (k : Tree) → KeyPart look x.naming k → (c : Code) (ts0 r0 : Input) → Sorted is_key c (child k (λ y. Produces k y)) ts0 r0 → Known ts0.places → (b : Spacing) (ts : Input) (K : Spacing → Input → Type 0) → says x.naming (laid look Key k) b ts K → KeyAgain is_key (λ t. written_key look.style t) k c ts0 r0 b ts K
  key_on (ident_name s n) f c ts0 r0 h l b ts K q = word_on (is_quoted_key look.style (chars n)) s n refl c ts0 r0 h.1 l b ts q.0 K q.1 q.2
  key_on (str_lit s u w) f c ts0 r0 h l b ts K q = other_on (str_lit s u w) f refl refl (λ v e i. sym (constructs_same (leaves_at look x.naming) Plain (str_lit s u w) v e) ∙ i) c ts0 r0 h.1 l b ts K q
  key_on (number_lit s v w) f c ts0 r0 h l b ts K q = other_on (number_lit s v w) f refl refl (λ u e i. sym (constructs_same (leaves_at look x.naming) Plain (number_lit s v w) u e) ∙ i) c ts0 r0 h.1 l b ts K q
  key_on (big_int_lit s r d w) f c ts0 r0 h l b ts K q = other_on (big_int_lit s r d w) f refl refl (λ u e i. sym (constructs_same (leaves_at look x.naming) Plain (big_int_lit s r d w) u e) ∙ i) c ts0 r0 h.1 l b ts K q
  key_on (computed_prop_name s e) f c ts0 r0 h l b ts K q = other_on (computed_prop_name s e) f refl refl (λ u i j. sym (constructs_same (leaves_at look x.naming) Plain (computed_prop_name s e) u i) ∙ j) c ts0 r0 h.1 l b ts K q
  key_on _ f c ts0 r0 h l b ts K q = absurd (true≢false (sym h.0))

  -- a private name (15.7)
  pub private_key_on : (k : Tree) → KeyPart look x.naming k → is_private k ≡ true → (write : Tree → Tree) → write (redo (leaves_at look x.naming) Plain k) ≡ redo (leaves_at look x.naming) Plain k → (c : Code) (ts0 r0 : Input) → Produces k c ts0 r0 → Known ts0.places → (b : Spacing) (ts : Input) (K : Spacing → Input → Type 0) → says x.naming (laid look Key k) b ts K
      → KeyAgain is_private write k c ts0 r0 b ts K
  private_key_on (private_name s n) f i write w c ts0 r0 h l b ts K q =
      let z = plain_part look x.naming Key (private_name s n) f refl c ts0 r0 h l b ts K q in
      let u = z.again (record { quiet = λ e. absurd (true≢false (sym e)); other = λ e. absurd (true≢false (sym e)) }) in record {
        d = z.d;
        m = z.m;
        more = z.more;
        known = z.known;
        broke = z.broke;
        first = no_else ts0 r0 ts z.m z.begins;
        again = (u.tree, alike is_private re_is_private (leaves_at look x.naming) Plain (private_name s n) u.tree u.same, u.produced, λ n. u.same.so n ∙ sym w);
        constructor_as = λ j. sym (constructs_same (leaves_at look x.naming) Plain (private_name s n) u.tree u.same) ∙ j;
      }
  private_key_on _ f i write w c ts0 r0 h l b ts K q = absurd (true≢false (sym i))

  -- either
  pub any_key_on : (k : Tree) → KeyPart look x.naming k → (c : Code) (ts0 r0 : Input) → Sorted is_any_key c (child k (λ y. Produces k y)) ts0 r0 → Known ts0.places → (b : Spacing) (ts : Input) (K : Spacing → Input → Type 0) → says x.naming (laid look Key k) b ts K → KeyAgain is_any_key (λ t. written_key look.style t) k c ts0 r0 b ts K
  any_key_on k f c ts0 r0 h l b ts K q = by (is_private k) refl
    where
      left_true : (a b : Bool) → b ≡ false → (a || b) ≡ true → a ≡ true
      left_true true b e i = refl
      left_true false b e i = absurd (true≢false (sym i ∙ e))

      unwritten : (k : Tree) → is_private k ≡ true → written_key look.style (redo (leaves_at look x.naming) Plain k) ≡ redo (leaves_at look x.naming) Plain k
      unwritten (private_name s n) e = refl
      unwritten _ e = absurd (true≢false (sym e))

      by : (v : Bool) → is_private k ≡ v → KeyAgain is_any_key (λ t. written_key look.style t) k c ts0 r0 b ts K
      by true e = let z = private_key_on k f e (λ t. written_key look.style t) (unwritten k e) c ts0 r0 h.1 l b ts K q in record {
        d = z.d;
        m = z.m;
        more = z.more;
        known = z.known;
        broke = z.broke;
        first = z.first;
        again = (z.again.0, or_right (is_key z.again.0) (is_private z.again.0) z.again.1, z.again.2, z.again.3);
        constructor_as = z.constructor_as;
      }
      by false e = let z = key_on k f c ts0 r0 (left_true (is_key k) (is_private k) e h.0, h.1) l b ts K q in record {
        d = z.d;
        m = z.m;
        more = z.more;
        known = z.known;
        broke = z.broke;
        first = z.first;
        again = (z.again.0, or_left (is_key z.again.0) (is_private z.again.0) z.again.1, z.again.2, z.again.3);
        constructor_as = z.constructor_as;
      }
