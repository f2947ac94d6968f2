-- Members of classes derived again (15.7): methods, fields, the constructor and blocks.
use Rattle.std.proofs.Common.{Bool, List, [], ap, ap₂, arith, codes, false, if◌then◌else◌, inl, inr, not, refl, subst, sym, true, true≢false, ℕ, ◌&&◌, ◌-◌, ◌==◌, ◌||◌, ◌∙◌, ◌≡◌, ◌≤◌, ◌⊎◌}
use Rattle.std.proofs.lemmas.Slice.Eq.{bytes_eq-Decides}
use Rattle.base_token.specs.Kinds.{accessor_kind, assign_kind, else_kind, get_kind, set_kind, static_kind}
use Rattle.base_token.specs.Words.{own_text}
use Rattle.base_token.specs.declared.place.Span.{Span}
use Rattle.tree_spec.specs.Places.{no_place}
use Rattle.tree_spec.specs.Tree.{Tree, Trees, absent, auto_accessor, block_stmt, class_method, class_prop, constructor, function, ident_name, more, none, plain_method, private_method, private_name, private_prop, seq_expr, static_block, str_lit}
use Rattle.grammar_spec.specs.Tokens.Input.{Code, Input, Takes, TakesWord, escaped, in_body, in_field, in_static, kind, lo, rest, setting, span, unplaced}
use Rattle.grammar_spec.specs.Tokens.Operators.{assignment_level, key_end}
use Rattle.grammar_spec.specs.Tokens.Shape.{FunctionParts, constructs, count_of, ends, field_end, function_parts, is_absent, is_key, is_private, level}
use Rattle.grammar_spec.specs.Functions.{Initial as ClassInitial, ClassMethod, Field, Method, MethodHead, Static}
use Rattle.grammar_spec.specs.Grammar.{Produces, children}
use Rattle.grammar_spec.specs.Children.{By, Ends, Expr, child}
use Rattle.grammar_laws.proofs.Covers.{by_no}
use Rattle.print_gaps.specs.Edges.{is_there, starts_with_word}
use Rattle.print_layout_spec.specs.Layout.{after_static, comma, field_value, function_tail, in_parens, is_sequence, laid, method_marks, separated, word}
use Rattle.print_layout_spec.specs.Looks.{Laid, blank, formats, gap, gap_or, semi, text, when, ◌·◌}
use Rattle.print_layout_spec.specs.declared.look.Look.{Look}
use Rattle.print_layout_spec.specs.declared.look.Stand.{Stand}
use Rattle.print_layout_spec.specs.declared.look.Stand.TheVariants.{Alone, Body as BodyState, Key}
use Rattle.again_laws.specs.Tokens.Spacings.{Spacing, Spaced, Touching, blanked, is_broken}
use Rattle.again_laws.specs.Tokens.Lexicon.{Lexicon}
use Rattle.again_laws.specs.Tokens.Means.{Known}
use Rattle.again_laws.specs.Tokens.Told.{Breaks, says}
use Rattle.again_laws.specs.Derived.Redo.{AllRedone, Leaves, Mode, Plain, Redone, kept_at, redo}
use Rattle.again_laws.specs.Derived.Written.{constructor_word, written_constructor_key, written_key}
use Rattle.again_laws.proofs.derived_rules.Naming.{leaves_at}
use Rattle.again_laws.proofs.derived_rules.Bodies.{braced}
use Rattle.again_laws.proofs.derived_rules.Ends.{above, absent_same, ended_known, quiet_at, there}
use Rattle.again_laws.proofs.derived_rules.Follow.{no_item}
use Rattle.again_laws.proofs.derived_rules.KeyParts.{KeyPart}
use Rattle.again_laws.proofs.derived_rules.Shapes.{alike, re_is_absent}
use Rattle.again_laws.proofs.derived_rules.Sound.{AllSound, Sound, expr, expr_low}
use Rattle.again_laws.proofs.derived_rules.Tokens.{behind_word, blank_broke, ended, gapped, keyed, semi_of, skip, took, unbarred, worded}
use Rattle.again_laws.proofs.derived_rules.Functions.{count_same, parameters_on, same_functions, tail_on}
use Rattle.again_laws.proofs.derived_rules.Keys.{KeyAgain, any_key_on, key_on, private_key_on}
use Rattle.again_laws.proofs.derived_rules.Objects.{marks_on}
use Rattle.again_laws.proofs.derived_rules.WordKeys.{constructor_means}

static_else : static_kind ≡ else_kind → ⊥
static_else e = omega arith

accessor_else : accessor_kind ≡ else_kind → ⊥
accessor_else e = omega arith

no_sequence : (t : Tree) → assignment_level ≤ level t → is_sequence t ≡ false
no_sequence (seq_expr s xs) h = absurd (omega arith)
no_sequence _ h = refl

private_no_constructor : (t : Tree) → is_private t ≡ true → constructs t ≡ false
private_no_constructor (private_name s n) h = refl
private_no_constructor _ h = absurd (true≢false (sym h))

-- what isn't the constructor isn't it again
not_constructor : (a b v : Bool) → (a ≡ true → b ≡ true) → (b && v) ≡ false → (a && v) ≡ false
not_constructor true b v f e = subst (λ (w : Bool). (w && v) ≡ false) (f refl) e
not_constructor false b v f e = refl

-- the key of a constructor: what is behind it, and how it is written
key_rest : (key : Tree) (c : Code) (ts m : Input) → constructs key ≡ true → Produces key c ts m → rest ts ≡ m
key_rest (ident_name s n) c ts m e h = h.0.3
key_rest (str_lit s u w) c ts m e h = h.3.2
key_rest _ c ts m e h = absurd (true≢false (sym e))

constructor_written : (l : Leaves) (key : Tree) → constructs key ≡ true → written_constructor_key (redo l Plain key) ≡ ident_name no_place (codes "constructor")
constructor_written l (ident_name s n) e = ap (λ (w : List ℕ). ident_name no_place w) ((bytes_eq-Decides n (codes "constructor")).0 e)
constructor_written l (str_lit s u w) e = ap (λ (v : Bool). constructor_word v (redo l Plain (str_lit s u w))) e
constructor_written l _ e = absurd (true≢false (sym e))

module _ (look : Look) (x : Lexicon look.style) where
  -- ---- `static` and the words before a key

  -- a layout that says no token and ends no line
  abbrev pub IsBlank : Laid → Type 1
  IsBlank f = (b : Spacing) (ts : Input) (K : Spacing → Input → Type 0) → says x.naming f b ts K → (d : Spacing) × (is_broken d ≡ is_broken b) × K d ts

  always_blank : IsBlank blank
  always_blank b ts K q = (blanked b, blank_broke true b, q)

  gap_blank : (v : Bool) → IsBlank (gap_or look v)
  gap_blank v b ts K q = (gapped (v || formats look) b, blank_broke (v || formats look) b, skip x.naming (v || formats look) b ts K q)

  static_blank : (k : ℕ) (g a : Bool) (key : Tree) → IsBlank (after_static look k g a key)
  static_blank k g a key = by (k == plain_method && not a) g
    where
      by : (v w : Bool) → IsBlank (if v then (if w then gap look else gap_or look (starts_with_word key)) else blank)
      by true true b ts K q = (gapped (formats look) b, blank_broke (formats look) b, skip x.naming (formats look) b ts K q)
      by true false b ts K q = gap_blank (starts_with_word key) b ts K q
      by false w b ts K q = always_blank b ts K q

  record Static_on (i : Bool) (c : Code) (ts0 r0 : Input) (b : Spacing) (ts : Input) (K : Spacing → Input → Type 0) : Type 0 where
    d : Spacing
    m : Input
    more : K d m
    known : Known r0.places
    broke : Breaks x.naming d m → Breaks x.naming b ts
    first : (kind m ≡ else_kind → kind r0 ≡ else_kind) → kind ts ≡ else_kind → kind ts0 ≡ else_kind
    again : Static i (unplaced c) ts m

  static_on : (i : Bool) (f : Laid) → IsBlank f → (c : Code) (ts0 r0 : Input) → Static i c ts0 r0 → Known ts0.places → (b : Spacing) (ts : Input) (K : Spacing → Input → Type 0) → says x.naming (when i (word (codes "static") · f)) b ts K → Static_on i c ts0 r0 b ts K
  static_on false f j c ts0 r0 h k b ts K q = record {
    d = b;
    m = ts;
    more = q;
    known = subst (λ (i : Input). Known i.places) h k;
    broke = λ e. e;
    first = λ g e. ap kind h ∙ g e;
    again = refl;
  }
  static_on true f j c ts0 r0 h k b ts K q = let z = j Touching q.0 K q.2 in record {
    d = z.0;
    m = q.0;
    more = z.2;
    known = x.later ts0 r0 h.3 k;
    broke = λ e. q.1.broke;
    first = λ g e. absurd (static_else (sym (keyed look x static_kind q.1) ∙ e));
    again = worded look x c static_kind q.1;
  }

  -- ---- methods

  -- how a key is derived again, whatever comes before it
  abbrev KeySound : (Tree → Bool) → (Tree → Tree) → Tree → Type 1
  KeySound may write k = (c : Code) (ts0 r0 : Input) → Produces k c ts0 r0 → Known ts0.places → (b : Spacing) (ts : Input) (K : Spacing → Input → Type 0) → says x.naming (laid look Key k) b ts K → KeyAgain look x may write k c ts0 r0 b ts K

  record Method_on (may : Tree → Bool) (write : Tree → Tree) (k : ℕ) (key : Tree) (ps ss : Trees) (g a : Bool) (c : Code) (ts0 r0 : Input) (b : Spacing) (ts : Input) (K : Spacing → Input → Type 0) : Type 0 where
    m : Input
    more : K Touching m
    known : Known r0.places
    broke : Breaks x.naming b ts
    first : kind ts ≡ else_kind → kind ts0 ≡ else_kind
    u : Tree
    may_u : may u ≡ true
    same_u : (n : Mode) → redo (kept_at x.naming.written) n u ≡ write (redo (leaves_at look x.naming) Plain key)
    constructor_as : constructs u ≡ true → constructs key ≡ true
    us : Trees
    v : Span
    vs : Trees
    produced : (p : Span) → Method (unplaced c) k (child u (λ y. Produces u y)) (record { span = p; generator = g; async = a; count = count_of us }) (child (function p us none (block_stmt v vs) g a) (λ y. Produces (function p us none (block_stmt v vs) g a) y)) ts m
    same_us : AllRedone (leaves_at look x.naming) Plain ps us
    same_vs : AllRedone (leaves_at look x.naming) Plain ss vs

  abbrev Accessor : Code → ℕ → Tree → FunctionParts → Tree → Input → Input → Type 0
  Accessor c k key children f ts r = (m : Input) × (n : Input) × (((k ≡ get_kind) × (children.count ≡ 0)) ⊎ (k ≡ set_kind)) × (children.generator ≡ false) × (children.async ≡ false)
      × TakesWord c k ts m × Produces key c m n × Produces f (setting (k == set_kind) c) n r

  abbrev Plain_method : Code → Tree → FunctionParts → Tree → Input → Input → Type 0
  Plain_method c key children f ts r = (m : Input) × (n : Input) × MethodHead children.generator children.async c ts m × Produces key c m n × Produces f (setting false c) n r

  word_no_else : (k : ℕ) (n : ℕ) → ((k ≡ get_kind) × (n ≡ 0)) ⊎ (k ≡ set_kind) → k ≡ else_kind → ⊥
  word_no_else k n (inl h) e = absurd (omega (arith, h.0, e))
  word_no_else k n (inr h) e = absurd (omega (arith, h, e))

  method_on : (body : Stand) (may : Tree → Bool) (write : Tree → Tree) (k : ℕ) (key : Tree) (t : Span) (ps : Trees) (p : Span) (ss : Trees) (g a : Bool) (gp : Laid) → IsBlank gp → KeySound may write key → AllSound look x.naming ps → AllSound look x.naming ss → (c : Code) (ts0 r0 : Input) → (v : Bool) → (k == plain_method) ≡ v
      → By v (Plain_method c key (record { span = t; generator = g; async = a; count = count_of ps }) (function t ps none (block_stmt p ss) g a) ts0 r0) (Accessor c k key (record { span = t; generator = g; async = a; count = count_of ps }) (function t ps none (block_stmt p ss) g a) ts0 r0)
      → Known ts0.places → (b : Spacing) (ts : Input) (K : Spacing → Input → Type 0)
      → says x.naming ((if v then method_marks a g else (word (own_text k) · gp)) · laid look Key key · function_tail look (separated look (comma look) ps) (laid look body (block_stmt p ss))) b ts K → Method_on may write k key ps ss g a c ts0 r0 b ts K
  method_on body may write k key t ps p ss g a gp j n f i c ts0 r0 true e h l b ts K q =
      let w = marks_on look x g a c ts0 h.0 h.2 l b ts _ q in
      let y = n c h.0 h.1 h.3 w.known w.d w.m (λ d m. says x.naming (function_tail look (separated look (comma look) ps) (laid look body (block_stmt p ss))) d m K) w.more in
      let v = tail_on look x body ps p ss g a f i (setting false c) h.1 r0 h.4 y.known y.d y.m K y.more in record {
        m = v.m;
        more = v.more;
        known = v.known;
        broke = w.broke y.broke;
        first = w.first y.first;
        u = y.again.0;
        may_u = y.again.1;
        same_u = y.again.3;
        constructor_as = y.constructor_as;
        us = v.us;
        v = v.v;
        vs = v.vs;
        produced = λ p. subst (λ (z : Bool). By z (Plain_method (unplaced c) y.again.0 (record { span = p; generator = g; async = a; count = count_of v.us }) (function p v.us none (block_stmt v.v v.vs) g a) ts v.m)
            (Accessor (unplaced c) k y.again.0 (record { span = p; generator = g; async = a; count = count_of v.us }) (function p v.us none (block_stmt v.v v.vs) g a) ts v.m)) (sym e) (w.m, y.m, w.again y.broke, y.again.2, v.produced);
        same_us = v.same_us;
        same_vs = v.same_vs;
      }
  method_on body may write k key t ps p ss g a gp j n f i c ts0 r0 false e h l b ts K q =
      let o = x.words k _ _ _ q.1.means in
      let w = j Touching q.0 _ q.2 in
      let y = n c h.0 h.1 h.6 (x.later ts0 h.0 h.5.3 l) w.0 q.0 (λ d m. says x.naming (function_tail look (separated look (comma look) ps) (laid look body (block_stmt p ss))) d m K) w.2 in
      let v = tail_on look x body ps p ss g a f i (setting (k == set_kind) c) h.1 r0 h.7 y.known y.d y.m K y.more in record {
        m = v.m;
        more = v.more;
        known = v.known;
        broke = q.1.broke;
        first = λ e. absurd (word_no_else k (count_of ps) h.2 (sym o.0 ∙ e));
        u = y.again.0;
        may_u = y.again.1;
        same_u = y.again.3;
        constructor_as = y.constructor_as;
        us = v.us;
        v = v.v;
        vs = v.vs;
        produced = λ p. subst (λ (z : Bool). By z (Plain_method (unplaced c) y.again.0 (record { span = p; generator = g; async = a; count = count_of v.us }) (function p v.us none (block_stmt v.v v.vs) g a) ts v.m)
            (Accessor (unplaced c) k y.again.0 (record { span = p; generator = g; async = a; count = count_of v.us }) (function p v.us none (block_stmt v.v v.vs) g a) ts v.m)) (sym e)
            (q.0, y.m, counted v.us v.same_us h.2, h.3, h.4, (o.0, unbarred c.context (escaped ts) (kind ts) o.1, tt, q.1.after), y.again.2, v.produced);
        same_us = v.same_us;
        same_vs = v.same_vs;
      }
    where
      counted : (us : Trees) → AllRedone (leaves_at look x.naming) Plain ps us → ((k ≡ get_kind) × (count_of ps ≡ 0)) ⊎ (k ≡ set_kind) → ((k ≡ get_kind) × (count_of us ≡ 0)) ⊎ (k ≡ set_kind)
      counted us s (inl h) = inl (h.0, count_same (leaves_at look x.naming) Plain ps us s ∙ h.1)
      counted us s (inr h) = inr h

  -- a method of a class, by the sort of its key
  class_method_on : (of : Tree → Tree → Tree) (body : Stand) (may : Tree → Bool) (write : Tree → Tree) (s : Span) (key : Tree) (t : Span) (ps : Trees) (p : Span) (ss : Trees) (g a : Bool) (k : ℕ) (is_static : Bool) (f gp : Laid) → IsBlank f → IsBlank gp
      → KeySound may write key → AllSound look x.naming ps → AllSound look x.naming ss → (c : Code) (ts0 r0 : Input) → ClassMethod may c s (child key (λ y. Produces key y)) (child (function t ps none (block_stmt p ss) g a) (λ y. Produces (function t ps none (block_stmt p ss) g a) y)) (function_parts (function t ps none (block_stmt p ss) g a)) k is_static ts0 r0
      → Known ts0.places → (b : Spacing) (ts : Input) (K : Spacing → Input → Type 0)
      → says x.naming (when is_static (word (codes "static") · f) · (if k == plain_method then method_marks a g else (word (own_text k) · gp)) · laid look Key key · function_tail look (separated look (comma look) ps) (laid look body (block_stmt p ss))) b ts K
      → (m : Input) × K Touching m × Known r0.places × (Breaks x.naming b ts) × (kind ts ≡ else_kind → kind ts0 ≡ else_kind) × (u : Tree) × (us : Trees) × (v : Span) × (vs : Trees)
      × ClassMethod may (unplaced c) (span (lo ts) m.last) (child u (λ y. Produces u y)) (child (function (span (lo ts) m.last) us none (block_stmt v vs) g a) (λ y. Produces (function (span (lo ts) m.last) us none (block_stmt v vs) g a) y)) (function_parts (function (span (lo ts) m.last) us none (block_stmt v vs) g a)) k is_static ts m
      × ((n : Mode) → redo (kept_at x.naming.written) n u ≡ write (redo (leaves_at look x.naming) Plain key)) × AllRedone (leaves_at look x.naming) Plain ps us × AllRedone (leaves_at look x.naming) Plain ss vs
  class_method_on of body may write s key t ps p ss g a k is_static f gp i j n d e c ts0 r0 h l b ts K q =
      let w = static_on is_static f i c ts0 h.0 h.3 l b ts _ q in
      let v = method_on body may write k key t ps p ss g a gp j n d e c h.0 r0 (k == plain_method) refl h.4 w.known w.d w.m K w.more in (
        v.m,
        v.more,
        v.known,
        w.broke v.broke,
        w.first v.first,
        v.u,
        v.us,
        v.v,
        v.vs,
        (w.m, v.may_u, not_constructor (constructs v.u) (constructs key) (not is_static && ((k == plain_method) && (not g && not a))) v.constructor_as h.2, w.again, v.produced (span (lo ts) v.m.last), refl, refl),
        v.same_u,
        v.same_us,
        v.same_vs,
      )

  key_sound : (key : Tree) → KeyPart look x.naming key → is_key key ≡ true → KeySound is_key (λ t. written_key look.style t) key
  key_sound key f i c ts0 r0 h l b ts K q = key_on look x key f c ts0 r0 (i, h) l b ts K q

  private_sound : (key : Tree) → KeyPart look x.naming key → is_private key ≡ true → KeySound is_private (λ t. t) key
  private_sound key f i c ts0 r0 h l b ts K q = private_key_on look x key f i (λ t. t) refl c ts0 r0 h l b ts K q

  pub method_member : (s : Span) (key : Tree) (t : Span) (ps ds : Trees) (p : Span) (ss : Trees) (g a : Bool) (k : ℕ) (i : Bool) → KeyPart look x.naming key → AllSound look x.naming ps → AllSound look x.naming ss → (st : Stand) → Sound look x.naming st (class_method s key (function t ps ds (block_stmt p ss) g a) k i)
  method_member s key t ps (more d ds) p ss g a k i n f j st c ts0 r0 h l b ts K q = absurd (decorated (k == plain_method) h.4)
    where
      decorated : (v : Bool) → By v (Plain_method c key (record { span = t; generator = g; async = a; count = count_of ps }) (function t ps (more d ds) (block_stmt p ss) g a) h.0 r0) (Accessor c k key (record { span = t; generator = g; async = a; count = count_of ps }) (function t ps (more d ds) (block_stmt p ss) g a) h.0 r0) → ⊥
      decorated true m = m.4.1
      decorated false m = m.7.1
  method_member s key t ps none p ss g a k i n f j st c ts0 r0 h l b ts K q =
      let z = class_method_on (λ u v. class_method no_place u v k i) Alone is_key (λ t. written_key look.style t) s key t ps p ss g a k i (after_static look k g a key) (gap_or look (starts_with_word key)) (static_blank k g a key) (gap_blank (starts_with_word key))
      (key_sound key n h.1) f j c ts0 r0 h l b ts K q in record {
        d = Touching;
        m = z.0;
        more = z.1;
        known = z.2;
        broke = z.3;
        tight = λ e. absurd (true≢false (sym e));
        begins = z.4;
        again = λ g'. record {
          tree = class_method (span (lo ts) z.0.last) z.5 (function (span (lo ts) z.0.last) z.6 none (block_stmt z.7 z.8) g a) k i;
          produced = z.9;
          directive = refl;
          quoted = λ p q. refl;
          same = record { so = λ n. same_functions (λ u v. class_method no_place u v k i) g a (z.10 Plain) (z.11.so Plain) (z.12.so Plain) };
        };
      }

  pub private_member : (s : Span) (key : Tree) (t : Span) (ps ds : Trees) (p : Span) (ss : Trees) (g a : Bool) (k : ℕ) (i : Bool) → KeyPart look x.naming key → AllSound look x.naming ps → AllSound look x.naming ss → (st : Stand) → Sound look x.naming st (private_method s key (function t ps ds (block_stmt p ss) g a) k i)
  private_member s key t ps (more d ds) p ss g a k i n f j st c ts0 r0 h l b ts K q = absurd (decorated (k == plain_method) h.4)
    where
      decorated : (v : Bool) → By v (Plain_method c key (record { span = t; generator = g; async = a; count = count_of ps }) (function t ps (more d ds) (block_stmt p ss) g a) h.0 r0) (Accessor c k key (record { span = t; generator = g; async = a; count = count_of ps }) (function t ps (more d ds) (block_stmt p ss) g a) h.0 r0) → ⊥
      decorated true m = m.4.1
      decorated false m = m.7.1
  private_member s key t ps none p ss g a k i n f j st c ts0 r0 h l b ts K q =
      let z = class_method_on (λ u v. private_method no_place u v k i) BodyState is_private (λ t. t) s key t ps p ss g a k i blank blank always_blank always_blank (private_sound key n h.1) f j c ts0 r0 h l b ts K q in record {
        d = Touching;
        m = z.0;
        more = z.1;
        known = z.2;
        broke = z.3;
        tight = λ e. absurd (true≢false (sym e));
        begins = z.4;
        again = λ g'. record {
          tree = private_method (span (lo ts) z.0.last) z.5 (function (span (lo ts) z.0.last) z.6 none (block_stmt z.7 z.8) g a) k i;
          produced = z.9;
          directive = refl;
          quoted = λ p q. refl;
          same = record { so = λ n. same_functions (λ u v. private_method no_place u v k i) g a (z.10 Plain) (z.11.so Plain) (z.12.so Plain) };
        };
      }

  -- ---- fields

  record Field_end (value : Tree) (c : Code) (r0 : Input) (ts : Input) (K : Spacing → Input → Type 0) : Type 0 where
    d : Spacing
    m : Input
    more : K d m
    known : Known r0.places
    again : (u : Tree) × ((e : ℕ) → ClassInitial (unplaced c) e (child u (λ y. Produces u y)) ts m) × Redone (leaves_at look x.naming) Plain value u

  field_end_on : (value : Tree) → Sound look x.naming Alone value → (c : Code) (e : ℕ) (v : Bool) → is_absent value ≡ v → (n0 r0 : Input) → By v (Ends c e n0 r0) ((m : Input) × (n : Input) × Takes c assign_kind n0 m × Expr assignment_level (in_field c) (child value (λ y. Produces value y)) m n × Ends c (ends value) n r0) → Known n0.places
      → (b : Spacing) (ts : Input) (K : Spacing → Input → Type 0) → says x.naming (when (not v) (gap look · text (codes "=") · gap look · laid look Alone value) · semi) b ts K → Field_end value c r0 ts K
  field_end_on value f c e true a n0 r0 h k b ts K q = let o = semi_of b ts K q in record {
    d = o.0;
    m = o.1;
    more = o.3;
    known = ended_known look x c e n0 r0 h k;
    again = (absent, (λ e. ended look x c e o.2), absent_same (leaves_at look x.naming) Plain value a);
  }
  field_end_on value f c e false a n0 r0 h k b ts K q =
      let i = skip x.naming (formats look) b ts _ q in
      let j = skip x.naming (formats look) Touching i.0 _ i.2 in
      let y = expr look x.naming assignment_level Alone value f (omega arith) (in_field c) h.0 h.1 h.3 (x.later n0 h.0 h.2.2 k) _ i.0 _ j in
      let o = semi_of y.d y.m K y.more in
      let w = y.again (record { quiet = λ z. (quiet_at look x o.2).calm; other = λ z. absurd (no_item value (above assignment_level (level value) (omega arith) h.3.0) z) }) in record {
        d = o.0;
        m = o.1;
        more = o.3;
        known = ended_known look x c (ends value) h.1 r0 h.4 y.known;
        again = (
          w.tree,
          (λ e. by_no (is_absent w.tree) _ _ (alike is_absent re_is_absent (leaves_at look x.naming) Plain value w.tree w.same ∙ a)
              (i.0, y.m, took look x c assign_kind i.1, expr_low look x.naming assignment_level Alone value (in_field c) i.0 y.m h.3.0 (omega arith) w, ended look x c (ends w.tree) o.2)),
          w.same,
        );
      }

  -- the layout of a value, which is no sequence
  value_laid : (value : Tree) (c : Code) (n0 r0 : Input) (e : ℕ) (v : Bool) → is_absent value ≡ v → By v (Ends c e n0 r0) ((m : Input) × (n : Input) × Takes c assign_kind n0 m × Expr assignment_level (in_field c) (child value (λ y. Produces value y)) m n × Ends c (ends value) n r0)
      → (b : Spacing) (ts : Input) (K : Spacing → Input → Type 0) → says x.naming (field_value look value (laid look Alone value) · semi) b ts K → says x.naming (when (not v) (gap look · text (codes "=") · gap look · laid look Alone value) · semi) b ts K
  value_laid value c n0 r0 e true a h b ts K q = subst (λ (w : Bool). says x.naming (when w (gap look · text (codes "=") · gap look · (if is_sequence value then in_parens (laid look Alone value) else laid look Alone value)) · semi) b ts K) (there value ∙ ap not a) q
  value_laid value c n0 r0 e false a h b ts K q = subst (λ (w : Bool). says x.naming (when w (gap look · text (codes "=") · gap look · laid look Alone value) · semi) b ts K) (there value ∙ ap not a)
      (subst (λ (w : Bool). says x.naming (when (is_there value) (gap look · text (codes "=") · gap look · (if w then in_parens (laid look Alone value) else laid look Alone value)) · semi) b ts K) (no_sequence value h.3.0) q)

  field_on : (may : Tree → Bool) (write : Tree → Tree) (s : Span) (key value : Tree) (is_static : Bool) → KeySound may write key → Sound look x.naming Alone value → (c : Code) (ts0 r0 : Input) → Field may c s (child key (λ y. Produces key y)) (child value (λ y. Produces value y)) is_static [] ts0 r0 → Known ts0.places
      → (b : Spacing) (ts : Input) (K : Spacing → Input → Type 0) → says x.naming (when is_static (word (codes "static") · blank) · laid look Key key · field_value look value (laid look Alone value) · semi) b ts K
      → (d : Spacing) × (m : Input) × K d m × Known r0.places × (Breaks x.naming b ts) × (kind ts ≡ else_kind → kind ts0 ≡ else_kind) × (u : Tree) × (v : Tree)
      × Field may (unplaced c) (span (lo ts) m.last) (child u (λ y. Produces u y)) (child v (λ y. Produces v y)) is_static [] ts m
      × ((n : Mode) → redo (kept_at x.naming.written) n u ≡ write (redo (leaves_at look x.naming) Plain key)) × Redone (leaves_at look x.naming) Plain value v
  field_on may write s key value is_static n f c ts0 r0 h k b ts K q =
      let w = static_on is_static blank always_blank c ts0 h.0 h.4 k b ts _ q in
      let y = n c h.0 h.1 h.5 w.known w.d w.m (λ d m. says x.naming (field_value look value (laid look Alone value) · semi) d m K) w.more in
      let z = field_end_on value f c (field_end is_static (kind h.0)) (is_absent value) refl h.1 r0 h.6 y.known y.d y.m K (value_laid value c h.1 r0 (field_end is_static (kind h.0)) (is_absent value) refl h.6 y.d y.m K y.more) in
      (z.d, z.m, z.more, z.known, w.broke y.broke, w.first y.first, y.again.0, z.again.0, (w.m, y.m, tt, y.again.1, w.again, y.again.2, z.again.1 (field_end is_static (kind w.m)), refl), y.again.3, z.again.2)

  pub field_member : (s : Span) (key value : Tree) (i : Bool) (ds : Trees) → KeyPart look x.naming key → Sound look x.naming Alone value → (st : Stand) → Sound look x.naming st (class_prop s key value i ds)
  field_member s key value i (more d ds) n f st c ts0 r0 h k b ts K q = absurd h.2
  field_member s key value i none n f st c ts0 r0 h k b ts K q =
      let z = field_on is_key (λ t. written_key look.style t) s key value i (key_sound key n h.3) f c ts0 r0 h k b ts K q in record {
        d = z.0;
        m = z.1;
        more = z.2;
        known = z.3;
        broke = z.4;
        tight = λ e. absurd (true≢false (sym e));
        begins = z.5;
        again = λ g. record {
          tree = class_prop (span (lo ts) z.1.last) z.6 z.7 i none;
          produced = z.8;
          directive = refl;
          quoted = λ p q. refl;
          same = record { so = λ n. ap₂ (λ (u v : Tree). class_prop no_place u v i none) (z.9 Plain) (z.10.so Plain) };
        };
      }

  pub private_field : (s : Span) (key value : Tree) (i : Bool) (ds : Trees) → KeyPart look x.naming key → Sound look x.naming Alone value → (st : Stand) → Sound look x.naming st (private_prop s key value i ds)
  private_field s key value i (more d ds) n f st c ts0 r0 h k b ts K q = absurd h.2
  private_field s key value i none n f st c ts0 r0 h k b ts K q =
      let z = field_on is_private (λ t. t) s key value i (private_sound key n h.3) f c ts0 r0 h k b ts K q in record {
        d = z.0;
        m = z.1;
        more = z.2;
        known = z.3;
        broke = z.4;
        tight = λ e. absurd (true≢false (sym e));
        begins = z.5;
        again = λ g. record {
          tree = private_prop (span (lo ts) z.1.last) z.6 z.7 i none;
          produced = z.8;
          directive = refl;
          quoted = λ p q. refl;
          same = record { so = λ n. ap₂ (λ (u v : Tree). private_prop no_place u v i none) (z.9 Plain) (z.10.so Plain) };
        };
      }

  pub accessor_member : (s : Span) (key value : Tree) (i : Bool) (ds : Trees) → KeyPart look x.naming key → Sound look x.naming Alone value → (st : Stand) → Sound look x.naming st (auto_accessor s key value i ds)
  accessor_member s key value i (more d ds) n f st c ts0 r0 h k b ts K q = absurd h.4
  accessor_member s key value i none n f st c ts0 r0 h k b ts K q =
      let w = static_on i blank always_blank c ts0 h.0 h.5 k b ts _ q in
      let o = w.more in
      let y = any_key_on look x key n c h.1 h.2 h.8 (x.later h.0 h.1 h.6.3 w.known) Spaced o.0 (λ d m. says x.naming (when (is_there value) (gap look · text (codes "=") · gap look · laid look Alone value) · semi) d m K) o.2 in
      let z = field_end_on value f c key_end (is_absent value) refl h.2 r0 h.9 y.known y.d y.m K (subst (λ (v : Bool). says x.naming (when v (gap look · text (codes "=") · gap look · laid look Alone value) · semi) y.d y.m K) (there value) y.more) in record {
        d = z.d;
        m = z.m;
        more = z.more;
        known = z.known;
        broke = w.broke o.1.broke;
        tight = λ e. absurd (true≢false (sym e));
        begins = w.first (λ e. absurd (accessor_else (sym (keyed look x accessor_kind o.1) ∙ e)));
        again = λ g. record {
          tree = auto_accessor (span (lo ts) z.m.last) y.again.0 z.again.0 i none;
          produced = (w.m, o.0, y.m, h.3, tt, w.again, worded look x c accessor_kind o.1, behind_word look x accessor_kind refl o.1 y.broke, (y.again.1, y.again.2), z.again.1 key_end, refl);
          directive = refl;
          quoted = λ p q. refl;
          same = record { so = λ n. ap₂ (λ (u v : Tree). auto_accessor no_place u v i none) (y.again.3 Plain) (z.again.2.so Plain) };
        };
      }

  -- ---- the constructor, and blocks

  pub constructor_member : (s : Span) (key : Tree) (ps : Trees) (p : Span) (ss : Trees) → AllSound look x.naming ps → AllSound look x.naming ss → (st : Stand) → Sound look x.naming st (constructor s key ps (block_stmt p ss))
  constructor_member s key ps p ss f j st c ts0 r0 h k b ts K q =
      let o = constructor_means _ _ _ q.1.means in
      let z = parameters_on look x ps f (in_body false false c) h.0 h.1 h.4 (x.later ts0 h.0 (key_rest key c ts0 h.0 h.2 h.3) k) Touching q.0 (λ d m. says x.naming (laid look Alone (block_stmt p ss)) d m K) q.2 in
      let y = braced look x (in_body false false c) true ss j h.1 h.5.0 r0 h.5.1 h.5.2 z.known Touching z.m K (record { lo = record { 0 = p.hi.0 - 1 }; hi = p.hi }) z.more in record {
        d = Touching;
        m = y.m;
        more = y.more;
        known = y.known;
        broke = q.1.broke;
        tight = λ e. absurd (true≢false (sym e));
        begins = λ e. absurd (o.1 e);
        again = λ g. record {
          tree = constructor (span (lo ts) y.m.last) (ident_name (span (lo ts) q.0.last) (codes "constructor")) z.us (block_stmt (span (lo z.m) y.m.last) y.again.0);
          produced = (q.0, z.m, refl, ((o.0, o.2, tt, q.1.after), refl), z.produced, (y.again.1, y.again.2, y.again.3, refl), refl);
          directive = refl;
          quoted = λ p q. refl;
          same = record { so = λ n. ap₂ (λ (t : Tree) (us : Trees × Trees). constructor no_place t us.0 (block_stmt no_place us.1)) (sym (constructor_written (leaves_at look x.naming) key h.2)) (ap₂ (λ (us vs : Trees). (us, vs)) (z.same.so Plain) (y.again.4.so Plain)) };
        };
      }

  pub static_block_member : (s p : Span) (ss : Trees) → AllSound look x.naming ss → (st : Stand) → Sound look x.naming st (static_block s (block_stmt p ss))
  static_block_member s p ss j st c ts0 r0 h k b ts K q =
      let y = braced look x (in_static c) false ss j h.0 h.1 r0 h.3 h.4 (x.later ts0 h.0 h.2.3 k) Touching q.0 K (record { lo = record { 0 = p.hi.0 - 1 }; hi = p.hi }) q.2 in record {
        d = Touching;
        m = y.m;
        more = y.more;
        known = y.known;
        broke = q.1.broke;
        tight = λ e. absurd (true≢false (sym e));
        begins = λ e. absurd (static_else (sym (keyed look x static_kind q.1) ∙ e));
        again = λ g. record {
          tree = static_block (span (lo ts) y.m.last) (block_stmt (span (lo q.0) y.m.last) y.again.0);
          produced = (q.0, y.again.1, worded look x c static_kind q.1, y.again.2, y.again.3, refl, refl);
          directive = refl;
          quoted = λ p q. refl;
          same = record { so = λ n. ap (λ (us : Trees). static_block no_place (block_stmt no_place us)) (y.again.4.so Plain) };
        };
      }
