-- Names of exports, and the name of a module with its attributes, derived again (16.2).
use Rattle.std.proofs.Common.{Bool, List, None, Option, Some, ap, ap₂, chars, codes, false, if◌then◌else◌, inl, inr, not, refl, subst, sym, true, true≢false, ℕ, ◌&&◌, ◌∙◌, ◌≡◌, ◌⊎◌}
use Rattle.base_token.specs.Kinds.{assert_kind, else_kind, with_kind}
use Rattle.base_token.specs.Utf16.{utf16}
use Rattle.base_token.specs.declared.place.Span.{Span}
use Rattle.tree_spec.specs.Places.{no_place}
use Rattle.tree_spec.specs.Tree.{Tree, Trees, absent, ident, ident_name, key_value_prop, more, none, object_lit, str_lit}
use Rattle.grammar_spec.specs.Tokens.Input.{Code, Input, TakesWord, brk, kind, lo, span, unplaced}
use Rattle.grammar_spec.specs.Tokens.Operators.{plain_end, source_end}
use Rattle.grammar_spec.specs.Tokens.Shape.{are_attributes, export_name, is_absent, is_attribute_key, is_attributes, is_string}
use Rattle.grammar_spec.specs.Grammar.{Produces}
use Rattle.grammar_spec.specs.Modules.{Attributes, ExportName, Source}
use Rattle.grammar_spec.specs.Children.{By, Ends, Sorted, is_module_item, child}
use Rattle.grammar_laws.proofs.Covers.{by_no}
use Rattle.print_spelling.specs.String.Names.{is_quoted_key}
use Rattle.print_layout_spec.specs.Layout.{attributes, laid, word}
use Rattle.print_layout_spec.specs.Literals.{key_bytes}
use Rattle.print_layout_spec.specs.Looks.{formats, gap, semi, when, ◌·◌}
use Rattle.print_layout_spec.specs.declared.look.Look.{Look}
use Rattle.print_layout_spec.specs.declared.look.Stand.TheVariants.{Alone, Key}
use Rattle.again_laws.specs.Tokens.Ties.{is_held}
use Rattle.again_laws.specs.Tokens.Spacings.{Spacing, Touching, is_broken}
use Rattle.again_laws.specs.Tokens.Lexicon.{Lexicon}
use Rattle.again_laws.specs.Tokens.Means.{Known}
use Rattle.again_laws.specs.Tokens.Naming.{Naming}
use Rattle.again_laws.specs.Tokens.Told.{Breaks, says}
use Rattle.again_laws.specs.Derived.Redo.{Leaves, Mode, Plain, Redone, redo, redos, kept_at}
use Rattle.again_laws.specs.Derived.Written.{written_key}
use Rattle.again_laws.proofs.derived_rules.Naming.{leaves_at}
use Rattle.again_laws.proofs.derived_rules.Begins.{first_token, is_loose, is_part, is_weak}
use Rattle.again_laws.proofs.derived_rules.Ends.{absent_same, ended_known, quiet_at, there}
use Rattle.again_laws.proofs.derived_rules.Follow.{needs_calm}
use Rattle.again_laws.proofs.derived_rules.KeyParts.{KeyPart}
use Rattle.again_laws.proofs.derived_rules.Shapes.{alike, re_is_absent}
use Rattle.again_laws.proofs.derived_rules.Sound.{Sound, is_tight, plain_part}
use Rattle.again_laws.proofs.derived_rules.Tokens.{before_held, keyed, blank_broke, ended, gapped, semi_of, skip, spelled_word, worded}

string_key : (t : Tree) → is_string t ≡ true → (is_part t ≡ true) × (is_tight t ≡ true) × (needs_calm Key t ≡ false) × (is_module_item t ≡ false) × (export_name t ≡ None)
string_key (str_lit s u w) h = (refl, refl, refl, refl, refl)
string_key _ h = absurd (true≢false (sym h))

re_is_string : (l : Leaves) (m : Mode) (t : Tree) → is_string (redo l m t) ≡ is_string t
re_is_string l m (str_lit s u w) = refl
re_is_string l m _ = refl

-- ---- attributes: their keys may become strings

key_written : (look : Look) (naming : Naming) (t : Tree) → is_attribute_key (written_key look.style (redo (leaves_at look naming) Plain t)) ≡ is_attribute_key t
key_written look naming (ident_name s n) = by (is_quoted_key look.style (chars n))
  where
    by : (v : Bool) → is_attribute_key (if v then str_lit no_place (utf16 (chars n)) (Some (key_bytes look.style n)) else ident_name no_place n) ≡ true
    by true = refl
    by false = refl
key_written look naming (str_lit s u w) = refl
key_written look naming _ = refl

key_kept : (places : ℕ → Span) (t : Tree) → is_attribute_key (redo (kept_at places) Plain t) ≡ is_attribute_key t
key_kept places (ident_name s n) = refl
key_kept places (str_lit s u w) = refl
key_kept places _ = refl

all_written : (look : Look) (naming : Naming) (ts : Trees) → are_attributes (redos (leaves_at look naming) Plain ts) ≡ are_attributes ts
all_written look naming none = refl
all_written look naming (more (key_value_prop s k v) ts) = ap₂ (λ (a b : Bool). a && b) (ap₂ (λ (a b : Bool). a && b) (key_written look naming k) (re_is_string (leaves_at look naming) Plain v)) (all_written look naming ts)
all_written look naming (more _ ts) = refl

all_kept : (places : ℕ → Span) (ts : Trees) → are_attributes (redos (kept_at places) Plain ts) ≡ are_attributes ts
all_kept places none = refl
all_kept places (more (key_value_prop s k v) ts) = ap₂ (λ (a b : Bool). a && b) (ap₂ (λ (a b : Bool). a && b) (key_kept places k) (re_is_string (kept_at places) Plain v)) (all_kept places ts)
all_kept places (more _ ts) = refl

attributes_written : (look : Look) (naming : Naming) (t : Tree) → is_attributes (redo (leaves_at look naming) Plain t) ≡ is_attributes t
attributes_written look naming (object_lit s ps) = all_written look naming ps
attributes_written look naming _ = refl

attributes_kept : (places : ℕ → Span) (t : Tree) → is_attributes (redo (kept_at places) Plain t) ≡ is_attributes t
attributes_kept places (object_lit s ps) = all_kept places ps
attributes_kept places _ = refl

attributes_again : (look : Look) (naming : Naming) (t u : Tree) → Redone (leaves_at look naming) Plain t u → is_attributes u ≡ is_attributes t
attributes_again look naming t u s = sym (attributes_kept naming.written u) ∙ (ap is_attributes (s.so Plain) ∙ attributes_written look naming t)

attributes_part : (t : Tree) → is_attributes t ≡ true → (is_part t ≡ true) × (is_module_item t ≡ false)
attributes_part (object_lit s ps) h = (refl, refl)
attributes_part _ h = absurd (true≢false (sym h))

module _ (look : Look) (x : Lexicon look.style) where
  -- ---- a string as a name

  pub record String_on (t : Tree) (c : Code) (ts0 r0 : Input) (b : Spacing) (ts : Input) (K : Spacing → Input → Type 0) : Type 0 where
    pub d : Spacing
    pub m : Input
    pub more : K d m
    pub known : Known r0.places
    pub broke : Breaks x.naming b ts
    pub touches : d ≡ Touching
    pub first : kind ts ≡ else_kind → kind ts0 ≡ else_kind
    pub again : (u : Tree) × Sorted is_string (unplaced c) (child u (λ y. Produces u y)) ts m × Redone (leaves_at look x.naming) Plain t u

  plain_string : (t : Tree) → Sound look x.naming Key t → (c : Code) (ts0 r0 : Input) → Sorted is_string c (child t (λ y. Produces t y)) ts0 r0 → Known ts0.places → (b : Spacing) (ts : Input) (K : Spacing → Input → Type 0) → says x.naming (laid look Key t) b ts K → String_on t c ts0 r0 b ts K
  plain_string t f c ts0 r0 h k b ts K q =
      let p = string_key t h.0 in
      let z = plain_part look x.naming Key t f p.0 c ts0 r0 h.1 k b ts K q in
      let w = z.again (record { quiet = λ e. absurd (true≢false (sym e ∙ p.2)); other = λ e. absurd (true≢false (sym e ∙ p.3)) }) in record {
        d = z.d;
        m = z.m;
        more = z.more;
        known = z.known;
        broke = z.broke;
        touches = z.tight p.1;
        first = first_token (is_weak t) (is_loose t) ts0 r0 ts z.m z.begins;
        again = (w.tree, (alike is_string re_is_string (leaves_at look x.naming) Plain t w.tree w.same ∙ h.0, w.produced), w.same);
      }

  pub string_on : (t : Tree) → KeyPart look x.naming t → (c : Code) (ts0 r0 : Input) → Sorted is_string c (child t (λ y. Produces t y)) ts0 r0 → Known ts0.places → (b : Spacing) (ts : Input) (K : Spacing → Input → Type 0) → says x.naming (laid look Key t) b ts K → String_on t c ts0 r0 b ts K
  string_on (str_lit s u w) f c ts0 r0 h k b ts K q = plain_string (str_lit s u w) f c ts0 r0 h k b ts K q
  string_on _ f c ts0 r0 h k b ts K q = absurd (true≢false (sym h.0))

  -- ---- a word or a string as the name of an export

  pub record Exported (t : Tree) (c : Code) (ts0 r0 : Input) (b : Spacing) (ts : Input) (K : Spacing → Input → Type 0) : Type 0 where
    pub d : Spacing
    pub m : Input
    pub more : K d m
    pub known : Known r0.places
    pub broke : Breaks x.naming b ts
    pub first : kind ts ≡ else_kind → kind ts0 ≡ else_kind
    pub again : (u : Tree) × ExportName (unplaced c) (export_name u) (child u (λ y. Produces u y)) ts m × Redone (leaves_at look x.naming) Plain t u

  as_string : (u : Tree) (c : Code) (ts m : Input) → Sorted is_string c (child u (λ y. Produces u y)) ts m → ExportName c (export_name u) (child u (λ y. Produces u y)) ts m
  as_string u c ts m h = subst (λ (o : Option (List ℕ × Span)). ExportName c o (child u (λ y. Produces u y)) ts m) (sym (string_key u h.0).4) h

  other_name : (t : Tree) → export_name t ≡ None → KeyPart look x.naming t → (c : Code) (ts0 r0 : Input) → ExportName c (export_name t) (child t (λ y. Produces t y)) ts0 r0 → Known ts0.places → (b : Spacing) (ts : Input) (K : Spacing → Input → Type 0) → says x.naming (laid look Key t) b ts K → Exported t c ts0 r0 b ts K
  other_name t e f c ts0 r0 h k b ts K q =
      let z = string_on t f c ts0 r0 (subst (λ (o : Option (List ℕ × Span)). ExportName c o (child t (λ y. Produces t y)) ts0 r0) e h) k b ts K q in record {
        d = z.d;
        m = z.m;
        more = z.more;
        known = z.known;
        broke = z.broke;
        first = z.first;
        again = (z.again.0, as_string z.again.0 (unplaced c) ts z.m z.again.1, z.again.2);
      }

  pub export_name_on : (t : Tree) → KeyPart look x.naming t → (c : Code) (ts0 r0 : Input) → ExportName c (export_name t) (child t (λ y. Produces t y)) ts0 r0 → Known ts0.places → (b : Spacing) (ts : Input) (K : Spacing → Input → Type 0) → says x.naming (laid look Key t) b ts K → Exported t c ts0 r0 b ts K
  export_name_on (ident s n) f c ts0 r0 h k b ts K q =
      let z = spelled_word look x n ts0 r0 ts q.0 c c h.0 k q.1.told in record {
        d = Touching;
        m = q.0;
        more = q.2;
        known = x.later ts0 r0 h.0.3 k;
        broke = q.1.told.broke;
        first = λ e. sym z.0 ∙ e;
        again = (ident (span (lo ts) q.0.last) n, (z.1, refl), record { so = λ m. ap (λ (p : Span). ident p n) q.1.stands });
      }
  export_name_on t f c ts0 r0 h k b ts K q = other_name t refl f c ts0 r0 h k b ts K q

  -- ---- the name of a module, its attributes and the end

  record Attributed (t : Tree) (c : Code) (e : ℕ) (r0 : Input) (ts : Input) (K : Spacing → Input → Type 0) : Type 0 where
    d : Spacing
    m : Input
    more : K d m
    known : Known r0.places
    again : (u : Tree) × By (is_absent u) (Ends (unplaced c) e ts m) ((n : Input) × Attributes (unplaced c) (child u (λ y. Produces u y)) ts n × Ends (unplaced c) plain_end n m) × Redone (leaves_at look x.naming) Plain t u

  -- `with`, or `assert` on the line of the name
  record With_word (c : Code) (ts : Input) (K : Spacing → Input → Type 0) : Type 0 where
    m : Input
    more : K Touching m
    again : TakesWord (unplaced c) with_kind ts m ⊎ ((brk ts ≡ false) × TakesWord (unplaced c) assert_kind ts m)

  with_word : (v : Bool) (c : Code) (b : Spacing) (ts : Input) (K : Spacing → Input → Type 0) → is_broken b ≡ false → says x.naming (if v then word (codes "assert") else word (codes "with")) b ts K → With_word c ts K
  with_word true c b ts K e q = record { m = q.0; more = q.2; again = inr (before_held look x q.1 (ap is_held (keyed look x assert_kind q.1)) ∙ e, worded look x c assert_kind q.1) }
  with_word false c b ts K e q = record { m = q.0; more = q.2; again = inl (worded look x c with_kind q.1) }

  word_known : (c : Code) (m r : Input) → TakesWord c with_kind m r ⊎ ((brk m ≡ false) × TakesWord c assert_kind m r) → Known m.places → Known r.places
  word_known c m r (inl h) k = x.later m r h.3 k
  word_known c m r (inr h) k = x.later m r h.1.3 k

  attributed_on : (t : Tree) → Sound look x.naming Alone t → (c : Code) (e : ℕ) (v : Bool) → is_absent t ≡ v → (ts0 r0 : Input) → By v (Ends c e ts0 r0) ((n : Input) × Attributes c (child t (λ y. Produces t y)) ts0 n × Ends c plain_end n r0) → Known ts0.places → (b : Spacing) → b ≡ Touching → (ts : Input) (K : Spacing → Input → Type 0)
      → says x.naming (when (not v) (gap look · word (if look.asserts then codes "assert" else codes "with") · gap look · laid look Alone t) · semi) b ts K → Attributed t c e r0 ts K
  attributed_on t f c e true a ts0 r0 h k b i ts K q = let o = semi_of b ts K q in record {
    d = o.0;
    m = o.1;
    more = o.3;
    known = ended_known look x c e ts0 r0 h k;
    again = (absent, ended look x c e o.2, absent_same (leaves_at look x.naming) Plain t a);
  }
  attributed_on t f c e false a ts0 r0 h k b i ts K q =
      let p = h.1 in
      let j = attributes_part t p.3 in
      let w = with_word look.asserts c (gapped (formats look) b) ts (λ d m. says x.naming (gap look · laid look Alone t · semi) d m K) (blank_broke (formats look) b ∙ ap is_broken i) (either look.asserts (gapped (formats look) b) ts (λ d m. says x.naming (gap look · laid look Alone t · semi) d m K) (skip x.naming (formats look) b ts _ q)) in
      let y = plain_part look x.naming Alone t f j.0 c p.0 h.0 p.4 (word_known c ts0 p.0 p.2 k) _ w.m _ (skip x.naming (formats look) Touching w.m _ w.more) in
      let o = semi_of y.d y.m K y.more in
      let u = y.again (record { quiet = λ z. (quiet_at look x o.2).calm; other = λ z. absurd (true≢false (sym z ∙ j.1)) }) in record {
        d = o.0;
        m = o.1;
        more = o.3;
        known = ended_known look x c plain_end h.0 r0 h.2 y.known;
        again = (u.tree, by_no (is_absent u.tree) _ _ (alike is_absent re_is_absent (leaves_at look x.naming) Plain t u.tree u.same ∙ a) (y.m, (w.m, p.1, w.again, attributes_again look x.naming t u.tree u.same ∙ p.3, u.produced), ended look x c plain_end o.2), u.same);
      }
    where
      either : (v : Bool) (b : Spacing) (ts : Input) (J : Spacing → Input → Type 0) → says x.naming (word (if v then codes "assert" else codes "with")) b ts J → says x.naming (if v then word (codes "assert") else word (codes "with")) b ts J
      either true b ts J q = q
      either false b ts J q = q

  pub record Sourced (src with_ : Tree) (c : Code) (ts0 r0 : Input) (ts : Input) (K : Spacing → Input → Type 0) : Type 0 where
    pub d : Spacing
    pub m : Input
    pub more : K d m
    pub known : Known r0.places
    pub u : Tree
    pub v : Tree
    pub produced : Source (unplaced c) (child u (λ y. Produces u y)) (child v (λ y. Produces v y)) ts m
    pub same_u : Redone (leaves_at look x.naming) Plain src u
    pub same_v : Redone (leaves_at look x.naming) Plain with_ v

  pub source_on : (src with_ : Tree) → KeyPart look x.naming src → Sound look x.naming Alone with_ → (c : Code) (ts0 r0 : Input) → Source c (child src (λ y. Produces src y)) (child with_ (λ y. Produces with_ y)) ts0 r0 → Known ts0.places → (b : Spacing) (ts : Input) (K : Spacing → Input → Type 0)
      → says x.naming (laid look Key src · attributes look with_ (laid look Alone with_) · semi) b ts K → Sourced src with_ c ts0 r0 ts K
  source_on src with_ f g c ts0 r0 h k b ts K q =
      let y = string_on src f c ts0 h.0 h.1 k b ts (λ d m. says x.naming (attributes look with_ (laid look Alone with_) · semi) d m K) q in
      let z = attributed_on with_ g c source_end (is_absent with_) refl h.0 r0 h.2 y.known y.d y.touches y.m K
      (subst (λ (v : Bool). says x.naming (when v (gap look · word (if look.asserts then codes "assert" else codes "with") · gap look · laid look Alone with_) · semi) y.d y.m K) (there with_) y.more) in record {
        d = z.d;
        m = z.m;
        more = z.more;
        known = z.known;
        u = y.again.0;
        v = z.again.0;
        produced = (y.m, y.again.1, z.again.1);
        same_u = y.again.2;
        same_v = z.again.2;
      }
