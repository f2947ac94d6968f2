-- Parts of productions: what they are made of is read from known tokens.
use Rattle.std.proofs.Common.{◌≡◌, ◌⊎◌, inl, inr, ℕ, ◌+◌, ◌≤◌, Bool, true, false, not, ◌&&◌, ◌||◌, ◌==◌, if◌then◌else◌, List, Option, Some, refl, sym, subst, ◌∙◌, true≢false, arith}
use Rattle.std.specs.Prelude.{nat_le}
use Rattle.std.proofs.lemmas.Bool.{leb-true, eqb-true}
use Rattle.std.proofs.lemmas.Bool.Decides.{nat_tests}
use Rattle.base_proofs.proofs.Bools.{and_false}
use Rattle.base_token.specs.declared.place.Span.{Span}
use Rattle.base_token.specs.Kinds.{comma_kind, semicolon_kind, right_brace_kind, in_kind, exp_kind, nullish_coalescing_kind}
use Rattle.tree_spec.specs.Tree.{Tree, Trees, none, more, tpl_element, absent, hole}
use Rattle.grammar_spec.specs.Tokens.Input.{Input, Code, Takes, TakesWord, TakesIn, turned_strict, is_strict, has_in}
use Rattle.grammar_spec.specs.Tokens.Shape.{level, is_absent, is_place, is_item_pat, is_statement, is_plain_function, class_span, fits_left, is_use_strict, is_directive, function_parts, FunctionParts}
use Rattle.grammar_spec.specs.Tokens.Operators.{coalesce_level, bit_or_level, exponent_level, update_level, new_level, member_level, binary_level, right_level, operates}
use Rattle.grammar_spec.specs.Children.{Child, child, By, Expr, Sorted, Maybe, is_quasi, Items, Listed, CommaThen, Commas, IsEmpty}
use Rattle.grammar_spec.specs.Grammar.{Produces, children}
use Rattle.print_layout_spec.specs.Layout.{is_computed}
use Rattle.again_laws.specs.Derived.Redo.{Mode, Plain, Headed, Pointed, Raw, is_asked, is_tagged, quasi_mode, object_mode}
use Rattle.again_laws.specs.Derived.Every.{every, every_all}
use Rattle.again_laws.specs.Derived.Read.{Knowledge, Read}

-- ---- levels of operators, and modes

pub no_left : (x y : Bool) (n : ℕ) → nat_le 1 n ≡ true → (if x then nat_le update_level 0 else (if y then ((0 == coalesce_level) || nat_le bit_or_level 0) else nat_le n 0)) ≡ true → ⊥
no_left true y n k h = true≢false (sym h)
no_left false true n k h = true≢false (sym h)
no_left false false n k h = let a = leb-true 1 n k in let b = leb-true n 0 h in omega arith

in_level : (k : ℕ) → (k == in_kind) ≡ true → nat_le 1 (binary_level k) ≡ true
in_level k e = subst (λ (n : ℕ). nat_le 1 (binary_level n) ≡ true) (sym (eqb-true k in_kind e)) refl

pub operator_level : (c : Code) (op : ℕ) → operates c op ≡ true → nat_le 1 (binary_level op) ≡ true
operator_level c op h = by (op == in_kind) refl h
  where
    by : (b : Bool) → (op == in_kind) ≡ b → (if b then has_in c else nat_le 1 (binary_level op)) ≡ true → nat_le 1 (binary_level op) ≡ true
    by true e h = in_level op e
    by false e h = h

pub right_some : (x y : Bool) (n : ℕ) → nat_le 1 (if x then exponent_level else (if y then bit_or_level else n + 1)) ≡ true
right_some true y n = refl
right_some false true n = refl
right_some false false n = grind (arith, nat_tests)

pub object_untagged : (m : Mode) (k : Tree) → is_tagged (object_mode m k) ≡ false
object_untagged m k = by (is_asked m || is_computed k)
  where
    by : (b : Bool) → is_tagged (if b then Headed else Pointed) ≡ false
    by true = refl
    by false = refl

module _ (know : Knowledge) where
  abbrev pub Fine : Mode → Tree → Input → Type 0
  Fine m t r = every (Read know.Known) m t × know.Known r.places

  abbrev pub AllFine : Mode → Trees → Input → Type 0
  AllFine m ts r = every_all (Read know.Known) m ts × know.Known r.places

  abbrev pub Found : Tree → Type 0
  Found t = (mode : Mode) → is_tagged mode ≡ false → is_quasi t ≡ false → (c : Code) (ts r : Input) → Produces t c ts r → know.Known ts.places → Fine mode t r

  abbrev pub AllFound : Trees → Type 0
  AllFound none = Unit {0}
  AllFound (more t ts) = Found t × AllFound ts

  -- ---- tokens

  pub took : (c : Code) (k : ℕ) (ts m : Input) → Takes c k ts m → know.Known ts.places → know.Known m.places
  took c k ts m h l = know.later ts m h.2 l

  pub word : (c : Code) (k : ℕ) (ts m : Input) → TakesWord c k ts m → know.Known ts.places → know.Known m.places
  word c k ts m h l = know.later ts m h.3 l

  pub inside : (c : Code) (g k : ℕ) (ts m : Input) → TakesIn c g k ts m → know.Known ts.places → know.Known m.places
  inside c g k ts m h l = know.later ts m h.2 l

  pub at : (m r : Input) → m ≡ r → know.Known m.places → know.Known r.places
  at m r e l = subst (λ (i : Input). know.Known i.places) e l

  pub ended : (c : Code) (A B : Type 0) (m r : Input) → Takes c semicolon_kind m r ⊎ (A × B × (m ≡ r)) → know.Known m.places → know.Known r.places
  ended c A B m r (inl h) l = took c semicolon_kind m r h l
  ended c A B m r (inr h) l = at m r h.2 l

  -- ---- trees that are no piece of a template

  -- no piece passes a test
  abbrev pub Apart : (Tree → Bool) → Type 0
  Apart p = (s : Span) (b : Bool) (w : List ℕ) (u : Option (List ℕ)) → p (tpl_element s b w u) ≡ false

  pub whole_test : (p : Tree → Bool) (t : Tree) → Apart p → p t ≡ true → is_quasi t ≡ false
  whole_test p (tpl_element s b w u) a h = absurd (true≢false (sym h ∙ a s b w u))
  whole_test p _ a h = refl

  pub whole_level : (l : ℕ) (t : Tree) → nat_le 1 l ≡ true → l ≤ level t → is_quasi t ≡ false
  whole_level l (tpl_element s b w u) o h = let k = leb-true 1 l o in absurd (omega arith)
  whole_level l _ o h = refl

  pub whole_new : (t : Tree) → (level t ≡ new_level) ⊎ (member_level ≤ level t) → is_quasi t ≡ false
  whole_new (tpl_element s b w u) (inl e) = absurd (omega arith)
  whole_new (tpl_element s b w u) (inr e) = absurd (omega arith)
  whole_new _ h = refl

  pub whole_left : (c : Code) (op : ℕ) (t : Tree) → operates c op ≡ true → fits_left op t ≡ true → is_quasi t ≡ false
  whole_left c op (tpl_element s b w u) o h = absurd (no_left (op == exp_kind) (op == nullish_coalescing_kind) (binary_level op) (operator_level c op o) h)
  whole_left c op _ o h = refl

  pub whole_right : (op : ℕ) (t : Tree) → right_level op ≤ level t → is_quasi t ≡ false
  whole_right op t h = whole_level (right_level op) t (right_some (op == exp_kind) (op == nullish_coalescing_kind) (binary_level op)) h

  pub whole_place : (b : Bool) (t : Tree) → is_place b t ≡ true → is_quasi t ≡ false
  whole_place b t h = whole_test (λ u. is_place b u) t (λ s t w u. and_false (not b)) h

  pub whole_item : (b : Bool) (t : Tree) → is_item_pat b t ≡ true → is_quasi t ≡ false
  whole_item b t h = whole_test (λ u. is_item_pat b u) t (λ s t w u. and_false (not b)) h

  pub whole_sub : (c : Code) (t : Tree) → (is_statement t || (not (is_strict c) && is_plain_function t)) ≡ true → is_quasi t ≡ false
  whole_sub c t h = whole_test (λ u. is_statement u || (not (is_strict c) && is_plain_function u)) t (λ s t w u. and_false (not (is_strict c))) h

  pub whole_function : (t : Tree) (p : FunctionParts) → function_parts t ≡ Some p → is_quasi t ≡ false
  whole_function (tpl_element s b w u) p e = absurd cc
  whole_function _ p e = refl

  pub whole_class : (t : Tree) (s : Span) → class_span t ≡ Some s → is_quasi t ≡ false
  whole_class (tpl_element s b w u) p e = absurd cc
  whole_class _ p e = refl

  -- ---- parts

  -- a part in its own code, as each of a list is
  abbrev pub Each : (Child → Input → Input → Type 0) → Type 0
  Each Q = (t : Tree) → Found t → (ts r : Input) → Q (child t (λ y. Produces t y)) ts r → know.Known ts.places → Fine Plain t r

  pub expr : (n : ℕ) → nat_le 1 n ≡ true → (c : Code) → Each (Expr n c)
  expr n o c t f ts r h l = f Plain refl (whole_level n t o h.0) _ ts r h.1 l

  pub sorted : (s : Tree → Bool) → Apart s → (c : Code) → Each (Sorted s c)
  sorted s never c t f ts r h l = f Plain refl (whole_test s t never h.0) c ts r h.1 l

  -- a part that may be left out
  pub gone : (e : Tree) → is_absent e ≡ true → every (Read know.Known) Plain e
  gone absent h = tt
  gone _ h = absurd (true≢false (sym h))

  pub choice : (b : Bool) (e : Tree) → is_absent e ≡ b → (A B : Type 0) (r : Input) → By b A B → (A → know.Known r.places) → (B → Fine Plain e r) → Fine Plain e r
  choice true e i A B r h f g = (gone e i, f h)
  choice false e i A B r h f g = g h

  pub maybe : (Q : Code → Child → Input → Input → Type 0) (c : Code) → Each (Q c) → Each (Maybe Q c)
  maybe Q c q t f ts r h l = choice (is_absent t) t refl _ _ r h (λ e. at ts r e l) (λ e. q t f ts r e l)

  pub commas : (Q : Child → Input → Input → Type 0) → Each Q → (c : Code) (xs : Trees) → AllFound xs → (ts r : Input) → CommaThen Q c (children xs) ts r → know.Known ts.places → AllFine Plain xs r
  commas Q q c none a ts r h l = (tt, at ts r h l)
  commas Q q c (more t us) a ts r h l = let y = q t a.0 h.0 h.1 h.3 (took c comma_kind ts h.0 h.2 l) in let z = commas Q q c us a.1 h.1 r h.4 y.1 in ((y.0, z.0), z.1)

  pub joined : (Q : Child → Input → Input → Type 0) → Each Q → (c : Code) (xs : Trees) → AllFound xs → (ts r : Input) → Commas Q c (children xs) ts r → know.Known ts.places → AllFine Plain xs r
  joined Q q c none a ts r h l = absurd h
  joined Q q c (more t us) a ts r h l = let y = q t a.0 ts h.0 h.1 l in let z = commas Q q c us a.1 h.0 r h.2 y.1 in ((y.0, z.0), z.1)

  pub behind : (holes : Bool) (Q : Child → Input → Input → Type 0) (c : Code) (close : ℕ) (xs : Trees) (b : Bool) → ((m r : Input) → Listed holes Q c close (children xs) m r → know.Known m.places → AllFine Plain xs r) → (m r : Input)
      → ((b ≡ false) × (n : Input) × Takes c comma_kind m n × Listed holes Q c close (children xs) n r) ⊎ (IsEmpty (children xs) × Takes c close m r) → know.Known m.places → AllFine Plain xs r
  behind holes Q c close xs b f m r (inl h) l = f h.1 r h.3 (took c comma_kind m h.1 h.2 l)
  behind holes Q c close none b f m r (inr h) l = (tt, took c close m r h.1 l)
  behind holes Q c close (more t ts) b f m r (inr h) l = absurd h.0

  pub listed : (holes : Bool) (Q : Child → Input → Input → Type 0) → Each Q → (c : Code) (close : ℕ) (xs : Trees) → AllFound xs → (ts r : Input) → Listed holes Q c close (children xs) ts r → know.Known ts.places → AllFine Plain xs r
  listed holes Q q c close none a ts r h l = (tt, took c close ts r h l)
  listed true Q q c close (more hole us) a ts r h l = let z = listed true Q q c close us a.1 h.0 r h.2 (took c comma_kind ts h.0 h.1 l) in ((tt, z.0), z.1)
  listed true Q q c close (more t us) a ts r h l = let y = q t a.0 ts h.0 h.1 l in let z = behind true Q c close us _ (λ m r i l. listed true Q q c close us a.1 m r i l) h.0 r h.2 y.1 in ((y.0, z.0), z.1)
  listed false Q q c close (more t us) a ts r h l = let y = q t a.0 ts h.0 h.1 l in let z = behind false Q c close us _ (λ m r i l. listed false Q q c close us a.1 m r i l) h.0 r h.2 y.1 in ((y.0, z.0), z.1)

  pub items : (may : Tree → Bool) → Apart may → (close : Code → Input → Input → Type 0) → ((c : Code) (m r : Input) → close c m r → know.Known m.places → know.Known r.places) → (c : Code) (starts : Bool) (ss : Trees) → AllFound ss → (ts r : Input)
      → Items may close c starts (children ss) ts r → know.Known ts.places → AllFine Plain ss r
  items may never close k c starts none a ts r h l = (tt, k c ts r h l)
  items may never close k c starts (more t us) a ts r h l =
      let y = a.0 Plain refl (whole_test may t never h.1) _ ts h.0 h.2 l in let z = items may never close k (if starts && is_use_strict t then turned_strict c else c) (starts && is_directive t) us a.1 h.0 r h.3 y.1 in ((y.0, z.0), z.1)

  pub closes : (c : Code) (m r : Input) → Takes c right_brace_kind m r → know.Known m.places → know.Known r.places
  closes c m r h l = took c right_brace_kind m r h l

  -- ---- modes

  pub untagged_quasi : (mode : Mode) → is_tagged (quasi_mode mode) ≡ false → is_tagged mode ≡ false
  untagged_quasi Raw e = e
  untagged_quasi _ e = refl
