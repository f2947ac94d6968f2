-- Items of modules, and whole modules (16.2): what their rules answer.
use Rattle.std.proofs.Common.{◌≡◌, ℕ, ◌<◌, Bool, true, false, not, ◌||◌, ◌==◌, eqb, List, Option, refl, sym, ap, ◌∙◌, subst, ⊎_elim, true≢false, arith}
use Rattle.std.proofs.lemmas.Bool.{eq-eqb, or_from, or_cases, and_left, and_from}
use Rattle.base_token.specs.declared.place.Span.{Span}
use Rattle.base_token.specs.Kinds.{left_paren_kind, dot_kind, import_kind, export_kind}
use Rattle.tree_spec.specs.Tree.{Tree, Trees, es_module, import_decl, named_export, export_all, export_decl, export_default_decl, export_default_expr}
use Rattle.grammar_spec.specs.Tokens.Input.{Input, Code, kind, kind2, in_list}
use Rattle.grammar_spec.specs.Tokens.Shape.{is_item, is_module_decl}
use Rattle.grammar_spec.specs.Children.{is_module_item}
use Rattle.grammar_spec.specs.Grammar.{Produces}
use Rattle.grammar_spec.specs.Reader.Modules.{import_decl_by, export_by, item_by, program_by, starts_import}
use Rattle.grammar_laws.proofs.complete_base.Yields.{lm, from, len, coded, Reads, Is, if_no, if_yes}
use Rattle.grammar_laws.proofs.complete_base.Trees.{no_kind}
use Rattle.grammar_laws.proofs.complete_rules.Nested.{Nested, leaves}
use Rattle.grammar_laws.proofs.complete_rules.Within.{Each, most}
use Rattle.grammar_laws.proofs.complete_base.Cuts.{cut}
use Rattle.grammar_laws.proofs.complete_rules.Programs.{begins_item, ItemsRead, program_found, statements_read}
use Rattle.grammar_laws.proofs.complete_rules.Sources.{InModule, in_module}
use Rattle.grammar_laws.proofs.complete_rules.Imports.{begins_clause, import_found, after_import}
use Rattle.grammar_laws.proofs.complete_rules.Exports.{default_decl_found, default_expr_found, declaration_found, all_found, named_found}

begins_with : (ts : Input) (k : ℕ) → kind ts ≡ k → begins_item k ≡ true → begins_item (kind ts) ≡ true
begins_with ts k e h = subst (λ (k : ℕ). begins_item k ≡ true) (sym e) h

module _ (z : Nested) (p : Bool) where
  item_found : (t : Tree) (c : Code) (ts m : Input) (k : List ℕ) → is_item t ≡ true → z.Covered t → Produces t (coded p (in_list c)) ts m → leaves c.context t m ≡ true → Reads (from ts k) (item_by lm z.inner true (in_list c) (from ts k)) (Is t m) (z.depth < z.reach t)
  item_found t c ts m k i g h f = (statements_read z p true).item t c ts m k i g h f

  by_export : (t : Tree) (c : Code) (ts m : Input) (k : List ℕ) (Q : Type 0) → kind ts ≡ export_kind → Reads (from ts k) (export_by lm z.inner c (from ts k)) (Is t m) Q → Reads (from ts k) (item_by lm z.inner true c (from ts k)) (Is t m) Q
  unfolding item_by
  by_export t c ts m k Q e y = if_no (starts_import lm z.inner (from ts k)) _ _ _ _ (and_left (kind ts == import_kind) _ (subst (λ (n : ℕ). eqb n import_kind ≡ false) (sym e) refl)) (if_yes (kind ts == export_kind) _ _ _ _ (eq-eqb (kind ts) export_kind e) y)

  by_import : (t : Tree) (c : Code) (ts m n : Input) (k : List ℕ) (Q : Type 0) → kind ts ≡ import_kind → kind2 ts ≡ kind n → begins_clause (kind n) ≡ true → Reads (from ts k) (import_decl_by lm z.inner c (from ts k)) (Is t m) Q → Reads (from ts k) (item_by lm z.inner true c (from ts k)) (Is t m) Q
  unfolding item_by
  by_import t c ts m n k Q e q b y = if_yes (starts_import lm z.inner (from ts k)) _ _ _ _ (and_from (kind ts == import_kind) _ (eq-eqb (kind ts) import_kind e)
      (ap not (subst (λ (o : ℕ). ((o == left_paren_kind) || (o == dot_kind)) ≡ false) (sym q) (or_from (kind n == left_paren_kind) _ (no_kind begins_clause (kind n) left_paren_kind b refl) (no_kind begins_clause (kind n) dot_kind b refl))))) y

  other_item : (t : Tree) → is_module_decl t ≡ false → is_module_item t ≡ true → is_item t ≡ true
  other_item t e h = ⊎_elim (λ q. q) (λ q. absurd (true≢false (sym q ∙ e))) (or_cases (is_item t) (is_module_decl t) h)

  pub module_item : (t : Tree) (c : Code) (ts m : Input) (k : List ℕ) → is_module_item t ≡ true → InModule z.Covered t → Produces t (coded p (in_list c)) ts m → leaves c.context t m ≡ true → Reads (from ts k) (item_by lm z.inner true (in_list c) (from ts k)) (Is t m) (z.depth < in_module z.reach t)
  module_item (import_decl s xs f w) c ts m k i g h q = by_import (import_decl s xs f w) (in_list c) ts m h.0 k _ h.2.0 (ap (λ (y : Input). kind y) h.2.3) (after_import z p (in_list c) xs f w h.0 h.1 m h.3 h.4) (import_found z p (in_list c) s xs f w ts m k g h)
  module_item (named_export s xs f w) c ts m k i g h q = by_export (named_export s xs f w) (in_list c) ts m k _ h.1.0 (named_found z p (in_list c) s xs f w ts m k g h)
  module_item (export_all s f w) c ts m k i g h q = by_export (export_all s f w) (in_list c) ts m k _ h.3.0 (all_found z p (in_list c) s f w ts m k g h)
  module_item (export_decl s d) c ts m k i g h q = by_export (export_decl s d) (in_list c) ts m k _ h.1.0 (declaration_found z p (in_list c) s d ts m k g h q)
  module_item (export_default_decl s d) c ts m k i g h q = by_export (export_default_decl s d) (in_list c) ts m k _ h.1.1.0 (default_decl_found z p (in_list c) s d ts m k g h)
  module_item (export_default_expr s e) c ts m k i g h q = by_export (export_default_expr s e) (in_list c) ts m k _ h.2.1.0 (default_expr_found z p (in_list c) s e ts m k g h)
  module_item t c ts m k i g h q = item_found t c ts m k (other_item t refl i) g h q

  module_starts : (t : Tree) (c : Code) (ts m : Input) → is_module_item t ≡ true → Produces t c ts m → begins_item (kind ts) ≡ true
  module_starts (import_decl s xs f w) c ts m i h = begins_with ts import_kind h.2.0 refl
  module_starts (named_export s xs f w) c ts m i h = begins_with ts export_kind h.1.0 refl
  module_starts (export_all s f w) c ts m i h = begins_with ts export_kind h.3.0 refl
  module_starts (export_decl s d) c ts m i h = begins_with ts export_kind h.1.0 refl
  module_starts (export_default_decl s d) c ts m i h = begins_with ts export_kind h.1.1.0 refl
  module_starts (export_default_expr s e) c ts m i h = begins_with ts export_kind h.2.1.0 refl
  module_starts t c ts m i h = (statements_read z p true).starts t c ts m (other_item t refl i) h

  module_less : (t : Tree) (c : Code) (ts m : Input) → is_module_item t ≡ true → Produces t c ts m → len m < len ts
  module_less (import_decl s xs f w) c ts m i h = omega (arith, cut (import_decl s xs f w) c ts m h)
  module_less (named_export s xs f w) c ts m i h = omega (arith, cut (named_export s xs f w) c ts m h)
  module_less (export_all s f w) c ts m i h = omega (arith, cut (export_all s f w) c ts m h)
  module_less (export_decl s d) c ts m i h = omega (arith, cut (export_decl s d) c ts m h)
  module_less (export_default_decl s d) c ts m i h = omega (arith, cut (export_default_decl s d) c ts m h)
  module_less (export_default_expr s e) c ts m i h = omega (arith, cut (export_default_expr s e) c ts m h)
  module_less t c ts m i h = (statements_read z p true).less t c ts m (other_item t refl i) h

  pub items_read : ItemsRead z p true is_module_item (InModule z.Covered) (in_module z.reach)
  items_read = record {
    item = λ t c ts m k i g h q. module_item t c ts m k i g h q;
    starts = λ t c ts m i h. module_starts t c ts m i h;
    less = λ t c ts m i h. module_less t c ts m i h;
  }

-- What a module produces is read: the tree and the rest, or too deep where its items reach deeper.
pub module_found : (z : Nested) (p : Bool) (s : Span) (ss : Trees) (l : Option (List ℕ)) (c : Code) (ts r : Input) (k : List ℕ) → Each (InModule z.Covered) ss → Produces (es_module s ss l) (coded p c) ts r
    → Reads (from ts k) (program_by lm z.inner true c (from ts k)) (Is (es_module s ss l) r) (z.depth < most (in_module z.reach) ss)
module_found z p s ss l c ts r k g h = program_found z p true is_module_item (InModule z.Covered) (in_module z.reach) (items_read z p) s l ss c ts r k g h
