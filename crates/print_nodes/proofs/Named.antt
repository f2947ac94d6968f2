-- The names of imports and exports, one by one.
use Rattle.std.proofs.Common.{◌≡◌, ℕ, ◌+◌, ◌<◌, ◌≤◌, Bool, true, false, not, ◌&&◌, ◌||◌, List, [], ◌∷◌, length, codes, Option, Some, None, ◌==◌, drop, slice_index_or, refl, sym, subst, ap, ◌∙◌, if◌then◌else◌}
use Rattle.print_gaps.specs.Edges.{is_there}
use Rattle.tree_spec.specs.Tree.{Tree, Trees, none, more, trees_by, part_by, import_named_specifier, export_named_specifier}
use Rattle.tree_nodes.specs.declared.programs.ImportSpecifier.{ImportSpecifier}
use Rattle.tree_nodes.specs.declared.programs.ImportNamedSpecifier.{ImportNamedSpecifier}
use Rattle.tree_nodes.specs.declared.programs.ExportNamedSpecifier.{ExportNamedSpecifier}
use Rattle.base_token.specs.declared.place.Span.{Span}
use Rattle.tree_nodes.specs.declared.programs.ModuleExportName.{ModuleExportName}
use Rattle.tree_nodes.specs.declared.programs.ModuleExportName.TheVariants as Names
use Rattle.tree_nodes.specs.View.{view_export_named_specifier, view_ident, view_import_named_specifier, view_import_specifier, view_module_export_name}
use Rattle.print_layout_spec.specs.declared.look.Look.{Look}
use Rattle.print_layout_spec.specs.declared.look.Stand.{Stand}
use Rattle.print_layout_spec.specs.declared.look.Stand.TheVariants.{Alone, Key}
use Rattle.print_layout_spec.specs.Looks.{Laid, nothing, ◌·◌, when, text, brace, start, end, blank, gap, gap_or}
use Rattle.print_layout_spec.specs.Layout.{laid, comma, is_default, is_named, is_namespace, is_no_namespace, has_default, has_named, has_namespace, has_other, import_heads, named_items, first_namespace, in_braces, imports, exports}
use Rattle.print_pieces.specs.Prints.{Asked, lay}
use Rattle.print_nodes.specs.Specifiers.{before_as, behind_as, head_laid, item_laid, marked_by, some_stands}
use Rattle.print_nodes.proofs.Parts.{next_part, no_part}

-- a blank, or one when formatting alone
pub blank_or_gap : (look : Look) (b : Bool) → gap_or look b ≡ (if b then blank else gap look)
blank_or_gap look true = refl
blank_or_gap look false = refl

-- ---- questions of lists

pub some_named : (ts : Trees) → some_stands is_named ts ≡ has_named ts
some_named none = refl
some_named (more t ts) = elim (is_named t) as (λ (b : Bool). (if b then true else some_stands is_named ts) ≡ (b || has_named ts)) [ true ↦ refl | false ↦ some_named ts ]

pub some_other : (ts : Trees) → some_stands is_no_namespace ts ≡ has_other ts
some_other none = refl
some_other (more t ts) = elim (is_namespace t) as (λ (b : Bool). (if not b then true else some_stands is_no_namespace ts) ≡ (not b || has_other ts)) [ true ↦ some_other ts | false ↦ refl ]

pub some_default : (ts : Trees) → some_stands is_default ts ≡ has_default ts
some_default none = refl
some_default (more t ts) = elim (is_default t) as (λ (b : Bool). (if b then true else some_stands is_default ts) ≡ (b || has_default ts)) [ true ↦ refl | false ↦ some_default ts ]

pub some_namespace : (ts : Trees) → some_stands is_namespace ts ≡ has_namespace ts
some_namespace none = refl
some_namespace (more t ts) = elim (is_namespace t) as (λ (b : Bool). (if b then true else some_stands is_namespace ts) ≡ (b || has_namespace ts)) [ true ↦ refl | false ↦ some_namespace ts ]

-- the next of a list that is gone through for one that stands
pub passed_over : {A : Type 0} (stands : Tree → Bool) (f : A → Tree) (xs : List A) (i : ℕ) (x : A) (r : Bool) → i < length xs → x ≡ slice_index_or xs i x → stands (f x) ≡ false
    → some_stands stands (trees_by f (drop i xs)) ≡ r → some_stands stands (trees_by f (drop (i + 1) xs)) ≡ r
passed_over stands f xs i x r lt q e h =
    subst (λ (b : Bool). (if b then true else some_stands stands (trees_by f (drop (i + 1) xs))) ≡ r) e (ap (some_stands stands) (sym (next_part f xs i x lt q)) ∙ h)

pub found : {A : Type 0} (stands : Tree → Bool) (f : A → Tree) (xs : List A) (i : ℕ) (x : A) (r : Bool) → i < length xs → x ≡ slice_index_or xs i x → stands (f x) ≡ true
    → some_stands stands (trees_by f (drop i xs)) ≡ r → true ≡ r
found stands f xs i x r lt q is h =
    subst (λ (b : Bool). (if b then true else some_stands stands (trees_by f (drop (i + 1) xs))) ≡ r) is (ap (some_stands stands) (sym (next_part f xs i x lt q)) ∙ h)

pub none_found : {A : Type 0} (stands : Tree → Bool) (f : A → Tree) (xs : List A) (i : ℕ) (r : Bool) → length xs ≤ i
    → some_stands stands (trees_by f (drop i xs)) ≡ r → false ≡ r
none_found stands f xs i r le h = ap (some_stands stands) (sym (no_part f xs i le)) ∙ h

-- ---- names one by one

pub item_is : (look : Look) (stands : Tree → Bool) (started : Bool) (t : Tree) (ts : Trees) (a : Asked)
    → lay (item_laid look stands started t · named_items look stands (marked_by stands started t) ts) a ≡ lay (named_items look stands started (more t ts)) a
item_is look stands started t ts a =
    elim (stands t) as (λ (b : Bool). lay (when b (when started (comma look) · laid look Alone t) · named_items look stands (if b then true else started) ts) a
    ≡ lay (if b then when started (comma look) · laid look Alone t · named_items look stands true ts else named_items look stands started ts) a) [ true ↦ refl | false ↦ refl ]

pub head_is : (look : Look) (seen : Bool) (t : Tree) (ts : Trees) (a : Asked)
    → lay (head_laid look seen t · import_heads look (marked_by is_default seen t) ts) a ≡ lay (import_heads look seen (more t ts)) a
head_is look seen t ts a =
    elim (is_default t) as (λ (b : Bool). lay ((if b then laid look Alone t else (if is_named t then nothing else when seen (comma look) · laid look Alone t)) · import_heads look (if b then true else seen) ts) a
    ≡ lay (if b then laid look Alone t · import_heads look true ts else (if is_named t then import_heads look seen ts else when seen (comma look) · laid look Alone t · import_heads look seen ts)) a) [
      | true ↦ refl
      | false ↦ elim (is_named t) as (λ (b : Bool). lay ((if b then nothing else when seen (comma look) · laid look Alone t) · import_heads look seen ts) a
          ≡ lay (if b then import_heads look seen ts else when seen (comma look) · laid look Alone t · import_heads look seen ts) a) [ true ↦ refl | false ↦ refl ]
    ]

-- ---- whole imports and exports

import_named_by : (look : Look) (s : Stand) (span : Span) (local : Tree) (name : Option ModuleExportName) (a : Asked)
    → lay (start span · before_as look (part_by view_module_export_name name) · laid look Alone local · end span) a
    ≡ lay (laid look s (import_named_specifier span local (part_by view_module_export_name name))) a
import_named_by look s span local None a = refl
import_named_by look s span local (Some (Names.Ident n)) a = refl
import_named_by look s span local (Some (Names.Str n)) a = refl

pub import_named : (look : Look) (s : Stand) (x : ImportNamedSpecifier) (a : Asked)
    → lay (start x.span · before_as look (part_by view_module_export_name x.imported) · laid look Alone (view_ident x.local) · end x.span) a ≡ lay (laid look s (view_import_named_specifier x)) a
import_named look s x a = import_named_by look s x.span (view_ident x.local) x.imported a

export_named_by : (look : Look) (s : Stand) (span : Span) (orig : Tree) (name : Option ModuleExportName) (a : Asked)
    → lay (start span · laid look Key orig · behind_as look (part_by view_module_export_name name) · end span) a
    ≡ lay (laid look s (export_named_specifier span orig (part_by view_module_export_name name))) a
export_named_by look s span orig None a = refl
export_named_by look s span orig (Some (Names.Ident n)) a = refl
export_named_by look s span orig (Some (Names.Str n)) a = refl

pub export_named : (look : Look) (s : Stand) (x : ExportNamedSpecifier) (a : Asked)
    → lay (start x.span · laid look Key (view_module_export_name x.orig) · behind_as look (part_by view_module_export_name x.exported) · end x.span) a ≡ lay (laid look s (view_export_named_specifier x)) a
export_named look s x a = export_named_by look s x.span (view_module_export_name x.orig) x.exported a

pub imports_are : (look : Look) (xs : List ImportSpecifier) (heads names : Laid) {b : Bool} → b ≡ (length xs == 0) → b ≡ false
    → (heads · (if has_named (trees_by view_import_specifier xs) then when (has_default (trees_by view_import_specifier xs)) (comma look) · in_braces look names · gap look else blank)
    · text (codes "from") · gap look) ≡ imports look (trees_by view_import_specifier xs) heads names
imports_are look [] heads names e n = absurd (cc)
imports_are look (x ∷ xs) heads names e n = refl

pub source_is : (look : Look) (src : Tree) (b : Bool) (rest : Laid) (c : Bool) → c ≡ b
    → when (is_there src) (gap_or look c · rest) ≡ when (is_there src) ((if b then blank else gap look) · rest)
source_is look src b rest c e = ap (λ (l : Laid). when (is_there src) (l · rest)) (ap (gap_or look) e ∙ blank_or_gap look b)

pub first_here : (look : Look) (t : Tree) (ts : Trees) → is_namespace t ≡ true → (a : Asked) → lay (laid look Alone t) a ≡ lay (first_namespace look (more t ts)) a
first_here look t ts e a = rw e refl

pub first_later : (look : Look) (t : Tree) (ts : Trees) → is_namespace t ≡ false → (a : Asked) → lay (first_namespace look ts) a ≡ lay (first_namespace look (more t ts)) a
first_later look t ts e a = rw e refl

pub exports_are : (look : Look) (ts : Trees) (names : Laid) (o n : Bool) → o ≡ has_other ts → n ≡ has_namespace ts
    → when (o || not n) (when n (comma look) · (if o then in_braces look names else text (codes "{") · gap look · brace)) ≡ exports look ts names
exports_are look ts names o n e h = rw (sym e) (rw (sym h) refl)

pub alone_is : (ts : Trees) (s : Bool) → has_namespace ts ≡ true → s ≡ has_other ts → not s ≡ (has_namespace ts && not (has_other ts))
alone_is ts s e h = rw e (ap not h)

pub not_alone : (ts : Trees) → has_namespace ts ≡ false → false ≡ (has_namespace ts && not (has_other ts))
not_alone ts e = rw e refl
