-- Modules and programs: what each production consumes keeps the braces and templates that are open.
use Rattle.std.proofs.Common.{◌≡◌, ℕ, Bool, true, false, List, [], ◌∷◌, Option, Some, None, refl, arith}
use Rattle.base_token.specs.declared.place.Span.{Span}
use Rattle.base_token.specs.Kinds.{right_brace_kind, comma_kind, mul_kind, shebang_kind, default_kind, with_kind, export_kind, import_kind, as_kind, assert_kind, from_kind}
use Rattle.tree_spec.specs.Tree.{Tree}
use Rattle.grammar_spec.specs.Tokens.Input.{assigning, Input, Code, in_list}
use Rattle.grammar_spec.specs.Tokens.Operators.{assignment_level, exports_end, source_end, plain_end}
use Rattle.grammar_spec.specs.Tokens.Shape.{ends, is_absent, is_string, is_exportable, is_default_import, is_star_import, is_named_import, is_star_export, is_named_export, is_default_decl, export_name, is_attributes}
use Rattle.grammar_spec.specs.Children.{is_ident, Child, Sorted, AtEnd}
use Rattle.grammar_spec.specs.Modules.{ExportName, NamedImport, DefaultImport, StarImport, NamedImports, AfterDefault, ImportClause, Attributes, Source, Import, NamedExport, StarExport, NamedExports, ExportList, ExportStarAs, Specified, Exports, ExportAll, ExportDeclaration, ExportDefault, DefaultDeclaration, DefaultExpression, Hashbang, Program}
use Rattle.grammar_laws.specs.Slash.TemplateLaws.{Outside}
use Rattle.grammar_laws.proofs.slash.Walks.{Goes, go, stay, plain, takes, takes_word, takes_any, opens, closes, proper, sorted, leveled, Walked, AllWalked, either, one_of, paused, listed, items}

pub export_name_walk : (c : Code) (pl : c.placed ≡ true) (a1 : Option (List ℕ × Span)) (p : Child) (pw : Walked p) (gs : List Bool) (ts r : Input) → ExportName c a1 p ts r → Goes (Outside gs) (Outside gs) ts r
export_name_walk c pl (Some n) p pw gs ts r h = takes_any c pl n.0 gs ts r h.0
export_name_walk c pl None p pw gs ts r h = pw c pl gs ts r (sorted is_string (λ s t w u. refl) (λ e. refl) p.tree h.0) h.1

pub named_import_walk : (c : Code) (pl : c.placed ≡ true) (s : Span) (local : Child) (localw : Walked local) (imported : Child) (importedw : Walked imported) (gs : List Bool) (ts r : Input) → NamedImport c s local imported ts r → Goes (Outside gs) (Outside gs) ts r
named_import_walk c pl s local localw imported importedw gs ts r h = either (is_absent imported.tree) _ _ ts r h.0 (λ e1 j1. localw c pl gs ts r (sorted is_ident (λ s t w u. refl) (λ e. refl) local.tree j1.0) j1.1) (λ j1. go _ _ _ ts j1.0 r (export_name_walk c pl (export_name imported.tree) imported importedw gs ts j1.0 j1.2) (go _ _ _ j1.0 j1.1 r (takes_word c pl as_kind gs j1.0 j1.1 (plain as_kind refl refl refl refl refl refl refl) j1.3) (localw c pl gs j1.1 r (sorted is_ident (λ s t w u. refl) (λ e. refl) local.tree j1.4.0) j1.4.1)))

pub default_import_walk : (c : Code) (pl : c.placed ≡ true) (s : Span) (local : Child) (localw : Walked local) (gs : List Bool) (ts r : Input) → DefaultImport c s local ts r → Goes (Outside gs) (Outside gs) ts r
default_import_walk c pl s local localw gs ts r h = localw c pl gs ts r (sorted is_ident (λ s t w u. refl) (λ e. refl) local.tree h.0.0) h.0.1

pub star_import_walk : (c : Code) (pl : c.placed ≡ true) (s : Span) (local : Child) (localw : Walked local) (gs : List Bool) (ts r : Input) → StarImport c s local ts r → Goes (Outside gs) (Outside gs) ts r
star_import_walk c pl s local localw gs ts r h = go _ _ _ ts h.0 r (takes c pl mul_kind gs ts h.0 (plain mul_kind refl refl refl refl refl refl refl) h.2) (go _ _ _ h.0 h.1 r (takes_word c pl as_kind gs h.0 h.1 (plain as_kind refl refl refl refl refl refl refl) h.3) (localw c pl gs h.1 r (sorted is_ident (λ s t w u. refl) (λ e. refl) local.tree h.4.0) h.4.1))

pub named_imports_walk : (c : Code) (pl : c.placed ≡ true) (xs : List Child) (xsw : AllWalked xs) (gs : List Bool) (ts r : Input) → NamedImports c xs ts r → Goes (Outside gs) (Outside gs) ts r
named_imports_walk c pl xs xsw gs ts r h = go _ _ _ ts h.0 r (opens c pl gs ts h.0 h.1) (listed false (Sorted is_named_import c) c pl right_brace_kind (false ∷ gs) gs (λ y z j9. closes c pl gs y z j9) (λ x y z v j9. v c pl (false ∷ gs) y z (sorted is_named_import (λ s t w u. refl) (λ e. refl) x.tree j9.0) j9.1) xs xsw h.0 r h.2)

pub after_default_walk : (c : Code) (pl : c.placed ≡ true) (a1 : List Child) (a1w : AllWalked a1) (gs : List Bool) (ts r : Input) → AfterDefault c a1 ts r → Goes (Outside gs) (Outside gs) ts r
after_default_walk c pl [] w1 gs ts r h = one_of _ _ ts r h (λ j1. stay _ ts r j1) (λ j1. go _ _ _ ts j1.0 r (takes c pl comma_kind gs ts j1.0 (plain comma_kind refl refl refl refl refl refl refl) j1.1) (named_imports_walk c pl [] tt gs j1.0 r j1.2))
after_default_walk c pl (x ∷ xs) w1 gs ts r h = go _ _ _ ts h.0 r (takes c pl comma_kind gs ts h.0 (plain comma_kind refl refl refl refl refl refl refl) h.1) (either (is_star_import x.tree) _ _ h.0 r h.2 (λ e1 j1. w1.0 c pl gs h.0 r (sorted is_star_import (λ s t w u. refl) (λ e. refl) x.tree e1) j1.1) (λ j1. named_imports_walk c pl (x ∷ xs) (w1.0, w1.1) gs h.0 r j1))

pub import_clause_walk : (c : Code) (pl : c.placed ≡ true) (a1 : List Child) (a1w : AllWalked a1) (gs : List Bool) (ts r : Input) → ImportClause c a1 ts r → Goes (Outside gs) (Outside gs) ts r
import_clause_walk c pl [] w1 gs ts r h = one_of _ _ ts r h (λ j1. stay _ ts r j1) (λ j1. go _ _ _ ts j1.0 r (named_imports_walk c pl [] tt gs ts j1.0 j1.1) (takes_word c pl from_kind gs j1.0 r (plain from_kind refl refl refl refl refl refl refl) j1.2))
import_clause_walk c pl (x ∷ xs) w1 gs ts r h = go _ _ _ ts h.0 r (either (is_default_import x.tree) _ _ ts h.0 h.1 (λ e1 j1. go _ _ _ ts j1.0 h.0 (w1.0 c pl gs ts j1.0 (sorted is_default_import (λ s t w u. refl) (λ e. refl) x.tree e1) j1.1) (after_default_walk c pl xs w1.1 gs j1.0 h.0 j1.2)) (λ j1. either (is_star_import x.tree) _ _ ts h.0 j1 (λ e2 j2. w1.0 c pl gs ts h.0 (sorted is_star_import (λ s t w u. refl) (λ e. refl) x.tree e2) j2.1) (λ j2. named_imports_walk c pl (x ∷ xs) (w1.0, w1.1) gs ts h.0 j2))) (takes_word c pl from_kind gs h.0 r (plain from_kind refl refl refl refl refl refl refl) h.2)

pub attributes_walk : (c : Code) (pl : c.placed ≡ true) (p : Child) (pw : Walked p) (gs : List Bool) (ts r : Input) → Attributes c p ts r → Goes (Outside gs) (Outside gs) ts r
attributes_walk c pl p pw gs ts r h = go _ _ _ ts h.0 r (one_of _ _ ts h.0 h.2 (λ j1. takes_word c pl with_kind gs ts h.0 (plain with_kind refl refl refl refl refl refl refl) j1) (λ j1. takes_word c pl assert_kind gs ts h.0 (plain assert_kind refl refl refl refl refl refl refl) j1.1)) (pw c pl gs h.0 r (sorted is_attributes (λ s t w u. refl) (λ e. refl) p.tree h.3) h.4)

pub source_walk : (c : Code) (pl : c.placed ≡ true) (src : Child) (srcw : Walked src) (attributes : Child) (attributesw : Walked attributes) (gs : List Bool) (ts r : Input) → Source c src attributes ts r → Goes (Outside gs) (Outside gs) ts r
source_walk c pl src srcw attributes attributesw gs ts r h = go _ _ _ ts h.0 r (srcw c pl gs ts h.0 (sorted is_string (λ s t w u. refl) (λ e. refl) src.tree h.1.0) h.1.1) (either (is_absent attributes.tree) _ _ h.0 r h.2 (λ e1 j1. paused c pl source_end gs h.0 r j1) (λ j1. go _ _ _ h.0 j1.0 r (attributes_walk c pl attributes attributesw gs h.0 j1.0 j1.1) (paused c pl plain_end gs j1.0 r j1.2)))

pub import_walk : (c : Code) (pl : c.placed ≡ true) (s : Span) (xs : List Child) (xsw : AllWalked xs) (src : Child) (srcw : Walked src) (attributes : Child) (attributesw : Walked attributes) (gs : List Bool) (ts r : Input) → Import c s xs src attributes ts r → Goes (Outside gs) (Outside gs) ts r
import_walk c pl s xs xsw src srcw attributes attributesw gs ts r h = go _ _ _ ts h.0 r (takes_word c pl import_kind gs ts h.0 (plain import_kind refl refl refl refl refl refl refl) h.2) (go _ _ _ h.0 h.1 r (import_clause_walk c pl xs xsw gs h.0 h.1 h.3) (source_walk c pl src srcw attributes attributesw gs h.1 r h.4))

pub named_export_walk : (c : Code) (pl : c.placed ≡ true) (s : Span) (orig : Child) (origw : Walked orig) (exported : Child) (exportedw : Walked exported) (gs : List Bool) (ts r : Input) → NamedExport c s orig exported ts r → Goes (Outside gs) (Outside gs) ts r
named_export_walk c pl s orig origw exported exportedw gs ts r h = go _ _ _ ts h.0 r (export_name_walk c pl (export_name orig.tree) orig origw gs ts h.0 h.1) (either (is_absent exported.tree) _ _ h.0 r h.2 (λ e1 j1. stay _ h.0 r j1) (λ j1. go _ _ _ h.0 j1.0 r (takes_word c pl as_kind gs h.0 j1.0 (plain as_kind refl refl refl refl refl refl refl) j1.1) (export_name_walk c pl (export_name exported.tree) exported exportedw gs j1.0 r j1.2)))

pub star_export_walk : (c : Code) (pl : c.placed ≡ true) (s : Span) (name : Child) (namew : Walked name) (gs : List Bool) (ts r : Input) → StarExport c s name ts r → Goes (Outside gs) (Outside gs) ts r
star_export_walk c pl s name namew gs ts r h = go _ _ _ ts h.0 r (takes c pl mul_kind gs ts h.0 (plain mul_kind refl refl refl refl refl refl refl) h.2) (go _ _ _ h.0 h.1 r (takes_word c pl as_kind gs h.0 h.1 (plain as_kind refl refl refl refl refl refl refl) h.3) (export_name_walk c pl (export_name name.tree) name namew gs h.1 r h.4))

pub named_exports_walk : (c : Code) (pl : c.placed ≡ true) (xs : List Child) (xsw : AllWalked xs) (gs : List Bool) (ts r : Input) → NamedExports c xs ts r → Goes (Outside gs) (Outside gs) ts r
named_exports_walk c pl xs xsw gs ts r h = go _ _ _ ts h.0 r (opens c pl gs ts h.0 h.1) (listed false (Sorted is_named_export c) c pl right_brace_kind (false ∷ gs) gs (λ y z j9. closes c pl gs y z j9) (λ x y z v j9. v c pl (false ∷ gs) y z (sorted is_named_export (λ s t w u. refl) (λ e. refl) x.tree j9.0) j9.1) xs xsw h.0 r h.2)

pub export_list_walk : (c : Code) (pl : c.placed ≡ true) (xs : List Child) (xsw : AllWalked xs) (src : Child) (srcw : Walked src) (attributes : Child) (attributesw : Walked attributes) (gs : List Bool) (ts r : Input) → ExportList c xs src attributes ts r → Goes (Outside gs) (Outside gs) ts r
export_list_walk c pl xs xsw src srcw attributes attributesw gs ts r h = go _ _ _ ts h.0 r (named_exports_walk c pl xs xsw gs ts h.0 h.1) (either (is_absent src.tree) _ _ h.0 r h.2 (λ e1 j1. paused c pl exports_end gs h.0 r j1.1) (λ j1. go _ _ _ h.0 j1.0 r (takes_word c pl from_kind gs h.0 j1.0 (plain from_kind refl refl refl refl refl refl refl) j1.1) (source_walk c pl src srcw attributes attributesw gs j1.0 r j1.2)))

pub export_star_as_walk : (c : Code) (pl : c.placed ≡ true) (x : Child) (xw : Walked x) (xp : proper x.tree ≡ true) (src : Child) (srcw : Walked src) (attributes : Child) (attributesw : Walked attributes) (gs : List Bool) (ts r : Input) → ExportStarAs c x src attributes ts r → Goes (Outside gs) (Outside gs) ts r
export_star_as_walk c pl x xw xp src srcw attributes attributesw gs ts r h = go _ _ _ ts h.0 r (xw c pl gs ts h.0 xp h.2) (go _ _ _ h.0 h.1 r (takes_word c pl from_kind gs h.0 h.1 (plain from_kind refl refl refl refl refl refl refl) h.3) (source_walk c pl src srcw attributes attributesw gs h.1 r h.4))

pub specified_walk : (c : Code) (pl : c.placed ≡ true) (a1 : List Child) (a1w : AllWalked a1) (src : Child) (srcw : Walked src) (attributes : Child) (attributesw : Walked attributes) (gs : List Bool) (ts r : Input) → Specified c a1 src attributes ts r → Goes (Outside gs) (Outside gs) ts r
specified_walk c pl [] w1 src srcw attributes attributesw gs ts r h = export_list_walk c pl [] tt src srcw attributes attributesw gs ts r h
specified_walk c pl (x ∷ xs) w1 src srcw attributes attributesw gs ts r h = either (is_star_export x.tree) _ _ ts r h (λ e1 j1. export_star_as_walk c pl x w1.0 (sorted is_star_export (λ s t w u. refl) (λ e. refl) x.tree e1) src srcw attributes attributesw gs ts r j1.1) (λ j1. export_list_walk c pl (x ∷ xs) (w1.0, w1.1) src srcw attributes attributesw gs ts r j1)

pub exports_walk : (c : Code) (pl : c.placed ≡ true) (s : Span) (xs : List Child) (xsw : AllWalked xs) (src : Child) (srcw : Walked src) (attributes : Child) (attributesw : Walked attributes) (gs : List Bool) (ts r : Input) → Exports c s xs src attributes ts r → Goes (Outside gs) (Outside gs) ts r
exports_walk c pl s xs xsw src srcw attributes attributesw gs ts r h = go _ _ _ ts h.0 r (takes_word c pl export_kind gs ts h.0 (plain export_kind refl refl refl refl refl refl refl) h.1) (specified_walk c pl xs xsw src srcw attributes attributesw gs h.0 r h.2)

pub export_all_walk : (c : Code) (pl : c.placed ≡ true) (s : Span) (src : Child) (srcw : Walked src) (attributes : Child) (attributesw : Walked attributes) (gs : List Bool) (ts r : Input) → ExportAll c s src attributes ts r → Goes (Outside gs) (Outside gs) ts r
export_all_walk c pl s src srcw attributes attributesw gs ts r h = go _ _ _ ts h.0 r (takes_word c pl export_kind gs ts h.0 (plain export_kind refl refl refl refl refl refl refl) h.3) (go _ _ _ h.0 h.1 r (takes c pl mul_kind gs h.0 h.1 (plain mul_kind refl refl refl refl refl refl refl) h.4) (go _ _ _ h.1 h.2 r (takes_word c pl from_kind gs h.1 h.2 (plain from_kind refl refl refl refl refl refl refl) h.5) (source_walk c pl src srcw attributes attributesw gs h.2 r h.6)))

pub export_declaration_walk : (c : Code) (pl : c.placed ≡ true) (s : Span) (d : Child) (dw : Walked d) (gs : List Bool) (ts r : Input) → ExportDeclaration c s d ts r → Goes (Outside gs) (Outside gs) ts r
export_declaration_walk c pl s d dw gs ts r h = go _ _ _ ts h.0 r (takes_word c pl export_kind gs ts h.0 (plain export_kind refl refl refl refl refl refl refl) h.1) (dw (in_list c) pl gs h.0 r (sorted is_exportable (λ s t w u. refl) (λ e. refl) d.tree h.2) h.3)

pub export_default_walk : (c : Code) (pl : c.placed ≡ true) (gs : List Bool) (ts r : Input) → ExportDefault c ts r → Goes (Outside gs) (Outside gs) ts r
export_default_walk c pl gs ts r h = go _ _ _ ts h.0 r (takes_word c pl export_kind gs ts h.0 (plain export_kind refl refl refl refl refl refl refl) h.1) (takes_word c pl default_kind gs h.0 r (plain default_kind refl refl refl refl refl refl refl) h.2)

pub default_declaration_walk : (c : Code) (pl : c.placed ≡ true) (s : Span) (d : Child) (dw : Walked d) (gs : List Bool) (ts r : Input) → DefaultDeclaration c s d ts r → Goes (Outside gs) (Outside gs) ts r
default_declaration_walk c pl s d dw gs ts r h = go _ _ _ ts h.0 r (export_default_walk c pl gs ts h.0 h.1) (dw c pl gs h.0 r (sorted is_default_decl (λ s t w u. refl) (λ e. refl) d.tree h.2) h.3)

pub default_expression_walk : (c : Code) (pl : c.placed ≡ true) (s : Span) (e : Child) (ew : Walked e) (gs : List Bool) (ts r : Input) → DefaultExpression c s e ts r → Goes (Outside gs) (Outside gs) ts r
default_expression_walk c pl s e ew gs ts r h = go _ _ _ ts h.0 r (export_default_walk c pl gs ts h.0 h.2) (go _ _ _ h.0 h.1 r (ew (assigning c) pl gs h.0 h.1 (leveled assignment_level e.tree (omega arith) h.4.0) h.4.1) (paused c pl (ends e.tree) gs h.1 r h.5))

pub hashbang_walk : (c : Code) (pl : c.placed ≡ true) (line : Option (List ℕ)) (gs : List Bool) (ts r : Input) → Hashbang c line ts r → Goes (Outside gs) (Outside gs) ts r
hashbang_walk c pl None gs ts r h = stay _ ts r h
hashbang_walk c pl (Some line) gs ts r h = takes c pl shebang_kind gs ts r (plain shebang_kind refl refl refl refl refl refl refl) h.1

pub program_walk : (may : Tree → Bool) (sort : (t : Tree) → may t ≡ true → proper t ≡ true) (c : Code) (pl : c.placed ≡ true) (s : Span) (line : Option (List ℕ)) (ss : List Child) (ssw : AllWalked ss) (gs : List Bool) (ts r : Input) → Program may c s line ss ts r → Goes (Outside gs) (Outside gs) ts r
program_walk may sort c pl s line ss ssw gs ts r h = go _ _ _ ts h.0 r (hashbang_walk c pl line gs ts h.0 h.1) (items may AtEnd gs gs (λ d dp y z j9. stay _ y z j9.1) sort c pl true ss ssw h.0 r h.2)
