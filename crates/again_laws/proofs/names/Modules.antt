-- Scripts and modules: the names of what a production consumes are among its tokens.
use Rattle.std.proofs.Common.{ℕ, Bool, true, false, List, [], ◌∷◌, ◌++◌, Option, Some, None}
use Rattle.base_token.specs.Kinds.{right_brace_kind}
use Rattle.base_token.specs.declared.place.Span.{Span}
use Rattle.tree_spec.specs.Tree.{Tree, ident}
use Rattle.tree_program_spec.specs.Names.Names.{Identifier, identifiers}
use Rattle.grammar_spec.specs.Tokens.Input.{Code, Input, assigning, in_list}
use Rattle.grammar_spec.specs.Tokens.Operators.{exports_end, plain_end, source_end}
use Rattle.grammar_spec.specs.Tokens.Shape.{ends, export_name, is_default_import, is_named_export, is_named_import, is_star_export, is_star_import}
use Rattle.grammar_spec.specs.Children.{AtEnd, Child, IsEmpty, Sorted, child}
use Rattle.grammar_spec.specs.Modules.{AfterDefault, Attributes, DefaultDeclaration, DefaultExpression, DefaultImport, ExportAll, ExportDeclaration, ExportDefault, ExportList, ExportName, ExportStarAs, Exports, Hashbang, Import, ImportClause, NamedExport, NamedExports, NamedImport, NamedImports, Program, Source, Specified, StarExport, StarImport}
use Rattle.again_laws.proofs.names.Sits.{AllKnown, Known, Parts, Sits, a_word, absent_none, each, either, ended, go, gone, items, listed, one_of, only, optional, skip, stay}

export_name_sits : (c : Code) (t : Tree) (P : Code → Input → Input → Type 0) → Known (child t P) → (ts r : Input) → ExportName c (export_name t) (child t P) ts r → Sits (identifiers t) ts r
export_name_sits c (ident s n) P k ts r h = a_word ts r s n h.0.0 h.0.1 h.0.3 h.1
export_name_sits c _ P k ts r h = k c ts r h.1

pub named_import_names : {ts r z : Input} {iss : List (List Identifier)} (c : Code) (s : Span) → (local : Child) → Known local → (imported : Child) → Known imported → NamedImport c s local imported ts r → Parts iss r z → Parts (identifiers imported.tree ∷ (identifiers local.tree ∷ iss)) ts z
named_import_names {ts} {r} c s local localw imported importedw h g = optional imported.tree h.0 (λ k1. (go (localw c ts r k1.1) g)) (λ k2. (go (export_name_sits c imported.tree imported.produced importedw ts k2.0 k2.2) (skip k2.3.3 (go (localw c k2.1 r k2.4.1) g))))

pub default_import_names : {ts r z : Input} {iss : List (List Identifier)} (c : Code) (s : Span) → (local : Child) → Known local → DefaultImport c s local ts r → Parts iss r z → Parts (identifiers local.tree ∷ iss) ts z
default_import_names {ts} {r} c s local localw h g = go (localw c ts r h.0.1) g

pub star_import_names : {ts r z : Input} {iss : List (List Identifier)} (c : Code) (s : Span) → (local : Child) → Known local → StarImport c s local ts r → Parts iss r z → Parts (identifiers local.tree ∷ iss) ts z
star_import_names {ts} {r} c s local localw h g = skip h.2.2 (skip h.3.3 (go (localw c h.1 r h.4.1) g))

pub named_imports_names : {ts r z : Input} {iss : List (List Identifier)} (c : Code) → (xs : List Child) → AllKnown xs → NamedImports c xs ts r → Parts iss r z → Parts (each xs ++ iss) ts z
named_imports_names c xs xsw h g = skip h.1.2 (listed (Sorted is_named_import c) (λ x k y z j. k c y z j.1) false c right_brace_kind xs xsw h.0 h.2 g)

pub after_default_names : {ts r z : Input} {iss : List (List Identifier)} (c : Code) → (xs1 : List Child) → AllKnown xs1 → AfterDefault c xs1 ts r → Parts iss r z → Parts (each xs1 ++ iss) ts z
after_default_names c [] hw h g = one_of h (λ k1. (stay k1 g)) (λ k2. (skip k2.1.2 (named_imports_names c [] tt k2.2 g)))
after_default_names {ts} {r} c (x ∷ xs) hw h g = skip h.1.2 (either (is_star_import x.tree) h.2 (λ k3 k1. (go (hw.0 c h.0 r k1.1) (only xs k1.0 g))) (λ k2. (named_imports_names c (x ∷ xs) (hw.0, hw.1) k2 g)))

pub import_clause_names : {ts r z : Input} {iss : List (List Identifier)} (c : Code) → (xs1 : List Child) → AllKnown xs1 → ImportClause c xs1 ts r → Parts iss r z → Parts (each xs1 ++ iss) ts z
import_clause_names c [] hw h g = one_of h (λ k1. (stay k1 g)) (λ k2. (named_imports_names c [] tt k2.1 (skip k2.2.3 g)))
import_clause_names {ts} c (x ∷ xs) hw h g = either (is_default_import x.tree) h.1 (λ k3 k1. (go (hw.0 c ts k1.0 k1.1) (after_default_names c xs hw.1 k1.2 (skip h.2.3 g)))) (λ k2. (either (is_star_import x.tree) k2 (λ k6 k4. (go (hw.0 c ts h.0 k4.1) (only xs k4.0 (skip h.2.3 g)))) (λ k5. (named_imports_names c (x ∷ xs) (hw.0, hw.1) k5 (skip h.2.3 g)))))

pub attributes_names : {ts r z : Input} {iss : List (List Identifier)} (c : Code) → (p : Child) → Known p → Attributes c p ts r → Parts iss r z → Parts (identifiers p.tree ∷ iss) ts z
attributes_names {ts} {r} c p pw h g = one_of h.2 (λ k1. (skip k1.3 (go (pw c h.0 r h.4) g))) (λ k2. (skip k2.1.3 (go (pw c h.0 r h.4) g)))

pub source_names : {ts r z : Input} {iss : List (List Identifier)} (c : Code) → (src : Child) → Known src → (attributes : Child) → Known attributes → Source c src attributes ts r → Parts iss r z → Parts (identifiers src.tree ∷ (identifiers attributes.tree ∷ iss)) ts z
source_names {ts} c src srcw attributes attributesw h g = go (srcw c ts h.0 h.1.1) (optional attributes.tree h.2 (λ k1. (ended c source_end k1 g)) (λ k2. (attributes_names c attributes attributesw k2.1 (ended c plain_end k2.2 g))))

pub import_names : {ts r z : Input} {iss : List (List Identifier)} (c : Code) (s : Span) → (xs : List Child) → AllKnown xs → (src : Child) → Known src → (attributes : Child) → Known attributes → Import c s xs src attributes ts r → Parts iss r z → Parts (each xs ++ (identifiers src.tree ∷ (identifiers attributes.tree ∷ iss))) ts z
import_names c s xs xsw src srcw attributes attributesw h g = skip h.2.3 (import_clause_names c xs xsw h.3 (source_names c src srcw attributes attributesw h.4 g))

pub named_export_names : {ts r z : Input} {iss : List (List Identifier)} (c : Code) (s : Span) → (orig : Child) → Known orig → (exported : Child) → Known exported → NamedExport c s orig exported ts r → Parts iss r z → Parts (identifiers orig.tree ∷ (identifiers exported.tree ∷ iss)) ts z
named_export_names {ts} {r} c s orig origw exported exportedw h g = go (export_name_sits c orig.tree orig.produced origw ts h.0 h.1) (optional exported.tree h.2 (λ k1. (stay k1 g)) (λ k2. (skip k2.1.3 (go (export_name_sits c exported.tree exported.produced exportedw k2.0 r k2.2) g))))

pub star_export_names : {ts r z : Input} {iss : List (List Identifier)} (c : Code) (s : Span) → (name : Child) → Known name → StarExport c s name ts r → Parts iss r z → Parts (identifiers name.tree ∷ iss) ts z
star_export_names {ts} {r} c s name namew h g = skip h.2.2 (skip h.3.3 (go (export_name_sits c name.tree name.produced namew h.1 r h.4) g))

pub named_exports_names : {ts r z : Input} {iss : List (List Identifier)} (c : Code) → (xs : List Child) → AllKnown xs → NamedExports c xs ts r → Parts iss r z → Parts (each xs ++ iss) ts z
named_exports_names c xs xsw h g = skip h.1.2 (listed (Sorted is_named_export c) (λ x k y z j. k c y z j.1) false c right_brace_kind xs xsw h.0 h.2 g)

pub export_list_names : {ts r z : Input} {iss : List (List Identifier)} (c : Code) (xs : List Child) → AllKnown xs → (src : Child) → Known src → (attributes : Child) → Known attributes → ExportList c xs src attributes ts r → Parts iss r z → Parts (each xs ++ (identifiers src.tree ∷ (identifiers attributes.tree ∷ iss))) ts z
export_list_names c xs xsw src srcw attributes attributesw h g = named_exports_names c xs xsw h.1 (optional src.tree h.2
    (λ k. gone (absent_none attributes.tree k.0) (ended c exports_end k.1 g))
    (λ k. skip k.1.3 (source_names c src srcw attributes attributesw k.2 g)))

pub export_star_as_names : {ts r z : Input} {iss : List (List Identifier)} (c : Code) → (x : Child) → Known x → (src : Child) → Known src → (attributes : Child) → Known attributes → ExportStarAs c x src attributes ts r → Parts iss r z → Parts (identifiers x.tree ∷ (identifiers src.tree ∷ (identifiers attributes.tree ∷ iss))) ts z
export_star_as_names {ts} c x xw src srcw attributes attributesw h g = go (xw c ts h.0 h.2) (skip h.3.3 (source_names c src srcw attributes attributesw h.4 g))

only_behind : {ts r : Input} {is : List Identifier} {iss : List (List Identifier)} (xs : List Child) → IsEmpty xs → Parts (is ∷ iss) ts r → Parts (is ∷ (each xs ++ iss)) ts r
only_behind [] e h = h
only_behind (x ∷ xs) e h = absurd e

pub specified_names : {ts r z : Input} {iss : List (List Identifier)} (c : Code) (xs : List Child) → AllKnown xs → (src : Child) → Known src → (attributes : Child) → Known attributes → Specified c xs src attributes ts r → Parts iss r z → Parts (each xs ++ (identifiers src.tree ∷ (identifiers attributes.tree ∷ iss))) ts z
specified_names c [] xsw src srcw attributes attributesw h g = export_list_names c [] tt src srcw attributes attributesw h g
specified_names c (x ∷ xs) xsw src srcw attributes attributesw h g = either (is_star_export x.tree) h
    (λ e k. only_behind xs k.0 (export_star_as_names c x xsw.0 src srcw attributes attributesw k.1 g))
    (λ k. export_list_names c (x ∷ xs) xsw src srcw attributes attributesw k g)

pub exports_names : {ts r z : Input} {iss : List (List Identifier)} (c : Code) (s : Span) → (xs : List Child) → AllKnown xs → (src : Child) → Known src → (attributes : Child) → Known attributes → Exports c s xs src attributes ts r → Parts iss r z → Parts (each xs ++ (identifiers src.tree ∷ (identifiers attributes.tree ∷ iss))) ts z
exports_names c s xs xsw src srcw attributes attributesw h g = skip h.1.3 (specified_names c xs xsw src srcw attributes attributesw h.2 g)

pub export_all_names : {ts r z : Input} {iss : List (List Identifier)} (c : Code) (s : Span) → (src : Child) → Known src → (attributes : Child) → Known attributes → ExportAll c s src attributes ts r → Parts iss r z → Parts (identifiers src.tree ∷ (identifiers attributes.tree ∷ iss)) ts z
export_all_names c s src srcw attributes attributesw h g = skip h.3.3 (skip h.4.2 (skip h.5.3 (source_names c src srcw attributes attributesw h.6 g)))

pub export_declaration_names : {ts r z : Input} {iss : List (List Identifier)} (c : Code) (s : Span) → (d : Child) → Known d → ExportDeclaration c s d ts r → Parts iss r z → Parts (identifiers d.tree ∷ iss) ts z
export_declaration_names {ts} {r} c s d dw h g = skip h.1.3 (go (dw (in_list c) h.0 r h.3) g)

pub export_default_names : {ts r z : Input} {iss : List (List Identifier)} (c : Code) → ExportDefault c ts r → Parts iss r z → Parts iss ts z
export_default_names c h g = skip h.1.3 (skip h.2.3 g)

pub default_declaration_names : {ts r z : Input} {iss : List (List Identifier)} (c : Code) (s : Span) → (d : Child) → Known d → DefaultDeclaration c s d ts r → Parts iss r z → Parts (identifiers d.tree ∷ iss) ts z
default_declaration_names {ts} {r} c s d dw h g = export_default_names c h.1 (go (dw c h.0 r h.3) g)

pub default_expression_names : {ts r z : Input} {iss : List (List Identifier)} (c : Code) (s : Span) → (e : Child) → Known e → DefaultExpression c s e ts r → Parts iss r z → Parts (identifiers e.tree ∷ iss) ts z
default_expression_names c s e ew h g = export_default_names c h.2 (go (ew (assigning c) h.0 h.1 h.4.1) (ended c (ends e.tree) h.5 g))

pub hashbang_names : {ts r z : Input} {iss : List (List Identifier)} (c : Code) (a1 : Option (List ℕ)) → Hashbang c a1 ts r → Parts iss r z → Parts iss ts z
hashbang_names c None h g = stay h g
hashbang_names c (Some line) h g = skip h.1.2 g

pub program_names : {ts r z : Input} {iss : List (List Identifier)} (may : (Tree → Bool)) (c : Code) (s : Span) (line : Option (List ℕ)) → (ss : List Child) → AllKnown ss → Program may c s line ss ts r → Parts iss r z → Parts (each ss ++ iss) ts z
program_names may c s line ss ssw h g = hashbang_names c line h.1 (items may AtEnd (λ d y j g. stay j.1 g) c true ss ssw h.0 h.2 g)
