-- Scripts and modules (ECMA-262, clause 16).
use Rattle.std.specs.Prelude.{◌≡◌, ◌⊎◌, ℕ, Bool, true, false, not, ◌&&◌, ◌||◌, ◌==◌, List, [], ◌∷◌, Option, Some, None}
use Rattle.tree_spec.specs.Span.{Span}
use Rattle.tree_spec.specs.Kinds.{left_brace_kind, right_brace_kind, comma_kind, mul_kind, shebang_kind, default_kind, function_kind, with_kind, class_kind, export_kind, import_kind, as_kind, assert_kind, async_kind, from_kind}
use Rattle.tree_spec.specs.Tokens.{Line}
use Rattle.tree_spec.specs.Tree.{Tree}
use Rattle.grammar_spec.specs.Tokens.Input.{Input, Code, Takes, TakesWord, TakesAnyWord, Spans, kind, kind2, brk, brk2, content, in_list}
use Rattle.grammar_spec.specs.Tokens.Operators.{assignment_level, exports_end, source_end, plain_end}
use Rattle.grammar_spec.specs.Tokens.Shape.{ends, is_absent, is_string, is_exportable, is_default_import, is_star_import, is_named_import, is_star_export, is_named_export, is_default_decl, export_name, is_attributes}
use Rattle.grammar_spec.specs.Children.{is_ident, Child, By, IsEmpty, Expr, Sorted, Listed, Items, Ends, AtEnd}

-- ---- 16.2.2 imports

-- ModuleExportName: any word, or a string
abbrev pub ExportName : Code → Option (List ℕ × Span) → Child → Input → Input → Type 0
ExportName c (Some n) p ts r = TakesAnyWord c n.0 ts r × Spans n.1 ts r
ExportName c None p ts r = Sorted is_string c p ts r

-- ImportSpecifier: a binding, or a name of the other module `as` one
abbrev pub NamedImport : Code → Span → Child → Child → Input → Input → Type 0
NamedImport c s local imported ts r = By (is_absent imported.tree) (Sorted is_ident c local ts r)
    ((m : Input) × (n : Input) × ExportName c (export_name imported.tree) imported ts m × TakesWord c as_kind m n × Sorted is_ident c local n r) × Spans s ts r

-- ImportedDefaultBinding, NameSpaceImport
abbrev pub DefaultImport : Code → Span → Child → Input → Input → Type 0
DefaultImport c s local ts r = Sorted is_ident c local ts r × Spans s ts r

abbrev pub StarImport : Code → Span → Child → Input → Input → Type 0
StarImport c s local ts r = (m : Input) × (n : Input) × Takes c mul_kind ts m × TakesWord c as_kind m n × Sorted is_ident c local n r × Spans s ts r

-- NamedImports
abbrev pub NamedImports : Code → List Child → Input → Input → Type 0
NamedImports c xs ts r = (m : Input) × Takes c left_brace_kind ts m × Listed false (Sorted is_named_import c) c right_brace_kind xs m r

-- what may follow a default binding: nothing, or a comma and one of the two others
abbrev pub AfterDefault : Code → List Child → Input → Input → Type 0
AfterDefault c [] ts r = (ts ≡ r) ⊎ ((m : Input) × Takes c comma_kind ts m × NamedImports c [] m r)
AfterDefault c (x ∷ xs) ts r = (m : Input) × Takes c comma_kind ts m × By (is_star_import x.tree) (IsEmpty xs × x.produced c m r) (NamedImports c (x ∷ xs) m r)

-- ImportClause and `from`: an empty list has no specifier, as no clause has
abbrev pub ImportClause : Code → List Child → Input → Input → Type 0
ImportClause c [] ts r = (ts ≡ r) ⊎ ((m : Input) × NamedImports c [] ts m × TakesWord c from_kind m r)
ImportClause c (x ∷ xs) ts r = (m : Input) × By (is_default_import x.tree) ((n : Input) × x.produced c ts n × AfterDefault c xs n m)
    (By (is_star_import x.tree) (IsEmpty xs × x.produced c ts m) (NamedImports c (x ∷ xs) ts m)) × TakesWord c from_kind m r

-- import attributes, where their flag is on: `with`, or `assert` on the line of the module's name (own)
abbrev pub Attributes : Code → Child → Input → Input → Type 0
Attributes c p ts r = (m : Input) × (c.syntax.import_attributes ≡ true) × (TakesWord c with_kind ts m ⊎ ((brk ts ≡ false) × TakesWord c assert_kind ts m)) × (is_attributes p.tree ≡ true) × p.produced c m r

-- the module's name, its attributes, and the end
abbrev pub Source : Code → Child → Child → Input → Input → Type 0
Source c src attributes ts r = (m : Input) × Sorted is_string c src ts m × By (is_absent attributes.tree) (Ends c source_end m r) ((n : Input) × Attributes c attributes m n × Ends c plain_end n r)

-- ImportDeclaration
abbrev pub Import : Code → Span → List Child → Child → Child → Input → Input → Type 0
Import c s xs src attributes ts r = (m : Input) × (n : Input) × TakesWord c import_kind ts m × ImportClause c xs m n × Source c src attributes n r × Spans s ts r

-- ---- 16.2.3 exports

-- ExportSpecifier
abbrev pub NamedExport : Code → Span → Child → Child → Input → Input → Type 0
NamedExport c s orig exported ts r = (m : Input) × ExportName c (export_name orig.tree) orig ts m
    × By (is_absent exported.tree) (m ≡ r) ((n : Input) × TakesWord c as_kind m n × ExportName c (export_name exported.tree) exported n r) × Spans s ts r

-- `*` `as` ModuleExportName
abbrev pub StarExport : Code → Span → Child → Input → Input → Type 0
StarExport c s name ts r = (m : Input) × (n : Input) × Takes c mul_kind ts m × TakesWord c as_kind m n × ExportName c (export_name name.tree) name n r × Spans s ts r

abbrev pub NamedExports : Code → List Child → Input → Input → Type 0
NamedExports c xs ts r = (m : Input) × Takes c left_brace_kind ts m × Listed false (Sorted is_named_export c) c right_brace_kind xs m r

-- ExportDeclaration: a list, of another module where `from` follows; or that module under a name
abbrev pub ExportList : Code → List Child → Child → Child → Input → Input → Type 0
ExportList c xs src attributes ts r = (m : Input) × NamedExports c xs ts m
    × By (is_absent src.tree) ((is_absent attributes.tree ≡ true) × Ends c exports_end m r) ((n : Input) × TakesWord c from_kind m n × Source c src attributes n r)

abbrev pub ExportStarAs : Code → Child → Child → Child → Input → Input → Type 0
ExportStarAs c x src attributes ts r = (m : Input) × (n : Input) × x.produced c ts m × TakesWord c from_kind m n × Source c src attributes n r

abbrev pub Specified : Code → List Child → Child → Child → Input → Input → Type 0
Specified c [] src attributes ts r = ExportList c [] src attributes ts r
Specified c (x ∷ xs) src attributes ts r = By (is_star_export x.tree) (IsEmpty xs × ExportStarAs c x src attributes ts r) (ExportList c (x ∷ xs) src attributes ts r)

abbrev pub Exports : Code → Span → List Child → Child → Child → Input → Input → Type 0
Exports c s xs src attributes ts r = (m : Input) × TakesWord c export_kind ts m × Specified c xs src attributes m r × Spans s ts r

-- `export` `*` `from`
abbrev pub ExportAll : Code → Span → Child → Child → Input → Input → Type 0
ExportAll c s src attributes ts r = (m : Input) × (n : Input) × (o : Input) × TakesWord c export_kind ts m × Takes c mul_kind m n × TakesWord c from_kind n o × Source c src attributes o r × Spans s ts r

-- `export` and a declaration
abbrev pub ExportDeclaration : Code → Span → Child → Input → Input → Type 0
ExportDeclaration c s d ts r = (m : Input) × TakesWord c export_kind ts m × (is_exportable d.tree ≡ true) × d.produced (in_list c) m r × Spans s ts r

-- `export` `default`
abbrev pub ExportDefault : Code → Input → Input → Type 0
ExportDefault c ts r = (m : Input) × TakesWord c export_kind ts m × TakesWord c default_kind m r

-- a function or a class, whose name may be left out
abbrev pub DefaultDeclaration : Code → Span → Child → Input → Input → Type 0
DefaultDeclaration c s d ts r = (m : Input) × ExportDefault c ts m × (is_default_decl d.tree ≡ true) × d.produced c m r × Spans s ts r

-- any other expression, which starts with none of `function`, `async function`, `class`
abbrev pub starts_default : Input → Bool
starts_default ts = not ((kind ts == function_kind) || ((kind ts == class_kind) || ((kind ts == async_kind) && ((kind2 ts == function_kind) && not (brk2 ts)))))

abbrev pub DefaultExpression : Code → Span → Child → Input → Input → Type 0
DefaultExpression c s e ts r = (m : Input) × (n : Input) × ExportDefault c ts m × (starts_default m ≡ true) × Expr assignment_level c e m n × Ends c (ends e.tree) n r × Spans s ts r

-- ---- 16.1, 16.2 whole programs

-- a hashbang (12.5), where there is one
abbrev pub Hashbang : Code → Option (List ℕ) → Input → Input → Type 0
Hashbang c None ts r = ts ≡ r
Hashbang c (Some line) ts r = (content ts ≡ Line line) × Takes c shebang_kind ts r

-- Script, Module: statements, in a module also its declarations, up to the end; directives may turn it strict
abbrev pub Program : (Tree → Bool) → Code → Span → Option (List ℕ) → List Child → Input → Input → Type 0
Program may c s line ss ts r = (m : Input) × Hashbang c line ts m × Items may AtEnd c true ss m r × Spans s ts r
