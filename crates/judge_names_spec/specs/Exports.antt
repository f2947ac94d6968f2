-- What a module exports and by which names (ECMA-262, 16.2), and keys of import attributes.
use Rattle.std.specs.Prelude.{ℕ, Bool, true, false, not, ◌&&◌, ◌||◌, nat_le, if◌then◌else◌, List, [], ◌∷◌, ◌++◌, filter, map, codes}
use Rattle.std.specs.Str.{chars}
use Rattle.base_token.specs.declared.place.Span.{Span}
use Rattle.base_token.specs.Reserved.{always_reserved, strict_reserved, is_among}
use Rattle.base_token.specs.Utf16.{utf16}
use Rattle.tree_spec.specs.Tree.{Tree, Trees, none, more, export_decl, named_export, export_default_decl, export_default_expr, export_namespace_specifier, export_named_specifier, ident_name, ident, object_lit, key_value_prop, str_lit, absent}
use Rattle.grammar_spec.specs.Judge.Early.{is_await}
use Rattle.judge_scopes_spec.specs.Declared.{Names, without, name_in, bound_names, module_names}
use Rattle.judge_names_spec.specs.Faults.{NameFault, fault, faults_at, redeclared, exported_twice, exported_undeclared, exported_reserved, ill_formed_name, attribute_twice}
use Rattle.judge_names_spec.specs.Declared.{Declaration, alone, clashes, declared}

-- a name that importers see, by its UTF-16 units, since it may be a word or a string
abbrev pub unit_name : List ℕ → Span → List Declaration
unit_name units place = record { word = units; sort = alone; place = place } ∷ []

abbrev pub word_units : List ℕ → List ℕ
word_units word = utf16 (chars word)

-- ModuleExportName (16.2): a word or a string
abbrev pub export_name : Tree → List Declaration
export_name (ident s n) = unit_name (word_units n) s
export_name (str_lit s u w) = unit_name u s
export_name t = []

-- ---- ExportedNames (16.2.3.3)

abbrev pub specifier_name : Tree → List Declaration
specifier_name (export_named_specifier s o absent) = export_name o
specifier_name (export_named_specifier s o e) = export_name e
specifier_name (export_namespace_specifier s n) = export_name n
specifier_name t = []

abbrev pub specifier_names : Trees → List Declaration
specifier_names none = []
specifier_names (more t ts) = specifier_name t ++ specifier_names ts

abbrev pub name_units : Names → List Declaration
name_units ns = map (λ n. record { word = word_units n.sym; sort = alone; place = n.span }) ns

abbrev pub item_exports : Tree → List Declaration
item_exports (export_decl s d) = name_units (bound_names d)
item_exports (named_export s is f w) = specifier_names is
item_exports (export_default_decl s d) = unit_name (codes "default") s
item_exports (export_default_expr s e) = unit_name (codes "default") s
item_exports t = []

abbrev pub exported : Trees → List Declaration
exported none = []
exported (more t ts) = item_exports t ++ exported ts

-- ---- ReferencedBindings (16.2.3.6): what a list of exports without `from` names of the module's own

abbrev pub referenced : Tree → Names
referenced (export_named_specifier s o e) = name_in o
referenced t = []

abbrev pub all_referenced : Trees → Names
all_referenced none = []
all_referenced (more t ts) = referenced t ++ all_referenced ts

-- a word that no variable of a module has (16.2.3.1, 12.7.2)
abbrev pub is_reserved : List ℕ → Bool
is_reserved word = is_among always_reserved word || (is_among strict_reserved word || is_await word)

-- a string, and a reserved word, where a variable is named (16.2.3.1)
abbrev pub reserved_by : Tree → List NameFault
reserved_by (export_named_specifier s (str_lit t u w) e) = fault true exported_reserved t
reserved_by (export_named_specifier s (ident t n) e) = fault (is_reserved n) exported_reserved t
reserved_by t = []

abbrev pub reserved_in : Trees → List NameFault
reserved_in none = []
reserved_in (more t ts) = reserved_by t ++ reserved_in ts

-- ExportedBindings (16.2.3.2): the words among these that may be a variable's
abbrev pub item_bindings : Tree → Names
item_bindings (named_export s is absent w) = filter (λ n. not (is_reserved n.sym)) (all_referenced is)
item_bindings t = []

abbrev pub exported_bindings : Trees → Names
exported_bindings none = []
exported_bindings (more t ts) = item_bindings t ++ exported_bindings ts

-- A module (16.2.1.1): what it declares, exports by one name, and exports without declaring it.
abbrev pub module_faults : Trees → List NameFault
module_faults ss = clashes redeclared (declared false true ss) ++ (clashes exported_twice (exported ss) ++ faults_at exported_undeclared (without (module_names ss) (exported_bindings ss)))

-- ---- strings (16.2.1.1)

abbrev pub is_leading : ℕ → Bool
is_leading unit = nat_le 55296 unit && nat_le unit 56319

abbrev pub is_trailing : ℕ → Bool
is_trailing unit = nat_le 56320 unit && nat_le unit 57343

-- whether surrogates come in pairs, behind a leading one or not
abbrev pub are_paired : Bool → List ℕ → Bool
are_paired leads [] = not leads
are_paired leads (u ∷ us) = if is_trailing u then leads && are_paired false us else (not leads && are_paired (is_leading u) us)

-- a string with a lone surrogate as the name of an import or an export (IsStringWellFormedUnicode)
abbrev pub ill_formed : Tree → List NameFault
ill_formed (str_lit s u w) = fault (not (are_paired false u)) ill_formed_name s
ill_formed t = []

-- ---- attributes

abbrev pub attribute : Tree → List Declaration
attribute (key_value_prop s (ident_name t n) v) = unit_name (word_units n) t
attribute (key_value_prop s (str_lit t u w) v) = unit_name u t
attribute p = []

abbrev pub attributes : Trees → List Declaration
attributes none = []
attributes (more p ps) = attribute p ++ attributes ps

abbrev pub attribute_faults : Tree → List NameFault
attribute_faults (object_lit s ps) = clashes attribute_twice (attributes ps)
attribute_faults w = []
