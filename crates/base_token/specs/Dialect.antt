-- What contracts see of a dialect.
use Rattle.std.specs.Prelude.{false}
use Rattle.base_token.specs.declared.syntax.EsSyntax.{EsSyntax}
use Rattle.base_token.specs.declared.syntax.Syntax.{Syntax}
use Rattle.base_token.specs.declared.syntax.Syntax.TheVariants.{Es}

-- the dialect with no optional part
abbrev pub plain_dialect : Syntax
plain_dialect = Es record { jsx = false; fn_bind = false; decorators = false; decorators_before_export = false; export_default_from = false; import_attributes = false; allow_super_outside_method = false; allow_return_outside_function = false; auto_accessors = false; explicit_resource_management = false }

-- the optional parts of the language that are on
abbrev pub parts_of : Syntax → EsSyntax
parts_of (Es parts) = parts
