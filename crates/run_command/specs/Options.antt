-- Which settings a run refuses.
use Rattle.std.specs.Prelude.{ℕ, Bool, true, false, ◌||◌, ◌==◌, nat_lt}
use Rattle.base_token.specs.declared.version.EsVersion.TheVariants as v
use Rattle.base_token.specs.declared.syntax.Syntax.{Syntax}
use Rattle.base_token.specs.declared.syntax.Syntax.TheVariants.{Es}
use Rattle.base_token.specs.declared.syntax.EsSyntax.{EsSyntax}
use Rattle.run_command.specs.declared.options.Goal.{Goal}
use Rattle.run_command.specs.declared.options.Goal.TheVariants as g
use Rattle.run_command.specs.declared.options.Style.{Style}
use Rattle.run_command.specs.declared.options.Style.TheVariants as s
use Rattle.run_command.specs.declared.options.Indent.{Indent}
use Rattle.run_command.specs.declared.options.Indent.TheVariants.{Blanks, Tabs}
use Rattle.run_command.specs.declared.options.LineEnd.TheVariants.{Lf}
use Rattle.run_command.specs.declared.options.Options.{Options}

abbrev pub width_of : Indent → ℕ
width_of (Blanks n) = n
width_of (Tabs n) = n

abbrev pub has_jsx : Syntax → Bool
has_jsx (Es syntax) = syntax.jsx

-- A run refuses JSX, a nesting outside 1 to 4,096, and more than 8 characters of indentation.
abbrev pub are_refused : Options → Bool
are_refused o = has_jsx o.syntax || o.nesting == 0 || nat_lt 4096 o.nesting || nat_lt 8 (width_of o.indent)

abbrev pub is_module : Goal → Bool
is_module g.Module = true
is_module g.Script = false

abbrev pub is_format : Style → Bool
is_format s.Format = true
is_format s.Minify = false

-- no optional part of the syntax
abbrev pub plain_syntax : EsSyntax
plain_syntax = record {
  jsx = false;
  fn_bind = false;
  decorators = false;
  decorators_before_export = false;
  export_default_from = false;
  import_attributes = false;
  allow_super_outside_method = false;
  allow_return_outside_function = false;
  auto_accessors = false;
  explicit_resource_management = false;
}

-- the step of indentation where none is given
abbrev pub default_indent : Indent
default_indent = Blanks 4

-- the settings where none is given
abbrev pub default_options : Options
default_options = record {
  goal = g.Module;
  style = s.Format;
  target = v.EsNext;
  ascii_only = false;
  inline_script = false;
  line_end = Lf;
  indent = default_indent;
  syntax = Es plain_syntax;
  nesting = 256;
  positions = false;
}
