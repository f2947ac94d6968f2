-- How a text looks by the settings of a printer.
use Rattle.std.specs.Prelude.{false}
use Rattle.base_token.specs.declared.version.EsVersion.TheVariants.{EsNext}
use Rattle.print_layout_spec.specs.declared.look.Look.{Look}
use Rattle.print_config.specs.declared.config.Config.{Config}

abbrev pub look_of : Config → Look
look_of cfg = record {
  style = record { target = cfg.target; minify = cfg.minify; ascii_only = cfg.ascii_only; inline_script = cfg.inline_script };
  omits_last = cfg.omit_last_semi;
  asserts = cfg.emit_assert_for_import_attributes;
}

-- The look by the default settings.
abbrev pub default_look : Look
default_look = record {
  style = record { target = EsNext; minify = false; ascii_only = false; inline_script = false };
  omits_last = false;
  asserts = false;
}
