-- The settings that several places say of a file.
use Rattle.std.specs.Prelude.{false}
use Rattle.std.specs.Option.{option_or, unwrap_or}
use Rattle.run_command.specs.declared.options.Goal.{Goal}
use Rattle.run_command.specs.declared.options.Style.{Style}
use Rattle.run_command.specs.declared.options.Options.{Options}
use Rattle.run_command.specs.Options.{default_options}
use Rattle.run_command.specs.Command.{program_syntax}
use Rattle.run_settings.specs.declared.settings.Settings.{Settings}

-- what the first settings say, and where they say nothing what the others do
abbrev pub over : Settings → Settings → Settings
over one other = record {
  goal = option_or one.goal other.goal;
  target = option_or one.target other.target;
  ascii_only = option_or one.ascii_only other.ascii_only;
  inline_script = option_or one.inline_script other.inline_script;
  line_end = option_or one.line_end other.line_end;
  indent = option_or one.indent other.indent;
  nesting = option_or one.nesting other.nesting;
}

-- the settings of a run: what is said, and else what stands where no setting is given
abbrev pub options_of : Settings → Style → Goal → Options
options_of said style goal = record {
  goal = goal;
  style = style;
  target = unwrap_or said.target default_options.target;
  ascii_only = unwrap_or said.ascii_only default_options.ascii_only;
  inline_script = unwrap_or said.inline_script default_options.inline_script;
  line_end = unwrap_or said.line_end default_options.line_end;
  indent = unwrap_or said.indent default_options.indent;
  syntax = program_syntax;
  nesting = unwrap_or said.nesting default_options.nesting;
  positions = false;
}
