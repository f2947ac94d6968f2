-- What the program's command line asks for.
use Rattle.std.specs.Prelude.{◌≡◌, ◌&&◌, ℕ, Bool, true, false, List, [], ◌∷◌, Option, Some, codes}
use Rattle.clap.specs.Words.{App, Kinds, Row, Rule, fault_of, first_of, matches_of, new_app, new_rule, one_of, takes, with_rule}
use Rattle.clap.specs.declared.builder.action.ArgAction.TheVariants.{SetTrue}
use Rattle.base_token.specs.declared.version.EsVersion.{EsVersion}
use Rattle.base_token.specs.declared.syntax.Syntax.{Syntax}
use Rattle.base_token.specs.declared.syntax.Syntax.TheVariants.{Es}
use Rattle.run_command.specs.declared.options.Goal.{Goal}
use Rattle.run_command.specs.declared.options.Goal.TheVariants.{Script, Module}
use Rattle.run_command.specs.declared.options.Style.{Style}
use Rattle.run_command.specs.declared.options.Style.TheVariants.{Minify, Format}
use Rattle.run_command.specs.declared.options.LineEnd.{LineEnd}
use Rattle.run_command.specs.declared.options.LineEnd.TheVariants.{Lf, CrLf}
use Rattle.run_command.specs.declared.options.Indent.{Indent}
use Rattle.run_command.specs.declared.options.Options.{Options}
use Rattle.run_command.specs.Options.{default_options, plain_syntax}
use Rattle.run_command.specs.Values.{SetsBy, indent_of, is_listed, nesting_of, target_of}

-- an option without a value, and one with a value
abbrev pub flag : List ℕ → Rule
flag name = record (new_rule name) { long = Some name; action = Some SetTrue }

abbrev pub valued : List ℕ → Rule
valued name = record (new_rule name) { long = Some name; value_names = 1 }

abbrev pub with_rules : App → List Rule → App
with_rules app [] = app
with_rules app (rule ∷ rules) = with_rules (with_rule app rule) rules

-- What the program takes: options and a path, none of which must be given.
abbrev pub program : App
program = with_rules (new_app (codes "ecma-front"))
    (flag (codes "script") ∷ flag (codes "minify") ∷ valued (codes "target") ∷ flag (codes "ascii-only") ∷ flag (codes "inline-script")
    ∷ flag (codes "crlf") ∷ valued (codes "indent") ∷ valued (codes "nesting") ∷ new_rule (codes "PATH") ∷ [])

-- the words of a command line: where it has none, the program's name alone
abbrev pub words_of : List (List ℕ) → List (List ℕ)
words_of [] = codes "ecma-front" ∷ []
words_of (w ∷ ws) = w ∷ ws

-- what clap finds in the words for each name of the program
unfoldable pub found_in : List (List ℕ) → List Row
found_in words = matches_of program (words_of words)

-- the program takes the words
unfoldable pub are_taken : List (List ℕ) → Bool
are_taken words = takes program (words_of words)

-- what is wrong with them
unfoldable pub faults_in : List (List ℕ) → Kinds
faults_in words = fault_of program (words_of words)

-- what the flags' values, as they were read, make of the settings
abbrev pub SetsGoal : Option (List ℕ) → Goal → Type 0
SetsGoal value goal = (value ≡ Some (codes "true") → goal ≡ Script) × (value ≡ Some (codes "false") → goal ≡ Module)

abbrev pub SetsStyle : Option (List ℕ) → Style → Type 0
SetsStyle value style = (value ≡ Some (codes "true") → style ≡ Minify) × (value ≡ Some (codes "false") → style ≡ Format)

abbrev pub SetsLineEnd : Option (List ℕ) → LineEnd → Type 0
SetsLineEnd value line_end = (value ≡ Some (codes "true") → line_end ≡ CrLf) × (value ≡ Some (codes "false") → line_end ≡ Lf)

abbrev pub SetsFlag : Option (List ℕ) → Bool → Type 0
SetsFlag value is_on = (value ≡ Some (codes "true") → is_on ≡ true) × (value ≡ Some (codes "false") → is_on ≡ false)

-- and what the values of the other options make of theirs
abbrev pub SetsTarget : Option (List ℕ) → EsVersion → Type 0
SetsTarget = SetsBy target_of default_options.target

abbrev pub SetsIndent : Option (List ℕ) → Indent → Type 0
SetsIndent = SetsBy indent_of default_options.indent

abbrev pub SetsNesting : Option (List ℕ) → ℕ → Type 0
SetsNesting = SetsBy nesting_of default_options.nesting

-- the values of the options, where they were given, stand for something
abbrev pub are_listed : List Row → Bool
are_listed rows = is_listed target_of (first_of (codes "target") rows)
    && (is_listed indent_of (first_of (codes "indent") rows) && is_listed nesting_of (first_of (codes "nesting") rows))

-- the program reads import attributes and `using`
abbrev pub program_syntax : Syntax
program_syntax = Es (record plain_syntax { import_attributes = true; explicit_resource_management = true })

-- the settings that were found ask for these
pub record Asks (rows : List Row) (o : Options) : Type 0 where
  pub goal : SetsGoal (one_of (codes "script") rows) o.goal
  pub style : SetsStyle (one_of (codes "minify") rows) o.style
  pub target : SetsTarget (first_of (codes "target") rows) o.target
  pub ascii_only : SetsFlag (one_of (codes "ascii-only") rows) o.ascii_only
  pub inline_script : SetsFlag (one_of (codes "inline-script") rows) o.inline_script
  pub line_end : SetsLineEnd (one_of (codes "crlf") rows) o.line_end
  pub indent : SetsIndent (first_of (codes "indent") rows) o.indent
  pub nesting : SetsNesting (first_of (codes "nesting") rows) o.nesting
  pub syntax : o.syntax ≡ program_syntax
  pub positions : o.positions ≡ false
