-- What the values of the command line's options stand for.
use Rattle.std.specs.Prelude.{◌≡◌, ◌&&◌, ◌^◌, ℕ, Bool, true, List, [], ◌∷◌, Option, Some, None, codes, is_some, length, nat_lt, bytes_eq, if◌then◌else◌}
use Rattle.std.specs.List.{list_all}
use Rattle.std.specs.Option.{option_map_or}
use Rattle.std.specs.Char.{is_digit}
use Rattle.std.specs.Str.Parse.{digits_value}
use Rattle.base_token.specs.declared.version.EsVersion.{EsVersion}
use Rattle.base_token.specs.declared.version.EsVersion.TheVariants as v
use Rattle.run_command.specs.declared.options.Indent.{Indent}
use Rattle.run_command.specs.declared.options.Indent.TheVariants.{Blanks, Tabs}

-- what a text stands for, by a list of names
abbrev pub among : {X : Type 0} → List (List ℕ × X) → List ℕ → Option X
among [] text = None
among (row ∷ rows) text = if bytes_eq row.0 text then Some row.1 else among rows text

-- the editions that the output may be written for
abbrev pub editions : List (List ℕ × EsVersion)
editions =
    (codes "es2015", v.Es2015) ∷ (codes "es2016", v.Es2016) ∷ (codes "es2017", v.Es2017) ∷ (codes "es2018", v.Es2018) ∷ (codes "es2019", v.Es2019)
    ∷ (codes "es2020", v.Es2020) ∷ (codes "es2021", v.Es2021) ∷ (codes "es2022", v.Es2022) ∷ (codes "esnext", v.EsNext) ∷ []

-- the steps of indentation: as many blanks, or a tab
abbrev pub steps : List (List ℕ × Indent)
steps =
    (codes "0", Blanks 0) ∷ (codes "1", Blanks 1) ∷ (codes "2", Blanks 2) ∷ (codes "3", Blanks 3) ∷ (codes "4", Blanks 4) ∷ (codes "5", Blanks 5)
    ∷ (codes "6", Blanks 6) ∷ (codes "7", Blanks 7) ∷ (codes "8", Blanks 8) ∷ (codes "tab", Tabs 1) ∷ []

unfoldable pub target_of : List ℕ → Option EsVersion
target_of = among editions

unfoldable pub indent_of : List ℕ → Option Indent
indent_of = among steps

-- one decimal digit or more, and nothing else
abbrev pub is_number : List ℕ → Bool
is_number text = nat_lt 0 (length text) && list_all (λ c. is_digit c 10) text

-- the number that a text of decimal digits writes, where it is a `u32`
unfoldable pub nesting_of : List ℕ → Option ℕ
nesting_of text = if is_number text && nat_lt (digits_value 10 text) (2 ^ 32) then Some (digits_value 10 text) else None

-- no value: the setting that stands where none is given; a value: what it stands for
abbrev pub SetsBy : {X : Type 0} → (List ℕ → Option X) → X → Option (List ℕ) → X → Type 0
SetsBy of standing None x = x ≡ standing
SetsBy of standing (Some value) x = of value ≡ Some x

-- no value, or one that stands for something
abbrev pub is_listed : {X : Type 0} → (List ℕ → Option X) → Option (List ℕ) → Bool
is_listed of value = option_map_or (λ text. is_some (of text)) value true
