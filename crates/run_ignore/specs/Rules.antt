-- The rules of one `.gitignore` file, and what they leave out (gitignore(5)). A path is counted from the folder of the file.
use Rattle.std.specs.Prelude.{◌≡◌, ℕ, ◌<◌, Bool, true, if◌then◌else◌, ◌⊎◌, List, ◌∷◌, ◌++◌, length, slice_index_or}
use Rattle.run_ignore.specs.Matching.{Matches}
use Rattle.run_ignore.specs.declared.rules.Rule.{Rule}
use Rattle.run_ignore.specs.declared.rules.Rules.{Rules}
use Rattle.run_ignore.specs.declared.rules.Verdict.{Verdict}
use Rattle.run_ignore.specs.declared.rules.Verdict.TheVariants.{LeftOut, TakenBack, Unsaid}

-- the rules of a file, in their order
abbrev pub rules_of : Rules → List Rule
rules_of rules = rules.rules.items

-- a rule matches a path: its pattern does, and where it ends with a slash the path is a folder
pub record RuleMatches (rule : Rule) (path : List ℕ) (is_dir : Bool) : Type 0 where
  pub pattern : Matches rule.pattern.pieces.items path
  pub folder : rule.folders_only ≡ true → is_dir ≡ true

-- what a rule says of a path that it matches: `!` takes it back
abbrev pub verdict_said : Rule → Verdict
verdict_said rule = if rule.takes_back then TakenBack else LeftOut

-- this is the rule at this place
abbrev pub IsRuleAt : List Rule → ℕ → Rule → Type 0
IsRuleAt rules k rule = (k < length rules) × (rule ≡ slice_index_or rules k rule)

-- the last rule that matches decides
pub record Decides (rules : List Rule) (path : List ℕ) (is_dir : Bool) (verdict : Verdict) : Type 0 where
  pub place : ℕ
  pub rule : Rule
  pub here : IsRuleAt rules place rule
  pub matches : RuleMatches rule path is_dir
  pub last : (k : ℕ) → (other : Rule) → place < k → IsRuleAt rules k other → RuleMatches other path is_dir → ⊥
  pub said : verdict ≡ verdict_said rule

-- no rule matches
pub record IsUnsaid (rules : List Rule) (path : List ℕ) (is_dir : Bool) (verdict : Verdict) : Type 0 where
  pub none : (k : ℕ) → (other : Rule) → IsRuleAt rules k other → RuleMatches other path is_dir → ⊥
  pub said : verdict ≡ Unsaid

-- what the rules say of a path, whatever is said of the folders above it
abbrev pub Says : List Rule → List ℕ → Bool → Verdict → Type 0
Says rules path is_dir verdict = Decides rules path is_dir verdict ⊎ IsUnsaid rules path is_dir verdict

-- the rules leave a path out: they say so of it, or of a folder above it, within which nothing can be taken back
abbrev pub LeavesOut : List Rule → List ℕ → Bool → Type 0
LeavesOut rules path is_dir =
    Says rules path is_dir LeftOut
    ⊎ ((folders : List ℕ) × ((rest : List ℕ) × ((path ≡ folders ++ 47 ∷ rest) × Says rules folders true LeftOut)))
