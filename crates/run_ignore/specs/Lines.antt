-- The lines of a `.gitignore` file and their rules (gitignore(5), "Pattern format").
-- Bytes by their numbers: 10 the line feed, 13 the carriage return, 32 the blank, 33 `!`, 35 `#`, 47 `/`.
use Rattle.std.specs.Prelude.{◌≡◌, ◌==◌, ℕ, Bool, true, false, not, ◌&&◌, ◌⊎◌, List, [], ◌∷◌, ◌++◌, ◌≢◌, ◌+◌, ◌<◌, ◌≤◌, length, take, drop, slice_index, All}
use Rattle.run_ignore.specs.Reading.{Begins, IsPattern}
use Rattle.run_ignore.specs.declared.rules.Rule.{Rule}

-- the text ends with this byte
abbrev pub Ends : List ℕ → ℕ → Type 0
Ends text byte = (front : List ℕ) × (text ≡ front ++ byte ∷ [])

-- behind this text, read from the start or from behind a backslash, a backslash quotes what comes next
abbrev pub is_quoted : Bool → List ℕ → Bool
is_quoted quoted [] = quoted
is_quoted quoted (byte ∷ rest) = is_quoted (not quoted && (byte == 92)) rest

-- the text ends with a blank that no backslash quotes
abbrev pub EndsBare : List ℕ → Type 0
EndsBare text = (front : List ℕ) × ((text ≡ front ++ 32 ∷ []) × (is_quoted false front ≡ false))

-- the line without the blanks at its end, but one that is quoted
abbrev pub IsKept : List ℕ → List ℕ → Type 0
IsKept line kept = (blanks : List ℕ) × ((line ≡ kept ++ blanks) × (All (λ byte. byte ≡ 32) blanks × (EndsBare kept → ⊥)))

-- a line, without its blanks at the end, is that of no rule: it is empty, or a comment
abbrev pub IsNoRule : List ℕ → Type 0
IsNoRule line = (line ≡ []) ⊎ Begins line 35

-- what stands behind `!` takes back, and else the line leaves out
abbrev pub IsSigned : List ℕ → Bool → List ℕ → Type 0
IsSigned line takes_back text =
    ((takes_back ≡ true) × (line ≡ 33 ∷ text)) ⊎ ((takes_back ≡ false) × ((Begins line 33 → ⊥) × (line ≡ text)))

-- what stands before a slash at the end is for folders alone
abbrev pub IsForFolders : List ℕ → Bool → List ℕ → Type 0
IsForFolders text folders_only name =
    ((folders_only ≡ true) × (text ≡ name ++ 47 ∷ [])) ⊎ ((folders_only ≡ false) × ((Ends text 47 → ⊥) × (text ≡ name)))

-- the rule of a line
pub record IsRule (line : List ℕ) (rule : Rule) : Type 0 where
  pub text : List ℕ
  pub name : List ℕ
  pub sign : IsSigned line rule.takes_back text
  pub folders : IsForFolders text rule.folders_only name
  pub pattern : IsPattern name rule.pattern.pieces.items

-- a line adds its rule to those before, or none
abbrev pub AddsRule : List ℕ → List Rule → List Rule → Type 0
AddsRule line old new =
    (kept : List ℕ) × (IsKept line kept
    × ((IsNoRule kept × (new ≡ old))
    ⊎ ((IsNoRule kept → ⊥) × ((rule : Rule) × ((new ≡ old ++ rule ∷ []) × IsRule kept rule)))))

-- a line ends at the first line feed, or where the text does
pub record IsLineLength (text : List ℕ) (n : ℕ) : Type 0 where
  pub within : n ≤ length text
  pub before : (k : ℕ) → k < n → slice_index text k ≢ 10
  pub found : n < length text → slice_index text n ≡ 10

-- a carriage return at the end of a line is no part of it
abbrev pub IsReturned : List ℕ → List ℕ → Type 0
IsReturned whole line = (whole ≡ line ++ 13 ∷ []) ⊎ ((Ends whole 13 → ⊥) × (whole ≡ line))

-- the first line of a text, without what ends it, and what follows
pub record IsLine (text line rest : List ℕ) : Type 0 where
  pub place : ℕ
  pub is : IsLineLength text place
  pub whole : IsReturned (take place text) line
  pub behind : rest ≡ drop (place + 1) text

-- these are the lines of a text
abbrev pub AreLines : List (List ℕ) → List ℕ → Type 0
AreLines [] text = text ≡ []
AreLines (line ∷ more) text = (rest : List ℕ) × (IsLine text line rest × AreLines more rest)

-- these are the rules of the lines: one for each that has one, in their order
abbrev pub AreRules : List (List ℕ) → List Rule → Type 0
AreRules [] rules = rules ≡ []
AreRules (line ∷ more) rules =
    (kept : List ℕ) × (IsKept line kept
    × ((IsNoRule kept × AreRules more rules)
    ⊎ ((IsNoRule kept → ⊥) × ((rule : Rule) × ((others : List Rule) × ((rules ≡ rule ∷ others) × (IsRule kept rule × AreRules more others)))))))

-- these are the rules of the text of a `.gitignore` file
abbrev pub AreRulesOf : List ℕ → List Rule → Type 0
AreRulesOf text rules = (lines : List (List ℕ)) × (AreLines lines text × AreRules lines rules)
