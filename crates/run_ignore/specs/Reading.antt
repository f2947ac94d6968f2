-- The text of a pattern, and the pieces that it spells (gitignore(5), "Pattern format"; fnmatch(3) for the brackets).
-- Bytes by their numbers: 33 `!`, 42 `*`, 45 `-`, 47 `/`, 58 `:`, 63 `?`, 91 `[`, 92 `\`, 93 `]`, 94 `^`.
use Rattle.std.specs.Prelude.{◌≡◌, ◌==◌, ◌≢◌, ℕ, ◌≤◌, Bool, true, false, ◌⊎◌, List, [], ◌∷◌, ◌++◌, length, Option, Some, None}
use Rattle.std.specs.List.{list_any}
use Rattle.run_ignore.specs.declared.pieces.Range.{Range}
use Rattle.run_ignore.specs.declared.pieces.Piece.{Piece}
use Rattle.run_ignore.specs.declared.pieces.Piece.TheVariants.{Byte, One, Among, Star, Folders, Everything, Nothing}

-- the text begins with this byte
abbrev pub Begins : List ℕ → ℕ → Type 0
Begins text byte = (rest : List ℕ) × (text ≡ byte ∷ rest)

-- the front of the text stands for this byte: itself, or any behind a backslash
abbrev pub IsCharacter : ℕ → List ℕ → List ℕ → Type 0
IsCharacter byte text rest = ((text ≡ byte ∷ rest) × (byte ≢ 92)) ⊎ (text ≡ 92 ∷ (byte ∷ rest))

-- no byte stands there: the text ends, or a backslash ends it
abbrev pub IsCutShort : List ℕ → Type 0
IsCutShort text = (text ≡ []) ⊎ (text ≡ 92 ∷ [])

-- a hyphen that something follows which is not the closing bracket
abbrev pub IsHyphen : List ℕ → List ℕ → Type 0
IsHyphen text rest = (text ≡ 45 ∷ rest) × (rest ≢ []) × (Begins rest 93 → ⊥)

-- the front of the text, behind the member `before`, is a hyphen and the byte to which a range goes
pub record IsSpan (range : Range) (before : Option ℕ) (text : List ℕ) (next : Option ℕ) (rest : List ℕ) : Type 0 where
  pub behind : List ℕ
  pub hyphen : IsHyphen text behind
  pub from : before ≡ Some range.from
  pub to : IsCharacter range.to behind rest
  pub none : next ≡ None

-- the front of the text is one byte of the class, from which a range may go
pub record IsSingle (range : Range) (before : Option ℕ) (text : List ℕ) (next : Option ℕ) (rest : List ℕ) : Type 0 where
  pub lone : (before ≡ None) ⊎ ((behind : List ℕ) → IsHyphen text behind → ⊥)
  pub one : range.from ≡ range.to
  pub character : IsCharacter range.to text rest
  pub this : next ≡ Some range.to

-- the front of the text is one member of a class
abbrev pub IsMember : Range → Option ℕ → List ℕ → Option ℕ → List ℕ → Type 0
IsMember range before text next rest = IsSpan range before text next rest ⊎ IsSingle range before text next rest

-- no member stands there, since the text ends
abbrev pub IsNoMember : Option ℕ → List ℕ → Type 0
IsNoMember before text = IsCutShort text ⊎ ((behind : List ℕ) × (IsHyphen text behind × IsCutShort behind))

-- `[:` names a class, which is not read here
abbrev pub NamesClass : List ℕ → Type 0
NamesClass text = (rest : List ℕ) × (text ≡ 91 ∷ (58 ∷ rest))

-- these are the members of a class from here up to its closing bracket, which may be its first member, and what follows that;
-- nothing follows where the class is not closed
abbrev pub Members : List Range → Bool → Option ℕ → List ℕ → Option (List ℕ) → Type 0
Members [] is_first before text end =
    ((is_first ≡ false) × ((rest : List ℕ) × ((text ≡ 93 ∷ rest) × (end ≡ Some rest))))
    ⊎ ((end ≡ None) × (NamesClass text ⊎ IsNoMember before text))
Members (range ∷ more) is_first before text end =
    (is_first ≡ false → Begins text 93 → ⊥) × (NamesClass text → ⊥)
    × ((next : Option ℕ) × ((rest : List ℕ) × (IsMember range before text next rest × Members more false next rest end)))

-- `!` or `^` behind an opening bracket negates the class
abbrev pub IsNegation : List ℕ → Bool → List ℕ → Type 0
IsNegation text negated rest =
    ((negated ≡ true) × ((text ≡ 33 ∷ rest) ⊎ (text ≡ 94 ∷ rest)))
    ⊎ ((negated ≡ false) × ((text ≡ rest) × ((Begins text 33 → ⊥) × (Begins text 94 → ⊥))))

-- what stands behind an opening bracket is a class of these ranges, and what follows its closing bracket
pub record IsClass (negated : Bool) (ranges : List Range) (text : List ℕ) (end : Option (List ℕ)) : Type 0 where
  pub inner : List ℕ
  pub sign : IsNegation text negated inner
  pub members : Members ranges true None inner end

-- asterisks alone
abbrev pub AreStars : List ℕ → Type 0
AreStars [] = Unit {0}
AreStars (byte ∷ rest) = (byte ≡ 42) × AreStars rest

-- the text is asterisks, and then the rest, which begins with none
pub record IsRun (stars text rest : List ℕ) : Type 0 where
  pub whole : text ≡ stars ++ rest
  pub alone : AreStars stars
  pub last : Begins rest 42 → ⊥

-- the asterisks are a whole name, of two or more
abbrev pub IsWholeName : Bool → List ℕ → List ℕ → Type 0
IsWholeName is_start stars rest = (is_start ≡ true) × (2 ≤ length stars) × ((rest ≡ []) ⊎ Begins rest 47)

-- the front of the text is this piece; `is_start` says that a name starts there
abbrev pub IsPiece : Piece → Bool → List ℕ → List ℕ → Type 0
IsPiece (Byte byte) is_start text rest =
    IsCharacter byte text rest × (Begins text 42 → ⊥) × (Begins text 63 → ⊥) × (Begins text 91 → ⊥)
IsPiece One is_start text rest = text ≡ 63 ∷ rest
IsPiece (Among class) is_start text rest = (body : List ℕ) × ((text ≡ 91 ∷ body) × IsClass class.negated class.ranges.items body (Some rest))
IsPiece Star is_start text rest =
    (stars : List ℕ) × (IsRun stars text rest × ((1 ≤ length stars) × (IsWholeName is_start stars rest → ⊥)))
IsPiece Folders is_start text rest = (stars : List ℕ) × (IsRun stars text (47 ∷ rest) × ((is_start ≡ true) × (2 ≤ length stars)))
IsPiece Everything is_start text rest =
    (stars : List ℕ) × (IsRun stars text rest × ((is_start ≡ true) × ((2 ≤ length stars) × (rest ≡ []))))
IsPiece Nothing is_start text rest =
    (rest ≡ []) × ((text ≡ 92 ∷ []) ⊎ ((body : List ℕ) × ((negated : Bool) × ((ranges : List Range) × ((text ≡ 91 ∷ body) × IsClass negated ranges body None)))))

-- a name starts behind the piece
abbrev pub ends_name : Piece → Bool
ends_name (Byte byte) = byte == 47
ends_name One = false
ends_name (Among class) = false
ends_name Star = false
ends_name Folders = true
ends_name Everything = false
ends_name Nothing = false

-- the text spells these pieces, one after the other
abbrev pub Spells : List Piece → Bool → List ℕ → Type 0
Spells [] is_start text = text ≡ []
Spells (piece ∷ more) is_start text = (rest : List ℕ) × (IsPiece piece is_start text rest × Spells more (ends_name piece) rest)

-- the text, with a slash at its front or not, spells these pieces
abbrev pub IsAnchored : List ℕ → List Piece → Type 0
IsAnchored text pieces = ((inner : List ℕ) × ((text ≡ 47 ∷ inner) × Spells pieces true inner)) ⊎ ((Begins text 47 → ⊥) × Spells pieces true text)

-- a pattern: with a slash it is anchored, and without one it is as with "**/" before it
abbrev pub IsPattern : List ℕ → List Piece → Type 0
IsPattern text pieces =
    ((list_any (λ b. b == 47) text ≡ true) × IsAnchored text pieces)
    ⊎ ((list_any (λ b. b == 47) text ≡ false) × ((more : List Piece) × ((pieces ≡ Folders ∷ more) × Spells more true text)))
