-- Punctuators (12.8), with the words `#` and `@`, by the kinds of their tokens.
use Rattle.std.specs.Prelude.{◌≡◌, ℕ, ◌≤◌, Bool, true, false, ◌&&◌, ◌⊎◌, List, [], ◌∷◌, ◌++◌, length, codes, Option, None, Some, if◌then◌else◌, ◌==◌}
use Rattle.base_token.specs.declared.token.TokenKind.{TokenKind}
use Rattle.base_token.specs.declared.token.TokenKind.TheVariants.{BinOp, AssignOp, DotDotDot, Arrow, PlusPlus, MinusMinus, LBrace, RBrace, LParen, RParen, LBracket, RBracket, Semi, Comma, Colon, Dot, Hash, At, Tilde, QuestionMark, Bang, BackQuote}
use Rattle.base_token.specs.declared.operator.BinOpToken.TheVariants as b
use Rattle.base_token.specs.declared.operator.AssignOp.TheVariants as a
use Rattle.lex_pieces.specs.Characters.{is_decimal_digit}

abbrev pub Spelling : Type 0
Spelling = List ℕ × TokenKind

-- how each is spelled, the longest first
abbrev pub punctuators : List Spelling
punctuators =
    (codes ">>>=", AssignOp a.ZeroFillRShiftAssign)
    ∷ (codes "...", DotDotDot)
    ∷ (codes "===", BinOp b.EqEqEq)
    ∷ (codes "!==", BinOp b.NotEqEq)
    ∷ (codes "**=", AssignOp a.ExpAssign)
    ∷ (codes "<<=", AssignOp a.LShiftAssign)
    ∷ (codes ">>=", AssignOp a.RShiftAssign)
    ∷ (codes ">>>", BinOp b.ZeroFillRShift)
    ∷ (codes "&&=", AssignOp a.AndAssign)
    ∷ (codes "||=", AssignOp a.OrAssign)
    ∷ (codes "??=", AssignOp a.NullishAssign)
    ∷ (codes "=>", Arrow)
    ∷ (codes "==", BinOp b.EqEq)
    ∷ (codes "!=", BinOp b.NotEq)
    ∷ (codes "<=", BinOp b.LtEq)
    ∷ (codes ">=", BinOp b.GtEq)
    ∷ (codes "<<", BinOp b.LShift)
    ∷ (codes ">>", BinOp b.RShift)
    ∷ (codes "++", PlusPlus)
    ∷ (codes "--", MinusMinus)
    ∷ (codes "**", BinOp b.Exp)
    ∷ (codes "&&", BinOp b.LogicalAnd)
    ∷ (codes "||", BinOp b.LogicalOr)
    ∷ (codes "??", BinOp b.NullishCoalescing)
    ∷ (codes "+=", AssignOp a.AddAssign)
    ∷ (codes "-=", AssignOp a.SubAssign)
    ∷ (codes "*=", AssignOp a.MulAssign)
    ∷ (codes "/=", AssignOp a.DivAssign)
    ∷ (codes "%=", AssignOp a.ModAssign)
    ∷ (codes "&=", AssignOp a.BitAndAssign)
    ∷ (codes "|=", AssignOp a.BitOrAssign)
    ∷ (codes "^=", AssignOp a.BitXorAssign)
    ∷ (codes "{", LBrace)
    ∷ (codes "}", RBrace)
    ∷ (codes "(", LParen)
    ∷ (codes ")", RParen)
    ∷ (codes "[", LBracket)
    ∷ (codes "]", RBracket)
    ∷ (codes ";", Semi)
    ∷ (codes ",", Comma)
    ∷ (codes ":", Colon)
    ∷ (codes ".", Dot)
    ∷ (codes "#", Hash)
    ∷ (codes "@", At)
    ∷ (codes "~", Tilde)
    ∷ (codes "?", QuestionMark)
    ∷ (codes "!", Bang)
    ∷ (codes "=", AssignOp a.Assign)
    ∷ (codes "<", BinOp b.Lt)
    ∷ (codes ">", BinOp b.Gt)
    ∷ (codes "+", BinOp b.Add)
    ∷ (codes "-", BinOp b.Sub)
    ∷ (codes "*", BinOp b.Mul)
    ∷ (codes "/", BinOp b.Div)
    ∷ (codes "%", BinOp b.Mod)
    ∷ (codes "&", BinOp b.BitAnd)
    ∷ (codes "|", BinOp b.BitOr)
    ∷ (codes "^", BinOp b.BitXor)
    ∷ (codes "`", BackQuote)
    ∷ []

-- it is one of the list
abbrev pub IsAmong : List Spelling → List ℕ → TokenKind → Type 0
IsAmong [] s kind = ⊥
IsAmong (x ∷ xs) s kind = ((x.0 ≡ s) × (x.1 ≡ kind)) ⊎ IsAmong xs s kind

-- a number begins with a dot before a digit (12.9.3)
abbrev pub IsNumberDot : List ℕ → Type 0
IsNumberDot text = (d : ℕ) × (rest : List ℕ) × (text ≡ 46 ∷ d ∷ rest) × (is_decimal_digit d ≡ true)

-- The text is this punctuator, and then the rest: no longer one begins the text (clause 12), and no number.
abbrev pub IsPunctuator : List ℕ → TokenKind → List ℕ → Type 0
IsPunctuator text kind rest = (IsNumberDot text → ⊥)
    × ((s : List ℕ) × IsAmong punctuators s kind × (text ≡ s ++ rest)
    × ((other : List ℕ) (more : List ℕ) (k : TokenKind) → IsAmong punctuators other k → text ≡ other ++ more → length other ≤ length s))

abbrev pub NoPunctuator : List ℕ → Type 0
NoPunctuator text = (kind : TokenKind) (rest : List ℕ) → IsPunctuator text kind rest → ⊥

-- At most one punctuator stands at the front of a text.
abbrev pub OnePunctuator : List ℕ → Type 0
OnePunctuator text = (k l : TokenKind) (r s : List ℕ) → IsPunctuator text k r → IsPunctuator text l s → (k ≡ l) × (r ≡ s)

-- ---- the same as functions

-- what follows the first characters where the others begin with them
abbrev pub past_all : List ℕ → List ℕ → Option (List ℕ)
past_all [] cs = Some cs
past_all (m ∷ ms) [] = None
past_all (m ∷ ms) (c ∷ cs) = if c == m then past_all ms cs else None

abbrev pub or_else : TokenKind → Option (List ℕ) → Option (TokenKind × List ℕ) → Option (TokenKind × List ℕ)
or_else kind None later = later
or_else kind (Some rest) later = Some (kind, rest)

-- the first of the list that begins the text
abbrev pub find : List Spelling → List ℕ → Option (TokenKind × List ℕ)
find [] cs = None
find (x ∷ xs) cs = or_else x.1 (past_all x.0 cs) (find xs cs)

-- what follows the character in those that begin with it
abbrev pub push_tail : ℕ → List ℕ → TokenKind → List Spelling → List Spelling
push_tail c [] kind later = later
push_tail c (m ∷ ms) kind later = if c == m then (ms, kind) ∷ later else later

abbrev pub tails : ℕ → List Spelling → List Spelling
tails c [] = []
tails c (x ∷ xs) = push_tail c x.0 x.1 (tails c xs)

abbrev pub begins_with_digit : List ℕ → Bool
begins_with_digit [] = false
begins_with_digit (c ∷ cs) = is_decimal_digit c

abbrev pub read_by : ℕ → List ℕ → Option (TokenKind × List ℕ)
read_by c cs = if c == 46 && begins_with_digit cs then None else find (tails c punctuators) cs

-- the punctuator that is read at the front
abbrev pub read_punctuator : List ℕ → Option (TokenKind × List ℕ)
read_punctuator [] = None
read_punctuator (c ∷ cs) = read_by c cs
