-- Reserved words (ECMA-262, 12.7.2 and 13.1.1).
use Rattle.std.specs.Prelude.{ℕ, Bool, false, ◌&&◌, ◌||◌, List, [], ◌∷◌, codes, bytes_eq}
use Rattle.base_token.specs.declared.context.Context.{Context}

-- the words that are no names in any code
abbrev pub always_reserved : List (List ℕ)
always_reserved =
    codes "break" ∷ codes "case" ∷ codes "catch" ∷ codes "class" ∷ codes "const" ∷ codes "continue" ∷
    codes "debugger" ∷ codes "default" ∷ codes "delete" ∷ codes "do" ∷ codes "else" ∷ codes "enum" ∷
    codes "export" ∷ codes "extends" ∷ codes "false" ∷ codes "finally" ∷ codes "for" ∷ codes "function" ∷
    codes "if" ∷ codes "import" ∷ codes "in" ∷ codes "instanceof" ∷ codes "new" ∷ codes "null" ∷
    codes "return" ∷ codes "super" ∷ codes "switch" ∷ codes "this" ∷ codes "throw" ∷ codes "true" ∷
    codes "try" ∷ codes "typeof" ∷ codes "var" ∷ codes "void" ∷ codes "while" ∷ codes "with" ∷ []

-- the words that are no names in strict code
abbrev pub strict_reserved : List (List ℕ)
strict_reserved =
    codes "implements" ∷ codes "interface" ∷ codes "let" ∷ codes "package" ∷ codes "private" ∷
    codes "protected" ∷ codes "public" ∷ codes "static" ∷ codes "yield" ∷ []

-- whether the text is one of the words
abbrev pub is_among : List (List ℕ) → List ℕ → Bool
is_among [] text = false
is_among (word ∷ words) text = bytes_eq word text || is_among words text

-- Whether a word is no name where the flags hold: `yield` also in generators, and `await` in async
-- functions, static blocks and modules.
unfoldable pub is_reserved_in : Context → List ℕ → Bool
is_reserved_in context text =
    is_among always_reserved text ||
    ((is_among strict_reserved text && context.strict) ||
    ((bytes_eq (codes "yield") text && context.in_generator) ||
    (bytes_eq (codes "await") text && (context.in_async || (context.in_static_block || context.module_)))))
