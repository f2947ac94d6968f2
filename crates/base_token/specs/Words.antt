-- Words: the text of each that has a kind of its own, and the token of any text (ECMA-262, 12.7).
use Rattle.std.specs.Prelude.{◌≡◌, ℕ, List, [], ◌∷◌, ◌++◌, if◌then◌else◌, ◌==◌, codes, bytes_eq}
use Rattle.base_token.specs.Kinds.{await_kind, break_kind, case_kind, catch_kind, continue_kind, debugger_kind, default_kind, do_kind, else_kind, finally_kind, for_kind, function_kind, if_kind, return_kind, switch_kind, throw_kind, try_kind, var_kind, let_kind, const_kind, while_kind, with_kind, new_kind, this_kind, super_kind, class_kind, extends_kind, export_kind, import_kind, yield_kind, in_kind, instanceof_kind, typeof_kind, void_kind, delete_kind, null_kind, true_kind, false_kind, accessor_kind, as_kind, assert_kind, async_kind, enum_kind, from_kind, get_kind, implements_kind, interface_kind, meta_kind, of_kind, package_kind, private_kind, protected_kind, public_kind, set_kind, static_kind, target_kind, undefined_kind, using_kind, name_kind}

-- a word's token: its kind, and its text with no escapes
pub record SpecWord : Type 0 where
  pub kind : ℕ
  pub text : List ℕ

-- the keywords, each with its kind (12.7.2)
abbrev pub keyword_words : List (ℕ × List ℕ)
keyword_words =
    (await_kind, codes "await") ∷
    (break_kind, codes "break") ∷
    (case_kind, codes "case") ∷
    (catch_kind, codes "catch") ∷
    (continue_kind, codes "continue") ∷
    (debugger_kind, codes "debugger") ∷
    (default_kind, codes "default") ∷
    (do_kind, codes "do") ∷
    (else_kind, codes "else") ∷
    (finally_kind, codes "finally") ∷
    (for_kind, codes "for") ∷
    (function_kind, codes "function") ∷
    (if_kind, codes "if") ∷
    (return_kind, codes "return") ∷
    (switch_kind, codes "switch") ∷
    (throw_kind, codes "throw") ∷
    (try_kind, codes "try") ∷
    (var_kind, codes "var") ∷
    (let_kind, codes "let") ∷
    (const_kind, codes "const") ∷
    (while_kind, codes "while") ∷
    (with_kind, codes "with") ∷
    (new_kind, codes "new") ∷
    (this_kind, codes "this") ∷
    (super_kind, codes "super") ∷
    (class_kind, codes "class") ∷
    (extends_kind, codes "extends") ∷
    (export_kind, codes "export") ∷
    (import_kind, codes "import") ∷
    (yield_kind, codes "yield") ∷
    (in_kind, codes "in") ∷
    (instanceof_kind, codes "instanceof") ∷
    (typeof_kind, codes "typeof") ∷
    (void_kind, codes "void") ∷
    (delete_kind, codes "delete") ∷
    []

-- the words that are values (13.2.3)
abbrev pub literal_words : List (ℕ × List ℕ)
literal_words =
    (null_kind, codes "null") ∷
    (true_kind, codes "true") ∷
    (false_kind, codes "false") ∷
    []

-- the names that the grammar asks for by their text
abbrev pub known_words : List (ℕ × List ℕ)
known_words =
    (accessor_kind, codes "accessor") ∷
    (as_kind, codes "as") ∷
    (assert_kind, codes "assert") ∷
    (async_kind, codes "async") ∷
    (enum_kind, codes "enum") ∷
    (from_kind, codes "from") ∷
    (get_kind, codes "get") ∷
    (implements_kind, codes "implements") ∷
    (interface_kind, codes "interface") ∷
    (meta_kind, codes "meta") ∷
    (of_kind, codes "of") ∷
    (package_kind, codes "package") ∷
    (private_kind, codes "private") ∷
    (protected_kind, codes "protected") ∷
    (public_kind, codes "public") ∷
    (set_kind, codes "set") ∷
    (static_kind, codes "static") ∷
    (target_kind, codes "target") ∷
    (undefined_kind, codes "undefined") ∷
    (using_kind, codes "using") ∷
    []

-- each word that has a kind of its own
abbrev pub own_words : List (ℕ × List ℕ)
own_words = keyword_words ++ (literal_words ++ known_words)

-- the kind of a text, by a list of words with kinds
abbrev pub kind_among : List (ℕ × List ℕ) → List ℕ → ℕ
kind_among [] text = name_kind
kind_among (word ∷ words) text = if bytes_eq word.1 text then word.0 else kind_among words text

-- the text of a kind, by a list of words with kinds
abbrev pub text_among : List (ℕ × List ℕ) → ℕ → List ℕ
text_among [] kind = []
text_among (word ∷ words) kind = if word.0 == kind then word.1 else text_among words kind

-- the kind of a word's text
unfoldable pub kind_of : List ℕ → ℕ
kind_of text = kind_among own_words text

-- the text of a kind that has its own
unfoldable pub own_text : ℕ → List ℕ
own_text kind = text_among own_words kind

-- the token of a text
abbrev pub word_of : List ℕ → SpecWord
word_of text = record { kind = kind_of text; text = text }

-- the token of a kind that has its own text
abbrev pub own_word : ℕ → SpecWord
own_word kind = record { kind = kind; text = own_text kind }

-- a name with no kind of its own
abbrev pub plain_name : List ℕ → SpecWord
plain_name text = record { kind = name_kind; text = text }

-- A plain name holds no text of another word.
abbrev pub IsOwnName : SpecWord → Type 0
IsOwnName word = word.kind ≡ name_kind → kind_of word.text ≡ name_kind
