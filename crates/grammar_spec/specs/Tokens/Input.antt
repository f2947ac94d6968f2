-- What a program is read from: tokens in their places, and what consuming one of them says.
use Rattle.std.specs.Prelude.{◌≡◌, ℕ, ◌+◌, min, Bool, true, false, not, ◌&&◌, ◌||◌, ◌==◌, nat_le, if◌then◌else◌, List, [], ◌∷◌}
use Rattle.tree_spec.specs.Context.{Context}
use Rattle.tree_spec.specs.Span.{Span}
use Rattle.tree_spec.specs.EsSyntax.{EsSyntax}
use Rattle.tree_spec.specs.Kinds.{end_kind, regex_kind, div_kind, div_assign_kind, null_kind, false_kind, await_kind, break_kind, let_kind, yield_kind, delete_kind, enum_kind, implements_kind, interface_kind, package_kind, private_kind, protected_kind, public_kind, static_kind}
use Rattle.tree_spec.specs.Tokens.{Content, Bare, Named, Spot}

-- The lexical goal under which a token was read (clause 12): no template's characters, where a slash is an operator or where it opens a
-- regular expression; the characters of a template; what ends them.
abbrev pub div_goal : ℕ
div_goal = 0

abbrev pub regexp_goal : ℕ
regexp_goal = 1

abbrev pub template_goal : ℕ
template_goal = 2

abbrev pub template_end_goal : ℕ
template_end_goal = 3

-- A token in its place: whether a word is spelled with an escape, and the lexical goal and the context under which it stands.
pub record PlacedToken : Type 0 where
  pub spot : Spot
  pub escaped : Bool
  pub goal : ℕ
  pub context : Context

-- the tokens to come, and where the last one before them ends
pub record Input : Type 0 where
  pub last : ℕ
  pub places : List PlacedToken

-- ---- the first token, by numbers: `kind ts ≡ comma_kind`, and on with `rest ts`

abbrev pub kind_of : List PlacedToken → ℕ
kind_of [] = end_kind
kind_of (p ∷ ps) = p.spot.token.kind

abbrev pub break_of : List PlacedToken → Bool
break_of [] = false
break_of (p ∷ ps) = p.spot.line_break

abbrev pub content_of : List PlacedToken → Content
content_of [] = Bare
content_of (p ∷ ps) = p.spot.token.content

abbrev pub escaped_of : List PlacedToken → Bool
escaped_of [] = false
escaped_of (p ∷ ps) = p.escaped

abbrev pub lo_of : ℕ → List PlacedToken → ℕ
lo_of last [] = last
lo_of last (p ∷ ps) = p.spot.lo

abbrev pub hi_of : ℕ → List PlacedToken → ℕ
hi_of last [] = last
hi_of last (p ∷ ps) = p.spot.hi

abbrev pub others : List PlacedToken → List PlacedToken
others [] = []
others (p ∷ ps) = ps

abbrev pub kind : Input → ℕ
kind ts = kind_of ts.places

-- whether a line break stands before it
abbrev pub brk : Input → Bool
brk ts = break_of ts.places

abbrev pub content : Input → Content
content ts = content_of ts.places

abbrev pub text_in : Content → List ℕ
text_in (Named text) = text
text_in _ = []

-- the text of a word
abbrev pub text : Input → List ℕ
text ts = text_in (content_of ts.places)

abbrev pub escaped : Input → Bool
escaped ts = escaped_of ts.places

-- where it begins, and where it ends
abbrev pub lo : Input → ℕ
lo ts = lo_of ts.last ts.places

abbrev pub hi : Input → ℕ
hi ts = hi_of ts.last ts.places

abbrev pub rest : Input → Input
rest ts = record { last = hi_of ts.last ts.places; places = others ts.places }

-- the kind of the second token
abbrev pub kind2 : Input → ℕ
kind2 ts = kind_of (others ts.places)

abbrev pub brk2 : Input → Bool
brk2 ts = break_of (others ts.places)

-- ---- spans

abbrev pub span : ℕ → ℕ → Span
span a b = record { lo = record { 0 = a }; hi = record { 0 = b } }

-- A node goes from the start of its first token to the end of its last.
abbrev pub Spans : Span → Input → Input → Type 0
Spans s ts r = s ≡ span (lo ts) r.last

-- the three bytes of the dots at a place; places go up to 2 ^ 32 - 1
abbrev pub dots_at : ℕ → Span
dots_at a = span a (min (a + 3) 4294967295)

-- that of the first token
abbrev pub first_span : Input → Span
first_span ts = span (lo ts) (hi ts)

-- ---- the code around a token

-- The parts of the language that are on, the context, whether a declaration may stand where a statement starts, whether a pattern binds its
-- names (14.3.3) or assigns to targets (13.15.5), whether a function is a setter's, and whether each token's lexical goal and context are
-- judged, or the tokens alone.
pub record Code : Type 0 where
  pub syntax : EsSyntax
  pub context : Context
  pub listed : Bool
  pub binds : Bool
  pub sets : Bool
  pub placed : Bool

abbrev pub is_strict : Code → Bool
is_strict c = c.context.strict

-- whether `in` is an operator (the parameter [In] of clause 13)
abbrev pub has_in : Code → Bool
has_in c = c.context.include_in_expr

abbrev pub with_in : Code → Code
with_in c = record c { context = record c.context { include_in_expr = true } }

abbrev pub without_in : Code → Code
without_in c = record c { context = record c.context { include_in_expr = false } }

abbrev pub turned_strict : Code → Code
turned_strict c = record c { context = record c.context { strict = true } }

-- where declarations may stand, and where statements alone may
abbrev pub in_list : Code → Code
in_list c = record c { listed = true }

abbrev pub alone : Code → Code
alone c = record c { listed = false }

abbrev pub binding : Code → Code
binding c = record c { binds = true }

abbrev pub assigning : Code → Code
assigning c = record c { binds = false }

abbrev pub setting : Bool → Code → Code
setting b c = record c { sets = b }

-- where tokens alone are judged
abbrev pub unplaced : Code → Code
unplaced c = record c { placed = false }

-- the parameters [Yield] and [Await] of clauses 13 to 15
abbrev pub by : Bool → Bool → Code → Code
by generator async c = record c { context = record c.context { include_in_expr = true; in_generator = generator; in_async = async; in_static_block = false } }

-- a function's body and its parameters (15.2 to 15.6)
abbrev pub in_body : Bool → Bool → Code → Code
in_body generator async c = record c { context = record c.context { include_in_expr = true; in_generator = generator; in_async = async; in_static_block = false; in_function = true }; listed = true; sets = false }

-- an arrow's body (15.3, 15.9)
abbrev pub in_arrow : Bool → Code → Code
in_arrow async c = record c { context = record c.context { in_generator = false; in_async = async; in_static_block = false; in_function = true } }

-- the start of a field (15.7), and a static block
abbrev pub in_field : Code → Code
in_field c = record c { context = record c.context { include_in_expr = true; in_generator = false; in_async = false; in_static_block = false } }

abbrev pub in_static : Code → Code
in_static c = record c { context = record c.context { include_in_expr = true; in_generator = false; in_async = false; in_static_block = true }; listed = true }

-- ---- words

abbrev pub is_word : ℕ → Bool
is_word k = nat_le null_kind k

-- The words that are a name in no code (12.7.2).
abbrev pub always_reserved : ℕ → Bool
always_reserved k =
    (nat_le null_kind k && nat_le k false_kind)
    || ((nat_le break_kind k && nat_le k delete_kind && not (k == let_kind) && not (k == yield_kind)) || (k == enum_kind))

-- The words that strict code reserves.
abbrev pub strict_reserved : ℕ → Bool
strict_reserved k =
    (k == let_kind) || ((k == yield_kind) || ((k == static_kind) || ((k == implements_kind) || ((k == interface_kind) || ((k == package_kind)
    || ((k == private_kind) || ((k == protected_kind) || (k == public_kind))))))))

-- `yield` in generators, `await` in async functions, in static blocks and in modules
abbrev pub operator_word : Context → ℕ → Bool
operator_word x k = ((k == yield_kind) && x.in_generator) || ((k == await_kind) && (x.in_async || (x.in_static_block || x.module_)))

-- A word is no name here. What strict code alone reserves is a name with an early error.
abbrev pub no_name : Context → ℕ → Bool
no_name x k = always_reserved k || operator_word x k

-- An escaped word that is reserved here stands as a key alone, or as a name that every word may be (12.7.2).
abbrev pub barred : Context → Input → Bool
barred x ts = escaped ts && (no_name x (kind ts) || (strict_reserved (kind ts) && x.strict))

-- ---- consuming a token

-- The flags by which a context judges a token.
abbrev pub judged : Context → Context
judged x = record { module_ = x.module_; can_be_module = false; strict = x.strict; include_in_expr = false; in_async = x.in_async; in_generator = x.in_generator; in_static_block = x.in_static_block; in_function = false; is_break_allowed = false; is_continue_allowed = false; allow_super = false; allow_direct_super = false; ignore_error = false }

abbrev pub context_of : Context → List PlacedToken → Context
context_of x [] = x
context_of x (p ∷ ps) = p.context

abbrev pub goal_of : List PlacedToken → ℕ
goal_of [] = div_goal
goal_of (p ∷ ps) = p.goal

-- The goal of a place outside the characters of a template: that of an operand for a regular expression, that of an operator for a slash.
-- Any other token is the same under both, so either will do.
abbrev pub usual : ℕ → ℕ → Bool
usual k g = if k == regex_kind then g == regexp_goal else (if (k == div_kind) || (k == div_assign_kind) then g == div_goal else nat_le g regexp_goal)

-- asked where a test holds
abbrev pub Only : Bool → Type 0 → Type 0
Only true P = P
Only false P = Unit {0}

-- The first token stands under a goal of its own and in this code.
abbrev pub Stands : Code → Input → Type 0
Stands c ts = Only c.placed ((usual (kind ts) (goal_of ts.places) ≡ true) × (judged (context_of c.context ts.places) ≡ judged c.context))

-- The first token has this kind, and the others are the rest.
abbrev pub Takes : Code → ℕ → Input → Input → Type 0
Takes c k ts r = (kind ts ≡ k) × Stands c ts × (rest ts ≡ r)

-- a word as a word of the grammar
abbrev pub TakesWord : Code → ℕ → Input → Input → Type 0
TakesWord c k ts r = (kind ts ≡ k) × (barred c.context ts ≡ false) × Stands c ts × (rest ts ≡ r)

-- IdentifierName (12.7): any word
abbrev pub TakesAnyWord : Code → List ℕ → Input → Input → Type 0
TakesAnyWord c name ts r = (is_word (kind ts) ≡ true) × (text ts ≡ name) × Stands c ts × (rest ts ≡ r)

-- IdentifierReference, BindingIdentifier, LabelIdentifier (13.1): a word that is a name here
abbrev pub TakesName : Code → List ℕ → Input → Input → Type 0
TakesName c name ts r = (is_word (kind ts) ≡ true) × (no_name c.context (kind ts) ≡ false) × (barred c.context ts ≡ false) × (text ts ≡ name) × Stands c ts × (rest ts ≡ r)

-- what a template's characters and their end stand under
abbrev pub TakesIn : Code → ℕ → ℕ → Input → Input → Type 0
TakesIn c goal k ts r = (kind ts ≡ k) × Only c.placed ((goal_of ts.places ≡ goal) × (judged (context_of c.context ts.places) ≡ judged c.context)) × (rest ts ≡ r)

-- ---- whole programs (16.1, 16.2): a module's body is strict code, and `await` is an operator there

abbrev pub no_context : Context
no_context = record { module_ = false; can_be_module = false; strict = false; include_in_expr = true; in_async = false; in_generator = false; in_static_block = false; in_function = false; is_break_allowed = false; is_continue_allowed = false; allow_super = false; allow_direct_super = false; ignore_error = false }

abbrev pub script_code : EsSyntax → Code
script_code x = record { syntax = x; context = no_context; listed = true; binds = false; sets = false; placed = true }

abbrev pub module_code : EsSyntax → Code
module_code x = record { syntax = x; context = record no_context { module_ = true; strict = true; in_async = true }; listed = true; binds = false; sets = false; placed = true }
