-- How tightly operators bind, and what goes on after the last part of an expression, a binding, a field or an import.
use Rattle.std.specs.Prelude.{ℕ, ◌+◌, Bool, false, not, ◌&&◌, ◌||◌, ◌==◌, nat_le, if◌then◌else◌}
use Rattle.tree_spec.specs.Kinds.{end_kind, hash_kind, dot_kind, left_paren_kind, left_bracket_kind, left_brace_kind, right_brace_kind, comma_kind, back_quote_kind, question_mark_kind, plus_plus_kind, minus_minus_kind, str_kind, regex_kind, num_kind, big_int_kind, nullish_coalescing_kind, logical_or_kind, logical_and_kind, bit_or_kind, bit_xor_kind, bit_and_kind, eq_eq_kind, not_eq_eq_kind, lt_kind, gt_eq_kind, left_shift_kind, zero_fill_right_shift_kind, add_kind, sub_kind, mul_kind, div_kind, mod_kind, exp_kind, in_kind, instanceof_kind, assign_kind, nullish_assign_kind, from_kind, with_kind}
use Rattle.grammar_spec.specs.Tokens.Input.{Input, Code, kind, kind2, brk, is_word, always_reserved, has_in}

-- ---- the levels of clause 13, from the loosest

-- Expression, AssignmentExpression, ConditionalExpression
abbrev pub expression_level : ℕ
expression_level = 1

abbrev pub assignment_level : ℕ
assignment_level = 2

abbrev pub conditional_level : ℕ
conditional_level = 3

-- CoalesceExpression, and what it joins: BitwiseORExpression
abbrev pub coalesce_level : ℕ
coalesce_level = 4

abbrev pub bit_or_level : ℕ
bit_or_level = 7

-- ExponentiationExpression, UnaryExpression, UpdateExpression
abbrev pub exponent_level : ℕ
exponent_level = 15

abbrev pub unary_level : ℕ
unary_level = 16

abbrev pub update_level : ℕ
update_level = 17

-- NewExpression, the calls and chains of LeftHandSideExpression, MemberExpression, PrimaryExpression
abbrev pub new_level : ℕ
new_level = 18

abbrev pub call_level : ℕ
call_level = 19

abbrev pub member_level : ℕ
member_level = 20

abbrev pub primary_level : ℕ
primary_level = 21

-- whether the kind is one of those from the first to the last
abbrev pub between : ℕ → ℕ → ℕ → Bool
between a b k = nat_le a k && nat_le k b

-- The operator table (13.6 to 13.13): the level of a binary operator, 0 for any other token.
abbrev pub binary_level : ℕ → ℕ
binary_level k =
    if k == nullish_coalescing_kind then 4
    else (if k == logical_or_kind then 5
    else (if k == logical_and_kind then 6
    else (if k == bit_or_kind then 7
    else (if k == bit_xor_kind then 8
    else (if k == bit_and_kind then 9
    else (if between eq_eq_kind not_eq_eq_kind k then 10
    else (if between lt_kind gt_eq_kind k || ((k == in_kind) || (k == instanceof_kind)) then 11
    else (if between left_shift_kind zero_fill_right_shift_kind k then 12
    else (if between add_kind sub_kind k then 13
    else (if between mul_kind mod_kind k then 14
    else (if k == exp_kind then 15
    else 0)))))))))))

-- The level of its right operand: `**` groups right, the others left; `??` takes no `||` and no `&&`.
abbrev pub right_level : ℕ → ℕ
right_level k = if k == exp_kind then exponent_level else (if k == nullish_coalescing_kind then bit_or_level else binary_level k + 1)

-- the assignment operators (13.15)
abbrev pub is_assign_op : ℕ → Bool
is_assign_op k = between assign_kind nullish_assign_kind k

-- a binary operator here: `in` is one where [In] holds
abbrev pub operates : Code → ℕ → Bool
operates c k = if k == in_kind then has_in c else nat_le 1 (binary_level k)

-- ---- what goes on

-- the classes of what stands last
abbrev pub other_end : ℕ
other_end = 0

abbrev pub postfix_end : ℕ
postfix_end = 1

-- an arrow with a block body, or a `yield` without operand
abbrev pub closed_end : ℕ
closed_end = 2

-- the one word `let` where a declaration may stand
abbrev pub let_end : ℕ
let_end = 3

-- a binding without initialiser
abbrev pub binding_end : ℕ
binding_end = 4

-- a field's key; the one word `get` or `set`; the one word `static`
abbrev pub key_end : ℕ
key_end = 5

abbrev pub accessor_end : ℕ
accessor_end = 6

abbrev pub static_end : ℕ
static_end = 7

-- an export list; a module's name in `from` or `import`; anything else
abbrev pub exports_end : ℕ
exports_end = 8

abbrev pub source_end : ℕ
source_end = 9

abbrev pub plain_end : ℕ
plain_end = 10

-- what starts a property's name (13.2.5), private ones too (15.7)
abbrev pub starts_key : ℕ → Bool
starts_key k = is_word k || ((k == str_kind) || ((k == num_kind) || ((k == big_int_kind) || ((k == left_bracket_kind) || (k == hash_kind)))))

-- a word that may be a name in some code
abbrev pub may_name : ℕ → Bool
may_name k = is_word k && not (always_reserved k)

-- The level at which the next token goes on with an expression of such an end, 0 where it doesn't.
abbrev pub goes_expr : Code → ℕ → Input → ℕ
goes_expr c e ts =
    if kind ts == comma_kind then expression_level
    else (if nat_le closed_end e then 0
    else (if is_assign_op (kind ts) then assignment_level
    else (if (kind ts == question_mark_kind) then (if (kind2 ts == dot_kind) && (e == other_end) then call_level else conditional_level)
    else (if operates c (kind ts) then binary_level (kind ts)
    else (if kind ts == regex_kind then binary_level div_kind
    else (if nat_le postfix_end e then 0
    else (if between plus_plus_kind minus_minus_kind (kind ts) then (if brk ts then 0 else update_level)
    else (if kind ts == left_paren_kind then call_level
    else (if (kind ts == left_bracket_kind) || ((kind ts == dot_kind) || (kind ts == back_quote_kind)) then member_level
    else 0)))))))))

-- The table of semicolons: whether the next token goes on after what ends so (own).
abbrev pub goes_on : Code → ℕ → Input → Bool
goes_on c e ts =
    if nat_le e closed_end then nat_le 1 (goes_expr c e ts)
    else (if e == let_end then (may_name (kind ts) || (kind ts == left_brace_kind)) || nat_le 1 (goes_expr c other_end ts)
    else (if e == binding_end then (kind ts == assign_kind) || (kind ts == comma_kind)
    else (if e == key_end then (kind ts == assign_kind) || (kind ts == left_paren_kind)
    else (if e == accessor_end then ((kind ts == assign_kind) || (kind ts == left_paren_kind)) || starts_key (kind ts)
    else (if e == static_end then ((kind ts == assign_kind) || (kind ts == left_paren_kind)) || (starts_key (kind ts) || ((kind ts == mul_kind) || (kind ts == left_brace_kind)))
    else (if e == exports_end then kind ts == from_kind
    else (if e == source_end then (kind ts == with_kind) && c.syntax.import_attributes
    else false)))))))

-- `}`, the end, or a line break before what doesn't go on (12.10)
abbrev pub pauses : Code → ℕ → Input → Bool
pauses c e ts = (kind ts == right_brace_kind) || ((kind ts == end_kind) || (brk ts && not (goes_on c e ts)))
