-- The texts of operators (ECMA-262, 12.8).
use Rattle.std.specs.Prelude.{ℕ, List, [], ◌∷◌, codes}
use Rattle.base_token.specs.Kinds.{eq_eq_kind, not_eq_kind, eq_eq_eq_kind, not_eq_eq_kind, lt_kind, lt_eq_kind, gt_kind, gt_eq_kind, left_shift_kind, right_shift_kind, zero_fill_right_shift_kind, add_kind, sub_kind, mul_kind, div_kind, mod_kind, bit_or_kind, bit_xor_kind, bit_and_kind, exp_kind, logical_or_kind, logical_and_kind, nullish_coalescing_kind, in_kind, instanceof_kind, assign_kind, add_assign_kind, sub_assign_kind, mul_assign_kind, div_assign_kind, mod_assign_kind, left_shift_assign_kind, right_shift_assign_kind, zero_fill_right_shift_assign_kind, bit_or_assign_kind, bit_xor_assign_kind, bit_and_assign_kind, exp_assign_kind, and_assign_kind, or_assign_kind, nullish_assign_kind}
use Rattle.base_token.specs.Words.{text_among}

-- each operator with two operands: its kind and its text
abbrev pub operators : List (ℕ × List ℕ)
operators =
    (eq_eq_kind, codes "==") ∷
    (not_eq_kind, codes "!=") ∷
    (eq_eq_eq_kind, codes "===") ∷
    (not_eq_eq_kind, codes "!==") ∷
    (lt_kind, codes "<") ∷
    (lt_eq_kind, codes "<=") ∷
    (gt_kind, codes ">") ∷
    (gt_eq_kind, codes ">=") ∷
    (left_shift_kind, codes "<<") ∷
    (right_shift_kind, codes ">>") ∷
    (zero_fill_right_shift_kind, codes ">>>") ∷
    (add_kind, codes "+") ∷
    (sub_kind, codes "-") ∷
    (mul_kind, codes "*") ∷
    (div_kind, codes "/") ∷
    (mod_kind, codes "%") ∷
    (bit_or_kind, codes "|") ∷
    (bit_xor_kind, codes "^") ∷
    (bit_and_kind, codes "&") ∷
    (exp_kind, codes "**") ∷
    (logical_or_kind, codes "||") ∷
    (logical_and_kind, codes "&&") ∷
    (nullish_coalescing_kind, codes "??") ∷
    (in_kind, codes "in") ∷
    (instanceof_kind, codes "instanceof") ∷
    (assign_kind, codes "=") ∷
    (add_assign_kind, codes "+=") ∷
    (sub_assign_kind, codes "-=") ∷
    (mul_assign_kind, codes "*=") ∷
    (div_assign_kind, codes "/=") ∷
    (mod_assign_kind, codes "%=") ∷
    (left_shift_assign_kind, codes "<<=") ∷
    (right_shift_assign_kind, codes ">>=") ∷
    (zero_fill_right_shift_assign_kind, codes ">>>=") ∷
    (bit_or_assign_kind, codes "|=") ∷
    (bit_xor_assign_kind, codes "^=") ∷
    (bit_and_assign_kind, codes "&=") ∷
    (exp_assign_kind, codes "**=") ∷
    (and_assign_kind, codes "&&=") ∷
    (or_assign_kind, codes "||=") ∷
    (nullish_assign_kind, codes "??=") ∷
    []

-- the text of an operator's kind
unfoldable pub operator_text : ℕ → List ℕ
operator_text kind = text_among operators kind
