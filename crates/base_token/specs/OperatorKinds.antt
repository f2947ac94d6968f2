-- What contracts see of an operator of the code: its kind.
use Rattle.std.specs.Prelude.{ℕ}
use Rattle.base_token.specs.Kinds.{eq_eq_kind, not_eq_kind, eq_eq_eq_kind, not_eq_eq_kind, lt_kind, lt_eq_kind, gt_kind, gt_eq_kind, left_shift_kind, right_shift_kind, zero_fill_right_shift_kind, add_kind, sub_kind, mul_kind, div_kind, mod_kind, bit_or_kind, bit_xor_kind, bit_and_kind, exp_kind, logical_or_kind, logical_and_kind, nullish_coalescing_kind, in_kind, instanceof_kind, assign_kind, add_assign_kind, sub_assign_kind, mul_assign_kind, div_assign_kind, mod_assign_kind, left_shift_assign_kind, right_shift_assign_kind, zero_fill_right_shift_assign_kind, bit_or_assign_kind, bit_xor_assign_kind, bit_and_assign_kind, exp_assign_kind, and_assign_kind, or_assign_kind, nullish_assign_kind}
use Rattle.base_token.specs.declared.operator.BinOpToken.{BinOpToken}
use Rattle.base_token.specs.declared.operator.BinOpToken.TheVariants as token
use Rattle.base_token.specs.declared.operator.BinaryOp.{BinaryOp}
use Rattle.base_token.specs.declared.operator.BinaryOp.TheVariants as op
use Rattle.base_token.specs.declared.operator.AssignOp.{AssignOp}
use Rattle.base_token.specs.declared.operator.AssignOp.TheVariants.{Assign, AddAssign, SubAssign, MulAssign, DivAssign, ModAssign, LShiftAssign, RShiftAssign, ZeroFillRShiftAssign, BitOrAssign, BitXorAssign, BitAndAssign, ExpAssign, AndAssign, OrAssign, NullishAssign}

-- the kind of a punctuator that is a binary operator
abbrev pub bin_op_kind : BinOpToken → ℕ
bin_op_kind token.EqEq = eq_eq_kind
bin_op_kind token.NotEq = not_eq_kind
bin_op_kind token.EqEqEq = eq_eq_eq_kind
bin_op_kind token.NotEqEq = not_eq_eq_kind
bin_op_kind token.Lt = lt_kind
bin_op_kind token.LtEq = lt_eq_kind
bin_op_kind token.Gt = gt_kind
bin_op_kind token.GtEq = gt_eq_kind
bin_op_kind token.LShift = left_shift_kind
bin_op_kind token.RShift = right_shift_kind
bin_op_kind token.ZeroFillRShift = zero_fill_right_shift_kind
bin_op_kind token.Add = add_kind
bin_op_kind token.Sub = sub_kind
bin_op_kind token.Mul = mul_kind
bin_op_kind token.Div = div_kind
bin_op_kind token.Mod = mod_kind
bin_op_kind token.BitOr = bit_or_kind
bin_op_kind token.BitXor = bit_xor_kind
bin_op_kind token.BitAnd = bit_and_kind
bin_op_kind token.Exp = exp_kind
bin_op_kind token.LogicalOr = logical_or_kind
bin_op_kind token.LogicalAnd = logical_and_kind
bin_op_kind token.NullishCoalescing = nullish_coalescing_kind

-- the kind of a binary operator's token
abbrev pub binary_op_kind : BinaryOp → ℕ
binary_op_kind op.EqEq = eq_eq_kind
binary_op_kind op.NotEq = not_eq_kind
binary_op_kind op.EqEqEq = eq_eq_eq_kind
binary_op_kind op.NotEqEq = not_eq_eq_kind
binary_op_kind op.Lt = lt_kind
binary_op_kind op.LtEq = lt_eq_kind
binary_op_kind op.Gt = gt_kind
binary_op_kind op.GtEq = gt_eq_kind
binary_op_kind op.LShift = left_shift_kind
binary_op_kind op.RShift = right_shift_kind
binary_op_kind op.ZeroFillRShift = zero_fill_right_shift_kind
binary_op_kind op.Add = add_kind
binary_op_kind op.Sub = sub_kind
binary_op_kind op.Mul = mul_kind
binary_op_kind op.Div = div_kind
binary_op_kind op.Mod = mod_kind
binary_op_kind op.BitOr = bit_or_kind
binary_op_kind op.BitXor = bit_xor_kind
binary_op_kind op.BitAnd = bit_and_kind
binary_op_kind op.LogicalOr = logical_or_kind
binary_op_kind op.LogicalAnd = logical_and_kind
binary_op_kind op.In = in_kind
binary_op_kind op.InstanceOf = instanceof_kind
binary_op_kind op.Exp = exp_kind
binary_op_kind op.NullishCoalescing = nullish_coalescing_kind

-- the kind of an operator that assigns
abbrev pub assign_op_kind : AssignOp → ℕ
assign_op_kind Assign = assign_kind
assign_op_kind AddAssign = add_assign_kind
assign_op_kind SubAssign = sub_assign_kind
assign_op_kind MulAssign = mul_assign_kind
assign_op_kind DivAssign = div_assign_kind
assign_op_kind ModAssign = mod_assign_kind
assign_op_kind LShiftAssign = left_shift_assign_kind
assign_op_kind RShiftAssign = right_shift_assign_kind
assign_op_kind ZeroFillRShiftAssign = zero_fill_right_shift_assign_kind
assign_op_kind BitOrAssign = bit_or_assign_kind
assign_op_kind BitXorAssign = bit_xor_assign_kind
assign_op_kind BitAndAssign = bit_and_assign_kind
assign_op_kind ExpAssign = exp_assign_kind
assign_op_kind AndAssign = and_assign_kind
assign_op_kind OrAssign = or_assign_kind
assign_op_kind NullishAssign = nullish_assign_kind
