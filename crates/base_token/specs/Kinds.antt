-- A token's kind as a number, so that grammar, reader and lexer compare kinds by arithmetic.
use Rattle.std.specs.Prelude.{ℕ}

-- no token: the end of a text
abbrev pub end_kind : ℕ
end_kind = 0

-- punctuators, literals and faults
abbrev pub arrow_kind : ℕ
arrow_kind = 1

abbrev pub hash_kind : ℕ
hash_kind = 2

abbrev pub at_kind : ℕ
at_kind = 3

abbrev pub dot_kind : ℕ
dot_kind = 4

abbrev pub dot_dot_dot_kind : ℕ
dot_dot_dot_kind = 5

abbrev pub bang_kind : ℕ
bang_kind = 6

abbrev pub left_paren_kind : ℕ
left_paren_kind = 7

abbrev pub right_paren_kind : ℕ
right_paren_kind = 8

abbrev pub left_bracket_kind : ℕ
left_bracket_kind = 9

abbrev pub right_bracket_kind : ℕ
right_bracket_kind = 10

abbrev pub left_brace_kind : ℕ
left_brace_kind = 11

abbrev pub right_brace_kind : ℕ
right_brace_kind = 12

abbrev pub semicolon_kind : ℕ
semicolon_kind = 13

abbrev pub comma_kind : ℕ
comma_kind = 14

abbrev pub back_quote_kind : ℕ
back_quote_kind = 15

abbrev pub template_kind : ℕ
template_kind = 16

abbrev pub colon_kind : ℕ
colon_kind = 17

abbrev pub dollar_brace_kind : ℕ
dollar_brace_kind = 18

abbrev pub question_mark_kind : ℕ
question_mark_kind = 19

abbrev pub plus_plus_kind : ℕ
plus_plus_kind = 20

abbrev pub minus_minus_kind : ℕ
minus_minus_kind = 21

abbrev pub tilde_kind : ℕ
tilde_kind = 22

abbrev pub str_kind : ℕ
str_kind = 23

abbrev pub regex_kind : ℕ
regex_kind = 24

abbrev pub num_kind : ℕ
num_kind = 25

abbrev pub big_int_kind : ℕ
big_int_kind = 26

abbrev pub shebang_kind : ℕ
shebang_kind = 27

abbrev pub error_kind : ℕ
error_kind = 28

-- binary operators
abbrev pub eq_eq_kind : ℕ
eq_eq_kind = 30

abbrev pub not_eq_kind : ℕ
not_eq_kind = 31

abbrev pub eq_eq_eq_kind : ℕ
eq_eq_eq_kind = 32

abbrev pub not_eq_eq_kind : ℕ
not_eq_eq_kind = 33

abbrev pub lt_kind : ℕ
lt_kind = 34

abbrev pub lt_eq_kind : ℕ
lt_eq_kind = 35

abbrev pub gt_kind : ℕ
gt_kind = 36

abbrev pub gt_eq_kind : ℕ
gt_eq_kind = 37

abbrev pub left_shift_kind : ℕ
left_shift_kind = 38

abbrev pub right_shift_kind : ℕ
right_shift_kind = 39

abbrev pub zero_fill_right_shift_kind : ℕ
zero_fill_right_shift_kind = 40

abbrev pub add_kind : ℕ
add_kind = 41

abbrev pub sub_kind : ℕ
sub_kind = 42

abbrev pub mul_kind : ℕ
mul_kind = 43

abbrev pub div_kind : ℕ
div_kind = 44

abbrev pub mod_kind : ℕ
mod_kind = 45

abbrev pub bit_or_kind : ℕ
bit_or_kind = 46

abbrev pub bit_xor_kind : ℕ
bit_xor_kind = 47

abbrev pub bit_and_kind : ℕ
bit_and_kind = 48

abbrev pub exp_kind : ℕ
exp_kind = 49

abbrev pub logical_or_kind : ℕ
logical_or_kind = 50

abbrev pub logical_and_kind : ℕ
logical_and_kind = 51

abbrev pub nullish_coalescing_kind : ℕ
nullish_coalescing_kind = 52

-- assignment operators
abbrev pub assign_kind : ℕ
assign_kind = 60

abbrev pub add_assign_kind : ℕ
add_assign_kind = 61

abbrev pub sub_assign_kind : ℕ
sub_assign_kind = 62

abbrev pub mul_assign_kind : ℕ
mul_assign_kind = 63

abbrev pub div_assign_kind : ℕ
div_assign_kind = 64

abbrev pub mod_assign_kind : ℕ
mod_assign_kind = 65

abbrev pub left_shift_assign_kind : ℕ
left_shift_assign_kind = 66

abbrev pub right_shift_assign_kind : ℕ
right_shift_assign_kind = 67

abbrev pub zero_fill_right_shift_assign_kind : ℕ
zero_fill_right_shift_assign_kind = 68

abbrev pub bit_or_assign_kind : ℕ
bit_or_assign_kind = 69

abbrev pub bit_xor_assign_kind : ℕ
bit_xor_assign_kind = 70

abbrev pub bit_and_assign_kind : ℕ
bit_and_assign_kind = 71

abbrev pub exp_assign_kind : ℕ
exp_assign_kind = 72

abbrev pub and_assign_kind : ℕ
and_assign_kind = 73

abbrev pub or_assign_kind : ℕ
or_assign_kind = 74

abbrev pub nullish_assign_kind : ℕ
nullish_assign_kind = 75

-- literal words
abbrev pub null_kind : ℕ
null_kind = 80

abbrev pub true_kind : ℕ
true_kind = 81

abbrev pub false_kind : ℕ
false_kind = 82

-- keywords
abbrev pub await_kind : ℕ
await_kind = 100

abbrev pub break_kind : ℕ
break_kind = 101

abbrev pub case_kind : ℕ
case_kind = 102

abbrev pub catch_kind : ℕ
catch_kind = 103

abbrev pub continue_kind : ℕ
continue_kind = 104

abbrev pub debugger_kind : ℕ
debugger_kind = 105

abbrev pub default_kind : ℕ
default_kind = 106

abbrev pub do_kind : ℕ
do_kind = 107

abbrev pub else_kind : ℕ
else_kind = 108

abbrev pub finally_kind : ℕ
finally_kind = 109

abbrev pub for_kind : ℕ
for_kind = 110

abbrev pub function_kind : ℕ
function_kind = 111

abbrev pub if_kind : ℕ
if_kind = 112

abbrev pub return_kind : ℕ
return_kind = 113

abbrev pub switch_kind : ℕ
switch_kind = 114

abbrev pub throw_kind : ℕ
throw_kind = 115

abbrev pub try_kind : ℕ
try_kind = 116

abbrev pub var_kind : ℕ
var_kind = 117

abbrev pub let_kind : ℕ
let_kind = 118

abbrev pub const_kind : ℕ
const_kind = 119

abbrev pub while_kind : ℕ
while_kind = 120

abbrev pub with_kind : ℕ
with_kind = 121

abbrev pub new_kind : ℕ
new_kind = 122

abbrev pub this_kind : ℕ
this_kind = 123

abbrev pub super_kind : ℕ
super_kind = 124

abbrev pub class_kind : ℕ
class_kind = 125

abbrev pub extends_kind : ℕ
extends_kind = 126

abbrev pub export_kind : ℕ
export_kind = 127

abbrev pub import_kind : ℕ
import_kind = 128

abbrev pub yield_kind : ℕ
yield_kind = 129

abbrev pub in_kind : ℕ
in_kind = 130

abbrev pub instanceof_kind : ℕ
instanceof_kind = 131

abbrev pub typeof_kind : ℕ
typeof_kind = 132

abbrev pub void_kind : ℕ
void_kind = 133

abbrev pub delete_kind : ℕ
delete_kind = 134

-- known names
abbrev pub accessor_kind : ℕ
accessor_kind = 140

abbrev pub as_kind : ℕ
as_kind = 141

abbrev pub assert_kind : ℕ
assert_kind = 142

abbrev pub async_kind : ℕ
async_kind = 143

abbrev pub enum_kind : ℕ
enum_kind = 144

abbrev pub from_kind : ℕ
from_kind = 145

abbrev pub get_kind : ℕ
get_kind = 146

abbrev pub implements_kind : ℕ
implements_kind = 147

abbrev pub interface_kind : ℕ
interface_kind = 148

abbrev pub meta_kind : ℕ
meta_kind = 149

abbrev pub of_kind : ℕ
of_kind = 150

abbrev pub package_kind : ℕ
package_kind = 151

abbrev pub private_kind : ℕ
private_kind = 152

abbrev pub protected_kind : ℕ
protected_kind = 153

abbrev pub public_kind : ℕ
public_kind = 154

abbrev pub set_kind : ℕ
set_kind = 155

abbrev pub static_kind : ℕ
static_kind = 156

abbrev pub target_kind : ℕ
target_kind = 157

abbrev pub undefined_kind : ℕ
undefined_kind = 158

abbrev pub using_kind : ℕ
using_kind = 159

-- any other name
abbrev pub name_kind : ℕ
name_kind = 160
