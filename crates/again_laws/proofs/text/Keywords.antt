-- The words that a layout writes.
use Rattle.std.proofs.Common.{refl}
use Rattle.std.specs.Prelude.{codes}
use Rattle.unicode_ident.proofs.Computing.{unicode_ident}
use Rattle.lex_token.specs.declared.goal.LexicalGoal.TheVariants.{Div}
use Rattle.again_laws.proofs.tokens.PlainWords.{are_parts, is_plain_word}
use Rattle.again_laws.specs.Tiling.Categories.{Word}
use Rattle.again_laws.specs.Tiling.Goes.{Fits}
use Rattle.again_laws.proofs.text.Words.{keyword}

pub accessor_word : Fits Div (codes "accessor") Word
unfolding is_plain_word are_parts unicode_ident
accessor_word = keyword (codes "accessor") refl

pub as_word : Fits Div (codes "as") Word
unfolding is_plain_word are_parts unicode_ident
as_word = keyword (codes "as") refl

pub assert_word : Fits Div (codes "assert") Word
unfolding is_plain_word are_parts unicode_ident
assert_word = keyword (codes "assert") refl

pub async_word : Fits Div (codes "async") Word
unfolding is_plain_word are_parts unicode_ident
async_word = keyword (codes "async") refl

pub await_word : Fits Div (codes "await") Word
unfolding is_plain_word are_parts unicode_ident
await_word = keyword (codes "await") refl

pub break_word : Fits Div (codes "break") Word
unfolding is_plain_word are_parts unicode_ident
break_word = keyword (codes "break") refl

pub case_word : Fits Div (codes "case") Word
unfolding is_plain_word are_parts unicode_ident
case_word = keyword (codes "case") refl

pub catch_word : Fits Div (codes "catch") Word
unfolding is_plain_word are_parts unicode_ident
catch_word = keyword (codes "catch") refl

pub class_word : Fits Div (codes "class") Word
unfolding is_plain_word are_parts unicode_ident
class_word = keyword (codes "class") refl

pub const_word : Fits Div (codes "const") Word
unfolding is_plain_word are_parts unicode_ident
const_word = keyword (codes "const") refl

pub constructor_word : Fits Div (codes "constructor") Word
unfolding is_plain_word are_parts unicode_ident
constructor_word = keyword (codes "constructor") refl

pub continue_word : Fits Div (codes "continue") Word
unfolding is_plain_word are_parts unicode_ident
continue_word = keyword (codes "continue") refl

pub debugger_word : Fits Div (codes "debugger") Word
unfolding is_plain_word are_parts unicode_ident
debugger_word = keyword (codes "debugger") refl

pub default_word : Fits Div (codes "default") Word
unfolding is_plain_word are_parts unicode_ident
default_word = keyword (codes "default") refl

pub delete_word : Fits Div (codes "delete") Word
unfolding is_plain_word are_parts unicode_ident
delete_word = keyword (codes "delete") refl

pub do_word : Fits Div (codes "do") Word
unfolding is_plain_word are_parts unicode_ident
do_word = keyword (codes "do") refl

pub else_word : Fits Div (codes "else") Word
unfolding is_plain_word are_parts unicode_ident
else_word = keyword (codes "else") refl

pub export_word : Fits Div (codes "export") Word
unfolding is_plain_word are_parts unicode_ident
export_word = keyword (codes "export") refl

pub extends_word : Fits Div (codes "extends") Word
unfolding is_plain_word are_parts unicode_ident
extends_word = keyword (codes "extends") refl

pub false_word : Fits Div (codes "false") Word
unfolding is_plain_word are_parts unicode_ident
false_word = keyword (codes "false") refl

pub finally_word : Fits Div (codes "finally") Word
unfolding is_plain_word are_parts unicode_ident
finally_word = keyword (codes "finally") refl

pub for_word : Fits Div (codes "for") Word
unfolding is_plain_word are_parts unicode_ident
for_word = keyword (codes "for") refl

pub from_word : Fits Div (codes "from") Word
unfolding is_plain_word are_parts unicode_ident
from_word = keyword (codes "from") refl

pub function_word : Fits Div (codes "function") Word
unfolding is_plain_word are_parts unicode_ident
function_word = keyword (codes "function") refl

pub get_word : Fits Div (codes "get") Word
unfolding is_plain_word are_parts unicode_ident
get_word = keyword (codes "get") refl

pub if_word : Fits Div (codes "if") Word
unfolding is_plain_word are_parts unicode_ident
if_word = keyword (codes "if") refl

pub import_word : Fits Div (codes "import") Word
unfolding is_plain_word are_parts unicode_ident
import_word = keyword (codes "import") refl

pub in_word : Fits Div (codes "in") Word
unfolding is_plain_word are_parts unicode_ident
in_word = keyword (codes "in") refl

pub instanceof_word : Fits Div (codes "instanceof") Word
unfolding is_plain_word are_parts unicode_ident
instanceof_word = keyword (codes "instanceof") refl

pub let_word : Fits Div (codes "let") Word
unfolding is_plain_word are_parts unicode_ident
let_word = keyword (codes "let") refl

pub meta_word : Fits Div (codes "meta") Word
unfolding is_plain_word are_parts unicode_ident
meta_word = keyword (codes "meta") refl

pub new_word : Fits Div (codes "new") Word
unfolding is_plain_word are_parts unicode_ident
new_word = keyword (codes "new") refl

pub null_word : Fits Div (codes "null") Word
unfolding is_plain_word are_parts unicode_ident
null_word = keyword (codes "null") refl

pub of_word : Fits Div (codes "of") Word
unfolding is_plain_word are_parts unicode_ident
of_word = keyword (codes "of") refl

pub return_word : Fits Div (codes "return") Word
unfolding is_plain_word are_parts unicode_ident
return_word = keyword (codes "return") refl

pub set_word : Fits Div (codes "set") Word
unfolding is_plain_word are_parts unicode_ident
set_word = keyword (codes "set") refl

pub static_word : Fits Div (codes "static") Word
unfolding is_plain_word are_parts unicode_ident
static_word = keyword (codes "static") refl

pub super_word : Fits Div (codes "super") Word
unfolding is_plain_word are_parts unicode_ident
super_word = keyword (codes "super") refl

pub switch_word : Fits Div (codes "switch") Word
unfolding is_plain_word are_parts unicode_ident
switch_word = keyword (codes "switch") refl

pub target_word : Fits Div (codes "target") Word
unfolding is_plain_word are_parts unicode_ident
target_word = keyword (codes "target") refl

pub this_word : Fits Div (codes "this") Word
unfolding is_plain_word are_parts unicode_ident
this_word = keyword (codes "this") refl

pub throw_word : Fits Div (codes "throw") Word
unfolding is_plain_word are_parts unicode_ident
throw_word = keyword (codes "throw") refl

pub true_word : Fits Div (codes "true") Word
unfolding is_plain_word are_parts unicode_ident
true_word = keyword (codes "true") refl

pub try_word : Fits Div (codes "try") Word
unfolding is_plain_word are_parts unicode_ident
try_word = keyword (codes "try") refl

pub typeof_word : Fits Div (codes "typeof") Word
unfolding is_plain_word are_parts unicode_ident
typeof_word = keyword (codes "typeof") refl

pub using_word : Fits Div (codes "using") Word
unfolding is_plain_word are_parts unicode_ident
using_word = keyword (codes "using") refl

pub var_word : Fits Div (codes "var") Word
unfolding is_plain_word are_parts unicode_ident
var_word = keyword (codes "var") refl

pub void_word : Fits Div (codes "void") Word
unfolding is_plain_word are_parts unicode_ident
void_word = keyword (codes "void") refl

pub while_word : Fits Div (codes "while") Word
unfolding is_plain_word are_parts unicode_ident
while_word = keyword (codes "while") refl

pub with_word : Fits Div (codes "with") Word
unfolding is_plain_word are_parts unicode_ident
with_word = keyword (codes "with") refl

pub yield_word : Fits Div (codes "yield") Word
unfolding is_plain_word are_parts unicode_ident
yield_word = keyword (codes "yield") refl
