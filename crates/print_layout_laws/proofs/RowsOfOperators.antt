-- Operators.
use Rattle.std.proofs.Common.{[], ◌++◌, codes, refl}
use Rattle.print_layout_laws.proofs.Rows.{Hold, laid_out, script, script_once}

rows_1 : Hold (
    script (codes "a+b") (codes "a + b;\n") (codes "a+b") ++
    script (codes "a+b-c") (codes "a + b - c;\n") (codes "a+b-c") ++
    script (codes "a*b+c") (codes "a * b + c;\n") (codes "a*b+c") ++
    script (codes "a**b**c") (codes "a ** b ** c;\n") (codes "a**b**c") ++
    script (codes "a&&b||c") (codes "a && b || c;\n") (codes "a&&b||c") ++
    script (codes "a??b") (codes "a ?? b;\n") (codes "a??b") ++
    script (codes "a|b&c^d") (codes "a | b & c ^ d;\n") (codes "a|b&c^d") ++
    script (codes "a==b") (codes "a == b;\n") (codes "a==b") ++
    script (codes "a!==b") (codes "a !== b;\n") (codes "a!==b") ++
    script (codes "a+ +b") (codes "a + +b;\n") (codes "a+ +b") ++
    script (codes "a+ ++b") (codes "a + ++b;\n") (codes "a+ ++b") ++
    script (codes "a+-b") (codes "a + -b;\n") (codes "a+-b") ++
    script (codes "a- -b") (codes "a - -b;\n") (codes "a- -b") ++
    script (codes "a- --b") (codes "a - --b;\n") (codes "a- --b") ++
    script (codes "a-+b") (codes "a - +b;\n") (codes "a-+b") ++
    script (codes "a- -b*c") (codes "a - -b * c;\n") (codes "a- -b*c") ++
    [])
unfolding laid_out
rows_1 = refl

rows_2 : Hold (
    script (codes "a+ +b*c") (codes "a + +b * c;\n") (codes "a+ +b*c") ++
    script (codes "x++ + ++y") (codes "x++ + ++y;\n") (codes "x+++ ++y") ++
    script (codes "a-- - b") (codes "a-- - b;\n") (codes "a---b") ++
    script (codes "a-- >b") (codes "a-- > b;\n") (codes "a-- >b") ++
    script (codes "a-- >=b") (codes "a-- >= b;\n") (codes "a-- >=b") ++
    script (codes "a-- >>b") (codes "a-- >> b;\n") (codes "a-- >>b") ++
    script (codes "a-- >>>b") (codes "a-- >>> b;\n") (codes "a-- >>>b") ++
    script (codes "a-- <b") (codes "a-- < b;\n") (codes "a--<b") ++
    script (codes "a< !--b") (codes "a < !--b;\n") (codes "a< !--b") ++
    script (codes "a<<!--b") (codes "a << !--b;\n") (codes "a<< !--b") ++
    script (codes "a<!b--") (codes "a < !b--;\n") (codes "a< !b--") ++
    script (codes "a<<!b--") (codes "a << !b--;\n") (codes "a<< !b--") ++
    script (codes "a<!b++") (codes "a < !b++;\n") (codes "a<!b++") ++
    script (codes "a<!b") (codes "a < !b;\n") (codes "a<!b") ++
    script (codes "a< !--b && c-- >d") (codes "a < !--b && c-- > d;\n") (codes "a< !--b&&c-- >d") ++
    script (codes "a in b") (codes "a in b;\n") (codes "a in b") ++
    script (codes "'a'in b") (codes "'a' in b;\n") (codes "\"a\"in b") ++
    script (codes "[a]in b") (codes "[\n    a\n] in b;\n") (codes "[a]in b") ++
    script (codes "(a)in(b)") (codes "(a) in (b);\n") (codes "(a)in(b)") ++
    [])
unfolding laid_out
rows_2 = refl

rows_3 : Hold (
    script (codes "a[b]in c") (codes "a[b] in c;\n") (codes "a[b]in c") ++
    script (codes "a.b in c") (codes "a.b in c;\n") (codes "a.b in c") ++
    script (codes "a in[b]") (codes "a in [\n    b\n];\n") (codes "a in[b]") ++
    script (codes "a instanceof b") (codes "a instanceof b;\n") (codes "a instanceof b") ++
    script (codes "a instanceof(b)") (codes "a instanceof (b);\n") (codes "a instanceof(b)") ++
    script (codes "a in-b") (codes "a in -b;\n") (codes "a in-b") ++
    script (codes "a / /b/") (codes "a / /b/;\n") (codes "a/ /b/") ++
    script (codes "a / /b/.c") (codes "a / /b/.c;\n") (codes "a/ /b/.c") ++
    script_once (codes "a / /b/ / c") (codes "a / /b/ / c;\n") (codes "a/ /b//c") ++
    script_once (codes "a / b") (codes "a / b;\n") (codes "a/b") ++
    script (codes "!a in b") (codes "!a in b;\n") (codes "!a in b") ++
    script (codes "a,b in c") (codes "a, b in c;\n") (codes "a,b in c") ++
    [])
unfolding laid_out
rows_3 = refl

rows_4 : Hold (
    script (codes "a%b") (codes "a % b;\n") (codes "a%b") ++
    script (codes "a!=b") (codes "a != b;\n") (codes "a!=b") ++
    script (codes "a===b") (codes "a === b;\n") (codes "a===b") ++
    script (codes "a<=b") (codes "a <= b;\n") (codes "a<=b") ++
    script (codes "a>b") (codes "a > b;\n") (codes "a>b") ++
    script (codes "a>>b") (codes "a >> b;\n") (codes "a>>b") ++
    script (codes "a>>>b") (codes "a >>> b;\n") (codes "a>>>b") ++
    script (codes "a<<b") (codes "a << b;\n") (codes "a<<b") ++
    script (codes "a||b") (codes "a || b;\n") (codes "a||b") ++
    script (codes "a-=b") (codes "a -= b;\n") (codes "a-=b") ++
    script (codes "a*=b") (codes "a *= b;\n") (codes "a*=b") ++
    script (codes "a%=b") (codes "a %= b;\n") (codes "a%=b") ++
    script (codes "a<<=b") (codes "a <<= b;\n") (codes "a<<=b") ++
    script (codes "a>>=b") (codes "a >>= b;\n") (codes "a>>=b") ++
    script (codes "a>>>=b") (codes "a >>>= b;\n") (codes "a>>>=b") ++
    script (codes "a&=b") (codes "a &= b;\n") (codes "a&=b") ++
    [])
unfolding laid_out
rows_4 = refl

rows_5 : Hold (
    script (codes "a|=b") (codes "a |= b;\n") (codes "a|=b") ++
    script (codes "a^=b") (codes "a ^= b;\n") (codes "a^=b") ++
    script (codes "a&&=b") (codes "a &&= b;\n") (codes "a&&=b") ++
    script (codes "a||=b") (codes "a ||= b;\n") (codes "a||=b") ++
    script (codes "a+b+c+d+e") (codes "a + b + c + d + e;\n") (codes "a+b+c+d+e") ++
    script (codes "a+(b+c)") (codes "a + (b + c);\n") (codes "a+(b+c)") ++
    script (codes "a+(+b)") (codes "a + (+b);\n") (codes "a+(+b)") ++
    script (codes "a+ +b+ +c") (codes "a + +b + +c;\n") (codes "a+ +b+ +c") ++
    script (codes "a- -b- -c") (codes "a - -b - -c;\n") (codes "a- -b- -c") ++
    script (codes "a+-+b") (codes "a + -+b;\n") (codes "a+-+b") ++
    script (codes "-+-a") (codes "-+-a;\n") (codes "-+-a") ++
    script (codes "a+ +b++") (codes "a + +b++;\n") (codes "a+ +b++") ++
    script (codes "a++-b") (codes "a++ - b;\n") (codes "a++-b") ++
    script (codes "a-- in b") (codes "a-- in b;\n") (codes "a-- in b") ++
    script (codes "\"a\"instanceof b") (codes "\"a\" instanceof b;\n") (codes "\"a\"instanceof b") ++
    script (codes "a in\"b\"") (codes "a in \"b\";\n") (codes "a in\"b\"") ++
    [])
unfolding laid_out
rows_5 = refl

rows_6 : Hold (
    script (codes "a in{}") (codes "a in {};\n") (codes "a in{}") ++
    script (codes "a in!b") (codes "a in !b;\n") (codes "a in!b") ++
    script (codes "a in function(){}") (codes "a in function() {};\n") (codes "a in function(){}") ++
    script (codes "a in b in c") (codes "a in b in c;\n") (codes "a in b in c") ++
    script (codes "a+b in c+d") (codes "a + b in c + d;\n") (codes "a+b in c+d") ++
    script (codes "!(a in b)") (codes "!(a in b);\n") (codes "!(a in b)") ++
    script (codes "typeof a.b") (codes "typeof a.b;\n") (codes "typeof a.b") ++
    script (codes "typeof[a]") (codes "typeof [\n    a\n];\n") (codes "typeof[a]") ++
    script (codes "typeof'a'") (codes "typeof 'a';\n") (codes "typeof\"a\"") ++
    script (codes "typeof`a`") (codes "typeof `a`;\n") (codes "typeof`a`") ++
    script (codes "typeof class{}") (codes "typeof class {\n};\n") (codes "typeof class{}") ++
    script (codes "delete a[b]") (codes "delete a[b];\n") (codes "delete a[b]") ++
    script (codes "void-a") (codes "void -a;\n") (codes "void-a") ++
    [])
unfolding laid_out
rows_6 = refl
