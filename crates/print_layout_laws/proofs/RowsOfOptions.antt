-- Programs by other settings.
use Rattle.std.proofs.Common.{[], ◌++◌, codes, refl}
use Rattle.print_layout_laws.proofs.Rows.{Hold, laid_out, in_ascii, in_page, keeping_last, asserting}

rows_1 : Hold (
    in_ascii (codes "'a'") (codes "'a';\n") (codes "\"a\"") ++
    in_ascii (codes "a`é`") (codes "a`é`;\n") (codes "a`é`") ++
    in_ascii (codes "`a`") (codes "`a`;\n") (codes "`a`") ++
    in_page (codes "'</script>'") (codes "'</script>';\n") (codes "\"<\\/script>\"") ++
    in_page (codes "'<!--'") (codes "'<!--';\n") (codes "\"\\x3c!--\"") ++
    in_page (codes "'-->'") (codes "'-->';\n") (codes "\"--\\x3e\"") ++
    in_page (codes "'</SCRIPT '") (codes "'</SCRIPT ';\n") (codes "\"<\\/SCRIPT \"") ++
    in_page (codes "'</scripty'") (codes "'</scripty';\n") (codes "\"</scripty\"") ++
    in_page (codes "'</script'") (codes "'</script';\n") (codes "\"</script\"") ++
    keeping_last (codes "a") (codes "a;\n") (codes "a;") ++
    keeping_last (codes "a;b") (codes "a;\nb;\n") (codes "a;b;") ++
    keeping_last (codes "{a}") (codes "{\n    a;\n}") (codes "{a}") ++
    keeping_last (codes "if(a)b") (codes "if (a) b;\n") (codes "if(a)b;") ++
    keeping_last (codes "var a") (codes "var a;\n") (codes "var a;") ++
    keeping_last (codes "do;while(a)") (codes "do ;\nwhile (a);\n") (codes "do;while(a);") ++
    asserting (codes "import a from'b'with{type:'json'}") (codes "import a from 'b' assert {\n    type: 'json'\n};\n") (codes "import a from\"b\"assert{type:\"json\"}") ++
    [])
unfolding laid_out
rows_1 = refl

rows_2 : Hold (
    asserting (codes "import'a'with{}") (codes "import 'a' assert {};\n") (codes "import\"a\"assert{}") ++
    asserting (codes "export*from'a'with{b:'c'}") (codes "export * from 'a' assert {\n    b: 'c'\n};\n") (codes "export*from\"a\"assert{b:\"c\"}") ++
    asserting (codes "export{a}from'b'with{c:'d'}") (codes "export { a } from 'b' assert {\n    c: 'd'\n};\n") (codes "export{a}from\"b\"assert{c:\"d\"}") ++
    asserting (codes "import a from'b'") (codes "import a from 'b';\n") (codes "import a from\"b\"") ++
    [])
unfolding laid_out
rows_2 = refl
