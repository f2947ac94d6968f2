-- Strictness.
use Rattle.std.proofs.Common.{[], ◌∷◌, codes, refl}
use Rattle.grammar_spec.proofs.reader.Rows.{Hold, opened, module_faults, no_script, script_faults}

rows_1 : Hold (
    script_faults (codes "'use strict'\n010") (3 ∷ 14 ∷ 17 ∷ []) ∷
    script_faults (codes "function f(){'use strict'}010") ([]) ∷
    script_faults (codes "'use strict';with(a);") (5 ∷ 14 ∷ 22 ∷ []) ∷
    module_faults (codes "with(a);") (5 ∷ 1 ∷ 9 ∷ []) ∷
    script_faults (codes "'a';'use strict';010") (3 ∷ 18 ∷ 21 ∷ []) ∷
    script_faults (codes "('use strict');010") ([]) ∷
    script_faults (codes "'use\\x20strict';010") ([]) ∷
    script_faults (codes "'use strict';08") (4 ∷ 14 ∷ 16 ∷ []) ∷
    script_faults (codes "010;08;'\\01'") ([]) ∷
    script_faults (codes "'use strict';'\\01'") (3 ∷ 14 ∷ 19 ∷ []) ∷
    script_faults (codes "'use strict';'\\8'") (3 ∷ 14 ∷ 18 ∷ []) ∷
    script_faults (codes "'use strict';'\\0'") ([]) ∷ [])
unfolding opened
rows_1 = refl

rows_2 : Hold (
    script_faults (codes "'use strict';'\\08'") (3 ∷ 14 ∷ 19 ∷ []) ∷
    script_faults (codes "'\\01';'use strict'") ([]) ∷
    script_faults (codes "'use strict';let") (1 ∷ 14 ∷ 17 ∷ []) ∷
    script_faults (codes "'use strict';var yield") (1 ∷ 18 ∷ 23 ∷ []) ∷
    script_faults (codes "'use strict';static=1") (1 ∷ 14 ∷ 20 ∷ []) ∷
    script_faults (codes "'use strict';public:a") (1 ∷ 14 ∷ 20 ∷ []) ∷
    script_faults (codes "static=1;let=2") ([]) ∷
    script_faults (codes "'use strict';eval=1") (2 ∷ 14 ∷ 18 ∷ []) ∷
    script_faults (codes "'use strict';arguments++") (2 ∷ 14 ∷ 23 ∷ []) ∷
    script_faults (codes "'use strict';(eval)=1") (2 ∷ 15 ∷ 19 ∷ []) ∷
    script_faults (codes "'use strict';[eval]=a") (2 ∷ 15 ∷ 19 ∷ []) ∷
    script_faults (codes "'use strict';var eval") (2 ∷ 18 ∷ 22 ∷ []) ∷ [])
unfolding opened
rows_2 = refl

rows_3 : Hold (
    script_faults (codes "'use strict';function eval(){}") (2 ∷ 23 ∷ 27 ∷ []) ∷
    script_faults (codes "function eval(){'use strict'}") ([]) ∷
    script_faults (codes "'use strict';try{}catch(eval){}") (2 ∷ 25 ∷ 29 ∷ []) ∷
    script_faults (codes "eval=1;eval") ([]) ∷
    script_faults (codes "'use strict';eval()") ([]) ∷
    module_faults (codes "import eval from'a'") (2 ∷ 8 ∷ 12 ∷ []) ∷
    module_faults (codes "import{eval}from'a'") (2 ∷ 8 ∷ 12 ∷ []) ∷
    script_faults (codes "class A extends(a=010){}") (3 ∷ 19 ∷ 22 ∷ []) ∷
    script_faults (codes "class eval{}") (2 ∷ 7 ∷ 11 ∷ []) ∷
    script_faults (codes "class A{a(){010}}") (3 ∷ 13 ∷ 16 ∷ []) ∷
    script_faults (codes "({eval})=>{'use strict'}") (17 ∷ 12 ∷ 24 ∷ []) ∷
    script_faults (codes "function f(){'use strict';010}") (3 ∷ 27 ∷ 30 ∷ []) ∷ [])
unfolding opened
rows_3 = refl

rows_4 : Hold (
    no_script (codes "function f(){'use strict';@let}") ∷
    no_script (codes "(a)=>{'use strict';@let}") ∷ [])
unfolding opened
rows_4 = refl
