-- What stands before the `use strict` that turns it strict (11.2.2), and functions with labels as bodies (14.6.1, B.3.1).
use Rattle.std.proofs.Common.{[], ◌∷◌, codes, refl}
use Rattle.grammar_spec.proofs.reader.Rows.{Hold}
use Rattle.judge_names_spec.specs.Faults.{late_reserved, late_evil, late_octal, labelled_function}
use Rattle.judge_names_spec.proofs.Rows.{opened_rows, good_script, script_has}

rows_1 : Hold (
    script_has (codes "function eval(){'use strict'}") ((late_evil, 10) ∷ []) ∷
    script_has (codes "function static(){'use strict'}") ((late_reserved, 10) ∷ []) ∷
    script_has (codes "(function arguments(){'use strict'})") ((late_evil, 11) ∷ []) ∷
    script_has (codes "function f(eval,yield){'use strict'}") ((late_evil, 12) ∷ (late_reserved, 17) ∷ []) ∷ [])
unfolding opened_rows
rows_1 = refl

rows_2 : Hold (
    good_script (codes "function eval(arguments,yield){'a'}") ∷
    good_script (codes "function static(let){return'use strict'}") ∷
    script_has (codes "eval=>{'use strict'}") ((late_evil, 1) ∷ []) ∷
    script_has (codes "({f(let){'use strict'},set f(eval){'use strict'}})") ((late_reserved, 5) ∷ (late_evil, 30) ∷ []) ∷ [])
unfolding opened_rows
rows_2 = refl

rows_3 : Hold (
    good_script (codes "({eval(){'use strict'},get let(){'use strict'}})") ∷
    good_script (codes "'use strict';function eval(){'use strict'}") ∷
    good_script (codes "'use strict';function f(eval){'use strict'}") ∷
    script_has (codes "function f(){'\\08';'use strict'}") ((late_octal, 14) ∷ []) ∷ [])
unfolding opened_rows
rows_3 = refl

rows_4 : Hold (
    good_script (codes "function f(){'\\0';'a';'use strict';'\\08'}") ∷
    script_has (codes "'\\7';'a';'\\1';'use strict'") ((late_octal, 1) ∷ (late_octal, 10) ∷ []) ∷
    good_script (codes "'\\7';a;'use strict'") ∷
    script_has (codes "({get a(){'\\7';'use strict'}});()=>{'\\7';'use strict'}") ((late_octal, 11) ∷ (late_octal, 37) ∷ []) ∷ [])
unfolding opened_rows
rows_4 = refl

rows_5 : Hold (
    good_script (codes "'use strict';()=>{'\\7';'use strict'}") ∷
    good_script (codes "l:function f(){}") ∷
    script_has (codes "if(0)l:function f(){}") ((labelled_function, 8) ∷ []) ∷
    script_has (codes "if(0);else l:m:function f(){}") ((labelled_function, 16) ∷ []) ∷ [])
unfolding opened_rows
rows_5 = refl

rows_6 : Hold (
    good_script (codes "if(0)function f(){}else function f(){}") ∷
    script_has (codes "while(0)l:function f(){}do l:function f(){}while(0)") ((labelled_function, 11) ∷ (labelled_function, 30) ∷ []) ∷
    script_has (codes "for(;;)l:function f(){}") ((labelled_function, 10) ∷ []) ∷
    script_has (codes "for(x in 0)l:function f(){}for(x of 0)l:function f(){}") ((labelled_function, 14) ∷ (labelled_function, 41) ∷ []) ∷ [])
unfolding opened_rows
rows_6 = refl

rows_7 : Hold (
    script_has (codes "with(0)l:function f(){}") ((labelled_function, 10) ∷ []) ∷
    good_script (codes "while(0)l:{function f(){}}") ∷ [])
unfolding opened_rows
rows_7 = refl
