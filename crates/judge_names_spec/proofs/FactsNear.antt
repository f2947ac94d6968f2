-- `delete` (13.5.1.1) and `import.meta` (13.3.1.1).
use Rattle.std.proofs.Common.{[], ◌∷◌, codes, refl}
use Rattle.grammar_spec.proofs.reader.Rows.{Hold}
use Rattle.judge_names_spec.specs.Faults.{deleted_name, deleted_private, meta_in_script}
use Rattle.judge_names_spec.proofs.Rows.{opened_rows, good_module, good_script, module_has, script_has}

rows_1 : Hold (
    script_has (codes "'use strict';delete x") ((deleted_name, 14) ∷ []) ∷
    good_script (codes "delete x;delete(x)") ∷
    script_has (codes "'use strict';delete((x))") ((deleted_name, 14) ∷ []) ∷
    good_script (codes "'use strict';delete x.y;delete x[y];delete x();typeof x") ∷ [])
unfolding opened_rows
rows_1 = refl

rows_2 : Hold (
    module_has (codes "x=>delete x") ((deleted_name, 4) ∷ []) ∷
    script_has (codes "function f(x=delete y){'use strict'}") ((deleted_name, 14) ∷ []) ∷
    script_has (codes "class a{#x;f(){delete this.#x}}") ((deleted_private, 16) ∷ []) ∷
    script_has (codes "class a{#x;f(){delete(this.#x)}}") ((deleted_private, 16) ∷ []) ∷ [])
unfolding opened_rows
rows_2 = refl

rows_3 : Hold (
    script_has (codes "class a{#x;f(){delete this?.#x}}") ((deleted_private, 16) ∷ []) ∷
    script_has (codes "class a{#x;f(){delete this?.a.#x}}") ((deleted_private, 16) ∷ []) ∷
    good_script (codes "class a{#x;f(){delete this.#x.a;delete this?.#x.a;delete this.#x[0]}}") ∷
    script_has (codes "class a{f(){delete a}}") ((deleted_name, 13) ∷ []) ∷ [])
unfolding opened_rows
rows_3 = refl

rows_4 : Hold (
    script_has (codes "import.meta") ((meta_in_script, 1) ∷ []) ∷
    good_module (codes "import.meta") ∷
    good_script (codes "function f(){new.target}") ∷
    script_has (codes "x=>import.meta.y") ((meta_in_script, 4) ∷ []) ∷ [])
unfolding opened_rows
rows_4 = refl
