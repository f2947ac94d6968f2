-- The texts of operators with one operand.
use Rattle.std.specs.Prelude.{ℕ, ◌==◌, if◌then◌else◌, List, codes}
use Rattle.base_token.specs.Kinds.{plus_plus_kind, minus_minus_kind, bang_kind, tilde_kind, add_kind, sub_kind}
use Rattle.base_token.specs.Words.{own_text}

-- a sign or a word (13.4 and 13.5)
unfoldable pub sign_of : ℕ → List ℕ
sign_of op =
    if op == plus_plus_kind then codes "++"
    else (if op == minus_minus_kind then codes "--"
    else (if op == bang_kind then codes "!"
    else (if op == tilde_kind then codes "~"
    else (if op == add_kind then codes "+"
    else (if op == sub_kind then codes "-"
    else own_text op)))))
