use Rattle.std.proofs.lemmas.Str.{IsUtf8-from_ascii}
use Rattle.base_number.proofs.NumberLemmas.{valid_text}
use Rattle.print_spelling.proofs.form.push_ascii.Goals as goal

pub unwrap-requires : goal.unwrap-requires
unwrap-requires g c =
    valid_text _ _ c.from_utf8.result (λ e wrong. wrong.0 (IsUtf8-from_ascii c.args.bytes.now c.requires.ascii)) c.from_utf8.ensures.cases
