use Rattle.std.proofs.Common.{ap, sym, ◌∙◌, length, arith, []}
use Rattle.std.specs.Prelude.{encode_utf8_all}
use Rattle.std.proofs.lemmas.Str.{length-encode, len_utf8_bounds}
use Rattle.print_spelling.specs.declared.form.Form.{Form}
use Rattle.print_spelling.specs.Forms.{written}
use Rattle.print_spelling.proofs.AsciiLemmas.{pair_ascii, braced_ascii}
use Rattle.print_spelling.proofs.form.Form.made.Goals as goal

pub push-requires : goal.push-requires
push-requires c =
    let e = ap length c.new-text.ensures in
    let l = length-encode c.in-Some.c in
    let b = len_utf8_bounds c.in-Some.c in
    (omega arith, omega arith)

pub returns-in-Pair : goal.returns-in-Pair
returns-in-Pair c = c.push_pair.ensures ∙ sym (pair_ascii c.args.code) ∙ ap (λ (f : Form). encode_utf8_all (written f c.args.code [])) (sym c.in-Pair.is)

pub returns-in-Braced : goal.returns-in-Braced
returns-in-Braced c = c.push_braced.ensures ∙ sym (braced_ascii c.args.code) ∙ ap (λ (f : Form). encode_utf8_all (written f c.args.code [])) (sym c.in-Braced.is)
