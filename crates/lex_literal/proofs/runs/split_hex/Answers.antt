use Rattle.std.proofs.Common.{◌≡◌, ℕ, ◌≤◌, List, false, sym, ap, ◌∙◌, subst, IsUtf8, arith}
use Rattle.std.proofs.lemmas.Bool.Decides.{nat_tests}
use Rattle.std.specs.List.{prefix_len}
use Rattle.std.specs.Str.{chars}
use Rattle.lex_pieces.specs.Runs.{Each}
use Rattle.lex_literal.specs.Escapes.{is_hex}
use Rattle.lex_literal.proofs.RunLemmas.{Flat, Cut, cut_run, run_each}
use Rattle.lex_literal.proofs.runs.split_hex.Goals as goal

none_high : (b : ℕ) → 128 ≤ b → is_hex b ≡ false
none_high b h = grind (arith, nat_tests)

flat : Flat is_hex
flat = record { same = λ b h. none_high b h ∙ sym (none_high 128 (omega arith)) }

at : (text : List ℕ) (n : ℕ) → IsUtf8 text → n ≡ prefix_len is_hex text → Cut is_hex text n
at text n u e = subst (Cut is_hex text) (sym e) (cut_run is_hex flat text u)

pub split_at-requires : goal.split_at-requires
split_at-requires c = (at c.args.text.now c.hex_len.result c.utf8.text c.hex_len.ensures).boundary

pub returns-clause-run : goal.returns-clause-run
returns-clause-run c = ap chars c.split_at.ensures.front ∙ (at c.args.text.now c.hex_len.result c.utf8.text c.hex_len.ensures).ran

pub returns-clause-after : goal.returns-clause-after
returns-clause-after c = ap chars c.split_at.ensures.back ∙ (at c.args.text.now c.hex_len.result c.utf8.text c.hex_len.ensures).left

pub returns-clause-digits : goal.returns-clause-digits
returns-clause-digits c =
    let cut = at c.args.text.now c.hex_len.result c.utf8.text c.hex_len.ensures in
    subst (Each is_hex) (sym (ap chars c.split_at.ensures.front ∙ cut.ran)) (run_each is_hex (chars c.args.text.now))
