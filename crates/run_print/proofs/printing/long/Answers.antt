use Rattle.std.proofs.Common.{◌≡◌, ◌∙◌, List, ℕ, refl, ap, subst}
use Rattle.print_layout_spec.specs.declared.look.Look.{Look}
use Rattle.print_layout_spec.specs.declared.look.Stand.TheVariants.{Alone}
use Rattle.print_layout_spec.specs.Layout.{laid}
use Rattle.print_writers.specs.Views.{js_page, js_state, js_tells}
use Rattle.ecma_codegen.specs.Emits.{Emits}
use Rattle.run_print.specs.Layouts.{laid_of}
use Rattle.run_print.specs.Steps.{begun_page}
use Rattle.run_print.proofs.Writing.{lays_out, written_long}
use Rattle.run_print.proofs.printing.long.Goals as goal

pub returns-clause-value : goal.returns-clause-value
unfolding laid_of
returns-clause-value g c =
    let contents = g.W.Write.contents in
    let o = c.args.options in
    let t = c.args.program.now in
    let wr = c.set_indent_str.new.self in
    let page : js_page contents wr ≡ begun_page contents o c.args.wr = c.set_indent_str.ensures.page ∙ ap (λ (l : List ℕ). record (js_page contents c.args.wr) { indent = l }) c.indent.ensures in
    let emits : Emits (js_tells contents) (js_state contents) (laid_of o t) wr c.emitted.result.0 c.emitted.result.1 =
    subst (λ (k : Look). Emits (js_tells contents) (js_state contents) (laid k Alone t) wr c.emitted.result.0 c.emitted.result.1) c.config.ensures c.emitted.ensures.value in
    lays_out (js_tells contents) (js_state contents) wr c.emitted.result.0 contents o t c.args.wr c.emitted.result.0 page refl c.set_indent_str.ensures.tells (λ h. h)
    (written_long o t (js_page contents wr) c.requires.style) c.emitted.result.1 emits
