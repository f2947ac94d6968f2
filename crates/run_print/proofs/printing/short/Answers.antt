use Rattle.std.proofs.Common.{◌≡◌, ◌∙◌, List, ℕ, true, None, refl, sym, ap, subst}
use Rattle.print_layout_spec.specs.declared.look.Look.{Look}
use Rattle.print_layout_spec.specs.declared.look.Stand.TheVariants.{Alone}
use Rattle.print_layout_spec.specs.Layout.{laid}
use Rattle.print_writers.specs.States.{State}
use Rattle.print_writers.specs.Views.{js_page, js_state, js_tells}
use Rattle.print_writers.specs.Omitting.{omit_state, omit_tells}
use Rattle.print_writers.specs.declared.js_writer.JsWriter.{JsWriter}
use Rattle.ecma_codegen.specs.Emits.{Emits, emitted}
use Rattle.run_print.specs.Layouts.{laid_of, written_on}
use Rattle.run_print.specs.Steps.{begun_page, LaysOut}
use Rattle.run_print.proofs.Writing.{lays_out, written_short}
use Rattle.run_print.proofs.printing.short.Goals as goal

pub returns-clause-value : goal.returns-clause-value
unfolding laid_of
returns-clause-value g c =
    let contents = g.W.Write.contents in
    let o = c.args.options in
    let t = c.args.program.now in
    let wr = c.set_indent_str.new.self in
    let w0 = c.omit_trailing_semi.result in
    let w1 = c.emitted-wr.result.0 in
    let tells = omit_tells (js_tells contents) (js_state contents) in
    let state = omit_state (js_state contents) in
    let page : js_page contents wr ≡ begun_page contents o c.args.wr = c.set_indent_str.ensures.page ∙ ap (λ (l : List ℕ). record (js_page contents c.args.wr) { indent = l }) c.indent.ensures in
    let first : state w0 ≡ record { page = js_page contents wr; held = None; holds = true } = c.omit_trailing_semi.ensures.state in
    let resolves : (emitted (laid_of o t) (state w0)).page ≡ written_on o t (state w0).page =
    ap (λ (s : State). (emitted (laid_of o t) s).page) first ∙ written_short o t (js_page contents wr) c.requires.style ∙ sym (ap (λ (s : State). written_on o t s.page) first) in
    let emits : Emits tells state (laid_of o t) w0 w1 c.emitted-wr.result.1 =
    subst (λ (k : Look). Emits tells state (laid k Alone t) w0 w1 c.emitted-wr.result.1) c.config.ensures c.emitted-wr.ensures.value in
    let out : LaysOut contents o t c.args.wr w1.inner c.emitted-wr.result.1 =
    lays_out tells state w0 w1 contents o t c.args.wr w1.inner (ap (λ (s : State). s.page) first ∙ page) refl (λ h. c.omit_trailing_semi.ensures.tells (c.set_indent_str.ensures.tells h)) (λ h. h.0)
    resolves c.emitted-wr.result.1 emits in
    subst (λ (x : JsWriter _). LaysOut contents o t c.args.wr x c.emitted-wr.result.1) (sym c.into_inner.ensures) out
