use Rattle.std.proofs.Common.{◌≡◌, ◌∙◌, ℕ, [], Bool, List, Some, None, Vec, Global, if◌then◌else◌, sym, ap}
use Rattle.base_token.specs.declared.place.BytePos.{BytePos}
use Rattle.base_token.specs.declared.place.LineCol.{LineCol}
use Rattle.print_writers.specs.Pages.{told}
use Rattle.print_writers.specs.Views.{first_page, first_marks, js_page}
use Rattle.print_blocks.specs.Blocks.{noted}
use Rattle.run_print.specs.Layouts.{line_end_of, marks_of}
use Rattle.run_print.proofs.Writing.{done, no_positions, stopped_with}
use Rattle.run_print.proofs.printing.unmarked.Goals as goal

pub returns-in-Ok-clause-value : goal.returns-in-Ok-clause-value
returns-in-Ok-clause-value g c =
    let contents = g.W.Write.contents in
    let o = c.args.options in
    let n = c.new.ensures in
    let page : js_page (noted contents) c.new-wr.result ≡ first_page (told (noted contents c.new.result)) (line_end_of o.line_end) (marks_of o) =
    c.new-wr.ensures.page ∙ ap (λ (l : List ℕ). first_page (told (noted contents c.new.result)) l None) c.line_end.ensures
    ∙ ap (λ (b : Bool). first_page (told (noted contents c.new.result)) (line_end_of o.line_end) (if b then Some (first_marks []) else None)) (sym c.requires.positions) in
    done contents o c.args.program.now c.args.out c.new.result c.new-wr.result c.laid_out-wr.result.0 n.behind n.waiting n.at page c.new-wr.ensures.tells
    (λ (v : Vec (BytePos × LineCol) Global). v.items) None c.laid_out-wr.result.1 c.laid_out-wr.ensures.value c.into_inner.result c.into_inner.ensures c.ended_with-out.result.0
    (rw c.in-Ok.is at c.ended_with-out.ensures.value) (sym c.requires.positions) (λ l some. sym (no_positions o c.args.program.now c.requires.positions))

pub returns-in-Err-clause-value : goal.returns-in-Err-clause-value
returns-in-Err-clause-value g c =
    let contents = g.W.Write.contents in
    let o = c.args.options in
    let n = c.new.ensures in
    let page : js_page (noted contents) c.new-wr.result ≡ first_page (told (noted contents c.new.result)) (line_end_of o.line_end) (marks_of o) =
    c.new-wr.ensures.page ∙ ap (λ (l : List ℕ). first_page (told (noted contents c.new.result)) l None) c.line_end.ensures
    ∙ ap (λ (b : Bool). first_page (told (noted contents c.new.result)) (line_end_of o.line_end) (if b then Some (first_marks []) else None)) (sym c.requires.positions) in
    stopped_with contents o c.args.program.now c.args.out c.new.result c.new-wr.result c.laid_out-wr.result.0 n.behind n.waiting n.at page c.new-wr.ensures.tells
    c.laid_out-wr.result.1 c.laid_out-wr.ensures.value c.into_inner.result c.into_inner.ensures c.ended_with-out.result.0 c.in-Err.fault (rw c.in-Err.is at c.ended_with-out.ensures.value)
