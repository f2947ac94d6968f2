use Rattle.std.proofs.Common.{◌≡◌, ◌∙◌, ℕ, [], Bool, List, Some, None, if◌then◌else◌, sym, ap}
use Rattle.base_token.specs.declared.place.BytePos.{BytePos}
use Rattle.base_token.specs.declared.place.LineCol.{LineCol}
use Rattle.print_writers.specs.Pages.{told}
use Rattle.print_writers.specs.Views.{first_page, first_marks, js_page}
use Rattle.print_blocks.specs.Blocks.{noted}
use Rattle.run_print.specs.Layouts.{line_end_of, marks_of}
use Rattle.run_print.proofs.Writing.{done_in_list, stopped_with}
use Rattle.run_print.proofs.printing.marked.Goals as goal

pub returns-in-Ok-clause-value : goal.returns-in-Ok-clause-value
returns-in-Ok-clause-value g c =
    let contents = g.W.Write.contents in
    let o = c.args.options in
    let n = c.new.ensures in
    let bytes = told (noted contents c.new.result) in
    let page : js_page (noted contents) c.new-wr.result ≡ first_page bytes (line_end_of o.line_end) (marks_of o) =
    c.new-wr.ensures.page ∙ ap (λ (l : List ℕ). first_page bytes l (Some (first_marks c.new-list.result.items))) c.line_end.ensures
    ∙ ap (λ (xs : List (BytePos × LineCol)). first_page bytes (line_end_of o.line_end) (Some (first_marks xs))) c.new-list.ensures.items
    ∙ ap (λ (b : Bool). first_page bytes (line_end_of o.line_end) (if b then Some (first_marks []) else None)) (sym c.requires.positions) in
    done_in_list contents o c.args.program.now c.args.out c.new.result c.new-wr.result c.laid_out-wr.result.0 n.behind n.waiting n.at page c.new-wr.ensures.tells
    _ c.into_parts-block.result.1 c.laid_out-wr.result.1 c.laid_out-wr.ensures.value c.into_parts-block.result.0 c.into_parts-block.ensures.behind c.ended_with-out.result.0
    (rw c.in-Ok.is at c.ended_with-out.ensures.value) c.requires.positions (c.laid_out-wr.ensures.keeps.1 ∙ c.new-wr.ensures.loans) c.into_parts-block.ensures.marks c.taken_out-positions.ensures

pub returns-clause-value : goal.returns-clause-value
returns-clause-value g c =
    let contents = g.W.Write.contents in
    let o = c.args.options in
    let n = c.new.ensures in
    let bytes = told (noted contents c.new.result) in
    let page : js_page (noted contents) c.new-wr.result ≡ first_page bytes (line_end_of o.line_end) (marks_of o) =
    c.new-wr.ensures.page ∙ ap (λ (l : List ℕ). first_page bytes l (Some (first_marks c.new-list.result.items))) c.line_end.ensures
    ∙ ap (λ (xs : List (BytePos × LineCol)). first_page bytes (line_end_of o.line_end) (Some (first_marks xs))) c.new-list.ensures.items
    ∙ ap (λ (b : Bool). first_page bytes (line_end_of o.line_end) (if b then Some (first_marks []) else None)) (sym c.requires.positions) in
    stopped_with contents o c.args.program.now c.args.out c.new.result c.new-wr.result c.laid_out-wr.result.0 n.behind n.waiting n.at page c.new-wr.ensures.tells
    c.laid_out-wr.result.1 c.laid_out-wr.ensures.value c.into_parts-block.result.0 c.into_parts-block.ensures.behind c.ended_with-out.result.0 c.in-Err.fault (rw c.in-Err.is at c.ended_with-out.ensures.value)
