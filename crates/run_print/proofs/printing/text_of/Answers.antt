use Rattle.std.proofs.Common.{◌≡◌, ◌∙◌, ℕ, [], Bool, List, Some, None, Option, Vec, Global, if◌then◌else◌, IsUtf8, refl, sym, ap}
use Rattle.base_token.specs.declared.counted.Counted.{Counted}
use Rattle.print_writers.specs.Views.{first_page, first_marks, js_page}
use Rattle.run_print.specs.Layouts.{line_end_of, marks_of}
use Rattle.run_print.proofs.Writing.{not_both, text_laid, text_utf8}
use Rattle.run_print.proofs.printing.text_of.Goals as goal

abbrev bytes_of : Counted (Vec ℕ Global) → Option (List ℕ)
bytes_of c = Some c.inner.items

pub unreachable-requires : goal.unreachable-requires
unreachable-requires c =
    let o = c.args.options in
    let page : js_page bytes_of c.new-wr.result ≡ first_page c.new-out.result.inner.items (line_end_of o.line_end) (marks_of o) =
    c.new-wr.ensures.page ∙ ap (λ (l : List ℕ). first_page c.new-out.result.inner.items l None) c.line_end.ensures
    ∙ ap (λ (b : Bool). first_page c.new-out.result.inner.items (line_end_of o.line_end) (if b then Some (first_marks []) else None)) (sym c.requires.positions) in
    let none : c.new-out.result.inner.items ≡ [] = ap (λ (v : Vec ℕ Global). v.items) c.new-out.ensures.inner ∙ c.new.ensures.items in
    let own : c.laid_out-wr.result.0.wr.inner.items ≡ c.into_inner-bytes.result.items =
    ap (λ (x : Counted (Vec ℕ Global)). x.inner.items) (sym c.into_inner.ensures) ∙ ap (λ (v : Vec ℕ Global). v.items) (sym c.into_inner-bytes.ensures) in
    let utf8 : IsUtf8 c.into_inner-bytes.result.items = text_utf8 bytes_of o c.args.program.now c.new-out.result c.new-wr.result c.laid_out-wr.result.0 c.into_inner-bytes.result.items page none (c.new-wr.ensures.tells refl)
    (rw c.in-Ok.is at c.laid_out-wr.ensures.value) own in
    not_both c.from_utf8.result c.in-Err-from_utf8.field-0 (c.from_utf8.ensures.succeeds utf8) c.in-Err-from_utf8.is

pub returns : goal.returns
returns c =
    let o = c.args.options in
    let page : js_page bytes_of c.new-wr.result ≡ first_page c.new-out.result.inner.items (line_end_of o.line_end) (marks_of o) =
    c.new-wr.ensures.page ∙ ap (λ (l : List ℕ). first_page c.new-out.result.inner.items l None) c.line_end.ensures
    ∙ ap (λ (b : Bool). first_page c.new-out.result.inner.items (line_end_of o.line_end) (if b then Some (first_marks []) else None)) (sym c.requires.positions) in
    let none : c.new-out.result.inner.items ≡ [] = ap (λ (v : Vec ℕ Global). v.items) c.new-out.ensures.inner ∙ c.new.ensures.items in
    let own : c.laid_out-wr.result.0.wr.inner.items ≡ c.into_inner-bytes.result.items =
    ap (λ (x : Counted (Vec ℕ Global)). x.inner.items) (sym c.into_inner.ensures) ∙ ap (λ (v : Vec ℕ Global). v.items) (sym c.into_inner-bytes.ensures) in
    let laid = rw c.in-Ok.is at c.laid_out-wr.ensures.value in
    let same = text_laid bytes_of o c.args.program.now c.new-out.result c.new-wr.result c.laid_out-wr.result.0 c.into_inner-bytes.result.items page none (c.new-wr.ensures.tells refl) laid own in
    (laid.0, ap (λ (v : Vec ℕ Global). v.items) c.in-Ok-from_utf8.ensures.ok ∙ same)
