use Rattle.std.proofs.Common.{String, Global, string_bytes}
use Rattle.ecma_front.proofs.Answering.{fault_formats, layout_formats, length_taken, read_formats, settings_taken}
use Rattle.ecma_front.proofs.Settings.{within}
use Rattle.ecma_front.proofs.texts.written.Goals as goal

pub text_of-requires-clause-width : goal.text_of-requires-clause-width
text_of-requires-clause-width c = (within c.args.options (settings_taken c.args.options c.in-Ok.program c.in-Ok.ensures.settings.1)).1

pub returns-in-Err-clause-answer : goal.returns-in-Err-clause-answer
returns-in-Err-clause-answer c =
    let r = c.in-Err.ensures in
    read_formats (λ (x : String Global). string_bytes x) c.args.options c.args.text.now c.in-Err.fault c.utf8.text (λ e. let s = r.settings.1 e in cc) (λ e. let s = r.long.1 e in cc) r.answer

pub returns-in-Ok-text_of-clause-answer : goal.returns-in-Ok-text_of-clause-answer
returns-in-Ok-text_of-clause-answer c =
    let r = c.in-Ok.ensures in
    let o = c.args.options in
    let taken = settings_taken o c.in-Ok.program r.settings.1 in
    let fits = length_taken o c.in-Ok.program c.args.text.now taken r.long.1 in
    layout_formats o c.args.text.now c.utf8.text fits (λ (x : String Global). string_bytes x) c.in-Ok.program (r.answer taken fits) c.in-Ok-text_of.text c.in-Ok-text_of.ensures.1

pub returns-clause-answer : goal.returns-clause-answer
returns-clause-answer c =
    let r = c.in-Ok.ensures in
    let o = c.args.options in
    let taken = settings_taken o c.in-Ok.program r.settings.1 in
    let fits = length_taken o c.in-Ok.program c.args.text.now taken r.long.1 in
    fault_formats o c.args.text.now c.utf8.text fits (λ (x : String Global). string_bytes x) c.in-Ok.program (r.answer taken fits) (String Global) c.in-Err-text_of.fault c.told.result c.told.ensures c.in-Err-text_of.ensures
