use Rattle.std.proofs.Common.{◌≡◌, ◌∙◌, ap, codes}
use Rattle.clap.specs.Simple.{app_of_fields}
use Rattle.clap.specs.Words.{app_of, new_app}
use Rattle.run_command.proofs.Program.{adds_rule, ok_adds_rule}
use Rattle.run_command.proofs.arguments.command.Goals as goal

pub returns : goal.returns
returns c =
    let named : app_of c.about.result ≡ new_app (codes "ecma-front") = ap app_of_fields c.about.ensures ∙ ap app_of_fields c.in_ok-bin_name.ensures.0 ∙ c.new.ensures.app in
    let one = adds_rule _ _ c.about.result c.in_ok-arg.field-0 c.flag-script.result named c.flag-script.ensures.rule c.flag-script.ensures.local c.in_ok-arg.ensures in
    let two = adds_rule _ _ c.in_ok-arg.field-0 c.in_ok-arg-2.field-0 c.flag-minify.result one c.flag-minify.ensures.rule c.flag-minify.ensures.local c.in_ok-arg-2.ensures in
    let three = adds_rule _ _ c.in_ok-arg-2.field-0 c.in_ok-arg-3.field-0 c.target_option.result two c.target_option.ensures.rule c.target_option.ensures.local c.in_ok-arg-3.ensures in
    let four = adds_rule _ _ c.in_ok-arg-3.field-0 c.in_ok-arg-4.field-0 c.flag-ascii.result three c.flag-ascii.ensures.rule c.flag-ascii.ensures.local c.in_ok-arg-4.ensures in
    let five = adds_rule _ _ c.in_ok-arg-4.field-0 c.in_ok-arg-5.field-0 c.flag-inline.result four c.flag-inline.ensures.rule c.flag-inline.ensures.local c.in_ok-arg-5.ensures in
    let six = adds_rule _ _ c.in_ok-arg-5.field-0 c.in_ok-arg-6.field-0 c.flag-crlf.result five c.flag-crlf.ensures.rule c.flag-crlf.ensures.local c.in_ok-arg-6.ensures in
    let seven = adds_rule _ _ c.in_ok-arg-6.field-0 c.in_ok-arg-7.field-0 c.indent_option.result six c.indent_option.ensures.rule c.indent_option.ensures.local c.in_ok-arg-7.ensures in
    let eight = adds_rule _ _ c.in_ok-arg-7.field-0 c.in_ok-arg-8.field-0 c.nesting_option.result seven c.nesting_option.ensures.rule c.nesting_option.ensures.local c.in_ok-arg-8.ensures in
    ok_adds_rule _ _ c.in_ok-arg-8.field-0 c.path.result c.arg-9.result eight c.path.ensures.rule c.path.ensures.local c.arg-9.ensures
