use Rattle.std.proofs.Common.{◌≡◌, ◌∙◌, ap, subst, map, codes, true, IfErr, IfOk}
use Rattle.std.specs.Prelude.{string_bytes, option_map}
use Rattle.std.proofs.lemmas.Result.{IfErr-weaker, IfOk-weaker}
use Rattle.clap.specs.Words.{first_of, found_of, rows_of}
use Rattle.run_command.specs.Command.{Asks, are_listed, found_in}
use Rattle.run_command.specs.declared.request.CliFault.TheVariants.{Memory}
use Rattle.run_command.proofs.arguments.invocation.Goals as goal

-- what clap found is what stands in the words
rows : (c : goal.After-drop-words) → rows_of (found_of c.in-Ok.matches) ≡ found_in (map string_bytes c.args.words.items)
rows c = c.in-Ok.ensures.found ∙ ap (λ l. found_in (map string_bytes l)) c.as_slice.ensures.value

asks : (c : goal.After-drop-words) → IfOk c.asked.result (λ asked. Asks (found_in (map string_bytes c.args.words.items)) asked.options)
asks c = subst (λ found. IfOk c.asked.result (λ asked. Asks found asked.options)) (rows c) c.asked.ensures.asked

pub returns-in-Ok-clause-goal : goal.returns-in-Ok-clause-goal
returns-in-Ok-clause-goal c = IfOk-weaker c.asked.result _ _ (λ asked h. h.goal) (asks c)

pub returns-in-Ok-clause-style : goal.returns-in-Ok-clause-style
returns-in-Ok-clause-style c = IfOk-weaker c.asked.result _ _ (λ asked h. h.style) (asks c)

pub returns-in-Ok-clause-target : goal.returns-in-Ok-clause-target
returns-in-Ok-clause-target c = IfOk-weaker c.asked.result _ _ (λ asked h. h.target) (asks c)

pub returns-in-Ok-clause-ascii_only : goal.returns-in-Ok-clause-ascii_only
returns-in-Ok-clause-ascii_only c = IfOk-weaker c.asked.result _ _ (λ asked h. h.ascii_only) (asks c)

pub returns-in-Ok-clause-inline_script : goal.returns-in-Ok-clause-inline_script
returns-in-Ok-clause-inline_script c = IfOk-weaker c.asked.result _ _ (λ asked h. h.inline_script) (asks c)

pub returns-in-Ok-clause-line_end : goal.returns-in-Ok-clause-line_end
returns-in-Ok-clause-line_end c = IfOk-weaker c.asked.result _ _ (λ asked h. h.line_end) (asks c)

pub returns-in-Ok-clause-indent : goal.returns-in-Ok-clause-indent
returns-in-Ok-clause-indent c = IfOk-weaker c.asked.result _ _ (λ asked h. h.indent) (asks c)

pub returns-in-Ok-clause-nesting : goal.returns-in-Ok-clause-nesting
returns-in-Ok-clause-nesting c = IfOk-weaker c.asked.result _ _ (λ asked h. h.nesting) (asks c)

pub returns-in-Ok-clause-syntax : goal.returns-in-Ok-clause-syntax
returns-in-Ok-clause-syntax c = IfOk-weaker c.asked.result _ _ (λ asked h. h.syntax) (asks c)

pub returns-in-Ok-clause-positions : goal.returns-in-Ok-clause-positions
returns-in-Ok-clause-positions c = IfOk-weaker c.asked.result _ _ (λ asked h. h.positions) (asks c)

pub returns-in-Ok-clause-path : goal.returns-in-Ok-clause-path
returns-in-Ok-clause-path c =
    subst (λ found. IfOk c.asked.result (λ asked. option_map string_bytes asked.path ≡ first_of (codes "PATH") found)) (rows c) c.asked.ensures.path

pub returns-in-Ok-clause-refused : goal.returns-in-Ok-clause-refused
returns-in-Ok-clause-refused c = IfErr-weaker c.asked.result _ _ (λ fault h. λ taken listed. h listed)
    (subst (λ found. IfErr c.asked.result (λ fault. are_listed found ≡ true → fault ≡ Memory)) (rows c) c.asked.ensures.refused)
