use Rattle.std.proofs.Common.{◌≡◌, ◌∙◌, sym, ap, map}
use Rattle.std.specs.Prelude.{string_bytes}
use Rattle.run_command.specs.Command.{words_of}
use Rattle.run_command.proofs.Program.{no_words, some_words, finds, takes_them, passes_them}
use Rattle.run_command.proofs.arguments.matches_in.Goals as goal

pub returns-then-is_empty-clause-found : goal.returns-then-is_empty-clause-found
returns-then-is_empty-clause-found c =
    let w : words_of (map string_bytes c.args.words.now) ≡ map (λ x. x.now) c.as_slice.result.now =
    no_words c.args.words.now (sym c.is_empty.ensures ∙ c.if-is_empty.true) ∙ sym (ap (map (λ x. x.now)) c.as_slice.ensures) in
    finds _ _ c.in_ok-command.command c.try_get_matches_from.result w c.in_ok-command.ensures c.try_get_matches_from.ensures.matches

pub returns-then-is_empty-clause-taken : goal.returns-then-is_empty-clause-taken
returns-then-is_empty-clause-taken c =
    let w : words_of (map string_bytes c.args.words.now) ≡ map (λ x. x.now) c.as_slice.result.now =
    no_words c.args.words.now (sym c.is_empty.ensures ∙ c.if-is_empty.true) ∙ sym (ap (map (λ x. x.now)) c.as_slice.ensures) in
    takes_them _ _ c.in_ok-command.command c.try_get_matches_from.result w c.in_ok-command.ensures c.try_get_matches_from.ensures.kinds

pub returns-then-is_empty-clause-passes : goal.returns-then-is_empty-clause-passes
returns-then-is_empty-clause-passes c =
    let w : words_of (map string_bytes c.args.words.now) ≡ map (λ x. x.now) c.as_slice.result.now =
    no_words c.args.words.now (sym c.is_empty.ensures ∙ c.if-is_empty.true) ∙ sym (ap (map (λ x. x.now)) c.as_slice.ensures) in
    passes_them _ _ c.in_ok-command.command c.try_get_matches_from.result w c.in_ok-command.ensures c.try_get_matches_from.ensures.passes

pub returns-else-is_empty-clause-found : goal.returns-else-is_empty-clause-found
returns-else-is_empty-clause-found c =
    finds _ _ c.in_ok-command.command c.try_get_matches_from-else-is_empty.result (some_words c.args.words.now (sym c.is_empty.ensures ∙ c.if-is_empty.false))
    c.in_ok-command.ensures c.try_get_matches_from-else-is_empty.ensures.matches

pub returns-else-is_empty-clause-taken : goal.returns-else-is_empty-clause-taken
returns-else-is_empty-clause-taken c =
    takes_them _ _ c.in_ok-command.command c.try_get_matches_from-else-is_empty.result (some_words c.args.words.now (sym c.is_empty.ensures ∙ c.if-is_empty.false))
    c.in_ok-command.ensures c.try_get_matches_from-else-is_empty.ensures.kinds

pub returns-else-is_empty-clause-passes : goal.returns-else-is_empty-clause-passes
returns-else-is_empty-clause-passes c =
    passes_them _ _ c.in_ok-command.command c.try_get_matches_from-else-is_empty.result (some_words c.args.words.now (sym c.is_empty.ensures ∙ c.if-is_empty.false))
    c.in_ok-command.ensures c.try_get_matches_from-else-is_empty.ensures.passes
