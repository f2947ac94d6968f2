-- The program's command line: what clap makes of it.
use Rattle.std.proofs.Common.{◌≡◌, ◌∙◌, ℕ, true, false, List, [], ◌∷◌, refl, sym, ap, subst, arith, map, codes, length, Result, Ok, Err, String, Global}
use Rattle.std.specs.Prelude.{IfOk, IfErr, OnOk, ◌==◌, string_bytes}
use Rattle.std.proofs.lemmas.Bool.Decides.{nat_tests}
use Rattle.clap.specs.Words.{AddsArg, App, FailsBy, HasMatchesOf, Rule, app_of, fault_of, found_of, is_simple_and_free, kind_of, matches_of, rows_of, rule_of, takes, with_rule}
use Rattle.clap.specs.declared.builder.arg.Arg.{Arg}
use Rattle.clap.specs.declared.builder.command.Command.{Command}
use Rattle.clap.specs.declared.error.Error.{Error}
use Rattle.clap.specs.declared.error.kind.ErrorKind.TheVariants.{OutOfMemory}
use Rattle.clap.specs.declared.parser.matches.ArgMatches.{ArgMatches}
use Rattle.run_command.specs.Command.{program, words_of, found_in, are_taken, faults_in}

pub adds_rule : (app : App) (rule : Rule) (old new : Command) (arg : Arg) → app_of old ≡ app → rule_of arg ≡ rule → arg.global ≡ false
    → AddsArg old arg new → app_of new ≡ with_rule app rule
adds_rule app rule old new arg e f g h = h.shape g ∙ ap (λ a. with_rule a (rule_of arg)) e ∙ ap (with_rule app) f

pub ok_adds_rule : {E : Type 0} (app : App) (rule : Rule) (old : Command) (arg : Arg) (r : Result Command E) → app_of old ≡ app → rule_of arg ≡ rule → arg.global ≡ false
    → IfOk r (AddsArg old arg) → IfOk r (λ new. app_of new ≡ with_rule app rule)
ok_adds_rule app rule old arg (Ok new) e f g h = adds_rule app rule old new arg e f g h
ok_adds_rule app rule old arg (Err x) e f g h = tt

-- ---- the words

pub no_words : (ws : List (String Global)) → (length ws == 0) ≡ true → words_of (map string_bytes ws) ≡ codes "ecma-front" ∷ []
no_words [] e = refl
no_words (w ∷ ws) e = let some : (length (w ∷ ws) == 0) ≡ false = grind (arith, nat_tests) in absurd (cc)

pub some_words : (ws : List (String Global)) → (length ws == 0) ≡ false → words_of (map string_bytes ws) ≡ map string_bytes ws
some_words [] e = absurd (cc)
some_words (w ∷ ws) e = refl

-- ---- what a parse of these words gives, where the words are those of a command line

pub finds : (words line : List (List ℕ)) (c : Command) (r : Result ArgMatches Error) → words_of line ≡ words → app_of c ≡ program
    → IfOk r (HasMatchesOf (app_of c) words) → IfOk r (λ m. rows_of (found_of m) ≡ found_in line)
unfolding found_in
finds words line c (Ok m) w e h = (subst (λ a. HasMatchesOf a words m) e h refl).0 ∙ ap (matches_of program) (sym w)
finds words line c (Err x) w e h = tt

pub takes_them : (words line : List (List ℕ)) (c : Command) (r : Result ArgMatches Error) → words_of line ≡ words → app_of c ≡ program
    → (is_simple_and_free (app_of c) ≡ true → FailsBy (fault_of (app_of c) words) r) → OnOk r (faults_in line ≡ [])
unfolding faults_in
takes_them words line c (Ok m) w e h = ap (fault_of program) w ∙ subst (λ a. is_simple_and_free a ≡ true → fault_of a words ≡ []) e h refl
takes_them words line c (Err x) w e h = tt

pub passes_them : (words line : List (List ℕ)) (c : Command) (r : Result ArgMatches Error) → words_of line ≡ words → app_of c ≡ program
    → IfErr r (λ x. takes (app_of c) words ≡ true → kind_of x ≡ OutOfMemory) → IfErr r (λ x. are_taken line ≡ true → kind_of x ≡ OutOfMemory)
unfolding are_taken
passes_them words line c (Ok m) w e h = tt
passes_them words line c (Err x) w e h = λ t. subst (λ a. takes a words ≡ true → kind_of x ≡ OutOfMemory) e h (sym (ap (takes program) w) ∙ t)
