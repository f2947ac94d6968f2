-- Names stand where the positions say: from the law of read-back.
use Rattle.std.proofs.Common.{◌≡◌, ℕ, Bool, true, false, List, [], Option, Some, None, refl, subst}
use Rattle.std.specs.Prelude.{if◌then◌else◌}
use Rattle.std.specs.Option.{option_map}
use Rattle.std.specs.Str.{chars}
use Rattle.std.proofs.lemmas.Option.{same_Some}
use lib.Utf8.{scalars}
use Rattle.base_token.specs.declared.place.BytePos.{BytePos}
use Rattle.base_token.specs.declared.place.LineCol.{LineCol}
use Rattle.tree_spec.specs.Tree.{Tree}
use Rattle.print_writers.specs.Pages.{Page, Marks, IsPast}
use Rattle.print_pages_spec.specs.Pieces.{resolved, shortened}
use Rattle.run_print.specs.Layout.{pieces}
use Rattle.run_command.specs.Options.{is_format, is_module}
use Rattle.run_command.specs.declared.options.Options.{Options}
use Rattle.again_laws.proofs.Passed.{BeginsMarks}
use Rattle.again_laws.specs.Marked.{MarksNames}
use Rattle.again_laws.proofs.Marked.{names_are_marked}
use Rattle.run_print.specs.Layouts.{look_of, page_of, laid_of, written_on, layout, positions_of, IsPastLast}
use Rattle.ecma_front.specs.Programs.{setting_of, Spells, TreeReads}
use Rattle.ecma_front.specs.Names.{NamesAreTold}
use Rattle.ecma_front.proofs.ReadAgain.{empty_page}

-- a page that keeps marks says where names stand
told_by : (o : Options) (t u : Tree) (q : Page) → MarksNames (setting_of o) (is_module o.goal) t q → TreeReads o u (chars q.out) → (pairs : List (BytePos × LineCol)) → (IsPast q → ⊥)
    → (ms : Option Marks) → q.marks ≡ ms → option_map (λ m. m.pairs) ms ≡ Some pairs → NamesAreTold (chars q.out) pairs t u
told_by o t u q h r pairs past None e k = absurd (cc)
told_by o t u q h r pairs past (Some m) e k = by m.reached refl
  where
    by : (end : Option LineCol) → m.reached ≡ end → NamesAreTold (chars q.out) pairs t u
    by None f = absurd (past (m, e, f))
    by (Some end) f = subst (λ (ps : List (BytePos × LineCol)). NamesAreTold (chars q.out) ps t u) (same_Some _ _ k) (h m end e f u r)

begins_marks : (o : Options) → o.positions ≡ true → BeginsMarks (page_of o)
begins_marks o e = ([], rw e refl)

-- What holds of the page in either style holds of that in the style that is asked for.
chosen_page : (o : Options) (t : Tree) (P : Page → Type 0) → P (resolved (pieces (look_of o) t) (page_of o)) → P (shortened (pieces (look_of o) t) (page_of o)) → P (written_on o t (page_of o))
unfolding written_on laid_of
chosen_page o t P x y = by (is_format o.style)
  where
    by : (b : Bool) → P (if b then resolved (pieces (look_of o) t) (page_of o) else shortened (pieces (look_of o) t) (page_of o))
    by true = x
    by false = y

pub names_told : (o : Options) (t : Tree) (text : List ℕ) → scalars text ≡ true → Spells o t text → o.positions ≡ true → (pairs : List (BytePos × LineCol)) → positions_of o t ≡ Some pairs → (IsPastLast o t → ⊥)
    → (u : Tree) → TreeReads o u (chars (layout o t)) → NamesAreTold (chars (layout o t)) pairs t u
unfolding layout positions_of IsPastLast
names_told o t text e h p pairs k past u r =
    let m = names_are_marked (look_of o) (setting_of o) (is_module o.goal) t text (page_of o) e h (empty_page o) (begins_marks o p) in
    told_by o t u (written_on o t (page_of o)) (chosen_page o t (MarksNames (setting_of o) (is_module o.goal) t) m.0 m.1) r pairs past (written_on o t (page_of o)).marks refl k
