-- The laws, from what is alike of a layout.
use Rattle.std.proofs.Common.{◌≡◌, true, false, List, [], None, sym, ap, ◌∙◌, true≢false}
use Rattle.tree_spec.specs.Tree.{Tree}
use Rattle.print_writers.specs.Pages.{Page}
use Rattle.print_pages_spec.specs.Pieces.{Piece, resolved, shortened}
use Rattle.print_layout_spec.specs.declared.look.Look.{Look}
use Rattle.print_layout_spec.specs.declared.look.Stand.TheVariants.{Alone}
use Rattle.print_layout_spec.specs.Looks.{Laid, listed, is_refused}
use Rattle.print_layout_spec.specs.Layout.{laid, pieces}
use Rattle.print_layout_laws.specs.Bare.{unplaced, unspelled}
use Rattle.print_layout_laws.specs.Marks.{unmarked, AreWrittenAlike}
use Rattle.print_layout_laws.specs.Laws.{UnplacedIsNowhere, PlacesAreMarks, PlacesAside, SpellingsGo, SpellingsAside}
use Rattle.print_layout_laws.proofs.Alike.{Alike, seen, all_seen, listed_seen, refused_seen}
use Rattle.print_layout_laws.proofs.Marks.{plain_resolved, plain_shortened}
use Rattle.print_layout_laws.proofs.Questions.{bare_place}
use Rattle.print_layout_laws.proofs.Same.{laid_alike}

same_pieces : (f g : Laid) → Alike false f g → unmarked (listed f []) ≡ unmarked (listed g [])
same_pieces f g a = listed_seen f [] ∙ (ap (λ h. listed h []) a.so ∙ sym (listed_seen g []))

same_refused : (f g : Laid) → Alike false f g → is_refused f ≡ is_refused g
same_refused f g a = sym (refused_seen f) ∙ (ap (λ h. is_refused h) a.so ∙ refused_seen g)

same_resolved : (xs ys : List Piece) (p : Page) → unmarked xs ≡ unmarked ys → (resolved xs p).out ≡ (resolved ys p).out
same_resolved xs ys p e = ap (λ (q : Page). q.out) (plain_resolved xs p ∙ (ap (λ zs. resolved zs (record p { marks = None })) e ∙ sym (plain_resolved ys p)))

same_shortened : (xs ys : List Piece) (p : Page) → unmarked xs ≡ unmarked ys → (shortened xs p).out ≡ (shortened ys p).out
same_shortened xs ys p e = ap (λ (q : Page). q.out) (plain_shortened xs p ∙ (ap (λ zs. shortened zs (record p { marks = None })) e ∙ sym (plain_shortened ys p)))

pub written_alike : (look : Look) (t u : Tree) → Alike false (laid look Alone t) (laid look Alone u) → AreWrittenAlike look t u
written_alike look t u a = let e = same_pieces (laid look Alone t) (laid look Alone u) a in record {
  pieces_same = e;
  bytes_same = λ p. same_resolved (pieces look t) (pieces look u) p e;
  short_bytes_same = λ p. same_shortened (pieces look t) (pieces look u) p e;
  refused_same = same_refused (laid look Alone t) (laid look Alone u) a;
}

unplaced_alike : (look : Look) (t : Tree) → Alike false (laid look Alone (unplaced t)) (laid look Alone t)
unplaced_alike look t = laid_alike false true look (λ e. absurd (true≢false e)) Alone t

pub unplaced_is_nowhere : UnplacedIsNowhere
unplaced_is_nowhere t = bare_place false true t

pub places_are_marks : PlacesAreMarks
places_are_marks look t = same_pieces (laid look Alone (unplaced t)) (laid look Alone t) (unplaced_alike look t)

pub places_aside : PlacesAside
places_aside look t u e = written_alike look t u (record { so = sym (unplaced_alike look t).so ∙ (ap (λ x. seen false (laid look Alone x)) e ∙ (unplaced_alike look u).so) })

pub spellings_go : SpellingsGo
spellings_go look s t m = sym (all_seen (laid look s (unspelled t))) ∙ ((laid_alike true false look (λ _. m) s t).so ∙ all_seen (laid look s t))

unspelled_alike : (look : Look) (t : Tree) → look.style.minify ≡ true → Alike false (laid look Alone (unplaced (unspelled t))) (laid look Alone t)
unspelled_alike look t m = record { so = (unplaced_alike look (unspelled t)).so ∙ ap (λ f. seen false f) (spellings_go look Alone t m) }

pub spellings_aside : SpellingsAside
spellings_aside look t u m e = written_alike look t u (record { so = sym (unspelled_alike look t m).so ∙ (ap (λ x. seen false (laid look Alone x)) e ∙ (unspelled_alike look u m).so) })
