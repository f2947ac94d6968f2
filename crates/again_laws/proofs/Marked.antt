-- Names are written where the marks of the page say.
use Rattle.std.proofs.Common.{◌≡◌, ◌≤◌, ℕ, Bool, true, not, List, [], ◌∷◌, Some, None, arith, map, sym, ap}
use Rattle.std.specs.Str.{chars}
use lib.Utf8.{scalars}
use Rattle.base_proofs.proofs.Lists.{cons_parts}
use Rattle.base_token.specs.declared.place.Span.{Span}
use Rattle.tree_spec.specs.Tree.{Tree, script, es_module}
use Rattle.tree_program_spec.specs.Names.Names.{Name, Identifier, names}
use Rattle.grammar_spec.specs.Tokens.Input.{PlacedToken}
use Rattle.grammar_laws.specs.CompleteBase.Laws.{InOrder}
use Rattle.grammar_text_spec.specs.Text.{Setting, TreeSpells, code_of, text_start}
use Rattle.grammar_text_laws.proofs.Ordered.{places_in_order}
use Rattle.print_writers.specs.Pages.{Page}
use Rattle.print_layout_spec.specs.declared.look.Look.{Look}
use Rattle.print_layout_spec.specs.declared.look.Stand.TheVariants.{Alone}
use Rattle.print_layout_spec.specs.Looks.{commit, start, when, ◌·◌}
use Rattle.print_layout_spec.specs.Layout.{is_empty, laid, statements}
use Rattle.again_laws.specs.Tokens.Naming.{Naming, StandsFor}
use Rattle.again_laws.specs.Tiling.Tiles.{IsEmptyPage}
use Rattle.again_laws.specs.Text.TiledLaws.{ProgramGoes}
use Rattle.again_laws.proofs.text.ProgramsGo.{programs_go}
use Rattle.again_laws.specs.Text.PlacedLaws.{BeginsMarks, SaysPlaced, ArePlaced}
use Rattle.again_laws.proofs.text.Pages.{names_are_placed, names_behind_hashbangs}
use Rattle.again_laws.specs.Derived.Begins.{BeginFrom, NamesFrom}
use Rattle.again_laws.proofs.derived.NamesBegin.{names_begin_there}
use Rattle.again_laws.specs.Marked.{Alongside, MarksNames, NamesAreMarked}
use Rattle.again_laws.proofs.Shapes.{goal_is_program, program_is_no_quasi, start_is_silent}
use Rattle.again_laws.proofs.Written.{names_stand}

-- ---- names of two trees, one by one

abbrev kept : (ℕ → Span) → Name → Identifier
kept places n = record { sym = n.sym; span = places n.at }

stand_alongside : (n : Naming) (ms bs : List Name) → map (kept n.written) bs ≡ map (kept n.read) ms → Alongside (StandsFor n) ms bs
stand_alongside n [] [] e = tt
stand_alongside n [] (b ∷ bs) e = cc
stand_alongside n (a ∷ ms) [] e = cc
stand_alongside n (a ∷ ms) (b ∷ bs) e =
    let h = cons_parts _ _ _ _ e in (sym (ap (λ (i : Identifier). i.sym) h.0), ap (λ (i : Identifier). i.span) h.0, stand_alongside n ms bs h.1)

alongside_from : (P Q : ℕ → ℕ → Type 0) → ((pos at : ℕ) → 1 ≤ pos → P pos at → Q pos at) → (ms bs : List Name) → NamesFrom 1 ms → Alongside P ms bs → Alongside Q ms bs
alongside_from P Q f [] [] k h = tt
alongside_from P Q f [] (b ∷ bs) k h = h
alongside_from P Q f (a ∷ ms) [] k h = h
alongside_from P Q f (a ∷ ms) (b ∷ bs) k h = (h.0, f a.at b.at k.0 h.1, alongside_from P Q f ms bs k.1 h.2)

-- ---- names of a text begin behind its start

later_from : (n last : ℕ) (ps : List PlacedToken) → n ≤ last → InOrder last ps → BeginFrom n ps
later_from n last [] l h = tt
later_from n last (p ∷ ps) l h = (omega (arith, l, h.0), later_from n p.spot.hi ps (omega (arith, l, h.0, h.1)) h.3)

names_from_start : (x : Setting) (modules : Bool) (t : Tree) (text : List ℕ) → TreeSpells x modules t text → NamesFrom 1 (names t)
names_from_start x modules t text h =
    let ps = h.reads.0 in
    names_begin_there 1 t (code_of modules x.syntax) (record { last = text_start; places = ps }) h.reads.1 (program_is_no_quasi t (goal_is_program modules t h.reads.2)) h.reads.4.0
    (later_from 1 text_start ps (omega arith) (places_in_order text_start modules text ps h.reads.3))

-- ---- what is written of a program

placed : (look : Look) (modules : Bool) (t : Tree) (p : Page) → ProgramGoes look t → IsEmptyPage p → BeginsMarks p → ArePlaced text_start modules (laid look Alone t) p
placed look modules (script s ss None) p g e b = names_are_placed text_start modules _ p e b g
placed look modules (script s ss (Some own)) p g e b = names_behind_hashbangs text_start modules (when (is_empty ss) (start s)) own (statements look ss · when (not look.omits_last) commit) p e b (start_is_silent (is_empty ss) s) g.0 g.1
placed look modules (es_module s ss None) p g e b = names_are_placed text_start modules _ p e b g
placed look modules (es_module s ss (Some own)) p g e b = names_behind_hashbangs text_start modules (when (is_empty ss) (start s)) own (statements look ss · when (not look.omits_last) commit) p e b (start_is_silent (is_empty ss) s) g.0 g.1
placed look modules _ p g e b = absurd g

marked : (look : Look) (x : Setting) (modules : Bool) (t : Tree) (text : List ℕ) → scalars text ≡ true → TreeSpells x modules t text → (q : Page) → SaysPlaced text_start modules (laid look Alone t) q → MarksNames x modules t q
marked look x modules t text e h q w m end i j v r =
    alongside_from (StandsFor w.naming) _ (λ pos at l s. w.pairs pos at s m end i j (λ z. omega (arith, l, z))) (names t) (names v) (names_from_start x modules t text h)
    (stand_alongside w.naming (names t) (names v) (names_stand w.naming look x modules t text (chars q.out) e h w.tiles v r))

pub names_are_marked : NamesAreMarked
names_are_marked look x modules t text p e h l b =
    let w = placed look modules t p (programs_go look modules x.syntax t text e h.reads) l b in
    (marked look x modules t text e h _ w.0, marked look x modules t text e h _ w.1)
