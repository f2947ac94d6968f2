-- The theorem, from the laws of its steps.
use Rattle.std.proofs.Common.{◌≡◌, ◌≤◌, ℕ, Bool, true, not, List, [], Some, None, refl, sym, ap, subst, ◌∙◌}
use lib.Utf8.{scalars}
use Rattle.tree_spec.specs.Tree.{Tree, script, es_module, tpl}
use Rattle.grammar_spec.specs.Tokens.Input.{PlacedToken, Input, Code, unplaced}
use Rattle.grammar_spec.specs.Grammar.{Produces}
use Rattle.grammar_laws.proofs.context.PlacedLemmas.{has_places}
use Rattle.grammar_laws.proofs.slash.Braces.{programs_match}
use Rattle.grammar_text_spec.specs.Tiled.{Tile}
use Rattle.grammar_text_spec.specs.Text.{Setting, Reads, TreeSpells, code_of, is_of_goal, text_start}
use Rattle.grammar_text_laws.proofs.OneLemmas.{one_tree_reads}
use Rattle.print_writers.specs.Pages.{Page}
use Rattle.print_layout_spec.specs.declared.look.Look.{Look}
use Rattle.print_layout_spec.specs.declared.look.Stand.TheVariants.{Alone}
use Rattle.print_layout_spec.specs.Looks.{Laid, commit, start, when, ◌·◌}
use Rattle.print_layout_spec.specs.Layout.{is_empty, laid, statements}
use Rattle.again_laws.specs.Tokens.Spacings.{Spaced}
use Rattle.again_laws.specs.Tokens.Naming.{Naming, StandsFor, unplaced_names}
use Rattle.again_laws.specs.Tokens.Ties.{kind_before}
use Rattle.again_laws.proofs.tokens.KindsBefore.{kinds_stand}
use Rattle.again_laws.proofs.tokens.SaidIsTold.{bridge}
use Rattle.again_laws.proofs.tokens.Known.{tokens_are_known}
use Rattle.again_laws.specs.Tiling.Laws.{IsTiled}
use Rattle.again_laws.specs.Tiling.Tiles.{SaysTiles, anywhere, IsEmptyPage}
use Rattle.again_laws.proofs.tiling.Names.{tiles_weaker}
use Rattle.again_laws.proofs.tiling.TiledByGoals.{tiles_again}
use Rattle.again_laws.proofs.tiling.Texts.{layouts_are_tiled, hashbangs_are_tiled}
use Rattle.again_laws.proofs.leaf.TextsMean.{texts_mean}
use Rattle.again_laws.specs.Derived.Redo.{Mode, Plain, kept_at, nowhere, Redone}
use Rattle.again_laws.specs.Derived.Every.{every}
use Rattle.again_laws.specs.Derived.Faithful.{HasElements}
use Rattle.again_laws.specs.Derived.Read.{Knowledge, Read}
use Rattle.again_laws.specs.Derived.Written.{leaves_by}
use Rattle.again_laws.specs.Derived.Laws.{kept_names}
use Rattle.again_laws.proofs.derived.EarlyErrors.{legal_alike}
use Rattle.again_laws.proofs.derived.Found.{found}
use Rattle.again_laws.proofs.derived.Mapped.{mapped}
use Rattle.again_laws.proofs.derived.Names.{names_alike}
use Rattle.again_laws.proofs.derived.Programs.{same_program}
use Rattle.again_laws.proofs.derived.Shapes.{clean_alike, nests_alike}
use Rattle.again_laws.proofs.derived_laws.Derived.{derived_is_read}
use Rattle.again_laws.proofs.derived_laws.Leaves.{read_is_faithful}
use Rattle.again_laws.proofs.derived_laws.WrittenAgain.{written_again}
use Rattle.again_laws.specs.DerivedLaws.DerivedLaws.{is_program}
use Rattle.again_laws.proofs.derived_laws.Programs.{derived_again}
use Rattle.again_laws.specs.Laws.{TellsTiles, ToldIsReadBack, kinds_alone, GoingIsReadBack, HasLineText, IsReadBack, NamesReadBack, ProgramGoes, ProgramsAreTiled, ProgramsGo, TiledIsReadBack}
use Rattle.again_laws.proofs.Hashbangs.{line_text}
use Rattle.again_laws.proofs.Shapes.{redone_goal, goal_is_program, program_is_no_quasi, programmed, goal_is_placed, placed_again, same_tokens, start_is_silent}

-- ---- what is written is tiled by tokens that the layout says

tiled : (look : Look) (modules : Bool) (t : Tree) (p : Page) → ProgramGoes look t → HasLineText t → IsEmptyPage p → IsTiled text_start modules (laid look Alone t) p
tiled look modules (script s ss None) p g l m = layouts_are_tiled text_start modules _ p m g
tiled look modules (script s ss (Some own)) p g l m = hashbangs_are_tiled text_start modules (when (is_empty ss) (start s)) own (statements look ss · when (not look.omits_last) commit) p m (start_is_silent (is_empty ss) s) l g
tiled look modules (es_module s ss None) p g l m = layouts_are_tiled text_start modules _ p m g
tiled look modules (es_module s ss (Some own)) p g l m = hashbangs_are_tiled text_start modules (when (is_empty ss) (start s)) own (statements look ss · when (not look.omits_last) commit) p m (start_is_silent (is_empty ss) s) l g
tiled look modules _ p g l m = absurd g

going_are_tiled : (look : Look) → ProgramsGo look → ProgramsAreTiled look
going_are_tiled look go modules t c ts r p i h k l m = tiled look modules t p (go t c ts r i h k) l m

-- ---- the pieces of a template that is derived are pieces

abbrev anything : Knowledge
anything = record { Known = λ ps. Unit {0}; later = λ ts m e k. tt }

elements : (m : Mode) (t : Tree) → Read (λ ps. Unit {0}) m t → HasElements m t
elements m (tpl s es qs) h = h
elements m _ h = tt

has_elements : (t : Tree) (c : Code) (ts r : Input) → is_program t ≡ true → Produces t c ts r → every HasElements Plain t
has_elements t c ts r i h = mapped (Read anything.Known) HasElements elements Plain t (found anything t Plain refl (program_is_no_quasi t i) c ts r h tt).0

-- ---- one written text

-- A tree that reads a text is this one but for places and spellings, and its names stand for those of this one.
record ReadAs (n : Naming) (look : Look) (x : Setting) (modules : Bool) (t : Tree) (out : List ℕ) : Type 0 where
  tree : Tree
  reads : Reads modules x.syntax tree out
  same : Redone (leaves_by look n.read n.written) Plain t tree
  whole : every HasElements Plain tree

-- Tokens that a layout tells, and that tile a text, are derived again.
told_as : (n : Naming) (look : Look) (x : Setting) (modules : Bool) (t : Tree) (text out : List ℕ) → scalars text ≡ true → TreeSpells x modules t text → TellsTiles n text_start modules (laid look Alone t) out → ReadAs n look x modules t out
told_as n look x modules t text out e h w =
    let c : Code = code_of modules x.syntax in
    let i = goal_is_program modules t h.reads.2 in
    let k = tokens_are_known text_start modules text h.reads.0 e h.reads.3 in
    let ts : Input = record { last = text_start; places = w.places } in
    let b = derived_again n look (texts_mean look.style) t i c (record { last = text_start; places = h.reads.0 }) h.reads.1 h.reads.4.0 k w.behind ts w.told in
    let u = b.0 in
    let a = b.3 in
    let g : is_of_goal modules u ≡ true = sym (redone_goal modules (kept_at n.written) Plain u) ∙ (ap (λ v. is_of_goal modules v) (a.so Plain) ∙ (redone_goal modules (leaves_by look n.read n.written) Plain t ∙ h.reads.2)) in
    let j = goal_is_program modules u g in
    let o = has_places (unplaced c) u ts b.1 b.2 in
    let s : Produces u c (record { last = text_start; places = o.0 }) b.1 = subst (λ (v : Code). Produces u v (record { last = text_start; places = o.0 }) b.1) (placed_again modules x.syntax) o.2 in
    let f : Tile text_start modules out o.0 = tiles_again text_start modules out w.places o.0 w.tiles w.goals (same_tokens w.places o.0 o.1) (programs_match u c _ b.1 (goal_is_placed modules x.syntax) (programmed u c _ b.1 j s)) in
    record {
      tree = u;
      reads = (o.0, b.1, g, f, (s, clean_alike look n.read n.written Plain t u a ∙ h.reads.4.1));
      same = a;
      whole = has_elements u c _ b.1 j s;
    }

-- a naming that tells which kinds stand before the tokens
naming_told : Naming → List PlacedToken → Naming
naming_told n ps = record { read = n.read; written = n.written; behind = kind_before ps }

-- What a layout says it tells.
tells_tiles : (n : Naming) (modules : Bool) (f : Laid) (out : List ℕ) (w : SaysTiles (StandsFor n) text_start modules f out) → TellsTiles (naming_told n w.places) text_start modules f out
unfolding naming_told
tells_tiles n modules f out w =
    let ts : Input = record { last = text_start; places = w.places } in record {
      places = w.places;
      tiles = w.tiles;
      goals = w.goals;
      behind = Spaced;
      told = bridge (naming_told n w.places) f Spaced w.gap ts w.over (λ b m. m.places ≡ []) w.says (kinds_stand w.places) w.all;
    }

read_as : (n : Naming) (look : Look) (x : Setting) (modules : Bool) (t : Tree) (text out : List ℕ) → scalars text ≡ true → TreeSpells x modules t text → SaysTiles (StandsFor n) text_start modules (laid look Alone t) out → ReadAs n look x modules t out
unfolding naming_told
read_as n look x modules t text out e h w =
    let a = told_as (naming_told n w.places) look x modules t text out e h (tells_tiles n modules (laid look Alone t) out w) in
    record { tree = a.tree; reads = a.reads; same = a.same; whole = a.whole }

-- The names of each tree that reads such a text stand for those of this one.
pub names_stand : NamesReadBack
names_stand n look x modules t text out e h w v r =
    let a = read_as n look x modules t text out e h w in
    subst (λ (u : Tree). kept_names n.written u ≡ kept_names n.read t) (sym (one_tree_reads modules x.syntax v a.tree out r a.reads)) (names_alike look n.read n.written Plain t a.tree a.same)

-- Such a tree is of the same program, and no other reads the text; and it is written as the other.
pub told_is_read_back : ToldIsReadBack
told_is_read_back look x modules t text out f e h w =
    let b = told_as (kinds_alone f) look x modules t text out e h w in
    let u = b.tree in
    let a = b.same in
    let k = tokens_are_known text_start modules text h.reads.0 e h.reads.3 in
    let read = derived_is_read Plain t (code_of modules x.syntax) _ h.reads.1 refl (program_is_no_quasi t (goal_is_program modules t h.reads.2)) h.reads.4.0 k in
    let y = read_is_faithful look Plain t read in
    record {
      tree = u;
      spells = record { reads = b.reads; clean = legal_alike look nowhere nowhere Plain t u y a x.syntax h.clean; within = subst (λ n. n ≤ x.limit) (sym (nests_alike look nowhere nowhere Plain t u a)) h.within };
      same = same_program look nowhere nowhere Plain t u y b.whole a;
      only = λ v n. one_tree_reads modules x.syntax v u out n b.reads;
      again = λ two m. written_again look two m t u read a;
    }

written : (look : Look) (x : Setting) (modules : Bool) (t : Tree) (text out : List ℕ) → scalars text ≡ true → TreeSpells x modules t text → SaysTiles anywhere text_start modules (laid look Alone t) out → IsReadBack look x modules t out
unfolding naming_told
written look x modules t text out e h w =
    let v : SaysTiles (StandsFor unplaced_names) text_start modules (laid look Alone t) out = tiles_weaker anywhere (StandsFor unplaced_names) (λ pos at k. refl) text_start modules (laid look Alone t) out w in
    told_is_read_back look x modules t text out (kind_before v.places) e h (tells_tiles unplaced_names modules (laid look Alone t) out v)

pub tiled_is_read_back : TiledIsReadBack
tiled_is_read_back look all x modules t text p e h m =
    let ps = h.reads.0 in
    let k = tokens_are_known text_start modules text ps e h.reads.3 in
    let l = line_text text_start modules text ps t (code_of modules x.syntax) h.reads.1 e h.reads.3 h.reads.4.0 in
    let w = all modules t (code_of modules x.syntax) (record { last = text_start; places = ps }) h.reads.1 p (goal_is_program modules t h.reads.2) h.reads.4.0 k l m in
    (written look x modules t text _ e h w.0, written look x modules t text _ e h w.1)

pub going_is_read_back : GoingIsReadBack
going_is_read_back look go = tiled_is_read_back look (going_are_tiled look go)
