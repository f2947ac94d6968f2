-- A written text with other trivia between its tokens is read back.
use Rattle.std.proofs.Common.{◌≡◌, ℕ, ◌+◌, Bool, true, List, [], ◌∷◌, None, Some, refl, sym, ap, subst, ◌∙◌, true≢false}
use lib.Utf8.{scalars}
use Rattle.lex_pieces.specs.Places.{bytes}
use Rattle.tree_spec.specs.Tree.{Tree, script, es_module}
use Rattle.grammar_spec.specs.Tokens.Input.{PlacedToken, Input, Code, unplaced}
use Rattle.grammar_spec.specs.Grammar.{Produces}
use Rattle.grammar_laws.specs.Slash.TemplateLaws.{Outside, over}
use Rattle.grammar_laws.proofs.context.PlacedLemmas.{has_places}
use Rattle.grammar_laws.proofs.slash.Braces.{programs_match}
use Rattle.grammar_text_spec.specs.Text.{Setting, TreeSpells, code_of, is_of_goal, text_start}
use Rattle.grammar_text_spec.specs.Tiled.{Tile}
use Rattle.print_writers.specs.Pages.{Page}
use Rattle.print_layout_spec.specs.declared.look.Look.{Look}
use Rattle.print_layout_spec.specs.declared.look.Stand.TheVariants.{Alone}
use Rattle.print_layout_spec.specs.Layout.{laid}
use Rattle.print_weave_laws.specs.Cells.{text_of, woven}
use Rattle.again_laws.specs.Laws.{HasLineText, kinds_alone}
use Rattle.again_laws.specs.DerivedLaws.DerivedLaws.{is_program}
use Rattle.again_laws.specs.Tokens.Means.{Known}
use Rattle.again_laws.specs.Tokens.Spacings.{Spaced}
use Rattle.again_laws.specs.Tokens.Naming.{Naming, StandsFor, unplaced_names}
use Rattle.again_laws.specs.Tokens.Ties.{kind_before}
use Rattle.again_laws.specs.Tiling.Laws.{IsTiled}
use Rattle.again_laws.specs.Tiling.Tiles.{SameTokens, SaysTiles, anywhere, IsEmptyPage}
use Rattle.again_laws.specs.Derived.Redo.{Plain, kept_at}
use Rattle.again_laws.specs.Derived.Written.{leaves_by}
use Rattle.again_laws.proofs.Hashbangs.{line_text}
use Rattle.again_laws.proofs.Shapes.{goal_is_placed, goal_is_program, placed_again, programmed, redone_goal, same_tokens}
use Rattle.again_laws.proofs.Written.{told_is_read_back}
use Rattle.again_laws.proofs.derived_laws.Programs.{derived_again}
use Rattle.again_laws.proofs.leaf.TextsMean.{texts_mean}
use Rattle.again_laws.proofs.text.Programs.{modules_are_tiled, scripts_are_tiled}
use Rattle.again_laws.proofs.tiling.Names.{tiles_weaker}
use Rattle.again_laws.proofs.tiling.TiledByGoals.{tiles_again}
use Rattle.again_laws.proofs.tokens.KindsBefore.{kinds_stand}
use Rattle.again_laws.proofs.tokens.Known.{tokens_are_known}
use Rattle.again_laws.proofs.tokens.SaidIsTold.{bridge}
use Rattle.again_weave_laws.specs.Cells.{led}
use Rattle.again_weave_laws.specs.Laws.{IsWoven, WovenReadsBack}
use Rattle.again_weave_laws.proofs.Cells.{celled_of, text_places}
use Rattle.again_weave_laws.proofs.Weaving.{woven_tells}

-- ---- what is said has the places of a derivation

-- Tokens that tile the text under goals that match, and that are those of the layout.
record Matched (modules : Bool) (out : List ℕ) (ps : List PlacedToken) : Type 0 where
  places : List PlacedToken
  same : SameTokens ps places
  tiles : Tile text_start modules out places
  matches : over (Outside []) places ≡ Outside []

matched : (look : Look) (x : Setting) (modules : Bool) (t : Tree) (text out : List ℕ) → scalars text ≡ true → TreeSpells x modules t text → (w : SaysTiles (StandsFor unplaced_names) text_start modules (laid look Alone t) out)
    → Matched modules out w.places
matched look x modules t text out e h w =
    let n : Naming = kinds_alone (kind_before w.places) in
    let c : Code = code_of modules x.syntax in
    let i = goal_is_program modules t h.reads.2 in
    let k = tokens_are_known text_start modules text h.reads.0 e h.reads.3 in
    let ts : Input = record { last = text_start; places = w.places } in
    let told = bridge n (laid look Alone t) Spaced w.gap ts w.over (λ b m. m.places ≡ []) w.says (kinds_stand w.places) w.all in
    let b = derived_again n look (texts_mean look.style) t i c (record { last = text_start; places = h.reads.0 }) h.reads.1 h.reads.4.0 k Spaced ts told in
    let u = b.0 in
    let a = b.3 in
    let g : is_of_goal modules u ≡ true = sym (redone_goal modules (kept_at n.written) Plain u) ∙ (ap (λ v. is_of_goal modules v) (a.so Plain) ∙ (redone_goal modules (leaves_by look n.read n.written) Plain t ∙ h.reads.2)) in
    let j = goal_is_program modules u g in
    let o = has_places (unplaced c) u ts b.1 b.2 in
    let s : Produces u c (record { last = text_start; places = o.0 }) b.1 = subst (λ (v : Code). Produces u v (record { last = text_start; places = o.0 }) b.1) (placed_again modules x.syntax) o.2 in
    let q = programs_match u c _ b.1 (goal_is_placed modules x.syntax) (programmed u c _ b.1 j s) in
    let m = same_tokens w.places o.0 o.1 in
    record { places = o.0; same = m; tiles = tiles_again text_start modules out w.places o.0 w.tiles w.goals m q; matches = q }

-- ---- one written text

same_on : (xs ys zs : List PlacedToken) → SameTokens xs ys → SameTokens ys zs → SameTokens xs zs
same_on [] [] [] h k = tt
same_on [] [] (z ∷ zs) h k = absurd k
same_on [] (y ∷ ys) zs h k = absurd h
same_on (x ∷ xs) [] zs h k = absurd h
same_on (x ∷ xs) (y ∷ ys) [] h k = absurd k
same_on (x ∷ xs) (y ∷ ys) (z ∷ zs) h k = ((h.0.0 ∙ k.0.0, h.0.1 ∙ k.0.1), same_on xs ys zs h.1 k.1)

one_woven : (look : Look) (x : Setting) (modules : Bool) (t : Tree) (text out : List ℕ) → scalars text ≡ true → TreeSpells x modules t text → SaysTiles anywhere text_start modules (laid look Alone t) out → IsWoven look x modules t out
one_woven look x modules t text out e h says =
    let w : SaysTiles (StandsFor unplaced_names) text_start modules (laid look Alone t) out = tiles_weaker anywhere (StandsFor unplaced_names) (λ pos at k. refl) text_start modules (laid look Alone t) out says in
    let m = matched look x modules t text out e h w in
    let c = celled_of text_start modules out m.places m.tiles m.matches in
    let same = same_on w.places m.places (text_places (text_start + bytes out) c.hash c.cells c.tail) m.same c.same in record {
      hash = c.hash;
      cells = c.cells;
      tail = c.tail;
      celled = c.celled;
      read_back = λ gaps over may.
          let z = woven_tells text_start modules (laid look Alone t) out (StandsFor unplaced_names) w.places w.gap w.over w.says w.all c.cells c.tail gaps over c.hash c.celled same may in
          told_is_read_back look x modules t text (led c.hash (text_of (woven c.cells gaps) over)) z.0 e h z.1;
    }

-- ---- every program

tiled : (look : Look) (modules : Bool) (t : Tree) (c : Code) (ts r : Input) (p : Page) → is_program t ≡ true → Known ts.places → Produces t c ts r → HasLineText t → IsEmptyPage p → IsTiled text_start modules (laid look Alone t) p
tiled look modules (script s ss None) c ts r p i k h l m = scripts_are_tiled look text_start modules s ss None c ts r p k h tt m
tiled look modules (script s ss (Some own)) c ts r p i k h l m = scripts_are_tiled look text_start modules s ss (Some own) c ts r p k h l m
tiled look modules (es_module s ss None) c ts r p i k h l m = modules_are_tiled look text_start modules s ss None c ts r p k h tt m
tiled look modules (es_module s ss (Some own)) c ts r p i k h l m = modules_are_tiled look text_start modules s ss (Some own) c ts r p k h l m
tiled look modules _ c ts r p i k h l m = absurd (true≢false (sym i))

pub woven_reads_back : WovenReadsBack
woven_reads_back look x modules t text p e h m =
    let c : Code = code_of modules x.syntax in
    let k = tokens_are_known text_start modules text h.reads.0 e h.reads.3 in
    let l = line_text text_start modules text h.reads.0 t c h.reads.1 e h.reads.3 h.reads.4.0 in
    let w = tiled look modules t c (record { last = text_start; places = h.reads.0 }) h.reads.1 p (goal_is_program modules t h.reads.2) k h.reads.4.0 l m in
    (one_woven look x modules t text _ e h w.0, one_woven look x modules t text _ e h w.1)
