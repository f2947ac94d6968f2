-- Tokens that tile a text stand in it, with what stands before each of them (ECMA-262, clause 12).
use Rattle.std.proofs.Common.{◌≡◌, ◌≢◌, ℕ, ◌+◌, ◌<◌, ◌⊎◌, inl, inr, Bool, true, false, ◌||◌, List, [], ◌∷◌, ◌++◌, length, Option, Some, None, refl, sym, ap, subst, ◌∙◌, arith}
use Rattle.std.specs.Prelude.{nat_le, zero, suc}
use Rattle.std.proofs.lemmas.Bool.{false≢true, true≢false, eqb-true}
use Rattle.std.proofs.lemmas.Bool.Decides.{nat_tests}
use Rattle.base_proofs.proofs.Lists.{nil_not_cons}
use Rattle.base_token.specs.Kinds.{template_kind, shebang_kind}
use Rattle.base_token.specs.Tokens.{Spot}
use Rattle.lex_pieces.specs.Places.{bytes}
use Rattle.lex_pieces.specs.Classes.{is_line_char}
use Rattle.lex_pieces.specs.Runs.{Ends}
use Rattle.lex_pieces.specs.Trivia.{IsSkipped, NoHashbang, NoTrivia, spelled}
use Rattle.lex_pieces.specs.declared.trivia.Goal.{Goal}
use Rattle.lex_pieces.specs.declared.trivia.LineMark.{LineMark}
use Rattle.lex_pieces.specs.declared.trivia.LineMark.TheVariants.{Slashes, HtmlOpen, HtmlClose}
use Rattle.lex_token.specs.declared.goal.LexicalGoal.{LexicalGoal}
use Rattle.lex_token.specs.declared.goal.LexicalGoal.TheVariants.{Div, RegExp, TemplateTail, TemplateEnd}
use Rattle.lex_token.specs.Lexemes.{SpecLexeme, IsLexeme}
use Rattle.lex_step_laws.specs.States.{shebang, spot_at}
use Rattle.lex_step_laws.proofs.Tokens.{token_shorter}
use Rattle.lex_step_laws.proofs.Bounds.{characters_kind}
use Rattle.lex_run_laws.proofs.Behind.{lexeme_behind}
use Rattle.lex_run_laws.proofs.Fronts.{no_trivia_by}
use Rattle.grammar_spec.specs.Tokens.Input.{PlacedToken, Code}
use Rattle.grammar_laws.specs.Slash.TemplateLaws.{Region, Outside, Inside, Behind, Nowhere, after, over}
use Rattle.grammar_laws.proofs.slash.Braces.{programs_match}
use Rattle.grammar_laws.proofs.slash.Fits.{fits_on, low_there, not_lost}
use Rattle.grammar_text_spec.specs.Text.{code_of, text_start}
use Rattle.grammar_text_spec.specs.Tiled.{Tile, AreTiles, IsTile, IsBefore, goal_at, whole}
use Rattle.grammar_text_laws.proofs.Apart.{spots_same}
use Rattle.print_weave_laws.specs.Gaps.{Trivium, gap_before, breaks_line, AreTrivia}
use Rattle.print_weave_laws.specs.Cells.{Cell, text_of, is_inner, IsCell, Closes, Stand}
use Rattle.print_weave_laws.specs.Laws.{is_nothing}
use Rattle.print_weave_laws.proofs.Gaps.{gaps_are_skipped, runs_are_gaps}
use Rattle.print_weave_laws.proofs.Inserting.{no_tail}
use Rattle.again_laws.specs.Tiling.Tiles.{AllHaveGoals, SameTokens}
use Rattle.again_laws.proofs.Shapes.{goal_is_placed, goal_is_program, programmed}
use Rattle.again_weave_laws.specs.Cells.{goal_number, all_placed, hash_placed, IsCelled}
use Rattle.again_weave_laws.specs.Laws.{ReadIsCelled}

-- ---- one token

-- The token of a tile stands in the text before the rest.
record Standing (end : ℕ) (goal : Goal) (first : Bool) (text : List ℕ) (p : PlacedToken) (rest : List ℕ) (g : LexicalGoal) : Type 0 where
  cell : Cell
  is : IsCell goal first cell rest
  whole : text ≡ gap_before cell.before (cell.own ++ rest)
  spot_is : p.spot ≡ spot_at end (breaks_line cell.before) cell.lexeme.token (cell.own ++ rest) rest
  escaped_is : p.escaped ≡ cell.lexeme.escaped
  under : cell.goal ≡ g

some_left : (from rest : List ℕ) → length rest < length from → is_nothing from ≡ false
some_left [] rest l = absurd (omega (arith, l))
some_left (c ∷ cs) rest l = refl

module _ (end : ℕ) (goal : Goal) (first : Bool) (text : List ℕ) (p : PlacedToken) (rest : List ℕ) where
  -- outside of templates, behind all the trivia that is there
  outer : (g : LexicalGoal) → is_inner g ≡ false → (line_break : Bool) (from : List ℕ) (x : SpecLexeme) → IsSkipped goal first text line_break from → IsLexeme g from x rest → p.spot ≡ spot_at end line_break x.token from rest → p.escaped ≡ x.escaped
      → Standing end goal first text p rest g
  outer g i line_break from x b l s e =
      let own = lexeme_behind g from x rest l in
      let u = runs_are_gaps goal first text b.0 from b.1 in
      let lines : line_break ≡ breaks_line u.0 = b.2 ∙ sym u.3 in
      record {
        cell = record { before = u.0; own = own.0; goal = g; lexeme = x };
        is = record {
          trivia = subst (λ (over : Bool). AreTrivia goal first over u.0) (some_left from rest (token_shorter g from x rest (no_tail g i) l)) u.2;
          tight = λ j. absurd (true≢false (sym j ∙ i));
          quiet = λ _. subst (λ (cs : List ℕ). NoTrivia goal (first || breaks_line u.0) cs) own.1 (subst (λ (b : Bool). NoTrivia goal (first || b) from) (sym u.3) b.1.1);
          stands = subst (λ (cs : List ℕ). IsLexeme g cs x rest) own.1 l;
        };
        whole = u.1 ∙ ap (gap_before u.0) own.1;
        spot_is = s ∙ spots_same end line_break (breaks_line u.0) x.token x.token from (own.0 ++ rest) rest rest lines own.1 refl refl;
        escaped_is = e;
        under = refl;
      }

  -- among a template's characters and before what ends them stands nothing
  inner : (g : LexicalGoal) → is_inner g ≡ true → (line_break : Bool) (from : List ℕ) (x : SpecLexeme) → (text ≡ from) × (line_break ≡ false) → IsLexeme g from x rest → p.spot ≡ spot_at end line_break x.token from rest → p.escaped ≡ x.escaped
      → Standing end goal first text p rest g
  inner g i line_break from x b l s e =
      let own = lexeme_behind g from x rest l in record {
        cell = record { before = []; own = own.0; goal = g; lexeme = x };
        is = record { trivia = tt; tight = λ _. refl; quiet = λ j. absurd (true≢false (sym i ∙ j)); stands = subst (λ (cs : List ℕ). IsLexeme g cs x rest) own.1 l };
        whole = b.0 ∙ own.1;
        spot_is = s ∙ spots_same end line_break false x.token x.token from (own.0 ++ rest) rest rest b.1 own.1 refl refl;
        escaped_is = e;
        under = refl;
      }

  module _ (h : IsTile end goal first text p rest) where
    before_at : (n : ℕ) → p.goal ≡ n → IsBefore n goal first text h.0 h.1
    before_at n e = subst (λ (k : ℕ). IsBefore k goal first text h.0 h.1) e h.3

    lexeme_at : (n : ℕ) → p.goal ≡ n → IsLexeme (goal_at n) h.1 h.2 rest
    lexeme_at n e = subst (λ (k : ℕ). IsLexeme (goal_at k) h.1 h.2 rest) e h.4

    -- by the goal of its place
    outside_stands : nat_le p.goal 1 ≡ true → (g : LexicalGoal) × (is_inner g ≡ false) × Standing end goal first text p rest g
    outside_stands l = by p.goal refl l
      where
        by : (n : ℕ) → p.goal ≡ n → nat_le n 1 ≡ true → (g : LexicalGoal) × (is_inner g ≡ false) × Standing end goal first text p rest g
        by zero e l = (Div, refl, outer Div refl h.0 h.1 h.2 (before_at 0 e) (lexeme_at 0 e) h.5 h.6)
        by (suc zero) e l = (RegExp, refl, outer RegExp refl h.0 h.1 h.2 (before_at 1 e) (lexeme_at 1 e) h.5 h.6)
        by (suc (suc n)) e l = absurd (let f : nat_le (suc (suc n)) 1 ≡ false = grind (arith, nat_tests) in false≢true (sym f ∙ l))

    characters_stand : p.goal ≡ 2 → Standing end goal first text p rest TemplateTail
    characters_stand e = inner TemplateTail refl h.0 h.1 h.2 (before_at 2 e) (lexeme_at 2 e) h.5 h.6

    end_stands : p.goal ≡ 3 → Standing end goal first text p rest TemplateEnd
    end_stands e = inner TemplateEnd refl h.0 h.1 h.2 (before_at 3 e) (lexeme_at 3 e) h.5 h.6

    characters_are : p.goal ≡ 2 → p.spot.token.kind ≡ template_kind
    characters_are e = ap (λ (s : Spot). s.token.kind) h.5 ∙ characters_kind h.1 h.2 rest (lexeme_at 2 e)

-- ---- all of them

-- Behind the characters of a template comes what ends them.
abbrev BeginsIn : Region → List Cell → Type 0
BeginsIn (Behind s) [] = ⊥
BeginsIn (Behind s) (y ∷ ys) = y.goal ≡ TemplateEnd
BeginsIn g xs = Unit {0}

-- These are tokens that stand in the text.
pub record AreCells (end : ℕ) (goal : Goal) (first : Bool) (text : List ℕ) (ps : List PlacedToken) : Type 0 where
  pub cells : List Cell
  pub tail : List Trivium
  pub text_is : text ≡ text_of cells tail
  pub stand : Stand goal first cells tail
  pub same : SameTokens ps (all_placed end cells tail)

record Cells (end : ℕ) (goal : Goal) (first : Bool) (text : List ℕ) (ps : List PlacedToken) (g : Region) : Type 0 where
  are : AreCells end goal first text ps
  begins : BeginsIn g are.cells

closes_none : (x : Cell) (xs : List Cell) → x.goal ≢ TemplateTail → Closes x xs
closes_none x [] n = n
closes_none x (y ∷ ys) n = λ e. absurd (n e)

closes_tail : (x : Cell) (s : List Bool) (xs : List Cell) → BeginsIn (Behind s) xs → Closes x xs
closes_tail x s [] b = absurd b
closes_tail x s (y ∷ ys) b = λ e. b

module _ (end : ℕ) (goal : Goal) where
  one_more : (first : Bool) (text : List ℕ) (p : PlacedToken) (ps : List PlacedToken) (rest : List ℕ) (g : LexicalGoal) (s : Standing end goal first text p rest g) (c : AreCells end goal false rest ps) → Closes s.cell c.cells
      → AreCells end goal first text (p ∷ ps)
  one_more first text p ps rest g s c k = record {
    cells = s.cell ∷ c.cells;
    tail = c.tail;
    text_is = s.whole ∙ ap (λ (r : List ℕ). gap_before s.cell.before (s.cell.own ++ r)) c.text_is;
    stand = (subst (λ (r : List ℕ). IsCell goal first s.cell r) c.text_is s.is, k, c.stand);
    same = ((s.spot_is ∙ ap (λ (r : List ℕ). spot_at end (breaks_line s.cell.before) s.cell.lexeme.token (s.cell.own ++ r) r) c.text_is, s.escaped_is), c.same);
  }

  none_end : (g : Region) (xs : List Cell) → g ≡ Outside [] → BeginsIn g xs
  none_end g xs e = subst (λ (r : Region). BeginsIn r xs) (sym e) tt

  are_cells : (first : Bool) (g : Region) (text : List ℕ) (ps : List PlacedToken) → AreTiles end goal first text ps → over g ps ≡ Outside [] → Cells end goal first text ps g
  unfolding one_more
  are_cells first g text [] h o =
      let u = runs_are_gaps goal first text h.1.0 [] h.1.1 in record {
        are = record { cells = []; tail = u.0; text_is = u.1; stand = u.2; same = tt };
        begins = none_end g [] o;
      }
  are_cells first (Outside s) text (p ∷ ps) h o =
      let z = fits_on (Outside s) p ps o in
      let t = outside_stands end goal first text p h.0 h.1 (low_there s p.spot.token.kind p.goal z.0) in
      let c = are_cells false (after (Outside s) p.spot.token.kind) h.0 ps h.2 z.1 in
      record { are = one_more first text p ps h.0 t.0 t.2 c.are (closes_none t.2.cell c.are.cells (λ e. no_tail t.0 t.1 (sym t.2.under ∙ e))); begins = tt }
  are_cells first (Inside s) text (p ∷ ps) h o =
      let z = fits_on (Inside s) p ps o in
      let two : p.goal ≡ 2 = eqb-true p.goal 2 z.0 in
      let t = characters_stand end goal first text p h.0 h.1 two in
      let k : after (Inside s) p.spot.token.kind ≡ Behind s = ap (after (Inside s)) (characters_are end goal first text p h.0 h.1 two) in
      let c = are_cells false (Behind s) h.0 ps h.2 (subst (λ (r : Region). over r ps ≡ Outside []) k z.1) in
      record { are = one_more first text p ps h.0 TemplateTail t c.are (closes_tail t.cell s c.are.cells c.begins); begins = tt }
  are_cells first (Behind s) text (p ∷ ps) h o =
      let z = fits_on (Behind s) p ps o in
      let t = end_stands end goal first text p h.0 h.1 (eqb-true p.goal 3 z.0) in
      let c = are_cells false (after (Behind s) p.spot.token.kind) h.0 ps h.2 z.1 in
      record { are = one_more first text p ps h.0 TemplateEnd t c.are (closes_none t.cell c.are.cells (λ e. let f : TemplateEnd ≡ TemplateTail = sym t.under ∙ e in cc)); begins = t.under }
  are_cells first Nowhere text (p ∷ ps) h o = absurd (not_lost (p ∷ ps) o)

-- ---- a whole text

-- the places of a text's tokens, behind a hashbang where there is one
abbrev pub text_places : ℕ → Option (List ℕ) → List Cell → List Trivium → List PlacedToken
text_places end None xs tail = all_placed end xs tail
text_places end (Some own) xs tail = hash_placed end own (text_of xs tail) ∷ all_placed end xs tail

pub record Celled (start : ℕ) (modules : Bool) (text : List ℕ) (ps : List PlacedToken) : Type 0 where
  pub hash : Option (List ℕ)
  pub cells : List Cell
  pub tail : List Trivium
  pub celled : IsCelled modules hash cells tail text
  pub same : SameTokens ps (text_places (start + bytes text) hash cells tail)

pub celled_of : (start : ℕ) (modules : Bool) (text : List ℕ) (ps : List PlacedToken) → Tile start modules text ps → over (Outside []) ps ≡ Outside [] → Celled start modules text ps
celled_of start modules text ps (inl h) o =
    let c = (are_cells (start + bytes text) (whole modules) true (Outside []) text ps h.1 o).are in record {
      hash = None;
      cells = c.cells;
      tail = c.tail;
      celled = record { text_is = c.text_is; is_led = subst (λ (cs : List ℕ). NoHashbang cs) c.text_is h.0; stand = c.stand };
      same = c.same;
    }
celled_of start modules text [] (inr h) o = absurd h
celled_of start modules text (p ∷ ps) (inr h) o =
    let end : ℕ = start + bytes text in
    let t = h.1 in
    let k : p.spot.token.kind ≡ shebang_kind = ap (λ (s : Spot). s.token.kind) t.2 in
    let z = fits_on (Outside []) p ps o in
    let c = (are_cells end (whole modules) false (Outside []) h.0 ps h.2 (subst (λ (j : ℕ). over (after (Outside []) j) ps ≡ Outside []) k z.1)).are in
    let e : text ≡ 35 ∷ 33 ∷ (t.0 ++ text_of c.cells c.tail) = t.1.1 ∙ (ap (λ (l : List ℕ). 35 ∷ 33 ∷ l) t.1.2.0 ∙ ap (λ (r : List ℕ). 35 ∷ 33 ∷ (t.0 ++ r)) c.text_is) in record {
      hash = Some t.0;
      cells = c.cells;
      tail = c.tail;
      celled = record { text_is = e; is_led = (t.1.2.1, subst (λ (cs : List ℕ). Ends is_line_char cs) c.text_is t.1.2.2); stand = c.stand };
      same = ((t.2 ∙ spots_same end false false (shebang t.0).token (shebang t.0).token text (35 ∷ 33 ∷ (t.0 ++ text_of c.cells c.tail)) h.0 (text_of c.cells c.tail) refl e refl c.text_is, t.3), c.same);
    }

pub read_is_celled : ReadIsCelled
read_is_celled modules x t text h =
    let c : Code = code_of modules x.syntax in
    let k = celled_of text_start modules text h.0 h.3 (programs_match t c _ h.1 (goal_is_placed modules x.syntax) (programmed t c _ h.1 (goal_is_program modules t h.2) h.4.0)) in
    (k.hash, k.cells, k.tail, k.celled)

-- ---- tokens that stand in a text tile it

no_mark : (mark : LineMark) (inner : List ℕ) → [] ≢ spelled mark ++ inner
no_mark Slashes inner e = nil_not_cons 47 (47 ∷ inner) e
no_mark HtmlOpen inner e = nil_not_cons 60 (33 ∷ 45 ∷ 45 ∷ inner) e
no_mark HtmlClose inner e = nil_not_cons 45 (45 ∷ 62 ∷ inner) e

quiet_end : (goal : Goal) (first : Bool) → NoTrivia goal first []
quiet_end goal first = no_trivia_by goal first [] (record { space = refl; mark = λ mark inner e. no_mark mark inner e; block = λ inner e. nil_not_cons 47 (42 ∷ inner) e })

skipped : (goal : Goal) (first : Bool) (us : List Trivium) (rest : List ℕ) → AreTrivia goal first (is_nothing rest) us → NoTrivia goal (first || breaks_line us) rest → IsSkipped goal first (gap_before us rest) (breaks_line us) rest
skipped goal first us rest a n = let z = gaps_are_skipped goal first us rest a n in (z.0, z.1, z.2)

module _ (goal : Goal) (first : Bool) (us : List Trivium) (own rest : List ℕ) (x : SpecLexeme) (a : AreTrivia goal first false us) where
  outer_tile : (g : LexicalGoal) → is_inner g ≡ false → NoTrivia goal (first || breaks_line us) (own ++ rest) → IsLexeme g (own ++ rest) x rest → IsSkipped goal first (gap_before us (own ++ rest)) (breaks_line us) (own ++ rest)
  outer_tile g i n l =
      skipped goal first us (own ++ rest) (subst (λ (over : Bool). AreTrivia goal first over us) (sym (some_left (own ++ rest) rest (token_shorter g (own ++ rest) x rest (no_tail g i) l))) a) n

  inner_tile : us ≡ [] → (gap_before us (own ++ rest) ≡ own ++ rest) × (breaks_line us ≡ false)
  inner_tile e = (ap (λ (vs : List Trivium). gap_before vs (own ++ rest)) e, ap breaks_line e)

  tile_under : (g : LexicalGoal) → (is_inner g ≡ true → us ≡ []) → (is_inner g ≡ false → NoTrivia goal (first || breaks_line us) (own ++ rest)) → IsLexeme g (own ++ rest) x rest
      → IsBefore (goal_number g) goal first (gap_before us (own ++ rest)) (breaks_line us) (own ++ rest) × IsLexeme (goal_at (goal_number g)) (own ++ rest) x rest
  tile_under Div t n l = (outer_tile Div refl (n refl) l, l)
  tile_under RegExp t n l = (outer_tile RegExp refl (n refl) l, l)
  tile_under TemplateTail t n l = (inner_tile (t refl), l)
  tile_under TemplateEnd t n l = (inner_tile (t refl), l)

pub are_tiles : (end : ℕ) (goal : Goal) (first : Bool) (xs : List Cell) (tail : List Trivium) → Stand goal first xs tail → AreTiles end goal first (text_of xs tail) (all_placed end xs tail)
are_tiles end goal first [] tail h = (breaks_line tail, skipped goal first tail [] h (quiet_end goal (first || breaks_line tail)))
are_tiles end goal first (x ∷ xs) tail h =
    let t = tile_under goal first x.before x.own (text_of xs tail) x.lexeme h.0.trivia x.goal h.0.tight h.0.quiet h.0.stands in
    (text_of xs tail, (breaks_line x.before, x.own ++ text_of xs tail, x.lexeme, t.0, t.1, refl, refl), are_tiles end goal false xs tail h.2)

has_goal : (g : LexicalGoal) → (goal_number g ≡ 0) ⊎ ((goal_number g ≡ 1) ⊎ ((goal_number g ≡ 2) ⊎ (goal_number g ≡ 3)))
has_goal Div = inl refl
has_goal RegExp = inr (inl refl)
has_goal TemplateTail = inr (inr (inl refl))
has_goal TemplateEnd = inr (inr (inr refl))

pub have_goals : (end : ℕ) (xs : List Cell) (tail : List Trivium) → AllHaveGoals (all_placed end xs tail)
have_goals end [] tail = tt
have_goals end (x ∷ xs) tail = (has_goal x.goal, have_goals end xs tail)
