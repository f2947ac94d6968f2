-- What derives tokens that a lexer hands out reads the text, and what reads the text derives such tokens; so a reading is settled by the text.
use Rattle.std.proofs.Common.{◌≡◌, ◌≤◌, ◌<◌, ℕ, Bool, true, false, List, Result, Ok, Err, refl, sym, ◌∙◌, subst}
use Rattle.base_token.specs.declared.syntax.EsSyntax.{EsSyntax}
use Rattle.tree_spec.specs.Tree.{Tree}
use Rattle.tree_nesting.specs.Nesting.{nesting}
use Rattle.grammar_spec.specs.Tokens.Input.{PlacedToken, Input, Code}
use Rattle.grammar_spec.specs.Grammar.{Derives}
use Rattle.grammar_laws.specs.CompleteBase.Laws.{coded}
use Rattle.grammar_laws.specs.Context.Laws.{SameTokens, placing}
use Rattle.grammar_laws.proofs.context.PlacedLemmas.{has_places, bared, bared_order, strip}
use Rattle.grammar_spec.specs.Reader.Source.{Fault, Unexpected, TooDeep}
use Rattle.lex_step_laws.specs.States.{Text, State}
use Rattle.parse_lexer_laws.specs.Machine.{lexer_machine}
use Rattle.parse_state.specs.Cursors.{Cursor, read_on, stream_of}
use Rattle.parse_source_laws.specs.Sources.{HandsOut}
use Rattle.parse_lexer_laws.specs.Lexed.{OfGoal, SameText}
use Rattle.parse_lexer_laws.proofs.Lexes.{lexer_constant}
use Rattle.grammar_text_spec.specs.Text.{code_of, text_start, Reads}
use Rattle.grammar_text_spec.specs.Tiled.{Tile}
use Rattle.grammar_text_laws.proofs.Ordered.{places_in_order}
use Rattle.parse_lexer_laws.specs.Handed.{handed, AtStart}
use Rattle.parse_lexer_laws.specs.Tiled.{ProgramDerives}
use Rattle.parse_lexer_laws.proofs.Hands.{read_handed}
use Rattle.parse_lexer_laws.proofs.Tiles.{derived_tile}
use Rattle.parse_laws.specs.Parsed.{DerivesList, EachDerived}
use Rattle.parse_laws.specs.Exact.{read_within}
use Rattle.parse_laws.specs.Settled.{SettledBy, Settled}
use Rattle.parse_laws.proofs.SettledLemmas.{first_settled}
use Rattle.parse_laws.specs.TextRead.{EachReads, TextBy, TextSettled, TextsSettled}
use Rattle.parse_laws.proofs.Told.{AreTold, tile_told, handed_is, handed_told, handed_same, told_same, bared_handed, same_places}

-- the code in which tokens alone are judged is that of a program, and so is the code in which goals and contexts are judged again
alone : (modules : Bool) (syntax : EsSyntax) → placing false (code_of modules syntax) ≡ coded false (code_of modules syntax)
alone true syntax = refl
alone false syntax = refl

judged : (modules : Bool) (syntax : EsSyntax) → placing true (coded false (code_of modules syntax)) ≡ code_of modules syntax
judged true syntax = refl
judged false syntax = refl

module _ (limit : ℕ) (modules : Bool) (syntax : EsSyntax) (text : List ℕ) (s : State) (st : AtStart text_start modules text s) where
  -- in front of the first token
  abbrev start : Cursor Text
  start = read_on (lexer_machine.step s) text_start

  -- ---- from tokens to the text

  -- tokens under the goals and in the contexts of a derivation, which the lexer handed out, tile the text
  tiled : (t : Tree) (ps qs : List PlacedToken) (r : Input) → HandsOut (stream_of lexer_machine) ps start → SameTokens ps qs → ProgramDerives modules syntax t qs r → Tile text_start modules text qs
  tiled t ps qs r h e d = let k : handed ps ≡ ps = handed_is lexer_machine ps start h in
      let z = derived_tile text_start modules syntax t text qs r s text_start st d (subst (λ (xs : List PlacedToken). HandsOut (stream_of lexer_machine) xs start) (sym k ∙ handed_same ps qs e) h) in
      let i : qs ≡ z.0 = same_places qs z.0 z.1 (told_same ps qs e (handed_told ps k)) (tile_told text_start modules text z.0 z.2) in
      subst (λ (xs : List PlacedToken). Tile text_start modules text xs) (sym i) z.2

  reads : (t : Tree) (ps : List PlacedToken) → HandsOut (stream_of lexer_machine) ps start → DerivesList false modules syntax text_start ps t → Reads modules syntax t text
  reads t ps h d = let z = has_places (coded false (code_of modules syntax)) t (record { last = text_start; places = ps }) d.1 d.2.0 in
      let derived : Derives t (code_of modules syntax) (record { last = text_start; places = z.0 }) d.1 =
      subst (λ (c : Code). Derives t c (record { last = text_start; places = z.0 }) d.1) (judged modules syntax) (z.2, d.2.1) in
      (z.0, d.1, d.0, tiled t ps z.0 d.1 h z.1 (d.0, derived), derived)

  -- ---- from the text to tokens

  each : (P : Tree → Type 0) → EachDerived (stream_of lexer_machine) modules syntax start P → EachReads modules syntax text P
  unfolding stream_of
  each P f t h = let told : AreTold h.0 = tile_told text_start modules text h.0 h.3 in
      let z = strip (code_of modules syntax) t text_start h.0 h.1 h.4 in
      f false (bared h.0) t
      (subst (λ (xs : List PlacedToken). HandsOut (stream_of lexer_machine) xs start) (bared_handed h.0 told) (read_handed modules syntax t text h s text_start st))
      (bared_order text_start h.0 (places_in_order text_start modules text h.0 h.3))
      (h.2, z.0, subst (λ (c : Code). Derives t c (record { last = text_start; places = bared h.0 }) z.0) (alone modules syntax) z.1)

  -- ---- a reading

  text_by : (x : Result Tree Fault) → SettledBy (stream_of lexer_machine) limit modules syntax start x → TextBy modules syntax text limit x
  unfolding stream_of
  text_by (Ok t) h = record { reads = reads t h.places h.handed h.derived; within = h.within; only = each (λ u. u ≡ t) h.only }
  text_by (Err (Unexpected n)) h = each (λ u. ⊥) h
  text_by (Err (TooDeep n)) h = each (λ u. limit < nesting u) h

  abbrev its : Result Tree Fault
  its = read_within (stream_of lexer_machine) limit modules syntax start

  text_settled : Settled (stream_of lexer_machine) limit modules syntax start → TextSettled modules syntax text limit its
  text_settled h = record { read = text_by its h.read; found = each (λ t. nesting t ≤ limit → its ≡ Ok t) h.found }

pub texts_settled : TextsSettled
texts_settled limit modules syntax text s st = text_settled limit modules syntax text s st
    (first_settled lexer_machine (OfGoal modules) SameText modules (lexer_constant modules) limit syntax s text_start st.goal)
