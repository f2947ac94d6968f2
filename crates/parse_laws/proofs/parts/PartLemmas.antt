-- What entries for parts answer, of any source, of a text through a lexer, and of a list.
use Rattle.std.proofs.Common.{◌≡◌, ◌≤◌, ◌+◌, ℕ, Bool, true, false, List, [], ◌∷◌, if◌then◌else◌, Option, None, Some, refl, sym, ap, ◌∙◌, subst, arith}
use Rattle.base_token.specs.declared.context.Context.{Context}
use Rattle.base_token.specs.declared.syntax.Syntax.{Syntax}
use Rattle.base_token.specs.declared.version.EsVersion.{EsVersion}
use Rattle.base_token.specs.declared.version.EsVersion.TheVariants.{EsNext}
use Rattle.base_token.specs.Tokens.{Spot}
use Rattle.base_token.specs.Words.{kind_of}
use Rattle.lex_source.specs.Machine as tokens
use Rattle.lex_source.specs.Machine.{Source}
use Rattle.lex_other_sources.specs.Lists.{list_step, list_machine}
use Rattle.lex_other_sources.specs.Rewinding.{back_in}
use Rattle.lex_other_sources.specs.declared.rewinding.Rewinding.{Rewinding}
use Rattle.lex_pieces.specs.Places.{bytes}
use Rattle.lex_step_laws.specs.States.{State as Lexer, Text, at_start_of, place}
use Rattle.tree_spec.specs.Tree.{Tree}
use Rattle.grammar_spec.specs.Tokens.Input.{PlacedToken, Input, Code}
use Rattle.grammar_spec.specs.Reader.Source.{State, Read, list_stream}
use Rattle.grammar_laws.specs.CompleteBase.Laws.{InOrder}
use Rattle.grammar_text_spec.specs.Text.{code_of, text_start}
use Rattle.parse_state.specs.Cursors.{Cursor, told_of, stream_of}
use Rattle.parse_state.specs.declared.parser.Parser.{Parser}
use Rattle.parse_source_laws.specs.Ahead.{Named}
use Rattle.parse_source_laws.specs.Consumed.{Assigns, AssignsUnlessClosed, Unasked}
use Rattle.parse_source_laws.specs.Sources.{HandsOut}
use Rattle.parse_front_laws.specs.Parts.{expression_part, binding_part, key_part, parameters_part}
use Rattle.parse_front_laws.specs.Items.{statement_part, list_item_part, module_item_part}
use Rattle.parse_front_laws.specs.Complete.Asyncs.{Worded}
use Rattle.parse_front_laws.specs.Complete.Exact.{Stopped}
use Rattle.parse_front_laws.specs.Complete.Laws.{Whatever, Expression, Binding, Key, Statement, ListItem, ModuleItem}
use Rattle.parse_front_laws.specs.Exact.{AnyList, ListStops}
use Rattle.parse_front_laws.specs.Parameters.{Parameters}
use Rattle.parse_front_laws.specs.Sources.{EachSame}
use Rattle.parse_front_laws.specs.SourceFronts.{EachReadsFront, EachAnswersFront}
use Rattle.parse_front_laws.proofs.Exact.{fronts_are_answered_exactly}
use Rattle.parse_front_laws.proofs.Parts.{parts_are_fronts}
use Rattle.parse_front_laws.proofs.Sources.{parts_same}
use Rattle.parse_front_laws.proofs.SourceFronts.{source_fronts_read, source_fronts_answered}
use Rattle.parse_lexer_laws.specs.Constant.{Constant, Before}
use Rattle.parse_lexer_laws.specs.Lexed.{OfGoal, SameText}
use Rattle.parse_lexer_laws.specs.Machine.{lexer_machine}
use Rattle.parse_lexer_laws.specs.WordKinds.{ComesOfKind, AreOfKinds}
use Rattle.parse_lexer_laws.specs.Order.{Fits, InFront, FaultsHaveCharacters}
use Rattle.parse_lexer_laws.proofs.Backward.{parser_backward}
use Rattle.parse_lexer_laws.proofs.Lexes.{lexer_constant}
use Rattle.parse_lexer_laws.proofs.Order.{first_in_front, lexer_hands_in_order}
use Rattle.parse_lexer_laws.proofs.Orderly.{parser_orderly}
use Rattle.parse_lexer_laws.proofs.WordKinds.{async_text, hands_kinds, lexer_tells_kinds}
use Rattle.ecma_parser.specs.Entries.{source_in, syntax_in, limit_in, opened, opened_by, waiting, first_of}
use Rattle.ecma_parser.specs.Parts.{ParsesPart}
use Rattle.ecma_parser.specs.declared.entries.Entries.{Entries}
use Rattle.parse_laws.specs.ListRead.{seen, AnyList as EachList, SameList}
use Rattle.parse_laws.specs.Parts.{reads_at, EntryAnswers, PartsAnswer, SourcePartsAnswer, LexerPartsAnswer, TextPartsAnswer, NewTextPartsAnswer, AnyTokens, ListPartsAnswer, NewListPartsAnswer}
use Rattle.parse_laws.proofs.AnsweredLemmas.{of_goal, opened_first}
use Rattle.parse_laws.proofs.ListLemmas.{list_constant, list_hands}
use Rattle.parse_laws.proofs.TextLemmas.{chars_start}
use Rattle.parse_laws.proofs.parts.FrontLemmas.{Settles, settles, answers_front, part_answered}

-- ---- words

named : (ps : List PlacedToken) → AreOfKinds ps → Named ps
named [] h = tt
named (p ∷ ps) h = (async_text p.spot h.0, named ps h.1)

worded : (ps : List PlacedToken) → AreOfKinds ps → Worded ps
unfolding kind_of
worded [] h = tt
worded (p ∷ ps) h = (λ w e. h.0 w ∙ ap (λ (text : List ℕ). kind_of text) e, worded ps h.1)

-- ---- where an entry begins to read

module _ {I S : Type 0} (m : tokens.Machine S) (state : I → Source S) (ctx : Context) (e : Entries (Parser (Rewinding I))) where
  no_commas : (opened m state ctx e).commas ≡ []
  no_commas = by_start e.started
    where
      by_back : (back : Option (Source S)) → (opened_by m ctx e.reading.last.0 back (waiting state ctx e)).commas ≡ []
      by_back None = refl
      by_back (Some s) = refl

      by_start : (b : Bool) → (if b then opened_by m ctx e.reading.last.0 (back_in m state ctx e.reading.input) (waiting state ctx e) else first_of m (told_of ctx (source_in state e))).commas ≡ []
      by_start true = by_back (back_in m state ctx e.reading.input)
      by_start false = refl

  opens : opened m state ctx e ≡ record { source = (opened m state ctx e).source; commas = [] }
  opens = ap (λ (commas : List ℕ). record { source = (opened m state ctx e).source; commas = commas }) no_commas

-- ---- any source

module _ {I S : Type 0} (m : tokens.Machine S) (state : I → Source S) {X : Type 0} (view : X → Tree) (Good : Source S → Type 0) (Same : Source S → Source S → Type 0) (modules : Bool) (w : Constant m Good Same modules)
    (Sound : List PlacedToken → Type 0) (e : Entries (Parser (Rewinding I))) (b : Before Good (reads_at m state view modules e))
    (known : (ps : List PlacedToken) → HandsOut (stream_of m) ps (reads_at m state view modules e) → AreOfKinds ps × (Sound ps → InOrder ((stream_of m).last (reads_at m state view modules e)) ps)) where
  abbrev c : Code
  c = code_of modules (syntax_in state e)

  abbrev at : Cursor S
  at = reads_at m state view modules e

  abbrev Settled : (Code → Tree → Input → Input → Type 0) → (Code → Tree → Input → Type 0) → (ℕ → Code → Read (Cursor S) Tree) → Type 0
  Settled P Meets read = Settles (stream_of m) (Before Good) Sound (limit_in e) at (P c) (Meets c) (read (limit_in e) c (record { source = at; commas = [] }))

  answers : (P : Code → Tree → Input → Input → Type 0) (Meets : Code → Tree → Input → Type 0) (read : ℕ → Code → Read (Cursor S) Tree) → Settled P Meets read → EntryAnswers m state view Sound modules e read P Meets
  answers P Meets read h faults ctx result stood old new p = part_answered (stream_of m) (Before Good) Sound (limit_in e) at (P c) (Meets c) (read (limit_in e) c (record { source = at; commas = [] })) h view faults ctx result stood old new
      (subst (λ (s : State (Cursor S)). ParsesPart (stream_of m) ctx view faults result (read (limit_in e) c s) stood old new) (opens m state c.context e) p)

  abbrev such : (ps : List PlacedToken) → HandsOut (stream_of m) ps at → Named ps × (Sound ps → InOrder ((stream_of m).last at) ps)
  such ps h = let k = known ps h in (named ps k.0, k.1)

  fronts : EachReadsFront (stream_of m) (Before Good) (limit_in e) false c at
  fronts = source_fronts_read (stream_of m) (Before Good) parts_are_fronts modules (parser_orderly m Good Same modules w) (parser_backward m Good Same modules w) (limit_in e) false c at (of_goal modules (syntax_in state e)) b

  exact : EachAnswersFront (stream_of m) (Before Good) (limit_in e) c at
  exact = source_fronts_answered (stream_of m) (Before Good) fronts_are_answered_exactly modules (parser_orderly m Good Same modules w) (parser_backward m Good Same modules w) (limit_in e) c at (of_goal modules (syntax_in state e)) b

  same : EachSame (stream_of m) (Before Good) (limit_in e) c at []
  same = parts_same (stream_of m) (Before Good) modules (parser_orderly m Good Same modules w) (parser_backward m Good Same modules w) (limit_in e) c at [] (of_goal modules (syntax_in state e)) b

module _ {I S : Type 0} (m : tokens.Machine S) (state : I → Source S) {X : Type 0} (view : X → Tree) (Good : Source S → Type 0) (Same : Source S → Source S → Type 0) where
  -- what is known of the tokens that are handed out
  abbrev pub Known : Bool → (List PlacedToken → Type 0) → Entries (Parser (Rewinding I)) → Type 0
  Known modules Sound e = (ps : List PlacedToken) → HandsOut (stream_of m) ps (reads_at m state view modules e) → AreOfKinds ps × (Sound ps → InOrder ((stream_of m).last (reads_at m state view modules e)) ps)

  pub parts_answer : (modules : Bool) (w : Constant m Good Same modules) (Sound : List PlacedToken → Type 0) (e : Entries (Parser (Rewinding I))) → Before Good (reads_at m state view modules e) → Known modules Sound e → PartsAnswer m state view Sound modules e
  parts_answer false w Sound e b k =
      let s = such m state view Good Same false w Sound e b k in
      let f = fronts m state view Good Same false w Sound e b k in
      let x = exact m state view Good Same false w Sound e b k in
      let z = same m state view Good Same false w Sound e b k in
      let n = stream_of m in
      let d = code_of false (syntax_in state e) in
      let at = reads_at m state view false e in
      record {
        expressions = λ l i j. answers m state view Good Same false w Sound e b k (λ c. Expression false l c) (λ c. Stopped l c) (expression_part n l) (settles n (Before Good) Sound (limit_in e) at s (AssignsUnlessClosed n) Worded (Stopped l d) (Expression false l d) _ (λ ps h. worded ps (k ps h).0) (f.expressions l i j) (x.expressions l i j refl));
        bindings = answers m state view Good Same false w Sound e b k (λ c. Binding false c) (λ c. Whatever) (binding_part n) (settles n (Before Good) Sound (limit_in e) at s (Unasked n) AnyList Whatever (Binding false d) _ (λ ps h. tt) f.bindings x.bindings);
        keys = answers m state view Good Same false w Sound e b k (λ c. Key false c) (λ c. Whatever) (key_part n) (settles n (Before Good) Sound (limit_in e) at s (Unasked n) AnyList Whatever (Key false d) _ (λ ps h. tt) f.keys x.keys);
        parameters = answers m state view Good Same false w Sound e b k (λ c. Parameters false c) (λ c. ListStops c) (parameters_part n) (settles n (Before Good) Sound (limit_in e) at s (Assigns n) Worded (ListStops d) (Parameters false d) _ (λ ps h. worded ps (k ps h).0) f.parameters
            (answers_front n (Before Good) Sound (limit_in e) at (Assigns n) Worded (ListStops d) (Parameters false d) _ (parameters_part list_stream (limit_in e) d) z.parameters ((fronts_are_answered_exactly (limit_in e) d).parameters refl refl refl)));
        statements = answers m state view Good Same false w Sound e b k (λ c. Statement false c) (λ c. Whatever) (statement_part n) (settles n (Before Good) Sound (limit_in e) at s (Unasked n) AnyList Whatever (Statement false d) _ (λ ps h. tt) f.statements x.statements);
        list_items = answers m state view Good Same false w Sound e b k (λ c. ListItem false c) (λ c. Whatever) (list_item_part n) (settles n (Before Good) Sound (limit_in e) at s (Unasked n) AnyList Whatever (ListItem false d) _ (λ ps h. tt) f.list_items x.list_items);
      }
  parts_answer true w Sound e b k =
      let s = such m state view Good Same true w Sound e b k in
      let f = fronts m state view Good Same true w Sound e b k in
      let x = exact m state view Good Same true w Sound e b k in
      let n = stream_of m in
      let d = code_of true (syntax_in state e) in
      let at = reads_at m state view true e in
      record { module_items = answers m state view Good Same true w Sound e b k (λ c. ModuleItem false c) (λ c. Whatever) (module_item_part n) (settles n (Before Good) Sound (limit_in e) at s (Unasked n) AnyList Whatever (ModuleItem false d) _ (λ ps h. tt) (f.module_items (syntax_in state e) refl) x.module_items) }

  pub source_parts_answer : SourcePartsAnswer m state view Good Same
  unfolding stream_of
  source_parts_answer modules w t e b first = parts_answer modules w (λ ps. InOrder (reads_at m state view modules e).last ps) e b (λ ps h. (hands_kinds m Good Same modules w t (reads_at m state view modules e) b first ps h, λ o. o))

-- ---- a text

module _ {I : Type 0} (state : I → Lexer) {X : Type 0} (view : X → Tree) where
  pub lexer_parts_answer : LexerPartsAnswer state view
  unfolding stream_of
  lexer_parts_answer modules e b first front = let at = reads_at lexer_machine state view modules e in
      parts_answer lexer_machine state view (OfGoal modules) SameText modules (lexer_constant modules) FaultsHaveCharacters e b
      (λ ps h. (hands_kinds lexer_machine (OfGoal modules) SameText modules (lexer_constant modules) (λ s g. lexer_tells_kinds s) at b first ps h, λ o. lexer_hands_in_order at front ps h o))

  -- in front of the first token
  first_answers : (modules : Bool) (e : Entries (Parser (Rewinding I))) → e.started ≡ false → Fits (source_in state e) → (source_in state e).settings.start ≤ place (source_in state e).tokens.end (source_in state e).tokens.left → PartsAnswer lexer_machine state view FaultsHaveCharacters modules e
  first_answers modules e h f l =
      let ctx = (code_of modules (syntax_in state e)).context in
      let z : Lexer = told_of ctx (source_in state e) in
      let there = ap (λ (s : State (Cursor Text)). s.source) (opened_first lexer_machine state ctx e h) in
      let good : OfGoal modules z = of_goal modules (syntax_in state e) in
      lexer_parts_answer modules e
      (subst (λ (q : Cursor Text). Before (OfGoal modules) q) (sym there) ((lexer_machine.step z).1, refl, (lexer_constant modules).good_step z good))
      (subst (λ (q : Cursor Text). ComesOfKind q.first) (sym there) (lexer_tells_kinds z))
      (subst (λ (q : Cursor Text). InFront q) (sym there) (first_in_front ctx (source_in state e) (source_in state e).settings.start f l))

  start_fits : (syntax : Syntax) (target : EsVersion) (text : List ℕ) → Fits (at_start_of syntax target text_start text (text_start + bytes text))
  start_fits syntax target text = record { left = omega arith; slash = tt; unasked = refl }

  pub text_parts_answer : TextPartsAnswer state view
  text_parts_answer modules syntax target text e h source = first_answers modules e h
      (subst (λ (s : Lexer). Fits s) (sym source) (start_fits syntax target text))
      (subst (λ (s : Lexer). s.settings.start ≤ place s.tokens.end s.tokens.left) (sym source) (omega arith))

  pub new_text_parts_answer : NewTextPartsAnswer state view
  new_text_parts_answer modules syntax text e u h source = text_parts_answer modules syntax EsNext _ e h (chars_start state syntax text e u source)

-- ---- a list

module _ {I : Type 0} (state : I → Source (List Spot)) {X : Type 0} (view : X → Tree) where
  pub list_parts_answer : ListPartsAnswer state view
  unfolding stream_of
  list_parts_answer modules e h o k =
      let ctx = (code_of modules (syntax_in state e)).context in
      let z : Source (List Spot) = told_of ctx (source_in state e) in
      let there = ap (λ (s : State (Cursor (List Spot))). s.source) (opened_first list_machine state ctx e h) in
      let start = (source_in state e).settings.start in
      parts_answer list_machine state view EachList SameList modules (list_constant modules) AnyTokens e
      (subst (λ (q : Cursor (List Spot)). Before EachList q) (sym there) ((list_step z.tokens z.settings).1, refl, tt))
      (λ ps a. let n : ps ≡ seen z.tokens = list_hands.no_other z.tokens z.settings start start ps o (subst (λ (q : Cursor (List Spot)). HandsOut (stream_of list_machine) ps q) there a) in
      (subst (λ (qs : List PlacedToken). AreOfKinds qs) (sym n) k, λ i. subst (λ (q : Cursor (List Spot)). InOrder q.last ps) (sym there) (subst (λ (qs : List PlacedToken). InOrder start qs) (sym n) o)))

  pub new_list_parts_answer : NewListPartsAnswer state view
  new_list_parts_answer modules spots ctx syntax target e h source o k =
      list_parts_answer modules e h (subst (λ (s : Source (List Spot)). InOrder s.settings.start (seen s.tokens)) (sym source) o) (subst (λ (s : Source (List Spot)). AreOfKinds (seen s.tokens)) (sym source) k)
