-- A layout whose texts may follow one another is UTF-8, and so is that of a tree that reads a text.
use Rattle.std.proofs.Common.{◌≡◌, ℕ, ◌<◌, Bool, true, false, List, [], ◌∷◌, ◌++◌, length, get_or, Some, None, codes, refl, sym, ap, subst, arith, append-nil, length-append}
use Rattle.std.specs.Str.{IsUtf8}
use Rattle.std.proofs.lemmas.Str.{IsUtf8-append, IsUtf8-nil, IsUtf8-take, IsUtf8-drop, IsUtf8-past_char, IsCharBoundary-before_ascii, encode_ascii}
use Rattle.std.proofs.Math.Seq.{take-append_seam, drop-append_seam, get_or-append_seam}
use Rattle.tree_spec.specs.Tree.{Tree, script, es_module}
use Rattle.lex_token.specs.declared.goal.LexicalGoal.{LexicalGoal}
use Rattle.lex_token.specs.declared.goal.LexicalGoal.TheVariants.{Div, RegExp, TemplateTail, TemplateEnd}
use Rattle.print_pages_spec.specs.Pieces.{Piece, Text, Brace, Blank, Line, Deeper, Back, Semicolon, Commit, Mark}
use Rattle.print_pages_spec.specs.Utf8.{IsUtf8Piece}
use Rattle.print_layout_spec.specs.declared.look.Look.{Look}
use Rattle.print_layout_spec.specs.declared.look.Stand.TheVariants.{Alone}
use Rattle.print_layout_spec.specs.Looks.{Meaning, regular_expression, template_characters, template_end, hashbang_comment, touching, Laid, nothing, one, meant, named, both, refused, joined, texts_of}
use Rattle.print_layout_spec.specs.Layout.{laid}
use Rattle.again_laws.proofs.tokens.Ascii.{ascii}
use Rattle.again_laws.specs.Tiling.Categories.{State, Fresh, Clear, Shut, is_open, takes, behind, blank_behind}
use Rattle.again_laws.specs.Tiling.Goes.{When, GoesText, GoesPiece, GoesTexts, GoesMeaning, Goes, GoesWhole}
use Rattle.again_laws.specs.Text.TiledLaws.{ProgramGoes}
use Rattle.again_laws.proofs.text.ProgramsGo.{programs_go}
use Rattle.again_laws.specs.Text.TextLaws.{ReadIsText}
use Rattle.again_laws.proofs.text.LayoutUtf8.{AreUtf8, AllUtf8, Textual, ◌▸◌, maybe}
use Rattle.again_laws.proofs.text.PartUtf8.{hashbang_text}
use Rattle.again_laws.proofs.text.WrittenUtf8.{written}

-- ---- what goes

-- it holds somewhere
abbrev Somewhere : (State → Type 0) → Type 0
Somewhere P = (s : State) × P s

held : (b : Bool) (P : Type 0) → When b P → P
held true P h = h
held false P h = absurd h

text_goes : (goal : LexicalGoal) (own : List ℕ) (s : State) (P : State → Type 0) → GoesText goal own s P → IsUtf8 own × Somewhere P
text_goes goal own s P h = (h.1.utf8, (behind h.0 s, held (takes h.0 s) (P (behind h.0 s)) h.2))

piece_goes : (x : Piece) (s : State) (P : State → Type 0) → GoesPiece x s P → IsUtf8Piece x × Somewhere P
piece_goes (Text span own) s P h = text_goes Div own s P h
piece_goes (Brace span) s P h = (tt, (Shut, held (is_open s) (P Shut) h))
piece_goes Blank s P h = (tt, (blank_behind s, held (is_open s) (P (blank_behind s)) h))
piece_goes Line s P h = (tt, (Fresh, held (is_open s) (P Fresh) h))
piece_goes Deeper s P h = (tt, (s, h))
piece_goes Back s P h = (tt, (s, h))
piece_goes (Semicolon span) s P h = (tt, (Clear, held (is_open s) (P Clear) h))
piece_goes Commit s P h = (tt, (s, h))
piece_goes (Mark pos) s P h = (tt, (s, h))

texts_go : (texts : List (List ℕ)) (s : State) (P : State → Type 0) → GoesTexts texts s P → IsUtf8 (joined texts) × Somewhere P
texts_go [] s P h = (IsUtf8-nil, (s, h))
texts_go (own ∷ others) s P h =
    let x = text_goes Div own s (λ t. GoesTexts others t P) h in
    let y = texts_go others x.1.0 P x.1.1 in
    (IsUtf8-append own (joined others) x.0 y.0, y.1)

-- ---- a regular expression, whose parts are between slashes

behind_slash : (xs : List ℕ) → IsUtf8 (47 ∷ xs) → IsUtf8 xs
behind_slash xs u = IsUtf8-past_char (47 ∷ xs) xs 47 u (ap (λ (l : List ℕ). l ++ xs) (sym (encode_ascii 47 (omega arith))))

before_slash : (xs ys : List ℕ) → IsUtf8 (xs ++ 47 ∷ ys) → IsUtf8 xs × IsUtf8 (47 ∷ ys)
before_slash xs ys u =
    let low : get_or (xs ++ 47 ∷ ys) (length xs) 0 < 128 = subst (λ (n : ℕ). n < 128) (sym (get_or-append_seam xs 47 ys 0)) (omega arith) in
    let cut = IsCharBoundary-before_ascii (xs ++ 47 ∷ ys) (length xs) (omega (arith, length-append xs (47 ∷ ys))) low in (
      subst IsUtf8 (take-append_seam xs (47 ∷ ys)) (IsUtf8-take _ (length xs) u cut),
      subst IsUtf8 (drop-append_seam xs (47 ∷ ys)) (IsUtf8-drop _ (length xs) u cut),
    )

slashed : (body flags : List ℕ) → IsUtf8 (joined (texts_of (regular_expression body flags))) → AreUtf8 (texts_of (regular_expression body flags))
slashed body flags u =
    let parts = before_slash body (flags ++ []) (behind_slash (body ++ 47 ∷ (flags ++ [])) u) in
    let slash = (ascii (codes "/") refl).utf8 in
    (slash, (parts.0, (slash, (subst IsUtf8 (append-nil flags) (behind_slash (flags ++ []) parts.1), tt))))

meaning_goes : (m : Meaning) (s : State) (P : State → Type 0) → GoesMeaning m s P → AreUtf8 (texts_of m) × Somewhere P
meaning_goes (regular_expression body flags) s P h = let x = text_goes RegExp _ s P h in (slashed body flags x.0, x.1)
meaning_goes (template_characters own) s P h = let x = text_goes TemplateTail own s P h in ((x.0, tt), x.1)
meaning_goes (template_end own) s P h = let x = text_goes TemplateEnd own s P h in ((x.0, tt), x.1)
meaning_goes (hashbang_comment own) s P h = absurd h
meaning_goes (touching texts) s P h = let x = texts_go texts s P h in ((x.0, tt), x.1)

goes : (f : Laid) (s : State) (P : State → Type 0) → Goes f s P → AllUtf8 f × Somewhere P
goes nothing s P h = (tt, (s, h))
goes (one x) s P h = piece_goes x s P h
goes (meant m) s P h = meaning_goes m s P h
goes (named pos own) s P h = text_goes Div own s P h
goes (both f g) s P h =
    let x = goes f s (λ t. Goes g t P) h in
    let y = goes g x.1.0 P x.1.1 in
    ((x.0, y.0), y.1)
goes refused s P h = absurd h

-- ---- programs

whole : {f : Laid} → GoesWhole f → Textual f
whole {f} h = record { so = (goes f Fresh (λ s. is_open s ≡ true) h).0 }

program_goes : (look : Look) (t : Tree) → ProgramGoes look t → Textual (laid look Alone t)
program_goes look (script span body None) h = whole h
program_goes look (script span body (Some own)) h = maybe _ _ refl ▸ hashbang_text (Some own) h.0.utf8 ▸ whole h.1
program_goes look (es_module span body None) h = whole h
program_goes look (es_module span body (Some own)) h = maybe _ _ refl ▸ hashbang_text (Some own) h.0.utf8 ▸ whole h.1
program_goes look _ h = absurd h

pub read_is_text : ReadIsText
read_is_text look modules syntax t text s h = written look t (program_goes look t (programs_go look modules syntax t text s h))
