-- Layouts that go: what holds behind them.
use Rattle.std.proofs.Common.{◌≡◌, ℕ, Bool, true, false, List, [], ◌∷◌, refl}
use Rattle.lex_token.specs.declared.goal.LexicalGoal.{LexicalGoal}
use Rattle.lex_token.specs.declared.goal.LexicalGoal.TheVariants.{Div, RegExp, TemplateTail, TemplateEnd}
use Rattle.print_pages_spec.specs.Pieces.{Piece, Text, Brace, Blank, Line, Deeper, Back, Semicolon, Commit, Mark}
use Rattle.print_layout_spec.specs.Looks.{Meaning, regular_expression, template_characters, template_end, hashbang_comment, touching, Laid, nothing, one, meant, named, both, refused, joined, texts_of}
use Rattle.again_laws.specs.Tiling.Categories.{State, Fresh, Clear, Shut, is_open, takes, behind, blank_behind}
use Rattle.again_laws.specs.Tiling.Goes.{When, GoesText, GoesPiece, GoesTexts, GoesMeaning, Goes}

-- ---- what holds behind a layout

pub When_mono : (b : Bool) (P Q : Type 0) → When b P → (P → Q) → When b Q
When_mono true P Q h f = f h
When_mono false P Q h f = h

text_mono : (goal : LexicalGoal) (bytes : List ℕ) (s : State) (P Q : State → Type 0) → GoesText goal bytes s P → ((t : State) → P t → Q t) → GoesText goal bytes s Q
text_mono goal bytes s P Q h f = (h.0, h.1, When_mono (takes h.0 s) (P (behind h.0 s)) (Q (behind h.0 s)) h.2 (f (behind h.0 s)))

piece_mono : (x : Piece) (s : State) (P Q : State → Type 0) → GoesPiece x s P → ((t : State) → P t → Q t) → GoesPiece x s Q
piece_mono (Text span bytes) s P Q h f = text_mono Div bytes s P Q h f
piece_mono (Brace span) s P Q h f = When_mono (is_open s) (P Shut) (Q Shut) h (f Shut)
piece_mono Blank s P Q h f = When_mono (is_open s) (P (blank_behind s)) (Q (blank_behind s)) h (f (blank_behind s))
piece_mono Line s P Q h f = When_mono (is_open s) (P Fresh) (Q Fresh) h (f Fresh)
piece_mono Deeper s P Q h f = f s h
piece_mono Back s P Q h f = f s h
piece_mono (Semicolon span) s P Q h f = When_mono (is_open s) (P Clear) (Q Clear) h (f Clear)
piece_mono Commit s P Q h f = f s h
piece_mono (Mark pos) s P Q h f = f s h

texts_mono : (texts : List (List ℕ)) (s : State) (P Q : State → Type 0) → GoesTexts texts s P → ((t : State) → P t → Q t) → GoesTexts texts s Q
texts_mono [] s P Q h f = f s h
texts_mono (own ∷ others) s P Q h f = text_mono Div own s (λ t. GoesTexts others t P) (λ t. GoesTexts others t Q) h (λ t k. texts_mono others t P Q k f)

pub meaning_mono : (m : Meaning) (s : State) (P Q : State → Type 0) → GoesMeaning m s P → ((t : State) → P t → Q t) → GoesMeaning m s Q
meaning_mono (regular_expression body flags) s P Q h f = text_mono RegExp (joined (texts_of (regular_expression body flags))) s P Q h f
meaning_mono (template_characters own) s P Q h f = text_mono TemplateTail own s P Q h f
meaning_mono (template_end own) s P Q h f = text_mono TemplateEnd own s P Q h f
meaning_mono (hashbang_comment own) s P Q h f = h
meaning_mono (touching texts) s P Q h f = texts_mono texts s P Q h f

-- Where P holds behind a layout, what follows from it does.
pub mono : (g : Laid) (s : State) (P Q : State → Type 0) → Goes g s P → ((t : State) → P t → Q t) → Goes g s Q
mono nothing s P Q h f = f s h
mono (one x) s P Q h f = piece_mono x s P Q h f
mono (meant m) s P Q h f = meaning_mono m s P Q h f
mono (named pos own) s P Q h f = text_mono Div own s P Q h f
mono (both a b) s P Q h f = mono a s (λ t. Goes b t P) (λ t. Goes b t Q) h (λ t k. mono b t P Q k f)
mono refused s P Q h f = h

-- ---- where it ends

pub when_so : (b : Bool) (P : Type 0) → When b P → (b ≡ true) × P
when_so true P h = (refl, h)
when_so false P h = absurd h

Reached : (State → Type 0) → Type 0
Reached P = (t : State) × P t

text_reach : (goal : LexicalGoal) (bytes : List ℕ) (s : State) (P : State → Type 0) → GoesText goal bytes s P → Reached P
unfolding Reached
text_reach goal bytes s P h = (behind h.0 s, (when_so (takes h.0 s) (P (behind h.0 s)) h.2).1)

piece_reach : (x : Piece) (s : State) (P : State → Type 0) → GoesPiece x s P → Reached P
unfolding Reached
piece_reach (Text span bytes) s P h = text_reach Div bytes s P h
piece_reach (Brace span) s P h = (Shut, (when_so (is_open s) (P Shut) h).1)
piece_reach Blank s P h = (blank_behind s, (when_so (is_open s) (P (blank_behind s)) h).1)
piece_reach Line s P h = (Fresh, (when_so (is_open s) (P Fresh) h).1)
piece_reach Deeper s P h = (s, h)
piece_reach Back s P h = (s, h)
piece_reach (Semicolon span) s P h = (Clear, (when_so (is_open s) (P Clear) h).1)
piece_reach Commit s P h = (s, h)
piece_reach (Mark pos) s P h = (s, h)

texts_reach : (texts : List (List ℕ)) (s : State) (P : State → Type 0) → GoesTexts texts s P → Reached P
unfolding Reached
texts_reach [] s P h = (s, h)
texts_reach (own ∷ others) s P h = let x = text_reach Div own s (λ t. GoesTexts others t P) h in texts_reach others x.0 P x.1

pub meaning_reach : (m : Meaning) (s : State) (P : State → Type 0) → GoesMeaning m s P → (t : State) × P t
unfolding Reached
meaning_reach (regular_expression body flags) s P h = text_reach RegExp (joined (texts_of (regular_expression body flags))) s P h
meaning_reach (template_characters own) s P h = text_reach TemplateTail own s P h
meaning_reach (template_end own) s P h = text_reach TemplateEnd own s P h
meaning_reach (hashbang_comment own) s P h = absurd h
meaning_reach (touching texts) s P h = texts_reach texts s P h

-- A layout that goes ends somewhere.
pub reach : (g : Laid) (s : State) (P : State → Type 0) → Goes g s P → (t : State) × P t
unfolding Reached
reach nothing s P h = (s, h)
reach (one x) s P h = piece_reach x s P h
reach (meant m) s P h = meaning_reach m s P h
reach (named pos own) s P h = text_reach Div own s P h
reach (both a b) s P h = let x = reach a s (λ t. Goes b t P) h in reach b x.0 P x.1
reach refused s P h = absurd h
