-- Layouts as lists of items: pieces, texts that are meant together, and names.
use Rattle.std.proofs.Common.{◌≡◌, ℕ, true, List, [], ◌∷◌, None, refl, ap, ◌∙◌, subst, ⊎_elim, false}
use Rattle.std.proofs.lemmas.Bool.{cases_Bool, false≢true}
use Rattle.base_token.specs.declared.place.BytePos.{BytePos}
use Rattle.lex_literal.specs.declared.template.Ending.{Ending}
use Rattle.lex_literal.specs.declared.template.Ending.TheVariants.{BackQuote, Substitution}
use Rattle.lex_literal.specs.Templates as templates
use Rattle.lex_token.specs.declared.goal.LexicalGoal.{LexicalGoal}
use Rattle.lex_token.specs.declared.goal.LexicalGoal.TheVariants.{Div, RegExp, TemplateTail, TemplateEnd}
use Rattle.grammar_spec.specs.Tokens.Input.{Input}
use Rattle.print_pages_spec.specs.Pieces.{Piece, Text, Brace, Blank, Line, Deeper, Back, Semicolon, Commit, Mark}
use Rattle.print_layout_spec.specs.Looks.{Meaning, regular_expression, template_characters, template_end, hashbang_comment, touching, Laid, nothing, one, meant, named, both, refused, listed, joined, texts_of, texts_before}
use Rattle.again_laws.specs.Tokens.Spacings.{Spacing}
use Rattle.again_laws.specs.Tokens.Says.{IsNameSaid, SaysPiece, SaysTexts, SaysMeaning, Says}
use Rattle.again_laws.specs.Tiling.Categories.{State, Clear, Shut, Category, Word, Number, Big, Member, Str, Regex, Operator, Arrow, Closed, Quasi, End, is_open, takes, behind, Fresh}
use Rattle.again_laws.specs.Tiling.Following.{Front}
use Rattle.again_laws.specs.Tiling.Goes.{When, GoesText, GoesPiece, GoesTexts, GoesMeaning, Goes}
use Rattle.again_laws.proofs.tiling.GoingLayouts.{mono, reach, When_mono}
use Rattle.again_laws.proofs.tiling.Pen.{Pen}

pub data Item : Type 0 where
  Plain : Piece → Item
  Meant : Meaning → Item
  -- with the place where it was read
  Named : BytePos → List ℕ → Item

abbrev pub items : Laid → List Item → List Item
items nothing rest = rest
items (one x) rest = Plain x ∷ rest
items (meant m) rest = Meant m ∷ rest
items (named pos own) rest = Named pos own ∷ rest
items (both f g) rest = items f (items g rest)
items refused rest = []

-- the pieces that are written
abbrev pub spread : List Item → List Piece
spread [] = []
spread (Plain x ∷ xs) = x ∷ spread xs
spread (Meant m ∷ xs) = texts_before (texts_of m) (spread xs)
spread (Named pos own ∷ xs) = Commit ∷ Mark pos ∷ Text None own ∷ spread xs

pub listed_items : (f : Laid) (rest : List Item) → listed f (spread rest) ≡ spread (items f rest)
listed_items nothing rest = refl
listed_items (one x) rest = refl
listed_items (meant m) rest = refl
listed_items (named pos own) rest = refl
listed_items (both f g) rest = ap (listed f) (listed_items g rest) ∙ listed_items f (items g rest)
listed_items refused rest = refl

-- ---- the automaton on items

abbrev pub GoesItem : Item → State → (State → Type 0) → Type 0
GoesItem (Plain x) s P = GoesPiece x s P
GoesItem (Meant m) s P = GoesMeaning m s P
GoesItem (Named pos own) s P = GoesText Div own s P

abbrev pub GoesAll : List Item → State → Type 0
GoesAll [] s = is_open s ≡ true
GoesAll (x ∷ xs) s = GoesItem x s (λ t. GoesAll xs t)

pub goes_items : (f : Laid) (s : State) (rest : List Item) → Goes f s (λ t. GoesAll rest t) → GoesAll (items f rest) s
goes_items nothing s rest h = h
goes_items (one x) s rest h = h
goes_items (meant m) s rest h = h
goes_items (named pos own) s rest h = h
goes_items (both f g) s rest h = goes_items f s (items g rest) (mono f s (λ t. Goes g t (λ u. GoesAll rest u)) (λ t. GoesAll (items g rest) t) h (λ t k. goes_items g t rest k))
goes_items refused s rest h = absurd h

-- ---- what items say, where N holds of where each name was read and where it is written

abbrev pub SaysItem : (ℕ → ℕ → Type 0) → Item → Spacing → Input → Spacing → Input → Type 0
SaysItem N (Plain x) a ts b r = SaysPiece x a ts b r
SaysItem N (Meant m) a ts b r = SaysMeaning m a ts b r
SaysItem N (Named pos own) a ts b r = IsNameSaid N pos own a ts b r

abbrev pub SaysAll : (ℕ → ℕ → Type 0) → List Item → Spacing → Input → Spacing → Input → Type 0
SaysAll N [] a ts b r = (b ≡ a) × (ts ≡ r)
SaysAll N (x ∷ xs) a ts b r = (k : Spacing) × (m : Input) × SaysItem N x a ts k m × SaysAll N xs k m b r

pub says_of : (N : ℕ → ℕ → Type 0) (f : Laid) (s : State) (P : State → Type 0) (rest : List Item) (a b : Spacing) (ts r : Input) → Goes f s P → SaysAll N (items f rest) a ts b r
    → (k : Spacing) × (m : Input) × Says N f a ts k m × SaysAll N rest k m b r
says_of N nothing s P rest a b ts r g h = (a, ts, (refl, refl), h)
says_of N (one x) s P rest a b ts r g h = h
says_of N (meant m) s P rest a b ts r g h = h
says_of N (named pos own) s P rest a b ts r g h = h
says_of N (both f g) s P rest a b ts r w h =
    let x = says_of N f s (λ t. Goes g t P) (items g rest) a b ts r w h in
    let t = reach f s (λ t. Goes g t P) w in
    let y = says_of N g t.0 P rest x.0 b x.1 r t.1 x.3 in
    (y.0, y.1, (x.0, x.1, x.2, y.2), y.3)
says_of N refused s P rest a b ts r g h = absurd g

-- ---- texts that touch, one by one

abbrev pub apart : List (List ℕ) → List Item → List Item
apart [] xs = xs
apart (own ∷ others) xs = Plain (Text None own) ∷ apart others xs

pub spread_apart : (texts : List (List ℕ)) (xs : List Item) → spread (apart texts xs) ≡ texts_before texts (spread xs)
spread_apart [] xs = refl
spread_apart (own ∷ others) xs = ap (λ (ys : List Piece). Text None own ∷ ys) (spread_apart others xs)

pub goes_apart : (texts : List (List ℕ)) (xs : List Item) (s : State) → GoesTexts texts s (λ t. GoesAll xs t) → GoesAll (apart texts xs) s
goes_apart [] xs s g = g
goes_apart (own ∷ others) xs s g =
    (g.0, g.1, When_mono (takes g.0 s) (GoesTexts others (behind g.0 s) (λ t. GoesAll xs t)) (GoesAll (apart others xs) (behind g.0 s)) g.2 (λ h. goes_apart others xs (behind g.0 s) h))

pub says_apart : (N : ℕ → ℕ → Type 0) (texts : List (List ℕ)) (xs : List Item) (a b : Spacing) (ts r : Input) → SaysAll N (apart texts xs) a ts b r
    → (k : Spacing) × (m : Input) × SaysTexts texts a ts k m × SaysAll N xs k m b r
says_apart N [] xs a b ts r h = (a, ts, (refl, refl), h)
says_apart N (own ∷ others) xs a b ts r h = let y = says_apart N others xs h.0 b h.1 r h.3 in (y.0, y.1, (h.0, h.1, h.2, y.2), y.3)

-- ---- behind a mark that nothing runs into

-- Whatever may follow a blank may follow such a mark.
clear_shut : (k : Category) (P : State → Type 0) → When (takes k Clear) (P (behind k Clear)) → When (takes k Shut) (P (behind k Shut))
clear_shut Quasi P h = absurd h
clear_shut _ P h = h

text_shut : (goal : LexicalGoal) (own : List ℕ) (P : State → Type 0) → GoesText goal own Clear P → GoesText goal own Shut P
text_shut goal own P g = (g.0, g.1, clear_shut g.0 P g.2)

texts_shut : (texts : List (List ℕ)) (xs : List Item) → (GoesAll xs Clear → GoesAll xs Shut) → GoesTexts texts Clear (λ t. GoesAll xs t) → GoesTexts texts Shut (λ t. GoesAll xs t)
texts_shut [] xs f g = f g
texts_shut (own ∷ others) xs f g = text_shut Div own (λ t. GoesTexts others t (λ u. GoesAll xs u)) g

pub shut_for_clear : (xs : List Item) → GoesAll xs Clear → GoesAll xs Shut
shut_for_clear [] g = refl
shut_for_clear (Plain (Text span own) ∷ xs) g = text_shut Div own (λ t. GoesAll xs t) g
shut_for_clear (Plain (Brace span) ∷ xs) g = g
shut_for_clear (Plain Blank ∷ xs) g = g
shut_for_clear (Plain Line ∷ xs) g = g
shut_for_clear (Plain Deeper ∷ xs) g = shut_for_clear xs g
shut_for_clear (Plain Back ∷ xs) g = shut_for_clear xs g
shut_for_clear (Plain (Semicolon span) ∷ xs) g = g
shut_for_clear (Plain Commit ∷ xs) g = shut_for_clear xs g
shut_for_clear (Plain (Mark pos) ∷ xs) g = shut_for_clear xs g
shut_for_clear (Meant (regular_expression body flags) ∷ xs) g = text_shut RegExp (joined (texts_of (regular_expression body flags))) (λ t. GoesAll xs t) g
shut_for_clear (Meant (template_characters own) ∷ xs) g = text_shut TemplateTail own (λ t. GoesAll xs t) g
shut_for_clear (Meant (template_end own) ∷ xs) g = text_shut TemplateEnd own (λ t. GoesAll xs t) g
shut_for_clear (Meant (hashbang_comment own) ∷ xs) g = g
shut_for_clear (Meant (touching texts) ∷ xs) g = texts_shut texts xs (λ h. shut_for_clear xs h) g
shut_for_clear (Named pos own ∷ xs) g = text_shut Div own (λ t. GoesAll xs t) g

-- an empty text is characters of a template alone
pub front_nil : (k : Category) → Front k [] → k ≡ Quasi
front_nil Quasi f = refl
front_nil End f = absurd (ends_not f.0 (f.1 []))
  where
    ends_not : (e : Ending) → templates.Ends e [] [] → ⊥
    ends_not BackQuote h = cc
    ends_not Substitution h = cc
front_nil Word f = absurd (let e = f.whole in cc)
front_nil Number f = absurd (let e = f.whole in cc)
front_nil Big f = absurd (let e = f.whole in cc)
front_nil Member f = absurd (let e = f.whole in cc)
front_nil Str f = absurd (let e = f.whole in cc)
front_nil Operator f = absurd (let e = f.whole in cc)
front_nil Arrow f = absurd (let e = f.whole in cc)
front_nil Closed f = absurd (let e = f.whole in cc)
front_nil Regex f = absurd (let e = f.1 in cc)
front_nil _ f = absurd cc

-- an empty text stands behind another in its line
pub empty_runs : (k : Category) (s : State) (q : Pen) → Front k [] → takes k s ≡ true → (q.at_start ≡ true → s ≡ Fresh) → q.at_start ≡ false
empty_runs k s q f t st = by s (subst (λ (x : Category). takes x s ≡ true) (front_nil k f) t) st
  where
    by : (s : State) → takes Quasi s ≡ true → (q.at_start ≡ true → s ≡ Fresh) → q.at_start ≡ false
    by Shut t st = ⊎_elim (λ (e : q.at_start ≡ true). absurd (let c : Shut ≡ Fresh = st e in cc)) (λ (e : q.at_start ≡ false). e) (cases_Bool q.at_start)
    by _ t st = absurd (false≢true t)
