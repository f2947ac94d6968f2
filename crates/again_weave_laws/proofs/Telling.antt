-- What a layout says of tokens it tells of the same tokens with other trivia between them.
use Rattle.std.proofs.Common.{◌≡◌, ℕ, ◌⊎◌, inl, inr, Bool, true, false, List, [], ◌∷◌, length, refl, sym, ap, subst, ◌∙◌}
use Rattle.std.specs.Prelude.{codes}
use Rattle.base_token.specs.Kinds.{hash_kind}
use Rattle.base_token.specs.Tokens.{SpecToken, Spot}
use Rattle.lex_token.specs.declared.goal.LexicalGoal.{LexicalGoal}
use Rattle.lex_token.specs.declared.goal.LexicalGoal.TheVariants.{Div, RegExp, TemplateTail, TemplateEnd}
use Rattle.grammar_spec.specs.Tokens.Input.{PlacedToken, Input, kind, kind_of, content, content_of, escaped, escaped_of, rest, hi_of, others, lo, lo_of, brk, break_of}
use Rattle.print_pages_spec.specs.Pieces.{Piece, Text, Brace, Blank, Line, Deeper, Back, Semicolon, Commit, Mark}
use Rattle.print_layout_spec.specs.Looks.{Meaning, regular_expression, template_characters, template_end, hashbang_comment, touching, Laid, nothing, one, meant, named, both, refused, joined, texts_of}
use Rattle.again_laws.specs.Tokens.Spacings.{Spacing, Touching, Broken, is_broken, blanked, Lies}
use Rattle.again_laws.specs.Tokens.Naming.{Naming, StandsFor}
use Rattle.again_laws.specs.Tokens.Ties.{is_tied, KindsBefore}
use Rattle.again_laws.specs.Tokens.Says.{IsFirst, IsSaid, SaysPiece, SaysTexts, SaysMeaning, Says, SemicolonMayGo}
use Rattle.again_laws.specs.Tokens.Told.{Breaks, Told, said, says_texts, says_meaning, says}
use Rattle.again_laws.specs.Tiling.Tiles.{SameTokens}

-- ---- the same tokens

-- The token of a spot in another place: a line breaks before it as before where the kinds of the last token and of this one tie them, and it touches `#` where it did.
-- `free`: it is the first, before which a line may break.
pub record IsAlike (free : Bool) (behind last other : ℕ) (s : Spot) (esc : Bool) (q : PlacedToken) : Type 0 where
  pub token : q.spot.token ≡ s.token
  pub escaped : q.escaped ≡ esc
  pub line : free ≡ false → is_tied behind s.token.kind ≡ true → q.spot.line_break ≡ s.line_break
  pub touches : behind ≡ hash_kind → s.lo ≡ last → q.spot.lo ≡ other

abbrev pub Likewise : Bool → ℕ → ℕ → ℕ → List PlacedToken → List PlacedToken → Type 0
Likewise free behind last other [] [] = Unit {0}
Likewise free behind last other (p ∷ ps) (q ∷ qs) = IsAlike free behind last other p.spot p.escaped q × Likewise false p.spot.token.kind p.spot.hi q.spot.hi ps qs
Likewise free behind last other _ _ = ⊥

-- It is asked of the tokens alone.
pub likewise_same : (free : Bool) (behind last other : ℕ) (ps rs qs : List PlacedToken) → SameTokens ps rs → Likewise free behind last other rs qs → Likewise free behind last other ps qs
likewise_same free behind last other [] [] qs m l = l
likewise_same free behind last other [] (r ∷ rs) qs m l = absurd m
likewise_same free behind last other (p ∷ ps) [] qs m l = absurd m
likewise_same free behind last other (p ∷ ps) (r ∷ rs) [] m l = absurd l
likewise_same free behind last other (p ∷ ps) (r ∷ rs) (q ∷ qs) m l =
    let more = likewise_same false r.spot.token.kind r.spot.hi q.spot.hi ps rs qs m.1 l.1 in
    subst (λ (s : Spot). IsAlike free behind last other s p.escaped q × Likewise false s.token.kind s.hi q.spot.hi ps qs) (sym m.0.0)
    (subst (λ (b : Bool). IsAlike free behind last other r.spot b q) (sym m.0.1) l.0, more)

-- what stands since the last token: the same, or before the first the end of a line
abbrev pub StandsBefore : Bool → Spacing → Spacing → Input → Type 0
StandsBefore false a c us = c ≡ a
StandsBefore true a c us = (c ≡ Broken) × (brk us ≡ true)

-- The tokens `us` are the tokens `ts`, behind the spacings `c` and `a`.
record On (n : Naming) (a : Spacing) (ts : Input) (c : Spacing) (us : Input) : Type 0 where
  free : Bool
  behind : ℕ
  spacing : StandsBefore free a c us
  same : Likewise free behind ts.last us.last ts.places us.places
  behind_is : n.behind (length us.places) ≡ behind
  kinds : KindsBefore n.behind us.places

-- ---- the first token

record Step (free : Bool) (behind last other : ℕ) (p : PlacedToken) (ps us : List PlacedToken) : Type 0 where
  q : PlacedToken
  qs : List PlacedToken
  whole : us ≡ q ∷ qs
  alike : IsAlike free behind last other p.spot p.escaped q
  later : Likewise false p.spot.token.kind p.spot.hi q.spot.hi ps qs

step : (free : Bool) (behind last other : ℕ) (p : PlacedToken) (ps us : List PlacedToken) → Likewise free behind last other (p ∷ ps) us → Step free behind last other p ps us
step free behind last other p ps [] h = absurd h
step free behind last other p ps (q ∷ qs) h = record { q = q; qs = qs; whole = refl; alike = h.0; later = h.1 }

same_kind : (free : Bool) (behind last other : ℕ) (ps us : List PlacedToken) → Likewise free behind last other ps us → kind_of us ≡ kind_of ps
same_kind free behind last other [] [] h = refl
same_kind free behind last other [] (q ∷ qs) h = absurd h
same_kind free behind last other (p ∷ ps) [] h = absurd h
same_kind free behind last other (p ∷ ps) (q ∷ qs) h = ap (λ (t : SpecToken). t.kind) h.0.token

no_touch : (a c : Spacing) (us : Input) (P : Type 0) → StandsBefore true a c us → c ≡ Touching → P
no_touch a c us P h e = absurd (let k : Broken ≡ Touching = sym h.0 ∙ e in cc)

module _ (n : Naming) (token : SpecToken) (esc : Bool) (size : ℕ) (a : Spacing) (ts r : Input) (h : IsFirst token esc size a ts r) (c : Spacing) (us : Input) (o : On n a ts c us) where
  at_first : Step o.free o.behind ts.last us.last h.place r.places us.places
  at_first = step o.free o.behind ts.last us.last h.place r.places us.places (subst (λ (ps : List PlacedToken). Likewise o.free o.behind ts.last us.last ps us.places) h.whole o.same)

  token_at : at_first.q.spot.token ≡ token
  token_at = at_first.alike.token ∙ h.token_is

  kind_at : kind us ≡ token.kind
  kind_at = ap kind_of at_first.whole ∙ ap (λ (t : SpecToken). t.kind) token_at

  content_at : content us ≡ token.content
  content_at = ap content_of at_first.whole ∙ ap (λ (t : SpecToken). t.content) token_at

  escaped_at : escaped us ≡ esc
  escaped_at = ap escaped_of at_first.whole ∙ (at_first.alike.escaped ∙ h.escaped_is)

  broke_at : Breaks n c us
  broke_at e = by o.free refl o.spacing
    where
      by : (w : Bool) → o.free ≡ w → StandsBefore w a c us → brk us ≡ is_broken c
      by true f s = s.1 ∙ sym (ap is_broken s.0)
      by false f s =
          let k : kind us ≡ h.place.spot.token.kind = kind_at ∙ sym (ap (λ (t : SpecToken). t.kind) h.token_is) in
          let t : is_tied o.behind h.place.spot.token.kind ≡ true = subst (λ (j : ℕ). is_tied o.behind j ≡ true) k (subst (λ (j : ℕ). is_tied j (kind us) ≡ true) o.behind_is e) in
          ap break_of at_first.whole ∙ (at_first.alike.line f t ∙ (h.broke ∙ sym (ap is_broken s)))

  touches_at : n.behind (length us.places) ≡ hash_kind → c ≡ Touching → lo us ≡ us.last
  touches_at e t = by o.free o.spacing
    where
      by : (w : Bool) → StandsBefore w a c us → lo us ≡ us.last
      by true s = no_touch a c us _ s t
      by false s =
          let l : h.place.spot.lo ≡ ts.last = subst (λ (x : Spacing). Lies x ts.last h.place.spot.lo) (sym s ∙ t) h.begins in
          ap (λ (ps : List PlacedToken). lo_of us.last ps) at_first.whole ∙ at_first.alike.touches (sym o.behind_is ∙ e) l

  kinds_at : KindsBefore n.behind (at_first.q ∷ at_first.qs)
  kinds_at = subst (λ (ps : List PlacedToken). KindsBefore n.behind ps) at_first.whole o.kinds

  rest_places : (rest us).places ≡ at_first.qs
  rest_places = ap others at_first.whole

  rest_last : (rest us).last ≡ at_first.q.spot.hi
  rest_last = ap (λ (ps : List PlacedToken). hi_of us.last ps) at_first.whole

  behind_rest : n.behind (length (rest us).places) ≡ at_first.q.spot.token.kind
  behind_rest = subst (λ (ps : List PlacedToken). n.behind (length ps) ≡ at_first.q.spot.token.kind) (sym rest_places) kinds_at.0

  behind_at : n.behind (length (rest us).places) ≡ kind us
  behind_at = behind_rest ∙ sym (ap kind_of at_first.whole)

  on_rest : On n Touching r Touching (rest us)
  on_rest = record {
    free = false;
    behind = h.place.spot.token.kind;
    spacing = refl;
    same = subst (λ (l : ℕ). Likewise false h.place.spot.token.kind l (rest us).last r.places (rest us).places) (sym h.last)
        (subst (λ (l : ℕ). Likewise false h.place.spot.token.kind h.place.spot.hi l r.places (rest us).places) (sym rest_last)
        (subst (λ (ps : List PlacedToken). Likewise false h.place.spot.token.kind h.place.spot.hi at_first.q.spot.hi r.places ps) (sym rest_places) at_first.later));
    behind_is = behind_rest ∙ ap (λ (t : SpecToken). t.kind) at_first.alike.token;
    kinds = subst (λ (ps : List PlacedToken). KindsBefore n.behind ps) (sym rest_places) kinds_at.1;
  }

-- ---- layouts

on_same : (n : Naming) (a b : Spacing) (ts r : Input) (c : Spacing) (us : Input) → (b ≡ a) × (ts ≡ r) → On n a ts c us → On n b r c us
on_same n a b ts r c us h o = subst (λ (x : Spacing). On n x r c us) (sym h.0) (subst (λ (i : Input). On n a i c us) h.1 o)

blank_on : (n : Naming) (a : Spacing) (ts : Input) (c : Spacing) (us : Input) → On n a ts c us → On n (blanked a) ts (blanked c) us
blank_on n a ts c us o = record { free = o.free; behind = o.behind; spacing = by o.free o.spacing; same = o.same; behind_is = o.behind_is; kinds = o.kinds }
  where
    by : (w : Bool) → StandsBefore w a c us → StandsBefore w (blanked a) (blanked c) us
    by true s = (ap blanked s.0, s.1)
    by false s = ap blanked s

line_on : (n : Naming) (a b : Spacing) (ts r : Input) (c : Spacing) (us : Input) → ((b ≡ Broken) ⊎ (b ≡ a)) × (ts ≡ r) → On n a ts c us → (d : Spacing) × ((d ≡ Broken) ⊎ (d ≡ c)) × On n b r d us
line_on n a b ts r c us h o = by o.free refl o.spacing h.0
  where
    on : (w : Bool) → o.free ≡ w → (d : Spacing) → StandsBefore w b d us → On n b r d us
    on w f d s = record {
      free = w;
      behind = o.behind;
      spacing = s;
      same = subst (λ (v : Bool). Likewise v o.behind r.last us.last r.places us.places) f (subst (λ (i : Input). Likewise o.free o.behind i.last us.last i.places us.places) h.1 o.same);
      behind_is = o.behind_is;
      kinds = o.kinds;
    }

    by : (w : Bool) → o.free ≡ w → StandsBefore w a c us → (b ≡ Broken) ⊎ (b ≡ a) → (d : Spacing) × ((d ≡ Broken) ⊎ (d ≡ c)) × On n b r d us
    by true f s e = (c, inr refl, on true f c s)
    by false f s (inl e) = (b, inl e, on false f b refl)
    by false f s (inr e) = (b, inr (e ∙ sym s), on false f b refl)

module _ (n : Naming) (K : Spacing → Input → Type 0) where
  one_tells : (goal : LexicalGoal) (own : List ℕ) (a b : Spacing) (ts r : Input) → IsSaid goal own a ts b r → (c : Spacing) (us : Input) → On n a ts c us → ((d : Spacing) (m : Input) → On n b r d m → K d m)
      → (m : Input) × Told n goal own c us m × K Touching m
  one_tells goal own a b ts r h c us o go = (
    rest us,
    record {
      means = (h.lexeme, h.is_own, kind_at n _ _ _ a ts r h.first c us o, content_at n _ _ _ a ts r h.first c us o, escaped_at n _ _ _ a ts r h.first c us o);
      broke = broke_at n _ _ _ a ts r h.first c us o;
      touches = touches_at n _ _ _ a ts r h.first c us o;
      behind = behind_at n _ _ _ a ts r h.first c us o;
      after = refl;
    },
    go Touching (rest us) (subst (λ (x : Spacing). On n x r Touching (rest us)) (sym h.behind) (on_rest n _ _ _ a ts r h.first c us o)),
  )

  piece_tells : (x : Piece) (a b : Spacing) (ts r : Input) → SaysPiece x a ts b r → (c : Spacing) (us : Input) → On n a ts c us → ((d : Spacing) (m : Input) → On n b r d m → K d m) → said n x c us K
  piece_tells (Text span own) a b ts r h c us o go = one_tells Div own a b ts r h c us o go
  piece_tells (Brace span) a b ts r h c us o go = one_tells Div (codes "}") a b ts r h c us o go
  piece_tells Blank a b ts r h c us o go = go (blanked c) us (on_same n (blanked a) b ts r (blanked c) us h (blank_on n a ts c us o))
  piece_tells Line a b ts r h c us o go = let l = line_on n a b ts r c us h o in (l.0, l.1, go l.0 us l.2)
  piece_tells Deeper a b ts r h c us o go = go c us (on_same n a b ts r c us h o)
  piece_tells Back a b ts r h c us o go = go c us (on_same n a b ts r c us h o)
  piece_tells (Semicolon span) a b ts r (inl h) c us o go = inl (one_tells Div (codes ";") a b ts r h c us o go)
  piece_tells (Semicolon span) a b ts r (inr h) c us o go = inr (by h.2, go c us (on_same n a b ts r c us (h.0, h.1) o))
    where
      k : kind us ≡ kind ts
      k = same_kind o.free o.behind ts.last us.last ts.places us.places o.same

      by : SemicolonMayGo ts → SemicolonMayGo us
      by (inl e) = inl (k ∙ e)
      by (inr e) = inr (k ∙ e)
  piece_tells Commit a b ts r h c us o go = go c us (on_same n a b ts r c us h o)
  piece_tells (Mark pos) a b ts r h c us o go = go c us (on_same n a b ts r c us h o)

texts_tell : (n : Naming) (K : Spacing → Input → Type 0) (texts : List (List ℕ)) (a b : Spacing) (ts r : Input) → SaysTexts texts a ts b r → (c : Spacing) (us : Input) → On n a ts c us → ((d : Spacing) (m : Input) → On n b r d m → K d m)
    → says_texts n texts c us K
texts_tell n K [] a b ts r h c us o go = go c us (on_same n a b ts r c us h o)
texts_tell n K (own ∷ more) a b ts r h c us o go =
    one_tells n (λ d m. says_texts n more d m K) Div own a h.0 ts h.1 h.2 c us o (λ d m p. texts_tell n K more h.0 b h.1 r h.3 d m p go)

meaning_tells : (n : Naming) (K : Spacing → Input → Type 0) (x : Meaning) (a b : Spacing) (ts r : Input) → SaysMeaning x a ts b r → (c : Spacing) (us : Input) → On n a ts c us → ((d : Spacing) (m : Input) → On n b r d m → K d m)
    → says_meaning n x c us K
meaning_tells n K (regular_expression body flags) a b ts r h c us o go = one_tells n K RegExp (joined (texts_of (regular_expression body flags))) a b ts r h c us o go
meaning_tells n K (template_characters own) a b ts r h c us o go = one_tells n K TemplateTail own a b ts r h c us o go
meaning_tells n K (template_end own) a b ts r h c us o go = one_tells n K TemplateEnd own a b ts r h c us o go
meaning_tells n K (hashbang_comment own) a b ts r h c us o go = (
  rest us,
  record { kind_is = kind_at n _ _ _ a ts r h.first c us o; content_is = content_at n _ _ _ a ts r h.first c us o; after = refl },
  go Touching (rest us) (subst (λ (x : Spacing). On n x r Touching (rest us)) (sym h.behind) (on_rest n _ _ _ a ts r h.first c us o)),
)
meaning_tells n K (touching texts) a b ts r h c us o go = texts_tell n K texts a b ts r h c us o go

module _ (n : Naming) (stand : (pos at : ℕ) → StandsFor n pos at) (N : ℕ → ℕ → Type 0) where
  tells : (f : Laid) (a b : Spacing) (ts r : Input) (K : Spacing → Input → Type 0) → Says N f a ts b r → (c : Spacing) (us : Input) → On n a ts c us → ((d : Spacing) (m : Input) → On n b r d m → K d m) → says n f c us K
  tells nothing a b ts r K h c us o go = go c us (on_same n a b ts r c us h o)
  tells (one x) a b ts r K h c us o go = piece_tells n K x a b ts r h c us o go
  tells (meant x) a b ts r K h c us o go = meaning_tells n K x a b ts r h c us o go
  tells (named pos own) a b ts r K h c us o go = let z = one_tells n K Div own a b ts r h.said c us o go in (z.0, record { told = z.1; stands = stand pos.0 (lo us) }, z.2)
  tells (both f g) a b ts r K h c us o go = tells f a h.0 ts h.1 (λ d m. says n g d m K) h.2 c us o (λ d m p. tells g h.0 b h.1 r K h.3 d m p go)
  tells refused a b ts r K h c us o go = absurd h

none_left : (n : Naming) (b : Spacing) (r : Input) (d : Spacing) (m : Input) → r.places ≡ [] → On n b r d m → m.places ≡ []
none_left n b r d m e o = by m.places (subst (λ (ps : List PlacedToken). Likewise o.free o.behind r.last m.last ps m.places) e o.same)
  where
    by : (ps : List PlacedToken) → Likewise o.free o.behind r.last m.last [] ps → ps ≡ []
    by [] h = refl
    by (q ∷ qs) h = absurd h

-- Wherever names stand, a layout tells the same tokens.
pub likewise_tells : (n : Naming) → ((pos at : ℕ) → StandsFor n pos at) → (N : ℕ → ℕ → Type 0) (f : Laid) (a b : Spacing) (ts r : Input) → Says N f a ts b r
    → (free : Bool) (k : ℕ) (c : Spacing) (us : Input) → StandsBefore free a c us → Likewise free k ts.last us.last ts.places us.places
    → n.behind (length us.places) ≡ k → KindsBefore n.behind us.places → r.places ≡ [] → says n f c us (λ d m. m.places ≡ [])
likewise_tells n stand N f a b ts r h free k c us s l e z all =
    tells n stand N f a b ts r (λ d m. m.places ≡ []) h c us (record { free = free; behind = k; spacing = s; same = l; behind_is = e; kinds = z }) (λ d m o. none_left n b r d m all o)
