-- Names by where they stand: what a layout says of each is looked up by the place of its token.
use Rattle.std.proofs.Common.{◌≡◌, ℕ, ◌+◌, ◌<◌, ◌≤◌, inl, inr, Bool, true, false, List, [], ◌∷◌, length, Option, Some, None, refl, sym, ap, subst, ◌∙◌, arith}
use Rattle.std.specs.Prelude.{if◌then◌else◌, ◌==◌, nat_lt, codes}
use Rattle.std.proofs.lemmas.Bool.{eqb-true}
use Rattle.std.proofs.lemmas.Bool.Decides.{nat_tests}
use Rattle.std.proofs.lemmas.Str.{chars-nil}
use Rattle.base_token.specs.declared.place.Span.{Span}
use Rattle.base_token.specs.Tokens.{SpecToken}
use Rattle.lex_token.specs.declared.goal.LexicalGoal.{LexicalGoal}
use Rattle.lex_token.specs.declared.goal.LexicalGoal.TheVariants.{Div}
use Rattle.lex_token.specs.Lexemes.{IsLexeme}
use Rattle.grammar_spec.specs.Tokens.Input.{PlacedToken, Input, lo, lo_of}
use Rattle.print_pages_spec.specs.Pieces.{Piece, Text, Brace, Blank, Line, Deeper, Back, Semicolon, Commit, Mark}
use Rattle.print_layout_spec.specs.Looks.{Meaning, regular_expression, template_characters, template_end, hashbang_comment, touching, Laid, nothing, one, meant, named, both, refused}
use Rattle.again_laws.specs.Tokens.Spacings.{Spacing, Touching, Spaced, Broken, Lies}
use Rattle.again_laws.specs.Tokens.Naming.{Naming, StandsFor, untold}
use Rattle.again_laws.specs.Tokens.Says.{IsFirst, IsSaid, SaysPiece, SaysTexts, SaysMeaning, Says}
use Rattle.again_laws.specs.Tiling.Tiles.{SaysTiles}
use Rattle.again_laws.proofs.text.NoCrAtEnd.{no_outside}

-- ---- tokens lie one behind another

lies_behind : (a : Spacing) (last at : ℕ) → Lies a last at → last ≤ at
lies_behind Touching last at h = omega (arith, h)
lies_behind Spaced last at h = h
lies_behind Broken last at h = h

-- A token begins behind the last one, and the next behind it.
record Ahead (ts r : Input) (size : ℕ) : Type 0 where
  begins : ts.last ≤ lo ts
  ends : r.last ≡ lo ts + size

first_ahead : (token : SpecToken) (escaped : Bool) (size : ℕ) (a : Spacing) (ts r : Input) → IsFirst token escaped size a ts r → Ahead ts r size
first_ahead token escaped size a ts r h =
    let at : lo ts ≡ h.place.spot.lo = ap (λ (ps : List PlacedToken). lo_of ts.last ps) h.whole in
    let l = lies_behind a ts.last h.place.spot.lo h.begins in record {
      begins = subst (λ n. ts.last ≤ n) (sym at) l;
      ends = h.last ∙ (h.ends ∙ ap (λ n. n + size) (sym at));
    }

token_ahead : (token : SpecToken) (escaped : Bool) (size : ℕ) (a : Spacing) (ts r : Input) → IsFirst token escaped size a ts r → ts.last ≤ r.last
token_ahead token escaped size a ts r h = let x = first_ahead token escaped size a ts r h in let b = x.begins in let e = x.ends in omega (arith, b, e)

same_ahead : (ts r : Input) → ts ≡ r → ts.last ≤ r.last
same_ahead ts r e = let f : ts.last ≡ r.last = ap (λ (i : Input). i.last) e in omega (arith, f)

said_ahead : (goal : LexicalGoal) (own : List ℕ) (a : Spacing) (ts : Input) (b : Spacing) (r : Input) → IsSaid goal own a ts b r → ts.last ≤ r.last
said_ahead goal own a ts b r h = token_ahead _ _ _ a ts r h.first

piece_ahead : (x : Piece) (a : Spacing) (ts : Input) (b : Spacing) (r : Input) → SaysPiece x a ts b r → ts.last ≤ r.last
piece_ahead (Text span own) a ts b r h = said_ahead Div own a ts b r h
piece_ahead (Brace span) a ts b r h = said_ahead Div (codes "}") a ts b r h
piece_ahead Blank a ts b r h = same_ahead ts r h.1
piece_ahead Line a ts b r h = same_ahead ts r h.1
piece_ahead Deeper a ts b r h = same_ahead ts r h.1
piece_ahead Back a ts b r h = same_ahead ts r h.1
piece_ahead (Semicolon span) a ts b r (inl h) = said_ahead Div (codes ";") a ts b r h
piece_ahead (Semicolon span) a ts b r (inr h) = same_ahead ts r h.1
piece_ahead Commit a ts b r h = same_ahead ts r h.1
piece_ahead (Mark pos) a ts b r h = same_ahead ts r h.1

then_ahead : (ts m r : Input) → ts.last ≤ m.last → m.last ≤ r.last → ts.last ≤ r.last
then_ahead ts m r p q = omega (arith, p, q)

texts_ahead : (texts : List (List ℕ)) (a : Spacing) (ts : Input) (b : Spacing) (r : Input) → SaysTexts texts a ts b r → ts.last ≤ r.last
texts_ahead [] a ts b r h = same_ahead ts r h.1
texts_ahead (own ∷ others) a ts b r h = then_ahead ts h.1 r (said_ahead Div own a ts h.0 h.1 h.2) (texts_ahead others h.0 h.1 b r h.3)

meaning_ahead : (m : Meaning) (a : Spacing) (ts : Input) (b : Spacing) (r : Input) → SaysMeaning m a ts b r → ts.last ≤ r.last
meaning_ahead (regular_expression body flags) a ts b r h = said_ahead _ _ a ts b r h
meaning_ahead (template_characters own) a ts b r h = said_ahead _ own a ts b r h
meaning_ahead (template_end own) a ts b r h = said_ahead _ own a ts b r h
meaning_ahead (hashbang_comment own) a ts b r h = token_ahead _ _ _ a ts r h.first
meaning_ahead (touching texts) a ts b r h = texts_ahead texts a ts b r h

ahead : (N : ℕ → ℕ → Type 0) (f : Laid) (a : Spacing) (ts : Input) (b : Spacing) (r : Input) → Says N f a ts b r → ts.last ≤ r.last
ahead N nothing a ts b r h = same_ahead ts r h.1
ahead N (one x) a ts b r h = piece_ahead x a ts b r h
ahead N (meant m) a ts b r h = meaning_ahead m a ts b r h
ahead N (named pos own) a ts b r h = said_ahead Div own a ts b r h.said
ahead N (both f g) a ts b r h = then_ahead ts h.1 r (ahead N f a ts h.0 h.1 h.2) (ahead N g h.0 h.1 b r h.3)
ahead N refused a ts b r h = absurd h

-- ---- what holds of names within the tokens

some_text : (own : List ℕ) (a : Spacing) (ts : Input) (b : Spacing) (r : Input) → IsSaid Div own a ts b r → 0 < length own
some_text [] a ts b r h = absurd (no_outside Div h.lexeme (subst (λ (cs : List ℕ). IsLexeme Div cs h.lexeme []) chars-nil h.is_own))
some_text (c ∷ cs) a ts b r h = omega arith

says_within : (N M : ℕ → ℕ → Type 0) (f : Laid) (a : Spacing) (ts : Input) (b : Spacing) (r : Input) → Says N f a ts b r
    → ((pos at : ℕ) → ts.last ≤ at → at < r.last → N pos at → M pos at) → Says M f a ts b r
says_within N M nothing a ts b r h go = h
says_within N M (one x) a ts b r h go = h
says_within N M (meant m) a ts b r h go = h
says_within N M (named pos own) a ts b r h go =
    let x = first_ahead _ _ _ a ts r h.said.first in
    let s = some_text own a ts b r h.said in
    let e = x.ends in
    record { said = h.said; stands = go pos.0 (lo ts) x.begins (omega (arith, s, e)) h.stands }
says_within N M (both f g) a ts b r h go =
    let p = ahead N f a ts h.0 h.1 h.2 in
    let q = ahead N g h.0 h.1 b r h.3 in
    (h.0, h.1, says_within N M f a ts h.0 h.1 h.2 (λ pos at l u n. go pos at l (omega (arith, u, q)) n), says_within N M g h.0 h.1 b r h.3 (λ pos at l u n. go pos at (omega (arith, l, p)) u n))
says_within N M refused a ts b r h go = h

-- ---- the name at a place

-- where the name that begins at a place was read
find : (N : ℕ → ℕ → Type 0) (f : Laid) (a : Spacing) (ts : Input) (b : Spacing) (r : Input) → Says N f a ts b r → ℕ → Option ℕ
find N nothing a ts b r h at = None
find N (one x) a ts b r h at = None
find N (meant m) a ts b r h at = None
find N (named pos own) a ts b r h at = if at == lo ts then Some pos.0 else None
find N (both f g) a ts b r h at = if nat_lt at h.1.last then find N f a ts h.0 h.1 h.2 at else find N g h.0 h.1 b r h.3 at
find N refused a ts b r h at = None

found_stands : (N : ℕ → ℕ → Type 0) (f : Laid) (a : Spacing) (ts : Input) (b : Spacing) (r : Input) (h : Says N f a ts b r) (pos at : ℕ) → find N f a ts b r h at ≡ Some pos → N pos at
unfolding find
found_stands N nothing a ts b r h pos at e = absurd cc
found_stands N (one x) a ts b r h pos at e = absurd cc
found_stands N (meant m) a ts b r h pos at e = absurd cc
found_stands N (named place own) a ts b r h pos at e = by (at == lo ts) refl e
  where
    by : (t : Bool) → (at == lo ts) ≡ t → (if t then Some place.0 else None) ≡ Some pos → N pos at
    by true t e = subst (λ n. N n at) (let k : place.0 ≡ pos = cc in k) (subst (λ n. N place.0 n) (sym (eqb-true at (lo ts) t)) h.stands)
    by false t e = absurd cc
found_stands N (both f g) a ts b r h pos at e = by (nat_lt at h.1.last) (λ k. found_stands N f a ts h.0 h.1 h.2 pos at k) (λ k. found_stands N g h.0 h.1 b r h.3 pos at k) e
  where
    by : (t : Bool) → (find N f a ts h.0 h.1 h.2 at ≡ Some pos → N pos at) → (find N g h.0 h.1 b r h.3 at ≡ Some pos → N pos at)
        → (if t then find N f a ts h.0 h.1 h.2 at else find N g h.0 h.1 b r h.3 at) ≡ Some pos → N pos at
    by true first second e = first e
    by false first second e = second e
found_stands N refused a ts b r h pos at e = absurd h

names_found : (N : ℕ → ℕ → Type 0) (f : Laid) (a : Spacing) (ts : Input) (b : Spacing) (r : Input) (h : Says N f a ts b r) → Says (λ pos at. find N f a ts b r h at ≡ Some pos) f a ts b r
unfolding find
names_found N nothing a ts b r h = h
names_found N (one x) a ts b r h = h
names_found N (meant m) a ts b r h = h
names_found N (named pos own) a ts b r h =
    let e : (lo ts == lo ts) ≡ true = grind (arith, nat_tests) in
    record { said = h.said; stands = ap (λ t. if t then Some pos.0 else None) e }
names_found N (both f g) a ts b r h = (
  h.0,
  h.1,
  says_within _ _ f a ts h.0 h.1 (names_found N f a ts h.0 h.1 h.2) (λ pos at l u n.
      let e : nat_lt at h.1.last ≡ true = grind (arith, nat_tests, u) in
      ap (λ t. if t then find N f a ts h.0 h.1 h.2 at else find N g h.0 h.1 b r h.3 at) e ∙ n),
  says_within _ _ g h.0 h.1 b r (names_found N g h.0 h.1 b r h.3) (λ pos at l u n.
      let e : nat_lt at h.1.last ≡ false = grind (arith, nat_tests, l) in
      ap (λ t. if t then find N f a ts h.0 h.1 h.2 at else find N g h.0 h.1 b r h.3 at) e ∙ n),
)
names_found N refused a ts b r h = h

-- ---- the naming

abbrev kept_as : Option ℕ → Span
kept_as None = record { lo = record { 0 = 0 }; hi = record { 0 = 0 } }
kept_as (Some pos) = record { lo = record { 0 = 1 }; hi = record { 0 = pos } }

kept_same : (o : Option ℕ) (pos : ℕ) → kept_as o ≡ kept_as (Some pos) → o ≡ Some pos
kept_same None pos e = absurd (let k : 0 ≡ 1 = ap (λ (s : Span). s.lo.0) e in omega (arith, k))
kept_same (Some p) pos e = ap (λ n. Some n) (ap (λ (s : Span). s.hi.0) e)

pub record Placed (N : ℕ → ℕ → Type 0) (start : ℕ) (modules : Bool) (f : Laid) (text : List ℕ) : Type 0 where
  pub naming : Naming
  pub tiles : SaysTiles (StandsFor naming) start modules f text
  pub tells : (pos at : ℕ) → StandsFor naming pos at → N pos at

-- What a layout says of each name is said by a naming, since no two names begin at one place.
pub naming_of : (N : ℕ → ℕ → Type 0) (start : ℕ) (modules : Bool) (f : Laid) (text : List ℕ) → SaysTiles N start modules f text → Placed N start modules f text
naming_of N start modules f text h =
    let ts : Input = record { last = start; places = h.places } in
    let at : ℕ → Option ℕ = find N f Spaced ts h.gap h.over h.says in record {
      naming = record { read = λ pos. kept_as (Some pos); written = λ n. kept_as (at n); behind = untold };
      tiles = record {
        places = h.places;
        tiles = h.tiles;
        goals = h.goals;
        gap = h.gap;
        over = h.over;
        says = says_within _ _ f Spaced ts h.gap h.over (names_found N f Spaced ts h.gap h.over h.says) (λ pos n l u e. ap kept_as e);
        all = h.all;
      };
      tells = λ pos n e. found_stands N f Spaced ts h.gap h.over h.says pos n (kept_same (at n) pos e);
    }
