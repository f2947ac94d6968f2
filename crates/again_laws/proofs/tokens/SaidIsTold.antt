-- The tokens that a layout says are told to whatever goes on behind them.
use Rattle.std.proofs.Common.{◌≡◌, ℕ, inl, inr, Bool, List, [], ◌∷◌, sym, ap, subst, ◌∙◌}
use Rattle.std.specs.Prelude.{codes}
use Rattle.base_token.specs.Tokens.{SpecToken}
use Rattle.lex_token.specs.declared.goal.LexicalGoal.{LexicalGoal}
use Rattle.lex_token.specs.declared.goal.LexicalGoal.TheVariants.{Div, RegExp, TemplateTail, TemplateEnd}
use Rattle.grammar_spec.specs.Tokens.Input.{PlacedToken, Input, kind_of, content_of, escaped_of, rest, hi_of, others, lo, lo_of, brk, break_of}
use Rattle.print_pages_spec.specs.Pieces.{Piece, Text, Brace, Blank, Line, Deeper, Back, Semicolon, Commit, Mark}
use Rattle.print_layout_spec.specs.Looks.{Meaning, regular_expression, template_characters, template_end, hashbang_comment, touching, Laid, nothing, one, meant, named, both, refused, joined, texts_of}
use Rattle.again_laws.specs.Tokens.Spacings.{Spacing, Touching, is_broken, blanked, Lies}
use Rattle.again_laws.specs.Tokens.Naming.{Naming, StandsFor}
use Rattle.again_laws.specs.Tokens.Ties.{KindsBefore}
use Rattle.again_laws.specs.Tokens.Says.{IsFirst, IsSaid, IsHashbangSaid, SaysPiece, SaysTexts, SaysMeaning, Says}
use Rattle.again_laws.specs.Tokens.Told.{Told, ToldHashbang, said, says_texts, says_meaning, says}
use Rattle.again_laws.proofs.tokens.KindsBefore.{first_behind, said_kinds, kinds_on}

-- ---- the first token

module _ (token : SpecToken) (escaped : Bool) (size : ℕ) (a : Spacing) (ts r : Input) (h : IsFirst token escaped size a ts r) where
  first_rest : rest ts ≡ r
  first_rest =
      ap (λ (ps : List PlacedToken). record { last = hi_of ts.last ps; places = others ps }) h.whole ∙ ap (λ n. record { last = n; places = r.places }) (sym h.last)

  pub first_kind : kind_of ts.places ≡ token.kind
  first_kind = ap kind_of h.whole ∙ ap (λ (x : SpecToken). x.kind) h.token_is

  first_content : content_of ts.places ≡ token.content
  first_content = ap content_of h.whole ∙ ap (λ (x : SpecToken). x.content) h.token_is

  first_escaped : escaped_of ts.places ≡ escaped
  first_escaped = ap escaped_of h.whole ∙ h.escaped_is

  first_broke : brk ts ≡ is_broken a
  first_broke = ap break_of h.whole ∙ h.broke

  first_touches : a ≡ Touching → lo ts ≡ ts.last
  first_touches e = ap (λ (ps : List PlacedToken). lo_of ts.last ps) h.whole ∙ subst (λ (x : Spacing). Lies x ts.last h.place.spot.lo) e h.begins

pub told_of : (n : Naming) (goal : LexicalGoal) (own : List ℕ) (a b : Spacing) (ts r : Input) → IsSaid goal own a ts b r → KindsBefore n.behind ts.places → Told n goal own a ts r
told_of n goal own a b ts r h k = record {
  means = (h.lexeme, h.is_own, first_kind _ _ _ a ts r h.first, first_content _ _ _ a ts r h.first, first_escaped _ _ _ a ts r h.first);
  broke = λ e. first_broke _ _ _ a ts r h.first;
  touches = λ e. first_touches _ _ _ a ts r h.first;
  behind = first_behind n.behind _ _ _ a ts r h.first k ∙ sym (first_kind _ _ _ a ts r h.first);
  after = first_rest _ _ _ a ts r h.first;
}

hashbang_told : (own : List ℕ) (a b : Spacing) (ts r : Input) → IsHashbangSaid own a ts b r → ToldHashbang own a ts r
hashbang_told own a b ts r h = record {
  kind_is = first_kind _ _ _ a ts r h.first;
  content_is = first_content _ _ _ a ts r h.first;
  after = first_rest _ _ _ a ts r h.first;
}

-- ---- layouts

module _ (n : Naming) (K : Spacing → Input → Type 0) where
  moved : (a b : Spacing) (ts r : Input) → (b ≡ a) × (ts ≡ r) → K b r → K a ts
  moved a b ts r h k = subst (λ (x : Spacing). K x ts) h.0 (subst (λ (i : Input). K b i) (sym h.1) k)

  one_told : (goal : LexicalGoal) (own : List ℕ) (a b : Spacing) (ts r : Input) → IsSaid goal own a ts b r → KindsBefore n.behind ts.places → K b r → (m : Input) × Told n goal own a ts m × K Touching m
  one_told goal own a b ts r h j k = (r, told_of n goal own a b ts r h j, subst (λ (x : Spacing). K x r) h.behind k)

  piece_told : (x : Piece) (a b : Spacing) (ts r : Input) → SaysPiece x a ts b r → KindsBefore n.behind ts.places → K b r → said n x a ts K
  piece_told (Text span own) a b ts r h j k = one_told Div own a b ts r h j k
  piece_told (Brace span) a b ts r h j k = one_told Div (codes "}") a b ts r h j k
  piece_told Blank a b ts r h j k = moved (blanked a) b ts r h k
  piece_told Line a b ts r h j k = (b, h.0, subst (λ (i : Input). K b i) (sym h.1) k)
  piece_told Deeper a b ts r h j k = moved a b ts r h k
  piece_told Back a b ts r h j k = moved a b ts r h k
  piece_told (Semicolon span) a b ts r (inl h) j k = inl (one_told Div (codes ";") a b ts r h j k)
  piece_told (Semicolon span) a b ts r (inr h) j k = inr (h.2, moved a b ts r (h.0, h.1) k)
  piece_told Commit a b ts r h j k = moved a b ts r h k
  piece_told (Mark pos) a b ts r h j k = moved a b ts r h k

  texts_told : (texts : List (List ℕ)) (a b : Spacing) (ts r : Input) → SaysTexts texts a ts b r → KindsBefore n.behind ts.places → K b r → says_texts n texts a ts K
  texts_told [] a b ts r h j k = moved a b ts r h k
  texts_told (own ∷ others) a b ts r h j k =
      (h.1, told_of n Div own a h.0 ts h.1 h.2 j, texts_told others Touching b h.1 r (subst (λ (x : Spacing). SaysTexts others x h.1 b r) h.2.behind h.3) (said_kinds n.behind Div own a ts h.0 h.1 h.2 j) k)

  meaning_told : (m : Meaning) (a b : Spacing) (ts r : Input) → SaysMeaning m a ts b r → KindsBefore n.behind ts.places → K b r → says_meaning n m a ts K
  meaning_told (regular_expression body flags) a b ts r h j k = one_told RegExp (joined (texts_of (regular_expression body flags))) a b ts r h j k
  meaning_told (template_characters own) a b ts r h j k = one_told TemplateTail own a b ts r h j k
  meaning_told (template_end own) a b ts r h j k = one_told TemplateEnd own a b ts r h j k
  meaning_told (hashbang_comment own) a b ts r h j k = (r, hashbang_told own a b ts r h, subst (λ (x : Spacing). K x r) h.behind k)
  meaning_told (touching texts) a b ts r h j k = texts_told texts a b ts r h j k

pub bridge : (n : Naming) (f : Laid) (a b : Spacing) (ts r : Input) (K : Spacing → Input → Type 0) → Says (StandsFor n) f a ts b r → KindsBefore n.behind ts.places → K b r → says n f a ts K
bridge n nothing a b ts r K h j k = moved n K a b ts r h k
bridge n (one x) a b ts r K h j k = piece_told n K x a b ts r h j k
bridge n (meant m) a b ts r K h j k = meaning_told n K m a b ts r h j k
bridge n (named pos own) a b ts r K h j k = (r, record { told = told_of n Div own a b ts r h.said j; stands = h.stands }, subst (λ (x : Spacing). K x r) h.said.behind k)
bridge n (both f g) a b ts r K h j k = bridge n f a h.0 ts h.1 (λ d m. says n g d m K) h.2 j (bridge n g h.0 b h.1 r K h.3 (kinds_on n.behind (StandsFor n) f a ts h.0 h.1 h.2 j) k)
bridge n refused a b ts r K h j k = absurd h
