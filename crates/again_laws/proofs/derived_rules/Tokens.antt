-- The tokens that a layout says, one at a time: what the grammar takes, and pieces that say no token.
use Rattle.std.proofs.Common.{Bool, List, None, [], ap, length, arith, codes, false, inl, inr, refl, subst, sym, true, true≢false, ℕ, ◌&&◌, ◌||◌, ◌∙◌, ◌∷◌, ◌≡◌, ◌⊎◌, if◌then◌else◌}
use Rattle.std.proofs.lemmas.Bool.{or_left, or_right}
use Rattle.base_token.specs.Kinds.{name_kind, semicolon_kind}
use Rattle.base_token.specs.declared.context.Context.{Context}
use Rattle.base_token.specs.declared.place.BytePos.{BytePos}
use Rattle.lex_token.specs.declared.goal.LexicalGoal.TheVariants.{Div}
use Rattle.grammar_spec.specs.Tokens.Input.{Code, Input, brk, Takes, TakesAnyWord, TakesName, TakesWord, content, escaped, is_word, kind, no_name, strict_reserved, unplaced}
use Rattle.grammar_spec.specs.Tokens.Operators.{pauses}
use Rattle.grammar_spec.specs.Children.{Ends}
use Rattle.print_pages_spec.specs.Pieces.{Back, Blank, Brace, Commit, Deeper, Line, Mark, Piece, Semicolon, Text}
use Rattle.print_layout_spec.specs.Literals.{name_bytes}
use Rattle.print_layout_spec.specs.Looks.{Laid, Meaning, blank, both, hashbang_comment, line_always, meant, named as named_piece, nothing, one, refused, regular_expression, template_characters, template_end, touching, when, gap, formats}
use Rattle.print_layout_spec.specs.declared.look.Look.{Look}
use Rattle.again_laws.specs.Tokens.Spacings.{Broken, Spacing, Spaced, Touching, blanked, is_broken}
use Rattle.again_laws.specs.Tokens.Ties.{is_held, is_tied, is_tying}
use Rattle.again_laws.specs.Tokens.Lexicon.{Lexicon}
use Rattle.again_laws.specs.Tokens.Means.{Known, Means}
use Rattle.again_laws.specs.Tokens.Naming.{Naming}
use Rattle.again_laws.specs.Tokens.Says.{SemicolonMayGo}
use Rattle.again_laws.specs.Tokens.Texts.{mark_text, word_text}
use Rattle.again_laws.specs.Tokens.Told.{Told, said, says, says_meaning, says_texts}

-- the spacing behind a blank that may be written
abbrev pub gapped : Bool → Spacing → Spacing
gapped true a = blanked a
gapped false a = a

-- A blank ends no line.
pub blank_broke : (v : Bool) (a : Spacing) → is_broken (gapped v a) ≡ is_broken a
blank_broke true Touching = refl
blank_broke true Spaced = refl
blank_broke true Broken = refl
blank_broke false a = refl

-- ---- pieces that say no token

pub skip : (n : Naming) (v : Bool) (a : Spacing) (ts : Input) (K : Spacing → Input → Type 0) → says n (when v blank) a ts K → K (gapped v a) ts
skip n true a ts K h = h
skip n false a ts K h = h

-- a blank, or where formatting writes one
pub skip_either : (look : Look) (n : Naming) (v : Bool) (a : Spacing) (ts : Input) (K : Spacing → Input → Type 0) → says n (if v then gap look else blank) a ts K → (d : Spacing) × K d ts
skip_either look n true a ts K h = (gapped (formats look) a, skip n (formats look) a ts K h)
skip_either look n false a ts K h = (blanked a, h)

pub skip_mark : (n : Naming) (v : Bool) (pos : BytePos) (a : Spacing) (ts : Input) (K : Spacing → Input → Type 0) → says n (when v (one (Mark pos))) a ts K → K a ts
skip_mark n true pos a ts K h = h
skip_mark n false pos a ts K h = h

pub skip_deeper : (n : Naming) (v : Bool) (a : Spacing) (ts : Input) (K : Spacing → Input → Type 0) → says n (when v (one Deeper)) a ts K → K a ts
skip_deeper n true a ts K h = h
skip_deeper n false a ts K h = h

pub skip_back : (n : Naming) (v : Bool) (a : Spacing) (ts : Input) (K : Spacing → Input → Type 0) → says n (when v (one Back)) a ts K → K a ts
skip_back n true a ts K h = h
skip_back n false a ts K h = h

pub skip_line : (n : Naming) (v : Bool) (a : Spacing) (ts : Input) (K : Spacing → Input → Type 0) → says n (when v line_always) a ts K → (d : Spacing) × K d ts
skip_line n true a ts K h = (h.0, h.2)
skip_line n false a ts K h = (a, h)

-- ---- what goes on behind a layout may be told less

texts_map : (n : Naming) (ows : List (List ℕ)) (a : Spacing) (ts : Input) (K J : Spacing → Input → Type 0) → ((d : Spacing) (m : Input) → K d m → J d m) → says_texts n ows a ts K → says_texts n ows a ts J
texts_map n [] a ts K J g h = g a ts h
texts_map n (own ∷ ows) a ts K J g h = (h.0, h.1, texts_map n ows Touching h.0 K J g h.2)

meaning_map : (n : Naming) (x : Meaning) (a : Spacing) (ts : Input) (K J : Spacing → Input → Type 0) → ((d : Spacing) (m : Input) → K d m → J d m) → says_meaning n x a ts K → says_meaning n x a ts J
meaning_map n (regular_expression body flags) a ts K J g h = (h.0, h.1, g Touching h.0 h.2)
meaning_map n (template_characters own) a ts K J g h = (h.0, h.1, g Touching h.0 h.2)
meaning_map n (template_end own) a ts K J g h = (h.0, h.1, g Touching h.0 h.2)
meaning_map n (hashbang_comment own) a ts K J g h = (h.0, h.1, g Touching h.0 h.2)
meaning_map n (touching ows) a ts K J g h = texts_map n ows a ts K J g h

piece_map : (n : Naming) (p : Piece) (a : Spacing) (ts : Input) (K J : Spacing → Input → Type 0) → ((d : Spacing) (m : Input) → K d m → J d m) → said n p a ts K → said n p a ts J
piece_map n (Text s own) a ts K J g h = (h.0, h.1, g Touching h.0 h.2)
piece_map n (Brace s) a ts K J g h = (h.0, h.1, g Touching h.0 h.2)
piece_map n Blank a ts K J g h = g (blanked a) ts h
piece_map n Line a ts K J g h = (h.0, h.1, g h.0 ts h.2)
piece_map n Deeper a ts K J g h = g a ts h
piece_map n Back a ts K J g h = g a ts h
piece_map n (Semicolon s) a ts K J g (inl h) = inl (h.0, h.1, g Touching h.0 h.2)
piece_map n (Semicolon s) a ts K J g (inr h) = inr (h.0, g a ts h.1)
piece_map n Commit a ts K J g h = g a ts h
piece_map n (Mark pos) a ts K J g h = g a ts h

pub says_map : (n : Naming) (f : Laid) (a : Spacing) (ts : Input) (K J : Spacing → Input → Type 0) → ((d : Spacing) (m : Input) → K d m → J d m) → says n f a ts K → says n f a ts J
says_map n nothing a ts K J g h = g a ts h
says_map n (one p) a ts K J g h = piece_map n p a ts K J g h
says_map n (meant x) a ts K J g h = meaning_map n x a ts K J g h
says_map n (both f k) a ts K J g h = says_map n f a ts (λ d m. says n k d m K) (λ d m. says n k d m J) (λ d m j. says_map n k d m K J g j) h
says_map n (named_piece pos own) a ts K J g h = (h.0, h.1, g Touching h.0 h.2)
says_map n refused a ts K J g h = h

-- ---- semicolons (12.10)

-- A semicolon that may go: it is there, or `}` or the end comes.
pub data Semi (n : Naming) (a : Spacing) (ts : Input) : Spacing → Input → Type 0 where
  there : {m : Input} → Told n Div (codes ";") a ts m → Semi n a ts Touching m
  gone : SemicolonMayGo ts → Semi n a ts a ts

pub semi_of : {n : Naming} (a : Spacing) (ts : Input) (K : Spacing → Input → Type 0) → said n (Semicolon None) a ts K → (d : Spacing) × (m : Input) × Semi n a ts d m × K d m
semi_of a ts K (inl h) = (Touching, h.0, there h.1, h.2)
semi_of a ts K (inr h) = (a, ts, gone h.0, h.1)

pauses_at : (c : Code) (e : ℕ) (ts : Input) → SemicolonMayGo ts → pauses c e ts ≡ true
pauses_at c e ts (inl h) = rw h refl
pauses_at c e ts (inr h) = rw h refl

no_semicolon : (ts : Input) → SemicolonMayGo ts → kind ts ≡ semicolon_kind → ⊥
no_semicolon ts (inl h) e = absurd (omega arith)
no_semicolon ts (inr h) e = absurd (omega arith)

-- A word with an escape is barred nowhere if it is no reserved word, and one without is barred nowhere.
escape_bars : (z : Context) (e : Bool) (k : ℕ) → (e ≡ true → k ≡ name_kind) → (e && (no_name z k || (strict_reserved k && z.strict))) ≡ false
escape_bars z false k h = refl
escape_bars z true k h = subst (λ (j : ℕ). (no_name z j || (strict_reserved j && z.strict)) ≡ false) (sym (h refl)) refl

pub unbarred : (z : Context) (e : Bool) (k : ℕ) → e ≡ false → (e && (no_name z k || (strict_reserved k && z.strict))) ≡ false
unbarred z true k h = absurd (true≢false h)
unbarred z false k h = refl

module _ (look : Look) (x : Lexicon look.style) where
  -- a punctuator
  pub marked : (k : ℕ) {a : Spacing} {ts m : Input} → Told x.naming Div (mark_text k) a ts m → kind ts ≡ k
  marked k t = (x.marks k _ _ _ t.means).0

  pub took : (c : Code) (k : ℕ) {a : Spacing} {ts m : Input} → Told x.naming Div (mark_text k) a ts m → Takes (unplaced c) k ts m
  took c k t = (marked k t, tt, t.after)

  -- a word of the grammar
  pub keyed : (k : ℕ) {a : Spacing} {ts m : Input} → Told x.naming Div (word_text k) a ts m → kind ts ≡ k
  keyed k t = (x.keywords k _ _ _ t.means).0

  pub worded : (c : Code) (k : ℕ) {a : Spacing} {ts m : Input} → Told x.naming Div (word_text k) a ts m → TakesWord (unplaced c) k ts m
  worded c k {ts = ts} t = let z = x.keywords k _ _ _ t.means in (z.0, unbarred c.context (escaped ts) (kind ts) z.1, tt, t.after)

  -- Behind a word that ties no line ends but where one was written, nor before a token that is held.
  pub behind_word : (k : ℕ) → is_tying k ≡ true → {a : Spacing} {ts m : Input} → Told x.naming Div (word_text k) a ts m → {v : Bool} → (is_tied (x.naming.behind (length m.places)) (kind m) ≡ true → brk m ≡ v) → brk m ≡ v
  behind_word k i t b = b (or_left _ _ (ap is_tying (t.behind ∙ keyed k t) ∙ i))

  pub before_held : {a : Spacing} {ts m : Input} {own : List ℕ} → Told x.naming Div own a ts m → is_held (kind ts) ≡ true → brk ts ≡ is_broken a
  before_held t i = t.broke (or_right _ _ i)

  -- any word
  pub spelled_word : (n : List ℕ) (ts0 r0 ts m : Input) {a : Spacing} (c d : Code) → TakesAnyWord c n ts0 r0 → Known ts0.places → Told x.naming Div (name_bytes look.style n) a ts m → (kind ts ≡ kind ts0) × TakesAnyWord (unplaced d) n ts m
  spelled_word n ts0 r0 ts m c d h l t =
      let z = x.names ts0 _ _ _ l h.0 (subst (λ (w : List ℕ). Means Div (name_bytes look.style w) (kind ts) (content ts) (escaped ts)) (sym h.1) t.means) in
      (z.0, (ap is_word z.0 ∙ h.0, z.1 ∙ h.1, tt, t.after))

  -- a name
  pub named : (c : Code) (n : List ℕ) (ts0 r0 ts m : Input) {a : Spacing} → TakesName c n ts0 r0 → Known ts0.places → Told x.naming Div (name_bytes look.style n) a ts m → (kind ts ≡ kind ts0) × TakesName (unplaced c) n ts m
  named c n ts0 r0 ts m h l t =
      let z = x.names ts0 _ _ _ l h.0 (subst (λ (w : List ℕ). Means Div (name_bytes look.style w) (kind ts) (content ts) (escaped ts)) (sym h.3) t.means) in
      (z.0, (ap is_word z.0 ∙ h.0, ap (λ (k : ℕ). no_name c.context k) z.0 ∙ h.1, escape_bars c.context (escaped ts) (kind ts) z.2, z.1 ∙ h.3, tt, t.after))

  -- what ends a statement
  pub ended : (c : Code) (e : ℕ) {a : Spacing} {ts : Input} {d : Spacing} {m : Input} → Semi x.naming a ts d m → Ends (unplaced c) e ts m
  ended c e (there t) = inl (took c semicolon_kind t)
  ended c e {ts = ts} (gone h) = inr (no_semicolon ts h, pauses_at (unplaced c) e ts h, refl)

  pub ended_kind : {a : Spacing} {ts : Input} {d : Spacing} {m : Input} → Semi x.naming a ts d m → (kind ts ≡ semicolon_kind) ⊎ SemicolonMayGo ts
  ended_kind (there t) = inl (marked semicolon_kind t)
  ended_kind (gone h) = inr h
