-- What the class of a text's first byte tells of the trivia at its front.
use Rattle.std.proofs.Common.{◌≡◌, ◌≢◌, ℕ, ◌<◌, ◌≤◌, ⊎_elim, Bool, true, false, not, ◌&&◌, List, [], ◌∷◌, ◌++◌, drop, length, slice_index_or, refl, sym, ap, subst, ◌∙◌, arith, IsUtf8, IsCharBoundary}
use Rattle.std.specs.Prelude.{◌==◌, ◌||◌, if◌then◌else◌, nat_lt, Option, None, Some, Ok, MatchOption}
use Rattle.std.specs.Borrow.{Bor}
use Rattle.std.specs.Str.{chars}
use Rattle.std.proofs.lemmas.Bool.{and_parts, cases_lt, false≢true, not-true, or_parts}
use Rattle.std.proofs.lemmas.Bool.Decides.{nat_tests}
use Rattle.std.proofs.lemmas.Str.{IsCharBoundary-at_seam, chars-encodes, chars-nil, encode_ascii, encodes-chars, scalars-chars}
use Rattle.std.proofs.Math.Seq.{drop-append_seam}
use lib.Utf8.{encodes, scalar, scalars}
use Rattle.unicode_ident.proofs.Computing.{unicode_ident}
use Rattle.lex_pieces.specs.declared.bytes.ByteClass.{ByteClass}
use Rattle.lex_pieces.specs.declared.bytes.ByteClass.TheVariants as b
use Rattle.lex_pieces.specs.declared.trivia.Goal.{Goal}
use Rattle.lex_pieces.specs.declared.trivia.LineMark.TheVariants.{HtmlClose}
use Rattle.lex_pieces.specs.declared.trivia.Trivia.{Trivia}
use Rattle.lex_pieces.specs.Bytes.{IsLead, class_of}
use Rattle.lex_pieces.specs.Characters.{is_white_space, is_line_terminator}
use Rattle.lex_pieces.specs.Runs.{after}
use Rattle.lex_pieces.specs.Trivia.{WhiteSpace, LineTerminator}
use Rattle.lex_pieces.specs.ReadingTrivia.{Agrees, Reading, Nothing, Found, after_break, html, mark, past_html_close, read, read_by, view, wide}
use Rattle.lex_pieces.proofs.Tables.{same_from_table}
use Rattle.lex_pieces.proofs.Wide.{head_of}

-- ---- the first byte

lead_by : (x : ℕ) (bs cs : List ℕ) → encodes cs ≡ x ∷ bs → IsLead x cs
lead_by x bs [] e = cc
lead_by x bs (c ∷ cs) e =
    let h = head_of c in
    let whole : h.0 ∷ (h.1 ++ encodes cs) ≡ x ∷ bs = ap (λ l. l ++ encodes cs) (sym h.2.whole) ∙ e in
    let same : h.0 ≡ x = cc in
    (c, cs, h.1, refl, h.2.whole ∙ ap (λ (y : ℕ). y ∷ h.1) same)

lead_of : (s : List ℕ) (x : ℕ) (bs : List ℕ) → IsUtf8 s → s ≡ x ∷ bs → IsLead x (chars s)
lead_of s x bs u e = lead_by x bs (chars s) (encodes-chars s u ∙ e)

pub lead_at : (s : List ℕ) → IsUtf8 s → 1 ≤ length s → IsLead (slice_index_or s 0 0) (chars s)
lead_at [] u h = absurd (omega (arith, h))
lead_at (x ∷ xs) u h = lead_of (x ∷ xs) x xs u refl

pub no_lead : (s : List ℕ) → length s < 1 → chars s ≡ []
no_lead [] h = chars-nil
no_lead (x ∷ xs) h = absurd (omega (arith, h))

-- the first character, as its first byte tells it
pub record Leads (x : ℕ) (text : List ℕ) : Type 0 where
  pub head : ℕ
  pub rest : List ℕ
  pub whole : text ≡ head ∷ rest
  pub low : x < 128 → head ≡ x
  pub high : 128 ≤ x → 128 ≤ head

pub leads : (x : ℕ) (text : List ℕ) → IsLead x text → Leads x text
leads x text k =
    let h = head_of k.0 in
    let whole : h.0 ∷ h.1 ≡ x ∷ k.2 = sym h.2.whole ∙ k.4 in
    let same : h.0 ≡ x = cc in record {
      head = k.0;
      rest = k.1;
      whole = k.3;
      low = λ (l : x < 128). ⊎_elim
          (λ (short : k.0 < 128). sym (h.2.low short) ∙ same)
          (λ (long : 128 ≤ k.0). absurd (omega (arith, h.2.high long, same)))
          (cases_lt k.0 128);
      high = λ (l : 128 ≤ x). ⊎_elim
          (λ (short : k.0 < 128). absurd (omega (arith, h.2.low short, same)))
          (λ (long : 128 ≤ k.0). long)
          (cases_lt k.0 128);
    }

-- a text cut after a character of ASCII
pub record AsciiCut (s : List ℕ) (c : ℕ) : Type 0 where
  pub boundary : IsCharBoundary s 1
  pub rest : chars s ≡ c ∷ chars (drop 1 s)

pub ascii_cut : (s : List ℕ) (c : ℕ) (cs : List ℕ) → IsUtf8 s → chars s ≡ c ∷ cs → c < 128 → AsciiCut s c
ascii_cut s c cs u e short =
    let split : s ≡ (c ∷ []) ++ encodes cs = sym (encodes-chars s u) ∙ ap encodes e ∙ ap (λ l. l ++ encodes cs) (encode_ascii c short) in
    let texts : (scalar c && scalars cs) ≡ true = ap scalars (sym e) ∙ scalars-chars s u in
    let scalar_rest : scalars cs ≡ true = (and_parts (scalar c) (scalars cs) texts).1 in
    let left : chars (drop 1 s) ≡ cs = ap (λ l. chars (drop 1 l)) split ∙ ap chars (drop-append_seam (c ∷ []) (encodes cs)) ∙ chars-encodes cs scalar_rest in
    record {
      boundary = IsCharBoundary-at_seam s (c ∷ []) (encodes cs) split (cs, (scalar_rest, refl));
      rest = e ∙ ap (λ (l : List ℕ). c ∷ l) (sym left);
    }

pub first_ascii : (s : List ℕ) → IsUtf8 s → ((x : ℕ) × (x < 128) × IsLead x (chars s)) → (c : ℕ) × (c < 128) × AsciiCut s c
first_ascii s u h =
    let k = leads h.0 (chars s) h.2 in
    let is : k.head ≡ h.0 = k.low h.1 in
    let short : k.head < 128 = omega (arith, is, h.1) in
    (k.head, short, ascii_cut s k.head k.rest u k.whole short)

-- ---- what each class tells of its bytes

-- none of the characters that marks of trivia begin with
abbrev no_mark : ℕ → Bool
no_mark c = not (c == 47) && (not (c == 60) && not (c == 45))

abbrev space_byte : ℕ → Bool
space_byte x = nat_lt x 128 && is_white_space x

abbrev break_byte : ℕ → Bool
break_byte x = nat_lt x 128 && (not (is_white_space x) && is_line_terminator x)

abbrev mark_byte : ℕ → Bool
mark_byte x = nat_lt x 128 && (not (is_white_space x) && not (is_line_terminator x))

abbrev other_byte : ℕ → Bool
other_byte x = nat_lt x 128 && (not (is_white_space x) && (not (is_line_terminator x) && no_mark x))

-- what a byte of the class is
abbrev told : ByteClass → ℕ → Bool
told b.WhiteSpace x = space_byte x
told b.LineTerminator x = break_byte x
told b.Punctuator x = mark_byte x
told b.NonAscii x = not (nat_lt x 128)
told b.NameStart x = other_byte x
told b.Digit x = other_byte x
told b.Quote x = other_byte x
told b.BackQuote x = other_byte x
told b.Backslash x = other_byte x
told b.Other x = other_byte x

tells : (x : ℕ) → x < 256 → told (class_of x) x ≡ true
unfolding class_of unicode_ident
tells x h = same_from_table (λ x. told (class_of x) x) (λ x. true) false x h refl

tells_of : (k : ByteClass) (x : ℕ) → x < 256 → class_of x ≡ k → told k x ≡ true
tells_of k x h e = subst (λ k. told k x ≡ true) e (tells x h)

other_class : (k : ByteClass) (x : ℕ) → k ≢ b.WhiteSpace → k ≢ b.LineTerminator → k ≢ b.Punctuator → k ≢ b.NonAscii → told k x ≡ true → other_byte x ≡ true
other_class b.WhiteSpace x s l p n h = absurd (s refl)
other_class b.LineTerminator x s l p n h = absurd (l refl)
other_class b.Punctuator x s l p n h = absurd (p refl)
other_class b.NonAscii x s l p n h = absurd (n refl)
other_class b.NameStart x s l p n h = h
other_class b.Digit x s l p n h = h
other_class b.Quote x s l p n h = h
other_class b.BackQuote x s l p n h = h
other_class b.Backslash x s l p n h = h
other_class b.Other x s l p n h = h

-- ---- what is read there

pub below : (x : ℕ) (q : Bool) → (nat_lt x 128 && q) ≡ true → x < 128
below x q h = let l : nat_lt x 128 ≡ true = (and_parts (nat_lt x 128) q h).0 in grind (arith, nat_tests)

pub space_low : (x : ℕ) → x < 256 → class_of x ≡ b.WhiteSpace → (x < 128) × (is_white_space x ≡ true)
space_low x h e = let k = tells_of b.WhiteSpace x h e in (below x (is_white_space x) k, (and_parts (nat_lt x 128) (is_white_space x) k).1)

pub break_low : (x : ℕ) → x < 256 → class_of x ≡ b.LineTerminator → (x < 128) × (is_white_space x ≡ false) × (is_line_terminator x ≡ true)
break_low x h e =
    let k = tells_of b.LineTerminator x h e in
    let q = not (is_white_space x) && is_line_terminator x in
    let p = and_parts (not (is_white_space x)) (is_line_terminator x) (and_parts (nat_lt x 128) q k).1 in
    (below x q k, not-true (is_white_space x) p.0, p.1)

pub mark_low : (x : ℕ) → x < 256 → class_of x ≡ b.Punctuator → (x < 128) × (is_white_space x ≡ false) × (is_line_terminator x ≡ false)
mark_low x h e =
    let k = tells_of b.Punctuator x h e in
    let q = not (is_white_space x) && not (is_line_terminator x) in
    let p = and_parts (not (is_white_space x)) (not (is_line_terminator x)) (and_parts (nat_lt x 128) q k).1 in
    (below x q k, not-true (is_white_space x) p.0, not-true (is_line_terminator x) p.1)

module _ (goal : Goal) (first : Bool) where
  pub reads_space : (text rest : List ℕ) (x c : ℕ) → IsLead x text → x < 256 → class_of x ≡ b.WhiteSpace → text ≡ c ∷ rest → read goal first text ≡ Found WhiteSpace (after is_white_space rest)
  unfolding read_by
  reads_space text rest x c lead h e cut =
      let k = leads x text lead in
      let s = space_low x h e in
      let same : c ∷ rest ≡ k.head ∷ k.rest = sym cut ∙ k.whole in
      let is : c ≡ k.head = cc in
      let space : is_white_space c ≡ true = ap is_white_space (is ∙ k.low s.0) ∙ s.1 in
      ap (read goal first) cut ∙ rw space refl

  pub reads_break : (text rest : List ℕ) (x c : ℕ) → IsLead x text → x < 256 → class_of x ≡ b.LineTerminator → text ≡ c ∷ rest → read goal first text ≡ Found LineTerminator (after_break x rest)
  unfolding read_by
  reads_break text rest x c lead h e cut =
      let k = leads x text lead in
      let s = break_low x h e in
      let same : c ∷ rest ≡ k.head ∷ k.rest = sym cut ∙ k.whole in
      let is : c ≡ k.head = cc in
      let whole : text ≡ x ∷ rest = cut ∙ ap (λ (y : ℕ). y ∷ rest) (is ∙ k.low s.0) in
      ap (read goal first) whole ∙ rw s.1 (rw s.2 refl)

  pub reads_mark : (text rest : List ℕ) (x c : ℕ) → IsLead x text → x < 256 → class_of x ≡ b.Punctuator → text ≡ c ∷ rest → read goal first text ≡ mark goal first x rest
  unfolding read_by
  reads_mark text rest x c lead h e cut =
      let k = leads x text lead in
      let s = mark_low x h e in
      let same : c ∷ rest ≡ k.head ∷ k.rest = sym cut ∙ k.whole in
      let is : c ≡ k.head = cc in
      let whole : text ≡ x ∷ rest = cut ∙ ap (λ (y : ℕ). y ∷ rest) (is ∙ k.low s.0) in
      ap (read goal first) whole ∙ rw s.1 (rw s.2 refl)

  break_wide : (c : ℕ) (cs : List ℕ) → 128 ≤ c → after_break c cs ≡ cs
  break_wide c [] h = refl
  break_wide c (d ∷ ds) h = let e : (c == 0xD) ≡ false = grind (arith, nat_tests) in rw e refl

  mark_wide : (c : ℕ) (cs : List ℕ) → 128 ≤ c → mark goal first c cs ≡ Nothing
  mark_wide c cs h =
      let e : (c == 47) ≡ false = grind (arith, nat_tests) in
      let f : (c == 60) ≡ false = grind (arith, nat_tests) in
      let g : (c == 45) ≡ false = grind (arith, nat_tests) in
      rw e (rw f (rw g refl))

  wide_same : (c : ℕ) (cs : List ℕ) → 128 ≤ c → read_by goal first c cs ≡ wide (c ∷ cs)
  unfolding read_by
  wide_same c cs h = rw (break_wide c cs h) (rw (mark_wide c cs h) refl)

  pub reads_wide : (text : List ℕ) (x : ℕ) → IsLead x text → x < 256 → class_of x ≡ b.NonAscii → read goal first text ≡ wide text
  reads_wide text x lead h e =
      let k = leads x text lead in
      let t = tells_of b.NonAscii x h e in
      let high : 128 ≤ x = grind (arith, nat_tests) in
      ap (read goal first) k.whole ∙ wide_same k.head k.rest (k.high high) ∙ sym (ap wide k.whole)

  pub reads_none : (text : List ℕ) (x : ℕ) (k : ByteClass) → IsLead x text → x < 256 → k ≡ class_of x → k ≢ b.WhiteSpace → k ≢ b.LineTerminator → k ≢ b.Punctuator → k ≢ b.NonAscii
      → read goal first text ≡ Nothing
  unfolding read_by
  reads_none text x cls lead h e ns nl np nn =
      let k = leads x text lead in
      let o = other_class cls x ns nl np nn (tells_of cls x h (sym e)) in
      let low = below x (not (is_white_space x) && (not (is_line_terminator x) && no_mark x)) o in
      let a = and_parts (not (is_white_space x)) (not (is_line_terminator x) && no_mark x) (and_parts (nat_lt x 128) (not (is_white_space x) && (not (is_line_terminator x) && no_mark x)) o).1 in
      let l = and_parts (not (is_line_terminator x)) (no_mark x) a.1 in
      let s = and_parts (not (x == 47)) (not (x == 60) && not (x == 45)) l.1 in
      let m = and_parts (not (x == 60)) (not (x == 45)) s.1 in
      let whole : text ≡ x ∷ k.rest = k.whole ∙ ap (λ (y : ℕ). y ∷ k.rest) (k.low low) in
      ap (read goal first) whole
      ∙ rw (not-true (is_white_space x) a.0) (rw (not-true (is_line_terminator x) l.0) (rw (not-true (x == 47) s.0) (rw (not-true (x == 60) m.0) (rw (not-true (x == 45) m.1) refl))))

pub agrees_wide : (end : ℕ) (text : List ℕ) (r : Reading) (o : Option (Trivia × Bor (List ℕ))) → r ≡ wide text
    → MatchOption o (wide text ≡ Nothing) (λ x. wide text ≡ Found (view x.0) (chars x.1.now)) → Agrees end text r (Ok o)
agrees_wide end text r None e h = e ∙ h
agrees_wide end text r (Some x) e h = e ∙ h

-- ---- whether trivia may stand at a front

dash_none : (goal : Goal) (first dash : Bool) (cs : List ℕ) → (dash && first) ≡ false → (if dash then (if first then html goal HtmlClose (past_html_close cs) else Nothing) else Nothing) ≡ Nothing
dash_none goal true true cs e = absurd (false≢true (sym e))
dash_none goal true false cs e = refl
dash_none goal false true cs e = refl
dash_none goal false false cs e = refl

pub opens_none : (goal : Goal) (first : Bool) (x : ℕ) (cs : List ℕ) → (x == 47 || (x == 60 || (x == 45 && first))) ≡ false → mark goal first x cs ≡ Nothing
opens_none goal first x cs e =
    let k = or_parts (x == 47) (x == 60 || (x == 45 && first)) e in
    let m = or_parts (x == 60) (x == 45 && first) k.1 in
    rw k.0 (rw m.0 (dash_none goal first (x == 45) cs m.1))

pub none_marked : (goal : Goal) (first : Bool) (text : List ℕ) (x : ℕ) → IsLead x text → x < 256 → class_of x ≡ b.Punctuator → (x == 47 || (x == 60 || (x == 45 && first))) ≡ false
    → read goal first text ≡ Nothing
none_marked goal first text x lead h e n =
    let k = leads x text lead in
    reads_mark goal first text k.rest x k.head lead h e k.whole ∙ opens_none goal first x k.rest n
