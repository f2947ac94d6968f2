-- What the class of a text's first byte tells of a name at its front.
use Rattle.std.proofs.Common.{◌≡◌, ◌≢◌, ℕ, ◌<◌, ◌≤◌, Bool, true, false, not, ◌&&◌, List, ◌∷◌, refl, sym, ap, subst, ◌∙◌, arith}
use Rattle.std.specs.Prelude.{◌==◌, nat_lt, Option, None, Some, MatchOption}
use Rattle.std.proofs.lemmas.Bool.{and_parts, eqb-true, not-true}
use Rattle.std.proofs.lemmas.Bool.Decides.{nat_tests}
use Rattle.unicode_ident.proofs.Computing.{unicode_ident}
use Rattle.lex_pieces.specs.declared.bytes.ByteClass.{ByteClass}
use Rattle.lex_pieces.specs.declared.bytes.ByteClass.TheVariants as b
use Rattle.lex_pieces.specs.Bytes.{IsLead, class_of}
use Rattle.lex_pieces.specs.Characters.{is_name_start}
use Rattle.lex_pieces.specs.Names.{is_opening}
use Rattle.lex_pieces.specs.Runs.{Ends}
use Rattle.lex_pieces.proofs.Leads.{leads, below}
use Rattle.lex_pieces.proofs.Tables.{same_from_table}

abbrev start_byte : ℕ → Bool
start_byte x = nat_lt x 128 && is_name_start x

abbrev other_byte : ℕ → Bool
other_byte x = nat_lt x 128 && not (is_opening x)

-- what a byte of the class is
abbrev told : ByteClass → ℕ → Bool
told b.NameStart x = start_byte x
told b.Backslash x = nat_lt x 128 && x == 92
told b.NonAscii x = not (nat_lt x 128)
told b.WhiteSpace x = other_byte x
told b.LineTerminator x = other_byte x
told b.Punctuator x = other_byte x
told b.Digit x = other_byte x
told b.Quote x = other_byte x
told b.BackQuote x = other_byte x
told b.Other x = other_byte x

tells : (x : ℕ) → x < 256 → told (class_of x) x ≡ true
unfolding class_of unicode_ident
tells x h = same_from_table (λ x. told (class_of x) x) (λ x. true) false x h refl

tells_of : (k : ByteClass) (x : ℕ) → x < 256 → k ≡ class_of x → told k x ≡ true
tells_of k x h e = subst (λ k. told k x ≡ true) (sym e) (tells x h)

other_class : (k : ByteClass) (x : ℕ) → k ≢ b.NameStart → k ≢ b.Backslash → k ≢ b.NonAscii → told k x ≡ true → other_byte x ≡ true
other_class b.NameStart x s l n h = absurd (s refl)
other_class b.Backslash x s l n h = absurd (l refl)
other_class b.NonAscii x s l n h = absurd (n refl)
other_class b.WhiteSpace x s l n h = h
other_class b.LineTerminator x s l n h = h
other_class b.Punctuator x s l n h = h
other_class b.Digit x s l n h = h
other_class b.Quote x s l n h = h
other_class b.BackQuote x s l n h = h
other_class b.Other x s l n h = h

pub start_low : (x : ℕ) → x < 256 → b.NameStart ≡ class_of x → x < 128
start_low x h e = below x (is_name_start x) (tells_of b.NameStart x h e)

pub starts : (text rest : List ℕ) (x c : ℕ) → IsLead x text → x < 256 → b.NameStart ≡ class_of x → text ≡ c ∷ rest → is_name_start c ≡ true
starts text rest x c lead h e cut =
    let k = leads x text lead in
    let same : c ∷ rest ≡ k.head ∷ k.rest = sym cut ∙ k.whole in
    let is : c ≡ k.head = cc in
    ap is_name_start (is ∙ k.low (start_low x h e)) ∙ (and_parts (nat_lt x 128) (is_name_start x) (tells_of b.NameStart x h e)).1

pub is_backslash : (text : List ℕ) (x : ℕ) → IsLead x text → x < 256 → b.Backslash ≡ class_of x → (more : List ℕ) × (text ≡ 92 ∷ more)
is_backslash text x lead h e =
    let k = leads x text lead in
    let t = tells_of b.Backslash x h e in
    let is : x ≡ 92 = eqb-true x 92 (and_parts (nat_lt x 128) (x == 92) t).1 in
    (k.rest, k.whole ∙ ap (λ (y : ℕ). y ∷ k.rest) (k.low (below x (x == 92) t) ∙ is))

opening_wide : (c : ℕ) → 128 ≤ c → is_name_start c ≡ false → is_opening c ≡ false
opening_wide c h e = let f : (c == 92) ≡ false = grind (arith, nat_tests) in rw e (rw f refl)

wide_ends : (text : List ℕ) (x : ℕ) → IsLead x text → x < 256 → b.NonAscii ≡ class_of x → Ends is_name_start text → Ends is_opening text
wide_ends text x lead h e ends =
    let k = leads x text lead in
    let t = tells_of b.NonAscii x h e in
    let high : 128 ≤ x = grind (arith, nat_tests) in
    subst (Ends is_opening) (sym k.whole) (opening_wide k.head (k.high high) (subst (Ends is_name_start) k.whole ends))

pub other_ends : (text : List ℕ) (x : ℕ) (k : ByteClass) → IsLead x text → x < 256 → k ≡ class_of x → k ≢ b.NameStart → k ≢ b.Backslash → k ≢ b.NonAscii → Ends is_opening text
other_ends text x cls lead h e ns nb nn =
    let k = leads x text lead in
    let o = other_class cls x ns nb nn (tells_of cls x h e) in
    let whole : text ≡ x ∷ k.rest = k.whole ∙ ap (λ (y : ℕ). y ∷ k.rest) (k.low (below x (not (is_opening x)) o)) in
    subst (Ends is_opening) (sym whole) (not-true (is_opening x) (and_parts (nat_lt x 128) (not (is_opening x)) o).1)

pub wide_named : {A : Type 0} (Q : A → Type 0) (text : List ℕ) (x : ℕ) (o : Option A) → IsLead x text → x < 256 → b.NonAscii ≡ class_of x
    → MatchOption o (Ends is_name_start text) Q → MatchOption o (Ends is_opening text) Q
wide_named Q text x None lead h e k = wide_ends text x lead h e k
wide_named Q text x (Some a) lead h e k = k
