-- A string is read before other text as well.
use Rattle.std.proofs.Common.{◌≡◌, ℕ, inl, inr, Bool, List, [], ◌∷◌, ◌++◌, append_assoc, refl, sym, ap, ◌∙◌}
use Rattle.lex_literal.specs.declared.escape.Escape.{Escape}
use Rattle.lex_literal.specs.declared.escape.Escape.TheVariants.{Continuation, Code, Legacy}
use Rattle.lex_literal.specs.Escapes.{IsEscape, begins, is_decimal, is_eight_or_nine, is_line_feed, is_octal}
use Rattle.lex_literal.specs.Strings.{Piece, Plain, Escaped, Pieces}
use Rattle.lex_token.specs.Lexemes.{SpecLexeme, IsQuoted}
use Rattle.lex_run_laws.proofs.Words.{same_own}

-- ---- escapes

-- Both texts begin alike.
abbrev Alike : List ℕ → List ℕ → Type 0
Alike a b = (p : ℕ → Bool) → begins p a ≡ begins p b

-- an escape by its own text, before any text that begins as the one behind it does
record Own (e : Escape) (text mid : List ℕ) : Type 0 where
  own : List ℕ
  whole : text ≡ own ++ mid
  again : (a : List ℕ) → Alike a mid → IsEscape e (own ++ a) a

own_escape : (e : Escape) (text mid : List ℕ) → IsEscape e text mid → Own e text mid
own_escape Continuation text mid (inl h) = record { own = 13 ∷ 10 ∷ []; whole = h; again = λ a k. inl refl }
own_escape Continuation text mid (inr h) = record { own = h.0 ∷ []; whole = h.1; again = λ a k. inr (h.0, refl, h.2, λ c. k is_line_feed ∙ h.3 c) }
own_escape (Code n) text mid (inl h) = record { own = h.0 ∷ []; whole = h.1; again = λ a k. inl (h.0, refl, h.2, h.3) }
own_escape (Code n) text mid (inr (inl h)) = record { own = 48 ∷ []; whole = h.0; again = λ a k. inr (inl (refl, k is_decimal ∙ h.1, h.2)) }
own_escape (Code n) text mid (inr (inr (inl h))) =
    record { own = 120 ∷ h.0 ∷ h.1 ∷ []; whole = h.2; again = λ a k. inr (inr (inl (h.0, h.1, refl, h.3, h.4))) }
own_escape (Code n) text mid (inr (inr (inr (inl h)))) =
    record { own = 117 ∷ h.0 ∷ h.1 ∷ h.2 ∷ h.3 ∷ []; whole = h.4; again = λ a k. inr (inr (inr (inl (h.0, h.1, h.2, h.3, refl, h.5, h.6)))) }
own_escape (Code n) text mid (inr (inr (inr (inr h)))) = record {
  own = 117 ∷ 123 ∷ (h.0 ++ 125 ∷ []);
  whole = h.1 ∙ ap (λ (l : List ℕ). 117 ∷ 123 ∷ l) (sym (append_assoc h.0 (125 ∷ []) mid));
  again = λ a k. inr (inr (inr (inr (h.0, ap (λ (l : List ℕ). 117 ∷ 123 ∷ l) (append_assoc h.0 (125 ∷ []) a), h.2, h.3, h.4))));
}
own_escape (Legacy n) text mid (inl h) =
    record { own = h.0 ∷ []; whole = h.1; again = λ a k. inl (h.0, refl, h.2, h.3, k is_octal ∙ h.4, λ z. k is_eight_or_nine ∙ h.5 z) }
own_escape (Legacy n) text mid (inr (inl h)) =
    record { own = h.0 ∷ h.1 ∷ []; whole = h.2; again = λ a k. inr (inl (h.0, h.1, refl, h.3, h.4, λ l. k is_octal ∙ h.5 l)) }
own_escape (Legacy n) text mid (inr (inr (inl h))) =
    record { own = h.0 ∷ h.1 ∷ h.2 ∷ []; whole = h.3; again = λ a k. inr (inr (inl (h.0, h.1, h.2, refl, h.4, h.5, h.6))) }
own_escape (Legacy n) text mid (inr (inr (inr h))) = record { own = n ∷ []; whole = h.0; again = λ a k. inr (inr (inr (refl, h.1))) }

-- ---- pieces

-- pieces by their own text, before the quote and any text
record Again (quote : ℕ) (ps : List Piece) (text r : List ℕ) : Type 0 where
  own : List ℕ
  whole : text ≡ own ++ quote ∷ r
  again : (a : List ℕ) → Pieces quote ps (own ++ quote ∷ a) (quote ∷ a)

alike : (own : List ℕ) (quote : ℕ) (a r m : List ℕ) → m ≡ own ++ quote ∷ r → Alike (own ++ quote ∷ a) m
alike [] quote a r m e p = sym (ap (begins p) e)
alike (c ∷ cs) quote a r m e p = sym (ap (begins p) e)

pieces_again : (quote : ℕ) (ps : List Piece) (text r : List ℕ) → Pieces quote ps text (quote ∷ r) → Again quote ps text r
pieces_again quote [] text r h = record { own = []; whole = h; again = λ a. refl }
pieces_again quote (Plain c ∷ ps) text r h =
    let i = pieces_again quote ps h.0 r h.2 in
    record {
      own = c ∷ i.own;
      whole = h.1.0 ∙ ap (λ (l : List ℕ). c ∷ l) i.whole;
      again = λ a. (i.own ++ quote ∷ a, (refl, h.1.1), i.again a);
    }
pieces_again quote (Escaped e ∷ ps) text r h =
    let i = pieces_again quote ps h.0 r h.2 in
    let k = own_escape e h.1.0 h.0 h.1.2 in
    record {
      own = 92 ∷ (k.own ++ i.own);
      whole = h.1.1 ∙ ap (λ (l : List ℕ). 92 ∷ l) (k.whole ∙ ap (λ (l : List ℕ). k.own ++ l) i.whole ∙ sym (append_assoc k.own i.own (quote ∷ r)));
      again = λ a. (
        i.own ++ quote ∷ a,
        (k.own ++ (i.own ++ quote ∷ a), ap (λ (l : List ℕ). 92 ∷ l) (append_assoc k.own i.own (quote ∷ a)), k.again (i.own ++ quote ∷ a) (alike i.own quote a r h.0 i.whole)),
        i.again a,
      );
    }

pub string_before : (text own : List ℕ) (x : SpecLexeme) (rest r : List ℕ) → text ≡ own ++ rest → IsQuoted text x rest → IsQuoted (own ++ r) x r
string_before text own x rest r e h =
    let s = h.3.1 in
    let i = pieces_again s.0 h.3.0 s.1 rest s.4 in
    let whole : text ≡ (s.0 ∷ (i.own ++ s.0 ∷ [])) ++ rest = s.3 ∙ ap (λ (l : List ℕ). s.0 ∷ l) (i.whole ∙ sym (append_assoc i.own (s.0 ∷ []) rest)) in
    let same = same_own text own (s.0 ∷ (i.own ++ s.0 ∷ [])) rest e whole in
    let there : own ++ r ≡ s.0 ∷ (i.own ++ s.0 ∷ r) = ap (λ (l : List ℕ). l ++ r) same ∙ ap (λ (l : List ℕ). s.0 ∷ l) (append_assoc i.own (s.0 ∷ []) r) in (
      h.0,
      h.1,
      h.2,
      (h.3.0, (s.0, i.own ++ s.0 ∷ r, s.2, there, i.again r), h.3.2, h.3.3),
      ap (λ (l : List ℕ). l ++ r) (same_own text own h.1 rest e h.4),
      h.5,
    )
