-- A name is read before other text as well.
use Rattle.std.proofs.Common.{◌≡◌, ℕ, ◌⊎◌, inl, inr, ⊎_elim, Bool, true, false, ◌||◌, List, [], ◌∷◌, ◌++◌, append_assoc, refl, sym, ap, subst, ◌∙◌}
use Rattle.std.specs.Prelude.{◌==◌}
use Rattle.std.proofs.lemmas.Bool.{cases_Bool, eqb-true}
use Rattle.std.proofs.lemmas.List.{append_cancel_right}
use Rattle.std.specs.Char.{IsScalar}
use Rattle.unicode_ident.proofs.Computing.{unicode_ident}
use Rattle.lex_pieces.specs.Escapes.{IsDigits, IsEscape}
use Rattle.lex_pieces.specs.Names.{IsNameChar, Spell, is_continuing, is_name_char}
use Rattle.lex_pieces.specs.Runs.{Ends}
use Rattle.lex_literal.specs.Escapes.{begins}
use Rattle.lex_token.specs.Lexemes.{SpecLexeme, IsMarked, IsWord}

-- ---- what stands between two tokens

abbrev pub is_gap : ℕ → Bool
is_gap c = c == 10 || c == 32

-- Nothing follows, or what stands between two tokens of a canonical text.
abbrev pub Parted : List ℕ → Type 0
Parted [] = Unit {0}
Parted (c ∷ cs) = is_gap c ≡ true

gap_cases : (p : ℕ → Bool) (c : ℕ) → p 10 ≡ false → p 32 ≡ false → is_gap c ≡ true → p c ≡ false
gap_cases p c a b e = ⊎_elim
    (λ (t : (c == 10) ≡ true). ap p (eqb-true c 10 t) ∙ a)
    (λ (f : (c == 10) ≡ false). ap p (eqb-true c 32 (sym (ap (λ k. k || (c == 32)) f) ∙ e)) ∙ b)
    (cases_Bool (c == 10))

pub parted_ends : (p : ℕ → Bool) (r : List ℕ) → p 10 ≡ false → p 32 ≡ false → Parted r → Ends p r
parted_ends p [] a b h = tt
parted_ends p (c ∷ cs) a b h = gap_cases p c a b h

pub parted_begins : (p : ℕ → Bool) (r : List ℕ) → p 10 ≡ false → p 32 ≡ false → Parted r → begins p r ≡ false
parted_begins p [] a b h = refl
parted_begins p (c ∷ cs) a b h = gap_cases p c a b h

-- The own text of what stands there is one.
pub same_own : (text own other rest : List ℕ) → text ≡ own ++ rest → text ≡ other ++ rest → own ≡ other
same_own text own other rest e f = append_cancel_right own other rest (sym e ∙ f)

-- ---- the characters of a name

-- a character of a name by its own text, before any text
record Char (first : Bool) (text : List ℕ) (c : ℕ) (next : List ℕ) : Type 0 where
  own : List ℕ
  whole : text ≡ own ++ next
  again : (r : List ℕ) → IsNameChar first (own ++ r) c r

digits_before : (text : List ℕ) (v : ℕ) (next : List ℕ) → IsDigits text v next → (own : List ℕ) × (text ≡ own ++ next) × ((r : List ℕ) → IsDigits (own ++ r) v r)
digits_before text v next (inl h) = (h.0 ∷ h.1 ∷ h.2 ∷ h.3 ∷ [], h.4, λ r. inl (h.0, h.1, h.2, h.3, refl, h.5, h.6))
digits_before text v next (inr h) = (
  123 ∷ (h.0 ++ 125 ∷ []),
  h.1 ∙ ap (λ (l : List ℕ). 123 ∷ l) (sym (append_assoc h.0 (125 ∷ []) next)),
  λ r. inr (h.0, ap (λ (l : List ℕ). 123 ∷ l) (append_assoc h.0 (125 ∷ []) r), h.2, h.3, h.4),
)

escape_before : (text : List ℕ) (v : ℕ) (next : List ℕ) → IsEscape text v next → (own : List ℕ) × (text ≡ own ++ next) × ((r : List ℕ) → IsEscape (own ++ r) v r)
escape_before text v next h =
    let k = digits_before h.0 v next h.2 in
    (92 ∷ 117 ∷ k.0, h.1 ∙ ap (λ (l : List ℕ). 92 ∷ 117 ∷ l) k.1, λ r. (k.0 ++ r, refl, k.2 r))

char_by : (first : Bool) (text : List ℕ) (c : ℕ) (next : List ℕ) → is_name_char first c ≡ true → (text ≡ c ∷ next) ⊎ (IsScalar c × IsEscape text c next) → Char first text c next
char_by first text c next e (inl h) = record { own = c ∷ []; whole = h; again = λ r. (e, inl refl) }
char_by first text c next e (inr h) =
    let k = escape_before text c next h.1 in
    record { own = k.0; whole = k.1; again = λ r. (e, inr (h.0, k.2 r)) }

-- characters of a name by their own text, before any text
record Spelt (first : Bool) (text cs rest : List ℕ) : Type 0 where
  own : List ℕ
  whole : text ≡ own ++ rest
  again : (r : List ℕ) → Spell first (own ++ r) cs r

spelt : (first : Bool) (text cs rest : List ℕ) → Spell first text cs rest → Spelt first text cs rest
spelt first text [] rest h = record { own = []; whole = h; again = λ r. refl }
spelt first text (c ∷ cs) rest h =
    let k = char_by first text c h.0 h.1.0 h.1.1 in
    let m = spelt false h.0 cs rest h.2 in
    record {
      own = k.own ++ m.own;
      whole = k.whole ∙ ap (λ (l : List ℕ). k.own ++ l) m.whole ∙ sym (append_assoc k.own m.own rest);
      again = λ r. (m.own ++ r, subst (λ (l : List ℕ). IsNameChar first l c (m.own ++ r)) (sym (append_assoc k.own m.own r)) (k.again (m.own ++ r)), m.again r);
    }

-- ---- a word

ends_10 : is_continuing 10 ≡ false
unfolding unicode_ident
ends_10 = refl

ends_32 : is_continuing 32 ≡ false
unfolding unicode_ident
ends_32 = refl

marked_before : (escaped : Bool) (text own name rest r : List ℕ) → text ≡ own ++ rest → IsMarked text name rest escaped → IsMarked (own ++ r) name r escaped
marked_before true text own name rest r e h = λ k. h (e ∙ ap (λ (l : List ℕ). l ++ rest) (append_cancel_right own name r k))
marked_before false text own name rest r e h = ap (λ (l : List ℕ). l ++ r) (same_own text own name rest e h)

pub word_before : (text own : List ℕ) (x : SpecLexeme) (rest r : List ℕ) → text ≡ own ++ rest → Parted r → IsWord text x rest → IsWord (own ++ r) x r
word_before text own x rest r e p h =
    let s = spelt true text h.0 rest h.2.1 in
    let same = same_own text own s.own rest e s.whole in (
      h.0,
      h.1,
      (h.2.0, subst (λ (l : List ℕ). Spell true (l ++ r) h.0 r) (sym same) (s.again r), parted_ends is_continuing r ends_10 ends_32 p),
      marked_before h.1 text own h.0 rest r e h.3,
      h.4,
    )
