-- A string stands alone, too: nothing behind its quote matters.
use Rattle.std.proofs.Common.{◌≡◌, ℕ, inl, inr, List, [], ◌∷◌, ◌++◌, refl, sym, ap, subst, ◌∙◌, append_assoc}
use Rattle.std.proofs.lemmas.List.{append_cancel_right}
use Rattle.lex_literal.specs.declared.escape.Escape.{Escape}
use Rattle.lex_literal.specs.declared.escape.Escape.TheVariants.{Continuation, Code, Legacy}
use Rattle.lex_literal.specs.Escapes.{IsEscape}
use Rattle.lex_literal.specs.Strings.{Piece, Plain, Escaped, Stands, Pieces}
use Rattle.again_laws.specs.Leaf.Laws.{StringAlone}

abbrev Stripped : Escape → List ℕ → ℕ → List ℕ → List ℕ → Type 0
Stripped e m x xs r = (t : List ℕ) × (m ≡ t ++ r) × IsEscape e t (x ∷ xs)

strip : (e : Escape) (m : List ℕ) (x : ℕ) (xs r : List ℕ) → IsEscape e m (x ∷ (xs ++ r)) → Stripped e m x xs r
strip Continuation m x xs r (inl a) = (13 ∷ 10 ∷ x ∷ xs, a, inl refl)
strip Continuation m x xs r (inr a) = (a.0 ∷ x ∷ xs, a.1, inr (a.0, refl, a.2, a.3))
strip (Code n) m x xs r (inl a) = (a.0 ∷ x ∷ xs, a.1, inl (a.0, refl, a.2, a.3))
strip (Code n) m x xs r (inr (inl a)) = (48 ∷ x ∷ xs, a.0, inr (inl (refl, a.1, a.2)))
strip (Code n) m x xs r (inr (inr (inl a))) = (120 ∷ a.0 ∷ a.1 ∷ x ∷ xs, a.2, inr (inr (inl (a.0, a.1, refl, a.3, a.4))))
strip (Code n) m x xs r (inr (inr (inr (inl a)))) = (117 ∷ a.0 ∷ a.1 ∷ a.2 ∷ a.3 ∷ x ∷ xs, a.4, inr (inr (inr (inl (a.0, a.1, a.2, a.3, refl, a.5, a.6)))))
strip (Code n) m x xs r (inr (inr (inr (inr a)))) =
    (117 ∷ 123 ∷ (a.0 ++ 125 ∷ x ∷ xs), a.1 ∙ sym (ap (λ (l : List ℕ). 117 ∷ 123 ∷ l) (append_assoc a.0 (125 ∷ x ∷ xs) r)), inr (inr (inr (inr (a.0, refl, a.2, a.3, a.4)))))
strip (Legacy n) m x xs r (inl a) = (a.0 ∷ x ∷ xs, a.1, inl (a.0, refl, a.2, a.3, a.4, a.5))
strip (Legacy n) m x xs r (inr (inl a)) = (a.0 ∷ a.1 ∷ x ∷ xs, a.2, inr (inl (a.0, a.1, refl, a.3, a.4, a.5)))
strip (Legacy n) m x xs r (inr (inr (inl a))) = (a.0 ∷ a.1 ∷ a.2 ∷ x ∷ xs, a.3, inr (inr (inl (a.0, a.1, a.2, refl, a.4, a.5, a.6))))
strip (Legacy n) m x xs r (inr (inr (inr a))) = (n ∷ x ∷ xs, a.0, inr (inr (inr (refl, a.1))))

record Front (q : ℕ) (ps : List Piece) (text : List ℕ) (x : ℕ) (xs r : List ℕ) : Type 0 where
  y : ℕ
  ys : List ℕ
  whole : text ≡ y ∷ (ys ++ r)
  pieces : Pieces q ps (y ∷ ys) (x ∷ xs)

onto : (q : ℕ) (p : Piece) (ps : List Piece) (text m : List ℕ) (x : ℕ) (xs r : List ℕ) → Stands q p text m → Front q ps m x xs r → Front q (p ∷ ps) text x xs r
onto q (Plain c) ps text m x xs r h f = record { y = c; ys = f.y ∷ f.ys; whole = h.0 ∙ ap (λ (l : List ℕ). c ∷ l) f.whole; pieces = (f.y ∷ f.ys, (refl, h.1), f.pieces) }
onto q (Escaped e) ps text m x xs r h f =
    let s = strip e h.0 f.y f.ys r (subst (λ (l : List ℕ). IsEscape e h.0 l) f.whole h.2) in record {
      y = 92;
      ys = s.0;
      whole = h.1 ∙ ap (λ (l : List ℕ). 92 ∷ l) s.1;
      pieces = (f.y ∷ f.ys, (s.0, refl, s.2), f.pieces);
    }

strip_pieces : (q : ℕ) (ps : List Piece) (text : List ℕ) (x : ℕ) (xs r : List ℕ) → Pieces q ps text (x ∷ (xs ++ r)) → Front q ps text x xs r
strip_pieces q [] text x xs r h = record { y = x; ys = xs; whole = h; pieces = refl }
strip_pieces q (p ∷ ps) text x xs r h = onto q p ps text h.0 x xs r h.1 (strip_pieces q ps h.0 x xs r h.2)

pub string_alone : StringAlone
string_alone u l own rest h =
    let s = h.1 in
    let f = strip_pieces s.0 h.0 s.1 s.0 [] rest s.4 in
    let e : own ≡ s.0 ∷ f.y ∷ f.ys = append_cancel_right own (s.0 ∷ f.y ∷ f.ys) rest (s.3 ∙ ap (λ (l : List ℕ). s.0 ∷ l) f.whole) in
    (h.0, (s.0, f.y ∷ f.ys, s.2, e, f.pieces), h.2, h.3)
