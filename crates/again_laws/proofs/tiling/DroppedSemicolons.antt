-- Semicolons that go: items as they are left when these are gone. What is written of the items shortened is what is written of these.
use Rattle.std.proofs.Common.{◌≡◌, ℕ, ◌⊎◌, inl, inr, Bool, true, List, [], ◌∷◌, Option, Some, refl, sym, ap, subst, ◌∙◌}
use Rattle.std.specs.Prelude.{codes}
use Rattle.std.specs.Str.{chars}
use Rattle.base_token.specs.declared.place.Span.{Span}
use Rattle.base_token.specs.Kinds.{right_brace_kind}
use Rattle.lex_token.specs.declared.goal.LexicalGoal.TheVariants.{Div}
use Rattle.lex_token.specs.Lexemes.{SpecLexeme}
use Rattle.lex_token.proofs.LexemeLemmas.{one_lexeme}
use Rattle.grammar_spec.specs.Tokens.Input.{Input, kind, kind_of}
use Rattle.print_writers.specs.Pages.{Page}
use Rattle.print_writers.specs.States.{span_or_none}
use Rattle.print_pages_spec.specs.Pieces.{Piece, Text, Brace, Blank, Line, Deeper, Back, Semicolon, Commit, Mark, resolved, shortened, behind as held_behind}
use Rattle.print_layout_spec.specs.Looks.{regular_expression, template_characters, template_end, hashbang_comment, touching, texts_of, texts_before}
use Rattle.again_laws.specs.Tokens.Spacings.{Spacing}
use Rattle.again_laws.specs.Tokens.Says.{IsSaid, SemicolonMayGo}
use Rattle.again_laws.specs.Tiling.Categories.{State, Clear, Shut, Closed, takes, is_open}
use Rattle.again_laws.specs.Tiling.Goes.{When}
use Rattle.again_laws.proofs.tiling.Items.{Item, Plain, Meant, Named, spread, GoesAll, SaysAll, shut_for_clear}
use Rattle.again_laws.proofs.tiling.Marks.{right_brace, right_brace_is, semicolon_mark}
use Rattle.again_laws.proofs.tiling.GoingLayouts.{When_mono, when_so, meaning_mono, meaning_reach}
use Rattle.again_laws.proofs.tokens.SaidIsTold.{first_kind}

abbrev mutual
  pub settled : List Item → List Item
  settled [] = []
  settled (Plain (Semicolon span) ∷ xs) = held (span_or_none span) xs
  settled (Plain (Text span own) ∷ xs) = Plain (Text span own) ∷ settled xs
  settled (Plain (Brace span) ∷ xs) = Plain (Brace span) ∷ settled xs
  settled (Plain Blank ∷ xs) = Plain Blank ∷ settled xs
  settled (Plain Line ∷ xs) = Plain Line ∷ settled xs
  settled (Plain Deeper ∷ xs) = Plain Deeper ∷ settled xs
  settled (Plain Back ∷ xs) = Plain Back ∷ settled xs
  settled (Plain Commit ∷ xs) = Plain Commit ∷ settled xs
  settled (Plain (Mark pos) ∷ xs) = Plain (Mark pos) ∷ settled xs
  settled (Meant m ∷ xs) = Meant m ∷ settled xs
  settled (Named pos own ∷ xs) = Named pos own ∷ settled xs

  -- behind a semicolon
  pub held : Span → List Item → List Item
  held own [] = []
  held own (Plain (Brace span) ∷ xs) = Plain (Brace span) ∷ settled xs
  held own (Plain (Mark pos) ∷ xs) = Plain (Mark pos) ∷ held own xs
  held own (Plain (Semicolon span) ∷ xs) = Plain (Text (Some own) (codes ";")) ∷ held (span_or_none span) xs
  held own (Plain (Text span bytes) ∷ xs) = Plain (Text (Some own) (codes ";")) ∷ Plain (Text span bytes) ∷ settled xs
  held own (Plain Blank ∷ xs) = Plain (Text (Some own) (codes ";")) ∷ Plain Blank ∷ settled xs
  held own (Plain Line ∷ xs) = Plain (Text (Some own) (codes ";")) ∷ Plain Line ∷ settled xs
  held own (Plain Deeper ∷ xs) = Plain (Text (Some own) (codes ";")) ∷ Plain Deeper ∷ settled xs
  held own (Plain Back ∷ xs) = Plain (Text (Some own) (codes ";")) ∷ Plain Back ∷ settled xs
  held own (Plain Commit ∷ xs) = Plain (Text (Some own) (codes ";")) ∷ Plain Commit ∷ settled xs
  held own (Meant m ∷ xs) = Plain (Text (Some own) (codes ";")) ∷ Meant m ∷ settled xs
  held own (Named pos bytes ∷ xs) = Plain (Text (Some own) (codes ";")) ∷ Named pos bytes ∷ settled xs

short_texts : (own : List (List ℕ)) (ys zs : List Piece) (p : Page) → ((p : Page) → shortened ys p ≡ resolved zs p) → shortened (texts_before own ys) p ≡ resolved (texts_before own zs) p
short_texts [] ys zs p f = f p
short_texts (bytes ∷ own) ys zs p f = short_texts own ys zs _ f

mutual
  pub short_settled : (xs : List Item) (p : Page) → shortened (spread xs) p ≡ resolved (spread (settled xs)) p
  short_settled [] p = refl
  short_settled (Plain (Semicolon span) ∷ xs) p = behind_held (span_or_none span) xs p
  short_settled (Plain (Text span own) ∷ xs) p = short_settled xs _
  short_settled (Plain (Brace span) ∷ xs) p = short_settled xs _
  short_settled (Plain Blank ∷ xs) p = short_settled xs _
  short_settled (Plain Line ∷ xs) p = short_settled xs _
  short_settled (Plain Deeper ∷ xs) p = short_settled xs _
  short_settled (Plain Back ∷ xs) p = short_settled xs _
  short_settled (Plain Commit ∷ xs) p = short_settled xs _
  short_settled (Plain (Mark pos) ∷ xs) p = short_settled xs _
  short_settled (Meant m ∷ xs) p = short_texts (texts_of m) (spread xs) (spread (settled xs)) p (λ p. short_settled xs p)
  short_settled (Named pos own ∷ xs) p = short_settled xs _

  pub behind_held : (own : Span) (xs : List Item) (p : Page) → held_behind own (spread xs) p ≡ resolved (spread (held own xs)) p
  behind_held own [] p = refl
  behind_held own (Plain (Brace span) ∷ xs) p = short_settled xs _
  behind_held own (Plain (Mark pos) ∷ xs) p = behind_held own xs _
  behind_held own (Plain (Semicolon span) ∷ xs) p = behind_held (span_or_none span) xs _
  behind_held own (Plain (Text span bytes) ∷ xs) p = short_settled xs _
  behind_held own (Plain Blank ∷ xs) p = short_settled xs _
  behind_held own (Plain Line ∷ xs) p = short_settled xs _
  behind_held own (Plain Deeper ∷ xs) p = short_settled xs _
  behind_held own (Plain Back ∷ xs) p = short_settled xs _
  behind_held own (Plain Commit ∷ xs) p = short_settled xs _
  behind_held own (Meant (regular_expression body flags) ∷ xs) p = short_settled xs _
  behind_held own (Meant (template_characters bytes) ∷ xs) p = short_settled xs _
  behind_held own (Meant (template_end bytes) ∷ xs) p = short_settled xs _
  behind_held own (Meant (hashbang_comment bytes) ∷ xs) p = short_settled xs _
  behind_held own (Meant (touching texts) ∷ xs) p = short_settled xs _
  behind_held own (Named pos bytes ∷ xs) p = short_settled xs _

-- ---- the automaton goes on

open_shut : (s : State) → is_open s ≡ true → (Q : Type 0) → Q → When (takes Closed s) Q
open_shut s e Q q = subst (λ (b : Bool). When b Q) (sym e) q

mutual
  pub goes_settled : (xs : List Item) (s : State) → GoesAll xs s → GoesAll (settled xs) s
  goes_settled [] s g = g
  goes_settled (Plain (Semicolon span) ∷ xs) s g = let w = when_so (is_open s) (GoesAll xs Clear) g in goes_held (span_or_none span) xs s w.0 w.1
  goes_settled (Plain (Text span own) ∷ xs) s g = (g.0, g.1, When_mono (takes g.0 s) _ _ g.2 (λ h. goes_settled xs _ h))
  goes_settled (Plain (Brace span) ∷ xs) s g = When_mono (is_open s) _ _ g (λ h. goes_settled xs _ h)
  goes_settled (Plain Blank ∷ xs) s g = When_mono (is_open s) _ _ g (λ h. goes_settled xs _ h)
  goes_settled (Plain Line ∷ xs) s g = When_mono (is_open s) _ _ g (λ h. goes_settled xs _ h)
  goes_settled (Plain Deeper ∷ xs) s g = goes_settled xs s g
  goes_settled (Plain Back ∷ xs) s g = goes_settled xs s g
  goes_settled (Plain Commit ∷ xs) s g = goes_settled xs s g
  goes_settled (Plain (Mark pos) ∷ xs) s g = goes_settled xs s g
  goes_settled (Meant m ∷ xs) s g = meaning_mono m s (λ t. GoesAll xs t) (λ t. GoesAll (settled xs) t) g (λ t h. goes_settled xs t h)
  goes_settled (Named pos own ∷ xs) s g = (g.0, g.1, When_mono (takes g.0 s) _ _ g.2 (λ h. goes_settled xs _ h))

  -- behind a semicolon that isn't written yet
  pub goes_held : (own : Span) (xs : List Item) (s : State) → is_open s ≡ true → GoesAll xs Clear → GoesAll (held own xs) s
  goes_held own [] s o g = o
  goes_held own (Plain (Brace span) ∷ xs) s o g = subst (λ (b : Bool). When b (GoesAll (settled xs) Shut)) (sym o) (goes_settled xs Shut g)
  goes_held own (Plain (Mark pos) ∷ xs) s o g = goes_held own xs s o g
  goes_held own (Plain (Semicolon span) ∷ xs) s o g = (Closed, semicolon_mark, open_shut s o _ (goes_held (span_or_none span) xs Shut refl g))
  goes_held own (Plain (Text span bytes) ∷ xs) s o g =
      let h = shut_for_clear (Plain (Text span bytes) ∷ xs) g in
      (Closed, semicolon_mark, open_shut s o _ (h.0, h.1, When_mono (takes h.0 Shut) _ _ h.2 (λ h. goes_settled xs _ h)))
  goes_held own (Plain Blank ∷ xs) s o g = (Closed, semicolon_mark, open_shut s o _ (goes_settled xs _ g))
  goes_held own (Plain Line ∷ xs) s o g = (Closed, semicolon_mark, open_shut s o _ (goes_settled xs _ g))
  goes_held own (Plain Deeper ∷ xs) s o g = (Closed, semicolon_mark, open_shut s o _ (goes_settled xs Shut (shut_for_clear xs g)))
  goes_held own (Plain Back ∷ xs) s o g = (Closed, semicolon_mark, open_shut s o _ (goes_settled xs Shut (shut_for_clear xs g)))
  goes_held own (Plain Commit ∷ xs) s o g = (Closed, semicolon_mark, open_shut s o _ (goes_settled xs Shut (shut_for_clear xs g)))
  goes_held own (Meant m ∷ xs) s o g =
      (Closed, semicolon_mark, open_shut s o _ (meaning_mono m Shut (λ t. GoesAll xs t) (λ t. GoesAll (settled xs) t) (shut_for_clear (Meant m ∷ xs) g) (λ t h. goes_settled xs t h)))
  goes_held own (Named pos bytes ∷ xs) s o g =
      let h = shut_for_clear (Named pos bytes ∷ xs) g in
      (Closed, semicolon_mark, open_shut s o _ (h.0, h.1, When_mono (takes h.0 Shut) _ _ h.2 (λ h. goes_settled xs _ h)))

-- ---- what is said

-- the token `}`
brace_kind : (a b : Spacing) (ts r : Input) → IsSaid Div (codes "}") a ts b r → kind ts ≡ right_brace_kind
brace_kind a b ts r h =
    let same = one_lexeme Div (chars (codes "}")) h.lexeme right_brace.lexeme [] [] h.is_own right_brace.is_own in
    first_kind _ _ _ a ts r h.first ∙ (ap (λ (x : SpecLexeme). x.token.kind) same.0 ∙ right_brace_is)

abbrev Semi : Spacing → Input → Spacing → Input → Type 0
Semi a ts b r = IsSaid Div (codes ";") a ts b r ⊎ ((b ≡ a) × (ts ≡ r) × SemicolonMayGo ts)

moved_semi : (a k b : Spacing) (ts m r : Input) → k ≡ a → ts ≡ m → Semi k m b r → Semi a ts b r
moved_semi a k b ts m r e f h = subst (λ (t : Input). Semi a t b r) (sym f) (subst (λ (g : Spacing). Semi g m b r) e h)

module _ (N : ℕ → ℕ → Type 0) where
  mutual
    pub says_settled : (xs : List Item) (s : State) (a b : Spacing) (ts r : Input) → GoesAll xs s → r.places ≡ [] → SaysAll N (settled xs) a ts b r → SaysAll N xs a ts b r
    says_settled [] s a b ts r g e h = h
    says_settled (Plain (Semicolon span) ∷ xs) s a b ts r g e h = says_held (span_or_none span) span xs a b ts r (when_so _ _ g).1 e h
    says_settled (Plain (Text span own) ∷ xs) s a b ts r g e h = (h.0, h.1, h.2, says_settled xs _ h.0 b h.1 r (when_so _ _ g.2).1 e h.3)
    says_settled (Plain (Brace span) ∷ xs) s a b ts r g e h = (h.0, h.1, h.2, says_settled xs _ h.0 b h.1 r (when_so _ _ g).1 e h.3)
    says_settled (Plain Blank ∷ xs) s a b ts r g e h = (h.0, h.1, h.2, says_settled xs _ h.0 b h.1 r (when_so _ _ g).1 e h.3)
    says_settled (Plain Line ∷ xs) s a b ts r g e h = (h.0, h.1, h.2, says_settled xs _ h.0 b h.1 r (when_so _ _ g).1 e h.3)
    says_settled (Plain Deeper ∷ xs) s a b ts r g e h = (h.0, h.1, h.2, says_settled xs s h.0 b h.1 r g e h.3)
    says_settled (Plain Back ∷ xs) s a b ts r g e h = (h.0, h.1, h.2, says_settled xs s h.0 b h.1 r g e h.3)
    says_settled (Plain Commit ∷ xs) s a b ts r g e h = (h.0, h.1, h.2, says_settled xs s h.0 b h.1 r g e h.3)
    says_settled (Plain (Mark pos) ∷ xs) s a b ts r g e h = (h.0, h.1, h.2, says_settled xs s h.0 b h.1 r g e h.3)
    says_settled (Meant m ∷ xs) s a b ts r g e h = let t = meaning_reach m s (λ t. GoesAll xs t) g in (h.0, h.1, h.2, says_settled xs t.0 h.0 b h.1 r t.1 e h.3)
    says_settled (Named pos own ∷ xs) s a b ts r g e h = (h.0, h.1, h.2, says_settled xs _ h.0 b h.1 r (when_so _ _ g.2).1 e h.3)

    pub says_held : (own : Span) (span : Option Span) (xs : List Item) (a b : Spacing) (ts r : Input) → GoesAll xs Clear → r.places ≡ [] → SaysAll N (held own xs) a ts b r → SaysAll N (Plain (Semicolon span) ∷ xs) a ts b r
    says_held own span [] a b ts r g e h = (a, ts, inr (refl, refl, inr (ap kind_of (ap (λ (t : Input). t.places) h.1 ∙ e))), h)
    says_held own span (Plain (Brace o) ∷ xs) a b ts r g e h = (a, ts, inr (refl, refl, inl (brace_kind a h.0 ts h.1 h.2)), (h.0, h.1, h.2, says_settled xs _ h.0 b h.1 r g e h.3))
    says_held own span (Plain (Mark pos) ∷ xs) a b ts r g e h =
        let k = says_held own span xs h.0 b h.1 r g e h.3 in
        (k.0, k.1, moved_semi a h.0 k.0 ts h.1 k.1 h.2.0 h.2.1 k.2, (k.0, k.1, (refl, refl), k.3))
    says_held own span (Plain (Semicolon o) ∷ xs) a b ts r g e h = (h.0, h.1, inl h.2, says_held (span_or_none o) o xs h.0 b h.1 r g e h.3)
    says_held own span (Plain (Text o bytes) ∷ xs) a b ts r g e h = (h.0, h.1, inl h.2, (h.3.0, h.3.1, h.3.2, says_settled xs _ h.3.0 b h.3.1 r (when_so _ _ g.2).1 e h.3.3))
    says_held own span (Plain Blank ∷ xs) a b ts r g e h = (h.0, h.1, inl h.2, (h.3.0, h.3.1, h.3.2, says_settled xs _ h.3.0 b h.3.1 r g e h.3.3))
    says_held own span (Plain Line ∷ xs) a b ts r g e h = (h.0, h.1, inl h.2, (h.3.0, h.3.1, h.3.2, says_settled xs _ h.3.0 b h.3.1 r g e h.3.3))
    says_held own span (Plain Deeper ∷ xs) a b ts r g e h = (h.0, h.1, inl h.2, (h.3.0, h.3.1, h.3.2, says_settled xs Clear h.3.0 b h.3.1 r g e h.3.3))
    says_held own span (Plain Back ∷ xs) a b ts r g e h = (h.0, h.1, inl h.2, (h.3.0, h.3.1, h.3.2, says_settled xs Clear h.3.0 b h.3.1 r g e h.3.3))
    says_held own span (Plain Commit ∷ xs) a b ts r g e h = (h.0, h.1, inl h.2, (h.3.0, h.3.1, h.3.2, says_settled xs Clear h.3.0 b h.3.1 r g e h.3.3))
    says_held own span (Meant m ∷ xs) a b ts r g e h =
        let t = meaning_reach m Clear (λ t. GoesAll xs t) g in (h.0, h.1, inl h.2, (h.3.0, h.3.1, h.3.2, says_settled xs t.0 h.3.0 b h.3.1 r t.1 e h.3.3))
    says_held own span (Named pos bytes ∷ xs) a b ts r g e h = (h.0, h.1, inl h.2, (h.3.0, h.3.1, h.3.2, says_settled xs _ h.3.0 b h.3.1 r (when_so _ _ g.2).1 e h.3.3))
