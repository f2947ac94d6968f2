-- Blanks and ends of lines are trivia (ECMA-262, 12.2 and 12.3).
use Rattle.std.proofs.Common.{◌≡◌, ℕ, ◌⊎◌, inl, inr, Bool, true, false, ◌||◌, List, [], ◌∷◌, refl, sym, ap, subst, ◌∙◌}
use Rattle.std.specs.List.{list_any}
use Rattle.base_proofs.proofs.Bools.{or_false}
use Rattle.lex_pieces.specs.Characters.{is_white_space}
use Rattle.lex_pieces.specs.Runs.{Ends}
use Rattle.lex_pieces.specs.Trivia.{Piece, WhiteSpace, LineTerminator, Follow, IsSkipped, NoTrivia, breaks}
use Rattle.lex_pieces.specs.declared.trivia.Goal.{Goal}

-- a character of white space, LF, and CR with LF
pub data Blankness : Type 0 where
  White : ℕ → Blankness
  Feed : Blankness
  Return : Blankness

abbrev pub chars_of : Blankness → List ℕ → List ℕ
chars_of (White c) cs = c ∷ cs
chars_of Feed cs = 10 ∷ cs
chars_of Return cs = 13 ∷ 10 ∷ cs

-- the characters, before others
abbrev pub gap_before : List Blankness → List ℕ → List ℕ
gap_before [] cs = cs
gap_before (u ∷ us) cs = chars_of u (gap_before us cs)

abbrev pub is_end_of_line : Blankness → Bool
is_end_of_line (White c) = false
is_end_of_line Feed = true
is_end_of_line Return = true

abbrev pub breaks_line : List Blankness → Bool
breaks_line [] = false
breaks_line (u ∷ us) = is_end_of_line u || breaks_line us

abbrev pub AreBlank : List Blankness → Type 0
AreBlank [] = Unit {0}
AreBlank (White c ∷ us) = (is_white_space c ≡ true) × AreBlank us
AreBlank (Feed ∷ us) = AreBlank us
AreBlank (Return ∷ us) = AreBlank us

or_true : (a b : Bool) → ((a || true) || b) ≡ (a || true)
or_true true b = refl
or_true false b = refl

record Skips (goal : Goal) (first : Bool) (us : List Blankness) (rest : List ℕ) : Type 0 where
  ps : List Piece
  follow : Follow goal first (gap_before us rest) ps rest
  broke : list_any breaks ps ≡ breaks_line us
  head : ((qs : List Piece) × (ps ≡ WhiteSpace ∷ qs)) ⊎ Ends is_white_space (gap_before us rest)

-- one more white character before white space, and before anything else
longer : (goal : Goal) (first : Bool) (c : ℕ) (text rest : List ℕ) (qs : List Piece) → is_white_space c ≡ true → Follow goal first text (WhiteSpace ∷ qs) rest
    → Follow goal first (c ∷ text) (WhiteSpace ∷ qs) rest
longer goal first c text rest qs w h =
    let k = h.1 in
    (h.0, (c ∷ k.0, (λ (e : c ∷ k.0 ≡ []). cc), (ap (λ (t : List ℕ). c ∷ t) k.2.0, (w, k.2.1), k.2.2)), h.2)

one_white : (goal : Goal) (first : Bool) (c : ℕ) (text rest : List ℕ) (ps : List Piece) → is_white_space c ≡ true → Ends is_white_space text → Follow goal first text ps rest
    → Follow goal first (c ∷ text) (WhiteSpace ∷ ps) rest
one_white goal first c text rest ps w e h =
    (text, (c ∷ [], (λ (f : c ∷ [] ≡ []). cc), (refl, (w, tt), e)), subst (λ (b : Bool). Follow goal b text ps rest) (sym (or_false first)) h)

white_skips : (goal : Goal) (first : Bool) (c : ℕ) (us : List Blankness) (rest : List ℕ) → is_white_space c ≡ true → Skips goal first us rest → Skips goal first (White c ∷ us) rest
white_skips goal first c us rest w s = by s.head
  where
    by : ((qs : List Piece) × (s.ps ≡ WhiteSpace ∷ qs)) ⊎ Ends is_white_space (gap_before us rest) → Skips goal first (White c ∷ us) rest
    by (inl h) = record {
      ps = WhiteSpace ∷ h.0;
      follow = longer goal first c (gap_before us rest) rest h.0 w (subst (λ (ps : List Piece). Follow goal first (gap_before us rest) ps rest) h.1 s.follow);
      broke = ap (list_any breaks) (sym h.1) ∙ s.broke;
      head = inl (h.0, refl);
    }
    by (inr h) = record {
      ps = WhiteSpace ∷ s.ps;
      follow = one_white goal first c (gap_before us rest) rest s.ps w h s.follow;
      broke = s.broke;
      head = inl (s.ps, refl);
    }

skips : (goal : Goal) (first : Bool) (us : List Blankness) (rest : List ℕ) → AreBlank us → Ends is_white_space rest → Skips goal first us rest
skips goal first [] rest a e = record { ps = []; follow = refl; broke = refl; head = inr e }
skips goal first (White c ∷ us) rest a e = white_skips goal first c us rest a.0 (skips goal first us rest a.1 e)
skips goal first (Feed ∷ us) rest a e =
    let s = skips goal (first || true) us rest a e in record {
      ps = LineTerminator ∷ s.ps;
      follow = (gap_before us rest, inr (10, refl, refl, (λ (h : 10 ≡ 13). cc)), s.follow);
      broke = refl;
      head = inr refl;
    }
skips goal first (Return ∷ us) rest a e =
    let s = skips goal (first || true) us rest a e in record {
      ps = LineTerminator ∷ s.ps;
      follow = (gap_before us rest, inl refl, s.follow);
      broke = refl;
      head = inr refl;
    }

-- They are the whole run of trivia before what begins with none.
pub are_skipped : (goal : Goal) (first : Bool) (us : List Blankness) (rest : List ℕ) → AreBlank us → Ends is_white_space rest → NoTrivia goal (first || breaks_line us) rest
    → IsSkipped goal first (gap_before us rest) (breaks_line us) rest
are_skipped goal first us rest a e n =
    let s = skips goal first us rest a e in
    (s.ps, (s.follow, subst (λ (b : Bool). NoTrivia goal (first || b) rest) (sym s.broke) n), sym s.broke)
