-- What a text begins with it begins with where other trivia stands further on.
use Rattle.std.proofs.Common.{◌≡◌, ◌≢◌, ℕ, ◌⊎◌, inl, inr, ⊎_elim, Bool, true, false, not, ◌&&◌, ◌||◌, List, [], ◌∷◌, ◌++◌, refl, sym, ap, subst, ◌∙◌}
use Rattle.std.specs.Prelude.{◌==◌, Option, None, Some}
use Rattle.std.specs.List.{list_all}
use Rattle.std.proofs.lemmas.List.{append_cancel_right}
use Rattle.std.proofs.lemmas.Bool.{cases_Bool, false≢true, and_parts, eqb-true, eq-eqb, not-true, or_right}
use Rattle.base_proofs.proofs.Lists.{cons_head, cons_tail}
use Rattle.base_token.specs.declared.token.TokenKind.{TokenKind}
use Rattle.lex_pieces.specs.Characters.{is_among, is_white_space, is_line_terminator, is_decimal_digit}
use Rattle.lex_pieces.specs.Classes.{is_line_char}
use Rattle.lex_pieces.specs.Comments.{before_end, past_end}
use Rattle.lex_pieces.specs.Punctuators.{punctuators, IsAmong, IsPunctuator}
use Rattle.lex_pieces.specs.Runs.{Each, Ends}
use Rattle.lex_pieces.specs.Trivia.{Piece, WhiteSpace, LineTerminator, LineComment, BlockComment, IsPiece, NoTrivia, IsLegacy, spelled}
use Rattle.lex_pieces.specs.declared.trivia.Goal.{Goal}
use Rattle.lex_pieces.specs.declared.trivia.LineMark.{LineMark}
use Rattle.lex_pieces.specs.declared.trivia.LineMark.TheVariants.{Slashes, HtmlOpen, HtmlClose}
use Rattle.lex_pieces.proofs.Ending.{none_past, some_past}
use Rattle.lex_run_laws.proofs.Marks.{holds_all, among_holds}
use Rattle.print_weave_laws.specs.Cells.{is_lone}
use Rattle.print_weave_laws.proofs.Gaps.{longest, no_white, no_break}

-- ---- texts that agree

-- the lone marks, and a blank, the end of a line and a slash, with which all trivia begins that is put into a text
abbrev pub lone_marks : List ℕ
lone_marks = 40 ∷ 41 ∷ 44 ∷ 59 ∷ 91 ∷ 93 ∷ 123 ∷ 125 ∷ []

abbrev pub stops : List ℕ
stops = 10 ∷ 13 ∷ 32 ∷ 47 ∷ lone_marks

abbrev pub is_stop : ℕ → Bool
is_stop c = is_among stops c

-- Up to its first stop, or all along, the second text is the first.
abbrev pub Keeps : List ℕ → List ℕ → Type 0
Keeps r [] = Unit {0}
Keeps r (c ∷ cs) = (is_stop c ≡ true) ⊎ ((ds : List ℕ) × (r ≡ c ∷ ds) × Keeps ds cs)

-- no test that fails for each of a list passes one of it
pub fails : (p : ℕ → Bool) (ls : List ℕ) (c : ℕ) → list_all (λ d. not (p d)) ls ≡ true → is_among ls c ≡ true → p c ≡ false
fails p [] c e h = absurd (false≢true h)
fails p (l ∷ ls) c e h =
    let k = and_parts (not (p l)) (list_all (λ d. not (p d)) ls) e in ⊎_elim
    (λ (t : (c == l) ≡ true). ap p (eqb-true c l t) ∙ not-true (p l) k.0)
    (λ (t : (c == l) ≡ false). fails p ls c k.1 (sym (ap (λ b. b || is_among ls c) t) ∙ h))
    (cases_Bool (c == l))

lone_stop : (c : ℕ) → is_among lone_marks c ≡ true → is_stop c ≡ true
lone_stop c e = or_right (c == 10) _ (or_right (c == 13) _ (or_right (c == 32) _ (or_right (c == 47) _ e)))

pub keeps_all : (r : List ℕ) → Keeps r r
keeps_all [] = tt
keeps_all (c ∷ cs) = inr (cs, refl, keeps_all cs)

pub keeps_behind : (own r s : List ℕ) → Keeps r s → Keeps (own ++ r) (own ++ s)
keeps_behind [] r s k = k
keeps_behind (c ∷ cs) r s k = inr (cs ++ r, refl, keeps_behind cs r s k)

pub lone_keeps : (own r s : List ℕ) → is_lone own ≡ true → Keeps r (own ++ s)
lone_keeps [] r s e = absurd (false≢true e)
lone_keeps (c ∷ []) r s e = inl (lone_stop c e)
lone_keeps (c ∷ d ∷ cs) r s e = absurd (false≢true e)

-- behind its own characters a token is kept as what follows is, and a lone one in any case
pub own_keeps : (own r s : List ℕ) → (is_lone own ≡ false → Keeps r s) → Keeps (own ++ r) (own ++ s)
own_keeps own r s k = ⊎_elim (λ (t : is_lone own ≡ true). lone_keeps own (own ++ r) s t) (λ (f : is_lone own ≡ false). keeps_behind own r s (k f)) (cases_Bool (is_lone own))

abbrev pub is_solid : List ℕ → Bool
is_solid cs = list_all (λ d. not (is_stop d)) cs

solid_parts : (c : ℕ) (cs : List ℕ) → is_solid (c ∷ cs) ≡ true → (is_stop c ≡ false) × (is_solid cs ≡ true)
solid_parts c cs e = let k = and_parts (not (is_stop c)) (is_solid cs) e in (not-true (is_stop c) k.0, k.1)

-- What has no stop, and begins the second text, begins the first.
pub front_kept : (other r s more : List ℕ) → Keeps r s → is_solid other ≡ true → s ≡ other ++ more → (rest : List ℕ) × (r ≡ other ++ rest)
front_kept [] r s more k n e = (r, refl)
front_kept (o ∷ os) r [] more k n e = absurd (let f : [] ≡ o ∷ (os ++ more) = e in cc)
front_kept (o ∷ os) r (c ∷ cs) more (inl g) n e =
    absurd (false≢true (sym (solid_parts o os n).0 ∙ (ap is_stop (sym (cons_head c o cs (os ++ more) e)) ∙ g)))
front_kept (o ∷ os) r (c ∷ cs) more (inr h) n e =
    let z = front_kept os h.0 cs more h.2 (solid_parts o os n).1 (cons_tail c o cs (os ++ more) e) in
    (z.0, h.1 ∙ (ap (λ (a : ℕ). a ∷ h.0) (cons_head c o cs (os ++ more) e) ∙ ap (λ (l : List ℕ). o ∷ l) z.1))

-- what no stop passes, the first character doesn't
pub ends_kept : (p : ℕ → Bool) (r s : List ℕ) → list_all (λ d. not (p d)) stops ≡ true → Keeps r s → Ends p r → Ends p s
ends_kept p r [] q k e = tt
ends_kept p r (c ∷ cs) q (inl g) e = fails p stops c q g
ends_kept p r (c ∷ cs) q (inr h) e = subst (λ (l : List ℕ). Ends p l) h.1 e

-- ---- no trivia

-- no slash and no star
abbrev pub OffMarks : List ℕ → Type 0
OffMarks [] = Unit {0}
OffMarks (c ∷ cs) = ((c == 47) || (c == 42)) ≡ false

-- They begin alike.
abbrev pub SameFirst : List ℕ → List ℕ → Type 0
SameFirst r s = (c : ℕ) × (ds : List ℕ) × (cs : List ℕ) × (r ≡ c ∷ ds) × (s ≡ c ∷ cs)

-- Behind a slash comes none that would open a comment with it where none came.
abbrev pub OpensNone : ℕ → List ℕ → List ℕ → Type 0
OpensNone c ds cs = ((c == 47) ≡ false) ⊎ (OffMarks cs ⊎ SameFirst ds cs)

-- what the marks of comments of the HTML form begin with
abbrev pub leads : ℕ → Bool
leads c = (c == 60) || (c == 45)

-- What begins with no trivia still does.
pub quiet_kept : (goal : Goal) (first : Bool) (r s : List ℕ) (c : ℕ) (cs ds : List ℕ) → r ≡ c ∷ ds → s ≡ c ∷ cs → (leads c ≡ true → Keeps ds cs) → OpensNone c ds cs → NoTrivia goal first r → NoTrivia goal first s
quiet_kept goal first r s c cs ds e f k o n = (no_piece, (λ h. no_block h.0 h.1), no_legacy)
  where
    -- what begins the second with such a character, and has no stop behind it, begins the first
    front : (m : ℕ) (ms more : List ℕ) → leads m ≡ true → is_solid ms ≡ true → s ≡ m ∷ (ms ++ more) → (rest : List ℕ) × (r ≡ m ∷ (ms ++ rest))
    front m ms more l g h =
        let w : c ∷ cs ≡ m ∷ (ms ++ more) = sym f ∙ h in
        let z = front_kept ms ds cs more (k (ap leads (cons_head c m cs (ms ++ more) w) ∙ l)) g (cons_tail c m cs (ms ++ more) w) in
        (z.0, e ∙ (ap (λ (a : ℕ). a ∷ ds) (cons_head c m cs (ms ++ more) w) ∙ ap (λ (l : List ℕ). m ∷ l) z.1))

    -- behind a slash
    pair : (m : ℕ) (inner : List ℕ) → ((m == 47) || (m == 42)) ≡ true → s ≡ 47 ∷ m ∷ inner → (rest : List ℕ) × (r ≡ 47 ∷ m ∷ rest)
    pair m inner g h = by o
      where
        w : c ∷ cs ≡ 47 ∷ m ∷ inner
        w = sym f ∙ h

        slash : c ≡ 47
        slash = cons_head c 47 cs (m ∷ inner) w

        next : cs ≡ m ∷ inner
        next = cons_tail c 47 cs (m ∷ inner) w

        by : OpensNone c ds cs → (rest : List ℕ) × (r ≡ 47 ∷ m ∷ rest)
        by (inl a) = absurd (false≢true (sym a ∙ eq-eqb c 47 slash))
        by (inr (inl a)) = absurd (false≢true (sym (subst (λ (l : List ℕ). OffMarks l) next a) ∙ g))
        by (inr (inr a)) =
            let same : a.0 ≡ m = cons_head a.0 m a.2 inner (sym a.4 ∙ next) in
            (a.1, e ∙ (ap (λ (x : ℕ). x ∷ ds) slash ∙ ap (λ (l : List ℕ). 47 ∷ l) (a.3 ∙ ap (λ (x : ℕ). x ∷ a.1) same)))

    front_mark : (mark : LineMark) (inner : List ℕ) → s ≡ spelled mark ++ inner → (rest : List ℕ) × (r ≡ spelled mark ++ rest)
    front_mark Slashes inner h = pair 47 inner refl h
    front_mark HtmlOpen inner h = front 60 (33 ∷ 45 ∷ 45 ∷ []) inner refl refl h
    front_mark HtmlClose inner h = front 45 (45 ∷ 62 ∷ []) inner refl refl h

    at_first : (p : ℕ → Bool) (d : ℕ) (rest : List ℕ) → Ends p r → s ≡ d ∷ rest → p d ≡ true → ⊥
    at_first p d rest q h t = false≢true (sym (subst (λ (l : List ℕ). Ends p l) e q) ∙ (ap p (cons_head c d cs rest (sym f ∙ h)) ∙ t))

    no_block : (inner : List ℕ) → s ≡ 47 ∷ 42 ∷ inner → ⊥
    no_block inner h = let z = pair 42 inner refl h in by (past_end z.0) z.0 refl z.1
      where
        by : (o : Option (List ℕ)) → (inner : List ℕ) → past_end inner ≡ o → r ≡ 47 ∷ 42 ∷ inner → ⊥
        by None inner p q = n.1 (inner, q, none_past inner p)
        by (Some more) inner p q = n.0 (BlockComment (before_end inner)) more (inner, q, some_past inner more p)

    no_piece : (p : Piece) (rest : List ℕ) → IsPiece goal first s p rest → ⊥
    no_piece WhiteSpace rest h = by h.0 h.1 h.2.0 h.2.1
      where
        by : (own : List ℕ) → own ≢ [] → s ≡ own ++ rest → Each is_white_space own → ⊥
        by [] z q w = z refl
        by (o ∷ os) z q w = at_first is_white_space o (os ++ rest) (no_white goal first r n) q w.0
    no_piece LineTerminator rest (inl h) = at_first is_line_terminator 13 (10 ∷ rest) (no_break goal first r n) h refl
    no_piece LineTerminator rest (inr h) = at_first is_line_terminator h.0 rest (no_break goal first r n) h.1 h.2
    no_piece (LineComment mark own) rest h =
        let z = front_mark mark h.1.0 h.1.1 in
        let g = longest is_line_char z.0 in
        n.0 (LineComment mark g.0) g.1 (h.0, (z.0, z.1, g.2))
    no_piece (BlockComment own) rest h = no_block h.0 h.1

    no_legacy : (inner : List ℕ) → IsLegacy goal first s inner → ⊥
    no_legacy inner h = let z = front_mark h.1.0 inner h.1.3 in n.2 z.0 (h.0, (h.1.0, h.1.1, h.1.2, z.1))

-- ---- punctuators

-- It has a first character, and no stop behind that.
abbrev is_marked : List ℕ → Bool
is_marked [] = false
is_marked (c ∷ cs) = is_solid cs

all_marked : holds_all (λ s k. is_marked s) punctuators ≡ true
unfolding holds_all
all_marked = refl

marked : (s : List ℕ) (k : TokenKind) → IsAmong punctuators s k → is_marked s ≡ true
marked s k h = among_holds (λ t j. is_marked t) punctuators s k all_marked h

digit_solid : (d : ℕ) → is_decimal_digit d ≡ true → is_solid (d ∷ []) ≡ true
digit_solid d h = ⊎_elim
    (λ (t : is_stop d ≡ true). absurd (false≢true (sym (fails is_decimal_digit stops d refl t) ∙ h)))
    (λ (t : is_stop d ≡ false). ap (λ (b : Bool). not b && true) t)
    (cases_Bool (is_stop d))

-- what begins the second text behind a first character, and has no stop behind its own, begins the first text
onward : (own r s other more : List ℕ) → is_marked own ≡ true → is_marked other ≡ true → Keeps r s → own ++ s ≡ other ++ more → (rest : List ℕ) × (own ++ r ≡ other ++ rest)
onward [] r s other more a b k e = absurd (false≢true a)
onward (c ∷ cs) r s [] more a b k e = absurd (false≢true b)
onward (c ∷ cs) r s (o ∷ os) more a b k e =
    let z = front_kept os (cs ++ r) (cs ++ s) more (keeps_behind cs r s k) b (cons_tail c o (cs ++ s) (os ++ more) e) in
    (z.0, ap (λ (a : ℕ). a ∷ (cs ++ r)) (cons_head c o (cs ++ s) (os ++ more) e) ∙ ap (λ (l : List ℕ). o ∷ l) z.1)

-- A punctuator is read as before.
pub punctuator_kept : (own : List ℕ) (kind : TokenKind) (r s : List ℕ) → IsPunctuator (own ++ r) kind r → Keeps r s → IsPunctuator (own ++ s) kind s
punctuator_kept own kind r s h k =
    let g = h.1 in
    let same : own ≡ g.0 = append_cancel_right own g.0 r g.2 in
    let some : is_marked own ≡ true = subst (λ (t : List ℕ). is_marked t ≡ true) (sym same) (marked g.0 kind g.1) in (
      (λ d. let z = onward own r s (46 ∷ d.0 ∷ []) d.1 some (digit_solid d.0 d.3) k d.2 in h.0 (d.0, z.0, z.1, d.3)),
      (
        g.0,
        g.1,
        ap (λ (l : List ℕ). l ++ s) same,
        λ other more j a q. let z = onward own r s other more some (marked other j a) k q in g.3 other z.0 j a z.1,
      ),
    )
