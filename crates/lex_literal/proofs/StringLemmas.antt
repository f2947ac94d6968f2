-- The string that is read is the one that the definition has.
use Rattle.std.proofs.Common.{◌≡◌, ℕ, ◌≢◌, ◌⊎◌, inl, inr, ⊎_elim, Bool, true, false, List, [], ◌∷◌, ◌++◌, append-nil, append_assoc, refl, sym, ap, subst, ◌∙◌, arith}
use Rattle.std.specs.Prelude.{not, ◌||◌}
use Rattle.std.specs.Char.Escape.{encode_utf16}
use Rattle.std.specs.List.{flat_map, list_any}
use Rattle.std.proofs.lemmas.Bool.{cases_Bool, false≢true}
use Rattle.std.proofs.lemmas.Bool.Decides.{nat_tests}
use Rattle.std.proofs.Math.Bool.{or-false}
use Rattle.base_token.specs.declared.error.Error.{Error}
use Rattle.base_token.specs.Utf16.{utf16}
use Rattle.lex_pieces.specs.Characters.{is_line_break}
use Rattle.lex_pieces.specs.Runs.{Each, run, after}
use Rattle.lex_pieces.proofs.ListLemmas.{same_head, same_tail, nil_cons}
use Rattle.lex_pieces.proofs.Passing.{after_more}
use Rattle.lex_literal.specs.declared.escape.Escape.{Escape}
use Rattle.lex_literal.specs.Escapes.{begins, IsEscape, NoEscape}
use Rattle.lex_literal.specs.Places.{EndsWith}
use Rattle.lex_literal.specs.Units.{escape_units, is_legacy}
use Rattle.lex_literal.specs.Strings.{Piece, Plain, Escaped, Stands, Pieces, SpellsString, NoString, StopsAt, IsStringFault, OneString, is_plain, is_quote, piece_units, has_legacy_escape}
use Rattle.lex_literal.proofs.EscapeLemmas.{one_escape, escape_front}
use Rattle.lex_literal.proofs.RunLemmas.{run_after, run_each, after_none}

-- ---- one piece

plain_is_no_backslash : (quote c : ℕ) → is_plain quote c ≡ true → c ≡ 92 → ⊥
plain_is_no_backslash quote c e f = let g : is_plain quote c ≡ false = grind (arith, nat_tests) in false≢true (sym g ∙ e)

plain_is_no_quote : (quote c : ℕ) → is_plain quote c ≡ true → c ≡ quote → ⊥
plain_is_no_quote quote c e f = let g : is_plain quote c ≡ false = grind (arith, nat_tests) in false≢true (sym g ∙ e)

quote_is_no_backslash : (quote : ℕ) → is_quote quote ≡ true → quote ≡ 92 → ⊥
quote_is_no_backslash quote e f = let g : is_quote quote ≡ false = grind (arith, nat_tests) in false≢true (sym g ∙ e)

record Same (p q : Piece) (r s : List ℕ) : Type 0 where
  units : piece_units p ≡ piece_units q
  legacy : has_legacy_escape p ≡ has_legacy_escape q
  rest : r ≡ s

one_piece : (quote : ℕ) (p q : Piece) (text r s : List ℕ) → Stands quote p text r → Stands quote q text s → Same p q r s
one_piece quote (Plain c) (Plain d) text r s h i =
    let e : c ∷ r ≡ d ∷ s = sym h.0 ∙ i.0 in
    record { units = ap encode_utf16 (same_head c d r s e); legacy = refl; rest = same_tail c d r s e }
one_piece quote (Plain c) (Escaped e) text r s h i = absurd (plain_is_no_backslash quote c h.1 (same_head c 92 r i.0 (sym h.0 ∙ i.1)))
one_piece quote (Escaped e) (Plain c) text r s h i = absurd (plain_is_no_backslash quote c i.1 (same_head c 92 s h.0 (sym i.0 ∙ h.1)))
one_piece quote (Escaped e) (Escaped f) text r s h i =
    let m = same_tail 92 92 h.0 i.0 (sym h.1 ∙ i.1) in
    let o = one_escape i.0 e f r s (subst (λ t. IsEscape e t r) m h.2) i.2 in
    record { units = ap escape_units o.0; legacy = ap is_legacy o.0; rest = o.1 }

-- no piece begins with the quote
none_at_quote : (quote : ℕ) (p : Piece) (text r s : List ℕ) → is_quote quote ≡ true → text ≡ quote ∷ s → Stands quote p text r → ⊥
none_at_quote quote (Plain c) text r s q e h = plain_is_no_quote quote c h.1 (same_head c quote r s (sym h.0 ∙ e))
none_at_quote quote (Escaped x) text r s q e h = quote_is_no_backslash quote q (same_head quote 92 s h.0 (sym e ∙ h.1))

-- ---- at most one string

record SamePieces (ps qs : List Piece) (r s : List ℕ) : Type 0 where
  units : flat_map piece_units ps ≡ flat_map piece_units qs
  legacy : list_any has_legacy_escape ps ≡ list_any has_legacy_escape qs
  rest : r ≡ s

same_pieces : (quote : ℕ) → is_quote quote ≡ true → (ps qs : List Piece) (text r s : List ℕ)
    → Pieces quote ps text (quote ∷ r) → Pieces quote qs text (quote ∷ s) → SamePieces ps qs r s
same_pieces quote q [] [] text r s h i = record { units = refl; legacy = refl; rest = same_tail quote quote r s (sym h ∙ i) }
same_pieces quote q [] (p ∷ ps) text r s h i = absurd (none_at_quote quote p text i.0 r q h i.1)
same_pieces quote q (p ∷ ps) [] text r s h i = absurd (none_at_quote quote p text h.0 s q i h.1)
same_pieces quote q (p ∷ ps) (o ∷ os) text r s h i =
    let one = one_piece quote p o text h.0 i.0 h.1 i.1 in
    let more = same_pieces quote q ps os i.0 r s (subst (λ t. Pieces quote ps t (quote ∷ r)) one.rest h.2) i.2 in
    record {
      units = ap (λ x. x ++ flat_map piece_units ps) one.units ∙ ap (λ x. piece_units o ++ x) more.units;
      legacy = ap (λ x. x || list_any has_legacy_escape ps) one.legacy ∙ ap (λ x. has_legacy_escape o || x) more.legacy;
      rest = more.rest;
    }

pub one_string : OneString
one_string us vs l k text r s h i =
    let a = h.1 in
    let b = i.1 in
    let e : a.0 ∷ a.1 ≡ b.0 ∷ b.1 = sym a.3 ∙ b.3 in
    let quote = same_head a.0 b.0 a.1 b.1 e in
    let inner = same_tail a.0 b.0 a.1 b.1 e in
    let mine : Pieces b.0 h.0 b.1 (b.0 ∷ r) = subst (λ t. Pieces b.0 h.0 t (b.0 ∷ r)) inner (subst (λ c. Pieces c h.0 a.1 (c ∷ r)) quote a.4) in
    let same = same_pieces b.0 b.2 h.0 i.0 b.1 r s mine b.4 in
    (h.2 ∙ same.units ∙ sym i.2, h.3 ∙ same.legacy ∙ sym i.3, same.rest)

-- ---- what was read so far

pub record SoFar (quote : ℕ) (inner rest us : List ℕ) (l : Bool) : Type 0 where
  pub pieces : List Piece
  pub stand : Pieces quote pieces inner rest
  pub units : us ≡ flat_map piece_units pieces
  pub legacy : l ≡ list_any has_legacy_escape pieces
  pub suffix : EndsWith inner rest

pub so_far_none : (quote : ℕ) (inner : List ℕ) → SoFar quote inner inner [] false
so_far_none quote inner = record { pieces = []; stand = refl; units = refl; legacy = refl; suffix = ([], refl) }

pieces_more : (quote : ℕ) (ps : List Piece) (p : Piece) (text m r : List ℕ) → Pieces quote ps text m → Stands quote p m r → Pieces quote (ps ++ p ∷ []) text r
pieces_more quote [] p text m r h i = (r, subst (λ t. Stands quote p t r) (sym h) i, refl)
pieces_more quote (o ∷ os) p text m r h i = (h.0, h.1, pieces_more quote os p h.0 m r h.2 i)

units_more : (ps : List Piece) (p : Piece) → flat_map piece_units (ps ++ p ∷ []) ≡ flat_map piece_units ps ++ piece_units p
units_more [] p = append-nil (piece_units p)
units_more (o ∷ os) p = ap (λ x. piece_units o ++ x) (units_more os p) ∙ sym (append_assoc (piece_units o) (flat_map piece_units os) (piece_units p))

legacy_more : (ps : List Piece) (p : Piece) → list_any has_legacy_escape (ps ++ p ∷ []) ≡ (list_any has_legacy_escape ps || has_legacy_escape p)
legacy_more [] p = elim (has_legacy_escape p) as (λ v. (v || false) ≡ v) [ true ↦ refl | false ↦ refl ]
legacy_more (o ∷ os) p =
    ap (λ x. has_legacy_escape o || x) (legacy_more os p)
    ∙ elim (has_legacy_escape o) as (λ v. (v || (list_any has_legacy_escape os || has_legacy_escape p)) ≡ ((v || list_any has_legacy_escape os) || has_legacy_escape p)) [ true ↦ refl | false ↦ refl ]

so_far_piece : (quote : ℕ) (inner rest r us : List ℕ) (l : Bool) (p : Piece) → SoFar quote inner rest us l → Stands quote p rest r → EndsWith rest r
    → SoFar quote inner r (us ++ piece_units p) (l || has_legacy_escape p)
so_far_piece quote inner rest r us l p s h f = record {
  pieces = s.pieces ++ p ∷ [];
  stand = pieces_more quote s.pieces p inner rest r s.stand h;
  units = ap (λ x. x ++ piece_units p) s.units ∙ sym (units_more s.pieces p);
  legacy = ap (λ x. x || has_legacy_escape p) s.legacy ∙ sym (legacy_more s.pieces p);
  suffix = (s.suffix.0 ++ f.0, s.suffix.1 ∙ ap (λ x. s.suffix.0 ++ x) f.1 ∙ sym (append_assoc s.suffix.0 f.0 r));
}

so_far_all : (quote : ℕ) (inner xs r us : List ℕ) (l : Bool) → SoFar quote inner (xs ++ r) us l → Each (is_plain quote) xs → SoFar quote inner r (us ++ utf16 xs) l
so_far_all quote inner [] r us l s h = subst (λ x. SoFar quote inner r x l) (sym (append-nil us)) s
so_far_all quote inner (c ∷ xs) r us l s h =
    let one = so_far_piece quote inner (c ∷ (xs ++ r)) (xs ++ r) us l (Plain c) s (refl, h.0) (c ∷ [], refl) in
    let more = so_far_all quote inner xs r (us ++ encode_utf16 c) l (subst (SoFar quote inner (xs ++ r) (us ++ encode_utf16 c)) (or-false l) one) h.1 in
    subst (λ x. SoFar quote inner r x l) (append_assoc us (encode_utf16 c) (utf16 xs)) more

pub so_far_plain : (quote : ℕ) (inner rest us : List ℕ) (l : Bool) → SoFar quote inner rest us l
    → SoFar quote inner (after (is_plain quote) rest) (us ++ utf16 (run (is_plain quote) rest)) l
so_far_plain quote inner rest us l s =
    so_far_all quote inner (run (is_plain quote) rest) (after (is_plain quote) rest) us l
    (subst (λ x. SoFar quote inner x us l) (run_after (is_plain quote) rest) s) (run_each (is_plain quote) rest)

pub so_far_escape : (quote : ℕ) (inner m r us : List ℕ) (l : Bool) (e : Escape) → SoFar quote inner (92 ∷ m) us l → IsEscape e m r
    → SoFar quote inner r (us ++ escape_units e) (l || is_legacy e)
so_far_escape quote inner m r us l e s h =
    let f = escape_front e m r h in
    so_far_piece quote inner (92 ∷ m) r us l (Escaped e) s (m, refl, h) (92 ∷ f.0, ap (λ (x : List ℕ). 92 ∷ x) f.1)

pub spelled : (quote : ℕ) (inner r us : List ℕ) (l : Bool) → is_quote quote ≡ true → SoFar quote inner (quote ∷ r) us l → SpellsString us l (quote ∷ inner) r
spelled quote inner r us l q s = (s.pieces, (quote, inner, q, refl, s.stand), s.units, s.legacy)

-- ---- where no string stands

common : (quote : ℕ) (ps qs : List Piece) (text m s : List ℕ) → Pieces quote ps text m → Pieces quote qs text s
    → ((os : List Piece) × Pieces quote os m s) ⊎ ((os : List Piece) × Pieces quote os s m)
common quote [] qs text m s h i = inl (qs, subst (λ t. Pieces quote qs t s) h i)
common quote (p ∷ ps) [] text m s h i = inr (p ∷ ps, subst (λ t. Pieces quote (p ∷ ps) t m) i h)
common quote (p ∷ ps) (o ∷ os) text m s h i =
    let one = one_piece quote p o text h.0 i.0 h.1 i.1 in
    common quote ps os i.0 m s (subst (λ t. Pieces quote ps t m) one.rest h.2) i.2

-- neither a piece nor the quote comes next
pub record Stuck (quote : ℕ) (m : List ℕ) : Type 0 where
  pub piece : (p : Piece) (r : List ℕ) → Stands quote p m r → ⊥
  pub quote_next : (r : List ℕ) → m ≡ quote ∷ r → ⊥

stuck_pieces : (quote : ℕ) (ps : List Piece) (m r : List ℕ) → Stuck quote m → Pieces quote ps m (quote ∷ r) → ⊥
stuck_pieces quote [] m r s h = s.quote_next r h
stuck_pieces quote (p ∷ ps) m r s h = s.piece p h.0 h.1

after_quote : (quote : ℕ) (ps : List Piece) (m r : List ℕ) → is_quote quote ≡ true → Stuck quote m → Pieces quote ps (quote ∷ r) m → ⊥
after_quote quote [] m r q s h = s.quote_next r (sym h)
after_quote quote (p ∷ ps) m r q s h = none_at_quote quote p (quote ∷ r) h.0 r q refl h.1

pub no_string : (quote : ℕ) (inner m us : List ℕ) (l : Bool) → is_quote quote ≡ true → SoFar quote inner m us l → Stuck quote m → NoString (quote ∷ inner)
no_string quote inner m us l q s stuck ps r h =
    let same = same_head quote h.0 inner h.1 h.3 in
    let rest = same_tail quote h.0 inner h.1 h.3 in
    let theirs : Pieces quote ps inner (quote ∷ r) =
    subst (λ t. Pieces quote ps t (quote ∷ r)) (sym rest) (subst (λ c. Pieces c ps h.1 (c ∷ r)) (sym same) h.4) in
    ⊎_elim
    (λ (x : (os : List Piece) × Pieces quote os m (quote ∷ r)). stuck_pieces quote x.0 m r stuck x.1)
    (λ (x : (os : List Piece) × Pieces quote os (quote ∷ r) m). after_quote quote x.0 m r q stuck x.1)
    (common quote s.pieces ps inner m (quote ∷ r) s.stand theirs)

pub stuck_end : (quote : ℕ) → Stuck quote []
stuck_end quote = record { piece = at_end; quote_next = λ r e. nil_cons quote r e }
  where
    at_end : (p : Piece) (r : List ℕ) → Stands quote p [] r → ⊥
    at_end (Plain c) r h = nil_cons c r h.0
    at_end (Escaped e) r h = nil_cons 92 h.0 h.1

pub stuck_char : (quote c : ℕ) (cs : List ℕ) → is_plain quote c ≡ false → (c ≡ quote → ⊥) → (c ≡ 92 → ⊥) → Stuck quote (c ∷ cs)
stuck_char quote c cs e f g = record { piece = there; quote_next = λ r i. f (same_head c quote cs r i) }
  where
    there : (p : Piece) (r : List ℕ) → Stands quote p (c ∷ cs) r → ⊥
    there (Plain d) r h = false≢true (sym e ∙ ap (is_plain quote) (same_head c d cs r h.0) ∙ h.1)
    there (Escaped x) r h = g (same_head c 92 cs h.0 h.1)

pub stuck_escape : (quote : ℕ) (t : List ℕ) → is_quote quote ≡ true → NoEscape t → Stuck quote (92 ∷ t)
stuck_escape quote t q h = record { piece = there; quote_next = λ r i. quote_is_no_backslash quote q (sym (same_head 92 quote t r i)) }
  where
    there : (p : Piece) (r : List ℕ) → Stands quote p (92 ∷ t) r → ⊥
    there (Plain d) r i = plain_is_no_backslash quote d i.1 (sym (same_head 92 d t r i.0))
    there (Escaped e) r i = h e r (subst (λ x. IsEscape e x r) (sym (same_tail 92 92 t i.0 i.1)) i.2)

-- ---- as the code meets it

pub at_more : (quote : ℕ) (inner rest own more us vs : List ℕ) (l : Bool) → SoFar quote inner rest us l
    → own ≡ run (is_plain quote) rest → more ≡ after (is_plain quote) rest → vs ≡ us ++ utf16 own → SoFar quote inner more vs l
at_more quote inner rest own more us vs l s e f g =
    subst (λ v. SoFar quote inner more v l) (ap (λ x. us ++ utf16 x) (sym e) ∙ sym g)
    (subst (λ m. SoFar quote inner m (us ++ utf16 (run (is_plain quote) rest)) l) (sym f) (so_far_plain quote inner rest us l s))

pub at_escape : (quote : ℕ) (inner more behind r us vs : List ℕ) (l : Bool) (e : Escape) → SoFar quote inner more us l
    → more ≡ 92 ∷ behind → IsEscape e behind r → vs ≡ us ++ escape_units e → SoFar quote inner r vs (l || is_legacy e)
at_escape quote inner more behind r us vs l e s f h g =
    subst (λ v. SoFar quote inner r v (l || is_legacy e)) (sym g)
    (so_far_escape quote inner behind r us l e (subst (λ m. SoFar quote inner m us l) f s) h)

pub or_yes : (l x : Bool) → l ≡ true → (l || x) ≡ l
or_yes true x e = refl
or_yes false x e = absurd (false≢true e)

pub or_no : (l x : Bool) → l ≡ false → (l || x) ≡ x
or_no true x e = absurd (false≢true (sym e))
or_no false x e = refl

pub closes : (quote : ℕ) (text inner more r us : List ℕ) (l : Bool) → is_quote quote ≡ true → text ≡ quote ∷ inner → SoFar quote inner more us l
    → more ≡ quote ∷ r → SpellsString us l text r
closes quote text inner more r us l q e s f =
    subst (λ t. SpellsString us l t r) (sym e) (spelled quote inner r us l q (subst (λ m. SoFar quote inner m us l) f s))

pub ends_with : (quote : ℕ) (text inner more r us : List ℕ) (l : Bool) (c : ℕ) → text ≡ quote ∷ inner → SoFar quote inner more us l
    → more ≡ c ∷ r → EndsWith text r
ends_with quote text inner more r us l c e s f = (
  quote ∷ (s.suffix.0 ++ c ∷ []),
  e ∙ ap (λ (x : List ℕ). quote ∷ x) (s.suffix.1 ∙ ap (λ x. s.suffix.0 ++ x) f ∙ sym (append_assoc s.suffix.0 (c ∷ []) r)),
)

pub stops : (end quote : ℕ) (text inner m us : List ℕ) (l : Bool) (e : Error) → is_quote quote ≡ true → text ≡ quote ∷ inner → SoFar quote inner m us l
    → Stuck quote m → StopsAt end text m e → NoString text × IsStringFault end text e
stops end quote text inner m us l e q f s stuck h = (
  subst NoString (sym f) (no_string quote inner m us l q s stuck),
  (quote, inner, s.pieces, m, f, s.stand, h),
)

pub after_stops : (p : ℕ → Bool) (cs : List ℕ) (c : ℕ) (r : List ℕ) → after p cs ≡ c ∷ r → p c ≡ false
after_stops p [] c r e = absurd (nil_cons c r e)
after_stops p (d ∷ ds) c r e = ⊎_elim
    (λ (t : p d ≡ true). after_stops p ds c r (sym (after_more p d ds t) ∙ e))
    (λ (t : p d ≡ false). ap p (same_head c d r ds (sym e ∙ after_none p d ds t)) ∙ t)
    (cases_Bool (p d))

line_or_quote : (quote c : ℕ) → is_plain quote c ≡ false → c ≢ quote → c ≢ 92 → not (is_line_break c) ≡ false
line_or_quote quote c e f g = grind (arith, nat_tests)

pub line_stops : (quote : ℕ) (rest more : List ℕ) (c : ℕ) (r : List ℕ) → more ≡ after (is_plain quote) rest → more ≡ c ∷ r → c ≢ quote → c ≢ 92
    → Stuck quote more × (begins (λ x. not (is_line_break x)) more ≡ false)
line_stops quote rest more c r e f g h =
    let bare = after_stops (is_plain quote) rest c r (sym e ∙ f) in (
      subst (Stuck quote) (sym f) (stuck_char quote c r bare g h),
      ap (begins (λ x. not (is_line_break x))) f ∙ line_or_quote quote c bare g h,
    )

pub end_stops : (quote : ℕ) (more : List ℕ) → more ≡ [] → Stuck quote more × (begins (λ x. not (is_line_break x)) more ≡ false)
end_stops quote more e = (subst (Stuck quote) (sym e) (stuck_end quote), ap (begins (λ x. not (is_line_break x))) e)
