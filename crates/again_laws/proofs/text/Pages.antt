-- What is written of a layout on a page, and the pairs of its names.
use Rattle.std.proofs.Common.{◌≡◌, ℕ, ◌+◌, ◌-◌, Bool, true, false, List, [], ◌∷◌, Some, append-nil, refl, sym, ap, subst, ◌∙◌}
use Rattle.std.specs.Prelude.{codes}
use Rattle.std.specs.List.{Contains}
use Rattle.std.specs.Str.{chars}
use Rattle.std.proofs.lemmas.Bool.{false≢true}
use Rattle.base_token.specs.declared.place.BytePos.{BytePos}
use Rattle.base_token.specs.declared.place.LineCol.{LineCol}
use Rattle.lex_pieces.specs.Classes.{is_line_char}
use Rattle.lex_pieces.specs.Places.{bytes}
use Rattle.print_writers.specs.Pages.{Page, Marks}
use Rattle.print_writers.specs.Views.{first_marks}
use Rattle.print_pages_spec.specs.Pieces.{Piece, Line, Mark, resolved, shortened}
use Rattle.print_layout_spec.specs.Looks.{Laid, nothing, one, hashbang_comment, listed, texts_of, texts_before}
use Rattle.print_pages_spec.specs.Lines.Lines.{place_of}
use Rattle.print_pages_spec.specs.Lines.Laws.{ends_with_cr}
use Rattle.again_laws.proofs.tokens.Ascii.{ascii}
use Rattle.again_laws.specs.Tiling.Categories.{Fresh, Shut}
use Rattle.again_laws.specs.Tiling.Tiles.{SaysTiles, IsEmptyPage, IsHashbangText, IsSilent}
use Rattle.again_laws.proofs.tiling.Items.{Item, Plain, items, spread, listed_items, goes_items, GoesAll}
use Rattle.again_laws.proofs.tiling.Pen.{pen, after_text, wrote}
use Rattle.again_laws.proofs.tiling.DroppedSemicolons.{settled, short_settled, goes_settled}
use Rattle.again_laws.proofs.tiling.Texts.{lines_of, out_text, short_text, led, behind_hashbang, marked_settled, formatted_tiles, minified_tiles, formatted_behind, minified_behind, formatted_text, minified_text}
use Rattle.again_laws.proofs.tiling.Tiling.{AllPlaced}
use Rattle.again_laws.specs.Text.PlacedLaws.{BeginsMarks, HasPair, SaysPlaced, NamesArePlaced, NamesBehindHashbangs}
use Rattle.again_laws.proofs.text.NoCrAtEnd.{each_keeps}
use Rattle.again_laws.proofs.text.MarksReached.{Kept, kept_mark}
use Rattle.again_laws.proofs.text.NamesByPlace.{naming_of}
use Rattle.again_laws.proofs.text.MarksByPen.{noted_mark, notes, notes_made}
use Rattle.again_laws.proofs.text.NamesAtMarks.{IsPair, standing, texts_stand, closed_uncut}

-- ---- a page

first_kept : (pairs : List (BytePos × LineCol)) (ys : List ℕ) → Kept (first_marks pairs) [] ys
first_kept pairs ys = record { reached = λ at e. (let k : record { line = 0; col = 0 } ≡ at = cc in sym k); here = tt }

-- the pairs of a page in the end
has_pair : (start : ℕ) (p : Page) (last : Marks) → p.marks ≡ Some last → (pos at : ℕ) → IsPair start (chars p.out) last pos at → HasPair start p pos at
has_pair start p last is pos at h m end e r n =
    let same : last ≡ m = let k : Some last ≡ Some m = sym is ∙ e in cc in
    subst (λ (x : Marks). x.reached ≡ Some end → Contains x.pairs (record { 0 = pos }, place_of (chars p.out) (at - start))) same (λ f. h end f n) r

says_placed : (start : ℕ) (modules : Bool) (f : Laid) (p : Page) (last : Marks) → p.marks ≡ Some last → SaysTiles (IsPair start (chars p.out) last) start modules f (chars p.out) → SaysPlaced start modules f p
says_placed start modules f p last is t =
    let x = naming_of _ start modules f (chars p.out) t in
    record { naming = x.naming; tiles = x.tiles; pairs = λ pos at h. has_pair start p last is pos at (x.tells pos at h) }

-- ---- a layout alone

module _ (start : ℕ) (p : Page) (m : IsEmptyPage p) (b : BeginsMarks p) where
  items_stand : (xs : List Item) → GoesAll xs Fresh → (text : List ℕ) → text ≡ chars (wrote (spread xs) (pen p))
      → AllPlaced (IsPair start text (notes (spread xs) (pen p) (first_marks b.0))) (start + bytes text) xs (pen p)
  items_stand xs g text e =
      standing start text (notes (spread xs) (pen p) (first_marks b.0)) xs (pen p) Fresh (first_marks b.0) [] (lines_of p m) g (λ _. refl) e (first_kept b.0 (chars (wrote (spread xs) (pen p)))) refl

  placed_as : (f : Laid) (xs : List Item) → GoesAll xs Fresh → (r : Page) → r.out ≡ wrote (spread xs) (pen p) → r.marks ≡ Some (notes (spread xs) (pen p) (first_marks b.0))
      → AllPlaced (IsPair start (chars r.out) (notes (spread xs) (pen p) (first_marks b.0))) (start + bytes (chars (wrote (spread xs) (pen p)))) xs (pen p)
  placed_as f xs g r e k =
      subst (λ (n : ℕ). AllPlaced (IsPair start (chars r.out) (notes (spread xs) (pen p) (first_marks b.0))) n xs (pen p)) (ap (λ (o : List ℕ). start + bytes (chars o)) e) (items_stand xs g (chars r.out) (ap chars e))

pub names_are_placed : NamesArePlaced
names_are_placed start modules f p m b g =
    let xs : List Item = items f [] in
    let short : List Item = settled xs in
    let all = goes_items f Fresh [] g in
    let p1 : Page = resolved (listed f []) p in
    let p2 : Page = shortened (listed f []) p in
    let last1 : Marks = notes (spread xs) (pen p) (first_marks b.0) in
    let last2 : Marks = notes (spread short) (pen p) (first_marks b.0) in
    let out1 : p1.out ≡ wrote (spread xs) (pen p) = ap (λ (ys : List Piece). (resolved ys p).out) (listed_items f []) ∙ out_text (spread xs) p m.nothing in
    let out2 : p2.out ≡ wrote (spread short) (pen p) = ap (λ (ys : List Piece). (shortened ys p).out) (listed_items f []) ∙ short_text xs p m.nothing in
    let marks1 : p1.marks ≡ Some last1 = ap (λ (ys : List Piece). (resolved ys p).marks) (listed_items f []) ∙ notes_made (spread xs) p (first_marks b.0) b.1 in
    let marks2 : p2.marks ≡ Some last2 =
    ap (λ (ys : List Piece). (shortened ys p).marks) (listed_items f []) ∙ (ap (λ (q : Page). q.marks) (short_settled xs p) ∙ notes_made (spread short) p (first_marks b.0) b.1) in (
      says_placed start modules f p1 last1 marks1 (formatted_tiles (IsPair start (chars p1.out) last1) start modules f p m g (placed_as start p m b f xs all p1 out1 marks1)),
      says_placed start modules f p2 last2 marks2 (minified_tiles (IsPair start (chars p2.out) last2) start modules f p m g (placed_as start p m b f short (goes_settled xs Fresh all) p2 out2 marks2)),
    )

-- ---- behind a hashbang

line_no_cr : is_line_char 13 ≡ false
line_no_cr = refl

-- the marks of a page before the hashbang
abbrev marked_first : Laid → Page → Marks → Marks
marked_first nothing p m = m
marked_first (one (Mark pos)) p m = noted_mark pos (pen p) m
marked_first _ p m = m

first_kept_behind : (mark : Laid) (p : Page) (pairs : List (BytePos × LineCol)) (ys : List ℕ) → Kept (marked_first mark p (first_marks pairs)) [] ys
first_kept_behind nothing p pairs ys = first_kept pairs ys
first_kept_behind (one (Mark pos)) p pairs ys = kept_mark pos (pen p) (first_marks pairs) [] ys (first_kept pairs ys)
first_kept_behind _ p pairs ys = first_kept pairs ys

marked_notes : (mark : Laid) → IsSilent mark → (xs : List Item) (p : Page) (m : Marks) → notes (spread (items mark xs)) (pen p) m ≡ notes (spread xs) (pen p) (marked_first mark p m)
marked_notes nothing s xs p m = refl
marked_notes (one (Mark pos)) s xs p m = refl
marked_notes _ s xs p m = absurd s

module _ (start : ℕ) (mark : Laid) (own : List ℕ) (p : Page) (m : IsEmptyPage p) (b : BeginsMarks p) (h : IsHashbangText own) where
  -- the marks in the end
  abbrev last_behind : List Item → Marks
  last_behind xs = notes (spread (led own xs)) (pen p) (marked_first mark p (first_marks b.0))

  behind_stand : (xs : List Item) → GoesAll xs Fresh → (r : Page) → r.out ≡ wrote (spread (led own xs)) (pen p)
      → AllPlaced (IsPair start (chars r.out) (last_behind xs)) (start + bytes (chars (wrote (spread (led own xs)) (pen p)))) (led own xs) (pen p)
  behind_stand xs g r e =
      let sign = ascii (codes "#!") refl in
      let closed : ends_with_cr (chars own) ≡ false = ap ends_with_cr (sym (append-nil (chars own))) ∙ each_keeps is_line_char line_no_cr (chars own) [] h.line refl in
      let all : GoesAll (Plain Line ∷ xs) Shut = g in
      subst (λ (n : ℕ). AllPlaced (IsPair start (chars r.out) (last_behind xs)) n (led own xs) (pen p)) (ap (λ (o : List ℕ). start + bytes (chars o)) e)
      (texts_stand start (chars r.out) (last_behind xs) (texts_of (hashbang_comment own)) (Plain Line ∷ xs) (standing start (chars r.out) (last_behind xs) (Plain Line ∷ xs)) (pen p) Shut
      (marked_first mark p (first_marks b.0)) [] (lines_of p m)
      (sign.utf8, closed_uncut (chars (codes "#!")) (chars (wrote (texts_before (own ∷ []) (spread (Plain Line ∷ xs))) (after_text (codes "#!") (pen p)))) (ap ends_with_cr sign.same), (h.utf8, closed_uncut (chars own) (chars (wrote (spread (Plain Line ∷ xs)) (after_text own (after_text (codes "#!") (pen p))))) closed, tt)) all (λ t. absurd (running own t)) (ap chars e)
      (first_kept_behind mark p b.0 (chars (wrote (spread (led own xs)) (pen p)))) refl)
    where
      running : (own : List ℕ) → (after_text own (after_text (codes "#!") (pen p))).at_start ≡ true → ⊥
      running [] t = false≢true t
      running (c ∷ cs) t = false≢true t

pub names_behind_hashbangs : NamesBehindHashbangs
names_behind_hashbangs start modules mark own f p m b s h g =
    let xs : List Item = items f [] in
    let short : List Item = settled xs in
    let all = goes_items f Fresh [] g in
    let whole : Laid = behind_hashbang mark own f in
    let p1 : Page = resolved (listed whole []) p in
    let p2 : Page = shortened (listed whole []) p in
    let out1 : p1.out ≡ wrote (spread (led own xs)) (pen p) = formatted_text mark own f p m s in
    let out2 : p2.out ≡ wrote (spread (led own short)) (pen p) = minified_text mark own f p m s in
    let marks1 : p1.marks ≡ Some (last_behind start mark own p m b h xs) =
    ap (λ (ys : List Piece). (resolved ys p).marks) (listed_items whole []) ∙ (notes_made (spread (items mark (led own xs))) p (first_marks b.0) b.1 ∙ ap (λ (n : Marks). Some n) (marked_notes mark s (led own xs) p (first_marks b.0))) in
    let marks2 : p2.marks ≡ Some (last_behind start mark own p m b h short) =
    ap (λ (ys : List Piece). (shortened ys p).marks) (listed_items whole [])
    ∙ (ap (λ (q : Page). q.marks) (short_settled (items mark (led own xs)) p)
    ∙ (ap (λ (ys : List Item). (resolved (spread ys) p).marks) (marked_settled mark s (led own xs))
    ∙ (notes_made (spread (items mark (led own short))) p (first_marks b.0) b.1 ∙ ap (λ (n : Marks). Some n) (marked_notes mark s (led own short) p (first_marks b.0))))) in (
      says_placed start modules whole p1 _ marks1 (formatted_behind (IsPair start (chars p1.out) (last_behind start mark own p m b h xs)) start modules mark own f p m s h g (behind_stand start mark own p m b h xs all p1 out1)),
      says_placed start modules whole p2 _ marks2
          (minified_behind (IsPair start (chars p2.out) (last_behind start mark own p m b h short)) start modules mark own f p m s h g (behind_stand start mark own p m b h short (goes_settled xs Fresh all) p2 out2)),
    )
