-- The text of a layout is tiled by tokens that it says: formatted and minified, alone and behind a hashbang.
use Rattle.std.proofs.Common.{◌≡◌, ℕ, ◌+◌, ◌⊎◌, inl, inr, Bool, true, false, List, [], ◌∷◌, ◌++◌, length, refl, sym, ap, subst, ◌∙◌, arith}
use Rattle.std.specs.Prelude.{codes, if◌then◌else◌}
use Rattle.std.specs.Str.{chars, IsUtf8}
use Rattle.std.proofs.lemmas.Bool.{false≢true}
use Rattle.std.proofs.lemmas.List.{append-nil}
use Rattle.std.proofs.lemmas.Str.{chars-append, encodes-chars}
use Rattle.lex_pieces.specs.Characters.{is_white_space}
use Rattle.lex_pieces.specs.Classes.{is_line_char}
use Rattle.lex_pieces.specs.Places.{bytes}
use Rattle.lex_pieces.specs.Runs.{Each, Ends}
use Rattle.lex_pieces.specs.Trivia.{NoHashbang}
use Rattle.lex_step_laws.specs.States.{shebang, place, spot_at}
use Rattle.lex_run_laws.proofs.Owns.{bytes_append}
use Rattle.grammar_spec.specs.Tokens.Input.{PlacedToken, Input, div_goal, no_context}
use Rattle.grammar_text_spec.specs.Tiled.{Tile, whole}
use Rattle.print_writers.specs.Pages.{Page, times}
use Rattle.print_pages_spec.specs.Pieces.{Piece, Line, Mark, resolved, shortened}
use Rattle.print_layout_spec.specs.Looks.{Laid, nothing, one, meant, hashbang_comment, ◌·◌, line_always, listed, joined, texts_of}
use Rattle.again_laws.specs.Tokens.Spacings.{Spacing, Touching, Spaced, Broken}
use Rattle.again_laws.specs.Tokens.Says.{Says, IsHashbangSaid, hashbang_token}
use Rattle.again_laws.proofs.tokens.Ascii.{ascii}
use Rattle.again_laws.specs.Tiling.Categories.{Fresh, Shut, is_open}
use Rattle.again_laws.specs.Tiling.Goes.{GoesWhole}
use Rattle.again_laws.specs.Tiling.Tiles.{AllHaveGoals, SaysTiles, anywhere, IsEmptyPage, IsHashbangText, IsSilent}
use Rattle.again_laws.specs.Tiling.Laws.{LayoutsAreTiled, HashbangsAreTiled}
use Rattle.again_laws.proofs.tiling.Pen.{Pen, pen, lead, after_text, next, wrote, out_wrote}
use Rattle.again_laws.proofs.tiling.Gaps.{Blankness, White, Feed, Return, chars_of, gap_before, is_end_of_line, breaks_line, AreBlank}
use Rattle.again_laws.proofs.tiling.Items.{Item, Plain, Meant, Named, items, spread, listed_items, goes_items, GoesAll, SaysAll, says_of}
use Rattle.again_laws.proofs.tiling.BetweenTexts.{Lines, wrote_texts, after_texts, after_joined, next_lines, gap_append}
use Rattle.again_laws.proofs.tiling.Tiling.{AllPlaced, Tiled, tiled, line_more, text_more}
use Rattle.again_laws.proofs.tiling.DroppedSemicolons.{settled, short_settled, goes_settled, says_settled}
use Rattle.again_laws.proofs.tiling.NoHashbang.{no_hashbang}

-- ---- an empty page

whites : List ℕ → List Blankness
whites [] = []
whites (c ∷ cs) = White c ∷ whites cs

whites_are : (cs : List ℕ) → Each is_white_space cs → AreBlank (whites cs) × (breaks_line (whites cs) ≡ false) × (cs ≡ gap_before (whites cs) [])
unfolding whites
whites_are [] h = (tt, refl, refl)
whites_are (c ∷ cs) h = let m = whites_are cs h.1 in ((h.0, m.0), m.1, ap (λ (l : List ℕ). c ∷ l) m.2)

record Ending (bytes : List ℕ) : Type 0 where
  utf8 : IsUtf8 bytes
  line : Blankness
  ends : is_end_of_line line ≡ true
  same : chars bytes ≡ chars_of line []

ending_of : (bytes : List ℕ) → (bytes ≡ codes "\n") ⊎ (bytes ≡ codes "\r\n") → Ending bytes
ending_of bytes (inl e) = let a = ascii (codes "\n") refl in subst (λ (l : List ℕ). Ending l) (sym e) (record { utf8 = a.utf8; line = Feed; ends = refl; same = a.same })
ending_of bytes (inr e) = let a = ascii (codes "\r\n") refl in subst (λ (l : List ℕ). Ending l) (sym e) (record { utf8 = a.utf8; line = Return; ends = refl; same = a.same })

pub lines_of : (p : Page) → IsEmptyPage p → Lines (pen p)
lines_of p m =
    let e = ending_of p.line_end m.ends in
    let w = whites_are (chars p.indent) m.white in record {
      line_utf8 = e.utf8;
      line = e.line;
      line_ends = e.ends;
      line_chars = e.same;
      indent_utf8 = m.utf8;
      indents = whites (chars p.indent);
      indents_blank = w.0;
      indents_flat = w.1;
      indent_chars = w.2;
    }

pub out_text : (xs : List Piece) (p : Page) → p.out ≡ [] → (resolved xs p).out ≡ wrote xs (pen p)
out_text xs p e = out_wrote xs p ∙ ap (λ (o : List ℕ). o ++ wrote xs (pen p)) e

pub short_text : (xs : List Item) (p : Page) → p.out ≡ [] → (shortened (spread xs) p).out ≡ wrote (spread (settled xs)) (pen p)
short_text xs p e = ap (λ (q : Page). q.out) (short_settled xs p) ∙ out_text (spread (settled xs)) p e

-- ---- a layout alone

items_tiled : (N : ℕ → ℕ → Type 0) (start : ℕ) (modules : Bool) (xs : List Item) (p : Page) → IsEmptyPage p → AllPlaced N (start + bytes (chars (wrote (spread xs) (pen p)))) xs (pen p) → GoesAll xs Fresh
    → (cs : List ℕ) → cs ≡ chars (wrote (spread xs) (pen p)) → Tiled (whole modules) (start + bytes cs) N xs cs true Spaced start
items_tiled N start modules xs p m n g cs e = subst (λ (t : List ℕ). Tiled (whole modules) (start + bytes t) N xs t true Spaced start) (sym e)
    (tiled (whole modules) (start + bytes (chars (wrote (spread xs) (pen p)))) N xs (pen p) Fresh [] true Spaced start (lines_of p m) n g
    (record { st = record { blank = tt; fresh = λ _. refl; tight = λ f. absurd cc; tighter = λ f. absurd cc; broke = refl; touching = λ f. absurd cc }; starts = λ _. refl; apart = λ f. absurd cc })
    refl)

says_tiles : (N : ℕ → ℕ → Type 0) (start : ℕ) (modules : Bool) (f : Laid) (p : Page) → IsEmptyPage p → GoesWhole f → (xs : List Item) → AllPlaced N (start + bytes (chars (wrote (spread xs) (pen p)))) xs (pen p)
    → GoesAll xs Fresh → ((ts r : Input) (b : Spacing) → r.places ≡ [] → SaysAll N xs Spaced ts b r → SaysAll N (items f []) Spaced ts b r) → (cs : List ℕ) → cs ≡ chars (wrote (spread xs) (pen p))
    → SaysTiles N start modules f cs
says_tiles N start modules f p m g xs n all back cs e =
    let t = items_tiled N start modules xs p m n all cs e in
    let s = says_of N f Fresh (λ s. is_open s ≡ true) [] Spaced t.gap (record { last = start; places = t.places }) t.over g (back _ _ _ t.all t.says) in record {
      places = t.places;
      tiles = inl (subst NoHashbang (sym e) (no_hashbang xs (pen p) (lines_of p m) m.starts all), t.tiles);
      goals = t.goals;
      gap = s.0;
      over = s.1;
      says = s.2;
      all = ap (λ (r : Input). r.places) s.3.1 ∙ t.all;
    }

-- Where N holds of the names of the items that are written, so it does of those that are said: formatted,
pub formatted_tiles : (N : ℕ → ℕ → Type 0) (start : ℕ) (modules : Bool) (f : Laid) (p : Page) → IsEmptyPage p → GoesWhole f → AllPlaced N (start + bytes (chars (wrote (spread (items f [])) (pen p)))) (items f []) (pen p)
    → SaysTiles N start modules f (chars (resolved (listed f []) p).out)
formatted_tiles N start modules f p m g n =
    let xs : List Item = items f [] in
    says_tiles N start modules f p m g xs n (goes_items f Fresh [] g) (λ ts r b a h. h) _ (ap chars (ap (λ ys. (resolved ys p).out) (listed_items f []) ∙ out_text (spread xs) p m.nothing))

-- and minified.
pub minified_tiles : (N : ℕ → ℕ → Type 0) (start : ℕ) (modules : Bool) (f : Laid) (p : Page) → IsEmptyPage p → GoesWhole f
    → AllPlaced N (start + bytes (chars (wrote (spread (settled (items f []))) (pen p)))) (settled (items f [])) (pen p) → SaysTiles N start modules f (chars (shortened (listed f []) p).out)
minified_tiles N start modules f p m g n =
    let xs : List Item = items f [] in
    let all = goes_items f Fresh [] g in
    says_tiles N start modules f p m g (settled xs) n (goes_settled xs Fresh all) (λ ts r b a h. says_settled N xs Fresh Spaced b ts r all a h) _
    (ap chars (ap (λ ys. (shortened ys p).out) (listed_items f []) ∙ short_text xs p m.nothing))

-- ---- names that may stand anywhere

pub all_anywhere : (end : ℕ) (xs : List Item) (q : Pen) → AllPlaced anywhere end xs q
all_anywhere end [] q = tt
all_anywhere end (Plain x ∷ xs) q = all_anywhere end xs (next x q)
all_anywhere end (Meant m ∷ xs) q = all_anywhere end xs (after_texts (texts_of m) q)
all_anywhere end (Named pos own ∷ xs) q = (tt, all_anywhere end xs (after_text own q))

pub layouts_are_tiled : LayoutsAreTiled
layouts_are_tiled start modules f p m g =
    let xs : List Item = items f [] in (
      formatted_tiles anywhere start modules f p m g (all_anywhere (start + bytes (chars (wrote (spread xs) (pen p)))) xs (pen p)),
      minified_tiles anywhere start modules f p m g (all_anywhere (start + bytes (chars (wrote (spread (settled xs)) (pen p)))) (settled xs) (pen p)),
    )

-- ---- behind a hashbang

-- the items of a hashbang on its line, and those behind it
abbrev pub led : List ℕ → List Item → List Item
led own xs = Meant (hashbang_comment own) ∷ Plain Line ∷ xs

record Hashed (N : ℕ → ℕ → Type 0) (start : ℕ) (modules : Bool) (own : List ℕ) (xs : List Item) (text : List ℕ) : Type 0 where
  places : List PlacedToken
  tiles : Tile start modules text places
  goals : AllHaveGoals places
  middle : Input
  said : IsHashbangSaid own Spaced (record { last = start; places = places }) Touching middle
  gap : Spacing
  over : Input
  says : SaysAll N xs Broken middle gap over
  all : over.places ≡ []

no_lead : (q : Pen) → q.depth ≡ 0 → lead q ≡ []
no_lead q e = at q.at_start (times q.depth q.indent) (ap (λ n. times n q.indent) e)
  where
    at : (b : Bool) (xs : List ℕ) → xs ≡ [] → (if b then xs else []) ≡ []
    at true xs e = e
    at false xs e = refl

-- the pen at the end of the hashbang's text
abbrev behind_hash : List ℕ → Pen → Pen
behind_hash own q = after_text (joined (texts_of (hashbang_comment own))) q

hash_text : (own : List ℕ) (xs : List Item) (q : Pen) → q.depth ≡ 0 → wrote (spread (led own xs)) q ≡ 35 ∷ 33 ∷ (own ++ (q.line_end ++ wrote (spread xs) (next Line (behind_hash own q))))
hash_text own xs q e =
    wrote_texts (texts_of (hashbang_comment own)) (Line ∷ spread xs) q
    ∙ (ap (λ (l : List ℕ). (l ++ (35 ∷ 33 ∷ (own ++ []))) ++ (q.line_end ++ wrote (spread xs) (next Line (behind_hash own q)))) (no_lead q e)
    ∙ ap (λ (l : List ℕ). 35 ∷ 33 ∷ (l ++ (q.line_end ++ wrote (spread xs) (next Line (behind_hash own q))))) (append-nil own))

-- A line ends behind the hashbang.
line_left : (q : Pen) (w : List ℕ) (l : Lines q) → Ends is_line_char (gap_before (l.line ∷ []) (chars w))
line_left q w l = by l.line l.line_ends
  where
    by : (u : Blankness) → is_end_of_line u ≡ true → Ends is_line_char (gap_before (u ∷ []) (chars w))
    by (White c) e = absurd (false≢true e)
    by Feed e = refl
    by Return e = refl

line_chars : (q : Pen) (w : List ℕ) (l : Lines q) → chars (q.line_end ++ w) ≡ gap_before (l.line ∷ []) (chars w)
line_chars q w l = chars-append q.line_end w l.line_utf8 ∙ (ap (λ (o : List ℕ). o ++ chars w) l.line_chars ∙ gap_append (l.line ∷ []) [] (chars w))

hashed : (N : ℕ → ℕ → Type 0) (start : ℕ) (modules : Bool) (own : List ℕ) (xs : List Item) (p : Page) → IsEmptyPage p → IsHashbangText own
    → AllPlaced N (start + bytes (chars (wrote (spread (led own xs)) (pen p)))) (led own xs) (pen p) → GoesAll xs Fresh → Hashed N start modules own xs (chars (wrote (spread (led own xs)) (pen p)))
hashed N start modules own xs p m h n g =
    let q : Pen = pen p in
    let l = lines_of p m in
    let w : List ℕ = wrote (spread xs) (next Line (behind_hash own q)) in
    let after : List ℕ = gap_before (l.line ∷ []) (chars w) in
    let mark = ascii (codes "#!") refl in
    let text : List ℕ = 35 ∷ 33 ∷ (chars own ++ after) in
    let same : chars (wrote (spread (led own xs)) q) ≡ text =
    ap chars (hash_text own xs q m.level)
    ∙ (chars-append (codes "#!") (own ++ (q.line_end ++ w)) mark.utf8
    ∙ (ap (λ (o : List ℕ). o ++ chars (own ++ (q.line_end ++ w))) mark.same
    ∙ ap (λ (o : List ℕ). 35 ∷ 33 ∷ o) (chars-append own (q.line_end ++ w) h.utf8 ∙ ap (λ (o : List ℕ). chars own ++ o) (line_chars q w l)))) in
    let end : ℕ = start + bytes text in
    let two : bytes (35 ∷ 33 ∷ []) ≡ 2 = ap bytes (sym mark.same) ∙ ap length (encodes-chars (codes "#!") mark.utf8) in
    let inner : bytes (chars own ++ after) ≡ length own + bytes after = bytes_append (chars own) after ∙ ap (λ n. n + bytes after) (ap length (encodes-chars own h.utf8)) in
    let sum : bytes text ≡ bytes (35 ∷ 33 ∷ []) + bytes (chars own ++ after) = bytes_append (35 ∷ 33 ∷ []) (chars own ++ after) in
    let size : bytes text ≡ 2 + (length own + bytes after) = omega (arith, two, inner, sum) in
    let lo : place end text ≡ start = omega arith in
    let hi : place end after ≡ start + (length own + 2) = omega (arith, size) in
    let on : place end after + bytes after ≡ end = omega (arith, size) in
    let first : PlacedToken = record { spot = spot_at end false (shebang (chars own)).token text after; escaped = false; goal = div_goal; context = no_context } in
    let ran : Pen = behind_hash own q in
    let k : Lines ran = record { line_utf8 = l.line_utf8; line = l.line; line_ends = l.line_ends; line_chars = l.line_chars; indent_utf8 = l.indent_utf8; indents = l.indents; indents_blank = l.indents_blank; indents_flat = l.indents_flat; indent_chars = l.indent_chars } in
    let placed : AllPlaced N end xs (next Line ran) =
    subst (λ (r : Pen). AllPlaced N end xs (next Line r)) (after_joined (texts_of (hashbang_comment own)) q) (subst (λ (c : List ℕ). AllPlaced N (start + bytes c) xs (next Line (after_texts (texts_of (hashbang_comment own)) q))) same n) in
    let t = tiled (whole modules) end N xs (next Line ran) Fresh (l.line ∷ []) false Broken (place end after) (next_lines Line ran k) placed g
    (line_more (whole modules) end N ran Shut [] false Touching k refl (text_more (whole modules) end N ran Shut refl)) on in
    subst (λ (c : List ℕ). Hashed N start modules own xs c) (sym same) (record {
      places = first ∷ t.places;
      tiles = inr (after, (chars own, (chars own ++ after, refl, (refl, h.line, line_left q w l)), refl, refl), t.tiles);
      goals = (inl refl, t.goals);
      middle = record { last = place end after; places = t.places };
      said = record {
        first = record {
          place = first;
          whole = refl;
          token_is = ap hashbang_token (encodes-chars own h.utf8);
          escaped_is = refl;
          broke = refl;
          begins = omega (arith, lo);
          ends = hi ∙ ap (λ n. n + (length own + 2)) (sym lo);
          last = refl;
        };
        behind = refl;
      };
      gap = t.gap;
      over = t.over;
      says = t.says;
      all = t.all;
    })

-- a mark before it changes nothing

pub marked_text : (mark : Laid) → IsSilent mark → (xs : List Item) (q : Pen) → wrote (spread (items mark xs)) q ≡ wrote (spread xs) q
marked_text nothing s xs q = refl
marked_text (one (Mark pos)) s xs q = refl
marked_text _ s xs q = absurd s

pub marked_settled : (mark : Laid) → IsSilent mark → (xs : List Item) → settled (items mark xs) ≡ items mark (settled xs)
marked_settled nothing s xs = refl
marked_settled (one (Mark pos)) s xs = refl
marked_settled _ s xs = absurd s

marked_says : (N : ℕ → ℕ → Type 0) (mark : Laid) → IsSilent mark → (a : Spacing) (ts : Input) → Says N mark a ts a ts
marked_says N nothing s a ts = (refl, refl)
marked_says N (one (Mark pos)) s a ts = (refl, refl)
marked_says N _ s a ts = absurd s

-- a layout behind a hashbang on its line
abbrev pub behind_hashbang : Laid → List ℕ → Laid → Laid
behind_hashbang mark own f = mark · (meant (hashbang_comment own) · line_always) · f

-- what is written of it, formatted and minified
pub formatted_text : (mark : Laid) (own : List ℕ) (f : Laid) (p : Page) → IsEmptyPage p → IsSilent mark → (resolved (listed (behind_hashbang mark own f) []) p).out ≡ wrote (spread (led own (items f []))) (pen p)
formatted_text mark own f p m i =
    ap (λ ys. (resolved ys p).out) (listed_items (behind_hashbang mark own f) []) ∙ (out_text (spread (items mark (led own (items f [])))) p m.nothing ∙ marked_text mark i (led own (items f [])) (pen p))

pub minified_text : (mark : Laid) (own : List ℕ) (f : Laid) (p : Page) → IsEmptyPage p → IsSilent mark
    → (shortened (listed (behind_hashbang mark own f) []) p).out ≡ wrote (spread (led own (settled (items f [])))) (pen p)
minified_text mark own f p m i =
    let xs : List Item = led own (items f []) in
    ap (λ ys. (shortened ys p).out) (listed_items (behind_hashbang mark own f) [])
    ∙ (short_text (items mark xs) p m.nothing ∙ (ap (λ (ys : List Item). wrote (spread ys) (pen p)) (marked_settled mark i xs) ∙ marked_text mark i (led own (settled (items f []))) (pen p)))

hashbang_tiles : (N : ℕ → ℕ → Type 0) (start : ℕ) (modules : Bool) (mark : Laid) (own : List ℕ) (f : Laid) → IsSilent mark → GoesWhole f → (xs : List Item)
    → ((ts r : Input) (b : Spacing) → r.places ≡ [] → SaysAll N xs Broken ts b r → SaysAll N (items f []) Broken ts b r) → (cs : List ℕ) → Hashed N start modules own xs cs
    → SaysTiles N start modules (behind_hashbang mark own f) cs
hashbang_tiles N start modules mark own f i g xs back cs h =
    let s = says_of N f Fresh (λ s. is_open s ≡ true) [] Broken h.gap h.middle h.over g (back _ _ _ h.all h.says) in record {
      places = h.places;
      tiles = h.tiles;
      goals = h.goals;
      gap = s.0;
      over = s.1;
      says = (Spaced, record { last = start; places = h.places }, marked_says N mark i Spaced _, (Broken, h.middle, (Touching, h.middle, h.said, (inl refl, refl)), s.2));
      all = ap (λ (r : Input). r.places) s.3.1 ∙ h.all;
    }

-- the same behind a hashbang
pub formatted_behind : (N : ℕ → ℕ → Type 0) (start : ℕ) (modules : Bool) (mark : Laid) (own : List ℕ) (f : Laid) (p : Page) → IsEmptyPage p → IsSilent mark → IsHashbangText own → GoesWhole f
    → AllPlaced N (start + bytes (chars (wrote (spread (led own (items f []))) (pen p)))) (led own (items f [])) (pen p)
    → SaysTiles N start modules (behind_hashbang mark own f) (chars (resolved (listed (behind_hashbang mark own f) []) p).out)
formatted_behind N start modules mark own f p m i h g n =
    let xs : List Item = items f [] in
    hashbang_tiles N start modules mark own f i g xs (λ ts r b a k. k) _
    (subst (λ (c : List ℕ). Hashed N start modules own xs c) (sym (ap chars (formatted_text mark own f p m i))) (hashed N start modules own xs p m h n (goes_items f Fresh [] g)))

pub minified_behind : (N : ℕ → ℕ → Type 0) (start : ℕ) (modules : Bool) (mark : Laid) (own : List ℕ) (f : Laid) (p : Page) → IsEmptyPage p → IsSilent mark → IsHashbangText own → GoesWhole f
    → AllPlaced N (start + bytes (chars (wrote (spread (led own (settled (items f [])))) (pen p)))) (led own (settled (items f []))) (pen p)
    → SaysTiles N start modules (behind_hashbang mark own f) (chars (shortened (listed (behind_hashbang mark own f) []) p).out)
minified_behind N start modules mark own f p m i h g n =
    let xs : List Item = items f [] in
    let all = goes_items f Fresh [] g in
    hashbang_tiles N start modules mark own f i g (settled xs) (λ ts r b a k. says_settled N xs Fresh Broken b ts r all a k) _
    (subst (λ (c : List ℕ). Hashed N start modules own (settled xs) c) (sym (ap chars (minified_text mark own f p m i))) (hashed N start modules own (settled xs) p m h n (goes_settled xs Fresh all)))

pub hashbangs_are_tiled : HashbangsAreTiled
hashbangs_are_tiled start modules mark own f p m i h g =
    let xs : List Item = led own (items f []) in
    let short : List Item = led own (settled (items f [])) in (
      formatted_behind anywhere start modules mark own f p m i h g (all_anywhere (start + bytes (chars (wrote (spread xs) (pen p)))) xs (pen p)),
      minified_behind anywhere start modules mark own f p m i h g (all_anywhere (start + bytes (chars (wrote (spread short) (pen p)))) short (pen p)),
    )
