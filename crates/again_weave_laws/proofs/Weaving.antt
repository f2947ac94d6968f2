-- What a layout says of a text it tells of the text with other trivia between its tokens.
use Rattle.std.proofs.Common.{◌≡◌, ℕ, ◌+◌, ◌≤◌, inl, inr, Bool, true, false, List, [], ◌∷◌, ◌++◌, length, append_assoc, Option, Some, None, refl, sym, ap, ◌∙◌, arith}
use Rattle.std.specs.Prelude.{if◌then◌else◌}
use Rattle.std.proofs.lemmas.Bool.{false≢true}
use Rattle.base_token.specs.Kinds.{end_kind, hash_kind, shebang_kind}
use Rattle.lex_pieces.specs.Places.{bytes}
use Rattle.lex_pieces.specs.Trivia.{NoHashbang, spelled}
use Rattle.lex_step_laws.specs.States.{place}
use Rattle.lex_run_laws.proofs.Owns.{bytes_append}
use Rattle.grammar_spec.specs.Tokens.Input.{PlacedToken, Input}
use Rattle.grammar_text_spec.specs.Tiled.{whole}
use Rattle.print_layout_spec.specs.Looks.{Laid}
use Rattle.print_weave_laws.specs.Gaps.{Trivium, White, Feed, Return, Block, Line, gap_before, breaks_line}
use Rattle.print_weave_laws.specs.Cells.{Cell, text_of, AllMayStand, at_front, with_gap, woven}
use Rattle.print_weave_laws.proofs.Kept.{front_kept}
use Rattle.print_weave_laws.proofs.Inserting.{text_keeps, tokens_stay}
use Rattle.print_weave_laws.proofs.Placing.{unequal}
use Rattle.again_laws.specs.Laws.{TellsTiles, kinds_alone}
use Rattle.again_laws.specs.Tokens.Spacings.{Spacing, Spaced, Broken}
use Rattle.again_laws.specs.Tokens.Says.{Says}
use Rattle.again_laws.specs.Tokens.Ties.{is_tied, kind_before}
use Rattle.again_laws.specs.Tiling.Tiles.{SameTokens}
use Rattle.again_laws.proofs.tokens.KindsBefore.{kinds_stand}
use Rattle.again_weave_laws.specs.Cells.{placed, all_placed, hash_placed, led, IsCelled, kind_of, TiesStay, breaks_first, MayBeWoven}
use Rattle.again_weave_laws.proofs.Cells.{text_places, are_tiles, have_goals}
use Rattle.again_weave_laws.proofs.Telling.{IsAlike, Likewise, StandsBefore, likewise_same, likewise_tells}

-- ---- numbers of bytes

gap_split : (us : List Trivium) (cs : List ℕ) → gap_before us cs ≡ gap_before us [] ++ cs
gap_split [] cs = refl
gap_split (White c ∷ us) cs = ap (λ (l : List ℕ). c ∷ l) (gap_split us cs)
gap_split (Feed c ∷ us) cs = ap (λ (l : List ℕ). c ∷ l) (gap_split us cs)
gap_split (Return ∷ us) cs = ap (λ (l : List ℕ). 13 ∷ 10 ∷ l) (gap_split us cs)
gap_split (Block own ∷ us) cs = ap (λ (l : List ℕ). 47 ∷ 42 ∷ l) (ap (λ (l : List ℕ). own ++ 42 ∷ 47 ∷ l) (gap_split us cs) ∙ sym (append_assoc own (42 ∷ 47 ∷ gap_before us []) cs))
gap_split (Line mark own ∷ us) cs =
    ap (λ (l : List ℕ). spelled mark ++ l) (ap (λ (l : List ℕ). own ++ l) (gap_split us cs) ∙ sym (append_assoc own (gap_before us []) cs)) ∙ sym (append_assoc (spelled mark) (own ++ gap_before us []) cs)

bytes_gap : (us : List Trivium) (cs : List ℕ) → bytes (gap_before us cs) ≡ bytes (gap_before us []) + bytes cs
bytes_gap us cs = ap bytes (gap_split us cs) ∙ bytes_append (gap_before us []) cs

-- ---- the same tokens

alike : (free : Bool) (behind last other end over : ℕ) (x : Cell) (us : List Trivium) (r s : List ℕ)
    → (free ≡ false → is_tied behind (kind_of x) ≡ true → breaks_line us ≡ breaks_line x.before) → (behind ≡ hash_kind → us ≡ x.before)
    → last + bytes (gap_before x.before (x.own ++ r)) ≡ end → other + bytes (gap_before us (x.own ++ s)) ≡ over
    → IsAlike free behind last other (placed end x r).spot (placed end x r).escaped (placed over (with_gap x us) s)
alike free behind last other end over x us r s t g e f = record {
  token = refl;
  escaped = refl;
  line = t;
  touches = λ b l.
      let u = g b in
      let p = bytes_gap x.before (x.own ++ r) in
      let q = bytes_gap us (x.own ++ s) in
      let v : bytes (gap_before us []) ≡ bytes (gap_before x.before []) = ap (λ (vs : List Trivium). bytes (gap_before vs [])) u in
      omega (arith, p, q, v, l, e, f);
}

on_end : (last end : ℕ) (us : List Trivium) (own r : List ℕ) → last + bytes (gap_before us (own ++ r)) ≡ end → place end r + bytes r ≡ end
on_end last end us own r e =
    let p = bytes_gap us (own ++ r) in
    let q = bytes_append own r in
    omega (arith, p, q, e)

none_tied : (w : Bool) (b : ℕ) (ys : List Cell) → TiesStay w b ys []
none_tied w b [] = tt
none_tied w b (y ∷ ys) = tt

likewise : (free : Bool) (behind last other end over : ℕ) (xs : List Cell) (gaps : List (List Trivium)) (tail out : List Trivium) → last + bytes (text_of xs tail) ≡ end → other + bytes (text_of (woven xs gaps) out) ≡ over
    → TiesStay free behind xs gaps → Likewise free behind last other (all_placed end xs tail) (all_placed over (woven xs gaps) out)
likewise free behind last other end over [] gaps tail out e f t = tt
likewise free behind last other end over (x ∷ xs) [] tail out e f t = (
  alike free behind last other end over x x.before (text_of xs tail) (text_of (woven xs []) out) (λ _ _. refl) (λ _. refl) e f,
  likewise false (kind_of x) (place end (text_of xs tail)) (place over (text_of (woven xs []) out)) end over xs [] tail out
      (on_end last end x.before x.own (text_of xs tail) e) (on_end other over x.before x.own (text_of (woven xs []) out) f) (none_tied false (kind_of x) xs),
)
likewise free behind last other end over (x ∷ xs) (us ∷ gaps) tail out e f t = (
  alike free behind last other end over x us (text_of xs tail) (text_of (woven xs gaps) out) t.0.line t.0.touches e f,
  likewise false (kind_of x) (place end (text_of xs tail)) (place over (text_of (woven xs gaps) out)) end over xs gaps tail out
      (on_end last end x.before x.own (text_of xs tail) e) (on_end other over us x.own (text_of (woven xs gaps) out) f) t.1,
)

-- ---- the whole

-- no hashbang comes
no_hashbang : (cells : List Cell) (gaps : List (List Trivium)) (tail over : List Trivium) → AllMayStand at_front cells gaps tail over → NoHashbang (text_of cells tail) → NoHashbang (text_of (woven cells gaps) over)
no_hashbang cells gaps tail over m n = λ inner e.
    let z = front_kept (35 ∷ 33 ∷ []) (text_of cells tail) (text_of (woven cells gaps) over) inner (text_keeps at_front cells gaps tail over refl m) refl e in n z.0 z.1

-- where a line ends before the first token, the layout is taken to stand behind one
starting : Bool → Spacing
starting true = Broken
starting false = Spaced

starts_so : (start end : ℕ) (xs : List Cell) (tail : List Trivium) (w : Bool) → breaks_first xs ≡ w → StandsBefore w Spaced (starting w) (record { last = start; places = all_placed end xs tail })
unfolding starting
starts_so start end [] tail true e = absurd (false≢true e)
starts_so start end (x ∷ xs) tail true e = (refl, e)
starts_so start end xs tail false e = refl

-- before them all stands no token
none_before : (ps : List PlacedToken) (n : ℕ) → length ps ≤ n → kind_before ps n ≡ end_kind
none_before [] n l = refl
none_before (p ∷ ps) n l =
    ap (λ (b : Bool). if b then p.spot.token.kind else kind_before ps n) (unequal n (length ps) (inr (omega (arith, l)))) ∙ none_before ps n (omega (arith, l))

on_hashed : (start : ℕ) (own after text : List ℕ) → text ≡ 35 ∷ 33 ∷ (own ++ after) → place (start + bytes text) after + bytes after ≡ start + bytes text
on_hashed start own after text e =
    let a : bytes text ≡ bytes (35 ∷ 33 ∷ (own ++ after)) = ap bytes e in
    let p : bytes (35 ∷ 33 ∷ (own ++ after)) ≡ bytes (35 ∷ 33 ∷ []) + bytes (own ++ after) = bytes_append (35 ∷ 33 ∷ []) (own ++ after) in
    let q = bytes_append own after in
    omega (arith, a, p, q)

module _ (start : ℕ) (modules : Bool) (f : Laid) (text : List ℕ) (N : ℕ → ℕ → Type 0) (ps : List PlacedToken) (gap : Spacing) (r : Input) (says : Says N f Spaced (record { last = start; places = ps }) gap r) (all : r.places ≡ [])
    (cells : List Cell) (tail : List Trivium) (gaps : List (List Trivium)) (over : List Trivium) where
  alone_tells : IsCelled modules None cells tail text → SameTokens ps (text_places (start + bytes text) None cells tail) → MayBeWoven None cells gaps tail over
      → (k : ℕ → ℕ) × TellsTiles (kinds_alone k) start modules f (led None (text_of (woven cells gaps) over))
  alone_tells c same m =
      let ys : List Cell = woven cells gaps in
      let out : List ℕ = text_of ys over in
      let end : ℕ = start + bytes out in
      let qs : List PlacedToken = all_placed end ys over in
      let s = tokens_stay (whole modules) true cells gaps tail over m.stand c.stand in
      let first : Bool = breaks_first ys in (
        kind_before qs,
        record {
          places = qs;
          tiles = inl (no_hashbang cells gaps tail over m.stand c.is_led, are_tiles end (whole modules) true ys over s);
          goals = have_goals end ys over;
          behind = starting first;
          told = likewise_tells (kinds_alone (kind_before qs)) (λ pos at. refl) N f Spaced gap (record { last = start; places = ps }) r says
              first end_kind (starting first) (record { last = start; places = qs }) (starts_so start end ys over first refl)
              (likewise_same first end_kind start start ps (all_placed (start + bytes text) cells tail) qs same
              (likewise first end_kind start start (start + bytes text) end cells gaps tail over (ap (λ (cs : List ℕ). start + bytes cs) (sym c.text_is)) refl m.ties))
              (none_before qs (length qs) (omega arith)) (kinds_stand qs) all;
        },
      )

  hashed_tells : (own : List ℕ) → IsCelled modules (Some own) cells tail text → SameTokens ps (text_places (start + bytes text) (Some own) cells tail) → MayBeWoven (Some own) cells gaps tail over
      → (k : ℕ → ℕ) × TellsTiles (kinds_alone k) start modules f (led (Some own) (text_of (woven cells gaps) over))
  hashed_tells own c same m =
      let ys : List Cell = woven cells gaps in
      let after : List ℕ = text_of ys over in
      let out : List ℕ = 35 ∷ 33 ∷ (own ++ after) in
      let end : ℕ = start + bytes out in
      let qs : List PlacedToken = hash_placed end own after ∷ all_placed end ys over in
      let s = tokens_stay (whole modules) false cells gaps tail over m.stand c.stand in (
        kind_before qs,
        record {
          places = qs;
          tiles = inr (after, (own, (own ++ after, refl, (refl, c.is_led.0, m.line)), refl, refl), are_tiles end (whole modules) false ys over s);
          goals = (inl refl, have_goals end ys over);
          behind = Spaced;
          told = likewise_tells (kinds_alone (kind_before qs)) (λ pos at. refl) N f Spaced gap (record { last = start; places = ps }) r says
              false end_kind Spaced (record { last = start; places = qs }) refl
              (likewise_same false end_kind start start ps (hash_placed (start + bytes text) own (text_of cells tail) ∷ all_placed (start + bytes text) cells tail) qs same (
                record { token = refl; escaped = refl; line = λ _ _. refl; touches = λ b _. absurd (omega (arith, b)) },
                likewise false shebang_kind (place (start + bytes text) (text_of cells tail)) (place end after) (start + bytes text) end cells gaps tail over
                    (on_hashed start own (text_of cells tail) text c.text_is) (on_hashed start own after out refl) m.ties,
              ))
              (none_before qs (length qs) (omega arith)) (kinds_stand qs) all;
        },
      )

  pub woven_tells : (hash : Option (List ℕ)) → IsCelled modules hash cells tail text → SameTokens ps (text_places (start + bytes text) hash cells tail) → MayBeWoven hash cells gaps tail over
      → (k : ℕ → ℕ) × TellsTiles (kinds_alone k) start modules f (led hash (text_of (woven cells gaps) over))
  woven_tells None c same m = alone_tells c same m
  woven_tells (Some own) c same m = hashed_tells own c same m
