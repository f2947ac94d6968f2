-- A piece of a tagged template is read back.
use Rattle.std.proofs.Common.{◌≡◌, ℕ, ◌⊎◌, inl, inr, ⊎_elim, Bool, true, false, List, [], ◌∷◌, ◌++◌, append_assoc, refl, sym, ap, subst, ◌∙◌}
use Rattle.std.specs.Prelude.{◌==◌, ◌||◌}
use Rattle.std.proofs.lemmas.Bool.{cases_Bool, false≢true, eqb-true}
use Rattle.std.proofs.lemmas.List.{append_cancel_right}
use Rattle.lex_pieces.specs.Characters.{is_line_terminator}
use Rattle.lex_pieces.specs.Runs.{Each}
use Rattle.lex_pieces.proofs.ListLemmas.{same_head, same_tail}
use Rattle.lex_pieces.proofs.Passing.{each_append}
use Rattle.lex_literal.specs.declared.escape.Escape.{Escape}
use Rattle.lex_literal.specs.declared.escape.Escape.TheVariants.{Continuation, Code, Legacy}
use Rattle.lex_literal.specs.declared.template.Ending.{Ending}
use Rattle.lex_literal.specs.declared.template.Ending.TheVariants.{BackQuote, Substitution}
use Rattle.lex_literal.specs.Escapes.{begins, is_decimal, is_hex, is_special, is_line_feed, single, IsEscape, IsSingle, IsNul, IsHexEscape, IsUnicodeEscape, IsBraced}
use Rattle.lex_literal.specs.Templates as t
use Rattle.lex_literal.specs.Templates.{Parts, Ends, is_brace}
use Rattle.lex_literal.specs.Units.{is_legacy}
use Rattle.lex_literal.specs.Tagged.{TaggedIsRead}

-- ---- what ends a piece goes on no escape

abbrev pub in_escape : ℕ → Bool
in_escape c = is_hex c || (c == 123 || (c == 125 || c == 10))

record IsEnd (m : List ℕ) : Type 0 where
  digit : begins is_decimal m ≡ false
  brace : begins is_brace m ≡ false
  line : begins is_line_feed m ≡ false
  escape : begins in_escape m ≡ false

is_end : (e : Ending) (m r : List ℕ) → Ends e m r → IsEnd m
is_end BackQuote m r h = record {
  digit = ap (begins is_decimal) h;
  brace = ap (begins is_brace) h;
  line = ap (begins is_line_feed) h;
  escape = ap (begins in_escape) h;
}
is_end Substitution m r h = record {
  digit = ap (begins is_decimal) h;
  brace = ap (begins is_brace) h;
  line = ap (begins is_line_feed) h;
  escape = ap (begins in_escape) h;
}

-- what begins with none of these goes on so before another end
begins_on : (q : ℕ → Bool) (own m a : List ℕ) → begins q a ≡ false → begins q (own ++ m) ≡ false → begins q (own ++ a) ≡ false
begins_on q [] m a h e = h
begins_on q (c ∷ cs) m a h e = e

-- ---- characters of an escape stand before the end

record Front (own xs s a : List ℕ) : Type 0 where
  left : List ℕ
  whole : own ≡ xs ++ left
  rest : s ≡ left ++ a

front : (q : ℕ → Bool) (own xs s a : List ℕ) → own ++ a ≡ xs ++ s → Each q xs → begins q a ≡ false → Front own xs s a
front q own [] s a e h n = record { left = own; whole = refl; rest = sym e }
front q [] (x ∷ xs) s a e h n = absurd (false≢true (sym n ∙ ap (begins q) e ∙ h.0))
front q (c ∷ own) (x ∷ xs) s a e h n =
    let f = front q own xs s a (same_tail c x (own ++ a) (xs ++ s) e) h.1 n in
    record { left = f.left; whole = ap (λ y. y ∷ own) (same_head c x (own ++ a) (xs ++ s) e) ∙ ap (λ (l : List ℕ). x ∷ l) f.whole; rest = f.rest }

-- ---- an escape by its characters, before any text

record Spelling (e : Escape) (text s : List ℕ) : Type 0 where
  first : ℕ
  xs : List ℕ
  whole : text ≡ first ∷ (xs ++ s)
  each : Each in_escape xs
  stands : (r : List ℕ) → IsEscape e (first ∷ (xs ++ r)) r

hex_in : (c : ℕ) → is_hex c ≡ true → in_escape c ≡ true
hex_in c h = ap (λ b. b || (c == 123 || (c == 125 || c == 10))) h

hexes_in : (ds : List ℕ) → Each is_hex ds → Each in_escape ds
hexes_in [] h = tt
hexes_in (d ∷ ds) h = (hex_in d h.0, hexes_in ds h.1)

hex_spelling : (n : ℕ) (text s : List ℕ) → IsHexEscape n text s → Spelling (Code n) text s
hex_spelling n text s h = record {
  first = 120;
  xs = h.0 ∷ h.1 ∷ [];
  whole = h.2;
  each = hexes_in (h.0 ∷ h.1 ∷ []) h.3;
  stands = λ r. inr (inr (inl (h.0, h.1, refl, h.3, h.4)));
}

four_spelling : (n : ℕ) (text s : List ℕ) → IsUnicodeEscape n text s → Spelling (Code n) text s
four_spelling n text s h = record {
  first = 117;
  xs = h.0 ∷ h.1 ∷ h.2 ∷ h.3 ∷ [];
  whole = h.4;
  each = hexes_in (h.0 ∷ h.1 ∷ h.2 ∷ h.3 ∷ []) h.5;
  stands = λ r. inr (inr (inr (inl (h.0, h.1, h.2, h.3, refl, h.5, h.6))));
}

braced_spelling : (n : ℕ) (text s : List ℕ) → IsBraced n text s → Spelling (Code n) text s
braced_spelling n text s h = record {
  first = 117;
  xs = 123 ∷ (h.0 ++ 125 ∷ []);
  whole = h.1 ∙ ap (λ (l : List ℕ). 117 ∷ 123 ∷ l) (sym (append_assoc h.0 (125 ∷ []) s));
  each = (refl, each_append in_escape h.0 (125 ∷ []) (hexes_in h.0 h.2) (refl, tt));
  stands = λ r. inr (inr (inr (inr (h.0, ap (λ (l : List ℕ). 117 ∷ 123 ∷ l) (append_assoc h.0 (125 ∷ []) r), h.2, h.3, h.4))));
}

-- ---- an escape stands before another end too

-- that goes on with own, before a in place of m
record Moves (e : Escape) (c : ℕ) (own m a : List ℕ) : Type 0 where
  escape : Escape
  rest : List ℕ
  there : IsEscape escape (c ∷ (own ++ a)) rest
  kind : is_legacy escape ≡ is_legacy e

spelling_moves : (e : Escape) (c : ℕ) (own m a s : List ℕ) → begins in_escape m ≡ false → Spelling e (c ∷ (own ++ m)) s → Moves e c own m a
spelling_moves e c own m a s n h =
    let f = front in_escape own h.xs s m (same_tail c h.first (own ++ m) (h.xs ++ s) h.whole) h.each n in
    record {
      escape = e;
      rest = f.left ++ a;
      there = subst (λ (l : List ℕ). IsEscape e l (f.left ++ a))
          (sym (ap (λ x. x ∷ (own ++ a)) (same_head c h.first (own ++ m) (h.xs ++ s) h.whole)
          ∙ ap (λ (l : List ℕ). h.first ∷ (l ++ a)) f.whole ∙ ap (λ (l : List ℕ). h.first ∷ l) (append_assoc h.xs f.left a)))
          (h.stands (f.left ++ a));
      kind = refl;
    }

line_moves : (c : ℕ) (own m a : List ℕ) → is_line_terminator c ≡ true → Moves Continuation c own m a
line_moves c own m a h = ⊎_elim
    (λ (r : (c == 13) ≡ true). after_return (eqb-true c 13 r) (own ++ a) refl)
    (λ (r : (c == 13) ≡ false).
    record { escape = Continuation; rest = own ++ a; there = inr (c, refl, h, λ e. absurd (false≢true (sym r ∙ ap (λ x. x == 13) e))); kind = refl })
    (cases_Bool (c == 13))
  where
    after_return : c ≡ 13 → (xs : List ℕ) → own ++ a ≡ xs → Moves Continuation c own m a
    after_return e xs same = ⊎_elim
        (λ (l : begins is_line_feed xs ≡ true). line_behind xs l same)
        (λ (l : begins is_line_feed xs ≡ false).
        record { escape = Continuation; rest = own ++ a; there = inr (c, refl, h, λ x. ap (begins is_line_feed) same ∙ l); kind = refl })
        (cases_Bool (begins is_line_feed xs))
      where
        line_behind : (ys : List ℕ) → begins is_line_feed ys ≡ true → own ++ a ≡ ys → Moves Continuation c own m a
        line_behind [] l s = absurd (false≢true l)
        line_behind (y ∷ ys) l s = record {
          escape = Continuation;
          rest = ys;
          there = inl (ap (λ x. x ∷ (own ++ a)) e ∙ ap (λ (k : List ℕ). 13 ∷ k) s ∙ ap (λ x. 13 ∷ x ∷ ys) (eqb-true y 10 l));
          kind = refl;
        }

escape_moves : (e : Escape) (c : ℕ) (own m a s : List ℕ) → IsEnd m → IsEnd a → is_legacy e ≡ false → IsEscape e (c ∷ (own ++ m)) s → Moves e c own m a
escape_moves Continuation c own m a s i j g h = ⊎_elim
    (λ (x : c ∷ (own ++ m) ≡ 13 ∷ 10 ∷ s). line_moves c own m a (ap is_line_terminator (same_head c 13 (own ++ m) (10 ∷ s) x)))
    (λ (x : (d : ℕ) × (c ∷ (own ++ m) ≡ d ∷ s) × (is_line_terminator d ≡ true) × (d ≡ 13 → begins is_line_feed s ≡ false)).
    line_moves c own m a (ap is_line_terminator (same_head c x.0 (own ++ m) s x.1) ∙ x.2))
    h
escape_moves (Legacy n) c own m a s i j g h = absurd (false≢true (sym g))
escape_moves (Code n) c own m a s i j g h = ⊎_elim
    (λ (x : IsSingle n (c ∷ (own ++ m)) s).
    let same = same_head c x.0 (own ++ m) s x.1 in
    record { escape = Code n; rest = own ++ a; there = inl (c, refl, ap is_special same ∙ x.2, x.3 ∙ ap single (sym same)); kind = refl })
    (λ (b : IsNul n (c ∷ (own ++ m)) s ⊎ (IsHexEscape n (c ∷ (own ++ m)) s ⊎ (IsUnicodeEscape n (c ∷ (own ++ m)) s ⊎ IsBraced n (c ∷ (own ++ m)) s))). ⊎_elim
    (λ (x : IsNul n (c ∷ (own ++ m)) s).
    let free : begins is_decimal (own ++ m) ≡ false = ap (begins is_decimal) (same_tail c 48 (own ++ m) s x.0) ∙ x.1 in
    record {
      escape = Code n;
      rest = own ++ a;
      there = inr (inl (ap (λ y. y ∷ (own ++ a)) (same_head c 48 (own ++ m) s x.0), begins_on is_decimal own m a j.digit free, x.2));
      kind = refl;
    })
    (λ (b : IsHexEscape n (c ∷ (own ++ m)) s ⊎ (IsUnicodeEscape n (c ∷ (own ++ m)) s ⊎ IsBraced n (c ∷ (own ++ m)) s)). ⊎_elim
    (λ (x : IsHexEscape n (c ∷ (own ++ m)) s). spelling_moves (Code n) c own m a s i.escape (hex_spelling n _ s x))
    (λ (b : IsUnicodeEscape n (c ∷ (own ++ m)) s ⊎ IsBraced n (c ∷ (own ++ m)) s). ⊎_elim
    (λ (x : IsUnicodeEscape n (c ∷ (own ++ m)) s). spelling_moves (Code n) c own m a s i.escape (four_spelling n _ s x))
    (λ (x : IsBraced n (c ∷ (own ++ m)) s). spelling_moves (Code n) c own m a s i.escape (braced_spelling n _ s x))
    b)
    b)
    b)
    h

-- ---- parts before another end

record Again (ps : List t.Part) (text m : List ℕ) : Type 0 where
  own : List ℕ
  whole : text ≡ own ++ m
  again : (a : List ℕ) → IsEnd a → Parts ps (own ++ a) a

-- one part more, of its own text zs
more : (x : t.Part) (ps : List t.Part) (text mid m zs : List ℕ) → text ≡ zs ++ mid → (i : Again ps mid m)
    → ((a : List ℕ) → IsEnd a → t.Stands x (zs ++ (i.own ++ a)) (i.own ++ a)) → Again (x ∷ ps) text m
more x ps text mid m zs e i stands = record {
  own = zs ++ i.own;
  whole = e ∙ ap (λ (l : List ℕ). zs ++ l) i.whole ∙ sym (append_assoc zs i.own m);
  again = λ a h. (i.own ++ a, subst (λ (l : List ℕ). t.Stands x l (i.own ++ a)) (sym (append_assoc zs i.own a)) (stands a h), i.again a h);
}

module _ (ps : List t.Part) (text mid m : List ℕ) (n : IsEnd m) (i : Again ps mid m) where
  bare_more : (c : ℕ) → t.Stands (t.Bare c) text mid → Again (t.Bare c ∷ ps) text m
  bare_more c h = more (t.Bare c) ps text mid m (c ∷ []) h.0 i
      (λ a k. (refl, h.1, λ d. begins_on is_brace i.own m a k.brace (sym (ap (begins is_brace) i.whole) ∙ h.2 d)))

  break_more : t.Stands t.Break text mid → Again (t.Break ∷ ps) text m
  break_more h = ⊎_elim
      (λ (e : text ≡ 13 ∷ 10 ∷ mid). more t.Break ps text mid m (13 ∷ 10 ∷ []) e i (λ a k. inl refl))
      (λ (e : (text ≡ 13 ∷ mid) × (begins is_line_feed mid ≡ false)).
      more t.Break ps text mid m (13 ∷ []) e.0 i
      (λ a k. inr (refl, begins_on is_line_feed i.own m a k.line (sym (ap (begins is_line_feed) i.whole) ∙ e.1))))
      h

  line_more : t.Stands (t.Escaped Continuation) text mid → Again (t.Escaped Continuation ∷ ps) text m
  line_more h = ⊎_elim
      (λ (e : h.0 ≡ 13 ∷ 10 ∷ mid).
      more (t.Escaped Continuation) ps text mid m (92 ∷ 13 ∷ 10 ∷ []) (h.1 ∙ ap (λ (l : List ℕ). 92 ∷ l) e) i
      (λ a k. (13 ∷ 10 ∷ (i.own ++ a), refl, inl refl, refl)))
      (λ (e : (c : ℕ) × (h.0 ≡ c ∷ mid) × (is_line_terminator c ≡ true) × (c ≡ 13 → begins is_line_feed mid ≡ false)).
      more (t.Escaped Continuation) ps text mid m (92 ∷ e.0 ∷ []) (h.1 ∙ ap (λ (l : List ℕ). 92 ∷ l) e.1) i
      (λ a k. (
        e.0 ∷ (i.own ++ a),
        refl,
        inr (e.0, refl, e.2, λ d. begins_on is_line_feed i.own m a k.line (sym (ap (begins is_line_feed) i.whole) ∙ e.3 d)),
        refl,
      )))
      h.2

  spelled_more : (c : ℕ) → (inner : List ℕ) → text ≡ 92 ∷ inner → Spelling (Code c) inner mid → Again (t.Escaped (Code c) ∷ ps) text m
  spelled_more c inner e h =
      more (t.Escaped (Code c)) ps text mid m (92 ∷ h.first ∷ h.xs) (e ∙ ap (λ (l : List ℕ). 92 ∷ l) h.whole) i
      (λ a k. (h.first ∷ (h.xs ++ (i.own ++ a)), refl, h.stands (i.own ++ a), refl))

  code_more : (c : ℕ) → t.Stands (t.Escaped (Code c)) text mid → Again (t.Escaped (Code c) ∷ ps) text m
  code_more c h = ⊎_elim
      (λ (x : IsSingle c h.0 mid).
      more (t.Escaped (Code c)) ps text mid m (92 ∷ x.0 ∷ []) (h.1 ∙ ap (λ (l : List ℕ). 92 ∷ l) x.1) i
      (λ a k. (x.0 ∷ (i.own ++ a), refl, inl (x.0, refl, x.2, x.3), refl)))
      (λ (b : IsNul c h.0 mid ⊎ (IsHexEscape c h.0 mid ⊎ (IsUnicodeEscape c h.0 mid ⊎ IsBraced c h.0 mid))). ⊎_elim
      (λ (x : IsNul c h.0 mid).
      more (t.Escaped (Code c)) ps text mid m (92 ∷ 48 ∷ []) (h.1 ∙ ap (λ (l : List ℕ). 92 ∷ l) x.0) i
      (λ a k. (
        48 ∷ (i.own ++ a),
        refl,
        inr (inl (refl, begins_on is_decimal i.own m a k.digit (sym (ap (begins is_decimal) i.whole) ∙ x.1), x.2)),
        refl,
      )))
      (λ (b : IsHexEscape c h.0 mid ⊎ (IsUnicodeEscape c h.0 mid ⊎ IsBraced c h.0 mid)). ⊎_elim
      (λ (x : IsHexEscape c h.0 mid). spelled_more c h.0 h.1 (hex_spelling c h.0 mid x))
      (λ (b : IsUnicodeEscape c h.0 mid ⊎ IsBraced c h.0 mid). ⊎_elim
      (λ (x : IsUnicodeEscape c h.0 mid). spelled_more c h.0 h.1 (four_spelling c h.0 mid x))
      (λ (x : IsBraced c h.0 mid). spelled_more c h.0 h.1 (braced_spelling c h.0 mid x))
      b)
      b)
      b)
      h.2

  bad_more : (c : ℕ) → t.Stands (t.Bad c) text mid → Again (t.Bad c ∷ ps) text m
  bad_more c h =
      more (t.Bad c) ps text mid m (92 ∷ c ∷ []) h.0 i (λ a k. (
        refl,
        λ e s there. ⊎_elim
            (λ (g : is_legacy e ≡ true). g)
            (λ (g : is_legacy e ≡ false).
            let x = escape_moves e c i.own a m s k n g there in
            let l = h.1 x.escape x.rest (subst (λ (y : List ℕ). IsEscape x.escape (c ∷ y) x.rest) (sym i.whole) x.there) in
            sym x.kind ∙ l)
            (cases_Bool (is_legacy e)),
      ))

again_all : (ps : List t.Part) (text m : List ℕ) → IsEnd m → Parts ps text m → Again ps text m
again_all [] text m n h = record { own = []; whole = h; again = λ a k. refl }
again_all (t.Bare c ∷ ps) text m n h = bare_more ps text h.0 m n (again_all ps h.0 m n h.2) c h.1
again_all (t.Break ∷ ps) text m n h = break_more ps text h.0 m n (again_all ps h.0 m n h.2) h.1
again_all (t.Escaped Continuation ∷ ps) text m n h = line_more ps text h.0 m n (again_all ps h.0 m n h.2) h.1
again_all (t.Escaped (Code c) ∷ ps) text m n h = code_more ps text h.0 m n (again_all ps h.0 m n h.2) c h.1
again_all (t.Escaped (Legacy c) ∷ ps) text m n h = absurd (false≢true (sym h.1.3))
again_all (t.Bad c ∷ ps) text m n h = bad_more ps text h.0 m n (again_all ps h.0 m n h.2) c h.1

pub tagged_is_read : TaggedIsRead
tagged_is_read raw before behind units e h f after rest i =
    let r = again_all h.0 before h.1 (is_end e h.1 behind h.3) h.2 in
    let same : raw ≡ r.own = append_cancel_right raw r.own h.1 (sym h.4 ∙ r.whole) in
    (h.0, after, subst (λ (l : List ℕ). Parts h.0 (l ++ after) after) (sym same) (r.again after (is_end f after rest i)), i, refl, h.5)
