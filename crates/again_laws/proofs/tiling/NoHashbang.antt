-- No layout begins with the mark of a hashbang.
use Rattle.std.proofs.Common.{◌≡◌, ℕ, true, false, not, List, [], ◌∷◌, ◌++◌, refl, sym, ap, subst, ◌∙◌, append_assoc, ⊎_elim}
use Rattle.std.specs.Prelude.{◌==◌}
use Rattle.std.specs.Str.{chars, IsUtf8}
use Rattle.std.proofs.lemmas.Str.{chars-append, chars-nil}
use Rattle.std.proofs.lemmas.Bool.{cases_Bool, false≢true, not-true, eqb-true, eq-eqb}
use Rattle.lex_pieces.specs.Characters.{is_white_space}
use Rattle.lex_pieces.specs.Trivia.{NoHashbang}
use Rattle.lex_token.specs.declared.goal.LexicalGoal.{LexicalGoal}
use Rattle.lex_token.specs.declared.goal.LexicalGoal.TheVariants.{Div, RegExp, TemplateTail, TemplateEnd}
use Rattle.print_pages_spec.specs.Pieces.{Piece, Text, Brace, Blank, Line, Deeper, Back, Semicolon, Commit, Mark}
use Rattle.print_layout_spec.specs.Looks.{regular_expression, template_characters, template_end, hashbang_comment, touching, joined, texts_of}
use Rattle.again_laws.proofs.tokens.Ascii.{Ascii, ascii}
use Rattle.again_laws.specs.Tiling.Categories.{Fresh, Category, Word, Number, Big, Member, Str, Regex, Plus, Incr, Minus, Decr, Bang, Slash, Less, Dot, Dots, Operator, Arrow, Hash, Closed, Quasi, End, takes, behind}
use Rattle.again_laws.specs.Tiling.Following.{Front, Follows, is_safe}
use Rattle.again_laws.specs.Tiling.Goes.{GoesText}
use Rattle.again_laws.proofs.tiling.Gaps.{Blankness, White, Feed, Return, gap_before, AreBlank}
use Rattle.again_laws.proofs.tiling.Items.{Item, Plain, Meant, Named, spread, GoesAll, apart, spread_apart, goes_apart, front_nil}
use Rattle.again_laws.proofs.tiling.BetweenTexts.{Lines, lead_of, gap_append, wrote_texts, next_lines, text_lines, follows}
use Rattle.again_laws.proofs.tiling.Pen.{Pen, lead, own_text, after_text, own, next, wrote}
use Rattle.again_laws.proofs.tiling.TakenFollows.{safe_not}
use Rattle.again_laws.proofs.tiling.GoingLayouts.{when_so}

other_first : (c : ℕ) (cs : List ℕ) → (c == 35) ≡ false → NoHashbang (c ∷ cs)
other_first c cs f inner e = let k : c ≡ 35 = cc in false≢true (sym f ∙ eq-eqb c 35 k)

white_no_hash : (c : ℕ) → is_white_space c ≡ true → (c == 35) ≡ false
white_no_hash c w = ⊎_elim
    (λ (t : (c == 35) ≡ true). absurd (false≢true (ap is_white_space (sym (eqb-true c 35 t)) ∙ w)))
    (λ (f : (c == 35) ≡ false). f)
    (cases_Bool (c == 35))

blanks_no_hash : (us : List Blankness) (cs : List ℕ) → AreBlank us → NoHashbang cs → NoHashbang (gap_before us cs)
blanks_no_hash [] cs a n = n
blanks_no_hash (White c ∷ us) cs a n = other_first c (gap_before us cs) (white_no_hash c a.0)
blanks_no_hash (Feed ∷ us) cs a n = other_first 10 (gap_before us cs) refl
blanks_no_hash (Return ∷ us) cs a n = other_first 13 (10 ∷ gap_before us cs) refl

hash_then : (cs : List ℕ) → Follows (behind Hash Fresh) cs → NoHashbang (35 ∷ cs)
hash_then [] h inner e = let k : [] ≡ 33 ∷ inner = cc in cc
hash_then (c ∷ cs) h inner e = let k : c ≡ 33 = cc in false≢true (sym h ∙ ap (λ n. Rattle.lex_pieces.specs.Characters.is_among (33 ∷ []) n) k)

by_first : (cs ds rest : List ℕ) → cs ≡ ds → NoHashbang (ds ++ rest) → NoHashbang (cs ++ rest)
by_first cs ds rest e n = subst (λ (l : List ℕ). NoHashbang (l ++ rest)) (sym e) n

safe_first : (c : ℕ) (ds rest cs : List ℕ) → cs ≡ c ∷ ds → is_safe c ≡ true → NoHashbang (cs ++ rest)
safe_first c ds rest cs e s = by_first cs (c ∷ ds) rest e (other_first c (ds ++ rest) (safe_not c 35 s refl))

mark_first : (c : ℕ) (ds rest cs : List ℕ) → cs ≡ c ∷ ds → not (c == 35) ≡ true → NoHashbang (cs ++ rest)
mark_first c ds rest cs e s = by_first cs (c ∷ ds) rest e (other_first c (ds ++ rest) (not-true (c == 35) s))

front_no_hash : (k : Category) (cs rest : List ℕ) → takes k Fresh ≡ true → Front k cs → Follows (behind k Fresh) rest → NoHashbang (cs ++ rest)
front_no_hash Word cs rest t f h = safe_first f.first f.others rest cs f.whole f.one
front_no_hash Number cs rest t f h = safe_first f.first f.others rest cs f.whole f.one
front_no_hash Big cs rest t f h = safe_first f.first f.others rest cs f.whole f.one
front_no_hash Member cs rest t f h = safe_first f.first f.others rest cs f.whole f.one
front_no_hash Str cs rest t f h = safe_first f.first f.others rest cs f.whole f.one
front_no_hash Closed cs rest t f h = safe_first f.first f.others rest cs f.whole f.one
front_no_hash Operator cs rest t f h = mark_first f.first f.others rest cs f.whole f.one
front_no_hash Arrow cs rest t f h = mark_first f.first f.others rest cs f.whole f.one
front_no_hash Regex cs rest t f h = mark_first 47 f.0 rest cs f.1 refl
front_no_hash Plus cs rest t f h = mark_first 43 [] rest cs f refl
front_no_hash Incr cs rest t f h = mark_first 43 (43 ∷ []) rest cs f refl
front_no_hash Minus cs rest t f h = mark_first 45 [] rest cs f refl
front_no_hash Decr cs rest t f h = mark_first 45 (45 ∷ []) rest cs f refl
front_no_hash Bang cs rest t f h = mark_first 33 [] rest cs f refl
front_no_hash Slash cs rest t f h = mark_first 47 [] rest cs f refl
front_no_hash Less cs rest t f h = mark_first 60 [] rest cs f refl
front_no_hash Dot cs rest t f h = mark_first 46 [] rest cs f refl
front_no_hash Dots cs rest t f h = mark_first 46 (46 ∷ 46 ∷ []) rest cs f refl
front_no_hash Hash cs rest t f h = by_first cs (35 ∷ []) rest f (hash_then rest h)
front_no_hash Quasi cs rest t f h = absurd (false≢true t)
front_no_hash End cs rest t f h = absurd (false≢true t)

-- a text behind the indentation
led_no_hash : (own : List ℕ) (q : Pen) (w : List ℕ) → Lines q → IsUtf8 own → (own ≡ [] → ⊥) → NoHashbang (chars own ++ chars w) → NoHashbang (chars (own_text own q ++ w))
led_no_hash [] q w l u e n = absurd (e refl)
led_no_hash (c ∷ cs) q w l u e n =
    let d = lead_of q l in
    subst NoHashbang (sym (ap chars (append_assoc (lead q) (c ∷ cs) w) ∙ (chars-append (lead q) ((c ∷ cs) ++ w) d.utf8 ∙ (ap (λ (t : List ℕ). t ++ chars ((c ∷ cs) ++ w)) d.same
    ∙ (gap_append d.blanks [] (chars ((c ∷ cs) ++ w)) ∙ ap (gap_before d.blanks) (chars-append (c ∷ cs) w u))))))
    (blanks_no_hash d.blanks (chars (c ∷ cs) ++ chars w) d.are n)

text_no_hash : (goal : LexicalGoal) (own : List ℕ) (xs : List Item) (q : Pen) → Lines q → (h : GoesText goal own Fresh (λ t. GoesAll xs t)) → NoHashbang (chars (own_text own q ++ wrote (spread xs) (after_text own q)))
text_no_hash goal own xs q l h =
    let t = when_so (takes h.0 Fresh) (GoesAll xs (behind h.0 Fresh)) h.2 in
    let some : own ≡ [] → ⊥ = λ e. no_text h.0 (subst (λ (o : List ℕ). Front h.0 o) (ap chars e ∙ chars-nil) h.1.front) t.0 in
    led_no_hash own q (wrote (spread xs) (after_text own q)) l h.1.utf8 some
    (front_no_hash h.0 (chars own) _ t.0 h.1.front (follows xs (after_text own q) (behind h.0 Fresh) (text_lines own q l) t.1 (λ b. absurd (false≢true (sym (runs own some) ∙ b)))))
  where
    no_text : (k : Category) → Front k [] → takes k Fresh ≡ true → ⊥
    no_text k f t = false≢true (subst (λ (x : Category). takes x Fresh ≡ true) (front_nil k f) t)

    runs : (own : List ℕ) → (own ≡ [] → ⊥) → (after_text own q).at_start ≡ false
    runs [] e = absurd (e refl)
    runs (c ∷ cs) e = refl

lone_no_hash : (c : ℕ) (q : Pen) (w : List ℕ) → Lines q → Ascii (c ∷ []) → (c == 35) ≡ false → NoHashbang (chars (own_text (c ∷ []) q ++ w))
lone_no_hash c q w l a f = led_no_hash (c ∷ []) q w l a.utf8 (λ e. cc) (subst (λ (t : List ℕ). NoHashbang (t ++ chars w)) (sym a.same) (other_first c (chars w) f))

nothing_no_hash : NoHashbang []
nothing_no_hash inner e = cc

pub no_hashbang : (xs : List Item) (q : Pen) → Lines q → q.at_start ≡ true → GoesAll xs Fresh → NoHashbang (chars (wrote (spread xs) q))
no_hashbang [] q l s g = subst NoHashbang (sym chars-nil) nothing_no_hash
no_hashbang (Plain (Text span own) ∷ xs) q l s g = text_no_hash _ own xs q l g
no_hashbang (Plain (Brace span) ∷ xs) q l s g = lone_no_hash 125 q _ l (ascii (125 ∷ []) refl) refl
no_hashbang (Plain Blank ∷ xs) q l s g = lone_no_hash 32 q _ l (ascii (32 ∷ []) refl) refl
no_hashbang (Plain Line ∷ xs) q l s g = subst (λ (o : List ℕ). NoHashbang (chars (o ++ wrote (spread xs) (next Line q)))) (sym (line_starts q s)) (no_hashbang xs (next Line q) (next_lines Line q l) refl g)
  where
    line_starts : (q : Pen) → q.at_start ≡ true → Rattle.again_laws.proofs.tiling.Pen.own Line q ≡ []
    line_starts q e = rw e refl
no_hashbang (Plain Deeper ∷ xs) q l s g = no_hashbang xs (next Deeper q) (next_lines Deeper q l) s g
no_hashbang (Plain Back ∷ xs) q l s g = no_hashbang xs (next Back q) (next_lines Back q l) s g
no_hashbang (Plain (Semicolon span) ∷ xs) q l s g = lone_no_hash 59 q _ l (ascii (59 ∷ []) refl) refl
no_hashbang (Plain Commit ∷ xs) q l s g = no_hashbang xs q l s g
no_hashbang (Plain (Mark pos) ∷ xs) q l s g = no_hashbang xs q l s g
no_hashbang (Meant (regular_expression body flags) ∷ xs) q l s g =
    let texts : List (List ℕ) = texts_of (regular_expression body flags) in
    subst (λ (t : List ℕ). NoHashbang (chars t)) (sym (wrote_texts texts (spread xs) q)) (text_no_hash RegExp (joined texts) xs q l g)
no_hashbang (Meant (template_characters own) ∷ xs) q l s g = text_no_hash TemplateTail own xs q l g
no_hashbang (Meant (template_end own) ∷ xs) q l s g = text_no_hash TemplateEnd own xs q l g
no_hashbang (Meant (hashbang_comment own) ∷ xs) q l s g = absurd g
no_hashbang (Meant (touching []) ∷ xs) q l s g = no_hashbang xs q l s g
no_hashbang (Meant (touching (own ∷ others)) ∷ xs) q l s g =
    subst (λ (t : List ℕ). NoHashbang (chars t)) (ap (λ (ys : List Piece). wrote ys q) (spread_apart (own ∷ others) xs) ∙ wrote_texts (own ∷ others) (spread xs) q)
    (text_no_hash Div own (apart others xs) q l (goes_apart (own ∷ others) xs Fresh g))
no_hashbang (Named pos own ∷ xs) q l s g = text_no_hash _ own xs q l g
