-- The front of a text that is read, and what is left of it.
use Rattle.std.proofs.Common.{◌≡◌, ◌==◌, ℕ, ◌+◌, ◌-◌, ◌<◌, ◌≤◌, Bool, true, false, List, [], ◌∷◌, ◌++◌, length, Option, Some, None, refl, ap, sym, subst, inl, inr, ◌∙◌, arith, append_assoc, append-nil, length-append}
use Rattle.std.proofs.lemmas.Bool.{false≢true, eqb-true}
use Rattle.run_ignore.specs.Reading.{Begins, IsCutShort, IsMember, IsNoMember, NamesClass, Members, IsNegation, AreStars, IsRun, IsPiece, ends_name, Spells}
use Rattle.run_ignore.specs.declared.pieces.Class.{Class}
use Rattle.run_ignore.specs.declared.pieces.Range.{Range}
use Rattle.run_ignore.specs.declared.pieces.Piece.{Piece}
use Rattle.run_ignore.specs.declared.pieces.Piece.TheVariants.{Among, Star, Folders, Everything, Nothing}

-- a text with this front begins with no other byte
pub begins_not : (text rest : List ℕ) (first byte : ℕ) → text ≡ first ∷ rest → (first ≡ byte → ⊥) → Begins text byte → ⊥
begins_not text rest first byte e apart b = apart (cc)

-- the end begins with no byte
pub end_begins : (text : List ℕ) (byte : ℕ) → text ≡ [] → Begins text byte → ⊥
end_begins text byte e b = cc

-- a text of no length
pub empty_is : (text : List ℕ) → (length text == 0) ≡ true → text ≡ []
empty_is [] h = refl
empty_is (byte ∷ rest) h = absurd (let e = eqb-true (length (byte ∷ rest)) 0 h in omega arith)

-- members that were read, and what is left of the class
pub record MembersSoFar (text : List ℕ) (ranges : List Range) (is_first : Bool) (before : Option ℕ) (rest : List ℕ) : Type 0 where
  pub go_on : (more : List Range) → (end : Option (List ℕ)) → Members more is_first before rest end → Members (ranges ++ more) true None text end
  pub shorter : length rest ≤ length text

pub members_begun : (text : List ℕ) (ranges : List Range) → ranges ≡ [] → MembersSoFar text ranges true None text
members_begun text ranges e =
    record { go_on = λ more end h. subst (λ l. Members (l ++ more) true None text end) (sym e) h; shorter = omega arith }

pub members_more : (text : List ℕ) (ranges : List Range) (is_first : Bool) (before : Option ℕ) (rest : List ℕ) (range : Range)
    (next : Option ℕ) (behind : List ℕ) → MembersSoFar text ranges is_first before rest
    → (is_first ≡ false → Begins rest 93 → ⊥) → (NamesClass rest → ⊥) → IsMember range before rest next behind → length behind < length rest
    → MembersSoFar text (ranges ++ range ∷ []) false next behind
members_more text ranges is_first before rest range next behind kept unclosed unnamed member shorter =
    record {
      go_on = λ more end h.
          subst (λ l. Members l true None text end) (sym (append_assoc ranges (range ∷ []) more))
          (kept.go_on (range ∷ more) end (unclosed, unnamed, (next, (behind, (member, h)))));
      shorter = let k = kept.shorter in omega arith;
    }

members_are : (text : List ℕ) (ranges : List Range) (is_first : Bool) (before : Option ℕ) (rest : List ℕ) (end : Option (List ℕ))
    → MembersSoFar text ranges is_first before rest → Members [] is_first before rest end → Members ranges true None text end
members_are text ranges is_first before rest end kept h =
    subst (λ l. Members l true None text end) (append-nil ranges) (kept.go_on [] end h)

pub members_closed : (text : List ℕ) (ranges : List Range) (is_first : Bool) (before : Option ℕ) (rest behind : List ℕ)
    → MembersSoFar text ranges is_first before rest → is_first ≡ false → rest ≡ 93 ∷ behind → Members ranges true None text (Some behind)
members_closed text ranges is_first before rest behind kept first e =
    members_are text ranges is_first before rest (Some behind) kept (inl (first, (behind, (e, refl))))

pub members_named : (text : List ℕ) (ranges : List Range) (is_first : Bool) (before : Option ℕ) (rest : List ℕ)
    → MembersSoFar text ranges is_first before rest → NamesClass rest → Members ranges true None text None
members_named text ranges is_first before rest kept h =
    members_are text ranges is_first before rest None kept (inr (refl, inl h))

pub members_open : (text : List ℕ) (ranges : List Range) (is_first : Bool) (before : Option ℕ) (rest : List ℕ)
    → MembersSoFar text ranges is_first before rest → IsNoMember before rest → Members ranges true None text None
members_open text ranges is_first before rest kept h =
    members_are text ranges is_first before rest None kept (inr (refl, inr h))

-- asterisks that were read
pub record StarsSoFar (text rest : List ℕ) : Type 0 where
  pub stars : List ℕ
  pub whole : text ≡ stars ++ rest
  pub alone : AreStars stars
  pub shorter : length rest ≤ length text

pub stars_begun : (text : List ℕ) → StarsSoFar text text
stars_begun text = record { stars = []; whole = refl; alone = tt; shorter = omega arith }

stars_end : (stars : List ℕ) → AreStars stars → AreStars (stars ++ 42 ∷ [])
stars_end [] h = (refl, tt)
stars_end (byte ∷ stars) h = (h.0, stars_end stars h.1)

pub stars_more : (text rest more : List ℕ) → StarsSoFar text rest → rest ≡ 42 ∷ more → length more < length rest → StarsSoFar text more
stars_more text rest more kept e less =
    record {
      stars = kept.stars ++ 42 ∷ [];
      whole = kept.whole ∙ (ap (λ l. kept.stars ++ l) e ∙ sym (append_assoc kept.stars (42 ∷ []) more));
      alone = stars_end kept.stars kept.alone;
      shorter = let s = kept.shorter in omega arith;
    }

pub stars_done : (text rest : List ℕ) → StarsSoFar text rest → (Begins rest 42 → ⊥) → (stars : List ℕ) × IsRun stars text rest
stars_done text rest kept last = (kept.stars, record { whole = kept.whole; alone = kept.alone; last = last })

-- how many asterisks there are
run_length : (stars text rest : List ℕ) → IsRun stars text rest → length text ≡ length stars + length rest
run_length stars text rest run = ap length run.whole ∙ length-append stars rest

some_stars : (stars text rest : List ℕ) → IsRun stars text rest → Begins text 42 → 1 ≤ length stars
some_stars [] text rest run b = absurd (run.last (b.0, sym run.whole ∙ b.1))
some_stars (star ∷ stars) text rest run b = omega arith

pub star_shorter : (text rest : List ℕ) → ((stars : List ℕ) × IsRun stars text rest) → Begins text 42 → length rest < length text
star_shorter text rest r b =
    let count = run_length r.0 text rest r.1 in let some = some_stars r.0 text rest r.1 b in omega arith

pub star_inside : (text rest : List ℕ) (is_start : Bool) → ((stars : List ℕ) × IsRun stars text rest) → Begins text 42 → is_start ≡ false
    → IsPiece Star is_start text rest
star_inside text rest is_start r b inside =
    (r.0, (r.1, (some_stars r.0 text rest r.1 b, λ w. false≢true (sym inside ∙ w.0))))

pub star_lone : (text rest : List ℕ) (is_start : Bool) → ((stars : List ℕ) × IsRun stars text rest) → Begins text 42
    → length text - length rest < 2 → IsPiece Star is_start text rest
star_lone text rest is_start r b few =
    let count = run_length r.0 text rest r.1 in
    (r.0, (r.1, (some_stars r.0 text rest r.1 b, λ w. let two = w.1 in omega arith)))

pub star_joined : (text rest : List ℕ) (is_start : Bool) → ((stars : List ℕ) × IsRun stars text rest) → Begins text 42
    → (rest ≡ [] → ⊥) → (Begins rest 47 → ⊥) → IsPiece Star is_start text rest
star_joined text rest is_start r b unended apart =
    (r.0, (r.1, (some_stars r.0 text rest r.1 b, λ w. elim w.2 [ inl e ↦ unended e | inr e ↦ apart e ])))

pub stars_all : (text rest : List ℕ) (is_start : Bool) → ((stars : List ℕ) × IsRun stars text rest) → is_start ≡ true
    → 2 ≤ length text - length rest → rest ≡ [] → IsPiece Everything is_start text rest
stars_all text rest is_start r start many e =
    let count = run_length r.0 text rest r.1 in let two : 2 ≤ length r.0 = omega arith in (r.0, (r.1, (start, (two, e))))

pub stars_folders : (text rest behind : List ℕ) (is_start : Bool) → ((stars : List ℕ) × IsRun stars text rest) → is_start ≡ true
    → 2 ≤ length text - length rest → rest ≡ 47 ∷ behind → IsPiece Folders is_start text behind
stars_folders text rest behind is_start r start many e =
    let count = run_length r.0 text rest r.1 in let two : 2 ≤ length r.0 = omega arith in
    (r.0, (subst (IsRun r.0 text) e r.1, (start, two)))

-- a class that is read, and one that is not
pub class_read : (body inner rest : List ℕ) (class : Class) (is_start : Bool) → IsNegation body class.negated inner
    → Members class.ranges.items true None inner (Some rest) → IsPiece (Among class) is_start (91 ∷ body) rest
class_read body inner rest class is_start sign members =
    (body, (refl, record { inner = inner; sign = sign; members = members }))

pub class_unread : (body inner rest : List ℕ) (negated : Bool) (ranges : List Range) (is_start : Bool) → IsNegation body negated inner
    → Members ranges true None inner None → rest ≡ [] → IsPiece Nothing is_start (91 ∷ body) rest
class_unread body inner rest negated ranges is_start sign members e =
    (e, inr (body, (negated, (ranges, (refl, record { inner = inner; sign = sign; members = members })))))

-- a backslash at the end
pub cut_short : (text rest : List ℕ) (is_start : Bool) → IsCutShort text → 0 < length text → rest ≡ [] → IsPiece Nothing is_start text rest
cut_short text rest is_start cut some e =
    elim cut [ inl ended ↦ absurd (let n = ap length ended in omega arith) | inr lone ↦ (e, inl lone) ]

-- pieces that were read
pub record PiecesSoFar (text : List ℕ) (pieces : List Piece) (is_start : Bool) (rest : List ℕ) : Type 0 where
  pub go_on : (more : List Piece) → Spells more is_start rest → Spells (pieces ++ more) true text

pub pieces_begun : (text : List ℕ) (pieces : List Piece) → pieces ≡ [] → PiecesSoFar text pieces true text
pieces_begun text pieces e = record { go_on = λ more h. subst (λ l. Spells (l ++ more) true text) (sym e) h }

pub pieces_more : (text : List ℕ) (pieces : List Piece) (is_start : Bool) (rest : List ℕ) (piece : Piece) (starts : Bool) (behind : List ℕ)
    → PiecesSoFar text pieces is_start rest → IsPiece piece is_start rest behind → starts ≡ ends_name piece
    → PiecesSoFar text (pieces ++ piece ∷ []) starts behind
pieces_more text pieces is_start rest piece starts behind kept is e =
    record {
      go_on = λ more h.
          subst (λ l. Spells l true text) (sym (append_assoc pieces (piece ∷ []) more))
          (kept.go_on (piece ∷ more) (behind, (is, subst (λ b. Spells more b behind) e h)));
    }

pub pieces_done : (text : List ℕ) (pieces : List Piece) (is_start : Bool) (rest : List ℕ)
    → PiecesSoFar text pieces is_start rest → rest ≡ [] → Spells pieces true text
pieces_done text pieces is_start rest kept e = subst (λ l. Spells l true text) (append-nil pieces) (kept.go_on [] e)
