-- What an entry for a part answers of a reading that fronts settle.
use Rattle.std.proofs.Common.{◌≡◌, ◌≤◌, ◌<◌, ℕ, Bool, true, false, List, [], ◌++◌, Result, Ok, Err, leb, leb-true, leb-false, refl, sym, ap, ◌∙◌, subst}
use Rattle.base_token.specs.declared.context.Context.{Context}
use Rattle.base_token.specs.declared.error.Error.{Error}
use Rattle.tree_spec.specs.Tree.{Tree}
use Rattle.tree_nesting.specs.Nesting.{nesting}
use Rattle.grammar_spec.specs.Tokens.Input.{PlacedToken, Input}
use Rattle.grammar_spec.specs.Reader.Source.{Fault, Stream, State, Read, retold}
use Rattle.grammar_laws.specs.CompleteBase.Laws.{InOrder}
use Rattle.parse_source_laws.specs.Ahead.{Named}
use Rattle.parse_source_laws.specs.Laws.{SameRead, from_source}
use Rattle.parse_source_laws.specs.Sources.{HandsOut}
use Rattle.parse_front_laws.specs.Exact.{AnswersWhere}
use Rattle.parse_front_laws.specs.Sources.{SameAnswers}
use Rattle.parse_front_laws.specs.SourceFronts.{FrontRead, ReadsFront, AnswersFront}
use Rattle.ecma_parser.specs.Parts.{tree_read, left_in, ParsesPart}
use Rattle.parse_laws.specs.Parts.{IsFrontOf, HasFront, PartAnswered}

-- ---- what is read

-- what is left in a code was read
abbrev Left : {S : Type 0} → Stream S → Context → Tree → State S → Result (Tree × State S) Fault → Type 0
Left {S} m ctx t stood x = (r : State S) × (x ≡ Ok (t, r)) × (stood ≡ retold m ctx r)

same_pair : {S : Type 0} {t u : Tree} {r q : S} → ◌≡◌ {A = Result (Tree × S) Fault} (Ok (t, r)) (Ok (u, q)) → (t ≡ u) × (r ≡ q)
same_pair {S} {t} {u} {r} {q} e = (ap (λ (x : Result (Tree × S) Fault). tree_in x) e, ap (λ (x : Result (Tree × S) Fault). state_in x) e)
  where
    tree_in : Result (Tree × S) Fault → Tree
    tree_in (Ok x) = x.0
    tree_in (Err f) = t

    state_in : Result (Tree × S) Fault → S
    state_in (Ok x) = x.1
    state_in (Err f) = r

no_pair : {S : Type 0} {t : Tree} {r : S} {f : Fault} → ◌≡◌ {A = Result (Tree × S) Fault} (Err f) (Ok (t, r)) → ⊥
no_pair e = cc

no_fault : {t : Tree} {f : Fault} → ◌≡◌ {A = Result Tree Fault} (Ok t) (Err f) → ⊥
no_fault e = cc

left_is : {S : Type 0} (m : Stream S) (ctx : Context) (t : Tree) (stood : State S) (x : Result (Tree × State S) Fault) → left_in m ctx x ≡ Ok (t, stood) → Left m ctx t stood x
unfolding left_in
left_is m ctx t stood (Ok x) e = let k = same_pair e in (x.1, ap (λ (u : Tree). Ok (u, x.1)) k.0, sym k.1)
left_is m ctx t stood (Err f) e = absurd (no_pair e)

-- where a tree is read no fault is
tree_is : {S : Type 0} (x : Result (Tree × State S) Fault) (t : Tree) (q : State S) (f : Fault) → x ≡ Ok (t, q) → tree_read x ≡ Err f → ⊥
unfolding tree_read
tree_is {S} x t q f e h = no_fault (sym (ap (λ (y : Result (Tree × State S) Fault). tree_read y) e) ∙ h)

deeper : (n limit : ℕ) → (n ≤ limit → ⊥) → limit < n
deeper n limit h = by_test (leb n limit) refl
  where
    by_test : (b : Bool) → leb n limit ≡ b → limit < n
    by_test true e = absurd (h (leb-true n limit e))
    by_test false e = leb-false n limit e

-- ---- an answer

module _ {S : Type 0} (m : Stream S) (Live : S → Type 0) (Sound : List PlacedToken → Type 0) (limit : ℕ) (s : S) where
  -- what is read, and what is found of what has a front
  pub record Settles (P : Tree → Input → Input → Type 0) (Meets : Tree → Input → Type 0) (x : Result (Tree × State S) Fault) : Type 0 where
    pub read : (t : Tree) (r : State S) → x ≡ Ok (t, r) → IsFrontOf m Sound P limit s r.source t
    pub found : (t : Tree) (r : Input) → HasFront m Sound P limit s Meets t r → nesting t ≤ limit → (q : State S) × (x ≡ Ok (t, q)) × (m.last q.source ≡ r.last) × HandsOut m r.places q.source

  module _ (P : Tree → Input → Input → Type 0) (Meets : Tree → Input → Type 0) (x : Result (Tree × State S) Fault) (h : Settles P Meets x) where
    found_of : (t u : Tree) (r : State S) (o : Input) → x ≡ Ok (t, r) → nesting u ≤ limit → HasFront m Sound P limit s Meets u o → (u ≡ t) × (m.last r.source ≡ o.last) × HandsOut m o.places r.source
    found_of t u r o e n k = let z = h.found u o k n in let y = same_pair (sym z.1 ∙ e) in
        (y.0, ap (λ (q : State S). m.last q.source) (sym y.1) ∙ z.2, subst (λ (q : State S). HandsOut m o.places q.source) y.1 z.3)

    pub part_answered : {X : Type 0} (view : X → Tree) (faults : Tree → List Error) (ctx : Context) (result : Result X Error) (stood : State S) (old new : List Error) → ParsesPart m ctx view faults result x stood old new
        → PartAnswered m Sound P limit s Meets view faults ctx result stood old new
    part_answered view faults ctx (Ok u) stood old new p = let k = left_is m ctx (view u) stood x p.0 in record {
      behind = k.0;
      stands = k.2;
      front = h.read (view u) k.0 k.1;
      recorded = p.1;
      only = λ t r o n. found_of (view u) t k.0 r k.1 n o;
    }
    part_answered view faults ctx (Err e) stood old new p = (
      p.1,
      λ memory t r o. deeper (nesting t) limit (λ n. let z = h.found t r o n in
          tree_is x t z.0 _ z.1 (p.0.fault memory (λ deep. tree_is x t z.0 _ z.1 (p.0.deep deep)))),
    )

  -- ---- by the laws of fronts

  module _ (known : (ps : List PlacedToken) → HandsOut m ps s → Named ps × (Sound ps → InOrder (m.last s) ps)) where
    read_by : (Asked : Tree → List PlacedToken → S → Type 0) (P : Tree → Input → Input → Type 0) (x : Result (Tree × State S) Fault) → ReadsFront m Live Asked P P limit s x → (t : Tree) (r : State S) → x ≡ Ok (t, r) → IsFrontOf m Sound P limit s r.source t
    read_by Asked P x h t r e =
        let k : FrontRead m Live Asked P P limit s t r = subst (λ (y : Result (Tree × State S) Fault). ReadsFront m Live Asked P P limit s y) e h in
        let z = k.each k.rest k.handed k.asked in
        let a = known (k.front ++ k.rest) z.0 in
        record { front = k.front; rest = k.rest; handed = z.0; left = k.handed; is = λ o. z.1 a.0 (a.1 o) }

    found_by : (IsSuch : List PlacedToken → Type 0) (Meets : Tree → Input → Type 0) (P : Tree → Input → Input → Type 0) (x : Result (Tree × State S) Fault) → ((ps : List PlacedToken) → HandsOut m ps s → IsSuch ps) → AnswersFront m Live IsSuch Meets P limit s x
        → (t : Tree) (r : Input) → HasFront m Sound P limit s Meets t r → nesting t ≤ limit → (q : State S) × (x ≡ Ok (t, q)) × (m.last q.source ≡ r.last) × HandsOut m r.places q.source
    found_by IsSuch Meets P x such h t r k n = h k.places t r k.handed (such k.places k.handed) ((known k.places k.handed).1 k.sound) k.derived k.complete n k.clean k.meets

    pub settles : (Asked : Tree → List PlacedToken → S → Type 0) (IsSuch : List PlacedToken → Type 0) (Meets : Tree → Input → Type 0) (P : Tree → Input → Input → Type 0) (x : Result (Tree × State S) Fault) → ((ps : List PlacedToken) → HandsOut m ps s → IsSuch ps)
        → ReadsFront m Live Asked P P limit s x → AnswersFront m Live IsSuch Meets P limit s x → Settles P Meets x
    settles Asked IsSuch Meets P x such h g = record { read = read_by Asked P x h; found = found_by IsSuch Meets P x such g }

  -- what is answered of a list is answered of the source
  pub answers_front : (Asked : Tree → List PlacedToken → S → Type 0) (IsSuch : List PlacedToken → Type 0) (Meets : Tree → Input → Type 0) (P : Tree → Input → Input → Type 0) (x : Result (Tree × State S) Fault) (f : Read Input Tree) → SameAnswers m Live Asked s [] x f
      → AnswersWhere IsSuch Meets f P limit → AnswersFront m Live IsSuch Meets P limit s x
  answers_front Asked IsSuch Meets P x f h g ps t r a such order d i n k w =
      let z = g (m.last s) ps t r such order d i n k w in let y = subst (λ (v : Result (Tree × State Input) Fault). SameRead m Live v x) z.1 (h.told ps a) in (from_source m Live y.0 z.0, y.1, y.2, y.3)
