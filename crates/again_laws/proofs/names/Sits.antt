-- Names that are among tokens in their order: how what a production consumes adds to them.
use Rattle.std.proofs.Common.{◌≡◌, ◌⊎◌, inl, inr, ℕ, Bool, true, false, ◌&&◌, if◌then◌else◌, List, [], ◌∷◌, ◌++◌, append_assoc, refl, sym, ap, subst, true≢false}
use Rattle.base_proofs.proofs.Bools.{and_second}
use Rattle.base_token.specs.declared.place.Span.{Span}
use Rattle.base_token.specs.Kinds.{comma_kind}
use Rattle.tree_spec.specs.Tree.{Tree, absent, hole, tpl_element}
use Rattle.tree_program_spec.specs.Names.Names.{Identifier, joined, identifiers}
use Rattle.grammar_spec.specs.Tokens.Input.{PlacedToken, Input, Code, Takes, Spans, kind_of, content_of, lo_of, others, rest, kind, text, is_word, text_in, in_list, turned_strict}
use Rattle.grammar_spec.specs.Tokens.Shape.{is_absent, is_hole, is_rest, is_use_strict, is_directive}
use Rattle.grammar_spec.specs.Children.{Child, By, IsEmpty, Listed, CommaThen, Commas, Ends, Items, is_quasi}

-- the names are among the tokens, in their order
abbrev Spells : Identifier → PlacedToken → Type 0
Spells i p = (is_word p.spot.token.kind ≡ true) × (text_in p.spot.token.content ≡ i.sym) × (p.spot.lo ≡ i.span.lo.0)

abbrev pub Stand : List Identifier → List PlacedToken → Type 0
Stand [] ps = Unit {0}
Stand (i ∷ is) [] = ⊥
Stand (i ∷ is) (p ∷ ps) = (Spells i p × Stand is ps) ⊎ Stand (i ∷ is) ps

-- They are among those that stand before a rest: before names that are among the rest.
pub record Sits (is : List Identifier) (ts r : Input) : Type 0 where
  pub so : (js : List Identifier) → Stand js r.places → Stand (is ++ js) ts.places

-- the same of parts, one after the other
pub record Parts (iss : List (List Identifier)) (ts r : Input) : Type 0 where
  pub so : (js : List Identifier) → Stand js r.places → Stand (joined iss ++ js) ts.places

pub end : {r : Input} → Parts [] r r
end = record { so = λ js a. a }

pub whole : {iss : List (List Identifier)} {ts r : Input} → Parts iss ts r → Sits (joined iss) ts r
whole h = record { so = h.so }

pub go : {is : List Identifier} {iss : List (List Identifier)} {ts m r : Input} → Sits is ts m → Parts iss m r → Parts (is ∷ iss) ts r
go {is} {iss} {ts} h g = record { so = λ js a. subst (λ (x : List Identifier). Stand x ts.places) (sym (append_assoc is (joined iss) js)) (h.so (joined iss ++ js) (g.so js a)) }

pub stay : {iss : List (List Identifier)} {ts m r : Input} → ts ≡ m → Parts iss m r → Parts iss ts r
stay {iss} {ts} {m} {r} e h = subst (λ (x : Input). Parts iss x r) (sym e) h

behind : (is : List Identifier) (ps : List PlacedToken) → Stand is (others ps) → Stand is ps
behind [] ps a = tt
behind (i ∷ is) [] a = a
behind (i ∷ is) (p ∷ ps) a = inr a

pub skip : {iss : List (List Identifier)} {ts m r : Input} → rest ts ≡ m → Parts iss m r → Parts iss ts r
skip {iss} {ts} {m} {r} e h = record { so = λ js a. behind (joined iss ++ js) ts.places (subst (λ (x : Input). Stand (joined iss ++ js) x.places) (sym e) (h.so js a)) }

-- what is known of a child, and of all children of a list
abbrev pub Known : Child → Type 0
Known x = (c : Code) (ts r : Input) → x.produced c ts r → Sits (identifiers x.tree) ts r

abbrev pub AllKnown : List Child → Type 0
AllKnown [] = Unit {0}
AllKnown (x ∷ xs) = Known x × AllKnown xs

-- the names of each
abbrev pub each : List Child → List (List Identifier)
each [] = []
each (x ∷ xs) = identifiers x.tree ∷ each xs

-- what is left out has no names
pub absent_none : (t : Tree) → is_absent t ≡ true → identifiers t ≡ []
absent_none absent e = refl
absent_none _ e = absurd (true≢false (sym e))

hole_none : (t : Tree) → is_hole t ≡ true → identifiers t ≡ []
hole_none hole e = refl
hole_none _ e = absurd (true≢false (sym e))

pub quasi_none : (t : Tree) → is_quasi t ≡ true → identifiers t ≡ []
quasi_none (tpl_element s t w u) e = refl
quasi_none _ e = absurd (true≢false (sym e))

pub gone : {iss : List (List Identifier)} {is : List Identifier} {ts r : Input} → is ≡ [] → Parts iss ts r → Parts (is ∷ iss) ts r
gone {iss} {is} {ts} {r} e h = subst (λ (x : List Identifier). Parts (x ∷ iss) ts r) (sym e) (record { so = h.so })

pub one_of : {P Q R : Type 0} → P ⊎ Q → (P → R) → (Q → R) → R
one_of (inl h) f g = f h
one_of (inr h) f g = g h

pub either : {P Q R : Type 0} (b : Bool) → By b P Q → (b ≡ true → P → R) → (Q → R) → R
either true h f g = f refl h
either false h f g = g h

-- a part that may be left out
pub optional : {P Q : Type 0} {iss : List (List Identifier)} {ts r : Input} (t : Tree) → By (is_absent t) P Q → (P → Parts iss ts r) → (Q → Parts (identifiers t ∷ iss) ts r) → Parts (identifiers t ∷ iss) ts r
optional t h f g = either (is_absent t) h (λ e p. gone (absent_none t e) (f p)) g

pub ended : {iss : List (List Identifier)} {ts m r : Input} (c : Code) (e : ℕ) → Ends c e ts m → Parts iss m r → Parts iss ts r
ended c e (inl h) g = skip h.2 g
ended c e (inr h) g = stay h.2 g

-- what has no names
pub through : {iss : List (List Identifier)} {is : List Identifier} {ts m r : Input} → is ≡ [] → Sits is ts m → Parts iss m r → Parts iss ts r
through {iss} {is} {ts} {m} {r} e h g = record { so = λ js a. subst (λ (x : List Identifier). Stand (x ++ (joined iss ++ js)) ts.places) e (h.so (joined iss ++ js) (g.so js a)) }

-- one part alone
pub single : {is : List Identifier} {ts r : Input} → Parts (is ∷ []) ts r → Sits is ts r
single {is} {ts} h = record { so = λ js a. subst (λ (x : List Identifier). Stand x ts.places) (append_assoc is [] js) (h.so js a) }

-- a word that is a name
word_among : (last : ℕ) (ps : List PlacedToken) (i : Identifier) (js : List Identifier) → is_word (kind_of ps) ≡ true → text_in (content_of ps) ≡ i.sym → lo_of last ps ≡ i.span.lo.0 → Stand js (others ps) → Stand (i ∷ js) ps
word_among last [] i js w t l a = absurd (true≢false (sym w))
word_among last (p ∷ ps) i js w t l a = inl ((w, t, l), a)

pub a_word : (ts r : Input) (s : Span) (n : List ℕ) → is_word (kind ts) ≡ true → text ts ≡ n → rest ts ≡ r → Spans s ts r → Sits (record { sym = n; span = s } ∷ []) ts r
a_word ts r s n w t e p = record { so = λ js a. word_among ts.last ts.places (record { sym = n; span = s }) js w t (sym (ap (λ (x : Span). x.lo.0) p)) (subst (λ (x : Input). Stand js x.places) (sym e) a) }

-- ---- lists with commas

pub only : {iss : List (List Identifier)} {m r : Input} (xs : List Child) → IsEmpty xs → Parts iss m r → Parts (each xs ++ iss) m r
only [] e g = g
only (x ∷ xs) e g = absurd e

module _ (P : Child → Input → Input → Type 0) (f : (x : Child) → Known x → (ts r : Input) → P x ts r → Sits (identifiers x.tree) ts r) where
  after : {iss : List (List Identifier)} {n m r : Input} (holes : Bool) (c : Code) (close : ℕ) (x : Child) (xs : List Child) → ((o : Input) → Listed holes P c close xs o m → Parts (each xs ++ iss) o r)
      → ((is_rest x.tree ≡ false) × (o : Input) × Takes c comma_kind n o × Listed holes P c close xs o m) ⊎ (IsEmpty xs × Takes c close n m) → Parts iss m r → Parts (each xs ++ iss) n r
  after holes c close x xs l (inl k) g = skip k.2.2 (l k.1 k.3)
  after holes c close x xs l (inr k) g = skip k.1.2 (only xs k.0 g)

  pub listed : {iss : List (List Identifier)} {m r : Input} (holes : Bool) (c : Code) (close : ℕ) (xs : List Child) → AllKnown xs → (ts : Input) → Listed holes P c close xs ts m
      → Parts iss m r → Parts (each xs ++ iss) ts r
  listed holes c close [] a ts h g = skip h.2 g
  listed holes c close (x ∷ xs) a ts h g = either (holes && is_hole x.tree) h
      (λ e k. gone (hole_none x.tree (and_second holes (is_hole x.tree) e)) (skip k.1.2 (listed holes c close xs a.1 k.0 k.2 g)))
      (λ k. go (f x a.0 ts k.0 k.1) (after holes c close x xs (λ o l. listed holes c close xs a.1 o l g) k.2 g))

  pub comma_then : {iss : List (List Identifier)} {m r : Input} (c : Code) (xs : List Child) → AllKnown xs → (ts : Input) → CommaThen P c xs ts m → Parts iss m r → Parts (each xs ++ iss) ts r
  comma_then c [] a ts h g = stay h g
  comma_then c (x ∷ xs) a ts h g = skip h.2.2 (go (f x a.0 h.0 h.1 h.3) (comma_then c xs a.1 h.1 h.4 g))

  pub commas : {iss : List (List Identifier)} {m r : Input} (c : Code) (xs : List Child) → AllKnown xs → (ts : Input) → Commas P c xs ts m → Parts iss m r → Parts (each xs ++ iss) ts r
  commas c [] a ts h g = absurd h
  commas c (x ∷ xs) a ts h g = go (f x a.0 ts h.0 h.1) (comma_then c xs a.1 h.0 h.2 g)

-- ---- lists of statements

pub items : {iss : List (List Identifier)} {m r : Input} (may : Tree → Bool) (close : Code → Input → Input → Type 0) (f : (c : Code) (ts : Input) → close c ts m → Parts iss m r → Parts iss ts r)
    (c : Code) (starts : Bool) (ss : List Child) → AllKnown ss → (ts : Input) → Items may close c starts ss ts m → Parts iss m r → Parts (each ss ++ iss) ts r
items may close f c starts [] a ts h g = f c ts h g
items may close f c starts (x ∷ ss) a ts h g = go (a.0 (in_list c) ts h.0 h.2) (items may close f (if starts && is_use_strict x.tree then turned_strict c else c) (starts && is_directive x.tree) ss a.1 h.0 h.3 g)

-- a part with no names behind others
pub among : {ts r : Input} {is : List Identifier} (iss gss : List (List Identifier)) → is ≡ [] → Parts (iss ++ gss) ts r → Parts (iss ++ (is ∷ gss)) ts r
among {ts} {r} {is} iss gss e h = record { so = λ js a. subst (λ (x : List Identifier). Stand (x ++ js) ts.places) (sym (left iss)) (h.so js a) }
  where
    left : (xss : List (List Identifier)) → joined (xss ++ (is ∷ gss)) ≡ joined (xss ++ gss)
    left [] = ap (λ (x : List Identifier). x ++ joined gss) e
    left (x ∷ xss) = ap (λ (z : List Identifier). x ++ z) (left xss)
