-- A list hands out its tokens, and no slash of it is read again; so a reading is settled by the list.
use Rattle.std.proofs.Common.{◌≡◌, ℕ, Bool, true, false, ◌&&◌, ◌||◌, cond, eqb, List, [], ◌∷◌, Option, None, Some, Result, Ok, Err, inl, inr, refl, sym, ap, ◌∙◌, subst, true≢false, eqb-true, arith, le_refl}
use Rattle.base_proofs.proofs.Bools.{and_second, and_first}
use Rattle.base_proofs.proofs.Lists.{nil_not_cons, cons_not_nil}
use Rattle.base_token.specs.Kinds.{template_kind, regex_kind, error_kind}
use Rattle.base_token.specs.Tokens.{Spot}
use Rattle.base_token.specs.declared.syntax.EsSyntax.{EsSyntax}
use Rattle.lex_source.specs.Machine.{Source}
use Rattle.lex_source.specs.Settings.{Settings}
use Rattle.lex_other_sources.specs.Lists.{list_step, list_machine}
use Rattle.tree_spec.specs.Tree.{Tree}
use Rattle.grammar_spec.specs.Tokens.Input.{PlacedToken}
use Rattle.grammar_laws.specs.CompleteBase.Laws.{InOrder}
use Rattle.grammar_spec.specs.Reader.Source.{Fault, Unexpected, TooDeep}
use Rattle.parse_state.specs.Cursors.{Cursor, place_of, places, asked, in_place, same_break, read_on, reread_by, operand_by, stream_of}
use Rattle.parse_source_laws.specs.Sources.{is_slash, HandsOut}
use Rattle.parse_lexer_laws.specs.Constant.{Falls}
use Rattle.parse_laws.specs.Parsed.{DerivesList}
use Rattle.parse_laws.specs.Exact.{read_within}
use Rattle.parse_laws.specs.Settled.{SettledBy, Settled}
use Rattle.parse_laws.proofs.SettledLemmas.{first_settled}
use Rattle.parse_laws.specs.Judged.{JudgedBy}
use Rattle.parse_laws.specs.ListRead.{AnyList, SameList, ListConstant, seen, ListHands, ReadsList, ListSettled, ListsSettled}

-- ---- a list is a source whose tokens no code changes

list_falls : (spots : List Spot) (settings : Settings) → Falls (list_step spots settings).0 (list_machine.bound spots) (list_machine.bound (list_step spots settings).1.tokens)
list_falls [] settings = le_refl _
list_falls (t ∷ ts) settings = omega arith

first_same : (xs ys : List Spot) (x y : Settings) → xs ≡ ys → (list_step xs x).0 ≡ (list_step ys y).0
first_same [] ys x y e = ap (λ (z : List Spot). (list_step z y).0) e
first_same (t ∷ ts) ys x y e = ap (λ (z : List Spot). (list_step z y).0) e

rest_same : (xs ys : List Spot) (x y : Settings) → xs ≡ ys → (list_step xs x).1.tokens ≡ (list_step ys y).1.tokens
rest_same [] ys x y e = ap (λ (z : List Spot). (list_step z y).1.tokens) e
rest_same (t ∷ ts) ys x y e = ap (λ (z : List Spot). (list_step z y).1.tokens) e

pub list_constant : ListConstant
list_constant modules = record {
  falls = λ s g. list_falls s.tokens s.settings;
  good_step = λ s g. tt;
  good_asked = λ place s g. tt;
  good_told = λ x s e g. tt;
  same_first = λ s t e. first_same s.tokens t.tokens s.settings t.settings e;
  same_step = λ s t e. rest_same s.tokens t.tokens s.settings t.settings e;
  same_asked = λ place s t e. e;
  same_back = λ s t e. sym e;
  same_told = λ x s e g. refl;
}

-- ---- it hands out its tokens

all : (spots : List Spot) (settings : Settings) (last : ℕ) → HandsOut (stream_of list_machine) (seen spots) (read_on (list_step spots settings) last)
unfolding stream_of
all [] settings last = refl
all (t ∷ ts) settings last = inl (places list_machine 1 (list_step ts settings).0 (Some (list_step ts settings).1), refl, all ts settings t.hi)

-- ---- and no others

abbrev first_or : PlacedToken → List PlacedToken → PlacedToken
first_or d [] = d
first_or d (p ∷ ps) = p

-- a slash is no template's characters
no_template : (k : ℕ) → is_slash k ≡ true → k ≡ template_kind → ⊥
no_template k s e = true≢false (sym s ∙ ap (λ (z : ℕ). is_slash z) e)

-- the token behind a slash begins behind it
apart : (t u : Spot) (us : List Spot) (start : ℕ) → InOrder start (seen (t ∷ u ∷ us)) → is_slash t.token.kind ≡ true → in_place t (Some u) ≡ true → ⊥
apart t u us start o k i = let z = o.2 (no_template t.token.kind k) in let y = o.3.0 in
    let e = eqb-true u.lo t.lo (and_first (eqb u.lo t.lo) (same_break u.line_break t.line_break) (and_second (eqb u.token.kind regex_kind || eqb u.token.kind error_kind) (eqb u.lo t.lo && same_break u.line_break t.line_break) i)) in
    omega (arith, z, y, e)

-- so a slash stays
module _ (t : Spot) (settings : Settings) (last start : ℕ) where
  abbrev Stays : List Spot → Type 0
  Stays ts = operand_by list_machine (Some t) (Some (record { tokens = ts; settings = settings })) (read_on (list_step (t ∷ ts) settings) last) ≡ read_on (list_step (t ∷ ts) settings) last

  module _ (ts : List Spot) where
    abbrev q : Cursor (List Spot)
    q = read_on (list_step (t ∷ ts) settings) last

    abbrev x : Option Spot × Source (List Spot)
    x = list_machine.step (asked (Some t.lo) (record { tokens = ts; settings = settings }))

    by_place : (b : Bool) → in_place t x.0 ≡ b → (in_place t x.0 ≡ true → ⊥) → reread_by t x q ≡ q
    by_place true e n = absurd (n e)
    by_place false e n = ap (λ (b : Bool). cond b (read_on (x.0, asked None x.1) last) q) e

    by_kind : (b : Bool) → is_slash t.token.kind ≡ b → (is_slash t.token.kind ≡ true → in_place t x.0 ≡ true → ⊥) → Stays ts
    by_kind true e n = ap (λ (b : Bool). cond b (reread_by t x q) q) e ∙ by_place (in_place t x.0) refl (n e)
    by_kind false e n = ap (λ (b : Bool). cond b (reread_by t x q) q) e

  stays : (ts : List Spot) → InOrder start (seen (t ∷ ts)) → Stays ts
  stays [] o = by_kind [] (is_slash t.token.kind) refl (λ k e. true≢false (sym e))
  stays (u ∷ us) o = by_kind (u ∷ us) (is_slash t.token.kind) refl (λ k e. apart t u us start o k e)

no_other : (spots : List Spot) (settings : Settings) (start last : ℕ) (ps : List PlacedToken) → InOrder start (seen spots) → HandsOut (stream_of list_machine) ps (read_on (list_step spots settings) last) → ps ≡ seen spots
unfolding stream_of
no_other [] settings start last [] o h = refl
no_other [] settings start last (p ∷ ps) o (inl h) = absurd (nil_not_cons p h.0 h.1)
no_other [] settings start last (p ∷ ps) o (inr h) = absurd (nil_not_cons h.0 h.1 h.3)
no_other (t ∷ ts) settings start last [] o h = absurd (cons_not_nil (place_of t) (places list_machine 1 (list_step ts settings).0 (Some (list_step ts settings).1)) h)
no_other (t ∷ ts) settings start last (p ∷ ps) o (inl h) = ap (λ (z : List PlacedToken). first_or p z ∷ ps) (sym h.1) ∙ ap (λ (zs : List PlacedToken). place_of t ∷ zs) (no_other ts settings t.hi t.hi ps o.3 h.2)
no_other (t ∷ ts) settings start last (p ∷ ps) o (inr h) = absurd (true≢false (sym slash ∙ ap (λ (z : ℕ). is_slash z) (ap (λ (z : PlacedToken). z.spot.token.kind) same ∙ h.4.1)))
  where
    here : place_of t ≡ h.0
    here = ap (λ (z : List PlacedToken). first_or (place_of t) z) h.3

    slash : is_slash t.token.kind ≡ true
    slash = ap (λ (z : PlacedToken). is_slash z.spot.token.kind) here ∙ h.4.0

    stands : Cursor (List Spot)
    stands = read_on (list_step (t ∷ ts) settings) last

    same : place_of t ≡ p
    same = ap (λ (z : List PlacedToken). first_or (place_of t) z) (subst (λ (q : Cursor (List Spot)). places list_machine 2 q.first q.behind ≡ p ∷ h.2) (stays t settings last start ts o) h.5)

pub list_hands : ListHands
list_hands = record {
  all = λ spots settings last. all spots settings last;
  no_other = λ spots settings start last ps o h. no_other spots settings start last ps o h;
}

-- ---- a reading

module _ (limit : ℕ) (modules : Bool) (syntax : EsSyntax) (start : ℕ) (spots : List Spot) (settings : Settings) (o : InOrder start (seen spots)) where
  abbrev first : Cursor (List Spot)
  first = read_on (list_step spots settings) start

  reads : (t : Tree) (ps : List PlacedToken) → HandsOut (stream_of list_machine) ps first → DerivesList false modules syntax start ps t → ReadsList modules syntax start spots t
  reads t ps h d = subst (λ (xs : List PlacedToken). DerivesList false modules syntax start xs t) (no_other spots settings start start ps o h) d

  list_by : (x : Result Tree Fault) → SettledBy (stream_of list_machine) limit modules syntax first x → JudgedBy (ReadsList modules syntax start spots) limit x
  unfolding stream_of
  list_by (Ok t) h = record { reads = reads t h.places h.handed h.derived; within = h.within; only = λ u d. h.only false (seen spots) u (all spots settings start) o d }
  list_by (Err (Unexpected n)) h = λ u d. h false (seen spots) u (all spots settings start) o d
  list_by (Err (TooDeep n)) h = λ u d. h false (seen spots) u (all spots settings start) o d

  list_settled : Settled (stream_of list_machine) limit modules syntax first → ListSettled modules syntax start spots limit (read_within (stream_of list_machine) limit modules syntax first)
  unfolding stream_of
  list_settled h = record {
    read = list_by (read_within (stream_of list_machine) limit modules syntax first) h.read;
    found = λ t d i. h.found false (seen spots) t (all spots settings start) o d i;
  }

pub lists_settled : ListsSettled
lists_settled limit modules syntax start spots settings o = list_settled limit modules syntax start spots settings o
    (first_settled list_machine AnyList SameList modules (list_constant modules) limit syntax (record { tokens = spots; settings = settings }) start tt)
