-- The names of what is derived come in the order of their places.
use Rattle.std.proofs.Common.{◌≡◌, ◌≤◌, inl, inr, ℕ, suc, true, List, [], ◌∷◌, map, append-nil, sym, ap, ◌∙◌, subst, true≢false, arith}
use Rattle.base_token.specs.Kinds.{template_kind}
use Rattle.tree_program_spec.specs.Names.Names.{Name, Identifier, names, identifiers, name_of}
use Rattle.grammar_spec.specs.Tokens.Input.{PlacedToken, is_word}
use Rattle.grammar_laws.specs.CompleteBase.Laws.{InOrder}
use Rattle.grammar_text_laws.proofs.Ordered.{places_in_order}
use Rattle.grammar_text_spec.specs.Text.{text_start}
use Rattle.again_laws.specs.Names.{Among, Ascend, NamesAreTokens, NamesAscend, NamesOfTextsAscend}
use Rattle.again_laws.proofs.names.Sits.{Stand}
use Rattle.again_laws.proofs.names.Found.{found}

among : (is : List Identifier) (ps : List PlacedToken) → Stand is ps → Among (map name_of is) ps
among [] ps a = tt
among (i ∷ is) [] a = a
among (i ∷ is) (p ∷ ps) (inl a) = inl (a.0, among is ps a.1)
among (i ∷ is) (p ∷ ps) (inr a) = inr (among (i ∷ is) ps a)

pub names_are_tokens : NamesAreTokens
names_are_tokens t c ts r d = among (identifiers t) ts.places (subst (λ (is : List Identifier). Stand is ts.places) (append-nil (identifiers t)) ((found t c ts r d).so [] tt))

from : (m n : ℕ) (ns : List Name) → m ≤ n → Ascend n ns → Ascend m ns
from m n [] l a = tt
from m n (x ∷ xs) l a = (omega (arith, l, a.0), a.1)

no_template : (k : ℕ) → is_word k ≡ true → k ≡ template_kind → ⊥
no_template k w e = true≢false (sym w ∙ ap (λ (x : ℕ). is_word x) e)

ascending : (n : ℕ) (ns : List Name) (ps : List PlacedToken) → InOrder n ps → Among ns ps → Ascend n ns
ascending n [] ps o a = tt
ascending n (x ∷ xs) [] o a = absurd a
ascending n (x ∷ xs) (p ∷ ps) o (inl a) =
    let l = o.2 (no_template p.spot.token.kind a.0.0) in
    (subst (λ (i : ℕ). n ≤ i) a.0.2 o.0, from (suc x.at) p.spot.hi xs (subst (λ (i : ℕ). suc i ≤ p.spot.hi) a.0.2 l) (ascending p.spot.hi xs ps o.3 a.1))
ascending n (x ∷ xs) (p ∷ ps) o (inr a) = from n p.spot.hi (x ∷ xs) (omega (arith, o.0, o.1)) (ascending p.spot.hi (x ∷ xs) ps o.3 a)

pub names_ascend : NamesAscend
names_ascend t c n ts r o d = ascending n (names t) ts.places o (names_are_tokens t c ts r d)

pub names_of_texts_ascend : NamesOfTextsAscend
names_of_texts_ascend modules syntax t text h = ascending text_start (names t) h.0 (places_in_order text_start modules text h.0 h.3) (names_are_tokens t _ (record { last = text_start; places = h.0 }) h.1 h.4.0)
