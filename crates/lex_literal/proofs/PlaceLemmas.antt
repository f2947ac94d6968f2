-- Where the bytes of a text are cut before the rest of its characters.
use Rattle.std.proofs.Common.{◌≡◌, ℕ, ◌+◌, ◌-◌, ◌≤◌, List, ◌++◌, length, length-append, take, refl, sym, ap, subst, ◌∙◌, arith, IsUtf8, IsCharBoundary}
use Rattle.std.proofs.lemmas.List.{take_at}
use Rattle.std.proofs.lemmas.Str.{encodes-chars, encodes-append, chars-append, IsUtf8-take, IsCharBoundary-at_seam}
use Rattle.std.specs.Str.{chars}
use lib.Utf8.{encodes}
use Rattle.lex_literal.specs.Places.{EndsWith}

pub record Seam (text rest : List ℕ) : Type 0 where
  pub shorter : length rest ≤ length text
  pub boundary : IsCharBoundary text (length text - length rest)
  pub parts : chars text ≡ chars (take (length text - length rest) text) ++ chars rest

pub seam : (text rest : List ℕ) → IsUtf8 text → IsUtf8 rest → EndsWith (chars text) (chars rest) → Seam text rest
seam text rest u v e =
    let front = e.0 in
    let own = encodes front in
    let split : text ≡ own ++ rest = sym (encodes-chars text u) ∙ ap encodes e.1 ∙ encodes-append front (chars rest) ∙ ap (λ l. own ++ l) (encodes-chars rest v) in
    let lengths : length text ≡ length own + length rest = ap length split ∙ length-append own rest in
    let at : length own ≡ length text - length rest = omega arith in
    let b : IsCharBoundary text (length own) = IsCharBoundary-at_seam text own rest split v in
    let cut : take (length own) text ≡ own = ap (take (length own)) split ∙ take_at own rest (length own) refl in
    let is_text : IsUtf8 own = subst IsUtf8 cut (IsUtf8-take text (length own) u b) in
    record {
      shorter = omega arith;
      boundary = subst (IsCharBoundary text) at b;
      parts = ap chars split ∙ chars-append own rest is_text ∙ ap (λ l. chars l ++ chars rest) (sym cut) ∙ ap (λ n. chars (take n text) ++ chars rest) at;
    }
