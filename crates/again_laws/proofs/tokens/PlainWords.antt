-- Words of ASCII without an escape (ECMA-262, 12.7).
use Rattle.std.proofs.Common.{◌≡◌, ℕ, inl, Bool, true, false, ◌&&◌, List, [], ◌∷◌, ◌++◌, refl, subst, sym}
use Rattle.std.proofs.lemmas.Bool.{and_parts}
use Rattle.std.proofs.lemmas.List.{append-nil}
use Rattle.lex_pieces.specs.Characters.{is_name_start, is_name_part}
use Rattle.lex_pieces.specs.Names.{Spell}
use Rattle.lex_token.specs.declared.goal.LexicalGoal.TheVariants.{Div}
use Rattle.lex_token.specs.Lexemes.{IsLexeme, word_lexeme}
use Rattle.again_laws.proofs.tokens.Ascii.{is_ascii}

unfoldable pub are_parts : List ℕ → Bool
are_parts [] = true
are_parts (c ∷ cs) = is_name_part c && are_parts cs

unfoldable pub is_plain_word : List ℕ → Bool
is_plain_word [] = false
is_plain_word (c ∷ cs) = is_name_start c && (is_ascii (c ∷ cs) && are_parts cs)

pub spell_parts : (cs rest : List ℕ) → are_parts cs ≡ true → Spell false (cs ++ rest) cs rest
unfolding are_parts
spell_parts [] rest e = refl
spell_parts (c ∷ cs) rest e = let p = and_parts (is_name_part c) (are_parts cs) e in (cs ++ rest, (p.0, inl refl), spell_parts cs rest p.1)

-- Such a word is a lexeme.
pub plain_word_is : (c : ℕ) (cs : List ℕ) → is_plain_word (c ∷ cs) ≡ true → IsLexeme Div (c ∷ cs) (word_lexeme (c ∷ cs) false) []
unfolding is_plain_word
plain_word_is c cs e =
    let p = and_parts (is_name_start c) _ e in
    let q = and_parts (is_ascii (c ∷ cs)) (are_parts cs) p.1 in
    inl (inl (c ∷ cs, false, ((λ (n : c ∷ cs ≡ []). cc), (cs, (p.0, inl refl), subst (λ (l : List ℕ). Spell false l cs []) (append-nil cs) (spell_parts cs [] q.1)), tt), sym (append-nil (c ∷ cs)), refl))
