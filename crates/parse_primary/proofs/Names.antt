-- A name that is no word of the grammar, and `async`, start an expression as any other word does.
use Rattle.std.proofs.Common.{◌≡◌, ℕ, true, refl}
use Rattle.std.proofs.lemmas.Bool.{eqb-true}
use Rattle.base_token.specs.Kinds.{async_kind, name_kind}
use Rattle.grammar_spec.specs.Tokens.Input.{Code, kind}
use Rattle.grammar_spec.specs.Reader.Source.{Stream, State, Inner, input, at}
use Rattle.grammar_spec.specs.Reader.Expressions.{keyword_by, word_by}

pub plain_word : {S : Type 0} (m : Stream S) (inner : Inner S) (c : Code) (l : ℕ) (s : State S) → at m name_kind s ≡ true → keyword_by m inner c l s ≡ word_by m inner c l s
unfolding keyword_by
plain_word m inner c l s h = let e : kind (input m s) ≡ name_kind = eqb-true (kind (input m s)) name_kind h in rw e refl

pub async_word : {S : Type 0} (m : Stream S) (inner : Inner S) (c : Code) (l : ℕ) (s : State S) → at m async_kind s ≡ true → keyword_by m inner c l s ≡ word_by m inner c l s
unfolding keyword_by
async_word m inner c l s h = let e : kind (input m s) ≡ async_kind = eqb-true (kind (input m s)) async_kind h in rw e refl
