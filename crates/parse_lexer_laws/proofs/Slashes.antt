-- A lexer knows the text of a slash that was its last token, and reads it again in its place.
use Rattle.std.proofs.Common.{◌≡◌, ◌⊎◌, ⊎_elim, ℕ, Bool, true, false, cond, List, [], ◌∷◌, Option, Some, None, inl, inr, refl, sym, ap, ◌∙◌, subst}
use Rattle.std.specs.Prelude.{◌==◌}
use Rattle.std.proofs.lemmas.Bool.{cases_Bool, false≢true, eqb-true}
use Rattle.std.proofs.lemmas.Option.{same_Some}
use Rattle.base_proofs.proofs.Bools.{eqb_same}
use Rattle.base_token.specs.Kinds.{error_kind, regex_kind, template_kind}
use Rattle.base_token.specs.Tokens.{Spot}
use Rattle.lex_literal.specs.Escapes.{begins}
use Rattle.lex_literal.specs.Numbers.{is_number_start}
use Rattle.lex_literal.specs.Strings.{is_quote}
use Rattle.lex_literal.specs.declared.template.Ending.{Ending}
use Rattle.lex_literal.specs.declared.template.Ending.TheVariants.{BackQuote, Substitution}
use Rattle.lex_literal.proofs.NumeralLemmas.{numeral_starts}
use Rattle.lex_token.specs.declared.goal.LexicalGoal.{LexicalGoal}
use Rattle.lex_token.specs.declared.goal.LexicalGoal.TheVariants.{Div, RegExp, TemplateTail, TemplateEnd}
use Rattle.lex_token.specs.Lexemes.{SpecLexeme, IsLexeme, IsOrdinary, ending_kind}
use Rattle.lex_token.specs.Sorts as lexeme
use Rattle.lex_token.proofs.SortLemmas.{pattern_sort, sort_word, string_begins, word_begins}
use Rattle.lex_step_laws.specs.States.{Last, Start, Slash, Characters, Fault, Other, State, again, again_by, faulty, last_after, place, shebang, spot_at, template_goal}
use Rattle.lex_step_laws.specs.Steps.{IsRead, IsPlain, IsFirst, IsOutside, IsGoing, IsStepBy, IsStepOf}
use Rattle.lex_step_laws.proofs.Bounds.{no_slash}
use Rattle.lex_step_laws.proofs.Steps.{always_steps}
use Rattle.ecma_lexer.specs.Machine.{step_of, lexer_machine}
use Rattle.parse_state.specs.Cursors.{asked, told_of, in_place}
use Rattle.parse_source_laws.specs.Sources.{is_slash}
use Rattle.parse_lexer_laws.specs.Lexed.{OfGoal, SameText}
use Rattle.parse_lexer_laws.proofs.Lexes.{lexer_constant}
use Rattle.parse_lexer_laws.proofs.Takes.{in_place_at}
use Rattle.parse_lexer_laws.proofs.Backward.{tokens_consumed}
use Rattle.parse_lexer_laws.specs.Standing.{LastToken, LexerRereads, LexerConsumed}

-- ---- a slash begins with a slash, and under the goal RegExp with it begins a regular expression

abbrev starts : List ℕ → Bool
starts text = begins lexeme.is_slash text

pub ending_apart : (e : Ending) → is_slash (ending_kind e) ≡ false
ending_apart BackQuote = refl
ending_apart Substitution = refl

-- a token of the goal Div that begins with no slash is one of the goal RegExp
pub either_goal : (text : List ℕ) (x : SpecLexeme) (rest : List ℕ) → starts text ≡ false → IsLexeme Div text x rest → IsLexeme RegExp text x rest
either_goal text x rest n (inl h) = inl h
either_goal text x rest n (inr (inl h)) = absurd (false≢true h.0)
either_goal text x rest n (inr (inr h)) = inr (inr (n, h.1))

starts_div : (text : List ℕ) (x : SpecLexeme) (rest : List ℕ) → IsLexeme Div text x rest → is_slash x.token.kind ≡ true → (b : Bool) → starts text ≡ b → starts text ≡ true
starts_div text x rest h e true i = i
starts_div text x rest h e false i = absurd (false≢true (sym (no_slash text x rest (either_goal text x rest i h)) ∙ e))

starts_so : (goal : LexicalGoal) (text : List ℕ) (x : SpecLexeme) (rest : List ℕ) → IsLexeme goal text x rest → is_slash x.token.kind ≡ true → starts text ≡ true
starts_so Div text x rest h e = starts_div text x rest h e (starts text) refl
starts_so RegExp text x rest h e = absurd (false≢true (sym (no_slash text x rest h) ∙ e))
starts_so TemplateTail text x rest h e = absurd (false≢true (sym (ap (λ (z : SpecLexeme). is_slash z.token.kind) h.6) ∙ e))
starts_so TemplateEnd text x rest h e = absurd (false≢true (sym (ap (λ (z : SpecLexeme). is_slash z.token.kind) h.2 ∙ ending_apart h.0) ∙ e))

not_at : (P : ℕ → Bool) (c : ℕ) → (c == 47) ≡ true → P 47 ≡ false → P c ≡ true → ⊥
not_at P c e n h = false≢true (sym n ∙ (ap P (sym (eqb-true c 47 e)) ∙ h))

pub not_ordinary : (text : List ℕ) (x : SpecLexeme) (rest : List ℕ) → starts text ≡ true → IsOrdinary text x rest → ⊥
not_ordinary [] x rest e h = false≢true e
not_ordinary (c ∷ cs) x rest e (inl h) = let q = sym (sort_word RegExp (c ∷ cs) (word_begins (c ∷ cs) h.0 rest h.2)) ∙ pattern_sort RegExp c cs e in cc
not_ordinary (c ∷ cs) x rest e (inr (inl h)) = not_at (λ z. is_number_start (z ∷ cs)) c e refl (numeral_starts h.0 h.1 (c ∷ cs) rest h.2)
not_ordinary (c ∷ cs) x rest e (inr (inr h)) = not_at is_quote c e refl (string_begins h.0 h.2 (c ∷ cs) rest h.3)

reads_pattern : (text : List ℕ) (x : SpecLexeme) (rest : List ℕ) → starts text ≡ true → IsLexeme RegExp text x rest → x.token.kind ≡ regex_kind
reads_pattern text x rest e (inl h) = absurd (not_ordinary text x rest e h)
reads_pattern text x rest e (inr (inl h)) = ap (λ (z : SpecLexeme). z.token.kind) h.1.3
reads_pattern text x rest e (inr (inr h)) = absurd (false≢true (sym h.0 ∙ e))

-- ---- a slash is the last token behind it

pub slash_last : (kind : ℕ) (from : List ℕ) → is_slash kind ≡ true → last_after kind from ≡ Slash from
slash_last kind from e = ⊎_elim
    (λ (t : (kind == template_kind) ≡ true). absurd (false≢true (sym (ap (λ (k : ℕ). is_slash k) (eqb-true kind template_kind t)) ∙ e)))
    (λ (f : (kind == template_kind) ≡ false). rw f (rw e refl))
    (cases_Bool (kind == template_kind))

module _ (s new : State) (out : Option Spot) where
  no_last : (x : Spot) → is_slash x.token.kind ≡ false → out ≡ Some x → LastToken out new
  no_last x n e = subst (λ z. LastToken z new) (sym e) (λ y. absurd (false≢true (sym n ∙ y)))

  ends_last : out ≡ None → LastToken out new
  ends_last e = subst (λ z. LastToken z new) (sym e) tt

  read_last : (goal : LexicalGoal) (b : Bool) (from : List ℕ) → IsRead goal b from s out new → LastToken out new
  read_last goal b from (inl h) = subst (λ z. LastToken z new) (sym h.3) (subst (λ z. LastToken (Some (spot_at s.tokens.end b h.0.token from h.1)) z) (sym h.4)
      (λ e. (from, slash_last h.0.token.kind from e, starts_so goal from h.0 h.1 h.2 e, refl, refl)))
  read_last goal b from (inr (inl h)) = no_last (faulty s.tokens.end b from) refl h.2
  read_last goal b from (inr (inr h)) = ends_last h.1

  plain_last : IsPlain s out new → LastToken out new
  plain_last (inl h) = read_last Div h.0 h.1 h.3
  plain_last (inr h) = no_last (faulty s.tokens.end false h.0) refl h.2

  first_last : IsFirst s out new → LastToken out new
  first_last (inl h) = no_last (spot_at s.tokens.end false (shebang h.0).token s.tokens.left h.1) refl h.3
  first_last (inr h) = plain_last h.1

  outside_last : (last : Last) → IsOutside last s out new → LastToken out new
  outside_last Start h = first_last h
  outside_last (Slash from) h = plain_last h
  outside_last Characters h = plain_last h
  outside_last Fault h = plain_last h
  outside_last Other h = plain_last h

  going_last : (goal : Option LexicalGoal) → IsGoing goal s out new → LastToken out new
  going_last (Some goal) h = read_last goal _ _ h
  going_last None h = outside_last s.tokens.last h

  by_last : (from : Option (List ℕ)) → IsStepBy from s out new → LastToken out new
  by_last (Some from) h = read_last RegExp _ from h
  by_last None h = going_last (template_goal s.settings.contexts s.tokens.last) h

  of_last : (last : Last) → IsStepOf last s out new → LastToken out new
  of_last Start h = by_last (again s) h
  of_last (Slash from) h = by_last (again s) h
  of_last Characters h = by_last (again s) h
  of_last Fault h = ends_last h.0
  of_last Other h = by_last (again s) h

step_last : (s : State) → LastToken (step_of s).0 (step_of s).1
unfolding step_of
step_last s = of_last s (always_steps s).1 (always_steps s).0 s.tokens.last (always_steps s).2.is

told_last : (f : Option Spot) (s r : State) → s.tokens ≡ r.tokens → LastToken f s → LastToken f r
told_last None s r e h = tt
told_last (Some t) s r e h = λ k. let l = h k in (l.0, sym (ap (λ z. z.last) e) ∙ l.1, l.2, l.3 ∙ ap (λ z. place z.end l.0) e, l.4 ∙ ap (λ z. z.line_break) e)

-- ---- a slash that is read again

no_some : (x : Spot) → None ≡ Some x → ⊥
no_some x e = cc

module _ (t p : Spot) (s new : State) (from : List ℕ) (b : Bool) (k : is_slash t.token.kind ≡ true) (starts_here : starts from ≡ true) (lo : t.lo ≡ place s.tokens.end from) (breaks : t.line_break ≡ b) where
  -- a token that begins there, with this mark
  there : p.lo ≡ place s.tokens.end from → p.line_break ≡ b → ((p.token.kind ≡ regex_kind) ⊎ (p.token.kind ≡ error_kind)) → in_place t (Some p) ≡ true
  there i j h = in_place_at t p (i ∙ sym lo) (j ∙ sym breaks) h

  read_again : (out : Option Spot) → out ≡ Some p → IsRead RegExp b from s out new → in_place t (Some p) ≡ true
  read_again out e (inl h) = let q = same_Some _ _ (sym e ∙ h.3) in
      there (ap (λ (z : Spot). z.lo) q) (ap (λ (z : Spot). z.line_break) q) (inl (ap (λ (z : Spot). z.token.kind) q ∙ reads_pattern from h.0 h.1 starts_here h.2))
  read_again out e (inr (inl h)) = let q = same_Some _ _ (sym e ∙ h.2) in there (ap (λ (z : Spot). z.lo) q) (ap (λ (z : Spot). z.line_break) q) (inr (ap (λ (z : Spot). z.token.kind) q))
  read_again out e (inr (inr h)) = absurd (no_some p (sym h.1 ∙ e))

again_from : (a : State) (last : Last) (from : List ℕ) (n : ℕ) → last ≡ Slash from → n ≡ place a.tokens.end from → again_by last (Some n) a.tokens.end ≡ Some from
again_from a last from n e i = ap (λ z. again_by z (Some n) a.tokens.end) e ∙ (ap (λ (z : ℕ). again_by (Slash from) (Some z) a.tokens.end) i ∙ ap (λ (y : Bool). cond y (Some from) None) (eqb_same (place a.tokens.end from)))

slash_again : (t p : Spot) (s : State) → LastToken (Some t) s → is_slash t.token.kind ≡ true → (step_of (asked (Some t.lo) s)).0 ≡ Some p → in_place t (Some p) ≡ true
unfolding step_of
slash_again t p s l k e = let a = asked (Some t.lo) s in let h = l k in read_again t p a (always_steps a).1 h.0 s.tokens.line_break k h.2 h.3 h.4 (always_steps a).0 e
    (subst (λ (z : Option (List ℕ)). IsStepBy z a (always_steps a).0 (always_steps a).1) (again_from a s.tokens.last h.0 t.lo h.1 h.3)
    (subst (λ (z : Last). IsStepOf z a (always_steps a).0 (always_steps a).1) h.1 (always_steps a).2.is))

pub lexer_rereads : LexerRereads
lexer_rereads = record {
  last_step = λ s. step_last s;
  last_asked = λ place f s h. told_last f s (asked place s) refl h;
  last_told = λ x f s h. told_last f s (told_of x s) refl h;
  reread = λ t p s l k e. slash_again t p s l k e;
}

pub lexer_consumed : LexerConsumed
lexer_consumed modules depth syntax q t b e = tokens_consumed lexer_machine (OfGoal modules) SameText modules (lexer_constant modules) depth syntax q t b e
