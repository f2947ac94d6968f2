-- Small texts that are spelled, whatever parts of the language are on, where the limit lets them.
use Rattle.std.proofs.Common.{◌≡◌, ◌≤◌, ℕ, Bool, true, false, ◌==◌, List, [], ◌∷◌, None, inl, inr, refl, sym, ap, ◌∙◌, true≢false}
use Rattle.base_token.specs.declared.token.TokenKind.TheVariants.{Semi}
use Rattle.base_token.specs.Kinds.{semicolon_kind}
use Rattle.base_token.specs.Tokens.{Bare, bare}
use Rattle.lex_pieces.specs.declared.trivia.Goal.{Goal}
use Rattle.lex_pieces.specs.declared.trivia.Goal.TheVariants.{Script, Module}
use Rattle.lex_pieces.specs.Trivia.{NoHashbang, IsSkipped}
use Rattle.lex_token.specs.Lexemes.{plain}
use Rattle.lex_pieces.specs.ReadingTrivia as trivia
use Rattle.lex_pieces.proofs.TriviaLemmas.{no_trivia}
use Rattle.lex_pieces.proofs.Longest.{is_read}
use Rattle.tree_spec.specs.Tree.{Tree, none, more, script, es_module, empty_stmt}
use Rattle.grammar_spec.specs.Tokens.Input.{PlacedToken, span, no_context, div_goal}
use Rattle.grammar_spec.specs.Tokens.Shape.{is_clean}
use Rattle.grammar_spec.specs.Judge.Early.{early_errors, faults_in}
use Rattle.grammar_text_spec.specs.Text.{Setting, TreeSpells}

-- the first character of a text
abbrev first_is : List ℕ → ℕ
first_is [] = 0
first_is (c ∷ cs) = c

no_hashbang : (text : List ℕ) → (first_is text == 35) ≡ false → NoHashbang text
no_hashbang text h inner e = true≢false (sym (ap (λ (l : List ℕ). first_is l == 35) e) ∙ h)

-- no trivia is left at the end
nothing_left : (goal : Goal) (first : Bool) → IsSkipped goal first [] false []
nothing_left Script true = ([], (refl, no_trivia Script true [] refl), refl)
nothing_left Script false = ([], (refl, no_trivia Script false [] refl), refl)
nothing_left Module true = ([], (refl, no_trivia Module true [] refl), refl)
nothing_left Module false = ([], (refl, no_trivia Module false [] refl), refl)

-- the empty text, as a script and as a module
empty_script : (x : Setting) → 1 ≤ x.limit → TreeSpells x false (script (span 1 1) none None) []
unfolding early_errors faults_in is_clean
empty_script x le = record {
  reads = ([], record { last = 1; places = [] }, refl, inl (no_hashbang [] refl, (false, nothing_left Script true)), ((record { last = 1; places = [] }, refl, (refl, refl), refl), refl));
  clean = refl;
  within = le;
}

empty_module : (x : Setting) → 1 ≤ x.limit → TreeSpells x true (es_module (span 1 1) none None) []
unfolding early_errors faults_in is_clean
empty_module x le = record {
  reads = ([], record { last = 1; places = [] }, refl, inl (no_hashbang [] refl, (false, nothing_left Module true)), ((record { last = 1; places = [] }, refl, (refl, refl), refl), refl));
  clean = refl;
  within = le;
}

-- `;`
abbrev semicolon : PlacedToken
semicolon = record { spot = record { token = record { kind = semicolon_kind; content = Bare }; line_break = false; lo = 1; hi = 2 }; escaped = false; goal = div_goal; context = no_context }

abbrev semicolon_script : Tree
semicolon_script = script (span 1 2) (more (empty_stmt (span 1 2)) none) None

one_semicolon : (x : Setting) → 2 ≤ x.limit → TreeSpells x false semicolon_script (59 ∷ [])
unfolding early_errors faults_in is_clean trivia.read_by lib.Utf8.encode
one_semicolon x le = record {
  reads = (
    semicolon ∷ [],
    record { last = 2; places = [] },
    refl,
    inl (no_hashbang (59 ∷ []) refl, ([], (false, 59 ∷ [], plain (bare semicolon_kind), ([], (refl, no_trivia Script true (59 ∷ []) refl), refl), inr (inr (refl, (Semi, is_read (59 ∷ []) Semi [] refl, refl))), refl, refl), (false, nothing_left Script false))),
    ((record { last = 1; places = semicolon ∷ [] }, refl, (record { last = 2; places = [] }, refl, ((refl, (refl, refl), refl), refl), (refl, refl)), refl), refl),
  );
  clean = refl;
  within = le;
}
