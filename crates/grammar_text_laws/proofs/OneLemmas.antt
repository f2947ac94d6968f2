-- At most one tree spells a text.
use Rattle.std.proofs.Common.{◌≡◌, ◌<◌, ◌⊎◌, inl, inr, ℕ, ◌+◌, Bool, true, false, List, [], ◌∷◌, ◌++◌, Option, Result, Ok, Err, refl, sym, ap, ◌∙◌, subst, true≢false, arith}
use Rattle.base_token.specs.declared.place.Span.{Span}
use Rattle.base_token.specs.declared.syntax.EsSyntax.{EsSyntax}
use Rattle.tree_spec.specs.Tree.{Tree, Trees, script, es_module}
use Rattle.grammar_text_spec.specs.Nesting.{nesting}
use Rattle.grammar_text_spec.specs.Program.{program}
use Rattle.grammar_spec.specs.Tokens.Input.{PlacedToken, Input, script_code, module_code}
use Rattle.grammar_spec.specs.Reader.Source.{Fault, Unexpected, TooDeep}
use Rattle.grammar_spec.specs.Reader.Reading.{read_list}
use Rattle.grammar_spec.specs.Grammar.{Derives}
use Rattle.grammar_text_laws.proofs.Passed.{Decided, SameTokens, modules_complete, scripts_complete, bare, bared, bare_same, bared_order, strip, one_script_of_tokens, one_module_of_tokens}
use Rattle.grammar_laws.proofs.slash.SlashLemmas.{slashes_told}
use Rattle.grammar_laws.proofs.slash.Braces.{programs_match}
use Rattle.grammar_text_spec.specs.Text.{Reads, text_start}
use Rattle.grammar_text_spec.specs.Tiled.{Tile}
use Rattle.grammar_text_laws.proofs.Ordered.{places_in_order}
use Rattle.grammar_text_laws.specs.OneLaws.{OneTreeReads, OneTreeSpells, OneProgramSpells}
use Rattle.grammar_text_laws.proofs.Apart.{Apart, Slashed, told_tiles}

-- ---- lists that part at a slash are not both read

further : (front : List PlacedToken) (z : PlacedToken) (l : List PlacedToken) → (front ++ z ∷ l) ≡ ((front ++ z ∷ []) ++ l)
further [] z l = refl
further (x ∷ front) z l = ap (λ (k : List PlacedToken). x ∷ k) (further front z l)

module _ (depth : ℕ) (modules : Bool) (syntax : EsSyntax) (start : ℕ) (t u : Tree) where
  abbrev Answers : List PlacedToken → Tree → Type 0
  Answers l v = read_list depth modules syntax start l ≡ Ok v

  apart : (front : List PlacedToken) (x y : PlacedToken) (xs ys : List PlacedToken) (v w : Tree) → Apart x y → Answers (front ++ bare x ∷ bared xs) v → Answers (front ++ bare y ∷ bared ys) w → ⊥
  apart front x y xs ys v w h i j = slashes_told depth modules syntax start front (bare x) (bare y) (bared xs) (bared ys) v w h.0 h.1 h.2 h.3 i j

  never_read : (ps qs front : List PlacedToken) → Slashed ps qs → Answers (front ++ bared ps) t → Answers (front ++ bared qs) u → ⊥
  never_read [] qs front h i j = absurd h
  never_read (x ∷ xs) [] front h i j = absurd h
  never_read (x ∷ xs) (y ∷ ys) front (inl (inl h)) i j = apart front x y xs ys t u h i j
  never_read (x ∷ xs) (y ∷ ys) front (inl (inr h)) i j = apart front y x ys xs u t h j i
  never_read (x ∷ xs) (y ∷ ys) front (inr h) i j = never_read xs ys (front ++ bare x ∷ []) h.1 (subst (λ (l : List PlacedToken). Answers l t) (further front (bare x) (bared xs)) i)
      (subst (λ (l : List PlacedToken). Answers l u) (further front (bare x) (bared ys)) (subst (λ (z : PlacedToken). Answers (front ++ z ∷ bared ys) u) (sym (bare_same x y h.0)) j))

answer : (x : Result Tree Fault) (t : Tree) (P : Type 0) → (P → ⊥) → Decided x t P → x ≡ Ok t
answer (Ok x) t P n h = ap (λ (z : Tree). Ok z) h
answer (Err (Unexpected k)) t P n h = absurd h
answer (Err (TooDeep k)) t P n h = absurd (n h)

-- ---- scripts

one_script : (syntax : EsSyntax) (s w : Span) (ss us : Trees) (l m : Option (List ℕ)) (text : List ℕ) (ps qs : List PlacedToken) (r o : Input) → Tile text_start false text ps → Tile text_start false text qs
    → Derives (script s ss l) (script_code syntax) (record { last = text_start; places = ps }) r → Derives (script w us m) (script_code syntax) (record { last = text_start; places = qs }) o → script s ss l ≡ script w us m
one_script syntax s w ss us l m text ps qs r o h g d e = told (told_tiles text_start false text ps qs h g (programs_match (script s ss l) (script_code syntax) (record { last = text_start; places = ps }) r refl d.0)
    (programs_match (script w us m) (script_code syntax) (record { last = text_start; places = qs }) o refl e.0))
  where
    told : SameTokens ps qs ⊎ Slashed ps qs → script s ss l ≡ script w us m
    told (inl z) = one_script_of_tokens true true syntax s w ss us l m text_start ps qs r o (places_in_order text_start false text ps h) z d e
    told (inr z) = let x = strip (script_code syntax) (script s ss l) text_start ps r d in let y = strip (script_code syntax) (script w us m) text_start qs o e in
        absurd (never_read (nesting (script s ss l) + nesting (script w us m)) false syntax text_start (script s ss l) (script w us m) ps qs [] z
        (answer _ _ ((nesting (script s ss l) + nesting (script w us m)) < nesting (script s ss l)) (λ k. omega (arith, k)) (scripts_complete (nesting (script s ss l) + nesting (script w us m)) false syntax s ss l text_start (bared ps) x.0 (bared_order text_start ps (places_in_order text_start false text ps h)) x.1))
        (answer _ _ ((nesting (script s ss l) + nesting (script w us m)) < nesting (script w us m)) (λ k. omega (arith, k)) (scripts_complete (nesting (script s ss l) + nesting (script w us m)) false syntax w us m text_start (bared qs) y.0 (bared_order text_start qs (places_in_order text_start false text qs g)) y.1)))

-- ---- modules

one_module : (syntax : EsSyntax) (s w : Span) (ss us : Trees) (l m : Option (List ℕ)) (text : List ℕ) (ps qs : List PlacedToken) (r o : Input) → Tile text_start true text ps → Tile text_start true text qs
    → Derives (es_module s ss l) (module_code syntax) (record { last = text_start; places = ps }) r → Derives (es_module w us m) (module_code syntax) (record { last = text_start; places = qs }) o → es_module s ss l ≡ es_module w us m
one_module syntax s w ss us l m text ps qs r o h g d e = told (told_tiles text_start true text ps qs h g (programs_match (es_module s ss l) (module_code syntax) (record { last = text_start; places = ps }) r refl d.0)
    (programs_match (es_module w us m) (module_code syntax) (record { last = text_start; places = qs }) o refl e.0))
  where
    told : SameTokens ps qs ⊎ Slashed ps qs → es_module s ss l ≡ es_module w us m
    told (inl z) = one_module_of_tokens true true syntax s w ss us l m text_start ps qs r o (places_in_order text_start true text ps h) z d e
    told (inr z) = let x = strip (module_code syntax) (es_module s ss l) text_start ps r d in let y = strip (module_code syntax) (es_module w us m) text_start qs o e in
        absurd (never_read (nesting (es_module s ss l) + nesting (es_module w us m)) true syntax text_start (es_module s ss l) (es_module w us m) ps qs [] z
        (answer _ _ ((nesting (es_module s ss l) + nesting (es_module w us m)) < nesting (es_module s ss l)) (λ k. omega (arith, k)) (modules_complete (nesting (es_module s ss l) + nesting (es_module w us m)) false syntax s ss l text_start (bared ps) x.0 (bared_order text_start ps (places_in_order text_start true text ps h)) x.1))
        (answer _ _ ((nesting (es_module s ss l) + nesting (es_module w us m)) < nesting (es_module w us m)) (λ k. omega (arith, k)) (modules_complete (nesting (es_module s ss l) + nesting (es_module w us m)) false syntax w us m text_start (bared qs) y.0 (bared_order text_start qs (places_in_order text_start true text qs g)) y.1)))

-- ---- any of the two

scripts : (syntax : EsSyntax) (t u : Tree) (text : List ℕ) → Reads false syntax t text → Reads false syntax u text → t ≡ u
scripts syntax (script s ss l) (script w us m) text h g = one_script syntax s w ss us l m text h.0 g.0 h.1 g.1 h.3 g.3 h.4 g.4
scripts syntax (script s ss l) _ text h g = absurd (true≢false (sym g.2))
scripts syntax _ u text h g = absurd (true≢false (sym h.2))

es_modules : (syntax : EsSyntax) (t u : Tree) (text : List ℕ) → Reads true syntax t text → Reads true syntax u text → t ≡ u
es_modules syntax (es_module s ss l) (es_module w us m) text h g = one_module syntax s w ss us l m text h.0 g.0 h.1 g.1 h.3 g.3 h.4 g.4
es_modules syntax (es_module s ss l) _ text h g = absurd (true≢false (sym g.2))
es_modules syntax _ u text h g = absurd (true≢false (sym h.2))

pub one_tree_reads : OneTreeReads
one_tree_reads true syntax t u text h g = es_modules syntax t u text h g
one_tree_reads false syntax t u text h g = scripts syntax t u text h g

pub one_tree_spells : OneTreeSpells
one_tree_spells x y modules t u text e h g = one_tree_reads modules y.syntax t u text (subst (λ (z : EsSyntax). Reads modules z t text) e h.reads) g.reads

pub one_program_spells : OneProgramSpells
one_program_spells x y modules p q text e h g = sym h.1 ∙ (ap (λ (z : Tree). program z) (one_tree_spells x y modules h.0 g.0 text e h.2 g.2) ∙ g.1)
