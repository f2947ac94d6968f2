-- How keys are written: as they are, a word as a string of its units, or a string as the word `constructor`.
use Rattle.std.proofs.Common.{◌≡◌, Bool, true, false, if◌then◌else◌, ℕ, List, Option, Some, refl, sym, ap, subst, codes, bytes_eq, chars}
use Rattle.base_token.specs.declared.place.Span.{Span}
use Rattle.base_token.specs.Utf16.{utf16}
use Rattle.tree_spec.specs.Places.{no_place}
use Rattle.tree_spec.specs.Tree.{Tree, ident_name, str_lit}
use Rattle.tree_spec.specs.Folds.{fold}
use Rattle.print_spelling.specs.declared.style.Style.{Style}
use Rattle.print_spelling.specs.String.Names.{is_quoted_key}
use Rattle.print_layout_spec.specs.Literals.{key_bytes}
use Rattle.again_laws.specs.Derived.Redo.{Plain, Leaves, redo}
use Rattle.again_laws.specs.Derived.Written.{written_key, constructor_word, written_constructor_key}

-- a word as a string
abbrev pub key_string : Style → List ℕ → Tree
key_string style sym = str_lit no_place (utf16 (chars sym)) (Some (key_bytes style sym))

pub data KeyIs (style : Style) (l : Leaves) (k : Tree) : Type 0 where
  as_it_was : written_key style (redo l Plain k) ≡ redo l Plain k → KeyIs style l k
  as_string : (s : Span) (n : List ℕ) → k ≡ ident_name s n → is_quoted_key style (chars n) ≡ true → written_key style (redo l Plain k) ≡ key_string style n → KeyIs style l k

pub key_is : (style : Style) (l : Leaves) (k : Tree) → KeyIs style l k
key_is style l (ident_name s n) = by (is_quoted_key style (chars n)) refl
  where
    by : (b : Bool) → is_quoted_key style (chars n) ≡ b → KeyIs style l (ident_name s n)
    by true e = as_string s n refl e (ap (λ (c : Bool). if c then key_string style n else ident_name no_place n) e)
    by false e = as_it_was (ap (λ (c : Bool). if c then key_string style n else ident_name no_place n) e)
key_is style l _ = as_it_was refl

pub data ConstructorKeyIs (l : Leaves) (k : Tree) : Type 0 where
  constructor_as_it_was : written_constructor_key (redo l Plain k) ≡ redo l Plain k → ConstructorKeyIs l k
  as_word : (s : Span) (u : List ℕ) (w : Option (List ℕ)) → k ≡ str_lit s u w → bytes_eq u (codes "constructor") ≡ true → written_constructor_key (redo l Plain k) ≡ ident_name no_place (codes "constructor")
      → ConstructorKeyIs l k

pub constructor_key_is : (l : Leaves) (k : Tree) → ConstructorKeyIs l k
constructor_key_is l (str_lit s u w) = by (bytes_eq u (codes "constructor")) refl
  where
    by : (b : Bool) → bytes_eq u (codes "constructor") ≡ b → ConstructorKeyIs l (str_lit s u w)
    by true e = as_word s u w refl e (ap (λ (c : Bool). constructor_word c (redo l Plain (str_lit s u w))) e)
    by false e = constructor_as_it_was (ap (λ (c : Bool). constructor_word c (redo l Plain (str_lit s u w))) e)
constructor_key_is l _ = constructor_as_it_was refl

-- what is folded of a written key, where both forms keep it
module _ {A : Type 0} (R : A → A → Type 0) (step : Tree → List (List A) → A) (l : Leaves) where
  pub key_folded : (style : Style) (k : Tree) → ((s : Span) (n : List ℕ) → k ≡ ident_name s n → is_quoted_key style (chars n) ≡ true → R (fold step (key_string style n)) (fold step (ident_name s n)))
      → R (fold step (redo l Plain k)) (fold step k) → R (fold step (written_key style (redo l Plain k))) (fold step k)
  key_folded style k f h = by (key_is style l k)
    where
      by : KeyIs style l k → R (fold step (written_key style (redo l Plain k))) (fold step k)
      by (as_it_was e) = subst (λ (t : Tree). R (fold step t) (fold step k)) (sym e) h
      by (as_string s n i q e) = subst (λ (t : Tree). R (fold step t) (fold step k)) (sym e) (subst (λ (t : Tree). R (fold step (key_string style n)) (fold step t)) (sym i) (f s n i q))

  pub constructor_key_folded : (k : Tree) → ((s : Span) (u : List ℕ) (w : Option (List ℕ)) → k ≡ str_lit s u w → R (fold step (ident_name no_place (codes "constructor"))) (fold step (str_lit s u w)))
      → R (fold step (redo l Plain k)) (fold step k) → R (fold step (written_constructor_key (redo l Plain k))) (fold step k)
  constructor_key_folded k f h = by (constructor_key_is l k)
    where
      by : ConstructorKeyIs l k → R (fold step (written_constructor_key (redo l Plain k))) (fold step k)
      by (constructor_as_it_was e) = subst (λ (t : Tree). R (fold step t) (fold step k)) (sym e) h
      by (as_word s u w i q e) = subst (λ (t : Tree). R (fold step t) (fold step k)) (sym e) (subst (λ (t : Tree). R (fold step (ident_name no_place (codes "constructor"))) (fold step t)) (sym i) (f s u w i))
