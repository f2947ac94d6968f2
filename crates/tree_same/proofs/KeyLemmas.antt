-- Keys say the same where their strings do.
use Rattle.std.proofs.Common.{◌≡◌, ◌∙◌, ℕ, nat_eq, true, false, List, Option, bytes_eq, refl, sym}
use Rattle.std.specs.Bool.{one_answer}
use Rattle.std.specs.Str.{chars}
use Rattle.std.proofs.lemmas.Slice.Eq.{bytes_eq-Decides}
use Rattle.std.proofs.Math.Bool.{and-true}
use Rattle.base_token.specs.declared.place.Span.{Span}
use Rattle.base_token.specs.Utf16.{utf16}
use Rattle.base_number.specs.Numbers.{SpecNumber}
use Rattle.tree_spec.specs.Tree.{Tree, ident_name, str_lit, number_lit, big_int_lit, computed_prop_name, private_name}
use Rattle.tree_program_spec.specs.Same.{same}
use Rattle.tree_nodes.specs.View.{view_prop_name, view_private_name}
use Rattle.tree_nodes.specs.declared.functions.PropNameOf.{PropNameOf}
use Rattle.tree_nodes.specs.declared.functions.PropNameOf.TheVariants as PropName
use Rattle.tree_nodes.specs.declared.functions.PrivateName.{PrivateName}
use Rattle.tree_same.specs.Compared.{same_keys}

clash : {A : Type 0} → true ≡ false → A
clash h = absurd cc

bytes_eq_sym : (a b : List ℕ) → bytes_eq a b ≡ bytes_eq b a
bytes_eq_sym a b =
    let d = bytes_eq-Decides b a in
    one_answer (bytes_eq a b) (bytes_eq b a) (bytes_eq-Decides a b) ((λ h. sym (d.0 h)), λ e. d.1 (sym e))

pub words : (s s2 : Span) (a b : List ℕ) → same_keys (ident_name s a) (ident_name s2 b) ≡ bytes_eq (utf16 (chars a)) (utf16 (chars b))
unfolding same_keys
words s s2 a b = and-true (bytes_eq (utf16 (chars a)) (utf16 (chars b)))

pub word_str : (s s2 : Span) (a u : List ℕ) (r : Option (List ℕ)) → same_keys (ident_name s a) (str_lit s2 u r) ≡ bytes_eq (utf16 (chars a)) u
unfolding same_keys
word_str s s2 a u r = and-true (bytes_eq (utf16 (chars a)) u)

pub str_word : (s s2 : Span) (a u : List ℕ) (r : Option (List ℕ)) → same_keys (str_lit s2 u r) (ident_name s a) ≡ bytes_eq (utf16 (chars a)) u
unfolding same_keys
str_word s s2 a u r = and-true (bytes_eq u (utf16 (chars a))) ∙ bytes_eq_sym u (utf16 (chars a))

pub strs : (s s2 : Span) (u u2 : List ℕ) (r r2 : Option (List ℕ)) → same_keys (str_lit s u r) (str_lit s2 u2 r2) ≡ same (str_lit s u r) (str_lit s2 u2 r2)
unfolding same same_keys
strs s s2 u u2 r r2 = refl

pub numbers : (s s2 : Span) (a b : SpecNumber) (r r2 : Option (List ℕ)) → same_keys (number_lit s a r) (number_lit s2 b r2) ≡ same (number_lit s a r) (number_lit s2 b r2)
unfolding same same_keys
numbers s s2 a b r r2 = refl

pub big_ints : (s s2 : Span) (n n2 : ℕ) (a b : List ℕ) (r r2 : Option (List ℕ)) → same_keys (big_int_lit s n a r) (big_int_lit s2 n2 b r2) ≡ same (big_int_lit s n a r) (big_int_lit s2 n2 b r2)
unfolding same same_keys
big_ints s s2 n n2 a b r r2 = refl

pub computed : (s s2 : Span) (t u : Tree) → same_keys (computed_prop_name s t) (computed_prop_name s2 u) ≡ same (computed_prop_name s t) (computed_prop_name s2 u)
unfolding same same_keys
computed s s2 t u = refl

pub privates : (s s2 : Span) (a b : List ℕ) → same_keys (private_name s a) (private_name s2 b) ≡ same (private_name s a) (private_name s2 b)
unfolding same same_keys
privates s s2 a b = refl

-- a number for each kind of keys; a word and a string are of one kind
abbrev key_index : {T : Type 0} → PropNameOf T → ℕ
key_index (PropName.Ident x) = 0
key_index (PropName.Str x) = 0
key_index (PropName.Num x) = 1
key_index (PropName.BigInt x) = 2
key_index (PropName.Computed x) = 3

pub key_apart : {T : Type 0} (f : T → Tree) (a b : PropNameOf T) → nat_eq (key_index a) (key_index b) ≡ false → false ≡ same_keys (view_prop_name f a) (view_prop_name f b)
unfolding same_keys
key_apart f (PropName.Ident x) (PropName.Ident y) h = clash h
key_apart f (PropName.Ident x) (PropName.Str y) h = clash h
key_apart f (PropName.Str x) (PropName.Ident y) h = clash h
key_apart f (PropName.Str x) (PropName.Str y) h = clash h
key_apart f (PropName.Num x) (PropName.Num y) h = clash h
key_apart f (PropName.BigInt x) (PropName.BigInt y) h = clash h
key_apart f (PropName.Computed x) (PropName.Computed y) h = clash h
key_apart f a b h = refl

pub ruleset key_cases = (words, word_str, str_word, strs, numbers, big_ints, computed, key_apart)

pub private_first : {T : Type 0} (f : T → Tree) (a : PrivateName) (b : PropNameOf T) → same_keys (view_private_name a) (view_prop_name f b) ≡ false
unfolding same_keys
private_first f a (PropName.Ident x) = refl
private_first f a b = refl

pub private_last : {T : Type 0} (f : T → Tree) (a : PrivateName) (b : PropNameOf T) → same_keys (view_prop_name f b) (view_private_name a) ≡ false
unfolding same_keys
private_last f a (PropName.Ident x) = refl
private_last f a b = refl

pub ruleset member_key_cases = (privates, private_first, private_last)
