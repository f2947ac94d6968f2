-- Trees whose spelling counts, or a part of it, are the same program where their fields are.
use Rattle.std.proofs.Common.{◌≡◌, ◌↔◌, ℕ, nat_eq, Bool, true, false, ◌&&◌, List, [], Option, Some, None, IsTrue, if◌then◌else◌, bytes_eq, refl, ap, sym}
use Rattle.std.specs.Bool.{one_answer}
use Rattle.std.specs.Option.{is_some}
use Rattle.std.proofs.Math.Bool.{beq, and-true}
use Rattle.base_token.specs.declared.place.Span.{Span}
use Rattle.base_number.specs.Numbers.{SpecNumber}
use Rattle.tree_spec.specs.Places.{no_place}
use Rattle.tree_spec.specs.Tree.{Tree, Trees, expr_stmt, tagged_tpl, tpl, number_lit, big_int_lit, expr_or_spread, str_lit, list}
use Rattle.tree_program_spec.specs.Program.{program, stated}
use Rattle.tree_program_spec.specs.Equal.{equal}
use Rattle.tree_program_spec.specs.Same.{same}
use Rattle.tree_program_spec.proofs.SameLemmas.{same_decides}
use Rattle.tree_same.specs.Compared.{is_use_strict, same_spellings}

clash : {A : Type 0} → true ≡ false → A
clash h = absurd cc

pub tagged_tpl_rule : (s s2 : Span) (tag tag2 : Tree) (p p2 : Span) (exprs exprs2 quasis quasis2 : Trees) → same (tagged_tpl s tag (tpl p exprs quasis)) (tagged_tpl s2 tag2 (tpl p2 exprs2 quasis2)) ≡ (same tag tag2 && (same (list exprs) (list exprs2) && same_spellings quasis quasis2))
unfolding same same_spellings
tagged_tpl_rule s s2 tag tag2 p p2 exprs exprs2 quasis quasis2 = refl

pub expr_or_spread_rule : (s s2 : Span) (p p2 : Option Span) (e e2 : Tree) → same (expr_or_spread s p e) (expr_or_spread s2 p2 e2) ≡ (beq (is_some p) (is_some p2) && same e e2)
unfolding same
expr_or_spread_rule s s2 None None e e2 = refl
expr_or_spread_rule s s2 None (Some p2) e e2 = refl
expr_or_spread_rule s s2 (Some p) None e e2 = refl
expr_or_spread_rule s s2 (Some p) (Some p2) e e2 = refl

same_value : {s s2 : Span} {a b : SpecNumber} {r r2 : Option (List ℕ)} → number_lit s a r ≡ number_lit s2 b r2 → a ≡ b
same_value e = cc

pub number_rule : (x : Bool) (s s2 : Span) (a b : SpecNumber) (r r2 : Option (List ℕ)) → (IsTrue x ↔ (a ≡ b)) → x ≡ same (number_lit s a r) (number_lit s2 b r2)
number_rule x s s2 a b r r2 h =
    let d = same_decides (number_lit s a r) (number_lit s2 b r2) in
    one_answer x (same (number_lit s a r) (number_lit s2 b r2)) h ((λ t. same_value (d.0 t)), λ e. d.1 (ap (λ n. number_lit no_place n None) e))

pub str_lit_rule : (s s2 : Span) (u u2 : List ℕ) (r r2 : Option (List ℕ)) → same (str_lit s u r) (str_lit s2 u2 r2) ≡ bytes_eq u u2
unfolding same
str_lit_rule s s2 u u2 r r2 = and-true (bytes_eq u u2)

pub big_int_lit_rule : (s s2 : Span) (n n2 : ℕ) (d d2 : List ℕ) (r r2 : Option (List ℕ)) → same (big_int_lit s n d r) (big_int_lit s2 n2 d2 r2) ≡ (nat_eq n n2 && bytes_eq d d2)
unfolding same
big_int_lit_rule s s2 n n2 d d2 r r2 = ap (λ b. nat_eq n n2 && b) (and-true (bytes_eq d d2))

-- whether it is a string
abbrev is_str : Tree → Bool
is_str (str_lit _ _ _) = true
is_str t = false

stated_plain : (t p : Tree) → is_str t ≡ false → stated t p ≡ p
stated_plain (str_lit _ _ _) p h = clash h
stated_plain t p h = refl

strict_plain : (t : Tree) → is_str t ≡ false → is_use_strict t ≡ false
strict_plain (str_lit _ _ _) h = clash h
strict_plain t h = refl

and_false : (b : Bool) → (b && false) ≡ ((b && true) && false)
and_false true = refl
and_false false = refl

-- a string as a statement: what it says, and whether it is `use strict`
abbrev told : List ℕ → Bool → Tree
told units strict = if strict then str_lit no_place units (Some []) else str_lit no_place units None

strings : (u u2 : List ℕ) (x y : Bool) → equal (told u x) (told u2 y) ≡ ((bytes_eq u u2 && true) && beq x y)
strings u u2 true true = sym (and-true (bytes_eq u u2 && true))
strings u u2 true false = and_false (bytes_eq u u2)
strings u u2 false true = and_false (bytes_eq u u2)
strings u u2 false false = sym (and-true (bytes_eq u u2 && true))

string_first : (u : List ℕ) (x : Bool) (t : Tree) → is_str t ≡ false → equal (told u x) (program t) ≡ false
string_first u x (str_lit _ _ _) h = clash h
string_first u true t h = refl
string_first u false t h = refl

string_last : (u : List ℕ) (x : Bool) (t : Tree) → is_str t ≡ false → equal (program t) (told u x) ≡ false
string_last u x (str_lit _ _ _) h = clash h
string_last u true t h = refl
string_last u false t h = refl

others : (t u : Tree) → is_str t ≡ false → is_str u ≡ false → equal (stated t (program t)) (stated u (program u)) ≡ (equal (program t) (program u) && beq (is_use_strict t) (is_use_strict u))
others t u h k = rw (stated_plain t (program t) h) (rw (stated_plain u (program u) k) (rw (strict_plain t h) (rw (strict_plain u k) (sym (and-true (equal (program t) (program u)))))))

after_string : (s : Span) (u : List ℕ) (r : Option (List ℕ)) (t : Tree) → equal (stated (str_lit s u r) (program (str_lit s u r))) (stated t (program t)) ≡ (equal (program (str_lit s u r)) (program t) && beq (is_use_strict (str_lit s u r)) (is_use_strict t))
after_string s u r (str_lit s2 u2 r2) = strings u u2 (is_use_strict (str_lit s u r)) (is_use_strict (str_lit s2 u2 r2))
after_string s u r t = string_first u (is_use_strict (str_lit s u r)) t refl

after_other : (t u : Tree) → is_str t ≡ false → equal (stated t (program t)) (stated u (program u)) ≡ (equal (program t) (program u) && beq (is_use_strict t) (is_use_strict u))
after_other t (str_lit s2 u2 r2) h =
    rw (stated_plain t (program t) h) (rw (string_last u2 (is_use_strict (str_lit s2 u2 r2)) t h) (rw (string_last u2 false t h) refl))
after_other t u h = others t u h refl

statements : (t u : Tree) → equal (stated t (program t)) (stated u (program u)) ≡ (equal (program t) (program u) && beq (is_use_strict t) (is_use_strict u))
statements (str_lit s u r) t = after_string s u r t
statements t u = after_other t u refl

pub expr_stmt_rule : (s s2 : Span) (e e2 : Tree) → same (expr_stmt s e) (expr_stmt s2 e2) ≡ (same e e2 && beq (is_use_strict e) (is_use_strict e2))
unfolding same
expr_stmt_rule s s2 e e2 = statements e e2
