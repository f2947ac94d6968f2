use Rattle.std.proofs.Common.{◌≡◌, ℕ, List, ◌∷◌, ap, sym, subst, ◌∙◌, true}
use Rattle.std.specs.Str.{chars}
use Rattle.std.specs.Char.{IsScalar}
use Rattle.std.proofs.lemmas.Bool.{false≢true}
use Rattle.lex_pieces.specs.Names.{is_name_char}
use Rattle.lex_pieces.proofs.NameParts.{told_none, told_some, bad_digits, bad_char, good_char}
use Rattle.lex_pieces.proofs.names.escape.Goals as goal

pub returns-in_default-digits-clause-escape : goal.returns-in_default-digits-clause-escape
returns-in_default-digits-clause-escape c =
    let cut = c.requires.cut ∙ ap (λ (l : List ℕ). 92 ∷ l) c.in-Some.ensures.cut in
    let f = c.fault-in_default-digits in
    bad_digits c.args.end c.args.first _ (chars c.in-Some.inner.now) f.result cut (told_none _ c.in_default-digits.ensures.value) f.ensures.kind f.ensures.place

pub returns-in_default-from_u32-clause-escape : goal.returns-in_default-from_u32-clause-escape
returns-in_default-from_u32-clause-escape c =
    let cut = c.requires.cut ∙ ap (λ (l : List ℕ). 92 ∷ l) c.in-Some.ensures.cut in
    let f = c.fault-in_default-from_u32 in
    let code = c.in-Some-digits.code in
    let after = chars c.in-Some-digits.after.now in
    let k = told_some code after _ c.in-Some-digits.ensures.value in
    bad_char c.args.end c.args.first _ (chars c.in-Some.inner.now) after k.0 code f.result cut k.1 k.2 (λ s n. c.in_default-from_u32.ensures.value s) f.ensures.kind f.ensures.place

pub returns-then-not-is_allowed-clause-escape : goal.returns-then-not-is_allowed-clause-escape
returns-then-not-is_allowed-clause-escape c =
    let cut = c.requires.cut ∙ ap (λ (l : List ℕ). 92 ∷ l) c.in-Some.ensures.cut in
    let f = c.fault-then-not-is_allowed in
    let code = c.in-Some-digits.code in
    let after = chars c.in-Some-digits.after.now in
    let k = told_some code after _ c.in-Some-digits.ensures.value in
    let same = c.in-Some-from_u32.ensures.value.1 in
    let no = sym c.is_allowed.ensures ∙ c.if-not-is_allowed.true in
    bad_char c.args.end c.args.first _ (chars c.in-Some.inner.now) after k.0 code f.result cut k.1 k.2
    (λ s n. false≢true (sym no ∙ subst (λ x. is_name_char c.args.first x ≡ true) (sym same) n)) f.ensures.kind f.ensures.place

pub returns-clause-escape : goal.returns-clause-escape
returns-clause-escape c =
    let cut = c.requires.cut ∙ ap (λ (l : List ℕ). 92 ∷ l) c.in-Some.ensures.cut in
    let code = c.in-Some-digits.code in
    let letter = c.in-Some-from_u32.c in
    let after = chars c.in-Some-digits.after.now in
    let k = told_some code after _ c.in-Some-digits.ensures.value in
    let same = c.in-Some-from_u32.ensures.value.1 in
    let yes = sym c.is_allowed.ensures ∙ c.if-not-is_allowed.false in
    good_char c.args.first _ (chars c.in-Some.inner.now) after k.0 letter cut k.1 (same ∙ k.2) (subst IsScalar (sym same) c.in-Some-from_u32.ensures.value.0) yes
