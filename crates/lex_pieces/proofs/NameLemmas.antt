-- Names are determined, and how their characters are put together.
use Rattle.std.proofs.Common.{◌≡◌, ℕ, ◌⊎◌, inl, inr, ⊎_elim, Bool, true, false, cond, ◌||◌, List, [], ◌∷◌, ◌++◌, refl, sym, ap, subst, ◌∙◌, arith}
use Rattle.std.specs.Prelude.{◌==◌}
use Rattle.std.specs.Char.{IsScalar}
use Rattle.std.proofs.lemmas.Bool.{false≢true, cases_Bool}
use Rattle.std.proofs.lemmas.Bool.Decides.{nat_tests}
use Rattle.std.proofs.Math.Bool.{or-true}
use Rattle.unicode_ident.specs.Ident.{is_xid_start}
use Rattle.unicode_ident.proofs.Computing.{unicode_ident}
use Rattle.unicode_ident.proofs.IdentLemmas.{is_xid_start-is_xid_continue}
use Rattle.base_token.specs.declared.error.Error.{Error}
use Rattle.lex_pieces.specs.Characters.{is_name_start, is_name_part}
use Rattle.lex_pieces.specs.Escapes.{IsDigits, IsEscape}
use Rattle.lex_pieces.specs.Names.{IsBad, IsNameChar, IsNameFault, NoName, OneName, Spell, is_continuing, is_name_char, is_nil}
use Rattle.lex_pieces.specs.Runs.{Each, Ends}
use Rattle.lex_pieces.proofs.EscapeLemmas.{one_escape}

-- ---- a backslash is no character of a name

pub backslash : (first : Bool) → is_name_char first 92 ≡ false
unfolding unicode_ident
backslash true = refl
backslash false = refl

pub starts_continue : (c : ℕ) → is_name_start c ≡ true → is_name_part c ≡ true
starts_continue c h = ⊎_elim
    (λ (t : is_xid_start c ≡ true). rw (is_xid_start-is_xid_continue c t) refl)
    (λ (t : is_xid_start c ≡ false). let k : ((c == 36) || (c == 95)) ≡ true = sym (ap (λ b. b || (c == 36 || c == 95)) t) ∙ h in grind (arith, nat_tests))
    (cases_Bool (is_xid_start c))

pub part_of : (first : Bool) (c : ℕ) → is_name_char first c ≡ true → is_name_part c ≡ true
part_of true c h = starts_continue c h
part_of false c h = h

-- the characters do not go on
char_continues : (first : Bool) (text : List ℕ) (c : ℕ) (next : List ℕ) → is_name_char first c ≡ true → (text ≡ c ∷ next) ⊎ (IsScalar c × IsEscape text c next) → Ends is_continuing text → ⊥
char_continues first text c next h (inl e) ends =
    let k : is_continuing c ≡ false = subst (Ends is_continuing) e ends in
    false≢true (sym k ∙ ap (λ b. b || (c == 92)) (part_of first c h))
char_continues first text c next h (inr e) ends =
    let k : is_continuing 92 ≡ false = subst (Ends is_continuing) e.1.1 ends in
    false≢true (sym k ∙ or-true (is_name_part 92))

one_char_by : (first : Bool) (text : List ℕ) (c d : ℕ) (r s : List ℕ) → is_name_char first c ≡ true → is_name_char first d ≡ true
    → (text ≡ c ∷ r) ⊎ (IsScalar c × IsEscape text c r) → (text ≡ d ∷ s) ⊎ (IsScalar d × IsEscape text d s) → (c ≡ d) × (r ≡ s)
one_char_by first text c d r s p q (inl e) (inl f) = let k : c ∷ r ≡ d ∷ s = sym e ∙ f in (cc, cc)
one_char_by first text c d r s p q (inl e) (inr f) =
    let k : c ∷ r ≡ 92 ∷ 117 ∷ f.1.0 = sym e ∙ f.1.1 in
    let is : c ≡ 92 = cc in
    absurd (false≢true (sym (backslash first) ∙ subst (λ x. is_name_char first x ≡ true) is p))
one_char_by first text c d r s p q (inr e) (inl f) =
    let k : d ∷ s ≡ 92 ∷ 117 ∷ e.1.0 = sym f ∙ e.1.1 in
    let is : d ≡ 92 = cc in
    absurd (false≢true (sym (backslash first) ∙ subst (λ x. is_name_char first x ≡ true) is q))
one_char_by first text c d r s p q (inr e) (inr f) = one_escape text c d r s e.1 f.1

pub one_char : (first : Bool) (text : List ℕ) (c d : ℕ) (r s : List ℕ) → IsNameChar first text c r → IsNameChar first text d s → (c ≡ d) × (r ≡ s)
one_char first text c d r s h g = one_char_by first text c d r s h.0 g.0 h.1 g.1

-- ---- at most one name

one_spelling : (first : Bool) (text xs bs r s : List ℕ) → Spell first text xs r → Ends is_continuing r → Spell first text bs s → Ends is_continuing s → (xs ≡ bs) × (r ≡ s)
one_spelling first text [] [] r s h x g y = (refl, sym h ∙ g)
one_spelling first text [] (b ∷ bs) r s h x g y = absurd (char_continues first text b g.0 g.1.0 g.1.1 (subst (Ends is_continuing) (sym h) x))
one_spelling first text (a ∷ xs) [] r s h x g y = absurd (char_continues first text a h.0 h.1.0 h.1.1 (subst (Ends is_continuing) (sym g) y))
one_spelling first text (a ∷ xs) (b ∷ bs) r s h x g y =
    let k = one_char first text a b h.0 g.0 h.1 g.1 in
    let w = one_spelling false h.0 xs bs r s h.2 x (subst (λ n. Spell false n bs s) (sym k.1) g.2) y in
    (rw k.0 (ap (λ (l : List ℕ). b ∷ l) w.0), w.1)

pub one_name : (text : List ℕ) → OneName text
one_name text a b r s h g = one_spelling true text a b r s h.1 h.2 g.1 g.2

-- ---- no name where there is a fault

pub cond_same : {X : Type 0} (b : Bool) (x : X) → cond b x x ≡ x
cond_same true x = refl
cond_same false x = refl

bad_escape : (end : ℕ) (first : Bool) (mid : List ℕ) (e : Error) → IsBad end first mid e → (c : ℕ) (r : List ℕ) → is_name_char first c ≡ true → IsScalar c → IsEscape mid c r → ⊥
bad_escape end first mid e h c r p s g = ⊎_elim
    (λ x. let k : 92 ∷ h.0 ≡ 92 ∷ 117 ∷ g.0 = sym x.1 ∙ g.1 in let t : h.0 ≡ 117 ∷ g.0 = cc in x.2 g.0 t)
    (λ y. ⊎_elim
    (λ x. let k : 92 ∷ 117 ∷ h.0 ≡ 92 ∷ 117 ∷ g.0 = sym x.1 ∙ g.1 in let t : h.0 ≡ g.0 = cc in x.2 c r (subst (λ l. IsDigits l c r) (sym t) g.2))
    (λ x. let k = one_escape mid x.1.0 c h.0 r x.1.1 g in x.1.2 (subst IsScalar (sym k.0) s) (subst (λ v. is_name_char first v ≡ true) (sym k.0) p))
    y)
    h.2

begins_backslash : (end : ℕ) (first : Bool) (mid : List ℕ) (e : Error) → IsBad end first mid e → (more : List ℕ) × (mid ≡ 92 ∷ more)
begins_backslash end first mid e h = ⊎_elim
    (λ x. (h.0, x.1))
    (λ y. ⊎_elim (λ x. (117 ∷ h.0, x.1)) (λ x. (117 ∷ x.1.1.0, x.1.1.1)) y)
    h.2

bad_blocks : (end : ℕ) (first : Bool) (mid : List ℕ) (e : Error) → IsBad end first mid e → (c : ℕ) (r : List ℕ) → is_name_char first c ≡ true → (mid ≡ c ∷ r) ⊎ (IsScalar c × IsEscape mid c r) → ⊥
bad_blocks end first mid e h c r p (inl g) =
    let b = begins_backslash end first mid e h in
    let k : c ∷ r ≡ 92 ∷ b.0 = sym g ∙ b.1 in
    let is : c ≡ 92 = cc in
    false≢true (sym (backslash first) ∙ subst (λ x. is_name_char first x ≡ true) is p)
bad_blocks end first mid e h c r p (inr g) = bad_escape end first mid e h c r p g.0 g.1

bad_continues : (end : ℕ) (first : Bool) (mid : List ℕ) (e : Error) → IsBad end first mid e → Ends is_continuing mid → ⊥
bad_continues end first mid e h ends =
    let b = begins_backslash end first mid e h in
    let k : is_continuing 92 ≡ false = subst (Ends is_continuing) b.1 ends in
    false≢true (sym k ∙ or-true (is_name_part 92))

pub no_spelling : (end : ℕ) (first : Bool) (text cs mid : List ℕ) (e : Error) → Spell first text cs mid → IsBad end (cond (is_nil cs) first false) mid e
    → (name rest : List ℕ) → Spell first text name rest → Ends is_continuing rest → ⊥
no_spelling end first text [] mid e h bad [] rest g ends = bad_continues end first mid e bad (subst (Ends is_continuing) (sym g ∙ h) ends)
no_spelling end first text [] mid e h bad (d ∷ ds) rest g ends =
    let at = subst (λ l. IsNameChar first l d g.0) h g.1 in
    bad_blocks end first mid e bad d g.0 at.0 at.1
no_spelling end first text (c ∷ cs) mid e h bad [] rest g ends = char_continues first text c h.0 h.1.0 h.1.1 (subst (Ends is_continuing) (sym g) ends)
no_spelling end first text (c ∷ cs) mid e h bad (d ∷ ds) rest g ends =
    let k = one_char first text c d h.0 g.0 h.1 g.1 in
    no_spelling end false h.0 cs mid e h.2 (subst (λ b. IsBad end b mid e) (sym (cond_same (is_nil cs) false)) bad) ds rest (subst (λ n. Spell false n ds rest) (sym k.1) g.2) ends

pub no_name : (end : ℕ) (text : List ℕ) (e : Error) → IsNameFault end text e → NoName text
no_name end text e h name rest g = no_spelling end true text h.0 h.1 e h.2 h.3 name rest g.1 g.2

-- ---- characters put together

pub spell_append : (first : Bool) (text xs mid bs rest : List ℕ) → Spell first text xs mid → Spell (cond (is_nil xs) first false) mid bs rest → Spell first text (xs ++ bs) rest
spell_append first text [] mid bs rest h k = subst (λ l. Spell first l bs rest) (sym h) k
spell_append first text (a ∷ xs) mid bs rest h k =
    (h.0, h.1, spell_append false h.0 xs mid bs rest h.2 (subst (λ b. Spell b mid bs rest) (sym (cond_same (is_nil xs) false)) k))

pub spell_run : (own rest : List ℕ) → Each is_name_part own → Spell false (own ++ rest) own rest
spell_run [] rest h = refl
spell_run (c ∷ cs) rest h = (cs ++ rest, (h.0, inl refl), spell_run cs rest h.1)
