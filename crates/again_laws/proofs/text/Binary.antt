-- Unary and binary operators.
use Rattle.std.proofs.Common.{◌≡◌, ℕ, ◌<◌, ◌≤◌, inl, inr, ⊎_elim, Bool, true, false, ◌&&◌, ◌||◌, not, List, [], ◌∷◌, refl, sym, ap, subst, ◌∙◌, arith}
use Rattle.std.specs.Prelude.{◌==◌, nat_le, if◌then◌else◌}
use Rattle.std.proofs.lemmas.Bool.{cases_Bool, false≢true, true≢false, and_parts, eqb-true, or_cases, and_from, or_parts, or_right}
use Rattle.std.proofs.lemmas.Bool.Decides.{nat_tests}
use Rattle.base_proofs.proofs.Bools.{or_first}
use Rattle.base_token.specs.declared.place.Span.{Span}
use Rattle.base_token.specs.Kinds.{bang_kind, tilde_kind, add_kind, sub_kind, typeof_kind, void_kind, delete_kind, mul_kind, div_kind, mod_kind, lt_kind, lt_eq_kind, gt_kind, gt_eq_kind, in_kind, instanceof_kind, eq_eq_kind, not_eq_kind, eq_eq_eq_kind, not_eq_eq_kind, exp_kind, left_shift_kind, right_shift_kind, zero_fill_right_shift_kind, bit_or_kind, bit_xor_kind, bit_and_kind, logical_or_kind, logical_and_kind, nullish_coalescing_kind}
use Rattle.base_token.specs.Words.{own_text}
use Rattle.base_token.specs.Operators.{operator_text}
use Rattle.tree_spec.specs.Tree.{Tree, bin_expr, unary_expr, private_name}
use Rattle.grammar_spec.specs.Tokens.Input.{Input, Code}
use Rattle.grammar_spec.specs.Tokens.Operators.{coalesce_level, unary_level, call_level, binary_level, right_level, operates}
use Rattle.grammar_spec.specs.Tokens.Shape.{level, fits_left, is_private}
use Rattle.grammar_laws.proofs.complete_base.Levels.{binary_low}
use Rattle.print_gaps.specs.Edges.{starts_with_word, ends_with_word, is_word_operator, first_operand, gap_before, gap_after, gap_of_unary, is_plus, is_minus, is_not_of_decrement}
use Rattle.lex_pieces.specs.Characters.{is_among}
use Rattle.print_layout_spec.specs.declared.look.Look.{Look}
use Rattle.print_layout_spec.specs.declared.look.Stand.{Stand}
use Rattle.print_layout_spec.specs.declared.look.Stand.TheVariants.{Alone, Operand}
use Rattle.print_layout_spec.specs.Looks.{◌·◌, text, when, gap_or, blank}
use Rattle.print_layout_spec.specs.Layout.{laid, marked_as_operand}
use Rattle.print_layout_spec.specs.Words.{sign_of}
use Rattle.lex_token.specs.declared.goal.LexicalGoal.TheVariants.{Div}
use Rattle.again_laws.proofs.text.Keywords.{delete_word, in_word, instanceof_word, typeof_word, void_word}
use Rattle.again_laws.proofs.text.Marks.{and_mark, bang_mark, bit_and_mark, bit_or_mark, bit_xor_mark, coalesce_mark, equal_mark, greater_equal_mark, greater_mark, less_equal_mark, less_mark, minus_mark, not_equal_mark, not_same_mark, or_mark, plus_mark, power_mark, rest_mark, same_mark, shift_left_mark, shift_right_mark, slash_mark, tilde_mark, times_mark, zero_fill_mark}
use Rattle.again_laws.proofs.text.Admits.{tight_unstarred, unstarred, admits, admits_open, admits_word, at_least, at_most, expression_opens, expression_plain, is_ended, is_nothing, is_tight, leaves, leaves_end, leaves_open, leaves_wordless, left_admits, no_lines, numeric, passes, tight_opens, worded_admits, free_wordless}
use Rattle.again_laws.proofs.text.Forms.{Sound}
use Rattle.again_laws.proofs.text.Steps.{Apart, Steps, apart, at, blanks, gaps_or, mark, text_by, when_goes, ◌▸◌, ends}
use Rattle.again_laws.specs.Tiling.Categories.{Bang, Category, Clear, Closed, Fresh, Hashed, Less, Lessed, Minus, Minused, Numbered, Operated, Operator, Plus, Plused, Pointed, Quasied, Shut, Slash, Slashed, State, Word, Worded, behind, blank_behind, is_end, is_open, takes}
use Rattle.again_laws.specs.Tiling.Goes.{Fits}

-- one of a few kinds
AllOf : List ℕ → (ℕ → Type 0) → Type 0
AllOf [] P = Unit {0}
AllOf (n ∷ ns) P = P n × AllOf ns P

among_all : (ns : List ℕ) (P : ℕ → Type 0) (k : ℕ) → AllOf ns P → is_among ns k ≡ true → P k
unfolding AllOf
among_all [] P k a e = absurd (false≢true e)
among_all (n ∷ ns) P k a e = ⊎_elim
    (λ (t : (k == n) ≡ true). subst P (sym (eqb-true k n t)) a.0)
    (λ (l : is_among ns k ≡ true). among_all ns P k a.1 l)
    (or_cases (k == n) (is_among ns k) e)

-- ---- 13.5 unary

-- what a sign asks of where it stands, and says of its operand
record Signs (k : ℕ) : Type 0 where
  class : Category
  fits : Fits Div (sign_of k) class
  stands : (s : State) (sp : Span) (x : Tree) → admits s (unary_expr sp k x) ≡ true → takes class s ≡ true
  then_on : (s : State) (sp : Span) (x : Tree) → unary_level ≤ level x → admits s (unary_expr sp k x) ≡ true
      → (if is_word_operator k then starts_with_word x else gap_of_unary k x) ≡ false → admits (behind class s) x ≡ true
  clears : (s : State) (x : Tree) → is_open (behind class s) ≡ true

not_first : (x : Tree) → unary_level ≤ level x → first_operand x ≡ x
not_first (bin_expr s op a b) h = let k = binary_low op in absurd (omega (arith, k))
not_first _ h = refl

tight_by : (x : Tree) → unary_level ≤ level x → is_tight x ≡ true
tight_by x h = or_right (is_private x) _ (at_least coalesce_level (level x) (omega arith))

plus_stands : (s : State) (sp : Span) (x : Tree) → admits s (unary_expr sp add_kind x) ≡ true → takes Plus s ≡ true
plus_stands Plused sp x e = absurd (false≢true e)
plus_stands Pointed sp x e = absurd (false≢true e)
plus_stands Quasied sp x e = absurd (false≢true e)
plus_stands _ sp x e = refl

minus_stands : (s : State) (sp : Span) (x : Tree) → admits s (unary_expr sp sub_kind x) ≡ true → takes Minus s ≡ true
minus_stands Minused sp x e = absurd (false≢true e)
minus_stands Pointed sp x e = absurd (false≢true e)
minus_stands Quasied sp x e = absurd (false≢true e)
minus_stands _ sp x e = refl

bang_stands : (s : State) (sp : Span) (x : Tree) → admits s (unary_expr sp bang_kind x) ≡ true → takes Bang s ≡ true
bang_stands Hashed sp x e = absurd (false≢true e)
bang_stands Pointed sp x e = absurd (false≢true e)
bang_stands Quasied sp x e = absurd (false≢true e)
bang_stands _ sp x e = refl

bang_on : (s : State) (sp : Span) (x : Tree) → unary_level ≤ level x → admits s (unary_expr sp bang_kind x) ≡ true → admits (behind Bang s) x ≡ true
bang_on Lessed sp x h e = and_from (nat_le unary_level (level x)) _ (at_least unary_level (level x) h) (and_parts (is_tight (unary_expr sp bang_kind x)) _ e).1
bang_on _ sp x h e = unstarred x (omega arith)

bang_open : (s : State) → is_open (behind Bang s) ≡ true
bang_open Lessed = refl
bang_open _ = refl

plus_signs : Signs add_kind
unfolding sign_of
plus_signs = record {
  class = Plus;
  fits = plus_mark;
  stands = plus_stands;
  then_on = λ s sp x h a g. and_from (is_tight x) _ (tight_by x h) (ap not (ap is_plus (not_first x h) ∙ or_first (is_plus x) _ g));
  clears = λ s x. refl;
}

minus_signs : Signs sub_kind
unfolding sign_of
minus_signs = record {
  class = Minus;
  fits = minus_mark;
  stands = minus_stands;
  then_on = λ s sp x h a g. and_from (is_tight x) _ (tight_by x h) (ap not (ap is_minus (not_first x h) ∙ g));
  clears = λ s x. refl;
}

bang_signs : Signs bang_kind
unfolding sign_of
bang_signs = record { class = Bang; fits = bang_mark; stands = bang_stands; then_on = λ s sp x h a g. bang_on s sp x h a; clears = λ s x. bang_open s }

tilde_signs : Signs tilde_kind
unfolding sign_of
tilde_signs = record { class = Closed; fits = tilde_mark; stands = λ s sp x e. admits_open s (unary_expr sp tilde_kind x) e; then_on = λ s sp x h a g. refl; clears = λ s x. refl }

typeof_signs : Signs typeof_kind
unfolding sign_of own_text
typeof_signs = record { class = Word; fits = typeof_word; stands = λ s sp x e. admits_word s (unary_expr sp typeof_kind x) e refl; then_on = λ s sp x h a g. worded_admits x g (expression_opens x (omega arith)); clears = λ s x. refl }

void_signs : Signs void_kind
unfolding sign_of own_text
void_signs = record { class = Word; fits = void_word; stands = λ s sp x e. admits_word s (unary_expr sp void_kind x) e refl; then_on = λ s sp x h a g. worded_admits x g (expression_opens x (omega arith)); clears = λ s x. refl }

delete_signs : Signs delete_kind
unfolding sign_of own_text
delete_signs = record { class = Word; fits = delete_word; stands = λ s sp x e. admits_word s (unary_expr sp delete_kind x) e refl; then_on = λ s sp x h a g. worded_admits x g (expression_opens x (omega arith)); clears = λ s x. refl }

or_nil : (b : Bool) → b ≡ true → (b || false) ≡ true
or_nil true e = refl
or_nil false e = e

unary_kinds : List ℕ
unary_kinds = sub_kind ∷ add_kind ∷ bang_kind ∷ tilde_kind ∷ typeof_kind ∷ void_kind ∷ delete_kind ∷ []

signs_of : (k : ℕ) → Rattle.grammar_spec.specs.Expressions.is_unary_op k ≡ true → Signs k
unfolding AllOf unary_kinds
signs_of k e = among_all unary_kinds Signs k (minus_signs, (plus_signs, (bang_signs, (tilde_signs, (typeof_signs, (void_signs, (delete_signs, tt))))))) (ends_with_false k e)
  where
    ends_with_false : (k : ℕ) → Rattle.grammar_spec.specs.Expressions.is_unary_op k ≡ true → is_among unary_kinds k ≡ true
    ends_with_false k e = grind arith

module _ (look : Look) where
  -- between the sign and its operand
  unary_gap : (k : ℕ) (x : Tree) (s : State) → is_open s ≡ true → Steps (if is_word_operator k then gap_or look (starts_with_word x) else when (gap_of_unary k x) blank) s (Apart (if is_word_operator k then starts_with_word x else gap_of_unary k x) s)
  unary_gap k x s o = by (is_word_operator k)
    where
      by : (b : Bool) → Steps (if b then gap_or look (starts_with_word x) else when (gap_of_unary k x) blank) s (Apart (if b then starts_with_word x else gap_of_unary k x) s)
      by true = gaps_or look (starts_with_word x) o
      by false = when_goes (gap_of_unary k x) (λ t. ends (blanks o) (λ u e. inr e)) (λ n. inl (n, refl))

  pub unary : (sp : Span) (k : ℕ) (x : Tree) → Sound look x → Sound look (unary_expr sp k x)
  unary sp k x f c ts r h st s a =
      let z = signs_of k h.1 in
      mark ▸ at (text_by z.class z.fits (z.stands s sp x a) ▸ at (unary_gap k x (behind z.class s) (z.clears s x) ▸ apart
      (λ g. operand (behind z.class s) (z.then_on s sp x h.3.0 a g)) (blanked (behind z.class s) (z.clears s x))))
    where
      operand : (u : State) → admits u x ≡ true → Steps (laid look Alone x) u (λ v. leaves st (unary_expr sp k x) v ≡ true)
      operand u b = ends (f _ _ _ h.3.1 Alone u b) (λ v l. passes Alone st x (unary_expr sp k x) v l (expression_plain x (omega (arith, h.3.0))) (λ e. refl) (λ e. refl))

      blanked : (u : State) → is_open u ≡ true → Steps (laid look Alone x) (blank_behind u) (λ v. leaves st (unary_expr sp k x) v ≡ true)
      blanked Fresh o = operand Fresh refl
      blanked _ o = operand Clear refl

-- ---- 13.6 to 13.13 binary

record Operates (k : ℕ) : Type 0 where
  class : Category
  last : State
  fits : Fits Div (operator_text k) class
  low : 4 ≤ binary_level k
  right_low : 4 ≤ right_level k
  after : (v : State) → behind class v ≡ last
  open_after : is_open last ≡ true
  left : (st : Stand) (a : Tree) (v : State) → leaves st a v ≡ true → is_ended a ≡ false → gap_before k a ≡ false → takes class v ≡ true
  clear : takes class Clear ≡ true
  right : (b : Tree) → is_tight b ≡ true → gap_after k b ≡ false → admits last b ≡ true

end_takes : (v : State) → is_end v ≡ true → (takes Operator v ≡ true) × (takes Slash v ≡ true) × (takes Less v ≡ true) × (takes Plus v ≡ true) × (takes Minus v ≡ true)
end_takes Fresh e = (refl, refl, refl, refl, refl)
end_takes Clear e = (refl, refl, refl, refl, refl)
end_takes Shut e = (refl, refl, refl, refl, refl)
end_takes Worded e = (refl, refl, refl, refl, refl)
end_takes Numbered e = (refl, refl, refl, refl, refl)
end_takes _ e = absurd (false≢true e)

plain_operates : (k : ℕ) → Fits Div (operator_text k) Operator → 4 ≤ binary_level k → 4 ≤ right_level k → Operates k
plain_operates k f l r = record {
  class = Operator;
  last = Operated;
  fits = f;
  low = l;
  right_low = r;
  after = λ v. refl;
  open_after = refl;
  left = λ st a v e n g. (end_takes v (leaves_end st a v e)).0;
  clear = refl;
  right = λ b i g. tight_unstarred b i;
}

slash_operates : Operates div_kind
unfolding operator_text
slash_operates = record {
  class = Slash;
  last = Slashed;
  fits = slash_mark;
  low = omega arith;
  right_low = omega arith;
  after = λ v. refl;
  open_after = refl;
  left = λ st a v e n g. (end_takes v (leaves_end st a v e)).1;
  clear = refl;
  right = λ b i g. and_from (is_tight b) _ i (ap not g);
}

less_operates : Operates lt_kind
unfolding operator_text
less_operates = record {
  class = Less;
  last = Lessed;
  fits = less_mark;
  low = omega arith;
  right_low = omega arith;
  after = λ v. refl;
  open_after = refl;
  left = λ st a v e n g. (end_takes v (leaves_end st a v e)).2;
  clear = refl;
  right = λ b i g. and_from (is_tight b) _ i (ap not ((or_parts (is_not_of_decrement (first_operand b)) _ g).0));
}

plus_operates : Operates add_kind
unfolding operator_text
plus_operates = record {
  class = Plus;
  last = Plused;
  fits = plus_mark;
  low = omega arith;
  right_low = omega arith;
  after = λ v. refl;
  open_after = refl;
  left = λ st a v e n g. (end_takes v (leaves_end st a v e)).3;
  clear = refl;
  right = λ b i g. and_from (is_tight b) _ i (ap not ((or_parts (is_plus (first_operand b)) _ g).0));
}

minus_operates : Operates sub_kind
unfolding operator_text
minus_operates = record {
  class = Minus;
  last = Minused;
  fits = minus_mark;
  low = omega arith;
  right_low = omega arith;
  after = λ v. refl;
  open_after = refl;
  left = λ st a v e n g. (end_takes v (leaves_end st a v e)).4;
  clear = refl;
  right = λ b i g. and_from (is_tight b) _ i (ap not ((or_parts (is_minus (first_operand b)) _ g).0));
}

word_operates : (k : ℕ) → Fits Div (operator_text k) Word → 4 ≤ binary_level k → 4 ≤ right_level k → is_word_operator k ≡ true → Operates k
word_operates k f l r w = record {
  class = Word;
  last = Worded;
  fits = f;
  low = l;
  right_low = r;
  after = λ v. refl;
  open_after = refl;
  left = λ st a v e n g. free_wordless v (leaves_wordless st a v (and_first_off (ends_with_word a) (not (is_ended a)) (and_of (is_word_operator k) (ends_with_word a) w (or_parts _ _ g).0)) e);
  clear = refl;
  right = λ b i g. worded_admits b (and_of (is_word_operator k) (starts_with_word b) w (or_parts _ _ g).0) (tight_opens b i);
}
  where
    and_of : (a b : Bool) → a ≡ true → (a && b) ≡ false → b ≡ false
    and_of true b e h = h
    and_of false b e h = absurd (false≢true e)

    and_first_off : (a b : Bool) → a ≡ false → (a && b) ≡ false
    and_first_off true b e = absurd (true≢false e)
    and_first_off false b e = refl

plain_kind : (k : ℕ) → Fits Div (operator_text k) Operator → nat_le 4 (binary_level k) ≡ true → nat_le 4 (right_level k) ≡ true → Operates k
plain_kind k f l r = plain_operates k f (at_most 4 (binary_level k) l) (at_most 4 (right_level k) r)

word_kind : (k : ℕ) → Fits Div (operator_text k) Word → nat_le 4 (binary_level k) ≡ true → nat_le 4 (right_level k) ≡ true → is_word_operator k ≡ true → Operates k
word_kind k f l r w = word_operates k f (at_most 4 (binary_level k) l) (at_most 4 (right_level k) r) w

-- in the order of their kinds
binary_kinds : List ℕ
binary_kinds = eq_eq_kind ∷ not_eq_kind ∷ eq_eq_eq_kind ∷ not_eq_eq_kind ∷ lt_kind ∷ lt_eq_kind ∷ gt_kind ∷ gt_eq_kind ∷ left_shift_kind ∷ right_shift_kind ∷ zero_fill_right_shift_kind ∷ add_kind ∷ sub_kind
    ∷ mul_kind ∷ div_kind ∷ mod_kind ∷ bit_or_kind ∷ bit_xor_kind ∷ bit_and_kind ∷ exp_kind ∷ logical_or_kind ∷ logical_and_kind ∷ nullish_coalescing_kind ∷ in_kind ∷ instanceof_kind ∷ []

all_operate : AllOf binary_kinds Operates
unfolding AllOf binary_kinds operator_text
all_operate = (
  plain_kind eq_eq_kind equal_mark refl refl,
  (
    plain_kind not_eq_kind not_equal_mark refl refl,
    (
      plain_kind eq_eq_eq_kind same_mark refl refl,
      (
        plain_kind not_eq_eq_kind not_same_mark refl refl,
        (
          less_operates,
          (
            plain_kind lt_eq_kind less_equal_mark refl refl,
            (
              plain_kind gt_kind greater_mark refl refl,
              (
                plain_kind gt_eq_kind greater_equal_mark refl refl,
                (
                  plain_kind left_shift_kind shift_left_mark refl refl,
                  (
                    plain_kind right_shift_kind shift_right_mark refl refl,
                    (
                      plain_kind zero_fill_right_shift_kind zero_fill_mark refl refl,
                      (
                        plus_operates,
                        (
                          minus_operates,
                          (
                            plain_kind mul_kind times_mark refl refl,
                            (
                              slash_operates,
                              (
                                plain_kind mod_kind rest_mark refl refl,
                                (
                                  plain_kind bit_or_kind bit_or_mark refl refl,
                                  (
                                    plain_kind bit_xor_kind bit_xor_mark refl refl,
                                    (
                                      plain_kind bit_and_kind bit_and_mark refl refl,
                                      (
                                        plain_kind exp_kind power_mark refl refl,
                                        (
                                          plain_kind logical_or_kind or_mark refl refl,
                                          (
                                            plain_kind logical_and_kind and_mark refl refl,
                                            (
                                              plain_kind nullish_coalescing_kind coalesce_mark refl refl,
                                              (word_kind in_kind in_word refl refl refl, (word_kind instanceof_kind instanceof_word refl refl refl, tt)),
                                            ),
                                          ),
                                        ),
                                      ),
                                    ),
                                  ),
                                ),
                              ),
                            ),
                          ),
                        ),
                      ),
                    ),
                  ),
                ),
              ),
            ),
          ),
        ),
      ),
    ),
  ),
)

-- a level is that of one of these
among_binary : (k : ℕ) → nat_le 1 (binary_level k) ≡ true → is_among binary_kinds k ≡ true
unfolding binary_kinds
among_binary k e = grind (arith, nat_tests)

operating : (c : Code) (k : ℕ) → operates c k ≡ true → is_among binary_kinds k ≡ true
unfolding binary_kinds
operating c k e = ⊎_elim
    (λ (t : (k == in_kind) ≡ true). rw (eqb-true k in_kind t) refl)
    (λ (f : (k == in_kind) ≡ false). among_binary k (sym (ap (λ b. if b then Rattle.grammar_spec.specs.Tokens.Input.has_in c else nat_le 1 (binary_level k)) f) ∙ e))
    (cases_Bool (k == in_kind))

left_tight : (k : ℕ) (a : Tree) → 4 ≤ binary_level k → fits_left k a ≡ true → is_tight a ≡ true
left_tight k a l e = ⊎_elim
    (λ (t : is_private a ≡ true). ap (λ b. b || nat_le coalesce_level (level a)) t)
    (λ (f : is_private a ≡ false). or_right (is_private a) _ (at_least coalesce_level (level a) (by f)))
    (cases_Bool (is_private a))
  where
    by : is_private a ≡ false → 4 ≤ level a
    by f = grind (arith, nat_tests)

private_plain : (a : Tree) → is_private a ≡ true → (is_ended a || is_nothing a) ≡ false
private_plain (private_name sp n) e = refl
private_plain _ e = absurd (false≢true e)

tight_level : (a : Tree) → is_tight a ≡ true → (is_ended a || is_nothing a) ≡ false
tight_level a i = ⊎_elim
    (λ (t : is_private a ≡ true). private_plain a t)
    (λ (f : is_private a ≡ false). expression_plain a (let h = at_most coalesce_level (level a) (sym (ap (λ c. c || nat_le coalesce_level (level a)) f) ∙ i) in omega (arith, h)))
    (cases_Bool (is_private a))

blank_clear : (st : Stand) (a : Tree) (v : State) → leaves st a v ≡ true → (is_ended a || is_nothing a) ≡ false → blank_behind v ≡ Clear
blank_clear st a Fresh l n = absurd (false≢true (sym (no_lines a n) ∙ l))
blank_clear st a _ l n = refl

pub blank_admits : (u : State) (b : Tree) → admits (blank_behind u) b ≡ true
blank_admits Fresh b = refl
blank_admits _ b = refl

binary_numeric : (st : Stand) (sp : Span) (k : ℕ) (a b : Tree) → numeric st (bin_expr sp k a b) ≡ true
binary_numeric st sp k a b = ap (λ c. not (c || false)) (let h = binary_low k in below call_level (binary_level k) (omega (arith, h)))
  where
    below : (m n : ℕ) → n < m → nat_le m n ≡ false
    below m n h = grind (arith, nat_tests)

module _ (look : Look) where
  pub binary : (sp : Span) (k : ℕ) (a b : Tree) → Sound look a → Sound look b → Sound look (bin_expr sp k a b)
  binary sp k a b f g c ts r h st s e =
      let z = among_all binary_kinds Operates k all_operate (operating c k h.2) in
      let i = left_tight k a z.low h.3 in
      let p = tight_level a i in
      when_goes (marked_as_operand st) (λ t. mark) (λ t. refl) ▸ at (f _ _ _ h.4 Operand s (left_admits s sp k a b i e) ▸ λ v l.
      gaps_or look (gap_before k a) (leaves_open Operand a v l) ▸ apart (λ n. sign z v (z.left Operand a v l (or_parts (is_ended a) _ p).0 n))
      (sign z (blank_behind v) (ap (takes z.class) (blank_clear Operand a v l p) ∙ z.clear)))
    where
      operand : (u : State) → admits u b ≡ true → 4 ≤ right_level k → Steps (laid look Alone b) u (λ v. leaves st (bin_expr sp k a b) v ≡ true)
      operand u q w = ends (g _ _ _ h.6.1 Alone u q) (λ v l. passes Alone st b (bin_expr sp k a b) v l (expression_plain b (omega (arith, w, h.6.0))) (λ t. refl) (λ t. binary_numeric st sp k a b))

      behind_sign : (z : Operates k) → Steps (gap_or look (gap_after k b) · laid look Alone b) z.last (λ u. leaves st (bin_expr sp k a b) u ≡ true)
      behind_sign z =
          let w = z.right_low in
          let d : is_tight b ≡ true = or_right (is_private b) _ (at_least coalesce_level (level b) (omega (arith, w, h.6.0))) in
          gaps_or look (gap_after k b) z.open_after ▸ apart (λ n. operand z.last (z.right b d n) w) (operand (blank_behind z.last) (blank_admits z.last b) w)

      sign : (z : Operates k) (v : State) → takes z.class v ≡ true → Steps (text (operator_text k) · gap_or look (gap_after k b) · laid look Alone b) v (λ u. leaves st (bin_expr sp k a b) u ≡ true)
      sign z v o = text_by z.class z.fits o ▸ λ t q. at (behind_sign z) t (q ∙ z.after v)
