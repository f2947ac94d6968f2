-- The loop over infix and postfix operators, and any expression.
use Rattle.std.proofs.Common.{◌≡◌, ℕ, ◌≤◌, ◌⊎◌, inl, inr, Bool, true, false, not, ◌&&◌, ◌||◌, cond, eqb, leb, ltb, List, [], ◌∷◌, ◌++◌, Result, Ok, Err, refl, sym, ap, ◌∙◌, subst, true≢false, arith}
use Rattle.std.proofs.lemmas.Bool.{eqb-true, and_parts, not-true, leb-true, ltb-false, ne_eqb}
use Rattle.base_token.specs.declared.place.Span.{Span}
use Rattle.base_token.specs.Kinds.{hash_kind, dot_kind, left_paren_kind, left_bracket_kind, comma_kind, colon_kind, back_quote_kind, question_mark_kind, plus_plus_kind, minus_minus_kind, regex_kind, div_kind, in_kind, exp_kind, nullish_coalescing_kind, assign_kind, logical_or_kind, logical_and_kind, bit_or_kind, bit_xor_kind, bit_and_kind, eq_eq_kind, not_eq_eq_kind, lt_kind, gt_eq_kind, instanceof_kind, left_shift_kind, zero_fill_right_shift_kind, add_kind, sub_kind, mul_kind, mod_kind}
use Rattle.tree_spec.specs.Tree.{Tree, Trees, none, more, pack, unpack, seq_expr, assign_expr, cond_expr, bin_expr, update_expr, call_expr, member_expr, opt_chain_expr, opt_call, tagged_tpl, tpl, new_expr, super, import, absent, ident, ident_name, private_name, computed_prop_name, array_lit, object_lit, array_pat, object_pat, expr_pat}
use Rattle.grammar_spec.specs.Tokens.Input.{Input, Code, kind, kind2, brk, text, Takes, lo, hi, span, first_span, with_in, has_in}
use Rattle.grammar_spec.specs.Tokens.Operators.{expression_level, assignment_level, conditional_level, coalesce_level, update_level, new_level, call_level, member_level, binary_level, right_level, is_assign_op, operates, goes_expr, between}
use Rattle.grammar_spec.specs.Tokens.Shape.{level, ends, fits_left, is_chain, is_private, is_target, is_target_expr, is_bound_name, is_simple, is_word_name, is_structured}
use Rattle.grammar_spec.specs.Children.{child, By, Expr, CommaThen}
use Rattle.grammar_spec.specs.Expressions.{Member, Dotted, AccessedName, ChainMember, Optional, Call}
use Rattle.grammar_spec.specs.Grammar.{Produces, children}
use Rattle.grammar_spec.specs.Reader.Source.{Fault, unfit, State, Inner, go_on, finished, operand, iterate}
use Rattle.grammar_spec.specs.Reader.Cover.{has, to_item, to_items, to_target}
use Rattle.grammar_spec.specs.Reader.Expressions.{extended, arguments_by, computed_by, private_by, template_by, prefix_by, member_name, on_chain, member_by, index_by, call_tree, call_by, chain_by, cond_by, assign_by, binary_by, step_by, loop_step, loop_by, private_in, expr_from, expr_by}
use Rattle.grammar_laws.proofs.Sure.{lm, seen, next, same, Sure, done, then_sure, sure_map, if_sure, test_sure, only_sure, eat_sure, word_sure, any_sure, StepSure, loop_sure}
use Rattle.grammar_laws.proofs.Covers.{plain, by_yes, Holds, then_holds, if_holds, Refines, IsItem, assign_refines}
use Rattle.grammar_laws.proofs.Nested.{Sound, Made, AtLeast, GotExpr, dull, bracketed_is, computed_sure, private_sure}
use Rattle.grammar_laws.proofs.Groups.{template_sure, then_placed}
use Rattle.grammar_laws.proofs.Prefixes.{arguments_sure, prefix_sure, template_is}
use Rattle.grammar_laws.proofs.complete_base.Levels.{right_most}
use Rattle.grammar_laws.proofs.Shapes.{right_some, update_op}

-- ---- what goes on, by the kind alone

abbrev cap : Code → Bool → ℕ → ℕ
cap c q k =
    cond (eqb k comma_kind) expression_level
    (cond (is_assign_op k) assignment_level
    (cond (eqb k question_mark_kind) (cond q call_level conditional_level)
    (cond (operates c k) (binary_level k)
    (cond (eqb k regex_kind) (binary_level div_kind)
    (cond (between plus_plus_kind minus_minus_kind k) update_level
    (cond (eqb k left_paren_kind) call_level
    (cond (eqb k left_bracket_kind || (eqb k dot_kind || eqb k back_quote_kind)) member_level 0)))))))

cond_le : (b : Bool) (x y z w : ℕ) → x ≤ z → y ≤ w → cond b x y ≤ cond b z w
cond_le true x y z w h k = h
cond_le false x y z w h k = k

cond_zero : (b : Bool) (y w : ℕ) → y ≤ w → cond b 0 y ≤ w
cond_zero true y w k = omega arith
cond_zero false y w k = k

cond_below : (b : Bool) (x y n : ℕ) → x ≤ n → y ≤ n → cond b x y ≤ n
cond_below true x y n h k = h
cond_below false x y n h k = k

-- whether the token goes on as a chain
abbrev dotted : ℕ → State Input → Bool
dotted e s = eqb (kind2 (seen s)) dot_kind && eqb e 0

goes_le : (c : Code) (e : ℕ) (s : State Input) → goes_expr c e (seen s) ≤ cap c (dotted e s) (kind (seen s))
goes_le c e s = let k = kind (seen s) in
    cond_le (eqb k comma_kind) _ _ _ _ (omega arith) (cond_zero (leb 2 e) _ _ (
    cond_le (is_assign_op k) _ _ _ _ (omega arith) (
    cond_le (eqb k question_mark_kind) _ _ _ _ (cond_le (dotted e s) _ _ _ _ (omega arith) (omega arith)) (
    cond_le (operates c k) _ _ _ _ (omega arith) (
    cond_le (eqb k regex_kind) _ _ _ _ (omega arith) (cond_zero (leb 1 e) _ _ (
    cond_le (between plus_plus_kind minus_minus_kind k) _ _ _ _ (cond_zero (brk (seen s)) _ _ (omega arith)) (
    cond_le (eqb k left_paren_kind) _ _ _ _ (omega arith) (
    cond_le (eqb k left_bracket_kind || (eqb k dot_kind || eqb k back_quote_kind)) _ _ _ _ (omega arith) (omega arith))))))))))

cond_if : (b : Bool) (x y n : ℕ) → (b ≡ true → x ≤ n) → (b ≡ false → y ≤ n) → cond b x y ≤ n
cond_if true x y n h k = h refl
cond_if false x y n h k = k refl

cap_assign : (c : Code) (q : Bool) (k : ℕ) → is_assign_op k ≡ true → cap c q k ≤ assignment_level
cap_assign c q k e = cond_if (eqb k comma_kind) _ _ _ (λ _. omega arith) (λ _. cond_if (is_assign_op k) _ _ _ (λ _. omega arith) (λ z. absurd (true≢false (sym e ∙ z))))

cap_binary : (c : Code) (q : Bool) (k : ℕ) → eqb k comma_kind ≡ false → is_assign_op k ≡ false → eqb k question_mark_kind ≡ false → operates c k ≡ true → cap c q k ≤ binary_level k
cap_binary c q k e0 e1 e2 e3 = cond_if (eqb k comma_kind) _ _ _ (λ z. absurd (true≢false (sym z ∙ e0))) (λ _. cond_if (is_assign_op k) _ _ _ (λ z. absurd (true≢false (sym z ∙ e1))) (λ _.
    cond_if (eqb k question_mark_kind) _ _ _ (λ z. absurd (true≢false (sym z ∙ e2))) (λ _. cond_if (operates c k) _ _ _ (λ _. omega arith) (λ z. absurd (true≢false (sym e3 ∙ z))))))

cap_update : (c : Code) (q : Bool) (k : ℕ) → eqb k comma_kind ≡ false → is_assign_op k ≡ false → eqb k question_mark_kind ≡ false → operates c k ≡ false → between plus_plus_kind minus_minus_kind k ≡ true → cap c q k ≤ update_level
cap_update c q k e0 e1 e2 e3 e4 = cond_if (eqb k comma_kind) _ _ _ (λ z. absurd (true≢false (sym z ∙ e0))) (λ _. cond_if (is_assign_op k) _ _ _ (λ z. absurd (true≢false (sym z ∙ e1))) (λ _.
    cond_if (eqb k question_mark_kind) _ _ _ (λ z. absurd (true≢false (sym z ∙ e2))) (λ _. cond_if (operates c k) _ _ _ (λ z. absurd (true≢false (sym z ∙ e3))) (λ _.
    cond_if (eqb k regex_kind) _ _ _ (λ _. omega arith) (λ _. cond_if (between plus_plus_kind minus_minus_kind k) _ _ _ (λ _. omega arith) (λ z. absurd (true≢false (sym e4 ∙ z))))))))

cap_question : (c : Code) (q : Bool) → cap c q question_mark_kind ≤ call_level
cap_question c q = cond_below q _ _ _ (omega arith) (omega arith)

cap_plain_question : (c : Code) → cap c false question_mark_kind ≤ conditional_level
cap_plain_question c = omega arith

cap_comma : (c : Code) (q : Bool) → cap c q comma_kind ≤ expression_level
cap_comma c q = omega arith

cap_paren : (c : Code) (q : Bool) → cap c q left_paren_kind ≤ call_level
cap_paren c q = omega arith

cap_bracket : (c : Code) (q : Bool) → cap c q left_bracket_kind ≤ member_level
cap_bracket c q = omega arith

cap_dot : (c : Code) (q : Bool) → cap c q dot_kind ≤ member_level
cap_dot c q = omega arith

cap_quote : (c : Code) (q : Bool) → cap c q back_quote_kind ≤ member_level
cap_quote c q = omega arith

-- ---- levels

either : (P : ℕ → Type 0) (b : Bool) (x y : ℕ) → P x → P y → P (cond b x y)
either P true x y h k = h
either P false x y h k = k

by_level : (P : ℕ → Type 0) (k : ℕ) → P 4 → P 5 → P 6 → P 7 → P 8 → P 9 → P 10 → P 11 → P 12 → P 13 → P 14 → P 15 → P 0 → P (binary_level k)
by_level P k a4 a5 a6 a7 a8 a9 a10 a11 a12 a13 a14 a15 a0 =
    either P (eqb k nullish_coalescing_kind) _ _ a4 (either P (eqb k logical_or_kind) _ _ a5 (either P (eqb k logical_and_kind) _ _ a6 (either P (eqb k bit_or_kind) _ _ a7 (either P (eqb k bit_xor_kind) _ _ a8 (either P (eqb k bit_and_kind) _ _ a9
    (either P (between eq_eq_kind not_eq_eq_kind k) _ _ a10 (either P (between lt_kind gt_eq_kind k || (eqb k in_kind || eqb k instanceof_kind)) _ _ a11 (either P (between left_shift_kind zero_fill_right_shift_kind k) _ _ a12
    (either P (between add_kind sub_kind k) _ _ a13 (either P (between mul_kind mod_kind k) _ _ a14 (either P (eqb k exp_kind) _ _ a15 a0)))))))))))

abbrev Above : ℕ → Type 0
Above n = 1 ≤ n → 2 ≤ n

high_enough : (n : ℕ) → 2 ≤ n → Above n
high_enough n h l = h

two_levels : (op : ℕ) → 1 ≤ binary_level op → 2 ≤ binary_level op
two_levels op = by_level Above op (high_enough 4 (omega arith)) (high_enough 5 (omega arith)) (high_enough 6 (omega arith)) (high_enough 7 (omega arith)) (high_enough 8 (omega arith)) (high_enough 9 (omega arith)) (high_enough 10 (omega arith))
    (high_enough 11 (omega arith)) (high_enough 12 (omega arith)) (high_enough 13 (omega arith)) (high_enough 14 (omega arith)) (high_enough 15 (omega arith)) (λ l. absurd (omega (arith, l)))

abbrev Low : ℕ → Type 0
Low n = n ≤ 15

low_levels : (op : ℕ) → Low (binary_level op)
low_levels op = by_level Low op (omega arith) (omega arith) (omega arith) (omega arith) (omega arith) (omega arith) (omega arith) (omega arith) (omega arith) (omega arith) (omega arith) (omega arith) (omega arith)

cond_above : (b : Bool) (x y n : ℕ) → n ≤ x → n ≤ y → n ≤ cond b x y
cond_above true x y n h k = h
cond_above false x y n h k = k

-- a level below that of members is the level that is read
at_level : (l : ℕ) (t : Tree) → l ≤ 16 → AtLeast l t → l ≤ level t
at_level l t h a = level_of (eqb l member_level) (λ e. absurd (omega (arith, h, eqb-true l member_level e))) a
  where
    level_of : (b : Bool) → (b ≡ true → l ≤ level t) → By b ((member_level ≤ level t) ⊎ (level t ≡ new_level)) (l ≤ level t) → l ≤ level t
    level_of true f g = f refl
    level_of false f g = g

pub from_level : (l : ℕ) (t : Tree) → l ≤ level t → AtLeast l t
from_level l t h = level_by (eqb l member_level) (λ e. inl (omega (arith, h, eqb-true l member_level e)))
  where
    level_by : (b : Bool) → (b ≡ true → (member_level ≤ level t) ⊎ (level t ≡ new_level)) → By b ((member_level ≤ level t) ⊎ (level t ≡ new_level)) (l ≤ level t)
    level_by true f = f refl
    level_by false f = h

is_seq : Tree → Bool
is_seq (seq_expr s xs) = true
is_seq _ = false

no_sequence : (c : Code) (t : Tree) (ts r : Input) → Produces t (plain c) ts r → 1 ≤ level t → (is_seq t ≡ true → ⊥) → 2 ≤ level t
unfolding is_seq
no_sequence c (seq_expr s xs) ts r h l n = absurd (n refl)
no_sequence c (bin_expr s op a b) ts r h l n = two_levels op l
no_sequence c (member_expr s o (computed_prop_name t e)) ts r h l n = omega (arith, h.2.0)
no_sequence c (member_expr s o _) ts r h l n = omega (arith, h.2.0)
no_sequence c (tagged_tpl s t (tpl q es qs)) ts r h l n = omega (arith, h.2.0)
no_sequence c (tagged_tpl s t _) ts r h l n = absurd h
no_sequence c (new_expr s f absent) ts r h l n = omega arith
no_sequence c (new_expr s f _) ts r h l n = omega arith
no_sequence c _ ts r h l n = omega (arith, l)

chain_level : (t : Tree) → is_chain t ≡ true → level t ≡ call_level
chain_level (opt_chain_expr s o b) e = refl
chain_level _ e = absurd (true≢false (sym e))

-- ---- one more in a sequence

commas_more : (c : Code) (xs : Trees) (e : Tree) (ts m n r : Input) → CommaThen (Expr assignment_level c) c (children xs) ts m → Takes c comma_kind m n → Expr assignment_level c (child e (λ y. Produces e y)) n r → CommaThen (Expr assignment_level c) c (children (pack (unpack xs ++ e ∷ []))) ts r
commas_more c none e ts m n r h t k = (n, r, subst (λ z. Takes c comma_kind z n) (sym h) t, k, refl)
commas_more c (more x xs) e ts m n r h t k = (h.0, h.1, h.2, h.3, commas_more c xs e h.1 m n r h.4 t k)

sequence_more : (c : Code) (s p : Span) (xs : Trees) (e : Tree) (ts m n r : Input) → Produces (seq_expr s xs) c ts m → Takes c comma_kind m n → Expr assignment_level c (child e (λ y. Produces e y)) n r → p ≡ span (lo ts) r.last → Produces (seq_expr p (pack (unpack xs ++ e ∷ []))) c ts r
sequence_more c s p none e ts m n r h t k q = absurd h
sequence_more c s p (more x none) e ts m n r h t k q = absurd h
sequence_more c s p (more x (more y ys)) e ts m n r h t k q = (h.0, h.1, commas_more c (more y ys) e h.0 m n r h.2 t k, q)

extended_made : (c : Code) (start : State Input) (t : Tree) (s : State Input) (e : Tree) (r : State Input) → 1 ≤ level t → Produces t (plain c) (seen start) (seen s) → Takes (plain c) comma_kind (seen s) (seen (next s)) → Expr assignment_level (plain c) (child e (λ y. Produces e y)) (seen (next s)) (seen r)
    → (1 ≤ level (extended t e (span (lo (seen start)) r.source.last))) × Made c start (extended t e (span (lo (seen start)) r.source.last), r)
unfolding is_seq
extended_made c start (seq_expr p xs) s e r l h t k = (omega arith, dull c start _ r (sequence_more (plain c) p (span (lo (seen start)) r.source.last) xs e (seen start) (seen s) (seen (next s)) (seen r) h t k refl) (λ b j. refl))
extended_made c start u s e r l h t k = (omega arith, dull c start _ r (seen s, (no_sequence c u (seen start) (seen s) h l (λ z. true≢false (sym z)), h), (seen (next s), seen r, t, k, refl), refl) (λ b j. refl))

-- ---- targets

or_mid : (a b d : Bool) → b ≡ true → (a || (b || d)) ≡ true
or_mid true b d e = refl
or_mid false true d e = refl
or_mid false false d e = absurd (true≢false (sym e))

structured_target : (op : ℕ) (p : Tree) → is_structured p ≡ true → eqb op assign_kind ≡ true → is_target op p ≡ true
structured_target op (array_pat s xs) e q = ap (λ z. z && true) q
structured_target op (object_pat s xs) e q = ap (λ z. z && true) q
structured_target op _ e q = absurd (true≢false (sym e))

pub both_hold : {A : Type 0} (r : Result A Fault) (P Q : A → Type 0) → Holds r P → Holds r Q → Holds r (λ x. P x × Q x)
both_hold (Ok x) P Q p q = record { so = (p.so, q.so) }
both_hold (Err e) P Q p q = record { so = tt }

pub array_stays : (k : List ℕ) (s : Span) (xs : Trees) → Holds (to_item false k (array_lit s xs)) (λ p. is_structured p ≡ true)
array_stays k s xs = if_holds (has s.lo.0 k) _ _ _ (λ _. record { so = tt }) (λ _. then_holds (to_items false false k xs) _ (λ _. Unit {0}) _ (anything (to_items false false k xs)) (λ ps u. record { so = refl }))
  where
    anything : {A : Type 0} (r : Result A Fault) → Holds r (λ _. Unit {0})
    anything (Ok x) = record { so = tt }
    anything (Err e) = record { so = tt }

pub object_stays : (k : List ℕ) (s : Span) (xs : Trees) → Holds (to_item false k (object_lit s xs)) (λ p. is_structured p ≡ true)
object_stays k s xs = if_holds (has s.lo.0 k) _ _ _ (λ _. record { so = tt }) (λ _. then_holds (to_items true false k xs) _ (λ _. Unit {0}) _ (anything (to_items true false k xs)) (λ ps u. record { so = refl }))
  where
    anything : {A : Type 0} (r : Result A Fault) → Holds r (λ _. Unit {0})
    anything (Ok x) = record { so = tt }
    anything (Err e) = record { so = tt }

abbrev IsTarget : ℕ → Code → Input → Input → Tree → Type 0
IsTarget op c ts r p = (is_target op p ≡ true) × Produces p (plain c) ts r

simple_target : (op : ℕ) (c : Code) (t : Tree) (ts r : Input) → Produces t (plain c) ts r → Holds (cond (is_target_expr t && is_simple t) (Ok t) unfit) (IsTarget op c ts r)
simple_target op c t ts r h = if_holds (is_target_expr t && is_simple t) (Ok t) unfit (IsTarget op c ts r) (λ e. record { so = (or_mid (is_bound_name t) (is_target_expr t && is_simple t) (eqb op assign_kind && is_structured t) e, h) }) (λ _. record { so = tt })

target_holds : (op : ℕ) (k : List ℕ) (c : Code) (t : Tree) (ts r : Input) → Produces t (plain c) ts r → Refines k c t ts r → Holds (to_target op k t) (IsTarget op c ts r)
target_holds op k c (ident s n) ts r h f = record { so = (refl, (refl, h)) }
target_holds op k c (array_lit s xs) ts r h f = if_holds (eqb op assign_kind) _ _ _ (λ e. structured (to_item false k (array_lit s xs)) e (both_hold _ _ _ (f.so false tt) (array_stays k s xs))) (λ _. record { so = tt })
  where
    structured : (z : Result Tree Fault) → eqb op assign_kind ≡ true → Holds z (λ p. IsItem false c ts r p × (is_structured p ≡ true)) → Holds z (IsTarget op c ts r)
    structured (Ok p) e q = record { so = (structured_target op p q.so.1 e, q.so.0.1) }
    structured (Err g) e q = record { so = tt }
target_holds op k c (object_lit s xs) ts r h f = if_holds (eqb op assign_kind) _ _ _ (λ e. structured (to_item false k (object_lit s xs)) e (both_hold _ _ _ (f.so false tt) (object_stays k s xs))) (λ _. record { so = tt })
  where
    structured : (z : Result Tree Fault) → eqb op assign_kind ≡ true → Holds z (λ p. IsItem false c ts r p × (is_structured p ≡ true)) → Holds z (IsTarget op c ts r)
    structured (Ok p) e q = record { so = (structured_target op p q.so.1 e, q.so.0.1) }
    structured (Err g) e q = record { so = tt }
target_holds op k c t ts r h f = simple_target op c t ts r h

-- ---- members, calls and chains

member_with : (c : Code) (s : Span) (o k : Tree) (ts r : Input) → (is_word_name k || is_private k) ≡ true → Member c s (child o (λ y. Produces o y)) (λ m n. Dotted true c (child k (λ y. Produces k y)) m n) ts r → Produces (member_expr s o k) c ts r
member_with c s o (computed_prop_name t e) ts r w h = absurd (true≢false (sym w))
member_with c s o _ ts r w h = h

chain_with : (c : Code) (s t : Span) (q : Bool) (o k : Tree) (ts r : Input) → (is_word_name k || is_private k) ≡ true → ChainMember c s q t (child o (λ y. Produces o y)) (λ m n. Dotted true c (child k (λ y. Produces k y)) m n) (λ m n. AccessedName true c (child k (λ y. Produces k y)) m n) ts r
    → Produces (opt_chain_expr s q (member_expr t o k)) c ts r
chain_with c s t q o (computed_prop_name u e) ts r w h = absurd (true≢false (sym w))
chain_with c s t q o _ ts r w h = h

call_with : (c : Code) (s : Span) (f : Tree) (xs : Trees) (ts r : Input) → call_level ≤ level f → Call c s (child f (λ y. Produces f y)) (children xs) ts r → Produces (call_expr s f xs) c ts r
call_with c s (super t) xs ts r l h = absurd (omega (arith, l))
call_with c s (import t) xs ts r l h = absurd (omega (arith, l))
call_with c s _ xs ts r l h = h

member_made : (c : Code) (start : State Input) (s : Span) (o k : Tree) (r : State Input) → Produces (member_expr s o k) (plain c) (seen start) (seen r) → Made c start (member_expr s o k, r)
member_made c start s o k r h = record { produced = h; refines = λ l g. record { so = λ b f. item b } }
  where
    item : (b : Bool) → Holds (cond b unfit (Ok (expr_pat (member_expr s o k)))) (IsItem b c (seen start) (seen r))
    item true = record { so = tt }
    item false = record { so = (refl, (refl, h)) }

-- ---- one operator after what was read

module _ (inner : Inner Input) (good : Sound inner) where
  member_name_sure : (c : Code) (s : State Input) → Sure s.commas (member_name lm inner true s) (λ x. ((is_word_name x.0 || is_private x.0) ≡ true) × Produces x.0 (plain c) (seen s) (seen x.1))
  unfolding member_name
  member_name_sure c s = test_sure s.commas (kind (seen s)) hash_kind _ _ _
      (λ _. sure_map s.commas (private_by lm inner s) _ _ (private_sure inner c s) (λ x h. (or_right (is_word_name x.0) (is_private x.0) h.0, h.1)))
      (λ _. any_sure s _ _ (λ w. done (ident_name (first_span (seen s)) (text (seen s)), next s) _ (refl, ((w, refl, tt, refl), refl))))
    where
      or_right : (a b : Bool) → b ≡ true → (a || b) ≡ true
      or_right true b e = refl
      or_right false b e = e

  abbrev GotStep : ℕ → Code → State Input → Tree × State Input → Type 0
  GotStep l c start x = (l ≤ level x.0) × Made c start x

  -- a member of a chain or of anything else
  linked : (l : ℕ) (c : Code) (start : State Input) (p : Span) (t k : Tree) (r : State Input) → l ≤ level t → l ≤ member_level
      → (is_chain t ≡ true → Produces (opt_chain_expr p false (member_expr p t k)) (plain c) (seen start) (seen r)) → (is_chain t ≡ false → Produces (member_expr p t k) (plain c) (seen start) (seen r))
      → GotStep l c start (on_chain lm inner (is_chain t) p (member_expr p t k), r)
  linked l c start p t k r h g f d = by_chain (is_chain t) (λ e. omega (arith, h, chain_level t e)) f d
    where
      by_chain : (b : Bool) → (b ≡ true → l ≤ call_level) → (b ≡ true → Produces (opt_chain_expr p false (member_expr p t k)) (plain c) (seen start) (seen r)) → (b ≡ false → Produces (member_expr p t k) (plain c) (seen start) (seen r))
          → GotStep l c start (on_chain lm inner b p (member_expr p t k), r)
      by_chain true u f d = (u refl, dull c start (opt_chain_expr p false (member_expr p t k)) r (f refl) (λ b j. refl))
      by_chain false u f d = (omega (arith, h, g), member_made c start p t k r (d refl))

  member_by_sure : (l : ℕ) (c : Code) (start : State Input) (t : Tree) (s : State Input) → l ≤ level t → Produces t (plain c) (seen start) (seen s) → call_level ≤ level t → l ≤ member_level → kind (seen s) ≡ dot_kind → Sure s.commas (member_by lm inner c (lo (seen start)) t s) (GotStep l c start)
  unfolding member_by
  member_by_sure l c start t s h m v p e = then_sure s.commas (member_name lm inner true (next s)) _ _ _ (member_name_sure c (next s)) (λ k w. let q = span (lo (seen start)) k.1.source.last in
      done (on_chain lm inner (is_chain t) q (member_expr q t k.0), k.1) (GotStep l c start) (linked l c start q t k.0 k.1 h p
      (λ z. chain_with (plain c) q q false t k.0 (seen start) (seen k.1) w.0 (seen s, z, m, (seen (next s), (e, tt, refl), w), refl, refl))
      (λ z. member_with (plain c) q t k.0 (seen start) (seen k.1) w.0 (seen s, z, (v, m), (seen (next s), (e, tt, refl), w), refl))))

  index_by_sure : (l : ℕ) (c : Code) (start : State Input) (t : Tree) (s : State Input) → l ≤ level t → Produces t (plain c) (seen start) (seen s) → call_level ≤ level t → l ≤ member_level → kind (seen s) ≡ left_bracket_kind → Sure s.commas (index_by lm inner c (lo (seen start)) t s) (GotStep l c start)
  unfolding index_by
  index_by_sure l c start t s h m v p e = then_sure s.commas (computed_by lm inner c expression_level s) _ _ _ (computed_sure inner good c expression_level s (omega arith) (λ t h. h) e) (λ k w. let q = span (lo (seen start)) k.1.source.last in
      done (on_chain lm inner (is_chain t) q (member_expr q t k.0), k.1) (GotStep l c start)
      (bracketed_is expression_level (plain c) (seen s) (seen k.1) (λ y. GotStep l c start (on_chain lm inner (is_chain t) q (member_expr q t y), k.1)) (λ u y a. linked l c start q t (computed_prop_name u y) k.1 h p
      (λ z. (seen s, z, m, a, refl, refl)) (λ z. (seen s, z, (v, m), a, refl))) k.0 w))

  call_by_sure : (l : ℕ) (c : Code) (start : State Input) (t : Tree) (s : State Input) → Produces t (plain c) (seen start) (seen s) → call_level ≤ level t → l ≤ call_level → kind (seen s) ≡ left_paren_kind → Sure s.commas (call_by lm inner c (lo (seen start)) t s) (GotStep l c start)
  unfolding call_by
  call_by_sure l c start t s m v p e = then_sure s.commas (arguments_by lm inner c (next s)) _ _ _ (arguments_sure inner good c (next s)) (λ xs w. let q = span (lo (seen start)) xs.1.source.last in
      done (call_tree lm inner q t xs.0, xs.1) (GotStep l c start) (by_chain q xs.0 xs.1 (is_chain t)
      (λ z. (seen s, z, m, (seen (next s), (e, tt, refl), w), refl, refl))
      (λ z. call_with (plain c) q t (pack xs.0) (seen start) (seen xs.1) v (seen s, z, (v, m), (seen (next s), (e, tt, refl), w), refl))))
    where
      by_chain : (q : Span) (xs : List Tree) (r : State Input) (b : Bool) → (b ≡ true → Produces (opt_chain_expr q false (opt_call q t (pack xs))) (plain c) (seen start) (seen r)) → (b ≡ false → Produces (call_expr q t (pack xs)) (plain c) (seen start) (seen r))
          → GotStep l c start (cond b (opt_chain_expr q false (opt_call q t (pack xs))) (call_expr q t (pack xs)), r)
      by_chain q xs r true f d = (p, dull c start _ r (f refl) (λ b j. refl))
      by_chain q xs r false f d = (p, dull c start _ r (d refl) (λ b j. refl))

  chain_by_sure : (l : ℕ) (c : Code) (start : State Input) (t : Tree) (s : State Input) → Produces t (plain c) (seen start) (seen s) → call_level ≤ level t → l ≤ call_level → Optional (plain c) (seen s) (seen (next (next s)))
      → Sure s.commas (chain_by lm inner c (lo (seen start)) t (next (next s))) (GotStep l c start)
  unfolding chain_by
  chain_by_sure l c start t s m v p o = let u = next (next s) in test_sure s.commas (kind (seen u)) left_paren_kind _ _ _
      (λ e. then_sure s.commas (arguments_by lm inner c (next u)) _ _ _ (arguments_sure inner good c (next u)) (λ xs w. let q = span (lo (seen start)) xs.1.source.last in
      done (opt_chain_expr q true (opt_call q t (pack xs.0)), xs.1) (GotStep l c start) (p, dull c start _ xs.1 (seen s, seen u, (v, m), o, (seen (next u), (e, tt, refl), w), refl, refl) (λ b j. refl))))
      (λ _. test_sure s.commas (kind (seen u)) left_bracket_kind _ _ _
      (λ e. then_sure s.commas (computed_by lm inner c expression_level u) _ _ _ (computed_sure inner good c expression_level u (omega arith) (λ t h. h) e) (λ k w. let q = span (lo (seen start)) k.1.source.last in
      done (opt_chain_expr q true (member_expr q t k.0), k.1) (GotStep l c start) (bracketed_is expression_level (plain c) (seen u) (seen k.1) (λ y. GotStep l c start (opt_chain_expr q true (member_expr q t y), k.1))
      (λ a y z. (p, dull c start _ k.1 (seen s, seen u, (v, m), o, z, refl, refl) (λ b j. refl))) k.0 w)))
      (λ _. then_sure s.commas (member_name lm inner true u) _ _ _ (member_name_sure c u) (λ k w. let q = span (lo (seen start)) k.1.source.last in
      done (opt_chain_expr q true (member_expr q t k.0), k.1) (GotStep l c start) (p, dull c start _ k.1 (chain_with (plain c) q q true t k.0 (seen start) (seen k.1) w.0 (seen s, seen u, (v, m), o, w, refl, refl)) (λ b j. refl)))))

  cond_by_sure : (l : ℕ) (c : Code) (start : State Input) (t : Tree) (s : State Input) → Produces t (plain c) (seen start) (seen s) → coalesce_level ≤ level t → l ≤ conditional_level → kind (seen s) ≡ question_mark_kind → Sure s.commas (cond_by lm inner c (lo (seen start)) t s) (GotStep l c start)
  unfolding cond_by
  cond_by_sure l c start t s m v p e = then_sure s.commas (inner.expr (with_in c) assignment_level (next s)) _ _ _ (good.expr (with_in c) assignment_level (next s) (omega arith)) (λ a h. eat_sure colon_kind a.1 _ _ (λ z.
      then_sure a.1.commas (inner.expr c assignment_level (next a.1)) _ _ _ (good.expr c assignment_level (next a.1) (omega arith)) (λ b k. let q = cond_expr (span (lo (seen start)) b.1.source.last) t a.0 b.0 in
      done (q, b.1) (GotStep l c start) (p, dull c start q b.1 (seen s, seen (next s), seen a.1, seen (next a.1), (v, m), (e, tt, refl), (h.0, h.1.produced), (z, tt, refl), (k.0, k.1.produced), refl) (λ y j. refl)))))

  assign_by_sure : (l : ℕ) (c : Code) (start : State Input) (t : Tree) (s : State Input) → Made c start (t, s) → l ≤ assignment_level → is_assign_op (kind (seen s)) ≡ true → Sure s.commas (assign_by lm inner c (lo (seen start)) t s) (GotStep l c start)
  unfolding assign_by
  assign_by_sure l c start t s m p e = then_placed _ s.commas (to_target (kind (seen s)) s.commas t) _ (IsTarget (kind (seen s)) c (seen start) (seen s)) _ (target_holds (kind (seen s)) s.commas c t (seen start) (seen s) m.produced (m.refines s.commas (same s.commas))) (λ a h.
      then_sure s.commas (inner.expr c assignment_level (next s)) _ _ _ (good.expr c assignment_level (next s) (omega arith)) (λ v k. let q = span (lo (seen start)) v.1.source.last in
      let y : Produces (assign_expr q (kind (seen s)) a v.0) (plain c) (seen start) (seen v.1) = (seen s, seen (next s), e, h.0, h.1, (refl, tt, refl), (k.0, k.1.produced), refl) in
      done (assign_expr q (kind (seen s)) a v.0, v.1) (GotStep l c start) (p, record { produced = y; refines = λ j g. record { so = λ b f. assign_refines b j c q (kind (seen s)) a v.0 (seen start) (seen v.1) y f } })))

  binary_by_sure : (l : ℕ) (c : Code) (start : State Input) (t : Tree) (s : State Input) → Produces t (plain c) (seen start) (seen s) → l ≤ binary_level (kind (seen s)) → operates c (kind (seen s)) ≡ true → fits_left (kind (seen s)) t ≡ true
      → Sure s.commas (binary_by lm inner c (lo (seen start)) t s) (GotStep l c start)
  unfolding binary_by
  binary_by_sure l c start t s m p o f = word_sure c (kind (seen s)) s _ _ (λ e b. then_sure s.commas (inner.expr c (right_level (kind (seen s))) (next s)) _ _ _ (good.expr c (right_level (kind (seen s))) (next s) (right_some (kind (seen s)))) (λ v k. let q = bin_expr (span (lo (seen start)) v.1.source.last) (kind (seen s)) t v.0 in
      done (q, v.1) (GotStep l c start) (p, dull c start q v.1 (seen s, seen (next s), o, f, m, (e, b, tt, refl), (at_level (right_level (kind (seen s))) v.0 (right_most (kind (seen s))) k.0, k.1.produced), refl) (λ y j. refl))))

  step_sure : (l : ℕ) (c : Code) (start : State Input) (t : Tree) (s : State Input) → 1 ≤ l → l ≤ level t → Made c start (t, s) → l ≤ goes_expr c (ends t) (seen s) → Sure s.commas (step_by lm inner c (lo (seen start)) t s) (GotStep l c start)
  unfolding step_by
  step_sure l c start t s l1 h m g =
      let d = dotted (ends t) s in let w = goes_le c (ends t) s in let sp = m.produced in
      let at : (k : ℕ) → kind (seen s) ≡ k → l ≤ cap c d k = λ k e. subst (λ (k : ℕ). l ≤ cap c d k) e (omega (arith, g, w)) in
      test_sure s.commas (kind (seen s)) comma_kind _ _ _ (λ e. then_sure s.commas (inner.expr c assignment_level (next s)) _ _ _ (good.expr c assignment_level (next s) (omega arith)) (λ v k.
      let x = extended_made c start t s v.0 v.1 (omega (arith, l1, h)) sp (e, tt, refl) (k.0, k.1.produced) in
      done (extended t v.0 (span (lo (seen start)) v.1.source.last), v.1) (GotStep l c start) (omega (arith, x.0, at comma_kind e, cap_comma c d), x.1))) (λ n0.
      if_sure s.commas (is_assign_op (kind (seen s))) _ _ _ (λ e. assign_by_sure l c start t s m (omega (arith, at (kind (seen s)) refl, cap_assign c d (kind (seen s)) e)) e) (λ n1.
      if_sure s.commas (eqb (kind (seen s)) question_mark_kind && eqb (kind2 (seen s)) dot_kind) _ _ _ (λ e. let b = and_parts (eqb (kind (seen s)) question_mark_kind) (eqb (kind2 (seen s)) dot_kind) e in
      let q = eqb-true (kind (seen s)) question_mark_kind b.0 in
      only_sure _ s.commas (leb call_level (level t)) _ _ (λ v. chain_by_sure l c start t s sp (leb-true call_level (level t) v) (omega (arith, at question_mark_kind q, cap_question c d)) (seen (next s), (q, tt, refl), (eqb-true (kind2 (seen s)) dot_kind b.1, tt, refl)))) (λ n2.
      test_sure s.commas (kind (seen s)) question_mark_kind _ _ _ (λ e. only_sure _ s.commas (leb coalesce_level (level t)) _ _ (λ v. cond_by_sure l c start t s sp (leb-true coalesce_level (level t) v)
      (omega (arith, subst (λ z. l ≤ cap c z question_mark_kind) (plain_dot s t e n2) (at question_mark_kind e), cap_plain_question c)) e)) (λ n3.
      if_sure s.commas (operates c (kind (seen s))) _ _ _ (λ e. only_sure _ s.commas (fits_left (kind (seen s)) t) _ _ (λ v. binary_by_sure l c start t s sp
      (omega (arith, at (kind (seen s)) refl, cap_binary c d (kind (seen s)) (ne_eqb (kind (seen s)) comma_kind n0) n1 (ne_eqb (kind (seen s)) question_mark_kind n3) e)) e v)) (λ n4.
      if_sure s.commas (between plus_plus_kind minus_minus_kind (kind (seen s))) _ _ _ (λ e. only_sure _ s.commas (leb new_level (level t) && not (brk (seen s))) _ _ (λ v.
      let b = and_parts (leb new_level (level t)) (not (brk (seen s))) v in let q = update_expr (span (lo (seen start)) (hi (seen s))) (kind (seen s)) false t in
      done (q, next s) (GotStep l c start) (
        omega (arith, at (kind (seen s)) refl, cap_update c d (kind (seen s)) (ne_eqb (kind (seen s)) comma_kind n0) n1 (ne_eqb (kind (seen s)) question_mark_kind n3) n4 e),
        dull c start q (next s) (seen s, update_op (kind (seen s)) e, (leb-true new_level (level t) b.0, sp), not-true (brk (seen s)) b.1, (refl, tt, refl), refl) (λ y j. refl),
      ))) (λ n5.
      if_sure s.commas (not (leb call_level (level t))) _ _ _ (λ _. record { so = tt }) (λ nv. let v = leb-true call_level (level t) (not_no (leb call_level (level t)) nv) in
      test_sure s.commas (kind (seen s)) left_paren_kind _ _ _ (λ e. call_by_sure l c start t s sp v (omega (arith, at left_paren_kind e, cap_paren c d)) e) (λ _.
      test_sure s.commas (kind (seen s)) left_bracket_kind _ _ _ (λ e. index_by_sure l c start t s h sp v (omega (arith, at left_bracket_kind e, cap_bracket c d)) e) (λ _.
      test_sure s.commas (kind (seen s)) dot_kind _ _ _ (λ e. member_by_sure l c start t s h sp v (omega (arith, at dot_kind e, cap_dot c d)) e) (λ _.
      if_sure s.commas (eqb (kind (seen s)) back_quote_kind && not (is_chain t)) _ _ _ (λ z. let b = and_parts (eqb (kind (seen s)) back_quote_kind) (not (is_chain t)) z in let e = eqb-true (kind (seen s)) back_quote_kind b.0 in
      then_sure s.commas (template_by lm inner c true s) _ _ _ (template_sure inner good c true s e) (λ q y. let u = span (lo (seen start)) q.1.source.last in
      done (tagged_tpl u t q.0, q.1) (GotStep l c start) (template_is true (plain c) (seen s) (seen q.1) (λ a. GotStep l c start (tagged_tpl u t a, q.1))
      (λ a es qs k. (omega (arith, h, at back_quote_kind e, cap_quote c d), dull c start _ q.1 (seen s, not-true (is_chain t) b.1, (v, sp), k, refl) (λ y j. refl))) q.0 y)))
      (λ _. record { so = tt })))))))))))
    where
      not_no : (b : Bool) → not b ≡ false → b ≡ true
      not_no true e = refl
      not_no false e = absurd (true≢false e)

      plain_dot : (s : State Input) (t : Tree) → kind (seen s) ≡ question_mark_kind → (eqb (kind (seen s)) question_mark_kind && eqb (kind2 (seen s)) dot_kind) ≡ false → dotted (ends t) s ≡ false
      plain_dot s t e n = ap (λ z. z && eqb (ends t) 0) (subst (λ (k : ℕ). (eqb k question_mark_kind && eqb (kind2 (seen s)) dot_kind) ≡ false) e n)

  -- ---- the loop

  record Going (l : ℕ) (c : Code) (start : State Input) (t : Tree) (s : State Input) : Type 0 where
    high : l ≤ level t
    made : Made c start (t, s)

  loop_step_sure : (l : ℕ) (c : Code) (start : State Input) → 1 ≤ l → (t : Tree) (s : State Input) → Going l c start t s → Sure s.commas (loop_step lm inner c l (lo (seen start)) t s) (StepSure (Going l c start) (Going l c start))
  unfolding loop_step
  loop_step_sure l c start l1 t s i = if_sure s.commas (ltb (goes_expr c (ends t) (seen s)) l) _ _ _ (λ _. done (finished t, s) (StepSure (Going l c start) (Going l c start)) i)
      (λ e. then_sure s.commas (step_by lm inner c (lo (seen start)) t s) _ _ _ (step_sure l c start t s l1 i.high i.made (ltb-false (goes_expr c (ends t) (seen s)) l e)) (λ x h. done (go_on x.0, x.1) (StepSure (Going l c start) (Going l c start)) (record { high = h.0; made = h.1 })))

  loop_by_sure : (l : ℕ) (c : Code) (start : State Input) (t : Tree) (s : State Input) → 1 ≤ l → Made c start (t, s) → Sure s.commas (loop_by lm inner c l (lo (seen start)) t s) (GotExpr c l start)
  unfolding loop_by
  loop_by_sure l c start t s l1 m = if_sure s.commas (leb l (level t)) _ _ _
      (λ e. sure_map s.commas (iterate _ (loop_step lm inner c l (lo (seen start))) t s) _ _ (loop_sure (loop_step lm inner c l (lo (seen start))) (Going l c start) (Going l c start) (λ x r i. loop_step_sure l c start l1 x r i) t s (record { high = leb-true l (level t) e; made = m }))
      (λ x i. (from_level l x.0 i.high, i.made)))
      (λ _. if_sure s.commas (eqb (level t) new_level && eqb l member_level) _ _ _ (λ e. let b = and_parts (eqb (level t) new_level) (eqb l member_level) e in
      done (t, s) (GotExpr c l start) (by_yes (eqb l member_level) _ _ b.1 (inr (eqb-true (level t) new_level b.0)), m)) (λ _. record { so = tt }))

  private_in_sure : (c : Code) (l : ℕ) (s : State Input) → 1 ≤ l → Sure s.commas (private_in lm inner c l s) (GotExpr c l s)
  unfolding private_in
  private_in_sure c l s l1 = then_sure s.commas (private_by lm inner s) _ _ _ (private_sure inner c s) (λ p h.
      if_sure p.1.commas (eqb (kind (seen p.1)) in_kind && (has_in c && leb l (binary_level in_kind))) _ _ _ (λ e.
      let b = and_parts (eqb (kind (seen p.1)) in_kind) (has_in c && leb l (binary_level in_kind)) e in let d = and_parts (has_in c) (leb l (binary_level in_kind)) b.1 in let k = eqb-true (kind (seen p.1)) in_kind b.0 in
      then_sure p.1.commas (binary_by lm inner c (lo (seen s)) p.0 p.1) _ _ _ (binary_by_sure l c s p.0 p.1 h.1 (subst (λ (j : ℕ). l ≤ binary_level j) (sym k) (leb-true l (binary_level in_kind) d.1)) (subst (λ (j : ℕ). operates c j ≡ true) (sym k) d.0) (private_fits p.0 (kind (seen p.1)) h.0 b.0))
      (λ t m. loop_by_sure l c s t.0 t.1 l1 m.1)) (λ _. record { so = tt }))
    where
      private_fits : (a : Tree) (k : ℕ) → is_private a ≡ true → eqb k in_kind ≡ true → fits_left k a ≡ true
      private_fits (private_name s n) k e q = q
      private_fits _ k e q = absurd (true≢false (sym e))

  pub expr_sure : (c : Code) (l : ℕ) (s : State Input) → 1 ≤ l → Sure s.commas (expr_by lm inner c l s) (GotExpr c l s)
  unfolding expr_by expr_from
  expr_sure c l s l1 = test_sure s.commas (kind (seen s)) hash_kind _ _ _ (λ _. private_in_sure c l (operand lm s) l1)
      (λ _. then_sure s.commas (prefix_by lm inner c l (operand lm s)) _ _ _ (prefix_sure inner good c l (operand lm s)) (λ t m. loop_by_sure l c (operand lm s) t.0 t.1 l1 m))
