-- Where a tree may stand, and what stands last behind it.
use Rattle.std.proofs.Common.{◌≡◌, ℕ, ◌≤◌, ⊎_elim, Bool, true, false, ◌&&◌, ◌||◌, not, refl, sym, ap, ◌∙◌, arith}
use Rattle.std.specs.Prelude.{nat_le}
use Rattle.std.proofs.lemmas.Bool.{cases_Bool, false≢true, and_parts, not-true, and_right, or_right, and_from, or_parts, not_from_false}
use Rattle.std.proofs.lemmas.Bool.Decides.{nat_tests}
use Rattle.base_proofs.proofs.Bools.{and_false}
use Rattle.tree_spec.specs.Tree.{Tree, member_expr, tagged_tpl, import_star_as_specifier, export_namespace_specifier, number_lit, private_name, unary_expr, update_expr, bin_expr, new_expr, var_decl, absent, hole, var_declarator, import_decl, named_export, export_decl, export_default_decl, export_default_expr, export_all, import_named_specifier, import_default_specifier, export_named_specifier, switch_case, catch_clause, constructor, class_method, private_method, class_prop, private_prop, static_block, auto_accessor, key_value_prop, assign_prop, getter_prop, setter_prop, method_prop, key_value_pat_prop, assign_pat_prop, param, script, es_module, list}
use Rattle.grammar_spec.specs.Tokens.Operators.{coalesce_level, unary_level, new_level, call_level, binary_level}
use Rattle.grammar_spec.specs.Tokens.Shape.{level, is_absent, is_hole, is_private, is_word_name, is_item, is_module_decl, is_case, is_member}
use Rattle.grammar_laws.proofs.complete_base.Levels.{binary_low}
use Rattle.print_gaps.specs.Edges.{starts_with_word, ends_with_word, first_operand, is_plus, is_minus, is_decrement, is_not_of_decrement, starts_with_regexp}
use Rattle.base_token.specs.declared.place.Span.{Span}
use Rattle.print_layout_spec.specs.declared.look.Stand.{Stand}
use Rattle.print_layout_spec.specs.Layout.{is_head, is_variables, is_block, is_bracketed_name}
use Rattle.print_layout_spec.specs.declared.look.Stand.TheVariants.{Alone}
use Rattle.again_laws.specs.Tiling.Categories.{Clear, Decred, Dot, Dotted, Fresh, Hashed, LessBanged, Lessed, Minused, Numbered, Operated, Plused, Pointed, Quasied, Shut, Slashed, State, Worded, is_end, is_open, is_wordless, takes}

pub at_least : (a b : ℕ) → a ≤ b → nat_le a b ≡ true
at_least a b h = grind (arith, nat_tests)

pub at_most : (a b : ℕ) → nat_le a b ≡ true → a ≤ b
at_most a b e = grind (arith, nat_tests)

-- ---- where a tree may stand

abbrev pub is_tight : Tree → Bool
is_tight t = is_private t || nat_le coalesce_level (level t)

-- a word, maybe: what the printer never asks
abbrev pub starts_otherwise : Tree → Bool
starts_otherwise (var_declarator s n e) = not (is_bracketed_name n)
starts_otherwise (import_decl a b c d) = true
starts_otherwise (named_export a b c d) = true
starts_otherwise (export_decl a b) = true
starts_otherwise (export_default_decl a b) = true
starts_otherwise (export_default_expr a b) = true
starts_otherwise (export_all a b c) = true
starts_otherwise (import_named_specifier a b c) = true
starts_otherwise (import_default_specifier a b) = true
starts_otherwise (export_named_specifier a b c) = true
starts_otherwise (switch_case a b c) = true
starts_otherwise (catch_clause a b c) = true
starts_otherwise (constructor a b c d) = true
starts_otherwise (class_method a b c d e) = true
starts_otherwise (private_method a b c d e) = true
starts_otherwise (class_prop a b c d e) = true
starts_otherwise (private_prop a b c d e) = true
starts_otherwise (static_block a b) = true
starts_otherwise (auto_accessor a b c d e) = true
starts_otherwise (key_value_prop a b c) = true
starts_otherwise (assign_prop a b c) = true
starts_otherwise (getter_prop a b c) = true
starts_otherwise (setter_prop a b c d) = true
starts_otherwise (method_prop a b c) = true
starts_otherwise (key_value_pat_prop a b c) = true
starts_otherwise (assign_pat_prop a b c) = true
starts_otherwise (param a b c) = true
starts_otherwise (script a b c) = true
starts_otherwise (es_module a b c) = true
starts_otherwise (list a) = true
starts_otherwise _ = false

-- with a star, or with nothing, maybe
abbrev pub is_starred : Tree → Bool
is_starred (import_star_as_specifier a b) = true
is_starred (export_namespace_specifier a b) = true
is_starred (class_method a b c d e) = true
is_starred (private_method a b c d e) = true
is_starred (method_prop a b c) = true
is_starred absent = true
is_starred hole = true
is_starred (list a) = true
is_starred (script a b c) = true
is_starred (es_module a b c) = true
is_starred _ = false

-- The tree may follow where this stands last.
abbrev pub admits : State → Tree → Bool
admits Fresh t = true
admits Clear t = true
admits Shut t = true
admits Worded t = not (starts_with_word t) && not (starts_otherwise t)
admits Numbered t = false
admits Pointed t = false
admits Plused t = is_tight t && not (is_plus (first_operand t))
admits Minused t = is_tight t && not (is_minus (first_operand t))
admits Slashed t = is_tight t && not (starts_with_regexp t)
admits Lessed t = is_tight t && not (is_not_of_decrement (first_operand t))
admits LessBanged t = nat_le unary_level (level t) && not (is_decrement t)
admits Dotted t = is_word_name t || is_private t
admits Operated t = not (is_starred t)
admits Decred t = nat_le unary_level (level t)
admits Hashed t = false
admits Quasied t = false

abbrev pub is_number : Tree → Bool
is_number (number_lit s v w) = true
is_number _ = false

abbrev pub is_new : Tree → Bool
is_new (new_expr s f xs) = true
is_new _ = false

-- what may end in a number: a number, `new` without its parentheses, and what is no head of a member
abbrev pub numeric : Stand → Tree → Bool
numeric st t = is_number t || ((is_new t && not (is_head st)) || not (nat_le call_level (level t) || (is_word_name t || is_private t)))

-- statements that end with a semicolon or a brace
abbrev pub is_ended : Tree → Bool
is_ended t = (is_item t || (is_module_decl t || (is_case t || is_member t))) && not (is_variables t)

abbrev pub is_nothing : Tree → Bool
is_nothing t = is_absent t || is_hole t

-- ---- what it leaves

abbrev pub leaves : Stand → Tree → State → Bool
leaves st t Fresh = (is_ended t && not (is_block t)) || is_nothing t
leaves st t Clear = true
leaves st t Shut = true
leaves st t Worded = ends_with_word t && not (is_ended t)
leaves st t Numbered = (ends_with_word t && not (is_ended t)) && numeric st t
leaves st t _ = false

pub admits_open : (s : State) (t : Tree) → admits s t ≡ true → is_open s ≡ true
admits_open Pointed t e = absurd (false≢true e)
admits_open Hashed t e = refl
admits_open Quasied t e = absurd (false≢true e)
admits_open Numbered t e = refl
admits_open Fresh t e = refl
admits_open Clear t e = refl
admits_open Shut t e = refl
admits_open Worded t e = refl
admits_open Plused t e = refl
admits_open Minused t e = refl
admits_open Slashed t e = refl
admits_open Lessed t e = refl
admits_open LessBanged t e = refl
admits_open Dotted t e = refl
admits_open Operated t e = refl
admits_open Decred t e = refl

worded_not : (t : Tree) → (not (starts_with_word t) && not (starts_otherwise t)) ≡ true → starts_with_word t ≡ true → ⊥
worded_not t e w = false≢true (sym (not-true (starts_with_word t) (and_parts (not (starts_with_word t)) _ e).0) ∙ w)

otherwise_no_level : (t : Tree) → (nat_le 1 (level t) && starts_otherwise t) ≡ false
otherwise_no_level (member_expr s o k) = and_false (nat_le 1 (level (member_expr s o k)))
otherwise_no_level (tagged_tpl s o k) = and_false (nat_le 1 (level (tagged_tpl s o k)))
otherwise_no_level (bin_expr s op a b) = and_false (nat_le 1 (binary_level op))
otherwise_no_level (new_expr s f xs) = and_false (nat_le 1 (level (new_expr s f xs)))
otherwise_no_level _ = refl

starred_no_level : (t : Tree) → (nat_le 1 (level t) && is_starred t) ≡ false
starred_no_level (member_expr s o k) = and_false (nat_le 1 (level (member_expr s o k)))
starred_no_level (tagged_tpl s o k) = and_false (nat_le 1 (level (tagged_tpl s o k)))
starred_no_level (bin_expr s op a b) = and_false (nat_le 1 (binary_level op))
starred_no_level (new_expr s f xs) = and_false (nat_le 1 (level (new_expr s f xs)))
starred_no_level _ = refl

-- an expression starts with no star
pub unstarred : (t : Tree) → 1 ≤ level t → admits Operated t ≡ true
unstarred t h = ap not (ap (λ b. b && is_starred t) (sym (at_least 1 (level t) h)) ∙ starred_no_level t)

pub expression_opens : (t : Tree) → 1 ≤ level t → starts_otherwise t ≡ false
expression_opens t h = ap (λ b. b && starts_otherwise t) (sym (at_least 1 (level t) h)) ∙ otherwise_no_level t

pub worded_admits : (t : Tree) → starts_with_word t ≡ false → starts_otherwise t ≡ false → admits Worded t ≡ true
worded_admits t e f = and_from (not (starts_with_word t)) _ (ap not e) (ap not f)

-- what starts with a word stands behind no word
pub admits_word : (s : State) (t : Tree) → admits s t ≡ true → starts_with_word t ≡ true → is_wordless s ≡ true
admits_word Worded t e w = absurd (worded_not t e w)
admits_word Numbered t e w = absurd (false≢true e)
admits_word Pointed t e w = absurd (false≢true e)
admits_word Quasied t e w = absurd (false≢true e)
admits_word Hashed t e w = absurd (false≢true e)
admits_word Fresh t e w = refl
admits_word Clear t e w = refl
admits_word Shut t e w = refl
admits_word Plused t e w = refl
admits_word Minused t e w = refl
admits_word Slashed t e w = refl
admits_word Lessed t e w = refl
admits_word LessBanged t e w = refl
admits_word Dotted t e w = refl
admits_word Operated t e w = refl
admits_word Decred t e w = refl

pub leaves_open : (st : Stand) (t : Tree) (u : State) → leaves st t u ≡ true → is_open u ≡ true
leaves_open st t Fresh e = refl
leaves_open st t Clear e = refl
leaves_open st t Shut e = refl
leaves_open st t Worded e = refl
leaves_open st t Numbered e = refl
leaves_open st t _ e = absurd (false≢true e)

pub leaves_end : (st : Stand) (t : Tree) (u : State) → leaves st t u ≡ true → is_end u ≡ true
leaves_end st t Fresh e = refl
leaves_end st t Clear e = refl
leaves_end st t Shut e = refl
leaves_end st t Worded e = refl
leaves_end st t Numbered e = refl
leaves_end st t _ e = absurd (false≢true e)

-- where each tree may stand
abbrev pub is_free : State → Bool
is_free Fresh = true
is_free Clear = true
is_free Shut = true
is_free _ = false

pub free_admits : (s : State) (t : Tree) → is_free s ≡ true → admits s t ≡ true
free_admits Fresh t e = refl
free_admits Clear t e = refl
free_admits Shut t e = refl
free_admits _ t e = absurd (false≢true e)

pub free_open : (s : State) → is_free s ≡ true → is_open s ≡ true
free_open Fresh e = refl
free_open Clear e = refl
free_open Shut e = refl
free_open _ e = absurd (false≢true e)

pub free_wordless : (s : State) → is_free s ≡ true → is_wordless s ≡ true
free_wordless Fresh e = refl
free_wordless Clear e = refl
free_wordless Shut e = refl
free_wordless _ e = absurd (false≢true e)

pub free_end : (s : State) → is_free s ≡ true → is_end s ≡ true
free_end Fresh e = refl
free_end Clear e = refl
free_end Shut e = refl
free_end _ e = absurd (false≢true e)

-- a head leaves no number
pub leaves_dot : (st : Stand) (t : Tree) (u : State) → numeric st t ≡ false → leaves st t u ≡ true → takes Dot u ≡ true
leaves_dot st t Fresh n e = refl
leaves_dot st t Clear n e = refl
leaves_dot st t Shut n e = refl
leaves_dot st t Worded n e = refl
leaves_dot st t Numbered n e = absurd (false≢true (sym n ∙ (and_parts _ (numeric st t) e).1))
leaves_dot st t _ n e = absurd (false≢true e)

pub no_lines : (t : Tree) → (is_ended t || is_nothing t) ≡ false → ((is_ended t && not (is_block t)) || is_nothing t) ≡ false
no_lines t n = let p = or_parts (is_ended t) (is_nothing t) n in ap (λ b. (b && not (is_block t)) || is_nothing t) p.0 ∙ p.1

-- what a last part leaves the whole leaves
pub passes : (st su : Stand) (t u : Tree) (v : State) → leaves st t v ≡ true → (is_ended t || is_nothing t) ≡ false → (ends_with_word t ≡ true → (ends_with_word u && not (is_ended u)) ≡ true) → (numeric st t ≡ true → numeric su u ≡ true)
    → leaves su u v ≡ true
passes st su t u Fresh e n w d = absurd (false≢true (sym (no_lines t n) ∙ e))
passes st su t u Clear e n w d = refl
passes st su t u Shut e n w d = refl
passes st su t u Worded e n w d = w (and_parts (ends_with_word t) _ e).0
passes st su t u Numbered e n w d =
    let p = and_parts (ends_with_word t && not (is_ended t)) (numeric st t) e in
    and_from _ (numeric su u) (w (and_parts (ends_with_word t) _ p.0).0) (d p.1)
passes st su t u _ e n w d = absurd (false≢true e)

ended_no_level : (t : Tree) → (is_ended t && nat_le 1 (level t)) ≡ false
ended_no_level (var_decl s k ds) = and_right _ (nat_le 1 0) refl
ended_no_level _ = refl

nothing_no_level : (t : Tree) → (is_nothing t && nat_le 1 (level t)) ≡ false
nothing_no_level absent = refl
nothing_no_level hole = refl
nothing_no_level _ = refl

and_first_false : (a b : Bool) → (a && b) ≡ false → b ≡ true → a ≡ false
and_first_false true b e f = absurd (false≢true (sym e ∙ f))
and_first_false false b e f = refl

-- an expression is no statement
pub expression_plain : (t : Tree) → 1 ≤ level t → (is_ended t || is_nothing t) ≡ false
expression_plain t h =
    let l = at_least 1 (level t) h in
    let e = and_first_false (is_ended t) _ (ended_no_level t) l in
    let n = and_first_false (is_nothing t) _ (nothing_no_level t) l in
    ap (λ b. b || is_nothing t) e ∙ n

-- a last operand leaves what the whole leaves
pub operand_leaves : (st : Stand) (x u : Tree) (v : State) → 1 ≤ level x → (ends_with_word u && not (is_ended u)) ≡ true → numeric st u ≡ true → leaves Alone x v ≡ true → leaves st u v ≡ true
operand_leaves st x u v h w n l = passes Alone st x u v l (expression_plain x h) (λ e. w) (λ e. n)

-- what doesn't end with a word leaves none
pub leaves_wordless : (st : Stand) (t : Tree) (u : State) → (ends_with_word t && not (is_ended t)) ≡ false → leaves st t u ≡ true → is_free u ≡ true
leaves_wordless st t Fresh n e = refl
leaves_wordless st t Clear n e = refl
leaves_wordless st t Shut n e = refl
leaves_wordless st t Worded n e = absurd (false≢true (sym n ∙ e))
leaves_wordless st t Numbered n e = absurd (false≢true (sym n ∙ (and_parts _ (numeric st t) e).0))
leaves_wordless st t _ n e = absurd (false≢true e)

-- ---- heads: what stands first in a larger expression

record Plainly (t : Tree) : Type 0 where
  no_plus : is_plus (first_operand t) ≡ false
  no_minus : is_minus (first_operand t) ≡ false
  no_bang : is_not_of_decrement (first_operand t) ≡ false
  no_decrement : is_decrement t ≡ false

plain_first : (t : Tree) → new_level ≤ level t → Plainly t
plain_first (unary_expr s op a) h = absurd (omega arith)
plain_first (update_expr s op b a) h = absurd (omega arith)
plain_first (bin_expr s op a b) h = let k = binary_low op in absurd (omega (arith, k))
plain_first _ h = record { no_plus = refl; no_minus = refl; no_bang = refl; no_decrement = refl }

-- the head of a call, of a member and the like
pub head_admits : (s : State) (t u : Tree) → new_level ≤ level u → starts_with_word u ≡ starts_with_word t → starts_with_regexp u ≡ starts_with_regexp t → (is_word_name t || is_private t) ≡ false
    → admits s t ≡ true → admits s u ≡ true
head_admits Fresh t u h w r d e = refl
head_admits Clear t u h w r d e = refl
head_admits Shut t u h w r d e = refl
head_admits Worded t u h w r d e = worded_admits u (w ∙ not-true (starts_with_word t) (and_parts (not (starts_with_word t)) _ e).0) (expression_opens u (omega arith))
head_admits Numbered t u h w r d e = e
head_admits Pointed t u h w r d e = e
head_admits Plused t u h w r d e = and_from (is_tight u) _ (or_right (is_private u) _ (at_least coalesce_level (level u) (omega arith))) (not_from_false _ (plain_first u h).no_plus)
head_admits Minused t u h w r d e = and_from (is_tight u) _ (or_right (is_private u) _ (at_least coalesce_level (level u) (omega arith))) (not_from_false _ (plain_first u h).no_minus)
head_admits Slashed t u h w r d e = and_from (is_tight u) _ (or_right (is_private u) _ (at_least coalesce_level (level u) (omega arith))) (ap not r ∙ (and_parts (is_tight t) _ e).1)
head_admits Lessed t u h w r d e = and_from (is_tight u) _ (or_right (is_private u) _ (at_least coalesce_level (level u) (omega arith))) (not_from_false _ (plain_first u h).no_bang)
head_admits LessBanged t u h w r d e = and_from (nat_le unary_level (level u)) _ (at_least unary_level (level u) (omega arith)) (not_from_false _ (plain_first u h).no_decrement)
head_admits Dotted t u h w r d e = absurd (false≢true (sym d ∙ e))
head_admits Operated t u h w r d e = unstarred u (omega arith)
head_admits Decred t u h w r d e = at_least unary_level (level u) (omega arith)
head_admits Hashed t u h w r d e = e
head_admits Quasied t u h w r d e = e

-- the first part of what is no operand of an operator
pub loose_admits : (s : State) (t u : Tree) → is_tight t ≡ false → nat_le unary_level (level t) ≡ false → (is_word_name t || is_private t) ≡ false → starts_with_word u ≡ starts_with_word t → 1 ≤ level u
    → admits s t ≡ true → admits s u ≡ true
loose_admits Fresh t u i n d w l e = refl
loose_admits Clear t u i n d w l e = refl
loose_admits Shut t u i n d w l e = refl
loose_admits Worded t u i n d w l e = worded_admits u (w ∙ not-true (starts_with_word t) (and_parts (not (starts_with_word t)) _ e).0) (expression_opens u l)
loose_admits Numbered t u i n d w l e = e
loose_admits Pointed t u i n d w l e = e
loose_admits Plused t u i n d w l e = absurd (false≢true (sym i ∙ (and_parts (is_tight t) _ e).0))
loose_admits Minused t u i n d w l e = absurd (false≢true (sym i ∙ (and_parts (is_tight t) _ e).0))
loose_admits Slashed t u i n d w l e = absurd (false≢true (sym i ∙ (and_parts (is_tight t) _ e).0))
loose_admits Lessed t u i n d w l e = absurd (false≢true (sym i ∙ (and_parts (is_tight t) _ e).0))
loose_admits LessBanged t u i n d w l e = absurd (false≢true (sym n ∙ (and_parts (nat_le unary_level (level t)) _ e).0))
loose_admits Dotted t u i n d w l e = absurd (false≢true (sym d ∙ e))
loose_admits Operated t u i n d w l e = unstarred u l
loose_admits Decred t u i n d w l e = absurd (false≢true (sym n ∙ e))
loose_admits Hashed t u i n d w l e = e
loose_admits Quasied t u i n d w l e = e

binary_no_unary : (op : ℕ) → nat_le unary_level (binary_level op) ≡ true → ⊥
binary_no_unary op e = let k = binary_low op in let h = at_most unary_level (binary_level op) e in omega (arith, k, h)

pub tight_opens : (a : Tree) → is_tight a ≡ true → starts_otherwise a ≡ false
tight_opens a i = ⊎_elim
    (λ (t : is_private a ≡ true). private_opens a t)
    (λ (f : is_private a ≡ false). expression_opens a (let h = at_most coalesce_level (level a) (sym (ap (λ b. b || nat_le coalesce_level (level a)) f) ∙ i) in omega (arith, h)))
    (cases_Bool (is_private a))
  where
    private_opens : (a : Tree) → is_private a ≡ true → starts_otherwise a ≡ false
    private_opens (private_name s n) t = refl
    private_opens _ t = absurd (false≢true t)

-- and nor does an operand of an operator
pub tight_unstarred : (a : Tree) → is_tight a ≡ true → admits Operated a ≡ true
tight_unstarred a i = ⊎_elim
    (λ (t : is_private a ≡ true). private_unstarred a t)
    (λ (f : is_private a ≡ false). unstarred a (let h = at_most coalesce_level (level a) (sym (ap (λ b. b || nat_le coalesce_level (level a)) f) ∙ i) in omega (arith, h)))
    (cases_Bool (is_private a))
  where
    private_unstarred : (a : Tree) → is_private a ≡ true → admits Operated a ≡ true
    private_unstarred (private_name s n) t = refl
    private_unstarred _ t = absurd (false≢true t)

-- the left operand
pub left_admits : (s : State) (sp : Rattle.base_token.specs.declared.place.Span.Span) (op : ℕ) (a b : Tree) → is_tight a ≡ true → admits s (bin_expr sp op a b) ≡ true → admits s a ≡ true
left_admits Fresh sp op a b i e = refl
left_admits Clear sp op a b i e = refl
left_admits Shut sp op a b i e = refl
left_admits Worded sp op a b i e = worded_admits a (not-true (starts_with_word a) (and_parts (not (starts_with_word a)) _ e).0) (tight_opens a i)
left_admits Numbered sp op a b i e = e
left_admits Pointed sp op a b i e = e
left_admits Plused sp op a b i e = and_from (is_tight a) _ i (and_parts (is_tight (bin_expr sp op a b)) _ e).1
left_admits Minused sp op a b i e = and_from (is_tight a) _ i (and_parts (is_tight (bin_expr sp op a b)) _ e).1
left_admits Slashed sp op a b i e = and_from (is_tight a) _ i (and_parts (is_tight (bin_expr sp op a b)) _ e).1
left_admits Lessed sp op a b i e = and_from (is_tight a) _ i (and_parts (is_tight (bin_expr sp op a b)) _ e).1
left_admits LessBanged sp op a b i e = absurd (binary_no_unary op (and_parts (nat_le unary_level (binary_level op)) _ e).0)
left_admits Dotted sp op a b i e = absurd (false≢true e)
left_admits Operated sp op a b i e = tight_unstarred a i
left_admits Decred sp op a b i e = absurd (binary_no_unary op e)
left_admits Hashed sp op a b i e = e
left_admits Quasied sp op a b i e = e
