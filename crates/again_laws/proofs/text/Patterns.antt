-- Patterns and parameters.
use Rattle.std.proofs.Common.{◌≡◌, ◌≤◌, ⊎_elim, Bool, true, false, ◌&&◌, ◌||◌, not, refl, sym, ap, ◌∙◌}
use Rattle.std.specs.Prelude.{nat_le}
use Rattle.std.proofs.lemmas.Bool.{false≢true, and_parts, not-true, and_right, and_from}
use Rattle.base_token.specs.declared.place.Span.{Span}
use Rattle.tree_spec.specs.Tree.{Tree, Trees, none, array_pat, object_pat, rest_pat, assign_pat, key_value_pat_prop, assign_pat_prop, expr_pat, param, binding_ident, member_expr, super_prop_expr, paren_expr}
use Rattle.grammar_spec.specs.Tokens.Operators.{unary_level}
use Rattle.grammar_spec.specs.Tokens.Shape.{level, is_place, is_item_pat, is_private, is_word_name, is_key, is_bound_name, is_target_expr, is_simple}
use Rattle.print_gaps.specs.Edges.{starts_with_word, ends_with_word, is_there}
use Rattle.print_layout_spec.specs.declared.look.Look.{Look}
use Rattle.print_layout_spec.specs.declared.look.Stand.TheVariants.{Alone, Key}
use Rattle.print_layout_spec.specs.Looks.{◌·◌, gap, end}
use Rattle.print_layout_spec.specs.Layout.{laid, separated, comma, ends_with_hole, is_empty}
use Rattle.again_laws.specs.Tiling.Categories.{State, Fresh, Clear, Shut, Worded, Numbered, Pointed, Plused, Minused, Slashed, Lessed, LessBanged, Dotted, Operated, Decred, Hashed, Quasied, Dots, is_open, takes, blank_behind}
use Rattle.again_laws.proofs.text.Marks.{left_bracket, right_bracket, left_brace, colon_mark, dots_mark, equals_mark}
use Rattle.again_laws.proofs.text.Admits.{admits, leaves, is_tight, is_ended, is_nothing, is_starred, starts_otherwise, passes, expression_plain, worded_admits, unstarred, admits_open, leaves_open, leaves_end, is_free}
use Rattle.again_laws.proofs.text.Steps.{Steps, ◌▸◌, ends, at, either, mark, nil, text_by, shut, braced, when_goes, gaps}
use Rattle.again_laws.proofs.text.Forms.{Good, AllGood}
use Rattle.again_laws.proofs.text.NamesAndCalls.{leaving, commas_go}
use Rattle.again_laws.proofs.text.VariablesAndMethods.{gapped}
use Rattle.again_laws.proofs.text.Expressions.{last_comma}

-- ---- what stands first in another tree

-- in what is no operand and starts as it does
pub first_admits : (s : State) (t u : Tree) → is_tight t ≡ false → nat_le unary_level (level t) ≡ false → (is_word_name t || is_private t) ≡ false → starts_with_word u ≡ starts_with_word t → starts_otherwise u ≡ false → is_starred u ≡ false
    → admits s t ≡ true → admits s u ≡ true
first_admits Fresh t u i n d w o x e = refl
first_admits Clear t u i n d w o x e = refl
first_admits Shut t u i n d w o x e = refl
first_admits Worded t u i n d w o x e = worded_admits u (w ∙ not-true (starts_with_word t) (and_parts (not (starts_with_word t)) _ e).0) o
first_admits Operated t u i n d w o x e = ap not x
first_admits Numbered t u i n d w o x e = e
first_admits Pointed t u i n d w o x e = e
first_admits Plused t u i n d w o x e = absurd (false≢true (sym i ∙ (and_parts (is_tight t) _ e).0))
first_admits Minused t u i n d w o x e = absurd (false≢true (sym i ∙ (and_parts (is_tight t) _ e).0))
first_admits Slashed t u i n d w o x e = absurd (false≢true (sym i ∙ (and_parts (is_tight t) _ e).0))
first_admits Lessed t u i n d w o x e = absurd (false≢true (sym i ∙ (and_parts (is_tight t) _ e).0))
first_admits LessBanged t u i n d w o x e = absurd (false≢true (sym n ∙ (and_parts (nat_le unary_level (level t)) _ e).0))
first_admits Dotted t u i n d w o x e = absurd (false≢true (sym d ∙ e))
first_admits Decred t u i n d w o x e = absurd (false≢true (sym n ∙ e))
first_admits Hashed t u i n d w o x e = e
first_admits Quasied t u i n d w o x e = e

-- in what may start with a word that no printer asks of
pub inner_admits : (s : State) (t u : Tree) → starts_otherwise t ≡ true → is_tight t ≡ false → nat_le unary_level (level t) ≡ false → (is_word_name t || is_private t) ≡ false → is_starred u ≡ false → admits s t ≡ true → admits s u ≡ true
inner_admits Fresh t u o i n d x e = refl
inner_admits Clear t u o i n d x e = refl
inner_admits Shut t u o i n d x e = refl
inner_admits Worded t u o i n d x e = absurd (false≢true (sym (ap not o) ∙ (and_parts (not (starts_with_word t)) _ e).1))
inner_admits Operated t u o i n d x e = ap not x
inner_admits Numbered t u o i n d x e = e
inner_admits Pointed t u o i n d x e = e
inner_admits Plused t u o i n d x e = absurd (false≢true (sym i ∙ (and_parts (is_tight t) _ e).0))
inner_admits Minused t u o i n d x e = absurd (false≢true (sym i ∙ (and_parts (is_tight t) _ e).0))
inner_admits Slashed t u o i n d x e = absurd (false≢true (sym i ∙ (and_parts (is_tight t) _ e).0))
inner_admits Lessed t u o i n d x e = absurd (false≢true (sym i ∙ (and_parts (is_tight t) _ e).0))
inner_admits LessBanged t u o i n d x e = absurd (false≢true (sym n ∙ (and_parts (nat_le unary_level (level t)) _ e).0))
inner_admits Dotted t u o i n d x e = absurd (false≢true (sym d ∙ e))
inner_admits Decred t u o i n d x e = absurd (false≢true (sym n ∙ e))
inner_admits Hashed t u o i n d x e = e
inner_admits Quasied t u o i n d x e = e

pub blank_open : (v : State) → is_open (blank_behind v) ≡ true
blank_open Fresh = refl
blank_open _ = refl

-- a key is no statement, and starts with no star
pub key_unstarred : (k : Tree) → is_key k ≡ true → is_starred k ≡ false
key_unstarred k e = not-true (is_starred k) (key_operated' k e)
  where
    key_operated' : (k : Tree) → is_key k ≡ true → admits Operated k ≡ true
    key_operated' (Rattle.tree_spec.specs.Tree.ident_name s n) e = refl
    key_operated' (Rattle.tree_spec.specs.Tree.str_lit s u w) e = refl
    key_operated' (Rattle.tree_spec.specs.Tree.number_lit s v w) e = refl
    key_operated' (Rattle.tree_spec.specs.Tree.big_int_lit s b d w) e = refl
    key_operated' (Rattle.tree_spec.specs.Tree.computed_prop_name s x) e = refl
    key_operated' _ e = absurd (false≢true e)

-- ---- what stands in a place of a pattern

pub record PlainPart (t : Tree) : Type 0 where
  pub plain : (is_ended t || is_nothing t) ≡ false
  pub opens : starts_otherwise t ≡ false
  pub no_star : is_starred t ≡ false

pub place_plain : (b : Bool) (t : Tree) → is_place b t ≡ true → PlainPart t
place_plain b (binding_ident s i) e = record { plain = refl; opens = refl; no_star = refl }
place_plain b (array_pat s xs) e = record { plain = refl; opens = refl; no_star = refl }
place_plain b (object_pat s xs) e = record { plain = refl; opens = refl; no_star = refl }
place_plain b (expr_pat x) e = record { plain = refl; opens = refl; no_star = refl }
place_plain b _ e = absurd (false≢true (sym (and_right (not b) false refl) ∙ e))

pub item_plain : (b : Bool) (t : Tree) → is_item_pat b t ≡ true → PlainPart t
item_plain b (assign_pat s p x) e = record { plain = refl; opens = refl; no_star = refl }
item_plain b (rest_pat s d p) e = record { plain = refl; opens = refl; no_star = refl }
item_plain b (binding_ident s i) e = record { plain = refl; opens = refl; no_star = refl }
item_plain b (array_pat s xs) e = record { plain = refl; opens = refl; no_star = refl }
item_plain b (object_pat s xs) e = record { plain = refl; opens = refl; no_star = refl }
item_plain b (expr_pat x) e = record { plain = refl; opens = refl; no_star = refl }
item_plain b _ e = absurd (false≢true (sym (and_right (not b) false refl) ∙ e))

module _ (look : Look) where
  pub array_pattern : (sp : Span) (xs : Trees) → AllGood look xs → Good look (array_pat sp xs)
  array_pattern sp xs a st s d =
      mark ▸ at (shut left_bracket (admits_open s (array_pat sp xs) d) ▸ at (commas_go look xs Shut a refl ▸ λ v o. last_comma look (ends_with_hole xs) v o ▸ λ w p. shut right_bracket p ▸ at (leaving st (array_pat sp xs) mark refl)))

  pub object_pattern : (sp : Span) (ps : Trees) → AllGood look ps → Good look (object_pat sp ps)
  object_pattern sp ps a st s d =
      mark ▸ at (shut left_brace (admits_open s (object_pat sp ps) d) ▸ at (when_goes {P = λ u. is_open u ≡ true} (not (is_empty ps))
      (λ e. gaps look refl ▸ either (inner Shut refl) (inner Clear refl)) (λ e. refl) ▸ λ v o. braced o ▸ at (leaving st (object_pat sp ps) mark refl)))
    where
      inner : (u : State) → is_free u ≡ true → Steps (separated look (comma look) ps · gap look) u (λ v. is_open v ≡ true)
      inner u f = commas_go look ps u a f ▸ λ v o. ends (gaps look o) (λ w q. ⊎_elim (λ (e : w ≡ v). ap is_open e ∙ o) (λ (e : w ≡ blank_behind v). ap is_open e ∙ blank_open v) q)

  dots_stand : (s : State) (sp d : Span) (p : Tree) → admits s (rest_pat sp d p) ≡ true → takes Dots s ≡ true
  dots_stand Fresh sp d p a = refl
  dots_stand Clear sp d p a = refl
  dots_stand Shut sp d p a = refl
  dots_stand Worded sp d p a = refl
  dots_stand Operated sp d p a = refl
  dots_stand _ sp d p a = absurd (false≢true a)

  pub rest_pattern : (sp d : Span) (p : Tree) → Good look p → (is_ended p || is_nothing p) ≡ false → Good look (rest_pat sp d p)
  rest_pattern sp d p f n st s a =
      mark ▸ at (text_by Dots dots_mark (dots_stand s sp d p a) ▸ at (mark ▸ at (ends (f Alone Shut refl) (λ v l. passes Alone st p (rest_pat sp d p) v l n (λ e. and_from (ends_with_word p) true e refl) (λ e. refl)))))

  pub initialised_pattern : (sp : Span) (p e : Tree) → Good look p → PlainPart p → Good look e → 1 ≤ level e → Good look (assign_pat sp p e)
  initialised_pattern sp p e f n g h st s a =
      mark ▸ at (f Alone s (first_admits s (assign_pat sp p e) p refl refl refl refl n.opens n.no_star a) ▸ λ v l.
      gapped look v (laid look Alone e · end sp) equals_mark (leaves_end Alone p v l) (value Operated (unstarred e h)) (value Clear refl))
    where
      value : (u : State) → admits u e ≡ true → Steps (laid look Alone e · end sp) u (λ v. leaves st (assign_pat sp p e) v ≡ true)
      value u q = g Alone u q ▸ λ v l. leaving st (assign_pat sp p e) mark (passes Alone st e (assign_pat sp p e) v l (expression_plain e h) (λ t. and_from (ends_with_word e) true t refl) (λ t. refl))

  pub keyed_pattern : (sp : Span) (k p : Tree) → Good look k → is_key k ≡ true → Good look p → (is_ended p || is_nothing p) ≡ false → Good look (key_value_pat_prop sp k p)
  keyed_pattern sp k p f i g n st s a =
      mark ▸ at (f Key s (inner_admits s (key_value_pat_prop sp k p) k refl refl refl refl (key_unstarred k i) a) ▸ λ v l. shut colon_mark (leaves_open Key k v l) ▸ at (gaps look refl ▸ either (value Shut refl) (value Clear refl)))
    where
      value : (u : State) → admits u p ≡ true → Steps (laid look Alone p · end sp) u (λ v. leaves st (key_value_pat_prop sp k p) v ≡ true)
      value u q = g Alone u q ▸ λ v l. leaving st (key_value_pat_prop sp k p) mark (passes Alone st p (key_value_pat_prop sp k p) v l n (λ t. refl) (λ t. refl))

  pub named_pattern : (sp : Span) (k e : Tree) → Good look k → is_bound_name k ≡ true → (is_there e ≡ true → Good look e × (1 ≤ level e)) → Good look (assign_pat_prop sp k e)
  named_pattern sp k e f i g st s a =
      let p = bound_plain k i in
      mark ▸ at (f Alone s (inner_admits s (assign_pat_prop sp k e) k refl refl refl refl p.no_star a) ▸ λ v l.
      when_goes (is_there e) (λ t. gapped look v (laid look Alone e) equals_mark (leaves_end Alone k v l) (value t Operated (unstarred e (g t).1)) (value t Clear refl))
      (λ t. passes Alone st k (assign_pat_prop sp k e) v l p.plain (λ q. refl) (λ q. refl)) ▸ λ w m. leaving st (assign_pat_prop sp k e) mark m)
    where
      bound_plain : (k : Tree) → is_bound_name k ≡ true → PlainPart k
      bound_plain (binding_ident s j) i = record { plain = refl; opens = refl; no_star = refl }
      bound_plain _ i = absurd (false≢true i)

      value : is_there e ≡ true → (u : State) → admits u e ≡ true → Steps (laid look Alone e) u (λ v. leaves st (assign_pat_prop sp k e) v ≡ true)
      value t u q = ends ((g t).0 Alone u q) (λ v l. passes Alone st e (assign_pat_prop sp k e) v l (expression_plain e (g t).1) (λ z. refl) (λ z. refl))

  -- an expression in a place of a pattern
  target_part : (x : Tree) → (is_target_expr x && is_simple x) ≡ true → PlainPart x
  target_part (member_expr s o k) e = record { plain = refl; opens = refl; no_star = refl }
  target_part (super_prop_expr s o k) e = record { plain = refl; opens = refl; no_star = refl }
  target_part (paren_expr s y) e = record { plain = refl; opens = refl; no_star = refl }
  target_part _ e = absurd (false≢true e)

  pub target_pattern : (x : Tree) → Good look x → (is_target_expr x && is_simple x) ≡ true → Good look (expr_pat x)
  target_pattern x f i st s a =
      let p = target_part x i in
      ends (f Alone s (first_admits s (expr_pat x) x refl refl refl refl p.opens p.no_star a)) (λ v l. passes Alone st x (expr_pat x) v l p.plain (λ e. and_from (ends_with_word x) true e refl) (λ e. refl))

  pub param_node : (sp : Span) (p : Tree) → Good look p → PlainPart p → Good look (param sp none p)
  param_node sp p f n st s a =
      mark ▸ at (nil ▸ at (f Alone s (inner_admits s (param sp none p) p refl refl refl refl n.no_star a) ▸ λ v l. leaving st (param sp none p) mark (passes Alone st p (param sp none p) v l n.plain (λ e. refl) (λ e. refl))))
