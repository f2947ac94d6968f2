-- Imports and exports.
use Rattle.std.proofs.Common.{◌≡◌, ℕ, ◌≤◌, inl, inr, ⊎_elim, Bool, true, false, ◌&&◌, ◌||◌, not, refl, sym, ap, ◌∙◌}
use Rattle.std.specs.Prelude.{nat_le, codes, if◌then◌else◌, is_some}
use Rattle.std.proofs.lemmas.Bool.{false≢true, true≢false, or_right}
use Rattle.base_token.specs.declared.place.Span.{Span}
use Rattle.tree_spec.specs.Tree.{Tree, Trees, none, more, import_decl, export_decl, named_export, export_default_decl, export_default_expr, export_all, import_named_specifier, import_default_specifier, import_star_as_specifier, export_namespace_specifier, export_named_specifier, class_expr, class_decl, class, fn_expr, fn_decl, function, var_decl, block_stmt, debugger_stmt, ident, str_lit, object_lit, absent}
use Rattle.grammar_spec.specs.Tokens.Operators.{unary_level}
use Rattle.grammar_spec.specs.Tokens.Shape.{level, is_absent, is_string, is_attributes, export_name, is_named_import, is_named_export, is_private, is_word_name}
use Rattle.print_gaps.specs.Edges.{starts_with_word, ends_with_word, is_there}
use Rattle.print_layout_spec.specs.declared.look.Look.{Look}
use Rattle.print_layout_spec.specs.declared.look.Stand.{Stand}
use Rattle.print_layout_spec.specs.declared.look.Stand.TheVariants.{Alone, Key}
use Rattle.print_layout_spec.specs.Looks.{Laid, ◌·◌, nothing, text, when, gap, blank, semi, start, end, brace}
use Rattle.print_layout_spec.specs.Layout.{laid, attributes, from, imports, exports, import_heads, named_items, first_namespace, in_braces, comma, word, starts_with_default, is_named, has_named, has_default, has_namespace, has_other, is_no_namespace}
use Rattle.lex_token.specs.declared.goal.LexicalGoal.TheVariants.{Div}
use Rattle.again_laws.specs.Tiling.Categories.{State, Fresh, Clear, Shut, Worded, Operated, Operator, Word, is_open, is_end, is_wordless, blank_behind}
use Rattle.again_laws.specs.Tiling.Goes.{Fits}
use Rattle.again_laws.proofs.text.Keywords.{import_word, from_word, as_word, export_word, default_word, with_word, assert_word}
use Rattle.again_laws.proofs.text.Marks.{comma_mark, left_brace, times_mark}
use Rattle.again_laws.proofs.text.Admits.{admits, leaves, is_tight, is_ended, starts_otherwise, passes, worded_admits, expression_opens, admits_word, leaves_open, leaves_wordless, is_free, free_admits, free_open, free_wordless}
use Rattle.again_laws.proofs.text.Steps.{Steps, At, Blanked, Apart, ◌▸◌, ends, at, either, apart, mark, nil, text_by, shut, worded, braced, blanks, semicolons, when_goes, if_goes, gaps, gaps_or}
use Rattle.again_laws.proofs.text.Forms.{Good, AllGood}
use Rattle.again_laws.proofs.text.NamesAndCalls.{leaving, by_laid}
use Rattle.again_laws.proofs.text.Statements.{AllItems}
use Rattle.again_laws.proofs.text.VariablesAndMethods.{blank_free}
use Rattle.again_laws.proofs.text.Patterns.{inner_admits, blank_open, PlainPart}
use Rattle.again_laws.proofs.text.Functions.{function_on}
use Rattle.again_laws.proofs.text.Loops.{AllRows, free_leaves, ended_leaves}
use Rattle.again_laws.proofs.text.Classes.{class_on}
use Rattle.again_laws.proofs.Layouts.{laid_import, laid_export}

-- ---- what a declaration of a module starts with, and its parts

word_front : (s : State) (t : Tree) (sp : Span) → starts_otherwise t ≡ true → is_tight t ≡ false → nat_le unary_level (level t) ≡ false → (is_word_name t || is_private t) ≡ false → admits s t ≡ true → is_wordless s ≡ true
word_front s t sp o i d w a = admits_word s (debugger_stmt sp) (inner_admits s t (debugger_stmt sp) o i d w refl a) refl

string_shut : (t : Tree) → is_string t ≡ true → (ends_with_word t && not (is_ended t)) ≡ false
string_shut (str_lit s u w) e = refl
string_shut _ e = absurd (false≢true e)

string_worded : (t : Tree) → is_string t ≡ true → admits Worded t ≡ true
string_worded (str_lit s u w) e = refl
string_worded _ e = absurd (false≢true e)

attributes_worded : (t : Tree) → is_attributes t ≡ true → admits Worded t ≡ true
attributes_worded (object_lit s ps) e = refl
attributes_worded _ e = absurd (false≢true e)

-- a name, or a string
pub export_plain : (t : Tree) → (is_some (export_name t) || is_string t) ≡ true → PlainPart t
export_plain (ident s n) e = record { plain = refl; opens = refl; no_star = refl }
export_plain (str_lit s u w) e = record { plain = refl; opens = refl; no_star = refl }
export_plain _ e = absurd (false≢true e)

asserting : (b : Bool) → Fits Div (if b then codes "assert" else codes "with") Word
asserting true = assert_word
asserting false = with_word

abbrev pub AllNamed : Trees → Type 0
AllNamed none = Unit {0}
AllNamed (more t ts) = (is_named_import t ≡ true) × AllNamed ts

abbrev pub AllExported : Trees → Type 0
AllExported none = Unit {0}
AllExported (more t ts) = (is_named_export t ≡ true) × AllExported ts

module _ (look : Look) where
  -- ---- the source of a module

  attributes_on : (w : Tree) → (is_there w ≡ true → Good look w × (is_attributes w ≡ true)) → (v : State) → is_free v ≡ true → Steps (attributes look w (laid look Alone w)) v (λ u. is_open u ≡ true)
  attributes_on w f v g = when_goes (is_there w) (λ e. gaps look (free_open v g) ▸ either (inner e v (free_wordless v g)) (inner e (blank_behind v) (free_wordless _ (blank_free v)))) (λ e. free_open v g)
    where
      last_part : is_there w ≡ true → (u : State) → admits u w ≡ true → Steps (laid look Alone w) u (λ x. is_open x ≡ true)
      last_part e u q = ends ((f e).0 Alone u q) (λ x l. leaves_open Alone w x l)

      inner : is_there w ≡ true → (u : State) → is_wordless u ≡ true → Steps (word (if look.asserts then codes "assert" else codes "with") · gap look · laid look Alone w) u (λ x. is_open x ≡ true)
      inner e u o = worded (asserting look.asserts) o ▸ at (gaps look refl ▸ either (last_part e Worded (attributes_worded w (f e).1)) (last_part e Clear refl))

  named_source : (src w : Tree) → Good look src → is_string src ≡ true → (is_there w ≡ true → Good look w × (is_attributes w ≡ true)) → (u : State) → admits u src ≡ true
      → Steps (laid look Key src · attributes look w (laid look Alone w)) u (λ x. is_open x ≡ true)
  named_source src w f i g u q = f Key u q ▸ λ v l. attributes_on w g v (leaves_wordless Key src v (string_shut src i) l)

  source_on : (t src w : Tree) (st : Stand) (sp : Span) → leaves st t Clear ≡ true → Good look src → is_string src ≡ true → (is_there w ≡ true → Good look w × (is_attributes w ≡ true)) → (u : State) → admits u src ≡ true
      → Steps (laid look Key src · attributes look w (laid look Alone w) · semi · end sp) u (λ v. leaves st t v ≡ true)
  source_on t src w st sp k f i g u q =
      f Key u q ▸ λ v l. attributes_on w g v (leaves_wordless Key src v (string_shut src i) l) ▸ λ x o. semicolons o ▸ at (leaving st t mark k)

  -- ---- parts of lists

  -- behind it a local name or the name of an export
  as_on : (v : State) {g : Laid} {P : State → Type 0} → is_open v ≡ true → Steps g Clear P → Steps (blank · word (codes "as") · blank · g) v P
  as_on v o x = blanks o ▸ at (worded as_word (free_wordless _ (blank_free v)) ▸ at (blanks refl ▸ at x))

  star_as : (s : State) {g : Laid} {P : State → Type 0} → is_end s ≡ true → Steps g Clear P → Steps (text (codes "*") · gap look · word (codes "as") · blank · g) s P
  star_as s {g = g} {P = P} e x = text_by Operator times_mark e ▸ at (gaps look refl ▸ either (inner Operated refl) (inner Clear refl))
    where
      inner : (u : State) → is_wordless u ≡ true → Steps (word (codes "as") · blank · g) u P
      inner u o = worded as_word o ▸ at (blanks refl ▸ at x)

  pub named_alone : (sp : Span) (l : Tree) → Good look l → PlainPart l → Good look (import_named_specifier sp l absent)
  named_alone sp l f p st s a =
      mark ▸ at (f Alone s (inner_admits s (import_named_specifier sp l absent) l refl refl refl refl p.no_star a) ▸ λ v q.
      leaving st (import_named_specifier sp l absent) mark (passes Alone st l (import_named_specifier sp l absent) v q p.plain (λ e. refl) (λ e. refl)))

  pub named_as : (sp : Span) (l i : Tree) → Good look l → PlainPart l → Good look i → PlainPart i → is_absent i ≡ false → Good look (import_named_specifier sp l i)
  named_as sp l i f p g o n st s a =
      by_laid look (laid look st (import_named_specifier sp l i)) (start sp · laid look Key i · blank · word (codes "as") · blank · laid look Alone l · end sp) (laid_import look st sp l i n)
      (mark ▸ at (g Key s (inner_admits s (import_named_specifier sp l i) i refl refl refl refl o.no_star a) ▸ λ v q. as_on v (leaves_open Key i v q) (f Alone Clear refl ▸ λ x r.
      leaving st (import_named_specifier sp l i) mark (passes Alone st l (import_named_specifier sp l i) x r p.plain (λ e. refl) (λ e. refl)))))

  pub default_node : (sp : Span) (l : Tree) → Good look l → PlainPart l → Good look (import_default_specifier sp l)
  default_node sp l f p st s a =
      ends (f Alone s (inner_admits s (import_default_specifier sp l) l refl refl refl refl p.no_star a)) (λ v q. passes Alone st l (import_default_specifier sp l) v q p.plain (λ e. refl) (λ e. refl))

  pub star_node : (sp : Span) (l : Tree) → Good look l → PlainPart l → Good look (import_star_as_specifier sp l)
  star_node sp l f p st s a = star_as s (star_end s a) (ends (f Alone Clear refl) (λ v q. passes Alone st l (import_star_as_specifier sp l) v q p.plain (λ e. refl) (λ e. refl)))
    where
      star_end : (s : State) → admits s (import_star_as_specifier sp l) ≡ true → is_end s ≡ true
      star_end Fresh a = refl
      star_end Clear a = refl
      star_end Shut a = refl
      star_end Worded a = refl
      star_end _ a = absurd (false≢true a)

  pub space_node : (sp : Span) (n : Tree) → Good look n → PlainPart n → Good look (export_namespace_specifier sp n)
  space_node sp n f p st s a =
      mark ▸ at (star_as s (space_end s a) (f Key Clear refl ▸ λ v q. leaving st (export_namespace_specifier sp n) mark (passes Key st n (export_namespace_specifier sp n) v q p.plain (λ e. refl) (λ e. refl))))
    where
      space_end : (s : State) → admits s (export_namespace_specifier sp n) ≡ true → is_end s ≡ true
      space_end Fresh a = refl
      space_end Clear a = refl
      space_end Shut a = refl
      space_end Worded a = refl
      space_end _ a = absurd (false≢true a)

  pub exported_alone : (sp : Span) (o : Tree) → Good look o → PlainPart o → Good look (export_named_specifier sp o absent)
  exported_alone sp o f p st s a =
      mark ▸ at (f Key s (inner_admits s (export_named_specifier sp o absent) o refl refl refl refl p.no_star a) ▸ λ v q.
      leaving st (export_named_specifier sp o absent) mark (passes Key st o (export_named_specifier sp o absent) v q p.plain (λ e. refl) (λ e. refl)))

  pub exported_as : (sp : Span) (o e : Tree) → Good look o → PlainPart o → Good look e → PlainPart e → is_absent e ≡ false → Good look (export_named_specifier sp o e)
  exported_as sp o e f p g q n st s a =
      by_laid look (laid look st (export_named_specifier sp o e)) (start sp · laid look Key o · blank · word (codes "as") · blank · laid look Key e · end sp) (laid_export look st sp o e n)
      (mark ▸ at (f Key s (inner_admits s (export_named_specifier sp o e) o refl refl refl refl p.no_star a) ▸ λ v l. as_on v (leaves_open Key o v l) (g Key Clear refl ▸ λ x r.
      leaving st (export_named_specifier sp o e) mark (passes Key st e (export_named_specifier sp o e) x r q.plain (λ z. refl) (λ z. refl)))))

  -- those in braces, behind one of them and as the first
  later_items : (stands : Tree → Bool) (ts : Trees) → AllGood look ts → (s : State) → is_open s ≡ true → Steps (named_items look stands true ts) s (λ u. is_open u ≡ true)
  later_items stands none a s o = ends nil (λ u e. ap is_open e ∙ o)
  later_items stands (more t ts) a s o = if_goes (stands t)
      (λ e. (shut comma_mark o ▸ at (gaps look refl)) ▸ either
      (a.0 Alone Shut refl ▸ λ v l. later_items stands ts a.1 v (leaves_open Alone t v l))
      (a.0 Alone Clear refl ▸ λ v l. later_items stands ts a.1 v (leaves_open Alone t v l)))
      (λ e. later_items stands ts a.1 s o)

  first_items : (stands : Tree → Bool) (ts : Trees) → AllGood look ts → (s : State) → is_free s ≡ true → Steps (named_items look stands false ts) s (λ u. is_open u ≡ true)
  first_items stands none a s f = ends nil (λ u e. ap is_open e ∙ free_open s f)
  first_items stands (more t ts) a s f = if_goes (stands t)
      (λ e. nil ▸ at (a.0 Alone s (free_admits s t f) ▸ λ v l. later_items stands ts a.1 v (leaves_open Alone t v l)))
      (λ e. first_items stands ts a.1 s f)

  braces_on : (names : Laid) (s : State) → is_open s ≡ true → ((u : State) → is_free u ≡ true → Steps names u (λ x. is_open x ≡ true)) → Steps (in_braces look names) s (At Shut)
  braces_on names s o k = shut left_brace o ▸ at (gaps look refl ▸ either (inner Shut refl) (inner Clear refl))
    where
      inner : (u : State) → is_free u ≡ true → Steps (names · gap look · brace) u (At Shut)
      inner u f = k u f ▸ λ v p. gaps look p ▸ either (braced p) (braced (blank_open v))

  -- ---- imports

  import_gap : (d : Bool) → Steps (if d then blank else gap look) Worded (Apart d Worded)
  import_gap d = if_goes d (λ e. ends (blanks refl) (λ u q. inr q)) (λ e. ends (gaps look refl) (λ u q. ⊎_elim (λ (x : u ≡ Worded). inl (e, x)) (λ (x : u ≡ Clear). inr x) q))

  -- from behind `import` on, up to the source
  unfoldable pub Clause : Trees → Type 0
  Clause ss = (s : State) → Apart (starts_with_default ss) Worded s → Steps (imports look ss (import_heads look false ss) (named_items look is_named false ss)) s (Blanked Worded)

  pub no_clause : Clause none
  unfolding Clause
  no_clause s q = ends nil (λ u e. ⊎_elim (λ (x : (false ≡ false) × (s ≡ Worded)). inl (e ∙ x.1)) (λ (x : s ≡ Clear). inr (e ∙ x)) q)

  -- behind the heads
  behind_heads : (ts : Trees) → AllGood look ts → (s : State) → is_open s ≡ true
      → Steps ((if has_named ts then when (has_default ts) (comma look) · in_braces look (named_items look is_named false ts) · gap look else blank) · word (codes "from") · gap look) s (Blanked Worded)
  behind_heads ts a s o = if_goes {P = λ u. is_wordless u ≡ true} (has_named ts)
      (λ e. when_goes {P = λ u. is_open u ≡ true} (has_default ts)
      (λ d. shut comma_mark o ▸ at (ends (gaps look refl) (λ u q. ⊎_elim (λ (x : u ≡ Shut). ap is_open x) (λ (x : u ≡ Clear). ap is_open x) q)))
      (λ d. o) ▸ λ u p. braces_on (named_items look is_named false ts) u p (λ v f. first_items is_named ts a v f) ▸ at (ends (gaps look refl) (λ v q. ⊎_elim (λ (x : v ≡ Shut). ap is_wordless x) (λ (x : v ≡ Clear). ap is_wordless x) q)))
      (λ e. ends (blanks o) (λ u q. ap is_wordless q ∙ free_wordless _ (blank_free s))) ▸ λ u w. worded from_word w ▸ at (gaps look refl)

  no_heads : (seen : Bool) (ts : Trees) → AllNamed ts → (s : State) → Steps (import_heads look seen ts) s (At s)
  no_heads seen none a s = nil
  no_heads seen (more (import_named_specifier sp l i) ts) a s = no_heads seen ts a.1 s
  no_heads seen (more _ ts) a s = absurd (false≢true a.0)

  pub names_clause : (t : Tree) (ts : Trees) → AllNamed (more t ts) → AllGood look (more t ts) → Clause (more t ts)
  unfolding Clause
  names_clause t ts n a s q = no_heads false (more t ts) n s ▸ λ u e. behind_heads (more t ts) a u (ap is_open e ∙ ⊎_elim
      (λ (x : (starts_with_default (more t ts) ≡ false) × (s ≡ Worded)). ap is_open x.1) (λ (x : s ≡ Clear). ap is_open x) q)

  pub star_clause : (sp : Span) (l : Tree) → Good look (import_star_as_specifier sp l) → Clause (more (import_star_as_specifier sp l) none)
  unfolding Clause
  star_clause sp l f s q = (nil ▸ at (f Alone s (⊎_elim (λ (x : (false ≡ false) × (s ≡ Worded)). ap (λ u. admits u (import_star_as_specifier sp l)) x.1) (λ (x : s ≡ Clear). ap (λ u. admits u (import_star_as_specifier sp l)) x) q) ▸ λ v m.
      ends nil (λ u e. ap is_open e ∙ leaves_open Alone (import_star_as_specifier sp l) v m))) ▸ λ v o. behind_heads (more (import_star_as_specifier sp l) none) (f, tt) v o

  -- behind a default name
  default_clause : (sp : Span) (l : Tree) (xs : Trees) → Good look (import_default_specifier sp l) → AllGood look xs → ((v : State) → is_open v ≡ true → Steps (import_heads look true xs) v (λ u. is_open u ≡ true)) → Clause (more (import_default_specifier sp l) xs)
  unfolding Clause
  default_clause sp l xs f a k s q = (f Alone s (⊎_elim (λ (x : (true ≡ false) × (s ≡ Worded)). absurd (true≢false x.0)) (λ (x : s ≡ Clear). ap (λ u. admits u (import_default_specifier sp l)) x) q) ▸ λ v m.
      k v (leaves_open Alone (import_default_specifier sp l) v m)) ▸ λ v o. behind_heads (more (import_default_specifier sp l) xs) (f, a) v o

  pub default_names : (sp : Span) (l : Tree) (xs : Trees) → Good look (import_default_specifier sp l) → AllNamed xs → AllGood look xs → Clause (more (import_default_specifier sp l) xs)
  default_names sp l xs f n a = default_clause sp l xs f a (λ v o. ends (no_heads true xs n v) (λ u e. ap is_open e ∙ o))

  pub default_star : (sp : Span) (l : Tree) (tp : Span) (m : Tree) → Good look (import_default_specifier sp l) → Good look (import_star_as_specifier tp m) → Clause (more (import_default_specifier sp l) (more (import_star_as_specifier tp m) none))
  default_star sp l tp m f g = default_clause sp l (more (import_star_as_specifier tp m) none) f (g, tt)
      (λ v o. (shut comma_mark o ▸ at (gaps look refl)) ▸ either (inner Shut refl) (inner Clear refl))
    where
      inner : (u : State) → is_free u ≡ true → Steps (laid look Alone (import_star_as_specifier tp m) · nothing) u (λ x. is_open x ≡ true)
      inner u h = g Alone u (free_admits u (import_star_as_specifier tp m) h) ▸ λ v l. ends nil (λ x e. ap is_open e ∙ leaves_open Alone (import_star_as_specifier tp m) v l)

  pub import_node : (sp : Span) (ss : Trees) (src w : Tree) → Clause ss → Good look src → is_string src ≡ true → (is_there w ≡ true → Good look w × (is_attributes w ≡ true)) → Good look (import_decl sp ss src w)
  unfolding Clause
  import_node sp ss src w c f i g st s a =
      mark ▸ at (worded import_word (word_front s (import_decl sp ss src w) sp refl refl refl refl a) ▸ at (import_gap (starts_with_default ss) ▸ λ u q. c u q ▸ either
      (source_on (import_decl sp ss src w) src w st sp refl f i g Worded (string_worded src i)) (source_on (import_decl sp ss src w) src w st sp refl f i g Clear refl)))

  -- ---- exports

  from_on : (src w : Tree) → Good look src → is_string src ≡ true → (is_there w ≡ true → Good look w × (is_attributes w ≡ true)) → (s : State) → is_wordless s ≡ true
      → Steps (from look (laid look Key src) · attributes look w (laid look Alone w)) s (λ x. is_open x ≡ true)
  from_on src w f i g s o = (worded from_word o ▸ at (gaps look refl ▸ either (named Worded (string_worded src i)) (named Clear refl))) ▸ λ v h. attributes_on w g v h
    where
      named : (u : State) → admits u src ≡ true → Steps (laid look Key src) u (λ x. is_free x ≡ true)
      named u q = ends (f Key u q) (λ v l. leaves_wordless Key src v (string_shut src i) l)

  -- a list, and where it is of
  no_spaces : (ts : Trees) → AllExported ts → has_namespace ts ≡ false
  no_spaces none a = refl
  no_spaces (more (export_named_specifier sp o e) ts) a = no_spaces ts a.1
  no_spaces (more _ ts) a = absurd (false≢true a.0)

  no_first : (ts : Trees) → AllExported ts → (s : State) → Steps (first_namespace look ts) s (At s)
  no_first none a s = nil
  no_first (more (export_named_specifier sp o e) ts) a s = no_first ts a.1 s
  no_first (more _ ts) a s = absurd (false≢true a.0)

  pub export_list : (sp : Span) (ss : Trees) (src w : Tree) → AllExported ss → AllGood look ss → (is_there src ≡ true → Good look src × (is_string src ≡ true)) → (is_there w ≡ true → Good look w × (is_attributes w ≡ true)) → Good look (named_export sp ss src w)
  export_list sp ss src w x a f g st s d =
      mark ▸ at (worded export_word (word_front s (named_export sp ss src w) sp refl refl refl refl d) ▸ at (gaps look refl ▸ either (opened Worded refl) (opened Clear refl)))
    where
      listed_on : (u : State) → is_open u ≡ true → Steps (exports look ss (named_items look is_no_namespace false ss)) u (At Shut)
      listed_on u o = when_goes (has_other ss || not (has_namespace ss))
          (λ e. when_goes {P = λ v. is_open v ≡ true} (has_namespace ss)
          (λ h. shut comma_mark o ▸ at (ends (gaps look refl) (λ v q. ⊎_elim (λ (z : v ≡ Shut). ap is_open z) (λ (z : v ≡ Clear). ap is_open z) q)))
          (λ h. o) ▸ λ v p. if_goes (has_other ss)
          (λ h. braces_on (named_items look is_no_namespace false ss) v p (λ z k. first_items is_no_namespace ss a z k))
          (λ h. shut left_brace p ▸ at (gaps look refl ▸ either (braced refl) (braced refl))))
          (λ e. absurd (false≢true (sym e ∙ or_right (has_other ss) (not (has_namespace ss)) (ap not (no_spaces ss x)))))

      opened : (u : State) → is_open u ≡ true → Steps (first_namespace look ss · exports look ss (named_items look is_no_namespace false ss)
          · when (is_there src) ((if has_namespace ss && not (has_other ss) then blank else gap look) · from look (laid look Key src) · attributes look w (laid look Alone w)) · semi · end sp) u (λ v. leaves st (named_export sp ss src w) v ≡ true)
      opened u o = no_first ss x u ▸ λ v e. listed_on v (ap is_open e ∙ o) ▸ at (when_goes {P = λ z. is_open z ≡ true} (is_there src)
          (λ t. if_goes {P = λ z. is_wordless z ≡ true} (has_namespace ss && not (has_other ss)) (λ h. ends (blanks refl) (λ z q. ap is_wordless q)) (λ h. ends (gaps look refl) (λ z q. ⊎_elim (λ (k : z ≡ Shut). ap is_wordless k) (λ (k : z ≡ Clear). ap is_wordless k) q)) ▸ λ z q.
          from_on src w (f t).0 (f t).1 g z q)
          (λ t. refl) ▸ λ z p. semicolons p ▸ at (leaving st (named_export sp ss src w) mark refl))

  pub export_space : (sp ep : Span) (n src w : Tree) → Good look (export_namespace_specifier ep n) → (is_there src ≡ true → Good look src × (is_string src ≡ true)) → (is_there w ≡ true → Good look w × (is_attributes w ≡ true))
      → Good look (named_export sp (more (export_namespace_specifier ep n) none) src w)
  export_space sp ep n src w k f g st s d =
      mark ▸ at (worded export_word (word_front s (named_export sp (more (export_namespace_specifier ep n) none) src w) sp refl refl refl refl d) ▸ at (gaps look refl ▸ either (opened Worded refl) (opened Clear refl)))
    where
      opened : (u : State) → admits u (export_namespace_specifier ep n) ≡ true → Steps (laid look Alone (export_namespace_specifier ep n) · nothing
          · when (is_there src) (blank · from look (laid look Key src) · attributes look w (laid look Alone w)) · semi · end sp) u (λ v. leaves st (named_export sp (more (export_namespace_specifier ep n) none) src w) v ≡ true)
      opened u q = k Alone u q ▸ λ v l. nil ▸ at (when_goes {P = λ z. is_open z ≡ true} (is_there src)
          (λ t. blanks (leaves_open Alone (export_namespace_specifier ep n) v l) ▸ at (from_on src w (f t).0 (f t).1 g (blank_behind v) (free_wordless _ (blank_free v))))
          (λ t. leaves_open Alone (export_namespace_specifier ep n) v l) ▸ λ z p. semicolons p ▸ at (leaving st (named_export sp (more (export_namespace_specifier ep n) none) src w) mark refl))

  pub all_node : (sp : Span) (src w : Tree) → Good look src → is_string src ≡ true → (is_there w ≡ true → Good look w × (is_attributes w ≡ true)) → Good look (export_all sp src w)
  all_node sp src w f i g st s d =
      mark ▸ at (worded export_word (word_front s (export_all sp src w) sp refl refl refl refl d) ▸ at (gaps look refl ▸ either (starred Worded refl) (starred Clear refl)))
    where
      named : (u : State) → is_wordless u ≡ true → Steps (from look (laid look Key src) · attributes look w (laid look Alone w) · semi · end sp) u (λ v. leaves st (export_all sp src w) v ≡ true)
      named u o = (worded from_word o ▸ at (gaps look refl ▸ either (name_on Worded (string_worded src i)) (name_on Clear refl))) ▸ λ v h. attributes_on w g v h ▸ λ x p. semicolons p ▸ at (leaving st (export_all sp src w) mark refl)
        where
          name_on : (u : State) → admits u src ≡ true → Steps (laid look Key src) u (λ x. is_free x ≡ true)
          name_on u q = ends (f Key u q) (λ v l. leaves_wordless Key src v (string_shut src i) l)

      starred : (u : State) → is_end u ≡ true → Steps (text (codes "*") · gap look · from look (laid look Key src) · attributes look w (laid look Alone w) · semi · end sp) u (λ v. leaves st (export_all sp src w) v ≡ true)
      starred u e = text_by Operator times_mark e ▸ at (gaps look refl ▸ either (named Operated refl) (named Clear refl))

  pub export_function : (sp : Span) (fp : Span) (n k : Tree) → Good look (fn_decl fp n k) → Good look (export_decl sp (fn_decl fp n k))
  export_function sp fp n k f st s d =
      mark ▸ at (worded export_word (word_front s (export_decl sp (fn_decl fp n k)) sp refl refl refl refl d) ▸ at (blanks refl ▸ at (f Alone Clear refl ▸ λ v l.
      ends nil (λ u e. ap (leaves st (export_decl sp (fn_decl fp n k))) e ∙ free_leaves st (export_decl sp (fn_decl fp n k)) v refl (ended_leaves Alone (fn_decl fp n k) v refl l)))))

  pub export_variables : (sp : Span) (vp : Span) (kind : ℕ) (ts : Trees) → Good look (var_decl vp kind ts) → Good look (export_decl sp (var_decl vp kind ts))
  export_variables sp vp kind ts f st s d =
      mark ▸ at (worded export_word (word_front s (export_decl sp (var_decl vp kind ts)) sp refl refl refl refl d) ▸ at (blanks refl ▸ at (f Alone Clear refl ▸ λ v l.
      semicolons (leaves_open Alone (var_decl vp kind ts) v l) ▸ at (leaving st (export_decl sp (var_decl vp kind ts)) mark refl))))

  pub export_class : (sp cs : Span) (k : Tree) (at' : Span) (ms : Trees) (e : Tree) → (is_there k ≡ true → Good look k) → AllRows look ms → (is_there e ≡ true → Good look e × (1 ≤ level e)) → Good look (export_decl sp (class_decl cs k (class at' none ms e)))
  export_class sp cs k at' ms e f a g st s d =
      mark ▸ at (nil ▸ at (worded export_word (word_front s (export_decl sp (class_decl cs k (class at' none ms e))) sp refl refl refl refl d) ▸ at (blanks refl ▸ at (mark ▸ at
      (leaving st (export_decl sp (class_decl cs k (class at' none ms e))) (class_on look k at' ms e f a g Clear refl) refl)))))

  pub default_class : (sp cs : Span) (k : Tree) (at' : Span) (ms : Trees) (e : Tree) → (is_there k ≡ true → Good look k) → AllRows look ms → (is_there e ≡ true → Good look e × (1 ≤ level e)) → Good look (export_default_decl sp (class_expr cs k (class at' none ms e)))
  default_class sp cs k at' ms e f a g st s d =
      mark ▸ at (nil ▸ at (worded export_word (word_front s (export_default_decl sp (class_expr cs k (class at' none ms e))) sp refl refl refl refl d) ▸ at (blanks refl ▸ at (worded default_word refl ▸ at (blanks refl ▸ at (mark ▸ at
      (leaving st (export_default_decl sp (class_expr cs k (class at' none ms e))) (class_on look k at' ms e f a g Clear refl) refl)))))))

  pub default_function : (sp fp : Span) (k : Tree) (at' : Span) (ps ds : Trees) (b : Span) (ss : Trees) (g w : Bool) → (is_there k ≡ true → Good look k) → AllGood look ps → AllItems look ss → Good look (export_default_decl sp (fn_expr fp k (function at' ps ds (block_stmt b ss) g w)))
  default_function sp fp k at' ps ds b ss g w f a i st s d =
      let t = export_default_decl sp (fn_expr fp k (function at' ps ds (block_stmt b ss) g w)) in
      mark ▸ at (worded export_word (word_front s t sp refl refl refl refl d) ▸ at (blanks refl ▸ at (worded default_word refl ▸ at (blanks refl ▸ at
      (ends (function_on look t Alone fp k at' ps ds b ss g w f a i Clear refl) (λ v l. free_leaves st t v refl (ended_leaves Alone t v refl l)))))))

  pub default_expression : (sp : Span) (e : Tree) → Good look e → 1 ≤ level e → Good look (export_default_expr sp e)
  default_expression sp e f h st s d =
      mark ▸ at (worded export_word (word_front s (export_default_expr sp e) sp refl refl refl refl d) ▸ at (blanks refl ▸ at (worded default_word refl ▸ at (gaps_or look (starts_with_word e) refl ▸ apart
      (λ n. value Worded (worded_admits e n (expression_opens e h))) (value Clear refl)))))
    where
      value : (u : State) → admits u e ≡ true → Steps (laid look Alone e · semi · end sp) u (λ v. leaves st (export_default_expr sp e) v ≡ true)
      value u q = f Alone u q ▸ λ v l. semicolons (leaves_open Alone e v l) ▸ at (leaving st (export_default_expr sp e) mark refl)
