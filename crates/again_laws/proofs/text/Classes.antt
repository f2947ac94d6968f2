-- Classes and their members.
use Rattle.std.proofs.Common.{◌≡◌, ℕ, ◌≤◌, ◌⊎◌, Bool, true, false, refl, ap, ◌∙◌}
use Rattle.std.specs.Prelude.{◌==◌, codes, if◌then◌else◌}
use Rattle.std.proofs.lemmas.Bool.{false≢true}
use Rattle.base_token.specs.declared.place.Span.{Span}
use Rattle.base_token.specs.Kinds.{get_kind, set_kind}
use Rattle.tree_spec.specs.Tree.{Tree, Trees, none, plain_method, class, class_expr, class_decl, constructor, private_method, class_prop, private_prop, static_block, auto_accessor, function, block_stmt, private_name}
use Rattle.grammar_spec.specs.Tokens.Shape.{level, is_key, is_private}
use Rattle.print_gaps.specs.Edges.{starts_with_word, is_there}
use Rattle.print_layout_spec.specs.declared.look.Look.{Look}
use Rattle.print_layout_spec.specs.declared.look.Stand.{Stand}
use Rattle.print_layout_spec.specs.declared.look.Stand.TheVariants.{Alone, Key}
use Rattle.print_layout_spec.specs.Looks.{◌·◌, text, when, gap_or, blank}
use Rattle.print_layout_spec.specs.Layout.{laid, rows, class_head, class_tail, in_parens, word, method_marks, field_value, is_sequence}
use Rattle.again_laws.specs.Tiling.Categories.{State, Fresh, Clear, Shut, Worded, Operated, Operator, is_open, is_end, is_wordless, blank_behind}
use Rattle.again_laws.proofs.text.Keywords.{class_word, extends_word, static_word, constructor_word, accessor_word, async_word}
use Rattle.again_laws.proofs.text.Marks.{left_paren, right_paren, left_brace, equals_mark, times_mark}
use Rattle.again_laws.proofs.text.Admits.{admits, leaves, is_starred, worded_admits, expression_opens, unstarred, admits_word, leaves_open, leaves_end, is_free, free_admits, free_open, free_wordless, free_end}
use Rattle.again_laws.proofs.text.Steps.{Steps, At, ◌▸◌, ends, at, either, apart, mark, nil, text_by, shut, worded, braced, blanks, semicolons, when_goes, if_goes, gaps, gaps_or}
use Rattle.again_laws.proofs.text.Forms.{Good, AllGood}
use Rattle.again_laws.proofs.text.NamesAndCalls.{leaving, commas_go}
use Rattle.again_laws.proofs.text.Statements.{AllItems}
use Rattle.again_laws.proofs.text.VariablesAndMethods.{gapped, blank_free, get_or_set}
use Rattle.again_laws.proofs.text.Patterns.{inner_admits, key_unstarred, blank_open}
use Rattle.again_laws.proofs.text.Functions.{tail}
use Rattle.again_laws.proofs.text.Loops.{AllRows, rows_on, rows_out, free_leaves, parens_on, block_on}

module _ (look : Look) where
  -- ---- the whole class

  head_on : (k e : Tree) → (is_there k ≡ true → Good look k) → (is_there e ≡ true → Good look e × (1 ≤ level e)) → (s : State) → is_wordless s ≡ true
      → Steps (class_head look k (laid look Alone k) e (laid look Alone e)) s (λ u. is_open u ≡ true)
  head_on k e f g s o =
      worded class_word o ▸ at (when_goes {P = λ u. is_open u ≡ true} (is_there k) (λ t. blanks refl ▸ at (ends (f t Alone Clear refl) (λ v l. leaves_open Alone k v l))) (λ t. refl) ▸ λ v p. parent v p)
    where
      value : is_there e ≡ true → (u : State) → admits u e ≡ true → Steps (laid look Alone e) u (λ v. is_open v ≡ true)
      value t u q = ends ((g t).0 Alone u q) (λ v l. leaves_open Alone e v l)

      parent : (v : State) → is_open v ≡ true → Steps (when (is_there e) (blank · word (codes "extends") · gap_or look (starts_with_word e) · laid look Alone e)) v (λ u. is_open u ≡ true)
      parent v p = when_goes (is_there e)
          (λ t. blanks p ▸ at (worded extends_word (free_wordless _ (blank_free v)) ▸ at (gaps_or look (starts_with_word e) refl ▸ apart (λ n. value t Worded (worded_admits e n (expression_opens e (g t).1))) (value t Clear refl))))
          (λ t. p)

  pub class_body : (sp : Span) (ms : Trees) → AllRows look ms → (s : State) → is_open s ≡ true → Steps (class_tail look sp ms (rows look false ms)) s (At Shut)
  class_body sp ms a s o = gaps look o ▸ either (inner s o) (inner (blank_behind s) (blank_open s))
    where
      inner : (u : State) → is_open u ≡ true → Steps (text (codes "{") · Rattle.print_layout_spec.specs.Layout.indented_or_line look ms (rows look false ms) · Rattle.print_layout_spec.specs.Looks.last sp · Rattle.print_layout_spec.specs.Looks.brace) u (At Shut)
      inner u p = shut left_brace p ▸ at (rows_out look ms (rows look false ms) Shut refl (λ v g. rows_on look ms v a g) ▸ λ v g. mark ▸ at (braced (free_open v g)))

  pub class_node : (sp : Span) (k : Tree) (at' : Span) (ms : Trees) (e : Tree) → (is_there k ≡ true → Good look k) → AllRows look ms → (is_there e ≡ true → Good look e × (1 ≤ level e)) → Good look (class_expr sp k (class at' none ms e))
  class_node sp k at' ms e f a g st s d =
      mark ▸ at (nil ▸ at (head_on k e f g s (admits_word s (class_expr sp k (class at' none ms e)) d refl) ▸ λ u o. leaving st (class_expr sp k (class at' none ms e)) (class_body at' ms a u o) refl))

  pub class_declaration : (sp : Span) (k : Tree) (at' : Span) (ms : Trees) (e : Tree) → (is_there k ≡ true → Good look k) → AllRows look ms → (is_there e ≡ true → Good look e × (1 ≤ level e)) → Good look (class_decl sp k (class at' none ms e))
  class_declaration sp k at' ms e f a g st s d =
      mark ▸ at (nil ▸ at (head_on k e f g s (admits_word s (class_decl sp k (class at' none ms e)) d refl) ▸ λ u o. leaving st (class_decl sp k (class at' none ms e)) (class_body at' ms a u o) refl))

  -- the text of a class without its decorators, as it is exported
  pub class_on : (k : Tree) (at' : Span) (ms : Trees) (e : Tree) → (is_there k ≡ true → Good look k) → AllRows look ms → (is_there e ≡ true → Good look e × (1 ≤ level e)) → (s : State) → is_wordless s ≡ true
      → Steps (class_head look k (laid look Alone k) e (laid look Alone e) · class_tail look at' ms (rows look false ms)) s (At Shut)
  class_on k at' ms e f a g s o = head_on k e f g s o ▸ λ u p. class_body at' ms a u p

  -- ---- constructors and private methods

  constructor_wordless : (s : State) (sp : Span) (k : Tree) (ps : Trees) (b : Tree) → admits s (constructor sp k ps b) ≡ true → is_wordless s ≡ true
  constructor_wordless Fresh sp k ps b a = refl
  constructor_wordless Clear sp k ps b a = refl
  constructor_wordless Shut sp k ps b a = refl
  constructor_wordless Operated sp k ps b a = refl
  constructor_wordless _ sp k ps b a = absurd (false≢true a)

  pub constructor_node : (sp : Span) (k : Tree) (ps : Trees) (b : Span) (ss : Trees) → AllGood look ps → AllItems look ss → Good look (constructor sp k ps (block_stmt b ss))
  constructor_node sp k ps b ss a i st s d =
      mark ▸ at (worded constructor_word (constructor_wordless s sp k ps (block_stmt b ss) d) ▸ at ((shut left_paren refl ▸ at (commas_go look ps Shut a refl ▸ λ v o. shut right_paren o)) ▸ at
      (ends (block_on look b ss i Shut refl) (λ v g. free_leaves st (constructor sp k ps (block_stmt b ss)) v refl g))))

  private_free : (s : State) (sp : Span) (k f : Tree) (kind : ℕ) (b : Bool) → admits s (private_method sp k f kind b) ≡ true → is_free s ≡ true
  private_free Fresh sp k f kind b a = refl
  private_free Clear sp k f kind b a = refl
  private_free Shut sp k f kind b a = refl
  private_free _ sp k f kind b a = absurd (false≢true a)

  private_admits : (k : Tree) → is_private k ≡ true → (u : State) → is_free u ≡ true → (admits u k ≡ true) × (admits Operated k ≡ true)
  private_admits (private_name s n) i u g = (free_admits u (private_name s n) g, refl)
  private_admits _ i u g = absurd (false≢true i)

  marks_on : (w g : Bool) (k : Tree) (u : State) → admits Operated k ≡ true → admits u k ≡ true → is_free u ≡ true → Steps (method_marks w g) u (λ v. admits v k ≡ true)
  marks_on w g k u x y f =
      when_goes {P = λ v. is_free v ≡ true} w (λ e. worded async_word (free_wordless u f) ▸ at (ends (blanks refl) (λ v q. ap is_free q))) (λ e. f) ▸ λ v h.
      when_goes g (λ e. ends (text_by Operator times_mark (free_end v h)) (λ z q. ap (λ t. admits t k) q ∙ x)) (λ e. free_admits v k h)

  pub private_node : (sp : Span) (k : Tree) (at' : Span) (ps ds : Trees) (b : Span) (ss : Trees) (g w : Bool) (kind : ℕ) (is_static : Bool) → ((kind == plain_method) ≡ false → ((kind ≡ get_kind) ⊎ (kind ≡ set_kind)))
      → Good look k → is_private k ≡ true → AllGood look ps → AllItems look ss → Good look (private_method sp k (function at' ps ds (block_stmt b ss) g w) kind is_static)
  private_node sp k at' ps ds b ss g w kind is_static n f i a j st s d =
      let r = private_free s sp k (function at' ps ds (block_stmt b ss) g w) kind is_static d in
      mark ▸ at (when_goes {P = λ u. is_free u ≡ true} is_static (λ e. worded static_word (free_wordless s r) ▸ at (ends (blanks refl) (λ u q. ap is_free q))) (λ e. r) ▸ λ u h.
      if_goes {P = λ v. admits v k ≡ true} (kind == plain_method)
      (λ e. let p = private_admits k i u h in marks_on w g k u p.1 p.0 h)
      (λ e. worded (get_or_set look kind (n e)) (free_wordless u h) ▸ at (ends (blanks refl) (λ v q. ap (λ t. admits t k) q))) ▸ λ v q. f Key v q ▸ λ x l.
      tail look (private_method sp k (function at' ps ds (block_stmt b ss) g w) kind is_static) st ps b ss a j x (leaves_open Key k x l))

  -- ---- fields

  -- a value, in parentheses where it has commas, and the semicolon
  value_on : (t v : Tree) (st : Stand) → (is_there v ≡ true → Good look v × (1 ≤ level v)) → leaves st t Clear ≡ true → (u : State) → is_end u ≡ true → is_open u ≡ true → Steps (field_value look v (laid look Alone v)) u (λ x. is_open x ≡ true)
  value_on t v st f k u e o = when_goes (is_there v) (λ i. gapped look u (if is_sequence v then in_parens (laid look Alone v) else laid look Alone v) equals_mark e (inner i Operated refl (unstarred v (f i).1)) (inner i Clear refl refl)) (λ i. o)
    where
      inner : is_there v ≡ true → (x : State) → is_open x ≡ true → admits x v ≡ true → Steps (if is_sequence v then in_parens (laid look Alone v) else laid look Alone v) x (λ y. is_open y ≡ true)
      inner i x p q = if_goes (is_sequence v) (λ z. ends (parens_on look v (f i).0 x p) (λ y r. ap is_open r)) (λ z. ends ((f i).0 Alone x q) (λ y l. leaves_open Alone v y l))

  -- `static`, and then the key
  static_on : (is_static : Bool) (k : Tree) (s : State) → is_wordless s ≡ true → admits s k ≡ true → Steps (when is_static (word (codes "static") · blank)) s (λ u. admits u k ≡ true)
  static_on is_static k s o a = when_goes is_static (λ e. worded static_word o ▸ at (ends (blanks refl) (λ u q. ap (λ t. admits t k) q))) (λ e. a)

  prop_wordless : (s : State) (sp : Span) (k v : Tree) (b : Bool) (ds : Trees) → admits s (class_prop sp k v b ds) ≡ true → is_wordless s ≡ true
  prop_wordless Fresh sp k v b ds a = refl
  prop_wordless Clear sp k v b ds a = refl
  prop_wordless Shut sp k v b ds a = refl
  prop_wordless Operated sp k v b ds a = refl
  prop_wordless _ sp k v b ds a = absurd (false≢true a)

  private_wordless : (s : State) (sp : Span) (k v : Tree) (b : Bool) (ds : Trees) → admits s (private_prop sp k v b ds) ≡ true → is_wordless s ≡ true
  private_wordless Fresh sp k v b ds a = refl
  private_wordless Clear sp k v b ds a = refl
  private_wordless Shut sp k v b ds a = refl
  private_wordless Operated sp k v b ds a = refl
  private_wordless _ sp k v b ds a = absurd (false≢true a)

  accessor_wordless : (s : State) (sp : Span) (k v : Tree) (b : Bool) (ds : Trees) → admits s (auto_accessor sp k v b ds) ≡ true → is_wordless s ≡ true
  accessor_wordless Fresh sp k v b ds a = refl
  accessor_wordless Clear sp k v b ds a = refl
  accessor_wordless Shut sp k v b ds a = refl
  accessor_wordless Operated sp k v b ds a = refl
  accessor_wordless _ sp k v b ds a = absurd (false≢true a)

  private_unstarred : (k : Tree) → is_private k ≡ true → is_starred k ≡ false
  private_unstarred (private_name s n) e = refl
  private_unstarred _ e = absurd (false≢true e)

  pub field_node : (sp : Span) (k v : Tree) (b : Bool) → Good look k → is_key k ≡ true → (is_there v ≡ true → Good look v × (1 ≤ level v)) → Good look (class_prop sp k v b none)
  field_node sp k v b f i g st s a =
      mark ▸ at (nil ▸ at (static_on b k s (prop_wordless s sp k v b none a) (inner_admits s (class_prop sp k v b none) k refl refl refl refl (key_unstarred k i) a) ▸ λ u q. f Key u q ▸ λ x l.
      value_on (class_prop sp k v b none) v st g refl x (leaves_end Key k x l) (leaves_open Key k x l) ▸ λ y o. semicolons o ▸ at (leaving st (class_prop sp k v b none) mark refl)))

  pub private_field : (sp : Span) (k v : Tree) (b : Bool) → Good look k → is_private k ≡ true → (is_there v ≡ true → Good look v × (1 ≤ level v)) → Good look (private_prop sp k v b none)
  private_field sp k v b f i g st s a =
      mark ▸ at (nil ▸ at (static_on b k s (private_wordless s sp k v b none a) (inner_admits s (private_prop sp k v b none) k refl refl refl refl (private_unstarred k i) a) ▸ λ u q. f Key u q ▸ λ x l.
      value_on (private_prop sp k v b none) v st g refl x (leaves_end Key k x l) (leaves_open Key k x l) ▸ λ y o. semicolons o ▸ at (leaving st (private_prop sp k v b none) mark refl)))

  pub accessor_node : (sp : Span) (k v : Tree) (b : Bool) → Good look k → (is_there v ≡ true → Good look v × (1 ≤ level v)) → Good look (auto_accessor sp k v b none)
  accessor_node sp k v b f g st s a =
      nil ▸ at (when_goes {P = λ u. is_wordless u ≡ true} b (λ e. worded static_word (accessor_wordless s sp k v b none a) ▸ at (ends (blanks refl) (λ u q. ap is_wordless q))) (λ e. accessor_wordless s sp k v b none a) ▸ λ u o.
      worded accessor_word o ▸ at (blanks refl ▸ at (f Key Clear refl ▸ λ x l. when_goes {P = λ y. is_open y ≡ true} (is_there v)
      (λ i. gapped look x (laid look Alone v) equals_mark (leaves_end Key k x l) (value i Operated (unstarred v (g i).1)) (value i Clear refl)) (λ i. leaves_open Key k x l) ▸ λ y p.
      leaving st (auto_accessor sp k v b none) (semicolons p) refl)))
    where
      value : is_there v ≡ true → (u : State) → admits u v ≡ true → Steps (laid look Alone v) u (λ y. is_open y ≡ true)
      value i u q = ends ((g i).0 Alone u q) (λ y l. leaves_open Alone v y l)

  pub static_node : (sp b : Span) (ss : Trees) → AllItems look ss → Good look (static_block sp (block_stmt b ss))
  static_node sp b ss i st s a =
      mark ▸ at (worded static_word (block_wordless s a) ▸ at (block_on look b ss i Worded refl ▸ λ v g. leaving st (static_block sp (block_stmt b ss)) mark (free_leaves st (static_block sp (block_stmt b ss)) v refl g)))
    where
      block_wordless : (s : State) → admits s (static_block sp (block_stmt b ss)) ≡ true → is_wordless s ≡ true
      block_wordless Fresh a = refl
      block_wordless Clear a = refl
      block_wordless Shut a = refl
      block_wordless Operated a = refl
      block_wordless _ a = absurd (false≢true a)
