-- Reading patterns, statements, functions and classes (ECMA-262, clauses 14 and 15).
use Rattle.std.specs.Prelude.{ℕ, Bool, true, false, not, ◌&&◌, ◌||◌, ◌==◌, if◌then◌else◌, List, [], ◌∷◌, ◌++◌, Ok}
use Rattle.tree_spec.specs.Span.{Span}
use Rattle.tree_spec.specs.Kinds.{end_kind, dot_dot_dot_kind, left_paren_kind, right_paren_kind, left_bracket_kind, right_bracket_kind, left_brace_kind, right_brace_kind, semicolon_kind, comma_kind, colon_kind, hash_kind, mul_kind, assign_kind, await_kind, break_kind, case_kind, catch_kind, continue_kind, debugger_kind, default_kind, do_kind, else_kind, finally_kind, for_kind, function_kind, if_kind, return_kind, switch_kind, throw_kind, try_kind, var_kind, let_kind, const_kind, while_kind, with_kind, class_kind, extends_kind, in_kind, async_kind, of_kind, using_kind, static_kind, accessor_kind, get_kind, set_kind}
use Rattle.tree_spec.specs.Tree.{Tree, none, more, pack, plain_method, block_stmt, empty_stmt, debugger_stmt, with_stmt, return_stmt, labeled_stmt, break_stmt, continue_stmt, if_stmt, switch_stmt, switch_case, throw_stmt, try_stmt, catch_clause, while_stmt, do_while_stmt, for_stmt, for_in_stmt, for_of_stmt, expr_stmt, class_decl, fn_decl, var_decl, using_decl, var_declarator, function, class, constructor, class_method, private_method, class_prop, private_prop, static_block, auto_accessor, ident, binding_ident, array_pat, rest_pat, object_pat, assign_pat, key_value_pat_prop, assign_pat_prop, absent, hole}
use Rattle.grammar_spec.specs.Tokens.Input.{Code, kind, kind2, brk, brk2, dots_at, span, rest, barred, is_strict, with_in, without_in, in_list, alone, in_body, in_field, in_static, turned_strict}
use Rattle.grammar_spec.specs.Tokens.Operators.{expression_level, assignment_level, new_level, starts_key, may_name, key_end, plain_end, let_end}
use Rattle.grammar_spec.specs.Tokens.Shape.{ends, is_name, is_absent, is_private, is_structured, is_bare_declarator, is_default_case, is_use_strict, is_directive, is_plain_function, constructs, field_end, declarators_end, is_statement}
use Rattle.grammar_spec.specs.Reader.Source.{placed, unexpected, ◌>>=◌, Stream, State, Read, input, past, operand, retold, bound, here, spanned, at, eat, eat_word, name, end_of, Step, go_on, finished, iterate, Inner}
use Rattle.grammar_spec.specs.Reader.Cover.{to_head}
use Rattle.grammar_spec.specs.Reader.Expressions.{first, key_by, private_by, star, function_by, setter_parameter, is_async_head}

-- Statements of a body with the code after them, and whether its directives may go on. They may turn it strict, and then the source too.
pub record Body : Type 0 where
  pub items : List Tree
  pub code : Code
  pub starts : Bool

-- An `if` up to its alternative, and a chain of `else if`: its branches, the code in which the next one stands, and the last alternative.
pub record Branch : Type 0 where
  pub start : ℕ
  pub test : Tree
  pub consequent : Tree

pub record Chain : Type 0 where
  pub branches : List Branch
  pub code : Code
  pub last : Tree

-- the statement that branches make, up to a place
abbrev pub chained : ℕ → List Branch → Tree → Tree
chained hi [] t = t
chained hi (b ∷ bs) t = if_stmt (span b.start hi) b.test b.consequent (chained hi bs t)

module _ {S : Type 0} (m : Stream S) (inner : Inner S) where
  -- ---- patterns that bind (14.3.3)

  -- an initialiser, where one follows
  unfoldable pub initial_pat : Code → ℕ → Tree → Read S Tree
  initial_pat c start p s =
      if at m assign_kind s then (inner.expr (with_in c) assignment_level (past m s) >>= λ e. Ok (assign_pat (spanned m start e.1) p e.0, e.1)) else Ok (p, s)

  -- what follows an item
  unfoldable pub after_item : ℕ → Bool → List Tree → Read S (Step (List Tree))
  after_item close last items s =
      if at m comma_kind s && not last then Ok (go_on items, past m s) else (eat m close s >>= λ r. Ok (finished items, r))

  unfoldable pub array_item : Code → List Tree → Read S (Step (List Tree))
  array_item c xs s =
      if at m right_bracket_kind s then Ok (finished xs, past m s)
      else (if at m comma_kind s then Ok (go_on (xs ++ hole ∷ []), past m s)
      else (if at m dot_dot_dot_kind s then (inner.pat (with_in c) (past m s) >>= λ p. after_item right_bracket_kind true (xs ++ rest_pat (spanned m (here m s) p.1) (dots_at (here m s)) p.0 ∷ []) p.1)
      else (inner.pat (with_in c) s >>= λ p. initial_pat c (here m s) p.0 p.1 >>= λ q. after_item right_bracket_kind false (xs ++ q.0 ∷ []) q.1)))

  unfoldable pub array_pat_by : Code → Read S Tree
  array_pat_by c s = iterate (bound m) (array_item c) [] (past m s) >>= λ xs. Ok (array_pat (spanned m (here m s) xs.1) (pack xs.0), xs.1)

  unfoldable pub keyed_item : Code → ℕ → Tree → Read S Tree
  keyed_item c start k s = inner.pat (with_in c) s >>= λ p. initial_pat c (here m s) p.0 p.1 >>= λ q. Ok (key_value_pat_prop (spanned m start q.1) k q.0, q.1)

  -- a key that is a name and stands alone; behind it that is found
  unfoldable pub named_item : Code → State S → Read S Tree
  named_item c r s = placed (bound m r) (name m c s) >>= λ n.
      if at m assign_kind n.1 then (inner.expr (with_in c) assignment_level (past m n.1) >>= λ e. Ok (assign_pat_prop (spanned m (here m s) e.1) (binding_ident (first m inner s) (ident (first m inner s) n.0)) e.0, e.1))
      else Ok (assign_pat_prop (first m inner s) (binding_ident (first m inner s) (ident (first m inner s) n.0)) absent, n.1)

  unfoldable pub pattern_prop : Code → Read S Tree
  pattern_prop c s = key_by m inner c s >>= λ k. if at m colon_kind k.1 then keyed_item c (here m s) k.0 (past m k.1) else named_item c k.1 s

  unfoldable pub object_item : Code → List Tree → Read S (Step (List Tree))
  object_item c xs s =
      if at m right_brace_kind s then Ok (finished xs, past m s)
      else (if at m dot_dot_dot_kind s then (inner.pat (with_in c) (past m s) >>= λ p. if is_structured p.0 then unexpected m p.1 else after_item right_brace_kind true (xs ++ rest_pat (spanned m (here m s) p.1) (dots_at (here m s)) p.0 ∷ []) p.1)
      else (pattern_prop c s >>= λ p. after_item right_brace_kind false (xs ++ p.0 ∷ []) p.1))

  unfoldable pub object_pat_by : Code → Read S Tree
  object_pat_by c s = iterate (bound m) (object_item c) [] (past m s) >>= λ xs. Ok (object_pat (spanned m (here m s) xs.1) (pack xs.0), xs.1)

  unfoldable pub pat_by : Code → Read S Tree
  pat_by c s =
      if at m left_bracket_kind s then array_pat_by c s
      else (if at m left_brace_kind s then object_pat_by c s
      else (name m c s >>= λ n. Ok (binding_ident (first m inner s) (ident (first m inner s) n.0), n.1)))

  -- ---- lists of statements, blocks and bodies

  unfoldable pub block_step : Code → List Tree → Read S (Step (List Tree))
  block_step c ss s = if at m right_brace_kind s then Ok (finished ss, past m s) else (inner.stmt (in_list c) s >>= λ t. Ok (go_on (ss ++ t.0 ∷ []), t.1))

  -- after `{`
  unfoldable pub block_rest : Code → ℕ → Read S Tree
  block_rest c start s = iterate (bound m) (block_step c) [] s >>= λ ss. Ok (block_stmt (spanned m start ss.1) (pack ss.0), ss.1)

  unfoldable pub block_by : Code → Read S Tree
  block_by c s = eat m left_brace_kind s >>= λ r. block_rest c (here m s) r

  unfoldable pub body_item : Body → Read S (Step Body)
  body_item b s = inner.stmt (in_list b.code) s >>= λ t.
      if b.starts && is_use_strict t.0 then Ok (go_on (record { items = b.items ++ t.0 ∷ []; code = turned_strict b.code; starts = true }), retold m (turned_strict b.code).context t.1)
      else Ok (go_on (record { items = b.items ++ t.0 ∷ []; code = b.code; starts = b.starts && is_directive t.0 }), t.1)

  unfoldable pub body_step : Body → Read S (Step Body)
  body_step b s = if at m right_brace_kind s then Ok (finished b, past m s) else body_item b s

  unfoldable pub body_by : Code → Read S Tree
  body_by c s = eat m left_brace_kind s >>= λ r. iterate (bound m) body_step (record { items = []; code = c; starts = true }) r >>= λ b.
      Ok (block_stmt (spanned m (here m s) b.1) (pack b.0.items), retold m c.context b.1)

  -- ---- declarations

  unfoldable pub declarator_by : Code → Read S Tree
  declarator_by c s = inner.pat c s >>= λ p.
      if at m assign_kind p.1 then (inner.expr c assignment_level (past m p.1) >>= λ e. Ok (var_declarator (spanned m (here m s) e.1) p.0 e.0, e.1))
      else Ok (var_declarator (spanned m (here m s) p.1) p.0 absent, p.1)

  unfoldable pub declarator_step : Code → List Tree → Read S (Step (List Tree))
  declarator_step c ds s = declarator_by c s >>= λ d. if at m comma_kind d.1 then Ok (go_on (ds ++ d.0 ∷ []), past m d.1) else Ok (finished (ds ++ d.0 ∷ []), d.1)

  unfoldable pub declarators_by : Code → Read S (List Tree)
  declarators_by c s = iterate (bound m) (declarator_step c) [] s

  -- `let` starts a declaration before a name, `[` and `{`
  abbrev pub starts_let : State S → Bool
  starts_let s = at m let_kind s && (may_name (kind2 (input m s)) || ((kind2 (input m s) == left_bracket_kind) || (kind2 (input m s) == left_brace_kind)))

  -- whether variables are declared here: `let` and `const` where a declaration may stand
  abbrev pub starts_variables : Code → State S → Bool
  starts_variables c s = at m var_kind s || (c.listed && (at m const_kind s || starts_let s))

  unfoldable pub variables_by : Code → Read S Tree
  variables_by c s = eat_word m c (kind (input m s)) s >>= λ r. declarators_by c r >>= λ ds. end_of m c (declarators_end (pack ds.0)) ds.1 >>= λ e.
      Ok (var_decl (spanned m (here m s) e) (kind (input m s)) (pack ds.0), e)

  -- `using` and a name on its line, `await using` and a name on theirs
  abbrev pub starts_using : Code → State S → Bool
  starts_using c s = c.syntax.explicit_resource_management && (at m using_kind s && (may_name (kind2 (input m s)) && not (brk2 (input m s))))

  abbrev pub starts_await_using : Code → State S → Bool
  starts_await_using c s = c.context.in_async && (at m await_kind s && (not (barred c.context (input m s)) && (not (brk2 (input m s)) && starts_using c (past m s))))

  unfoldable pub using_by : Code → ℕ → Bool → Read S Tree
  using_by c start awaits s = eat_word m c using_kind s >>= λ r. declarators_by c r >>= λ ds. end_of m c (declarators_end (pack ds.0)) ds.1 >>= λ e.
      Ok (using_decl (spanned m start e) awaits (pack ds.0), e)

  unfoldable pub function_decl_by : Code → ℕ → Bool → Read S Tree
  function_decl_by c start async s = eat_word m c function_kind s >>= λ r. star m inner r >>= λ g. name m c g.1 >>= λ n. function_by m inner c start g.0 async n.1 >>= λ f.
      Ok (fn_decl (spanned m start f.1) (ident (first m inner g.1) n.0) f.0, f.1)

  unfoldable pub class_decl_by : Code → Read S Tree
  class_decl_by c s = eat_word m c class_kind s >>= λ r. name m (turned_strict c) r >>= λ n. inner.class_tail (turned_strict (with_in c)) (here m s) n.1 >>= λ k.
      Ok (class_decl (spanned m (here m s) k.1) (ident (first m inner r) n.0) k.0, k.1)

  -- ---- classes

  -- after a key: `=` and a value, or nothing, and the end
  unfoldable pub field_value : Code → ℕ → Read S Tree
  field_value c e s =
      if at m assign_kind s then (inner.expr (in_field c) assignment_level (past m s) >>= λ v. end_of m c (ends v.0) v.1 >>= λ r. Ok (v.0, r))
      else (end_of m c e s >>= λ r. Ok (absent, r))

  unfoldable pub class_key : Code → Read S Tree
  class_key c s = if at m hash_kind s then private_by m inner s else key_by m inner c s

  abbrev pub method_tree : Span → Tree → Tree → ℕ → Bool → Tree
  method_tree s k f kind_ is_static = if is_private k then private_method s k f kind_ is_static else class_method s k f kind_ is_static

  abbrev pub constructor_of : Span → Tree → Tree → Tree
  constructor_of s k (function t ps ds b g a) = constructor s k ps b
  constructor_of s k f = f

  unfoldable pub class_method_by : Code → ℕ → Bool → Bool → Bool → Tree → Read S Tree
  class_method_by c start is_static generator async k s = function_by m inner c start generator async s >>= λ f.
      if constructs k && (not is_static && (not generator && not async)) then Ok (constructor_of (spanned m start f.1) k f.0, f.1)
      else Ok (method_tree (spanned m start f.1) k f.0 plain_method is_static, f.1)

  unfoldable pub class_getter : Code → ℕ → Bool → Read S Tree
  class_getter c start is_static s = class_key c (past m s) >>= λ k. eat m left_paren_kind k.1 >>= λ o. eat m right_paren_kind o >>= λ p. inner.body (in_body false false c) p >>= λ b.
      Ok (method_tree (spanned m start b.1) k.0 (function (spanned m start b.1) none none b.0 false false) get_kind is_static, b.1)

  unfoldable pub class_setter : Code → ℕ → Bool → Read S Tree
  class_setter c start is_static s = class_key c (past m s) >>= λ k. setter_parameter m inner (in_body false false c) k.1 >>= λ p. inner.body (in_body false false c) p.1 >>= λ b.
      Ok (method_tree (spanned m start b.1) k.0 (function (spanned m start b.1) (more p.0 none) none b.0 false false) set_kind is_static, b.1)

  unfoldable pub accessor_by : Code → ℕ → Bool → Read S Tree
  accessor_by c start is_static s = class_key c (past m s) >>= λ k. field_value c key_end k.1 >>= λ v. Ok (auto_accessor (spanned m start v.1) k.0 v.0 is_static none, v.1)

  unfoldable pub field_or_method : Code → ℕ → Bool → Read S Tree
  field_or_method c start is_static s = class_key c s >>= λ k.
      if at m left_paren_kind k.1 then class_method_by c start is_static false false k.0 k.1
      else (field_value c (field_end is_static (kind (input m s))) k.1 >>= λ v.
      if is_private k.0 then Ok (private_prop (spanned m start v.1) k.0 v.0 is_static none, v.1) else Ok (class_prop (spanned m start v.1) k.0 v.0 is_static none, v.1))

  unfoldable pub generator_member : Code → ℕ → Bool → Bool → Read S Tree
  generator_member c start is_static async s = star m inner s >>= λ g. class_key c g.1 >>= λ k. class_method_by c start is_static g.0 async k.0 k.1

  -- a member, after `static` where it stands
  unfoldable pub member_rest : Code → ℕ → Bool → Read S Tree
  member_rest c start is_static s =
      if at m mul_kind s then generator_member c start is_static false s
      else (if is_async_head m inner s then generator_member c start is_static true (past m s)
      else (if at m get_kind s && starts_key (kind2 (input m s)) then class_getter c start is_static s
      else (if at m set_kind s && starts_key (kind2 (input m s)) then class_setter c start is_static s
      else (if c.syntax.auto_accessors && (at m accessor_kind s && (starts_key (kind2 (input m s)) && not (brk2 (input m s)))) then accessor_by c start is_static s
      else field_or_method c start is_static s))))

  -- `static` as a modifier: before a key, a star or a brace
  abbrev pub starts_static : State S → Bool
  starts_static s = at m static_kind s && (starts_key (kind2 (input m s)) || ((kind2 (input m s) == mul_kind) || (kind2 (input m s) == left_brace_kind)))

  unfoldable pub static_by : Code → Read S Tree
  static_by c s = eat_word m c static_kind s >>= λ r.
      if at m left_brace_kind r then (block_rest (in_static c) (here m r) (past m r) >>= λ b. Ok (static_block (spanned m (here m s) b.1) b.0, b.1))
      else member_rest c (here m s) true r

  unfoldable pub member_step : Code → List Tree → Read S (Step (List Tree))
  member_step c ms s =
      if at m right_brace_kind s then Ok (finished ms, past m s)
      else (if at m semicolon_kind s then Ok (go_on (ms ++ empty_stmt (first m inner s) ∷ []), past m s)
      else (if starts_static s then (static_by c s >>= λ x. Ok (go_on (ms ++ x.0 ∷ []), x.1))
      else (member_rest c (here m s) false s >>= λ x. Ok (go_on (ms ++ x.0 ∷ []), x.1))))

  unfoldable pub members_by : Code → ℕ → Tree → Read S Tree
  members_by c whole super_class s = eat m left_brace_kind s >>= λ r. iterate (bound m) (member_step c) [] r >>= λ ms.
      Ok (class (spanned m whole ms.1) none (pack ms.0) super_class, ms.1)

  unfoldable pub class_tail_by : Code → ℕ → Read S Tree
  class_tail_by c whole s =
      if at m extends_kind s then (eat_word m c extends_kind s >>= λ r. inner.expr c new_level r >>= λ e. members_by c whole e.0 e.1)
      else members_by c whole absent s

  -- ---- statements

  -- `(` Expression `)`
  unfoldable pub in_parens : Code → Read S Tree
  in_parens c s = eat m left_paren_kind s >>= λ o. inner.expr c expression_level o >>= λ e. eat m right_paren_kind e.1 >>= λ r. Ok (e.0, r)

  -- a statement as a part of another one; where it may be a plain function, that
  unfoldable pub sub_by : Code → Bool → Read S Tree
  sub_by c functions s = inner.stmt (alone c) s >>= λ t. if is_statement t.0 || (functions && (not (is_strict c) && is_plain_function t.0)) then Ok t else unexpected m t.1

  unfoldable pub with_by : Code → Read S Tree
  with_by c s = eat_word m c with_kind s >>= λ r. in_parens c r >>= λ e. sub_by c false e.1 >>= λ b. Ok (with_stmt (spanned m (here m s) b.1) e.0 b.0, b.1)

  unfoldable pub while_by : Code → Read S Tree
  while_by c s = eat_word m c while_kind s >>= λ r. in_parens c r >>= λ e. sub_by c false e.1 >>= λ b. Ok (while_stmt (spanned m (here m s) b.1) e.0 b.0, b.1)

  unfoldable pub do_by : Code → Read S Tree
  do_by c s = eat_word m c do_kind s >>= λ r. sub_by c false r >>= λ b. eat_word m c while_kind b.1 >>= λ w. in_parens c w >>= λ e.
      if at m semicolon_kind e.1 then Ok (do_while_stmt (spanned m (here m s) (past m e.1)) e.0 b.0, past m e.1) else Ok (do_while_stmt (spanned m (here m s) e.1) e.0 b.0, e.1)

  -- one more branch of a chain
  abbrev pub branched : ℕ → Chain → Tree → Tree → Chain
  branched start x e a = record { branches = x.branches ++ record { start = start; test = e; consequent = a } ∷ []; code = x.code; last = absent }

  -- after `else`: another `if` goes on, and nests no deeper
  unfoldable pub else_by : Chain → Read S (Step Chain)
  else_by x s =
      if at m if_kind (operand m s) then Ok (go_on (record { branches = x.branches; code = alone x.code; last = absent }), operand m s)
      else (sub_by x.code true s >>= λ b. Ok (finished (record { branches = x.branches; code = x.code; last = b.0 }), b.1))

  unfoldable pub if_step : Chain → Read S (Step Chain)
  if_step x s = eat_word m x.code if_kind s >>= λ r. in_parens x.code r >>= λ e. sub_by x.code true e.1 >>= λ a.
      if at m else_kind a.1 then (eat_word m x.code else_kind a.1 >>= λ o. else_by (branched (here m s) x e.0 a.0) o) else Ok (finished (branched (here m s) x e.0 a.0), a.1)

  unfoldable pub if_by : Code → Read S Tree
  if_by c s = iterate (bound m) if_step (record { branches = []; code = c; last = absent }) s >>= λ x. Ok (chained (m.last x.1.source) x.0.branches x.0.last, x.1)

  -- `return`, `break` and `continue`, `throw`: what follows stands on their line
  abbrev pub ends_here : Code → State S → Bool
  ends_here c s = at m semicolon_kind s || (at m right_brace_kind s || (at m end_kind s || brk (input m s)))

  unfoldable pub return_by : Code → Read S Tree
  return_by c s = eat_word m c return_kind s >>= λ r.
      if ends_here c r then (end_of m c plain_end r >>= λ e. Ok (return_stmt (spanned m (here m s) e) absent, e))
      else (inner.expr c expression_level r >>= λ x. end_of m c (ends x.0) x.1 >>= λ e. Ok (return_stmt (spanned m (here m s) e) x.0, e))

  unfoldable pub throw_by : Code → Read S Tree
  throw_by c s = eat_word m c throw_kind s >>= λ r. if brk (input m r) then unexpected m r else (inner.expr c expression_level r >>= λ x. end_of m c (ends x.0) x.1 >>= λ e. Ok (throw_stmt (spanned m (here m s) e) x.0, e))

  unfoldable pub label_by : Code → Read S Tree
  label_by c s = if ends_here c s then Ok (absent, s) else (name m c s >>= λ n. Ok (ident (first m inner s) n.0, n.1))

  unfoldable pub jump_by : ℕ → (Span → Tree → Tree) → Code → Read S Tree
  jump_by word make c s = eat_word m c word s >>= λ r. label_by c r >>= λ l. end_of m c plain_end l.1 >>= λ e. Ok (make (spanned m (here m s) e) l.0, e)

  unfoldable pub debugger_by : Code → Read S Tree
  debugger_by c s = eat_word m c debugger_kind s >>= λ r. end_of m c plain_end r >>= λ e. Ok (debugger_stmt (spanned m (here m s) e), e)

  -- ---- `switch` and `try`

  unfoldable pub case_step : Code → List Tree → Read S (Step (List Tree))
  case_step c ss s =
      if at m case_kind s || (at m default_kind s || at m right_brace_kind s) then Ok (finished ss, s)
      else (inner.stmt (in_list c) s >>= λ t. Ok (go_on (ss ++ t.0 ∷ []), t.1))

  unfoldable pub case_rest : Code → ℕ → Tree → Read S Tree
  case_rest c start e s = eat m colon_kind s >>= λ r. iterate (bound m) (case_step c) [] r >>= λ ss. Ok (switch_case (spanned m start ss.1) e (pack ss.0), ss.1)

  unfoldable pub case_by : Code → Read S Tree
  case_by c s =
      if at m default_kind s then (eat_word m c default_kind s >>= λ r. case_rest c (here m s) absent r)
      else (eat_word m c case_kind s >>= λ r. inner.expr c expression_level r >>= λ e. case_rest c (here m s) e.0 e.1)

  abbrev pub has_default : List Tree → Bool
  has_default [] = false
  has_default (t ∷ ts) = is_default_case t || has_default ts

  unfoldable pub cases_step : Code → List Tree → Read S (Step (List Tree))
  cases_step c xs s =
      if at m right_brace_kind s then Ok (finished xs, past m s)
      else (case_by c s >>= λ x. if has_default xs && is_default_case x.0 then unexpected m x.1 else Ok (go_on (xs ++ x.0 ∷ []), x.1))

  unfoldable pub switch_by : Code → Read S Tree
  switch_by c s = eat_word m c switch_kind s >>= λ r. in_parens c r >>= λ e. eat m left_brace_kind e.1 >>= λ o. iterate (bound m) (cases_step c) [] o >>= λ xs.
      Ok (switch_stmt (spanned m (here m s) xs.1) e.0 (pack xs.0), xs.1)

  unfoldable pub catch_by : Code → Read S Tree
  catch_by c s = eat_word m c catch_kind s >>= λ r.
      if at m left_paren_kind r then (inner.pat c (past m r) >>= λ p. eat m right_paren_kind p.1 >>= λ q. block_by c q >>= λ b. Ok (catch_clause (spanned m (here m s) b.1) p.0 b.0, b.1))
      else (block_by c r >>= λ b. Ok (catch_clause (spanned m (here m s) b.1) absent b.0, b.1))

  unfoldable pub finally_by : Code → ℕ → Tree → Tree → Read S Tree
  finally_by c start b h s =
      if at m finally_kind s && not (barred c.context (input m s)) then (eat_word m c finally_kind s >>= λ r. block_by c r >>= λ f. Ok (try_stmt (spanned m start f.1) b h f.0, f.1))
      else (if is_absent h then unexpected m s else Ok (try_stmt (spanned m start s) b h absent, s))

  unfoldable pub try_by : Code → Read S Tree
  try_by c s = eat_word m c try_kind s >>= λ r. block_by c r >>= λ b.
      if at m catch_kind b.1 then (catch_by c b.1 >>= λ h. finally_by c (here m s) b.0 h.0 h.1) else finally_by c (here m s) b.0 absent b.1

  -- ---- `for`

  -- an expression that may be left out, and what follows it
  unfoldable pub clause_by : Code → ℕ → Read S Tree
  clause_by c close s = if at m close s then Ok (absent, past m s) else (inner.expr c expression_level s >>= λ e. eat m close e.1 >>= λ r. Ok (e.0, r))

  unfoldable pub for_rest : Code → ℕ → Tree → Read S Tree
  for_rest c start i s = eat m semicolon_kind s >>= λ r. clause_by c semicolon_kind r >>= λ t. clause_by c right_paren_kind t.1 >>= λ u. sub_by c false u.1 >>= λ b.
      Ok (for_stmt (spanned m start b.1) i t.0 u.0 b.0, b.1)

  unfoldable pub over_rest : Code → ℕ → (Span → Tree → Tree → Tree) → ℕ → Read S Tree
  over_rest c l make start s = inner.expr c l s >>= λ e. eat m right_paren_kind e.1 >>= λ r. sub_by c false r >>= λ b. Ok (make (spanned m start b.1) e.0 b.0, b.1)

  unfoldable pub in_rest : Code → ℕ → Tree → Read S Tree
  in_rest c start l s = eat_word m c in_kind s >>= λ r. over_rest c expression_level (λ p e b. for_in_stmt p l e b) start r

  unfoldable pub of_rest : Code → ℕ → Bool → Tree → Read S Tree
  of_rest c start awaits l s = eat_word m c of_kind s >>= λ r. over_rest c assignment_level (λ p e b. for_of_stmt p awaits l e b) start r

  abbrev pub one_bare : List Tree → Bool
  one_bare [] = false
  one_bare (d ∷ []) = is_bare_declarator d
  one_bare (d ∷ (e ∷ es)) = false

  -- after what declares: `in`, `of` or `;`
  unfoldable pub head_rest : Code → ℕ → Bool → List Tree → Tree → Read S Tree
  head_rest c start awaits ds l s =
      if at m of_kind s then (if one_bare ds then of_rest c start awaits l s else unexpected m s)
      else (if awaits then unexpected m s
      else (if at m in_kind s then (if one_bare ds then in_rest c start l s else unexpected m s)
      else for_rest c start l s))

  unfoldable pub for_variables : Code → ℕ → Bool → Read S Tree
  for_variables c start awaits s = eat_word m c (kind (input m s)) s >>= λ r. declarators_by (without_in c) r >>= λ ds. head_rest c start awaits ds.0 (var_decl (spanned m (here m s) ds.1) (kind (input m s)) (pack ds.0)) ds.1

  unfoldable pub for_using : Code → ℕ → Bool → ℕ → Bool → Read S Tree
  for_using c start awaits own waits s = eat_word m c using_kind s >>= λ r. declarators_by (without_in c) r >>= λ ds. head_rest c start awaits ds.0 (using_decl (spanned m own ds.1) waits (pack ds.0)) ds.1

  -- after an expression: it is a target before `in` and `of`
  unfoldable pub for_expression_rest : Code → ℕ → Bool → State S → Tree → Read S Tree
  for_expression_rest c start awaits own e s =
      if at m of_kind s then (if at m let_kind own || (not awaits && (at m async_kind own && (kind2 (input m own) == of_kind))) then unexpected m s else (placed (bound m s) (to_head s.commas e) >>= λ l. of_rest c start awaits l s))
      else (if awaits then unexpected m s
      else (if at m in_kind s then (placed (bound m s) (to_head s.commas e) >>= λ l. in_rest c start l s)
      else for_rest c start e s))

  unfoldable pub for_expression : Code → ℕ → Bool → Read S Tree
  for_expression c start awaits s = if at m let_kind s && (kind2 (input m s) == left_bracket_kind) then unexpected m s else (inner.expr (without_in c) expression_level s >>= λ e. for_expression_rest c start awaits s e.0 e.1)

  unfoldable pub for_head : Code → ℕ → Bool → Read S Tree
  for_head c start awaits s =
      if at m semicolon_kind s then (if awaits then unexpected m s else for_rest c start absent s)
      else (if at m var_kind s || (at m const_kind s || starts_let s) then for_variables c start awaits s
      else (if starts_using c s && not (kind2 (input m s) == of_kind) then for_using c start awaits (here m s) false s
      else (if starts_await_using c s && not (kind2 (rest (input m s)) == of_kind) then for_using c start awaits (here m s) true (past m s)
      else for_expression c start awaits s)))

  unfoldable pub for_by : Code → Read S Tree
  for_by c s = eat_word m c for_kind s >>= λ r.
      if at m await_kind r then (if c.context.in_async then (eat_word m c await_kind r >>= λ w. eat m left_paren_kind w >>= λ o. for_head c (here m s) true o) else unexpected m r)
      else (eat m left_paren_kind r >>= λ o. for_head c (here m s) false o)

  -- ---- any statement

  -- the class of a statement's expression
  abbrev pub statement_class : Code → State S → Tree → ℕ
  statement_class c s e = if c.listed && (at m let_kind s && is_name e) then let_end else ends e

  unfoldable pub labelled_by : Code → ℕ → Tree → Read S Tree
  labelled_by c start l s = sub_by c true (past m s) >>= λ b. Ok (labeled_stmt (spanned m start b.1) l b.0, b.1)

  -- an expression that starts a statement: a label where it is a name before a colon
  unfoldable pub expression_by : Code → Read S Tree
  expression_by c s =
      if at m let_kind s && (kind2 (input m s) == left_bracket_kind) then unexpected m s
      else (inner.expr c expression_level s >>= λ e.
      if is_name e.0 && at m colon_kind e.1 then labelled_by c (here m s) e.0 e.1
      else (end_of m c (statement_class c s e.0) e.1 >>= λ r. Ok (expr_stmt (spanned m (here m s) r) e.0, r)))

  abbrev pub starts_async : State S → Bool
  starts_async s = at m async_kind s && ((kind2 (input m s) == function_kind) && not (brk2 (input m s)))

  unfoldable pub keyword_stmt : Code → Read S Tree
  keyword_stmt c s =
      if at m if_kind s then if_by c s
      else (if at m return_kind s then return_by c s
      else (if at m for_kind s then for_by c s
      else (if at m while_kind s then while_by c s
      else (if at m do_kind s then do_by c s
      else (if at m switch_kind s then switch_by c s
      else (if at m try_kind s then try_by c s
      else (if at m throw_kind s then throw_by c s
      else (if at m break_kind s then jump_by break_kind break_stmt c s
      else (if at m continue_kind s then jump_by continue_kind continue_stmt c s
      else (if at m with_kind s then with_by c s
      else (if at m debugger_kind s then debugger_by c s
      else (if at m function_kind s then function_decl_by c (here m s) false s
      else (if at m class_kind s then (if c.listed then class_decl_by c s else unexpected m s)
      else (if starts_async s then (if c.listed then function_decl_by c (here m s) true (past m s) else unexpected m s)
      else (if starts_variables c s then variables_by c s
      else (if c.listed && starts_using c s then using_by c (here m s) false s
      else (if c.listed && starts_await_using c s then using_by c (here m s) true (past m s)
      else expression_by c s)))))))))))))))))

  unfoldable pub stmt_by : Code → Read S Tree
  stmt_by c s =
      if at m semicolon_kind s then Ok (empty_stmt (first m inner s), past m s)
      else (if at m left_brace_kind s then block_by c s
      else keyword_stmt c s)

  unfoldable pub stmt_from : Code → Read S Tree
  stmt_from c s = stmt_by c (operand m s)
