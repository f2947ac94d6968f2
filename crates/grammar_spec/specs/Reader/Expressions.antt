-- Reading expressions (ECMA-262, clause 13): a prefix, then one loop over infix and postfix operators.
use Rattle.std.specs.Prelude.{ℕ, Bool, true, false, not, ◌&&◌, ◌||◌, ◌==◌, nat_le, nat_lt, if◌then◌else◌, List, [], ◌∷◌, ◌++◌, Option, Some, None, Result, Ok, Err}
use Rattle.tree_spec.specs.Span.{Span}
use Rattle.tree_spec.specs.Kinds.{arrow_kind, hash_kind, dot_kind, dot_dot_dot_kind, left_paren_kind, right_paren_kind, left_bracket_kind, right_bracket_kind, left_brace_kind, right_brace_kind, comma_kind, back_quote_kind, template_kind, colon_kind, dollar_brace_kind, question_mark_kind, str_kind, num_kind, big_int_kind, regex_kind, mul_kind, assign_kind, null_kind, true_kind, false_kind, await_kind, function_kind, class_kind, new_kind, this_kind, super_kind, import_kind, yield_kind, in_kind, add_kind, sub_kind, bang_kind, tilde_kind, typeof_kind, void_kind, delete_kind, plus_plus_kind, minus_minus_kind, async_kind, meta_kind, target_kind, get_kind, set_kind, semicolon_kind}
use Rattle.tree_spec.specs.Tokens.{Content, Quoted, Piece, Pattern, Numeral, BigNumeral}
use Rattle.tree_spec.specs.Tree.{Tree, none, more, pack, unpack, function, ident_name, computed_prop_name, private_name, this_expr, array_lit, object_lit, fn_expr, unary_expr, update_expr, bin_expr, assign_expr, member_expr, super_prop_expr, cond_expr, call_expr, new_expr, seq_expr, ident, tpl, tpl_element, tagged_tpl, arrow_expr, class_expr, yield_expr, meta_prop_expr, await_expr, paren_expr, opt_chain_expr, opt_call, super, import, expr_or_spread, spread_element, key_value_prop, assign_prop, getter_prop, setter_prop, method_prop, str_lit, bool_lit, null_lit, number_lit, big_int_lit, regex_lit, binding_ident, assign_pat, rest_pat, param, absent, hole, list}
use Rattle.tree_spec.specs.Places.{place_of}
use Rattle.grammar_spec.specs.Tokens.Input.{Code, kind, kind2, brk, brk2, lo, hi, dots_at, text, content, span, first_span, is_word, barred, has_in, with_in, by, in_body, in_arrow, turned_strict, in_list}
use Rattle.grammar_spec.specs.Tokens.Operators.{expression_level, assignment_level, coalesce_level, unary_level, new_level, call_level, member_level, binary_level, right_level, is_assign_op, operates, goes_expr, between, starts_key, other_end}
use Rattle.grammar_spec.specs.Tokens.Shape.{level, ends, fits_left, is_chain, is_cooked, is_spread}
use Rattle.grammar_spec.specs.Reader.Source.{Fault, unfit, placed, unexpected, ◌>>=◌, Stream, State, Read, input, past, operand, bound, here, spanned, at, eat, eat_word, is_name, name, any_word, Step, go_on, finished, iterate, Inner}
use Rattle.grammar_spec.specs.Reader.Cover.{to_items, last_rests, to_target}

-- is a prefix operator (13.5)
abbrev pub is_unary : ℕ → Bool
is_unary k = (k == sub_kind) || ((k == add_kind) || ((k == bang_kind) || ((k == tilde_kind) || ((k == typeof_kind) || ((k == void_kind) || (k == delete_kind))))))

-- what a token holds, as a literal of its kind
abbrev pub only_kind : Bool → Tree → Option Tree
only_kind b t = if b then Some t else None

abbrev pub literal : ℕ → Content → Span → Option Tree
literal k (Quoted units raw) s = only_kind (k == str_kind) (str_lit s units (Some raw))
literal k (Numeral value raw) s = only_kind (k == num_kind) (number_lit s value (Some raw))
literal k (BigNumeral radix digits raw) s = only_kind (k == big_int_kind) (big_int_lit s radix digits (Some raw))
literal k (Pattern body flags) s = only_kind (k == regex_kind) (regex_lit s body flags)
literal k _ s = None

-- where the last of a list of elements ends
abbrev pub last_end : List Tree → ℕ
last_end [] = 0
last_end (x ∷ []) = (place_of x).hi.0
last_end (x ∷ (y ∷ ys)) = last_end (y ∷ ys)

-- a list of expressions as the elements of a call or as a sequence
abbrev pub joined : List Tree → Span → Tree
joined [] s = absent
joined (t ∷ []) s = t
joined (t ∷ (u ∷ ts)) s = seq_expr s (pack (t ∷ u ∷ ts))

abbrev pub extended : Tree → Tree → Span → Tree
extended (seq_expr s xs) t n = seq_expr n (pack (unpack xs ++ t ∷ []))
extended u t n = seq_expr n (more u (more t none))

-- whether anything is read
abbrev pub is_read : {A : Type 0} → Result A Fault → Bool
is_read (Ok x) = true
is_read (Err e) = false

-- an element without dots, as the expression that it is
abbrev pub plain_element : Tree → Option Tree
plain_element (expr_or_spread s None e) = Some e
plain_element _ = None

abbrev pub plain_elements : List Tree → Option (List Tree)
plain_elements [] = Some []
plain_elements (x ∷ xs) = elim (plain_element x) [ None ↦ None | Some e ↦ elim (plain_elements xs) [ None ↦ None | Some es ↦ Some (e ∷ es) ] ]

-- what a list of elements and the comma after it make
pub record Elements : Type 0 where
  pub items : List Tree
  pub comma : Bool

abbrev pub no_elements : Elements
no_elements = record { items = []; comma = false }

-- what stands in a template, from left to right
pub record Spans : Type 0 where
  pub exprs : List Tree
  pub quasis : List Tree

module _ {S : Type 0} (m : Stream S) (inner : Inner S) where
  -- ---- literals and lists

  abbrev pub first : State S → Span
  first s = first_span (input m s)

  unfoldable pub literal_by : Read S Tree
  literal_by s = elim (literal (kind (input m s)) (content (input m s)) (first s)) [ None ↦ unexpected m s | Some t ↦ Ok (t, past m s) ]

  -- an element: after dots where it is spread
  unfoldable pub element_by : Code → Read S Tree
  element_by c s =
      if at m dot_dot_dot_kind s then (inner.expr (with_in c) assignment_level (past m s) >>= λ e. Ok (expr_or_spread (spanned m (here m s) e.1) (Some (first s)) e.0, e.1))
      else (inner.expr (with_in c) assignment_level s >>= λ e. Ok (expr_or_spread (spanned m (here m s) e.1) None e.0, e.1))

  -- what follows an element: a comma and more, or what closes the list
  unfoldable pub after_element : ℕ → List Tree → Read S (Step Elements)
  after_element close items s =
      if at m comma_kind s then Ok (go_on (record { items = items; comma = true }), past m s)
      else (eat m close s >>= λ r. Ok (finished (record { items = items; comma = false }), r))

  -- one more element, or a hole where holes may stand, up to what closes the list
  unfoldable pub element_step : Code → Bool → ℕ → Elements → Read S (Step Elements)
  element_step c holes close xs s =
      if at m close s then Ok (finished xs, past m s)
      else (if holes && at m comma_kind s then Ok (go_on (record { items = xs.items ++ hole ∷ []; comma = false }), past m s)
      else (element_by c s >>= λ e. after_element close (xs.items ++ e.0 ∷ []) e.1))

  unfoldable pub elements_by : Code → Bool → ℕ → Read S Elements
  elements_by c holes close s = iterate (bound m) (element_step c holes close) no_elements s

  -- the start of a literal in which a comma follows a last spread
  abbrev pub noted : Bool → ℕ → State S → State S
  noted b n s = record { source = s.source; commas = if b then n ∷ s.commas else s.commas }

  -- after `[`
  unfoldable pub array_by : Code → Read S Tree
  array_by c s = elements_by c true right_bracket_kind (past m s) >>= λ xs.
      Ok (array_lit (spanned m (here m s) xs.1) (pack xs.0.items), noted (xs.0.comma && last_rests xs.0.items) (here m s) xs.1)

  -- ---- keys and properties

  unfoldable pub computed_by : Code → ℕ → Read S Tree
  computed_by c l s = inner.expr (with_in c) l (past m s) >>= λ e. eat m right_bracket_kind e.1 >>= λ r. Ok (computed_prop_name (spanned m (here m s) r) e.0, r)

  unfoldable pub key_by : Code → Read S Tree
  key_by c s =
      if at m left_bracket_kind s then computed_by c assignment_level s
      else (if is_word (kind (input m s)) then Ok (ident_name (first s) (text (input m s)), past m s)
      else (if at m regex_kind s then unexpected m s else literal_by s))

  -- a private name, whose `#` touches it
  unfoldable pub private_by : Read S Tree
  private_by s = eat m hash_kind s >>= λ h. if lo (input m h) == hi (input m s) then (any_word m h >>= λ n. Ok (private_name (spanned m (here m s) n.1) n.0, n.1)) else unexpected m h

  -- parameters and body, of a method or of what follows `function`; `whole` is where the whole began
  unfoldable pub parameter_by : Code → Read S Tree
  parameter_by c s =
      if at m dot_dot_dot_kind s then (inner.pat (with_in c) (past m s) >>= λ p. Ok (param (spanned m (here m s) p.1) none (rest_pat (spanned m (here m s) p.1) (dots_at (here m s)) p.0), p.1))
      else (inner.pat (with_in c) s >>= λ p.
      if at m assign_kind p.1 then (inner.expr (with_in c) assignment_level (past m p.1) >>= λ e. Ok (param (spanned m (here m s) e.1) none (assign_pat (spanned m (here m s) e.1) p.0 e.0), e.1))
      else Ok (param (spanned m (here m s) p.1) none p.0, p.1))

  abbrev pub is_rest_param : Tree → Bool
  is_rest_param (param s ds (rest_pat t d p)) = true
  is_rest_param _ = false

  unfoldable pub parameter_step : Code → List Tree → Read S (Step (List Tree))
  parameter_step c ps s =
      if at m right_paren_kind s then Ok (finished ps, past m s)
      else (parameter_by c s >>= λ p.
      if at m comma_kind p.1 && not (is_rest_param p.0) then Ok (go_on (ps ++ p.0 ∷ []), past m p.1)
      else (eat m right_paren_kind p.1 >>= λ r. Ok (finished (ps ++ p.0 ∷ []), r)))

  unfoldable pub parameters_by : Code → Read S (List Tree)
  parameters_by c s = eat m left_paren_kind s >>= λ r. iterate (bound m) (parameter_step c) [] r

  unfoldable pub function_by : Code → ℕ → Bool → Bool → Read S Tree
  function_by c whole generator async s =
      parameters_by (in_body generator async c) s >>= λ ps. inner.body (in_body generator async c) ps.1 >>= λ b.
      Ok (function (spanned m whole b.1) (pack ps.0) none b.0 generator async, b.1)

  -- a setter takes one parameter, which is no rest, and no comma
  unfoldable pub setter_parameter : Code → Read S Tree
  setter_parameter c s = eat m left_paren_kind s >>= λ o. parameter_by c o >>= λ p. if is_rest_param p.0 then unexpected m p.1 else (eat m right_paren_kind p.1 >>= λ r. Ok (p.0, r))

  abbrev pub pattern_of : Tree → Tree
  pattern_of (param s ds p) = p
  pattern_of t = t

  -- one of `get` and `set` before a key
  abbrev pub is_accessor : ℕ → State S → Bool
  is_accessor k s = at m k s && (starts_key (kind2 (input m s)) && not (kind2 (input m s) == hash_kind))

  -- `async` before a key or a star on its line
  abbrev pub is_async_head : State S → Bool
  is_async_head s = at m async_kind s && ((starts_key (kind2 (input m s)) || (kind2 (input m s) == mul_kind)) && not (brk2 (input m s)))

  unfoldable pub star : Read S Bool
  star s = if at m mul_kind s then Ok (true, past m s) else Ok (false, s)

  unfoldable pub method_prop_by : Code → ℕ → Bool → Bool → Read S Tree
  method_prop_by c whole generator async s = key_by c s >>= λ k. function_by c whole generator async k.1 >>= λ f. Ok (method_prop (spanned m whole f.1) k.0 f.0, f.1)

  unfoldable pub getter_by : Code → Read S Tree
  getter_by c s = key_by c (past m s) >>= λ k. eat m left_paren_kind k.1 >>= λ o. eat m right_paren_kind o >>= λ p. inner.body (in_body false false c) p >>= λ b.
      Ok (getter_prop (spanned m (here m s) b.1) k.0 b.0, b.1)

  unfoldable pub setter_by : Code → Read S Tree
  setter_by c s = key_by c (past m s) >>= λ k. setter_parameter (in_body false false c) k.1 >>= λ p. inner.body (in_body false false c) p.1 >>= λ b.
      Ok (setter_prop (spanned m (here m s) b.1) k.0 (pattern_of p.0) b.0, b.1)

  -- after a key: a value, a method; or, where the key is a name, the name itself, with an initialiser in a cover
  unfoldable pub prop_rest : Code → State S → Tree → Read S Tree
  prop_rest c s k r =
      if at m colon_kind r then (inner.expr (with_in c) assignment_level (past m r) >>= λ v. Ok (key_value_prop (spanned m (here m s) v.1) k v.0, v.1))
      else (if at m left_paren_kind r then (function_by c (here m s) false false r >>= λ f. Ok (method_prop (spanned m (here m s) f.1) k f.0, f.1))
      else (placed (bound m r) (name m c s) >>= λ n.
      if at m assign_kind n.1 then (inner.expr (with_in c) assignment_level (past m n.1) >>= λ e. Ok (assign_prop (spanned m (here m s) e.1) (ident (first s) n.0) e.0, e.1))
      else Ok (ident (first s) n.0, n.1)))

  unfoldable pub prop_by : Code → Read S Tree
  prop_by c s =
      if at m dot_dot_dot_kind s then (inner.expr (with_in c) assignment_level (past m s) >>= λ e. Ok (spread_element (spanned m (here m s) e.1) e.0, e.1))
      else (if at m mul_kind s then method_prop_by c (here m s) true false (past m s)
      else (if is_async_head s then (star (past m s) >>= λ g. method_prop_by c (here m s) g.0 true g.1)
      else (if is_accessor get_kind s then getter_by c s
      else (if is_accessor set_kind s then setter_by c s
      else (key_by c s >>= λ k. prop_rest c s k.0 k.1)))))

  unfoldable pub prop_step : Code → Elements → Read S (Step Elements)
  prop_step c xs s =
      if at m right_brace_kind s then Ok (finished xs, past m s)
      else (prop_by c s >>= λ p. after_element right_brace_kind (xs.items ++ p.0 ∷ []) p.1)

  unfoldable pub object_by : Code → Read S Tree
  object_by c s = iterate (bound m) (prop_step c) no_elements (past m s) >>= λ ps.
      Ok (object_lit (spanned m (here m s) ps.1) (pack ps.0.items), noted (ps.0.comma && last_rests ps.0.items) (here m s) ps.1)

  -- ---- templates

  abbrev pub quasi : Content → Span → Bool → Option Tree
  quasi (Piece raw cooked) s tail = Some (tpl_element s tail raw cooked)
  quasi _ s tail = None

  -- characters, and what ends them
  unfoldable pub quasi_end : Code → Bool → Spans → (Bool → Option Tree) → Read S (Step Spans)
  quasi_end c tagged x q s =
      if at m back_quote_kind s then elim (q true) [ None ↦ unexpected m (past m s) | Some t ↦ if tagged || is_cooked t then Ok (finished (record { exprs = x.exprs; quasis = x.quasis ++ t ∷ [] }), past m s) else unexpected m (past m s) ]
      else (eat m dollar_brace_kind s >>= λ o. inner.expr (with_in c) expression_level o >>= λ e. eat m right_brace_kind e.1 >>= λ r.
      elim (q false) [ None ↦ unexpected m r | Some t ↦ if tagged || is_cooked t then Ok (go_on (record { exprs = x.exprs ++ e.0 ∷ []; quasis = x.quasis ++ t ∷ [] }), r) else unexpected m r ])

  unfoldable pub quasi_step : Code → Bool → Spans → Read S (Step Spans)
  quasi_step c tagged x s = eat m template_kind s >>= λ r. quasi_end c tagged x (quasi (content (input m s)) (first s)) r

  unfoldable pub template_by : Code → Bool → Read S Tree
  template_by c tagged s = iterate (bound m) (quasi_step c tagged) (record { exprs = []; quasis = [] }) (past m s) >>= λ x. Ok (tpl (spanned m (here m s) x.1) (pack x.0.exprs) (pack x.0.quasis), x.1)

  -- ---- arrows and parentheses

  -- `=>` on the line of what stands before it
  abbrev pub arrows : State S → Bool
  arrows s = at m arrow_kind s && not (brk (input m s))

  -- An arrow goes on with a name: where an assignment may stand.
  abbrev pub arrows_at : ℕ → State S → Bool
  arrows_at l s = arrows s && nat_le l assignment_level

  unfoldable pub arrow_by : Code → ℕ → Bool → List Tree → Read S Tree
  arrow_by c start async ps s =
      if at m left_brace_kind (past m s) then (inner.body (in_list (with_in (in_arrow async c))) (past m s) >>= λ b. Ok (arrow_expr (spanned m start b.1) (pack ps) b.0 async, b.1))
      else (inner.expr (in_arrow async c) assignment_level (past m s) >>= λ b. Ok (arrow_expr (spanned m start b.1) (pack ps) b.0 async, b.1))

  -- the elements of a parenthesis as parameters
  unfoldable pub params_of : List ℕ → Elements → Result (List Tree) Fault
  params_of commas xs = if xs.comma && last_rests xs.items then unfit else (to_items false true commas (pack xs.items) >>= λ ps. Ok (unpack ps))

  -- An arrow goes on with a group: where an assignment may stand, and its elements are parameters.
  abbrev pub heads_params : ℕ → Elements → State S → Bool
  heads_params l xs s = arrows_at l s && is_read (params_of s.commas xs)

  -- after the `)` of a group: an arrow, or an expression in parentheses
  unfoldable pub group_end : Code → ℕ → ℕ → ℕ → Elements → Read S Tree
  group_end c l start open_ xs s =
      if heads_params l xs s then (placed (bound m s) (params_of s.commas xs) >>= λ ps. arrow_by c start false ps s)
      else (if xs.comma then unexpected m s else elim (plain_elements xs.items) [
        | None ↦ unexpected m s
        | Some [] ↦ unexpected m s
        | Some (e ∷ es) ↦ Ok (paren_expr (spanned m start s) (joined (e ∷ es) (span open_ (last_end xs.items))), s)
      ])

  unfoldable pub group_by : Code → ℕ → Read S Tree
  group_by c l s = elements_by (with_in c) false right_paren_kind (past m s) >>= λ xs. group_end c l (here m s) (here m (past m s)) xs.0 xs.1

  -- a name, which may be the one parameter of an arrow
  unfoldable pub ident_end : Code → ℕ → Span → List ℕ → Read S Tree
  ident_end c l place n s = if arrows_at l s then arrow_by c place.lo.0 false (binding_ident place (ident place n) ∷ []) s else Ok (ident place n, s)

  -- arguments, after their parenthesis
  unfoldable pub arguments_by : Code → Read S (List Tree)
  arguments_by c s = elements_by c false right_paren_kind s >>= λ xs. Ok (xs.0.items, xs.1)

  -- `async` and a parenthesis: a call, or an arrow's parameters
  unfoldable pub async_group : Code → ℕ → Span → List ℕ → Read S Tree
  async_group c l place n s = elements_by (with_in c) false right_paren_kind (past m s) >>= λ xs.
      if heads_params l xs.0 xs.1 && not (brk (input m s)) then (placed (bound m xs.1) (params_of xs.1.commas xs.0) >>= λ ps. arrow_by c place.lo.0 true ps xs.1)
      else Ok (call_expr (spanned m place.lo.0 xs.1) (ident place n) (pack xs.0.items), xs.1)

  -- what follows `function`, from the keyword on
  unfoldable pub function_expr_name : Code → ℕ → Bool → Bool → Read S Tree
  function_expr_name c start generator async s =
      if at m left_paren_kind s then (function_by c start generator async s >>= λ f. Ok (fn_expr (spanned m start f.1) absent f.0, f.1))
      else (name m (by generator async c) s >>= λ n. function_by c start generator async n.1 >>= λ f. Ok (fn_expr (spanned m start f.1) (ident (first s) n.0) f.0, f.1))

  unfoldable pub function_expr_by : Code → ℕ → Bool → Read S Tree
  function_expr_by c start async s = eat_word m c function_kind s >>= λ r. star r >>= λ g. function_expr_name c start g.0 async g.1

  -- a name that is the one parameter of an arrow behind `async`, all on one line
  abbrev pub is_async_param : Code → ℕ → State S → Bool
  is_async_param c l s = is_name m c s && ((not (brk (input m s)) && (kind2 (input m s) == arrow_kind) && not (brk2 (input m s))) && nat_le l assignment_level)

  -- the word `async`: of a function, of an arrow, or a name. Before `function` with an escape it is a name.
  unfoldable pub async_by : Code → ℕ → Read S Tree
  async_by c l s =
      if (at m function_kind (past m s) && not (brk (input m (past m s)))) && not (barred c.context (input m (past m s))) then function_expr_by c (here m s) true (past m s)
      else (if is_async_param c l (past m s) then (name m c (past m s) >>= λ n.
      arrow_by c (here m s) true (binding_ident (first (past m s)) (ident (first (past m s)) n.0) ∷ []) n.1)
      else (if at m left_paren_kind (past m s) && not (brk (input m (past m s))) then async_group c l (first s) (text (input m s)) (past m s)
      else ident_end c l (first s) (text (input m s)) (past m s)))

  unfoldable pub class_expr_by : Code → Read S Tree
  class_expr_by c s =
      eat_word m c class_kind s >>= λ r.
      if is_name m (turned_strict c) r && not (at m left_brace_kind r) then (name m (turned_strict c) r >>= λ n. inner.class_tail (turned_strict (with_in c)) (here m s) n.1 >>= λ k. Ok (class_expr (spanned m (here m s) k.1) (ident (first r) n.0) k.0, k.1))
      else (inner.class_tail (turned_strict (with_in c)) (here m s) r >>= λ k. Ok (class_expr (spanned m (here m s) k.1) absent k.0, k.1))

  -- ---- prefixes

  unfoldable pub new_end : Code → ℕ → Tree → Read S Tree
  new_end c start f s =
      if at m left_paren_kind s && nat_le member_level (level f) then (arguments_by c (past m s) >>= λ xs. Ok (new_expr (spanned m start xs.1) f (list (pack xs.0)), xs.1))
      else (if (nat_le member_level (level f) || (level f == new_level)) && nat_lt (goes_expr c other_end (input m s)) call_level then Ok (new_expr (spanned m start s) f absent, s) else unexpected m s)

  -- the callee of `new` (13.3): `async` before a parenthesis is a name here, and never starts a call or an arrow
  unfoldable pub callee_by : Code → Read S Tree
  callee_by c s =
      if at m async_kind s && (kind2 (input m s) == left_paren_kind) then (name m c s >>= λ n. Ok (ident (first s) n.0, n.1))
      else inner.expr c member_level s

  unfoldable pub new_by : Code → Read S Tree
  new_by c s =
      eat_word m c new_kind s >>= λ r.
      if at m dot_kind r then (eat_word m c target_kind (past m r) >>= λ t. Ok (meta_prop_expr (spanned m (here m s) t) new_kind, t))
      else (callee_by c r >>= λ f. new_end c (here m s) f.0 f.1)

  unfoldable pub super_end : Code → Span → Read S Tree
  super_end c place s =
      if at m left_paren_kind s then (arguments_by c (past m s) >>= λ xs. Ok (call_expr (spanned m place.lo.0 xs.1) (super place) (pack xs.0), xs.1))
      else (if at m left_bracket_kind s then (computed_by c expression_level s >>= λ k. Ok (super_prop_expr (spanned m place.lo.0 k.1) (super place) k.0, k.1))
      else (eat m dot_kind s >>= λ d. any_word m d >>= λ n. Ok (super_prop_expr (spanned m place.lo.0 n.1) (super place) (ident_name (first d) n.0), n.1)))

  abbrev pub fits_import : Code → Elements → Bool
  fits_import c xs = elim xs.items [
    | [] ↦ false
    | x ∷ [] ↦ not (is_spread x) && (c.syntax.import_attributes || not xs.comma)
    | x ∷ (y ∷ []) ↦ c.syntax.import_attributes && (not (is_spread x) && not (is_spread y))
    | x ∷ (y ∷ (z ∷ zs)) ↦ false
  ]

  unfoldable pub import_by : Code → Read S Tree
  import_by c s =
      eat_word m c import_kind s >>= λ r.
      if at m dot_kind r then (eat_word m c meta_kind (past m r) >>= λ t. Ok (meta_prop_expr (spanned m (here m s) t) import_kind, t))
      else (eat m left_paren_kind r >>= λ o. elements_by c false right_paren_kind o >>= λ xs.
      if fits_import c xs.0 then Ok (call_expr (spanned m (here m s) xs.1) (import (first s)) (pack xs.0.items), xs.1) else unexpected m xs.1)

  unfoldable pub unary_by : Code → Read S Tree
  unary_by c s = eat_word m c (kind (input m s)) s >>= λ r. inner.expr c unary_level r >>= λ e. Ok (unary_expr (spanned m (here m s) e.1) (kind (input m s)) e.0, e.1)

  unfoldable pub update_by : Code → Read S Tree
  update_by c s = inner.expr c unary_level (past m s) >>= λ e. Ok (update_expr (spanned m (here m s) e.1) (kind (input m s)) true e.0, e.1)

  unfoldable pub await_by : Code → Read S Tree
  await_by c s = eat_word m c await_kind s >>= λ r. inner.expr c unary_level r >>= λ e. Ok (await_expr (spanned m (here m s) e.1) e.0, e.1)

  -- what may start an operand: the tokens that end an expression may not
  abbrev pub ends_yield : ℕ → Bool
  ends_yield k = (k == 0) || ((k == right_paren_kind) || ((k == right_bracket_kind) || ((k == right_brace_kind) || ((k == comma_kind) || ((k == semicolon_kind) || ((k == colon_kind) || (k == in_kind)))))))

  unfoldable pub yield_end : Code → ℕ → Read S Tree
  yield_end c start r =
      if brk (input m r) || ends_yield (kind (input m r)) then Ok (yield_expr (spanned m start r) absent false, r)
      else (if at m mul_kind r then (inner.expr c assignment_level (past m r) >>= λ e. Ok (yield_expr (spanned m start e.1) e.0 true, e.1))
      else (inner.expr c assignment_level r >>= λ e. Ok (yield_expr (spanned m start e.1) e.0 false, e.1)))

  unfoldable pub yield_by : Code → Read S Tree
  yield_by c s = eat_word m c yield_kind s >>= λ r. yield_end c (here m s) r

  unfoldable pub word_by : Code → ℕ → Read S Tree
  word_by c l s =
      if at m async_kind s then async_by c l s
      else (name m c s >>= λ n. ident_end c l (first s) n.0 n.1)

  abbrev pub fixed : Code → (Span → Tree) → Read S Tree
  fixed c f s = eat_word m c (kind (input m s)) s >>= λ r. Ok (f (spanned m (here m s) r), r)

  unfoldable pub keyword_by : Code → ℕ → Read S Tree
  keyword_by c l s =
      if at m this_kind s then fixed c this_expr s
      else (if at m null_kind s then fixed c null_lit s
      else (if at m true_kind s then fixed c (λ p. bool_lit p true) s
      else (if at m false_kind s then fixed c (λ p. bool_lit p false) s
      else (if at m function_kind s then function_expr_by c (here m s) false s
      else (if at m class_kind s then class_expr_by c s
      else (if at m new_kind s then new_by c s
      else (if at m super_kind s then (eat_word m c super_kind s >>= λ r. super_end c (first s) r)
      else (if at m import_kind s then import_by c s
      else (if is_unary (kind (input m s)) then unary_by c s
      else (if at m await_kind s && c.context.in_async then await_by c s
      else (if at m yield_kind s && c.context.in_generator then yield_by c s
      else word_by c l s)))))))))))

  unfoldable pub prefix_by : Code → ℕ → Read S Tree
  prefix_by c l s =
      if is_word (kind (input m s)) then keyword_by c l s
      else (if at m left_paren_kind s then group_by c l s
      else (if at m left_bracket_kind s then array_by c s
      else (if at m left_brace_kind s then object_by c s
      else (if at m back_quote_kind s then template_by c false s
      else (if is_unary (kind (input m s)) then unary_by c s
      else (if between plus_plus_kind minus_minus_kind (kind (input m s)) then update_by c s
      else literal_by s))))))

  -- ---- what goes on

  unfoldable pub member_name : Bool → Read S Tree
  member_name may_private s = if at m hash_kind s then (if may_private then private_by s else unexpected m s) else (any_word m s >>= λ n. Ok (ident_name (first s) n.0, n.1))

  -- a member, or a call, by whether it goes on a chain
  abbrev pub on_chain : Bool → Span → Tree → Tree
  on_chain chain s t = if chain then opt_chain_expr s false t else t

  unfoldable pub member_by : Code → ℕ → Tree → Read S Tree
  member_by c start t s = member_name true (past m s) >>= λ k. Ok (on_chain (is_chain t) (spanned m start k.1) (member_expr (spanned m start k.1) t k.0), k.1)

  unfoldable pub index_by : Code → ℕ → Tree → Read S Tree
  index_by c start t s = computed_by c expression_level s >>= λ k. Ok (on_chain (is_chain t) (spanned m start k.1) (member_expr (spanned m start k.1) t k.0), k.1)

  abbrev pub call_tree : Span → Tree → List Tree → Tree
  call_tree s t xs = if is_chain t then opt_chain_expr s false (opt_call s t (pack xs)) else call_expr s t (pack xs)

  unfoldable pub call_by : Code → ℕ → Tree → Read S Tree
  call_by c start t s = arguments_by c (past m s) >>= λ xs. Ok (call_tree (spanned m start xs.1) t xs.0, xs.1)

  -- after `?` and `.`
  unfoldable pub chain_by : Code → ℕ → Tree → Read S Tree
  chain_by c start t s =
      if at m left_paren_kind s then (arguments_by c (past m s) >>= λ xs. Ok (opt_chain_expr (spanned m start xs.1) true (opt_call (spanned m start xs.1) t (pack xs.0)), xs.1))
      else (if at m left_bracket_kind s then (computed_by c expression_level s >>= λ k. Ok (opt_chain_expr (spanned m start k.1) true (member_expr (spanned m start k.1) t k.0), k.1))
      else (member_name true s >>= λ k. Ok (opt_chain_expr (spanned m start k.1) true (member_expr (spanned m start k.1) t k.0), k.1)))

  unfoldable pub cond_by : Code → ℕ → Tree → Read S Tree
  cond_by c start t s =
      inner.expr (with_in c) assignment_level (past m s) >>= λ a. eat m colon_kind a.1 >>= λ r. inner.expr c assignment_level r >>= λ b.
      Ok (cond_expr (spanned m start b.1) t a.0 b.0, b.1)

  unfoldable pub assign_by : Code → ℕ → Tree → Read S Tree
  assign_by c start t s = placed (bound m s) (to_target (kind (input m s)) s.commas t) >>= λ p. inner.expr c assignment_level (past m s) >>= λ e. Ok (assign_expr (spanned m start e.1) (kind (input m s)) p e.0, e.1)

  unfoldable pub binary_by : Code → ℕ → Tree → Read S Tree
  binary_by c start t s = eat_word m c (kind (input m s)) s >>= λ r. inner.expr c (right_level (kind (input m s))) r >>= λ e. Ok (bin_expr (spanned m start e.1) (kind (input m s)) t e.0, e.1)

  -- one operator after what was read
  unfoldable pub step_by : Code → ℕ → Tree → Read S Tree
  step_by c start t s =
      if at m comma_kind s then (inner.expr c assignment_level (past m s) >>= λ e. Ok (extended t e.0 (spanned m start e.1), e.1))
      else (if is_assign_op (kind (input m s)) then assign_by c start t s
      else (if at m question_mark_kind s && (kind2 (input m s) == dot_kind) then (if nat_le call_level (level t) then chain_by c start t (past m (past m s)) else unexpected m s)
      else (if at m question_mark_kind s then (if nat_le coalesce_level (level t) then cond_by c start t s else unexpected m s)
      else (if operates c (kind (input m s)) then (if fits_left (kind (input m s)) t then binary_by c start t s else unexpected m s)
      else (if between plus_plus_kind minus_minus_kind (kind (input m s)) then (if nat_le new_level (level t) && not (brk (input m s)) then Ok (update_expr (spanned m start (past m s)) (kind (input m s)) false t, past m s) else unexpected m s)
      else (if not (nat_le call_level (level t)) then unexpected m s
      else (if at m left_paren_kind s then call_by c start t s
      else (if at m left_bracket_kind s then index_by c start t s
      else (if at m dot_kind s then member_by c start t s
      else (if at m back_quote_kind s && not (is_chain t) then (template_by c true s >>= λ q. Ok (tagged_tpl (spanned m start q.1) t q.0, q.1))
      else unexpected m s))))))))))

  unfoldable pub loop_step : Code → ℕ → ℕ → Tree → Read S (Step Tree)
  loop_step c l start t s =
      if nat_lt (goes_expr c (ends t) (input m s)) l then Ok (finished t, s)
      else (step_by c start t s >>= λ x. Ok (go_on x.0, x.1))

  -- a level asked for, or a bare `new` as the callee of another
  unfoldable pub loop_by : Code → ℕ → ℕ → Tree → Read S Tree
  loop_by c l start t s =
      if nat_le l (level t) then iterate (bound m) (loop_step c l start) t s
      else (if (level t == new_level) && (l == member_level) then Ok (t, s) else unexpected m s)

  -- `#x in`, where a relation may stand
  unfoldable pub private_in : Code → ℕ → Read S Tree
  private_in c l s = private_by s >>= λ p. if at m in_kind p.1 && (has_in c && nat_le l (binary_level in_kind)) then (binary_by c (here m s) p.0 p.1 >>= λ t. loop_by c l (here m s) t.0 t.1) else unexpected m p.1

  unfoldable pub expr_from : Code → ℕ → Read S Tree
  expr_from c l s = if at m hash_kind s then private_in c l s else (prefix_by c l s >>= λ t. loop_by c l (here m s) t.0 t.1)

  -- an expression of a level or a tighter one
  unfoldable pub expr_by : Code → ℕ → Read S Tree
  expr_by c l s = expr_from c l (operand m s)
