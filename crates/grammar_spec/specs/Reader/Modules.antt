-- Reading scripts and modules (ECMA-262, clause 16).
use Rattle.std.specs.Prelude.{ℕ, Bool, true, false, not, ◌&&◌, ◌||◌, ◌==◌, if◌then◌else◌, List, [], ◌∷◌, ◌++◌, Option, Some, None, Ok}
use Rattle.tree_spec.specs.Span.{Span}
use Rattle.tree_spec.specs.Kinds.{left_paren_kind, dot_kind, left_brace_kind, right_brace_kind, comma_kind, mul_kind, str_kind, shebang_kind, default_kind, function_kind, with_kind, class_kind, export_kind, import_kind, as_kind, assert_kind, from_kind}
use Rattle.tree_spec.specs.Tokens.{Content, Line}
use Rattle.tree_spec.specs.Tree.{Tree, Trees, none, more, pack, script, es_module, import_decl, export_decl, named_export, export_default_decl, export_default_expr, export_all, import_named_specifier, import_default_specifier, import_star_as_specifier, export_namespace_specifier, export_named_specifier, ident, absent}
use Rattle.grammar_spec.specs.Tokens.Input.{Code, kind, kind2, brk, content, is_word, in_list, turned_strict}
use Rattle.grammar_spec.specs.Tokens.Operators.{assignment_level, exports_end, source_end, plain_end}
use Rattle.grammar_spec.specs.Tokens.Shape.{ends, is_use_strict, is_directive, is_attributes, is_exportable}
use Rattle.grammar_spec.specs.Reader.Source.{placed, unexpected, ◌>>=◌, Stream, State, Read, input, past, operand, retold, bound, here, spanned, at, ended, eat, eat_word, name, any_word, end_of, Step, go_on, finished, iterate, Inner}
use Rattle.grammar_spec.specs.Reader.Expressions.{first, literal_by, object_by, function_expr_by, class_expr_by}
use Rattle.grammar_spec.specs.Reader.Statements.{Body, starts_async, starts_variables}

-- a module's name and its attributes
pub record From : Type 0 where
  pub src : Tree
  pub with_ : Tree

module _ {S : Type 0} (m : Stream S) (inner : Inner S) where
  unfoldable pub string_by : Read S Tree
  string_by s = if at m str_kind s then literal_by m inner s else unexpected m s

  -- the name of an export: any word, or a string
  unfoldable pub export_name_by : Read S Tree
  export_name_by s = if at m str_kind s then literal_by m inner s else (any_word m s >>= λ n. Ok (ident (first m inner s) n.0, n.1))

  unfoldable pub local_by : Code → Read S Tree
  local_by c s = name m c s >>= λ n. Ok (ident (first m inner s) n.0, n.1)

  unfoldable pub attributes_by : Code → Read S Tree
  attributes_by c s = if at m left_brace_kind s then (object_by m inner c s >>= λ o. if is_attributes o.0 then Ok o else unexpected m o.1) else unexpected m s

  unfoldable pub source_by : Code → Read S From
  source_by c s = string_by s >>= λ f.
      if c.syntax.import_attributes && (at m with_kind f.1 || (at m assert_kind f.1 && not (brk (input m f.1)))) then (eat_word m c (kind (input m f.1)) f.1 >>= λ w. attributes_by c w >>= λ o. end_of m c plain_end o.1 >>= λ e. Ok (record { src = f.0; with_ = o.0 }, e))
      else (end_of m c source_end f.1 >>= λ e. Ok (record { src = f.0; with_ = absent }, e))

  -- ---- imports

  -- in braces: a binding, or a name `as` one
  unfoldable pub named_import : Code → Read S Tree
  named_import c s = export_name_by s >>= λ n.
      if at m as_kind n.1 then (eat_word m c as_kind n.1 >>= λ a. local_by c a >>= λ l. Ok (import_named_specifier (spanned m (here m s) l.1) l.0 n.0, l.1))
      else (placed (bound m n.1) (local_by c s) >>= λ l. Ok (import_named_specifier (spanned m (here m s) l.1) l.0 absent, l.1))

  unfoldable pub named_export_item : Code → Read S Tree
  named_export_item c s = export_name_by s >>= λ n.
      if at m as_kind n.1 then (eat_word m c as_kind n.1 >>= λ a. export_name_by a >>= λ e. Ok (export_named_specifier (spanned m (here m s) e.1) n.0 e.0, e.1))
      else Ok (export_named_specifier (spanned m (here m s) n.1) n.0 absent, n.1)

  unfoldable pub specifier_step : Bool → Code → List Tree → Read S (Step (List Tree))
  specifier_step imports c xs s =
      if at m right_brace_kind s then Ok (finished xs, past m s)
      else ((if imports then named_import c s else named_export_item c s) >>= λ x.
      if at m comma_kind x.1 then Ok (go_on (xs ++ x.0 ∷ []), past m x.1) else (eat m right_brace_kind x.1 >>= λ r. Ok (finished (xs ++ x.0 ∷ []), r)))

  -- after `{`
  unfoldable pub specifiers_by : Bool → Code → Read S (List Tree)
  specifiers_by imports c s = iterate (bound m) (specifier_step imports c) [] s

  unfoldable pub star_import : Code → Read S Tree
  star_import c s = eat m mul_kind s >>= λ r. eat_word m c as_kind r >>= λ a. local_by c a >>= λ l. Ok (import_star_as_specifier (spanned m (here m s) l.1) l.0, l.1)

  unfoldable pub import_end : Code → ℕ → List Tree → Read S Tree
  import_end c start xs s = eat_word m c from_kind s >>= λ r. source_by c r >>= λ f. Ok (import_decl (spanned m start f.1) (pack xs) f.0.src f.0.with_, f.1)

  -- a star or a list, after what stands before them
  unfoldable pub import_rest : Code → ℕ → List Tree → Read S Tree
  import_rest c start xs s =
      if at m mul_kind s then (star_import c s >>= λ x. import_end c start (xs ++ x.0 ∷ []) x.1)
      else (eat m left_brace_kind s >>= λ r. specifiers_by true c r >>= λ ys. import_end c start (xs ++ ys.0) ys.1)

  unfoldable pub import_default : Code → ℕ → Read S Tree
  import_default c start s = local_by c s >>= λ l.
      if at m comma_kind l.1 then import_rest c start (import_default_specifier (first m inner s) l.0 ∷ []) (past m l.1)
      else import_end c start (import_default_specifier (first m inner s) l.0 ∷ []) l.1

  unfoldable pub import_decl_by : Code → Read S Tree
  import_decl_by c s = eat_word m c import_kind s >>= λ r.
      if at m str_kind r then (source_by c r >>= λ f. Ok (import_decl (spanned m (here m s) f.1) none f.0.src f.0.with_, f.1))
      else (if is_word (kind (input m r)) then import_default c (here m s) r else import_rest c (here m s) [] r)

  -- ---- exports

  unfoldable pub export_default : Code → ℕ → Read S Tree
  export_default c start s =
      if at m function_kind s then (function_expr_by m inner c (here m s) false s >>= λ d. Ok (export_default_decl (spanned m start d.1) d.0, d.1))
      else (if starts_async m inner s then (function_expr_by m inner c (here m s) true (past m s) >>= λ d. Ok (export_default_decl (spanned m start d.1) d.0, d.1))
      else (if at m class_kind s then (class_expr_by m inner c s >>= λ d. Ok (export_default_decl (spanned m start d.1) d.0, d.1))
      else (inner.expr c assignment_level s >>= λ e. end_of m c (ends e.0) e.1 >>= λ r. Ok (export_default_expr (spanned m start r) e.0, r))))

  unfoldable pub export_star : Code → ℕ → Read S Tree
  export_star c start s = eat m mul_kind s >>= λ r.
      if at m as_kind r then (eat_word m c as_kind r >>= λ a. export_name_by a >>= λ n. eat_word m c from_kind n.1 >>= λ f. source_by c f >>= λ x.
      Ok (named_export (spanned m start x.1) (more (export_namespace_specifier (spanned m (here m s) n.1) n.0) none) x.0.src x.0.with_, x.1))
      else (eat_word m c from_kind r >>= λ f. source_by c f >>= λ x. Ok (export_all (spanned m start x.1) x.0.src x.0.with_, x.1))

  unfoldable pub export_list : Code → ℕ → Read S Tree
  export_list c start s = eat m left_brace_kind s >>= λ r. specifiers_by false c r >>= λ xs.
      if at m from_kind xs.1 then (eat_word m c from_kind xs.1 >>= λ f. source_by c f >>= λ x. Ok (named_export (spanned m start x.1) (pack xs.0) x.0.src x.0.with_, x.1))
      else (end_of m c exports_end xs.1 >>= λ e. Ok (named_export (spanned m start e) (pack xs.0) absent absent, e))

  abbrev pub starts_declaration : Code → State S → Bool
  starts_declaration c s = at m function_kind s || (at m class_kind s || (starts_async m inner s || starts_variables m inner c s))

  unfoldable pub export_by : Code → Read S Tree
  export_by c s = eat_word m c export_kind s >>= λ r.
      if at m default_kind r then (eat_word m c default_kind r >>= λ d. export_default c (here m s) (operand m d))
      else (if at m mul_kind r then export_star c (here m s) r
      else (if at m left_brace_kind r then export_list c (here m s) r
      else (if starts_declaration (in_list c) r then (inner.stmt (in_list c) r >>= λ d. if is_exportable d.0 then Ok (export_decl (spanned m (here m s) d.1) d.0, d.1) else unexpected m d.1)
      else unexpected m r)))

  -- ---- programs

  -- `import` starts a declaration, but no call and no `import.meta`
  abbrev pub starts_import : State S → Bool
  starts_import s = at m import_kind s && not ((kind2 (input m s) == left_paren_kind) || (kind2 (input m s) == dot_kind))

  unfoldable pub item_by : Bool → Code → Read S Tree
  item_by modules c s =
      if starts_import s then (if modules then import_decl_by c s else unexpected m s)
      else (if at m export_kind s then (if modules then export_by c s else unexpected m s)
      else inner.stmt c s)

  unfoldable pub program_item : Bool → Body → Read S (Step Body)
  program_item modules b s = item_by modules (in_list b.code) s >>= λ t.
      if b.starts && is_use_strict t.0 then Ok (go_on (record { items = b.items ++ t.0 ∷ []; code = turned_strict b.code; starts = true }), retold m (turned_strict b.code).context t.1)
      else Ok (go_on (record { items = b.items ++ t.0 ∷ []; code = b.code; starts = b.starts && is_directive t.0 }), t.1)

  unfoldable pub program_step : Bool → Body → Read S (Step Body)
  program_step modules b s = if ended m s then Ok (finished b, s) else program_item modules b (operand m s)

  abbrev pub line_of : Content → Option (List ℕ)
  line_of (Line l) = Some l
  line_of _ = None

  abbrev pub program_tree : Bool → Span → Trees → Option (List ℕ) → Tree
  program_tree modules p ss l = if modules then es_module p ss l else script p ss l

  unfoldable pub program_rest : Bool → Code → ℕ → Option (List ℕ) → Read S Tree
  program_rest modules c start l s = iterate (bound m) (program_step modules) (record { items = []; code = c; starts = true }) s >>= λ b.
      Ok (program_tree modules (spanned m start b.1) (pack b.0.items) l, b.1)

  unfoldable pub program_by : Bool → Code → Read S Tree
  program_by modules c s =
      if at m shebang_kind s then elim (line_of (content (input m s))) [ None ↦ unexpected m s | Some l ↦ program_rest modules c (here m s) (Some l) (past m s) ] else program_rest modules c (here m s) None s
