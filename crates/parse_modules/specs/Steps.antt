-- Parts of exports, by the token that starts them.
use Rattle.std.specs.Prelude.{ℕ, Bool, if◌then◌else◌, Ok}
use Rattle.base_token.specs.Kinds.{as_kind, class_kind, default_kind, from_kind, left_brace_kind, mul_kind}
use Rattle.tree_spec.specs.Tree.{Tree, none, more, named_export, export_namespace_specifier, export_decl, export_default_decl, export_default_expr}
use Rattle.grammar_spec.specs.Tokens.Input.{Code, in_list}
use Rattle.grammar_spec.specs.Tokens.Operators.{assignment_level}
use Rattle.grammar_spec.specs.Tokens.Shape.{ends, is_exportable}
use Rattle.grammar_spec.specs.Reader.Source.{unexpected, ◌>>=◌, Stream, Read, Inner, operand, spanned, at, eat_word, end_of}
use Rattle.grammar_spec.specs.Reader.Expressions.{function_expr_by, class_expr_by}
use Rattle.grammar_spec.specs.Reader.Modules.{export_default, export_name_by, export_list, export_star, source_by, starts_declaration}

module _ {S : Type 0} (m : Stream S) (inner : Inner S) where
  -- `as` a name for what another module exports, after the star (16.2.3)
  unfoldable pub namespace_by : Code → ℕ → ℕ → Read S Tree
  namespace_by c start star r = eat_word m c as_kind r >>= λ a. export_name_by m inner a >>= λ n. eat_word m c from_kind n.1 >>= λ f. source_by m inner c f >>= λ x.
      Ok (named_export (spanned m start x.1) (more (export_namespace_specifier (spanned m star n.1) n.0) none) x.0.src x.0.with_, x.1)

  -- a declaration (16.2.3)
  unfoldable pub decl_by : Code → ℕ → Read S Tree
  decl_by c start r = inner.stmt (in_list c) r >>= λ d. if is_exportable d.0 then Ok (export_decl (spanned m start d.1) d.0, d.1) else unexpected m d.1

  -- a function as the default export, which begins at its own start (16.2.3)
  abbrev pub default_fn_by : Code → ℕ → ℕ → Bool → Read S Tree
  default_fn_by c start begin async s = function_expr_by m inner c begin async s >>= λ d. Ok (export_default_decl (spanned m start d.1) d.0, d.1)

  -- an expression as the default export (16.2.3)
  abbrev pub default_expr_by : Code → ℕ → Read S Tree
  default_expr_by c start s = inner.expr c assignment_level s >>= λ e. end_of m c (ends e.0) e.1 >>= λ r. Ok (export_default_expr (spanned m start r) e.0, r)

  -- a class or an expression as the default export (16.2.3)
  abbrev pub default_other_by : Code → ℕ → Read S Tree
  default_other_by c start s = if at m class_kind s then (class_expr_by m inner c s >>= λ d. Ok (export_default_decl (spanned m start d.1) d.0, d.1)) else default_expr_by c start s

  -- a star, names in braces, or a declaration (16.2.3)
  unfoldable pub listed_by : Code → ℕ → Read S Tree
  listed_by c start r =
      if at m mul_kind r then export_star m inner c start r
      else (if at m left_brace_kind r then export_list m inner c start r
      else (if starts_declaration m inner (in_list c) r then decl_by c start r
      else unexpected m r))

  -- what follows `export` (16.2.3)
  unfoldable pub after_by : Code → ℕ → Read S Tree
  after_by c start r = if at m default_kind r then (eat_word m c default_kind r >>= λ d. export_default m inner c start (operand m d)) else listed_by c start r
