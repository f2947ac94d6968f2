-- The layouts of lists of trees of which each can be printed.
use Rattle.std.proofs.Common.{Bool, true}
use Rattle.tree_spec.specs.Tree.{Tree, Trees, none, more}
use Rattle.grammar_spec.specs.Children.{IsEmpty}
use Rattle.grammar_spec.specs.Grammar.{children}
use Rattle.print_layout_spec.specs.declared.look.Look.{Look}
use Rattle.print_layout_spec.specs.declared.look.Stand.{Stand}
use Rattle.print_layout_spec.specs.declared.look.Stand.TheVariants.{Alone}
use Rattle.print_layout_spec.specs.Looks.{Laid}
use Rattle.print_layout_spec.specs.Layout.{laid, statements, rows, separated, each, import_heads, named_items, first_namespace, template, comma, comma_line}
use Rattle.print_layout_laws.proofs.Fine.{Fine, ◌▸◌, ok, token, empty, when_fine, if_fine, maybe, comma_fine, closing_fine, quasi_fine}

module _ (look : Look) where
  -- a tree that can be printed, wherever it stands
  abbrev pub Good : Tree → Type 0
  Good t = (s : Stand) → Fine (laid look s t)

  abbrev pub AllGood : Trees → Type 0
  AllGood none = Unit {0}
  AllGood (more t ts) = Good t × AllGood ts

  pub statements_fine : (ts : Trees) → AllGood ts → Fine (statements look ts)
  statements_fine none a = empty
  statements_fine (more t ts) a = a.0 Alone ▸ closing_fine look t ▸ statements_fine ts a.1

  pub rows_fine : (closed : Bool) (ts : Trees) → AllGood ts → Fine (rows look closed ts)
  rows_fine closed none a = empty
  rows_fine closed (more t none) a = a.0 Alone ▸ when_fine _ (closing_fine look t)
  rows_fine closed (more t (more u ts)) a = a.0 Alone ▸ when_fine _ (closing_fine look t) ▸ maybe _ _ ▸ rows_fine closed (more u ts) a.1

  separated_fine : {between : Laid} → Fine between → (ts : Trees) → AllGood ts → Fine (separated look between ts)
  separated_fine x none a = empty
  separated_fine x (more t none) a = a.0 Alone
  separated_fine x (more t (more u ts)) a = a.0 Alone ▸ x ▸ separated_fine x (more u ts) a.1

  pub commas_fine : (ts : Trees) → AllGood ts → Fine (separated look (comma look) ts)
  commas_fine ts a = separated_fine (comma_fine look) ts a

  pub lines_fine : (ts : Trees) → AllGood ts → Fine (separated look (comma_line look) ts)
  lines_fine ts a = separated_fine (ok ▸ maybe _ _) ts a

  -- the grammar has no decorators
  pub each_fine : (ts : Trees) → IsEmpty (children ts) → Fine (each look ts)
  each_fine none h = empty
  each_fine (more t ts) h = absurd h

  pub import_heads_fine : (seen : Bool) (ts : Trees) → AllGood ts → Fine (import_heads look seen ts)
  import_heads_fine seen none a = empty
  import_heads_fine seen (more t ts) a =
      if_fine _ (a.0 Alone ▸ import_heads_fine true ts a.1)
      (if_fine _ (import_heads_fine seen ts a.1) (when_fine _ (comma_fine look) ▸ a.0 Alone ▸ import_heads_fine seen ts a.1))

  pub named_items_fine : (stands : Tree → Bool) (started : Bool) (ts : Trees) → AllGood ts → Fine (named_items look stands started ts)
  named_items_fine stands started none a = empty
  named_items_fine stands started (more t ts) a = if_fine _ (when_fine _ (comma_fine look) ▸ a.0 Alone ▸ named_items_fine stands true ts a.1) (named_items_fine stands started ts a.1)

  pub first_namespace_fine : (ts : Trees) → AllGood ts → Fine (first_namespace look ts)
  first_namespace_fine none a = empty
  first_namespace_fine (more t ts) a = if_fine _ (a.0 Alone) (first_namespace_fine ts a.1)

  pub template_fine : (s : Stand) (exprs quasis : Trees) → AllGood exprs → Fine (template look s exprs quasis)
  template_fine s none none a = empty
  template_fine s none (more q none) a = quasi_fine look s q
  template_fine s none (more q (more r qs)) a = empty
  template_fine s (more e es) none a = empty
  template_fine s (more e es) (more q none) a = quasi_fine look s q
  template_fine s (more e es) (more q (more r qs)) a = quasi_fine look s q ▸ token ▸ a.0 Alone ▸ ok ▸ template_fine s es (more r qs) a.1
