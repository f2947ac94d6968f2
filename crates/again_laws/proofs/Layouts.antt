-- How specifiers with two names are laid out, and what the layout asks of blocks.
use Rattle.std.proofs.Common.{◌≡◌, true, false, codes, refl, sym, true≢false}
use Rattle.base_token.specs.declared.place.Span.{Span}
use Rattle.tree_spec.specs.Tree.{Tree, absent, block_stmt, export_named_specifier, import_named_specifier}
use Rattle.grammar_spec.specs.Tokens.Shape.{is_absent}
use Rattle.print_layout_spec.specs.Layout.{is_block, is_variables, laid, word}
use Rattle.print_layout_spec.specs.Looks.{blank, end, start, ◌·◌}
use Rattle.print_layout_spec.specs.declared.look.Look.{Look}
use Rattle.print_layout_spec.specs.declared.look.Stand.{Stand}
use Rattle.print_layout_spec.specs.declared.look.Stand.TheVariants.{Alone, Key}

pub laid_import : (look : Look) (st : Stand) (s : Span) (l i : Tree) → is_absent i ≡ false → laid look st (import_named_specifier s l i) ≡ (start s · laid look Key i · blank · word (codes "as") · blank · laid look Alone l · end s)
laid_import look st s l absent e = absurd (true≢false e)
laid_import look st s l _ e = refl

pub laid_export : (look : Look) (st : Stand) (s : Span) (o e : Tree) → is_absent e ≡ false → laid look st (export_named_specifier s o e) ≡ (start s · laid look Key o · blank · word (codes "as") · blank · laid look Key e · end s)
laid_export look st s o absent e = absurd (true≢false e)
laid_export look st s o _ e = refl

pub block_no_variables : (t : Tree) → is_block t ≡ true → is_variables t ≡ false
block_no_variables (block_stmt s ss) h = refl
block_no_variables _ h = absurd (true≢false (sym h))
