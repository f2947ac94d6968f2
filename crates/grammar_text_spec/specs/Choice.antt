-- Which of script and module a text is read as where neither is said (own): a module where that is clean and only a module can be meant.
use Rattle.std.specs.Prelude.{◌≡◌, ◌⊎◌, ℕ, Bool, true, false, ◌||◌, List, [], ◌∷◌}
use Rattle.tree_spec.specs.Tree.{Tree, function, arrow_expr, await_expr, for_of_stmt, using_decl, import_decl, export_decl, named_export, export_default_decl, export_default_expr, export_all}
use Rattle.tree_spec.specs.Folds.{fold}
use Rattle.grammar_text_spec.specs.Text.{Setting, TreeSpells}

abbrev pub some_true : List Bool → Bool
some_true [] = false
some_true (b ∷ bs) = b || some_true bs

abbrev pub in_some : List (List Bool) → Bool
in_some [] = false
in_some (bs ∷ kids) = some_true bs || in_some kids

-- Whether a tree tells that it is a module: an import or export, or outside functions an `await`, an awaiting `for` or an awaiting `using`.
-- No constructor and no getter or setter of an object is asynchronous, so an `await` in one, outside nested functions, stands in its key.
abbrev pub telling : Tree → List (List Bool) → Bool
telling (import_decl s xs f w) kids = true
telling (export_decl s d) kids = true
telling (named_export s xs f w) kids = true
telling (export_default_decl s d) kids = true
telling (export_default_expr s e) kids = true
telling (export_all s f w) kids = true
telling (await_expr s a) kids = true
telling (for_of_stmt s true l r b) kids = true
telling (using_decl s true ds) kids = true
telling (function s ps ds b g a) kids = false
telling (arrow_expr s ps b a) kids = false
telling t kids = in_some kids

unfoldable pub tells_module : Tree → Bool
tells_module t = fold telling t

-- The text is read so: as a module that tells it, else as a script.
abbrev pub TreeChosen : Setting → Tree → List ℕ → Type 0
TreeChosen x t text = (TreeSpells x true t text × (tells_module t ≡ true))
    ⊎ (((u : Tree) → TreeSpells x true u text → tells_module u ≡ true → ⊥) × TreeSpells x false t text)
