-- Programs: what is written of a tree that was read is tiled by tokens that its layout says.
use Rattle.std.proofs.Common.{◌≡◌, ℕ, ⊎_elim, Bool, true, false, ◌&&◌, ◌||◌, not, List, Option, Some, None, refl, sym, ap, subst, ◌∙◌}
use Rattle.std.specs.Prelude.{if◌then◌else◌, is_some}
use Rattle.std.proofs.lemmas.Bool.{false≢true, or_cases}
use Rattle.base_token.specs.declared.place.Span.{Span}
use Rattle.lex_token.specs.declared.goal.LexicalGoal.TheVariants.{Div}
use Rattle.tree_spec.specs.Tree.{Tree, Trees, none, more, script, es_module, import_decl, export_decl, named_export, export_default_decl, export_default_expr, export_all, ident, ident_name, private_name, str_lit, number_lit, big_int_lit, regex_lit, tpl_element}
use Rattle.grammar_spec.specs.Tokens.Input.{Input, Code}
use Rattle.grammar_spec.specs.Tokens.Shape.{is_item, is_module_decl, is_use_strict, is_directive}
use Rattle.grammar_spec.specs.Grammar.{Produces, children}
use Rattle.print_layout_spec.specs.declared.look.Look.{Look}
use Rattle.print_layout_spec.specs.declared.look.Stand.TheVariants.{Alone}
use Rattle.grammar_spec.specs.Children.{Items, AtEnd, is_module_item}
use Rattle.print_spelling.specs.Number.Numbers.{before_member}
use Rattle.print_writers.specs.Pages.{Page}
use Rattle.print_layout_spec.specs.Layout.{laid, statements, closing, is_empty}
use Rattle.print_layout_spec.specs.Looks.{◌·◌, when, start, commit}
use Rattle.print_layout_spec.specs.Literals.{name_bytes, key_bytes, string_bytes, number_bytes, big_bytes}
use Rattle.again_laws.specs.Derived.Redo.{Mode, Plain}
use Rattle.again_laws.specs.Derived.Read.{Knowledge, Read}
use Rattle.again_laws.proofs.derived.Found.{found}
use Rattle.again_laws.proofs.derived.Mapped.{all_mapped}
use Rattle.again_laws.specs.Tokens.Means.{Known}
use Rattle.again_laws.proofs.leaf.TextsMean.{texts_mean}
use Rattle.again_laws.specs.Tiling.Categories.{State, Fresh, Word, Number, Big, Member, Str, is_open}
use Rattle.again_laws.specs.Tiling.Goes.{Fits}
use Rattle.again_laws.specs.Tiling.Tiles.{IsEmptyPage}
use Rattle.again_laws.specs.Tiling.Laws.{IsTiled}
use Rattle.again_laws.proofs.tiling.Texts.{layouts_are_tiled, hashbangs_are_tiled}
use Rattle.again_laws.specs.Text.Fitting.{class_of_key}
use Rattle.again_laws.proofs.text.FittingTexts.{texts_fit}
use Rattle.again_laws.specs.Text.TiledLaws.{IsLineText, ScriptsAreTiled, ModulesAreTiled}
use Rattle.again_laws.proofs.text.Admits.{leaves, is_free, free_admits, free_open}
use Rattle.again_laws.proofs.text.Steps.{Steps, ◌▸◌, ends, at, mark, committed, nil, when_goes}
use Rattle.again_laws.proofs.text.Forms.{Good, AllSound}
use Rattle.again_laws.proofs.text.Statements.{closes}
use Rattle.again_laws.proofs.text.Loops.{line_on, ended_leaves}
use Rattle.again_laws.proofs.text.GrammarToLayout.{whole_items}
use Rattle.again_laws.proofs.text.EveryTree.{Leaf, goods}
use Rattle.again_laws.proofs.Shapes.{start_is_silent}

module _ (look : Look) where
  abbrev pub AllClosed : Trees → Type 0
  AllClosed none = Unit {0}
  AllClosed (more t ts) = (Good look t × (is_module_item t ≡ true)) × AllClosed ts

  closes_declared : (t : Tree) (v : State) → is_module_decl t ≡ true → leaves Alone t v ≡ true → Steps (closing look t) v (λ u. is_free u ≡ true)
  unfolding closing
  closes_declared (import_decl a b c d) v e l = nil ▸ at (line_on look v (ended_leaves Alone (import_decl a b c d) v refl l))
  closes_declared (export_decl a b) v e l = nil ▸ at (line_on look v (ended_leaves Alone (export_decl a b) v refl l))
  closes_declared (named_export a b c d) v e l = nil ▸ at (line_on look v (ended_leaves Alone (named_export a b c d) v refl l))
  closes_declared (export_default_decl a b) v e l = nil ▸ at (line_on look v (ended_leaves Alone (export_default_decl a b) v refl l))
  closes_declared (export_default_expr a b) v e l = nil ▸ at (line_on look v (ended_leaves Alone (export_default_expr a b) v refl l))
  closes_declared (export_all a b c) v e l = nil ▸ at (line_on look v (ended_leaves Alone (export_all a b c) v refl l))
  closes_declared _ v e l = absurd (false≢true e)

  closes_any : (t : Tree) (v : State) → is_module_item t ≡ true → leaves Alone t v ≡ true → Steps (closing look t) v (λ u. is_free u ≡ true)
  closes_any t v e l = ⊎_elim (λ (i : is_item t ≡ true). closes look t v i l) (λ (i : is_module_decl t ≡ true). closes_declared t v i l) (or_cases (is_item t) (is_module_decl t) e)

  statements_go : (ss : Trees) (s : State) → AllClosed ss → is_free s ≡ true → Steps (statements look ss) s (λ u. is_free u ≡ true)
  statements_go none s a f = ends nil (λ u e. ap is_free e ∙ f)
  statements_go (more t ts) s a f = a.0.0 Alone s (free_admits s t f) ▸ λ v l. closes_any t v a.0.1 l ▸ λ w k. statements_go ts w a.1 k

  pub body_goes : (ss : Trees) → AllClosed ss → Steps (statements look ss · when (not look.omits_last) commit) Fresh (λ u. is_open u ≡ true)
  body_goes ss a = statements_go ss Fresh a refl ▸ λ v f. when_goes (not look.omits_last) (λ e. ends committed (λ u q. ap is_open q ∙ free_open v f)) (λ e. free_open v f)

  pub bare_goes : (sp : Span) (ss : Trees) → AllClosed ss → Steps (laid look Alone (script sp ss None)) Fresh (λ u. is_open u ≡ true)
  bare_goes sp ss a = when_goes (is_empty ss) (λ e. mark) (λ e. refl) ▸ at (nil ▸ at (body_goes ss a))

  -- the statements of a program, as they were spelled
  closed_items : (may : Tree → Bool) → ((t : Tree) → may t ≡ true → is_module_item t ≡ true) → (c : Code) (starts : Bool) (ss : Trees) → AllSound look ss → (ts r : Input) → Items may AtEnd c starts (children ss) ts r → AllClosed ss
  closed_items may g c starts none a ts r h = tt
  closed_items may g c starts (more t ts) a m r h = ((a.0 _ _ _ h.2, g t h.1), closed_items may g (if starts && is_use_strict t then Rattle.grammar_spec.specs.Tokens.Input.turned_strict c else c) (starts && is_directive t) ts a.1 h.0 r h.3)

  -- ---- leaves that were read

  piece_cooked : (s : Span) (b : Bool) (w : List ℕ) (u : Option (List ℕ)) → Rattle.grammar_spec.specs.Tokens.Shape.is_cooked (tpl_element s b w u) ≡ true → is_some u ≡ true
  piece_cooked s b w (Some u) e = refl
  piece_cooked s b w None e = absurd (false≢true e)

  leaf_of : (mode : Mode) (t : Tree) → Read Known mode t → Leaf look mode t
  leaf_of mode (ident s n) h = subst (λ x. Fits Div (name_bytes look.style x) Word) h.is ((texts_fit look.style).names h.at h.known h.word)
  leaf_of mode (ident_name s n) h = (subst (λ x. Fits Div (name_bytes look.style x) Word) h.is ((texts_fit look.style).names h.at h.known h.word), subst (λ x. Fits Div (key_bytes look.style x) (class_of_key look.style x)) h.is ((texts_fit look.style).keys h.at h.known h.word))
  leaf_of mode (private_name s n) h = subst (λ x. Fits Div (name_bytes look.style x) Word) h.is ((texts_fit look.style).names h.at h.known h.word)
  leaf_of mode (str_lit s u w) h = subst (λ x. Fits Div (string_bytes look.style u x) Str) (sym h.is) ((texts_fit look.style).strings h.told.at u h.own h.told.known h.told.is)
  leaf_of mode (number_lit s v w) h = (subst (λ x. Fits Div (number_bytes look.style v x) Number) (sym h.is) ((texts_fit look.style).numbers h.told.at v h.own h.told.known h.told.is), subst (λ x. Fits Div (before_member (number_bytes look.style v x)) Member) (sym h.is) ((texts_fit look.style).pointed h.told.at v h.own h.told.known h.told.is))
  leaf_of mode (big_int_lit s b d w) h = subst (λ x. Fits Div (big_bytes look.style b d x) Big) (sym h.is) ((texts_fit look.style).big_integers h.told.at b d h.own h.told.known h.told.is)
  leaf_of mode (regex_lit s e f) h = (texts_fit look.style).patterns h.at e f h.known h.is
  leaf_of mode (tpl_element s b w u) h = ((texts_fit look.style).characters h.0.at true w u h.0.known h.0.is refl, λ n. (texts_fit look.style).characters h.0.at false w u h.0.known h.0.is (piece_cooked s b w u (h.1 n)))
  leaf_of mode _ h = tt

  abbrev knowing : Knowledge
  knowing = record { Known = Known; later = (texts_mean look.style).later }

  pub script_closed : (sp : Span) (ss : Trees) (line : Option (List ℕ)) (c : Code) (ts r : Input) → Known ts.places → Produces (script sp ss line) c ts r → AllClosed ss
  script_closed sp ss line c ts r k h =
      closed_items is_item (λ t e. ap (λ x. x || is_module_decl t) e) c true ss (goods look Plain ss refl (all_mapped (Read Known) (Leaf look) leaf_of Plain ss (found knowing (script sp ss line) Plain refl refl c ts r h k).0.1)
      (whole_items is_item (λ s t w u. refl) (λ s b l. refl) (λ s b l. refl) (λ s p b. refl) AtEnd c true ss h.0 r h.2)) h.0 r h.2

  pub module_closed : (sp : Span) (ss : Trees) (line : Option (List ℕ)) (c : Code) (ts r : Input) → Known ts.places → Produces (es_module sp ss line) c ts r → AllClosed ss
  module_closed sp ss line c ts r k h =
      closed_items is_module_item (λ t e. e) c true ss (goods look Plain ss refl (all_mapped (Read Known) (Leaf look) leaf_of Plain ss (found knowing (es_module sp ss line) Plain refl refl c ts r h k).0.1)
      (whole_items is_module_item (λ s t w u. refl) (λ s b l. refl) (λ s b l. refl) (λ s p b. refl) AtEnd c true ss h.0 r h.2)) h.0 r h.2

  -- with a hashbang and without
  program_tiled : (begin : ℕ) (modules : Bool) (sp : Span) (ss : Trees) (line : Option (List ℕ)) (p : Page) → AllClosed ss → IsLineText line → IsEmptyPage p → IsTiled begin modules (laid look Alone (script sp ss line)) p
  program_tiled begin modules sp ss None p a i e = layouts_are_tiled begin modules (laid look Alone (script sp ss None)) p e (bare_goes sp ss a).so
  program_tiled begin modules sp ss (Some own) p a i e = hashbangs_are_tiled begin modules (when (is_empty ss) (start sp)) own (statements look ss · when (not look.omits_last) commit) p e (start_is_silent (is_empty ss) sp) i (body_goes ss a).so

pub scripts_are_tiled : ScriptsAreTiled
scripts_are_tiled look begin modules sp ss line c ts r p k h i e = program_tiled look begin modules sp ss line p (script_closed look sp ss line c ts r k h) i e

pub modules_are_tiled : ModulesAreTiled
modules_are_tiled look begin modules sp ss line c ts r p k h i e = program_tiled look begin modules sp ss line p (module_closed look sp ss line c ts r k h) i e
