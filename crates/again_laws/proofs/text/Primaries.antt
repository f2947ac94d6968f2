-- Names, literals and other expressions of one token or two.
use Rattle.std.proofs.Common.{◌≡◌, ℕ, Bool, true, false, not, List, [], ◌∷◌, Option, refl}
use Rattle.std.specs.Prelude.{◌==◌, codes, if◌then◌else◌}
use Rattle.std.proofs.lemmas.Bool.{false≢true}
use Rattle.base_token.specs.declared.place.Span.{Span}
use Rattle.base_token.specs.Kinds.{new_kind}
use Rattle.tree_spec.specs.Tree.{Tree, ident, ident_name, private_name, binding_ident, computed_prop_name, this_expr, super, import, meta_prop_expr, bool_lit, null_lit, big_int_lit}
use Rattle.lex_token.specs.declared.goal.LexicalGoal.TheVariants.{Div}
use Rattle.print_spelling.specs.String.Names.{is_quoted_key}
use Rattle.std.specs.Str.{chars}
use Rattle.print_layout_spec.specs.declared.look.Look.{Look}
use Rattle.print_layout_spec.specs.declared.look.Stand.{Stand}
use Rattle.print_layout_spec.specs.Looks.{meant, touching, text}
use Rattle.print_layout_spec.specs.Literals.{name_bytes, key_bytes, big_bytes}
use Rattle.print_layout_spec.specs.Layout.{is_key, optional_dot}
use Rattle.again_laws.specs.Tiling.Categories.{State, Worded, Numbered, Pointed, Dotted, Quasied, Word, Big, Str, Dot, Hash, Operator, is_end, is_wordless, is_digitless, takes}
use Rattle.again_laws.specs.Tiling.Goes.{Fits}
use Rattle.again_laws.specs.Text.Fitting.{class_of_key}
use Rattle.again_laws.proofs.text.Keywords.{this_word, super_word, import_word, new_word, target_word, meta_word, true_word, false_word, null_word}
use Rattle.again_laws.proofs.text.Marks.{dot_mark, hash_mark, question_mark}
use Rattle.again_laws.proofs.text.Admits.{admits, leaves, admits_open, admits_word}
use Rattle.again_laws.proofs.text.Steps.{Steps, At, ◌▸◌, at, mark, committed, text_by, worded, when_goes, if_goes, when_true}
use Rattle.again_laws.proofs.text.Forms.{Good}
use Rattle.again_laws.proofs.text.NamesAndCalls.{leaving, named, placed, bracketed}

-- ---- tokens that touch

-- a word, a point, a word
pointed : {a b : List ℕ} {s : State} → Fits Div a Word → Fits Div b Word → is_wordless s ≡ true → Steps (meant (touching (a ∷ codes "." ∷ b ∷ []))) s (At Worded)
pointed {s = s} f g w = record { so = (Word, f, when_true (takes Word s) _ w (Dot, dot_mark, (Word, g, refl))) }

-- `?.`
pub optional : {v : State} → is_end v ≡ true → Steps optional_dot v (At Dotted)
optional {v = v} e = record { so = (Operator, question_mark, when_true (takes Operator v) _ e (Dot, dot_mark, refl)) }

module _ (look : Look) where
  -- ---- words

  pub this_node : (sp : Span) → Good look (this_expr sp)
  this_node sp st s a = committed ▸ at (mark ▸ at (worded this_word (admits_word s (this_expr sp) a refl) ▸ at (leaving st (this_expr sp) mark refl)))

  pub super_node : (sp : Span) → Good look (super sp)
  super_node sp st s a = committed ▸ at (mark ▸ at (worded super_word (admits_word s (super sp) a refl) ▸ at (leaving st (super sp) mark refl)))

  pub import_node : (sp : Span) → Good look (import sp)
  import_node sp st s a = committed ▸ at (mark ▸ at (worded import_word (admits_word s (import sp) a refl) ▸ at (leaving st (import sp) mark refl)))

  pub null_node : (sp : Span) → Good look (null_lit sp)
  null_node sp st s a = mark ▸ at (leaving st (null_lit sp) (worded null_word (admits_word s (null_lit sp) a refl)) refl)

  bool_word : (v : Bool) → Fits Div (if v then codes "true" else codes "false") Word
  bool_word true = true_word
  bool_word false = false_word

  pub bool_node : (sp : Span) (v : Bool) → Good look (bool_lit sp v)
  bool_node sp v st s a = mark ▸ at (leaving st (bool_lit sp v) (worded (bool_word v) (admits_word s (bool_lit sp v) a refl)) refl)

  pub meta_node : (sp : Span) (k : ℕ) → Good look (meta_prop_expr sp k)
  meta_node sp k st s a =
      let w = admits_word s (meta_prop_expr sp k) a refl in
      mark ▸ at (if_goes (k == new_kind) (λ e. leaving st (meta_prop_expr sp k) (pointed new_word target_word w) refl) (λ e. leaving st (meta_prop_expr sp k) (pointed import_word meta_word w) refl))

  -- ---- names

  pub name_node : (sp : Span) (n : List ℕ) → Fits Div (name_bytes look.style n) Word → Good look (ident sp n)
  name_node sp n f st s a = leaving st (ident sp n) (placed look sp n f (admits_word s (ident sp n) a refl)) refl

  pub bound_node : (sp t : Span) (n : List ℕ) → Fits Div (name_bytes look.style n) Word → Good look (binding_ident sp (ident t n))
  bound_node sp t n f st s a = leaving st (binding_ident sp (ident t n)) (placed look sp n f (admits_word s (binding_ident sp (ident t n)) a refl)) refl

  -- a word as a key is a string where it is quoted
  keyed : (sp : Span) (n : List ℕ) (st : Stand) (s : State) → admits s (ident_name sp n) ≡ true → (b : Bool) → Fits Div (key_bytes look.style n) (if b then Str else Word)
      → Steps (text (key_bytes look.style n)) s (λ u. leaves st (ident_name sp n) u ≡ true)
  keyed sp n st s a true f = leaving st (ident_name sp n) (text_by Str f (admits_open s (ident_name sp n) a)) refl
  keyed sp n st s a false f = leaving st (ident_name sp n) (text_by Word f (admits_word s (ident_name sp n) a refl)) refl

  pub key_node : (sp : Span) (n : List ℕ) → Fits Div (name_bytes look.style n) Word → Fits Div (key_bytes look.style n) (class_of_key look.style n) → Good look (ident_name sp n)
  key_node sp n f g st s a = if_goes (is_key st)
      (λ e. committed ▸ at (mark ▸ at (keyed sp n st s a (is_quoted_key look.style (chars n)) g)))
      (λ e. leaving st (ident_name sp n) (named look sp n f (admits_word s (ident_name sp n) a refl)) refl)

  pub private_node : (sp : Span) (n : List ℕ) → Fits Div (name_bytes look.style n) Word → Good look (private_name sp n)
  private_node sp n f st s a = mark ▸ at (text_by Hash hash_mark (admits_open s (private_name sp n) a) ▸ at (named look sp n f refl ▸ at (leaving st (private_name sp n) mark refl)))

  pub computed_node : (sp : Span) (e : Tree) → Good look e → Good look (computed_prop_name sp e)
  computed_node sp e f st s a = leaving st (computed_prop_name sp e) (bracketed look sp e f st s (admits_open s (computed_prop_name sp e) a)) refl

  -- ---- big integers

  big_admits : (s : State) (sp : Span) (r : ℕ) (d : List ℕ) (w : Option (List ℕ)) → admits s (big_int_lit sp r d w) ≡ true → is_digitless s ≡ true
  big_admits Worded sp r d w e = absurd (false≢true e)
  big_admits Numbered sp r d w e = absurd (false≢true e)
  big_admits Pointed sp r d w e = absurd (false≢true e)
  big_admits Dotted sp r d w e = absurd (false≢true e)
  big_admits Quasied sp r d w e = absurd (false≢true e)
  big_admits _ sp r d w e = refl

  pub big_node : (sp : Span) (r : ℕ) (d : List ℕ) (w : Option (List ℕ)) → Fits Div (big_bytes look.style r d w) Big → Good look (big_int_lit sp r d w)
  big_node sp r d w f st s a =
      when_goes (not (is_key st)) (λ e. mark) (λ e. refl) ▸ at (committed ▸ at (mark ▸ at (text_by Big f (big_admits s sp r d w a) ▸ at (leaving st (big_int_lit sp r d w) mark refl))))
