-- Literals and templates as nodes.
use Rattle.std.proofs.Common.{◌≡◌, ℕ, ◌+◌, true, not, List, [], ◌∷◌, Option, refl, sym, ◌∙◌, arith}
use Rattle.std.specs.Prelude.{◌==◌, codes}
use Rattle.std.proofs.lemmas.Bool.{false≢true, eq-eqb}
use Rattle.base_number.specs.Numbers.{SpecNumber}
use Rattle.base_token.specs.declared.place.Span.{Span}
use Rattle.tree_spec.specs.Tree.{Tree, Trees, none, more, number_lit, str_lit, regex_lit, tpl, tpl_element}
use Rattle.print_layout_spec.specs.declared.look.Look.{Look}
use Rattle.print_layout_spec.specs.declared.look.Stand.{Stand}
use Rattle.print_layout_spec.specs.declared.look.Stand.TheVariants.{Alone}
use Rattle.print_layout_spec.specs.Looks.{meant, regular_expression, template_characters, template_end, texts_of, joined}
use Rattle.print_layout_spec.specs.Literals.{string_bytes, number_bytes, quasi_bytes, is_escaped_directive}
use Rattle.print_layout_spec.specs.Layout.{laid, is_key, is_tagged, count, template, quasi}
use Rattle.lex_token.specs.declared.goal.LexicalGoal.TheVariants.{Div, RegExp, TemplateTail, TemplateEnd}
use Rattle.again_laws.proofs.text.Literals.{back_quote_ends, dollar_brace_ends}
use Rattle.again_laws.proofs.text.Admits.{admits, admits_open, leaves_open}
use Rattle.again_laws.proofs.text.Forms.{AllGood, Good}
use Rattle.again_laws.proofs.text.NamesAndCalls.{leaving}
use Rattle.again_laws.proofs.text.Steps.{At, Steps, at, braced, committed, if_goes, mark, shut, text_by, when_goes, when_true, ◌▸◌}
use Rattle.again_laws.proofs.tiling.Marks.{back_quote}
use Rattle.again_laws.specs.Tiling.Categories.{Dotted, End, Number, Numbered, Pointed, Quasi, Quasied, Regex, Shut, Slashed, State, Str, Worded, behind, is_digitless, takes, is_open}
use Rattle.again_laws.specs.Tiling.Goes.{Fits}

-- texts that are meant together
pattern_by : {body flags : List ℕ} {s : State} → Fits RegExp (joined (texts_of (regular_expression body flags))) Regex → takes Regex s ≡ true → Steps (meant (regular_expression body flags)) s (At (behind Regex s))
pattern_by {s = s} f o = record { so = (Regex, f, when_true (takes Regex s) (behind Regex s ≡ behind Regex s) o refl) }

characters_by : {own : List ℕ} → Fits TemplateTail own Quasi → Steps (meant (template_characters own)) Shut (At Quasied)
characters_by f = record { so = (Quasi, f, refl) }

ending_by : {own : List ℕ} → Fits TemplateEnd own End → Steps (meant (template_end own)) Quasied (At Shut)
ending_by f = record { so = (End, f, refl) }

module _ (look : Look) where
  pub string_node : (sp : Span) (u : List ℕ) (w : Option (List ℕ)) → Fits Div (string_bytes look.style u w) Str → Good look (str_lit sp u w)
  string_node sp u w f st s a =
      when_goes (not (is_key st)) (λ e. mark) (λ e. refl) ▸ at (committed ▸ at (mark ▸ at (text_by Str f (admits_open s (str_lit sp u w) a) ▸ at (when_goes (is_escaped_directive u w) (λ e. leaving st (str_lit sp u w) mark refl) (λ e. refl)))))

  pub number_admits : (s : State) (sp : Span) (v : SpecNumber) (w : Option (List ℕ)) → admits s (number_lit sp v w) ≡ true → is_digitless s ≡ true
  number_admits Worded sp v w e = absurd (false≢true e)
  number_admits Numbered sp v w e = absurd (false≢true e)
  number_admits Pointed sp v w e = absurd (false≢true e)
  number_admits Dotted sp v w e = absurd (false≢true e)
  number_admits Quasied sp v w e = absurd (false≢true e)
  number_admits _ sp v w e = refl

  pub number_node : (sp : Span) (v : SpecNumber) (w : Option (List ℕ)) → Fits Div (number_bytes look.style v w) Number → Good look (number_lit sp v w)
  number_node sp v w f st s a =
      when_goes (not (is_key st)) (λ e. mark) (λ e. refl) ▸ at (committed ▸ at (mark ▸ at (leaving st (number_lit sp v w) (text_by Number f (number_admits s sp v w a)) refl)))

  regex_admits : (s : State) (sp : Span) (e f : List ℕ) → admits s (regex_lit sp e f) ≡ true → takes Regex s ≡ true
  regex_admits Slashed sp e f a = absurd (false≢true a)
  regex_admits Numbered sp e f a = absurd (false≢true a)
  regex_admits Pointed sp e f a = absurd (false≢true a)
  regex_admits Quasied sp e f a = absurd (false≢true a)
  regex_admits _ sp e f a = refl

  pub regex_node : (sp : Span) (e f : List ℕ) → Fits RegExp (joined (codes "/" ∷ e ∷ codes "/" ∷ f ∷ [])) Regex → Good look (regex_lit sp e f)
  regex_node sp e f g st s a = mark ▸ at (leaving st (regex_lit sp e f) (pattern_by g (regex_admits s sp e f a)) refl)

  -- ---- templates

  -- the pieces of a template
  unfoldable pub Quasis : Stand → Trees → Type 0
  Quasis st none = Unit {0}
  Quasis st (more (tpl_element s t raw u) qs) = Fits TemplateTail (quasi_bytes look.style (is_tagged st) raw) Quasi × Quasis st qs
  Quasis st (more q qs) = ⊥

  piece : (st : Stand) (q : Tree) (qs : Trees) → Quasis st (more q qs) → Steps (quasi look st q) Shut (At Quasied) × Quasis st qs
  unfolding Quasis
  piece st (tpl_element s t raw u) qs f = (mark ▸ at (characters_by f.0 ▸ at mark), f.1)
  piece st _ qs f = absurd f

  suc_same : (m n : ℕ) → m + 1 ≡ n + 1 → m ≡ n
  suc_same m n e = omega arith

  template_go : (st : Stand) (es qs : Trees) → count qs ≡ count es + 1 → AllGood look es → Quasis st qs → Steps (template look st es qs) Shut (At Quasied)
  template_go st es none n a f = absurd (omega (arith, n))
  template_go st none (more q none) n a f = (piece st q none f).0
  template_go st none (more q (more r qs)) n a f = absurd (omega (arith, n))
  template_go st (more e es) (more q none) n a f = absurd (omega (arith, n))
  template_go st (more e es) (more q (more r qs)) n a f =
      let p = piece st q (more r qs) f in
      p.0 ▸ at (ending_by dollar_brace_ends ▸ at (a.0 Alone Shut refl ▸ λ v l. braced (leaves_open Alone e v l) ▸ at
      (template_go st es (more r qs) (suc_same _ _ n) a.1 p.1)))

  pub template_at : (sp : Span) (es qs : Trees) → count qs ≡ count es + 1 → AllGood look es → (st : Stand) → Quasis st qs → (s : State) → is_open s ≡ true → Steps (laid look st (tpl sp es qs)) s (At Shut)
  template_at sp es qs n a st f s d =
      if_goes (count qs == count es + 1)
      (λ e. mark ▸ at (shut back_quote d ▸ at (template_go st es qs n a f ▸ at (ending_by back_quote_ends ▸ at mark))))
      (λ e. absurd (false≢true (sym e ∙ eq-eqb (count qs) (count es + 1) n)))

  pub template_node : (sp : Span) (es qs : Trees) → count qs ≡ count es + 1 → AllGood look es → ((st : Stand) → Quasis st qs) → Good look (tpl sp es qs)
  template_node sp es qs n a f st s d = leaving st (tpl sp es qs) (template_at sp es qs n a st (f st) s (admits_open s (tpl sp es qs) d)) refl
