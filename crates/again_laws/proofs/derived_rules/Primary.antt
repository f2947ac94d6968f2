-- Names, literals and parentheses derived again (13.1, 13.2).
use Rattle.std.proofs.Common.{Bool, List, Option, Some, ap, arith, false, inl, inr, not, refl, subst, sym, true, ℕ, ◌≡◌, ◌⊎◌}
use Rattle.base_number.specs.Numbers.{SpecNumber}
use Rattle.base_token.specs.Kinds.{big_int_kind, dot_kind, false_kind, import_kind, left_paren_kind, meta_kind, new_kind, null_kind, num_kind, regex_kind, right_paren_kind, str_kind, target_kind, this_kind, true_kind}
use Rattle.base_token.specs.Tokens.{BigNumeral, Numeral, Quoted}
use Rattle.base_token.specs.declared.place.Span.{Span}
use Rattle.lex_token.specs.declared.goal.LexicalGoal.TheVariants.{Div}
use Rattle.tree_spec.specs.Places.{no_place}
use Rattle.tree_spec.specs.Tree.{Tree, big_int_lit, bool_lit, expr_stmt, ident, meta_prop_expr, null_lit, number_lit, paren_expr, regex_lit, str_lit, this_expr}
use Rattle.grammar_spec.specs.Tokens.Input.{Code, Input, Takes, TakesWord, content, escaped, kind, lo, span, with_in}
use Rattle.grammar_spec.specs.Tokens.Operators.{expression_level}
use Rattle.grammar_spec.specs.Tokens.Shape.{is_use_strict}
use Rattle.print_layout_spec.specs.Layout.{is_key as is_key_stand}
use Rattle.print_layout_spec.specs.Literals.{big_bytes, is_escaped_directive, number_bytes, string_bytes}
use Rattle.print_layout_spec.specs.declared.look.Look.{Look}
use Rattle.print_layout_spec.specs.declared.look.Stand.{Stand}
use Rattle.print_layout_spec.specs.declared.look.Stand.TheVariants.{Alone}
use Rattle.again_laws.specs.Tokens.Spacings.{Spacing, Touching}
use Rattle.again_laws.specs.Tokens.Lexicon.{Lexicon}
use Rattle.again_laws.specs.Tokens.Means.{Known, Means}
use Rattle.again_laws.specs.Tokens.Told.{says}
use Rattle.again_laws.specs.Derived.Redo.{Plain}
use Rattle.again_laws.proofs.derived_rules.Naming.{leaves_at}
use Rattle.again_laws.proofs.derived_rules.Begins.{led, same_start}
use Rattle.again_laws.proofs.derived_rules.Follow.{follow_by}
use Rattle.again_laws.proofs.derived_rules.Sound.{Out, Sound, expr, expr_low, full}
use Rattle.again_laws.proofs.derived_rules.Tokens.{keyed, marked, named, skip_mark, took, worded}
use Rattle.again_laws.proofs.derived_rules.CallHeads.{never_pointed}

module _ (look : Look) (x : Lexicon look.style) where
  pub name_on : (s : Span) (n : List ℕ) (st : Stand) → Sound look x.naming st (ident s n)
  name_on s n st c ts0 r0 h k b ts K q =
      let z = named look x c n ts0 r0 ts q.0 h.0 k q.1.told in record {
        d = Touching;
        m = q.0;
        more = q.2;
        known = x.later ts0 r0 h.0.5 k;
        broke = q.1.told.broke;
        tight = λ e. refl;
        begins = same_start z.0 (λ e. inl (h.0.5, q.1.told.after));
        again = λ f. record { tree = ident (span (lo ts) q.0.last) n; produced = (z.1, refl); directive = refl; quoted = λ p q. refl; same = record { so = λ m. ap (λ (p : Span). ident p n) q.1.stands } };
      }

  pub number_on : (s : Span) (v : SpecNumber) (w : Option (List ℕ)) (st : Stand) → Sound look x.naming st (number_lit s v w)
  number_on s v w st c ts0 r0 h k b ts K q =
      let y = skip_mark x.naming (not (is_key_stand st)) s.lo b ts _ q in
      let z = x.numbers ts0 v h.0 _ _ _ k h.2 (subst (λ (o : Option (List ℕ)). Means Div (number_bytes look.style v o) (kind ts) (content ts) (escaped ts)) h.1 y.1.means) in record {
        d = Touching;
        m = y.0;
        more = y.2;
        known = x.later ts0 r0 h.3.2 k;
        broke = y.1.broke;
        tight = λ e. refl;
        begins = led ts0 r0 ts y.0 num_kind h.3.0 z.0 refl;
        again = λ f. record {
          tree = number_lit (span (lo ts) y.0.last) v (Some (number_bytes look.style v w));
          produced = (number_bytes look.style v w, refl, subst (λ (o : Option (List ℕ)). content ts ≡ Numeral v (number_bytes look.style v o)) (sym h.1) z.1, (z.0, tt, y.1.after), refl);
          directive = refl;
          quoted = λ p q. refl;
          same = record { so = λ m. ap (λ (o : Option (List ℕ)). number_lit no_place v o) (subst (λ (p : Bool). Some (number_bytes look.style v w) ≡ (leaves_at look x.naming).number p v w) (sym (never_pointed st)) refl) };
        };
      }

  pub string_on : (s : Span) (u : List ℕ) (w : Option (List ℕ)) (st : Stand) → Sound look x.naming st (str_lit s u w)
  string_on s u w st c ts0 r0 h k b ts K q =
      let y = skip_mark x.naming (not (is_key_stand st)) s.lo b ts _ q in
      let z = x.strings ts0 u h.0 _ _ _ k h.2 (subst (λ (o : Option (List ℕ)). Means Div (string_bytes look.style u o) (kind ts) (content ts) (escaped ts)) h.1 y.1.means) in record {
        d = Touching;
        m = y.0;
        more = skip_mark x.naming (is_escaped_directive u w) s.hi _ _ _ y.2;
        known = x.later ts0 r0 h.3.2 k;
        broke = y.1.broke;
        tight = λ e. refl;
        begins = led ts0 r0 ts y.0 str_kind h.3.0 z.0 refl;
        again = λ f. record {
          tree = str_lit (span (lo ts) y.0.last) u (Some (string_bytes look.style u w));
          produced = (string_bytes look.style u w, refl, subst (λ (o : Option (List ℕ)). content ts ≡ Quoted u (string_bytes look.style u o)) (sym h.1) z.1, (z.0, tt, y.1.after), refl);
          directive = refl;
          quoted = λ p q. subst (λ (o : Option (List ℕ)). is_use_strict (expr_stmt p (str_lit (span (lo ts) y.0.last) u (Some (string_bytes look.style u o)))) ≡ is_use_strict (expr_stmt q (str_lit s u o))) (sym h.1) (x.strict_kept ts0 u h.0 k h.2);
          same = record { so = λ m. refl };
        };
      }

  pub parens_on : (s : Span) (e : Tree) → Sound look x.naming Alone e → (st : Stand) → Sound look x.naming st (paren_expr s e)
  parens_on s e f st c ts0 r0 h k b ts K q =
      let y = expr look x.naming expression_level Alone e f (omega arith) (with_in c) h.0 h.1 h.3 (x.later ts0 h.0 h.2.2 k) _ q.0 _ q.2 in
      let z = y.more in record {
        d = Touching;
        m = z.0;
        more = z.2;
        known = x.later h.1 r0 h.4.2 y.known;
        broke = q.1.broke;
        tight = λ e. refl;
        begins = led ts0 r0 ts z.0 left_paren_kind h.2.0 (marked look x left_paren_kind q.1) refl;
        again = λ g. let w = y.again (follow_by Alone e h.1 y.m right_paren_kind (marked look x right_paren_kind z.1) refl) in record {
          tree = paren_expr (span (lo ts) z.0.last) w.tree;
          produced = (q.0, y.m, took look x c left_paren_kind q.1, expr_low look x.naming expression_level Alone e (with_in c) q.0 y.m h.3.0 (omega arith) w, took look x c right_paren_kind z.1, refl);
          directive = refl;
          quoted = λ p q. refl;
          same = record { so = λ n. ap (λ (t : Tree). paren_expr no_place t) (w.same.so Plain) };
        };
      }

  pub big_on : (s : Span) (r : ℕ) (d : List ℕ) (w : Option (List ℕ)) (st : Stand) → Sound look x.naming st (big_int_lit s r d w)
  big_on s r d w st c ts0 r0 h k b ts K q =
      let y = skip_mark x.naming (not (is_key_stand st)) s.lo b ts _ q in
      let z = x.big_integers ts0 r d h.0 _ _ _ k h.2 (subst (λ (o : Option (List ℕ)). Means Div (big_bytes look.style r d o) (kind ts) (content ts) (escaped ts)) h.1 y.1.means) in record {
        d = Touching;
        m = y.0;
        more = y.2;
        known = x.later ts0 r0 h.3.2 k;
        broke = y.1.broke;
        tight = λ e. refl;
        begins = led ts0 r0 ts y.0 big_int_kind h.3.0 z.0 refl;
        again = λ f. record {
          tree = big_int_lit (span (lo ts) y.0.last) r d (Some (big_bytes look.style r d w));
          produced = (big_bytes look.style r d w, refl, subst (λ (o : Option (List ℕ)). content ts ≡ BigNumeral r d (big_bytes look.style r d o)) (sym h.1) z.1, (z.0, tt, y.1.after), refl);
          directive = refl;
          quoted = λ p q. refl;
          same = record { so = λ m. refl };
        };
      }

  pub regexp_on : (s : Span) (e f : List ℕ) (st : Stand) → Sound look x.naming st (regex_lit s e f)
  regexp_on s e f st c ts0 r0 h k b ts K q =
      let z = x.patterns ts0 e f _ _ _ k h.0 q.1.means in record {
        d = Touching;
        m = q.0;
        more = q.2;
        known = x.later ts0 r0 h.1.2 k;
        broke = q.1.broke;
        tight = λ e. refl;
        begins = led ts0 r0 ts q.0 regex_kind h.1.0 z.0 refl;
        again = λ g. record { tree = regex_lit (span (lo ts) q.0.last) e f; produced = (z.1, (z.0, tt, q.1.after), refl); directive = refl; quoted = λ p q. refl; same = record { so = λ m. refl } };
      }

  -- ---- words of the grammar

  pub this_on : (s : Span) (st : Stand) → Sound look x.naming st (this_expr s)
  this_on s st c ts0 r0 h k b ts K q = record {
    d = Touching;
    m = q.0;
    more = q.2;
    known = x.later ts0 r0 h.0.3 k;
    broke = q.1.broke;
    tight = λ e. refl;
    begins = led ts0 r0 ts q.0 this_kind h.0.0 (keyed look x this_kind q.1) refl;
    again = λ g. record { tree = this_expr (span (lo ts) q.0.last); produced = (worded look x c this_kind q.1, refl); directive = refl; quoted = λ p q. refl; same = record { so = λ m. refl } };
  }

  pub null_on : (s : Span) (st : Stand) → Sound look x.naming st (null_lit s)
  null_on s st c ts0 r0 h k b ts K q = record {
    d = Touching;
    m = q.0;
    more = q.2;
    known = x.later ts0 r0 h.0.3 k;
    broke = q.1.broke;
    tight = λ e. refl;
    begins = led ts0 r0 ts q.0 null_kind h.0.0 (keyed look x null_kind q.1) refl;
    again = λ g. record { tree = null_lit (span (lo ts) q.0.last); produced = (worded look x c null_kind q.1, refl); directive = refl; quoted = λ p q. refl; same = record { so = λ m. refl } };
  }

  pub bool_on : (s : Span) (v : Bool) (st : Stand) → Sound look x.naming st (bool_lit s v)
  bool_on s true st c ts0 r0 h k b ts K q = record {
    d = Touching;
    m = q.0;
    more = q.2;
    known = x.later ts0 r0 h.0.3 k;
    broke = q.1.broke;
    tight = λ e. refl;
    begins = led ts0 r0 ts q.0 true_kind h.0.0 (keyed look x true_kind q.1) refl;
    again = λ g. record { tree = bool_lit (span (lo ts) q.0.last) true; produced = (worded look x c true_kind q.1, refl); directive = refl; quoted = λ p q. refl; same = record { so = λ m. refl } };
  }
  bool_on s false st c ts0 r0 h k b ts K q = record {
    d = Touching;
    m = q.0;
    more = q.2;
    known = x.later ts0 r0 h.0.3 k;
    broke = q.1.broke;
    tight = λ e. refl;
    begins = led ts0 r0 ts q.0 false_kind h.0.0 (keyed look x false_kind q.1) refl;
    again = λ g. record { tree = bool_lit (span (lo ts) q.0.last) false; produced = (worded look x c false_kind q.1, refl); directive = refl; quoted = λ p q. refl; same = record { so = λ m. refl } };
  }

  -- ---- `new.target` and `import.meta` (13.3.12)

  new_target_on : (s : Span) (st : Stand) (c : Code) (ts0 m0 n0 r0 : Input) → TakesWord c new_kind ts0 m0 → Takes c dot_kind m0 n0 → TakesWord c target_kind n0 r0 → Known ts0.places → (b : Spacing) (ts : Input) (K : Spacing → Input → Type 0)
      → says x.naming (full look st (meta_prop_expr s new_kind)) b ts K → Out look x.naming st (meta_prop_expr s new_kind) c ts0 r0 b ts K
  new_target_on s st c ts0 m0 n0 r0 e f g k b ts K q = let i = q.2 in let j = i.2 in record {
    d = Touching;
    m = j.0;
    more = j.2;
    known = x.later n0 r0 g.3 (x.later m0 n0 f.2 (x.later ts0 m0 e.3 k));
    broke = q.1.broke;
    tight = λ e. refl;
    begins = led ts0 r0 ts j.0 new_kind e.0 (keyed look x new_kind q.1) refl;
    again = λ l. record {
      tree = meta_prop_expr (span (lo ts) j.0.last) new_kind;
      produced = (q.0, i.0, worded look x c new_kind q.1, took look x c dot_kind i.1, inl (refl, worded look x c target_kind j.1), refl);
      directive = refl;
      quoted = λ p q. refl;
      same = record { so = λ m. refl };
    };
  }

  import_meta_on : (s : Span) (st : Stand) (c : Code) (ts0 m0 n0 r0 : Input) → TakesWord c import_kind ts0 m0 → Takes c dot_kind m0 n0 → TakesWord c meta_kind n0 r0 → Known ts0.places → (b : Spacing) (ts : Input) (K : Spacing → Input → Type 0)
      → says x.naming (full look st (meta_prop_expr s import_kind)) b ts K → Out look x.naming st (meta_prop_expr s import_kind) c ts0 r0 b ts K
  import_meta_on s st c ts0 m0 n0 r0 e f g k b ts K q = let i = q.2 in let j = i.2 in record {
    d = Touching;
    m = j.0;
    more = j.2;
    known = x.later n0 r0 g.3 (x.later m0 n0 f.2 (x.later ts0 m0 e.3 k));
    broke = q.1.broke;
    tight = λ e. refl;
    begins = led ts0 r0 ts j.0 import_kind e.0 (keyed look x import_kind q.1) refl;
    again = λ l. record {
      tree = meta_prop_expr (span (lo ts) j.0.last) import_kind;
      produced = (q.0, i.0, worded look x c import_kind q.1, took look x c dot_kind i.1, inr (refl, worded look x c meta_kind j.1), refl);
      directive = refl;
      quoted = λ p q. refl;
      same = record { so = λ m. refl };
    };
  }

  pub meta_on : (s : Span) (k : ℕ) (st : Stand) → Sound look x.naming st (meta_prop_expr s k)
  meta_on s k st c ts0 r0 h l b ts K q = by h.4 q
    where
      by : ((k ≡ new_kind) × TakesWord c target_kind h.1 r0) ⊎ ((k ≡ import_kind) × TakesWord c meta_kind h.1 r0) → says x.naming (full look st (meta_prop_expr s k)) b ts K → Out look x.naming st (meta_prop_expr s k) c ts0 r0 b ts K
      by (inl e) = subst (λ (j : ℕ). says x.naming (full look st (meta_prop_expr s j)) b ts K → Out look x.naming st (meta_prop_expr s j) c ts0 r0 b ts K) (sym e.0)
          (λ q. new_target_on s st c ts0 h.0 h.1 r0 (subst (λ (j : ℕ). TakesWord c j ts0 h.0) e.0 h.2) h.3 e.1 l b ts K q)
      by (inr e) = subst (λ (j : ℕ). says x.naming (full look st (meta_prop_expr s j)) b ts K → Out look x.naming st (meta_prop_expr s j) c ts0 r0 b ts K) (sym e.0)
          (λ q. import_meta_on s st c ts0 h.0 h.1 r0 (subst (λ (j : ℕ). TakesWord c j ts0 h.0) e.0 h.2) h.3 e.1 l b ts K q)
