-- Assignments derived again (13.15).
use Rattle.std.proofs.Common.{Bool, ap₂, arith, false, nat_le, not, refl, sym, true, ℕ, ◌==◌, ◌||◌, ◌∙◌, ◌≡◌}
use Rattle.std.proofs.lemmas.Bool.{and_parts, leb-true, ne_eqb}
use Rattle.base_proofs.proofs.Bools.{not_and_false}
use Rattle.base_token.specs.Kinds.{assign_kind, back_quote_kind, dot_kind, else_kind, function_kind, left_bracket_kind, left_paren_kind, nullish_assign_kind, question_mark_kind}
use Rattle.base_token.specs.declared.place.Span.{Span}
use Rattle.tree_spec.specs.Places.{no_place}
use Rattle.tree_spec.specs.Tree.{Tree, array_pat, assign_expr, binding_ident, member_expr, object_pat, paren_expr, super_prop_expr}
use Rattle.grammar_spec.specs.Tokens.Input.{assigning, lo, span}
use Rattle.grammar_spec.specs.Tokens.Operators.{assignment_level, is_assign_op}
use Rattle.grammar_spec.specs.Tokens.Shape.{is_target, level}
use Rattle.print_layout_spec.specs.Looks.{formats}
use Rattle.print_layout_spec.specs.declared.look.Look.{Look}
use Rattle.print_layout_spec.specs.declared.look.Stand.{Stand}
use Rattle.print_layout_spec.specs.declared.look.Stand.TheVariants.{Alone}
use Rattle.again_laws.specs.Tokens.Lexicon.{Lexicon}
use Rattle.again_laws.specs.Derived.Redo.{Plain}
use Rattle.again_laws.proofs.derived_rules.Naming.{leaves_at}
use Rattle.again_laws.proofs.derived_rules.Begins.{before, begun, is_loose, is_part, is_weak}
use Rattle.again_laws.proofs.derived_rules.Ends.{above}
use Rattle.again_laws.proofs.derived_rules.Follow.{closes, follow_by, follow_on}
use Rattle.again_laws.proofs.derived_rules.Shapes.{alike, re_is_target}
use Rattle.again_laws.proofs.derived_rules.Sound.{Sound, expr, expr_low, plain_part, tight_of}
use Rattle.again_laws.proofs.derived_rules.Tokens.{skip}

assign_closes : (op : ℕ) → is_assign_op op ≡ true → closes op ≡ true
assign_closes op h =
    let p = and_parts (nat_le assign_kind op) (nat_le op nullish_assign_kind) h in let l = leb-true assign_kind op p.0 in let g = leb-true op nullish_assign_kind p.1 in
    six (ne_eqb op left_paren_kind (λ e. omega (arith, l, g, e))) (ne_eqb op left_bracket_kind (λ e. omega (arith, l, g, e))) (ne_eqb op dot_kind (λ e. omega (arith, l, g, e))) (ne_eqb op back_quote_kind (λ e. omega (arith, l, g, e)))
    (ne_eqb op question_mark_kind (λ e. omega (arith, l, g, e))) (ne_eqb op else_kind (λ e. omega (arith, l, g, e)))
  where
    six : {a b c d e f : Bool} → a ≡ false → b ≡ false → c ≡ false → d ≡ false → e ≡ false → f ≡ false → not (a || (b || (c || (d || (e || f))))) ≡ true
    six p q r s t u = rw (p, q, r, s, t, u) refl

assign_function : (op : ℕ) → is_assign_op op ≡ true → op ≡ function_kind → ⊥
assign_function op h e = let p = and_parts (nat_le assign_kind op) (nat_le op nullish_assign_kind) h in let l = leb-true assign_kind op p.0 in let g = leb-true op nullish_assign_kind p.1 in omega (arith, l, g, e)

target_plain : (op : ℕ) (t : Tree) → is_target op t ≡ true → (is_part t ≡ true) × (is_weak t ≡ false)
target_plain op (binding_ident s i) h = (refl, refl)
target_plain op (array_pat s xs) h = (refl, refl)
target_plain op (object_pat s ps) h = (refl, refl)
target_plain op (member_expr s o p) h = (refl, refl)
target_plain op (super_prop_expr s o p) h = (refl, refl)
target_plain op (paren_expr s e) h = (refl, refl)
target_plain op _ h = absurd (not_and_false (op == assign_kind) h)

module _ (look : Look) (x : Lexicon look.style) where
  pub assign_on : (s : Span) (op : ℕ) (a b : Tree) → Sound look x.naming Alone a → Sound look x.naming Alone b → (st : Stand) → Sound look x.naming st (assign_expr s op a b)
  assign_on s op a b f g st c ts0 r0 h k br ts K q =
      let t = target_plain op a h.3 in
      let y = plain_part look x.naming Alone a f t.0 (assigning c) ts0 h.0 h.4 k br ts _ q in
      let i = skip x.naming (formats look) _ _ _ y.more in
      let p = x.operators op _ _ _ i.1.means in
      let j = skip x.naming (formats look) _ _ _ i.2 in
      let z = expr look x.naming assignment_level Alone b g (omega arith) c h.1 r0 h.6 (x.later h.0 h.1 h.5.2 y.known) _ i.0 K j in record {
        d = z.d;
        m = z.m;
        more = z.more;
        known = z.known;
        broke = y.broke;
        tight = λ e. z.tight (tight_of b (above assignment_level (level b) (omega arith) h.6.0));
        begins = before ts0 h.0 ts y.m r0 z.m (λ l. refl) (begun (is_weak a) (is_loose a) ts0 h.0 ts y.m t.1 y.begins) (p.0 ∙ sym h.5.0) (λ e. assign_function op h.2 (sym p.0 ∙ e));
        again = λ l. let u = y.again (follow_by Alone a h.0 y.m op p.0 (assign_closes op h.2)) in let w = z.again (follow_on st (assign_expr s op a b) Alone b r0 r0 z.m refl (above assignment_level (level b) (omega arith) h.6.0) l) in record {
          tree = assign_expr (span (lo ts) z.m.last) op u.tree w.tree;
          produced = (y.m, i.0, h.2, alike (is_target op) (re_is_target op) (leaves_at look x.naming) Plain a u.tree u.same ∙ h.3, u.produced, (p.0, tt, i.1.after), expr_low look x.naming assignment_level Alone b c i.0 z.m h.6.0 (omega arith) w, refl);
          directive = refl;
          quoted = λ p q. refl;
          same = record { so = λ n. ap₂ (λ (t v : Tree). assign_expr no_place op t v) (u.same.so Plain) (w.same.so Plain) };
        };
      }
