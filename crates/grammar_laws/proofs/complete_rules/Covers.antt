-- What is read where a pattern that assigns stands: an expression that is refined to it (ECMA-262, 13.15.5).
use Rattle.std.proofs.Common.{◌≡◌, ℕ, ◌<◌, ◌≤◌, ◌⊎◌, inl, inr, max, Bool, true, false, not, ◌&&◌, ◌||◌, ◌==◌, eqb, List, [], ◌∷◌, ◌++◌, Result, Ok, refl, sym, ap, ◌∙◌, subst, ⊎_elim, true≢false, append_assoc, append-nil, arith}
use Rattle.std.proofs.lemmas.Bool.{ne_eqb, eq-eqb, and_right, and_from, and_parts, false_from_ne_true}
use Rattle.base_token.specs.declared.place.Span.{Span}
use Rattle.base_token.specs.Kinds.{template_kind, comma_kind, colon_kind, assign_kind, dot_dot_dot_kind, left_bracket_kind, right_bracket_kind, left_brace_kind, right_brace_kind}
use Rattle.tree_spec.specs.Tree.{Tree, Trees, none, more, pack, unpack, ident, array_lit, object_lit, member_expr, super_prop_expr, paren_expr, binding_ident, array_pat, object_pat, assign_pat, rest_pat, key_value_pat_prop, assign_pat_prop, expr_pat, hole, absent, param, computed_prop_name}
use Rattle.tree_spec.proofs.PackLemmas.{pack_unpack}
use Rattle.grammar_spec.specs.Tokens.Input.{Input, Code, kind, is_word, lo, rest, span, dots_at, with_in}
use Rattle.grammar_spec.specs.Tokens.Operators.{assignment_level}
use Rattle.grammar_spec.specs.Tokens.Shape.{level, ends, is_simple, is_target_expr, is_structured, is_place, is_item_pat, is_rest, is_hole, is_absent}
use Rattle.grammar_spec.specs.Children.{child, Listed}
use Rattle.grammar_spec.specs.Patterns.{Item, Property}
use Rattle.grammar_spec.specs.Grammar.{Produces, children}
use Rattle.grammar_spec.specs.Reader.Source.{Fault, State, past, bound, Inner, Step, go_on, finished, iterate}
use Rattle.grammar_spec.specs.Reader.Cover.{has, binds_names, all_bind, to_target, to_head, to_item, to_items, as_prop, rest_of, is_rest_item, last_rests}
use Rattle.grammar_spec.specs.Reader.Expressions.{Elements, no_elements, element_by, after_element, element_step, elements_by, array_by, prefix_by, prop_by, prop_rest, prop_step, key_by, object_by}
use Rattle.grammar_spec.specs.Reader.Reading.{readers}
use Rattle.grammar_laws.proofs.complete_base.Yields.{lm, from, len, coded, Fresh, After, Reads, reads_map, then_reads, Is, then_is, ended, past_here, past_ended, eat_ended, noted_then, noted_at, starts_here, then_past_reads, if_no, if_yes, Loops, Goes, loop_after, looped}
use Rattle.grammar_laws.proofs.complete_base.Levels.{tail, Follow, closed_by, comma_after, closes, quiet}
use Rattle.grammar_laws.proofs.complete_rules.Lengths.{item_taken, property_taken}
use Rattle.grammar_laws.proofs.complete_base.Trees.{Covered, CoveredAll, size, sizes, reach, reaches, takes, no_kind, by_cases, begins, starts, name_begins}
use Rattle.grammar_laws.proofs.complete_rules.Lists.{Finds}
use Rattle.grammar_laws.proofs.complete_rules.Members.{no_more}
use Rattle.grammar_laws.proofs.complete_rules.Objects.{begins_key, key_starts, key_found, OneWord, plain_prop, Plain, plain_next, Divides, divided, short_prop, cover_prop}
use Rattle.grammar_laws.proofs.Shapes.{hole_is}

-- ---- refining

-- a pattern that binds has names alone
abbrev pub Fit : Bool → Tree → Type 0
Fit b p = (not b || binds_names p) ≡ true

abbrev pub FitAll : Bool → Trees → Type 0
FitAll b ps = (not b || all_bind ps) ≡ true

fit_both : (b x y : Bool) → (not b || (x && y)) ≡ true → ((not b || x) ≡ true) × ((not b || y) ≡ true)
fit_both true true y h = (refl, h)
fit_both true false y h = absurd (true≢false (sym h))
fit_both false x y h = (refl, refl)

-- As long as the starts before this stand are noted as they are here, the expression is refined to this.
pub record Refines (props : Bool) (x p : Tree) (s : State Input) : Type 0 where
  pub so : (b : Bool) → Fit b p → (k : List ℕ) → ((n : ℕ) → n < s.source.last → has n k ≡ has n s.commas) → as_prop props x (to_item b k x) ≡ Ok p

pub later : (props : Bool) (x p : Tree) (s r : State Input) → Refines props x p s → After s r → Refines props x p r
later props x p s r f a = record { so = λ b e k h. f.so b e k (λ n q. h n (omega (arith, q, a.last)) ∙ a.kept n q) }

-- Items before a comma, none of which is a rest.
abbrev pub Fronts : Bool → List Tree → List Tree → State Input → Type 0
Fronts props [] [] s = Unit {0}
Fronts props [] (p ∷ ps) s = ⊥
Fronts props (x ∷ xs) [] s = ⊥
Fronts props (x ∷ xs) (p ∷ ps) s = Refines props x p s × (is_rest_item x ≡ false) × Fronts props xs ps s

pub fronts_later : (props : Bool) (xs ps : List Tree) (s r : State Input) → Fronts props xs ps s → After s r → Fronts props xs ps r
fronts_later props [] [] s r f a = tt
fronts_later props [] (p ∷ ps) s r f a = absurd f
fronts_later props (x ∷ xs) [] s r f a = absurd f
fronts_later props (x ∷ xs) (p ∷ ps) s r f a = (later props x p s r f.0 a, f.1, fronts_later props xs ps s r f.2 a)

pub fronts_snoc : (props : Bool) (xs ps : List Tree) (x p : Tree) (s : State Input) → Fronts props xs ps s → Refines props x p s → is_rest_item x ≡ false → Fronts props (xs ++ x ∷ []) (ps ++ p ∷ []) s
fronts_snoc props [] [] x p s f r n = (r, n, tt)
fronts_snoc props [] (q ∷ ps) x p s f r n = absurd f
fronts_snoc props (y ∷ xs) [] x p s f r n = absurd f
fronts_snoc props (y ∷ xs) (q ∷ ps) x p s f r n = (f.0, f.1, fronts_snoc props xs ps x p s f.2 r n)

-- these items are refined to these, where the starts before this stand are noted as they are here
pub record Rows (props : Bool) (xs ps : List Tree) (s : State Input) : Type 0 where
  pub so : (b : Bool) → FitAll b (pack ps) → (k : List ℕ) → ((n : ℕ) → n < s.source.last → has n k ≡ has n s.commas) → to_items props b k (pack xs) ≡ Ok (pack ps)

pub rows_last : (props : Bool) (xs ps : List Tree) (x p : Tree) (s : State Input) → Fronts props xs ps s → Refines props x p s → Rows props (xs ++ x ∷ []) (ps ++ p ∷ []) s
rows_last props [] [] x p s f r = record { so = λ b e k h. rw (r.so b (fit_both b (binds_names p) true e).0 k h) refl }
rows_last props [] (q ∷ ps) x p s f r = absurd f
rows_last props (y ∷ xs) [] x p s f r = absurd f
rows_last props (y ∷ []) (q ∷ []) x p s f r = record { so = λ b e k h. let w = fit_both b (binds_names q) (binds_names p && true) e in rw (f.1, f.0.so b w.0 k h, r.so b (fit_both b (binds_names p) true w.1).0 k h) refl }
rows_last props (y ∷ []) (q ∷ (u ∷ ps)) x p s f r = absurd f.2
rows_last props (y ∷ (v ∷ xs)) (q ∷ []) x p s f r = absurd f.2
rows_last props (y ∷ (v ∷ xs)) (q ∷ (u ∷ ps)) x p s f r = record { so = λ b e k h. let w = fit_both b (binds_names q) (all_bind (pack ((u ∷ ps) ++ p ∷ []))) e in rw (f.1, f.0.so b w.0 k h, (rows_last props (v ∷ xs) (u ∷ ps) x p s f.2 r).so b w.1 k h) refl }

pub rows_all : (props : Bool) (xs ps : List Tree) (s : State Input) → Fronts props xs ps s → Rows props xs ps s
rows_all props [] [] s f = record { so = λ b e k h. refl }
rows_all props [] (p ∷ ps) s f = absurd f
rows_all props (x ∷ xs) [] s f = absurd f
rows_all props (x ∷ []) (p ∷ []) s f = record { so = λ b e k h. rw (f.0.so b (fit_both b (binds_names p) true e).0 k h) refl }
rows_all props (x ∷ []) (p ∷ (u ∷ ps)) s f = absurd f.2
rows_all props (x ∷ (v ∷ xs)) (p ∷ []) s f = absurd f.2
rows_all props (x ∷ (v ∷ xs)) (p ∷ (u ∷ ps)) s f = record { so = λ b e k h. let w = fit_both b (binds_names p) (all_bind (pack (u ∷ ps))) e in rw (f.1, f.0.so b w.0 k h, (rows_all props (v ∷ xs) (u ∷ ps) s f.2).so b w.1 k h) refl }

pub no_last : (props : Bool) (xs ps : List Tree) (s : State Input) → Fronts props xs ps s → last_rests xs ≡ false
no_last props [] [] s f = refl
no_last props [] (p ∷ ps) s f = absurd f
no_last props (x ∷ xs) [] s f = absurd f
no_last props (x ∷ []) (p ∷ []) s f = f.1
no_last props (x ∷ []) (p ∷ (u ∷ ps)) s f = absurd f.2
no_last props (x ∷ (v ∷ xs)) (p ∷ []) s f = absurd f.2
no_last props (x ∷ (v ∷ xs)) (p ∷ (u ∷ ps)) s f = no_last props (v ∷ xs) (u ∷ ps) s f.2

-- ---- an item read as an expression

-- What is read where this item stands is refined to it.
pub record Item_read (x : Tree) (m : Input) (y : Tree × State Input) : Type 0 where
  pub source : y.1.source ≡ m
  pub refines : Refines false y.0 x y.1
  pub rests : is_rest_item y.0 ≡ is_rest x

-- an item that is no rest, read as an expression by calls so deep
abbrev pub Covering : ℕ → ℕ → Type 0
Covering z d = (x : Tree) (p : Bool) (c : Code) (ts m : Input) (k : List ℕ) → size x < z → Covered x → is_item_pat false x ≡ true → is_rest x ≡ false → Produces x (coded p (with_in c)) ts m → ((e : ℕ) → Follow (with_in c) e 2 m)
    → Reads (from ts k) ((readers lm d).expr (with_in c) assignment_level (from ts k)) (λ y. (y.1.source ≡ m) × Refines false y.0 x y.1) (d < reach x)

rest_refines : (s : Span) (a : Tree) → is_place false a ≡ true → rest_of s a ≡ Ok (rest_pat s (dots_at s.lo.0) a)
rest_refines s (assign_pat t p e) h = absurd (true≢false (sym h))
rest_refines s _ h = refl

place_plain : (a : Tree) → is_place false a ≡ true → (is_item_pat false a ≡ true) × (is_rest a ≡ false)
place_plain (assign_pat t p e) h = absurd (true≢false (sym h))
place_plain (rest_pat t p e) h = absurd (true≢false (sym h))
place_plain (param t p e) h = absurd (true≢false (sym h))
place_plain _ h = (h, refl)

-- a simple target binds tightly
pub target_least : (x : Tree) (c : Code) (ts m : Input) → is_target_expr x ≡ true → Produces x c ts m → 19 ≤ level x
target_least (member_expr s o (computed_prop_name t k)) c ts m e h = omega (arith, h.2.0)
target_least (member_expr s o k) c ts m e h = omega (arith, h.2.0)
target_least (super_prop_expr s o k) c ts m e h = omega arith
target_least (paren_expr s x) c ts m e h = omega arith
target_least _ c ts m e h = absurd (true≢false (sym e))

-- how a place and an item start
place_starts : (a : Tree) (c : Code) (ts m : Input) → Covered a → is_place false a ≡ true → Produces a c ts m → begins (kind ts) ≡ true
place_starts (binding_ident s (ident t n)) c ts m g e h = name_begins c ts h.1.0.0 h.1.0.1
place_starts (binding_ident s i) c ts m g e h = absurd h
place_starts (array_pat s xs) c ts m g e h = subst (λ (n : ℕ). begins n ≡ true) (sym h.1.0) refl
place_starts (object_pat s xs) c ts m g e h = subst (λ (n : ℕ). begins n ≡ true) (sym h.1.0) refl
place_starts (expr_pat x) c ts m g e h = starts x c ts m g (omega (arith, target_least x c ts m (and_parts (is_target_expr x) (is_simple x) e).0 h.1)) h.1
place_starts _ c ts m g e h = absurd (true≢false (sym e))

item_begins : (x : Tree) (c : Code) (ts m : Input) → Covered x → is_item_pat false x ≡ true → is_rest x ≡ false → Produces x (record c { binds = false }) ts m → begins (kind ts) ≡ true
item_begins (rest_pat s q a) c ts m g e n h = absurd (true≢false n)
item_begins (assign_pat s a x) c ts m g e n h = place_starts a (record c { binds = false }) ts h.0 g.0 h.2 h.3
item_begins x c ts m g e n h = place_starts x (record c { binds = false }) ts m g e h

item_starts : (x : Tree) (c : Code) (ts m : Input) → Covered x → is_item_pat false x ≡ true → Produces x (record c { binds = false }) ts m → (begins (kind ts) ≡ true) ⊎ (kind ts ≡ dot_dot_dot_kind)
item_starts (rest_pat s q a) c ts m g e h = inr h.1.0
item_starts (assign_pat s a x) c ts m g e h = inl (place_starts a (record c { binds = false }) ts h.0 g.0 h.2 h.3)
item_starts x c ts m g e h = inl (place_starts x (record c { binds = false }) ts m g e h)

-- ---- lists of items

-- these items, which what was read is refined to, and these tokens as the rest
pub record Covered_list (props : Bool) (ps : List Tree) (r : Input) (y : Elements × State Input) : Type 0 where
  pub source : y.1.source ≡ r
  pub comma : (y.0.comma && last_rests y.0.items) ≡ false
  pub rows : Rows props y.0.items ps y.1

-- one more item, with this answer of the step
pub record Item_step (props : Bool) (x : Tree) (answer : Tree → Step Elements) (r : Input) (y : Step Elements × State Input) : Type 0 where
  pub tree : Tree
  pub step : y.0 ≡ answer tree
  pub source : y.1.source ≡ r
  pub refines : Refines props tree x y.1
  pub rests : is_rest_item tree ≡ is_rest x

pub goes_on : {step : Elements → State Input → Result (Step Elements × State Input) Fault} (ts : Input) (W : Elements × State Input → Type 0) (Q : Type 0) (E : Elements) (y : Step Elements × State Input) → y.0 ≡ go_on E → len y.1.source < len ts → Loops step E y.1.source y.1.commas W Q → Goes step ts W Q y
goes_on {step = step} ts W Q E y e l k = subst (λ (w : Step Elements). Goes step ts W Q (w, y.1)) (sym e) (l, k)

pub goes_end : (step : Elements → State Input → Result (Step Elements × State Input) Fault) (ts : Input) (W : Elements × State Input → Type 0) (Q : Type 0) (E : Elements) (y : Step Elements × State Input) → y.0 ≡ finished E → W (E, y.1) → Goes step ts W Q y
goes_end step ts W Q E y e w = subst (λ (v : Step Elements). Goes step ts W Q (v, y.1)) (sym e) w

refines_hole : (s : State Input) → Refines false hole hole s
refines_hole s = record { so = λ b e k h. refl }

module _ (z d : ℕ) (cov : Covering z d) (p : Bool) (c : Code) where
  abbrev inner : Inner Input
  inner = readers lm d

  spread_read : (s q : Span) (a : Tree) (ts m : Input) (k : List ℕ) → size a < z → Covered a → Item (coded p c) (child (rest_pat s q a) (λ y. Produces (rest_pat s q a) y)) ts m → ((e : ℕ) → Follow (with_in c) e 2 m) → Reads (from ts k) (element_by lm inner c (from ts k)) (Item_read (rest_pat s q a) m) (d < reach a)
  unfolding element_by
  spread_read s q a ts m k sz g h fo = let w = place_plain a h.1.3 in
      if_yes (eqb (kind ts) dot_dot_dot_kind) _ _ _ _ (eq-eqb (kind ts) dot_dot_dot_kind h.1.1.0)
      (then_past_reads ts h.1.0 k (inner.expr (with_in c) assignment_level) _ (λ y. (y.1.source ≡ m) × Refines false y.0 a y.1) (d < reach a) _ _ h.1.1.2 (cov a p c h.1.0 m k sz g w.0 w.1 h.1.4 fo) (λ u. u)
      (λ y v. ended _ _ _ (record {
        source = v.0;
        refines = record {
          so = λ bb ft i t. rw (v.1.so bb ft i t) (rest_refines (span (lo ts) y.1.source.last) a h.1.3 ∙ ap (λ (w : Input). Ok (rest_pat (span (lo ts) w.last) (dots_at (lo ts)) a)) v.0 ∙ ap (λ w. Ok (rest_pat w (dots_at (lo ts)) a)) (sym h.1.5)
              ∙ ap (λ w. Ok (rest_pat s w a)) (sym h.1.2));
        };
        rests = refl;
      })))

  plain_read : (x : Tree) (ts m : Input) (k : List ℕ) → size x < z → Covered x → is_rest x ≡ false → eqb (kind ts) dot_dot_dot_kind ≡ false → Item (coded p c) (child x (λ y. Produces x y)) ts m → ((e : ℕ) → Follow (with_in c) e 2 m) → Reads (from ts k) (element_by lm inner c (from ts k)) (Item_read x m) (d < reach x)
  unfolding element_by
  plain_read x ts m k sz g n nd h fo = if_no (eqb (kind ts) dot_dot_dot_kind) _ _ _ _ nd
      (then_reads (inner.expr (with_in c) assignment_level (from ts k)) _ (λ y. (y.1.source ≡ m) × Refines false y.0 x y.1) (d < reach x) _ _ (cov x p c ts m k sz g h.0 n h.1 fo) (λ u. u)
      (λ y v. ended _ _ _ (record { source = v.0; refines = record { so = λ bb ft i t. v.1.so bb ft i t }; rests = sym n })))

  item_read : (x : Tree) (ts m : Input) (k : List ℕ) → size x < z → Covered x → Item (coded p c) (child x (λ y. Produces x y)) ts m → ((e : ℕ) → Follow (with_in c) e 2 m) → Reads (from ts k) (element_by lm inner c (from ts k)) (Item_read x m) (d < reach x)
  item_read (rest_pat s q a) ts m k sz g h fo = spread_read s q a ts m k (omega arith) g h fo
  item_read (param s ds a) ts m k sz g h fo = absurd (true≢false (sym h.0))
  item_read x ts m k sz g h fo = plain_read x ts m k sz g refl (no_kind begins (kind ts) dot_dot_dot_kind (item_begins x (coded p (with_in c)) ts m g h.0 refl h.1) refl) h fo

  module _ (holes : Bool) (close : ℕ) (q : Code) (cl : closes close ≡ true) (qu : quiet close ≡ true) (nb : begins close ≡ false) where
    not_here : (x : Tree) (ts m : Input) (n : ℕ) → begins n ≡ false → eqb dot_dot_dot_kind n ≡ false → Covered x → Item (coded p c) (child x (λ y. Produces x y)) ts m → eqb (kind ts) n ≡ false
    not_here x ts m n b o g h = ⊎_elim (λ (w : begins (kind ts) ≡ true). no_kind begins (kind ts) n w b) (λ (e : kind ts ≡ dot_dot_dot_kind). subst (λ (i : ℕ). eqb i n ≡ false) (sym e) o) (item_starts x (coded p (with_in c)) ts m g h.0 h.1)

    no_dots : eqb dot_dot_dot_kind close ≡ false
    no_dots = ne_eqb dot_dot_dot_kind close (λ q. true≢false (sym cl ∙ ap closes (sym q)))

    abbrev answer_on : List Tree → Tree → Step Elements
    answer_on acc x = go_on (record { items = acc ++ x ∷ []; comma = true })

    abbrev answer_end : List Tree → Tree → Step Elements
    answer_end acc x = finished (record { items = acc ++ x ∷ []; comma = false })

    before : (x : Tree) (acc : List Tree) (b : Bool) (ts m : Input) (k : List ℕ) (V : Step Elements × State Input → Type 0) → size x < z → Covered x → Item (coded p c) (child x (λ y. Produces x y)) ts m → ((e : ℕ) → Follow (with_in c) e 2 m)
        → ((e : Tree × State Input) → Item_read x m e → Reads e.1 (after_element lm inner close (acc ++ e.0 ∷ []) e.1) V (d < reach x)) → Reads (from ts k) (element_step lm inner c holes close (record { items = acc; comma = b }) (from ts k)) V (d < reach x)
    unfolding element_step
    before x acc b ts m k V sz g h fo y = if_no (eqb (kind ts) close) _ _ V _ (not_here x ts m close nb no_dots g h) (if_no (holes && (kind ts == comma_kind)) _ _ V _ (and_right holes _ (not_here x ts m comma_kind refl refl g h))
        (then_reads (element_by lm inner c (from ts k)) _ (Item_read x m) (d < reach x) V _ (item_read x ts m k sz g h fo) (λ u. u) y))

    step_on : (x : Tree) (acc : List Tree) (b : Bool) (ts m r : Input) (k : List ℕ) → size x < z → Covered x → Item (coded p c) (child x (λ y. Produces x y)) ts m → kind m ≡ comma_kind → rest m ≡ r
        → Reads (from ts k) (element_step lm inner c holes close (record { items = acc; comma = b }) (from ts k)) (Item_step false x (answer_on acc) r) (d < reach x)
    unfolding after_element
    step_on x acc b ts m r k sz g h e t = before x acc b ts m k (Item_step false x (answer_on acc) r) sz g h (λ n. comma_after (with_in c) n 2 m e (omega arith))
        (λ y v. if_yes (eqb (kind y.1.source) comma_kind) _ _ _ _ (eq-eqb (kind y.1.source) comma_kind (ap (λ (w : Input). kind w) v.source ∙ e))
        (past_ended y.1 (answer_on acc y.0) (Item_step false x (answer_on acc) r) _ (λ a. record { tree = y.0; step = refl; source = ap (λ (w : Input). rest w) v.source ∙ t; refines = later false y.0 x y.1 (past lm y.1) v.refines a; rests = v.rests })))

    step_end : (x : Tree) (acc : List Tree) (b : Bool) (ts m r : Input) (k : List ℕ) → size x < z → Covered x → Item (coded p c) (child x (λ y. Produces x y)) ts m → kind m ≡ close → rest m ≡ r
        → Reads (from ts k) (element_step lm inner c holes close (record { items = acc; comma = b }) (from ts k)) (Item_step false x (answer_end acc) r) (d < reach x)
    unfolding after_element
    step_end x acc b ts m r k sz g h e t = before x acc b ts m k (Item_step false x (answer_end acc) r) sz g h (λ n. closed_by (with_in c) n 2 close m e cl qu (omega arith))
        (λ y v. let o : kind y.1.source ≡ close = ap (λ (w : Input). kind w) v.source ∙ e in
        if_no (eqb (kind y.1.source) comma_kind) _ _ _ _ (no_kind closes (kind y.1.source) comma_kind (subst (λ (n : ℕ). closes n ≡ true) (sym o) cl) refl)
        (eat_ended close y.1 (answer_end acc y.0) (Item_step false x (answer_end acc) r) _ o (λ a. record { tree = y.0; step = refl; source = ap (λ (w : Input). rest w) v.source ∙ t; refines = later false y.0 x y.1 (past lm y.1) v.refines a; rests = v.rests })))

    cover_loop : (xs : Trees) (acc pacc : List Tree) (b : Bool) (ts r : Input) (k : List ℕ) (n : ℕ) → sizes xs < z → CoveredAll xs → Listed holes (Item (coded p c)) q close (children xs) ts r → reaches xs ≤ n → Fronts false acc pacc (from ts k)
        → Loops (element_step lm inner c holes close) (record { items = acc; comma = b }) ts k (Covered_list false (pacc ++ unpack xs) r) (d < n)
    unfolding element_step
    cover_loop none acc pacc b ts r k n sz g h le fr = loop_after _ _ ts k (Is (finished (record { items = acc; comma = b })) r) ⊥ _ _ (if_yes (eqb (kind ts) close) _ _ _ _ (eq-eqb (kind ts) close h.0) (past_here refl h.2)) (λ u. absurd u)
        (λ y v a. goes_end (element_step lm inner c holes close) ts _ (d < n) (record { items = acc; comma = b }) y v.0 (record { source = v.1; comma = and_right b _ (no_last false acc pacc (from ts k) fr); rows = subst (λ ps. Rows false acc ps y.1) (sym (append-nil pacc)) (rows_all false acc pacc y.1 (fronts_later false acc pacc (from ts k) y.1 fr a)) }))
    cover_loop (more x xs) acc pacc b ts r k n sz g h le fr = by_cases (holes && is_hole x) _ _ _ h
        (λ e y. let w = and_parts holes (is_hole x) e in
        loop_after _ _ ts k (Is (go_on (record { items = acc ++ hole ∷ []; comma = false })) y.0) ⊥ _ _
        (if_no (eqb (kind ts) close) _ _ _ _ (ne_eqb (kind ts) close (λ u. true≢false (sym cl ∙ ap closes (sym u ∙ y.1.0)))) (if_yes (holes && (kind ts == comma_kind)) _ _ _ _ (and_from holes _ w.0 (eq-eqb (kind ts) comma_kind y.1.0)) (past_here refl y.1.2))) (λ u. absurd u)
        (λ o v a. goes_on ts _ (d < n) (record { items = acc ++ hole ∷ []; comma = false }) o v.0 (omega (arith, takes comma_kind ts y.0 y.1.0 (omega arith) y.1.2, ap (λ (i : Input). len i) v.1))
        (subst (λ ps. Loops (element_step lm inner c holes close) (record { items = acc ++ hole ∷ []; comma = false }) o.1.source o.1.commas (Covered_list false ps r) (d < n)) (append_assoc pacc (hole ∷ []) (unpack xs) ∙ ap (λ (u : Tree). pacc ++ (u ∷ unpack xs)) (sym (hole_is x w.1)))
        (cover_loop xs (acc ++ hole ∷ []) (pacc ++ hole ∷ []) false o.1.source r o.1.commas n (omega arith) g.1 (subst (λ (i : Input). Listed holes (Item (coded p c)) q close (children xs) i r) (sym v.1) y.2) (omega arith)
        (fronts_snoc false acc pacc hole hole o.1 (fronts_later false acc pacc (from ts k) o.1 fr a) (refines_hole o.1) refl)))))
        (λ e y. ⊎_elim
        (λ v. loop_after _ _ ts k (Item_step false x (answer_on acc) v.1) (d < reach x) _ _ (step_on x acc b ts y.0 v.1 k (omega arith) g.0 y.1 v.2.0 v.2.2) (λ u. omega arith)
        (λ o w a. goes_on ts _ (d < n) (record { items = acc ++ w.tree ∷ []; comma = true }) o w.step (omega (arith, item_taken false x _ ts y.0 y.1.0 y.1.1, takes comma_kind y.0 v.1 v.2.0 (omega arith) v.2.2, ap (λ (i : Input). len i) w.source))
        (subst (λ ps. Loops (element_step lm inner c holes close) (record { items = acc ++ w.tree ∷ []; comma = true }) o.1.source o.1.commas (Covered_list false ps r) (d < n)) (append_assoc pacc (x ∷ []) (unpack xs))
        (cover_loop xs (acc ++ w.tree ∷ []) (pacc ++ x ∷ []) true o.1.source r o.1.commas n (omega arith) g.1 (subst (λ (i : Input). Listed holes (Item (coded p c)) q close (children xs) i r) (sym w.source) v.3) (omega arith)
        (fronts_snoc false acc pacc w.tree x o.1 (fronts_later false acc pacc (from ts k) o.1 fr a) w.refines (w.rests ∙ v.0))))))
        (λ v. loop_after _ _ ts k (Item_step false x (answer_end acc) r) (d < reach x) _ _ (step_end x acc b ts y.0 r k (omega arith) g.0 y.1 v.1.0 v.1.2) (λ u. omega arith)
        (λ o w a. goes_end (element_step lm inner c holes close) ts _ (d < n) (record { items = acc ++ w.tree ∷ []; comma = false }) o w.step (record {
          source = w.source;
          comma = refl;
          rows = subst (λ ps. Rows false (acc ++ w.tree ∷ []) ps o.1) (ap (λ us. pacc ++ (x ∷ us)) (sym (no_more xs v.0))) (rows_last false acc pacc w.tree x o.1 (fronts_later false acc pacc (from ts k) o.1 fr a) w.refines);
        })))
        y.2)

    pub covers_found : (xs : Trees) (ts r : Input) (k : List ℕ) (n : ℕ) → sizes xs < z → CoveredAll xs → Listed holes (Item (coded p c)) q close (children xs) ts r → reaches xs ≤ n → Reads (from ts k) (elements_by lm inner c holes close (from ts k)) (Covered_list false (unpack xs) r) (d < n)
    unfolding elements_by
    covers_found xs ts r k n sz g h le = looped _ no_elements ts k _ _ (cover_loop xs [] [] false ts r k n sz g h le tt)

-- ---- arrays and objects

-- What is read where a pattern in brackets stands.
pub record Cover_read (t : Tree) (r : Input) (y : Tree × State Input) : Type 0 where
  pub source : y.1.source ≡ r
  pub refines : Refines false y.0 t y.1
  pub target : (k : List ℕ) → to_target assign_kind k y.0 ≡ to_item false k y.0
  pub head : (k : List ℕ) → to_head k y.0 ≡ to_item false k y.0
  pub tight : level y.0 ≡ 21
  pub closed : ends y.0 ≡ 0
  pub last : tail y.0 ≡ 21

-- the start of an array or an object is noted by none but itself
not_noted : (ts : Input) (k : List ℕ) (s : State Input) → Fresh (from ts k) → (kind ts ≡ 0 → ⊥) → (kind ts ≡ template_kind → ⊥) → After (from (rest ts) k) s → (i : List ℕ) → ((n : ℕ) → n < s.source.last → has n i ≡ has n s.commas) → has (lo ts) i ≡ false
not_noted ts k s fr a b af i h = let w = starts_here ts.last ts.places fr.order a b in
    h (lo ts) (omega (arith, w.1, af.last)) ∙ af.kept (lo ts) w.1 ∙ false_from_ne_true (has (lo ts) k) (λ q. omega (arith, fr.below (lo ts) q, w.0))

pub array_cover : (z d : ℕ) (cov : Covering z d) (p : Bool) (c : Code) (lev : ℕ) (s : Span) (xs : Trees) (ts m r : Input) (k : List ℕ) (Q : Type 0) → sizes xs < z → CoveredAll xs → kind ts ≡ left_bracket_kind → rest ts ≡ m → Listed true (Item (coded p c)) (coded p c) right_bracket_kind (children xs) m r → s ≡ span (lo ts) r.last → (d < reaches xs → Q)
    → Reads (from ts k) (prefix_by lm (readers lm d) c lev (from ts k)) (Cover_read (array_pat s xs) r) Q
unfolding prefix_by array_by
array_cover z d cov p c lev s xs ts m r k Q sz g e q h sp i = rw e (noted_then ts m k (elements_by lm (readers lm d) c true right_bracket_kind) _ _ (Covered_list false (unpack xs) r) (d < reaches xs) (Cover_read (array_pat s xs) r) Q (λ u. omega (arith, e, u)) (λ u. omega (arith, e, u)) q
    (covers_found z d cov p c true right_bracket_kind (coded p c) refl refl refl xs m r k (reaches xs) sz g h (omega arith)) i
    (λ y v fr a. subst (λ b. Cover_read (array_pat s xs) r (array_lit (span (lo ts) y.1.source.last) (pack y.0.items), noted_at b (lo ts) y.1)) (sym v.comma) (record {
      source = v.source;
      refines = record {
        so = λ bb ft o t. rw (not_noted ts k y.1 fr (λ u. omega (arith, e, u)) (λ u. omega (arith, e, u)) a o t, v.rows.so bb (subst (λ ys. FitAll bb ys) (sym (pack_unpack xs)) ft) o t)
            (ap (λ (w : Input). Ok (array_pat (span (lo ts) w.last) (pack (unpack xs)))) v.source ∙ ap (λ w. Ok (array_pat w (pack (unpack xs)))) (sym sp) ∙ ap (λ ys. Ok (array_pat s ys)) (pack_unpack xs));
      };
      target = λ o. refl;
      head = λ o. refl;
      tight = refl;
      closed = refl;
      last = refl;
    })))

-- ---- properties

-- What is read where this property stands is refined to it.
pub record Prop_read (x : Tree) (m : Input) (y : Tree × State Input) : Type 0 where
  pub source : y.1.source ≡ m
  pub refines : Refines true y.0 x y.1
  pub rests : is_rest_item y.0 ≡ is_rest x

module _ (z d : ℕ) (f : Finds z d) (cov : Covering z d) (p : Bool) (c : Code) where
  abbrev within : Inner Input
  within = readers lm d

  spread_prop : (s q : Span) (a : Tree) (ts m : Input) (k : List ℕ) → size a < z → Covered a → Property (coded p c) (child (rest_pat s q a) (λ y. Produces (rest_pat s q a) y)) ts m → Divides z d f p c m → Reads (from ts k) (prop_by lm within c (from ts k)) (Prop_read (rest_pat s q a) m) (d < reach a)
  unfolding prop_by
  spread_prop s q a ts m k sz g h v = let w = place_plain a h.2.3 in
      if_yes (eqb (kind ts) dot_dot_dot_kind) _ _ _ _ (eq-eqb (kind ts) dot_dot_dot_kind h.2.1.0)
      (then_past_reads ts h.2.0 k (within.expr (with_in c) assignment_level) _ (λ y. (y.1.source ≡ m) × Refines false y.0 a y.1) (d < reach a) _ _ h.2.1.2 (cov a p c h.2.0 m k sz g w.0 w.1 h.2.4 (divided z d f p c m v)) (λ u. u)
      (λ y u. ended _ _ _ (record {
        source = u.0;
        refines = record {
          so = λ bb ft i t. rw (u.1.so bb ft i t, not_true (is_structured a) h.1) (rest_refines (span (lo ts) y.1.source.last) a h.2.3 ∙ ap (λ (w : Input). Ok (rest_pat (span (lo ts) w.last) (dots_at (lo ts)) a)) u.0
              ∙ ap (λ w. Ok (rest_pat w (dots_at (lo ts)) a)) (sym h.2.5) ∙ ap (λ w. Ok (rest_pat s w a)) (sym h.2.2));
        };
        rests = refl;
      })))
    where
      not_true : (b : Bool) → not b ≡ true → b ≡ false
      not_true true h = absurd (true≢false (sym h))
      not_true false h = refl

  keyed_prop : (s : Span) (x a : Tree) (ts m : Input) (k : List ℕ) → size x < z → size a < z → Covered x → Covered a → is_rest a ≡ false → Property (coded p c) (child (key_value_pat_prop s x a) (λ y. Produces (key_value_pat_prop s x a) y)) ts m → Divides z d f p c m
      → Reads (from ts k) (prop_by lm within c (from ts k)) (Prop_read (key_value_pat_prop s x a) m) (d < max (reach x) (reach a))
  unfolding prop_rest
  keyed_prop s x a ts m k sx sa gx ga n h v = let w = key_starts x (coded p (with_in c)) ts h.2.0 h.2.2.0 h.2.2.1 in
      plain_prop z d f p c ts k (Prop_read (key_value_pat_prop s x a) m) (d < max (reach x) (reach a)) w.0 (next w.1)
      (then_is (key_by lm within c (from ts k)) _ x h.2.0 (d < reach x) _ _ (key_found z d f p c x ts h.2.0 k sx gx h.2.2.0 (coded p (with_in c)) refl h.2.2.1) (λ u. omega arith)
      (λ j. if_yes (eqb (kind h.2.0) colon_kind) _ _ _ _ (eq-eqb (kind h.2.0) colon_kind h.2.3.0)
      (then_past_reads h.2.0 h.2.1 j (within.expr (with_in c) assignment_level) _ (λ y. (y.1.source ≡ m) × Refines false y.0 a y.1) (d < reach a) _ _ h.2.3.2 (cov a p c h.2.1 m j sa ga h.2.4.0 n h.2.4.1 (divided z d f p c m v)) (λ u. omega arith)
      (λ y u. ended _ _ _ (record {
        source = u.0;
        refines = record { so = λ bb ft i t. rw (u.1.so bb ft i t) (ap (λ (w : Input). Ok (key_value_pat_prop (span (lo ts) w.last) x a)) u.0 ∙ ap (λ w. Ok (key_value_pat_prop w x a)) (sym h.2.6)) };
        rests = refl;
      })))))
    where
      next : OneWord ts h.2.0 → Plain z d f p c ts
      next (inl w) = inr (subst (λ (y : Input). plain_next z d f p c (kind y) ≡ true) (sym w.1) (subst (λ (y : ℕ). plain_next z d f p c y ≡ true) (sym h.2.3.0) refl))
      next (inr w) = inl w

  named_prop : (s q t : Span) (x : List ℕ) (ts m : Input) (k : List ℕ) {Q : Type 0} → Produces (assign_pat_prop s (binding_ident q (ident t x)) absent) (coded p (with_in c)) ts m → Divides z d f p c m → Reads (from ts k) (prop_by lm within c (from ts k)) (Prop_read (assign_pat_prop s (binding_ident q (ident t x)) absent) m) Q
  named_prop s q t x ts m k {Q = Q} h v =
      let to : Produces (ident q x) (coded p (with_in c)) ts m = subst (λ (y : Input). Produces (ident q x) (coded p (with_in c)) ts y) h.2 h.1.1.1 in
      reads_map _ (λ y w. record {
        source = w.1;
        refines = record {
          so = λ bb ft i u. subst (λ (o : Tree). as_prop true o (to_item bb i o) ≡ Ok (assign_pat_prop s (binding_ident q (ident t x)) absent)) (sym w.0)
              (ap (λ (o : Span). Ok (assign_pat_prop o (binding_ident q (ident q x)) absent)) (sym (h.3 ∙ sym to.1)) ∙ ap (λ (o : Span). Ok (assign_pat_prop s (binding_ident q (ident o x)) absent)) h.1.1.0);
        };
        rests = subst (λ (o : Tree). is_rest_item o ≡ false) (sym w.0) refl;
      }) (short_prop z d f p c q x ts m k Q (coded p (with_in c)) (to.0.0, to.0.1, to.0.2) to v)

  valued_prop : (s q t : Span) (x : List ℕ) (e : Tree) (ts m : Input) (k : List ℕ) → is_absent e ≡ false → size e < z → Covered e → Produces (assign_pat_prop s (binding_ident q (ident t x)) e) (coded p (with_in c)) ts m → Divides z d f p c m
      → Reads (from ts k) (prop_by lm within c (from ts k)) (Prop_read (assign_pat_prop s (binding_ident q (ident t x)) e) m) (d < reach e)
  valued_prop s q t x e ts m k ne sz g h v = by_cases (is_absent e) _ _ _ h.2 (λ w. absurd (true≢false (sym w ∙ ne))) (λ w u.
      let to = h.1.1.1 in
      reads_map _ (λ y o. record {
        source = o.1;
        refines = record {
          so = λ bb ft i l. subst (λ (b : Tree). as_prop true b (to_item bb i b) ≡ Ok (assign_pat_prop s (binding_ident q (ident t x)) e)) (sym o.0) (ap (λ (b : Span). Ok (assign_pat_prop s (binding_ident q (ident b x)) e)) h.1.1.0);
        };
        rests = subst (λ (b : Tree). is_rest_item b ≡ false) (sym o.0) refl;
      }) (cover_prop z d f p c s q x e ts h.0 u.0 m k sz g (coded p (with_in c)) (to.0.0, to.0.1, to.0.2) to u.1.0 u.1.2 u.2.0 u.2.1 h.3 v))

  prop_read : (x : Tree) (ts m : Input) (k : List ℕ) → size x < z → Covered x → Property (coded p c) (child x (λ y. Produces x y)) ts m → Divides z d f p c m → Reads (from ts k) (prop_by lm within c (from ts k)) (Prop_read x m) (d < reach x)
  prop_read (rest_pat s q a) ts m k sz g h v = spread_prop s q a ts m k (omega arith) g h v
  prop_read (key_value_pat_prop s x a) ts m k sz g h v = keyed_prop s x a ts m k (omega arith) (omega arith) g.0 g.1 h.2.5 h v
  prop_read (assign_pat_prop s (binding_ident q (ident t x)) absent) ts m k sz g h v = named_prop s q t x ts m k h.2 v
  prop_read (assign_pat_prop s (binding_ident q (ident t x)) e) ts m k sz g h v = valued_prop s q t x e ts m k refl (omega arith) g.1 h.2 v
  prop_read (assign_pat_prop s (binding_ident q i) e) ts m k sz g h v = absurd h.2.1.1
  prop_read (assign_pat_prop s x e) ts m k sz g h v = absurd (true≢false (sym h.2.1.0))
  prop_read _ ts m k sz g h v = absurd (true≢false (sym h.0))

  prop_here : (x : Tree) (ts m : Input) → Property (coded p c) (child x (λ y. Produces x y)) ts m → eqb (kind ts) right_brace_kind ≡ false
  prop_here (rest_pat s q a) ts m h = ne_eqb (kind ts) right_brace_kind (λ e. omega (arith, e, h.2.1.0))
  prop_here (key_value_pat_prop s x a) ts m h = no_kind begins_key (kind ts) right_brace_kind (key_starts x (coded p (with_in c)) ts h.2.0 h.2.2.0 h.2.2.1).0 refl
  prop_here (assign_pat_prop s (binding_ident q (ident t x)) e) ts m h = no_kind is_word (kind ts) right_brace_kind h.2.1.1.1.0.0 refl
  prop_here (assign_pat_prop s (binding_ident q i) e) ts m h = absurd h.2.1.1
  prop_here (assign_pat_prop s x e) ts m h = absurd (true≢false (sym h.2.1.0))
  prop_here _ ts m h = absurd (true≢false (sym h.0))

  abbrev prop_on : List Tree → Tree → Step Elements
  prop_on acc x = go_on (record { items = acc ++ x ∷ []; comma = true })

  abbrev prop_end : List Tree → Tree → Step Elements
  prop_end acc x = finished (record { items = acc ++ x ∷ []; comma = false })

  props_on : (x : Tree) (acc : List Tree) (b : Bool) (ts m r : Input) (k : List ℕ) → size x < z → Covered x → Property (coded p c) (child x (λ y. Produces x y)) ts m → kind m ≡ comma_kind → rest m ≡ r
      → Reads (from ts k) (prop_step lm within c (record { items = acc; comma = b }) (from ts k)) (Item_step true x (prop_on acc) r) (d < reach x)
  unfolding prop_step after_element
  props_on x acc b ts m r k sz g h e t = if_no (eqb (kind ts) right_brace_kind) _ _ _ _ (prop_here x ts m h) (then_reads (prop_by lm within c (from ts k)) _ (Prop_read x m) (d < reach x) _ _ (prop_read x ts m k sz g h (inl e)) (λ u. u)
      (λ y v. if_yes (eqb (kind y.1.source) comma_kind) _ _ _ _ (eq-eqb (kind y.1.source) comma_kind (ap (λ (w : Input). kind w) v.source ∙ e))
      (past_ended y.1 (prop_on acc y.0) (Item_step true x (prop_on acc) r) _ (λ a. record { tree = y.0; step = refl; source = ap (λ (w : Input). rest w) v.source ∙ t; refines = later true y.0 x y.1 (past lm y.1) v.refines a; rests = v.rests }))))

  props_end : (x : Tree) (acc : List Tree) (b : Bool) (ts m r : Input) (k : List ℕ) → size x < z → Covered x → Property (coded p c) (child x (λ y. Produces x y)) ts m → kind m ≡ right_brace_kind → rest m ≡ r
      → Reads (from ts k) (prop_step lm within c (record { items = acc; comma = b }) (from ts k)) (Item_step true x (prop_end acc) r) (d < reach x)
  unfolding prop_step after_element
  props_end x acc b ts m r k sz g h e t = if_no (eqb (kind ts) right_brace_kind) _ _ _ _ (prop_here x ts m h) (then_reads (prop_by lm within c (from ts k)) _ (Prop_read x m) (d < reach x) _ _ (prop_read x ts m k sz g h (inr e)) (λ u. u)
      (λ y v. let o : kind y.1.source ≡ right_brace_kind = ap (λ (w : Input). kind w) v.source ∙ e in
      if_no (eqb (kind y.1.source) comma_kind) _ _ _ _ (ne_eqb (kind y.1.source) comma_kind (λ q. omega (arith, q, o)))
      (eat_ended right_brace_kind y.1 (prop_end acc y.0) (Item_step true x (prop_end acc) r) _ o (λ a. record { tree = y.0; step = refl; source = ap (λ (w : Input). rest w) v.source ∙ t; refines = later true y.0 x y.1 (past lm y.1) v.refines a; rests = v.rests }))))

  props_loop : (xs : Trees) (acc pacc : List Tree) (b : Bool) (ts r : Input) (k : List ℕ) (n : ℕ) → sizes xs < z → CoveredAll xs → Listed false (Property (coded p c)) (coded p c) right_brace_kind (children xs) ts r → reaches xs ≤ n → Fronts true acc pacc (from ts k)
      → Loops (prop_step lm within c) (record { items = acc; comma = b }) ts k (Covered_list true (pacc ++ unpack xs) r) (d < n)
  unfolding prop_step
  props_loop none acc pacc b ts r k n sz g h le fr = loop_after _ _ ts k (Is (finished (record { items = acc; comma = b })) r) ⊥ _ _ (if_yes (eqb (kind ts) right_brace_kind) _ _ _ _ (eq-eqb (kind ts) right_brace_kind h.0) (past_here refl h.2)) (λ u. absurd u)
      (λ y v a. goes_end (prop_step lm within c) ts _ (d < n) (record { items = acc; comma = b }) y v.0 (record { source = v.1; comma = and_right b _ (no_last true acc pacc (from ts k) fr); rows = subst (λ ps. Rows true acc ps y.1) (sym (append-nil pacc)) (rows_all true acc pacc y.1 (fronts_later true acc pacc (from ts k) y.1 fr a)) }))
  props_loop (more x xs) acc pacc b ts r k n sz g h le fr = ⊎_elim
      (λ v. loop_after _ _ ts k (Item_step true x (prop_on acc) v.1) (d < reach x) _ _ (props_on x acc b ts h.0 v.1 k (omega arith) g.0 h.1 v.2.0 v.2.2) (λ u. omega arith)
      (λ o w a. goes_on ts _ (d < n) (record { items = acc ++ w.tree ∷ []; comma = true }) o w.step (omega (arith, property_taken x (coded p c) ts h.0 h.1, takes comma_kind h.0 v.1 v.2.0 (omega arith) v.2.2, ap (λ (i : Input). len i) w.source))
      (subst (λ ps. Loops (prop_step lm within c) (record { items = acc ++ w.tree ∷ []; comma = true }) o.1.source o.1.commas (Covered_list true ps r) (d < n)) (append_assoc pacc (x ∷ []) (unpack xs))
      (props_loop xs (acc ++ w.tree ∷ []) (pacc ++ x ∷ []) true o.1.source r o.1.commas n (omega arith) g.1 (subst (λ (i : Input). Listed false (Property (coded p c)) (coded p c) right_brace_kind (children xs) i r) (sym w.source) v.3) (omega arith)
      (fronts_snoc true acc pacc w.tree x o.1 (fronts_later true acc pacc (from ts k) o.1 fr a) w.refines (w.rests ∙ v.0))))))
      (λ v. loop_after _ _ ts k (Item_step true x (prop_end acc) r) (d < reach x) _ _ (props_end x acc b ts h.0 r k (omega arith) g.0 h.1 v.1.0 v.1.2) (λ u. omega arith)
      (λ o w a. goes_end (prop_step lm within c) ts _ (d < n) (record { items = acc ++ w.tree ∷ []; comma = false }) o w.step (record {
        source = w.source;
        comma = refl;
        rows = subst (λ ps. Rows true (acc ++ w.tree ∷ []) ps o.1) (ap (λ us. pacc ++ (x ∷ us)) (sym (no_more xs v.0))) (rows_last true acc pacc w.tree x o.1 (fronts_later true acc pacc (from ts k) o.1 fr a) w.refines);
      })))
      h.2

  pub object_cover : (lev : ℕ) (s : Span) (xs : Trees) (ts m r : Input) (k : List ℕ) (Q : Type 0) → sizes xs < z → CoveredAll xs → kind ts ≡ left_brace_kind → rest ts ≡ m → Listed false (Property (coded p c)) (coded p c) right_brace_kind (children xs) m r → s ≡ span (lo ts) r.last → (d < reaches xs → Q)
      → Reads (from ts k) (prefix_by lm within c lev (from ts k)) (Cover_read (object_pat s xs) r) Q
  unfolding prefix_by object_by
  object_cover lev s xs ts m r k Q sz g e q h sp i = rw e (noted_then ts m k (iterate (bound lm) (prop_step lm within c) no_elements) _ _ (Covered_list true (unpack xs) r) (d < reaches xs) (Cover_read (object_pat s xs) r) Q (λ u. omega (arith, e, u)) (λ u. omega (arith, e, u)) q
      (looped (prop_step lm within c) no_elements m k (Covered_list true (unpack xs) r) (d < reaches xs) (props_loop xs [] [] false m r k (reaches xs) sz g h (omega arith) tt)) i
      (λ y v fr a. subst (λ b. Cover_read (object_pat s xs) r (object_lit (span (lo ts) y.1.source.last) (pack y.0.items), noted_at b (lo ts) y.1)) (sym v.comma) (record {
        source = v.source;
        refines = record {
          so = λ bb ft o t. rw (not_noted ts k y.1 fr (λ u. omega (arith, e, u)) (λ u. omega (arith, e, u)) a o t, v.rows.so bb (subst (λ ys. FitAll bb ys) (sym (pack_unpack xs)) ft) o t)
              (ap (λ (w : Input). Ok (object_pat (span (lo ts) w.last) (pack (unpack xs)))) v.source ∙ ap (λ w. Ok (object_pat w (pack (unpack xs)))) (sym sp) ∙ ap (λ ys. Ok (object_pat s ys)) (pack_unpack xs));
        };
        target = λ o. refl;
        head = λ o. refl;
        tight = refl;
        closed = refl;
        last = refl;
      })))
