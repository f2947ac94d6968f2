-- Reading comes to the loop with a tree in hand, and so reads it, since the loop stops there.
use Rattle.std.proofs.Common.{◌≡◌, ℕ, zero, suc, ◌<◌, ◌≤◌, ◌⊎◌, ⊎_elim, Bool, true, false, not, ◌&&◌, ◌==◌, eqb, leb, ltb, List, Ok, refl, sym, ap, ◌∙◌, subst, arith}
use Rattle.std.proofs.lemmas.Bool.{ne_eqb, eq-eqb, lt-ltb, leb-true, and_from, and_left, or_left, false_from_ne_true}
use Rattle.base_proofs.proofs.Bools.{cond_second, cond_first}
use Rattle.base_token.specs.declared.place.Span.{Span}
use Rattle.base_token.specs.Kinds.{async_kind, comma_kind, dot_kind, question_mark_kind, left_paren_kind, left_bracket_kind, right_paren_kind, function_kind}
use Rattle.tree_spec.specs.Tree.{Tree, Trees, none, more, this_expr, null_lit, bool_lit, ident, str_lit, number_lit, big_int_lit, regex_lit, paren_expr, array_lit, unary_expr, update_expr, await_expr, bin_expr, cond_expr, seq_expr, member_expr, call_expr, new_expr, computed_prop_name, ident_name, private_name, expr_or_spread, hole, absent, list, tpl, tagged_tpl, opt_chain_expr, opt_call, super, import, super_prop_expr, meta_prop_expr, yield_expr, object_lit, key_value_prop, assign_prop, spread_element, binding_ident, array_pat, object_pat, assign_pat, rest_pat, key_value_pat_prop, assign_pat_prop, expr_pat, assign_expr, arrow_expr, fn_expr, class_expr}
use Rattle.grammar_spec.specs.Tokens.Input.{Input, Code, kind, kind2, brk, rest, is_word, with_in, in_arrow, lo}
use Rattle.grammar_spec.specs.Tokens.Operators.{assignment_level, right_level, other_end, operates, goes_expr, is_assign_op}
use Rattle.grammar_spec.specs.Tokens.Shape.{level, ends, last_ends, is_block, is_absent}
use Rattle.grammar_spec.specs.Expressions.{is_update_op, Yield}
use Rattle.grammar_spec.specs.Functions.{ArrowExpression}
use Rattle.grammar_spec.specs.Children.{child, CommaThen, Expr}
use Rattle.grammar_spec.specs.Grammar.{Produces, children}
use Rattle.grammar_spec.specs.Reader.Source.{State, Inner}
use Rattle.grammar_spec.specs.Reader.Expressions.{Elements, elements_by, heads_params, arrows_at, expr_by, loop_step}
use Rattle.grammar_spec.specs.Reader.Reading.{readers}
use Rattle.grammar_laws.proofs.complete_base.Yields.{lm, from, coded, Is, Loops, loop_end, Reads, here, if_yes, too_deep}
use Rattle.grammar_laws.proofs.complete_base.Levels.{Follow, sober, arrowed, quits, calm_at, Asked, tail, tail_high, ends_high, right_asked, binary_cases, tail_stops, tail_calm, operated, quiet}
use Rattle.grammar_laws.proofs.complete_base.Trees.{Covered, size, reach, by_update}
use Rattle.grammar_laws.proofs.complete_rules.Prefixes.{Lone, lone_by}
use Rattle.grammar_laws.proofs.complete_rules.Lists.{Finds, two_asked}

-- The word `async` as a name: no parenthesis follows on its line.
abbrev pub Bare : Tree → Input → Input → Type 0
Bare (ident s n) ts r = kind ts ≡ async_kind → kind r ≡ left_paren_kind → brk r ≡ true
Bare _ ts r = Unit {0}

-- Where an assignment may stand, no `=>` follows what may end in a name or a group.
pub record Calm (e l : ℕ) (r : Input) : Type 0 where
  pub calm : e ≡ other_end → l ≤ assignment_level → arrowed r ≡ false

-- ---- what is known of what stands behind a tree

-- By the code in which the tree stands, the level that is asked for, and what it spells; and of expressions after commas.
pub record Behind : Type 1 where
  pub tree : Bool → Code → ℕ → Tree → Input → Input → Type 0
  pub trees : Bool → Code → Trees → Input → Input → Type 0

-- the elements of a group, by readers of any depth, are no parameters of an arrow here
abbrev pub NoParams : Code → ℕ → Input → Input → Type 0
NoParams c l m r = (d : ℕ) (k : List ℕ) (x : Elements × State Input) → elements_by lm (readers lm d) c false right_paren_kind (from m k) ≡ Ok x → x.1.source ≡ r → heads_params lm (readers lm d) l x.0 x.1 ≡ false

-- What is known behind a tree is known behind its last operand; and behind the last token it is that this one ends there: no arrow goes on with a
-- name or a group, nor a function or an arrow with the word `async`, nor an operand with `yield`.
pub record Leads (F : Behind) : Type 0 where
  pub update : (p : Bool) (c : Code) (l : ℕ) (s : Span) (op : ℕ) (a : Tree) (ts r : Input) → F.tree p c l (update_expr s op true a) ts r → (h : Produces (update_expr s op true a) (coded p c) ts r) → F.tree p c 16 a h.0 r
  pub unary : (p : Bool) (c : Code) (l : ℕ) (s : Span) (op : ℕ) (a : Tree) (ts r : Input) → F.tree p c l (unary_expr s op a) ts r → (h : Produces (unary_expr s op a) (coded p c) ts r) → F.tree p c 16 a h.0 r
  pub awaits : (p : Bool) (c : Code) (l : ℕ) (s : Span) (a : Tree) (ts r : Input) → F.tree p c l (await_expr s a) ts r → (h : Produces (await_expr s a) (coded p c) ts r) → F.tree p c 16 a h.0 r
  pub binary : (p : Bool) (c : Code) (l : ℕ) (s : Span) (op : ℕ) (a b : Tree) (ts r : Input) → F.tree p c l (bin_expr s op a b) ts r → (h : Produces (bin_expr s op a b) (coded p c) ts r) → F.tree p c (right_level op) b h.1 r
  pub conditional : (p : Bool) (c : Code) (l : ℕ) (s : Span) (a b t : Tree) (ts r : Input) → F.tree p c l (cond_expr s a b t) ts r → (h : Produces (cond_expr s a b t) (coded p c) ts r) → F.tree p c 2 t h.3 r
  pub assigns : (p : Bool) (c : Code) (l : ℕ) (s : Span) (op : ℕ) (a b : Tree) (ts r : Input) → F.tree p c l (assign_expr s op a b) ts r → (h : Produces (assign_expr s op a b) (coded p c) ts r) → F.tree p c 2 b h.1 r
  pub arrow : (p : Bool) (c : Code) (l : ℕ) (s : Span) (ps : Trees) (e : Tree) (i : Bool) (ts r : Input) → is_block e ≡ false → F.tree p c l (arrow_expr s ps e i) ts r → (h : ArrowExpression (coded p c) s (children ps) (child e (λ y. Produces e y)) i ts r) → F.tree p (in_arrow i c) 2 e h.0 r
  pub yields : (p : Bool) (c : Code) (l : ℕ) (s : Span) (a : Tree) (ts r : Input) → is_absent a ≡ false → F.tree p c l (yield_expr s a false) ts r → (h : Yield (coded p c) s (child a (λ y. Produces a y)) false ts r) → F.tree p c 2 a h.0 r
  pub yields_all : (p : Bool) (c : Code) (l : ℕ) (s : Span) (a : Tree) (ts r : Input) → is_absent a ≡ false → F.tree p c l (yield_expr s a true) ts r → (h : Yield (coded p c) s (child a (λ y. Produces a y)) true ts r) → F.tree p c 2 a h.1 r
  pub sequence : (p : Bool) (c : Code) (l : ℕ) (s : Span) (x y : Tree) (ys : Trees) (ts r : Input) → F.tree p c l (seq_expr s (more x (more y ys))) ts r → (h : Produces (seq_expr s (more x (more y ys))) (coded p c) ts r) → F.trees p c (more y ys) h.0 r
  pub next : (p : Bool) (c : Code) (x y : Tree) (ys : Trees) (ts r : Input) → F.trees p c (more x (more y ys)) ts r → (h : CommaThen (Expr 2 (coded p c)) (coded p c) (children (more x (more y ys))) ts r) → F.trees p c (more y ys) h.1 r
  pub last : (p : Bool) (c : Code) (x : Tree) (ts r : Input) → F.trees p c (more x none) ts r → (h : CommaThen (Expr 2 (coded p c)) (coded p c) (children (more x none)) ts r) → F.tree p c 2 x h.0 r
  pub bare_new : (p : Bool) (c : Code) (l : ℕ) (s : Span) (f : Tree) (ts r : Input) → F.tree p c l (new_expr s f absent) ts r → (h : Produces (new_expr s f absent) (coded p c) ts r) → F.tree p c 20 f h.0 r
  pub name : (p : Bool) (c : Code) (l : ℕ) (s : Span) (n : List ℕ) (ts r : Input) → F.tree p c l (ident s n) ts r → Produces (ident s n) (coded p c) ts r → Lone c l ts r
  pub group : (p : Bool) (c : Code) (l : ℕ) (s : Span) (e : Tree) (ts r : Input) → F.tree p c l (paren_expr s e) ts r → (h : Produces (paren_expr s e) (coded p c) ts r) → NoParams (with_in c) l h.0 r
  pub call : (p : Bool) (c : Code) (l : ℕ) (s q : Span) (n : List ℕ) (xs : Trees) (ts m r : Input) → F.tree p c l (call_expr s (ident q n) xs) ts r → kind ts ≡ async_kind → rest ts ≡ m → brk m ≡ false → Produces (call_expr s (ident q n) xs) (coded p c) ts r → NoParams (with_in c) l (rest m) r
  pub idle : (p : Bool) (c : Code) (l : ℕ) (s : Span) (q : Bool) (ts r : Input) → F.tree p c l (yield_expr s absent q) ts r → Produces (yield_expr s absent q) (coded p c) ts r → quits r ≡ true

-- Reading comes to the loop with this tree in hand: what the loop answers is what reading answers.
abbrev pub Comes : ℕ → ℕ → Type 1
Comes z d = (F : Behind) → Leads F → (t : Tree) (p : Bool) (c : Code) (l : ℕ) (ts r : Input) (k : List ℕ) (W : Tree × State Input → Type 0) (n : ℕ) → size t < z → Covered t → Produces t (coded p c) ts r → 1 ≤ l → l ≤ level t → goes_expr c (ends t) r < tail t → Bare t ts r → F.tree p c l t ts r → reach t ≤ n
    → ((j : List ℕ) → Loops (loop_step lm (readers lm d) c l (lo ts)) t r j W (suc d < n)) → Reads (from ts k) (expr_by lm (readers lm d) c l (from ts k)) W (suc d < n)

pub bare_by : (t : Tree) (ts r : Input) → (kind r ≡ left_paren_kind → ⊥) → Bare t ts r
bare_by (ident s n) ts r h = λ e q. absurd (h q)
bare_by _ ts r h = tt

-- a parenthesis goes on
pub paren_goes : (c : Code) (r : Input) → kind r ≡ left_paren_kind → goes_expr c 0 r ≡ 19
paren_goes c r e = rw e refl

pub bare_stop : (t : Tree) (c : Code) (l : ℕ) (ts r : Input) → l < 20 → goes_expr c (ends t) r < l → Bare t ts r
bare_stop (ident s n) c l ts r le h = λ e q. let g = paren_goes c r q in absurd (omega (arith, g))
bare_stop _ c l ts r le h = tt

pub positive : (t : Tree) (c : Code) (ts r : Input) → Covered t → Produces t c ts r → 1 ≤ level t → 0 < reach t
positive (update_expr s op true a) c ts r g h l = omega arith
positive (update_expr s op false a) c ts r g h l = positive a _ ts h.0 g h.2.1 (omega (arith, h.2.0))
positive (member_expr s o (computed_prop_name t e)) c ts r g h l = omega arith
positive (member_expr s o k) c ts r g h l = omega (arith, positive o _ ts h.0 g.0 h.2.1 (omega (arith, h.2.0)))
positive (tpl s es qs) c ts r g h l = omega arith
positive (tagged_tpl s t (tpl q es qs)) c ts r g h l = omega arith
positive (tagged_tpl s t q) c ts r g h l = absurd h
positive (opt_chain_expr s q (member_expr t o k)) c ts r g h l = omega arith
positive (opt_chain_expr s q (opt_call t f xs)) c ts r g h l = omega arith
positive (opt_chain_expr s q b) c ts r g h l = absurd h
positive (object_lit s ps) c ts r g h l = omega arith
positive (assign_expr s op a b) c ts r g h l = omega arith
positive (arrow_expr s ps b i) c ts r g h l = omega arith
positive (binding_ident s i) c ts r g h l = absurd (omega arith)
positive (array_pat s xs) c ts r g h l = absurd (omega arith)
positive (object_pat s ps) c ts r g h l = absurd (omega arith)
positive (assign_pat s a e) c ts r g h l = absurd (omega arith)
positive (rest_pat s d a) c ts r g h l = absurd (omega arith)
positive (key_value_pat_prop s k a) c ts r g h l = absurd (omega arith)
positive (assign_pat_prop s k e) c ts r g h l = absurd (omega arith)
positive (expr_pat e) c ts r g h l = absurd (omega arith)
positive (key_value_prop s k v) c ts r g h l = absurd (omega arith)
positive (assign_prop s k e) c ts r g h l = absurd (omega arith)
positive (spread_element s e) c ts r g h l = absurd (omega arith)
positive (opt_call s f xs) c ts r g h l = absurd (omega arith)
positive (super s) c ts r g h l = absurd (omega arith)
positive (import s) c ts r g h l = absurd (omega arith)
positive (super_prop_expr s o k) c ts r g h l = omega arith
positive (meta_prop_expr s k) c ts r g h l = omega arith
positive (yield_expr s a q) c ts r g h l = omega arith
positive absent c ts r g h l = absurd (omega arith)
positive hole c ts r g h l = absurd (omega arith)
positive (ident_name s n) c ts r g h l = absurd (omega arith)
positive (private_name s n) c ts r g h l = absurd (omega arith)
positive (list xs) c ts r g h l = absurd (omega arith)
positive (expr_or_spread s d e) c ts r g h l = absurd (omega arith)
positive (paren_expr s e) c ts r g h l = omega arith
positive (array_lit s xs) c ts r g h l = omega arith
positive (unary_expr s op a) c ts r g h l = omega arith
positive (await_expr s a) c ts r g h l = omega arith
positive (bin_expr s op a b) c ts r g h l = omega arith
positive (seq_expr s xs) c ts r g h l = omega arith
positive (cond_expr s a b d) c ts r g h l = omega arith
positive (computed_prop_name s e) c ts r g h l = omega arith
positive (call_expr s f xs) c ts r g h l = omega arith
positive (new_expr s f xs) c ts r g h l = omega arith
positive (this_expr s) c ts r g h l = omega arith
positive (null_lit s) c ts r g h l = omega arith
positive (bool_lit s v) c ts r g h l = omega arith
positive (ident s n) c ts r g h l = omega arith
positive (str_lit s u w) c ts r g h l = omega arith
positive (number_lit s v w) c ts r g h l = omega arith
positive (big_int_lit s x y w) c ts r g h l = omega arith
positive (regex_lit s e f) c ts r g h l = omega arith
positive (fn_expr s n f) c ts r g h l = omega arith
positive (class_expr s n k) c ts r g h l = omega arith
positive _ c ts r g h l = absurd (omega (arith, l))

pub loop_stops : (inner : Inner Input) (c : Code) (l : ℕ) (start : State Input) (t : Tree) (r : Input) (k : List ℕ) (Q : Type 0) → goes_expr c (ends t) r < l → Loops (loop_step lm inner c l (lo start.source)) t r k (Is t r) Q
unfolding loop_step
loop_stops inner c l start t r k Q h = loop_end (loop_step lm inner c l (lo start.source)) t t r r k ⊥ (Is t r) Q (if_yes (ltb (goes_expr c (ends t) r) l) _ _ _ _ (lt-ltb (goes_expr c (ends t) r) l h) (here refl)) (λ u. absurd u) (λ j. (refl, refl))

-- ---- what goes on

pub quiet_binary : (c : Code) (op : ℕ) → operates c op ≡ true → quiet op ≡ true
quiet_binary c op h = binary_cases op (quiet op ≡ true) (operated c op h)
    (λ a b. and_from (not (op == function_kind)) _ (ap not (ne_eqb op function_kind (λ e. omega (arith, e)))) (or_left (not (is_word op)) _ (ap not (false_from_ne_true (is_word op) (λ e. let w : 80 ≤ op = leb-true 80 op e in omega arith)))))
    (λ e. subst (λ (o : ℕ). quiet o ≡ true) (sym e) refl) (λ e. subst (λ (o : ℕ). quiet o ≡ true) (sym e) refl)

pub far_binary : (c : Code) (op : ℕ) → operates c op ≡ true → 30 ≤ op
far_binary c op h = binary_cases op (30 ≤ op) (operated c op h) (λ a b. omega arith) (λ e. omega arith) (λ e. omega arith)

pub goes_question : (c : Code) (e : ℕ) (m : Input) → kind m ≡ question_mark_kind → e ≤ 1 → eqb (kind2 m) dot_kind ≡ false → goes_expr c e m ≡ 3
goes_question c e m q le n =
    cond_second (eqb (kind m) comma_kind) _ _ _ (subst (λ (k : ℕ). eqb k comma_kind ≡ false) (sym q) refl) (cond_second (leb 2 e) _ _ _ (false_from_ne_true (leb 2 e) (λ z. let y : 2 ≤ e = leb-true 2 e z in omega arith))
    (cond_second (is_assign_op (kind m)) _ _ _ (subst (λ (k : ℕ). is_assign_op k ≡ false) (sym q) refl) (cond_first (eqb (kind m) question_mark_kind) _ _ _ (eq-eqb (kind m) question_mark_kind q)
    (cond_second ((kind2 m == dot_kind) && (e == 0)) _ _ _ (and_left (kind2 m == dot_kind) (e == 0) n) refl))))

pub goes_update : (c : Code) (op : ℕ) (m : Input) → kind m ≡ op → is_update_op op ≡ true → brk m ≡ false → goes_expr c 0 m ≡ 17
goes_update c op m e u b = by_update op (λ o. kind m ≡ o → goes_expr c 0 m ≡ 17) u (λ e. rw e (cond_second (brk m) 0 17 17 b refl)) (λ e. rw e (cond_second (brk m) 0 17 17 b refl)) e

pub goes_bracket : (c : Code) (m : Input) → kind m ≡ left_bracket_kind → goes_expr c 0 m ≡ 20
goes_bracket c m e = rw e refl

pub goes_dot : (c : Code) (m : Input) → kind m ≡ dot_kind → goes_expr c 0 m ≡ 20
goes_dot c m e = rw e refl

-- the same at any level that is asked for, that of a callee too
pub reads : (z d : ℕ) → ((e : ℕ) → Comes z e) → (F : Behind) → Leads F → (t : Tree) (p : Bool) (c : Code) (l : ℕ) (ts r : Input) (k : List ℕ) → size t < z → Covered t → Produces t (coded p c) ts r → 1 ≤ l → Asked l → l ≤ level t → goes_expr c (ends t) r < l → Bare t ts r → F.tree p c l t ts r
    → Reads (from ts k) ((readers lm d).expr c l (from ts k)) (Is t r) (d < reach t)
unfolding readers
reads z zero ih F leads t p c l ts r k sz g h one asked le st ba fa = too_deep _ _ (positive t _ ts r g h (omega arith))
reads z (suc d) ih F leads t p c l ts r k sz g h one asked le st ba fa = ih d F leads t p c l ts r k (Is t r) (reach t) sz g h one le (tail_stops t l (goes_expr c (ends t) r) le asked st) ba fa (omega arith)
    (λ j. loop_stops (readers lm d) c l (from ts k) t r j (suc d < reach t) st)

-- at a level below that of a callee
pub lasts : (z d : ℕ) → ((e : ℕ) → Comes z e) → (F : Behind) → Leads F → (t : Tree) (p : Bool) (c : Code) (l : ℕ) (ts r : Input) (k : List ℕ) → size t < z → Covered t → Produces t (coded p c) ts r → 1 ≤ l → l < 20 → Asked l → l ≤ level t → goes_expr c (ends t) r < l → F.tree p c l t ts r
    → Reads (from ts k) ((readers lm d).expr c l (from ts k)) (Is t r) (d < reach t)
lasts z d ih F leads t p c l ts r k sz g h one most asked le st fa = reads z d ih F leads t p c l ts r k sz g h one asked le st (bare_stop t c l ts r most st) fa

-- ---- whatever the tree, nothing goes on

-- No tree's end goes on with what follows.
pub record Firm (c : Code) (e l n : ℕ) (r : Input) : Type 0 where
  pub calm : e ≡ other_end → l ≤ assignment_level → arrowed r ≡ false
  pub end : e ≡ other_end → n ≤ assignment_level → arrowed r ≡ false
  pub sober : sober c r ≡ true
  pub quits : 2 ≤ e → quits r ≡ true

abbrev pub firm : Behind
firm = record { tree = λ p c l t ts r. Firm c (ends t) l (tail t) r; trees = λ p c ys ts r. Firm c (last_ends ys) 2 2 r }

firm_end : (c : Code) (e : ℕ) (t : Tree) (l i j : ℕ) (r : Input) → Firm c e i j r → ends t ≡ e → j ≡ l → l ≤ level t → Asked l → Firm c (ends t) l (tail t) r
firm_end c e t l i j r f q w le a = record {
  calm = λ o u. f.end (sym q ∙ o) (omega (arith, w, u));
  end = λ o u. f.end (sym q ∙ o) (omega (arith, w, tail_calm t l le a u));
  sober = f.sober;
  quits = λ o. f.quits (omega (arith, q, o));
}

firm_params : (p : Bool) (c : Code) (l : ℕ) (m r : Input) → (l ≤ assignment_level → arrowed r ≡ false) → NoParams c l m r
firm_params p c l m r f d k x e i = and_left (arrows_at lm (readers lm d) l x.1) _ (subst (λ (w : Input). (arrowed w && leb l assignment_level) ≡ false) (sym i) (calm_at l r f))

sixteen : Asked 16
sixteen = record { conditional = λ e. omega (arith, e); update = λ e. omega (arith, e) }

pub firm_leads : Leads firm
firm_leads = record {
  update = λ p c l s op a ts r f h. firm_end c _ a 16 _ _ r f refl refl h.3.0 sixteen;
  unary = λ p c l s op a ts r f h. firm_end c _ a 16 _ _ r f refl refl h.3.0 sixteen;
  awaits = λ p c l s a ts r f h. firm_end c _ a 16 _ _ r f refl refl h.3.0 sixteen;
  binary = λ p c l s op a b ts r f h. firm_end c _ b (right_level op) _ _ r f refl refl h.6.0 (right_asked op (operated c op h.2));
  conditional = λ p c l s a b t ts r f h. firm_end c _ t 2 _ _ r f refl refl h.8.0 two_asked;
  assigns = λ p c l s op a b ts r f h. firm_end c _ b 2 _ _ r f refl refl h.6.0 two_asked;
  arrow = λ p c l s ps e i ts r nb f h. let z = firm_end c _ e 2 _ _ r f (sym (cond_second (is_block e) 2 (ends e) (ends e) nb refl)) refl h.3.0 two_asked in record { calm = z.calm; end = z.end; sober = z.sober; quits = z.quits };
  yields = λ p c l s a ts r na f h. firm_end c _ a 2 _ _ r f (sym (cond_second (is_absent a) 2 (ends a) (ends a) na refl)) refl h.4.0 two_asked;
  yields_all = λ p c l s a ts r na f h. firm_end c _ a 2 _ _ r f (sym (cond_second (is_absent a) 2 (ends a) (ends a) na refl)) refl h.6.0 two_asked;
  sequence = λ p c l s x y ys ts r f h. record { calm = λ o u. f.end o u; end = f.end; sober = f.sober; quits = f.quits };
  next = λ p c x y ys ts r f h. f;
  last = λ p c x ts r f h. firm_end c _ x 2 _ _ r f refl refl h.3.0 two_asked;
  bare_new = λ p c l s f ts r y h. record { calm = λ o u. absurd (omega arith); end = λ o u. absurd (omega (arith, u, tail_callee f h.2)); sober = y.sober; quits = λ o. absurd (omega (arith, o, callee_ends f h.2)) };
  name = λ p c l s n ts r f h. lone_by c l ts r (f.calm refl) f.sober;
  group = λ p c l s e ts r f h. firm_params p (with_in c) l h.0 r (f.calm refl);
  call = λ p c l s q n xs ts m r f e i b h. firm_params p (with_in c) l (rest m) r (f.calm refl);
  idle = λ p c l s q ts r f h. f.quits (omega arith);
}
  where
    callee_least : (f : Tree) → (level f ≡ 18) ⊎ (20 ≤ level f) → 18 ≤ level f
    callee_least f h = ⊎_elim (λ (e : level f ≡ 18). omega (arith, e)) (λ (e : 20 ≤ level f). omega (arith, e)) h

    tail_callee : (f : Tree) → (level f ≡ 18) ⊎ (20 ≤ level f) → tail f ≡ 21
    tail_callee f h = tail_high f (callee_least f h)

    callee_ends : (f : Tree) → (level f ≡ 18) ⊎ (20 ≤ level f) → ends f ≡ 0
    callee_ends f h = ends_high f (callee_least f h)

-- Reading comes to the loop, where whatever follows ends each tree.
pub firmly : (z d : ℕ) → Comes z d → (t : Tree) (p : Bool) (c : Code) (l : ℕ) (ts r : Input) (k : List ℕ) (W : Tree × State Input → Type 0) (n : ℕ) → size t < z → Covered t → Produces t (coded p c) ts r → 1 ≤ l → l ≤ level t → Follow c (ends t) (tail t) r → Bare t ts r → Calm (ends t) l r → reach t ≤ n
    → ((j : List ℕ) → Loops (loop_step lm (readers lm d) c l (lo ts)) t r j W (suc d < n)) → Reads (from ts k) (expr_by lm (readers lm d) c l (from ts k)) W (suc d < n)
firmly z d ih t p c l ts r k W n sz g h one le fo ba ca ne K = ih firm firm_leads t p c l ts r k W n sz g h one le fo.stop ba (record { calm = ca.calm; end = fo.calm; sober = fo.sober; quits = fo.quits }) ne K

-- the same at a level that is asked for
pub firm_by : (c : Code) (t : Tree) (l : ℕ) (r : Input) → l ≤ level t → Asked l → Follow c (ends t) l r → Firm c (ends t) l (tail t) r
firm_by c t l r le asked fo = record { calm = fo.calm; end = λ e u. fo.calm e (tail_calm t l le asked u); sober = fo.sober; quits = fo.quits }

pub finds : (z d : ℕ) → ((e : ℕ) → Comes z e) → Finds z d
finds z d ih t p c l ts r k sz g h one most asked le fo = lasts z d ih firm firm_leads t p c l ts r k sz g h one most asked le fo.stop (firm_by c t l r le asked fo)
