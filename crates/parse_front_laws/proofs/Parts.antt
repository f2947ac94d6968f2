-- What an entry asks of what its rule reads: within the limit, and clean.
use Rattle.std.proofs.Common.{◌≡◌, ◌≤◌, ◌<◌, ℕ, Bool, true, false, ◌&&◌, codes, bytes_eq, cond, nat_le, if◌then◌else◌, List, [], Option, Some, None, Result, Ok, Err, refl, sym, ap, ap₂, ◌∙◌, subst, true≢false, le-leb, leb-true, arith}
use Rattle.base_token.specs.declared.syntax.EsSyntax.{EsSyntax}
use Rattle.base_token.specs.Kinds.{plus_plus_kind, minus_minus_kind}
use Rattle.tree_spec.specs.Tree.{Tree, ident, assign_expr, cond_expr, arrow_expr, yield_expr, pack, list}
use Rattle.tree_nesting.specs.Nesting.{nesting}
use Rattle.grammar_spec.specs.Tokens.Input.{Input, Code, kind, module_code, alone, in_list, in_arrow}
use Rattle.grammar_spec.specs.Tokens.Operators.{between, goes_expr}
use Rattle.grammar_spec.specs.Tokens.Shape.{ends, is_clean, is_statement, last_of}
use Rattle.grammar_spec.specs.Reader.Source.{Fault, too_deep, unexpected, ◌>>=◌, State, list_stream}
use Rattle.grammar_spec.specs.Reader.Expressions.{key_by}
use Rattle.grammar_spec.specs.Reader.Modules.{item_by}
use Rattle.grammar_spec.specs.Reader.Reading.{readers}
use Rattle.parse_source_laws.specs.Ahead.{at_list}
use Rattle.parse_front_laws.specs.Complete.Laws.{input_at, IsComplete, Expression, Binding, Key, Statement, ListItem, ModuleItem, Whatever, Apart}
use Rattle.parse_front_laws.specs.Complete.Asyncs.{names_next, takes_name}
use Rattle.parse_front_laws.proofs.complete.Asyncs.{expressions_settle}
use Rattle.parse_front_laws.proofs.complete.Fronts.{bindings_end, keys_end, statements_end, list_items_end, module_items_end, fronts_are_read}
use Rattle.parse_alone.specs.Ends.{async_end, heads_arrow, last_initial}
use Rattle.parse_alone.specs.Within.{settled}
use Rattle.parse_alone.specs.Parts.{bare_by, as_list, expression_part, binding_part, key_part, parameters_part}
use Rattle.parse_alone.specs.Items.{statement_part, list_item_part, module_item_part}
use Rattle.parse_front_laws.specs.Parameters.{Parameters}
use Rattle.parse_front_laws.specs.Laws.{ReadsFronts, Anywhere, PartsAreFronts, Answers, Goes, FrontsAreAnswered}
use Rattle.parse_front_laws.specs.Stops.{ExpressionsStop}
use Rattle.parse_front_laws.proofs.Parameters.{parameters_end}

abbrev pub Answer : Type 0
Answer = Result (Tree × State Input) Fault

abbrev Found : Answer → Type 0
Found (Ok x) = Unit {0}
Found (Err e) = ⊥

abbrev found_or : Tree × State Input → Answer → Tree × State Input
found_or d (Ok x) = x
found_or d (Err e) = d

no_answer : (e : Fault) (x : Tree × State Input) → ◌≡◌ {A = Answer} (Err e) (Ok x) → ⊥
no_answer e x h = subst (λ z. Found z) (sym h) tt

-- ---- what is answered passed

record Passed (limit : ℕ) (x : Answer) (t : Tree) (r : State Input) : Type 0 where
  answered : x ≡ Ok (t, r)
  within : nesting t ≤ limit
  clean : is_clean t ≡ true

settled_by : (limit : ℕ) (y : Tree × State Input) (t : Tree) (r : State Input) → settled list_stream limit y ≡ Ok (t, r) → Passed limit (Ok y) t r
unfolding settled
settled_by limit y t r h = by_tests (nat_le (nesting y.0) limit) (is_clean y.0) refl refl h
  where
    by_tests : (a b : Bool) → nat_le (nesting y.0) limit ≡ a → is_clean y.0 ≡ b → ◌≡◌ {A = Answer} (cond a (cond b (Ok y) (unexpected list_stream y.1)) (too_deep list_stream y.1)) (Ok (t, r)) → Passed limit (Ok y) t r
    by_tests true true i j h = let e = ap (λ z. found_or y z) h in record {
      answered = h;
      within = subst (λ (z : Tree × State Input). nesting z.0 ≤ limit) e (leb-true (nesting y.0) limit i);
      clean = subst (λ (z : Tree × State Input). is_clean z.0 ≡ true) e j;
    }
    by_tests true false i j h = absurd (no_answer _ (t, r) h)
    by_tests false b i j h = absurd (no_answer _ (t, r) h)

passed_by : (limit : ℕ) (x : Answer) (t : Tree) (r : State Input) → (x >>= settled list_stream limit) ≡ Ok (t, r) → Passed limit x t r
passed_by limit (Ok y) t r h = settled_by limit y t r h
passed_by limit (Err e) t r h = absurd (no_answer e (t, r) h)

-- the word `async`, as an entry looks for it
pub end_alike : (t : Tree) (c : Code) (s : State Input) → heads_arrow list_stream (async_end c t) s ≡ takes_name c t s.source
end_alike (ident p n) c s = by_word (bytes_eq n (codes "async"))
  where
    by_word : (b : Bool) → heads_arrow list_stream (if b then Some c else None) s ≡ (b && names_next c s.source)
    by_word true = refl
    by_word false = refl
end_alike (assign_expr p op a e) c s = end_alike e c s
end_alike (cond_expr p a b d) c s = end_alike d c s
end_alike (arrow_expr p ps b i) c s = end_alike b (in_arrow i c) s
end_alike (yield_expr p e g) c s = end_alike e c s
end_alike _ c s = refl

no_arrow : (c : Code) (t : Tree) (r : State Input) → heads_arrow list_stream (async_end c (last_of t)) r ≡ false → takes_name c (last_of t) r.source ≡ false
no_arrow c t r h = sym (end_alike (last_of t) c r) ∙ h

pub heads_none : (c : Code) (t : Tree) (r : State Input) → takes_name c (last_of t) r.source ≡ false → heads_arrow list_stream (async_end c (last_of t)) r ≡ false
heads_none c t r h = end_alike (last_of t) c r ∙ h

-- what passes a test that refuses
refused_by : (x : Answer) (f : Tree × State Input → Bool) (t : Tree) (r : State Input) → (x >>= λ y. if f y then unexpected list_stream y.1 else Ok y) ≡ Ok (t, r) → f (t, r) ≡ false
refused_by (Ok y) f t r h = by_test (f y) refl h
  where
    by_test : (b : Bool) → f y ≡ b → ◌≡◌ {A = Answer} (cond b (unexpected list_stream y.1) (Ok y)) (Ok (t, r)) → f (t, r) ≡ false
    by_test true i h = absurd (no_answer _ (t, r) h)
    by_test false i h = subst (λ (z : Tree × State Input). f z ≡ false) (ap (λ z. found_or y z) h) i
refused_by (Err e) f t r h = absurd (no_answer e (t, r) h)

-- a test that refuses
tested_by : (x : Answer) (f : Tree × State Input → Bool) (t : Tree) (r : State Input) → (x >>= λ y. if f y then unexpected list_stream y.1 else Ok y) ≡ Ok (t, r) → x ≡ Ok (t, r)
tested_by (Ok y) f t r h = by_test (f y) h
  where
    by_test : (b : Bool) → ◌≡◌ {A = Answer} (cond b (unexpected list_stream y.1) (Ok y)) (Ok (t, r)) → ◌≡◌ {A = Answer} (Ok y) (Ok (t, r))
    by_test true h = absurd (no_answer _ (t, r) h)
    by_test false h = h
tested_by (Err e) f t r h = absurd (no_answer e (t, r) h)

record Stated (limit : ℕ) (x : Answer) (t : Tree) (r : State Input) : Type 0 where
  passed : Passed limit x t r
  is : is_statement t ≡ true

stated_by : (limit : ℕ) (x : Answer) (t : Tree) (r : State Input) → (x >>= λ y. if is_statement y.0 then settled list_stream limit y else unexpected list_stream y.1) ≡ Ok (t, r) → Stated limit x t r
stated_by limit (Ok y) t r h = by_test (is_statement y.0) refl h
  where
    by_test : (b : Bool) → is_statement y.0 ≡ b → ◌≡◌ {A = Answer} (cond b (settled list_stream limit y) (unexpected list_stream y.1)) (Ok (t, r)) → Stated limit (Ok y) t r
    by_test true i h = let p = settled_by limit y t r h in record { passed = p; is = subst (λ (z : Tree × State Input). is_statement z.0 ≡ true) (ap (λ z. found_or y z) p.answered) i }
    by_test false i h = absurd (no_answer _ (t, r) h)
stated_by limit (Err e) t r h = absurd (no_answer e (t, r) h)

-- ---- parameters

pub then_listed : (x : Result (List Tree × State Input) Fault) (f : List Tree × State Input → Answer) (y : Tree × State Input) → (x >>= f) ≡ Ok y → (a : List Tree × State Input) × (x ≡ Ok a) × (f a ≡ Ok y)
then_listed (Ok a) f y h = (a, refl, h)
then_listed (Err e) f y h = absurd (no_answer e y h)

parameters_front : (limit : ℕ) (placed : Bool) (c : Code) → ReadsFronts Anywhere (parameters_part list_stream limit c) (Parameters placed c) (Parameters false c) limit
unfolding parameters_part
parameters_front limit placed c n ps t r named order h w =
    let a = then_listed (bare_by list_stream (readers list_stream limit) c (at_list n ps [])) (λ x. settled list_stream limit (as_list list_stream x) >>= λ y. if heads_arrow list_stream (async_end c (last_initial x.0)) y.1 then unexpected list_stream y.1 else Ok y) (t, r) h in
    let test = λ (y : Tree × State Input). heads_arrow list_stream (async_end c (last_initial a.0.0)) y.1 in
    let p = settled_by limit (list (pack a.0.0), a.0.1) t r (tested_by (settled list_stream limit (list (pack a.0.0), a.0.1)) test t r a.2) in
    let e = ap (λ z. found_or (t, r) z) p.answered in
    let free = sym (end_alike (last_initial a.0.0) c r) ∙ refused_by (settled list_stream limit (list (pack a.0.0), a.0.1)) test t r a.2 in
    let z = parameters_end limit placed c n ps a.0.0 a.0.1 named order a.1 (subst (λ (s : State Input). takes_name c (last_initial a.0.0) s.source ≡ false) (sym (ap (λ (y : Tree × State Input). y.1) e)) free) in
    let both = subst (λ (y : Tree × State Input). Parameters false c y.0 (input_at n ps) y.1.source × IsComplete (Parameters placed c) n ps y.1.source.places) e z in
    record { derived = both.0; complete = both.1; within = p.within; clean = p.clean }

-- ---- each part

expression_front : (limit : ℕ) (placed : Bool) (c : Code) (l : ℕ) → 1 ≤ l → l ≤ 2 → ReadsFronts Anywhere (expression_part list_stream l limit c) (Expression placed l c) (Expression false l c) limit
unfolding expression_part
expression_front limit placed c l a b n ps t r named order h w =
    let p = passed_by limit ((readers list_stream limit).expr c l (at_list n ps [])) t r (tested_by _ (λ y. heads_arrow list_stream (async_end c (last_of y.0)) y.1) t r h) in
    let z = expressions_settle limit placed c l n ps t r a b named order p.answered (no_arrow c t r (refused_by ((readers list_stream limit).expr c l (at_list n ps []) >>= settled list_stream limit) (λ y. heads_arrow list_stream (async_end c (last_of y.0)) y.1) t r h)) in
    record { derived = z.0; complete = z.1; within = p.within; clean = p.clean }

binding_front : (limit : ℕ) (placed : Bool) (c : Code) → ReadsFronts Anywhere (binding_part list_stream limit c) (Binding placed c) (Binding false c) limit
unfolding binding_part
binding_front limit placed c n ps t r named order h w = let p = passed_by limit ((readers list_stream limit).pat c (at_list n ps [])) t r h in let z = bindings_end limit placed c n ps t r named order p.answered in
    record { derived = z.0; complete = z.1; within = p.within; clean = p.clean }

key_front : (limit : ℕ) (placed : Bool) (c : Code) → ReadsFronts Anywhere (key_part list_stream limit c) (Key placed c) (Key false c) limit
unfolding key_part
key_front limit placed c n ps t r named order h w = let p = passed_by limit (key_by list_stream (readers list_stream limit) c (at_list n ps [])) t r h in let z = keys_end limit placed c n ps t r named order p.answered in
    record { derived = z.0; complete = z.1; within = p.within; clean = p.clean }

statement_front : (limit : ℕ) (placed : Bool) (c : Code) → ReadsFronts Anywhere (statement_part list_stream limit c) (Statement placed c) (Statement false c) limit
unfolding statement_part
statement_front limit placed c n ps t r named order h w = let s = stated_by limit ((readers list_stream limit).stmt (alone c) (at_list n ps [])) t r h in
    let z = statements_end limit placed c n ps t r named order s.passed.answered s.is in
    record { derived = z.0; complete = z.1; within = s.passed.within; clean = s.passed.clean }

item_front : (limit : ℕ) (placed : Bool) (c : Code) → ReadsFronts Anywhere (list_item_part list_stream limit c) (ListItem placed c) (ListItem false c) limit
unfolding list_item_part
item_front limit placed c n ps t r named order h w = let p = passed_by limit ((readers list_stream limit).stmt (in_list c) (at_list n ps [])) t r h in let z = list_items_end limit placed c n ps t r named order p.answered in
    record { derived = z.0; complete = z.1; within = p.within; clean = p.clean }

module_item_front : (limit : ℕ) (placed : Bool) (syntax : EsSyntax) → ReadsFronts Anywhere (module_item_part list_stream limit (module_code syntax)) (ModuleItem placed (module_code syntax)) (ModuleItem false (module_code syntax)) limit
unfolding module_item_part
module_item_front limit placed syntax n ps t r named order h w =
    let p = passed_by limit (item_by list_stream (readers list_stream limit) true (in_list (module_code syntax)) (at_list n ps [])) t r h in
    let z = module_items_end limit placed syntax n ps t r named order p.answered in
    record { derived = z.0; complete = z.1; within = p.within; clean = p.clean }

pub parts_are_fronts : PartsAreFronts
parts_are_fronts limit placed c = record {
  expressions = expression_front limit placed c;
  bindings = binding_front limit placed c;
  keys = key_front limit placed c;
  parameters = parameters_front limit placed c;
  statements = statement_front limit placed c;
  list_items = item_front limit placed c;
  module_items = λ syntax e. subst (λ d. ReadsFronts Anywhere (module_item_part list_stream limit d) (ModuleItem placed d) (ModuleItem false d) limit) (sym e) (module_item_front limit placed syntax);
}

-- ---- where an expression stops

pub expressions_stop : ExpressionsStop
unfolding expression_part
expressions_stop limit c l n ps t r a b named order h =
    let p = passed_by limit ((readers list_stream limit).expr c l (at_list n ps [])) t r (tested_by _ (λ y. heads_arrow list_stream (async_end c (last_of y.0)) y.1) t r h) in
    let z = expressions_settle limit false c l n ps t r a b named order p.answered (no_arrow c t r (refused_by ((readers list_stream limit).expr c l (at_list n ps []) >>= settled list_stream limit) (λ y. heads_arrow list_stream (async_end c (last_of y.0)) y.1) t r h)) in
    by_kind (between plus_plus_kind minus_minus_kind (kind r.source)) z.2
  where
    by_kind : (x : Bool) → goes_expr c (ends t) r.source < l → cond x 0 (goes_expr c (ends t) r.source) < l
    by_kind true i = omega (arith, a)
    by_kind false i = i

-- ---- what is derived is answered

pub settles : (limit : ℕ) (x : Tree × State Input) → nesting x.0 ≤ limit → is_clean x.0 ≡ true → settled list_stream limit x ≡ Ok x
unfolding settled
settles limit x a b = ap₂ (λ (i j : Bool). cond i (cond j (Ok x) (unexpected list_stream x.1)) (too_deep list_stream x.1)) (le-leb (nesting x.0) limit a) b

pub passes : (limit : ℕ) (x : Answer) (t : Tree) (r : State Input) → x ≡ Ok (t, r) → nesting t ≤ limit → is_clean t ≡ true → (x >>= settled list_stream limit) ≡ Ok (t, r)
passes limit x t r e a b = ap (λ z. z >>= settled list_stream limit) e ∙ settles limit (t, r) a b

-- a test that lets through
pub lets : (f : Tree × State Input → Bool) (x : Answer) (y : Tree × State Input) → x ≡ Ok y → f y ≡ false → (x >>= λ z. if f z then unexpected list_stream z.1 else Ok z) ≡ Ok y
lets f x y e h = ap (λ (z : Answer). z >>= λ v. if f v then unexpected list_stream v.1 else Ok v) e ∙ by_test (f y) h
  where
    by_test : (b : Bool) → b ≡ false → ◌≡◌ {A = Answer} (cond b (unexpected list_stream y.1) (Ok y)) (Ok y)
    by_test true h = absurd (true≢false h)
    by_test false h = refl

pub arrow_same : (o : Option Code) (r : Input) (a b : List ℕ) → heads_arrow list_stream o (record { source = r; commas = a }) ≡ heads_arrow list_stream o (record { source = r; commas = b })
arrow_same None r a b = refl
arrow_same (Some d) r a b = refl

expression_answered : (limit : ℕ) (placed : Bool) (c : Code) (l : ℕ) → 1 ≤ l → l ≤ 2 → Answers (Goes l c) (expression_part list_stream l limit c) (Expression placed l c) limit
unfolding expression_part
expression_answered limit placed c l a b n ps t r order d i k w = let z = (fronts_are_read placed c).expressions l a b limit n ps t r i order d w.follow in
    let o : State Input = record { source = r; commas = z.0 } in
    (z.0, lets (λ y. heads_arrow list_stream (async_end c (last_of y.0)) y.1) _ (t, o) (passes limit _ t o z.1 i k) (arrow_same (async_end c (last_of t)) r z.0 [] ∙ w.alone))

binding_answered : (limit : ℕ) (placed : Bool) (c : Code) → Answers Whatever (binding_part list_stream limit c) (Binding placed c) limit
unfolding binding_part
binding_answered limit placed c n ps t r order d i k w = let z = (fronts_are_read placed c).bindings limit n ps t r i order d w in (z.0, passes limit _ t (record { source = r; commas = z.0 }) z.1 i k)

key_answered : (limit : ℕ) (placed : Bool) (c : Code) → Answers Whatever (key_part list_stream limit c) (Key placed c) limit
unfolding key_part
key_answered limit placed c n ps t r order d i k w = let z = (fronts_are_read placed c).keys limit n ps t r i order d w in (z.0, passes limit _ t (record { source = r; commas = z.0 }) z.1 i k)

statement_answered : (limit : ℕ) (placed : Bool) (c : Code) → Answers Apart (statement_part list_stream limit c) (Statement placed c) limit
unfolding statement_part
statement_answered limit placed c n ps t r order d i k w = let z = (fronts_are_read placed c).statements limit n ps t r i order d w in
    (z.0, ap (λ (x : Answer). x >>= λ y. if is_statement y.0 then settled list_stream limit y else unexpected list_stream y.1) z.1 ∙ (ap (λ (b : Bool). cond b (settled list_stream limit (t, record { source = r; commas = z.0 })) (unexpected list_stream (record { source = r; commas = z.0 }))) d.0 ∙ settles limit (t, record { source = r; commas = z.0 }) i k))

item_answered : (limit : ℕ) (placed : Bool) (c : Code) → Answers Apart (list_item_part list_stream limit c) (ListItem placed c) limit
unfolding list_item_part
item_answered limit placed c n ps t r order d i k w = let z = (fronts_are_read placed c).list_items limit n ps t r i order d w in (z.0, passes limit _ t (record { source = r; commas = z.0 }) z.1 i k)

module_item_answered : (limit : ℕ) (placed : Bool) (c : Code) → Answers Apart (module_item_part list_stream limit c) (ModuleItem placed c) limit
unfolding module_item_part
module_item_answered limit placed c n ps t r order d i k w = let z = (fronts_are_read placed c).module_items limit n ps t r i order d w in (z.0, passes limit _ t (record { source = r; commas = z.0 }) z.1 i k)

pub fronts_are_answered : FrontsAreAnswered
fronts_are_answered limit placed c = record {
  expressions = expression_answered limit placed c;
  bindings = binding_answered limit placed c;
  keys = key_answered limit placed c;
  statements = statement_answered limit placed c;
  list_items = item_answered limit placed c;
  module_items = module_item_answered limit placed c;
}
