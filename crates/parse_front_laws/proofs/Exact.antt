-- Each complete front is what an entry reads.
use Rattle.std.proofs.Common.{◌≡◌, ◌≤◌, ℕ, Bool, false, cond, if◌then◌else◌, List, Result, Ok, sym, ap, ◌∙◌}
use Rattle.tree_spec.specs.Tree.{Tree, Trees, pack, unpack, list}
use Rattle.tree_spec.proofs.PackLemmas.{pack_unpack}
use Rattle.grammar_spec.specs.Tokens.Input.{Input, Code}
use Rattle.grammar_spec.specs.Tokens.Shape.{is_statement, last_of}
use Rattle.grammar_spec.specs.Reader.Source.{Fault, unexpected, ◌>>=◌, State, list_stream}
use Rattle.parse_front_laws.specs.Complete.Laws.{Whatever, Expression, Binding, Key, Statement, ListItem, ModuleItem}
use Rattle.parse_front_laws.specs.Complete.Exact.{Stopped}
use Rattle.parse_front_laws.specs.Complete.Asyncs.{takes_name, Worded}
use Rattle.parse_front_laws.proofs.complete.Alone.{fronts_stand_alone}
use Rattle.parse_front_laws.proofs.complete.Exact.{fronts_are_exact}
use Rattle.parse_alone.specs.Ends.{async_end, heads_arrow, last_initial}
use Rattle.parse_alone.specs.Within.{settled}
use Rattle.parse_alone.specs.Parts.{as_list, expression_part, binding_part, key_part, parameters_part}
use Rattle.parse_alone.specs.Items.{statement_part, list_item_part, module_item_part}
use Rattle.parse_front_laws.specs.Parameters.{Parameters}
use Rattle.parse_front_laws.specs.Exact.{AnswersWhere, AnyList, ListStops, FrontsAreAnsweredExactly}
use Rattle.parse_front_laws.proofs.Parameters.{last_is}
use Rattle.parse_front_laws.proofs.ParametersExact.{parameters_exact, parameters_stand_alone}
use Rattle.parse_front_laws.proofs.Parts.{Answer, settles, passes, lets, heads_none, end_alike}

expression_answered : (limit : ℕ) (c : Code) (l : ℕ) → 1 ≤ l → l ≤ 2 → c.context.in_generator ≡ false → AnswersWhere Worded (Stopped l c) (expression_part list_stream l limit c) (Expression false l c) limit
unfolding expression_part
expression_answered limit c l a b g n ps t r words order d w i k m = let z = (fronts_are_exact c).expressions l a b g limit n ps t r i order d w m in
    let o : State Input = record { source = r; commas = z.0 } in
    (z.0, lets (λ y. heads_arrow list_stream (async_end c (last_of y.0)) y.1) _ (t, o) (passes limit _ t o z.1 i k) (heads_none c t o (fronts_stand_alone c l n ps t r a b words order d w)))

binding_answered : (limit : ℕ) (c : Code) → AnswersWhere AnyList Whatever (binding_part list_stream limit c) (Binding false c) limit
unfolding binding_part
binding_answered limit c n ps t r such order d w i k m = let z = (fronts_are_exact c).bindings limit n ps t r i order d w m in (z.0, passes limit _ t (record { source = r; commas = z.0 }) z.1 i k)

key_answered : (limit : ℕ) (c : Code) → AnswersWhere AnyList Whatever (key_part list_stream limit c) (Key false c) limit
unfolding key_part
key_answered limit c n ps t r such order d w i k m = let z = (fronts_are_exact c).keys limit n ps t r i order d w m in (z.0, passes limit _ t (record { source = r; commas = z.0 }) z.1 i k)

parameters_answered : (limit : ℕ) (c : Code) → c.context.in_generator ≡ false → c.context.in_async ≡ false → c.context.in_static_block ≡ false → AnswersWhere Worded (ListStops c) (parameters_part list_stream limit c) (Parameters false c) limit
unfolding parameters_part
parameters_answered limit c generator async block n ps (list xs) r words order d w i k m =
    let z = parameters_exact c limit n ps xs r generator i order d w m in
    let o : State Input = record { source = r; commas = z.0 } in
    let free = sym (ap (λ (u : Tree). takes_name c u r) (last_is xs)) in (
      z.0,
      ap (λ (x : Result (List Tree × State Input) Fault). x >>= λ y. settled list_stream limit (as_list list_stream y) >>= λ v. if heads_arrow list_stream (async_end c (last_initial y.0)) v.1 then unexpected list_stream v.1 else Ok v) z.1
          ∙ lets (λ v. heads_arrow list_stream (async_end c (last_initial (unpack xs))) v.1) (settled list_stream limit (list (pack (unpack xs)), o)) (list xs, o) (ap (λ (u : Trees). settled list_stream limit (list u, o)) (pack_unpack xs) ∙ settles limit (list xs, o) i k)
          (end_alike (last_initial (unpack xs)) c o ∙ (sym free ∙ parameters_stand_alone c n ps xs r generator async block words order d w)),
    )
parameters_answered limit c generator async block n ps _ r words order d w i k m = absurd d

statement_answered : (limit : ℕ) (c : Code) → AnswersWhere AnyList Whatever (statement_part list_stream limit c) (Statement false c) limit
unfolding statement_part
statement_answered limit c n ps t r such order d w i k m = let z = (fronts_are_exact c).statements limit n ps t r i order d w m in
    (z.0, ap (λ (x : Answer). x >>= λ y. if is_statement y.0 then settled list_stream limit y else unexpected list_stream y.1) z.1 ∙ (ap (λ (b : Bool). cond b (settled list_stream limit (t, record { source = r; commas = z.0 })) (unexpected list_stream (record { source = r; commas = z.0 }))) d.0 ∙ settles limit (t, record { source = r; commas = z.0 }) i k))

item_answered : (limit : ℕ) (c : Code) → AnswersWhere AnyList Whatever (list_item_part list_stream limit c) (ListItem false c) limit
unfolding list_item_part
item_answered limit c n ps t r such order d w i k m = let z = (fronts_are_exact c).list_items limit n ps t r i order d w m in (z.0, passes limit _ t (record { source = r; commas = z.0 }) z.1 i k)

module_item_answered : (limit : ℕ) (c : Code) → AnswersWhere AnyList Whatever (module_item_part list_stream limit c) (ModuleItem false c) limit
unfolding module_item_part
module_item_answered limit c n ps t r such order d w i k m = let z = (fronts_are_exact c).module_items limit n ps t r i order d w m in (z.0, passes limit _ t (record { source = r; commas = z.0 }) z.1 i k)

pub fronts_are_answered_exactly : FrontsAreAnsweredExactly
fronts_are_answered_exactly limit c = record {
  expressions = expression_answered limit c;
  bindings = binding_answered limit c;
  keys = key_answered limit c;
  parameters = parameters_answered limit c;
  statements = statement_answered limit c;
  list_items = item_answered limit c;
  module_items = module_item_answered limit c;
}
