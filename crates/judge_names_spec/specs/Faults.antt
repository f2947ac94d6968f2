-- Faults of names and of what stands near them: early errors of ECMA-262 that `early_errors` of `grammar_spec` doesn't list. Each is a kind
-- and a place.
use Rattle.std.specs.Prelude.{ℕ, Bool, true, false, ◌&&◌, ◌||◌, ◌==◌, nat_lt, if◌then◌else◌, List, [], ◌∷◌, map}
use Rattle.base_token.specs.declared.place.Span.{Span}
use Rattle.judge_scopes_spec.specs.Declared.{Names}

pub data FaultKind : Type 0 where
  -- a word that strict code reserves, `eval` or `arguments`, and an octal escape, before the `use strict` that turns them strict (12.9.4.1, 13.1.1)
  late_reserved : FaultKind
  late_evil : FaultKind
  late_octal : FaultKind
  -- a name that its scope declares already (14.2.1 and the like)
  redeclared : FaultKind
  -- a second parameter of one name (15.1.1)
  parameter_twice : FaultKind
  -- `let` as a name that `let`, `const` or `using` declares (14.3.1.1)
  let_declared : FaultKind
  -- a function with labels as the body of another statement (14.6.1, B.3.1)
  labelled_function : FaultKind
  -- `yield` and `await` as operators among parameters (15.3.1, 15.5.1, 15.6.1, 15.8.1, 15.9.1)
  yield_in_parameters : FaultKind
  await_in_parameters : FaultKind
  -- `delete` of a name, and of a private member (13.5.1.1)
  deleted_name : FaultKind
  deleted_private : FaultKind
  -- `import.meta` in a script (13.3.1.1)
  meta_in_script : FaultKind
  -- of a class (15.7.1): a getter, a setter, a generator or an async method that is called `constructor`; a field that is; a static member
  -- that is called `prototype`; `arguments` in the value of a field or in a static block
  special_constructor : FaultKind
  constructor_field : FaultKind
  static_prototype : FaultKind
  arguments_in_part : FaultKind
  -- a private name (15.7.1, 16.1.1): a second one, `#constructor`, one of no class around
  private_twice : FaultKind
  private_constructor : FaultKind
  private_undeclared : FaultKind
  -- of a module (16.2.1.1, 16.2.3.1): a name that is exported already, a variable that isn't declared, a reserved word or a string as a
  -- variable, a string with a lone surrogate, a second attribute of one key (16.2.2.1 of the edition of 2025)
  exported_twice : FaultKind
  exported_undeclared : FaultKind
  exported_reserved : FaultKind
  ill_formed_name : FaultKind
  attribute_twice : FaultKind

pub record NameFault : Type 0 where
  pub kind : FaultKind
  pub place : Span

-- a fault at a place, where the test holds
abbrev pub fault : Bool → FaultKind → Span → List NameFault
fault true kind place = record { kind = kind; place = place } ∷ []
fault false kind place = []

-- one at the place of each name
abbrev pub faults_at : FaultKind → Names → List NameFault
faults_at kind ns = map (λ n. record { kind = kind; place = n.span }) ns

-- ---- the list

-- the number of a kind in the table of early errors, behind those that `early_errors` lists
abbrev pub row : FaultKind → ℕ
row late_reserved = 23
row late_evil = 24
row late_octal = 25
row redeclared = 26
row parameter_twice = 27
row let_declared = 28
row labelled_function = 29
row yield_in_parameters = 30
row await_in_parameters = 31
row deleted_name = 32
row deleted_private = 33
row meta_in_script = 34
row special_constructor = 35
row constructor_field = 36
row static_prototype = 37
row arguments_in_part = 38
row private_twice = 39
row private_constructor = 40
row private_undeclared = 41
row exported_twice = 42
row exported_undeclared = 43
row exported_reserved = 44
row ill_formed_name = 45
row attribute_twice = 46

abbrev pub comes_after : NameFault → NameFault → Bool
comes_after a b = nat_lt b.place.lo.0 a.place.lo.0 || ((a.place.lo.0 == b.place.lo.0) && nat_lt (row b.kind) (row a.kind))

-- a fault among some in order, once
abbrev pub put : NameFault → List NameFault → List NameFault
put e [] = e ∷ []
put e (f ∷ fs) = if comes_after e f then f ∷ put e fs else (if comes_after f e then e ∷ f ∷ fs else f ∷ fs)

-- In the order of their places' starts, those of one start in that of the table, and of a kind at a start one: two scopes around may bar one name.
abbrev pub by_place : List NameFault → List NameFault
by_place [] = []
by_place (e ∷ es) = put e (by_place es)
