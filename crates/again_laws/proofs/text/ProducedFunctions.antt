-- Functions and classes that produce tokens.
use Rattle.std.proofs.Common.{◌≡◌, ℕ, ◌≤◌, ◌⊎◌, inl, inr, ⊎_elim, Bool, true, false, refl, arith}
use Rattle.std.specs.Prelude.{◌==◌}
use Rattle.std.proofs.lemmas.Bool.{false≢true, true≢false}
use Rattle.base_token.specs.declared.place.Span.{Span}
use Rattle.std.proofs.lemmas.Option.{none-some}
use Rattle.base_token.specs.Kinds.{right_paren_kind, get_kind, set_kind}
use Rattle.tree_spec.specs.Tree.{Tree, Trees, none, more, plain_method, param, function, block_stmt, fn_decl, fn_expr, arrow_expr, method_prop, getter_prop, setter_prop, class, class_decl, class_expr, constructor, class_method, private_method, class_prop, private_prop, auto_accessor, static_block, empty_stmt}
use Rattle.grammar_spec.specs.Tokens.Input.{Input, Code, setting, turned_strict, with_in}
use Rattle.grammar_spec.specs.Tokens.Shape.{level, is_param, is_member, count_of}
use Rattle.print_gaps.specs.Edges.{is_there}
use Rattle.grammar_spec.specs.Grammar.{Produces, children}
use Rattle.print_layout_spec.specs.declared.look.Look.{Look}
use Rattle.grammar_spec.specs.Children.{child, IsEmpty}
use Rattle.grammar_spec.specs.Functions.{Parameters, SetParameter, Closes, Body as BodyOf, Function, ArrowPattern, ArrowParameters, BareName, ArrowExpression, Method, Members, ClassTail}
use Rattle.again_laws.proofs.text.Admits.{admits_open, is_ended}
use Rattle.again_laws.proofs.text.Forms.{Good, AllGood, Sound, AllSound, none_good, listed, all_sorted}
use Rattle.again_laws.proofs.text.NamesAndCalls.{leaving}
use Rattle.again_laws.proofs.text.Statements.{AllItems, all_items, block_good, arrow_good}
use Rattle.again_laws.proofs.text.VariablesAndMethods.{method_good}
use Rattle.again_laws.proofs.text.Patterns.{item_plain, param_node}
use Rattle.again_laws.proofs.text.Functions.{tail, function_node, declaration_node, method_node, getter_node, setter_node}
use Rattle.again_laws.proofs.text.Loops.{AllRows}
use Rattle.again_laws.proofs.text.Classes.{class_node, class_declaration, class_body, constructor_node, private_node, field_node, private_field, accessor_node, static_node}
use Rattle.again_laws.proofs.text.GrammarToLayout.{by_there, either_by, assigned, ident_operated}

member_ended : (t : Tree) → is_member t ≡ true → is_ended t ≡ true
member_ended (constructor s k ps b) e = refl
member_ended (class_method s k f m i) e = refl
member_ended (private_method s k f m i) e = refl
member_ended (class_prop s k v i ds) e = refl
member_ended (private_prop s k v i ds) e = refl
member_ended (static_block s b) e = refl
member_ended (auto_accessor s k v i ds) e = refl
member_ended (empty_stmt s) e = refl
member_ended _ e = absurd (false≢true e)

module _ (look : Look) where
  pub parameter : (s : Span) (ds : Trees) (p : Tree) → Sound look p → Sound look (param s ds p)
  parameter s none p f c ts r h = param_node look s p (f _ _ _ h.2) (item_plain true p h.1)
  parameter s (more d ds) p f c ts r h = absurd h.0

  parameters : (ps : Trees) → AllSound look ps → (c : Code) (ts r : Input) → Parameters c (children ps) ts r → AllGood look ps
  parameters ps a c ts r h = all_sorted look is_param false c right_paren_kind ps a _ _ h.2

  set_parameter : (ps : Trees) → AllSound look ps → (c : Code) (ts r : Input) → SetParameter c (children ps) ts r → AllGood look ps
  set_parameter none a c ts r h = absurd h
  set_parameter (more p ps) a c ts r h = (a.0 _ _ _ h.5.1, none_good look ps h.2)

  body : (b : Span) (ss : Trees) → AllSound look ss → (c : Code) (ts r : Input) → BodyOf c b (children ss) ts r → AllItems look ss
  body b ss a c ts r h = all_items look Closes c true ss a _ _ h.2

  -- the parameters and the body of a function, and the parts of a class
  abbrev pub Inside : Tree → Type 0
  Inside (function at' ps ds (block_stmt b ss) g w) = AllSound look ps × AllSound look ss
  Inside (class at' ds ms p) = AllSound look ms × Sound look p
  Inside _ = Unit {0}

  pub function_params : (c : Code) (ps ds : Trees) (b : Span) (ss : Trees) (g w : Bool) → AllSound look ps → (ts r : Input) → Function c (children ps) (children ds) b (children ss) g w ts r → AllGood look ps
  function_params c ps ds b ss g w a ts r h = either_by c.sets _ _ h.2 (λ z. set_parameter ps a _ ts h.0 z) (λ z. parameters ps a _ ts h.0 z)

  pub function_items : (c : Code) (ps ds : Trees) (b : Span) (ss : Trees) (g w : Bool) → AllSound look ss → (ts r : Input) → Function c (children ps) (children ds) b (children ss) g w ts r → AllItems look ss
  function_items c ps ds b ss g w a ts r h = body b ss a _ h.0 r h.3

  pub function_tree : (at' : Span) (ps ds : Trees) (b : Span) (ss : Trees) (g w : Bool) → AllSound look ps → AllSound look ss → Sound look (function at' ps ds (block_stmt b ss) g w)
  function_tree at' ps ds b ss g w a i c ts r h st s q =
      tail look (function at' ps ds (block_stmt b ss) g w) st ps b ss (function_params c ps ds b ss g w a ts r h) (function_items c ps ds b ss g w i ts r h) s (admits_open s (function at' ps ds (block_stmt b ss) g w) q)

  pub function_declared : (s : Span) (n f : Tree) → Sound look n → Inside f → Sound look (fn_decl s n f)
  function_declared s n (function at' ps ds (block_stmt b ss) g w) p q c ts r h =
      declaration_node look s n at' ps ds b ss g w (p _ _ _ h.3.1) (function_params (setting false c) ps ds b ss g w q.0 h.1 r h.4) (function_items (setting false c) ps ds b ss g w q.1 h.1 r h.4) (ident_operated n h.3.0)
  function_declared s n (function at' ps ds _ g w) p q c ts r h = absurd h.4
  function_declared s n _ p q c ts r h = absurd h

  pub function_expressed : (s : Span) (n f : Tree) → Sound look n → Inside f → Sound look (fn_expr s n f)
  function_expressed s n (function at' ps ds (block_stmt b ss) g w) p q c ts r h =
      function_node look s n at' ps ds b ss g w (λ i. p _ _ _ (by_there n _ _ h.3 i).1) (function_params (setting false c) ps ds b ss g w q.0 h.1 r h.4) (function_items (setting false c) ps ds b ss g w q.1 h.1 r h.4)
  function_expressed s n (function at' ps ds _ g w) p q c ts r h = absurd h.4
  function_expressed s n _ p q c ts r h = absurd h

  arrow_parameters : (ps : Trees) → AllSound look ps → (c : Code) (ts r : Input) → ArrowParameters c (children ps) ts r → AllGood look ps
  arrow_parameters ps a c ts r (inl h) = bare ps a h
    where
      bare : (ps : Trees) → AllSound look ps → BareName c (children ps) ts r → AllGood look ps
      bare none a h = absurd h
      bare (more p ps) a h = (a.0 _ _ _ h.1.1, none_good look ps h.0)
  arrow_parameters ps a c ts r (inr h) = listed look (ArrowPattern c) (λ t f m n k. f _ _ _ k.1) false c right_paren_kind ps a _ _ h.2

  pub arrow_block : (s : Span) (ps : Trees) (b : Span) (ss : Trees) (w : Bool) → AllSound look ps → AllSound look ss → Sound look (arrow_expr s ps (block_stmt b ss) w)
  arrow_block s ps b ss w a i c ts r h = arrow_good look s ps (block_stmt b ss) w (arrow_parameters ps a c _ _ h.1.3) (block_good look b ss (body b ss i _ h.0 r h.2)) (λ e. absurd (true≢false e))

  pub arrow_expression : (s : Span) (ps : Trees) (e : Tree) (w : Bool) → AllSound look ps → Sound look e → (c : Code) (ts r : Input) → ArrowExpression c s (children ps) (child e (λ y. Produces e y)) w ts r → Good look (arrow_expr s ps e w)
  arrow_expression s ps e w a f c ts r h = arrow_good look s ps e w (arrow_parameters ps a c _ _ h.1.3) (f _ _ _ h.3.1) (λ i. assigned e h.3.0)

  -- ---- methods

  abbrev Method_of : Code → ℕ → Tree → Span → Trees → Trees → Span → Trees → Bool → Bool → Input → Input → Type 0
  Method_of c k key at' ps ds b ss g w ts r = Method c k (child key (λ y. Produces key y)) (record { span = at'; generator = g; async = w; count = count_of ps })
      (child (function at' ps ds (block_stmt b ss) g w) (λ y. Produces (function at' ps ds (block_stmt b ss) g w) y)) ts r

  method_key : (c : Code) (k : ℕ) (key : Tree) (at' : Span) (ps ds : Trees) (b : Span) (ss : Trees) (g w : Bool) → Sound look key → (ts r : Input) → Method_of c k key at' ps ds b ss g w ts r → Good look key
  method_key c k key at' ps ds b ss g w f ts r h = either_by (k == plain_method) _ _ h (λ z. f _ _ _ z.3) (λ z. f _ _ _ z.6)

  method_params : (c : Code) (k : ℕ) (key : Tree) (at' : Span) (ps ds : Trees) (b : Span) (ss : Trees) (g w : Bool) → AllSound look ps → (ts r : Input) → Method_of c k key at' ps ds b ss g w ts r → AllGood look ps
  method_params c k key at' ps ds b ss g w a ts r h = either_by (k == plain_method) _ _ h (λ z. function_params (setting false c) ps ds b ss g w a z.1 r z.4) (λ z. function_params (setting (k == set_kind) c) ps ds b ss g w a z.1 r z.7)

  method_items : (c : Code) (k : ℕ) (key : Tree) (at' : Span) (ps ds : Trees) (b : Span) (ss : Trees) (g w : Bool) → AllSound look ss → (ts r : Input) → Method_of c k key at' ps ds b ss g w ts r → AllItems look ss
  method_items c k key at' ps ds b ss g w a ts r h = either_by (k == plain_method) _ _ h (λ z. function_items (setting false c) ps ds b ss g w a z.1 r z.4) (λ z. function_items (setting (k == set_kind) c) ps ds b ss g w a z.1 r z.7)

  method_bare : (c : Code) (k : ℕ) (key : Tree) (at' : Span) (ps ds : Trees) (b : Span) (ss : Trees) (g w : Bool) → (ts r : Input) → Method_of c k key at' ps ds b ss g w ts r → IsEmpty (children ds)
  method_bare c k key at' ps ds b ss g w ts r h = either_by (k == plain_method) _ _ h (λ z. z.4.1) (λ z. z.7.1)

  method_kind : (c : Code) (k : ℕ) (key : Tree) (at' : Span) (ps ds : Trees) (b : Span) (ss : Trees) (g w : Bool) → (ts r : Input) → Method_of c k key at' ps ds b ss g w ts r → (k == plain_method) ≡ false → ((k ≡ get_kind) ⊎ (k ≡ set_kind))
  method_kind c k key at' ps ds b ss g w ts r h e = ⊎_elim (λ (x : (k ≡ get_kind) × (count_of ps ≡ 0)). inl x.0) (λ (x : k ≡ set_kind). inr x) (Rattle.again_laws.proofs.text.Forms.by_second (k == plain_method) _ _ h e).2

  pub object_method : (s : Span) (k f : Tree) → Sound look k → Inside f → Sound look (method_prop s k f)
  object_method s k (function at' ps ds (block_stmt b ss) g w) p q c ts r h =
      method_node look s k at' ps ds b ss g w (method_key c plain_method k at' ps ds b ss g w p ts r h.1) h.0 (method_params c plain_method k at' ps ds b ss g w q.0 ts r h.1) (method_items c plain_method k at' ps ds b ss g w q.1 ts r h.1)
  object_method s k (function at' ps ds _ g w) p q c ts r h = absurd h.1.4
  object_method s k _ p q c ts r h = absurd h

  pub getter : (s : Span) (k : Tree) (b : Span) (ss : Trees) → Sound look k → AllSound look ss → Sound look (getter_prop s k (block_stmt b ss))
  getter s k b ss p a c ts r h = getter_node look s k b ss (p _ _ _ h.5.1) h.5.0 (body b ss a _ h.3 r h.8)

  pub setter : (s : Span) (k p : Tree) (b : Span) (ss : Trees) → Sound look k → Sound look p → AllSound look ss → Sound look (setter_prop s k p (block_stmt b ss))
  setter s k p b ss f g a c ts r h = setter_node look s k p b ss (f _ _ _ h.6.1) h.6.0 (g _ _ _ h.10) (body b ss a _ h.4 r h.12)

  -- ---- classes

  pub members : (ms : Trees) → AllSound look ms → (c : Code) (ts r : Input) → Members c (children ms) ts r → AllRows look ms
  members none a c ts r h = tt
  members (more m ms) a c ts r h = ((a.0 _ _ _ h.1.1, member_ended m h.1.0), members ms a.1 c _ _ h.2)

  pub heritage : (p : Tree) → Sound look p → (ds ms : Trees) (c : Code) (ts r : Input) → ClassTail c (children ds) (children ms) (child p (λ y. Produces p y)) ts r → is_there p ≡ true → Good look p × (1 ≤ level p)
  heritage p f ds ms c ts r h i = let q = by_there p _ _ h.3 i in (f _ _ _ q.2.1, omega (arith, q.2.0))

  pub class_tree : (at' : Span) (ds ms : Trees) (p : Tree) → AllSound look ms → Sound look (class at' ds ms p)
  class_tree at' ds ms p a c ts r h st s q = leaving st (class at' ds ms p) (class_body look at' ms (members ms a c _ _ h.5) s (admits_open s (class at' ds ms p) q)) refl

  pub class_declared : (s : Span) (n k : Tree) → Sound look n → Inside k → Sound look (class_decl s n k)
  class_declared s n (class at' none ms p) f q c ts r h = class_declaration look s n at' ms p (λ i. f _ _ _ h.3.1) (members ms q.0 _ _ _ h.4.5) (heritage p q.1 none ms (turned_strict (with_in c)) h.1 r h.4)
  class_declared s n (class at' (more d ds) ms p) f q c ts r h = absurd h.4.2
  class_declared s n _ f q c ts r h = absurd (none-some s h.5)

  pub class_expressed : (s : Span) (n k : Tree) → Sound look n → Inside k → Sound look (class_expr s n k)
  class_expressed s n (class at' none ms p) f q c ts r h = class_node look s n at' ms p (λ i. f _ _ _ (by_there n _ _ h.3 i).1) (members ms q.0 _ _ _ h.4.5) (heritage p q.1 none ms (turned_strict (with_in c)) h.1 r h.4)
  class_expressed s n (class at' (more d ds) ms p) f q c ts r h = absurd h.4.2
  class_expressed s n _ f q c ts r h = absurd (none-some s h.5)

  pub constructs : (s : Span) (k : Tree) (ps : Trees) (b : Span) (ss : Trees) → AllSound look ps → AllSound look ss → Sound look (constructor s k ps (block_stmt b ss))
  constructs s k ps b ss a i c ts r h = constructor_node look s k ps b ss (parameters ps a _ h.0 h.1 h.4) (body b ss i _ h.1 r h.5)

  pub class_method_on : (s : Span) (k f : Tree) (n : ℕ) (i : Bool) → Sound look k → Inside f → Sound look (class_method s k f n i)
  class_method_on s k (function at' ps none (block_stmt b ss) g w) n i p q c ts r h =
      method_good look s k at' ps (block_stmt b ss) g w n i (method_kind c n k at' ps none b ss g w h.0 r h.4) h.1 (method_key c n k at' ps none b ss g w p h.0 r h.4) (method_params c n k at' ps none b ss g w q.0 h.0 r h.4) (block_good look b ss (method_items c n k at' ps none b ss g w q.1 h.0 r h.4)) refl
  class_method_on s k (function at' ps (more d ds) (block_stmt b ss) g w) n i p q c ts r h = absurd (method_bare c n k at' ps (more d ds) b ss g w h.0 r h.4)
  class_method_on s k (function at' ps ds _ g w) n i p q c ts r h = either_by (n == plain_method) _ _ h.4 (λ z. absurd z.4) (λ z. absurd z.7)
  class_method_on s k _ n i p q c ts r h = absurd h

  pub private_method_on : (s : Span) (k f : Tree) (n : ℕ) (i : Bool) → Sound look k → Inside f → Sound look (private_method s k f n i)
  private_method_on s k (function at' ps ds (block_stmt b ss) g w) n i p q c ts r h =
      private_node look s k at' ps ds b ss g w n i (method_kind c n k at' ps ds b ss g w h.0 r h.4) (method_key c n k at' ps ds b ss g w p h.0 r h.4) h.1 (method_params c n k at' ps ds b ss g w q.0 h.0 r h.4) (method_items c n k at' ps ds b ss g w q.1 h.0 r h.4)
  private_method_on s k (function at' ps ds _ g w) n i p q c ts r h = either_by (n == plain_method) _ _ h.4 (λ z. absurd z.4) (λ z. absurd z.7)
  private_method_on s k _ n i p q c ts r h = absurd h

  pub field : (s : Span) (k v : Tree) (i : Bool) (ds : Trees) → Sound look k → Sound look v → Sound look (class_prop s k v i ds)
  field s k v i none f g c ts r h = field_node look s k v i (f _ _ _ h.5) h.3 (λ z. let q = by_there v _ _ h.6 z in (g _ _ _ q.3.1, assigned v q.3.0))
  field s k v i (more d ds) f g c ts r h = absurd h.2

  pub field_private : (s : Span) (k v : Tree) (i : Bool) (ds : Trees) → Sound look k → Sound look v → Sound look (private_prop s k v i ds)
  field_private s k v i none f g c ts r h = private_field look s k v i (f _ _ _ h.5) h.3 (λ z. let q = by_there v _ _ h.6 z in (g _ _ _ q.3.1, assigned v q.3.0))
  field_private s k v i (more d ds) f g c ts r h = absurd h.2

  pub accessor : (s : Span) (k v : Tree) (i : Bool) (ds : Trees) → Sound look k → Sound look v → Sound look (auto_accessor s k v i ds)
  accessor s k v i none f g c ts r h = accessor_node look s k v i (f _ _ _ h.8.1) (λ z. let q = by_there v _ _ h.9 z in (g _ _ _ q.3.1, assigned v q.3.0))
  accessor s k v i (more d ds) f g c ts r h = absurd h.4

  pub static_block_on : (s b : Span) (ss : Trees) → AllSound look ss → Sound look (static_block s (block_stmt b ss))
  static_block_on s b ss a c ts r h = static_node look s b ss (all_items look Closes _ false ss a _ _ h.4)
