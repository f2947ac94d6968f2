-- The parts that many nodes share are laid out alike of a tree given anew.
use Rattle.std.proofs.Common.{◌≡◌, ℕ, Bool, false, not, ◌&&◌, ◌||◌, ◌==◌, if◌then◌else◌, ap, ap₂}
use Rattle.base_token.specs.declared.place.Span.{Span}
use Rattle.base_token.specs.Words.{own_text}
use Rattle.tree_spec.specs.Tree.{Tree, Trees, none, more, plain_method}
use Rattle.print_gaps.specs.Edges.{is_there, starts_with_word, ends_with_word, gap_before, gap_after}
use Rattle.print_layout_spec.specs.declared.look.Look.{Look}
use Rattle.print_layout_spec.specs.declared.look.Stand.{Stand}
use Rattle.print_layout_spec.specs.Looks.{Laid, ◌·◌, when, semi, end, blank, gap, gap_or, formats}
use Rattle.print_layout_spec.specs.Layout.{word, method_marks, in_parens, indented, indented_or_line, closing, attributes, initial, field_value, function_tail, after_static, class_head, class_tail, point_before, optional_dot, as_expression, in_braces, imports, exports, is_variables}
use Rattle.tree_spec.specs.Places.{no_place}
use Rattle.again_laws.specs.Derived.Redo.{Mode, Plain, Leaves, redo, redos}
use Rattle.print_layout_laws.proofs.Alike.{Alike, same, ◌▸◌, if_same, if_alike, when_same, when_alike, start_alike, end_alike, last_alike}
use Rattle.again_laws.proofs.derived_laws.Questions
use Rattle.again_laws.proofs.derived_rules.Shapes.{re_is_variables}

module _ (lv : Leaves) (look : Look) where
  gap_or_alike : (b c : Bool) → b ≡ c → Alike false (gap_or look b) (gap_or look c)
  gap_or_alike b c e = when_alike (b || formats look) (c || formats look) (ap (λ z. z || formats look) e) same

  -- before a word, and behind one
  pub before_word : (m : Mode) (t : Tree) → Alike false (gap_or look (starts_with_word (redo lv m t))) (gap_or look (starts_with_word t))
  before_word m t = gap_or_alike _ _ (Questions.same_starts_with_word lv _ t)

  pub behind_word : (m : Mode) (t : Tree) → Alike false (gap_or look (ends_with_word (redo lv m t))) (gap_or look (ends_with_word t))
  behind_word m t = gap_or_alike _ _ (Questions.same_ends_with_word lv _ t)

  -- before an operator, and behind one
  pub before_operator : (m : Mode) (op : ℕ) (t : Tree) → Alike false (gap_or look (gap_before op (redo lv m t))) (gap_or look (gap_before op t))
  before_operator m op t = gap_or_alike _ _ (Questions.same_gap_before lv _ op t)

  pub behind_operator : (m : Mode) (op : ℕ) (t : Tree) → Alike false (gap_or look (gap_after op (redo lv m t))) (gap_or look (gap_after op t))
  behind_operator m op t = gap_or_alike _ _ (Questions.same_gap_after lv _ op t)

  pub there_alike : {f g : Laid} (m : Mode) (t : Tree) → Alike false f g → Alike false (when (is_there (redo lv m t)) f) (when (is_there t) g)
  there_alike m t x = when_alike _ _ (Questions.same_is_there lv _ t) x

  pub in_parens_alike : {f g : Laid} → Alike false f g → Alike false (in_parens f) (in_parens g)
  in_parens_alike x = same ▸ x ▸ same

  pub in_braces_alike : {f g : Laid} → Alike false f g → Alike false (in_braces look f) (in_braces look g)
  in_braces_alike x = same ▸ same ▸ x ▸ same ▸ same

  pub indented_alike : {f g : Laid} (ts : Trees) → Alike false f g → Alike false (indented look (redos lv Plain ts) f) (indented look ts g)
  indented_alike none x = same
  indented_alike (more t ts) x = same ▸ same ▸ x ▸ same ▸ same

  pub indented_or_line_alike : {f g : Laid} (ts : Trees) → Alike false f g → Alike false (indented_or_line look (redos lv Plain ts) f) (indented_or_line look ts g)
  indented_or_line_alike none x = same
  indented_or_line_alike (more t ts) x = same ▸ same ▸ x ▸ same ▸ same

  pub closing_alike : (m : Mode) (t : Tree) → Alike false (closing look (redo lv m t)) (closing look t)
  unfolding closing
  closing_alike m t = when_alike _ _ (ap (λ b. not b) (Questions.same_is_block lv _ t)) (when_alike _ _ (re_is_variables lv _ t) same ▸ same)

  pub attributes_alike : {f g : Laid} (m : Mode) (t : Tree) → Alike false f g → Alike false (attributes look (redo lv m t) f) (attributes look t g)
  attributes_alike m t x = there_alike _ t (same ▸ same ▸ same ▸ x)

  pub initial_alike : {f g : Laid} (m : Mode) (t : Tree) → Alike false f g → Alike false (initial look (redo lv m t) f) (initial look t g)
  initial_alike m t x = there_alike _ t (same ▸ same ▸ same ▸ x)

  pub field_value_alike : {f g : Laid} (m : Mode) (t : Tree) → Alike false f g → Alike false (field_value look (redo lv m t) f) (field_value look t g)
  field_value_alike m t x = initial_alike _ t (if_alike _ _ (Questions.same_is_sequence lv _ t) (in_parens_alike x) x)

  pub function_tail_alike : {f g h k : Laid} → Alike false f g → Alike false h k → Alike false (function_tail look f h) (function_tail look g k)
  function_tail_alike x y = in_parens_alike x ▸ same ▸ y

  pub after_static_alike : (m : Mode) (kind : ℕ) (generates waits : Bool) (key : Tree) → Alike false (after_static look kind generates waits (redo lv m key)) (after_static look kind generates waits key)
  after_static_alike m kind generates waits key = if_same {h = blank} {k = blank} (kind == plain_method && not waits) (if_same {f = gap look} {g = gap look} generates same (before_word _ key)) same

  pub method_start_alike : (m : Mode) (kind : ℕ) (generates waits : Bool) (key : Tree)
      → Alike false (if kind == plain_method then method_marks waits generates else word (own_text kind) · gap_or look (starts_with_word (redo lv m key)))
      (if kind == plain_method then method_marks waits generates else word (own_text kind) · gap_or look (starts_with_word key))
  method_start_alike m kind generates waits key = if_same {f = method_marks waits generates} (kind == plain_method) same (same ▸ before_word _ key)

  pub class_head_alike : {f g h k : Laid} (m : Mode) (id parent : Tree) → Alike false f g → Alike false h k → Alike false (class_head look (redo lv m id) f (redo lv m parent) h) (class_head look id g parent k)
  class_head_alike m id parent x y = same ▸ there_alike _ id (same ▸ x) ▸ there_alike _ parent (same ▸ same ▸ before_word _ parent ▸ y)

  pub class_tail_alike : {f g : Laid} (span : Span) (members : Trees) → Alike false f g → Alike false (class_tail look no_place (redos lv Plain members) f) (class_tail look span members g)
  class_tail_alike span members x = same ▸ same ▸ indented_or_line_alike members x ▸ last_alike span ▸ same

  pub point_before_alike : (m : Mode) (prop : Tree) → Alike false (point_before (redo lv m prop)) (point_before prop)
  point_before_alike m prop = when_alike _ _ (ap (λ b. not b) (Questions.same_is_computed lv _ prop)) same

  pub optional_point_alike : (m : Mode) (optional : Bool) (prop : Tree)
      → Alike false (if optional then optional_dot else point_before (redo lv m prop)) (if optional then optional_dot else point_before prop)
  optional_point_alike m optional prop = if_same {f = optional_dot} optional same (point_before_alike _ prop)

  -- behind an exported declaration
  pub exported_alike : (m : Mode) (span : Span) (decl : Tree) → Alike false (when (is_variables (redo lv m decl)) (semi · end no_place)) (when (is_variables decl) (semi · end span))
  exported_alike m span decl = when_alike _ _ (re_is_variables lv _ decl) (same ▸ end_alike span)

  pub as_expression_alike : (s : Stand) (span : Span) → Alike false (as_expression s no_place) (as_expression s span)
  as_expression_alike s span = when_same _ (start_alike span)

  pub imports_alike : {f g h k : Laid} (ts : Trees) → Alike false f g → Alike false h k → Alike false (imports look (redos lv Plain ts) f h) (imports look ts g k)
  imports_alike none x y = same
  imports_alike (more t ts) x y =
      x ▸ if_alike _ _ (Questions.same_has_named lv (more t ts)) (when_alike _ _ (Questions.same_has_default lv (more t ts)) same ▸ in_braces_alike y ▸ same) same ▸ same ▸ same

  pub exports_alike : {f g : Laid} (ts : Trees) → Alike false f g → Alike false (exports look (redos lv Plain ts) f) (exports look ts g)
  exports_alike ts x =
      when_alike _ _ (ap₂ (λ b c. b || not c) (Questions.same_has_other lv ts) (Questions.same_has_namespace lv ts))
      (when_alike _ _ (Questions.same_has_namespace lv ts) same ▸ if_alike _ _ (Questions.same_has_other lv ts) (in_braces_alike x) same)
