-- The parts that many nodes share are alike of a tree with or without places and raw texts.
use Rattle.std.proofs.Common.{◌≡◌, ℕ, Bool, true, false, not, ◌&&◌, ◌||◌, ◌==◌, if◌then◌else◌, List, Option, ap, ap₂}
use Rattle.base_number.specs.Numbers.{SpecNumber}
use Rattle.base_token.specs.declared.place.Span.{Span}
use Rattle.base_token.specs.Words.{own_text}
use Rattle.tree_spec.specs.Tree.{Tree, Trees, none, more, plain_method, tpl_element}
use Rattle.print_gaps.specs.Edges.{is_there, starts_with_word, ends_with_word, gap_before, gap_after}
use Rattle.print_layout_spec.specs.declared.look.Look.{Look}
use Rattle.print_layout_spec.specs.declared.look.Stand.{Stand}
use Rattle.print_layout_spec.specs.Looks.{Laid, ◌·◌, when, semi, end, blank, gap, gap_or, formats}
use Rattle.print_layout_spec.specs.Layout.{word, method_marks, in_parens, indented, indented_or_line, closing, attributes, initial, field_value, function_tail, after_static, class_head, class_tail, optional_dot, point_before, number_before, as_expression, quasi, in_braces, imports, exports, is_variables}
use Rattle.print_layout_laws.specs.Bare.{kept_place, kept_raw, bare, bares}
use Rattle.print_layout_laws.proofs.Alike.{Alike, same, ◌▸◌, if_same, if_alike, when_same, when_alike, start_alike, end_alike, last_alike}
use Rattle.print_layout_laws.proofs.Questions
use Rattle.print_layout_laws.proofs.Literals.{number_alike, number_before_point_alike}

module _ (places raws : Bool) (look : Look) where
  gap_or_alike : (b c : Bool) → b ≡ c → Alike places (gap_or look b) (gap_or look c)
  gap_or_alike b c e = when_alike (b || formats look) (c || formats look) (ap (λ z. z || formats look) e) same

  -- before a word, and behind one
  pub before_word : (t : Tree) → Alike places (gap_or look (starts_with_word (bare places raws t))) (gap_or look (starts_with_word t))
  before_word t = gap_or_alike _ _ (Questions.same_starts_with_word places raws t)

  pub behind_word : (t : Tree) → Alike places (gap_or look (ends_with_word (bare places raws t))) (gap_or look (ends_with_word t))
  behind_word t = gap_or_alike _ _ (Questions.same_ends_with_word places raws t)

  -- before an operator, and behind one
  pub before_operator : (op : ℕ) (t : Tree) → Alike places (gap_or look (gap_before op (bare places raws t))) (gap_or look (gap_before op t))
  before_operator op t = gap_or_alike _ _ (Questions.same_gap_before places raws op t)

  pub behind_operator : (op : ℕ) (t : Tree) → Alike places (gap_or look (gap_after op (bare places raws t))) (gap_or look (gap_after op t))
  behind_operator op t = gap_or_alike _ _ (Questions.same_gap_after places raws op t)

  pub there_alike : {f g : Laid} (t : Tree) → Alike places f g → Alike places (when (is_there (bare places raws t)) f) (when (is_there t) g)
  there_alike t x = when_alike _ _ (Questions.same_is_there places raws t) x

  pub in_parens_alike : {f g : Laid} → Alike places f g → Alike places (in_parens f) (in_parens g)
  in_parens_alike x = same ▸ x ▸ same

  pub in_braces_alike : {f g : Laid} → Alike places f g → Alike places (in_braces look f) (in_braces look g)
  in_braces_alike x = same ▸ same ▸ x ▸ same ▸ same

  pub indented_alike : {f g : Laid} (ts : Trees) → Alike places f g → Alike places (indented look (bares places raws ts) f) (indented look ts g)
  indented_alike none x = same
  indented_alike (more t ts) x = same ▸ same ▸ x ▸ same ▸ same

  pub indented_or_line_alike : {f g : Laid} (ts : Trees) → Alike places f g → Alike places (indented_or_line look (bares places raws ts) f) (indented_or_line look ts g)
  indented_or_line_alike none x = same
  indented_or_line_alike (more t ts) x = same ▸ same ▸ x ▸ same ▸ same

  pub closing_alike : (t : Tree) → Alike places (closing look (bare places raws t)) (closing look t)
  unfolding closing
  closing_alike t = when_alike _ _ (ap (λ b. not b) (Questions.same_is_block places raws t)) (when_alike _ _ (Questions.same_is_variables places raws t) same ▸ same)

  pub attributes_alike : {f g : Laid} (t : Tree) → Alike places f g → Alike places (attributes look (bare places raws t) f) (attributes look t g)
  attributes_alike t x = there_alike t (same ▸ same ▸ same ▸ x)

  pub initial_alike : {f g : Laid} (t : Tree) → Alike places f g → Alike places (initial look (bare places raws t) f) (initial look t g)
  initial_alike t x = there_alike t (same ▸ same ▸ same ▸ x)

  pub field_value_alike : {f g : Laid} (t : Tree) → Alike places f g → Alike places (field_value look (bare places raws t) f) (field_value look t g)
  field_value_alike t x = initial_alike t (if_alike _ _ (Questions.same_is_sequence places raws t) (in_parens_alike x) x)

  pub function_tail_alike : {f g h k : Laid} → Alike places f g → Alike places h k → Alike places (function_tail look f h) (function_tail look g k)
  function_tail_alike x y = in_parens_alike x ▸ same ▸ y

  pub after_static_alike : (kind : ℕ) (generates waits : Bool) (key : Tree) → Alike places (after_static look kind generates waits (bare places raws key)) (after_static look kind generates waits key)
  after_static_alike kind generates waits key = if_same {h = blank} {k = blank} (kind == plain_method && not waits) (if_same {f = gap look} {g = gap look} generates same (before_word key)) same

  pub method_start_alike : (kind : ℕ) (generates waits : Bool) (key : Tree)
      → Alike places (if kind == plain_method then method_marks waits generates else word (own_text kind) · gap_or look (starts_with_word (bare places raws key)))
      (if kind == plain_method then method_marks waits generates else word (own_text kind) · gap_or look (starts_with_word key))
  method_start_alike kind generates waits key = if_same {f = method_marks waits generates} (kind == plain_method) same (same ▸ before_word key)

  pub class_head_alike : {f g h k : Laid} (id parent : Tree) → Alike places f g → Alike places h k → Alike places (class_head look (bare places raws id) f (bare places raws parent) h) (class_head look id g parent k)
  class_head_alike id parent x y = same ▸ there_alike id (same ▸ x) ▸ there_alike parent (same ▸ same ▸ before_word parent ▸ y)

  pub class_tail_alike : {f g : Laid} (span : Span) (members : Trees) → Alike places f g → Alike places (class_tail look (kept_place places span) (bares places raws members) f) (class_tail look span members g)
  class_tail_alike span members x = same ▸ same ▸ indented_or_line_alike members x ▸ last_alike span ▸ same

  pub point_before_alike : (prop : Tree) → Alike places (point_before (bare places raws prop)) (point_before prop)
  point_before_alike prop = when_alike _ _ (ap (λ b. not b) (Questions.same_is_computed places raws prop)) same

  pub optional_point_alike : (optional : Bool) (prop : Tree)
      → Alike places (if optional then optional_dot else point_before (bare places raws prop)) (if optional then optional_dot else point_before prop)
  optional_point_alike optional prop = if_same {f = optional_dot} optional same (point_before_alike prop)

  -- behind an exported declaration
  pub exported_alike : (span : Span) (decl : Tree) → Alike places (when (is_variables (bare places raws decl)) (semi · end (kept_place places span))) (when (is_variables decl) (semi · end span))
  exported_alike span decl = when_alike _ _ (Questions.same_is_variables places raws decl) (same ▸ end_alike span)

  pub as_expression_alike : (s : Stand) (span : Span) → Alike places (as_expression s (kept_place places span)) (as_expression s span)
  as_expression_alike s span = when_same _ (start_alike span)

  pub quasi_alike : (s : Stand) (t : Tree) → Alike places (quasi look s (bare places raws t)) (quasi look s t)
  quasi_alike s (tpl_element span is_last raw cooked) = start_alike span ▸ same ▸ end_alike span
  quasi_alike s _ = same

  pub imports_alike : {f g h k : Laid} (ts : Trees) → Alike places f g → Alike places h k → Alike places (imports look (bares places raws ts) f h) (imports look ts g k)
  imports_alike none x y = same
  imports_alike (more t ts) x y =
      x ▸ if_alike _ _ (Questions.same_has_named places raws (more t ts)) (when_alike _ _ (Questions.same_has_default places raws (more t ts)) same ▸ in_braces_alike y ▸ same) same ▸ same ▸ same

  pub exports_alike : {f g : Laid} (ts : Trees) → Alike places f g → Alike places (exports look (bares places raws ts) f) (exports look ts g)
  exports_alike ts x =
      when_alike _ _ (ap₂ (λ b c. b || not c) (Questions.same_has_other places raws ts) (Questions.same_has_namespace places raws ts))
      (when_alike _ _ (Questions.same_has_namespace places raws ts) same ▸ if_alike _ _ (Questions.same_has_other places raws ts) (in_braces_alike x) same)

module _ (places raws : Bool) (look : Look) (h : raws ≡ false → look.style.minify ≡ true) where
  pub number_before_alike : (span : Span) (value : SpecNumber) (raw : Option (List ℕ)) (prop : Tree) → Alike places (number_before look (kept_place places span) value (kept_raw raws raw) (bare places raws prop)) (number_before look span value raw prop)
  number_before_alike span value raw prop =
      start_alike span ▸ if_alike _ _ (Questions.same_is_computed places raws prop) (number_alike places raws look h span value raw) (number_before_point_alike places raws look h span value raw)
