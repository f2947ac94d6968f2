-- What calls append, one after another.
use Rattle.std.proofs.Common.{◌≡◌, ℕ, ◌+◌, ◌/◌, ◌%◌, ◌<◌, ◌≤◌, Bool, true, false, ◌&&◌, List, [], ◌∷◌, ◌++◌, length, drop, get_or, replicate, Option, Some, None, sym, ap, ◌∙◌, append_assoc}
use Rattle.std.specs.List.{list_all}
use Rattle.std.proofs.lemmas.Bool.{and_left}
use Rattle.std.proofs.lemmas.List.{append-nil, at_drop_more, at_drop_all}
use Rattle.base_token.specs.declared.place.LineCol.{LineCol}
use Rattle.print_source_map.specs.declared.mapping.Mapping.{Mapping}
use Rattle.print_source_map.specs.Mappings.{start, mappings_of}
use Rattle.print_source_map.specs.Orders.{follows, follow, is_near, are_ordered, are_near}
use Rattle.print_source_map.specs.Writing.{digit_of, digits, difference, segment, in_line, below, piece, written}
use Rattle.print_source_map.proofs.Digits.{last_digit, more_digits}
use Rattle.print_source_map.proofs.Reading.{says}

-- a text, a front that was appended and what was appended behind it
two : (x y z front more : List ℕ) → y ≡ x ++ front → z ≡ y ++ more → z ≡ x ++ (front ++ more)
two x y z front more e f = f ∙ (ap (λ (t : List ℕ). t ++ more) e ∙ append_assoc x front more)

pub last_pushed : (n c : ℕ) (x y : List ℕ) → n < 32 → c ≡ digit_of n → y ≡ x ++ c ∷ [] → y ≡ x ++ digits n
last_pushed n c x y h e f = f ∙ ap (λ (t : List ℕ). x ++ t) (ap (λ (d : ℕ). d ∷ []) e ∙ sym (last_digit n h))

pub more_pushed : (n c : ℕ) (x y z : List ℕ) → 32 ≤ n → c ≡ digit_of (n % 32 + 32) → y ≡ x ++ c ∷ [] → z ≡ y ++ digits (n / 32) → z ≡ x ++ digits n
more_pushed n c x y z h e f g = two x y z (c ∷ []) (digits (n / 32)) f g ∙ ap (λ (t : List ℕ). x ++ t) (ap (λ (d : ℕ). d ∷ digits (n / 32)) e ∙ sym (more_digits n h))

pub segment_pushed : (c : ℕ) (p : LineCol) (m : Mapping) (u v w x y : List ℕ) → v ≡ u ++ digits (difference c m.written.col) → w ≡ v ++ 65 ∷ []
    → x ≡ w ++ digits (difference p.line m.source.line) → y ≡ x ++ digits (difference p.col m.source.col) → y ≡ u ++ segment c p m
unfolding segment
segment_pushed c p m u v w x y e f g h =
    two u v y (digits (difference c m.written.col)) _ e
    (two v w y (65 ∷ []) _ f (two w x y (digits (difference p.line m.source.line)) (digits (difference p.col m.source.col)) g h))

pub line_pushed : (p m : Mapping) (x y z : List ℕ) → y ≡ x ++ 44 ∷ [] → z ≡ y ++ segment p.written.col p.source m → z ≡ x ++ in_line p m
unfolding in_line
line_pushed p m x y z e f = two x y z (44 ∷ []) (segment p.written.col p.source m) e f

pub below_pushed : (n : ℕ) (p : LineCol) (m : Mapping) (x y z : List ℕ) → y ≡ x ++ replicate n 59 → z ≡ y ++ segment 0 p m → z ≡ x ++ below n p m
unfolding below
below_pushed n p m x y z e f = two x y z (replicate n 59) (segment 0 p m) e f

-- ---- along the mappings

-- the mapping at an index, of which there is one
abbrev pub at : List Mapping → ℕ → Mapping
at ms i = get_or ms i start

pub text_goes_on : (ms : List Mapping) (i : ℕ) (last : Option Mapping) (x y z : List ℕ) → i < length ms → x ++ written last (drop i ms) ≡ z → y ≡ x ++ piece last (at ms i)
    → y ++ written (Some (at ms i)) (drop (i + 1) ms) ≡ z
unfolding written
text_goes_on ms i last x y z h e f =
    ap (λ (t : List ℕ). t ++ written (Some (at ms i)) (drop (i + 1) ms)) f
    ∙ (append_assoc x (piece last (at ms i)) (written (Some (at ms i)) (drop (i + 1) ms))
    ∙ (ap (λ (t : List ℕ). x ++ t) (sym (at_drop_more (λ (l : List Mapping). written last l) ms i start h)) ∙ e))

and_so : (a b : Bool) → a ≡ true → (a && b) ≡ b
and_so a b e = ap (λ (t : Bool). t && b) e

pub order_goes_on : (ms : List Mapping) (i : ℕ) (last : Option Mapping) (b : Bool) → i < length ms → follow last (drop i ms) ≡ b → follows last (at ms i) ≡ true
    → follow (Some (at ms i)) (drop (i + 1) ms) ≡ b
unfolding follow
order_goes_on ms i last b h e f =
    sym (and_so (follows last (at ms i)) (follow (Some (at ms i)) (drop (i + 1) ms)) f) ∙ (sym (at_drop_more (λ (l : List Mapping). follow last l) ms i start h) ∙ e)

pub order_ends : (ms : List Mapping) (i : ℕ) (last : Option Mapping) → i < length ms → follow last (drop i ms) ≡ are_ordered ms → follows last (at ms i) ≡ false → are_ordered ms ≡ false
unfolding follow
order_ends ms i last h e f =
    sym e ∙ (at_drop_more (λ (l : List Mapping). follow last l) ms i start h ∙ and_left (follows last (at ms i)) (follow (Some (at ms i)) (drop (i + 1) ms)) f)

pub near_goes_on : (ms : List Mapping) (i : ℕ) (b : Bool) → i < length ms → list_all is_near (drop i ms) ≡ b → is_near (at ms i) ≡ true → list_all is_near (drop (i + 1) ms) ≡ b
near_goes_on ms i b h e f =
    sym (and_so (is_near (at ms i)) (list_all is_near (drop (i + 1) ms)) f) ∙ (sym (at_drop_more (λ (l : List Mapping). list_all is_near l) ms i start h) ∙ e)

pub near_ends : (ms : List Mapping) (i : ℕ) → i < length ms → list_all is_near (drop i ms) ≡ are_near ms → is_near (at ms i) ≡ false → are_near ms ≡ false
near_ends ms i h e f =
    sym e ∙ (at_drop_more (λ (l : List Mapping). list_all is_near l) ms i start h ∙ and_left (is_near (at ms i)) (list_all is_near (drop (i + 1) ms)) f)

pub are_in_order : (ms : List Mapping) (i : ℕ) (last : Option Mapping) → length ms ≤ i → follow last (drop i ms) ≡ are_ordered ms → are_ordered ms ≡ true
unfolding follow
are_in_order ms i last h e = sym e ∙ at_drop_all (λ (l : List Mapping). follow last l) ms i h

pub all_near : (ms : List Mapping) (i : ℕ) → length ms ≤ i → list_all is_near (drop i ms) ≡ are_near ms → are_near ms ≡ true
all_near ms i h e = sym e ∙ at_drop_all (λ (l : List Mapping). list_all is_near l) ms i h

pub all_said : (ms : List Mapping) (i : ℕ) (last : Option Mapping) (text : List ℕ) → length ms ≤ i → text ++ written last (drop i ms) ≡ written None ms
    → are_ordered ms ≡ true → are_near ms ≡ true → mappings_of text ≡ Some ms
unfolding written
all_said ms i last text h e f n =
    let whole : text ≡ written None ms = sym (append-nil text) ∙ (ap (λ (t : List ℕ). text ++ t) (sym (at_drop_all (λ (l : List Mapping). written last l) ms i h)) ∙ e) in
    ap mappings_of whole ∙ says ms f n
