-- The parts of a text that its nodes have.
use Rattle.std.specs.Prelude.{Option, Some, None}
use Rattle.base_token.specs.declared.place.Span.{Span}

-- no part of any text
abbrev pub no_span : Span
no_span = record { lo = record { 0 = 0 }; hi = record { 0 = 0 } }

-- The part of what may be left out: no part of the text where it is (swc_common, `impl Spanned for Option`).
abbrev pub span_or_none : {A : Type 0} → (A → Span) → Option A → Span
span_or_none span (Some x) = span x
span_or_none span None = no_span
