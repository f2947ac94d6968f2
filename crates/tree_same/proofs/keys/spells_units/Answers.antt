use Rattle.std.proofs.Common.{◌∙◌, sym}
use Rattle.std.specs.Str.{chars}
use Rattle.std.specs.Str.Iter.{chars_rest}
use Rattle.base_token.specs.Utf16.{utf16}
use Rattle.tree_same.proofs.WordLemmas.{goes_on, utf8_rest, ends}
use Rattle.tree_same.proofs.keys.spells_units.Goals as goal

pub chars-preserved : goal.chars-preserved
chars-preserved c =
    let bs = chars_rest c.chars.c-iterator in
    let more = chars_rest c.next.new.self in (
      sym (c.in-Some-past_char.ensures (utf16 (chars more))) ∙ goes_on bs more c.chars.rest.now c.in-Some.c _ c.chars.invariant.1 c.in-Some.ensures.steps.0 c.chars.invariant.0,
      utf8_rest bs more c.in-Some.c c.chars.invariant.1 c.in-Some.ensures.steps.0,
    )

pub returns-in-None-past_char : goal.returns-in-None-past_char
returns-in-None-past_char c =
    let bs = chars_rest c.chars.c-iterator in
    let more = chars_rest c.next.new.self in
    sym (c.in-None-past_char.ensures (utf16 (chars more))) ∙ goes_on bs more c.chars.rest.now c.in-Some.c _ c.chars.invariant.1 c.in-Some.ensures.steps.0 c.chars.invariant.0

pub returns : goal.returns
returns c = c.is_empty.ensures ∙ (ends (chars_rest c.chars.c-iterator) c.chars.rest.now c.in-None.ensures.steps.0.0 ∙ c.chars.invariant.0)
