use Rattle.std.proofs.Common.{refl, sym, ap, ◌∙◌, lit<}
use Rattle.base_token.specs.Kinds.{null_kind, true_kind, false_kind}
use Rattle.base_token.specs.WordKinds.{keyword_kind, known_kind}
use Rattle.base_token.specs.WordViews.{name_kind_number, word_kind_number}
use Rattle.base_token.proofs.WordLemmas.{keyword_below, known_below, own_kind_word, same_word}
use Rattle.base_token.proofs.word.Word.from_str.Goals as goal

pub returns-in-Keyword : goal.returns-in-Keyword
returns-in-Keyword c = own_kind_word (keyword_kind c.in-Keyword.keyword) _ (sym (ap word_kind_number c.in-Keyword.is) ∙ c.kind_of.ensures) (keyword_below c.in-Keyword.keyword)

pub returns-in-Null : goal.returns-in-Null
returns-in-Null c = own_kind_word null_kind _ (sym (ap word_kind_number c.in-Null.is) ∙ c.kind_of.ensures) (lit< tt)

pub returns-in-True : goal.returns-in-True
returns-in-True c = own_kind_word true_kind _ (sym (ap word_kind_number c.in-True.is) ∙ c.kind_of.ensures) (lit< tt)

pub returns-in-False : goal.returns-in-False
returns-in-False c = own_kind_word false_kind _ (sym (ap word_kind_number c.in-False.is) ∙ c.kind_of.ensures) (lit< tt)

pub returns-in-Ident-Known : goal.returns-in-Ident-Known
returns-in-Ident-Known c =
    own_kind_word (known_kind c.in-Ident-Known.known) _
    (sym (ap name_kind_number c.in-Ident-Known.field-0-is) ∙ sym (ap word_kind_number c.in-Ident-Known.is) ∙ c.kind_of.ensures) (known_below c.in-Ident-Known.known)

pub returns-in-Ident-Other : goal.returns-in-Ident-Other
returns-in-Ident-Other c = same_word _ _ _ _ (sym (ap name_kind_number c.in-Ident-Other.field-0-is) ∙ sym (ap word_kind_number c.in-Ident-Other.is) ∙ c.kind_of.ensures) refl
