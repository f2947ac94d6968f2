-- Lemmas on the tables of words.
use Rattle.std.proofs.Common.{◌≡◌, ◌≢◌, length, ℕ, Bool, true, false, ◌&&◌, List, [], ◌∷◌, refl, sym, ap, ◌∙◌, ◌<◌, ◌≤◌, ◌⊎◌, inl, inr, leb, ⊎_elim, subst, lit<, arith}
use Rattle.std.specs.Prelude.{◌==◌, bytes_eq, if◌then◌else◌}
use Rattle.std.proofs.lemmas.Slice.Eq.{bytes_eq-Decides}
use Rattle.std.proofs.lemmas.Bool.Decides.{nat_tests}
use Rattle.std.proofs.lemmas.Bool.{and_parts, leb-true}
use Rattle.base_token.specs.Kinds.{name_kind, null_kind, true_kind, false_kind}
use Rattle.base_token.specs.Words.{SpecWord, own_words, known_words, kind_among, text_among, kind_of, own_text, own_word, word_of, IsOwnName}
use Rattle.base_token.specs.WordTable.{kind_at, place_of, text_at}
use Rattle.base_token.specs.WordKinds.{keyword_kind, known_kind}
use Rattle.base_token.specs.declared.word.Keyword.{Keyword}
use Rattle.base_token.specs.declared.word.KnownIdent.{KnownIdent}
use Rattle.base_token.specs.WordViews.{name_view, word_view}
use Rattle.base_token.specs.declared.word.IdentLike.{IdentLike}
use Rattle.base_token.specs.declared.word.IdentLike.TheVariants.{Known, Other}
use Rattle.base_token.specs.declared.word.Word.{Word}
use Rattle.base_token.specs.declared.word.Word.TheVariants.{Keyword as KeywordWord, Null, True, False, Ident}
use Rattle.base_token.specs.declared.word.Keyword.TheVariants.{Await}
use Rattle.base_token.specs.declared.word.KnownIdent.TheVariants.{Accessor}

-- the text is none of the words
abbrev pub Differs : List (ℕ × List ℕ) → List ℕ → Type 0
Differs [] text = Unit {0}
Differs (word ∷ words) text = (text ≡ word.1 → ⊥) × Differs words text

different_false : (word text : List ℕ) → (text ≡ word → ⊥) → bytes_eq word text ≡ false
different_false word text differs =
    let both : (b : Bool) → bytes_eq word text ≡ b → bytes_eq word text ≡ false = λ b e.
    elim b as (λ v. bytes_eq word text ≡ v → bytes_eq word text ≡ false)
    [ true ↦ λ equal. absurd (differs (sym ((bytes_eq-Decides word text).0 equal))) | false ↦ λ not_equal. not_equal ] e
    in both (bytes_eq word text) refl

-- a text that is none of the words has the kind of a plain name
pub none_among : (words : List (ℕ × List ℕ)) (text : List ℕ) → Differs words text → name_kind ≡ kind_among words text
none_among [] text differs = refl
none_among (word ∷ words) text differs =
    rw (different_false word.1 text differs.0) (none_among words text differs.1)

same_place : (word text : List ℕ) → text ≡ word → (place_of word == place_of text) ≡ true
same_place word text e =
    let n = place_of word in
    let same : (n == n) ≡ true = grind (arith, nat_tests) in
    subst (λ t. (place_of word == place_of t) ≡ true) (sym e) same

other_place : (word text : List ℕ) → (place_of word == place_of text) ≡ false → text ≡ word → ⊥
other_place word text apart e = let k : false ≡ true = sym apart ∙ same_place word text e in cc

-- where a text stands at its place, its kind stands there
pub found_at : (words : List (ℕ × List ℕ)) (text : List ℕ) → bytes_eq (text_at words (place_of text)) text ≡ true → kind_at words (place_of text) ≡ kind_among words text
found_at [] text same = refl
found_at (word ∷ words) text same =
    let place = place_of text in
    let both : (b : Bool) → (place_of word.1 == place) ≡ b → bytes_eq (if b then word.1 else text_at words place) text ≡ true
    → (if b then word.0 else kind_at words place) ≡ kind_among (word ∷ words) text = λ b e.
    elim b as (λ v. (place_of word.1 == place) ≡ v → bytes_eq (if v then word.1 else text_at words place) text ≡ true → (if v then word.0 else kind_at words place) ≡ kind_among (word ∷ words) text) [
      | true ↦ λ _ here. rw here refl
      | false ↦ λ apart there. rw (different_false word.1 text (other_place word.1 text apart)) (found_at words text there)
    ] e
    in both (place_of word.1 == place) refl same

-- each word stands at its place
abbrev placed : List (ℕ × List ℕ) → List (ℕ × List ℕ) → Bool
placed table [] = true
placed table (word ∷ words) = bytes_eq (text_at table (place_of word.1)) word.1 && placed table words

not_at : (table : List (ℕ × List ℕ)) (word text : List ℕ) → bytes_eq (text_at table (place_of word)) word ≡ true → bytes_eq (text_at table (place_of text)) text ≡ false → text ≡ word → ⊥
not_at table word text is other e =
    let k : bytes_eq (text_at table (place_of word)) word ≡ false = subst (λ t. bytes_eq (text_at table (place_of t)) t ≡ false) e other in
    let j : false ≡ true = sym k ∙ is in cc

-- a text that doesn't stand at its place is none of the words
missing_at : (table words : List (ℕ × List ℕ)) (text : List ℕ) → placed table words ≡ true → bytes_eq (text_at table (place_of text)) text ≡ false → kind_among words text ≡ name_kind
missing_at table [] text whole other = refl
missing_at table (word ∷ words) text whole other =
    let parts : (bytes_eq (text_at table (place_of word.1)) word.1 ≡ true) × (placed table words ≡ true) = and_parts _ _ whole in
    rw (different_false word.1 text (not_at table word.1 text parts.0 other)) (missing_at table words text parts.1 other)

pub own_found_at : (text : List ℕ) (place : ℕ) → place ≡ place_of text → bytes_eq (text_at own_words place) text ≡ true → kind_at own_words place ≡ kind_of text
unfolding kind_of
own_found_at text place e same = subst (λ p. bytes_eq (text_at own_words p) text ≡ true → kind_at own_words p ≡ kind_of text) (sym e) (found_at own_words text) same

pub own_missing_at : (text : List ℕ) (place : ℕ) → place ≡ place_of text → bytes_eq (text_at own_words place) text ≡ false → name_kind ≡ kind_of text
unfolding kind_of
own_missing_at text place e other = sym (missing_at own_words own_words text refl (subst (λ p. bytes_eq (text_at own_words p) text ≡ false) e other))

-- each word has from two to ten bytes
abbrev within : List (ℕ × List ℕ) → Bool
within [] = true
within (word ∷ words) = (leb 2 (length word.1) && leb (length word.1) 10) && within words

other_length : (word text : List ℕ) → leb 2 (length word) ≡ true → leb (length word) 10 ≡ true → (length text < 2) ⊎ (10 < length text) → text ≡ word → ⊥
other_length word text low high out e =
    let same : length text ≡ length word = ap length e in
    let least : 2 ≤ length word = leb-true 2 (length word) low in
    let most : length word ≤ 10 = leb-true (length word) 10 high in
    ⊎_elim (λ (h : length text < 2). omega (arith, h, least, same)) (λ (h : 10 < length text). omega (arith, h, most, same)) out

none_within : (words : List (ℕ × List ℕ)) (text : List ℕ) → within words ≡ true → (length text < 2) ⊎ (10 < length text) → kind_among words text ≡ name_kind
none_within [] text whole out = refl
none_within (word ∷ words) text whole out =
    let parts : ((leb 2 (length word.1) && leb (length word.1) 10) ≡ true) × (within words ≡ true) = and_parts _ _ whole in
    let ends : (leb 2 (length word.1) ≡ true) × (leb (length word.1) 10 ≡ true) = and_parts _ _ parts.0 in
    rw (different_false word.1 text (other_length word.1 text ends.0 ends.1 out)) (none_within words text parts.1 out)

pub short_not_own : (bytes text : List ℕ) → bytes ≡ text → length bytes < 2 → kind_of text ≡ name_kind
unfolding kind_of
short_not_own bytes text same short = none_within own_words text refl (inl (subst (λ t. length t < 2) same short))

pub long_not_own : (text : List ℕ) → 10 < length text → kind_of text ≡ name_kind
unfolding kind_of
long_not_own text long = none_within own_words text refl (inr long)

-- each word's text is the one that the table has for its kind
abbrev faithful : List (ℕ × List ℕ) → List (ℕ × List ℕ) → Bool
faithful table [] = true
faithful table (word ∷ words) = bytes_eq (text_among table word.0) word.1 && faithful table words

-- by whether the first word is the text
by_first : (word : ℕ × List ℕ) (words : List (ℕ × List ℕ)) (text : List ℕ) (P : ℕ → Type 0) → (word.1 ≡ text → P word.0) → P (kind_among words text) → P (kind_among (word ∷ words) text)
by_first word words text P at_first at_rest =
    let both : (b : Bool) → bytes_eq word.1 text ≡ b → P (if b then word.0 else kind_among words text) = λ b.
    elim b as (λ v. bytes_eq word.1 text ≡ v → P (if v then word.0 else kind_among words text))
    [ true ↦ λ equal. at_first ((bytes_eq-Decides word.1 text).0 equal) | false ↦ λ _. at_rest ]
    in both (bytes_eq word.1 text) refl

-- a kind that was found is that of the text
pub text_of_found : (table words : List (ℕ × List ℕ)) (text : List ℕ) → faithful table words ≡ true → kind_among words text ≢ name_kind → text_among table (kind_among words text) ≡ text
text_of_found table [] text whole found = absurd (found refl)
text_of_found table (word ∷ words) text whole found =
    let parts : (bytes_eq (text_among table word.0) word.1 ≡ true) × (faithful table words ≡ true) = and_parts _ _ whole in
    let P : ℕ → Type 0 = λ kind. kind ≢ name_kind → text_among table kind ≡ text in
    by_first word words text P
    (λ equal _. (bytes_eq-Decides (text_among table word.0) word.1).0 parts.0 ∙ equal)
    (λ other. text_of_found table words text parts.1 other)
    found

pub keyword_below : (keyword : Keyword) → keyword_kind keyword < name_kind
keyword_below Await = lit< tt
keyword_below _ = lit< tt

pub known_below : (known : KnownIdent) → known_kind known < name_kind
known_below Accessor = lit< tt
known_below _ = lit< tt

pub same_word : (kind kind' : ℕ) (text text' : List ℕ) → kind ≡ kind' → text ≡ text' → (let word : SpecWord = record { kind = kind; text = text } in word) ≡ (let word : SpecWord = record { kind = kind'; text = text' } in word)
same_word kind kind' text text' e f = cc

own_faithful : (words : List (ℕ × List ℕ)) (text : List ℕ) → faithful own_words words ≡ true → kind_among words text ≢ name_kind → own_text (kind_among words text) ≡ text
unfolding own_text
own_faithful words text whole found = text_of_found own_words words text whole found

-- the text of a known name that was found
pub known_text : (known : KnownIdent) (text : List ℕ) → known_kind known ≡ kind_among known_words text → own_text (known_kind known) ≡ text
known_text known text found =
    let below : known_kind known < name_kind = known_below known in
    rw found (own_faithful known_words text refl (λ none. absurd (omega arith)))

-- the name of a text with a kind that was found among the known names
pub found_name : (known : KnownIdent) (text : List ℕ) → known_kind known ≡ kind_among known_words text → own_word (known_kind known) ≡ record { kind = kind_among known_words text; text = text }
found_name known text found = same_word _ _ _ _ found (known_text known text found)

-- the word of a text with a kind of its own
pub own_kind_word : (kind : ℕ) (text : List ℕ) → kind ≡ kind_of text → kind < name_kind → own_word kind ≡ word_of text
unfolding kind_of
own_kind_word kind text found below =
    let text_is : own_text kind ≡ text = rw found (own_faithful own_words text refl (λ none. absurd (omega (arith, found, none, below)))) in
    same_word _ _ _ _ found text_is

keyword_again : (keyword : Keyword) → kind_of (own_text (keyword_kind keyword)) ≡ keyword_kind keyword
unfolding kind_of own_text
keyword_again Await = refl
keyword_again _ = refl

known_again : (known : KnownIdent) → kind_of (own_text (known_kind known)) ≡ known_kind known
unfolding kind_of own_text
known_again Accessor = refl
known_again _ = refl

own_again : (kind : ℕ) → kind_of (own_text kind) ≡ kind → word_of (own_text kind) ≡ own_word kind
own_again kind same = same_word _ _ _ _ same refl

null_again : kind_of (own_text null_kind) ≡ null_kind
unfolding kind_of own_text
null_again = refl

true_again : kind_of (own_text true_kind) ≡ true_kind
unfolding kind_of own_text
true_again = refl

false_again : kind_of (own_text false_kind) ≡ false_kind
unfolding kind_of own_text
false_again = refl

name_again : (name : IdentLike) → IsOwnName (name_view name) → word_of (name_view name).text ≡ name_view name
name_again (Known known) own = own_again (known_kind known) (known_again known)
name_again (Other text) own = same_word _ _ _ _ (own refl) refl

-- the word of a word's text is that word
pub word_again : (word : Word) → IsOwnName (word_view word) → word_of (word_view word).text ≡ word_view word
word_again (KeywordWord keyword) own = own_again (keyword_kind keyword) (keyword_again keyword)
word_again Null own = own_again null_kind null_again
word_again True own = own_again true_kind true_again
word_again False own = own_again false_kind false_again
word_again (Ident name) own = name_again name own
