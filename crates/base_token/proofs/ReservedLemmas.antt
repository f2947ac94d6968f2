-- Lemmas on the table of reserved words.
use Rattle.std.proofs.Common.{◌≡◌, ℕ, Bool, true, false, not, ◌&&◌, ◌||◌, ◌⊎◌, ⊎_elim, List, [], ◌∷◌, refl, sym, ap, ◌∙◌, eq-eqb}
use Rattle.std.specs.Prelude.{◌==◌, bytes_eq, codes}
use Rattle.std.proofs.lemmas.Slice.Eq.{bytes_eq-Decides}
use Rattle.std.proofs.lemmas.Bool.{and_parts}
use Rattle.std.proofs.Math.Bool.{or-false}
use Rattle.base_token.specs.Kinds.{name_kind, null_kind, true_kind, false_kind}
use Rattle.base_token.specs.Words.{own_text, kind_of}
use Rattle.base_token.specs.WordKinds.{keyword_kind, known_kind}
use Rattle.base_token.specs.WordViews.{word_kind_number}
use Rattle.base_token.specs.declared.word.WordKind.{WordKind}
use Rattle.base_token.specs.declared.word.WordKind.TheVariants.{Null, True, False}
use Rattle.base_token.specs.Reserved.{is_reserved_in, is_among, always_reserved, strict_reserved}
use Rattle.base_token.specs.declared.context.Context.{Context}
use Rattle.base_token.specs.declared.word.Keyword.{Keyword}
use Rattle.base_token.specs.declared.word.KnownIdent.{KnownIdent}
use Rattle.base_token.specs.declared.word.Keyword.TheVariants.{Let, Yield, Await}
use Rattle.base_token.specs.declared.word.KnownIdent.TheVariants.{Enum, Implements, Interface, Package, Private, Protected, Public, Static}

-- whether a keyword is reserved, case by case
abbrev pub reserved_keyword : Context → Keyword → Bool
reserved_keyword context Let = context.strict
reserved_keyword context Yield = context.strict || context.in_generator
reserved_keyword context Await = context.in_async || (context.in_static_block || context.module_)
reserved_keyword context _ = true

-- whether a known name is reserved, case by case
abbrev pub reserved_name : Context → KnownIdent → Bool
reserved_name context Enum = true
reserved_name context Implements = context.strict
reserved_name context Interface = context.strict
reserved_name context Package = context.strict
reserved_name context Private = context.strict
reserved_name context Protected = context.strict
reserved_name context Public = context.strict
reserved_name context Static = context.strict
reserved_name context _ = false

pub keyword_reserved : (context : Context) (keyword : Keyword) → is_reserved_in context (own_text (keyword_kind keyword)) ≡ reserved_keyword context keyword
unfolding is_reserved_in own_text
keyword_reserved context Let = or-false context.strict
keyword_reserved context Yield = simp or-false
keyword_reserved context Await = refl
keyword_reserved context _ = refl

pub name_reserved : (context : Context) (known : KnownIdent) → is_reserved_in context (own_text (known_kind known)) ≡ reserved_name context known
unfolding is_reserved_in own_text
name_reserved context Enum = refl
name_reserved context Implements = or-false context.strict
name_reserved context Interface = or-false context.strict
name_reserved context Package = or-false context.strict
name_reserved context Private = or-false context.strict
name_reserved context Protected = or-false context.strict
name_reserved context Public = or-false context.strict
name_reserved context Static = or-false context.strict
name_reserved context _ = refl

pub null_reserved : (context : Context) → is_reserved_in context (own_text null_kind) ≡ true
unfolding is_reserved_in own_text
null_reserved context = refl

pub true_reserved : (context : Context) → is_reserved_in context (own_text true_kind) ≡ true
unfolding is_reserved_in own_text
true_reserved context = refl

pub false_reserved : (context : Context) → is_reserved_in context (own_text false_kind) ≡ true
unfolding is_reserved_in own_text
false_reserved context = refl

-- any other keyword is reserved
pub other_keyword : (context : Context) (keyword : Keyword) → (keyword ≡ Let → ⊥) → (keyword ≡ Yield → ⊥) → (keyword ≡ Await → ⊥) → true ≡ reserved_keyword context keyword
other_keyword context Let not_let not_yield not_await = absurd (not_let refl)
other_keyword context Yield not_let not_yield not_await = absurd (not_yield refl)
other_keyword context Await not_let not_yield not_await = absurd (not_await refl)
other_keyword context _ not_let not_yield not_await = refl

-- the names that strict code reserves
pub strict_name : (context : Context) (known : KnownIdent) → (known ≡ Implements) ⊎ ((known ≡ Interface) ⊎ ((known ≡ Package) ⊎ ((known ≡ Private) ⊎ ((known ≡ Protected) ⊎ ((known ≡ Public) ⊎ (known ≡ Static)))))) → context.strict ≡ reserved_name context known
strict_name context known =
    ⊎_elim (λ e. rw e refl) (⊎_elim (λ e. rw e refl) (⊎_elim (λ e. rw e refl) (⊎_elim (λ e. rw e refl) (⊎_elim (λ e. rw e refl) (⊎_elim (λ e. rw e refl) (λ e. rw e refl))))))

-- any other known name is not reserved
pub other_name : (context : Context) (known : KnownIdent) → (known ≡ Enum → ⊥) → (known ≡ Implements → ⊥) → (known ≡ Interface → ⊥) → (known ≡ Package → ⊥) → (known ≡ Private → ⊥) → (known ≡ Protected → ⊥) → (known ≡ Public → ⊥) → (known ≡ Static → ⊥) → false ≡ reserved_name context known
other_name context Enum a b c d e f g h = absurd (a refl)
other_name context Implements a b c d e f g h = absurd (b refl)
other_name context Interface a b c d e f g h = absurd (c refl)
other_name context Package a b c d e f g h = absurd (d refl)
other_name context Private a b c d e f g h = absurd (e refl)
other_name context Protected a b c d e f g h = absurd (f refl)
other_name context Public a b c d e f g h = absurd (g refl)
other_name context Static a b c d e f g h = absurd (h refl)
other_name context _ a b c d e f g h = refl

-- the words that are values are reserved
pub literal_reserved : (context : Context) (kind : WordKind) → (kind ≡ Null) ⊎ ((kind ≡ True) ⊎ (kind ≡ False)) → true ≡ is_reserved_in context (own_text (word_kind_number kind))
literal_reserved context kind =
    ⊎_elim (λ e. rw e (sym (null_reserved context))) (⊎_elim (λ e. rw e (sym (true_reserved context))) (λ e. rw e (sym (false_reserved context))))

-- each word has a kind of its own
abbrev all_own : List (List ℕ) → Bool
all_own [] = true
all_own (word ∷ words) = not (kind_of word == name_kind) && all_own words

differs_by_kind : (word text : List ℕ) → not (kind_of word == name_kind) ≡ true → name_kind ≡ kind_of text → bytes_eq word text ≡ false
differs_by_kind word text own plain =
    let both : (b : Bool) → bytes_eq word text ≡ b → b ≡ false =
    elim [
      | true ↦ λ equal. (let same : word ≡ text = (bytes_eq-Decides word text).0 equal in
          let found : (kind_of word == name_kind) ≡ true = eq-eqb _ _ (ap kind_of same ∙ sym plain) in cc)
      | false ↦ λ _. refl
    ]
    in both (bytes_eq word text) refl

unlisted : (words : List (List ℕ)) (text : List ℕ) → all_own words ≡ true → name_kind ≡ kind_of text → is_among words text ≡ false
unlisted [] text own plain = refl
unlisted (word ∷ words) text own plain =
    let parts : (not (kind_of word == name_kind) ≡ true) × (all_own words ≡ true) = and_parts _ _ own in
    rw (differs_by_kind word text parts.0 plain) (unlisted words text parts.1 plain)

always_own : all_own always_reserved ≡ true
unfolding kind_of
always_own = refl

strict_own : all_own strict_reserved ≡ true
unfolding kind_of
strict_own = refl

yield_own : not (kind_of (codes "yield") == name_kind) ≡ true
unfolding kind_of
yield_own = refl

await_own : not (kind_of (codes "await") == name_kind) ≡ true
unfolding kind_of
await_own = refl

-- a plain name is not reserved
pub plain_unreserved : (context : Context) (text : List ℕ) → name_kind ≡ kind_of text → false ≡ is_reserved_in context text
unfolding is_reserved_in
plain_unreserved context text plain =
    rw (unlisted always_reserved text always_own plain, unlisted strict_reserved text strict_own plain, differs_by_kind (codes "yield") text yield_own plain, differs_by_kind (codes "await") text await_own plain) refl
