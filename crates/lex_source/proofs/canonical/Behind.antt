-- What is left of tokens, one token on.
use Rattle.std.proofs.Common.{◌≡◌, ◌++◌, ◌<◌, ◌≤◌, ◌+◌, ◌∙◌, ap, sym, append_assoc, ℕ, List, [], Option, Some, drop, get_or, length, map}
use Rattle.std.proofs.Math.ListN.{drop_of_length-le}
use Rattle.std.proofs.lemmas.List.{at_drop_more}
use Rattle.base_token.specs.declared.token.TokenAndSpan.{TokenAndSpan}
use Rattle.lex_source.specs.Machine.{shown_spot}
use Rattle.lex_source.specs.Canonical.Canonical.{Edge, edge_of, gap, own_bytes, text_behind}

-- the text of what is left begins with that of the next token
pub behind_at : (source : List ℕ) (last : Option Edge) (tokens : List TokenAndSpan) (i : ℕ) (d : TokenAndSpan) → i < length tokens
    → text_behind source last (map shown_spot (drop i tokens)) ≡ gap last (shown_spot (get_or tokens i d)) ++ (own_bytes source (shown_spot (get_or tokens i d)).lo (shown_spot (get_or tokens i d)).hi ++ text_behind source (Some (edge_of (shown_spot (get_or tokens i d)))) (map shown_spot (drop (i + 1) tokens)))
unfolding text_behind
behind_at source last tokens i d within = at_drop_more (λ ts. text_behind source last (map shown_spot ts)) tokens i d within

-- nothing is left behind the last token
pub behind_all : (source : List ℕ) (last : Option Edge) (tokens : List TokenAndSpan) (i : ℕ) → length tokens ≤ i → text_behind source last (map shown_spot (drop i tokens)) ≡ []
unfolding text_behind
behind_all source last tokens i at = ap (λ ts. text_behind source last (map shown_spot ts)) (drop_of_length-le tokens at)

-- One token more was written.
pub one_more : (source : List ℕ) (last : Option Edge) (tokens : List TokenAndSpan) (i : ℕ) (d u : TokenAndSpan) (out mid new before own whole : List ℕ) (e : Edge)
    → i < length tokens
    → get_or tokens i d ≡ u
    → out ++ text_behind source last (map shown_spot (drop i tokens)) ≡ whole
    → before ≡ gap last (shown_spot u)
    → own ≡ own_bytes source (shown_spot u).lo (shown_spot u).hi
    → e ≡ edge_of (shown_spot u)
    → mid ≡ out ++ before → new ≡ mid ++ own
    → new ++ text_behind source (Some e) (map shown_spot (drop (i + 1) tokens)) ≡ whole
one_more source last tokens i d u out mid new before own whole e within is_next inv is_gap is_own is_edge is_mid is_new =
    let t = shown_spot u in
    let more = map shown_spot (drop (i + 1) tokens) in
    let rest = text_behind source (Some e) more in
    ap (λ x. x ++ rest) (is_new ∙ ap (λ x. x ++ own) is_mid)
    ∙ append_assoc (out ++ before) own rest
    ∙ append_assoc out before (own ++ rest)
    ∙ ap (λ x. out ++ x) (ap (λ x. x ++ (own ++ rest)) is_gap
    ∙ ap (λ x. gap last t ++ (x ++ rest)) is_own
    ∙ ap (λ x. gap last t ++ (own_bytes source t.lo t.hi ++ text_behind source (Some x) more)) is_edge
    ∙ sym (behind_at source last tokens i d within ∙ ap (λ x. gap last (shown_spot x) ++ (own_bytes source (shown_spot x).lo (shown_spot x).hi ++ text_behind source (Some (edge_of (shown_spot x))) more)) is_next))
    ∙ inv
