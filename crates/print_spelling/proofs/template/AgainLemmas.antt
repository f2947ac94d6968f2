-- A raw text with LF for its line ends is written as the raw text is.
use Rattle.std.proofs.Common.{◌≡◌, ℕ, zero, ⊎_elim, Bool, true, false, List, [], ◌∷◌, ◌++◌, append-nil, refl, sym, ap, subst, ◌∙◌}
use Rattle.std.specs.Prelude.{if◌then◌else◌, ◌==◌, ◌&&◌, ◌||◌, not}
use Rattle.std.specs.List.{list_all}
use Rattle.std.proofs.lemmas.Bool.{cases_Bool, eqb-true}
use Rattle.lex_pieces.specs.Runs.{Each}
use Rattle.lex_literal.specs.Escapes.{begins, is_line_feed}
use Rattle.lex_literal.specs.Templates.{line_feeds}
use Rattle.lex_literal.proofs.RawLemmas.{line_feeds_same}
use Rattle.print_spelling.specs.declared.style.Style.{Style}
use Rattle.print_spelling.specs.declared.template.part.Part.{Part}
use Rattle.print_spelling.specs.Template.Again.{TemplateAgain, WrittenAgain}
use Rattle.print_spelling.specs.Template.Templates.{is_ascii, keeps_raw, parts, parts_text, template_text}
use Rattle.print_spelling.proofs.template.ReadLemmas.{parts_text_more, piece_twice}
use Rattle.print_spelling.proofs.template.TwiceLemmas.{AreTwice}
use Rattle.print_spelling.proofs.template.LineLemmas.{is_other, fed_other, fed_run, fed_return}

-- behind CR and LF, and behind CR alone
fed_both : (cs : List ℕ) → begins is_line_feed cs ≡ true → line_feeds (13 ∷ cs) ≡ line_feeds cs
fed_both cs e = ap (λ b. if b then line_feeds cs else 10 ∷ line_feeds cs) e

-- by the first character
by_first : (P : List ℕ → List ℕ → Type 0) (c : ℕ) (cs : List ℕ) → (begins is_line_feed cs ≡ true → P (13 ∷ cs) (line_feeds cs))
    → P (13 ∷ cs) (10 ∷ line_feeds cs) → (is_other c ≡ true → P (c ∷ cs) (c ∷ line_feeds cs)) → P (c ∷ cs) (line_feeds (c ∷ cs))
by_first P c cs both lone other = ⊎_elim
    (λ (r : (c == 13) ≡ true).
    subst (λ x. P (x ∷ cs) (line_feeds (x ∷ cs))) (sym (eqb-true c 13 r))
    (⊎_elim
    (λ (l : begins is_line_feed cs ≡ true). subst (P (13 ∷ cs)) (sym (fed_both cs l)) (both l))
    (λ (l : begins is_line_feed cs ≡ false). subst (P (13 ∷ cs)) (sym (fed_return cs l)) lone)
    (cases_Bool (begins is_line_feed cs))))
    (λ (r : (c == 13) ≡ false). subst (P (c ∷ cs)) (sym (fed_other c cs (ap not r))) (other (ap not r)))
    (cases_Bool (c == 13))

fed_each : (cs : List ℕ) → Each is_other (line_feeds cs)
fed_each [] = tt
fed_each (c ∷ cs) = by_first (λ l m. Each is_other m) c cs (λ e. fed_each cs) (refl, fed_each cs) (λ e. (e, fed_each cs))

fed_twice : (cs : List ℕ) → line_feeds (line_feeds cs) ≡ line_feeds cs
fed_twice cs = ap line_feeds (sym (append-nil (line_feeds cs))) ∙ fed_run (line_feeds cs) [] (fed_each cs) ∙ append-nil (line_feeds cs)

fed_ascii : (cs : List ℕ) → list_all is_ascii (line_feeds cs) ≡ list_all is_ascii cs
fed_ascii [] = refl
fed_ascii (c ∷ cs) =
    by_first (λ l m. list_all is_ascii m ≡ list_all is_ascii l) c cs (λ e. fed_ascii cs) (fed_ascii cs) (λ e. ap (λ b. is_ascii c && b) (fed_ascii cs))

kept_same : (style : Style) (raw : List ℕ) → keeps_raw style (line_feeds raw) ≡ keeps_raw style raw
kept_same style raw = ap (λ b. not style.minify && (not style.ascii_only || b)) (fed_ascii raw)

fed_same : (style : Style) (raw m : List ℕ) → template_text style (line_feeds raw) m ≡ template_text style raw m
fed_same style raw m =
    ap (λ b. if b then line_feeds (line_feeds raw) ++ m else parts_text style false (parts zero (line_feeds (line_feeds raw))) m) (kept_same style raw)
    ∙ ap (λ l. if keeps_raw style raw then l ++ m else parts_text style false (parts zero l) m) (fed_twice raw)

pub template_again : TemplateAgain
template_again style other raw m k =
    ap (λ l. template_text other l m)
    (ap (λ b. if b then line_feeds raw ++ [] else parts_text style false (parts zero (line_feeds raw)) []) k ∙ append-nil (line_feeds raw))
    ∙ fed_same other raw m

-- what is written part by part
parts_again : (style : Style) (ps : List Part) (m : List ℕ) → AreTwice style ps → template_text style (parts_text style false ps []) m ≡ parts_text style false ps m
parts_again style ps m t =
    ap (λ l. if keeps_raw style (parts_text style false ps []) then l ++ m else parts_text style false (parts zero l) m)
    (line_feeds_same (parts_text style false ps []) (t.other false))
    ∙ either (keeps_raw style (parts_text style false ps [])) _ _ (parts_text style false ps m) (sym (parts_text_more style false ps m)) (t.text false m)
  where
    either : (b : Bool) (x y z : List ℕ) → x ≡ z → y ≡ z → (if b then x else y) ≡ z
    either true x y z f g = f
    either false x y z f g = g

pub written_again : WrittenAgain
written_again style raw units before behind m e h codes = ⊎_elim
    (λ (b : keeps_raw style raw ≡ true). template_again style style raw m b)
    (λ (b : keeps_raw style raw ≡ false).
    ap (λ x. template_text style (if x then line_feeds raw ++ [] else parts_text style false (parts zero (line_feeds raw)) []) m) b
    ∙ parts_again style (parts zero (line_feeds raw)) m (piece_twice style raw units before behind e h codes)
    ∙ sym (ap (λ x. if x then line_feeds raw ++ m else parts_text style false (parts zero (line_feeds raw)) m) b))
    (cases_Bool (keeps_raw style raw))
