-- All steps are made again in the canonical text.
use Rattle.std.proofs.Common.{◌≡◌, ℕ, ◌≤◌, inl, inr, Bool, true, false, cond, List, [], ◌∷◌, ◌++◌, length, Option, Some, None, append_assoc, refl, sym, ap, subst, ◌∙◌, arith}
use Rattle.std.specs.Prelude.{◌==◌, encode_utf8_all}
use Rattle.std.proofs.lemmas.Bool.{false≢true}
use lib.Utf8.{encode}
use Rattle.base_token.specs.Kinds.{hash_kind, shebang_kind, template_kind}
use Rattle.base_token.specs.Tokens.{SpecToken, Spot}
use Rattle.lex_source.specs.declared.contexts.TokenContext.{TokenContext}
use Rattle.lex_source.specs.declared.contexts.TokenContext.TheVariants as t
use Rattle.lex_pieces.specs.Places.{bytes}
use Rattle.lex_pieces.specs.Trivia.{IsHashbang}
use Rattle.lex_literal.specs.declared.template.Ending.{Ending}
use Rattle.lex_literal.specs.declared.template.Ending.TheVariants.{BackQuote, Substitution}
use Rattle.lex_literal.specs.Templates as templates
use Rattle.lex_token.specs.declared.goal.LexicalGoal.{LexicalGoal}
use Rattle.lex_token.specs.declared.goal.LexicalGoal.TheVariants.{Div, TemplateTail, TemplateEnd}
use Rattle.lex_token.specs.Lexemes.{SpecLexeme, IsLexeme, ending_kind}
use Rattle.lex_step_laws.specs.States.{Last, Start, Characters, Other, State, behind, contexts_after, last_after, place, shebang, spot_at, template_goal}
use Rattle.lex_step_laws.specs.Steps.{IsGoing, IsOutside}
use Rattle.lex_step_laws.proofs.Going.{none_some}
use Rattle.lex_source.specs.Canonical.Canonical.{Edge, blank, edge_of, gap, own_bytes, touches}
use Rattle.lex_source.specs.Canonical.Moved.{moved_to}
use Rattle.lex_run_laws.specs.Turns.{begin_at, end_at}
use Rattle.lex_run_laws.proofs.Standing.{no_inner, no_template, no_tpl}
use Rattle.lex_run_laws.proofs.Marks.{end_before}
use Rattle.lex_run_laws.proofs.Slashes.{characters_before, hashbang_before}
use Rattle.lex_run_laws.proofs.Owns.{bytes_append, own_is}
use Rattle.lex_run_laws.proofs.Taken.{Bang, Ending as Ended, How, Tail, Took}
use Rattle.lex_run_laws.proofs.Going.{EdgeOf, behind_no_start, Sits, behind_characters, same_goal, start_no_end, gap_end, gap_tail, first_none, start_there}
use Rattle.lex_run_laws.proofs.Run.{Breaks, Canon, Fits, inside, plain_again, kind_of_spot}

-- ---- each way of taking a token

pub characters_kind : (from : List ℕ) (x : SpecLexeme) (rest : List ℕ) → IsLexeme TemplateTail from x rest → x.token.kind ≡ template_kind
characters_kind from x rest h = ap (λ (l : SpecLexeme). l.token.kind) h.6

tail_end : (cs : List TokenContext) (l : Last) → template_goal cs l ≡ Some TemplateTail → template_goal cs Characters ≡ Some TemplateEnd
tail_end [] l e = none_some e
tail_end (t.BraceStmt ∷ cs) l e = none_some e
tail_end (t.BraceExpr ∷ cs) l e = none_some e
tail_end (t.TplQuasi ∷ cs) l e = none_some e
tail_end (t.ParenStmt is_for_loop ∷ cs) l e = none_some e
tail_end (t.ParenExpr ∷ cs) l e = none_some e
tail_end (t.Tpl ∷ cs) l e = refl
tail_end (t.FnExpr ∷ cs) l e = none_some e
tail_end (t.ClassExpr ∷ cs) l e = none_some e

-- behind the characters of a template comes what ends them
behind_tail : (kind : ℕ) (from : List ℕ) (cs : List TokenContext) (l : Last) → kind ≡ template_kind → template_goal cs l ≡ Some TemplateTail
    → template_goal (contexts_after kind cs) (last_after kind from) ≡ Some TemplateEnd
behind_tail kind from cs l e g = ap (λ k. template_goal (contexts_after k cs) (last_after k from)) e ∙ tail_end cs l g

-- what is known of the text behind the token
abbrev pub FitsBehind : (s : State) (spot : Spot) (new : State) → Took s spot new → List ℕ → Type 0
FitsBehind s spot new k r = Fits (template_goal (contexts_after k.x.token.kind s.settings.contexts) (last_after k.x.token.kind k.from)) (Some (edge_of spot)) r

abbrev pub BreaksBehind : (s : State) (spot : Spot) (new : State) → Took s spot new → List ℕ → Type 0
BreaksBehind s spot new k r = Breaks (behind s k.line_break k.from k.x k.rest) (Some (edge_of spot)) r

same_mark : (s : State) (last : Option Edge) (spot : Spot) (a b : Bool) (x : SpecLexeme) (own r : List ℕ) → b ≡ a → Canon s last spot a x own r → Canon s last spot b x own r
same_mark s last spot a b x own r e c = subst (λ m. Canon s last spot m x own r) (sym e) c

tail_again : (s : State) (last : Option Edge) (spot : Spot) (new : State) (k : Took s spot new) → Tail s k.line_break k.from k.x k.rest → (r : List ℕ) → FitsBehind s spot new k r
    → Canon s last spot k.line_break k.x k.own r
tail_again s last spot new k h r f =
    let kind = characters_kind k.from k.x k.rest h.is in
    let g = subst (λ o. Fits o (Some (edge_of spot)) r) (behind_tail k.x.token.kind k.from s.settings.contexts s.tokens.last kind h.goal) f in
    let is = characters_before k.from k.own k.x k.rest r g.1 g.0 k.cut g.2 h.is in
    let same : (spot.token.kind == template_kind) ≡ true = ap (λ n. n == template_kind) (kind_of_spot s spot new k ∙ kind) in
    same_mark s last spot false k.line_break k.x k.own r h.mark (inside TemplateTail s last spot k.x k.own r h.goal (gap_tail last spot same) tt is)

gap_at_end : (whole : List ℕ) (s : State) (last : Option Edge) (spot : Spot) → Sits whole s last → template_goal s.settings.contexts s.tokens.last ≡ Some TemplateEnd → gap last spot ≡ []
gap_at_end whole s None spot sits g = absurd (start_no_end s sits.edge g)
gap_at_end whole s (Some e) spot sits g = gap_end e spot (behind_characters s e sits.edge g)

end_again : (whole : List ℕ) (s : State) (last : Option Edge) (spot : Spot) (new : State) → Sits whole s last → (k : Took s spot new) → Ended s k.line_break k.from k.x k.rest → (r : List ℕ)
    → Canon s last spot k.line_break k.x k.own r
end_again whole s last spot new sits k h r =
    let is = end_before k.from k.own k.x k.rest r k.cut h.is in
    same_mark s last spot false k.line_break k.x k.own r h.mark (inside TemplateEnd s last spot k.x k.own r h.goal (gap_at_end whole s last spot sits h.goal) (is.0, r, is.1) is)

bang_contexts : (cs : List TokenContext) (l : Last) (from : List ℕ) → template_goal cs l ≡ None → template_goal (contexts_after (shebang []).token.kind cs) (last_after (shebang []).token.kind from) ≡ None
bang_contexts cs l from g = no_tpl cs l Other g

bang_again : (s : State) (last : Option Edge) (spot : Spot) (new : State) → (k : Took s spot new) → EdgeOf s last → Bang s k.line_break k.from k.x k.rest → (r : List ℕ)
    → BreaksBehind s spot new k r → Canon s last spot k.line_break k.x k.own r
bang_again s (Some e) spot new k edge h r b = absurd (behind_no_start s e edge h.start)
bang_again s None spot new k edge h r b =
    let kind : k.x.token.kind ≡ shebang_kind = ap (λ (l : SpecLexeme). l.token.kind) h.token in
    let same : spot.token.kind ≡ shebang_kind = kind_of_spot s spot new k ∙ kind in
    let goal : template_goal (contexts_after k.x.token.kind s.settings.contexts) (last_after k.x.token.kind k.from) ≡ None =
    ap (λ n. template_goal (contexts_after n s.settings.contexts) (last_after n k.from)) kind ∙ bang_contexts s.settings.contexts s.tokens.last k.from h.goal in
    let ends = b (ap (λ n. n == template_kind) same) (ap (λ n. n == hash_kind) same) goal h.is.2.2 in
    let is = hashbang_before k.from k.own h.own k.rest r k.cut ends h.is in
    let gapless : gap None spot ≡ [] = first_none spot (ap (λ n. n == template_kind) same) (ap (λ (q : Spot). q.line_break) k.spot_is ∙ h.mark) in
    let none : gap None spot ++ (k.own ++ r) ≡ k.own ++ r = ap (λ (l : List ℕ). l ++ (k.own ++ r)) gapless in
    record {
      fits = subst (λ o. Fits o None (gap None spot ++ (k.own ++ r))) (sym h.goal) tt;
      breaks = tt;
      going = λ t same left ctx.
          let here : t.tokens.left ≡ k.own ++ r = left ∙ none in
          let start : t.tokens.last ≡ Start = start_there s.tokens.last t.tokens.last same.last h.start in
          subst (λ (o : Option LexicalGoal). IsGoing o t (Some (spot_at t.tokens.end k.line_break k.x.token (k.own ++ r) r)) (behind t k.line_break (k.own ++ r) k.x r)) (sym (same_goal s t same ∙ h.goal))
          (subst (λ (l : Last). IsOutside l t (Some (spot_at t.tokens.end k.line_break k.x.token (k.own ++ r) r)) (behind t k.line_break (k.own ++ r) k.x r)) (sym start)
          (inl (
            h.own,
            r,
            subst (λ (l : List ℕ). IsHashbang l h.own r) (sym here) is,
            ap (λ (b : Bool). Some (spot_at t.tokens.end b k.x.token (k.own ++ r) r)) h.mark
                ∙ ap (λ (x : SpecLexeme). Some (spot_at t.tokens.end false x.token (k.own ++ r) r)) h.token
                ∙ ap (λ (l : List ℕ). Some (spot_at t.tokens.end false (shebang h.own).token l r)) (sym here),
            ap (λ (b : Bool). behind t b (k.own ++ r) k.x r) h.mark
                ∙ ap (λ (x : SpecLexeme). behind t false (k.own ++ r) x r) h.token
                ∙ ap (λ (l : List ℕ). behind t false l (shebang h.own) r) (sym here),
          )));
    }

pub took_again : (whole : List ℕ) (s : State) (last : Option Edge) (spot : Spot) (new : State) → Sits whole s last → (k : Took s spot new) → How s k.line_break k.from k.x k.rest → (r : List ℕ)
    → FitsBehind s spot new k r → BreaksBehind s spot new k r → Canon s last spot k.line_break k.x k.own r
took_again whole s last spot new sits k (inl h) r f b = tail_again s last spot new k h r f
took_again whole s last spot new sits k (inr (inl h)) r f b = end_again whole s last spot new sits k h r
took_again whole s last spot new sits k (inr (inr (inl h))) r f b = bang_again s last spot new k sits.edge h r b
took_again whole s last spot new sits k (inr (inr (inr h))) r f b = plain_again whole s last spot new sits k h r f

-- ---- behind the token

ending_no_template : (ending : Ending) → (ending_kind ending == template_kind) ≡ false
ending_no_template BackQuote = refl
ending_no_template Substitution = refl

tail_by : (s : State) (spot : Spot) (new : State) (k : Took s spot new) → How s k.line_break k.from k.x k.rest → (k.x.token.kind == template_kind) ≡ true
    → (template_goal (contexts_after k.x.token.kind s.settings.contexts) Characters ≡ Some TemplateEnd) × ((f : Ending) × (r : List ℕ) × templates.Ends f k.rest r)
tail_by s spot new k (inl h) e =
    let kind = characters_kind k.from k.x k.rest h.is in
    (ap (λ n. template_goal (contexts_after n s.settings.contexts) Characters) kind ∙ tail_end s.settings.contexts s.tokens.last h.goal, (h.is.2, h.is.3, h.is.5))
tail_by s spot new k (inr (inl h)) e =
    absurd (false≢true (sym (ap (λ (l : SpecLexeme). l.token.kind == template_kind) h.is.2 ∙ ending_no_template h.is.0) ∙ e))
tail_by s spot new k (inr (inr (inl h))) e = absurd (false≢true (sym (ap (λ (l : SpecLexeme). l.token.kind == template_kind) h.token) ∙ e))
tail_by s spot new k (inr (inr (inr h))) e = absurd (false≢true (sym (no_template k.x.token.kind (no_inner Div k.from k.x k.rest h.is)) ∙ e))

pub sits_behind : (whole : List ℕ) (s : State) (last : Option Edge) (spot : Spot) (new : State) → Sits whole s last → (k : Took s spot new)
    → Sits whole (behind s k.line_break k.from k.x k.rest) (Some (edge_of spot))
sits_behind whole s last spot new sits k = record {
  before = sits.before ++ (k.gone.0 ++ k.own);
  there = sits.there ∙ ap (λ (l : List ℕ). sits.before ++ l) (k.gone.1 ∙ ap (λ (l : List ℕ). k.gone.0 ++ l) k.cut ∙ sym (append_assoc k.gone.0 k.own k.rest))
      ∙ sym (append_assoc sits.before (k.gone.0 ++ k.own) k.rest);
  end = sits.end;
  edge = record {
    kind = k.x.token.kind;
    from = k.from;
    last = refl;
    template = ap (λ n. n == template_kind) (kind_of_spot s spot new k);
    hash = ap (λ n. n == hash_kind) (kind_of_spot s spot new k);
    end = ap (λ (p : Spot). p.hi) k.spot_is;
    tail = λ e. tail_by s spot new k k.how e;
  };
}

-- ---- bytes and places

gap_text : (touch line_break : Bool) (last : Option Edge) → encode_utf8_all (cond touch [] (cond line_break (10 ∷ []) (blank last))) ≡ cond touch [] (cond line_break (10 ∷ []) (blank last))
unfolding encode
gap_text true b last = refl
gap_text false true last = refl
gap_text false false None = refl
gap_text false false (Some e) = refl

pub gap_encoded : (last : Option Edge) (spot : Spot) → encode_utf8_all (gap last spot) ≡ gap last spot
gap_encoded last spot = gap_text (touches last spot) spot.line_break last

pub own_of : (whole : List ℕ) (s : State) (last : Option Edge) (spot : Spot) (new : State) → Sits whole s last → (k : Took s spot new) → own_bytes (encode_utf8_all whole) spot.lo spot.hi ≡ encode_utf8_all k.own
own_of whole s last spot new sits k =
    let there : whole ≡ (sits.before ++ k.gone.0) ++ (k.own ++ k.rest) =
    sits.there ∙ ap (λ (l : List ℕ). sits.before ++ l) (k.gone.1 ∙ ap (λ (l : List ℕ). k.gone.0 ++ l) k.cut) ∙ sym (append_assoc sits.before k.gone.0 (k.own ++ k.rest)) in
    ap (λ (p : Spot). own_bytes (encode_utf8_all whole) p.lo p.hi) k.spot_is
    ∙ ap (λ (l : List ℕ). own_bytes (encode_utf8_all whole) (place s.tokens.end l) (place s.tokens.end k.rest)) k.cut
    ∙ own_is (sits.before ++ k.gone.0) k.own k.rest whole s.tokens.end there sits.end

-- the token in its new place
pub moved_spot : (spot : Spot) (token : SpecToken) (line_break : Bool) (end lo hi : ℕ) (from rest : List ℕ) → spot.token ≡ token → spot.line_break ≡ line_break → place end from ≡ lo → place end rest ≡ hi
    → record { token = token; line_break = line_break; lo = place end from; hi = place end rest } ≡ moved_to lo hi spot
moved_spot spot token line_break end lo hi from rest a b c d =
    let one : record { token = token; line_break = line_break; lo = place end from; hi = place end rest } ≡ moved_to (place end from) (place end rest) spot =
    ap (λ (w : SpecToken). moved_to (place end from) (place end rest) (record spot { token = w; line_break = line_break })) (sym a)
    ∙ ap (λ w. moved_to (place end from) (place end rest) (record spot { line_break = w })) (sym b) in
    one ∙ ap (λ w. moved_to w (place end rest) spot) c ∙ ap (λ w. moved_to lo w spot) d

pub record Placed (source : List ℕ) (at : ℕ) (last : Option Edge) (spot : Spot) (end : ℕ) (own r : List ℕ) : Type 0 where
  pub lo : place end (own ++ r) ≡ begin_at at last spot
  pub hi : place end r ≡ end_at source at last spot
  pub some : 1 ≤ end_at source at last spot

pub placed : (source : List ℕ) (at : ℕ) (last : Option Edge) (spot : Spot) (end : ℕ) (own r cs : List ℕ) → own_bytes source spot.lo spot.hi ≡ encode_utf8_all own → cs ≡ gap last spot ++ (own ++ r)
    → at ≡ place end cs → 1 ≤ at → Placed source at last spot end own r
placed source at last spot end own r cs o e p one =
    let a = ap bytes e ∙ bytes_append (gap last spot) (own ++ r) in
    let b = ap length (gap_encoded last spot) in
    let c = bytes_append own r in
    let d = ap length o in
    record { lo = omega (arith, a, b, p, one); hi = omega (arith, a, b, c, d, p, one); some = omega (arith, one) }
