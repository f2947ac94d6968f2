-- One turn in the canonical text, and the end.
use Rattle.std.proofs.Common.{◌≡◌, ◌≢◌, ℕ, inl, inr, Bool, false, cond, ◌||◌, List, [], ◌∷◌, ◌++◌, Option, Some, None, refl, sym, ap, subst, ◌∙◌}
use Rattle.std.specs.Prelude.{encode_utf8_all}
use Rattle.std.proofs.lemmas.Str.{encodes-append}
use Rattle.base_token.specs.declared.context.Context.{Context}
use Rattle.base_token.specs.Kinds.{error_kind}
use Rattle.base_token.specs.Tokens.{Spot}
use Rattle.lex_source.specs.Machine as machine
use Rattle.lex_pieces.specs.Trivia.{NoHashbang, NoTrivia}
use Rattle.lex_pieces.proofs.TriviaLemmas.{no_trivia}
use Rattle.lex_literal.specs.Templates as templates
use Rattle.lex_token.specs.declared.goal.LexicalGoal.{LexicalGoal}
use Rattle.lex_token.specs.declared.goal.LexicalGoal.TheVariants.{Div, RegExp, TemplateTail, TemplateEnd}
use Rattle.lex_step_laws.specs.States.{Start, Fault, State, again, behind, contexts_after, ended, goal_of, is_start, spot_at, template_goal}
use Rattle.lex_step_laws.specs.Steps.{IsGoing, IsStep}
use Rattle.lex_step_laws.proofs.Going.{Goes, goes, last_going, no_again, none_some}
use Rattle.lex_step_laws.proofs.StepLemmas.{no_ending}
use Rattle.lex_source.specs.Canonical.Canonical.{Edge, edge_of, gap, own_bytes, text_behind}
use Rattle.lex_source.specs.Canonical.Moved.{moved_to}
use Rattle.lex_run_laws.specs.Turns.{Turn, Turns, asked, begin_at, end_at, is_reread, kept, moved_behind, told}
use Rattle.lex_run_laws.proofs.Taken.{Took, no_goal, took}
use Rattle.lex_run_laws.proofs.Going.{EdgeOf, QuietBy, Same, Sits, behind_characters, going_on, make_step, never_again, plain_going, quiet_same, same_after, same_goal, start_no_end}
use Rattle.lex_run_laws.proofs.Run.{Breaks, Canon, Fits, Going}
use Rattle.lex_run_laws.proofs.Making.{gap_encoded, moved_spot, own_of, placed}

-- ---- what is told leaves where a state stands

pub edge_told : (ctx : Context) (p : Option ℕ) (s : State) (last : Option Edge) → EdgeOf s last → EdgeOf (told ctx p s) last
edge_told ctx p s None h = h
edge_told ctx p s (Some e) h = record { kind = h.kind; from = h.from; last = h.last; template = h.template; hash = h.hash; end = h.end; tail = h.tail }

pub sits_told : (whole : List ℕ) (ctx : Context) (p : Option ℕ) (s : State) (last : Option Edge) → Sits whole s last → Sits whole (told ctx p s) last
sits_told whole ctx p s last h = record { before = h.before; there = h.there; end = h.end; edge = edge_told ctx p s last h.edge }

pub breaks_told : (ctx : Context) (p : Option ℕ) (s : State) (last : Option Edge) (cs : List ℕ) → Breaks (told ctx p s) last cs → Breaks s last cs
breaks_told ctx p s None cs h = h
breaks_told ctx p s (Some e) cs h = h

-- ---- one turn

-- how the token of a turn was taken, where no slash was read again
pub took_of : (s new : State) (spot : Spot) → spot.token.kind ≢ error_kind → again s ≡ None → IsStep s (Some spot) new → Took s spot new
took_of s new spot n a h = by_goes (goes s new (Some spot) a h)
  where
    by_goes : Goes s (Some spot) new → Took s spot new
    by_goes (inl k) = none_some (sym k.1)
    by_goes (inr k) = took s new spot n k.1

pub text_more : (source : List ℕ) (last : Option Edge) (t : Turn) (ts : List Turn) (own r : List ℕ) → is_reread t ts ≡ false → own_bytes source t.spot.lo t.spot.hi ≡ encode_utf8_all own
    → encode_utf8_all r ≡ text_behind source (Some (edge_of t.spot)) (kept ts) → encode_utf8_all (gap last t.spot ++ (own ++ r)) ≡ text_behind source last (kept (t ∷ ts))
unfolding text_behind
text_more source last t ts own r e o h =
    encodes-append (gap last t.spot) (own ++ r)
    ∙ ap (λ (l : List ℕ). l ++ encode_utf8_all (own ++ r)) (gap_encoded last t.spot)
    ∙ ap (λ (l : List ℕ). gap last t.spot ++ l) (encodes-append own r ∙ ap (λ (l : List ℕ). l ++ encode_utf8_all r) (sym o) ∙ ap (λ (l : List ℕ). own_bytes source t.spot.lo t.spot.hi ++ l) h)
    ∙ ap (λ (b : Bool). text_behind source last (cond b (kept ts) (t.spot ∷ kept ts))) (sym e)

pub moved_more : (source : List ℕ) (at : ℕ) (last : Option Edge) (t : Turn) (ts : List Turn) → is_reread t ts ≡ false → (p : Option ℕ) (s new : State)
    → Turns p s (moved_behind source (end_at source at last t.spot) (Some (edge_of t.spot)) ts) new
    → Turns p s (cond (is_reread t ts) (moved_behind source at last ts) (moved_behind source (end_at source at last t.spot) (Some (edge_of t.spot)) ts)) new
moved_more source at last t ts e p s new h =
    subst (λ (b : Bool). Turns p s (cond b (moved_behind source at last ts) (moved_behind source (end_at source at last t.spot) (Some (edge_of t.spot)) ts)) new) (sym e) h

pub single : (whole : List ℕ) (ctx : Context) (s : State) (last : Option Edge) (lo : Option ℕ) (t : Turn) (ts : List Turn) (new : State) → Sits whole s last → QuietBy s.tokens.last t.again
    → is_reread t ts ≡ false → (k : Took (told t.ctx (asked t.again lo) s) t.spot new)
    → (ih : Going whole ctx (behind (told t.ctx (asked t.again lo) s) k.line_break k.from k.x k.rest) (Some (edge_of t.spot)) ts)
    → Canon (told t.ctx (asked t.again lo) s) last t.spot k.line_break k.x k.own ih.cs → Going whole ctx s last (t ∷ ts)
single whole ctx s last lo t ts new sits quiet e k ih c =
    let source = encode_utf8_all whole in
    let s0 = told t.ctx (asked t.again lo) s in
    let sits0 = sits_told whole t.ctx (asked t.again lo) s last sits in
    let own = own_of whole s0 last t.spot new sits0 k in
    record {
      cs = gap last t.spot ++ (k.own ++ ih.cs);
      text = text_more source last t ts k.own ih.cs e own ih.text;
      fits = c.fits;
      breaks = breaks_told t.ctx (asked t.again lo) s last (gap last t.spot ++ (k.own ++ ih.cs)) c.breaks;
      reads = λ u at lo2 same left is_at one.
          let u0 = told t.ctx (asked t.again lo2) u in
          let same0 : Same s0 u0 = record { contexts = same.contexts; last = same.last } in
          let p = placed source at last t.spot u.tokens.end k.own ih.cs (gap last t.spot ++ (k.own ++ ih.cs)) own refl is_at one in
          let newt = behind u0 k.line_break (k.own ++ ih.cs) k.x ih.cs in
          let spot = moved_to (begin_at at last t.spot) (end_at source at last t.spot) t.spot in
          let made : IsStep u0 (Some (spot_at u.tokens.end k.line_break k.x.token (k.own ++ ih.cs) ih.cs)) newt =
          make_step u0 newt (Some (spot_at u.tokens.end k.line_break k.x.token (k.own ++ ih.cs) ih.cs)) (going_on s.tokens.last u.tokens.last same.last)
          (never_again u.tokens.last t.again lo2 u.tokens.end (quiet_same s.tokens.last u.tokens.last t.again same.last quiet)) (c.going u0 same0 left refl) in
          let there : spot_at u.tokens.end k.line_break k.x.token (k.own ++ ih.cs) ih.cs ≡ spot =
          moved_spot t.spot (machine.told k.x.token) k.line_break u.tokens.end (begin_at at last t.spot) (end_at source at last t.spot) (k.own ++ ih.cs) ih.cs
          (ap (λ (q : Spot). q.token) k.spot_is) (ap (λ (q : Spot). q.line_break) k.spot_is) p.lo p.hi in
          let step : IsStep u0 (Some spot) newt = subst (λ (q : Spot). IsStep u0 (Some q) newt) there made in
          let after : Same (behind s0 k.line_break k.from k.x k.rest) newt = record { contexts = ap (contexts_after k.x.token.kind) same.contexts; last = same_after k.x.token.kind k.from (k.own ++ ih.cs) } in
          let more = ih.reads newt (end_at source at last t.spot) (Some (begin_at at last t.spot)) after refl (sym p.hi) p.some in
          (more.0, more.1, (newt, step, moved_more source at last t ts e (Some (begin_at at last t.spot)) newt more.0 more.2), more.3);
    }

-- ---- the end

ends_goes : (s new : State) → again s ≡ None → s.tokens.last ≢ Fault → IsStep s None new → IsGoing (template_goal s.settings.contexts s.tokens.last) s None new
ends_goes s new a n h = by_goes (goes s new None a h)
  where
    by_goes : Goes s None new → IsGoing (template_goal s.settings.contexts s.tokens.last) s None new
    by_goes (inl k) = absurd (n k.0)
    by_goes (inr k) = k.1

-- a state whose last token was no fault
edge_going : (s : State) (last : Option Edge) → EdgeOf s last → s.tokens.last ≢ Fault
edge_going s None e f = let k : Start ≡ Fault = sym e ∙ f in cc
edge_going s (Some e) b f = last_going b.kind b.from (sym b.last ∙ f)

-- where the text ends, no template is open
end_goal : (s new : State) (last : Option Edge) (goal : Option LexicalGoal) → EdgeOf s last → template_goal s.settings.contexts s.tokens.last ≡ goal → IsGoing goal s None new → goal ≡ None
end_goal s new last None e g h = refl
end_goal s new last (Some goal) e g (inl h) = none_some h.3
end_goal s new last (Some goal) e g (inr (inl h)) = none_some h.2
end_goal s new last (Some TemplateTail) e g (inr (inr h)) = absurd (h.0.0 refl)
end_goal s new None (Some TemplateEnd) e g (inr (inr h)) = absurd (start_no_end s e g)
end_goal s new (Some e) (Some TemplateEnd) b g (inr (inr h)) =
    let tail = b.tail (sym b.template ∙ behind_characters s e b g) in
    absurd (no_ending tail.1.0 tail.1.1 (subst (λ (l : List ℕ). templates.Ends tail.1.0 l tail.1.1) h.0.1 tail.1.2))
end_goal s new last (Some Div) e g (inr (inr h)) = absurd (no_goal s.settings.contexts s.tokens.last Div (λ k. cc) (λ k. cc) g)
end_goal s new last (Some RegExp) e g (inr (inr h)) = absurd (no_goal s.settings.contexts s.tokens.last RegExp (λ k. cc) (λ k. cc) g)

-- at the end of a text nothing comes
end_step : (ctx : Context) (u : State) → u.tokens.last ≢ Fault → template_goal u.settings.contexts u.tokens.last ≡ None → u.tokens.left ≡ [] → IsStep (told ctx None u) None (ended (told ctx None u))
end_step ctx u n g e =
    let u0 = told ctx None u in
    make_step u0 (ended u0) None n (no_again u0 refl)
    (plain_going u0 (ended u0) None g (λ l. subst NoHashbang (sym e) (λ inner k. cc))
    (inl (
      false,
      u.tokens.left,
      ([], (refl, subst (NoTrivia (goal_of ctx) (is_start u.tokens.last || false)) (sym e) (no_trivia (goal_of ctx) (is_start u.tokens.last || false) [] refl)), refl),
      inr (inr ((λ k. cc, e), refl, refl)),
    )))

none_fits : (last : Option Edge) → Fits None last []
none_fits None = tt
none_fits (Some e) = inl tt

none_breaks : (s : State) (last : Option Edge) → Breaks s last []
none_breaks s None = tt
none_breaks s (Some e) = λ a b c d. tt

pub at_end : (whole : List ℕ) (ctx : Context) (s end : State) (last : Option Edge) → EdgeOf s last → IsStep (told ctx None s) None end → Going whole ctx s last []
unfolding text_behind
at_end whole ctx s end last e h =
    let s0 = told ctx None s in
    let g = ends_goes s0 end (no_again s0 refl) (edge_going s last e) h in
    let goal = end_goal s0 end last (template_goal s.settings.contexts s.tokens.last) (edge_told ctx None s last e) refl g in
    record {
      cs = [];
      text = refl;
      fits = subst (λ o. Fits o last []) (sym goal) (none_fits last);
      breaks = none_breaks s last;
      reads = λ u at lo same left is_at one. (u, ended (told ctx None u), refl, end_step ctx u (going_on s.tokens.last u.tokens.last same.last) (same_goal s u same ∙ goal) left);
    }
