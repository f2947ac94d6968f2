-- A lexer reads the tokens of a text again in its canonical text.
use Rattle.std.proofs.Common.{◌≡◌, ◌≢◌, ℕ, ⊎_elim, Bool, true, false, cond, List, [], ◌∷◌, Option, Some, None, refl, sym, ap, subst, ◌∙◌, arith}
use Rattle.std.specs.Prelude.{encode_utf8_all}
use Rattle.std.proofs.lemmas.Bool.{cases_Bool}
use Rattle.base_token.specs.declared.context.Context.{Context}
use Rattle.base_token.specs.Kinds.{error_kind, regex_kind}
use Rattle.lex_token.specs.Lexemes.{SpecLexeme}
use Rattle.base_token.specs.Tokens.{Spot}
use Rattle.lex_token.specs.declared.goal.LexicalGoal.TheVariants.{RegExp}
use Rattle.lex_step_laws.specs.States.{Last, Start, State, behind, last_after, place}
use Rattle.lex_step_laws.specs.Steps.{IsStep}
use Rattle.lex_run_laws.specs.StepLists.{Clean}
use Rattle.lex_run_laws.proofs.Behind.{lexeme_behind}
use Rattle.lex_source.specs.Canonical.Canonical.{Edge, edge_of}
use Rattle.lex_source.specs.Canonical.Moved.{moved_from}
use Rattle.lex_run_laws.specs.CanonicalLaws.{CanonicalReads, text_start}
use Rattle.lex_run_laws.specs.Turns.{Turn, Turns, all_spots, asked, end_at, is_reread, is_slash_kind, kept, moved_behind, moved_turn, told}
use Rattle.lex_run_laws.proofs.Going.{Quiet, QuietBy, Sits, never_again, quiet_after}
use Rattle.lex_run_laws.proofs.Making.{sits_behind, took_again}
use Rattle.lex_run_laws.proofs.Rereads.{pair, second_of, second_sits, slash_how, slash_parts}
use Rattle.lex_run_laws.proofs.Run.{Going, kind_of_spot}
use Rattle.lex_run_laws.proofs.Single.{at_end, single, sits_told, took_of}
use Rattle.lex_run_laws.proofs.Slashes.{pattern_there}
use Rattle.lex_run_laws.proofs.Taken.{Took}

-- ---- one turn, and two

-- how the turns behind a state go on
abbrev More : List ℕ → Context → Turn → List Turn → State → Type 0
More whole ctx t ts new = (b : State) → Sits whole b (Some (edge_of t.spot)) → Quiet b.tokens.last ts → Turns (Some t.spot.lo) b ts new → Going whole ctx b (Some (edge_of t.spot)) ts

quiet_behind : (s : State) (t : Turn) (ts : List Turn) (new : State) → (k : Took s t.spot new) → is_reread t ts ≡ false → Quiet (last_after k.x.token.kind k.from) ts
quiet_behind s t ts new k e = subst (λ n. Quiet (last_after n k.from) ts) (kind_of_spot s t.spot new k) (quiet_after t ts k.from e)

one_turn : (whole : List ℕ) (ctx : Context) (s : State) (last : Option Edge) (lo : Option ℕ) (t : Turn) (ts : List Turn) (new : State) → Sits whole s last → QuietBy s.tokens.last t.again
    → t.spot.token.kind ≢ error_kind → is_reread t ts ≡ false → Turns lo s (t ∷ ts) new → More whole ctx t ts new → Going whole ctx s last (t ∷ ts)
one_turn whole ctx s last lo t ts new sits quiet n e h more =
    let s0 = told t.ctx (asked t.again lo) s in
    let sits0 = sits_told whole t.ctx (asked t.again lo) s last sits in
    let k = took_of s0 h.0 t.spot n (never_again s.tokens.last t.again lo s.tokens.end quiet) h.1 in
    let ih = more (behind s0 k.line_break k.from k.x k.rest) (sits_behind whole s0 last t.spot h.0 sits0 k) (quiet_behind s0 t ts h.0 k e)
    (subst (λ (b : State). Turns (Some t.spot.lo) b ts new) k.new_is h.2) in
    single whole ctx s last lo t ts h.0 sits quiet e k ih (took_again whole s0 last t.spot h.0 sits0 k k.how ih.cs ih.fits ih.breaks)

quiet_regexp : (u : Turn) (us : List Turn) (from : List ℕ) (kind : ℕ) → kind ≡ regex_kind → Quiet (last_after kind from) us
quiet_regexp u [] from kind e = tt
quiet_regexp u (w ∷ ws) from kind e = subst (λ n. QuietBy (last_after n from) w.again) (sym e) tt

two_turns : (whole : List ℕ) (ctx : Context) (s : State) (last : Option Edge) (lo : Option ℕ) (t u : Turn) (us : List Turn) (new : State) → Sits whole s last → QuietBy s.tokens.last t.again
    → t.spot.token.kind ≢ error_kind → u.spot.token.kind ≢ error_kind → is_reread t (u ∷ us) ≡ true → Turns lo s (t ∷ u ∷ us) new → More whole ctx u us new → Going whole ctx s last (t ∷ u ∷ us)
two_turns whole ctx s last lo t u us new sits quiet n m e h more =
    let s0 = told t.ctx (asked t.again lo) s in
    let sits0 = sits_told whole t.ctx (asked t.again lo) s last sits in
    let k = took_of s0 h.0 t.spot n (never_again s.tokens.last t.again lo s.tokens.end quiet) h.1 in
    let parts = slash_parts t u us e in
    let slash : is_slash_kind k.x.token.kind ≡ true = ap is_slash_kind (sym (kind_of_spot s0 t.spot h.0 k)) ∙ parts.0 in
    let p = slash_how s0 t.spot h.0 k slash k.how in
    let next : IsStep (told u.ctx (asked u.again (Some t.spot.lo)) (behind s0 k.line_break k.from k.x k.rest)) (Some u.spot) h.2.0 =
    subst (λ (b : State). IsStep (told u.ctx (asked u.again (Some t.spot.lo)) b) (Some u.spot) h.2.0) k.new_is h.2.1 in
    let w = second_of s0 t u k.line_break k.x k.from k.rest h.2.0 slash parts.1 (ap (λ (q : Spot). q.lo) k.spot_is) m next in
    let pattern = pattern_there k.from k.x w.y k.rest w.left p.is slash w.is in
    let cut = lexeme_behind RegExp k.from w.y w.left w.is in
    let ih = more (behind (told u.ctx (Some t.spot.lo) (behind s0 k.line_break k.from k.x k.rest)) k.line_break k.from w.y w.left)
    (second_sits whole s0 last t u h.0 h.2.0 sits0 k slash w pattern cut) (quiet_regexp u us k.from w.y.token.kind (ap (λ (l : SpecLexeme). l.token.kind) pattern.3))
    (subst (λ (b : State). Turns (Some u.spot.lo) b us new) w.new_is h.2.2) in
    pair whole ctx s last lo t u us h.0 h.2.0 sits quiet e k slash w p pattern cut ih

-- ---- all turns

all_turns : (ts : List Turn) (whole : List ℕ) (ctx : Context) (s : State) (last : Option Edge) (lo : Option ℕ) (new end : State) → Sits whole s last → Quiet s.tokens.last ts → Clean (all_spots ts)
    → Turns lo s ts new → IsStep (told ctx None new) None end → Going whole ctx s last ts
all_turns [] whole ctx s last lo new end sits quiet clean h g = at_end whole ctx s end last sits.edge (subst (λ (b : State). IsStep (told ctx None b) None end) (sym h) g)
all_turns (t ∷ []) whole ctx s last lo new end sits quiet clean h g =
    one_turn whole ctx s last lo t [] new sits quiet clean.0 refl h
    (λ b z q r. all_turns [] whole ctx b (Some (edge_of t.spot)) (Some t.spot.lo) new end z q clean.1 r g)
all_turns (t ∷ u ∷ us) whole ctx s last lo new end sits quiet clean h g = ⊎_elim
    (λ (e : is_reread t (u ∷ us) ≡ true).
    two_turns whole ctx s last lo t u us new sits quiet clean.0 clean.1.0 e h
    (λ b z q r. all_turns us whole ctx b (Some (edge_of u.spot)) (Some u.spot.lo) new end z q clean.1.1 r g))
    (λ (e : is_reread t (u ∷ us) ≡ false).
    one_turn whole ctx s last lo t (u ∷ us) new sits quiet clean.0 e h
    (λ b z q r. all_turns (u ∷ us) whole ctx b (Some (edge_of t.spot)) (Some t.spot.lo) new end z q clean.1 r g))
    (cases_Bool (is_reread t (u ∷ us)))

-- ---- which tokens are kept

reread_same : (source : List ℕ) (at to : ℕ) (last edge : Option Edge) (t : Turn) (ts : List Turn) → is_reread (moved_turn source at last t) (moved_behind source to edge ts) ≡ is_reread t ts
reread_same source at to last edge t [] = refl
reread_same source at to last edge t (u ∷ us) = refl

kept_moved : (ts : List Turn) (source : List ℕ) (at : ℕ) (last : Option Edge) → kept (moved_behind source at last ts) ≡ moved_from source at last (kept ts)
unfolding moved_from
kept_moved [] source at last = refl
kept_moved (t ∷ ts) source at last = ⊎_elim
    (λ (e : is_reread t ts ≡ true).
    let m = moved_turn source at last t in
    ap (λ (b : Bool). kept (m ∷ cond b (moved_behind source at last ts) (moved_behind source (end_at source at last t.spot) (Some (edge_of t.spot)) ts))) e
    ∙ ap (λ (b : Bool). cond b (kept (moved_behind source at last ts)) (m.spot ∷ kept (moved_behind source at last ts))) (reread_same source at at last last t ts ∙ e)
    ∙ kept_moved ts source at last
    ∙ sym (ap (λ (b : Bool). moved_from source at last (cond b (kept ts) (t.spot ∷ kept ts))) e))
    (λ (e : is_reread t ts ≡ false).
    let m = moved_turn source at last t in
    let more = moved_behind source (end_at source at last t.spot) (Some (edge_of t.spot)) ts in
    ap (λ (b : Bool). kept (m ∷ cond b (moved_behind source at last ts) more)) e
    ∙ ap (λ (b : Bool). cond b (kept more) (m.spot ∷ kept more)) (reread_same source at (end_at source at last t.spot) last (Some (edge_of t.spot)) t ts ∙ e)
    ∙ ap (λ (l : List Spot). m.spot ∷ l) (kept_moved ts source (end_at source at last t.spot) (Some (edge_of t.spot)))
    ∙ sym (ap (λ (b : Bool). moved_from source at last (cond b (kept ts) (t.spot ∷ kept ts))) e))
    (cases_Bool (is_reread t ts))

-- ---- the law

quiet_start : (s : State) (ts : List Turn) → s.tokens.last ≡ Start → Quiet s.tokens.last ts
quiet_start s [] e = tt
quiet_start s (t ∷ ts) e = subst (λ (l : Last). QuietBy l t.again) (sym e) tt

pub canonical_reads : CanonicalReads
canonical_reads syntax target cs ts ctx clean h =
    let s = text_start syntax target cs in
    let sits : Sits cs s None = record { before = []; there = refl; end = refl; edge = refl } in
    let g = all_turns ts cs ctx s None None h.0 h.1 sits (quiet_start s ts refl) clean h.2 h.3 in
    let t = text_start syntax target g.cs in
    let at : 1 ≡ place t.tokens.end g.cs = omega arith in
    let r = g.reads t 1 None (record { contexts = refl; last = tt }) refl at (omega arith) in
    record { cs = g.cs; text = g.text; reads = (r.0, r.1, r.2, r.3); places = kept_moved ts (encode_utf8_all cs) 1 None }
