-- Two turns of which the second reads a slash again, in the canonical text.
use Rattle.std.proofs.Common.{◌≡◌, ◌≢◌, ℕ, ◌+◌, inl, inr, ⊎_elim, Bool, true, false, cond, ◌&&◌, ◌||◌, List, [], ◌∷◌, ◌++◌, Option, Some, None, append_assoc, refl, sym, ap, subst, ◌∙◌, arith, nat_eq}
use Rattle.std.specs.Prelude.{◌==◌, encode_utf8_all}
use Rattle.std.proofs.lemmas.Bool.{cases_Bool, false≢true, and_parts}
use Rattle.std.proofs.lemmas.Bool.Decides.{nat_tests}
use Rattle.base_proofs.proofs.Lists.{cons_head}
use Rattle.base_token.specs.declared.context.Context.{Context}
use Rattle.base_token.specs.Kinds.{back_quote_kind, dollar_brace_kind, error_kind, hash_kind, regex_kind, right_brace_kind, template_kind}
use Rattle.lex_source.specs.declared.contexts.TokenContext.{TokenContext}
use Rattle.lex_pieces.specs.Names.{is_opening}
use Rattle.lex_literal.specs.Escapes.{begins}
use Rattle.base_token.specs.Tokens.{SpecToken, Spot}
use Rattle.lex_source.specs.Machine as machine
use Rattle.lex_pieces.specs.Places.{bytes}
use Rattle.lex_pieces.specs.Trivia.{NoHashbang}
use Rattle.lex_literal.specs.declared.template.Ending.{Ending}
use Rattle.lex_literal.specs.declared.template.Ending.TheVariants.{BackQuote, Substitution}
use Rattle.lex_token.specs.declared.goal.LexicalGoal.TheVariants.{Div, RegExp}
use Rattle.lex_token.specs.Lexemes.{SpecLexeme, IsLexeme, IsPattern, ending_kind}
use Rattle.lex_token.proofs.SortLemmas.{slash_no_opening}
use Rattle.lex_run_laws.proofs.Behind.{Behind}
use Rattle.lex_step_laws.specs.States.{Last, Start, Slash, Characters, Fault, Other, State, again, again_by, behind, contexts_after, last_after, place, spot_at, template_goal}
use Rattle.lex_step_laws.specs.Steps as steps
use Rattle.lex_step_laws.specs.Steps.{IsStep, IsStepBy, IsStepOf}
use Rattle.lex_source.specs.Canonical.Canonical.{Edge, edge_of, gap, is_word, own_bytes, text_behind}
use Rattle.lex_source.specs.Canonical.Moved.{moved_to}
use Rattle.lex_run_laws.specs.Turns.{Turn, Turns, asked, begin_at, end_at, is_reread, is_slash_kind, kept, moved_behind, told}
use Rattle.lex_run_laws.proofs.Taken.{How, Plain, Took, read_token}
use Rattle.lex_run_laws.proofs.Words.{Parted}
use Rattle.lex_run_laws.proofs.Fronts.{Free}
use Rattle.lex_run_laws.proofs.Owns.{own_is}
use Rattle.lex_run_laws.proofs.Slashes.{reread}
use Rattle.lex_run_laws.proofs.Standing.{no_template, no_tpl, slash_plain, word_opens}
use Rattle.lex_run_laws.proofs.Single.{breaks_told, moved_more, sits_told, text_more}
use Rattle.lex_run_laws.proofs.Going.{QuietBy, Same, Sits, going_on, make_step, never_again, quiet_same, same_after}
use Rattle.lex_run_laws.proofs.Run.{Breaks, Fits, Going, breaks_plain, fits_plain, gap_here, gap_no_bang, plain_canon}
use Rattle.lex_run_laws.proofs.Making.{characters_kind, moved_spot, placed}

ending_no_slash : (ending : Ending) → is_slash_kind (ending_kind ending) ≡ false
ending_no_slash BackQuote = refl
ending_no_slash Substitution = refl

-- ---- a slash that is read again

pub slash_parts : (t : Turn) (u : Turn) (us : List Turn) → is_reread t (u ∷ us) ≡ true → (is_slash_kind t.spot.token.kind ≡ true) × (u.again ≡ true)
slash_parts t u us e = and_parts (is_slash_kind t.spot.token.kind) u.again e

-- a token outside of templates is a slash
pub slash_how : (s : State) (spot : Spot) (new : State) (k : Took s spot new) → is_slash_kind k.x.token.kind ≡ true → How s k.line_break k.from k.x k.rest → Plain s k.line_break k.from k.x k.rest
slash_how s spot new k e (inl h) =
    absurd (false≢true (sym (ap is_slash_kind (characters_kind k.from k.x k.rest h.is)) ∙ e))
slash_how s spot new k e (inr (inl h)) = absurd (false≢true (sym (ap (λ (l : SpecLexeme). is_slash_kind l.token.kind) h.is.2 ∙ ending_no_slash h.is.0) ∙ e))
slash_how s spot new k e (inr (inr (inl h))) = absurd (false≢true (sym (ap (λ (l : SpecLexeme). is_slash_kind l.token.kind) h.token) ∙ e))
slash_how s spot new k e (inr (inr (inr h))) = h

slash_last : (kind : ℕ) (from : List ℕ) → is_slash_kind kind ≡ true → last_after kind from ≡ Slash from
slash_last kind from e =
    let a = no_template kind (slash_plain kind e).1 in
    rw a (rw e refl)

same_again : (last : Last) (from : List ℕ) (lo end : ℕ) → last ≡ Slash from → lo ≡ place end from → again_by last (Some lo) end ≡ Some from
same_again last from lo end e h =
    let k : (lo == place end from) ≡ true = grind (arith, nat_tests) in
    ap (λ (l : Last). again_by l (Some lo) end) e ∙ ap (λ b. cond b (Some from) None) k

again_of : (last : Last) (s new : State) (out : Option Spot) → s.tokens.last ≡ last → s.tokens.last ≢ Fault → IsStepOf last s out new → IsStepBy (again s) s out new
again_of Start s new out e n h = h
again_of (Slash from) s new out e n h = h
again_of Characters s new out e n h = h
again_of Fault s new out e n h = absurd (n e)
again_of Other s new out e n h = h

step_again : (s new : State) (out : Option Spot) (from : List ℕ) → s.tokens.last ≡ Slash from → again s ≡ Some from → IsStep s out new → steps.IsRead RegExp s.tokens.line_break from s out new
step_again s new out from e a h =
    subst (λ o. IsStepBy o s out new) a (again_of s.tokens.last s new out refl (λ f. let k : Slash from ≡ Fault = sym e ∙ f in cc) h.is)

make_again : (s new : State) (out : Option Spot) (from : List ℕ) → s.tokens.last ≡ Slash from → again s ≡ Some from → steps.IsRead RegExp s.tokens.line_break from s out new → IsStep s out new
make_again s new out from e a h =
    let by : IsStepBy (again s) s out new = subst (λ o. IsStepBy o s out new) (sym a) h in
    record { is = subst (λ (l : Last). IsStepOf l s out new) (sym e) by }

-- a regular expression leaves the token contexts
pattern_kind : (text : List ℕ) (y : SpecLexeme) (r : List ℕ) → IsPattern text y r → y.token.kind ≡ regex_kind
pattern_kind text y r h = ap (λ (l : SpecLexeme). l.token.kind) h.3

slash_contexts : (kind : ℕ) (cs : List TokenContext) → is_slash_kind kind ≡ true → contexts_after kind cs ≡ cs
slash_contexts kind cs e =
    let p = slash_plain kind e in
    let rb : (kind == right_brace_kind) ≡ false = grind (arith, nat_tests) in
    let bq : (kind == back_quote_kind) ≡ false = grind (arith, nat_tests) in
    let db : (kind == dollar_brace_kind) ≡ false = grind (arith, nat_tests) in
    rw p.2 (rw rb (rw bq (rw db refl)))

no_word_kind : (text : List ℕ) (x : SpecLexeme) (rest inner : List ℕ) → IsLexeme Div text x rest → text ≡ 47 ∷ inner → is_word (machine.told x.token).content ≡ false
no_word_kind text x rest inner h e = ⊎_elim
    (λ (w : is_word (machine.told x.token).content ≡ true).
    absurd (false≢true (sym slash_no_opening ∙ sym (ap (begins is_opening) e) ∙ word_opens text x rest h w)))
    (λ (w : is_word (machine.told x.token).content ≡ false). w)
    (cases_Bool (is_word (machine.told x.token).content))

gap_with : (template hash word near kind line_break : Bool) → List ℕ
gap_with template hash word near kind line_break = cond (template || ((hash && (word && near)) || kind)) [] (cond line_break (10 ∷ []) (32 ∷ []))

first_with : (kind line_break : Bool) → List ℕ
first_with kind line_break = cond kind [] (cond line_break (10 ∷ []) [])

-- what stands before a slash stands before the regular expression that it is then
gap_same : (last : Option Edge) (a b : Spot) → is_word a.token.content ≡ false → is_word b.token.content ≡ false → (a.token.kind == template_kind) ≡ false → (b.token.kind == template_kind) ≡ false
    → a.line_break ≡ b.line_break → gap last a ≡ gap last b
unfolding gap_with first_with
gap_same None a b v w k l e = ap (λ q. first_with q a.line_break) k ∙ ap (λ q. first_with false q) e ∙ sym (ap (λ q. first_with q b.line_break) l)
gap_same (Some f) a b v w k l e =
    ap (λ q. gap_with f.template f.hash q (nat_eq f.end a.lo) (a.token.kind == template_kind) a.line_break) v
    ∙ ap (λ q. gap_with f.template f.hash false (nat_eq f.end a.lo) q a.line_break) k
    ∙ ap (λ q. gap_with f.template f.hash false (nat_eq f.end a.lo) false q) e
    ∙ sym (ap (λ q. gap_with f.template f.hash q (nat_eq f.end b.lo) (b.token.kind == template_kind) b.line_break) w
    ∙ ap (λ q. gap_with f.template f.hash false (nat_eq f.end b.lo) q b.line_break) l)

-- the own bytes of what stands there
own_at : (whole before left gone from own rest : List ℕ) (end : ℕ) (spot : Spot) (line_break : Bool) (token : SpecToken) → whole ≡ before ++ left → left ≡ gone ++ from → from ≡ own ++ rest
    → end ≡ 1 + bytes whole → spot ≡ spot_at end line_break token from rest → own_bytes (encode_utf8_all whole) spot.lo spot.hi ≡ encode_utf8_all own
own_at whole before left gone from own rest end spot line_break token a b c d e =
    let there : whole ≡ (before ++ gone) ++ (own ++ rest) = a ∙ ap (λ (l : List ℕ). before ++ l) (b ∙ ap (λ (l : List ℕ). gone ++ l) c) ∙ sym (append_assoc before gone (own ++ rest)) in
    ap (λ (p : Spot). own_bytes (encode_utf8_all whole) p.lo p.hi) e
    ∙ ap (λ (l : List ℕ). own_bytes (encode_utf8_all whole) (place end l) (place end rest)) c
    ∙ own_is (before ++ gone) own rest whole end there d

-- what is read again at a slash
pub record Second (s : State) (t u : Turn) (line_break : Bool) (x : SpecLexeme) (from rest : List ℕ) (new : State) : Type 0 where
  pub y : SpecLexeme
  pub left : List ℕ
  pub is : IsLexeme RegExp from y left
  pub spot_is : u.spot ≡ spot_at s.tokens.end line_break y.token from left
  pub new_is : new ≡ behind (told u.ctx (Some t.spot.lo) (behind s line_break from x rest)) line_break from y left

pub second_of : (s : State) (t u : Turn) (line_break : Bool) (x : SpecLexeme) (from rest : List ℕ) (new : State) → is_slash_kind x.token.kind ≡ true → u.again ≡ true → t.spot.lo ≡ place s.tokens.end from
    → u.spot.token.kind ≢ error_kind → IsStep (told u.ctx (asked u.again (Some t.spot.lo)) (behind s line_break from x rest)) (Some u.spot) new → Second s t u line_break x from rest new
second_of s t u line_break x from rest new e a lo n h =
    let b = told u.ctx (Some t.spot.lo) (behind s line_break from x rest) in
    let g : IsStep b (Some u.spot) new = subst (λ q. IsStep (told u.ctx (asked q (Some t.spot.lo)) (behind s line_break from x rest)) (Some u.spot) new) a h in
    let last = slash_last x.token.kind from e in
    let r = read_token b line_break from u.spot n RegExp new (step_again b new (Some u.spot) from last (same_again (last_after x.token.kind from) from t.spot.lo s.tokens.end last lo) g) in
    record { y = r.0; left = r.1; is = r.2; spot_is = r.3; new_is = r.4 }

-- the state behind it
pub second_sits : (whole : List ℕ) (s : State) (last : Option Edge) (t u : Turn) (one : State) (new : State) → Sits whole s last → (k : Took s t.spot one) → is_slash_kind k.x.token.kind ≡ true
    → (w : Second s t u k.line_break k.x k.from k.rest new) → IsPattern k.from w.y w.left → Behind k.from w.left
    → Sits whole (behind (told u.ctx (Some t.spot.lo) (behind s k.line_break k.from k.x k.rest)) k.line_break k.from w.y w.left) (Some (edge_of u.spot))
second_sits whole s last t u one new sits k e w pattern cut =
    let kind = pattern_kind k.from w.y w.left pattern in
    let same : u.spot.token.kind ≡ w.y.token.kind = ap (λ (p : Spot). p.token.kind) w.spot_is in
    record {
      before = sits.before ++ (k.gone.0 ++ cut.0);
      there = sits.there ∙ ap (λ (l : List ℕ). sits.before ++ l) (k.gone.1 ∙ ap (λ (l : List ℕ). k.gone.0 ++ l) cut.1 ∙ sym (append_assoc k.gone.0 cut.0 w.left))
          ∙ sym (append_assoc sits.before (k.gone.0 ++ cut.0) w.left);
      end = sits.end;
      edge = record {
        kind = w.y.token.kind;
        from = k.from;
        last = refl;
        template = ap (λ n. n == template_kind) same;
        hash = ap (λ n. n == hash_kind) same;
        end = ap (λ (p : Spot). p.hi) w.spot_is;
        tail = λ q. absurd (false≢true (sym (ap (λ n. n == template_kind) kind) ∙ q));
      };
    }

parted_behind : (s : State) (t u : Turn) (line_break : Bool) (x y : SpecLexeme) (from left r : List ℕ) → template_goal s.settings.contexts s.tokens.last ≡ None → is_slash_kind x.token.kind ≡ true
    → y.token.kind ≡ regex_kind → u.spot.token.kind ≡ y.token.kind
    → Fits (template_goal (contexts_after y.token.kind (contexts_after x.token.kind s.settings.contexts)) (last_after y.token.kind from)) (Some (edge_of u.spot)) r → Parted r
parted_behind s t u line_break x y from left r g e k same f =
    let inner : template_goal (contexts_after y.token.kind (contexts_after x.token.kind s.settings.contexts)) (last_after y.token.kind from) ≡ None =
    ap (λ n. template_goal (contexts_after n (contexts_after x.token.kind s.settings.contexts)) (last_after y.token.kind from)) k
    ∙ ap (λ cs. template_goal cs (last_after y.token.kind from)) (slash_contexts x.token.kind s.settings.contexts e)
    ∙ no_tpl s.settings.contexts s.tokens.last (last_after y.token.kind from) g in
    by_fits (subst (λ o. Fits o (Some (edge_of u.spot)) r) inner f)
  where
    by_fits : Fits None (Some (edge_of u.spot)) r → Parted r
    by_fits (inl p) = p
    by_fits (inr p) = absurd (false≢true (sym (ap (λ n. n == hash_kind) (same ∙ k)) ∙ p.0))

no_slash_next : (u : Turn) (us : List Turn) → u.spot.token.kind ≡ regex_kind → is_reread u us ≡ false
no_slash_next u [] e = refl
no_slash_next u (w ∷ ws) e = ap (λ n. is_slash_kind n && w.again) e

text_pair : (source : List ℕ) (last : Option Edge) (t u : Turn) (us : List Turn) (own r : List ℕ) → is_reread t (u ∷ us) ≡ true → is_reread u us ≡ false → gap last t.spot ≡ gap last u.spot
    → own_bytes source u.spot.lo u.spot.hi ≡ encode_utf8_all own → encode_utf8_all r ≡ text_behind source (Some (edge_of u.spot)) (kept us)
    → encode_utf8_all (gap last t.spot ++ (own ++ r)) ≡ text_behind source last (kept (t ∷ u ∷ us))
text_pair source last t u us own r e f g o h =
    ap (λ (l : List ℕ). encode_utf8_all (l ++ (own ++ r))) g
    ∙ text_more source last u us own r f o h
    ∙ sym (ap (λ (b : Bool). text_behind source last (cond b (kept (u ∷ us)) (t.spot ∷ kept (u ∷ us)))) e)

moved_pair : (source : List ℕ) (at : ℕ) (last : Option Edge) (t : Turn) (ts : List Turn) → is_reread t ts ≡ true → (p : Option ℕ) (s new : State)
    → Turns p s (moved_behind source at last ts) new
    → Turns p s (cond (is_reread t ts) (moved_behind source at last ts) (moved_behind source (end_at source at last t.spot) (Some (edge_of t.spot)) ts)) new
moved_pair source at last t ts e p s new h =
    subst (λ (b : Bool). Turns p s (cond b (moved_behind source at last ts) (moved_behind source (end_at source at last t.spot) (Some (edge_of t.spot)) ts)) new) (sym e) h

slash_bang : (text inner : List ℕ) → text ≡ 47 ∷ inner → NoHashbang text
slash_bang text inner e more f = let j = cons_head 47 35 inner (33 ∷ more) (sym e ∙ f) in omega (arith, j)

-- Two turns, of which the second reads the slash again.
pub pair : (whole : List ℕ) (ctx : Context) (s : State) (last : Option Edge) (lo : Option ℕ) (t u : Turn) (us : List Turn) (one new : State) → Sits whole s last → QuietBy s.tokens.last t.again
    → is_reread t (u ∷ us) ≡ true → (k : Took (told t.ctx (asked t.again lo) s) t.spot one) → (slash : is_slash_kind k.x.token.kind ≡ true)
    → (w : Second (told t.ctx (asked t.again lo) s) t u k.line_break k.x k.from k.rest new)
    → (p : Plain (told t.ctx (asked t.again lo) s) k.line_break k.from k.x k.rest) → (pattern : IsPattern k.from w.y w.left) → (cut : Behind k.from w.left)
    → Going whole ctx (behind (told u.ctx (Some t.spot.lo) (behind (told t.ctx (asked t.again lo) s) k.line_break k.from k.x k.rest)) k.line_break k.from w.y w.left) (Some (edge_of u.spot)) us
    → Going whole ctx s last (t ∷ u ∷ us)
pair whole ctx s last lo t u us one new sits quiet e k slash w p pattern cut ih =
    let source = encode_utf8_all whole in
    let s0 = told t.ctx (asked t.again lo) s in
    let sits0 = sits_told whole t.ctx (asked t.again lo) s last sits in
    let flag = (slash_parts t u us e).1 in
    let kind = pattern_kind k.from w.y w.left pattern in
    let ukind : u.spot.token.kind ≡ w.y.token.kind = ap (λ (q : Spot). q.token.kind) w.spot_is in
    let parted = parted_behind s0 t u k.line_break k.x w.y k.from w.left ih.cs p.goal slash kind ukind ih.fits in
    let rr = reread k.from cut.0 k.x w.y k.rest w.left ih.cs cut.1 parted p.is slash w.is in
    let gapped = gap_here whole s0 last t.spot one sits0 k p in
    let token : t.spot.token ≡ machine.told k.x.token = ap (λ (q : Spot). q.token) k.spot_is in
    let divides : IsLexeme Div (rr.slash ++ rr.left) k.x rr.left = subst (λ (l : List ℕ). IsLexeme Div l k.x rr.left) rr.again rr.divides in
    let free : Free (rr.slash ++ rr.left) = subst Free rr.again rr.free in
    let c = plain_canon s0 last t.spot k.line_break k.x rr.slash rr.left p.goal gapped divides free
    (fits_plain last t.spot k.line_break k.x (rr.slash ++ rr.left) rr.left token divides gapped)
    (breaks_plain s0 last t.spot one k p (rr.slash ++ rr.left) gapped)
    (λ l. gap_no_bang last t.spot k.line_break (rr.slash ++ rr.left) gapped (slash_bang (rr.slash ++ rr.left) rr.first.0 (sym rr.again ∙ rr.first.1))) in
    let cs = gap last t.spot ++ (cut.0 ++ ih.cs) in
    let same_cs : cs ≡ gap last t.spot ++ (rr.slash ++ rr.left) = ap (λ (l : List ℕ). gap last t.spot ++ l) rr.again in
    let xword : is_word t.spot.token.content ≡ false = ap (λ (q : SpecToken). is_word q.content) token ∙ no_word_kind (rr.slash ++ rr.left) k.x rr.left rr.first.0 divides (sym rr.again ∙ rr.first.1) in
    let yword : is_word u.spot.token.content ≡ false = ap (λ (q : Spot). is_word q.token.content) w.spot_is ∙ ap (λ (l : SpecLexeme). is_word (machine.told l.token).content) pattern.3 in
    let xkind : (t.spot.token.kind == template_kind) ≡ false = ap (λ (q : SpecToken). q.kind == template_kind) token ∙ no_template k.x.token.kind (slash_plain k.x.token.kind slash).1 in
    let ykind : (u.spot.token.kind == template_kind) ≡ false = ap (λ n. n == template_kind) (ukind ∙ kind) in
    let mark : t.spot.line_break ≡ u.spot.line_break = ap (λ (q : Spot). q.line_break) k.spot_is ∙ sym (ap (λ (q : Spot). q.line_break) w.spot_is) in
    let same_gap = gap_same last t.spot u.spot xword yword xkind ykind mark in
    let town = own_at whole sits.before s.tokens.left k.gone.0 k.from rr.slash k.rest s.tokens.end t.spot k.line_break k.x.token sits.there k.gone.1 rr.cut sits.end k.spot_is in
    let uown = own_at whole sits.before s.tokens.left k.gone.0 k.from cut.0 w.left s.tokens.end u.spot k.line_break w.y.token sits.there k.gone.1 cut.1 sits.end w.spot_is in
    let still = no_slash_next u us (ukind ∙ kind) in
    record {
      cs = cs;
      text = text_pair source last t u us cut.0 ih.cs e still same_gap uown ih.text;
      fits = subst (λ (l : List ℕ). Fits (template_goal s.settings.contexts s.tokens.last) last l) (sym same_cs) c.fits;
      breaks = breaks_told t.ctx (asked t.again lo) s last cs (subst (λ (l : List ℕ). Breaks s0 last l) (sym same_cs) c.breaks);
      reads = λ v at lo2 same left is_at some.
          let v0 = told t.ctx (asked t.again lo2) v in
          let same0 : Same s0 v0 = record { contexts = same.contexts; last = same.last } in
          let full = rr.slash ++ rr.left in
          let first = placed source at last t.spot v.tokens.end rr.slash rr.left (gap last t.spot ++ full) town refl (is_at ∙ ap (place v.tokens.end) same_cs) some in
          let second = placed source at last u.spot v.tokens.end cut.0 ih.cs cs uown (ap (λ (l : List ℕ). l ++ (cut.0 ++ ih.cs)) same_gap) is_at some in
          let v1 = behind v0 k.line_break full k.x rr.left in
          let tspot = moved_to (begin_at at last t.spot) (end_at source at last t.spot) t.spot in
          let uspot = moved_to (begin_at at last u.spot) (end_at source at last u.spot) u.spot in
          let made1 : IsStep v0 (Some (spot_at v.tokens.end k.line_break k.x.token full rr.left)) v1 =
          make_step v0 v1 (Some (spot_at v.tokens.end k.line_break k.x.token full rr.left)) (going_on s.tokens.last v.tokens.last same.last)
          (never_again v.tokens.last t.again lo2 v.tokens.end (quiet_same s.tokens.last v.tokens.last t.again same.last quiet)) (c.going v0 same0 (left ∙ same_cs) refl) in
          let there1 : spot_at v.tokens.end k.line_break k.x.token full rr.left ≡ tspot =
          moved_spot t.spot (machine.told k.x.token) k.line_break v.tokens.end (begin_at at last t.spot) (end_at source at last t.spot) full rr.left
          token (ap (λ (q : Spot). q.line_break) k.spot_is) first.lo first.hi in
          let step1 : IsStep v0 (Some tspot) v1 = subst (λ (q : Spot). IsStep v0 (Some q) v1) there1 made1 in
          let b = told u.ctx (Some (begin_at at last t.spot)) v1 in
          let v2 = behind b k.line_break full w.y ih.cs in
          let blast = slash_last k.x.token.kind full slash in
          let again : IsLexeme RegExp full w.y ih.cs = subst (λ (l : List ℕ). IsLexeme RegExp l w.y ih.cs) rr.again rr.is in
          let made2 : IsStep b (Some (spot_at v.tokens.end k.line_break w.y.token full ih.cs)) v2 =
          make_again b v2 (Some (spot_at v.tokens.end k.line_break w.y.token full ih.cs)) full blast
          (same_again (last_after k.x.token.kind full) full (begin_at at last t.spot) v.tokens.end blast (sym first.lo)) (inl (w.y, ih.cs, again, refl, refl)) in
          let there2 : spot_at v.tokens.end k.line_break w.y.token full ih.cs ≡ uspot =
          moved_spot u.spot (machine.told w.y.token) k.line_break v.tokens.end (begin_at at last u.spot) (end_at source at last u.spot) full ih.cs
          (ap (λ (q : Spot). q.token) w.spot_is) (ap (λ (q : Spot). q.line_break) w.spot_is) (ap (place v.tokens.end) (sym rr.again) ∙ second.lo) second.hi in
          let step2 : IsStep (told u.ctx (asked u.again (Some (begin_at at last t.spot))) v1) (Some uspot) v2 =
          subst (λ q. IsStep (told u.ctx (asked q (Some (begin_at at last t.spot))) v1) (Some uspot) v2) (sym flag) (subst (λ (q : Spot). IsStep b (Some q) v2) there2 made2) in
          let after : Same (behind (told u.ctx (Some t.spot.lo) (behind s0 k.line_break k.from k.x k.rest)) k.line_break k.from w.y w.left) v2 =
          record { contexts = ap (λ cs. contexts_after w.y.token.kind (contexts_after k.x.token.kind cs)) same.contexts; last = same_after w.y.token.kind k.from full } in
          let more = ih.reads v2 (end_at source at last u.spot) (Some (begin_at at last u.spot)) after refl (sym second.hi) second.some in (
            more.0,
            more.1,
            (
              v1,
              step1,
              moved_pair source at last t (u ∷ us) e (Some (begin_at at last t.spot)) v1 more.0
                  (v2, step2, moved_more source at last u us still (Some (begin_at at last u.spot)) v2 more.0 more.2),
            ),
            more.3,
          );
    }
