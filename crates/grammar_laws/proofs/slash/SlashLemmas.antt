-- Of two lists that begin alike and go on with a regular expression and with a slash, not both are read.
use Rattle.std.proofs.Common.{◌≡◌, inl, inr, ℕ, zero, suc, Bool, true, false, List, [], ◌∷◌, ◌++◌, Result, Ok, Err, if◌then◌else◌, refl, sym, ap, ◌∙◌, subst, true≢false}
use Rattle.base_token.specs.declared.syntax.EsSyntax.{EsSyntax}
use Rattle.base_token.specs.Kinds.{regex_kind}
use Rattle.base_token.specs.Tokens.{Content, Bare, Pattern}
use Rattle.tree_spec.specs.Tree.{Tree}
use Rattle.grammar_spec.specs.Tokens.Input.{PlacedToken, Input, Code, script_code, module_code}
use Rattle.grammar_spec.specs.Reader.Source.{Fault, ◌>>=◌, is_nil, State}
use Rattle.grammar_spec.specs.Reader.Reading.{readers, finish, read_program, read_list}
use Rattle.grammar_spec.specs.Reader.Modules.{program_by}
use Rattle.grammar_laws.specs.Slash.SlashLaws.{IsPattern, SlashesTold}
use Rattle.grammar_laws.proofs.slash.Twins.{lm, Parting, Rest, regexps, slashes, slash, on, Twins, never, Told}
use Rattle.grammar_laws.proofs.slash.SlashExpressions.{expr_by_twin}
use Rattle.grammar_laws.proofs.slash.SlashStatements.{pat_by_twin, stmt_from_twin, body_by_twin, class_tail_by_twin}
use Rattle.grammar_laws.proofs.slash.SlashModules.{program_by_twin}
use Rattle.grammar_laws.proofs.slash.Ended.{Ends, program_ends}

pub readers_told : (w : Parting) (d : ℕ) → Told w (readers lm d)
unfolding readers
readers_told w zero = record { expr = λ c k o n l. never w _ _; pat = λ c o n l. never w _ _; stmt = λ c o n l. never w _ _; body = λ c o n l. never w _ _; class_tail = λ c k o n l. never w _ _ }
readers_told w (suc d) = let t = readers_told w d in record {
  expr = λ c k o n l. expr_by_twin w (readers lm d) t c k o n l;
  pat = λ c o n l. pat_by_twin w (readers lm d) t c o n l;
  stmt = λ c o n l. stmt_from_twin w (readers lm d) t c o n l;
  body = λ c o n l. body_by_twin w (readers lm d) t c o n l;
  class_tail = λ c k o n l. class_tail_by_twin w (readers lm d) t c k o n l;
}

-- no list ends before the place where both part
some_left : (l r : List PlacedToken) (p : PlacedToken) → is_nil (l ++ p ∷ r) ≡ true → ⊥
some_left [] r p e = true≢false (sym e)
some_left (x ∷ l) r p e = true≢false (sym e)

abbrev Failed : Result Tree Fault → Type 0
Failed (Ok x) = ⊥
Failed (Err e) = Unit {0}

wrong : (d : Fault) (u : Tree) → ◌≡◌ {A = Result Tree Fault} (Err d) (Ok u) → ⊥
wrong d u q = subst Failed q tt

never_both : (w : Parting) (x y : Result (Tree × State Input) Fault) (t u : Tree) → Twins w x y → Ends x → (x >>= finish lm) ≡ Ok t → (y >>= finish lm) ≡ Ok u → ⊥
never_both w (Ok x) (Ok y) t u h e i j = let z = h.so in some_left z.3 w.one.more _ (subst (λ (s : State Input). is_nil s.source.places ≡ true) z.4 e.so)
never_both w (Ok x) (Err d) t u h e i j = absurd (wrong d u j)
never_both w (Err d) y t u h e i j = absurd (wrong d t i)

-- ---- places

abbrev made : ℕ → Content → ℕ → Bool → PlacedToken → PlacedToken
made k v a b p = record { spot = record { token = record { kind = k; content = v }; line_break = b; lo = a; hi = p.spot.hi }; escaped = p.escaped; goal = p.goal; context = p.context }

is_made : (p : PlacedToken) (k : ℕ) (v : Content) (a : ℕ) (b : Bool) → p.spot.token.kind ≡ k → p.spot.token.content ≡ v → p.spot.lo ≡ a → p.spot.line_break ≡ b → p ≡ made k v a b p
is_made p k v a b e f g h = ap (λ (x : ℕ). made x p.spot.token.content p.spot.lo p.spot.line_break p) e ∙ (ap (λ (x : Content). made k x p.spot.lo p.spot.line_break p) f ∙ (ap (λ (x : ℕ). made k v x p.spot.line_break p) g ∙ ap (λ (x : Bool). made k v a x p) h))

abbrev rest_of : PlacedToken → List PlacedToken → Rest
rest_of p ps = record { hi = p.spot.hi; escaped = p.escaped; goal = p.goal; context = p.context; more = ps }

abbrev parting : PlacedToken → List ℕ → List ℕ → Bool → List PlacedToken → PlacedToken → List PlacedToken → Parting
parting p body flags b ps q qs = record { lo = p.spot.lo; line_break = p.spot.line_break; body = body; flags = flags; one = rest_of p ps; other = rest_of q qs; assigns = b }

apart : (depth : ℕ) (modules : Bool) (syntax : EsSyntax) (start : ℕ) (front : List PlacedToken) (w : Parting) (t u : Tree)
    → read_list depth modules syntax start (front ++ regexps w) ≡ Ok t → read_list depth modules syntax start (front ++ slashes w) ≡ Ok u → ⊥
unfolding read_list read_program
apart depth modules syntax start front w t u i j = let c : Code = if modules then module_code syntax else script_code syntax in
    never_both w (program_by lm (readers lm depth) modules c (on [] start (front ++ regexps w))) (program_by lm (readers lm depth) modules c (on [] start (front ++ slashes w))) t u
    (program_by_twin w (readers lm depth) (readers_told w depth) modules c [] start front) (program_ends (readers lm depth) modules c (on [] start (front ++ regexps w))) i j

told_by : (b : Bool) (depth : ℕ) (modules : Bool) (syntax : EsSyntax) (start : ℕ) (front : List PlacedToken) (p q : PlacedToken) (ps qs : List PlacedToken) (t u : Tree)
    → IsPattern p → q.spot.token.kind ≡ slash b → q.spot.token.content ≡ Bare → p.spot.lo ≡ q.spot.lo → p.spot.line_break ≡ q.spot.line_break
    → read_list depth modules syntax start (front ++ p ∷ ps) ≡ Ok t → read_list depth modules syntax start (front ++ q ∷ qs) ≡ Ok u → ⊥
told_by b depth modules syntax start front p q ps qs t u h k v lo lb i j = apart depth modules syntax start front (parting p h.1 h.2 b ps q qs) t u
    (subst (λ (x : PlacedToken). read_list depth modules syntax start (front ++ x ∷ ps) ≡ Ok t) (is_made p regex_kind (Pattern h.1 h.2) p.spot.lo p.spot.line_break h.0 h.3 refl refl) i)
    (subst (λ (x : PlacedToken). read_list depth modules syntax start (front ++ x ∷ qs) ≡ Ok u) (is_made q (slash b) Bare p.spot.lo p.spot.line_break k v (sym lo) (sym lb)) j)

pub slashes_told : SlashesTold
slashes_told depth modules syntax start front p q ps qs t u h (inl k, v) lo lb i j = told_by false depth modules syntax start front p q ps qs t u h k v lo lb i j
slashes_told depth modules syntax start front p q ps qs t u h (inr k, v) lo lb i j = told_by true depth modules syntax start front p q ps qs t u h k v lo lb i j
