-- Steps over a layout: from what stands last on, part by part.
use Rattle.std.proofs.Common.{◌≡◌, ℕ, ◌⊎◌, inl, inr, Bool, true, false, ◌||◌, List, Option, refl, sym, subst}
use Rattle.std.specs.Prelude.{if◌then◌else◌}
use Rattle.std.proofs.lemmas.Bool.{false≢true, or_parts}
use Rattle.lex_token.specs.declared.goal.LexicalGoal.TheVariants.{Div}
use Rattle.base_token.specs.declared.place.BytePos.{BytePos}
use Rattle.base_token.specs.declared.place.Span.{Span}
use Rattle.print_pages_spec.specs.Pieces.{Text, Brace, Semicolon, Commit, Mark}
use Rattle.print_layout_spec.specs.declared.look.Look.{Look}
use Rattle.print_layout_spec.specs.Looks.{Laid, nothing, one, both, blank, when, gap, gap_or, line, deeper, back, formats}
use Rattle.again_laws.proofs.tiling.GoingLayouts.{mono}
use Rattle.again_laws.specs.Tiling.Categories.{Category, Clear, Closed, Fresh, Shut, State, Word, Worded, behind, blank_behind, is_open, is_wordless, takes}
use Rattle.again_laws.specs.Tiling.Goes.{Fits, Goes, When}

-- ---- steps

pub when_true : (b : Bool) (P : Type 0) → b ≡ true → P → When b P
when_true true P e h = h
when_true false P e h = absurd (false≢true e)

-- The layout goes from the state on, up to one of these.
pub record Steps (f : Laid) (s : State) (P : State → Type 0) : Type 0 where
  pub so : Goes f s P

-- one of two states
abbrev pub At : State → State → Type 0
At u t = t ≡ u

abbrev pub Blanked : State → State → Type 0
Blanked u t = (t ≡ u) ⊎ (t ≡ blank_behind u)

abbrev pub Apart : Bool → State → State → Type 0
Apart w u t = ((w ≡ false) × (t ≡ u)) ⊎ (t ≡ blank_behind u)

abbrev pub Lined : State → State → Type 0
Lined u t = (t ≡ u) ⊎ (t ≡ Fresh)

infixr 35 ◌▸◌
pub ◌▸◌ : {f g : Laid} {s : State} {Q P : State → Type 0} → Steps f s Q → ((t : State) → Q t → Steps g t P) → Steps (both f g) s P
◌▸◌ {f = f} {g = g} {s = s} {Q = Q} {P = P} x k = record { so = mono f s Q (λ t. Goes g t P) x.so (λ t q. (k t q).so) }

pub ends : {f : Laid} {s : State} {Q P : State → Type 0} → Steps f s Q → ((t : State) → Q t → P t) → Steps f s P
ends {f = f} {s = s} {Q = Q} {P = P} x k = record { so = mono f s Q P x.so k }

-- from a state that is known
pub at : {g : Laid} {u : State} {P : State → Type 0} → Steps g u P → (t : State) → t ≡ u → Steps g t P
at {g = g} {u = u} {P = P} x t e = subst (λ (v : State). Steps g v P) (sym e) x

pub either : {g : Laid} {u v : State} {P : State → Type 0} → Steps g u P → Steps g v P → (t : State) → (t ≡ u) ⊎ (t ≡ v) → Steps g t P
either {g = g} {u = u} {v = v} {P = P} x y t (inl e) = subst (λ (w : State). Steps g w P) (sym e) x
either {g = g} {u = u} {v = v} {P = P} x y t (inr e) = subst (λ (w : State). Steps g w P) (sym e) y

pub apart : {g : Laid} {w : Bool} {u v : State} {P : State → Type 0} → (w ≡ false → Steps g u P) → Steps g v P → (t : State) → ((w ≡ false) × (t ≡ u)) ⊎ (t ≡ v) → Steps g t P
apart {g = g} {w = w} {u = u} {v = v} {P = P} x y t (inl e) = subst (λ (z : State). Steps g z P) (sym e.1) (x e.0)
apart {g = g} {w = w} {u = u} {v = v} {P = P} x y t (inr e) = subst (λ (z : State). Steps g z P) (sym e) y

-- ---- pieces

pub mark : {pos : BytePos} {s : State} → Steps (one (Mark pos)) s (At s)
mark = record { so = refl }

pub committed : {s : State} → Steps (one Commit) s (At s)
committed = record { so = refl }

pub nil : {s : State} → Steps nothing s (At s)
nil = record { so = refl }

pub text_by : {span : Option Span} {bytes : List ℕ} {s : State} (k : Category) → Fits Div bytes k → takes k s ≡ true → Steps (one (Text span bytes)) s (At (behind k s))
text_by {s = s} k f o = record { so = (k, f, when_true (takes k s) (behind k s ≡ behind k s) o refl) }

pub shut : {span : Option Span} {bytes : List ℕ} {s : State} → Fits Div bytes Closed → is_open s ≡ true → Steps (one (Text span bytes)) s (At Shut)
shut f o = text_by Closed f o

pub worded : {span : Option Span} {bytes : List ℕ} {s : State} → Fits Div bytes Word → is_wordless s ≡ true → Steps (one (Text span bytes)) s (At Worded)
worded f o = text_by Word f o

pub braced : {span : Option Span} {s : State} → is_open s ≡ true → Steps (one (Brace span)) s (At Shut)
braced {s = s} o = record { so = when_true (is_open s) (Shut ≡ Shut) o refl }

pub blanks : {s : State} → is_open s ≡ true → Steps blank s (At (blank_behind s))
blanks {s = s} o = record { so = when_true (is_open s) (blank_behind s ≡ blank_behind s) o refl }

pub semicolons : {span : Option Span} {s : State} → is_open s ≡ true → Steps (one (Semicolon span)) s (At Clear)
semicolons {s = s} o = record { so = when_true (is_open s) (Clear ≡ Clear) o refl }

-- ---- choices

pub when_goes : {f : Laid} {s : State} {P : State → Type 0} (b : Bool) → (b ≡ true → Steps f s P) → (b ≡ false → P s) → Steps (when b f) s P
when_goes true g h = g refl
when_goes false g h = record { so = h refl }

pub if_goes : {f g : Laid} {s : State} {P : State → Type 0} (b : Bool) → (b ≡ true → Steps f s P) → (b ≡ false → Steps g s P) → Steps (if b then f else g) s P
if_goes true h k = h refl
if_goes false h k = k refl

module _ (look : Look) where
  pub gaps : {s : State} → is_open s ≡ true → Steps (gap look) s (Blanked s)
  gaps {s = s} o = when_goes (formats look) (λ e. ends (blanks o) (λ t q. inr q)) (λ e. inl refl)

  pub gaps_or : {s : State} (w : Bool) → is_open s ≡ true → Steps (gap_or look w) s (Apart w s)
  gaps_or {s = s} w o = when_goes (w || formats look) (λ e. ends (blanks o) (λ t q. inr q)) (λ e. inl ((or_parts w (formats look) e).0, refl))

  pub lines : {s : State} → is_open s ≡ true → Steps (line look) s (Lined s)
  lines {s = s} o = when_goes (formats look) (λ e. record { so = when_true (is_open s) ((Fresh ≡ s) ⊎ (Fresh ≡ Fresh)) o (inr refl) }) (λ e. inl refl)

  pub deepens : {s : State} → Steps (deeper look) s (At s)
  deepens = when_goes (formats look) (λ e. record { so = refl }) (λ e. refl)

  pub comes_back : {s : State} → Steps (back look) s (At s)
  comes_back = when_goes (formats look) (λ e. record { so = refl }) (λ e. refl)
