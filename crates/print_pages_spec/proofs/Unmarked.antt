-- A page that keeps no marks is written as one that does, but for the marks.
use Rattle.std.proofs.Common.{◌≡◌, ℕ, Bool, true, false, if◌then◌else◌, ◌==◌, List, length, Option, Some, None, refl, ap, ◌∙◌}
use Rattle.base_token.specs.declared.place.Span.{Span}
use Rattle.print_writers.specs.Pages.{Page, put, put_some, put_line, deeper, shallower, indented, with_text, marked, begun, ended, end_line}

-- a page that keeps no marks
abbrev pub plain : Page → Page
plain p = record p { marks = None }

plain_if : (b : Bool) (p q : Page) → plain (if b then p else q) ≡ (if b then plain p else plain q)
plain_if true p q = refl
plain_if false p q = refl

plain_indented : (p : Page) → plain (indented p) ≡ indented (plain p)
unfolding indented
plain_indented p = plain_if p.at_start _ p

plain_begun : (span : Option Span) (p : Page) → plain (begun span p) ≡ begun span (plain p)
unfolding marked
plain_begun None p = refl
plain_begun (Some span) p = refl

plain_ended : (span : Option Span) (p : Page) → plain (ended span p) ≡ ended span (plain p)
unfolding marked
plain_ended None p = refl
plain_ended (Some span) p = refl

plain_with_text : (bytes : List ℕ) (p : Page) → plain (with_text bytes p) ≡ with_text bytes (plain p)
unfolding with_text
plain_with_text bytes p = refl

plain_put_some : (span : Option Span) (bytes : List ℕ) (p : Page) → plain (put_some span bytes p) ≡ put_some span bytes (plain p)
plain_put_some span bytes p =
    plain_ended span (with_text bytes (begun span (indented p)))
    ∙ ap (λ q. ended span q) (plain_with_text bytes (begun span (indented p))
    ∙ ap (λ q. with_text bytes q) (plain_begun span (indented p)
    ∙ ap (λ q. begun span q) (plain_indented p)))

pub plain_put : (span : Option Span) (bytes : List ℕ) (p : Page) → plain (put span bytes p) ≡ put span bytes (plain p)
unfolding put
plain_put span bytes p = plain_if (length bytes == 0) p (put_some span bytes p) ∙ ap (λ q. if length bytes == 0 then plain p else q) (plain_put_some span bytes p)

pub plain_line : (p : Page) → plain (put_line p) ≡ put_line (plain p)
unfolding put_line end_line
plain_line p = plain_if p.at_start _ _

pub plain_deeper : (p : Page) → plain (deeper p) ≡ deeper (plain p)
unfolding deeper
plain_deeper p = refl

pub plain_shallower : (p : Page) → plain (shallower p) ≡ shallower (plain p)
unfolding shallower
plain_shallower p = refl
