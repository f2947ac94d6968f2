-- What is written of a tree that spells a text is read again: from the law of read-back.
use Rattle.std.proofs.Common.{◌≡◌, ◌⊎◌, ℕ, zero, suc, Bool, true, false, not, List, [], ◌∷◌, inl, inr, refl, sym, subst, ◌∙◌, arith}
use Rattle.std.specs.Prelude.{◌≤◌, codes, nat_lt, if◌then◌else◌}
use Rattle.std.specs.Str.{chars, IsUtf8}
use Rattle.std.proofs.lemmas.Bool.Decides.{nat_tests}
use lib.Utf8.{scalars}
use Rattle.base_token.specs.Dialect.{parts_of}
use Rattle.base_token.specs.Editions.{edition_rank}
use Rattle.tree_spec.specs.Tree.{Tree}
use Rattle.lex_pieces.specs.Characters.{is_white_space}
use Rattle.lex_pieces.specs.Runs.{Each}
use Rattle.print_writers.specs.Pages.{times}
use Rattle.print_pages_spec.specs.Pieces.{resolved, shortened}
use Rattle.run_print.specs.Layout.{pieces}
use Rattle.again_laws.proofs.Passed.{AreWrittenAlike, IsEmptyPage, WritesAgain, read_is_text}
use Rattle.run_command.specs.Options.{is_format, is_module}
use Rattle.run_command.specs.declared.options.Options.{Options}
use Rattle.run_command.specs.declared.options.LineEnd.{LineEnd}
use Rattle.run_command.specs.declared.options.LineEnd.TheVariants.{Lf, CrLf}
use Rattle.run_command.specs.declared.options.Indent.{Indent}
use Rattle.run_command.specs.declared.options.Indent.TheVariants.{Blanks, Tabs}
use Rattle.again_laws.proofs.tokens.Ascii.{ascii, is_ascii}
use Rattle.again_laws.specs.Laws.{IsReadBack}
use Rattle.again_laws.proofs.Whole.{programs_read_back}
use Rattle.run_print.specs.Layouts.{look_of, line_end_of, indent_of, page_of, laid_of, written_on, layout}
use Rattle.run_print.proofs.Writing.{page_text}
use Rattle.ecma_front.specs.Programs.{setting_of, Spells}
use Rattle.ecma_front.specs.ReadAgain.{minifying, KeepsBytes, IsReadAgain}

-- ---- the page is empty

repeated_ascii : (c : ℕ) → nat_lt c 128 ≡ true → (n : ℕ) → is_ascii (times n (c ∷ [])) ≡ true
repeated_ascii c h zero = refl
repeated_ascii c h (suc n) = rw h (repeated_ascii c h n)

repeated_white : (c : ℕ) → is_white_space c ≡ true → (n : ℕ) → Each is_white_space (times n (c ∷ []))
repeated_white c h zero = tt
repeated_white c h (suc n) = (h, repeated_white c h n)

-- one step of the indentation is ASCII, and white space
indent_ascii : (i : Indent) → is_ascii (indent_of i) ≡ true
indent_ascii (Blanks n) = repeated_ascii 32 refl n
indent_ascii (Tabs n) = repeated_ascii 9 refl n

indent_white : (i : Indent) → Each is_white_space (indent_of i)
indent_white (Blanks n) = repeated_white 32 refl n
indent_white (Tabs n) = repeated_white 9 refl n

pub empty_page : (o : Options) → IsEmptyPage (page_of o)
empty_page o = let a = ascii (indent_of o.indent) (indent_ascii o.indent) in record {
  nothing = refl;
  starts = refl;
  level = refl;
  ends = elim o.line_end as (λ (e : LineEnd). (line_end_of e ≡ codes "\n") ⊎ (line_end_of e ≡ codes "\r\n")) [ Lf ↦ inl refl | CrLf ↦ inr refl ];
  utf8 = a.utf8;
  white = subst (λ (cs : List ℕ). Each is_white_space cs) (sym a.same) (indent_white o.indent);
}

-- ---- the looks in which what is written is written again

es2015 : (n : ℕ) → 2 ≤ n → nat_lt n 2 ≡ false
es2015 n h = grind (arith, nat_tests)

-- what is written in one style, written in another that is no looser
writes_again : (o : Options) → KeepsBytes o → (p : Options) → (look_of p).style.target ≡ o.target → (look_of p).style.inline_script ≡ o.inline_script → (look_of p).style.ascii_only ≡ o.ascii_only
    → (not (is_format o.style) ≡ true → not (is_format p.style) ≡ true) → WritesAgain (look_of o) (look_of p)
writes_again o k p t i a s = record {
  modern = es2015 (edition_rank o.target) k.modern;
  edition = t;
  page = i;
  wide = k.wide;
  wide_again = a ∙ k.wide;
  short = s;
}

-- ---- what is written

-- What holds of the bytes in either style holds of those in the style that is asked for.
chosen : (o : Options) (t : Tree) (P : List ℕ → Type 0) → P (resolved (pieces (look_of o) t) (page_of o)).out → P (shortened (pieces (look_of o) t) (page_of o)).out → P (layout o t)
unfolding layout written_on laid_of
chosen o t P x y = by (is_format o.style)
  where
    by : (b : Bool) → P (if b then resolved (pieces (look_of o) t) (page_of o) else shortened (pieces (look_of o) t) (page_of o)).out
    by true = x
    by false = y

-- what is written of a tree that spells a text is UTF-8
pub layout_utf8 : (o : Options) (t : Tree) (text : List ℕ) → scalars text ≡ true → Spells o t text → IsUtf8 (layout o t)
layout_utf8 o t text e h =
    let w = read_is_text (look_of o) (is_module o.goal) (parts_of o.syntax) t text e h.reads (page_of o) (page_text o) in chosen o t IsUtf8 w.0.0 w.1.0

same_layout : (o : Options) (t u : Tree) → AreWrittenAlike (look_of o) t u → layout o t ≡ layout o u
unfolding layout written_on laid_of
same_layout o t u a = by (is_format o.style)
  where
    by : (b : Bool) → (if b then resolved (pieces (look_of o) t) (page_of o) else shortened (pieces (look_of o) t) (page_of o)).out
        ≡ (if b then resolved (pieces (look_of o) u) (page_of o) else shortened (pieces (look_of o) u) (page_of o)).out
    by true = a.bytes_same (page_of o)
    by false = a.short_bytes_same (page_of o)

pub read_again : (o : Options) (t : Tree) (text : List ℕ) → scalars text ≡ true → Spells o t text → IsReadAgain o t (chars (layout o t))
read_again o t text e h =
    let r = programs_read_back (look_of o) (setting_of o) (is_module o.goal) t text (page_of o) e h (empty_page o) in
    let b : IsReadBack (look_of o) (setting_of o) (is_module o.goal) t (chars (layout o t)) = chosen o t (λ bytes. IsReadBack (look_of o) (setting_of o) (is_module o.goal) t (chars bytes)) r.0 r.1 in record {
      tree = b.tree;
      spells = b.spells;
      same = b.same;
      only = b.only;
      formatted = λ k f. same_layout o b.tree t (b.again (look_of o) (writes_again o k o refl refl refl (λ m. m)));
      minified = λ k. same_layout (minifying o) b.tree t (b.again (look_of (minifying o)) (writes_again o k (minifying o) refl refl refl (λ m. refl)));
    }
