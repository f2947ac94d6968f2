-- What is written of a leaf that was read tells what the leaf told.
use Rattle.std.proofs.Common.{◌≡◌, ℕ, Bool, true, false, not, ◌&&◌, ◌||◌, if◌then◌else◌, List, [], ◌++◌, Option, Some, None, refl, sym, ap, subst, ◌∙◌, true≢false, codes, bytes_eq, chars, IsUtf8, encode_utf8_all}
use lib.Utf8.{scalars}
use Rattle.std.specs.List.{list_any, list_all}
use Rattle.std.proofs.lemmas.Str.{chars-encodes, encodes-chars, chars-nil}
use Rattle.std.proofs.lemmas.Slice.Eq.{bytes_eq-Decides}
use Rattle.base_proofs.proofs.Lists.{append_empty_first, append_empty_second}
use Rattle.base_number.specs.Numbers.{SpecNumber, number_of}
use Rattle.base_token.specs.declared.error.SyntaxError.TheVariants.{LegacyOctal, LegacyDecimal}
use Rattle.base_token.specs.declared.version.EsVersion.{EsVersion}
use Rattle.base_token.specs.declared.place.Span.{Span}
use Rattle.base_token.specs.Tokens.{Content, Named, Quoted, Numeral, Piece}
use Rattle.tree_spec.specs.Tree.{Tree, str_lit, number_lit, ident_name, tpl, tpl_element}
use Rattle.tree_program_spec.specs.Program.{is_escaped}
use Rattle.grammar_spec.specs.Judge.Early.{fault, has_octal, is_legacy, all_octal, legacy_number}
use Rattle.tree_spec.specs.Places.{no_place}
use Rattle.lex_literal.specs.Templates.{SpellsPiece}
use Rattle.grammar_spec.specs.Tokens.Shape.{is_cooked}
use Rattle.grammar_spec.specs.Tokens.Input.{content, text_in}
use Rattle.print_spelling.specs.declared.style.Style.{Style}
use Rattle.print_spelling.specs.String.CodePoints.{AreUnits}
use Rattle.print_spelling.specs.String.Names.{AreNameChars}
use Rattle.print_spelling.specs.String.Strings.{quoted, keeps_raw, is_backslash, is_ascii}
use Rattle.print_spelling.proofs.string.NameLemmas.{key_is_read}
use Rattle.print_spelling.proofs.string.StringLemmas.{quoted_is_read}
use Rattle.print_spelling.specs.Number.Numbers.{before_member}
use Rattle.print_layout_spec.specs.declared.look.Look.{Look}
use Rattle.print_layout_spec.specs.Literals.{string_bytes, number_bytes}
use Rattle.again_laws.specs.Tokens.Means.{Known}
use Rattle.again_laws.proofs.tokens.Known.{scalars_front}
use Rattle.again_laws.specs.Derived.Redo.{Mode, is_pointed}
use Rattle.again_laws.specs.Derived.Faithful.{Faithful, FaithfulString, FaithfulNumber, FaithfulKey}
use Rattle.again_laws.specs.Derived.Read.{Read, ReadString, ReadNumber, ReadWord, Told}
use Rattle.again_laws.proofs.derived.Mapped.{mapped}
use Rattle.again_laws.specs.DerivedLaws.TextsLaws.{ReadIsFaithful}
use Rattle.again_laws.proofs.leaf.Origins.{From, from_of}
use Rattle.again_laws.proofs.leaf.NumbersAscii.{number_is_ascii}
use Rattle.again_laws.proofs.leaf.Literals.{same_ascii}
use Rattle.again_laws.proofs.leaf.UseStrict.{strict_kept}
use Rattle.again_laws.proofs.leaf.Words.{chars_are}
use Rattle.again_laws.proofs.derived_laws.Octals.{no_octal}
use Rattle.again_laws.proofs.derived_laws.Backslashes.{backslash_bytes}
use Rattle.again_laws.proofs.leaf.Units.{string_units}
use Rattle.again_laws.proofs.derived_laws.Numbers.{number_plain}
use Rattle.again_laws.proofs.derived_laws.TemplatesAgain.{Cooked}
use Rattle.again_laws.proofs.leaf.Scalars.{are_scalars}

-- ---- strings

-- a string that was read: its text is UTF-8, and its units are units of UTF-16
pub record StringText (units own : List ℕ) : Type 0 where
  pub utf8 : IsUtf8 own
  pub are_units : AreUnits units

utf8_of : (own w : List ℕ) → scalars own ≡ true → w ≡ encode_utf8_all own → IsUtf8 w
utf8_of own w s e = subst (λ (l : List ℕ). IsUtf8 l) (sym e) (own, (s, refl))

pub string_read : (units own : List ℕ) → Told Known (Quoted units own) → StringText units own
string_read units own t =
    let f = from_of t.at (Quoted units own) t.known t.is in
    let o = f.origin in record {
      utf8 = utf8_of o.0 own (scalars_front o.0 f.behind (sym (ap scalars o.3) ∙ f.are_scalars)) o.4;
      are_units = string_units units o.1 f.from f.behind f.are_scalars o.2;
    }

fault_kept : (b c : Bool) (k : _) (q r : Span) → (c ≡ false → b ≡ false) → fault c k r ≡ [] → fault b k q ≡ []
fault_kept b true k q r f e = absurd (never e)
  where
    never : fault true k r ≡ [] → ⊥
    never e = cc
fault_kept b false k q r f e = ap (λ (d : Bool). fault d k q) (f refl)

string_modern : (style : Style) (u w : List ℕ) → StringText u w → has_octal w ≡ false → has_octal (string_bytes style u (Some w)) ≡ false
string_modern style u w t e = by (keeps_raw style u (chars w))
  where
    by : (b : Bool) → has_octal (encode_utf8_all (if b then chars w else quoted style u [])) ≡ false
    by true = ap has_octal (encodes-chars w t.utf8) ∙ e
    by false = no_octal u (quoted style u []) (quoted_is_read style u [] t.are_units)

plain_quoted : (style : Style) → list_any is_backslash (quoted style (codes "use strict") []) ≡ false
plain_quoted style = by style.target style.minify style.ascii_only style.inline_script
  where
    by : (t : EsVersion) (m a i : Bool) → list_any is_backslash (quoted (record { target = t; minify = m; ascii_only = a; inline_script = i }) (codes "use strict") []) ≡ false
    by t m a true = refl
    by t m a false = refl

or_first : (a b c : Bool) → a ≡ true → b ≡ true → ((a && b) || c) ≡ true
or_first true true c e f = refl
or_first true false c e f = absurd (true≢false (sym f))
or_first false b c e f = absurd (true≢false (sym e))

string_plain : (style : Style) (u w : List ℕ) → StringText u w
    → (bytes_eq u (codes "use strict") && not (is_escaped (Some (string_bytes style u (Some w))))) ≡ (bytes_eq u (codes "use strict") && not (is_escaped (Some w)))
string_plain style u w t = by (bytes_eq u (codes "use strict")) refl
  where
    raw_backslash : list_any is_backslash w ≡ list_any is_backslash (chars w)
    raw_backslash = ap (λ (x : List ℕ). list_any is_backslash x) (sym (encodes-chars w t.utf8)) ∙ backslash_bytes (chars w)

    escape_of : (b : Bool) → bytes_eq u (codes "use strict") ≡ true → (list_any is_backslash (chars w) ≡ true → b ≡ true) → list_any is_backslash (encode_utf8_all (if b then chars w else quoted style u [])) ≡ list_any is_backslash w
    escape_of true e f = ap (λ (x : List ℕ). list_any is_backslash x) (encodes-chars w t.utf8)
    escape_of false e f =
        backslash_bytes (quoted style u []) ∙ (ap (λ (x : List ℕ). list_any is_backslash (quoted style x [])) ((bytes_eq-Decides u (codes "use strict")).0 e) ∙ (plain_quoted style ∙ sym (raw_backslash ∙ not_true (list_any is_backslash (chars w)) f)))
      where
        not_true : (c : Bool) → (c ≡ true → false ≡ true) → c ≡ false
        not_true true g = absurd (true≢false (sym (g refl)))
        not_true false g = refl

    keeps : bytes_eq u (codes "use strict") ≡ true → list_any is_backslash (chars w) ≡ true → keeps_raw style u (chars w) ≡ true
    keeps e f = or_first (bytes_eq u (codes "use strict")) (list_any is_backslash (chars w)) (not style.minify && (not style.ascii_only || list_all is_ascii (chars w))) e f

    by : (b : Bool) → bytes_eq u (codes "use strict") ≡ b → (b && not (is_escaped (Some (string_bytes style u (Some w))))) ≡ (b && not (is_escaped (Some w)))
    by true e = ap (λ (b : Bool). not b) (escape_of (keeps_raw style u (chars w)) e (keeps e))
    by false e = refl

string_faithful : (style : Style) (u : List ℕ) (w : Option (List ℕ)) → ReadString Known u w → FaithfulString style u w
string_faithful style u w r = subst (λ (o : Option (List ℕ)). FaithfulString style u o) (sym r.is) (record {
  strict = strict_kept style r.told.at u r.own r.told.known r.told.is;
  plain = string_plain style u r.own (string_read u r.own r.told);
  modern = λ q s e. fault_kept _ _ LegacyOctal q s (string_modern style u r.own (string_read u r.own r.told)) e;
})

-- ---- numbers

none_faulty : (b : Bool) (k : _) (r : Span) → fault b k r ≡ [] → b ≡ false
none_faulty true k r e = absurd (never e)
  where
    never : fault true k r ≡ [] → ⊥
    never e = cc
none_faulty false k r e = refl

neither : (a b : Bool) → (a && b) ≡ false → (a && not b) ≡ false → a ≡ false
neither true true e f = e
neither true false e f = f
neither false b e f = refl

no_legacy : (own : List ℕ) (r : Span) → legacy_number (Some own) r ≡ [] → is_legacy own ≡ false
no_legacy own r e = neither (is_legacy own) (all_octal own) (none_faulty _ LegacyOctal r (append_empty_first _ _ e)) (none_faulty _ LegacyDecimal r (append_empty_second _ _ e))

legacy_none : (own : List ℕ) (q : Span) → is_legacy own ≡ false → legacy_number (Some own) q ≡ []
legacy_none own q e = ap (λ (b : Bool). fault (b && all_octal own) LegacyOctal q ++ fault (b && not (all_octal own)) LegacyDecimal q) e

number_faithful : (style : Style) (before : Bool) (v : SpecNumber) (w : Option (List ℕ)) → ReadNumber Known v w → FaithfulNumber style before v w
number_faithful style before v w r = subst (λ (o : Option (List ℕ)). FaithfulNumber style before v o) (sym r.is) (λ q s e. by (no_legacy r.own s e) q)
  where
    f : From (Numeral v r.own)
    f = from_of r.told.at (Numeral v r.own) r.told.known r.told.is

    text_of : List ℕ → List ℕ
    text_of l = if before then before_member (number_bytes style v (Some l)) else number_bytes style v (Some l)

    read : number_of r.own ≡ Some v
    read = subst (λ (l : List ℕ). number_of l ≡ Some v) (sym (f.origin.2 ∙ same_ascii f.origin.0 (number_is_ascii f.origin.0 v f.origin.1.spelled))) f.origin.1.spelled

    by : is_legacy r.own ≡ false → (q : Span) → legacy_number (Some (text_of r.own)) q ≡ []
    by e q = legacy_none (text_of r.own) q (number_plain style before v r.own read e)

-- ---- words

-- a word that was read: its characters are those of a name
pub record WordText (name : List ℕ) : Type 0 where
  pub names : AreNameChars true (chars name)

word_from : (x : Content) → From x → (n : List ℕ) → text_in x ≡ n → WordText n
word_from (Named m) f n e = subst (λ (l : List ℕ). WordText l) e (record { names = subst (λ (l : List ℕ). AreNameChars true l) (sym (ap chars f.origin.2 ∙ chars-encodes f.origin.0 (are_scalars true f.origin.0 names))) names })
  where
    names : AreNameChars true f.origin.0
    names = chars_are true f.from f.origin.0 f.behind f.are_scalars f.origin.1.1
word_from _ f n e = subst (λ (l : List ℕ). WordText l) e (record { names = subst (λ (l : List ℕ). AreNameChars true l) (sym chars-nil) tt })

pub word_read : (name : List ℕ) → ReadWord Known name → WordText name
word_read name r = word_from (content r.at) (from_of r.at (content r.at) r.known refl) name r.is

key_faithful : (style : Style) (name : List ℕ) → ReadWord Known name → FaithfulKey style name
key_faithful style name r q = no_octal _ _ (key_is_read style (chars name) [] q (word_read name r).names)

-- ---- pieces of templates

-- a piece of a template that was read: its text is UTF-8, and where no escape of it is bad it spells its units
pub record PieceText (raw : List ℕ) (units : Option (List ℕ)) : Type 0 where
  pub utf8 : IsUtf8 raw
  pub cooked : is_cooked (tpl_element no_place true raw units) ≡ true → Cooked (chars raw)

pub piece_read : (raw : List ℕ) (units : Option (List ℕ)) → Told Known (Piece raw units) → PieceText raw units
piece_read raw units t = by units (from_of t.at (Piece raw units) t.known t.is)
  where
    by : (u : Option (List ℕ)) → From (Piece raw u) → PieceText raw u
    by None f = record { utf8 = utf8_of f.origin.0 raw (scalars_front f.origin.0 f.origin.3.1 (sym (ap scalars f.origin.3.4) ∙ f.are_scalars)) f.origin.5; cooked = λ e. absurd (true≢false (sym e)) }
    by (Some u) f = let s = scalars_front f.origin.0 f.origin.3.1 (sym (ap scalars f.origin.3.4) ∙ f.are_scalars) in record {
      utf8 = utf8_of f.origin.0 raw s f.origin.5;
      cooked = λ e. record { units = u; ending = f.origin.1; before = f.from; behind = f.origin.2; spells = subst (λ (l : List ℕ). SpellsPiece l (Some u) f.origin.1 f.from f.origin.2) (sym (ap chars f.origin.5 ∙ chars-encodes f.origin.0 s)) f.origin.3 };
    }

-- ---- the tree

leaf_faithful : (look : Look) (mode : Mode) (t : Tree) → Read Known mode t → Faithful look mode t
leaf_faithful look mode (str_lit s u w) r = string_faithful look.style u w r
leaf_faithful look mode (number_lit s v w) r = number_faithful look.style (is_pointed mode) v w r
leaf_faithful look mode (ident_name s n) r = key_faithful look.style n r
leaf_faithful look mode (tpl s es qs) r = r
leaf_faithful look mode _ r = tt

pub read_is_faithful : ReadIsFaithful
read_is_faithful look mode t e = mapped (Read Known) (Faithful look) (leaf_faithful look) mode t e
