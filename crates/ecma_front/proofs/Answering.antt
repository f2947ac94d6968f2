-- What a run answers, from what its steps did.
use Rattle.std.proofs.Common.{◌≡◌, ℕ, ◌≤◌, true, false, List, [], take, Option, None, Some, Err, length, refl, sym, ap, subst, ◌∙◌, arith, Result, Ok}
use Rattle.std.specs.Prelude.{Bool, ◌<◌, IfSome, IfErr, IsSome, IsUtf8}
use Rattle.std.proofs.lemmas.Bool.{cases_lt}
use Rattle.std.specs.Io.KnownBytes.{Consumes, IsAtEnd, Appends}
use Rattle.std.proofs.KnownBytes.{Consumes-all}
use Rattle.std.proofs.lemmas.Str.{scalars-chars}
use Rattle.run_command.specs.declared.options.Options.{Options}
use Rattle.ecma_front.specs.declared.fault.Fault.{Fault}
use Rattle.ecma_front.specs.declared.fault.Fault.TheVariants as f
use Rattle.run_command.specs.Options.{are_refused}
use Rattle.ecma_front.specs.Faults.{is_text_fault, is_past_input, is_failure, is_of_writing, is_read_fault, answers_fault}
use Rattle.std.proofs.Common.{inl, inr, chars}
use Rattle.base_token.specs.Dialect.{parts_of}
use Rattle.base_token.specs.declared.error.Error.{Error}
use Rattle.grammar_spec.specs.Judge.Early.{early_errors}
use Rattle.ecma_front.specs.Programs.{IsFaulty, IsProgramOf, Spells}
use Rattle.std.specs.Prelude.{◌⊎◌}
use Rattle.tree_spec.specs.Tree.{Tree}
use Rattle.base_token.specs.declared.place.BytePos.{BytePos}
use Rattle.base_token.specs.declared.place.LineCol.{LineCol}
use Rattle.print_writers.specs.declared.fault.EmitError.{EmitError}
use Rattle.print_writers.specs.declared.fault.EmitError.TheVariants as w
use Rattle.run_print.specs.Layouts.{layout, IsPastLast}
use Rattle.run_print.specs.Prints.{IsDone, IsStopped, Texts}
use Rattle.run_print.proofs.Writing.{no_place_past}
use Rattle.ecma_front.specs.Formats.{IsProgramIn, IsRefused, LacksProgram, longest_text}
use Rattle.ecma_front.specs.Run.{Answers, Formats, HasPlaces, IsPrinted, IsReadable, Succeeds, SucceedsExactly, WritesBeginning}
use Rattle.ecma_front.specs.Input.{IsInputFault}
use Rattle.ecma_front.specs.Steps.{fault_of, Writes}
use Rattle.ecma_front.proofs.Formatting.{can_be_printed}
use Rattle.ecma_front.proofs.ReadAgain.{layout_utf8, read_again}
use Rattle.ecma_front.specs.Names.{NamesAreTold}
use Rattle.ecma_front.proofs.Names.{names_told}

-- what was kept of a reader that was read to its end is what it had
pub kept_all : (a b : Option (List ℕ)) (kept : List ℕ) → Consumes a b kept → IsAtEnd b → IfSome a (λ bytes. kept ≡ bytes)
kept_all a b kept consumed end = Consumes-all a b kept [] kept consumed end refl

text_fault_at : (P : Type 0) (items : P → List (BytePos × LineCol)) (options : Options) (bytes : List ℕ) (before after : Option (List ℕ)) (fault : Fault) → is_text_fault fault ≡ true
    → IsRefused options bytes fault → length bytes ≤ longest_text → Answers {P = P} items options (Some bytes) before after (Err fault)
text_fault_at P items options bytes before after (f.NotUtf8 n) is h fits = (h, fits)
text_fault_at P items options bytes before after (f.Syntax e) is h fits = (h, fits)
text_fault_at P items options bytes before after f.TooDeep is h fits = (h, fits)
text_fault_at P items options bytes before after f.Memory is h fits = (tt, tt)
text_fault_at P items options bytes before after (f.Read k) is h fits = absurd (cc)
text_fault_at P items options bytes before after f.TooLong is h fits = absurd (cc)
text_fault_at P items options bytes before after (f.Write k) is h fits = absurd (cc)
text_fault_at P items options bytes before after f.Position is h fits = absurd (cc)
text_fault_at P items options bytes before after f.Node is h fits = absurd (cc)
text_fault_at P items options bytes before after f.Options is h fits = absurd (cc)

unknown_text_fault : (P : Type 0) (items : P → List (BytePos × LineCol)) (options : Options) (before after : Option (List ℕ)) (fault : Fault) → is_text_fault fault ≡ true → Answers {P = P} items options None before after (Err fault)
unknown_text_fault P items options before after (f.NotUtf8 n) is = tt
unknown_text_fault P items options before after (f.Syntax e) is = tt
unknown_text_fault P items options before after f.TooDeep is = tt
unknown_text_fault P items options before after f.Memory is = tt
unknown_text_fault P items options before after (f.Read k) is = tt
unknown_text_fault P items options before after f.TooLong is = tt
unknown_text_fault P items options before after (f.Write k) is = tt
unknown_text_fault P items options before after f.Position is = absurd (cc)
unknown_text_fault P items options before after f.Node is = tt
unknown_text_fault P items options before after f.Options is = tt

-- a text that is refused
pub text_fault_answers : (P : Type 0) (items : P → List (BytePos × LineCol)) (options : Options) (input before after : Option (List ℕ)) (kept : List ℕ) (fault : Fault) → IfSome input (λ bytes. kept ≡ bytes)
    → is_text_fault fault ≡ true → IsRefused options kept fault → length kept ≤ longest_text → Answers {P = P} items options input before after (Err fault)
text_fault_answers P items options None before after kept fault same is h fits = unknown_text_fault P items options before after fault is
text_fault_answers P items options (Some bytes) before after kept fault same is h fits =
    text_fault_at P items options bytes before after fault is (subst (λ (bs : List ℕ). IsRefused options bs fault) same h) (subst (λ (bs : List ℕ). length bs ≤ longest_text) same fits)

-- what is written of the program of the bytes
module _ {P : Type 0} (items : P → List (BytePos × LineCol)) (options : Options) (t : Tree) (kept : List ℕ) (before after : Option (List ℕ)) (program : IsProgramIn options kept t) (fits : length kept ≤ longest_text) where
  printed : IsPrinted options kept t (layout options t)
  printed = record {
    fits = fits;
    program = program;
    is_layout = refl;
    utf8 = layout_utf8 options t (chars kept) (scalars-chars kept program.0) program.1.0;
    read_again = read_again options t (chars kept) (scalars-chars kept program.0) program.1.0;
  }

  names_of : (positions : Option P) → IsDone items options t before after positions → IsSome before → IfSome positions (λ p. NamesAreTold (chars (layout options t)) (items p) t printed.read_again.tree)
  names_of None h s = tt
  names_of (Some p) h s = names_told options t (chars kept) (scalars-chars kept program.0) program.1.0 (sym h.asked) (items p) (sym (h.placed s)) (h.within s) printed.read_again.tree printed.read_again.spells.reads

  succeeded : (positions : Option P) → IsDone items options t before after positions → Succeeds items options kept before after positions
  succeeded positions h = record { tree = t; out = layout options t; printed = printed; written = h.got; placed = h.placed; within = h.within; named = names_of positions h }

  begun_of : (n : ℕ) → Appends before after (take n (layout options t)) → WritesBeginning options kept before after
  begun_of n h = (t, layout options t, n, printed, h)

  answers_of : (e : EmitError) → IsStopped options t before after e → Answers {P = P} items options (Some kept) before after (Err (fault_of e))
  answers_of (w.Write k) h = begun_of h.count h.begun
  answers_of w.Memory h = (tt, tt)
  answers_of w.Position h = (h.tells.0, (begun_of h.count h.begun, λ some. (t, program, h.tells.1 some)))
  answers_of w.Node h = absurd (can_be_printed options (chars kept) t program.1 h.tells)

  answers_at : (result : Result (Option P) Fault) → Writes items options t before after result → Answers items options (Some kept) before after result
  answers_at (Ok positions) h = (h.asked, succeeded positions h)
  answers_at (Err fault) h = subst (λ (x : Fault). Answers {P = P} items options (Some kept) before after (Err x)) (sym h.1) (answers_of h.0 h.2)

  unknown_of : (e : EmitError) → IsStopped options t before after e → Answers {P = P} items options None before after (Err (fault_of e))
  unknown_of (w.Write k) h = tt
  unknown_of w.Memory h = tt
  unknown_of w.Position h = (h.tells.0, tt)
  unknown_of w.Node h = absurd (can_be_printed options (chars kept) t program.1 h.tells)

  unknown_at : (result : Result (Option P) Fault) → Writes items options t before after result → Answers items options None before after result
  unknown_at (Ok positions) h = (h.asked, tt)
  unknown_at (Err fault) h = subst (λ (x : Fault). Answers {P = P} items options None before after (Err x)) (sym h.1) (unknown_of h.0 h.2)

  pub written_answers : (input : Option (List ℕ)) (result : Result (Option P) Fault) → IfSome input (λ bytes. kept ≡ bytes) → Writes items options t before after result → Answers items options input before after result
  written_answers None result same h = unknown_at result h
  written_answers (Some bytes) result same h = subst (λ (bs : List ℕ). Answers items options (Some bs) before after result) same (answers_at result h)

  -- with a fault a beginning is written
  pub written_begun : (input : Option (List ℕ)) (result : Result (Option P) Fault) → IfSome input (λ bytes. kept ≡ bytes) → Writes items options t before after result
      → IfErr result (λ fault. IfSome input (λ bytes. WritesBeginning options bytes before after))
  written_begun input (Ok positions) same h = tt
  written_begun None (Err fault) same h = tt
  written_begun (Some bytes) (Err fault) same h = subst (λ (bs : List ℕ). WritesBeginning options bs before after) same (begun_of h.2.count h.2.begun)

  of_writing : (e : EmitError) → IsStopped options t before after e → is_of_writing options (fault_of e) ≡ true
  of_writing (w.Write k) h = refl
  of_writing w.Memory h = h.tells
  of_writing w.Position h = refl
  of_writing w.Node h = absurd (can_be_printed options (chars kept) t program.1 h.tells)

  -- and the fault is one of writing
  pub written_fault : (result : Result (Option P) Fault) → Writes items options t before after result → IfErr result (λ fault. is_of_writing options fault ≡ true)
  written_fault (Ok positions) h = tt
  written_fault (Err fault) h = ap (λ (x : Fault). is_of_writing options x) h.1 ∙ of_writing h.0 h.2

  no_settings_of : (e : EmitError) → fault_of e ≡ f.Options → ⊥
  no_settings_of (w.Write k) e = cc
  no_settings_of w.Memory e = cc
  no_settings_of w.Position e = cc
  no_settings_of w.Node e = cc

  no_read_of : (e : EmitError) → is_read_fault (fault_of e) ≡ false
  no_read_of (w.Write k) = refl
  no_read_of w.Memory = refl
  no_read_of w.Position = refl
  no_read_of w.Node = refl

  -- it is neither of the settings nor the reader's
  pub written_no_settings : (result : Result (Option P) Fault) → Writes items options t before after result → result ≡ Err f.Options → ⊥
  written_no_settings (Ok positions) h e = absurd (cc)
  written_no_settings (Err fault) h e = let same : fault ≡ f.Options = cc in no_settings_of h.0 (sym h.1 ∙ same)

  pub written_no_read : (result : Result (Option P) Fault) → Writes items options t before after result → answers_fault is_read_fault result ≡ false
  written_no_read (Ok positions) h = refl
  written_no_read (Err fault) h = ap is_read_fault h.1 ∙ no_read_of h.0

  -- so where a fault is none of writing, whatever holds
  pub written_else : (Z : Type 0) (result : Result (Option P) Fault) → Writes items options t before after result → IfErr result (λ fault. is_of_writing options fault ≡ false → Z)
  written_else Z (Ok positions) h = tt
  written_else Z (Err fault) h = λ none. let is : is_of_writing options fault ≡ true = ap (λ (x : Fault). is_of_writing options x) h.1 ∙ of_writing h.0 h.2 in absurd (cc)

  pub written_begun_or : (Z : Type 0) (input : Option (List ℕ)) (result : Result (Option P) Fault) → IfSome input (λ bytes. kept ≡ bytes) → Writes items options t before after result
      → IfErr result (λ fault. Z ⊎ IfSome input (λ bytes. WritesBeginning options bytes before after))
  written_begun_or Z input (Ok positions) same h = tt
  written_begun_or Z input (Err fault) same h = inr (written_begun input (Err fault) same h)

-- a fault of the text is neither the reader's nor one of the settings
pub text_fault_no_read : (fault : Fault) → is_text_fault fault ≡ true → is_read_fault fault ≡ false
text_fault_no_read (f.NotUtf8 n) is = refl
text_fault_no_read (f.Syntax e) is = refl
text_fault_no_read f.TooDeep is = refl
text_fault_no_read f.Memory is = refl
text_fault_no_read (f.Read k) is = absurd (cc)
text_fault_no_read f.TooLong is = refl
text_fault_no_read (f.Write k) is = refl
text_fault_no_read f.Position is = refl
text_fault_no_read f.Node is = refl
text_fault_no_read f.Options is = refl

-- the input was not read to its end
pub input_fault_early : (fault : Fault) → IsInputFault fault → is_past_input fault ≡ true → ⊥
input_fault_early (f.Read k) is past = absurd (cc)
input_fault_early f.TooLong is past = absurd (cc)
input_fault_early f.Memory is past = absurd (cc)
input_fault_early (f.NotUtf8 n) is past = is
input_fault_early (f.Syntax e) is past = is
input_fault_early f.TooDeep is past = is
input_fault_early (f.Write k) is past = is
input_fault_early f.Position is past = is
input_fault_early f.Node is past = is
input_fault_early f.Options is past = is

pub text_fault_no_settings : (fault : Fault) → is_text_fault fault ≡ true → fault ≡ f.Options → ⊥
text_fault_no_settings fault is e = let no = ap is_text_fault e in cc

-- no tree spells a text that has a fault
faulty : (options : Options) (text : List ℕ) (e : Error) (t : Tree) → IsFaulty options text e → Spells options t text → ⊥
faulty options text e t (inl none) s = none.unread t s.reads
faulty options text e t (inr one) s =
    let same = one.only t s.reads in
    let list = one.errors in
    let clean = ap (λ (u : Tree). early_errors (parts_of options.syntax) u) same in
    absurd (cc (list, clean, s.clean))

refused_unreadable : (P : Type 0) (items : P → List (BytePos × LineCol)) (options : Options) (bytes : List ℕ) (before after : Option (List ℕ)) (fault : Fault) → is_failure fault ≡ false
    → (fault ≡ f.Options → ⊥) → (options.positions ≡ true → IsSome before) → Answers {P = P} items options (Some bytes) before after (Err fault) → IsReadable options bytes → HasPlaces options bytes → ⊥
refused_unreadable P items options bytes before after (f.NotUtf8 n) is not tells h r places = h.0.0 r.1
refused_unreadable P items options bytes before after f.TooLong is not tells h r places = omega (arith, h.0, r.0)
refused_unreadable P items options bytes before after (f.Syntax e) is not tells h r places = faulty options (chars bytes) e r.2.0 h.0.1 r.2.1
refused_unreadable P items options bytes before after f.TooDeep is not tells h r places = let past = h.0.1.deeper r.2.0 r.2.1.reads in omega (arith, past, r.2.1.within)
refused_unreadable P items options bytes before after (f.Read k) is not tells h r places = absurd (cc)
refused_unreadable P items options bytes before after f.Memory is not tells h r places = absurd (cc)
refused_unreadable P items options bytes before after (f.Write k) is not tells h r places = absurd (cc)
refused_unreadable P items options bytes before after f.Position is not tells h r places = let large = h.1.1 (tells h.0) in places large.0 large.1.1.0 large.2
refused_unreadable P items options bytes before after f.Node is not tells h r places = h.0
refused_unreadable P items options bytes before after f.Options is not tells h r places = not refl

-- what was written has its places
has_places : (options : Options) (bytes : List ℕ) (t : Tree) (before : Option (List ℕ)) → IsProgramIn options bytes t → (IsSome before → IsPastLast options t → ⊥) → (options.positions ≡ true → IsSome before) → HasPlaces options bytes
has_places options bytes t before program within tells u spells past = by options.positions refl
  where
    same : IsPastLast options t
    same = subst (λ (x : Tree). IsPastLast options x) (program.1.1 u spells.reads) past

    by : (b : Bool) → options.positions ≡ b → ⊥
    by true on = within (tells on) same
    by false off = no_place_past options t off same

-- an answer and what the settings say of it make success exact
pub answers_exactly : (P : Type 0) (items : P → List (BytePos × LineCol)) (options : Options) (input before after : Option (List ℕ)) (result : Result (Option P) Fault)
    → (result ≡ Err f.Options → are_refused options ≡ true) → Answers items options input before after result → SucceedsExactly options input before result
answers_exactly P items options None before after result settings h = λ taken found tells. tt
answers_exactly P items options (Some bytes) before after (Ok x) settings h = λ taken found tells.
    let p = h.1.printed in
    (λ _. ((p.fits, p.program.0, (h.1.tree, p.program.1.0)), has_places options bytes h.1.tree before p.program h.1.within tells), λ _. refl)
answers_exactly P items options (Some bytes) before after (Err fault) settings h = λ taken found tells.
    (λ e. absurd (cc), λ r. absurd (refused_unreadable P items options bytes before after fault found (λ e. let refused = settings (ap (λ (x : Fault). Err x) e) in cc) tells h r.0 r.1))

-- ---- a text in memory

-- what was read of a text that is not too long, written
module _ (options : Options) (text : List ℕ) (utf8 : IsUtf8 text) (fits : length text ≤ longest_text) {X : Type 0} (view : X → List ℕ) where
  pub lacking_formats : (fault : Fault) → LacksProgram options (chars text) fault → Formats view options text (Err fault)
  lacking_formats (f.Syntax e) h = ((utf8, h), fits)
  lacking_formats f.TooDeep h = ((utf8, h), fits)
  lacking_formats f.Memory h = (tt, tt)
  lacking_formats (f.Read k) h = absurd h
  lacking_formats (f.NotUtf8 n) h = absurd h
  lacking_formats f.TooLong h = absurd h
  lacking_formats (f.Write k) h = absurd h
  lacking_formats f.Position h = absurd h
  lacking_formats f.Node h = absurd h
  lacking_formats f.Options h = absurd h

  -- its layout is what is written of it
  pub layout_formats : (t : Tree) → IsProgramOf options (chars text) t → (x : X) → view x ≡ layout options t → Formats view options text (Ok x)
  layout_formats t h x w =
      (t, subst (λ (l : List ℕ). IsPrinted options text t l) (sym w) (printed {P = Unit {0}} (λ p. []) options t text None None (utf8, h) fits))

  -- or memory ran out
  pub fault_formats : (t : Tree) → IsProgramOf options (chars text) t → (Z : Type 0) (e : EmitError) (fault : Fault) → fault ≡ fault_of e → Texts {Z = Z} options t (Err e) → Formats view options text (Err fault)
  fault_formats t h Z e fault told k = subst (λ (x : Fault). Formats view options text (Err x)) (sym told) (by e k)
    where
      by : (e : EmitError) → Texts {Z = Z} options t (Err e) → Formats view options text (Err (fault_of e))
      by w.Memory k = (tt, tt)
      by w.Node k = absurd (can_be_printed options (chars text) t h k)
      by (w.Write q) k = absurd k
      by w.Position k = absurd k

-- what is answered of a text is exact
pub formats_exactly : {X : Type 0} (view : X → List ℕ) (options : Options) (text : List ℕ) (result : Result X Fault) → options.positions ≡ false → (result ≡ Err f.Options → are_refused options ≡ true)
    → Formats view options text result → SucceedsExactly options (Some text) None result
formats_exactly view options text (Ok x) off settings h = λ taken found tells.
    let p = h.1 in
    (λ _. ((p.fits, p.program.0, (h.0, p.program.1.0)), λ u spells past. no_place_past options u off past), λ _. refl)
formats_exactly view options text (Err fault) off settings h = λ taken found tells.
    (λ e. absurd (cc), λ r. absurd (by fault found (λ e. let refused = settings (ap (λ (x : Fault). Err x) e) in cc) h r.0))
  where
    by : (fault : Fault) → is_failure fault ≡ false → (fault ≡ f.Options → ⊥) → Formats view options text (Err fault) → IsReadable options text → ⊥
    by (f.NotUtf8 n) is not k r = k.0.0 r.1
    by f.TooLong is not k r = omega (arith, k.0, r.0)
    by (f.Syntax e) is not k r = faulty options (chars text) e r.2.0 k.0.1 r.2.1
    by f.TooDeep is not k r = let past = k.0.1.deeper r.2.0 r.2.1.reads in omega (arith, past, r.2.1.within)
    by (f.Read q) is not k r = k
    by f.Memory is not k r = absurd (cc)
    by (f.Write q) is not k r = k.0
    by f.Position is not k r = k.0
    by f.Node is not k r = k.0
    by f.Options is not k r = not refl

-- what was read of a text that is to be written, or why nothing is
settings_false : (o : Options) (Q : Type 0) → (are_refused o ≡ true → Q) → (Q → ⊥) → are_refused o ≡ false
settings_false o Q h none = by (are_refused o) refl
  where
    by : (b : Bool) → are_refused o ≡ b → are_refused o ≡ false
    by true e = absurd (none (h e))
    by false e = e

pub settings_taken : {X : Type 0} (o : Options) (x : X) → (are_refused o ≡ true → Ok x ≡ Err f.Options) → are_refused o ≡ false
settings_taken o x h = settings_false o (Ok x ≡ Err f.Options) h (λ e. absurd (cc))

pub length_taken : {X : Type 0} (o : Options) (x : X) (text : List ℕ) → are_refused o ≡ false → ((are_refused o ≡ false) × (longest_text < length text) → Ok x ≡ Err f.TooLong) → length text ≤ longest_text
length_taken o x text taken h = elim (cases_lt longest_text (length text)) [ inl past ↦ (let e = h (taken, past) in absurd (cc)) | inr fits ↦ fits ]

pub read_formats : {X : Type 0} (view : X → List ℕ) (o : Options) (text : List ℕ) (fault : Fault) → IsUtf8 text → (are_refused o ≡ true → fault ≡ f.Options)
    → ((are_refused o ≡ false) × (longest_text < length text) → fault ≡ f.TooLong) → (are_refused o ≡ false → length text ≤ longest_text → LacksProgram o (chars text) fault)
    → Formats view o text (Err fault)
read_formats {X} view o text fault utf8 refused long lacks = by (are_refused o) refl
  where
    told : (other : Fault) → fault ≡ other → Formats view o text (Err other) → Formats view o text (Err fault)
    told other e h = subst (λ (x : Fault). Formats view o text (Err x)) (sym e) h

    by : (b : Bool) → are_refused o ≡ b → Formats view o text (Err fault)
    by true e = told f.Options (refused e) (tt, tt)
    by false e = elim (cases_lt longest_text (length text)) [
      | inl past ↦ told f.TooLong (long (e, past)) (past, tt)
      | inr fits ↦ lacking_formats o text utf8 fits view fault (lacks e fits)
    ]
