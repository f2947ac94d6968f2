-- The same bytes are refused by one fault.
use Rattle.std.proofs.Common.{◌≡◌, ℕ, true, false, List, inl, inr, sym, ap, ◌∙◌, arith, chars}
use Rattle.std.proofs.lemmas.Str.{utf8_valid_len-IsValidUpTo}
use Rattle.base_token.specs.Dialect.{parts_of}
use Rattle.base_token.specs.declared.error.Error.{Error}
use Rattle.grammar_spec.specs.Judge.Early.{early_errors}
use Rattle.tree_spec.specs.Tree.{Tree}
use Rattle.run_command.specs.declared.options.Options.{Options}
use Rattle.ecma_front.specs.declared.fault.Fault.TheVariants as f
use Rattle.ecma_front.specs.Programs.{IsFaulty, IsTooDeep, IsWrong, TreeReads}
use Rattle.ecma_front.specs.Alike.{OneRefusal}

module _ (o : Options) (text : List ℕ) where
  -- reading a text comes to one thing
  faulty_not_deep : (e : Error) → IsFaulty o text e → IsTooDeep o text → ⊥
  faulty_not_deep e (inl u) d = absurd (cc (u.stops, d.stops))
  faulty_not_deep e (inr w) d = absurd (cc (w.comes, d.stops))

  -- the tree that reads it is one, and so is its first early error
  one_wrong : (d e : Error) → IsWrong o text d → IsWrong o text e → d ≡ e
  one_wrong d e v w =
      let same : v.tree ≡ w.tree = w.only v.tree v.reads in
      let lists = ap (λ (t : Tree). early_errors (parts_of o.syntax) t) same in
      cc (lists, v.errors, w.errors)

  one_error : (d e : Error) → IsFaulty o text d → IsFaulty o text e → (t : Tree) → TreeReads o t text → d ≡ e
  one_error d e (inl u) y t r = absurd (u.unread t r)
  one_error d e (inr v) (inl u) t r = absurd (u.unread t r)
  one_error d e (inr v) (inr w) t r = one_wrong d e v w

pub one_refusal : OneRefusal
one_refusal o bytes (f.NotUtf8 m) (f.NotUtf8 n) x y = sym (utf8_valid_len-IsValidUpTo bytes m x.tells.1) ∙ utf8_valid_len-IsValidUpTo bytes n y.tells.1
one_refusal o bytes (f.NotUtf8 m) f.TooLong x y = omega (arith, x.fits, y.tells)
one_refusal o bytes (f.NotUtf8 m) (f.Syntax e) x y = x.tells.0 y.tells.0
one_refusal o bytes (f.NotUtf8 m) f.TooDeep x y = x.tells.0 y.tells.0
one_refusal o bytes f.TooLong (f.NotUtf8 n) x y = omega (arith, y.fits, x.tells)
one_refusal o bytes f.TooLong f.TooLong x y = tt
one_refusal o bytes f.TooLong (f.Syntax e) x y = omega (arith, y.fits, x.tells)
one_refusal o bytes f.TooLong f.TooDeep x y = omega (arith, y.fits, x.tells)
one_refusal o bytes (f.Syntax d) (f.NotUtf8 n) x y = y.tells.0 x.tells.0
one_refusal o bytes (f.Syntax d) f.TooLong x y = omega (arith, x.fits, y.tells)
one_refusal o bytes (f.Syntax d) (f.Syntax e) x y = λ t r. one_error o (chars bytes) d e x.tells.1 y.tells.1 t r
one_refusal o bytes (f.Syntax d) f.TooDeep x y = faulty_not_deep o (chars bytes) d x.tells.1 y.tells.1
one_refusal o bytes f.TooDeep (f.NotUtf8 n) x y = y.tells.0 x.tells.0
one_refusal o bytes f.TooDeep f.TooLong x y = omega (arith, x.fits, y.tells)
one_refusal o bytes f.TooDeep (f.Syntax e) x y = faulty_not_deep o (chars bytes) e y.tells.1 x.tells.1
one_refusal o bytes f.TooDeep f.TooDeep x y = tt
one_refusal o bytes (f.Read k) e x y = let no : false ≡ true = x.kind in absurd (cc)
one_refusal o bytes f.Memory e x y = let no : false ≡ true = x.kind in absurd (cc)
one_refusal o bytes (f.Write k) e x y = let no : false ≡ true = x.kind in absurd (cc)
one_refusal o bytes f.Position e x y = let no : false ≡ true = x.kind in absurd (cc)
one_refusal o bytes f.Node e x y = let no : false ≡ true = x.kind in absurd (cc)
one_refusal o bytes f.Options e x y = let no : false ≡ true = x.kind in absurd (cc)
one_refusal o bytes d (f.Read k) x y = let no : false ≡ true = y.kind in absurd (cc)
one_refusal o bytes d f.Memory x y = let no : false ≡ true = y.kind in absurd (cc)
one_refusal o bytes d (f.Write k) x y = let no : false ≡ true = y.kind in absurd (cc)
one_refusal o bytes d f.Position x y = let no : false ≡ true = y.kind in absurd (cc)
one_refusal o bytes d f.Node x y = let no : false ≡ true = y.kind in absurd (cc)
one_refusal o bytes d f.Options x y = let no : false ≡ true = y.kind in absurd (cc)
