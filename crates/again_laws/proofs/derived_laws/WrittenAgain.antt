-- The law, from the two layouts.
use Rattle.std.proofs.Common.{◌≡◌, false, sym, subst}
use Rattle.tree_spec.specs.Tree.{Tree}
use Rattle.print_layout_spec.specs.declared.look.Look.{Look}
use Rattle.print_layout_spec.specs.declared.look.Stand.TheVariants.{Alone}
use Rattle.print_layout_spec.specs.Layout.{laid}
use Rattle.print_layout_laws.proofs.Alike.{Alike}
use Rattle.print_layout_laws.proofs.LawsLemmas.{written_alike}
use Rattle.again_laws.specs.Tokens.Means.{Known}
use Rattle.again_laws.specs.Derived.Redo.{Plain, Redone}
use Rattle.again_laws.specs.Derived.Every.{every}
use Rattle.again_laws.specs.Derived.Read.{Read}
use Rattle.again_laws.specs.Derived.Written.{leaves_of}
use Rattle.again_laws.specs.DerivedLaws.BytesLaws.{WritesAgain, WrittenAgain}
use Rattle.again_laws.proofs.derived_laws.LaidOutAgain.{first, second, laid_again}

module _ (one two : Look) (w : WritesAgain one two) where
  one_is : first one.style.target one.style.inline_script w.modern one.style.minify two.style.minify w.short one.omits_last one.asserts two.omits_last two.asserts ≡ one
  one_is = λ k. record {
    style = record { target = one.style.target; minify = one.style.minify; ascii_only = sym w.wide k; inline_script = one.style.inline_script };
    omits_last = one.omits_last;
    asserts = one.asserts;
  }

  two_is : second one.style.target one.style.inline_script w.modern one.style.minify two.style.minify w.short one.omits_last one.asserts two.omits_last two.asserts ≡ two
  two_is = λ k. record {
    style = record { target = sym w.edition k; minify = two.style.minify; ascii_only = sym w.wide_again k; inline_script = sym w.page k };
    omits_last = two.omits_last;
    asserts = two.asserts;
  }

  alike_again : (t u : Tree) → every (Read Known) Plain t → Redone (leaves_of one) Plain t u → Alike false (laid two Alone u) (laid two Alone t)
  alike_again t u h s = subst (λ (l : Look). Alike false (laid l Alone u) (laid l Alone t)) two_is
      (laid_again one.style.target one.style.inline_script w.modern one.style.minify two.style.minify w.short one.omits_last one.asserts two.omits_last two.asserts t u h (subst (λ (l : Look). Redone (leaves_of l) Plain t u) (sym one_is) s))

pub written_again : WrittenAgain
written_again one two w t u h s = written_alike two u t (alike_again one two w t u h s)
