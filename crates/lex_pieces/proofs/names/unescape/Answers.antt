use Rattle.std.proofs.Common.{refl, arith, string_bytes}
use Rattle.std.specs.Str.{chars}
use Rattle.lex_pieces.proofs.NameParts.{made_none, made_more}
use Rattle.lex_pieces.proofs.names.unescape.Goals as goal

pub loop-more-init : goal.loop-more-init
loop-more-init c = (
  c.utf8.rest,
  omega arith,
  made_none (chars c.args.own.now) c.args.own.now (chars c.args.rest.now) (string_bytes c.in_ok-made.made) c.is_empty-first.result c.utf8.own refl c.in_ok-made.ensures.copy c.requires.ends c.is_empty-first.ensures,
)

pub loop-more-preserved : goal.loop-more-preserved
loop-more-preserved c = (
  c.split_name_part.ensures.texts.1,
  omega (arith, c.in-Some.ensures.rest.1, c.in_ok-c.ensures.rest.1, c.split_name_part.ensures.lengths),
  made_more (chars c.args.own.now) (chars c.args.rest.now) (string_bytes c.loop-more.made) (string_bytes c.put.new.made) (chars c.loop-more.left.now) (chars c.in_ok-c.after.now)
      (chars c.split_name_part.result.0.now) (chars c.split_name_part.result.1.now) c.loop-more.first c.in_ok-c.c c.loop-more.invariant.2 c.in_ok-c.ensures.escape
      c.split_name_part.ensures.run c.split_name_part.ensures.after c.in_ok-put.ensures.put,
)
