use Rattle.std.proofs.Common.{◌≡◌, ℕ, ◌+◌, ◌-◌, List, ◌++◌, length, take, drop, sym, ap, subst, ◌∙◌}
use Rattle.std.proofs.Math.Seq.{take-add}
use Rattle.std.specs.Io.KnownBytes.{Appends}
use Rattle.print_blocks.proofs.gather.Parts.{across}
use Rattle.print_blocks.proofs.gather.Gather.write_across.Goals as goal

pub returns-clause-bytes : goal.returns-clause-bytes
returns-clause-bytes g c =
    let bytes = c.args.bytes.now in
    let front = c.split_at.result.0.now in
    let more = c.min-more.result in
    let n = 4096 - c.len-kept.result in
    let piece = take more c.split_at.result.1.now in
    let cut = c.split_at.ensures in
    let out : Appends (g.W.Write.contents c.args.self.now.wr) (g.W.Write.contents c.send-sent.new.wr) (take c.send-sent.result.0 c.extend.new.block.items) =
    subst (λ (l : List ℕ). Appends (g.W.Write.contents c.args.self.now.wr) (g.W.Write.contents c.send-sent.new.wr) (take c.send-sent.result.0 l)) c.as_slice.ensures.value c.send-sent.ensures.bytes in
    let whole : take (length front + more) bytes ≡ front ++ piece =
    ap (λ k. take (k + more) bytes) cut.front_len ∙ take-add n more bytes ∙ ap (λ l. l ++ take more (drop n bytes)) (sym cut.front) ∙ ap (λ l. front ++ take more l) (sym cut.back) in
    across _ _ c.args.self.now.block.items front c.extend.new.block.items c.extend-2.new.block.items piece _ c.send-sent.result.0
    c.extend.ensures.items out (c.extend-2.ensures.items ∙ ap (λ l. l ++ piece) c.drop_front-2.ensures.items) (sym whole)
