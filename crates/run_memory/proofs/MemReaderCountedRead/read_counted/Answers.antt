use Rattle.std.proofs.Common.{rules, arith, ◌≡◌, ◌≤◌, ◌-◌, min, ℕ, List, length, take, drop, ap, ◌∙◌, length-take, length-drop, length-take-le}
use Rattle.run_memory.proofs.Pieces.{piece_read, end_read}
use Rattle.run_memory.proofs.MemReaderCountedRead.read_counted.Goals as goal

pub returns-clause-bytes : goal.returns-clause-bytes
returns-clause-bytes c =
    let items = c.args.self.now.bytes.items in
    let at = c.args.self.now.at in
    let n = c.min-count.result in
    let within : at ≤ length items = search rules in
    let copied : c.copy_from_slice.new.self ≡ take n (take (length items - at) (drop at items)) =
    c.copy_from_slice.ensures.after ∙ ap (λ (l : List ℕ). take n (take (length l - at) (drop at l))) c.deref.ensures.value in
    let given = c.deref.result.now in
    let same : length given ≡ length items = ap (λ (l : List ℕ). length l) c.deref.ensures.value in
    let left : length (take (length given - at) (drop at given)) ≡ length items - at =
    omega (arith, same, length-take (length given - at) (drop at given), length-drop at given) in
    let is : n ≡ min (length items - at) (min (length c.args.buf.now) c.args.self.now.piece) =
    c.min-count.ensures ∙ ap (λ (k : ℕ). min k c.min.result) left ∙ ap (λ (k : ℕ). min (length items - at) k) c.min.ensures in
    let fits : n ≤ length items - at = omega arith in
    let long : length c.copy_from_slice.new.self ≡ n =
    ap (λ (l : List ℕ). length l) copied ∙ length-take-le n (take (length items - at) (drop at items)) (omega (arith, length-take (length items - at) (drop at items), length-drop at items)) in (
      piece_read items c.args.buf.now c.copy_from_slice.new.self at n within fits copied,
      λ none room. end_read items c.args.buf.now c.copy_from_slice.new.self at n c.args.self.now.piece within (search rules) is long none room,
    )
