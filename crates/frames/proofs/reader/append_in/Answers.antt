use Rattle.std.proofs.Common.{◌≡◌, ◌+◌, ◌-◌, ◌/◌, ap, get_or, take, drop, length, ◌∙◌, arith}
use Rattle.std.proofs.lemmas.List.{length-drop, take_rest, length_push}
use Rattle.std.proofs.lemmas.Bool.Decides.{nat_tests}
use Rattle.terms.specs.Accesses.{access}
use Rattle.frames.proofs.RowLaws.{row_more, row_all}
use Rattle.frames.proofs.reader.append_in.Goals as goal

pub loop-triple-preserved : goal.loop-triple-preserved
loop-triple-preserved c =
    let bs = c.args.bytes.now in
    let (long, inv) = c.loop-triple.invariant in
    let i = c.loop-triple.triple-index in
    let n = ap length (take_rest bs 4) in
    let m = length-drop 4 bs in (
      ap length c.push.ensures.items ∙ length_push c.loop-triple.accesses.items c.access_from.result ∙ ap (λ k. k + 1) long,
      c.push.ensures.items
          ∙ row_more bs _ i (length (take (length bs - 4) (drop 4 bs)) / 3) c.loop-triple.accesses.items _ (access 0 0) c.as_chunks.ensures.front
          (omega (arith, c.as_chunks.ensures.front_len)) (omega arith) c.access_from.ensures inv,
    )

pub returns : goal.returns
returns c =
    let bs = c.args.bytes.now in
    let n = ap length (take_rest bs 4) in
    let m = length-drop 4 bs in
    let all : c.loop-triple.triple-index ≡ get_or bs 3 0 = omega (arith, c.as_chunks.ensures.front_len, c.from-count.ensures) in
    let e = row_all bs c.loop-triple.triple-index c.loop-triple.accesses.items (omega arith) c.loop-triple.invariant.1 in
    let v = c.as_slice.ensures.value ∙ e in
    grind (arith, nat_tests)
