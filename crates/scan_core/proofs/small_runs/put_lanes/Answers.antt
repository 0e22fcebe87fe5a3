use Rattle.std.proofs.Common.{◌≡◌, ◌+◌, ◌-◌, ◌++◌, ◌∙◌, ap, arith, drop, length, take}
use Rattle.std.proofs.lemmas.List.{drop-drop, length-drop, length-take-le}
use Rattle.std.proofs.lemmas.Simd.{put_chunk_whole}
use borrow.Rule.Slice.PartMut.{put_mid}
use lib.Lanes.{put_chunk}
use Rattle.scan_core.proofs.small_runs.put_lanes.Goals as goal

pub returns : goal.returns
returns c =
    let at = c.args.at in
    let xs = c.args.modules.now in
    let sixteen : at + 16 - at ≡ 16 = omega arith in
    let part : length (take 16 (drop at xs)) ≡ 16 = length-take-le 16 (drop at xs) (omega (arith, length-drop at xs, c.requires.room)) in
    let long : length (take 16 (drop at xs)) ≡ length c.args.lanes = omega (arith, part, c.fits-lanes.0) in
    record {
      put =
          ap (λ n. put_mid at n xs (put_chunk 0 (take n (drop at xs)) c.args.lanes)) sixteen
          ∙ ap (λ ys. take at xs ++ (ys ++ drop 16 (drop at xs))) (put_chunk_whole (take 16 (drop at xs)) c.args.lanes long)
          ∙ ap (λ t. take at xs ++ (c.args.lanes ++ t)) (drop-drop 16 at xs);
    }
