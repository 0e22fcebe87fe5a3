use Rattle.std.proofs.Common.{◌≡◌, ◌∙◌, ◌+◌, ◌∷◌, [], ◌++◌, ℕ, List, ap, arith, length, length-append}
use Rattle.std.specs.Fmt.{decimal}
use Rattle.digits_core.specs.Buffers.{pasted}
use Rattle.digits_core.proofs.Pasted.{pasted_next}
use Rattle.element_core.specs.Elements.{hri}
use Rattle.scan_core.specs.Lines.{identifier}
use Rattle.gs1_c.proofs.LinesThatFit.{length-identifier, line_parts}
use Rattle.gs1_c.proofs.found.put_whole.Goals as goal

pub returns-clause-end : goal.returns-clause-end
returns-clause-end c =
    let w = c.args.window.now in
    let f : List ℕ = decimal w.first ++ 32 ∷ [] in
    let n : List ℕ = decimal w.count ++ 32 ∷ [] in
    let i : List ℕ = identifier w.carrier in
    let h : List ℕ = hri w.elements.list in
    let parts = ap length (line_parts (decimal w.first) (decimal w.count) i h) in
    let name = ap length (c.as_bytes.ensures.value ∙ c.identifier.ensures) in
    omega (
      arith,
      parts,
      name,
      length-append f n,
      length-append (f ++ n) i,
      length-append ((f ++ n) ++ i) (32 ∷ []),
      length-append (((f ++ n) ++ i) ++ 32 ∷ []) h,
      length-append ((((f ++ n) ++ i) ++ 32 ∷ []) ++ h) (10 ∷ []),
      c.put_number-count.ensures.end,
      c.put_number-carrier.ensures.end,
      c.put_at-space.ensures.end,
      c.put_at-said.ensures.end,
      c.put_hri.ensures.count,
      c.put_at.ensures.end,
    )

pub returns-clause-put : goal.returns-clause-put
returns-clause-put c =
    let w = c.args.window.now in
    let out = c.args.out.now in
    let at = c.args.at in
    let f : List ℕ = decimal w.first ++ 32 ∷ [] in
    let n : List ℕ = decimal w.count ++ 32 ∷ [] in
    let i : List ℕ = identifier w.carrier in
    let h : List ℕ = hri w.elements.list in
    let room = c.requires in
    let first = c.put_number-count.ensures in
    let second = c.put_number-carrier.ensures in
    let third = c.put_at-space.ensures in
    let fourth = c.put_at-said.ensures in
    let fifth = c.put_hri.ensures in
    let last = c.put_at.ensures in
    let same : c.as_bytes.result.now ≡ i = c.as_bytes.ensures.value ∙ c.identifier.ensures in
    let long = length-identifier w.carrier in
    let fnum = length-append f n in
    let fid = length-append (f ++ n) i in
    let fsp = length-append ((f ++ n) ++ i) (32 ∷ []) in
    let fh = length-append (((f ++ n) ++ i) ++ 32 ∷ []) h in
    let ids = ap length same in
    let put3 : c.put_at-space.new.out ≡ pasted c.put_number-carrier.new.out c.put_number-carrier.result i =
    third.put ∙ ap (pasted c.put_number-carrier.new.out c.put_number-carrier.result) same in
    let put5 : c.put_hri.new.out ≡ pasted c.put_at-said.new.out c.put_at-said.result h =
    fifth.put (omega (
      arith,
      first.few,
      second.few,
      third.end,
      fourth.end,
      fifth.few,
      c.put_number-count.auto.out,
      c.put_number-carrier.auto.out,
      c.put_at-space.auto.out,
      c.put_at-said.auto.out,
    )) in
    let two = pasted_next out c.put_number-count.new.out c.put_number-carrier.new.out at c.put_number-count.result f n (omega arith) first.end first.put
    second.put in
    let three = pasted_next out c.put_number-carrier.new.out c.put_at-space.new.out at c.put_number-carrier.result (f ++ n) i (omega arith)
    (omega (arith, second.end, first.end)) two put3 in
    let four = pasted_next out c.put_at-space.new.out c.put_at-said.new.out at c.put_at-space.result ((f ++ n) ++ i) (32 ∷ []) (omega arith)
    (omega (arith, third.end, second.end, first.end)) three fourth.put in
    let five = pasted_next out c.put_at-said.new.out c.put_hri.new.out at c.put_at-said.result (((f ++ n) ++ i) ++ 32 ∷ []) h (omega arith)
    (omega (arith, fourth.end, third.end, second.end, first.end)) four put5 in
    let six = pasted_next out c.put_hri.new.out c.put_at.new.out at (c.put_at-said.result + c.put_hri.result) ((((f ++ n) ++ i) ++ 32 ∷ []) ++ h) (10 ∷ [])
    (omega arith)
    (omega (arith, fifth.count, fourth.end, third.end, second.end, first.end)) five last.put in
    six ∙ ap (pasted out at) (line_parts (decimal w.first) (decimal w.count) i h)
