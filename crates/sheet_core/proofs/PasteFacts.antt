-- Bytes that are put into a buffer one after the other.
use Rattle.std.proofs.Common.{◌≡◌, ◌∙◌, ◌+◌, ◌-◌, ◌*◌, ◌<◌, ◌≤◌, ℕ, List, ◌++◌, ap, ap₂, append_assoc, arith, length, length-append, replicate, sym}
use Rattle.digits_core.specs.Buffers.{pasted}
use Rattle.digits_core.proofs.Pasted.{length-pasted, pasted_more}
use Rattle.sheet_core.specs.Grids.{Cells, IsGrid}
use Rattle.sheet_core.specs.inner.Lines.{band, repeated_bytes}
use Rattle.sheet_core.proofs.BandFacts.{band_long, length-rows, rows_more}

-- ---- rows

times : (a b w : ℕ) → a + 1 ≤ b → a * w + w ≤ b * w
times a b w h = grind arith

-- there is room for one more row
pub row_fits : (k n at size : ℕ) (line : List ℕ) → k < n → at + n * length line ≤ size → at + length (repeated_bytes k line) + length line ≤ size
row_fits k n at size line less room =
    let long = length-rows k line in
    let more = times k n (length line) (omega arith) in
    omega arith

-- and it stands behind the others
pub end_more : (k at : ℕ) (line : List ℕ) → at + length (repeated_bytes k line) + length line ≡ at + length (repeated_bytes (k + 1) line)
end_more k at line =
    let next = ap length (rows_more k line) ∙ length-append (repeated_bytes k line) line in
    omega arith

pub rows_pasted : (old : List ℕ) (k at : ℕ) (line : List ℕ) → at ≤ length old
    → pasted (pasted old at (repeated_bytes k line)) (at + length (repeated_bytes k line)) line ≡ pasted old at (repeated_bytes (k + 1) line)
rows_pasted old k at line room = pasted_more old at (repeated_bytes k line) line room ∙ ap (pasted old at) (sym (rows_more k line))

-- ---- one piece after another

-- the buffer has these bytes at its front, which end here
pub record Put (old bytes now : List ℕ) (end : ℕ) : Type 0 where
  pub ends : end ≡ length bytes
  pub put : now ≡ pasted old 0 bytes

pub put_next : (old bytes now piece next : List ℕ) (end stop : ℕ) → Put old bytes now end → stop ≡ end + length piece → next ≡ pasted now end piece
    → Put old (bytes ++ piece) next stop
put_next old bytes now piece next end stop before size e = record {
  ends = size ∙ ap (λ n. n + length piece) before.ends ∙ sym (length-append bytes piece);
  put = e ∙ ap₂ (λ b n. pasted b n piece) before.put (before.ends ∙ omega arith) ∙ pasted_more old 0 bytes piece (omega arith);
}

-- as long as it was
pub length-put : (old bytes now : List ℕ) (end : ℕ) → Put old bytes now end → length bytes ≤ length old → length now ≡ length old
length-put old bytes now end h room = ap length h.put ∙ length-pasted old 0 bytes (omega arith)

-- so there is room for what still fits
pub put_fits : (old bytes now : List ℕ) (end more : ℕ) → Put old bytes now end → length bytes + more ≤ length old → end + more ≤ length now
put_fits old bytes now end more h room = let long = length-put old bytes now end h (omega arith) in let e = h.ends in omega arith

-- the dot rows of a cell above and below its bars
abbrev pub light_rows : Cells → List ℕ → List ℕ
light_rows g line = repeated_bytes g.dots (replicate (length line) 0)

-- and those of the bars
abbrev pub bar_rows : Cells → List ℕ → List ℕ
bar_rows g line = repeated_bytes (g.height - 2 * g.dots) line

-- there is room for a header and all dot rows
pub image_fits : (g : Cells) (header line out : List ℕ) → IsGrid g → length header + g.height * length line ≤ length out
    → length header + (length (light_rows g line) + (length (bar_rows g line) + length (light_rows g line))) ≤ length out
image_fits g header line out grid room =
    let fits : 2 * g.dots ≤ g.height = let f = grid.height_least in omega arith in
    let whole = band_long g line fits in
    let a = length-append (light_rows g line) (bar_rows g line ++ light_rows g line) in
    let b = length-append (bar_rows g line) (light_rows g line) in
    omega arith

-- a header and the rows above the bars, written as light rows of that length
pub light_put : (g : Cells) (header line light out above bars : List ℕ) (top end : ℕ) → light ≡ replicate (length line) 0
    → top ≡ 0 + length header → above ≡ pasted out 0 header → end ≡ top + length (repeated_bytes g.dots light) → bars
    ≡ pasted above top (repeated_bytes g.dots light)
    → Put out (header ++ light_rows g line) bars end
light_put g header line light out above bars top end same a b c d =
    let piece : repeated_bytes g.dots light ≡ light_rows g line = ap (repeated_bytes g.dots) same in
    put_next out header above (light_rows g line) bars top end (record { ends = a ∙ omega arith; put = b }) (c ∙ ap (λ r. top + length r) piece)
    (d ∙ ap (pasted above top) piece)

-- a header and all dot rows, piece by piece
pub image_put : (g : Cells) (header line out now : List ℕ) (end : ℕ) → Put out (((header ++ light_rows g line) ++ bar_rows g line) ++ light_rows g line) now end
    → now ≡ pasted out 0 (header ++ band g line)
image_put g header line out now end h =
    h.put ∙ ap (pasted out 0) (
    append_assoc (header ++ light_rows g line) (bar_rows g line) (light_rows g line)
    ∙ append_assoc header (light_rows g line) (bar_rows g line ++ light_rows g line)
    )
