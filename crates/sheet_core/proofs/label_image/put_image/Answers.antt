use Rattle.std.proofs.Common.{◌≡◌, ◌≤◌, ◌<◌, ◌+◌, ◌-◌, ◌*◌, ◌++◌, ◌∙◌, ℕ}
use Rattle.std.proofs.Common.{List, ap, arith, length, length-append, replicate, le_of_lt, mul-le-mul_right, subst, sym}
use Rattle.std.proofs.lemmas.List.{length-replicate}
use Rattle.sheet_core.specs.Bitmaps.{stride}
use Rattle.sheet_core.specs.Grids.{Cells}
use Rattle.sheet_core.specs.inner.Lines.{band, repeated_bytes}
use Rattle.digits_core.specs.Buffers.{pasted}
use Rattle.sheet_core.proofs.BandFacts.{length-rows}
use Rattle.sheet_core.proofs.PasteFacts.{Put, bar_rows, image_fits, image_put, light_put, light_rows, put_fits, put_next}
use Rattle.sheet_core.proofs.label_image.put_image.Goals.{After-put_rows-bars}
use Rattle.sheet_core.proofs.label_image.put_image.Goals as goal

-- the numbers of the grid
abbrev cells : After-put_rows-bars → Cells
cells c =
    let i = c.grid.inside in record { dots = i.module_dots; width = i.cell_width; height = i.cell_height; columns = i.columns; rows = i.rows }

-- what is known once the rows above the bars are put
record Begun (c : After-put_rows-bars) : Type 0 where
  fits : length c.args.header.now + (length (light_rows (cells c) c.args.line.now) +
      (length (bar_rows (cells c) c.args.line.now) + length (light_rows (cells c) c.args.line.now))) ≤ length c.args.out.now
  zeros : c.light_line-light.result.items ≡ replicate (length c.args.line.now) 0
  bars : Put c.args.out.now (c.args.header.now ++ light_rows (cells c) c.args.line.now) c.put_rows-bars.new.out c.put_rows-bars.result

begun : (c : After-put_rows-bars) → Begun c
begun c =
    let i = c.grid.inside in
    let g : Cells = cells c in
    let header : List ℕ = c.args.header.now in
    let line : List ℕ = c.args.line.now in
    let out : List ℕ = c.args.out.now in
    let wide : stride (i.columns * i.cell_width) ≡ length line = ap (λ (g : Cells). stride (g.columns * g.width)) c.grid.view_is ∙ sym c.requires.long in
    let zeros : c.light_line-light.result.items ≡ replicate (length line) 0 = c.light_line-light.ensures ∙ ap (λ n. replicate {A = ℕ} n 0) wide in
    let high : i.cell_height ≡ c.args.grid.now.height = ap (λ (g : Cells). g.height) c.grid.view_is in
    record {
      fits = image_fits g header line out c.grid.invariant (subst (λ h. length header + h * length line ≤ length out) (sym high) c.requires.room);
      zeros = zeros;
      bars = light_put g header line c.as_slice.result.now out c.put_at-above.new.out c.put_rows-bars.new.out c.put_at-above.result c.put_rows-bars.result
          (c.as_slice.ensures.value ∙ zeros)
          c.put_at-above.ensures.end c.put_at-above.ensures.put c.put_rows-bars.ensures.end c.put_rows-bars.ensures.put;
    }

front_fits : (h n o : ℕ) → h + n ≤ o → 0 + h ≤ o
front_fits h n o e = omega arith

-- there is room for some of the rows
rows_fit : (r h m n len out new high hi : ℕ) → r ≡ 0 + h → len ≡ n → 2 * m < high → high ≡ hi → h + hi * n ≤ out → new ≡ out → r + m * len ≤ new
rows_fit r h m n len out new high hi end long few same room kept =
    let most : m * n ≤ hi * n = mul-le-mul_right n (omega arith) in
    rw long (omega (arith, most))

pub put_rows-below-requires : goal.put_rows-below-requires
put_rows-below-requires c =
    let i = c.grid.inside in
    let b = begun (goal.at.put_rows-below-requires c).After-put_rows-bars in
    let g : Cells = cells (goal.at.put_rows-below-requires c).After-put_rows-bars in
    let header : List ℕ = c.args.header.now in
    let line : List ℕ = c.args.line.now in
    let fits = b.fits in
    let long = length-rows (i.cell_height - 2 * i.module_dots) line in
    let front = length-append header (light_rows g line) in
    put_fits c.args.out.now (header ++ light_rows g line) c.put_rows-bars.new.out c.put_rows-bars.result ((i.cell_height - 2 * i.module_dots) * length line)
    b.bars (omega (arith, long, front, fits))

pub put_rows-requires : goal.put_rows-requires
put_rows-requires c =
    let i = c.grid.inside in
    let b = begun (goal.at.put_rows-requires c).After-put_rows-bars in
    let g : Cells = cells (goal.at.put_rows-requires c).After-put_rows-bars in
    let header : List ℕ = c.args.header.now in
    let line : List ℕ = c.args.line.now in
    let below = put_next c.args.out.now (header ++ light_rows g line) c.put_rows-bars.new.out (bar_rows g line) c.put_rows-below.new.out c.put_rows-bars.result
    c.put_rows-below.result
    b.bars c.put_rows-below.ensures.end c.put_rows-below.ensures.put in
    let light : List ℕ = c.as_slice-2.result.now in
    let fits = b.fits in
    let same : length (light_rows g line) ≡ i.module_dots * length light =
    ap (λ l. length (repeated_bytes i.module_dots l)) (sym (c.as_slice-2.ensures.value ∙ b.zeros)) ∙ length-rows i.module_dots light in
    let front = length-append header (light_rows g line) in
    let middle = length-append (header ++ light_rows g line) (bar_rows g line) in
    put_fits c.args.out.now ((header ++ light_rows g line) ++ bar_rows g line) c.put_rows-below.new.out c.put_rows-below.result (i.module_dots * length light)
    below (omega (arith, same, front, middle, fits))

pub returns : goal.returns
returns c =
    let i = c.grid.inside in
    let b = begun (goal.at.returns c).After-put_rows-bars in
    let g : Cells = cells (goal.at.returns c).After-put_rows-bars in
    let header : List ℕ = c.args.header.now in
    let line : List ℕ = c.args.line.now in
    let out : List ℕ = c.args.out.now in
    let below = put_next c.args.out.now (header ++ light_rows g line) c.put_rows-bars.new.out (bar_rows g line) c.put_rows-below.new.out c.put_rows-bars.result
    c.put_rows-below.result
    b.bars c.put_rows-below.ensures.end c.put_rows-below.ensures.put in
    let piece : repeated_bytes i.module_dots c.as_slice-2.result.now ≡ light_rows g line =
    ap (repeated_bytes i.module_dots) (c.as_slice-2.ensures.value ∙ b.zeros) in
    let all = put_next out ((header ++ light_rows g line) ++ bar_rows g line) c.put_rows-below.new.out (light_rows g line) c.put_rows.new.out
    c.put_rows-below.result c.put_rows.result
    below
    (c.put_rows.ensures.end ∙ ap (λ (r : List ℕ). c.put_rows-below.result + length r) piece)
    (c.put_rows.ensures.put ∙ ap (pasted c.put_rows-below.new.out c.put_rows-below.result) piece) in
    subst (λ (k : Cells). c.put_rows.new.out ≡ pasted out 0 (header ++ band k line)) c.grid.view_is
    (image_put g header line out c.put_rows.new.out c.put_rows.result all)

pub overflow_sub-bar_rows : goal.overflow_sub-bar_rows
overflow_sub-bar_rows c = le_of_lt c.grid.invariant.height_least

pub put_at-above-requires : goal.put_at-above-requires
put_at-above-requires c = front_fits _ _ _ c.requires.room

pub put_rows-bars-requires : goal.put_rows-bars-requires
put_rows-bars-requires c =
    let i = c.grid.inside in
    let zeros : length c.as_slice.result.now ≡ stride (i.columns * i.cell_width) = ap length (c.as_slice.ensures.value ∙ c.light_line-light.ensures)
    ∙ length-replicate (stride (i.columns * i.cell_width)) 0 in
    let wide : stride (i.columns * i.cell_width) ≡ length c.args.line.now = ap (λ (g : Cells). stride (g.columns * g.width)) c.grid.view_is
    ∙ sym c.requires.long in
    rows_fit c.put_at-above.result (length c.args.header.now) i.module_dots (length c.args.line.now) (length c.as_slice.result.now)
    (length c.args.out.now) (length c.put_at-above.new.out) i.cell_height c.args.grid.now.height
    c.put_at-above.ensures.end (zeros ∙ wide) c.grid.invariant.height_least (ap (λ (g : Cells). g.height) c.grid.view_is) c.requires.room
    c.put_at-above.auto.out
