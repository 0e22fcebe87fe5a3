-- The lanes of a world (`lane_held`), by their places: for the calls of `World`.
use Rattle.std.proofs.Common.{◌≡◌, ℕ, ◌<◌, List, map, length, length-set, get_or, set, Some, sym, ap, ◌∙◌, refl, false}
use Rattle.std.specs.List.{slice_get}
use Rattle.std.proofs.lemmas.List.{map-set, length-map, get_or_read}
use Rattle.std.proofs.lemmas.Option.{slice_get_read}
use Rattle.std.proofs.Math.Seq.{map-set_same}
use Rattle.lane_core.specs.declared.lane.Lane.{Lane}
use Rattle.lane_core.specs.Contents.{LaneContents}
use Rattle.lane_core.specs.Holding.{lane_held}
use Rattle.lane_core.proofs.ListFacts.{get_map}

-- what is held at a place
pub lane_at : (lanes : List Lane) (i : ℕ) (x : Lane) → i < length lanes → x ≡ get_or lanes i x → slice_get (map lane_held lanes) i ≡ Some (lane_held x)
lane_at lanes i x less is = get_map lane_held lanes i x (slice_get_read lanes (length lanes) i x refl less is)

-- two readings of one place
pub same_lane : (lanes : List Lane) (i : ℕ) (x y : Lane) → i < length lanes → x ≡ get_or lanes i x → y ≡ get_or lanes i y → x ≡ y
same_lane lanes i x y less a b = get_or_read lanes i x less a y ∙ sym b

pub open_still : (lanes : List Lane) (i : ℕ) (x y : Lane) → i < length lanes → x ≡ get_or lanes i x → y ≡ get_or lanes i y → y.closed ≡ false → x.closed ≡ false
open_still lanes i x y less a b open_ = ap (λ (z : Lane). z.closed) (same_lane lanes i x y less a b) ∙ open_

-- as many as the world has
pub count_held : (lanes : List Lane) → length (map lane_held lanes) ≡ length lanes
count_held lanes = length-map lanes lane_held

-- a lane that holds the same
pub lane_same : (lanes : List Lane) (i : ℕ) (x y : Lane) → x ≡ get_or lanes i x → lane_held y ≡ lane_held x → map lane_held (set lanes i y)
    ≡ map lane_held lanes
lane_same lanes i x y is same = map-set_same lane_held lanes i y x (same ∙ ap lane_held is)

-- a lane that holds something else
pub lane_put : (lanes : List Lane) (i : ℕ) (y : Lane) (h : LaneContents) → lane_held y ≡ h → map lane_held (set lanes i y) ≡ set (map lane_held lanes) i h
lane_put lanes i y h is = map-set lane_held lanes i y ∙ ap (set (map lane_held lanes) i) is

-- as many lanes, whatever one of them is
pub count_put : (lanes : List Lane) (i : ℕ) (x : Lane) → length (map lane_held (set lanes i x)) ≡ length (map lane_held lanes)
count_put lanes i x = count_held (set lanes i x) ∙ (length-set lanes i x ∙ sym (count_held lanes))
