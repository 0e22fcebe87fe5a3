-- The bytes of an image that are held (`pbm/held.rt`).
use Rattle.std.specs.Prelude.{◌≡◌, ◌≤◌, ◌<◌, ◌++◌, ℕ, List, Option, length}
use Rattle.std.specs.Io.KnownBytes.{Consumes, IsAtEnd}

-- this many bytes, at most `most`, were read behind those that were held; none only at the end, or if none may be
pub record ReadsBehind (left rest : Option (List ℕ)) (old : List ℕ) (count most : ℕ) (new : List ℕ) : Type 0 where
  pub more : List ℕ
  pub held : new ≡ old ++ more
  pub long : length more ≡ count
  pub few : count ≤ most
  pub came : Consumes left rest more
  pub ended : count ≡ 0 → 0 < most → IsAtEnd rest
