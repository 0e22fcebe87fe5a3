-- Element strings as messages spell them.
use Rattle.std.specs.Prelude.{◌==◌, ℕ, List, drop, map, if◌then◌else◌}
use Rattle.message_core.specs.Heads.{begins_separated}

-- `^` stands for the separator, byte 29
abbrev pub spelled : List ℕ → List ℕ
spelled text = map (λ b. if b == 94 then 29 else b) text

-- a separator that begins the text is passed over
abbrev pub without_separator : List ℕ → List ℕ
without_separator text = if begins_separated text then drop 1 text else text
