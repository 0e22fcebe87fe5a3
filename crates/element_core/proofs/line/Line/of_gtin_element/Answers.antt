use Rattle.std.proofs.Common.{◌≡◌, [], ◌∷◌, ap, arith, length, refl}
use Rattle.digits_core.specs.Digits.{ascii_of}
use Rattle.element_core.specs.Elements.{canonical, gtin_entry}
use Rattle.element_core.proofs.GtinLemmas.{digits_ascii, gtin_elements}
use Rattle.element_core.proofs.line.Line.of_gtin_element.Goals as goal

pub push_bytes-requires-clause-ascii : goal.push_bytes-requires-clause-ascii
push_bytes-requires-clause-ascii c = let digits = c.digits14.ensures in rw digits.value (digits_ascii c.args.gtin.now digits.digits)

pub returns-clause-reads : goal.returns-clause-reads
returns-clause-reads c = λ year.
    let digits = c.digits14.ensures in
    let gtin = c.args.gtin.now in
    let long : length (ascii_of gtin) ≡ 14 = omega (arith, ap length digits.value) in
    gtin_elements year gtin (canonical (gtin_entry gtin ∷ [])) (gtin_entry gtin ∷ []) digits.digits digits.checked long refl refl
