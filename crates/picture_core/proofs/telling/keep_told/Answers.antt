use Rattle.std.proofs.Common.{◌≡◌, ◌∙◌, ◌+◌, ◌<◌, ◌≤◌, ℕ, List, Option, None, ap, arith, get_or, length, subst, sym, take}
use Rattle.std.specs.Prelude.{All, AllPairs}
use Rattle.std.proofs.lemmas.List.Elements.{All-more}
use Rattle.picture_core.specs.Told.{AreApartIn, IsSomeSymbolIn}
use Rattle.picture_core.specs.declared.symbol.SeenSymbol.{SeenSymbol}
use Rattle.picture_core.proofs.KeptFacts.{front_stays, pairs_more}
use Rattle.picture_core.proofs.telling.keep_told.Goals.{then-count-len+then-may_be_told, then-count-len+else-may_be_told, else-count-len}
use Rattle.picture_core.proofs.telling.keep_told.Goals as goal

pub symbols-preserved : goal.symbols-preserved
symbols-preserved c = elim c.if-count-len.branch [
  | then-count-len+then-may_be_told w ↦
      let items = c.symbols.symbols.items in
      let n = c.symbols.count in
      let value = w.as_slice.ensures.value in
      let P : Option SeenSymbol → Type 0 = IsSomeSymbolIn c.args.picture.now c.args.level c.args.year in
      let told = subst (λ (xs : List (Option SeenSymbol)). P (get_or xs n None)) value (w.may_be_told.ensures.told w.if-may_be_told.true None) in
      let apart : (k : ℕ) (d : Option SeenSymbol) → k < n → AreApartIn (get_or items k d) (get_or items n d) = λ k d low.
      subst (λ (xs : List (Option SeenSymbol)). AreApartIn (get_or xs k d) (get_or xs n d)) value (w.may_be_told.ensures.apart w.if-may_be_told.true k d low) in
      let within : n < length items = omega (arith, w.if-count-len.true, c.len.ensures.value) in
      rw (w.symbols-is, w.count-is) (record {
        few = c.symbols.invariant.few;
        within = let more : n + 1 ≤ length items = omega arith in more;
        told = All-more P items n None within c.symbols.invariant.told told;
        apart = pairs_more AreApartIn items n within c.symbols.invariant.apart apart;
      })
  | then-count-len+else-may_be_told w ↦
      let items = c.symbols.symbols.items in
      let n = c.symbols.count in
      let same : take n w.remove.new.self.items ≡ take n items = ap (take n) w.remove.ensures.items ∙ front_stays items n c.symbols.invariant.within in
      let within : n < length items = omega (arith, w.if-count-len.true, c.len.ensures.value) in
      rw (w.symbols-is, w.count-is) (record {
        few = omega (arith, w.remove.ensures.len, c.symbols.invariant.few);
        within = let e : n ≤ length w.remove.new.self.items = omega (arith, w.remove.ensures.len) in e;
        told = subst (All (IsSomeSymbolIn c.args.picture.now c.args.level c.args.year)) (sym same) c.symbols.invariant.told;
        apart = subst (AllPairs AreApartIn) (sym same) c.symbols.invariant.apart;
      })
  | else-count-len w ↦ rw (w.symbols-is, w.count-is) c.symbols.invariant
]
