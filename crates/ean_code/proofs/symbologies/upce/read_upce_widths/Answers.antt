use Rattle.std.proofs.Common.{ℕ, List, ◌∙◌, sym, ap, subst, take, get_or, ◌-◌}
use Rattle.digits_core.specs.Digits.{digits_of}
use Rattle.digits_core.specs.Upce.{IsUpceOf}
use Rattle.ean_code.proofs.Expanded.{upce_of_text}
use Rattle.ean_code.proofs.symbologies.upce.read_upce_widths.Goals as goal

pub returns-in-None : goal.returns-in-None
returns-in-None c =
    let text : List ℕ = c.in-Some.text.items in
    let six : List ℕ = c.copy_from_slice.new.self in
    let found = c.in-Some.ensures.found in (
      digits_of text,
      found.1,
      λ gtin g h. c.in-None.ensures.none gtin (subst (λ t. IsUpceOf (digits_of six) (get_or t 6 0 - 48) gtin) (sym c.as_slice-2.ensures.value)
          (upce_of_text c.args.widths.now text gtin six found (c.copy_from_slice.ensures.after ∙ ap (take 6) c.as_slice.ensures.value) g h)),
    )
