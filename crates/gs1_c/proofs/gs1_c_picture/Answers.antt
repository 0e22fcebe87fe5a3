use Rattle.std.proofs.Common.{◌∙◌, length, subst, ℕ}
use Rattle.std.specs.Prelude.{Option}
use Rattle.picture_core.specs.Pictures.{Greys}
use Rattle.gs1_c.specs.Pictures.{AreReadLinesPut, given_level}
use Rattle.gs1_c.proofs.LinesByTerms.{under}
use Rattle.gs1_c.proofs.gs1_c_picture.Goals as goal

pub returns : goal.returns
returns c =
    let put = c.put_picture in
    let words = length c.args.words.now in
    let widths = length c.args.widths.now in
    let p : Greys = record { values = c.args.grey.now; width = c.args.width; height = c.args.height; stride = c.args.stride } in
    let read = subst (λ (level : Option ℕ). AreReadLinesPut p level c.in-Some.terms words widths c.args.out.now put.new.out put.result)
    c.given_level.ensures put.ensures in
    under _ c.in-Some.terms _ (λ t. AreReadLinesPut p (given_level c.args.level) t words widths c.args.out.now put.new.out put.result) c.in-Some.ensures read
