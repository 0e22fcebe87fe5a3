use Rattle.std.proofs.Common.{◌≡◌, ◌∙◌, List, ap, refl}
use Rattle.gs1_c.specs.Titles.{TitledAis, title_in, titles_0_to_2, titles_3, titles_4, titles_7, titles_8_and_9}
use Rattle.gs1_c.proofs.TitleFacts.{title_is}
use Rattle.gs1_c.proofs.titles.title_of.Goals as goal

pub returns : goal.returns
returns c =
    let ai = c.args.ai.now in
    rw (c.unwrap_or.ensures, c.or-4.ensures, c.or-3.ensures, c.or-2.ensures, c.or.ensures)
    (title_is ai titles_0_to_2 titles_3 titles_4 titles_7 titles_8_and_9 c.title_in.result c.title_in-2.result c.title_in-3.result c.title_in-4.result
    c.title_in-5.result (c.title_in.ensures ∙ ap (λ (list : List TitledAis). title_in list ai) c.titles_0_to_2.ensures)
    (c.title_in-2.ensures ∙ ap (λ (list : List TitledAis). title_in list ai) c.titles_3.ensures)
    (c.title_in-3.ensures ∙ ap (λ (list : List TitledAis). title_in list ai) c.titles_4.ensures)
    (c.title_in-4.ensures ∙ ap (λ (list : List TitledAis). title_in list ai) c.titles_7.ensures)
    (c.title_in-5.ensures ∙ ap (λ (list : List TitledAis). title_in list ai) c.titles_8_and_9.ensures) _ refl)
