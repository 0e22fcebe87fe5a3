-- Labels that are laid out, as programs in other languages see them.
use Rattle.std.specs.Prelude.{◌≡◌, ◌<◌, ◌≤◌, ◌+◌, ◌++◌, ◌&&◌, ◌==◌, not, Bool, true, false, ℕ, List, Some, Ok, drop, length, map}
use Rattle.element_core.specs.Terms.{Terms}
use Rattle.sheet_core.specs.declared.kind.LabelKind.{LabelKind}
use Rattle.shop_core.specs.Drawings.{IsDrawingOf, field_number, is_itf14}
use Rattle.shop_core.specs.declared.article.Article.{Article}
use Rattle.shop_core.specs.declared.drawing.Drawing.{Drawing}
use Rattle.shop_core.specs.declared.part.Ink.{Ink}
use Rattle.shop_core.specs.declared.part.Ink.TheVariants.{Bar, Bearer, Letters}
use Rattle.shop_core.specs.declared.part.Part.{Part}
use Rattle.gs1_c.specs.Labels.{IsLabelOf, kind_numbered}
use Rattle.gs1_c.specs.Lines.{terms_of}
use Rattle.gs1_c.specs.declared.drawing.LentArticle.{LentArticle}
use Rattle.gs1_c.specs.declared.drawing.LentDrawing.{LentDrawing}
use Rattle.gs1_c.specs.declared.drawing.LentLook.{LentLook}
use Rattle.gs1_c.specs.declared.drawing.LentPart.{LentPart}

-- a number if something holds, else 0
abbrev pub flag : ℕ → Bool → ℕ
flag n true = n
flag n false = 0

-- a rectangle with no letters
abbrev pub dark_part : Part → ℕ → LentPart
dark_part p ink = record {
  left = p.left;
  top = p.top;
  width = p.width;
  height = p.height;
  field = 0;
  from = 0;
  count = 0;
  ink = ink;
  flags = 0;
  size = 0;
  letters_left = 0;
  base = 0;
  step = 0;
}

abbrev pub lent_ink : Part → Ink → LentPart
lent_ink p Bar = dark_part p 0
lent_ink p Bearer = dark_part p 1
lent_ink p (Letters run) = record {
  left = p.left;
  top = p.top;
  width = p.width;
  height = p.height;
  field = field_number run.field;
  from = run.from;
  count = run.count;
  ink = 2;
  flags = flag 1 run.is_cut + flag 2 run.is_bold + flag 4 run.is_struck;
  size = run.size;
  letters_left = run.left;
  base = run.base;
  step = run.step;
}

-- a part in numbers
abbrev pub lent_part : Part → LentPart
lent_part p = lent_ink p p.ink

-- a drawing in numbers
abbrev pub lent_drawing : Drawing → LentDrawing
lent_drawing d = record {
  count = length d.parts.items;
  nominal = d.nominal;
  width = d.width;
  height = d.height;
  top = d.top;
  end = d.end;
  left = d.left;
  dots = d.module;
}

-- the parts stand at the front if there is room for all of them, and else nothing is written
pub record AreWritten (parts : List Part) (old new : List LentPart) : Type 0 where
  pub front : length parts ≤ length old → new ≡ map lent_part parts ++ drop (length parts) old
  pub unchanged : length old < length parts → new ≡ old

-- the article that is lent, by the terms that a number says
pub record IsArticleOf (lent : LentArticle) (number : ℕ) (article : Article) (year : Terms) : Type 0 where
  pub kind : LabelKind
  pub numbered : kind_numbered lent.kind ≡ Some kind
  pub terms : terms_of number ≡ Some year
  pub label : IsLabelOf year kind lent.text.now (Ok article.label)
  pub texts : article.texts ≡ lent.texts
  pub bearers : article.has_bearers ≡ (not (lent.bearers == 0) && is_itf14 article.label)

-- what was written is a label of the article that is lent, of this size
pub record IsWritten (look : LentLook) (lent : LentArticle) (number : ℕ) (written : LentDrawing) (old new : List LentPart) : Type 0 where
  pub article : Article
  pub year : Terms
  pub drawing : Drawing
  pub lent_is : IsArticleOf lent number article year
  pub label : IsDrawingOf drawing article year
  pub wide : drawing.width ≡ look.width
  pub high : drawing.height ≡ look.height
  pub drawing_is : written ≡ lent_drawing drawing
  pub parts_are : AreWritten drawing.parts.items old new
