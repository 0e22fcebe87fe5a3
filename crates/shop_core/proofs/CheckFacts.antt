-- What the check of a drawing finds, in the values that the code has, is what is promised of it.
use Rattle.std.proofs.Common.{◌≡◌, ℕ, ◌<◌, ◌≤◌, List, length, true, subst, sym}
use Rattle.std.specs.Prelude.{All, AllPairs}
use Rattle.std.specs.List.{list_all}
use Rattle.element_core.specs.Terms.{Terms}
use Rattle.shop_core.specs.Drawings.{AreBars, AreOthers, IsDrawingOf, LieApart, LiesOn, RowAnswers, TellsText, bar_count, field_number, keeps_bearers, keeps_price, keeps_run, text_of, zone_of}
use Rattle.shop_core.specs.declared.article.Article.{Article}
use Rattle.shop_core.specs.declared.drawing.Drawing.{Drawing}
use Rattle.shop_core.specs.declared.part.Field.{Field}
use Rattle.shop_core.specs.declared.part.Part.{Part}
use Rattle.shop_core.specs.declared.part.Zone.{Zone}

-- the same of these parts, this zone, this count of bars, these modules and this count of letters of the price
pub record IsRightIn (drawing : Drawing) (article : Article) (year : Terms) (parts : List Part) (z : Zone) (bars : ℕ) (modules : List ℕ) (letters : ℕ) : Type 0 where
  pub has_bars : drawing.top < drawing.end
  pub bars_on : drawing.end ≤ drawing.height
  pub zone_on : z.right ≤ drawing.width
  pub on : All (LiesOn drawing.width drawing.height) parts
  pub apart : AllPairs LieApart parts
  pub enough : bars ≤ length parts
  pub symbol : AreBars z drawing.module modules parts
  pub others : AreOthers article.has_bearers z bars parts
  pub bearers : keeps_bearers article.has_bearers z parts ≡ true
  pub runs : list_all (keeps_run article) parts ≡ true
  pub texts : (field : Field) → TellsText parts (field_number field) (text_of article field)
  pub price : keeps_price letters parts ≡ true
  pub rows : (y : ℕ) → drawing.top ≤ y → y < drawing.end → RowAnswers parts drawing.width y article.label year

pub record AreTheOnes (drawing : Drawing) (article : Article) (parts : List Part) (z : Zone) (bars : ℕ) (modules : List ℕ) (letters : ℕ) : Type 0 where
  pub parts_are : parts ≡ drawing.parts.items
  pub zone_is : z ≡ zone_of drawing article.symbol
  pub bars_are : bars ≡ bar_count article.symbol.modules
  pub modules_are : modules ≡ article.symbol.modules
  pub letters_are : letters ≡ length article.texts.price.now

pub is_right : (d : Drawing) (a : Article) (year : Terms) (ps : List Part) (z : Zone) (n : ℕ) (ms : List ℕ) (k : ℕ) → AreTheOnes d a ps z n ms k
    → IsRightIn d a year ps z n ms k → IsDrawingOf d a year
is_right d a year ps z n ms k same r =
    let all : List Part = d.parts.items in
    let zone : Zone = zone_of d a.symbol in
    let bars : ℕ = bar_count a.symbol.modules in
    let by_parts = subst (λ (x : List Part). IsRightIn d a year x z n ms k) same.parts_are r in
    let by_zone = subst (λ (x : Zone). IsRightIn d a year all x n ms k) same.zone_is by_parts in
    let by_bars = subst (λ (x : ℕ). IsRightIn d a year all zone x ms k) same.bars_are by_zone in
    let by_modules = subst (λ (x : List ℕ). IsRightIn d a year all zone bars x k) same.modules_are by_bars in
    let whole = subst (λ (x : ℕ). IsRightIn d a year all zone bars a.symbol.modules x) same.letters_are by_modules in
    record {
      has_bars = whole.has_bars;
      bars_on = whole.bars_on;
      zone_on = whole.zone_on;
      on = whole.on;
      apart = whole.apart;
      enough = whole.enough;
      bars = whole.symbol;
      others = whole.others;
      bearers = whole.bearers;
      runs = whole.runs;
      texts = whole.texts;
      price = whole.price;
      rows = whole.rows;
    }

pub right_in : (d : Drawing) (a : Article) (year : Terms) (ps : List Part) (z : Zone) (n : ℕ) (ms : List ℕ) (k : ℕ) → AreTheOnes d a ps z n ms k
    → IsDrawingOf d a year → IsRightIn d a year ps z n ms k
right_in d a year ps z n ms k same r =
    let all : List Part = d.parts.items in
    let zone : Zone = zone_of d a.symbol in
    let bars : ℕ = bar_count a.symbol.modules in
    let whole : IsRightIn d a year all zone bars a.symbol.modules (length a.texts.price.now) =
    record {
      has_bars = r.has_bars;
      bars_on = r.bars_on;
      zone_on = r.zone_on;
      on = r.on;
      apart = r.apart;
      enough = r.enough;
      symbol = r.bars;
      others = r.others;
      bearers = r.bearers;
      runs = r.runs;
      texts = r.texts;
      price = r.price;
      rows = r.rows;
    } in
    let by_letters = subst (λ (x : ℕ). IsRightIn d a year all zone bars a.symbol.modules x) (sym same.letters_are) whole in
    let by_modules = subst (λ (x : List ℕ). IsRightIn d a year all zone bars x k) (sym same.modules_are) by_letters in
    let by_bars = subst (λ (x : ℕ). IsRightIn d a year all zone x ms k) (sym same.bars_are) by_modules in
    let by_zone = subst (λ (x : Zone). IsRightIn d a year all x n ms k) (sym same.zone_is) by_bars in
    subst (λ (x : List Part). IsRightIn d a year x z n ms k) (sym same.parts_are) by_zone
