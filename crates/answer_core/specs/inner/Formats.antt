-- Elements one after another in a line.
use Rattle.std.specs.Prelude.{ℕ, List, [], ◌∷◌, ◌++◌}
use Rattle.element_core.specs.Elements.{Entry}
use Rattle.element_core.specs.declared.form.Form.{Form}
use Rattle.element_core.specs.declared.form.Form.TheVariants as form

-- what stands before the first element
abbrev pub first_opening : Form → List ℕ
first_opening form.HumanReadable = 40 ∷ []
first_opening form.Pairs = []

-- what stands before each element after it
abbrev pub next_opening : Form → List ℕ
next_opening form.HumanReadable = 40 ∷ []
next_opening form.Pairs = 9 ∷ []

-- what stands between an AI and its value
abbrev pub sign_of : Form → ℕ
sign_of form.HumanReadable = 41
sign_of form.Pairs = 61

-- elements behind this opening
abbrev pub opened : Form → List ℕ → List Entry → List ℕ
opened form opening [] = []
opened form opening (e ∷ es) = opening ++ (e.ai ++ (sign_of form ∷ e.value)) ++ opened form (next_opening form) es
