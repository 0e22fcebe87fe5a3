-- What is computed over the whole table.
use Rattle.std.proofs.Common.{◌≡◌, true, [], None, refl}
use Rattle.std.specs.List.{list_all}
use Rattle.element_core.specs.Table.{families, first_families, last_families, every_row, CountsFirstRows, CountsRows, NoAiBeginsAnother, FirstDigitsDecide, PartsHaveOneLength, row_at}
use Rattle.element_core.specs.inner.Table.{begins_with_digit, has_few_parts, is_long_enough, is_of_digits, is_short_ai, is_timed_exactly}
use Rattle.element_core.proofs.RowsApart.{families_apart, rows_apart}

-- family by family, which is far less than row by row
apart : families_apart families ≡ true
unfolding families first_families last_families
apart = refl

pub no_ai_begins_another : NoAiBeginsAnother
unfolding every_row
no_ai_begins_another = rows_apart families apart

pub first_digits_decide : FirstDigitsDecide
unfolding families first_families last_families every_row
first_digits_decide = refl

pub each_begins_with_digit : list_all (λ row. begins_with_digit row.ai) every_row ≡ true
unfolding families first_families last_families every_row
each_begins_with_digit = refl

pub none_begins_nothing : row_at [] ≡ None
unfolding families first_families last_families every_row
none_begins_nothing = refl

pub each_is_long_enough : list_all is_long_enough every_row ≡ true
unfolding families first_families last_families every_row
each_is_long_enough = refl

pub each_is_short : list_all is_short_ai every_row ≡ true
unfolding families first_families last_families every_row
each_is_short = refl

pub each_has_few_parts : list_all has_few_parts every_row ≡ true
unfolding families first_families last_families every_row
each_has_few_parts = refl

pub each_is_of_digits : list_all is_of_digits every_row ≡ true
unfolding families first_families last_families every_row
each_is_of_digits = refl

pub each_is_timed_exactly : list_all is_timed_exactly every_row ≡ true
unfolding families first_families last_families every_row
each_is_timed_exactly = refl

pub counts_first_rows : CountsFirstRows
unfolding families first_families last_families every_row
counts_first_rows = refl

pub counts_rows : CountsRows
unfolding families first_families last_families every_row
counts_rows = (refl, refl)

pub parts_have_one_length : PartsHaveOneLength
unfolding families first_families last_families every_row
parts_have_one_length = refl
