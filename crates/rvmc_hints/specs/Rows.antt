-- The rows of the code's tables.
use Rattle.std.specs.Prelude.{ℕ, List}
use Rattle.rvmc_hints.specs.declared.words.WordForm.{WordForm}

abbrev pub form_view : WordForm → List ℕ × List ℕ
form_view row = (row.head.now, row.form.now)
