-- No number and no name of a call stands twice.
use Rattle.std.proofs.Common.{map, refl}
use Rattle.std.specs.Prelude.{nat_eq}
use Rattle.std.specs.List.{IsDistinct}
use Rattle.std.specs.Str.{bytes_eq}
use Rattle.std.proofs.lemmas.Cmp.{nat_eq_equiv, nat_list_eq_equiv}
use Rattle.std.proofs.lemmas.Map.Made.{IsDistinct-from_count}
use Rattle.cl_calls.specs.Names.{call_names}

pub numbers_once : IsDistinct nat_eq (map (λ row. row.0) call_names)
numbers_once = IsDistinct-from_count nat_eq_equiv _ refl

pub names_once : IsDistinct bytes_eq (map (λ row. row.1) call_names)
names_once = IsDistinct-from_count nat_list_eq_equiv _ refl
