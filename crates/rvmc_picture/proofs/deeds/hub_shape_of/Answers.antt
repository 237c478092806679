use Rattle.std.proofs.Common.{◌∙◌, ap, List, Option, Some}
use Rattle.std.specs.List.{list_any}
use Rattle.std.specs.Option.{is_some}
use Rattle.mp_types.specs.declared.messages.Message.{Message}
use Rattle.rvmc_draw.specs.declared.drawing.Shape.{Shape}
use Rattle.rvmc_picture.specs.Deeds.{all_shape}
use Rattle.rvmc_picture.proofs.deeds.hub_shape_of.Goals as goal

pub returns-in-AllGot : goal.returns-in-AllGot
returns-in-AllGot c =
    rw c.in-AllGot.is
    (ap (λ (shape : Shape). Some shape)
    (c.all_shape_of.ensures
    ∙ ap (λ (gots : List (Option Message)). all_shape (list_any (λ (got : Option Message). is_some got) gots))
    c.as_slice.ensures))
