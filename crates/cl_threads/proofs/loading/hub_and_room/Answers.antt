use Rattle.std.proofs.Common.{◌≡◌, ◌∙◌, List, ap, subst, length}
use Rattle.rv_image_types.specs.declared.images.ImageParts.{ImageParts}
use Rattle.rv_image_types.specs.declared.images.Link.{Link}
use Rattle.cl_record.specs.Leaving.{HaveRoom}
use Rattle.cl_threads.proofs.loading.hub_and_room.Goals as goal

pub returns-clause-room : goal.returns-clause-room
returns-clause-room c =
    let links : c.as_slice-links.result.now ≡ c.args.image.now.links = c.as_slice-links.ensures ∙ ap (λ (x : ImageParts). x.links) c.parts.ensures.parts in
    subst (λ (links : List Link). HaveRoom c.args.ranks (length links) c.in_ok-lists.lists) links c.in_ok-lists.ensures
