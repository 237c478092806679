use Rattle.std.proofs.Common.{◌*◌, refl, sym, ap, ◌∙◌, subst, length, map, replicate}
use Rattle.rv_image_types.specs.declared.images.ImageParts.{ImageParts}
use Rattle.cl_state.specs.Rank.{below, loaded}
use Rattle.cl_machine.specs.Keys.{ShowsAll}
use Rattle.cl_machine.specs.Boxes.{empty_box}
use Rattle.cl_replay.proofs.Boxed.{shows_loaded}
use Rattle.cl_replay.proofs.Clusters.{of_loaded}
use Rattle.cl_replay.proofs.states.ClusterState.load.Goals as goal

pub returns : goal.returns
returns c =
    let image = c.args.image.now in
    record {
      of = of_loaded image;
      ranks_are = sym (c.in_ok-load_ranks.ensures
          ∙ ap (λ (p : ImageParts). map (loaded image) (below p.ranks)) c.parts-parts.ensures.parts);
      hub_stands = c.in_ok-new.ensures;
      clock_is = refl;
      boxes_show =
          let count = ap (λ links. length links) (c.as_slice-links.ensures
          ∙ ap (λ (p : ImageParts). p.links) c.parts-parts.ensures.parts) in
          subst (λ left. ShowsAll image left (replicate (16 * length image.links) empty_box))
          (sym c.in_ok-no_boxes.ensures)
          (shows_loaded image (length c.as_slice-links.result.now) count);
    }
