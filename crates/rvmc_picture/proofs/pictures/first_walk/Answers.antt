use Rattle.std.proofs.Common.{[], subst}
use Rattle.rvmc_draw.specs.Walks.{Scope}
use Rattle.rvmc_draw.specs.Held.{IsWalked}
use Rattle.rvmc_picture.proofs.Told.{scope_same}
use Rattle.rvmc_picture.proofs.pictures.first_walk.Goals as goal

pub returns : goal.returns
returns c =
    let sizes = c.sizes_of-sizes.ensures in
    record {
      walked = subst (λ (scope : Scope). IsWalked scope [] c.in_ok-walk.walk)
          (scope_same c.args.image.now c.sizes_of-sizes.result c.args.view sizes.ranks sizes.harts sizes.links)
          c.in_ok-walk.ensures;
    }
