use Rattle.cl_record.specs.Wiring.{sides_in}
use Rattle.cl_record.proofs.Elements.{link_at}
use Rattle.cl_record.proofs.Wires.{new_sides}
use Rattle.cl_record.proofs.seats.Seat.load.Goals as goal

pub load_rank-requires : goal.load_rank-requires
load_rank-requires c =
    let image = c.args.image.now in
    new_sides image.version image.links c.requires.ends.0 c.args.rank (sides_in c.args.ends) c.requires.ends.1
    (λ link l at. (link_at image.ranks image.links link l c.requires.joined at).differ)
