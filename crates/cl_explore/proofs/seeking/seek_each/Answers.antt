use Rattle.cl_explore.specs.How.{how_in}
use Rattle.cl_explore.proofs.Hears.{begun}
use Rattle.cl_explore.proofs.seeking.seek_each.Goals as goal

pub rest-init : goal.rest-init
rest-init g c = (
  begun (how_in c.args.course.now) c.args.course.now.image.now c.args.course.now.order.now c.args.standing.now
      c.begin.new.search c.requires.came c.in_ok-begin.ensures.begins,
  c.requires.holds,
  λ is. is,
)
