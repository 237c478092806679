-- Ranks with one hart each, wherever turns lead.
use Rattle.std.specs.Prelude.{ℕ, ◌≡◌, Bool, List, true}
use Rattle.std.proofs.Common.{refl, sym, ◌∙◌, arith}
use Rattle.std.proofs.lemmas.Option.{slice_get_within}
use Rattle.rv_image_types.specs.declared.images.ImageParts.{ImageParts}
use Rattle.cl_deadlock_laws.proofs.Reached.{comes_reached, same_harts}
use Rattle.cl_order_laws.specs.Closed.{Node}
use Rattle.cl_rests.specs.Telling.{HaveOneHart}
use Rattle.cl_explore.specs.How.{How, MayBegin, MayWaitIn, at_once, by_contest, how_of, plainly, waits_in}
use Rattle.cl_explore.specs.declared.course.Way.{Way}
use Rattle.cl_explore.specs.declared.course.Way.TheVariants as ways
use Rattle.cl_contests.specs.declared.patterns.AskedBy.{AskedBy}
use Rattle.cl_explore.specs.Kept.{IsFound}
use Rattle.cl_explore.proofs.Lists.{at_inside}

-- where the image says so
pub one_of_image : (image : ImageParts) (order : List ℕ) (node : Node) → IsFound image order node → image.harts ≡ 1
    → HaveOneHart node.cluster
one_of_image image order node found harts r rank there =
    let v = (comes_reached image found.0 node.cluster (found.1).run).alone r rank there in
    same_harts image r v.0 rank v.1 ∙ harts

-- where ranks have one each at another node: as many are loaded for both
pub one_of_other : (image : ImageParts) (order : List ℕ) (other node : Node) → IsFound image order other
    → IsFound image order node → HaveOneHart other.cluster → HaveOneHart node.cluster
one_of_other image order other node there_too found one r rank there =
    let here = comes_reached image found.0 node.cluster (found.1).run in
    let first = comes_reached image there_too.0 other.cluster (there_too.1).run in
    let inside = slice_get_within node.cluster.ranks r rank there in
    let x = at_inside other.cluster.ranks r (omega (arith, inside, here.count, first.count)) in
    let v = here.alone r rank there in
    let w = first.alone r x.0 x.1 in
    same_harts image r v.0 rank v.1 ∙ sym (same_harts image r w.0 x.0 w.1) ∙ one r x.0 x.1

-- ---- where standard sends may wait for their receives

pub may_wait_in : (how : How) → waits_in how ≡ true → MayWaitIn how
may_wait_in (by_contest contest) waits = waits
may_wait_in at_once waits = absurd (cc)
may_wait_in plainly waits = absurd (cc)

pub one_at_start : (how : How) (order : List ℕ) (start : Node) → waits_in how ≡ true → MayBegin how order start
    → HaveOneHart start.cluster
one_at_start (by_contest contest) order start waits begins = (begins.single).one
one_at_start at_once order start waits begins = absurd (cc)
one_at_start plainly order start waits begins = absurd (cc)

-- turns that nobody contests go first then
pub first_way : (goes : Way) (may_wait : Bool) (kept : List AskedBy) → waits_in (how_of goes may_wait kept) ≡ true
    → goes ≡ ways.First
first_way ways.First may_wait kept waits = refl
first_way ways.AtOnce may_wait kept waits = absurd (cc)
first_way ways.Plainly may_wait kept waits = absurd (cc)
