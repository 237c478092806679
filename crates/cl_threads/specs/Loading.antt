-- Ranks, hub and channels before the first turn.
use Rattle.std.specs.Prelude.{◌≡◌, ◌≤◌, List, [], length, All}
use Rattle.std.specs.VecDeque.{deque_capacity}
use Rattle.rv_image_types.specs.declared.images.ImageParts.{ImageParts}
use Rattle.rv_image_types.specs.Image.{IsLink}
use Rattle.rv_image_types.specs.Limits.{most_links}
use Rattle.cl_record.specs.Leaving.{HaveRoom}
use Rattle.cl_record.specs.Seats.{AreAt, AreFresh}
use Rattle.cl_record.specs.declared.plans.Plan.{Plan}
use Rattle.cl_threads.specs.declared.loading.Cluster.{Cluster}

-- all ranks as they are loaded, a hub that was never called, a new channel for each link, and room for what their run
-- leaves
pub record IsCluster (image : ImageParts) (plans : List Plan) (cluster : Cluster) : Type 0 where
  pub count : length cluster.seats.items ≡ image.ranks
  pub plans_are : AreAt plans cluster.seats.items
  pub loaded : AreFresh image cluster.channels.items cluster.seats.items
  pub few_links : length image.links ≤ most_links
  pub joined : All (IsLink image.ranks) image.links
  pub one_each : length cluster.channels.items ≡ length image.links
  pub links_are : cluster.hub.links ≡ image.links
  pub no_calls : cluster.hub.entries ≡ []
  pub done_empty : cluster.done.items ≡ []
  pub done_room : image.ranks ≤ deque_capacity cluster.done
  pub room : HaveRoom image.ranks (length image.links) cluster.lists
