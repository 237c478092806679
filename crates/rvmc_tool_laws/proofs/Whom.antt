-- Whom the text names.
use Rattle.std.proofs.Common.{ℕ, ◌≡◌, Bool, ap, refl}
use Rattle.std.specs.Prelude.{Option, Some, None}
use Rattle.rv_image_types.specs.declared.images.Link.{Link}
use Rattle.mp_match.specs.declared.posts.Post.{Post}
use Rattle.mp_match.specs.declared.posts.Post.TheVariants.{Send, Receive, Claim}
use Rattle.mp_transfers.specs.Inits.{is_to}
use Rattle.mp_wait_laws.specs.Waits.{could_pair, is_from}
use Rattle.rvmc_inspect.specs.declared.awaited.Wait.{Wait}
use Rattle.rvmc_inspect.specs.declared.awaited.Wait.TheVariants as wait
use Rattle.rvmc_tool_laws.specs.Waits.{NamedLaw, is_named}
use Rattle.rvmc_inspect.specs.Waits.{partition_of, post_wait, shape_of, taken_of}
use Rattle.std.specs.List.{slice_get}

of_post : (member : ℕ → ℕ → Bool) (partner : Option ℕ) (post : Post) (k : ℕ)
    → could_pair member (Some (record { post = post; partner = partner })) k ≡ is_named member (post_wait post) k
of_post member partner (Send s) k = refl
of_post member partner (Receive a) k = refl
of_post member partner (Claim a) k = refl

of_shape : (member : ℕ → ℕ → Bool) (link : ℕ) (joins : Option Link) (found : Wait) (k : ℕ)
    → shape_of link joins ≡ Some found → is_from k joins ≡ is_named member found k
of_shape member link None found k is = absurd (cc)
of_shape member link (Some joins) found k is = let same : wait.Shape link joins.from ≡ found = cc in ap (λ w. is_named member w k) same

of_partition : (member : ℕ → ℕ → Bool) (link part : ℕ) (joins : Option Link) (found : Wait) (k : ℕ)
    → partition_of link part joins ≡ Some found → is_from k joins ≡ is_named member found k
of_partition member link part None found k is = absurd (cc)
of_partition member link part (Some joins) found k is = let same : wait.Partition part link joins.from ≡ found = cc in ap (λ w. is_named member w k) same

of_taken : (member : ℕ → ℕ → Bool) (link part : ℕ) (joins : Option Link) (found : Wait) (k : ℕ)
    → taken_of link part joins ≡ Some found → is_to k joins ≡ is_named member found k
of_taken member link part None found k is = absurd (cc)
of_taken member link part (Some joins) found k is = let same : wait.Taken part link joins.to ≡ found = cc in ap (λ w. is_named member w k) same

pub named_law : NamedLaw
named_law = record {
  post = λ member line k. of_post member line.partner line.post k;
  probe = λ member rank comm source tag k. refl;
  shape = λ member links link found k. of_shape member link (slice_get links link) found k;
  partition = λ member links link part found k. of_partition member link part (slice_get links link) found k;
  taken = λ member links link part found k. of_taken member link part (slice_get links link) found k;
}
