-- Where one request of several needs the hub, a list of posts is asked for.
use Rattle.std.proofs.Common.{◌≡◌, ◌<◌, ◌++◌, ℕ, refl, subst, List, [], ◌∷◌, Option, Some, None, IsTrue, arith}
use Rattle.std.specs.List.{cons_option}
use Rattle.cl_state.specs.declared.pending.Pending.{Pending}
use Rattle.cl_state.specs.TurnRoom.{carried}
use Rattle.cl_state.specs.Several.{asked_all, has_posts, post_of, posts_pending}

with_post : (before : List ℕ) (o : Option ℕ) (post : ℕ) (after : List ℕ) → o ≡ Some post
    → IsTrue (has_posts (before ++ cons_option o after))
with_post [] None post after is = cc
with_post [] (Some p) post after is = refl
with_post (x ∷ xs) o post after is = refl

pub posts_asked : (before : List ℕ) (post : ℕ) (p : Pending) (ps : List Pending) (all : List ℕ) → post_of p ≡ Some post
    → before ++ posts_pending (p ∷ ps) ≡ all → IsTrue (has_posts all)
posts_asked before post p ps all is same =
    subst (λ (l : List ℕ). IsTrue (has_posts l)) same (with_post before (post_of p) post (posts_pending ps) is)

pub carries_posts : (posts : List ℕ) → IsTrue (has_posts posts) → 0 < carried (asked_all posts)
carries_posts [] there = cc
carries_posts (post ∷ posts) there = omega arith
