-- Ranks that need buffers, listed.
use Rattle.std.specs.Prelude.{ℕ, zero, suc, ◌≡◌, List, [], ◌∷◌, ◌++◌, Bool, false, true, length, slice_get, Some, Result, Ok, Err, IfOk}
use Rattle.std.proofs.Common.{refl, sym, ap, ◌∙◌, subst}
use Rattle.std.proofs.lemmas.Option.{same_Some}
use Rattle.rv_image_types.specs.declared.images.ImageParts.{ImageParts}
use Rattle.cl_order_laws.specs.Closed.{Node}
use Rattle.cl_explore.specs.Ends.{Findings}
use Rattle.cl_explore.specs.Listening.{IsNeedNode}
use Rattle.cl_explore.specs.Needing.{AreSought, SaysNeeds}
use Rattle.cl_explore.specs.declared.kept.KeptNode.{KeptNode}
use Rattle.cl_explore.specs.declared.needs.Needs.{Needs}
use Rattle.cl_explore.specs.declared.needs.Needs.TheVariants as needs
use Rattle.cl_explore.proofs.Keeping.{node_found}
use Rattle.cl_explore.proofs.Lists.{at_last, stays_at}
use Rattle.cl_replay.specs.States.{ClusterStandsFor}
use Rattle.rvmc_explore.specs.InnerOutcomes.{BeginsWith, bodies_told}
use Rattle.rvmc_explore.specs.Needs.{need_text}
use Rattle.rvmc_explore.specs.Outcomes.{HasBody, IsNeedBody, IsNeedOutcome, ListsNeed}
use Rattle.rvmc_explore.specs.declared.outcomes.Outcome.{Outcome}
use Rattle.rvmc_explore.proofs.Heard.{first_or, tail_of}

-- ---- lists of them

-- those of one list, told in another one
listed_by : (image : ImageParts) (order : List ℕ) (one other : List Outcome) (l : ListsNeed image order one)
    → HasBody other (need_text image l.state l.ranks) → ListsNeed image order other
listed_by image order one other l listed = record {
  steps = l.steps;
  node = l.node;
  way = l.way;
  ranks = l.ranks;
  need = l.need;
  state = l.state;
  stands = l.stands;
  listed = listed;
}

-- behind one more
pub stays_listed : (image : ImageParts) (order : List ℕ) (old new : List Outcome) (outcome : Outcome)
    → new ≡ old ++ outcome ∷ [] → ListsNeed image order old → ListsNeed image order new
stays_listed image order old new outcome is l =
    let v = l.listed in
    listed_by image order old new l
    (v.0, v.1, subst (λ os. slice_get os v.0 ≡ Some v.1) (sym is) (stays_at old outcome v.0 v.1 v.2), v.3)

-- one more that is of such ranks
pub now_listed : (image : ImageParts) (order : List ℕ) (old new : List Outcome) (outcome : Outcome)
    → new ≡ old ++ outcome ∷ [] → IsNeedOutcome order image outcome → ListsNeed image order new
now_listed image order old new outcome is of = record {
  steps = outcome.way;
  node = of.node;
  way = of.led;
  ranks = of.ranks;
  need = of.need;
  state = of.state;
  stands = of.stands;
  listed = (
    length old,
    outcome,
    subst (λ os. slice_get os (length old) ≡ Some outcome) (sym is) (at_last old outcome),
    of.told,
  );
}

-- one whose text is told
pub was_listed : (image : ImageParts) (order : List ℕ) (kept : List KeptNode) (node : ℕ) (ranks body : List ℕ)
    (told : List Outcome) → IsNeedNode image order kept node ranks → IsNeedBody image kept node ranks body
    → HasBody told body → ListsNeed image order told
was_listed image order kept node ranks body told (nodes, are, there) is has =
    let it = is.is in
    let v = are.each node it.what it.there in
    let same : v.0 ≡ there.0 = same_Some v.0 there.0 (sym v.1 ∙ there.1) in
    let found = node_found image order kept nodes are node there.0 there.1 in
    record {
      steps = found.0;
      node = there.0;
      way = found.1;
      ranks = ranks;
      need = there.2;
      state = is.state;
      stands = subst (λ (n : Node). ClusterStandsFor image is.state n.cluster) same ((v.2).stands is.state it.same);
      listed = subst (HasBody told) is.spelled has;
    }

-- a list that begins with the texts of another has each of them
has_begun : (first told : List Outcome) (more : List (List ℕ)) → bodies_told told ≡ bodies_told first ++ more
    → (k : ℕ) (outcome : Outcome) → slice_get first k ≡ Some outcome → HasBody told outcome.body.items
has_begun [] told more same k outcome at = absurd (cc)
has_begun (one ∷ first) [] more same k outcome at = absurd (cc)
has_begun (one ∷ first) (two ∷ told) more same zero outcome at =
    (0, two, refl, ap (first_or []) same ∙ ap (λ (o : Outcome). o.body.items) (same_Some one outcome at))
has_begun (one ∷ first) (two ∷ told) more same (suc k) outcome at =
    let v = has_begun first told more (ap tail_of same) k outcome at in (suc v.0, v.1, v.2, v.3)

pub begun_listed : (image : ImageParts) (order : List ℕ) (first told : List Outcome) → BeginsWith first told
    → ListsNeed image order first → ListsNeed image order told
begun_listed image order first told begins l =
    let v = l.listed in
    listed_by image order first told l (subst (HasBody told) v.3 (has_begun first told begins.0 begins.1 v.0 v.1 v.2))

-- ---- what a search knows of them

-- if what was told says something else
pub says_on : (buffered : Bool) (image : ImageParts) (found : Findings) (one other : Type 0) (known : Needs)
    → (AreSought buffered image → one → other) → SaysNeeds buffered image found one known
    → SaysNeeds buffered image found other known
says_on buffered image found one other needs.Unsought on says = says
says_on buffered image found one other needs.Nobody on says = says
says_on buffered image found one other needs.Somebody on says = (says.0, on says.0 says.1)
says_on buffered image found one other needs.Unknown on says = says

-- nothing, where each send copies its message
pub says_unsought : (image : ImageParts) (found : Findings) (told : Type 0) (known : Needs)
    → SaysNeeds true image found told known → known ≡ needs.Unsought
says_unsought image found told needs.Unsought says = refl
says_unsought image found told needs.Nobody says = let no : true ≡ false = (says.0).0 in absurd (cc)
says_unsought image found told needs.Somebody says = let no : true ≡ false = (says.0).0 in absurd (cc)
says_unsought image found told needs.Unknown says = let no : true ≡ false = says.0 in absurd (cc)

-- ---- of what comes of a call

pub if_ok_on : {E V : Type 0} {P Q : V → Type 0} (r : Result V E) → ((v : V) → P v → Q v) → IfOk r P → IfOk r Q
if_ok_on (Ok v) on is = on v is
if_ok_on (Err e) on is = tt
