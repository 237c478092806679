-- Where a rank sends, and what it has at boxes, all along a walk.
use Rattle.std.proofs.Common.{◌≡◌, ◌∙◌, ℕ, ◌<◌, refl, sym, ap, subst, arith, Bool, true, false, cond, List, [], ◌∷◌, length, Some}
use Rattle.std.specs.Prelude.{is_some, nat_lt}
use Rattle.std.specs.List.{slice_get}
use Rattle.std.proofs.lemmas.Bool.{ltb-true}
use Rattle.rv_image_types.specs.declared.images.ImageParts.{ImageParts}
use Rattle.rv_hart.specs.declared.state.Mode.{Mode}
use Rattle.rv_hart.specs.declared.state.Mode.TheVariants.{Waiting}
use Rattle.mp_types.specs.declared.requests.Request.{Request}
use Rattle.mp_types.specs.declared.requests.Request.TheVariants as request
use Rattle.mp_hub.specs.Hub.{HubView, hub_at_start, outcome}
use Rattle.mp_hub.proofs.Transfers.{StepsTo, is_none, is_one, links_on, steps}
use Rattle.mp_wait_laws.specs.Laws.{SendsAsMember}
use Rattle.cl_journal.specs.Journal.{calls_of}
use Rattle.cl_calls.specs.Checks.{is_comm}
use Rattle.cl_calls.specs.declared.sites.Site.{Site}
use Rattle.cl_calls.specs.Site.{members, position_of}
use Rattle.cl_state.specs.declared.asking.Answer.{Answer}
use Rattle.cl_state.specs.declared.asking.Ask.{Ask}
use Rattle.cl_state.specs.Asked.{asked}
use Rattle.cl_state.specs.Rank.{Rank, loaded}
use Rattle.cl_state.specs.Told.{told}
use Rattle.cl_state.proofs.Moves.{told_at}
use Rattle.cl_state_laws.specs.Members.{AreInside}
use Rattle.cl_state_laws.specs.Vain.{IsStopped, IsWaiting}
use Rattle.cl_state_laws.proofs.Members.{members_law}
use Rattle.cl_deeds.specs.Alone.{IsAlone}
use Rattle.cl_deeds.specs.Deeds.{Deed, answer_of}
use Rattle.cl_machine.specs.Boxes.{box_number}
use Rattle.cl_machine.specs.Cluster.{Cluster}
use Rattle.cl_deadlock_laws.specs.Stuck.{is_member}
use Rattle.cl_deadlock_laws.proofs.Reached.{Comes, same_site}
use Rattle.cl_order_laws.specs.Alike.{hub_of}
use Rattle.cl_schedule_laws.specs.Machines.{AllWithin as AllInside, GoesOn}
use Rattle.cl_reduction_laws.specs.Clusters.{Search, State, cluster_machine}
use Rattle.cl_reduction_laws.specs.Patterns.{IsAllowed, Pattern, Patterns, at_box, unlisted}
use Rattle.cl_reduction_laws.proofs.AtBoxes.{AtBox, freed, misses, readied, took}
use Rattle.cl_reduction_laws.proofs.Good.{Gone, alone, called, gone, made_within, met}
use Rattle.cl_reduction_laws.proofs.Machine.{taken}

-- ---- where a rank sends

pub inside_from : (ds : List Deed) (old new : Rank) → IsAlone old ds new → AreInside old.site old.requests
    → AreInside new.site new.requests
inside_from [] old new run inside = subst (λ (x : Rank). AreInside x.site x.requests) (sym run) inside
inside_from (d ∷ ds) old new run inside =
    inside_from ds run.0 new run.2
    (subst (λ (x : Rank). AreInside x.site x.requests) (sym (run.1).4)
    (subst (λ (site : Site). AreInside site (told old d.hart (answer_of d.act) d.stamp).requests)
    (sym (told_at old d.hart (answer_of d.act) d.stamp).site)
    ((members_law.kept) old d.hart d.stamp (answer_of d.act) inside)))

-- the rank has the image's communicators and one hart, and its open requests are in communicators of which it is a member
pub record IsHome (image : ImageParts) (r : ℕ) (rank : Rank) : Type 0 where
  pub site : rank.site ≡ (loaded image r).site
  pub inside : AreInside rank.site rank.requests
  pub one : length rank.harts ≡ 1

abbrev pub AreHome : ImageParts → Cluster → Type 0
AreHome image c = (r : ℕ) (rank : Rank) → slice_get c.ranks r ≡ Some rank → IsHome image r rank

pub home_of : (image : ImageParts) (c : Cluster) → Comes image c
    → ((r : ℕ) (rank : Rank) → slice_get c.ranks r ≡ Some rank → length rank.harts ≡ 1)
    → AreHome image c
home_of image c comes one r rank there =
    let v = comes.alone r rank there in
    record {
      site = same_site image r v.0 rank v.1;
      inside = inside_from v.0 (loaded image r) rank v.1 ((members_law.first) (loaded image r).site);
      one = one r rank there;
    }

pub home_told : (image : ImageParts) (r hart : ℕ) (rank : Rank) (a : Answer) (stamp : ℕ) → IsHome image r rank
    → IsHome image r (told rank hart a stamp)
home_told image r hart rank a stamp home = record {
  site = (told_at rank hart a stamp).site ∙ home.site;
  inside = subst (λ (site : Site). AreInside site (told rank hart a stamp).requests) (sym (told_at rank hart a stamp).site)
      ((members_law.kept) rank hart stamp a home.inside);
  one = (told_at rank hart a stamp).harts ∙ home.one;
}

pub home_sends : (image : ImageParts) (s r hart : ℕ) (rank x : Rank) (q : Request) → IsHome image s rank → IsHome image r x
    → asked rank hart ≡ Ask.Hub q → SendsAsMember (is_member x.site) s q
home_sends image s r hart rank x q home its asks = go q asks
  where
    go : (q : Request) → asked rank hart ≡ Ask.Hub q → SendsAsMember (is_member x.site) s q
    go (request.Send sync comm dest tag bytes) asks =
        let comm_is : is_comm rank.site (Some comm) ≡ true =
        (members_law.sends) rank hart comm dest tag sync bytes home.inside asks in
        ap (λ (z : Site). is_some (position_of s (members z comm))) its.site
        ∙ sym (ap (λ (z : Site). is_comm z (Some comm)) home.site) ∙ comm_is
    go (request.Recv now comm source tag) asks = tt
    go (request.Collect post) asks = tt
    go (request.Finished post) asks = tt
    go (request.Probe comm source tag) asks = tt
    go (request.Claim comm source tag) asks = tt
    go (request.Claimed now message) asks = tt
    go (request.All posts) asks = tt
    go (request.Init sends comm peer tag parts size) asks = tt
    go (request.Cut link) asks = tt

-- ---- ranks that are held

pub stopped_or_waiting : (m : Mode) → IsStopped m → IsWaiting m → ⊥
stopped_or_waiting (Waiting wait) stopped waiting = stopped
stopped_or_waiting _ stopped waiting = waiting

pub idle_or_hub : (q : Request) → Ask.Idle ≡ Ask.Hub q → ⊥
idle_or_hub q e = absurd (cc)

-- a turn of a rank leaves the links as they are
pub links_stay : (r hart : ℕ) (c new : Cluster) (x : Rank) → Gone r hart c new x
    → (hub_of new.journal).links ≡ (hub_of c.journal).links
links_stay r hart c new x (alone stamp own ranks journal boxes) = ap (λ j. (hub_of j).links) journal
links_stay r hart c new x (called p also k) =
    ap (λ (h : HubView). h.links) k.hubs ∙ go (steps (hub_of c.journal) r p)
  where
    go : StepsTo (hub_of c.journal) r p (outcome (hub_of c.journal) r p)
        → (outcome (hub_of c.journal) r p).1.links ≡ (hub_of c.journal).links
    go (is_none b e l) = l
    go (is_one n b e l join) = l
links_stay r hart c new x (met at box) = by box
  where
    by : AtBox r hart c new x → (hub_of new.journal).links ≡ (hub_of c.journal).links
    by (readied link part bytes box stamp asks is empty l) = ap (λ j. (hub_of j).links) l.journal
    by (took link part bytes box stamp asks is holds l) = ap (λ j. (hub_of j).links) l.journal
    by (freed link part box stamp asks is empty l) = ap (λ j. (hub_of j).links) l.journal
    by (misses stamp look l) = ap (λ j. (hub_of j).links) l.journal

pub links_of : (c : Cluster) → (hub_of c.journal).links ≡ c.journal.links
links_of c = links_on (calls_of c.journal.entries) (hub_at_start c.journal.links)

pub links_walk : (search : Search) (rs : List ℕ) (a b : State search) → (walk : GoesOn (cluster_machine search) rs a b)
    → AllInside (cluster_machine search) rs a b walk
    → (hub_of b.cluster.journal).links ≡ (hub_of a.cluster.journal).links
links_walk search [] a b walk inside = ap (λ (s : State search). (hub_of s.cluster.journal).links) walk
links_walk search (r ∷ rs) a b walk inside =
    let mid = (walk.0).cluster in
    let t = taken r (search.harts r) a.cluster mid walk.1 in
    links_walk search rs walk.0 b walk.2 inside.1
    ∙ links_stay r (search.harts r) a.cluster mid t.rank
    (gone r (search.harts r) a.cluster mid t.rank t.there
    (made_within search.patterns r (search.harts r) t.rank (inside.0 t.rank t.there).0) walk.1)

-- what a rank asks at a box, within the patterns: on which link, and at which place
pub at_link : (patterns : Patterns) (r part : ℕ) (p : Pattern) → IsAllowed patterns r (at_box part p)
    → (part < 16) × IsAllowed patterns r p
at_link patterns r part p is = go (nat_lt part 16) refl is
  where
    go : (b : Bool) → nat_lt part 16 ≡ b → IsAllowed patterns r (cond b p unlisted) → (part < 16) × IsAllowed patterns r p
    go true e is = (ltb-true part 16 e, is)
    go false e is = absurd is

-- a link has 16 boxes
pub one_link : (l p link part : ℕ) → p < 16 → part < 16 → box_number l p ≡ box_number link part → l ≡ link
one_link l p link part low also same = omega (arith, low, also, same)
