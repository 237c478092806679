-- What each thread did of its rank, by the ranks' numbers.
use Rattle.std.specs.Prelude.{ℕ, zero, suc, ◌≡◌, ◌≤◌, List, [], ◌∷◌, length, map, slice_get, Some}
use Rattle.std.specs.List.{AllByRecursion}
use Rattle.std.proofs.Common.{refl, sym, ap, ◌∙◌, subst, arith}
use Rattle.std.proofs.lemmas.Option.{same_Some, slice_get_within}
use Rattle.rv_image_types.specs.declared.images.ImageParts.{ImageParts}
use Rattle.part_channel.specs.Channels.{ChannelView}
use Rattle.cl_state.specs.Rank.{Rank, loaded}
use Rattle.cl_deeds.specs.Deeds.{Deed}
use Rattle.cl_deeds.specs.Alone.{IsAlone}
use Rattle.cl_rank.specs.RankSides.{Sides}
use Rattle.cl_rank.specs.Views.{view_of}
use Rattle.cl_machine.specs.Joined.{OnItsSide}
use Rattle.cl_record.specs.Wiring.{AreNewEnds}
use Rattle.cl_record.specs.Plans.{HasPlans}
use Rattle.cl_record.specs.Seats.{AreAt, AreFresh}
use Rattle.cl_record.specs.declared.plans.Plan.{Plan}
use Rattle.cl_record.specs.declared.seats.Seat.{Seat}
use Rattle.cl_record.proofs.Elements.{at_below, to_map}
use Rattle.cl_record.proofs.Wires.{new_keys}
use Rattle.cl_threads.specs.OnThreads.{AreDone, KeysGo, WentBy}
use Rattle.cl_threads.specs.Cuts.{AreBy, IsBy}
use Rattle.cl_threads.specs.Runs.{IsTracedRank}
use Rattle.cl_threads.specs.declared.until.Until.{Until}
use Rattle.cl_threads.proofs.CutPlans.{cuts_planned}
use Rattle.cl_record.specs.declared.done.Done.{Done}
use Rattle.cl_threads.proofs.KeyRuns.{all_on_side}

-- rank number r went alone from its image by these deeds, with its plan
pub record RankWent (image : ImageParts) (channels : List ChannelView) (r : ℕ) (plan : Plan) (deeds : List Deed)
    (done : Done) : Type 0 where
  pub own : AllByRecursion (λ (d : Deed). d.rank ≡ r) deeds
  pub alone : IsAlone (loaded image r) deeds (view_of done.rank).rank
  -- the sides that it had first, new over these channels
  pub first : Sides
  pub new : AreNewEnds image.version image.links channels r first
  pub keys : KeysGo image.version first deeds (view_of done.rank).sides
  pub left : IsTracedRank plan deeds (view_of done.rank).events (view_of done.rank).rank done.stop

-- so each deed is on the rank's own side of a link
pub on_its_side : (image : ImageParts) (channels : List ChannelView) (r : ℕ) (plan : Plan) (deeds : List Deed)
    (done : Done) → RankWent image channels r plan deeds done
    → AllByRecursion (λ (d : Deed). OnItsSide image.links r d.act) deeds
on_its_side image channels r plan deeds done went =
    let keys = new_keys image.version image.links channels r went.first went.new in
    all_on_side image.links r image.version deeds went.first (view_of done.rank).sides went.keys
    (record { sends = keys.sends_own; receives = keys.receives_own })

-- what the ranks did, by their numbers
pub record AllWent (image : ImageParts) (channels : List ChannelView) (plans : List Plan) (all : List Done) : Type 0 where
  pub deeds : ℕ → List Deed
  pub count : length all ≡ image.ranks
  pub each : (r : ℕ) (done : Done) → slice_get all r ≡ Some done
      → (plan : Plan) × (slice_get plans r ≡ Some plan) × RankWent image channels r plan (deeds r) done
  pub none : (r : ℕ) → image.ranks ≤ r → deeds r ≡ []

module _ (until : Until) (channels : List ChannelView) where
  deeds_by : (seats : List Seat) (all : List Done) → AreDone until channels seats all → ℕ → List Deed
  deeds_by [] [] are n = []
  deeds_by (seat ∷ seats) (done ∷ all) are zero = are.0.deeds
  deeds_by (seat ∷ seats) (done ∷ all) are (suc n) = deeds_by seats all are.1 n
  deeds_by _ _ are n = absurd are

  pub as_many : (seats : List Seat) (all : List Done) → AreDone until channels seats all → length all ≡ length seats
  as_many [] [] are = refl
  as_many (seat ∷ seats) (done ∷ all) are = ap suc (as_many seats all are.1)
  as_many _ _ are = absurd are

  none_past : (seats : List Seat) (all : List Done) (are : AreDone until channels seats all) (n : ℕ) → length all ≤ n
      → deeds_by seats all are n ≡ []
  unfolding deeds_by
  none_past [] [] are n up = refl
  none_past (seat ∷ seats) (done ∷ all) are zero up = absurd (omega (arith, up))
  none_past (seat ∷ seats) (done ∷ all) are (suc n) up = none_past seats all are.1 n (omega (arith, up))
  none_past _ _ are n up = absurd are

  -- the plans by which they went
  pub cuts_of : (seats : List Seat) (all : List Done) → AreDone until channels seats all → List Plan
  cuts_of [] [] are = []
  cuts_of (seat ∷ seats) (done ∷ all) are = are.0.by ∷ cuts_of seats all are.1
  cuts_of _ _ are = absurd are

  pub as_many_cuts : (seats : List Seat) (all : List Done) (are : AreDone until channels seats all)
      → length (cuts_of seats all are) ≡ length seats
  unfolding cuts_of
  as_many_cuts [] [] are = refl
  as_many_cuts (seat ∷ seats) (done ∷ all) are = ap suc (as_many_cuts seats all are.1)
  as_many_cuts _ _ are = absurd are

  -- what the thread of rank number n did
  record WentAt (seats : List Seat) (all : List Done) (are : AreDone until channels seats all) (n : ℕ) (done : Done)
      : Type 0 where
    seat : Seat
    seat_there : slice_get seats n ≡ Some seat
    by : Plan
    by_there : slice_get (cuts_of seats all are) n ≡ Some by
    is_by : IsBy until seat.plan.now by done.stop
    went : WentBy by (view_of seat.rank) (view_of done.rank) done.stop (deeds_by seats all are n)

  went_at : (seats : List Seat) (all : List Done) (are : AreDone until channels seats all) (n : ℕ) (done : Done)
      → slice_get all n ≡ Some done → WentAt seats all are n done
  unfolding deeds_by cuts_of
  went_at [] [] are n d at = absurd (cc)
  went_at (seat ∷ seats) (done ∷ all) are zero d at =
      let same = same_Some done d at in
      record {
        seat = seat;
        seat_there = refl;
        by = are.0.by;
        by_there = refl;
        is_by = subst (λ (x : Done). IsBy until seat.plan.now are.0.by x.stop) same are.0.is_by;
        went = subst (λ (x : Done). WentBy are.0.by (view_of seat.rank) (view_of x.rank) x.stop are.0.deeds) same
            are.0.went;
      }
  went_at (seat ∷ seats) (done ∷ all) are (suc n) d at =
      let w = went_at seats all are.1 n d at in
      record {
        seat = w.seat;
        seat_there = w.seat_there;
        by = w.by;
        by_there = w.by_there;
        is_by = w.is_by;
        went = w.went;
      }
  went_at _ _ are n d at = absurd are

  -- from ranks as they were loaded, at their plans
  module _ (image : ImageParts) (plans : List Plan) (seats : List Seat) (all : List Done)
      (are : AreDone until channels seats all) (count : length seats ≡ image.ranks) (has : HasPlans image plans)
      (plans_are : AreAt plans seats) (fresh : AreFresh image channels seats) where
    pub all_went : AllWent image channels (cuts_of seats all are) all
    all_went =
        let same = as_many seats all are in
        record {
          deeds = deeds_by seats all are;
          count = same ∙ count;
          none = λ r up. none_past seats all are r (omega (arith, up, same, count));
          each = λ r done at.
              let k = went_at seats all are r done at in
              let start = fresh r k.seat k.seat_there in (
                k.by,
                k.by_there,
                record {
                  own = subst (λ n. AllByRecursion (λ (d : Deed). d.rank ≡ n) (deeds_by seats all are r))
                      (ap (λ (x : Rank). x.site.number) start.rank_is) k.went.own;
                  alone = subst (λ x. IsAlone x (deeds_by seats all are r) (view_of done.rank).rank) start.rank_is
                      k.went.alone;
                  first = (view_of k.seat.rank).sides;
                  new = start.ends;
                  keys = subst (λ v. KeysGo v (view_of k.seat.rank).sides (deeds_by seats all are r) (view_of done.rank).sides)
                      (ap (λ (x : Rank). x.site.version) start.rank_is) k.went.keys;
                  left = record {
                    traced = k.went.traced;
                    follows_plan = k.went.follows_plan;
                    in_budget = k.went.in_budget;
                    stops = k.went.stops;
                  };
                },
              );
        }

    -- these plans are the ranks' own, or cut
    pub are_by : AreBy until plans (cuts_of seats all are) (map (λ (x : Done). x.stop) all)
    are_by = record {
      one_each = as_many_cuts seats all are ∙ count ∙ sym has.one_each;
      each = λ r plan cut at_plan at_cut.
          let done = at_below all r
          (let a = as_many seats all are in let b = as_many_cuts seats all are in
          let c = slice_get_within (cuts_of seats all are) r cut at_cut in omega (arith, a, b, c)) in
          let k = went_at seats all are r done.0 done.1 in
          let plan_is : k.seat.plan.now ≡ plan = plans_are r plan k.seat at_plan k.seat_there in
          let cut_is : k.by ≡ cut = same_Some k.by cut (sym k.by_there ∙ at_cut) in (
            done.0.stop,
            to_map (λ (x : Done). x.stop) all r done.0 done.1,
            subst (λ c. IsBy until plan c done.0.stop) cut_is
                (subst (λ p. IsBy until p k.by done.0.stop) plan_is k.is_by),
          );
    }

    -- and plans of the image
    pub has_cuts : HasPlans image (cuts_of seats all are)
    has_cuts = cuts_planned until image plans (cuts_of seats all are) (map (λ (x : Done). x.stop) all) has are_by
