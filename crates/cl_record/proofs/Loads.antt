-- Seats that are loaded, one more at a time, and what a turn makes of one.
use Rattle.std.specs.Prelude.{ℕ, ◌≡◌, ◌+◌, List, [], ◌∷◌, ◌++◌, length, map, slice_get, Some}
use Rattle.std.proofs.Common.{sym, ap, ◌∙◌, subst, add-one}
use Rattle.std.proofs.lemmas.List.{length-append, map-append}
use Rattle.std.proofs.lemmas.Option.{get_or_from_slice_get, same_Some, slice_get_within}
use mathlib.Core.Logic.{inl, inr}
use Rattle.rv_image_types.specs.declared.images.ImageParts.{ImageParts}
use Rattle.part_channel.specs.Channels.{ChannelView}
use Rattle.cl_state.specs.Rank.{below, loaded}
use Rattle.cl_state.specs.Room.{rank_of}
use Rattle.cl_record.specs.Loading.{AreLoaded, HasNext}
use Rattle.cl_record.specs.Plans.{HasPlans, IsPlan}
use Rattle.cl_record.specs.Seats.{AreAt, AreFresh, IsFresh}
use Rattle.cl_record.specs.declared.plans.Plan.{Plan}
use Rattle.cl_record.specs.declared.seats.Seat.{Seat}
use Rattle.cl_record.specs.declared.wiring.Ends.{Ends}
use Rattle.cl_record.specs.Wiring.{AreAllNew}
use Rattle.cl_record.proofs.Elements.{last_or_before}

-- one seat more of those that are loaded
pub loaded_more : (image : ImageParts) (n : ℕ) (seats after : List Seat) (seat : Seat) → after ≡ seats ++ seat ∷ []
    → map (λ (x : Seat). rank_of x.rank.state) seats ≡ map (loaded image) (below n)
    → rank_of seat.rank.state ≡ loaded image n
    → map (λ (x : Seat). rank_of x.rank.state) after ≡ map (loaded image) (below (n + 1))
loaded_more image n seats after seat e before own =
    ap (map (λ (x : Seat). rank_of x.rank.state)) e
    ∙ map-append (λ (x : Seat). rank_of x.rank.state) seats (seat ∷ [])
    ∙ (λ i. before i ++ own i ∷ [])
    ∙ sym (map-append (loaded image) (below n) (n ∷ []))
    ∙ ap (λ k. map (loaded image) (below k)) (sym (add-one n))

pub fresh_more : (image : ImageParts) (channels : List ChannelView) (n : ℕ) (seats after : List Seat) (seat : Seat)
    → after ≡ seats ++ seat ∷ [] → length seats ≡ n → AreFresh image channels seats → IsFresh image channels n seat
    → AreFresh image channels after
fresh_more image channels n seats after seat e count before own q x at =
    elim (last_or_before seats seat x q (subst (λ xs. slice_get xs q ≡ Some x) e at)) [
      | inl old ↦ before q x old
      | inr new ↦
          subst (λ k. IsFresh image channels k x) (sym count ∙ sym new.0) (subst (IsFresh image channels n) new.1 own)
    ]

pub at_more : (plans : List Plan) (n : ℕ) (seats after : List Seat) (seat : Seat) (plan : Plan) → after ≡ seats ++ seat ∷ []
    → length seats ≡ n → slice_get plans n ≡ Some plan → AreAt plans seats → seat.plan.now ≡ plan → AreAt plans after
at_more plans n seats after seat plan e count planned before own q p x at_plan at =
    elim (last_or_before seats seat x q (subst (λ xs. slice_get xs q ≡ Some x) e at)) [
      | inl old ↦ before q p x at_plan old
      | inr new ↦
          let place : n ≡ q = sym count ∙ sym new.0 in
          ap (λ (y : Seat). y.plan.now) (sym new.1) ∙ own
          ∙ same_Some plan p (sym planned ∙ ap (slice_get plans) place ∙ at_plan)
    ]

-- the plan of a rank
pub plan_at : (image : ImageParts) (plans : List Plan) (r : ℕ) (plan : Plan) → HasPlans image plans
    → slice_get plans r ≡ Some plan → IsPlan image.harts plan
plan_at image plans r plan has at =
    subst (IsPlan image.harts) (get_or_from_slice_get plans r plan plan at)
    (has.are_plans r plan (slice_get_within plans r plan at))

-- no rank is loaded yet
pub none_loaded : (image : ImageParts) (plans : List Plan) (ends : List Ends) (seats : List Seat) → seats ≡ []
    → AreLoaded image plans ends 0 seats
none_loaded image plans ends seats none = record {
  count = ap length none;
  plans_are = λ r plan seat planned at. let no = ap (λ (xs : List Seat). slice_get xs r) (sym none) ∙ at in absurd (cc);
  ranks_are = ap (map (λ (x : Seat). rank_of x.rank.state)) none;
  fresh = λ channels all r seat at. let no = ap (λ (xs : List Seat). slice_get xs r) (sym none) ∙ at in absurd (cc);
}

-- one rank more is loaded
pub one_loaded : (image : ImageParts) (plans : List Plan) (ends : List Ends) (own : Ends) (n : ℕ) (plan : Plan)
    (seats after : List Seat) → slice_get ends n ≡ Some own → slice_get plans n ≡ Some plan
    → ((channels : List ChannelView) × AreAllNew image channels ends)
    → AreLoaded image plans ends n seats → HasNext image plans own n seats after → AreLoaded image plans ends (n + 1) after
one_loaded image plans ends own n plan seats after at planned new before next = record {
  count = ap length next.added ∙ length-append seats (next.seat ∷ []) ∙ ap (λ k. k + 1) before.count;
  plans_are = at_more plans n seats after next.seat plan next.added before.count planned before.plans_are
      (next.plan_is plan planned);
  ranks_are = loaded_more image n seats after next.seat next.added before.ranks_are
      (next.fresh new.0 (new.1 n own at)).rank_is;
  fresh = λ channels all.
      fresh_more image channels n seats after next.seat next.added before.count (before.fresh channels all)
      (next.fresh channels (all n own at));
}
