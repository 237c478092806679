-- What a bar says of its hart's steps: a bar begins at the first look in vain, and ends at the step that went on.
use Rattle.std.specs.Prelude.{ℕ, ◌≡◌, ◌<◌, ◌+◌, ◌*◌, ◌-◌, ◌^◌, ◌&&◌, ◌↔◌, not, Bool, true, false, List, [], ◌∷◌, ◌++◌}
use Rattle.std.specs.Prelude.{filter, length, min, Option, Some, None}
use Rattle.std.specs.List.{list_any}
use Rattle.std.specs.Option.{is_some}
use Rattle.rvmc_draw.specs.Among.{IsAmong}
use Rattle.rvmc_draw.specs.Looks.{lane_of}
use Rattle.rvmc_draw.specs.Walks.{Scope, bars_of, begun_after, of_lane}
use Rattle.rvmc_draw.specs.declared.deeds.Deed.{Deed}
use Rattle.rvmc_draw.specs.declared.drawing.Bar.{Bar}

-- a call that looked in vain
abbrev pub is_look : Deed → Bool
is_look d = is_some d.shape && d.vain

-- one that went on
abbrev pub goes_on : Deed → Bool
goes_on d = is_some d.shape && not d.vain

-- of a hart's steps each look in vain is followed by one that went on: it waits for nothing behind them
abbrev pub AreOver : List Deed → Type 0
AreOver [] = Unit {0}
AreOver (d ∷ ds) = (is_look d ≡ true → list_any goes_on ds ≡ true) × AreOver ds

-- behind these steps of its own a hart waits: since the first look none went on, and before it the hart waited for nothing.
-- The looks are counted, as 64 bits hold them
pub record IsWaiting (own : List Deed) (bar : Bar) : Type 0 where
  pub before : List Deed
  pub first : Deed
  pub since : List Deed
  pub all : own ≡ before ++ first ∷ since
  pub over : AreOver before
  pub look : is_look first ≡ true
  pub none_went_on : list_any goes_on since ≡ false
  pub bar_is : bar
      ≡ record {
        first = first.spot;
        last = 0;
        went_on = false;
        looks = min (length (filter is_look since) + 1) (2 ^ 64 - 1);
      }

-- a hart's bar is begun exactly where it waits so
abbrev pub WaitingLaw : Type 0
WaitingLaw = (own : List Deed) (bar : Bar) → (begun_after None own ≡ Some bar) ↔ IsWaiting own bar

-- a step of a hart that waited went on, so the bar ends there; the waiting is told of the hart's own steps before it
pub record IsWaited (scope : Scope) (deeds : List Deed) (bar : Bar) : Type 0 where
  pub before : List Deed
  pub ender : Deed
  pub after : List Deed
  pub all : deeds ≡ before ++ ender ∷ after
  pub ends : goes_on ender ≡ true
  pub lane : lane_of scope.harts ender.spot < scope.ranks * scope.harts
  pub begun : Bar
  pub waiting : IsWaiting (of_lane scope.harts (lane_of scope.harts ender.spot) before) begun
  pub bar_is : bar
      ≡ record { first = begun.first; last = ender.spot.place; went_on = true; looks = begun.looks }

-- the bars that ended are these, and no others
abbrev pub BarsLaw : Type 0
BarsLaw = (scope : Scope) (deeds : List Deed) (bar : Bar) → IsAmong (bars_of scope deeds) bar ↔ IsWaited scope deeds bar
