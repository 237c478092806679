-- The lines of alike ranks are the same.
use Rattle.std.proofs.Common.{◌≡◌, ◌∙◌, ℕ, suc, ◌+◌, refl, ap, arith, Bool, true, false, not, List, [], ◌∷◌, ◌++◌, map, length, Some}
use Rattle.std.specs.Prelude.{◌&&◌, codes}
use Rattle.std.specs.List.{enumerate_from, flat_map, slice_get}
use Rattle.std.proofs.lemmas.Option.{same_Some}
use Rattle.rv_hart.specs.State.{State}
use Rattle.rv_hart.specs.declared.state.Mode.{Mode}
use Rattle.rv_hart.specs.declared.state.Mode.TheVariants.{Running, Waiting, Ended, Trapped}
use Rattle.rv_image_types.specs.declared.images.Symbol.{Symbol}
use Rattle.rv_memory.specs.Memory.{Memory}
use Rattle.mp_hub.specs.Hub.{HubView}
use Rattle.mp_alike_laws.specs.Renaming.{Renaming}
use Rattle.part_box.specs.declared.settled.Settled.{Settled}
use Rattle.cl_calls.specs.Calls.{argument}
use Rattle.cl_calls.specs.Names.{call_name}
use Rattle.cl_state.specs.Rank.{Rank}
use Rattle.cl_state.specs.Room.{rank_of}
use Rattle.cl_state.specs.declared.state.RankState.{RankState}
use Rattle.cl_names_laws.specs.Named.{hart_by, mode_by}
use Rattle.cl_order_laws.specs.Alike.{AlikeRanks}
use Rattle.rvmc_inspect.specs.Below.{newline}
use Rattle.rvmc_inspect.specs.declared.awaited.Wait.{Wait}
use Rattle.rvmc_inspect.specs.Texts.{doing_text, hart_head, hart_line, hart_waits_text, has_ended, waiting_place, waiting_text, waits_text}
use Rattle.rvmc_inspect.specs.Waits.{waits}
use Rattle.rvmc_inspect.specs.Why.{ranks_from}
use Rattle.rvmc_places.specs.Callers.{callers_text}
use Rattle.rvmc_places.specs.OwnCalls.{is_in_library, own_call, own_place_text}

-- ---- a hart that waits for the same

module _ (names : Renaming) (framed : Bool) (symbols : List Symbol) (memory : Memory) where
  ended_by : (m : Mode) → has_ended (mode_by names m) ≡ has_ended m
  ended_by Running = refl
  ended_by (Waiting w) = refl
  ended_by (Ended code) = refl
  ended_by (Trapped cause at) = refl

  -- where it is, and who called it, its registers and its pc tell
  own_by : (hart : State) (name : List ℕ)
      → own_place_text symbols memory (hart_by names hart) name ≡ own_place_text symbols memory hart name
  unfolding own_place_text own_call
  own_by hart name = refl

  library_by : (hart : State) → is_in_library symbols memory (hart_by names hart) ≡ is_in_library symbols memory hart
  unfolding is_in_library own_call
  library_by hart = refl

  place_by : (whole : Bool) (hart : State)
      → waiting_place whole symbols memory (hart_by names hart) ≡ waiting_place whole symbols memory hart
  place_by true hart = refl
  place_by false hart = own_by hart (call_name (argument hart 7))

  waiting_by : (hart : State) (found : List Wait)
      → waiting_text framed symbols memory (hart_by names hart) found ≡ waiting_text framed symbols memory hart found
  unfolding waiting_text
  waiting_by hart found =
      λ i. codes "waits at "
      ++ (place_by framed hart i ++ (codes " for " ++ waits_text (not framed && library_by hart i) found))

  doing_by : (hart : State) (found : List Wait) (m : Mode)
      → doing_text framed symbols memory (hart_by names hart) found (mode_by names m)
      ≡ doing_text framed symbols memory hart found m
  doing_by hart found Running = refl
  doing_by hart found (Waiting w) = waiting_by hart found
  doing_by hart found (Ended code) = refl
  doing_by hart found (Trapped cause at) = refl

  callers_by : (hart : State) (asked : Bool)
      → callers_text asked symbols memory (hart_by names hart) ≡ callers_text asked symbols memory hart
  unfolding callers_text
  callers_by hart true = refl
  callers_by hart false = refl

  line_by : (r number : ℕ) (hart : State) (found : List Wait)
      → hart_line framed symbols memory r number (hart_by names hart) found
      ≡ hart_line framed symbols memory r number hart found
  unfolding hart_line
  line_by r number hart found =
      let callers =
      callers_by hart (framed && not (has_ended (mode_by names hart.mode)))
      ∙ ap (λ b. callers_text (framed && not b) symbols memory hart) (ended_by hart.mode) in
      λ i. hart_head r number ++ (doing_by hart found hart.mode i ++ (newline ++ callers i))

-- ---- the ranks

-- the lines of all harts of these ranks, the first of which has this number
abbrev pub rank_lines : Bool → List Symbol → HubView → List (List Settled) → ℕ → List Rank → List ℕ
rank_lines framed symbols hub boxes number ranks =
    flat_map (λ rank. hart_waits_text framed symbols hub boxes rank.0 rank.1) (enumerate_from number ranks)

pub lines_of_states : (framed : Bool) (symbols : List Symbol) (hub : HubView) (boxes : List (List Settled)) (number : ℕ)
    (ranks : List RankState)
    → ranks_from framed symbols hub boxes number ranks ≡ rank_lines framed symbols hub boxes number (map rank_of ranks)
lines_of_states framed symbols hub boxes number [] = refl
lines_of_states framed symbols hub boxes number (rank ∷ ranks) =
    ap (λ rest. hart_waits_text framed symbols hub boxes number (rank_of rank) ++ rest)
    (lines_of_states framed symbols hub boxes (number + 1) ranks)

-- their harts wait for the same
abbrev pub WaitSame : HubView → HubView → List (List Settled) → List (List Settled) → Rank → Rank → Type 0
WaitSame h k left right x y = (hart : ℕ) → waits k right y hart ≡ waits h left x hart

module _ (names : Renaming) (framed : Bool) (symbols : List Symbol) (h k : HubView) (left right : List (List Settled)) where
  harts_same : (r : ℕ) (x y : Rank) → WaitSame h k left right x y → (number : ℕ) (harts : List State)
      → flat_map (λ hart. hart_line framed symbols x.memory r hart.0 hart.1 (waits k right y hart.0))
      (enumerate_from number (map (hart_by names) harts))
      ≡ flat_map (λ hart. hart_line framed symbols x.memory r hart.0 hart.1 (waits h left x hart.0))
      (enumerate_from number harts)
  harts_same r x y same number [] = refl
  harts_same r x y same number (hart ∷ harts) =
      λ i. (line_by names framed symbols x.memory r number hart (waits k right y number)
      ∙ ap (hart_line framed symbols x.memory r number hart) (same number)) i
      ++ harts_same r x y same (number + 1) harts i

  rank_same : (r : ℕ) (x y : Rank) → AlikeRanks names x y → WaitSame h k left right x y
      → hart_waits_text framed symbols k right r y ≡ hart_waits_text framed symbols h left r x
  rank_same r x y both same =
      ap (λ (z : Rank). flat_map (λ hart. hart_line framed symbols z.memory r hart.0 hart.1 (waits k right y hart.0))
      (enumerate_from 0 z.harts)) both.1
      ∙ harts_same r x y same 0 x.harts

  abbrev pub AreSame : List Rank → List Rank → Type 0
  AreSame xs ys =
      (length ys ≡ length xs)
      × ((i : ℕ) (x : Rank) → slice_get xs i ≡ Some x
      → (y : Rank) × (slice_get ys i ≡ Some y) × AlikeRanks names x y × WaitSame h k left right x y)

  pub lines_same : (number : ℕ) (xs ys : List Rank) → AreSame xs ys
      → rank_lines framed symbols k right number ys ≡ rank_lines framed symbols h left number xs
  lines_same number [] [] same = refl
  lines_same number [] (y ∷ ys) same = absurd (omega (arith, same.0))
  lines_same number (x ∷ xs) [] same = absurd (omega (arith, same.0))
  lines_same number (x ∷ xs) (y ∷ ys) same =
      let v = same.1 0 x refl in
      let is : y ≡ v.0 = same_Some y v.0 v.1 in
      λ i. (ap (hart_waits_text framed symbols k right number) is ∙ rank_same number x v.0 v.2 v.3) i
      ++ lines_same (number + 1) xs ys (omega (arith, same.0), λ j z at. same.1 (suc j) z at) i
