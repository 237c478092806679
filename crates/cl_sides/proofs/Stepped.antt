-- What the step of a side makes of all sides of a rank.
use Rattle.std.proofs.Common.{◌≡◌, ℕ, ◌<◌, ◌≤◌, ◌*◌, ◌%◌, ◌^◌, List, [], ◌∷◌, zero, suc, length, map, set, get_or, Option, Some, None, sym, ap, subst, ◌∙◌}
use Rattle.std.specs.Prelude.{slice_get}
use Rattle.mp_types.specs.declared.codes.Code.{Code}
use Rattle.part_box.specs.Gate.{ready_stamp}
use Rattle.part_channel.specs.Channels.{ChannelView, sender_box, receiver_box}
use Rattle.part_channel.specs.declared.progress.Progress.{Progress}
use Rattle.part_channel.specs.declared.progress.Take.{Take}
use Rattle.part_channel.specs.Receiving.{RecvView, shown_take, take_stamp, took}
use Rattle.part_channel.specs.Sending.{IsPast, IsTold, SendView, ready_refusal, readied, test_progress, tested}
use Rattle.part_channel.specs.BoxWords.{words_of}
use Rattle.cl_sides.specs.Steps.{IsPlace, IsReadied, IsTaken, IsTested, MayReady, MayTake, MayTest}
use Rattle.cl_sides.specs.Steps.{changed_side, keeps_receiving, keeps_sending}
use Rattle.part_channel.proofs.Words.{bytes_back}
use Rattle.cl_sides.proofs.Lists.{placed, same_side}

same_channel : (channels : List ChannelView) (link : ℕ) (x y : ChannelView) → x ≡ get_or channels link x
    → slice_get channels link ≡ Some y → x ≡ y
same_channel channels link x y is at = is ∙ there channels link x y at
  where
    none_some : (y : ChannelView) → None ≡ Some y → ⊥
    none_some y h = cc

    both : (z y : ChannelView) → Some z ≡ Some y → z ≡ y
    both z y h = cc

    there : (channels : List ChannelView) (link : ℕ) (x y : ChannelView) → slice_get channels link ≡ Some y
        → get_or channels link x ≡ y
    there [] link x y e = absurd (none_some y e)
    there (z ∷ zs) zero x y e = both z y e
    there (z ∷ zs) (suc i) x y e = there zs i x y e

-- a list is where the code looked
pub at_found : {S : Type 0} (link at : ℕ) (slice items : List (ℕ × S)) (o : Option ℕ) → slice ≡ items → o ≡ Some at
    → IsPlace link slice o → IsPlace link items (Some at)
at_found link at slice items o same is place =
    subst (IsPlace link items) is (subst (λ l. IsPlace link l o) same place)

module _ (channels : List ChannelView) (link i : ℕ) (channel : ChannelView) (joined : channel ≡ get_or channels link channel) where
  pub readied_so : (part : ℕ) (bytes : List ℕ) (clock stamp : ℕ) (old : List (ℕ × SendView)) (x : ℕ × SendView) (new : SendView)
      → MayReady channels link part bytes clock old → IsPlace link old (Some i) → x ≡ get_or old i x
      → keeps_sending x.1 → new ≡ readied x.1 part (words_of bytes channel.width) stamp
      → map sender_box new.keys ≡ channel.boxes → IsPast new stamp → ((n : ℕ) → get_or bytes n 0 < 256)
      → IsReadied channels link part bytes stamp old (set old i (x.0, new))
  readied_so part bytes clock stamp old x new may place is kept made own past small =
      let p = placed link old i x place is in
      let side : x.1 ≡ may.at.side = same_side link old x.1 may.at.side p.0 may.at.there in
      let same : channel ≡ may.at.channel = same_channel channels link channel may.at.channel joined may.at.joins in
      let all : new ≡ readied may.at.side part (words_of bytes may.at.channel.width) stamp =
      made ∙ (ap (λ s. readied s part (words_of bytes channel.width) stamp) side
      ∙ ap (λ (c : ChannelView). readied may.at.side part (words_of bytes c.width) stamp) same) in
      record {
        at = may.at;
        kept = subst keeps_sending side kept;
        spelled = bytes_back bytes small
            (subst (λ n. n % 8 ≡ 0) (sym may.count) (subst keeps_sending side kept).shape.whole) may.at.channel.width
            (subst (λ n. n ≤ 8 * may.at.channel.width) (sym may.count) may.fits) may.wide;
        made = ap (λ n. set old i (x.0, n)) made ∙ (p.1 (λ s. readied s part (words_of bytes channel.width) stamp)
            ∙ ap (λ (c : ChannelView). changed_side link (λ s. readied s part (words_of bytes c.width) stamp) old) same);
        own = subst (λ (n : SendView). map sender_box n.keys ≡ may.at.channel.boxes) all
            (own ∙ ap (λ (c : ChannelView). c.boxes) same);
        past = subst (λ n. IsPast n stamp) all past;
      }

  pub never_refused : (part : ℕ) (bytes : List ℕ) (clock : ℕ) (old : List (ℕ × SendView)) (x : ℕ × SendView) (code : Code)
      → MayReady channels link part bytes clock old → IsPlace link old (Some i) → x ≡ get_or old i x
      → ready_refusal x.1 part ≡ Some code → ⊥
  never_refused part bytes clock old x code may place is refused =
      let p = placed link old i x place is in
      let side : x.1 ≡ may.at.side = same_side link old x.1 may.at.side p.0 may.at.there in
      no code (sym may.allowed ∙ (ap (λ s. ready_refusal s part) (sym side) ∙ refused))
    where
      no : (code : Code) → None ≡ Some code → ⊥
      no code h = cc

  pub tested_so : (clock : ℕ) (old : List (ℕ × SendView)) (x : ℕ × SendView) (new : SendView) (progress : Progress) (gate : ℕ)
      → MayTest channels link clock old → IsPlace link old (Some i) → x ≡ get_or old i x → keeps_sending x.1
      → new ≡ tested x.1 gate → progress ≡ test_progress x.1 clock gate
      → map sender_box new.keys ≡ channel.boxes → IsTold new progress
      → IsTested channels link clock progress old (set old i (x.0, new))
  tested_so clock old x new progress gate may place is kept made found own told =
      let p = placed link old i x place is in
      let side : x.1 ≡ may.at.side = same_side link old x.1 may.at.side p.0 may.at.there in
      let same : channel ≡ may.at.channel = same_channel channels link channel may.at.channel joined may.at.joins in
      let all : new ≡ tested may.at.side gate = made ∙ ap (λ s. tested s gate) side in
      record {
        at = may.at;
        gate = gate;
        kept = subst keeps_sending side kept;
        moved = ap (λ n. set old i (x.0, n)) made ∙ p.1 (λ s. tested s gate);
        found = found ∙ ap (λ s. test_progress s clock gate) side;
        own = subst (λ (n : SendView). map sender_box n.keys ≡ may.at.channel.boxes) all
            (own ∙ ap (λ (c : ChannelView). c.boxes) same);
        told = subst (λ n. IsTold n progress) all told;
      }

  pub taken_so : (part clock : ℕ) (old : List (ℕ × RecvView)) (x : ℕ × RecvView) (new : RecvView) (take : Take) (gate : ℕ)
      (words : List ℕ) → MayTake channels link part old → IsPlace link old (Some i) → x ≡ get_or old i x
      → keeps_receiving x.1 → length words ≡ channel.width → new ≡ took x.1 part gate words clock
      → take ≡ shown_take clock words (ready_stamp gate)
      → map receiver_box new.keys ≡ channel.boxes → (clock < take_stamp take) × (take_stamp take < 2 ^ 62)
      → IsTaken channels link part clock take old (set old i (x.0, new))
  taken_so part clock old x new take gate words may place is kept long made shown own stamp =
      let p = placed link old i x place is in
      let side : x.1 ≡ may.at.side = same_side link old x.1 may.at.side p.0 may.at.there in
      let same : channel ≡ may.at.channel = same_channel channels link channel may.at.channel joined may.at.joins in
      let all : new ≡ took may.at.side part gate words clock = made ∙ ap (λ r. took r part gate words clock) side in
      record {
        at = may.at;
        gate = gate;
        words = words;
        kept = subst keeps_receiving side kept;
        long = long ∙ ap (λ (c : ChannelView). c.width) same;
        moved = ap (λ n. set old i (x.0, n)) made ∙ p.1 (λ r. took r part gate words clock);
        shown = shown;
        own = subst (λ (n : RecvView). map receiver_box n.keys ≡ may.at.channel.boxes) all
            (own ∙ ap (λ (c : ChannelView). c.boxes) same);
        stamp = stamp;
      }
