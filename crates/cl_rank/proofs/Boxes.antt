-- What a turn on a box makes of a rank, and what it may do there.
use Rattle.std.proofs.Common.{◌≡◌, ℕ, zero, suc, ◌<◌, ◌≤◌, ◌+◌, ◌-◌, ◌*◌, List, [], ◌∷◌, ◌++◌, length, take, true, false}
use Rattle.std.proofs.Common.{Option, Some, None, get_or, replicate, refl, sym, ap, subst, ◌∙◌, rules, arith}
use Rattle.std.specs.Prelude.{map, slice_get, nat_le, nat_lt}
use Rattle.rv_image_types.specs.declared.images.ImageVersion.{ImageVersion}
use Rattle.rv_image_types.specs.declared.images.ImageVersion.TheVariants.{One, Two}
use Rattle.part_box.specs.Keys.{Sender}
use Rattle.part_channel.specs.Channels.{ChannelView, sender_box}
use Rattle.part_channel.specs.Receiving.{RecvView}
use Rattle.part_channel.specs.Sending.{IsPast, SendView, made_of, ready_refusal, readied}
use Rattle.part_channel.specs.Words.{bytes_of_words}
use Rattle.part_channel.specs.BoxWords.{words_of}
use Rattle.part_channel.proofs.Words.{length-words_of}
use Rattle.part_phase.specs.declared.phases.Phase.{Phase}
use Rattle.part_phase.specs.declared.phases.Phase.TheVariants.{Apart, Sending, Receiving}
use Rattle.part_phase.specs.declared.sending.SendPhase.{SendPhase}
use Rattle.part_phase.specs.Limits.{box_bytes, box_words, padded}
use Rattle.part_phase.specs.Phases.{changed_at, on_sending, sending_at, sending_in}
use Rattle.part_phase.specs.Sending.{readied as readied_phase}
use Rattle.cl_state.specs.declared.asking.Answer.TheVariants as answer
use Rattle.cl_state.specs.declared.asking.Ask.TheVariants as ask
use Rattle.cl_state.specs.declared.row.Row.TheVariants.{OnBox}
use Rattle.cl_state.specs.declared.row.Visit.TheVariants.{Readies}
use Rattle.cl_state.specs.Asked.{Part, asked, part_of}
use Rattle.cl_state.specs.Rank.{Rank}
use Rattle.cl_state.specs.Told.{told, told_row}
use Rattle.cl_deeds.specs.Deeds.{Act}
use Rattle.cl_rank.specs.Fitting.{RequestsFit}
use Rattle.cl_rank.specs.Sides.{ReceiverActs, SenderActs, is_place}
use Rattle.cl_sides.specs.Sides.{AreChannelsOf, AreSides, HasSender, PhaseFits}
use Rattle.cl_rank.specs.RankSides.{KeyMoves}
use Rattle.cl_sides.specs.Sides.{phase_of_sender, sender_key, sender_view, side_of, sides_in}
use Rattle.cl_sides.specs.Steps.{IsReadied, MayReady, SenderAt, changed_side}
use Rattle.cl_rank.proofs.Answered.{ready_becomes}
use Rattle.cl_rank.proofs.Kept.{kept, owned, sender_fits}
use Rattle.cl_rank.proofs.Keys.{receivers_apart, senders_move}
use Rattle.cl_sides.proofs.Lists.{same_changed, same_side}
use Rattle.cl_rank.proofs.Moves.{Moved, SameShape, fit_kept, fits_at, own_told, row_at, sending_shapes, shapes_stay, started_at, sides_told, told_by}
use Rattle.cl_rank.proofs.Rows.{CanReady, IsReadying, RowFits}
use Rattle.cl_rank.proofs.Tables.{Keeps}

-- ---- lists of bytes

take_past : (n : ℕ) (xs ys : List ℕ) → length xs ≤ n → take n (xs ++ ys) ≡ xs ++ take (n - length xs) ys
take_past n [] ys long = let same : n ≡ n - 0 = omega arith in ap (λ k. take k ys) same
take_past zero (x ∷ xs) ys long = absurd (omega (arith, long))
take_past (suc n) (x ∷ xs) ys long =
    let less : n - length xs ≡ suc n - suc (length xs) = omega arith in
    ap (λ l. x ∷ l) (take_past n xs ys (omega (arith, long)) ∙ ap (λ k. xs ++ take k ys) less)

abbrev zeros : ℕ → List ℕ
zeros n = replicate n 0

take_zeros : (k n : ℕ) → k ≤ n → take k (zeros n) ≡ zeros k
take_zeros zero n low = refl
take_zeros (suc k) zero low = absurd (omega (arith, low))
take_zeros (suc k) (suc n) low = ap (λ l. 0 ∷ l) (take_zeros k n (omega (arith, low)))

zeros_zeros : (a b : ℕ) → zeros a ++ zeros b ≡ zeros (a + b)
zeros_zeros zero b = let same : b ≡ 0 + b = omega arith in ap zeros same
zeros_zeros (suc a) b =
    let more : suc (a + b) ≡ suc a + b = omega arith in
    ap (λ l. 0 ∷ l) (zeros_zeros a b) ∙ ap zeros more

nested : (xs ys zs : List ℕ) → (xs ++ ys) ++ zs ≡ xs ++ (ys ++ zs)
nested [] ys zs = refl
nested (x ∷ xs) ys zs = ap (λ l. x ∷ l) (nested xs ys zs)

-- the first bytes of what stands in a box, and 0 behind them up to 128, are what stands in it
pub filled_up : (raw : List ℕ) (size most : ℕ) → length raw ≤ size → size ≤ most → most ≤ 128
    → raw ++ replicate (most - length raw) 0
    ≡ take most (take size (raw ++ replicate (most - length raw) 0) ++ replicate (128 - size) 0)
filled_up raw size most short fits wide =
    let inner : size - length raw ≤ most - length raw = omega (arith, fits, short) in
    let first : take size (raw ++ replicate (most - length raw) 0) ≡ raw ++ replicate (size - length raw) 0 =
    take_past size raw (replicate (most - length raw) 0) short
    ∙ ap (λ l. raw ++ l) (take_zeros (size - length raw) (most - length raw) inner) in
    let zeros : size - length raw + (128 - size) ≡ 128 - length raw = omega (arith, fits, short, wide) in
    let outer : most - length raw ≤ 128 - length raw = omega (arith, wide) in
    let long : length raw ≤ most = omega (arith, fits, short) in
    sym (ap (λ l. take most (l ++ replicate (128 - size) 0)) first
    ∙ (ap (take most) (nested raw (replicate (size - length raw) 0) (replicate (128 - size) 0)
    ∙ ap (λ l. raw ++ l) (zeros_zeros (size - length raw) (128 - size) ∙ ap (λ n. replicate n 0) zeros))
    ∙ (take_past most raw (replicate (128 - length raw) 0) long
    ∙ ap (λ l. raw ++ l) (take_zeros (most - length raw) (128 - length raw) outer))))

length_zeros : (n : ℕ) → length (zeros n) ≡ n
length_zeros zero = refl
length_zeros (suc n) = ap suc (length_zeros n)

length_both : (xs ys : List ℕ) → length (xs ++ ys) ≡ length xs + length ys
length_both [] ys = omega arith
length_both (x ∷ xs) ys = let rest : length (xs ++ ys) ≡ length xs + length ys = length_both xs ys in omega (arith, rest)

pub length_first : (n : ℕ) (xs : List ℕ) → n ≤ length xs → length (take n xs) ≡ n
length_first zero xs low = refl
length_first (suc n) [] low = absurd (omega (arith, low))
length_first (suc n) (x ∷ xs) low = ap suc (length_first n xs (omega (arith, low)))

pub box_limits : (v : ImageVersion) → (box_bytes v ≤ 128) × (box_words v ≤ 16)
box_limits One = (omega arith, omega arith)
box_limits Two = (omega arith, omega arith)

-- ---- sides that are there

no_parts : (p : ℕ) → nat_lt p 0 ≡ true → ⊥
no_parts p h = search (rules, h)

above : (part parts : ℕ) → nat_lt part parts ≡ true → nat_le parts part ≡ false
above part parts h = search (rules, h)

-- a sender whose phase has partitions
pub sender_there : (P : Option Phase) (S : Option SendView) (R : Option RecvView) (part : ℕ) → PhaseFits P S R
    → nat_lt part (sending_in P).parts ≡ true
    → (s : SendView) × (S ≡ Some s) × (sending_in P ≡ phase_of_sender s) × (R ≡ None)
sender_there None None None part fit has = absurd (no_parts part has)
sender_there None None (Some r) part fit has = absurd fit
sender_there None (Some s) None part fit has = absurd fit
sender_there None (Some s) (Some r) part fit has = absurd fit
sender_there (Some Apart) None None part fit has = absurd (no_parts part has)
sender_there (Some Apart) None (Some r) part fit has = absurd fit
sender_there (Some Apart) (Some s) None part fit has = absurd fit
sender_there (Some Apart) (Some s) (Some r) part fit has = absurd fit
sender_there (Some (Sending p)) None None part fit has = absurd fit
sender_there (Some (Sending p)) None (Some r) part fit has = absurd fit
sender_there (Some (Sending p)) (Some s) None part fit has = (s, refl, fit, refl)
sender_there (Some (Sending p)) (Some s) (Some r) part fit has = absurd fit
sender_there (Some (Receiving p)) None None part fit has = absurd fit
sender_there (Some (Receiving p)) None (Some r) part fit has = absurd (no_parts part has)
sender_there (Some (Receiving p)) (Some s) None part fit has = absurd fit
sender_there (Some (Receiving p)) (Some s) (Some r) part fit has = absurd fit

-- the channel of a sender's side
pub sender_at : (v : ImageVersion) (channels : List ChannelView) (link : ℕ) (sends : List (ℕ × SendView)) (s : SendView)
    → side_of link sends ≡ Some s → (c : Option ChannelView) → slice_get channels link ≡ c → HasSender v c s
    → (at : SenderAt channels link sends) × (at.side ≡ s) × (at.channel.width ≡ box_words v)
sender_at v channels link sends s there None joins has = absurd has
sender_at v channels link sends s there (Some c) joins has =
    (record { side = s; there = there; channel = c; joins = joins; own = has.1 }, refl, has.0)

front_next : (stamp clock front : ℕ) → stamp ≡ clock + 1 → front ≤ clock → front < stamp
front_next stamp clock front next low = omega (arith, next, low)

pub key_at : (keys : List Sender) (i : ℕ) → i < length keys → (k : Sender) × (slice_get keys i ≡ Some k)
key_at [] i low = absurd (omega (arith, low))
key_at (k ∷ keys) zero low = (k, refl)
key_at (k ∷ keys) (suc i) low = key_at keys i (omega (arith, low))

part_low : (part parts : ℕ) → nat_lt part parts ≡ true → parts ≤ 16 → {n : ℕ} → n ≡ 16 → part < n
part_low part parts low most long = let below : part < parts = grind (arith, low) in omega (arith, below, most, long)

key_read : (keys : List Sender) (i : ℕ) (k : Sender) → slice_get keys i ≡ Some k → (get_or keys i k ≡ k) × (i < length keys)
key_read [] i k h = absurd (no k h)
  where
    no : (k : Sender) → None ≡ Some k → ⊥
    no k h = cc
key_read (x ∷ xs) zero k h = (same x k h, omega arith)
  where
    same : (x k : Sender) → Some x ≡ Some k → x ≡ k
    same x k h = cc
key_read (x ∷ xs) (suc i) k h = let rest = key_read xs i k h in let low : i < length xs = rest.1 in (rest.0, omega (arith, low))

pub front_low : (s : SendView) (i clock : ℕ) (k : Sender) → IsPast s clock → slice_get s.keys i ≡ Some k → k.view.front ≤ clock
front_low s i clock k past h =
    let read = key_read s.keys i k h in
    subst (λ (x : Sender). x.view.front ≤ clock) read.0 (past i k read.1)

-- ---- a partition is made ready

module _ (old : Rank) (hart link part : ℕ) (full : List ℕ) (channels : List ChannelView)
    (sends : List (ℕ × SendView)) (recvs : List (ℕ × RecvView))
    (sides : AreSides old.site.version old.phases old.clock (sides_in sends recvs))
    (fit : RequestsFit old.requests old.phases)
    (own : AreChannelsOf old.site.version channels (sides_in sends recvs))
    (asks : asked old hart ≡ ask.Ready link part full) where
  pub readying : IsReadying old.site.version old.requests old.phases link part full (row_at old hart)
  readying = subst (λ a. RowFits old.site.version old.requests old.phases (started_at old hart) a (row_at old hart)) asks
      (fits_at old hart)

  pub there : (s : SendView) × (side_of link sends ≡ Some s) × (sending_at old.phases link ≡ phase_of_sender s)
      × (side_of link recvs ≡ None)
  there = sender_there (slice_get old.phases link) _ _ part (sides.fit link) readying.can.there

  -- the request's partition is no longer than the phase says, and that no longer than a box
  pub fits : (length readying.of.raw ≤ (sending_at old.phases link).size)
      × ((sending_at old.phases link).size ≤ box_bytes old.site.version)
  fits =
      let shape = fit.size readying.of.handle readying.of.side readying.of.there in
      let same : (sending_at old.phases link).size ≡ readying.of.side.size =
      ap (λ l. (sending_at old.phases l).size) (sym readying.of.of) ∙ shape.1 in (
        subst (λ n. length readying.of.raw ≤ n) (sym same) readying.of.count,
        subst (λ (p : SendPhase). p.size ≤ box_bytes old.site.version) (sym there.2) (sides.sizes link there.0 there.1),
      )

  pub long_enough : (sending_at old.phases link).size ≤ length full
  long_enough =
      let raw = length readying.of.raw in
      let zeros : length (replicate (box_bytes old.site.version - raw) 0) ≡ box_bytes old.site.version - raw =
      length_zeros (box_bytes old.site.version - raw) in
      let whole : length (padded old.site.version readying.of.raw) ≡ raw + length (replicate (box_bytes old.site.version - raw) 0) =
      length_both readying.of.raw _ in
      let all : length full ≡ length (padded old.site.version readying.of.raw) = ap length readying.of.filled in
      let low = fits.1 in
      omega (arith, zeros, whole, all, low)

  pub may_ready : MayReady channels link part (take (sending_at old.phases link).size full) old.clock sends
  may_ready =
      let at = sender_at old.site.version channels link sends there.0 there.1 (slice_get channels link) refl
      (subst (λ c. HasSender old.site.version c there.0) refl (own.sends link there.0 there.1)) in
      let side : at.0.side ≡ there.0 = at.1 in
      let phase : sending_at old.phases link ≡ phase_of_sender at.0.side = there.2 ∙ ap phase_of_sender (sym side) in
      record {
        at = at.0;
        allowed = allowed at.0.side (subst (λ p. CanReady p part) phase readying.can);
        count = length_first _ full long_enough ∙ ap (λ (p : SendPhase). p.size) phase;
        fits = subst (λ n. at.0.side.size ≤ 8 * n) (sym at.2)
            (subst (λ (s : SendView). s.size ≤ box_bytes old.site.version) (sym side) (sides.sizes link there.0 there.1));
        wide = subst (λ n. n ≤ 16) (sym at.2) (box_limits old.site.version).1;
        past = subst (λ s. IsPast s old.clock) (sym side) (sides.past link there.0 there.1);
      }
    where
      allowed : (s : SendView) → CanReady (phase_of_sender s) part → ready_refusal s part ≡ None
      allowed s can = rw (above part s.parts can.there, can.going, can.unready) refl

  -- the words spell what stands in the box
  spells : (words : List ℕ)
      → bytes_of_words words ≡ take (sending_at old.phases link).size full
      ++ replicate (128 - length (take (sending_at old.phases link).size full)) 0
      → full ≡ take (box_bytes old.site.version) (bytes_of_words words)
  spells words spelled =
      let raw = readying.of.raw in
      let size = (sending_at old.phases link).size in
      let most = box_bytes old.site.version in
      let count : length (take size full) ≡ size = length_first size full long_enough in
      readying.of.filled ∙ (filled_up raw size most fits.0 fits.1 (box_limits old.site.version).0
      ∙ sym (ap (take most) (spelled ∙ (ap (λ n. take size full ++ zeros (128 - n)) count
      ∙ ap (λ l. take size l ++ zeros (128 - size)) readying.of.filled))))

  -- what a partition that is made ready makes of the rank
  pub ready_moved : (new : Rank) (stamp : ℕ) (sent : List (ℕ × SendView)) → stamp ≡ old.clock + 1
      → new ≡ told old hart answer.Alone stamp
      → IsReadied channels link part (take (sending_at old.phases link).size full) stamp sends sent
      → Moved old new (sides_in sends recvs) (sides_in sent recvs) stamp (Act.Ready link part full)
  ready_moved new stamp sent next is done =
      let by = told_by old hart answer.Alone stamp new is in
      let becomes = ready_becomes old.site link part (part_of old hart) in
      let row : told_row old.site (row_at old hart) answer.Alone (part_of old hart)
      ≡ told_row old.site (OnBox (Readies link part)) answer.Alone (part_of old hart) =
      ap (λ r. told_row old.site r answer.Alone (part_of old hart)) readying.row in
      let phases : new.phases ≡ changed_at link (on_sending (readied_phase part)) old.phases =
      by.phases ∙ (ap (λ (p : Part). p.phases) row ∙ becomes.phases) in
      let table : new.requests ≡ (told_row old.site (OnBox (Readies link part)) answer.Alone (part_of old hart)).requests =
      by.requests ∙ ap (λ (p : Part). p.requests) row in
      let width = done.at.channel.width in
      let words = words_of (take (sending_at old.phases link).size full) width in
      let side : done.at.side ≡ there.0 = same_side link sends done.at.side there.0 done.at.there there.1 in
      let same_recvs : changed_side link (λ r. r) recvs ≡ recvs = same_changed link (λ r. r) recvs (λ r h. refl) in
      let all : sides_in (changed_side link (λ s. readied s part words stamp) sends) (changed_side link (λ r. r) recvs)
      ≡ sides_in sent recvs =
      ap (λ rs. sides_in (changed_side link (λ s. readied s part words stamp) sends) rs) same_recvs
      ∙ ap (λ ss. sides_in ss recvs) (sym done.made) in
      let only : (s : SendView) → side_of link sends ≡ Some s → s ≡ done.at.side =
      λ s h. same_side link sends s done.at.side h done.at.there in
      let can : CanReady (phase_of_sender done.at.side) part =
      subst (λ p. CanReady p part) (there.2 ∙ ap phase_of_sender (sym side)) readying.can in
      let key = key_at done.at.side.keys part (part_low part done.at.side.parts can.there done.kept.kept.most
      done.kept.kept.long) in
      let wide : width ≡ box_words old.site.version =
      (subst (λ c. HasSender old.site.version c done.at.side) done.at.joins (own.sends link done.at.side done.at.there)).0 in
      let acts : (k : Sender) → slice_get done.at.side.keys part ≡ Some k
      → SenderActs old.site.version stamp (Act.Ready link part full) k.view (made_of words stamp k).view =
      λ k h. (
        words,
        length-words_of (take (sending_at old.phases link).size full) width ∙ wide,
        spells words done.spelled,
        (done.kept.kept.lanes part k h).waiting can.unready,
        front_next stamp old.clock k.view.front next
            (front_low done.at.side part old.clock k (sides.past link done.at.side done.at.there) h),
        refl,
      ) in
      record {
        sides = sides_told old.site.version old new _ stamp _ refl by.site by.clock phases
            (subst (λ w. AreSides old.site.version (changed_at link (on_sending (readied_phase part)) old.phases) stamp w) all
            (kept old.site.version old.phases old.clock stamp sends recvs link (on_sending (readied_phase part))
            (λ s. readied s part words stamp) (λ r. r) sides (omega (arith, next)) (record {
              fit = sender_fits (readied_phase part) (λ s. readied s part words stamp) (slice_get old.phases link) _ _
                  (sides.fit link) (λ s h. refl);
              size = λ s h. sides.sizes link s h;
              past = λ s h. subst (λ x. IsPast (readied x part words stamp) stamp) (sym (only s h)) done.past;
              uncut = λ r h. sides.uncut link r h;
            })));
        fit = fit_kept old.requests new.requests old.phases new.phases fit
            (subst (λ t. Keeps old.requests t) (sym table) becomes.keeps)
            (λ l. subst (λ ps. SameShape (sending_at ps l) (sending_at old.phases l)) (sym phases)
            (shapes_stay (on_sending (readied_phase part)) (sending_shapes (readied_phase part) (λ p. (refl, refl)))
            old.phases link l));
        keys = record {
          there = (key.0.view, ap (λ o. sender_key o part) done.at.there ∙ ap sender_view key.1);
          sends = λ l p. subst (λ ss. KeyMoves (is_place l p (Some (link, part)))
              (SenderActs old.site.version stamp (Act.Ready link part full)) (sender_key (side_of l sends) p)
              (sender_key (side_of l ss) p)) (sym done.made)
              (senders_move link part (λ s. readied s part words stamp) (made_of words stamp) sends
              (SenderActs old.site.version stamp (Act.Ready link part full)) (λ s h. refl)
              (λ s k h at. acts k (subst (λ (x : SendView). slice_get x.keys part ≡ Some k) (only s h) at)) l p);
          recvs = λ l p. receivers_apart link part recvs
              (ReceiverActs old.site.version stamp (Act.Ready link part full)) there.3 l p;
        };
        own = λ chs own'. own_told old new chs _ by.site (subst (λ w. AreChannelsOf old.site.version chs w) all
            (owned old.site.version old.phases old.clock stamp sends recvs link (on_sending (readied_phase part))
            (λ s. readied s part words stamp) (λ r. r) chs own'
            (λ s h. subst (λ (x : SendView). map sender_box (readied x part words stamp).keys ≡ map sender_box x.keys)
            (sym (only s h)) (done.own ∙ sym done.at.own)) (λ r h. refl)));
      }
