-- What each turn makes of a rank: its sides go with its phases again, and its keys move by the act.
use Rattle.std.proofs.Common.{◌≡◌, ℕ, zero, suc, ◌<◌, ◌≤◌, List, [], ◌∷◌, Bool, true, false, Option, Some, None}
use Rattle.std.proofs.Common.{refl, sym, ap, subst, ◌∙◌, rules}
use Rattle.std.specs.Prelude.{map, not, option_map, nat_le, nat_lt, if◌then◌else◌}
use Rattle.rv_image_types.specs.declared.images.ImageVersion.{ImageVersion}
use Rattle.mp_request.specs.Table.{Table}
use Rattle.part_channel.specs.Channels.{ChannelView, receiver_box, sender_box}
use Rattle.part_channel.specs.Receiving.{RecvView}
use Rattle.part_channel.specs.Sending.{SendView, IsPast}
use Rattle.part_phase.specs.declared.phases.Phase.{Phase}
use Rattle.part_phase.specs.declared.phases.Phase.TheVariants.{Apart, Sending, Receiving}
use Rattle.part_phase.specs.declared.receiving.RecvPhase.{RecvPhase}
use Rattle.part_phase.specs.declared.sending.SendPhase.{SendPhase}
use Rattle.part_phase.specs.Limits.{box_bytes}
use Rattle.part_phase.specs.Phases.{begun, changed_at, on_receiving, on_sending, sending_at, sending_in}
use Rattle.part_phase.specs.Receiving.{begun_receiving}
use Rattle.part_phase.specs.Sending.{all_freed, begun_sending}
use Rattle.cl_calls.specs.declared.sites.Site.{Site}
use Rattle.cl_state.specs.declared.asking.Answer.{Answer}
use Rattle.cl_state.specs.declared.asking.Answer.TheVariants as answer
use Rattle.cl_state.specs.declared.asking.Ask.{Ask}
use Rattle.cl_state.specs.declared.row.Row.{Row}
use Rattle.cl_state.specs.Asked.{asked, doing, part_of}
use Rattle.cl_state.specs.Moves.{started_in}
use Rattle.cl_state.specs.Rank.{Rank}
use Rattle.cl_state.specs.Table.{row_in}
use Rattle.cl_state.specs.Told.{told, told_row}
use Rattle.cl_state.proofs.Passed.{passed}
use Rattle.cl_deeds.specs.Deeds.{Act, Suits, request_of}
use Rattle.cl_rank.specs.Fitting.{RequestsFit}
use Rattle.cl_sides.specs.Sides.{AreChannelsOf, AreSides, PhaseFits, Sides, phase_of_receiver}
use Rattle.cl_rank.specs.RankSides.{KeysMove}
use Rattle.cl_sides.specs.Sides.{phase_of_sender, receiver_key, sender_key, side_of, sides_in}
use Rattle.cl_rank.specs.Sides.{box_id_of}
use Rattle.cl_sides.specs.Steps.{begun_at, begun_receiver, begun_sender, changed_side}
use Rattle.cl_rank.proofs.Answered.{alone_becomes, begun_at as begun_phases}
use Rattle.cl_rank.proofs.Kept.{kept, owned, past_later}
use Rattle.cl_rank.proofs.Keys.{keys_stay, receivers_stay, senders_stay, somewhere}
use Rattle.cl_rank.proofs.Rows.{AloneRow, RowFits, row_fits}
use Rattle.cl_rank.proofs.Tables.{Keeps}

-- ---- the row of a turn

abbrev pub row_at : Rank → ℕ → Row
row_at r hart = row_in r.site hart r.memory r.requests r.phases (doing r.site (part_of r hart))

abbrev pub started_at : Rank → ℕ → Option ℕ
started_at r hart = started_in r.requests (doing r.site (part_of r hart))

pub fits_at : (r : Rank) (hart : ℕ)
    → RowFits r.site.version r.requests r.phases (started_at r hart) (asked r hart) (row_at r hart)
unfolding asked
fits_at r hart =
    row_fits r.site hart (part_of r hart) (doing r.site (part_of r hart)) (passed r.site (part_of r hart))

-- what is told is what the row does with the answer
pub record ToldBy (old : Rank) (hart : ℕ) (a : Answer) (stamp : ℕ) (new : Rank) : Type 0 where
  pub site : new.site ≡ old.site
  pub clock : new.clock ≡ stamp
  pub phases : new.phases ≡ (told_row old.site (row_at old hart) a (part_of old hart)).phases
  pub requests : new.requests ≡ (told_row old.site (row_at old hart) a (part_of old hart)).requests

told_itself : (old : Rank) (hart : ℕ) (a : Answer) (stamp : ℕ) → ToldBy old hart a stamp (told old hart a stamp)
unfolding told
told_itself old hart a stamp = record { site = refl; clock = refl; phases = refl; requests = refl }

pub told_by : (old : Rank) (hart : ℕ) (a : Answer) (stamp : ℕ) (new : Rank) → new ≡ told old hart a stamp
    → ToldBy old hart a stamp new
told_by old hart a stamp new is = subst (ToldBy old hart a stamp) (sym is) (told_itself old hart a stamp)

-- ---- shapes of requests

abbrev pub SameShape : SendPhase → SendPhase → Type 0
SameShape p q = (p.parts ≡ q.parts) × (p.size ≡ q.size)

pub shapes_stay : (change : Phase → Phase)
    → ((p : Phase) → SameShape (sending_in (Some (change p))) (sending_in (Some p))) → (ps : List Phase) (link l : ℕ)
    → SameShape (sending_at (changed_at link change ps) l) (sending_at ps l)
shapes_stay change same [] link l = (refl, refl)
shapes_stay change same (p ∷ ps) zero zero = same p
shapes_stay change same (p ∷ ps) zero (suc l) = (refl, refl)
shapes_stay change same (p ∷ ps) (suc link) zero = (refl, refl)
shapes_stay change same (p ∷ ps) (suc link) (suc l) = shapes_stay change same ps link l

pub fit_kept : (old new : Table) (ps qs : List Phase) → RequestsFit old ps → Keeps old new
    → ((l : ℕ) → SameShape (sending_at qs l) (sending_at ps l)) → RequestsFit new qs
fit_kept old new ps qs fit keeps same = record {
  size = λ handle side is.
      let had = fit.size handle side (keeps handle side is) in
      let shape = same side.link in
      (subst (λ n. 0 < n) (sym shape.0) had.0, shape.1 ∙ had.1);
}

pub receiving_shapes : (g : RecvPhase → RecvPhase) (p : Phase)
    → SameShape (sending_in (Some (on_receiving g p))) (sending_in (Some p))
receiving_shapes g Apart = (refl, refl)
receiving_shapes g (Sending p) = (refl, refl)
receiving_shapes g (Receiving p) = (refl, refl)

pub sending_shapes : (g : SendPhase → SendPhase) → ((p : SendPhase) → SameShape (g p) p) → (p : Phase)
    → SameShape (sending_in (Some (on_sending g p))) (sending_in (Some p))
sending_shapes g same Apart = (refl, refl)
sending_shapes g same (Sending p) = same p
sending_shapes g same (Receiving p) = (refl, refl)

begun_shape : (b : Bool) (p q : SendPhase) → SameShape p q → SameShape (if b then p else q) q
begun_shape true p q same = same
begun_shape false p q same = (refl, refl)

begun_shapes : (p : Phase) → SameShape (sending_in (Some (begun p))) (sending_in (Some p))
begun_shapes Apart = (refl, refl)
begun_shapes (Sending p) = begun_shape (all_freed p) _ p (refl, refl)
begun_shapes (Receiving p) = (refl, refl)

-- ---- what a turn makes of a rank and its sides

pub record Moved (old new : Rank) (before after : Sides) (stamp : ℕ) (act : Act) : Type 0 where
  pub sides : AreSides new.site.version new.phases new.clock after
  pub fit : RequestsFit new.requests new.phases
  pub keys : KeysMove old.site.version stamp act before after
  pub own : (channels : List ChannelView) → AreChannelsOf old.site.version channels before
      → AreChannelsOf new.site.version channels after

pub own_told : (old new : Rank) (channels : List ChannelView) (after : Sides) → new.site ≡ old.site
    → AreChannelsOf old.site.version channels after → AreChannelsOf new.site.version channels after
own_told old new channels after site own =
    subst (λ (s : Site). AreChannelsOf s.version channels after) (sym site) own

pub later : (v : ImageVersion) (ps : List Phase) (clock stamp : ℕ) (sides : Sides) → clock ≤ stamp
    → AreSides v ps clock sides → AreSides v ps stamp sides
later v ps clock stamp sides low old = record {
  fit = old.fit;
  sizes = old.sizes;
  past = λ l s is. past_later s.keys clock stamp low (old.past l s is);
  uncut = old.uncut;
}

-- the sides of a told rank, by its phases
pub sides_told : (v : ImageVersion) (old new : Rank) (ps : List Phase) (stamp : ℕ) (after : Sides)
    → v ≡ old.site.version → new.site ≡ old.site → new.clock ≡ stamp → new.phases ≡ ps → AreSides v ps stamp after
    → AreSides new.site.version new.phases new.clock after
sides_told v old new ps stamp after version site clock phases sides =
    subst (λ c. AreSides new.site.version new.phases c after) (sym clock)
    (subst (λ p. AreSides new.site.version p stamp after) (sym phases)
    (subst (λ w. AreSides w ps stamp after) (version ∙ sym (ap (λ (s : Site). s.version) site)) sides))

-- ---- a turn that asks nobody

alone_row : (v : ImageVersion) (table : Table) (ps : List Phase) (started : Option ℕ) (asks : Ask) (row : Row) (act : Act)
    → Suits asks act → box_id_of act ≡ None → request_of act ≡ None → RowFits v table ps started asks row
    → AloneRow started row
alone_row v table ps started asks row Act.Plain is place quiet fits =
    (subst (λ a. RowFits v table ps started a row) is fits).1
alone_row v table ps started asks row Act.Local is place quiet fits = subst (λ a. RowFits v table ps started a row) is fits
alone_row v table ps started asks row Act.Held is place quiet fits = subst (λ a. RowFits v table ps started a row) is fits
alone_row v table ps started asks row Act.Idle is place quiet fits = subst (λ a. RowFits v table ps started a row) is fits
alone_row v table ps started asks row (Act.Hub clock request reply) is place quiet fits = absurd (some_none quiet)
  where
    some_none : Some request ≡ None → ⊥
    some_none h = cc
alone_row v table ps started asks row (Act.Ready link part bytes) is place quiet fits = absurd (somewhere (link, part) place)
alone_row v table ps started asks row (Act.Take link part gate bytes) is place quiet fits = absurd (somewhere (link, part) place)
alone_row v table ps started asks row (Act.Miss link part) is place quiet fits = absurd (somewhere (link, part) place)
alone_row v table ps started asks row (Act.Freed link part gate) is place quiet fits = absurd (somewhere (link, part) place)

-- a side begins its phase as the phase does
less_or_not : (a b : ℕ) (c : Bool) → nat_lt a b ≡ c → nat_le b a ≡ not c
less_or_not a b true is = search (rules, is)
less_or_not a b false is = search (rules, is)

pub begun_sender_fits : (s : SendView) → begun_sending (phase_of_sender s) ≡ phase_of_sender (begun_sender s)
begun_sender_fits s = go (nat_lt s.freed s.parts) refl
  where
    go : (c : Bool) → nat_lt s.freed s.parts ≡ c → begun_sending (phase_of_sender s) ≡ phase_of_sender (begun_sender s)
    go true e = rw (e, less_or_not s.freed s.parts true e) refl
    go false e = rw (e, less_or_not s.freed s.parts false e) refl

pub begun_receiver_fits : (r : RecvView) → begun_receiving (phase_of_receiver r) ≡ phase_of_receiver (begun_receiver r)
begun_receiver_fits r = go r.active refl
  where
    go : (c : Bool) → r.active ≡ c → begun_receiving (phase_of_receiver r) ≡ phase_of_receiver (begun_receiver r)
    go true e = rw e refl
    go false e = rw e refl

begun_fits : (P : Option Phase) (S : Option SendView) (R : Option RecvView) → PhaseFits P S R
    → PhaseFits (option_map begun P) (option_map begun_sender S) (option_map begun_receiver R)
begun_fits None None None fit = fit
begun_fits None None (Some r) fit = fit
begun_fits None (Some s) None fit = fit
begun_fits None (Some s) (Some r) fit = fit
begun_fits (Some Apart) None None fit = fit
begun_fits (Some Apart) None (Some r) fit = fit
begun_fits (Some Apart) (Some s) None fit = fit
begun_fits (Some Apart) (Some s) (Some r) fit = fit
begun_fits (Some (Sending p)) None None fit = fit
begun_fits (Some (Sending p)) None (Some r) fit = fit
begun_fits (Some (Sending p)) (Some s) None fit = ap begun_sending fit ∙ begun_sender_fits s
begun_fits (Some (Sending p)) (Some s) (Some r) fit = fit
begun_fits (Some (Receiving p)) None None fit = fit
begun_fits (Some (Receiving p)) None (Some r) fit = ap begun_receiving fit ∙ begun_receiver_fits r
begun_fits (Some (Receiving p)) (Some s) None fit = fit
begun_fits (Some (Receiving p)) (Some s) (Some r) fit = fit

module _ {S : Type 0} where
  by_case : (P : S → Type 0) (b : Bool) (x y : S) → P x → P y → P (if b then x else y)
  by_case P true x y p q = p
  by_case P false x y p q = q

begun_keys : (s : SendView) → (begun_sender s).keys ≡ s.keys
begun_keys s = by_case (λ (x : SendView). x.keys ≡ s.keys) (nat_lt s.freed s.parts) s _ refl refl

awaited_keys : (r : RecvView) → (begun_receiver r).keys ≡ r.keys
awaited_keys r = by_case (λ (x : RecvView). x.keys ≡ r.keys) r.active r _ refl refl

module _ (v : ImageVersion) (ps : List Phase) (clock stamp : ℕ) (sends : List (ℕ × SendView)) (recvs : List (ℕ × RecvView)) where
  begun_kept : (link : ℕ) → AreSides v ps clock (sides_in sends recvs) → clock ≤ stamp
      → AreSides v (changed_at link begun ps) stamp
      (sides_in (changed_side link begun_sender sends) (changed_side link begun_receiver recvs))
  begun_kept link old low = kept v ps clock stamp sends recvs link begun begun_sender begun_receiver old low (record {
    fit = begun_fits _ _ _ (old.fit link);
    size = λ s is.
        by_case (λ (x : SendView). x.size ≤ box_bytes v) (nat_lt s.freed s.parts) s _ (old.sizes link s is)
        (old.sizes link s is);
    past = λ s is.
        subst (λ keys. IsPast (record s { keys = keys }) stamp) (sym (begun_keys s))
        (past_later s.keys clock stamp low (old.past link s is));
    uncut = λ r is.
        by_case (λ (x : RecvView). x.parts ≡ 0 → x.boxes ≡ 0) r.active r _ (old.uncut link r is) (old.uncut link r is);
  })

  begun_sides : (started : Option ℕ) → AreSides v ps clock (sides_in sends recvs) → clock ≤ stamp
      → AreSides v (begun_phases started ps) stamp
      (sides_in (begun_at started begun_sender sends) (begun_at started begun_receiver recvs))
  begun_sides None old low = later v ps clock stamp _ low old
  begun_sides (Some link) old low = begun_kept link old low

begun_shapes_all : (started : Option ℕ) (ps : List Phase) (l : ℕ)
    → SameShape (sending_at (begun_phases started ps) l) (sending_at ps l)
begun_shapes_all None ps l = (refl, refl)
begun_shapes_all (Some link) ps l = shapes_stay begun begun_shapes ps link l

started_sides : (v : ImageVersion) (channels : List ChannelView) (ps : List Phase) (sends : List (ℕ × SendView))
    (recvs : List (ℕ × RecvView)) (started : Option ℕ) → AreChannelsOf v channels (sides_in sends recvs)
    → AreChannelsOf v channels (sides_in (begun_at started begun_sender sends) (begun_at started begun_receiver recvs))
started_sides v channels ps sends recvs None own = own
started_sides v channels ps sends recvs (Some link) own =
    owned v ps 0 0 sends recvs link begun begun_sender begun_receiver channels own
    (λ s is. ap (map sender_box) (begun_keys s)) (λ r is. ap (map receiver_box) (awaited_keys r))

started_senders : (started : Option ℕ) (sends : List (ℕ × SendView)) (l p : ℕ)
    → sender_key (side_of l (begun_at started begun_sender sends)) p ≡ sender_key (side_of l sends) p
started_senders None sends l p = refl
started_senders (Some link) sends l p = senders_stay link begun_sender sends (λ s is. begun_keys s) l p

started_receivers : (started : Option ℕ) (recvs : List (ℕ × RecvView)) (l p : ℕ)
    → receiver_key (side_of l (begun_at started begun_receiver recvs)) p ≡ receiver_key (side_of l recvs) p
started_receivers None recvs l p = refl
started_receivers (Some link) recvs l p = receivers_stay link begun_receiver recvs (λ r is. awaited_keys r) l p

pub alone_moved : (old new : Rank) (hart stamp : ℕ) (act : Act) (sends : List (ℕ × SendView)) (recvs : List (ℕ × RecvView))
    → AreSides old.site.version old.phases old.clock (sides_in sends recvs) → RequestsFit old.requests old.phases
    → Suits (asked old hart) act → box_id_of act ≡ None → request_of act ≡ None → old.clock ≤ stamp
    → new ≡ told old hart answer.Alone stamp
    → Moved old new (sides_in sends recvs)
    (sides_in (begun_at (started_at old hart) begun_sender sends) (begun_at (started_at old hart) begun_receiver recvs))
    stamp act
alone_moved old new hart stamp act sends recvs sides fit answers place quiet low is =
    let by = told_by old hart answer.Alone stamp new is in
    let row = alone_row old.site.version old.requests old.phases (started_at old hart) (asked old hart) (row_at old hart) act
    answers place quiet (fits_at old hart) in
    let becomes = alone_becomes old.site (row_at old hart) (started_at old hart) (part_of old hart) row in
    let phases : new.phases ≡ begun_phases (started_at old hart) old.phases = by.phases ∙ becomes.phases in
    record {
      sides = sides_told old.site.version old new _ stamp _ refl by.site by.clock phases
          (begun_sides old.site.version old.phases old.clock stamp sends recvs (started_at old hart) sides low);
      fit = fit_kept old.requests new.requests old.phases new.phases fit
          (subst (λ t. Keeps old.requests t) (sym by.requests) becomes.keeps)
          (λ l. subst (λ ps. SameShape (sending_at ps l) (sending_at old.phases l)) (sym phases)
          (begun_shapes_all (started_at old hart) old.phases l));
      keys = keys_stay old.site.version stamp act _ _ place (started_senders (started_at old hart) sends)
          (started_receivers (started_at old hart) recvs);
      own = λ channels own. own_told old new channels _ by.site
          (started_sides old.site.version channels old.phases sends recvs (started_at old hart) own);
    }
