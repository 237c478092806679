use Rattle.std.proofs.Common.{◌≡◌, ◌∙◌, refl, sym, ap, subst, map, None}
use Rattle.std.proofs.lemmas.Option.{same_Some, slice_get_read}
use Rattle.cl_record.specs.declared.seats.Seat.{Seat}
use Rattle.cl_run.proofs.Seats.{no_stop, some_stop, station_at}
use Rattle.cl_machine.proofs.Lists.{get-set_same}
use Rattle.cl_rank.specs.RankSides.{AreChannelsOf}
use Rattle.cl_rank.specs.Turning.{Answered}
use Rattle.cl_rank.specs.declared.desks.PlainDesk.{PlainDesk}
use Rattle.cl_record.specs.Seats.{GoesOn, station}
use Rattle.cl_run.specs.Driver.{Agree, stations}
use Rattle.cl_run.proofs.Desks.{goes_plainly}
use Rattle.cl_run.proofs.Joined.{links_stay}
use Rattle.cl_run.proofs.Slots.{seats_joined}
use Rattle.cl_run.proofs.driver.Driver.slot.Goals as goal

pub returns-then-is_some : goal.returns-then-is_some
returns-then-is_some c =
    let seats = c.args.self.now.seats in
    let seat = c.index.result.now in
    let at = slice_get_read seats.items _ c.args.rank seat seats.ok.0 c.requires.there c.index.ensures in
    let stop = some_stop seat.stop (sym c.is_some.ensures ∙ c.if-is_some.true) in
    (refl, (station seat, stop.0, station_at seats.items c.args.rank seat at, stop.1))

pub turn-requires-clause-channels : goal.turn-requires-clause-channels
turn-requires-clause-channels c =
    let seats = c.args.self.now.seats in
    let seat = c.index_mut.result.now in
    let at = slice_get_read seats.items _ c.args.rank seat seats.ok.0 c.requires.there c.index_mut.ensures.value in
    let own = c.requires.joined.each c.args.rank (station seat) (station_at seats.items c.args.rank seat at) in
    subst (λ cs. AreChannelsOf (station seat).rank.site.version cs (station seat).sides)
    (sym c.as_slice-channels.ensures.value) own.over

pub agree-requires-clause-joined : goal.agree-requires-clause-joined
agree-requires-clause-joined c =
    let driver = c.args.self.now in
    let seats = driver.seats in
    let seat = c.index_mut.result.now in
    let later = c.turn.new.self in
    let goes = goes_plainly _ (λ (d : PlainDesk). d.hub.now) (λ before rank hart clock request told after h. h.1)
    seat.plan.now (station seat) (station later) _ c.turn.new.desk c.turn.ensures.goes in
    let at = slice_get_read seats.items _ c.args.rank seat seats.ok.0 c.requires.there c.index_mut.ensures.value in
    seats_joined c.args.rank driver _ seat later at goes
    (subst (λ cs. AreChannelsOf (station later).rank.site.version cs (station later).sides)
    c.as_slice-channels.ensures.value c.turn.ensures.channels)
    refl refl c.requires.joined

pub returns : goal.returns
returns c =
    let driver = c.args.self.now in
    let seats = driver.seats in
    let seat = c.index_mut.result.now in
    let later = c.turn.new.self in
    let hub = c.turn.new.desk.hub.now in
    let goes = goes_plainly _ (λ (d : PlainDesk). d.hub.now) (λ before rank hart clock request told after h. h.1)
    seat.plan.now (station seat) (station later) _ c.turn.new.desk c.turn.ensures.goes in
    let at = slice_get_read seats.items _ c.args.rank seat seats.ok.0 c.requires.there c.index_mut.ensures.value in
    let first =
    slice_get_read seats.items _ c.args.rank c.index.result.now seats.ok.0 c.requires.there c.index.ensures in
    let same : c.index.result.now ≡ seat = same_Some _ _ (sym first ∙ at) in
    let running : seat.stop ≡ None =
    ap (λ (s : Seat). s.stop) (sym same)
    ∙ no_stop c.index.result.now.stop (sym c.is_some.ensures ∙ c.if-is_some.false) in
    let later_at = get-set_same seats.items c.args.rank seat later at in
    let agree = c.agree.ensures.agree (station later) (station_at _ c.args.rank later later_at) in
    let links = links_stay seat.plan.now (station seat) (station later) driver.hub hub goes in
    record {
      seat = seat;
      later = later;
      there = at;
      runs = running;
      goes = subst (λ hub. GoesOn Answered seat.plan.now (station seat) driver.hub (station later) hub)
          (sym c.agree.ensures.hub) goes;
      plan_stays = c.turn.ensures.plan;
      channels = subst (λ cs. AreChannelsOf (station later).rank.site.version cs (station later).sides)
          c.as_slice-channels.ensures.value c.turn.ensures.channels;
      seats_are = c.agree.ensures.seats;
      channels_stay = c.agree.ensures.channels;
      agree = subst (λ ls. Agree ls (stations c.agree.new.self) (station later).asked) links
          (subst (λ ss. Agree hub.links ss (station later).asked)
          (ap (map station) (sym c.agree.ensures.seats)) agree);
    }
