use Rattle.std.proofs.Common.{◌∙◌, sym, ap, subst, arith, length, List, map, slice_index_or}
use Rattle.std.proofs.lemmas.List.{with_items_is}
use Rattle.std.proofs.lemmas.Option.{slice_get-get_or, slice_get_read}
use Rattle.rv_image_types.specs.declared.images.Link.{Link}
use Rattle.rv_image_types.specs.Image.{IsLink}
use Rattle.part_channel.specs.Channels.{ChannelView}
use Rattle.cl_record.specs.Seats.{station}
use Rattle.cl_run.specs.Driver.{HaveKeys, KeysAgree}
use Rattle.cl_record.specs.declared.seats.Seat.{Seat}
use Rattle.cl_record.proofs.Elements.{link_at}
use Rattle.cl_run.proofs.Pairs.{agree_asked, asked_there, have_keys}
use Rattle.cl_run.proofs.driver.Driver.agree.Goals as goal

pub bounds-links-place : goal.bounds-links-place
bounds-links-place c =
    let seats = c.args.self.now.seats in
    let at = slice_get_read seats.items _ c.args.rank c.index.result.now seats.ok.0 c.requires.there c.index.ensures in
    let there =
    asked_there c.args.self.now c.requires.joined c.args.rank c.index.result.now c.in-Some.place at c.in-Some.is in
    omega (arith, there.0, ap (λ (ls : List Link). length ls) c.links.ensures)

pub agree_on-requires-clause-link : goal.agree_on-requires-clause-link
agree_on-requires-clause-link c =
    let driver = c.args.self.now in
    let none : Link = record { from = 0; to = 0 } in
    let at = slice_get_read driver.seats.items _ c.args.rank c.index.result.now driver.seats.ok.0 c.requires.there
    c.index.ensures in
    let there = asked_there driver c.requires.joined c.args.rank c.index.result.now c.in-Some.place at c.in-Some.is in
    subst (λ (ls : List Link). IsLink (length c.as_mut_slice.result.now) (slice_index_or ls c.in-Some.place.link none))
    (sym c.links.ensures)
    (subst (λ (xs : List Seat).
    IsLink (length xs) (slice_index_or driver.hub.links c.in-Some.place.link none)) (sym c.as_mut_slice.ensures.value)
    (link_at (length driver.seats.items) driver.hub.links c.in-Some.place.link _ c.requires.joined.links
    (slice_get-get_or driver.hub.links c.in-Some.place.link none there.0)))

pub agree_on-requires-clause-keys : goal.agree_on-requires-clause-keys
agree_on-requires-clause-keys c =
    let driver = c.args.self.now in
    let none : Link = record { from = 0; to = 0 } in
    let place = c.in-Some.place in
    let at = slice_get_read driver.seats.items _ c.args.rank c.index.result.now driver.seats.ok.0 c.requires.there
    c.index.ensures in
    let there = asked_there driver c.requires.joined c.args.rank c.index.result.now place at c.in-Some.is in
    subst (λ (ls : List Link).
    HaveKeys (map station c.as_mut_slice.result.now) c.as_slice.result.now (slice_index_or ls place.link none) place.link
    place.part) (sym c.links.ensures)
    (subst (λ (xs : List Seat).
    HaveKeys (map station xs) c.as_slice.result.now (slice_index_or driver.hub.links place.link none) place.link
    place.part) (sym c.as_mut_slice.ensures.value)
    (subst (λ (cs : List ChannelView).
    HaveKeys (map station driver.seats.items) cs (slice_index_or driver.hub.links place.link none) place.link
    place.part) (sym c.as_slice.ensures.value)
    (have_keys driver c.requires.joined place.link place.part (slice_index_or driver.hub.links place.link none)
    (slice_get-get_or driver.hub.links place.link none there.0) there.1)))

pub returns-clause-seats : goal.returns-clause-seats
returns-clause-seats c =
    let seats = c.args.self.now.seats in
    let same = c.agree_on.ensures.same ∙ c.as_mut_slice.ensures.value in
    with_items_is seats c.agree_on.new.seats (ap (λ (xs : List Seat). length xs) same ∙ sym seats.ok.0) ∙ same

pub returns-clause-agree : goal.returns-clause-agree
returns-clause-agree c =
    let driver = c.args.self.now in
    let none : Link = record { from = 0; to = 0 } in
    let place = c.in-Some.place in
    let at = slice_get_read driver.seats.items _ c.args.rank c.index.result.now driver.seats.ok.0 c.requires.there
    c.index.ensures in
    let there = asked_there driver c.requires.joined c.args.rank c.index.result.now place at c.in-Some.is in
    agree_asked driver c.requires.joined c.args.rank c.index.result.now place
    (slice_index_or driver.hub.links place.link none) at c.in-Some.is
    (slice_get-get_or driver.hub.links place.link none there.0)
    (subst (λ (ls : List Link).
    KeysAgree (map station driver.seats.items) (slice_index_or ls place.link none) place.link place.part) c.links.ensures
    (subst (λ (xs : List Seat).
    KeysAgree (map station xs) (slice_index_or c.links.result.now place.link none) place.link place.part)
    c.as_mut_slice.ensures.value c.agree_on.ensures.agree))
