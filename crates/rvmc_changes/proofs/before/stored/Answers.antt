use Rattle.std.proofs.Common.{◌≡◌, ap, arith}
use Rattle.rv_hart.specs.Stores.{store_range}
use Rattle.rv_hart.specs.declared.stores.StoreRange.{StoreRange}
use Rattle.rvmc_changes.proofs.Stored.{stored_inside}
use Rattle.rvmc_changes.proofs.before.stored.Goals as goal

pub returns-clause-fits : goal.returns-clause-fits
returns-clause-fits c =
    let memory = c.args.rank.now.memory in
    let range = store_range c.args.hart.now memory in
    let address : c.store_range-stored.result.address ≡ range.address =
    ap (λ (r : StoreRange). r.address) c.store_range-stored.ensures in
    let count : c.store_range-stored.result.count ≡ range.count =
    ap (λ (r : StoreRange). r.count) c.store_range-stored.ensures in
    omega (
      arith,
      address,
      count,
      stored_inside c.args.hart.now memory,
      c.size-size.ensures.value,
      c.size-size.ensures.most,
    )
