use Rattle.std.proofs.Common.{inl, refl}
use Rattle.rvmc_tool.proofs.starting.join.Goals as goal

pub returns-in-Ok-clause-says : goal.returns-in-Ok-clause-says
returns-in-Ok-clause-says c =
    inl (record { joined = c.in-Ok.field-0; is = c.in-Ok.ensures.joined; text_is = refl; status_is = refl })
