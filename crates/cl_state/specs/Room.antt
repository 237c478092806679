-- What contracts see of a running rank.
use Rattle.cl_state.specs.Rank.{Rank}
use Rattle.cl_state.specs.declared.state.RankState.{RankState}

abbrev pub rank_of : RankState → Rank
rank_of s =
    record {
      site = s.site;
      memory = s.memory;
      harts = s.harts.items;
      requests = s.requests;
      phases = s.phases;
      out = s.out.items;
      clock = s.clock;
    }
