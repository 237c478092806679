-- A rank that can have a turn.
use Rattle.std.specs.Prelude.{◌<◌, List, vec_len}
use Rattle.part_channel.specs.Channels.{ChannelView}
use Rattle.cl_rank.specs.RankSides.{AreChannelsOf}
use Rattle.cl_rank.specs.Views.{view_of}
use Rattle.test_cluster.specs.declared.rank.Seat.{Seat}

-- the hart that goes is there, and the keys are of these channels
abbrev pub IsReady : List ChannelView → Seat → Type 0
IsReady channels seat =
    (seat.hart < vec_len seat.rank.state.harts)
    × AreChannelsOf seat.rank.state.site.version channels (view_of seat.rank).sides
