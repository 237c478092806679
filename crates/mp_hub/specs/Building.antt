-- The board and the hub of lists of all that is known of a hub.
use Rattle.mp_match.specs.Board.{Board}
use Rattle.mp_hub.specs.declared.state.building.HubParts.{HubParts}
use Rattle.mp_hub.specs.Hub.{HubView}

abbrev pub board_in : HubParts → Board
board_in parts = record { lines = parts.lines.now; bodies = parts.bodies.now; compared = parts.compared }

abbrev pub hub_in : HubParts → HubView
hub_in parts =
    record { links = parts.links.now; board = board_in parts; claims = parts.claims.now; sides = parts.sides.now }
