-- What a hub's state stands for, and what a call makes of it.
use Rattle.std.specs.Prelude.{◌≡◌, List}
use Rattle.rv_image_types.specs.declared.images.Link.{Link}
use Rattle.mp_hub.specs.Hub.{HubView, Call, hub_after}

-- a hub's state stands for links and a list of calls
abbrev pub StandsFor : HubView → List Link → List Call → Type 0
StandsFor h links calls = h ≡ hub_after links calls
