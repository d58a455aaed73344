-- What a host keeps of the calls that ask it for a device.
use Rattle.std.specs.Prelude.{◌≡◌, List, [], ◌∷◌, ◌++◌, map, string_bytes}
use Rattle.std.specs.Option.{option_map}
use Rattle.image_hosts.specs.Stored.{Request}
use Rattle.image_hosts.specs.declared.asked.DeviceAsked.{DeviceAsked}

abbrev pub request_of : DeviceAsked → Request
request_of asked = record { image = string_bytes asked.image; redo = option_map string_bytes asked.redo; purpose = asked.purpose }

-- the list has one request more
abbrev pub AddsRequest : Request → (old new : List DeviceAsked) → Type 0
AddsRequest request old new = map request_of new ≡ map request_of old ++ request ∷ []
