-- What device lines opened.
use Rattle.std.specs.Prelude.{◌≡◌, ℕ, List, [], ◌∷◌, length, Some, slice_get}
use Rattle.std.specs.Arc.{arc_value}
use Rattle.std.specs.List.{flat_map}
use Rattle.lr_device.specs.Held as device
use Rattle.lr_actors.specs.declared.place.DevicePlace.{DevicePlace}
use Rattle.lr_script.specs.Seen.{SetupSeen, Host, Root, Image, Device}
use Rattle.lr_report.specs.declared.run.OpenDevice.{OpenDevice}

-- the image of a `device` line
abbrev pub image_opened : SetupSeen → List (List ℕ)
image_opened (Host name cap) = []
image_opened (Root salt) = []
image_opened (Image name tenant len body) = []
image_opened (Device name host image tenant) = image ∷ []

-- the images of the devices, in the order of their lines
unfoldable pub images_opened : List (ℕ × SetupSeen) → List (List ℕ)
images_opened setup = flat_map (λ (line : ℕ × SetupSeen). image_opened line.1) setup

-- the image, the bytes of the device, and its manifest
pub record IsOpenedAs (name : List ℕ) (d : device.Seen) (place : DevicePlace) (o : OpenDevice) : Type 0 where
  pub image : o.image ≡ name
  pub length : o.length ≡ d.capacity
  pub manifest : arc_value o.manifest ≡ arc_value place.manifest

-- .. at the place of each
pub record AreOpened (images : List (List ℕ)) (devices : List device.Seen) (places : List DevicePlace) (opened : List OpenDevice) : Type 0 where
  pub many : length opened ≡ length images
  pub each : (i : ℕ) (o : OpenDevice) → slice_get opened i ≡ Some o → (image : List ℕ) × (d : device.Seen) × (place : DevicePlace)
      × (slice_get images i ≡ Some image) × (slice_get devices i ≡ Some d) × (slice_get places i ≡ Some place) × IsOpenedAs image d place o
