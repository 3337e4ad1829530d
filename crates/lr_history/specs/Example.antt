-- A run that meets all premises: one device, on an empty image that an image line made, and an actor whose call is past its end.
use Rattle.std.specs.Prelude.{◌≡◌, [], ◌∷◌, length, find, Some, None}
use Rattle.lr_seal.specs.Made.{HaveDistinctDigests}
use Rattle.lr_device.specs.Machine.{history}
use Rattle.lr_history.specs.Run.{DeviceSeen, Run}
use Rattle.lr_history.specs.Strings.{strings_of, used_pieces}
use Rattle.lr_history.specs.Opened.{is_line_of, base_of}
use Rattle.lr_history.specs.Premises.{IsRun, IsSetUp, AreDeviceLogs, AreCacheLogs}
use Rattle.lr_history.specs.Claims.{AreApart}

pub record Worked : Type 0 where
  pub run : Run
  pub is_run : IsRun run
  pub logs : AreDeviceLogs run
  pub caches : AreCacheLogs run
  pub set_up : IsSetUp run
  pub digests : HaveDistinctDigests (strings_of run)
  pub apart : AreApart run
  pub device : DeviceSeen
  pub one : run.devices ≡ device ∷ []
  pub its_base : base_of run.opening run.images device.line ≡ Some []
  pub answered : length (history device.log) ≡ 1

-- .. and one whose device reads a chunk of an image that the store had. Its cache was filled by another caller.
pub record WorkedRead : Type 0 where
  pub run : Run
  pub is_run : IsRun run
  pub logs : AreDeviceLogs run
  pub set_up : IsSetUp run
  pub digests : HaveDistinctDigests (strings_of run)
  pub apart : AreApart run
  pub device : DeviceSeen
  pub one : run.devices ≡ device ∷ []
  pub no_line : find (is_line_of device.line) run.images ≡ None
  pub answered : length (history device.log) ≡ 1
  pub used : length (used_pieces device.log) ≡ 1
