-- entries of the setup, read off what a log keeps
use Rattle.std.proofs.Common.{◌≡◌, ℕ, ap}
use Rattle.std.specs.Arc.{arc_value}
use Rattle.std.specs.declared.sync.Arc.{Arc}
use Rattle.std.specs.declared.alloc.Global.{Global}
use Rattle.lr_manifest.specs.Manifest.{ManifestFields}
use Rattle.lr_depot.specs.declared.call.DepotNoted.{DepotNoted}
use Rattle.lr_depot.specs.declared.call.DepotTold.{DepotTold}
use Rattle.lr_depot.specs.declared.call.DepotTold.TheVariants as told
use Rattle.lr_depot.specs.declared.call.DepotReply.TheVariants.{Opened}
use Rattle.lr_depot.specs.Machine.{LogEntry, IsTold}
use Rattle.lr_setup.specs.Setup.{entry}

pub is_entry : (e : LogEntry) (call : DepotNoted) (reply : DepotTold) → e.caller ≡ 0 → e.call ≡ call → e.reply ≡ reply → e ≡ entry call reply
is_entry e call reply c d r = λ i. record { caller = c i; call = d i; reply = r i }

pub told_opened : (t : DepotTold) (lease : ℕ) (m : Arc ManifestFields Global) → IsTold (Opened lease m) t → (n : Arc ManifestFields Global) × (t ≡ told.Opened lease n) × (arc_value n ≡ arc_value m)
told_opened (told.Opened other n) lease m h = (n, ap (λ (k : ℕ). told.Opened k n) h.0, h.1)
told_opened t lease m h = absurd h
